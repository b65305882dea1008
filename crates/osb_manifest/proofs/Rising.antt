-- What is made of members by rising name rises.
use Rattle.std.proofs.Common.{◌≡◌, ℕ, List, Option, Some, None, Less}
use Rattle.std.specs.List.{AllByRecursion, cons_option}
use Rattle.std.specs.List.Sorted.{IsStrictlySortedBy}
use Rattle.std.specs.Map.{keys_of}
use Rattle.std.specs.Option.{IfSome}
use Rattle.serde_json.specs.Data.{Data, Members, no_members, member}
use Rattle.osb_manifest.specs.Manifests.{name_cmp, collected}
use Rattle.osb_manifest.proofs.Ordered.{entries_of, IsRising}

module _ {X : Type 0} (make : List ℕ → Data → Option (List ℕ × X)) (Gives : List ℕ → List ℕ → Type 0)
    (gives : (name : List ℕ) (value : Data) → IfSome (make name value) (λ made. Gives name made.0))
    (keeps : (first second a b : List ℕ) → Gives first a → Gives second b → name_cmp first second ≡ Less → name_cmp a b ≡ Less) where
  above_more : (first name a : List ℕ) (made : Option (List ℕ × X)) (rest : List (List ℕ × X)) → Gives first a → IfSome made (λ m. Gives name m.0) → name_cmp first name ≡ Less → AllByRecursion (λ other. name_cmp a other ≡ Less) (keys_of rest)
      → AllByRecursion (λ other. name_cmp a other ≡ Less) (keys_of (cons_option made rest))
  above_more first name a None rest g h less all = all
  above_more first name a (Some made) rest g h less all = (keeps first name a made.0 g h less, all)

  above : (first a : List ℕ) (members : Members) → Gives first a → AllByRecursion (λ other. name_cmp first other ≡ Less) (keys_of (entries_of members)) → AllByRecursion (λ other. name_cmp a other ≡ Less) (keys_of (collected make members))
  above first a no_members g h = tt
  above first a (member name value rest) g h = above_more first name a (make name value) (collected make rest) g (gives name value) h.0 (above first a rest g h.1)

  rising_more : (name : List ℕ) (members : Members) (made : Option (List ℕ × X)) → IfSome made (λ m. Gives name m.0) → AllByRecursion (λ other. name_cmp name other ≡ Less) (keys_of (entries_of members)) → IsStrictlySortedBy name_cmp (keys_of (collected make members))
      → IsStrictlySortedBy name_cmp (keys_of (cons_option made (collected make members)))
  unfolding IsStrictlySortedBy
  rising_more name others None g h rest = rest
  rising_more name others (Some made) g h rest = (above name made.0 others g h, rest)

  pub rising-collected : (members : Members) → IsRising members → IsStrictlySortedBy name_cmp (keys_of (collected make members))
  unfolding IsStrictlySortedBy
  rising-collected no_members h = tt
  rising-collected (member name value rest) h = rising_more name rest (make name value) (gives name value) h.0 (rising-collected rest h.1)
