-- A chain's last key tells the chain.
use Rattle.std.proofs.Common.{◌≡◌, ℕ, List, [], ◌∷◌, Some, refl, sym, ap, ap₂, ◌∙◌}
use Rattle.std.specs.Prelude.{slice_get}
use Rattle.osb_tree.specs.declared.numbers.Key.{Key}
use Rattle.osb_recipe.specs.Recipes.{Origin}
use Rattle.osb_recipe.specs.Tables.{TableData, IsChainFrom, IsChain, last_of}
use Rattle.osb_recipe.specs.declared.references.TreeRef.{TreeRef}
use Rattle.osb_recipe.specs.declared.references.TreeRef.TheVariants.{Empty, Of}

-- ---- keys, the last first

turned : List Key → List Key → List Key
turned last [] = last
turned last (key ∷ keys) = turned (key ∷ last) keys

turned_twice : (last keys : List Key) → turned [] (turned last keys) ≡ turned keys last
unfolding turned
turned_twice last [] = refl
turned_twice last (key ∷ keys) = turned_twice (key ∷ last) keys

turned_back : (keys : List Key) → turned [] (turned [] keys) ≡ keys
unfolding turned
turned_back keys = turned_twice [] keys

head_of : List Key → TreeRef
head_of [] = Empty
head_of (key ∷ keys) = Of key

head_of-last : (key : Key) (last keys : List Key) → head_of (turned (key ∷ last) keys) ≡ last_of (key ∷ keys)
unfolding turned head_of
head_of-last key last [] = refl
head_of-last key last (next ∷ keys) = head_of-last next (key ∷ last) keys

head_of-turned : (keys : List Key) → head_of (turned [] keys) ≡ last_of keys
unfolding turned head_of
head_of-turned [] = refl
head_of-turned (key ∷ keys) = head_of-last key [] keys

-- ---- each over the one behind it

IsTurned : TableData → List Key → Type 0
IsTurned table [] = Unit {0}
IsTurned table (key ∷ keys) = ((recipe : Origin) × (slice_get table.recipes key.0 ≡ Some recipe) × (recipe.base ≡ head_of keys)) × IsTurned table keys

turned_chain : (table : TableData) (last keys : List Key) → IsChainFrom table (head_of last) keys → IsTurned table last → IsTurned table (turned last keys)
unfolding turned head_of IsTurned
turned_chain table last [] chain held = held
turned_chain table last (key ∷ keys) chain held = turned_chain table (key ∷ last) keys chain.1 (chain.0, held)

same_base : (table : TableData) (i j : ℕ) (a b : Origin) → i ≡ j → slice_get table.recipes i ≡ Some a → slice_get table.recipes j ≡ Some b → a ≡ b
same_base table i j a b is first second = cc

same_turned : (table : TableData) (a b : List Key) → IsTurned table a → IsTurned table b → head_of a ≡ head_of b → a ≡ b
unfolding head_of IsTurned
same_turned table [] [] first second heads = refl
same_turned table [] (key ∷ b) first second heads = absurd (cc)
same_turned table (key ∷ a) [] first second heads = absurd (cc)
same_turned table (key ∷ a) (other ∷ b) first second heads =
    let keys : key ≡ other = cc in
    let recipes : first.0.0 ≡ second.0.0 = same_base table key.0 other.0 first.0.0 second.0.0 (ap (λ (k : Key). k.0) keys) first.0.1 second.0.1 in
    let bases : head_of a ≡ head_of b = sym first.0.2 ∙ ap (λ (recipe : Origin). recipe.base) recipes ∙ second.0.2 in
    ap₂ (λ (k : Key) (ks : List Key). k ∷ ks) keys (same_turned table a b first.1 second.1 bases)

pub chain_by_last : (table : TableData) (a b : List Key) → IsChain table a → IsChain table b → last_of a ≡ last_of b → a ≡ b
unfolding head_of IsTurned
chain_by_last table a b first second lasts =
    let heads : head_of (turned [] a) ≡ head_of (turned [] b) = head_of-turned a ∙ lasts ∙ sym (head_of-turned b) in
    let same : turned [] a ≡ turned [] b = same_turned table (turned [] a) (turned [] b) (turned_chain table [] a first tt) (turned_chain table [] b second tt) heads in
    sym (turned_back a) ∙ ap (turned []) same ∙ turned_back b
