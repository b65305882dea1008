-- What lies beneath a path of a tree lies in a directory there.
use Rattle.std.proofs.Common.{◌≡◌, ℕ, ◌==◌, List, [], ◌∷◌, length, take, true, false, not, ◌||◌, Option, Some, None, MatchOption, zero, suc, refl, sym, ◌∙◌, ap, subst, ◌⊎◌, inl, inr, ⊎_elim, true≢false, arith, rules}
use Rattle.std.specs.Prelude.{IsSome}
use Rattle.std.specs.Option.{option_map_or}
use Rattle.std.specs.Cmp.Lexicographic.{pointwise, same_text}
use Rattle.std.proofs.lemmas.Bool.{and_parts, and_from, and_right, or_from, false_from_ne_true}
use Rattle.std.proofs.lemmas.List.{length-take-le}
use Rattle.osb_tree.specs.Paths.{Names, is_beneath}
use Rattle.osb_tree.specs.Nodes.{is_directory}
use Rattle.osb_tree.specs.Trees.{Listing, IsTree, is_directory_at, node_at, has_beneath}
use Rattle.osb_tree.specs.Laws.{IsLeastAbove, NoneIsAbove}
use Rattle.osb_tree.proofs.PathOrder.{is_beneath-no_longer}
use Rattle.osb_tree.proofs.NextPaths.{has_beneath-next_after, next_after-is_least_above}
use Rattle.osb_tree.proofs.Puts.{parent_is_a_directory}
use Rattle.osb_stages.specs.Laws.{OnlyDirectoriesAreTakenOver}
use Rattle.osb_stages.proofs.Ancestors.{directory-there}

-- the parent of what lies beneath a path is the path, or lies beneath it too
beneath-parent : (path : Names) (name : List ℕ) (names : Names) → is_beneath path (name ∷ names) ≡ true
    → (take (length names) (name ∷ names) ≡ path) ⊎ (is_beneath path (take (length names) (name ∷ names)) ≡ true)
beneath-parent [] name [] e = inl refl
beneath-parent [] name (next ∷ names) e = inr refl
beneath-parent (first ∷ path) name [] e =
    absurd (true≢false (sym (and_parts (pointwise ◌==◌ first name) (is_beneath path []) e).1 ∙ is_beneath-no_longer path [] (omega arith)))
beneath-parent (first ∷ path) name (next ∷ names) e =
    let parts = and_parts (pointwise ◌==◌ first name) (is_beneath path (next ∷ names)) e in
    let same = same_text first name (sym parts.0) in
    ⊎_elim
    (λ is. inl (ap (λ (n : List ℕ). n ∷ take (length names) (next ∷ names)) (sym same) ∙ ap (λ (ns : Names). first ∷ ns) is))
    (λ beneath. inr (and_from (pointwise ◌==◌ first name) (is_beneath path (take (length names) (next ∷ names))) parts.0 beneath))
    (beneath-parent path next names parts.1)

directory-above : (count : ℕ) (listing : Listing) (path q : Names) → length q ≡ count → IsTree listing → IsSome (node_at listing q) → is_beneath path q ≡ true → is_directory_at listing path ≡ true
directory-above count listing path [] long tree found e = absurd (true≢false (sym e ∙ is_beneath-no_longer path [] (omega arith)))
directory-above zero listing path (name ∷ names) long tree found e = absurd (omega (arith, long))
directory-above (suc count) listing path (name ∷ names) long tree found e =
    let parent = take (length names) (name ∷ names) in
    let there = parent_is_a_directory listing (name ∷ names) tree found in
    let shorter = length-take-le (length names) (name ∷ names) (omega arith) in
    ⊎_elim
    (λ same. subst (λ (p : Names). is_directory_at listing p ≡ true) same there)
    (λ beneath. directory-above count listing path parent (omega (arith, shorter, long)) tree (directory-there listing parent there).1 beneath)
    (beneath-parent path name names e)

has_beneath-no_directory : (listing : Listing) (path : Names) → IsTree listing → is_directory_at listing path ≡ false → has_beneath listing path ≡ false
has_beneath-no_directory listing path tree absent = has_beneath-next_after listing path tree.ordered ∙ by _ (next_after-is_least_above listing path tree)
  where
    by : (next : Option Names) → MatchOption next (NoneIsAbove listing path) (IsLeastAbove listing path) → option_map_or (is_beneath path) next false ≡ false
    by None h = refl
    by (Some q) h = false_from_ne_true _ (λ e. true≢false (sym (directory-above (length q) listing path q refl tree h.there e) ∙ absent))

not_root : (listing : Listing) (path : Names) → IsTree listing → is_directory_at listing path ≡ false → (length path == 0) ≡ false
not_root listing [] tree absent = absurd (true≢false (sym tree.rooted ∙ absent))
not_root listing (name ∷ names) tree absent = search rules

pub takes_over-no_directory : OnlyDirectoriesAreTakenOver
takes_over-no_directory listing path node tree absent =
    and_right (not (is_directory node)) (length path == 0 || has_beneath listing path) (or_from _ _ (not_root listing path tree absent) (has_beneath-no_directory listing path tree absent))
