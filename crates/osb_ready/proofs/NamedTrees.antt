-- Trees of pipelines, and exports, one after another.
use Rattle.std.proofs.Common.{◌≡◌, ◌==◌, ℕ, ◌+◌, ◌<◌, ◌≤◌, List, [], ◌∷◌, ◌++◌, zero, suc, length, drop, get_or, slice_get, Option, Some, None, Result, Ok, Err, refl, sym, ap, ◌∙◌, append_assoc, add-one, drop-cons, arith}
use Rattle.std.proofs.lemmas.List.{append-nil}
use Rattle.std.specs.Option.{option_or, option_to_list}
use Rattle.std.specs.List.{cons_option}
use Rattle.std.specs.Map.{keys_of, lookup}
use Rattle.std.specs.Cmp.Lexicographic.{pointwise}
use Rattle.osb_tree.specs.Trees.{Listing}
use Rattle.osb_recipe.specs.declared.outcomes.Outcome.{Outcome}
use Rattle.osb_recipe.specs.Works.{tree_of}
use Rattle.osb_manifest.specs.Solo.{Built}
use Rattle.osb_manifest.specs.declared.manifests.Manifest.{Manifest}
use Rattle.osb_ready.specs.Trees.{ok_map, name_at, failure_of, first_failure, with_name, named_trees, with_export, exports_of}
use Rattle.osb_ready.specs.declared.exports.Export.{Export}
use Rattle.osb_ready.specs.declared.unbuilt.Unbuilt.{Unbuilt}
use Rattle.osb_ready.specs.declared.unbuilt.Unbuilt.TheVariants.{NoSuchExport}

-- the items from a place on are the one there and the others
drop_next : {A : Type 0} (xs : List A) (i : ℕ) (x : A) → i < length xs → x ≡ get_or xs i x → drop i xs ≡ x ∷ drop (i + 1) xs
drop_next xs i x h e =
    drop-cons xs i x h ∙ ap (λ head. head ∷ drop (suc i) xs) (sym e) ∙ ap (λ j. x ∷ drop j xs) (sym (add-one i))

past_end : {A : Type 0} (xs : List A) (i : ℕ) → length xs ≤ i → slice_get xs i ≡ None
past_end [] i h = refl
past_end (x ∷ xs) zero h = absurd (omega arith)
past_end (x ∷ xs) (suc i) h = past_end xs i (omega arith)

length-keys : {K V : Type 0} (entries : List (K × V)) → length (keys_of entries) ≡ length entries
length-keys [] = refl
length-keys (entry ∷ entries) = ap suc (length-keys entries)

pub no_name : {K V : Type 0} (entries : List (K × V)) (i : ℕ) → length entries ≤ i → slice_get (keys_of entries) i ≡ None
no_name entries i h = past_end (keys_of entries) i (omega (arith, length-keys entries))

abbrev done_well : {A : Type 0} → A → Result A Unbuilt
done_well x = Ok x

-- ---- trees

-- no failure and no tree where no pipeline is
pub unnamed : (name : Option (List ℕ)) (outcome : Outcome) (trees : List (List ℕ × Listing)) → name ≡ None → (failure_of name outcome ≡ None) × (trees ≡ trees ++ option_to_list (with_name name (tree_of outcome)))
unnamed name outcome trees e =
    (ap (λ n. failure_of n outcome) e, sym (ap (λ n. trees ++ option_to_list (with_name n (tree_of outcome))) e ∙ append-nil trees))

cons_to_list : {A : Type 0} (found : Option A) (rest : List A) → option_to_list found ++ rest ≡ cons_option found rest
cons_to_list None rest = refl
cons_to_list (Some x) rest = refl

module _ (manifest : Manifest) where
  -- an outcome with no failure, before others
  pub named_on : (place : ℕ) (outcome : Outcome) (rest all : Built) (old new : List (List ℕ × Listing)) → failure_of (name_at manifest place) outcome ≡ None → new ≡ old ++ option_to_list (with_name (name_at manifest place) (tree_of outcome))
      → first_failure manifest ((place, outcome) ∷ rest) ≡ first_failure manifest all → old ++ named_trees manifest ((place, outcome) ∷ rest) ≡ named_trees manifest all
      → (first_failure manifest rest ≡ first_failure manifest all) × (new ++ named_trees manifest rest ≡ named_trees manifest all)
  named_on place outcome rest all old new clear added failures trees =
      let found = with_name (name_at manifest place) (tree_of outcome) in (
        sym (ap (λ f. option_or f (first_failure manifest rest)) clear) ∙ failures,
        ap (λ ts. ts ++ named_trees manifest rest) added ∙ append_assoc old (option_to_list found) (named_trees manifest rest) ∙ ap (λ ts. old ++ ts) (cons_to_list found (named_trees manifest rest)) ∙ trees,
      )

  -- the first failure
  pub named_stop : (place : ℕ) (outcome : Outcome) (rest all : Built) (unbuilt : Unbuilt) → failure_of (name_at manifest place) outcome ≡ Some unbuilt → first_failure manifest ((place, outcome) ∷ rest) ≡ first_failure manifest all → first_failure manifest all ≡ Some unbuilt
  named_stop place outcome rest all unbuilt failed failures = sym failures ∙ ap (λ f. option_or f (first_failure manifest rest)) failed

-- ---- exports

pub export_lacks : (trees : List (List ℕ × Listing)) (names : List (List ℕ)) (i : ℕ) (name : List ℕ) (done : List Export) (whole : Result (List Export) Unbuilt) → i < length names → name ≡ get_or names i name → lookup (pointwise ◌==◌ name) trees ≡ None → ok_map (λ rest. done ++ rest) (exports_of trees (drop i names)) ≡ whole → Err (NoSuchExport name) ≡ whole
export_lacks trees names i name done whole within is absent before =
    sym (ap (λ left. ok_map (λ rest. done ++ rest) (exports_of trees left)) (drop_next names i name within is) ∙ ap (λ found. ok_map (λ rest. done ++ rest) (with_export name found (exports_of trees (drop (i + 1) names)))) absent) ∙ before

one_more : (done : List Export) (export : Export) (others : Result (List Export) Unbuilt) → ok_map (λ rest. (done ++ export ∷ []) ++ rest) others ≡ ok_map (λ rest. done ++ rest) (ok_map (λ exports. export ∷ exports) others)
one_more done export (Ok exports) = ap done_well (append_assoc done (export ∷ []) exports)
one_more done export (Err unbuilt) = refl

pub export_on : (trees : List (List ℕ × Listing)) (names : List (List ℕ)) (i : ℕ) (name : List ℕ) (tree : Listing) (done more : List Export) (whole : Result (List Export) Unbuilt) → i < length names → name ≡ get_or names i name → lookup (pointwise ◌==◌ name) trees ≡ Some tree → more ≡ done ++ record { name = name; tree = tree } ∷ [] → ok_map (λ rest. done ++ rest) (exports_of trees (drop i names)) ≡ whole → ok_map (λ rest. more ++ rest) (exports_of trees (drop (i + 1) names)) ≡ whole
export_on trees names i name tree done more whole within is found pushed before =
    ap (λ es. ok_map (λ rest. es ++ rest) (exports_of trees (drop (i + 1) names))) pushed
    ∙ one_more done (record { name = name; tree = tree }) (exports_of trees (drop (i + 1) names))
    ∙ sym (ap (λ left. ok_map (λ rest. done ++ rest) (exports_of trees left)) (drop_next names i name within is) ∙ ap (λ f. ok_map (λ rest. done ++ rest) (with_export name f (exports_of trees (drop (i + 1) names)))) found)
    ∙ before
