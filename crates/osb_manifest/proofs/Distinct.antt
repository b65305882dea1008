-- Where no pipeline has the name of one before it, the names of all differ.
use Rattle.std.proofs.Common.{◌≡◌, ℕ, ◌+◌, false, List, [], ◌∷◌, ◌++◌, length, take, codes, Option, Some, None, option_map, refl, sym, ap, ◌∙◌, subst, append_assoc}
use Rattle.std.specs.Str.{bytes_eq}
use Rattle.std.specs.List.{IsDistinct, flat_map, filter_map, cons_option, list_any}
use Rattle.std.specs.Map.{keys_of}
use Rattle.std.proofs.lemmas.Cmp.{nat_list_eq_equiv}
use Rattle.std.proofs.lemmas.List.{append-nil, length_push}
use Rattle.std.proofs.lemmas.List.Concat.{flat_map-append}
use Rattle.std.proofs.lemmas.List.Elements.{filter_map-append}
use Rattle.std.proofs.lemmas.Map.Keys.{IsDistinct-push}
use Rattle.serde_json.specs.Data.{Data}
use Rattle.osb_shape.specs.Firsts.{first}
use Rattle.osb_shape.specs.Values.{there_is, list_at, members_at}
use Rattle.osb_shape.specs.Places.{place_text, pipeline_place}
use Rattle.osb_manifest.specs.Walks.{name_of, is_taken, in_order, by_name, pipeline_objects, source_objects, all_conditions, applies, everywhere, refusals_of}
use Rattle.osb_manifest.specs.Manifests.{made_pipeline}
use Rattle.osb_manifest.specs.declared.manifests.Pipeline.{Pipeline}
use Rattle.osb_manifest.specs.declared.manifests.Refusal.{Refusal}
use Rattle.osb_manifest.specs.declared.manifests.Refusal.TheVariants as refusals
use Rattle.osb_manifest.specs.declared.conditions.Condition.TheVariants as conditions
use Rattle.osb_manifest.proofs.Nothing.{none-from_first, nothing_left, nothing_right, none_each, not-from_when}

-- ---- names

-- the names of some pipelines, and one more
IsDistinct-more : (names : List (List ℕ)) (name : Option (List ℕ)) → IsDistinct bytes_eq names → there_is (λ found. list_any (bytes_eq found) names) name ≡ false → IsDistinct bytes_eq (names ++ cons_option name [])
IsDistinct-more names None distinct fresh = subst (IsDistinct bytes_eq) (sym (append-nil names)) distinct
IsDistinct-more names (Some name) distinct fresh = IsDistinct-push nat_list_eq_equiv names name distinct fresh

take-before : (done values : List Data) → take (length done) (done ++ values) ≡ done
take-before [] values = refl
take-before (value ∷ done) values = ap (λ more. value ∷ more) (take-before done values)

module _ (whole : Data) where
  abbrev pipelines : List Data
  pipelines = list_at (codes "pipelines") whole

  abbrev duplicates : ℕ → List Data → List Refusal
  duplicates i values = flat_map (applies whole conditions.Duplicate) (in_order pipeline_objects i values)

  -- the names of the pipelines up to a place, and then of the others
  names_differ : (done values : List Data) → done ++ values ≡ pipelines → IsDistinct bytes_eq (filter_map name_of done) → duplicates (length done) values ≡ [] → IsDistinct bytes_eq (filter_map name_of pipelines)
  names_differ done [] is distinct none = subst (λ ps. IsDistinct bytes_eq (filter_map name_of ps)) (sym (append-nil done) ∙ is) distinct
  names_differ done (value ∷ values) is distinct none =
      let i = length done in
      let split = flat_map-append (applies whole conditions.Duplicate) (pipeline_objects i value) (in_order pipeline_objects (i + 1) values) in
      let here : flat_map (applies whole conditions.Duplicate) (pipeline_objects i value) ≡ [] = nothing_left _ _ (sym split ∙ none) in
      let later : duplicates (i + 1) values ≡ [] = nothing_right _ _ (sym split ∙ none) in
      let single = not-from_when (there_is (is_taken pipelines i) (name_of value)) (refusals.DuplicatePipeline (place_text (pipeline_place i))) (nothing_left _ _ here) in
      let before : take i pipelines ≡ done = ap (take i) (sym is) ∙ take-before done (value ∷ values) in
      let fresh : there_is (λ found. list_any (bytes_eq found) (filter_map name_of done)) (name_of value) ≡ false = ap (λ ps. there_is (λ found. list_any (bytes_eq found) (filter_map name_of ps)) (name_of value)) (sym before) ∙ single in
      names_differ (done ++ value ∷ []) values (append_assoc done (value ∷ []) values ∙ is)
      (subst (IsDistinct bytes_eq) (sym (filter_map-append name_of done (value ∷ []))) (IsDistinct-more (filter_map name_of done) (name_of value) distinct fresh))
      (ap (λ n. duplicates n values) (length_push done value) ∙ later)

  pub names_differ_where_right : refusals_of whole ≡ [] → IsDistinct bytes_eq (filter_map name_of pipelines)
  unfolding everywhere IsDistinct
  names_differ_where_right e =
      let sources = by_name source_objects (members_at (codes "sources") whole) in
      let split = flat_map-append (applies whole conditions.Duplicate) (in_order pipeline_objects 0 pipelines) sources in
      names_differ [] pipelines refl tt (nothing_left (duplicates 0 pipelines) (flat_map (applies whole conditions.Duplicate) sources) (sym split ∙ (none_each (everywhere whole) all_conditions e).1.1.1.1.1.0))

keys_of-cons_option : (name : Option (List ℕ)) (f : List ℕ → Pipeline) (rest : List (List ℕ × Pipeline)) (names : List (List ℕ)) → keys_of rest ≡ names → keys_of (cons_option (option_map (λ n. (n, f n)) name) rest) ≡ cons_option name names
keys_of-cons_option None f rest names e = e
keys_of-cons_option (Some name) f rest names e = ap (λ more. name ∷ more) e

-- the names of the pipelines that values stand for
pub keys_of-made : (all values : List Data) → keys_of (filter_map (made_pipeline all) values) ≡ filter_map name_of values
keys_of-made all [] = refl
keys_of-made all (value ∷ values) = keys_of-cons_option (name_of value) _ (filter_map (made_pipeline all) values) (filter_map name_of values) (keys_of-made all values)

pub IsDistinct-made : (whole : Data) → first (refusals_of whole) ≡ None → IsDistinct bytes_eq (keys_of (filter_map (made_pipeline (list_at (codes "pipelines") whole)) (list_at (codes "pipelines") whole)))
IsDistinct-made whole e = subst (IsDistinct bytes_eq) (sym (keys_of-made (list_at (codes "pipelines") whole) (list_at (codes "pipelines") whole))) (names_differ_where_right whole (none-from_first (refusals_of whole) e))
