-- The texts of inputs, and identifiers one after another.
use Rattle.std.proofs.Common.{◌≡◌, ℕ, ◌==◌, true, false, List, [], ◌∷◌, ◌++◌, length, get_or, take, ◌+◌, ◌<◌, ◌≤◌, Option, None, Some, refl, sym, ap, ◌∙◌, arith}
use Rattle.std.specs.List.{last_or, slice_get}
use Rattle.std.specs.Map.{values_of}
use Rattle.std.proofs.lemmas.Bool.{eqb-true}
use Rattle.std.proofs.lemmas.List.{length-map, take_all, take_more}
use Rattle.sha2.specs.Sha256.{sha256}
use Rattle.osb_manifest.specs.declared.manifests.Pipeline.{Pipeline}
use Rattle.osb_manifest.specs.declared.manifests.Stage.{Stage}
use Rattle.osb_manifest.specs.declared.manifests.Input.{Input}
use Rattle.osb_ident.specs.Idents.{Id, object_text, input_entries, inputs_text, stage_text, ids_from, ids_after, pipeline_ids}
use Rattle.osb_ident.proofs.Places.{take_more_at}

pub inputs_text-empty : (ids : List (List Id)) (inputs : List (List ℕ × Input)) → (length inputs == 0) ≡ true → inputs_text ids inputs ≡ []
unfolding inputs_text
inputs_text-empty ids [] h = refl
inputs_text-empty ids (input ∷ inputs) h = absurd (omega (arith, eqb-true (length (input ∷ inputs)) 0 h))

pub inputs_text-some : (ids : List (List Id)) (inputs : List (List ℕ × Input)) → (length inputs == 0) ≡ false
    → inputs_text ids inputs ≡ object_text (input_entries ids inputs)
unfolding inputs_text
inputs_text-some ids [] h = cc h
inputs_text-some ids (input ∷ inputs) h = refl

-- one more stage
pub ids_from-push : (ids : List (List Id)) (build before : Option Id) (stages : List Stage) (stage : Stage)
    → ids_from ids build before (stages ++ stage ∷ [])
    ≡ ids_from ids build before stages ++ sha256 (stage_text ids build (last_or before (ids_from ids build before stages)) stage) ∷ []
unfolding ids_from
ids_from-push ids build before [] stage = refl
ids_from-push ids build before (first ∷ stages) stage =
    let id : Id = sha256 (stage_text ids build before first) in
    ap (λ (own : List Id). id ∷ own) (ids_from-push ids build (Some id) stages stage)

pub ids_from-more : (ids : List (List Id)) (build : Option Id) (stages : List Stage) (i : ℕ) (stage : Stage) (own : List Id) (before : Option Id) (id : Id)
    → i < length stages → stage ≡ get_or stages i stage → own ≡ ids_from ids build None (take i stages)
    → before ≡ last_or None own → id ≡ sha256 (stage_text ids build before stage)
    → own ++ id ∷ [] ≡ ids_from ids build None (take (i + 1) stages)
ids_from-more ids build stages i stage own before id within is own_is before_is id_is =
    let e : take (i + 1) stages ≡ take i stages ++ stage ∷ [] = take_more stages i stage within ∙ ap (λ (s : Stage). take i stages ++ s ∷ []) (sym is) in
    rw (e, ids_from-push ids build None (take i stages) stage, id_is, before_is, own_is) refl

-- one more pipeline
pub ids_after-push : (ids : List (List Id)) (pipelines : List Pipeline) (pipeline : Pipeline)
    → ids_after ids (pipelines ++ pipeline ∷ []) ≡ ids_after ids pipelines ++ pipeline_ids (ids_after ids pipelines) pipeline ∷ []
unfolding ids_after
ids_after-push ids [] pipeline = refl
ids_after-push ids (first ∷ pipelines) pipeline = ids_after-push (ids ++ pipeline_ids ids first ∷ []) pipelines pipeline

pub ids_after-more : (pipelines : List Pipeline) (i : ℕ) (pipeline : Pipeline) (ids before : List (List Id)) (own : List Id)
    → slice_get pipelines i ≡ Some pipeline → ids ≡ ids_after [] (take i pipelines) → before ≡ ids → own ≡ pipeline_ids before pipeline
    → ids ++ own ∷ [] ≡ ids_after [] (take (i + 1) pipelines)
ids_after-more pipelines i pipeline ids before own found ids_is before_is own_is =
    rw (take_more_at pipelines i pipeline found, ids_after-push [] (take i pipelines) pipeline, own_is, before_is, ids_is) refl

pub ids_after-all : (pairs : List (List ℕ × Pipeline)) (i : ℕ) → length pairs ≤ i
    → ids_after [] (take i (values_of pairs)) ≡ ids_after [] (values_of pairs)
ids_after-all pairs i past =
    let len = length-map pairs (λ (p : List ℕ × Pipeline). p.1) in
    ap (ids_after []) (take_all i (values_of pairs) (omega (arith, len)))
