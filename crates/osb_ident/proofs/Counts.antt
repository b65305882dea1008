-- How many identifiers there are.
use Rattle.std.proofs.Common.{◌≡◌, List, [], ◌∷◌, ◌++◌, length, map, Option, Some, refl, sym, ◌∙◌, arith, append_assoc, append-nil}
use Rattle.std.specs.Map.{values_of}
use Rattle.std.proofs.lemmas.List.{map-append}
use Rattle.sha2.specs.Sha256.{sha256}
use Rattle.osb_manifest.specs.declared.manifests.Manifest.{Manifest}
use Rattle.osb_manifest.specs.declared.manifests.Pipeline.{Pipeline}
use Rattle.osb_manifest.specs.declared.manifests.Stage.{Stage}
use Rattle.osb_ident.specs.Idents.{Id, stage_text, ids_from, ids_after, pipeline_ids, manifest_ids}

length-ids_from : (ids : List (List Id)) (build before : Option Id) (stages : List Stage) → length (ids_from ids build before stages) ≡ length stages
unfolding ids_from
length-ids_from ids build before [] = refl
length-ids_from ids build before (stage ∷ stages) = let more = length-ids_from ids build (Some (sha256 (stage_text ids build before stage))) stages in omega (arith, more)

map-length-ids_after : (ids : List (List Id)) (pipelines : List Pipeline)
    → map length (ids_after ids pipelines) ≡ map length ids ++ map (λ pipeline. length pipeline.stages) pipelines
unfolding ids_after
map-length-ids_after ids [] = sym (append-nil (map length ids))
map-length-ids_after ids (pipeline ∷ pipelines) =
    map-length-ids_after (ids ++ pipeline_ids ids pipeline ∷ []) pipelines
    ∙ rw (map-append length ids (pipeline_ids ids pipeline ∷ []), append_assoc, length-ids_from ids _ _ pipeline.stages) refl

pub map-length-manifest_ids : (manifest : Manifest)
    → map length (manifest_ids manifest) ≡ map (λ pipeline. length pipeline.stages) (values_of manifest.pipelines)
unfolding manifest_ids
map-length-manifest_ids manifest = map-length-ids_after [] (values_of manifest.pipelines)
