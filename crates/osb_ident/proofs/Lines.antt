-- Lines of `inspect`, one after another.
use Rattle.std.proofs.Common.{◌≡◌, ℕ, ◌+◌, ◌<◌, ◌≤◌, ◌==◌, true, false, List, [], ◌∷◌, ◌++◌, length, min, take, get_or, Some, refl, sym, ap, ◌∙◌, arith, append-nil, append_assoc, add-zero}
use Rattle.std.specs.Prelude.{flat_map, zip, codes}
use Rattle.std.specs.List.{slice_get}
use Rattle.std.specs.Map.{keys_of}
use Rattle.std.proofs.lemmas.Bool.{eqb-true}
use Rattle.std.proofs.lemmas.List.{length-take, take_all, take_more}
use Rattle.std.proofs.lemmas.List.Concat.{flat_map-append}
use Rattle.osb_manifest.specs.declared.manifests.Manifest.{Manifest}
use Rattle.osb_ident.specs.Idents.{Id}
use Rattle.osb_ident.specs.Marks.{stage_line, stage_lines, pipeline_lines, inspect_text}
use Rattle.osb_ident.proofs.Places.{length-zip-keys, slice_get-zip, take_more_at}

stage_lines-push : (name : List ℕ) (place : ℕ) (ids : List Id) (id : Id)
    → stage_lines name place (ids ++ id ∷ []) ≡ stage_lines name place ids ++ stage_line name (place + length ids) id
unfolding stage_lines
stage_lines-push name place [] id = rw (append-nil (stage_line name place id), add-zero) refl
stage_lines-push name place (first ∷ ids) id =
    let same : place + 1 + length ids ≡ place + length (first ∷ ids) = omega arith in
    rw (stage_lines-push name (place + 1) ids id, same) (sym (append_assoc (stage_line name place first) (stage_lines name (place + 1) ids) (stage_line name (place + length (first ∷ ids)) id)))

pub stage_lines-more : (name : List ℕ) (ids : List Id) (i : ℕ) (id : Id) (before now : List ℕ) → i < length ids → id ≡ get_or ids i id
    → before ≡ now ++ stage_lines name 0 (take i ids)
    → before ++ stage_line name i id ≡ now ++ stage_lines name 0 (take (i + 1) ids)
stage_lines-more name ids i id before now within is held =
    let more : take (i + 1) ids ≡ take i ids ++ id ∷ [] = take_more ids i id within ∙ ap (λ (d : Id). take i ids ++ d ∷ []) (sym is) in
    let len : 0 + length (take i ids) ≡ i = rw length-take (omega arith) in
    rw (more, held, stage_lines-push name 0 (take i ids) id, len) (append_assoc now (stage_lines name 0 (take i ids)) (stage_line name i id))

pub pipeline_lines-some : (name : List ℕ) (ids : List Id) → (length ids == 0) ≡ false → pipeline_lines name ids ≡ stage_lines name 0 ids
unfolding pipeline_lines
pipeline_lines-some name [] h = cc h
pipeline_lines-some name (id ∷ ids) h = refl

pub pipeline_lines-empty : (name : List ℕ) (ids : List Id) → (length ids == 0) ≡ true → pipeline_lines name ids ≡ name ++ codes " - null\n"
unfolding pipeline_lines
pipeline_lines-empty name [] h = refl
pipeline_lines-empty name (id ∷ ids) h = absurd (omega (arith, eqb-true (length (id ∷ ids)) 0 h))

-- ---- of a manifest

-- the lines of the first pipelines
abbrev pub lines_below : Manifest → List (List Id) → ℕ → List ℕ
lines_below manifest ids i = flat_map (λ p. pipeline_lines p.0 p.1) (take i (zip (keys_of manifest.pipelines) ids))

pub lines_below-more : (manifest : Manifest) (ids : List (List Id)) (i : ℕ) (name : List ℕ) (own : List Id)
    → slice_get (keys_of manifest.pipelines) i ≡ Some name → slice_get ids i ≡ Some own
    → lines_below manifest ids i ++ pipeline_lines name own ≡ lines_below manifest ids (i + 1)
lines_below-more manifest ids i name own here there =
    let pairs = zip (keys_of manifest.pipelines) ids in
    let more = take_more_at pairs i (name, own) (slice_get-zip (keys_of manifest.pipelines) ids i name own here there) in
    let lines : List ℕ × List Id → List ℕ = λ p. pipeline_lines p.0 p.1 in
    rw (more, flat_map-append lines (take i pairs) ((name, own) ∷ []), append-nil (pipeline_lines name own)) refl

pub lines_below-all : (manifest : Manifest) (ids : List (List Id)) (i : ℕ) → min (length manifest.pipelines) (length ids) ≤ i → lines_below manifest ids i ≡ inspect_text manifest ids
unfolding inspect_text
lines_below-all manifest ids i past =
    let len = length-zip-keys manifest.pipelines ids in
    ap (flat_map _) (take_all i (zip (keys_of manifest.pipelines) ids) (omega (arith, len)))
