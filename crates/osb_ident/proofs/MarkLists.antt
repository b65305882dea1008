-- Marks, one after another.
use Rattle.std.proofs.Common.{◌≡◌, ℕ, zero, suc, ◌+◌, ◌<◌, ◌≤◌, ◌==◌, true, false, List, [], ◌∷◌, ◌++◌, length, min, take, get_or, Some, refl, sym, ap, arith}
use Rattle.std.specs.Prelude.{zip}
use Rattle.std.specs.List.{slice_get}
use Rattle.std.specs.Map.{keys_of}
use Rattle.std.proofs.lemmas.Bool.Decides.{nat_tests}
use Rattle.std.proofs.lemmas.List.{length-map, take_all}
use Rattle.osb_manifest.specs.declared.manifests.Manifest.{Manifest}
use Rattle.osb_ident.specs.Idents.{Id}
use Rattle.osb_ident.specs.Marks.{is_marked, marks_of, manifest_marks}
use Rattle.osb_ident.specs.declared.checkpoints.Checkpoint.{Checkpoint}
use Rattle.osb_ident.proofs.Places.{length-zip-keys, slice_get-zip, take_more_of}

not_last : (n : ℕ) → (1 == suc (suc n)) ≡ false
not_last n = grind (arith, nat_tests)

same_place : (i n : ℕ) → (suc (i + 1) == suc n) ≡ (i + 1 == n)
same_place i n = grind (arith, nat_tests)

pub marks_of-more : (checkpoints : List Checkpoint) (name : List ℕ) (ids : List Id) (i : ℕ) (id : Id)
    → i < length ids → id ≡ get_or ids i id
    → take (i + 1) (marks_of checkpoints name ids) ≡ take i (marks_of checkpoints name ids) ++ is_marked checkpoints name (i + 1 == length ids) id ∷ []
unfolding marks_of
marks_of-more checkpoints name [] i id within is = absurd (omega arith)
marks_of-more checkpoints name (first ∷ []) zero id within is = ap (λ (d : Id). is_marked checkpoints name true d ∷ []) (sym is)
marks_of-more checkpoints name (first ∷ []) (suc i) id within is = absurd (omega arith)
marks_of-more checkpoints name (first ∷ next ∷ ids) zero id within is = rw (not_last (length ids), is) refl
marks_of-more checkpoints name (first ∷ next ∷ ids) (suc i) id within is =
    let later : suc i + 1 ≡ suc (i + 1) = omega arith in
    rw (later, same_place i (length (next ∷ ids)), marks_of-more checkpoints name (next ∷ ids) i id (omega arith) is) refl

length-marks_of : (checkpoints : List Checkpoint) (name : List ℕ) (ids : List Id) → length (marks_of checkpoints name ids) ≡ length ids
unfolding marks_of
length-marks_of checkpoints name [] = refl
length-marks_of checkpoints name (id ∷ []) = refl
length-marks_of checkpoints name (id ∷ next ∷ ids) = let more = length-marks_of checkpoints name (next ∷ ids) in omega (arith, more)

pub marks_of-all : (checkpoints : List Checkpoint) (name : List ℕ) (ids : List Id) (i : ℕ) → length ids ≤ i
    → take i (marks_of checkpoints name ids) ≡ marks_of checkpoints name ids
marks_of-all checkpoints name ids i past =
    let len = length-marks_of checkpoints name ids in
    take_all i (marks_of checkpoints name ids) (omega (arith, len))

-- ---- of a manifest

pub manifest_marks-more : (manifest : Manifest) (ids : List (List Id)) (checkpoints : List Checkpoint) (i : ℕ) (name : List ℕ) (own : List Id)
    → slice_get (keys_of manifest.pipelines) i ≡ Some name → slice_get ids i ≡ Some own
    → take (i + 1) (manifest_marks manifest ids checkpoints) ≡ take i (manifest_marks manifest ids checkpoints) ++ marks_of checkpoints name own ∷ []
unfolding manifest_marks
manifest_marks-more manifest ids checkpoints i name own here there =
    take_more_of (λ (p : List ℕ × List Id). marks_of checkpoints p.0 p.1) (zip (keys_of manifest.pipelines) ids) i (name, own)
    (slice_get-zip (keys_of manifest.pipelines) ids i name own here there)

pub manifest_marks-all : (manifest : Manifest) (ids : List (List Id)) (checkpoints : List Checkpoint) (i : ℕ) → min (length manifest.pipelines) (length ids) ≤ i
    → take i (manifest_marks manifest ids checkpoints) ≡ manifest_marks manifest ids checkpoints
unfolding manifest_marks
manifest_marks-all manifest ids checkpoints i past =
    let marked = length-map (zip (keys_of manifest.pipelines) ids) (λ (p : List ℕ × List Id). marks_of checkpoints p.0 p.1) in
    let len = length-zip-keys manifest.pipelines ids in
    take_all i _ (omega (arith, marked, len))
