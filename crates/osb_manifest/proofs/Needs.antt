-- The turns of the loop that finds what exports need, from the last pipeline to the first.
use Rattle.std.proofs.Common.{◌≡◌, ℕ, zero, suc, ◌+◌, ◌<◌, Bool, true, false, ◌||◌, if◌then◌else◌, List, [], ◌∷◌, ◌++◌, length, take, drop, slice_get, slice_index_or, Some, refl, sym, ap, ap₂, ◌∙◌, subst, arith}
use Rattle.std.specs.Map.{keys_of, values_of}
use Rattle.std.proofs.lemmas.List.{append-nil, drop_all, take_all}
use Rattle.osb_manifest.specs.Needed.{needs_of, is_among, has_place, is_needed_by, needed_with, needed_from}
use Rattle.osb_manifest.specs.declared.manifests.Pipeline.{Pipeline}

abbrev Entry : Type 0
Entry = List ℕ × Pipeline

-- the pipelines from a place on are the one there and the others
from_place : (pipelines : List Entry) (i : ℕ) (name : List ℕ) → slice_get (keys_of pipelines) i ≡ Some name
    → (e : Entry) × (drop i pipelines ≡ e ∷ drop (i + 1) pipelines) × (e.0 ≡ name) × (slice_get (values_of pipelines) i ≡ Some e.1)
from_place [] i name h = cc
from_place (p ∷ pipelines) zero name h = (p, refl, cc, refl)
from_place (p ∷ pipelines) (suc i) name h =
    let r = from_place pipelines i name h in
    let next : suc i + 1 ≡ suc (i + 1) = omega arith in
    (r.0, r.1 ∙ ap (λ n. r.0 ∷ drop n (p ∷ pipelines)) (sym next), r.2, r.3)

or-comm : (a b : Bool) → (a || b) ≡ (b || a)
or-comm true true = refl
or-comm true false = refl
or-comm false true = refl
or-comm false false = refl

pub whole_again : (old new : List Bool) (n : ℕ) → length new ≡ length old → n ≡ length old → take n (new ++ drop (length new) old) ≡ new
whole_again old new n same is =
    ap (λ rest. take n (new ++ rest)) (drop_all (length new) old (omega arith)) ∙ ap (take n) (append-nil new) ∙ take_all n new (omega arith)

module _ (exports : List (List ℕ)) (pipelines : List Entry) where
  -- what the pipelines from a place on need
  abbrev pub later : ℕ → List (ℕ × Pipeline)
  later n = needed_from exports n (drop n pipelines)

  -- whether the pipeline at a place is needed, by the flags
  pub decided : (i n : ℕ) (name : List ℕ) (needed : Bool) (flags seen : List Bool) → i + 1 ≡ n → i < length flags → slice_get (keys_of pipelines) i ≡ Some name → seen ≡ flags
      → needed ≡ (is_among exports name || slice_index_or seen i false) → ((k : ℕ) → k < length flags → slice_index_or flags k false ≡ is_needed_by (later n) k)
      → (p : Pipeline) × (slice_get (values_of pipelines) i ≡ Some p) × (later i ≡ (if needed then (i, p) ∷ later n else later n))
  decided i n name needed flags seen next within there copy is flagged =
      let r = from_place pipelines i name there in
      let with_next : needed_with exports i r.0 (later (i + 1)) ≡ needed_with exports i r.0 (later n) = ap (λ m. needed_with exports i r.0 (later m)) next in
      let flag : slice_index_or seen i false ≡ is_needed_by (later n) i = ap (λ fs. slice_index_or fs i false) copy ∙ flagged i within in
      let test : (is_among exports r.0.0 || is_needed_by (later n) i) ≡ needed = ap₂ (λ a b. is_among exports a || b) r.2 (sym flag) ∙ sym is in
      (r.0.1, r.3, ap (needed_from exports i) r.1 ∙ with_next ∙ ap (λ b. if b then (i, r.0.1) ∷ later n else later n) test)

-- after a pipeline that is needed: the flags, and the places
pub flagged_turn : (old mid new : List Bool) (m i : ℕ) (p q : Pipeline) (after before : List (ℕ × Pipeline)) → mid ≡ old → length new ≡ length mid → m ≡ length old
    → ((k : ℕ) → k < length mid → slice_index_or new k false ≡ (slice_index_or mid k false || has_place (needs_of q) k)) → ((k : ℕ) → k < length old → slice_index_or old k false ≡ is_needed_by after k) → Some q ≡ Some p → before ≡ (i, p) ∷ after
    → (k : ℕ) → k < length (take m (new ++ drop (length new) old)) → slice_index_or (take m (new ++ drop (length new) old)) k false ≡ is_needed_by before k
flagged_turn old mid new m i p q after before copy same size set held one is k h =
    let whole : take m (new ++ drop (length new) old) ≡ new = whole_again old new m (same ∙ ap length copy) size in
    let within_new : k < length new = subst (λ (fs : List Bool). k < length fs) whole h in
    let within_mid : k < length mid = subst (λ (n : ℕ). k < n) same within_new in
    let within_old : k < length old = subst (λ (fs : List Bool). k < length fs) copy within_mid in
    let same_pipeline : q ≡ p = cc in
    ap (λ fs. slice_index_or fs k false) whole ∙ set k within_mid
    ∙ ap₂ (λ a b. a || has_place (needs_of b) k) (ap (λ fs. slice_index_or fs k false) copy ∙ held k within_old) same_pipeline
    ∙ or-comm (is_needed_by after k) (has_place (needs_of p) k) ∙ ap (λ ps. is_needed_by ps k) (sym is)
