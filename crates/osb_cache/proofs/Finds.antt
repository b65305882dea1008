-- What is found in a list after a change.
use Rattle.std.proofs.Common.{◌≡◌, ◌==◌, ℕ, ◌+◌, ◌-◌, ◌≤◌, Bool, true, false, ◌||◌, ◌&&◌, cond, List, [], ◌∷◌, ◌++◌, find, count_by, Option, Some, None, refl, sym, ap, subst, ◌∙◌, arith}
use Rattle.std.specs.Option.{option_map_or}
use Rattle.std.proofs.lemmas.Bool.{false≢true, and_parts, false_from_ne_true, eqb-true, cond-false}
use Rattle.std.proofs.lemmas.Option.{none-some, same_Some}
use Rattle.std.proofs.lemmas.List.Sums.{sum_by-cons}
use Rattle.osb_cache.specs.Edits.{remove_first, update_first}
use Rattle.osb_cache.specs.Caches.{Line, Draft, is_draft, drafts_key, is_pinned, evict}
use Rattle.osb_cache.proofs.Sums.{find_no_count}

module _ {X : Type 0} (p q : X → Bool) where
  remove_step : (b c : Bool) (x : X) (xs rest : List X) → p x ≡ b → q x ≡ c → (b ≡ true → c ≡ false) → find q rest ≡ find q xs → find q (cond b xs (x ∷ rest)) ≡ cond c (Some x) (find q xs)
  remove_step true true x xs rest here there apart ih = absurd (false≢true (sym (apart refl)))
  remove_step true false x xs rest here there apart ih = refl
  remove_step false c x xs rest here there apart ih =
      ap (λ (b : Bool). cond b (Some x) (find q rest)) there ∙ ap (λ (o : Option X). cond c (Some x) o) ih

  pub find-remove_other : ((x : X) → p x ≡ true → q x ≡ false) → (xs : List X) → find q (remove_first p xs) ≡ find q xs
  find-remove_other apart [] = refl
  find-remove_other apart (x ∷ xs) =
      remove_step (p x) (q x) x xs (remove_first p xs) refl refl (apart x) (find-remove_other apart xs)

  update_step : (f : X → X) (b c d : Bool) (x : X) (xs rest : List X) → q x ≡ c → q (f x) ≡ d → (b ≡ true → c ≡ false) → (b ≡ true → d ≡ false) → find q rest ≡ find q xs → find q (cond b (f x ∷ xs) (x ∷ rest)) ≡ cond c (Some x) (find q xs)
  update_step f true true d x xs rest here there apart still ih = absurd (false≢true (sym (apart refl)))
  update_step f true false d x xs rest here there apart still ih =
      cond-false (q (f x)) (Some (f x)) (find q xs) (there ∙ still refl)
  update_step f false c d x xs rest here there apart still ih =
      ap (λ (b : Bool). cond b (Some x) (find q rest)) here ∙ ap (λ (o : Option X). cond c (Some x) o) ih

  pub find-update_other : (f : X → X) → ((x : X) → p x ≡ true → q x ≡ false) → ((x : X) → p x ≡ true → q (f x) ≡ false) → (xs : List X) → find q (update_first p f xs) ≡ find q xs
  find-update_other f apart still [] = refl
  find-update_other f apart still (x ∷ xs) =
      update_step f (p x) (q x) (q (f x)) x xs (update_first p f xs) refl refl (apart x) (still x) (find-update_other f apart still xs)

module _ {X : Type 0} (p : X → Bool) where
  same_step : (f : X → X) (b : Bool) (x y : X) (xs rest : List X) → p x ≡ b → p (f x) ≡ p x → (find p xs ≡ Some y → find p rest ≡ Some (f y)) → cond b (Some x) (find p xs) ≡ Some y → find p (cond b (f x ∷ xs) (x ∷ rest)) ≡ Some (f y)
  same_step f true x y xs rest here still ih e =
      ap (λ (c : Bool). cond c (Some (f x)) (find p xs)) (still ∙ here) ∙ ap (λ (z : X). Some (f z)) (same_Some x y e)
  same_step f false x y xs rest here still ih e = cond-false (p x) (Some x) (find p rest) here ∙ ih e

  pub find-update_same : (f : X → X) → ((x : X) → p (f x) ≡ p x) → (xs : List X) (y : X) → find p xs ≡ Some y → find p (update_first p f xs) ≡ Some (f y)
  find-update_same f still [] y e = absurd (none-some y e)
  find-update_same f still (x ∷ xs) y e =
      same_step f (p x) x y xs (update_first p f xs) refl (still x) (find-update_same f still xs y) e

  append_step : (b : Bool) (x y : X) (o r : Option X) → (o ≡ None → r ≡ Some y) → cond b (Some x) o ≡ None → cond b (Some x) r ≡ Some y
  append_step true x y o r ih e = absurd (none-some x (sym e))
  append_step false x y o r ih e = ih e

  pub find-append_new : (xs : List X) (y : X) → p y ≡ true → find p xs ≡ None → find p (xs ++ y ∷ []) ≡ Some y
  find-append_new [] y here e = ap (λ (b : Bool). cond b (Some y) None) here
  find-append_new (x ∷ xs) y here e =
      append_step (p x) x y (find p xs) (find p (xs ++ y ∷ [])) (find-append_new xs y here) e

  pub find-append_other : (xs : List X) (y : X) → p y ≡ false → find p (xs ++ y ∷ []) ≡ find p xs
  find-append_other [] y out = ap (λ (b : Bool). cond b (Some y) None) out
  find-append_other (x ∷ xs) y out = ap (λ (o : Option X). cond (p x) (Some x) o) (find-append_other xs y out)

  found_step : (b : Bool) (x y : X) (o r : Option X) → (o ≡ Some y → r ≡ Some y) → cond b (Some x) o ≡ Some y → cond b (Some x) r ≡ Some y
  found_step true x y o r ih e = e
  found_step false x y o r ih e = ih e

  pub find-append_found : (xs ys : List X) (y : X) → find p xs ≡ Some y → find p (xs ++ ys) ≡ Some y
  find-append_found [] ys y e = absurd (none-some y e)
  find-append_found (x ∷ xs) ys y e =
      found_step (p x) x y (find p xs) (find p (xs ++ ys)) (find-append_found xs ys y) e

  gone_step : (b : Bool) (x : X) (xs rest : List X) → p x ≡ b → cond b 1 0 + count_by p xs ≤ 1 → (count_by p xs ≤ 1 → find p rest ≡ None) → find p (cond b xs (x ∷ rest)) ≡ None
  gone_step true x xs rest here few ih = find_no_count p xs (omega (arith, few))
  gone_step false x xs rest here few ih = cond-false (p x) (Some x) (find p rest) here ∙ ih (omega (arith, few))

  pub find-remove_same : (xs : List X) → count_by p xs ≤ 1 → find p (remove_first p xs) ≡ None
  find-remove_same [] few = refl
  find-remove_same (x ∷ xs) few =
      let one : X → ℕ = λ y. cond (p y) 1 0 in
      gone_step (p x) x xs (remove_first p xs) refl (omega (arith, few, sum_by-cons one x xs)) (find-remove_same xs)

-- what is read of the element that is found, where a change does not touch it
read_step : {X A : Type 0} → (q : X → Bool) (g : X → A) (d : A) (f : X → X) (b c : Bool) (x : X) (xs rest : List X) → q x ≡ c → q (f x) ≡ q x → g (f x) ≡ g x → option_map_or g (find q rest) d ≡ option_map_or g (find q xs) d → option_map_or g (find q (cond b (f x ∷ xs) (x ∷ rest))) d ≡ option_map_or g (cond c (Some x) (find q xs)) d
read_step {X} q g d f true true x xs rest here still same ih =
    ap (λ (k : Bool). option_map_or g (cond k (Some (f x)) (find q xs)) d) (still ∙ here) ∙ same
read_step {X} q g d f true false x xs rest here still same ih =
    ap (λ (k : Bool). option_map_or g (cond k (Some (f x)) (find q xs)) d) (still ∙ here)
read_step {X} q g d f false true x xs rest here still same ih =
    ap (λ (k : Bool). option_map_or g (cond k (Some x) (find q rest)) d) here
read_step {X} q g d f false false x xs rest here still same ih =
    ap (λ (k : Bool). option_map_or g (cond k (Some x) (find q rest)) d) here ∙ ih

pub read-update_first : {X A : Type 0} → (p q : X → Bool) (g : X → A) (d : A) (f : X → X) → ((x : X) → q (f x) ≡ q x) → ((x : X) → g (f x) ≡ g x) → (xs : List X) → option_map_or g (find q (update_first p f xs)) d ≡ option_map_or g (find q xs) d
read-update_first p q g d f still same [] = refl
read-update_first p q g d f still same (x ∷ xs) =
    read_step q g d f (p x) (q x) x xs (update_first p f xs) refl (still x) (same x) (read-update_first p q g d f still same xs)

evict_step : {C : Type 0} → (q : Line C → Bool) (b c : Bool) (line found : Line C) (lines stay rest : List (Line C)) → q line ≡ c → (c ≡ true → line ≡ found → b ≡ true) → (find q lines ≡ Some found → find q stay ≡ Some found) → (find q lines ≡ Some found → find q rest ≡ Some found) → cond c (Some line) (find q lines) ≡ Some found → find q (cond b (line ∷ stay) rest) ≡ Some found
evict_step {C} q true true line found lines stay rest here pinned s r e =
    ap (λ (k : Bool). cond k (Some line) (find q stay)) here ∙ e
evict_step {C} q true false line found lines stay rest here pinned s r e =
    ap (λ (k : Bool). cond k (Some line) (find q stay)) here ∙ s e
evict_step q false true line found lines stay rest here pinned s r e =
    absurd (false≢true (pinned refl (same_Some line found e)))
evict_step q false false line found lines stay rest here pinned s r e = r e

or_first : (a b : Bool) → a ≡ true → (a || b) ≡ true
or_first true b e = refl
or_first false b e = absurd (false≢true e)

-- a pinned entry is found after an eviction too
pub find-evict : {C : Type 0} → (q : Line C → Bool) (excess : ℕ) (lines : List (Line C)) (found : Line C) → is_pinned found ≡ true → find q lines ≡ Some found → find q (evict excess lines) ≡ Some found
find-evict q excess [] found pinned e = absurd (none-some found e)
find-evict {C} q excess (line ∷ lines) found pinned e =
    evict_step q (is_pinned line || excess == 0) (q line) line found lines (evict excess lines) (evict (excess - line.size) lines) refl
    (λ _ same. or_first (is_pinned line) (excess == 0) (subst (λ (l : Line C). is_pinned l ≡ true) (sym same) pinned))
    (find-evict q excess lines found pinned) (find-evict q (excess - line.size) lines found pinned) e

-- Drafts of two workers or keys are two.
pub drafts_differ : {C : Type 0} → (worker key other name : ℕ) → (worker ≡ other → key ≡ name → ⊥) → (draft : Draft C) → is_draft worker key draft ≡ true → is_draft other name draft ≡ false
drafts_differ worker key other name ne draft e =
    false_from_ne_true (is_draft other name draft)
    (λ h.
    let mine = and_parts (draft.worker == worker) (draft.key == key) e in
    let others = and_parts (draft.worker == other) (draft.key == name) h in
    ne (sym (eqb-true draft.worker worker mine.0) ∙ eqb-true draft.worker other others.0) (sym (eqb-true draft.key key mine.1) ∙ eqb-true draft.key name others.1))

below_step : (a b : Bool) (m n : ℕ) → m ≤ n → cond (a && b) 1 0 + m ≤ cond b 1 0 + n
below_step true true m n h = omega (arith, h)
below_step true false m n h = omega (arith, h)
below_step false true m n h = omega (arith, h)
below_step false false m n h = omega (arith, h)

pub drafts_within : {C : Type 0} → (worker key : ℕ) (drafts : List (Draft C)) → count_by (is_draft worker key) drafts ≤ count_by (drafts_key key) drafts
drafts_within worker key [] = omega arith
drafts_within {C} worker key (draft ∷ drafts) =
    let one : Draft C → ℕ = λ d. cond (is_draft worker key d) 1 0 in
    let keyed : Draft C → ℕ = λ d. cond (drafts_key key d) 1 0 in
    omega (arith, sum_by-cons one draft drafts, sum_by-cons keyed draft drafts, below_step (draft.worker == worker) (draft.key == key) (count_by (is_draft worker key) drafts) (count_by (drafts_key key) drafts) (drafts_within worker key drafts))
