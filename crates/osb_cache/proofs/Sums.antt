-- Sums over a list where the first element that passes a test leaves or changes.
use Rattle.std.proofs.Common.{◌≡◌, ℕ, ◌+◌, ◌<◌, ◌≤◌, Bool, true, false, cond, List, [], ◌∷◌, map, find, sum_by, count_by, Option, Some, None, refl, sym, ap, ◌∙◌, arith}
use Rattle.std.proofs.lemmas.Option.{none-some, same_Some}
use Rattle.std.proofs.lemmas.List.Sums.{sum_by-cons}
use Rattle.osb_cache.specs.Edits.{remove_first, update_first}

remove_step : {X : Type 0} → (g : X → ℕ) (b : Bool) (y x : X) (ys rest : List X) (o : Option X) → (o ≡ Some x → sum_by g rest + g x ≡ sum_by g ys) → cond b (Some y) o ≡ Some x → sum_by g (cond b ys (y ∷ rest)) + g x ≡ sum_by g (y ∷ ys)
remove_step g true y x ys rest o ih e =
    let same : g y ≡ g x = ap g (same_Some y x e) in
    omega (arith, sum_by-cons g y ys)
remove_step g false y x ys rest o ih e = omega (arith, ih e, sum_by-cons g y ys, sum_by-cons g y rest)

pub sum-remove_first : {X : Type 0} → (g : X → ℕ) (p : X → Bool) (xs : List X) (x : X) → find p xs ≡ Some x → sum_by g (remove_first p xs) + g x ≡ sum_by g xs
sum-remove_first g p [] x e = absurd (none-some x e)
sum-remove_first g p (y ∷ ys) x e = remove_step g (p y) y x ys (remove_first p ys) (find p ys) (sum-remove_first g p ys x) e

update_step : {X : Type 0} → (g : X → ℕ) (f : X → X) (b : Bool) (y x : X) (ys rest : List X) (o : Option X) → (o ≡ Some x → sum_by g rest + g x ≡ sum_by g ys + g (f x)) → cond b (Some y) o ≡ Some x → sum_by g (cond b (f y ∷ ys) (y ∷ rest)) + g x ≡ sum_by g (y ∷ ys) + g (f x)
update_step {X} g f true y x ys rest o ih e =
    let same : g y ≡ g x = ap g (same_Some y x e) in
    let changed : g (f y) ≡ g (f x) = ap (λ (z : X). g (f z)) (same_Some y x e) in
    omega (arith, sum_by-cons g y ys, sum_by-cons g (f y) ys)
update_step g f false y x ys rest o ih e = omega (arith, ih e, sum_by-cons g y ys, sum_by-cons g y rest)

pub sum-update_first : {X : Type 0} → (g : X → ℕ) (p : X → Bool) (f : X → X) (xs : List X) (x : X) → find p xs ≡ Some x → sum_by g (update_first p f xs) + g x ≡ sum_by g xs + g (f x)
sum-update_first g p f [] x e = absurd (none-some x e)
sum-update_first g p f (y ∷ ys) x e = update_step g f (p y) y x ys (update_first p f ys) (find p ys) (sum-update_first g p f ys x) e

same_step : {X : Type 0} → (g : X → ℕ) (f : X → X) (b : Bool) (y : X) (ys rest : List X) → (b ≡ true → g (f y) ≡ g y) → sum_by g rest ≡ sum_by g ys → sum_by g (cond b (f y ∷ ys) (y ∷ rest)) ≡ sum_by g (y ∷ ys)
same_step g f true y ys rest same ih = omega (arith, same refl, sum_by-cons g y ys, sum_by-cons g (f y) ys)
same_step g f false y ys rest same ih = omega (arith, ih, sum_by-cons g y ys, sum_by-cons g y rest)

-- a change that the sum does not see
pub sum-update_first_same : {X : Type 0} → (g : X → ℕ) (p : X → Bool) (f : X → X) → ((x : X) → p x ≡ true → g (f x) ≡ g x) → (xs : List X) → sum_by g (update_first p f xs) ≡ sum_by g xs
sum-update_first_same g p f same [] = refl
sum-update_first_same g p f same (y ∷ ys) =
    same_step g f (p y) y ys (update_first p f ys) (same y) (sum-update_first_same g p f same ys)

none_step : {X : Type 0} → (g : X → ℕ) (b : Bool) (y : X) (o : Option X) (n : ℕ) → (o ≡ None → n ≡ 0) → cond b (Some y) o ≡ None → cond b (g y) 0 + n ≡ 0
none_step g true y o n ih e = cc
none_step g false y o n ih e = omega (arith, ih e)

pub sum_none : {X : Type 0} → (g : X → ℕ) (p : X → Bool) (xs : List X) → find p xs ≡ None → sum_by (λ x. cond (p x) (g x) 0) xs ≡ 0
sum_none g p [] e = refl
sum_none {X} g p (y ∷ ys) e =
    let part : X → ℕ = λ x. cond (p x) (g x) 0 in
    sum_by-cons part y ys ∙ none_step g (p y) y (find p ys) (sum_by part ys) (sum_none g p ys) e

no_count_step : {X : Type 0} → (g : X → ℕ) (b : Bool) (y : X) (m n : ℕ) → (m ≡ 0 → n ≡ 0) → cond b 1 0 + m ≡ 0 → cond b (g y) 0 + n ≡ 0
no_count_step g true y m n ih e = absurd (omega (arith, e))
no_count_step g false y m n ih e = omega (arith, ih (omega (arith, e)))

pub sum_no_count : {X : Type 0} → (g : X → ℕ) (p : X → Bool) (xs : List X) → count_by p xs ≡ 0 → sum_by (λ x. cond (p x) (g x) 0) xs ≡ 0
sum_no_count g p [] e = refl
sum_no_count {X} g p (y ∷ ys) e =
    let part : X → ℕ = λ x. cond (p x) (g x) 0 in
    let one : X → ℕ = λ x. cond (p x) 1 0 in
    sum_by-cons part y ys ∙ no_count_step g (p y) y (count_by p ys) (sum_by part ys) (sum_no_count g p ys) (sym (sum_by-cons one y ys) ∙ e)

found_none_step : {X : Type 0} → (b : Bool) (y : X) (o : Option X) (m : ℕ) → (m ≡ 0 → o ≡ None) → cond b 1 0 + m ≡ 0 → cond b (Some y) o ≡ None
found_none_step true y o m ih e = absurd (omega (arith, e))
found_none_step false y o m ih e = ih (omega (arith, e))

pub find_no_count : {X : Type 0} → (p : X → Bool) (xs : List X) → count_by p xs ≡ 0 → find p xs ≡ None
find_no_count p [] e = refl
find_no_count {X} p (y ∷ ys) e =
    let one : X → ℕ = λ x. cond (p x) 1 0 in
    found_none_step (p y) y (find p ys) (count_by p ys) (find_no_count p ys) (sym (sum_by-cons one y ys) ∙ e)

pub found_or_none : {X : Type 0} → (o : Option X) (P : Type 0) → (o ≡ None → P) → ((x : X) → o ≡ Some x → P) → P
found_or_none None P none some = none refl
found_or_none (Some x) P none some = some x refl

pub found_by_sum : {X : Type 0} → (g : X → ℕ) (p : X → Bool) (xs : List X) → 0 < sum_by (λ x. cond (p x) (g x) 0) xs → (x : X) × (find p xs ≡ Some x)
found_by_sum {X} g p xs h =
    found_or_none (find p xs) ((x : X) × (find p xs ≡ Some x)) (λ e. absurd (omega (arith, h, sum_none g p xs e))) (λ x e. (x, e))

single_step : {X : Type 0} → (g : X → ℕ) (b : Bool) (y x : X) (o : Option X) (m n : ℕ) → (m ≡ 0 → n ≡ 0) → (m ≤ 1 → o ≡ Some x → n ≡ g x) → cond b 1 0 + m ≤ 1 → cond b (Some y) o ≡ Some x → cond b (g y) 0 + n ≡ g x
single_step g true y x o m n none ih few e =
    let same : g y ≡ g x = ap g (same_Some y x e) in
    omega (arith, none (omega (arith, few)))
single_step g false y x o m n none ih few e = omega (arith, ih (omega (arith, few)) e)

-- where one element at most passes
pub sum_single : {X : Type 0} → (g : X → ℕ) (p : X → Bool) (xs : List X) (x : X) → count_by p xs ≤ 1 → find p xs ≡ Some x → sum_by (λ y. cond (p y) (g y) 0) xs ≡ g x
sum_single g p [] x few e = absurd (none-some x e)
sum_single {X} g p (y ∷ ys) x few e =
    let part : X → ℕ = λ x. cond (p x) (g x) 0 in
    let one : X → ℕ = λ x. cond (p x) 1 0 in
    sum_by-cons part y ys ∙ single_step g (p y) y x (find p ys) (count_by p ys) (sum_by part ys) (sum_no_count g p ys) (sum_single g p ys x) (omega (arith, few, sum_by-cons one y ys)) e

pub sum_by-map : {X Y : Type 0} → (g : Y → ℕ) (f : X → Y) (xs : List X) → sum_by g (map f xs) ≡ sum_by (λ x. g (f x)) xs
sum_by-map g f [] = refl
sum_by-map {X} g f (x ∷ xs) =
    let both : X → ℕ = λ x. g (f x) in
    omega (arith, sum_by-cons g (f x) (map f xs), sum_by-cons both x xs, sum_by-map g f xs)
