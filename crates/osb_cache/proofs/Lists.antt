-- What stays of facts on each element where the first element that passes a test leaves or changes.
use Rattle.std.proofs.Common.{◌≡◌, suc, ◌+◌, Bool, true, false, cond, List, [], ◌∷◌, length, All, find, Option, Some, refl, sym, ap, subst, arith}
use Rattle.std.proofs.lemmas.Option.{none-some, same_Some}
use Rattle.std.proofs.lemmas.List.Elements.{All-cons, All-head, All-tail}
use Rattle.osb_cache.specs.Edits.{remove_first, update_first}

all_remove_step : {X : Type 0} → (P : X → Type 0) (b : Bool) (x : X) (xs rest : List X) → P x → All P xs → All P rest → All P (cond b xs (x ∷ rest))
all_remove_step P true x xs rest here all ih = all
all_remove_step P false x xs rest here all ih = All-cons P x rest here ih

pub All-remove_first : {X : Type 0} → (P : X → Type 0) (p : X → Bool) (xs : List X) → All P xs → All P (remove_first p xs)
All-remove_first P p [] all = all
All-remove_first P p (x ∷ xs) all =
    all_remove_step P (p x) x xs (remove_first p xs) (All-head P x xs all) (All-tail P x xs all) (All-remove_first P p xs (All-tail P x xs all))

all_update_step : {X : Type 0} → (P : X → Type 0) (f : X → X) (b : Bool) (x : X) (xs rest : List X) → (P x → P (f x)) → P x → All P xs → All P rest → All P (cond b (f x ∷ xs) (x ∷ rest))
all_update_step P f true x xs rest step here all ih = All-cons P (f x) xs (step here) all
all_update_step P f false x xs rest step here all ih = All-cons P x rest here ih

pub All-update_first : {X : Type 0} → (P : X → Type 0) (p : X → Bool) (f : X → X) → ((x : X) → P x → P (f x)) → (xs : List X) → All P xs → All P (update_first p f xs)
All-update_first P p f step [] all = all
All-update_first P p f step (x ∷ xs) all =
    all_update_step P f (p x) x xs (update_first p f xs) (step x) (All-head P x xs all) (All-tail P x xs all) (All-update_first P p f step xs (All-tail P x xs all))

all_found_step : {X : Type 0} → (P : X → Type 0) (b : Bool) (x y : X) (o : Option X) → P x → (o ≡ Some y → P y) → cond b (Some x) o ≡ Some y → P y
all_found_step P true x y o here ih e = subst P (same_Some x y e) here
all_found_step P false x y o here ih e = ih e

pub All-found : {X : Type 0} → (P : X → Type 0) (p : X → Bool) (xs : List X) (y : X) → find p xs ≡ Some y → All P xs → P y
All-found P p [] y e all = absurd (none-some y e)
All-found P p (x ∷ xs) y e all =
    all_found_step P (p x) x y (find p xs) (All-head P x xs all) (λ h. All-found P p xs y h (All-tail P x xs all)) e

changed_step : {X : Type 0} → (P : X → Type 0) (f : X → X) (b : Bool) (x y : X) (xs rest : List X) (o : Option X) → P (f y) → P x → All P xs → (o ≡ Some y → All P rest) → cond b (Some x) o ≡ Some y → All P (cond b (f x ∷ xs) (x ∷ rest))
changed_step {X} P f true x y xs rest o changed here all ih e =
    All-cons P (f x) xs (subst (λ (z : X). P (f z)) (sym (same_Some x y e)) changed) all
changed_step P f false x y xs rest o changed here all ih e = All-cons P x rest here (ih e)

-- where the changed element is known
pub All-changed : {X : Type 0} → (P : X → Type 0) (p : X → Bool) (f : X → X) (xs : List X) (y : X) → find p xs ≡ Some y → P (f y) → All P xs → All P (update_first p f xs)
All-changed P p f [] y e changed all = all
All-changed P p f (x ∷ xs) y e changed all =
    changed_step P f (p x) x y xs (update_first p f xs) (find p xs) changed (All-head P x xs all) (All-tail P x xs all)
    (λ h. All-changed P p f xs y h changed (All-tail P x xs all)) e

length_remove_step : {X : Type 0} → (b : Bool) (x y : X) (xs rest : List X) (o : Option X) → (o ≡ Some y → length rest + 1 ≡ length xs) → cond b (Some x) o ≡ Some y → length (cond b xs (x ∷ rest)) + 1 ≡ length (x ∷ xs)
length_remove_step true x y xs rest o ih e = omega arith
length_remove_step false x y xs rest o ih e = omega (arith, ih e)

pub length-remove_first : {X : Type 0} → (p : X → Bool) (xs : List X) (y : X) → find p xs ≡ Some y → length (remove_first p xs) + 1 ≡ length xs
length-remove_first p [] y e = absurd (none-some y e)
length-remove_first p (x ∷ xs) y e =
    length_remove_step (p x) x y xs (remove_first p xs) (find p xs) (length-remove_first p xs y) e

length_update_step : {X : Type 0} → (f : X → X) (b : Bool) (x : X) (xs rest : List X) → length rest ≡ length xs → length (cond b (f x ∷ xs) (x ∷ rest)) ≡ length (x ∷ xs)
length_update_step f true x xs rest ih = refl
length_update_step f false x xs rest ih = ap suc ih

pub length-update_first : {X : Type 0} → (p : X → Bool) (f : X → X) (xs : List X) → length (update_first p f xs) ≡ length xs
length-update_first p f [] = refl
length-update_first p f (x ∷ xs) =
    length_update_step f (p x) x xs (update_first p f xs) (length-update_first p f xs)
