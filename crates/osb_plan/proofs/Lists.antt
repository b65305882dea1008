-- What holds of each item of lists, and which places a list has.
use Rattle.std.proofs.Common.{◌≡◌, ℕ, Bool, true, false, true≢false, ◌||◌, eqb, List, [], ◌∷◌, ◌++◌, refl, sym, subst}
use Rattle.std.specs.List.{AllByRecursion, flat_map}
use Rattle.std.proofs.lemmas.Bool.Decides.{Decides-eqb}
use Rattle.osb_manifest.specs.Needed.{has_place}

module _ {X : Type 0} (P : X → Type 0) where
  pub all_left : (xs ys : List X) → AllByRecursion P (xs ++ ys) → AllByRecursion P xs
  all_left [] ys all = tt
  all_left (x ∷ xs) ys all = (all.0, all_left xs ys all.1)

  pub all_right : (xs ys : List X) → AllByRecursion P (xs ++ ys) → AllByRecursion P ys
  all_right [] ys all = all
  all_right (x ∷ xs) ys all = all_right xs ys all.1

  pub all_both : (xs ys : List X) → AllByRecursion P xs → AllByRecursion P ys → AllByRecursion P (xs ++ ys)
  all_both [] ys first second = second
  all_both (x ∷ xs) ys first second = (first.0, all_both xs ys first.1 second)

pub all_weaker : {X : Type 0} (P Q : X → Type 0) → ((x : X) → P x → Q x) → (xs : List X) → AllByRecursion P xs → AllByRecursion Q xs
all_weaker P Q weaker [] all = tt
all_weaker P Q weaker (x ∷ xs) all = (weaker x all.0, all_weaker P Q weaker xs all.1)

pub all_of_each : {X Y : Type 0} (P : Y → Type 0) (f : X → List Y) (xs : List X) → AllByRecursion P (flat_map f xs) → AllByRecursion (λ x. AllByRecursion P (f x)) xs
all_of_each P f [] all = tt
all_of_each P f (x ∷ xs) all = (all_left P (f x) (flat_map f xs) all, all_of_each P f xs (all_right P (f x) (flat_map f xs) all))

pub all_from_each : {X Y : Type 0} (P : Y → Type 0) (f : X → List Y) (xs : List X) → AllByRecursion (λ x. AllByRecursion P (f x)) xs → AllByRecursion P (flat_map f xs)
all_from_each P f [] all = tt
all_from_each P f (x ∷ xs) all = all_both P (f x) (flat_map f xs) all.0 (all_from_each P f xs all.1)

-- ---- places

pub or_left : (a b : Bool) → a ≡ true → (a || b) ≡ true
or_left true b e = refl
or_left false b e = absurd (true≢false (sym e))

pub or_right : (a b : Bool) → b ≡ true → (a || b) ≡ true
or_right true b e = refl
or_right false b e = e

pub all_places : (P : ℕ → Type 0) (places : List ℕ) → ((place : ℕ) → has_place places place ≡ true → P place) → AllByRecursion P places
all_places P [] each = tt
all_places P (first ∷ places) each =
    (each first (or_left (eqb first first) (has_place places first) ((Decides-eqb first first).1 refl)), all_places P places (λ place e. each place (or_right (eqb first place) (has_place places place) e)))

place_step : (P : ℕ → Type 0) (b : Bool) (first place : ℕ) (others : Bool) → (b ≡ true → first ≡ place) → P first → (others ≡ true → P place) → (b || others) ≡ true → P place
place_step P true first place others same here next e = subst P (same refl) here
place_step P false first place others same here next e = next e

pub of_place : (P : ℕ → Type 0) (places : List ℕ) (place : ℕ) → AllByRecursion P places → has_place places place ≡ true → P place
of_place P [] place all e = absurd (true≢false (sym e))
of_place P (first ∷ places) place all e = place_step P (eqb first place) first place (has_place places place) (Decides-eqb first place).0 all.0 (of_place P places place all.1) e
