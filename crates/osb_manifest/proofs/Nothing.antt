-- Lists with nothing in them.
use Rattle.std.proofs.Common.{◌≡◌, Bool, true, false, List, [], ◌∷◌, ◌++◌, map, None, refl}
use Rattle.std.specs.List.{AllByRecursion, flat_map}
use Rattle.osb_shape.specs.Firsts.{first}
use Rattle.osb_manifest.specs.Walks.{when}
use Rattle.osb_manifest.specs.declared.manifests.Refusal.{Refusal}

pub none-from_first : {A : Type 0} (xs : List A) → first xs ≡ None → xs ≡ []
none-from_first [] e = refl
none-from_first (x ∷ xs) e = cc

pub nothing_left : {A : Type 0} (xs ys : List A) → xs ++ ys ≡ [] → xs ≡ []
nothing_left [] ys e = refl
nothing_left (x ∷ xs) ys e = cc

pub nothing_right : {A : Type 0} (xs ys : List A) → xs ++ ys ≡ [] → ys ≡ []
nothing_right [] ys e = e
nothing_right (x ∷ xs) ys e = cc

pub none-from_map : {A B : Type 0} (f : A → B) (xs : List A) → map f xs ≡ [] → xs ≡ []
none-from_map f [] e = refl
none-from_map f (x ∷ xs) e = cc

pub none_each : {A B : Type 0} (f : A → List B) (xs : List A) → flat_map f xs ≡ [] → AllByRecursion (λ x. f x ≡ []) xs
none_each f [] e = tt
none_each f (x ∷ xs) e = (nothing_left (f x) (flat_map f xs) e, none_each f xs (nothing_right (f x) (flat_map f xs) e))

pub not-from_when : (holds : Bool) (refusal : Refusal) → when holds refusal ≡ [] → holds ≡ false
not-from_when true refusal e = cc
not-from_when false refusal e = refl
