-- What holds of whatever is given, step by step: of what a reader reads, and of the tree that an effect makes.
use Rattle.std.proofs.Common.{◌≡◌, Bool, true, false, cond, List, [], ◌∷◌, Option, Some, None, Result, Ok, Err, refl}
use Rattle.std.specs.Prelude.{IfOk}
use Rattle.std.specs.List.{AllByRecursion}
use Rattle.osb_tree.specs.Trees.{Listing}
use Rattle.osb_tree.specs.declared.faults.StageFault.{StageFault}
use Rattle.osb_stages.specs.Readers.{◌>>=◌}
use Rattle.osb_stages.specs.Rules.{Effect, and_then, in_order, unless}
use Rattle.osb_meanings.specs.Laws.{IsWithin}

-- ---- results

-- whatever is given is a value
pub any : {A E : Type 0} (r : Result A E) → IfOk r (λ _. Unit {0})
any (Ok a) = tt
any (Err e) = tt

pub given : {A E : Type 0} (P : A → Type 0) (r : Result A E) (a : A) → IfOk r P → r ≡ Ok a → P a
given P r a holds e = rw e at holds

-- what comes next
pub gives-next : {A B E : Type 0} (P : A → Type 0) (Q : B → Type 0) (r : Result A E) (next : A → Result B E) → IfOk r P → ((a : A) → P a → IfOk (next a) Q) → IfOk (r >>= next) Q
gives-next P Q (Ok a) next holds later = later a holds
gives-next P Q (Err e) next holds later = tt

-- what comes next, whatever is given
pub gives-next-any : {A B E : Type 0} (Q : B → Type 0) (r : Result A E) (next : A → Result B E) → ((a : A) → IfOk (next a) Q) → IfOk (r >>= next) Q
gives-next-any Q (Ok a) next later = later a
gives-next-any Q (Err e) next later = tt

pub one_of : {A E : Type 0} (P : A → Type 0) (b : Bool) (x y : Result A E) → (b ≡ true → IfOk x P) → (b ≡ false → IfOk y P) → IfOk (cond b x y) P
one_of P true x y first second = first refl
one_of P false x y first second = second refl

-- ---- effects

-- a tree is made, or there is a fault
abbrev pub GivesATree : Effect → Type 0
GivesATree effect = IfOk effect IsWithin

pub gives-unless : (fault : Option StageFault) (effect : Effect) → (fault ≡ None → GivesATree effect) → GivesATree (unless fault effect)
gives-unless None effect gives = gives refl
gives-unless (Some fault) effect gives = tt

pub gives-and_then : (first : Effect) (next : Listing → Effect) → GivesATree first → ((listing : Listing) → first ≡ Ok listing → IsWithin listing → GivesATree (next listing)) → GivesATree (and_then next first)
gives-and_then (Ok listing) next is later = later listing refl is
gives-and_then (Err fault) next is later = tt

pub gives-in_order : {A : Type 0} (P : A → Type 0) (effect : A → Listing → Effect) → ((item : A) (listing : Listing) → P item → IsWithin listing → GivesATree (effect item listing))
    → (items : List A) (listing : Listing) → AllByRecursion P items → IsWithin listing → GivesATree (in_order effect items listing)
gives-in_order P effect each [] listing all is = is
gives-in_order P effect each (item ∷ items) listing all is =
    gives-and_then (effect item listing) (in_order effect items) (each item listing all.0 is) (λ now _ made. gives-in_order P effect each items now all.1 made)

-- ---- lists and options

pub all-any : {A : Type 0} (items : List A) → AllByRecursion (λ _. Unit {0}) items
all-any [] = tt
all-any (item ∷ items) = (tt, all-any items)
