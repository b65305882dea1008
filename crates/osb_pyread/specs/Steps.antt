-- For private clauses: what a reader gives, which is a value and the bytes behind it, and the smallest readers.
use Rattle.std.specs.Prelude.{◌≡◌, ℕ, zero, suc, ◌==◌, List, length, take, drop, Option, Some, None, Result, Ok, Err, if◌then◌else◌}
use Rattle.std.specs.Cmp.Lexicographic.{pointwise}
use Rattle.osb_pyread.specs.declared.faults.Stop.{Stop}
use Rattle.osb_pyread.specs.declared.faults.Stop.TheVariants.{Memory, Broken}

infixl 10 ◌>>=◌
abbrev pub ◌>>=◌ : {A B : Type 0} → Option A → (A → Option B) → Option B
(Some x) >>= f = f x
None >>= f = None

-- what is read, made into another value
abbrev pub made : {A B : Type 0} → (A → B) → Option (A × List ℕ) → Option (B × List ℕ)
made make read = read >>= λ x. Some (make x.0, x.1)

abbrev pub Fails : {Y : Type 0} → Stop → Option Y → Type 0
Fails Memory read = Unit {0}
Fails Broken read = read ≡ None

-- what a function returned, seen by view, is what reading gives, unless memory ran out
abbrev pub Gives : {X Y : Type 0} → (X → Y) → Result X Stop → Option Y → Type 0
Gives view (Ok x) read = read ≡ Some (view x)
Gives view (Err e) read = Fails e read

-- the bytes behind a word
unfoldable pub behind : List ℕ → List ℕ → Option (List ℕ)
behind word bytes = if pointwise ◌==◌ (take (length word) bytes) word then Some (drop (length word) bytes) else None

abbrev pub ends_at : {S : Type 0} → Option (List ℕ) → S → Option (S × List ℕ) → Option (S × List ℕ)
ends_at (Some rest) s more = Some (s, rest)
ends_at None s more = more

module _ {S X : Type 0} (close : List ℕ) (next : List ℕ → Option (X × List ℕ)) (add : S → X → S) where
  -- up to n parts, each added to what was read before, and the word that closes them
  unfoldable pub until : ℕ → S → List ℕ → Option (S × List ℕ)
  until zero s bytes = None
  until (suc n) s bytes = ends_at (behind close bytes) s (next bytes >>= λ x. until n (add s x.0) x.1)
