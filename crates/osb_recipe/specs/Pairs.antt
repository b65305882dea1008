-- What two things that may be there make.
use Rattle.std.specs.Prelude.{Option, Some, None}

-- both, where both are there
abbrev pub both : {A B C : Type 0} → (A → B → C) → Option A → Option B → Option C
both f None second = None
both f (Some a) None = None
both f (Some a) (Some b) = Some (f a b)
