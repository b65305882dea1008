-- For private clauses: what a reader of a piece answers.
use Rattle.std.specs.Prelude.{◌≡◌, Option, Some, None, Result, Ok, Err}
use Rattle.osb_store.specs.declared.steps.Stop.{Stop}
use Rattle.osb_store.specs.declared.steps.Stop.TheVariants.{Broken, Memory}

-- it gives what the bytes begin with, by how it is seen, and is broken where they begin with no such piece; memory aside
abbrev pub Gives : {X Y : Type 0} → (X → Y) → Result X Stop → Option Y → Type 0
Gives seen (Ok x) piece = piece ≡ Some (seen x)
Gives seen (Err Broken) piece = piece ≡ None
Gives seen (Err Memory) piece = Unit {0}
