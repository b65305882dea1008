-- What an exporter has done: a list of operations.
use Rattle.std.specs.Prelude.{List, [], ◌∷◌, ◌++◌, Result, Ok, Err}
use Rattle.osb_base.specs.declared.exporters.Op.{Op}
use Rattle.osb_base.specs.Calls.{Calls}

-- after an operation that was answered Ok the list has it at its end, and after another none
abbrev pub after_op : {E : Type 0} → Result (Unit {0}) E → Op → List Op → List Op
after_op (Ok _) op done = done ++ op ∷ []
after_op (Err _) op done = done

-- an exporter in memory
pub record ExporterState : Type 0 where
  pub ops : List Op
  pub calls : Calls
