-- What a sink has taken: bytes.
use Rattle.std.specs.Prelude.{ℕ, ◌-◌, ◌==◌, min, List, ◌++◌, length, take, Option, Some, None, Result, Ok, Err, if◌then◌else◌}
use Rattle.osb_base.specs.Calls.{Calls, is_to_fail, with_call, with_fault}

-- after a write the bytes are those before and the front of the piece that was taken
abbrev pub after_write : {E : Type 0} → Result ℕ E → List ℕ → List ℕ → List ℕ
after_write (Ok count) piece taken = taken ++ take count piece
after_write (Err _) piece taken = taken

-- ---- a sink in memory

-- what it took, how many bytes it takes in all, and how many of one piece
pub record SinkState : Type 0 where
  pub bytes : List ℕ
  pub room : ℕ
  pub most : Option ℕ
  pub calls : Calls

abbrev pub at_most : Option ℕ → ℕ → ℕ
at_most None n = n
at_most (Some most) n = min most n

-- how many bytes of a piece it takes next
abbrev pub space : SinkState → ℕ
space sink = at_most sink.most (sink.room - length sink.bytes)

-- a write is a fault where it is to fail, and where no byte fits
abbrev pub calls_after : SinkState → Calls
calls_after sink = if is_to_fail sink.calls then with_fault sink.calls else if space sink == 0 then with_fault sink.calls else with_call sink.calls
