-- An object in memory is told beforehand which of its calls fail. The first call has the number 1.
use Rattle.std.specs.Prelude.{◌≡◌, ◌↔◌, ℕ, Bool, IsTrue, ◌==◌, List, Result, Err, OnOk}
use Rattle.std.specs.List.{list_any}
use Rattle.osb_base.specs.Faults.{next_count}

pub record Calls : Type 0 where
  -- the numbers of the calls that are to fail
  pub failing : List ℕ
  pub made : ℕ
  pub faults : ℕ

abbrev pub no_calls : List ℕ → Calls
no_calls failing = record { failing = failing; made = 0; faults = 0 }

-- the next call is one of those that are to fail
abbrev pub is_to_fail : Calls → Bool
is_to_fail calls = list_any (λ number. number == next_count calls.made) calls.failing

-- after a call that is no fault
abbrev pub with_call : Calls → Calls
with_call calls = record { failing = calls.failing; made = next_count calls.made; faults = calls.faults }

-- after a call that is a fault
abbrev pub with_fault : Calls → Calls
with_fault calls = record { failing = calls.failing; made = next_count calls.made; faults = next_count calls.faults }

-- one call: it fails exactly where it is to fail; where it had no memory it doesn't count
pub record IsCall {T E : Type 0} (failed no_memory : E) (before now : Calls) (result : Result T E) : Type 0 where
  pub fails : result ≡ Err failed ↔ IsTrue (is_to_fail before)
  pub done : OnOk result (now ≡ with_call before)
  pub fault : result ≡ Err failed → now ≡ with_fault before
  pub unmade : result ≡ Err no_memory → now ≡ before
