-- What a fetcher holds: items by their digests. One that is gone holds nothing.
use Rattle.std.specs.Prelude.{◌≡◌, ◌≢◌, ℕ, ◌≤◌, Bool, IsTrue, List, length, Option, Some, None, option_map, Result, Ok, Err, IfOk, IfSome}
use Rattle.osb_base.specs.Calls.{Calls}
use Rattle.osb_base.specs.Faults.{HasCause}
use Rattle.osb_base.specs.Shelves.{Files, file_of, cut}
use Rattle.osb_base.specs.declared.faults.ReadStop.{ReadStop}
use Rattle.osb_base.specs.declared.faults.ReadStop.TheVariants.{Failed, NoMemory}
use Rattle.osb_base.specs.declared.fetchers.Fetched.{Fetched}
use Rattle.osb_base.specs.declared.fetchers.Fetched.TheVariants.{Bytes, Absent, Gone}

-- what is seen of a fetcher: whether it is gone, the items by digest that it holds, where it tells, and its count of
-- faults
pub record FetcherState : Type 0 where
  pub is_gone : Bool
  pub told : Option Files
  pub faults : ℕ

-- what is given of the item of a digest is what these items have
abbrev pub IsGiven : Files → List ℕ → Fetched → Type 0
IsGiven items digest (Bytes bytes) = option_map cut (file_of items digest) ≡ Some bytes
IsGiven items digest Absent = file_of items digest ≡ None
IsGiven items digest Gone = Unit {0}

-- no item is given longer than a shelf gives a file
abbrev pub IsShort : Fetched → Type 0
IsShort (Bytes bytes) = length bytes ≤ 16777217
IsShort Absent = Unit {0}
IsShort Gone = Unit {0}

-- one call
pub record IsFetch (digest : List ℕ) (before now : FetcherState) (result : Result Fetched ReadStop) : Type 0 where
  -- neither whether it is gone nor what it holds is changed
  pub gone_stays : now.is_gone ≡ before.is_gone
  pub told_stays : now.told ≡ before.told
  -- gone is answered exactly where it is gone, want of memory aside, and then the count stays
  pub gone : result ≡ Ok Gone → IsTrue before.is_gone
  pub of_gone : IsTrue before.is_gone → result ≢ Err NoMemory → result ≡ Ok Gone
  pub gone_count : IsTrue before.is_gone → now.faults ≡ before.faults
  -- where it tells, the item is the one that it holds
  pub given : IfOk result (λ fetched. IfSome before.told (λ items. IsGiven items digest fetched))
  pub short : IfOk result IsShort
  pub cause : HasCause Failed before.faults now.faults result
  pub unmade : result ≡ Err NoMemory → now.faults ≡ before.faults

-- a fetcher in memory
pub record MemFetcherState : Type 0 where
  pub is_gone : Bool
  pub held : Files
  pub calls : Calls

abbrev pub seen_of_mem : MemFetcherState → FetcherState
seen_of_mem fetcher = record { is_gone = fetcher.is_gone; told = Some fetcher.held; faults = fetcher.calls.faults }

-- one that never fails
pub record SureFetcherState : Type 0 where
  pub is_gone : Bool
  pub held : Files

abbrev pub seen_of_sure : SureFetcherState → FetcherState
seen_of_sure fetcher = record { is_gone = fetcher.is_gone; told = Some fetcher.held; faults = 0 }
