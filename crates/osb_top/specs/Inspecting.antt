-- What the steps of `inspect` give.
use Rattle.std.specs.Prelude.{◌≡◌, ◌≢◌, ◌⊎◌, ℕ, List, Option, Result, Ok, Err, MatchResult, IfSome}
use Rattle.osb_base.specs.Shelves.{file_of}
use Rattle.osb_answers.specs.Exports.{HasRisen}
use Rattle.osb_ready.specs.declared.unbuilt.Unbuilt.{Unbuilt}
use Rattle.osb_ready.specs.declared.unbuilt.Unbuilt.TheVariants.{Absent, ReadFault, Refused, NoSuchExport, Source, Failed, NoMemory}
use Rattle.osb_top.specs.Seen.{ShelfSeen, SinkSeen}
use Rattle.osb_top.specs.Writing.{IsWritten}
use Rattle.osb_top.specs.Inspects.{inspect_due, inspect_out, inspect_status}

-- why there may be no text: as is due, or by a fault of the shelf, or for want of memory
abbrev pub MayBeUnbuilt : {A : Type 0} → ShelfSeen → Result A Unbuilt → Unbuilt → Type 0
MayBeUnbuilt shelf due Absent = due ≡ Err Absent
MayBeUnbuilt shelf due (Refused refusal) = due ≡ Err (Refused refusal)
MayBeUnbuilt shelf due (NoSuchExport name) = due ≡ Err (NoSuchExport name)
MayBeUnbuilt shelf due (Source answer) = due ≡ Err (Source answer)
MayBeUnbuilt shelf due (Failed pipeline stage fault) = due ≡ Err (Failed pipeline stage fault)
MayBeUnbuilt shelf due ReadFault = HasRisen shelf.faults
MayBeUnbuilt shelf due NoMemory = Unit {0}

-- a result by what was found under a name: what is due for it, or why there is nothing
pub record IsGivenFor (A : Type 0) (shelf : ShelfSeen) (name : List ℕ) (due : Option (List ℕ) → Result A Unbuilt) (result : Result A Unbuilt) : Type 0 where
  pub found : Option (List ℕ)
  pub read : IfSome shelf.files (λ files. found ≡ file_of files name)
  pub given : MatchResult result (λ value. due found ≡ Ok value) (MayBeUnbuilt shelf (due found))

-- the text of `inspect` that is due, or why there is none
abbrev pub IsInspection : ShelfSeen → List ℕ → Result (List ℕ) Unbuilt → Type 0
IsInspection shelf name result = IsGivenFor (List ℕ) shelf name inspect_due result

-- the text is written, or why there is none; for want of memory, nothing may be
abbrev pub WritesInspected : SinkSeen → Result (List ℕ) Unbuilt → ℕ → Type 0
WritesInspected sink text status =
    ((text ≢ Err NoMemory) × IsWritten sink (inspect_out text) (inspect_status text) status)
    ⊎ ((sink.now ≡ sink.before) × (status ≡ 7))
