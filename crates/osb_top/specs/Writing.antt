-- A text that is written to the sink, and how a run ends with it.
use Rattle.std.specs.Prelude.{◌≡◌, ℕ, ◌⊎◌, List, ◌++◌, option_map}
use Rattle.osb_answers.specs.Exports.{HasRisen}
use Rattle.osb_top.specs.Seen.{SinkSeen}

-- where the sink tells, it took this text, and nothing else
abbrev pub Writes : SinkSeen → List ℕ → Type 0
Writes sink text = sink.now ≡ option_map (λ old. old ++ text) sink.before

-- it took a front of the text
pub record WritesFront (sink : SinkSeen) (text : List ℕ) : Type 0 where
  pub front : List ℕ
  pub rest : List ℕ
  pub together : front ++ rest ≡ text
  pub taken : Writes sink front

-- a fault of the sink ended the writing
abbrev pub IsSinkFault : SinkSeen → List ℕ → ℕ → Type 0
IsSinkFault sink text status = WritesFront sink text × (status ≡ 6) × HasRisen sink.faults

-- the text is written, with the usual status; or the sink failed
abbrev pub IsWritten : SinkSeen → List ℕ → ℕ → ℕ → Type 0
IsWritten sink text usual status = (Writes sink text × (status ≡ usual)) ⊎ IsSinkFault sink text status

-- the same; or there was want of memory before anything was written
abbrev pub Ends : SinkSeen → List ℕ → ℕ → ℕ → Type 0
Ends sink text usual status = IsWritten sink text usual status ⊎ ((sink.now ≡ sink.before) × (status ≡ 7))
