-- Runs that end before their exports, with one line.
use Rattle.std.specs.Prelude.{◌≡◌, ℕ, List, ◌++◌, codes}
use Rattle.std.specs.Fmt.{decimal}
use Rattle.osb_store.specs.declared.refusals.StoreRefusal.{StoreRefusal}
use Rattle.osb_store.specs.declared.refusals.StoreRefusal.TheVariants as refusals
use Rattle.osb_top.specs.Seen.{SinkSeen, Seen}
use Rattle.osb_top.specs.Writing.{IsWritten}

pub data Stop : Type 0 where
  words_refused : Stop
  load_failed : Stop
  store_refused : StoreRefusal → Stop
  no_memory : Stop

abbrev pub stop_status : Stop → ℕ
stop_status words_refused = 2
stop_status load_failed = 3
stop_status (store_refused refusal) = 4
stop_status no_memory = 7

-- the number of a store's refusal, and of a wrong item its place
abbrev pub refusal_words : StoreRefusal → List ℕ
refusal_words refusals.Magic = codes "1"
refusal_words refusals.Truncated = codes "2"
refusal_words refusals.TrailingBytes = codes "3"
refusal_words refusals.Digest = codes "4"
refusal_words (refusals.Shape place) = codes "5 " ++ decimal place
refusal_words refusals.NoMemory = codes "want of memory"

abbrev pub stop_line : Stop → List ℕ
stop_line words_refused = codes "words refused\n"
stop_line load_failed = codes "store read fault\n"
stop_line (store_refused refusal) = codes "store refused " ++ (refusal_words refusal ++ codes "\n")
stop_line no_memory = codes "want of memory\n"

-- one line says why
abbrev pub IsStop : SinkSeen → Stop → ℕ → Type 0
IsStop sink stop status = IsWritten sink (stop_line stop) (stop_status stop) status

-- nothing is exported, the keeper holds what it held, and one line says why
pub record Stops (seen : Seen) (stop : Stop) (status : ℕ) : Type 0 where
  pub trees : seen.exporter.now ≡ seen.exporter.before
  pub held : seen.keeper.now ≡ seen.keeper.before
  pub output : IsStop seen.sink stop status
