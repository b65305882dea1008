-- What a reading of a value answers.
use Rattle.std.specs.Prelude.{◌≡◌, Option, Some, None, Result, Ok, Err}
use Rattle.clap.specs.declared.error.kind.ErrorKind.{ErrorKind}
use Rattle.clap.specs.declared.error.kind.ErrorKind.TheVariants.{OutOfMemory}
use Rattle.osb_words.specs.declared.reading.WordsFault.{WordsFault}
use Rattle.osb_words.specs.declared.reading.WordsFault.TheVariants.{Refused, NoMemory}

-- the value that is due; it is refused only where none is, and for want of memory neither is known
abbrev pub Reads : {A : Type 0} → Option A → Result A WordsFault → Type 0
Reads due (Ok value) = due ≡ Some value
Reads due (Err Refused) = due ≡ None
Reads due (Err NoMemory) = Unit {0}

-- the fault that an error of clap is
abbrev pub fault_by : ErrorKind → WordsFault
fault_by OutOfMemory = NoMemory
fault_by _ = Refused
