-- Logs whose numbers have at most 64 bits, as those of each log that a program holds.
use Rattle.std.specs.Prelude.{◌<◌, ◌^◌, List, All}
use Rattle.osb_job.specs.declared.entries.Event.{Event}
use Rattle.osb_job.specs.declared.entries.Event.TheVariants as events
use Rattle.osb_job.specs.declared.entries.Entry.{Entry}
use Rattle.osb_state.specs.declared.opened.Opened.{Opened}

abbrev pub EventFits : Event → Type 0
EventFits (events.Claim task) = task.0 < 2 ^ 64
EventFits events.Over = Unit {0}
EventFits (events.Fetch dep word) = dep.0 < 2 ^ 64
EventFits (events.Hit key) = key.0 < 2 ^ 64
EventFits events.Miss = Unit {0}
EventFits (events.Read key place) = (key.0 < 2 ^ 64) × (place < 2 ^ 64)
EventFits (events.Unpin key) = key.0 < 2 ^ 64
EventFits (events.Room key evicted) = (key.0 < 2 ^ 64) × (evicted < 2 ^ 64)
EventFits (events.Already key) = key.0 < 2 ^ 64
EventFits (events.TooLarge key) = key.0 < 2 ^ 64
EventFits (events.Full key) = key.0 < 2 ^ 64
EventFits (events.Put key place) = (key.0 < 2 ^ 64) × (place < 2 ^ 64)
EventFits (events.Commit key) = key.0 < 2 ^ 64
EventFits (events.Drop key) = key.0 < 2 ^ 64
EventFits (events.Done task word) = task.0 < 2 ^ 64

abbrev pub EntryFits : Entry → Type 0
EntryFits entry = (entry.worker.0 < 2 ^ 64) × EventFits entry.event

abbrev pub OpenedFits : Opened → Type 0
OpenedFits opened = (opened.kept < 2 ^ 64) × (opened.bytes < 2 ^ 64) × (opened.evicted < 2 ^ 64)

abbrev pub LogFits : Opened → List Entry → Type 0
LogFits opened log = OpenedFits opened × All EntryFits log
