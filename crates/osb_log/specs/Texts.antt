-- The text of a log: a line for what the cache was opened with, and a line for each entry.
use Rattle.std.specs.Prelude.{◌≡◌, ℕ, ◌+◌, List, [], ◌∷◌, ◌++◌, codes}
use Rattle.std.specs.Fmt.{decimal}
use Rattle.osb_job.specs.declared.entries.Word.{Word}
use Rattle.osb_job.specs.declared.entries.Word.TheVariants as words
use Rattle.osb_job.specs.declared.entries.Event.{Event}
use Rattle.osb_job.specs.declared.entries.Event.TheVariants as events
use Rattle.osb_job.specs.declared.entries.Entry.{Entry}
use Rattle.osb_state.specs.declared.opened.Opened.{Opened}

abbrev pub word_text : Word → List ℕ
word_text words.Tree = codes "tree"
word_text words.Fault = codes "fault"
word_text words.Blocked = codes "blocked"
word_text words.NoMemory = codes "no memory"

-- tasks, keys, places of chunks and numbers of entries in decimal
abbrev pub event_text : Event → List ℕ
event_text (events.Claim task) = codes "claim " ++ decimal task.0
event_text events.Over = codes "over"
event_text (events.Fetch dep word) = codes "fetch " ++ (decimal dep.0 ++ (codes " " ++ word_text word))
event_text (events.Hit key) = codes "look hit " ++ decimal key.0
event_text events.Miss = codes "look miss"
event_text (events.Read key place) = codes "read " ++ (decimal key.0 ++ (codes " " ++ decimal place))
event_text (events.Unpin key) = codes "unpin " ++ decimal key.0
event_text (events.Room key evicted) = codes "reserve " ++ (decimal key.0 ++ (codes " room " ++ decimal evicted))
event_text (events.Already key) = codes "reserve " ++ (decimal key.0 ++ codes " already")
event_text (events.TooLarge key) = codes "reserve " ++ (decimal key.0 ++ codes " too large")
event_text (events.Full key) = codes "reserve " ++ (decimal key.0 ++ codes " full")
event_text (events.Put key place) = codes "put " ++ (decimal key.0 ++ (codes " " ++ decimal place))
event_text (events.Commit key) = codes "commit " ++ decimal key.0
event_text (events.Drop key) = codes "drop " ++ decimal key.0
event_text (events.Done task word) = codes "done " ++ (decimal task.0 ++ (codes " " ++ word_text word))

-- the turn's number, the worker's, and what it did
abbrev pub entry_line : ℕ → Entry → List ℕ
entry_line turn entry = decimal turn ++ (codes " " ++ (decimal entry.worker.0 ++ (codes " " ++ (event_text entry.event ++ codes "\n"))))

-- entries whose first has this turn
abbrev pub entry_lines : ℕ → List Entry → List ℕ
entry_lines turn [] = []
entry_lines turn (entry ∷ entries) = entry_line turn entry ++ entry_lines (turn + 1) entries

-- how many entries were kept at the opening, their bytes, and how many were too much
abbrev pub opened_line : Opened → List ℕ
opened_line opened = codes "open " ++ (decimal opened.kept ++ (codes " " ++ (decimal opened.bytes ++ (codes " " ++ (decimal opened.evicted ++ codes "\n")))))

abbrev pub log_text : Opened → List Entry → List ℕ
log_text opened log = opened_line opened ++ entry_lines 1 log
