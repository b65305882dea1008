-- The text of a log tells the log.
use Rattle.std.proofs.Common.{◌≡◌, ℕ, ◌+◌, List, [], ◌∷◌, ◌++◌, drop, decimal, All, refl, sym, ap, ap₂, ◌∙◌, append_assoc}
use Rattle.std.proofs.lemmas.List.{append_cancel_left}
use Rattle.std.proofs.lemmas.List.Elements.{All-head, All-tail}
use Rattle.osb_tree.specs.declared.numbers.WorkerNo.{WorkerNo}
use Rattle.osb_job.specs.declared.entries.Event.{Event}
use Rattle.osb_job.specs.declared.entries.Entry.{Entry}
use Rattle.osb_state.specs.declared.opened.Opened.{Opened}
use Rattle.osb_log.specs.Texts.{event_text, entry_line, entry_lines, opened_line, log_text}
use Rattle.osb_log.specs.Fits.{EntryFits, OpenedFits, LogFits}
use Rattle.osb_log.proofs.Numbers.{numbers_tell}
use Rattle.osb_log.proofs.Events.{events_tell}

-- ---- the lines of entries

line_parts : (turn worker event more : List ℕ) → (turn ++ (32 ∷ (worker ++ (32 ∷ (event ++ 10 ∷ []))))) ++ more ≡ turn ++ (32 ∷ (worker ++ (32 ∷ (event ++ 10 ∷ more))))
line_parts turn worker event more = simp append_assoc

entry_same : (entry entry' : Entry) → entry.worker.0 ≡ entry'.worker.0 → entry.event ≡ entry'.event → entry ≡ entry'
entry_same entry entry' worker event =
    ap₂ (λ (n : ℕ) (e : Event). let w : WorkerNo = record { 0 = n } in let made : Entry = record { worker = w; event = e } in made) worker event

entries_tell : (turn : ℕ) (entry entry' : Entry) (x y : List ℕ) → EntryFits entry → EntryFits entry' → entry_line turn entry ++ x ≡ entry_line turn entry' ++ y → (entry ≡ entry') × (x ≡ y)
entries_tell turn entry entry' x y fits fits' same =
    let parts = line_parts (decimal turn) (decimal entry.worker.0) (event_text entry.event) x in
    let parts' = line_parts (decimal turn) (decimal entry'.worker.0) (event_text entry'.event) y in
    let past = ap (drop 1) (append_cancel_left (decimal turn) _ _ (sym parts ∙ same ∙ parts')) in
    let worker = numbers_tell entry.worker.0 entry'.worker.0 32 32 _ _ fits.0 fits'.0 refl refl past in
    let event = events_tell entry.event entry'.event x y fits.1 fits'.1 worker.1 in
    (entry_same entry entry' worker.0 event.0, event.1)

no_line : (s t : List ℕ) (c : ℕ) → [] ≡ s ++ c ∷ t → ⊥
no_line [] t c same = cc
no_line (d ∷ s) t c same = cc

line_apart : (turn : ℕ) (entry : Entry) (x : List ℕ) → [] ≡ entry_line turn entry ++ x → ⊥
line_apart turn entry x same =
    no_line (decimal turn) _ 32 (same ∙ line_parts (decimal turn) (decimal entry.worker.0) (event_text entry.event) x)

lines_tell : (turn : ℕ) (log log' : List Entry) → All EntryFits log → All EntryFits log' → entry_lines turn log ≡ entry_lines turn log' → log ≡ log'
lines_tell turn [] [] fits fits' same = refl
lines_tell turn [] (entry' ∷ log') fits fits' same = absurd (line_apart turn entry' (entry_lines (turn + 1) log') same)
lines_tell turn (entry ∷ log) [] fits fits' same = absurd (line_apart turn entry (entry_lines (turn + 1) log) (sym same))
lines_tell turn (entry ∷ log) (entry' ∷ log') fits fits' same =
    let told = entries_tell turn entry entry' (entry_lines (turn + 1) log) (entry_lines (turn + 1) log')
    (All-head EntryFits entry log fits) (All-head EntryFits entry' log' fits') same in
    let rest = lines_tell (turn + 1) log log' (All-tail EntryFits entry log fits) (All-tail EntryFits entry' log' fits') told.1 in
    ap₂ (λ (first : Entry) (others : List Entry). first ∷ others) told.0 rest

-- ---- the first line

opened_same : (opened opened' : Opened) → opened.kept ≡ opened'.kept → opened.bytes ≡ opened'.bytes → opened.evicted ≡ opened'.evicted → opened ≡ opened'
opened_same opened opened' kept bytes evicted = λ i. record { kept = kept i; bytes = bytes i; evicted = evicted i }

opening_tells : (opened opened' : Opened) (x y : List ℕ) → OpenedFits opened → OpenedFits opened' → opened_line opened ++ x ≡ opened_line opened' ++ y → (opened ≡ opened') × (x ≡ y)
opening_tells opened opened' x y fits fits' same =
    let parts = line_parts (decimal opened.kept) (decimal opened.bytes) (decimal opened.evicted) x in
    let parts' = line_parts (decimal opened'.kept) (decimal opened'.bytes) (decimal opened'.evicted) y in
    let kept = numbers_tell opened.kept opened'.kept 32 32 _ _ fits.0 fits'.0 refl refl (sym parts ∙ ap (drop 5) same ∙ parts') in
    let bytes = numbers_tell opened.bytes opened'.bytes 32 32 _ _ fits.1 fits'.1 refl refl kept.1 in
    let evicted = numbers_tell opened.evicted opened'.evicted 10 10 x y fits.2 fits'.2 refl refl bytes.1 in
    (opened_same opened opened' kept.0 bytes.0 evicted.0, evicted.1)

pub logs_told : (opened opened' : Opened) (log log' : List Entry) → LogFits opened log → LogFits opened' log' → log_text opened log ≡ log_text opened' log' → (opened ≡ opened') × (log ≡ log')
logs_told opened opened' log log' fits fits' same =
    let told = opening_tells opened opened' (entry_lines 1 log) (entry_lines 1 log') fits.0 fits'.0 same in
    (told.0, lines_tell 1 log log' fits.1 fits'.1 told.1)
