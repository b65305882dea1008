-- The lines of the first entries of a log.
use Rattle.std.proofs.Common.{◌≡◌, ℕ, ◌+◌, ◌<◌, List, [], ◌∷◌, ◌++◌, length, take, get_or, refl, sym, ap, ◌∙◌, arith, append-nil, append_assoc, add-zero}
use Rattle.std.proofs.lemmas.List.{length-take, take_more}
use Rattle.osb_job.specs.declared.entries.Entry.{Entry}
use Rattle.osb_log.specs.Texts.{entry_line, entry_lines}

entry_lines-push : (turn : ℕ) (log : List Entry) (entry : Entry) → entry_lines turn (log ++ entry ∷ []) ≡ entry_lines turn log ++ entry_line (turn + length log) entry
entry_lines-push turn [] entry = rw (append-nil (entry_line turn entry), add-zero) refl
entry_lines-push turn (first ∷ log) entry =
    let same : turn + 1 + length log ≡ turn + length (first ∷ log) = omega arith in
    ap (λ (lines : List ℕ). entry_line turn first ++ lines) (entry_lines-push (turn + 1) log entry ∙ ap (λ (n : ℕ). entry_lines (turn + 1) log ++ entry_line n entry) same)
    ∙ sym (append_assoc (entry_line turn first) (entry_lines (turn + 1) log) (entry_line (turn + length (first ∷ log)) entry))

-- a text that ends with the lines of the first entries, and the next line
pub entry_lines-more : (start before : List ℕ) (log : List Entry) (i : ℕ) (d : Entry) → i < length log → before ≡ start ++ entry_lines 1 (take i log)
    → before ++ entry_line (i + 1) (get_or log i d) ≡ start ++ entry_lines 1 (take (i + 1) log)
entry_lines-more start before log i d within held =
    let entry = get_or log i d in
    let turn : 1 + length (take i log) ≡ i + 1 = rw length-take (omega arith) in
    let lines : entry_lines 1 (take (i + 1) log) ≡ entry_lines 1 (take i log) ++ entry_line (i + 1) entry =
    ap (entry_lines 1) (take_more log i d within) ∙ entry_lines-push 1 (take i log) entry ∙ ap (λ (n : ℕ). entry_lines 1 (take i log) ++ entry_line n entry) turn in
    rw (held, lines) (append_assoc start (entry_lines 1 (take i log)) (entry_line (i + 1) entry))
