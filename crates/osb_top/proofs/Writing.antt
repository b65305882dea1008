-- What a sink has taken, write after write.
use Rattle.std.proofs.Common.{◌≡◌, ℕ, ◌+◌, ◌-◌, ◌≤◌, List, ◌++◌, length, take, drop, Option, Some, None, option_map, sym, refl, ap, ◌∙◌, inr, append_assoc, take-append-drop, length-drop, arith}
use Rattle.std.proofs.lemmas.List.{take_all}
use Rattle.std.proofs.Math.Seq.{take-add}
use Rattle.osb_answers.specs.Exports.{HasRisen}
use Rattle.osb_top.specs.Seen.{SinkSeen}
use Rattle.osb_top.specs.Writing.{Writes, IsWritten}

-- the rest of a text, as a range of it
pub rest_of : (text : List ℕ) (count : ℕ) → take (length text - count) (drop count text) ≡ drop count text
rest_of text count = take_all (length text - count) (drop count text) (rw length-drop (omega arith))

-- a text that is taken in two pieces
pub taken_on : (before between now : Option (List ℕ)) (text piece : List ℕ) (count more : ℕ) → piece ≡ drop count text → between ≡ option_map (λ old. old ++ take count text) before → now ≡ option_map (λ old. old ++ take more piece) between → now ≡ option_map (λ old. old ++ take (count + more) text) before
taken_on None between now text piece count more e first second = second ∙ ap (option_map (λ old. old ++ take more piece)) first
taken_on (Some old) between now text piece count more e first second =
    second ∙ ap (option_map (λ old. old ++ take more piece)) first
    ∙ ap Some (append_assoc old (take count text) (take more piece) ∙ ap (λ t. old ++ t) (ap (λ p. take count text ++ take more p) e ∙ sym (take-add count more text)))

pub within_on : (text piece : List ℕ) (count more : ℕ) → piece ≡ drop count text → count ≤ length text → more ≤ length piece → count + more ≤ length text
within_on text piece count more e within h = let l : length piece ≡ length text - count = ap length e ∙ length-drop count text in omega arith

-- a writing that stopped took a front of the text
pub stopped_written : (sink : SinkSeen) (text bytes : List ℕ) (count usual : ℕ) → bytes ≡ text → Writes sink (take count bytes) → HasRisen sink.faults → IsWritten sink text usual 6
stopped_written sink text bytes count usual e taken risen =
    inr (record { front = take count bytes; rest = drop count bytes; together = take-append-drop count bytes ∙ e; taken = taken }, refl, risen)
