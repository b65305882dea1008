-- The lines of builds, one build after another.
use Rattle.std.proofs.Common.{◌≡◌, ℕ, ◌+◌, ◌<◌, List, [], ◌∷◌, ◌++◌, length, take, get_or, sym, ap, ◌∙◌, append_assoc, arith}
use Rattle.std.proofs.lemmas.List.{append-nil, take_more, length-take}
use Rattle.osb_answers.specs.declared.answers.Answer.{Answer}
use Rattle.osb_answers.specs.Lines.{answer_lines, answers_text}

pub answers_text-push : (place : ℕ) (answers : List Answer) (answer : Answer) → answers_text place (answers ++ answer ∷ []) ≡ answers_text place answers ++ answer_lines (place + length answers) answer
answers_text-push place [] answer =
    let same : place ≡ place + 0 = omega arith in
    append-nil (answer_lines place answer) ∙ ap (λ p. answer_lines p answer) same
answers_text-push place (first ∷ answers) answer =
    let same : place + 1 + length answers ≡ place + length (first ∷ answers) = omega arith in
    ap (λ rest. answer_lines place first ++ rest) (answers_text-push (place + 1) answers answer)
    ∙ sym (append_assoc (answer_lines place first) (answers_text (place + 1) answers) (answer_lines (place + 1 + length answers) answer))
    ∙ ap (λ p. (answer_lines place first ++ answers_text (place + 1) answers) ++ answer_lines p answer) same

-- the text so far, with the lines of the next build
pub text_on : (answers : List Answer) (i : ℕ) (answer : Answer) (before now : List ℕ) → i < length answers → answer ≡ get_or answers i answer → before ≡ answers_text 1 (take i answers) → now ≡ before ++ answer_lines (i + 1) answer → now ≡ answers_text 1 (take (i + 1) answers)
text_on answers i answer before now within is so_far added =
    let place : 1 + length (take i answers) ≡ i + 1 = omega (arith, length-take i answers) in
    added ∙ ap (λ text. text ++ answer_lines (i + 1) answer) so_far
    ∙ ap (λ p. answers_text 1 (take i answers) ++ answer_lines p answer) (sym place)
    ∙ sym (answers_text-push 1 (take i answers) answer)
    ∙ ap (λ a. answers_text 1 (take i answers ++ a ∷ [])) is
    ∙ ap (answers_text 1) (sym (take_more answers i answer within))
