use Rattle.std.proofs.Common.{◌≡◌, ◌≤◌, true, length, sym, ◌∙◌, ap, arith}
use Rattle.std.specs.List.{list_all}
use Rattle.std.specs.Result.{result_ok}
use Rattle.std.proofs.lemmas.Bool.Decides.{nat_tests}
use Rattle.osb_words.specs.Requests.{is_digit}
use Rattle.osb_words.proofs.Numbers.{parse-short, number_of-short}
use Rattle.osb_words.proofs.values.number_of.Goals as goal

pub returns : goal.returns
returns c =
    let bytes = c.as_bytes-bytes.ensures.value in
    let all : list_all is_digit c.args.text.now ≡ true = rw (← bytes) (sym c.if-not-are_digits.ensures) in
    let some : 1 ≤ length c.args.text.now = rw (← bytes) (grind (arith, nat_tests, c.if-is_empty.ensures)) in
    let few : length c.args.text.now ≤ 19 = rw (← bytes) (omega (arith, c.if-bytes-gt-MOST_DIGITS.false, c.as_bytes-bytes.ensures.len)) in
    c.ok.ensures.value ∙ ap result_ok (parse-short c.args.text.now c.parse.result c.parse.ensures.value.0 all some few)
    ∙ number_of-short c.args.text.now all some few
