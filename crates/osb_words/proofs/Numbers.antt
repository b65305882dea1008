-- Numbers of few digits.
use Rattle.std.proofs.Common.{◌≡◌, ◌<◌, ◌≤◌, ◌^◌, ℕ, true, List, length, Result, Ok, Some, arith, rules}
use Rattle.std.specs.List.{list_all}
use Rattle.std.specs.Str.Parse.{ParsesUnsigned, digits_value}
use Rattle.std.proofs.lemmas.Bool.Decides.{nat_tests}
use Rattle.std.proofs.lemmas.Str.Parse.{IsNumeralModel, numerals_by_value, parse_gives, digits_value_short}
use Rattle.osb_words.specs.Requests.{is_digit, number_of}

digits : IsNumeralModel (λ text. list_all is_digit text ≡ true) (digits_value 10)
digits = numerals_by_value _ (search rules)

-- what `parse` gives for 1 to 19 digits
pub parse-short : {E : Type 0} (text : List ℕ) (r : Result ℕ E) → ParsesUnsigned 64 10 text r → list_all is_digit text ≡ true → 1 ≤ length text → length text ≤ 19 → r ≡ Ok (digits_value 10 text)
parse-short text r parsed all some few =
    let small : digits_value 10 text < 10 ^ 19 = digits_value_short digits text 19 all few in
    parse_gives digits 64 text r parsed all (omega arith) (omega (arith, small))

pub number_of-short : (text : List ℕ) → list_all is_digit text ≡ true → 1 ≤ length text → length text ≤ 19 → Some (digits_value 10 text) ≡ number_of text
number_of-short text all some few = grind (arith, nat_tests)
