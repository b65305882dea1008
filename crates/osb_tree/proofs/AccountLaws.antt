-- Laws of account files.
use Rattle.std.proofs.Common.{◌≡◌, ◌≢◌, ◌&&◌, ◌||◌, is_some, true≢false, ℕ, ◌^◌, ◌<◌, ◌≤◌, ◌+◌, ◌*◌, ◌==◌, List, [], ◌∷◌, length, take, get_or, Bool, true, false, not, cond, Option, Some, None, Bor, refl, sym, ◌∙◌, ap, arith, rules}
use Rattle.std.specs.Prelude.{unwrap_or}
use Rattle.std.specs.Option.{option_map}
use Rattle.std.specs.List.{list_all, position_from, find}
use Rattle.std.specs.Char.{is_ascii_digit}
use Rattle.std.specs.Str.Parse.{digits_value, digits_value_after}
use Rattle.std.specs.Int.{IsInRange}
use Rattle.std.proofs.lemmas.Int.Digits.{digits_value_more}
use Rattle.std.proofs.lemmas.Str.{digit_value_digit}
use Rattle.std.proofs.lemmas.Str.Parse.{IsNumeralModel, numerals_by_fold, digit_at, digits_value_short, digits_value-take-le}
use Rattle.osb_tree.specs.Accounts.{lines_of, fields_of, field_at, value_of, is_account_number, field_count, has_numbers, is_account_line, is_line_of, number_in, number_of, bad_line_from, bad_line}
use Rattle.osb_tree.specs.declared.accounts.AccountFile.{AccountFile}
use Rattle.osb_tree.specs.declared.accounts.AccountFile.TheVariants.{Passwd, Group, Shadow}
use Rattle.std.proofs.lemmas.Bool.{and_parts}

-- ---- numbers

digits : IsNumeralModel (λ ds. list_all is_ascii_digit ds ≡ true) (digits_value_after 10 0)
digits = numerals_by_fold _ (search rules) (digits_value_after 10) (search rules)

-- at most ten digits write a number of 64 bits, with room for one digit more
pub digits_value-small : (ds : List ℕ) (i : ℕ) → list_all is_ascii_digit ds ≡ true → length ds ≤ 10 → digits_value 10 (take i ds) < 10 ^ 10
digits_value-small ds i all few = omega (arith, digits_value-take-le 10 ds i (omega arith), digits_value_short digits ds 10 all few)

-- the digits before one more, and that one
pub digits_value-more : (ds : List ℕ) (i value digit : ℕ) → list_all is_ascii_digit ds ≡ true → i < length ds → value ≡ digits_value 10 (take i ds) → digit + 48 ≡ get_or ds i 0 → value * 10 + digit ≡ digits_value 10 (take (i + 1) ds)
digits_value-more ds i value digit all within is next =
    let more = digits_value_more 10 ds i within in
    let one = digit_value_digit (get_or ds i 0) (digit_at ds i (digits.to ds all) within) in
    omega (arith, more, one)

pub digit-at : (ds : List ℕ) (i : ℕ) → list_all is_ascii_digit ds ≡ true → i < length ds → IsInRange 48 57 (get_or ds i 0)
digit-at ds i all within = digit_at ds i (digits.to ds all) within

-- ---- what stands between separators

pub now_or : (found : Option (Bor (List ℕ))) (absent : Bor (List ℕ)) (is : Option (List ℕ)) → absent.now ≡ [] → option_map (λ b. b.now) found ≡ is → (unwrap_or found absent).now ≡ unwrap_or is []
now_or None absent is none e = none ∙ rw (← e) refl
now_or (Some b) absent is none e = rw (← e) refl

-- ---- the first line that has not the form

position_from-next : (test : List ℕ → Bool) (place : ℕ) (lines : List (List ℕ)) → position_from test (place + 1) lines ≡ option_map (λ place. place + 1) (position_from test place lines)
position_from-next test place [] = refl
position_from-next test place (line ∷ lines) = by (position_from-next test (place + 1) lines) (test line)
  where
    by : position_from test (place + 1 + 1) lines ≡ option_map (λ place. place + 1) (position_from test (place + 1) lines) → (b : Bool) → cond b (Some (place + 1)) (position_from test (place + 1 + 1) lines) ≡ option_map (λ place. place + 1) (cond b (Some place) (position_from test (place + 1) lines))
    by later true = refl
    by later false = later

bad_line_from-position_from : (file : AccountFile) (number : ℕ) (lines : List (List ℕ)) → bad_line_from file number lines ≡ position_from (λ line. not (is_account_line file line)) number lines
bad_line_from-position_from file number [] = refl
bad_line_from-position_from file number (line ∷ lines) = by (bad_line_from-position_from file (number + 1) lines) (is_account_line file line)
  where
    by : bad_line_from file (number + 1) lines ≡ position_from (λ line. not (is_account_line file line)) (number + 1) lines → (b : Bool) → cond b (bad_line_from file (number + 1) lines) (Some number) ≡ cond (not b) (Some number) (position_from (λ line. not (is_account_line file line)) (number + 1) lines)
    by later true = later
    by later false = refl

-- its number is one more than how many stand before it
pub bad_line-placed : (file : AccountFile) (bytes : List ℕ) (place : Option ℕ) → place ≡ position_from (λ line. not (is_account_line file line)) 0 (lines_of bytes) → option_map (λ place. place + 1) place ≡ bad_line file bytes
bad_line-placed file bytes place e =
    rw e (sym (position_from-next _ 0 (lines_of bytes))) ∙ sym (bad_line_from-position_from file 1 (lines_of bytes))

-- ---- the first account of a name

number_in-find : (name : List ℕ) (lines : List (List ℕ)) → number_in name lines ≡ option_map (λ line. value_of (field_at 2 line)) (find (is_line_of name) lines)
number_in-find name [] = refl
number_in-find name (line ∷ lines) = by (number_in-find name lines) (is_line_of name line)
  where
    by : number_in name lines ≡ option_map (λ line. value_of (field_at 2 line)) (find (is_line_of name) lines) → (b : Bool) → cond b (Some (value_of (field_at 2 line))) (number_in name lines) ≡ option_map (λ line. value_of (field_at 2 line)) (cond b (Some line) (find (is_line_of name) lines))
    by later true = refl
    by later false = later

has_numbers-number : (file : AccountFile) (line : List ℕ) → file ≢ Shadow → has_numbers file line ≡ true → is_account_number (field_at 2 line) ≡ true
has_numbers-number Passwd line other h = (and_parts _ _ h).0
has_numbers-number Group line other h = h
has_numbers-number Shadow line other h = absurd (other refl)

is_account_line-number : (file : AccountFile) (name line : List ℕ) → file ≢ Shadow → is_account_line file line ≡ true → is_line_of name line ≡ true → is_account_number (field_at 2 line) ≡ true
is_account_line-number file name line other formed named = by (length line == 0) formed (and_parts _ _ named).0
  where
    by : (empty : Bool) → (empty || (length (fields_of line) == field_count file && has_numbers file line)) ≡ true → not empty ≡ true → is_account_number (field_at 2 line) ≡ true
    by true formed some = absurd (true≢false (sym some))
    by false formed some = has_numbers-number file line other (and_parts _ _ formed).1

find-number : (file : AccountFile) (number : ℕ) (name : List ℕ) (lines : List (List ℕ)) (line : List ℕ) → file ≢ Shadow → bad_line_from file number lines ≡ None → find (is_line_of name) lines ≡ Some line → is_account_number (field_at 2 line) ≡ true
find-number file number name [] line other none e = absurd (true≢false (sym (ap is_some e)))
find-number file number name (first ∷ lines) line other none e = by (is_account_line file first) refl (is_line_of name first) refl none e (find-number file (number + 1) name lines line other)
  where
    by : (formed : Bool) → is_account_line file first ≡ formed → (named : Bool) → is_line_of name first ≡ named → cond formed (bad_line_from file (number + 1) lines) (Some number) ≡ None → cond named (Some first) (find (is_line_of name) lines) ≡ Some line
        → (bad_line_from file (number + 1) lines ≡ None → find (is_line_of name) lines ≡ Some line → is_account_number (field_at 2 line) ≡ true) → is_account_number (field_at 2 line) ≡ true
    by false f named n none e later = absurd (true≢false (ap is_some none))
    by true f true n none e later =
        let same : first ≡ line = cc in
        is_account_line-number file name line other (rw (← same) f) (rw (← same) n)
    by true f false n none e later = later none e

-- its number is in the range of numbers
pub find-numbered : (file : AccountFile) (name bytes line : List ℕ) → file ≢ Shadow → bad_line file bytes ≡ None → find (is_line_of name) (lines_of bytes) ≡ Some line → cond (is_account_number (field_at 2 line)) (Some (value_of (field_at 2 line))) None ≡ number_of name bytes
find-numbered file name bytes line other none e =
    rw (find-number file 1 name (lines_of bytes) line other none e) (sym (number_in-find name (lines_of bytes) ∙ ap (option_map (λ line. value_of (field_at 2 line))) e))

pub find-none : (name bytes : List ℕ) → find (is_line_of name) (lines_of bytes) ≡ None → None ≡ number_of name bytes
find-none name bytes e = sym (number_in-find name (lines_of bytes) ∙ ap (option_map (λ line. value_of (field_at 2 line))) e)
