-- Texts of account files, and what they are as data.
use Rattle.std.proofs.Common.{◌≡◌, ℕ, zero, suc, ◌+◌, ◌==◌, List, [], ◌∷◌, ◌++◌, length, map, Bool, true, false, ◌&&◌, cond, Option, Some, None, refl, sym, ◌∙◌, ap, arith}
use Rattle.std.proofs.lemmas.Bool.{eqb-true}
use Rattle.std.proofs.lemmas.Bool.Decides.{nat_tests}
use Rattle.std.specs.Prelude.{slice_index}
use Rattle.std.specs.Option.{option_map}
use Rattle.std.specs.List.{slice_split, onto_first}
use Rattle.std.proofs.lemmas.List.Splits.{join_with_byte-slice_split}
use Rattle.osb_tree.specs.Accounts as raw
use Rattle.osb_tree.specs.Accounts.{lines_of, fields_of, field_at, field_count, value_of, is_account_line, number_in}
use Rattle.osb_tree.specs.declared.accounts.AccountFile.{AccountFile}
use Rattle.osb_tree.specs.declared.accounts.AccountFile.TheVariants.{Passwd, Group, Shadow}
use Rattle.osb_accounts.specs.Lines.{Fields, FileLines, line_text, file_text, line_of, ended, lines_in, field, is_line_of, has_numbers, is_well_formed, bad_line_from, bad_line, place_of, line_at}
use Rattle.osb_accounts.specs.Homes.{with_last_line_ended}
use Rattle.osb_accounts.specs.Agreement.{ReadingIsInverse, TextsAgree}

-- ---- a line

pub field-line_of : (place : ℕ) (text : List ℕ) → field place (line_of text) ≡ field_at place text
field-line_of zero [] = refl
field-line_of (suc place) [] = refl
field-line_of place (byte ∷ text) = refl

-- splitting gives one part at least
split_some : (byte : ℕ) (text : List ℕ) → (first : List ℕ) × (rest : List (List ℕ)) × (slice_split (λ b. b == byte) text ≡ first ∷ rest)
split_some byte [] = ([], [], refl)
split_some byte (b ∷ text) = by (b == byte) (split_some byte text)
  where
    by : (here : Bool) → ((first : List ℕ) × (rest : List (List ℕ)) × (slice_split (λ b. b == byte) text ≡ first ∷ rest))
        → (first : List ℕ) × (rest : List (List ℕ)) × (cond here ([] ∷ slice_split (λ b. b == byte) text) (onto_first b (slice_split (λ b. b == byte) text)) ≡ first ∷ rest)
    by true more = ([], slice_split (λ b. b == byte) text, refl)
    by false more = (b ∷ more.0, more.1, ap (onto_first b) more.2)

-- what is not empty has not the length 0
not_empty : (byte : ℕ) (text : List ℕ) → (length (byte ∷ text) == 0) ≡ false
not_empty byte text = grind (arith, nat_tests)

is_line_of-line_of : (name text : List ℕ) → is_line_of name (line_of text) ≡ raw.is_line_of name text
is_line_of-line_of name [] = refl
is_line_of-line_of name (byte ∷ text) =
    let some = split_some 58 (byte ∷ text) in
    rw (not_empty byte text, some.2) refl

has_numbers-line_of : (file : AccountFile) (text : List ℕ) → has_numbers file (line_of text) ≡ raw.has_numbers file text
has_numbers-line_of Passwd text = rw (field-line_of 2 text, field-line_of 3 text) refl
has_numbers-line_of Group text = rw (field-line_of 2 text) refl
has_numbers-line_of Shadow text = refl

is_well_formed-line_of : (file : AccountFile) (text : List ℕ) → is_well_formed file (line_of text) ≡ is_account_line file text
is_well_formed-line_of file [] = refl
is_well_formed-line_of file (byte ∷ text) =
    let some = split_some 58 (byte ∷ text) in
    let numbers = has_numbers-line_of file (byte ∷ text) in
    let formed : is_well_formed file (some.0 ∷ some.1) ≡ (length (some.0 ∷ some.1) == field_count file && has_numbers file (some.0 ∷ some.1)) = refl in
    rw (not_empty byte text, some.2, formed, ← some.2, numbers) refl

-- ---- lines

bad_line_from-lines : (file : AccountFile) (number : ℕ) (texts : List (List ℕ)) → raw.bad_line_from file number texts ≡ bad_line_from file number (map line_of (ended texts))
bad_line_from-lines file number [] = refl
bad_line_from-lines file number ([] ∷ []) = refl
bad_line_from-lines file number ((byte ∷ text) ∷ []) = rw (is_well_formed-line_of file (byte ∷ text)) refl
bad_line_from-lines file number (text ∷ next ∷ texts) = rw (is_well_formed-line_of file text, bad_line_from-lines file (number + 1) (next ∷ texts)) refl

pub bad_line-lines_in : (file : AccountFile) (bytes : List ℕ) → raw.bad_line file bytes ≡ bad_line file (lines_in bytes)
bad_line-lines_in file bytes = bad_line_from-lines file 1 (lines_of bytes)

abbrev pub number_said : (lines : FileLines) → Option ℕ → Option ℕ
number_said lines found = option_map (λ place. value_of (field 2 (line_at place lines))) found

number_said-next : (line : Fields) (lines : FileLines) (found : Option ℕ) → number_said (line ∷ lines) (option_map (λ place. place + 1) found) ≡ number_said lines found
number_said-next line lines None = refl
number_said-next line lines (Some place) = let next : place + 1 ≡ suc place = omega arith in rw next refl

-- a line more, in front
number_in-next : (name text : List ℕ) (rest : List (List ℕ)) (lines : FileLines) → number_in name rest ≡ number_said lines (place_of name lines)
    → number_in name (text ∷ rest) ≡ number_said (line_of text ∷ lines) (place_of name (line_of text ∷ lines))
number_in-next name text rest lines more = rw (is_line_of-line_of name text, ← field-line_of 2 text) (by (raw.is_line_of name text))
  where
    by : (here : Bool) → cond here (Some (value_of (field 2 (line_of text)))) (number_in name rest) ≡ number_said (line_of text ∷ lines) (cond here (Some 0) (option_map (λ place. place + 1) (place_of name lines)))
    by true = refl
    by false = more ∙ sym (number_said-next (line_of text) lines (place_of name lines))

number_in-lines : (name : List ℕ) (texts : List (List ℕ)) → number_in name texts ≡ number_said (map line_of (ended texts)) (place_of name (map line_of (ended texts)))
number_in-lines name [] = refl
number_in-lines name ([] ∷ []) = refl
number_in-lines name ((byte ∷ text) ∷ []) = number_in-next name (byte ∷ text) [] [] refl
number_in-lines name (text ∷ next ∷ texts) = number_in-next name text (next ∷ texts) (map line_of (ended (next ∷ texts))) (number_in-lines name (next ∷ texts))

pub number_of-lines_in : (name bytes : List ℕ) → raw.number_of name bytes ≡ number_said (lines_in bytes) (place_of name (lines_in bytes))
number_of-lines_in name bytes = number_in-lines name (lines_of bytes)

-- ---- a text is written as it was read

line_text-line_of : (text : List ℕ) → line_text (line_of text) ≡ text
line_text-line_of [] = refl
line_text-line_of (byte ∷ text) = join_with_byte-slice_split 58 (byte ∷ text)

-- the text of parts that end in a line feed each, but for the last
abbrev text_of : List (List ℕ) → List ℕ
text_of texts = file_text (map line_of (ended texts))

-- a byte in front changes nothing at the end
ended-front : (byte next : ℕ) (bytes : List ℕ) → with_last_line_ended (byte ∷ next ∷ bytes) ≡ byte ∷ with_last_line_ended (next ∷ bytes)
ended-front byte next bytes = by (slice_index (next ∷ bytes) (length bytes) == 10)
  where
    by : (b : Bool) → cond b (byte ∷ next ∷ bytes) ((byte ∷ next ∷ bytes) ++ 10 ∷ []) ≡ byte ∷ cond b (next ∷ bytes) ((next ∷ bytes) ++ 10 ∷ [])
    by true = refl
    by false = refl

-- a byte in front of the first part
written-onto : (byte : ℕ) (text : List ℕ) (next : List ℕ) (texts : List (List ℕ)) → text_of ((byte ∷ text) ∷ next ∷ texts) ≡ byte ∷ text_of (text ∷ next ∷ texts)
written-onto byte text next texts = rw (line_text-line_of (byte ∷ text), line_text-line_of text) refl

written-last : (byte next : ℕ) (text : List ℕ) → text_of ((byte ∷ next ∷ text) ∷ []) ≡ byte ∷ text_of ((next ∷ text) ∷ [])
written-last byte next text = rw (line_text-line_of (byte ∷ next ∷ text), line_text-line_of (next ∷ text)) refl

pub file_text-lines_in : (bytes : List ℕ) → file_text (lines_in bytes) ≡ with_last_line_ended bytes
file_text-lines_in [] = refl
file_text-lines_in (byte ∷ []) = by (byte == 10) refl
  where
    by : (feed : Bool) → (byte == 10) ≡ feed → text_of (cond feed ([] ∷ [] ∷ []) ((byte ∷ []) ∷ [])) ≡ cond feed (byte ∷ []) (byte ∷ 10 ∷ [])
    by true e = let same : byte ≡ 10 = eqb-true byte 10 e in rw same refl
    by false e = rw (line_text-line_of (byte ∷ [])) refl
file_text-lines_in (byte ∷ next ∷ bytes) =
    let some = split_some 10 (next ∷ bytes) in
    let more : text_of (some.0 ∷ some.1) ≡ with_last_line_ended (next ∷ bytes) = rw some.2 at (file_text-lines_in (next ∷ bytes)) in
    rw (some.2, ended-front byte next bytes, ← more) (by (byte == 10) refl some.0 some.1 some.2)
  where
    by : (feed : Bool) → (byte == 10) ≡ feed → (text : List ℕ) (texts : List (List ℕ)) → slice_split (λ b. b == 10) (next ∷ bytes) ≡ text ∷ texts
        → text_of (cond feed ([] ∷ text ∷ texts) ((byte ∷ text) ∷ texts)) ≡ byte ∷ text_of (text ∷ texts)
    by true e text texts is = let same : byte ≡ 10 = eqb-true byte 10 e in rw same refl
    by false e text (next ∷ texts) is = written-onto byte text next texts
    by false e (first ∷ text) [] is = written-last byte first text
    by false e [] [] is =
        let none : [] ≡ next ∷ bytes = rw is at (join_with_byte-slice_split 10 (next ∷ bytes)) in
        absurd (omega (arith, ap length none))

-- ---- what is read again

-- lines of a text with a byte in front
ended-feed : (bytes : List ℕ) → ended ([] ∷ lines_of bytes) ≡ [] ∷ ended (lines_of bytes)
ended-feed bytes = let some = split_some 10 bytes in rw some.2 refl

ended-onto : (byte next : ℕ) (bytes : List ℕ) → ended (onto_first byte (lines_of (next ∷ bytes))) ≡ onto_first byte (ended (lines_of (next ∷ bytes)))
ended-onto byte next bytes = let some = split_some 10 (next ∷ bytes) in rw some.2 (by some.0 some.1 some.2)
  where
    by : (text : List ℕ) (texts : List (List ℕ)) → lines_of (next ∷ bytes) ≡ text ∷ texts → ended (onto_first byte (text ∷ texts)) ≡ onto_first byte (ended (text ∷ texts))
    by text (more ∷ texts) is = refl
    by (first ∷ text) [] is = refl
    by [] [] is =
        let none : [] ≡ next ∷ bytes = rw is at (join_with_byte-slice_split 10 (next ∷ bytes)) in
        absurd (omega (arith, ap length none))

ended-some : (byte : ℕ) (bytes : List ℕ) → (rest : List ℕ) × (with_last_line_ended (byte ∷ bytes) ≡ byte ∷ rest)
ended-some byte bytes = by (slice_index (byte ∷ bytes) (length bytes) == 10)
  where
    by : (b : Bool) → (rest : List ℕ) × (cond b (byte ∷ bytes) ((byte ∷ bytes) ++ 10 ∷ []) ≡ byte ∷ rest)
    by true = (bytes, refl)
    by false = (bytes ++ 10 ∷ [], refl)

lines_of-ended : (bytes : List ℕ) → ended (lines_of (with_last_line_ended bytes)) ≡ ended (lines_of bytes)
lines_of-ended [] = refl
lines_of-ended (byte ∷ []) = by (byte == 10) refl
  where
    by : (feed : Bool) → (byte == 10) ≡ feed → ended (lines_of (cond feed (byte ∷ []) (byte ∷ 10 ∷ []))) ≡ ended (lines_of (byte ∷ []))
    by true e = refl
    by false e = rw e refl
lines_of-ended (byte ∷ next ∷ bytes) =
    let some = ended-some next bytes in
    let more : ended (lines_of (next ∷ some.0)) ≡ ended (lines_of (next ∷ bytes)) = rw some.1 at (lines_of-ended (next ∷ bytes)) in
    rw (ended-front byte next bytes, some.1) (by some.0 more (byte == 10) refl)
  where
    by : (rest : List ℕ) → ended (lines_of (next ∷ rest)) ≡ ended (lines_of (next ∷ bytes)) → (feed : Bool) → (byte == 10) ≡ feed → ended (lines_of (byte ∷ next ∷ rest)) ≡ ended (lines_of (byte ∷ next ∷ bytes))
    by rest more true e = rw e (ended-feed (next ∷ rest) ∙ (ap (λ texts. [] ∷ texts) more ∙ sym (ended-feed (next ∷ bytes))))
    by rest more false e = rw e (ended-onto byte next rest ∙ (ap (onto_first byte) more ∙ sym (ended-onto byte next bytes)))

pub is_inverse : ReadingIsInverse
is_inverse = record {
  text = file_text-lines_in;
  lines = λ bytes. ap lines_in (file_text-lines_in bytes) ∙ ap (map line_of) (lines_of-ended bytes);
}

pub agree : TextsAgree
agree = record { bad_line = bad_line-lines_in; number = number_of-lines_in }
