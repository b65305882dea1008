-- What texts of account files are as data.
use Rattle.std.specs.Prelude.{◌≡◌, ℕ, List}
use Rattle.std.specs.Option.{option_map}
use Rattle.osb_tree.specs.Accounts as texts
use Rattle.osb_tree.specs.Accounts.{value_of}
use Rattle.osb_tree.specs.declared.accounts.AccountFile.{AccountFile}
use Rattle.osb_accounts.specs.Lines.{lines_in, file_text, bad_line, place_of, line_at, field}
use Rattle.osb_accounts.specs.Homes.{with_last_line_ended}

-- what was read and is written again is the same text, with its last line ended, and is read as the same lines
pub record ReadingIsInverse : Type 0 where
  pub text : (bytes : List ℕ) → file_text (lines_in bytes) ≡ with_last_line_ended bytes
  pub lines : (bytes : List ℕ) → lines_in (file_text (lines_in bytes)) ≡ lines_in bytes

-- what a text says, its lines say
pub record TextsAgree : Type 0 where
  pub bad_line : (file : AccountFile) (bytes : List ℕ) → texts.bad_line file bytes ≡ bad_line file (lines_in bytes)
  pub number : (name bytes : List ℕ) → texts.number_of name bytes ≡ option_map (λ place. value_of (field 2 (line_at place (lines_in bytes)))) (place_of name (lines_in bytes))
