-- For private clauses: values at the front of bytes, nested no deeper than is allowed. What is read may be spelled
-- otherwise than its text.
use Rattle.std.specs.Prelude.{ℕ, zero, suc, ◌==◌, true, false, List, [], ◌∷◌, ◌++◌, codes, length, Option, Some, None, unwrap_or, if◌then◌else◌}
use Rattle.serde_json.specs.Data.{Data, null, boolean, number, string, array, object, Members, no_members, put}
use Rattle.serde_json.specs.View.{items_of}
use Rattle.osb_pyread.specs.Steps.{◌>>=◌, made, behind, until}
use Rattle.osb_pyread.specs.Numerals.{number_at}
use Rattle.osb_pyread.specs.Quotes.{quoted_at}

abbrev pub Reader : Type 0
Reader = List ℕ → Option (Data × List ℕ)

abbrev pub skip_comma : List ℕ → List ℕ
skip_comma bytes = unwrap_or (behind (codes ", ") bytes) bytes

abbrev pub word_at : List ℕ → Data → Reader
word_at word value bytes = behind word bytes >>= λ rest. Some (value, rest)

-- a value that holds no others
unfoldable pub plain_at : Reader
plain_at [] = None
plain_at (c ∷ rest) =
    if c == 34 then made string (quoted_at (c ∷ rest))
    else if c == 110 then word_at (codes "null") null (c ∷ rest)
    else if c == 116 then word_at (codes "true") (boolean true) (c ∷ rest)
    else if c == 102 then word_at (codes "false") (boolean false) (c ∷ rest)
    else made number (number_at (c ∷ rest))

-- up to n items behind those before, and the end of the list
abbrev pub items_at : Reader → ℕ → List Data → List ℕ → Option (List Data × List ℕ)
items_at read = until (codes "]") (λ bytes. read (skip_comma bytes)) (λ items d. items ++ d ∷ [])

abbrev pub member_at : Reader → List ℕ → Option ((List ℕ × Data) × List ℕ)
member_at read bytes = do
  key ← quoted_at (skip_comma bytes)
  rest ← behind (codes ": ") key.1
  value ← read rest
  Some ((key.0, value.0), value.1)

abbrev pub members_at : Reader → ℕ → Members → List ℕ → Option (Members × List ℕ)
members_at read = until (codes "}") (member_at read) (λ members m. put m.0 m.1 members)

-- a list or an object, whose parts another reader reads, or a plain value
unfoldable pub nested_at : Reader → Reader
nested_at read [] = None
nested_at read (c ∷ rest) =
    if c == 91 then made (λ items. array (items_of items)) (items_at read (length rest) [] rest)
    else if c == 123 then made object (members_at read (length rest) no_members rest)
    else plain_at (c ∷ rest)

-- a value in which no more than these levels are nested
unfoldable pub value_at : ℕ → Reader
value_at zero = plain_at
value_at (suc depth) = nested_at (value_at depth)
