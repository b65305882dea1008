-- The text that Python's `json.dumps(value, sort_keys=True)` gives with its defaults, over the data of a
-- `serde_json` value. Data that no value holds has none: numbers past their range, texts that are no UTF-8,
-- members out of order.
use Rattle.std.specs.Prelude.{ℕ, ◌/◌, ◌%◌, ◌^◌, ◌==◌, true, false, pos, negsuc, List, [], ◌∷◌, ◌++◌, codes, nat_lt, nat_le, ◌&&◌, Option, Some, None, option_map, option_and_then, Result, Ok, Err, if◌then◌else◌}
use Rattle.std.specs.List.{flat_map}
use Rattle.std.specs.Fmt.{decimal, signed_decimal}
use Rattle.std.specs.Str.{chars, is_utf8}
use Rattle.std.specs.Char.{digit_char}
use Rattle.std.specs.Char.Escape.{encode_utf16}
use Rattle.std.specs.Ordering.{nat_cmp, is_lt}
use Rattle.std.specs.Cmp.Lexicographic.{slice_cmp}
use Rattle.osb_pyjson.specs.declared.faults.PyFault.{PyFault}
use Rattle.osb_pyjson.specs.declared.faults.PyFault.TheVariants.{NotWhole}
use Rattle.serde_json.specs.Data.{Num, unsigned, negative, float, Data, null, boolean, number, string, array, object, Items, no_items, item, Members, no_members, member}

-- ---- texts

-- four hex digits in lower case
abbrev pub hex4 : ℕ → List ℕ
hex4 n = digit_char (n / 4096 % 16) ∷ digit_char (n / 256 % 16) ∷ digit_char (n / 16 % 16) ∷ digit_char (n % 16) ∷ []

-- a 16-bit unit, as `\u` and four hex digits
abbrev pub unit_escape : ℕ → List ℕ
unit_escape unit = 92 ∷ 117 ∷ hex4 unit

-- a character: some have an escape of two characters, space to `~` stand for themselves, and each other one
-- is written by its 16-bit units, of which those above U+FFFF have two
abbrev pub py_char : ℕ → List ℕ
py_char c =
    if c == 34 then 92 ∷ 34 ∷ []
    else if c == 92 then 92 ∷ 92 ∷ []
    else if c == 10 then 92 ∷ 110 ∷ []
    else if c == 13 then 92 ∷ 114 ∷ []
    else if c == 9 then 92 ∷ 116 ∷ []
    else if c == 8 then 92 ∷ 98 ∷ []
    else if c == 12 then 92 ∷ 102 ∷ []
    else if nat_le 32 c && nat_le c 126 then c ∷ []
    else flat_map unit_escape (encode_utf16 c)

-- a text, between quotes
abbrev pub py_quoted : List ℕ → List ℕ
py_quoted text = 34 ∷ (flat_map py_char (chars text) ++ 34 ∷ [])

-- ---- values

abbrev pub py_text_string : List ℕ → Option (List ℕ)
py_text_string text = if is_utf8 text then Some (py_quoted text) else None

-- a whole number, in decimal; one that is held as a fraction has no text
abbrev pub py_number : Num → Option (List ℕ)
py_number (unsigned n) = if nat_lt n (2 ^ 64) then Some (decimal n) else None
py_number (negative (pos n)) = None
py_number (negative (negsuc n)) = if nat_lt n (2 ^ 63) then Some (signed_decimal (negsuc n)) else None
py_number (float f) = None

-- one text after another, where both are there
infixr 20 ◌<+>◌
abbrev pub ◌<+>◌ : Option (List ℕ) → Option (List ℕ) → Option (List ℕ)
first <+> second = option_and_then (λ a. option_map (λ b. a ++ b) second) first

abbrev mutual
  pub py_data : Data → Option (List ℕ)
  py_data null = Some (codes "null")
  py_data (boolean true) = Some (codes "true")
  py_data (boolean false) = Some (codes "false")
  py_data (number n) = py_number n
  py_data (string s) = py_text_string s
  py_data (array items) = py_items items
  py_data (object members) = py_members members

  pub py_items : Items → Option (List ℕ)
  py_items no_items = Some (codes "[]")
  py_items (item d items) = Some (codes "[") <+> py_data d <+> py_more_items items

  -- the items after the first, and the end of the list
  pub py_more_items : Items → Option (List ℕ)
  py_more_items no_items = Some (codes "]")
  py_more_items (item d items) = Some (codes ", ") <+> py_data d <+> py_more_items items

  pub py_members : Members → Option (List ℕ)
  py_members no_members = Some (codes "{}")
  py_members (member key d members) = Some (codes "{") <+> py_text_string key <+> Some (codes ": ") <+> py_data d <+> py_more_members key members

  -- the members after the one of the given key, above which each next key has to be, and the end of the object
  pub py_more_members : List ℕ → Members → Option (List ℕ)
  py_more_members before no_members = Some (codes "}")
  py_more_members before (member key d members) =
      if is_lt (slice_cmp nat_cmp before key) then Some (codes ", ") <+> py_text_string key <+> Some (codes ": ") <+> py_data d <+> py_more_members key members else None

-- the text of a value, or that a number in it is not whole
abbrev pub py_text_of : Data → Result (List ℕ) PyFault
py_text_of value = told (py_data value)
  where
    told : Option (List ℕ) → Result (List ℕ) PyFault
    told None = Err NotWhole
    told (Some text) = Ok text
