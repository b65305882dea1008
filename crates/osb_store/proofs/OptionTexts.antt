-- Python's text of a value is ASCII, and so is the name of a stage's type.
use Rattle.std.proofs.Common.{◌≡◌, ℕ, suc, ◌+◌, ◌<◌, ◌/◌, ◌%◌, ◌^◌, Bool, true, false, cond, eqb, pos, negsuc, List, [], ◌∷◌, ◌++◌, codes, Option, Some, None, refl, subst, lit<, arith}
use Rattle.std.specs.Prelude.{nat_lt, nat_le, ◌&&◌}
use Rattle.std.specs.List.{AllByRecursion, list_all, flat_map}
use Rattle.std.specs.Option.{IfSome}
use Rattle.std.specs.Fmt.{decimal, signed_decimal}
use Rattle.std.specs.Str.{chars, is_utf8, IsAscii}
use Rattle.std.specs.Char.{digit_char}
use Rattle.std.specs.Char.Escape.{encode_utf16}
use Rattle.std.specs.Ordering.{nat_cmp, is_lt}
use Rattle.std.specs.Cmp.Lexicographic.{slice_cmp}
use Rattle.std.proofs.lemmas.Bool.{and_parts, cond_both, ltb-true, leb-true}
use Rattle.std.proofs.lemmas.Fmt.{IsAscii-decimal}
use Rattle.std.proofs.lemmas.Str.{IsAscii-append, IsUtf8-from_ascii, is_utf8-from_IsUtf8}
use Rattle.std.proofs.lemmas.List.Elements.{All-from_recursion}
use Rattle.std.proofs.lemmas.Str.Ascii.{IsAscii-nil, IsAscii-cons, IsAscii-from_all}
use Rattle.serde_json.specs.Data.{Num, unsigned, negative, float, Data, null, boolean, number, string, array, object, Items, no_items, item, Members, no_members, member}
use Rattle.osb_pyjson.specs.PyText.{◌<+>◌, unit_escape, py_char, py_quoted, py_text_string, py_number, py_data, py_items, py_more_items, py_members, py_more_members}
use Rattle.osb_recipe.specs.Kinds.{type_text}
use Rattle.osb_recipe.specs.declared.kinds.StageKind.{StageKind}
use Rattle.osb_recipe.specs.declared.kinds.StageKind.TheVariants.{Noop, Error, Mkdir, Copy, Symlink, Chmod, Chown, Groups, Users, Hostname, Locale, Timezone, Keymap, MachineId}

-- ---- texts of bytes below 128

spelled_out : (bytes : List ℕ) → list_all (λ byte. nat_lt byte 128) bytes ≡ true → IsAscii bytes
spelled_out [] e = IsAscii-nil
spelled_out (byte ∷ bytes) e =
    let both = and_parts (nat_lt byte 128) (list_all (λ b. nat_lt b 128) bytes) e in
    IsAscii-cons byte bytes (ltb-true byte 128 both.0) (spelled_out bytes both.1)

each_ascii : {X : Type 0} (text : X → List ℕ) → ((x : X) → IsAscii (text x)) → (xs : List X) → IsAscii (flat_map text xs)
each_ascii text ascii [] = IsAscii-nil
each_ascii text ascii (x ∷ xs) = IsAscii-append (text x) (flat_map text xs) (ascii x) (each_ascii text ascii xs)

digit_step : (b : Bool) (n : ℕ) → n < 16 → cond b (48 + n) (87 + n) < 128
digit_step true n h = omega arith
digit_step false n h = omega arith

digit_small : (n : ℕ) → digit_char (n % 16) < 128
digit_small n = digit_step (nat_lt (n % 16) 10) (n % 16) (omega arith)

unit_ascii : (unit : ℕ) → IsAscii (unit_escape unit)
unit_ascii unit =
    IsAscii-from_all (unit_escape unit) (All-from_recursion (λ byte. byte < 128) (unit_escape unit)
    (lit< tt, (lit< tt, (digit_small (unit / 4096), (digit_small (unit / 256), (digit_small (unit / 16), (digit_small unit, tt)))))))

-- the first escape whose character this is, or else another text
abbrev escaped : ℕ → List (ℕ × ℕ) → List ℕ → List ℕ
escaped c [] other = other
escaped c (escape ∷ escapes) other = cond (eqb c escape.0) (92 ∷ escape.1 ∷ []) (escaped c escapes other)

escaped_ascii : (c : ℕ) (escapes : List (ℕ × ℕ)) (other : List ℕ) → AllByRecursion (λ escape. escape.1 < 128) escapes → IsAscii other → IsAscii (escaped c escapes other)
escaped_ascii c [] other small ascii = ascii
escaped_ascii c (escape ∷ escapes) other small ascii =
    cond_both (eqb c escape.0) (92 ∷ escape.1 ∷ []) (escaped c escapes other) IsAscii
    (λ e. IsAscii-cons 92 (escape.1 ∷ []) (lit< tt) (IsAscii-cons escape.1 [] small.0 IsAscii-nil)) (λ e. escaped_ascii c escapes other small.1 ascii)

char_ascii : (c : ℕ) → IsAscii (py_char c)
char_ascii c =
    escaped_ascii c ((34, 34) ∷ (92, 92) ∷ (10, 110) ∷ (13, 114) ∷ (9, 116) ∷ (8, 98) ∷ (12, 102) ∷ []) (cond (nat_le 32 c && nat_le c 126) (c ∷ []) (flat_map unit_escape (encode_utf16 c)))
    (lit< tt, (lit< tt, (lit< tt, (lit< tt, (lit< tt, (lit< tt, (lit< tt, tt)))))))
    (cond_both (nat_le 32 c && nat_le c 126) (c ∷ []) (flat_map unit_escape (encode_utf16 c)) IsAscii
    (λ e. IsAscii-cons c [] (let h = leb-true c 126 (and_parts (nat_le 32 c) (nat_le c 126) e).1 in omega arith) IsAscii-nil)
    (λ e. each_ascii unit_escape unit_ascii (encode_utf16 c)))

quoted_ascii : (text : List ℕ) → IsAscii (py_quoted text)
quoted_ascii text = IsAscii-cons 34 (flat_map py_char (chars text) ++ 34 ∷ []) (lit< tt) (IsAscii-append (flat_map py_char (chars text)) (34 ∷ []) (each_ascii py_char char_ascii (chars text)) (spelled_out (34 ∷ []) refl))

-- ---- values

abbrev IsAsciiIfThere : Option (List ℕ) → Type 0
IsAsciiIfThere text = IfSome text IsAscii

if_ascii : (test : Bool) (text : Option (List ℕ)) → (test ≡ true → IfSome text IsAscii) → IfSome (cond test text None) IsAscii
if_ascii test text h = cond_both test text None IsAsciiIfThere h (λ e. tt)

both_ascii : (a b : Option (List ℕ)) → IfSome a IsAscii → IfSome b IsAscii → IfSome (a <+> b) IsAscii
both_ascii None b h g = tt
both_ascii (Some x) None h g = tt
both_ascii (Some x) (Some y) h g = IsAscii-append x y h g

string_ascii : (text : List ℕ) → IfSome (py_text_string text) IsAscii
string_ascii text = if_ascii (is_utf8 text) (Some (py_quoted text)) (λ e. quoted_ascii text)

number_ascii : (n : Num) → IfSome (py_number n) IsAscii
number_ascii (unsigned n) = if_ascii (nat_lt n (2 ^ 64)) (Some (decimal n)) (λ e. IsAscii-decimal n (ltb-true n (2 ^ 64) e))
number_ascii (negative (pos n)) = tt
number_ascii (negative (negsuc n)) = if_ascii (nat_lt n (2 ^ 63)) (Some (signed_decimal (negsuc n))) (λ e. signed n (ltb-true n (2 ^ 63) e))
  where
    signed : (n : ℕ) → n < 2 ^ 63 → IsAscii (signed_decimal (negsuc n))
    signed n h = IsAscii-cons 45 (decimal (suc n)) (lit< tt) (IsAscii-decimal (suc n) (omega arith))
number_ascii (float f) = tt

pair_ascii : (key : List ℕ) (value : Data) (more : Option (List ℕ)) → IfSome (py_data value) IsAscii → IfSome more IsAscii → IfSome (py_text_string key <+> (Some (codes ": ") <+> (py_data value <+> more))) IsAscii
pair_ascii key value more first second =
    both_ascii (py_text_string key) (Some (codes ": ") <+> (py_data value <+> more)) (string_ascii key)
    (both_ascii (Some (codes ": ")) (py_data value <+> more) (spelled_out (codes ": ") refl) (both_ascii (py_data value) more first second))

mutual
  data_ascii : (value : Data) → IfSome (py_data value) IsAscii
  data_ascii null = spelled_out (codes "null") refl
  data_ascii (boolean true) = spelled_out (codes "true") refl
  data_ascii (boolean false) = spelled_out (codes "false") refl
  data_ascii (number n) = number_ascii n
  data_ascii (string s) = string_ascii s
  data_ascii (array items) = items_ascii items
  data_ascii (object members) = members_ascii members

  items_ascii : (items : Items) → IfSome (py_items items) IsAscii
  items_ascii no_items = spelled_out (codes "[]") refl
  items_ascii (item value items) =
      both_ascii (Some (codes "[")) (py_data value <+> py_more_items items) (spelled_out (codes "[") refl) (both_ascii (py_data value) (py_more_items items) (data_ascii value) (more_items_ascii items))

  more_items_ascii : (items : Items) → IfSome (py_more_items items) IsAscii
  more_items_ascii no_items = spelled_out (codes "]") refl
  more_items_ascii (item value items) =
      both_ascii (Some (codes ", ")) (py_data value <+> py_more_items items) (spelled_out (codes ", ") refl) (both_ascii (py_data value) (py_more_items items) (data_ascii value) (more_items_ascii items))

  members_ascii : (members : Members) → IfSome (py_members members) IsAscii
  members_ascii no_members = spelled_out (codes "{}") refl
  members_ascii (member key value members) =
      both_ascii (Some (codes "{")) _ (spelled_out (codes "{") refl) (pair_ascii key value (py_more_members key members) (data_ascii value) (more_members_ascii key members))

  more_members_ascii : (before : List ℕ) (members : Members) → IfSome (py_more_members before members) IsAscii
  more_members_ascii before no_members = spelled_out (codes "}") refl
  more_members_ascii before (member key value members) =
      if_ascii (is_lt (slice_cmp nat_cmp before key)) _
      (λ e. both_ascii (Some (codes ", ")) _ (spelled_out (codes ", ") refl) (pair_ascii key value (py_more_members key members) (data_ascii value) (more_members_ascii key members)))

is_text : (bytes : List ℕ) → IsAscii bytes → is_utf8 bytes ≡ true
is_text bytes ascii = is_utf8-from_IsUtf8 bytes (IsUtf8-from_ascii bytes ascii)

pub options_utf8 : (value : Data) (text : List ℕ) → py_data value ≡ Some text → is_utf8 text ≡ true
options_utf8 value text e =
    is_text text (subst IsAsciiIfThere e (data_ascii value))

-- ---- types

type_ascii : (stage : StageKind) → IsAscii (type_text stage)
type_ascii (Noop options) = spelled_out (codes "org.osbuild.noop") refl
type_ascii (Error options) = spelled_out (codes "org.osbuild.error") refl
type_ascii (Mkdir options) = spelled_out (codes "org.osbuild.mkdir") refl
type_ascii (Copy options) = spelled_out (codes "org.osbuild.copy") refl
type_ascii (Symlink options) = spelled_out (codes "org.osbuild.symlink") refl
type_ascii (Chmod options) = spelled_out (codes "org.osbuild.chmod") refl
type_ascii (Chown options) = spelled_out (codes "org.osbuild.chown") refl
type_ascii (Groups options) = spelled_out (codes "org.osbuild.groups") refl
type_ascii (Users options) = spelled_out (codes "org.osbuild.users") refl
type_ascii (Hostname options) = spelled_out (codes "org.osbuild.hostname") refl
type_ascii (Locale options) = spelled_out (codes "org.osbuild.locale") refl
type_ascii (Timezone options) = spelled_out (codes "org.osbuild.timezone") refl
type_ascii (Keymap options) = spelled_out (codes "org.osbuild.keymap") refl
type_ascii (MachineId options) = spelled_out (codes "org.osbuild.machine-id") refl

pub type_utf8 : (stage : StageKind) → is_utf8 (type_text stage) ≡ true
type_utf8 stage = is_text (type_text stage) (type_ascii stage)
