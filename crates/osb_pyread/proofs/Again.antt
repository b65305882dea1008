-- A value is read from its text, whatever follows it but a digit.
use Rattle.std.proofs.Common.{◌≡◌, ℕ, zero, suc, ◌<◌, ◌≤◌, Bool, true, false, eqb, List, [], ◌∷◌, ◌++◌, codes, length, Option, Some, None, refl, sym, ap, ◌∙◌, append_assoc, Less, arith}
use Rattle.std.proofs.lemmas.Bool.Decides.{Decides-eqb}
use Rattle.std.proofs.lemmas.List.{append-nil, length-append}
use Rattle.std.specs.Ordering.{nat_cmp, is_lt}
use Rattle.std.specs.Cmp.Lexicographic.{slice_cmp}
use Rattle.std.specs.Str.{is_utf8}
use Rattle.serde_json.specs.Data.{Num, Data, null, boolean, number, string, array, object, Items, no_items, item, Members, no_members, member, put, depth, items_depth, members_depth}
use Rattle.serde_json.specs.View.{items_of}
use Rattle.osb_pyjson.specs.PyText.{◌<+>◌, py_number, py_quoted, py_text_string, py_data, py_items, py_more_items, py_members, py_more_members}
use Rattle.osb_pyjson.proofs.Digits.{begins_with_digit}
use Rattle.osb_pyread.specs.Steps.{behind}
use Rattle.osb_pyread.specs.Numerals.{number_at}
use Rattle.osb_pyread.specs.Quotes.{quoted_at}
use Rattle.osb_pyread.specs.Nests.{Reader, skip_comma, plain_at, items_at, member_at, members_at, nested_at, value_at}
use Rattle.osb_pyread.proofs.Loops.{until_more, until_closed}
use Rattle.osb_pyread.proofs.Decimals.{apart, some_same, when, is_numeric, number_front}
use Rattle.osb_pyread.proofs.Escapes.{quoted_again}
use Rattle.osb_pyread.proofs.Keys.{joined, AllBelow, is_below, put_on, below_put}

-- ---- the parts of a text

-- a text of two parts behind a lead
abbrev Parts : List ℕ → Option (List ℕ) → Option (List ℕ) → List ℕ → List ℕ → Type 0
Parts lead p q whole rest = (a b : List ℕ) × (p ≡ Some a) × (q ≡ Some b) × (whole ++ rest ≡ lead ++ (a ++ (b ++ rest)))

parts : (lead : List ℕ) (p q : Option (List ℕ)) (s rest : List ℕ) → (Some lead <+> (p <+> q)) ≡ Some s → Parts lead p q s rest
parts lead None q s rest e = absurd cc
parts lead (Some a) None s rest e = absurd cc
parts lead (Some a) (Some b) s rest e =
    let whole : lead ++ (a ++ b) ≡ s = some_same _ _ e in
    (a, b, refl, refl, ap (λ t. t ++ rest) (sym whole) ∙ append_assoc lead (a ++ b) rest ∙ ap (λ t. lead ++ t) (append_assoc a b rest))

more_items_end : (items : Items) (t rest : List ℕ) → py_more_items items ≡ Some t → begins_with_digit (t ++ rest) ≡ false
more_items_end no_items t rest e = ap (λ s. begins_with_digit (s ++ rest)) (sym (some_same _ t e))
more_items_end (item d items) t rest e = ap begins_with_digit (parts (codes ", ") (py_data d) (py_more_items items) t rest e).4

more_members_end : (k : List ℕ) (ms : Members) (t rest : List ℕ) → py_more_members k ms ≡ Some t → begins_with_digit (t ++ rest) ≡ false
more_members_end k no_members t rest e = ap (λ s. begins_with_digit (s ++ rest)) (sym (some_same _ t e))
more_members_end k (member l d ms) t rest e =
    let w = when (is_lt (slice_cmp nat_cmp k l)) _ t e in
    ap begins_with_digit (parts (codes ", ") (py_text_string l) (Some (codes ": ") <+> (py_data d <+> py_more_members l ms)) t rest w.1).4

-- ---- plain values

lifted : (d c : ℕ) (rest : List ℕ) → eqb c 91 ≡ false → eqb c 123 ≡ false → value_at d (c ∷ rest) ≡ plain_at (c ∷ rest)
unfolding value_at nested_at
lifted zero c rest n91 n123 = refl
lifted (suc d) c rest n91 n123 = rw (n91, n123) refl

plain_null : (rest : List ℕ) → plain_at (codes "null" ++ rest) ≡ Some (null, rest)
unfolding plain_at behind
plain_null rest = refl

plain_true : (rest : List ℕ) → plain_at (codes "true" ++ rest) ≡ Some (boolean true, rest)
unfolding plain_at behind
plain_true rest = refl

plain_false : (rest : List ℕ) → plain_at (codes "false" ++ rest) ≡ Some (boolean false, rest)
unfolding plain_at behind
plain_false rest = refl

plain_string : (bytes text rest : List ℕ) → quoted_at (34 ∷ bytes) ≡ Some (text, rest) → plain_at (34 ∷ bytes) ≡ Some (string text, rest)
unfolding plain_at
plain_string bytes text rest h = rw h refl

plain_number : (c : ℕ) (text : List ℕ) (n : Num) (rest : List ℕ) → is_numeric c ≡ true → number_at (c ∷ text) ≡ Some (n, rest) → plain_at (c ∷ text) ≡ Some (number n, rest)
unfolding plain_at
plain_number c text n rest numeric h =
    rw (apart is_numeric c 34 numeric refl, apart is_numeric c 110 numeric refl, apart is_numeric c 116 numeric refl, apart is_numeric c 102 numeric refl, h) refl

number_again : (n : Num) (d : ℕ) (t rest : List ℕ) → py_number n ≡ Some t → begins_with_digit rest ≡ false → value_at d (t ++ rest) ≡ Some (number n, rest)
number_again n d t rest e ends =
    let f = number_front n t rest e ends in
    ap (value_at d) f.bytes_are ∙ lifted d f.first f.text (apart is_numeric f.first 91 f.numeric refl) (apart is_numeric f.first 123 f.numeric refl) ∙ plain_number f.first f.text n rest f.numeric f.read

string_again : (s : List ℕ) (d : ℕ) (t rest : List ℕ) → py_text_string s ≡ Some t → value_at d (t ++ rest) ≡ Some (string s, rest)
string_again s d t rest e =
    let w = when (is_utf8 s) (Some (py_quoted s)) t e in
    ap (λ x. value_at d (x ++ rest)) (sym (some_same (py_quoted s) t w.1)) ∙ lifted d 34 _ refl refl ∙ plain_string _ s rest (quoted_again s rest w.0)

-- ---- what no value begins with

pub none_is_some : {A : Type 0} (x : A) → None ≡ Some x → ⊥
none_is_some x e = cc

nothing : (d : ℕ) → value_at d [] ≡ None
unfolding value_at nested_at plain_at
nothing zero = refl
nothing (suc d) = refl

no_bracket : (d : ℕ) (rest : List ℕ) → value_at d (93 ∷ rest) ≡ None
unfolding plain_at number_at
no_bracket d rest = lifted d 93 rest refl refl

no_comma : (d : ℕ) (rest : List ℕ) → value_at d (44 ∷ rest) ≡ None
unfolding plain_at number_at
no_comma d rest = lifted d 44 rest refl refl

other_byte : (d c k : ℕ) (rest : List ℕ) (x : Data × List ℕ) → value_at d (k ∷ rest) ≡ None → value_at d (c ∷ rest) ≡ Some x → eqb c k ≡ false
other_byte d c k rest x none some = by (eqb c k) refl
  where
    by : (b : Bool) → eqb c k ≡ b → b ≡ false
    by true e = absurd (none_is_some x (sym none ∙ ap (λ b. value_at d (b ∷ rest)) (sym ((Decides-eqb c k).0 e)) ∙ some))
    by false e = refl

not_closed : (d : ℕ) (bytes : List ℕ) (x : Data × List ℕ) → value_at d bytes ≡ Some x → behind (codes "]") bytes ≡ None
unfolding behind
not_closed d [] x h = refl
not_closed d (c ∷ rest) x h = rw (other_byte d c 93 rest x (no_bracket d rest) h) refl

not_skipped : (d : ℕ) (bytes : List ℕ) (x : Data × List ℕ) → value_at d bytes ≡ Some x → skip_comma bytes ≡ bytes
unfolding behind
not_skipped d [] x h = refl
not_skipped d (c ∷ rest) x h = rw (other_byte d c 44 rest x (no_comma d rest) h) refl

some_text : (d : ℕ) (t : List ℕ) (v : Data) → value_at d (t ++ []) ≡ Some (v, []) → 0 < length t
some_text d [] v h = absurd (none_is_some _ (sym (nothing d) ∙ h))
some_text d (c ∷ t) v h = omega arith

skipped : (bytes : List ℕ) → skip_comma (44 ∷ 32 ∷ bytes) ≡ bytes
unfolding behind
skipped bytes = refl

-- ---- items

abbrev listed : Items → List Data
listed no_items = []
listed (item d items) = d ∷ listed items

items_of-listed : (items : Items) → items_of (listed items) ≡ items
items_of-listed no_items = refl
items_of-listed (item d items) = ap (item d) (items_of-listed items)

items_end : (bytes : List ℕ) → behind (codes "]") (93 ∷ bytes) ≡ Some bytes
unfolding behind
items_end bytes = refl

items_go_on : (bytes : List ℕ) → behind (codes "]") (44 ∷ bytes) ≡ None
unfolding behind
items_go_on bytes = refl

close_items : (d n : ℕ) (before : List Data) (rest : List ℕ) → length (93 ∷ rest) ≤ n → items_at (value_at d) n before (93 ∷ rest) ≡ Some (before, rest)
close_items d zero before rest room = absurd (omega arith)
close_items d (suc n) before rest room = until_closed (codes "]") (λ bytes. value_at d (skip_comma bytes)) (λ items v. items ++ v ∷ []) n before (93 ∷ rest) rest (items_end rest)

-- an item, and those behind it
item_again : (d n : ℕ) (before all : List Data) (v : Data) (bytes after rest : List ℕ) → behind (codes "]") bytes ≡ None → value_at d (skip_comma bytes) ≡ Some (v, after) → length bytes ≤ n → length after < length bytes
    → ((m : ℕ) (held : List Data) → length after ≤ m → items_at (value_at d) m held after ≡ Some (held ++ all, rest)) → items_at (value_at d) n before bytes ≡ Some (before ++ v ∷ all, rest)
item_again d zero before all v bytes after rest more read room less later = absurd (omega arith)
item_again d (suc n) before all v bytes after rest more read room less later =
    until_more (codes "]") (λ bytes. value_at d (skip_comma bytes)) (λ items v. items ++ v ∷ []) n before bytes v after more read
    ∙ later n (before ++ v ∷ []) (omega arith)
    ∙ ap (λ items. Some (items, rest)) (append_assoc before (v ∷ []) all)

array_read : (d : ℕ) (bytes : List ℕ) (items : List Data) (rest : List ℕ) → items_at (value_at d) (length bytes) [] bytes ≡ Some (items, rest) → value_at (suc d) (91 ∷ bytes) ≡ Some (array (items_of items), rest)
unfolding value_at nested_at
array_read d bytes items rest h = rw h refl

-- ---- members

members_end : (bytes : List ℕ) → behind (codes "}") (125 ∷ bytes) ≡ Some bytes
unfolding behind
members_end bytes = refl

members_go_on : (c : ℕ) (bytes : List ℕ) → eqb c 125 ≡ false → behind (codes "}") (c ∷ bytes) ≡ None
unfolding behind
members_go_on c bytes other = rw other refl

quote_not_skipped : (bytes : List ℕ) → skip_comma (34 ∷ bytes) ≡ 34 ∷ bytes
unfolding behind
quote_not_skipped bytes = refl

colon : (bytes : List ℕ) → behind (codes ": ") (58 ∷ 32 ∷ bytes) ≡ Some bytes
unfolding behind
colon bytes = refl

member_read : (read : Reader) (bytes front body after key : List ℕ) (v : Data) → skip_comma bytes ≡ front → quoted_at front ≡ Some (key, 58 ∷ 32 ∷ body) → read body ≡ Some (v, after) → member_at read bytes ≡ Some ((key, v), after)
member_read read bytes front body after key v skips quoted value = rw (skips, quoted, colon body, value) refl

close_members : (d n : ℕ) (before : Members) (rest : List ℕ) → length (125 ∷ rest) ≤ n → members_at (value_at d) n before (125 ∷ rest) ≡ Some (before, rest)
close_members d zero before rest room = absurd (omega arith)
close_members d (suc n) before rest room = until_closed (codes "}") (member_at (value_at d)) (λ ms m. put m.0 m.1 ms) n before (125 ∷ rest) rest (members_end rest)

joined_none : (ms : Members) → ms ≡ joined ms no_members
joined_none no_members = refl
joined_none (member k d ms) = ap (member k d) (joined_none ms)

-- a member, and those behind it
member_again : (d n : ℕ) (before more : Members) (key : List ℕ) (v : Data) (bytes after rest : List ℕ) → behind (codes "}") bytes ≡ None → member_at (value_at d) bytes ≡ Some ((key, v), after) → length bytes ≤ n → length after < length bytes
    → AllBelow before key → ((m : ℕ) → length after ≤ m → members_at (value_at d) m (put key v before) after ≡ Some (joined (put key v before) more, rest))
    → members_at (value_at d) n before bytes ≡ Some (joined before (member key v more), rest)
member_again d zero before more key v bytes after rest go_on read room less below later = absurd (omega arith)
member_again d (suc n) before more key v bytes after rest go_on read room less below later =
    until_more (codes "}") (member_at (value_at d)) (λ ms m. put m.0 m.1 ms) n before bytes (key, v) after go_on read
    ∙ later n (omega arith)
    ∙ ap (λ ms. Some (ms, rest)) (put_on before more key v below)

object_read : (d : ℕ) (bytes : List ℕ) (ms : Members) (rest : List ℕ) → members_at (value_at d) (length bytes) no_members bytes ≡ Some (ms, rest) → value_at (suc d) (123 ∷ bytes) ≡ Some (object ms, rest)
unfolding value_at nested_at
object_read d bytes ms rest h = rw h refl

-- the text of a member behind a lead, with what follows it
record MemberText (lead key : List ℕ) (d : Data) (ms : Members) (whole rest : List ℕ) : Type 0 where
  value : List ℕ
  more : List ℕ
  value_is : py_data d ≡ Some value
  more_is : py_more_members key ms ≡ Some more
  valid : is_utf8 key ≡ true
  bytes_are : whole ++ rest ≡ lead ++ (py_quoted key ++ (58 ∷ 32 ∷ (value ++ (more ++ rest))))

member_text : (lead key : List ℕ) (d : Data) (ms : Members) (t rest : List ℕ) → (Some lead <+> (py_text_string key <+> (Some (codes ": ") <+> (py_data d <+> py_more_members key ms)))) ≡ Some t → MemberText lead key d ms t rest
member_text lead key d ms t rest e =
    let v = parts lead (py_text_string key) (Some (codes ": ") <+> (py_data d <+> py_more_members key ms)) t rest e in
    let w = parts (codes ": ") (py_data d) (py_more_members key ms) v.1 rest v.3 in
    let q = when (is_utf8 key) (Some (py_quoted key)) v.0 v.2 in
    record {
      value = w.0;
      more = w.1;
      value_is = w.2;
      more_is = w.3;
      valid = q.0;
      bytes_are = v.4 ∙ ap (λ x. lead ++ (x ++ (v.1 ++ rest))) (sym (some_same (py_quoted key) v.0 q.1)) ∙ ap (λ x. lead ++ (py_quoted key ++ x)) w.4;
    }

-- ---- all of it

shorter : (lead front body after : List ℕ) → 0 < length lead → length after < length (lead ++ (front ++ (body ++ after)))
shorter lead front body after some = omega (arith, length-append lead (front ++ (body ++ after)), length-append front (body ++ after), length-append body after)

mutual
  pub data_again : (v : Data) (d : ℕ) (t rest : List ℕ) → py_data v ≡ Some t → depth v ≤ d → begins_with_digit rest ≡ false → value_at d (t ++ rest) ≡ Some (v, rest)
  data_again null d t rest e within ends = ap (λ s. value_at d (s ++ rest)) (sym (some_same _ t e)) ∙ lifted d 110 _ refl refl ∙ plain_null rest
  data_again (boolean true) d t rest e within ends = ap (λ s. value_at d (s ++ rest)) (sym (some_same _ t e)) ∙ lifted d 116 _ refl refl ∙ plain_true rest
  data_again (boolean false) d t rest e within ends = ap (λ s. value_at d (s ++ rest)) (sym (some_same _ t e)) ∙ lifted d 102 _ refl refl ∙ plain_false rest
  data_again (number n) d t rest e within ends = number_again n d t rest e ends
  data_again (string s) d t rest e within ends = string_again s d t rest e
  data_again (array items) zero t rest e within ends = absurd (omega arith)
  data_again (array items) (suc d) t rest e within ends = items_again items d t rest e (omega arith)
  data_again (object ms) zero t rest e within ends = absurd (omega arith)
  data_again (object ms) (suc d) t rest e within ends = members_again ms d t rest e (omega arith)

  items_again : (items : Items) (d : ℕ) (t rest : List ℕ) → py_items items ≡ Some t → items_depth items ≤ d → value_at (suc d) (t ++ rest) ≡ Some (array items, rest)
  items_again no_items d t rest e within =
      ap (λ s. value_at (suc d) (s ++ rest)) (sym (some_same _ t e)) ∙ array_read d (93 ∷ rest) [] rest (close_items d (length (93 ∷ rest)) [] rest (omega arith))
  items_again (item a items) d t rest e within =
      let w = parts (codes "[") (py_data a) (py_more_items items) t rest e in
      let after = w.1 ++ rest in
      let body = w.0 ++ after in
      let some = some_text d w.0 a (data_again a d w.0 [] w.2 (omega arith) refl) in
      let first = data_again a d w.0 after w.2 (omega arith) (more_items_end items w.1 rest w.3) in
      let read : value_at d (skip_comma body) ≡ Some (a, after) = ap (value_at d) (not_skipped d body _ first) ∙ first in
      let later = λ (m : ℕ) (held : List Data) (room : length after ≤ m). more_items_again items d m held w.1 rest w.3 (omega arith) room in
      ap (value_at (suc d)) w.4
      ∙ array_read d body (a ∷ listed items) rest (item_again d (length body) [] (listed items) a body after rest (not_closed d body _ first) read (omega arith) (omega (arith, length-append w.0 after)) later)
      ∙ ap (λ all. Some (array (item a all), rest)) (items_of-listed items)

  more_items_again : (items : Items) (d n : ℕ) (before : List Data) (t rest : List ℕ) → py_more_items items ≡ Some t → items_depth items ≤ d → length (t ++ rest) ≤ n
      → items_at (value_at d) n before (t ++ rest) ≡ Some (before ++ listed items, rest)
  more_items_again no_items d n before t rest e within room =
      let same = some_same (codes "]") t e in
      ap (λ s. items_at (value_at d) n before (s ++ rest)) (sym same) ∙ close_items d n before rest (omega (arith, ap (λ s. length (s ++ rest)) same)) ∙ ap (λ all. Some (all, rest)) (sym (append-nil before))
  more_items_again (item a items) d n before t rest e within room =
      let w = parts (codes ", ") (py_data a) (py_more_items items) t rest e in
      let after = w.1 ++ rest in
      let first = data_again a d w.0 after w.2 (omega arith) (more_items_end items w.1 rest w.3) in
      let read : value_at d (skip_comma (codes ", " ++ (w.0 ++ after))) ≡ Some (a, after) = ap (value_at d) (skipped (w.0 ++ after)) ∙ first in
      let later = λ (m : ℕ) (held : List Data) (room : length after ≤ m). more_items_again items d m held w.1 rest w.3 (omega arith) room in
      ap (items_at (value_at d) n before) w.4
      ∙ item_again d n before (listed items) a (codes ", " ++ (w.0 ++ after)) after rest (items_go_on _) read (omega (arith, ap length w.4)) (shorter (codes ", ") w.0 [] after (omega arith)) later

  members_again : (ms : Members) (d : ℕ) (t rest : List ℕ) → py_members ms ≡ Some t → members_depth ms ≤ d → value_at (suc d) (t ++ rest) ≡ Some (object ms, rest)
  members_again no_members d t rest e within =
      ap (λ s. value_at (suc d) (s ++ rest)) (sym (some_same _ t e)) ∙ object_read d (125 ∷ rest) no_members rest (close_members d (length (125 ∷ rest)) no_members rest (omega arith))
  members_again (member key a ms) d t rest e within =
      let w = member_text (codes "{") key a ms t rest e in
      let after = w.more ++ rest in
      let body = w.value ++ after in
      let bytes = py_quoted key ++ (58 ∷ 32 ∷ body) in
      let first = data_again a d w.value after w.value_is (omega arith) (more_members_end key ms w.more rest w.more_is) in
      let read = member_read (value_at d) bytes bytes body after key a (quote_not_skipped _) (quoted_again key (58 ∷ 32 ∷ body) w.valid) first in
      let later = λ (m : ℕ) (room : length after ≤ m). more_members_again ms key d m (member key a no_members) w.more rest w.more_is (omega arith) room (λ k lt. (lt, tt)) in
      ap (value_at (suc d)) w.bytes_are
      ∙ object_read d bytes (member key a ms) rest (member_again d (length bytes) no_members ms key a bytes after rest (members_go_on 34 _ refl) read (omega arith) (omega (arith, shorter (py_quoted key) (58 ∷ 32 ∷ []) w.value after (omega arith))) tt later)

  more_members_again : (ms : Members) (last : List ℕ) (d n : ℕ) (before : Members) (t rest : List ℕ) → py_more_members last ms ≡ Some t → members_depth ms ≤ d → length (t ++ rest) ≤ n
      → ((k : List ℕ) → slice_cmp nat_cmp last k ≡ Less → AllBelow before k) → members_at (value_at d) n before (t ++ rest) ≡ Some (joined before ms, rest)
  more_members_again no_members last d n before t rest e within room below =
      let same = some_same (codes "}") t e in
      ap (λ s. members_at (value_at d) n before (s ++ rest)) (sym same) ∙ close_members d n before rest (omega (arith, ap (λ s. length (s ++ rest)) same)) ∙ ap (λ all. Some (all, rest)) (joined_none before)
  more_members_again (member key a ms) last d n before t rest e within room below =
      let o = when (is_lt (slice_cmp nat_cmp last key)) _ t e in
      let here = below key (is_below (slice_cmp nat_cmp last key) o.0) in
      let w = member_text (codes ", ") key a ms t rest o.1 in
      let after = w.more ++ rest in
      let body = w.value ++ after in
      let front = py_quoted key ++ (58 ∷ 32 ∷ body) in
      let first = data_again a d w.value after w.value_is (omega arith) (more_members_end key ms w.more rest w.more_is) in
      let read = member_read (value_at d) (codes ", " ++ front) front body after key a (skipped front) (quoted_again key (58 ∷ 32 ∷ body) w.valid) first in
      let later = λ (m : ℕ) (room : length after ≤ m). more_members_again ms key d m (put key a before) w.more rest w.more_is (omega arith) room (λ k lt. below_put before key k a here lt) in
      ap (members_at (value_at d) n before) w.bytes_are
      ∙ member_again d n before ms key a (codes ", " ++ front) after rest (members_go_on 44 _ refl) read (omega (arith, ap length w.bytes_are)) (omega (arith, shorter (codes ", ") (py_quoted key) (58 ∷ 32 ∷ w.value) after (omega arith))) here later
