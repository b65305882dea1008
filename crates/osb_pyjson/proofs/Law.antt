-- Values with the same text are equal, whatever follows the texts.
use Rattle.std.proofs.Common.{◌≡◌, ℕ, suc, pos, negsuc, ◌<◌, ◌^◌, Bool, true, false, true≢false, ◌||◌, cond, eqb, List, [], ◌∷◌, ◌++◌, codes, Option, Some, None, refl, sym, ap, ap₂, ◌∙◌, append_assoc, arith}
use Rattle.std.specs.Prelude.{nat_lt}
use Rattle.std.specs.Fmt.{decimal, signed_decimal}
use Rattle.std.specs.Ordering.{nat_cmp, is_lt}
use Rattle.std.specs.Cmp.Lexicographic.{slice_cmp}
use Rattle.std.specs.Str.{is_utf8}
use Rattle.std.proofs.lemmas.Bool.Decides.{nat_tests, Decides-eqb}
use Rattle.std.proofs.lemmas.List.{append_cancel_left}
use Rattle.serde_json.specs.Data.{Num, unsigned, negative, float, Data, null, boolean, number, string, array, object, Items, no_items, item, Members, no_members, member}
use Rattle.osb_pyjson.specs.PyText.{◌<+>◌, py_quoted, py_text_string, py_number, py_data, py_items, py_more_items, py_members, py_more_members}
use Rattle.osb_pyjson.proofs.Digits.{is_digit, begins_with_digit, decimals_tell, decimal_begins}
use Rattle.osb_pyjson.proofs.Strings.{quoted_tells}

-- ---- the parts of a text

some_same : (a b : List ℕ) → Some a ≡ Some b → a ≡ b
some_same a b e = cc

tails : (a b : ℕ) (s t : List ℕ) → a ∷ s ≡ b ∷ t → s ≡ t
tails a b s t e = cc

when : (b : Bool) (text : Option (List ℕ)) (s : List ℕ) → cond b text None ≡ Some s → (b ≡ true) × (text ≡ Some s)
when true text s e = (refl, e)
when false text s e = cc

-- a text of two parts behind a lead, and what follows it
abbrev Parts : List ℕ → Option (List ℕ) → Option (List ℕ) → List ℕ → Type 0
Parts lead p q whole = (a b : List ℕ) × (p ≡ Some a) × (q ≡ Some b) × (whole ≡ lead ++ (a ++ b))

parts : (lead : List ℕ) (p q : Option (List ℕ)) (s : List ℕ) → (Some lead <+> (p <+> q)) ≡ Some s → Parts lead p q s
parts lead None q s e = cc
parts lead (Some a) None s e = cc
parts lead (Some a) (Some b) s e = (a, b, refl, refl, sym (some_same _ _ e))

with_rest : (lead a b x : List ℕ) → (lead ++ (a ++ b)) ++ x ≡ lead ++ (a ++ (b ++ x))
with_rest lead a b x = append_assoc lead (a ++ b) x ∙ ap (λ t. lead ++ t) (append_assoc a b x)

-- ---- the kind of a value is told by the first byte

-- 1 for a number, 2 for a truth, and the first byte for each other one
abbrev byte_kind : ℕ → ℕ
byte_kind c = cond (is_digit c || eqb c 45) 1 (cond (eqb c 116 || eqb c 102) 2 c)

abbrev first_kind : List ℕ → ℕ
first_kind [] = 0
first_kind (c ∷ text) = byte_kind c

abbrev kind_of : Data → ℕ
kind_of null = 110
kind_of (boolean b) = 2
kind_of (number n) = 1
kind_of (string s) = 34
kind_of (array items) = 91
kind_of (object members) = 123

digit_kind : (c : ℕ) → is_digit c ≡ true → byte_kind c ≡ 1
digit_kind c e = rw e refl

decimal_kind : (n : ℕ) (x : List ℕ) → n < 2 ^ 64 → first_kind (decimal n ++ x) ≡ 1
decimal_kind n x h =
    let begins = decimal_begins n x h in
    ap first_kind begins.2 ∙ digit_kind begins.0 begins.3

below : (m n : ℕ) → nat_lt m n ≡ true → m < n
below m n e = grind (arith, nat_tests)

number_kind : (n : Num) (s x : List ℕ) → py_number n ≡ Some s → first_kind (s ++ x) ≡ 1
number_kind (unsigned n) s x e =
    let w = when (nat_lt n (2 ^ 64)) (Some (decimal n)) s e in
    ap (λ t. first_kind (t ++ x)) (sym (some_same (decimal n) s w.1)) ∙ decimal_kind n x (below n (2 ^ 64) w.0)
number_kind (negative (pos n)) s x e = cc
number_kind (negative (negsuc n)) s x e =
    let w = when (nat_lt n (2 ^ 63)) (Some (signed_decimal (negsuc n))) s e in
    ap (λ t. first_kind (t ++ x)) (sym (some_same (signed_decimal (negsuc n)) s w.1))
number_kind (float f) s x e = cc

string_kind : (text s x : List ℕ) → py_text_string text ≡ Some s → first_kind (s ++ x) ≡ 34
string_kind text s x e =
    let w = when (is_utf8 text) (Some (py_quoted text)) s e in
    ap (λ t. first_kind (t ++ x)) (sym (some_same (py_quoted text) s w.1))

lead_kind : (lead : List ℕ) (p q : Option (List ℕ)) (s x : List ℕ) → (Some lead <+> (p <+> q)) ≡ Some s → (t : List ℕ) × (s ++ x ≡ lead ++ t)
lead_kind lead p q s x e =
    let w = parts lead p q s e in
    (w.0 ++ (w.1 ++ x), ap (λ t. t ++ x) w.4 ∙ with_rest lead w.0 w.1 x)

kind_told : (d : Data) (s x : List ℕ) → py_data d ≡ Some s → first_kind (s ++ x) ≡ kind_of d
kind_told null s x e = ap (λ t. first_kind (t ++ x)) (sym (some_same _ s e))
kind_told (boolean true) s x e = ap (λ t. first_kind (t ++ x)) (sym (some_same _ s e))
kind_told (boolean false) s x e = ap (λ t. first_kind (t ++ x)) (sym (some_same _ s e))
kind_told (number n) s x e = number_kind n s x e
kind_told (string text) s x e = string_kind text s x e
kind_told (array no_items) s x e = ap (λ t. first_kind (t ++ x)) (sym (some_same _ s e))
kind_told (array (item d items)) s x e = ap first_kind (lead_kind (codes "[") (py_data d) (py_more_items items) s x e).1
kind_told (object no_members) s x e = ap (λ t. first_kind (t ++ x)) (sym (some_same _ s e))
kind_told (object (member key d members)) s x e =
    ap first_kind (lead_kind (codes "{") (py_text_string key) (Some (codes ": ") <+> (py_data d <+> py_more_members key members)) s x e).1

-- ---- what a text tells, whatever follows it

minus_apart : (n : ℕ) (t x : List ℕ) → n < 2 ^ 64 → decimal n ++ x ≡ 45 ∷ t → ⊥
minus_apart n t x h e =
    let begins = decimal_begins n x h in
    let minus : begins.0 ≡ 45 = cc in
    let bad : is_digit 45 ≡ true = ap is_digit (sym minus) ∙ begins.3 in
    cc

first_byte : List ℕ → ℕ
first_byte [] = 0
first_byte (c ∷ text) = c

-- texts that begin with different bytes
bytes_apart : (a b : ℕ) (s t : List ℕ) → eqb a b ≡ false → a ∷ s ≡ b ∷ t → ⊥
unfolding first_byte
bytes_apart a b s t other e = true≢false (sym ((Decides-eqb a b).1 (ap first_byte e)) ∙ other)

word_ends : (word s t x y : List ℕ) → Some word ≡ Some s → Some word ≡ Some t → s ++ x ≡ t ++ y → x ≡ y
word_ends word s t x y hs ht e =
    append_cancel_left word x y (ap (λ a. a ++ x) (some_same word s hs) ∙ e ∙ ap (λ a. a ++ y) (sym (some_same word t ht)))

number_tells : (m n : Num) (s t x y : List ℕ) → py_number m ≡ Some s → py_number n ≡ Some t → begins_with_digit x ≡ false → begins_with_digit y ≡ false → s ++ x ≡ t ++ y → (m ≡ n) × (x ≡ y)
number_tells (unsigned m) (unsigned n) s t x y hs ht nx ny e =
    let v = when (nat_lt m (2 ^ 64)) (Some (decimal m)) s hs in
    let w = when (nat_lt n (2 ^ 64)) (Some (decimal n)) t ht in
    let told = decimals_tell m n x y (below m (2 ^ 64) v.0) (below n (2 ^ 64) w.0) nx ny (ap (λ a. a ++ x) (some_same (decimal m) s v.1) ∙ e ∙ ap (λ a. a ++ y) (sym (some_same (decimal n) t w.1))) in
    (ap unsigned told.0, told.1)
number_tells (unsigned m) (negative (negsuc n)) s t x y hs ht nx ny e =
    let v = when (nat_lt m (2 ^ 64)) (Some (decimal m)) s hs in
    let w = when (nat_lt n (2 ^ 63)) (Some (signed_decimal (negsuc n))) t ht in
    absurd (minus_apart m (decimal (suc n) ++ y) x (below m (2 ^ 64) v.0) (ap (λ a. a ++ x) (some_same (decimal m) s v.1) ∙ e ∙ ap (λ a. a ++ y) (sym (some_same (signed_decimal (negsuc n)) t w.1))))
number_tells (negative (negsuc m)) (unsigned n) s t x y hs ht nx ny e =
    let v = when (nat_lt m (2 ^ 63)) (Some (signed_decimal (negsuc m))) s hs in
    let w = when (nat_lt n (2 ^ 64)) (Some (decimal n)) t ht in
    absurd (minus_apart n (decimal (suc m) ++ x) y (below n (2 ^ 64) w.0) (ap (λ a. a ++ y) (some_same (decimal n) t w.1) ∙ sym e ∙ ap (λ a. a ++ x) (sym (some_same (signed_decimal (negsuc m)) s v.1))))
number_tells (negative (negsuc m)) (negative (negsuc n)) s t x y hs ht nx ny e =
    let v = when (nat_lt m (2 ^ 63)) (Some (signed_decimal (negsuc m))) s hs in
    let w = when (nat_lt n (2 ^ 63)) (Some (signed_decimal (negsuc n))) t ht in
    let whole : 45 ∷ (decimal (suc m) ++ x) ≡ 45 ∷ (decimal (suc n) ++ y) = ap (λ a. a ++ x) (some_same (signed_decimal (negsuc m)) s v.1) ∙ e ∙ ap (λ a. a ++ y) (sym (some_same (signed_decimal (negsuc n)) t w.1)) in
    let small_m = below m (2 ^ 63) v.0 in
    let small_n = below n (2 ^ 63) w.0 in
    let told = decimals_tell (suc m) (suc n) x y (omega arith) (omega arith) nx ny (tails 45 45 _ _ whole) in
    let same : m ≡ n = cc in
    (ap (λ k. negative (negsuc k)) same, told.1)
number_tells (unsigned m) (negative (pos n)) s t x y hs ht nx ny e = cc
number_tells (unsigned m) (float g) s t x y hs ht nx ny e = cc
number_tells (negative (negsuc m)) (negative (pos n)) s t x y hs ht nx ny e = cc
number_tells (negative (negsuc m)) (float g) s t x y hs ht nx ny e = cc
number_tells (negative (pos m)) n s t x y hs ht nx ny e = cc
number_tells (float f) n s t x y hs ht nx ny e = cc

string_tells : (a b s t x y : List ℕ) → py_text_string a ≡ Some s → py_text_string b ≡ Some t → s ++ x ≡ t ++ y → (a ≡ b) × (x ≡ y)
string_tells a b s t x y hs ht e =
    let v = when (is_utf8 a) (Some (py_quoted a)) s hs in
    let w = when (is_utf8 b) (Some (py_quoted b)) t ht in
    quoted_tells a b x y v.0 w.0 (ap (λ r. r ++ x) (some_same (py_quoted a) s v.1) ∙ e ∙ ap (λ r. r ++ y) (sym (some_same (py_quoted b) t w.1)))

boolean_tells : (a b : Bool) (s t x y : List ℕ) → py_data (boolean a) ≡ Some s → py_data (boolean b) ≡ Some t → s ++ x ≡ t ++ y → (a ≡ b) × (x ≡ y)
boolean_tells true true s t x y hs ht e = (refl, word_ends (codes "true") s t x y hs ht e)
boolean_tells false false s t x y hs ht e = (refl, word_ends (codes "false") s t x y hs ht e)
boolean_tells true false s t x y hs ht e = absurd (bytes_apart 116 102 _ _ refl (ap (λ a. a ++ x) (some_same _ s hs) ∙ e ∙ ap (λ a. a ++ y) (sym (some_same _ t ht))))
boolean_tells false true s t x y hs ht e = absurd (bytes_apart 116 102 _ _ refl (ap (λ a. a ++ y) (some_same _ t ht) ∙ sym e ∙ ap (λ a. a ++ x) (sym (some_same _ s hs))))

-- ---- the same of a whole value, given ds a type, so that lists and members can be proved apart

abbrev DataTells : Data → Data → Type 0
DataTells a b =
    (s t x y : List ℕ) → py_data a ≡ Some s → py_data b ≡ Some t → begins_with_digit x ≡ false → begins_with_digit y ≡ false → s ++ x ≡ t ++ y → (a ≡ b) × (x ≡ y)

abbrev MoreItemsTell : Items → Items → Type 0
MoreItemsTell ds es = (s t x y : List ℕ) → py_more_items ds ≡ Some s → py_more_items es ≡ Some t → s ++ x ≡ t ++ y → (ds ≡ es) × (x ≡ y)

abbrev MoreMembersTell : Members → Members → Type 0
MoreMembersTell ds es =
    (k l s t x y : List ℕ) → py_more_members k ds ≡ Some s → py_more_members l es ≡ Some t → s ++ x ≡ t ++ y → (ds ≡ es) × (x ≡ y)

more_items_end : (items : Items) (s x : List ℕ) → py_more_items items ≡ Some s → begins_with_digit (s ++ x) ≡ false
more_items_end no_items s x h = ap (λ t. begins_with_digit (t ++ x)) (sym (some_same _ s h))
more_items_end (item d items) s x h = ap begins_with_digit (lead_kind (codes ", ") (py_data d) (py_more_items items) s x h).1

more_members_end : (k : List ℕ) (members : Members) (s x : List ℕ) → py_more_members k members ≡ Some s → begins_with_digit (s ++ x) ≡ false
more_members_end k no_members s x h = ap (λ t. begins_with_digit (t ++ x)) (sym (some_same _ s h))
more_members_end k (member l d members) s x h =
    let w = when (is_lt (slice_cmp nat_cmp k l)) _ s h in
    ap begins_with_digit (lead_kind (codes ", ") (py_text_string l) (Some (codes ": ") <+> (py_data d <+> py_more_members l members)) s x w.1).1

same_member : (k l : List ℕ) (a b : Data) (ds es : Members) → k ≡ l → a ≡ b → ds ≡ es → member k a ds ≡ member l b es
same_member k l a b ds es ek ed em = cc

item_tells : (lead : List ℕ) (a b : Data) (ds es : Items) → DataTells a b → MoreItemsTell ds es → (s t x y : List ℕ)
    → (Some lead <+> (py_data a <+> py_more_items ds)) ≡ Some s → (Some lead <+> (py_data b <+> py_more_items es)) ≡ Some t → s ++ x ≡ t ++ y → (item a ds ≡ item b es) × (x ≡ y)
item_tells lead a b ds es first later s t x y hs ht e =
    let v = parts lead (py_data a) (py_more_items ds) s hs in
    let w = parts lead (py_data b) (py_more_items es) t ht in
    let whole = sym (ap (λ r. r ++ x) v.4 ∙ with_rest lead v.0 v.1 x) ∙ e ∙ ap (λ r. r ++ y) w.4 ∙ with_rest lead w.0 w.1 y in
    let told = first v.0 w.0 (v.1 ++ x) (w.1 ++ y) v.2 w.2 (more_items_end ds v.1 x v.3) (more_items_end es w.1 y w.3) (append_cancel_left lead _ _ whole) in
    let rest = later v.1 w.1 x y v.3 w.3 told.1 in
    (ap₂ (λ c cs. item c cs) told.0 rest.0, rest.1)

member_tells : (lead k l : List ℕ) (a b : Data) (ds es : Members) → DataTells a b → MoreMembersTell ds es → (s t x y : List ℕ)
    → (Some lead <+> (py_text_string k <+> (Some (codes ": ") <+> (py_data a <+> py_more_members k ds)))) ≡ Some s
    → (Some lead <+> (py_text_string l <+> (Some (codes ": ") <+> (py_data b <+> py_more_members l es)))) ≡ Some t → s ++ x ≡ t ++ y → (member k a ds ≡ member l b es) × (x ≡ y)
member_tells lead k l a b ds es first later s t x y hs ht e =
    let v = parts lead (py_text_string k) (Some (codes ": ") <+> (py_data a <+> py_more_members k ds)) s hs in
    let w = parts lead (py_text_string l) (Some (codes ": ") <+> (py_data b <+> py_more_members l es)) t ht in
    let whole = sym (ap (λ r. r ++ x) v.4 ∙ with_rest lead v.0 v.1 x) ∙ e ∙ ap (λ r. r ++ y) w.4 ∙ with_rest lead w.0 w.1 y in
    let keys = string_tells k l v.0 w.0 (v.1 ++ x) (w.1 ++ y) v.2 w.2 (append_cancel_left lead _ _ whole) in
    let v' = parts (codes ": ") (py_data a) (py_more_members k ds) v.1 v.3 in
    let w' = parts (codes ": ") (py_data b) (py_more_members l es) w.1 w.3 in
    let whole' = sym (ap (λ r. r ++ x) v'.4 ∙ with_rest (codes ": ") v'.0 v'.1 x) ∙ keys.1 ∙ ap (λ r. r ++ y) w'.4 ∙ with_rest (codes ": ") w'.0 w'.1 y in
    let told = first v'.0 w'.0 (v'.1 ++ x) (w'.1 ++ y) v'.2 w'.2 (more_members_end k ds v'.1 x v'.3) (more_members_end l es w'.1 y w'.3) (append_cancel_left (codes ": ") _ _ whole') in
    let rest = later k l v'.1 w'.1 x y v'.3 w'.3 told.1 in
    (same_member k l a b ds es keys.0 told.0 rest.0, rest.1)

-- ---- all of it

kinds_apart : (a b : Data) (s t x y : List ℕ) → py_data a ≡ Some s → py_data b ≡ Some t → s ++ x ≡ t ++ y → eqb (kind_of a) (kind_of b) ≡ false → ⊥
kinds_apart a b s t x y hs ht e other =
    let same = sym (kind_told a s x hs) ∙ ap first_kind e ∙ kind_told b t y ht in
    true≢false (sym ((Decides-eqb (kind_of a) (kind_of b)).1 same) ∙ other)

no_bracket : (d : Data) → eqb 93 (kind_of d) ≡ false
no_bracket null = refl
no_bracket (boolean b) = refl
no_bracket (number n) = refl
no_bracket (string s) = refl
no_bracket (array items) = refl
no_bracket (object members) = refl

no_items_apart : (d : Data) (items : Items) (s t x y : List ℕ) → py_items no_items ≡ Some s → py_items (item d items) ≡ Some t → s ++ x ≡ t ++ y → ⊥
no_items_apart d items s t x y hs ht e =
    let w = parts (codes "[") (py_data d) (py_more_items items) t ht in
    let whole = ap (λ r. r ++ x) (some_same (codes "[]") s hs) ∙ e ∙ ap (λ r. r ++ y) w.4 ∙ with_rest (codes "[") w.0 w.1 y in
    let same = ap first_kind (tails 91 91 _ _ whole) ∙ kind_told d w.0 (w.1 ++ y) w.2 in
    true≢false (sym ((Decides-eqb 93 (kind_of d)).1 same) ∙ no_bracket d)

no_members_apart : (k : List ℕ) (d : Data) (members : Members) (s t x y : List ℕ) → py_members no_members ≡ Some s → py_members (member k d members) ≡ Some t → s ++ x ≡ t ++ y → ⊥
no_members_apart k d members s t x y hs ht e =
    let w = parts (codes "{") (py_text_string k) (Some (codes ": ") <+> (py_data d <+> py_more_members k members)) t ht in
    let whole = ap (λ r. r ++ x) (some_same (codes "{}") s hs) ∙ e ∙ ap (λ r. r ++ y) w.4 ∙ with_rest (codes "{") w.0 w.1 y in
    let same : 125 ≡ 34 = ap first_kind (tails 123 123 _ _ whole) ∙ string_kind k w.0 (w.1 ++ y) w.2 in
    true≢false (ap (λ n. eqb 125 n) same)

more_items_apart : (d : Data) (items : Items) (s t x y : List ℕ) → py_more_items no_items ≡ Some s → py_more_items (item d items) ≡ Some t → s ++ x ≡ t ++ y → ⊥
more_items_apart d items s t x y hs ht e =
    let w = lead_kind (codes ", ") (py_data d) (py_more_items items) t y ht in
    bytes_apart 93 44 _ _ refl (ap (λ r. r ++ x) (some_same (codes "]") s hs) ∙ e ∙ w.1)

more_members_apart : (k l m : List ℕ) (d : Data) (members : Members) (s t x y : List ℕ) → py_more_members k no_members ≡ Some s → py_more_members l (member m d members) ≡ Some t → s ++ x ≡ t ++ y → ⊥
more_members_apart k l m d members s t x y hs ht e =
    let below_next = when (is_lt (slice_cmp nat_cmp l m)) _ t ht in
    let w = lead_kind (codes ", ") (py_text_string m) (Some (codes ": ") <+> (py_data d <+> py_more_members m members)) t y below_next.1 in
    bytes_apart 125 44 _ _ refl (ap (λ r. r ++ x) (some_same (codes "}") s hs) ∙ e ∙ w.1)

mutual
  -- two texts of values, with anything after them that begins with no digit
  pub data_tells : (a b : Data) (s t x y : List ℕ) → py_data a ≡ Some s → py_data b ≡ Some t → begins_with_digit x ≡ false → begins_with_digit y ≡ false → s ++ x ≡ t ++ y → (a ≡ b) × (x ≡ y)
  data_tells null null s t x y hs ht nx ny e = (refl, word_ends (codes "null") s t x y hs ht e)
  data_tells (boolean a) (boolean b) s t x y hs ht nx ny e =
      let told = boolean_tells a b s t x y hs ht e in
      (ap boolean told.0, told.1)
  data_tells (number a) (number b) s t x y hs ht nx ny e =
      let told = number_tells a b s t x y hs ht nx ny e in
      (ap number told.0, told.1)
  data_tells (string a) (string b) s t x y hs ht nx ny e =
      let told = string_tells a b s t x y hs ht e in
      (ap string told.0, told.1)
  data_tells (array ds) (array es) s t x y hs ht nx ny e =
      let told = items_tell ds es s t x y hs ht e in
      (ap array told.0, told.1)
  data_tells (object ds) (object es) s t x y hs ht nx ny e =
      let told = members_tell ds es s t x y hs ht e in
      (ap object told.0, told.1)
  data_tells a b s t x y hs ht nx ny e = absurd (kinds_apart a b s t x y hs ht e refl)

  items_tell : (ds es : Items) (s t x y : List ℕ) → py_items ds ≡ Some s → py_items es ≡ Some t → s ++ x ≡ t ++ y → (ds ≡ es) × (x ≡ y)
  items_tell no_items no_items s t x y hs ht e = (refl, word_ends (codes "[]") s t x y hs ht e)
  items_tell no_items (item b es) s t x y hs ht e = absurd (no_items_apart b es s t x y hs ht e)
  items_tell (item a ds) no_items s t x y hs ht e = absurd (no_items_apart a ds t s y x ht hs (sym e))
  items_tell (item a ds) (item b es) s t x y hs ht e = item_tells (codes "[") a b ds es (data_tells a b) (more_items_tell ds es) s t x y hs ht e

  more_items_tell : (ds es : Items) (s t x y : List ℕ) → py_more_items ds ≡ Some s → py_more_items es ≡ Some t → s ++ x ≡ t ++ y → (ds ≡ es) × (x ≡ y)
  more_items_tell no_items no_items s t x y hs ht e = (refl, word_ends (codes "]") s t x y hs ht e)
  more_items_tell no_items (item b es) s t x y hs ht e = absurd (more_items_apart b es s t x y hs ht e)
  more_items_tell (item a ds) no_items s t x y hs ht e = absurd (more_items_apart a ds t s y x ht hs (sym e))
  more_items_tell (item a ds) (item b es) s t x y hs ht e = item_tells (codes ", ") a b ds es (data_tells a b) (more_items_tell ds es) s t x y hs ht e

  members_tell : (ds es : Members) (s t x y : List ℕ) → py_members ds ≡ Some s → py_members es ≡ Some t → s ++ x ≡ t ++ y → (ds ≡ es) × (x ≡ y)
  members_tell no_members no_members s t x y hs ht e = (refl, word_ends (codes "{}") s t x y hs ht e)
  members_tell no_members (member k b es) s t x y hs ht e = absurd (no_members_apart k b es s t x y hs ht e)
  members_tell (member k a ds) no_members s t x y hs ht e = absurd (no_members_apart k a ds t s y x ht hs (sym e))
  members_tell (member k a ds) (member l b es) s t x y hs ht e = member_tells (codes "{") k l a b ds es (data_tells a b) (more_members_tell ds es) s t x y hs ht e

  more_members_tell : (ds es : Members) (k l s t x y : List ℕ) → py_more_members k ds ≡ Some s → py_more_members l es ≡ Some t → s ++ x ≡ t ++ y → (ds ≡ es) × (x ≡ y)
  more_members_tell no_members no_members k l s t x y hs ht e = (refl, word_ends (codes "}") s t x y hs ht e)
  more_members_tell no_members (member m b es) k l s t x y hs ht e = absurd (more_members_apart k l m b es s t x y hs ht e)
  more_members_tell (member m a ds) no_members k l s t x y hs ht e = absurd (more_members_apart l k m a ds t s y x ht hs (sym e))
  more_members_tell (member m a ds) (member n b es) k l s t x y hs ht e =
      let v = when (is_lt (slice_cmp nat_cmp k m)) _ s hs in
      let w = when (is_lt (slice_cmp nat_cmp l n)) _ t ht in
      member_tells (codes ", ") m n a b ds es (data_tells a b) (more_members_tell ds es) s t x y v.1 w.1 e

pub same_text : (a b : Data) (text : List ℕ) → py_data a ≡ Some text → py_data b ≡ Some text → a ≡ b
same_text a b text ha hb = (data_tells a b text text [] [] ha hb refl refl refl).0
