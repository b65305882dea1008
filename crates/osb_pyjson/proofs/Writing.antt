-- What a buffer holds after text upon text, and the text of a list or of members as a loop writes it.
use Rattle.std.proofs.Common.{◌≡◌, ℕ, Bool, true, false, ◌||◌, List, [], ◌∷◌, ◌++◌, Option, Some, None, String, Global, string_bytes, codes, refl, sym, ap, ◌∙◌, append_assoc}
use Rattle.std.proofs.lemmas.Str.{is_utf8-from_IsUtf8}
use Rattle.std.specs.List.{flat_map}
use Rattle.std.specs.Str.{IsUtf8, chars}
use Rattle.std.specs.List.Sorted.{IsStrictlySortedBy}
use Rattle.std.specs.Map.{keys_of}
use Rattle.std.specs.Ordering.{nat_cmp, is_lt}
use Rattle.std.specs.Cmp.Lexicographic.{slice_cmp}
use Rattle.std.specs.String.{string_cmp}
use Rattle.serde_json.specs.Data.{Data, Items, no_items, item, Members, no_members, member}
use Rattle.serde_json.specs.View.{view, members_view}
use Rattle.serde_json.proofs.Views.{Entry}
use Rattle.serde_json.specs.Written.{has_float, members_have_float}
use Rattle.osb_pyjson.specs.PyText.{◌<+>◌, py_char, py_text_string, py_data, py_items, py_more_items, py_members, py_more_members}
use Rattle.osb_pyjson.specs.Written.{after, separator}

pub after-append : (old first : List ℕ) (rest : Option (List ℕ)) → after old (Some first <+> rest) ≡ after (old ++ first) rest
after-append old first None = refl
after-append old first (Some text) = ap (λ t. Some t) (sym (append_assoc old first text))

pub after-then : (old mid : List ℕ) (first rest : Option (List ℕ)) → after old first ≡ Some mid → after old (first <+> rest) ≡ after mid rest
after-then old mid None rest e = cc
after-then old mid (Some text) rest e =
    let same : old ++ text ≡ mid = cc in
    after-append old text rest ∙ ap (λ m. after m rest) same

pub after-none : (old new : List ℕ) (text : Option (List ℕ)) → text ≡ None → after old text ≡ Some new → ⊥
after-none old new None none e = cc
after-none old new (Some text) none e = cc

pub nothing_first : (text : Option (List ℕ)) → (Some [] <+> text) ≡ text
nothing_first None = refl
nothing_first (Some text) = refl

pub <+>-assoc : (p q r : Option (List ℕ)) → ((p <+> q) <+> r) ≡ (p <+> (q <+> r))
<+>-assoc None q r = refl
<+>-assoc (Some a) None r = refl
<+>-assoc (Some a) (Some b) None = refl
<+>-assoc (Some a) (Some b) (Some c) = ap (λ t. Some t) (append_assoc a b c)

pub quoted_after : (old mid new text : List ℕ) → IsUtf8 text → mid ≡ (old ++ 34 ∷ []) ++ flat_map py_char (chars text) → new ≡ mid ++ 34 ∷ [] → after old (py_text_string text) ≡ Some new
quoted_after old mid new text u inside all =
    rw (is_utf8-from_IsUtf8 text u) (ap (λ t. Some t) (sym (all ∙ ap (λ m. m ++ 34 ∷ []) (inside ∙ append_assoc old (34 ∷ []) (flat_map py_char (chars text))) ∙ append_assoc old (34 ∷ flat_map py_char (chars text)) (34 ∷ []))))

-- ---- items

-- what a loop writes of the items that are left, and the end of the list
abbrev pub items_text : Bool → Items → Option (List ℕ)
items_text is_first no_items = Some (codes "]")
items_text is_first (item d items) = Some (separator is_first) <+> (py_data d <+> items_text false items)

pub items_text-more : (items : Items) → items_text false items ≡ py_more_items items
items_text-more no_items = refl
items_text-more (item d items) = ap (λ rest. Some (codes ", ") <+> (py_data d <+> rest)) (items_text-more items)

pub items_text-all : (items : Items) → (Some (codes "[") <+> items_text true items) ≡ py_items items
items_text-all no_items = refl
items_text-all (item d items) =
    ap (λ text. Some (codes "[") <+> text) (nothing_first (py_data d <+> items_text false items) ∙ ap (λ rest. py_data d <+> rest) (items_text-more items))

pub items_text-step : (is_first : Bool) (old mid : List ℕ) (d : Data) (items : Items) → after (old ++ separator is_first) (py_data d) ≡ Some mid
    → after old (items_text is_first (item d items)) ≡ after mid (items_text false items)
items_text-step is_first old mid d items e =
    after-append old (separator is_first) (py_data d <+> items_text false items) ∙ after-then (old ++ separator is_first) mid (py_data d) (items_text false items) e

-- ---- members

abbrev pub member_text : List ℕ → Data → Option (List ℕ)
member_text key d = py_text_string key <+> (Some (codes ": ") <+> py_data d)

-- the same of members that are left, whatever their order
abbrev pub members_text : Bool → Members → Option (List ℕ)
members_text is_first no_members = Some (codes "}")
members_text is_first (member key d members) = Some (separator is_first) <+> (member_text key d <+> members_text false members)

member_text-then : (key : List ℕ) (d : Data) (rest : Option (List ℕ)) → (member_text key d <+> rest) ≡ (py_text_string key <+> (Some (codes ": ") <+> (py_data d <+> rest)))
member_text-then key d rest =
    <+>-assoc (py_text_string key) (Some (codes ": ") <+> py_data d) rest ∙ ap (λ text. py_text_string key <+> text) (<+>-assoc (Some (codes ": ")) (py_data d) rest)

pub members_text-more : (key : String Global) (es : List Entry) → IsStrictlySortedBy string_cmp (key ∷ keys_of es)
    → members_text false (members_view es) ≡ py_more_members (string_bytes key) (members_view es)
unfolding IsStrictlySortedBy
members_text-more key [] sorted = refl
members_text-more key (e ∷ es) sorted =
    let above : is_lt (slice_cmp nat_cmp (string_bytes key) (string_bytes e.0)) ≡ true = ap is_lt sorted.0.0 in
    rw above (ap (λ text. Some (codes ", ") <+> text) (member_text-then (string_bytes e.0) (view e.1) (members_text false (members_view es)) ∙ ap (λ rest. py_text_string (string_bytes e.0) <+> (Some (codes ": ") <+> (py_data (view e.1) <+> rest))) (members_text-more e.0 es sorted.1)))

pub members_text-all : (es : List Entry) → IsStrictlySortedBy string_cmp (keys_of es) → (Some (codes "{") <+> members_text true (members_view es)) ≡ py_members (members_view es)
members_text-all [] sorted = refl
members_text-all (e ∷ es) sorted =
    ap (λ text. Some (codes "{") <+> text) (nothing_first (member_text (string_bytes e.0) (view e.1) <+> members_text false (members_view es)) ∙ member_text-then (string_bytes e.0) (view e.1) (members_text false (members_view es)) ∙ ap (λ rest. py_text_string (string_bytes e.0) <+> (Some (codes ": ") <+> (py_data (view e.1) <+> rest))) (members_text-more e.0 es sorted))

pub members_text-step : (is_first : Bool) (old mid : List ℕ) (key : List ℕ) (d : Data) (members : Members) → after (old ++ separator is_first) (member_text key d) ≡ Some mid
    → after old (members_text is_first (member key d members)) ≡ after mid (members_text false members)
members_text-step is_first old mid key d members e =
    after-append old (separator is_first) (member_text key d <+> members_text false members) ∙ after-then (old ++ separator is_first) mid (member_text key d) (members_text false members) e

-- ---- a turn of each loop, and its end

or_right : (a b : Bool) → b ≡ true → (a || b) ≡ true
or_right true b e = refl
or_right false b e = e

pub items_text-ends : (old begun left new : List ℕ) (is_first : Bool) (items : Items) → begun ≡ old ++ codes "[" → after left (items_text is_first no_items) ≡ after begun (items_text true items)
    → new ≡ left ++ codes "]" → after old (py_items items) ≡ Some new
items_text-ends old begun left new is_first items start kept end =
    ap (after old) (sym (items_text-all items)) ∙ after-append old (codes "[") (items_text true items) ∙ ap (λ b. after b (items_text true items)) (sym start) ∙ sym kept ∙ ap (λ t. Some t) (sym end)

pub members_text-ends : (old begun left new : List ℕ) (is_first : Bool) (es : List Entry) → IsStrictlySortedBy string_cmp (keys_of es) → begun ≡ old ++ codes "{"
    → after left (members_text is_first no_members) ≡ after begun (members_text true (members_view es)) → new ≡ left ++ codes "}" → after old (py_members (members_view es)) ≡ Some new
members_text-ends old begun left new is_first es sorted start kept end =
    ap (after old) (sym (members_text-all es sorted)) ∙ after-append old (codes "{") (members_text true (members_view es)) ∙ ap (λ b. after b (members_text true (members_view es))) (sym start) ∙ sym kept ∙ ap (λ t. Some t) (sym end)

pub members_text-turn : (left next : List Entry) (e : Entry) (is_first : Bool) (old begun mid : List ℕ) → left ≡ e ∷ next → begun ≡ old ++ separator is_first → after begun (member_text (string_bytes e.0) (view e.1)) ≡ Some mid
    → after mid (members_text false (members_view next)) ≡ after old (members_text is_first (members_view left))
members_text-turn left next e is_first old begun mid taken start written =
    sym (ap (λ es. after old (members_text is_first (members_view es))) taken
    ∙ members_text-step is_first old mid (string_bytes e.0) (view e.1) (members_view next) (ap (λ b. after b (member_text (string_bytes e.0) (view e.1))) (sym start) ∙ written))

pub members_have_float-turn : (left next : List Entry) (e : Entry) → left ≡ e ∷ next → members_have_float (members_view next) ≡ true → members_have_float (members_view left) ≡ true
members_have_float-turn left next e taken h =
    ap (λ es. members_have_float (members_view es)) taken ∙ or_right (has_float (view e.1)) (members_have_float (members_view next)) h
