-- A value with a fraction in it has no text.
use Rattle.std.proofs.Common.{◌≡◌, ℕ, Bool, true, false, ◌||◌, cond, List, codes, Option, Some, None, Result, Ok, Err, IsErr, ◌≢◌, refl, sym, ap, ◌∙◌, true≢false}
use Rattle.serde_json.specs.Data.{Num, unsigned, negative, float, Data, null, boolean, number, string, array, object, Items, no_items, item, Members, no_members, member}
use Rattle.serde_json.specs.Find.{is_float}
use Rattle.serde_json.specs.Written.{has_float, items_have_float, members_have_float}
use Rattle.osb_pyjson.specs.PyText.{◌<+>◌, py_number, py_text_string, py_data, py_items, py_more_items, py_members, py_more_members, py_text_of}
use Rattle.osb_pyjson.specs.declared.faults.PyFault.{PyFault}
use Rattle.osb_pyjson.specs.declared.faults.PyFault.TheVariants.{NotWhole, NoMemory}
use Rattle.std.specs.Ordering.{nat_cmp, is_lt}
use Rattle.std.specs.Cmp.Lexicographic.{slice_cmp}

none_second : (text : Option (List ℕ)) → (text <+> None) ≡ None
none_second None = refl
none_second (Some text) = refl

one_missing : (a b : Bool) (p q : Option (List ℕ)) → (a ≡ true → p ≡ None) → (b ≡ true → q ≡ None) → (a || b) ≡ true → (p <+> q) ≡ None
one_missing true b p q f g h = ap (λ t. t <+> q) (f refl)
one_missing false b p q f g h = ap (λ t. p <+> t) (g h) ∙ none_second p

member_missing : (lead : List ℕ) (key p : Option (List ℕ)) → p ≡ None → (Some lead <+> (key <+> (Some (codes ": ") <+> p))) ≡ None
member_missing lead key p e =
    ap (λ t. Some lead <+> (key <+> (Some (codes ": ") <+> t))) e ∙ ap (λ t. Some lead <+> t) (none_second key)

if_missing : (b : Bool) (p : Option (List ℕ)) → p ≡ None → cond b p None ≡ None
if_missing true p e = e
if_missing false p e = refl

number_missing : (n : Num) → is_float n ≡ true → py_number n ≡ None
number_missing (unsigned n) h = cc
number_missing (negative z) h = cc
number_missing (float f) h = refl

mutual
  pub float_has_no_text : (d : Data) → has_float d ≡ true → py_data d ≡ None
  float_has_no_text null h = cc
  float_has_no_text (boolean b) h = cc
  float_has_no_text (number n) h = number_missing n h
  float_has_no_text (string s) h = cc
  float_has_no_text (array items) h = items_missing items h
  float_has_no_text (object members) h = members_missing members h

  items_missing : (items : Items) → items_have_float items ≡ true → py_items items ≡ None
  items_missing no_items h = cc
  items_missing (item d items) h =
      ap (λ t. Some (codes "[") <+> t) (one_missing (has_float d) (items_have_float items) (py_data d) (py_more_items items) (λ e. float_has_no_text d e) (λ e. more_items_missing items e) h)

  more_items_missing : (items : Items) → items_have_float items ≡ true → py_more_items items ≡ None
  more_items_missing no_items h = cc
  more_items_missing (item d items) h =
      ap (λ t. Some (codes ", ") <+> t) (one_missing (has_float d) (items_have_float items) (py_data d) (py_more_items items) (λ e. float_has_no_text d e) (λ e. more_items_missing items e) h)

  members_missing : (members : Members) → members_have_float members ≡ true → py_members members ≡ None
  members_missing no_members h = cc
  members_missing (member key d members) h =
      member_missing (codes "{") (py_text_string key) (py_data d <+> py_more_members key members) (one_missing (has_float d) (members_have_float members) (py_data d) (py_more_members key members) (λ e. float_has_no_text d e) (λ e. more_members_missing key members e) h)

  more_members_missing : (before : List ℕ) (members : Members) → members_have_float members ≡ true → py_more_members before members ≡ None
  more_members_missing before no_members h = cc
  more_members_missing before (member key d members) h =
      if_missing (is_lt (slice_cmp nat_cmp before key)) _ (member_missing (codes ", ") (py_text_string key) (py_data d <+> py_more_members key members) (one_missing (has_float d) (members_have_float members) (py_data d) (py_more_members key members) (λ e. float_has_no_text d e) (λ e. more_members_missing key members e) h))

-- an error that says so where a fraction is the cause is the value's
pub py_text_of-refused : (d : Data) (r : Result (List ℕ) PyFault) → IsErr r → (r ≡ Err NotWhole → has_float d ≡ true) → r ≢ Err NoMemory → r ≡ py_text_of d
py_text_of-refused d (Ok text) err fraction other = absurd (true≢false (sym err))
py_text_of-refused d (Err NotWhole) err fraction other = rw (float_has_no_text d (fraction refl)) refl
py_text_of-refused d (Err NoMemory) err fraction other = absurd (other refl)
