-- Values as lists, beside the data that they stand for.
use Rattle.std.proofs.Common.{◌≡◌, ℕ, zero, suc, min, Bool, true, false, IsTrue, List, [], ◌∷◌, length, take, eqb, refl, sym, ap, ◌∙◌, arith}
use Rattle.std.proofs.lemmas.Bool.{false≢true}
use Rattle.std.proofs.lemmas.Bool.Decides.{nat_tests}
use Rattle.std.proofs.lemmas.List.{take_min}
use Rattle.serde_json.specs.declared.value.Value.{Value}
use Rattle.serde_json.specs.View.{view, items_view, members_view}
use Rattle.serde_json.proofs.Views.{Entry}
use Rattle.osb_shape.specs.Values.{is_empty_items, is_empty_members, is_single, list_of}

some_more : (n : ℕ) → false ≡ eqb (suc n) 0
some_more n = grind (arith, nat_tests)

pub is_empty_items-items_view : (values : List Value) → is_empty_items (items_view values) ≡ eqb (length values) 0
is_empty_items-items_view [] = refl
is_empty_items-items_view (value ∷ values) = some_more (length values)

pub is_empty_members-decides : (b : Bool) (entries : List Entry) → (IsTrue b → length entries ≡ 0) × (length entries ≡ 0 → IsTrue b) → b ≡ is_empty_members (members_view entries)
is_empty_members-decides true [] h = refl
is_empty_members-decides true (entry ∷ entries) h = absurd (let none : length (entry ∷ entries) ≡ 0 = h.0 refl in omega arith)
is_empty_members-decides false [] h = absurd (false≢true (h.1 refl))
is_empty_members-decides false (entry ∷ entries) h = refl

pub length-list_of : (values : List Value) → length (list_of (items_view values)) ≡ length values
length-list_of [] = refl
length-list_of (value ∷ values) = ap suc (length-list_of values)

list_of-take : (n : ℕ) (values : List Value) → list_of (items_view (take n values)) ≡ take n (list_of (items_view values))
list_of-take zero values = refl
list_of-take (suc n) [] = refl
list_of-take (suc n) (value ∷ values) = ap (λ more. view value ∷ more) (list_of-take n values)

-- the values before a place, which a list may not reach
pub list_of-before : (values : List Value) (i n : ℕ) → n ≡ min i (length values) → list_of (items_view (take n values)) ≡ take i (list_of (items_view values))
list_of-before values i n e = rw e (ap (λ before. list_of (items_view before)) (take_min i values) ∙ list_of-take i values)

is_single-members_view : (entries : List Entry) → is_single (members_view entries) ≡ eqb (length entries) 1
is_single-members_view [] = refl
is_single-members_view (entry ∷ []) = refl
is_single-members_view (entry ∷ other ∷ entries) = two_or_more (length entries)
  where
    two_or_more : (n : ℕ) → false ≡ eqb (suc (suc n)) 1
    two_or_more n = grind (arith, nat_tests)

pub is_single-counted : (b : Bool) (n : ℕ) (entries : List Entry) → n ≡ length entries → b ≡ eqb n 1 → b ≡ is_single (members_view entries)
is_single-counted b n entries counted e = e ∙ ap (λ m. eqb m 1) counted ∙ sym (is_single-members_view entries)
