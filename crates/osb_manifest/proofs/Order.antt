-- The turns of a loop over a list whose values each have a list of objects.
use Rattle.std.proofs.Common.{◌≡◌, ℕ, ◌+◌, ◌<◌, List, [], ◌∷◌, ◌++◌, length, get_or, drop, Option, Some, None, Result, Ok, Err, String, Global, string_bytes, refl, sym, ap, ◌∙◌, add-one, drop-cons}
use Rattle.std.specs.List.{flat_map}
use Rattle.std.specs.Result.{IfOk}
use Rattle.std.proofs.lemmas.List.Concat.{flat_map-append}
use Rattle.serde_json.specs.Data.{Data}
use Rattle.serde_json.specs.declared.value.Value.{Value}
use Rattle.serde_json.specs.View.{view, items_view, members_view}
use Rattle.serde_json.proofs.Views.{Entry}
use Rattle.std.proofs.lemmas.List.{append-nil}
use Rattle.osb_shape.specs.Firsts.{first}
use Rattle.osb_shape.specs.Values.{list_of}
use Rattle.osb_manifest.specs.Walks.{Object, in_order, by_name}
use Rattle.osb_manifest.specs.declared.manifests.Refusal.{Refusal}

first-append : {A : Type 0} (xs ys : List A) (x : A) → first xs ≡ Some x → first (xs ++ ys) ≡ Some x
first-append [] ys x e = cc
first-append (z ∷ xs) ys x e = e

none_before : {A : Type 0} (xs ys : List A) → ((x : A) → first xs ≡ Some x → ⊥) → xs ++ ys ≡ ys
none_before [] ys h = refl
none_before (x ∷ xs) ys h = absurd (h x refl)

from_place : (values : List Value) (i : ℕ) (value : Value) → i < length values → value ≡ get_or values i value → drop i values ≡ value ∷ drop (i + 1) values
from_place values i value h e = rw (drop-cons values i value, ← e, ← add-one) refl

module _ (each : ℕ → Data → List Object) (applies : Object → List Refusal) where
  -- what applies to the values from a place on
  abbrev rest : ℕ → List Value → List Refusal
  rest i values = flat_map applies (in_order each i (list_of (items_view values)))

  turn : (values : List Value) (i : ℕ) (value : Value) → i < length values → value ≡ get_or values i value → rest i (drop i values) ≡ flat_map applies (each i (view value)) ++ rest (i + 1) (drop (i + 1) values)
  turn values i value h e =
      ap (rest i) (from_place values i value h e) ∙ flat_map-append applies (each i (view value)) (in_order each (i + 1) (list_of (items_view (drop (i + 1) values))))

  pub found_here : (values : List Value) (i : ℕ) (value : Value) (found : Option Refusal) (refusal : Refusal) → i < length values → value ≡ get_or values i value
      → found ≡ first (flat_map applies (each i (view value))) → found ≡ Some refusal → rest i (drop i values) ≡ rest 0 values → Some refusal ≡ first (rest 0 values)
  found_here values i value found refusal h e is some before =
      sym (ap first (sym before ∙ turn values i value h e) ∙ first-append (flat_map applies (each i (view value))) _ refusal (sym is ∙ some))

  pub found_later : (values : List Value) (i : ℕ) (value : Value) (found : Option Refusal) → i < length values → value ≡ get_or values i value
      → found ≡ first (flat_map applies (each i (view value))) → ((refusal : Refusal) → found ≡ Some refusal → ⊥) → rest i (drop i values) ≡ rest 0 values → rest (i + 1) (drop (i + 1) values) ≡ rest 0 values
  found_later values i value found h e is none before =
      sym (none_before (flat_map applies (each i (view value))) _ (λ refusal some. none refusal (is ∙ some))) ∙ sym (turn values i value h e) ∙ before

-- ---- the turns of a loop over the members of an object

module _ (each : List ℕ → Data → List Object) (applies : Object → List Refusal) where
  -- what applies to the members that are left
  abbrev named_rest : List Entry → List Refusal
  named_rest entries = flat_map applies (by_name each (members_view entries))

  named_turn : (left later : List Entry) (name : String Global) (value : Value) → left ≡ (name, value) ∷ later → named_rest left ≡ flat_map applies (each (string_bytes name) (view value)) ++ named_rest later
  named_turn left later name value e =
      ap named_rest e ∙ flat_map-append applies (each (string_bytes name) (view value)) (by_name each (members_view later))

  pub found_named : (all left later : List Entry) (name : String Global) (value : Value) (found : Option Refusal) (refusal : Refusal) → left ≡ (name, value) ∷ later
      → found ≡ first (flat_map applies (each (string_bytes name) (view value))) → found ≡ Some refusal → named_rest left ≡ named_rest all → Some refusal ≡ first (named_rest all)
  found_named all left later name value found refusal e is some before =
      sym (ap first (sym before ∙ named_turn left later name value e) ∙ first-append (flat_map applies (each (string_bytes name) (view value))) _ refusal (sym is ∙ some))

  pub left_named : (all left later : List Entry) (name : String Global) (value : Value) (found : Option Refusal) → left ≡ (name, value) ∷ later
      → found ≡ first (flat_map applies (each (string_bytes name) (view value))) → ((refusal : Refusal) → found ≡ Some refusal → ⊥) → named_rest left ≡ named_rest all → named_rest later ≡ named_rest all
  left_named all left later name value found e is none before =
      sym (none_before (flat_map applies (each (string_bytes name) (view value))) _ (λ refusal some. none refusal (is ∙ some))) ∙ sym (named_turn left later name value e) ∙ before

pub first-single : {A : Type 0} (found : Option A) (xs : List A) → found ≡ first xs → found ≡ first (xs ++ [])
first-single found xs e = e ∙ ap first (sym (append-nil xs))

-- ---- one list of refusals after another

pub found_below : {A : Type 0} (top below rest : List A) (found : Option A) (x : A) → None ≡ first top → found ≡ first below → found ≡ Some x → Some x ≡ first (top ++ (below ++ rest))
found_below [] below rest found x none e some = sym (first-append below rest x (sym e ∙ some))
found_below (y ∷ top) below rest found x none e some = cc

pub none_below : {A : Type 0} (top below rest : List A) → None ≡ first top → None ≡ first below → first rest ≡ first (top ++ (below ++ rest))
none_below [] [] rest none e = refl
none_below [] (y ∷ below) rest none e = cc
none_below (y ∷ top) below rest none e = cc

pub if_ok_map : {A E : Type 0} (result : Result (Option A) E) (x y : Option A) → x ≡ y → IfOk result (λ found. found ≡ x) → IfOk result (λ found. found ≡ y)
if_ok_map (Ok found) x y e h = h ∙ e
if_ok_map (Err error) x y e h = tt
