-- Recipes that are the same are equal: their texts tell their kinds.
use Rattle.std.proofs.Common.{◌≡◌, ◌↔◌, IsTrue, ℕ, ◌==◌, Bool, true, false, ◌&&◌, List, [], ◌∷◌, Option, Some, None, Result, Ok, refl, sym, ap, ap₂, ◌∙◌, subst}
use Rattle.std.proofs.lemmas.Bool.{false≢true, eqb-true, eq-eqb}
use Rattle.std.specs.Cmp.Derive.{both_true}
use Rattle.std.specs.Cmp.Lexicographic.{pointwise}
use Rattle.osb_pyjson.specs.PyText.{py_data}
use Rattle.osb_pyjson.proofs.Law.{same_text as same_value}
use Rattle.osb_tree.specs.declared.numbers.Key.{Key}
use Rattle.osb_recipe.specs.Kinds.{type_text, kind_of}
use Rattle.osb_recipe.specs.Recipes.{Origin, IsReadFrom, same_ref, same_build, same_input, same_named, same_recipe}
use Rattle.osb_recipe.specs.declared.kinds.StageKind.{StageKind}
use Rattle.osb_recipe.specs.declared.references.TreeRef.{TreeRef}
use Rattle.osb_recipe.specs.declared.references.TreeRef.TheVariants.{Empty, Of}
use Rattle.osb_recipe.specs.declared.references.InputRecipe.{InputRecipe}
use Rattle.osb_recipe.specs.declared.references.InputRecipe.TheVariants.{Tree, Files}

-- ---- both of two tests

and_left : (a b : Bool) → (a && b) ≡ true → a ≡ true
and_left true b e = refl
and_left false b e = e

and_right : (a b : Bool) → (a && b) ≡ true → b ≡ true
and_right true b e = e
and_right false b e = absurd (false≢true e)

-- ---- lists by their items

exact_items : {X : Type 0} (same : X → X → Bool) → ((x y : X) → same x y ≡ true → x ≡ y) → (xs ys : List X) → pointwise same xs ys ≡ true → xs ≡ ys
exact_items same exact [] [] e = refl
exact_items same exact (x ∷ xs) (y ∷ ys) e = ap₂ (λ v vs. v ∷ vs) (exact x y (and_left (same x y) (pointwise same xs ys) e)) (exact_items same exact xs ys (and_right (same x y) (pointwise same xs ys) e))
exact_items same exact [] (y ∷ ys) e = absurd (false≢true e)
exact_items same exact (x ∷ xs) [] e = absurd (false≢true e)

same_items-self : {X : Type 0} (same : X → X → Bool) → ((x : X) → same x x ≡ true) → (xs : List X) → pointwise same xs xs ≡ true
same_items-self same self [] = refl
same_items-self same self (x ∷ xs) = both_true (self x) (same_items-self same self xs)

pub same_bytes-self : (xs : List ℕ) → pointwise ◌==◌ xs xs ≡ true
same_bytes-self xs = same_items-self ◌==◌ (λ x. eq-eqb x x refl) xs

pub exact_bytes : (xs ys : List ℕ) → pointwise ◌==◌ xs ys ≡ true → xs ≡ ys
exact_bytes xs ys e = exact_items ◌==◌ eqb-true xs ys e

-- ---- the parts of a recipe

exact_ref : (a b : TreeRef) → same_ref a b ≡ true → a ≡ b
exact_ref Empty Empty e = refl
exact_ref (Of a) (Of b) e = ap (λ n. let key : Key = record { 0 = n } in Of key) (eqb-true a.0 b.0 e)
exact_ref Empty (Of b) e = absurd (false≢true e)
exact_ref (Of a) Empty e = absurd (false≢true e)

same_ref-self : (a : TreeRef) → same_ref a a ≡ true
same_ref-self Empty = refl
same_ref-self (Of a) = eq-eqb a.0 a.0 refl

exact_build : (a b : Option TreeRef) → same_build a b ≡ true → a ≡ b
exact_build None None e = refl
exact_build (Some a) (Some b) e = ap Some (exact_ref a b e)
exact_build None (Some b) e = absurd (false≢true e)
exact_build (Some a) None e = absurd (false≢true e)

same_build-self : (a : Option TreeRef) → same_build a a ≡ true
same_build-self None = refl
same_build-self (Some a) = same_ref-self a

exact_input : (a b : InputRecipe) → same_input a b ≡ true → a ≡ b
exact_input (Tree a) (Tree b) e = ap Tree (exact_ref a b e)
exact_input (Files a) (Files b) e = ap Files (exact_bytes a b e)
exact_input (Tree a) (Files b) e = absurd (false≢true e)
exact_input (Files a) (Tree b) e = absurd (false≢true e)

same_input-self : (a : InputRecipe) → same_input a a ≡ true
same_input-self (Tree a) = same_ref-self a
same_input-self (Files a) = same_bytes-self a

exact_named : (a b : List ℕ × InputRecipe) → same_named a b ≡ true → a ≡ b
exact_named a b e =
    let names = exact_bytes a.0 b.0 (and_left (pointwise ◌==◌ a.0 b.0) (same_input a.1 b.1) e) in
    let inputs = exact_input a.1 b.1 (and_right (pointwise ◌==◌ a.0 b.0) (same_input a.1 b.1) e) in
    λ i. (names i, inputs i)

same_named-self : (a : List ℕ × InputRecipe) → same_named a a ≡ true
same_named-self a = both_true (same_bytes-self a.0) (same_input-self a.1)

-- ---- kinds

same_ok : {A E : Type 0} (a b : A) (r : Result A E) → r ≡ Ok a → r ≡ Ok b → a ≡ b
same_ok a b r x y = cc

-- one type reads one kind in the options of one text
kinds_by_texts : (a b : StageKind) (x y : List ℕ) → IsReadFrom a x → IsReadFrom b y → type_text a ≡ type_text b → x ≡ y → a ≡ b
kinds_by_texts a b x y s t types texts =
    let Spells : List ℕ → Type 0 = λ text. py_data s.options ≡ Some text in
    let options : s.options ≡ t.options = same_value s.options t.options y (subst Spells texts s.text) t.text in
    same_ok a b (kind_of (type_text a) s.options) s.kind (ap₂ kind_of types options ∙ t.kind)

-- ---- recipes

pub exact_recipe : (a b : Origin) → IsReadFrom a.kind a.options_text → IsReadFrom b.kind b.options_text → same_recipe a b ≡ true → a ≡ b
exact_recipe a b s t e =
    let tests : (Bool × Bool × Bool × Bool × Bool) = (pointwise ◌==◌ (type_text a.kind) (type_text b.kind), pointwise ◌==◌ a.options_text b.options_text, same_build a.build b.build, same_ref a.base b.base, pointwise same_named a.inputs b.inputs) in
    let four = and_left (tests.0 && tests.1 && tests.2 && tests.3) tests.4 e in
    let three = and_left (tests.0 && tests.1 && tests.2) tests.3 four in
    let two = and_left (tests.0 && tests.1) tests.2 three in
    let texts = exact_bytes a.options_text b.options_text (and_right tests.0 tests.1 two) in
    let types = exact_bytes (type_text a.kind) (type_text b.kind) (and_left tests.0 tests.1 two) in
    let kinds = kinds_by_texts a.kind b.kind a.options_text b.options_text s t types texts in
    let builds = exact_build a.build b.build (and_right (tests.0 && tests.1) tests.2 three) in
    let bases = exact_ref a.base b.base (and_right (tests.0 && tests.1 && tests.2) tests.3 four) in
    let inputs = exact_items same_named exact_named a.inputs b.inputs (and_right (tests.0 && tests.1 && tests.2 && tests.3) tests.4 e) in
    λ i. record { kind = kinds i; options_text = texts i; build = builds i; base = bases i; inputs = inputs i }

pub same_recipe-self : (a : Origin) → same_recipe a a ≡ true
same_recipe-self a =
    both_true (both_true (both_true (both_true (same_bytes-self (type_text a.kind)) (same_bytes-self a.options_text)) (same_build-self a.build)) (same_ref-self a.base)) (same_items-self same_named same_named-self a.inputs)

-- what the test says of two recipes that are read from their texts
pub told_recipe : (a b u v : Origin) (r : Bool) → u ≡ a → v ≡ b → IsReadFrom u.kind u.options_text → IsReadFrom v.kind v.options_text → r ≡ same_recipe a b → IsTrue r ↔ (a ≡ b)
told_recipe a b u v r first second s t test =
    let Reads : Origin → Type 0 = λ o. IsReadFrom o.kind o.options_text in
    let Same : Origin → Type 0 = λ o. same_recipe a o ≡ true in
    (λ e. exact_recipe a b (subst Reads first s) (subst Reads second t) (sym test ∙ e), λ e. test ∙ subst Same e (same_recipe-self a))
