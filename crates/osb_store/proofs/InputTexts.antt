-- The texts of what a recipe refers to, read back.
use Rattle.std.proofs.Common.{◌≡◌, ℕ, ◌^◌, ◌<◌, ◌≤◌, Bool, true, false, cond, eqb, List, [], ◌∷◌, ◌++◌, length, Option, Some, None, inl, inr, ◌⊎◌, refl, sym, ap, ◌∙◌, subst, arith, length-append}
use Rattle.std.specs.List.{flat_map, AllByRecursion}
use Rattle.std.specs.Option.{option_map}
use Rattle.std.specs.Str.{is_utf8}
use Rattle.std.proofs.lemmas.Bool.{eqb-true}
use Rattle.std.proofs.lemmas.Option.{none-some, same_Some}
use Rattle.osb_recipe.specs.declared.references.TreeRef.{TreeRef}
use Rattle.osb_recipe.specs.declared.references.TreeRef.TheVariants.{Empty, Of}
use Rattle.osb_recipe.specs.declared.references.InputRecipe.{InputRecipe}
use Rattle.osb_recipe.specs.declared.references.InputRecipe.TheVariants.{Tree, Files}
use Rattle.osb_store.specs.Bytes.{IsBytes}
use Rattle.osb_store.specs.Fields.{number, field}
use Rattle.osb_store.specs.Texts.{ref_text, build_text, content_text, input_text}
use Rattle.osb_store.specs.Reading.{At, made_at, number_at, list_at, text_at, key_of, ref_behind, ref_at, build_behind, build_at, content_behind, content_at, input_at}
use Rattle.osb_store.proofs.Spelling.{Takes, Spells, option_map_some, number_spells, length-number, both_spell, tagged_spells, list_spells, text_spells}

-- ---- behind the byte that tells a kind

either_made : {Z : Type 0} (b : Bool) (x y : Option Z) (z : Z) → cond b x y ≡ Some z → ((b ≡ true) × (x ≡ Some z)) ⊎ (y ≡ Some z)
either_made true x y z e = inl (refl, e)
either_made false x y z e = inr e

module _ {Y : Type 0} (tag : Y → ℕ) (body : Y → List ℕ) (Fits : Y → Type 0) (n : ℕ) (bytes : List ℕ) where
  abbrev IsBehind : Y × List ℕ → Type 0
  IsBehind found = Takes (λ y. n ∷ body y) (λ y. (n ≡ tag y) × Fits y) (n ∷ bytes) found.0 found.1

  bare_behind : (y : Y) (found : Y × List ℕ) → body y ≡ [] → n ≡ tag y → Fits y → Some (y, bytes) ≡ Some found → IsBehind found
  bare_behind y found bare is fits e =
      subst IsBehind (same_Some (y, bytes) found e) (record { parts = ap (λ (xs : List ℕ). n ∷ (xs ++ bytes)) (sym bare); fits = (is, fits) })

  made_behind : {X : Type 0} (text : X → List ℕ) (FitsX : X → Type 0) (from : At X) → Spells text FitsX from → (make : X → Y) → ((x : X) → text x ≡ body (make x)) → ((x : X) → n ≡ tag (make x)) → ((x : X) → FitsX x → Fits (make x))
      → (found : Y × List ℕ) → IsBytes bytes → made_at make from bytes ≡ Some found → IsBehind found
  made_behind text FitsX from spells make same is fits found b e =
      option_map_some (λ x. (make x.0, x.1)) (from bytes) found e (λ x first made.
      let head = spells.takes bytes x.0 x.1 b first in
      subst IsBehind made (record { parts = ap (λ (xs : List ℕ). n ∷ xs) (head.parts ∙ ap (λ (xs : List ℕ). xs ++ x.1) (same x.0)); fits = (is x.0, fits x.0 head.fits) }))

-- ---- trees

abbrev ref_tag : TreeRef → ℕ
ref_tag Empty = 1
ref_tag (Of key) = 2

abbrev ref_body : TreeRef → List ℕ
ref_body Empty = []
ref_body (Of key) = number key.0

abbrev pub RefFits : TreeRef → Type 0
RefFits Empty = Unit {0}
RefFits (Of key) = key.0 < 2 ^ 64

ref_same : (ref : TreeRef) → ref_tag ref ∷ ref_body ref ≡ ref_text ref
ref_same Empty = refl
ref_same (Of key) = refl

ref_takes : (n : ℕ) (bytes : List ℕ) (x : TreeRef) (rest : List ℕ) → IsBytes bytes → ref_behind n bytes ≡ Some (x, rest) → Takes (λ y. n ∷ ref_body y) (λ y. (n ≡ ref_tag y) × RefFits y) (n ∷ bytes) x rest
ref_takes n bytes x rest b e =
    elim (either_made (eqb n 1) (Some (Empty, bytes)) (cond (eqb n 2) (made_at (λ k. Of (key_of k)) number_at bytes) None) (x, rest) e) [
      | inl p ↦ bare_behind ref_tag ref_body RefFits n bytes Empty (x, rest) refl (eqb-true n 1 p.0) tt p.1
      | inr q ↦ elim (either_made (eqb n 2) (made_at (λ k. Of (key_of k)) number_at bytes) None (x, rest) q) [
        | inl p ↦ made_behind ref_tag ref_body RefFits n bytes number (λ k. k < 2 ^ 64) number_at number_spells (λ k. Of (key_of k)) (λ k. refl) (λ k. eqb-true n 2 p.0) (λ k h. h) (x, rest) b p.1
        | inr none ↦ absurd (none-some (x, rest) none)
      ]
    ]

ref_back : (ref : TreeRef) (rest : List ℕ) → length (ref_body ref ++ rest) < 2 ^ 64 → RefFits ref → ref_behind (ref_tag ref) (ref_body ref ++ rest) ≡ Some (ref, rest)
ref_back Empty rest short fits = refl
ref_back (Of key) rest short fits = ap (option_map (λ (x : ℕ × List ℕ). (Of (key_of x.0), x.1))) (number_spells.again key.0 rest short fits)

pub ref_spells : Spells ref_text RefFits ref_at
ref_spells = tagged_spells ref_text RefFits ref_tag ref_body ref_behind ref_same ref_takes ref_back

-- ---- the tree that a stage runs in

abbrev build_tag : Option TreeRef → ℕ
build_tag None = 0
build_tag (Some ref) = ref_tag ref

abbrev build_body : Option TreeRef → List ℕ
build_body None = []
build_body (Some ref) = ref_body ref

abbrev pub BuildFits : Option TreeRef → Type 0
BuildFits None = Unit {0}
BuildFits (Some ref) = RefFits ref

build_same : (build : Option TreeRef) → build_tag build ∷ build_body build ≡ build_text build
build_same None = refl
build_same (Some ref) = ref_same ref

build_takes : (n : ℕ) (bytes : List ℕ) (x : Option TreeRef) (rest : List ℕ) → IsBytes bytes → build_behind n bytes ≡ Some (x, rest) → Takes (λ y. n ∷ build_body y) (λ y. (n ≡ build_tag y) × BuildFits y) (n ∷ bytes) x rest
build_takes n bytes x rest b e =
    elim (either_made (eqb n 0) (Some (None, bytes)) (made_at Some (ref_behind n) bytes) (x, rest) e) [
      | inl p ↦ bare_behind build_tag build_body BuildFits n bytes None (x, rest) refl (eqb-true n 0 p.0) tt p.1
      | inr q ↦ option_map_some (λ (ref : TreeRef × List ℕ). (Some ref.0, ref.1)) (ref_behind n bytes) (x, rest) q (λ ref first made.
          let head = ref_takes n bytes ref.0 ref.1 b first in
          subst (IsBehind build_tag build_body BuildFits n bytes) made (record { parts = head.parts; fits = head.fits }))
    ]

build_back : (build : Option TreeRef) (rest : List ℕ) → length (build_body build ++ rest) < 2 ^ 64 → BuildFits build → build_behind (build_tag build) (build_body build ++ rest) ≡ Some (build, rest)
build_back None rest short fits = refl
build_back (Some Empty) rest short fits = refl
build_back (Some (Of key)) rest short fits = ap (option_map (λ (ref : TreeRef × List ℕ). (Some ref.0, ref.1))) (ref_back (Of key) rest short fits)

pub build_spells : Spells build_text BuildFits build_at
build_spells = tagged_spells build_text BuildFits build_tag build_body build_behind build_same build_takes build_back

-- ---- inputs

abbrev numbers_text : List ℕ → List ℕ
numbers_text numbers = number (length numbers) ++ flat_map number numbers

abbrev pub AreSmall : List ℕ → Type 0
AreSmall numbers = AllByRecursion (λ (k : ℕ). k < 2 ^ 64) numbers

numbers_spell : Spells numbers_text AreSmall (list_at number_at)
numbers_spell = list_spells number (λ k. k < 2 ^ 64) number_at number_spells (λ k. omega (arith, length-number k))

abbrev content_tag : InputRecipe → ℕ
content_tag (Tree ref) = 3
content_tag (Files numbers) = 4

abbrev content_body : InputRecipe → List ℕ
content_body (Tree ref) = ref_text ref
content_body (Files numbers) = numbers_text numbers

abbrev pub ContentFits : InputRecipe → Type 0
ContentFits (Tree ref) = RefFits ref
ContentFits (Files numbers) = AreSmall numbers

content_same : (content : InputRecipe) → content_tag content ∷ content_body content ≡ content_text content
content_same (Tree ref) = refl
content_same (Files numbers) = refl

content_takes : (n : ℕ) (bytes : List ℕ) (x : InputRecipe) (rest : List ℕ) → IsBytes bytes → content_behind n bytes ≡ Some (x, rest) → Takes (λ y. n ∷ content_body y) (λ y. (n ≡ content_tag y) × ContentFits y) (n ∷ bytes) x rest
content_takes n bytes x rest b e =
    elim (either_made (eqb n 3) (made_at Tree ref_at bytes) (cond (eqb n 4) (made_at Files (list_at number_at) bytes) None) (x, rest) e) [
      | inl p ↦ made_behind content_tag content_body ContentFits n bytes ref_text RefFits ref_at ref_spells Tree (λ ref. refl) (λ ref. eqb-true n 3 p.0) (λ ref h. h) (x, rest) b p.1
      | inr q ↦ elim (either_made (eqb n 4) (made_at Files (list_at number_at) bytes) None (x, rest) q) [
        | inl p ↦ made_behind content_tag content_body ContentFits n bytes numbers_text AreSmall (list_at number_at) numbers_spell Files (λ numbers. refl) (λ numbers. eqb-true n 4 p.0) (λ numbers h. h) (x, rest) b p.1
        | inr none ↦ absurd (none-some (x, rest) none)
      ]
    ]

content_back : (content : InputRecipe) (rest : List ℕ) → length (content_body content ++ rest) < 2 ^ 64 → ContentFits content → content_behind (content_tag content) (content_body content ++ rest) ≡ Some (content, rest)
content_back (Tree ref) rest short fits = ap (option_map (λ (x : TreeRef × List ℕ). (Tree x.0, x.1))) (ref_spells.again ref rest short fits)
content_back (Files numbers) rest short fits = ap (option_map (λ (x : List ℕ × List ℕ). (Files x.0, x.1))) (numbers_spell.again numbers rest short fits)

content_spells : Spells content_text ContentFits content_at
content_spells = tagged_spells content_text ContentFits content_tag content_body content_behind content_same content_takes content_back

abbrev pub InputFits : List ℕ × InputRecipe → Type 0
InputFits input = (is_utf8 input.0 ≡ true) × ContentFits input.1

input_spells : Spells input_text InputFits input_at
input_spells = both_spell field (λ (name : List ℕ). is_utf8 name ≡ true) text_at text_spells content_text ContentFits content_at content_spells

pub field_long : (bytes more : List ℕ) → 8 ≤ length (field bytes ++ more)
field_long bytes more = omega (arith, length-append (field bytes) more, length-append (number (length bytes)) bytes, length-number (length bytes))

abbrev pub inputs_text : List (List ℕ × InputRecipe) → List ℕ
inputs_text inputs = number (length inputs) ++ flat_map input_text inputs

pub inputs_spell : Spells inputs_text (AllByRecursion InputFits) (list_at input_at)
inputs_spell = list_spells input_text InputFits input_at input_spells (λ input. omega (arith, field_long input.0 (content_text input.1)))
