-- Chains whose keys have recipes as soundness wants them: each refers to the ends of earlier chains alone.
use Rattle.std.proofs.Common.{◌≡◌, ℕ, List, [], ◌∷◌, ◌++◌, length, Option, Some, None, refl, sym, subst, append_assoc, append-nil}
use Rattle.std.specs.Prelude.{slice_get}
use Rattle.std.specs.List.{AllByRecursion}
use Rattle.std.specs.List.Sorted.{IsStrictlySortedBy}
use Rattle.std.specs.Map.{keys_of}
use Rattle.std.specs.Cmp.Lexicographic.{slice_cmp}
use Rattle.std.specs.Ordering.{nat_cmp}
use Rattle.osb_tree.specs.declared.numbers.Key.{Key}
use Rattle.osb_recipe.specs.Recipes.{Origin}
use Rattle.osb_recipe.specs.Tables.{TableData, Extends, IsChainFrom, last_of}
use Rattle.osb_recipe.specs.Plans.{AreItems}
use Rattle.osb_recipe.specs.declared.references.TreeRef.{TreeRef}
use Rattle.osb_recipe.specs.declared.references.TreeRef.TheVariants.{Empty, Of}
use Rattle.osb_recipe.specs.declared.references.InputRecipe.{InputRecipe}
use Rattle.osb_recipe.specs.declared.references.InputRecipe.TheVariants.{Tree, Files}
use Rattle.osb_recipe.proofs.Interning.{IsLonger, slice_get-more}
use Rattle.osb_plan.proofs.HeldItems.{slice_get-longer}
use Rattle.osb_plan.proofs.LaterTables.{longer_recipes, longer_blobs}

-- ---- ends of chains

-- a key ends one of some chains
pub record IsEnd (chains : List (List Key)) (key : Key) : Type 0 where
  pub place : ℕ
  pub chain : List Key
  pub at : slice_get chains place ≡ Some chain
  pub last : last_of chain ≡ Of key

pub IsEnd-more : (chains others : List (List Key)) (key : Key) → IsEnd chains key → IsEnd (chains ++ others) key
IsEnd-more chains others key end = record { place = end.place; chain = end.chain; at = slice_get-more chains others end.place end.chain end.at; last = end.last }

slice_get-between : (before after : List (List Key)) (chain : List Key) → slice_get (before ++ chain ∷ after) (length before) ≡ Some chain
slice_get-between [] after chain = refl
slice_get-between (first ∷ before) after chain = slice_get-between before after chain

pub IsEnd-between : (before after : List (List Key)) (chain : List Key) (key : Key) → last_of chain ≡ Of key → IsEnd (before ++ chain ∷ after) key
IsEnd-between before after chain key last = record { place = length before; chain = chain; at = slice_get-between before after chain; last = last }

-- ---- what references meet

abbrev pub Meets : (Key → Type 0) → TreeRef → Type 0
Meets P Empty = Unit {0}
Meets P (Of key) = P key

abbrev pub BuildMeets : (Key → Type 0) → Option TreeRef → Type 0
BuildMeets P None = Unit {0}
BuildMeets P (Some ref) = Meets P ref

abbrev pub InputMeets : (Key → Type 0) → InputRecipe → Type 0
InputMeets P (Tree ref) = Meets P ref
InputMeets P (Files numbers) = Unit {0}

module _ (P Q : Key → Type 0) (weaker : (key : Key) → P key → Q key) where
  Meets-weaker : (ref : TreeRef) → Meets P ref → Meets Q ref
  Meets-weaker Empty h = tt
  Meets-weaker (Of key) h = weaker key h

  pub BuildMeets-weaker : (ref : Option TreeRef) → BuildMeets P ref → BuildMeets Q ref
  BuildMeets-weaker None h = tt
  BuildMeets-weaker (Some ref) h = Meets-weaker ref h

  InputMeets-weaker : (input : InputRecipe) → InputMeets P input → InputMeets Q input
  InputMeets-weaker (Tree ref) h = Meets-weaker ref h
  InputMeets-weaker (Files numbers) h = tt

  pub InputsMeet-weaker : (inputs : List (List ℕ × InputRecipe)) → AllByRecursion (λ input. InputMeets P input.1) inputs → AllByRecursion (λ input. InputMeets Q input.1) inputs
  InputsMeet-weaker [] h = tt
  InputsMeet-weaker (input ∷ inputs) h = (InputMeets-weaker input.1 h.0, InputsMeet-weaker inputs h.1)

-- ---- files of which each item stands in the table

abbrev pub AreAt : List (List ℕ) → List ℕ → List (List ℕ) → Type 0
AreAt blobs [] [] = Unit {0}
AreAt blobs (number ∷ numbers) (item ∷ items) = (slice_get blobs number ≡ Some item) × AreAt blobs numbers items
AreAt blobs numbers items = ⊥

pub record HasFiles (blobs : List (List ℕ)) (numbers : List ℕ) : Type 0 where
  pub items : List (List ℕ)
  pub there : AreAt blobs numbers items
  pub sound : AreItems items

abbrev pub InputHasFiles : List (List ℕ) → InputRecipe → Type 0
InputHasFiles blobs (Tree ref) = Unit {0}
InputHasFiles blobs (Files numbers) = HasFiles blobs numbers

AreAt-longer : (blobs longer : List (List ℕ)) (numbers : List ℕ) (items : List (List ℕ)) → IsLonger blobs longer → AreAt blobs numbers items → AreAt longer numbers items
AreAt-longer blobs longer [] [] long there = tt
AreAt-longer blobs longer [] (item ∷ items) long there = there
AreAt-longer blobs longer (number ∷ numbers) [] long there = there
AreAt-longer blobs longer (number ∷ numbers) (item ∷ items) long there = (slice_get-longer blobs longer number item long there.0, AreAt-longer blobs longer numbers items long there.1)

input_longer : (blobs longer : List (List ℕ)) (input : InputRecipe) → IsLonger blobs longer → InputHasFiles blobs input → InputHasFiles longer input
input_longer blobs longer (Tree ref) long has = tt
input_longer blobs longer (Files numbers) long has = record { items = has.items; there = AreAt-longer blobs longer numbers has.items long has.there; sound = has.sound }

inputs_longer : (blobs longer : List (List ℕ)) (inputs : List (List ℕ × InputRecipe)) → IsLonger blobs longer → AllByRecursion (λ input. InputHasFiles blobs input.1) inputs → AllByRecursion (λ input. InputHasFiles longer input.1) inputs
inputs_longer blobs longer [] long has = tt
inputs_longer blobs longer (input ∷ inputs) long has = (input_longer blobs longer input.1 long has.0, inputs_longer blobs longer inputs long has.1)

-- ---- links

-- a recipe that refers to the ends of some chains and to items of a table, its inputs by rising name
pub record IsOver (chains : List (List Key)) (blobs : List (List ℕ)) (recipe : Origin) : Type 0 where
  pub named : IsStrictlySortedBy (slice_cmp nat_cmp) (keys_of recipe.inputs)
  pub files : AllByRecursion (λ input. InputHasFiles blobs input.1) recipe.inputs
  pub build : BuildMeets (IsEnd chains) recipe.build
  pub trees : AllByRecursion (λ input. InputMeets (IsEnd chains) input.1) recipe.inputs

pub record IsLink (chains : List (List Key)) (table : TableData) (base : TreeRef) (key : Key) : Type 0 where
  pub recipe : Origin
  pub at : slice_get table.recipes key.0 ≡ Some recipe
  pub base_is : recipe.base ≡ base
  pub over : IsOver chains table.blobs recipe

abbrev pub AreLinks : List (List Key) → TableData → TreeRef → List Key → Type 0
AreLinks chains table base [] = Unit {0}
AreLinks chains table base (key ∷ keys) = IsLink chains table base key × AreLinks chains table (Of key) keys

-- chains behind some others, each linked over those before it
abbrev pub AreLinked : TableData → List (List Key) → List (List Key) → Type 0
AreLinked table before [] = Unit {0}
AreLinked table before (chain ∷ chains) = AreLinks before table Empty chain × AreLinked table (before ++ chain ∷ []) chains

pub chain_from_links : (chains : List (List Key)) (table : TableData) (base : TreeRef) (keys : List Key) → AreLinks chains table base keys → IsChainFrom table base keys
chain_from_links chains table base [] links = tt
chain_from_links chains table base (key ∷ keys) links = ((links.0.recipe, links.0.at, links.0.base_is), chain_from_links chains table (Of key) keys links.1)

-- ---- in later tables

module _ (table later : TableData) (is : Extends table later) where
  pub IsLink-later : (chains : List (List Key)) (base : TreeRef) (key : Key) → IsLink chains table base key → IsLink chains later base key
  IsLink-later chains base key link = record {
    recipe = link.recipe;
    at = slice_get-longer table.recipes later.recipes key.0 link.recipe (longer_recipes table later is) link.at;
    base_is = link.base_is;
    over = record { named = link.over.named; files = inputs_longer table.blobs later.blobs link.recipe.inputs (longer_blobs table later is) link.over.files; build = link.over.build; trees = link.over.trees };
  }

  pub AreLinks-later : (chains : List (List Key)) (base : TreeRef) (keys : List Key) → AreLinks chains table base keys → AreLinks chains later base keys
  AreLinks-later chains base [] links = tt
  AreLinks-later chains base (key ∷ keys) links = (IsLink-later chains base key links.0, AreLinks-later chains (Of key) keys links.1)

  pub AreLinked-later : (before chains : List (List Key)) → AreLinked table before chains → AreLinked later before chains
  AreLinked-later before [] linked = tt
  AreLinked-later before (chain ∷ chains) linked = (AreLinks-later before Empty chain linked.0, AreLinked-later (before ++ chain ∷ []) chains linked.1)

-- ---- over other chains with the same ends

module _ (table : TableData) (chains others : List (List Key)) (ends : (key : Key) → IsEnd chains key → IsEnd others key) where
  pub AreLinks-over : (base : TreeRef) (keys : List Key) → AreLinks chains table base keys → AreLinks others table base keys
  AreLinks-over base [] links = tt
  AreLinks-over base (key ∷ keys) links =
      let link = links.0 in (
        record {
          recipe = link.recipe;
          at = link.at;
          base_is = link.base_is;
          over = record {
            named = link.over.named;
            files = link.over.files;
            build = BuildMeets-weaker (IsEnd chains) (IsEnd others) ends link.recipe.build link.over.build;
            trees = InputsMeet-weaker (IsEnd chains) (IsEnd others) ends link.recipe.inputs link.over.trees;
          };
        },
        AreLinks-over (Of key) keys links.1,
      )

-- ---- one more chain

pub AreLinked-pushed : (table : TableData) (before chains : List (List Key)) (chain : List Key) → AreLinked table before chains → AreLinks (before ++ chains) table Empty chain → AreLinked table before (chains ++ chain ∷ [])
AreLinked-pushed table before [] chain linked links = (subst (λ (some : List (List Key)). AreLinks some table Empty chain) (append-nil before) links, tt)
AreLinked-pushed table before (first ∷ chains) chain linked links =
    let same : before ++ (first ∷ chains) ≡ (before ++ first ∷ []) ++ chains = sym (append_assoc before (first ∷ []) chains) in
    (linked.0, AreLinked-pushed table (before ++ first ∷ []) chains chain linked.1 (subst (λ (some : List (List Key)). AreLinks some table Empty chain) same links))
