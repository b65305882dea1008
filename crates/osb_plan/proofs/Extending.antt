-- What stays where tables get more recipes and blobs.
use Rattle.std.proofs.Common.{◌≡◌, ℕ, ◌≤◌, List, [], ◌∷◌, ◌++◌, length, Some, sym, ap, ◌∙◌, subst, arith, length-append, append_assoc}
use Rattle.std.specs.Prelude.{slice_get}
use Rattle.std.proofs.lemmas.List.{append-nil}
use Rattle.std.proofs.lemmas.Option.{slice_get_within}
use Rattle.osb_tree.specs.declared.numbers.Key.{Key}
use Rattle.osb_recipe.specs.Recipes.{Origin, IsRefBelow}
use Rattle.osb_recipe.specs.Tables.{TableData, Extends, IsChainFrom, last_of}
use Rattle.osb_recipe.specs.declared.references.TreeRef.{TreeRef}
use Rattle.osb_recipe.specs.declared.references.TreeRef.TheVariants.{Of}
use Rattle.osb_recipe.proofs.Interning.{slice_get-more}

pub extends_itself : (table : TableData) → Extends table table
extends_itself table = record { recipes = []; blobs = []; more_recipes = sym (append-nil table.recipes); more_blobs = sym (append-nil table.blobs) }

pub extends_twice : (table later latest : TableData) → Extends table later → Extends later latest → Extends table latest
extends_twice table later latest first second = record {
  recipes = first.recipes ++ second.recipes;
  blobs = first.blobs ++ second.blobs;
  more_recipes = second.more_recipes ∙ ap (λ xs. xs ++ second.recipes) first.more_recipes ∙ append_assoc table.recipes first.recipes second.recipes;
  more_blobs = second.more_blobs ∙ ap (λ xs. xs ++ second.blobs) first.more_blobs ∙ append_assoc table.blobs first.blobs second.blobs;
}

pub recipe_stays : (table later : TableData) (place : ℕ) (recipe : Origin) → Extends table later → slice_get table.recipes place ≡ Some recipe → slice_get later.recipes place ≡ Some recipe
recipe_stays table later place recipe more there =
    let At : List Origin → Type 0 = λ recipes. slice_get recipes place ≡ Some recipe in
    subst At (sym more.more_recipes) (slice_get-more table.recipes more.recipes place recipe there)

pub no_fewer_recipes : (table later : TableData) → Extends table later → length table.recipes ≤ length later.recipes
no_fewer_recipes table later more = omega (arith, ap length more.more_recipes, length-append table.recipes more.recipes)

pub chain_stays : (table later : TableData) (base : TreeRef) (chain : List Key) → Extends table later → IsChainFrom table base chain → IsChainFrom later base chain
chain_stays table later base [] more is = tt
chain_stays table later base (key ∷ chain) more is =
    ((is.0.0, recipe_stays table later key.0 is.0.0 more is.0.1, is.0.2), chain_stays table later (Of key) chain more is.1)

pub last_below : (table : TableData) (base : TreeRef) (chain : List Key) → IsChainFrom table base chain → IsRefBelow (length table.recipes) (last_of chain)
last_below table base [] is = tt
last_below table base (key ∷ []) is = slice_get_within table.recipes key.0 is.0.0 is.0.1
last_below table base (key ∷ next ∷ chain) is = last_below table (Of key) (next ∷ chain) is.1
