-- What recipes mean is a tree.
use Rattle.std.specs.Prelude.{◌≡◌, Some}
use Rattle.osb_tree.specs.Trees.{Listing, IsTree, IsWithinLimits}
use Rattle.osb_tree.specs.declared.numbers.Key.{Key}
use Rattle.osb_recipe.specs.Tables.{TableData, IsTable}
use Rattle.osb_recipe.specs.Meanings.{meaning}

-- a listing is that of a tree, and no larger than one may be
pub record IsWithin (listing : Listing) : Type 0 where
  pub tree : IsTree listing
  pub limits : IsWithinLimits listing

-- the listing that a recipe's stages make is that of a tree within the limits
abbrev pub MeaningsAreTrees : Type 0
MeaningsAreTrees = (table : TableData) (key : Key) (tree : Listing) → IsTable table → meaning table key ≡ Some tree → IsWithin tree
