-- What two things that may be there make.
pub use Rattle.osb_recipe.specs.Pairs.{both}
