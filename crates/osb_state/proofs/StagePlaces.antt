-- Where stages of a chain take a job.
use Rattle.std.proofs.Common.{◌≡◌, ℕ, ◌+◌, List, [], ◌∷◌, length, None, replicate, refl, ◌∙◌, arith}
use Rattle.std.proofs.lemmas.List.{length-replicate, length-set}
use Rattle.osb_tree.specs.Trees.{Listing}
use Rattle.osb_tree.specs.declared.numbers.Key.{Key}
use Rattle.osb_tree.specs.declared.numbers.TaskNo.{TaskNo}
use Rattle.osb_recipe.specs.Meanings.{Found}
use Rattle.osb_recipe.specs.declared.outcomes.Outcome.{Outcome}
use Rattle.osb_recipe.specs.declared.plans.Plan.{Plan}
use Rattle.osb_job.specs.declared.places.Setup.{Setup}
use Rattle.osb_job.specs.declared.places.Place.{Place}
use Rattle.osb_job.specs.declared.places.Place.TheVariants.{Looking, Reading, Holding, Reserving, Filling, Putting, Ended}
use Rattle.osb_job.specs.Jobs.{CanWant, run_on, trees_with, trees_of, HasTrees, IsOf}

-- the job can be asked, and has this plan
pub record Asks (plan : Plan) (place : Place) : Type 0 where
  pub can : CanWant place
  pub same : IsOf plan place

-- how many trees a job's task has: so many where it has none, and one more where it cannot be asked
abbrev trees_at : ℕ → Place → ℕ
trees_at keys (Looking setup) = length setup.trees
trees_at keys (Reading setup key count parts) = length setup.trees
trees_at keys (Holding setup key tree) = length setup.trees
trees_at keys (Reserving setup key tree run) = length setup.trees
trees_at keys (Filling setup key tree run parts) = length setup.trees
trees_at keys (Putting setup key tree run parts) = keys + 1
trees_at keys Ended = keys + 1
trees_at keys place = keys

no_more : {A : Type 0} (keys : ℕ) → keys + 1 ≡ keys → A
no_more keys is = absurd (omega arith)

asks_from : (plan : Plan) (place : Place) → trees_at (length plan.table.recipes) place ≡ length plan.table.recipes → Asks plan place
asks_from plan (Looking setup) is = record { can = tt; same = is }
asks_from plan (Reading setup key count parts) is = record { can = tt; same = is }
asks_from plan (Holding setup key tree) is = record { can = tt; same = is }
asks_from plan (Reserving setup key tree run) is = record { can = tt; same = is }
asks_from plan (Filling setup key tree run parts) is = record { can = tt; same = is }
asks_from plan (Putting setup key tree run parts) is = no_more (length plan.table.recipes) is
asks_from plan Ended is = no_more (length plan.table.recipes) is
asks_from plan place is = record { can = tt; same = tt }

trees_stay : (plan : Plan) (setup : Setup) (run all : ℕ) (tree : Listing) (keys : List Key) → length setup.trees ≡ all → trees_at all (run_on plan setup run tree keys).place ≡ all
trees_stay plan setup run all tree [] has = refl
trees_stay plan setup run all tree (key ∷ keys) has =
    let later : (next : Listing) → trees_at all (run_on plan setup (run + 1) next keys).place ≡ all = λ next. trees_stay plan setup (run + 1) all next keys has in
    grind (arith, later, has)

pub run_on_asks : (plan : Plan) (setup : Setup) (run : ℕ) (tree : Listing) (keys : List Key) → HasTrees plan setup → Asks plan (run_on plan setup run tree keys).place
run_on_asks plan setup run tree keys has = asks_from plan (run_on plan setup run tree keys).place (trees_stay plan setup run (length plan.table.recipes) tree keys has)

length-trees_with : (plan : Plan) (deps : List TaskNo) (got : List Outcome) (found : Found) → length (trees_with plan deps got found) ≡ length found
length-trees_with plan [] got found = refl
length-trees_with plan (dep ∷ deps) [] found = refl
length-trees_with plan (dep ∷ deps) (outcome ∷ got) found =
    let later : (next : Found) → length (trees_with plan deps got next) ≡ length next = length-trees_with plan deps got in
    grind (arith, later, length-set)

pub length-trees_of : (plan : Plan) (deps : List TaskNo) (got : List Outcome) → length (trees_of plan deps got) ≡ length plan.table.recipes
length-trees_of plan deps got = length-trees_with plan deps got (replicate (length plan.table.recipes) None) ∙ length-replicate (length plan.table.recipes) None
