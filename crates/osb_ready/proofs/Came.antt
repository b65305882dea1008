-- What came of the tasks of a build, where no outcome is lost, is what is due of it.
use Rattle.std.proofs.Common.{◌≡◌, ◌≢◌, ℕ, Bool, true, false, cond, List, Result, Err, refl, sym, ap, ◌∙◌}
use Rattle.osb_tree.specs.declared.numbers.TaskNo.{TaskNo}
use Rattle.osb_recipe.specs.declared.outcomes.Outcome.{Outcome}
use Rattle.osb_recipe.specs.declared.plans.Plan.{Plan}
use Rattle.osb_manifest.specs.Solo.{Built, solo}
use Rattle.osb_plan.specs.Bridge.{IsReady, task_meaning}
use Rattle.osb_plan.specs.declared.builds.Build.{Build}
use Rattle.osb_ready.specs.Pairing.{built_from}
use Rattle.osb_ready.specs.Ends.{AreTaskEnds}
use Rattle.osb_ready.specs.Trees.{built_due, came_of, exports_due}
use Rattle.osb_ready.specs.declared.exports.Export.{Export}
use Rattle.osb_ready.specs.declared.unbuilt.Unbuilt.{Unbuilt}
use Rattle.osb_ready.specs.declared.unbuilt.Unbuilt.TheVariants.{NoMemory}
use Rattle.osb_ready.proofs.Pairing.{keys_of-solo, same_pairs, some_lost}

-- where none is lost, the outcomes beside their places are those of building the manifest alone
same_built : (plan : Plan) (build : Build) (numbers : List TaskNo) (outcomes : List Outcome) → IsReady build → AreTaskEnds plan build numbers outcomes
    → some_lost (built_from outcomes build.needed 0 numbers) ≡ false → built_from outcomes build.needed 0 numbers ≡ solo build.manifest build.needed build.blobs
same_built plan build numbers outcomes ready ends kept =
    same_pairs outcomes build.needed (task_meaning plan) ends.ends 0 numbers (solo build.manifest build.needed build.blobs) (sym (keys_of-solo build ready)) ends.mean kept

by_lost : (names : List (List ℕ)) (build : Build) (built : Built) (result : Result (List Export) Unbuilt) (lost : Bool) → some_lost built ≡ lost → (some_lost built ≡ false → built ≡ solo build.manifest build.needed build.blobs)
    → result ≢ Err NoMemory → result ≡ came_of names build.manifest built → result ≡ exports_due names build
by_lost names build built result true is same known came =
    absurd (known (came ∙ ap (λ b. cond b (Err NoMemory) (built_due names build.manifest built)) is))
by_lost names build built result false is same known came =
    came ∙ ap (λ b. cond b (Err NoMemory) (built_due names build.manifest built)) is ∙ ap (built_due names build.manifest) (same is)

pub came_due : (names : List (List ℕ)) (plan : Plan) (build : Build) (numbers : List TaskNo) (outcomes : List Outcome) (result : Result (List Export) Unbuilt) → IsReady build → AreTaskEnds plan build numbers outcomes
    → (result ≢ Err NoMemory → result ≡ came_of names build.manifest (built_from outcomes build.needed 0 numbers)) → result ≢ Err NoMemory → result ≡ exports_due names build
came_due names plan build numbers outcomes result ready ends came known =
    by_lost names build (built_from outcomes build.needed 0 numbers) result (some_lost (built_from outcomes build.needed 0 numbers)) refl (same_built plan build numbers outcomes ready ends) known (came known)
