-- The tasks of a plan mean what building each manifest alone gives.
use Rattle.std.proofs.Common.{◌≡◌, ◌==◌, Bool, true, false, ◌&&◌, List, [], ◌∷◌, map, Some, All, refl, ap, ap₂, ◌∙◌}
use Rattle.std.specs.Prelude.{option_map}
use Rattle.std.specs.List.{AllByRecursion, flat_map}
use Rattle.std.specs.Map.{values_of}
use Rattle.std.specs.Cmp.Derive.{both_true}
use Rattle.std.proofs.lemmas.Bool.{false≢true, eqb-true, eq-eqb}
use Rattle.std.proofs.lemmas.Option.{slice_get-map}
use Rattle.osb_tree.specs.declared.numbers.Key.{Key}
use Rattle.osb_recipe.specs.Interning.{place_in}
use Rattle.osb_recipe.specs.Tables.{TableData, IsTable}
use Rattle.osb_recipe.specs.Meanings.{meant}
use Rattle.osb_recipe.specs.Plans.{no_of}
use Rattle.osb_recipe.specs.declared.plans.Plan.{Plan}
use Rattle.osb_manifest.specs.Solo.{solo}
use Rattle.osb_plan.specs.declared.builds.Build.{Build}
use Rattle.osb_plan.specs.Planning.{Chains, table_with_builds, chains_of_builds, same_chain, task_chains, task_numbers, marked_by, task_of, plan_of, planned}
use Rattle.osb_plan.specs.Bridge.{IsReady, meant_by, task_meaning, AreMeant, BridgesTo}
use Rattle.osb_plan.proofs.Bridged.{chains_mean_pipelines}
use Rattle.osb_plan.proofs.Interned.{Holds, interned_all-holds, stands}
use Rattle.osb_plan.proofs.Lists.{all_of_each}

-- ---- equal chains

pub same_chain-self : (chain : List Key) → same_chain chain chain ≡ true
same_chain-self [] = refl
same_chain-self (key ∷ chain) = both_true (eq-eqb key.0 key.0 refl) (same_chain-self chain)

chain_step : (a b : Key) (first second : List Key) (test others : Bool) → (test ≡ true → a.0 ≡ b.0) → (others ≡ true → first ≡ second) → (test && others) ≡ true → (a ∷ first) ≡ (b ∷ second)
chain_step a b first second true others same rest e = ap₂ (λ n keys. let key : Key = record { 0 = n } in key ∷ keys) (same refl) (rest e)
chain_step a b first second false others same rest e = absurd (false≢true e)

pub exact_chain : (first second : List Key) → same_chain first second ≡ true → first ≡ second
exact_chain [] [] e = refl
exact_chain (a ∷ first) (b ∷ second) e = chain_step a b first second (a.0 == b.0) (same_chain first second) (eqb-true a.0 b.0) (exact_chain first second) e
exact_chain [] (b ∷ second) e = absurd (false≢true e)
exact_chain (a ∷ first) [] e = absurd (false≢true e)

-- ---- tasks

module _ (table : TableData) (builds : List Build) (chains : List Chains) (tasks : List (List Key)) where
  abbrev plan : Plan
  plan = plan_of table builds chains tasks

  same_task : (chain : List Key) → Holds same_chain tasks chain → task_meaning plan (no_of (place_in same_chain tasks chain)) ≡ Some (meant table chain)
  same_task chain held =
      ap (option_map (λ task. meant table task.chain))
      (slice_get-map (task_of table tasks (marked_by builds 0 chains)) tasks (place_in same_chain tasks chain) ∙ ap (option_map (task_of table tasks (marked_by builds 0 chains))) (stands same_chain exact_chain tasks chain held))

  same_tasks : (some : Chains) → AllByRecursion (Holds same_chain tasks) (values_of some) → map (task_meaning plan) (task_numbers tasks some) ≡ map (λ built. Some built.1) (meant_by table some)
  same_tasks [] held = refl
  same_tasks (chain ∷ some) held = ap₂ (λ meaning others. meaning ∷ others) (same_task chain.1 held.0) (same_tasks some held.1)

  are_meant : (alone : List Build) (each : List Chains) → AllByRecursion (λ some. AllByRecursion (Holds same_chain tasks) (values_of some)) each
      → map (meant_by table) each ≡ map (λ build. solo build.manifest build.needed build.blobs) alone → AreMeant plan alone (map (task_numbers tasks) each)
  are_meant [] [] held same = tt
  are_meant (build ∷ alone) (some ∷ each) held same =
      let here : meant_by table some ≡ solo build.manifest build.needed build.blobs = cc in
      let rest : map (meant_by table) each ≡ map (λ build. solo build.manifest build.needed build.blobs) alone = cc in
      (same_tasks some held.0 ∙ ap (map (λ built. Some built.1)) here, are_meant alone each held.1 rest)
  are_meant [] (some ∷ each) held same = absurd (cc)
  are_meant (build ∷ alone) [] held same = absurd (cc)

pub plan_bridges : (table : TableData) (builds : List Build) → IsTable table → All IsReady builds → BridgesTo builds (planned table builds)
unfolding planned
plan_bridges table builds is ready =
    let chains = chains_of_builds table builds in
    let tasks = task_chains chains in
    let held = all_of_each (Holds same_chain tasks) (λ some. values_of some) chains (interned_all-holds same_chain same_chain-self [] (flat_map (λ some. values_of some) chains)) in
    are_meant (table_with_builds table builds) builds chains tasks builds chains held (chains_mean_pipelines table builds is ready)
