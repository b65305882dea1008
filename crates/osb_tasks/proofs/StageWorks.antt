-- What one stage does, by the trees of its inputs, or by the fault of one that has none.
use Rattle.std.proofs.Common.{◌≡◌, ℕ, List, Option, Some, None, Result, Ok, Err, refl, sym, ap, ◌∙◌}
use Rattle.std.specs.Prelude.{option_map, unwrap_or}
use Rattle.osb_tree.specs.Paths.{Names}
use Rattle.osb_tree.specs.Trees.{Listing}
use Rattle.osb_tree.specs.declared.faults.StageFault.{StageFault}
use Rattle.osb_recipe.specs.Pairs.{both}
use Rattle.osb_recipe.specs.Tools.{missing_tool}
use Rattle.osb_recipe.specs.Works.{Given, Work, input_trees, tool_fault, staged, does}
use Rattle.osb_recipe.specs.Recipes.{Origin}
use Rattle.osb_recipe.specs.Meanings.{Found, build_at, inputs_at, work_of}
use Rattle.osb_recipe.specs.declared.kinds.StageKind.{StageKind}
use Rattle.osb_tasks.specs.Stages.{one_if_ok, steps_of}

abbrev work_with : StageKind → Option Listing → List (List ℕ × Given) → Work
work_with kind build inputs = record { kind = kind; build = build; inputs = inputs }

made_with : (kind : StageKind) (build : Option Listing) (inputs : List (List ℕ × Given)) (trees : List (List ℕ × Listing)) (base : Listing) → input_trees inputs ≡ Ok trees → does (work_with kind build inputs) base ≡ staged kind build (record { trees = trees }) base
made_with kind build inputs trees base are = rw are

unmade_with : (kind : StageKind) (build : Option Listing) (inputs : List (List ℕ × Given)) (fault : StageFault) (base : Listing) → input_trees inputs ≡ Err fault → does (work_with kind build inputs) base ≡ Err (unwrap_or (tool_fault kind build) fault)
unmade_with kind build inputs fault base are = by (missing_tool kind build) refl
  where
    by : (tool : Option Names) → missing_tool kind build ≡ tool → does (work_with kind build inputs) base ≡ Err (unwrap_or (tool_fault kind build) fault)
    by None is = rw (is, are)
    by (Some path) is = rw is

done_with : (kind : StageKind) (build : Option (Option Listing)) (inputs : Option (List (List ℕ × Given))) (tree : Option Listing) (made : Result (List (List ℕ × Listing)) StageFault) (base : Listing) (result : Result Listing StageFault)
    → build ≡ Some tree → option_map input_trees inputs ≡ Some made → ((given : List (List ℕ × Given)) → input_trees given ≡ made → does (work_with kind tree given) base ≡ result)
    → option_map (λ work. does work base) (both (work_with kind) build inputs) ≡ Some result
done_with kind build None tree made base result is are does_so = absurd (cc)
done_with kind None (Some given) tree made base result is are does_so = absurd (cc)
done_with kind (Some one) (Some given) tree made base result is are does_so =
    let same : one ≡ tree = cc in
    let trees : input_trees given ≡ made = cc in
    ap (λ (b : Option Listing). Some (does (work_with kind b given) base)) same ∙ ap Some (does_so given trees)

pub runs_with : (found : Found) (blobs : List (List ℕ)) (recipe : Origin) (tree : Option Listing) (trees : List (List ℕ × Listing)) (base : Listing) (result : Result Listing StageFault)
    → build_at found recipe.build ≡ Some tree → option_map input_trees (inputs_at found blobs recipe.inputs) ≡ Some (Ok trees) → result ≡ staged recipe.kind tree (record { trees = trees }) base
    → option_map (λ work. does work base) (work_of found blobs recipe) ≡ Some result
runs_with found blobs recipe tree trees base result is are made =
    done_with recipe.kind (build_at found recipe.build) (inputs_at found blobs recipe.inputs) tree (Ok trees) base result is are (λ given made_so. made_with recipe.kind tree given trees base made_so ∙ sym made)

pub stops_with : (found : Found) (blobs : List (List ℕ)) (recipe : Origin) (tree : Option Listing) (fault stopped : StageFault) (base : Listing)
    → build_at found recipe.build ≡ Some tree → option_map input_trees (inputs_at found blobs recipe.inputs) ≡ Some (Err fault) → stopped ≡ unwrap_or (tool_fault recipe.kind tree) fault
    → option_map (λ work. does work base) (work_of found blobs recipe) ≡ Some (Err stopped)
stops_with found blobs recipe tree fault stopped base is are made =
    done_with recipe.kind (build_at found recipe.build) (inputs_at found blobs recipe.inputs) tree (Err fault) base (Err stopped) is are (λ given made_so. unmade_with recipe.kind tree given fault base made_so ∙ ap Err (sym made))

-- ---- whether the stage is run

counted : (kind : StageKind) (build : Option (Option Listing)) (inputs : Option (List (List ℕ × Given))) (tree : Option Listing) (made : Result (List (List ℕ × Listing)) StageFault) → build ≡ Some tree → option_map input_trees inputs ≡ Some made
    → steps_of (both (work_with kind) build inputs) ≡ one_if_ok made
counted kind build None tree made is are = absurd (cc)
counted kind None (Some given) tree made is are = absurd (cc)
counted kind (Some one) (Some given) tree made is are =
    let trees : input_trees given ≡ made = cc in
    ap one_if_ok trees

pub steps_with : (found : Found) (blobs : List (List ℕ)) (recipe : Origin) (tree : Option Listing) (made : Result (List (List ℕ × Listing)) StageFault)
    → build_at found recipe.build ≡ Some tree → option_map input_trees (inputs_at found blobs recipe.inputs) ≡ Some made → steps_of (work_of found blobs recipe) ≡ one_if_ok made
steps_with found blobs recipe tree made is are = counted recipe.kind (build_at found recipe.build) (inputs_at found blobs recipe.inputs) tree made is are
