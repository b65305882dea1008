-- What may come of a build that is planned.
use Rattle.std.proofs.Common.{◌≡◌, ◌≢◌, ◌==◌, ℕ, Bool, true, false, cond, List, [], ◌∷◌, Option, Some, None, Result, Ok, Err, sym, subst}
use Rattle.std.specs.Map.{lookup}
use Rattle.std.specs.Option.{option_or}
use Rattle.std.specs.List.{list_any}
use Rattle.std.specs.Cmp.Lexicographic.{pointwise}
use Rattle.osb_tree.specs.Trees.{Listing}
use Rattle.osb_recipe.specs.declared.outcomes.Outcome.{Outcome}
use Rattle.osb_recipe.specs.declared.outcomes.Outcome.TheVariants as outcomes
use Rattle.osb_manifest.specs.Solo.{Built}
use Rattle.osb_manifest.specs.declared.manifests.Manifest.{Manifest}
use Rattle.osb_ready.specs.Trees.{name_at, failure_of, first_failure, with_export, exports_of, unless_failed, built_due, is_lost, came_of, IsOfBuild}
use Rattle.osb_ready.specs.declared.exports.Export.{Export}
use Rattle.osb_ready.specs.declared.unbuilt.Unbuilt.{Unbuilt}
use Rattle.osb_ready.specs.declared.unbuilt.Unbuilt.TheVariants.{Absent, ReadFault, Refused, NoSuchExport, Source, Failed, NoMemory}

with_export-of_build : (name : List ℕ) (tree : Option Listing) (others : Result (List Export) Unbuilt) → IsOfBuild others → IsOfBuild (with_export name tree others)
with_export-of_build name None others h = tt
with_export-of_build name (Some tree) (Ok exports) h = tt
with_export-of_build name (Some tree) (Err unbuilt) h = h

exports_of-of_build : (trees : List (List ℕ × Listing)) (names : List (List ℕ)) → IsOfBuild (exports_of trees names)
exports_of-of_build trees [] = tt
exports_of-of_build trees (name ∷ names) = with_export-of_build name (lookup (pointwise ◌==◌ name) trees) (exports_of trees names) (exports_of-of_build trees names)

abbrev IsFailure : Option Unbuilt → Type 0
IsFailure None = Unit {0}
IsFailure (Some unbuilt) = IsOfBuild (Err unbuilt)

failure_of-is : (name : Option (List ℕ)) (outcome : Outcome) → IsFailure (failure_of name outcome)
failure_of-is None outcome = tt
failure_of-is (Some name) (outcomes.Tree tree) = tt
failure_of-is (Some name) (outcomes.Fault stage fault) = tt
failure_of-is (Some name) outcomes.Blocked = tt
failure_of-is (Some name) outcomes.NoMemory = tt

either_failure : (first others : Option Unbuilt) → IsFailure first → IsFailure others → IsFailure (option_or first others)
either_failure None others f g = g
either_failure (Some unbuilt) others f g = f

first_failure-is : (manifest : Manifest) (built : Built) → IsFailure (first_failure manifest built)
first_failure-is manifest [] = tt
first_failure-is manifest (entry ∷ built) = either_failure (failure_of (name_at manifest entry.0) entry.1) (first_failure manifest built) (failure_of-is (name_at manifest entry.0) entry.1) (first_failure-is manifest built)

unless_failed-of_build : (failure : Option Unbuilt) (exports : Result (List Export) Unbuilt) → IsFailure failure → IsOfBuild exports → IsOfBuild (unless_failed failure exports)
unless_failed-of_build None exports f h = h
unless_failed-of_build (Some unbuilt) exports f h = f

built_due-of_build : (names : List (List ℕ)) (manifest : Manifest) (built : Built) → IsOfBuild (built_due names manifest built)
built_due-of_build names manifest built = unless_failed-of_build (first_failure manifest built) _ (first_failure-is manifest built) (exports_of-of_build _ names)

unless_lost : (lost : Bool) (due : Result (List Export) Unbuilt) → IsOfBuild due → IsOfBuild (cond lost (Err NoMemory) due)
unless_lost true due h = tt
unless_lost false due h = h

came_of-of_build : (names : List (List ℕ)) (manifest : Manifest) (built : Built) → IsOfBuild (came_of names manifest built)
came_of-of_build names manifest built = unless_lost (list_any (λ entry. is_lost entry.1) built) (built_due names manifest built) (built_due-of_build names manifest built)

-- want of memory, and what came of the tasks, may come of a build
pub is_of_build : (names : List (List ℕ)) (manifest : Manifest) (built : Built) (result : Result (List Export) Unbuilt) → (result ≢ Err NoMemory → result ≡ came_of names manifest built) → IsOfBuild result
is_of_build names manifest built (Ok exports) h = tt
is_of_build names manifest built (Err (NoSuchExport name)) h = tt
is_of_build names manifest built (Err (Failed pipeline stage fault)) h = tt
is_of_build names manifest built (Err NoMemory) h = tt
is_of_build names manifest built (Err Absent) h = subst IsOfBuild (sym (h (λ e. cc))) (came_of-of_build names manifest built)
is_of_build names manifest built (Err ReadFault) h = subst IsOfBuild (sym (h (λ e. cc))) (came_of-of_build names manifest built)
is_of_build names manifest built (Err (Refused refusal)) h = subst IsOfBuild (sym (h (λ e. cc))) (came_of-of_build names manifest built)
is_of_build names manifest built (Err (Source answer)) h = subst IsOfBuild (sym (h (λ e. cc))) (came_of-of_build names manifest built)
