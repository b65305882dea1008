-- What is due of a build that is planned: its exports with their trees, or why there are none.
use Rattle.std.specs.Prelude.{ℕ, ◌==◌, Bool, true, false, List, [], ◌∷◌, slice_get, Option, Some, None, Result, Ok, Err, if◌then◌else◌}
use Rattle.std.specs.Option.{option_or}
use Rattle.std.specs.List.{filter_map, list_any}
use Rattle.std.specs.Cmp.Lexicographic.{pointwise}
use Rattle.std.specs.Map.{keys_of, lookup}
use Rattle.osb_tree.specs.Trees.{Listing}
use Rattle.osb_recipe.specs.declared.outcomes.Outcome.{Outcome}
use Rattle.osb_recipe.specs.declared.outcomes.Outcome.TheVariants as outcomes
use Rattle.osb_recipe.specs.Pairs.{both}
use Rattle.osb_recipe.specs.Works.{tree_of}
use Rattle.osb_manifest.specs.Solo.{Built, solo}
use Rattle.osb_manifest.specs.declared.manifests.Manifest.{Manifest}
use Rattle.osb_plan.specs.declared.builds.Build.{Build}
use Rattle.osb_ready.specs.declared.unbuilt.Unbuilt.{Unbuilt}
use Rattle.osb_ready.specs.declared.unbuilt.Unbuilt.TheVariants.{Absent, ReadFault, Refused, NoSuchExport, Source, Failed, NoMemory}
use Rattle.osb_ready.specs.declared.exports.Export.{Export}

-- ---- the needed pipelines

abbrev pub name_at : Manifest → ℕ → Option (List ℕ)
name_at manifest place = slice_get (keys_of manifest.pipelines) place

-- what is due for a pipeline of a name whose stage has a fault
abbrev pub failure_of : Option (List ℕ) → Outcome → Option Unbuilt
failure_of (Some name) (outcomes.Fault stage fault) = Some (Failed name stage fault)
failure_of name outcome = None

-- the first failure, in the order of the manifest
abbrev pub first_failure : Manifest → Built → Option Unbuilt
first_failure manifest [] = None
first_failure manifest (entry ∷ built) = option_or (failure_of (name_at manifest entry.0) entry.1) (first_failure manifest built)

abbrev pub with_name : Option (List ℕ) → Option Listing → Option (List ℕ × Listing)
with_name name tree = both (λ n t. (n, t)) name tree

-- the trees that there are, by name
abbrev pub named_trees : Manifest → Built → List (List ℕ × Listing)
named_trees manifest built = filter_map (λ entry. with_name (name_at manifest entry.0) (tree_of entry.1)) built

-- ---- the exports

-- what a result has in it, made into something else
abbrev pub ok_map : {A B E : Type 0} → (A → B) → Result A E → Result B E
ok_map f (Ok value) = Ok (f value)
ok_map f (Err error) = Err error

abbrev pub with_export : List ℕ → Option Listing → Result (List Export) Unbuilt → Result (List Export) Unbuilt
with_export name None others = Err (NoSuchExport name)
with_export name (Some tree) others = ok_map (λ exports. record { name = name; tree = tree } ∷ exports) others

-- the exports of these names, each with the tree of its name
abbrev pub exports_of : List (List ℕ × Listing) → List (List ℕ) → Result (List Export) Unbuilt
exports_of trees [] = Ok []
exports_of trees (name ∷ names) = with_export name (lookup (pointwise ◌==◌ name) trees) (exports_of trees names)

abbrev pub unless_failed : Option Unbuilt → Result (List Export) Unbuilt → Result (List Export) Unbuilt
unless_failed None exports = exports
unless_failed (Some failure) exports = Err failure

-- the first failure, or else the exports with their trees
abbrev pub built_due : List (List ℕ) → Manifest → Built → Result (List Export) Unbuilt
built_due names manifest built = unless_failed (first_failure manifest built) (exports_of (named_trees manifest built) names)

-- the exports that are due of a build: those of building its manifest alone
abbrev pub exports_due : List (List ℕ) → Build → Result (List Export) Unbuilt
exports_due names build = built_due names build.manifest (solo build.manifest build.needed build.blobs)

-- ---- what came of the tasks

abbrev pub is_lost : Outcome → Bool
is_lost (outcomes.Tree tree) = false
is_lost (outcomes.Fault stage fault) = false
is_lost outcomes.Blocked = false
is_lost outcomes.NoMemory = true

-- by the outcomes of a build's pipelines: want of memory where one ended so, and else what is due of them
abbrev pub came_of : List (List ℕ) → Manifest → Built → Result (List Export) Unbuilt
came_of names manifest built = if list_any (λ entry. is_lost entry.1) built then Err NoMemory else built_due names manifest built

-- a build that is planned is neither absent nor refused, and its items are there
abbrev pub IsOfBuild : Result (List Export) Unbuilt → Type 0
IsOfBuild (Ok exports) = Unit {0}
IsOfBuild (Err (NoSuchExport name)) = Unit {0}
IsOfBuild (Err (Failed pipeline stage fault)) = Unit {0}
IsOfBuild (Err NoMemory) = Unit {0}
IsOfBuild (Err Absent) = ⊥
IsOfBuild (Err ReadFault) = ⊥
IsOfBuild (Err (Refused refusal)) = ⊥
IsOfBuild (Err (Source answer)) = ⊥
