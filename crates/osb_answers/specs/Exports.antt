-- The exports of builds, one after another.
use Rattle.std.specs.Prelude.{ℕ, ◌+◌, ◌-◌, ◌^◌, ◌≤◌, ◌≡◌, min, Bool, true, false, List, [], ◌∷◌, ◌++◌, codes, map, count_by, Option, Result, Ok, Err}
use Rattle.std.specs.Fmt.{decimal}
use Rattle.osb_base.specs.Faults.{Rose}
use Rattle.osb_tree.specs.Trees.{tree_size}
use Rattle.osb_base.specs.declared.exporters.Op.{Op}
use Rattle.osb_export.specs.Exports.{export_list, Appends, IsProperPrefix}
use Rattle.osb_ready.specs.declared.exports.Export.{Export}
use Rattle.osb_ready.specs.declared.unbuilt.Unbuilt.{Unbuilt as WhyUnbuilt}
use Rattle.osb_ready.specs.declared.unbuilt.Unbuilt.TheVariants as whys
use Rattle.osb_answers.specs.declared.answers.Exported.{Exported as ExportedData}
use Rattle.osb_answers.specs.declared.answers.ExportAnswer.{ExportAnswer}
use Rattle.osb_answers.specs.declared.answers.ExportAnswer.TheVariants.{Exported, Fault, NoMemory}
use Rattle.osb_answers.specs.declared.answers.Answer.{Answer}
use Rattle.osb_answers.specs.declared.answers.Answer.TheVariants.{Unbuilt, Exports}

-- ---- exports with their places

-- a build's place among the manifests, from 1, and one of its exports
abbrev pub Placed : Type 0
Placed = ℕ × ExportedData

-- a folder of the build's place, and in it one of the pipeline's name
abbrev pub folder_of : ℕ → List ℕ → List ℕ
folder_of place name = decimal place ++ (codes "/" ++ name)

abbrev pub placed_of : ℕ → Answer → List Placed
placed_of place (Unbuilt why) = []
placed_of place (Exports exports) = map (λ exported. (place, exported)) exports

-- the exports of builds whose first has this place
abbrev pub all_placed : ℕ → List Answer → List Placed
all_placed place [] = []
all_placed place (answer ∷ answers) = placed_of place answer ++ all_placed (place + 1) answers

-- ---- what was done

abbrev pub ops_of : ℕ → Export → List Op
ops_of place export = export_list (folder_of place export.name) export.tree

-- what was done of an export, by its answer: all of it, or a proper front
abbrev pub IsDone : ℕ → Export → ExportAnswer → List Op → Type 0
IsDone place export (Exported size) part = (part ≡ ops_of place export) × (size ≡ tree_size export.tree)
IsDone place export Fault part = IsProperPrefix part (ops_of place export)
IsDone place export NoMemory part = IsProperPrefix part (ops_of place export)

-- the operations of several exports, one export after another
pub data InOrder : List Placed → List Op → Type 0 where
  no_export : InOrder [] []
  one_more : (place : ℕ) (exported : ExportedData) (part : List Op) (others : List Placed) (ops : List Op) → IsDone place exported.export exported.answer part → InOrder others ops → InOrder ((place, exported) ∷ others) (part ++ ops)

abbrev pub is_exported : ExportAnswer → Bool
is_exported (Exported size) = true
is_exported Fault = false
is_exported NoMemory = false

abbrev pub is_fault : ExportAnswer → Bool
is_fault (Exported size) = false
is_fault Fault = true
is_fault NoMemory = false

-- a count of faults, before the run and after it
pub record Count : Type 0 where
  pub before : ℕ
  pub now : ℕ

abbrev pub HasRisen : Count → Type 0
HasRisen count = Rose count.before count.now

-- a count that rose by a number, or stands at its last value
abbrev pub RoseBy : ℕ → Count → Type 0
RoseBy n count = min (count.before + n) (2 ^ 64 - 1) ≤ count.now

-- the operations of the exporter, where it tells
pub record ExporterSeen : Type 0 where
  pub before : Option (List Op)
  pub now : Option (List Op)
  pub faults : Count

-- the exports with their answers: where the exporter tells, these are its operations, and its count rose by the number of
-- export faults
pub record AreExported (exporter : ExporterSeen) (exports : List Placed) : Type 0 where
  pub ops : List Op
  pub in_order : InOrder exports ops
  pub done : Appends exporter.before exporter.now ops
  pub faults : RoseBy (count_by (λ placed. is_fault placed.1.answer) exports) exporter.faults

-- one export, by what the exporter did meanwhile
pub record IsOneExport (exporter : ExporterSeen) (place : ℕ) (export : Export) (answer : ExportAnswer) : Type 0 where
  pub part : List Op
  pub done : Appends exporter.before exporter.now part
  pub is : IsDone place export answer part
  pub faults : RoseBy (count_by is_fault (answer ∷ [])) exporter.faults

-- ---- answers

-- the answer of a build: why there are no trees, or the exports that there are; want of memory may stand in their place
abbrev pub IsAnswerOf : Result (List Export) WhyUnbuilt → Answer → Type 0
IsAnswerOf (Err why) answer = answer ≡ Unbuilt why
IsAnswerOf (Ok exports) (Unbuilt why) = why ≡ whys.NoMemory
IsAnswerOf (Ok exports) (Exports list) = map (λ exported. exported.export) list ≡ exports
