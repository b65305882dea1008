-- The lines that answers are written as.
use Rattle.std.specs.Prelude.{ℕ, ◌+◌, List, [], ◌∷◌, ◌++◌, codes}
use Rattle.std.specs.Fmt.{decimal}
use Rattle.osb_tree.specs.Paths.{path_text}
use Rattle.std.specs.List.{flat_map}
use Rattle.osb_tree.specs.declared.faults.OptionFault.{OptionFault}
use Rattle.osb_tree.specs.declared.faults.OptionFault.TheVariants as options
use Rattle.osb_tree.specs.declared.faults.StageFault.{StageFault}
use Rattle.osb_tree.specs.declared.faults.StageFault.TheVariants as faults
use Rattle.osb_manifest.specs.declared.manifests.Refusal.{Refusal}
use Rattle.osb_manifest.specs.declared.manifests.Refusal.TheVariants as refusals
use Rattle.osb_pyjson.specs.PyText.{py_quoted}
use Rattle.osb_base.specs.Digests.{digest_text}
use Rattle.osb_sources.specs.declared.answers.SourceAnswer.{SourceAnswer}
use Rattle.osb_sources.specs.declared.answers.SourceAnswer.TheVariants as sources
use Rattle.osb_ready.specs.declared.unbuilt.Unbuilt.{Unbuilt}
use Rattle.osb_ready.specs.declared.unbuilt.Unbuilt.TheVariants.{Absent, ReadFault, Refused, NoSuchExport, Source, Failed, NoMemory}
use Rattle.osb_answers.specs.declared.answers.ExportAnswer.{ExportAnswer}
use Rattle.osb_answers.specs.declared.answers.ExportAnswer.TheVariants as export_answers
use Rattle.osb_answers.specs.declared.answers.Answer.{Answer}
use Rattle.osb_answers.specs.declared.answers.Answer.TheVariants as builds

-- a number, and a text as Python prints it
abbrev pub numbered : ℕ → List ℕ → List ℕ
numbered number text = decimal number ++ (codes " " ++ py_quoted text)

-- the number of an option's fault, and the member's name
abbrev pub option_words : OptionFault → List ℕ
option_words (options.Missing name) = numbered 1 name
option_words (options.WrongKind name) = numbered 2 name
option_words (options.OutOfRange name) = numbered 3 name
option_words (options.BadPath name) = numbered 4 name
option_words (options.UnknownMember name) = numbered 5 name
option_words options.NoMemory = codes "want of memory"

-- the number of a refusal, and its place; of a member its name too, and of options what is wrong with them
abbrev pub refusal_words : Refusal → List ℕ
refusal_words (refusals.TooLong place) = numbered 1 place
refusal_words (refusals.NotJson place) = numbered 2 place
refusal_words (refusals.NotObject place) = numbered 3 place
refusal_words (refusals.Version place) = numbered 4 place
refusal_words (refusals.TooMany place) = numbered 5 place
refusal_words (refusals.Member place name) = numbered 6 place ++ (codes " " ++ py_quoted name)
refusal_words (refusals.BadNumber place) = numbered 7 place
refusal_words (refusals.DuplicatePipeline place) = numbered 8 place
refusal_words (refusals.UnknownReference place) = numbered 9 place
refusal_words (refusals.UnknownStage place) = numbered 10 place
refusal_words (refusals.UnknownInput place) = numbered 11 place
refusal_words (refusals.UnknownSource place) = numbered 12 place
refusal_words (refusals.BadChecksum place) = numbered 13 place
refusal_words (refusals.Encoding place) = numbered 14 place
refusal_words (refusals.Options place fault) = numbered 15 place ++ (codes " " ++ option_words fault)
refusal_words refusals.NoMemory = codes "want of memory"

-- the number of a stage's fault, and what it is about
abbrev pub fault_words : StageFault → List ℕ
fault_words (faults.Missing path) = numbered 1 (path_text path)
fault_words (faults.Exists path) = numbered 2 (path_text path)
fault_words (faults.NotADir path) = numbered 3 (path_text path)
fault_words (faults.NotAFile path) = numbered 4 (path_text path)
fault_words (faults.NoInput name) = numbered 5 name
fault_words (faults.NoAccount name) = numbered 6 name
fault_words (faults.AccountExists name) = numbered 7 name
fault_words (faults.NumberTaken number) = codes "8 " ++ decimal number
fault_words (faults.BadLine path line) = numbered 9 (path_text path) ++ (codes " " ++ decimal line)
fault_words (faults.ToolMissing path) = numbered 10 (path_text path)
fault_words (faults.Asked number) = codes "11 " ++ decimal number
fault_words faults.TreeTooLarge = codes "12"
fault_words faults.NoMemory = codes "want of memory"

-- what is wrong with an item, and its digest
abbrev pub source_words : SourceAnswer → List ℕ
source_words (sources.Missing digest) = codes "source missing " ++ digest_text digest
source_words (sources.Wrong digest) = codes "source wrong " ++ digest_text digest
source_words (sources.Fault digest) = codes "source fault " ++ digest_text digest
source_words (sources.BadBase64 digest) = codes "bad base64 " ++ digest_text digest
source_words (sources.ItemTooLarge digest) = codes "item too large " ++ digest_text digest
source_words sources.NoMemory = codes "want of memory"

abbrev pub unbuilt_words : Unbuilt → List ℕ
unbuilt_words Absent = codes "absent"
unbuilt_words ReadFault = codes "read fault"
unbuilt_words (Refused refusal) = codes "refused " ++ refusal_words refusal
unbuilt_words (NoSuchExport name) = codes "no such export " ++ py_quoted name
unbuilt_words (Source answer) = source_words answer
unbuilt_words (Failed pipeline stage fault) = codes "failed " ++ (pipeline ++ (codes " " ++ (decimal stage ++ (codes " " ++ fault_words fault))))
unbuilt_words NoMemory = codes "want of memory"

-- a line of a build begins with its place among the manifests, from 1
abbrev pub line_of : ℕ → List ℕ → List ℕ
line_of place words = decimal place ++ (codes " " ++ (words ++ codes "\n"))

abbrev pub export_words : List ℕ → ExportAnswer → List ℕ
export_words name (export_answers.Exported size) = name ++ (codes " exported " ++ decimal size)
export_words name export_answers.Fault = name ++ codes " export fault"
export_words name export_answers.NoMemory = name ++ codes " want of memory"

-- the lines of a build: one for each export, or one that says why there are no trees
abbrev pub answer_lines : ℕ → Answer → List ℕ
answer_lines place (builds.Unbuilt unbuilt) = line_of place (unbuilt_words unbuilt)
answer_lines place (builds.Exports exports) = flat_map (λ exported. line_of place (export_words exported.export.name exported.answer)) exports

-- the lines of builds whose first has this place
abbrev pub answers_text : ℕ → List Answer → List ℕ
answers_text place [] = []
answers_text place (answer ∷ answers) = answer_lines place answer ++ answers_text (place + 1) answers
