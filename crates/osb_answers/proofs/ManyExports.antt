-- Exports one after another.
use Rattle.std.proofs.Common.{◌≡◌, ℕ, ◌+◌, ◌≤◌, min, Bool, cond, List, [], ◌∷◌, ◌++◌, length, map, Option, sym, ap, subst, ◌∙◌, append_assoc, arith}
use Rattle.std.proofs.lemmas.List.{append-nil, map-append}
use Rattle.std.proofs.lemmas.List.Sums.{sum_by-append}
use Rattle.std.proofs.lemmas.Slice.Zip.{all_zipped_more}
use Rattle.std.specs.List.{count_by, AllZip}
use Rattle.std.specs.Prelude.{Result}
use Rattle.osb_base.specs.declared.exporters.Op.{Op}
use Rattle.osb_export.proofs.Exporting.{appends_nothing, appends_twice}
use Rattle.osb_ready.specs.declared.exports.Export.{Export}
use Rattle.osb_ready.specs.declared.unbuilt.Unbuilt.{Unbuilt}
use Rattle.osb_answers.specs.declared.answers.Exported.{Exported}
use Rattle.osb_answers.specs.declared.answers.Answer.{Answer}
use Rattle.osb_answers.specs.Exports.{Placed, placed_of, all_placed, InOrder, no_export, one_more, is_fault, ExporterSeen, AreExported, IsOneExport, IsAnswerOf}

-- exports behind those that are done
in_order-append : (exports : List Placed) (ops : List Op) (others : List Placed) (more : List Op) → InOrder exports ops → InOrder others more → InOrder (exports ++ others) (ops ++ more)
in_order-append _ _ others more no_export next = next
in_order-append _ _ others more (one_more place exported part exports ops is rest) next =
    subst (InOrder ((place, exported) ∷ (exports ++ others))) (sym (append_assoc part ops more))
    (one_more place exported part (exports ++ others) (ops ++ more) is (in_order-append exports ops others more rest next))

count_by-append : {X : Type 0} (p : X → Bool) (xs ys : List X) → count_by p (xs ++ ys) ≡ count_by p xs + count_by p ys
count_by-append p xs ys = sum_by-append (λ a. cond (p a) 1 0) xs ys

-- counts that rose one after the other
rose-twice : (top before between now m n : ℕ) → min (before + m) top ≤ between → min (between + n) top ≤ now → min (before + (m + n)) top ≤ now
rose-twice top before between now m n first second = omega arith

pub none_exported : (exporter : ExporterSeen) → exporter.now ≡ exporter.before → exporter.faults.before ≤ exporter.faults.now → AreExported exporter []
none_exported exporter same later = record {
  ops = [];
  in_order = no_export;
  done = same ∙ appends_nothing exporter.before;
  faults = omega arith;
}

-- before the first export of a build, and before the first build
pub no_export_yet : (exporter : ExporterSeen) (place : ℕ) (list : List Exported) → list ≡ [] → exporter.now ≡ exporter.before → exporter.faults.before ≤ exporter.faults.now → AreExported exporter (map (λ e. (place, e)) list)
no_export_yet exporter place list none same later = rw none (none_exported exporter same later)

pub no_answer_yet : (exporter : ExporterSeen) (answers : List Answer) → answers ≡ [] → exporter.now ≡ exporter.before → exporter.faults.before ≤ exporter.faults.now → AreExported exporter (all_placed 1 answers)
no_answer_yet exporter answers none same later = rw none (none_exported exporter same later)

pub one_exported : (exporter : ExporterSeen) (place : ℕ) (exported : Exported) → IsOneExport exporter place exported.export exported.answer → AreExported exporter ((place, exported) ∷ [])
one_exported exporter place exported one = record {
  ops = one.part;
  in_order = subst (InOrder ((place, exported) ∷ [])) (append-nil one.part) (one_more place exported one.part [] [] one.is no_export);
  done = one.done;
  faults = one.faults;
}

-- exports, and then others
pub exported_on : (before between now : Option (List Op)) (faults_before faults_between faults_now : ℕ) (exports others : List Placed)
    → AreExported (record { before = before; now = between; faults = record { before = faults_before; now = faults_between } }) exports
    → AreExported (record { before = between; now = now; faults = record { before = faults_between; now = faults_now } }) others
    → AreExported (record { before = before; now = now; faults = record { before = faults_before; now = faults_now } }) (exports ++ others)
exported_on before between now faults_before faults_between faults_now exports others done more = record {
  ops = done.ops ++ more.ops;
  in_order = in_order-append exports done.ops others more.ops done.in_order more.in_order;
  done = appends_twice before between now done.ops more.ops done.done more.done;
  faults = rw (count_by-append (λ placed. is_fault placed.1.answer) exports others) (rose-twice _ faults_before faults_between faults_now _ _ done.faults more.faults);
}

-- the next export of a build
pub next_exported : (before between now : Option (List Op)) (faults_before faults_between faults_now place : ℕ) (list more : List Exported) (exported : Exported)
    → more ≡ list ++ exported ∷ []
    → AreExported (record { before = before; now = between; faults = record { before = faults_before; now = faults_between } }) (map (λ e. (place, e)) list)
    → IsOneExport (record { before = between; now = now; faults = record { before = faults_between; now = faults_now } }) place exported.export exported.answer
    → AreExported (record { before = before; now = now; faults = record { before = faults_before; now = faults_now } }) (map (λ e. (place, e)) more)
next_exported before between now faults_before faults_between faults_now place list more exported pushed done one =
    rw (pushed, map-append {B = Placed} (λ e. (place, e)) list (exported ∷ []))
    (exported_on before between now faults_before faults_between faults_now (map (λ e. (place, e)) list) ((place, exported) ∷ []) done
    (one_exported (record { before = between; now = now; faults = record { before = faults_between; now = faults_now } }) place exported one))

all_placed-push : (place : ℕ) (answers : List Answer) (answer : Answer) → all_placed place (answers ++ answer ∷ []) ≡ all_placed place answers ++ placed_of (place + length answers) answer
all_placed-push place [] answer =
    let same : place ≡ place + 0 = omega arith in
    append-nil (placed_of place answer) ∙ ap (λ p. placed_of p answer) same
all_placed-push place (first ∷ answers) answer =
    let same : place + 1 + length answers ≡ place + length (first ∷ answers) = omega arith in
    ap (λ rest. placed_of place first ++ rest) (all_placed-push (place + 1) answers answer)
    ∙ sym (append_assoc (placed_of place first) (all_placed (place + 1) answers) (placed_of (place + 1 + length answers) answer))
    ∙ ap (λ p. (placed_of place first ++ all_placed (place + 1) answers) ++ placed_of p answer) same

-- the exports of the next build
pub next_answer : (before between now : Option (List Op)) (faults_before faults_between faults_now place : ℕ) (answers more : List Answer) (answer : Answer)
    → more ≡ answers ++ answer ∷ [] → place ≡ 1 + length answers
    → AreExported (record { before = before; now = between; faults = record { before = faults_before; now = faults_between } }) (all_placed 1 answers)
    → AreExported (record { before = between; now = now; faults = record { before = faults_between; now = faults_now } }) (placed_of place answer)
    → AreExported (record { before = before; now = now; faults = record { before = faults_before; now = faults_now } }) (all_placed 1 more)
next_answer before between now faults_before faults_between faults_now place answers more answer pushed at done next =
    rw (pushed, all_placed-push 1 answers answer, ← at)
    (exported_on before between now faults_before faults_between faults_now (all_placed 1 answers) (placed_of place answer) done next)

-- the answers so far, and the next one
pub answered_on : (builds : List (Result (List Export) Unbuilt)) (answers more : List Answer) (build : Result (List Export) Unbuilt) (answer : Answer) → more ≡ answers ++ answer ∷ [] → AllZip IsAnswerOf builds answers → IsAnswerOf build answer → AllZip IsAnswerOf (builds ++ build ∷ []) more
answered_on builds answers more build answer pushed done next = rw pushed (all_zipped_more IsAnswerOf builds answers build answer done next)

pub none_answered : (answers : List Answer) → answers ≡ [] → AllZip IsAnswerOf [] answers
none_answered answers none = rw none tt
