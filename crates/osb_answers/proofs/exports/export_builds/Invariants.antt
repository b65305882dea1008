use Rattle.std.proofs.Common.{◌≡◌, ◌≤◌, length, vec_capacity, vec_len}
use Rattle.std.specs.List.{AllZip}
use Rattle.osb_answers.specs.Exports.{all_placed, AreExported, IsAnswerOf}
use Rattle.osb_answers.proofs.exports.export_builds.Given as goal

-- the builds so far with their answers, for each of which there is room
abbrev pub invariant-loop-build : goal.invariant-loop-build
invariant-loop-build g l =
    let Exporter = g.E.Exporter in
    record {
      exported : AreExported (record { before = Exporter.done l.fn.exporter; now = Exporter.done l.exporter; faults = record { before = Exporter.export_faults l.fn.exporter; now = Exporter.export_faults l.exporter } }) (all_placed 1 l.answers.items);
      answers : AllZip IsAnswerOf l.yielded l.answers.items;
      room : vec_len l.fn.builds ≤ vec_capacity l.answers;
      count : vec_len l.answers ≡ length l.yielded;
    }
