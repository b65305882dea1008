use Rattle.std.proofs.Common.{◌≡◌, ◌≤◌, length, map, vec_capacity, vec_len}
use Rattle.osb_answers.specs.Exports.{AreExported}
use Rattle.osb_answers.proofs.exports.export_all.Given as goal

-- the exports so far with their answers, for each of which there is room
abbrev pub invariant-loop-export : goal.invariant-loop-export
invariant-loop-export g l =
    let Exporter = g.E.Exporter in
    record {
      exported : AreExported (record { before = Exporter.done l.fn.exporter; now = Exporter.done l.exporter; faults = record { before = Exporter.export_faults l.fn.exporter; now = Exporter.export_faults l.exporter } }) (map (λ e. (l.place, e)) l.exported.items);
      answer : map (λ e. e.export) l.exported.items ≡ l.yielded;
      room : length l.fn.exports ≤ vec_capacity l.exported;
      count : vec_len l.exported ≡ length l.yielded;
    }
