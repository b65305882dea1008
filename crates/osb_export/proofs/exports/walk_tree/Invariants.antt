use Rattle.std.proofs.Common.{◌≡◌, ◌≤◌, List, ◌++◌, map, take, drop, string_bytes}
use Rattle.osb_tree.specs.Trees.{IsTree}
use Rattle.osb_export.specs.Exports.{op_of, list_text, Appends}
use Rattle.osb_export.proofs.Walks.{first_path}
use Rattle.osb_export.proofs.exports.walk_tree.Given as goal

-- the next path, the lines of the paths so far, and their operations
abbrev pub invariant-loop : goal.invariant-loop
invariant-loop g l =
    let Exporter = g.E.Exporter in
    record {
      tree : IsTree l.tree;
      next : first_path (drop l.counter l.tree) ≡ l.next;
      list : string_bytes l.list ++ list_text (drop l.counter l.tree) ≡ list_text l.tree;
      done : Appends (Exporter.done l.fn.exporter) (Exporter.done l.exporter) (map (op_of l.folder) (take l.counter l.tree));
      later : Exporter.export_faults l.fn.exporter ≤ Exporter.export_faults l.exporter;
    }
