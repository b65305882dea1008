use Rattle.std.proofs.Common.{sym, rules}
use Rattle.osb_tree.proofs.PathLaws.{list_all-names_of}
use Rattle.osb_tree.proofs.paths.Path.read.Goals as goal

pub names_between-requires : goal.names_between-requires
names_between-requires c =
    list_all-names_of c.args.text.now (sym c.if-has_dots.ensures) (sym c.if-has_nul.ensures)

pub invariant_of-result : goal.invariant_of-result
invariant_of-result c =
    let named = list_all-names_of c.args.text.now (sym c.if-has_dots.ensures) (sym c.if-has_nul.ensures) in
    record { named = rw c.in_ok-names.ensures named; short = search rules }
