use Rattle.std.proofs.Common.{◌≡◌, ◌<◌, IsSome, refl, sym, ◌∙◌, ap, subst, arith, rules}
use Rattle.osb_export.specs.Exports.{list_text}
use Rattle.osb_export.proofs.Walks.{first_path-root, first_path-within, visit_at}
use Rattle.osb_export.proofs.Exporting.{appends_nothing, list_on, done_on, stops_before_finish, on_refused_op, on_err}
use Rattle.osb_export.proofs.exports.walk_tree.Goals as goal

pub loop-init : goal.loop-init
loop-init g c = record {
  tree = c.len-end.ensures.tree;
  next = rw c.root.ensures.root (first_path-root _ c.len-end.ensures.tree);
  list = rw c.new-list.ensures.bytes refl;
  done = appends_nothing _;
  later = omega arith;
}

pub unreachable-requires : goal.unreachable-requires
unreachable-requires g c =
    first_path-within c.args.tree.now c.loop.counter c.loop.invariant.tree
    (subst (λ n. c.loop.counter < n) c.len-end.ensures.count c.loop-test.true) (c.loop.invariant.next ∙ c.in-None.is)

pub export_path-requires : goal.export_path-requires
export_path-requires g c =
    let visit = visit_at c.args.tree.now c.loop.counter c.in-Some.path c.loop.invariant.tree
    (subst (λ n. c.loop.counter < n) c.len-end.ensures.count c.loop-test.true) (c.loop.invariant.next ∙ c.in-Some.is) in
    subst IsSome (sym visit.found) refl

pub returns-in_err-next-clause-err : goal.returns-in_err-next-clause-err
returns-in_err-next-clause-err g c =
    on_err _ (stops_before_finish c.args.folder.now c.args.tree.now c.loop.counter _ _ (c.in_err-next.ensures.err ∙ c.loop.invariant.done))

pub loop-preserved : goal.loop-preserved
loop-preserved g c =
    let visit = visit_at c.args.tree.now c.loop.counter c.in-Some.path c.loop.invariant.tree
    (subst (λ n. c.loop.counter < n) c.len-end.ensures.count c.loop-test.true) (c.loop.invariant.next ∙ c.in-Some.is) in
    record {
      tree = c.loop.invariant.tree;
      next = sym visit.next ∙ sym c.in_ok-next.ensures.next;
      list = list_on c.args.tree.now c.loop.counter c.in-Some.path _ _ visit c.loop.invariant.list c.in_ok-next.ensures.line;
      done = done_on c.args.folder.now c.args.tree.now c.loop.counter c.in-Some.path _ _ _ visit c.loop.invariant.done c.in_ok-next.ensures.done;
      later = omega (arith, c.in_ok-next.ensures.cause.later);
    }

pub returns-clause-err : goal.returns-clause-err
returns-clause-err g c =
    on_refused_op c.finish.result _ _ _ _ _ c.finish.ensures.done
    (stops_before_finish c.args.folder.now c.args.tree.now c.loop.counter _ _ c.loop.invariant.done)
