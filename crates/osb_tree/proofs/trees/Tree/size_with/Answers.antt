use Rattle.std.proofs.Common.{sym, ap, refl, arith, true≢false}
use Rattle.osb_tree.specs.Trees.{tree_size}
use Rattle.osb_tree.proofs.Puts.{AddsUp, is_too_large-no_room, is_too_large-answered, share_at-le-tree_size}
use Rattle.osb_tree.proofs.trees.Tree.size_with.Goals as goal

pub returns-then-not-has_room_for : goal.returns-then-not-has_room_for
returns-then-not-has_room_for c =
    is_too_large-no_room c.args.self.now c.args.path.now c.args.node.now c.has_room_for.ensures.tree (λ few. true≢false (sym (c.if-not-has_room_for.ensures.room.1 few)))

pub overflow_sub-self-inside : goal.overflow_sub-self-inside
overflow_sub-self-inside c =
    omega (arith, ap tree_size c.self.view_is, c.self.invariant.0, c.share_at.ensures, share_at-le-tree_size c.args.self.now c.args.path.now)

pub returns : goal.returns
returns c =
    let sum : AddsUp c.args.self.now c.args.path.now c.args.node.now c.saturating_add-size.result = record {
      tree = c.has_room_for.ensures.tree;
      is = rw (← c.weight.ensures.weight, ← c.share_at.ensures, ← c.self.view_is, ← c.self.invariant.0) c.saturating_add-size.ensures;
    } in
    is_too_large-answered _ _ _ c.saturating_add-size.result _ sum (c.if-not-has_room_for.ensures.room.0 refl) c.then_some.ensures
