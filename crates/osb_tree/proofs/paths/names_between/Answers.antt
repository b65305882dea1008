use Rattle.std.proofs.Common.{◌==◌, length, lit<, ap, sym, ◌∙◌, arith}
use Rattle.std.specs.List.{slice_split}
use Rattle.std.proofs.lemmas.Iterator.Consumers.{YieldsList-turn, YieldsList-end}
use Rattle.std.proofs.lemmas.Iterator.Splits.{YieldsList-from_str_split}
use Rattle.std.proofs.lemmas.List.{length_push, take_all}
use Rattle.osb_tree.specs.Paths.{is_name}
use Rattle.osb_tree.proofs.PathLaws.{nonempty, nonempty_more, nonempty_same, nonempty_at}
use Rattle.osb_tree.proofs.paths.names_between.Goals as goal

pub new-requires : goal.new-requires
new-requires c =
    let turn = YieldsList-turn (YieldsList-from_str_split 47 c.args.text.now (lit< tt) (cc) (cc) (cc)) c.loop-piece.yielded _ c.loop-piece.yielded_by _ _ c.in-Some.piece c.in-Some.is c.next.ensures.steps in
    nonempty_at is_name _ _ _ c.requires turn (sym c.if-not-is_empty.ensures)

pub loop-piece-preserved-in_ok-push : goal.loop-piece-preserved-in_ok-push
loop-piece-preserved-in_ok-push c =
    let turn = YieldsList-turn (YieldsList-from_str_split 47 c.args.text.now (lit< tt) (cc) (cc) (cc)) c.loop-piece.yielded _ c.loop-piece.yielded_by _ _ c.in-Some.piece c.in-Some.is c.next.ensures.steps in
    let more = nonempty_more _ _ _ _ turn (length_push c.loop-piece.yielded c.in-Some.piece) (sym c.if-not-is_empty.ensures) in
    (tt, tt, rw (more, ← c.loop-piece.invariant.2, ← c.in_ok-new.ensures.text) c.in_ok-push.ensures.items)

pub loop-piece-preserved : goal.loop-piece-preserved
loop-piece-preserved c =
    let turn = YieldsList-turn (YieldsList-from_str_split 47 c.args.text.now (lit< tt) (cc) (cc) (cc)) c.loop-piece.yielded _ c.loop-piece.yielded_by _ _ c.in-Some.piece c.in-Some.is c.next.ensures.steps in
    (tt, tt, c.loop-piece.invariant.2 ∙ sym (nonempty_same _ _ _ _ turn (length_push c.loop-piece.yielded c.in-Some.piece) (sym c.if-not-is_empty.ensures)))

pub returns : goal.returns
returns c =
    let pieces = slice_split (λ b. b == 47) c.args.text.now in
    let all = YieldsList-end (YieldsList-from_str_split 47 c.args.text.now (lit< tt) (cc) (cc) (cc)) c.loop-piece.yielded _ c.loop-piece.yielded_by _ _ c.in-None.is c.next.ensures.steps in
    c.loop-piece.invariant.2 ∙ ap nonempty (take_all (length c.loop-piece.yielded) pieces (omega (arith, all.1)))
