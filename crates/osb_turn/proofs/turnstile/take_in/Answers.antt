use Rattle.std.proofs.Common.{◌≡◌, [], ◌∷◌, ◌++◌, Some, sym, ap, ◌∙◌, append_assoc}
use Rattle.std.proofs.lemmas.List.Elements.{All-pop}
use Rattle.osb_turn.proofs.Seats.{joins}
use Rattle.osb_turn.proofs.Rows.{takes_none, takes_one, noted_is}
use Rattle.osb_turn.proofs.Lists.{append-nil}
use Rattle.osb_turn.proofs.turnstile.take_in.Goals as goal

pub join_seat-requires : goal.join_seat-requires
join_seat-requires g c = let known = c.loop-other.invariant in let last = All-pop (λ seat. seat.table ≡ c.args.line.now.table_id) _ _ (Some c.in-Some.other) c.in-Some.ensures.items known.3 in (
  known.2.table ∙ c.requires.first,
  ap (λ s. s.table) c.other.view_is ∙ last.1,
  c.other.invariant.2,
  c.requires.words,
  joins _ _ _ _ _ _ _ _ _ _ known.2.idle c.other.invariant.1,
)

pub loop-other-init : goal.loop-other-init
loop-other-init g c = ([], sym (append-nil c.args.others.items), takes_none _ _ _ c.first.view_is c.first.invariant.0 c.first.invariant.1 c.first.invariant.2, c.requires.others)

pub loop-other-preserved : goal.loop-other-preserved
loop-other-preserved g c = let known = c.loop-other.invariant in let last = All-pop (λ seat. seat.table ≡ c.args.line.now.table_id) _ _ (Some c.in-Some.other) c.in-Some.ensures.items known.3 in (
  c.in-Some.other ∷ known.0,
  known.1 ∙ (ap (λ l. l ++ known.0) c.in-Some.ensures.items ∙ append_assoc c.pop.new.self.items (c.in-Some.other ∷ []) known.0),
  takes_one _ _ _ _ _ c.other.inside.pass.me.0 known.2 c.join_seat.ensures.0 c.join_seat.ensures.2 (noted_is _ c.other.inside.pass.table_id c.other.inside.worker c.other.inside.pass.me.0 c.other.view_is c.other.invariant.0),
  last.0,
)
