use Rattle.std.proofs.Common.{rules, [], ◌∷◌, Some, sym, ap, ◌∙◌}
use Rattle.atomic_table.specs.Table.{rest}
use Rattle.osb_turn.specs.Histories.{replay}
use Rattle.osb_turn.proofs.Steps.{passes}
use Rattle.osb_turn.proofs.turns.leave.Goals as goal

pub fetch_add-requires : goal.fetch_add-requires
fetch_add-requires g c = let now = c.exchange.ensures.3 in let turn = c.requires.turn in (
  search rules,
  search rules,
  passes _ _ _ _ _ _ _ _ turn.0 _ (ap (λ m. m.0.stage) now ∙ turn.1) (ap (λ m. m.0.opening) now ∙ c.requires.at.3)
      (ap (λ m. m.1) now ∙ (ap (λ l. (0, Some c.args.state) ∷ rest l) turn.2 ∙ ap (λ x. (0, Some x) ∷ []) (c.requires.state ∙ ap (λ m. replay g.S.Played.after c.args.line.now.key m.0.seen) (sym now)))),
)
