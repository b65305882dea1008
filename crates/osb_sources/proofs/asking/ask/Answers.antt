use Rattle.std.proofs.Common.{refl, sym, ◌∙◌}
use Rattle.osb_sources.proofs.Asks.{ask_gone, ask_stays}
use Rattle.osb_sources.proofs.asking.ask.Goals as goal

pub returns-then-is_gone-clause-asked : goal.returns-then-is_gone-clause-asked
returns-then-is_gone-clause-asked g c =
    ask_gone g.F.Fetcher.fetcher_state c.args.digest.now c.args.at c.args.fetchers.now.items _ c.remove.new.self.items
    c.index_mut.result.now c.fetch_from-answer.new.fetcher c.fetch_from-answer.result c.index_mut.ensures.value refl c.remove.ensures.items
    c.fetch_from-answer.ensures (sym c.is_gone.ensures ∙ c.if-is_gone.true)

pub returns-clause-asked : goal.returns-clause-asked
returns-clause-asked g c =
    ask_stays g.F.Fetcher.fetcher_state c.args.digest.now c.args.at c.args.fetchers.now.items _
    c.index_mut.result.now c.fetch_from-answer.new.fetcher c.fetch_from-answer.result c.reply_of.result c.index_mut.ensures.value refl
    c.fetch_from-answer.ensures (sym c.is_gone.ensures ∙ c.if-is_gone.false) c.reply_of.ensures
