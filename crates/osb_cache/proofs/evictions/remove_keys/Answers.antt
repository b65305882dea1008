use Rattle.std.proofs.Common.{rules}
use Rattle.std.proofs.lemmas.Fn.{filter_same}
use Rattle.osb_cache.specs.Caches.{stays}
use Rattle.osb_cache.proofs.evictions.remove_keys.Goals as goal

pub returns-clause-items : goal.returns-clause-items
returns-clause-items g c =
    filter_same _ (stays c.args.keys.now) _ (λ x b f k. search rules) _ _ c.retain.ensures.filtered
