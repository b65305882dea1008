use Rattle.std.proofs.Common.{◌≡◌, ◌++◌, drop, Ok}
use Rattle.serde_json.specs.View.{items_view}
use Rattle.osb_stages.specs.Readers.{◌>>=◌, values}
use Rattle.osb_stages.proofs.members.values.Given as goal

abbrev pub invariant-loop-value : goal.invariant-loop-value
invariant-loop-value g l = (values g.T.Member.reader l.name (items_view (drop l.value-index l.list)) >>= λ others. Ok (l.items.items ++ others)) ≡ values g.T.Member.reader l.name (items_view l.list)
