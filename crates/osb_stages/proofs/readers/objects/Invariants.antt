use Rattle.std.proofs.Common.{◌≡◌, ◌++◌, drop, Ok}
use Rattle.serde_json.specs.View.{items_view}
use Rattle.osb_stages.specs.Readers.{◌>>=◌, objects}
use Rattle.osb_stages.proofs.readers.objects.Given as goal

abbrev pub invariant-loop-value : goal.invariant-loop-value
invariant-loop-value g l = (objects g.T.Item.item_of l.name (items_view (drop l.value-index l.values)) >>= λ others. Ok (l.items.items ++ others)) ≡ objects g.T.Item.item_of l.name (items_view l.values)
