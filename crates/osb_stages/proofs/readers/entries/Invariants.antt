use Rattle.std.proofs.Common.{◌≡◌, ◌++◌, Ok}
use Rattle.serde_json.specs.View.{members_view}
use Rattle.osb_stages.specs.Readers.{◌>>=◌, entries}
use Rattle.osb_stages.proofs.readers.entries.Given as goal

abbrev pub invariant-loop-name : goal.invariant-loop-name
invariant-loop-name g l =
    (entries g.K.Key.key_of g.T.Item.item_of (members_view l.name-iterator) >>= λ others. Ok (l.items.items ++ others)) ≡ entries g.K.Key.key_of g.T.Item.item_of (members_view l.initial.name-iterator)
