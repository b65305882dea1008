use Rattle.std.proofs.Common.{◌≡◌, map}
use Rattle.serde_json.specs.View.{members_view}
use Rattle.osb_stages.specs.Readers.{first_other}
use Rattle.osb_stages.proofs.readers.no_others.Given as goal

abbrev pub invariant-loop-name : goal.invariant-loop-name
invariant-loop-name l =
    first_other (map (λ name. name.now) l.names) (members_view l.name-iterator) ≡ first_other (map (λ name. name.now) l.names) (members_view l.initial.name-iterator)
