use Rattle.std.proofs.Common.{◌∙◌, ap}
use Rattle.osb_stages.proofs.Found.{InRange-found}
use Rattle.osb_accounts.specs.Homes.{key_node}
use Rattle.osb_accounts.proofs.homes.key_node.Goals as goal

pub changed_keys-requires : goal.changed_keys-requires
changed_keys-requires c = InRange-found _ _ _ c.in-Some.ensures.tree c.in-Some.ensures.node

pub returns-in-Some-clause-node : goal.returns-in-Some-clause-node
returns-in-Some-clause-node c =
    λ h. c.changed_keys.ensures.node c.args.uid c.args.gid h ∙ ap (key_node c.args.uid c.args.gid c.args.keys.now c.args.path.now) c.in-Some.ensures.node
