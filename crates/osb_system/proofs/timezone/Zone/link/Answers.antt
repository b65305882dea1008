use Rattle.std.proofs.Common.{rules}
use Rattle.osb_system.proofs.Texts.{IsTarget-zone}
use Rattle.osb_system.proofs.timezone.Zone.link.Goals as goal

pub returns-clause-in_range : goal.returns-clause-in_range
returns-clause-in_range c = search (rules, IsTarget-zone c.self.inside.text c.self.invariant)
