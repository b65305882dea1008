use Rattle.osb_stages.proofs.Found.{InRange-found}
use Rattle.osb_accounts.proofs.files.file_node.Goals as goal

pub changed_file-requires-clause-in_range : goal.changed_file-requires-clause-in_range
changed_file-requires-clause-in_range c = InRange-found _ _ _ c.in-Some.ensures.tree c.in-Some.ensures.node
