use Rattle.osb_files.proofs.Copies.{node_at-copied}
use Rattle.osb_files.proofs.copy.a_copy_has_what_is_beneath.Goals as goal

pub returns : goal.returns
returns c = record { law = node_at-copied }
