use Rattle.osb_evict.proofs.Rising.{rising_lines_are_queued}
use Rattle.osb_evict.proofs.laws.rising_lines_are_queued.Goals as goal

pub returns : goal.returns
returns c = record { law = rising_lines_are_queued }
