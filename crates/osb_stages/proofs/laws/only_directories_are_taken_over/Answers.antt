use Rattle.osb_stages.proofs.Beneath.{takes_over-no_directory}
use Rattle.osb_stages.proofs.laws.only_directories_are_taken_over.Goals as goal

pub returns : goal.returns
returns c = record { law = takes_over-no_directory }
