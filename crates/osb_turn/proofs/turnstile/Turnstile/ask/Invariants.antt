use Rattle.std.proofs.Common.{Some}
use Rattle.osb_turn.specs.Histories.{entry_of}
use Rattle.osb_turn.proofs.turnstile.Turnstile.ask.Given as goal

abbrev pub ghosts-play_at : goal.ghosts-play_at
ghosts-play_at g a = record { entry = Some (entry_of g.S.Played.gives a.state a.worker a.action) }
