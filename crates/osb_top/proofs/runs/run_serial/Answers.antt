use Rattle.std.proofs.Common.{map, string_bytes, refl}
use Rattle.osb_sources.proofs.Thinned.{thinned_same}
use Rattle.osb_words.specs.Requests.{request_of}
use Rattle.osb_top.proofs.CompleteRuns.{run_completes}
use Rattle.osb_top.proofs.Limits.{request_small}
use Rattle.osb_top.proofs.Running.{asked_run}
use Rattle.osb_top.proofs.runs.run_serial.Goals as goal

pub new-settings-requires : goal.new-settings-requires
new-settings-requires g c = record { limit = request_small (map string_bytes c.args.words.now) c.in-Ok.settings c.in-Ok.ensures.request }

pub returns-in-Ok-clause-complete : goal.returns-in-Ok-clause-complete
returns-in-Ok-clause-complete g c = λ taken quiet.
    let words = map string_bytes c.args.words.now in
    run_completes (λ _. 1) words (request_of words) _ _ _ refl taken quiet
    (asked_run (λ _. 1) words _ _ _ (request_of words) c.in-Ok.settings c.in-Ok.ensures.request (rw c.new-settings.ensures.settings at c.run_asked.ensures.run))

pub returns-in-Err-Refused-clause-left : goal.returns-in-Err-Refused-clause-left
returns-in-Err-Refused-clause-left g c = thinned_same _

pub returns-in-Err-NoMemory-clause-left : goal.returns-in-Err-NoMemory-clause-left
returns-in-Err-NoMemory-clause-left g c = thinned_same _
