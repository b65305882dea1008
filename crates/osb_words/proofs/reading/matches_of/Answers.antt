use Rattle.std.proofs.Common.{map}
use Rattle.std.specs.String.{string_bytes}
use Rattle.clap.specs.Words.{app_of}
use Rattle.osb_words.proofs.Builds.{rows-found, taken, not_taken}
use Rattle.osb_words.proofs.reading.matches_of.Goals as goal

pub returns-in_err-try_get_matches_from-clause-faulty : goal.returns-in_err-try_get_matches_from-clause-faulty
returns-in_err-try_get_matches_from-clause-faulty c =
    not_taken (app_of c.in_ok-command.field-0) (map string_bytes c.args.words.now) c.in_err-try_get_matches_from.field-0.0 _
    c.in_ok-command.ensures c.in_err-try_get_matches_from.ensures.kinds c.from_residual-in_err-try_get_matches_from.ensures.1

pub returns-clause-rows : goal.returns-clause-rows
returns-clause-rows c =
    rows-found (app_of c.in_ok-command.field-0) (map string_bytes c.args.words.now) c.in_ok-try_get_matches_from.field-0 c.in_ok-command.ensures c.in_ok-try_get_matches_from.ensures.matches

pub returns-clause-taken : goal.returns-clause-taken
returns-clause-taken c =
    taken (app_of c.in_ok-command.field-0) (map string_bytes c.args.words.now) c.in_ok-command.ensures c.in_ok-try_get_matches_from.ensures.kinds
