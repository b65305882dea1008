use Rattle.std.proofs.Common.{◌∙◌, codes, sym}
use Rattle.clap.specs.Words.{found_of, one_text, rows_of}
use Rattle.clap.proofs.WalkLemmas.{one_text-rows}
use Rattle.osb_words.proofs.Flags.{flag-read}
use Rattle.osb_words.proofs.values.is_flagged.Goals as goal

pub returns : goal.returns
returns c =
    let found = found_of c.args.matches.now in
    c.unwrap_or.ensures ∙ flag-read _ (rows_of found) (one_text found (codes "log")) c.get_one.result (sym (one_text-rows found (codes "log"))) c.get_one.ensures.none c.get_one.ensures.value
