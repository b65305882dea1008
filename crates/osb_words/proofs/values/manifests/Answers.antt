use Rattle.std.proofs.Common.{◌∙◌, codes, refl}
use Rattle.clap.specs.Words.{found_of}
use Rattle.clap.proofs.WalkLemmas.{raw_values-rows}
use Rattle.osb_words.proofs.values.manifests.Goals as goal

pub returns-in-Some : goal.returns-in-Some
returns-in-Some c =
    let is = c.in-Some.ensures ∙ raw_values-rows (found_of c.args.matches.now) (codes "manifests") in
    rw (← is) c.manifests_of.ensures

pub returns-in-None : goal.returns-in-None
returns-in-None c =
    let is = c.in-None.ensures ∙ raw_values-rows (found_of c.args.matches.now) (codes "manifests") in
    rw (← is) refl
