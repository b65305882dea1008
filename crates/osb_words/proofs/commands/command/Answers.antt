use Rattle.std.proofs.Common.{◌∙◌, ap₂}
use Rattle.std.proofs.lemmas.Result.{IfOk-weaker}
use Rattle.clap.specs.Words.{with_rule}
use Rattle.osb_words.specs.Commands.{build_app}
use Rattle.osb_words.proofs.commands.command.Goals as goal

pub returns : goal.returns
unfolding build_app
returns c =
    let one = c.in_ok-command.ensures ∙ ap₂ with_rule c.new-command.ensures.app c.option.ensures.rule in
    let two = c.in_ok-command-2.ensures ∙ ap₂ with_rule one c.needed.ensures.rule in
    let three = c.in_ok-command-3.ensures ∙ ap₂ with_rule two c.needed-2.ensures.rule in
    let four = c.in_ok-command-4.ensures ∙ ap₂ with_rule three c.option-2.ensures.rule in
    let five = c.in_ok-command-5.ensures ∙ ap₂ with_rule four c.option-3.ensures.rule in
    let six = c.in_ok-command-6.ensures ∙ ap₂ with_rule five c.option-4.ensures.rule in
    let seven = c.in_ok-command-7.ensures ∙ ap₂ with_rule six c.option-5.ensures.rule in
    let eight = c.in_ok-command-8.ensures ∙ ap₂ with_rule seven c.flag.ensures.rule in
    IfOk-weaker c.with-9.result _ _ (λ more is. is ∙ ap₂ with_rule eight c.others.ensures.rule) c.with-9.ensures
