use Rattle.std.proofs.Common.{◌≡◌, ◌==◌, map, [], sym, ◌∙◌, ap}
use Rattle.std.specs.List.{slice_split}
use Rattle.std.proofs.lemmas.Iterator.Splits.{YieldsList-from_str_split}
use Rattle.std.proofs.lemmas.Iterator.Consumers.{map_from_collect}
use Rattle.std.proofs.lemmas.Result.{IfOk-at_ok}
use Rattle.osb_words.specs.Requests.{with_new}
use Rattle.osb_words.proofs.Parts.{no_parts, all_parts}
use Rattle.osb_words.proofs.values.parts_of.Goals as goal

pub returns-then-not-are_given : goal.returns-then-not-are_given
returns-then-not-are_given c =
    let parts : map (λ part. part.now) c.in_ok-parts.parts.items ≡ slice_split (λ b. b == c.args.divider) c.args.text.now = IfOk-at_ok _ c.in_ok-parts.was (map_from_collect _ c.collect.ensures.ran (YieldsList-from_str_split c.args.divider c.args.text.now c.requires c.split.ensures.text c.split.ensures.has_more c.split.ensures.pattern)) in
    no_parts c.args.divider c.args.text.now (rw (← parts, ← c.deref.ensures.value) (sym c.if-not-are_given.ensures))

pub returns : goal.returns
returns c =
    let parts : map (λ part. part.now) c.in_ok-parts.parts.items ≡ slice_split (λ b. b == c.args.divider) c.args.text.now = IfOk-at_ok _ c.in_ok-parts.was (map_from_collect _ c.collect.ensures.ran (YieldsList-from_str_split c.args.divider c.args.text.now c.requires c.split.ensures.text c.split.ensures.has_more c.split.ensures.pattern)) in
    all_parts c.args.divider c.args.text.now c.new.result (rw (← parts, ← c.deref.ensures.value) (sym c.if-not-are_given.ensures))
    (c.new.ensures.items ∙ c.in_ok-each_once.ensures ∙ ap (with_new []) (ap (map (λ part. part.now)) c.deref-2.ensures.value ∙ parts))
