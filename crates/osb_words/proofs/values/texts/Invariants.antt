use Rattle.std.proofs.Common.{◌≡◌, take, map}
use Rattle.osb_words.proofs.values.texts.Given as goal

abbrev pub invariant-loop-name : goal.invariant-loop-name
invariant-loop-name l = l.texts.items ≡ map (λ name. name.now) (take l.name-index l.names)
