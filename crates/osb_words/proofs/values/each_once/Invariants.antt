use Rattle.std.proofs.Common.{◌≡◌, [], drop, map}
use Rattle.osb_words.specs.Requests.{with_new}
use Rattle.osb_words.proofs.values.each_once.Given as goal

-- the names so far, with those of the parts that are left
abbrev pub invariant-loop-part : goal.invariant-loop-part
invariant-loop-part l = with_new l.names.items (map (λ part. part.now) (drop l.part-index l.parts)) ≡ with_new [] (map (λ part. part.now) l.parts)
