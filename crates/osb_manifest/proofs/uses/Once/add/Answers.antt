use Rattle.std.proofs.Common.{◌++◌, [], ◌∷◌, ◌∙◌, sym, ap₂}
use Rattle.std.specs.Ordering.{nat_cmp}
use Rattle.std.specs.Cmp.Lexicographic.{slice_cmp}
use Rattle.std.specs.BTreeSet.{contains}
use Rattle.osb_manifest.proofs.Once.{holds_more}
use Rattle.osb_manifest.proofs.uses.Once.add.Goals as goal

pub invariant_of-self-2 : goal.invariant_of-self-2
invariant_of-self-2 c q =
    holds_more c.self.inside.digests.items c.push.new.self.items c.in_ok-kept.kept q (contains (slice_cmp nat_cmp) c.self.inside.seen q) (contains (slice_cmp nat_cmp) c.insert.new.self q)
    (c.self.invariant q) (c.in_ok-insert.ensures.updates.0 q) (c.in-Ok.ensures.items ∙ ap₂ (λ digests digest. digests ++ digest ∷ []) c.in_ok-reserve.ensures.items (c.in_ok-listed.ensures.cases ∙ sym c.in_ok-kept.ensures.cases))
