use Rattle.std.proofs.Common.{◌≡◌, drop}
use Rattle.osb_manifest.specs.Needed.{is_among}
use Rattle.osb_words.proofs.values.is_among.Given as goal

abbrev pub invariant-loop-held : goal.invariant-loop-held
invariant-loop-held l = is_among (drop l.held-index l.names) l.name ≡ is_among l.names l.name
