use Rattle.std.proofs.Common.{◌≡◌, map, drop}
use Rattle.osb_stages.specs.Readers.{is_among}
use Rattle.osb_stages.proofs.readers.is_among.Given as goal

abbrev pub invariant-loop-known : goal.invariant-loop-known
invariant-loop-known l = is_among (map (λ name. name.now) (drop l.known-index l.names)) l.name ≡ is_among (map (λ name. name.now) l.names) l.name
