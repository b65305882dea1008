use Rattle.std.proofs.Common.{◌≤◌, ◌<◌, vec_len}
use Rattle.std.specs.Io.KnownBytes.{Consumes}
use Rattle.osb_host.proofs.readings.read_front.Given as goal

abbrev pub invariant-loop : goal.invariant-loop
invariant-loop g l = (0 < vec_len l.buffer) × (vec_len l.front ≤ 16777217) × Consumes (g.F.Read.remaining l.initial.file) (g.F.Read.remaining l.file) l.front.items
