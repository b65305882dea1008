use Rattle.std.proofs.Common.{◌≡◌, ◌≤◌, ◌-◌, ◌++◌, length, take, option_map}
use Rattle.osb_top.proofs.writes.write_all.Given as goal

abbrev pub invariant-loop-count : goal.invariant-loop-count
invariant-loop-count g l =
    let Sink = g.O.Sink in
    record {
      within : l.count ≤ length l.text;
      taken : Sink.taken l.out ≡ option_map (λ old. old ++ take l.count l.text) (Sink.taken l.fn.out);
      later : Sink.sink_faults l.fn.out ≤ Sink.sink_faults l.out;
    }

abbrev pub decreases-loop-count : goal.decreases-loop-count
decreases-loop-count g l = length l.text - l.count
