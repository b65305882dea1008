use Rattle.std.proofs.Common.{◌≡◌, ◌-◌, length, [], string_bytes}
use Rattle.osb_pyread.specs.Quotes.{text_at}
use Rattle.osb_pyread.proofs.strings.read_text.Given as goal

abbrev pub invariant-loop : goal.invariant-loop
invariant-loop l = text_at (length l.bytes - l.counter) (string_bytes l.text) l.rest ≡ text_at (length l.bytes) [] l.bytes
