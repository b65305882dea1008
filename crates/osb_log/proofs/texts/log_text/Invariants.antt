use Rattle.std.proofs.Common.{◌≡◌, ◌++◌, take}
use Rattle.std.specs.Prelude.{string_bytes}
use Rattle.osb_log.specs.Texts.{opened_line, entry_lines}
use Rattle.osb_log.proofs.texts.log_text.Given as goal

abbrev pub invariant-loop-place : goal.invariant-loop-place
invariant-loop-place l = string_bytes l.out ≡ opened_line l.opened ++ entry_lines 1 (take l.place l.log)
