use Rattle.std.proofs.Common.{◌≡◌, ◌++◌, drop}
use Rattle.osb_accounts.specs.Homes.{key_lines}
use Rattle.osb_accounts.proofs.homes.write_keys.Given as goal

abbrev pub invariant-loop-key : goal.invariant-loop-key
invariant-loop-key l = l.out.items ++ key_lines (drop l.key-index l.keys) ≡ l.fn.out.items ++ key_lines l.keys
