use Rattle.std.proofs.Common.{rules, tests, arith}
use Rattle.std.proofs.lemmas.Bool.Decides.{nat_tests}
use Rattle.std.proofs.lemmas.Iterator.{YieldsList-from_slice}
use Rattle.std.proofs.lemmas.Iterator.Search.{all_from_yields_List}
use Rattle.osb_system.specs.Hostname.{is_host_byte}
use Rattle.osb_system.proofs.hostname.is_hostname.Goals as goal

pub returns-then-is_short : goal.returns-then-is_short
returns-then-is_short c =
    let all = all_from_yields_List is_host_byte _ _ c.all.result c.all.ensures.ran (YieldsList-from_slice c.args.name.now cc) (λ x b q k. search (rules, tests)) in
    grind (arith, nat_tests)
