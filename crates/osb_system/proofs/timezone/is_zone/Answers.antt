use Rattle.std.proofs.Common.{rules, tests, arith}
use Rattle.std.proofs.lemmas.Bool.Decides.{nat_tests}
use Rattle.std.proofs.lemmas.Iterator.{YieldsList-from_slice}
use Rattle.std.proofs.lemmas.Iterator.Search.{all_from_yields_List}
use Rattle.osb_system.specs.Zones.{is_zone_byte}
use Rattle.osb_system.proofs.timezone.is_zone.Goals as goal

pub returns-then-zone-le128 : goal.returns-then-zone-le128
returns-then-zone-le128 c =
    let all = all_from_yields_List is_zone_byte _ _ c.all.result c.all.ensures.ran (YieldsList-from_slice c.args.zone.now cc) (λ x b q k. search (rules, tests)) in
    grind (arith, nat_tests)
