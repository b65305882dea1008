-- Names of time zones as targets of links.
use Rattle.std.proofs.Common.{◌≡◌, ℕ, ◌≤◌, ◌==◌, true, false, not, List, [], ◌∷◌, length, refl, ap, arith}
use Rattle.std.specs.Prelude.{IsTrue}
use Rattle.std.specs.List.{list_all}
use Rattle.std.proofs.lemmas.Bool.Decides.{nat_tests}
use Rattle.osb_tree.specs.Paths.{has_byte}
use Rattle.osb_tree.specs.Nodes.{IsTarget}
use Rattle.osb_system.specs.Zones.{is_zone_byte, is_zone}
use Rattle.osb_system.specs.Timezone.{zone_target}

is_zone_byte-not_nul : (byte : ℕ) → is_zone_byte byte ≡ true → (byte == 0) ≡ false
is_zone_byte-not_nul byte passes = grind (arith, nat_tests)

zone-no_nul : (zone : List ℕ) → list_all is_zone_byte zone ≡ true → has_byte 0 zone ≡ false
zone-no_nul [] all = refl
zone-no_nul (byte ∷ zone) all = grind (arith, nat_tests, is_zone_byte-not_nul, zone-no_nul zone)

zone-all : (zone : List ℕ) → IsTrue (is_zone zone) → list_all is_zone_byte zone ≡ true
zone-all zone named = grind (arith, nat_tests)

zone-short : (zone : List ℕ) → IsTrue (is_zone zone) → length zone ≤ 128
zone-short zone named = grind (arith, nat_tests)

pub IsTarget-zone : (zone : List ℕ) → IsTrue (is_zone zone) → IsTarget (zone_target zone)
IsTarget-zone zone named =
    let short = zone-short zone named in
    record {
      some = omega arith;
      short = omega (arith, short);
      no_nul = ap not (zone-no_nul zone (zone-all zone named));
    }
