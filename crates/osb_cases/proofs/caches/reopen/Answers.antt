use Rattle.osb_cases.proofs.caches.reopen.Goals as goal

pub open-requires : goal.open-requires
open-requires c = record { can_open = c.in_ok-entries.ensures.can_open c.args.limit c.requires }
