use Rattle.osb_cache.proofs.Stays.{pins-look, pins-unpin, pins-reserve, pins-commit}
use Rattle.osb_cache.proofs.laws.pins_stay.Goals as goal

pub returns : goal.returns
returns g c = record {
  law = record {
    look = pins-look;
    unpin = pins-unpin;
    reserve = pins-reserve;
    commit = pins-commit;
  };
}
