use Rattle.osb_cache.proofs.Kept.{sound-opened}
use Rattle.osb_cache.proofs.Stays.{sound-look, sound-unpin, sound-reserve, sound-put, sound-commit, sound-drop}
use Rattle.osb_cache.proofs.laws.caches_stay.Goals as goal

pub returns : goal.returns
returns g c = record {
  law = record {
    opening = sound-opened;
    look = sound-look;
    unpin = sound-unpin;
    reserve = sound-reserve;
    put = sound-put;
    commit = sound-commit;
    drop = sound-drop;
  };
}
