use Rattle.osb_cache.proofs.Stays.{chunks-look, chunks-unpin, chunks-reserve, chunks-commit, chunks-made}
use Rattle.osb_cache.proofs.laws.chunks_stay.Goals as goal

pub returns : goal.returns
returns g c = record {
  law = record {
    look = chunks-look;
    unpin = chunks-unpin;
    reserve = chunks-reserve;
    commit = chunks-commit;
    made = chunks-made;
  };
}
