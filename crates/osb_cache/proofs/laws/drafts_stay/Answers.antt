use Rattle.std.proofs.Common.{refl}
use Rattle.osb_cache.specs.Caches.{is_draft, with_chunk}
use Rattle.osb_cache.proofs.Finds.{find-update_same}
use Rattle.osb_cache.proofs.Stays.{drafts-reserve, drafts-reserved, drafts-put, drafts-drop, drafts-dropped}
use Rattle.osb_cache.proofs.laws.drafts_stay.Goals as goal

pub returns : goal.returns
returns g c = record {
  law = record {
    reserve = λ cache worker key size count evicted other name ne. drafts-reserve cache worker key size count other name ne;
    reserved = λ cache worker key size count evicted free. drafts-reserved cache worker key size count free;
    put = drafts-put;
    filled = λ cache worker key chunk draft e. find-update_same (is_draft worker key) (with_chunk chunk) (λ x. refl) cache.drafts draft e;
    drop = drafts-drop;
    dropped = drafts-dropped;
    commit = λ cache worker key. refl;
  };
}
