-- Staged entries in numbers follow the cache's.
use Rattle.std.proofs.Common.{◌≡◌, ℕ, ◌-◌, Bool, true, false, cond, List, [], ◌∷◌, ◌++◌, length, map, find, Option, Some, refl, sym, ap, ◌∙◌, arith}
use Rattle.std.specs.List.{list_any}
use Rattle.std.proofs.lemmas.List.{length-append}
use Rattle.std.proofs.lemmas.Option.{none-some, same_Some}
use Rattle.osb_tree.specs.Trees.{Listing}
use Rattle.osb_cache.specs.Edits.{remove_first, update_first}
use Rattle.osb_cache.specs.Caches.{Draft, is_draft, with_chunk}
use Rattle.osb_cache.proofs.Firsts.{any_found}
use Rattle.osb_machine.specs.declared.stagings.Staging.{Staging}
use Rattle.osb_machine.specs.Owed.{staging_of, is_staging, one_put}

find_step : (b : Bool) (y d : Draft Listing) (o : Option (Draft Listing)) (p : Option Staging) → (o ≡ Some d → p ≡ Some (staging_of d)) → cond b (Some y) o ≡ Some d → cond b (Some (staging_of y)) p ≡ Some (staging_of d)
find_step true y d o p rest e = ap (λ (x : Draft Listing). Some (staging_of x)) (same_Some y d e)
find_step false y d o p rest e = rest e

pub find-staged : (worker key : ℕ) (drafts : List (Draft Listing)) (draft : Draft Listing) → find (is_draft worker key) drafts ≡ Some draft → find (is_staging worker key) (map staging_of drafts) ≡ Some (staging_of draft)
find-staged worker key [] draft e = absurd (none-some draft e)
find-staged worker key (d ∷ drafts) draft e =
    find_step (is_draft worker key d) d draft (find (is_draft worker key) drafts) (find (is_staging worker key) (map staging_of drafts)) (find-staged worker key drafts draft) e

pub any-staged : (worker key : ℕ) (drafts : List (Draft Listing)) (draft : Draft Listing) (stagings : List Staging) → stagings ≡ map staging_of drafts → find (is_draft worker key) drafts ≡ Some draft → list_any (is_staging worker key) stagings ≡ true
any-staged worker key drafts draft stagings same e =
    any_found (is_staging worker key) stagings (staging_of draft) (ap (λ (xs : List Staging). find (is_staging worker key) xs) same ∙ find-staged worker key drafts draft e)

-- the one that is found
pub staged_is : (worker key : ℕ) (drafts : List (Draft Listing)) (draft : Draft Listing) (stagings : List Staging) (staging : Staging) → stagings ≡ map staging_of drafts → find (is_draft worker key) drafts ≡ Some draft → find (is_staging worker key) stagings ≡ Some staging → staging ≡ staging_of draft
staged_is worker key drafts draft stagings staging same e found =
    same_Some staging (staging_of draft) (sym found ∙ ap (λ (xs : List Staging). find (is_staging worker key) xs) same ∙ find-staged worker key drafts draft e)

left_less : (count : ℕ) (chunks : List Listing) (chunk : Listing) → count - length (chunks ++ chunk ∷ []) ≡ count - length chunks - 1
left_less count chunks chunk = rw length-append (omega arith)

staging-put : (chunk : Listing) (draft : Draft Listing) → staging_of (with_chunk chunk draft) ≡ one_put (staging_of draft)
staging-put chunk draft =
    ap (λ (n : ℕ). record (staging_of draft) { left = n }) (left_less draft.count draft.chunks chunk)

put_step : (b : Bool) (chunk : Listing) (d : Draft Listing) (drafts rest : List (Draft Listing)) (stagings : List Staging) → map staging_of rest ≡ stagings → map staging_of (cond b (with_chunk chunk d ∷ drafts) (d ∷ rest)) ≡ cond b (one_put (staging_of d) ∷ map staging_of drafts) (staging_of d ∷ stagings)
put_step true chunk d drafts rest stagings e = ap (λ (s : Staging). s ∷ map staging_of drafts) (staging-put chunk d)
put_step false chunk d drafts rest stagings e = ap (λ (xs : List Staging). staging_of d ∷ xs) e

pub put-staged : (worker key : ℕ) (chunk : Listing) (drafts : List (Draft Listing)) → map staging_of (update_first (is_draft worker key) (with_chunk chunk) drafts) ≡ update_first (is_staging worker key) one_put (map staging_of drafts)
put-staged worker key chunk [] = refl
put-staged worker key chunk (d ∷ drafts) =
    put_step (is_draft worker key d) chunk d drafts (update_first (is_draft worker key) (with_chunk chunk) drafts) (update_first (is_staging worker key) one_put (map staging_of drafts)) (put-staged worker key chunk drafts)

remove_step : (b : Bool) (d : Draft Listing) (drafts rest : List (Draft Listing)) (stagings : List Staging) → map staging_of rest ≡ stagings → map staging_of (cond b drafts (d ∷ rest)) ≡ cond b (map staging_of drafts) (staging_of d ∷ stagings)
remove_step true d drafts rest stagings e = refl
remove_step false d drafts rest stagings e = ap (λ (xs : List Staging). staging_of d ∷ xs) e

pub remove-staged : (worker key : ℕ) (drafts : List (Draft Listing)) → map staging_of (remove_first (is_draft worker key) drafts) ≡ remove_first (is_staging worker key) (map staging_of drafts)
remove-staged worker key [] = refl
remove-staged worker key (d ∷ drafts) =
    remove_step (is_draft worker key d) d drafts (remove_first (is_draft worker key) drafts) (remove_first (is_staging worker key) (map staging_of drafts)) (remove-staged worker key drafts)
