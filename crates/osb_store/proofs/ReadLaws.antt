-- What the bytes of a store tell: the store, or the one cause why they are none.
use Rattle.std.proofs.Common.{◌≡◌, ℕ, ◌+◌, ◌^◌, ◌<◌, ◌⊎◌, List, ◌++◌, length, get_or, Result, Ok, Err, IfOk, IfErr, inl, inr, refl, sym, ap, ◌∙◌, subst, arith, length-append, lit<}
use Rattle.std.proofs.lemmas.Bool.{cases_lt}
use Rattle.std.proofs.lemmas.List.{get_or_append_left, get_or_past}
use Rattle.sha2.specs.Sha256.{sha256}
use Rattle.sha2.proofs.Facts256.{length-sha256}
use Rattle.osb_store.specs.declared.refusals.StoreRefusal.{StoreRefusal}
use Rattle.osb_store.specs.declared.refusals.StoreRefusal.TheVariants.{Magic, Truncated, TrailingBytes, Digest, Shape, NoMemory}
use Rattle.osb_store.specs.declared.stores.Store.{Store}
use Rattle.osb_store.specs.Bytes.{IsBytes}
use Rattle.osb_store.specs.Fields.{number, field}
use Rattle.osb_store.specs.Texts.{magic, headed, sealed, body_text, store_text}
use Rattle.osb_store.specs.Rules.{IsStore}
use Rattle.osb_store.specs.Refusals.{IsRefused, BodyStopsAt}
use Rattle.osb_store.specs.Lists.{body_at, GivesFrom}
use Rattle.osb_store.specs.Sealing.{body_in}
use Rattle.osb_store.proofs.Spelling.{bytes_behind}
use Rattle.osb_store.proofs.BodyLaws.{body_take}
use Rattle.osb_store.proofs.BodyStops.{body_again, body_stop, body_stop_again}
use Rattle.osb_store.proofs.Seals.{Told, length-headed, seal_again, seal_told, magic_again, short_again, long_again, digest_again}

bytes_before : (front rest bytes : List ℕ) → bytes ≡ front ++ rest → IsBytes bytes → IsBytes front
bytes_before front rest bytes e b i = elim (cases_lt i (length front)) [
  | inl below ↦ subst (λ (n : ℕ). n < 256) (ap (λ (xs : List ℕ). get_or xs i 0) e ∙ get_or_append_left front rest 0 i below) (b i)
  | inr past ↦ rw (get_or_past front i 0 past) (lit< tt)
]

length-sealed : (body : List ℕ) → length (sealed body) ≡ 48 + length body
unfolding sealed
length-sealed body = omega (arith, length-append (headed body) (sha256 (headed body)), length-headed body, length-sha256 (headed body))

body_bytes : (bytes body : List ℕ) → bytes ≡ sealed body → IsBytes bytes → IsBytes body
unfolding sealed headed
body_bytes bytes body e b =
    bytes_behind (number (length body)) body (field body) refl (bytes_behind magic (field body) (headed body) refl (bytes_before (headed body) (sha256 (headed body)) bytes e b))

-- what the answer to some bytes has to be
pub record IsRead (bytes : List ℕ) (result : Result Store StoreRefusal) : Type 0 where
  pub text : IfOk result (λ store. bytes ≡ store_text store)
  pub store : IfOk result IsStore
  pub accepts : (held : Store) → IsStore held → bytes ≡ store_text held → (result ≡ Ok held) ⊎ (result ≡ Err NoMemory)
  pub refused : IfErr result (λ refusal. (refusal ≡ NoMemory) ⊎ IsRefused refusal bytes)
  pub refuses : (refusal : StoreRefusal) → IsRefused refusal bytes → (result ≡ Err refusal) ⊎ (result ≡ Err NoMemory)

module _ (bytes : List ℕ) (b : IsBytes bytes) (short : length bytes < 2 ^ 64) where
  -- ---- where there is no body

  no_refusal : (refusal other : StoreRefusal) → body_in bytes ≡ Err refusal → IsRefused other bytes → refusal ≡ other
  no_refusal refusal Magic e is = (let other = magic_again bytes b short is in cc)
  no_refusal refusal Truncated e is = (let other = short_again bytes b short is in cc)
  no_refusal refusal TrailingBytes e is = (let other = long_again bytes b short is in cc)
  no_refusal refusal Digest e is = (let other = digest_again bytes b short is in cc)
  no_refusal refusal (Shape place) e (body, parts, stops) = (let other = seal_again bytes body short parts in absurd (cc))
  no_refusal refusal NoMemory e is = absurd is

  pub read_none : (refusal : StoreRefusal) → body_in bytes ≡ Err refusal → IsRead bytes (Err refusal)
  read_none refusal e = record {
    text = tt;
    store = tt;
    accepts = λ held is parts. (let other = seal_again bytes (body_text held) short parts in absurd (cc));
    refused = inr (told (body_in bytes) e (seal_told bytes b short));
    refuses = λ other is. inl (ap Err (no_refusal refusal other e is));
  }
    where
      told : (taken : Result (List ℕ) StoreRefusal) → taken ≡ Err refusal → Told bytes taken → IsRefused refusal bytes
      told taken same is = (let is' = subst (Told bytes) same is in is')

  -- ---- where there is one

  module _ (body : List ℕ) (e : body_in bytes ≡ Ok body) where
    sealed_body : bytes ≡ sealed body
    sealed_body = subst (Told bytes) e (seal_told bytes b short)

    b' : IsBytes body
    b' = body_bytes bytes body sealed_body b

    short' : length body < 2 ^ 64
    short' = let sizes = ap length sealed_body in omega (arith, sizes, length-sealed body)

    same_body : (other : List ℕ) → bytes ≡ sealed other → body ≡ other
    same_body other parts = (let is = seal_again bytes other short parts in cc)

    is_shape : (place : ℕ) (other : List ℕ) → bytes ≡ sealed other → BodyStopsAt other place → body_at body ≡ Err place
    is_shape place other parts stops =
        body_stop_again body b' short' place (subst (λ (xs : List ℕ). BodyStopsAt xs place) (sym (same_body other parts)) stops)

    has_store : (held : Store) → IsStore held → bytes ≡ store_text held → body_at body ≡ Ok held
    has_store held is parts =
        let same = same_body (body_text held) parts in
        ap body_at same ∙ body_again held is (subst (λ (xs : List ℕ). length xs < 2 ^ 64) same short')

    read_ok : (held : Store) → body_at body ≡ Ok held → IsRead bytes (Ok held)
    read_ok held is = (let taken = body_take body b' short' held is in record {
      text = sealed_body ∙ ap sealed taken.0;
      store = taken.1;
      accepts = λ other good parts. (let told = has_store other good parts in inl (cc));
      refused = tt;
      refuses = refuses;
    })
      where
        refuses : (refusal : StoreRefusal) → IsRefused refusal bytes → (◌≡◌ {A = Result Store StoreRefusal} (Ok held) (Err refusal)) ⊎ (◌≡◌ {A = Result Store StoreRefusal} (Ok held) (Err NoMemory))
        refuses Magic r = (let other = magic_again bytes b short r in absurd (cc))
        refuses Truncated r = (let other = short_again bytes b short r in absurd (cc))
        refuses TrailingBytes r = (let other = long_again bytes b short r in absurd (cc))
        refuses Digest r = (let other = digest_again bytes b short r in absurd (cc))
        refuses (Shape place) (other, parts, stops) = (let told = is_shape place other parts stops in absurd (cc))
        refuses NoMemory r = absurd r

    read_shape : (place : ℕ) → body_at body ≡ Err place → IsRead bytes (Err (Shape place))
    read_shape place is = record {
      text = tt;
      store = tt;
      accepts = λ other good parts. (let told = has_store other good parts in absurd (cc));
      refused = inr (body, sealed_body, body_stop body b' short' place is);
      refuses = refuses;
    }
      where
        refuses : (refusal : StoreRefusal) → IsRefused refusal bytes → (◌≡◌ {A = Result Store StoreRefusal} (Err (Shape place)) (Err refusal)) ⊎ (◌≡◌ {A = Result Store StoreRefusal} (Err (Shape place)) (Err NoMemory))
        refuses Magic r = (let other = magic_again bytes b short r in absurd (cc))
        refuses Truncated r = (let other = short_again bytes b short r in absurd (cc))
        refuses TrailingBytes r = (let other = long_again bytes b short r in absurd (cc))
        refuses Digest r = (let other = digest_again bytes b short r in absurd (cc))
        refuses (Shape at) (other, parts, stops) = (let told = is_shape at other parts stops in let same : place ≡ at = cc in inl (ap (λ (n : ℕ). Err (Shape n)) same))
        refuses NoMemory r = absurd r

    pub read_body : (result : Result Store StoreRefusal) → GivesFrom (λ (held : Store). held) result (body_at body) → IsRead bytes result
    read_body (Ok held) is = read_ok held is
    read_body (Err (Shape place)) is = read_shape place is
    read_body (Err NoMemory) is = record { text = tt; store = tt; accepts = λ other good parts. inr refl; refused = inl refl; refuses = λ refusal r. inr refl }
    read_body (Err Magic) is = absurd is
    read_body (Err Truncated) is = absurd is
    read_body (Err TrailingBytes) is = absurd is
    read_body (Err Digest) is = absurd is

-- ---- texts

pub one_text : (store other : Store) → IsStore store → IsStore other → length (store_text store) < 2 ^ 64 → store_text store ≡ store_text other → store ≡ other
one_text store other is good short e =
    let mine = body_text store in
    let theirs = body_text other in
    let few : length mine < 2 ^ 64 = omega (arith, length-sealed mine) in
    let first = seal_again (sealed mine) mine short refl in
    let second = seal_again (sealed mine) theirs short e in
    let same : mine ≡ theirs = cc in
    let told = body_again store is few in
    let again : body_at mine ≡ Ok other = ap body_at same ∙ body_again other good (subst (λ (xs : List ℕ). length xs < 2 ^ 64) same few) in
    cc
