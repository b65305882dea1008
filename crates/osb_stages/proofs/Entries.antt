-- The members of an object, read one after another.
use Rattle.std.proofs.Common.{◌≡◌, ℕ, List, [], ◌∷◌, ◌++◌, Ok, Err, refl, ap, append_assoc}
use Rattle.serde_json.specs.Data.{Data, Members, member}
use Rattle.osb_stages.specs.Readers.{Read, ◌>>=◌, entry, entries}

-- those before one more, and that one
pub entries-next : {K A : Type 0} (read_key : List ℕ → Read K) (read : Data → Read A) (before : List (K × A)) (name : List ℕ) (value : Data) (members : Members) (first : K × A) → Ok first ≡ entry read_key read name value
    → (entries read_key read members >>= λ others. Ok ((before ++ first ∷ []) ++ others)) ≡ (entries read_key read (member name value members) >>= λ others. Ok (before ++ others))
entries-next {K} {A} read_key read before name value members first e = rw (← e) (by (entries read_key read members))
  where
    by : (read : Read (List (K × A))) → (read >>= λ others. Ok ((before ++ first ∷ []) ++ others)) ≡ ((read >>= λ others. Ok (first ∷ others)) >>= λ others. Ok (before ++ others))
    by (Ok others) = ap Ok (append_assoc before (first ∷ []) others)
    by (Err fault) = refl
