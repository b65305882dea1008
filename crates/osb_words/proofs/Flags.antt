-- The flag, as clap reads it.
use Rattle.std.proofs.Common.{◌≡◌, ◌≢◌, ℕ, Bool, true, false, List, Option, Some, None, codes, refl}
use Rattle.std.specs.Prelude.{unwrap_or}
use Rattle.std.specs.Str.{bytes_eq}
use Rattle.std.specs.Str.Parse.{ParsesBool}
use Rattle.std.proofs.lemmas.Slice.Eq.{bytes_eq-Decides}
use Rattle.clap.specs.Words.{ReadsOne, Row, one_of}
use Rattle.osb_words.specs.Requests.{is_flagged}

not_true : (text : List ℕ) (b : Bool) → bytes_eq text (codes "true") ≡ b → text ≢ codes "true" → false ≡ b
not_true text true e ne = absurd (ne ((bytes_eq-Decides text (codes "true")).0 e))
not_true text false e ne = refl

pub flag-read : (E : Type 0) (rows : List Row) (text : Option (List ℕ)) (flag : Option Bool) → one_of (codes "log") rows ≡ text
    → (text ≡ None → flag ≡ None) → ((t : List ℕ) → text ≡ Some t → ReadsOne {E = E} ParsesBool t flag) → unwrap_or flag false ≡ is_flagged rows
flag-read E rows None flag is none value = rw (is, none refl) refl
flag-read E rows (Some t) None is none value = rw is (not_true t _ refl (value t refl).1.0)
flag-read E rows (Some t) (Some true) is none value = rw (is, value t refl) refl
flag-read E rows (Some t) (Some false) is none value = rw (is, value t refl) refl
