-- What clap says of the command: it is one of those whose matches and faults are told.
use Rattle.std.proofs.Common.{◌≡◌, ◌∙◌, ℕ, true, List, [], Result, Err, refl, ap, subst, inl, inr}
use Rattle.std.specs.Result.{IsErrAnd}
use Rattle.std.proofs.lemmas.Result.{err_from_is_err_and}
use Rattle.clap.specs.Words.{App, HasKind, HasMatchesOf, fault_of, found_of, is_simple, is_simple_and_free, kind_of, matches_of, rows_of}
use Rattle.clap.specs.declared.error.Error.{Error}
use Rattle.clap.specs.declared.parser.matches.ArgMatches.{ArgMatches}
use Rattle.clap.proofs.OnLiterals.{clap_on_literals}
use Rattle.osb_words.specs.Commands.{build_app}
use Rattle.osb_words.specs.Readings.{fault_by}
use Rattle.osb_words.specs.Requests.{IsTaken}
use Rattle.osb_words.specs.declared.reading.WordsFault.{WordsFault}
use Rattle.osb_words.specs.declared.reading.WordsFault.TheVariants.{Refused, NoMemory}

build_app-simple : is_simple build_app ≡ true
unfolding build_app clap_on_literals
build_app-simple = refl

build_app-free : is_simple_and_free build_app ≡ true
unfolding build_app clap_on_literals
build_app-free = refl

pub rows-found : (app : App) (words : List (List ℕ)) (matches : ArgMatches) → app ≡ build_app → HasMatchesOf app words matches → rows_of (found_of matches) ≡ matches_of build_app words
rows-found app words matches e has = (subst (λ (app : App). HasMatchesOf app words matches) e has build_app-simple).0

pub taken : (app : App) (words : List (List ℕ)) → app ≡ build_app → (is_simple_and_free app ≡ true → fault_of app words ≡ []) → IsTaken words
taken app words e none = subst (λ (app : App). is_simple_and_free app ≡ true → fault_of app words ≡ []) e none build_app-free

-- words that are refused are not taken
pub not_taken : {A : Type 0} (app : App) (words : List (List ℕ)) (error : Error) (result : Result A WordsFault) → app ≡ build_app
    → (is_simple_and_free app ≡ true → HasKind (fault_of app words) error) → IsErrAnd result (λ fault. fault ≡ fault_by (kind_of error))
    → result ≡ Err Refused → IsTaken words → ⊥
not_taken app words error result e kinds made refused is =
    by (subst (λ (app : App). is_simple_and_free app ≡ true → HasKind (fault_of app words) error) e kinds build_app-free)
  where
    by : HasKind (fault_of build_app words) error → ⊥
    by has = elim (subst (λ kinds. HasKind kinds error) is has) [
      | inl memory ↦
          let p = err_from_is_err_and result made in
          let no_memory : p.0 ≡ NoMemory = p.2 ∙ ap fault_by memory in
          cc
      | inr none ↦ none
    ]
