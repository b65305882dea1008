-- Where refused memory takes a job.
use Rattle.std.proofs.Common.{◌≡◌, inl, inr, [], ◌∷◌, Bool, true, false, Some, refl, sym, ap, subst, ◌∙◌}
use Rattle.std.proofs.lemmas.Bool.{false≢true}
use Rattle.std.proofs.lemmas.Option.{none-some, same_Some}
use Rattle.osb_job.specs.declared.actions.Action.{Action}
use Rattle.osb_job.specs.declared.actions.Action.TheVariants as actions
use Rattle.osb_job.specs.declared.places.Place.{Place}
use Rattle.osb_job.specs.declared.places.Place.TheVariants.{Outside, Gone, Fetching, Looking, Reading, Holding, Reserving, Filling, Putting, Unpinning, Dropping, Ending, Ended}
use Rattle.osb_job.specs.Jobs.{wants, asked, refused}
use Rattle.osb_state.specs.States.{is_refusable}
use Rattle.osb_state.proofs.Taking.{asked_refusable}
use Rattle.osb_work.specs.Works.{Stays, IsAway}

sure_of : (wanted action : Action) → is_refusable wanted ≡ false → Some wanted ≡ Some action → is_refusable action ≡ false
sure_of wanted action sure is = subst (λ (a : Action). is_refusable a ≡ false) (same_Some wanted action is) sure

-- what comes after it takes no memory
pub sure_after : (place : Place) (action : Action) → wants (refused place) ≡ Some action → is_refusable action ≡ false
sure_after Outside action is = absurd (none-some action is)
sure_after Gone action is = absurd (none-some action is)
sure_after (Fetching task dep got) action is = sure_of _ action refl is
sure_after (Looking setup) action is = sure_of _ action refl is
sure_after (Reading setup key count parts) action is = sure_of _ action refl is
sure_after (Holding setup key tree) action is = sure_of _ action refl is
sure_after (Reserving setup key tree run) action is = sure_of _ action refl is
sure_after (Filling setup key tree run parts) action is = sure_of _ action refl is
sure_after (Putting setup key tree run parts) action is = sure_of _ action refl is
sure_after (Unpinning task key) action is = sure_of _ action refl is
sure_after (Dropping task key) action is = sure_of _ action refl is
sure_after (Ending task outcome) action is = sure_of _ action refl is
sure_after Ended action is = absurd (none-some action is)

-- memory is refused once between two turns
pub given_up_once : (last place : Place) (action : Action) → Stays last place → wants place ≡ Some action → is_refusable action ≡ true → last ≡ place
given_up_once last place action (inl same) wanted may = sym same
given_up_once last place action (inr gives) wanted may =
    absurd (false≢true (sym (sure_after (asked last) action (ap wants (sym gives.is) ∙ wanted)) ∙ may))

-- ---- a worker that leaves or has ended

abbrev is_outside : Place → Bool
is_outside Outside = true
is_outside place = false

not_outside : (place : Place) → is_outside (refused place) ≡ false
not_outside Outside = refl
not_outside Gone = refl
not_outside (Fetching task dep got) = refl
not_outside (Looking setup) = refl
not_outside (Reading setup key count parts) = refl
not_outside (Holding setup key tree) = refl
not_outside (Reserving setup key tree run) = refl
not_outside (Filling setup key tree run parts) = refl
not_outside (Putting setup key tree run parts) = refl
not_outside (Unpinning task key) = refl
not_outside (Dropping task key) = refl
not_outside (Ending task outcome) = refl
not_outside Ended = refl

pub stays_outside : (last : Place) → Stays last Outside → IsAway last
stays_outside last (inl same) = inl (sym same)
stays_outside last (inr gives) = absurd (false≢true (sym (not_outside (asked last)) ∙ ap is_outside (sym gives.is)))

abbrev is_gone : Place → Bool
is_gone Gone = true
is_gone place = false

away_from : (place : Place) → is_gone (refused place) ≡ true → IsAway place
away_from Outside is = inl refl
away_from Gone is = inr refl
away_from (Fetching task dep got) is = absurd (false≢true is)
away_from (Looking setup) is = absurd (false≢true is)
away_from (Reading setup key count parts) is = absurd (false≢true is)
away_from (Holding setup key tree) is = absurd (false≢true is)
away_from (Reserving setup key tree run) is = absurd (false≢true is)
away_from (Filling setup key tree run parts) is = absurd (false≢true is)
away_from (Putting setup key tree run parts) is = absurd (false≢true is)
away_from (Unpinning task key) is = absurd (false≢true is)
away_from (Dropping task key) is = absurd (false≢true is)
away_from (Ending task outcome) is = absurd (false≢true is)
away_from Ended is = absurd (false≢true is)

pub stays_gone : (last : Place) → Stays last Gone → IsAway last
stays_gone last (inl same) = inr (sym same)
stays_gone last (inr gives) = away_from last (ap is_gone (ap refused (sym (asked_refusable last gives.action gives.wanted gives.may)) ∙ sym gives.is))

-- ---- which actions never wait

abbrev is_claim : Action → Bool
is_claim actions.Claim = true
is_claim action = false

no_claim : {A : Type 0} (wanted : Action) → is_claim wanted ≡ false → Some wanted ≡ Some actions.Claim → A
no_claim wanted none e = absurd (false≢true (sym none ∙ ap is_claim (same_Some wanted actions.Claim e)))

pub claims_outside : (place : Place) → wants place ≡ Some actions.Claim → place ≡ Outside
claims_outside Outside e = refl
claims_outside Gone e = absurd (none-some _ e)
claims_outside (Fetching task dep got) e = no_claim _ refl e
claims_outside (Looking setup) e = no_claim _ refl e
claims_outside (Reading setup key count parts) e = no_claim _ refl e
claims_outside (Holding setup key tree) e = no_claim _ refl e
claims_outside (Reserving setup key tree run) e = no_claim _ refl e
claims_outside (Filling setup key tree run []) e = no_claim _ refl e
claims_outside (Filling setup key tree run (chunk ∷ chunks)) e = no_claim _ refl e
claims_outside (Putting setup key tree run parts) e = absurd (none-some _ e)
claims_outside (Unpinning task key) e = no_claim _ refl e
claims_outside (Dropping task key) e = no_claim _ refl e
claims_outside (Ending task outcome) e = no_claim _ refl e
claims_outside Ended e = absurd (none-some _ e)
