-- A run over what a shelf gives is one over what it holds.
use Rattle.std.proofs.Common.{◌≡◌, ℕ, ◌+◌, ◌≤◌, length, cond, List, [], ◌∷◌, Option, Some, None, option_map, IfSome, Result, Ok, Err, sym, refl, ap, ap₂, subst, ◌∙◌, inl, inr}
use Rattle.std.specs.List.{AllZip, count_by}
use Rattle.std.proofs.lemmas.List.Sums.{sum_by-cons}
use Rattle.osb_base.specs.Shelves.{Files, file_of, cut}
use Rattle.osb_base.proofs.Cuts.{cut_short}
use Rattle.osb_base.specs.Fetchers.{FetcherState}
use Rattle.osb_base.specs.declared.faults.ReadStop.{ReadStop}
use Rattle.osb_plan.specs.declared.builds.Build.{Build}
use Rattle.osb_store.specs.declared.stores.Store.{Store}
use Rattle.osb_words.specs.declared.requests.Settings.{Settings}
use Rattle.osb_ready.specs.Readying.{Reply, cut_reply, IsPrepared}
use Rattle.osb_ready.specs.declared.unbuilt.Unbuilt.{Unbuilt}
use Rattle.osb_ready.proofs.Cuts.{prepared-cut}
use Rattle.osb_top.specs.Seen.{Seen}
use Rattle.osb_top.specs.Builds.{ArePrepared, one_prepared}
use Rattle.osb_top.specs.Readings.{IsCutGiven, IsCutOf}
use Rattle.osb_top.specs.Runs.{IsRunOver}
use Rattle.osb_top.specs.Wholes.{IsGiven, is_fault}

-- ---- one reply

record WholeReply (held : Option Files) (name : List ℕ) (reply : Reply) : Type 0 where
  whole : Reply
  given : IsGiven held name whole
  cuts : IsCutOf whole reply
  same : is_fault whole ≡ is_fault reply

uncut_found : (found : Option (List ℕ)) → IfSome found (λ bytes. length bytes ≤ 16777217) → cut_reply (Ok found) ≡ Ok found
uncut_found None short = refl
uncut_found (Some bytes) short = ap (λ b. Ok (Some b)) (cut_short bytes short)

cut_found : (found : Option (List ℕ)) → cut_reply (Ok found) ≡ Ok (option_map cut found)
cut_found None = refl
cut_found (Some bytes) = refl

given_stop : (held : Option Files) (name : List ℕ) (stop : ReadStop) → IsGiven held name (Err stop)
given_stop None name stop = tt
given_stop (Some files) name stop = tt

whole_reply : (held : Option Files) (name : List ℕ) (reply : Reply) → IsCutGiven held name reply → WholeReply held name reply
whole_reply held name (Err stop) is = record { whole = Err stop; given = given_stop held name stop; cuts = refl; same = refl }
whole_reply None name (Ok found) is = record { whole = Ok found; given = tt; cuts = sym (uncut_found found is.short); same = refl }
whole_reply (Some files) name (Ok found) is = record { whole = Ok (file_of files name); given = refl; cuts = ap Ok is.read ∙ sym (cut_found (file_of files name)); same = refl }

-- ---- all replies

pub record WholeReplies (held : Option Files) (names : List (List ℕ)) (reads : List Reply) : Type 0 where
  pub whole : List Reply
  pub given : AllZip (IsGiven held) names whole
  pub cuts : AllZip IsCutOf whole reads
  pub same : count_by is_fault whole ≡ count_by is_fault reads

pub whole_replies : (held : Option Files) (names : List (List ℕ)) (reads : List Reply) → AllZip (IsCutGiven held) names reads → WholeReplies held names reads
whole_replies held [] [] are = record { whole = []; given = tt; cuts = tt; same = refl }
whole_replies held [] (reply ∷ reads) are = absurd are
whole_replies held (name ∷ names) [] are = absurd are
whole_replies held (name ∷ names) (reply ∷ reads) are =
    let first = whole_reply held name reply are.0 in
    let others = whole_replies held names reads are.1 in
    record {
      whole = first.whole ∷ others.whole;
      given = (first.given, others.given);
      cuts = (first.cuts, others.cuts);
      same =
          sum_by-cons (λ r. cond (is_fault r) 1 0) first.whole others.whole
          ∙ ap₂ (λ fails count. cond fails 1 0 + count) first.same others.same
          ∙ sym (sum_by-cons (λ r. cond (is_fault r) 1 0) reply reads);
    }

-- ---- runs

prepared_whole : (settings : Settings) (whole reads : List Reply) (before now : List FetcherState) (builds : List (Result Build Unbuilt)) → AllZip IsCutOf whole reads → ArePrepared settings before reads builds now → ArePrepared settings before whole builds now
prepared_whole settings [] [] before now builds cuts are = are
prepared_whole settings [] (reply ∷ reads) before now builds cuts are = absurd cuts
prepared_whole settings (one ∷ whole) [] before now builds cuts are = absurd cuts
prepared_whole settings (one ∷ whole) (_ ∷ _) _ _ _ cuts (one_prepared before between now given ready reads builds is others) =
    one_prepared before between now one ready whole builds
    (prepared-cut settings one before between ready (subst (λ (r : Reply). IsPrepared settings r before between ready) cuts.0 is))
    (prepared_whole settings whole reads between now builds cuts.1 others)

pub run_uncut : (settings : Settings) (workers : ℕ) (store : Store) (whole reads : List Reply) (seen : Seen) (status : ℕ) → AllZip IsCutOf whole reads → IsRunOver settings workers store reads seen status → IsRunOver settings workers store whole seen status
run_uncut settings workers store whole reads seen status cuts (inl comes) = inl (record {
  builds = comes.builds;
  finished = comes.finished;
  answers = comes.answers;
  saved = comes.saved;
  prepared = prepared_whole settings whole reads seen.fetchers.before seen.fetchers.now comes.builds cuts comes.prepared;
  answered = comes.answered;
  trees = comes.trees;
  log = comes.log;
  kept = comes.kept;
  output = comes.output;
})
run_uncut settings workers store whole reads seen status cuts (inr stops) = inr stops
