-- Runs from their words on, by what their calls give.
use Rattle.std.proofs.Common.{◌≡◌, ℕ, List, Option, Some, sym, subst, inl}
use Rattle.std.specs.List.{AllZip, count_by}
use Rattle.osb_store.specs.declared.stores.Store.{Store}
use Rattle.osb_words.specs.Requests.{AreRefused}
use Rattle.osb_words.specs.declared.requests.Settings.{Settings}
use Rattle.osb_ready.specs.Readying.{Reply}
use Rattle.osb_answers.specs.Exports.{RoseBy}
use Rattle.osb_top.specs.Seen.{ShelfSeen, Seen}
use Rattle.osb_top.specs.Readings.{IsCutGiven}
use Rattle.osb_top.specs.Runs.{IsRunOver}
use Rattle.osb_top.specs.Wholes.{is_fault, Reads, Loads, IsRun}
use Rattle.osb_top.proofs.Uncut.{whole_replies, run_uncut}

-- ---- over the store

module _ (settings : Settings) (workers : ℕ) (shelf : ShelfSeen) (seen : Seen) (status : ℕ) where
  pub reads_whole : (store : Store) (reads : List Reply) → AllZip (IsCutGiven shelf.files) settings.manifests reads → RoseBy (count_by is_fault reads) shelf.faults → IsRunOver settings workers store reads seen status → Reads settings workers store shelf seen status
  reads_whole store reads given rose run =
      let replies = whole_replies shelf.files settings.manifests reads given in
      record {
        reads = replies.whole;
        given = replies.given;
        faults = subst (λ n. RoseBy n shelf.faults) (sym replies.same) rose;
        run = run_uncut settings workers store replies.whole reads seen status replies.cuts run;
      }

-- ---- from the words on

module _ (workers : Settings → ℕ) (words : List (List ℕ)) (shelf : ShelfSeen) (seen : Seen) (status : ℕ) where
  pub asked_run : (request : Option Settings) (settings : Settings) → request ≡ Some settings → Loads settings (workers settings) shelf seen status → IsRun workers (AreRefused words) request shelf seen status
  asked_run request settings is loads = subst (λ (r : Option Settings). IsRun workers (AreRefused words) r shelf seen status) (sym is) (inl loads)
