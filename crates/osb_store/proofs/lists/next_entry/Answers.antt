use Rattle.std.proofs.Common.{ℕ, List, Err, Bor}
use Rattle.osb_tree.specs.Chunks.{AreOfATree}
use Rattle.osb_tree.specs.Trees.{Listing}
use Rattle.osb_tree.specs.declared.chunks.Chunk.{Chunk}
use Rattle.osb_cache.specs.declared.answers.Stored.{Stored}
use Rattle.osb_store.specs.Entries.{entry_at, is_entry, GivesSuch}
use Rattle.osb_store.specs.Lists.{checked_at}
use Rattle.osb_store.specs.Steps.{Gives}
use Rattle.osb_store.specs.declared.steps.Stop.{Stop}
use Rattle.osb_store.specs.declared.steps.Stop.TheVariants.{Broken, Memory}
use Rattle.osb_store.proofs.EntryTests.{entry_none}
use Rattle.osb_store.proofs.lists.next_entry.Goals as goal

no_entry : {X : Type 0} (seen : X → Stored Listing × List ℕ) (keys : ℕ) (before : List (Stored Listing)) (bytes : List ℕ) (stop : Stop) → GivesSuch (λ (entry : Stored Listing). AreOfATree entry.chunks) seen (Err stop) (entry_at bytes)
    → Gives seen (Err stop) (checked_at entry_at (is_entry keys) before bytes)
no_entry seen keys before bytes Broken none = entry_none keys before (entry_at bytes) none
no_entry seen keys before bytes Memory none = tt

pub returns-in-Err-clause-entry : goal.returns-in-Err-clause-entry
returns-in-Err-clause-entry c = no_entry (λ (x : Stored Chunk × Bor (List ℕ)). (x.0, x.1.now)) c.args.keys c.args.entries.now c.args.bytes.now c.in-Err.stop c.in-Err.ensures
