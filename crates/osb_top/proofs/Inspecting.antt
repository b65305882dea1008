-- `inspect`, by what its shelf gave, and by what the shelf holds.
use Rattle.std.proofs.Common.{◌≡◌, ◌≢◌, ℕ, List, Option, Some, None, option_map, IfSome, Result, Ok, Err, MatchResult, sym, refl, ap, subst, inl, inr}
use Rattle.osb_base.specs.Shelves.{file_of, cut}
use Rattle.osb_manifest.specs.Manifests.{manifest_of}
use Rattle.osb_manifest.specs.declared.manifests.Manifest.{Manifest}
use Rattle.osb_manifest.specs.declared.manifests.Refusal.{Refusal}
use Rattle.osb_top.specs.Seen.{ShelfSeen, SinkSeen}
use Rattle.osb_top.specs.Writing.{IsWritten}
use Rattle.osb_top.specs.Inspects.{read_due, inspect_due, inspect_out, inspect_status, IsInspected, Inspects}
use Rattle.osb_top.specs.Inspecting.{MayBeUnbuilt, IsInspection, WritesInspected}
use Rattle.osb_ready.specs.declared.unbuilt.Unbuilt.{Unbuilt}
use Rattle.osb_ready.specs.declared.unbuilt.Unbuilt.TheVariants.{Absent, ReadFault, Refused, NoSuchExport, Source, Failed, NoMemory}
use Rattle.osb_ready.proofs.Cuts.{manifest_of-cut}
use Rattle.osb_top.proofs.Givens.{NoFault, given_read}

inspect_due-cut : (found : Option (List ℕ)) → inspect_due (option_map cut found) ≡ inspect_due found
inspect_due-cut None = refl
inspect_due-cut (Some bytes) = ap read_due (manifest_of-cut bytes)

read_due-fault : (read : Result Manifest Refusal) → NoFault (read_due read)
read_due-fault (Ok manifest) e = cc
read_due-fault (Err refusal) e = cc

inspect_due-fault : (found : Option (List ℕ)) → NoFault (inspect_due found)
inspect_due-fault None e = cc
inspect_due-fault (Some bytes) e = read_due-fault (manifest_of bytes) e

-- a manifest that was read
pub inspection_read : (shelf : ShelfSeen) (name : List ℕ) (given : Option (List ℕ)) (result : Result (List ℕ) Unbuilt) → IfSome shelf.files (λ files. given ≡ option_map cut (file_of files name)) → (result ≢ Err NoMemory → result ≡ inspect_due given) → IsInspection shelf name result
inspection_read shelf name given result held h = given_read shelf name inspect_due given result inspect_due-fault inspect_due-cut held h

-- what is due is written
due_written : (shelf : ShelfSeen) (sink : SinkSeen) (due result : Result (List ℕ) Unbuilt) (status : ℕ) → due ≡ result → IsWritten sink (inspect_out result) (inspect_status result) status → IsInspected shelf sink due status
due_written shelf sink due result status e written = inl (inl (subst (λ text. IsWritten sink (inspect_out text) (inspect_status text) status) (sym e) written))

by_result : (shelf : ShelfSeen) (sink : SinkSeen) (due result : Result (List ℕ) Unbuilt) (status : ℕ) → MatchResult result (λ text. due ≡ Ok text) (MayBeUnbuilt shelf due) → WritesInspected sink result status → IsInspected shelf sink due status
by_result shelf sink due result status given (inr unchanged) = inl (inr unchanged)
by_result shelf sink due (Ok text) status given (inl written) = due_written shelf sink due (Ok text) status given written.1
by_result shelf sink due (Err Absent) status given (inl written) = due_written shelf sink due (Err Absent) status given written.1
by_result shelf sink due (Err ReadFault) status given (inl written) = inr (given, inl written.1)
by_result shelf sink due (Err (Refused refusal)) status given (inl written) = due_written shelf sink due (Err (Refused refusal)) status given written.1
by_result shelf sink due (Err (NoSuchExport name)) status given (inl written) = due_written shelf sink due (Err (NoSuchExport name)) status given written.1
by_result shelf sink due (Err (Source answer)) status given (inl written) = due_written shelf sink due (Err (Source answer)) status given written.1
by_result shelf sink due (Err (Failed pipeline stage fault)) status given (inl written) = due_written shelf sink due (Err (Failed pipeline stage fault)) status given written.1
by_result shelf sink due (Err NoMemory) status given (inl written) = absurd (written.0 refl)

-- a result that is written
pub inspection_written : (shelf : ShelfSeen) (sink : SinkSeen) (name : List ℕ) (result : Result (List ℕ) Unbuilt) (status : ℕ) → IsInspection shelf name result → WritesInspected sink result status → Inspects shelf sink name status
inspection_written shelf sink name result status inspection written = record {
  found = inspection.found;
  read = inspection.read;
  output = by_result shelf sink (inspect_due inspection.found) result status inspection.given written;
}
