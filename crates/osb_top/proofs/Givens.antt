-- What is due by what a shelf gave, and by what it holds.
use Rattle.std.proofs.Common.{◌≡◌, ◌≢◌, ℕ, List, Option, Some, None, option_map, IfSome, Result, Ok, Err, MatchResult, sym, refl, ap, ◌∙◌}
use Rattle.osb_base.specs.Shelves.{Files, file_of, cut}
use Rattle.osb_ready.specs.declared.unbuilt.Unbuilt.{Unbuilt}
use Rattle.osb_top.specs.Seen.{ShelfSeen}
use Rattle.osb_top.specs.Inspecting.{MayBeUnbuilt, IsGivenFor}
use Rattle.osb_ready.specs.declared.unbuilt.Unbuilt.TheVariants.{Absent, ReadFault, Refused, NoSuchExport, Source, Failed, NoMemory}

-- neither a result nor another error is a read fault
abbrev pub NoFault : {A : Type 0} → Result A Unbuilt → Type 0
NoFault result = result ≡ Err ReadFault → ⊥

-- ---- what stands under a name: what the shelf holds there, where it tells, and else what it gave

abbrev pub found_under : Option Files → List ℕ → Option (List ℕ) → Option (List ℕ)
found_under None name given = given
found_under (Some files) name given = file_of files name

held_under : (held : Option Files) (name : List ℕ) (given : Option (List ℕ)) → IfSome held (λ files. found_under held name given ≡ file_of files name)
held_under None name given = tt
held_under (Some files) name given = refl

due_under : {B : Type 0} (due : Option (List ℕ) → B) (held : Option Files) (name : List ℕ) (given : Option (List ℕ)) → ((found : Option (List ℕ)) → due (option_map cut found) ≡ due found) → IfSome held (λ files. given ≡ option_map cut (file_of files name)) → due given ≡ due (found_under held name given)
due_under due None name given cuts h = refl
due_under due (Some files) name given cuts h = ap due h ∙ cuts (file_of files name)

-- ---- results

by_due : {A : Type 0} (shelf : ShelfSeen) (due result : Result A Unbuilt) → NoFault due → (result ≢ Err NoMemory → result ≡ due) → MatchResult result (λ value. due ≡ Ok value) (MayBeUnbuilt shelf due)
by_due shelf due (Ok value) fault h = sym (h (λ e. cc))
by_due shelf due (Err Absent) fault h = sym (h (λ e. cc))
by_due shelf due (Err ReadFault) fault h = absurd (fault (sym (h (λ e. cc))))
by_due shelf due (Err (Refused refusal)) fault h = sym (h (λ e. cc))
by_due shelf due (Err (NoSuchExport name)) fault h = sym (h (λ e. cc))
by_due shelf due (Err (Source answer)) fault h = sym (h (λ e. cc))
by_due shelf due (Err (Failed pipeline stage fault')) fault h = sym (h (λ e. cc))
by_due shelf due (Err NoMemory) fault h = tt

-- a manifest that was read
pub given_read : {A : Type 0} (shelf : ShelfSeen) (name : List ℕ) (due : Option (List ℕ) → Result A Unbuilt) (given : Option (List ℕ)) (result : Result A Unbuilt) → ((found : Option (List ℕ)) → NoFault (due found)) → ((found : Option (List ℕ)) → due (option_map cut found) ≡ due found) → IfSome shelf.files (λ files. given ≡ option_map cut (file_of files name)) → (result ≢ Err NoMemory → result ≡ due given) → IsGivenFor A shelf name due result
given_read shelf name due given result fault cuts held h = record {
  found = found_under shelf.files name given;
  read = held_under shelf.files name given;
  given = by_due shelf (due (found_under shelf.files name given)) result (fault (found_under shelf.files name given))
      (λ n. h n ∙ due_under due shelf.files name given cuts held);
}

-- one that was not
pub given_unread : {A : Type 0} (shelf : ShelfSeen) (name : List ℕ) (due : Option (List ℕ) → Result A Unbuilt) (unbuilt : Unbuilt) → ((what : Result A Unbuilt) → MayBeUnbuilt shelf what unbuilt) → IsGivenFor A shelf name due (Err unbuilt)
given_unread shelf name due unbuilt may = record {
  found = found_under shelf.files name None;
  read = held_under shelf.files name None;
  given = may (due (found_under shelf.files name None));
}
