-- The parts of a list.
use Rattle.std.proofs.Common.{◌≡◌, ◌==◌, ℕ, true, false, List, [], Some, None, refl}
use Rattle.std.specs.List.{list_all, slice_split}
use Rattle.osb_words.specs.Requests.{is_given, with_new, parts_of}

pub no_parts : (divider : ℕ) (text : List ℕ) → list_all is_given (slice_split (λ b. b == divider) text) ≡ false → parts_of divider text ≡ None
no_parts divider text e = rw e refl

pub all_parts : (divider : ℕ) (text : List ℕ) (parts : List (List ℕ)) → list_all is_given (slice_split (λ b. b == divider) text) ≡ true → parts ≡ with_new [] (slice_split (λ b. b == divider) text) → parts_of divider text ≡ Some parts
all_parts divider text parts e made = rw (e, ← made) refl
