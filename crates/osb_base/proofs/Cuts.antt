-- What a shelf gives of a file.
use Rattle.std.proofs.Common.{◌≡◌, ℕ, ◌≤◌, List, length, take, min, arith}
use Rattle.std.proofs.lemmas.List.{length-take, take_all, take_min}
use Rattle.osb_base.specs.Shelves.{cut}

pub length-take_at_most : (n : ℕ) (bytes : List ℕ) → length (take n bytes) ≤ n
length-take_at_most n bytes = rw length-take (omega arith)

-- what is given of a file, as a range of it
pub cut_of_front : (bytes : List ℕ) (end : ℕ) → end ≡ min 16777217 (length bytes) → take end bytes ≡ cut bytes
unfolding cut
cut_of_front bytes end e = rw e (take_min 16777217 bytes)

pub length-cut : (bytes : List ℕ) → length (cut bytes) ≤ 16777217
unfolding cut
length-cut bytes = length-take_at_most 16777217 bytes

-- a file within the limit is given whole
pub cut_short : (bytes : List ℕ) → length bytes ≤ 16777217 → cut bytes ≡ bytes
unfolding cut
cut_short bytes h = take_all 16777217 bytes h

-- a longer one shows that it is too long
pub cut_long : (bytes : List ℕ) → 16777217 ≤ length bytes → length (cut bytes) ≡ 16777217
unfolding cut
cut_long bytes h = rw length-take (omega arith)
