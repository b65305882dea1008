-- For private clauses: whole numbers in decimal, at the front of bytes.
use Rattle.std.specs.Prelude.{ℕ, ◌+◌, ◌-◌, ◌*◌, ◌^◌, ◌==◌, Bool, ◌&&◌, negsuc, List, [], ◌∷◌, nat_lt, nat_le, Option, Some, None, if◌then◌else◌}
use Rattle.serde_json.specs.Data.{Num, unsigned, negative}
use Rattle.osb_pyread.specs.Steps.{◌>>=◌, made}

abbrev pub is_digit : ℕ → Bool
is_digit c = nat_le 48 c && nat_le c 57

-- a number with one more digit, where 64 bits hold it
abbrev pub with_digit : ℕ → ℕ → Option ℕ
with_digit n c = if nat_lt (n * 10 + (c - 48)) (2 ^ 64) then Some (n * 10 + (c - 48)) else None

-- the digits in front, behind those of n
unfoldable pub digits_at : ℕ → List ℕ → Option (ℕ × List ℕ)
digits_at n [] = Some (n, [])
digits_at n (c ∷ rest) = if is_digit c then (with_digit n c >>= λ m. digits_at m rest) else Some (n, c ∷ rest)

abbrev pub below_zero : ℕ → Option Num
below_zero n = if nat_lt 0 n && nat_le n (2 ^ 63) then Some (negative (negsuc (n - 1))) else None

unfoldable pub number_at : List ℕ → Option (Num × List ℕ)
number_at [] = None
number_at (c ∷ rest) =
    if c == 45 then (digits_at 0 rest >>= λ x. below_zero x.0 >>= λ n. Some (n, x.1))
    else if is_digit c then made unsigned (digits_at 0 (c ∷ rest))
    else None
