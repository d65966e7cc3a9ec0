-- Numbers of 128 bits.
use Rattle.std.specs.Prelude.{ℤ, pos, negsuc, ◌^◌, Bool, nat_lt, if◌then◌else◌, Option, Some, None}

-- from -2^127 up to 2^127 - 1: `negsuc n` is -n - 1
abbrev pub fits : ℤ → Bool
fits (pos n) = nat_lt n (2 ^ 127)
fits (negsuc n) = nat_lt n (2 ^ 127)

-- the number, if it is within 128 bits
abbrev pub within : ℤ → Option ℤ
within n = if fits n then Some n else None
