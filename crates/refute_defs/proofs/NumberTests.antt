-- A number of the code is within 128 bits as the definitions say.
use Rattle.std.proofs.Common.{◌≡◌, ◌^◌, ℤ, pos, negsuc, Bool, true, false, Option, Some, None, refl, ap, cond, lt-ltb, ltb-true, arith}
use Rattle.std.specs.Prelude.{SomeIff, FitsSigned}
use mir.Syntax.{w128}
use Rattle.refute_defs.specs.Numbers.{fits, within}

pub fits_is : (z : ℤ) → FitsSigned w128 z → fits z ≡ true
fits_is (pos n) h = lt-ltb n (2 ^ 127) (omega (arith, h.sfits))
fits_is (negsuc n) h = lt-ltb n (2 ^ 127) (omega (arith, h.sfits))

pub is_fit : (z : ℤ) → fits z ≡ true → FitsSigned w128 z
is_fit (pos n) h = record { sfits = ltb-true n (2 ^ 127) h }
is_fit (negsuc n) h = let l = ltb-true n (2 ^ 127) h in record { sfits = omega arith }

-- what a checked sum, difference or negation answers
pub within_test : (r : Option ℤ) (z : ℤ) → SomeIff r (FitsSigned w128 z) z → r ≡ within z
within_test r z h = known r (fits z) refl h
  where
    known : (o : Option ℤ) (b : Bool) → fits z ≡ b → SomeIff o (FitsSigned w128 z) z
        → o ≡ cond b (Some z) None
    known (Some x) true e k = ap Some k.1
    known None false e k = refl
    known None true e k = absurd (k (is_fit z e))
    known (Some x) false e k = let t = fits_is z k.0 in absurd cc
