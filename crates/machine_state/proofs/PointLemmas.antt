-- The points of what comes next lie within those of the block.
use Rattle.std.proofs.Common.{ℕ, zero, suc, ◌+◌, ◌-◌, ◌≤◌, nat_lt, nat_le, Bool, true, false, if◌then◌else◌, arith, Option, Some, None}
use Rattle.rp_lang.specs.Stmts as st
use Rattle.rp_lang.specs.Stmts.{St, Sts, no_st, also_st, StArms, no_st_arm, also_st_arm}
use Rattle.code_points.specs.Points.{inner, size, arms_size, Spot, Before, Closing, or_else, spot_inside, spot_in, spot_in_arms}
use Rattle.machine_state.specs.Spots.{IsWithin}

pub wider : (m most : ℕ) (spot : Option Spot) → m ≤ most → IsWithin m spot → IsWithin most spot
wider m most None le h = tt
wider m most (Some (Before at s)) le h = omega arith
wider m most (Some (Closing at block)) le h = omega arith

one_way : (most : ℕ) (b : Bool) (x y : Option Spot) → IsWithin most x → IsWithin most y → IsWithin most (if b then x else y)
one_way most true x y h k = h
one_way most false x y h k = k

first_of_two : (most : ℕ) (x y : Option Spot) → IsWithin most x → IsWithin most y → IsWithin most (or_else x y)
first_of_two most None y h k = k
first_of_two most (Some spot) y h k = h

mutual
  inside : (s : St) (base n : ℕ) → IsWithin (base + inner s) (spot_inside s base n)
  inside (st.Put at slot e) base n = tt
  inside (st.Decide at slot f) base n = tt
  inside (st.New at slot ty) base n = tt
  inside (st.Operate at op args) base n = tt
  inside (st.If at f then_ else_) base n =
      one_way (base + inner (st.If at f then_ else_)) (nat_le n (size then_)) (spot_in then_ base n) (spot_in else_ (base + (size then_ + 1)) (n - (size then_ + 1)))
      (wider (base + size then_) (base + inner (st.If at f then_ else_)) (spot_in then_ base n) (omega arith) (spot_within then_ base n))
      (wider (base + (size then_ + 1) + size else_) (base + inner (st.If at f then_ else_)) (spot_in else_ (base + (size then_ + 1)) (n - (size then_ + 1))) (omega arith)
      (spot_within else_ (base + (size then_ + 1)) (n - (size then_ + 1))))
  inside (st.Match at on arms) base n = in_arms arms base n
  inside (st.Atomic at body) base n =
      first_of_two (base + (size body + 1)) (spot_in body base n) (Some (Closing (base + size body) at))
      (wider (base + size body) (base + (size body + 1)) (spot_in body base n) (omega arith) (spot_within body base n))
      (omega arith)
  inside (st.Assert at f) base n = tt
  inside (st.Return at) base n = tt
  inside (st.ReturnWith at e) base n = tt

  pub spot_within : (stmts : Sts) (base n : ℕ) → IsWithin (base + size stmts) (spot_in stmts base n)
  spot_within no_st base n = tt
  spot_within (also_st s rest) base zero = omega arith
  spot_within (also_st s rest) base (suc n) =
      one_way (base + size (also_st s rest)) (nat_lt n (inner s))
      (or_else (spot_inside s (base + 1) n) (spot_in rest (base + (inner s + 1)) 0)) (spot_in rest (base + (inner s + 1)) (n - inner s))
      (first_of_two (base + size (also_st s rest)) (spot_inside s (base + 1) n) (spot_in rest (base + (inner s + 1)) 0)
      (wider (base + 1 + inner s) (base + size (also_st s rest)) (spot_inside s (base + 1) n) (omega arith) (inside s (base + 1) n))
      (wider (base + (inner s + 1) + size rest) (base + size (also_st s rest)) (spot_in rest (base + (inner s + 1)) 0) (omega arith) (spot_within rest (base + (inner s + 1)) 0)))
      (wider (base + (inner s + 1) + size rest) (base + size (also_st s rest)) (spot_in rest (base + (inner s + 1)) (n - inner s)) (omega arith)
      (spot_within rest (base + (inner s + 1)) (n - inner s)))

  in_arms : (arms : StArms) (base n : ℕ) → IsWithin (base + arms_size arms) (spot_in_arms arms base n)
  in_arms no_st_arm base n = tt
  in_arms (also_st_arm con slots body rest) base n =
      one_way (base + arms_size (also_st_arm con slots body rest)) (nat_le n (size body)) (spot_in body base n) (spot_in_arms rest (base + (size body + 1)) (n - (size body + 1)))
      (wider (base + size body) (base + arms_size (also_st_arm con slots body rest)) (spot_in body base n) (omega arith) (spot_within body base n))
      (wider (base + (size body + 1) + arms_size rest) (base + arms_size (also_st_arm con slots body rest)) (spot_in_arms rest (base + (size body + 1)) (n - (size body + 1))) (omega arith)
      (in_arms rest (base + (size body + 1)) (n - (size body + 1))))
