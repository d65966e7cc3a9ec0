-- What is left of a procedure from one of its points on. Each statement has a point, and behind the statements of a
-- block its end has one.
use Rattle.std.specs.Prelude.{ℕ, zero, suc, ◌+◌, ◌-◌, nat_lt, nat_le, if◌then◌else◌, Option, Some, None}
use Rattle.rp_span.specs.declared.Span.{Span}
use Rattle.rp_lang.specs.Stmts as st
use Rattle.rp_lang.specs.Stmts.{St, Sts, no_st, also_st, StArms, no_st_arm, also_st_arm}
use Rattle.event_machine.specs.Code.{Code, CodeArms, no_code, also_code, Put, Decide, New, Operate, Assert, Choose, Match, Begin, End, Return, code, codes}

abbrev mutual
  -- the points inside a statement
  pub inner : St → ℕ
  inner (st.Put at slot e) = 0
  inner (st.Decide at slot f) = 0
  inner (st.New at slot ty) = 0
  inner (st.Operate at op args) = 0
  inner (st.If at f then_ else_) = size then_ + 1 + (size else_ + 1)
  inner (st.Match at on arms) = arms_size arms
  inner (st.Atomic at body) = size body + 1
  inner (st.Assert at f) = 0
  inner (st.Return at) = 0
  inner (st.ReturnWith at e) = 0

  -- the points of a block before its end
  pub size : Sts → ℕ
  size no_st = 0
  size (also_st s rest) = inner s + 1 + size rest

  pub arms_size : StArms → ℕ
  arms_size no_st_arm = 0
  arms_size (also_st_arm con slots body rest) = size body + 1 + arms_size rest

abbrev mutual
  -- what is left from point n inside a statement on, with `next` behind it
  pub code_inside : St → ℕ → Code → Code
  code_inside (st.If at f then_ else_) n next =
      if nat_le n (size then_) then codes_at then_ n next else codes_at else_ (n - (size then_ + 1)) next
  code_inside (st.Match at on arms) n next = arms_at arms n next
  code_inside (st.Atomic at body) n next = codes_at body n (End at next)
  code_inside _ n next = next

  pub codes_at : Sts → ℕ → Code → Code
  codes_at no_st n next = next
  codes_at (also_st s rest) zero next = code s (codes rest next)
  codes_at (also_st s rest) (suc n) next =
      if nat_lt n (inner s) then code_inside s n (codes rest next) else codes_at rest (n - inner s) next

  pub arms_at : StArms → ℕ → Code → Code
  arms_at no_st_arm n next = next
  arms_at (also_st_arm con slots body rest) n next =
      if nat_le n (size body) then codes_at body n next else arms_at rest (n - (size body + 1)) next

-- # Where an invocation stands

pub data Spot : Type 0 where
  -- a statement is next
  Before : (at : ℕ) (s : St) → Spot
  -- an atomic block ends
  Closing : (at : ℕ) (block : Span) → Spot

abbrev pub or_else : Option Spot → Option Spot → Option Spot
or_else None other = other
or_else (Some spot) other = Some spot

abbrev mutual
  pub spot_inside : St → (base n : ℕ) → Option Spot
  spot_inside (st.Put at slot e) base n = None
  spot_inside (st.Decide at slot f) base n = None
  spot_inside (st.New at slot ty) base n = None
  spot_inside (st.Operate at op args) base n = None
  spot_inside (st.If at f then_ else_) base n =
      if nat_le n (size then_) then spot_in then_ base n else spot_in else_ (base + (size then_ + 1)) (n - (size then_ + 1))
  spot_inside (st.Match at on arms) base n = spot_in_arms arms base n
  spot_inside (st.Atomic at body) base n = or_else (spot_in body base n) (Some (Closing (base + size body) at))
  spot_inside (st.Assert at f) base n = None
  spot_inside (st.Return at) base n = None
  spot_inside (st.ReturnWith at e) base n = None

  -- what comes next from point n of the block on, the first of whose points is number `base`
  pub spot_in : Sts → (base n : ℕ) → Option Spot
  spot_in no_st base n = None
  spot_in (also_st s rest) base zero = Some (Before base s)
  spot_in (also_st s rest) base (suc n) =
      if nat_lt n (inner s)
      then or_else (spot_inside s (base + 1) n) (spot_in rest (base + (inner s + 1)) 0)
      else spot_in rest (base + (inner s + 1)) (n - inner s)

  pub spot_in_arms : StArms → (base n : ℕ) → Option Spot
  spot_in_arms no_st_arm base n = None
  spot_in_arms (also_st_arm con slots body rest) base n =
      if nat_le n (size body) then spot_in body base n else spot_in_arms rest (base + (size body + 1)) (n - (size body + 1))

-- the arms, the first of which begins at the point
abbrev pub arms_from : (ℕ → Code) → StArms → ℕ → CodeArms
arms_from left no_st_arm at = no_code
arms_from left (also_st_arm con slots body rest) at = also_code con slots (left at) (arms_from left rest (at + (size body + 1)))

-- what a statement at a point does, and from which point it goes on
abbrev pub does_at : (ℕ → Code) → ℕ → St → Code
does_at left n (st.Put at slot e) = Put slot e (left (n + 1))
does_at left n (st.Decide at slot f) = Decide slot f (left (n + 1))
does_at left n (st.New at slot ty) = New slot ty (left (n + 1))
does_at left n (st.Operate at op args) = Operate op args (left (n + 1))
does_at left n (st.If at f then_ else_) = Choose f (left (n + 1)) (left (n + 1 + (size then_ + 1)))
does_at left n (st.Match at on arms) = Match on (arms_from left arms (n + 1))
does_at left n (st.Atomic at body) = Begin (left (n + 1))
does_at left n (st.Assert at f) = Assert at f (left (n + 1))
does_at left n (st.Return at) = Return at None
does_at left n (st.ReturnWith at e) = Return at (Some e)

abbrev pub goes_on : (ℕ → Code) → Option Spot → Code → Code
goes_on left None next = next
goes_on left (Some (Before at s)) next = does_at left at s
goes_on left (Some (Closing at block)) next = End block (left (at + 1))
