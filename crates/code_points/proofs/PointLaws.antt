-- What is left from a point on is what comes next there, and then what is left from later points on.
use Rattle.std.proofs.Common.{◌≡◌, ℕ, zero, suc, ◌+◌, ◌-◌, ◌<◌, ◌≤◌, nat_lt, nat_le, Bool, true, false, if◌then◌else◌, refl, sym, ◌∙◌, ap, arith, Option, Some, None, inl, inr, List}
use Rattle.std.proofs.lemmas.Bool.{cases_lt, lt-ltb, le-ltb, le-leb, lt-leb}
use Rattle.rp_span.specs.declared.Span.{Span}
use Rattle.rp_lang.specs.Stmts as st
use Rattle.rp_lang.specs.Stmts.{St, Sts, no_st, also_st, StArms, no_st_arm, also_st_arm}
use Rattle.event_machine.specs.Code.{Code, also_code, Put, Decide, New, Operate, Assert, Choose, Match, Begin, End, code, codes, code_arms}
use Rattle.code_points.specs.Points.{inner, size, arms_size, code_inside, codes_at, arms_at, Spot, Before, Closing, or_else, spot_inside, spot_in, spot_in_arms, arms_from, does_at, goes_on}

-- from its first point on the whole block is left
pub from_first : (stmts : Sts) (next : Code) → codes_at stmts 0 next ≡ codes stmts next
from_first no_st next = refl
from_first (also_st s rest) next = refl

-- which way a test goes, in code and in spots alike
code_if : (b c : Bool) (x y : Code) → b ≡ c → (if b then x else y) ≡ (if c then x else y)
code_if b c x y e = ap (λ b. if b then x else y) e

spot_if : (b c : Bool) (x y : Option Spot) → b ≡ c → (if b then x else y) ≡ (if c then x else y)
spot_if b c x y e = ap (λ b. if b then x else y) e

then_other : (left : ℕ → Code) (a b : Option Spot) (next : Code) → goes_on left (or_else a b) next ≡ goes_on left a (goes_on left b next)
then_other left None b next = refl
then_other left (Some (Before at s)) b next = refl
then_other left (Some (Closing at block)) b next = refl

-- `left` gives what is left at each point
abbrev Gives : (ℕ → Code) → Sts → ℕ → Code → Type 0
Gives left stmts base next = (k : ℕ) → k ≤ size stmts → left (base + k) ≡ codes_at stmts k next

abbrev GivesInside : (ℕ → Code) → St → ℕ → Code → Type 0
GivesInside left s base next = (k : ℕ) → k < inner s → left (base + k) ≡ code_inside s k next

abbrev GivesArms : (ℕ → Code) → StArms → ℕ → Code → Type 0
GivesArms left arms base next = (k : ℕ) → k < arms_size arms → left (base + k) ≡ arms_at arms k next

at_place : (left : ℕ → Code) (m n : ℕ) (c : Code) → m ≡ n → left m ≡ c → left n ≡ c
at_place left m n c e h = ap left (sym e) ∙ h

block_inside : (left : ℕ → Code) (s : St) (rest : Sts) (base : ℕ) (next : Code) → Gives left (also_st s rest) base next → GivesInside left s (base + 1) (codes rest next)
block_inside left s rest base next h k lt =
    at_place left (base + suc k) (base + 1 + k) _ (omega arith) (h (suc k) (omega arith) ∙ code_if (nat_lt k (inner s)) true _ _ (lt-ltb k (inner s) lt))

block_rest : (left : ℕ → Code) (s : St) (rest : Sts) (base : ℕ) (next : Code) → Gives left (also_st s rest) base next → Gives left rest (base + (inner s + 1)) next
block_rest left s rest base next h k le =
    at_place left (base + suc (inner s + k)) (base + (inner s + 1) + k) _ (omega arith)
    (h (suc (inner s + k)) (omega arith) ∙ code_if (nat_lt (inner s + k) (inner s)) false _ _ (le-ltb (inner s + k) (inner s) (omega arith)) ∙ ap (λ m. codes_at rest m next) (let e : (inner s + k) - inner s ≡ k = omega arith in e))

block_after : (left : ℕ → Code) (s : St) (rest : Sts) (base : ℕ) (next : Code) → Gives left (also_st s rest) base next → left (base + 1 + inner s) ≡ codes rest next
block_after left s rest base next h =
    at_place left (base + (inner s + 1) + 0) (base + 1 + inner s) _ (omega arith) (block_rest left s rest base next h 0 (omega arith) ∙ from_first rest next)

if_then : (left : ℕ → Code) (at : Span) (a b : Sts) (base : ℕ) (next : Code) (f : _) → GivesInside left (st.If at f a b) base next → Gives left a base next
if_then left at a b base next f h k le = h k (omega arith) ∙ code_if (nat_le k (size a)) true _ _ (le-leb k (size a) le)

if_else : (left : ℕ → Code) (at : Span) (a b : Sts) (base : ℕ) (next : Code) (f : _) → GivesInside left (st.If at f a b) base next → Gives left b (base + (size a + 1)) next
if_else left at a b base next f h k le =
    at_place left (base + (size a + 1 + k)) (base + (size a + 1) + k) _ (omega arith)
    (h (size a + 1 + k) (omega arith) ∙ code_if (nat_le (size a + 1 + k) (size a)) false _ _ (lt-leb (size a + 1 + k) (size a) (omega arith)) ∙ ap (λ m. codes_at b m next) (let e : (size a + 1 + k) - (size a + 1) ≡ k = omega arith in e))

arm_body : (left : ℕ → Code) (con : ℕ) (slots : List ℕ) (body : Sts) (rest : StArms) (base : ℕ) (next : Code) → GivesArms left (also_st_arm con slots body rest) base next → Gives left body base next
arm_body left con slots body rest base next h k le = h k (omega arith) ∙ code_if (nat_le k (size body)) true _ _ (le-leb k (size body) le)

arm_rest : (left : ℕ → Code) (con : ℕ) (slots : List ℕ) (body : Sts) (rest : StArms) (base : ℕ) (next : Code) → GivesArms left (also_st_arm con slots body rest) base next → GivesArms left rest (base + (size body + 1)) next
arm_rest left con slots body rest base next h k lt =
    at_place left (base + (size body + 1 + k)) (base + (size body + 1) + k) _ (omega arith)
    (h (size body + 1 + k) (omega arith) ∙ code_if (nat_le (size body + 1 + k) (size body)) false _ _ (lt-leb (size body + 1 + k) (size body) (omega arith)) ∙ ap (λ m. arms_at rest m next) (let e : (size body + 1 + k) - (size body + 1) ≡ k = omega arith in e))

-- the arms' code begins at the arms' points
arms_begin : (left : ℕ → Code) (arms : StArms) (base : ℕ) (next : Code) → GivesArms left arms base next → arms_from left arms base ≡ code_arms arms next
arms_begin left no_st_arm base next h = refl
arms_begin left (also_st_arm con slots body rest) base next h =
    let first : left base ≡ codes body next = at_place left (base + 0) base _ (omega arith) (arm_body left con slots body rest base next h 0 (omega arith) ∙ from_first body next) in
    let others : arms_from left rest (base + (size body + 1)) ≡ code_arms rest next = arms_begin left rest (base + (size body + 1)) next (arm_rest left con slots body rest base next h) in
    ap (λ c. also_code con slots c (arms_from left rest (base + (size body + 1)))) first ∙ ap (λ cs. also_code con slots (codes body next) cs) others

-- a statement does what it does, and goes on behind it
head : (left : ℕ → Code) (s : St) (base : ℕ) (next : Code) → GivesInside left s (base + 1) next → left (base + 1 + inner s) ≡ next → does_at left base s ≡ code s next
head left (st.Put at slot e) base next h after = ap (λ c. Put slot e c) (at_place left (base + 1 + 0) (base + 1) next (omega arith) after)
head left (st.Decide at slot f) base next h after = ap (λ c. Decide slot f c) (at_place left (base + 1 + 0) (base + 1) next (omega arith) after)
head left (st.New at slot ty) base next h after = ap (λ c. New slot ty c) (at_place left (base + 1 + 0) (base + 1) next (omega arith) after)
head left (st.Operate at op args) base next h after = ap (λ c. Operate op args c) (at_place left (base + 1 + 0) (base + 1) next (omega arith) after)
head left (st.If at f a b) base next h after =
    let one : left (base + 1) ≡ codes a next = at_place left (base + 1 + 0) (base + 1) _ (omega arith) (if_then left at a b (base + 1) next f h 0 (omega arith) ∙ from_first a next) in
    let two : left (base + 1 + (size a + 1)) ≡ codes b next = at_place left (base + 1 + (size a + 1) + 0) (base + 1 + (size a + 1)) _ (omega arith) (if_else left at a b (base + 1) next f h 0 (omega arith) ∙ from_first b next) in
    ap (λ c. Choose f c (left (base + 1 + (size a + 1)))) one ∙ ap (λ c. Choose f (codes a next) c) two
head left (st.Match at on arms) base next h after = ap (λ cs. Match on cs) (arms_begin left arms (base + 1) next h)
head left (st.Atomic at body) base next h after =
    ap (λ c. Begin c) (at_place left (base + 1 + 0) (base + 1) _ (omega arith) (h 0 (omega arith) ∙ from_first body (End at next)))
head left (st.Assert at f) base next h after = ap (λ c. Assert at f c) (at_place left (base + 1 + 0) (base + 1) next (omega arith) after)
head left (st.Return at) base next h after = refl
head left (st.ReturnWith at e) base next h after = refl

goes : (left : ℕ → Code) (c : Code) (next : Code) (b : Bool) (found other : Option Spot) (x y : Code) → b ≡ true → x ≡ goes_on left found next → (if b then x else y) ≡ goes_on left (if b then found else other) next
goes left c next b found other x y e h = code_if b true x y e ∙ h ∙ ap (λ spot. goes_on left spot next) (sym (spot_if b true found other e))

goes_other : (left : ℕ → Code) (next : Code) (b : Bool) (found other : Option Spot) (x y : Code) → b ≡ false → y ≡ goes_on left other next → (if b then x else y) ≡ goes_on left (if b then found else other) next
goes_other left next b found other x y e h = code_if b false x y e ∙ h ∙ ap (λ spot. goes_on left spot next) (sym (spot_if b false found other e))

mutual
  inside : (left : ℕ → Code) (s : St) (base : ℕ) (next : Code) → GivesInside left s base next → left (base + inner s) ≡ next → (n : ℕ) → n < inner s → code_inside s n next ≡ goes_on left (spot_inside s base n) next
  inside left (st.Put at slot e) base next h after n lt = refl
  inside left (st.Decide at slot f) base next h after n lt = refl
  inside left (st.New at slot ty) base next h after n lt = refl
  inside left (st.Operate at op args) base next h after n lt = refl
  inside left (st.If at f a b) base next h after n lt =
      elim (cases_lt (size a) n) [
        | inl more ↦ goes_other left next (nat_le n (size a)) _ _ _ _ (lt-leb n (size a) more) (block left b (base + (size a + 1)) next (if_else left at a b base next f h) (n - (size a + 1)))
        | inr less ↦ goes left next next (nat_le n (size a)) _ _ _ _ (le-leb n (size a) less) (block left a base next (if_then left at a b base next f h) n)
      ]
  inside left (st.Match at on arms) base next h after n lt = in_arms left arms base next h n
  inside left (st.Atomic at body) base next h after n lt =
      let ends : left (base + size body + 1) ≡ next = at_place left (base + (size body + 1)) (base + size body + 1) next (omega arith) after in
      block left body base (End at next) (λ k le. h k (omega arith)) n
      ∙ ap (λ c. goes_on left (spot_in body base n) (End at c)) (sym ends)
      ∙ sym (then_other left (spot_in body base n) (Some (Closing (base + size body) at)) next)
  inside left (st.Assert at f) base next h after n lt = refl
  inside left (st.Return at) base next h after n lt = refl
  inside left (st.ReturnWith at e) base next h after n lt = refl

  pub block : (left : ℕ → Code) (stmts : Sts) (base : ℕ) (next : Code) → Gives left stmts base next → (n : ℕ) → codes_at stmts n next ≡ goes_on left (spot_in stmts base n) next
  block left no_st base next h n = refl
  block left (also_st s rest) base next h zero = sym (head left s base (codes rest next) (block_inside left s rest base next h) (block_after left s rest base next h))
  block left (also_st s rest) base next h (suc n) =
      let behind : codes rest next ≡ goes_on left (spot_in rest (base + (inner s + 1)) 0) next = sym (from_first rest next) ∙ block left rest (base + (inner s + 1)) next (block_rest left s rest base next h) 0 in
      elim (cases_lt n (inner s)) [
        | inl less ↦ goes left next next (nat_lt n (inner s)) _ _ _ _ (lt-ltb n (inner s) less)
            (inside left s (base + 1) (codes rest next) (block_inside left s rest base next h) (block_after left s rest base next h) n less
            ∙ ap (λ c. goes_on left (spot_inside s (base + 1) n) c) behind
            ∙ sym (then_other left (spot_inside s (base + 1) n) (spot_in rest (base + (inner s + 1)) 0) next))
        | inr more ↦ goes_other left next (nat_lt n (inner s)) _ _ _ _ (le-ltb n (inner s) more) (block left rest (base + (inner s + 1)) next (block_rest left s rest base next h) (n - inner s))
      ]

  in_arms : (left : ℕ → Code) (arms : StArms) (base : ℕ) (next : Code) → GivesArms left arms base next → (n : ℕ) → arms_at arms n next ≡ goes_on left (spot_in_arms arms base n) next
  in_arms left no_st_arm base next h n = refl
  in_arms left (also_st_arm con slots body rest) base next h n =
      elim (cases_lt (size body) n) [
        | inl more ↦ goes_other left next (nat_le n (size body)) _ _ _ _ (lt-leb n (size body) more) (in_arms left rest (base + (size body + 1)) next (arm_rest left con slots body rest base next h) (n - (size body + 1)))
        | inr less ↦ goes left next next (nat_le n (size body)) _ _ _ _ (le-leb n (size body) less) (block left body base next (arm_body left con slots body rest base next h) n)
      ]

-- from any point of a block on, what comes next is done, and what is left from a later point on is left
pub whole : (stmts : Sts) (next : Code) (n : ℕ) → codes_at stmts n next ≡ goes_on (λ k. codes_at stmts k next) (spot_in stmts 0 n) next
whole stmts next n = block (λ k. codes_at stmts k next) stmts 0 next (λ k le. ap (λ m. codes_at stmts m next) (let e : 0 + k ≡ k = omega arith in e)) n
