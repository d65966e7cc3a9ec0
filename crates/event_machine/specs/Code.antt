-- What an invocation still has to run, as a tree. A choice splits it, so it is also the tree of a procedure's paths.
use Rattle.std.specs.Prelude.{ℕ, List, Option, Some, None}
use Rattle.rp_span.specs.declared.Span.{Span}
use Rattle.rp_lang.specs.Exprs.{Ex, Exs}
use Rattle.rp_lang.specs.Formulas.{Fo}
use Rattle.rp_lang.specs.Stmts as st
use Rattle.rp_lang.specs.Stmts.{St, Sts, no_st, also_st, StArms, no_st_arm, also_st_arm}
use Rattle.rp_lang.specs.Programs.{Proc}

mutual
  pub data Code : Type 0 where
    Put : (slot : ℕ) (e : Ex) (next : Code) → Code
    -- puts the truth of the formula into the slot
    Decide : (slot : ℕ) (f : Fo) (next : Code) → Code
    New : (slot ty : ℕ) (next : Code) → Code
    Operate : (op : ℕ) (args : Exs) (next : Code) → Code
    Assert : (at : Span) (f : Fo) (next : Code) → Code
    Choose : (f : Fo) (then_ else_ : Code) → Code
    Match : (on : Ex) (arms : CodeArms) → Code
    Begin : (next : Code) → Code
    -- the end of an atomic block, which stands there
    End : (at : Span) (next : Code) → Code
    Return : (at : Span) (result : Option Ex) → Code

  pub data CodeArms : Type 0 where
    no_code : CodeArms
    also_code : (con : ℕ) (slots : List ℕ) (body : Code) (rest : CodeArms) → CodeArms

-- a statement and then `next`: an atomic block is its body with an end behind it, and nothing follows a return
abbrev mutual
  pub code : St → Code → Code
  code (st.Put at slot e) next = Put slot e next
  code (st.Decide at slot f) next = Decide slot f next
  code (st.New at slot ty) next = New slot ty next
  code (st.Operate at op args) next = Operate op args next
  code (st.If at f then_ else_) next = Choose f (codes then_ next) (codes else_ next)
  code (st.Match at on arms) next = Match on (code_arms arms next)
  code (st.Atomic at body) next = Begin (codes body (End at next))
  code (st.Assert at f) next = Assert at f next
  code (st.Return at) next = Return at None
  code (st.ReturnWith at e) next = Return at (Some e)

  pub codes : Sts → Code → Code
  codes no_st next = next
  codes (also_st s rest) next = code s (codes rest next)

  pub code_arms : StArms → Code → CodeArms
  code_arms no_st_arm next = no_code
  code_arms (also_st_arm con slots body rest) next = also_code con slots (codes body next) (code_arms rest next)

-- a procedure that comes to its closing brace returns there without a value
abbrev pub proc_code : Proc → Code
proc_code q = codes q.body (Return q.end None)
