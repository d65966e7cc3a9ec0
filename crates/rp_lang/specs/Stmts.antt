-- Statements of a procedure as definitions speak of them.
use Rattle.std.specs.Prelude.{ℕ, List}
use Rattle.rp_span.specs.declared.Span.{Span}
use Rattle.rp_lang.specs.Exprs.{Ex, Exs}
use Rattle.rp_lang.specs.Formulas.{Fo}

mutual
  pub data St : Type 0 where
    Put : (at : Span) (slot : ℕ) (e : Ex) → St
    -- puts the truth of the formula into the slot
    Decide : (at : Span) (slot : ℕ) (f : Fo) → St
    New : (at : Span) (slot ty : ℕ) → St
    Operate : (at : Span) (op : ℕ) (args : Exs) → St
    If : (at : Span) (f : Fo) (then_ else_ : Sts) → St
    Match : (at : Span) (on : Ex) (arms : StArms) → St
    Atomic : (at : Span) (body : Sts) → St
    Assert : (at : Span) (f : Fo) → St
    Return : (at : Span) → St
    ReturnWith : (at : Span) (e : Ex) → St

  pub data Sts : Type 0 where
    no_st : Sts
    also_st : (first : St) (rest : Sts) → Sts

  pub data StArms : Type 0 where
    no_st_arm : StArms
    also_st_arm : (con : ℕ) (slots : List ℕ) (body : Sts) (rest : StArms) → StArms
