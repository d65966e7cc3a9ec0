-- Formulas of a program as definitions speak of them.
use Rattle.std.specs.Prelude.{ℕ}
use Rattle.rp_value.specs.declared.tables.Ty.{Ty}
use Rattle.rp_lang.specs.Exprs.{Ex}

mutual
  pub data Fo : Type 0 where
    And : (parts : Fos) → Fo
    Or : (parts : Fos) → Fo
    Not : (f : Fo) → Fo
    Implies : (left right : Fo) → Fo
    All : (ty : Ty) (body : Fo) → Fo
    Any : (ty : Ty) (body : Fo) → Fo
    -- the Bool term is true
    Holds : (e : Ex) → Fo
    Equal : (left right : Ex) → Fo
    Less : (left right : Ex) → Fo
    AtMost : (left right : Ex) → Fo
    Visible : (call : Ex) → Fo
    Before : (left right : Ex) → Fo
    Same : (left right : Ex) → Fo
    Match : (on : Ex) (arms : Arms) → Fo

  pub data Fos : Type 0 where
    no_fo : Fos
    also_fo : (first : Fo) (rest : Fos) → Fos

  -- an arm binds one variable a field of its constructor, the last field innermost
  pub data Arms : Type 0 where
    no_arm : Arms
    also_arm : (con : ℕ) (body : Fo) (rest : Arms) → Arms
