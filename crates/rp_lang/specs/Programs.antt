-- Programs as definitions speak of them.
use Rattle.std.specs.Prelude.{ℕ, List, Option}
use Rattle.rp_span.specs.declared.Span.{Span}
use Rattle.rp_value.specs.declared.tables.Ty.{Ty}
use Rattle.rp_value.specs.declared.tables.TypeTable.{TypeTable}
use Rattle.rp_value.specs.declared.tables.ConTable.{ConTable}
use Rattle.rp_lang.specs.declared.op.OpDecl.{OpDecl}
use Rattle.rp_lang.specs.declared.query.QueryDecl.{QueryDecl}
use Rattle.rp_lang.specs.Crdts.{Cr}
use Rattle.rp_lang.specs.Formulas.{Fo}
use Rattle.rp_lang.specs.Stmts.{Sts}

-- a replicated object
pub record Rt : Type 0 where
  pub name : List ℕ
  pub crdt : Cr

pub record Proc : Type 0 where
  pub name : List ℕ
  -- where the procedure stands, from its first word to its closing brace
  pub at : Span
  -- its closing brace
  pub end : Span
  pub params : List Ty
  pub result : Option Ty
  -- the first slots are the parameters
  pub slots : List Ty
  pub body : Sts

pub record Inv : Type 0 where
  pub name : List ℕ
  pub at : Span
  pub body : Fo

pub record Prog : Type 0 where
  pub types : TypeTable
  pub cons : ConTable
  pub roots : List Rt
  pub ops : List OpDecl
  pub queries : List QueryDecl
  pub invs : List Inv
  pub procs : List Proc
