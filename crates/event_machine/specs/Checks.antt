-- The assertions of a procedure over truth values, as a tree that splits at a choice: so it is the tree of its paths.
use Rattle.std.specs.Prelude.{ℕ, ◌+◌}
use Rattle.rp_span.specs.declared.Span.{Span}
use Rattle.rp_lang.specs.Formulas.{Fo}
use Rattle.rp_lang.specs.Stmts
use Rattle.rp_lang.specs.Stmts.{St, Sts, If, no_st, also_st}

pub data Checks : Type 0 where
  -- nothing more: the procedure returns
  Done : Checks
  Assert : (at : Span) (f : Fo) (next : Checks) → Checks
  Choose : (f : Fo) (then_ else_ : Checks) → Checks

-- a statement and then `next`; the other statements check nothing, and none stands in a procedure over truth values
abbrev mutual
  pub stmt_checks : St → Checks → Checks
  stmt_checks (Stmts.Assert at f) next = Assert at f next
  stmt_checks (If at f then_ else_) next = Choose f (stmts_checks then_ next) (stmts_checks else_ next)
  stmt_checks _ next = next

  pub stmts_checks : Sts → Checks → Checks
  stmts_checks no_st next = next
  stmts_checks (also_st s rest) next = stmt_checks s (stmts_checks rest next)

-- the paths from here to a return
abbrev pub paths : Checks → ℕ
paths Done = 1
paths (Assert at f next) = paths next
paths (Choose f then_ else_) = paths then_ + paths else_
