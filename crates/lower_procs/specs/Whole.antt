-- What invariants and procedures become by the bodies of the queries, and what they pass.
use Rattle.std.specs.Prelude.{ℕ, Option}
use Rattle.rp_span.specs.declared.Span.{Span}
use Rattle.rp_grammar.specs.Trees.{Ident, ExprTree, ProcTree}
use Rattle.rp_lang.specs.Programs.{Inv, Proc}
use Rattle.desugaring.specs.Programs.{InvTree, ProcDecl, inv_name}
use Rattle.desugaring.specs.Limits.{some_in_all}
use Rattle.text_tables.specs.Seen.{tables_view}
use Rattle.query_bodies.specs.Seen.{saids_in}
use Rattle.query_laws.specs.Whole.{inv_by, proc_by}
use Rattle.lower_exprs.specs.declared.values.Work.{Work}
-- the tests, and what is noted by them
pub use Rattle.lower_procs.specs.Noting.{Passing, IsPassedBy, binds_many, is_large_in}

-- # Invariants and procedures

-- the number of the declaration tells nothing, since uses go by the bodies
abbrev pub inv_tree : ℕ → Span → Option Ident → ExprTree → InvTree
inv_tree number at x e = record { decl = 0; at = at; name = inv_name number x; body = e }

abbrev pub proc_tree : Span → ProcTree → ProcDecl
proc_tree at p = record { decl = 0; at = at; tree = p }

-- what they become by the bodies
abbrev pub inv_in : Work → InvTree → Option Inv
inv_in w d = inv_by (tables_view w.tables.now) (saids_in w.bodies.now) d

abbrev pub proc_in : Work → ProcDecl → Option Proc
proc_in w d = proc_by (tables_view w.tables.now) (saids_in w.bodies.now) d

-- # Their expressions

abbrev pub inv_passing : Inv → Passing
inv_passing inv test = test.of_formula inv.body

abbrev pub proc_passing : Proc → Passing
proc_passing p test = some_in_all test p.body
