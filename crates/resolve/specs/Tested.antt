-- The program of a text's tables, and the limits that it is tested for.
use Rattle.std.specs.Prelude.{◌≡◌, Bool, List, [], ◌∷◌, map, Option, Some, None, if◌then◌else◌}
use Rattle.rp_grammar.specs.Trees.{DeclTree}
use Rattle.rp_lang.specs.Programs.{Prog}
use Rattle.rp_lang.specs.Views.{inv_view, proc_view}
use Rattle.rp_lang.specs.declared.limit.LimitName.{LimitName}
use Rattle.type_rules.specs.Queries.{names_of}
use Rattle.desugaring.specs.Tables.{Tables, type_table, con_table, root_table, op_table, query_table}
use Rattle.desugaring.specs.Limits.{Passed}
use Rattle.text_tables.specs.Seen.{tables_view}
use Rattle.lower_exprs.specs.declared.values.Work.{Work}
use Rattle.resolve.specs.declared.decls.Declared.{Declared}
use Rattle.resolve.specs.Adds.{AreWanted}

-- # Limits in the order of their tests

-- the limit that was found before, or this one, where it is passed
abbrev pub or_limit : Option LimitName → LimitName → Bool → Option LimitName
or_limit None limit is_passed = if is_passed then Some limit else None
or_limit (Some found) limit is_passed = Some found

-- the limit that was found before, or the first of these that is passed
abbrev pub first_in : Option LimitName → List Passed → Option LimitName
first_in found [] = found
first_in found (l ∷ ls) = first_in (or_limit found l.limit l.is_passed) ls

-- # The program of a text's tables

-- its tables are these, but for those of invariants and procedures
pub record HasTables (t : Tables) (p : Prog) : Type 0 where
  pub types : p.types ≡ type_table t
  pub cons : con_table t ≡ Some p.cons
  pub roots : root_table t ≡ Some p.roots
  pub ops : op_table t ≡ Some p.ops
  pub queries : query_table t ≡ Some p.queries

-- what the text's declarations become by the bodies of the queries is its own
pub record IsProgramFor (w : Work) (tree : List DeclTree) (p : Prog) : Type 0 where
  pub tables : HasTables (tables_view w.tables.now) p
  pub names : (tables_view w.tables.now).names ≡ names_of tree
  pub cons : w.cons.now ≡ p.cons
  pub wanted : AreWanted w tree p.invs p.procs

-- the invariants and procedures are its own
pub record IsDeclaredIn (p : Prog) (made : Declared) : Type 0 where
  pub invs_are : map inv_view made.invs ≡ p.invs
  pub procs_are : map proc_view made.procs ≡ p.procs
