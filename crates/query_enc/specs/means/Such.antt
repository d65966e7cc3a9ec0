-- Calls that an operation made, along a way, as the code asks for them.
use Rattle.std.specs.Prelude.{ℕ, suc, Bool, true, false, List, [], ◌∷◌, ◌++◌, length, map, Option, Some, None}
use Rattle.std.specs.Borrow.{Bor}
use Rattle.rp_lang.specs.declared.op.OpDecl.{OpDecl}
use Rattle.rp_lang.specs.Programs.{Prog}
use Rattle.rp_lang.specs.ProgramView.{program_view}
use Rattle.rp_logic.specs.declared.term.Term.{Term}
use Rattle.rp_logic.specs.Dual.{duals}
use Rattle.rp_logic.specs.Filling.{raised}
use Rattle.rp_logic.specs.Formulas.{Fm, And, Or, All, Ex, Lit, Fms}
use Rattle.rp_logic.specs.Terms.{Tm, Var, Equal}
use Rattle.rp_logic.specs.Views.{term_view}
use Rattle.reshape.specs.Joined.{joined}
use Rattle.rp_symbols.specs.Numbers.{call_sort, op_con, op_fn}
use Rattle.crdt_enc.specs.Builders.{applied, built, for_each}
use Rattle.crdt_enc.specs.QueryFormulas.{counting, passes, some_call, each_call}
use Rattle.crdt_enc.specs.Ways.{Way, keys}
use Rattle.query_enc.specs.declared.counting.Such.{Such as Asked}
use Rattle.query_enc.specs.TestView.{test_view}
use Rattle.query_enc.specs.WayView.{way_view}

-- which calls are meant: those of the view, by operations that go this way and pass the test, with these as the first
-- arguments behind the way's keys; inside of so many quantifiers
pub record Such : Type 0 where
  pub program : Prog
  pub view : ℕ
  pub around : ℕ
  pub way : Way Tm
  pub test : OpDecl → Bool
  pub own : List Tm

-- the term, where there is one
abbrev pub own_list : Option (Bor Term) → List Tm
own_list None = []
own_list (Some t) = term_view t.now ∷ []

abbrev pub such_view : Asked → Such
such_view s = record {
  program = program_view s.program.now;
  view = s.view;
  around = s.around;
  way = way_view s.way.now;
  test = test_view s.test;
  own = own_list s.own;
}

-- the keys and the terms behind them, where the call is the innermost variable
abbrev pub given : Such → List Tm
given s = map (raised (suc s.around)) (keys s.way ++ s.own)

-- the innermost variable is a call of this operation, or isn't
abbrev pub is_call_of : Such → Bool → ℕ → OpDecl → Fm
is_call_of s sign op decl =
    Lit sign (Equal (applied op_fn (Var 0)) (built (op_con s.program op) (length decl.args) (given s) (applied op_fn (Var 0))))

abbrev pub counting_of : Such → Fms → ℕ → OpDecl → Fms
counting_of s kept op decl = counting s.program s.view (suc s.around) s.way op decl s.own (Var 0) kept

-- some call by this operation meets the rest, or each meets a part of it
abbrev pub one : Bool → Such → Fms → Fms → ℕ → OpDecl → Fm
one true s kept rest op decl = Ex call_sort (And (joined (counting_of s kept op decl) rest))
one false s kept rest op decl = All call_sort (Or (joined (duals (counting_of s kept op decl)) rest))

-- one formula for each operation from this number on
abbrev pub ones : Bool → Such → Fms → Fms → ℕ → List OpDecl → Fms
ones sign s kept rest op decls = for_each (passes s.way s.test) (one sign s kept rest) op decls

-- some call that counts at the end of the way meets the rest, or each meets a part of it
abbrev pub some_of : Such → Fms → Fm
some_of s rest = some_call s.program s.view s.around s.way s.test s.own rest

abbrev pub each_of : Such → Fms → Fm
each_of s rest = each_call s.program s.view s.around s.way s.test s.own rest
