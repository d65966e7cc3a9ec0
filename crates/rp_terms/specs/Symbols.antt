-- A term's symbol and its direct arguments. Both together are the term.
use Rattle.std.specs.Prelude.{List, [], ◌∷◌}
use Rattle.rp_logic.specs.Terms as tm
use Rattle.rp_logic.specs.Terms.{Tm, Tms, no_tm, also_tm}
use Rattle.rp_terms.specs.declared.symbol.Symbol.{Symbol}
use Rattle.rp_terms.specs.declared.symbol.Symbol.TheVariants as symbol

abbrev pub symbol_of : Tm → Symbol
symbol_of (tm.Var n) = symbol.Var n
symbol_of (tm.Const c) = symbol.Const c
symbol_of (tm.Fn f args) = symbol.Fn f
symbol_of (tm.Int n) = symbol.Int n
symbol_of (tm.Str bytes) = symbol.Str bytes
symbol_of (tm.Con con args) = symbol.Con con
symbol_of (tm.Sel con i t) = symbol.Sel con i
symbol_of (tm.Plus t n) = symbol.Plus n

abbrev pub listed : Tms → List Tm
listed no_tm = []
listed (also_tm t ts) = t ∷ listed ts

abbrev pub arguments : Tm → List Tm
arguments (tm.Var n) = []
arguments (tm.Const c) = []
arguments (tm.Fn f args) = listed args
arguments (tm.Int n) = []
arguments (tm.Str bytes) = []
arguments (tm.Con con args) = listed args
arguments (tm.Sel con i t) = t ∷ []
arguments (tm.Plus t n) = t ∷ []
