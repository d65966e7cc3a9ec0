-- What each call of an invocation is before.
use Rattle.std.specs.Prelude.{true, false}
use Rattle.rp_logic.specs.Filling.{raised}
use Rattle.rp_logic.specs.Formulas.{Fm, All, Or}
use Rattle.rp_logic.specs.Terms.{Tm, Var}
use Rattle.reshape.specs.Joined.{joined}
use Rattle.rp_symbols.specs.Numbers.{call_sort}
use Rattle.crdt_enc.specs.Builders.{one_fm, is_before}
use Rattle.crdt_enc.specs.FormulaFormulas.{done_by}
use Rattle.crdt_enc.specs.Places.{At}

-- each committed call of the first invocation is before each of the other
abbrev pub calls_before : At → Tm → Tm → Fm
calls_before at i j =
    All call_sort (All call_sort (Or (joined (done_by false at (Var 1) (raised 2 i)) (joined (done_by false at (Var 0) (raised 2 j)) (one_fm (is_before true (Var 1) (Var 0)))))))
