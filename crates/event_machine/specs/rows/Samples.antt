-- Small programs for the laws on the machine and on goals, each with its text above it.
use Rattle.std.specs.Prelude.{ℕ, suc, zero, ◌+◌, ◌-◌, List, [], ◌∷◌, None}
use Rattle.rp_span.specs.declared.Span.{Span}
use Rattle.rp_value.specs.declared.tables.Ty.TheVariants.{Datatype}
use Rattle.rp_lang.specs.Exprs.{Slot, Con, no_ex}
use Rattle.rp_lang.specs.FirstForm.{over_truth_values}
use Rattle.rp_lang.specs.Formulas.{Fo, Or, Not, Holds, no_fo, also_fo}
use Rattle.rp_lang.specs.Stmts.{Sts, Assert, If, no_st, also_st}
use Rattle.rp_lang.specs.Programs.{Proc, Prog}

abbrev pub span : ℕ → ℕ → Span
span from to = record { from = from; to = to }

abbrev pub program : List Proc → Prog
program procs = over_truth_values procs

-- the procedure `p` with the parameter `b: Bool`, from one place to another
abbrev pub proc_of_b : ℕ → ℕ → Sts → Proc
proc_of_b from to body = record {
  name = 112 ∷ [];
  at = span from to;
  end = span (to - 1) to;
  params = Datatype 0 ∷ [];
  result = None;
  slots = Datatype 0 ∷ [];
  body = body;
}

-- the formula `b`
abbrev pub b : Fo
b = Holds (Slot 0)

-- proc p(b: Bool) { assert b; }
abbrev pub claims_b : Prog
claims_b = program (proc_of_b 0 29 (also_st (Assert (span 18 27) b) no_st) ∷ [])

-- proc p(b: Bool) { assert b || !b; }
abbrev pub tautology : Prog
tautology = program (proc_of_b 0 35 (also_st (Assert (span 18 33) (Or (also_fo b (also_fo (Not b) no_fo)))) no_st) ∷ [])

-- if (b) { } so many times, each with a space behind it
abbrev pub empty_ifs : ℕ → ℕ → Sts
empty_ifs zero at = no_st
empty_ifs (suc n) at = also_st (If (span at (at + 10)) b no_st no_st) (empty_ifs n (at + 11))

-- proc p(b: Bool) { if (b) { } .. } with ten of them
abbrev pub ten_ifs : Proc
ten_ifs = proc_of_b 0 129 (empty_ifs 10 18)

-- proc p(b: Bool) { if (b) { if (b) { } .. } } with ten inside
abbrev pub eleven_ifs : Proc
eleven_ifs = proc_of_b 0 140 (also_st (If (span 18 138) b (empty_ifs 10 27) no_st) no_st)

-- proc p(b: Bool) { if (b) { assert b; } else { assert !b; } assert b; }
abbrev pub branches : Proc
branches = proc_of_b 0 70
    (also_st (If (span 18 58) b (also_st (Assert (span 27 36) b) no_st) (also_st (Assert (span 46 56) (Not b)) no_st))
    (also_st (Assert (span 59 68) b) no_st))

-- proc q() { assert false; }, which begins at byte 71
abbrev pub never : Proc
never = record {
  name = 113 ∷ [];
  at = span 71 97;
  end = span 96 97;
  params = [];
  result = None;
  slots = [];
  body = also_st (Assert (span 82 95) (Holds (Con 0 no_ex))) no_st;
}
