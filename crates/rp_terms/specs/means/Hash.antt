-- Numbers by which terms are found: equal terms have one, and others seldom the same.
use Rattle.std.specs.Prelude.{ℕ, unsigned_abs, ◌+◌, ◌*◌, ◌%◌, ◌^◌, List, [], ◌∷◌}
use Rattle.rp_logic.specs.Terms as tm
use Rattle.rp_logic.specs.Terms.{Tm, Tms, no_tm, also_tm}
use Rattle.rp_terms.specs.declared.symbol.Symbol.{Symbol}
use Rattle.rp_terms.specs.declared.symbol.Symbol.TheVariants as symbol

abbrev pub turned : ℕ → ℕ
turned m = (m * ((((m * 2) % 2 ^ 64) + 1) % 2 ^ 64)) % 2 ^ 64

unfoldable pub mixed : ℕ → ℕ → ℕ
mixed a b = turned ((((a * 11400714819323198485) % 2 ^ 64) + b) % 2 ^ 64)

abbrev pub mixed_all : ℕ → List ℕ → ℕ
mixed_all hash [] = hash
mixed_all hash (n ∷ ns) = mixed_all (mixed hash n) ns

abbrev pub symbol_hash : Symbol → ℕ
symbol_hash (symbol.Var n) = mixed 1 n
symbol_hash (symbol.Const c) = mixed 2 c
symbol_hash (symbol.Fn f) = mixed 3 f
symbol_hash (symbol.Int n) = mixed 4 (unsigned_abs n % 2 ^ 64)
symbol_hash (symbol.Str bytes) = mixed_all 5 bytes
symbol_hash (symbol.Con con) = mixed 6 con
symbol_hash (symbol.Sel con i) = mixed (mixed 7 con) i
symbol_hash (symbol.Plus n) = mixed 8 (unsigned_abs n % 2 ^ 64)

abbrev mutual
  pub term_hash : Tm → ℕ
  term_hash (tm.Var n) = symbol_hash (symbol.Var n)
  term_hash (tm.Const c) = symbol_hash (symbol.Const c)
  term_hash (tm.Fn f args) = terms_hash (symbol_hash (symbol.Fn f)) args
  term_hash (tm.Int n) = symbol_hash (symbol.Int n)
  term_hash (tm.Str bytes) = symbol_hash (symbol.Str bytes)
  term_hash (tm.Con con args) = terms_hash (symbol_hash (symbol.Con con)) args
  term_hash (tm.Sel con i t) = mixed (symbol_hash (symbol.Sel con i)) (term_hash t)
  term_hash (tm.Plus t n) = mixed (symbol_hash (symbol.Plus n)) (term_hash t)

  pub terms_hash : ℕ → Tms → ℕ
  terms_hash hash no_tm = hash
  terms_hash hash (also_tm t ts) = terms_hash (mixed hash (term_hash t)) ts
