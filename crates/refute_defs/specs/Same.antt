-- Whether two terms or atoms are equal.
use Rattle.std.specs.Prelude.{Bool, true, false, ◌&&◌, ◌==◌}
use Rattle.std.specs.Ordering.{int_eq}
use Rattle.std.specs.Str.{bytes_eq}
use Rattle.rp_logic.specs.Terms.{Tm, Var, Const, Fn, Int, Str, Con, Sel, Plus, Tms, no_tm, also_tm, At, Equal, Le, Rel}

abbrev mutual
  pub same_tm : Tm → Tm → Bool
  same_tm (Var m) (Var n) = m == n
  same_tm (Var m) _ = false
  same_tm (Const c) (Const d) = c == d
  same_tm (Const c) _ = false
  same_tm (Fn f ts) (Fn g us) = f == g && same_tms ts us
  same_tm (Fn f ts) _ = false
  same_tm (Int m) (Int n) = int_eq m n
  same_tm (Int m) _ = false
  same_tm (Str a) (Str b) = bytes_eq a b
  same_tm (Str a) _ = false
  same_tm (Con c ts) (Con d us) = c == d && same_tms ts us
  same_tm (Con c ts) _ = false
  same_tm (Sel c i t) (Sel d j u) = c == d && i == j && same_tm t u
  same_tm (Sel c i t) _ = false
  same_tm (Plus t m) (Plus u n) = int_eq m n && same_tm t u
  same_tm (Plus t m) _ = false

  pub same_tms : Tms → Tms → Bool
  same_tms no_tm no_tm = true
  same_tms no_tm (also_tm u us) = false
  same_tms (also_tm t ts) no_tm = false
  same_tms (also_tm t ts) (also_tm u us) = same_tm t u && same_tms ts us

abbrev pub same_at : At → At → Bool
same_at (Equal a b) (Equal c d) = same_tm a c && same_tm b d
same_at (Equal a b) _ = false
same_at (Le a b k) (Le c d l) = int_eq k l && same_tm a c && same_tm b d
same_at (Le a b k) _ = false
same_at (Rel r ts) (Rel s us) = r == s && same_tms ts us
same_at (Rel r ts) _ = false
