-- Terms that match a universal: an atom of its body, with the term for its variable, fits the atom
-- of a literal on the branch.
use Rattle.std.specs.Prelude.{ℕ, Bool, true, false, ◌&&◌, ◌==◌, nat_lt, if◌then◌else◌, []}
use Rattle.std.specs.List.{list_any}
use Rattle.std.specs.Ordering.{int_eq}
use Rattle.rp_logic.specs.Terms.{Tm, Var, Const, Fn, Int, Str, Con, Sel, Plus, Tms, no_tm, also_tm, At, Equal, Le, Rel}
use Rattle.rp_logic.specs.Formulas.{Fm, Lit}
use Rattle.rp_logic.specs.Signatures.{Signature}
use Rattle.rp_logic.specs.Sorted.{has_sort}
use Rattle.refute_defs.specs.Branches.{Branch}
use Rattle.refute_defs.specs.Same.{same_tm}
use Rattle.spent_defs.specs.Standing.{stands}
use Rattle.spent_defs.specs.Atoms.{atom_holds_var, some_atom}

-- Terms are compared with the one that matches: plainly, or by classes.
abbrev pub Likeness : Type 0
Likeness = Tm → Tm → Bool

-- The closed term u fits the body's term s, for t: t is like what stands for the outer variable,
-- which is the k-th one there, anything fits an inner variable, and all else is the same.
abbrev mutual
  pub fits : Likeness → Tm → ℕ → Tm → Tm → Bool
  fits like t k (Var n) u = if n == k then like u t else nat_lt n k
  fits like t k (Const c) u = same_tm (Const c) u
  fits like t k (Fn f ss) (Fn g us) = f == g && all_fit like t k ss us
  fits like t k (Fn f ss) _ = false
  fits like t k (Int n) u = same_tm (Int n) u
  fits like t k (Str bytes) u = same_tm (Str bytes) u
  fits like t k (Con c ss) (Con d us) = c == d && all_fit like t k ss us
  fits like t k (Con c ss) _ = false
  fits like t k (Sel c i s) (Sel d j u) = c == d && i == j && fits like t k s u
  fits like t k (Sel c i s) _ = false
  fits like t k (Plus s m) (Plus u n) = int_eq m n && fits like t k s u
  fits like t k (Plus s m) _ = false

  pub all_fit : Likeness → Tm → ℕ → Tms → Tms → Bool
  all_fit like t k no_tm no_tm = true
  all_fit like t k no_tm (also_tm u us) = false
  all_fit like t k (also_tm s ss) no_tm = false
  all_fit like t k (also_tm s ss) (also_tm u us) = fits like t k s u && all_fit like t k ss us

abbrev pub atom_fits : Likeness → Tm → ℕ → At → At → Bool
atom_fits like t k (Equal a b) (Equal u v) = fits like t k a u && fits like t k b v
atom_fits like t k (Equal a b) _ = false
atom_fits like t k (Le a b m) (Le u v n) = int_eq m n && fits like t k a u && fits like t k b v
atom_fits like t k (Le a b m) _ = false
atom_fits like t k (Rel r ss) (Rel q us) = r == q && all_fit like t k ss us
atom_fits like t k (Rel r ss) _ = false

-- the formula is a literal, of either sign, with such an atom
abbrev pub is_literal_that : (At → Bool) → Fm → Bool
is_literal_that test (Lit sign atom) = test atom
is_literal_that test _ = false

-- the atom holds the variable, and fits that of a literal of the branch
abbrev pub finds_literal : Likeness → Branch → Tm → ℕ → At → Bool
finds_literal like b t k a =
    atom_holds_var k a && list_any (is_literal_that (atom_fits like t k a)) b.formulas

-- the term has the variable's sort, stands on the branch, and an atom of the body finds a literal
abbrev pub matches : Likeness → Signature → Branch → ℕ → Fm → Tm → Bool
matches like S b sort body t =
    has_sort S b.added [] sort t && stands b t && some_atom (finds_literal like b t) 0 body

abbrev pub matches_plainly : Signature → Branch → ℕ → Fm → Tm → Bool
matches_plainly = matches same_tm
