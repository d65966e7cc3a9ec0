-- Marks that are added and dropped. Lists of marks have the newest one first.
use Rattle.std.specs.Prelude.{ℕ, Bool, false, not, ◌&&◌, ◌||◌, ◌==◌, nat_le, if◌then◌else◌, List, [], ◌∷◌}
use Rattle.rp_logic.specs.Terms.{Tm, Var, Const, Fn, Int, Str, Con, Sel, Plus, Tms, no_tm, also_tm, At, Equal, Le, Rel}
use Rattle.rp_logic.specs.Formulas.{Fm, And, Or, All, Ex, Lit, Fms, no_fm, also_fm}
use Rattle.refute_branch.specs.declared.marks.Mark.{Mark}

-- the constant has a mark
abbrev pub is_marked : ℕ → List Mark → Bool
is_marked c [] = false
is_marked c (m ∷ ms) = c == m.number || is_marked c ms

-- # Marks that are dropped

-- the newest mark is not at one of the first n places
abbrev pub is_late : ℕ → List Mark → Bool
is_late n [] = false
is_late n (m ∷ ms) = nat_le n m.place

-- the marks behind the newest ones that are not at one of the first n places
abbrev pub dropped : ℕ → List Mark → List Mark
dropped n [] = []
dropped n (m ∷ ms) = if nat_le n m.place then dropped n ms else m ∷ ms

-- # Marks that are added at a place

-- a constant is marked if it is past the signature's and has no mark
abbrev pub with_constant : ℕ → ℕ → ℕ → List Mark → List Mark
with_constant consts place c ms =
    if nat_le consts c && not (is_marked c ms)
    then record { number = c; place = place } ∷ ms
    else ms

abbrev mutual
  pub with_term : ℕ → ℕ → Tm → List Mark → List Mark
  with_term consts place (Var n) ms = ms
  with_term consts place (Const c) ms = with_constant consts place c ms
  with_term consts place (Fn f args) ms = with_terms consts place args ms
  with_term consts place (Int n) ms = ms
  with_term consts place (Str bytes) ms = ms
  with_term consts place (Con con args) ms = with_terms consts place args ms
  with_term consts place (Sel con i t) ms = with_term consts place t ms
  with_term consts place (Plus t n) ms = with_term consts place t ms

  pub with_terms : ℕ → ℕ → Tms → List Mark → List Mark
  with_terms consts place no_tm ms = ms
  with_terms consts place (also_tm t ts) ms =
      with_terms consts place ts (with_term consts place t ms)

abbrev pub with_atom : ℕ → ℕ → At → List Mark → List Mark
with_atom consts place (Equal a b) ms = with_term consts place b (with_term consts place a ms)
with_atom consts place (Le a b k) ms = with_term consts place b (with_term consts place a ms)
with_atom consts place (Rel r args) ms = with_terms consts place args ms

abbrev mutual
  pub with_formula : ℕ → ℕ → Fm → List Mark → List Mark
  with_formula consts place (And parts) ms = with_formulas consts place parts ms
  with_formula consts place (Or parts) ms = with_formulas consts place parts ms
  with_formula consts place (All sort body) ms = with_formula consts place body ms
  with_formula consts place (Ex sort body) ms = with_formula consts place body ms
  with_formula consts place (Lit sign atom) ms = with_atom consts place atom ms

  pub with_formulas : ℕ → ℕ → Fms → List Mark → List Mark
  with_formulas consts place no_fm ms = ms
  with_formulas consts place (also_fm f fs) ms =
      with_formulas consts place fs (with_formula consts place f ms)
