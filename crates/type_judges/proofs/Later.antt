-- Names that are declared later.
use Rattle.std.proofs.Common.{◌≡◌, ℕ, ◌+◌, Bool, true, false, ◌||◌, List, [], ◌∷◌, cond, refl, ap, ◌∙◌, arith, lt-ltb}
use Rattle.std.specs.Prelude.{ltb}
use Rattle.std.specs.List.{count_by}
use Rattle.std.proofs.lemmas.List.Sums.{sum_by-cons}
use Rattle.type_rules.specs.Names.{Name, is_among, same_name}

-- a name is among those that it counts
pub among_counted : (x : Name) (names : List Name) → ltb 0 (count_by (same_name x) names) ≡ is_among x names
among_counted x [] = refl
among_counted x (y ∷ names) =
    ap (ltb 0) (sum_by-cons (λ z. cond (same_name x z) 1 0) y names) ∙ by (same_name x y) (among_counted x names)
  where
    many : ℕ
    many = count_by (same_name x) names

    none : 0 + many ≡ many
    none = omega arith

    by : (b : Bool) → ltb 0 many ≡ is_among x names → ltb 0 (cond b 1 0 + many) ≡ (b || is_among x names)
    by true later = lt-ltb 0 (1 + many) (omega arith)
    by false later = ap (ltb 0) none ∙ later
