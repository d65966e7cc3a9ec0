-- A value of a list weighs no more than the list.
use Rattle.std.proofs.Common.{◌≡◌, ◌<◌, ◌≤◌, ℕ, zero, suc, List, [], ◌∷◌, length, get_or, ap, arith}
use Rattle.rp_value.specs.declared.value.Value.{Value}
use Rattle.rp_value.specs.ValueView.{value_view, values_view}
use Rattle.schedule_fmt.specs.means.Weights.{weight, weights}

pub item_weight : (args : List Value) (i : ℕ) (x : Value) → i < length args → x ≡ get_or args i x → weight (value_view x) ≤ weights (values_view args)
item_weight [] i x h e = absurd (omega arith)
item_weight (y ∷ ys) zero x h e = let same : weight (value_view x) ≡ weight (value_view y) = ap (λ z. weight (value_view z)) e in omega arith
item_weight (y ∷ ys) (suc i) x h e = let less = item_weight ys i x (omega arith) e in omega arith
