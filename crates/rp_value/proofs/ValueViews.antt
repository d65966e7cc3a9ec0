-- What each variant of a value is seen as.
use Rattle.std.proofs.Common.{◌≡◌, ℕ, ℤ, List, ap, sym, ◌∙◌}
use Rattle.rp_value.specs.declared.value.Value.{Value}
use Rattle.rp_value.specs.declared.value.Value.TheVariants as made
use Rattle.rp_value.specs.declared.value.Value.TheOpen.{Int, Str, Atom, Con, Call, Inv}
use Rattle.rp_value.specs.declared.value.Value.TheFolds.{fold-roll-Value}
use Rattle.rp_value.specs.Values as seen
use Rattle.rp_value.specs.Values.{Val}
use Rattle.rp_value.specs.ValueView.{view_step, value_view, values_view}

pub value_view-Int : (n : ℤ) → value_view (made.Int n) ≡ seen.Int n
value_view-Int n = ap value_view (sym (made.rolls-Int n)) ∙ fold-roll-Value Val view_step (Int n)

pub value_view-Str : (bytes : List ℕ) → value_view (made.Str bytes) ≡ seen.Str bytes
value_view-Str bytes = ap value_view (sym (made.rolls-Str bytes)) ∙ fold-roll-Value Val view_step (Str bytes)

pub value_view-Atom : (ty num : ℕ) → value_view (made.Atom ty num) ≡ seen.Atom ty num
value_view-Atom ty num = ap value_view (sym (made.rolls-Atom ty num)) ∙ fold-roll-Value Val view_step (Atom ty num)

pub value_view-Con : (con : ℕ) (args : List Value) → value_view (made.Con con args) ≡ seen.Con con (values_view args)
value_view-Con con args = ap value_view (sym (made.rolls-Con con args)) ∙ fold-roll-Value Val view_step (Con con args)

pub value_view-Call : (c : ℕ) → value_view (made.Call c) ≡ seen.Call c
value_view-Call c = ap value_view (sym (made.rolls-Call c)) ∙ fold-roll-Value Val view_step (Call c)

pub value_view-Inv : (i : ℕ) → value_view (made.Inv i) ≡ seen.Inv i
value_view-Inv i = ap value_view (sym (made.rolls-Inv i)) ∙ fold-roll-Value Val view_step (Inv i)

pub ruleset value_views = (value_view-Int, value_view-Str, value_view-Atom, value_view-Con, value_view-Call, value_view-Inv)
