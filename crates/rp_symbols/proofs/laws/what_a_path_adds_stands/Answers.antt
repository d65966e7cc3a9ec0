use Rattle.std.proofs.Common.{◌+◌, ◌*◌, ◌-◌, ◌≡◌, ◌∙◌, suc, refl, arith}
use Rattle.rp_symbols.specs.Numbers.{ids}
use Rattle.rp_symbols.proofs.StandToo.{added-stands, values-with, view-place}
use Rattle.rp_symbols.proofs.laws.what_a_path_adds_stands.Goals as goal

pub returns : goal.returns
returns c = record {
  sets = λ p views reads j consts l. added-stands p (views - 1) reads j l;
  values = λ p views reads view n consts query a g l. values-with p (views - 1) reads view n query a g l;
  places = λ p begins k. (
    view-place p (3 * ids p.types.atoms + (k + k)) (k + k) refl ∙ (omega arith),
    view-place p (3 * ids p.types.atoms + suc (k + k)) (suc (k + k)) refl ∙ (omega arith),
    view-place p (3 * ids p.types.atoms + (begins + begins + k)) (begins + begins + k) refl ∙ (omega arith),
  );
}
