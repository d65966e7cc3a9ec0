-- Cases that no rule names.
use Rattle.std.proofs.Common.{◌≡◌, ◌≢◌, ℕ, zero, suc, None, refl}
use Rattle.rp_logic.specs.Terms.{Tm}
use Rattle.refute_defs.specs.Children.{order_of_sum}

pub no_third_bound : (i : ℕ) (t : Tm) → i ≢ 0 → i ≢ 1 → order_of_sum i t ≡ None
no_third_bound zero t h k = absurd (h refl)
no_third_bound (suc zero) t h k = absurd (k refl)
no_third_bound (suc (suc i)) t h k = refl
