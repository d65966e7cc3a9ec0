-- Single steps of a run with a bound of depth.
use Rattle.std.proofs.Common.{◌≡◌, ℕ, ◌<◌, ◌≤◌, List, ◌∷◌, Some, None, ap, ◌∙◌, if◌then◌else◌}
use Rattle.rp_span.specs.declared.Span.{Span}
use Rattle.rp_grammar.specs.Terminals.{Terminal, Tok, at}
use Rattle.rp_tokens.specs.MachineStates.{State, to}
use Rattle.rp_tokens.specs.Machine.{step, stuck, whole, deep, bounded}
use Rattle.rp_tokens.proofs.Places.{bound, is_le, is_gt}

pub step_to : (m d : ℕ) (s t : State) (x : Terminal) (v : Span) (us : List Tok) → step s x v ≡ Some (to d t) → d ≤ m → bounded m s (at x v ∷ us) ≡ bounded m t us
step_to m d s t x v us e h = ap (bound m (at x v) us) e ∙ ap (λ c. if c then bounded m t us else deep (at x v ∷ us)) (is_le d m h)

pub step_deep : (m d : ℕ) (s t : State) (x : Terminal) (v : Span) (us : List Tok) → step s x v ≡ Some (to d t) → m < d → bounded m s (at x v ∷ us) ≡ deep (at x v ∷ us)
step_deep m d s t x v us e h = ap (bound m (at x v) us) e ∙ ap (λ c. if c then bounded m t us else deep (at x v ∷ us)) (is_gt d m h)

pub step_refused : (m : ℕ) (s : State) (x : Terminal) (v : Span) (us : List Tok) → step s x v ≡ None → bounded m s (at x v ∷ us) ≡ whole (stuck (at x v ∷ us))
step_refused m s x v us e = ap (bound m (at x v) us) e
