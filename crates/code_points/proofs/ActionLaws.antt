use Rattle.std.proofs.Common.{◌≡◌, ℕ, refl, ap, ◌∙◌, Option, Some, None}
use Rattle.rp_span.specs.declared.Span.{Span}
use Rattle.rp_lang.specs.Stmts as st
use Rattle.rp_lang.specs.Stmts.{St, Sts}
use Rattle.event_machine.specs.Code.{Code, Return}
use Rattle.code_points.specs.Points.{Spot, Before, Closing, codes_at, spot_in, does_at, goes_on}
use Rattle.event_machine.specs.Machine.{next_action}
use Rattle.code_points.specs.Actions.{st_action, spot_action}
use Rattle.code_points.proofs.PointLaws.{whole}

does : (left : ℕ → Code) (n : ℕ) (s : St) → next_action (does_at left n s) ≡ st_action s
does left n (st.Put at slot e) = refl
does left n (st.Decide at slot f) = refl
does left n (st.New at slot ty) = refl
does left n (st.Operate at op args) = refl
does left n (st.If at f then_ else_) = refl
does left n (st.Match at on arms) = refl
does left n (st.Atomic at body) = refl
does left n (st.Assert at f) = refl
does left n (st.Return at) = refl
does left n (st.ReturnWith at e) = refl

spotted : (left : ℕ → Code) (spot : Option Spot) (end : Span) → next_action (goes_on left spot (Return end None)) ≡ spot_action spot
spotted left None end = refl
spotted left (Some (Before at s)) end = does left at s
spotted left (Some (Closing at block)) end = refl

pub next_is : (stmts : Sts) (n : ℕ) (end : Span) → next_action (codes_at stmts n (Return end None)) ≡ spot_action (spot_in stmts 0 n)
next_is stmts n end = ap next_action (whole stmts (Return end None) n) ∙ spotted (λ k. codes_at stmts k (Return end None)) (spot_in stmts 0 n) end
