-- What an invocation has left, by the kind of its next action.
use Rattle.std.proofs.Common.{◌≡◌, ℕ, refl, sym, ap, List, Option, Some, None}
use Rattle.rp_span.specs.declared.Span.{Span}
use Rattle.rp_value.specs.Values.{Val}
use Rattle.rp_lang.specs.Stmts as st
use Rattle.rp_lang.specs.Stmts.{St}
use Rattle.code_points.specs.Points.{does_at}
use Rattle.event_machine.specs.Code as left
use Rattle.event_machine.specs.Code.{Code}
use Rattle.event_machine.specs.States.{State, Invocation, Moved}
use Rattle.event_machine.specs.Machine as spec
use Rattle.machine_state.proofs.StateLemmas.{nothing, one_found}
use Rattle.machine_effects.specs.means.Lefts as lefts

pub begun_none : (s : State) (i stamp : ℕ) (sees : List ℕ) (inv : Invocation) (code : Code) → lefts.begun code ≡ None → spec.begins s i stamp sees inv code ≡ Moved s
begun_none s i stamp sees inv (left.Put slot e next) is = refl
begun_none s i stamp sees inv (left.Decide slot f next) is = refl
begun_none s i stamp sees inv (left.New slot of next) is = refl
begun_none s i stamp sees inv (left.Operate op args next) is = refl
begun_none s i stamp sees inv (left.Assert at f next) is = refl
begun_none s i stamp sees inv (left.Choose f then_ else_) is = refl
begun_none s i stamp sees inv (left.Match on arms) is = refl
begun_none s i stamp sees inv (left.Begin next) is = absurd (nothing next (sym is))
begun_none s i stamp sees inv (left.End at next) is = refl
begun_none s i stamp sees inv (left.Return at result) is = refl

pub begun_some : (code behind : Code) → lefts.begun code ≡ Some behind → code ≡ left.Begin behind
begun_some (left.Put slot e next) behind is = absurd (nothing behind is)
begun_some (left.Decide slot f next) behind is = absurd (nothing behind is)
begun_some (left.New slot of next) behind is = absurd (nothing behind is)
begun_some (left.Operate op args next) behind is = absurd (nothing behind is)
begun_some (left.Assert at f next) behind is = absurd (nothing behind is)
begun_some (left.Choose f then_ else_) behind is = absurd (nothing behind is)
begun_some (left.Match on arms) behind is = absurd (nothing behind is)
begun_some (left.Begin next) behind is = ap left.Begin (one_found (Some next) next behind refl is)
begun_some (left.End at next) behind is = absurd (nothing behind is)
begun_some (left.Return at result) behind is = absurd (nothing behind is)

pub ended_none : (s : State) (i : ℕ) (inv : Invocation) (own : Option ℕ) (code : Code) → lefts.ended code ≡ None → spec.commits s i inv own code ≡ Moved s
ended_none s i inv None code is = refl
ended_none s i inv (Some tx) (left.Put slot e next) is = refl
ended_none s i inv (Some tx) (left.Decide slot f next) is = refl
ended_none s i inv (Some tx) (left.New slot of next) is = refl
ended_none s i inv (Some tx) (left.Operate op args next) is = refl
ended_none s i inv (Some tx) (left.Assert at f next) is = refl
ended_none s i inv (Some tx) (left.Choose f then_ else_) is = refl
ended_none s i inv (Some tx) (left.Match on arms) is = refl
ended_none s i inv (Some tx) (left.Begin next) is = refl
ended_none s i inv (Some tx) (left.End at next) is = absurd (nothing next (sym is))
ended_none s i inv (Some tx) (left.Return at result) is = refl

pub ended_some : (code behind : Code) → lefts.ended code ≡ Some behind → (at : Span) × (code ≡ left.End at behind)
ended_some (left.Put slot e next) behind is = absurd (nothing behind is)
ended_some (left.Decide slot f next) behind is = absurd (nothing behind is)
ended_some (left.New slot of next) behind is = absurd (nothing behind is)
ended_some (left.Operate op args next) behind is = absurd (nothing behind is)
ended_some (left.Assert at f next) behind is = absurd (nothing behind is)
ended_some (left.Choose f then_ else_) behind is = absurd (nothing behind is)
ended_some (left.Match on arms) behind is = absurd (nothing behind is)
ended_some (left.Begin next) behind is = absurd (nothing behind is)
ended_some (left.End at next) behind is = (at, ap (left.End at) (one_found (Some next) next behind refl is))
ended_some (left.Return at result) behind is = absurd (nothing behind is)

pub new_none : (s : State) (i : ℕ) (id : Val) (inv : Invocation) (code : Code) → lefts.new code ≡ None → spec.made s i id inv code ≡ Moved s
new_none s i id inv (left.Put slot e next) is = refl
new_none s i id inv (left.Decide slot f next) is = refl
new_none s i id inv (left.New slot of next) is = absurd (nothing (slot, next) (sym is))
new_none s i id inv (left.Operate op args next) is = refl
new_none s i id inv (left.Assert at f next) is = refl
new_none s i id inv (left.Choose f then_ else_) is = refl
new_none s i id inv (left.Match on arms) is = refl
new_none s i id inv (left.Begin next) is = refl
new_none s i id inv (left.End at next) is = refl
new_none s i id inv (left.Return at result) is = refl

pub new_some : (code : Code) (found : ℕ × Code) → lefts.new code ≡ Some found → (of : ℕ) × (code ≡ left.New found.0 of found.1)
new_some (left.Put slot e next) found is = absurd (nothing found is)
new_some (left.Decide slot f next) found is = absurd (nothing found is)
new_some (left.New slot of next) found is = (of, ap (λ (f : ℕ × Code). left.New f.0 of f.1) (one_found (Some (slot, next)) (slot, next) found refl is))
new_some (left.Operate op args next) found is = absurd (nothing found is)
new_some (left.Assert at f next) found is = absurd (nothing found is)
new_some (left.Choose f then_ else_) found is = absurd (nothing found is)
new_some (left.Match on arms) found is = absurd (nothing found is)
new_some (left.Begin next) found is = absurd (nothing found is)
new_some (left.End at next) found is = absurd (nothing found is)
new_some (left.Return at result) found is = absurd (nothing found is)

-- no statement ends a block
pub never_ended : (left_at : ℕ → Code) (n : ℕ) (s : St) → lefts.ended (does_at left_at n s) ≡ None
never_ended left_at n (st.Put at slot e) = refl
never_ended left_at n (st.Decide at slot f) = refl
never_ended left_at n (st.New at slot ty) = refl
never_ended left_at n (st.Operate at op args) = refl
never_ended left_at n (st.If at f then_ else_) = refl
never_ended left_at n (st.Match at on arms) = refl
never_ended left_at n (st.Atomic at body) = refl
never_ended left_at n (st.Assert at f) = refl
never_ended left_at n (st.Return at) = refl
never_ended left_at n (st.ReturnWith at e) = refl
