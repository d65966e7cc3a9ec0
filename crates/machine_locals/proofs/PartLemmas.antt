-- Where the parts of statements end, as the list of their procedure's points tells it.
use Rattle.std.proofs.Common.{◌≡◌, ℕ, ◌+◌, ◌<◌, false, nat_eq, sym, ◌∙◌, subst, List, map, Some, get_or, drop, length}
use Rattle.std.proofs.lemmas.Bool.{ne_eqb}
use Rattle.rp_span.specs.declared.Span.{Span}
use Rattle.rp_lang.specs.Exprs.{Ex}
use Rattle.rp_lang.specs.Formulas.{Fo}
use Rattle.rp_lang.specs.Stmts.{St, Sts, StArms, If, Match}
use Rattle.rp_lang.specs.declared.program.Program.{Program}
use Rattle.rp_lang.specs.declared.stmt.StmtArm.{StmtArm}
use Rattle.rp_lang.specs.declared.stmt.StmtKind.TheViews.{out-StmtArm}
use Rattle.rp_lang.specs.Views.{stmts_view, stmt_arms_view}
use Rattle.code_points.specs.Places.{Tells, TellsArms}
use Rattle.code_points.specs.PointView.{place_view}
use Rattle.code_points.specs.Points.{Before, size}
use Rattle.machine_locals.specs.Lefts.{HasArms}
use Rattle.machine_locals.proofs.ArmLemmas.{arms_split}
use Rattle.machine_state.specs.declared.state.State.{State}
use Rattle.machine_state.specs.Fits.{Fits}
use Rattle.machine_state.specs.Spots.{HasRest, IsTold}
use Rattle.machine_state.proofs.FitsLemmas.{places_within}
use Rattle.machine_state.proofs.StateLemmas.{some_at}

pub then_told : (p : Program) (s : State) (i n : ℕ) (stmt : St) (at : Span) (f : Fo) (then_ else_ : Sts) (rest : ℕ) → Fits p s → i < length s.infos
    → stmt ≡ If at f then_ else_ → IsTold s i (Some (Before n stmt)) → HasRest s i (n + 1) rest → rest ≡ size then_
then_told p s i n stmt at f then_ else_ rest fits within is told has =
    let info = some_at s.infos i within in
    let places = some_at s.places info.0.proc (places_within p s i info.0 fits info.1) in
    has info.0 places.0 info.1 places.1
    ∙ subst (λ (x : St). Tells (map place_view places.0) (Some (Before n x))) is (told info.0 places.0 info.1 places.1)

pub arms_told : (s : State) (i n : ℕ) (stmt : St) (at : Span) (on : Ex) (arms others : StArms) → stmt ≡ Match at on arms → others ≡ arms
    → IsTold s i (Some (Before n stmt)) → HasArms s i others (n + 1)
arms_told s i n stmt at on arms others is same told info places at_info at_places =
    subst (λ (x : StArms). TellsArms (map place_view places) x (n + 1)) (sym same)
    (subst (λ (x : St). Tells (map place_view places) (Some (Before n x))) is (told info places at_info at_places))

-- # A walk over arms

-- an arm's end and the arms behind it are told
pub record ArmTold (s : State) (i : ℕ) (arms : List StmtArm) (k at : ℕ) (arm : StmtArm) (rest : ℕ) : Type 0 where
  pub size_so : rest ≡ size (stmts_view (out-StmtArm arm).body)
  pub others : HasArms s i (stmt_arms_view (drop (k + 1) arms)) (at + (rest + 1))

pub arm_told : (p : Program) (s : State) (i : ℕ) (arms : List StmtArm) (k at : ℕ) (arm : StmtArm) (rest : ℕ) → Fits p s → i < length s.infos → k < length arms → arm ≡ get_or arms k arm
    → HasArms s i (stmt_arms_view (drop k arms)) at → HasRest s i at rest → ArmTold s i arms k at arm rest
arm_told p s i arms k at arm rest fits within lt is told has =
    let split = arms_split arms k arm lt is in
    let info = some_at s.infos i within in
    let places = some_at s.places info.0.proc (places_within p s i info.0 fits info.1) in
    let here = subst (λ (x : StArms). TellsArms (map place_view places.0) x at) split (told info.0 places.0 info.1 places.1) in
    let so : rest ≡ size (stmts_view (out-StmtArm arm).body) = has info.0 places.0 info.1 places.1 ∙ here.0 in
    record {
      size_so = so;
      others = λ an_info list at_info at_list.
          subst (λ (m : ℕ). TellsArms (map place_view list) (stmt_arms_view (drop (k + 1) arms)) (at + (m + 1))) (sym so)
          (subst (λ (x : StArms). TellsArms (map place_view list) x at) split (told an_info list at_info at_list)).1;
    }

pub not_same : (a b : ℕ) → (a ≡ b → ⊥) → nat_eq a b ≡ false
not_same a b apart = ne_eqb a b apart
