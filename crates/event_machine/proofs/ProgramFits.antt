-- The code of a well-formed program's procedures fits a place outside of atomic blocks.
pub use Rattle.rp_lang.proofs.TypeFacts.{each}
use Rattle.std.proofs.Common.{◌≡◌, ◌≢◌, ℕ, Bool, true, false, not, Option, Some, None, slice_get, nat_lt, refl, sym, subst, arith, true≢false, ltb-true}
use Rattle.rp_value.specs.declared.tables.AtomType.{AtomType}
use Rattle.rp_lang.specs.Types.{is_id_type}
use Rattle.rp_lang.specs.Typing.{Frame}
use Rattle.rp_lang.specs.Blocks.{in_atomic, in_arm, behind, is_stmt, are_stmts, are_stmt_arms}
use Rattle.rp_lang.specs.Stmts as st
use Rattle.rp_lang.specs.Stmts.{St, Sts, no_st, also_st, StArms, no_st_arm, also_st_arm}
use Rattle.rp_lang.specs.Programs.{Prog}
use Rattle.rp_lang.specs.WellFormed.{at_start, is_procedure, is_well_formed}
use Rattle.event_machine.specs.Code.{Code, code, codes, code_arms}
use Rattle.event_machine.specs.Fitting.{names_ids}
use Rattle.event_machine.specs.WellFormed.{Fits, ArmsFit, ProcsFit}
use Rattle.event_machine.proofs.FormLemmas.{both_true}

pub outside : (b : Bool) → not b ≡ true → b ≡ false
outside true h = absurd (true≢false (sym h))
outside false h = refl

id-type : (o : Option AtomType) → is_id_type o ≡ true → names_ids o ≡ true
id-type None h = h
id-type (Some atom) h = h

not-zero : (n : ℕ) → nat_lt 0 n ≡ true → n ≢ 0
not-zero n h e = let l = ltb-true 0 n h in absurd (omega (arith, e))

mutual
  code-fits : (p : Prog) (frame : Frame) (s : St) (next : Code) → is_stmt p frame s ≡ true → Fits p frame.reads next → Fits p frame.reads (code s next)
  code-fits p frame (st.Put at slot e) next h f = f
  code-fits p frame (st.Decide at slot g) next h f = f
  code-fits p frame (st.New at slot n) next h f = (id-type (slice_get p.types.atoms n) (both_true _ _ h).1, f)
  code-fits p frame (st.Operate at op args) next h f =
      let typed = both_true _ _ h in
      let small = both_true _ _ typed.0 in
      let within = both_true _ _ small.0 in
      let inside = both_true _ _ within.0 in
      (inside.0, not-zero op inside.1, f)
  code-fits p frame (st.If at g then_ else_) next h f =
      let both = both_true _ _ h in
      (codes-fit p frame then_ next (both_true _ _ both.0).1 f, codes-fit p frame else_ next both.1 f)
  code-fits p frame (st.Match at on arms) next h f = arms-fit p frame arms next (both_true _ _ h).1 f
  code-fits p frame (st.Atomic at body) next h f =
      let both = both_true _ _ h in
      let out = outside frame.reads both.0 in
      (out, codes-fit p (in_atomic frame) body _ both.1 (refl, subst (λ b. Fits p b next) out f))
  code-fits p frame (st.Assert at g) next h f = f
  code-fits p frame (st.Return at) next h f = outside frame.reads (both_true _ _ h).0
  code-fits p frame (st.ReturnWith at e) next h f = outside frame.reads (both_true _ _ h).0

  codes-fit : (p : Prog) (frame : Frame) (ss : Sts) (next : Code) → are_stmts p frame ss ≡ true → Fits p frame.reads next → Fits p frame.reads (codes ss next)
  codes-fit p frame no_st next h f = f
  codes-fit p frame (also_st s rest) next h f =
      let both = both_true _ _ h in
      code-fits p frame s (codes rest next) (both_true _ _ both.0).1 (codes-fit p (behind s frame) rest next both.1 f)

  arms-fit : (p : Prog) (frame : Frame) (arms : StArms) (next : Code) → are_stmt_arms p frame arms ≡ true → Fits p frame.reads next → ArmsFit p frame.reads (code_arms arms next)
  arms-fit p frame no_st_arm next h f = tt
  arms-fit p frame (also_st_arm con slots body rest) next h f =
      let both = both_true _ _ h in
      (codes-fit p (in_arm slots frame) body next (both_true _ _ both.0).1 f, arms-fit p frame rest next both.1 f)

pub procs-fit : (p : Prog) → is_well_formed p ≡ true → ProcsFit p
procs-fit p h n q at =
    let procs = both_true _ _ (both_true _ _ (both_true _ _ h).0).1 in
    let facts = each (is_procedure p) p.procs n q procs.1 at in
    let body = both_true _ _ (both_true _ _ facts).0 in
    codes-fit p (at_start q) q.body _ body.1 refl
