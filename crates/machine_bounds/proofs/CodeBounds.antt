-- What an invocation evaluates next, and what a check evaluates, stays within 128 bits.
use Rattle.std.proofs.Common.{◌≡◌, ℕ, ◌+◌, ◌≤◌, Bool, true, ◌&&◌, not, nat_le, List, [], ◌∷◌, Option, Some, None, slice_get, is_some, inl, inr, refl, sym, ap, subst, arith, leb-true, true≢false}
use Rattle.std.proofs.lemmas.Bool.{and_parts}
use Rattle.rp_value.specs.declared.tables.Ty.{Ty}
use Rattle.rp_value.specs.declared.tables.Ty.TheVariants.{Datatype}
use Rattle.rp_value.specs.Values.{Val}
use Rattle.rp_lang.specs.Blocks.{in_atomic, in_arm, behind, plain_type, is_condition, is_stmt, are_stmts, are_stmt_arms}
use Rattle.rp_lang.specs.Bounds.{ex_weight, exs_weight, fo_weight, is_small_ex, are_small_exs, is_small_fo}
use Rattle.rp_lang.specs.Sizes.{ex_depth, ex_nodes, exs_nodes}
use Rattle.rp_lang.specs.Exprs.{Ex, Slot, Bound, Int, Str, Con, Plus, Add, Sub, Query, OpOf, OpTerm, OriginOf, InfoOf, InfoTerm, ResultOf, ResultTerm, ResultWith, Unreturned, Exs, no_ex, also_ex}
use Rattle.rp_lang.specs.Formulas.{Fo}
use Rattle.rp_lang.specs.Programs.{Inv, Proc, Prog}
use Rattle.rp_lang.specs.Stmts as st
use Rattle.rp_lang.specs.Stmts.{St, Sts, no_st, also_st, StArms, no_st_arm, also_st_arm}
use Rattle.rp_lang.specs.Types.{is_ty, agree}
use Rattle.rp_lang.specs.Typing.{Frame, in_invariant, type_of, have_types, is_typed, are_cases}
use Rattle.rp_lang.specs.WellFormed.{at_start, is_invariant, is_well_formed}
use Rattle.rp_lang.proofs.ProgramFacts.{Facts, facts, procedure-of}
use Rattle.rp_lang.proofs.TypeFacts.{each, given-some, is-type}
use Rattle.crdt_defs.specs.Histories.{IsHistory}
use Rattle.crdt_defs.specs.Truths.{Reading, slot_value}
use Rattle.crdt_truth.specs.Within.{ExWithin, ExsWithin, FoWithin}
use Rattle.event_machine.specs.Code as left
use Rattle.event_machine.specs.Code.{Code, CodeArms, no_code, also_code, code, codes, code_arms, proc_code}
use Rattle.event_machine.specs.Machine.{at_snapshot, proc_reading}
use Rattle.event_machine.specs.States.{Invocation, Running, State}
use Rattle.event_machine.specs.TypedStates.{CodeTyped, frame_in, IsTypedInvocation, IsTyped}
use Rattle.event_machine.specs.WellFormed.{At, Next, NextArm, IsRest, nothing_done, one_more, IsWellFormed}
use Rattle.event_machine.proofs.PlaceLemmas.{at-lt, at-exists}
use Rattle.machine_bounds.specs.Bounded.{HasWords}
use Rattle.machine_bounds.specs.NextWithin.{NextWithin}
use Rattle.machine_bounds.proofs.TameLemmas.{Tame, BindersTame, false-tame, fits-whole, words-within}
use Rattle.machine_bounds.proofs.AnswerBounds.{no-fields, asked-tame}
use Rattle.machine_bounds.proofs.ExprBounds.{GivesTame, agreed, ex-within}
use Rattle.machine_bounds.proofs.FormulaBounds.{fo-within}

-- # Small code

-- under no binder the weight is the nodes
mutual
  plain-weight : (e : Ex) → ex_weight [] e ≡ ex_nodes e
  plain-weight (Slot s) = refl
  plain-weight (Bound n) = refl
  plain-weight (Int n) = refl
  plain-weight (Str bytes) = refl
  plain-weight (Con con args) = ap (λ n. 1 + n) (plain-weights args)
  plain-weight (Plus e n) = ap (λ n. 1 + n) (plain-weight e)
  plain-weight (Add a b) = let x = plain-weight a in let y = plain-weight b in omega arith
  plain-weight (Sub a b) = let x = plain-weight a in let y = plain-weight b in omega arith
  plain-weight (Query query args) = ap (λ n. 1 + n) (plain-weights args)
  plain-weight (OpOf call) = ap (λ n. 1 + n) (plain-weight call)
  plain-weight (OpTerm op args) = ap (λ n. 1 + n) (plain-weights args)
  plain-weight (OriginOf call) = ap (λ n. 1 + n) (plain-weight call)
  plain-weight (InfoOf inv) = ap (λ n. 1 + n) (plain-weight inv)
  plain-weight (InfoTerm proc args) = ap (λ n. 1 + n) (plain-weights args)
  plain-weight (ResultOf inv) = ap (λ n. 1 + n) (plain-weight inv)
  plain-weight (ResultTerm proc) = refl
  plain-weight (ResultWith proc e) = ap (λ n. 1 + n) (plain-weight e)
  plain-weight Unreturned = refl

  plain-weights : (es : Exs) → exs_weight [] es ≡ exs_nodes es
  plain-weights no_ex = refl
  plain-weights (also_ex e es) = let x = plain-weight e in let y = plain-weights es in omega arith

small-weight : (e : Ex) → is_small_ex e ≡ true → ex_weight [] e ≤ 100000
small-weight e h =
    let nodes : ex_nodes e ≤ 100000 = leb-true (ex_nodes e) 100000 (and_parts (nat_le (ex_depth e) 64) (nat_le (ex_nodes e) 100000) h).1 in
    let same = plain-weight e in
    omega arith

small-formula : (p : Prog) (f : Fo) → is_small_fo p.cons f ≡ true → fo_weight p.cons [] f ≤ 100000
small-formula p f h = leb-true (fo_weight p.cons [] f) 100000 (and_parts _ (nat_le (fo_weight p.cons [] f) 100000) h).1

-- each expression and formula of the code is within the limits
abbrev mutual
  CodeSmall : Prog → Code → Type 0
  CodeSmall p (left.Put slot e next) = (is_small_ex e ≡ true) × CodeSmall p next
  CodeSmall p (left.Decide slot f next) = (is_small_fo p.cons f ≡ true) × CodeSmall p next
  CodeSmall p (left.New slot of next) = CodeSmall p next
  CodeSmall p (left.Operate op args next) = (are_small_exs args ≡ true) × CodeSmall p next
  CodeSmall p (left.Assert at f next) = (is_small_fo p.cons f ≡ true) × CodeSmall p next
  CodeSmall p (left.Choose f then_ else_) = (is_small_fo p.cons f ≡ true) × CodeSmall p then_ × CodeSmall p else_
  CodeSmall p (left.Match on arms) = (is_small_ex on ≡ true) × ArmsSmall p arms
  CodeSmall p (left.Begin next) = CodeSmall p next
  CodeSmall p (left.End at next) = CodeSmall p next
  CodeSmall p (left.Return at None) = Unit {0}
  CodeSmall p (left.Return at (Some e)) = is_small_ex e ≡ true

  ArmsSmall : Prog → CodeArms → Type 0
  ArmsSmall p no_code = Unit {0}
  ArmsSmall p (also_code con slots body others) = CodeSmall p body × ArmsSmall p others

plain-small : (p : Prog) (frame : Frame) (e : Ex) (other : Option Ty) → agree (plain_type p frame e) other ≡ true → is_small_ex e ≡ true
plain-small p frame e other h = let k = agreed (plain_type p frame e) other h in (given-some (is_small_ex e) _ k.0 k.1).0

case-small : (p : Prog) (frame : Frame) (o : Option Ty) (e : Ex) (cons : List ℕ) → plain_type p frame e ≡ o → are_cases p o cons ≡ true → is_small_ex e ≡ true
case-small p frame None e cons is h = absurd (true≢false (sym h))
case-small p frame (Some t) e cons is h = (given-some (is_small_ex e) _ t is).0

mutual
  code-small : (p : Prog) (frame : Frame) (s : St) (next : Code) → is_stmt p frame s ≡ true → CodeSmall p next → CodeSmall p (code s next)
  code-small p frame (st.Put at slot e) next h f =
      (plain-small p frame e (slice_get frame.slots slot) (and_parts (not (frame.fixed slot)) _ h).1, f)
  code-small p frame (st.Decide at slot g) next h f = ((and_parts (is_small_fo p.cons g) _ (and_parts _ _ h).1).0, f)
  code-small p frame (st.New at slot n) next h f = f
  code-small p frame (st.Operate at op args) next h f = ((and_parts _ (are_small_exs args) (and_parts _ _ h).0).1, f)
  code-small p frame (st.If at g then_ else_) next h f =
      let both = and_parts (is_condition p frame g && are_stmts p frame then_) (are_stmts p frame else_) h in
      let first = and_parts (is_condition p frame g) (are_stmts p frame then_) both.0 in
      ((and_parts (is_small_fo p.cons g) _ first.0).0, codes-small p frame then_ next first.1 f, codes-small p frame else_ next both.1 f)
  code-small p frame (st.Match at on arms) next h f =
      let both = and_parts _ (are_stmt_arms p frame arms) h in
      (case-small p frame (plain_type p frame on) on _ refl both.0, arms-small p frame arms next both.1 f)
  code-small p frame (st.Atomic at body) next h f = codes-small p (in_atomic frame) body (left.End at next) (and_parts _ (are_stmts p (in_atomic frame) body) h).1 f
  code-small p frame (st.Assert at g) next h f = ((and_parts (is_small_fo p.cons g) _ h).0, f)
  code-small p frame (st.Return at) next h f = tt
  code-small p frame (st.ReturnWith at e) next h f = plain-small p frame e frame.result (and_parts (not frame.reads) _ h).1

  codes-small : (p : Prog) (frame : Frame) (ss : Sts) (next : Code) → are_stmts p frame ss ≡ true → CodeSmall p next → CodeSmall p (codes ss next)
  codes-small p frame no_st next h f = f
  codes-small p frame (also_st s rest) next h f =
      let both = and_parts _ (are_stmts p (behind s frame) rest) h in
      code-small p frame s (codes rest next) (and_parts _ (is_stmt p frame s) both.0).1 (codes-small p (behind s frame) rest next both.1 f)

  arms-small : (p : Prog) (frame : Frame) (arms : StArms) (next : Code) → are_stmt_arms p frame arms ≡ true → CodeSmall p next → ArmsSmall p (code_arms arms next)
  arms-small p frame no_st_arm next h f = tt
  arms-small p frame (also_st_arm con slots body rest) next h f =
      let both = and_parts _ (are_stmt_arms p frame rest) h in
      (codes-small p (in_arm slots frame) body next (and_parts _ (are_stmts p (in_arm slots frame) body) both.0).1 f, arms-small p frame rest next both.1 f)

-- # What is left

mutual
  next-small : (p : Prog) (from c : Code) → CodeSmall p from → Next from c → CodeSmall p c
  next-small p (left.Put slot e next) c h is = subst (CodeSmall p) (sym is) h.1
  next-small p (left.Decide slot f next) c h is = subst (CodeSmall p) (sym is) h.1
  next-small p (left.New slot of next) c h is = subst (CodeSmall p) (sym is) h
  next-small p (left.Operate op args next) c h is = subst (CodeSmall p) (sym is) h.1
  next-small p (left.Assert at f next) c h is = subst (CodeSmall p) (sym is) h.1
  next-small p (left.Choose f then_ else_) c h (inl is) = subst (CodeSmall p) (sym is) h.1
  next-small p (left.Choose f then_ else_) c h (inr is) = subst (CodeSmall p) (sym is) h.2
  next-small p (left.Match on arms) c h is = arm-small p arms c h.1 is
  next-small p (left.Begin next) c h is = subst (CodeSmall p) (sym is) h
  next-small p (left.End at next) c h is = subst (CodeSmall p) (sym is) h
  next-small p (left.Return at result) c h is = absurd is

  arm-small : (p : Prog) (arms : CodeArms) (c : Code) → ArmsSmall p arms → NextArm arms c → CodeSmall p c
  arm-small p no_code c h is = absurd is
  arm-small p (also_code con slots body others) c h (inl is) = subst (CodeSmall p) (sym is) h.0
  arm-small p (also_code con slots body others) c h (inr is) = arm-small p others c h.1 is

rest-small : (p : Prog) (whole c : Code) → CodeSmall p whole → IsRest whole c → CodeSmall p c
rest-small p whole _ h nothing_done = h
rest-small p whole c h (one_more from _ before next) = next-small p from c (rest-small p whole from h before) next

-- # What comes next

closed : (r : Reading) → GivesTame r → BindersTame r.program.cons [] []
closed r g n = false-tame r.program.cons 1 g.bare

plain-within : (r : Reading) → GivesTame r → (frame : Frame) (e : Ex) (t : Ty) → type_of r.program frame [] e ≡ Some t → is_small_ex e ≡ true → ExWithin r [] e
plain-within r g frame e t h small = ex-within r g frame [] [] [] (closed r g) e t h (small-weight e small)

each-within : (r : Reading) → GivesTame r → (frame : Frame) (ts : List Ty) (es : Exs) → have_types r.program frame [] ts es ≡ true → are_small_exs es ≡ true → ExsWithin r [] es
each-within r g frame [] no_ex h small = tt
each-within r g frame [] (also_ex e es) h small = absurd (true≢false (sym h))
each-within r g frame (t ∷ ts) no_ex h small = absurd (true≢false (sym h))
each-within r g frame (t ∷ ts) (also_ex e es) h small =
    let both = and_parts (is_ty (type_of r.program frame [] e) t) (have_types r.program frame [] ts es) h in
    let sizes = and_parts (is_small_ex e) (are_small_exs es) small in
    (plain-within r g frame e t (is-type _ t both.0) sizes.0, each-within r g frame ts es both.1 sizes.1)

condition-within : (r : Reading) → GivesTame r → (frame : Frame) (f : Fo) → is_typed r.program frame [] f ≡ true → is_small_fo r.program.cons f ≡ true → FoWithin r [] f
condition-within r g frame f h small = fo-within r g frame [] [] [] (closed r g) f h (small-formula r.program f small)

next-within : (r : Reading) → GivesTame r → (q : Proc) (within : Bool) (set : ℕ → Bool) (c : Code) → CodeTyped r.program q within set c → CodeSmall r.program c → NextWithin r c
next-within r g q within set (left.Put slot e next) typed small =
    let k = agreed (type_of r.program (frame_in q within set) [] e) (slice_get q.slots slot) typed.0 in
    plain-within r g (frame_in q within set) e k.0 k.1 small.0
next-within r g q within set (left.Decide slot f next) typed small = condition-within r g (frame_in q within set) f typed.0 small.0
next-within r g q within set (left.New slot of next) typed small = tt
next-within r g q within set (left.Operate op args next) (decl, is, typed, more) small = each-within r g (frame_in q within set) decl.args args typed small.0
next-within r g q within set (left.Assert at f next) typed small = condition-within r g (frame_in q within set) f typed.0 small.0
next-within r g q within set (left.Choose f then_ else_) typed small = condition-within r g (frame_in q within set) f typed.0 small.0
next-within r g q within set (left.Match on arms) (d, typed, more) small = plain-within r g (frame_in q within set) on (Datatype d) typed small.0
next-within r g q within set (left.Begin next) typed small = tt
next-within r g q within set (left.End at next) typed small = tt
next-within r g q within set (left.Return at None) typed small = tt
next-within r g q within set (left.Return at (Some e)) typed small =
    let k = agreed (type_of r.program (frame_in q within set) [] e) q.result typed in
    plain-within r g (frame_in q within set) e k.0 k.1 small

-- # Readings of a state

slot-tame : (p : Prog) → Facts p → (s : State) → HasWords s → (i : ℕ) (inv : Invocation) → At s.invocations i inv → IsTypedInvocation p inv → (n : ℕ)
    → Tame p.cons 1 (slot_value (slice_get inv.slots n))
slot-tame p f s words i inv at typed n = go (slice_get inv.slots n) refl
  where
    go : (o : Option (Option Val)) → slice_get inv.slots n ≡ o → Tame p.cons 1 (slot_value o)
    go None is = false-tame p.cons 1 (no-fields p f)
    go (Some None) is = false-tame p.cons 1 (no-fields p f)
    go (Some (Some v)) is =
        let below = at-lt inv.slots n (Some v) is in
        let count = typed.counted in
        let t = at-exists typed.proc.slots n (omega arith) in
        (fits-whole p t.0 v (typed.slots n v t.0 is t.1), words-within v (words.slots i n inv v at is))

pub invocation-within : (p : Prog) → is_well_formed p ≡ true → (s : State) → IsWellFormed p s → IsTyped p s → HasWords s
    → (i : ℕ) (inv : Invocation) → At s.invocations i inv → inv.standing ≡ Running
    → (visible : ℕ → Bool) → NextWithin (proc_reading p s.universe s.calls inv.slots visible) inv.left
invocation-within p wf s formed typed words i inv at running visible =
    let f = facts p wf in
    let r = proc_reading p s.universe s.calls inv.slots visible in
    let state = typed.invocations i inv at in
    let is = formed.invocations i inv at in
    let ready = state.ready running in
    let body = (and_parts _ _ (and_parts _ _ (procedure-of p f inv.proc is.proc is.is)).0).1 in
    let whole : CodeSmall p (proc_code is.proc) = codes-small p (at_start is.proc) is.proc.body (left.Return is.proc.end None) body tt in
    let gives : GivesTame (proc_reading p s.universe s.calls inv.slots visible) = record {
      slots = slot-tame p f s words i inv at state;
      asks = asked-tame (proc_reading p s.universe s.calls inv.slots visible) f words.calls typed.calls;
      bare = no-fields p f;
    } in
    next-within (proc_reading p s.universe s.calls inv.slots visible) gives state.proc (is_some inv.tx) ready.set inv.left ready.typed
    (rest-small p (proc_code is.proc) inv.left whole (is.rest running))

pub invariant-within : (p : Prog) → is_well_formed p ≡ true → (s : State) → IsTyped p s → IsHistory s.calls
    → (n : ℕ) (inv : Inv) → At p.invs n inv → (visible : ℕ → Bool) → FoWithin (at_snapshot p s visible) [] inv.body
invariant-within p wf s typed history n inv at visible =
    let f = facts p wf in
    let invs = (and_parts _ _ (and_parts _ _ (and_parts _ _ wf).0).0).1 in
    let is = each (is_invariant p) p.invs n inv (and_parts _ _ invs).1 at in
    let both = and_parts (is_small_fo p.cons inv.body) (is_typed p in_invariant [] inv.body) is in
    let gives : GivesTame (at_snapshot p s visible) = record {
      slots = λ n. false-tame p.cons 1 (no-fields p f);
      asks = asked-tame (at_snapshot p s visible) f history typed.calls;
      bare = no-fields p f;
    } in
    condition-within (at_snapshot p s visible) gives in_invariant inv.body both.1 both.0
