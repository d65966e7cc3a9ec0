-- The code of well typed statements is typed.
use Rattle.std.proofs.Common.{◌≡◌, ℕ, Bool, true, false, ◌&&◌, ◌||◌, ◌==◌, List, [], ◌∷◌, length, Option, Some, None, slice_get, is_none, nat_lt, ltb-true, refl, sym, ◌∙◌, ap, subst, inl, inr, true≢false}
use Rattle.rp_value.specs.declared.tables.Ty.{Ty}
use Rattle.rp_value.specs.declared.tables.Ty.TheVariants.{Atom, Datatype}
use Rattle.rp_lang.specs.Types.{agree, bool_ty, fields_of}
use Rattle.rp_lang.specs.Typing.{Frame, op_args, type_of, have_types, is_typed, are_cases}
use Rattle.rp_lang.specs.Bounds.{is_small_ex}
use Rattle.rp_lang.specs.Blocks.{plain_type, is_condition, takes, take_fields, is_slot, behind, in_arm, in_atomic, st_arm_cons, is_stmt, are_stmts, are_stmt_arms}
use Rattle.rp_lang.specs.Flow.{sets, all_set, arms_set, returns, all_return, arms_return}
use Rattle.rp_lang.specs.Stmts as st
use Rattle.rp_lang.specs.Stmts.{St, Sts, no_st, also_st, StArms, no_st_arm, also_st_arm}
use Rattle.rp_lang.specs.Programs.{Proc, Prog}
use Rattle.rp_lang.specs.WellFormed.{at_start, is_procedure}
use Rattle.event_machine.specs.Code as left
use Rattle.event_machine.specs.Code.{Code, CodeArms, no_code, also_code, code, codes, code_arms, proc_code}
use Rattle.event_machine.specs.TypedStates.{frame_in, and_slot, and_slots, slots_take, CodeTyped, ArmsTyped}
use Rattle.event_machine.proofs.FormLemmas.{both_true}
use Rattle.event_machine.proofs.PlaceLemmas.{at-exists, or-cases, or-left, or-right}
use Rattle.event_machine.proofs.MoveLemmas.{and-make}
use Rattle.event_machine.proofs.ProgramFits.{outside}
use Rattle.event_machine.proofs.WiderLemmas.{Wider, given-some, agrees-wider, type-wider, have-wider, typed-wider}

-- # More slots

abbrev pub Within : (ℕ → Bool) → (ℕ → Bool) → Type 0
Within a b = (s : ℕ) → a s ≡ true → b s ≡ true

frame-wider : (q : Proc) (within : Bool) (a b : ℕ → Bool) → Within a b → Wider (frame_in q within a) (frame_in q within b)
frame-wider q within a b w = record { slots = refl; reads = refl; speaks = refl; set = w }

or-within : (a b c : ℕ → Bool) → Within a b → Within (λ s. a s || c s) (λ s. b s || c s)
or-within a b c w s h = elim (or-cases (a s) (c s) h) [ inl k ↦ or-left (b s) (c s) (w s k) | inr k ↦ or-right (b s) (c s) k ]

mutual
  pub code-wider : (p : Prog) (q : Proc) (within : Bool) (a b : ℕ → Bool) → Within a b → (c : Code) → CodeTyped p q within a c → CodeTyped p q within b c
  code-wider p q within a b w (left.Put slot e next) (h, k) = (
    agrees-wider _ (slice_get q.slots slot) _ (slice_get q.slots slot) (type-wider p _ _ (frame-wider q within a b w) [] e) (λ u x. x) h,
    code-wider p q within (and_slot a slot) (and_slot b slot) (or-within a b (λ s. slot == s) w) next k,
  )
  code-wider p q within a b w (left.Decide slot f next) (h, g, k) = (
    typed-wider p _ _ (frame-wider q within a b w) [] f h,
    g,
    code-wider p q within (and_slot a slot) (and_slot b slot) (or-within a b (λ s. slot == s) w) next k,
  )
  code-wider p q within a b w (left.New slot of next) (g, k) = (g, code-wider p q within (and_slot a slot) (and_slot b slot) (or-within a b (λ s. slot == s) w) next k)
  code-wider p q within a b w (left.Operate op args next) (decl, at, h, k) =
      (decl, at, have-wider p _ _ (frame-wider q within a b w) [] decl.args args h, code-wider p q within a b w next k)
  code-wider p q within a b w (left.Assert at f next) (h, k) = (typed-wider p _ _ (frame-wider q within a b w) [] f h, code-wider p q within a b w next k)
  code-wider p q within a b w (left.Choose f then_ else_) (h, k, l) =
      (typed-wider p _ _ (frame-wider q within a b w) [] f h, code-wider p q within a b w then_ k, code-wider p q within a b w else_ l)
  code-wider p q within a b w (left.Match on arms) (d, h, k) = (d, type-wider p _ _ (frame-wider q within a b w) [] on _ h, arms-wider p q within a b w arms k)
  code-wider p q within a b w (left.Begin next) k = code-wider p q true a b w next k
  code-wider p q within a b w (left.End at next) k = code-wider p q false a b w next k
  code-wider p q within a b w (left.Return at None) k = k
  code-wider p q within a b w (left.Return at (Some e)) k =
      agrees-wider _ q.result _ q.result (type-wider p _ _ (frame-wider q within a b w) [] e) (λ u x. x) k

  arms-wider : (p : Prog) (q : Proc) (within : Bool) (a b : ℕ → Bool) → Within a b → (arms : CodeArms) → ArmsTyped p q within a arms → ArmsTyped p q within b arms
  arms-wider p q within a b w no_code k = tt
  arms-wider p q within a b w (also_code con slots body others) (h, k, l) = (
    h,
    code-wider p q within (and_slots slots a) (and_slots slots b)
        (λ s m. elim (or-cases (is_slot s slots) (a s) m) [ inl x ↦ or-left (is_slot s slots) (b s) x | inr x ↦ or-right (is_slot s slots) (b s) (w s x) ]) body k,
    arms-wider p q within a b w others l,
  )

-- # Frames of statements

-- a frame of the procedure
pub record IsOf (q : Proc) (frame : Frame) : Type 0 where
  pub slots : frame.slots ≡ q.slots
  pub speaks : frame.speaks ≡ false
  pub result : frame.result ≡ q.result

as-code : (q : Proc) (frame : Frame) → IsOf q frame → Wider frame (frame_in q frame.reads frame.set)
as-code q frame of = record { slots = of.slots; reads = refl; speaks = of.speaks; set = λ s h. h }

plain-wider : (p : Prog) (q : Proc) (frame : Frame) → IsOf q frame → (e : _) (u : Ty) → plain_type p frame e ≡ Some u → type_of p (frame_in q frame.reads frame.set) [] e ≡ Some u
plain-wider p q frame of e u h = type-wider p frame _ (as-code q frame of) [] e u (given-some (is_small_ex e) (type_of p frame [] e) u h).1

takes-slot : (q : Proc) (frame : Frame) (slot : ℕ) (found found' : Option Ty) → IsOf q frame → ((u : Ty) → found ≡ Some u → found' ≡ Some u) → takes frame slot found ≡ true → agree found' (slice_get q.slots slot) ≡ true
takes-slot q frame slot found found' of f h =
    agrees-wider found (slice_get frame.slots slot) found' (slice_get q.slots slot) f (λ u x. ap (λ xs. slice_get xs slot) (sym of.slots) ∙ x) (both_true _ _ h).1

condition-typed : (p : Prog) (q : Proc) (frame : Frame) (f : _) → IsOf q frame → is_condition p frame f ≡ true → is_typed p (frame_in q frame.reads frame.set) [] f ≡ true
condition-typed p q frame f of h = typed-wider p frame _ (as-code q frame of) [] f (both_true _ _ h).1

fields-take : (q : Proc) (frame : Frame) → IsOf q frame → (slots : List ℕ) (fields : List Ty) → take_fields frame slots fields ≡ true → slots_take q slots fields ≡ true
fields-take q frame of [] [] h = refl
fields-take q frame of [] (field ∷ fields) h = h
fields-take q frame of (slot ∷ slots) [] h = h
fields-take q frame of (slot ∷ slots) (field ∷ fields) h =
    let both = both_true _ _ h in
    and-make (agree (Some field) (slice_get q.slots slot)) (slots_take q slots fields) (takes-slot q frame slot (Some field) (Some field) of (λ u x. x) (both_true _ _ both.0).1)
    (fields-take q frame of slots fields both.1)

a-datatype : (p : Prog) (o : Option Ty) (cons : List ℕ) → are_cases p o cons ≡ true → (d : ℕ) × (o ≡ Some (Datatype d))
a-datatype p (Some (Datatype d)) cons h = (d, refl)
a-datatype p _ cons h = absurd (true≢false (sym h))

-- # Statements

or-first : (a b c : Bool) → (b ≡ true → c ≡ true) → (a || b) ≡ true → (a || c) ≡ true
or-first a b c f h = elim (or-cases a b h) [ inl k ↦ or-left a c k | inr k ↦ or-right a c (f k) ]

and-false-left : (a b : Bool) → a ≡ false → (a && b) ≡ false
and-false-left true b h = absurd (true≢false h)
and-false-left false b h = refl

and-false-right : (a b : Bool) → b ≡ false → (a && b) ≡ false
and-false-right true b h = h
and-false-right false b h = refl

mutual
  stmt-typed : (p : Prog) (q : Proc) (frame : Frame) → IsOf q frame → (s : St) (next : Code) → is_stmt p frame s ≡ true
      → (returns s ≡ false → CodeTyped p q frame.reads (λ x. frame.set x || sets x s) next) → CodeTyped p q frame.reads frame.set (code s next)
  stmt-typed p q frame of (st.Put at slot e) next h n = (takes-slot q frame slot (plain_type p frame e) _ of (plain-wider p q frame of e) h, n refl)
  stmt-typed p q frame of (st.Decide at slot f) next h n =
      let both = both_true _ _ h in
      (condition-typed p q frame f of both.1, takes-slot q frame slot (Some bool_ty) (Some bool_ty) of (λ u x. x) both.0, n refl)
  stmt-typed p q frame of (st.New at slot a) next h n = (takes-slot q frame slot (Some (Atom a)) (Some (Atom a)) of (λ u x. x) (both_true _ _ h).0, n refl)
  stmt-typed p q frame of (st.Operate at op args) next h n =
      let typed = both_true _ _ h in
      let small = both_true _ _ typed.0 in
      let within = both_true _ _ small.0 in
      let found = at-exists p.ops op (ltb-true op (length p.ops) within.1) in (
        found.0,
        found.1,
        ap (λ o. have_types p (frame_in q frame.reads frame.set) [] (op_args o) args) (sym found.1)
            ∙ have-wider p frame _ (as-code q frame of) [] (op_args (slice_get p.ops op)) args typed.1,
        code-wider p q frame.reads _ frame.set (λ s m. elim (or-cases (frame.set s) false m) [ inl k ↦ k | inr none ↦ absurd (true≢false (sym none)) ]) next (n refl),
      )
  stmt-typed p q frame of (st.If at f then_ else_) next h n =
      let both = both_true _ _ h in
      let first = both_true _ _ both.0 in (
        condition-typed p q frame f of first.0,
        stmts-typed p q frame of then_ next first.1
            (λ r. code-wider p q frame.reads _ _ (λ s m. or-first (frame.set s) (all_set s then_ && all_set s else_) (all_set s then_) (λ k. (both_true _ _ k).0) m) next (n (and-false-left _ _ r))),
        stmts-typed p q frame of else_ next both.1
            (λ r. code-wider p q frame.reads _ _ (λ s m. or-first (frame.set s) (all_set s then_ && all_set s else_) (all_set s else_) (λ k. (both_true _ _ k).1) m) next (n (and-false-right _ _ r))),
      )
  stmt-typed p q frame of (st.Match at on arms) next h n =
      let both = both_true _ _ h in
      let d = a-datatype p (plain_type p frame on) (st_arm_cons arms) both.0 in
      (d.0, plain-wider p q frame of on _ d.1, arms-typed p q frame of arms next both.1 n)
  stmt-typed p q frame of (st.Atomic at body) next h n =
      let both = both_true _ _ h in
      let out = outside frame.reads both.0 in
      stmts-typed p q (in_atomic frame) (record { slots = of.slots; speaks = of.speaks; result = of.result }) body (left.End at next) both.1
      (λ r. subst (λ b. CodeTyped p q b (λ x. frame.set x || all_set x body) next) out (n r))
  stmt-typed p q frame of (st.Assert at f) next h n = (
    condition-typed p q frame f of h,
    code-wider p q frame.reads _ frame.set (λ s m. elim (or-cases (frame.set s) false m) [ inl k ↦ k | inr none ↦ absurd (true≢false (sym none)) ]) next (n refl),
  )
  stmt-typed p q frame of (st.Return at) next h n = ap is_none (sym of.result) ∙ (both_true _ _ h).1
  stmt-typed p q frame of (st.ReturnWith at e) next h n =
      agrees-wider (plain_type p frame e) frame.result _ q.result (plain-wider p q frame of e) (λ u x. sym of.result ∙ x) (both_true _ _ h).1

  pub stmts-typed : (p : Prog) (q : Proc) (frame : Frame) → IsOf q frame → (ss : Sts) (next : Code) → are_stmts p frame ss ≡ true
      → (all_return ss ≡ false → CodeTyped p q frame.reads (λ x. frame.set x || all_set x ss) next) → CodeTyped p q frame.reads frame.set (codes ss next)
  stmts-typed p q frame of no_st next h n =
      code-wider p q frame.reads _ frame.set (λ s m. elim (or-cases (frame.set s) false m) [ inl k ↦ k | inr none ↦ absurd (true≢false (sym none)) ]) next (n refl)
  stmts-typed p q frame of (also_st s rest) next h n =
      let both = both_true _ _ h in
      stmt-typed p q frame of s (codes rest next) (both_true _ _ both.0).1
      (λ r. stmts-typed p q (behind s frame) (record { slots = of.slots; speaks = of.speaks; result = of.result }) rest next both.1
      (λ r'. code-wider p q frame.reads _ _ (λ x m. elim (or-cases (frame.set x) (sets x s || all_set x rest) m) [
        | inl k ↦ or-left (frame.set x || sets x s) (all_set x rest) (or-left (frame.set x) (sets x s) k)
        | inr k ↦ elim (or-cases (sets x s) (all_set x rest) k) [
          | inl l ↦ or-left (frame.set x || sets x s) (all_set x rest) (or-right (frame.set x) (sets x s) l)
          | inr l ↦ or-right (frame.set x || sets x s) (all_set x rest) l
        ]
      ]) next (n (ap (λ b. b || all_return rest) r ∙ r'))))

  arms-typed : (p : Prog) (q : Proc) (frame : Frame) → IsOf q frame → (arms : StArms) (next : Code) → are_stmt_arms p frame arms ≡ true
      → (arms_return arms ≡ false → CodeTyped p q frame.reads (λ x. frame.set x || arms_set x arms) next) → ArmsTyped p q frame.reads frame.set (code_arms arms next)
  arms-typed p q frame of no_st_arm next h n = tt
  arms-typed p q frame of (also_st_arm con slots body rest) next h n =
      let both = both_true _ _ h in
      let first = both_true _ _ both.0 in (
        fields-take q frame of slots (fields_of p.cons con) first.0,
        stmts-typed p q (in_arm slots frame) (record { slots = of.slots; speaks = of.speaks; result = of.result }) body next first.1
            (λ r. code-wider p q frame.reads _ _ (λ x m. elim (or-cases (frame.set x) (all_set x body && arms_set x rest) m) [
              | inl k ↦ or-left (is_slot x slots || frame.set x) (all_set x body) (or-right (is_slot x slots) (frame.set x) k)
              | inr k ↦ or-right (is_slot x slots || frame.set x) (all_set x body) (both_true _ _ k).0
            ]) next (n (and-false-left _ _ r))),
        arms-typed p q frame of rest next both.1
            (λ r. code-wider p q frame.reads _ _ (λ x m. or-first (frame.set x) (all_set x body && arms_set x rest) (arms_set x rest) (λ k. (both_true _ _ k).1) m) next (n (and-false-right _ _ r))),
      )

-- the code of a procedure is typed where its parameters are set
pub proc-typed : (p : Prog) (q : Proc) → is_procedure p q ≡ true → CodeTyped p q false (λ s. nat_lt s (length q.params)) (proc_code q)
proc-typed p q h =
    let both = both_true _ _ h in
    let body = both_true _ _ both.0 in
    stmts-typed p q (at_start q) (record { slots = refl; speaks = refl; result = refl }) q.body (left.Return q.end None) body.1
    (λ r. elim (or-cases (is_none q.result) (all_return q.body) both.1) [ inl k ↦ k | inr k ↦ absurd (true≢false (sym k ∙ r)) ])
