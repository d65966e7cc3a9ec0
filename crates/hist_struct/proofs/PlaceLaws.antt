-- PlacesAreTold holds in the structure of every step.
use Rattle.std.proofs.Common.{◌≡◌, ℕ, zero, suc, ◌<◌, Bool, true, false, List, [], ◌∷◌, length, refl, ap, sym, ◌∙◌, subst, eqb-true, ltb-true, arith, slice_get}
use Rattle.std.specs.List.{list_any}
use Rattle.std.specs.declared.option.Option.{Option}
use Rattle.std.specs.declared.option.Option.TheVariants.{None, Some}
use Rattle.std.proofs.lemmas.Option.{none-some, same_Some}
use Rattle.rp_value.specs.declared.tables.Ty.{Ty}
use Rattle.rp_value.specs.declared.tables.Ty.TheVariants as ty
use Rattle.rp_value.specs.Values as val
use Rattle.rp_value.specs.Values.{Val, Vals, Atom, no_val, also_val}
use Rattle.rp_lang.specs.declared.op.OpDecl.{OpDecl}
use Rattle.rp_lang.specs.Programs.{Prog, Proc}
use Rattle.crdt_defs.specs.Calls.{Call}
use Rattle.crdt_defs.specs.SameValues.{same_val}
use Rattle.crdt_defs.proofs.SameLemmas.{same_val_itself}
use Rattle.crdt_defs.specs.Fitting.{fits, all_fit, fields_fit, fields_of, cons_to, atoms, atoms_in_fields, all_atoms, names_ids}
use Rattle.event_machine.specs.Machine.{Standing, Running, Returned, Failed, Invocation, result_of, stands_in}
use Rattle.event_machine.specs.WellFormed.{At}
use Rattle.event_machine.specs.TypedStates.{result_fits}
use Rattle.event_machine.proofs.PlaceLemmas.{at-lt, at-one, at-exists, or-left}
use Rattle.event_machine.proofs.ReadLemmas.{any-left, any-right}
use Rattle.rp_logic.specs.Signatures.{Signature}
use Rattle.rp_logic.specs.Elements.{Elem, Point, Made, no_elem}
use Rattle.rp_logic.specs.Structures.{is_related, nth_elem}
use Rattle.std.proofs.lemmas.Bool.{and_parts, and_from}
use Rattle.rp_logic.proofs.SortLaws.{no}
use Rattle.rp_symbols.specs.Numbers.{op_con, info_con, unreturned_con, outcome_con}
use Rattle.crdt_enc.specs.Elements.{elem_of, elems_in, elems_of}
use Rattle.hist_struct.specs.Tables.{two_points}
use Rattle.hist_struct.proofs.TableLaws.{in-table, pairs-at}
use Rattle.hist_struct.specs.Steps.{Step, IsStep}
use Rattle.hist_struct.proofs.StepPrograms.{IsProgram}
use Rattle.hist_struct.specs.Structure.{IsSig, meaning_of, op_elem, info_elem, outcome_elem, result_elem, grid_relation, holds_id, args_of, params_of, returns_id}
use Rattle.rp_symbols.specs.Numbers.{id_rel}
use Rattle.hist_struct.specs.Defaults.{most_parts}
use Rattle.hist_struct.specs.Conditions.{Rel, Fields, StandsIn, StandsAt, count, PlacesAreTold}
use Rattle.rp_symbols.specs.Signatures.{result_list}
use Rattle.hist_struct.proofs.MarkFacts.{and-nil}
use Rattle.hist_struct.proofs.MoveFacts.{Kept, kept}
use Rattle.hist_struct.proofs.TableFacts.{each-call, each-inv, id-rel-at}

-- # In values

-- y is an identifier of type n that is among these
abbrev Found : Prog → List Val → ℕ → Elem → Type 0
Found p vs n y = (k : ℕ) × (y ≡ Point k) × (list_any (same_val (Atom n k)) vs ≡ true) × (names_ids (slice_get p.types.atoms n) ≡ true)

record FieldAt (p : Prog) (t : Ty) (e : Elem) (within : List Val) : Type 0 where
  val : Val
  fit : fits p t val ≡ true
  is : e ≡ elem_of val
  among : (x : Val) → list_any (same_val x) (atoms val) ≡ true → list_any (same_val x) within ≡ true

field-at : (p : Prog) (tys : List Ty) (vs : Vals) (i : ℕ) (t : Ty) → fields_fit p tys vs ≡ true → At tys i t → FieldAt p t (nth_elem (elems_in vs) i) (atoms_in_fields vs)
field-at p [] vs i t h a = absurd (none-some t a)
field-at p (s ∷ tys) no_val i t h a = no h
field-at p (s ∷ tys) (also_val v vs) zero t h a =
    let b = and_parts (fits p s v) (fields_fit p tys vs) h in
    record { val = v; fit = ap (λ z. fits p z v) (sym (same_Some s t a)) ∙ b.0; is = refl; among = λ x k. any-left x (atoms v) (atoms_in_fields vs) k }
field-at p (s ∷ tys) (also_val v vs) (suc i) t h a =
    let b = and_parts (fits p s v) (fields_fit p tys vs) h in
    let r = field-at p tys vs i t b.1 a in
    record { val = r.val; fit = r.fit; is = r.is; among = λ x k. any-right x (atoms v) (atoms_in_fields vs) (r.among x k) }

arg-at : (p : Prog) (tys : List Ty) (vs : List Val) (i : ℕ) (t : Ty) → all_fit p tys vs ≡ true → At tys i t → FieldAt p t (nth_elem (elems_of vs) i) (all_atoms vs)
arg-at p [] vs i t h a = absurd (none-some t a)
arg-at p (s ∷ tys) [] i t h a = no h
arg-at p (s ∷ tys) (v ∷ vs) zero t h a =
    let b = and_parts (fits p s v) (all_fit p tys vs) h in
    record { val = v; fit = ap (λ z. fits p z v) (sym (same_Some s t a)) ∙ b.0; is = refl; among = λ x k. any-left x (atoms v) (all_atoms vs) k }
arg-at p (s ∷ tys) (v ∷ vs) (suc i) t h a =
    let b = and_parts (fits p s v) (all_fit p tys vs) h in
    let r = arg-at p tys vs i t b.1 a in
    record { val = r.val; fit = r.fit; is = r.is; among = λ x k. any-right x (atoms v) (all_atoms vs) (r.among x k) }

-- what stands in an element of a value stands in the value
abbrev Holds : Prog → (Ty → Elem → ℕ → Elem → Type 0) → Type 0
Holds p Rec = (t : Ty) (v : Val) (n : ℕ) (y : Elem) → fits p t v ≡ true → Rec t (elem_of v) n y → Found p (atoms v) n y

of-field : (p : Prog) (Rec : Ty → Elem → ℕ → Elem → Type 0) → Holds p Rec → (t : Ty) (e : Elem) (within : List Val) → FieldAt p t e within → (n : ℕ) (y : Elem) → Rec t e n y → Found p within n y
of-field p Rec is t e within f n y r =
    let k = is t f.val n y f.fit (subst (λ z. Rec t z n y) f.is r) in (k.0, k.1, f.among (Atom n k.0) k.2, k.3)

in-holds : (p : Prog) (Rec : Ty → Elem → ℕ → Elem → Type 0) → Holds p Rec → Holds p (StandsIn p Rec)
in-holds p Rec is (ty.Atom a) (val.Atom of k) n y h s =
    let e : n ≡ of = sym s.1 ∙ sym (eqb-true of a h) in (
      k,
      sym s.2,
      or-left (same_val (Atom n k) (Atom of k)) false (ap (λ z. same_val (Atom z k) (Atom of k)) e ∙ same_val_itself (Atom of k)),
      subst (λ z. names_ids (slice_get p.types.atoms z) ≡ true) s.1 s.0,
    )
in-holds p Rec is (ty.Atom a) (val.Int z) n y h s = no h
in-holds p Rec is (ty.Atom a) (val.Str z) n y h s = no h
in-holds p Rec is (ty.Atom a) (val.Con c args) n y h s = no h
in-holds p Rec is (ty.Atom a) (val.Call c) n y h s = no h
in-holds p Rec is (ty.Atom a) (val.Inv c) n y h s = no h
in-holds p Rec is (ty.Datatype d) (val.Con con args) n y h s =
    let f = s.3 in
    let made : Made con (elems_in args) ≡ Made s.1 f.0 = f.1 in
    let c : con ≡ s.1 = cc in
    let es : elems_in args ≡ f.0 = cc in
    let fit = (and_parts (cons_to d (slice_get p.cons.cons con)) (fields_fit p (fields_of (slice_get p.cons.cons con)) args) h).1 in
    let at = field-at p (fields_of (slice_get p.cons.cons con)) args f.3 f.4 fit (subst (λ z. At (fields_of (slice_get p.cons.cons z)) f.3 f.4) (sym c) f.5) in
    of-field p Rec is f.4 (nth_elem (elems_in args) f.3) (atoms_in_fields args) at n y (subst (λ z. Rec f.4 (nth_elem z f.3) n y) (sym es) f.6)
in-holds p Rec is (ty.Datatype d) (val.Int z) n y h s = no h
in-holds p Rec is (ty.Datatype d) (val.Str z) n y h s = no h
in-holds p Rec is (ty.Datatype d) (val.Atom of k) n y h s = no h
in-holds p Rec is (ty.Datatype d) (val.Call c) n y h s = no h
in-holds p Rec is (ty.Datatype d) (val.Inv c) n y h s = no h
in-holds p Rec is ty.Int v n y h s = absurd s
in-holds p Rec is ty.Str v n y h s = absurd s
in-holds p Rec is ty.Call v n y h s = absurd s
in-holds p Rec is ty.Inv v n y h s = absurd s
in-holds p Rec is ty.Operation v n y h s = absurd s
in-holds p Rec is ty.Info v n y h s = absurd s
in-holds p Rec is ty.Outcome v n y h s = absurd s

at-holds : (p : Prog) (fuel : ℕ) → Holds p (StandsAt p fuel)
at-holds p zero t v n y h s = in-holds p (λ t e n y. ⊥) (λ t v n y h s. absurd s) t v n y h s
at-holds p (suc fuel) t v n y h s = in-holds p (StandsAt p fuel) (at-holds p fuel) t v n y h s

-- in the arguments of an operation or of an invocation
in-args : (p : Prog) (con con' : ℕ) (tys : List Ty) (vs : List Val) (e : Elem) (n : ℕ) (y : Elem) → e ≡ Made con (elems_of vs) → (con ≡ con' → all_fit p tys vs ≡ true)
    → Fields (StandsAt p most_parts) con' tys e n y → Found p (all_atoms vs) n y
in-args p con con' tys vs e n y is fit f =
    let made : Made con (elems_of vs) ≡ Made con' f.0 = sym is ∙ f.1 in
    let c : con ≡ con' = cc in
    let es : elems_of vs ≡ f.0 = cc in
    of-field p (StandsAt p most_parts) (at-holds p most_parts) f.4 (nth_elem (elems_of vs) f.3) (all_atoms vs) (arg-at p tys vs f.3 f.4 (fit c) f.5) n y
    (subst (λ z. StandsAt p most_parts f.4 (nth_elem z f.3) n y) (sym es) f.6)

one-fits : (p : Prog) (o : Option Ty) (v : Val) → result_fits p o (Some v) ≡ true → all_fit p (result_list o) (v ∷ []) ≡ true
one-fits p None v h = no h
one-fits p (Some t) v h = and_from (fits p t v) true h refl

-- # In the structure

module _ (S : Signature) (g : IsSig S) (x : Step) (keeps : IsProgram x.program) (m : IsStep x) where
  its : Kept x
  its = kept x keeps.formed m

  put-grid : (f : ℕ → ℕ → Bool) (rows c n kind k : ℕ) (y : Elem) → slice_get (meaning_of S x).structure.rels (id_rel x.program n kind) ≡ Some (grid_relation f rows x.new.universe)
      → c < rows → k < x.new.universe → y ≡ Point k → f c k ≡ true → Rel (meaning_of S x) (id_rel x.program n kind) (Point c) y
  put-grid f rows c n kind k y is lc lk e h =
      subst (λ z. Rel (meaning_of S x) (id_rel x.program n kind) (Point c) z) (sym e)
      (ap (λ o. is_related o (two_points c k)) is ∙ (pairs-at f x.new.universe rows c k lc lk ∙ h))

  pub places_are_told-met : PlacesAreTold x.program (meaning_of S x)
  places_are_told-met = record {
    ops = λ o decl ao. each-call S x g _ (λ c lc n y s.
        let a = at-exists x.new.calls c lc in
        let e = in-table (λ c. op_elem x.program (slice_get x.new.calls c)) (length x.new.calls) c lc ∙ ap (op_elem x.program) a.1 in
        let f = in-args x.program (op_con x.program a.0.op) (op_con x.program o) decl.args a.0.args _ n y e (λ q. op-fits c a.0 o decl a.1 ao (omega (arith, q))) s in
        put-grid (λ c k. holds_id n k (args_of (slice_get x.new.calls c))) (length x.new.calls) c n 0 f.0 y (id-rel-at x n 0 f.3 (omega arith)) lc
        (ltb-true f.0 x.new.universe (m.after.formed.known.in_calls c (Atom n f.0) a.0 a.1 f.2).below) f.1 (ap (λ o. holds_id n f.0 (args_of o)) a.1 ∙ f.2));
    infos = λ k q ak. each-inv S x g _ (λ i li n y s.
        let a = at-exists x.new.invocations i li in
        let e = in-table (λ i. info_elem x.program (slice_get x.new.invocations i)) (length x.new.invocations) i li ∙ ap (info_elem x.program) a.1 in
        let f = in-args x.program (info_con x.program a.0.proc) (info_con x.program k) q.params a.0.args _ n y e (λ e. params-fit i a.0 k q a.1 ak (omega (arith, e))) s in
        put-grid (λ i k. holds_id n k (params_of (slice_get x.new.invocations i))) (length x.new.invocations) i n 1 f.0 y (id-rel-at x n 1 f.3 (omega arith)) li
        (ltb-true f.0 x.new.universe (m.after.formed.known.in_args i (Atom n f.0) a.0 a.1 f.2).below) f.1 (ap (λ o. holds_id n f.0 (params_of o)) a.1 ∙ f.2));
    results = λ k q ak. each-inv S x g _ (λ i li n y s.
        let e = in-table (λ i. result_elem x.program (slice_get x.old.invocations i)) (length x.new.invocations) i li in
        in-result i k q ak n y li (slice_get x.old.invocations i) refl (subst (λ z. Fields (StandsAt x.program most_parts) (outcome_con x.program k) (result_list q.result) z n y) e s));
  }
    where
      op-fits : (c : ℕ) (call : Call) (o : ℕ) (decl : OpDecl) → At x.new.calls c call → At x.program.ops o decl → call.op ≡ o → all_fit x.program decl.args call.args ≡ true
      op-fits c call o decl a ao q =
          let t = m.after.typed.calls c call a in
          subst (λ (d : OpDecl). all_fit x.program d.args call.args ≡ true) (at-one x.program.ops o t.0 decl (subst (λ z. At x.program.ops z t.0) q t.1) ao) t.2

      params-fit : (i : ℕ) (inv : Invocation) (k : ℕ) (q : Proc) → At x.new.invocations i inv → At x.program.procs k q → inv.proc ≡ k → all_fit x.program q.params inv.args ≡ true
      params-fit i inv k q a ak e =
          let t = m.after.formed.invocations i inv a in
          subst (λ (d : Proc). all_fit x.program d.params inv.args ≡ true) (at-one x.program.procs k t.proc q (subst (λ z. At x.program.procs z t.proc) e t.is) ak) t.args

      no-outcome : (k : ℕ) (A : Type 0) (tys : List Ty) (n : ℕ) (y : Elem) → Fields (StandsAt x.program most_parts) (outcome_con x.program k) tys (Made (unreturned_con x.program) no_elem) n y → A
      no-outcome k A tys n y s = let made = s.1 in let c : unreturned_con x.program ≡ outcome_con x.program k = cc in absurd (omega (arith, c))

      in-result : (i k : ℕ) (q : Proc) → At x.program.procs k q → (n : ℕ) (y : Elem) → i < length x.new.invocations → (o : Option Invocation) → slice_get x.old.invocations i ≡ o
          → Fields (StandsAt x.program most_parts) (outcome_con x.program k) (result_list q.result) (result_elem x.program o) n y
          → Rel (meaning_of S x) (id_rel x.program n 2) (Point i) y
      in-result i k q ak n y li None is s = no-outcome k _ (result_list q.result) n y s
      in-result i k q ak n y li (Some inv) is s = go inv.standing refl s
        where
          fit : (v : Val) → inv.standing ≡ Returned (Some v) → inv.proc ≡ k → all_fit x.program (result_list q.result) (v ∷ []) ≡ true
          fit v st e =
              let t = m.before.typed.invocations i inv is in
              let r = subst (λ (d : Proc). result_fits x.program d.result (Some v) ≡ true) (at-one x.program.procs k t.proc q (subst (λ z. At x.program.procs z t.proc) e t.is) ak) (t.result (Some v) st) in
              one-fits x.program q.result v r

          go : (st : Standing) → inv.standing ≡ st → Fields (StandsAt x.program most_parts) (outcome_con x.program k) (result_list q.result) (outcome_elem x.program inv.proc (result_of st)) n y
              → Rel (meaning_of S x) (id_rel x.program n 2) (Point i) y
          go Running e s = no-outcome k _ (result_list q.result) n y s
          go Failed e s = no-outcome k _ (result_list q.result) n y s
          go (Returned None) e s =
              let made = s.1 in
              let es : no_elem ≡ s.0 = cc in
              let c : 0 ≡ count s.0 = ap count es in
              let d = s.2 in
              let l = at-lt (result_list q.result) s.3 s.4 s.5 in
              absurd (omega (arith, c, d, l))
          go (Returned (Some v)) e s =
              let f = in-args x.program (outcome_con x.program inv.proc) (outcome_con x.program k) (result_list q.result) (v ∷ []) _ n y refl (λ q. fit v e (omega (arith, q))) s in
              let st : stands_in (Atom n f.0) inv.standing ≡ true = ap (stands_in (Atom n f.0)) e ∙ subst (λ vs. list_any (same_val (Atom n f.0)) vs ≡ true) (and-nil (atoms v)) f.2 in
              let low = ltb-true f.0 x.old.universe (m.before.formed.known.in_results i (Atom n f.0) inv is st).below in
              put-grid (λ i k. returns_id n k (slice_get x.old.invocations i)) (length x.new.invocations) i n 2 f.0 y (id-rel-at x n 2 f.3 (omega arith)) li
              (subst (λ u. f.0 < u) its.grows.universe low) f.1 (ap (returns_id n f.0) is ∙ st)
