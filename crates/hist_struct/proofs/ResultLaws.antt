-- ResultsStay and ArgumentsWereResults hold in the structure of every step.
use Rattle.std.proofs.Common.{◌≡◌, ℕ, ◌<◌, true, length, nat_lt, refl, ap, ap₂, sym, ◌∙◌, subst, true≢false, arith, slice_get}
use Rattle.std.specs.declared.option.Option.{Option}
use Rattle.std.specs.declared.option.Option.TheVariants.{None, Some}
use Rattle.rp_value.specs.declared.tables.Ty.{Ty}
use Rattle.rp_value.specs.Values.{Val, Atom}
use Rattle.rp_lang.specs.Programs.{Prog, Proc}
use Rattle.event_machine.specs.Machine.{Standing, Running, Returned, Failed, Invocation, result_of, stands_in}
use Rattle.event_machine.specs.WellFormed.{At, Inside}
use Rattle.event_machine.specs.TypedStates.{IsTypedInvocation, result_fits}
use Rattle.event_machine.proofs.PlaceLemmas.{at-lt, at-one, at-exists, any-found}
use Rattle.rp_logic.specs.Signatures.{Signature, is_plain}
use Rattle.rp_logic.specs.Elements.{Elem, Point, Made, no_elem, also_elem, same_elem}
use Rattle.rp_logic.specs.Structures.{is_related}
use Rattle.std.proofs.lemmas.Bool.{and_from}
use Rattle.rp_logic.proofs.SortLaws.{no}
use Rattle.rp_logic.proofs.ElementLaws.{same-self}
use Rattle.rp_symbols.specs.Numbers.{inv_sort, info_fn, info_con, unreturned_con, outcome_con}
use Rattle.crdt_enc.specs.Elements.{elem_of, elems_of}
use Rattle.hist_struct.specs.Tables.{two_points}
use Rattle.hist_struct.proofs.TableLaws.{in-table, pairs-at, found-pair}
use Rattle.hist_struct.specs.Steps.{Step, IsStep}
use Rattle.hist_struct.proofs.StepPrograms.{IsProgram}
use Rattle.hist_struct.specs.Structure.{IsSig, meaning_of, info_elem, outcome_elem, result_elem, grid_relation, holds_id, params_of, returns_id}
use Rattle.rp_symbols.specs.Numbers.{id_rel, old_result_fn, new_result_fn}
use Rattle.crdt_enc.specs.FitsParts.{Is, value_at}
use Rattle.hist_struct.specs.Conditions.{Rel, Differ, IsBuilt, values_of, ResultsStay, ArgumentsWereResults}
use Rattle.hist_struct.proofs.CallFacts.{lt-true}
use Rattle.hist_struct.proofs.MoveFacts.{Kept, kept}
use Rattle.hist_struct.proofs.TableFacts.{each-inv, id-rel-at}

-- # Results of typed invocations

abbrev none_elem : Prog → Elem
none_elem p = Made (unreturned_con p) no_elem

not-none : (p : Prog) (A : Type 0) → Differ (none_elem p) (none_elem p) → A
not-none p A d = absurd (true≢false (sym (same-self (none_elem p)) ∙ d))

fits-none : (p : Prog) (o : Option Ty) → result_fits p o None ≡ true → 0 ≡ values_of o
fits-none p None h = refl
fits-none p (Some ty) h = no h

fits-some : (p : Prog) (o : Option Ty) (v : Val) → result_fits p o (Some v) ≡ true → 1 ≡ values_of o
fits-some p None v h = no h
fits-some p (Some ty) v h = refl

result-built : (p : Prog) (inv : Invocation) (t : IsTypedInvocation p inv) (n : ℕ) (q : Proc) → At p.procs n q → inv.proc ≡ n
    → Differ (result_elem p (Some inv)) (none_elem p) → IsBuilt (outcome_con p n) (values_of q.result) (result_elem p (Some inv))
result-built p inv t n q a e d = go inv.standing refl d
  where
    one : t.proc ≡ q
    one = at-one p.procs n t.proc q (subst (λ k. At p.procs k t.proc) e t.is) a

    go : (st : Standing) → inv.standing ≡ st → Differ (outcome_elem p inv.proc (result_of st)) (none_elem p)
        → IsBuilt (outcome_con p n) (values_of q.result) (outcome_elem p inv.proc (result_of st))
    go Running s d = not-none p _ d
    go Failed s d = not-none p _ d
    go (Returned None) s d = (no_elem, ap (λ k. Made (outcome_con p k) no_elem) e, fits-none p t.proc.result (t.result None s) ∙ ap (λ (x : Proc). values_of x.result) one)
    go (Returned (Some v)) s d =
        (also_elem (elem_of v) no_elem, ap (λ k. Made (outcome_con p k) (also_elem (elem_of v) no_elem)) e, fits-some p t.proc.result v (t.result (Some v) s) ∙ ap (λ (x : Proc). values_of x.result) one)

module _ (S : Signature) (g : IsSig S) (x : Step) (keeps : IsProgram x.program) (m : IsStep x) where
  its : Kept x
  its = kept x keeps.formed m

  pub info-at : (i : ℕ) (inv : Invocation) → At x.new.invocations i inv → value_at (meaning_of S x) info_fn (Point i) ≡ Made (info_con x.program inv.proc) (elems_of inv.args)
  info-at i inv a = in-table (λ i. info_elem x.program (slice_get x.new.invocations i)) (length x.new.invocations) i (at-lt x.new.invocations i inv a) ∙ ap (info_elem x.program) a

  pub new-at : (i : ℕ) → i < length x.new.invocations → value_at (meaning_of S x) new_result_fn (Point i) ≡ result_elem x.program (slice_get x.new.invocations i)
  new-at i l = in-table (λ i. result_elem x.program (slice_get x.new.invocations i)) (length x.new.invocations) i l

  pub old-at : (i : ℕ) → i < length x.new.invocations → value_at (meaning_of S x) old_result_fn (Point i) ≡ result_elem x.program (slice_get x.old.invocations i)
  old-at i l = in-table (λ i. result_elem x.program (slice_get x.old.invocations i)) (length x.new.invocations) i l

  proc-of : (i n k : ℕ) (inv : Invocation) → At x.new.invocations i inv → IsBuilt (info_con x.program n) k (value_at (meaning_of S x) info_fn (Point i)) → inv.proc ≡ n
  proc-of i n k inv a b =
      let e = sym (info-at i inv a) ∙ b.1 in
      let cons : info_con x.program inv.proc ≡ info_con x.program n = cc in
      omega (arith, cons)

  pub results_stay-met : ResultsStay x.program (meaning_of S x)
  results_stay-met = record {
    new = record {
      fit = λ n q aq. each-inv S x g _ (λ i l b d.
          let a = at-exists x.new.invocations i l in
          let e = new-at i l ∙ ap (result_elem x.program) a.1 in
          subst (IsBuilt (outcome_con x.program n) (values_of q.result)) (sym e)
          (result-built x.program a.0 (m.after.typed.invocations i a.0 a.1) n q aq (proc-of i n (length q.params) a.0 a.1 b) (subst (λ y. Differ y (none_elem x.program)) e d)));
    };
    old = record {
      fit = λ n q aq. each-inv S x g _ (λ i l b d.
          let a = at-exists x.new.invocations i l in
          subst (IsBuilt (outcome_con x.program n) (values_of q.result)) (sym (old-at i l))
          (before i n q a.0 a.1 aq (proc-of i n (length q.params) a.0 a.1 b) (slice_get x.old.invocations i) refl (subst (λ y. Differ y (none_elem x.program)) (old-at i l) d)));
    };
    stays = each-inv S x g _ (λ i l d.
        let a = at-exists x.new.invocations i l in
        ap₂ same_elem (old-at i l) (new-at i l ∙ ap (result_elem x.program) a.1)
        ∙ stays i a.0 a.1 (slice_get x.old.invocations i) refl (subst (λ y. Differ y (none_elem x.program)) (old-at i l) d));
  }
    where
      before : (i n : ℕ) (q : Proc) (inv : Invocation) → At x.new.invocations i inv → At x.program.procs n q → inv.proc ≡ n → (o : Option Invocation) → slice_get x.old.invocations i ≡ o
          → Differ (result_elem x.program o) (none_elem x.program) → IsBuilt (outcome_con x.program n) (values_of q.result) (result_elem x.program o)
      before i n q inv a aq e None is d = not-none x.program _ d
      before i n q inv a aq e (Some was) is d =
          let w = its.grows.invs i was is in
          result-built x.program was (m.before.typed.invocations i was is) n q aq (w.2.proc ∙ (ap (λ (y : Invocation). y.proc) (at-one x.new.invocations i w.0 inv w.1 a) ∙ e)) d

      stays : (i : ℕ) (inv : Invocation) → At x.new.invocations i inv → (o : Option Invocation) → slice_get x.old.invocations i ≡ o
          → Differ (result_elem x.program o) (none_elem x.program) → same_elem (result_elem x.program o) (result_elem x.program (Some inv)) ≡ true
      stays i inv a None is d = not-none x.program _ d
      stays i inv a (Some was) is d =
          let w = its.grows.invs i was is in
          let same : w.0 ≡ inv = at-one x.new.invocations i w.0 inv w.1 a in
          let st : inv.standing ≡ was.standing =
          ap (λ (y : Invocation). y.standing) (sym same)
          ∙ w.2.ended (λ r. not-none x.program ⊥ (subst (λ (s : Standing). Differ (outcome_elem x.program was.proc (result_of s)) (none_elem x.program)) r d)) in
          let pr : was.proc ≡ inv.proc = w.2.proc ∙ ap (λ (y : Invocation). y.proc) same in
          let e : result_elem x.program (Some was) ≡ result_elem x.program (Some inv) = ap₂ (λ n (s : Standing). outcome_elem x.program n (result_of s)) pr (sym st) in
          ap (same_elem (result_elem x.program (Some was))) (sym e) ∙ same-self (result_elem x.program (Some was))

  pub is-inv : (i : ℕ) → i < length x.new.invocations → Is (meaning_of S x) inv_sort (Point i)
  is-inv i l = and_from (is_plain (slice_get S.sorts 1)) (nat_lt i (length x.new.invocations)) (ap (λ sorts. is_plain (slice_get sorts 1)) g.are) (lt-true i (length x.new.invocations) l)

  pub arguments_were_results-met : ArgumentsWereResults x.program (meaning_of S x)
  arguments_were_results-met = record {
    known = λ ty id i ii n in_ r k.
        let f = found-pair (λ i n. holds_id ty n (params_of (slice_get x.new.invocations i))) x.new.universe (length x.new.invocations) (also_elem i (also_elem n no_elem))
        (sym (ap (λ o. is_related o (also_elem i (also_elem n no_elem))) (id-rel-at x ty 1 id (omega arith))) ∙ r) in
        let c = f.0 in
        let d = f.1 in
        let a = at-exists x.new.invocations c f.4 in
        let st : Inside (Atom ty d) a.0.args = sym (ap (λ o. holds_id ty d (params_of o)) a.1) ∙ f.3 in
        let known = its.args c a.0 (Atom ty d) a.1 st id in
        let j = any-found (λ (inv : Invocation). stands_in (Atom ty d) inv.standing) x.old.invocations known in
        let w = its.grows.invs j.0 j.1 j.2 in
        let l = at-lt x.new.invocations j.0 w.0 w.1 in
        let put : is_related (Some (grid_relation (λ i n. returns_id ty n (slice_get x.old.invocations i)) (length x.new.invocations) x.new.universe)) (two_points j.0 d) ≡ true =
        pairs-at (λ i n. returns_id ty n (slice_get x.old.invocations i)) x.new.universe (length x.new.invocations) j.0 d l f.5 ∙ (ap (returns_id ty d) j.2 ∙ j.3) in
        let here : Rel (meaning_of S x) (id_rel x.program ty 2) (Point j.0) (Point d) = ap (λ o. is_related o (two_points j.0 d)) (id-rel-at x ty 2 id (omega arith)) ∙ put in
        let e : n ≡ Point d = let q = f.2 in cc in
        k (Point j.0) (is-inv j.0 l) (subst (λ y. Rel (meaning_of S x) (id_rel x.program ty 2) (Point j.0) y) (sym e) here);
  }
