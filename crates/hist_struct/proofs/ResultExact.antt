-- ResultsStay and ArgumentsWereResults: the formulas are true exactly where the conditions hold.
use Rattle.std.proofs.Common.{◌≡◌, ℕ, zero, suc, ◌+◌, ◌-◌, List, [], ◌∷◌, ◌++◌, length, map, if◌then◌else◌, slice_get, Bool, true, false, ◌↔◌, sym, refl, ap, ◌∙◌, subst, true≢false, arith}
use Rattle.std.proofs.lemmas.Option.{none-some, same_Some}
use Rattle.rp_value.specs.declared.tables.AtomType.{AtomType}
use Rattle.rp_lang.specs.Programs.{Prog, Proc}
use Rattle.crdt_defs.specs.Fitting.{names_ids}
use Rattle.event_machine.specs.WellFormed.{At}
use Rattle.rp_logic.specs.Terms.{Tm, Var}
use Rattle.rp_logic.specs.Formulas.{Fm, Fms, All, Ex}
use Rattle.rp_logic.specs.Elements.{Elem, Elems, Made, no_elem, also_elem}
use Rattle.rp_logic.specs.Truth.{Meaning, Holds, AllTrue, value, values}
use Rattle.rp_logic.proofs.ElementLaws.{same-is}
use Rattle.rp_symbols.specs.Numbers.{inv_sort, atom_sort, info_fn, info_con, unreturned_con, outcome_con}
use Rattle.crdt_enc.specs.Elements.{elems}
use Rattle.crdt_enc.specs.Builders.{one_fm}
use Rattle.crdt_enc.specs.Builders.{applied, tms_of, selectors, built}
use Rattle.crdt_enc.proofs.CallLaws.{values-in}
use Rattle.hist_struct.proofs.BuiltLaws.{listed, elems-listed, selectors-count, built-self}
use Rattle.rp_symbols.specs.Numbers.{id_rel, old_result_fn, new_result_fn}
use Rattle.crdt_enc.specs.FitsParts.{Is, value_at}
use Rattle.hist_struct.specs.Conditions.{EachInv, Rel, Differ, count, IsBuilt, values_of, ResultsFit, ResultsStay, ArgumentsWereResults}
use Rattle.hist_struct.specs.Axioms.{implied, two, rel, equal, each_inv, is_returned, is_built, results_fit, results_stay, known, arguments_were_results}
use Rattle.hist_struct.proofs.Implied.{From, implied-is, all-both}

count-elems : (xs : List Elem) → count (elems xs) ≡ length xs
count-elems [] = refl
count-elems (x ∷ xs) = ap suc (count-elems xs)

count-listed : (xs : Elems) → count xs ≡ length (listed xs)
count-listed no_elem = refl
count-listed (also_elem x xs) = ap suc (count-listed xs)

pub built-exact : (M : Meaning) (vars : List Elem) (con n : ℕ) (t : Tm) → Holds M vars (is_built con n t) ↔ IsBuilt con n (value M vars t)
built-exact M vars con n t = (
  (λ h.
      let z : n - 0 ≡ n = omega arith in
      let c : count (values M vars (tms_of (selectors con 0 (n - 0) t))) ≡ n =
      ap count (values-in (selectors con 0 (n - 0) t) M vars) ∙ (count-elems (map (value M vars) (selectors con 0 (n - 0) t)) ∙ (selectors-count M vars con 0 (n - 0) t ∙ z)) in
      (values M vars (tms_of (selectors con 0 (n - 0) t)), same-is (value M vars t) (value M vars (built con n [] t)) h, c)),
  λ b. built-self M vars con n t (listed b.0) (b.1 ∙ ap (Made con) (sym (elems-listed b.0))) (sym b.2 ∙ count-listed b.0),
)

pub each-inv-is : (M : Meaning) (fs : Fms) (f : Fm) → Holds M [] (each_inv fs f) ↔ EachInv M (λ c. From M (c ∷ []) fs (Holds M (c ∷ []) f))
each-inv-is M fs f = ((λ h c i. (implied-is fs f M (c ∷ [])).0 (h c i)), λ h c i. (implied-is fs f M (c ∷ [])).1 (h c i))

-- # Results

abbrev pub Fit : Prog → Meaning → ℕ → ℕ → Proc → Type 0
Fit p M f n q = EachInv M (λ i. IsBuilt (info_con p n) (length q.params) (value_at M info_fn i)
    → Differ (value_at M f i) (Made (unreturned_con p) no_elem) → IsBuilt (outcome_con p n) (values_of q.result) (value_at M f i))

fit-one : (p : Prog) (M : Meaning) (f n : ℕ) (q : Proc)
    → Holds M [] (each_inv (two (is_built (info_con p n) (length q.params) (applied info_fn (Var 0))) (is_returned p f)) (is_built (outcome_con p n) (values_of q.result) (applied f (Var 0))))
    ↔ Fit p M f n q
fit-one p M f n q =
    let e = each-inv-is M (two (is_built (info_con p n) (length q.params) (applied info_fn (Var 0))) (is_returned p f)) (is_built (outcome_con p n) (values_of q.result) (applied f (Var 0))) in (
      (λ h i is b d. (built-exact M (i ∷ []) (outcome_con p n) (values_of q.result) (applied f (Var 0))).0
          (e.0 h i is ((built-exact M (i ∷ []) (info_con p n) (length q.params) (applied info_fn (Var 0))).1 b) d)),
      λ k. e.1 (λ i is b d. (built-exact M (i ∷ []) (outcome_con p n) (values_of q.result) (applied f (Var 0))).1
          (k i is ((built-exact M (i ∷ []) (info_con p n) (length q.params) (applied info_fn (Var 0))).0 b) d)),
    )

fit-later : (p : Prog) (M : Meaning) (f n : ℕ) (q : Proc) (procs : List Proc) → Fit p M f n q → ((k : ℕ) (q : Proc) → At procs k q → Fit p M f (suc n + k) q)
    → (k : ℕ) (q' : Proc) → At (q ∷ procs) k q' → Fit p M f (n + k) q'
fit-later p M f n q procs o r zero q' a = subst (λ z. Fit p M f z q') (let e : n ≡ n + 0 = omega arith in e) (subst (λ z. Fit p M f n z) (same_Some q q' a) o)
fit-later p M f n q procs o r (suc k) q' a = subst (λ z. Fit p M f z q') (let e : suc n + k ≡ n + suc k = omega arith in e) (r k q' a)

fit-all : (p : Prog) (M : Meaning) (f n : ℕ) (procs : List Proc) → AllTrue M (results_fit p f n procs) ↔ ((k : ℕ) (q : Proc) → At procs k q → Fit p M f (n + k) q)
fit-all p M f n [] = ((λ h k q a. absurd (none-some q a)), λ h. tt)
fit-all p M f n (q ∷ procs) =
    let o = fit-one p M f n q in
    let r = fit-all p M f (suc n) procs in (
      (λ h. fit-later p M f n q procs (o.0 h.0) (r.0 h.1)),
      λ h. (
        o.1 (subst (λ z. Fit p M f z q) (let e : n + 0 ≡ n = omega arith in e) (h 0 q refl)),
        r.1 (λ k q' a. subst (λ z. Fit p M f z q') (let e : n + suc k ≡ suc n + k = omega arith in e) (h (suc k) q' a)),
      ),
    )

fit-procs : (p : Prog) (M : Meaning) (f : ℕ) → AllTrue M (results_fit p f 0 p.procs) ↔ ResultsFit p M f
fit-procs p M f =
    let r = fit-all p M f 0 p.procs in (
      (λ h. record { fit = λ n q a. subst (λ z. Fit p M f z q) (let e : 0 + n ≡ n = omega arith in e) (r.0 h n q a) }),
      λ k. r.1 (λ n q a. subst (λ z. Fit p M f z q) (let e : n ≡ 0 + n = omega arith in e) (k.fit n q a)),
    )

pub results_stay-exact : (p : Prog) (M : Meaning) → AllTrue M (results_stay p) ↔ ResultsStay p M
results_stay-exact p M =
    let s = each-inv-is M (one_fm (is_returned p old_result_fn)) (equal (applied old_result_fn (Var 0)) (applied new_result_fn (Var 0))) in
    let b = all-both (results_fit p old_result_fn 0 p.procs) (results_fit p new_result_fn 0 p.procs) M in
    let o = fit-procs p M old_result_fn in
    let n = fit-procs p M new_result_fn in (
      (λ h. record { stays = s.0 h.0; old = o.0 (b.0 h.1).0; new = n.0 (b.0 h.1).1 }),
      λ a. (s.1 a.stays, b.1 (o.1 a.old, n.1 a.new)),
    )

-- # Identifiers

abbrev pub Known : Prog → Meaning → ℕ → Type 0
Known p M ty = EachInv M (λ i. (n : Elem) → Is M (atom_sort ty) n → Rel M (id_rel p ty 1) i n → ((j : Elem) → Is M inv_sort j → Rel M (id_rel p ty 2) j n → ⊥) → ⊥)

known-one : (p : Prog) (M : Meaning) (ty : ℕ)
    → Holds M [] (All inv_sort (All (atom_sort ty) (implied (one_fm (rel (id_rel p ty 1) 1 0)) (Ex inv_sort (rel (id_rel p ty 2) 0 1))))) ↔ Known p M ty
known-one p M ty = (
  (λ h i is n in_. (implied-is (one_fm (rel (id_rel p ty 1) 1 0)) (Ex inv_sort (rel (id_rel p ty 2) 0 1)) M (n ∷ i ∷ [])).0 (h i is n in_)),
  λ k i is n in_. (implied-is (one_fm (rel (id_rel p ty 1) 1 0)) (Ex inv_sort (rel (id_rel p ty 2) 0 1)) M (n ∷ i ∷ [])).1 (k i is n in_),
)

known-all : (p : Prog) (M : Meaning) (ty : ℕ) (atoms : List AtomType) → AllTrue M (known p ty atoms) ↔ ((k : ℕ) → names_ids (slice_get atoms k) ≡ true → Known p M (ty + k))
known-all p M ty [] = ((λ h k e. absurd (true≢false (sym e))), λ h. tt)
known-all p M ty (atom ∷ atoms) = go atom.is_id refl (known-all p M (suc ty) atoms)
  where
    later : ((k : ℕ) → names_ids (slice_get atoms k) ≡ true → Known p M (suc ty + k)) → (atom.is_id ≡ true → Known p M ty) → (k : ℕ) → names_ids (slice_get (atom ∷ atoms) k) ≡ true → Known p M (ty + k)
    later r o zero e = subst (λ z. Known p M z) (let q : ty ≡ ty + 0 = omega arith in q) (o e)
    later r o (suc k) e = subst (λ z. Known p M z) (let q : suc ty + k ≡ ty + suc k = omega arith in q) (r k e)

    sooner : ((k : ℕ) → names_ids (slice_get (atom ∷ atoms) k) ≡ true → Known p M (ty + k)) → (k : ℕ) → names_ids (slice_get atoms k) ≡ true → Known p M (suc ty + k)
    sooner h k e = subst (λ z. Known p M z) (let q : ty + suc k ≡ suc ty + k = omega arith in q) (h (suc k) e)

    f : Fm
    f = All inv_sort (All (atom_sort ty) (implied (one_fm (rel (id_rel p ty 1) 1 0)) (Ex inv_sort (rel (id_rel p ty 2) 0 1))))

    go : (b : Bool) → atom.is_id ≡ b → AllTrue M (known p (suc ty) atoms) ↔ ((k : ℕ) → names_ids (slice_get atoms k) ≡ true → Known p M (suc ty + k))
        → AllTrue M ((if b then f ∷ [] else []) ++ known p (suc ty) atoms) ↔ ((k : ℕ) → names_ids (slice_get (atom ∷ atoms) k) ≡ true → Known p M (ty + k))
    go true e r = (
      (λ h. later (r.0 h.1) (λ _. (known-one p M ty).0 h.0)),
      λ h. ((known-one p M ty).1 (subst (λ z. Known p M z) (let q : ty + 0 ≡ ty = omega arith in q) (h 0 e)), r.1 (sooner h)),
    )
    go false e r = ((λ h. later (r.0 h) (λ t. absurd (true≢false (sym t ∙ e)))), λ h. r.1 (sooner h))

pub arguments_were_results-exact : (p : Prog) (M : Meaning) → AllTrue M (arguments_were_results p) ↔ ArgumentsWereResults p M
arguments_were_results-exact p M =
    let r = known-all p M 0 p.types.atoms in (
      (λ h. record { known = λ ty e. subst (λ z. Known p M z) (let q : 0 + ty ≡ ty = omega arith in q) (r.0 h ty e) }),
      λ k. r.1 (λ ty e. subst (λ z. Known p M z) (let q : ty ≡ 0 + ty = omega arith in q) (k.known ty e)),
    )
