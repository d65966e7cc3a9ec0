-- The axioms of identifiers are well sorted.
use Rattle.std.proofs.Common.{◌≡◌, ◌<◌, ℕ, zero, suc, ◌+◌, ◌-◌, List, [], ◌∷◌, ◌++◌, length, map, slice_get, Bool, true, false, if◌then◌else◌, Option, Some, None, refl, sym, ap, ◌∙◌, subst, eq-eqb, arith}
use Rattle.std.proofs.lemmas.Option.{none-some}
use Rattle.rp_value.specs.declared.tables.Ty.{Ty}
use Rattle.rp_value.specs.declared.tables.Ty.TheVariants as ty
use Rattle.rp_value.specs.declared.tables.AtomType.{AtomType}
use Rattle.rp_value.specs.declared.tables.ConDecl.{ConDecl}
use Rattle.rp_value.specs.declared.tables.DataDecl.{DataDecl}
use Rattle.rp_lang.specs.declared.op.OpDecl.{OpDecl}
use Rattle.rp_lang.specs.Types as types
use Rattle.rp_lang.specs.Types.{datatype_of}
use Rattle.rp_lang.specs.Programs.{Prog, Proc}
use Rattle.rp_lang.proofs.ProgramFacts.{Facts, listed-of}
use Rattle.crdt_defs.specs.Fitting as fitting
use Rattle.crdt_defs.specs.Fitting.{names_ids}
use Rattle.event_machine.proofs.PlaceLemmas.{at-lt}
use Rattle.rp_logic.specs.Terms.{Tm, Var, Sel}
use Rattle.rp_logic.specs.Formulas.{Fm, Fms, All, Ex, no_fm, also_fm}
use Rattle.rp_logic.specs.Signatures.{Signature}
use Rattle.rp_logic.specs.Sorted.{has_sort, IsSorted, AreSorted}
use Rattle.rp_logic.proofs.SortLaws.{no}
use Rattle.refute_defs.specs.Closed.{AreWellSorted}
use Rattle.rp_symbols.specs.Numbers.{call_sort, inv_sort, atom_sort, data_sort, op_sort, info_sort, outcome_sort, op_con, info_con, outcome_con, id_rel, op_fn, info_fn, old_result_fn}
use Rattle.rp_symbols.specs.Signatures.{sort_of, sorts_of, con_of, con_decls, result_list, set_decls, rel_decls}
use Rattle.rp_symbols.proofs.LookUps.{get-front, get-mapped}
use Rattle.rp_symbols.proofs.Stand.{atoms-stand, operations-stand, records-stand, outcomes-stand}
use Rattle.rp_symbols.proofs.StandToo.{id-stands}
use Rattle.crdt_enc.specs.Builders.{one_fm, over_two, applied}
use Rattle.hist_struct.specs.Defaults.{most_parts}
use Rattle.hist_struct.specs.Conditions.{cons_of}
use Rattle.hist_struct.specs.Axioms.{implied, rel, is_built, in_fields, of_con, in_cons, places_in, places, each_of, places_are_told, known, arguments_were_results}
use Rattle.well_sorted.proofs.Pieces.{sel-sorted, applied-sorted, pair-sorted}
use Rattle.well_sorted.proofs.AxiomPieces.{each-both, implied-sorted, sig, built-fine, calls-below, invs-below, outcome-sorted, info-sorted}
use Rattle.well_sorted.proofs.TermSorts.{con-of-type}

-- the relation of identifiers of each kind
id-there : (p : Prog) (views reads : ℕ) (consts : List ℕ) (ty kind : ℕ) (sort : ℕ) (atom : AtomType) → slice_get p.types.atoms ty ≡ Some atom → atom.is_id ≡ true
    → slice_get (rel_decls p (views - 1)) (id_rel p ty kind) ≡ Some (sort ∷ atom_sort ty ∷ []) → slice_get (rel_decls p (views - 1) ++ set_decls reads) (id_rel p ty kind) ≡ Some (sort ∷ atom_sort ty ∷ [])
id-there p views reads consts ty kind sort atom a i e = get-front (rel_decls p (views - 1)) (set_decls reads) (id_rel p ty kind) (sort ∷ atom_sort ty ∷ []) e

each-of : (S : Signature) {A : Type 0} (f : ℕ → A → List Fm) (n : ℕ) (xs : List A) → ((j : ℕ) (x : A) → slice_get xs j ≡ Some x → AreWellSorted S (f (n + j) x)) → AreWellSorted S (each_of f n xs)
each-of S f n [] h = tt
each-of S f n (x ∷ xs) h =
    each-both S (f n x) (each_of f (suc n) xs) (subst (λ k. AreWellSorted S (f k x)) (let e : n + 0 ≡ n = omega arith in e) (h 0 x refl))
    (each-of S f (suc n) xs (λ j y a. subst (λ k. AreWellSorted S (f k y)) (let e : n + suc j ≡ suc n + j = omega arith in e) (h (suc j) y a)))

module _ (p : Prog) (f : Facts p) (views : ℕ) (consts : List ℕ) (reads : ℕ) where
  abbrev Each : List Fm → Type 0
  Each fs = AreWellSorted (sig p f views consts reads) fs

  -- # Below one variable, a call or an invocation

  module _ (sort kind : ℕ) (below : sort < length (sig p f views consts reads).sorts)
      (ids : (k : ℕ) (atom : AtomType) → slice_get p.types.atoms k ≡ Some atom → atom.is_id ≡ true → slice_get (sig p f views consts reads).rels (id_rel p k kind) ≡ Some (sort ∷ atom_sort k ∷ [])) where
    abbrev Fine : Fms → Type 0
    Fine gs = AreSorted (sig p f views consts reads) [] (sort ∷ []) gs

    abbrev Of : ℕ → Tm → Type 0
    Of s t = has_sort (sig p f views consts reads) [] (sort ∷ []) s t ≡ true

    abbrev AllSorted : (Fms → Ty → Tm → List Fm) → Type 0
    AllSorted rec = (given : Fms) (t : Ty) (u : Tm) → Fine given → Of (sort_of p t) u → Each (rec given t u)

    fields-each : (rec : Fms → Ty → Tm → List Fm) → AllSorted rec → (given : Fms) (con s : ℕ) (all : List Ty) (u : Tm) → slice_get (con_decls p) con ≡ Some (con_of s (map (sort_of p) all)) → Of s u → Fine given
        → (i : ℕ) (tys : List Ty) → ((j : ℕ) (t : Ty) → slice_get tys j ≡ Some t → slice_get all (i + j) ≡ Some t) → Each (in_fields rec given con i tys u)
    fields-each rec h given con s all u e k g i [] at = tt
    fields-each rec h given con s all u e k g i (t ∷ tys) at =
        each-both (sig p f views consts reads) (rec given t (Sel con i u)) (in_fields rec given con (suc i) tys u)
        (h given t (Sel con i u) g
        (sel-sorted (sig p f views consts reads) [] (sort ∷ []) con (con_of s (map (sort_of p) all)) i (sort_of p t) u e
        (get-mapped (sort_of p) all i t (ap (slice_get all) (let z : i ≡ i + 0 = omega arith in z) ∙ at 0 t refl)) k))
        (fields-each rec h given con s all u e k g (suc i) tys (λ j v q. ap (slice_get all) (let z : suc i + j ≡ i + suc j = omega arith in z) ∙ at (suc j) v q))

    con-each : (rec : Fms → Ty → Tm → List Fm) → AllSorted rec → (given : Fms) (con s : ℕ) (tys : List Ty) (u : Tm) → slice_get (con_decls p) con ≡ Some (con_of s (map (sort_of p) tys)) → Of s u → Fine given → Each (of_con rec given con tys u)
    con-each rec h given con s tys u e k g =
        fields-each rec h (also_fm (is_built con (length tys) u) given) con s tys u e k (built-fine p f views consts reads (sort ∷ []) con (length tys) s tys u e refl k, g) 0 tys
        (λ j t q. ap (slice_get tys) (let z : 0 + j ≡ j = omega arith in z) ∙ q)

    one-field-list : (o : Option ConDecl) → fitting.fields_of o ≡ types.fields_in o
    one-field-list None = refl
    one-field-list (Some decl) = refl

    cons-each : (rec : Fms → Ty → Tm → List Fm) → AllSorted rec → (given : Fms) (d : ℕ) (u : Tm) → Of (data_sort p d) u → Fine given → (cons : List ℕ)
        → ((j con : ℕ) → slice_get cons j ≡ Some con → datatype_of p.cons con ≡ Some (ty.Datatype d)) → Each (in_cons p rec given cons u)
    cons-each rec h given d u k g [] at = tt
    cons-each rec h given d u k g (con ∷ cons) at =
        let fields = fitting.fields_of (slice_get p.cons.cons con) in
        let there : slice_get (con_decls p) con ≡ Some (con_of (data_sort p d) (map (sort_of p) fields)) =
        con-of-type p con d (at 0 con refl) ∙ ap (λ ts. Some (con_of (data_sort p d) (map (sort_of p) ts))) (sym (one-field-list (slice_get p.cons.cons con))) in
        each-both (sig p f views consts reads) (of_con rec given con fields u) (in_cons p rec given cons u) (con-each rec h given con (data_sort p d) fields u there k g)
        (cons-each rec h given d u k g cons (λ j c q. at (suc j) c q))

    atom-each : (k : ℕ) (given : Fms) (u : Tm) → Fine given → Of (atom_sort k) u → (o : Option AtomType) → slice_get p.types.atoms k ≡ o → (b : Bool) → names_ids o ≡ b
        → Each (if b then All sort (implied given (over_two true (id_rel p k kind) (Var 0) u)) ∷ [] else [])
    atom-each k given u g h o e false i = tt
    atom-each k given u g h None e true i = no i
    atom-each k given u g h (Some atom) e true i = (
      (
        below,
        implied-sorted (sig p f views consts reads) [] (sort ∷ []) given (over_two true (id_rel p k kind) (Var 0) u) g
            (pair-sorted (sig p f views consts reads) [] (sort ∷ []) true (id_rel p k kind) sort (atom_sort k) (Var 0) u (ids k atom e i) (eq-eqb sort sort refl) h),
      ),
      tt,
    )

    listed : (d : ℕ) (o : Option DataDecl) → slice_get p.types.datatypes d ≡ o → (j con : ℕ) → slice_get (cons_of o) j ≡ Some con → datatype_of p.cons con ≡ Some (ty.Datatype d)
    listed d None e j con q = absurd (none-some con q)
    listed d (Some decl) e j con q = listed-of p f d decl j con e q

    places-in-each : (rec : Fms → Ty → Tm → List Fm) → AllSorted rec → AllSorted (places_in p sort kind rec)
    places-in-each rec h given (ty.Atom k) u g o = atom-each k given u g o (slice_get p.types.atoms k) refl (names_ids (slice_get p.types.atoms k)) refl
    places-in-each rec h given (ty.Datatype d) u g o = cons-each rec h given d u o g (cons_of (slice_get p.types.datatypes d)) (listed d (slice_get p.types.datatypes d) refl)
    places-in-each rec h given ty.Int u g o = tt
    places-in-each rec h given ty.Str u g o = tt
    places-in-each rec h given ty.Call u g o = tt
    places-in-each rec h given ty.Inv u g o = tt
    places-in-each rec h given ty.Operation u g o = tt
    places-in-each rec h given ty.Info u g o = tt
    places-in-each rec h given ty.Outcome u g o = tt

    places-each : (fuel : ℕ) → AllSorted (places p sort kind fuel)
    places-each zero given t u g o = places-in-each (λ given ty t. []) (λ given t u g o. tt) given t u g o
    places-each (suc fuel) given t u g o = places-in-each (places p sort kind fuel) (λ given t u g o. places-each fuel given t u g o) given t u g o

    pub told-each : (con s : ℕ) (tys : List Ty) (u : Tm) → slice_get (con_decls p) con ≡ Some (con_of s (map (sort_of p) tys)) → Of s u → Each (of_con (places p sort kind most_parts) no_fm con tys u)
    told-each con s tys u e h = con-each (places p sort kind most_parts) (λ given t u g o. places-each most_parts given t u g o) no_fm con s tys u e h tt

  -- # In operations, among arguments, in results

  ids-in : (kind sort : ℕ) → ((k : ℕ) (atom : AtomType) → slice_get p.types.atoms k ≡ Some atom → atom.is_id ≡ true → slice_get (rel_decls p (views - 1)) (id_rel p k kind) ≡ Some (sort ∷ atom_sort k ∷ []))
      → (k : ℕ) (atom : AtomType) → slice_get p.types.atoms k ≡ Some atom → atom.is_id ≡ true → slice_get (sig p f views consts reads).rels (id_rel p k kind) ≡ Some (sort ∷ atom_sort k ∷ [])
  ids-in kind sort h k atom a i = id-there p views reads consts k kind sort atom a i (h k atom a i)

  in_ops : (k : ℕ) (atom : AtomType) → slice_get p.types.atoms k ≡ Some atom → atom.is_id ≡ true → slice_get (sig p f views consts reads).rels (id_rel p k 0) ≡ Some (call_sort ∷ atom_sort k ∷ [])
  in_ops = ids-in 0 call_sort (λ k atom a i. id-stands p (views - 1) k 0 atom a i (omega arith))

  in_args : (k : ℕ) (atom : AtomType) → slice_get p.types.atoms k ≡ Some atom → atom.is_id ≡ true → slice_get (sig p f views consts reads).rels (id_rel p k 1) ≡ Some (inv_sort ∷ atom_sort k ∷ [])
  in_args = ids-in 1 inv_sort (λ k atom a i. id-stands p (views - 1) k 1 atom a i (omega arith))

  in_results : (k : ℕ) (atom : AtomType) → slice_get p.types.atoms k ≡ Some atom → atom.is_id ≡ true → slice_get (sig p f views consts reads).rels (id_rel p k 2) ≡ Some (inv_sort ∷ atom_sort k ∷ [])
  in_results = ids-in 2 inv_sort (λ k atom a i. id-stands p (views - 1) k 2 atom a i (omega arith))

  from-first : {A : Type 0} (xs : List A) (j : ℕ) (x : A) → slice_get xs j ≡ Some x → slice_get xs (0 + j) ≡ Some x
  from-first xs j x a = ap (slice_get xs) (let e : 0 + j ≡ j = omega arith in e) ∙ a

  pub places_are_told-sorted : Each (places_are_told p)
  places_are_told-sorted =
      let ops = λ (o : ℕ) (decl : OpDecl). of_con (places p call_sort 0 most_parts) no_fm (op_con p o) decl.args (applied op_fn (Var 0)) in
      let infos = λ (k : ℕ) (q : Proc). of_con (places p inv_sort 1 most_parts) no_fm (info_con p k) q.params (applied info_fn (Var 0)) in
      let results = λ (k : ℕ) (q : Proc). of_con (places p inv_sort 2 most_parts) no_fm (outcome_con p k) (result_list q.result) (applied old_result_fn (Var 0)) in
      let S = sig p f views consts reads in
      each-both S (each_of ops 0 p.ops) (each_of infos 0 p.procs ++ each_of results 0 p.procs)
      (each-of S ops 0 p.ops (λ j decl a. told-each call_sort 0 (calls-below p f views consts reads) in_ops (op_con p (0 + j)) (op_sort p) decl.args (applied op_fn (Var 0)) (operations-stand p (0 + j) decl (from-first p.ops j decl a))
      (applied-sorted S [] (call_sort ∷ []) op_fn call_sort (op_sort p) (Var 0) refl refl)))
      (each-both S (each_of infos 0 p.procs) (each_of results 0 p.procs)
      (each-of S infos 0 p.procs (λ j q a. told-each inv_sort 1 (invs-below p f views consts reads) in_args (info_con p (0 + j)) (info_sort p) q.params (applied info_fn (Var 0)) (records-stand p (0 + j) q (from-first p.procs j q a))
      (info-sorted p f views consts reads)))
      (each-of S results 0 p.procs (λ j q a. told-each inv_sort 2 (invs-below p f views consts reads) in_results (outcome_con p (0 + j)) (outcome_sort p) (result_list q.result) (applied old_result_fn (Var 0))
      (outcomes-stand p (0 + j) q (from-first p.procs j q a)) (outcome-sorted p f views consts reads old_result_fn refl))))

  -- # What stands among arguments

  known-one : (k : ℕ) (atom : AtomType) → slice_get p.types.atoms k ≡ Some atom → atom.is_id ≡ true
      → IsSorted (sig p f views consts reads) [] [] (All inv_sort (All (atom_sort k) (implied (one_fm (rel (id_rel p k 1) 1 0)) (Ex inv_sort (rel (id_rel p k 2) 0 1)))))
  known-one k atom a i =
      let S = sig p f views consts reads in
      let two = atom_sort k ∷ inv_sort ∷ [] in
      let same = eq-eqb (atom_sort k) (atom_sort k) refl in (
        invs-below p f views consts reads,
        (
          at-lt (sorts_of p) (atom_sort k) _ (atoms-stand p k (at-lt p.types.atoms k atom a)),
          implied-sorted S [] two (one_fm (rel (id_rel p k 1) 1 0)) (Ex inv_sort (rel (id_rel p k 2) 0 1))
              (pair-sorted S [] two true (id_rel p k 1) inv_sort (atom_sort k) (Var 1) (Var 0) (in_args k atom a i) refl same, tt)
              (invs-below p f views consts reads, pair-sorted S [] (inv_sort ∷ two) true (id_rel p k 2) inv_sort (atom_sort k) (Var 0) (Var 1) (in_results k atom a i) refl same),
        ),
      )

  known-sorted : (k : ℕ) (atoms : List AtomType) → ((j : ℕ) (atom : AtomType) → slice_get atoms j ≡ Some atom → slice_get p.types.atoms (k + j) ≡ Some atom) → Each (known p k atoms)
  known-sorted k [] at = tt
  known-sorted k (atom ∷ atoms) at =
      go atom.is_id refl (known-sorted (suc k) atoms (λ j b q. ap (slice_get p.types.atoms) (let z : suc k + j ≡ k + suc j = omega arith in z) ∙ at (suc j) b q))
    where
      go : (b : Bool) → atom.is_id ≡ b → Each (known p (suc k) atoms)
          → Each ((if b then All inv_sort (All (atom_sort k) (implied (one_fm (rel (id_rel p k 1) 1 0)) (Ex inv_sort (rel (id_rel p k 2) 0 1)))) ∷ [] else []) ++ known p (suc k) atoms)
      go true i r = (known-one k atom (ap (slice_get p.types.atoms) (let z : k ≡ k + 0 = omega arith in z) ∙ at 0 atom refl) i, r)
      go false i r = r

  pub arguments_were_results-sorted : Each (arguments_were_results p)
  arguments_were_results-sorted = known-sorted 0 p.types.atoms (λ j atom a. from-first p.types.atoms j atom a)
