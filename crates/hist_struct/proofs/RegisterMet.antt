-- At a stage the condition on registers holds.
use Rattle.std.proofs.Common.{◌≡◌, ℕ, zero, suc, ◌<◌, Bool, true, ◌&&◌, List, [], ◌∷◌, ◌++◌, length, map, get_or, Option, Some, None, slice_get, refl, sym, ap, ap₂, ◌∙◌, subst, append_assoc, true≢false, arith}
use Rattle.std.proofs.lemmas.Bool.{and_parts, and_from}
use Rattle.std.proofs.lemmas.List.{append-nil}
use Rattle.std.proofs.lemmas.Option.{same_Some}
use Rattle.rp_value.specs.declared.tables.Ty.{Ty}
use Rattle.rp_value.specs.Values.{Val}
use Rattle.rp_lang.specs.Crdts.{Cr, Reg}
use Rattle.rp_lang.specs.Paths.{is_crdt, stepped, root_crdt, reached, own_args, query_stands, is_query}
use Rattle.rp_lang.specs.Types.{is_ordinary, are_ordinary}
use Rattle.rp_lang.specs.Typing.{is_get}
use Rattle.rp_lang.specs.WellFormed.{is_well_formed}
use Rattle.rp_lang.specs.Programs.{Rt, Prog}
use Rattle.rp_lang.specs.declared.op.OpDecl.{OpDecl}
use Rattle.rp_lang.specs.declared.op.OpKind.TheVariants.{Assign}
use Rattle.rp_lang.specs.declared.op.PathStep.{PathStep}
use Rattle.rp_lang.specs.declared.op.PathStep.TheVariants.{Field, Key}
use Rattle.rp_lang.specs.declared.query.QueryDecl.{QueryDecl}
use Rattle.rp_lang.specs.declared.query.QueryKind.{QueryKind}
use Rattle.rp_lang.specs.declared.query.QueryKind.TheVariants.{Contains, HasKey, GetReg, GetSum}
use Rattle.rp_lang.proofs.ProgramFacts.{facts, op-is}
use Rattle.rp_lang.proofs.TypeFacts.{each}
use Rattle.crdt_defs.specs.Calls.{Call}
use Rattle.crdt_defs.specs.Doing.{same_kind, is_of, does, keys_in, own_of, own_argument, on_root, goes_to_field, goes_to_key}
use Rattle.crdt_defs.specs.Fitting.{fits, all_fit}
use Rattle.crdt_defs.specs.Histories.{call_is}
use Rattle.crdt_defs.specs.Meaning.{among, latest}
use Rattle.crdt_defs.specs.Queries.{at_call, ask, answer_by}
use Rattle.crdt_defs.specs.SameValues.{value_is}
use Rattle.crdt_defs.specs.Truths.{or_false, nth_con, found_val, answer_val}
use Rattle.crdt_defs.proofs.GotLemmas.{met-call}
use Rattle.event_machine.specs.Machine.{Tx}
use Rattle.event_machine.specs.WellFormed.{At, IsCausal}
use Rattle.event_machine.proofs.AnswerFits.{fit-at}
use Rattle.rp_logic.specs.Elements.{Elem, Point, Made, no_elem, also_elem, junk, same_elem}
use Rattle.rp_logic.specs.Terms.{Tm, Var}
use Rattle.rp_logic.specs.Truth.{Meaning, value}
use Rattle.rp_logic.proofs.ElementLaws.{same-is, is-same}
use Rattle.rp_logic.proofs.SortLaws.{no}
use Rattle.rp_symbols.specs.Numbers.{stamp_rel, val_fn}
use Rattle.rp_symbols.specs.Signatures.{sort_of}
use Rattle.crdt_enc.specs.Elements.{elem_of, elems_of}
use Rattle.crdt_enc.specs.FitsParts.{FitsCalls, FitsView, Is, holds_of_two, applied_to}
use Rattle.crdt_enc.specs.Ways.{Way, Root, AtField, AtKey, depth, goes}
use Rattle.crdt_enc.specs.means.Counting.{Both, terms, counted, matches, KeysRead, CallsFit, Read}
use Rattle.crdt_enc.proofs.AskFacts.{ops-stand}
use Rattle.crdt_enc.proofs.AskLaws.{terms_of, vals_of, AllRead}
use Rattle.crdt_enc.proofs.CallLaws.{map-count}
use Rattle.crdt_enc.proofs.ProgramLaws.{leaf-fits, root-along}
use Rattle.crdt_enc.proofs.QuestionLaws.{Leaf}
use Rattle.crdt_enc.proofs.StageFacts.{root-fine}
use Rattle.crdt_enc.proofs.ValueLaws.{one-value}
use Rattle.crdt_enc.proofs.WayLaws as ways
use Rattle.crdt_enc.proofs.WayLaws.{call-and, call-there, matches-is, value-there}
use Rattle.hist_struct.specs.QueryValues.{answered}
use Rattle.hist_struct.specs.Registers.{mapped, Register, register_of, is_register, NoneAssigns, IsLatest, EachIn, GivesSome, GivesNone, RegisterTells, Told, RegistersTell}
use Rattle.hist_struct.specs.Steps.{is_lesser}
use Rattle.hist_struct.proofs.LatestFacts.{none-of, last-of}
use Rattle.hist_struct.proofs.RegisterCounts.{none-counts, latest-counts}
use Rattle.hist_struct.proofs.OrdinaryLaws.{query-ordinary}
use Rattle.hist_struct.proofs.RegisterEnds.{RegEnd, reg-end}
use Rattle.hist_struct.proofs.RegisterExact.{Agree, moved, at-reads}

-- # Values as variables

-- each value with the variable of its number, the first of number i
abbrev bothed : ℕ → List Val → List Both
bothed i [] = []
bothed i (v ∷ vs) = record { term = Var i; val = v } ∷ bothed (suc i) vs

vals-same : (i : ℕ) (vs : List Val) → vals_of (bothed i vs) ≡ vs
vals-same i [] = refl
vals-same i (v ∷ vs) = ap (λ vs. v ∷ vs) (vals-same (suc i) vs)

at-front : (front : List Elem) (x : Elem) (rest : List Elem) (i : ℕ) → length front ≡ i → get_or (front ++ x ∷ rest) i junk ≡ x
at-front [] x rest zero e = refl
at-front [] x rest (suc i) e = absurd (omega (arith, e))
at-front (y ∷ front) x rest zero e = absurd (omega (arith, e))
at-front (y ∷ front) x rest (suc i) e = at-front front x rest i (omega (arith, e))

one-longer : (front : List Elem) (x : Elem) (i : ℕ) → length front ≡ i → length (front ++ x ∷ []) ≡ suc i
one-longer [] x i e = ap suc e
one-longer (y ∷ front) x zero e = absurd (omega (arith, e))
one-longer (y ∷ front) x (suc i) e = ap suc (one-longer front x i (omega (arith, e)))

all-read : (M : Meaning) (front : List Elem) (vs : List Val) (extra : List Elem) (i : ℕ) → length front ≡ i → AllRead M (front ++ (map elem_of vs ++ extra)) (bothed i vs)
all-read M front [] extra i e = tt
all-read M front (v ∷ vs) extra i e = (
  at-front front (elem_of v) (map elem_of vs ++ extra) i e,
  subst (λ base. AllRead M base (bothed (suc i) vs)) (append_assoc front (elem_of v ∷ []) (map elem_of vs ++ extra)) (all-read M (front ++ elem_of v ∷ []) vs extra (suc i) (one-longer front (elem_of v) i e)),
)

read-map : (M : Meaning) (base : List Elem) (bs : List Both) → AllRead M base bs → map (value M base) (terms_of bs) ≡ map elem_of (vals_of bs)
read-map M base [] r = refl
read-map M base (b ∷ bs) r = ap₂ (λ x xs. x ∷ xs) r.0 (read-map M base bs r.1)

abbrev by_values : Way Both → Way Elem
by_values w = mapped (λ (b : Both). elem_of b.val) w

keys-way : (M : Meaning) (base : List Elem) (w : Way Both) → KeysRead M base w → mapped (value M base) (terms w) ≡ by_values w
keys-way M base (Root r) k = refl
keys-way M base (AtField n w) k = ap (λ w. AtField n w) (keys-way M base w k)
keys-way M base (AtKey winner b w) k = ap₂ (λ key w. AtKey winner key w) k.1 (keys-way M base w k.0)

agree-some : (M : Meaning) (base : List Elem) (r : Register Tm) (o : Option (Register Elem)) → Agree M base (Some r) o → o ≡ Some (moved M base r)
agree-some M base r None e = absurd e
agree-some M base r (Some q) e = ap (λ q. Some q) (sym e)

counted-matches : (ops : List OpDecl) (h : List Call) (visible : ℕ → Bool) (w : Way Both) (c : ℕ) → counted ops h visible w c ≡ true → call_is h (matches ops w) c ≡ true
counted-matches ops h visible (Root r) c m = (and_parts (visible c) _ m).1
counted-matches ops h visible (AtField n w) c m =
    let b = and_parts (counted ops h visible w c) _ m in
    call-and h (matches ops w) (goes_to_field ops (depth (terms w)) n) c ∙ and_from _ _ (counted-matches ops h visible w c b.0) b.1
counted-matches ops h visible (AtKey winner k w) c m =
    let b = and_parts (counted ops h visible w c) _ (and_parts (among h (counted ops h visible w) (goes_to_key ops (depth (terms w)) k.val) c) _ m).0 in
    call-and h (matches ops w) (goes_to_key ops (depth (terms w)) k.val) c ∙ and_from _ _ (counted-matches ops h visible w c b.0) b.1

leaf-Reg : (ty : Ty) (step : PathStep) → stepped (Reg ty) step ≡ None
leaf-Reg ty (Field n) = refl
leaf-Reg ty (Key t) = refl

register-kind : (kind : QueryKind) → is_register kind ≡ true → (kind ≡ GetReg) × (is_get kind ≡ true)
register-kind GetReg h = (refl, refl)
register-kind GetSum h = no h
register-kind Contains h = no h
register-kind HasKey h = no h

-- # The condition

module _ (p : Prog) (formed : is_well_formed p ≡ true) (M : Meaning) (h : List Call) (view : ℕ) (visible : ℕ → Bool) (fit : FitsCalls p M h) (seen : FitsView M h view visible) (typed : CallsFit p h)
    (txs : List Tx) (history : IsCausal h txs) (stamps : (c d : ℕ) → c < length h → d < length h → holds_of_two M stamp_rel (Point c) (Point d) ≡ is_lesser h c d)
    (values : (t : Ty) → is_ordinary p.types t ≡ true → (e : Elem) → Is M (sort_of p t) e → (v : Val) × (fits p t v ≡ true) × (elem_of v ≡ e))
    (gives : (n : ℕ) (query : QueryDecl) (args : List Val) → At p.queries n query → is_get query.kind ≡ true → all_fit p query.args args ≡ true
    → applied_to M (val_fn p view n) (elems_of args) ≡ elem_of (answered p h visible n args)) where
  each-values : (tys : List Ty) (given : List Elem) (P : List Elem → Type 0) → are_ordinary p.types tys ≡ true → ((vs : List Val) → all_fit p tys vs ≡ true → P (given ++ map elem_of vs))
      → EachIn M (map (sort_of p) tys) given P
  each-values [] given P o k = subst P (append-nil given) (k [] refl)
  each-values (t ∷ tys) given P o k = λ e i.
      let a = and_parts (is_ordinary p.types t) _ o in
      let v = values t a.0 e i in
      each-values tys (given ++ e ∷ []) P a.1 (λ vs f.
      subst P (ap (λ e. given ++ e ∷ map elem_of vs) v.2 ∙ sym (append_assoc given (e ∷ []) (map elem_of vs))) (k (v.0 ∷ vs) (and_from (fits p t v.0) _ v.1 f)))

  -- what the last assign assigns
  record Own (w : Way Both) (x : Val) (c : ℕ) : Type 0 where
    own : Val
    is : own_argument p.ops (slice_get h c) ≡ Some own
    one : elem_of own ≡ elem_of x → own ≡ x
    to : own ≡ x → among h (counted p.ops h visible w) (does p.ops Assign x) c ≡ true
    from : among h (counted p.ops h visible w) (does p.ops Assign x) c ≡ true → own ≡ x

  module _ (n : ℕ) (query : QueryDecl) (at : At p.queries n query) (is : is_register query.kind ≡ true) where
    fine : (c : Cr) → root_crdt (slice_get p.roots query.root) ≡ Some c → is_crdt p.types c ≡ true
    fine = root-fine p (facts p formed) (slice_get p.roots query.root)
        (λ root q. each (λ (root : Rt). is_crdt p.types root.crdt) p.roots query.root root (and_parts _ _ (facts p formed).roots).1 q)

    stands : query_stands p.types p.cons GetReg (reached (root_crdt (slice_get p.roots query.root)) query.path) (own_args query.path query.args) query.result ≡ true
    stands =
        ap (λ kind. query_stands p.types p.cons kind (reached (root_crdt (slice_get p.roots query.root)) query.path) (own_args query.path query.args) query.result) (sym (register-kind query.kind is).0)
        ∙ (and_parts _ _ (each (is_query p.types p.cons p.roots) p.queries n query (facts p formed).queries at)).1

    module _ (vs : List Val) (vf : all_fit p query.args vs ≡ true) where
      end : RegEnd p h visible (root_crdt (slice_get p.roots query.root)) query.path (Root query.root) (bothed 0 vs) query.result
      end = reg-end p h visible (root_crdt (slice_get p.roots query.root)) query.path (Root query.root) (bothed 0 vs) query.args query.result tt
          (root-along p (ops-stand p (λ o decl e. op-is p.roots p.ops o decl (facts p formed).ops e)) query.root) fine stands
          (ap (all_fit p query.args) (vals-same 0 vs) ∙ vf)

      read : (extra : List Elem) → KeysRead M (map elem_of vs ++ extra) end.way
      read extra = end.keep (Read M (map elem_of vs ++ extra)) tt (all-read M [] vs extra 0 refl)

      register-is : register_of p query (map elem_of vs) ≡ Some (record { ty = end.ty; way = by_values end.way })
      register-is =
          let a = at-reads M (map elem_of vs ++ []) (root_crdt (slice_get p.roots query.root)) query.path (Root query.root) (terms_of (bothed 0 vs)) in
          let b = subst (λ o. Agree M (map elem_of vs ++ []) o (register_of p query (map (value M (map elem_of vs ++ [])) (terms_of (bothed 0 vs))))) end.is a in
          let s = agree-some M (map elem_of vs ++ []) (record { ty = end.ty; way = terms end.way }) (register_of p query (map (value M (map elem_of vs ++ [])) (terms_of (bothed 0 vs)))) b in
          let m = read-map M (map elem_of vs ++ []) (bothed 0 vs) (all-read M [] vs [] 0 refl) ∙ ap (map elem_of) (vals-same 0 vs) in
          ap (register_of p query) (sym m) ∙ (s ∙ ap (λ (way : Way Elem). Some (record { ty = end.ty; way = way })) (keys-way M (map elem_of vs ++ []) end.way (read [])))

      value-is : applied_to M (val_fn p view n) (elems_of vs) ≡ elem_of (found_val p h query.result (at_call (latest p.ops h (counted p.ops h visible end.way))))
      value-is =
          gives n query vs at (register-kind query.kind is).1 vf
          ∙ ap elem_of (ap (λ o. answer_val p h o (answer_by p o h visible vs)) at
          ∙ ap (answer_val p h (Some query))
          (ap (λ kind. ask p.ops h kind (root_crdt (slice_get p.roots query.root)) query.path 0 (among h visible (on_root p.ops query.root)) vs) (register-kind query.kind is).0
          ∙ (ap (ask p.ops h GetReg (root_crdt (slice_get p.roots query.root)) query.path 0 (among h visible (on_root p.ops query.root))) (sym (vals-same 0 vs)) ∙ end.asks)))

      own-of-last : (x : Val) → Leaf p end.way Assign x → (c : ℕ) → latest p.ops h (counted p.ops h visible end.way) ≡ Some c → Own end.way x c
      own-of-last x leaf c e =
          let both = and_parts (counted p.ops h visible end.way c) (call_is h (is_of p.ops Assign) c) (last-of p.ops h txs history (counted p.ops h visible end.way) c e).itself in
          let call = met-call h (matches p.ops end.way) c (counted-matches p.ops h visible end.way c both.0) in
          let t = typed c call.0 call.1 in
          let g = (matches-is p end.way end.fit call.0 t.0 t.1).0 call.2 in
          let kind : same_kind t.0.kind Assign ≡ true = sym (ways.op-is p.ops (λ op. same_kind op.kind Assign) call.0 t.0 t.1) ∙ (sym (call-there h (is_of p.ops Assign) c call.0 call.1) ∙ both.1) in
          let l = leaf call.0.op t.0 t.1 (and_from (goes (terms end.way) t.0) _ g.0 kind) in
          let a = fit-at p t.0.args call.0.args (keys_in t.0.path) l.ty t.2 (ap (slice_get t.0.args) l.placed ∙ l.is) in
          let there = call-there h (does p.ops Assign x) c call.0 call.1 ∙ ways.op-is p.ops (λ op. same_kind op.kind Assign && value_is x (slice_get call.0.args (keys_in op.path))) call.0 t.0 t.1 in
          record {
            own = a.0;
            is = ap (own_argument p.ops) call.1 ∙ (ap (own_of call.0) t.1 ∙ a.1);
            one = λ q. one-value p l.ty a.0 x a.2 l.fit q;
            to = λ q. and_from (counted p.ops h visible end.way c) _ both.0 (there ∙ and_from (same_kind t.0.kind Assign) _ kind ((value-there x _).1 (a.1 ∙ ap (λ v. Some v) q)));
            from = λ m.
                let d = and_parts (same_kind t.0.kind Assign) _ (sym there ∙ (and_parts (counted p.ops h visible end.way c) _ m).1) in
                same_Some a.0 x (sym a.1 ∙ (value-there x _).0 d.1);
          }

      found : (o : Option ℕ) → latest p.ops h (counted p.ops h visible end.way) ≡ o → applied_to M (val_fn p view n) (elems_of vs) ≡ elem_of (found_val p h query.result (at_call o))
      found o e = value-is ∙ ap (λ o. elem_of (found_val p h query.result (at_call o))) e

      some-gives : (x : Val) → Leaf p end.way Assign x
          → (GivesSome p M view n query.result (map elem_of vs) (elem_of x)
          → (c : ℕ) × (latest p.ops h (counted p.ops h visible end.way) ≡ Some c) × (among h (counted p.ops h visible end.way) (does p.ops Assign x) c ≡ true))
          × ((c : ℕ) × (latest p.ops h (counted p.ops h visible end.way) ≡ Some c) × (among h (counted p.ops h visible end.way) (does p.ops Assign x) c ≡ true)
          → GivesSome p M view n query.result (map elem_of vs) (elem_of x))
      some-gives x leaf = (
        (λ k. go (latest p.ops h (counted p.ops h visible end.way)) refl k),
        λ t.
            let o = own-of-last x leaf t.0 t.1 in
            is-same _ _ (found (Some t.0) t.1 ∙ (ap (λ o. Made (nth_con p query.result 1) (also_elem (elem_of (or_false o)) no_elem)) o.is
            ∙ ap (λ v. Made (nth_con p query.result 1) (also_elem (elem_of v) no_elem)) (o.from t.2))),
      )
        where
          go : (q : Option ℕ) → latest p.ops h (counted p.ops h visible end.way) ≡ q → GivesSome p M view n query.result (map elem_of vs) (elem_of x)
              → (c : ℕ) × (latest p.ops h (counted p.ops h visible end.way) ≡ Some c) × (among h (counted p.ops h visible end.way) (does p.ops Assign x) c ≡ true)
          go None e k = no (and_parts _ _ (ap (λ y. same_elem y (Made (nth_con p query.result 1) (also_elem (elem_of x) no_elem))) (sym (found None e)) ∙ k)).1
          go (Some c) e k =
              let o = own-of-last x leaf c e in
              let s = and_parts _ _ (and_parts _ _ (ap (λ y. same_elem y (Made (nth_con p query.result 1) (also_elem (elem_of x) no_elem))) (sym (found (Some c) e)) ∙ k)).1 in
              let q = sym (ap (λ o. elem_of (or_false o)) o.is) ∙ same-is _ _ s.0 in
              (c, e, o.to (o.one q))

      none-gives : (GivesNone p M view n query.result (map elem_of vs) → (d : ℕ) → d < length h → among h (counted p.ops h visible end.way) (is_of p.ops Assign) d ≡ true → ⊥)
          × (((d : ℕ) → d < length h → among h (counted p.ops h visible end.way) (is_of p.ops Assign) d ≡ true → ⊥) → GivesNone p M view n query.result (map elem_of vs))
      none-gives = ((λ k. go (latest p.ops h (counted p.ops h visible end.way)) refl k), λ z. back (latest p.ops h (counted p.ops h visible end.way)) refl z)
        where
          go : (q : Option ℕ) → latest p.ops h (counted p.ops h visible end.way) ≡ q → GivesNone p M view n query.result (map elem_of vs)
              → (d : ℕ) → d < length h → among h (counted p.ops h visible end.way) (is_of p.ops Assign) d ≡ true → ⊥
          go None e k d l m = true≢false (sym m ∙ none-of p.ops h txs history (counted p.ops h visible end.way) e d l)
          go (Some c) e k d l m = no (and_parts _ _ (ap (λ y. same_elem y (Made (nth_con p query.result 0) no_elem)) (sym (found (Some c) e)) ∙ k)).1

          back : (q : Option ℕ) → latest p.ops h (counted p.ops h visible end.way) ≡ q
              → ((d : ℕ) → d < length h → among h (counted p.ops h visible end.way) (is_of p.ops Assign) d ≡ true → ⊥) → GivesNone p M view n query.result (map elem_of vs)
          back None e z = is-same _ _ (found None e)
          back (Some c) e z = let last = last-of p.ops h txs history (counted p.ops h visible end.way) c e in absurd (z c last.below last.itself)

      tells : RegisterTells p M view n query.result (map elem_of vs) (record { ty = end.ty; way = by_values end.way })
      tells = record {
        some = λ y i.
            let v = values end.ty end.ordinary y i in
            let leaf = leaf-fits p end.way (Reg end.ty) Assign end.ty v.0 end.along (λ step. leaf-Reg end.ty step) refl refl v.1 in
            let ex = at-front (map elem_of vs) (elem_of v.0) [] (length vs) (map-count elem_of vs) in
            let k = read (elem_of v.0 ∷ []) in
            let l = latest-counts p M h view visible (map elem_of vs ++ elem_of v.0 ∷ []) fit seen typed txs history stamps end.way end.fit k (record { term = Var (length vs); val = v.0 }) ex leaf in
            let w = keys-way M (map elem_of vs ++ elem_of v.0 ∷ []) end.way k in
            let g = some-gives v.0 leaf in (
              (λ q. subst (λ y. IsLatest p M view (by_values end.way) y) v.2 (subst (λ way. IsLatest p M view way (elem_of v.0)) w
                  (subst (λ y. IsLatest p M view (mapped (value M (map elem_of vs ++ elem_of v.0 ∷ [])) (terms end.way)) y) ex
                  (l.1 (g.0 (subst (λ y. GivesSome p M view n query.result (map elem_of vs) y) (sym v.2) q)))))),
              λ q. subst (λ y. GivesSome p M view n query.result (map elem_of vs) y) v.2 (g.1 (l.0
                  (subst (λ y. IsLatest p M view (mapped (value M (map elem_of vs ++ elem_of v.0 ∷ [])) (terms end.way)) y) (sym ex)
                  (subst (λ way. IsLatest p M view way (elem_of v.0)) (sym w) (subst (λ y. IsLatest p M view (by_values end.way) y) (sym v.2) q))))),
            );
        none =
            let z = none-counts p M h view visible (map elem_of vs ++ []) fit seen typed txs history stamps end.way end.fit (read []) in
            let w = keys-way M (map elem_of vs ++ []) end.way (read []) in
            ((λ k. subst (λ way. NoneAssigns p M view way) w (z.1 (none-gives.0 k))), λ k. none-gives.1 (z.0 (subst (λ way. NoneAssigns p M view way) (sym w) k)));
      }

      told : Told (RegisterTells p M view n query.result (map elem_of vs)) (register_of p query (map elem_of vs))
      told = subst (λ o. Told (RegisterTells p M view n query.result (map elem_of vs)) o) (sym register-is) tells

  pub registers-met : RegistersTell p M view
  registers-met n query at is =
      each-values query.args [] (λ given. Told (RegisterTells p M view n query.result given) (register_of p query given))
      (query-ordinary p (facts p formed) n query at) (λ vs f. told n query at is vs f)
