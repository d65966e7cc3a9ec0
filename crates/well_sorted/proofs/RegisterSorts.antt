-- The axiom of registers is well sorted.
use Rattle.std.proofs.Common.{◌≡◌, ◌≤◌, ℕ, zero, suc, ◌+◌, ◌-◌, append_assoc, List, [], ◌∷◌, ◌++◌, map, slice_get, Bool, true, false, if◌then◌else◌, Option, Some, None, refl, sym, ap, ◌∙◌, subst, eq-eqb, arith}
use Rattle.std.specs.Option.{option_map}
use Rattle.std.proofs.lemmas.Bool.{and_parts, and_from}
use Rattle.std.proofs.lemmas.Option.{same_Some}
use Rattle.std.proofs.lemmas.List.{append-nil}
use Rattle.rp_value.specs.declared.tables.Ty.{Ty}
use Rattle.rp_lang.specs.Crdts.{Cr, SetAw, SetRw, Reg, MvReg, Counter, MapUw, MapDw, Struct}
use Rattle.rp_lang.specs.declared.op.OpKind.TheVariants.{Assign}
use Rattle.rp_lang.specs.declared.op.PathStep.{PathStep}
use Rattle.rp_lang.specs.declared.op.PathStep.TheVariants.{Field, Key}
use Rattle.rp_lang.specs.declared.query.QueryDecl.{QueryDecl}
use Rattle.rp_lang.specs.declared.query.QueryKind.{QueryKind}
use Rattle.rp_lang.specs.declared.query.QueryKind.TheVariants.{Contains, HasKey, GetReg, GetSum}
use Rattle.rp_lang.specs.Paths.{is_crdt, stepped, reached, own_args, root_crdt, field_in, query_stands}
use Rattle.rp_lang.specs.Types.{is_ordinary, are_ordinary, is_maybe_of}
use Rattle.rp_lang.specs.Typing.{is_get}
use Rattle.rp_lang.specs.Programs.{Rt, Prog}
use Rattle.rp_lang.specs.WellFormed.{is_well_formed}
use Rattle.rp_lang.proofs.ProgramFacts.{op-is}
use Rattle.rp_lang.proofs.TypeFacts.{each}
use Rattle.crdt_defs.specs.Queries.{held_in, winner_in}
use Rattle.event_machine.proofs.ProgramFacts.{maybe-of}
use Rattle.rp_logic.specs.Terms.{Tm, Var, Con, no_tm, also_tm}
use Rattle.rp_logic.specs.Formulas.{Fm, no_fm}
use Rattle.rp_logic.specs.Filling.{raised}
use Rattle.rp_logic.specs.Signatures.{Signature}
use Rattle.rp_logic.specs.Sorted.{has_sort, have_sorts, IsSorted}
use Rattle.rp_logic.proofs.KeptSorts.{raised-sort}
use Rattle.rp_logic.proofs.SortLaws.{no}
use Rattle.refute_defs.specs.Closed.{AreWellSorted}
use Rattle.rp_symbols.specs.Numbers.{call_sort, stamp_rel, val_fn, old_rel, snapshot_rel, part_rel, seen_rel, read_rel, added_rel}
use Rattle.rp_symbols.specs.Signatures.{sort_of, fn_of, sig_of, with_path}
use Rattle.crdt_enc.specs.Builders.{one_fm, tms_of}
use Rattle.crdt_enc.specs.QueryFormulas.{is_kind}
use Rattle.crdt_enc.specs.Places.{At}
use Rattle.crdt_enc.specs.Ways as ways
use Rattle.crdt_enc.specs.Ways.{Way, Root, AtField}
use Rattle.crdt_enc.specs.means.Counting.{Both, terms, EachKey}
use Rattle.crdt_enc.proofs.AskFacts.{ops-stand}
use Rattle.crdt_enc.proofs.ProgramLaws.{leaf-fits, root-along}
use Rattle.crdt_enc.proofs.StageFacts.{query-is, root-fine}
use Rattle.hist_struct.specs.Axioms.{implied, rel, differ}
use Rattle.hist_struct.specs.Defaults.{default_val}
use Rattle.hist_struct.specs.Snapshots.{before_at, after_at}
use Rattle.hist_struct.specs.Registers.{mapped, Register, register_here, register_at, register_of, is_register, all_in, same_truth, is_latest, none_assigns, value_of, gives_some, gives_none, register_tells, told, query_tells, queries_tell, registers_tell, registers_of_views, registers_of_added, registers_are_told}
use Rattle.hist_struct.proofs.DefaultLaws.{default-is}
use Rattle.hist_struct.proofs.OrdinaryLaws.{query-ordinary}
use Rattle.hist_struct.proofs.RegisterEnds.{RegEnd, reg-end}
use Rattle.well_sorted.proofs.Pieces.{under_calls, have-both, fn-sorted, pair-sorted}
use Rattle.well_sorted.proofs.AxiomPieces.{each-both, implied-sorted}
use Rattle.well_sorted.proofs.QueryLaw.{zipped, zipped-is}
use Rattle.well_sorted.proofs.QuerySorts.{Typed, some-call-sorted, each-call-sorted, of-kind, of-any}
use Rattle.well_sorted.proofs.TermSorts.{Setting, setting, OfType, own-sorted, sort-below}
use Rattle.well_sorted.proofs.SignatureLaws.{symbols, old-place, part-place, snapshot-place, seen-place, read-place, added-place}
use Rattle.well_sorted.specs.Symbols.{HasSymbols, HasPlace}

-- # Ways with other keys

abbrev moved : {K L : Type 0} → (K → L) → Register K → Register L
moved f r = record { ty = r.ty; way = mapped f r.way }

moved-here : {K L : Type 0} (f : K → L) (crdt : Cr) (way : Way K) → register_here crdt (mapped f way) ≡ option_map (moved f) (register_here crdt way)
moved-here f (Reg ty) way = refl
moved-here f (SetAw ty) way = refl
moved-here f (SetRw ty) way = refl
moved-here f (MvReg ty) way = refl
moved-here f Counter way = refl
moved-here f (MapUw keys held) way = refl
moved-here f (MapDw keys held) way = refl
moved-here f (Struct fields) way = refl

moved-at : {K L : Type 0} (f : K → L) (crdt : Option Cr) (path : List PathStep) (way : Way K) (given : List K)
    → register_at crdt path (mapped f way) (map f given) ≡ option_map (moved f) (register_at crdt path way given)
moved-at f None path way given = refl
moved-at f (Some crdt) [] way given = moved-here f crdt way
moved-at f (Some crdt) (Field n ∷ path) way given = moved-at f (field_in crdt n) path (AtField n way) given
moved-at f (Some crdt) (Key ty ∷ path) way [] = refl
moved-at f (Some crdt) (Key ty ∷ path) way (k ∷ given) = moved-at f (held_in crdt) path (ways.AtKey (winner_in crdt) k way) given

leaf-Reg : (ty : Ty) (step : PathStep) → stepped (Reg ty) step ≡ None
leaf-Reg ty (Field n) = refl
leaf-Reg ty (Key t) = refl

register-is : (kind : QueryKind) → is_register kind ≡ true → (kind ≡ GetReg) × (is_get kind ≡ true)
register-is GetReg h = (refl, refl)
register-is GetSum h = no h
register-is Contains h = no h
register-is HasKey h = no h

module _ (p : Prog) (g : Setting p) (stamps : slice_get g.sig.rels stamp_rel ≡ Some (call_sort ∷ call_sort ∷ [])) where
  abbrev Fine : List ℕ → Fm → Type 0
  Fine scope f = IsSorted g.sig g.added scope f

  abbrev Have : List ℕ → List ℕ → List Tm → Type 0
  Have scope ss ts = have_sorts g.sig g.added scope ss (tms_of ts) ≡ true

  raised-list : (scope : List ℕ) (s : ℕ) (ss : List ℕ) (ts : List Tm) → Have scope ss ts → Have (s ∷ scope) ss (map (raised 1) ts)
  raised-list scope s [] [] h = refl
  raised-list scope s [] (t ∷ ts) h = no h
  raised-list scope s (d ∷ ss) [] h = no h
  raised-list scope s (d ∷ ss) (t ∷ ts) h =
      let b = and_parts (has_sort g.sig g.added scope d t) (have_sorts g.sig g.added scope ss (tms_of ts)) h in
      and_from (has_sort g.sig g.added (s ∷ scope) d (raised 1 t)) _ (raised-sort t g.sig g.added scope s d ∙ b.0) (raised-list scope s ss ts b.1)

  -- of all elements of these sorts
  all-in-sorted : (tys : List Ty) (done : List ℕ) (scope : List ℕ) (given : List Tm) (f : List Tm → Fm) → are_ordinary p.types tys ≡ true → Have scope done given
      → ((scope : List ℕ) (given : List Tm) → Have scope (done ++ map (sort_of p) tys) given → Fine scope (f given)) → Fine scope (all_in (map (sort_of p) tys) given f)
  all-in-sorted [] done scope given f o h k = k scope given (ap (λ ss. have_sorts g.sig g.added scope ss (tms_of given)) (append-nil done) ∙ h)
  all-in-sorted (t ∷ tys) done scope given f o h k =
      let b = and_parts (is_ordinary p.types t) (are_ordinary p.types tys) o in
      let s = sort_of p t in (
        sort-below p g t b.0,
        all-in-sorted tys (done ++ s ∷ []) (s ∷ scope) (map (raised 1) given ++ Var 0 ∷ []) f b.1
            (have-both g.sig g.added (s ∷ scope) done (map (raised 1) given) (s ∷ []) (Var 0 ∷ []) (raised-list scope s done given h)
            (and_from (has_sort g.sig g.added (s ∷ scope) s (Var 0)) true (eq-eqb s s refl) refl))
            (λ scope given w. k scope given (ap (λ ss. have_sorts g.sig g.added scope ss (tms_of given)) (sym (append_assoc done (s ∷ []) (map (sort_of p) tys))) ∙ w)),
      )

  -- # One query

  module _ (n : ℕ) (query : QueryDecl) (at : slice_get p.queries n ≡ Some query) (is : is_register query.kind ≡ true) where
    fine : (c : Cr) → root_crdt (slice_get p.roots query.root) ≡ Some c → is_crdt p.types c ≡ true
    fine = root-fine p g.facts (slice_get p.roots query.root) (λ root q. each (λ (root : Rt). is_crdt p.types root.crdt) p.roots query.root root (and_parts _ _ g.facts.roots).1 q)

    stands : query_stands p.types p.cons GetReg (reached (root_crdt (slice_get p.roots query.root)) query.path) (own_args query.path query.args) query.result ≡ true
    stands =
        ap (λ kind. query_stands p.types p.cons kind (reached (root_crdt (slice_get p.roots query.root)) query.path) (own_args query.path query.args) query.result) (sym (register-is query.kind is).0)
        ∙ (and_parts _ _ (query-is p g.facts n query at)).1

    abbrev Args : List ℕ → List Tm → Type 0
    Args scope given = Have scope (map (sort_of p) query.args) given

    record End (scope : List ℕ) (given : List Tm) : Type 1 where
      end : RegEnd p [] (λ c. false) (root_crdt (slice_get p.roots query.root)) query.path (Root query.root) (zipped p query.args given) query.result
      typed : EachKey (Typed p g.sig g.added g.has g.at.view g.place.view scope) end.way
      found : register_of p query given ≡ Some (record { ty = end.ty; way = terms end.way })

    end-of : (scope : List ℕ) (given : List Tm) → Args scope given → End scope given
    end-of scope given h =
        let z = zipped-is p g scope query.args given (query-ordinary p g.facts n query at) h in
        let e = reg-end p [] (λ c. false) (root_crdt (slice_get p.roots query.root)) query.path (Root query.root) (zipped p query.args given) query.args query.result tt
        (root-along p (ops-stand p (λ o decl q. op-is p.roots p.ops o decl g.facts.ops q)) query.root) fine stands z.fit in
        record {
          end = e;
          typed = e.keep (Typed p g.sig g.added g.has g.at.view g.place.view scope) tt z.typed;
          found = ap (register_at (root_crdt (slice_get p.roots query.root)) query.path (Root query.root)) (sym z.terms) ∙ e.is;
        }

    -- the assigns that count
    latest-of : (scope : List ℕ) (given : List Tm) → (e : End scope given) → (x : Tm) → OfType p g scope e.end.ty x → Fine scope (is_latest p g.at.view (terms e.end.way) x)
    latest-of scope given e x h =
        let way = e.end.way in
        let v = default_val p e.end.ty in
        let fit = default-is p g.formed e.end.ty e.end.ordinary in
        let both : Both = record { term = x; val = v } in
        let last = implied (one_fm (differ 0 1)) (rel stamp_rel 0 1) in
        let deep = under_calls 2 scope in
        some-call-sorted p g.sig g.added g.has g.at.view g.place.view scope way e.end.fit e.typed 0 (is_kind Assign) (x ∷ []) _
        (of-kind p g.sig g.added g.has g.at.view g.place.view scope way e.end.fit e.typed Assign both (record { ty = e.end.ty; fit = fit; sorted = h })
        (leaf-fits p way (Reg e.end.ty) Assign e.end.ty v e.end.along (λ step. leaf-Reg e.end.ty step) refl refl fit)) (
          each-call-sorted p g.sig g.added g.has g.at.view g.place.view scope way e.end.fit e.typed 1 (is_kind Assign) [] (one_fm last)
              (of-any p g.sig g.added g.has g.at.view g.place.view scope way e.end.fit e.typed (is_kind Assign)) (
                implied-sorted g.sig g.added deep (one_fm (differ 0 1)) (rel stamp_rel 0 1) ((call_sort, refl, refl), tt)
                    (pair-sorted g.sig g.added deep true stamp_rel call_sort call_sort (Var 0) (Var 1) stamps refl refl),
                tt,
              ),
          tt,
        )

    none-of : (scope : List ℕ) (given : List Tm) → (e : End scope given) → Fine scope (none_assigns p g.at.view (terms e.end.way))
    none-of scope given e =
        each-call-sorted p g.sig g.added g.has g.at.view g.place.view scope e.end.way e.end.fit e.typed 0 (is_kind Assign) [] no_fm
        (of-any p g.sig g.added g.has g.at.view g.place.view scope e.end.way e.end.fit e.typed (is_kind Assign)) tt

    -- what is said of a register that was found
    record Says (scope : List ℕ) (r : Register Tm) : Type 0 where
      ordinary : is_ordinary p.types r.ty ≡ true
      maybe : is_maybe_of p.types p.cons r.ty query.result ≡ true
      latest : (x : Tm) → OfType p g scope r.ty x → Fine scope (is_latest p g.at.view r.way x)
      none : Fine scope (none_assigns p g.at.view r.way)

    says : (scope : List ℕ) (given : List Tm) → Args scope given → (r : Register Tm) → register_of p query given ≡ Some r → Says scope r
    says scope given h r q =
        let e = end-of scope given h in
        subst (Says scope) (same_Some (record { ty = e.end.ty; way = terms e.end.way }) r (sym e.found ∙ q))
        (record { ordinary = e.end.ordinary; maybe = e.end.maybe; latest = latest-of scope given e; none = none-of scope given e })

    value-sorted : (scope : List ℕ) (given : List Tm) → Args scope given → OfType p g scope query.result (value_of p g.at.view n given)
    value-sorted scope given h =
        fn-sorted g.sig g.added scope (val_fn p g.at.view n) (fn_of (map (sort_of p) query.args) (sort_of p query.result)) (tms_of given) (g.place.vals n query at (register-is query.kind is).1) h

    some-sorted : (scope : List ℕ) (given : List Tm) (r : Register Tm) → Args scope given → is_maybe_of p.types p.cons r.ty query.result ≡ true → (x : Tm) → OfType p g scope r.ty x
        → Fine scope (gives_some p g.at.view n query.result given x)
    some-sorted scope given r h m x k =
        let maybe = maybe-of p g.facts r.ty query.result m in (
          sort_of p query.result,
          value-sorted scope given h,
          subst (λ c. OfType p g scope query.result (Con c (also_tm x no_tm))) (sym maybe.some_is)
              (own-sorted p g scope maybe.some (also_tm x no_tm) query.result maybe.some_makes
              (ap (λ ts. have_sorts g.sig g.added scope (map (sort_of p) ts) (also_tm x no_tm)) maybe.some_fields ∙ and_from (has_sort g.sig g.added scope (sort_of p r.ty) x) true k refl)),
        )

    none-sorted : (scope : List ℕ) (given : List Tm) (r : Register Tm) → Args scope given → is_maybe_of p.types p.cons r.ty query.result ≡ true → Fine scope (gives_none p g.at.view n query.result given)
    none-sorted scope given r h m =
        let maybe = maybe-of p g.facts r.ty query.result m in (
          sort_of p query.result,
          value-sorted scope given h,
          subst (λ c. OfType p g scope query.result (Con c no_tm)) (sym maybe.none_is)
              (own-sorted p g scope maybe.none no_tm query.result maybe.none_makes (ap (λ ts. have_sorts g.sig g.added scope (map (sort_of p) ts) no_tm) maybe.none_fields)),
        )

    same-sorted : (scope : List ℕ) (a b : Fm) → Fine scope a → Fine scope b → Fine scope (same_truth a b)
    same-sorted scope a b h k =
        (implied-sorted g.sig g.added scope (one_fm a) b (h, tt) k, (implied-sorted g.sig g.added scope (one_fm b) a (k, tt) h, tt))

    tells-sorted : (scope : List ℕ) (given : List Tm) → Args scope given → (r : Register Tm) → register_of p query given ≡ Some r → Fine scope (register_tells p g.at.view n query.result given r)
    tells-sorted scope given h r q =
        let s = says scope given h r q in
        let inner = sort_of p r.ty ∷ scope in
        let args = raised-list scope (sort_of p r.ty) (map (sort_of p) query.args) given h in
        let below = says inner (map (raised 1) given) args (moved (raised 1) r)
        (moved-at (raised 1) (root_crdt (slice_get p.roots query.root)) query.path (Root query.root) given ∙ ap (option_map (moved (raised 1))) q) in
        let x : OfType p g inner r.ty (Var 0) = eq-eqb (sort_of p r.ty) (sort_of p r.ty) refl in (
          (
            sort-below p g r.ty s.ordinary,
            same-sorted inner (gives_some p g.at.view n query.result (map (raised 1) given) (Var 0)) (is_latest p g.at.view (mapped (raised 1) r.way) (Var 0))
                (some-sorted inner (map (raised 1) given) r args s.maybe (Var 0) x) (below.latest (Var 0) x),
          ),
          (same-sorted scope (gives_none p g.at.view n query.result given) (none_assigns p g.at.view r.way) (none-sorted scope given r h s.maybe) s.none, tt),
        )

    told-sorted : (scope : List ℕ) (given : List Tm) → Args scope given → (o : Option (Register Tm)) → register_of p query given ≡ o → Fine scope (told (register_tells p g.at.view n query.result given) o)
    told-sorted scope given h None q = tt
    told-sorted scope given h (Some r) q = tells-sorted scope given h r q

    pub query-tells : Fine [] (query_tells p g.at.view n query)
    query-tells =
        all-in-sorted query.args [] [] [] (λ given. told (register_tells p g.at.view n query.result given) (register_of p query given)) (query-ordinary p g.facts n query at) refl
        (λ scope given h. told-sorted scope given h (register_of p query given) refl)

-- # All queries, at each view

tell-each : (p : Prog) (S : Signature) (at : At) → (w : is_well_formed p ≡ true) → (has : HasSymbols p S) → (place : HasPlace p S at) → slice_get S.rels stamp_rel ≡ Some (call_sort ∷ call_sort ∷ []) → (n : ℕ) (queries : List QueryDecl)
    → ((j : ℕ) (query : QueryDecl) → slice_get queries j ≡ Some query → slice_get p.queries (n + j) ≡ Some query) → AreWellSorted S (queries_tell p at.view n queries)
tell-each p S at w has place stamps n [] there = tt
tell-each p S at w has place stamps n (query ∷ queries) there =
    go (is_register query.kind) refl (tell-each p S at w has place stamps (suc n) queries (λ j q a. ap (slice_get p.queries) (let z : suc n + j ≡ n + suc j = omega arith in z) ∙ there (suc j) q a))
  where
    here : slice_get p.queries n ≡ Some query
    here = ap (slice_get p.queries) (let z : n ≡ n + 0 = omega arith in z) ∙ there 0 query refl

    go : (b : Bool) → is_register query.kind ≡ b → AreWellSorted S (queries_tell p at.view (suc n) queries)
        → AreWellSorted S ((if b then query_tells p at.view n query ∷ [] else []) ++ queries_tell p at.view (suc n) queries)
    go true i r = (query-tells p (setting p S [] at w has place) stamps n query here i, r)
    go false i r = r

tell-at : (p : Prog) (S : Signature) (at : At) → is_well_formed p ≡ true → HasSymbols p S → HasPlace p S at → slice_get S.rels stamp_rel ≡ Some (call_sort ∷ call_sort ∷ []) → AreWellSorted S (registers_tell p at.view)
tell-at p S at w has place stamps = tell-each p S at w has place stamps 0 p.queries (λ j q a. ap (slice_get p.queries) (let z : 0 + j ≡ j = omega arith in z) ∙ a)

module _ (p : Prog) (w : is_well_formed p ≡ true) (views : ℕ) (consts : List ℕ) (reads : ℕ) where
  abbrev S : Signature
  S = with_path p consts reads (sig_of p views)

  tell : (at : At) → HasPlace p S at → AreWellSorted S (registers_tell p at.view)
  tell at place = tell-at p S at w (symbols p views reads consts) place refl

  views-tell : (n : ℕ) → n ≤ views - 1 → AreWellSorted S (registers_of_views p n)
  views-tell zero l = tt
  views-tell (suc n) l =
      each-both S (registers_tell p (seen_rel p n)) (registers_tell p (read_rel p n) ++ registers_of_views p n) (tell (before_at (seen_rel p n)) (seen-place p views reads consts n (omega (arith, l))))
      (each-both S (registers_tell p (read_rel p n)) (registers_of_views p n) (tell (before_at (read_rel p n)) (read-place p views reads consts n (omega (arith, l)))) (views-tell n (omega (arith, l))))

  added-tell : (n : ℕ) → n ≤ reads → AreWellSorted S (registers_of_added p (views - 1) n)
  added-tell zero l = tt
  added-tell (suc n) l =
      each-both S (registers_tell p (added_rel p (views - 1) n)) (registers_of_added p (views - 1) n) (tell (before_at (added_rel p (views - 1) n)) (added-place p views reads consts n (omega (arith, l))))
      (added-tell n (omega (arith, l)))

  pub registers_are_told-sorted : AreWellSorted S (registers_are_told p (views - 1) reads)
  registers_are_told-sorted =
      let late = registers_of_views p (views - 1) ++ registers_of_added p (views - 1) reads in
      each-both S (registers_tell p old_rel) (registers_tell p snapshot_rel ++ (registers_tell p part_rel ++ late)) (tell (before_at old_rel) (old-place p views reads consts))
      (each-both S (registers_tell p snapshot_rel) (registers_tell p part_rel ++ late) (tell (after_at snapshot_rel) (snapshot-place p views reads consts))
      (each-both S (registers_tell p part_rel) late (tell (before_at part_rel) (part-place p views reads consts))
      (each-both S (registers_of_views p (views - 1)) (registers_of_added p (views - 1) reads) (views-tell (views - 1) (omega arith)) (added-tell reads (omega arith)))))
