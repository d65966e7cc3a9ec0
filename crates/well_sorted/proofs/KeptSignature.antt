-- The signature of a program, with what a path adds, keeps what a signature keeps.
use Rattle.std.proofs.Common.{◌≡◌, ◌<◌, ℕ, zero, suc, ◌+◌, ◌-◌, nat_lt, nat_le, cond, if◌then◌else◌, Bool, true, false, ◌&&◌, List, [], ◌∷◌, ◌++◌, length, map, filter, count_by, Option, Some, None, slice_get, refl, sym, ap, ◌∙◌, subst, lt-ltb, ltb-true, arith}
use Rattle.std.specs.List.{list_all}
use Rattle.std.proofs.lemmas.Bool.{and_parts, and_from}
use Rattle.std.proofs.lemmas.List.{append-nil}
use Rattle.std.proofs.lemmas.List.Sums.{sum_by-cons}
use Rattle.std.proofs.lemmas.Option.{none-some, same_Some}
use Rattle.rp_value.specs.declared.tables.Ty.{Ty}
use Rattle.rp_value.specs.declared.tables.Ty.TheVariants as ty
use Rattle.rp_value.specs.declared.tables.AtomType.{AtomType}
use Rattle.rp_value.specs.declared.tables.DataDecl.{DataDecl}
use Rattle.rp_lang.specs.declared.query.QueryDecl.{QueryDecl}
use Rattle.rp_lang.specs.declared.query.QueryKind.{QueryKind}
use Rattle.rp_lang.specs.declared.query.QueryKind.TheVariants.{Contains, HasKey, GetReg, GetSum}
use Rattle.rp_lang.specs.Crdts.{Cr}
use Rattle.rp_lang.specs.Paths.{value_of, is_maybe_in, query_fits, is_query}
use Rattle.rp_lang.specs.Types.{is_ordinary, are_ordinary, cons_in, are_none_and_some}
use Rattle.rp_lang.specs.Typing.{is_get}
use Rattle.rp_lang.specs.Programs.{Prog}
use Rattle.rp_lang.specs.WellFormed.{is_well_formed}
use Rattle.rp_lang.proofs.ProgramFacts.{Facts, facts}
use Rattle.rp_lang.proofs.TypeFacts.{each}
use Rattle.event_machine.proofs.AnswerFits.{query-leads, counter-is}
use Rattle.event_machine.proofs.PlaceLemmas.{at-lt, at-exists}
use Rattle.rp_logic.specs.declared.sort.Sort.{Sort}
use Rattle.rp_logic.specs.declared.sort.Sort.TheVariants as so
use Rattle.rp_logic.specs.declared.sort.LogicCon.{LogicCon}
use Rattle.rp_logic.specs.Signatures.{is_int, is_str, listed, contains, are_own, are_below, is_fn_within, is_con_within, list_their_own, are_listed, are_of_sorts, has_one_int_and_str, is_signature}
use Rattle.rp_logic.proofs.SortLaws.{no}
use Rattle.rp_symbols.specs.Numbers.{call_sort, inv_sort, atom_sort, int_sort, str_sort, data_sort, op_sort, info_sort, outcome_sort, op_con, info_con, unreturned_con, outcome_con}
use Rattle.rp_symbols.specs.Signatures.{sort_of, from, atom_sorts, data_sorts, record_sorts, sorts_of, con_decls, id_decls, set_decl, set_decls, rel_decls, fn_of, val_decls, val_decls_at, fn_decls, const_decls}
use Rattle.rp_symbols.proofs.Stand.{atoms-stand, ints-stand, strings-stand, datatypes-stand, operations-sort, records-sort, outcomes-sort}
use Rattle.hist_struct.proofs.ConFields.{con-data}
use Rattle.hist_struct.proofs.FitLaws.{map-at}
use Rattle.hist_struct.proofs.OrdinaryLaws.{query-ordinary}
use Rattle.hist_struct.proofs.SortKinds.{ConKind, is_own, is_op, is_info, is_outcome, con-kind}
use Rattle.well_sorted.proofs.KeptLists.{all-from, all-both, filtered-at, listed-from, con-listed, own-from, sort-owns}

abbrev EachTrue : {A : Type 0} → (A → Bool) → List A → Type 0
EachTrue test [] = Unit {0}
EachTrue test (x ∷ xs) = (test x ≡ true) × EachTrue test xs

each-true : {A : Type 0} (test : A → Bool) (xs : List A) → EachTrue test xs → list_all test xs ≡ true
each-true test [] h = refl
each-true test (x ∷ xs) h = and_from (test x) (list_all test xs) h.0 (each-true test xs h.1)

true-each : {A : Type 0} (test : A → Bool) (xs : List A) → list_all test xs ≡ true → EachTrue test xs
true-each test [] h = tt
true-each test (x ∷ xs) h = let b = and_parts (test x) (list_all test xs) h in (b.0, true-each test xs b.1)

-- # Sorts that are named exist

module _ (p : Prog) (f : Facts p) where
  abbrev many : ℕ
  many = length (sorts_of p)

  abbrev Below : ℕ → Type 0
  Below s = nat_lt s many ≡ true

  there : (s : ℕ) (z : Sort) → slice_get (sorts_of p) s ≡ Some z → Below s
  there s z e = lt-ltb s many (at-lt (sorts_of p) s z e)

  call-below : Below call_sort
  call-below = there call_sort so.Plain refl

  inv-below : Below inv_sort
  inv-below = there inv_sort so.Plain refl

  int-below : Below (int_sort p)
  int-below = there (int_sort p) so.Int (ints-stand p)

  op-below : Below (op_sort p)
  op-below = there (op_sort p) _ (operations-sort p)

  info-below : Below (info_sort p)
  info-below = there (info_sort p) _ (records-sort p)

  outcome-below : Below (outcome_sort p)
  outcome-below = there (outcome_sort p) _ (outcomes-sort p)

  atom-below : (n : ℕ) → n < length p.types.atoms → Below (atom_sort n)
  atom-below n l = there (atom_sort n) so.Plain (atoms-stand p n l)

  data-below : (d : ℕ) → d < length p.types.datatypes → Below (data_sort p d)
  data-below d l = let decl = at-exists p.types.datatypes d l in there (data_sort p d) _ (datatypes-stand p d decl.0 decl.1)

  type-below : (t : Ty) → is_ordinary p.types t ≡ true → Below (sort_of p t)
  type-below ty.Int o = int-below
  type-below ty.Str o = there (str_sort p) so.Str (strings-stand p)
  type-below (ty.Atom n) o = atom-below n (ltb-true n (length p.types.atoms) o)
  type-below (ty.Datatype d) o = data-below d (ltb-true d (length p.types.datatypes) o)
  type-below _ o = no o

  types-below : (tys : List Ty) → are_ordinary p.types tys ≡ true → are_below many (map (sort_of p) tys) ≡ true
  types-below [] o = refl
  types-below (t ∷ tys) o =
      let b = and_parts (is_ordinary p.types t) (are_ordinary p.types tys) o in and_from (nat_lt (sort_of p t) many) (are_below many (map (sort_of p) tys)) (type-below t b.0) (types-below tys b.1)

  one : (s : ℕ) → Below s → are_below many (s ∷ []) ≡ true
  one s h = and_from (nat_lt s many) true h refl

  two : (s t : ℕ) → Below s → Below t → are_below many (s ∷ t ∷ []) ≡ true
  two s t h k = and_from (nat_lt s many) (are_below many (t ∷ [])) h (one t k)

  fn : (args : List ℕ) (r : ℕ) → are_below many args ≡ true → Below r → is_fn_within many (fn_of args r) ≡ true
  fn args r h k = and_from (are_below many args) (nat_lt r many) h k

  -- # Functions of queries

  maybe-range : (d : ℕ) (t : Ty) (o : Option DataDecl) → slice_get p.types.datatypes d ≡ o → are_none_and_some p.cons t (cons_in o) ≡ true → d < length p.types.datatypes
  maybe-range d t None e h = no h
  maybe-range d t (Some decl) e h = at-lt p.types.datatypes d decl e

  result-below : (o : Option Ty) (t : Ty) → is_maybe_in p.types p.cons o t ≡ true → Below (sort_of p t)
  result-below None t h = no h
  result-below (Some u) (ty.Datatype d) h = data-below d (maybe-range d u (slice_get p.types.datatypes d) refl h)
  result-below (Some u) _ h = no h

  answer-below : (n : ℕ) (query : QueryDecl) → slice_get p.queries n ≡ Some query → is_get query.kind ≡ true → Below (sort_of p query.result)
  answer-below n query at get =
      let ends = query-leads p query (each (is_query p.types p.cons p.roots) p.queries n query f.queries at) in go query.kind get ends.crdt ends.own ends.fit
    where
      go : (kind : QueryKind) → is_get kind ≡ true → (crdt : Cr) (own : List Ty) → query_fits p.types p.cons kind crdt own query.result ≡ true → Below (sort_of p query.result)
      go GetReg g crdt own h = result-below (value_of crdt) query.result (and_parts _ _ h).1
      go GetSum g crdt own h = let c = counter-is crdt query.result (and_parts _ _ h).1 in subst (λ t. Below (sort_of p t)) (sym c.1) int-below
      go Contains g crdt own h = no g
      go HasKey g crdt own h = no g

  vals-within : list_all (is_fn_within many) (val_decls p) ≡ true
  vals-within = all-from (is_fn_within many) (val_decls p) (λ i d e.
      let q = map-at (λ (query : QueryDecl). fn_of (map (sort_of p) query.args) (sort_of p query.result)) (filter (λ (query : QueryDecl). is_get query.kind) p.queries) i d e in
      let j = filtered-at (λ (query : QueryDecl). is_get query.kind) p.queries i q.0 q.1 in
      ap (is_fn_within many) (sym q.2)
      ∙ fn (map (sort_of p) q.0.args) (sort_of p q.0.result) (types-below q.0.args (query-ordinary p f j.0 q.0 j.1)) (answer-below j.0 q.0 j.1 j.2))

  vals-within-at : (n : ℕ) → list_all (is_fn_within many) (val_decls_at p n) ≡ true
  vals-within-at zero = refl
  vals-within-at (suc n) = all-both (is_fn_within many) (val_decls p) (val_decls_at p n) vals-within (vals-within-at n)

  fns-within : (begins : ℕ) → list_all (is_fn_within many) (fn_decls p begins) ≡ true
  fns-within begins = each-true (is_fn_within many) (fn_decls p begins) (
    fn (call_sort ∷ []) (op_sort p) (one call_sort call-below) op-below,
    (
      fn (call_sort ∷ []) inv_sort (one call_sort call-below) inv-below,
      (
        fn (inv_sort ∷ []) (info_sort p) (one inv_sort inv-below) info-below,
        (
          fn (inv_sort ∷ []) (outcome_sort p) (one inv_sort inv-below) outcome-below,
          (
            fn (inv_sort ∷ []) (outcome_sort p) (one inv_sort inv-below) outcome-below,
            (
              fn (int_sort p ∷ int_sort p ∷ []) (int_sort p) (two (int_sort p) (int_sort p) int-below int-below) int-below,
              (
                fn (int_sort p ∷ int_sort p ∷ []) (int_sort p) (two (int_sort p) (int_sort p) int-below int-below) int-below,
                true-each (is_fn_within many) (val_decls_at p (3 + (begins + begins))) (vals-within-at (3 + (begins + begins))),
              ),
            ),
          ),
        ),
      ),
    ),
  )

  -- # Relations

  sets-below : (n : ℕ) → list_all (are_below many) (set_decls n) ≡ true
  sets-below zero = refl
  sets-below (suc n) = and_from (are_below many set_decl) (list_all (are_below many) (set_decls n)) (one call_sort call-below) (sets-below n)

  ids-below : (k : ℕ) (atoms : List AtomType) → ((j : ℕ) (atom : AtomType) → slice_get atoms j ≡ Some atom → slice_get p.types.atoms (k + j) ≡ Some atom) → list_all (are_below many) (id_decls k atoms) ≡ true
  ids-below k [] at = refl
  ids-below k (atom ∷ atoms) at =
      go atom.is_id (ids-below (suc k) atoms (λ j b q. ap (slice_get p.types.atoms) (let z : suc k + j ≡ k + suc j = omega arith in z) ∙ at (suc j) b q))
    where
      here : Below (atom_sort k)
      here = atom-below k (at-lt p.types.atoms k atom (ap (slice_get p.types.atoms) (let z : k ≡ k + 0 = omega arith in z) ∙ at 0 atom refl))

      go : (b : Bool) → list_all (are_below many) (id_decls (suc k) atoms) ≡ true
          → list_all (are_below many) ((if b then (call_sort ∷ atom_sort k ∷ []) ∷ (inv_sort ∷ atom_sort k ∷ []) ∷ (inv_sort ∷ atom_sort k ∷ []) ∷ [] else []) ++ id_decls (suc k) atoms) ≡ true
      go true r =
          let ids = (call_sort ∷ atom_sort k ∷ []) ∷ (inv_sort ∷ atom_sort k ∷ []) ∷ (inv_sort ∷ atom_sort k ∷ []) ∷ [] in
          each-true (are_below many) (ids ++ id_decls (suc k) atoms)
          (two call_sort (atom_sort k) call-below here, (two inv_sort (atom_sort k) inv-below here, (two inv_sort (atom_sort k) inv-below here, true-each (are_below many) (id_decls (suc k) atoms) r)))
      go false r = r

  rels-below : (begins : ℕ) → list_all (are_below many) (rel_decls p begins) ≡ true
  rels-below begins =
      let set = one call_sort call-below in
      let inv = one inv_sort inv-below in
      let pair = two call_sort call_sort call-below call-below in
      let ids = all-both (are_below many) (id_decls 0 p.types.atoms) (set_decls (begins + begins)) (ids-below 0 p.types.atoms (λ j atom a. ap (slice_get p.types.atoms) (let z : 0 + j ≡ j = omega arith in z) ∙ a)) (sets-below (begins + begins)) in
      each-true (are_below many) (rel_decls p begins)
      (set, (set, (inv, (inv, (pair, (pair, (pair, (set, (set, true-each (are_below many) (id_decls 0 p.types.atoms ++ set_decls (begins + begins)) ids)))))))))

  -- # Constructors

  con-sort : (con : LogicCon) → ConKind p con → Below con.sort
  con-sort con (is_own d l e) = subst Below (sym e) (data-below d l)
  con-sort con (is_op e) = subst Below (sym e) op-below
  con-sort con (is_info q a e) = subst Below (sym e) info-below
  con-sort con (is_outcome e) = subst Below (sym e) outcome-below

  cons-within : list_all (is_con_within many) (con_decls p) ≡ true
  cons-within = all-from (is_con_within many) (con_decls p) (λ i con e.
      let d = con-data p f i con e in
      and_from (nat_lt con.sort many) (are_below many con.args) (con-sort con (con-kind p f i con e)) (ap (are_below many) d.args ∙ types-below d.tys d.ordinary))

  consts-below : (views : ℕ) (consts : List ℕ) → are_below many consts ≡ true → are_below many (const_decls views ++ consts) ≡ true
  consts-below zero consts h = h
  consts-below (suc begins) consts h = and_from (nat_lt inv_sort many) (are_below many consts) inv-below h

  of-sorts : (views reads : ℕ) (consts : List ℕ) → are_below many consts ≡ true
      → are_of_sorts many (const_decls views ++ consts) (fn_decls p (views - 1) ++ val_decls_at p reads) (rel_decls p (views - 1) ++ set_decls reads) (con_decls p) ≡ true
  of-sorts views reads consts h =
      let names = are_below many (const_decls views ++ consts) && list_all (is_fn_within many) (fn_decls p (views - 1) ++ val_decls_at p reads) in
      let rels = list_all (are_below many) (rel_decls p (views - 1) ++ set_decls reads) in
      and_from (names && rels) (list_all (is_con_within many) (con_decls p))
      (and_from names rels
      (and_from (are_below many (const_decls views ++ consts)) (list_all (is_fn_within many) (fn_decls p (views - 1) ++ val_decls_at p reads)) (consts-below views consts h)
      (all-both (is_fn_within many) (fn_decls p (views - 1)) (val_decls_at p reads) (fns-within (views - 1)) (vals-within-at reads)))
      (all-both (are_below many) (rel_decls p (views - 1)) (set_decls reads) (rels-below (views - 1)) (sets-below reads)))
      cons-within

-- # One sort of numbers and one of strings

count-more : (test : Sort → Bool) (z : Sort) (zs : List Sort) → count_by test (z ∷ zs) ≡ cond (test z) 1 0 + count_by test zs
count-more test z zs = sum_by-cons (λ z. cond (test z) 1 0) z zs

count-none : (test : Sort → Bool) (zs ys : List Sort) → ((i : ℕ) (z : Sort) → slice_get zs i ≡ Some z → test z ≡ false) → count_by test (zs ++ ys) ≡ count_by test ys
count-none test [] ys h = refl
count-none test (z ∷ zs) ys h =
    let here : cond (test z) 1 0 ≡ 0 = ap (λ b. cond {A = ℕ} b 1 0) (h 0 z refl) in
    let step = count-more test z (zs ++ ys) in
    let rest = count-none test zs ys (λ i y e. h (suc i) y e) in
    omega (arith, here, step, rest)

record-none : (p : Prog) (test : Sort → Bool) → ((cons : List ℕ) → test (so.Datatype cons) ≡ false) → (i : ℕ) (z : Sort) → slice_get (record_sorts p) i ≡ Some z → test z ≡ false
record-none p test h zero z e = ap test (sym (same_Some (so.Datatype (from (op_con p 0) (length p.ops))) z e)) ∙ h (from (op_con p 0) (length p.ops))
record-none p test h (suc zero) z e = ap test (sym (same_Some (so.Datatype (from (info_con p 0) (length p.procs))) z e)) ∙ h (from (info_con p 0) (length p.procs))
record-none p test h (suc (suc zero)) z e =
    ap test (sym (same_Some (so.Datatype (unreturned_con p ∷ from (outcome_con p 0) (length p.procs))) z e)) ∙ h (unreturned_con p ∷ from (outcome_con p 0) (length p.procs))
record-none p test h (suc (suc (suc i))) z e = absurd (none-some z e)

one-counted : (p : Prog) (test : Sort → Bool) → test so.Plain ≡ false → ((cons : List ℕ) → test (so.Datatype cons) ≡ false) → (n : ℕ) → count_by test (so.Int ∷ so.Str ∷ []) ≡ n → count_by test (sorts_of p) ≡ n
one-counted p test plain data_ n e =
    let late = data_sorts p.types.datatypes ++ record_sorts p in
    let numbers = so.Int ∷ so.Str ∷ late in
    let atoms = count-none test (atom_sorts p.types.atoms) numbers (λ i z q. let a = map-at (λ (atom : AtomType). so.Plain) p.types.atoms i z q in ap test (sym a.2) ∙ plain) in
    let datas = count-none test (data_sorts p.types.datatypes) (record_sorts p) (λ i z q. let a = map-at (λ (decl : DataDecl). so.Datatype decl.cons) p.types.datatypes i z q in ap test (sym a.2) ∙ data_ a.0.cons) in
    let first = count-more test so.Plain (so.Plain ∷ (atom_sorts p.types.atoms ++ numbers)) in
    let second = count-more test so.Plain (atom_sorts p.types.atoms ++ numbers) in
    let no_plain : cond (test so.Plain) 1 0 ≡ 0 = ap (λ b. cond {A = ℕ} b 1 0) plain in
    let ints = count-more test so.Int (so.Str ∷ late) in
    let strs = count-more test so.Str late in
    let int = count-more test so.Int (so.Str ∷ []) in
    let str = count-more test so.Str [] in
    let none = count-none test (record_sorts p) [] (record-none p test data_) in
    let same = ap (count_by test) (append-nil (record_sorts p)) in
    omega (arith, first, second, no_plain, atoms, ints, strs, datas, none, same, int, str, e)

pub kept : (p : Prog) → is_well_formed p ≡ true → (views reads : ℕ) (consts : List ℕ) → are_below (length (sorts_of p)) consts ≡ true
    → is_signature (sorts_of p) (const_decls views ++ consts) (fn_decls p (views - 1) ++ val_decls_at p reads) (rel_decls p (views - 1) ++ set_decls reads) (con_decls p) ≡ true
kept p w views reads consts h =
    let f = facts p w in
    let counted : has_one_int_and_str (sorts_of p) ≡ true =
    and_from (nat_le (count_by (λ z. is_int (Some z)) (sorts_of p)) 1) (nat_le (count_by (λ z. is_str (Some z)) (sorts_of p)) 1)
    (ap (λ n. nat_le n 1) (one-counted p (λ z. is_int (Some z)) refl (λ cons. refl) 1 refl)) (ap (λ n. nat_le n 1) (one-counted p (λ z. is_str (Some z)) refl (λ cons. refl) 1 refl)) in
    let sorts = are_of_sorts (length (sorts_of p)) (const_decls views ++ consts) (fn_decls p (views - 1) ++ val_decls_at p reads) (rel_decls p (views - 1) ++ set_decls reads) (con_decls p) in
    let one = has_one_int_and_str (sorts_of p) in
    let own = list_their_own (con_decls p) 0 (sorts_of p) in
    and_from (sorts && one && own) (are_listed (sorts_of p) 0 (con_decls p))
    (and_from (sorts && one) own (and_from sorts one (of-sorts p f views reads consts h) counted)
    (own-from (con_decls p) 0 (sorts_of p) (λ i z e. ap (λ s. are_own (con_decls p) s (listed (Some z))) (let q : 0 + i ≡ i = omega arith in q) ∙ sort-owns p f i z e)))
    (listed-from (sorts_of p) 0 (con_decls p) (λ i con e. ap (contains (listed (slice_get (sorts_of p) con.sort))) (let q : 0 + i ≡ i = omega arith in q) ∙ con-listed p f i con e))
