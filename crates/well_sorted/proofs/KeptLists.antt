-- The signature of a program, with what a path adds, keeps what a signature keeps.
use Rattle.std.proofs.Common.{◌≡◌, ◌≤◌, ◌<◌, inl, inr, ℕ, zero, suc, ◌+◌, ◌==◌, nat_lt, not, if◌then◌else◌, Bool, true, false, ◌||◌, List, [], ◌∷◌, ◌++◌, length, map, filter, Some, slice_get, refl, sym, ap, ◌∙◌, subst, eqb-true, eq-eqb, ne_eqb, ltb-true, ltb-false, true≢false, arith}
use Rattle.std.specs.List.{list_all}
use Rattle.std.proofs.lemmas.Bool.{and_parts, and_from}
use Rattle.std.proofs.lemmas.List.{length-map}
use Rattle.std.proofs.lemmas.Option.{none-some, same_Some}
use Rattle.rp_value.specs.declared.tables.Ty.TheVariants as ty
use Rattle.rp_value.specs.declared.tables.ConDecl.{ConDecl}
use Rattle.rp_value.specs.declared.tables.ConTable.{ConTable}
use Rattle.rp_value.specs.declared.tables.DataDecl.{DataDecl}
use Rattle.rp_lang.specs.declared.op.OpDecl.{OpDecl}
use Rattle.rp_lang.specs.Types.{is_ty, is_ordinary, are_ordinary, cons_in, datatype_of, is_run, has_next, are_numbered, are_none_and_some}
use Rattle.rp_lang.specs.Programs.{Prog, Proc}
use Rattle.rp_lang.specs.Types as types
use Rattle.rp_lang.specs.Types.{datatype_in}
use Rattle.rp_lang.proofs.ProgramFacts.{Facts, listed-of}
use Rattle.event_machine.proofs.PlaceLemmas.{at-lt, at-exists, same-or}
use Rattle.rp_logic.specs.declared.sort.Sort.{Sort}
use Rattle.rp_logic.specs.declared.sort.Sort.TheVariants as so
use Rattle.rp_logic.specs.declared.sort.LogicCon.{LogicCon}
use Rattle.rp_logic.specs.Signatures.{listed, is_con_of, contains, are_distinct, are_own, list_their_own, are_listed}
use Rattle.rp_symbols.specs.Numbers.{call_sort, inv_sort, atom_sort, int_sort, str_sort, data_sort, op_sort, info_sort, outcome_sort, op_con, info_con, unreturned_con, outcome_con}
use Rattle.rp_symbols.specs.Signatures.{sort_of, from, sorts_of, con_of, con_decls, result_list}
use Rattle.rp_symbols.proofs.Stand.{atoms-stand, ints-stand, strings-stand, datatypes-stand, operations-sort, records-sort, outcomes-sort, operations-stand, records-stand, unreturned-stands, outcomes-stand}
use Rattle.hist_struct.proofs.FitLaws.{map-at}
use Rattle.hist_struct.proofs.SortKinds.{SortKind, as_call, as_inv, as_atom, as_int, as_str, as_data, as_op, as_info, as_outcome, kind-of, split-at, run-in}
use Rattle.hist_struct.proofs.DefaultLaws.{data_number}
use Rattle.well_sorted.proofs.TermSorts.{con-of-type}

-- # Lists

pub all-from : {A : Type 0} (test : A → Bool) (xs : List A) → ((i : ℕ) (x : A) → slice_get xs i ≡ Some x → test x ≡ true) → list_all test xs ≡ true
all-from test [] h = refl
all-from test (x ∷ xs) h = and_from (test x) (list_all test xs) (h 0 x refl) (all-from test xs (λ i y e. h (suc i) y e))

pub all-both : {A : Type 0} (test : A → Bool) (xs ys : List A) → list_all test xs ≡ true → list_all test ys ≡ true → list_all test (xs ++ ys) ≡ true
all-both test [] ys h k = k
all-both test (x ∷ xs) ys h k = let b = and_parts (test x) (list_all test xs) h in and_from (test x) (list_all test (xs ++ ys)) b.0 (all-both test xs ys b.1 k)

pub filtered-at : {A : Type 0} (test : A → Bool) (xs : List A) (i : ℕ) (x : A) → slice_get (filter test xs) i ≡ Some x → (j : ℕ) × (slice_get xs j ≡ Some x) × (test x ≡ true)
filtered-at test [] i x e = absurd (none-some x e)
filtered-at test (y ∷ ys) i x e = go (test y) refl i e (λ i e. filtered-at test ys i x e)
  where
    go : (b : Bool) → test y ≡ b → (i : ℕ) → slice_get (if b then y ∷ filter test ys else filter test ys) i ≡ Some x
        → ((i : ℕ) → slice_get (filter test ys) i ≡ Some x → (j : ℕ) × (slice_get ys j ≡ Some x) × (test x ≡ true)) → (j : ℕ) × (slice_get (y ∷ ys) j ≡ Some x) × (test x ≡ true)
    go true t zero e rec = (0, e, ap test (sym (same_Some y x e)) ∙ t)
    go true t (suc i) e rec = let r = rec i e in (suc r.0, r.1, r.2)
    go false t i e rec = let r = rec i e in (suc r.0, r.1, r.2)

from-all : (test : ℕ → Bool) (a n : ℕ) → ((j : ℕ) → j < n → test (a + j) ≡ true) → list_all test (from a n) ≡ true
from-all test a zero h = refl
from-all test a (suc n) h =
    and_from (test a) (list_all test (from (suc a) n)) (ap test (let e : a ≡ a + 0 = omega arith in e) ∙ h 0 (omega arith))
    (from-all test (suc a) n (λ j l. ap test (let e : suc a + j ≡ a + suc j = omega arith in e) ∙ h (suc j) (omega (arith, l))))

from-lacks : (a n x : ℕ) → x < a → contains (from a n) x ≡ false
from-lacks a zero x l = refl
from-lacks a (suc n) x l = ap (λ b. b || contains (from (suc a) n) x) (ne_eqb a x (λ e. omega (arith, l, e))) ∙ from-lacks (suc a) n x (omega (arith, l))

from-distinct : (a n : ℕ) → are_distinct (from a n) ≡ true
from-distinct a zero = refl
from-distinct a (suc n) = and_from (not (contains (from (suc a) n) a)) (are_distinct (from (suc a) n)) (ap not (from-lacks (suc a) n a (omega arith))) (from-distinct (suc a) n)

above : (a x : ℕ) → a ≤ x → (a == x) ≡ false → a < x
above a x l e = elim (same-or a x) [
  | inl q ↦ absurd (true≢false (sym (eq-eqb a x q) ∙ e))
  | inr q ↦ omega (arith, l, q)
]

or-later : (a b : Bool) → b ≡ true → a || b ≡ true
or-later true b h = refl
or-later false b h = h

from-has : (a n x : ℕ) → a ≤ x → x < a + n → contains (from a n) x ≡ true
from-has a zero x l k = absurd (omega (arith, l, k))
from-has a (suc n) x l k = go (a == x) refl (λ d. from-has (suc a) n x (omega (arith, d)) (omega (arith, k)))
  where
    go : (b : Bool) → (a == x) ≡ b → (a < x → contains (from (suc a) n) x ≡ true) → (b || contains (from (suc a) n) x) ≡ true
    go true e rec = refl
    go false e rec = rec (above a x l e)

-- # Runs of constructors

run-lacks : (cons : ConTable) (n next : ℕ) (list : List ℕ) (x : ℕ) → is_run cons n next list ≡ true → x < next → contains list x ≡ false
run-lacks cons n next [] x h l = refl
run-lacks cons n next (c ∷ list) x h l =
    let b = and_parts _ (is_run cons n (next + 1) list) h in
    let same = eqb-true c next (and_parts (c == next) (is_ty (datatype_of cons c) (ty.Datatype n)) b.0).0 in
    ap (λ b. b || contains list x) (ne_eqb c x (λ e. omega (arith, l, e, same))) ∙ run-lacks cons n (next + 1) list x b.1 (omega (arith, l))

run-distinct : (cons : ConTable) (n next : ℕ) (list : List ℕ) → is_run cons n next list ≡ true → are_distinct list ≡ true
run-distinct cons n next [] h = refl
run-distinct cons n next (c ∷ list) h =
    let b = and_parts _ (is_run cons n (next + 1) list) h in
    let same = eqb-true c next (and_parts (c == next) (is_ty (datatype_of cons c) (ty.Datatype n)) b.0).0 in
    and_from (not (contains list c)) (are_distinct list) (ap not (run-lacks cons n (next + 1) list c b.1 (omega (arith, same)))) (run-distinct cons n (next + 1) list b.1)

run-has : (cons : ConTable) (n next : ℕ) (list : List ℕ) (c : ℕ) → is_run cons n next list ≡ true → next ≤ c → c < next + length list → contains list c ≡ true
run-has cons n next [] c h l k = absurd (omega (arith, l, k))
run-has cons n next (d ∷ list) c h l k =
    let b = and_parts _ (is_run cons n (next + 1) list) h in
    let same = eqb-true d next (and_parts (d == next) (is_ty (datatype_of cons d) (ty.Datatype n)) b.0).0 in
    elim (same-or d c) [
      | inl e ↦ ap (λ b. b || contains list c) (eq-eqb d c e)
      | inr e ↦ or-later (d == c) (contains list c) (run-has cons n (next + 1) list c b.1 (omega (arith, l, e, same)) (omega (arith, k)))
    ]

run-at : (cons : ConTable) (n next : ℕ) (decls : List DataDecl) (i : ℕ) (decl : DataDecl) → are_numbered cons n next decls ≡ true → slice_get decls i ≡ Some decl → are_distinct decl.cons ≡ true
run-at cons n next [] i decl h at = absurd (none-some decl at)
run-at cons n next (d ∷ decls) zero decl h at =
    ap (λ (d : DataDecl). are_distinct d.cons) (sym (same_Some d decl at)) ∙ run-distinct cons n next d.cons (and_parts _ (is_run cons n next d.cons) (and_parts (has_next cons n next d.cons) _ h).0).1
run-at cons n next (d ∷ decls) (suc i) decl h at = run-at cons (n + 1) (next + length d.cons) decls i decl (and_parts (has_next cons n next d.cons) _ h).1 at

-- each constructor stands in the list of the datatype that it makes
record Stands (cons : ConTable) (n : ℕ) (decls : List DataDecl) (c : ℕ) : Type 0 where
  place : ℕ
  decl : DataDecl
  there : slice_get decls place ≡ Some decl
  has : contains decl.cons c ≡ true
  makes : datatype_of cons c ≡ Some (ty.Datatype (n + place))

stands-in : (cons : ConTable) (n next : ℕ) (decls : List DataDecl) (c : ℕ) → are_numbered cons n next decls ≡ true → next ≤ c → c < length cons.cons → Stands cons n decls c
stands-in cons n next [] c h l k = let e = eqb-true next (length cons.cons) h in absurd (omega (arith, e, l, k))
stands-in cons n next (d ∷ decls) c h l k =
    go (nat_lt c (next + length d.cons)) refl (λ a. stands-in cons (n + 1) (next + length d.cons) decls c (and_parts (has_next cons n next d.cons) _ h).1 a k)
  where
    run : is_run cons n next d.cons ≡ true
    run = (and_parts _ (is_run cons n next d.cons) (and_parts (has_next cons n next d.cons) _ h).0).1

    go : (b : Bool) → nat_lt c (next + length d.cons) ≡ b → (next + length d.cons ≤ c → Stands cons (n + 1) decls c) → Stands cons n (d ∷ decls) c
    go true e rec =
        let below = ltb-true c (next + length d.cons) e in
        record { place = 0; decl = d; there = refl; has = run-has cons n next d.cons c run l below; makes = run-in cons n next d.cons c run l below ∙ ap (λ n. Some (ty.Datatype n)) (let z : n ≡ n + 0 = omega arith in z) }
    go false e rec =
        let r = rec (ltb-false c (next + length d.cons) e) in
        record { place = suc r.place; decl = r.decl; there = r.there; has = r.has; makes = r.makes ∙ ap (λ n. Some (ty.Datatype n)) (let z : n + 1 + r.place ≡ n + suc r.place = omega arith in z) }

own-listed : (p : Prog) → Facts p → (c : ℕ) (con : ConDecl) → slice_get p.cons.cons c ≡ Some con → (decl : DataDecl) × (slice_get p.types.datatypes con.of ≡ Some decl) × (contains decl.cons c ≡ true)
own-listed p f c con e =
    let s = stands-in p.cons 0 0 p.types.datatypes c f.numbered (omega arith) (at-lt p.cons.cons c con e) in
    let same : con.of ≡ 0 + s.place = ap data_number (same_Some (ty.Datatype con.of) (ty.Datatype (0 + s.place)) (sym (ap datatype_in e) ∙ s.makes)) in
    let plain : con.of ≡ s.place = omega (arith, same) in
    (s.decl, ap (slice_get p.types.datatypes) plain ∙ s.there, s.has)

-- # Each constructor is listed by its sort

pub listed-from : (sorts : List Sort) (k : ℕ) (cons : List LogicCon) → ((i : ℕ) (con : LogicCon) → slice_get cons i ≡ Some con → contains (listed (slice_get sorts con.sort)) (k + i) ≡ true) → are_listed sorts k cons ≡ true
listed-from sorts k [] h = refl
listed-from sorts k (con ∷ cons) h =
    and_from (contains (listed (slice_get sorts con.sort)) k) (are_listed sorts (suc k) cons) (ap (contains (listed (slice_get sorts con.sort))) (let z : k ≡ k + 0 = omega arith in z) ∙ h 0 con refl)
    (listed-from sorts (suc k) cons (λ i c e. ap (contains (listed (slice_get sorts c.sort))) (let z : suc k + i ≡ k + suc i = omega arith in z) ∙ h (suc i) c e))

abbrev IsListed : Prog → ℕ → LogicCon → Type 0
IsListed p n con = contains (listed (slice_get (sorts_of p) con.sort)) n ≡ true

-- a constructor of a sort that lists these
by-sort : (p : Prog) (n : ℕ) (con made : LogicCon) (list : List ℕ) → made ≡ con → slice_get (sorts_of p) made.sort ≡ Some (so.Datatype list) → contains list n ≡ true → IsListed p n con
by-sort p n con made list e s h = subst (IsListed p n) e (ap (λ o. contains (listed o) n) s ∙ h)

outcome-listed : (p : Prog) (n i : ℕ) (con : LogicCon) → n ≡ unreturned_con p + i
    → slice_get (con_of (outcome_sort p) [] ∷ map (λ (q : Proc). con_of (outcome_sort p) (map (sort_of p) (result_list q.result))) p.procs) i ≡ Some con → IsListed p n con
outcome-listed p n zero con q e =
    by-sort p n con (con_of (outcome_sort p) []) (unreturned_con p ∷ from (outcome_con p 0) (length p.procs)) (same_Some _ con e) (outcomes-sort p)
    (ap (λ b. b || contains (from (outcome_con p 0) (length p.procs)) n) (eq-eqb (unreturned_con p) n (omega (arith, q))))
outcome-listed p n (suc i) con q e =
    let r = map-at (λ (q : Proc). con_of (outcome_sort p) (map (sort_of p) (result_list q.result))) p.procs i con e in
    let l = at-lt p.procs i r.0 r.1 in
    by-sort p n con (con_of (outcome_sort p) (map (sort_of p) (result_list r.0.result))) (unreturned_con p ∷ from (outcome_con p 0) (length p.procs)) r.2 (outcomes-sort p)
    (or-later (unreturned_con p == n) (contains (from (outcome_con p 0) (length p.procs)) n) (from-has (outcome_con p 0) (length p.procs) n (omega (arith, q)) (omega (arith, q, l))))

pub con-listed : (p : Prog) → Facts p → (n : ℕ) (con : LogicCon) → slice_get (con_decls p) n ≡ Some con → IsListed p n con
con-listed p f n con e = elim (split-at (map (λ (decl : ConDecl). con_of (data_sort p decl.of) (map (sort_of p) decl.fields)) p.cons.cons) _ n con e) [
  | inl h ↦
      let d = map-at (λ (decl : ConDecl). con_of (data_sort p decl.of) (map (sort_of p) decl.fields)) p.cons.cons n con h in
      let s = own-listed p f n d.0 d.1 in
      by-sort p n con (con_of (data_sort p d.0.of) (map (sort_of p) d.0.fields)) s.0.cons d.2 (datatypes-stand p d.0.of s.0 s.1) s.2
  | inr h ↦ let k = h.1 in let c = length-map p.cons.cons (λ (decl : ConDecl). con_of (data_sort p decl.of) (map (sort_of p) decl.fields)) in behind h.0 (omega (arith, k, c)) h.2
]
  where
    last : (i : ℕ) → n ≡ info_con p i → slice_get (map (λ (q : Proc). con_of (info_sort p) (map (sort_of p) q.params)) p.procs
        ++ (con_of (outcome_sort p) [] ∷ map (λ (q : Proc). con_of (outcome_sort p) (map (sort_of p) (result_list q.result))) p.procs)) i ≡ Some con → IsListed p n con
    last i q e = elim (split-at (map (λ (q : Proc). con_of (info_sort p) (map (sort_of p) q.params)) p.procs) _ i con e) [
      | inl h ↦
          let r = map-at (λ (q : Proc). con_of (info_sort p) (map (sort_of p) q.params)) p.procs i con h in
          let l = at-lt p.procs i r.0 r.1 in
          by-sort p n con (con_of (info_sort p) (map (sort_of p) r.0.params)) (from (info_con p 0) (length p.procs)) r.2 (records-sort p) (from-has (info_con p 0) (length p.procs) n (omega (arith, q)) (omega (arith, q, l)))
      | inr h ↦ let k = h.1 in let c = length-map p.procs (λ (q : Proc). con_of (info_sort p) (map (sort_of p) q.params)) in outcome-listed p n h.0 con (omega (arith, q, k, c)) h.2
    ]

    behind : (i : ℕ) → n ≡ op_con p i → slice_get (map (λ (decl : OpDecl). con_of (op_sort p) (map (sort_of p) decl.args)) p.ops
        ++ (map (λ (q : Proc). con_of (info_sort p) (map (sort_of p) q.params)) p.procs
        ++ (con_of (outcome_sort p) [] ∷ map (λ (q : Proc). con_of (outcome_sort p) (map (sort_of p) (result_list q.result))) p.procs))) i ≡ Some con → IsListed p n con
    behind i q e = elim (split-at (map (λ (decl : OpDecl). con_of (op_sort p) (map (sort_of p) decl.args)) p.ops) _ i con e) [
      | inl h ↦
          let r = map-at (λ (decl : OpDecl). con_of (op_sort p) (map (sort_of p) decl.args)) p.ops i con h in
          let l = at-lt p.ops i r.0 r.1 in
          by-sort p n con (con_of (op_sort p) (map (sort_of p) r.0.args)) (from (op_con p 0) (length p.ops)) r.2 (operations-sort p) (from-has (op_con p 0) (length p.ops) n (omega (arith, q)) (omega (arith, q, l)))
      | inr h ↦ let k = h.1 in let c = length-map p.ops (λ (decl : OpDecl). con_of (op_sort p) (map (sort_of p) decl.args)) in last h.0 (omega (arith, q, k, c)) h.2
    ]

-- # Each sort lists constructors of its own

pub own-from : (cons : List LogicCon) (k : ℕ) (sorts : List Sort) → ((i : ℕ) (z : Sort) → slice_get sorts i ≡ Some z → are_own cons (k + i) (listed (Some z)) ≡ true) → list_their_own cons k sorts ≡ true
own-from cons k [] h = refl
own-from cons k (z ∷ sorts) h =
    and_from (are_own cons k (listed (Some z))) (list_their_own cons (suc k) sorts) (ap (λ k. are_own cons k (listed (Some z))) (let e : k ≡ k + 0 = omega arith in e) ∙ h 0 z refl)
    (own-from cons (suc k) sorts (λ i y e. ap (λ k. are_own cons k (listed (Some y))) (let e : suc k + i ≡ k + suc i = omega arith in e) ∙ h (suc i) y e))

abbrev Owns : Prog → ℕ → Sort → Type 0
Owns p s z = are_own (con_decls p) s (listed (Some z)) ≡ true

known : (p : Prog) (s t : ℕ) (z y : Sort) → slice_get (sorts_of p) s ≡ Some z → s ≡ t → slice_get (sorts_of p) t ≡ Some y → Owns p t y → Owns p s z
known p s t z y e q h o = subst (Owns p s) (same_Some y z (sym (ap (slice_get (sorts_of p)) q ∙ h) ∙ e)) (subst (λ s. Owns p s y) (sym q) o)

of-sort : (p : Prog) (c s : ℕ) (args : List ℕ) → slice_get (con_decls p) c ≡ Some (con_of s args) → is_con_of (slice_get (con_decls p) c) s ≡ true
of-sort p c s args e = ap (λ o. is_con_of o s) e ∙ eq-eqb s s refl

data-owns : (p : Prog) → Facts p → (d : ℕ) (decl : DataDecl) → slice_get p.types.datatypes d ≡ Some decl → Owns p (data_sort p d) (so.Datatype decl.cons)
data-owns p f d decl e =
    and_from (list_all (λ c. is_con_of (slice_get (con_decls p) c) (data_sort p d)) decl.cons) (are_distinct decl.cons)
    (all-from (λ c. is_con_of (slice_get (con_decls p) c) (data_sort p d)) decl.cons
    (λ j c q. of-sort p c (data_sort p d) (map (sort_of p) (types.fields_of p.cons c)) (con-of-type p c d (listed-of p f d decl j c e q))))
    (run-at p.cons 0 0 p.types.datatypes d decl f.numbered e)

ops-own : (p : Prog) → Owns p (op_sort p) (so.Datatype (from (op_con p 0) (length p.ops)))
ops-own p =
    and_from (list_all (λ c. is_con_of (slice_get (con_decls p) c) (op_sort p)) (from (op_con p 0) (length p.ops))) (are_distinct (from (op_con p 0) (length p.ops)))
    (from-all (λ c. is_con_of (slice_get (con_decls p) c) (op_sort p)) (op_con p 0) (length p.ops)
    (λ j l. let op = at-exists p.ops j l in
    ap (λ c. is_con_of (slice_get (con_decls p) c) (op_sort p)) (let z : op_con p 0 + j ≡ op_con p j = omega arith in z) ∙ of-sort p (op_con p j) (op_sort p) (map (sort_of p) op.0.args) (operations-stand p j op.0 op.1)))
    (from-distinct (op_con p 0) (length p.ops))

infos-own : (p : Prog) → Owns p (info_sort p) (so.Datatype (from (info_con p 0) (length p.procs)))
infos-own p =
    and_from (list_all (λ c. is_con_of (slice_get (con_decls p) c) (info_sort p)) (from (info_con p 0) (length p.procs))) (are_distinct (from (info_con p 0) (length p.procs)))
    (from-all (λ c. is_con_of (slice_get (con_decls p) c) (info_sort p)) (info_con p 0) (length p.procs)
    (λ j l. let q = at-exists p.procs j l in
    ap (λ c. is_con_of (slice_get (con_decls p) c) (info_sort p)) (let z : info_con p 0 + j ≡ info_con p j = omega arith in z) ∙ of-sort p (info_con p j) (info_sort p) (map (sort_of p) q.0.params) (records-stand p j q.0 q.1)))
    (from-distinct (info_con p 0) (length p.procs))

outcomes-own : (p : Prog) → Owns p (outcome_sort p) (so.Datatype (unreturned_con p ∷ from (outcome_con p 0) (length p.procs)))
outcomes-own p =
    let later = from (outcome_con p 0) (length p.procs) in
    and_from (list_all (λ c. is_con_of (slice_get (con_decls p) c) (outcome_sort p)) (unreturned_con p ∷ later)) (are_distinct (unreturned_con p ∷ later))
    (and_from (is_con_of (slice_get (con_decls p) (unreturned_con p)) (outcome_sort p)) (list_all (λ c. is_con_of (slice_get (con_decls p) c) (outcome_sort p)) later)
    (of-sort p (unreturned_con p) (outcome_sort p) [] (unreturned-stands p))
    (from-all (λ c. is_con_of (slice_get (con_decls p) c) (outcome_sort p)) (outcome_con p 0) (length p.procs)
    (λ j l. let q = at-exists p.procs j l in
    ap (λ c. is_con_of (slice_get (con_decls p) c) (outcome_sort p)) (let z : outcome_con p 0 + j ≡ outcome_con p j = omega arith in z)
    ∙ of-sort p (outcome_con p j) (outcome_sort p) (map (sort_of p) (result_list q.0.result)) (outcomes-stand p j q.0 q.1))))
    (and_from (not (contains later (unreturned_con p))) (are_distinct later) (ap not (from-lacks (outcome_con p 0) (length p.procs) (unreturned_con p) (omega arith))) (from-distinct (outcome_con p 0) (length p.procs)))

pub sort-owns : (p : Prog) → Facts p → (s : ℕ) (z : Sort) → slice_get (sorts_of p) s ≡ Some z → Owns p s z
sort-owns p f s z e = go (kind-of p s z e)
  where
    go : SortKind p s → Owns p s z
    go (as_call q) = known p s call_sort z so.Plain e q refl refl
    go (as_inv q) = known p s inv_sort z so.Plain e q refl refl
    go (as_atom k l q) = known p s (atom_sort k) z so.Plain e q (atoms-stand p k l) refl
    go (as_int q) = known p s (int_sort p) z so.Int e q (ints-stand p) refl
    go (as_str q) = known p s (str_sort p) z so.Str e q (strings-stand p) refl
    go (as_data d l q) = let decl = at-exists p.types.datatypes d l in known p s (data_sort p d) z (so.Datatype decl.0.cons) e q (datatypes-stand p d decl.0 decl.1) (data-owns p f d decl.0 decl.1)
    go (as_op q) = known p s (op_sort p) z (so.Datatype (from (op_con p 0) (length p.ops))) e q (operations-sort p) (ops-own p)
    go (as_info q) = known p s (info_sort p) z (so.Datatype (from (info_con p 0) (length p.procs))) e q (records-sort p) (infos-own p)
    go (as_outcome q) = known p s (outcome_sort p) z (so.Datatype (unreturned_con p ∷ from (outcome_con p 0) (length p.procs))) e q (outcomes-sort p) (outcomes-own p)
