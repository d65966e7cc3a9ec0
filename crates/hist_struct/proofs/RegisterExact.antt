-- The formulas of the axiom of registers are true exactly where its condition holds.
use Rattle.std.proofs.Common.{◌≡◌, ◌↔◌, ℕ, zero, suc, ◌+◌, List, [], ◌∷◌, ◌++◌, map, Bool, true, false, if◌then◌else◌, Option, Some, None, slice_get, refl, sym, ap, ap₂, ◌∙◌, subst, true≢false, arith}
use Rattle.std.proofs.lemmas.Option.{none-some, same_Some}
use Rattle.rp_value.specs.declared.tables.Ty.{Ty}
use Rattle.rp_lang.specs.Crdts.{Cr, SetAw, SetRw, Reg, MvReg, Counter, MapUw, MapDw, Struct}
use Rattle.rp_lang.specs.Paths.{field_in, root_crdt}
use Rattle.rp_lang.specs.declared.op.PathStep.{PathStep}
use Rattle.rp_lang.specs.declared.op.PathStep.TheVariants.{Field, Key}
use Rattle.rp_lang.specs.declared.query.QueryDecl.{QueryDecl}
use Rattle.rp_lang.specs.Programs.{Prog}
use Rattle.crdt_defs.specs.Queries.{held_in, winner_in}
use Rattle.crdt_defs.specs.Truths.{nth_con}
use Rattle.event_machine.specs.WellFormed.{At}
use Rattle.rp_logic.specs.Elements.{Elem, Made, no_elem, also_elem, same_elem}
use Rattle.rp_logic.specs.Terms.{Tm, Var}
use Rattle.rp_logic.specs.Formulas.{Fm, no_fm}
use Rattle.rp_logic.specs.Filling.{raised}
use Rattle.rp_logic.specs.Truth.{Meaning, Holds, AllTrue, value}
use Rattle.rp_logic.proofs.FillingLaws.{raised-value}
use Rattle.rp_symbols.specs.Numbers.{stamp_rel, val_fn}
use Rattle.rp_symbols.specs.Signatures.{sort_of}
use Rattle.crdt_enc.specs.Builders.{one_fm}
use Rattle.crdt_enc.specs.Elements.{elems}
use Rattle.crdt_enc.specs.FitsParts.{applied_to}
use Rattle.crdt_enc.specs.Ways as ways
use Rattle.crdt_enc.specs.Ways.{Way, Root, AtField}
use Rattle.crdt_enc.proofs.CallLaws.{values-in, map-both}
use Rattle.crdt_enc.proofs.CountLaws.{raised-list}
use Rattle.hist_struct.specs.Axioms.{implied, rel, differ}
use Rattle.hist_struct.specs.Conditions.{Rel, Differ}
use Rattle.hist_struct.specs.Registers.{mapped, Register, register_here, register_at, register_of, is_register, NoneAssigns, EachAssign, IsLatest, EachIn, GivesSome, GivesNone, RegisterTells, Told, RegistersTell, all_in, same_truth, each_assign, is_latest, none_assigns, value_of, gives_some, gives_none, register_tells, told, query_tells, queries_tell, registers_tell}
use Rattle.hist_struct.proofs.Implied.{implied-is}
use Rattle.hist_struct.proofs.RegisterForms.{one-none, each-assign, some-assign}

-- # The last assign

module _ (p : Prog) (M : Meaning) (view : ℕ) (base : List Elem) where
  later-is : (way : Way Tm) (c : Elem)
      → Holds M (c ∷ base) (each_assign p view 1 way (implied (one_fm (differ 0 1)) (rel stamp_rel 0 1))) ↔ EachAssign p M view (mapped (value M base) way) [] (λ d. Differ d c → Rel M stamp_rel d c)
  later-is way c =
      each-assign p M view base way [] (c ∷ []) 1 refl (one_fm (implied (one_fm (differ 0 1)) (rel stamp_rel 0 1))) (λ d. Differ d c → Rel M stamp_rel d c) (λ d.
      let o = one-none (implied (one_fm (differ 0 1)) (rel stamp_rel 0 1)) M (d ∷ c ∷ base) in
      let i = implied-is (one_fm (differ 0 1)) (rel stamp_rel 0 1) M (d ∷ c ∷ base) in
      ((λ h. i.0 (o.0 h)), λ h. o.1 (i.1 h)))

  pub latest-is : (way : Way Tm) (x : Tm) → Holds M base (is_latest p view way x) ↔ IsLatest p M view (mapped (value M base) way) (value M base x)
  latest-is way x =
      some-assign p M view base way (x ∷ []) [] 0 refl (one_fm (each_assign p view 1 way (implied (one_fm (differ 0 1)) (rel stamp_rel 0 1))))
      (λ c. EachAssign p M view (mapped (value M base) way) [] (λ d. Differ d c → Rel M stamp_rel d c)) (λ c.
      let l = later-is way c in ((λ h. l.0 h.0), λ h. (l.1 h, tt)))

  pub none-is : (way : Way Tm) → Holds M base (none_assigns p view way) ↔ NoneAssigns p M view (mapped (value M base) way)
  none-is way = each-assign p M view base way [] [] 0 refl no_fm (λ c. ⊥) (λ d. ((λ h. h tt), λ h. absurd h))

-- # One register

same-is : (f g : Fm) (M : Meaning) (vars : List Elem) → Holds M vars (same_truth f g) ↔ ((Holds M vars f → Holds M vars g) × (Holds M vars g → Holds M vars f))
same-is f g M vars =
    let i = implied-is (one_fm f) g M vars in
    let j = implied-is (one_fm g) f M vars in
    ((λ h. (i.0 h.0, j.0 h.1.0)), λ h. (i.1 h.0, (j.1 h.1, tt)))

raised-way : (way : Way Tm) (M : Meaning) (e : Elem) (base : List Elem) → mapped (value M (e ∷ base)) (mapped (raised 1) way) ≡ mapped (value M base) way
raised-way (Root root) M e base = refl
raised-way (AtField n way) M e base = ap (λ way. AtField n way) (raised-way way M e base)
raised-way (ways.AtKey winner key way) M e base =
    ap₂ (λ key way. ways.AtKey winner key way) (raised-value key M (e ∷ []) base 1 refl) (raised-way way M e base)

abbrev pub moved : Meaning → List Elem → Register Tm → Register Elem
moved M base r = record { ty = r.ty; way = mapped (value M base) r.way }

module _ (p : Prog) (M : Meaning) (view n : ℕ) (result : Ty) (given : List Tm) (keys base : List Elem) (e : map (value M base) given ≡ keys) where
  here : value M base (value_of p view n given) ≡ applied_to M (val_fn p view n) (elems keys)
  here = ap (applied_to M (val_fn p view n)) (values-in given M base ∙ ap elems e)

  under : (x : Elem) → value M (x ∷ base) (value_of p view n (map (raised 1) given)) ≡ applied_to M (val_fn p view n) (elems keys)
  under x = ap (applied_to M (val_fn p view n)) (values-in (map (raised 1) given) M (x ∷ base) ∙ ap elems (raised-list given M (x ∷ []) base 1 refl ∙ e))

  some-is : (x : Elem) → Holds M (x ∷ base) (gives_some p view n result (map (raised 1) given) (Var 0)) ↔ GivesSome p M view n result keys x
  some-is x =
      let u = ap (λ t. same_elem t (Made (nth_con p result 1) (also_elem x no_elem))) (under x) in ((λ h. sym u ∙ h), λ h. u ∙ h)

  no-value-is : Holds M base (gives_none p view n result given) ↔ GivesNone p M view n result keys
  no-value-is =
      let u = ap (λ t. same_elem t (Made (nth_con p result 0) no_elem)) here in ((λ h. sym u ∙ h), λ h. u ∙ h)

  last-is : (way : Way Tm) (x : Elem) → Holds M (x ∷ base) (is_latest p view (mapped (raised 1) way) (Var 0)) ↔ IsLatest p M view (mapped (value M base) way) x
  last-is way x =
      let l = latest-is p M view (x ∷ base) (mapped (raised 1) way) (Var 0) in
      let w = raised-way way M x base in
      ((λ h. subst (λ way. IsLatest p M view way x) w (l.0 h)), λ h. l.1 (subst (λ way. IsLatest p M view way x) (sym w) h))

  register-is : (r : Register Tm) → Holds M base (register_tells p view n result given r) ↔ RegisterTells p M view n result keys (moved M base r)
  register-is r = (
    (λ h. record {
      some = λ x i.
          let s = (truths (x ∷ base) (gives_some p view n result (map (raised 1) given) (Var 0)) (is_latest p view (mapped (raised 1) r.way) (Var 0))).0 (h.0 x i) in
          ((λ k. (last-is r.way x).0 (s.0 ((some-is x).1 k))), λ k. (some-is x).0 (s.1 ((last-is r.way x).1 k)));
      none =
          let s = (truths base (gives_none p view n result given) (none_assigns p view r.way)).0 h.1.0 in
          ((λ k. (none-is p M view base r.way).0 (s.0 (no-value-is.1 k))), λ k. no-value-is.0 (s.1 ((none-is p M view base r.way).1 k)));
    }),
    λ t. (
      (λ x i.
          let k = t.some x i in
          (truths (x ∷ base) (gives_some p view n result (map (raised 1) given) (Var 0)) (is_latest p view (mapped (raised 1) r.way) (Var 0))).1
          ((λ h. (last-is r.way x).1 (k.0 ((some-is x).0 h))), λ h. (some-is x).1 (k.1 ((last-is r.way x).0 h)))),
      (
        (truths base (gives_none p view n result given) (none_assigns p view r.way)).1
            ((λ h. (none-is p M view base r.way).1 (t.none.0 (no-value-is.0 h))), λ h. no-value-is.1 (t.none.1 ((none-is p M view base r.way).0 h))),
        tt,
      ),
    ),
  )
    where
      truths : (vars : List Elem) (f g : Fm) → Holds M vars (same_truth f g) ↔ ((Holds M vars f → Holds M vars g) × (Holds M vars g → Holds M vars f))
      truths vars f g = same-is f g M vars

-- # Along the path

-- the register at the keys' elements is that at their terms
abbrev pub Agree : Meaning → List Elem → Option (Register Tm) → Option (Register Elem) → Type 0
Agree M base None None = Unit {0}
Agree M base None (Some r) = ⊥
Agree M base (Some q) None = ⊥
Agree M base (Some q) (Some r) = moved M base q ≡ r

here-reads : (M : Meaning) (base : List Elem) (crdt : Cr) (way : Way Tm) → Agree M base (register_here crdt way) (register_here crdt (mapped (value M base) way))
here-reads M base (Reg ty) way = refl
here-reads M base (SetAw ty) way = tt
here-reads M base (SetRw ty) way = tt
here-reads M base (MvReg ty) way = tt
here-reads M base Counter way = tt
here-reads M base (MapUw keys held) way = tt
here-reads M base (MapDw keys held) way = tt
here-reads M base (Struct fields) way = tt

pub at-reads : (M : Meaning) (base : List Elem) (crdt : Option Cr) (path : List PathStep) (way : Way Tm) (given : List Tm)
    → Agree M base (register_at crdt path way given) (register_at crdt path (mapped (value M base) way) (map (value M base) given))
at-reads M base None path way given = tt
at-reads M base (Some crdt) [] way given = here-reads M base crdt way
at-reads M base (Some crdt) (Field n ∷ path) way given = at-reads M base (field_in crdt n) path (AtField n way) given
at-reads M base (Some crdt) (Key ty ∷ path) way [] = tt
at-reads M base (Some crdt) (Key ty ∷ path) way (k ∷ given) = at-reads M base (held_in crdt) path (ways.AtKey (winner_in crdt) k way) given

told-is : (M : Meaning) (base : List Elem) (f : Register Tm → Fm) (P : Register Elem → Type 0) (o : Option (Register Tm)) (q : Option (Register Elem)) → Agree M base o q
    → ((r : Register Tm) → Holds M base (f r) ↔ P (moved M base r)) → Holds M base (told f o) ↔ Told P q
told-is M base f P None None e k = ((λ h. tt), λ h. tt)
told-is M base f P None (Some r) e k = absurd e
told-is M base f P (Some r) None e k = absurd e
told-is M base f P (Some q) (Some r) e k = ((λ h. subst P e ((k q).0 h)), λ h. (k q).1 (subst P (sym e) h))

-- # All keys

all-in-is : (M : Meaning) (sorts : List ℕ) (base : List Elem) (given : List Tm) (keys : List Elem) (f : List Tm → Fm) (P : List Elem → Type 0) → map (value M base) given ≡ keys
    → ((vars : List Elem) (ts : List Tm) (es : List Elem) → map (value M vars) ts ≡ es → Holds M vars (f ts) ↔ P es) → Holds M base (all_in sorts given f) ↔ EachIn M sorts keys P
all-in-is M [] base given keys f P e k = k base given keys e
all-in-is M (sort ∷ sorts) base given keys f P e k = (
  (λ h x i. (all-in-is M sorts (x ∷ base) (map (raised 1) given ++ Var 0 ∷ []) (keys ++ x ∷ []) f P (more given keys base x e) k).0 (h x i)),
  λ h x i. (all-in-is M sorts (x ∷ base) (map (raised 1) given ++ Var 0 ∷ []) (keys ++ x ∷ []) f P (more given keys base x e) k).1 (h x i),
)
  where
    more : (given : List Tm) (keys base : List Elem) (x : Elem) → map (value M base) given ≡ keys → map (value M (x ∷ base)) (map (raised 1) given ++ Var 0 ∷ []) ≡ keys ++ x ∷ []
    more given keys base x e =
        map-both (value M (x ∷ base)) (map (raised 1) given) (Var 0 ∷ []) ∙ ap (λ ks. ks ++ x ∷ []) (raised-list given M (x ∷ []) base 1 refl ∙ e)

query-is : (p : Prog) (M : Meaning) (view n : ℕ) (query : QueryDecl) → Holds M [] (query_tells p view n query)
    ↔ EachIn M (map (sort_of p) query.args) [] (λ given. Told (RegisterTells p M view n query.result given) (register_of p query given))
query-is p M view n query =
    all-in-is M (map (sort_of p) query.args) [] [] [] (λ given. told (register_tells p view n query.result given) (register_of p query given))
    (λ given. Told (RegisterTells p M view n query.result given) (register_of p query given)) refl (λ vars ts es e.
    told-is M vars (register_tells p view n query.result ts) (RegisterTells p M view n query.result es) (register_of p query ts) (register_of p query es)
    (subst (λ es. Agree M vars (register_of p query ts) (register_of p query es)) e (at-reads M vars (root_crdt (slice_get p.roots query.root)) query.path (Root query.root) ts))
    (λ r. register-is p M view n query.result ts es vars e r))

-- # All queries

abbrev EachQuery : Prog → Meaning → ℕ → ℕ → List QueryDecl → Type 0
EachQuery p M view n queries = (j : ℕ) (query : QueryDecl) → At queries j query → is_register query.kind ≡ true → Holds M [] (query_tells p view (n + j) query)

later-queries : (p : Prog) (M : Meaning) (view n : ℕ) (first : QueryDecl) (queries : List QueryDecl) → EachQuery p M view n (first ∷ queries) → EachQuery p M view (suc n) queries
later-queries p M view n first queries h j query a g = subst (λ m. Holds M [] (query_tells p view m query)) (let e : n + suc j ≡ suc n + j = omega arith in e) (h (suc j) query a g)

first-query : (p : Prog) (M : Meaning) (view n : ℕ) (first : QueryDecl) (queries : List QueryDecl) → EachQuery p M view n (first ∷ queries) → is_register first.kind ≡ true → Holds M [] (query_tells p view n first)
first-query p M view n first queries h g = subst (λ m. Holds M [] (query_tells p view m first)) (let e : n + 0 ≡ n = omega arith in e) (h 0 first refl g)

put-query : (p : Prog) (M : Meaning) (view n : ℕ) (first : QueryDecl) (queries : List QueryDecl) → (is_register first.kind ≡ true → Holds M [] (query_tells p view n first)) → EachQuery p M view (suc n) queries
    → EachQuery p M view n (first ∷ queries)
put-query p M view n first queries f h zero query a g =
    let same = same_Some first query a in
    subst (λ q. Holds M [] (query_tells p view (n + 0) q)) same
    (subst (λ m. Holds M [] (query_tells p view m first)) (let e : n ≡ n + 0 = omega arith in e) (f (ap (λ (q : QueryDecl). is_register q.kind) same ∙ g)))
put-query p M view n first queries f h (suc j) query a g =
    subst (λ m. Holds M [] (query_tells p view m query)) (let e : suc n + j ≡ n + suc j = omega arith in e) (h j query a g)

queries-are : (p : Prog) (M : Meaning) (view n : ℕ) (queries : List QueryDecl) → AllTrue M (queries_tell p view n queries) ↔ EachQuery p M view n queries
queries-are p M view n [] = ((λ h j query a g. absurd (none-some query a)), λ h. tt)
queries-are p M view n (first ∷ queries) = go (is_register first.kind) refl (queries-are p M view (suc n) queries)
  where
    go : (b : Bool) → is_register first.kind ≡ b → AllTrue M (queries_tell p view (suc n) queries) ↔ EachQuery p M view (suc n) queries
        → AllTrue M ((if b then query_tells p view n first ∷ [] else []) ++ queries_tell p view (suc n) queries) ↔ EachQuery p M view n (first ∷ queries)
    go true e r = (
      (λ h. put-query p M view n first queries (λ g. h.0) (r.0 h.1)),
      λ h. (first-query p M view n first queries h e, r.1 (later-queries p M view n first queries h)),
    )
    go false e r = (
      (λ h. put-query p M view n first queries (λ g. absurd (true≢false (sym g ∙ e))) (r.0 h)),
      λ h. r.1 (later-queries p M view n first queries h),
    )

pub registers_tell-exact : (p : Prog) (M : Meaning) (view : ℕ) → AllTrue M (registers_tell p view) ↔ RegistersTell p M view
registers_tell-exact p M view =
    let r = queries-are p M view 0 p.queries in (
      (λ h n query a g. (query-is p M view n query).0 (subst (λ m. Holds M [] (query_tells p view m query)) (let e : 0 + n ≡ n = omega arith in e) (r.0 h n query a g))),
      λ h. r.1 (λ j query a g. subst (λ m. Holds M [] (query_tells p view m query)) (let e : j ≡ 0 + j = omega arith in e) ((query-is p M view j query).1 (h j query a g))),
    )
