-- Terms and formulas put together are well sorted where their parts are.
use Rattle.std.proofs.Common.{◌≡◌, ℕ, zero, suc, ◌+◌, ◌-◌, List, [], ◌∷◌, ◌++◌, length, map, slice_get, Bool, true, false, ◌&&◌, if◌then◌else◌, Some, refl, sym, ap, ◌∙◌, subst, eq-eqb, append_assoc, length-append, arith}
use Rattle.std.proofs.lemmas.Bool.{and_parts, and_from}
use Rattle.std.proofs.lemmas.Option.{none-some, same_Some}
use Rattle.rp_lang.specs.declared.op.OpDecl.{OpDecl}
use Rattle.rp_logic.specs.declared.sort.FnDecl.{FnDecl}
use Rattle.rp_logic.specs.declared.sort.LogicCon.{LogicCon}
use Rattle.rp_logic.specs.declared.sort.NewConst.{NewConst}
use Rattle.rp_logic.specs.Terms.{Tm, Tms, Var, Fn, Con, Sel, no_tm, also_tm}
use Rattle.rp_logic.specs.Formulas.{Fm, Fms, no_fm, also_fm}
use Rattle.rp_logic.specs.Signatures.{Signature, is_con_of, fields_of}
use Rattle.rp_logic.specs.Sorted.{is_sort, gives, takes, sort_of_con, has_sort, have_sorts, IsSorted, AreSorted}
use Rattle.rp_logic.specs.Filling.{raised}
use Rattle.rp_logic.proofs.KeptSorts.{filled-sort}
use Rattle.rp_logic.proofs.SortLaws.{no}
use Rattle.rp_symbols.specs.Numbers.{call_sort}
use Rattle.rp_symbols.specs.Signatures.{fn_of}
use Rattle.rp_symbols.proofs.LookUps.{get-behind}
use Rattle.reshape.specs.Joined.{joined}
use Rattle.crdt_enc.specs.Builders.{all_of, any_of, tms_of, over_one, over_two, applied, selectors, built, for_each}

-- # Terms

pub fn-sorted : (S : Signature) (added : List NewConst) (scope : List ℕ) (f : ℕ) (decl : FnDecl) (args : Tms) → slice_get S.fns f ≡ Some decl → have_sorts S added scope decl.args args ≡ true
    → has_sort S added scope decl.result (Fn f args) ≡ true
fn-sorted S added scope f decl args e h =
    ap (λ o. gives o decl.result && have_sorts S added scope (takes o) args) e
    ∙ and_from (gives (Some decl) decl.result) (have_sorts S added scope decl.args args) (eq-eqb decl.result decl.result refl) h

pub applied-sorted : (S : Signature) (added : List NewConst) (scope : List ℕ) (f s r : ℕ) (t : Tm) → slice_get S.fns f ≡ Some (fn_of (s ∷ []) r) → has_sort S added scope s t ≡ true
    → has_sort S added scope r (applied f t) ≡ true
applied-sorted S added scope f s r t e h = fn-sorted S added scope f (fn_of (s ∷ []) r) (also_tm t no_tm) e (and_from (has_sort S added scope s t) true h refl)

pub con-sorted : (S : Signature) (added : List NewConst) (scope : List ℕ) (c : ℕ) (decl : LogicCon) (args : Tms) → slice_get S.cons c ≡ Some decl → have_sorts S added scope decl.args args ≡ true
    → has_sort S added scope decl.sort (Con c args) ≡ true
con-sorted S added scope c decl args e h =
    ap (λ o. is_con_of o decl.sort && have_sorts S added scope (fields_of o) args) e
    ∙ and_from (is_con_of (Some decl) decl.sort) (have_sorts S added scope decl.args args) (eq-eqb decl.sort decl.sort refl) h

pub sel-sorted : (S : Signature) (added : List NewConst) (scope : List ℕ) (c : ℕ) (decl : LogicCon) (i s : ℕ) (t : Tm) → slice_get S.cons c ≡ Some decl → slice_get decl.args i ≡ Some s
    → has_sort S added scope decl.sort t ≡ true → has_sort S added scope s (Sel c i t) ≡ true
sel-sorted S added scope c decl i s t e q h =
    ap (λ o. is_sort (slice_get (fields_of o) i) s && has_sort S added scope (sort_of_con o) t) e
    ∙ and_from (is_sort (slice_get decl.args i) s) (has_sort S added scope decl.sort t) (ap (λ o. is_sort o s) q ∙ eq-eqb s s refl) h

pub have-both : (S : Signature) (added : List NewConst) (scope : List ℕ) (ss : List ℕ) (ts : List Tm) (rs : List ℕ) (us : List Tm) → have_sorts S added scope ss (tms_of ts) ≡ true
    → have_sorts S added scope rs (tms_of us) ≡ true → have_sorts S added scope (ss ++ rs) (tms_of (ts ++ us)) ≡ true
have-both S added scope [] [] rs us h k = k
have-both S added scope [] (t ∷ ts) rs us h k = no h
have-both S added scope (s ∷ ss) [] rs us h k = no h
have-both S added scope (s ∷ ss) (t ∷ ts) rs us h k =
    let b = and_parts (has_sort S added scope s t) (have_sorts S added scope ss (tms_of ts)) h in
    and_from (has_sort S added scope s t) _ b.0 (have-both S added scope ss ts rs us b.1 k)

pub have-count : (S : Signature) (added : List NewConst) (scope : List ℕ) (ss : List ℕ) (ts : List Tm) → have_sorts S added scope ss (tms_of ts) ≡ true → length ss ≡ length ts
have-count S added scope [] [] h = refl
have-count S added scope [] (t ∷ ts) h = no h
have-count S added scope (s ∷ ss) [] h = no h
have-count S added scope (s ∷ ss) (t ∷ ts) h = ap suc (have-count S added scope ss ts (and_parts (has_sort S added scope s t) _ h).1)

pub sels-sorted : (S : Signature) (added : List NewConst) (scope : List ℕ) (c : ℕ) (decl : LogicCon) (t : Tm) → slice_get S.cons c ≡ Some decl → has_sort S added scope decl.sort t ≡ true
    → (rest : List ℕ) (i : ℕ) → ((j s : ℕ) → slice_get rest j ≡ Some s → slice_get decl.args (i + j) ≡ Some s) → have_sorts S added scope rest (tms_of (selectors c i (length rest) t)) ≡ true
sels-sorted S added scope c decl t e h [] i f = refl
sels-sorted S added scope c decl t e h (s ∷ rest) i f =
    and_from (has_sort S added scope s (Sel c i t)) _
    (sel-sorted S added scope c decl i s t e (ap (slice_get decl.args) (let x : i ≡ i + 0 = omega arith in x) ∙ f 0 s refl) h)
    (sels-sorted S added scope c decl t e h rest (suc i) (λ j r q. ap (slice_get decl.args) (let x : suc i + j ≡ i + suc j = omega arith in x) ∙ f (suc j) r q))

-- The terms have the first of the sorts.
pub record Front (S : Signature) (added : List NewConst) (scope : List ℕ) (sorts : List ℕ) (given : List Tm) : Type 0 where
  pub heads : List ℕ
  pub rest : List ℕ
  pub are : sorts ≡ heads ++ rest
  pub have : have_sorts S added scope heads (tms_of given) ≡ true

pub built-sorted : (S : Signature) (added : List NewConst) (scope : List ℕ) (c : ℕ) (decl : LogicCon) (places : ℕ) (given : List Tm) (t : Tm) → slice_get S.cons c ≡ Some decl → places ≡ length decl.args
    → Front S added scope decl.args given → has_sort S added scope decl.sort t ≡ true → has_sort S added scope decl.sort (built c places given t) ≡ true
built-sorted S added scope c decl places given t e count f h =
    let first = have-count S added scope f.heads given f.have in
    let long : length decl.args ≡ length f.heads + length f.rest = ap length f.are ∙ length-append f.heads f.rest in
    let left : places - length given ≡ length f.rest = omega (arith, count, first, long) in
    con-sorted S added scope c decl (tms_of (given ++ selectors c (length given) (places - length given) t)) e
    (ap (λ ss. have_sorts S added scope ss (tms_of (given ++ selectors c (length given) (places - length given) t))) f.are
    ∙ (ap (λ n. have_sorts S added scope (f.heads ++ f.rest) (tms_of (given ++ selectors c (length given) n t))) left
    ∙ have-both S added scope f.heads given f.rest (selectors c (length given) (length f.rest) t) f.have
    (sels-sorted S added scope c decl t e h f.rest (length given) (λ j s q. ap (λ ss. slice_get ss (length given + j)) f.are ∙ (get-behind f.heads f.rest (length given) j first ∙ q)))))

pub front-more : (S : Signature) (added : List NewConst) (scope : List ℕ) (sorts : List ℕ) (given : List Tm) (s : ℕ) (t : Tm) → Front S added scope sorts given → slice_get sorts (length given) ≡ Some s
    → has_sort S added scope s t ≡ true → Front S added scope sorts (given ++ t ∷ [])
front-more S added scope sorts given s t f at h = go f.rest refl (sym next ∙ at)
  where
    next : slice_get sorts (length given) ≡ slice_get f.rest 0
    next =
        ap (λ ss. slice_get ss (length given)) f.are
        ∙ (ap (slice_get (f.heads ++ f.rest)) (let x : length given ≡ length given + 0 = omega arith in x)
        ∙ get-behind f.heads f.rest (length given) 0 (have-count S added scope f.heads given f.have))

    go : (rest : List ℕ) → f.rest ≡ rest → slice_get rest 0 ≡ Some s → Front S added scope sorts (given ++ t ∷ [])
    go [] is e = absurd (none-some s e)
    go (r ∷ rest) is e = record {
      heads = f.heads ++ s ∷ [];
      rest = rest;
      are = f.are ∙ (ap (λ x. f.heads ++ x) is ∙ (ap (λ r. f.heads ++ r ∷ rest) (same_Some r s e) ∙ sym (append_assoc f.heads (s ∷ []) rest)));
      have = have-both S added scope f.heads given (s ∷ []) (t ∷ []) f.have (and_from (has_sort S added scope s t) true h refl);
    }

-- # Under quantifiers over calls

abbrev pub under_calls : ℕ → List ℕ → List ℕ
under_calls zero scope = scope
under_calls (suc n) scope = call_sort ∷ under_calls n scope

calls-out : (n : ℕ) (scope : List ℕ) (k : ℕ) → slice_get (under_calls n scope) (k + n) ≡ slice_get scope k
calls-out zero scope k = ap (slice_get scope) (let x : k + 0 ≡ k = omega arith in x)
calls-out (suc n) scope k = ap (slice_get (under_calls (suc n) scope)) (let x : k + suc n ≡ suc (k + n) = omega arith in x) ∙ calls-out n scope k

pub raised-by : (S : Signature) (added : List NewConst) (scope : List ℕ) (n s : ℕ) (t : Tm) → has_sort S added scope s t ≡ true → has_sort S added (under_calls n scope) s (raised n t) ≡ true
raised-by S added scope n s t h = filled-sort t S added (under_calls n scope) scope (λ k. Var (k + n)) s (λ k d e. ap (λ o. is_sort o d) (calls-out n scope k ∙ e) ∙ eq-eqb d d refl) h

raised-all : (S : Signature) (added : List NewConst) (scope : List ℕ) (n : ℕ) (ss : List ℕ) (ts : List Tm) → have_sorts S added scope ss (tms_of ts) ≡ true
    → have_sorts S added (under_calls n scope) ss (tms_of (map (raised n) ts)) ≡ true
raised-all S added scope n [] [] h = refl
raised-all S added scope n [] (t ∷ ts) h = no h
raised-all S added scope n (s ∷ ss) [] h = no h
raised-all S added scope n (s ∷ ss) (t ∷ ts) h =
    let b = and_parts (has_sort S added scope s t) (have_sorts S added scope ss (tms_of ts)) h in
    and_from (has_sort S added (under_calls n scope) s (raised n t)) _ (raised-by S added scope n s t b.0) (raised-all S added scope n ss ts b.1)

pub front-raised : (S : Signature) (added : List NewConst) (scope sorts : List ℕ) (given : List Tm) (n : ℕ) → Front S added scope sorts given → Front S added (under_calls n scope) sorts (map (raised n) given)
front-raised S added scope sorts given n f = record { heads = f.heads; rest = f.rest; are = f.are; have = raised-all S added scope n f.heads given f.have }

-- # Formulas

pub set-sorted : (S : Signature) (added : List NewConst) (scope : List ℕ) (sign : Bool) (r s : ℕ) (t : Tm) → slice_get S.rels r ≡ Some (s ∷ []) → has_sort S added scope s t ≡ true
    → IsSorted S added scope (over_one sign r t)
set-sorted S added scope sign r s t e h = (s ∷ [], e, and_from (has_sort S added scope s t) true h refl)

pub pair-sorted : (S : Signature) (added : List NewConst) (scope : List ℕ) (sign : Bool) (r s d : ℕ) (t u : Tm) → slice_get S.rels r ≡ Some (s ∷ d ∷ []) → has_sort S added scope s t ≡ true
    → has_sort S added scope d u ≡ true → IsSorted S added scope (over_two sign r t u)
pair-sorted S added scope sign r s d t u e h k =
    (s ∷ d ∷ [], e, and_from (has_sort S added scope s t) (has_sort S added scope d u && true) h (and_from (has_sort S added scope d u) true k refl))

pub joined-sorted : (S : Signature) (added : List NewConst) (scope : List ℕ) (fs gs : Fms) → AreSorted S added scope fs → AreSorted S added scope gs → AreSorted S added scope (joined fs gs)
joined-sorted S added scope no_fm gs h k = k
joined-sorted S added scope (also_fm f fs) gs h k = (h.0, joined-sorted S added scope fs gs h.1 k)

pub all-sorted : (S : Signature) (added : List NewConst) (scope : List ℕ) (fs : Fms) → AreSorted S added scope fs → IsSorted S added scope (all_of fs)
all-sorted S added scope no_fm h = h
all-sorted S added scope (also_fm f no_fm) h = h.0
all-sorted S added scope (also_fm f (also_fm g fs)) h = h

pub any-sorted : (S : Signature) (added : List NewConst) (scope : List ℕ) (fs : Fms) → AreSorted S added scope fs → IsSorted S added scope (any_of fs)
any-sorted S added scope no_fm h = h
any-sorted S added scope (also_fm f no_fm) h = h.0
any-sorted S added scope (also_fm f (also_fm g fs)) h = h

each-from : (S : Signature) (added : List NewConst) (scope : List ℕ) (test : OpDecl → Bool) (make : ℕ → OpDecl → Fm) (k : ℕ) (ops : List OpDecl)
    → ((i : ℕ) (decl : OpDecl) → slice_get ops i ≡ Some decl → test decl ≡ true → IsSorted S added scope (make (k + i) decl)) → AreSorted S added scope (for_each test make k ops)
each-from S added scope test make k [] f = tt
each-from S added scope test make k (decl ∷ decls) f =
    go (test decl) refl
    (each-from S added scope test make (suc k) decls (λ i d e t. subst (λ n. IsSorted S added scope (make n d)) (let x : k + suc i ≡ suc k + i = omega arith in x) (f (suc i) d e t)))
  where
    go : (b : Bool) → test decl ≡ b → AreSorted S added scope (for_each test make (suc k) decls)
        → AreSorted S added scope (if b then also_fm (make k decl) (for_each test make (suc k) decls) else for_each test make (suc k) decls)
    go true t rest = (subst (λ n. IsSorted S added scope (make n decl)) (let x : k + 0 ≡ k = omega arith in x) (f 0 decl refl t), rest)
    go false t rest = rest

pub each-sorted : (S : Signature) (added : List NewConst) (scope : List ℕ) (test : OpDecl → Bool) (make : ℕ → OpDecl → Fm) (ops : List OpDecl)
    → ((o : ℕ) (decl : OpDecl) → slice_get ops o ≡ Some decl → test decl ≡ true → IsSorted S added scope (make o decl)) → AreSorted S added scope (for_each test make 0 ops)
each-sorted S added scope test make ops f =
    each-from S added scope test make 0 ops (λ i decl e t. subst (λ n. IsSorted S added scope (make n decl)) (let x : i ≡ 0 + i = omega arith in x) (f i decl e t))
