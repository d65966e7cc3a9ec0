-- Numbers one behind the other.
use Rattle.std.proofs.Common.{◌≡◌, ◌<◌, ℕ, zero, suc, ◌+◌, Bool, List, [], ◌∷◌, ◌++◌, length, map, filter, take, get_or, sym, ap, ap₂, ◌∙◌, append_assoc, arith}
use Rattle.std.proofs.Math.Seq.{take-suc}
use Rattle.std.proofs.lemmas.List.{append-nil, map-append, replicate-append-replicate}
use Rattle.std.proofs.lemmas.List.Elements.{filter-append}
use Rattle.rp_lang.specs.declared.query.QueryDecl.{QueryDecl}
use Rattle.rp_lang.specs.Programs.{Prog}
use Rattle.rp_logic.specs.declared.sort.FnDecl.{FnDecl}
use Rattle.rp_logic.specs.declared.sort.Sort.{Sort}
use Rattle.rp_logic.specs.declared.sort.Sort.TheVariants.{Datatype}
use Rattle.rp_symbols.specs.Signatures.{from, set_decl, set_decls, val_decls, val_decls_at}

one-more : (a n : ℕ) → from a (suc n) ≡ from a n ++ (a + n) ∷ []
one-more a zero = ap (λ k. k ∷ []) (let e : a ≡ a + 0 = omega arith in e)
one-more a (suc n) = ap (λ ks. a ∷ ks) (one-more (suc a) n ∙ ap (λ k. from (suc a) n ++ k ∷ []) (let e : suc a + n ≡ a + suc n = omega arith in e))

pub from_more : (a n : ℕ) → from a (n + 1) ≡ from a n ++ (a + n) ∷ []
from_more a n = ap (from a) (let e : n + 1 ≡ suc n = omega arith in e) ∙ one-more a n

-- the first one apart
pub from_first : (a n : ℕ) → from a (n + 1) ≡ a ∷ from (a + 1 + 0) n
from_first a n =
    ap (from a) (let e : n + 1 ≡ suc n = omega arith in e) ∙ ap (λ b. a ∷ from b n) (let e : suc a ≡ a + 1 + 0 = omega arith in e)

-- three sorts more
pub three_more : (old s t u : List Sort) (a b c x y z : List ℕ) → s ≡ old ++ Datatype x ∷ [] → t ≡ s ++ Datatype y ∷ [] → u ≡ t ++ Datatype z ∷ [] → x ≡ a → y ≡ b → z ≡ c
    → u ≡ old ++ Datatype a ∷ Datatype b ∷ Datatype c ∷ []
three_more old s t u a b c x y z p q r e f g =
    r
    ∙ (ap (λ t. t ++ Datatype z ∷ []) (q ∙ (ap (λ s. s ++ Datatype y ∷ []) p ∙ append_assoc old (Datatype x ∷ []) (Datatype y ∷ [])))
    ∙ (append_assoc old (Datatype x ∷ Datatype y ∷ []) (Datatype z ∷ [])
    ∙ (ap (λ x. old ++ Datatype x ∷ Datatype y ∷ Datatype z ∷ []) e
    ∙ (ap (λ y. old ++ Datatype a ∷ Datatype y ∷ Datatype z ∷ []) f ∙ ap (λ z. old ++ Datatype a ∷ Datatype b ∷ Datatype z ∷ []) g))))

-- one set more
pub set_more : (n : ℕ) → set_decls (n + 1) ≡ set_decls n ++ set_decl ∷ []
set_more n = sym (replicate-append-replicate n 1 set_decl)

-- at one view more
view-more : (p : Prog) (n : ℕ) → val_decls_at p (suc n) ≡ val_decls_at p n ++ val_decls p
view-more p zero = append-nil (val_decls p)
view-more p (suc n) = ap (λ vals. val_decls p ++ vals) (view-more p n) ∙ sym (append_assoc (val_decls p) (val_decls_at p n) (val_decls p))

pub vals_more : (p : Prog) (n : ℕ) (old fns new vals items : List FnDecl) → fns ≡ old ++ val_decls_at p n → new ≡ fns ++ items → items ≡ vals → vals ≡ val_decls p → new ≡ old ++ val_decls_at p (n + 1)
vals_more p n old fns new vals items h e f g =
    let next : suc n ≡ n + 1 = omega arith in
    e
    ∙ (ap₂ (λ xs ys. xs ++ ys) h (f ∙ g)
    ∙ (append_assoc old (val_decls_at p n) (val_decls p) ∙ (ap (λ xs. old ++ xs) (sym (view-more p n)) ∙ ap (λ k. old ++ val_decls_at p k) next)))

-- one query more
pub query_more : (f : QueryDecl → FnDecl) (test : QueryDecl → Bool) (queries items : List QueryDecl) (i : ℕ) (query : QueryDecl) (vals new : List FnDecl) → items ≡ queries → i < length items
    → query ≡ get_or items i query → vals ≡ map f (filter test (take i queries)) → new ≡ vals ++ map f (filter test (query ∷ [])) → new ≡ map f (filter test (take (i + 1) queries))
query_more f test queries items i query vals new same l is h e =
    let next : suc i ≡ i + 1 = omega arith in
    let more : take (suc i) items ≡ take i items ++ query ∷ [] = take-suc items i query l ∙ ap (λ q. take i items ++ q ∷ []) (sym is) in
    let cut : take (i + 1) queries ≡ take i queries ++ query ∷ [] = ap₂ take (sym next) (sym same) ∙ (more ∙ ap (λ qs. take i qs ++ query ∷ []) same) in
    e
    ∙ (ap (λ xs. xs ++ map f (filter test (query ∷ []))) h
    ∙ (sym (map-append f (filter test (take i queries)) (filter test (query ∷ [])))
    ∙ ap (map f) (sym (filter-append test (take i queries) (query ∷ [])) ∙ ap (filter test) (sym cut))))

-- what was added stood first in what is to come
pub moved : {A : Type 0} (now added rest made whole : List A) → made ≡ now ++ added → now ++ (added ++ rest) ≡ whole → made ++ rest ≡ whole
moved now added rest made whole e h = ap (λ xs. xs ++ rest) e ∙ (append_assoc now added rest ∙ h)

-- constructors one list behind the other
pub put_together : {A : Type 0} (own ops infos outcomes : List A) (one : A) (a b c d e : List A) → a ≡ own → b ≡ a ++ ops → c ≡ b ++ infos → d ≡ c ++ one ∷ [] → e ≡ d ++ outcomes
    → e ≡ own ++ (ops ++ (infos ++ one ∷ outcomes))
put_together own ops infos outcomes one a b c d e p q r s t =
    t
    ∙ (ap (λ xs. xs ++ outcomes) (s ∙ ap (λ xs. xs ++ one ∷ []) (r ∙ ap (λ xs. xs ++ infos) (q ∙ ap (λ xs. xs ++ ops) p)))
    ∙ (append_assoc (own ++ ops ++ infos) (one ∷ []) outcomes
    ∙ (append_assoc (own ++ ops) infos (one ∷ outcomes) ∙ append_assoc own ops (infos ++ one ∷ outcomes))))
