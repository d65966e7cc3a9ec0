-- The first fault of a list of places is the least of all faults, and there is one such.
use Rattle.std.proofs.Common.{◌≡◌, ℕ, Bool, true, false, List, [], ◌∷◌, Option, Some, None, ◌⊎◌, inl, inr, refl, ap, ap₂, sym, subst, arith}
use Rattle.std.proofs.lemmas.Bool.Decides.{nat_tests}
use Rattle.rp_span.specs.declared.Span.{Span}
use Rattle.rp_grammar.specs.Trees.{DeclTree}
use Rattle.type_rules.specs.declared.fault.Fault.{Fault}
use Rattle.type_rules.specs.Names.{Names}
use Rattle.type_rules.specs.Queries.{names_of}
use Rattle.type_rules.specs.Sites.{Site}
use Rattle.type_rules.specs.TextSites.{sites_of}
use Rattle.type_rules.specs.Rules.{Numbered, rules}
use Rattle.type_rules.specs.Faults.{BreaksAt, Breaks, IsLeast, IsBroken, IsFirstFault, IsLawful, is_before, keep, sooner, marked, judged_by, first, first_fault}
use Rattle.type_rules.proofs.Order.{not_before_trans, yes, no}

one_way : (x y : Fault) → is_before y x ≡ true → is_before x y ≡ false
one_way x y h = grind (arith, nat_tests)

neither : (x y : Fault) → is_before x y ≡ false → is_before y x ≡ false → x ≡ y
neither x y h k =
    let a : x.span.from ≡ y.span.from = grind (arith, nat_tests) in
    let b : x.rule ≡ y.rule = grind (arith, nat_tests) in
    let c : x.span.to ≡ y.span.to = grind (arith, nat_tests) in
    let place : ℕ → ℕ → Span = λ from to. record { from = from; to = to } in
    let made : ℕ → Span → Fault = λ rule span. record { rule = rule; span = span } in
    ap₂ made b (ap₂ place a c)

as_well : (P Q : Fault → Type 0) (o : Option Fault) → ((f : Fault) → P f → Q f) → ((f : Fault) → Q f → P f) → IsLeast P o → IsLeast Q o
as_well P Q None to from h = λ f q. h f (from f q)
as_well P Q (Some x) to from h = (to x h.0, λ g q. h.1 g (from g q))

chosen : (P Q : Fault → Type 0) (x y : Fault) (b : Bool) → is_before y x ≡ b → IsLeast P (Some x) → IsLeast Q (Some y) → IsLeast (λ f. P f ⊎ Q f) (Some (keep x y))
chosen P Q x y true e h k = subst (λ f. IsLeast (λ f. P f ⊎ Q f) (Some f)) (sym (yes x y e))
    (inr k.0, λ g u. elim u as (λ _. is_before g y ≡ false) [ inl p ↦ not_before_trans g x y (h.1 g p) (one_way x y e) | inr q ↦ k.1 g q ])
chosen P Q x y false e h k = subst (λ f. IsLeast (λ f. P f ⊎ Q f) (Some f)) (sym (no x y e))
    (inl h.0, λ g u. elim u as (λ _. is_before g x ≡ false) [ inl p ↦ h.1 g p | inr q ↦ not_before_trans g y x (k.1 g q) e ])

union : (P Q : Fault → Type 0) (a b : Option Fault) → IsLeast P a → IsLeast Q b → IsLeast (λ f. P f ⊎ Q f) (sooner a b)
union P Q None None h k = λ f u. elim u as (λ _. ⊥) [ inl p ↦ h f p | inr q ↦ k f q ]
union P Q None (Some y) h k = (inr k.0, λ g u. elim u as (λ _. is_before g y ≡ false) [ inl p ↦ absurd (h g p) | inr q ↦ k.1 g q ])
union P Q (Some x) None h k = (inl h.0, λ g u. elim u as (λ _. is_before g x ≡ false) [ inl p ↦ h.1 g p | inr q ↦ absurd (k g q) ])
union P Q (Some x) (Some y) h k = chosen P Q x y _ refl h k

none_some : (at : Span) → None ≡ Some at → ⊥
none_some at h = cc

the_same : (k : ℕ) (at : Span) (g : Fault) → k ≡ g.rule → Some at ≡ Some g.span → is_before g (record { rule = k; span = at }) ≡ false
the_same k at g h j = let e : at ≡ g.span = cc in grind (arith, nat_tests)

marked_least : (k : ℕ) (o : Option Span) → IsLeast (λ f. (k ≡ f.rule) × (o ≡ Some f.span)) (marked k o)
marked_least k None = λ f p. none_some f.span p.1
marked_least k (Some at) = ((refl, refl), λ g p. the_same k at g p.0 p.1)

split_rules : (r : Numbered) (rs : List Numbered) (n : Names) (s : Site) (f : Fault) → ((r.number ≡ f.rule) × (r.rule n s ≡ Some f.span)) ⊎ BreaksAt rs n s f → BreaksAt (r ∷ rs) n s f
split_rules r rs n s f (inl p) = (r, inl refl, p.0, p.1)
split_rules r rs n s f (inr q) = let (x, i, a, b) = q in (x, inr i, a, b)

join_rules : (r : Numbered) (rs : List Numbered) (n : Names) (s : Site) (f : Fault) → BreaksAt (r ∷ rs) n s f → ((r.number ≡ f.rule) × (r.rule n s ≡ Some f.span)) ⊎ BreaksAt rs n s f
join_rules r rs n s f h = let (x, i, a, b) = h in
    elim i as (λ _. ((r.number ≡ f.rule) × (r.rule n s ≡ Some f.span)) ⊎ BreaksAt rs n s f) [
      | inl e ↦ inl (subst (λ y. (y.number ≡ f.rule) × (y.rule n s ≡ Some f.span)) (sym e) (a, b))
      | inr j ↦ inr (x, j, a, b)
    ]

judged_least : (rs : List Numbered) (n : Names) (s : Site) → IsLeast (BreaksAt rs n s) (judged_by rs n s)
judged_least [] n s = λ f h. h.1
judged_least (r ∷ rs) n s = as_well _ _ _ (split_rules r rs n s) (join_rules r rs n s) (union _ _ _ _ (marked_least r.number (r.rule n s)) (judged_least rs n s))

split_sites : (n : Names) (s : Site) (ss : List Site) (f : Fault) → BreaksAt rules n s f ⊎ Breaks n ss f → Breaks n (s ∷ ss) f
split_sites n s ss f (inl p) = (s, inl refl, p)
split_sites n s ss f (inr q) = let (x, i, a) = q in (x, inr i, a)

join_sites : (n : Names) (s : Site) (ss : List Site) (f : Fault) → Breaks n (s ∷ ss) f → BreaksAt rules n s f ⊎ Breaks n ss f
join_sites n s ss f h = let (x, i, a) = h in
    elim i as (λ _. BreaksAt rules n s f ⊎ Breaks n ss f) [
      | inl e ↦ inl (subst (λ y. BreaksAt rules n y f) (sym e) a)
      | inr j ↦ inr (x, j, a)
    ]

pub first_least : (n : Names) (ss : List Site) → IsLeast (Breaks n ss) (first n ss)
first_least n [] = λ f h. h.1
first_least n (s ∷ ss) = as_well _ _ _ (split_sites n s ss) (join_sites n s ss) (union _ _ _ _ (judged_least rules n s) (first_least n ss))

pub fault_least : (tree : List DeclTree) → IsFirstFault tree (first_fault tree)
fault_least tree = first_least (names_of tree) (sites_of (names_of tree) tree)

no_other : (P : Fault → Type 0) (f : Fault) → IsLeast P None → P f → None ≡ Some f
no_other P f h p = absurd (h f p)

one : (P : Fault → Type 0) (f g : Option Fault) → IsLeast P f → IsLeast P g → f ≡ g
one P None None h k = refl
one P None (Some y) h k = no_other P y h k.0
one P (Some x) None h k = sym (no_other P x k h.0)
one P (Some x) (Some y) h k = ap Some (neither x y (k.1 x h.0) (h.1 y k.0))

pub one_fault : (tree : List DeclTree) (f g : Option Fault) → IsFirstFault tree f → IsFirstFault tree g → f ≡ g
one_fault tree f g h k = one (IsBroken tree) f g h k

pub none_lawful : (tree : List DeclTree) → first_fault tree ≡ None → IsLawful tree
none_lawful tree e = subst (IsLeast (IsBroken tree)) e (fault_least tree)

pub lawful_none : (tree : List DeclTree) → IsLawful tree → first_fault tree ≡ None
lawful_none tree h = one_fault tree (first_fault tree) None (fault_least tree) h
