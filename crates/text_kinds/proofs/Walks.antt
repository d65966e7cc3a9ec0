-- Walks that bring datatypes one after the other.
use Rattle.std.proofs.Common.{◌≡◌, ℕ, zero, suc, ◌+◌, ◌<◌, List, [], ◌∷◌, ◌++◌, length, get_or, drop, take, Option, refl, sym, ap, ap₂, ◌∙◌, arith}
use Rattle.std.proofs.lemmas.List.{append_assoc, drop_more}
use Rattle.rp_ast.specs.declared.expr.ExprNode.{ExprNode}
use Rattle.rp_ast.specs.View.{expr_form_view, expr_view}
use Rattle.rp_ast.proofs.ExprViews.{expr_view-parts}
use Rattle.rp_grammar.specs.Trees.{ExprForm}
use Rattle.type_rules.specs.declared.kind.Kind.{Kind}
use Rattle.type_rules.specs.Names.{Names}
use Rattle.type_rules.specs.Accesses.{Var}
use Rattle.type_rules.specs.Matches.{other_kinds}
use Rattle.text_kinds.specs.Numbered.{Numbered, numbered, with_kinds}
use Rattle.text_kinds.specs.means.Brought.{Seen, expr_brings, form_brings, seeing, sought}
use Rattle.text_kinds.specs.means.Walked.{Gains, Goes}
use Rattle.text_kinds.proofs.KindsAdded.{each_both}

pub kinds_both : (ks js : List Kind) (t : Numbered) → with_kinds (ks ++ js) t ≡ with_kinds js (with_kinds ks t)
kinds_both ks js t = ap (numbered t.names) (each_both ks js t.kinds)

pub sought_both : (s : Seen) (ks js : List Kind) → sought s (ks ++ js) ≡ sought (sought s ks) js
sought_both s ks js = ap (λ t. record s { kinds = t }) (kinds_both ks js s.kinds)

-- a part that was walked before another
pub both_sought : (a b c : Seen) (f g : Names → List Var → List Kind) → b ≡ sought a (f a.kinds.names a.vars)
    → c ≡ sought b (g b.kinds.names b.vars) → c ≡ sought a (f a.kinds.names a.vars ++ g a.kinds.names a.vars)
both_sought a b c f g one other =
    other ∙ ap (λ (s : Seen). sought s (g s.kinds.names s.vars)) one
    ∙ sym (sought_both a (f a.kinds.names a.vars) (g a.kinds.names a.vars))

pub goes_start : (s : Seen) (whole : List Kind) → Goes s s whole whole
goes_start s whole = record { vars = refl; names = refl; comes = refl }

pub goes_on : (start now new : Seen) (rest next whole : List Kind) (f : Names → List Var → List Kind) → Goes start now rest whole
    → rest ≡ f start.kinds.names start.vars ++ next → new ≡ sought now (f now.kinds.names now.vars) → Goes start new next whole
goes_on start now new rest next whole f goes parts is =
    let one : List Kind = f now.kinds.names now.vars in
    let same : f now.kinds.names now.vars ≡ f start.kinds.names start.vars = ap₂ f goes.names goes.vars in
    record {
      vars = ap (λ (s : Seen). s.vars) is ∙ goes.vars;
      names = ap (λ (s : Seen). s.kinds.names) is ∙ goes.names;
      comes = ap (λ (s : Seen). with_kinds next s.kinds) is
          ∙ sym (kinds_both (f now.kinds.names now.vars) next now.kinds)
          ∙ ap (λ ks. with_kinds (ks ++ next) now.kinds) same
          ∙ ap (λ ks. with_kinds ks now.kinds) (sym parts)
          ∙ goes.comes;
    }

pub goes_end : (start now : Seen) (whole : List Kind) → Goes start now [] whole → now ≡ sought start whole
goes_end start now whole goes = ap₂ (λ vs t. record { vars = vs; kinds = t }) goes.vars goes.comes

pub gains_start : (s : Seen) (whole : List Kind) (all : List Var) → Gains s s whole whole all all
gains_start s whole all = record { vars = refl; names = refl; comes = refl }

pub gains_on : (start now new : Seen) (rest one next whole : List Kind) (seen later all : List Var)
    → Gains start now rest whole seen all
    → rest ≡ one ++ next → seen ≡ later → new.kinds ≡ with_kinds one now.kinds → Gains start new next whole later all
gains_on start now new rest one next whole seen later all gains parts vars is = record {
  vars = sym vars ∙ gains.vars;
  names = ap (λ (t : Numbered). t.names) is ∙ gains.names;
  comes = ap (with_kinds next) is ∙ sym (kinds_both one next now.kinds) ∙ ap (λ ks. with_kinds ks now.kinds) (sym parts)
      ∙ gains.comes;
}

pub gains_end : (start now : Seen) (whole : List Kind) (all : List Var) → Gains start now [] whole now.vars all → now
    ≡ seeing (sought start whole) all
gains_end start now whole all gains = ap₂ (λ vs t. record { vars = vs; kinds = t }) gains.vars gains.comes

-- # Lists that are gone through

pub other_dropped : (ks : List Kind) (i : ℕ) → other_kinds (drop i ks) ≡ drop (i + 1) ks
other_dropped [] zero = let plus : 1 ≡ 0 + 1 = omega arith in ap (λ m. drop m []) plus
other_dropped [] (suc i) = let plus : suc (i + 1) ≡ suc i + 1 = omega arith in ap (λ m. drop m []) plus
other_dropped (k ∷ ks) zero = let plus : 1 ≡ 0 + 1 = omega arith in ap (λ m. drop m (k ∷ ks)) plus
other_dropped (k ∷ ks) (suc i) =
    let plus : suc (i + 1) ≡ suc i + 1 = omega arith in other_dropped ks i ∙ ap (λ m. drop m (k ∷ ks)) plus

pub rest_is : {X : Type 0} (xs : List X) (i : ℕ) (x : X) → i < length xs → x ≡ get_or xs i x → drop i xs ≡ x ∷ drop (i + 1) xs
rest_is xs i x h e = drop_more xs i x h ∙ ap (λ y. y ∷ drop (i + 1) xs) (sym e)

pub left_seen : (vs more : List Var) → take (length vs) (vs ++ more) ≡ vs
left_seen [] more = refl
left_seen (v ∷ vs) more = ap (λ ws. v ∷ ws) (left_seen vs more)

-- # Tables alone

pub both_kinds : (a b c : Numbered) (f g : Names → List Kind) → b ≡ with_kinds (f a.names) a → c ≡ with_kinds (g b.names) b
    → c ≡ with_kinds (f a.names ++ g a.names) a
both_kinds a b c f g one other =
    other ∙ ap (λ (t : Numbered). with_kinds (g t.names) t) one ∙ sym (kinds_both (f a.names) (g a.names) a)

pub names_on : (start old new : Numbered) (f : Names → List Kind) → old.names ≡ start.names → new ≡ with_kinds (f old.names) old
    → new.names ≡ start.names
names_on start old new f names is = ap (λ (t : Numbered). t.names) is ∙ names

pub kinds_on : (start old new : Numbered) (rest next whole : List Kind) (f : Names → List Kind) → old.names ≡ start.names
    → with_kinds rest old ≡ with_kinds whole start → rest ≡ f start.names ++ next → new ≡ with_kinds (f old.names) old
    → with_kinds next new ≡ with_kinds whole start
kinds_on start old new rest next whole f names comes parts is =
    ap (with_kinds next) is ∙ sym (kinds_both (f old.names) next old)
    ∙ ap (λ n. with_kinds (f n ++ next) old) names ∙ ap (λ ks. with_kinds ks old) (sym parts) ∙ comes

-- a part whose trees are seen otherwise
pub part_sought : (a b : Seen) (f g : Names → List Var → List Kind) → f a.kinds.names a.vars ≡ g a.kinds.names a.vars
    → b ≡ sought a (f a.kinds.names a.vars) → b ≡ sought a (g a.kinds.names a.vars)
part_sought a b f g same is = is ∙ ap (sought a) same

pub both_as : (a b c : Seen) (f g : Names → List Var → List Kind) (whole : List Kind) → b ≡ sought a (f a.kinds.names a.vars)
    → c ≡ sought b (g b.kinds.names b.vars) → whole ≡ f a.kinds.names a.vars ++ g a.kinds.names a.vars → c ≡ sought a whole
both_as a b c f g whole one other same = both_sought a b c f g one other ∙ ap (sought a) (sym same)

-- behind a part in which more variables were in sight
pub left_sought : (a b c d : Seen) (vs more : List Var) (f : Names → List Var → List Kind) → vs ≡ a.vars ++ more → b
    ≡ seeing a vs
    → c ≡ sought b (f b.kinds.names b.vars) → d ≡ seeing c (take (length a.vars) c.vars) → d ≡ sought a (f a.kinds.names vs)
left_sought a b c d vs more f long bound brought gone =
    gone
    ∙ ap (λ (s : Seen). seeing s (take (length a.vars) s.vars))
    (brought ∙ ap (λ (s : Seen). sought s (f s.kinds.names s.vars)) bound)
    ∙ ap (seeing (sought a (f a.kinds.names vs))) (ap (take (length a.vars)) long ∙ left_seen a.vars more)

pub three_as : (a b c d : Seen) (f g h : Names → List Var → List Kind) (whole : List Kind) → b
    ≡ sought a (f a.kinds.names a.vars)
    → c ≡ sought b (g b.kinds.names b.vars) → d ≡ sought c (h c.kinds.names c.vars)
    → whole ≡ f a.kinds.names a.vars ++ g a.kinds.names a.vars ++ h a.kinds.names a.vars → d ≡ sought a whole
three_as a b c d f g h whole one two three same =
    both_as a c d (λ m vs. f m vs ++ g m vs) h whole (both_sought a b c f g one two) three same

-- behind a block that brought more variables in sight
pub left_gained : (a b c : Seen) (ks : List Kind) (vs more : List Var) → vs ≡ a.vars ++ more → b ≡ seeing (sought a ks) vs
    → c ≡ seeing b (take (length a.vars) b.vars) → c ≡ sought a ks
left_gained a b c ks vs more long brought gone =
    gone
    ∙ ap (λ (s : Seen). seeing s (take (length a.vars) s.vars)) brought
    ∙ ap (seeing (sought a ks)) (ap (take (length a.vars)) long ∙ left_seen a.vars more)

-- a type, then variables, and a part in which these are in sight
pub bound_behind : (a b c d : Seen) (ks : List Kind) (vs : List Var) (f : Names → List Var → List Kind) → b ≡ sought a ks
    → c ≡ seeing b vs → d ≡ sought c (f c.kinds.names c.vars) → d ≡ seeing (sought a (ks ++ f a.kinds.names vs)) vs
bound_behind a b c d ks vs f one bound other =
    other
    ∙ ap (λ (s : Seen). sought s (f s.kinds.names s.vars)) (bound ∙ ap (λ (s : Seen). seeing s vs) one)
    ∙ ap (λ t. record { vars = vs; kinds = t }) (sym (kinds_both ks (f a.kinds.names vs) a.kinds))

-- parameters, then a result, then a body
pub declared_walk : (a b c d : Seen) (ks : List Kind) (vs : List Var) (f : Names → List Kind) (g : Names → List Var → List Kind)
    → b ≡ seeing (sought a ks) vs → c ≡ sought b (f b.kinds.names) → d ≡ sought c (g c.kinds.names c.vars)
    → d.kinds ≡ with_kinds (ks ++ f a.kinds.names ++ g a.kinds.names vs) a.kinds
declared_walk a b c d ks vs f g begun one other =
    ap (λ (s : Seen). s.kinds)
    (both_sought b c d (λ m ws. f m) g one other ∙ ap (λ (s : Seen). sought s (f s.kinds.names ++ g s.kinds.names s.vars)) begun)
    ∙ sym (kinds_both ks (f a.kinds.names ++ g a.kinds.names vs) a.kinds)
    ∙ ap (λ js. with_kinds js a.kinds) (sym (append_assoc ks (f a.kinds.names) (g a.kinds.names vs)))

-- an expression by its form
pub form_seen : (n : Names) (vs : List Var) (asked : Option Kind) (e : ExprNode) (form : ExprForm)
    → expr_form_view e.what ≡ form → expr_brings n vs asked (expr_view e) ≡ form_brings n vs asked form
form_seen n vs asked e form is = ap (expr_brings n vs asked) (expr_view-parts e) ∙ ap (form_brings n vs asked) is
