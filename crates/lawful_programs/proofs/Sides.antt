-- What the sides of a comparison and the arguments of a word are asked.
use Rattle.std.proofs.Common.{◌≡◌, Bool, true, false, cond, List, [], ◌∷◌, Option, Some, None, refl, ap, subst, sym, ◌∙◌}
use Rattle.std.proofs.lemmas.Bool.{or_parts, true≢false}
use Rattle.rp_grammar.specs.declared.operator.CallWord.{CallWord}
use Rattle.rp_grammar.specs.declared.operator.CallWord.TheVariants as called
use Rattle.rp_grammar.specs.declared.operator.CompareOp.{CompareOp}
use Rattle.rp_grammar.specs.declared.operator.CompareOp.TheVariants as compare
use Rattle.rp_grammar.specs.Trees.{ExprTree, ExprTrees}
use Rattle.type_rules.specs.declared.kind.Kind.{Kind}
use Rattle.type_rules.specs.Names.{Names}
use Rattle.type_rules.specs.Kinds.{bool_kind, is_open, is_unknown}
use Rattle.type_rules.specs.Accesses.{Var}
use Rattle.type_rules.specs.Typing.{type_of}
use Rattle.type_rules.specs.Sites.{Scope, Want}
use Rattle.type_rules.specs.ExprSites.{expr_sites, left_want, right_want, left_asked, left_side, right_side, word_args, before_kind, first_type}
use Rattle.type_rules.specs.Faults.{IsOneOf}
use Rattle.desugaring.specs.Tables.{Tables}
use Rattle.desugaring.specs.Callees.{Vars, vars_of}
use Rattle.lawful_programs.specs.Valued.{AllSound, IsWhole, AskedWhole, Seen}
use Rattle.lawful_programs.proofs.Wholes.{int_whole, whole_not_any}
use Rattle.lawful_programs.proofs.Types.{AccessesWhole, is_loose, loose_type, loose_open, firm_type, firm_whole, type_whole}
use Rattle.lawful_programs.proofs.Looks.{seen_type}

-- # By the rules and by what variables stand for

left_same : (n : Names) (vs : List Var) (ss : Vars) → Seen vs ss → (a b : ExprTree) → left_asked n vs a b ≡ left_asked n (vars_of ss) a b
left_same n vs ss seen a b = rw (seen_type n vs ss seen None a, seen_type n vs ss seen None b) refl

pub left_wanted : (n : Names) (vs : List Var) (ss : Vars) → Seen vs ss → (c : CompareOp) (a b : ExprTree)
    → (left_want n vs c a b).asked ≡ (left_want n (vars_of ss) c a b).asked
left_wanted n vs ss seen compare.Equal a b = left_same n vs ss seen a b
left_wanted n vs ss seen compare.NotEqual a b = left_same n vs ss seen a b
left_wanted n vs ss seen compare.Less a b = refl
left_wanted n vs ss seen compare.AtMost a b = refl
left_wanted n vs ss seen compare.Greater a b = refl
left_wanted n vs ss seen compare.AtLeast a b = refl

right_same : (n : Names) (vs : List Var) (ss : Vars) → Seen vs ss → (a b : ExprTree)
    → Some (type_of n vs (left_asked n vs a b) a) ≡ Some (type_of n (vars_of ss) (left_asked n (vars_of ss) a b) a)
right_same n vs ss seen a b =
    ap Some (seen_type n vs ss seen (left_asked n vs a b) a ∙ ap (λ o. type_of n (vars_of ss) o a) (left_same n vs ss seen a b))

pub right_wanted : (n : Names) (vs : List Var) (ss : Vars) → Seen vs ss → (c : CompareOp) (a b : ExprTree)
    → (right_want n vs c a b).asked ≡ (right_want n (vars_of ss) c a b).asked
right_wanted n vs ss seen compare.Equal a b = right_same n vs ss seen a b
right_wanted n vs ss seen compare.NotEqual a b = right_same n vs ss seen a b
right_wanted n vs ss seen compare.Less a b = refl
right_wanted n vs ss seen compare.AtMost a b = refl
right_wanted n vs ss seen compare.Greater a b = refl
right_wanted n vs ss seen compare.AtLeast a b = refl

pub words_same : (n : Names) (vs : List Var) (ss : Vars) → Seen vs ss → (w : CallWord) (es : ExprTrees) → word_args n vs w es ≡ word_args n (vars_of ss) w es
words_same n vs ss seen called.Visible es = refl
words_same n vs ss seen called.Same es = refl
words_same n vs ss seen called.Op es = refl
words_same n vs ss seen called.Origin es = refl
words_same n vs ss seen called.Info es = refl
words_same n vs ss seen called.Result es = refl
words_same n vs ss seen called.Before es =
    ap (λ k. before_kind k ∷ before_kind k ∷ []) (first_same n vs ss seen es) where
      first_same : (n : Names) (vs : List Var) (ss : Vars) → Seen vs ss → (es : ExprTrees) → first_type n vs es ≡ first_type n (vars_of ss) es
      first_same n vs ss seen ExprTrees.no_exprs = refl
      first_same n vs ss seen (ExprTrees.more_exprs e es) = seen_type n vs ss seen None e

-- # Both are plain terms

pub left_plain : (n : Names) (vs : List Var) (c : CompareOp) (a b : ExprTree) → (left_want n vs c a b).plain ≡ true
left_plain n vs compare.Equal a b = refl
left_plain n vs compare.NotEqual a b = refl
left_plain n vs compare.Less a b = refl
left_plain n vs compare.AtMost a b = refl
left_plain n vs compare.Greater a b = refl
left_plain n vs compare.AtLeast a b = refl

pub right_plain : (n : Names) (vs : List Var) (c : CompareOp) (a b : ExprTree) → (right_want n vs c a b).plain ≡ true
right_plain n vs compare.Equal a b = refl
right_plain n vs compare.NotEqual a b = refl
right_plain n vs compare.Less a b = refl
right_plain n vs compare.AtMost a b = refl
right_plain n vs compare.Greater a b = refl
right_plain n vs compare.AtLeast a b = refl

-- # Each is asked a type of the program, or none

abbrev Both : Tables → Option Kind → Option Kind → Type 0
Both t o u = AskedWhole t o × AskedWhole t u

-- the left side has a type of its own, or that of the right one, which then has one of its own
equal_whole : (t : Tables) → IsOneOf bool_kind t.datatypes → (sc : Scope) → AccessesWhole t sc → (a b : ExprTree)
    → AllSound t (expr_sites t.names sc (left_side t.names sc.vars a b) a) → AllSound t (expr_sites t.names sc (right_side t.names sc.vars a b) b)
    → Both t (left_asked t.names sc.vars a b) (Some (type_of t.names sc.vars (left_asked t.names sc.vars a b) a))
equal_whole t bool sc accesses a b left right =
    let whole = by_open t bool sc accesses a b left right (is_open (type_of t.names sc.vars None a).base) refl in
    (whole, type_whole t bool sc accesses (left_side t.names sc.vars a b) a whole left) where
      right_known : (t : Tables) → IsOneOf bool_kind t.datatypes → (sc : Scope) → AccessesWhole t sc → (b : ExprTree) (w : Want)
          → AllSound t (expr_sites t.names sc w b) → is_open (type_of t.names sc.vars None b).base ≡ false → IsWhole t (type_of t.names sc.vars None b)
      right_known t bool sc accesses b w sound closed = by_form t bool sc accesses b w sound closed (is_loose b) refl where
        by_form : (t : Tables) → IsOneOf bool_kind t.datatypes → (sc : Scope) → AccessesWhole t sc → (b : ExprTree) (w : Want)
            → AllSound t (expr_sites t.names sc w b) → is_open (type_of t.names sc.vars None b).base ≡ false → (loose : Bool) → is_loose b ≡ loose
            → IsWhole t (type_of t.names sc.vars None b)
        by_form t bool sc accesses b w sound closed true is = absurd (true≢false (sym (loose_open t.names sc.vars b is) ∙ closed))
        by_form t bool sc accesses b w sound closed false is =
            subst (IsWhole t) (firm_type t.names sc.vars w.asked b is) (firm_whole t bool sc accesses w b is sound)

      by_loose : (t : Tables) → IsOneOf bool_kind t.datatypes → (sc : Scope) → AccessesWhole t sc → (a b : ExprTree) (v : Want)
          → v.asked ≡ Some (type_of t.names sc.vars None b) → is_open (type_of t.names sc.vars None a).base ≡ true
          → AllSound t (expr_sites t.names sc v a) → (w : Want) → AllSound t (expr_sites t.names sc w b) → (loose : Bool) → is_loose a ≡ loose
          → IsWhole t (type_of t.names sc.vars None b)
      by_loose t bool sc accesses a b v asked open_ left w right true is =
          let r = loose_type t sc v a is left in
          let same : type_of t.names sc.vars None b ≡ r.k = some_one (sym asked ∙ r.is) in
          right_known t bool sc accesses b w right (subst (λ k. is_open k.base ≡ false) (sym same) r.closed) where
            some_one : {j k : Kind} → Some j ≡ Some k → j ≡ k
            some_one e = cc
      by_loose t bool sc accesses a b v asked open_ left w right false is =
          let whole = subst (IsWhole t) (firm_type t.names sc.vars v.asked a is) (firm_whole t bool sc accesses v a is left) in
          absurd (open_any t (type_of t.names sc.vars None a) whole open_) where
            open_any : (t : Tables) (k : Kind) → IsWhole t k → is_open k.base ≡ true → ⊥
            open_any t k whole e = absurd (true≢false (sym e ∙ (or_parts (is_unknown k.base) (is_open k.base) (whole_not_any t k whole)).1))

      by_open : (t : Tables) → IsOneOf bool_kind t.datatypes → (sc : Scope) → AccessesWhole t sc → (a b : ExprTree)
          → AllSound t (expr_sites t.names sc (left_side t.names sc.vars a b) a) → AllSound t (expr_sites t.names sc (right_side t.names sc.vars a b) b)
          → (open_ : Bool) → is_open (type_of t.names sc.vars None a).base ≡ open_ → AskedWhole t (left_asked t.names sc.vars a b)
      by_open t bool sc accesses a b left right false is = subst (λ z. AskedWhole t (cond z (Some (type_of t.names sc.vars None b)) None)) (sym is) tt
      by_open t bool sc accesses a b left right true is =
          let asked : left_asked t.names sc.vars a b ≡ Some (type_of t.names sc.vars None b) = ap (λ z. cond z (Some (type_of t.names sc.vars None b)) None) is in
          subst (AskedWhole t) (sym asked)
          (by_loose t bool sc accesses a b (left_side t.names sc.vars a b) asked is left (right_side t.names sc.vars a b) right (is_loose a) refl)

pub sides_whole : (t : Tables) → IsOneOf bool_kind t.datatypes → (sc : Scope) → AccessesWhole t sc → (c : CompareOp) (a b : ExprTree)
    → AllSound t (expr_sites t.names sc (left_want t.names sc.vars c a b) a) → AllSound t (expr_sites t.names sc (right_want t.names sc.vars c a b) b)
    → Both t (left_want t.names sc.vars c a b).asked (right_want t.names sc.vars c a b).asked
sides_whole t bool sc accesses compare.Equal a b left right = equal_whole t bool sc accesses a b left right
sides_whole t bool sc accesses compare.NotEqual a b left right = equal_whole t bool sc accesses a b left right
sides_whole t bool sc accesses compare.Less a b left right = (int_whole t, int_whole t)
sides_whole t bool sc accesses compare.AtMost a b left right = (int_whole t, int_whole t)
sides_whole t bool sc accesses compare.Greater a b left right = (int_whole t, int_whole t)
sides_whole t bool sc accesses compare.AtLeast a b left right = (int_whole t, int_whole t)
