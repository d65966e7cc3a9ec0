-- Which variables have values tells nothing of types.
use Rattle.std.proofs.Common.{◌≡◌, Bool, true, false, cond, List, [], ◌∷◌, ◌++◌, length, map, take, Option, Some, None, refl, sym, ap, ◌∙◌}
use Rattle.std.specs.Option.{option_map, option_map_or, unwrap_or}
use Rattle.type_terms.specs.declared.cases.Case as code_case
use Rattle.type_terms.specs.Views.{fields_of}
use Rattle.std.proofs.lemmas.List.{append-nil, append_assoc, map-append, take-map}
use Rattle.rp_grammar.specs.declared.operator.CompareOp.{CompareOp}
use Rattle.rp_grammar.specs.declared.operator.CallWord.{CallWord}
use Rattle.rp_grammar.specs.declared.operator.CallWord.TheVariants as called
use Rattle.rp_grammar.specs.Trees.{Ident, ExprTree, ExprForm, ExprTrees, AccessTree, StepTrees, StmtForm, StmtTree, StmtTrees}
use Rattle.type_rules.specs.declared.kind.Kind.{Kind}
use Rattle.type_rules.specs.Names.{Name, Names, same_name, text_of}
use Rattle.type_rules.specs.Kinds.{is_open, kind_of, maybe_of}
use Rattle.type_rules.specs.Accesses.{Var, access_kind, access_of, args_of, find_var, of_name}
use Rattle.type_rules.specs.Typing.{asked_inside, form_type, type_of}
use Rattle.type_rules.specs.Matches.{Case, bound_var, case_fields, first_kind, other_kinds, with_bound}
use Rattle.type_rules.specs.Flow.{both, give, with_value}
use Rattle.type_rules.specs.ExprSites.{before_kind, first_type, is_equality, left_asked, left_side, left_want, ordered_side, right_side, right_want, way_from, word_args}
use Rattle.type_rules.specs.StmtSites.{var_kind}
use Rattle.text_kinds.specs.means.Brought.{stmts_behind, vars_behind}

-- as one that has a value
abbrev pub bare : Var → Var
bare v = record { name = v.name; kind = v.kind; set = true; fixed = true }

abbrev pub bares : List Var → List Var
bares vs = map bare vs

-- # What stands for a name

find_bare : (vs : List Var) (x : Name) → find_var (bares vs) x ≡ option_map bare (find_var vs x)
find_bare [] x = refl
find_bare (v ∷ vs) x = by (same_name v.name x) (find_bare vs x)
  where
    by : (b : Bool) → find_var (bares vs) x ≡ option_map bare (find_var vs x) → cond b (Some (bare v)) (find_var (bares vs) x)
        ≡ option_map bare (cond b (Some v) (find_var vs x))
    by true later = refl
    by false later = later

kind_bare : (n : Names) (x : Ident) (steps : StepTrees) (o : Option Var)
    → access_kind n (of_name n x steps (option_map bare o)) ≡ access_kind n (of_name n x steps o)
kind_bare n x steps None = refl
kind_bare n x StepTrees.no_steps (Some v) = refl
kind_bare n x (StepTrees.more_steps s steps) (Some v) = refl

given_bare : (n : Names) (x : Ident) (steps : StepTrees) (o : Option Var)
    → args_of n (of_name n x steps (option_map bare o)) ≡ args_of n (of_name n x steps o)
given_bare n x steps None = refl
given_bare n x StepTrees.no_steps (Some v) = refl
given_bare n x (StepTrees.more_steps s steps) (Some v) = refl

begun_bare : (n : Names) (x : Ident) (o : Option Var) → way_from n (option_map bare o) x ≡ way_from n o x
begun_bare n x None = refl
begun_bare n x (Some v) = refl

pub args_bare : (n : Names) (vs : List Var) (a : AccessTree) → args_of n (access_of n (bares vs) a)
    ≡ args_of n (access_of n vs a)
args_bare n vs (AccessTree.path x steps args) =
    ap (λ o. args_of n (of_name n x steps o)) (find_bare vs (text_of x)) ∙ given_bare n x steps (find_var vs (text_of x))

pub way_bare : (n : Names) (vs : List Var) (x : Ident) → way_from n (find_var (bares vs) (text_of x)) x
    ≡ way_from n (find_var vs (text_of x)) x
way_bare n vs x = ap (λ o. way_from n o x) (find_bare vs (text_of x)) ∙ begun_bare n x (find_var vs (text_of x))

pub var_bare : (vs : List Var) (x : Name) → var_kind (find_var (bares vs) x) ≡ var_kind (find_var vs x)
var_bare vs x = ap var_kind (find_bare vs x) ∙ by (find_var vs x)
  where
    by : (o : Option Var) → var_kind (option_map bare o) ≡ var_kind o
    by None = refl
    by (Some v) = refl

-- # Types

mutual
  pub type_bare : (n : Names) (vs : List Var) (asked : Option Kind) (e : ExprTree) → type_of n (bares vs) asked e
      ≡ type_of n vs asked e
  type_bare n vs asked (ExprTree.node at form) = form_bare n vs asked form

  pub form_bare : (n : Names) (vs : List Var) (asked : Option Kind) (form : ExprForm) → form_type n (bares vs) asked form
      ≡ form_type n vs asked form
  form_bare n vs asked (ExprForm.some_of e) = ap maybe_of (type_bare n vs (asked_inside asked) e)
  form_bare n vs asked (ExprForm.access (AccessTree.path x steps args)) =
      ap (λ o. access_kind n (of_name n x steps o)) (find_bare vs (text_of x)) ∙ kind_bare n x steps (find_var vs (text_of x))
  form_bare n vs asked (ExprForm.implies a b) = refl
  form_bare n vs asked (ExprForm.or es) = refl
  form_bare n vs asked (ExprForm.and es) = refl
  form_bare n vs asked (ExprForm.not e) = refl
  form_bare n vs asked (ExprForm.forall q e) = refl
  form_bare n vs asked (ExprForm.exists q e) = refl
  form_bare n vs asked (ExprForm.compare c a b) = refl
  form_bare n vs asked (ExprForm.plus a b) = refl
  form_bare n vs asked (ExprForm.minus a b) = refl
  form_bare n vs asked (ExprForm.int i) = refl
  form_bare n vs asked (ExprForm.str bytes) = refl
  form_bare n vs asked (ExprForm.truth b) = refl
  form_bare n vs asked ExprForm.none_word = refl
  form_bare n vs asked ExprForm.unreturned = refl
  form_bare n vs asked ExprForm.tx = refl
  form_bare n vs asked (ExprForm.call w es) = refl
  form_bare n vs asked (ExprForm.match e arms) = refl

asked_bare : (n : Names) (vs : List Var) (a b : ExprTree) → left_asked n (bares vs) a b ≡ left_asked n vs a b
asked_bare n vs a b =
    ap (λ (k : Kind). cond (is_open k.base) (Some (type_of n (bares vs) None b)) None) (type_bare n vs None a)
    ∙ ap (λ k. cond (is_open (type_of n vs None a).base) (Some k) None) (type_bare n vs None b)

pub left_bare : (n : Names) (vs : List Var) (c : CompareOp) (a b : ExprTree) → (left_want n (bares vs) c a b).asked
    ≡ (left_want n vs c a b).asked
left_bare n vs c a b = by (is_equality c)
  where
    by : (t : Bool) → (cond t (left_side n (bares vs) a b) ordered_side).asked ≡ (cond t (left_side n vs a b) ordered_side).asked
    by true = asked_bare n vs a b
    by false = refl

pub right_bare : (n : Names) (vs : List Var) (c : CompareOp) (a b : ExprTree) → (right_want n (bares vs) c a b).asked
    ≡ (right_want n vs c a b).asked
right_bare n vs c a b = by (is_equality c)
  where
    by : (t : Bool) → (cond t (right_side n (bares vs) a b) ordered_side).asked
        ≡ (cond t (right_side n vs a b) ordered_side).asked
    by true =
        ap (λ o. Some (type_of n (bares vs) o a)) (asked_bare n vs a b) ∙ ap Some (type_bare n vs (left_asked n vs a b) a)
    by false = refl

first_bare : (n : Names) (vs : List Var) (es : ExprTrees) → first_type n (bares vs) es ≡ first_type n vs es
first_bare n vs ExprTrees.no_exprs = refl
first_bare n vs (ExprTrees.more_exprs e es) = type_bare n vs None e

pub word_bare : (n : Names) (vs : List Var) (w : CallWord) (es : ExprTrees) → word_args n (bares vs) w es ≡ word_args n vs w es
word_bare n vs called.Visible es = refl
word_bare n vs called.Before es = ap (λ k. before_kind k ∷ before_kind k ∷ []) (first_bare n vs es)
word_bare n vs called.Same es = refl
word_bare n vs called.Op es = refl
word_bare n vs called.Origin es = refl
word_bare n vs called.Info es = refl
word_bare n vs called.Result es = refl

-- # Variables that come in sight

pub bares_more : (vs : List Var) (v : Var) → bares (vs ++ v ∷ []) ≡ bares vs ++ bare v ∷ []
bares_more vs v = map-append bare vs (v ∷ [])

pub bares_bound : (vs : List Var) (xs : List Ident) (ks : List Kind) → bares (with_bound vs xs ks) ≡ with_bound (bares vs) xs ks
bares_bound vs [] ks = refl
bares_bound vs (x ∷ xs) ks =
    bares_bound (vs ++ bound_var x (first_kind ks) ∷ []) xs (other_kinds ks)
    ∙ ap (λ ws. with_bound ws xs (other_kinds ks)) (bares_more vs (bound_var x (first_kind ks)))

pub bares_given : (x : Name) (vs : List Var) → bares (give x vs) ≡ bares vs
bares_given x [] = refl
bares_given x (v ∷ vs) = by (same_name v.name x) (bares_given x vs)
  where
    by : (b : Bool) → bares (give x vs) ≡ bares vs → bares (cond b (with_value v ∷ vs) (v ∷ give x vs)) ≡ bare v ∷ bares vs
    by true later = refl
    by false later = ap (λ ws. bare v ∷ ws) later

pub bares_dead : (vs : List Var) → bares (map with_value vs) ≡ bares vs
bares_dead [] = refl
bares_dead (v ∷ vs) = ap (λ ws. bare v ∷ ws) (bares_dead vs)

pub bares_both : (vs ws us more : List Var) → bares vs ≡ us → bares ws ≡ us ++ more → bares (both vs ws) ≡ us
bares_both [] ws us more a b = a
bares_both (v ∷ vs) [] [] more a b = absurd cc
bares_both (v ∷ vs) [] (u ∷ us) more a b = absurd cc
bares_both (v ∷ vs) (w ∷ ws) [] more a b = absurd cc
bares_both (v ∷ vs) (w ∷ ws) (u ∷ us) more a b =
    let first : bare v ≡ u = cc in
    let left : bares vs ≡ us = cc in
    let right : bares ws ≡ us ++ more = cc in
    ap (λ x. x ∷ bares (both vs ws)) first ∙ ap (λ xs. u ∷ xs) (bares_both vs ws us more left right)

pub bound_more : (vs : List Var) (xs : List Ident) (ks : List Kind) → (more : List Var) × (with_bound vs xs ks ≡ vs ++ more)
bound_more vs [] ks = ([], sym (append-nil vs))
bound_more vs (x ∷ xs) ks =
    let rest = bound_more (vs ++ bound_var x (first_kind ks) ∷ []) xs (other_kinds ks) in
    (bound_var x (first_kind ks) ∷ rest.0, rest.1 ∙ append_assoc vs (bound_var x (first_kind ks) ∷ []) rest.0)

pub bares_left : (vs ws : List Var) (more : List Var) → bares ws ≡ bares vs ++ more → bares (take (length vs) ws) ≡ bares vs
bares_left vs ws more e =
    sym (take-map bare (length vs) ws) ∙ ap (take (length vs)) e ∙ front vs more
  where
    front : (vs : List Var) (more : List Var) → take (length vs) (bares vs ++ more) ≡ bares vs
    front [] more = refl
    front (v ∷ vs) more = ap (λ ws. bare v ∷ ws) (front vs more)

-- # Fields of constructors

pub fields_are : (n : Names) (o : Option code_case.Case) (c : Option Case) → option_map (fields_of n) o
    ≡ option_map (λ case. case.fields) c
    → option_map_or (fields_of n) o [] ≡ case_fields c
fields_are n o c e = out o ∙ ap (λ x. unwrap_or x []) e ∙ sym (into c)
  where
    out : (o : Option code_case.Case) → option_map_or (fields_of n) o [] ≡ unwrap_or (option_map (fields_of n) o) []
    out None = refl
    out (Some x) = refl

    into : (c : Option Case) → case_fields c ≡ unwrap_or (option_map (λ (case : Case). case.fields) c) []
    into None = refl
    into (Some x) = refl

-- # Variables behind statements

pub one_more : (n : Names) (vs : List Var) (s : StmtTree) → (more : List Var) × (vars_behind n vs s ≡ vs ++ more)
one_more n vs (StmtTree.node at (StmtForm.var x t e)) = (bound_var x (kind_of n t) ∷ [], refl)
one_more n vs (StmtTree.node at (StmtForm.new x t)) = ([], sym (append-nil vs))
one_more n vs (StmtTree.node at (StmtForm.assign x e)) = ([], sym (append-nil vs))
one_more n vs (StmtTree.node at (StmtForm.access a)) = ([], sym (append-nil vs))
one_more n vs (StmtTree.node at (StmtForm.if_ e b other)) = ([], sym (append-nil vs))
one_more n vs (StmtTree.node at (StmtForm.match e arms)) = ([], sym (append-nil vs))
one_more n vs (StmtTree.node at (StmtForm.atomic b)) = ([], sym (append-nil vs))
one_more n vs (StmtTree.node at (StmtForm.assert e)) = ([], sym (append-nil vs))
one_more n vs (StmtTree.node at (StmtForm.return e)) = ([], sym (append-nil vs))

pub behind_more : (n : Names) (vs : List Var) (stmts : StmtTrees) → (more : List Var) × (stmts_behind n vs stmts ≡ vs ++ more)
behind_more n vs StmtTrees.no_stmts = ([], sym (append-nil vs))
behind_more n vs (StmtTrees.more_stmts s stmts) =
    let rest = behind_more n (vars_behind n vs s) stmts in
    let first = one_more n vs s in
    (first.0 ++ rest.0, rest.1 ∙ ap (λ z. z ++ rest.0) first.1 ∙ append_assoc vs first.0 rest.0)
