-- What is computed of an expression is what it becomes.
use Rattle.std.proofs.Common.{◌≡◌, ◌<◌, ℕ, zero, suc, Bool, true, false, List, [], ◌∷◌, Option, Some, None, refl, subst, sym, cond, ◌==◌, arith}
use Rattle.rp_span.specs.declared.Span.{Span}
use Rattle.std.proofs.lemmas.Bool.{eqb-true}
use Rattle.rp_grammar.specs.Trees.{Ident, ParamTree, TypeTree, ExprTree, ExprForm, ExprTrees, ExprArmTree, ExprArmTrees, AccessTree, StepTree, StepTrees, ArgTrees, QueryTree}
use Rattle.rp_lang.specs.Exprs.{Ex, Exs, no_ex, also_ex, Con}
use Rattle.rp_lang.specs.Formulas.{Fos, Arms}
use Rattle.type_rules.specs.declared.kind.Kind.{Kind}
use Rattle.type_rules.specs.Kinds.{bool_kind, kind_of}
use Rattle.desugaring.specs.Tables.{Tables}
use Rattle.desugaring.specs.Values.{Value, term, formula, word_of, compared, sum, difference}
use Rattle.desugaring.specs.Callees.{Vars, Callee, variable, constructor, use_of, procedure, outcome, operation, question, value, Called, given}
use Rattle.desugaring.specs.Callees as callee
use Rattle.desugaring.specs.Expressions.{Uses, form_value, formulas, terms, arg_terms, key_terms, arm_formulas, body_value, uses_before, with_args, called_with, applied, for_all, for_some, one_of, each_of, matched, constructed, implied, negated, with_formula, with_arm, term_in}
use Rattle.desugaring.specs.Expressions as expressions
use Rattle.desugaring.specs.Meanings.{Means, AllMean, TermsMean, ArgsMean, KeysMean, ArmsMean}
use Rattle.desugaring.proofs.Options.{then_there, map_there, both_there, three_there, term_there}

abbrev Goes : Tables → ℕ → Type 0
Goes t b =
    (vs : Vars) (asked : Option Kind) (e : ExprTree) (v : Value) → expressions.value t (uses_before t b) vs asked e
    ≡ Some v → Means t b vs asked e v

abbrev GoBefore : Tables → ℕ → Type 0
GoBefore t b = (k : ℕ) → k < b → Goes t k

-- # Uses of queries

abbrev UseIs : Tables → ℕ → ℕ → QueryTree → Exs → Value → Type 0
UseIs t b k q es v = (k < b) × (body_value t (uses_before t k) q es ≡ Some v)

-- that of declaration n, or an earlier one
use_step : (t : Tables) (n k : ℕ) (q : QueryTree) (es : Exs) (v : Value) → (same : Bool) → (k == n) ≡ same
    → cond same (body_value t (uses_before t n) q es) (uses_before t n k q es) ≡ Some v
    → ((uses_before t n k q es ≡ Some v) → UseIs t n k q es v) → UseIs t (suc n) k q es v
use_step t n k q es v true same e earlier =
    (omega (arith, eqb-true k n same), subst (λ j. body_value t (uses_before t j) q es ≡ Some v) (sym (eqb-true k n same)) e)
use_step t n k q es v false same e earlier = let found : UseIs t n k q es v = earlier e in (omega (arith, found.0), found.1)

pub use_there : (t : Tables) (b k : ℕ) (q : QueryTree) (es : Exs) (v : Value) → uses_before t b k q es ≡ Some v → UseIs t b k q es v
use_there t zero k q es v e = absurd cc
use_there t (suc n) k q es v e = use_step t n k q es v (k == n) refl e (use_there t n k q es v)

-- # Calls

query_sound : (t : Tables) (b k : ℕ) (vs : Vars) (asked : Option Kind) (s : Span) (a : AccessTree) (c : Called Ex)
    (keys es : Exs) (v : Value)
    → GoBefore t b → (q : QueryTree) → uses_before t b k q es ≡ Some v
    → ((name : Ident) (params : List ParamTree) (result : TypeTree) (body : ExprTree) → q
    ≡ QueryTree.query name params result body → k < b
    → Means t k (with_args t.names params es) (Some (kind_of t.names result)) body v
    → Means t b vs asked (ExprTree.node s (ExprForm.access a)) v)
    → Means t b vs asked (ExprTree.node s (ExprForm.access a)) v
query_sound t b k vs asked s a c keys es v go (QueryTree.query name params result body) e give =
    let used : UseIs t b k (QueryTree.query name params result body) es v = use_there t b k _ es v e in
    give name params result body refl used.0
    (go k used.0 (with_args t.names params es) (Some (kind_of t.names result)) body v used.1)

call_sound : (t : Tables) (b : ℕ) (vs : Vars) (asked : Option Kind) (s : Span) (x : Ident) (steps : StepTrees)
    (args : ArgTrees) (c : Called Ex) (keys es : Exs) (v : Value)
    → GoBefore t b → callee.called t vs (AccessTree.path x steps args) ≡ Some c → KeysMean t b vs c.keys steps keys
    → ArgsMean t b vs c.args args es
    → (what : Callee Ex) → c.what ≡ what → called_with (uses_before t b) what keys es ≡ Some v
    → Means t b vs asked (ExprTree.node s (ExprForm.access (AccessTree.path x steps args))) v
call_sound t b vs asked s x steps args c keys es v go found k a (use_of decl q) is e =
    query_sound t b decl vs asked s (AccessTree.path x steps args) c keys es v go q e (λ name params result body same lt means.
    Means.expands found (subst (λ z. c.what ≡ use_of decl z) same is) k a lt means)
call_sound t b vs asked s x steps args c keys es v go found k a (variable y) is e = Means.access found k a (rw is e)
call_sound t b vs asked s x steps args c keys es v go found k a (constructor n) is e = Means.access found k a (rw is e)
call_sound t b vs asked s x steps args c keys es v go found k a (procedure n) is e = Means.access found k a (rw is e)
call_sound t b vs asked s x steps args c keys es v go found k a (outcome n) is e = Means.access found k a (rw is e)
call_sound t b vs asked s x steps args c keys es v go found k a (operation n) is e = Means.access found k a (rw is e)
call_sound t b vs asked s x steps args c keys es v go found k a (question n) is e = Means.access found k a (rw is e)
call_sound t b vs asked s x steps args c keys es v go found k a (value n) is e = Means.access found k a (rw is e)

-- # Expressions

mutual
  value_sound : (t : Tables) (b : ℕ) (vs : Vars) (asked : Option Kind) (e : ExprTree) (v : Value) → GoBefore t b
      → expressions.value t (uses_before t b) vs asked e ≡ Some v → Means t b vs asked e v
  value_sound t b vs asked (ExprTree.node s form) v go e = form_sound t b vs asked s form v go e

  form_sound : (t : Tables) (b : ℕ) (vs : Vars) (asked : Option Kind) (s : Span) (form : ExprForm) (v : Value)
      → GoBefore t b
      → form_value t (uses_before t b) vs asked form ≡ Some v → Means t b vs asked (ExprTree.node s form) v
  form_sound t b vs asked s (ExprForm.implies d e) v go h =
      both_there (Means t b vs asked (ExprTree.node s (ExprForm.implies d e))) implied _ _ v h
      (λ x y dx ey. Means.implies (value_sound t b vs (Some bool_kind) d x go dx)
      (value_sound t b vs (Some bool_kind) e y go ey))
  form_sound t b vs asked s (ExprForm.or es) v go h =
      map_there (Means t b vs asked (ExprTree.node s (ExprForm.or es))) one_of _ v h
      (λ fs i. Means.or (all_sound t b vs es fs go i))
  form_sound t b vs asked s (ExprForm.and es) v go h =
      map_there (Means t b vs asked (ExprTree.node s (ExprForm.and es))) each_of _ v h
      (λ fs i. Means.and (all_sound t b vs es fs go i))
  form_sound t b vs asked s (ExprForm.not e) v go h =
      map_there (Means t b vs asked (ExprTree.node s (ExprForm.not e))) negated _ v h
      (λ x i. Means.not (value_sound t b vs (Some bool_kind) e x go i))
  form_sound t b vs asked s (ExprForm.forall p e) v go h =
      both_there (Means t b vs asked (ExprTree.node s (ExprForm.forall p e))) for_all _ _ v h
      (λ ty x i j. Means.forall {p = p} i (value_sound t b _ (Some bool_kind) e x go j))
  form_sound t b vs asked s (ExprForm.exists p e) v go h =
      both_there (Means t b vs asked (ExprTree.node s (ExprForm.exists p e))) for_some _ _ v h
      (λ ty x i j. Means.exists {p = p} i (value_sound t b _ (Some bool_kind) e x go j))
  form_sound t b vs asked s (ExprForm.compare c d e) v go h =
      both_there (Means t b vs asked (ExprTree.node s (ExprForm.compare c d e))) (λ x y. formula (compared c x y)) _ _ v h
      (λ x y i j. Means.compare (term_sound t b vs _ d x go i) (term_sound t b vs _ e y go j))
  form_sound t b vs asked s (ExprForm.plus d e) v go h =
      both_there (Means t b vs asked (ExprTree.node s (ExprForm.plus d e))) (λ x y. term (sum x y)) _ _ v h
      (λ x y i j. Means.plus (term_sound t b vs _ d x go i) (term_sound t b vs _ e y go j))
  form_sound t b vs asked s (ExprForm.minus d e) v go h =
      both_there (Means t b vs asked (ExprTree.node s (ExprForm.minus d e))) (λ x y. term (difference x y)) _ _ v h
      (λ x y i j. Means.minus (term_sound t b vs _ d x go i) (term_sound t b vs _ e y go j))
  form_sound t b vs asked s (ExprForm.int n) v go h =
      subst (λ w. Means t b vs asked (ExprTree.node s (ExprForm.int n)) w) (cc) Means.int
  form_sound t b vs asked s (ExprForm.str bytes) v go h =
      subst (λ w. Means t b vs asked (ExprTree.node s (ExprForm.str bytes)) w) (cc) Means.str
  form_sound t b vs asked s (ExprForm.truth holds) v go h =
      subst (λ w. Means t b vs asked (ExprTree.node s (ExprForm.truth holds)) w) (cc) Means.truth_word
  form_sound t b vs asked s ExprForm.none_word v go h =
      map_there (Means t b vs asked (ExprTree.node s ExprForm.none_word)) (λ con. term (Con con no_ex)) _ v h
      (λ con i. Means.none i)
  form_sound t b vs asked s (ExprForm.some_of e) v go h =
      both_there (Means t b vs asked (ExprTree.node s (ExprForm.some_of e))) constructed _ _ v h
      (λ con x i j. Means.some i (term_sound t b vs _ e x go j))
  form_sound t b vs asked s ExprForm.unreturned v go h =
      subst (λ w. Means t b vs asked (ExprTree.node s ExprForm.unreturned) w) (cc) Means.unreturned
  form_sound t b vs asked s ExprForm.tx v go h = subst (λ w. Means t b vs asked (ExprTree.node s ExprForm.tx) w) (cc) Means.tx
  form_sound t b vs asked s (ExprForm.call w es) v go h =
      then_there (word_of w) _ v h (λ xs i j. Means.word (terms_sound t b vs _ es xs go i) j)
  form_sound t b vs asked s (ExprForm.match e arms) v go h =
      both_there (Means t b vs asked (ExprTree.node s (ExprForm.match e arms))) matched _ _ v h
      (λ x made i j. Means.match (term_sound t b vs None e x go i) (arms_sound t b vs _ arms made go j))
  form_sound t b vs asked s (ExprForm.access (AccessTree.path x steps args)) v go h =
      then_there _ _ v h (λ c found i. then_there _ _ v i (λ keys k j. then_there _ _ v j (λ es a e.
      call_sound t b vs asked s x steps args c keys es v go found (keys_sound t b vs c.keys steps keys go k)
      (args_sound t b vs c.args args es go a) c.what refl e)))

  term_sound : (t : Tables) (b : ℕ) (vs : Vars) (asked : Option Kind) (e : ExprTree) (x : Ex) → GoBefore t b
      → term_in (expressions.value t (uses_before t b) vs asked e) ≡ Some x → Means t b vs asked e (term x)
  term_sound t b vs asked (ExprTree.node s form) x go h = form_sound t b vs asked s form (term x) go (term_there _ x h)

  all_sound : (t : Tables) (b : ℕ) (vs : Vars) (es : ExprTrees) (fs : Fos) → GoBefore t b
      → formulas t (uses_before t b) vs es ≡ Some fs → AllMean t b vs es fs
  all_sound t b vs ExprTrees.no_exprs fs go h = subst (λ w. AllMean t b vs ExprTrees.no_exprs w) (cc) AllMean.no_operand
  all_sound t b vs (ExprTrees.more_exprs e es) fs go h =
      both_there (λ w. AllMean t b vs (ExprTrees.more_exprs e es) w) with_formula _ _ fs h
      (λ x xs i j. AllMean.more_operands (value_sound t b vs (Some bool_kind) e x go i) (all_sound t b vs es xs go j))

  terms_sound : (t : Tables) (b : ℕ) (vs : Vars) (ks : List Kind) (es : ExprTrees) (xs : Exs) → GoBefore t b
      → terms t (uses_before t b) vs ks es ≡ Some xs → TermsMean t b vs ks es xs
  terms_sound t b vs [] ExprTrees.no_exprs xs go h =
      subst (λ w. TermsMean t b vs [] ExprTrees.no_exprs w) (cc) TermsMean.no_term
  terms_sound t b vs [] (ExprTrees.more_exprs e es) xs go h = absurd cc
  terms_sound t b vs (k ∷ ks) ExprTrees.no_exprs xs go h = absurd cc
  terms_sound t b vs (k ∷ ks) (ExprTrees.more_exprs e es) xs go h =
      both_there (λ w. TermsMean t b vs (k ∷ ks) (ExprTrees.more_exprs e es) w) also_ex _ _ xs h
      (λ y ys i j. TermsMean.more_terms (term_sound t b vs (Some k) e y go i) (terms_sound t b vs ks es ys go j))

  args_sound : (t : Tables) (b : ℕ) (vs : Vars) (ks : List Kind) (args : ArgTrees) (xs : Exs) → GoBefore t b
      → arg_terms t (uses_before t b) vs ks args ≡ Some xs → ArgsMean t b vs ks args xs
  args_sound t b vs [] ArgTrees.absent xs go h = subst (λ w. ArgsMean t b vs [] ArgTrees.absent w) (cc) ArgsMean.absent
  args_sound t b vs (k ∷ ks) ArgTrees.absent xs go h = absurd cc
  args_sound t b vs ks (ArgTrees.given es) xs go h = ArgsMean.given_args (terms_sound t b vs ks es xs go h)

  keys_sound : (t : Tables) (b : ℕ) (vs : Vars) (ks : List Kind) (steps : StepTrees) (xs : Exs) → GoBefore t b
      → key_terms t (uses_before t b) vs ks steps ≡ Some xs → KeysMean t b vs ks steps xs
  keys_sound t b vs [] StepTrees.no_steps xs go h = subst (λ w. KeysMean t b vs [] StepTrees.no_steps w) (cc) KeysMean.no_key
  keys_sound t b vs (k ∷ ks) StepTrees.no_steps xs go h = absurd cc
  keys_sound t b vs [] (StepTrees.more_steps (StepTree.key e) steps) xs go h = absurd cc
  keys_sound t b vs (k ∷ ks) (StepTrees.more_steps (StepTree.key e) steps) xs go h =
      both_there (λ w. KeysMean t b vs (k ∷ ks) (StepTrees.more_steps (StepTree.key e) steps) w) also_ex _ _ xs h
      (λ y ys i j. KeysMean.key (term_sound t b vs (Some k) e y go i) (keys_sound t b vs ks steps ys go j))
  keys_sound t b vs [] (StepTrees.more_steps (StepTree.dot x) steps) xs go h =
      KeysMean.past_dot (keys_sound t b vs [] steps xs go h)
  keys_sound t b vs (k ∷ ks) (StepTrees.more_steps (StepTree.dot x) steps) xs go h =
      KeysMean.past_dot (keys_sound t b vs (k ∷ ks) steps xs go h)
  keys_sound t b vs [] (StepTrees.more_steps (StepTree.returned s) steps) xs go h =
      KeysMean.past_returned (keys_sound t b vs [] steps xs go h)
  keys_sound t b vs (k ∷ ks) (StepTrees.more_steps (StepTree.returned s) steps) xs go h =
      KeysMean.past_returned (keys_sound t b vs (k ∷ ks) steps xs go h)

  arms_sound : (t : Tables) (b : ℕ) (vs : Vars) (k : Kind) (arms : ExprArmTrees) (made : Arms) → GoBefore t b
      → arm_formulas t (uses_before t b) vs k arms ≡ Some made → ArmsMean t b vs k arms made
  arms_sound t b vs k ExprArmTrees.no_expr_arms made go h =
      subst (λ w. ArmsMean t b vs k ExprArmTrees.no_expr_arms w) (cc) ArmsMean.no_arms
  arms_sound t b vs k (ExprArmTrees.more_expr_arms (ExprArmTree.arm p e) arms) made go h =
      three_there (λ w. ArmsMean t b vs k (ExprArmTrees.more_expr_arms (ExprArmTree.arm p e) arms) w) with_arm _ _ _ made h
      (λ con x rest i j l. ArmsMean.more_arms i (value_sound t b _ (Some bool_kind) e x go j)
      (arms_sound t b vs k arms rest go l))

-- # All declarations

below : (t : Tables) (b : ℕ) → GoBefore t b
below t zero k lt = absurd (omega (arith, lt))
below t (suc b) k lt = λ vs asked e v h. value_sound t k vs asked e v (λ j less. below t b j (omega (arith, less, lt))) h

pub sound : (t : Tables) (b : ℕ) (vs : Vars) (asked : Option Kind) (e : ExprTree) (v : Value)
    → expressions.value t (uses_before t b) vs asked e ≡ Some v → Means t b vs asked e v
sound t b vs asked e v h = value_sound t b vs asked e v (below t b) h
