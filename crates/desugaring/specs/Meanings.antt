-- What an expression becomes, a line for each form.
use Rattle.std.specs.Prelude.{◌≡◌, ◌<◌, ℕ, ℤ, Bool, List, [], ◌∷◌, Option, Some, None}
use Rattle.rp_span.specs.declared.Span.{Span}
use Rattle.rp_value.specs.declared.tables.Ty.{Ty}
use Rattle.rp_grammar.specs.declared.operator.CompareOp.{CompareOp}
use Rattle.rp_grammar.specs.declared.operator.CallWord.{CallWord}
use Rattle.rp_grammar.specs.Trees.{Ident, ParamTree, TypeTree, PatternTree, ExprTree, ExprForm, ExprTrees, ExprArmTree, ExprArmTrees, AccessTree, StepTree, StepTrees, ArgTrees, QueryTree}
use Rattle.rp_lang.specs.Exprs.{Ex, Int, Str, Con, OpTerm, Unreturned, Exs, no_ex, also_ex}
use Rattle.rp_lang.specs.Formulas as fo
use Rattle.rp_lang.specs.Formulas.{Fo, Fos, no_fo, also_fo, Arms, no_arm, also_arm}
use Rattle.type_rules.specs.declared.kind.Kind.{Kind}
use Rattle.type_rules.specs.Names.{param_type}
use Rattle.type_rules.specs.Kinds.{bool_kind, int_kind, kind_of}
use Rattle.type_rules.specs.Typing.{type_of, form_type, asked_inside, none_kind}
use Rattle.type_rules.specs.ExprSites.{left_want, right_want, word_args}
use Rattle.desugaring.specs.Tables.{Tables, ty_of, con_number, arm_number}
use Rattle.desugaring.specs.Values.{Value, term, formula, as_formula, one_ex, append, truth, sum, difference, compared, word_of}
use Rattle.desugaring.specs.Callees.{Vars, vars_of, use_of, Called, called, given}
use Rattle.desugaring.specs.Expressions.{under_quantifier, under_pattern, with_args, word_none, word_some}

-- `Means t b vs asked e v`: in declaration number b of a text, with these variables in sight, at a place that asks a type
-- or none, the expression e becomes v.
mutual
  pub data Means (t : Tables) : ℕ → Vars → Option Kind → ExprTree → Value → Type 0 where
    implies : {b : ℕ} {vs : Vars} {asked : Option Kind} {s : Span} {d e : ExprTree} {v w : Value}
        → Means t b vs (Some bool_kind) d v → Means t b vs (Some bool_kind) e w
        → Means t b vs asked (ExprTree.node s (ExprForm.implies d e)) (formula (fo.Implies (as_formula v) (as_formula w)))
    or : {b : ℕ} {vs : Vars} {asked : Option Kind} {s : Span} {es : ExprTrees} {fs : Fos}
        → AllMean t b vs es fs
        → Means t b vs asked (ExprTree.node s (ExprForm.or es)) (formula (fo.Or fs))
    and : {b : ℕ} {vs : Vars} {asked : Option Kind} {s : Span} {es : ExprTrees} {fs : Fos}
        → AllMean t b vs es fs
        → Means t b vs asked (ExprTree.node s (ExprForm.and es)) (formula (fo.And fs))
    not : {b : ℕ} {vs : Vars} {asked : Option Kind} {s : Span} {e : ExprTree} {v : Value}
        → Means t b vs (Some bool_kind) e v
        → Means t b vs asked (ExprTree.node s (ExprForm.not e)) (formula (fo.Not (as_formula v)))
    forall : {b : ℕ} {vs : Vars} {asked : Option Kind} {s : Span} {p : ParamTree} {e : ExprTree} {ty : Ty} {v : Value}
        → ty_of t (kind_of t.names (param_type p)) ≡ Some ty
        → Means t b (under_quantifier t.names vs p) (Some bool_kind) e v
        → Means t b vs asked (ExprTree.node s (ExprForm.forall p e)) (formula (fo.All ty (as_formula v)))
    exists : {b : ℕ} {vs : Vars} {asked : Option Kind} {s : Span} {p : ParamTree} {e : ExprTree} {ty : Ty} {v : Value}
        → ty_of t (kind_of t.names (param_type p)) ≡ Some ty
        → Means t b (under_quantifier t.names vs p) (Some bool_kind) e v
        → Means t b vs asked (ExprTree.node s (ExprForm.exists p e)) (formula (fo.Any ty (as_formula v)))
    -- `a != b` is the negation of `a == b`; `a > b` and `a >= b` are `b < a` and `b <= a`
    compare : {b : ℕ} {vs : Vars} {asked : Option Kind} {s : Span} {c : CompareOp} {d e : ExprTree} {x y : Ex}
        → Means t b vs (left_want t.names (vars_of vs) c d e).asked d (term x)
        → Means t b vs (right_want t.names (vars_of vs) c d e).asked e (term y)
        → Means t b vs asked (ExprTree.node s (ExprForm.compare c d e)) (formula (compared c x y))
    plus : {b : ℕ} {vs : Vars} {asked : Option Kind} {s : Span} {d e : ExprTree} {x y : Ex}
        → Means t b vs (Some int_kind) d (term x) → Means t b vs (Some int_kind) e (term y)
        → Means t b vs asked (ExprTree.node s (ExprForm.plus d e)) (term (sum x y))
    minus : {b : ℕ} {vs : Vars} {asked : Option Kind} {s : Span} {d e : ExprTree} {x y : Ex}
        → Means t b vs (Some int_kind) d (term x) → Means t b vs (Some int_kind) e (term y)
        → Means t b vs asked (ExprTree.node s (ExprForm.minus d e)) (term (difference x y))
    int : {b : ℕ} {vs : Vars} {asked : Option Kind} {s : Span} {n : ℤ}
        → Means t b vs asked (ExprTree.node s (ExprForm.int n)) (term (Int n))
    str : {b : ℕ} {vs : Vars} {asked : Option Kind} {s : Span} {bytes : List ℕ}
        → Means t b vs asked (ExprTree.node s (ExprForm.str bytes)) (term (Str bytes))
    truth_word : {b : ℕ} {vs : Vars} {asked : Option Kind} {s : Span} {holds : Bool}
        → Means t b vs asked (ExprTree.node s (ExprForm.truth holds)) (term (truth holds))
    -- the constructor of the `Maybe` type that is asked
    none : {b : ℕ} {vs : Vars} {asked : Option Kind} {s : Span} {con : ℕ}
        → con_number t (none_kind asked) word_none ≡ Some con
        → Means t b vs asked (ExprTree.node s ExprForm.none_word) (term (Con con no_ex))
    some : {b : ℕ} {vs : Vars} {asked : Option Kind} {s : Span} {e : ExprTree} {con : ℕ} {x : Ex}
        → con_number t (form_type t.names (vars_of vs) asked (ExprForm.some_of e)) word_some ≡ Some con
        → Means t b vs (asked_inside asked) e (term x)
        → Means t b vs asked (ExprTree.node s (ExprForm.some_of e)) (term (Con con (one_ex x)))
    unreturned : {b : ℕ} {vs : Vars} {asked : Option Kind} {s : Span}
        → Means t b vs asked (ExprTree.node s ExprForm.unreturned) (term Unreturned)
    tx : {b : ℕ} {vs : Vars} {asked : Option Kind} {s : Span}
        → Means t b vs asked (ExprTree.node s ExprForm.tx) (term (OpTerm 0 no_ex))
    word : {b : ℕ} {vs : Vars} {asked : Option Kind} {s : Span} {w : CallWord} {es : ExprTrees} {xs : Exs} {v : Value}
        → TermsMean t b vs (word_args t.names (vars_of vs) w es) es xs
        → word_of w xs ≡ Some v
        → Means t b vs asked (ExprTree.node s (ExprForm.call w es)) v
    match : {b : ℕ} {vs : Vars} {asked : Option Kind} {s : Span} {e : ExprTree} {arms : ExprArmTrees} {x : Ex} {made : Arms}
        → Means t b vs None e (term x)
        → ArmsMean t b vs (type_of t.names (vars_of vs) None e) arms made
        → Means t b vs asked (ExprTree.node s (ExprForm.match e arms)) (formula (fo.Match x made))
    -- a variable, a constructor, an operation, a query of the store, a procedure or its outcome
    access : {b : ℕ} {vs : Vars} {asked : Option Kind} {s : Span} {x : Ident} {steps : StepTrees} {args : ArgTrees} {c : Called Ex} {keys es : Exs} {v : Value}
        → called t vs (AccessTree.path x steps args) ≡ Some c
        → KeysMean t b vs c.keys steps keys → ArgsMean t b vs c.args args es
        → given c.what (append keys es) ≡ Some v
        → Means t b vs asked (ExprTree.node s (ExprForm.access (AccessTree.path x steps args))) v
    -- a query of the text that is declared before: its body, in which the parameters stand for the arguments
    expands : {b : ℕ} {vs : Vars} {asked : Option Kind} {s : Span} {x : Ident} {steps : StepTrees} {args : ArgTrees} {c : Called Ex} {keys es : Exs}
        {k : ℕ} {name : Ident} {params : List ParamTree} {result : TypeTree} {body : ExprTree} {v : Value}
        → called t vs (AccessTree.path x steps args) ≡ Some c
        → c.what ≡ use_of k (QueryTree.query name params result body)
        → KeysMean t b vs c.keys steps keys → ArgsMean t b vs c.args args es
        → k < b
        → Means t k (with_args t.names params es) (Some (kind_of t.names result)) body v
        → Means t b vs asked (ExprTree.node s (ExprForm.access (AccessTree.path x steps args))) v

  -- operands of `||` and `&&`
  pub data AllMean (t : Tables) : ℕ → Vars → ExprTrees → Fos → Type 0 where
    no_operand : {b : ℕ} {vs : Vars} → AllMean t b vs ExprTrees.no_exprs no_fo
    more_operands : {b : ℕ} {vs : Vars} {e : ExprTree} {es : ExprTrees} {v : Value} {fs : Fos}
        → Means t b vs (Some bool_kind) e v → AllMean t b vs es fs
        → AllMean t b vs (ExprTrees.more_exprs e es) (also_fo (as_formula v) fs)

  -- plain terms at places that ask these types
  pub data TermsMean (t : Tables) : ℕ → Vars → List Kind → ExprTrees → Exs → Type 0 where
    no_term : {b : ℕ} {vs : Vars} → TermsMean t b vs [] ExprTrees.no_exprs no_ex
    more_terms : {b : ℕ} {vs : Vars} {k : Kind} {ks : List Kind} {e : ExprTree} {es : ExprTrees} {x : Ex} {xs : Exs}
        → Means t b vs (Some k) e (term x) → TermsMean t b vs ks es xs
        → TermsMean t b vs (k ∷ ks) (ExprTrees.more_exprs e es) (also_ex x xs)

  -- without parentheses there are no arguments
  pub data ArgsMean (t : Tables) : ℕ → Vars → List Kind → ArgTrees → Exs → Type 0 where
    absent : {b : ℕ} {vs : Vars} → ArgsMean t b vs [] ArgTrees.absent no_ex
    given_args : {b : ℕ} {vs : Vars} {ks : List Kind} {es : ExprTrees} {xs : Exs}
        → TermsMean t b vs ks es xs → ArgsMean t b vs ks (ArgTrees.given es) xs

  -- the keys on a path
  pub data KeysMean (t : Tables) : ℕ → Vars → List Kind → StepTrees → Exs → Type 0 where
    no_key : {b : ℕ} {vs : Vars} → KeysMean t b vs [] StepTrees.no_steps no_ex
    key : {b : ℕ} {vs : Vars} {k : Kind} {ks : List Kind} {e : ExprTree} {steps : StepTrees} {x : Ex} {xs : Exs}
        → Means t b vs (Some k) e (term x) → KeysMean t b vs ks steps xs
        → KeysMean t b vs (k ∷ ks) (StepTrees.more_steps (StepTree.key e) steps) (also_ex x xs)
    past_dot : {b : ℕ} {vs : Vars} {ks : List Kind} {x : Ident} {steps : StepTrees} {xs : Exs}
        → KeysMean t b vs ks steps xs → KeysMean t b vs ks (StepTrees.more_steps (StepTree.dot x) steps) xs
    past_returned : {b : ℕ} {vs : Vars} {ks : List Kind} {s : Span} {steps : StepTrees} {xs : Exs}
        → KeysMean t b vs ks steps xs → KeysMean t b vs ks (StepTrees.more_steps (StepTree.returned s) steps) xs

  -- arms of a `match` on a term of this type
  pub data ArmsMean (t : Tables) : ℕ → Vars → Kind → ExprArmTrees → Arms → Type 0 where
    no_arms : {b : ℕ} {vs : Vars} {k : Kind} → ArmsMean t b vs k ExprArmTrees.no_expr_arms no_arm
    more_arms : {b : ℕ} {vs : Vars} {k : Kind} {p : PatternTree} {e : ExprTree} {arms : ExprArmTrees} {con : ℕ} {v : Value} {made : Arms}
        → arm_number t k p ≡ Some con
        → Means t b (under_pattern t.names vs k p) (Some bool_kind) e v
        → ArmsMean t b vs k arms made
        → ArmsMean t b vs k (ExprArmTrees.more_expr_arms (ExprArmTree.arm p e) arms) (also_arm con (as_formula v) made)
