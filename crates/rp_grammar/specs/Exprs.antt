-- Expressions, accesses and patterns. `Phrase d ts x r`: at the nesting d, the tokens ts are those of a phrase that spells x, and then the tokens r.
use Rattle.std.specs.Prelude.{ℕ, suc, pos, neg_ℤ, Bool, true, false, not, IsTrue, List, [], ◌∷◌}
use Rattle.rp_span.specs.declared.Span.{Span}
use Rattle.rp_grammar.specs.declared.operator.CompareOp.{CompareOp}
use Rattle.rp_grammar.specs.declared.operator.CompareOp.TheVariants as compare
use Rattle.rp_grammar.specs.declared.operator.CallWord.{CallWord}
use Rattle.rp_grammar.specs.declared.operator.CallWord.TheVariants as called
use Rattle.rp_grammar.specs.declared.terminal.Word.{Word}
use Rattle.rp_grammar.specs.declared.terminal.Word.TheVariants as word
use Rattle.rp_grammar.specs.declared.terminal.Symbol.{Symbol}
use Rattle.rp_grammar.specs.declared.terminal.Symbol.TheVariants as symbol
use Rattle.rp_grammar.specs.Spelling.{spelling}
use Rattle.rp_grammar.specs.Terminals.{Terminal, name, word, int, str, symbol, Placed, on}
use Rattle.rp_grammar.specs.Trees.{Ident, ident, TypeTree, ParamTree, PatternTree, ExprTree, ExprForm, ExprArmTree, AccessTree, StepTree, ArgTrees, exprs, expr_arms, steps}
use Rattle.rp_grammar.specs.Parts.{join, Part, part, tree_of, extent_of, trees_of, reach, built, in_parens}
use Rattle.rp_grammar.specs.Types.{TypePhrase}

-- conname = NAME | "none" | "some" | "true" | "false"
pub data ConName : Terminal → List ℕ → Type 0 where
  named : {n : List ℕ} → ConName (name n) n
  none : ConName (word word.None) (spelling word.None)
  some : ConName (word word.Some) (spelling word.Some)
  yes : ConName (word word.True) (spelling word.True)
  no : ConName (word word.False) (spelling word.False)

-- {"," NAME}
pub data MoreNames : ℕ → List Placed → List Ident → List Placed → Type 0 where
  no_name : {d : ℕ} {r : List Placed} → MoreNames d r [] r
  more_names : {d : ℕ} {n : List ℕ} {c s : Span} {ts r : List Placed} {ns : List Ident}
      → MoreNames d ts ns r
      → MoreNames d (on (symbol symbol.Comma) c d ∷ on (name n) s d ∷ ts) (ident n s ∷ ns) r

-- pattern = conname ["(" NAME {"," NAME} ")"]
pub data Pattern : ℕ → List Placed → PatternTree → List Placed → Type 0 where
  bare : {d : ℕ} {k : Terminal} {n : List ℕ} {s : Span} {r : List Placed}
      → ConName k n
      → Pattern d (on k s d ∷ r) (PatternTree.pattern (ident n s) []) r
  binding : {d : ℕ} {k : Terminal} {n v : List ℕ} {s o t c : Span} {ts r : List Placed} {vs : List Ident}
      → ConName k n → MoreNames (suc d) ts vs (on (symbol symbol.CloseParen) c d ∷ r)
      → Pattern d (on k s d ∷ on (symbol symbol.OpenParen) o d ∷ on (name v) t (suc d) ∷ ts) (PatternTree.pattern (ident n s) (ident v t ∷ vs)) r

-- the comparison that a symbol writes
pub data Compares : Symbol → CompareOp → Type 0 where
  equal : Compares symbol.Equal compare.Equal
  not_equal : Compares symbol.NotEqual compare.NotEqual
  less : Compares symbol.Less compare.Less
  at_most : Compares symbol.AtMost compare.AtMost
  greater : Compares symbol.Greater compare.Greater
  at_least : Compares symbol.AtLeast compare.AtLeast

-- the words that are called with arguments
pub data Calls : Word → CallWord → Type 0 where
  visible : Calls word.Visible called.Visible
  before : Calls word.Before called.Before
  same : Calls word.Same called.Same
  op : Calls word.Op called.Op
  origin : Calls word.Origin called.Origin
  info : Calls word.Info called.Info
  result_ : Calls word.Result called.Result

pub data Quantifier : Type 0 where
  forall : Quantifier
  exists : Quantifier

abbrev pub quantified : Quantifier → ParamTree → ExprTree → ExprForm
quantified forall p e = ExprForm.forall p e
quantified exists p e = ExprForm.exists p e

-- a chain of one is that one; a longer chain is one node
abbrev pub and_tree : Span → List ExprTree → ExprTree
and_tree s [] = ExprTree.node s (ExprForm.and (exprs []))
and_tree s (e ∷ []) = e
and_tree s (e ∷ f ∷ es) = ExprTree.node s (ExprForm.and (exprs (e ∷ f ∷ es)))

abbrev pub or_tree : Span → List ExprTree → ExprTree
or_tree s [] = ExprTree.node s (ExprForm.or (exprs []))
or_tree s (e ∷ []) = e
or_tree s (e ∷ f ∷ es) = ExprTree.node s (ExprForm.or (exprs (e ∷ f ∷ es)))

abbrev pub and_part : Part ExprTree → List (Part ExprTree) → Part ExprTree
and_part e es = let s = reach (extent_of e) es in part (and_tree s (trees_of (e ∷ es))) s

abbrev pub or_part : Part ExprTree → List (Part ExprTree) → Part ExprTree
or_part e es = let s = reach (extent_of e) es in part (or_tree s (trees_of (e ∷ es))) s

abbrev pub not_part : Span → Part ExprTree → Part ExprTree
not_part s e = built (join s (extent_of e)) (ExprForm.not (tree_of e))

-- a node over one variable, which starts at s
abbrev pub quantifier_part : Quantifier → Span → Ident → TypeTree → Part ExprTree → Part ExprTree
quantifier_part q s n t e = built (join s (extent_of e)) (quantified q (ParamTree.param n t) (tree_of e))

-- a node with two operands
abbrev pub between : (ExprTree → ExprTree → ExprForm) → Part ExprTree → Part ExprTree → Part ExprTree
between f a b = built (join (extent_of a) (extent_of b)) (f (tree_of a) (tree_of b))

-- behind a quantifier's body only these could go on with it; whatever else could is a part of the body already
abbrev pub goes_on : Terminal → Bool
goes_on (symbol symbol.And) = true
goes_on (symbol symbol.Or) = true
goes_on (symbol symbol.Implies) = true
goes_on _ = false

abbrev pub stops : List Placed → Bool
stops [] = true
stops (on k s d ∷ r) = not (goes_on k)

mutual
  -- expr = orx ["==>" expr]
  pub data Expr : ℕ → List Placed → Part ExprTree → List Placed → Type 0 where
    expr : {d : ℕ} {ts r u : List Placed} {a e : Part ExprTree}
        → Orx d ts a r → ImpliesMore d a r e u
        → Expr d ts e u

  -- ["==>" expr] behind its left operand
  pub data ImpliesMore : ℕ → Part ExprTree → List Placed → Part ExprTree → List Placed → Type 0 where
    no_right : {d : ℕ} {a : Part ExprTree} {r : List Placed} → ImpliesMore d a r a r
    right : {d : ℕ} {a b : Part ExprTree} {s : Span} {ts r : List Placed}
        → Expr (suc d) ts b r
        → ImpliesMore d a (on (symbol symbol.Implies) s d ∷ ts) (between ExprForm.implies a b) r

  -- orx = andx {"||" andx}
  pub data Orx : ℕ → List Placed → Part ExprTree → List Placed → Type 0 where
    or : {d : ℕ} {ts r u : List Placed} {e : Part ExprTree} {es : List (Part ExprTree)}
        → Andx d ts e r → OrMore d r es u
        → Orx d ts (or_part e es) u

  -- {"||" andx}
  pub data OrMore : ℕ → List Placed → List (Part ExprTree) → List Placed → Type 0 where
    no_or : {d : ℕ} {r : List Placed} → OrMore d r [] r
    or_more : {d : ℕ} {s : Span} {ts r u : List Placed} {e : Part ExprTree} {es : List (Part ExprTree)}
        → Andx d ts e r → OrMore d r es u
        → OrMore d (on (symbol symbol.Or) s d ∷ ts) (e ∷ es) u

  -- andx = notx {"&&" notx}
  pub data Andx : ℕ → List Placed → Part ExprTree → List Placed → Type 0 where
    and : {d : ℕ} {ts r u : List Placed} {e : Part ExprTree} {es : List (Part ExprTree)}
        → Notx d ts e r → AndMore d r es u
        → Andx d ts (and_part e es) u

  -- {"&&" notx}
  pub data AndMore : ℕ → List Placed → List (Part ExprTree) → List Placed → Type 0 where
    no_and : {d : ℕ} {r : List Placed} → AndMore d r [] r
    and_more : {d : ℕ} {s : Span} {ts r u : List Placed} {e : Part ExprTree} {es : List (Part ExprTree)}
        → Notx d ts e r → AndMore d r es u
        → AndMore d (on (symbol symbol.And) s d ∷ ts) (e ∷ es) u

  -- notx = "!" notx | quant | cmp
  pub data Notx : ℕ → List Placed → Part ExprTree → List Placed → Type 0 where
    negated : {d : ℕ} {s : Span} {ts r : List Placed} {e : Part ExprTree}
        → Notx (suc d) ts e r
        → Notx d (on (symbol symbol.Not) s d ∷ ts) (not_part s e) r
    quantifier : {d : ℕ} {ts r : List Placed} {e : Part ExprTree} → Quant d ts e r → Notx d ts e r
    comparison : {d : ℕ} {ts r : List Placed} {e : Part ExprTree} → Cmp d ts e r → Notx d ts e r

  -- quant = ("forall"|"exists") NAME ":" type {"," NAME ":" type} "::" expr
  pub data Quant : ℕ → List Placed → Part ExprTree → List Placed → Type 0 where
    for_all : {d : ℕ} {n : List ℕ} {s t : Span} {ts r : List Placed} {e : Part ExprTree}
        → Bound forall (suc d) s (ident n t) ts e r → IsTrue (stops r)
        → Quant d (on (word word.Forall) s d ∷ on (name n) t (suc d) ∷ ts) e r
    for_some : {d : ℕ} {n : List ℕ} {s t : Span} {ts r : List Placed} {e : Part ExprTree}
        → Bound exists (suc d) s (ident n t) ts e r → IsTrue (stops r)
        → Quant d (on (word word.Exists) s d ∷ on (name n) t (suc d) ∷ ts) e r

  -- ":" type {"," NAME ":" type} "::" expr behind a variable; s is where its node starts, and d the nesting in it
  pub data Bound : Quantifier → ℕ → Span → Ident → List Placed → Part ExprTree → List Placed → Type 0 where
    last_variable : {q : Quantifier} {d : ℕ} {s c b : Span} {n : Ident} {t : TypeTree} {ts us r : List Placed} {e : Part ExprTree}
        → TypePhrase d ts t (on (symbol symbol.DoubleColon) b d ∷ us) → Expr d us e r
        → Bound q d s n (on (symbol symbol.Colon) c d ∷ ts) (quantifier_part q s n t e) r
    next_variable : {q : Quantifier} {d : ℕ} {s c b v : Span} {n : Ident} {m : List ℕ} {t : TypeTree} {ts us r : List Placed} {e : Part ExprTree}
        → TypePhrase d ts t (on (symbol symbol.Comma) b d ∷ on (name m) v d ∷ us) → Bound q (suc d) v (ident m v) us e r
        → Bound q d s n (on (symbol symbol.Colon) c d ∷ ts) (quantifier_part q s n t e) r

  -- cmp = sum [("=="|"!="|"<"|"<="|">"|">=") sum]
  pub data Cmp : ℕ → List Placed → Part ExprTree → List Placed → Type 0 where
    cmp : {d : ℕ} {ts r u : List Placed} {a e : Part ExprTree}
        → Sum d ts a r → CmpMore d a r e u
        → Cmp d ts e u

  -- [("=="|"!="|"<"|"<="|">"|">=") sum] behind its left operand
  pub data CmpMore : ℕ → Part ExprTree → List Placed → Part ExprTree → List Placed → Type 0 where
    no_cmp : {d : ℕ} {a : Part ExprTree} {r : List Placed} → CmpMore d a r a r
    compared : {d : ℕ} {k : Symbol} {c : CompareOp} {a b : Part ExprTree} {s : Span} {ts r : List Placed}
        → Compares k c → Sum d ts b r
        → CmpMore d a (on (symbol k) s d ∷ ts) (between (ExprForm.compare c) a b) r

  -- sum = prim {("+"|"-") prim}
  pub data Sum : ℕ → List Placed → Part ExprTree → List Placed → Type 0 where
    sum : {d : ℕ} {ts r u : List Placed} {a e : Part ExprTree}
        → Prim d ts a r → SumMore d a r e u
        → Sum d ts e u

  -- {("+"|"-") prim} behind the sum so far; each operator makes what follows it one deeper
  pub data SumMore : ℕ → Part ExprTree → List Placed → Part ExprTree → List Placed → Type 0 where
    no_sum : {d : ℕ} {a : Part ExprTree} {r : List Placed} → SumMore d a r a r
    plus : {d : ℕ} {a b e : Part ExprTree} {s : Span} {ts r u : List Placed}
        → Prim (suc d) ts b r → SumMore (suc d) (between ExprForm.plus a b) r e u
        → SumMore d a (on (symbol symbol.Plus) s d ∷ ts) e u
    minus : {d : ℕ} {a b e : Part ExprTree} {s : Span} {ts r u : List Placed}
        → Prim (suc d) ts b r → SumMore (suc d) (between ExprForm.minus a b) r e u
        → SumMore d a (on (symbol symbol.Minus) s d ∷ ts) e u

  -- prim = INT | "-" INT | STR | "true" | "false" | "none" | "some" "(" expr ")" | "unreturned" | "tx"
  --      | ("visible"|"before"|"same"|"op"|"origin"|"info"|"result") "(" expr {"," expr} ")"
  --      | "match" "(" expr ")" "{" pattern "=>" expr {"," pattern "=>" expr} "}" | access | "(" expr ")"
  pub data Prim : ℕ → List Placed → Part ExprTree → List Placed → Type 0 where
    number : {d i : ℕ} {s : Span} {r : List Placed}
        → Prim d (on (int i) s d ∷ r) (built s (ExprForm.int (pos i))) r
    negative : {d i : ℕ} {s t : Span} {r : List Placed}
        → Prim d (on (symbol symbol.Minus) s d ∷ on (int i) t d ∷ r) (built (join s t) (ExprForm.int (neg_ℤ (pos i)))) r
    text : {d : ℕ} {bytes : List ℕ} {s : Span} {r : List Placed}
        → Prim d (on (str bytes) s d ∷ r) (built s (ExprForm.str bytes)) r
    true_ : {d : ℕ} {s : Span} {r : List Placed}
        → Prim d (on (word word.True) s d ∷ r) (built s (ExprForm.truth true)) r
    false_ : {d : ℕ} {s : Span} {r : List Placed}
        → Prim d (on (word word.False) s d ∷ r) (built s (ExprForm.truth false)) r
    none_ : {d : ℕ} {s : Span} {r : List Placed}
        → Prim d (on (word word.None) s d ∷ r) (built s ExprForm.none_word) r
    some_ : {d : ℕ} {s o c : Span} {ts r : List Placed} {e : Part ExprTree}
        → Expr (suc d) ts e (on (symbol symbol.CloseParen) c d ∷ r)
        → Prim d (on (word word.Some) s d ∷ on (symbol symbol.OpenParen) o d ∷ ts) (built (join s c) (ExprForm.some_of (tree_of e))) r
    unreturned : {d : ℕ} {s : Span} {r : List Placed}
        → Prim d (on (word word.Unreturned) s d ∷ r) (built s ExprForm.unreturned) r
    tx : {d : ℕ} {s : Span} {r : List Placed}
        → Prim d (on (word word.Tx) s d ∷ r) (built s ExprForm.tx) r
    call : {d : ℕ} {k : Word} {w : CallWord} {s o c : Span} {ts r : List Placed} {es : List ExprTree}
        → Calls k w → Exprs (suc d) ts es (on (symbol symbol.CloseParen) c d ∷ r)
        → Prim d (on (word k) s d ∷ on (symbol symbol.OpenParen) o d ∷ ts) (built (join s c) (ExprForm.call w (exprs es))) r
    match : {d : ℕ} {s o c b x : Span} {ts us vs r : List Placed} {e : Part ExprTree} {a : ExprArmTree} {as_ : List ExprArmTree}
        → Expr (suc d) ts e (on (symbol symbol.CloseParen) c d ∷ on (symbol symbol.OpenBrace) b d ∷ us)
        → ExprArm (suc d) us a vs → MoreExprArms (suc d) vs as_ (on (symbol symbol.CloseBrace) x d ∷ r)
        → Prim d (on (word word.Match) s d ∷ on (symbol symbol.OpenParen) o d ∷ ts) (built (join s x) (ExprForm.match (tree_of e) (expr_arms (a ∷ as_)))) r
    access : {d : ℕ} {ts r : List Placed} {a : Part AccessTree}
        → Access d ts a r
        → Prim d ts (built (extent_of a) (ExprForm.access (tree_of a))) r
    parens : {d : ℕ} {o c : Span} {ts r : List Placed} {e : Part ExprTree}
        → Expr (suc d) ts e (on (symbol symbol.CloseParen) c d ∷ r)
        → Prim d (on (symbol symbol.OpenParen) o d ∷ ts) (in_parens o c e) r

  -- expr {"," expr}
  pub data Exprs : ℕ → List Placed → List ExprTree → List Placed → Type 0 where
    some_exprs : {d : ℕ} {ts r u : List Placed} {e : Part ExprTree} {es : List ExprTree}
        → Expr d ts e r → MoreExprs d r es u
        → Exprs d ts (tree_of e ∷ es) u

  -- {"," expr}
  pub data MoreExprs : ℕ → List Placed → List ExprTree → List Placed → Type 0 where
    no_expr : {d : ℕ} {r : List Placed} → MoreExprs d r [] r
    more_exprs : {d : ℕ} {c : Span} {ts r u : List Placed} {e : Part ExprTree} {es : List ExprTree}
        → Expr d ts e r → MoreExprs d r es u
        → MoreExprs d (on (symbol symbol.Comma) c d ∷ ts) (tree_of e ∷ es) u

  -- pattern "=>" expr
  pub data ExprArm : ℕ → List Placed → ExprArmTree → List Placed → Type 0 where
    arm : {d : ℕ} {a : Span} {ts us r : List Placed} {p : PatternTree} {e : Part ExprTree}
        → Pattern d ts p (on (symbol symbol.Arrow) a d ∷ us) → Expr d us e r
        → ExprArm d ts (ExprArmTree.arm p (tree_of e)) r

  -- {"," pattern "=>" expr}
  pub data MoreExprArms : ℕ → List Placed → List ExprArmTree → List Placed → Type 0 where
    no_arm : {d : ℕ} {r : List Placed} → MoreExprArms d r [] r
    more_arms : {d : ℕ} {c : Span} {ts r u : List Placed} {a : ExprArmTree} {as_ : List ExprArmTree}
        → ExprArm d ts a r → MoreExprArms d r as_ u
        → MoreExprArms d (on (symbol symbol.Comma) c d ∷ ts) (a ∷ as_) u

  -- access = NAME {"." (NAME | "returned") | "[" expr "]"} ["(" [expr {"," expr}] ")"]
  pub data Access : ℕ → List Placed → Part AccessTree → List Placed → Type 0 where
    rooted : {d : ℕ} {n : List ℕ} {s : Span} {ts r u : List Placed} {xs : List (Part StepTree)} {a : Part AccessTree}
        → Steps d ts xs r → AccessArgs d (ident n s) (trees_of xs) (reach s xs) r a u
        → Access d (on (name n) s d ∷ ts) a u

  -- {"." (NAME | "returned") | "[" expr "]"}
  pub data Steps : ℕ → List Placed → List (Part StepTree) → List Placed → Type 0 where
    no_step : {d : ℕ} {r : List Placed} → Steps d r [] r
    more_steps : {d : ℕ} {ts r u : List Placed} {x : Part StepTree} {xs : List (Part StepTree)}
        → Step d ts x r → Steps d r xs u
        → Steps d ts (x ∷ xs) u

  -- "." (NAME | "returned") | "[" expr "]"
  pub data Step : ℕ → List Placed → Part StepTree → List Placed → Type 0 where
    dot : {d : ℕ} {n : List ℕ} {s t : Span} {r : List Placed}
        → Step d (on (symbol symbol.Dot) s d ∷ on (name n) t d ∷ r) (part (StepTree.dot (ident n t)) (join s t)) r
    returned : {d : ℕ} {s t : Span} {r : List Placed}
        → Step d (on (symbol symbol.Dot) s d ∷ on (word word.Returned) t d ∷ r) (part (StepTree.returned t) (join s t)) r
    key : {d : ℕ} {o c : Span} {ts r : List Placed} {e : Part ExprTree}
        → Expr (suc d) ts e (on (symbol symbol.CloseBracket) c d ∷ r)
        → Step d (on (symbol symbol.OpenBracket) o d ∷ ts) (part (StepTree.key (tree_of e)) (join o c)) r

  -- ["(" [expr {"," expr}] ")"] behind a root and its steps, whose extent is s
  pub data AccessArgs : ℕ → Ident → List StepTree → Span → List Placed → Part AccessTree → List Placed → Type 0 where
    not_called : {d : ℕ} {n : Ident} {xs : List StepTree} {s : Span} {r : List Placed}
        → AccessArgs d n xs s r (part (AccessTree.path n (steps xs) ArgTrees.absent) s) r
    no_args : {d : ℕ} {n : Ident} {xs : List StepTree} {s o c : Span} {r : List Placed}
        → AccessArgs d n xs s (on (symbol symbol.OpenParen) o d ∷ on (symbol symbol.CloseParen) c d ∷ r) (part (AccessTree.path n (steps xs) (ArgTrees.given (exprs []))) (join s c)) r
    some_args : {d : ℕ} {n : Ident} {xs : List StepTree} {s o c : Span} {ts r : List Placed} {es : List ExprTree}
        → Exprs (suc d) ts es (on (symbol symbol.CloseParen) c d ∷ r)
        → AccessArgs d n xs s (on (symbol symbol.OpenParen) o d ∷ ts) (part (AccessTree.path n (steps xs) (ArgTrees.given (exprs es))) (join s c)) r
