-- The machine on expressions, accesses and patterns.
use Rattle.std.specs.Prelude.{ℕ, suc, pos, neg_ℤ, true, false, List, [], ◌∷◌, ◌++◌, refl, Option, Some, None}
use Rattle.rp_span.specs.declared.Span.{Span}
use Rattle.rp_grammar.specs.declared.operator.CompareOp.{CompareOp}
use Rattle.rp_grammar.specs.declared.operator.CompareOp.TheVariants as compare
use Rattle.rp_grammar.specs.declared.operator.CallWord.{CallWord}
use Rattle.rp_grammar.specs.declared.operator.CallWord.TheVariants as called
use Rattle.rp_grammar.specs.declared.terminal.Word.{Word}
use Rattle.rp_grammar.specs.declared.terminal.Word.TheVariants as word
use Rattle.rp_grammar.specs.declared.terminal.Symbol.{Symbol}
use Rattle.rp_grammar.specs.declared.terminal.Symbol.TheVariants as symbol
use Rattle.rp_grammar.specs.Spelling.{spelling}
use Rattle.rp_grammar.specs.Terminals.{Terminal, name, word, int, str, symbol, end}
use Rattle.rp_grammar.specs.Trees.{Ident, ident, PatternTree, ExprTree, ExprForm, ExprArmTree, AccessTree, StepTree, ArgTrees, exprs, expr_arms, steps}
use Rattle.rp_grammar.specs.Parts.{join, Part, part, tree_of, extent_of, built, in_parens}
use Rattle.rp_grammar.specs.Exprs.{Quantifier, not_part, quantifier_part, between}
use Rattle.rp_grammar.specs.Exprs as grammar
use Rattle.rp_tokens.specs.MachineStates.{ident_span, State, want_symbol, want_name, want_int, if_symbol, if_word, want_type, more_names, want_pattern, want_operand, want_prim, more_and, more_or, more_implies, more_cmp, more_sum, have_bound, stopping, more_exprs, more_expr_arms, in_access, Move, to}

-- ["(" NAME {"," NAME} ")"] behind a constructor
abbrev pub in_pattern : ℕ → Ident → (PatternTree → State) → State
in_pattern d n k =
    if_symbol symbol.OpenParen d
    (λ o. want_name (suc d) (λ v. more_names (suc d) (v ∷ []) (λ vs. want_symbol symbol.CloseParen refl d (λ c. k (PatternTree.pattern n vs)))))
    (k (PatternTree.pattern n []))

abbrev pub pattern_word : ℕ → (PatternTree → State) → Word → Span → Option Move
pattern_word d k word.None s = Some (to d (in_pattern d (ident (spelling word.None) s) k))
pattern_word d k word.Some s = Some (to d (in_pattern d (ident (spelling word.Some) s) k))
pattern_word d k word.True s = Some (to d (in_pattern d (ident (spelling word.True) s) k))
pattern_word d k word.False s = Some (to d (in_pattern d (ident (spelling word.False) s) k))
pattern_word d k _ s = None

-- the first token of a pattern
abbrev pub pattern_step : ℕ → (PatternTree → State) → Terminal → Span → Option Move
pattern_step d k (name n) s = Some (to d (in_pattern d (ident n s) k))
pattern_step d k (word w) s = pattern_word d k w s
pattern_step d k _ s = None

-- andx
abbrev pub want_andx : ℕ → (Part ExprTree → State) → State
want_andx d k = want_operand d (λ e. more_and d e [] k)

-- orx
abbrev pub want_orx : ℕ → (Part ExprTree → State) → State
want_orx d k = want_andx d (λ e. more_or d e [] k)

-- expr
abbrev pub want_expr : ℕ → (Part ExprTree → State) → State
want_expr d k = want_orx d (λ a. more_implies d a k)

-- sum
abbrev pub want_sum : ℕ → (Part ExprTree → State) → State
want_sum d k = want_prim d (λ a. more_sum d a k)

-- "(" is read, and then expr ")"
abbrev pub want_closed : ℕ → (Part ExprTree → Span → State) → State
want_closed d k = want_expr (suc d) (λ e. want_symbol symbol.CloseParen refl d (λ c. k e c))

-- "(" expr ")"
abbrev pub want_parens : ℕ → (Part ExprTree → Span → State) → State
want_parens d k = want_symbol symbol.OpenParen refl d (λ o. want_closed d k)

-- expr {"," expr}
abbrev pub want_exprs : ℕ → (List ExprTree → State) → State
want_exprs d k = want_expr d (λ e. more_exprs d (tree_of e ∷ []) k)

-- expr {"," expr} ")" behind "("
abbrev pub want_args : ℕ → (List ExprTree → Span → State) → State
want_args d k = want_exprs (suc d) (λ es. want_symbol symbol.CloseParen refl d (λ c. k es c))

-- pattern "=>" expr
abbrev pub want_expr_arm : ℕ → (ExprArmTree → State) → State
want_expr_arm d k = want_pattern d (λ p. want_symbol symbol.Arrow refl d (λ a. want_expr d (λ e. k (ExprArmTree.arm p (tree_of e)))))

-- pattern "=>" expr {"," pattern "=>" expr}
abbrev pub want_expr_arms : ℕ → (List ExprArmTree → State) → State
want_expr_arms d k = want_expr_arm d (λ a. more_expr_arms d (a ∷ []) k)

-- ":" type {"," NAME ":" type} "::" expr behind a variable whose node starts at s
abbrev pub want_bound : Quantifier → ℕ → Span → Ident → (Part ExprTree → State) → State
want_bound q d s n k = want_symbol symbol.Colon refl d (λ c. want_type d (λ t. have_bound q d s n t k))

-- NAME ":" type {"," NAME ":" type} "::" expr behind the word at s
abbrev pub want_quant : Quantifier → ℕ → Span → (Part ExprTree → State) → State
want_quant q d s k = want_name (suc d) (λ n. want_bound q (suc d) s n (λ e. stopping (k e)))

-- an access as an operand
abbrev pub access_part : Part AccessTree → Part ExprTree
access_part a = built (extent_of a) (ExprForm.access (tree_of a))

-- an expression that begins with a name, behind the name
abbrev pub in_expr : ℕ → Ident → (Part ExprTree → State) → State
in_expr d n k =
    in_access d n [] (ident_span n) (λ a. more_sum d (access_part a) (λ b. more_cmp d b (λ c.
    more_and d c [] (λ f. more_or d f [] (λ g. more_implies d g k)))))

-- "(" expr {"," expr} ")" behind a word at s
abbrev pub want_call : ℕ → CallWord → Span → (Part ExprTree → State) → State
want_call d w s k = want_symbol symbol.OpenParen refl d (λ o. want_args d (λ es c. k (built (join s c) (ExprForm.call w (exprs es)))))

-- "(" expr ")" "{" pattern "=>" expr {"," pattern "=>" expr} "}" behind a word at s
abbrev pub want_match : ℕ → Span → (Part ExprTree → State) → State
want_match d s k =
    want_parens d (λ e c. want_symbol symbol.OpenBrace refl d (λ b. want_expr_arms (suc d) (λ as_.
    want_symbol symbol.CloseBrace refl d (λ x. k (built (join s x) (ExprForm.match (tree_of e) (expr_arms as_)))))))

abbrev pub prim_word : ℕ → (Part ExprTree → State) → Word → Span → Option Move
prim_word d k word.True s = Some (to d (k (built s (ExprForm.truth true))))
prim_word d k word.False s = Some (to d (k (built s (ExprForm.truth false))))
prim_word d k word.None s = Some (to d (k (built s ExprForm.none_word)))
prim_word d k word.Some s = Some (to d (want_parens d (λ e c. k (built (join s c) (ExprForm.some_of (tree_of e))))))
prim_word d k word.Unreturned s = Some (to d (k (built s ExprForm.unreturned)))
prim_word d k word.Tx s = Some (to d (k (built s ExprForm.tx)))
prim_word d k word.Visible s = Some (to d (want_call d called.Visible s k))
prim_word d k word.Before s = Some (to d (want_call d called.Before s k))
prim_word d k word.Same s = Some (to d (want_call d called.Same s k))
prim_word d k word.Op s = Some (to d (want_call d called.Op s k))
prim_word d k word.Origin s = Some (to d (want_call d called.Origin s k))
prim_word d k word.Info s = Some (to d (want_call d called.Info s k))
prim_word d k word.Result s = Some (to d (want_call d called.Result s k))
prim_word d k word.Match s = Some (to d (want_match d s k))
prim_word d k _ s = None

abbrev pub prim_symbol : ℕ → (Part ExprTree → State) → Symbol → Span → Option Move
prim_symbol d k symbol.Minus s = Some (to d (want_int d (λ i t. k (built (join s t) (ExprForm.int (neg_ℤ (pos i)))))))
prim_symbol d k symbol.OpenParen s = Some (to d (want_closed d (λ e c. k (in_parens s c e))))
prim_symbol d k _ s = None

-- the first token of a prim
abbrev pub prim_step : ℕ → (Part ExprTree → State) → Terminal → Span → Option Move
prim_step d k (name n) s = Some (to d (in_access d (ident n s) [] s (λ a. k (access_part a))))
prim_step d k (word w) s = prim_word d k w s
prim_step d k (int i) s = Some (to d (k (built s (ExprForm.int (pos i)))))
prim_step d k (str bytes) s = Some (to d (k (built s (ExprForm.str bytes))))
prim_step d k (symbol m) s = prim_symbol d k m s
prim_step d k end s = None

-- a prim that begins a comparison
abbrev pub cmp_step : ℕ → (Part ExprTree → State) → Terminal → Span → Option Move
cmp_step d k x s = prim_step d (λ a. more_sum d a (λ b. more_cmp d b k)) x s

abbrev pub operand_word : ℕ → (Part ExprTree → State) → Word → Span → Option Move
operand_word d k word.Forall s = Some (to d (want_quant grammar.forall d s k))
operand_word d k word.Exists s = Some (to d (want_quant grammar.exists d s k))
operand_word d k w s = cmp_step d k (word w) s

abbrev pub operand_symbol : ℕ → (Part ExprTree → State) → Symbol → Span → Option Move
operand_symbol d k symbol.Not s = Some (to d (want_operand (suc d) (λ e. k (not_part s e))))
operand_symbol d k m s = cmp_step d k (symbol m) s

-- the first token of a notx
abbrev pub operand_step : ℕ → (Part ExprTree → State) → Terminal → Span → Option Move
operand_step d k (word w) s = operand_word d k w s
operand_step d k (symbol m) s = operand_symbol d k m s
operand_step d k x s = cmp_step d k x s

abbrev pub comparison_symbol : Symbol → Option CompareOp
comparison_symbol symbol.Equal = Some compare.Equal
comparison_symbol symbol.NotEqual = Some compare.NotEqual
comparison_symbol symbol.Less = Some compare.Less
comparison_symbol symbol.AtMost = Some compare.AtMost
comparison_symbol symbol.Greater = Some compare.Greater
comparison_symbol symbol.AtLeast = Some compare.AtLeast
comparison_symbol _ = None

-- the comparison that a token writes
abbrev pub comparison : Terminal → Option CompareOp
comparison (symbol m) = comparison_symbol m
comparison _ = None

-- a comparison, or else the other
abbrev pub compare_or : ℕ → Part ExprTree → (Part ExprTree → State) → Option CompareOp → Option Move → Option Move
compare_or d a k None other = other
compare_or d a k (Some c) other = Some (to d (want_sum d (λ b. k (between (ExprForm.compare c) a b))))

-- NAME or "returned" behind a dot
abbrev pub want_step : ℕ → Ident → List StepTree → Span → (Part AccessTree → State) → State
want_step d n xs s k =
    if_word word.Returned d
    (λ t. in_access d n (xs ++ StepTree.returned t ∷ []) (join s t) k)
    (want_name d (λ m. in_access d n (xs ++ StepTree.dot m ∷ []) (join s (ident_span m)) k))

-- expr "]" behind "["
abbrev pub want_key : ℕ → Ident → List StepTree → Span → (Part AccessTree → State) → State
want_key d n xs s k =
    want_expr (suc d) (λ e.
    want_symbol symbol.CloseBracket refl d (λ c. in_access d n (xs ++ StepTree.key (tree_of e) ∷ []) (join s c) k))

abbrev pub called_with : Ident → List StepTree → Span → List ExprTree → Span → Part AccessTree
called_with n xs s es c = part (AccessTree.path n (steps xs) (ArgTrees.given (exprs es))) (join s c)

abbrev pub not_called : Ident → List StepTree → Span → Part AccessTree
not_called n xs s = part (AccessTree.path n (steps xs) ArgTrees.absent) s

-- [expr {"," expr}] ")" behind "("
abbrev pub in_args : ℕ → Ident → List StepTree → Span → (Part AccessTree → State) → State
in_args d n xs s k =
    if_symbol symbol.CloseParen d
    (λ c. k (called_with n xs s [] c))
    (want_args d (λ es c. k (called_with n xs s es c)))

abbrev pub access_symbol : ℕ → Ident → List StepTree → Span → (Part AccessTree → State) → Symbol → Option Move → Option Move
access_symbol d n xs s k symbol.Dot other = Some (to d (want_step d n xs s k))
access_symbol d n xs s k symbol.OpenBracket other = Some (to d (want_key d n xs s k))
access_symbol d n xs s k symbol.OpenParen other = Some (to d (in_args d n xs s k))
access_symbol d n xs s k _ other = other

-- a step or arguments, or else the other
abbrev pub access_or : ℕ → Ident → List StepTree → Span → (Part AccessTree → State) → Terminal → Option Move → Option Move
access_or d n xs s k (symbol m) other = access_symbol d n xs s k m other
access_or d n xs s k _ other = other
