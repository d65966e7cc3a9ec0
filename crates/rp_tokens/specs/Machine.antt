-- The token machine of the whole grammar: what one token does, and runs over many.
use Rattle.std.specs.Prelude.{ℕ, suc, cond, List, [], ◌∷◌, ◌++◌, Option, Some, None, nat_le, if◌then◌else◌}
use Rattle.rp_span.specs.declared.Span.{Span}
use Rattle.rp_grammar.specs.declared.terminal.Symbol.TheVariants as symbol
use Rattle.rp_grammar.specs.declared.terminal.Word.TheVariants as word
use Rattle.rp_grammar.specs.Terminals.{Terminal, int, Tok, at, Placed, on}
use Rattle.rp_grammar.specs.Trees.{ExprForm, BlockArmTree, DeclTree}
use Rattle.rp_grammar.specs.Parts.{tree_of}
use Rattle.rp_grammar.specs.Exprs.{goes_on, and_part, or_part, quantifier_part, between}
use Rattle.rp_tokens.specs.MachineStates.{is_symbol, is_word, ident_span, State, finished, want_symbol, want_name, want_int, if_symbol, if_word, if_name, want_type, more_params, want_crdt, more_fields, more_names, want_pattern, want_operand, want_prim, more_and, more_or, more_implies, more_cmp, more_sum, have_bound, stopping, more_exprs, more_expr_arms, in_access, in_stmts, more_if, in_block_arms, more_cons, in_decls, Move, to, or_else, name_step, name_or}
use Rattle.rp_tokens.specs.MachineTypes.{want_param, type_step, want_field, crdt_step}
use Rattle.rp_tokens.specs.MachineExprs.{pattern_step, want_andx, want_expr, want_expr_arm, want_bound, prim_step, operand_step, comparison, compare_or, not_called, access_or}
use Rattle.rp_tokens.specs.MachineStmts.{want_else, alone, stmt_step, in_block_arm}
use Rattle.rp_tokens.specs.MachineDecls.{want_con, decls_step}

-- an INT, and nothing else
abbrev pub int_step : ℕ → (ℕ → Span → State) → Terminal → Span → Option Move
int_step d k (int i) s = Some (to d (k i s))
int_step d k _ s = None

-- what a token does, none where it is refused
abbrev pub step : State → Terminal → Span → Option Move
step (finished xs) x s = None
step (want_symbol m h d k) x s = cond (is_symbol m x) (Some (to d (k s))) None
step (want_name d k) x s = name_step d k x s
step (want_int d k) x s = int_step d k x s
step (if_symbol m d k other) x s = cond (is_symbol m x) (Some (to d (k s))) (step other x s)
step (if_word w d k other) x s = cond (is_word w x) (Some (to d (k s))) (step other x s)
step (if_name d k other) x s = name_or d k x s (step other x s)
step (want_type d k) x s = type_step d k x s
step (more_params d ps k) x s = cond (is_symbol symbol.Comma x) (Some (to d (want_param d (λ p. more_params d (ps ++ p ∷ []) k)))) (step (k ps) x s)
step (want_crdt d k) x s = crdt_step d k x s
step (more_fields d xs k) x s = cond (is_symbol symbol.Comma x) (Some (to d (want_field d (λ f. more_fields d (xs ++ f ∷ []) k)))) (step (k xs) x s)
step (more_names d ns k) x s = cond (is_symbol symbol.Comma x) (Some (to d (want_name d (λ n. more_names d (ns ++ n ∷ []) k)))) (step (k ns) x s)
step (want_pattern d k) x s = pattern_step d k x s
step (want_operand d k) x s = operand_step d k x s
step (want_prim d k) x s = prim_step d k x s
step (more_and d e es k) x s = cond (is_symbol symbol.And x) (Some (to d (want_operand d (λ f. more_and d e (es ++ f ∷ []) k)))) (step (k (and_part e es)) x s)
step (more_or d e es k) x s = cond (is_symbol symbol.Or x) (Some (to d (want_andx d (λ f. more_or d e (es ++ f ∷ []) k)))) (step (k (or_part e es)) x s)
step (more_implies d a k) x s = cond (is_symbol symbol.Implies x) (Some (to d (want_expr (suc d) (λ b. k (between ExprForm.implies a b))))) (step (k a) x s)
step (more_cmp d a k) x s = compare_or d a k (comparison x) (step (k a) x s)
step (more_sum d a k) x s = cond (is_symbol symbol.Plus x)
    (Some (to d (want_prim (suc d) (λ b. more_sum (suc d) (between ExprForm.plus a b) k))))
    (cond (is_symbol symbol.Minus x) (Some (to d (want_prim (suc d) (λ b. more_sum (suc d) (between ExprForm.minus a b) k)))) (step (k a) x s))
step (have_bound q d v n t k) x s = cond (is_symbol symbol.DoubleColon x)
    (Some (to d (want_expr d (λ e. k (quantifier_part q v n t e)))))
    (cond (is_symbol symbol.Comma x) (Some (to d (want_name d (λ m. want_bound q (suc d) (ident_span m) m (λ e. k (quantifier_part q v n t e)))))) None)
step (stopping other) x s = cond (goes_on x) None (step other x s)
step (more_exprs d es k) x s = cond (is_symbol symbol.Comma x) (Some (to d (want_expr d (λ e. more_exprs d (es ++ tree_of e ∷ []) k)))) (step (k es) x s)
step (more_expr_arms d as_ k) x s = cond (is_symbol symbol.Comma x) (Some (to d (want_expr_arm d (λ a. more_expr_arms d (as_ ++ a ∷ []) k)))) (step (k as_) x s)
step (in_access d n xs v k) x s = access_or d n xs v k x (step (k (not_called n xs v)) x s)
step (in_stmts d xs k) x s = or_else (stmt_step d (λ y. in_stmts d (xs ++ y ∷ []) k) x s) (step (k xs) x s)
step (more_if d v e b k) x s = cond (is_word word.Else x) (Some (to d (want_else d v e b k))) (step (k (alone v e b)) x s)
step (in_block_arms d as_ k) x s = or_else (pattern_step d (λ p. in_block_arm d (λ b. in_block_arms d (as_ ++ BlockArmTree.arm p b ∷ []) k)) x s) (step (k as_) x s)
step (more_cons cs k) x s = cond (is_symbol symbol.Bar x) (Some (to 0 (want_con (λ c. more_cons (cs ++ c ∷ []) k)))) (step (k cs) x s)
step (in_decls xs) x s = decls_step xs x s

pub data Outcome : Type 0 where
  done : List DeclTree → Outcome
  -- with the tokens from the refused one on, none where the tokens end too early
  stuck : List Tok → Outcome

-- where no token is left
abbrev pub ended : State → Outcome
ended (finished xs) = done xs
ended (want_symbol m h d k) = stuck []
ended (want_name d k) = stuck []
ended (want_int d k) = stuck []
ended (if_symbol m d k other) = ended other
ended (if_word w d k other) = ended other
ended (if_name d k other) = ended other
ended (want_type d k) = stuck []
ended (more_params d ps k) = ended (k ps)
ended (want_crdt d k) = stuck []
ended (more_fields d xs k) = ended (k xs)
ended (more_names d ns k) = ended (k ns)
ended (want_pattern d k) = stuck []
ended (want_operand d k) = stuck []
ended (want_prim d k) = stuck []
ended (more_and d e es k) = ended (k (and_part e es))
ended (more_or d e es k) = ended (k (or_part e es))
ended (more_implies d a k) = ended (k a)
ended (more_cmp d a k) = ended (k a)
ended (more_sum d a k) = ended (k a)
ended (have_bound q d v n t k) = stuck []
ended (stopping other) = ended other
ended (more_exprs d es k) = ended (k es)
ended (more_expr_arms d as_ k) = ended (k as_)
ended (in_access d n xs v k) = ended (k (not_called n xs v))
ended (in_stmts d xs k) = ended (k xs)
ended (more_if d v e b k) = ended (k (alone v e b))
ended (in_block_arms d as_ k) = ended (k as_)
ended (more_cons cs k) = ended (k cs)
ended (in_decls xs) = stuck []

-- all tokens in turn, up to the first one that is refused
abbrev pub run : State → List Tok → Outcome
run s [] = ended s
run s (at x v ∷ ts) = elim (step s x v) [ None ↦ stuck (at x v ∷ ts) | Some m ↦ elim m [ to d n ↦ run n ts ] ]

-- the tokens with their nestings, up to the one that is refused
abbrev pub place : State → List Tok → List Placed
place s [] = []
place s (at x v ∷ ts) = elim (step s x v) [ None ↦ [] | Some m ↦ elim m [ to d n ↦ on x v d ∷ place n ts ] ]

pub data Bounded : Type 0 where
  whole : Outcome → Bounded
  -- with the tokens from the first one on whose nesting is too deep
  deep : List Tok → Bounded

-- the same run, up to the first token whose nesting passes m
abbrev pub bounded : ℕ → State → List Tok → Bounded
bounded m s [] = whole (ended s)
bounded m s (at x v ∷ ts) = elim (step s x v) [ None ↦ whole (stuck (at x v ∷ ts)) | Some p ↦ elim p [ to d n ↦ if nat_le d m then bounded m n ts else deep (at x v ∷ ts) ] ]
