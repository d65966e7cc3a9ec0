-- The tails of expressions and accesses: a further member, or none.
use Rattle.std.proofs.Common.{ℕ, suc, List, [], ◌∷◌, ◌++◌, inl, inr, Option, refl, sym, subst, append_assoc, append-nil}
use Rattle.rp_span.specs.declared.Span.{Span}
use Rattle.rp_grammar.specs.declared.operator.CompareOp.{CompareOp}
use Rattle.rp_grammar.specs.declared.operator.CompareOp.TheVariants as compare
use Rattle.rp_grammar.specs.declared.terminal.Symbol.{Symbol}
use Rattle.rp_grammar.specs.declared.terminal.Symbol.TheVariants as symbol
use Rattle.rp_grammar.specs.Terminals.{Terminal, symbol, Placed, on}
use Rattle.rp_grammar.specs.Trees.{Ident, ident, ExprTree, ExprForm, ExprArmTree, AccessTree, StepTree, DeclTree}
use Rattle.rp_grammar.specs.Parts.{join, Part, tree_of, extent_of, trees_of, reach}
use Rattle.rp_grammar.specs.Exprs.{between, and_part, or_part, Compares, Expr, Step, AccessArgs}
use Rattle.rp_grammar.specs.Exprs as grammar
use Rattle.rp_tokens.specs.MachineStates.{State, want_symbol, want_operand, want_prim, more_and, more_or, more_implies, more_cmp, more_sum, more_exprs, more_expr_arms, in_access, Move}
use Rattle.rp_tokens.specs.MachineExprs.{want_andx, want_expr, want_sum, want_expr_arm, comparison, comparison_symbol, compare_or, want_step, want_key, called_with, not_called, in_args, access_symbol, access_or}
use Rattle.rp_tokens.proofs.Leads.{next, next_name, AccessMore, accessed, Leads, Back, then_symbol}
use Rattle.rp_tokens.proofs.LeadsExprs.{andx_back, expr_back, sum_back, args_back, arm_back}

pub more_and_back : (d : ℕ) (e : Part ExprTree) (es : List (Part ExprTree)) (k : Part ExprTree → State) (v : Span) (ts : List Placed) (t : List DeclTree) → Leads (want_operand d (λ f. more_and d e (es ++ f ∷ []) k)) ts t → Leads (more_and d e es k) (on (symbol symbol.And) v d ∷ ts) t
more_and_back d e es k v ts t (f, r, x, (fs, u, m, l)) = (f ∷ fs, u, grammar.and_more x m, subst (λ all. Leads (k (and_part e all)) u t) (append_assoc es (f ∷ []) fs) l)

pub no_more_and : (d : ℕ) (e : Part ExprTree) (es : List (Part ExprTree)) (k : Part ExprTree → State) (ts : List Placed) (t : List DeclTree) → Leads (k (and_part e es)) ts t → Leads (more_and d e es k) ts t
no_more_and d e es k ts t l = ([], ts, grammar.no_and, subst (λ all. Leads (k (and_part e all)) ts t) (sym (append-nil es)) l)

pub more_or_back : (d : ℕ) (e : Part ExprTree) (es : List (Part ExprTree)) (k : Part ExprTree → State) (v : Span) (ts : List Placed) (t : List DeclTree) → Leads (want_andx d (λ f. more_or d e (es ++ f ∷ []) k)) ts t → Leads (more_or d e es k) (on (symbol symbol.Or) v d ∷ ts) t
more_or_back d e es k v ts t l =
    let (f, r, x, (fs, u, m, a)) = andx_back d (λ f. more_or d e (es ++ f ∷ []) k) ts t l in
    (f ∷ fs, u, grammar.or_more x m, subst (λ all. Leads (k (or_part e all)) u t) (append_assoc es (f ∷ []) fs) a)

pub no_more_or : (d : ℕ) (e : Part ExprTree) (es : List (Part ExprTree)) (k : Part ExprTree → State) (ts : List Placed) (t : List DeclTree) → Leads (k (or_part e es)) ts t → Leads (more_or d e es k) ts t
no_more_or d e es k ts t l = ([], ts, grammar.no_or, subst (λ all. Leads (k (or_part e all)) ts t) (sym (append-nil es)) l)

pub more_implies_back : (d : ℕ) (a : Part ExprTree) (k : Part ExprTree → State) (v : Span) (ts : List Placed) (t : List DeclTree) → Leads (want_expr (suc d) (λ b. k (between ExprForm.implies a b))) ts t → Leads (more_implies d a k) (on (symbol symbol.Implies) v d ∷ ts) t
more_implies_back d a k v ts t l = let (b, r, x, m) = expr_back (suc d) (λ b. k (between ExprForm.implies a b)) ts t l in (_, r, grammar.right x, m)

compared_of : (d : ℕ) (a : Part ExprTree) (k : Part ExprTree → State) (m : Symbol) (c : CompareOp) (v : Span) → Compares m c → (ts : List Placed) (t : List DeclTree) → Leads (want_sum d (λ b. k (between (ExprForm.compare c) a b))) ts t → Leads (more_cmp d a k) (on (symbol m) v d ∷ ts) t
compared_of d a k m c v h ts t l = let (b, r, x, n) = sum_back d (λ b. k (between (ExprForm.compare c) a b)) ts t l in (_, r, grammar.compared h x, n)

compare_symbol_back : (d : ℕ) (a : Part ExprTree) (k : Part ExprTree → State) (m : Symbol) (v : Span) (other : Option Move) → Back (Leads (more_cmp d a k)) (symbol m) v other → Back (Leads (more_cmp d a k)) (symbol m) v (compare_or d a k (comparison_symbol m) other)
compare_symbol_back d a k symbol.Equal v other f = compared_of d a k symbol.Equal compare.Equal v grammar.equal
compare_symbol_back d a k symbol.NotEqual v other f = compared_of d a k symbol.NotEqual compare.NotEqual v grammar.not_equal
compare_symbol_back d a k symbol.Less v other f = compared_of d a k symbol.Less compare.Less v grammar.less
compare_symbol_back d a k symbol.AtMost v other f = compared_of d a k symbol.AtMost compare.AtMost v grammar.at_most
compare_symbol_back d a k symbol.Greater v other f = compared_of d a k symbol.Greater compare.Greater v grammar.greater
compare_symbol_back d a k symbol.AtLeast v other f = compared_of d a k symbol.AtLeast compare.AtLeast v grammar.at_least
compare_symbol_back d a k _ v other f = f

pub compare_back : (d : ℕ) (a : Part ExprTree) (k : Part ExprTree → State) (x : Terminal) (v : Span) (other : Option Move) → Back (Leads (more_cmp d a k)) x v other → Back (Leads (more_cmp d a k)) x v (compare_or d a k (comparison x) other)
compare_back d a k (symbol m) v other f = compare_symbol_back d a k m v other f
compare_back d a k _ v other f = f

pub plus_back : (d : ℕ) (a : Part ExprTree) (k : Part ExprTree → State) (v : Span) (ts : List Placed) (t : List DeclTree) → Leads (want_prim (suc d) (λ b. more_sum (suc d) (between ExprForm.plus a b) k)) ts t → Leads (more_sum d a k) (on (symbol symbol.Plus) v d ∷ ts) t
plus_back d a k v ts t (b, r, x, (e, u, m, l)) = (e, u, grammar.plus x m, l)

pub minus_back : (d : ℕ) (a : Part ExprTree) (k : Part ExprTree → State) (v : Span) (ts : List Placed) (t : List DeclTree) → Leads (want_prim (suc d) (λ b. more_sum (suc d) (between ExprForm.minus a b) k)) ts t → Leads (more_sum d a k) (on (symbol symbol.Minus) v d ∷ ts) t
minus_back d a k v ts t (b, r, x, (e, u, m, l)) = (e, u, grammar.minus x m, l)

pub more_exprs_back : (d : ℕ) (es : List ExprTree) (k : List ExprTree → State) (v : Span) (ts : List Placed) (t : List DeclTree) → Leads (want_expr d (λ e. more_exprs d (es ++ tree_of e ∷ []) k)) ts t → Leads (more_exprs d es k) (on (symbol symbol.Comma) v d ∷ ts) t
more_exprs_back d es k v ts t l =
    let (e, r, x, (fs, u, m, a)) = expr_back d (λ e. more_exprs d (es ++ tree_of e ∷ []) k) ts t l in
    (_, u, grammar.more_exprs x m, subst (λ all. Leads (k all) u t) (append_assoc es (tree_of e ∷ []) fs) a)

pub no_more_exprs : (d : ℕ) (es : List ExprTree) (k : List ExprTree → State) (ts : List Placed) (t : List DeclTree) → Leads (k es) ts t → Leads (more_exprs d es k) ts t
no_more_exprs d es k ts t l = ([], ts, grammar.no_expr, subst (λ all. Leads (k all) ts t) (sym (append-nil es)) l)

pub more_arms_back : (d : ℕ) (as_ : List ExprArmTree) (k : List ExprArmTree → State) (v : Span) (ts : List Placed) (t : List DeclTree) → Leads (want_expr_arm d (λ a. more_expr_arms d (as_ ++ a ∷ []) k)) ts t → Leads (more_expr_arms d as_ k) (on (symbol symbol.Comma) v d ∷ ts) t
more_arms_back d as_ k v ts t l =
    let (a, r, x, (bs, u, m, b)) = arm_back d (λ a. more_expr_arms d (as_ ++ a ∷ []) k) ts t l in
    (_, u, grammar.more_arms x m, subst (λ all. Leads (k all) u t) (append_assoc as_ (a ∷ []) bs) b)

pub no_more_arms : (d : ℕ) (as_ : List ExprArmTree) (k : List ExprArmTree → State) (ts : List Placed) (t : List DeclTree) → Leads (k as_) ts t → Leads (more_expr_arms d as_ k) ts t
no_more_arms d as_ k ts t l = ([], ts, grammar.no_arm, subst (λ all. Leads (k all) ts t) (sym (append-nil as_)) l)

-- accesses

step_then : {d : ℕ} {n : Ident} {xs : List StepTree} {s : Span} {ts r u : List Placed} {x : Part StepTree} {a : Part AccessTree} → Step d ts x r → AccessMore d n (xs ++ tree_of x ∷ []) (join s (extent_of x)) r a u → AccessMore d n xs s ts a u
step_then {d = d} {n = n} {xs = xs} {s = s} {u = u} {x = x} {a = a} y (accessed {r = r} {ys = ys} m z) =
    accessed (grammar.more_steps y m) (subst (λ all. AccessArgs d n all (reach (join s (extent_of x)) ys) r a u) (append_assoc xs (tree_of x ∷ []) (trees_of ys)) z)

args_then : {d : ℕ} {n : Ident} {xs : List StepTree} {s : Span} {ts u : List Placed} {a : Part AccessTree} → AccessArgs d n xs s ts a u → AccessMore d n xs s ts a u
args_then {d = d} {n = n} {xs = xs} {s = s} {ts = ts} {u = u} {a = a} z = accessed grammar.no_step (subst (λ all. AccessArgs d n all s ts a u) (sym (append-nil xs)) z)

dot_of : (d : ℕ) (n : Ident) (xs : List StepTree) (s : Span) (k : Part AccessTree → State) (v : Span) (ts : List Placed) (t : List DeclTree) → Leads (want_step d n xs s k) ts t → Leads (in_access d n xs s k) (on (symbol symbol.Dot) v d ∷ ts) t
dot_of d n xs s k v ts t (inl (c, r, next, (a, u, m, l))) = (a, u, step_then grammar.returned m, l)
dot_of d n xs s k v ts t (inr (ident m w, r, next_name, (a, u, y, l))) = (a, u, step_then grammar.dot y, l)

key_end : (d : ℕ) (n : Ident) (xs : List StepTree) (s : Span) (k : Part AccessTree → State) (v c : Span) (ts r : List Placed) (t : List DeclTree) (e : Part ExprTree) → Expr (suc d) ts e (on (symbol symbol.CloseBracket) c d ∷ r) → Leads (in_access d n (xs ++ StepTree.key (tree_of e) ∷ []) (join s c) k) r t → Leads (in_access d n xs s k) (on (symbol symbol.OpenBracket) v d ∷ ts) t
key_end d n xs s k v c ts r t e x (a, u, m, l) = (a, u, step_then (grammar.key x) m, l)

key_of : (d : ℕ) (n : Ident) (xs : List StepTree) (s : Span) (k : Part AccessTree → State) (v : Span) (ts : List Placed) (t : List DeclTree) → Leads (want_key d n xs s k) ts t → Leads (in_access d n xs s k) (on (symbol symbol.OpenBracket) v d ∷ ts) t
key_of d n xs s k v ts t l =
    let after : Part ExprTree → Span → State = λ e c. in_access d n (xs ++ StepTree.key (tree_of e) ∷ []) (join s c) k in
    let (e, c, r, x, a) = then_symbol (Expr (suc d)) symbol.CloseBracket refl d after ts t (expr_back (suc d) (λ e. want_symbol symbol.CloseBracket refl d (after e)) ts t l) in
    key_end d n xs s k v c ts r t e x a

args_of : (d : ℕ) (n : Ident) (xs : List StepTree) (s : Span) (k : Part AccessTree → State) (v : Span) (ts : List Placed) (t : List DeclTree) → Leads (in_args d n xs s k) ts t → Leads (in_access d n xs s k) (on (symbol symbol.OpenParen) v d ∷ ts) t
args_of d n xs s k v ts t (inl (c, r, next, l)) = (_, r, args_then grammar.no_args, l)
args_of d n xs s k v ts t (inr l) = let (es, c, r, x, a) = args_back d (λ es c. k (called_with n xs s es c)) ts t l in (_, r, args_then (grammar.some_args x), a)

pub no_more_access : (d : ℕ) (n : Ident) (xs : List StepTree) (s : Span) (k : Part AccessTree → State) (ts : List Placed) (t : List DeclTree) → Leads (k (not_called n xs s)) ts t → Leads (in_access d n xs s k) ts t
no_more_access d n xs s k ts t l = (_, ts, args_then grammar.not_called, l)

access_symbol_back : (d : ℕ) (n : Ident) (xs : List StepTree) (s : Span) (k : Part AccessTree → State) (m : Symbol) (v : Span) (other : Option Move) → Back (Leads (in_access d n xs s k)) (symbol m) v other → Back (Leads (in_access d n xs s k)) (symbol m) v (access_symbol d n xs s k m other)
access_symbol_back d n xs s k symbol.Dot v other f = dot_of d n xs s k v
access_symbol_back d n xs s k symbol.OpenBracket v other f = key_of d n xs s k v
access_symbol_back d n xs s k symbol.OpenParen v other f = args_of d n xs s k v
access_symbol_back d n xs s k _ v other f = f

pub access_back : (d : ℕ) (n : Ident) (xs : List StepTree) (s : Span) (k : Part AccessTree → State) (x : Terminal) (v : Span) (other : Option Move) → Back (Leads (in_access d n xs s k)) x v other → Back (Leads (in_access d n xs s k)) x v (access_or d n xs s k x other)
access_back d n xs s k (symbol m) v other f = access_symbol_back d n xs s k m v other f
access_back d n xs s k _ v other f = f
