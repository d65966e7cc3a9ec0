-- What leads on behind the tokens of expressions, accesses and patterns leads on from before them.
use Rattle.std.proofs.Common.{ℕ, suc, List, [], ◌∷◌, ◌++◌, inl, inr, pos, neg_ℤ, refl, sym, subst, append_assoc, append-nil}
use Rattle.rp_span.specs.declared.Span.{Span}
use Rattle.rp_grammar.specs.declared.operator.CallWord.{CallWord}
use Rattle.rp_grammar.specs.declared.terminal.Word.{Word}
use Rattle.rp_grammar.specs.declared.terminal.Word.TheVariants as word
use Rattle.rp_grammar.specs.declared.terminal.Symbol.{Symbol}
use Rattle.rp_grammar.specs.declared.terminal.Symbol.TheVariants as symbol
use Rattle.rp_grammar.specs.Terminals.{Terminal, name, word, int, str, symbol, end, Placed, on}
use Rattle.rp_grammar.specs.Trees.{Ident, ident, TypeTree, PatternTree, ExprTree, ExprForm, ExprArmTree, exprs, expr_arms, DeclTree}
use Rattle.rp_grammar.specs.Parts.{join, Part, tree_of, built, in_parens}
use Rattle.rp_grammar.specs.Exprs.{Quantifier, quantifier_part, not_part, between, and_part, or_part, ConName, Compares, Calls, MoreNames, Pattern, Expr, ImpliesMore, Orx, OrMore, Andx, AndMore, Notx, Quant, Bound, Cmp, CmpMore, Sum, SumMore, Prim, Exprs, MoreExprs, ExprArm, MoreExprArms, Access, Steps, Step, AccessArgs}
use Rattle.rp_grammar.specs.Types.{TypePhrase}
use Rattle.rp_grammar.specs.Exprs as grammar
use Rattle.rp_tokens.specs.MachineStates.{ident_span, State, want_symbol, want_name, want_int, want_prim, more_names, more_cmp, more_sum, have_bound, stopping, more_exprs, more_expr_arms, in_access}
use Rattle.rp_tokens.specs.MachineExprs.{in_pattern, pattern_word, pattern_step, want_andx, want_expr, want_sum, want_closed, want_parens, want_exprs, want_args, want_expr_arm, want_expr_arms, want_bound, want_quant, access_part, in_expr, want_call, want_match, prim_word, prim_symbol, prim_step, cmp_step, operand_word, operand_symbol, operand_step}
use Rattle.rp_tokens.proofs.Leads.{next, next_name, next_int, BoundMore, last_one, next_one, accessed, Leads, Through, Back, weaken, then_symbol}

-- patterns

pattern_of : (d : ℕ) (k : PatternTree → State) (x : Terminal) (n : List ℕ) (v : Span) → ConName x n → (ts : List Placed) (t : List DeclTree) → Leads (in_pattern d (ident n v) k) ts t → Through (Pattern d) k (on x v d ∷ ts) t
pattern_of d k x n v c ts t (inl (o, r, next, (m, u, next_name, (vs, w, ms, (z, y, next, l))))) = (_, y, grammar.binding c ms, l)
pattern_of d k x n v c ts t (inr l) = (_, ts, grammar.bare c, l)

pattern_word_back : (d : ℕ) (k : PatternTree → State) (w : Word) (v : Span) → Back (Through (Pattern d) k) (word w) v (pattern_word d k w v)
pattern_word_back d k word.None v = pattern_of d k (word word.None) _ v grammar.none
pattern_word_back d k word.Some v = pattern_of d k (word word.Some) _ v grammar.some
pattern_word_back d k word.True v = pattern_of d k (word word.True) _ v grammar.yes
pattern_word_back d k word.False v = pattern_of d k (word word.False) _ v grammar.no
pattern_word_back d k _ v = tt

pub pattern_back : (d : ℕ) (k : PatternTree → State) (x : Terminal) (v : Span) → Back (Through (Pattern d) k) x v (pattern_step d k x v)
pattern_back d k (name n) v = pattern_of d k (name n) n v grammar.named
pattern_back d k (word w) v = pattern_word_back d k w v
pattern_back d k _ v = tt

pub more_names_back : (d : ℕ) (ns : List Ident) (k : List Ident → State) (v : Span) (ts : List Placed) (t : List DeclTree) → Leads (want_name d (λ n. more_names d (ns ++ n ∷ []) k)) ts t → Leads (more_names d ns k) (on (symbol symbol.Comma) v d ∷ ts) t
more_names_back d ns k v ts t (n, r, next_name, (ms, u, m, l)) = (_, u, grammar.more_names m, subst (λ all. Leads (k all) u t) (append_assoc ns (n ∷ []) ms) l)

pub no_more_names : (d : ℕ) (ns : List Ident) (k : List Ident → State) (ts : List Placed) (t : List DeclTree) → Leads (k ns) ts t → Leads (more_names d ns k) ts t
no_more_names d ns k ts t l = ([], ts, grammar.no_name, subst (λ all. Leads (k all) ts t) (sym (append-nil ns)) l)

-- phrases that are read from several states

pub andx_back : (d : ℕ) (k : Part ExprTree → State) (ts : List Placed) (t : List DeclTree) → Leads (want_andx d k) ts t → Through (Andx d) k ts t
andx_back d k ts t (e, r, x, (ms, u, m, l)) = (_, u, grammar.and x m, l)

pub expr_back : (d : ℕ) (k : Part ExprTree → State) (ts : List Placed) (t : List DeclTree) → Leads (want_expr d k) ts t → Through (Expr d) k ts t
expr_back d k ts t (e, r, x, (ms, u, m, (ns, w, n, (f, z, i, l)))) = (f, z, grammar.expr (grammar.or (grammar.and x m) n) i, l)

pub sum_back : (d : ℕ) (k : Part ExprTree → State) (ts : List Placed) (t : List DeclTree) → Leads (want_sum d k) ts t → Through (Sum d) k ts t
sum_back d k ts t (a, r, x, (e, u, m, l)) = (e, u, grammar.sum x m, l)

pub closed_back : (d : ℕ) (k : Part ExprTree → Span → State) (ts : List Placed) (t : List DeclTree) → Leads (want_closed d k) ts t → (e : Part ExprTree) × (c : Span) × (r : List Placed) × Expr (suc d) ts e (on (symbol symbol.CloseParen) c d ∷ r) × Leads (k e c) r t
closed_back d k ts t l = then_symbol (Expr (suc d)) symbol.CloseParen refl d k ts t (expr_back (suc d) (λ e. want_symbol symbol.CloseParen refl d (k e)) ts t l)

exprs_back : (d : ℕ) (k : List ExprTree → State) (ts : List Placed) (t : List DeclTree) → Leads (want_exprs d k) ts t → Through (Exprs d) k ts t
exprs_back d k ts t l = let (e, r, x, (es, u, m, a)) = expr_back d (λ e. more_exprs d (tree_of e ∷ []) k) ts t l in (_, u, grammar.some_exprs x m, a)

pub args_back : (d : ℕ) (k : List ExprTree → Span → State) (ts : List Placed) (t : List DeclTree) → Leads (want_args d k) ts t → (es : List ExprTree) × (c : Span) × (r : List Placed) × Exprs (suc d) ts es (on (symbol symbol.CloseParen) c d ∷ r) × Leads (k es c) r t
args_back d k ts t l = then_symbol (Exprs (suc d)) symbol.CloseParen refl d k ts t (exprs_back (suc d) (λ es. want_symbol symbol.CloseParen refl d (k es)) ts t l)

arm_of : (d : ℕ) (k : ExprArmTree → State) (ts : List Placed) (t : List DeclTree) (p : PatternTree) (a : Span) (r : List Placed) → Pattern d ts p (on (symbol symbol.Arrow) a d ∷ r) → Through (Expr d) (λ e. k (ExprArmTree.arm p (tree_of e))) r t → Through (ExprArm d) k ts t
arm_of d k ts t p a r x (e, u, y, l) = (_, u, grammar.arm x y, l)

pub arm_back : (d : ℕ) (k : ExprArmTree → State) (ts : List Placed) (t : List DeclTree) → Leads (want_expr_arm d k) ts t → Through (ExprArm d) k ts t
arm_back d k ts t l =
    let body : PatternTree → State = λ p. want_expr d (λ e. k (ExprArmTree.arm p (tree_of e))) in
    let (p, a, r, x, b) = then_symbol (Pattern d) symbol.Arrow refl d (λ p a. body p) ts t l in
    arm_of d k ts t p a r x (expr_back d (λ e. k (ExprArmTree.arm p (tree_of e))) r t b)

bound_of : (q : Quantifier) (d : ℕ) (s : Span) (n : Ident) (x : TypeTree) (c : Span) (ts us r : List Placed) (e : Part ExprTree) → TypePhrase d ts x us → BoundMore q d s n x us e r → Bound q d s n (on (symbol symbol.Colon) c d ∷ ts) e r
bound_of q d s n x c ts us r e p (last_one y) = grammar.last_variable p y
bound_of q d s n x c ts us r e p (next_one y) = grammar.next_variable p y

pub bound_back : (q : Quantifier) (d : ℕ) (s : Span) (n : Ident) (k : Part ExprTree → State) (ts : List Placed) (t : List DeclTree) → Leads (want_bound q d s n k) ts t → Through (Bound q d s n) k ts t
bound_back q d s n k ts t (c, r, next, (x, u, p, (e, w, m, l))) = (e, w, bound_of q d s n x c r u w e p m, l)

pub next_bound : (q : Quantifier) (d : ℕ) (s : Span) (n : Ident) (x : TypeTree) (k : Part ExprTree → State) (v : Span) (ts : List Placed) (t : List DeclTree)
    → Leads (want_name d (λ m. want_bound q (suc d) (ident_span m) m (λ e. k (quantifier_part q s n x e)))) ts t
    → Leads (have_bound q d s n x k) (on (symbol symbol.Comma) v d ∷ ts) t
next_bound q d s n x k v ts t (ident m w, r, next_name, l) =
    let (e, u, y, a) = bound_back q (suc d) w (ident m w) (λ e. k (quantifier_part q s n x e)) r t l in (_, u, next_one y, a)

pub last_bound : (q : Quantifier) (d : ℕ) (s : Span) (n : Ident) (x : TypeTree) (k : Part ExprTree → State) (v : Span) (ts : List Placed) (t : List DeclTree)
    → Leads (want_expr d (λ e. k (quantifier_part q s n x e))) ts t
    → Leads (have_bound q d s n x k) (on (symbol symbol.DoubleColon) v d ∷ ts) t
last_bound q d s n x k v ts t l = let (e, r, y, a) = expr_back d (λ e. k (quantifier_part q s n x e)) ts t l in (_, r, last_one y, a)

-- prims

call_of : (d : ℕ) (w : Word) (c : CallWord) (s : Span) (k : Part ExprTree → State) → Calls w c → (ts : List Placed) (t : List DeclTree) → Leads (want_call d c s k) ts t → Through (Prim d) k (on (word w) s d ∷ ts) t
call_of d w c s k h ts t (o, r, next, l) = let (es, z, u, x, a) = args_back d (λ es z. k (built (join s z) (ExprForm.call c (exprs es)))) r t l in (_, u, grammar.call h x, a)

some_of : (d : ℕ) (s : Span) (k : Part ExprTree → State) (ts : List Placed) (t : List DeclTree) → Leads (want_parens d (λ e c. k (built (join s c) (ExprForm.some_of (tree_of e))))) ts t → Through (Prim d) k (on (word word.Some) s d ∷ ts) t
some_of d s k ts t (o, r, next, l) = let (e, c, u, x, a) = closed_back d (λ e c. k (built (join s c) (ExprForm.some_of (tree_of e)))) r t l in (_, u, grammar.some_ x, a)

match_end : (d : ℕ) (s o c b : Span) (e : Part ExprTree) (k : Part ExprTree → State) (ts us : List Placed) (t : List DeclTree)
    → Expr (suc d) ts e (on (symbol symbol.CloseParen) c d ∷ on (symbol symbol.OpenBrace) b d ∷ us)
    → Through (ExprArm (suc d)) (λ a. more_expr_arms (suc d) (a ∷ []) (λ as_. want_symbol symbol.CloseBrace refl d (λ x. k (built (join s x) (ExprForm.match (tree_of e) (expr_arms as_)))))) us t
    → Through (Prim d) k (on (word word.Match) s d ∷ on (symbol symbol.OpenParen) o d ∷ ts) t
match_end d s o c b e k ts us t x (a, u, y, (as_, w, m, (z, r, next, l))) = (_, r, grammar.match x y m, l)

match_arms : (d : ℕ) (s o c : Span) (e : Part ExprTree) (k : Part ExprTree → State) (ts us : List Placed) (t : List DeclTree)
    → Expr (suc d) ts e (on (symbol symbol.CloseParen) c d ∷ us)
    → Leads (want_symbol symbol.OpenBrace refl d (λ b. want_expr_arms (suc d) (λ as_. want_symbol symbol.CloseBrace refl d (λ x. k (built (join s x) (ExprForm.match (tree_of e) (expr_arms as_))))))) us t
    → Through (Prim d) k (on (word word.Match) s d ∷ on (symbol symbol.OpenParen) o d ∷ ts) t
match_arms d s o c e k ts us t x (b, r, next, l) =
    match_end d s o c b e k ts r t x (arm_back (suc d) (λ a. more_expr_arms (suc d) (a ∷ []) (λ as_. want_symbol symbol.CloseBrace refl d (λ x. k (built (join s x) (ExprForm.match (tree_of e) (expr_arms as_)))))) r t l)

match_of : (d : ℕ) (s : Span) (k : Part ExprTree → State) (ts : List Placed) (t : List DeclTree) → Leads (want_match d s k) ts t → Through (Prim d) k (on (word word.Match) s d ∷ ts) t
match_of d s k ts t (o, r, next, l) =
    let arms : Part ExprTree → State = λ e. want_symbol symbol.OpenBrace refl d (λ b. want_expr_arms (suc d) (λ as_. want_symbol symbol.CloseBrace refl d (λ x. k (built (join s x) (ExprForm.match (tree_of e) (expr_arms as_)))))) in
    let (e, c, u, x, a) = closed_back d (λ e c. arms e) r t l in
    match_arms d s o c e k r u t x a

prim_word_back : (d : ℕ) (k : Part ExprTree → State) (w : Word) (v : Span) → Back (Through (Prim d) k) (word w) v (prim_word d k w v)
prim_word_back d k word.True v = λ ts t l. (_, ts, grammar.true_, l)
prim_word_back d k word.False v = λ ts t l. (_, ts, grammar.false_, l)
prim_word_back d k word.None v = λ ts t l. (_, ts, grammar.none_, l)
prim_word_back d k word.Some v = some_of d v k
prim_word_back d k word.Unreturned v = λ ts t l. (_, ts, grammar.unreturned, l)
prim_word_back d k word.Tx v = λ ts t l. (_, ts, grammar.tx, l)
prim_word_back d k word.Visible v = call_of d word.Visible _ v k grammar.visible
prim_word_back d k word.Before v = call_of d word.Before _ v k grammar.before
prim_word_back d k word.Same v = call_of d word.Same _ v k grammar.same
prim_word_back d k word.Op v = call_of d word.Op _ v k grammar.op
prim_word_back d k word.Origin v = call_of d word.Origin _ v k grammar.origin
prim_word_back d k word.Info v = call_of d word.Info _ v k grammar.info
prim_word_back d k word.Result v = call_of d word.Result _ v k grammar.result_
prim_word_back d k word.Match v = match_of d v k
prim_word_back d k _ v = tt

negative_of : (d : ℕ) (s : Span) (k : Part ExprTree → State) (ts : List Placed) (t : List DeclTree) → Leads (want_int d (λ i v. k (built (join s v) (ExprForm.int (neg_ℤ (pos i)))))) ts t → Through (Prim d) k (on (symbol symbol.Minus) s d ∷ ts) t
negative_of d s k ts t (i, v, r, next_int, l) = (_, r, grammar.negative, l)

prim_symbol_back : (d : ℕ) (k : Part ExprTree → State) (m : Symbol) (v : Span) → Back (Through (Prim d) k) (symbol m) v (prim_symbol d k m v)
prim_symbol_back d k symbol.Minus v = negative_of d v k
prim_symbol_back d k symbol.OpenParen v = λ ts t l. let (e, c, r, x, a) = closed_back d (λ e c. k (in_parens v c e)) ts t l in (_, r, grammar.parens x, a)
prim_symbol_back d k _ v = tt

access_of : (d : ℕ) (n : List ℕ) (v : Span) (k : Part ExprTree → State) (ts : List Placed) (t : List DeclTree) → Leads (in_access d (ident n v) [] v (λ a. k (access_part a))) ts t → Through (Prim d) k (on (name n) v d ∷ ts) t
access_of d n v k ts t (a, r, accessed x y, l) = (_, r, grammar.access (grammar.rooted x y), l)

pub prim_back : (d : ℕ) (k : Part ExprTree → State) (x : Terminal) (v : Span) → Back (Through (Prim d) k) x v (prim_step d k x v)
prim_back d k (name n) v = access_of d n v k
prim_back d k (word w) v = prim_word_back d k w v
prim_back d k (int i) v = λ ts t l. (_, ts, grammar.number, l)
prim_back d k (str bytes) v = λ ts t l. (_, ts, grammar.text, l)
prim_back d k (symbol m) v = prim_symbol_back d k m v
prim_back d k end v = tt

-- operands

cmp_of : (d : ℕ) (k : Part ExprTree → State) (ts : List Placed) (t : List DeclTree) → Leads (want_prim d (λ a. more_sum d a (λ b. more_cmp d b k))) ts t → Through (Notx d) k ts t
cmp_of d k ts t (e, r, p, (f, u, s, (g, w, c, l))) = (g, w, grammar.comparison (grammar.cmp (grammar.sum p s) c), l)

cmp_back : (d : ℕ) (k : Part ExprTree → State) (x : Terminal) (v : Span) → Back (Through (Notx d) k) x v (cmp_step d k x v)
cmp_back d k x v =
    let first : Part ExprTree → State = λ a. more_sum d a (λ b. more_cmp d b k) in
    weaken (Through (Prim d) first) (Through (Notx d) k) x v (cmp_step d k x v) (cmp_of d k) (prim_back d first x v)

forall_of : (d : ℕ) (s : Span) (k : Part ExprTree → State) (ts : List Placed) (t : List DeclTree) → Leads (want_quant grammar.forall d s k) ts t → Through (Notx d) k (on (word word.Forall) s d ∷ ts) t
forall_of d s k ts t (ident n v, r, next_name, l) = let (e, u, y, (h, a)) = bound_back grammar.forall (suc d) s (ident n v) (λ e. stopping (k e)) r t l in (e, u, grammar.quantifier (grammar.for_all y h), a)

exists_of : (d : ℕ) (s : Span) (k : Part ExprTree → State) (ts : List Placed) (t : List DeclTree) → Leads (want_quant grammar.exists d s k) ts t → Through (Notx d) k (on (word word.Exists) s d ∷ ts) t
exists_of d s k ts t (ident n v, r, next_name, l) = let (e, u, y, (h, a)) = bound_back grammar.exists (suc d) s (ident n v) (λ e. stopping (k e)) r t l in (e, u, grammar.quantifier (grammar.for_some y h), a)

operand_word_back : (d : ℕ) (k : Part ExprTree → State) (w : Word) (v : Span) → Back (Through (Notx d) k) (word w) v (operand_word d k w v)
operand_word_back d k word.Forall v = forall_of d v k
operand_word_back d k word.Exists v = exists_of d v k
operand_word_back d k w v = cmp_back d k (word w) v

operand_symbol_back : (d : ℕ) (k : Part ExprTree → State) (m : Symbol) (v : Span) → Back (Through (Notx d) k) (symbol m) v (operand_symbol d k m v)
operand_symbol_back d k symbol.Not v = λ ts t (e, r, x, l). (_, r, grammar.negated x, l)
operand_symbol_back d k m v = cmp_back d k (symbol m) v

pub operand_back : (d : ℕ) (k : Part ExprTree → State) (x : Terminal) (v : Span) → Back (Through (Notx d) k) x v (operand_step d k x v)
operand_back d k (word w) v = operand_word_back d k w v
operand_back d k (symbol m) v = operand_symbol_back d k m v
operand_back d k x v = cmp_back d k x v

-- an expression that begins with a name
pub in_expr_back : (d : ℕ) (n : List ℕ) (v : Span) (k : Part ExprTree → State) (ts : List Placed) (t : List DeclTree) → Leads (in_expr d (ident n v) k) ts t → Through (Expr d) k (on (name n) v d ∷ ts) t
in_expr_back d n v k ts t (a, r1, accessed x y, (b, r2, s, (c, r3, m, (fs, r4, p, (gs, r5, q, (e, r6, i, l)))))) =
    (e, r6, grammar.expr (grammar.or (grammar.and (grammar.comparison (grammar.cmp (grammar.sum (grammar.access (grammar.rooted x y)) s) m)) p) q) i, l)
