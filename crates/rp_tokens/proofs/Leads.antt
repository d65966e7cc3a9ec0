-- What can come behind a state, by the grammar.
use Rattle.std.proofs.Common.{◌≡◌, ℕ, suc, Bool, true, false, not, cond, IsTrue, List, [], ◌∷◌, ◌++◌, ◌⊎◌, Option, Some, None, refl, sym, subst}
use Rattle.rp_span.specs.declared.Span.{Span}
use Rattle.rp_grammar.specs.declared.terminal.Word.{Word}
use Rattle.rp_grammar.specs.declared.terminal.Symbol.{Symbol}
use Rattle.rp_grammar.specs.declared.terminal.Symbol.TheVariants as symbol
use Rattle.rp_grammar.specs.Terminals.{Terminal, name, word, int, symbol, Placed, on}
use Rattle.rp_grammar.specs.Trees.{Ident, ident, TypeTree, ParamTree, CrdtTree, FieldTree, PatternTree, ExprTree, ExprArmTree, AccessTree, StepTree, StmtTree, BlockArmTree, ConTree, DeclTree}
use Rattle.rp_grammar.specs.Parts.{Part, trees_of, reach}
use Rattle.rp_grammar.specs.Types.{TypePhrase, MoreParams, Crdt, MoreFields}
use Rattle.rp_grammar.specs.Exprs.{MoreNames, Pattern, Quantifier, quantifier_part, and_part, or_part, goes_on, stops, Expr, ImpliesMore, OrMore, AndMore, Notx, Bound, CmpMore, SumMore, Prim, MoreExprs, MoreExprArms, Steps, AccessArgs}
use Rattle.rp_grammar.specs.Stmts.{Stmts, Else, BlockArms}
use Rattle.rp_grammar.specs.Decls.{MoreCons, Program}
use Rattle.rp_tokens.specs.MachineStates.{is_symbol, is_word, State, finished, want_symbol, want_name, want_int, if_symbol, if_word, if_name, want_type, more_params, want_crdt, more_fields, more_names, want_pattern, want_operand, want_prim, more_and, more_or, more_implies, more_cmp, more_sum, have_bound, stopping, more_exprs, more_expr_arms, in_access, in_stmts, more_if, in_block_arms, more_cons, in_decls, Move, to, or_else}
use Rattle.rp_tokens.proofs.Tests.{symbol_is, word_is}

-- the tokens begin with this terminal
pub data Next (x : Terminal) (d : ℕ) : List Placed → Span → List Placed → Type 0 where
  next : {s : Span} {r : List Placed} → Next x d (on x s d ∷ r) s r

pub data NextName (d : ℕ) : List Placed → Ident → List Placed → Type 0 where
  next_name : {n : List ℕ} {s : Span} {r : List Placed} → NextName d (on (name n) s d ∷ r) (ident n s) r

pub data NextInt (d : ℕ) : List Placed → ℕ → Span → List Placed → Type 0 where
  next_int : {i : ℕ} {s : Span} {r : List Placed} → NextInt d (on (int i) s d ∷ r) i s r

-- {"," NAME ":" type} "::" expr behind a variable's type
pub data BoundMore (q : Quantifier) (d : ℕ) (s : Span) (n : Ident) (t : TypeTree) : List Placed → Part ExprTree → List Placed → Type 0 where
  last_one : {b : Span} {us r : List Placed} {e : Part ExprTree} → Expr d us e r → BoundMore q d s n t (on (symbol symbol.DoubleColon) b d ∷ us) (quantifier_part q s n t e) r
  next_one : {b v : Span} {m : List ℕ} {us r : List Placed} {e : Part ExprTree} → Bound q (suc d) v (ident m v) us e r → BoundMore q d s n t (on (symbol symbol.Comma) b d ∷ on (name m) v d ∷ us) (quantifier_part q s n t e) r

-- the rest of an access behind its root and some steps
pub data AccessMore (d : ℕ) (n : Ident) (xs : List StepTree) (s : Span) : List Placed → Part AccessTree → List Placed → Type 0 where
  accessed : {ts r u : List Placed} {ys : List (Part StepTree)} {a : Part AccessTree} → Steps d ts ys r → AccessArgs d n (xs ++ trees_of ys) (reach s ys) r a u → AccessMore d n xs s ts a u

-- from this state, the tokens ts complete the program t
abbrev pub Leads : State → List Placed → List DeclTree → Type 0
Leads (finished xs) ts t = (ts ≡ []) × (t ≡ xs)
Leads (want_symbol m h d k) ts t = (c : Span) × (r : List Placed) × Next (symbol m) d ts c r × Leads (k c) r t
Leads (want_name d k) ts t = (n : Ident) × (r : List Placed) × NextName d ts n r × Leads (k n) r t
Leads (want_int d k) ts t = (i : ℕ) × (s : Span) × (r : List Placed) × NextInt d ts i s r × Leads (k i s) r t
Leads (if_symbol m d k other) ts t = ((c : Span) × (r : List Placed) × Next (symbol m) d ts c r × Leads (k c) r t) ⊎ Leads other ts t
Leads (if_word w d k other) ts t = ((c : Span) × (r : List Placed) × Next (word w) d ts c r × Leads (k c) r t) ⊎ Leads other ts t
Leads (if_name d k other) ts t = ((n : Ident) × (r : List Placed) × NextName d ts n r × Leads (k n) r t) ⊎ Leads other ts t
Leads (want_type d k) ts t = (x : TypeTree) × (r : List Placed) × TypePhrase d ts x r × Leads (k x) r t
Leads (more_params d ps k) ts t = (qs : List ParamTree) × (r : List Placed) × MoreParams d ts qs r × Leads (k (ps ++ qs)) r t
Leads (want_crdt d k) ts t = (x : CrdtTree) × (r : List Placed) × Crdt d ts x r × Leads (k x) r t
Leads (more_fields d xs k) ts t = (ys : List FieldTree) × (r : List Placed) × MoreFields d ts ys r × Leads (k (xs ++ ys)) r t
Leads (more_names d ns k) ts t = (ms : List Ident) × (r : List Placed) × MoreNames d ts ms r × Leads (k (ns ++ ms)) r t
Leads (want_pattern d k) ts t = (p : PatternTree) × (r : List Placed) × Pattern d ts p r × Leads (k p) r t
Leads (want_operand d k) ts t = (e : Part ExprTree) × (r : List Placed) × Notx d ts e r × Leads (k e) r t
Leads (want_prim d k) ts t = (e : Part ExprTree) × (r : List Placed) × Prim d ts e r × Leads (k e) r t
Leads (more_and d e es k) ts t = (fs : List (Part ExprTree)) × (r : List Placed) × AndMore d ts fs r × Leads (k (and_part e (es ++ fs))) r t
Leads (more_or d e es k) ts t = (fs : List (Part ExprTree)) × (r : List Placed) × OrMore d ts fs r × Leads (k (or_part e (es ++ fs))) r t
Leads (more_implies d a k) ts t = (e : Part ExprTree) × (r : List Placed) × ImpliesMore d a ts e r × Leads (k e) r t
Leads (more_cmp d a k) ts t = (e : Part ExprTree) × (r : List Placed) × CmpMore d a ts e r × Leads (k e) r t
Leads (more_sum d a k) ts t = (e : Part ExprTree) × (r : List Placed) × SumMore d a ts e r × Leads (k e) r t
Leads (have_bound q d s n x k) ts t = (e : Part ExprTree) × (r : List Placed) × BoundMore q d s n x ts e r × Leads (k e) r t
Leads (stopping other) ts t = IsTrue (stops ts) × Leads other ts t
Leads (more_exprs d es k) ts t = (fs : List ExprTree) × (r : List Placed) × MoreExprs d ts fs r × Leads (k (es ++ fs)) r t
Leads (more_expr_arms d as_ k) ts t = (bs : List ExprArmTree) × (r : List Placed) × MoreExprArms d ts bs r × Leads (k (as_ ++ bs)) r t
Leads (in_access d n xs s k) ts t = (a : Part AccessTree) × (r : List Placed) × AccessMore d n xs s ts a r × Leads (k a) r t
Leads (in_stmts d xs k) ts t = (ys : List StmtTree) × (r : List Placed) × Stmts d ts ys r × Leads (k (xs ++ ys)) r t
Leads (more_if d s e b k) ts t = (x : StmtTree) × (r : List Placed) × Else d s e b ts x r × Leads (k x) r t
Leads (in_block_arms d as_ k) ts t = (bs : List BlockArmTree) × (r : List Placed) × BlockArms d ts bs r × Leads (k (as_ ++ bs)) r t
Leads (more_cons cs k) ts t = (ds : List ConTree) × (r : List Placed) × MoreCons ts ds r × Leads (k (cs ++ ds)) r t
Leads (in_decls xs) ts t = (ys : List DeclTree) × Program ts ys × (t ≡ xs ++ ys)

-- a phrase, and behind it what leads on from the state that it leads to
abbrev pub Through : {X : Type 0} → (List Placed → X → List Placed → Type 0) → (X → State) → List Placed → List DeclTree → Type 0
Through {X} R k ts t = (x : X) × (r : List Placed) × R ts x r × Leads (k x) r t

-- what leads on behind the token leads on from before it
abbrev pub Back : (List Placed → List DeclTree → Type 0) → Terminal → Span → Option Move → Type 0
Back P x v None = Unit {0}
Back P x v (Some (to d s)) = (ts : List Placed) (t : List DeclTree) → Leads s ts t → P (on x v d ∷ ts) t

pub weaken : (P Q : List Placed → List DeclTree → Type 0) (x : Terminal) (v : Span) (o : Option Move) → ((ts : List Placed) (t : List DeclTree) → P ts t → Q ts t) → Back P x v o → Back Q x v o
weaken P Q x v None f b = tt
weaken P Q x v (Some (to d s)) f b = λ ts t l. f _ _ (b ts t l)

back_cond : (P : List Placed → List DeclTree → Type 0) (x : Terminal) (v : Span) (c : Bool) (a b : Option Move) → (c ≡ true → Back P x v a) → Back P x v b → Back P x v (cond c a b)
back_cond P x v true a b f g = f refl
back_cond P x v false a b f g = g

-- a step that goes by whether the token is this symbol
pub back_symbol : (P : List Placed → List DeclTree → Type 0) (m : Symbol) (x : Terminal) (v : Span) (a b : Option Move) → Back P (symbol m) v a → Back P x v b → Back P x v (cond (is_symbol m x) a b)
back_symbol P m x v a b f g = back_cond P x v (is_symbol m x) a b (λ e. subst (λ y. Back P y v a) (sym (symbol_is m x e)) f) g

pub back_word : (P : List Placed → List DeclTree → Type 0) (w : Word) (x : Terminal) (v : Span) (a b : Option Move) → Back P (word w) v a → Back P x v b → Back P x v (cond (is_word w x) a b)
back_word P w x v a b f g = back_cond P x v (is_word w x) a b (λ e. subst (λ y. Back P y v a) (sym (word_is w x e)) f) g

pub back_or : (P : List Placed → List DeclTree → Type 0) (x : Terminal) (v : Span) (a b : Option Move) → Back P x v a → Back P x v b → Back P x v (or_else a b)
back_or P x v None b f g = g
back_or P x v (Some m) b f g = f

-- a phrase and a symbol behind it
pub then_symbol : {X : Type 0} (R : List Placed → X → List Placed → Type 0) (m : Symbol) (h : IsTrue (not (goes_on (symbol m)))) (d : ℕ) (k : X → Span → State) (ts : List Placed) (t : List DeclTree)
    → Through R (λ x. want_symbol m h d (k x)) ts t
    → (x : X) × (c : Span) × (r : List Placed) × R ts x (on (symbol m) c d ∷ r) × Leads (k x c) r t
then_symbol R m h d k ts t (x, u, y, (c, r, next, l)) = (x, c, r, y, l)
