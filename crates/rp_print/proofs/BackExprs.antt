-- The printed terminals of an expression are those of a phrase that spells the same, spans aside.
use Rattle.std.proofs.Common.{◌≡◌, ℕ, suc, pos, negsuc, Bool, true, false, ◌||◌, IsTrue, if◌then◌else◌, List, [], ◌∷◌, map, refl, sym, subst}
use Rattle.std.specs.Str.{bytes_eq}
use Rattle.std.proofs.lemmas.Slice.Eq.{bytes_eq-Decides}
use Rattle.rp_span.specs.declared.Span.{Span}
use Rattle.rp_print.specs.declared.Place.TheVariants as place
use Rattle.rp_grammar.specs.declared.operator.CompareOp.{CompareOp}
use Rattle.rp_grammar.specs.declared.operator.CompareOp.TheVariants as compare
use Rattle.rp_grammar.specs.declared.operator.CallWord.{CallWord}
use Rattle.rp_grammar.specs.declared.operator.CallWord.TheVariants as called
use Rattle.rp_grammar.specs.declared.terminal.Word.{Word}
use Rattle.rp_grammar.specs.declared.terminal.Word.TheVariants as word
use Rattle.rp_grammar.specs.declared.terminal.Symbol.TheVariants as symbol
use Rattle.rp_grammar.specs.Spelling.{spelling}
use Rattle.rp_grammar.specs.Terminals.{Terminal, name, word, int, str, symbol, Placed}
use Rattle.rp_grammar.specs.Trees.{Ident, ident, TypeTree, ParamTree, PatternTree, ExprTree, ExprForm, ExprTrees, exprs, ExprArmTree, ExprArmTrees, expr_arms, AccessTree, StepTree, StepTrees, steps, ArgTrees}
use Rattle.rp_grammar.specs.Parts.{Part, tree_of, trees_of}
use Rattle.rp_grammar.specs.Exprs.{ConName, MoreNames, Pattern, Compares, Calls, and_part, or_part, stops, Expr, ImpliesMore, Orx, OrMore, Andx, AndMore, Notx, Quant, Bound, Cmp, CmpMore, Sum, SumMore, Prim, Exprs, MoreExprs, ExprArm, MoreExprArms, Access, Steps, Step, AccessArgs}
use Rattle.rp_print.specs.Printed.{con_terminal, name_terminal, pattern_terminals, compare_symbol, call_word, is_composite, is_negative, enclosed, behind, expr_terminals, form_terminals, exprs_terminals, arm_terminals, arms_terminals, access_terminals, step_terminals, steps_terminals}
use Rattle.rp_print.specs.Alike.{IdentsAlike, AllAlike, PatternsAlike, ExprsAlike, ChainsAlike, ArmAlike, ArmsAlike, AccessesAlike, StepAlike, StepsAlike}
use Rattle.rp_grammar.proofs.Formed.{FormedExpr, FormedForm, FormedExprs, FormedArm, FormedArms, FormedAccess, FormedStep, FormedSteps}
use Rattle.rp_print.proofs.Spells.{Key, key, Then, then_, Empty, empty, Spells, one, none, turned, both, keyed}
use Rattle.rp_print.proofs.BackTypes.{TypeAs, type_back, Enclosed, enclosed_in, Braced, braced}

-- # Patterns

abbrev pub PatternAs : ℕ → PatternTree → List Placed → List Placed → Type 0
PatternAs d p ms r = (q : PatternTree) × Pattern d ms q r × PatternsAlike p q

abbrev NamesAs : ℕ → List Ident → List Placed → List Placed → Type 0
NamesAs d vs ms r = (ws : List Ident) × MoreNames d ms ws r × AllAlike IdentsAlike vs ws

con_case : (b : Bool) (w : Word) (n : List ℕ) (k : Terminal) → (b ≡ true → n ≡ spelling w) → ConName (word w) (spelling w) → ConName k n → ConName (if b then word w else k) n
con_case true w n k e x y = subst (λ m. ConName (word w) m) (sym (e refl)) x
con_case false w n k e x y = y

pub con_name : (n : List ℕ) (s : Span) → ConName (con_terminal (ident n s)) n
con_name n s =
    con_case (bytes_eq n (spelling word.None)) word.None n _ (λ h. (bytes_eq-Decides n (spelling word.None)).0 h) ConName.none
    (con_case (bytes_eq n (spelling word.Some)) word.Some n _ (λ h. (bytes_eq-Decides n (spelling word.Some)).0 h) ConName.some
    (con_case (bytes_eq n (spelling word.True)) word.True n _ (λ h. (bytes_eq-Decides n (spelling word.True)).0 h) ConName.yes
    (con_case (bytes_eq n (spelling word.False)) word.False n _ (λ h. (bytes_eq-Decides n (spelling word.False)).0 h) ConName.no
    ConName.named)))

no_names_ : (d : ℕ) (ms r : List Placed) → Empty ms r → NamesAs d [] ms r
no_names_ d ms r empty = ([], MoreNames.no_name, tt)

more_names_ : (i : Span) (d : ℕ) (n : List ℕ) (vs : List Ident) (ms r : List Placed) → Then (Key (symbol symbol.Comma) d) (Then (Key (name n) d) (NamesAs d vs)) ms r → NamesAs d (ident n i ∷ vs) ms r
more_names_ i d n vs ms r (then_ key (then_ key x)) = (_, MoreNames.more_names x.1, (refl, x.2))

names_back : (d : ℕ) (vs : List Ident) → Spells (NamesAs d vs) (behind symbol.Comma (map (λ n. name_terminal n ∷ []) vs))
names_back d [] = turned (no_names_ d) none
names_back d (ident n i ∷ vs) = turned (more_names_ i d n vs) (keyed (symbol symbol.Comma) d (keyed (name n) d (names_back d vs)))

bare_ : (i : Span) (d : ℕ) (n : List ℕ) (ms r : List Placed) → Then (Key (con_terminal (ident n i)) d) Empty ms r → PatternAs d (PatternTree.pattern (ident n i) []) ms r
bare_ i d n ms r (then_ key empty) = (_, Pattern.bare (con_name n i), (refl, tt))

binding_ : (i j : Span) (d : ℕ) (n v : List ℕ) (vs : List Ident) (ms r : List Placed)
    → Then (Key (con_terminal (ident n i)) d) (Enclosed d (Then (Key (name v) (suc d)) (NamesAs (suc d) vs))) ms r
    → PatternAs d (PatternTree.pattern (ident n i) (ident v j ∷ vs)) ms r
binding_ i j d n v vs ms r (then_ key (then_ key (then_ (then_ key x) key))) = (_, Pattern.binding (con_name n i) x.1, (refl, (refl, x.2)))

pub pattern_back : (d : ℕ) (p : PatternTree) → Spells (PatternAs d p) (pattern_terminals p)
pattern_back d (PatternTree.pattern (ident n i) []) = turned (bare_ i d n) (keyed (con_terminal (ident n i)) d none)
pattern_back d (PatternTree.pattern (ident n i) (ident v j ∷ vs)) = turned (binding_ i j d n v vs) (keyed (con_terminal (ident n i)) d (enclosed_in d (keyed (name v) (suc d) (names_back (suc d) vs))))

-- # What an expression is, as a whole and as an operand

-- where the tokens behind it don't go on with it
abbrev pub Whole : ℕ → ExprTree → List Placed → List Placed → Type 0
Whole d e ms r = IsTrue (stops r) → (f : Part ExprTree) × Expr d ms f r × ExprsAlike e (tree_of f)

abbrev PrimAs : ℕ → ExprTree → List Placed → List Placed → Type 0
PrimAs d e ms r = (f : Part ExprTree) × Prim d ms f r × ExprsAlike e (tree_of f)

-- a composite expression is a whole, another one is an operand
abbrev Best : Bool → ℕ → ExprTree → List Placed → List Placed → Type 0
Best true d e ms r = Whole d e ms r
Best false d e ms r = PrimAs d e ms r

notx_of : {d : ℕ} {ms r : List Placed} {f : Part ExprTree} → Prim d ms f r → Notx d ms f r
notx_of x = Notx.comparison (Cmp.cmp (Sum.sum x SumMore.no_sum) CmpMore.no_cmp)

orx_of : {d : ℕ} {ms r : List Placed} {f : Part ExprTree} → Notx d ms f r → Orx d ms (or_part (and_part f []) []) r
orx_of x = Orx.or (Andx.and x AndMore.no_and) OrMore.no_or

expr_of : {d : ℕ} {ms r : List Placed} {f : Part ExprTree} → Notx d ms f r → Expr d ms (or_part (and_part f []) []) r
expr_of x = Expr.expr (orx_of x) ImpliesMore.no_right

whole_of : (d : ℕ) (e : ExprTree) (ms r : List Placed) → PrimAs d e ms r → Whole d e ms r
whole_of d e ms r x st = (_, expr_of (notx_of x.1), x.2)

best_whole : (c : Bool) (d : ℕ) (e : ExprTree) (ms r : List Placed) → Best c d e ms r → Whole d e ms r
best_whole true d e ms r x = x
best_whole false d e ms r x = whole_of d e ms r x

parens_ : (d : ℕ) (e : ExprTree) (ms r : List Placed) → Enclosed d (Whole (suc d) e) ms r → PrimAs d e ms r
parens_ d e ms r (then_ key (then_ x key)) = let y = x refl in (_, Prim.parens y.1, y.2)

operand_of : {ts : List Terminal} (c n : Bool) (d : ℕ) (e : ExprTree) → Spells (Best c (suc d) e) ts → Spells (Best c d e) ts → Spells (PrimAs d e) (enclosed (c || n) ts)
operand_of true n d e w p = turned (parens_ d e) (enclosed_in d w)
operand_of false true d e w p = turned (parens_ d e) (enclosed_in d (turned (whole_of (suc d) e) w))
operand_of false false d e w p = p

argument_of : {ts : List Terminal} (c : Bool) (d : ℕ) (e : ExprTree) → Spells (Best c (suc d) e) ts → Spells (Best c d e) ts → Spells (Whole d e) (enclosed c ts)
argument_of true d e w p = turned (whole_of d e) (turned (parens_ d e) (enclosed_in d w))
argument_of false d e w p = turned (whole_of d e) p

-- # Forms

implies_ : (s : Span) (d : ℕ) (a b : ExprTree) (ms r : List Placed) → Then (PrimAs d a) (Then (Key (symbol symbol.Implies) d) (PrimAs (suc d) b)) ms r → Whole d (ExprTree.node s (ExprForm.implies a b)) ms r
implies_ s d a b ms r (then_ x (then_ key y)) st = (_, Expr.expr (orx_of (notx_of x.1)) (ImpliesMore.right (expr_of (notx_of y.1))), (x.2, y.2))

abbrev OrRest : ℕ → ExprTrees → List Placed → List Placed → Type 0
OrRest d es ms r = (fs : List (Part ExprTree)) × OrMore d ms fs r × ChainsAlike es (exprs (trees_of fs))

abbrev AndRest : ℕ → ExprTrees → List Placed → List Placed → Type 0
AndRest d es ms r = (fs : List (Part ExprTree)) × AndMore d ms fs r × ChainsAlike es (exprs (trees_of fs))

no_or_ : (d : ℕ) (ms r : List Placed) → Empty ms r → OrRest d ExprTrees.no_exprs ms r
no_or_ d ms r empty = ([], OrMore.no_or, tt)

no_and_ : (d : ℕ) (ms r : List Placed) → Empty ms r → AndRest d ExprTrees.no_exprs ms r
no_and_ d ms r empty = ([], AndMore.no_and, tt)

or_more_ : (d : ℕ) (e : ExprTree) (es : ExprTrees) (ms r : List Placed) → Then (Key (symbol symbol.Or) d) (Then (PrimAs d e) (OrRest d es)) ms r → OrRest d (ExprTrees.more_exprs e es) ms r
or_more_ d e es ms r (then_ key (then_ x y)) = (_, OrMore.or_more (Andx.and (notx_of x.1) AndMore.no_and) y.1, (x.2, y.2))

and_more_ : (d : ℕ) (e : ExprTree) (es : ExprTrees) (ms r : List Placed) → Then (Key (symbol symbol.And) d) (Then (PrimAs d e) (AndRest d es)) ms r → AndRest d (ExprTrees.more_exprs e es) ms r
and_more_ d e es ms r (then_ key (then_ x y)) = (_, AndMore.and_more (notx_of x.1) y.1, (x.2, y.2))

or_found : (s : Span) (d : ℕ) (e f : ExprTree) (es : ExprTrees) (ms m r : List Placed) (g : Part ExprTree) (fs : List (Part ExprTree))
    → Prim d ms g m → OrMore d m fs r → ExprsAlike e (tree_of g) → ChainsAlike (ExprTrees.more_exprs f es) (exprs (trees_of fs))
    → Whole d (ExprTree.node s (ExprForm.or (ExprTrees.more_exprs e (ExprTrees.more_exprs f es)))) ms r
or_found s d e f es ms m r g [] x y a b st = absurd b
or_found s d e f es ms m r g (k ∷ ks) x y a b st = (_, Expr.expr (Orx.or (Andx.and (notx_of x) AndMore.no_and) y) ImpliesMore.no_right, (a, b))

or_ : (s : Span) (d : ℕ) (e f : ExprTree) (es : ExprTrees) (ms r : List Placed) → Then (PrimAs d e) (OrRest d (ExprTrees.more_exprs f es)) ms r → Whole d (ExprTree.node s (ExprForm.or (ExprTrees.more_exprs e (ExprTrees.more_exprs f es)))) ms r
or_ s d e f es ms r (then_ x y) = or_found s d e f es ms _ r x.0 y.0 x.1 y.1 x.2 y.2

and_found : (s : Span) (d : ℕ) (e f : ExprTree) (es : ExprTrees) (ms m r : List Placed) (g : Part ExprTree) (fs : List (Part ExprTree))
    → Prim d ms g m → AndMore d m fs r → ExprsAlike e (tree_of g) → ChainsAlike (ExprTrees.more_exprs f es) (exprs (trees_of fs))
    → Whole d (ExprTree.node s (ExprForm.and (ExprTrees.more_exprs e (ExprTrees.more_exprs f es)))) ms r
and_found s d e f es ms m r g [] x y a b st = absurd b
and_found s d e f es ms m r g (k ∷ ks) x y a b st = (_, Expr.expr (Orx.or (Andx.and (notx_of x) y) OrMore.no_or) ImpliesMore.no_right, (a, b))

and_ : (s : Span) (d : ℕ) (e f : ExprTree) (es : ExprTrees) (ms r : List Placed) → Then (PrimAs d e) (AndRest d (ExprTrees.more_exprs f es)) ms r → Whole d (ExprTree.node s (ExprForm.and (ExprTrees.more_exprs e (ExprTrees.more_exprs f es)))) ms r
and_ s d e f es ms r (then_ x y) = and_found s d e f es ms _ r x.0 y.0 x.1 y.1 x.2 y.2

not_ : (s : Span) (d : ℕ) (e : ExprTree) (ms r : List Placed) → Then (Key (symbol symbol.Not) d) (PrimAs (suc d) e) ms r → Whole d (ExprTree.node s (ExprForm.not e)) ms r
not_ s d e ms r (then_ key x) st = (_, expr_of (Notx.negated (notx_of x.1)), x.2)

-- a quantifier behind its word
abbrev Variable : ℕ → List ℕ → TypeTree → ExprTree → List Placed → List Placed → Type 0
Variable d n t e = Then (Key (name n) d) (Then (Key (symbol symbol.Colon) d) (Then (TypeAs d t) (Then (Key (symbol symbol.DoubleColon) d) (Whole d e))))

forall_ : (s i : Span) (d : ℕ) (n : List ℕ) (t : TypeTree) (e : ExprTree) (ms r : List Placed) → Then (Key (word word.Forall) d) (Variable (suc d) n t e) ms r → Whole d (ExprTree.node s (ExprForm.forall (ParamTree.param (ident n i) t) e)) ms r
forall_ s i d n t e ms r (then_ key (then_ key (then_ key (then_ x (then_ key y))))) st =
    let z = y st in (_, expr_of (Notx.quantifier (Quant.for_all (Bound.last_variable x.1 z.1) st)), ((refl, x.2), z.2))

exists_ : (s i : Span) (d : ℕ) (n : List ℕ) (t : TypeTree) (e : ExprTree) (ms r : List Placed) → Then (Key (word word.Exists) d) (Variable (suc d) n t e) ms r → Whole d (ExprTree.node s (ExprForm.exists (ParamTree.param (ident n i) t) e)) ms r
exists_ s i d n t e ms r (then_ key (then_ key (then_ key (then_ x (then_ key y))))) st =
    let z = y st in (_, expr_of (Notx.quantifier (Quant.for_some (Bound.last_variable x.1 z.1) st)), ((refl, x.2), z.2))

compares : (c : CompareOp) → Compares (compare_symbol c) c
compares compare.Equal = Compares.equal
compares compare.NotEqual = Compares.not_equal
compares compare.Less = Compares.less
compares compare.AtMost = Compares.at_most
compares compare.Greater = Compares.greater
compares compare.AtLeast = Compares.at_least

compare_ : (s : Span) (d : ℕ) (c : CompareOp) (a b : ExprTree) (ms r : List Placed) → Then (PrimAs d a) (Then (Key (symbol (compare_symbol c)) d) (PrimAs d b)) ms r → Whole d (ExprTree.node s (ExprForm.compare c a b)) ms r
compare_ s d c a b ms r (then_ x (then_ key y)) st =
    (_, expr_of (Notx.comparison (Cmp.cmp (Sum.sum x.1 SumMore.no_sum) (CmpMore.compared (compares c) (Sum.sum y.1 SumMore.no_sum)))), (refl, x.2, y.2))

plus_ : (s : Span) (d : ℕ) (a b : ExprTree) (ms r : List Placed) → Then (PrimAs d a) (Then (Key (symbol symbol.Plus) d) (PrimAs (suc d) b)) ms r → Whole d (ExprTree.node s (ExprForm.plus a b)) ms r
plus_ s d a b ms r (then_ x (then_ key y)) st = (_, expr_of (Notx.comparison (Cmp.cmp (Sum.sum x.1 (SumMore.plus y.1 SumMore.no_sum)) CmpMore.no_cmp)), (x.2, y.2))

minus_ : (s : Span) (d : ℕ) (a b : ExprTree) (ms r : List Placed) → Then (PrimAs d a) (Then (Key (symbol symbol.Minus) d) (PrimAs (suc d) b)) ms r → Whole d (ExprTree.node s (ExprForm.minus a b)) ms r
minus_ s d a b ms r (then_ x (then_ key y)) st = (_, expr_of (Notx.comparison (Cmp.cmp (Sum.sum x.1 (SumMore.minus y.1 SumMore.no_sum)) CmpMore.no_cmp)), (x.2, y.2))

number_ : (s : Span) (d n : ℕ) (ms r : List Placed) → Key (int n) d ms r → PrimAs d (ExprTree.node s (ExprForm.int (pos n))) ms r
number_ s d n ms r key = (_, Prim.number, refl)

negative_ : (s : Span) (d n : ℕ) (ms r : List Placed) → Then (Key (symbol symbol.Minus) d) (Key (int (suc n)) d) ms r → PrimAs d (ExprTree.node s (ExprForm.int (negsuc n))) ms r
negative_ s d n ms r (then_ key key) = (_, Prim.negative, refl)

str_ : (s : Span) (d : ℕ) (bytes : List ℕ) (ms r : List Placed) → Key (str bytes) d ms r → PrimAs d (ExprTree.node s (ExprForm.str bytes)) ms r
str_ s d bytes ms r key = (_, Prim.text, refl)

true_ : (s : Span) (d : ℕ) (ms r : List Placed) → Key (word word.True) d ms r → PrimAs d (ExprTree.node s (ExprForm.truth true)) ms r
true_ s d ms r key = (_, Prim.true_, refl)

false_ : (s : Span) (d : ℕ) (ms r : List Placed) → Key (word word.False) d ms r → PrimAs d (ExprTree.node s (ExprForm.truth false)) ms r
false_ s d ms r key = (_, Prim.false_, refl)

none_ : (s : Span) (d : ℕ) (ms r : List Placed) → Key (word word.None) d ms r → PrimAs d (ExprTree.node s ExprForm.none_word) ms r
none_ s d ms r key = (_, Prim.none_, tt)

some_ : (s : Span) (d : ℕ) (e : ExprTree) (ms r : List Placed) → Then (Key (word word.Some) d) (Enclosed d (Whole (suc d) e)) ms r → PrimAs d (ExprTree.node s (ExprForm.some_of e)) ms r
some_ s d e ms r (then_ key (then_ key (then_ x key))) = let y = x refl in (_, Prim.some_ y.1, y.2)

unreturned_ : (s : Span) (d : ℕ) (ms r : List Placed) → Key (word word.Unreturned) d ms r → PrimAs d (ExprTree.node s ExprForm.unreturned) ms r
unreturned_ s d ms r key = (_, Prim.unreturned, tt)

tx_ : (s : Span) (d : ℕ) (ms r : List Placed) → Key (word word.Tx) d ms r → PrimAs d (ExprTree.node s ExprForm.tx) ms r
tx_ s d ms r key = (_, Prim.tx, tt)

-- # Lists of expressions

-- the tokens begin with none that goes on with an expression, where those behind them don't
abbrev ExprsRest : ℕ → ExprTrees → List Placed → List Placed → Type 0
ExprsRest d es ms r = IsTrue (stops r) → (fs : List ExprTree) × MoreExprs d ms fs r × ChainsAlike es (exprs fs) × IsTrue (stops ms)

no_exprs_ : (d : ℕ) (ms r : List Placed) → Empty ms r → ExprsRest d ExprTrees.no_exprs ms r
no_exprs_ d ms r empty st = ([], MoreExprs.no_expr, tt, st)

more_exprs_ : (d : ℕ) (e : ExprTree) (es : ExprTrees) (ms r : List Placed) → Then (Key (symbol symbol.Comma) d) (Then (Whole d e) (ExprsRest d es)) ms r → ExprsRest d (ExprTrees.more_exprs e es) ms r
more_exprs_ d e es ms r (then_ key (then_ x y)) st = let z = y st in let w = x z.3 in (_, MoreExprs.more_exprs w.1 z.1, (w.2, z.2), refl)

abbrev SomeExprs : ℕ → ExprTree → ExprTrees → List Placed → List Placed → Type 0
SomeExprs d e es ms r = IsTrue (stops r) → (fs : List ExprTree) × Exprs d ms fs r × ChainsAlike (ExprTrees.more_exprs e es) (exprs fs)

some_exprs_ : (d : ℕ) (e : ExprTree) (es : ExprTrees) (ms r : List Placed) → Then (Whole d e) (ExprsRest d es) ms r → SomeExprs d e es ms r
some_exprs_ d e es ms r (then_ x y) st = let z = y st in let w = x z.3 in (_, Exprs.some_exprs w.1 z.1, (w.2, z.2))

calls : (w : CallWord) → Calls (call_word w) w
calls called.Visible = Calls.visible
calls called.Before = Calls.before
calls called.Same = Calls.same
calls called.Op = Calls.op
calls called.Origin = Calls.origin
calls called.Info = Calls.info
calls called.Result = Calls.result_

call_ : (s : Span) (d : ℕ) (w : CallWord) (e : ExprTree) (es : ExprTrees) (ms r : List Placed) → Then (Key (word (call_word w)) d) (Enclosed d (SomeExprs (suc d) e es)) ms r → PrimAs d (ExprTree.node s (ExprForm.call w (ExprTrees.more_exprs e es))) ms r
call_ s d w e es ms r (then_ key (then_ key (then_ x key))) = let y = x refl in (_, Prim.call (calls w) y.1, (refl, y.2))

-- # Arms

abbrev ArmAs : ℕ → ExprArmTree → List Placed → List Placed → Type 0
ArmAs d a ms r = IsTrue (stops r) → (b : ExprArmTree) × ExprArm d ms b r × ArmAlike a b

abbrev ArmsRest : ℕ → ExprArmTrees → List Placed → List Placed → Type 0
ArmsRest d as_ ms r = IsTrue (stops r) → (bs : List ExprArmTree) × MoreExprArms d ms bs r × ArmsAlike as_ (expr_arms bs) × IsTrue (stops ms)

arm_ : (d : ℕ) (p : PatternTree) (e : ExprTree) (ms r : List Placed) → Then (PatternAs d p) (Then (Key (symbol symbol.Arrow) d) (Whole d e)) ms r → ArmAs d (ExprArmTree.arm p e) ms r
arm_ d p e ms r (then_ x (then_ key y)) st = let z = y st in (_, ExprArm.arm x.1 z.1, (x.2, z.2))

no_arms_ : (d : ℕ) (ms r : List Placed) → Empty ms r → ArmsRest d ExprArmTrees.no_expr_arms ms r
no_arms_ d ms r empty st = ([], MoreExprArms.no_arm, tt, st)

more_arms_ : (d : ℕ) (a : ExprArmTree) (as_ : ExprArmTrees) (ms r : List Placed) → Then (Key (symbol symbol.Comma) d) (Then (ArmAs d a) (ArmsRest d as_)) ms r → ArmsRest d (ExprArmTrees.more_expr_arms a as_) ms r
more_arms_ d a as_ ms r (then_ key (then_ x y)) st = let z = y st in let w = x z.3 in (_, MoreExprArms.more_arms w.1 z.1, (w.2, z.2), refl)

match_ : (s : Span) (d : ℕ) (e : ExprTree) (a : ExprArmTree) (as_ : ExprArmTrees) (ms r : List Placed)
    → Then (Key (word word.Match) d) (Then (Enclosed d (Whole (suc d) e)) (Braced d (Then (ArmAs (suc d) a) (ArmsRest (suc d) as_)))) ms r
    → PrimAs d (ExprTree.node s (ExprForm.match e (ExprArmTrees.more_expr_arms a as_))) ms r
match_ s d e a as_ ms r (then_ key (then_ (then_ key (then_ x key)) (then_ key (then_ (then_ y z) key)))) =
    let f = x refl in let bs = z refl in let b = y bs.3 in (_, Prim.match f.1 b.1 bs.1, (f.2, (b.2, bs.2)))

-- # Accesses

abbrev pub AccessAs : ℕ → AccessTree → List Placed → List Placed → Type 0
AccessAs d a ms r = (b : Part AccessTree) × Access d ms b r × AccessesAlike a (tree_of b)

abbrev StepAs : ℕ → StepTree → List Placed → List Placed → Type 0
StepAs d x ms r = (y : Part StepTree) × Step d ms y r × StepAlike x (tree_of y)

abbrev StepsAs : ℕ → StepTrees → List Placed → List Placed → Type 0
StepsAs d xs ms r = (ys : List (Part StepTree)) × Steps d ms ys r × StepsAlike xs (steps (trees_of ys))

dot_ : (i : Span) (d : ℕ) (n : List ℕ) (ms r : List Placed) → Then (Key (symbol symbol.Dot) d) (Key (name n) d) ms r → StepAs d (StepTree.dot (ident n i)) ms r
dot_ i d n ms r (then_ key key) = (_, Step.dot, refl)

returned_ : (i : Span) (d : ℕ) (ms r : List Placed) → Then (Key (symbol symbol.Dot) d) (Key (word word.Returned) d) ms r → StepAs d (StepTree.returned i) ms r
returned_ i d ms r (then_ key key) = (_, Step.returned, tt)

key_ : (d : ℕ) (e : ExprTree) (ms r : List Placed) → Then (Key (symbol symbol.OpenBracket) d) (Then (Whole (suc d) e) (Key (symbol symbol.CloseBracket) d)) ms r → StepAs d (StepTree.key e) ms r
key_ d e ms r (then_ key (then_ x key)) = let y = x refl in (_, Step.key y.1, y.2)

no_steps_ : (d : ℕ) (ms r : List Placed) → Empty ms r → StepsAs d StepTrees.no_steps ms r
no_steps_ d ms r empty = ([], Steps.no_step, tt)

more_steps_ : (d : ℕ) (x : StepTree) (xs : StepTrees) (ms r : List Placed) → Then (StepAs d x) (StepsAs d xs) ms r → StepsAs d (StepTrees.more_steps x xs) ms r
more_steps_ d x xs ms r (then_ y ys) = (_, Steps.more_steps y.1 ys.1, (y.2, ys.2))

absent_ : (i : Span) (d : ℕ) (n : List ℕ) (xs : StepTrees) (ms r : List Placed) → Then (Key (name n) d) (Then (StepsAs d xs) Empty) ms r → AccessAs d (AccessTree.path (ident n i) xs ArgTrees.absent) ms r
absent_ i d n xs ms r (then_ key (then_ x empty)) = (_, Access.rooted x.1 AccessArgs.not_called, (refl, x.2, tt))

no_args_ : (i : Span) (d : ℕ) (n : List ℕ) (xs : StepTrees) (ms r : List Placed) → Then (Key (name n) d) (Then (StepsAs d xs) (Enclosed d Empty)) ms r → AccessAs d (AccessTree.path (ident n i) xs (ArgTrees.given ExprTrees.no_exprs)) ms r
no_args_ i d n xs ms r (then_ key (then_ x (then_ key (then_ empty key)))) = (_, Access.rooted x.1 AccessArgs.no_args, (refl, x.2, tt))

args_ : (i : Span) (d : ℕ) (n : List ℕ) (xs : StepTrees) (e : ExprTree) (es : ExprTrees) (ms r : List Placed) → Then (Key (name n) d) (Then (StepsAs d xs) (Enclosed d (SomeExprs (suc d) e es))) ms r
    → AccessAs d (AccessTree.path (ident n i) xs (ArgTrees.given (ExprTrees.more_exprs e es))) ms r
args_ i d n xs e es ms r (then_ key (then_ x (then_ key (then_ y key)))) = let z = y refl in (_, Access.rooted x.1 (AccessArgs.some_args z.1), (refl, x.2, z.2))

access_ : (s : Span) (d : ℕ) (a : AccessTree) (ms r : List Placed) → AccessAs d a ms r → PrimAs d (ExprTree.node s (ExprForm.access a)) ms r
access_ s d a ms r x = (_, Prim.access x.1, x.2)

-- # All together

module _ (L : Terminal → Type 0) where
  mutual
    pub whole_back : (d : ℕ) (e : ExprTree) → FormedExpr L e → Spells (Whole d e) (expr_terminals place.Whole e)
    whole_back d (ExprTree.node s f) h = turned (best_whole (is_composite f) d (ExprTree.node s f)) (form_back d s f h)

    argument_back : (d : ℕ) (e : ExprTree) → FormedExpr L e → Spells (Whole d e) (expr_terminals place.Argument e)
    argument_back d (ExprTree.node s f) h = argument_of (is_composite f) d (ExprTree.node s f) (form_back (suc d) s f h) (form_back d s f h)

    operand_back : (d : ℕ) (e : ExprTree) → FormedExpr L e → Spells (PrimAs d e) (expr_terminals place.Operand e)
    operand_back d (ExprTree.node s f) h = operand_of (is_composite f) (is_negative f) d (ExprTree.node s f) (form_back (suc d) s f h) (form_back d s f h)

    form_back : (d : ℕ) (s : Span) (f : ExprForm) → FormedForm L f → Spells (Best (is_composite f) d (ExprTree.node s f)) (form_terminals f)
    form_back d s (ExprForm.implies a b) h = turned (implies_ s d a b) (both (operand_back d a h.0) (keyed (symbol symbol.Implies) d (operand_back (suc d) b h.1)))
    form_back d s (ExprForm.or ExprTrees.no_exprs) h = absurd h
    form_back d s (ExprForm.or (ExprTrees.more_exprs e ExprTrees.no_exprs)) h = absurd h.1
    form_back d s (ExprForm.or (ExprTrees.more_exprs e (ExprTrees.more_exprs f es))) h = turned (or_ s d e f es) (both (operand_back d e h.0) (or_back d (ExprTrees.more_exprs f es) h.1))
    form_back d s (ExprForm.and ExprTrees.no_exprs) h = absurd h
    form_back d s (ExprForm.and (ExprTrees.more_exprs e ExprTrees.no_exprs)) h = absurd h.1
    form_back d s (ExprForm.and (ExprTrees.more_exprs e (ExprTrees.more_exprs f es))) h = turned (and_ s d e f es) (both (operand_back d e h.0) (and_back d (ExprTrees.more_exprs f es) h.1))
    form_back d s (ExprForm.not e) h = turned (not_ s d e) (keyed (symbol symbol.Not) d (operand_back (suc d) e h))
    form_back d s (ExprForm.forall (ParamTree.param (ident n i) t) e) h = turned (forall_ s i d n t e) (keyed (word word.Forall) d (keyed (name n) (suc d) (keyed (symbol symbol.Colon) (suc d) (both (type_back (suc d) t) (keyed (symbol symbol.DoubleColon) (suc d) (whole_back (suc d) e h.1))))))
    form_back d s (ExprForm.exists (ParamTree.param (ident n i) t) e) h = turned (exists_ s i d n t e) (keyed (word word.Exists) d (keyed (name n) (suc d) (keyed (symbol symbol.Colon) (suc d) (both (type_back (suc d) t) (keyed (symbol symbol.DoubleColon) (suc d) (whole_back (suc d) e h.1))))))
    form_back d s (ExprForm.compare c a b) h = turned (compare_ s d c a b) (both (operand_back d a h.0) (keyed (symbol (compare_symbol c)) d (operand_back d b h.1)))
    form_back d s (ExprForm.plus a b) h = turned (plus_ s d a b) (both (operand_back d a h.0) (keyed (symbol symbol.Plus) d (operand_back (suc d) b h.1)))
    form_back d s (ExprForm.minus a b) h = turned (minus_ s d a b) (both (operand_back d a h.0) (keyed (symbol symbol.Minus) d (operand_back (suc d) b h.1)))
    form_back d s (ExprForm.int (pos n)) h = turned (number_ s d n) (one (int n) d)
    form_back d s (ExprForm.int (negsuc n)) h = turned (negative_ s d n) (keyed (symbol symbol.Minus) d (one (int (suc n)) d))
    form_back d s (ExprForm.str bytes) h = turned (str_ s d bytes) (one (str bytes) d)
    form_back d s (ExprForm.truth true) h = turned (true_ s d) (one (word word.True) d)
    form_back d s (ExprForm.truth false) h = turned (false_ s d) (one (word word.False) d)
    form_back d s ExprForm.none_word h = turned (none_ s d) (one (word word.None) d)
    form_back d s (ExprForm.some_of e) h = turned (some_ s d e) (keyed (word word.Some) d (enclosed_in d (argument_back (suc d) e h)))
    form_back d s ExprForm.unreturned h = turned (unreturned_ s d) (one (word word.Unreturned) d)
    form_back d s ExprForm.tx h = turned (tx_ s d) (one (word word.Tx) d)
    form_back d s (ExprForm.call w ExprTrees.no_exprs) h = absurd h
    form_back d s (ExprForm.call w (ExprTrees.more_exprs e es)) h = turned (call_ s d w e es) (keyed (word (call_word w)) d (enclosed_in d (turned (some_exprs_ (suc d) e es) (both (argument_back (suc d) e h.0) (rest_back (suc d) es h.1)))))
    form_back d s (ExprForm.match e ExprArmTrees.no_expr_arms) h = absurd h
    form_back d s (ExprForm.match e (ExprArmTrees.more_expr_arms a as_)) h = turned (match_ s d e a as_) (keyed (word word.Match) d (both (enclosed_in d (whole_back (suc d) e h.0)) (braced d (both (arm_back (suc d) a h.1) (arms_back (suc d) as_ h.2)))))
    form_back d s (ExprForm.access a) h = turned (access_ s d a) (access_back d a h)

    or_back : (d : ℕ) (es : ExprTrees) → FormedExprs L es → Spells (OrRest d es) (behind symbol.Or (exprs_terminals place.Operand es))
    or_back d ExprTrees.no_exprs h = turned (no_or_ d) none
    or_back d (ExprTrees.more_exprs e es) h = turned (or_more_ d e es) (keyed (symbol symbol.Or) d (both (operand_back d e h.0) (or_back d es h.1)))

    and_back : (d : ℕ) (es : ExprTrees) → FormedExprs L es → Spells (AndRest d es) (behind symbol.And (exprs_terminals place.Operand es))
    and_back d ExprTrees.no_exprs h = turned (no_and_ d) none
    and_back d (ExprTrees.more_exprs e es) h = turned (and_more_ d e es) (keyed (symbol symbol.And) d (both (operand_back d e h.0) (and_back d es h.1)))

    rest_back : (d : ℕ) (es : ExprTrees) → FormedExprs L es → Spells (ExprsRest d es) (behind symbol.Comma (exprs_terminals place.Argument es))
    rest_back d ExprTrees.no_exprs h = turned (no_exprs_ d) none
    rest_back d (ExprTrees.more_exprs e es) h = turned (more_exprs_ d e es) (keyed (symbol symbol.Comma) d (both (argument_back d e h.0) (rest_back d es h.1)))

    arm_back : (d : ℕ) (a : ExprArmTree) → FormedArm L a → Spells (ArmAs d a) (arm_terminals a)
    arm_back d (ExprArmTree.arm p e) h = turned (arm_ d p e) (both (pattern_back d p) (keyed (symbol symbol.Arrow) d (argument_back d e h.1)))

    arms_back : (d : ℕ) (as_ : ExprArmTrees) → FormedArms L as_ → Spells (ArmsRest d as_) (behind symbol.Comma (arms_terminals as_))
    arms_back d ExprArmTrees.no_expr_arms h = turned (no_arms_ d) none
    arms_back d (ExprArmTrees.more_expr_arms a as_) h = turned (more_arms_ d a as_) (keyed (symbol symbol.Comma) d (both (arm_back d a h.0) (arms_back d as_ h.1)))

    pub access_back : (d : ℕ) (a : AccessTree) → FormedAccess L a → Spells (AccessAs d a) (access_terminals a)
    access_back d (AccessTree.path (ident n i) xs ArgTrees.absent) h = turned (absent_ i d n xs) (keyed (name n) d (both (steps_back d xs h.1) none))
    access_back d (AccessTree.path (ident n i) xs (ArgTrees.given ExprTrees.no_exprs)) h = turned (no_args_ i d n xs) (keyed (name n) d (both (steps_back d xs h.1) (enclosed_in d none)))
    access_back d (AccessTree.path (ident n i) xs (ArgTrees.given (ExprTrees.more_exprs e es))) h = turned (args_ i d n xs e es) (keyed (name n) d (both (steps_back d xs h.1) (enclosed_in d (turned (some_exprs_ (suc d) e es) (both (argument_back (suc d) e h.2.0) (rest_back (suc d) es h.2.1))))))

    steps_back : (d : ℕ) (xs : StepTrees) → FormedSteps L xs → Spells (StepsAs d xs) (steps_terminals xs)
    steps_back d StepTrees.no_steps h = turned (no_steps_ d) none
    steps_back d (StepTrees.more_steps x xs) h = turned (more_steps_ d x xs) (both (step_back d x h.0) (steps_back d xs h.1))

    step_back : (d : ℕ) (x : StepTree) → FormedStep L x → Spells (StepAs d x) (step_terminals x)
    step_back d (StepTree.dot (ident n i)) h = turned (dot_ i d n) (keyed (symbol symbol.Dot) d (one (name n) d))
    step_back d (StepTree.returned i) h = turned (returned_ i d) (keyed (symbol symbol.Dot) d (one (word word.Returned) d))
    step_back d (StepTree.key e) h = turned (key_ d e) (keyed (symbol symbol.OpenBracket) d (both (argument_back (suc d) e h) (one (symbol symbol.CloseBracket) d)))
