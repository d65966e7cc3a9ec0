-- The tree of tokens is formed as the trees of texts are, and its names, numbers and strings are those of the tokens.
use Rattle.std.proofs.Common.{ℕ, zero, suc, pos, List, [], ◌∷◌, Option}
use Rattle.std.specs.Prelude.{neg_ℤ}
use Rattle.rp_span.specs.declared.Span.{Span}
use Rattle.rp_grammar.specs.declared.operator.CallWord.{CallWord}
use Rattle.rp_grammar.specs.Terminals.{Terminal, name, word, int, str, symbol, end, Placed, on}
use Rattle.rp_grammar.specs.Trees.{Ident, ident, TypeTree, ParamTree, CrdtTree, FieldTree, fields, PatternTree, ExprTree, ExprForm, exprs, ExprArmTree, expr_arms, AccessTree, StepTree, steps, BlockTree, StmtTree, stmts, ElseTree, BlockArmTree, block_arms, ConTree, DeclTree}
use Rattle.rp_grammar.specs.Parts.{Part, tree_of, trees_of}
use Rattle.rp_grammar.specs.Types.{TypePhrase, Param, MoreParams, Params, ParamList, Crdt, Field, MoreFields}
use Rattle.rp_grammar.specs.Exprs.{ConName, MoreNames, Pattern, Quantifier, quantified, and_part, or_part, Expr, ImpliesMore, Orx, OrMore, Andx, AndMore, Notx, Quant, Bound, Cmp, CmpMore, Sum, SumMore, Prim, Exprs, MoreExprs, ExprArm, MoreExprArms, Access, Steps, Step, AccessArgs}
use Rattle.rp_grammar.specs.Stmts.{Block, Stmts, Stmt, IfStmt, Else, BlockArms}
use Rattle.rp_grammar.specs.Decls.{Con, MoreCons, ResultType, Decl, Program}
use Rattle.rp_grammar.specs.Exprs as grammar
use Rattle.rp_grammar.proofs.Formed.{Named, AllNamed, NamedCon, FormedType, FormedParam, FormedParams, FormedCrdt, FormedField, FormedFields, FormedPattern, FormedExpr, FormedForm, FormedExprs, FormedArm, FormedArms, FormedAccess, FormedStep, FormedSteps}
use Rattle.rp_grammar.proofs.Formed.{FormedBlock, FormedStmts, FormedStmt, FormedElse, FormedBlockArms, FormedCon, FormedCons, FormedResult, FormedDecl, FormedDecls}

-- what holds of each terminal but the end
abbrev pub Kept : (Terminal → Type 0) → Terminal → Type 0
Kept L (name n) = L (name n)
Kept L (word w) = L (word w)
Kept L (int n) = L (int n)
Kept L (str bytes) = L (str bytes)
Kept L (symbol m) = L (symbol m)
Kept L end = Unit {0}

module _ (L : Terminal → Type 0) where
  abbrev pub Are : List Placed → Type 0
  Are [] = Unit {0}
  Are (on k s d ∷ ms) = Kept L k × Are ms

  type_of : {d : ℕ} {ts r : List Placed} {t : TypeTree} → TypePhrase d ts t r → Are ts → FormedType L t × Are r
  type_of TypePhrase.named h = (h.0, h.1)
  type_of TypePhrase.bool h = (tt, h.1)
  type_of TypePhrase.int h = (tt, h.1)
  type_of TypePhrase.text h = (tt, h.1)
  type_of (TypePhrase.maybe x) h = let y = type_of x h.1.1 in (y.0, y.1.1)
  type_of TypePhrase.call h = (tt, h.1)
  type_of TypePhrase.invocation h = (tt, h.1)

  param_of : {d : ℕ} {ts r : List Placed} {p : ParamTree} → Param d ts p r → Are ts → FormedParam L p × Are r
  param_of (Param.param x) h = let y = type_of x h.1.1 in ((h.0, y.0), y.1)

  more_params_of : {d : ℕ} {ts r : List Placed} {ps : List ParamTree} → MoreParams d ts ps r → Are ts → FormedParams L ps × Are r
  more_params_of MoreParams.no_param h = (tt, h)
  more_params_of (MoreParams.more_params x y) h = let p = param_of x h.1 in let q = more_params_of y p.1 in ((p.0, q.0), q.1)

  params_of : {d : ℕ} {ts r : List Placed} {ps : List ParamTree} → Params d ts ps r → Are ts → FormedParams L ps × Are r
  params_of (Params.params x y) h = let p = param_of x h in let q = more_params_of y p.1 in ((p.0, q.0), q.1)

  param_list_of : {d : ℕ} {ts r : List Placed} {ps : List ParamTree} → ParamList d ts ps r → Are ts → FormedParams L ps × Are r
  param_list_of ParamList.no_params h = (tt, h.1.1)
  param_list_of (ParamList.some_params x) h = let y = params_of x h.1 in (y.0, y.1.1)

  mutual
    crdt_of : {d : ℕ} {ts r : List Placed} {c : CrdtTree} → Crdt d ts c r → Are ts → FormedCrdt L c × Are r
    crdt_of (Crdt.set_aw x) h = let y = type_of x h.1.1 in (y.0, y.1.1)
    crdt_of (Crdt.set_rw x) h = let y = type_of x h.1.1 in (y.0, y.1.1)
    crdt_of (Crdt.reg x) h = let y = type_of x h.1.1 in (y.0, y.1.1)
    crdt_of (Crdt.mv_reg x) h = let y = type_of x h.1.1 in (y.0, y.1.1)
    crdt_of Crdt.counter h = (tt, h.1)
    crdt_of (Crdt.map_uw x y) h = let a = type_of x h.1.1 in let b = crdt_of y a.1.1 in ((a.0, b.0), b.1.1)
    crdt_of (Crdt.map_dw x y) h = let a = type_of x h.1.1 in let b = crdt_of y a.1.1 in ((a.0, b.0), b.1.1)
    crdt_of (Crdt.struct x y) h = let f = field_of x h.1 in let g = more_fields_of y f.1 in ((f.0, g.0), g.1.1)

    field_of : {d : ℕ} {ts r : List Placed} {f : FieldTree} → Field d ts f r → Are ts → FormedField L f × Are r
    field_of (Field.field x) h = let c = crdt_of x h.1.1 in ((h.0, c.0), c.1)

    more_fields_of : {d : ℕ} {ts r : List Placed} {fs : List FieldTree} → MoreFields d ts fs r → Are ts → FormedFields L (fields fs) × Are r
    more_fields_of MoreFields.no_field h = (tt, h)
    more_fields_of (MoreFields.more_fields x y) h = let f = field_of x h.1 in let g = more_fields_of y f.1 in ((f.0, g.0), g.1)

  -- # Patterns

  con_of : {k : Terminal} {n : List ℕ} (s : Span) → ConName k n → Kept L k → NamedCon L (ident n s)
  con_of s ConName.named h = (_, ConName.named, h)
  con_of s ConName.none h = (_, ConName.none, h)
  con_of s ConName.some h = (_, ConName.some, h)
  con_of s ConName.yes h = (_, ConName.yes, h)
  con_of s ConName.no h = (_, ConName.no, h)

  names_of : {d : ℕ} {ts r : List Placed} {ns : List Ident} → MoreNames d ts ns r → Are ts → AllNamed L ns × Are r
  names_of MoreNames.no_name h = (tt, h)
  names_of (MoreNames.more_names x) h = let y = names_of x h.1.1 in ((h.1.0, y.0), y.1)

  pattern_of : {d : ℕ} {ts r : List Placed} {p : PatternTree} → Pattern d ts p r → Are ts → FormedPattern L p × Are r
  pattern_of (Pattern.bare {s = s} c) h = ((con_of s c h.0, tt), h.1)
  pattern_of (Pattern.binding {s = s} c x) h = let y = names_of x h.1.1.1 in ((con_of s c h.0, (h.1.1.0, y.0)), y.1.1)

  -- # Expressions

  or_ok : (e : Part ExprTree) (es : List (Part ExprTree)) → FormedExpr L (tree_of e) → FormedExprs L (exprs (trees_of es)) → FormedExpr L (tree_of (or_part e es))
  or_ok e [] f g = f
  or_ok e (x ∷ xs) f g = (f, g)

  and_ok : (e : Part ExprTree) (es : List (Part ExprTree)) → FormedExpr L (tree_of e) → FormedExprs L (exprs (trees_of es)) → FormedExpr L (tree_of (and_part e es))
  and_ok e [] f g = f
  and_ok e (x ∷ xs) f g = (f, g)

  quantified_ok : (q : Quantifier) (p : ParamTree) (e : ExprTree) → FormedParam L p → FormedExpr L e → FormedForm L (quantified q p e)
  quantified_ok grammar.forall p e f g = (f, g)
  quantified_ok grammar.exists p e f g = (f, g)

  negative_ok : (i : ℕ) → L (int i) → FormedForm L (ExprForm.int (neg_ℤ (pos i)))
  negative_ok zero h = h
  negative_ok (suc n) h = h

  mutual
    expr_of : {d : ℕ} {ts r : List Placed} {e : Part ExprTree} → Expr d ts e r → Are ts → FormedExpr L (tree_of e) × Are r
    expr_of (Expr.expr x y) h = let a = orx_of x h in implies_of y a.0 a.1

    implies_of : {d : ℕ} {ts r : List Placed} {a e : Part ExprTree} → ImpliesMore d a ts e r → FormedExpr L (tree_of a) → Are ts → FormedExpr L (tree_of e) × Are r
    implies_of ImpliesMore.no_right f h = (f, h)
    implies_of (ImpliesMore.right x) f h = let b = expr_of x h.1 in ((f, b.0), b.1)

    orx_of : {d : ℕ} {ts r : List Placed} {e : Part ExprTree} → Orx d ts e r → Are ts → FormedExpr L (tree_of e) × Are r
    orx_of (Orx.or {e = e} {es = es} x y) h = let a = andx_of x h in let b = or_more_of y a.1 in (or_ok e es a.0 b.0, b.1)

    or_more_of : {d : ℕ} {ts r : List Placed} {es : List (Part ExprTree)} → OrMore d ts es r → Are ts → FormedExprs L (exprs (trees_of es)) × Are r
    or_more_of OrMore.no_or h = (tt, h)
    or_more_of (OrMore.or_more x y) h = let a = andx_of x h.1 in let b = or_more_of y a.1 in ((a.0, b.0), b.1)

    andx_of : {d : ℕ} {ts r : List Placed} {e : Part ExprTree} → Andx d ts e r → Are ts → FormedExpr L (tree_of e) × Are r
    andx_of (Andx.and {e = e} {es = es} x y) h = let a = notx_of x h in let b = and_more_of y a.1 in (and_ok e es a.0 b.0, b.1)

    and_more_of : {d : ℕ} {ts r : List Placed} {es : List (Part ExprTree)} → AndMore d ts es r → Are ts → FormedExprs L (exprs (trees_of es)) × Are r
    and_more_of AndMore.no_and h = (tt, h)
    and_more_of (AndMore.and_more x y) h = let a = notx_of x h.1 in let b = and_more_of y a.1 in ((a.0, b.0), b.1)

    notx_of : {d : ℕ} {ts r : List Placed} {e : Part ExprTree} → Notx d ts e r → Are ts → FormedExpr L (tree_of e) × Are r
    notx_of (Notx.negated x) h = let a = notx_of x h.1 in (a.0, a.1)
    notx_of (Notx.quantifier x) h = quant_of x h
    notx_of (Notx.comparison x) h = cmp_of x h

    quant_of : {d : ℕ} {ts r : List Placed} {e : Part ExprTree} → Quant d ts e r → Are ts → FormedExpr L (tree_of e) × Are r
    quant_of (Quant.for_all x st) h = bound_of x h.1.0 h.1.1
    quant_of (Quant.for_some x st) h = bound_of x h.1.0 h.1.1

    bound_of : {q : Quantifier} {d : ℕ} {s : Span} {n : Ident} {ts r : List Placed} {e : Part ExprTree} → Bound q d s n ts e r → Named L n → Are ts → FormedExpr L (tree_of e) × Are r
    bound_of (Bound.last_variable {q = q} {n = n} {t = t} {e = e} x y) k h =
        let a = type_of x h.1 in let b = expr_of y a.1.1 in (quantified_ok q (ParamTree.param n t) (tree_of e) (k, a.0) b.0, b.1)
    bound_of (Bound.next_variable {q = q} {n = n} {t = t} {e = e} x y) k h =
        let a = type_of x h.1 in let b = bound_of y a.1.1.0 a.1.1.1 in (quantified_ok q (ParamTree.param n t) (tree_of e) (k, a.0) b.0, b.1)

    cmp_of : {d : ℕ} {ts r : List Placed} {e : Part ExprTree} → Cmp d ts e r → Are ts → FormedExpr L (tree_of e) × Are r
    cmp_of (Cmp.cmp x y) h = let a = sum_of x h in cmp_more_of y a.0 a.1

    cmp_more_of : {d : ℕ} {ts r : List Placed} {a e : Part ExprTree} → CmpMore d a ts e r → FormedExpr L (tree_of a) → Are ts → FormedExpr L (tree_of e) × Are r
    cmp_more_of CmpMore.no_cmp f h = (f, h)
    cmp_more_of (CmpMore.compared c x) f h = let b = sum_of x h.1 in ((f, b.0), b.1)

    sum_of : {d : ℕ} {ts r : List Placed} {e : Part ExprTree} → Sum d ts e r → Are ts → FormedExpr L (tree_of e) × Are r
    sum_of (Sum.sum x y) h = let a = prim_of x h in sum_more_of y a.0 a.1

    sum_more_of : {d : ℕ} {ts r : List Placed} {a e : Part ExprTree} → SumMore d a ts e r → FormedExpr L (tree_of a) → Are ts → FormedExpr L (tree_of e) × Are r
    sum_more_of SumMore.no_sum f h = (f, h)
    sum_more_of (SumMore.plus x y) f h = let b = prim_of x h.1 in sum_more_of y (f, b.0) b.1
    sum_more_of (SumMore.minus x y) f h = let b = prim_of x h.1 in sum_more_of y (f, b.0) b.1

    prim_of : {d : ℕ} {ts r : List Placed} {e : Part ExprTree} → Prim d ts e r → Are ts → FormedExpr L (tree_of e) × Are r
    prim_of Prim.number h = (h.0, h.1)
    prim_of (Prim.negative {i = i}) h = (negative_ok i h.1.0, h.1.1)
    prim_of Prim.text h = (h.0, h.1)
    prim_of Prim.true_ h = (tt, h.1)
    prim_of Prim.false_ h = (tt, h.1)
    prim_of Prim.none_ h = (tt, h.1)
    prim_of (Prim.some_ x) h = let a = expr_of x h.1.1 in (a.0, a.1.1)
    prim_of Prim.unreturned h = (tt, h.1)
    prim_of Prim.tx h = (tt, h.1)
    prim_of (Prim.call {w = k} c x) h = let a = exprs_of x h.1.1 in (a.0 k, a.2.1)
    prim_of (Prim.match x y z) h = let a = expr_of x h.1.1 in let b = arm_of y a.1.1.1 in let c = more_arms_of z b.1 in ((a.0, b.0, c.0), c.1.1)
    prim_of (Prim.access x) h = access_of x h
    prim_of (Prim.parens x) h = let a = expr_of x h.1 in (a.0, a.1.1)

    exprs_of : {d : ℕ} {ts r : List Placed} {es : List ExprTree} → Exprs d ts es r → Are ts → ((k : CallWord) → FormedForm L (ExprForm.call k (exprs es))) × FormedExprs L (exprs es) × Are r
    exprs_of (Exprs.some_exprs x y) h = let a = expr_of x h in let b = more_exprs_of y a.1 in ((λ k. (a.0, b.0)), (a.0, b.0), b.1)

    more_exprs_of : {d : ℕ} {ts r : List Placed} {es : List ExprTree} → MoreExprs d ts es r → Are ts → FormedExprs L (exprs es) × Are r
    more_exprs_of MoreExprs.no_expr h = (tt, h)
    more_exprs_of (MoreExprs.more_exprs x y) h = let a = expr_of x h.1 in let b = more_exprs_of y a.1 in ((a.0, b.0), b.1)

    arm_of : {d : ℕ} {ts r : List Placed} {a : ExprArmTree} → ExprArm d ts a r → Are ts → FormedArm L a × Are r
    arm_of (ExprArm.arm p x) h = let q = pattern_of p h in let e = expr_of x q.1.1 in ((q.0, e.0), e.1)

    more_arms_of : {d : ℕ} {ts r : List Placed} {as_ : List ExprArmTree} → MoreExprArms d ts as_ r → Are ts → FormedArms L (expr_arms as_) × Are r
    more_arms_of MoreExprArms.no_arm h = (tt, h)
    more_arms_of (MoreExprArms.more_arms x y) h = let a = arm_of x h.1 in let b = more_arms_of y a.1 in ((a.0, b.0), b.1)

    access_of : {d : ℕ} {ts r : List Placed} {a : Part AccessTree} → Access d ts a r → Are ts → FormedAccess L (tree_of a) × Are r
    access_of (Access.rooted x y) h = let a = steps_of x h.1 in access_args_of y h.0 a.0 a.1

    steps_of : {d : ℕ} {ts r : List Placed} {xs : List (Part StepTree)} → Steps d ts xs r → Are ts → FormedSteps L (steps (trees_of xs)) × Are r
    steps_of Steps.no_step h = (tt, h)
    steps_of (Steps.more_steps x y) h = let a = step_of x h in let b = steps_of y a.1 in ((a.0, b.0), b.1)

    step_of : {d : ℕ} {ts r : List Placed} {x : Part StepTree} → Step d ts x r → Are ts → FormedStep L (tree_of x) × Are r
    step_of Step.dot h = (h.1.0, h.1.1)
    step_of Step.returned h = (tt, h.1.1)
    step_of (Step.key x) h = let a = expr_of x h.1 in (a.0, a.1.1)

    access_args_of : {d : ℕ} {n : Ident} {xs : List StepTree} {s : Span} {ts r : List Placed} {a : Part AccessTree} → AccessArgs d n xs s ts a r → Named L n → FormedSteps L (steps xs) → Are ts → FormedAccess L (tree_of a) × Are r
    access_args_of AccessArgs.not_called k f h = ((k, f, tt), h)
    access_args_of AccessArgs.no_args k f h = ((k, f, tt), h.1.1)
    access_args_of (AccessArgs.some_args x) k f h = let a = exprs_of x h.1 in ((k, f, a.1), a.2.1)

  -- # Statements

  mutual
    block_of : {d : ℕ} {ts r : List Placed} {b : BlockTree} → Block d ts b r → Are ts → FormedBlock L b × Are r
    block_of (Block.block x) h = let a = stmts_of x h.1 in (a.0, a.1.1)

    stmts_of : {d : ℕ} {ts r : List Placed} {xs : List StmtTree} → Stmts d ts xs r → Are ts → FormedStmts L (stmts xs) × Are r
    stmts_of Stmts.no_stmt h = (tt, h)
    stmts_of (Stmts.more_stmts x y) h = let a = stmt_of x h in let b = stmts_of y a.1 in ((a.0, b.0), b.1)

    stmt_of : {d : ℕ} {ts r : List Placed} {x : StmtTree} → Stmt d ts x r → Are ts → FormedStmt L x × Are r
    stmt_of (Stmt.var x) h = let a = type_of x h.1.1.1 in ((h.1.0, a.0, tt), a.1.1)
    stmt_of (Stmt.var_set x y) h = let a = type_of x h.1.1.1 in let b = expr_of y a.1.1 in ((h.1.0, a.0, b.0), b.1.1)
    stmt_of Stmt.new h = ((h.0, h.1.1.1.0), h.1.1.1.1.1)
    stmt_of (Stmt.assign x) h = let a = expr_of x h.1.1 in ((h.0, a.0), a.1.1)
    stmt_of (Stmt.access x) h = let a = access_of x h in (a.0, a.1.1)
    stmt_of (Stmt.if_ x) h = let a = if_of x h in (a.0, a.2)
    stmt_of (Stmt.match x y) h = let a = expr_of x h.1.1 in let b = arms_of y a.1.1.1 in ((a.0, b.0), b.1.1)
    stmt_of (Stmt.atomic x) h = let a = block_of x h.1 in (a.0, a.1)
    stmt_of (Stmt.assert x) h = let a = expr_of x h.1 in (a.0, a.1.1)
    stmt_of Stmt.return h = (tt, h.1.1)
    stmt_of (Stmt.return_value x) h = let a = expr_of x h.1 in (a.0, a.1.1)

    -- as a statement, and behind an `else`
    if_of : {d : ℕ} {ts r : List Placed} {x : StmtTree} → IfStmt d ts x r → Are ts → FormedStmt L x × FormedElse L (ElseTree.else_if x) × Are r
    if_of (IfStmt.branch x y z) h = let a = expr_of x h.1.1 in let b = block_of y a.1.1 in else_of z a.0 b.0 b.1

    else_of : {d : ℕ} {s : Span} {e : ExprTree} {b : BlockTree} {ts r : List Placed} {x : StmtTree} → Else d s e b ts x r → FormedExpr L e → FormedBlock L b → Are ts → FormedStmt L x × FormedElse L (ElseTree.else_if x) × Are r
    else_of Else.no_else f g h = ((f, g, tt), (f, g, tt), h)
    else_of (Else.else_block x) f g h = let c = block_of x h.1 in ((f, g, c.0), (f, g, c.0), c.1)
    else_of (Else.else_if x) f g h = let c = if_of x h.1 in ((f, g, c.1), (f, g, c.1), c.2)

    arms_of : {d : ℕ} {ts r : List Placed} {as_ : List BlockArmTree} → BlockArms d ts as_ r → Are ts → FormedBlockArms L (block_arms as_) × Are r
    arms_of BlockArms.no_arm h = (tt, h)
    arms_of (BlockArms.more_arms x y z) h = let p = pattern_of x h in let b = block_of y p.1.1 in let c = arms_of z b.1 in (((p.0, b.0), c.0), c.1)

  -- # Declarations

  con_tree_of : {ts r : List Placed} {c : ConTree} → Con ts c r → Are ts → FormedCon L c × Are r
  con_tree_of Con.plain h = ((h.0, tt), h.1)
  con_tree_of (Con.with_fields x) h = let a = params_of x h.1.1 in ((h.0, a.0), a.1.1)

  cons_of : {ts r : List Placed} {cs : List ConTree} → MoreCons ts cs r → Are ts → FormedCons L cs × Are r
  cons_of MoreCons.no_con h = (tt, h)
  cons_of (MoreCons.more_cons x y) h = let a = con_tree_of x h.1 in let b = cons_of y a.1 in ((a.0, b.0), b.1)

  result_of : {ts r : List Placed} {t : Option TypeTree} → ResultType ts t r → Are ts → FormedResult L t × Are r
  result_of ResultType.no_result h = (tt, h)
  result_of (ResultType.some_result x) h = let a = type_of x h.1 in (a.0, a.1)

  decl_of : {ts r : List Placed} {x : DeclTree} → Decl ts x r → Are ts → FormedDecl L x × Are r
  decl_of Decl.id_type h = (h.1.0, h.1.1.1)
  decl_of Decl.opaque h = (h.1.0, h.1.1.1)
  decl_of (Decl.datatype x y) h = let a = con_tree_of x h.1.1.1 in let b = cons_of y a.1 in ((h.1.0, a.0, b.0), b.1.1)
  decl_of (Decl.crdt x) h = let a = crdt_of x h.1.1.1 in ((h.1.0, a.0), a.1.1)
  decl_of (Decl.query x y z) h = let a = param_list_of x h.1.1 in let b = type_of y a.1.1 in let c = expr_of z b.1.1 in ((h.1.0, a.0, b.0, c.0), c.1.1)
  decl_of (Decl.invariant x) h = let a = expr_of x h.1 in ((tt, a.0), a.1.1)
  decl_of (Decl.named_invariant x) h = let a = expr_of x h.1.1.1 in ((h.1.0, a.0), a.1.1)
  decl_of (Decl.proc x y z) h = let a = param_list_of x h.1.1 in let b = result_of y a.1 in let c = block_of z b.1 in ((h.1.0, a.0, b.0, c.0), c.1)

  pub program_of : {ts : List Placed} {tree : List DeclTree} → Program ts tree → Are ts → FormedDecls L tree
  program_of Program.end_ h = tt
  program_of (Program.more_decls x y) h = let a = decl_of x h in (a.0, program_of y a.1)
