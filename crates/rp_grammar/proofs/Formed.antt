-- What every tree of a text is: its chains have two members or more, its lists that may not be empty are not, and its terminals are of a kind.
use Rattle.std.proofs.Common.{suc, pos, negsuc, List, [], ◌∷◌, Option, Some, None}
use Rattle.rp_grammar.specs.Terminals.{Terminal, name, int, str}
use Rattle.rp_grammar.specs.Trees.{Ident, ident, TypeTree, TypeForm, ParamTree, CrdtTree, CrdtForm, FieldTree, FieldTrees, PatternTree}
use Rattle.rp_grammar.specs.Trees.{ExprTree, ExprForm, ExprTrees, ExprArmTree, ExprArmTrees, AccessTree, StepTree, StepTrees, ArgTrees}
use Rattle.rp_grammar.specs.Trees.{BlockTree, StmtTree, StmtForm, StmtTrees, ElseTree, BlockArmTree, BlockArmTrees}
use Rattle.rp_grammar.specs.Trees.{ConTree, QueryTree, ProcTree, DeclForm, DeclTree}
use Rattle.rp_grammar.specs.Exprs.{ConName}

module _ (L : Terminal → Type 0) where
  abbrev pub Named : Ident → Type 0
  Named (ident n s) = L (name n)

  abbrev pub AllNamed : List Ident → Type 0
  AllNamed [] = Unit {0}
  AllNamed (n ∷ ns) = Named n × AllNamed ns

  abbrev mutual
    pub FormedType : TypeTree → Type 0
    FormedType (TypeTree.node s f) = FormedTypeForm f

    pub FormedTypeForm : TypeForm → Type 0
    FormedTypeForm (TypeForm.named n) = L (name n)
    FormedTypeForm TypeForm.bool = Unit {0}
    FormedTypeForm TypeForm.int = Unit {0}
    FormedTypeForm TypeForm.text = Unit {0}
    FormedTypeForm (TypeForm.maybe t) = FormedType t
    FormedTypeForm TypeForm.call = Unit {0}
    FormedTypeForm TypeForm.invocation = Unit {0}

  abbrev pub FormedParam : ParamTree → Type 0
  FormedParam (ParamTree.param n t) = Named n × FormedType t

  abbrev pub FormedParams : List ParamTree → Type 0
  FormedParams [] = Unit {0}
  FormedParams (p ∷ ps) = FormedParam p × FormedParams ps

  abbrev mutual
    pub FormedCrdt : CrdtTree → Type 0
    FormedCrdt (CrdtTree.node s f) = FormedCrdtForm f

    pub FormedCrdtForm : CrdtForm → Type 0
    FormedCrdtForm (CrdtForm.set_aw t) = FormedType t
    FormedCrdtForm (CrdtForm.set_rw t) = FormedType t
    FormedCrdtForm (CrdtForm.reg t) = FormedType t
    FormedCrdtForm (CrdtForm.mv_reg t) = FormedType t
    FormedCrdtForm CrdtForm.counter = Unit {0}
    FormedCrdtForm (CrdtForm.map_uw t c) = FormedType t × FormedCrdt c
    FormedCrdtForm (CrdtForm.map_dw t c) = FormedType t × FormedCrdt c
    FormedCrdtForm (CrdtForm.struct FieldTrees.no_fields) = ⊥
    FormedCrdtForm (CrdtForm.struct (FieldTrees.more_fields f fs)) = FormedField f × FormedFields fs

    pub FormedField : FieldTree → Type 0
    FormedField (FieldTree.field n c) = Named n × FormedCrdt c

    pub FormedFields : FieldTrees → Type 0
    FormedFields FieldTrees.no_fields = Unit {0}
    FormedFields (FieldTrees.more_fields f fs) = FormedField f × FormedFields fs

  -- a constructor's name, which may be a word
  abbrev pub NamedCon : Ident → Type 0
  NamedCon (ident n s) = (k : Terminal) × ConName k n × L k

  abbrev pub FormedPattern : PatternTree → Type 0
  FormedPattern (PatternTree.pattern c vs) = NamedCon c × AllNamed vs

  abbrev mutual
    pub FormedExpr : ExprTree → Type 0
    FormedExpr (ExprTree.node s f) = FormedForm f

    pub FormedForm : ExprForm → Type 0
    FormedForm (ExprForm.implies a b) = FormedExpr a × FormedExpr b
    FormedForm (ExprForm.or es) = FormedChain es
    FormedForm (ExprForm.and es) = FormedChain es
    FormedForm (ExprForm.not e) = FormedExpr e
    FormedForm (ExprForm.forall p e) = FormedParam p × FormedExpr e
    FormedForm (ExprForm.exists p e) = FormedParam p × FormedExpr e
    FormedForm (ExprForm.compare c a b) = FormedExpr a × FormedExpr b
    FormedForm (ExprForm.plus a b) = FormedExpr a × FormedExpr b
    FormedForm (ExprForm.minus a b) = FormedExpr a × FormedExpr b
    FormedForm (ExprForm.int (pos n)) = L (int n)
    FormedForm (ExprForm.int (negsuc n)) = L (int (suc n))
    FormedForm (ExprForm.str bytes) = L (str bytes)
    FormedForm (ExprForm.truth b) = Unit {0}
    FormedForm ExprForm.none_word = Unit {0}
    FormedForm (ExprForm.some_of e) = FormedExpr e
    FormedForm ExprForm.unreturned = Unit {0}
    FormedForm ExprForm.tx = Unit {0}
    FormedForm (ExprForm.call w ExprTrees.no_exprs) = ⊥
    FormedForm (ExprForm.call w (ExprTrees.more_exprs e es)) = FormedExpr e × FormedExprs es
    FormedForm (ExprForm.match e ExprArmTrees.no_expr_arms) = ⊥
    FormedForm (ExprForm.match e (ExprArmTrees.more_expr_arms a as_)) = FormedExpr e × FormedArm a × FormedArms as_
    FormedForm (ExprForm.access a) = FormedAccess a

    -- two members or more
    pub FormedChain : ExprTrees → Type 0
    FormedChain ExprTrees.no_exprs = ⊥
    FormedChain (ExprTrees.more_exprs e es) = FormedExpr e × FormedSome es

    pub FormedSome : ExprTrees → Type 0
    FormedSome ExprTrees.no_exprs = ⊥
    FormedSome (ExprTrees.more_exprs e es) = FormedExpr e × FormedExprs es

    pub FormedExprs : ExprTrees → Type 0
    FormedExprs ExprTrees.no_exprs = Unit {0}
    FormedExprs (ExprTrees.more_exprs e es) = FormedExpr e × FormedExprs es

    pub FormedArm : ExprArmTree → Type 0
    FormedArm (ExprArmTree.arm p e) = FormedPattern p × FormedExpr e

    pub FormedArms : ExprArmTrees → Type 0
    FormedArms ExprArmTrees.no_expr_arms = Unit {0}
    FormedArms (ExprArmTrees.more_expr_arms a as_) = FormedArm a × FormedArms as_

    pub FormedAccess : AccessTree → Type 0
    FormedAccess (AccessTree.path n xs as_) = Named n × FormedSteps xs × FormedArgs as_

    pub FormedStep : StepTree → Type 0
    FormedStep (StepTree.dot n) = Named n
    FormedStep (StepTree.returned s) = Unit {0}
    FormedStep (StepTree.key e) = FormedExpr e

    pub FormedSteps : StepTrees → Type 0
    FormedSteps StepTrees.no_steps = Unit {0}
    FormedSteps (StepTrees.more_steps x xs) = FormedStep x × FormedSteps xs

    pub FormedArgs : ArgTrees → Type 0
    FormedArgs ArgTrees.absent = Unit {0}
    FormedArgs (ArgTrees.given es) = FormedExprs es

  abbrev pub FormedOption : Option ExprTree → Type 0
  FormedOption None = Unit {0}
  FormedOption (Some e) = FormedExpr e

  abbrev mutual
    pub FormedBlock : BlockTree → Type 0
    FormedBlock (BlockTree.block s ss) = FormedStmts ss

    pub FormedStmts : StmtTrees → Type 0
    FormedStmts StmtTrees.no_stmts = Unit {0}
    FormedStmts (StmtTrees.more_stmts x xs) = FormedStmt x × FormedStmts xs

    pub FormedStmt : StmtTree → Type 0
    FormedStmt (StmtTree.node s f) = FormedStmtForm f

    pub FormedStmtForm : StmtForm → Type 0
    FormedStmtForm (StmtForm.var n t e) = Named n × FormedType t × FormedOption e
    FormedStmtForm (StmtForm.new n t) = Named n × Named t
    FormedStmtForm (StmtForm.assign n e) = Named n × FormedExpr e
    FormedStmtForm (StmtForm.access a) = FormedAccess a
    FormedStmtForm (StmtForm.if_ e b x) = FormedExpr e × FormedBlock b × FormedElse x
    FormedStmtForm (StmtForm.match e as_) = FormedExpr e × FormedBlockArms as_
    FormedStmtForm (StmtForm.atomic b) = FormedBlock b
    FormedStmtForm (StmtForm.assert e) = FormedExpr e
    FormedStmtForm (StmtForm.return e) = FormedOption e

    -- behind an `else` stands an `if`
    pub FormedElse : ElseTree → Type 0
    FormedElse ElseTree.no_else = Unit {0}
    FormedElse (ElseTree.else_block b) = FormedBlock b
    FormedElse (ElseTree.else_if (StmtTree.node s f)) = FormedIf f

    pub FormedIf : StmtForm → Type 0
    FormedIf (StmtForm.if_ e b x) = FormedExpr e × FormedBlock b × FormedElse x
    FormedIf _ = ⊥

    pub FormedBlockArm : BlockArmTree → Type 0
    FormedBlockArm (BlockArmTree.arm p b) = FormedPattern p × FormedBlock b

    pub FormedBlockArms : BlockArmTrees → Type 0
    FormedBlockArms BlockArmTrees.no_block_arms = Unit {0}
    FormedBlockArms (BlockArmTrees.more_block_arms a as_) = FormedBlockArm a × FormedBlockArms as_

  abbrev pub FormedCon : ConTree → Type 0
  FormedCon (ConTree.con n ps) = Named n × FormedParams ps

  abbrev pub FormedCons : List ConTree → Type 0
  FormedCons [] = Unit {0}
  FormedCons (c ∷ cs) = FormedCon c × FormedCons cs

  abbrev pub FormedResult : Option TypeTree → Type 0
  FormedResult None = Unit {0}
  FormedResult (Some t) = FormedType t

  abbrev pub FormedLabel : Option Ident → Type 0
  FormedLabel None = Unit {0}
  FormedLabel (Some n) = Named n

  abbrev pub FormedQuery : QueryTree → Type 0
  FormedQuery (QueryTree.query n ps t e) = Named n × FormedParams ps × FormedType t × FormedExpr e

  abbrev pub FormedProc : ProcTree → Type 0
  FormedProc (ProcTree.proc n ps t b) = Named n × FormedParams ps × FormedResult t × FormedBlock b

  abbrev pub FormedDeclForm : DeclForm → Type 0
  FormedDeclForm (DeclForm.id_type n) = Named n
  FormedDeclForm (DeclForm.opaque n) = Named n
  FormedDeclForm (DeclForm.datatype n []) = ⊥
  FormedDeclForm (DeclForm.datatype n (c ∷ cs)) = Named n × FormedCon c × FormedCons cs
  FormedDeclForm (DeclForm.crdt n c) = Named n × FormedCrdt c
  FormedDeclForm (DeclForm.query q) = FormedQuery q
  FormedDeclForm (DeclForm.invariant n e) = FormedLabel n × FormedExpr e
  FormedDeclForm (DeclForm.proc p) = FormedProc p

  abbrev pub FormedDecl : DeclTree → Type 0
  FormedDecl (DeclTree.node s f) = FormedDeclForm f

  abbrev pub FormedDecls : List DeclTree → Type 0
  FormedDecls [] = Unit {0}
  FormedDecls (d ∷ ds) = FormedDecl d × FormedDecls ds
