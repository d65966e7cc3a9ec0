-- Trees that are the same but for their spans.
use Rattle.std.specs.Prelude.{◌≡◌, List, [], ◌∷◌, Option, Some, None}
use Rattle.rp_grammar.specs.Trees.{Ident, ident, TypeTree, TypeForm, ParamTree, CrdtTree, CrdtForm, FieldTree, FieldTrees, PatternTree}
use Rattle.rp_grammar.specs.Trees.{ExprTree, ExprForm, ExprTrees, ExprArmTree, ExprArmTrees, AccessTree, StepTree, StepTrees, ArgTrees}
use Rattle.rp_grammar.specs.Trees.{BlockTree, StmtTree, StmtForm, StmtTrees, ElseTree, BlockArmTree, BlockArmTrees}
use Rattle.rp_grammar.specs.Trees.{ConTree, QueryTree, ProcTree, DeclForm, DeclTree}

abbrev pub AllAlike : {X : Type 0} → (X → X → Type 0) → List X → List X → Type 0
AllAlike R [] [] = Unit {0}
AllAlike R (x ∷ xs) (y ∷ ys) = R x y × AllAlike R xs ys
AllAlike R _ _ = ⊥

abbrev pub OptionAlike : {X : Type 0} → (X → X → Type 0) → Option X → Option X → Type 0
OptionAlike R None None = Unit {0}
OptionAlike R (Some x) (Some y) = R x y
OptionAlike R _ _ = ⊥

abbrev pub IdentsAlike : Ident → Ident → Type 0
IdentsAlike (ident n s) (ident m t) = n ≡ m

abbrev mutual
  pub TypesAlike : TypeTree → TypeTree → Type 0
  TypesAlike (TypeTree.node s f) (TypeTree.node t g) = TypeFormsAlike f g

  pub TypeFormsAlike : TypeForm → TypeForm → Type 0
  TypeFormsAlike (TypeForm.named n) (TypeForm.named m) = n ≡ m
  TypeFormsAlike TypeForm.bool TypeForm.bool = Unit {0}
  TypeFormsAlike TypeForm.int TypeForm.int = Unit {0}
  TypeFormsAlike TypeForm.text TypeForm.text = Unit {0}
  TypeFormsAlike (TypeForm.maybe t) (TypeForm.maybe u) = TypesAlike t u
  TypeFormsAlike TypeForm.call TypeForm.call = Unit {0}
  TypeFormsAlike TypeForm.invocation TypeForm.invocation = Unit {0}
  TypeFormsAlike _ _ = ⊥

abbrev pub ParamsAlike : ParamTree → ParamTree → Type 0
ParamsAlike (ParamTree.param n t) (ParamTree.param m u) = IdentsAlike n m × TypesAlike t u

abbrev mutual
  pub CrdtsAlike : CrdtTree → CrdtTree → Type 0
  CrdtsAlike (CrdtTree.node s f) (CrdtTree.node t g) = CrdtFormsAlike f g

  pub CrdtFormsAlike : CrdtForm → CrdtForm → Type 0
  CrdtFormsAlike (CrdtForm.set_aw t) (CrdtForm.set_aw u) = TypesAlike t u
  CrdtFormsAlike (CrdtForm.set_rw t) (CrdtForm.set_rw u) = TypesAlike t u
  CrdtFormsAlike (CrdtForm.reg t) (CrdtForm.reg u) = TypesAlike t u
  CrdtFormsAlike (CrdtForm.mv_reg t) (CrdtForm.mv_reg u) = TypesAlike t u
  CrdtFormsAlike CrdtForm.counter CrdtForm.counter = Unit {0}
  CrdtFormsAlike (CrdtForm.map_uw t c) (CrdtForm.map_uw u d) = TypesAlike t u × CrdtsAlike c d
  CrdtFormsAlike (CrdtForm.map_dw t c) (CrdtForm.map_dw u d) = TypesAlike t u × CrdtsAlike c d
  CrdtFormsAlike (CrdtForm.struct fs) (CrdtForm.struct gs) = FieldsAlike fs gs
  CrdtFormsAlike _ _ = ⊥

  pub FieldAlike : FieldTree → FieldTree → Type 0
  FieldAlike (FieldTree.field n c) (FieldTree.field m d) = IdentsAlike n m × CrdtsAlike c d

  pub FieldsAlike : FieldTrees → FieldTrees → Type 0
  FieldsAlike FieldTrees.no_fields FieldTrees.no_fields = Unit {0}
  FieldsAlike (FieldTrees.more_fields f fs) (FieldTrees.more_fields g gs) = FieldAlike f g × FieldsAlike fs gs
  FieldsAlike _ _ = ⊥

abbrev pub PatternsAlike : PatternTree → PatternTree → Type 0
PatternsAlike (PatternTree.pattern c vs) (PatternTree.pattern d ws) = IdentsAlike c d × AllAlike IdentsAlike vs ws

abbrev mutual
  pub ExprsAlike : ExprTree → ExprTree → Type 0
  ExprsAlike (ExprTree.node s f) (ExprTree.node t g) = FormsAlike f g

  pub FormsAlike : ExprForm → ExprForm → Type 0
  FormsAlike (ExprForm.implies a b) (ExprForm.implies c d) = ExprsAlike a c × ExprsAlike b d
  FormsAlike (ExprForm.or es) (ExprForm.or fs) = ChainsAlike es fs
  FormsAlike (ExprForm.and es) (ExprForm.and fs) = ChainsAlike es fs
  FormsAlike (ExprForm.not e) (ExprForm.not f) = ExprsAlike e f
  FormsAlike (ExprForm.forall p e) (ExprForm.forall q f) = ParamsAlike p q × ExprsAlike e f
  FormsAlike (ExprForm.exists p e) (ExprForm.exists q f) = ParamsAlike p q × ExprsAlike e f
  FormsAlike (ExprForm.compare x a b) (ExprForm.compare y c d) = (x ≡ y) × ExprsAlike a c × ExprsAlike b d
  FormsAlike (ExprForm.plus a b) (ExprForm.plus c d) = ExprsAlike a c × ExprsAlike b d
  FormsAlike (ExprForm.minus a b) (ExprForm.minus c d) = ExprsAlike a c × ExprsAlike b d
  FormsAlike (ExprForm.int m) (ExprForm.int n) = m ≡ n
  FormsAlike (ExprForm.str a) (ExprForm.str b) = a ≡ b
  FormsAlike (ExprForm.truth a) (ExprForm.truth b) = a ≡ b
  FormsAlike ExprForm.none_word ExprForm.none_word = Unit {0}
  FormsAlike (ExprForm.some_of e) (ExprForm.some_of f) = ExprsAlike e f
  FormsAlike ExprForm.unreturned ExprForm.unreturned = Unit {0}
  FormsAlike ExprForm.tx ExprForm.tx = Unit {0}
  FormsAlike (ExprForm.call w es) (ExprForm.call v fs) = (w ≡ v) × ChainsAlike es fs
  FormsAlike (ExprForm.match e as_) (ExprForm.match f bs) = ExprsAlike e f × ArmsAlike as_ bs
  FormsAlike (ExprForm.access a) (ExprForm.access b) = AccessesAlike a b
  FormsAlike _ _ = ⊥

  pub ChainsAlike : ExprTrees → ExprTrees → Type 0
  ChainsAlike ExprTrees.no_exprs ExprTrees.no_exprs = Unit {0}
  ChainsAlike (ExprTrees.more_exprs e es) (ExprTrees.more_exprs f fs) = ExprsAlike e f × ChainsAlike es fs
  ChainsAlike _ _ = ⊥

  pub ArmAlike : ExprArmTree → ExprArmTree → Type 0
  ArmAlike (ExprArmTree.arm p e) (ExprArmTree.arm q f) = PatternsAlike p q × ExprsAlike e f

  pub ArmsAlike : ExprArmTrees → ExprArmTrees → Type 0
  ArmsAlike ExprArmTrees.no_expr_arms ExprArmTrees.no_expr_arms = Unit {0}
  ArmsAlike (ExprArmTrees.more_expr_arms a as_) (ExprArmTrees.more_expr_arms b bs) = ArmAlike a b × ArmsAlike as_ bs
  ArmsAlike _ _ = ⊥

  pub AccessesAlike : AccessTree → AccessTree → Type 0
  AccessesAlike (AccessTree.path n xs as_) (AccessTree.path m ys bs) = IdentsAlike n m × StepsAlike xs ys × ArgsAlike as_ bs

  pub StepAlike : StepTree → StepTree → Type 0
  StepAlike (StepTree.dot n) (StepTree.dot m) = IdentsAlike n m
  StepAlike (StepTree.returned s) (StepTree.returned t) = Unit {0}
  StepAlike (StepTree.key e) (StepTree.key f) = ExprsAlike e f
  StepAlike _ _ = ⊥

  pub StepsAlike : StepTrees → StepTrees → Type 0
  StepsAlike StepTrees.no_steps StepTrees.no_steps = Unit {0}
  StepsAlike (StepTrees.more_steps x xs) (StepTrees.more_steps y ys) = StepAlike x y × StepsAlike xs ys
  StepsAlike _ _ = ⊥

  pub ArgsAlike : ArgTrees → ArgTrees → Type 0
  ArgsAlike ArgTrees.absent ArgTrees.absent = Unit {0}
  ArgsAlike (ArgTrees.given es) (ArgTrees.given fs) = ChainsAlike es fs
  ArgsAlike _ _ = ⊥

abbrev mutual
  pub BlocksAlike : BlockTree → BlockTree → Type 0
  BlocksAlike (BlockTree.block s ss) (BlockTree.block t us) = ListsAlike ss us

  pub ListsAlike : StmtTrees → StmtTrees → Type 0
  ListsAlike StmtTrees.no_stmts StmtTrees.no_stmts = Unit {0}
  ListsAlike (StmtTrees.more_stmts x xs) (StmtTrees.more_stmts y ys) = StmtsAlike x y × ListsAlike xs ys
  ListsAlike _ _ = ⊥

  pub StmtsAlike : StmtTree → StmtTree → Type 0
  StmtsAlike (StmtTree.node s f) (StmtTree.node t g) = StmtFormsAlike f g

  pub StmtFormsAlike : StmtForm → StmtForm → Type 0
  StmtFormsAlike (StmtForm.var n t e) (StmtForm.var m u f) = IdentsAlike n m × TypesAlike t u × OptionAlike ExprsAlike e f
  StmtFormsAlike (StmtForm.new n t) (StmtForm.new m u) = IdentsAlike n m × IdentsAlike t u
  StmtFormsAlike (StmtForm.assign n e) (StmtForm.assign m f) = IdentsAlike n m × ExprsAlike e f
  StmtFormsAlike (StmtForm.access a) (StmtForm.access b) = AccessesAlike a b
  StmtFormsAlike (StmtForm.if_ e b x) (StmtForm.if_ f c y) = ExprsAlike e f × BlocksAlike b c × ElsesAlike x y
  StmtFormsAlike (StmtForm.match e as_) (StmtForm.match f bs) = ExprsAlike e f × BlockArmsAlike as_ bs
  StmtFormsAlike (StmtForm.atomic b) (StmtForm.atomic c) = BlocksAlike b c
  StmtFormsAlike (StmtForm.assert e) (StmtForm.assert f) = ExprsAlike e f
  StmtFormsAlike (StmtForm.return e) (StmtForm.return f) = OptionAlike ExprsAlike e f
  StmtFormsAlike _ _ = ⊥

  pub ElsesAlike : ElseTree → ElseTree → Type 0
  ElsesAlike ElseTree.no_else ElseTree.no_else = Unit {0}
  ElsesAlike (ElseTree.else_block b) (ElseTree.else_block c) = BlocksAlike b c
  ElsesAlike (ElseTree.else_if x) (ElseTree.else_if y) = StmtsAlike x y
  ElsesAlike _ _ = ⊥

  pub BlockArmAlike : BlockArmTree → BlockArmTree → Type 0
  BlockArmAlike (BlockArmTree.arm p b) (BlockArmTree.arm q c) = PatternsAlike p q × BlocksAlike b c

  pub BlockArmsAlike : BlockArmTrees → BlockArmTrees → Type 0
  BlockArmsAlike BlockArmTrees.no_block_arms BlockArmTrees.no_block_arms = Unit {0}
  BlockArmsAlike (BlockArmTrees.more_block_arms a as_) (BlockArmTrees.more_block_arms b bs) = BlockArmAlike a b × BlockArmsAlike as_ bs
  BlockArmsAlike _ _ = ⊥

abbrev pub ConsAlike : ConTree → ConTree → Type 0
ConsAlike (ConTree.con n ps) (ConTree.con m qs) = IdentsAlike n m × AllAlike ParamsAlike ps qs

abbrev pub QueriesAlike : QueryTree → QueryTree → Type 0
QueriesAlike (QueryTree.query n ps t e) (QueryTree.query m qs u f) = IdentsAlike n m × AllAlike ParamsAlike ps qs × TypesAlike t u × ExprsAlike e f

abbrev pub ProcsAlike : ProcTree → ProcTree → Type 0
ProcsAlike (ProcTree.proc n ps t b) (ProcTree.proc m qs u c) = IdentsAlike n m × AllAlike ParamsAlike ps qs × OptionAlike TypesAlike t u × BlocksAlike b c

abbrev pub DeclFormsAlike : DeclForm → DeclForm → Type 0
DeclFormsAlike (DeclForm.id_type n) (DeclForm.id_type m) = IdentsAlike n m
DeclFormsAlike (DeclForm.opaque n) (DeclForm.opaque m) = IdentsAlike n m
DeclFormsAlike (DeclForm.datatype n cs) (DeclForm.datatype m ds) = IdentsAlike n m × AllAlike ConsAlike cs ds
DeclFormsAlike (DeclForm.crdt n c) (DeclForm.crdt m d) = IdentsAlike n m × CrdtsAlike c d
DeclFormsAlike (DeclForm.query q) (DeclForm.query r) = QueriesAlike q r
DeclFormsAlike (DeclForm.invariant n e) (DeclForm.invariant m f) = OptionAlike IdentsAlike n m × ExprsAlike e f
DeclFormsAlike (DeclForm.proc p) (DeclForm.proc q) = ProcsAlike p q
DeclFormsAlike _ _ = ⊥

abbrev pub DeclsAlike : DeclTree → DeclTree → Type 0
DeclsAlike (DeclTree.node s f) (DeclTree.node t g) = DeclFormsAlike f g

-- the same trees, spans aside
abbrev pub Alike : List DeclTree → List DeclTree → Type 0
Alike ds es = AllAlike DeclsAlike ds es
