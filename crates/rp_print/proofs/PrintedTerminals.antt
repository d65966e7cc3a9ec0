-- Each terminal of what is printed is one of the tree's, a word or a symbol.
use Rattle.std.proofs.Common.{ℕ, pos, negsuc, Bool, true, false, if◌then◌else◌, List, [], ◌∷◌, ◌++◌, map, Option, Some, None}
use Rattle.rp_print.specs.declared.Place.{Place}
use Rattle.rp_print.specs.declared.Place.TheVariants as place
use Rattle.std.specs.Str.{bytes_eq}
use Rattle.rp_span.specs.declared.Span.{Span}
use Rattle.rp_grammar.specs.declared.terminal.Word.{Word}
use Rattle.rp_grammar.specs.declared.terminal.Word.TheVariants as word
use Rattle.rp_grammar.specs.declared.terminal.Symbol.{Symbol}
use Rattle.rp_grammar.specs.declared.terminal.Symbol.TheVariants as symbol
use Rattle.rp_grammar.specs.Spelling.{spelling}
use Rattle.rp_grammar.specs.Terminals.{Terminal, name, word, symbol}
use Rattle.rp_grammar.specs.Trees.{Ident, ident, TypeTree, TypeForm, ParamTree, CrdtTree, CrdtForm, FieldTree, FieldTrees, PatternTree}
use Rattle.rp_grammar.specs.Trees.{ExprTree, ExprForm, ExprTrees, ExprArmTree, ExprArmTrees, AccessTree, StepTree, StepTrees, ArgTrees}
use Rattle.rp_grammar.specs.Trees.{BlockTree, StmtTree, StmtForm, StmtTrees, ElseTree, BlockArmTree, BlockArmTrees}
use Rattle.rp_grammar.specs.Trees.{ConTree, QueryTree, ProcTree, DeclForm, DeclTree}
use Rattle.rp_grammar.specs.Exprs.{ConName}
use Rattle.rp_print.specs.Printed.{behind, separated, in_parens, in_brackets, in_braces, name_terminal, con_terminal, type_terminals, type_form_terminals, param_terminals, params_terminals, crdt_terminals, crdt_form_terminals, field_terminals, fields_terminals, vars_terminals, pattern_terminals, needs_parens, enclosed, compare_symbol, call_word}
use Rattle.rp_print.specs.Printed.{expr_terminals, form_terminals, exprs_terminals, arm_terminals, arms_terminals, access_terminals, step_terminals, steps_terminals, args_terminals, value_terminals, result_terminals}
use Rattle.rp_print.specs.Printed.{block_terminals, stmts_terminals, stmt_terminals, stmt_form_terminals, else_terminals, block_arm_terminals, block_arms_terminals}
use Rattle.rp_print.specs.Printed.{con_fields_terminals, con_terminals, result_type_terminals, label_terminals, decl_form_terminals, decl_terminals}
use Rattle.rp_grammar.proofs.Formed.{Named, AllNamed, NamedCon, FormedType, FormedTypeForm, FormedParam, FormedParams, FormedCrdt, FormedCrdtForm, FormedField, FormedFields, FormedPattern}
use Rattle.rp_grammar.proofs.Formed.{FormedExpr, FormedForm, FormedExprs, FormedArm, FormedArms, FormedAccess, FormedStep, FormedSteps, FormedArgs, FormedOption}
use Rattle.rp_grammar.proofs.Formed.{FormedBlock, FormedStmts, FormedStmt, FormedStmtForm, FormedElse, FormedBlockArm, FormedBlockArms, FormedCon, FormedCons, FormedResult, FormedLabel, FormedDeclForm, FormedDecl}
use Rattle.rp_print.proofs.BackBytes.{AllOf}

module _ (L : Terminal → Type 0) (w : (k : Word) → L (word k)) (m : (k : Symbol) → L (symbol k)) where
  abbrev All : List Terminal → Type 0
  All ts = AllOf L ts

  abbrev Each : List (List Terminal) → Type 0
  Each [] = Unit {0}
  Each (x ∷ xs) = All x × Each xs

  join : (x b : List Terminal) → AllOf L x → AllOf L b → AllOf L (x ++ b)
  join [] b h k = k
  join (t ∷ ts) b h k = (h.0, join ts b h.1 k)

  all_behind : (s : Symbol) (xs : List (List Terminal)) → Each xs → All (behind s xs)
  all_behind s [] h = tt
  all_behind s (x ∷ xs) h = (m s, join x _ h.0 (all_behind s xs h.1))

  all_separated : (s : Symbol) (xs : List (List Terminal)) → Each xs → All (separated s xs)
  all_separated s [] h = tt
  all_separated s (x ∷ xs) h = join x _ h.0 (all_behind s xs h.1)

  all_parens : (ts : List Terminal) → All ts → All (in_parens ts)
  all_parens ts h = (m symbol.OpenParen, join ts _ h (m symbol.CloseParen, tt))

  all_brackets : (ts : List Terminal) → All ts → All (in_brackets ts)
  all_brackets ts h = (m symbol.OpenBracket, join ts _ h (m symbol.CloseBracket, tt))

  all_braces : (ts : List Terminal) → All ts → All (in_braces ts)
  all_braces ts h = (m symbol.OpenBrace, join ts _ h (m symbol.CloseBrace, tt))

  all_enclosed : (b : Bool) (ts : List Terminal) → All ts → All (enclosed b ts)
  all_enclosed true ts h = all_parens ts h
  all_enclosed false ts h = h

  all_named : (n : Ident) → Named L n → L (name_terminal n)
  all_named (ident n s) h = h

  mutual
    all_type : (t : TypeTree) → FormedType L t → All (type_terminals t)
    all_type (TypeTree.node s f) h = all_type_form f h

    all_type_form : (f : TypeForm) → FormedTypeForm L f → All (type_form_terminals f)
    all_type_form (TypeForm.named n) h = (h, tt)
    all_type_form TypeForm.bool h = (w word.Bool, tt)
    all_type_form TypeForm.int h = (w word.Int, tt)
    all_type_form TypeForm.text h = (w word.String, tt)
    all_type_form (TypeForm.maybe t) h = (w word.Maybe, all_brackets (type_terminals t) (all_type t h))
    all_type_form TypeForm.call h = (w word.Call, tt)
    all_type_form TypeForm.invocation h = (w word.Invocation, tt)

  all_param : (p : ParamTree) → FormedParam L p → All (param_terminals p)
  all_param (ParamTree.param n t) h = (all_named n h.0, (m symbol.Colon, all_type t h.1))

  each_param : (ps : List ParamTree) → FormedParams L ps → Each (map param_terminals ps)
  each_param [] h = tt
  each_param (p ∷ ps) h = (all_param p h.0, each_param ps h.1)

  all_params : (ps : List ParamTree) → FormedParams L ps → All (params_terminals ps)
  all_params ps h = all_separated symbol.Comma (map param_terminals ps) (each_param ps h)

  mutual
    all_crdt : (c : CrdtTree) → FormedCrdt L c → All (crdt_terminals c)
    all_crdt (CrdtTree.node s f) h = all_crdt_form f h

    all_crdt_form : (f : CrdtForm) → FormedCrdtForm L f → All (crdt_form_terminals f)
    all_crdt_form (CrdtForm.set_aw t) h = (w word.SetAw, all_brackets (type_terminals t) (all_type t h))
    all_crdt_form (CrdtForm.set_rw t) h = (w word.SetRw, all_brackets (type_terminals t) (all_type t h))
    all_crdt_form (CrdtForm.reg t) h = (w word.Reg, all_brackets (type_terminals t) (all_type t h))
    all_crdt_form (CrdtForm.mv_reg t) h = (w word.MvReg, all_brackets (type_terminals t) (all_type t h))
    all_crdt_form CrdtForm.counter h = (w word.Counter, tt)
    all_crdt_form (CrdtForm.map_uw t c) h = (w word.MapUw, all_brackets (type_terminals t ++ symbol symbol.Comma ∷ crdt_terminals c) (join (type_terminals t) _ (all_type t h.0) (m symbol.Comma, all_crdt c h.1)))
    all_crdt_form (CrdtForm.map_dw t c) h = (w word.MapDw, all_brackets (type_terminals t ++ symbol symbol.Comma ∷ crdt_terminals c) (join (type_terminals t) _ (all_type t h.0) (m symbol.Comma, all_crdt c h.1)))
    all_crdt_form (CrdtForm.struct FieldTrees.no_fields) h = absurd h
    all_crdt_form (CrdtForm.struct (FieldTrees.more_fields f fs)) h = all_braces (separated symbol.Comma (field_terminals f ∷ fields_terminals fs)) (all_separated symbol.Comma (field_terminals f ∷ fields_terminals fs) (all_field f h.0, each_field fs h.1))

    all_field : (f : FieldTree) → FormedField L f → All (field_terminals f)
    all_field (FieldTree.field n c) h = (all_named n h.0, (m symbol.Colon, all_crdt c h.1))

    each_field : (fs : FieldTrees) → FormedFields L fs → Each (fields_terminals fs)
    each_field FieldTrees.no_fields h = tt
    each_field (FieldTrees.more_fields f fs) h = (all_field f h.0, each_field fs h.1)

  each_var : (vs : List Ident) → AllNamed L vs → Each (map (λ n. name_terminal n ∷ []) vs)
  each_var [] h = tt
  each_var (v ∷ vs) h = ((all_named v h.0, tt), each_var vs h.1)

  all_vars : (vs : List Ident) → AllNamed L vs → All (vars_terminals vs)
  all_vars [] h = tt
  all_vars (v ∷ vs) h = all_parens (separated symbol.Comma (map (λ n. name_terminal n ∷ []) (v ∷ vs))) (all_separated symbol.Comma (map (λ n. name_terminal n ∷ []) (v ∷ vs)) (each_var (v ∷ vs) h))

  chosen : (b : Bool) (k : Word) (t : Terminal) → L t → L (if b then word k else t)
  chosen true k t h = w k
  chosen false k t h = h

  con_name : (n : List ℕ) (s : Span) → L (name n) → L (con_terminal (ident n s))
  con_name n s h =
      chosen (bytes_eq n (spelling word.None)) word.None _
      (chosen (bytes_eq n (spelling word.Some)) word.Some _
      (chosen (bytes_eq n (spelling word.True)) word.True _
      (chosen (bytes_eq n (spelling word.False)) word.False _ h)))

  all_con_name : (c : Ident) → NamedCon L c → L (con_terminal c)
  all_con_name (ident n s) (k, ConName.named, h) = con_name n s h
  all_con_name (ident n s) (k, ConName.none, h) = h
  all_con_name (ident n s) (k, ConName.some, h) = h
  all_con_name (ident n s) (k, ConName.yes, h) = h
  all_con_name (ident n s) (k, ConName.no, h) = h

  all_pattern : (p : PatternTree) → FormedPattern L p → All (pattern_terminals p)
  all_pattern (PatternTree.pattern c vs) h = (all_con_name c h.0, all_vars vs h.1)

  mutual
    all_expr : (p : Place) (e : ExprTree) → FormedExpr L e → All (expr_terminals p e)
    all_expr p (ExprTree.node s f) h = all_enclosed (needs_parens p f) (form_terminals f) (all_form f h)

    all_form : (f : ExprForm) → FormedForm L f → All (form_terminals f)
    all_form (ExprForm.implies a b) h = join (expr_terminals place.Operand a) _ (all_expr place.Operand a h.0) (m symbol.Implies, all_expr place.Operand b h.1)
    all_form (ExprForm.or ExprTrees.no_exprs) h = absurd h
    all_form (ExprForm.or (ExprTrees.more_exprs e ExprTrees.no_exprs)) h = absurd h.1
    all_form (ExprForm.or (ExprTrees.more_exprs e (ExprTrees.more_exprs f es))) h = join (expr_terminals place.Operand e) _ (all_expr place.Operand e h.0) (all_behind symbol.Or (exprs_terminals place.Operand (ExprTrees.more_exprs f es)) (each_expr place.Operand (ExprTrees.more_exprs f es) h.1))
    all_form (ExprForm.and ExprTrees.no_exprs) h = absurd h
    all_form (ExprForm.and (ExprTrees.more_exprs e ExprTrees.no_exprs)) h = absurd h.1
    all_form (ExprForm.and (ExprTrees.more_exprs e (ExprTrees.more_exprs f es))) h = join (expr_terminals place.Operand e) _ (all_expr place.Operand e h.0) (all_behind symbol.And (exprs_terminals place.Operand (ExprTrees.more_exprs f es)) (each_expr place.Operand (ExprTrees.more_exprs f es) h.1))
    all_form (ExprForm.not e) h = (m symbol.Not, all_expr place.Operand e h)
    all_form (ExprForm.forall p e) h = (w word.Forall, join (param_terminals p) _ (all_param p h.0) (m symbol.DoubleColon, all_expr place.Whole e h.1))
    all_form (ExprForm.exists p e) h = (w word.Exists, join (param_terminals p) _ (all_param p h.0) (m symbol.DoubleColon, all_expr place.Whole e h.1))
    all_form (ExprForm.compare c a b) h = join (expr_terminals place.Operand a) _ (all_expr place.Operand a h.0) (m (compare_symbol c), all_expr place.Operand b h.1)
    all_form (ExprForm.plus a b) h = join (expr_terminals place.Operand a) _ (all_expr place.Operand a h.0) (m symbol.Plus, all_expr place.Operand b h.1)
    all_form (ExprForm.minus a b) h = join (expr_terminals place.Operand a) _ (all_expr place.Operand a h.0) (m symbol.Minus, all_expr place.Operand b h.1)
    all_form (ExprForm.int (pos n)) h = (h, tt)
    all_form (ExprForm.int (negsuc n)) h = (m symbol.Minus, (h, tt))
    all_form (ExprForm.str bytes) h = (h, tt)
    all_form (ExprForm.truth true) h = (w word.True, tt)
    all_form (ExprForm.truth false) h = (w word.False, tt)
    all_form ExprForm.none_word h = (w word.None, tt)
    all_form (ExprForm.some_of e) h = (w word.Some, all_parens (expr_terminals place.Argument e) (all_expr place.Argument e h))
    all_form ExprForm.unreturned h = (w word.Unreturned, tt)
    all_form ExprForm.tx h = (w word.Tx, tt)
    all_form (ExprForm.call k ExprTrees.no_exprs) h = absurd h
    all_form (ExprForm.call k (ExprTrees.more_exprs e es)) h = (w (call_word k), all_parens (separated symbol.Comma (expr_terminals place.Argument e ∷ exprs_terminals place.Argument es)) (all_separated symbol.Comma (expr_terminals place.Argument e ∷ exprs_terminals place.Argument es) (all_expr place.Argument e h.0, each_expr place.Argument es h.1)))
    all_form (ExprForm.match e ExprArmTrees.no_expr_arms) h = absurd h
    all_form (ExprForm.match e (ExprArmTrees.more_expr_arms a as_)) h =
        (w word.Match, join (in_parens (expr_terminals place.Whole e)) _ (all_parens (expr_terminals place.Whole e) (all_expr place.Whole e h.0)) (all_braces (separated symbol.Comma (arm_terminals a ∷ arms_terminals as_)) (all_separated symbol.Comma (arm_terminals a ∷ arms_terminals as_) (all_arm a h.1, each_arm as_ h.2))))
    all_form (ExprForm.access a) h = all_access a h

    each_expr : (p : Place) (es : ExprTrees) → FormedExprs L es → Each (exprs_terminals p es)
    each_expr p ExprTrees.no_exprs h = tt
    each_expr p (ExprTrees.more_exprs e es) h = (all_expr p e h.0, each_expr p es h.1)

    all_arm : (a : ExprArmTree) → FormedArm L a → All (arm_terminals a)
    all_arm (ExprArmTree.arm p e) h = join (pattern_terminals p) _ (all_pattern p h.0) (m symbol.Arrow, all_expr place.Argument e h.1)

    each_arm : (as_ : ExprArmTrees) → FormedArms L as_ → Each (arms_terminals as_)
    each_arm ExprArmTrees.no_expr_arms h = tt
    each_arm (ExprArmTrees.more_expr_arms a as_) h = (all_arm a h.0, each_arm as_ h.1)

    all_access : (a : AccessTree) → FormedAccess L a → All (access_terminals a)
    all_access (AccessTree.path n xs as_) h = (all_named n h.0, join (steps_terminals xs) _ (all_steps xs h.1) (all_args as_ h.2))

    all_step : (x : StepTree) → FormedStep L x → All (step_terminals x)
    all_step (StepTree.dot n) h = (m symbol.Dot, (all_named n h, tt))
    all_step (StepTree.returned s) h = (m symbol.Dot, (w word.Returned, tt))
    all_step (StepTree.key e) h = all_brackets (expr_terminals place.Argument e) (all_expr place.Argument e h)

    all_steps : (xs : StepTrees) → FormedSteps L xs → All (steps_terminals xs)
    all_steps StepTrees.no_steps h = tt
    all_steps (StepTrees.more_steps x xs) h = join (step_terminals x) _ (all_step x h.0) (all_steps xs h.1)

    all_args : (as_ : ArgTrees) → FormedArgs L as_ → All (args_terminals as_)
    all_args ArgTrees.absent h = tt
    all_args (ArgTrees.given es) h = all_parens (separated symbol.Comma (exprs_terminals place.Argument es)) (all_separated symbol.Comma (exprs_terminals place.Argument es) (each_expr place.Argument es h))

  all_value : (e : Option ExprTree) → FormedOption L e → All (value_terminals e)
  all_value None h = tt
  all_value (Some e) h = (m symbol.Assign, all_expr place.Whole e h)

  all_result : (e : Option ExprTree) → FormedOption L e → All (result_terminals e)
  all_result None h = tt
  all_result (Some e) h = all_expr place.Whole e h

  all_ended : (ts : List Terminal) → All ts → All (ts ++ symbol symbol.Semicolon ∷ [])
  all_ended ts h = join ts _ h (m symbol.Semicolon, tt)

  all_on : (e : ExprTree) → FormedExpr L e → All (in_parens (expr_terminals place.Whole e))
  all_on e h = all_parens (expr_terminals place.Whole e) (all_expr place.Whole e h)

  mutual
    all_block : (b : BlockTree) → FormedBlock L b → All (block_terminals b)
    all_block (BlockTree.block s ss) h = all_braces (stmts_terminals ss) (all_stmts ss h)

    all_stmts : (ss : StmtTrees) → FormedStmts L ss → All (stmts_terminals ss)
    all_stmts StmtTrees.no_stmts h = tt
    all_stmts (StmtTrees.more_stmts x xs) h = join (stmt_terminals x) _ (all_stmt x h.0) (all_stmts xs h.1)

    all_stmt : (x : StmtTree) → FormedStmt L x → All (stmt_terminals x)
    all_stmt (StmtTree.node s f) h = all_stmt_form f h

    all_stmt_form : (f : StmtForm) → FormedStmtForm L f → All (stmt_form_terminals f)
    all_stmt_form (StmtForm.var n t e) h = (w word.Var, (all_named n h.0, (m symbol.Colon, join (type_terminals t) _ (all_type t h.1) (all_ended (value_terminals e) (all_value e h.2)))))
    all_stmt_form (StmtForm.new n t) h = (all_named n h.0, (m symbol.Assign, (w word.New, (all_named t h.1, (m symbol.Semicolon, tt)))))
    all_stmt_form (StmtForm.assign n e) h = (all_named n h.0, (m symbol.Assign, all_ended (expr_terminals place.Whole e) (all_expr place.Whole e h.1)))
    all_stmt_form (StmtForm.access a) h = all_ended (access_terminals a) (all_access a h)
    all_stmt_form (StmtForm.if_ e b x) h = (w word.If, join (in_parens (expr_terminals place.Whole e)) _ (all_on e h.0) (join (block_terminals b) _ (all_block b h.1) (all_else x h.2)))
    all_stmt_form (StmtForm.match e as_) h = (w word.Match, join (in_parens (expr_terminals place.Whole e)) _ (all_on e h.0) (all_braces (block_arms_terminals as_) (all_block_arms as_ h.1)))
    all_stmt_form (StmtForm.atomic b) h = (w word.Atomic, all_block b h)
    all_stmt_form (StmtForm.assert e) h = (w word.Assert, all_ended (expr_terminals place.Whole e) (all_expr place.Whole e h))
    all_stmt_form (StmtForm.return e) h = (w word.Return, all_ended (result_terminals e) (all_result e h))

    all_else : (x : ElseTree) → FormedElse L x → All (else_terminals x)
    all_else ElseTree.no_else h = tt
    all_else (ElseTree.else_block b) h = (w word.Else, all_block b h)
    all_else (ElseTree.else_if (StmtTree.node s (StmtForm.if_ e b x))) h = (w word.Else, (w word.If, join (in_parens (expr_terminals place.Whole e)) _ (all_on e h.0) (join (block_terminals b) _ (all_block b h.1) (all_else x h.2))))
    all_else (ElseTree.else_if (StmtTree.node s _)) h = absurd h

    all_block_arm : (a : BlockArmTree) → FormedBlockArm L a → All (block_arm_terminals a)
    all_block_arm (BlockArmTree.arm p b) h = join (pattern_terminals p) _ (all_pattern p h.0) (m symbol.Arrow, all_block b h.1)

    all_block_arms : (as_ : BlockArmTrees) → FormedBlockArms L as_ → All (block_arms_terminals as_)
    all_block_arms BlockArmTrees.no_block_arms h = tt
    all_block_arms (BlockArmTrees.more_block_arms a as_) h = join (block_arm_terminals a) _ (all_block_arm a h.0) (all_block_arms as_ h.1)

  all_con_fields : (ps : List ParamTree) → FormedParams L ps → All (con_fields_terminals ps)
  all_con_fields [] h = tt
  all_con_fields (p ∷ ps) h = all_parens (params_terminals (p ∷ ps)) (all_params (p ∷ ps) h)

  all_con : (c : ConTree) → FormedCon L c → All (con_terminals c)
  all_con (ConTree.con n ps) h = (all_named n h.0, all_con_fields ps h.1)

  each_con : (cs : List ConTree) → FormedCons L cs → Each (map con_terminals cs)
  each_con [] h = tt
  each_con (c ∷ cs) h = (all_con c h.0, each_con cs h.1)

  all_result_type : (t : Option TypeTree) → FormedResult L t → All (result_type_terminals t)
  all_result_type None h = tt
  all_result_type (Some t) h = (m symbol.Colon, all_type t h)

  all_label : (n : Option Ident) → FormedLabel L n → All (label_terminals n)
  all_label None h = tt
  all_label (Some n) h = (all_named n h, (m symbol.Colon, tt))

  all_decl_form : (f : DeclForm) → FormedDeclForm L f → All (decl_form_terminals f)
  all_decl_form (DeclForm.id_type n) h = (w word.IdType, (all_named n h, (m symbol.Semicolon, tt)))
  all_decl_form (DeclForm.opaque n) h = (w word.Type, (all_named n h, (m symbol.Semicolon, tt)))
  all_decl_form (DeclForm.datatype n []) h = absurd h
  all_decl_form (DeclForm.datatype n (c ∷ cs)) h = (w word.Datatype, (all_named n h.0, (m symbol.Assign, all_ended (separated symbol.Bar (map con_terminals (c ∷ cs))) (all_separated symbol.Bar (map con_terminals (c ∷ cs)) (all_con c h.1, each_con cs h.2)))))
  all_decl_form (DeclForm.crdt n c) h = (w word.Crdt, (all_named n h.0, (m symbol.Colon, all_ended (crdt_terminals c) (all_crdt c h.1))))
  all_decl_form (DeclForm.query (QueryTree.query n ps t e)) h =
      (w word.Query, (all_named n h.0, join (in_parens (params_terminals ps)) _ (all_parens (params_terminals ps) (all_params ps h.1)) (m symbol.Colon, join (type_terminals t) _ (all_type t h.2) (m symbol.Assign, all_ended (expr_terminals place.Whole e) (all_expr place.Whole e h.3)))))
  all_decl_form (DeclForm.invariant n e) h = (w word.Invariant, join (label_terminals n) _ (all_label n h.0) (all_ended (expr_terminals place.Whole e) (all_expr place.Whole e h.1)))
  all_decl_form (DeclForm.proc (ProcTree.proc n ps t b)) h =
      (w word.Proc, (all_named n h.0, join (in_parens (params_terminals ps)) _ (all_parens (params_terminals ps) (all_params ps h.1)) (join (result_type_terminals t) _ (all_result_type t h.2) (all_block b h.3))))

  pub all_decl : (d : DeclTree) → FormedDecl L d → All (decl_terminals d)
  all_decl (DeclTree.node s f) h = all_decl_form f h
