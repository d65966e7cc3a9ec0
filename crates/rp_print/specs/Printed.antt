-- The printed form of a program, as terminals and as bytes. An expression that is formed with an operator, `!` or a quantifier is in parentheses, unless it stands as a whole.
use Rattle.std.specs.Prelude.{ℕ, ℤ, zero, suc, pos, negsuc, ◌==◌, Bool, true, false, ◌||◌, if◌then◌else◌, List, [], ◌∷◌, ◌++◌, map, Option, Some, None}
use Rattle.std.specs.Fmt.{decimal}
use Rattle.std.specs.Str.{bytes_eq}
use Rattle.rp_print.specs.declared.Place.{Place}
use Rattle.rp_print.specs.declared.Place.TheVariants as place
use Rattle.rp_grammar.specs.declared.operator.CompareOp.{CompareOp}
use Rattle.rp_grammar.specs.declared.operator.CompareOp.TheVariants as compare
use Rattle.rp_grammar.specs.declared.operator.CallWord.{CallWord}
use Rattle.rp_grammar.specs.declared.operator.CallWord.TheVariants as called
use Rattle.rp_grammar.specs.declared.terminal.Word.{Word}
use Rattle.rp_grammar.specs.declared.terminal.Word.TheVariants as word
use Rattle.rp_grammar.specs.declared.terminal.Symbol.{Symbol}
use Rattle.rp_grammar.specs.declared.terminal.Symbol.TheVariants as symbol
use Rattle.rp_grammar.specs.Spelling.{spelling, mark}
use Rattle.rp_grammar.specs.Terminals.{Terminal, name, word, int, str, symbol, end}
use Rattle.rp_grammar.specs.Trees.{Ident, ident, TypeTree, TypeForm, ParamTree, CrdtTree, CrdtForm, FieldTree, FieldTrees, PatternTree}
use Rattle.rp_grammar.specs.Trees.{ExprTree, ExprForm, ExprTrees, ExprArmTree, ExprArmTrees, AccessTree, StepTree, StepTrees, ArgTrees}
use Rattle.rp_grammar.specs.Trees.{BlockTree, StmtTree, StmtForm, StmtTrees, ElseTree, BlockArmTree, BlockArmTrees}
use Rattle.rp_grammar.specs.Trees.{ConTree, QueryTree, ProcTree, DeclForm, DeclTree}

-- # Terminals

-- the further members of a list, each behind a separator
abbrev pub behind : Symbol → List (List Terminal) → List Terminal
behind m [] = []
behind m (x ∷ xs) = symbol m ∷ (x ++ behind m xs)

abbrev pub separated : Symbol → List (List Terminal) → List Terminal
separated m [] = []
separated m (x ∷ xs) = x ++ behind m xs

-- what stands before the member of this number, from 0
abbrev pub separator : Symbol → ℕ → List Terminal
separator m zero = []
separator m (suc i) = symbol m ∷ []

abbrev pub in_parens : List Terminal → List Terminal
in_parens ts = symbol symbol.OpenParen ∷ (ts ++ symbol symbol.CloseParen ∷ [])

abbrev pub in_brackets : List Terminal → List Terminal
in_brackets ts = symbol symbol.OpenBracket ∷ (ts ++ symbol symbol.CloseBracket ∷ [])

abbrev pub in_braces : List Terminal → List Terminal
in_braces ts = symbol symbol.OpenBrace ∷ (ts ++ symbol symbol.CloseBrace ∷ [])

abbrev pub name_terminal : Ident → Terminal
name_terminal (ident n s) = name n

abbrev mutual
  pub type_terminals : TypeTree → List Terminal
  type_terminals (TypeTree.node s f) = type_form_terminals f

  pub type_form_terminals : TypeForm → List Terminal
  type_form_terminals (TypeForm.named n) = name n ∷ []
  type_form_terminals TypeForm.bool = word word.Bool ∷ []
  type_form_terminals TypeForm.int = word word.Int ∷ []
  type_form_terminals TypeForm.text = word word.String ∷ []
  type_form_terminals (TypeForm.maybe t) = word word.Maybe ∷ in_brackets (type_terminals t)
  type_form_terminals TypeForm.call = word word.Call ∷ []
  type_form_terminals TypeForm.invocation = word word.Invocation ∷ []

abbrev pub param_terminals : ParamTree → List Terminal
param_terminals (ParamTree.param n t) = name_terminal n ∷ symbol symbol.Colon ∷ type_terminals t

abbrev pub params_terminals : List ParamTree → List Terminal
params_terminals ps = separated symbol.Comma (map param_terminals ps)

abbrev mutual
  pub crdt_terminals : CrdtTree → List Terminal
  crdt_terminals (CrdtTree.node s f) = crdt_form_terminals f

  pub crdt_form_terminals : CrdtForm → List Terminal
  crdt_form_terminals (CrdtForm.set_aw t) = word word.SetAw ∷ in_brackets (type_terminals t)
  crdt_form_terminals (CrdtForm.set_rw t) = word word.SetRw ∷ in_brackets (type_terminals t)
  crdt_form_terminals (CrdtForm.reg t) = word word.Reg ∷ in_brackets (type_terminals t)
  crdt_form_terminals (CrdtForm.mv_reg t) = word word.MvReg ∷ in_brackets (type_terminals t)
  crdt_form_terminals CrdtForm.counter = word word.Counter ∷ []
  crdt_form_terminals (CrdtForm.map_uw t c) = word word.MapUw ∷ in_brackets (type_terminals t ++ symbol symbol.Comma ∷ crdt_terminals c)
  crdt_form_terminals (CrdtForm.map_dw t c) = word word.MapDw ∷ in_brackets (type_terminals t ++ symbol symbol.Comma ∷ crdt_terminals c)
  crdt_form_terminals (CrdtForm.struct fs) = in_braces (separated symbol.Comma (fields_terminals fs))

  pub field_terminals : FieldTree → List Terminal
  field_terminals (FieldTree.field n c) = name_terminal n ∷ symbol symbol.Colon ∷ crdt_terminals c

  pub fields_terminals : FieldTrees → List (List Terminal)
  fields_terminals FieldTrees.no_fields = []
  fields_terminals (FieldTrees.more_fields f fs) = field_terminals f ∷ fields_terminals fs

-- the terminal of a pattern's constructor, which may be a word
abbrev pub con_terminal : Ident → Terminal
con_terminal (ident n s) =
    if bytes_eq n (spelling word.None) then word word.None
    else (if bytes_eq n (spelling word.Some) then word word.Some
    else (if bytes_eq n (spelling word.True) then word word.True
    else (if bytes_eq n (spelling word.False) then word word.False
    else name n)))

-- the variables of a pattern
abbrev pub vars_terminals : List Ident → List Terminal
vars_terminals [] = []
vars_terminals (v ∷ vs) = in_parens (separated symbol.Comma (map (λ n. name_terminal n ∷ []) (v ∷ vs)))

abbrev pub pattern_terminals : PatternTree → List Terminal
pattern_terminals (PatternTree.pattern c vs) = con_terminal c ∷ vars_terminals vs

abbrev pub compare_symbol : CompareOp → Symbol
compare_symbol compare.Equal = symbol.Equal
compare_symbol compare.NotEqual = symbol.NotEqual
compare_symbol compare.Less = symbol.Less
compare_symbol compare.AtMost = symbol.AtMost
compare_symbol compare.Greater = symbol.Greater
compare_symbol compare.AtLeast = symbol.AtLeast

abbrev pub call_word : CallWord → Word
call_word called.Visible = word.Visible
call_word called.Before = word.Before
call_word called.Same = word.Same
call_word called.Op = word.Op
call_word called.Origin = word.Origin
call_word called.Info = word.Info
call_word called.Result = word.Result

abbrev pub truth_word : Bool → Word
truth_word true = word.True
truth_word false = word.False

abbrev pub int_terminals : ℤ → List Terminal
int_terminals (pos n) = int n ∷ []
int_terminals (negsuc n) = symbol symbol.Minus ∷ int (suc n) ∷ []

-- is formed with an operator, `!` or a quantifier
abbrev pub is_composite : ExprForm → Bool
is_composite (ExprForm.implies a b) = true
is_composite (ExprForm.or es) = true
is_composite (ExprForm.and es) = true
is_composite (ExprForm.not e) = true
is_composite (ExprForm.forall p e) = true
is_composite (ExprForm.exists p e) = true
is_composite (ExprForm.compare c a b) = true
is_composite (ExprForm.plus a b) = true
is_composite (ExprForm.minus a b) = true
is_composite _ = false

abbrev pub is_negative : ExprForm → Bool
is_negative (ExprForm.int (negsuc n)) = true
is_negative _ = false

abbrev pub needs_parens : Place → ExprForm → Bool
needs_parens place.Whole f = false
needs_parens place.Argument f = is_composite f
needs_parens place.Operand f = is_composite f || is_negative f

abbrev pub enclosed : Bool → List Terminal → List Terminal
enclosed true ts = in_parens ts
enclosed false ts = ts

abbrev mutual
  pub expr_terminals : Place → ExprTree → List Terminal
  expr_terminals p (ExprTree.node s f) = enclosed (needs_parens p f) (form_terminals f)

  pub form_terminals : ExprForm → List Terminal
  form_terminals (ExprForm.implies a b) = expr_terminals place.Operand a ++ symbol symbol.Implies ∷ expr_terminals place.Operand b
  form_terminals (ExprForm.or es) = separated symbol.Or (exprs_terminals place.Operand es)
  form_terminals (ExprForm.and es) = separated symbol.And (exprs_terminals place.Operand es)
  form_terminals (ExprForm.not e) = symbol symbol.Not ∷ expr_terminals place.Operand e
  form_terminals (ExprForm.forall p e) = word word.Forall ∷ (param_terminals p ++ symbol symbol.DoubleColon ∷ expr_terminals place.Whole e)
  form_terminals (ExprForm.exists p e) = word word.Exists ∷ (param_terminals p ++ symbol symbol.DoubleColon ∷ expr_terminals place.Whole e)
  form_terminals (ExprForm.compare c a b) = expr_terminals place.Operand a ++ symbol (compare_symbol c) ∷ expr_terminals place.Operand b
  form_terminals (ExprForm.plus a b) = expr_terminals place.Operand a ++ symbol symbol.Plus ∷ expr_terminals place.Operand b
  form_terminals (ExprForm.minus a b) = expr_terminals place.Operand a ++ symbol symbol.Minus ∷ expr_terminals place.Operand b
  form_terminals (ExprForm.int n) = int_terminals n
  form_terminals (ExprForm.str bytes) = str bytes ∷ []
  form_terminals (ExprForm.truth b) = word (truth_word b) ∷ []
  form_terminals ExprForm.none_word = word word.None ∷ []
  form_terminals (ExprForm.some_of e) = word word.Some ∷ in_parens (expr_terminals place.Argument e)
  form_terminals ExprForm.unreturned = word word.Unreturned ∷ []
  form_terminals ExprForm.tx = word word.Tx ∷ []
  form_terminals (ExprForm.call w es) = word (call_word w) ∷ in_parens (separated symbol.Comma (exprs_terminals place.Argument es))
  form_terminals (ExprForm.match e as_) = word word.Match ∷ (in_parens (expr_terminals place.Whole e) ++ in_braces (separated symbol.Comma (arms_terminals as_)))
  form_terminals (ExprForm.access a) = access_terminals a

  pub exprs_terminals : Place → ExprTrees → List (List Terminal)
  exprs_terminals p ExprTrees.no_exprs = []
  exprs_terminals p (ExprTrees.more_exprs e es) = expr_terminals p e ∷ exprs_terminals p es

  pub arm_terminals : ExprArmTree → List Terminal
  arm_terminals (ExprArmTree.arm p e) = pattern_terminals p ++ symbol symbol.Arrow ∷ expr_terminals place.Argument e

  pub arms_terminals : ExprArmTrees → List (List Terminal)
  arms_terminals ExprArmTrees.no_expr_arms = []
  arms_terminals (ExprArmTrees.more_expr_arms a as_) = arm_terminals a ∷ arms_terminals as_

  pub access_terminals : AccessTree → List Terminal
  access_terminals (AccessTree.path n xs as_) = name_terminal n ∷ (steps_terminals xs ++ args_terminals as_)

  pub step_terminals : StepTree → List Terminal
  step_terminals (StepTree.dot n) = symbol symbol.Dot ∷ name_terminal n ∷ []
  step_terminals (StepTree.returned s) = symbol symbol.Dot ∷ word word.Returned ∷ []
  step_terminals (StepTree.key e) = in_brackets (expr_terminals place.Argument e)

  pub steps_terminals : StepTrees → List Terminal
  steps_terminals StepTrees.no_steps = []
  steps_terminals (StepTrees.more_steps x xs) = step_terminals x ++ steps_terminals xs

  pub args_terminals : ArgTrees → List Terminal
  args_terminals ArgTrees.absent = []
  args_terminals (ArgTrees.given es) = in_parens (separated symbol.Comma (exprs_terminals place.Argument es))

-- a further value, behind `=`
abbrev pub value_terminals : Option ExprTree → List Terminal
value_terminals None = []
value_terminals (Some e) = symbol symbol.Assign ∷ expr_terminals place.Whole e

abbrev pub result_terminals : Option ExprTree → List Terminal
result_terminals None = []
result_terminals (Some e) = expr_terminals place.Whole e

abbrev mutual
  pub block_terminals : BlockTree → List Terminal
  block_terminals (BlockTree.block s ss) = in_braces (stmts_terminals ss)

  pub stmts_terminals : StmtTrees → List Terminal
  stmts_terminals StmtTrees.no_stmts = []
  stmts_terminals (StmtTrees.more_stmts x xs) = stmt_terminals x ++ stmts_terminals xs

  pub stmt_terminals : StmtTree → List Terminal
  stmt_terminals (StmtTree.node s f) = stmt_form_terminals f

  pub stmt_form_terminals : StmtForm → List Terminal
  stmt_form_terminals (StmtForm.var n t e) = word word.Var ∷ name_terminal n ∷ symbol symbol.Colon ∷ (type_terminals t ++ (value_terminals e ++ symbol symbol.Semicolon ∷ []))
  stmt_form_terminals (StmtForm.new n t) = name_terminal n ∷ symbol symbol.Assign ∷ word word.New ∷ name_terminal t ∷ symbol symbol.Semicolon ∷ []
  stmt_form_terminals (StmtForm.assign n e) = name_terminal n ∷ symbol symbol.Assign ∷ (expr_terminals place.Whole e ++ symbol symbol.Semicolon ∷ [])
  stmt_form_terminals (StmtForm.access a) = access_terminals a ++ symbol symbol.Semicolon ∷ []
  stmt_form_terminals (StmtForm.if_ e b x) = word word.If ∷ (in_parens (expr_terminals place.Whole e) ++ (block_terminals b ++ else_terminals x))
  stmt_form_terminals (StmtForm.match e as_) = word word.Match ∷ (in_parens (expr_terminals place.Whole e) ++ in_braces (block_arms_terminals as_))
  stmt_form_terminals (StmtForm.atomic b) = word word.Atomic ∷ block_terminals b
  stmt_form_terminals (StmtForm.assert e) = word word.Assert ∷ (expr_terminals place.Whole e ++ symbol symbol.Semicolon ∷ [])
  stmt_form_terminals (StmtForm.return e) = word word.Return ∷ (result_terminals e ++ symbol symbol.Semicolon ∷ [])

  pub else_terminals : ElseTree → List Terminal
  else_terminals ElseTree.no_else = []
  else_terminals (ElseTree.else_block b) = word word.Else ∷ block_terminals b
  else_terminals (ElseTree.else_if x) = word word.Else ∷ stmt_terminals x

  pub block_arm_terminals : BlockArmTree → List Terminal
  block_arm_terminals (BlockArmTree.arm p b) = pattern_terminals p ++ symbol symbol.Arrow ∷ block_terminals b

  pub block_arms_terminals : BlockArmTrees → List Terminal
  block_arms_terminals BlockArmTrees.no_block_arms = []
  block_arms_terminals (BlockArmTrees.more_block_arms a as_) = block_arm_terminals a ++ block_arms_terminals as_

-- the fields of a constructor
abbrev pub con_fields_terminals : List ParamTree → List Terminal
con_fields_terminals [] = []
con_fields_terminals (p ∷ ps) = in_parens (params_terminals (p ∷ ps))

abbrev pub con_terminals : ConTree → List Terminal
con_terminals (ConTree.con n ps) = name_terminal n ∷ con_fields_terminals ps

-- a result's type, behind `:`
abbrev pub result_type_terminals : Option TypeTree → List Terminal
result_type_terminals None = []
result_type_terminals (Some t) = symbol symbol.Colon ∷ type_terminals t

-- an invariant's name, and `:` behind it
abbrev pub label_terminals : Option Ident → List Terminal
label_terminals None = []
label_terminals (Some n) = name_terminal n ∷ symbol symbol.Colon ∷ []

abbrev pub query_terminals : QueryTree → List Terminal
query_terminals (QueryTree.query n ps t e) = word word.Query ∷ name_terminal n ∷ (in_parens (params_terminals ps)
    ++ symbol symbol.Colon ∷ (type_terminals t ++ symbol symbol.Assign ∷ (expr_terminals place.Whole e ++ symbol symbol.Semicolon ∷ [])))

abbrev pub proc_terminals : ProcTree → List Terminal
proc_terminals (ProcTree.proc n ps t b) = word word.Proc ∷ name_terminal n ∷ (in_parens (params_terminals ps) ++ (result_type_terminals t ++ block_terminals b))

abbrev pub decl_form_terminals : DeclForm → List Terminal
decl_form_terminals (DeclForm.id_type n) = word word.IdType ∷ name_terminal n ∷ symbol symbol.Semicolon ∷ []
decl_form_terminals (DeclForm.opaque n) = word word.Type ∷ name_terminal n ∷ symbol symbol.Semicolon ∷ []
decl_form_terminals (DeclForm.datatype n cs) = word word.Datatype ∷ name_terminal n ∷ symbol symbol.Assign ∷ (separated symbol.Bar (map con_terminals cs) ++ symbol symbol.Semicolon ∷ [])
decl_form_terminals (DeclForm.crdt n c) = word word.Crdt ∷ name_terminal n ∷ symbol symbol.Colon ∷ (crdt_terminals c ++ symbol symbol.Semicolon ∷ [])
decl_form_terminals (DeclForm.query q) = query_terminals q
decl_form_terminals (DeclForm.invariant n e) = word word.Invariant ∷ (label_terminals n ++ (expr_terminals place.Whole e ++ symbol symbol.Semicolon ∷ []))
decl_form_terminals (DeclForm.proc p) = proc_terminals p

abbrev pub decl_terminals : DeclTree → List Terminal
decl_terminals (DeclTree.node s f) = decl_form_terminals f

-- # Bytes

-- a byte of a string as it is written
abbrev pub written : ℕ → List ℕ
written b = if b == 10 then 92 ∷ 110 ∷ [] else (if b == 34 || b == 92 then 92 ∷ b ∷ [] else b ∷ [])

abbrev pub escape : List ℕ → List ℕ
escape [] = []
escape (b ∷ bs) = written b ++ escape bs

abbrev pub spelled : Terminal → List ℕ
spelled (name n) = n
spelled (word w) = spelling w
spelled (int n) = decimal n
spelled (str bytes) = 34 ∷ (escape bytes ++ 34 ∷ [])
spelled (symbol m) = mark m
spelled end = []

-- each terminal behind a space
abbrev pub followed : List Terminal → List ℕ
followed [] = []
followed (t ∷ ts) = 32 ∷ (spelled t ++ followed ts)

-- the terminals with one space between two, and a newline
abbrev pub line : List Terminal → List ℕ
line [] = 10 ∷ []
line (t ∷ ts) = spelled t ++ (followed ts ++ 10 ∷ [])

-- one line a declaration
abbrev pub printed : List DeclTree → List ℕ
printed [] = []
printed (d ∷ ds) = line (decl_terminals d) ++ printed ds
