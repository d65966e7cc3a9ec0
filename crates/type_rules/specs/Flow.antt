-- Which variables are in sight behind a statement, and which of them have a value on every path to there.
use Rattle.std.specs.Prelude.{Bool, true, false, not, ◌&&◌, ◌||◌, List, [], ◌∷◌, ◌++◌, length, take, map, Option, Some, None, if◌then◌else◌}
use Rattle.rp_grammar.specs.Trees.{Ident, TypeTree, ExprTree, PatternTree, BlockTree, StmtTree, StmtForm, StmtTrees, ElseTree, BlockArmTree, BlockArmTrees}
use Rattle.type_rules.specs.declared.kind.Kind.{Kind}
use Rattle.type_rules.specs.Names.{Name, Names, same_name, text_of}
use Rattle.type_rules.specs.Kinds.{kind_of}
use Rattle.type_rules.specs.Accesses.{Var}
use Rattle.type_rules.specs.Typing.{type_of}
use Rattle.type_rules.specs.Matches.{pattern_vars, pattern_kinds, pattern_name, with_bound}

pub record Sight : Type 0 where
  pub vars : List Var
  -- some path comes here
  pub live : Bool

abbrev pub with_value : Var → Var
with_value v = record v { set = true }

-- the variable of this name has a value now
abbrev pub give : Name → List Var → List Var
give x [] = []
give x (v ∷ vs) = if same_name v.name x then with_value v ∷ vs else v ∷ give x vs

abbrev pub merge : Var → Var → Var
merge v w = record v { set = v.set && w.set }

-- what has a value on both ways has one behind them
abbrev pub both : List Var → List Var → List Var
both [] ws = []
both (v ∷ vs) [] = []
both (v ∷ vs) (w ∷ ws) = merge v w ∷ both vs ws

abbrev pub join : Sight → Sight → Sight
join a b = record { vars = both a.vars b.vars; live = a.live || b.live }

-- behind a block its own variables are out of sight
abbrev pub leave : Sight → Sight → Sight
leave g h = record { vars = take (length g.vars) h.vars; live = h.live }

-- where no path goes on, every variable has a value on every path
abbrev pub dead : Sight → Sight
dead g = record { vars = map with_value g.vars; live = false }

abbrev pub has_value : Option ExprTree → Bool
has_value None = false
has_value (Some e) = true

abbrev pub declared_var : Names → Bool → Ident → TypeTree → Var
declared_var n set x t = record { name = text_of x; kind = kind_of n t; set = set; fixed = false }

-- with a variable more, which has a value or not
abbrev pub with_declared : Names → Sight → Bool → Ident → TypeTree → Sight
with_declared n g set x t = record g { vars = g.vars ++ declared_var n (set || not g.live) x t ∷ [] }

-- in an arm for a term of this type
abbrev pub in_pattern : Names → Sight → Kind → PatternTree → Sight
in_pattern n g k p = record g { vars = with_bound g.vars (pattern_vars p) (pattern_kinds n k (pattern_name p)) }

abbrev mutual
  pub after : Names → Sight → StmtTree → Sight
  after n g (StmtTree.node at form) = after_form n g form

  pub after_form : Names → Sight → StmtForm → Sight
  after_form n g (StmtForm.var x t e) = with_declared n g (has_value e) x t
  after_form n g (StmtForm.new x t) = record g { vars = give (text_of x) g.vars }
  after_form n g (StmtForm.assign x e) = record g { vars = give (text_of x) g.vars }
  after_form n g (StmtForm.access a) = g
  after_form n g (StmtForm.if_ e b other) = join (after_block n g b) (after_else n g other)
  after_form n g (StmtForm.match e arms) = after_arms n g (type_of n g.vars None e) arms
  after_form n g (StmtForm.atomic b) = after_block n g b
  after_form n g (StmtForm.assert e) = g
  after_form n g (StmtForm.return e) = dead g

  pub after_stmts : Names → Sight → StmtTrees → Sight
  after_stmts n g StmtTrees.no_stmts = g
  after_stmts n g (StmtTrees.more_stmts s stmts) = after_stmts n (after n g s) stmts

  pub after_block : Names → Sight → BlockTree → Sight
  after_block n g (BlockTree.block at stmts) = leave g (after_stmts n g stmts)

  pub after_else : Names → Sight → ElseTree → Sight
  after_else n g ElseTree.no_else = g
  after_else n g (ElseTree.else_block b) = after_block n g b
  after_else n g (ElseTree.else_if s) = after n g s

  -- each path takes one of the arms
  pub after_arms : Names → Sight → Kind → BlockArmTrees → Sight
  after_arms n g k BlockArmTrees.no_block_arms = dead g
  after_arms n g k (BlockArmTrees.more_block_arms a arms) = join (after_arm n g k a) (after_arms n g k arms)

  pub after_arm : Names → Sight → Kind → BlockArmTree → Sight
  after_arm n g k (BlockArmTree.arm p b) = leave g (after_block n (in_pattern n g k p) b)
