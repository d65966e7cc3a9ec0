-- The token at which a phrase begins. Of an expression it is the first token of its own span: the parenthesis of its
-- first operand, where that stands in parentheses. A number that isn't negative is taken whole.
use Rattle.std.specs.Prelude.{◌+◌, ◌-◌, ◌==◌, ℤ, pos, negsuc, length, codes, if◌then◌else◌}
use Rattle.rp_span.specs.declared.Span.{Span}
use Rattle.rp_grammar.specs.declared.operator.CallWord.{CallWord}
use Rattle.rp_grammar.specs.declared.operator.CallWord.TheVariants as called
use Rattle.rp_grammar.specs.Trees.{Ident, ident, TypeTree, TypeForm, ParamTree, ExprTree, ExprForm, ExprTrees, AccessTree, BlockTree}
use Rattle.type_rules.specs.Names.{Name}

-- the word of this text at the start of a span
abbrev pub word_at : Name → Span → Span
word_at word at = record { from = at.from; to = at.from + length word }

-- one byte at the start of a span
abbrev pub mark_at : Span → Span
mark_at at = record { from = at.from; to = at.from + 1 }

abbrev pub span_of : Ident → Span
span_of (ident x at) = at

-- the closing brace
abbrev pub brace_of : BlockTree → Span
brace_of (BlockTree.block at stmts) = record { from = at.to - 1; to = at.to }

abbrev pub type_start : TypeTree → Span
type_start (TypeTree.node at (TypeForm.maybe t)) = word_at (codes "Maybe") at
type_start (TypeTree.node at form) = at

abbrev pub called_word : CallWord → Name
called_word called.Visible = codes "visible"
called_word called.Before = codes "before"
called_word called.Same = codes "same"
called_word called.Op = codes "op"
called_word called.Origin = codes "origin"
called_word called.Info = codes "info"
called_word called.Result = codes "result"

-- the first of several variables follows a word, a later one begins its own node
abbrev pub quantifier_start : Span → Name → ParamTree → Span
quantifier_start at word (ParamTree.param (ident x v) t) = if v.from == at.from then v else word_at word at

abbrev pub int_start : Span → ℤ → Span
int_start at (pos i) = at
int_start at (negsuc i) = mark_at at

-- a phrase that begins with an operand whose own span is `own` and begins with the token `token`
abbrev pub operand_start : Span → Span → Span → Span
operand_start at own token = if own.from == at.from then token else mark_at at

abbrev pub own_span : ExprTree → Span
own_span (ExprTree.node at form) = at

abbrev mutual
  pub start : ExprTree → Span
  start (ExprTree.node at form) = form_start at form

  pub form_start : Span → ExprForm → Span
  form_start at (ExprForm.implies a b) = operand_start at (own_span a) (start a)
  form_start at (ExprForm.or es) = first_start at es
  form_start at (ExprForm.and es) = first_start at es
  form_start at (ExprForm.not e) = mark_at at
  form_start at (ExprForm.forall p e) = quantifier_start at (codes "forall") p
  form_start at (ExprForm.exists p e) = quantifier_start at (codes "exists") p
  form_start at (ExprForm.compare c a b) = operand_start at (own_span a) (start a)
  form_start at (ExprForm.plus a b) = operand_start at (own_span a) (start a)
  form_start at (ExprForm.minus a b) = operand_start at (own_span a) (start a)
  form_start at (ExprForm.int i) = int_start at i
  form_start at (ExprForm.str bytes) = at
  form_start at (ExprForm.truth b) = at
  form_start at ExprForm.none_word = at
  form_start at (ExprForm.some_of e) = word_at (codes "some") at
  form_start at ExprForm.unreturned = at
  form_start at ExprForm.tx = at
  form_start at (ExprForm.call w es) = word_at (called_word w) at
  form_start at (ExprForm.match e arms) = word_at (codes "match") at
  form_start at (ExprForm.access (AccessTree.path x steps args)) = span_of x

  -- of a chain
  pub first_start : Span → ExprTrees → Span
  first_start at ExprTrees.no_exprs = at
  first_start at (ExprTrees.more_exprs e es) = operand_start at (own_span e) (start e)
