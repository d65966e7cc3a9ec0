-- Where a reader of tokens stands. The machine is a means of proof: it takes tokens one by one, and what is open around the place where it stands is a function from the phrase that is read now to the state behind it. So `want_type d k` wants a type, at the nesting d, and behind a type t it is `k t`.
use Rattle.std.specs.Prelude.{ℕ, Bool, not, false, IsTrue, List, Option, Some, None}
use Rattle.std.specs.Str.{bytes_eq}
use Rattle.rp_span.specs.declared.Span.{Span}
use Rattle.rp_grammar.specs.declared.terminal.Word.{Word}
use Rattle.rp_grammar.specs.declared.terminal.Symbol.{Symbol}
use Rattle.rp_grammar.specs.Spelling.{spelling, mark}
use Rattle.rp_grammar.specs.Terminals.{Terminal, name, word, symbol}
use Rattle.rp_grammar.specs.Trees.{Ident, ident, TypeTree, ParamTree, CrdtTree, FieldTree, PatternTree, ExprTree, ExprArmTree, AccessTree, StepTree, BlockTree, StmtTree, BlockArmTree, ConTree, DeclTree}
use Rattle.rp_grammar.specs.Parts.{Part}
use Rattle.rp_grammar.specs.Exprs.{Quantifier, goes_on}

abbrev pub is_symbol : Symbol → Terminal → Bool
is_symbol m (symbol s) = bytes_eq (mark m) (mark s)
is_symbol m _ = false

abbrev pub is_word : Word → Terminal → Bool
is_word w (word v) = bytes_eq (spelling w) (spelling v)
is_word w _ = false

abbrev pub ident_span : Ident → Span
ident_span (ident n s) = s

-- `want_`: this has to come. `if_`: this may come, and where it doesn't the next token is one of the state in the last place. `more_`: a list's further members may come, behind those that are read.
pub data State : Type 0 where
  -- behind the end of the text, with its declarations
  finished : List DeclTree → State
  -- one token: of a symbol the state gets the span. A symbol that could go on with a quantifier's body is never wanted
  want_symbol : (m : Symbol) → IsTrue (not (goes_on (symbol m))) → ℕ → (Span → State) → State
  want_name : ℕ → (Ident → State) → State
  want_int : ℕ → (ℕ → Span → State) → State
  if_symbol : Symbol → ℕ → (Span → State) → State → State
  if_word : Word → ℕ → (Span → State) → State → State
  if_name : ℕ → (Ident → State) → State → State
  -- type
  want_type : ℕ → (TypeTree → State) → State
  -- {"," NAME ":" type} behind these parameters
  more_params : ℕ → List ParamTree → (List ParamTree → State) → State
  -- crdt
  want_crdt : ℕ → (CrdtTree → State) → State
  -- {"," NAME ":" crdt} behind these fields
  more_fields : ℕ → List FieldTree → (List FieldTree → State) → State
  -- {"," NAME} behind these variables of a pattern
  more_names : ℕ → List Ident → (List Ident → State) → State
  -- pattern
  want_pattern : ℕ → (PatternTree → State) → State
  -- notx
  want_operand : ℕ → (Part ExprTree → State) → State
  -- prim
  want_prim : ℕ → (Part ExprTree → State) → State
  -- {"&&" notx} behind the first member and others
  more_and : ℕ → Part ExprTree → List (Part ExprTree) → (Part ExprTree → State) → State
  -- {"||" andx} behind the first member and others
  more_or : ℕ → Part ExprTree → List (Part ExprTree) → (Part ExprTree → State) → State
  -- ["==>" expr] behind the left operand
  more_implies : ℕ → Part ExprTree → (Part ExprTree → State) → State
  -- [compare sum] behind the left operand
  more_cmp : ℕ → Part ExprTree → (Part ExprTree → State) → State
  -- {("+"|"-") prim} behind the sum so far
  more_sum : ℕ → Part ExprTree → (Part ExprTree → State) → State
  -- {"," NAME ":" type} "::" expr behind the type of a variable whose node starts at the span
  have_bound : Quantifier → ℕ → Span → Ident → TypeTree → (Part ExprTree → State) → State
  -- behind a quantifier's body: as the other state, but for a token that would go on with the body
  stopping : State → State
  -- {"," expr} behind these
  more_exprs : ℕ → List ExprTree → (List ExprTree → State) → State
  -- {"," pattern "=>" expr} behind these
  more_expr_arms : ℕ → List ExprArmTree → (List ExprArmTree → State) → State
  -- the rest of an access behind its root and these steps, which reach over the span
  in_access : ℕ → Ident → List StepTree → Span → (Part AccessTree → State) → State
  -- {stmt} behind these
  in_stmts : ℕ → List StmtTree → (List StmtTree → State) → State
  -- ["else" (block | ifstmt)] behind an `if` that starts at the span, its condition and its block
  more_if : ℕ → Span → ExprTree → BlockTree → (StmtTree → State) → State
  -- {pattern "=>" block} behind these
  in_block_arms : ℕ → List BlockArmTree → (List BlockArmTree → State) → State
  -- {"|" con} behind these
  more_cons : List ConTree → (List ConTree → State) → State
  -- {decl} and the end, behind these
  in_decls : List DeclTree → State

-- what a token does: it is at this nesting, and leads to this state
pub data Move : Type 0 where
  to : ℕ → State → Move

-- the first, or else the other
abbrev pub or_else : Option Move → Option Move → Option Move
or_else None b = b
or_else (Some m) b = Some m

-- a name, and nothing else
abbrev pub name_step : ℕ → (Ident → State) → Terminal → Span → Option Move
name_step d k (name n) s = Some (to d (k (ident n s)))
name_step d k _ s = None

-- a name, or else the other
abbrev pub name_or : ℕ → (Ident → State) → Terminal → Span → Option Move → Option Move
name_or d k (name n) s other = Some (to d (k (ident n s)))
name_or d k _ s other = other
