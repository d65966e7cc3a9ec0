-- The places of a text at which rules look, each with what is known there.
use Rattle.std.specs.Prelude.{ℕ, Bool, List, Option}
use Rattle.rp_span.specs.declared.Span.{Span}
use Rattle.rp_grammar.specs.declared.operator.CallWord.{CallWord}
use Rattle.rp_grammar.specs.Trees.{Ident, TypeTree, ExprTree, AccessTree}
use Rattle.type_rules.specs.declared.kind.Kind.{Kind}
use Rattle.type_rules.specs.declared.role.Role.{Role}
use Rattle.type_rules.specs.Names.{Name}
use Rattle.type_rules.specs.Accesses.{Var}

-- what is known where an expression stands
pub record Scope : Type 0 where
  -- the variables in sight
  pub vars : List Var
  -- the variables that are declared later in this or an enclosing block
  pub later : List Name
  -- the number of the declaration in which it stands
  pub decl : ℕ
  -- the words on calls and invocations may stand here
  pub words : Bool

-- what the place of an expression asks
pub record Want : Type 0 where
  -- the type, if it asks one
  pub asked : Option Kind
  -- the rule that another type breaks; 18 where any datatype will do
  pub rule : ℕ
  -- a plain term
  pub plain : Bool
  -- the word that the other side is, where the place is a side of `==` or `!=`
  pub across : Option CallWord

-- where a `return` stands
pub record Leaving : Type 0 where
  pub inside_atomic : Bool
  pub last_in_block : Bool
  pub has_value : Bool
  pub has_result : Bool

pub data Site : Type 0 where
  place : Scope → Want → ExprTree → Site
  -- an access that is a statement
  statement : Scope → AccessTree → Site
  -- a declared name, with those before it from which it has to differ
  named : List Name → Ident → Site
  -- a type, in the declaration of this number
  written : ℕ → Role → TypeTree → Site
  -- the type after `new`, in the declaration of this number, for this variable
  made : ℕ → Option Var → Ident → Site
  -- a variable's declaration
  declares : List Var → Ident → Site
  -- an assigned name
  assigns : Scope → Ident → Site
  -- the word `match` on a term of this type, with the constructors that have an arm
  arms : Span → Kind → List Name → Site
  -- a pattern for a term of this type, with the constructors of the arms before it, and how many variables it has
  pattern : Kind → List Name → Ident → ℕ → Site
  -- the word `atomic`, inside of another or not
  opens : Bool → Span → Site
  leaves : Leaving → Span → Site
  -- the closing brace of a procedure: some path comes to it, and the procedure has a result
  closes : Bool → Bool → Span → Site
