-- What a reader has in sight, and what it leaves as it was.
use Rattle.std.specs.Prelude.{◌≡◌, ℕ, ◌+◌, List, [], ◌∷◌, ◌++◌, length, map, take, Option, Some}
use Rattle.rp_span.specs.declared.Span.{Span}
use Rattle.rp_grammar.specs.Trees.{Ident, ParamTree, ExprTree, ExprForm, AccessTree}
use Rattle.type_rules.specs.declared.kind.Kind.{Kind}
use Rattle.type_rules.specs.Names.{Names, param_name, param_type}
use Rattle.type_rules.specs.Kinds.{kind_of}
use Rattle.type_rules.specs.Matches.{bound_var, first_kind, other_kinds}
use Rattle.query_bodies.specs.Terms.{Said, Tes}
use Rattle.type_rules.specs.Accesses.{Var, Access, access_of}
use Rattle.text_tables.specs.Seen.{tables_view}
use Rattle.desugaring.specs.Callees.{vars_of, Called, called}
use Rattle.query_bodies.specs.Expanded.{uses_of}
use Rattle.query_laws.specs.Sight.{Known, in_slot, of_param, at_level, Sight, Says, IsCall, seen}
use Rattle.reading.specs.declared.reader.Known as code_known
use Rattle.reading.specs.declared.reader.Known.TheVariants as known
use Rattle.reading.specs.declared.reader.Reader.{Reader}

abbrev pub known_view : code_known.Known → Known
known_view (known.Slot s) = in_slot s
known_view (known.Param p) = of_param p
known_view (known.Level n) = at_level n

abbrev pub sight_of : Reader → Sight
sight_of r = record {
  tables = tables_view r.tables.now;
  uses = uses_of r.bodies.now;
  vars = seen r.vars (map known_view r.known);
  binders = r.binders;
}

-- each variable stands for something, and the type rules see the same ones
pub record IsKept (r : Reader) : Type 0 where
  pub long : length r.vars ≡ length r.known
  pub rules : vars_of (seen r.vars (map known_view r.known)) ≡ r.vars

-- the reader is as it was, and this holds
pub record Leaves (old new : Reader) (Q : Type 0) : Type 0 where
  pub same : new ≡ old
  pub says : Q

-- what is read says this in the reader's sight
pub record Reads (old new : Reader) (P : Sight → Type 0) : Type 0 where
  pub left : IsKept old → Leaves old new (P (sight_of old))

-- # Variables that come in sight and go

abbrev pub with_var : Reader → Var → code_known.Known → Reader
with_var r v k = record r { vars = r.vars ++ v ∷ []; known = r.known ++ k ∷ [] }

-- the variable of a binder
abbrev pub under_var : Reader → Var → Reader
under_var r v = record r { vars = r.vars ++ v ∷ []; known = r.known ++ known.Level r.binders ∷ []; binders = r.binders + 1 }

-- with so many variables, under so many binders
abbrev pub back_to : ℕ → ℕ → Reader → Reader
back_to len binders r = record r { vars = take len r.vars; known = take len r.known; binders = binders }

-- those of the variables of a pattern
abbrev pub under_vars : Reader → List Ident → List Kind → Reader
under_vars r [] ks = r
under_vars r (x ∷ xs) ks = under_vars (under_var r (bound_var x (first_kind ks))) xs (other_kinds ks)

-- the parameters of a query, each with its number
abbrev pub with_params : Names → Reader → List ParamTree → Reader
with_params n r [] = r
with_params n r (p ∷ ps) =
    with_params n (with_var r (bound_var (param_name p) (kind_of n (param_type p))) (known.Param (length r.known))) ps

-- # Forms

abbrev pub ReadsForm : Reader → Reader → ExprForm → Said → Type 0
ReadsForm old new form made = (at : Span) (asked : Option Kind) → Reads old new (λ s. Says s asked (ExprTree.node at form) made)

-- # Calls

-- what the access is says this with these keys and arguments
abbrev pub IsCalled : Reader → Access → AccessTree → Tes → Said → Type 0
IsCalled r what access args made =
    IsKept r → what ≡ access_of (sight_of r).tables.names r.vars access
    → (c : Called Known) → called (sight_of r).tables (sight_of r).vars access ≡ Some c
    → IsCall (sight_of r).uses c.what args made
