-- What the bodies of a text's queries say.
use Rattle.std.specs.Prelude.{◌≡◌, ◌<◌, ℕ, List, [], length, Option, Some, option_map, option_and_then, slice_get}
use Rattle.rp_span.specs.declared.Span.{Span}
use Rattle.rp_grammar.specs.Trees.{QueryTree, DeclTree, DeclForm}
use Rattle.rp_lang.specs.Exprs.{Exs}
use Rattle.rp_lang.specs.Programs.{Inv, Proc}
use Rattle.type_rules.specs.Kinds.{bool_kind, kind_of}
use Rattle.type_rules.specs.Names.{Name, Names, Entry, Declared, entry_named}
use Rattle.type_rules.specs.Accesses.{query_params, proc_params}
use Rattle.desugaring.specs.Tables.{Tables}
use Rattle.desugaring.specs.Expressions as spec
use Rattle.desugaring.specs.Programs.{InvTree, ProcDecl, inv_with, proc_made, proc_body, body_place, param_stands}
use Rattle.desugaring.specs.Statements.{block}
use Rattle.query_bodies.specs.Terms.{Said}
use Rattle.query_bodies.specs.Expanded.{Uses, Saids, all_uses, given_of, said_under}
use Rattle.query_laws.specs.Sight.{Follows, uses_with, Says, in_body}

-- # Queries

-- declaration number k is this query
abbrev pub IsQueryAt : List DeclTree → ℕ → QueryTree → Type 0
IsQueryAt tree k q = (at : Span) × (slice_get tree k ≡ Some (DeclTree.node at (DeclForm.query q)))

-- the query that a name stands for, by the number of its declaration
pub record IsNamed (n : Names) (k : ℕ) (q : QueryTree) : Type 0 where
  pub name : Name
  pub entry : Entry
  pub there : entry_named n name ≡ Some entry
  pub decl : entry.decl ≡ k
  pub what : entry.what ≡ Declared.query q

-- the queries that names stand for are those of this text
abbrev pub AreOf : Names → List DeclTree → Type 0
AreOf n tree = (k : ℕ) (q : QueryTree) → IsNamed n k q → IsQueryAt tree k q

-- as many arguments as the query takes
abbrev pub AreEnough : QueryTree → Exs → Type 0
AreEnough q es = length (given_of es) ≡ length (query_params q)

-- with the arguments put in it is the body's value, where the body has one
abbrev pub IsBodyOf : Tables → Uses → QueryTree → Said → Type 0
IsBodyOf t uses q s =
    (es : Exs) → AreEnough q es → Follows (spec.body_value t (uses_with uses) q es) (said_under uses (given_of es) 0 s)

-- so it says in the sight of its parameters
abbrev pub IsSaidBody : Tables → Uses → QueryTree → Said → Type 0
IsSaidBody t uses (QueryTree.query x params result body) s =
    Says (in_body t uses params) (Some (kind_of t.names result)) body s

-- Bodies of the first declarations of a text: uses of their queries become what the definitions make of them, where they make
-- something.
abbrev pub AreBodiesOf : Tables → List DeclTree → Saids → Type 0
AreBodiesOf t tree bodies =
    (n k : ℕ) (q : QueryTree) (es : Exs) → k < length bodies → IsQueryAt tree k q → AreEnough q es
    → Follows (spec.uses_before t n k q es) (all_uses bodies k (given_of es))

-- what the next declaration says, if it is a query
abbrev pub IsNext : Tables → List DeclTree → Saids → Option Said → Type 0
IsNext t tree bodies o =
    (q : QueryTree) → IsQueryAt tree (length bodies) q → (s : Said) × (o ≡ Some s) × IsBodyOf t (all_uses bodies) q s

-- # Invariants and procedures, by the bodies: the number of the declaration tells nothing

abbrev pub inv_by : Tables → Saids → InvTree → Option Inv
inv_by t bodies d = option_map (inv_with d) (spec.value t (uses_with (all_uses bodies)) [] (Some bool_kind) d.body)

abbrev pub proc_by : Tables → Saids → ProcDecl → Option Proc
proc_by t bodies d =
    option_and_then (proc_made t d)
    (block t (uses_with (all_uses bodies)) (body_place t.names d) (param_stands t.names d) (length (proc_params d.tree))
    (proc_body d.tree))
