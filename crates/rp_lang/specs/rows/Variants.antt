-- Small programs over two sets of ids, each with one thing to look at.
use Rattle.std.specs.Prelude.{ℕ, zero, suc, List, [], ◌∷◌, codes, Option, None}
use Rattle.rp_span.specs.declared.Span.{Span}
use Rattle.rp_value.specs.declared.tables.Ty.{Ty}
use Rattle.rp_value.specs.declared.tables.ConDecl.{ConDecl}
use Rattle.rp_value.specs.declared.tables.DataDecl.{DataDecl}
use Rattle.rp_lang.specs.declared.op.OpDecl.{OpDecl}
use Rattle.rp_lang.specs.declared.op.PathStep.{PathStep}
use Rattle.rp_lang.specs.declared.op.OpKind.TheVariants.{Increment}
use Rattle.rp_lang.specs.declared.query.QueryDecl.{QueryDecl}
use Rattle.rp_lang.specs.Crdts.{Cr, Counter, MapUw}
use Rattle.rp_lang.specs.Exprs.{Ex, Slot, Con, no_ex}
use Rattle.rp_lang.specs.Formulas.{Fo, All, Not, Holds}
use Rattle.rp_lang.specs.Stmts.{St, New, Operate, Sts, no_st, also_st}
use Rattle.rp_lang.specs.Programs.{Proc, Prog}
use Rattle.rp_lang.specs.FirstForm.{tx}
use Rattle.rp_lang.specs.rows.Samples.{span, one, id, over_sets, removes_users}

abbrev pub here : Span
here = span 0 0

abbrev pub id_expr : Ex
id_expr = Slot 0

-- # Procedures

-- with these statements
abbrev pub block : List St → Sts
block [] = no_st
block (s ∷ ss) = also_st s (block ss)

abbrev pub with_result : Option Ty → List Ty → List Ty → List St → Prog
with_result result params slots body = over_sets [] (record {
  name = codes "p";
  at = here;
  end = here;
  params = params;
  result = result;
  slots = slots;
  body = block body;
} ∷ [])

-- procedures of these names that do nothing
abbrev pub named_procs : List (List ℕ) → List Proc
named_procs [] = []
named_procs (name ∷ names) = record {
  name = name;
  at = here;
  end = here;
  params = [];
  result = None;
  slots = [];
  body = no_st;
} ∷ named_procs names

abbrev pub with_procs : List (List ℕ) → Prog
with_procs names = over_sets [] (named_procs names)

-- one procedure with these parameters and slots
abbrev pub procedure : List Ty → List Ty → List St → Prog
procedure params slots body = with_result None params slots body

-- an id in slot 0, which is no parameter, is new
abbrev pub makes : St
makes = New here 0 0

-- users.add(u), with u in slot 0
abbrev pub adds : St
adds = Operate here 1 (one id_expr)

-- # Invariants

-- one invariant
abbrev pub claims : Fo → Prog
claims f = over_sets (record { name = codes "i"; at = here; body = f } ∷ []) []

abbrev pub yes : Fo
yes = Holds (Con 1 no_ex)

-- so many quantifiers over ids
abbrev pub quantified : ℕ → Fo
quantified zero = yes
quantified (suc n) = All id (quantified n)

-- the formula in so many negations
abbrev pub negated : ℕ → Fo → Fo
negated zero f = f
negated (suc n) f = Not (negated n f)

-- # Types

abbrev pub with_types : List DataDecl → List ConDecl → Prog
with_types datatypes cons = record removes_users {
  types = record { atoms = removes_users.types.atoms; datatypes = record { name = codes "Bool"; cons = 0 ∷ 1 ∷ [] } ∷ datatypes };
  cons = record { cons = record { name = codes "false"; of = 0; fields = [] } ∷ record { name = codes "true"; of = 0; fields = [] } ∷ cons };
}

-- a datatype of these constructors, named by their numbers
abbrev pub data_of : List ℕ → DataDecl
data_of cons = record { name = cons; cons = cons }

-- a constructor of datatype n with these fields, named by its datatype's number
abbrev pub con : ℕ → List Ty → ConDecl
con n fields = record { name = n ∷ []; of = n; fields = fields }

-- # Roots and operations

-- so many maps from ids inside one another, around a counter
abbrev pub maps : ℕ → Cr
maps zero = Counter
maps (suc n) = MapUw id (maps n)

-- the program with the increments of such a root
abbrev pub with_maps : ℕ → List PathStep → List Ty → Prog
with_maps depth path args = record removes_users {
  roots = record { name = codes "r"; crdt = maps depth } ∷ [];
  ops = tx ∷ record { root = 0; path = path; kind = Increment; args = args } ∷ [];
  queries = [];
  invs = [];
  procs = [];
}

-- the operations of the sample, and this one
abbrev pub with_op : OpDecl → Prog
with_op op = record removes_users { ops = tx ∷ op ∷ []; procs = []; invs = [] }

abbrev pub with_query : QueryDecl → Prog
with_query query = record removes_users { queries = query ∷ []; procs = []; invs = [] }
