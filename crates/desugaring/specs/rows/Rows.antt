-- Small texts, expressions and statements, each above its tree, for worked rows. What has no span of its own stands at 0.
use Rattle.std.specs.Prelude.{ℕ, zero, suc, ◌+◌, ℤ, pos, true, List, [], ◌∷◌, ◌++◌, map, replicate, codes, Option, Some, None, false, option_and_then}
use Rattle.rp_span.specs.declared.Span.{Span}
use Rattle.rp_value.specs.declared.tables.Ty.{Ty}
use Rattle.rp_value.specs.declared.tables.Ty.TheVariants.{Atom}
use Rattle.rp_value.specs.declared.tables.ConDecl.{ConDecl}
use Rattle.rp_lang.specs.declared.limit.LimitName.{LimitName}
use Rattle.rp_lang.specs.declared.op.OpDecl.{OpDecl}
use Rattle.rp_lang.specs.declared.op.OpKind.{OpKind}
use Rattle.rp_lang.specs.declared.op.PathStep.{PathStep}
use Rattle.rp_lang.specs.declared.op.PathStep.TheVariants.{Field, Key}
use Rattle.rp_lang.specs.declared.query.QueryDecl.{QueryDecl}
use Rattle.rp_lang.specs.declared.query.QueryKind.{QueryKind}
use Rattle.rp_grammar.specs.declared.operator.CompareOp.{CompareOp}
use Rattle.rp_grammar.specs.declared.operator.CompareOp.TheVariants as compare
use Rattle.rp_grammar.specs.declared.operator.CallWord.{CallWord}
use Rattle.rp_grammar.specs.Trees.{Ident, ident, TypeTree, TypeForm, ParamTree, CrdtTree, CrdtForm, FieldTree, PatternTree, ExprTree, ExprForm, ExprArmTree, AccessTree, StepTree, ArgTrees, BlockTree, StmtTree, StmtForm, ElseTree, BlockArmTree, ConTree, QueryTree, ProcTree, DeclTree, DeclForm, fields, exprs, expr_arms, steps, stmts, block_arms}
use Rattle.rp_grammar.specs.rows.Rows.{span}
use Rattle.rp_lang.specs.Exprs.{Ex, Slot, Exs, no_ex, also_ex}
use Rattle.rp_lang.specs.Formulas.{Fo, Or, Not, Holds, no_fo, also_fo}
use Rattle.rp_lang.specs.Stmts.{St, Assert, Atomic, Sts, no_st, also_st}
use Rattle.rp_lang.specs.Types.{bool_ty}
use Rattle.rp_lang.specs.Programs.{Proc, Prog}
use Rattle.type_rules.specs.declared.kind.Kind.{Kind}
use Rattle.type_rules.specs.declared.kind.Base.TheVariants as base
use Rattle.type_rules.specs.Kinds.{bool_kind, int_kind, maybe_of, plain_kind}
use Rattle.desugaring.specs.Tables.{Tables, tables_of}
use Rattle.desugaring.specs.Values.{Value}
use Rattle.desugaring.specs.Callees.{Vars, stand}
use Rattle.desugaring.specs.Expressions.{value, uses_before}
use Rattle.desugaring.specs.Statements.{Place, Made, block}
use Rattle.desugaring.specs.Programs.{program_of}
use Rattle.desugaring.specs.Limits.{first_limit}

-- # Trees

abbrev pub here : Span
here = span 0 0

abbrev pub id : List ℕ → Ident
id x = ident x here

abbrev pub ty : TypeForm → TypeTree
ty form = TypeTree.node here form

abbrev pub type_of_ids : TypeTree
type_of_ids = ty (TypeForm.named (codes "U"))

abbrev pub int : TypeTree
int = ty TypeForm.int

abbrev pub bool : TypeTree
bool = ty TypeForm.bool

abbrev pub maybe : TypeTree → TypeTree
maybe t = ty (TypeForm.maybe t)

abbrev pub param : List ℕ → TypeTree → ParamTree
param x t = ParamTree.param (id x) t

abbrev pub ex : ExprForm → ExprTree
ex form = ExprTree.node here form

abbrev pub var : List ℕ → ExprTree
var x = ex (ExprForm.access (AccessTree.path (id x) (steps []) ArgTrees.absent))

abbrev pub number : ℤ → ExprTree
number n = ex (ExprForm.int n)

abbrev pub on : List ℕ → List StepTree → List ExprTree → AccessTree
on root path args = AccessTree.path (id root) (steps path) (ArgTrees.given (exprs args))

abbrev pub call : List ℕ → List StepTree → List ExprTree → ExprTree
call root path args = ex (ExprForm.access (on root path args))

abbrev pub dot : List ℕ → StepTree
dot x = StepTree.dot (id x)

abbrev pub at : ExprTree → StepTree
at e = StepTree.key e

abbrev pub comparison : CompareOp → ExprTree → ExprTree → ExprTree
comparison c a b = ex (ExprForm.compare c a b)

abbrev pub word : CallWord → List ExprTree → ExprTree
word w es = ex (ExprForm.call w (exprs es))

abbrev pub decl : DeclForm → DeclTree
decl form = DeclTree.node here form

abbrev pub crdt : List ℕ → CrdtForm → DeclTree
crdt x form = decl (DeclForm.crdt (id x) (CrdtTree.node here form))

abbrev pub query : List ℕ → List ParamTree → TypeTree → ExprTree → DeclTree
query x params result body = decl (DeclForm.query (QueryTree.query (id x) params result body))

-- a procedure of nothing but its head
abbrev pub head : List ℕ → List ParamTree → Option TypeTree → DeclTree
head x params result = decl (DeclForm.proc (ProcTree.proc (id x) params result (BlockTree.block here (stmts []))))

-- a statement from k to k + 1
abbrev pub st : ℕ → StmtForm → StmtTree
st k form = StmtTree.node (span k (suc k)) form

abbrev pub body : List StmtTree → BlockTree
body xs = BlockTree.block here (stmts xs)

-- # A procedure over a truth value

abbrev pub holds_b : Fo
holds_b = Holds (Slot 0)

-- proc p(b: Bool) { assert b || !b; }
abbrev pub tautology : Proc
tautology = record {
  name = codes "p";
  at = span 0 35;
  end = span 34 35;
  params = bool_ty ∷ [];
  result = None;
  slots = bool_ty ∷ [];
  body = also_st (Assert (span 18 33) (Or (also_fo holds_b (also_fo (Not holds_b) no_fo)))) no_st;
}

-- # A text

-- last.get()
abbrev pub last_get : ExprTree
last_get = call (codes "last") (dot (codes "get") ∷ []) []

-- users.contains(u)
abbrev pub users_contains : ExprTree → ExprTree
users_contains u = call (codes "users") (dot (codes "contains") ∷ []) (u ∷ [])

-- idtype U;
-- datatype D = nothing | both(n: Int, b: Bool);
-- crdt users: SetAw[U];
-- crdt last: Reg[Int];
-- crdt m: MapUw[U, { hits: Counter, seen: SetRw[Int] }];
-- query inc(n: Int): Int = 3 + n;
-- query more(n: Int): Int = inc(n) + n;
-- query has(u: U): Bool = users.contains(u);
-- query other(v: U): Bool = exists w: U :: w != v;
-- query drops(n: Int): Int = 0;
-- proc p(u: U): Maybe[Int] { }
-- proc q() { }
abbrev pub text : List DeclTree
text =
    let con : ConTree = ConTree.con (id (codes "nothing")) [] in
    let con_both : ConTree = ConTree.con (id (codes "both")) (param (codes "n") int ∷ param (codes "b") bool ∷ []) in
    let hits : FieldTree = FieldTree.field (id (codes "hits")) (CrdtTree.node here CrdtForm.counter) in
    let seen : FieldTree = FieldTree.field (id (codes "seen")) (CrdtTree.node here (CrdtForm.set_rw int)) in
    decl (DeclForm.id_type (id (codes "U")))
    ∷ decl (DeclForm.datatype (id (codes "D")) (con ∷ con_both ∷ []))
    ∷ crdt (codes "users") (CrdtForm.set_aw type_of_ids)
    ∷ crdt (codes "last") (CrdtForm.reg int)
    ∷ crdt (codes "m") (CrdtForm.map_uw type_of_ids (CrdtTree.node here (CrdtForm.struct (fields (hits ∷ seen ∷ [])))))
    ∷ query (codes "inc") (param (codes "n") int ∷ []) int (ex (ExprForm.plus (number (pos 3)) (var (codes "n"))))
    ∷ query (codes "more") (param (codes "n") int ∷ []) int
    (ex (ExprForm.plus (call (codes "inc") [] (var (codes "n") ∷ [])) (var (codes "n"))))
    ∷ query (codes "has") (param (codes "u") type_of_ids ∷ []) bool (users_contains (var (codes "u")))
    ∷ query (codes "other") (param (codes "v") type_of_ids ∷ []) bool
    (ex (ExprForm.exists (param (codes "w") type_of_ids) (comparison compare.NotEqual (var (codes "w")) (var (codes "v")))))
    ∷ query (codes "drops") (param (codes "n") int ∷ []) int (number (pos 0))
    ∷ head (codes "p") (param (codes "u") type_of_ids ∷ []) (Some (maybe int))
    ∷ head (codes "q") [] None
    ∷ []

abbrev pub tables : Tables
tables = tables_of text

abbrev pub id_kind : Kind
id_kind = plain_kind (base.Declared 0)

abbrev pub data_kind : Kind
data_kind = plain_kind (base.Declared 1)

-- u: U, n: Int, b: Bool, d: D and o: Maybe[Int], in slots 0 to 4
abbrev pub in_sight : Vars
in_sight =
    stand (codes "u") id_kind (Slot 0) ∷ stand (codes "n") int_kind (Slot 1) ∷ stand (codes "b") bool_kind (Slot 2)
    ∷ stand (codes "d") data_kind (Slot 3) ∷ stand (codes "o") (maybe_of int_kind) (Slot 4) ∷ []

-- of an expression at a place that asks the type, behind all of the text
abbrev pub means : Option Kind → ExprTree → Option Value
means asked e = value tables (uses_before tables 12) in_sight asked e

abbrev pub outside : Option Kind → Place
outside result = record { result = result; inside_atomic = false }

-- of statements outside `atomic`, in a procedure with that result, from slot 5 on
abbrev pub becomes : Option Kind → List StmtTree → Option Made
becomes result xs = block tables (uses_before tables 12) (outside result) in_sight 5 (body xs)

-- # Expressions

abbrev pub u : ExprTree
u = var (codes "u")

abbrev pub n : ExprTree
n = var (codes "n")

abbrev pub b : ExprTree
b = var (codes "b")

abbrev pub d : ExprTree
d = var (codes "d")

abbrev pub o : ExprTree
o = var (codes "o")

abbrev pub c : ExprTree
c = var (codes "c")

abbrev pub i : ExprTree
i = var (codes "i")

abbrev pub none : ExprTree
none = ex ExprForm.none_word

abbrev pub some : ExprTree → ExprTree
some e = ex (ExprForm.some_of e)

abbrev pub plus : ExprTree → ExprTree → ExprTree
plus x y = ex (ExprForm.plus x y)

abbrev pub minus : ExprTree → ExprTree → ExprTree
minus x y = ex (ExprForm.minus x y)

abbrev pub true_word : ExprTree
true_word = ex (ExprForm.truth true)

-- forall x: U :: e
abbrev pub for_ids : List ℕ → ExprTree → ExprTree
for_ids x e = ex (ExprForm.forall (param x type_of_ids) e)

-- forall c: call :: e
abbrev pub for_calls : ExprTree → ExprTree
for_calls e = ex (ExprForm.forall (param (codes "c") (ty TypeForm.call)) e)

-- forall i: invocation :: e
abbrev pub for_invocations : ExprTree → ExprTree
for_invocations e = ex (ExprForm.forall (param (codes "i") (ty TypeForm.invocation)) e)

-- uses of the text's queries with one argument
abbrev pub use_of : List ℕ → ExprTree → ExprTree
use_of x e = call x [] (e ∷ [])

-- m[u].hits.NAME(es) and m[u].seen.NAME(es)
abbrev pub at_hits : List ℕ → List ExprTree → ExprTree
at_hits name es = call (codes "m") (at u ∷ dot (codes "hits") ∷ dot name ∷ []) es

abbrev pub at_seen : List ℕ → List ExprTree → ExprTree
at_seen name es = call (codes "m") (at u ∷ dot (codes "seen") ∷ dot name ∷ []) es

-- NAME.returned(es)
abbrev pub returned : List ℕ → List ExprTree → ExprTree
returned name es = call name (StepTree.returned here ∷ []) es

abbrev pub pattern : List ℕ → List (List ℕ) → PatternTree
pattern x vars = PatternTree.pattern (id x) (map id vars)

-- match (d) { nothing => true, both(x, y) => e }
abbrev pub match_d : ExprTree → ExprTree
match_d e =
    let first : ExprArmTree = ExprArmTree.arm (pattern (codes "nothing") []) true_word in
    let second : ExprArmTree = ExprArmTree.arm (pattern (codes "both") (codes "x" ∷ codes "y" ∷ [])) e in
    ex (ExprForm.match d (expr_arms (first ∷ second ∷ [])))

-- # Statements, number k from k to k + 1

abbrev pub declared : ℕ → List ℕ → TypeTree → StmtTree
declared k x t = st k (StmtForm.var (id x) t None)

abbrev pub declared_as : ℕ → List ℕ → TypeTree → ExprTree → StmtTree
declared_as k x t e = st k (StmtForm.var (id x) t (Some e))

abbrev pub assigned : ℕ → List ℕ → ExprTree → StmtTree
assigned k x e = st k (StmtForm.assign (id x) e)

abbrev pub asserted : ℕ → ExprTree → StmtTree
asserted k e = st k (StmtForm.assert e)

abbrev pub atomic : ℕ → List StmtTree → StmtTree
atomic k xs = st k (StmtForm.atomic (body xs))

-- users.add(u);
abbrev pub users_add : ℕ → StmtTree
users_add k = st k (StmtForm.access (on (codes "users") (dot (codes "add") ∷ []) (u ∷ [])))

abbrev pub branch : ℕ → ExprTree → List StmtTree → List StmtTree → StmtTree
branch k e xs ys = st k (StmtForm.if_ e (body xs) (ElseTree.else_block (body ys)))

-- match (e) { none => { } some(x) => { xs } }
abbrev pub match_maybe : ℕ → ExprTree → List StmtTree → StmtTree
match_maybe k e xs =
    let first : BlockArmTree = BlockArmTree.arm (pattern (codes "none") []) (body []) in
    let second : BlockArmTree = BlockArmTree.arm (pattern (codes "some") (codes "x" ∷ [])) (body xs) in
    st k (StmtForm.match e (block_arms (first ∷ second ∷ [])))

abbrev pub returns : ℕ → ExprTree → StmtTree
returns k e = st k (StmtForm.return (Some e))

-- # Parts of what they become

abbrev pub from : ℕ → Span
from k = span k (suc k)

abbrev pub both_ex : Ex → Ex → Exs
both_ex x y = also_ex x (also_ex y no_ex)

abbrev pub block_of : ℕ → St → St
block_of k s = Atomic (from k) (also_st s no_st)

abbrev pub two : St → St → Sts
two s r = also_st s (also_st r no_st)

-- # Parts of the tables

abbrev pub con : List ℕ → ℕ → List Ty → ConDecl
con name of fields = record { name = name; of = of; fields = fields }

abbrev pub op : ℕ → List PathStep → OpKind → List Ty → OpDecl
op root path kind args = record { root = root; path = path; kind = kind; args = args }

abbrev pub asks : ℕ → List PathStep → QueryKind → List Ty → Ty → QueryDecl
asks root path kind args result = record { root = root; path = path; kind = kind; args = args; result = result }

-- m[k].hits and m[k].seen
abbrev pub hits : List PathStep
hits = Key (Atom 0) ∷ Field 0 ∷ []

abbrev pub seen : List PathStep
seen = Key (Atom 0) ∷ Field 1 ∷ []

-- # Texts for the numbers of datatypes

-- datatype NAME = CON(x: t);
abbrev pub data_of : List ℕ → List ℕ → List ParamTree → DeclTree
data_of name con params = decl (DeclForm.datatype (id name) (ConTree.con (id con) params ∷ []))

-- invariant e;
abbrev pub claim : ExprTree → DeclTree
claim e = decl (DeclForm.invariant None e)

-- idtype U;
-- datatype E = e(x: Maybe[Maybe[U]]);
-- crdt r: Reg[E];
-- query unused(n: Int): Bool = some(n) == some(n);
-- invariant some(l) == some(l);
-- datatype L = l;
-- proc p(x: Maybe[String]) { }
abbrev pub many_types : List DeclTree
many_types =
    let l : ExprTree = some (var (codes "l")) in
    decl (DeclForm.id_type (id (codes "U")))
    ∷ data_of (codes "E") (codes "e") (param (codes "x") (maybe (maybe type_of_ids)) ∷ [])
    ∷ crdt (codes "r") (CrdtForm.reg (ty (TypeForm.named (codes "E"))))
    ∷ query (codes "unused") (param (codes "n") int ∷ []) bool (comparison compare.Equal (some n) (some n))
    ∷ claim (comparison compare.Equal l l)
    ∷ data_of (codes "L") (codes "l") []
    ∷ head (codes "p") (param (codes "x") (maybe (ty TypeForm.text)) ∷ []) None
    ∷ []

abbrev pub declared_kind : ℕ → Kind
declared_kind type = plain_kind (base.Declared type)

-- invariant a: true;
-- invariant true;
abbrev pub two_invariants : List DeclTree
two_invariants = decl (DeclForm.invariant (Some (id (codes "a"))) true_word) ∷ claim true_word ∷ []

abbrev pub names_of_invs : Prog → List (List ℕ)
names_of_invs p = map (λ inv. inv.name) p.invs

-- # Texts for limits

-- `invariant true;`, so many times
abbrev pub claims : ℕ → List DeclTree
claims count = replicate count (claim true_word)

-- these letters and the digit k
abbrev pub numbered : List ℕ → ℕ → List ℕ
numbered letters k = letters ++ (48 + k) ∷ []

-- datatype D1 = c1(x: Bool, y: Bool); and so on, each with the one before as both fields, from number k on
abbrev pub doubled : ℕ → ℕ → TypeTree → List DeclTree
doubled zero k t = []
doubled (suc more) k t =
    data_of (numbered (codes "D") k) (numbered (codes "c") k) (param (codes "x") t ∷ param (codes "y") t ∷ [])
    ∷ doubled more (k + 1) (ty (TypeForm.named (numbered (codes "D") k)))

abbrev pub limit_of : List DeclTree → Option LimitName
limit_of tree = option_and_then first_limit (program_of tree)
