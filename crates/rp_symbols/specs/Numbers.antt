-- The numbers of sorts, constructors, relations and functions in the signatures of a program. Each symbol's number stands
-- here once.
use Rattle.std.specs.Prelude.{ℕ, suc, ◌+◌, ◌*◌, ◌-◌, nat_lt, if◌then◌else◌, List, length, take}
use Rattle.std.specs.List.{count_by}
use Rattle.rp_value.specs.declared.tables.AtomType.{AtomType}
use Rattle.rp_lang.specs.declared.query.QueryDecl.{QueryDecl}
use Rattle.rp_lang.specs.Typing.{is_get}
use Rattle.rp_lang.specs.Programs.{Prog}

-- # Sorts: calls, invocations, types of atoms, numbers, strings, datatypes, operations, records, outcomes

abbrev pub call_sort : ℕ
call_sort = 0

abbrev pub inv_sort : ℕ
inv_sort = 1

-- of this identifier type or opaque type
abbrev pub atom_sort : ℕ → ℕ
atom_sort ty = 2 + ty

abbrev pub int_sort : Prog → ℕ
int_sort p = 2 + length p.types.atoms

abbrev pub str_sort : Prog → ℕ
str_sort p = 3 + length p.types.atoms

-- of this datatype
abbrev pub data_sort : Prog → ℕ → ℕ
data_sort p d = 4 + length p.types.atoms + d

-- what calls are: operations with their arguments
abbrev pub op_sort : Prog → ℕ
op_sort p = 4 + length p.types.atoms + length p.types.datatypes

-- what invocations are: procedures with their arguments
abbrev pub info_sort : Prog → ℕ
info_sort p = op_sort p + 1

-- what invocations give
abbrev pub outcome_sort : Prog → ℕ
outcome_sort p = op_sort p + 2

-- # Constructors: those of the program, which keep their numbers, then operations, records, `unreturned`, outcomes

abbrev pub op_con : Prog → ℕ → ℕ
op_con p op = length p.cons.cons + op

abbrev pub info_con : Prog → ℕ → ℕ
info_con p proc = length p.cons.cons + length p.ops + proc

abbrev pub unreturned_con : Prog → ℕ
unreturned_con p = length p.cons.cons + length p.ops + length p.procs

abbrev pub outcome_con : Prog → ℕ → ℕ
outcome_con p proc = unreturned_con p + 1 + proc

-- # Constants: where an invocation acts, the first is that invocation

abbrev pub self_const : ℕ
self_const = 0

-- # Relations

-- calls that are committed before the step
abbrev pub old_rel : ℕ
old_rel = 0

-- calls that are committed after the step
abbrev pub new_rel : ℕ
new_rel = 1

-- invocations that exist before the step
abbrev pub was_rel : ℕ
was_rel = 2

-- invocations that exist after the step
abbrev pub there_rel : ℕ
there_rel = 3

-- a call is before another
abbrev pub before_rel : ℕ
before_rel = 4

-- a call has a lesser stamp than another
abbrev pub stamp_rel : ℕ
stamp_rel = 5

-- calls of one transaction
abbrev pub same_rel : ℕ
same_rel = 6

-- a consistent snapshot after the step
abbrev pub snapshot_rel : ℕ
snapshot_rel = 7

-- the part of that snapshot that is committed before the step
abbrev pub part_rel : ℕ
part_rel = 8

-- how many types of identifiers there are
abbrev pub ids : List AtomType → ℕ
ids atoms = count_by (λ atom. atom.is_id) atoms

-- Three relations of each type of identifiers: which of them stand in the operation of a call (0), in the arguments of an
-- invocation (1), and in its result before the step (2).
abbrev pub id_rel : Prog → ℕ → ℕ → ℕ
id_rel p ty kind = 9 + (3 * ids (take ty p.types.atoms) + kind)

-- what the invocation sees from a begin on, the first is begin 0
abbrev pub seen_rel : Prog → ℕ → ℕ
seen_rel p begin = 9 + (3 * ids p.types.atoms + (begin + begin))

-- what it reads right after that begin
abbrev pub read_rel : Prog → ℕ → ℕ
read_rel p begin = 9 + (3 * ids p.types.atoms + suc (begin + begin))

-- what is read after a further call of its own: the reading sets that a path adds, the first is number 0, behind those of so
-- many begins
abbrev pub added_rel : Prog → ℕ → ℕ → ℕ
added_rel p begins read = 9 + (3 * ids p.types.atoms + (begins + begins + read))

-- # Functions

-- the operation of a call
abbrev pub op_fn : ℕ
op_fn = 0

-- the invocation of a call
abbrev pub origin_fn : ℕ
origin_fn = 1

-- the record of an invocation
abbrev pub info_fn : ℕ
info_fn = 2

-- the outcome of an invocation before the step
abbrev pub old_result_fn : ℕ
old_result_fn = 3

-- the outcome of an invocation after the step
abbrev pub new_result_fn : ℕ
new_result_fn = 4

abbrev pub add_fn : ℕ
add_fn = 5

abbrev pub sub_fn : ℕ
sub_fn = 6

-- # Values of queries: a function for each query that gives a value, at each relation that is a view

-- how many of the queries give a value
abbrev pub gets : List QueryDecl → ℕ
gets queries = count_by (λ query. is_get query.kind) queries

-- The place of a view relation among the views: calls before the step, the snapshot, its part, then the relations behind
-- those of identifiers.
abbrev pub view_place : Prog → ℕ → ℕ
view_place p view =
    if nat_lt view 1 then 0 else if nat_lt view 8 then 1 else if nat_lt view 9 then 2 else view - 9 - 3 * ids p.types.atoms + 3

-- what a query gives at a view
abbrev pub val_fn : Prog → ℕ → ℕ → ℕ
val_fn p view query = 7 + view_place p view * gets p.queries + gets (take query p.queries)
