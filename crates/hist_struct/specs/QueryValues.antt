-- What the queries that give a value give at a set of calls, as functions of a structure: finite tables with an entry for the
-- keys of each call.
use Rattle.std.specs.Prelude.{ℕ, suc, pos, Bool, if◌then◌else◌, List, [], ◌∷◌, length, take, slice_get}
use Rattle.rp_value.specs.declared.tables.Ty.{Ty}
use Rattle.rp_value.specs.Values.{Val}
use Rattle.rp_lang.specs.declared.query.QueryDecl.{QueryDecl}
use Rattle.rp_lang.specs.declared.query.QueryKind.{QueryKind}
use Rattle.rp_lang.specs.declared.query.QueryKind.TheVariants.{GetSum}
use Rattle.rp_lang.specs.Typing.{is_get}
use Rattle.rp_lang.specs.Programs.{Prog}
use Rattle.crdt_defs.specs.declared.asked.Found.{Found}
use Rattle.crdt_defs.specs.declared.asked.Found.TheVariants.{Sum, Nothing}
use Rattle.crdt_defs.specs.Calls.{Call}
use Rattle.crdt_defs.specs.Fitting.{all_fit}
use Rattle.crdt_defs.specs.Queries.{answer_in}
use Rattle.crdt_defs.specs.Truths.{found_val, answer_val}
use Rattle.rp_logic.specs.Elements.{Elem, Elems}
use Rattle.rp_logic.specs.Structures.{Fun, Table}
use Rattle.crdt_enc.specs.Elements.{elem_of, elems_of}

-- what the query answers at the visible calls
abbrev pub answered : Prog → List Call → (ℕ → Bool) → ℕ → List Val → Val
answered p h visible query args = answer_val p h (slice_get p.queries query) (answer_in p query h visible args)

-- what it finds where no call counts
abbrev pub found_nowhere : QueryKind → Found
found_nowhere GetSum = Sum (pos 0)
found_nowhere _ = Nothing

-- so it gives 0, or `none`
abbrev pub otherwise : Prog → QueryDecl → Val
otherwise p query = found_val p [] query.result (found_nowhere query.kind)

-- an entry for what the arguments of each call begin with, where that is of the types
abbrev pub val_entries : Prog → (List Val → Val) → List Ty → List Call → List (Elems × Elem)
val_entries p f types [] = []
val_entries p f types (call ∷ calls) =
    let args = take (length types) call.args in
    if all_fit p types args then (elems_of args, elem_of (f args)) ∷ val_entries p f types calls else val_entries p f types calls

-- the function of the query of number n
abbrev pub val_table : Prog → List Call → (ℕ → Bool) → ℕ → QueryDecl → Fun
val_table p h visible n query = Table (val_entries p (answered p h visible n) query.args h) (elem_of (otherwise p query))

-- those of these queries, the first of number n
abbrev pub val_tables : Prog → List Call → (ℕ → Bool) → ℕ → List QueryDecl → List Fun
val_tables p h visible n [] = []
val_tables p h visible n (query ∷ queries) =
    if is_get query.kind then val_table p h visible n query ∷ val_tables p h visible (suc n) queries
    else val_tables p h visible (suc n) queries
