-- The formula of a query, by the type of its root, its path and its kind.
use Rattle.std.specs.Prelude.{ℕ, suc, Bool, true, false, ◌&&◌, nat_eq, List, [], ◌∷◌, ◌++◌, length, map, Option, Some, None, slice_get}
use Rattle.rp_logic.specs.Terms.{Tm, Var}
use Rattle.rp_logic.specs.Formulas.{Fm, And, Or, All, Ex, Fms, no_fm, also_fm}
use Rattle.rp_logic.specs.Dual.{duals}
use Rattle.rp_logic.specs.Filling.{raised}
use Rattle.rp_lang.specs.Crdts.{Cr}
use Rattle.rp_lang.specs.declared.op.OpDecl.{OpDecl}
use Rattle.rp_lang.specs.declared.op.OpKind.{OpKind}
use Rattle.rp_lang.specs.declared.op.OpKind.TheVariants.{Add, Remove, Assign}
use Rattle.rp_lang.specs.declared.op.OpKind.TheVariants as op
use Rattle.rp_lang.specs.declared.op.PathStep.{PathStep}
use Rattle.rp_lang.specs.declared.op.PathStep.TheVariants.{Field, Key}
use Rattle.rp_lang.specs.declared.query.QueryDecl.{QueryDecl}
use Rattle.rp_lang.specs.declared.query.QueryKind.{QueryKind}
use Rattle.rp_lang.specs.Programs.{Prog}
use Rattle.crdt_defs.specs.declared.asked.Winner.{Winner}
use Rattle.crdt_defs.specs.declared.asked.Winner.TheVariants.{Update, Delete}
use Rattle.crdt_defs.specs.declared.asked.Question.{Question}
use Rattle.crdt_defs.specs.declared.asked.Question.TheVariants.{AddWins, RemoveWins, ManyValues, AtKey}
use Rattle.crdt_defs.specs.Doing.{same_kind}
use Rattle.crdt_defs.specs.Queries.{question, held_in, winner_in}
use Rattle.rp_lang.specs.Paths.{field_in, root_crdt}
use Rattle.rp_symbols.specs.Numbers.{call_sort}
use Rattle.crdt_enc.specs.Ways as ways
use Rattle.crdt_enc.specs.Ways.{Way, Root, AtField, depth, keys, goes}
use Rattle.crdt_enc.specs.Builders.{one_fm}
use Rattle.reshape.specs.Joined.{joined}
use Rattle.crdt_enc.specs.Builders.{all_of, any_of, over_one, is_before, is_call_of, for_each}

-- # Calls that count

-- The term is a call of the view by this operation, with the way's keys and then these terms as its first arguments,
-- and what `kept` says. The keys and terms stand outside of n quantifiers, the call inside.
abbrev pub counting : Prog → ℕ → ℕ → Way Tm → ℕ → OpDecl → List Tm → Tm → Fms → Fms
counting p view n way op decl own call kept =
    also_fm (over_one true view call) (also_fm (is_call_of p op decl (map (raised n) (keys way ++ own)) call) kept)

-- the operation goes this way and passes the test
abbrev pub passes : Way Tm → (OpDecl → Bool) → OpDecl → Bool
passes way test decl = goes way decl && test decl

-- some such call meets `rest`, where it is the innermost variable
abbrev pub some_such : Prog → ℕ → ℕ → Way Tm → (OpDecl → Bool) → List Tm → Fms → Fms → Fm
some_such p view n way test own kept rest =
    any_of (for_each (passes way test)
    (λ o decl. Ex call_sort (And (joined (counting p view (suc n) way o decl own (Var 0) kept) rest))) 0 p.ops)

-- each such call meets a part of `rest`
abbrev pub each_such : Prog → ℕ → ℕ → Way Tm → (OpDecl → Bool) → List Tm → Fms → Fms → Fms
each_such p view n way test own kept rest =
    for_each (passes way test)
    (λ o decl. All call_sort (Or (joined (duals (counting p view (suc n) way o decl own (Var 0) kept)) rest))) 0 p.ops

-- a delete of a key of the map at the end of a path of so many steps
abbrev pub is_delete : ℕ → OpDecl → Bool
is_delete steps decl = nat_eq (length decl.path) steps && same_kind decl.kind op.Delete

-- the call isn't deleted by the innermost variable
abbrev pub wins : Winner → Tm → Fm
wins Update call = is_before false call (Var 0)
wins Delete call = is_before true (Var 0) call

-- no delete of a key on the way makes the call not count
abbrev pub stays : Prog → ℕ → ℕ → Way Tm → Tm → Fms
stays p view n (Root root) call = no_fm
stays p view n (AtField field way) call = stays p view n way call
stays p view n (ways.AtKey winner key way) call =
    joined (stays p view n way call)
    (each_such p view n way (is_delete (depth way)) (key ∷ [])
    (stays p view (suc n) way (Var 0)) (one_fm (wins winner (raised 1 call))))

-- # What is asked of the calls that count

-- an operation of this kind
abbrev pub is_kind : OpKind → OpDecl → Bool
is_kind kind decl = same_kind decl.kind kind

-- some call that counts at the end of the way, of such an operation with these terms, meets `rest`
abbrev pub some_call : Prog → ℕ → ℕ → Way Tm → (OpDecl → Bool) → List Tm → Fms → Fm
some_call p view n way test own rest = some_such p view n way test own (stays p view (suc n) way (Var 0)) rest

-- each call that counts there meets a part of `rest`
abbrev pub each_call : Prog → ℕ → ℕ → Way Tm → (OpDecl → Bool) → List Tm → Fms → Fm
each_call p view n way test own rest = all_of (each_such p view n way test own (stays p view (suc n) way (Var 0)) rest)

-- what no structure makes true
abbrev pub untrue : Fm
untrue = Or no_fm

-- Added and not removed later; added, and each remove before such an add; assigned and not overwritten; any operation
-- at the key counts. Other questions have a value and no truth.
abbrev pub answer_formula : Prog → ℕ → Way Tm → Question → List Tm → Fm
answer_formula p view way AddWins (x ∷ []) =
    some_call p view 0 way (is_kind Add) (x ∷ [])
    (one_fm (each_call p view 1 way (is_kind Remove) (x ∷ []) (one_fm (is_before false (Var 1) (Var 0)))))
answer_formula p view way RemoveWins (x ∷ []) =
    And (also_fm (some_call p view 0 way (is_kind Add) (x ∷ []) no_fm) (one_fm (each_call p view 0 way (is_kind Remove) (x ∷ [])
    (one_fm (some_call p view 1 way (is_kind Add) (x ∷ []) (one_fm (is_before true (Var 1) (Var 0))))))))
answer_formula p view way ManyValues (x ∷ []) =
    some_call p view 0 way (is_kind Assign) (x ∷ [])
    (one_fm (each_call p view 1 way (is_kind Assign) [] (one_fm (is_before false (Var 1) (Var 0)))))
answer_formula p view way (AtKey winner) (k ∷ []) = some_call p view 0 (ways.AtKey winner k way) (λ decl. true) [] no_fm
answer_formula p view way _ _ = untrue

-- # Along the path

-- the formula where this way was taken, to this type, and the path leads on
abbrev pub ask_formula : Prog → ℕ → QueryKind → Option Cr → List PathStep → Way Tm → List Tm → Fm
ask_formula p view kind None path way args = untrue
ask_formula p view kind (Some crdt) [] way args = answer_formula p view way (question crdt kind) args
ask_formula p view kind (Some crdt) (Field n ∷ path) way args =
    ask_formula p view kind (field_in crdt n) path (AtField n way) args
ask_formula p view kind (Some crdt) (Key ty ∷ path) way [] = untrue
ask_formula p view kind (Some crdt) (Key ty ∷ path) way (k ∷ args) =
    ask_formula p view kind (held_in crdt) path (ways.AtKey (winner_in crdt) k way) args

-- the formula of the query, where there is one
abbrev pub query_by : Prog → ℕ → Option QueryDecl → List Tm → Fm
query_by p view None args = untrue
query_by p view (Some query) args =
    ask_formula p view query.kind (root_crdt (slice_get p.roots query.root)) query.path (Root query.root) args

-- the formula of the program's query of this number at the view relation, over these terms
abbrev pub query_formula : Prog → ℕ → ℕ → List Tm → Fm
query_formula p view query args = query_by p view (slice_get p.queries query) args
