-- Parts of the axioms that functions put together.
use Rattle.std.specs.Prelude.{ℕ, ◌-◌, true, List, [], ◌∷◌, ◌++◌}
use Rattle.rp_lang.specs.Programs.{Prog}
use Rattle.rp_logic.specs.Terms.{Var, Con, no_tm}
use Rattle.rp_logic.specs.Formulas.{Fm, And, All, Ex}
use Rattle.rp_symbols.specs.Numbers.{call_sort, atom_sort, id_rel, op_fn, old_result_fn, new_result_fn, before_rel, same_rel, inv_sort, origin_fn, old_rel, was_rel, there_rel, new_rel, snapshot_rel, part_rel, seen_rel}
use Rattle.crdt_enc.specs.Builders.{one_fm, over_one, applied}
use Rattle.hist_struct.specs.Axioms.{each_call, each_two, each_inv, is_returned, equal, differ, rel, implied, within, two, three, part_of, before_orders, stamps_order, transactions_part, transactions_are_whole, commits_grow}

-- who made a committed call was there, and each invocation is there after the step
abbrev pub origins_were_there : List Fm
origins_were_there = each_call (one_fm (within old_rel 0)) (over_one true was_rel (applied origin_fn (Var 0))) ∷ All inv_sort (within there_rel 0) ∷ []

-- the part of the snapshot is what of it was committed
abbrev pub part_is_old : List Fm
part_is_old = part_of part_rel old_rel
    ∷ part_of snapshot_rel new_rel
    ∷ part_of part_rel snapshot_rel
    ∷ each_call (two (within snapshot_rel 0) (within old_rel 0)) (within part_rel 0)
    ∷ []

-- what is seen from the begin before this one on is seen from it on
abbrev pub link : Prog → ℕ → List Fm
link p begin = part_of (seen_rel p (begin - 1)) (seen_rel p begin) ∷ []

-- who had returned keeps its outcome
abbrev pub outcomes_stay : Prog → List Fm
outcomes_stay p = each_inv (one_fm (is_returned p old_result_fn)) (equal (applied old_result_fn (Var 0)) (applied new_result_fn (Var 0))) ∷ []

-- The other call opens this one's transaction: it is of the transaction, a marker, and this call or before it. The markers'
-- operation has this constructor.
abbrev pub marks : ℕ → Fm
marks con = And (three (rel same_rel 1 0) (equal (applied op_fn (Var 0)) (Con con no_tm)) (implied (one_fm (differ 1 0)) (rel before_rel 0 1)))

abbrev pub is_marked : ℕ → Fm
is_marked con = All call_sort (Ex call_sort (marks con))

-- each call has a marker, and of one transaction there is one
abbrev pub markers : ℕ → List Fm
markers con =
    is_marked con
    ∷ each_two (three (rel same_rel 1 0) (equal (applied op_fn (Var 1)) (Con con no_tm)) (equal (applied op_fn (Var 0)) (Con con no_tm))) (equal (Var 1) (Var 0))
    ∷ []

-- what stands among the arguments of an invocation stands in the result of some, by these relations
abbrev pub was_result : ℕ → ℕ → Fm
was_result arguments results = implied (one_fm (rel arguments 1 0)) (Ex inv_sort (rel results 0 1))

abbrev pub known_type : Prog → ℕ → Fm
known_type p ty = All inv_sort (All (atom_sort ty) (was_result (id_rel p ty 1) (id_rel p ty 2)))

-- of calls, which no program changes
abbrev pub of_calls : List Fm
of_calls = before_orders ++ (stamps_order ++ (transactions_part ++ (transactions_are_whole ++ commits_grow)))
