-- The axiom of places as the code walks it.
use Rattle.std.specs.Prelude.{ℕ, zero, suc, true, List, [], ◌∷◌, slice_get, if◌then◌else◌}
use Rattle.rp_value.specs.declared.tables.Ty.{Ty}
use Rattle.crdt_defs.specs.Fitting.{names_ids}
use Rattle.rp_lang.specs.declared.op.OpDecl.{OpDecl}
use Rattle.rp_lang.specs.Programs.{Prog, Proc}
use Rattle.rp_logic.specs.Terms.{Tm, Var}
use Rattle.rp_logic.specs.Formulas.{Fm, Fms, All, no_fm}
use Rattle.rp_symbols.specs.Numbers.{call_sort, inv_sort, op_fn, info_fn, op_con, info_con, outcome_con, id_rel, old_result_fn}
use Rattle.rp_symbols.specs.Signatures.{result_list}
use Rattle.crdt_enc.specs.Builders.{over_two, applied}
use Rattle.hist_struct.specs.Axioms.{implied, of_con, places}
use Rattle.hist_struct.specs.Defaults.{most_parts}

-- nothing at 0, and else what stands at the term or below one datatype less
abbrev pub below : Prog → ℕ → ℕ → ℕ → Fms → Ty → Tm → List Fm
below p sort kind zero given ty t = []
below p sort kind (suc fuel) given ty t = places p sort kind fuel given ty t

-- at the term itself, of the type of this number
abbrev pub of_atom : Prog → ℕ → ℕ → Fms → ℕ → Tm → List Fm
of_atom p sort kind given k t =
    if names_ids (slice_get p.types.atoms k) then All sort (implied given (over_two true (id_rel p k kind) (Var 0) t)) ∷ [] else []

-- in one operation, among the arguments of one procedure, in a result of it before the step
abbrev pub of_op : Prog → ℕ → OpDecl → List Fm
of_op p o decl = of_con (places p call_sort 0 most_parts) no_fm (op_con p o) decl.args (applied op_fn (Var 0))

abbrev pub of_info : Prog → ℕ → Proc → List Fm
of_info p k q = of_con (places p inv_sort 1 most_parts) no_fm (info_con p k) q.params (applied info_fn (Var 0))

abbrev pub of_result : Prog → ℕ → Proc → List Fm
of_result p k q = of_con (places p inv_sort 2 most_parts) no_fm (outcome_con p k) (result_list q.result) (applied old_result_fn (Var 0))
