-- The axioms as formulas.
use Rattle.std.specs.Prelude.{ℕ, zero, suc, true, false, List, [], ◌∷◌, ◌++◌, length, slice_get, if◌then◌else◌}
use Rattle.rp_value.specs.declared.tables.Ty.{Ty}
use Rattle.rp_value.specs.declared.tables.Ty.TheVariants as ty
use Rattle.crdt_defs.specs.Fitting.{names_ids, fields_of}
use Rattle.rp_lang.specs.declared.op.OpDecl.{OpDecl}
use Rattle.rp_value.specs.declared.tables.AtomType.{AtomType}
use Rattle.rp_lang.specs.Programs.{Prog, Proc}
use Rattle.rp_logic.specs.Terms.{Tm, Var, Con, Sel, no_tm, Equal}
use Rattle.rp_logic.specs.Formulas.{Fm, Fms, And, Or, All, Ex, Lit, no_fm, also_fm}
use Rattle.rp_logic.specs.Dual.{dual, duals}
use Rattle.rp_symbols.specs.Numbers.{call_sort, inv_sort, atom_sort, before_rel, stamp_rel, same_rel, op_fn, origin_fn, info_fn, op_con, info_con, unreturned_con, outcome_con}
use Rattle.crdt_enc.specs.Builders.{one_fm}
use Rattle.reshape.specs.Joined.{joined}
use Rattle.crdt_enc.specs.Builders.{over_one, over_two, applied, built}
use Rattle.rp_symbols.specs.Numbers.{old_rel, new_rel, was_rel, there_rel, snapshot_rel, part_rel, seen_rel, read_rel, id_rel, old_result_fn, new_result_fn}
use Rattle.hist_struct.specs.Defaults.{most_parts}
use Rattle.hist_struct.specs.Conditions.{values_of, cons_of}
use Rattle.rp_symbols.specs.Signatures.{result_list}

-- # Builders

-- where all of these are true so is the formula
abbrev pub implied : Fms → Fm → Fm
implied no_fm f = f
implied (also_fm g gs) f = Or (also_fm (dual g) (joined (duals gs) (one_fm f)))

-- two premises
abbrev pub two : Fm → Fm → Fms
two f g = also_fm f (one_fm g)

-- three premises
abbrev pub three : Fm → Fm → Fm → Fms
three f g h = also_fm f (two g h)

-- of each call, of each two and of each three calls that meet the premises
abbrev pub each_call : Fms → Fm → Fm
each_call given f = All call_sort (implied given f)

-- of each two
abbrev pub each_two : Fms → Fm → Fm
each_two given f = All call_sort (each_call given f)

-- of each three
abbrev pub each_three : Fms → Fm → Fm
each_three given f = All call_sort (each_two given f)

-- the relation holds of two variables
abbrev pub rel : ℕ → ℕ → ℕ → Fm
rel r a b = over_two true r (Var a) (Var b)

-- and doesn't
abbrev pub not_rel : ℕ → ℕ → ℕ → Fm
not_rel r a b = over_two false r (Var a) (Var b)

-- the variable is in the set
abbrev pub within : ℕ → ℕ → Fm
within r a = over_one true r (Var a)

-- the terms are equal
abbrev pub equal : Tm → Tm → Fm
equal t u = Lit true (Equal t u)

-- the variables differ
abbrev pub differ : ℕ → ℕ → Fm
differ a b = Lit false (Equal (Var a) (Var b))

-- the call opens a transaction
abbrev pub is_mark : Prog → ℕ → Fm
is_mark p a = equal (applied op_fn (Var a)) (Con (op_con p 0) no_tm)

-- the two calls are of one invocation
abbrev pub same_origin : Fm
same_origin = equal (applied origin_fn (Var 1)) (applied origin_fn (Var 0))

-- # The axioms. Of three calls Var 2 is c, Var 1 d and Var 0 e; of two Var 1 is c and Var 0 d.

-- no call is before itself; before goes on
abbrev pub before_orders : List Fm
before_orders = each_call no_fm (not_rel before_rel 0 0)
    ∷ each_three (two (rel before_rel 2 1) (rel before_rel 1 0)) (rel before_rel 2 0)
    ∷ []

-- no stamp is less than itself; less goes on; of two calls one has the lesser stamp; before implies less
abbrev pub stamps_order : List Fm
stamps_order = each_call no_fm (not_rel stamp_rel 0 0)
    ∷ each_three (two (rel stamp_rel 2 1) (rel stamp_rel 1 0)) (rel stamp_rel 2 0)
    ∷ each_two (two (differ 1 0) (not_rel stamp_rel 1 0)) (rel stamp_rel 0 1)
    ∷ each_two (one_fm (rel before_rel 1 0)) (rel stamp_rel 1 0)
    ∷ []

-- of one transaction with itself; either way round; goes on; and of one invocation
abbrev pub transactions_part : List Fm
transactions_part = each_call no_fm (rel same_rel 0 0)
    ∷ each_two (one_fm (rel same_rel 1 0)) (rel same_rel 0 1)
    ∷ each_three (two (rel same_rel 2 1) (rel same_rel 1 0)) (rel same_rel 2 0)
    ∷ each_two (one_fm (rel same_rel 1 0)) same_origin
    ∷ []

-- what is outside and before one call is before the others; what is outside and after one is after the others
abbrev pub transactions_are_whole : List Fm
transactions_are_whole = each_three (three (rel same_rel 2 0) (not_rel same_rel 2 1) (rel before_rel 1 2)) (rel before_rel 1 0)
    ∷ each_three (three (rel same_rel 2 0) (not_rel same_rel 2 1) (rel before_rel 2 1)) (rel before_rel 0 1)
    ∷ []

-- with a call what is before it, and its transaction
abbrev pub closed : ℕ → List Fm
closed r = each_two (two (within r 0) (rel before_rel 1 0)) (within r 1)
    ∷ each_two (two (within r 1) (rel same_rel 1 0)) (within r 0)
    ∷ []

-- the first set is a part of the second
abbrev pub part_of : ℕ → ℕ → Fm
part_of r s = each_call (one_fm (within r 0)) (within s 0)

-- committed before is committed after, and of an invocation that was there; each invocation is there; both are closed
abbrev pub commits_grow : List Fm
commits_grow = part_of old_rel new_rel
    ∷ each_call (one_fm (within old_rel 0)) (over_one true was_rel (applied origin_fn (Var 0)))
    ∷ All inv_sort (within there_rel 0)
    ∷ (closed old_rel ++ closed new_rel)

-- of what is seen from a begin on: committed before, read right after the begin, closed
abbrev pub of_view : Prog → ℕ → List Fm
of_view p k = part_of (seen_rel p k) old_rel ∷ part_of (seen_rel p k) (read_rel p k) ∷ closed (seen_rel p k)

-- of each begin below n
abbrev pub of_views : Prog → ℕ → List Fm
of_views p zero = []
of_views p (suc n) = of_view p n ++ of_views p n

-- of each two that follow one another: what is seen stays seen
abbrev pub of_chain : Prog → ℕ → List Fm
of_chain p zero = []
of_chain p (suc zero) = []
of_chain p (suc (suc n)) = part_of (seen_rel p n) (seen_rel p (suc n)) ∷ of_chain p (suc n)

-- the part was committed, the snapshot is; the part is what of the snapshot was committed; both are closed; the begins
abbrev pub views_grow : Prog → ℕ → List Fm
views_grow p begins = part_of part_rel old_rel
    ∷ part_of snapshot_rel new_rel
    ∷ part_of part_rel snapshot_rel
    ∷ each_call (two (within snapshot_rel 0) (within old_rel 0)) (within part_rel 0)
    ∷ (closed snapshot_rel ++ (closed part_rel ++ (of_views p begins ++ of_chain p begins)))

-- of two calls of one invocation one is before the other
abbrev pub own_calls_in_line : List Fm
own_calls_in_line = each_two (three same_origin (differ 1 0) (not_rel before_rel 1 0)) (rel before_rel 0 1) ∷ []

-- each call has a marker in its transaction, which it is or which is before it; of one transaction there is one
abbrev pub markers_stand : Prog → List Fm
markers_stand p = All call_sort (Ex call_sort (And (three (rel same_rel 1 0) (is_mark p 0) (implied (one_fm (differ 1 0)) (rel before_rel 0 1)))))
    ∷ each_two (three (rel same_rel 1 0) (is_mark p 1) (is_mark p 0)) (equal (Var 1) (Var 0))
    ∷ []

-- # Results

-- of each invocation that meets the premises
abbrev pub each_inv : Fms → Fm → Fm
each_inv given f = All inv_sort (implied given f)

-- it has returned
abbrev pub is_returned : Prog → ℕ → Fm
is_returned p f = Lit false (Equal (applied f (Var 0)) (Con (unreturned_con p) no_tm))

-- the term is built with the constructor
abbrev pub is_built : ℕ → ℕ → Tm → Fm
is_built con n t = equal t (built con n [] t)

-- for each of these procedures, the first of number n: an invocation of it that has returned has an outcome of it
abbrev pub results_fit : Prog → ℕ → ℕ → List Proc → List Fm
results_fit p f n [] = []
results_fit p f n (q ∷ procs) =
    each_inv (two (is_built (info_con p n) (length q.params) (applied info_fn (Var 0))) (is_returned p f)) (is_built (outcome_con p n) (values_of q.result) (applied f (Var 0)))
    ∷ results_fit p f (suc n) procs

-- who had returned keeps its outcome; outcomes are those of the procedures
abbrev pub results_stay : Prog → List Fm
results_stay p = each_inv (one_fm (is_returned p old_result_fn)) (equal (applied old_result_fn (Var 0)) (applied new_result_fn (Var 0)))
    ∷ (results_fit p old_result_fn 0 p.procs ++ results_fit p new_result_fn 0 p.procs)

-- # Identifiers

-- for each type of identifiers, the first of number ty: what stands among arguments stands in a result
abbrev pub known : Prog → ℕ → List AtomType → List Fm
known p ty [] = []
known p ty (atom ∷ atoms) =
    (if atom.is_id
    then All inv_sort (All (atom_sort ty) (implied (one_fm (rel (id_rel p ty 1) 1 0)) (Ex inv_sort (rel (id_rel p ty 2) 0 1)))) ∷ []
    else [])
    ++ known p (suc ty) atoms

-- of all types of identifiers
abbrev pub arguments_were_results : Prog → List Fm
arguments_were_results p = known p 0 p.types.atoms

-- # Identifiers at places by constructors

-- in each of these fields, the first of number i
abbrev pub in_fields : (Fms → Ty → Tm → List Fm) → Fms → ℕ → ℕ → List Ty → Tm → List Fm
in_fields rec given con i [] t = []
in_fields rec given con i (ty ∷ tys) t = rec given ty (Sel con i t) ++ in_fields rec given con (suc i) tys t

-- in the fields of the term, where it is built with the constructor
abbrev pub of_con : (Fms → Ty → Tm → List Fm) → Fms → ℕ → List Ty → Tm → List Fm
of_con rec given con tys t = in_fields rec (also_fm (is_built con (length tys) t) given) con 0 tys t

-- by each of these constructors
abbrev pub in_cons : Prog → (Fms → Ty → Tm → List Fm) → Fms → List ℕ → Tm → List Fm
in_cons p rec given [] t = []
in_cons p rec given (con ∷ cons) t = of_con rec given con (fields_of (slice_get p.cons.cons con)) t ++ in_cons p rec given cons t

-- at the term itself, or in the fields of its constructors
abbrev pub places_in : Prog → ℕ → ℕ → (Fms → Ty → Tm → List Fm) → Fms → Ty → Tm → List Fm
places_in p sort kind rec given (ty.Atom k) t =
    if names_ids (slice_get p.types.atoms k) then All sort (implied given (over_two true (id_rel p k kind) (Var 0) t)) ∷ [] else []
places_in p sort kind rec given (ty.Datatype d) t = in_cons p rec given (cons_of (slice_get p.types.datatypes d)) t
places_in p sort kind rec given _ t = []

-- below so many constructors of datatypes
abbrev pub places : Prog → ℕ → ℕ → ℕ → Fms → Ty → Tm → List Fm
places p sort kind zero given ty t = places_in p sort kind (λ given ty t. []) given ty t
places p sort kind (suc fuel) given ty t = places_in p sort kind (places p sort kind fuel) given ty t

-- one list for each, the first of number n
abbrev pub each_of : {A : Type 0} → (ℕ → A → List Fm) → ℕ → List A → List Fm
each_of f n [] = []
each_of f n (a ∷ as_) = f n a ++ each_of f (suc n) as_

-- in operations, among arguments, in results before the step
abbrev pub places_are_told : Prog → List Fm
places_are_told p =
    each_of (λ o (decl : OpDecl). of_con (places p call_sort 0 most_parts) no_fm (op_con p o) decl.args (applied op_fn (Var 0))) 0 p.ops
    ++ (each_of (λ k (q : Proc). of_con (places p inv_sort 1 most_parts) no_fm (info_con p k) q.params (applied info_fn (Var 0))) 0 p.procs
    ++ each_of (λ k (q : Proc). of_con (places p inv_sort 2 most_parts) no_fm (outcome_con p k) (result_list q.result) (applied old_result_fn (Var 0))) 0 p.procs)
