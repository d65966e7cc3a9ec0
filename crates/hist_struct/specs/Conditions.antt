-- The axioms as conditions on a structure.
use Rattle.std.specs.Prelude.{◌≡◌, ℕ, zero, suc, ◌<◌, true, false}
use Rattle.rp_lang.specs.Programs.{Prog, Proc}
use Rattle.rp_logic.specs.Elements.{Elem, Elems, Made, no_elem, also_elem, same_elem}
use Rattle.rp_logic.specs.Structures.{nth_elem}
use Rattle.crdt_enc.specs.FitsParts.{Is, holds_of, holds_of_two, value_at}
use Rattle.rp_logic.specs.Truth.{Meaning}
use Rattle.std.specs.Prelude.{slice_get, List, [], length, Option, Some, None}
use Rattle.rp_value.specs.declared.tables.Ty.{Ty}
use Rattle.rp_value.specs.declared.tables.Ty.TheVariants as ty
use Rattle.rp_value.specs.declared.tables.DataDecl.{DataDecl}
use Rattle.rp_lang.specs.declared.op.OpDecl.{OpDecl}
use Rattle.crdt_defs.specs.Fitting.{names_ids, fields_of}
use Rattle.event_machine.specs.WellFormed.{At}
use Rattle.hist_struct.specs.Defaults.{most_parts}
use Rattle.rp_symbols.specs.Signatures.{result_list}
use Rattle.rp_symbols.specs.Numbers.{call_sort, inv_sort, atom_sort, before_rel, stamp_rel, same_rel, op_fn, origin_fn, info_fn, op_con, info_con, unreturned_con, outcome_con}
use Rattle.rp_symbols.specs.Numbers.{old_rel, new_rel, was_rel, there_rel, snapshot_rel, part_rel, seen_rel, read_rel, id_rel, old_result_fn, new_result_fn}

-- # Words

-- of each call
abbrev pub EachCall : Meaning → (Elem → Type 0) → Type 0
EachCall M P = (c : Elem) → Is M call_sort c → P c

-- of each invocation
abbrev pub EachInv : Meaning → (Elem → Type 0) → Type 0
EachInv M P = (i : Elem) → Is M inv_sort i → P i

-- the element is in the relation's set
abbrev pub In : Meaning → ℕ → Elem → Type 0
In M r c = holds_of M r c ≡ true

-- the relation holds of the two
abbrev pub Rel : Meaning → ℕ → Elem → Elem → Type 0
Rel M r c d = holds_of_two M r c d ≡ true

-- the relation doesn't hold of the two
abbrev pub Not : Meaning → ℕ → Elem → Elem → Type 0
Not M r c d = holds_of_two M r c d ≡ false

-- the two are one element
abbrev pub Equal : Elem → Elem → Type 0
Equal c d = same_elem c d ≡ true

-- the two are different elements
abbrev pub Differ : Elem → Elem → Type 0
Differ c d = same_elem c d ≡ false

-- the call's operation is `tx`
abbrev pub IsMark : Prog → Meaning → Elem → Type 0
IsMark p M c = Equal (value_at M op_fn c) (Made (op_con p 0) no_elem)

-- # The axioms

-- No call is before itself, and what is before one that is before another is before that.
pub record BeforeOrders (M : Meaning) : Type 0 where
  pub irreflexive : EachCall M (λ c. Not M before_rel c c)
  pub transitive : EachCall M (λ c. EachCall M (λ d. EachCall M (λ e. Rel M before_rel c d → Rel M before_rel d e → Rel M before_rel c e)))

-- Stamps put all calls into one order, and a call that is before another has the lesser stamp.
pub record StampsOrder (M : Meaning) : Type 0 where
  pub irreflexive : EachCall M (λ c. Not M stamp_rel c c)
  pub transitive : EachCall M (λ c. EachCall M (λ d. EachCall M (λ e. Rel M stamp_rel c d → Rel M stamp_rel d e → Rel M stamp_rel c e)))
  pub total : EachCall M (λ c. EachCall M (λ d. Differ c d → Not M stamp_rel c d → Rel M stamp_rel d c))
  pub rises : EachCall M (λ c. EachCall M (λ d. Rel M before_rel c d → Rel M stamp_rel c d))

-- Transactions part the calls, and the calls of one transaction are of one invocation.
pub record TransactionsPart (M : Meaning) : Type 0 where
  pub reflexive : EachCall M (λ c. Rel M same_rel c c)
  pub symmetric : EachCall M (λ c. EachCall M (λ d. Rel M same_rel c d → Rel M same_rel d c))
  pub transitive : EachCall M (λ c. EachCall M (λ d. EachCall M (λ e. Rel M same_rel c d → Rel M same_rel d e → Rel M same_rel c e)))
  pub of_one : EachCall M (λ c. EachCall M (λ d. Rel M same_rel c d → Equal (value_at M origin_fn c) (value_at M origin_fn d)))

-- A call outside of a transaction that is before one of its calls is before all of them, and likewise after.
pub record TransactionsAreWhole (M : Meaning) : Type 0 where
  pub past : EachCall M (λ c. EachCall M (λ d. EachCall M (λ e. Rel M same_rel c e → Not M same_rel c d → Rel M before_rel d c → Rel M before_rel d e)))
  pub future : EachCall M (λ c. EachCall M (λ d. EachCall M (λ e. Rel M same_rel c e → Not M same_rel c d → Rel M before_rel c d → Rel M before_rel e d)))

-- with a call the set has what is before it, and all calls of its transaction
pub record IsClosed (M : Meaning) (r : ℕ) : Type 0 where
  pub causes : EachCall M (λ c. EachCall M (λ d. In M r d → Rel M before_rel c d → In M r c))
  pub whole : EachCall M (λ c. EachCall M (λ d. In M r c → Rel M same_rel c d → In M r d))

-- the first set is a part of the second
abbrev pub Within : Meaning → ℕ → ℕ → Type 0
Within M r s = EachCall M (λ c. In M r c → In M s c)

-- What was committed is, with what is before it and all of its transaction; what was committed is of invocations that were
-- there, and each invocation is there after the step.
pub record CommitsGrow (M : Meaning) : Type 0 where
  pub stays : Within M old_rel new_rel
  pub old : IsClosed M old_rel
  pub new : IsClosed M new_rel
  pub was : EachCall M (λ c. In M old_rel c → In M was_rel (value_at M origin_fn c))
  pub there : EachInv M (λ i. In M there_rel i)

-- What is seen from this begin on was committed, is closed, and is read right after that begin.
pub record IsView (p : Prog) (M : Meaning) (k : ℕ) : Type 0 where
  pub old : Within M (seen_rel p k) old_rel
  pub closed : IsClosed M (seen_rel p k)
  pub read : Within M (seen_rel p k) (read_rel p k)

-- The snapshot is committed after the step and closed, and so is its part, which is what of it was committed before. With so
-- many begins, what is seen from one on is seen from the next on.
pub record ViewsGrow (p : Prog) (begins : ℕ) (M : Meaning) : Type 0 where
  pub part_old : Within M part_rel old_rel
  pub new : Within M snapshot_rel new_rel
  pub part_in : Within M part_rel snapshot_rel
  pub part : EachCall M (λ c. In M snapshot_rel c → In M old_rel c → In M part_rel c)
  pub snapshot : IsClosed M snapshot_rel
  pub part_closed : IsClosed M part_rel
  pub views : (k : ℕ) → k < begins → IsView p M k
  pub rise : (k : ℕ) → suc k < begins → Within M (seen_rel p k) (seen_rel p (suc k))

-- Of two calls of one invocation one is before the other.
pub record OwnCallsInLine (M : Meaning) : Type 0 where
  pub line : EachCall M (λ c. EachCall M (λ d. Equal (value_at M origin_fn c) (value_at M origin_fn d) → Differ c d → Not M before_rel c d → Rel M before_rel d c))

-- Each call has a marker in its transaction, which it is or which is before it, and no transaction has two.
pub record MarkersStand (p : Prog) (M : Meaning) : Type 0 where
  pub marked : EachCall M (λ c. ((m : Elem) → Is M call_sort m → Rel M same_rel c m → IsMark p M m → (Differ c m → Rel M before_rel m c) → ⊥) → ⊥)
  pub one : EachCall M (λ c. EachCall M (λ d. Rel M same_rel c d → IsMark p M c → IsMark p M d → Equal c d))

-- # Results

-- how many elements
abbrev pub count : Elems → ℕ
count no_elem = 0
count (also_elem x xs) = suc (count xs)

-- the element is built with the constructor, over so many
abbrev pub IsBuilt : ℕ → ℕ → Elem → Type 0
IsBuilt con n e = (xs : Elems) × (e ≡ Made con xs) × (count xs ≡ n)

-- how many values a result has
abbrev pub values_of : Option Ty → ℕ
values_of None = 0
values_of (Some ty) = 1

-- An invocation that has returned has an outcome of its procedure.
pub record ResultsFit (p : Prog) (M : Meaning) (f : ℕ) : Type 0 where
  pub fit : (n : ℕ) (q : Proc) → At p.procs n q → EachInv M (λ i. IsBuilt (info_con p n) (length q.params) (value_at M info_fn i)
      → Differ (value_at M f i) (Made (unreturned_con p) no_elem) → IsBuilt (outcome_con p n) (values_of q.result) (value_at M f i))

-- Outcomes are those of the invocations' procedures, before and after the step, and who had returned keeps its outcome.
pub record ResultsStay (p : Prog) (M : Meaning) : Type 0 where
  pub old : ResultsFit p M old_result_fn
  pub new : ResultsFit p M new_result_fn
  pub stays : EachInv M (λ i. Differ (value_at M old_result_fn i) (Made (unreturned_con p) no_elem) → Equal (value_at M old_result_fn i) (value_at M new_result_fn i))

-- An identifier among the arguments of an invocation stands in the result of some invocation.
pub record ArgumentsWereResults (p : Prog) (M : Meaning) : Type 0 where
  pub known : (ty : ℕ) → names_ids (slice_get p.types.atoms ty) ≡ true → EachInv M (λ i. (n : Elem) → Is M (atom_sort ty) n → Rel M (id_rel p ty 1) i n
      → ((j : Elem) → Is M inv_sort j → Rel M (id_rel p ty 2) j n → ⊥) → ⊥)

-- # Identifiers at places by constructors

-- the constructors of a datatype
abbrev pub cons_of : Option DataDecl → List ℕ
cons_of None = []
cons_of (Some decl) = decl.cons

-- the element is built with the constructor, and one of its parts has y of the identifier type n
abbrev pub Fields : (Ty → Elem → ℕ → Elem → Type 0) → ℕ → List Ty → Elem → ℕ → Elem → Type 0
Fields Rec con tys e n y =
    (xs : Elems) × (e ≡ Made con xs) × (count xs ≡ length tys) × (i : ℕ) × (ty : Ty) × At tys i ty × Rec ty (nth_elem xs i) n y

-- the element of the type is y itself, or is built with a constructor of its datatype and has y in a part
abbrev pub StandsIn : Prog → (Ty → Elem → ℕ → Elem → Type 0) → Ty → Elem → ℕ → Elem → Type 0
StandsIn p Rec (ty.Atom k) e n y = (names_ids (slice_get p.types.atoms k) ≡ true) × (k ≡ n) × (e ≡ y)
StandsIn p Rec (ty.Datatype d) e n y =
    (k : ℕ) × (con : ℕ) × At (cons_of (slice_get p.types.datatypes d)) k con × Fields Rec con (fields_of (slice_get p.cons.cons con)) e n y
StandsIn p Rec _ e n y = ⊥

-- the element of the type has the identifier y of type n, below so many constructors of datatypes
abbrev pub StandsAt : Prog → ℕ → Ty → Elem → ℕ → Elem → Type 0
StandsAt p zero ty e n y = StandsIn p (λ ty e n y. ⊥) ty e n y
StandsAt p (suc fuel) ty e n y = StandsIn p (StandsAt p fuel) ty e n y

-- An identifier that stands in an operation, among arguments or in a result before the step, at whatever depth, does so by its
-- relation: no value is deeper than a datatype may have parts.
pub record PlacesAreTold (p : Prog) (M : Meaning) : Type 0 where
  pub ops : (o : ℕ) (decl : OpDecl) → At p.ops o decl → EachCall M (λ c. (n : ℕ) (y : Elem)
      → Fields (StandsAt p most_parts) (op_con p o) decl.args (value_at M op_fn c) n y → Rel M (id_rel p n 0) c y)
  pub infos : (k : ℕ) (q : Proc) → At p.procs k q → EachInv M (λ i. (n : ℕ) (y : Elem)
      → Fields (StandsAt p most_parts) (info_con p k) q.params (value_at M info_fn i) n y → Rel M (id_rel p n 1) i y)
  pub results : (k : ℕ) (q : Proc) → At p.procs k q → EachInv M (λ i. (n : ℕ) (y : Elem)
      → Fields (StandsAt p most_parts) (outcome_con p k) (result_list q.result) (value_at M old_result_fn i) n y → Rel M (id_rel p n 2) i y)
