-- The axiom of registers: what a query of a register gives at a view is what the assign of the greatest stamp among those that
-- count there assigns, or `none`. As a condition on a structure and as formulas.
use Rattle.std.specs.Prelude.{◌≡◌, ◌<◌, ℕ, zero, suc, ◌-◌, Bool, true, false, ◌&&◌, List, [], ◌∷◌, ◌++◌, length, map, Option, Some, None, slice_get, if◌then◌else◌}
use Rattle.rp_value.specs.declared.tables.Ty.{Ty}
use Rattle.rp_lang.specs.Crdts.{Cr, Reg}
use Rattle.rp_lang.specs.Paths.{field_in, root_crdt}
use Rattle.rp_lang.specs.declared.op.OpDecl.{OpDecl}
use Rattle.rp_lang.specs.declared.op.OpKind.TheVariants.{Assign}
use Rattle.rp_lang.specs.declared.op.PathStep.{PathStep}
use Rattle.rp_lang.specs.declared.op.PathStep.TheVariants.{Field, Key}
use Rattle.rp_lang.specs.declared.query.QueryDecl.{QueryDecl}
use Rattle.rp_lang.specs.declared.query.QueryKind.{QueryKind}
use Rattle.rp_lang.specs.declared.query.QueryKind.TheVariants.{GetReg}
use Rattle.rp_lang.specs.Programs.{Prog}
use Rattle.crdt_defs.specs.declared.asked.Winner.{Winner}
use Rattle.crdt_defs.specs.declared.asked.Winner.TheVariants.{Update, Delete}
use Rattle.crdt_defs.specs.Queries.{held_in, winner_in}
use Rattle.crdt_defs.specs.Truths.{nth_con}
use Rattle.event_machine.specs.WellFormed.{At}
use Rattle.rp_logic.specs.Elements.{Elem, Made, no_elem, also_elem}
use Rattle.rp_logic.specs.Terms.{Tm, Var, Fn, Con, no_tm, also_tm}
use Rattle.rp_logic.specs.Formulas.{Fm, And, All, no_fm, also_fm}
use Rattle.rp_logic.specs.Filling.{raised}
use Rattle.rp_logic.specs.Truth.{Meaning}
use Rattle.rp_symbols.specs.Numbers.{stamp_rel, before_rel, op_fn, op_con, val_fn}
use Rattle.rp_symbols.specs.Numbers.{old_rel, snapshot_rel, part_rel, seen_rel, read_rel, added_rel}
use Rattle.rp_symbols.specs.Signatures.{sort_of}
use Rattle.crdt_enc.specs.Builders.{one_fm, tms_of}
use Rattle.crdt_enc.specs.Elements.{elems}
use Rattle.crdt_enc.specs.FitsParts.{Is, value_at, applied_to}
use Rattle.crdt_enc.specs.QueryFormulas.{is_delete, is_kind, some_call, each_call}
use Rattle.crdt_enc.specs.Ways as ways
use Rattle.crdt_enc.specs.Ways.{Way, Root, AtField, depth, keys, goes}
use Rattle.hist_struct.specs.Conditions.{EachCall, In, Rel, Not, Equal, Differ}
use Rattle.hist_struct.specs.Axioms.{implied, rel, equal, differ}

-- # Along the path of a query

-- the way with its keys changed
abbrev pub mapped : {K L : Type 0} → (K → L) → Way K → Way L
mapped f (Root root) = Root root
mapped f (AtField n way) = AtField n (mapped f way)
mapped f (ways.AtKey winner key way) = ways.AtKey winner (f key) (mapped f way)

-- the type of a register's value and the way to the register
pub record Register (K : Type 0) : Type 0 where
  pub ty : Ty
  pub way : Way K

abbrev pub register_here : {K : Type 0} → Cr → Way K → Option (Register K)
register_here (Reg ty) way = Some (record { ty = ty; way = way })
register_here _ way = None

-- the register where this way was taken, to this type, and the path leads on with these keys
abbrev pub register_at : {K : Type 0} → Option Cr → List PathStep → Way K → List K → Option (Register K)
register_at None path way given = None
register_at (Some crdt) [] way given = register_here crdt way
register_at (Some crdt) (Field n ∷ path) way given = register_at (field_in crdt n) path (AtField n way) given
register_at (Some crdt) (Key ty ∷ path) way [] = None
register_at (Some crdt) (Key ty ∷ path) way (k ∷ given) = register_at (held_in crdt) path (ways.AtKey (winner_in crdt) k way) given

-- the register of a query at these keys
abbrev pub register_of : {K : Type 0} → Prog → QueryDecl → List K → Option (Register K)
register_of p query given = register_at (root_crdt (slice_get p.roots query.root)) query.path (Root query.root) given

abbrev pub is_register : QueryKind → Bool
is_register GetReg = true
is_register _ = false

-- # The calls that count, as a condition

-- the call is this operation, with these as its first arguments
abbrev pub IsOp : Prog → Meaning → ℕ → OpDecl → List Elem → Elem → Type 0
IsOp p M op decl given c =
    (rest : List Elem) × (value_at M op_fn c ≡ Made (op_con p op) (elems (given ++ rest))) × (length rest ≡ length decl.args - length given)

-- each visible call of such an operation with these as its first arguments, of which it holds as well that it is kept
abbrev pub EachSuch : Prog → Meaning → ℕ → (OpDecl → Bool) → List Elem → (Elem → Type 0) → (Elem → Type 0) → Type 0
EachSuch p M view pass given Kept P =
    (op : ℕ) (decl : OpDecl) → At p.ops op decl → pass decl ≡ true → EachCall M (λ d. In M view d → IsOp p M op decl given d → Kept d → P d)

-- the call isn't deleted by the other
abbrev pub Wins : Meaning → Winner → Elem → Elem → Type 0
Wins M Update c d = Not M before_rel c d
Wins M Delete c d = Rel M before_rel d c

-- a delete of a key of the map at the end of the way
abbrev pub deletes_at : {K : Type 0} → Way K → OpDecl → Bool
deletes_at way decl = goes way decl && is_delete (depth way) decl

-- no delete of a key on the way makes the call not count
abbrev pub Stays : Prog → Meaning → ℕ → Way Elem → Elem → Type 0
Stays p M view (Root root) c = Unit {0}
Stays p M view (AtField n way) c = Stays p M view way c
Stays p M view (ways.AtKey winner key way) c =
    Stays p M view way c × EachSuch p M view (deletes_at way) (keys way ++ key ∷ []) (Stays p M view way) (Wins M winner c)

-- each assign that counts at the end of the way, with these as its first arguments behind the keys
abbrev pub EachAssign : Prog → Meaning → ℕ → Way Elem → List Elem → (Elem → Type 0) → Type 0
EachAssign p M view way own P = EachSuch p M view (λ decl. goes way decl && is_kind Assign decl) (keys way ++ own) (Stays p M view way) P

-- no assign counts
abbrev pub NoneAssigns : Prog → Meaning → ℕ → Way Elem → Type 0
NoneAssigns p M view way = EachAssign p M view way [] (λ c. ⊥)

-- some assign of the element counts, and all others that count have lesser stamps
abbrev pub IsLatest : Prog → Meaning → ℕ → Way Elem → Elem → Type 0
IsLatest p M view way x =
    EachAssign p M view way (x ∷ []) (λ c. EachAssign p M view way [] (λ d. Differ d c → Rel M stamp_rel d c) → ⊥) → ⊥

-- # The condition

-- of all elements of these sorts, the first ones given
abbrev pub EachIn : Meaning → List ℕ → List Elem → (List Elem → Type 0) → Type 0
EachIn M [] given P = P given
EachIn M (sort ∷ sorts) given P = (e : Elem) → Is M sort e → EachIn M sorts (given ++ e ∷ []) P

-- the query gives `some` of x at these keys
abbrev pub GivesSome : Prog → Meaning → ℕ → ℕ → Ty → List Elem → Elem → Type 0
GivesSome p M view n result given x = Equal (applied_to M (val_fn p view n) (elems given)) (Made (nth_con p result 1) (also_elem x no_elem))

-- it gives `none`
abbrev pub GivesNone : Prog → Meaning → ℕ → ℕ → Ty → List Elem → Type 0
GivesNone p M view n result given = Equal (applied_to M (val_fn p view n) (elems given)) (Made (nth_con p result 0) no_elem)

-- It gives `some` of x exactly where x was assigned last, and `none` exactly where nothing was.
pub record RegisterTells (p : Prog) (M : Meaning) (view n : ℕ) (result : Ty) (given : List Elem) (r : Register Elem) : Type 0 where
  pub some : (x : Elem) → Is M (sort_of p r.ty) x
      → (GivesSome p M view n result given x → IsLatest p M view r.way x) × (IsLatest p M view r.way x → GivesSome p M view n result given x)
  pub none : (GivesNone p M view n result given → NoneAssigns p M view r.way) × (NoneAssigns p M view r.way → GivesNone p M view n result given)

abbrev pub Told : {A : Type 0} → (A → Type 0) → Option A → Type 0
Told P None = Unit {0}
Told P (Some a) = P a

-- each register query tells so, at all keys
abbrev pub RegistersTell : Prog → Meaning → ℕ → Type 0
RegistersTell p M view =
    (n : ℕ) (query : QueryDecl) → At p.queries n query → is_register query.kind ≡ true
    → EachIn M (map (sort_of p) query.args) [] (λ given. Told (RegisterTells p M view n query.result given) (register_of p query given))

-- # The formulas

-- of all elements of these sorts; the terms are the variables, the outermost first
abbrev pub all_in : List ℕ → List Tm → (List Tm → Fm) → Fm
all_in [] given f = f given
all_in (sort ∷ sorts) given f = All sort (all_in sorts (map (raised 1) given ++ Var 0 ∷ []) f)

-- both are true or both are false
abbrev pub same_truth : Fm → Fm → Fm
same_truth f g = And (also_fm (implied (one_fm f) g) (one_fm (implied (one_fm g) f)))

-- `rest` is true of each assign that counts, where n variables stand between it and the way
abbrev pub each_assign : Prog → ℕ → ℕ → Way Tm → Fm → Fm
each_assign p view n way rest = each_call p view n way (is_kind Assign) [] (one_fm rest)

-- some assign of the term counts, and all others that count have lesser stamps
abbrev pub is_latest : Prog → ℕ → Way Tm → Tm → Fm
is_latest p view way x =
    some_call p view 0 way (is_kind Assign) (x ∷ [])
    (one_fm (each_assign p view 1 way (implied (one_fm (differ 0 1)) (rel stamp_rel 0 1))))

abbrev pub none_assigns : Prog → ℕ → Way Tm → Fm
none_assigns p view way = each_call p view 0 way (is_kind Assign) [] no_fm

abbrev pub value_of : Prog → ℕ → ℕ → List Tm → Tm
value_of p view n given = Fn (val_fn p view n) (tms_of given)

abbrev pub gives_some : Prog → ℕ → ℕ → Ty → List Tm → Tm → Fm
gives_some p view n result given x = equal (value_of p view n given) (Con (nth_con p result 1) (also_tm x no_tm))

abbrev pub gives_none : Prog → ℕ → ℕ → Ty → List Tm → Fm
gives_none p view n result given = equal (value_of p view n given) (Con (nth_con p result 0) no_tm)

-- `some` of x exactly where x was assigned last
abbrev pub some_told : Prog → ℕ → ℕ → Ty → List Tm → Register Tm → Fm
some_told p view n result given r =
    same_truth (gives_some p view n result (map (raised 1) given) (Var 0)) (is_latest p view (mapped (raised 1) r.way) (Var 0))

abbrev pub register_tells : Prog → ℕ → ℕ → Ty → List Tm → Register Tm → Fm
register_tells p view n result given r =
    And (also_fm (All (sort_of p r.ty) (some_told p view n result given r))
    (one_fm (same_truth (gives_none p view n result given) (none_assigns p view r.way))))

abbrev pub told : {A : Type 0} → (A → Fm) → Option A → Fm
told f None = And no_fm
told f (Some a) = f a

-- of one query
abbrev pub query_tells : Prog → ℕ → ℕ → QueryDecl → Fm
query_tells p view n query =
    all_in (map (sort_of p) query.args) [] (λ given. told (register_tells p view n query.result given) (register_of p query given))

-- of each of these queries, the first of number n
abbrev pub queries_tell : Prog → ℕ → ℕ → List QueryDecl → List Fm
queries_tell p view n [] = []
queries_tell p view n (query ∷ queries) =
    (if is_register query.kind then query_tells p view n query ∷ [] else []) ++ queries_tell p view (suc n) queries

-- of all queries of registers, at this view
abbrev pub registers_tell : Prog → ℕ → List Fm
registers_tell p view = queries_tell p view 0 p.queries

-- at what is seen and read from each begin below n on
abbrev pub registers_of_views : Prog → ℕ → List Fm
registers_of_views p zero = []
registers_of_views p (suc n) = registers_tell p (seen_rel p n) ++ (registers_tell p (read_rel p n) ++ registers_of_views p n)

-- at the first n reading sets that a path adds behind so many begins
abbrev pub registers_of_added : Prog → ℕ → ℕ → List Fm
registers_of_added p begins zero = []
registers_of_added p begins (suc n) = registers_tell p (added_rel p begins n) ++ registers_of_added p begins n

-- at each view and each reading set
abbrev pub registers_are_told : Prog → ℕ → ℕ → List Fm
registers_are_told p begins reads =
    registers_tell p old_rel
    ++ (registers_tell p snapshot_rel ++ (registers_tell p part_rel ++ (registers_of_views p begins ++ registers_of_added p begins reads)))

-- Registers tell at the calls committed before the step, at the snapshot, at its part, at what is seen and read from each begin
-- on, and at each reading set that a path adds.
pub record RegistersAreTold (p : Prog) (begins reads : ℕ) (M : Meaning) : Type 0 where
  pub old : RegistersTell p M old_rel
  pub snapshot : RegistersTell p M snapshot_rel
  pub part : RegistersTell p M part_rel
  pub seen : (k : ℕ) → k < begins → RegistersTell p M (seen_rel p k)
  pub read : (k : ℕ) → k < begins → RegistersTell p M (read_rel p k)
  pub added : (j : ℕ) → j < reads → RegistersTell p M (added_rel p begins j)
