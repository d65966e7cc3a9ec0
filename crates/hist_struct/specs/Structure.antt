-- The structure of a step, as a value.
use Rattle.std.specs.Prelude.{◌≡◌, ℕ, zero, suc, ◌<◌, Bool, true, false, nat_lt, if◌then◌else◌, List, [], ◌∷◌, ◌++◌, length, get_or, replicate, Option, Some, None, slice_get}
use Rattle.std.specs.List.{list_any}
use Rattle.rp_value.specs.declared.tables.AtomType.{AtomType}
use Rattle.rp_value.specs.Values.{Val, Atom}
use Rattle.rp_lang.specs.Programs.{Prog}
use Rattle.crdt_defs.specs.Calls.{Call}
use Rattle.crdt_defs.specs.Histories.{before, same_tx}
use Rattle.crdt_defs.specs.Parts.{Result, Unreturned, Returned, ReturnedWith}
use Rattle.crdt_defs.specs.SameValues.{same_val}
use Rattle.crdt_defs.specs.Fitting.{all_atoms}
use Rattle.event_machine.specs.Machine.{Invocation, result_of, stands_in}
use Rattle.rp_logic.specs.declared.sort.Sort.{Sort}
use Rattle.rp_logic.specs.declared.sort.Sort.TheVariants as so
use Rattle.rp_logic.specs.Signatures.{Signature, is_con_of}
use Rattle.rp_logic.specs.Elements.{Elem, Point, Made, no_elem, also_elem, junk}
use Rattle.rp_logic.specs.Structures.{Fun, Sum, Difference, Relation, Structure, Is}
use Rattle.rp_logic.specs.Truth.{Meaning, meaning}
use Rattle.rp_symbols.specs.Numbers.{op_con, info_con, unreturned_con, outcome_con}
use Rattle.rp_symbols.specs.Signatures.{sig_of, with_path}
use Rattle.crdt_enc.specs.Elements.{elem_of, elems_of}
use Rattle.hist_struct.specs.Tables.{set_relation, pair_relation, pairs, table}
use Rattle.hist_struct.specs.Defaults.{defaults_of}
use Rattle.hist_struct.specs.QueryValues.{val_tables}
use Rattle.hist_struct.specs.Steps.{Step, begins, is_done, is_lesser, is_part, is_seen, is_read}

-- # Elements of calls and invocations

abbrev pub op_elem : Prog → Option Call → Elem
op_elem p None = junk
op_elem p (Some call) = Made (op_con p call.op) (elems_of call.args)

abbrev pub origin_elem : Option Call → Elem
origin_elem None = junk
origin_elem (Some call) = Point call.inv

abbrev pub info_elem : Prog → Option Invocation → Elem
info_elem p None = junk
info_elem p (Some inv) = Made (info_con p inv.proc) (elems_of inv.args)

abbrev pub outcome_elem : Prog → ℕ → Result → Elem
outcome_elem p proc Unreturned = Made (unreturned_con p) no_elem
outcome_elem p proc Returned = Made (outcome_con p proc) no_elem
outcome_elem p proc (ReturnedWith v) = Made (outcome_con p proc) (also_elem (elem_of v) no_elem)

-- one that isn't there hasn't returned
abbrev pub result_elem : Prog → Option Invocation → Elem
result_elem p None = Made (unreturned_con p) no_elem
result_elem p (Some inv) = outcome_elem p inv.proc (result_of inv.standing)

-- # Relations

-- the pairs of a number below m and one below n that meet the test
abbrev pub grid_relation : (ℕ → ℕ → Bool) → ℕ → ℕ → Relation
grid_relation f m n = record { entries = pairs f n m; other = false }

abbrev pub always : Relation
always = record { entries = []; other = true }

abbrev pub holds_id : ℕ → ℕ → Option (List Val) → Bool
holds_id ty n None = false
holds_id ty n (Some vs) = list_any (same_val (Atom ty n)) (all_atoms vs)

abbrev pub args_of : Option Call → Option (List Val)
args_of None = None
args_of (Some call) = Some call.args

abbrev pub params_of : Option Invocation → Option (List Val)
params_of None = None
params_of (Some inv) = Some inv.args

abbrev pub returns_id : ℕ → ℕ → Option Invocation → Bool
returns_id ty n None = false
returns_id ty n (Some inv) = stands_in (Atom ty n) inv.standing

-- the identifiers of this type in operations, in arguments, in results before the step
abbrev pub rels_of_id : Step → ℕ → List Relation
rels_of_id x ty =
    grid_relation (λ c n. holds_id ty n (args_of (slice_get x.new.calls c))) (length x.new.calls) x.new.universe
    ∷ grid_relation (λ i n. holds_id ty n (params_of (slice_get x.new.invocations i))) (length x.new.invocations) x.new.universe
    ∷ grid_relation (λ i n. returns_id ty n (slice_get x.old.invocations i)) (length x.new.invocations) x.new.universe
    ∷ []

abbrev pub id_rels : Step → ℕ → List AtomType → List Relation
id_rels x ty [] = []
id_rels x ty (atom ∷ atoms) = (if atom.is_id then rels_of_id x ty else []) ++ id_rels x (suc ty) atoms

-- the views and reading sets of n begins, of which the first is number k
abbrev pub view_rels : Step → ℕ → ℕ → List Relation
view_rels x k zero = []
view_rels x k (suc n) =
    set_relation (is_seen x.old x.inv k) (length x.new.calls) ∷ set_relation (is_read x.old x.inv k) (length x.new.calls) ∷ view_rels x (suc k) n

-- the reading sets that a path adds
abbrev pub added_rels : Step → List (ℕ → Bool) → List Relation
added_rels x [] = []
added_rels x (f ∷ fs) = set_relation f (length x.old.calls) ∷ added_rels x fs

abbrev pub rels_of : Step → List Relation
rels_of x =
    let calls = length x.new.calls in
    set_relation (is_done x.old) calls
    ∷ set_relation (is_done x.new) calls
    ∷ set_relation (λ i. nat_lt i (length x.old.invocations)) (length x.new.invocations)
    ∷ always
    ∷ pair_relation (before x.new.calls) calls
    ∷ pair_relation (is_lesser x.new.calls) calls
    ∷ pair_relation (same_tx x.new.calls) calls
    ∷ set_relation x.snapshot calls
    ∷ set_relation (is_part x) calls
    ∷ (id_rels x 0 x.program.types.atoms ++ (view_rels x 0 (begins x) ++ added_rels x x.reads))

-- # Functions

-- what queries give at these calls
abbrev pub vals_at : Step → List Call → (ℕ → Bool) → List Fun
vals_at x h visible = val_tables x.program h visible 0 x.program.queries

-- at the views and reading sets of n begins, of which the first is number k
abbrev pub view_vals : Step → ℕ → ℕ → List Fun
view_vals x k zero = []
view_vals x k (suc n) =
    vals_at x x.old.calls (is_seen x.old x.inv k) ++ (vals_at x x.old.calls (is_read x.old x.inv k) ++ view_vals x (suc k) n)

-- at the reading sets that a path adds
abbrev pub added_vals : Step → List (ℕ → Bool) → List Fun
added_vals x [] = []
added_vals x (f ∷ fs) = vals_at x x.old.calls f ++ added_vals x fs

-- at all sets of calls that formulas take for a snapshot
abbrev pub vals_of : Step → List Fun
vals_of x =
    vals_at x x.old.calls (is_done x.old)
    ++ (vals_at x x.new.calls x.snapshot ++ (vals_at x x.old.calls (is_part x) ++ (view_vals x 0 (begins x) ++ added_vals x x.reads)))

abbrev pub fns_of : Step → List Fun
fns_of x =
    table (λ c. op_elem x.program (slice_get x.new.calls c)) (length x.new.calls)
    ∷ table (λ c. origin_elem (slice_get x.new.calls c)) (length x.new.calls)
    ∷ table (λ i. info_elem x.program (slice_get x.new.invocations i)) (length x.new.invocations)
    ∷ table (λ i. result_elem x.program (slice_get x.old.invocations i)) (length x.new.invocations)
    ∷ table (λ i. result_elem x.program (slice_get x.new.invocations i)) (length x.new.invocations)
    ∷ Sum
    ∷ Difference
    ∷ vals_of x

abbrev pub self_of : Step → ℕ → List Elem
self_of x zero = []
self_of x (suc n) = Point x.inv ∷ x.vals

abbrev pub structure_of : Step → Structure
structure_of x = record {
  sizes = length x.new.calls ∷ length x.new.invocations ∷ replicate (length x.program.types.atoms) x.new.universe;
  consts = self_of x x.views;
  fns = fns_of x;
  rels = rels_of x;
  defaults = defaults_of x.program;
  selected = [];
}

-- # Its signature

-- that of the program, with the constants and reading sets that a path adds
abbrev pub sig_at : Step → List ℕ → Signature
sig_at x consts = with_path x.program consts (length x.reads) (sig_of x.program x.views)

-- Any whose first sorts are calls and invocations, without constructors of theirs

pub record IsSig (S : Signature) : Type 0 where
  pub sorts : List Sort
  pub are : S.sorts ≡ so.Plain ∷ so.Plain ∷ sorts
  pub free : (con s : ℕ) → s < 2 → is_con_of (slice_get S.cons con) s ≡ false

abbrev pub meaning_of : Signature → Step → Meaning
meaning_of S x = meaning S (structure_of x)

-- # A structure of that signature

-- Without an acting invocation there are no constants; with one it is there after the step, and the path's constants are of
-- their sorts.
pub record ConstsFit (x : Step) (consts : List ℕ) : Type 0 where
  pub none : x.views ≡ 0 → consts ≡ []
  pub acts : (n : ℕ) → x.views ≡ suc n → x.inv < length x.new.invocations
  pub vals : (k s : ℕ) → slice_get consts k ≡ Some s → Is (sig_at x consts) (structure_of x) s (get_or x.vals k junk)
