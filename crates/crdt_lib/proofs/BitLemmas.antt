-- A row of bits as a set.
use Rattle.std.proofs.Common.{◌≡◌, ℕ, ◌+◌, ◌<◌, ◌≤◌, Bool, true, false, ◌&&◌, ◌||◌, not, refl, sym, ◌∙◌, subst, add-one, arith, List, length, slice_set, get_or-set_same, get_or-set_other, inl, inr}
use Rattle.std.proofs.lemmas.Bool.{and_right, cases_lt, cases_eq}
use Rattle.std.proofs.lemmas.List.{get_or_past}
use Rattle.std.proofs.Math.Path.{fun_ext}
use Rattle.crdt_defs.specs.declared.call.CallRec.{CallRec}
use Rattle.crdt_defs.specs.Calls.{Call, calls_view}
use Rattle.crdt_defs.specs.Counting.{any_below}
use Rattle.crdt_defs.specs.Snapshots.{bit}
use Rattle.crdt_defs.specs.Meaning.{among}
use Rattle.crdt_lib.proofs.HistoryLemmas.{seen_length, no_call_past}

-- a row that agrees with a set below its length is that set
row_is : (row : List Bool) (n : ℕ) (set : ℕ → Bool) → length row ≡ n → ((k : ℕ) → k < n → bit row k ≡ set k) → ((k : ℕ) → n ≤ k → set k ≡ false) → bit row ≡ set
row_is row n set e below past =
    fun_ext (λ k. elim (cases_lt k n) [
      | inl lt ↦ below k lt
      | inr le ↦ let far : length row ≤ k = omega arith in get_or_past row k false far ∙ sym (past k le)
    ])

-- a row that agrees with those of a set which meet a test, at each call
pub row_is_among : (calls : List CallRec) (row : List Bool) (set : ℕ → Bool) (test : Call → Bool) → length row ≡ length calls → ((k : ℕ) → k < length calls → bit row k ≡ among (calls_view calls) set test k) → bit row ≡ among (calls_view calls) set test
row_is_among calls row set test e below =
    row_is row (length calls) (among (calls_view calls) set test) e below
    (λ k le. and_right (set k) _ (no_call_past (calls_view calls) test k (omega (arith, seen_length calls))))

-- a row in which the next place is written
pub row_more : (row : List Bool) (i : ℕ) (b : Bool) (set : ℕ → Bool) → i < length row → ((k : ℕ) → k < i → bit row k ≡ set k) → b ≡ set i → (k : ℕ) → k < i + 1 → bit (slice_set row i b) k ≡ set k
row_more row i b set lt old here k below =
    elim (cases_eq k i) [
      | inl same ↦ subst (λ n. bit (slice_set row i b) n ≡ set n) (sym same) (rw get_or-set_same here)
      | inr other ↦ rw get_or-set_other (old k (omega arith))
    ]

hides_one : (i a t : Bool) → ((i && not a) && not t) ≡ (i && not (t || a))
hides_one true true true = refl
hides_one true true false = refl
hides_one true false true = refl
hides_one true false false = refl
hides_one false a t = refl

-- taking hidden calls out, one delete at a time
pub hides_more : (i : Bool) (test : ℕ → Bool) (n : ℕ) → ((i && not (any_below test n)) && not (test n)) ≡ (i && not (any_below test (n + 1)))
hides_more i test n = rw add-one (hides_one i (any_below test n) (test n))
