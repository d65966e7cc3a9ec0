-- Lists of numbers as sets: how one is gathered, and a test at each of its numbers.
use Rattle.std.proofs.Common.{◌≡◌, ℕ, suc, ◌+◌, ◌++◌, ◌<◌, ◌≤◌, Bool, true, false, ◌&&◌, ◌||◌, refl, sym, ◌∙◌, ap, subst, arith, List, [], ◌∷◌, length, take, slice_set, inl, inr, nat_eq, not}
use Rattle.std.proofs.lemmas.Bool.{or_left, or_right, or_from, and_from, and_parts, and_right, or_parts, cases_lt, cases_eq, cases_Bool, eqb-true, eq-eqb, ne_eqb, true≢false}
use Rattle.std.proofs.lemmas.List.Elements.{All-head, All-tail, All-push}
use Rattle.std.proofs.lemmas.List.Folds.{list_any-append}
use Rattle.std.proofs.lemmas.Grind.{take-set_at}
use Rattle.std.proofs.Math.Path.{fun_ext}
use Rattle.std.specs.Prelude.{All}
use Rattle.std.specs.List.{list_any}
use Rattle.crdt_defs.specs.declared.call.CallRec.{CallRec}
use Rattle.crdt_defs.specs.Calls.{Call, calls_view}
use Rattle.crdt_defs.specs.Histories.{before, some_call}
use Rattle.crdt_defs.specs.Meaning.{among, is_before_one}
use Rattle.crdt_lib.specs.means.Picked.{listed}
use Rattle.crdt_defs.proofs.BelowLemmas.{any_found, none_below}
use Rattle.crdt_lib.proofs.HistoryLemmas.{seen_length, no_call_past}

-- # How a list is gathered

-- the first n numbers of the list are those of the set below c
pub record AreThose (set : ℕ → Bool) (c : ℕ) (list : List ℕ) (n : ℕ) : Type 0 where
  pub below : (k : ℕ) → k < c → listed (take n list) k ≡ set k
  pub past : (k : ℕ) → c ≤ k → listed (take n list) k ≡ false
  pub few : n ≤ c
  pub within : All (λ d. d < c) (take n list)

or_false : (b : Bool) → (b || false) ≡ b
or_false true = refl
or_false false = refl

wider : (c : ℕ) (ds : List ℕ) → All (λ d. d < c) ds → All (λ d. d < c + 1) ds
wider c ds all = λ k d lt. let h = all k d lt in omega arith

-- no number yet
pub none_yet : (set : ℕ → Bool) (list : List ℕ) → AreThose set 0 list 0
none_yet set list = record {
  below = λ k lt. absurd (omega arith);
  past = λ k le. refl;
  few = omega arith;
  within = λ k d lt. absurd (omega arith);
}

pub one_more : (set : ℕ → Bool) (c : ℕ) (list : List ℕ) (n : ℕ) → n < length list → set c ≡ true → AreThose set c list n → AreThose set (c + 1) (slice_set list n c) (n + 1)
one_more set c list n room here old =
    let grown : take (n + 1) (slice_set list n c) ≡ take n list ++ c ∷ [] = take-set_at list n (n + 1) c refl room in
    let at : (k : ℕ) → listed (take (n + 1) (slice_set list n c)) k ≡ (listed (take n list) k || (nat_eq c k || false)) =
    λ k. ap (λ ds. listed ds k) grown ∙ list_any-append (λ d. nat_eq d k) (take n list) (c ∷ []) in
    record {
      below = λ k lt. elim (cases_eq c k) [
        | inl same ↦ at k ∙ or_right (listed (take n list) k) _ (or_left _ false (eq-eqb c k same)) ∙ sym here ∙ ap set same
        | inr other ↦ at k ∙ ap (λ b. listed (take n list) k || (b || false)) (ne_eqb c k other) ∙ or_false (listed (take n list) k) ∙ old.below k (omega arith)
      ];
      past = λ k le. at k ∙ or_from _ _ (old.past k (omega arith)) (or_from _ false (ne_eqb c k (λ e. absurd (omega arith))) refl);
      few = let f = old.few in omega arith;
      within = subst (All (λ d. d < c + 1)) (sym grown) (All-push (λ d. d < c + 1) (take n list) c (wider c (take n list) old.within) (omega arith));
    }

pub not_one : (set : ℕ → Bool) (c : ℕ) (list : List ℕ) (n : ℕ) → set c ≡ false → AreThose set c list n → AreThose set (c + 1) list n
not_one set c list n here old = record {
  below = λ k lt. elim (cases_eq c k) [
    | inl same ↦ old.past k (omega arith) ∙ sym here ∙ ap set same
    | inr other ↦ old.below k (omega arith)
  ];
  past = λ k le. old.past k (omega arith);
  few = let f = old.few in omega arith;
  within = wider c (take n list) old.within;
}

-- all numbers of the calls of the set
pub all_those : (calls : List CallRec) (set : ℕ → Bool) (test : Call → Bool) (c : ℕ) (list : List ℕ) (n : ℕ) → c ≡ length calls → AreThose (among (calls_view calls) set test) c list n
    → listed (take n list) ≡ among (calls_view calls) set test
all_those calls set test c list n end those =
    fun_ext (λ k. elim (cases_lt k c) [
      | inl lt ↦ those.below k lt
      | inr le ↦ those.past k le ∙ sym (and_right (set k) _ (no_call_past (calls_view calls) test k (omega (arith, seen_length calls))))
    ])

-- # A test at each number

later : (p : ℕ → Bool) (d : ℕ) (ds : List ℕ) (k : ℕ) → (listed ds k && p k) ≡ true → (listed (d ∷ ds) k && p k) ≡ true
later p d ds k h = let both = and_parts (listed ds k) (p k) h in and_from _ _ (or_right (nat_eq d k) _ both.0) both.1

-- where some number of the list meets the test, there is one
met : (p : ℕ → Bool) (ds : List ℕ) (n : ℕ) → All (λ d. d < n) ds → list_any p ds ≡ true → (k : ℕ) × (k < n) × ((listed ds k && p k) ≡ true)
met p [] n all e = absurd (true≢false (sym e))
met p (d ∷ ds) n all e =
    elim (cases_Bool (p d)) [
      | inl here ↦ (d, All-head (λ x. x < n) d ds all, and_from _ _ (or_left (nat_eq d d) _ (eq-eqb d d refl)) here)
      | inr other ↦
          let rest = met p ds n (All-tail (λ x. x < n) d ds all) (sym (ap (λ b. b || list_any p ds) other) ∙ e) in
          (rest.0, rest.1, later p d ds rest.0 rest.2)
    ]

unmet : (p : ℕ → Bool) (ds : List ℕ) (k : ℕ) → list_any p ds ≡ false → (listed ds k && p k) ≡ false
unmet p [] k e = refl
unmet p (d ∷ ds) k e =
    let parts = or_parts (p d) (list_any p ds) e in
    elim (cases_Bool (nat_eq d k)) [
      | inl same ↦ and_right (listed (d ∷ ds) k) (p k) (ap p (sym (eqb-true d k same)) ∙ parts.0)
      | inr other ↦ ap (λ b. (b || listed ds k) && p k) other ∙ unmet p ds k parts.1
    ]

-- a test at each number of a list of calls
pub test_listed : (h : List Call) (p : ℕ → Bool) (ds : List ℕ) → All (λ d. d < length h) ds → list_any p ds ≡ some_call h (λ d. listed ds d && p d)
test_listed h p ds all =
    elim (cases_Bool (list_any p ds)) [
      | inl e ↦ let one = met p ds (length h) all e in e ∙ sym (any_found (λ d. listed ds d && p d) (length h) one.0 one.1 one.2)
      | inr e ↦ e ∙ sym (none_below (λ d. listed ds d && p d) (length h) (λ k lt. unmet p ds k e))
    ]

seen_all : (calls : List CallRec) (ds : List ℕ) → All (λ d. d < length calls) ds → All (λ d. d < length (calls_view calls)) ds
seen_all calls ds all = λ k d lt. let h = all k d lt in omega (arith, seen_length calls)

pub before_listed : (calls : List CallRec) (ds : List ℕ) (c : ℕ) → All (λ d. d < length calls) ds → list_any (before (calls_view calls) c) ds ≡ is_before_one (calls_view calls) (listed ds) c
before_listed calls ds c all = test_listed (calls_view calls) (before (calls_view calls) c) ds (seen_all calls ds all)

pub some_listed : (calls : List CallRec) (ds : List ℕ) → All (λ d. d < length calls) ds → some_call (calls_view calls) (listed ds) ≡ not (nat_eq (length ds) 0)
some_listed calls [] all = none_below (listed []) (length (calls_view calls)) (λ k lt. refl)
some_listed calls (d ∷ ds) all =
    let within : d < length (calls_view calls) = All-head (λ x. x < length (calls_view calls)) d ds (seen_all calls (d ∷ ds) all) in
    let some : nat_eq (suc (length ds)) 0 ≡ false = ne_eqb _ _ (λ e. absurd (omega arith)) in
    any_found (listed (d ∷ ds)) (length (calls_view calls)) d within (or_left (nat_eq d d) _ (eq-eqb d d refl)) ∙ sym (ap not some)
