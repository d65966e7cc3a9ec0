-- Rows of bits that say which calls are read.
use Rattle.std.proofs.Common.{◌≡◌, ℕ, zero, suc, ◌+◌, ◌<◌, Bool, true, false, ◌&&◌, ◌||◌, nat_eq, refl, sym, ap, ◌∙◌, List, [], ◌∷◌, ◌++◌, length, get_or, take, Option, Some, None, slice_get, max, inl, inr, ◌⊎◌}
use Rattle.std.specs.Prelude.{if◌then◌else◌}
use Rattle.std.proofs.lemmas.Bool.{cases_eq, eq-eqb, ne_eqb}
use Rattle.std.proofs.lemmas.List.{append-nil, take_more}
use Rattle.std.proofs.lemmas.List.Folds.{list_any-append}
use Rattle.std.proofs.Math.Path.{fun_ext}
use Rattle.crdt_defs.specs.Calls.{Call}
use Rattle.crdt_defs.specs.Counting.{first_below, or_this}
use Rattle.crdt_defs.specs.Histories.{before, meets}
use Rattle.crdt_defs.specs.Snapshots.{bit}
use Rattle.crdt_defs.proofs.BelowLemmas.{none_below}
use Rattle.crdt_defs.specs.Meaning.{is_before_one, stamp_of}
use Rattle.event_machine.specs.Machine.{is_in, calls_of, greatest_stamp, own_calls, is_missing, listed}
use Rattle.event_machine.specs.States.{State}

same_number : (a b : ℕ) → nat_eq a b ≡ nat_eq b a
same_number a b = by (cases_eq a b)
  where
    by : (a ≡ b) ⊎ (a ≡ b → ⊥) → nat_eq a b ≡ nat_eq b a
    by (inl e) = eq-eqb a b e ∙ sym (eq-eqb b a (sym e))
    by (inr other) = ne_eqb a b other ∙ sym (ne_eqb b a (λ e. other (sym e)))

-- one more transaction
seen_more : (xs : List ℕ) (x : ℕ) (o : Option Call) → meets (λ call. is_in (xs ++ x ∷ []) call.tx) o ≡ (meets (λ call. nat_eq call.tx x) o || meets (λ call. is_in xs call.tx) o)
seen_more xs x None = refl
seen_more xs x (Some call) = list_any-append (λ m. nat_eq m call.tx) xs (x ∷ []) ∙ ap (λ b. is_in xs call.tx || (b || false)) (same_number x call.tx) ∙ swapped (is_in xs call.tx) (nat_eq call.tx x)
  where
    swapped : (a b : Bool) → (a || (b || false)) ≡ (b || a)
    swapped true true = refl
    swapped true false = refl
    swapped false true = refl
    swapped false false = refl

or_assoc : (a b c : Bool) → (a || (b || c)) ≡ ((a || b) || c)
or_assoc true b c = refl
or_assoc false b c = refl

pub marks_more : (calls : List Call) (sees : List ℕ) (i tx d n : ℕ) (new old start : Bool) → i < length sees → tx ≡ get_or sees i d
    → new ≡ (own_calls calls (Some tx) n || old) → old ≡ (calls_of calls (take i sees) n || start) → new ≡ (calls_of calls (take (i + 1) sees) n || start)
marks_more calls sees i tx d n new old start lt is is_new is_old =
    is_new
    ∙ ap (λ b. own_calls calls (Some tx) n || b) is_old
    ∙ or_assoc (own_calls calls (Some tx) n) (calls_of calls (take i sees) n) start
    ∙ ap (λ b. b || start) (sym (seen_more (take i sees) tx (slice_get calls n)))
    ∙ ap (λ x. calls_of calls (take i sees ++ x ∷ []) n || start) is
    ∙ ap (λ xs. calls_of calls xs n || start) (sym (take_more sees i d lt))

or_none : (b : Bool) → (b || false) ≡ b
or_none true = refl
or_none false = refl

pub only_marked : (new old : List Bool) (set : ℕ → Bool) → ((n : ℕ) → bit new n ≡ (set n || bit old n)) → ((n : ℕ) → bit old n ≡ false) → ◌≡◌ {A = ℕ → Bool} (bit new) set
only_marked new old set marked none = fun_ext (λ n. marked n ∙ ap (λ b. set n || b) (none n) ∙ or_none (set n))

swap : (a b : Bool) → (b || a) ≡ (a || b)
swap true true = refl
swap true false = refl
swap false true = refl
swap false false = refl

pub both_marked : (new middle old : List Bool) (set more : ℕ → Bool) → ((n : ℕ) → bit middle n ≡ (set n || bit old n)) → ((n : ℕ) → bit new n ≡ (more n || bit middle n)) → ((n : ℕ) → bit old n ≡ false) → ◌≡◌ {A = ℕ → Bool} (bit new) (λ c. set c || more c)
both_marked new middle old set more first second none =
    fun_ext (λ n. second n ∙ ap (λ b. more n || b) (first n ∙ ap (λ b. set n || b) (none n) ∙ or_none (set n)) ∙ swap (set n) (more n))

-- # Nothing is seen

of_none : (calls : List Call) (c : ℕ) → calls_of calls [] c ≡ false
of_none calls c = by (slice_get calls c)
  where
    by : (o : Option Call) → meets (λ call. is_in [] call.tx) o ≡ false
    by None = refl
    by (Some call) = refl

none_first : (test : ℕ → Bool) (n : ℕ) → ((k : ℕ) → test k ≡ false) → first_below test n ≡ None
none_first test zero h = refl
none_first test (suc n) h = first_none (first_below test n) (test n) n (none_first test n h) (h n)
  where
    first_none : (o : Option ℕ) (b : Bool) (n : ℕ) → o ≡ None → b ≡ false → or_this o b n ≡ None
    first_none o b n e f = ap (λ x. or_this x b n) e ∙ ap (λ x. or_this None x n) f

both_false : (a b c : Bool) → b ≡ false → c ≡ false → (a && (b || c)) ≡ false
both_false true b c e f = ap (λ x. x || c) e ∙ f
both_false false b c e f = refl

and_none : (a b : Bool) → b ≡ false → (a && b) ≡ false
and_none true b e = e
and_none false b e = refl

pub nothing_missing : (s : State) (sees earlier : List ℕ) (txs : ℕ) → sees ≡ [] → earlier ≡ [] → None ≡ first_below (is_missing s sees (calls_of s.calls earlier)) txs
nothing_missing s sees earlier txs no_sees no_earlier =
    sym (ap (λ xs. first_below (is_missing s xs (calls_of s.calls earlier)) txs) no_sees
    ∙ ap (λ xs. first_below (is_missing s [] (calls_of s.calls xs)) txs) no_earlier
    ∙ none_first (is_missing s [] (calls_of s.calls [])) txs (λ t.
    none_below (λ c. own_calls s.calls (Some t) c && (calls_of s.calls [] c || is_before_one s.calls (calls_of s.calls []) c)) (length s.calls) (λ c lt.
    both_false (own_calls s.calls (Some t) c) (calls_of s.calls [] c) (is_before_one s.calls (calls_of s.calls []) c) (of_none s.calls c)
    (none_below (λ d. calls_of s.calls [] d && before s.calls c d) (length s.calls) (λ d less. ap (λ b. b && before s.calls c d) (of_none s.calls d))))))

pub none_seen : (calls : List Call) (sees : List ℕ) (n : ℕ) (b : Bool) → b ≡ (calls_of calls (take 0 sees) n || b)
none_seen calls sees n b = sym (ap (λ x. x || b) (of_none calls n))

unread : (calls : List Call) (c : ℕ) → (calls_of calls [] c || own_calls calls None c) ≡ false
unread calls c = ap (λ b. b || false) (of_none calls c)

listed_nothing : (set : ℕ → Bool) (n : ℕ) → ((k : ℕ) → set k ≡ false) → [] ≡ listed set n
listed_nothing set zero h = refl
listed_nothing set (suc n) h = listed_nothing set n h ∙ sym (append-nil (listed set n)) ∙ ap (λ b. listed set n ++ (if b then n ∷ [] else [])) (sym (h n))

greatest_nothing : (calls : List Call) (set : ℕ → Bool) (n : ℕ) → ((k : ℕ) → set k ≡ false) → 0 ≡ greatest_stamp calls set n
greatest_nothing calls set zero h = refl
greatest_nothing calls set (suc n) h =
    ap (λ m. max m 0) (greatest_nothing calls set n h)
    ∙ ap (λ b. max (greatest_stamp calls set n) (if b then stamp_of (slice_get calls n) else 0)) (sym (h n))

-- what is read where nothing is seen and no transaction is open
pub nothing_read : (calls : List Call) (sees : List ℕ) (tx : Option ℕ) (n : ℕ) → sees ≡ [] → tx ≡ None
    → [] ≡ listed (λ c. calls_of calls sees c || own_calls calls tx c) n
nothing_read calls sees tx n no_sees no_tx =
    listed_nothing (λ c. calls_of calls [] c || own_calls calls None c) n (unread calls)
    ∙ sym (ap (λ xs. listed (λ c. calls_of calls xs c || own_calls calls tx c) n) no_sees ∙ ap (λ t. listed (λ c. calls_of calls [] c || own_calls calls t c) n) no_tx)

pub nothing_stamped : (calls : List Call) (sees : List ℕ) (tx : Option ℕ) (n : ℕ) → sees ≡ [] → tx ≡ None
    → 0 ≡ greatest_stamp calls (λ c. calls_of calls sees c || own_calls calls tx c) n
nothing_stamped calls sees tx n no_sees no_tx =
    greatest_nothing calls (λ c. calls_of calls [] c || own_calls calls None c) n (unread calls)
    ∙ sym (ap (λ xs. greatest_stamp calls (λ c. calls_of calls xs c || own_calls calls tx c) n) no_sees ∙ ap (λ t. greatest_stamp calls (λ c. calls_of calls [] c || own_calls calls t c) n) no_tx)

pub and_this : (a b : Bool) → b ≡ true → a ≡ (a && b)
and_this true b h = sym h
and_this false b h = refl
