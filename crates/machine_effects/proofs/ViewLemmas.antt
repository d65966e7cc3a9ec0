-- What a state is seen as when something in it is written or added.
use Rattle.std.proofs.Common.{◌≡◌, ℕ, zero, suc, ◌+◌, ◌<◌, ◌≤◌, Bool, true, false, ◌||◌, nat_eq, refl, sym, ◌∙◌, ap, subst, arith, List, [], ◌∷◌, ◌++◌, length, Option, Some, None, slice_get, slice_set, ◌⊎◌, inl, inr, All}
use Rattle.std.specs.List.{list_any}
use Rattle.std.proofs.lemmas.Bool.{cases_lt, cases_eq, ne_eqb, or_cases, eqb-true, true≢false}
use Rattle.std.proofs.lemmas.Option.{slice_get_past}
use Rattle.std.proofs.lemmas.List.{length-append}
use Rattle.std.proofs.lemmas.List.Elements.{All-head, All-tail}
use Rattle.std.proofs.Math.Path.{fun_ext}
use Rattle.rp_lang.specs.Programs.{Prog}
use Rattle.crdt_defs.specs.Calls.{Call}
use Rattle.crdt_defs.specs.Histories.{meets, call_is}
use Rattle.crdt_truth.specs.declared.reading.Info.{Info}
use Rattle.event_machine.specs.States as seen
use Rattle.event_machine.specs.Machine.{is_in, calls_of, own_calls}
use Rattle.machine_state.specs.declared.state.Run.{Run}
use Rattle.machine_state.specs.StateView.{inv_view, invs_view, txs_view}
use Rattle.machine_state.proofs.StateLemmas.{nothing, one_found}

-- # Lists

-- what stands in a list in which one is written is that one, or stood there before
pub set_found : {A : Type 0} (xs : List A) (i : ℕ) (y : A) (k : ℕ) (x : A) → slice_get (slice_set xs i y) k ≡ Some x → ((k ≡ i) × (y ≡ x)) ⊎ (slice_get xs k ≡ Some x)
set_found [] i y k x e = inr e
set_found (z ∷ zs) zero y zero x e = inl (refl, one_found (Some y) y x refl e)
set_found (z ∷ zs) zero y (suc k) x e = inr e
set_found (z ∷ zs) (suc i) y zero x e = inr e
set_found (z ∷ zs) (suc i) y (suc k) x e = elim (set_found zs i y k x e) [ inl h ↦ inl (ap suc h.0, h.1) | inr h ↦ inr h ]

-- what stands in a list with one more is that one, or stood there before
pub end_found : {A : Type 0} (xs : List A) (y : A) (k : ℕ) (x : A) → slice_get (xs ++ y ∷ []) k ≡ Some x → (y ≡ x) ⊎ (slice_get xs k ≡ Some x)
end_found [] y zero x e = inl (one_found (Some y) y x refl e)
end_found [] y (suc k) x e = absurd (nothing x e)
end_found (z ∷ zs) y zero x e = inr e
end_found (z ∷ zs) y (suc k) x e = end_found zs y k x e

pub any_set : {A : Type 0} (f : A → Bool) (xs : List A) (i : ℕ) (x y : A) → slice_get xs i ≡ Some x → f y ≡ f x → list_any f (slice_set xs i y) ≡ list_any f xs
any_set f [] i x y e same = absurd (nothing x e)
any_set f (z ∷ zs) zero x y e same = ap (λ b. b || list_any f zs) (same ∙ ap f (sym (one_found (Some z) z x refl e)))
any_set f (z ∷ zs) (suc i) x y e same = ap (λ b. f z || b) (any_set f zs i x y e same)

-- # Invocations

pub invs_set_run : (p : Prog) (calls : List Call) (infos : List Info) (runs : List Run) (i : ℕ) (info : Info) (run : Run) → slice_get infos i ≡ Some info
    → invs_view p calls infos (slice_set runs i run) ≡ slice_set (invs_view p calls infos runs) i (inv_view p calls info run)
invs_set_run p calls [] runs i info run e = absurd (nothing info e)
invs_set_run p calls (x ∷ infos) [] i info run e = refl
invs_set_run p calls (x ∷ infos) (r ∷ runs) zero info run e = ap (λ a. inv_view p calls a run ∷ invs_view p calls infos runs) (one_found (Some x) x info refl e)
invs_set_run p calls (x ∷ infos) (r ∷ runs) (suc i) info run e = ap (λ rest. inv_view p calls x r ∷ rest) (invs_set_run p calls infos runs i info run e)

pub invs_set_info : (p : Prog) (calls : List Call) (infos : List Info) (runs : List Run) (i : ℕ) (info : Info) (run : Run) → slice_get runs i ≡ Some run
    → invs_view p calls (slice_set infos i info) runs ≡ slice_set (invs_view p calls infos runs) i (inv_view p calls info run)
invs_set_info p calls [] runs i info run e = refl
invs_set_info p calls (x ∷ infos) [] i info run e = absurd (nothing run e)
invs_set_info p calls (x ∷ infos) (r ∷ runs) zero info run e = ap (λ a. inv_view p calls info a ∷ invs_view p calls infos runs) (one_found (Some r) r run refl e)
invs_set_info p calls (x ∷ infos) (r ∷ runs) (suc i) info run e = ap (λ rest. inv_view p calls x r ∷ rest) (invs_set_info p calls infos runs i info run e)

pub invs_end : (p : Prog) (calls : List Call) (infos : List Info) (runs : List Run) (info : Info) (run : Run) → length infos ≡ length runs
    → invs_view p calls (infos ++ info ∷ []) (runs ++ run ∷ []) ≡ invs_view p calls infos runs ++ inv_view p calls info run ∷ []
invs_end p calls [] [] info run e = refl
invs_end p calls [] (r ∷ runs) info run e = absurd (omega arith)
invs_end p calls (x ∷ infos) [] info run e = absurd (omega arith)
invs_end p calls (x ∷ infos) (r ∷ runs) info run e = ap (λ rest. inv_view p calls x r ∷ rest) (invs_end p calls infos runs info run (omega arith))

-- # Transactions

pub txs_end : (owners : List ℕ) (committed : List Bool) (owner : ℕ) (b : Bool) → length owners ≡ length committed
    → txs_view (owners ++ owner ∷ []) (committed ++ b ∷ []) ≡ txs_view owners committed ++ record { inv = owner; committed = b } ∷ []
txs_end [] [] owner b e = refl
txs_end [] (c ∷ committed) owner b e = absurd (omega arith)
txs_end (o ∷ owners) [] owner b e = absurd (omega arith)
txs_end (o ∷ owners) (c ∷ committed) owner b e = ap (λ rest. record { inv = o; committed = c } ∷ rest) (txs_end owners committed owner b (omega arith))

pub txs_set : (owners : List ℕ) (committed : List Bool) (tx : ℕ) (b : Bool) (t : seen.Tx) → slice_get (txs_view owners committed) tx ≡ Some t
    → txs_view owners (slice_set committed tx b) ≡ slice_set (txs_view owners committed) tx (record { inv = t.inv; committed = b })
txs_set [] committed tx b t e = refl
txs_set (o ∷ owners) [] tx b t e = refl
txs_set (o ∷ owners) (c ∷ committed) zero b t e =
    ap (λ (t : seen.Tx). record { inv = t.inv; committed = b } ∷ txs_view owners committed) (one_found (Some (record { inv = o; committed = c })) (record { inv = o; committed = c }) t refl e)
txs_set (o ∷ owners) (c ∷ committed) (suc tx) b t e = ap (λ rest. record { inv = o; committed = c } ∷ rest) (txs_set owners committed tx b t e)

-- # Calls

nat_eq_turned : (a b : ℕ) → nat_eq a b ≡ nat_eq b a
nat_eq_turned a b =
    elim (cases_eq a b) [
      | inl same ↦ ap (λ n. nat_eq n b) same ∙ sym (ap (λ n. nat_eq b n) same)
      | inr other ↦ ne_eqb a b other ∙ sym (ne_eqb b a (λ e. other (sym e)))
    ]

or_out : (a b : Bool) → (a || b) ≡ (b || a)
or_out true true = refl
or_out true false = refl
or_out false true = refl
or_out false false = refl

or_in : (a b c : Bool) → (a || (b || c)) ≡ ((a || b) || c)
or_in true b c = refl
or_in false b c = refl

is_in_more : (list : List ℕ) (tx n : ℕ) → is_in (list ++ tx ∷ []) n ≡ (is_in list n || nat_eq n tx)
is_in_more [] tx n = or_out (nat_eq tx n) false ∙ nat_eq_turned tx n
is_in_more (m ∷ list) tx n = ap (λ b. nat_eq m n || b) (is_in_more list tx n) ∙ or_in (nat_eq m n) (is_in list n) (nat_eq n tx)

meets_either : (found : Option Call) (one two : Call → Bool) → meets (λ call. one call || two call) found ≡ (meets one found || meets two found)
meets_either None one two = refl
meets_either (Some call) one two = refl

-- a view with the calls of the open transaction is the view with that transaction
pub reading_is : (calls : List Call) (sees : List ℕ) (tx : ℕ) → calls_of calls (sees ++ tx ∷ []) ≡ (λ c. calls_of calls sees c || own_calls calls (Some tx) c)
reading_is calls sees tx =
    fun_ext (λ c. ap (λ test. meets test (slice_get calls c)) (fun_ext (λ (call : Call). is_in_more sees tx call.tx))
    ∙ meets_either (slice_get calls c) (λ call. is_in sees call.tx) (λ call. nat_eq call.tx tx))

get_front : {X : Type 0} (xs : List X) (y : X) (i : ℕ) → i < length xs → slice_get (xs ++ y ∷ []) i ≡ slice_get xs i
get_front [] y i lt = absurd (omega arith)
get_front (x ∷ xs) y zero lt = refl
get_front (x ∷ xs) y (suc i) lt = get_front xs y i (omega arith)

get_end : {X : Type 0} (xs : List X) (y : X) → slice_get (xs ++ y ∷ []) (length xs) ≡ Some y
get_end [] y = refl
get_end (x ∷ xs) y = get_end xs y

-- a set of calls by a test that the new call doesn't meet stays the same
call_is_more : (calls : List Call) (call : Call) (test : Call → Bool) → test call ≡ false → (c : ℕ) → call_is (calls ++ call ∷ []) test c ≡ call_is calls test c
call_is_more calls call test not_it c =
    elim (cases_lt c (length calls)) [
      | inl lt ↦ ap (meets test) (get_front calls call c lt)
      | inr le ↦ elim (cases_eq c (length calls)) [
        | inl same ↦ ap (λ n. call_is (calls ++ call ∷ []) test n) same ∙ ap (meets test) (get_end calls call) ∙ not_it ∙ sym (ap (meets test) (slice_get_past calls c le))
        | inr other ↦ ap (meets test) (slice_get_past (calls ++ call ∷ []) c (let e : length calls + 1 ≤ c = omega arith in omega (arith, length-append calls (call ∷ [])))) ∙ sym (ap (meets test) (slice_get_past calls c le))
      ]
    ]

pub calls_of_more : (calls : List Call) (call : Call) (sees : List ℕ) → is_in sees call.tx ≡ false → calls_of (calls ++ call ∷ []) sees ≡ calls_of calls sees
calls_of_more calls call sees unseen = fun_ext (λ c. call_is_more calls call (λ k. is_in sees k.tx) unseen c)

-- all invocations see the same with a call of a transaction that none of them sees
pub invs_calls : (p : Prog) (calls : List Call) (call : Call) (infos : List Info) (runs : List Run)
    → ((i : ℕ) (run : Run) → slice_get runs i ≡ Some run → is_in run.seen call.tx ≡ false) → invs_view p (calls ++ call ∷ []) infos runs ≡ invs_view p calls infos runs
invs_calls p calls call [] runs unseen = refl
invs_calls p calls call (x ∷ infos) [] unseen = refl
invs_calls p calls call (x ∷ infos) (r ∷ runs) unseen =
    ap (λ view. record (inv_view p calls x r) { view = view } ∷ invs_view p (calls ++ call ∷ []) infos runs) (calls_of_more calls call r.seen (unseen 0 r refl))
    ∙ ap (λ rest. inv_view p calls x r ∷ rest) (invs_calls p calls call infos runs (λ i run e. unseen (suc i) run e))

-- what holds of all of a list holds of each number in it
pub all_in : (P : ℕ → Type 0) (xs : List ℕ) (n : ℕ) → All P xs → is_in xs n ≡ true → P n
all_in P [] n all here = absurd (true≢false (sym here))
all_in P (x ∷ xs) n all here = elim (or_cases (nat_eq x n) (is_in xs n) here) [
  | inl same ↦ subst P (eqb-true x n same) (All-head P x xs all)
  | inr rest ↦ all_in P xs n (All-tail P x xs all) rest
]
