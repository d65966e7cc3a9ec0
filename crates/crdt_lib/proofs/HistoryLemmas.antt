-- What a history keeps, call by call.
use Rattle.std.proofs.Common.{◌≡◌, ℕ, zero, suc, ◌<◌, ◌≤◌, Bool, false, refl, sym, ◌∙◌, ap, subst, arith, List, [], ◌∷◌, ◌++◌, length, length-append, Option, Some, None, slice_get, inl, inr, All, IsTrue}
use Rattle.std.specs.Option.{option_map}
use Rattle.std.proofs.lemmas.Bool.{cases_lt, cases_eq}
use Rattle.std.proofs.lemmas.Option.{slice_get_past, slice_get-map}
use Rattle.std.specs.List.Sorted.{IsStrictlyIncreasing}
use Rattle.crdt_defs.specs.declared.call.CallRec.{CallRec}
use Rattle.crdt_defs.specs.Calls.{Call, call_view, calls_view}
use Rattle.crdt_defs.specs.Histories.{IsHistory, MayFollow, meets, call_is, past_of, args_fit}

pub seen_length : (calls : List CallRec) → length (calls_view calls) ≡ length calls
seen_length [] = refl
seen_length (call ∷ calls) = ap suc (seen_length calls)

pub seen_push : (calls : List CallRec) (call : CallRec) → calls_view (calls ++ call ∷ []) ≡ calls_view calls ++ call_view call ∷ []
seen_push [] call = refl
seen_push (c ∷ calls) call = ap (λ rest. call_view c ∷ rest) (seen_push calls call)

pub seen_call : (calls : List CallRec) (c : ℕ) (call : CallRec) → slice_get calls c ≡ Some call → slice_get (calls_view calls) c ≡ Some (call_view call)
seen_call calls c call e = slice_get-map call_view calls c ∙ ap (option_map call_view) e

pub no_call_past : (h : List Call) (test : Call → Bool) (k : ℕ) → length h ≤ k → call_is h test k ≡ false
no_call_past h test k le = ap (meets test) (slice_get_past h k le)

pub empty_history : IsHistory []
empty_history = record {
  few = omega arith;
  earlier = λ c k d lt. absurd (omega arith);
  ascending = λ c k lt. absurd (omega arith);
  ints = λ c. refl;
}

get_front : {X : Type 0} (xs : List X) (y : X) (i : ℕ) → i < length xs → slice_get (xs ++ y ∷ []) i ≡ slice_get xs i
get_front [] y i lt = absurd (omega arith)
get_front (x ∷ xs) y zero lt = refl
get_front (x ∷ xs) y (suc i) lt = get_front xs y i (omega arith)

get_end : {X : Type 0} (xs : List X) (y : X) → slice_get (xs ++ y ∷ []) (length xs) ≡ Some y
get_end [] y = refl
get_end (x ∷ xs) y = get_end xs y

beyond : {X : Type 0} (xs : List X) (y : X) (c : ℕ) → length xs ≤ c → (c ≡ length xs → ⊥) → length (xs ++ y ∷ []) ≤ c
beyond xs y c le other = omega (arith, length-append xs (y ∷ []))

-- a fact of each call and of no call holds with one more
each_more : (P : ℕ → Option Call → Type 0) (calls : List Call) (call : Call) → ((c : ℕ) → P c (slice_get calls c)) → ((c : ℕ) → P c None) → P (length calls) (Some call) → (c : ℕ) → P c (slice_get (calls ++ call ∷ []) c)
each_more P calls call old none here c =
    elim (cases_lt c (length calls)) [
      | inl lt ↦ subst (P c) (sym (get_front calls call c lt)) (old c)
      | inr le ↦ elim (cases_eq c (length calls)) [
        | inl same ↦ let Q : ℕ → Type 0 = λ n. P n (slice_get (calls ++ call ∷ []) n) in subst Q (sym same) (subst (P (length calls)) (sym (get_end calls call)) here)
        | inr other ↦ subst (P c) (sym (slice_get_past (calls ++ call ∷ []) c (beyond calls call c le other))) (none c)
      ]
    ]

pub history_push : (calls : List Call) (call : Call) → IsHistory calls → MayFollow (length calls) call → IsHistory (calls ++ call ∷ [])
history_push calls call h m = record {
  few = let room : length calls < 16384 = m.room in omega (arith, length-append calls (call ∷ []));
  earlier = each_more (λ c o. All (λ b. b < c) (past_of o)) calls call h.earlier (λ c k d lt. absurd (omega arith)) m.earlier;
  ascending = each_more (λ c o. IsStrictlyIncreasing (past_of o)) calls call h.ascending (λ c k lt. absurd (omega arith)) m.ascending;
  ints = each_more (λ c o. IsTrue (args_fit o)) calls call h.ints (λ c. refl) m.ints;
}
