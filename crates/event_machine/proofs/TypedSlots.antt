-- Slots that are set hold values of their types, and stay so where more are set.
use Rattle.std.proofs.Common.{◌≡◌, ◌==◌, ℕ, zero, suc, ◌+◌, ◌-◌, ◌<◌, ◌≤◌, Bool, true, ◌||◌, nat_eq, nat_lt, List, [], ◌∷◌, ◌++◌, length, map, replicate, Option, Some, None, slice_get, slice_set, eqb-true, eq-eqb, ltb-true, refl, sym, ◌∙◌, ap, subst, arith, inl, inr, true≢false}
use Rattle.std.proofs.lemmas.List.{length-set, length-append, length-map, length-replicate}
use Rattle.std.proofs.lemmas.Option.{none-some, same_Some}
use Rattle.rp_value.specs.declared.tables.Ty.{Ty}
use Rattle.rp_value.specs.Values.{Val, Vals, no_val, also_val}
use Rattle.rp_lang.specs.Types.{same_ty, agree}
use Rattle.rp_lang.specs.Blocks.{is_slot}
use Rattle.rp_lang.specs.Programs.{Proc, Prog}
use Rattle.rp_lang.specs.WellFormed.{begins}
use Rattle.event_machine.specs.Fitting.{fits, fields_fit, all_fit}
use Rattle.event_machine.specs.Machine.{filled}
use Rattle.event_machine.specs.WellFormed.{At}
use Rattle.event_machine.specs.TypedStates.{and_slot, and_slots, slots_take, SlotsFit, AreSet}
use Rattle.event_machine.proofs.FormLemmas.{both_true}
use Rattle.event_machine.proofs.PlaceLemmas.{at-one, at-lt, at-set, at-set_other, at-set_same, at-exists, same-or, or-cases, or-left, or-right}
use Rattle.event_machine.proofs.SlotLemmas.{first-args}
use Rattle.event_machine.proofs.TypedValues.{same-number, same-type}
use Rattle.event_machine.proofs.WiderLemmas.{agrees-some}

-- slots of a procedure, with these set
pub record Filled (p : Prog) (q : Proc) (set : ℕ → Bool) (slots : List (Option Val)) : Type 0 where
  pub counted : length slots ≡ length q.slots
  pub fit : SlotsFit p q slots
  pub are_set : AreSet set slots

-- # One more slot

set-fit : (p : Prog) (q : Proc) (slots : List (Option Val)) (slot : ℕ) (v : Val) → SlotsFit p q slots → ((t : Ty) → At q.slots slot t → fits p t v ≡ true)
    → SlotsFit p q (slice_set slots slot (Some v))
set-fit p q slots slot v old here n w t at is = elim (at-set slots slot (Some v) n (Some w) at) [
  | inl same ↦ ap (fits p t) (same_Some w v same.1) ∙ here t (ap (slice_get q.slots) (sym same.0) ∙ is)
  | inr other ↦ old n w t other.1 is
]

set-are : (set : ℕ → Bool) (slots : List (Option Val)) (slot : ℕ) (v : Val) → slot < length slots → AreSet set slots → AreSet (and_slot set slot) (slice_set slots slot (Some v))
set-are set slots slot v l old n m = elim (same-or n slot) [
  | inl e ↦ let x = at-exists slots slot l in (v, ap (slice_get (slice_set slots slot (Some v))) e ∙ at-set_same slots slot (Some v) x.0 x.1)
  | inr d ↦ elim (or-cases (set n) (slot == n) m) [
    | inl k ↦ let w = old n k in (w.0, at-set_other slots slot (Some v) n (Some w.0) d w.1)
    | inr k ↦ absurd (d (sym (same-number slot n k)))
  ]
]

pub put : (p : Prog) (q : Proc) (set : ℕ → Bool) (slots : List (Option Val)) (slot : ℕ) (v : Val) (t : Ty) → Filled p q set slots → At q.slots slot t → fits p t v ≡ true
    → Filled p q (and_slot set slot) (slice_set slots slot (Some v))
put p q set slots slot v t s at f =
    let within : slot < length q.slots = at-lt q.slots slot t at in
    record {
      counted = length-set slots slot (Some v) ∙ s.counted;
      fit = set-fit p q slots slot v s.fit (λ u is. ap (λ t. fits p t v) (at-one q.slots slot u t is at) ∙ f);
      are_set = set-are set slots slot v (subst (λ n. slot < n) (sym s.counted) within) s.are_set;
    }

-- # The fields of a value

first-slot : (n slot : ℕ) (places : List ℕ) (set : ℕ → Bool) → (is_slot n (slot ∷ places) || set n) ≡ true → (is_slot n places || (set n || (slot == n))) ≡ true
first-slot n slot places set h = elim (or-cases (is_slot n (slot ∷ places)) (set n) h) [
  | inl k ↦ elim (or-cases (nat_eq n slot) (is_slot n places) k) [
    | inl e ↦ or-right (is_slot n places) _ (or-right (set n) (slot == n) (eq-eqb slot n (sym (eqb-true n slot e))))
    | inr m ↦ or-left (is_slot n places) _ m
  ]
  | inr k ↦ or-right (is_slot n places) _ (or-left (set n) (slot == n) k)
]

pub fill : (p : Prog) (q : Proc) (places : List ℕ) (tys : List Ty) (vs : Vals) (set : ℕ → Bool) (slots : List (Option Val)) → Filled p q set slots
    → slots_take q places tys ≡ true → fields_fit p tys vs ≡ true → Filled p q (and_slots places set) (filled places vs slots)
fill p q [] [] no_val set slots s h f = record { counted = s.counted; fit = s.fit; are_set = λ n m. s.are_set n m }
fill p q [] [] (also_val v vs) set slots s h f = absurd (true≢false (sym f))
fill p q [] (t ∷ tys) vs set slots s h f = absurd (true≢false (sym h))
fill p q (slot ∷ places) [] vs set slots s h f = absurd (true≢false (sym h))
fill p q (slot ∷ places) (t ∷ tys) no_val set slots s h f = absurd (true≢false (sym f))
fill p q (slot ∷ places) (t ∷ tys) (also_val v vs) set slots s h f =
    let take = both_true (agree (Some t) (slice_get q.slots slot)) (slots_take q places tys) h in
    let fit = both_true (fits p t v) (fields_fit p tys vs) f in
    let u = agrees-some (Some t) (slice_get q.slots slot) take.0 in
    let here = put p q set slots slot v u.0 s u.1 (ap (λ t. fits p t v) (sym (same-type t u.0 u.2)) ∙ fit.0) in
    let rest = fill p q places tys vs (and_slot set slot) (slice_set slots slot (Some v)) here take.1 fit.1 in
    record { counted = rest.counted; fit = rest.fit; are_set = λ n m. rest.are_set n (first-slot n slot places set m) }

-- # Arguments

pub all-count : (p : Prog) (ts : List Ty) (vs : List Val) → all_fit p ts vs ≡ true → length vs ≡ length ts
all-count p [] [] h = refl
all-count p [] (v ∷ vs) h = absurd (true≢false (sym h))
all-count p (t ∷ ts) [] h = absurd (true≢false (sym h))
all-count p (t ∷ ts) (v ∷ vs) h = ap suc (all-count p ts vs (both_true _ _ h).1)

arg-fits : (p : Prog) (ts : List Ty) (vs : List Val) (n : ℕ) (v : Val) → all_fit p ts vs ≡ true → At vs n v → (t : Ty) × At ts n t × (fits p t v ≡ true)
arg-fits p [] [] n v h at = absurd (none-some v at)
arg-fits p [] (w ∷ vs) n v h at = absurd (true≢false (sym h))
arg-fits p (t ∷ ts) [] n v h at = absurd (none-some v at)
arg-fits p (t ∷ ts) (w ∷ vs) zero v h at = (t, refl, ap (fits p t) (sym (same_Some w v at)) ∙ (both_true _ _ h).0)
arg-fits p (t ∷ ts) (w ∷ vs) (suc n) v h at = arg-fits p ts vs n v (both_true _ _ h).1 at

begins-count : (ts us : List Ty) → begins ts us ≡ true → length ts ≤ length us
begins-count [] us h = omega arith
begins-count (t ∷ ts) [] h = absurd (true≢false (sym h))
begins-count (t ∷ ts) (u ∷ us) h = let rest : length ts ≤ length us = begins-count ts us (both_true (same_ty u t) (begins ts us) h).1 in omega arith

begins-at : (ts us : List Ty) (n : ℕ) (t : Ty) → begins ts us ≡ true → At ts n t → At us n t
begins-at [] us n t h at = absurd (none-some t at)
begins-at (x ∷ ts) [] n t h at = absurd (true≢false (sym h))
begins-at (x ∷ ts) (u ∷ us) zero t h at = ap (λ t. Some t) (same-type u x (both_true _ _ h).0) ∙ at
begins-at (x ∷ ts) (u ∷ us) (suc n) t h at = begins-at ts us n t (both_true _ _ h).1 at

args-first : (args : List Val) (rest : List (Option Val)) (n : ℕ) (v : Val) → At args n v → At (map (λ v. Some v) args ++ rest) n (Some v)
args-first [] rest n v at = absurd (none-some v at)
args-first (w ∷ args) rest zero v at = ap (λ v. Some v) at
args-first (w ∷ args) rest (suc n) v at = args-first args rest n v at

-- a procedure starts with its arguments in the first slots
pub start : (p : Prog) (q : Proc) (args : List Val) → begins q.params q.slots ≡ true → all_fit p q.params args ≡ true
    → Filled p q (λ s. nat_lt s (length q.params)) (map (λ v. Some v) args ++ replicate (length q.slots - length args) None)
start p q args first fit =
    let rest : List (Option Val) = replicate (length q.slots - length args) None in
    let long : length args ≡ length q.params = all-count p q.params args fit in
    let fewer : length q.params ≤ length q.slots = begins-count q.params q.slots first in
    let whole : length (map (λ v. Some v) args ++ rest) ≡ length args + (length q.slots - length args) =
    length-append (map (λ v. Some v) args) rest ∙ (ap (λ n. n + length rest) (length-map args (λ v. Some v)) ∙ ap (λ n. length args + n) (length-replicate (length q.slots - length args) None)) in
    record {
      counted = omega arith;
      fit = λ n v t at is.
          let arg = arg-fits p q.params args n v fit (first-args args (length q.slots - length args) n v at) in
          ap (λ t. fits p t v) (at-one q.slots n t arg.0 is (begins-at q.params q.slots n arg.0 first arg.1)) ∙ arg.2;
      are_set = λ n m.
          let below : n < length q.params = ltb-true n (length q.params) m in
          let v = at-exists args n (omega arith) in
          (v.0, args-first args rest n v.0 v.1);
    }
