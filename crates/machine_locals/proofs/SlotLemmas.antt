-- Values that are put into slots, one slot at a time.
use Rattle.std.proofs.Common.{◌≡◌, ℕ, zero, suc, ◌+◌, ◌<◌, ◌≤◌, true, refl, sym, ◌∙◌, ap, List, [], ◌∷◌, ◌++◌, length, map, get_or, drop, reverse, Option, Some, slice_get, slice_set}
use Rattle.std.specs.Prelude.{option_map}
use Rattle.std.proofs.lemmas.Bool.{and_parts}
use Rattle.std.proofs.lemmas.List.{append_assoc, drop_more, drop_all, set-set, map-set, reverse-append}
use Rattle.rp_value.specs.ValueView.{value_view, values_view}
use Rattle.rp_value.specs.declared.value.Value.{Value}
use Rattle.crdt_defs.specs.Atoms.{ints_fit, all_ints_fit}
use Rattle.event_machine.specs.Machine as spec
use Rattle.machine_effects.proofs.EffectLemmas.{set_here, ints_set}
use Rattle.machine_locals.specs.Slots.{filled}
use Rattle.machine_state.specs.declared.state.Run.{Run}
use Rattle.machine_state.proofs.StateLemmas.{one_found}

-- # Lists

set_as : {A : Type 0} (xs : List A) (i : ℕ) (x : A) → slice_get xs i ≡ Some x → slice_set xs i x ≡ xs
set_as [] i x e = refl
set_as (y ∷ ys) zero x e = ap (λ z. z ∷ ys) (one_found (Some y) x y e refl)
set_as (y ∷ ys) (suc i) x e = ap (λ rest. y ∷ rest) (set_as ys i x e)

turn_last : {A : Type 0} (xs : List A) (x : A) → reverse (xs ++ x ∷ []) ≡ x ∷ reverse xs
turn_last xs x = reverse-append xs (x ∷ [])

-- one element is turned around
pub turn_more : {A : Type 0} (others values whole : List A) (x : A) (target : List A) → whole ≡ values ++ x ∷ [] → others ++ reverse whole ≡ target
    → (others ++ x ∷ []) ++ reverse values ≡ target
turn_more others values whole x target is before =
    append_assoc others (x ∷ []) (reverse values)
    ∙ ap (λ xs. others ++ xs) (sym (turn_last values x))
    ∙ ap (λ xs. others ++ reverse xs) (sym is)
    ∙ before

-- # Slots

filled_nothing : (slots : List ℕ) (old : List (Option Value)) → filled slots [] old ≡ old
filled_nothing [] old = refl
filled_nothing (slot ∷ slots) old = refl

-- what is still to be put makes the target
pub record Fills (runs : List Run) (i : ℕ) (slots : List ℕ) (values : List Value) (target : List Run) : Type 0 where
  pub run : Run
  pub at : slice_get runs i ≡ Some run
  pub is : slice_set runs i (record run { slots = filled slots values run.slots }) ≡ target

pub fills_start : (runs : List Run) (i : ℕ) (run : Run) (slots : List ℕ) (values : List Value) → slice_get runs i ≡ Some run
    → Fills runs i slots values (slice_set runs i (record run { slots = filled slots values run.slots }))
fills_start runs i run slots values at = record { run = run; at = at; is = refl }

pub fills_more : (runs new : List Run) (i k slot : ℕ) (slots : List ℕ) (whole values : List Value) (v : Value) (target : List Run) → i < length runs → k < length slots → slot ≡ get_or slots k 0
    → whole ≡ values ++ v ∷ [] → ((run : Run) → slice_get runs i ≡ Some run → new ≡ slice_set runs i (record run { slots = slice_set run.slots slot (Some v) }))
    → Fills runs i (drop k slots) (reverse whole) target → Fills new i (drop (k + 1) slots) (reverse values) target
fills_more runs new i k slot slots whole values v target within lt is_slot is_whole puts old =
    let run : Run = record old.run { slots = slice_set old.run.slots slot (Some v) } in
    let new_is : new ≡ slice_set runs i run = puts old.run old.at in
    let front : drop k slots ≡ slot ∷ drop (k + 1) slots = drop_more slots k 0 lt ∙ ap (λ s. s ∷ drop (k + 1) slots) (sym is_slot) in
    let values_are : reverse whole ≡ v ∷ reverse values = ap reverse is_whole ∙ turn_last values v in
    let last : Run = record run { slots = filled (drop (k + 1) slots) (reverse values) run.slots } in
    record {
      run = run;
      at = ap (λ (rs : List Run). slice_get rs i) new_is ∙ set_here runs i run within;
      is = ap (λ (rs : List Run). slice_set rs i last) new_is
          ∙ set-set runs i run last
          ∙ sym (ap (λ xs. slice_set runs i (record old.run { slots = filled xs (reverse whole) old.run.slots })) front
          ∙ ap (λ vs. slice_set runs i (record old.run { slots = filled (slot ∷ drop (k + 1) slots) vs old.run.slots })) values_are)
          ∙ old.is;
    }

-- no value is left
pub fills_done : (runs : List Run) (i : ℕ) (slots : List ℕ) (whole : List Value) (target : List Run) → whole ≡ [] → Fills runs i slots (reverse whole) target → runs ≡ target
fills_done runs i slots whole target none all =
    sym (set_as runs i all.run all.at)
    ∙ sym (ap (λ vs. slice_set runs i (record all.run { slots = filled slots (reverse vs) all.run.slots })) none
    ∙ ap (λ slots. slice_set runs i (record all.run { slots = slots })) (filled_nothing slots all.run.slots))
    ∙ all.is

-- no slot is left
pub fills_end : (runs : List Run) (i k : ℕ) (slots : List ℕ) (values : List Value) (target : List Run) → length slots ≤ k → Fills runs i (drop k slots) values target → runs ≡ target
fills_end runs i k slots values target end all =
    sym (set_as runs i all.run all.at)
    ∙ sym (ap (λ xs. slice_set runs i (record all.run { slots = filled xs values all.run.slots })) (drop_all k slots end))
    ∙ all.is

-- # What is seen

pub filled_seen : (slots : List ℕ) (values : List Value) (old : List (Option Value))
    → map (option_map value_view) (filled slots values old) ≡ spec.filled slots (values_view values) (map (option_map value_view) old)
filled_seen [] values old = refl
filled_seen (slot ∷ slots) [] old = refl
filled_seen (slot ∷ slots) (v ∷ values) old =
    filled_seen slots values (slice_set old slot (Some v)) ∙ ap (spec.filled slots (values_view values)) (map-set (option_map value_view) old slot (Some v))

pub filled_ints : (slots : List ℕ) (values : List Value) (old : List (Option Value)) → all_ints_fit (values_view values) ≡ true
    → ((n : ℕ) (v : Value) → slice_get old n ≡ Some (Some v) → ints_fit (value_view v) ≡ true)
    → (n : ℕ) (v : Value) → slice_get (filled slots values old) n ≡ Some (Some v) → ints_fit (value_view v) ≡ true
filled_ints [] values old fit before = before
filled_ints (slot ∷ slots) [] old fit before = before
filled_ints (slot ∷ slots) (v ∷ values) old fit before =
    let both = and_parts (ints_fit (value_view v)) (all_ints_fit (values_view values)) fit in
    filled_ints slots values (slice_set old slot (Some v)) both.1 (ints_set old slot v both.0 before)
