-- Stamps, one call at a time.
use Rattle.std.proofs.Common.{◌≡◌, ℕ, ◌+◌, Bool, true, false, refl, sym, ap, ◌∙◌, add-one, List, [], ◌∷◌, length, Option, Some, None, slice_get, min, max, inl, inr}
use Rattle.std.specs.Prelude.{if◌then◌else◌}
use Rattle.std.specs.List.{list_any, reduce}
use Rattle.std.proofs.lemmas.Bool.{cases_Bool, true≢false, false_from_ne_true}
use Rattle.std.proofs.lemmas.Option.{slice_get_read}
use Rattle.std.proofs.lemmas.List.Folds.{Any-from_list_any}
use Rattle.std.proofs.lemmas.Map.Keys.{any_passes_from_place}
use Rattle.crdt_defs.specs.Calls.{Call}
use Rattle.crdt_defs.specs.Histories.{call_is, meets}
use Rattle.crdt_defs.specs.Counting.{any_below}
use Rattle.crdt_defs.specs.Meaning.{stamp_of}
use Rattle.crdt_defs.proofs.BelowLemmas.{any_found, none_below}
use Rattle.event_machine.specs.Machine.{greatest_stamp, least_of}

pub least_is : (xs : List ℕ) → least_of xs ≡ reduce min xs
least_is [] = refl
least_is (x ∷ xs) = refl

passes : (p : Call → Bool) (calls : List Call) (k : ℕ) (o : Option Call) → slice_get calls k ≡ o → meets p o ≡ true → list_any p calls ≡ true
passes p calls k None at_k holds = absurd (true≢false (sym holds))
passes p calls k (Some call) at_k holds = any_passes_from_place p calls k call at_k holds

-- one of a list meets a test where the call of some number does
pub any_numbered : (p : Call → Bool) (calls : List Call) → any_below (call_is calls p) (length calls) ≡ list_any p calls
any_numbered p calls =
    elim (cases_Bool (list_any p calls)) [
      | inl holds ↦
          let found = Any-from_list_any p calls holds in
          let at_k : slice_get calls found.0 ≡ Some found.1 = slice_get_read calls (length calls) found.0 found.1 refl found.2 (sym found.3) in
          any_found (call_is calls p) (length calls) found.0 found.2 (ap (meets p) at_k ∙ found.4) ∙ sym holds
      | inr none ↦
          none_below (call_is calls p) (length calls) (λ k lt. false_from_ne_true (call_is calls p k) (λ holds. true≢false (sym (passes p calls k (slice_get calls k) refl holds) ∙ none))) ∙ sym none
    ]

pub greatest_more : (calls : List Call) (set : ℕ → Bool) (n : ℕ)
    → greatest_stamp calls set (n + 1) ≡ max (greatest_stamp calls set n) (if set n then stamp_of (slice_get calls n) else 0)
greatest_more calls set n = rw add-one refl

-- no call before the end meets the test
pub none_numbered : (p : Call → Bool) (calls : List Call) (n : ℕ) → n ≡ length calls → any_below (call_is calls p) n ≡ false → false ≡ list_any p calls
none_numbered p calls n end none = sym none ∙ ap (any_below (call_is calls p)) end ∙ any_numbered p calls
