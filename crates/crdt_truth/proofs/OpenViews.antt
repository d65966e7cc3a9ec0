-- The values of open variables, variant by variant.
use Rattle.std.proofs.Common.{◌≡◌, ◌≢◌, ◌-◌, ◌+◌, ◌<◌, ◌≤◌, ℕ, List, [], ◌∷◌, zero, suc, map, length, Some, slice_get, Result, Ok, Err, arith, refl, ap, sym, subst, ◌∙◌}
use Rattle.std.specs.Prelude.{IfOk}
use Rattle.std.specs.Option.{option_map}
use Rattle.std.proofs.lemmas.Option.{slice_get-map}
use Rattle.std.specs.Borrow.{Bor}
use Rattle.rp_value.specs.declared.value.Value.{Value}
use Rattle.rp_value.specs.declared.memory.Memory.{Memory}
use Rattle.rp_value.specs.Values.{Val}
use Rattle.rp_value.specs.ValueView.{value_view, values_view}
use Rattle.crdt_defs.specs.Truths.{bind, or_false}
use Rattle.crdt_truth.specs.declared.binders.Binders.{Binders}
use Rattle.crdt_truth.specs.declared.binders.Binders.TheVariants.{Closed, One, Fields, outs-Closed, outs-One, outs-Fields}
use Rattle.crdt_truth.specs.declared.binders.Binders.TheFolds.{fold_out-Binders, map-Binders}
use Rattle.crdt_truth.specs.Open.{binders_step, binders_view}

pub binders_view-Closed : binders_view Closed ≡ []
binders_view-Closed = fold_out-Binders (List Val) binders_step Closed ∙ ap (λ l. binders_step (map-Binders Binders (List Val) binders_view l)) outs-Closed

pub binders_view-One : (value : Bor Value) (outer : Bor Binders) → binders_view (One value outer) ≡ value_view value.now ∷ binders_view outer.now
binders_view-One value outer = fold_out-Binders (List Val) binders_step (One value outer) ∙ ap (λ l. binders_step (map-Binders Binders (List Val) binders_view l)) (outs-One value outer)

pub binders_view-Fields : (fields : Bor (List Value)) (outer : Bor Binders) → binders_view (Fields fields outer) ≡ bind (values_view fields.now) (binders_view outer.now)
binders_view-Fields fields outer = fold_out-Binders (List Val) binders_step (Fields fields outer) ∙ ap (λ l. binders_step (map-Binders Binders (List Val) binders_view l)) (outs-Fields fields outer)

pub ruleset binders_views = (binders_view-Closed, binders_view-One, binders_view-Fields)

pub get_past : {X : Type 0} (x : X) (xs : List X) (n : ℕ) → n ≢ 0 → slice_get (x ∷ xs) n ≡ slice_get xs (n - 1)
get_past x xs zero p = absurd (p refl)
get_past x xs (suc n) p = let e : suc n - 1 ≡ n = omega arith in rw e refl

-- past an arm's variables come those around it
pub bind_past : (fields : List Value) (binders : List Val) (n : ℕ) → slice_get (bind (values_view fields) binders) (length fields + n) ≡ slice_get binders n
bind_past [] binders n = grind arith
bind_past (field ∷ fields) binders n =
    let e : length (field ∷ fields) + n ≡ length fields + suc n = omega arith in
    rw e (bind_past fields (value_view field ∷ binders) (suc n))

-- the last field is the innermost
pub bind_within : (fields : List Value) (binders : List Val) (k n : ℕ) → k + suc n ≡ length fields
    → slice_get (bind (values_view fields) binders) n ≡ slice_get (map value_view fields) k
bind_within [] binders k n e = absurd (omega arith)
bind_within (field ∷ fields) binders zero n e =
    let past : length fields + 0 ≡ n = omega arith in
    rw (← past) (bind_past fields (value_view field ∷ binders) 0)
bind_within (field ∷ fields) binders (suc k) n e = bind_within fields (value_view field ∷ binders) k n (omega arith)

pub from_fields : (fields : List Value) (binders : List Val) (n : ℕ) (r : Result Value Memory) → n < length fields → IfOk r (λ v. slice_get fields (length fields - 1 - n) ≡ Some v)
    → IfOk r (λ v. value_view v ≡ or_false (slice_get (bind (values_view fields) binders) n))
from_fields fields binders n (Ok v) lt h =
    let place : (length fields - 1 - n) + suc n ≡ length fields = omega arith in
    sym (ap or_false (bind_within fields binders (length fields - 1 - n) n place ∙ slice_get-map value_view fields (length fields - 1 - n) ∙ ap (option_map value_view) h))
from_fields fields binders n (Err e) lt h = tt

pub past_fields : (fields : List Value) (binders : List Val) (n : ℕ) → length fields ≤ n → slice_get (bind (values_view fields) binders) n ≡ slice_get binders (n - length fields)
past_fields fields binders n le =
    let place : length fields + (n - length fields) ≡ n = omega arith in
    subst (λ m. slice_get (bind (values_view fields) binders) m ≡ slice_get binders (n - length fields)) place (bind_past fields binders (n - length fields))
