-- A formula has one truth at rows that differ only behind the parameters, by values that are `false`.
use Rattle.std.proofs.Common.{◌≡◌, ℕ, zero, suc, Bool, false, ◌&&◌, ◌||◌, not, List, [], ◌∷◌, replicate, Option, slice_get, refl, ◌∙◌, ap}
use Rattle.rp_value.specs.Values.{Val, false_val, also_val}
use Rattle.rp_value.specs.Values as seen
use Rattle.rp_lang.specs.Exprs.{Ex, Exs, Slot, Con, no_ex, also_ex}
use Rattle.rp_lang.specs.Formulas.{Fo, Fos, And, Or, Not, Implies, Holds, no_fo, also_fo}
use Rattle.event_machine.specs.Propositions.{slot_value, value, values_of, is_true, truth, all_true, any_true}
use Rattle.event_machine.specs.Goals.{slots_of}
use Rattle.rp_verify.specs.means.Rows.{with_values}

-- each slot has one value in both
abbrev pub Agree : List (Option Val) → List (Option Val) → Type 0
Agree a b = (s : ℕ) → slot_value (slice_get a s) ≡ slot_value (slice_get b s)

mutual
  value-agree : (a b : List (Option Val)) → Agree a b → (e : Ex) → value a e ≡ value b e
  value-agree a b h (Slot s) = h s
  value-agree a b h (Con con args) = ap (seen.Con con) (values-agree a b h args)
  value-agree a b h _ = refl

  values-agree : (a b : List (Option Val)) → Agree a b → (es : Exs) → values_of a es ≡ values_of b es
  values-agree a b h no_ex = refl
  values-agree a b h (also_ex e es) = ap (λ v. also_val v (values_of a es)) (value-agree a b h e) ∙ ap (also_val (value b e)) (values-agree a b h es)

mutual
  pub truth-agree : (a b : List (Option Val)) → Agree a b → (f : Fo) → truth a f ≡ truth b f
  truth-agree a b h (And parts) = all-agree a b h parts
  truth-agree a b h (Or parts) = any-agree a b h parts
  truth-agree a b h (Not f) = ap not (truth-agree a b h f)
  truth-agree a b h (Implies f g) = ap (λ t. not t || truth a g) (truth-agree a b h f) ∙ ap (λ t. not (truth b f) || t) (truth-agree a b h g)
  truth-agree a b h (Holds e) = ap is_true (value-agree a b h e)
  truth-agree a b h _ = refl

  all-agree : (a b : List (Option Val)) → Agree a b → (fs : Fos) → all_true a fs ≡ all_true b fs
  all-agree a b h no_fo = refl
  all-agree a b h (also_fo f fs) = ap (λ t. t && all_true a fs) (truth-agree a b h f) ∙ ap (λ t. truth b f && t) (all-agree a b h fs)

  any-agree : (a b : List (Option Val)) → Agree a b → (fs : Fos) → any_true a fs ≡ any_true b fs
  any-agree a b h no_fo = refl
  any-agree a b h (also_fo f fs) = ap (λ t. t || any_true a fs) (truth-agree a b h f) ∙ ap (λ t. truth b f || t) (any-agree a b h fs)

falses-agree : (n s : ℕ) → slot_value (slice_get (slots_of (replicate n false)) s) ≡ false_val
falses-agree zero s = refl
falses-agree (suc n) zero = refl
falses-agree (suc n) (suc s) = falses-agree n s

padded-agree : (n : ℕ) (values : List Bool) → Agree (slots_of (with_values (replicate n false) 0 values)) (slots_of values)
padded-agree zero values s = refl
padded-agree (suc n) [] s = falses-agree (suc n) s
padded-agree (suc n) (b ∷ values) zero = refl
padded-agree (suc n) (b ∷ values) (suc s) = padded-agree n values s

-- values with `false` behind them
abbrev pub padded : List Bool → List Bool
padded values = with_values (replicate 8 false) 0 values

pub truth-padded : (f : Fo) (values : List Bool) → truth (slots_of (padded values)) f ≡ truth (slots_of values) f
truth-padded f values = truth-agree (slots_of (padded values)) (slots_of values) (padded-agree 8 values) f
