-- A value is known by what it is seen as.
use Rattle.std.proofs.Common.{◌≡◌, List, [], ◌∷◌, map, ap, sym, ◌∙◌, refl, subst}
use Rattle.rp_value.specs.declared.value.Value.{Value}
use Rattle.rp_value.specs.declared.value.Value.TheVariants as made
use Rattle.rp_value.specs.declared.value.Value.TheOpen.{Value-F, Int, Str, Atom, Con, Call, Inv}
use Rattle.rp_value.specs.declared.value.Value.TheViews.{roll-Value}
use Rattle.rp_value.specs.declared.value.Value.TheFolds.{fold-roll-Value, map-Value, ind-Value}
use Rattle.rp_value.specs.Values as seen
use Rattle.rp_value.specs.Values.{Val, Vals, no_val, also_val}
use Rattle.rp_value.specs.ValueView.{view_step, value_view, values_view}

-- the value that is seen as this one
abbrev mutual
  value_of : Val → Value
  value_of (seen.Int n) = made.Int n
  value_of (seen.Str bytes) = made.Str bytes
  value_of (seen.Atom ty num) = made.Atom ty num
  value_of (seen.Con con args) = made.Con con (values_of args)
  value_of (seen.Call c) = made.Call c
  value_of (seen.Inv i) = made.Inv i

  values_of : Vals → List Value
  values_of no_val = []
  values_of (also_val v vs) = value_of v ∷ values_of vs

abbrev IsBack : Value → Type 0
IsBack v = value_of (value_view v) ≡ v

-- a value's parts, each with the fact
abbrev Backs : Type 0
Backs = Value-F ((v : Value) × IsBack v)

abbrev plain : Backs → Value-F Value
plain = map-Value ((v : Value) × IsBack v) Value (λ e. e.0)

all_back : (es : List ((v : Value) × IsBack v)) → values_of (values_view (map (λ e. e.0) es)) ≡ map (λ e. e.0) es
all_back [] = refl
all_back (e ∷ es) = λ i. e.1 i ∷ all_back es i

back_of : (x : Value-F Value) → value_of (value_view (roll-Value x)) ≡ value_of (view_step (map-Value Value Val value_view x))
back_of x = ap value_of (fold-roll-Value Val view_step x)

layer_back : (y : Backs) → IsBack (roll-Value (plain y))
layer_back (Int n) = back_of (Int n) ∙ sym (made.rolls-Int n)
layer_back (Str bytes) = back_of (Str bytes) ∙ sym (made.rolls-Str bytes)
layer_back (Atom ty num) = back_of (Atom ty num) ∙ sym (made.rolls-Atom ty num)
layer_back (Con con es) = back_of (Con con (map (λ e. e.0) es)) ∙ ap (made.Con con) (all_back es) ∙ sym (made.rolls-Con con (map (λ e. e.0) es))
layer_back (Call c) = back_of (Call c) ∙ sym (made.rolls-Call c)
layer_back (Inv i) = back_of (Inv i) ∙ sym (made.rolls-Inv i)

value_back : (v : Value) → IsBack v
value_back = ind-Value IsBack (λ x y is. subst (λ z. IsBack (roll-Value z)) is (layer_back y))

values_back : (vs : List Value) → values_of (values_view vs) ≡ vs
values_back [] = refl
values_back (v ∷ vs) = λ i. value_back v i ∷ values_back vs i

pub same_value_view : (a b : Value) → value_view a ≡ value_view b → a ≡ b
same_value_view a b e = sym (value_back a) ∙ ap value_of e ∙ value_back b

pub same_values_view : (vs ws : List Value) → values_view vs ≡ values_view ws → vs ≡ ws
same_values_view vs ws e = sym (values_back vs) ∙ ap values_of e ∙ values_back ws
