-- Values that fit types, one at a time.
use Rattle.std.proofs.Common.{◌≡◌, ℕ, zero, suc, ◌+◌, ◌<◌, ◌≤◌, false, ◌&&◌, refl, sym, ap, ◌∙◌, arith, List, [], ◌∷◌, map, length, get_or, drop}
use Rattle.std.proofs.lemmas.List.{drop_more}
use Rattle.std.proofs.lemmas.Bool.{and_right}
use Rattle.rp_value.specs.declared.tables.Ty.{Ty}
use Rattle.rp_value.specs.declared.value.Value.{Value}
use Rattle.rp_value.specs.Values.{Val, Con, Vals, no_val, also_val}
use Rattle.rp_value.specs.ValueView.{value_view, values_view}
use Rattle.rp_lang.specs.Programs.{Prog}
use Rattle.crdt_defs.specs.Fitting.{fits, fields_fit, all_fit}

-- how many values stand in a value, itself among them
abbrev mutual
  pub weight : Val → ℕ
  weight (Con con args) = 1 + weights args
  weight _ = 1

  pub weights : Vals → ℕ
  weights no_val = 0
  weights (also_val v vs) = weight v + weights vs

pub weight_at : (vs : List Value) (i : ℕ) (v : Value) → i < length vs → v ≡ get_or vs i v → weight (value_view v) ≤ weights (values_view vs)
weight_at [] i v lt is = absurd (omega arith)
weight_at (x ∷ vs) zero v lt is = let same : weight (value_view v) ≡ weight (value_view x) = ap (λ y. weight (value_view y)) is in omega arith
weight_at (x ∷ vs) (suc i) v lt is = let rest : weight (value_view v) ≤ weights (values_view vs) = weight_at vs i v (omega arith) is in omega arith

pub fields_listed : (p : Prog) (ts : List Ty) (vs : List Value) → fields_fit p ts (values_view vs) ≡ all_fit p ts (map value_view vs)
fields_listed p [] [] = refl
fields_listed p [] (v ∷ vs) = refl
fields_listed p (t ∷ ts) [] = refl
fields_listed p (t ∷ ts) (v ∷ vs) = ap (λ b. fits p t (value_view v) && b) (fields_listed p ts vs)

-- more values than types, or fewer
pub none_fit : (p : Prog) (ts : List Ty) (vs : List Value) → (length vs ≡ length ts → ⊥) → fields_fit p ts (values_view vs) ≡ false
none_fit p [] [] other = absurd (other refl)
none_fit p [] (v ∷ vs) other = refl
none_fit p (t ∷ ts) [] other = refl
none_fit p (t ∷ ts) (v ∷ vs) other = and_right (fits p t (value_view v)) _ (none_fit p ts vs (λ e. other (ap suc e)))

-- the values from one on fit where it does and those behind it do
pub fit_more : (p : Prog) (ts : List Ty) (vs : List Value) (i : ℕ) (t : Ty) (v : Value) → i < length ts → i < length vs → t ≡ get_or ts i t → v ≡ get_or vs i v
    → fields_fit p (drop i ts) (values_view (drop i vs)) ≡ (fits p t (value_view v) && fields_fit p (drop (i + 1) ts) (values_view (drop (i + 1) vs)))
fit_more p ts vs i t v below within is_t is_v =
    ap (λ xs. fields_fit p xs (values_view (drop i vs))) (drop_more ts i t below)
    ∙ ap (λ xs. fields_fit p (get_or ts i t ∷ drop (i + 1) ts) (values_view xs)) (drop_more vs i v within)
    ∙ ap (λ x. fits p x (value_view (get_or vs i v)) && fields_fit p (drop (i + 1) ts) (values_view (drop (i + 1) vs))) (sym is_t)
    ∙ ap (λ x. fits p t (value_view x) && fields_fit p (drop (i + 1) ts) (values_view (drop (i + 1) vs))) (sym is_v)
