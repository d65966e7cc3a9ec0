-- What stands below a term, by its type.
use Rattle.std.proofs.Common.{◌≡◌, ◌-◌, ℕ, zero, suc, List, [], refl, ap, ◌∙◌, slice_get, arith}
use Rattle.rp_value.specs.declared.tables.Ty.{Ty}
use Rattle.rp_value.specs.declared.tables.Ty.TheVariants as ty
use Rattle.hist_struct.specs.Conditions.{cons_of}
use Rattle.rp_lang.specs.Programs.{Prog}
use Rattle.rp_logic.specs.Terms.{Tm}
use Rattle.rp_logic.specs.Formulas.{Fms}
use Rattle.hist_struct.specs.Axioms.{in_cons, of_con, places}
use Rattle.hist_struct.specs.Defaults.{most_parts}
use Rattle.place_axioms.specs.means.Below.{below, of_atom}

pub below_atom : (p : Prog) (sort kind fuel : ℕ) (given : Fms) (k : ℕ) (t : Tm) → (fuel ≡ 0 → ⊥)
    → below p sort kind fuel given (ty.Atom k) t ≡ of_atom p sort kind given k t
below_atom p sort kind zero given k t some = absurd (some refl)
below_atom p sort kind (suc zero) given k t some = refl
below_atom p sort kind (suc (suc f)) given k t some = refl

data_below : (p : Prog) (sort kind fuel : ℕ) (given : Fms) (d : ℕ) (t : Tm)
    → below p sort kind (suc fuel) given (ty.Datatype d) t ≡ in_cons p (below p sort kind fuel) given (cons_of (slice_get p.types.datatypes d)) t
data_below p sort kind zero given d t = refl
data_below p sort kind (suc f) given d t = refl

pub below_data : (p : Prog) (sort kind fuel : ℕ) (given : Fms) (d : ℕ) (t : Tm) → (fuel ≡ 0 → ⊥)
    → below p sort kind fuel given (ty.Datatype d) t ≡ in_cons p (below p sort kind (fuel - 1)) given (cons_of (slice_get p.types.datatypes d)) t
below_data p sort kind zero given d t some = absurd (some refl)
below_data p sort kind (suc f) given d t some =
    let less : f ≡ suc f - 1 = omega arith in
    data_below p sort kind f given d t ∙ ap (λ n. in_cons p (below p sort kind n) given (cons_of (slice_get p.types.datatypes d)) t) less

pub below_other : (p : Prog) (sort kind fuel : ℕ) (given : Fms) (y : Ty) (t : Tm) → ((k : ℕ) → y ≡ ty.Atom k → ⊥) → ((d : ℕ) → y ≡ ty.Datatype d → ⊥)
    → below p sort kind fuel given y t ≡ []
below_other p sort kind zero given y t a d = refl
below_other p sort kind (suc zero) given (ty.Atom k) t a d = absurd (a k refl)
below_other p sort kind (suc zero) given (ty.Datatype n) t a d = absurd (d n refl)
below_other p sort kind (suc zero) given ty.Int t a d = refl
below_other p sort kind (suc zero) given ty.Str t a d = refl
below_other p sort kind (suc zero) given ty.Call t a d = refl
below_other p sort kind (suc zero) given ty.Inv t a d = refl
below_other p sort kind (suc zero) given ty.Operation t a d = refl
below_other p sort kind (suc zero) given ty.Info t a d = refl
below_other p sort kind (suc zero) given ty.Outcome t a d = refl
below_other p sort kind (suc (suc f)) given (ty.Atom k) t a d = absurd (a k refl)
below_other p sort kind (suc (suc f)) given (ty.Datatype n) t a d = absurd (d n refl)
below_other p sort kind (suc (suc f)) given ty.Int t a d = refl
below_other p sort kind (suc (suc f)) given ty.Str t a d = refl
below_other p sort kind (suc (suc f)) given ty.Call t a d = refl
below_other p sort kind (suc (suc f)) given ty.Inv t a d = refl
below_other p sort kind (suc (suc f)) given ty.Operation t a d = refl
below_other p sort kind (suc (suc f)) given ty.Info t a d = refl
below_other p sort kind (suc (suc f)) given ty.Outcome t a d = refl

-- what the code begins with is one more than the most parts
pub at_most : (p : Prog) (sort kind : ℕ) (given : Fms) (con : ℕ) (tys : List Ty) (t : Tm)
    → of_con (below p sort kind 1001) given con tys t ≡ of_con (places p sort kind most_parts) given con tys t
unfolding most_parts
at_most p sort kind given con tys t = refl
