-- Values of data name no call.
use Rattle.std.proofs.Common.{◌≡◌, ℕ, zero, suc, true, List, [], ◌∷◌, sym, subst, slice_get, true≢false}
use Rattle.std.proofs.lemmas.Option.{none-some, same_Some}
use Rattle.std.proofs.lemmas.Bool.{and_parts}
use Rattle.rp_value.specs.declared.tables.Ty.TheVariants as ty
use Rattle.rp_value.specs.declared.tables.Ty.{Ty}
use Rattle.rp_value.specs.Values as val
use Rattle.rp_value.specs.Values.{Val, Vals, no_val, also_val}
use Rattle.rp_lang.specs.Programs.{Prog}
use Rattle.event_machine.specs.Fitting.{fits, fields_fit, fields_of, all_fit}
use Rattle.event_machine.specs.WellFormed.{At}
use Rattle.event_machine.proofs.TruthLonger.{Old, AllOld}

mutual
  pub fits-old : (p : Prog) (n : ℕ) (v : Val) (of : Ty) → fits p of v ≡ true → Old n v
  fits-old p n (val.Call c) ty.Int h = absurd (true≢false (sym h))
  fits-old p n (val.Call c) ty.Str h = absurd (true≢false (sym h))
  fits-old p n (val.Call c) (ty.Atom a) h = absurd (true≢false (sym h))
  fits-old p n (val.Call c) (ty.Datatype d) h = absurd (true≢false (sym h))
  fits-old p n (val.Call c) _ h = absurd (true≢false (sym h))
  fits-old p n (val.Con con args) ty.Int h = absurd (true≢false (sym h))
  fits-old p n (val.Con con args) ty.Str h = absurd (true≢false (sym h))
  fits-old p n (val.Con con args) (ty.Atom a) h = absurd (true≢false (sym h))
  fits-old p n (val.Con con args) (ty.Datatype d) h = fields-old p n args (fields_of (slice_get p.cons.cons con)) (and_parts _ _ h).1
  fits-old p n (val.Con con args) _ h = absurd (true≢false (sym h))
  fits-old p n _ of h = tt

  fields-old : (p : Prog) (n : ℕ) (vs : Vals) (types : List Ty) → fields_fit p types vs ≡ true → AllOld n vs
  fields-old p n no_val types h = tt
  fields-old p n (also_val v vs) [] h = absurd (true≢false (sym h))
  fields-old p n (also_val v vs) (of ∷ types) h = (fits-old p n v of (and_parts _ _ h).0, fields-old p n vs types (and_parts _ _ h).1)

pub args-old : (p : Prog) (n : ℕ) (vs : List Val) (types : List Ty) → all_fit p types vs ≡ true → (k : ℕ) (v : Val) → At vs k v → Old n v
args-old p n [] types h k v at = absurd (none-some v at)
args-old p n (w ∷ vs) [] h k v at = absurd (true≢false (sym h))
args-old p n (w ∷ vs) (of ∷ types) h zero v at = subst (Old n) (same_Some w v at) (fits-old p n w of (and_parts _ _ h).0)
args-old p n (w ∷ vs) (of ∷ types) h (suc k) v at = args-old p n vs types (and_parts _ _ h).1 k v at
