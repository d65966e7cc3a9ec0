-- What a well-formed program says of its types, operations and queries, and which values fit its types by that.
pub use Rattle.rp_lang.proofs.ProgramFacts.{Facts, facts, procedure-of, all-data, fields-data, nothing, only, listed-of, bare-fields, one-field, bool-decl, op-is, Stands, op-stands, reached-from, own-step, op-data}
use Rattle.std.proofs.Common.{◌≡◌, ℕ, Bool, true, false, List, [], ◌∷◌, Option, Some, None, slice_get, slice_index_or, refl, sym, ◌∙◌, ap, true≢false}
use Rattle.rp_value.specs.declared.tables.Ty.{Ty}
use Rattle.rp_value.specs.declared.tables.Ty.TheVariants.{Datatype}
use Rattle.rp_value.specs.declared.tables.DataDecl.{DataDecl}
use Rattle.rp_value.specs.Values.{Con, no_val}
use Rattle.rp_lang.specs.Types as types
use Rattle.rp_lang.specs.Types.{bool_ty, datatype_of, cons_in, is_bare_con, are_none_and_some, is_maybe_of}
use Rattle.rp_lang.specs.Programs.{Prog}
use Rattle.crdt_defs.specs.Truths.{truth_val, con_of, nth_con}
use Rattle.event_machine.specs.Fitting.{fits, fields_fit}
use Rattle.event_machine.specs.WellFormed.{At}
use Rattle.event_machine.proofs.FormLemmas.{both_true}
use Rattle.event_machine.proofs.TypedValues.{con-fits}

pub bare-fits : (p : Prog) (name : List ℕ) (con : ℕ) (t : Ty) → datatype_of p.cons con ≡ Some t → is_bare_con name (slice_get p.cons.cons con) ≡ true → fits p t (Con con no_val) ≡ true
bare-fits p name con t e bare = con-fits p con no_val t e (ap (λ ts. fields_fit p ts no_val) (bare-fields name (slice_get p.cons.cons con) bare))

-- a truth is of type `Bool`
pub truth-fits : (p : Prog) → Facts p → (b : Bool) → fits p bool_ty (truth_val b) ≡ true
truth-fits p f true =
    let both = both_true _ _ f.truths in
    let decl = bool-decl (slice_get p.types.datatypes 0) (both_true _ _ both.0).0 in
    bare-fits p _ 1 bool_ty (listed-of p f 0 decl.0 1 1 decl.1 decl.3) both.1
truth-fits p f false =
    let first = both_true _ _ (both_true _ _ f.truths).0 in
    let decl = bool-decl (slice_get p.types.datatypes 0) first.0 in
    bare-fits p _ 0 bool_ty (listed-of p f 0 decl.0 0 0 decl.1 decl.2) first.1

-- # `Maybe`

-- the constructors of a `Maybe` type
pub record IsMaybe (p : Prog) (ty result : Ty) : Type 0 where
  pub none : ℕ
  pub some : ℕ
  pub none_makes : datatype_of p.cons none ≡ Some result
  pub some_makes : datatype_of p.cons some ≡ Some result
  pub none_fields : types.fields_of p.cons none ≡ []
  pub some_fields : types.fields_of p.cons some ≡ ty ∷ []
  pub none_is : nth_con p result 0 ≡ none
  pub some_is : nth_con p result 1 ≡ some

pub maybe-of : (p : Prog) → Facts p → (ty result : Ty) → is_maybe_of p.types p.cons ty result ≡ true → IsMaybe p ty result
maybe-of p f ty (Datatype d) h = by-decl (slice_get p.types.datatypes d) refl h
  where
    by-cons : (decl : DataDecl) → At p.types.datatypes d decl → (list : List ℕ) → decl.cons ≡ list → are_none_and_some p.cons ty list ≡ true → IsMaybe p ty (Datatype d)
    by-cons decl at (none ∷ some ∷ []) is h =
        let both = both_true _ _ h in
        record {
          none = none;
          some = some;
          none_makes = listed-of p f d decl 0 none at (ap (λ xs. slice_get xs 0) is);
          some_makes = listed-of p f d decl 1 some at (ap (λ xs. slice_get xs 1) is);
          none_fields = bare-fields _ (slice_get p.cons.cons none) both.0;
          some_fields = one-field _ ty (slice_get p.cons.cons some) both.1;
          none_is = ap (λ o. con_of o 0) at ∙ ap (λ xs. slice_index_or xs 0 0) is;
          some_is = ap (λ o. con_of o 1) at ∙ ap (λ xs. slice_index_or xs 1 0) is;
        }
    by-cons decl at [] is h = absurd (true≢false (sym h))
    by-cons decl at (a ∷ []) is h = absurd (true≢false (sym h))
    by-cons decl at (a ∷ b ∷ c ∷ others) is h = absurd (true≢false (sym h))

    by-decl : (o : Option DataDecl) → slice_get p.types.datatypes d ≡ o → are_none_and_some p.cons ty (cons_in o) ≡ true → IsMaybe p ty (Datatype d)
    by-decl None e h = absurd (true≢false (sym h))
    by-decl (Some decl) e h = by-cons decl e decl.cons refl h
maybe-of p f ty _ h = absurd (true≢false (sym h))
