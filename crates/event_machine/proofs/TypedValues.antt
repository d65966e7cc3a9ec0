-- The value of a well typed expression fits its type.
pub use Rattle.rp_lang.proofs.TypeFacts.{is_data, ordinary-data, same-number, same-type, is-type, FieldsAreData}
use Rattle.std.proofs.Common.{◌≡◌, ℕ, ℤ, Bool, true, false, ◌&&◌, if◌then◌else◌, List, [], ◌∷◌, length, Option, Some, None, slice_get, nat_eq, refl, sym, ◌∙◌, ap, subst, arith, eq-eqb, true≢false}
use Rattle.std.specs.List.{list_all}
use Rattle.std.proofs.lemmas.Option.{none-some, same_Some}
use Rattle.rp_value.specs.declared.tables.Ty.{Ty}
use Rattle.rp_value.specs.declared.tables.Ty.TheVariants as ty
use Rattle.rp_value.specs.declared.tables.Ty.TheVariants.{Atom, Datatype}
use Rattle.rp_value.specs.declared.tables.ConDecl.{ConDecl}
use Rattle.rp_value.specs.Values as val
use Rattle.rp_value.specs.Values.{Val, Vals, no_val, also_val}
use Rattle.rp_lang.specs.Types as types
use Rattle.rp_lang.specs.Types.{same_ty, is_ty, agree, is_ordinary, are_ordinary, datatype_in, datatype_of, fields_in}
use Rattle.rp_lang.specs.Typing.{query_args, value_asked, slot_ty, type_of, have_types}
use Rattle.rp_lang.specs.Exprs.{Ex, Slot, Bound, Int, Str, Con, Plus, Add, Sub, Query, OpOf, OpTerm, OriginOf, InfoOf, InfoTerm, ResultOf, ResultTerm, ResultWith, Unreturned, Exs, no_ex, also_ex}
use Rattle.rp_lang.specs.Programs.{Proc, Prog}
use Rattle.crdt_defs.specs.Truths.{slot_value, list_of, asked, value, values}
use Rattle.event_machine.specs.Fitting.{cons_to, fields_of, fits, fields_fit}
use Rattle.event_machine.specs.Machine.{Invocation, State, at_invocation}
use Rattle.event_machine.specs.TypedStates.{frame_in, SlotsFit, AreSet}
use Rattle.event_machine.proofs.FormLemmas.{both_true}
use Rattle.event_machine.proofs.MoveLemmas.{and-make}
use Rattle.event_machine.proofs.WiderLemmas.{given-some}

-- # Expressions

-- what is asked of the store fits
abbrev pub AskedFits : Prog → State → Invocation → Type 0
AskedFits p s inv =
    (query : ℕ) (args : List Val) (t : Ty) → value_asked (slice_get p.queries query) ≡ Some t → length args ≡ length (query_args (slice_get p.queries query))
    → fits p t (asked (at_invocation p s inv) query args) ≡ true

pub record Holds (p : Prog) (s : State) (inv : Invocation) (q : Proc) (set : ℕ → Bool) : Type 0 where
  pub fields : FieldsAreData p
  pub asks : AskedFits p s inv
  pub slots : SlotsFit p q inv.slots
  pub are_set : AreSet set inv.slots

no-data : (t u : Ty) → Some u ≡ Some t → is_data u ≡ false → is_data t ≡ true → ⊥
no-data t u e n d = true≢false (sym d ∙ (ap is_data (sym (same_Some u t e)) ∙ n))

int-fits : (p : Prog) (t : Ty) (n : ℤ) → Some ty.Int ≡ Some t → fits p t (val.Int n) ≡ true
int-fits p t n e = ap (λ t. fits p t (val.Int n)) (sym (same_Some ty.Int t e))

slot-fits : (p : Prog) (s : State) (inv : Invocation) (q : Proc) (within : Bool) (set : ℕ → Bool) → Holds p s inv q set → (n : ℕ) (t : Ty) → slot_ty (frame_in q within set) n ≡ Some t
    → fits p t (slot_value (slice_get inv.slots n)) ≡ true
slot-fits p s inv q within set h n t e = go (set n) refl e
  where
    go : (b : Bool) → set n ≡ b → (if b then slice_get q.slots n else None) ≡ Some t → fits p t (slot_value (slice_get inv.slots n)) ≡ true
    go true is e = let v = h.are_set n is in ap (λ o. fits p t (slot_value o)) v.1 ∙ h.slots n v.0 t v.1 e
    go false is e = absurd (none-some t e)

pub con-fits : (p : Prog) (con : ℕ) (vs : Vals) (t : Ty) → datatype_of p.cons con ≡ Some t → fields_fit p (types.fields_of p.cons con) vs ≡ true → fits p t (val.Con con vs) ≡ true
con-fits p con vs t e f = go (slice_get p.cons.cons con) refl e f
  where
    go : (o : Option ConDecl) → slice_get p.cons.cons con ≡ o → datatype_in o ≡ Some t → fields_fit p (fields_in o) vs ≡ true → fits p t (val.Con con vs) ≡ true
    go None is e f = absurd (none-some t e)
    go (Some decl) is e f =
        ap (λ t. fits p t (val.Con con vs)) (sym (same_Some (Datatype decl.of) t e))
        ∙ (ap (λ o. cons_to decl.of o && fields_fit p (fields_of o) vs) is ∙ and-make (nat_eq decl.of decl.of) _ (eq-eqb decl.of decl.of refl) f)

mutual
  pub value-fits : (p : Prog) (s : State) (inv : Invocation) (q : Proc) (within : Bool) (set : ℕ → Bool) → Holds p s inv q set
      → (e : Ex) (t : Ty) → type_of p (frame_in q within set) [] e ≡ Some t → is_data t ≡ true → fits p t (value (at_invocation p s inv) [] e) ≡ true
  value-fits p s inv q within set h (Slot n) t e d = slot-fits p s inv q within set h n t e
  value-fits p s inv q within set h (Bound n) t e d = absurd (none-some t e)
  value-fits p s inv q within set h (Int n) t e d = int-fits p t n (given-some _ _ t e).1
  value-fits p s inv q within set h (Str bytes) t e d = ap (λ t. fits p t (val.Str bytes)) (sym (same_Some ty.Str t e))
  value-fits p s inv q within set h (Con con args) t e d =
      let k = given-some _ _ t e in
      con-fits p con (values (at_invocation p s inv) [] args) t k.1 (values-fit p s inv q within set h (types.fields_of p.cons con) args k.0 (h.fields con))
  value-fits p s inv q within set h (Plus a n) t e d =
      subst (λ t. fits p t (value (at_invocation p s inv) [] (Plus a n)) ≡ true) (same_Some ty.Int t (given-some _ _ t e).1) refl
  value-fits p s inv q within set h (Add a b) t e d =
      subst (λ t. fits p t (value (at_invocation p s inv) [] (Add a b)) ≡ true) (same_Some ty.Int t (given-some _ _ t e).1) refl
  value-fits p s inv q within set h (Sub a b) t e d =
      subst (λ t. fits p t (value (at_invocation p s inv) [] (Sub a b)) ≡ true) (same_Some ty.Int t (given-some _ _ t e).1) refl
  value-fits p s inv q within set h (Query query args) t e d =
      let k = given-some _ _ t e in
      h.asks query (list_of (values (at_invocation p s inv) [] args)) t k.1
      (values-count p s inv q within set (query_args (slice_get p.queries query)) args (both_true _ _ k.0).1)
  value-fits p s inv q within set h (OpOf call) t e d = absurd (no-data t ty.Operation (given-some _ _ t e).1 refl d)
  value-fits p s inv q within set h (OpTerm op args) t e d = absurd (no-data t ty.Operation (given-some _ _ t e).1 refl d)
  value-fits p s inv q within set h (OriginOf call) t e d = absurd (no-data t ty.Inv (given-some _ _ t e).1 refl d)
  value-fits p s inv q within set h (InfoOf i) t e d = absurd (no-data t ty.Info (given-some _ _ t e).1 refl d)
  value-fits p s inv q within set h (InfoTerm proc args) t e d = absurd (no-data t ty.Info (given-some _ _ t e).1 refl d)
  value-fits p s inv q within set h (ResultOf i) t e d = absurd (no-data t ty.Outcome (given-some _ _ t e).1 refl d)
  value-fits p s inv q within set h (ResultTerm proc) t e d = absurd (no-data t ty.Outcome (given-some _ _ t e).1 refl d)
  value-fits p s inv q within set h (ResultWith proc v) t e d = absurd (no-data t ty.Outcome (given-some _ _ t e).1 refl d)
  value-fits p s inv q within set h Unreturned t e d = absurd (no-data t ty.Outcome e refl d)

  pub values-fit : (p : Prog) (s : State) (inv : Invocation) (q : Proc) (within : Bool) (set : ℕ → Bool) → Holds p s inv q set
      → (ts : List Ty) (es : Exs) → have_types p (frame_in q within set) [] ts es ≡ true → list_all is_data ts ≡ true → fields_fit p ts (values (at_invocation p s inv) [] es) ≡ true
  values-fit p s inv q within set h [] no_ex e d = refl
  values-fit p s inv q within set h [] (also_ex x es) e d = absurd (true≢false (sym e))
  values-fit p s inv q within set h (t ∷ ts) no_ex e d = absurd (true≢false (sym e))
  values-fit p s inv q within set h (t ∷ ts) (also_ex x es) e d =
      let both = both_true _ _ e in
      let data' = both_true _ _ d in
      and-make _ _ (value-fits p s inv q within set h x t (is-type _ t both.0) data'.0) (values-fit p s inv q within set h ts es both.1 data'.1)

  values-count : (p : Prog) (s : State) (inv : Invocation) (q : Proc) (within : Bool) (set : ℕ → Bool)
      → (ts : List Ty) (es : Exs) → have_types p (frame_in q within set) [] ts es ≡ true → length (list_of (values (at_invocation p s inv) [] es)) ≡ length ts
  values-count p s inv q within set [] no_ex e = refl
  values-count p s inv q within set [] (also_ex x es) e = absurd (true≢false (sym e))
  values-count p s inv q within set (t ∷ ts) no_ex e = absurd (true≢false (sym e))
  values-count p s inv q within set (t ∷ ts) (also_ex x es) e = let rest : length (list_of (values (at_invocation p s inv) [] es)) ≡ length ts = values-count p s inv q within set ts es (both_true _ (have_types p (frame_in q within set) [] ts es) e).1 in omega arith
