-- The test of sameness is equality.
use Rattle.std.proofs.Common.{◌≡◌, ℕ, Bool, true, false, ◌↔◌, IsTrue, List, map, slice_get, refl, sym, ap, subst, ◌∙◌, inl, inr, nat_eq}
use Rattle.std.specs.Option.{option_map}
use Rattle.std.specs.Cmp.{signed_Decides}
use Rattle.std.proofs.lemmas.Bool.{and_parts, and_from, eqb-true, eq-eqb, true≢false, cases_Bool}
use Rattle.std.proofs.lemmas.Option.{slice_get-map}
use Rattle.std.proofs.lemmas.Slice.Eq.{bytes_eq-Decides}
use Rattle.rp_value.specs.declared.value.Value.{Value}
use Rattle.rp_value.specs.Values.{Val, Int, Str, Atom, Con, Call, Inv, Vals, no_val, also_val}
use Rattle.rp_value.specs.ValueView.{value_view}
use Rattle.rp_value.proofs.ValueBack.{same_value_view}
use Rattle.crdt_defs.specs.SameValues.{same_val, same_vals}

mutual
  pub same_val_is : (a b : Val) → same_val a b ≡ true → a ≡ b
  same_val_is (Int n) (Int m) e = ap Int ((signed_Decides n m).0 e)
  same_val_is (Str a) (Str b) e = ap Str ((bytes_eq-Decides a b).0 e)
  same_val_is (Atom s a) (Atom t b) e =
      let p = and_parts (nat_eq s t) (nat_eq a b) e in
      let types = eqb-true s t p.0 in
      let numbers = eqb-true a b p.1 in
      λ i. Atom (types i) (numbers i)
  same_val_is (Con c as_) (Con d bs) e =
      let p = and_parts (nat_eq c d) (same_vals as_ bs) e in
      let cons = eqb-true c d p.0 in
      let args = same_vals_is as_ bs p.1 in
      λ i. Con (cons i) (args i)
  same_val_is (Call c) (Call d) e = ap Call (eqb-true c d e)
  same_val_is (Inv c) (Inv d) e = ap Inv (eqb-true c d e)
  same_val_is _ _ e = absurd (true≢false (sym e))

  same_vals_is : (as_ bs : Vals) → same_vals as_ bs ≡ true → as_ ≡ bs
  same_vals_is no_val no_val e = refl
  same_vals_is (also_val a as_) (also_val b bs) e =
      let p = and_parts (same_val a b) (same_vals as_ bs) e in
      let head = same_val_is a b p.0 in
      let tail = same_vals_is as_ bs p.1 in
      λ i. also_val (head i) (tail i)
  same_vals_is _ _ e = absurd (true≢false (sym e))

mutual
  pub same_val_itself : (a : Val) → same_val a a ≡ true
  same_val_itself (Int n) = (signed_Decides n n).1 refl
  same_val_itself (Str a) = (bytes_eq-Decides a a).1 refl
  same_val_itself (Atom s a) = and_from (nat_eq s s) _ (eq-eqb s s refl) (eq-eqb a a refl)
  same_val_itself (Con c as_) = and_from (nat_eq c c) _ (eq-eqb c c refl) (same_vals_itself as_)
  same_val_itself (Call c) = eq-eqb c c refl
  same_val_itself (Inv c) = eq-eqb c c refl

  same_vals_itself : (as_ : Vals) → same_vals as_ as_ ≡ true
  same_vals_itself no_val = refl
  same_vals_itself (also_val a as_) = and_from (same_val a a) _ (same_val_itself a) (same_vals_itself as_)

-- a test that is true exactly where the values are equal
pub same_is : (a b : Value) (r : Bool) → (IsTrue r ↔ (a ≡ b)) → r ≡ same_val (value_view a) (value_view b)
same_is a b true h = sym (subst (λ v. same_val (value_view a) (value_view v) ≡ true) (h.0 refl) (same_val_itself (value_view a)))
same_is a b false h =
    elim (cases_Bool (same_val (value_view a) (value_view b))) [
      | inl same ↦ h.1 (same_value_view a b (same_val_is _ _ same)) ∙ sym same
      | inr other ↦ sym other
    ]

pub arg_seen : (args : List Value) (i : ℕ) → slice_get (map value_view args) i ≡ option_map value_view (slice_get args i)
arg_seen args i = slice_get-map value_view args i
