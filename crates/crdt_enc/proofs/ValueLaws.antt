-- Values of one type are different elements.
use Rattle.std.proofs.Common.{◌≡◌, List, [], ◌∷◌, slice_get, true, nat_eq, refl, sym, ap, ap₂, ◌∙◌, eqb-true}
use Rattle.std.proofs.lemmas.Bool.Decides.{Decides-int_eq, Decides-eqb}
use Rattle.std.proofs.lemmas.Slice.Eq.{bytes_eq-Decides}
use Rattle.rp_value.specs.declared.tables.Ty.{Ty}
use Rattle.rp_value.specs.declared.tables.Ty.TheVariants as ty
use Rattle.rp_value.specs.Values.{Val, Int, Str, Atom, Con, Call, Inv, Vals, no_val, also_val}
use Rattle.rp_lang.specs.Programs.{Prog}
use Rattle.crdt_defs.specs.SameValues.{same_val, same_vals}
use Rattle.crdt_defs.specs.Fitting.{fits, fields_fit, cons_to, fields_of}
use Rattle.crdt_enc.specs.Elements.{elem_of, elems_in}
use Rattle.std.proofs.lemmas.Bool.{and_parts, and_from}
use Rattle.rp_logic.proofs.SortLaws.{no}

mutual
  pub one-value : (p : Prog) (t : Ty) (v w : Val) → fits p t v ≡ true → fits p t w ≡ true → elem_of v ≡ elem_of w → v ≡ w
  one-value p ty.Int (Int n) (Int m) f g e = ap (λ n. Int n) cc
  one-value p ty.Str (Str a) (Str b) f g e = ap (λ n. Str n) cc
  one-value p (ty.Atom a) (Atom s n) (Atom t m) f g e = ap₂ (λ s n. Atom s n) (eqb-true s a f ∙ sym (eqb-true t a g)) cc
  one-value p (ty.Datatype d) (Con c xs) (Con k ys) f g e =
      let same : c ≡ k = cc in
      let es : elems_in xs ≡ elems_in ys = cc in
      let a = and_parts (cons_to d (slice_get p.cons.cons c)) (fields_fit p (fields_of (slice_get p.cons.cons c)) xs) f in
      let b = and_parts (cons_to d (slice_get p.cons.cons k)) (fields_fit p (fields_of (slice_get p.cons.cons k)) ys) g in
      ap₂ (λ c xs. Con c xs) same (one-values p (fields_of (slice_get p.cons.cons c)) xs ys a.1 (ap (λ n. fields_fit p (fields_of (slice_get p.cons.cons n)) ys) same ∙ b.1) es)
  one-value p _ v w f g e = cc

  pub one-values : (p : Prog) (ts : List Ty) (vs ws : Vals) → fields_fit p ts vs ≡ true → fields_fit p ts ws ≡ true → elems_in vs ≡ elems_in ws → vs ≡ ws
  one-values p [] no_val no_val f g e = refl
  one-values p (t ∷ ts) (also_val v vs) (also_val w ws) f g e =
      let a = and_parts (fits p t v) (fields_fit p ts vs) f in
      let b = and_parts (fits p t w) (fields_fit p ts ws) g in
      ap₂ also_val (one-value p t v w a.0 b.0 cc) (one-values p ts vs ws a.1 b.1 cc)
  one-values p _ vs ws f g e = cc

mutual
  pub val-is : (v w : Val) → same_val v w ≡ true → v ≡ w
  val-is (Int n) (Int m) h = ap (λ n. Int n) ((Decides-int_eq n m).0 h)
  val-is (Str a) (Str b) h = ap (λ n. Str n) ((bytes_eq-Decides a b).0 h)
  val-is (Atom s n) (Atom t m) h = let a = and_parts (nat_eq s t) (nat_eq n m) h in ap₂ (λ s n. Atom s n) (eqb-true s t a.0) (eqb-true n m a.1)
  val-is (Con c xs) (Con d ys) h = let a = and_parts (nat_eq c d) (same_vals xs ys) h in ap₂ (λ s n. Con s n) (eqb-true c d a.0) (vals-are xs ys a.1)
  val-is (Call c) (Call d) h = ap (λ n. Call n) (eqb-true c d h)
  val-is (Inv c) (Inv d) h = ap (λ n. Inv n) (eqb-true c d h)
  val-is _ _ h = no h

  pub vals-are : (vs ws : Vals) → same_vals vs ws ≡ true → vs ≡ ws
  vals-are no_val no_val h = refl
  vals-are (also_val v vs) (also_val w ws) h = let a = and_parts (same_val v w) (same_vals vs ws) h in ap₂ also_val (val-is v w a.0) (vals-are vs ws a.1)
  vals-are _ _ h = no h

mutual
  pub val-self : (v : Val) → same_val v v ≡ true
  val-self (Int n) = (Decides-int_eq n n).1 refl
  val-self (Str a) = (bytes_eq-Decides a a).1 refl
  val-self (Atom s n) = and_from (nat_eq s s) (nat_eq n n) ((Decides-eqb s s).1 refl) ((Decides-eqb n n).1 refl)
  val-self (Con c xs) = and_from (nat_eq c c) (same_vals xs xs) ((Decides-eqb c c).1 refl) (vals-self xs)
  val-self (Call c) = (Decides-eqb c c).1 refl
  val-self (Inv c) = (Decides-eqb c c).1 refl

  pub vals-self : (vs : Vals) → same_vals vs vs ≡ true
  vals-self no_val = refl
  vals-self (also_val v vs) = and_from (same_val v v) (same_vals vs vs) (val-self v) (vals-self vs)
