-- The test for equal elements.
use Rattle.std.proofs.Common.{◌≡◌, true, eqb, refl, ap, ap₂, subst, eqb-true, eq-eqb}
use Rattle.std.proofs.lemmas.Bool.Decides.{Decides-int_eq}
use Rattle.std.proofs.lemmas.Slice.Eq.{bytes_eq-Decides}
use Rattle.std.proofs.lemmas.Bool.{and_parts}
use Rattle.rp_logic.specs.Elements.{Elem, Elems, Point, Whole, Text, Made, no_elem, also_elem, same_elem, same_elems}
use Rattle.rp_logic.proofs.SortLaws.{no}

mutual
  pub same-is : (x y : Elem) → same_elem x y ≡ true → x ≡ y
  same-is (Point m) (Point n) h = ap Point (eqb-true m n h)
  same-is (Point m) _ h = no h
  same-is (Whole y) (Whole z) h = ap Whole ((Decides-int_eq y z).0 h)
  same-is (Whole y) _ h = no h
  same-is (Text b) (Text c) h = ap Text ((bytes_eq-Decides b c).0 h)
  same-is (Text b) _ h = no h
  same-is (Made c xs) (Made d ys) h =
      let b = and_parts (eqb c d) (same_elems xs ys) h in
      ap₂ Made (eqb-true c d b.0) (sames-are xs ys b.1)
  same-is (Made c xs) _ h = no h

  pub sames-are : (xs ys : Elems) → same_elems xs ys ≡ true → xs ≡ ys
  sames-are no_elem no_elem h = refl
  sames-are no_elem (also_elem y ys) h = no h
  sames-are (also_elem x xs) no_elem h = no h
  sames-are (also_elem x xs) (also_elem y ys) h =
      let b = and_parts (same_elem x y) (same_elems xs ys) h in
      ap₂ also_elem (same-is x y b.0) (sames-are xs ys b.1)

mutual
  pub same-self : (x : Elem) → same_elem x x ≡ true
  same-self (Point m) = eq-eqb m m refl
  same-self (Whole y) = (Decides-int_eq y y).1 refl
  same-self (Text b) = (bytes_eq-Decides b b).1 refl
  same-self (Made c xs) = let h = sames-self xs in rw (eq-eqb c c refl) h

  pub sames-self : (xs : Elems) → same_elems xs xs ≡ true
  sames-self no_elem = refl
  sames-self (also_elem x xs) = let h = same-self x in let i = sames-self xs in rw h i

pub is-same : (x y : Elem) → x ≡ y → same_elem x y ≡ true
is-same x y e = subst (λ z. same_elem x z ≡ true) e (same-self x)
