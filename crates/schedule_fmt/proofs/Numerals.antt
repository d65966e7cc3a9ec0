-- Numbers that are read are written so, and numbers that are written are read.
use Rattle.std.proofs.Common.{◌≡◌, ℕ, ℤ, pos, negsuc, suc, ◌+◌, ◌-◌, ◌*◌, ◌<◌, ◌≤◌, Bool, true, false, List, [], ◌∷◌, ◌++◌, length, drop, get_or, Option, Some, None, refl, sym, ap, subst, ◌∙◌, arith, ⊎_elim, add-zero}
use Rattle.std.specs.Prelude.{◌^◌, ◌==◌, ◌&&◌, nat_le, if◌then◌else◌}
use Rattle.std.specs.Fmt.{decimal, signed_decimal}
use Rattle.std.proofs.lemmas.Bool.{cases_Bool, cases_eq, and_parts, and_from, leb-true, le-leb, eqb-true, eqb-false, eq-eqb, ne_eqb}
use Rattle.std.proofs.lemmas.Bool.Decides.{nat_tests}
use Rattle.std.proofs.lemmas.Fmt.{digits_decimal, digits_value-decimal, decimal_nonempty, decimal_digit, first_decimal, decimal-digits_value}
use Rattle.std.proofs.lemmas.Str.Parse.{IsDigitsTest, FoldsDigits, IsNumeralModel, numerals_by_fold}
use Rattle.std.proofs.lemmas.List.{length-drop}
use Rattle.rp_grammar.specs.Bytes.{is_digit, value_from}
use Rattle.rp_grammar.specs.Pieces.{Every}
use Rattle.rp_grammar.proofs.Fronts.{Stops}
use Rattle.crdt_defs.specs.Atoms.{in_range}
use Rattle.schedule_fmt.specs.means.Reading.{◌>>=◌, next_is, begins_with, digits_from, number_from, number, negative, int}
use Rattle.schedule_fmt.proofs.Inversions.{some_is, none_some, tested, untested, either, and_then, Spans, Reads, joined, drop_front, drop_next}

-- # Decimal digits

digit_parts : (c : ℕ) (cs : List ℕ) → Every is_digit (c ∷ cs) → (48 ≤ c) × (c ≤ 57)
digit_parts c cs e = let h = and_parts _ _ (e.0) in (leb-true 48 c h.0, leb-true c 57 h.1)

digit_is : (c : ℕ) → 48 ≤ c → c ≤ 57 → is_digit c ≡ true
digit_is c h k = grind (arith, nat_tests)

digits_test : IsDigitsTest (Every is_digit)
digits_test = record {
  empty = tt;
  parts = λ c cs e. (digit_parts c cs e, e.1);
  more = λ c cs k e. (digit_is c k.0 k.1, e);
}

folds : FoldsDigits value_from
folds = record { empty = λ n. refl; more = λ n c cs k. refl }

pub numerals : IsNumeralModel (Every is_digit) (value_from 0)
numerals = numerals_by_fold (Every is_digit) digits_test value_from folds

-- # Further digits

record Digits (most v : ℕ) (bs : List ℕ) (at : ℕ) : Type 0 where
  digits : List ℕ
  rest : List ℕ
  is : bs ≡ digits ++ rest
  every : Every is_digit digits
  read : digits_from most v bs at ≡ (value_from v digits, at + length digits)
  within : value_from v digits ≤ most

digits_of : (most v : ℕ) (bs : List ℕ) (at : ℕ) → v ≤ most → Digits most v bs at
digits_of most v [] at h = record { digits = []; rest = []; is = refl; every = tt; read = ap (λ m. (v, m)) (sym (add-zero at)); within = h }
digits_of most v (b ∷ bs) at h =
    ⊎_elim
    (λ t.
    let k = and_parts _ _ t in
    let d = digits_of most (v * 10 + (b - 48)) bs (at + 1) (leb-true _ _ k.1) in
    let l : at + 1 + length d.digits ≡ at + suc (length d.digits) = omega arith in record {
      digits = b ∷ d.digits;
      rest = d.rest;
      is = ap (λ x. b ∷ x) d.is;
      every = (k.0, d.every);
      read = ap (λ (c : Bool). if c then digits_from most (v * 10 + (b - 48)) bs (at + 1) else (v, at)) t ∙ d.read ∙ ap (λ m. (value_from (v * 10 + (b - 48)) d.digits, m)) l;
      within = d.within;
    })
    (λ t. record {
      digits = [];
      rest = b ∷ bs;
      is = refl;
      every = tt;
      read = ap (λ (c : Bool). if c then digits_from most (v * 10 + (b - 48)) bs (at + 1) else (v, at)) t ∙ ap (λ m. (v, m)) (sym (add-zero at));
      within = h;
    })
    (cases_Bool (is_digit b && nat_le (v * 10 + (b - 48)) most))

grows : (v : ℕ) (ds : List ℕ) → v ≤ value_from v ds
grows v [] = omega arith
grows v (d ∷ ds) = let h = grows (v * 10 + (d - 48)) ds in omega arith

digits_read : (most v : ℕ) (ds rest : List ℕ) (at : ℕ) → Every is_digit ds → value_from v ds ≤ most → Stops is_digit rest
    → digits_from most v (ds ++ rest) at ≡ (value_from v ds, at + length ds)
digits_read most v [] [] at e h s = ap (λ m. (v, m)) (sym (add-zero at))
digits_read most v [] (b ∷ bs) at e h s =
    ⊎_elim
    (λ t. absurd (s (and_parts _ _ t).0))
    (λ t. ap (λ (c : Bool). if c then digits_from most (v * 10 + (b - 48)) bs (at + 1) else (v, at)) t ∙ ap (λ m. (v, m)) (sym (add-zero at)))
    (cases_Bool (is_digit b && nat_le (v * 10 + (b - 48)) most))
digits_read most v (d ∷ ds) rest at e h s =
    let fits : v * 10 + (d - 48) ≤ most = let g = grows (v * 10 + (d - 48)) ds in omega arith in
    let t = and_from _ _ (e.0) (le-leb _ _ fits) in
    let l : at + 1 + length ds ≡ at + suc (length ds) = omega arith in
    ap (λ (c : Bool). if c then digits_from most (v * 10 + (d - 48)) (ds ++ rest) (at + 1) else (v, at)) t
    ∙ digits_read most (v * 10 + (d - 48)) ds rest (at + 1) e.1 h s
    ∙ ap (λ m. (value_from (v * 10 + (d - 48)) ds, m)) l

-- # Numbers

pub record NumberRead (most : ℕ) (text : List ℕ) (at n to : ℕ) : Type 0 where
  pub spans : Spans text at to (decimal n)
  pub within : n ≤ most

same_pair : (r s : ℕ × ℕ) → Some r ≡ Some s → (r.0 ≡ s.0) × (r.1 ≡ s.1)
same_pair r s h = let e = some_is _ _ h in (ap (λ q. q.0) e, ap (λ q. q.1) e)

zero_text : decimal 0 ≡ 48 ∷ []
zero_text = decimal_digit 0 (omega arith)

start : (b : ℕ) (ds : List ℕ) → value_from 0 (b ∷ ds) ≡ value_from (b - 48) ds
start b ds = let e : 0 * 10 + (b - 48) ≡ b - 48 = omega arith in ap (λ v. value_from v ds) e

number_found : (most : ℕ) (text bs : List ℕ) (at n to : ℕ) → 9 ≤ most → most < 2 ^ 64 → drop at text ≡ bs → number_from most bs at ≡ Some (n, to) → NumberRead most text at n to
number_found most text [] at n to low high e h = absurd (none_some _ h)
number_found most text (b ∷ bs) at n to low high e h =
    ⊎_elim
    (λ z.
    let s = same_pair _ _ z.1 in
    let first : b ≡ 48 = eqb-true b 48 z.0 in
    let text_is : drop at text ≡ decimal 0 ++ drop (at + 1) text =
    e ∙ ap (λ c. c ∷ bs) first ∙ ap (λ x. 48 ∷ x) (sym (drop_next text b bs at e)) ∙ ap (λ x. x ++ drop (at + 1) text) (sym zero_text) in record {
      spans = subst (λ m. Spans text at to (decimal m)) s.0 (subst (λ j. Spans text at j (decimal 0)) s.1 (record { is = text_is }));
      within = subst (λ m. m ≤ most) s.0 (omega arith);
    })
    (λ z.
    let k = tested _ _ _ z.1 in
    let small : b - 48 ≤ most = let d = digit_parts b [] (k.0, tt) in omega arith in
    let d = digits_of most (b - 48) bs (at + 1) small in
    let s = same_pair _ _ (sym (ap Some d.read) ∙ k.1) in
    let ds : List ℕ = b ∷ d.digits in
    let every : Every is_digit (b ∷ d.digits) = (k.0, d.every) in
    let v = start b d.digits in
    let whole : decimal (value_from 0 (b ∷ d.digits)) ≡ b ∷ d.digits =
    decimal-digits_value numerals (b ∷ d.digits) every (omega arith) (λ f. absurd (eqb-false b 48 z.0 f)) (subst (λ m. m < 2 ^ 64) (sym v) (let w = d.within in omega arith)) in
    let text_is : drop at text ≡ decimal n ++ drop to text =
    e ∙ ap (λ x. b ∷ x) d.is
    ∙ ap (λ x. (b ∷ d.digits) ++ x) (sym (drop_front text (b ∷ d.digits) d.rest at (e ∙ ap (λ x. b ∷ x) d.is)) ∙ ap (λ m. drop m text) (let l : at + suc (length d.digits) ≡ at + 1 + length d.digits = omega arith in l ∙ s.1))
    ∙ ap (λ x. x ++ drop to text) (sym whole ∙ ap decimal (v ∙ s.0)) in record {
      spans = record { is = text_is };
      within = subst (λ m. m ≤ most) s.0 d.within;
    })
    (either _ _ _ _ h)

pub number_sound : (most : ℕ) (text : List ℕ) (at n to : ℕ) → 9 ≤ most → most < 2 ^ 64 → number most text at ≡ Some (n, to) → NumberRead most text at n to
number_sound most text at n to low high h = number_found most text (drop at text) at n to low high refl h

nonzero_read : (most : ℕ) (ds rest : List ℕ) (at : ℕ) → Every is_digit ds → 48 < get_or ds 0 0 → value_from 0 ds ≤ most → Stops is_digit rest
    → number_from most (ds ++ rest) at ≡ Some (value_from 0 ds, at + length ds)
nonzero_read most [] rest at e f h s = absurd (omega arith)
nonzero_read most (c ∷ cs) rest at e f h s =
    let v = start c cs in
    let l : at + 1 + length cs ≡ at + suc (length cs) = omega arith in
    ap (λ (t : Bool). if t then Some (0, at + 1) else (if is_digit c then Some (digits_from most (c - 48) (cs ++ rest) (at + 1)) else None)) (ne_eqb c 48 (λ x. omega arith))
    ∙ ap (λ (t : Bool). if t then Some (digits_from most (c - 48) (cs ++ rest) (at + 1)) else None) (e.0)
    ∙ ap Some (digits_read most (c - 48) cs rest (at + 1) e.1 (subst (λ m. m ≤ most) v h) s)
    ∙ ap (λ m. Some (m, at + 1 + length cs)) (sym v) ∙ ap (λ m. Some (value_from 0 (c ∷ cs), m)) l

number_reads_from : (most n : ℕ) (rest : List ℕ) (at : ℕ) → n ≤ most → most < 2 ^ 64 → Stops is_digit rest → number_from most (decimal n ++ rest) at ≡ Some (n, at + length (decimal n))
number_reads_from most n rest at h high s =
    let small : n < 2 ^ 64 = omega arith in
    ⊎_elim
    (λ z. subst (λ m. number_from most (decimal m ++ rest) at ≡ Some (m, at + length (decimal m))) (sym z)
    (ap (λ ds. number_from most (ds ++ rest) at) zero_text ∙ ap (λ ds. Some (0, at + length ds)) (sym zero_text)))
    (λ z.
    let positive : 0 < n = omega arith in
    let v = digits_value-decimal numerals n small in
    nonzero_read most (decimal n) rest at (digits_decimal numerals n small) (first_decimal n positive small) (subst (λ m. m ≤ most) (sym v) h) s
    ∙ ap (λ m. Some (m, at + length (decimal n))) v)
    (cases_eq n 0)

pub number_reads : (most n : ℕ) (text rest : List ℕ) (at : ℕ) → n ≤ most → most < 2 ^ 64 → drop at text ≡ decimal n ++ rest → Stops is_digit rest → Reads text (number most text at) n rest
number_reads most n text rest at h high e s = record {
  to = at + length (decimal n);
  found = ap (λ bs. number_from most bs at) e ∙ number_reads_from most n rest at h high s;
  left = drop_front text (decimal n) rest at e;
}

-- # Integers

pub record IntRead (text : List ℕ) (at : ℕ) (z : ℤ) (to : ℕ) : Type 0 where
  pub spans : Spans text at to (signed_decimal z)
  pub word : in_range z ≡ true

same_int : (r s : ℤ × ℕ) → Some r ≡ Some s → (r.0 ≡ s.0) × (r.1 ≡ s.1)
same_int r s h = let e = some_is _ _ h in (ap (λ q. q.0) e, ap (λ q. q.1) e)

negative_word : (m : ℕ) → m ≤ 9223372036854775807 → in_range (negsuc m) ≡ true
negative_word m h = and_from _ _ (le-leb _ _ h) refl

positive_word : (m : ℕ) → m ≤ 9223372036854775807 → in_range (pos m) ≡ true
positive_word m h = le-leb _ _ h

next_found : (b : ℕ) (text bs : List ℕ) (at : ℕ) → drop at text ≡ bs → begins_with b bs ≡ true → drop at text ≡ b ∷ drop (at + 1) text
next_found b text [] at e h = cc
next_found b text (c ∷ cs) at e h =
    e ∙ ap (λ x. x ∷ cs) (eqb-true c b h) ∙ ap (λ x. b ∷ x) (sym (drop_next text c cs at e))

-- the byte stands at the place
pub next_spans : (b : ℕ) (text : List ℕ) (at : ℕ) → next_is b text at ≡ true → Spans text at (at + 1) (b ∷ [])
next_spans b text at h = record { is = next_found b text (drop at text) at refl h }

pub int_sound : (text : List ℕ) (at : ℕ) (z : ℤ) (to : ℕ) → int text at ≡ Some (z, to) → IntRead text at z to
int_sound text at z to h =
    ⊎_elim
    (λ t.
    let r = and_then {X = ℕ × ℕ} _ _ _ t.1 in
    let u = untested _ _ _ r.2 in
    let s = same_int _ _ u.1 in
    let n = r.0.0 in
    let e = number_sound 9223372036854775808 text (at + 1) n r.0.1 (omega arith) (omega arith) r.1 in
    let back : suc (n - 1) ≡ n = let k = eqb-false n 0 u.0 in omega arith in
    let sign = next_spans 45 text at t.0 in
    let whole : Spans text at r.0.1 (45 ∷ decimal (suc (n - 1))) = subst (λ m. Spans text at r.0.1 (45 ∷ decimal m)) (sym back) (joined text at (at + 1) r.0.1 (45 ∷ []) (decimal n) sign e.spans) in record {
      spans = subst (λ w. Spans text at to (signed_decimal w)) s.0 (subst (λ j. Spans text at j (signed_decimal (negsuc (n - 1)))) s.1 whole);
      word = subst (λ w. in_range w ≡ true) s.0 (negative_word (n - 1) (let w = e.within in omega arith));
    })
    (λ t.
    let r = and_then {X = ℕ × ℕ} _ _ _ t.1 in
    let s = same_int _ _ r.2 in
    let e = number_sound 9223372036854775807 text at r.0.0 r.0.1 (omega arith) (omega arith) r.1 in record {
      spans = subst (λ w. Spans text at to (signed_decimal w)) s.0 (subst (λ j. Spans text at j (signed_decimal (pos r.0.0))) s.1 e.spans);
      word = subst (λ w. in_range w ≡ true) s.0 (positive_word r.0.0 e.within);
    })
    (either _ _ _ _ h)

next_other : (b c : ℕ) (text rest : List ℕ) (at : ℕ) → drop at text ≡ c ∷ rest → (c ≡ b → ⊥) → next_is b text at ≡ false
next_other b c text rest at e h = ap (begins_with b) e ∙ ne_eqb c b h

pub next_is_not : (b : ℕ) (c : ℕ) (text rest : List ℕ) (at : ℕ) → drop at text ≡ c ∷ rest → (c ≡ b → ⊥) → next_is b text at ≡ false
next_is_not b c text rest at e h = next_other b c text rest at e h

pub next_reads : (b : ℕ) (text rest : List ℕ) (at : ℕ) → drop at text ≡ b ∷ rest → next_is b text at ≡ true
next_reads b text rest at e = ap (begins_with b) e ∙ eq-eqb b b refl

-- a number doesn't begin with a sign
no_sign : (ds rest : List ℕ) → Every is_digit ds → 0 < length ds → begins_with 45 (ds ++ rest) ≡ false
no_sign [] rest e h = absurd (omega arith)
no_sign (c ∷ cs) rest e h = let d = digit_parts c cs e in ne_eqb c 45 (λ x. omega arith)

word_parts : (m : ℕ) → in_range (negsuc m) ≡ true → m ≤ 9223372036854775807
word_parts m h = leb-true _ _ (and_parts _ _ h).0

pub int_reads : (z : ℤ) (text rest : List ℕ) (at : ℕ) → in_range z ≡ true → drop at text ≡ signed_decimal z ++ rest → Stops is_digit rest → Reads text (int text at) z rest
int_reads (pos n) text rest at h e s =
    let small : n ≤ 9223372036854775807 = leb-true _ _ h in
    let r = number_reads 9223372036854775807 n text rest at small (omega arith) e s in
    let wide : n < 2 ^ 64 = omega arith in
    let plain : next_is 45 text at ≡ false = ap (begins_with 45) e ∙ no_sign (decimal n) rest (digits_decimal numerals n wide) (decimal_nonempty n wide) in record {
      to = r.to;
      found =
          ap (λ (t : Bool). if t then (number 9223372036854775808 text (at + 1) >>= negative) else (number 9223372036854775807 text at >>= λ q. Some (pos q.0, q.1))) plain
          ∙ ap (λ (o : Option (ℕ × ℕ)). o >>= λ q. Some (pos q.0, q.1)) r.found;
      left = r.left;
    }
int_reads (negsuc m) text rest at h e s =
    let small = word_parts m h in
    let r = number_reads 9223372036854775808 (suc m) text rest (at + 1) (omega arith) (omega arith) (drop_next text 45 (decimal (suc m) ++ rest) at e) s in
    let back : suc m - 1 ≡ m = omega arith in record {
      to = r.to;
      found =
          ap (λ (t : Bool). if t then (number 9223372036854775808 text (at + 1) >>= negative) else (number 9223372036854775807 text at >>= λ q. Some (pos q.0, q.1))) (next_reads 45 text (decimal (suc m) ++ rest) at e)
          ∙ ap (λ (o : Option (ℕ × ℕ)). o >>= negative) r.found
          ∙ ap (λ (t : Bool). if t then None else Some (negsuc (suc m - 1), r.to)) (ne_eqb (suc m) 0 (λ x. omega arith))
          ∙ ap (λ k. Some (negsuc k, r.to)) back;
      left = r.left;
    }

-- # As long as may be

-- something is read, and leaves no more than the rest
pub record Longest {X : Type 0} (text : List ℕ) (o : Option (X × ℕ)) (rest : List ℕ) : Type 0 where
  pub item : X
  pub to : ℕ
  pub found : o ≡ Some (item, to)
  pub left : length (drop to text) ≤ length rest

farther : (text : List ℕ) (i j : ℕ) → i ≤ j → length (drop j text) ≤ length (drop i text)
farther text i j h = omega (arith, length-drop i text, length-drop j text)

record Reach (most v : ℕ) (bs : List ℕ) (at n : ℕ) : Type 0 where
  got : ℕ
  to : ℕ
  read : digits_from most v bs at ≡ (got, to)
  far : at + n ≤ to
  grown : v ≤ got

reach_none : (most v : ℕ) (bs : List ℕ) (at : ℕ) → v ≤ most → Reach most v bs at 0
reach_none most v bs at h = let d = digits_of most v bs at h in record {
  got = value_from v d.digits;
  to = at + length d.digits;
  read = d.read;
  far = omega arith;
  grown = grows v d.digits;
}

reach : (most v : ℕ) (ds rest : List ℕ) (at : ℕ) → Every is_digit ds → value_from v ds ≤ most → Reach most v (ds ++ rest) at (length ds)
reach most v [] rest at e h = reach_none most v rest at h
reach most v (d ∷ ds) rest at e h =
    let fits : v * 10 + (d - 48) ≤ most = let g = grows (v * 10 + (d - 48)) ds in omega arith in
    let t = and_from _ _ (e.0) (le-leb _ _ fits) in
    let r = reach most (v * 10 + (d - 48)) ds rest (at + 1) e.1 h in record {
      got = r.got;
      to = r.to;
      read = ap (λ (c : Bool). if c then digits_from most (v * 10 + (d - 48)) (ds ++ rest) (at + 1) else (v, at)) t ∙ r.read;
      far = let f = r.far in omega arith;
      grown = let g = r.grown in omega arith;
    }

-- the number that is read is 0 only where 0 is written
pub record NumberLongest (most : ℕ) (text : List ℕ) (at n : ℕ) (rest : List ℕ) : Type 0 where
  pub number_read : ℕ
  pub to : ℕ
  pub found : number most text at ≡ Some (number_read, to)
  pub left : length (drop to text) ≤ length rest
  pub positive : 0 < n → 0 < number_read

nonzero_longest : (most : ℕ) (text ds rest : List ℕ) (at n : ℕ) → Every is_digit ds → 48 < get_or ds 0 0 → value_from 0 ds ≤ most → drop at text ≡ ds ++ rest → NumberLongest most text at n rest
nonzero_longest most text [] rest at n e f h is = absurd (omega arith)
nonzero_longest most text (c ∷ cs) rest at n e f h is =
    let r = reach most (c - 48) cs rest (at + 1) e.1 (subst (λ m. m ≤ most) (start c cs) h) in
    let end = drop_front text (c ∷ cs) rest at is in record {
      number_read = r.got;
      to = r.to;
      found =
          ap (λ bs. number_from most bs at) is
          ∙ ap (λ (t : Bool). if t then Some (0, at + 1) else (if is_digit c then Some (digits_from most (c - 48) (cs ++ rest) (at + 1)) else None)) (ne_eqb c 48 (λ x. omega arith))
          ∙ ap (λ (t : Bool). if t then Some (digits_from most (c - 48) (cs ++ rest) (at + 1)) else None) (e.0)
          ∙ ap Some r.read;
      left = let w = farther text (at + length (c ∷ cs)) r.to (let g = r.far in omega arith) in omega (arith, ap length end);
      positive = λ z. let g = r.grown in omega arith;
    }

pub number_longest : (most n : ℕ) (text rest : List ℕ) (at : ℕ) → 9 ≤ most → n ≤ most → most < 2 ^ 64 → drop at text ≡ decimal n ++ rest → NumberLongest most text at n rest
number_longest most n text rest at low h high e =
    let small : n < 2 ^ 64 = omega arith in
    ⊎_elim
    (λ z.
    let is : drop at text ≡ 48 ∷ rest = e ∙ ap (λ m. decimal m ++ rest) z ∙ ap (λ ds. ds ++ rest) zero_text in record {
      number_read = 0;
      to = at + 1;
      found = ap (λ bs. number_from most bs at) is;
      left = omega (arith, ap length (drop_next text 48 rest at is));
      positive = λ k. absurd (omega arith);
    })
    (λ z.
    let positive : 0 < n = omega arith in
    let v = digits_value-decimal numerals n small in
    nonzero_longest most text (decimal n) rest at n (digits_decimal numerals n small) (first_decimal n positive small) (subst (λ m. m ≤ most) (sym v) h) e)
    (cases_eq n 0)

pub int_longest : (z : ℤ) (text rest : List ℕ) (at : ℕ) → in_range z ≡ true → drop at text ≡ signed_decimal z ++ rest → Longest text (int text at) rest
int_longest (pos n) text rest at h e =
    let small : n ≤ 9223372036854775807 = leb-true _ _ h in
    let r = number_longest 9223372036854775807 n text rest at (omega arith) small (omega arith) e in
    let wide : n < 2 ^ 64 = omega arith in
    let plain : next_is 45 text at ≡ false = ap (begins_with 45) e ∙ no_sign (decimal n) rest (digits_decimal numerals n wide) (decimal_nonempty n wide) in record {
      item = pos r.number_read;
      to = r.to;
      found =
          ap (λ (t : Bool). if t then (number 9223372036854775808 text (at + 1) >>= negative) else (number 9223372036854775807 text at >>= λ q. Some (pos q.0, q.1))) plain
          ∙ ap (λ (o : Option (ℕ × ℕ)). o >>= λ q. Some (pos q.0, q.1)) r.found;
      left = r.left;
    }
int_longest (negsuc m) text rest at h e =
    let small = word_parts m h in
    let r = number_longest 9223372036854775808 (suc m) text rest (at + 1) (omega arith) (omega arith) (omega arith) (drop_next text 45 (decimal (suc m) ++ rest) at e) in
    let some : (r.number_read == 0) ≡ false = ne_eqb r.number_read 0 (λ x. let k = r.positive (omega arith) in omega arith) in record {
      item = negsuc (r.number_read - 1);
      to = r.to;
      found =
          ap (λ (t : Bool). if t then (number 9223372036854775808 text (at + 1) >>= negative) else (number 9223372036854775807 text at >>= λ q. Some (pos q.0, q.1))) (next_reads 45 text (decimal (suc m) ++ rest) at e)
          ∙ ap (λ (o : Option (ℕ × ℕ)). o >>= negative) r.found
          ∙ ap (λ (t : Bool). if t then None else Some (negsuc (r.number_read - 1), r.to)) some;
      left = r.left;
    }
