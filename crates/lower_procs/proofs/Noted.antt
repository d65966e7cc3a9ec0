-- What expressions pass, one behind another.
use Rattle.std.proofs.Common.{◌≡◌, ◌≤◌, ◌<◌, ◌↔◌, ◌⊎◌, inl, inr, ℕ, ◌+◌, Bool, true, false, ◌&&◌, ◌||◌, not, nat_le, leb, [], refl, ap, ap₂, sym, subst, ◌∙◌, arith, lit<}
use Rattle.std.proofs.lemmas.Bool.Decides.{leb_tells, nat_tests}
use Rattle.rp_value.specs.declared.tables.ConTable.{ConTable}
use Rattle.rp_lang.specs.Exprs.{Ex, Slot, Bound, Int, Str, Con, Plus, Add, Sub, Query, OpOf, OpTerm, OriginOf, InfoOf, InfoTerm, ResultOf, ResultTerm, ResultWith, Unreturned, Exs, no_ex, also_ex}
use Rattle.rp_lang.specs.Formulas.{Holds}
use Rattle.rp_lang.specs.Sizes.{ex_depth, ex_nodes, exs_nodes, fo_depth}
use Rattle.rp_lang.specs.Bounds.{ex_weight, exs_weight, fo_binders, fo_weight, is_small_ex, is_small_fo}
use Rattle.rp_lang.specs.declared.limit.LimitName.TheVariants.{Depth, Quantifiers}
use Rattle.desugaring.specs.Limits.{Test, is_deep, is_past}
use Rattle.desugaring.specs.Values.{Value, term, formula}
use Rattle.lower_exprs.specs.declared.values.Passed.{Passed}
use Rattle.lower_exprs.specs.declared.values.Work.{Work}
use Rattle.lower_exprs.specs.declared.values.Made.{Made}
use Rattle.lower_exprs.specs.declared.values.Maker.{Maker}
use Rattle.lower_exprs.specs.Making.{Notes, Passes, StandsFor, is_small}
use Rattle.lower_procs.specs.Noting.{IsNoted, IsPassedBy, Passing, binds_many, is_large_in, none_passing, value_passing}

-- # Truths

pub or_none : (b : Bool) → (b || false) ≡ b
or_none true = refl
or_none false = refl

pub or_assoc : (p q r : Bool) → (p || (q || r)) ≡ ((p || q) || r)
or_assoc true q r = refl
or_assoc false q r = refl

neither : (p q : Bool) → p ≡ false → q ≡ false → (p || q) ≡ false
neither true q h i = absurd cc
neither false q h i = i

pub or_first : (p q : Bool) → p ≡ true → (p || q) ≡ true
or_first true q h = refl
or_first false q h = absurd cc

pub or_second : (p q : Bool) → q ≡ true → (p || q) ≡ true
or_second true q h = refl
or_second false q h = h

absorbed : (p q : Bool) → (p ≡ true → q ≡ true) → (p || q) ≡ q
absorbed true q h = sym (h refl)
absorbed false q h = refl

-- # Values

past_both : (n o d l : ℕ) → (n ≤ l) ↔ ((o ≤ l) × (d ≤ l)) → not (nat_le n l) ≡ (not (nat_le o l) || not (nat_le d l))
past_both n o d l e = by (leb_tells n l) (leb_tells o l) (leb_tells d l) where
  by : ((leb n l ≡ true) × (n ≤ l)) ⊎ ((leb n l ≡ false) × (l < n)) → ((leb o l ≡ true) × (o ≤ l)) ⊎ ((leb o l ≡ false) × (l < o))
      → ((leb d l ≡ true) × (d ≤ l)) ⊎ ((leb d l ≡ false) × (l < d)) → not (leb n l) ≡ (not (leb o l) || not (leb d l))
  by (inl a) (inl b) (inl c) = rw (a.0, b.0, c.0) refl
  by (inl a) (inl b) (inr c) = let h = e.0 a.1 in absurd (omega (arith, h.1, c.1))
  by (inl a) (inr b) c = let h = e.0 a.1 in absurd (omega (arith, h.0, b.1))
  by (inr a) (inl b) (inl c) = let h = e.1 (b.1, c.1) in absurd (omega (arith, h, a.1))
  by (inr a) (inl b) (inr c) = rw (a.0, b.0, c.0) refl
  by (inr a) (inr b) c = rw (a.0, b.0) refl

past_same : (n o l : ℕ) → (n ≤ l) ↔ ((o ≤ l) × (0 ≤ l)) → not (nat_le n l) ≡ (not (nat_le o l) || false)
past_same n o l e = by (leb_tells n l) (leb_tells o l) where
  by : ((leb n l ≡ true) × (n ≤ l)) ⊎ ((leb n l ≡ false) × (l < n)) → ((leb o l ≡ true) × (o ≤ l)) ⊎ ((leb o l ≡ false) × (l < o))
      → not (leb n l) ≡ (not (leb o l) || false)
  by (inl a) (inl b) = rw (a.0, b.0) refl
  by (inl a) (inr b) = let h = e.0 a.1 in absurd (omega (arith, h.0, b.1))
  by (inr a) (inl b) = let none : 0 ≤ l = omega arith in let h = e.1 (b.1, none) in absurd (omega (arith, h, a.1))
  by (inr a) (inr b) = rw (a.0, b.0) refl

passed_value : (w : Work) (old : Passed) (v : Value) (new : Passed) → Passes w.cons.now old v new
    → IsPassedBy w old (value_passing v) new
passed_value w old (term e) new p = record {
  depth = past_both new.depth old.depth (ex_depth e) 64 (p.depth 64 (lit< tt));
  binders = past_same new.binders old.binders 16 (p.binders 16 (lit< tt));
}
passed_value w old (formula f) new p = record {
  depth = past_both new.depth old.depth (fo_depth f) 64 (p.depth 64 (lit< tt));
  binders = past_both new.binders old.binders (fo_binders w.cons.now f) 16 (p.binders 16 (lit< tt));
}

small_value : (cons : ConTable) (v : Value) → is_small cons v ≡ true → value_passing v (is_large_in cons) ≡ false
small_value cons (term e) h = ap not h
small_value cons (formula f) h = ap not h

pub large_value : (cons : ConTable) (v : Value) → is_small cons v ≡ false → value_passing v (is_large_in cons) ≡ true
large_value cons (term e) h = ap not h
large_value cons (formula f) h = ap not h

pub noted_value : (old new : Maker) (v : Value) (made : Made) → StandsFor old.work v made → Notes old v new
    → IsNoted old (value_passing v) new
noted_value old new v made stands notes = record {
  work = notes.work;
  passed = passed_value old.work old.passed v new.passed notes.passed;
  small = λ on. small_value old.work.cons.now v (stands.value.small on);
}

-- # One behind another

pub noted_none : (m : Maker) → IsNoted m none_passing m
noted_none m = record {
  work = refl;
  passed = record {
    depth = sym (or_none (is_past Depth m.passed.depth));
    binders = sym (or_none (is_past Quantifiers m.passed.binders));
  };
  small = λ on. refl;
}

passed_both : (w : Work) (a b d : Passed) (p q : Passing) → IsPassedBy w a p b → IsPassedBy w b q d
    → IsPassedBy w a (λ test. p test || q test) d
passed_both w a b d p q first second = record {
  depth = second.depth ∙ ap (λ x. x || q is_deep) first.depth ∙ sym (or_assoc (is_past Depth a.depth) (p is_deep) (q is_deep));
  binders = let test = binds_many w.cons.now in
      second.binders ∙ ap (λ x. x || q test) first.binders ∙ sym (or_assoc (is_past Quantifiers a.binders) (p test) (q test));
}

pub noted_both : {a b d : Maker} {p q : Passing} → IsNoted a p b → IsNoted b q d → IsNoted a (λ test. p test || q test) d
noted_both {a} {b} {d} {p} {q} first second =
    let behind = subst (λ (w : Work). IsPassedBy w b.passed q d.passed) first.work second.passed in
    let small = subst (λ (w : Work). w.building ≡ true → q (is_large_in w.cons.now) ≡ false) first.work second.small in
    record {
      work = second.work ∙ first.work;
      passed = passed_both a.work a.passed b.passed d.passed p q first.passed behind;
      small = λ on. neither (p (is_large_in a.work.cons.now)) (q (is_large_in a.work.cons.now)) (first.small on) (small on);
    }

-- a slot by itself doesn't pass it
abbrev pub PassesNoSlot : Test → Type 0
PassesNoSlot test = (n : ℕ) → (test.of_term (Slot n) ≡ false) × (test.of_formula (Holds (Slot n)) ≡ false)

-- the same expressions but for slots, told otherwise
pub noted_as : {a b : Maker} {p : Passing} (q : Passing) → IsNoted a p b → ((test : Test) → PassesNoSlot test → q test ≡ p test)
    → IsNoted a q b
noted_as {a} {b} {p} q n same = record {
  work = n.work;
  passed = record {
    depth = n.passed.depth ∙ ap (λ x. is_past Depth a.passed.depth || x) (sym (same is_deep (λ n. (refl, refl))));
    binders = n.passed.binders ∙ ap (λ x. is_past Quantifiers a.passed.binders || x) (sym (same (binds_many a.work.cons.now) (λ n. (refl, refl))));
  };
  small = λ on. same (is_large_in a.work.cons.now) (λ n. (refl, refl)) ∙ n.small on;
}

-- # A term, and the formula that it is true

deeper_still : (e : Ex) → not (nat_le (ex_depth e) 64) ≡ true → not (nat_le (1 + ex_depth e) 64) ≡ true
deeper_still e h = grind (arith, nat_tests)

-- the term's own limits say nothing more
pub noted_holds : {a b d : Maker} (e : Ex) → IsNoted a (value_passing (term e)) b → IsNoted b (value_passing (formula (Holds e))) d
    → IsNoted a (value_passing (formula (Holds e))) d
noted_holds {a} {b} {d} e first second =
    let both = noted_both first second in
    let small = subst (λ (w : Work). w.building ≡ true → value_passing (formula (Holds e)) (is_large_in w.cons.now) ≡ false) first.work second.small in
    record {
      work = both.work;
      passed = record {
        depth = both.passed.depth
            ∙ ap (λ x. is_past Depth a.passed.depth || x)
            (absorbed (not (nat_le (ex_depth e) 64)) (not (nat_le (1 + ex_depth e) 64)) (deeper_still e));
        binders = both.passed.binders;
      };
      small = small;
    }

mutual
  weight_is : (e : Ex) → ex_weight [] e ≡ ex_nodes e
  weight_is (Slot s) = refl
  weight_is (Bound n) = refl
  weight_is (Int i) = refl
  weight_is (Str bytes) = refl
  weight_is (Con con args) = ap (λ n. 1 + n) (weights_are args)
  weight_is (Plus e i) = ap (λ n. 1 + n) (weight_is e)
  weight_is (Add a b) = ap₂ (λ m n. 1 + m + n) (weight_is a) (weight_is b)
  weight_is (Sub a b) = ap₂ (λ m n. 1 + m + n) (weight_is a) (weight_is b)
  weight_is (Query query args) = ap (λ n. 1 + n) (weights_are args)
  weight_is (OpOf call) = ap (λ n. 1 + n) (weight_is call)
  weight_is (OpTerm op args) = ap (λ n. 1 + n) (weights_are args)
  weight_is (OriginOf call) = ap (λ n. 1 + n) (weight_is call)
  weight_is (InfoOf inv) = ap (λ n. 1 + n) (weight_is inv)
  weight_is (InfoTerm proc args) = ap (λ n. 1 + n) (weights_are args)
  weight_is (ResultOf inv) = ap (λ n. 1 + n) (weight_is inv)
  weight_is (ResultTerm proc) = refl
  weight_is (ResultWith proc e) = ap (λ n. 1 + n) (weight_is e)
  weight_is Unreturned = refl

  weights_are : (es : Exs) → exs_weight [] es ≡ exs_nodes es
  weights_are no_ex = refl
  weights_are (also_ex e es) = ap₂ (λ m n. m + n) (weight_is e) (weights_are es)

large_more : (d n : ℕ) → (nat_le d 64 && nat_le n 100000) ≡ false
    → (nat_le (1 + d) 64 && nat_le 0 16 && nat_le (1 + n) 100000) ≡ false
large_more d n h = grind (arith, nat_tests)

-- a term that is past a limit is so as a formula
pub large_holds : (cons : ConTable) (e : Ex) → is_small_ex e ≡ false → is_small_fo cons (Holds e) ≡ false
large_holds cons e h =
    ap (λ n. nat_le (1 + ex_depth e) 64 && nat_le 0 16 && nat_le (1 + n) 100000) (weight_is e)
    ∙ large_more (ex_depth e) (ex_nodes e) h
