-- Marks say which constants stand on a branch.
use Rattle.std.proofs.Common.{◌≡◌, ◌≤◌, ◌<◌, ◌⊎◌, inl, inr, ℕ, zero, suc, ◌+◌, Bool, true, false, not, ◌&&◌, ◌||◌, cond, eqb, ltb, leb, List, [], ◌∷◌, ◌++◌, take, length, reverse, refl, ap, sym, ◌∙◌, arith}
use Rattle.std.proofs.lemmas.Bool.{lt-ltb, le-ltb, le-leb, leb-true, leb-false, eqb-true, ne_eqb, cases_lt}
use Rattle.std.proofs.lemmas.List.{reverse-append, length-append, length-take-le, take_all, take-take, take-append-le}
use Rattle.rp_logic.specs.Terms.{Tm, Var, Const, Fn, Int, Str, Con, Sel, Plus, Tms, no_tm, also_tm, At, Equal, Le, Rel}
use Rattle.rp_logic.specs.Formulas.{Fm, And, Or, All, Ex, Lit, Fms, no_fm, also_fm}
use Rattle.rp_logic.specs.Constants.{lacks, all_lack, atom_lacks, formula_lacks, formulas_lack, each_lacks}
use Rattle.refute_branch.specs.declared.marks.Mark.{Mark}
use Rattle.refute_branch.specs.Marks.{stands_before, Descend, AreMarks}
use Rattle.refute_branch.specs.means.Marking.{is_marked, is_late, dropped, with_constant, with_term, with_terms, with_atom, with_formula, with_formulas}

-- # Tests

or_swap : (a b c : Bool) → a || (b || c) ≡ b || (a || c)
or_swap true true c = refl
or_swap true false c = refl
or_swap false b c = refl

or_false : (a : Bool) → a ≡ a || false
or_false true = refl
or_false false = refl

or_turn : (a b : Bool) → a || b ≡ b || not (not a)
or_turn true true = refl
or_turn true false = refl
or_turn false true = refl
or_turn false false = refl

or_true : (a b : Bool) → a ≡ true → a ≡ a || b
or_true true b e = refl
or_true false b e = absurd cc

or_nots : (a l k : Bool) → (a || not l) || not k ≡ a || not (l && k)
or_nots true l k = refl
or_nots false true k = refl
or_nots false false k = refl

nots : (a b : Bool) → not a || not b ≡ not (a && b)
nots true b = refl
nots false b = refl

not_twice : (a : Bool) → not (not a) ≡ a
not_twice true = refl
not_twice false = refl

and_false_or : (x t s : Bool) → t ≡ false → (x && t) || s ≡ s
and_false_or true true s e = absurd cc
and_false_or true false s e = refl
and_false_or false t s e = refl

and_true_or : (x t s : Bool) → t ≡ true → (x && t) || s ≡ x || s
and_true_or true true s e = refl
and_true_or true false s e = absurd cc
and_true_or false t s e = refl

and_true : (a : Bool) → a && true ≡ a
and_true true = refl
and_true false = refl

-- # Marks from the other end

marked_behind : (c : ℕ) (ms : List Mark) (m : Mark) → is_marked c (ms ++ m ∷ [])
    ≡ eqb c m.number || is_marked c ms
marked_behind c [] m = refl
marked_behind c (x ∷ ms) m =
    ap (λ b. eqb c x.number || b) (marked_behind c ms m)
    ∙ or_swap (eqb c x.number) (eqb c m.number) (is_marked c ms)

pub marked_in_reverse : (c : ℕ) (ms : List Mark) → is_marked c (reverse ms) ≡ is_marked c ms
marked_in_reverse c [] = refl
marked_in_reverse c (m ∷ ms) =
    ap (is_marked c) (reverse-append (m ∷ []) ms) ∙ marked_behind c (reverse ms) m
    ∙ ap (λ b. eqb c m.number || b) (marked_in_reverse c ms)

pub late_at_end : (n : ℕ) (ms : List Mark) (m : Mark) → is_late n (reverse (ms ++ m ∷ []))
    ≡ leb n m.place
late_at_end n ms m = ap (is_late n) (reverse-append ms (m ∷ []))

-- # Places

weaker : (n k : ℕ) (ms : List Mark) → Descend n ms → n ≤ k → Descend k ms
weaker n k [] h l = tt
weaker n k (m ∷ ms) h l = let a = h.0 in (omega arith, h.1)

all_before : (n k c : ℕ) (ms : List Mark) → Descend n ms → n ≤ k → stands_before k c ms
    ≡ is_marked c ms
all_before n k c [] h l = refl
all_before n k c (m ∷ ms) h l =
    let a = h.0 in
    and_true_or (eqb c m.number) (ltb m.place k) (stands_before k c ms)
    (lt-ltb m.place k (omega arith))
    ∙ ap (λ b. eqb c m.number || b) (all_before (suc m.place) k c ms h.1 (omega arith))

-- # Marks that are added

module _ (consts place : ℕ) where
  -- the constants that something holds are marked, at the place where they are new
  record Adds (lack : ℕ → Bool) (old new : List Mark) : Type 0 where
    marked : (c : ℕ) → consts ≤ c → is_marked c new ≡ is_marked c old || not (lack c)
    same : (n c : ℕ) → n ≤ place → stands_before n c new ≡ stands_before n c old
    descend : Descend (suc place) old → Descend (suc place) new

  nothing : (ms : List Mark) → Adds (λ c. true) ms ms
  nothing ms = record {
    marked = λ c h. or_false (is_marked c ms);
    same = λ n c h. refl;
    descend = λ h. h;
  }

  both : (l k : ℕ → Bool) (old ms new : List Mark) → Adds l old ms → Adds k ms new
      → Adds (λ c. l c && k c) old new
  both l k old ms new x y = record {
    marked = λ c h. y.marked c h ∙ ap (λ b. b || not (k c)) (x.marked c h)
        ∙ or_nots (is_marked c old) (l c) (k c);
    same = λ n c h. y.same n c h ∙ x.same n c h;
    descend = λ h. y.descend (x.descend h);
  }

  one : (d : ℕ) (ms : List Mark) → Adds (λ c. not (eqb c d)) ms (with_constant consts place d ms)
  one d ms = go (leb consts d) (is_marked d ms) refl refl
    where
      known : (c : ℕ) → is_marked d ms ≡ true → (b : Bool) → eqb c d ≡ b
          → is_marked c ms ≡ is_marked c ms || not (not b)
      known c g true e = or_true (is_marked c ms) true (ap (λ x. is_marked x ms) (eqb-true c d e) ∙ g)
      known c g false e = or_false (is_marked c ms)

      low : (c : ℕ) → consts ≤ c → leb consts d ≡ false
          → is_marked c ms ≡ is_marked c ms || not (not (eqb c d))
      low c h e =
          let l = leb-false consts d e in
          or_false (is_marked c ms)
          ∙ ap (λ b. is_marked c ms || not (not b)) (sym (ne_eqb c d (λ q. omega (arith, q))))

      go : (a b : Bool) → leb consts d ≡ a → is_marked d ms ≡ b
          → Adds (λ c. not (eqb c d)) ms
          (cond (a && not b) (record { number = d; place = place } ∷ ms) ms)
      go true false e g = record {
        marked = λ c h. or_turn (eqb c d) (is_marked c ms);
        same = λ n c h. and_false_or (eqb c d) (ltb place n) (stands_before n c ms)
            (le-ltb place n h);
        descend = λ h. (omega arith, h);
      }
      go true true e g = record {
        marked = λ c h. known c g (eqb c d) refl;
        same = λ n c h. refl;
        descend = λ h. h;
      }
      go false b e g = record {
        marked = λ c h. low c h e;
        same = λ n c h. refl;
        descend = λ h. h;
      }

  mutual
    adds_term : (t : Tm) (ms : List Mark) → Adds (λ c. lacks c t) ms (with_term consts place t ms)
    adds_term (Var n) ms = nothing ms
    adds_term (Const c) ms = one c ms
    adds_term (Fn f ts) ms = adds_terms ts ms
    adds_term (Int n) ms = nothing ms
    adds_term (Str bytes) ms = nothing ms
    adds_term (Con con ts) ms = adds_terms ts ms
    adds_term (Sel con i t) ms = adds_term t ms
    adds_term (Plus t n) ms = adds_term t ms

    adds_terms : (ts : Tms) (ms : List Mark)
        → Adds (λ c. all_lack c ts) ms (with_terms consts place ts ms)
    adds_terms no_tm ms = nothing ms
    adds_terms (also_tm t ts) ms =
        both (λ c. lacks c t) (λ c. all_lack c ts) ms (with_term consts place t ms)
        (with_terms consts place ts (with_term consts place t ms))
        (adds_term t ms) (adds_terms ts (with_term consts place t ms))

  adds_two : (a b : Tm) (ms : List Mark) → Adds (λ c. lacks c a && lacks c b) ms
      (with_term consts place b (with_term consts place a ms))
  adds_two a b ms =
      both (λ c. lacks c a) (λ c. lacks c b) ms (with_term consts place a ms)
      (with_term consts place b (with_term consts place a ms))
      (adds_term a ms) (adds_term b (with_term consts place a ms))

  adds_atom : (a : At) (ms : List Mark)
      → Adds (λ c. atom_lacks c a) ms (with_atom consts place a ms)
  adds_atom (Equal a b) ms = adds_two a b ms
  adds_atom (Le a b k) ms = adds_two a b ms
  adds_atom (Rel r ts) ms = adds_terms ts ms

  mutual
    adds_formula : (f : Fm) (ms : List Mark)
        → Adds (λ c. formula_lacks c f) ms (with_formula consts place f ms)
    adds_formula (And fs) ms = adds_formulas fs ms
    adds_formula (Or fs) ms = adds_formulas fs ms
    adds_formula (All s f) ms = adds_formula f ms
    adds_formula (Ex s f) ms = adds_formula f ms
    adds_formula (Lit b a) ms = adds_atom a ms

    adds_formulas : (fs : Fms) (ms : List Mark)
        → Adds (λ c. formulas_lack c fs) ms (with_formulas consts place fs ms)
    adds_formulas no_fm ms = nothing ms
    adds_formulas (also_fm f fs) ms =
        both (λ c. formula_lacks c f) (λ c. formulas_lack c fs) ms (with_formula consts place f ms)
        (with_formulas consts place fs (with_formula consts place f ms))
        (adds_formula f ms) (adds_formulas fs (with_formula consts place f ms))

-- # Marks of a branch

lacks_behind : (c : ℕ) (fs : List Fm) (f : Fm) → each_lacks c (fs ++ f ∷ [])
    ≡ each_lacks c fs && formula_lacks c f
lacks_behind c [] f = and_true (formula_lacks c f)
lacks_behind c (g ∷ fs) f =
    ap (λ b. formula_lacks c g && b) (lacks_behind c fs f)
    ∙ and_assoc (formula_lacks c g) (each_lacks c fs) (formula_lacks c f)
  where
    and_assoc : (x y z : Bool) → x && (y && z) ≡ (x && y) && z
    and_assoc true y z = refl
    and_assoc false y z = refl

module _ (consts : ℕ) where
  pub none_marked : AreMarks consts [] []
  none_marked = record {
    stands = λ n c h. none n c;
    descend = tt;
  }
    where
      none : (n c : ℕ) → stands_before n c [] ≡ not (each_lacks c (take n []))
      none zero c = refl
      none (suc n) c = refl

  -- the marks of all formulas
  all_marked : (ms : List Mark) (fs : List Fm) → AreMarks consts ms fs
      → (c : ℕ) → consts ≤ c → is_marked c ms ≡ not (each_lacks c fs)
  all_marked ms fs k c h =
      sym (all_before (length fs) (length fs) c ms k.descend (omega arith))
      ∙ k.stands (length fs) c h
      ∙ ap (λ xs. not (each_lacks c xs)) (take_all (length fs) fs (omega arith))

  new_is : (ms : List Mark) (fs : List Fm) → AreMarks consts ms fs → (c : ℕ)
      → leb consts c && not (is_marked c ms) ≡ leb consts c && each_lacks c fs
  new_is ms fs k c = go (leb consts c) refl
    where
      go : (b : Bool) → leb consts c ≡ b → b && not (is_marked c ms) ≡ b && each_lacks c fs
      go true e = ap not (all_marked ms fs k c (leb-true consts c e)) ∙ not_twice (each_lacks c fs)
      go false e = refl

  pub new_past : (ms : List Mark) (fs : List Fm) → AreMarks consts ms fs → (c : ℕ) → consts ≤ c
      → not (is_marked c ms) ≡ leb consts c && each_lacks c fs
  new_past ms fs k c h =
      ap (λ b. b && not (is_marked c ms)) (sym (le-leb consts c h)) ∙ new_is ms fs k c

  pub marks_added : (ms : List Mark) (fs : List Fm) (f : Fm) → AreMarks consts ms fs
      → AreMarks consts (with_formula consts (length fs) f ms) (fs ++ f ∷ [])
  marks_added ms fs f k = record {
    stands = λ n c h. go n c h (cases_lt (length fs) n);
    descend = weaker (suc (length fs)) (length (fs ++ f ∷ [])) new below (omega (arith, longer));
  }
    where
      new : List Mark
      new = with_formula consts (length fs) f ms

      longer : length (fs ++ f ∷ []) ≡ length fs + 1
      longer = length-append fs (f ∷ [])

      adds : Adds consts (length fs) (λ c. formula_lacks c f) ms new
      adds = adds_formula consts (length fs) f ms

      below : Descend (suc (length fs)) new
      below = adds.descend (weaker (length fs) (suc (length fs)) ms k.descend (omega arith))

      go : (n c : ℕ) → consts ≤ c → (length fs < n) ⊎ (n ≤ length fs)
          → stands_before n c new ≡ not (each_lacks c (take n (fs ++ f ∷ [])))
      go n c h (inl l) =
          all_before (suc (length fs)) n c new below (omega arith) ∙ adds.marked c h
          ∙ ap (λ b. b || not (formula_lacks c f)) (all_marked ms fs k c h)
          ∙ nots (each_lacks c fs) (formula_lacks c f)
          ∙ ap not (sym (lacks_behind c fs f))
          ∙ ap (λ xs. not (each_lacks c xs))
          (sym (take_all n (fs ++ f ∷ []) (omega (arith, longer))))
      go n c h (inr l) =
          adds.same n c l ∙ k.stands n c h
          ∙ ap (λ xs. not (each_lacks c xs)) (sym (take-append-le n fs (f ∷ []) l))

-- # Marks that are dropped

dropped_below : (n k : ℕ) (ms : List Mark) → Descend k ms → n ≤ k → Descend n (dropped n ms)
dropped_below n k [] h l = tt
dropped_below n k (m ∷ ms) h l =
    go (leb n m.place) refl (λ g. dropped_below n (suc m.place) ms h.1 g)
  where
    go : (b : Bool) → leb n m.place ≡ b → (n ≤ suc m.place → Descend n (dropped n ms))
        → Descend n (cond b (dropped n ms) (m ∷ ms))
    go true e rest = let a = leb-true n m.place e in rest (omega arith)
    go false e rest = (leb-false n m.place e, h.1)

dropped_same : (n k c : ℕ) (ms : List Mark) → k ≤ n
    → stands_before k c (dropped n ms) ≡ stands_before k c ms
dropped_same n k c [] l = refl
dropped_same n k c (m ∷ ms) l = go (leb n m.place) refl (dropped_same n k c ms l)
  where
    go : (b : Bool) → leb n m.place ≡ b
        → stands_before k c (dropped n ms) ≡ stands_before k c ms
        → stands_before k c (cond b (dropped n ms) (m ∷ ms)) ≡ stands_before k c (m ∷ ms)
    go true e rest =
        let a = leb-true n m.place e in
        rest
        ∙ sym (and_false_or (eqb c m.number) (ltb m.place k) (stands_before k c ms)
        (le-ltb m.place k (omega arith)))
    go false e rest = refl

pub marks_dropped : (consts n : ℕ) (ms : List Mark) (fs : List Fm) → n ≤ length fs
    → AreMarks consts ms fs → AreMarks consts (dropped n ms) (take n fs)
marks_dropped consts n ms fs h k = record {
  stands = λ i c l. go i c l (cases_lt n i);
  descend = weaker n (length (take n fs)) (dropped n ms) below (omega (arith, short));
}
  where
    short : length (take n fs) ≡ n
    short = length-take-le n fs h

    below : Descend n (dropped n ms)
    below = dropped_below n (length fs) ms k.descend h

    go : (i c : ℕ) → consts ≤ c → (n < i) ⊎ (i ≤ n)
        → stands_before i c (dropped n ms) ≡ not (each_lacks c (take i (take n fs)))
    go i c l (inl g) =
        all_before n i c (dropped n ms) below (omega arith)
        ∙ sym (all_before n n c (dropped n ms) below (omega arith))
        ∙ dropped_same n n c ms (omega arith) ∙ k.stands n c l
        ∙ ap (λ xs. not (each_lacks c xs)) (sym (take_all i (take n fs) (omega (arith, short))))
    go i c l (inr g) =
        dropped_same n i c ms g ∙ k.stands i c l
        ∙ ap (λ xs. not (each_lacks c xs)) (sym (take-take i n fs g))
