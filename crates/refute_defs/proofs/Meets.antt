-- What the function of children gives, the relation allows.
use Rattle.std.proofs.Common.{◌≡◌, ◌≢◌, ℕ, zero, suc, ℤ, pos, ◌+ℤ◌, ◌<ℤ◌, List, [], ◌∷◌, Bool, true, not, eqb, Some, refl, ap, ap₂, sym, ◌∙◌, subst, true≢false, eqb-true, eq-eqb, leb-true, arith}
use Rattle.std.specs.Prelude.{int_lt}
use Rattle.std.specs.Ordering.{int_eq}
use Rattle.std.specs.Str.{bytes_eq}
use Rattle.std.proofs.lemmas.Int.{ints}
use Rattle.std.proofs.lemmas.Bool.{and_parts}
use Rattle.std.proofs.lemmas.Option.{same_Some}
use Rattle.rp_logic.specs.Terms.{Tm, Tms, Int, Str, Con, Sel, Plus, no_tm, also_tm, At}
use Rattle.rp_logic.specs.Formulas.{Fm, Lit}
use Rattle.rp_logic.specs.Signatures.{Signature}
use Rattle.rp_logic.proofs.SortLaws.{HasOneIntAndStr, atom_exact}
use Rattle.refute_defs.specs.Uses.{Use}
use Rattle.refute_defs.specs.Parts.{nth_tm, args, atom_args, atom_with, equal, at_most}
use Rattle.refute_defs.specs.Additions.{Addition, one_child}
use Rattle.refute_defs.specs.Branches.{Branch}
use Rattle.refute_defs.specs.Children.{equality_at, order_at, chain, other_sides, built_sides_at, are_different, selected, order_of_sum, difference}
use Rattle.refute_defs.specs.Numbers.{fits, within}
use Rattle.refute_defs.specs.NewTerms.{IsTerm, declared_sort}
use Rattle.refute_defs.specs.Children as child
use Rattle.refute_defs.specs.Rules.{Names, Stands, Equalities, Chain, Step}
use Rattle.refute_defs.specs.Rules as rule
use Rattle.rp_logic.proofs.Options.{and_then, mapped, tested, either}
use Rattle.refute_defs.proofs.SameTerms.{tm_is, int_itself, text_itself, same_int}
use Rattle.refute_defs.proofs.Named as names
use Rattle.refute_defs.proofs.Forms as form

-- # Formulas at places

equality_stands : (b : Branch) (p : ℕ) (e : Tm × Tm) → equality_at b p ≡ Some e
    → Stands b p (equal e.0 e.1)
equality_stands b p e h = let a = and_then _ _ _ h in a.1 ∙ ap Some (form.is_equal a.0 e a.2)

order_stands : (b : Branch) (p : ℕ) (o : Tm × Tm × ℤ) → order_at true b p ≡ Some o
    → Stands b p (at_most o.0 o.1 o.2)
order_stands b p o h = let a = and_then _ _ _ h in a.1 ∙ ap Some (form.is_order a.0 o a.2)

within_is : (n k : ℤ) → within n ≡ Some k → (fits n ≡ true) × (n ≡ k)
within_is n k h = let t = tested _ _ _ h in (t.0, same_Some n k t.1)

-- an order whose number is within 128 bits
bounded : (x y : Tm) (k : ℤ) (f : Fm) → child.at_most_within x y k ≡ Some f
    → (fits k ≡ true) × (at_most x y k ≡ f)
bounded x y k f h =
    let m = mapped _ _ _ h in
    let w = within_is k m.0 m.1 in
    (w.0, ap (at_most x y) w.1 ∙ m.2)

-- # Equalities of arguments

sides_stand : (b : Branch) (ps : List ℕ) (ts us : Tms) → other_sides b ps ts ≡ Some us
    → Equalities b ps ts us
sides_stand b [] no_tm us h = subst (λ x. Equalities b [] no_tm x) (same_Some no_tm us h) tt
sides_stand b [] (also_tm t ts) us h = absurd cc
sides_stand b (p ∷ ps) no_tm us h = absurd cc
sides_stand b (p ∷ ps) (also_tm t ts) us h =
    let a = and_then _ _ _ h in
    let m = mapped _ _ _ a.2 in
    let s = and_then _ _ _ a.1 in
    let q = tested _ _ _ s.2 in
    let stands : Stands b p (equal t a.0) = equality_stands b p s.0 s.1 ∙ ap Some (ap₂ equal (sym (tm_is t s.0.0 q.0)) (same_Some _ _ q.1)) in
    let rest = sides_stand b ps ts m.0 m.1 in
    subst (λ x. Equalities b (p ∷ ps) (also_tm t ts) x) m.2 (stands, rest)

first_literal : (b : Branch) (ps : List ℕ) (f : Fm) → child.literal_at_first b ps ≡ Some f
    → (p : ℕ) × (qs : List ℕ) × (x : Bool × At) × (us : Tms) × (ps ≡ p ∷ qs) × Stands b p (Lit x.0 x.1) × Equalities b qs (atom_args x.1) us × (Lit x.0 (atom_with x.1 us) ≡ f)
first_literal b [] f h = absurd cc
first_literal b (p ∷ ps) f h =
    let a = and_then _ _ _ h in
    let c = and_then _ _ _ a.1 in
    let m = mapped _ _ _ a.2 in
    (p, ps, a.0, m.0, refl, c.1 ∙ ap Some (form.is_lit c.0 a.0 c.2), sides_stand b ps (atom_args a.0.1) m.0 m.1, m.2)

-- # Constructors

built_stand : (b : Branch) (p : ℕ) (e : (ℕ × Tms) × (ℕ × Tms)) → built_sides_at b p ≡ Some e
    → Stands b p (equal (Con e.0.0 e.0.1) (Con e.1.0 e.1.1))
built_stand b p e h =
    let a = and_then _ _ _ h in
    let x = and_then _ _ _ a.2 in
    let y = mapped _ _ _ x.2 in
    subst (λ z. Stands b p (equal (Con z.0.0 z.0.1) (Con z.1.0 z.1.1))) y.2
    (equality_stands b p a.0 a.1 ∙ ap Some (ap₂ equal (form.is_con a.0.0 x.0 x.1) (form.is_con a.0.1 y.0 y.1)))

differ : (c d : ℕ) → not (eqb c d) ≡ true → c ≢ d
differ c d h e = let g : eqb c d ≡ true = eq-eqb c d e in true≢false (sym (sym (ap not g) ∙ h))

differ_int : (m n : ℤ) → not (int_eq m n) ≡ true → m ≢ n
differ_int m n h e =
    let g : int_eq m n ≡ true = subst (λ x. int_eq m x ≡ true) e (int_itself m) in
    true≢false (sym (sym (ap not g) ∙ h))

differ_text : (a c : List ℕ) → not (bytes_eq a c) ≡ true → a ≢ c
differ_text a c h e =
    let g : bytes_eq a c ≡ true = subst (λ x. bytes_eq a x ≡ true) e (text_itself a) in
    true≢false (sym (sym (ap not g) ∙ h))

selected_is : (t x : Tm) → selected t ≡ Some x
    → (c i : ℕ) × (ts : Tms) × (t ≡ Sel c i (Con c ts)) × (nth_tm ts i ≡ Some x)
selected_is (Sel c i t) x h =
    let a = and_then _ _ _ h in
    let q = tested _ _ _ a.2 in
    let same : a.0.0 ≡ c = sym (eqb-true c a.0.0 q.0) in
    (c, i, a.0.1, ap (Sel c i) (form.is_con t a.0 a.1 ∙ ap (λ d. Con d a.0.1) same), q.1)
selected_is _ x h = absurd cc

-- # Chains

chain_is : (b : Branch) (ps : List ℕ) (a c : Tm) (sum total : ℤ) → chain b ps a c sum ≡ Some total
    → Chain b ps a c sum total
chain_is b [] a c sum total h = let q = tested _ _ _ h in (tm_is a c q.0, sym (same_Some _ _ q.1))
chain_is b (p ∷ ps) a c sum total h =
    let x = and_then _ _ _ h in
    let o = and_then _ _ _ x.1 in
    let q = tested _ _ _ o.2 in
    let m = mapped _ _ _ q.1 in
    let w = within_is _ _ m.1 in
    let rest = chain_is b ps x.0.0 c x.0.1 total x.2 in
    let pair : (o.0.1, sum +ℤ o.0.2) ≡ x.0 = ap (λ k. (o.0.1, k)) w.1 ∙ m.2 in (
      o.0.1,
      o.0.2,
      order_stands b p o.0 o.1 ∙ ap (λ y. Some (at_most y o.0.1 o.0.2)) (sym (tm_is a o.0.0 q.0)),
      w.0,
      subst (λ z. Chain b ps z.0 c z.1 total) (sym pair) rest,
    )

around_is : (b : Branch) (ps : List ℕ) (total : ℤ) → child.sum_around b ps ≡ Some total
    → (a : Tm) × Chain b ps a a (pos 0) total
around_is b [] total h = absurd cc
around_is b (p ∷ ps) total h =
    let o = and_then (λ x. chain b (p ∷ ps) x.0 x.0 (pos 0)) (order_at true b p) total h in
    (o.0.0, chain_is b (p ∷ ps) o.0.0 o.0.0 (pos 0) total o.2)

negative : (k : ℤ) → int_lt k (pos 0) ≡ true → k <ℤ pos 0
negative k h = grind (arith, ints)

-- # Propositions and quantifiers

module _ (S : Signature) (one : HasOneIntAndStr S) (b : Branch) (u : Use) (adds : List Addition) where
  part : u.rule ≡ 1 → child.part b u ≡ Some adds → Step S b u adds
  part r e =
      let m = mapped _ _ _ e in
      let a = and_then _ _ _ m.1 in
      let c = and_then _ _ _ a.2 in
      let d = and_then _ _ _ c.1 in
      rule.part a.0 c.0 m.0 (names.by_place_and_pick u 1 a.0 r a.1) (d.1 ∙ ap Some (form.is_and d.0 c.0 d.2)) c.2 (sym m.2)

  split : u.rule ≡ 2 → child.split b u ≡ Some adds → Step S b u adds
  split r e =
      let m = mapped _ _ _ e in
      let a = and_then _ _ _ m.1 in
      let d = and_then _ _ _ a.2 in
      rule.split a.0 m.0 (names.by_place u 2 a.0 r a.1) (d.1 ∙ ap Some (form.is_or d.0 m.0 d.2)) (sym m.2)

  instantiate : u.rule ≡ 3 → child.instantiate S b u ≡ Some adds → Step S b u adds
  instantiate r e =
      let m = mapped _ _ _ e in
      let a = and_then _ _ _ m.1 in
      let c = and_then _ _ _ a.2 in
      let d = and_then _ _ _ c.1 in
      let t = tested _ _ _ c.2 in
      rule.instantiate a.0.0 c.0.0 a.0.1 c.0.1 (names.by_place_and_term u 3 a.0 r a.1) (d.1 ∙ ap Some (form.is_all d.0 c.0 d.2)) t.0
      (sym m.2 ∙ ap one_child (same_Some _ _ (sym t.1)))

  new_constant : u.rule ≡ 4 → child.new_constant S b u ≡ Some adds → Step S b u adds
  new_constant r e =
      let a = and_then _ _ _ e in
      let c = and_then _ _ _ a.2 in
      let d = and_then _ _ _ c.2 in
      let g = and_then _ _ _ d.1 in
      let t = tested _ _ _ d.2 in
      let n = and_parts _ _ t.0 in
      rule.new_constant a.0.0 d.0.0 c.0 d.0.1
      (subst (λ x. Names u 4 (a.0.0 ∷ []) (x ∷ []) [] 0) (form.is_const a.0.1 c.0 c.1) (names.by_place_and_term u 4 a.0 r a.1))
      (g.1 ∙ ap Some (form.is_ex g.0 d.0 g.2)) (leb-true _ _ n.0) n.1 (sym (same_Some _ _ t.1))

  cut : u.rule ≡ 5 → child.cut S b u ≡ Some adds → Step S b u adds
  cut r e =
      let a = and_then _ _ _ e in
      let t = tested _ _ _ a.2 in
      rule.cut a.0 (names.by_atom u 5 a.0 r a.1) ((atom_exact a.0 S one b.added []).0 t.0) (sym (same_Some _ _ t.1))

  clash : u.rule ≡ 6 → child.clash b u ≡ Some adds → Step S b u adds
  clash r e =
      let a = and_then _ _ _ e in
      let c = and_then _ _ _ a.2 in
      let d = and_then _ _ _ c.2 in
      let t = tested _ _ _ d.2 in
      let o = form.opposite c.0 d.0 t.0 in
      rule.clash a.0.0 a.0.1 o.0 o.1 (names.by_two_places u 6 a.0 r a.1) (c.1 ∙ ap Some o.2) (d.1 ∙ ap Some o.3) (sym (same_Some _ _ t.1))

  -- # Equality

  reflexive : u.rule ≡ 7 → child.reflexive S b u ≡ Some adds → Step S b u adds
  reflexive r e =
      let m = mapped _ _ _ e in
      let a = and_then _ _ _ m.1 in
      let t = tested _ _ _ a.2 in
      rule.reflexive a.0 (names.by_term u 7 a.0 r a.1) (form.term_is S b a.0 t.0) (sym m.2 ∙ ap one_child (same_Some _ _ (sym t.1)))

  symmetric : u.rule ≡ 8 → child.symmetric b u ≡ Some adds → Step S b u adds
  symmetric r e =
      let m = mapped _ _ _ e in
      let a = mapped _ _ _ m.1 in
      let c = and_then _ _ _ a.1 in
      rule.symmetric c.0 a.0.0 a.0.1 (names.by_place u 8 c.0 r c.1) (equality_stands b c.0 a.0 c.2) (sym m.2 ∙ ap one_child (sym a.2))

  transitive : u.rule ≡ 9 → child.transitive b u ≡ Some adds → Step S b u adds
  transitive r e =
      let m = mapped _ _ _ e in
      let a = and_then _ _ _ m.1 in
      let c = and_then _ _ _ a.2 in
      let d = and_then _ _ _ c.2 in
      let t = tested _ _ _ d.2 in
      rule.transitive a.0.0 a.0.1 c.0.0 c.0.1 d.0.1 (names.by_two_places u 9 a.0 r a.1) (equality_stands b a.0.0 c.0 c.1)
      (subst (λ x. Stands b a.0.1 (equal x d.0.1)) (sym (tm_is c.0.1 d.0.0 t.0)) (equality_stands b a.0.1 d.0 d.1))
      (sym m.2 ∙ ap one_child (same_Some _ _ (sym t.1)))

  congruent_term : u.rule ≡ 10 → child.congruent_term S b u ≡ Some adds → Step S b u adds
  congruent_term r e =
      let m = mapped _ _ _ e in
      let a = and_then _ _ _ m.1 in
      let t = tested _ _ _ a.2 in
      let n = and_parts _ _ t.0 in
      let s = mapped _ _ _ t.1 in
      rule.congruent_term a.0 s.0 (names.by_term_with_places u 10 a.0 r a.1) (form.term_is S b a.0 n.0) n.1
      (sides_stand b u.places (args a.0) s.0 s.1) (sym m.2 ∙ ap one_child (sym s.2))

  congruent_literal : u.rule ≡ 11 → child.congruent_literal b u ≡ Some adds → Step S b u adds
  congruent_literal r e =
      let m = mapped _ _ _ e in
      let a = and_then _ _ _ m.1 in
      let l = first_literal b a.0 m.0 a.2 in
      rule.congruent_literal l.0 l.1 l.2.0 l.2.1 l.3
      (subst (λ ps. Names u 11 ps [] [] 0) l.4 (names.by_places u 11 a.0 r a.1)) l.5 l.6 (sym m.2 ∙ ap one_child (sym l.7))

  -- # Constructors and literals of sorts

  constructor_clash : u.rule ≡ 12 → child.constructor_clash b u ≡ Some adds → Step S b u adds
  constructor_clash r e =
      let a = and_then _ _ _ e in
      let c = and_then _ _ _ a.2 in
      let t = tested _ _ _ c.2 in
      rule.constructor_clash a.0 c.0.0.0 c.0.1.0 c.0.0.1 c.0.1.1 (names.by_place u 12 a.0 r a.1) (built_stand b a.0 c.0 c.1)
      (differ c.0.0.0 c.0.1.0 t.0) (sym (same_Some _ _ t.1))

  injective : u.rule ≡ 13 → child.injective b u ≡ Some adds → Step S b u adds
  injective r e =
      let m = mapped _ _ _ e in
      let a = and_then _ _ _ m.1 in
      let c = and_then _ _ _ a.2 in
      let t = tested _ _ _ c.2 in
      let x = and_then _ _ _ t.1 in
      let y = mapped _ _ _ x.2 in
      rule.injective a.0 c.0.0.0 c.0.0.1 c.0.1.1 x.0 y.0 (names.by_place_and_pick u 13 a.0 r a.1)
      (subst (λ d. Stands b a.0 (equal (Con c.0.0.0 c.0.0.1) (Con d c.0.1.1))) (sym (eqb-true c.0.0.0 c.0.1.0 t.0)) (built_stand b a.0 c.0 c.1))
      x.1 y.1 (sym m.2 ∙ ap one_child (sym y.2))

  cases : u.rule ≡ 14 → child.cases S b u ≡ Some adds → Step S b u adds
  cases r e =
      let a = and_then _ _ _ e in
      let m = mapped _ _ _ a.2 in
      let d = form.declared_is S b a.0 _ (form.is_data (declared_sort S b a.0) m.0 m.1) in
      rule.cases a.0 d.0 m.0 (names.by_term u 14 a.0 r a.1) d.1 d.2 (sym m.2)

  selector : u.rule ≡ 15 → child.selector S b u ≡ Some adds → Step S b u adds
  selector r e =
      let m = mapped _ _ _ e in
      let a = and_then _ _ _ m.1 in
      let t = tested _ _ _ a.2 in
      let x = mapped _ _ _ t.1 in
      let s = selected_is a.0 x.0 x.1 in
      rule.selector s.0 s.1 s.2 x.0 (subst (λ z. Names u 15 [] (z ∷ []) [] 0) s.3 (names.by_term u 15 a.0 r a.1))
      (subst (IsTerm S b) s.3 (form.term_is S b a.0 t.0)) s.4 (sym m.2 ∙ ap one_child (sym x.2 ∙ ap (λ z. equal z x.0) s.3))

  literals_clash : (p : ℕ) (x y : Tm) → Names u 16 (p ∷ []) [] [] 0 → Stands b p (equal x y)
      → are_different x y ≡ true → adds ≡ [] → Step S b u adds
  literals_clash p (Int k) (Int l) n at h e = rule.number_clash p k l n at (differ_int k l h) e
  literals_clash p (Str k) (Str l) n at h e = rule.text_clash p k l n at (differ_text k l h) e
  literals_clash p _ _ n at h e = absurd (true≢false (sym h))

  literal_clash : u.rule ≡ 16 → child.literal_clash b u ≡ Some adds → Step S b u adds
  literal_clash r e =
      let a = and_then _ _ _ e in
      let c = and_then _ _ _ a.2 in
      let t = tested _ _ _ c.2 in
      literals_clash a.0 c.0.0 c.0.1 (names.by_place u 16 a.0 r a.1) (equality_stands b a.0 c.0 c.1) t.0 (sym (same_Some _ _ t.1))

  -- # Order

  cycle : u.rule ≡ 17 → child.cycle b u ≡ Some adds → Step S b u adds
  cycle r e =
      let a = and_then _ _ _ e in
      let x = and_then _ _ _ a.2 in
      let t = tested _ _ _ x.2 in
      let n = names.by_places u 17 a.0 r a.1 in
      let c = around_is b a.0 x.0 x.1 in
      rule.cycle c.0 x.0 (subst (λ ps. Names u 17 ps [] [] 0) (sym n.places) n) (subst (λ ps. Chain b ps c.0 c.0 (pos 0) x.0) (sym n.places) c.1)
      (negative x.0 t.0) (sym (same_Some _ _ t.1))

  turned_order : u.rule ≡ 18 → child.turned_order b u ≡ Some adds → Step S b u adds
  turned_order r e =
      let m = mapped _ _ _ e in
      let a = and_then _ _ _ m.1 in
      let o = and_then _ _ _ a.2 in
      let d = and_then _ _ _ o.1 in
      let w = bounded _ _ _ _ o.2 in
      rule.turned_order a.0 o.0.0 o.0.1 o.0.2 (names.by_place u 18 a.0 r a.1) (d.1 ∙ ap Some (form.is_no_order d.0 o.0 d.2)) w.0
      (sym m.2 ∙ ap one_child (sym w.1))

  order_of_equals : u.rule ≡ 19 → child.order_of_equals S b u ≡ Some adds → Step S b u adds
  order_of_equals r e =
      let m = mapped _ _ _ e in
      let a = and_then _ _ _ m.1 in
      let c = and_then _ _ _ a.2 in
      let t = tested _ _ _ c.2 in
      rule.order_of_equals a.0 c.0.0 c.0.1 (names.by_place u 19 a.0 r a.1) (equality_stands b a.0 c.0 c.1) (form.number_is S b c.0.0 t.0)
      (sym m.2 ∙ ap one_child (same_Some _ _ (sym t.1)))

  both_orders : (p q : ℕ) (o s : Tm × Tm × ℤ) (f : Fm) → Names u 20 (p ∷ q ∷ []) [] [] 0
      → Stands b p (at_most o.0 o.1 o.2) → Stands b q (at_most s.0 s.1 s.2)
      → child.both_orders o s ≡ Some f → adds ≡ one_child f → Step S b u adds
  both_orders p q o s f n at bt h e =
      let t = tested _ _ _ h in
      let three = and_parts _ _ t.0 in
      let two = and_parts _ _ three.0 in
      let zeros = and_parts _ _ two.0 in
      rule.equals_by_order p q o.0 o.1 n
      (subst (λ k. Stands b p (at_most o.0 o.1 k)) (same_int o.2 (pos 0) zeros.0) at)
      (bt ∙ ap (λ k. Some (at_most s.0 s.1 k)) (same_int s.2 (pos 0) zeros.1)
      ∙ ap₂ (λ x y. Some (at_most x y (pos 0))) (sym (tm_is o.1 s.0 three.1)) (sym (tm_is o.0 s.1 two.1)))
      (e ∙ ap one_child (same_Some _ _ (sym t.1)))

  equals_by_order : u.rule ≡ 20 → child.equals_by_order b u ≡ Some adds → Step S b u adds
  equals_by_order r e =
      let m = mapped _ _ _ e in
      let a = and_then _ _ _ m.1 in
      let o = and_then _ _ _ a.2 in
      let s = and_then _ _ _ o.2 in
      both_orders a.0.0 a.0.1 o.0 s.0 m.0 (names.by_two_places u 20 a.0 r a.1) (order_stands b a.0.0 o.0 o.1) (order_stands b a.0.1 s.0 s.1) s.2 (sym m.2)

  sum_bounds : (i : ℕ) (t : Tm) (f : Fm) → Names u 21 [] (t ∷ []) [] i → IsTerm S b t
      → order_of_sum i t ≡ Some f → adds ≡ one_child f → Step S b u adds
  sum_bounds zero (Plus t k) f n h g e =
      rule.sum_above t k n h (e ∙ ap one_child (same_Some _ _ (sym g)))
  sum_bounds (suc zero) (Plus t k) f n h g e =
      let w = bounded _ _ _ _ g in
      rule.sum_below t k n h w.0 (e ∙ ap one_child (sym w.1))
  sum_bounds _ _ f n h g e = absurd cc

  plus : u.rule ≡ 21 → child.plus S b u ≡ Some adds → Step S b u adds
  plus r e =
      let m = mapped _ _ _ e in
      let a = and_then _ _ _ m.1 in
      let t = tested _ _ _ a.2 in
      sum_bounds u.pick a.0 m.0 (names.by_term_and_pick u 21 a.0 r a.1) (form.term_is S b a.0 t.0) t.1 (sym m.2)

  differences : (x y : Tm) (f : Fm) → Names u 22 [] (x ∷ y ∷ []) [] 0 → IsTerm S b x → IsTerm S b y
      → difference x y ≡ Some f → adds ≡ one_child f → Step S b u adds
  differences (Int k) (Int l) f n h i g e =
      let w = bounded _ _ _ _ g in
      rule.numbers k l n h i w.0 (e ∙ ap one_child (sym w.1))
  differences _ _ f n h i g e = absurd cc

  numbers : u.rule ≡ 22 → child.numbers S b u ≡ Some adds → Step S b u adds
  numbers r e =
      let m = mapped _ _ _ e in
      let a = and_then _ _ _ m.1 in
      let t = tested _ _ _ a.2 in
      let n = and_parts _ _ t.0 in
      differences a.0.0 a.0.1 m.0 (names.by_two_terms u 22 a.0 r a.1) (form.term_is S b a.0.0 n.0) (form.term_is S b a.0.1 n.1) t.1 (sym m.2)

  -- # All rules

  pub meets : child.children S b u ≡ Some adds → Step S b u adds
  meets e1 =
      let is : (k : ℕ) → eqb u.rule k ≡ true → u.rule ≡ k = λ k h. eqb-true u.rule k h in
      either _ _ _ _ e1 (λ h. part (is 1 h)) (λ e2.
      either _ _ _ _ e2 (λ h. split (is 2 h)) (λ e3.
      either _ _ _ _ e3 (λ h. instantiate (is 3 h)) (λ e4.
      either _ _ _ _ e4 (λ h. new_constant (is 4 h)) (λ e5.
      either _ _ _ _ e5 (λ h. cut (is 5 h)) (λ e6.
      either _ _ _ _ e6 (λ h. clash (is 6 h)) (λ e7.
      either _ _ _ _ e7 (λ h. reflexive (is 7 h)) (λ e8.
      either _ _ _ _ e8 (λ h. symmetric (is 8 h)) (λ e9.
      either _ _ _ _ e9 (λ h. transitive (is 9 h)) (λ e10.
      either _ _ _ _ e10 (λ h. congruent_term (is 10 h)) (λ e11.
      either _ _ _ _ e11 (λ h. congruent_literal (is 11 h)) (λ e12.
      either _ _ _ _ e12 (λ h. constructor_clash (is 12 h)) (λ e13.
      either _ _ _ _ e13 (λ h. injective (is 13 h)) (λ e14.
      either _ _ _ _ e14 (λ h. cases (is 14 h)) (λ e15.
      either _ _ _ _ e15 (λ h. selector (is 15 h)) (λ e16.
      either _ _ _ _ e16 (λ h. literal_clash (is 16 h)) (λ e17.
      either _ _ _ _ e17 (λ h. cycle (is 17 h)) (λ e18.
      either _ _ _ _ e18 (λ h. turned_order (is 18 h)) (λ e19.
      either _ _ _ _ e19 (λ h. order_of_equals (is 19 h)) (λ e20.
      either _ _ _ _ e20 (λ h. equals_by_order (is 20 h)) (λ e21.
      either _ _ _ _ e21 (λ h. plus (is 21 h)) (λ e22.
      either _ _ _ _ e22 (λ h. numbers (is 22 h)) (λ none. absurd cc))))))))))))))))))))))
