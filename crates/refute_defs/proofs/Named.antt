-- What a node names, found by its shape, and the other way.
use Rattle.std.proofs.Common.{◌≡◌, ℕ, List, [], ◌∷◌, length, eqb, true, Some, refl, ap, ◌∙◌, eqb-true, arith}
use Rattle.std.proofs.lemmas.Bool.{and_parts}
use Rattle.std.proofs.lemmas.Option.{same_Some}
use Rattle.rp_logic.specs.Terms.{Tm, At}
use Rattle.refute_defs.specs.Uses.{Use}
use Rattle.refute_defs.specs.Shapes.{only, only_two, place_and_pick, the_places, the_place, two_places, place_and_term, term_with_places, term_and_pick, the_term, two_terms, the_atom}
use Rattle.refute_defs.specs.Rules.{Names}
use Rattle.rp_logic.proofs.Options.{and_then, mapped, tested}

empty : {A : Type 0} (xs : List A) → eqb (length xs) 0 ≡ true → xs ≡ []
empty [] e = refl
empty (x ∷ xs) e = let n = eqb-true (length (x ∷ xs)) 0 e in absurd (omega arith)

is_only : {A : Type 0} (xs : List A) (x : A) → only xs ≡ Some x → xs ≡ x ∷ []
is_only [] x e = absurd cc
is_only (y ∷ []) x e = ap (λ z. z ∷ []) (same_Some y x e)
is_only (y ∷ z ∷ xs) x e = absurd cc

are_two : {A : Type 0} (xs : List A) (x : A × A) → only_two xs ≡ Some x → xs ≡ x.0 ∷ x.1 ∷ []
are_two [] x e = absurd cc
are_two (y ∷ []) x e = absurd cc
are_two (y ∷ z ∷ []) x e = ap (λ w. w.0 ∷ w.1 ∷ []) (same_Some (y, z) x e)
are_two (y ∷ z ∷ w ∷ xs) x e = absurd cc

pub by_place_and_pick : (u : Use) (r p : ℕ) → u.rule ≡ r → place_and_pick u ≡ Some p
    → Names u r (p ∷ []) [] [] u.pick
by_place_and_pick u r p h e =
    let t = tested _ _ _ e in
    let n = and_parts _ _ t.0 in
    record { rule = h; places = is_only u.places p t.1; terms = empty u.terms n.0; atoms = empty u.atoms n.1; pick = refl }

pub by_places : (u : Use) (r : ℕ) (ps : List ℕ) → u.rule ≡ r → the_places u ≡ Some ps
    → Names u r ps [] [] 0
by_places u r ps h e =
    let t = tested _ _ _ e in
    let n = and_parts _ _ t.0 in
    let m = and_parts _ _ n.0 in
    record { rule = h; places = same_Some u.places ps t.1; terms = empty u.terms m.0; atoms = empty u.atoms m.1; pick = eqb-true u.pick 0 n.1 }

pub by_place : (u : Use) (r p : ℕ) → u.rule ≡ r → the_place u ≡ Some p → Names u r (p ∷ []) [] [] 0
by_place u r p h e =
    let a = and_then _ _ _ e in
    let n = by_places u r a.0 h a.1 in
    record { rule = h; places = n.places ∙ is_only a.0 p a.2; terms = n.terms; atoms = n.atoms; pick = n.pick }

pub by_two_places : (u : Use) (r : ℕ) (p : ℕ × ℕ) → u.rule ≡ r → two_places u ≡ Some p
    → Names u r (p.0 ∷ p.1 ∷ []) [] [] 0
by_two_places u r p h e =
    let a = and_then _ _ _ e in
    let n = by_places u r a.0 h a.1 in
    record { rule = h; places = n.places ∙ are_two a.0 p a.2; terms = n.terms; atoms = n.atoms; pick = n.pick }

pub by_place_and_term : (u : Use) (r : ℕ) (x : ℕ × Tm) → u.rule ≡ r → place_and_term u ≡ Some x
    → Names u r (x.0 ∷ []) (x.1 ∷ []) [] 0
by_place_and_term u r x h e =
    let t = tested _ _ _ e in
    let n = and_parts _ _ t.0 in
    let a = and_then _ _ _ t.1 in
    let m = mapped _ _ _ a.2 in
    record {
      rule = h;
      places = is_only u.places a.0 a.1 ∙ ap (λ y. y.0 ∷ []) m.2;
      terms = is_only u.terms m.0 m.1 ∙ ap (λ y. y.1 ∷ []) m.2;
      atoms = empty u.atoms n.0;
      pick = eqb-true u.pick 0 n.1;
    }

pub by_term_with_places : (u : Use) (r : ℕ) (t : Tm) → u.rule ≡ r → term_with_places u ≡ Some t
    → Names u r u.places (t ∷ []) [] 0
by_term_with_places u r t h e =
    let o = tested _ _ _ e in
    let n = and_parts _ _ o.0 in
    record { rule = h; places = refl; terms = is_only u.terms t o.1; atoms = empty u.atoms n.0; pick = eqb-true u.pick 0 n.1 }

pub by_term_and_pick : (u : Use) (r : ℕ) (t : Tm) → u.rule ≡ r → term_and_pick u ≡ Some t
    → Names u r [] (t ∷ []) [] u.pick
by_term_and_pick u r t h e =
    let o = tested _ _ _ e in
    let n = and_parts _ _ o.0 in
    record { rule = h; places = empty u.places n.0; terms = is_only u.terms t o.1; atoms = empty u.atoms n.1; pick = refl }

pub by_term : (u : Use) (r : ℕ) (t : Tm) → u.rule ≡ r → the_term u ≡ Some t
    → Names u r [] (t ∷ []) [] 0
by_term u r t h e =
    let o = tested _ _ _ e in
    let n = by_term_and_pick u r t h o.1 in
    record { rule = h; places = n.places; terms = n.terms; atoms = n.atoms; pick = eqb-true u.pick 0 o.0 }

pub by_two_terms : (u : Use) (r : ℕ) (x : Tm × Tm) → u.rule ≡ r → two_terms u ≡ Some x
    → Names u r [] (x.0 ∷ x.1 ∷ []) [] 0
by_two_terms u r x h e =
    let o = tested _ _ _ e in
    let n = and_parts _ _ o.0 in
    let m = and_parts _ _ n.0 in
    record { rule = h; places = empty u.places m.0; terms = are_two u.terms x o.1; atoms = empty u.atoms m.1; pick = eqb-true u.pick 0 n.1 }

pub by_atom : (u : Use) (r : ℕ) (a : At) → u.rule ≡ r → the_atom u ≡ Some a
    → Names u r [] [] (a ∷ []) 0
by_atom u r a h e =
    let o = tested _ _ _ e in
    let n = and_parts _ _ o.0 in
    let m = and_parts _ _ n.0 in
    record { rule = h; places = empty u.places m.0; terms = empty u.terms m.1; atoms = is_only u.atoms a o.1; pick = eqb-true u.pick 0 n.1 }

abbrev pub use_of : ℕ → List ℕ → List Tm → List At → ℕ → Use
use_of r ps ts ats i = record { rule = r; places = ps; terms = ts; atoms = ats; pick = i }

-- a node is known by what it names
pub named : (u : Use) (r : ℕ) (ps : List ℕ) (ts : List Tm) (ats : List At) (i : ℕ)
    → Names u r ps ts ats i → u ≡ use_of r ps ts ats i
named u r ps ts ats i n = λ j. use_of (n.rule j) (n.places j) (n.terms j) (n.atoms j) (n.pick j)
