-- Parameters beside what they stand for: what holds of each, and sums over all.
use Rattle.std.proofs.Common.{◌≡◌, ◌≤◌, ◌+◌, ℕ, zero, suc, List, [], ◌∷◌, take, Option, Some, None, slice_get, slice_set, replicate, refl, ap, sym, subst, ◌∙◌, arith}
use Rattle.rp_lang.specs.Exprs.{Ex}
use Rattle.query_bodies.specs.declared.bodies.Standing.{Standing}
use Rattle.query_bodies.specs.Expanded.{Given, given_at}
use Rattle.query_bodies.specs.Measures.{nowhere}

-- of each parameter with what it stands for, where that is given
abbrev pub OnEach : (Option Ex → Standing → Type 0) → Given → List Standing → Type 0
OnEach R g [] = Unit {0}
OnEach R [] (s ∷ ss) = R None s × OnEach R [] ss
OnEach R (o ∷ g) (s ∷ ss) = R o s × OnEach R g ss

abbrev pub over_each : (Option Ex → Standing → ℕ) → Given → List Standing → ℕ
over_each f g [] = 0
over_each f [] (s ∷ ss) = f None s + over_each f [] ss
over_each f (o ∷ g) (s ∷ ss) = f o s + over_each f g ss

-- what is given is given for parameters
abbrev pub Covered : Given → List Standing → Type 0
Covered [] ss = Unit {0}
Covered (o ∷ g) [] = ⊥
Covered (o ∷ g) (s ∷ ss) = Covered g ss

pub covered_get : (g : Given) (ss : List Standing) (p : ℕ) (e : Ex) → Covered g ss → given_at g p ≡ Some e
    → (s : Standing) × (slice_get ss p ≡ Some s)
covered_get [] ss p e c is = absurd cc
covered_get (o ∷ g) [] p e c is = absurd c
covered_get (o ∷ g) (s ∷ ss) zero e c is = (s, refl)
covered_get (o ∷ g) (s ∷ ss) (suc p) e c is = covered_get g ss p e c is

pub covered_set : (g : Given) (ss : List Standing) (p : ℕ) (s : Standing) → Covered g ss → Covered g (slice_set ss p s)
covered_set [] ss p s c = tt
covered_set (o ∷ g) [] p s c = absurd c
covered_set (o ∷ g) (t ∷ ss) zero s c = c
covered_set (o ∷ g) (t ∷ ss) (suc p) s c = covered_set g ss p s c

pub covered_none : (n : ℕ) (g : Given) → Covered (take n g) (replicate n nowhere)
covered_none zero g = tt
covered_none (suc n) [] = tt
covered_none (suc n) (o ∷ g) = covered_none n g

module _ (R : Option Ex → Standing → Type 0) where
  pub each_at : (g : Given) (ss : List Standing) (p : ℕ) (e : Ex) (s : Standing) → given_at g p ≡ Some e → slice_get ss p ≡ Some s
      → OnEach R g ss → R (Some e) s
  each_at [] ss p e s is there all = absurd cc
  each_at (o ∷ g) [] p e s is there all = absurd cc
  each_at (o ∷ g) (t ∷ ss) zero e s is there all =
      subst (λ z. R (Some e) z) (cc) (subst (λ z. R z t) is all.0)
  each_at (o ∷ g) (t ∷ ss) (suc p) e s is there all = each_at g ss p e s is there all.1

  pub each_set : (g : Given) (ss : List Standing) (p : ℕ) (e : Ex) (s : Standing) → given_at g p ≡ Some e → OnEach R g ss
      → R (Some e) s
      → OnEach R g (slice_set ss p s)
  each_set [] ss p e s is all new = absurd cc
  each_set (o ∷ g) [] p e s is all new = tt
  each_set (o ∷ g) (t ∷ ss) zero e s is all new = (subst (λ z. R z s) (sym is) new, all.1)
  each_set (o ∷ g) (t ∷ ss) (suc p) e s is all new = (all.0, each_set g ss p e s is all.1 new)

  pub each_was : (g : Given) (ss : List Standing) (p : ℕ) (e : Ex) (old s : Standing) → given_at g p ≡ Some e
      → slice_get ss p ≡ Some old
      → OnEach R g (slice_set ss p s) → (R (Some e) s → R (Some e) old) → OnEach R g ss
  each_was [] ss p e old s is there all back = absurd cc
  each_was (o ∷ g) [] p e old s is there all back = tt
  each_was (o ∷ g) (t ∷ ss) zero e old s is there all back =
      let same : old ≡ t = cc in
      (subst (λ z. R z t) (sym is) (subst (λ z. R (Some e) z) same (back (subst (λ z. R z s) is all.0))), all.1)
  each_was (o ∷ g) (t ∷ ss) (suc p) e old s is there all back = (all.0, each_was g ss p e old s is there all.1 back)

  pub each_now : (g : Given) (ss : List Standing) (p : ℕ) (e : Ex) (old s : Standing) → given_at g p ≡ Some e
      → slice_get ss p ≡ Some old
      → OnEach R g (slice_set ss p s) → R (Some e) s
  each_now [] ss p e old s is there all = absurd cc
  each_now (o ∷ g) [] p e old s is there all = absurd cc
  each_now (o ∷ g) (t ∷ ss) zero e old s is there all = subst (λ z. R z s) is all.0
  each_now (o ∷ g) (t ∷ ss) (suc p) e old s is there all = each_now g ss p e old s is there all.1

  -- where it holds of what isn't given
  pub each_missing : ((s : Standing) → R None s) → (ss : List Standing) → OnEach R [] ss
  each_missing none [] = tt
  each_missing none (s ∷ ss) = (none s, each_missing none ss)

  pub each_nowhere : ((o : Option Ex) → R o nowhere) → (n : ℕ) (g : Given) → OnEach R g (replicate n nowhere)
  each_nowhere none zero g = tt
  each_nowhere none (suc n) [] = (none None, each_nowhere none n [])
  each_nowhere none (suc n) (o ∷ g) = (none o, each_nowhere none n g)

  -- with fewer given
  pub each_fewer : ((s : Standing) → R None s) → (n : ℕ) (g : Given) (ss : List Standing) → OnEach R g ss → OnEach R (take n g) ss
  each_fewer none n g [] all = tt
  each_fewer none zero g (s ∷ ss) all = (none s, each_missing none ss)
  each_fewer none (suc n) [] (s ∷ ss) all = (none s, each_missing none ss)
  each_fewer none (suc n) (o ∷ g) (s ∷ ss) all = (all.0, each_fewer none n g ss all.1)

-- a parameter that stands somewhere is given
abbrev pub Present : Option Ex → Standing → Type 0
Present None s = s.times ≡ 0
Present (Some e) s = Unit {0}

module _ (R : Option Ex → Standing → Type 0) (unused : (o : Option Ex) (s : Standing) → s.times ≡ 0 → R o s) where
  -- with all given, where those beyond stand nowhere
  all_unused : (g : Given) (ss : List Standing) → OnEach Present [] ss → OnEach R g ss
  all_unused g [] p = tt
  all_unused [] (s ∷ ss) p = (unused None s p.0, all_unused [] ss p.1)
  all_unused (o ∷ g) (s ∷ ss) p = (unused o s p.0, all_unused g ss p.1)

  pub each_given : (n : ℕ) (g : Given) (ss : List Standing) → OnEach Present (take n g) ss → OnEach R (take n g) ss
      → OnEach R g ss
  each_given n g [] p all = tt
  each_given zero g (s ∷ ss) p all = all_unused g (s ∷ ss) p
  each_given (suc n) [] (s ∷ ss) p all = all
  each_given (suc n) (o ∷ g) (s ∷ ss) p all = (all.0, each_given n g ss p.1 all.1)

present_unused : (o : Option Ex) (s : Standing) → s.times ≡ 0 → Present o s
present_unused None s e = e
present_unused (Some x) s e = tt

pub present_given : (n : ℕ) (g : Given) (ss : List Standing) → OnEach Present (take n g) ss → OnEach Present g ss
present_given n g ss p = each_given Present present_unused n g ss p p

-- # Sums

module _ (f : Option Ex → Standing → ℕ) where
  pub over_missing : ((s : Standing) → f None s ≡ 0) → (ss : List Standing) → over_each f [] ss ≡ 0
  over_missing none [] = refl
  over_missing none (s ∷ ss) = let a = none s in let b = over_missing none ss in omega (arith, a, b)

  pub over_nowhere : ((o : Option Ex) → f o nowhere ≡ 0) → (n : ℕ) (g : Given) → over_each f g (replicate n nowhere) ≡ 0
  over_nowhere none zero g = refl
  over_nowhere none (suc n) [] = let a = none None in let b = over_nowhere none n [] in omega (arith, a, b)
  over_nowhere none (suc n) (o ∷ g) = let a = none o in let b = over_nowhere none n g in omega (arith, a, b)

  pub over_set : (g : Given) (ss : List Standing) (p : ℕ) (e : Ex) (old s : Standing) → given_at g p ≡ Some e
      → slice_get ss p ≡ Some old
      → over_each f g (slice_set ss p s) + f (Some e) old ≡ over_each f g ss + f (Some e) s
  over_set [] ss p e old s is there = absurd cc
  over_set (o ∷ g) [] p e old s is there = absurd cc
  over_set (o ∷ g) (t ∷ ss) zero e old s is there =
      let same : old ≡ t = cc in
      let now : f o s ≡ f (Some e) s = ap (λ z. f z s) is in
      let was : f o t ≡ f (Some e) old = ap (λ z. f z t) is ∙ ap (f (Some e)) (sym same) in
      omega (arith, now, was)
  over_set (o ∷ g) (t ∷ ss) (suc p) e old s is there = let rest = over_set g ss p e old s is there in omega (arith, rest)

  pub over_at : (g : Given) (ss : List Standing) (p : ℕ) (e : Ex) (s : Standing) → given_at g p ≡ Some e → slice_get ss p ≡ Some s
      → f (Some e) s ≤ over_each f g ss
  over_at [] ss p e s is there = absurd cc
  over_at (o ∷ g) [] p e s is there = absurd cc
  over_at (o ∷ g) (t ∷ ss) zero e s is there =
      let same : s ≡ t = cc in
      let this : f o t ≡ f (Some e) s = ap (λ z. f z t) is ∙ ap (f (Some e)) (sym same) in
      omega (arith, this)
  over_at (o ∷ g) (t ∷ ss) (suc p) e s is there = let rest = over_at g ss p e s is there in omega (arith, rest)

  module _ (unused : (o : Option Ex) (s : Standing) → s.times ≡ 0 → f o s ≡ 0) where
    over_unused : (g : Given) (ss : List Standing) → OnEach Present [] ss → over_each f g ss ≡ 0
    over_unused g [] p = refl
    over_unused [] (s ∷ ss) p =
        let a = unused None s p.0 in let b = over_unused [] ss p.1 in omega (arith, a, b)
    over_unused (o ∷ g) (s ∷ ss) p = let a = unused o s p.0 in let b = over_unused g ss p.1 in omega (arith, a, b)

    pub over_given : (n : ℕ) (g : Given) (ss : List Standing) → OnEach Present (take n g) ss
        → over_each f g ss ≡ over_each f (take n g) ss
    over_given n g [] p = refl
    over_given zero g (s ∷ ss) p = over_unused g (s ∷ ss) p ∙ sym (over_unused [] (s ∷ ss) p)
    over_given (suc n) [] (s ∷ ss) p = refl
    over_given (suc n) (o ∷ g) (s ∷ ss) p = ap (λ z. f o s + z) (over_given n g ss p.1)

pub set_there : (ss : List Standing) (p : ℕ) (old s : Standing) → slice_get ss p ≡ Some old
    → slice_get (slice_set ss p s) p ≡ Some s
set_there [] p old s is = absurd cc
set_there (t ∷ ss) zero old s is = refl
set_there (t ∷ ss) (suc p) old s is = set_there ss p old s is
