-- What a measure tells of a use: the body's size with the arguments in it.
use Rattle.std.proofs.Common.{◌≡◌, ◌≤◌, ◌<◌, ◌+◌, ◌-◌, ◌*◌, ℕ, Bool, true, false, ◌||◌, List, ◌∷◌, Option, Some, None, replicate, take, refl, ap, ◌∙◌, arith, mul-zero, mul-add, mul_assoc, mul-le-mul_left, mul-le-mul_right, le-mul_of_pos_right, zero-mul, mul_comm}
use Rattle.rp_lang.specs.Exprs.{Ex}
use Rattle.rp_lang.specs.Sizes.{ex_nodes}
use Rattle.query_bodies.specs.declared.bodies.Standing.{Standing}
use Rattle.query_bodies.specs.Expanded.{Given}
use Rattle.query_bodies.specs.Measures.{At, Measured, most, times, noted, argument_at, outside, unmeasured, nowhere}
use Rattle.query_laws.proofs.Sizes.{Size, ex_sums, nodes_there, size_ex}
use Rattle.query_laws.proofs.Standing.{OnEach, over_each, Covered, each_nowhere, each_fewer, each_given, Present, present_given, over_nowhere, over_given}
use Rattle.query_laws.proofs.Told.{Reach, Deep, Quiet, Silent, Clean, few, many, Low, High, Told, ToldTerm, anywhere}

-- # What is told of a body, where these are its arguments

pub record BodyTold (g : Given) (q : Measured) (s : Size) : Type 0 where
  pub present : OnEach Present g q.params
  pub deep_in : (limit : ℕ) → limit < most → Deep limit g q → s.depth ≤ limit
  pub deep_out : (limit : ℕ) → limit < most → s.depth ≤ limit → Deep limit g q
  pub wide_in : (limit : ℕ) → limit < most → q.facts.binders ≤ limit → s.binders ≤ limit
  pub wide_out : (limit : ℕ) → limit < most → s.binders ≤ limit → q.facts.binders ≤ limit
  pub silent_in : Silent g q → s.reads ≡ false
  pub silent_out : s.reads ≡ false → Silent g q
  pub low : (limit : ℕ) → limit < most → Low g q ≤ limit → s.nodes ≤ limit
  pub high : High g q ≤ s.nodes + s.sums

-- # Arguments

-- At this place the arguments of a use were measured, those of these parameters.
pub record ArgsTold (g : Given) (at : At) (gs : Given) (ss : List Standing) (m new : Measured) : Type 0 where
  pub covered : Covered g m.params → Covered g new.params
  pub clean : OnEach Clean g m.params → OnEach Clean g new.params
  pub present : OnEach Present g m.params → OnEach Present g new.params
  pub deep_kept : (limit : ℕ) → limit < most → Deep limit g new → Deep limit g m
  pub deep_in : (limit : ℕ) → limit < most → Deep limit g new → OnEach (Reach (limit - at.above)) gs ss
  pub deep_out : (limit : ℕ) → limit < most → OnEach Clean g m.params → at.above ≤ limit → Deep limit g m
      → OnEach (Reach (limit - at.above)) gs ss → Deep limit g new
  pub wide_kept : (limit : ℕ) → limit < most → new.facts.binders ≤ limit → m.facts.binders ≤ limit
  pub wide_out : (limit : ℕ) → limit < most → at.bound ≤ limit → m.facts.binders ≤ limit → new.facts.binders ≤ limit
  pub silent_kept : Silent g new → Silent g m
  pub silent_in : Silent g new → OnEach Quiet gs ss
  pub silent_out : Silent g m → OnEach Quiet gs ss → Silent g new
  pub low : (limit : ℕ) → limit < most → Low g new ≤ limit → Low g m + at.comes * over_each few gs ss ≤ limit
  pub high : High g new ≤ High g m + at.comes * over_each many gs ss

-- none, or none that stands anywhere
pub args_none : (g : Given) (at : At) (gs : Given) (ss : List Standing) (m : Measured)
    → ((R : Option Ex → Standing → Type 0) → ((o : Option Ex) (s : Standing) → s.times ≡ 0 → R o s) → ((s : Standing)
    → R None s) → OnEach R gs ss)
    → over_each few gs ss ≡ 0 → over_each many gs ss ≡ 0
    → ArgsTold g at gs ss m m
args_none g at gs ss m each no_few no_many = record {
  covered = λ c. c;
  clean = λ c. c;
  present = λ p. p;
  deep_kept = λ limit lt d. d;
  deep_in = λ limit lt d. each (Reach (limit - at.above)) (unused_reach (limit - at.above)) (λ s. tt);
  deep_out = λ limit lt clean le d r. d;
  wide_kept = λ limit lt d. d;
  wide_out = λ limit lt le d. d;
  silent_kept = λ q. q;
  silent_in = λ q. each Quiet unused_quiet (λ s. tt);
  silent_out = λ q r. q;
  low = λ limit lt le. let none : at.comes * over_each few gs ss ≡ 0 = ap (λ n. at.comes * n) no_few
      ∙ mul-zero at.comes in omega (arith, le, none);
  high = let none : at.comes * over_each many gs ss ≡ 0 = ap (λ n. at.comes * n) no_many
      ∙ mul-zero at.comes in omega (arith, none);
} where
  unused_reach : (limit : ℕ) (o : Option Ex) (s : Standing) → s.times ≡ 0 → Reach limit o s
  unused_reach limit None s e = tt
  unused_reach limit (Some x) s e = λ more. absurd (omega (arith, e, more))

  unused_quiet : (o : Option Ex) (s : Standing) → s.times ≡ 0 → Quiet o s
  unused_quiet None s e = tt
  unused_quiet (Some x) s e = λ more. absurd (omega (arith, e, more))

-- one whose parameter stands nowhere
pub arg_skipped : (g : Given) (at : At) (o : Option Ex) (gs : Given) (s : Standing) (ss : List Standing) (m new : Measured)
    → s.times ≡ 0 → ArgsTold g at gs ss m new → ArgsTold g at (o ∷ gs) (s ∷ ss) m new
arg_skipped g at o gs s ss m new none rest = record {
  covered = rest.covered;
  clean = rest.clean;
  present = rest.present;
  deep_kept = rest.deep_kept;
  deep_in = λ limit lt d. (no_reach (limit - at.above) o, rest.deep_in limit lt d);
  deep_out = λ limit lt clean le d r. rest.deep_out limit lt clean le d r.1;
  wide_kept = rest.wide_kept;
  wide_out = rest.wide_out;
  silent_kept = rest.silent_kept;
  silent_in = λ q. (no_quiet o, rest.silent_in q);
  silent_out = λ q r. rest.silent_out q r.1;
  low = λ limit lt le.
      let r = rest.low limit lt le in
      let same : at.comes * (few o s + over_each few gs ss) ≡ at.comes * over_each few gs ss = ap (λ n. at.comes * n) (no_few
      o) in
      omega (arith, r, same);
  high =
      let r = rest.high in
      let same : at.comes * (many o s + over_each many gs ss) ≡ at.comes * over_each many gs ss = ap (λ n. at.comes * n)
      (no_many o) in
      omega (arith, r, same);
} where
  no_reach : (limit : ℕ) (o : Option Ex) → Reach limit o s
  no_reach limit None = tt
  no_reach limit (Some x) = λ more. absurd (omega (arith, none, more))

  no_quiet : (o : Option Ex) → Quiet o s
  no_quiet None = tt
  no_quiet (Some x) = λ more. absurd (omega (arith, none, more))

  no_few : (o : Option Ex) → few o s + over_each few gs ss ≡ over_each few gs ss
  no_few None = omega arith
  no_few (Some x) = let z : s.times * ex_nodes x ≡ 0 = ap (λ n. n * ex_nodes x) none ∙ zero-mul (ex_nodes x) in omega (arith, z)

  no_many : (o : Option Ex) → many o s + over_each many gs ss ≡ over_each many gs ss
  no_many None = omega arith
  no_many (Some x) =
      let w = ex_nodes x + ex_sums x in
      let z : s.times * w ≡ 0 = ap (λ n. n * w) none ∙ zero-mul w in omega (arith, z)

-- one whose parameter stands somewhere
pub arg_told : (g : Given) (at : At) (x : Ex) (gs : Given) (s : Standing) (ss : List Standing) (m mid new : Measured)
    → 0 < s.times
    → 0 < at.comes → ToldTerm g (argument_at at s) m mid (size_ex x) → ArgsTold g at gs ss mid new
    → ArgsTold g at (Some x ∷ gs) (s ∷ ss) m new
arg_told g at x gs s ss m mid new more comes this rest = record {
  covered = λ c. rest.covered (this.covered c);
  clean = λ c. rest.clean (this.clean c);
  present = λ p. rest.present (this.present p);
  deep_kept = λ limit lt d. this.deep_kept limit lt (rest.deep_kept limit lt d);
  deep_in = λ limit lt d.
      let e = this.deep_in limit lt tt (rest.deep_kept limit lt d) in
      let first : Reach (limit - at.above) (Some x) s = λ used. omega (arith, e, lt) in
      (first, rest.deep_in limit lt d);
  deep_out = λ limit lt clean le d r.
      let reach = r.0 more in
      rest.deep_out limit lt (this.clean clean) le (this.deep_out limit lt clean d (omega (arith, reach, le))) r.1;
  wide_kept = λ limit lt d. this.wide_kept limit lt (rest.wide_kept limit lt d);
  wide_out = λ limit lt le d. rest.wide_out limit lt le (this.wide_out limit lt d (omega (arith, le)));
  silent_kept = λ q. this.silent_kept (rest.silent_kept q);
  silent_in = λ q.
      let first : Quiet (Some x) s = λ used. this.silent_in (rest.silent_kept q) in (first, rest.silent_in q);
  silent_out = λ q r. rest.silent_out (this.silent_out q (r.0 more)) r.1;
  low = λ limit lt le.
      let n = ex_nodes x in
      let one = nodes_there x in
      let others = over_each few gs ss in
      let r : Low g mid + at.comes * others ≤ limit = rest.low limit lt le in
      let less : limit - at.comes * others < most = omega (arith, lt) in
      let e : Low g m + times at.comes s.times * n ≤ limit - at.comes * others =
      this.low (limit - at.comes * others) less (omega (arith, r)) in
      let fewer : times at.comes s.times ≤ times at.comes s.times * n = le-mul_of_pos_right (times at.comes s.times) (omega
      (arith, one)) in
      let exact : times at.comes s.times ≡ at.comes * s.times = omega (arith, fewer, e, lt) in
      let product : times at.comes s.times * n ≡ at.comes * (s.times * n) = ap (λ k. k * n) exact
      ∙ mul_assoc at.comes s.times n in
      let sum = mul-add at.comes (s.times * n) others in
      omega (arith, r, e, product, sum);
  high =
      let w = ex_nodes x + ex_sums x in
      let others = over_each many gs ss in
      let r : High g new ≤ High g mid + at.comes * others = rest.high in
      let e : High g mid ≤ High g m + times at.comes s.times * w = this.high in
      let fewer : times at.comes s.times ≤ at.comes * s.times = omega arith in
      let product : times at.comes s.times * w ≤ at.comes * s.times * w = mul-le-mul_right w fewer in
      let assoc = mul_assoc at.comes s.times w in
      let sum = mul-add at.comes (s.times * w) others in
      omega (arith, r, e, product, assoc, sum);
}

-- # A use

pub use_told : (g : Given) (at : At) (gs : Given) (q m new : Measured) (s : Size) → 0 < at.comes → BodyTold gs q s
    → ArgsTold g at gs q.params (noted at q.facts m) new
    → Told g anywhere anywhere at m new s
use_told g at gs q m new s comes body args = record {
  covered = args.covered;
  clean = args.clean;
  present = args.present;
  deep_kept = λ limit lt d. let k = args.deep_kept limit lt d in let e = k.0 in (omega (arith, e), k.1);
  deep_in = λ limit lt known d.
      let e = (args.deep_kept limit lt d).0 in
      let less : limit - at.above < most = omega (arith, lt) in
      let own : q.facts.depth ≤ limit - at.above = omega (arith, e, lt) in
      let r = body.deep_in (limit - at.above) less (own, args.deep_in limit lt d) in
      omega (arith, e, lt, r);
  deep_out = λ limit lt clean d le.
      let less : limit - at.above < most = omega (arith, lt) in
      let r = body.deep_out (limit - at.above) less (omega (arith, le)) in
      let own = r.0 in
      let e = d.0 in
      args.deep_out limit lt clean (omega (arith, le)) (omega (arith, own, e, le), d.1) r.1;
  wide_kept = λ limit lt d. let e = args.wide_kept limit lt d in omega (arith, e);
  wide_in = λ limit lt known d.
      let e = args.wide_kept limit lt d in
      let less : limit - at.bound < most = omega (arith, lt) in
      let r = body.wide_in (limit - at.bound) less (omega (arith, e, lt)) in
      omega (arith, e, lt, r);
  wide_out = λ limit lt d le.
      let less : limit - at.bound < most = omega (arith, lt) in
      let r = body.wide_out (limit - at.bound) less (omega (arith, le)) in
      args.wide_out limit lt (omega (arith, le)) (omega (arith, d, r, le));
  silent_kept = λ r. let k = args.silent_kept r in (left_false m.facts.reads q.facts.reads k.0, k.1);
  silent_in = λ r.
      let k = args.silent_kept r in
      body.silent_in (right_false m.facts.reads q.facts.reads k.0, args.silent_in r);
  silent_out = λ r e.
      let b = body.silent_out e in
      args.silent_out (both_false m.facts.reads q.facts.reads r.0 b.0, r.1) b.1;
  low = λ limit lt le.
      let others = over_each few gs q.params in
      let r : Low g (noted at q.facts m) + at.comes * others ≤ limit = args.low limit lt le in
      let sum = mul-add at.comes q.facts.nodes others in
      let own : at.comes * q.facts.nodes + at.comes * others ≤ limit = omega (arith, r, lt) in
      let whole : q.facts.nodes + others ≤ (q.facts.nodes + others) * at.comes = le-mul_of_pos_right (q.facts.nodes + others)
      comes in
      let turned : (q.facts.nodes + others) * at.comes ≡ at.comes * (q.facts.nodes + others) = mul_comm (q.facts.nodes +
      others) at.comes in
      let less : q.facts.nodes + others < most = omega (arith, own, sum, whole, turned, lt) in
      let b : s.nodes ≤ q.facts.nodes + others = body.low (q.facts.nodes + others) less (omega arith) in
      let product : at.comes * s.nodes ≤ at.comes * (q.facts.nodes + others) = mul-le-mul_left at.comes b in
      omega (arith, r, product, sum, lt);
  high =
      let others = over_each many gs q.params in
      let r : High g new ≤ High g (noted at q.facts m) + at.comes * others = args.high in
      let sum = mul-add at.comes q.facts.nodes others in
      let product : at.comes * (q.facts.nodes + others) ≤ at.comes * (s.nodes + s.sums) = mul-le-mul_left at.comes body.high in
      omega (arith, r, product, sum);
} where
  left_false : (a b : Bool) → (a || b) ≡ false → a ≡ false
  left_false true b e = absurd cc
  left_false false b e = refl

  right_false : (a b : Bool) → (a || b) ≡ false → b ≡ false
  right_false true b e = absurd cc
  right_false false b e = e

  both_false : (a b : Bool) → a ≡ false → b ≡ false → (a || b) ≡ false
  both_false true b e f = absurd cc
  both_false false b e f = f

-- # A body

reach_nowhere : (limit : ℕ) (o : Option Ex) → Reach limit o nowhere
reach_nowhere limit None = tt
reach_nowhere limit (Some x) = λ more. absurd (omega (arith, more))

quiet_nowhere : (o : Option Ex) → Quiet o nowhere
quiet_nowhere None = tt
quiet_nowhere (Some x) = λ more. absurd (omega (arith, more))

present_nowhere : (o : Option Ex) → Present o nowhere
present_nowhere None = refl
present_nowhere (Some x) = tt

few_nowhere : (o : Option Ex) → few o nowhere ≡ 0
few_nowhere None = refl
few_nowhere (Some x) = zero-mul (ex_nodes x)

many_nowhere : (o : Option Ex) → many o nowhere ≡ 0
many_nowhere None = refl
many_nowhere (Some x) = zero-mul (ex_nodes x + ex_sums x)

-- what was measured from the start
pub body_told : (n : ℕ) (g : Given) (q : Measured) (s : Size)
    → Told (take n g) anywhere (λ limit. 0 ≤ limit) outside (unmeasured n) q s
    → BodyTold g q s
body_told n g q s t =
    let gs = take n g in
    let here : OnEach Present gs q.params = t.present (each_nowhere Present present_nowhere n gs) in
    let fresh : OnEach Clean gs (replicate n nowhere) = each_nowhere Clean (λ o e. refl) n gs in
    record {
      present = present_given n g q.params here;
      deep_in = λ limit lt d.
          let r = t.deep_in limit lt tt (d.0, each_fewer (Reach limit) (λ z. tt) n g q.params d.1) in omega (arith, r);
      deep_out = λ limit lt le.
          let d = t.deep_out limit lt fresh (omega arith, each_nowhere (Reach limit) (reach_nowhere limit) n gs) (omega (
            arith,
            le,
          )) in
          (d.0, each_given (Reach limit) (unused_reach limit) n g q.params here d.1);
      wide_in = λ limit lt d. let r = t.wide_in limit lt (omega arith) d in omega (arith, r);
      wide_out = λ limit lt le. t.wide_out limit lt (omega arith) (omega (arith, le));
      silent_in = λ r. t.silent_in (r.0, each_fewer Quiet (λ z. tt) n g q.params r.1);
      silent_out = λ e.
          let r = t.silent_out (refl, each_nowhere Quiet quiet_nowhere n gs) e in
          (r.0, each_given Quiet unused_quiet n g q.params here r.1);
      low = λ limit lt le.
          let same : over_each few g q.params ≡ over_each few gs q.params = over_given few unused_few n g q.params here in
          let r = t.low limit lt (omega (arith, le, same)) in
          omega (arith, r);
      high =
          let same : over_each many g q.params ≡ over_each many gs q.params = over_given many unused_many n g q.params here in
          let none : over_each many gs (replicate n nowhere) ≡ 0 = over_nowhere many many_nowhere n gs in
          let r = t.high in
          omega (arith, r, same, none);
    } where
      unused_reach : (limit : ℕ) (o : Option Ex) (z : Standing) → z.times ≡ 0 → Reach limit o z
      unused_reach limit None z e = tt
      unused_reach limit (Some x) z e = λ more. absurd (omega (arith, e, more))

      unused_quiet : (o : Option Ex) (z : Standing) → z.times ≡ 0 → Quiet o z
      unused_quiet None z e = tt
      unused_quiet (Some x) z e = λ more. absurd (omega (arith, e, more))

      unused_few : (o : Option Ex) (z : Standing) → z.times ≡ 0 → few o z ≡ 0
      unused_few None z e = refl
      unused_few (Some x) z e = ap (λ k. k * ex_nodes x) e ∙ zero-mul (ex_nodes x)

      unused_many : (o : Option Ex) (z : Standing) → z.times ≡ 0 → many o z ≡ 0
      unused_many None z e = refl
      unused_many (Some x) z e = ap (λ k. k * (ex_nodes x + ex_sums x)) e ∙ zero-mul (ex_nodes x + ex_sums x)
