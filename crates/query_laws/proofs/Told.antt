-- What a measure tells between two moments of what was made between them.
use Rattle.std.proofs.Common.{◌≡◌, ◌≤◌, ◌<◌, ◌+◌, ◌-◌, ◌*◌, ℕ, Bool, true, false, ◌||◌, Option, Some, None, refl, ap, sym, ◌∙◌, arith, mul-add, mul-le-mul_left}
use Rattle.rp_lang.specs.Exprs.{Ex}
use Rattle.rp_lang.specs.Sizes.{ex_depth, ex_nodes}
use Rattle.desugaring.specs.Values.{ex_reads}
use Rattle.query_bodies.specs.declared.bodies.Standing.{Standing}
use Rattle.query_bodies.specs.Expanded.{Given}
use Rattle.query_bodies.specs.Measures.{At, Measured, most, below, node, reading}
use Rattle.query_bodies.specs.Measures as measure
use Rattle.query_laws.proofs.Sizes.{Size, ex_sums, no_size, leaf_size, node_size, read_size, bound_size, arm_size, join, IsNear}
use Rattle.query_laws.proofs.Standing.{OnEach, over_each, Covered, Present}

-- # What is told at one moment, where parameters stand for these

-- no deeper than this
abbrev pub Reach : ℕ → Option Ex → Standing → Type 0
Reach limit None s = Unit {0}
Reach limit (Some e) s = 0 < s.times → s.deepest + ex_depth e ≤ limit

abbrev pub Deep : ℕ → Given → Measured → Type 0
Deep limit g m = (m.facts.depth ≤ limit) × OnEach (Reach limit) g m.params

abbrev pub Quiet : Option Ex → Standing → Type 0
Quiet None s = Unit {0}
Quiet (Some e) s = 0 < s.times → ex_reads e ≡ false

-- nothing reads
abbrev pub Silent : Given → Measured → Type 0
Silent g m = (m.facts.reads ≡ false) × OnEach Quiet g m.params

-- what stands nowhere stands nowhere deep
abbrev pub Clean : Option Ex → Standing → Type 0
Clean o s = s.times ≡ 0 → s.deepest ≡ 0

abbrev pub few : Option Ex → Standing → ℕ
few None s = 0
few (Some e) s = s.times * ex_nodes e

abbrev pub many : Option Ex → Standing → ℕ
many None s = 0
many (Some e) s = s.times * (ex_nodes e + ex_sums e)

abbrev pub Low : Given → Measured → ℕ
Low g m = m.facts.nodes + over_each few g m.params

abbrev pub High : Given → Measured → ℕ
High g m = m.facts.nodes + over_each many g m.params

-- # Between two moments

-- At this place something of this size was measured. What is known of limits there is `shallow` and `narrow`: of lists that they
-- don't end above it, since they may be empty.
pub record Told (g : Given) (shallow narrow : ℕ → Type 0) (at : At) (m new : Measured) (s : Size) : Type 0 where
  pub covered : Covered g m.params → Covered g new.params
  pub clean : OnEach Clean g m.params → OnEach Clean g new.params
  pub present : OnEach Present g m.params → OnEach Present g new.params
  pub deep_kept : (limit : ℕ) → limit < most → Deep limit g new → Deep limit g m
  pub deep_in : (limit : ℕ) → limit < most → shallow limit → Deep limit g new → at.above + s.depth ≤ limit
  pub deep_out : (limit : ℕ) → limit < most → OnEach Clean g m.params → Deep limit g m → at.above + s.depth ≤ limit
      → Deep limit g new
  pub wide_kept : (limit : ℕ) → limit < most → new.facts.binders ≤ limit → m.facts.binders ≤ limit
  pub wide_in : (limit : ℕ) → limit < most → narrow limit → new.facts.binders ≤ limit → at.bound + s.binders ≤ limit
  pub wide_out : (limit : ℕ) → limit < most → m.facts.binders ≤ limit → at.bound + s.binders ≤ limit → new.facts.binders ≤ limit
  pub silent_kept : Silent g new → Silent g m
  pub silent_in : Silent g new → s.reads ≡ false
  pub silent_out : Silent g m → s.reads ≡ false → Silent g new
  pub low : (limit : ℕ) → limit < most → Low g new ≤ limit → Low g m + at.comes * s.nodes ≤ limit
  pub high : High g new ≤ High g m + at.comes * (s.nodes + s.sums)

abbrev pub anywhere : ℕ → Type 0
anywhere limit = Unit {0}

abbrev pub shallow_at : At → ℕ → Type 0
shallow_at at limit = at.above ≤ limit

abbrev pub narrow_at : At → ℕ → Type 0
narrow_at at limit = at.bound ≤ limit

-- of a term, a formula, and a list of parts
abbrev pub ToldTerm : Given → At → Measured → Measured → Size → Type 0
ToldTerm g at m new s = Told g anywhere (narrow_at at) at m new s

abbrev pub ToldClaim : Given → At → Measured → Measured → Size → Type 0
ToldClaim g at m new s = Told g anywhere anywhere at m new s

abbrev pub ToldList : Given → At → Measured → Measured → Size → Type 0
ToldList g at m new s = Told g (shallow_at at) (narrow_at at) at m new s

-- # Of one thing

pub told_with : (g : Given) (p q sh nr : ℕ → Type 0) (at : At) (m new : Measured) (s : Size)
    → ((limit : ℕ) → p limit → sh limit) → ((limit : ℕ) → q limit → nr limit)
    → Told g sh nr at m new s → Told g p q at m new s
told_with g p q sh nr at m new s a b t = record {
  covered = t.covered;
  clean = t.clean;
  present = t.present;
  deep_kept = t.deep_kept;
  deep_in = λ limit lt known d. t.deep_in limit lt (a limit known) d;
  deep_out = t.deep_out;
  wide_kept = t.wide_kept;
  wide_in = λ limit lt known d. t.wide_in limit lt (b limit known) d;
  wide_out = t.wide_out;
  silent_kept = t.silent_kept;
  silent_in = t.silent_in;
  silent_out = t.silent_out;
  low = t.low;
  high = t.high;
}

pub term_listed : (g : Given) (at : At) (m new : Measured) (s : Size) → ToldTerm g at m new s → ToldList g at m new s
term_listed g at m new s t = told_with g (shallow_at at) (narrow_at at) anywhere (narrow_at at) at m new s (λ limit k. tt) (λ
    limit k. k) t

pub claim_listed : (g : Given) (at : At) (m new : Measured) (s : Size) → ToldClaim g at m new s → ToldList g at m new s
claim_listed g at m new s t = told_with g (shallow_at at) (narrow_at at) anywhere anywhere at m new s (λ limit k. tt) (λ limit
    k. tt) t

pub claim_term : (g : Given) (at : At) (m new : Measured) (s : Size) → ToldClaim g at m new s → ToldTerm g at m new s
claim_term g at m new s t = told_with g anywhere (narrow_at at) anywhere anywhere at m new s (λ limit k. tt) (λ limit k. tt) t

pub told_near : (g : Given) (sh nr : ℕ → Type 0) (at : At) (m new : Measured) (s t : Size) → IsNear s t
    → Told g sh nr at m new t → Told g sh nr at m new s
told_near g sh nr at m new s t n told = record {
  covered = told.covered;
  clean = told.clean;
  present = told.present;
  deep_kept = told.deep_kept;
  deep_in = λ limit lt known d. let r = told.deep_in limit lt known d in let e = n.depth in omega (arith, r, e);
  deep_out = λ limit lt clean d le. let e = n.depth in told.deep_out limit lt clean d (omega (arith, le, e));
  wide_kept = told.wide_kept;
  wide_in = λ limit lt known d. let r = told.wide_in limit lt known d in let e = n.binders in omega (arith, r, e);
  wide_out = λ limit lt d le. let e = n.binders in told.wide_out limit lt d (omega (arith, le, e));
  silent_kept = told.silent_kept;
  silent_in = λ q. n.reads ∙ told.silent_in q;
  silent_out = λ q e. told.silent_out q (sym n.reads ∙ e);
  low = λ limit lt le.
      let r = told.low limit lt le in
      let fewer : at.comes * s.nodes ≤ at.comes * t.nodes = mul-le-mul_left at.comes n.least in
      omega (arith, r, fewer);
  high =
      let r = told.high in
      let more : at.comes * (t.nodes + t.sums) ≤ at.comes * (s.nodes + s.sums) = mul-le-mul_left at.comes n.most in
      omega (arith, r, more);
}

or_parts : (a b : Bool) → (a || b) ≡ false → (a ≡ false) × (b ≡ false)
or_parts true b e = absurd cc
or_parts false b e = (refl, e)

or_is : (a b : Bool) → a ≡ false → b ≡ false → (a || b) ≡ false
or_is true b e f = absurd cc
or_is false b e f = f

-- # Lists

pub told_none : (g : Given) (at : At) (m : Measured) → ToldList g at m m no_size
told_none g at m = record {
  covered = λ c. c;
  clean = λ c. c;
  present = λ p. p;
  deep_kept = λ limit lt d. d;
  deep_in = λ limit lt known d. omega (arith, known);
  deep_out = λ limit lt clean d le. d;
  wide_kept = λ limit lt d. d;
  wide_in = λ limit lt known d. omega (arith, known);
  wide_out = λ limit lt d le. d;
  silent_kept = λ q. q;
  silent_in = λ q. refl;
  silent_out = λ q e. q;
  low = λ limit lt le. omega (arith, le);
  high = omega arith;
}

pub told_both : (g : Given) (at : At) (m mid new : Measured) (s t : Size) → ToldList g at m mid s → ToldList g at mid new t
    → ToldList g at m new (join s t)
told_both g at m mid new s t first rest = record {
  covered = λ c. rest.covered (first.covered c);
  clean = λ c. rest.clean (first.clean c);
  present = λ p. rest.present (first.present p);
  deep_kept = λ limit lt d. first.deep_kept limit lt (rest.deep_kept limit lt d);
  deep_in = λ limit lt known d.
      let a = first.deep_in limit lt known (rest.deep_kept limit lt d) in
      let b = rest.deep_in limit lt known d in
      omega (arith, a, b);
  deep_out = λ limit lt clean d le.
      rest.deep_out limit lt (first.clean clean) (first.deep_out limit lt clean d (omega (arith, le))) (omega (arith, le));
  wide_kept = λ limit lt d. first.wide_kept limit lt (rest.wide_kept limit lt d);
  wide_in = λ limit lt known d.
      let a = first.wide_in limit lt known (rest.wide_kept limit lt d) in
      let b = rest.wide_in limit lt known d in
      omega (arith, a, b);
  wide_out = λ limit lt d le.
      rest.wide_out limit lt (first.wide_out limit lt d (omega (arith, le))) (omega (arith, le));
  silent_kept = λ q. first.silent_kept (rest.silent_kept q);
  silent_in = λ q. or_is s.reads t.reads (first.silent_in (rest.silent_kept q)) (rest.silent_in q);
  silent_out = λ q e.
      let parts = or_parts s.reads t.reads e in rest.silent_out (first.silent_out q parts.0) parts.1;
  low = λ limit lt le.
      let more = rest.low limit lt le in
      let less : limit - at.comes * t.nodes < most = omega (arith, lt) in
      let r = first.low (limit - at.comes * t.nodes) less (omega (arith, more)) in
      let sum = mul-add at.comes s.nodes t.nodes in
      omega (arith, r, more, sum);
  high =
      let a = first.high in
      let b = rest.high in
      let sum = mul-add at.comes (s.nodes + s.sums) (t.nodes + t.sums) in
      let same : at.comes * (s.nodes + t.nodes + (s.sums + t.sums)) ≡ at.comes * (s.nodes + s.sums + (t.nodes + t.sums)) =
      ap (λ n. at.comes * n) (omega arith) in
      omega (arith, a, b, sum, same);
}

-- # Nodes

pub told_leaf : (g : Given) (sh nr : ℕ → Type 0) (at : At) (m : Measured) → Told g sh nr at m (node at m) leaf_size
told_leaf g sh nr at m = record {
  covered = λ c. c;
  clean = λ c. c;
  present = λ p. p;
  deep_kept = λ limit lt d. let e = d.0 in (omega (arith, e), d.1);
  deep_in = λ limit lt known d. let e = d.0 in omega (arith, e, lt);
  deep_out = λ limit lt clean d le. let e = d.0 in (omega (arith, e, le), d.1);
  wide_kept = λ limit lt d. omega (arith, d);
  wide_in = λ limit lt known d. omega (arith, d, lt);
  wide_out = λ limit lt d le. omega (arith, d, le);
  silent_kept = λ q. ((or_parts m.facts.reads false q.0).0, q.1);
  silent_in = λ q. refl;
  silent_out = λ q e. (or_is m.facts.reads false q.0 refl, q.1);
  low = λ limit lt le. omega (arith, le, lt);
  high = omega arith;
}

pub told_over : (g : Given) (sh nr : ℕ → Type 0) (at : At) (m new : Measured) (s : Size) → ToldList g (below at) (node at m) new s
    → Told g sh nr at m new (node_size s)
told_over g sh nr at m new s t =
    let l = told_leaf g sh nr at m in
    record {
      covered = t.covered;
      clean = t.clean;
      present = t.present;
      deep_kept = λ limit lt d. l.deep_kept limit lt (t.deep_kept limit lt d);
      deep_in = λ limit lt known d.
          let e = l.deep_in limit lt known (t.deep_kept limit lt d) in
          let r = t.deep_in limit lt (omega (arith, e)) d in
          omega (arith, e, r);
      deep_out = λ limit lt clean d le.
          t.deep_out limit lt clean (l.deep_out limit lt clean d (omega (arith, le))) (omega (arith, le));
      wide_kept = λ limit lt d. l.wide_kept limit lt (t.wide_kept limit lt d);
      wide_in = λ limit lt known d.
          let e = l.wide_in limit lt known (t.wide_kept limit lt d) in
          t.wide_in limit lt (omega (arith, e)) d;
      wide_out = λ limit lt d le. t.wide_out limit lt (l.wide_out limit lt d (omega (arith, le))) le;
      silent_kept = λ q. l.silent_kept (t.silent_kept q);
      silent_in = λ q. t.silent_in q;
      silent_out = λ q e. t.silent_out (l.silent_out q refl) e;
      low = λ limit lt le.
          let r = t.low limit lt le in
          let less : limit - at.comes * s.nodes < most = omega (arith, lt) in
          let e = l.low (limit - at.comes * s.nodes) less (omega (arith, r)) in
          let sum = mul-add at.comes 1 s.nodes in
          omega (arith, r, e, sum);
      high =
          let r = t.high in
          let e = l.high in
          let sum = mul-add at.comes 1 (s.nodes + s.sums) in
          let same : at.comes * (1 + s.nodes + s.sums) ≡ at.comes * (1 + (s.nodes + s.sums)) = ap (λ n. at.comes * n) (omega
          arith) in
          omega (arith, r, e, sum, same);
    }

-- one that reads the store
pub told_reading : (g : Given) (sh nr : ℕ → Type 0) (at : At) (m new : Measured) (s : Size)
    → ToldList g (below at) (reading (node at m)) new s
    → Told g sh nr at m new (read_size s)
told_reading g sh nr at m new s t =
    let l = told_leaf g sh nr at m in
    record {
      covered = t.covered;
      clean = t.clean;
      present = t.present;
      deep_kept = λ limit lt d. l.deep_kept limit lt (t.deep_kept limit lt d);
      deep_in = λ limit lt known d.
          let e = l.deep_in limit lt known (t.deep_kept limit lt d) in
          let r = t.deep_in limit lt (omega (arith, e)) d in
          omega (arith, e, r);
      deep_out = λ limit lt clean d le.
          t.deep_out limit lt clean (l.deep_out limit lt clean d (omega (arith, le))) (omega (arith, le));
      wide_kept = λ limit lt d. l.wide_kept limit lt (t.wide_kept limit lt d);
      wide_in = λ limit lt known d.
          let e = l.wide_in limit lt known (t.wide_kept limit lt d) in
          t.wide_in limit lt (omega (arith, e)) d;
      wide_out = λ limit lt d le. t.wide_out limit lt (l.wide_out limit lt d (omega (arith, le))) le;
      silent_kept = λ q. let e = (t.silent_kept q).0 in absurd (cc);
      silent_in = λ q. (t.silent_kept q).0;
      silent_out = λ q e. absurd (cc);
      low = λ limit lt le.
          let r = t.low limit lt le in
          let less : limit - at.comes * s.nodes < most = omega (arith, lt) in
          let e = l.low (limit - at.comes * s.nodes) less (omega (arith, r)) in
          let sum = mul-add at.comes 1 s.nodes in
          omega (arith, r, e, sum);
      high =
          let r = t.high in
          let e = l.high in
          let sum = mul-add at.comes 1 (s.nodes + s.sums) in
          let same : at.comes * (1 + s.nodes + s.sums) ≡ at.comes * (1 + (s.nodes + s.sums)) = ap (λ n. at.comes * n) (omega
          arith) in
          omega (arith, r, e, sum, same);
    }

-- a quantifier
pub told_bound : (g : Given) (at : At) (m new : Measured) (s : Size) → ToldClaim g (measure.under 1 at) (node at m) new s
    → ToldClaim g at m new (bound_size s)
told_bound g at m new s t =
    let l = told_leaf g anywhere anywhere at m in
    record {
      covered = t.covered;
      clean = t.clean;
      present = t.present;
      deep_kept = λ limit lt d. l.deep_kept limit lt (t.deep_kept limit lt d);
      deep_in = λ limit lt known d.
          let e = l.deep_in limit lt known (t.deep_kept limit lt d) in
          let r = t.deep_in limit lt tt d in
          omega (arith, e, r);
      deep_out = λ limit lt clean d le.
          t.deep_out limit lt clean (l.deep_out limit lt clean d (omega (arith, le))) (omega (arith, le));
      wide_kept = λ limit lt d. l.wide_kept limit lt (t.wide_kept limit lt d);
      wide_in = λ limit lt known d. let r = t.wide_in limit lt tt d in omega (arith, r, lt);
      wide_out = λ limit lt d le. t.wide_out limit lt (l.wide_out limit lt d (omega (arith, le))) (omega (arith, le));
      silent_kept = λ q. l.silent_kept (t.silent_kept q);
      silent_in = λ q. t.silent_in q;
      silent_out = λ q e. t.silent_out (l.silent_out q refl) e;
      low = λ limit lt le.
          let r = t.low limit lt le in
          let less : limit - at.comes * s.nodes < most = omega (arith, lt) in
          let e = l.low (limit - at.comes * s.nodes) less (omega (arith, r)) in
          let sum = mul-add at.comes 1 s.nodes in
          omega (arith, r, e, sum);
      high =
          let r = t.high in
          let e = l.high in
          let sum = mul-add at.comes 1 (s.nodes + s.sums) in
          let same : at.comes * (1 + s.nodes + s.sums) ≡ at.comes * (1 + (s.nodes + s.sums)) = ap (λ n. at.comes * n) (omega
          arith) in
          omega (arith, r, e, sum, same);
    }

-- an arm, whose body stands under the match
pub told_arm : (g : Given) (at : At) (m new : Measured) (binds : ℕ) (s : Size) → ToldClaim g (measure.under binds at) m new s
    → ToldList g (below at) m new (arm_size binds s)
told_arm g at m new binds s t = record {
  covered = t.covered;
  clean = t.clean;
  present = t.present;
  deep_kept = t.deep_kept;
  deep_in = λ limit lt known d. t.deep_in limit lt tt d;
  deep_out = t.deep_out;
  wide_kept = t.wide_kept;
  wide_in = λ limit lt known d. let r = t.wide_in limit lt tt d in omega (arith, r, lt);
  wide_out = λ limit lt d le. t.wide_out limit lt d (omega (arith, le));
  silent_kept = t.silent_kept;
  silent_in = t.silent_in;
  silent_out = t.silent_out;
  low = t.low;
  high = t.high;
}
