-- What a measure tells of a parameter: the size of what it stands for.
use Rattle.std.proofs.Common.{◌≡◌, ◌≤◌, ◌<◌, ◌+◌, ◌*◌, ℕ, zero, suc, max, Option, Some, slice_get, slice_set, refl, ap, sym, subst, ◌∙◌, arith, add-mul, mul-le-mul_right, le-mul_of_pos_right}
use Rattle.rp_lang.specs.Exprs.{Ex}
use Rattle.rp_lang.specs.Sizes.{ex_depth, ex_nodes}
use Rattle.query_bodies.specs.declared.bodies.Standing.{Standing}
use Rattle.query_bodies.specs.Expanded.{Given, given_at}
use Rattle.query_bodies.specs.Measures.{At, Measured, standing_with, stood, stood_at}
use Rattle.query_laws.proofs.Sizes.{ex_sums, nodes_there, size_ex}
use Rattle.query_laws.proofs.Standing.{over_each, Covered, covered_get, covered_set, each_at, each_set, each_was, each_now, Present, over_set, over_at, set_there}
use Rattle.query_laws.proofs.Told.{Reach, Quiet, Clean, few, many, ToldTerm}

-- a parameter with how it stands from there on
param_changed : (g : Given) (at : At) (m : Measured) (p : ℕ) (e : Ex) (old : Standing) → 0 < at.comes → given_at g p ≡ Some e
    → slice_get m.params p ≡ Some old
    → ToldTerm g at m (record m { params = slice_set m.params p (standing_with at old) }) (size_ex e)
param_changed g at m p e old comes is there =
    let s = standing_with at old in
    let now : 0 < s.times = omega (arith, comes) in
    record {
      covered = λ c. covered_set g m.params p s c;
      clean = λ c. each_set Clean g m.params p e s is c (λ none. absurd (omega (arith, none, now)));
      present = λ c. each_set Present g m.params p e s is c tt;
      deep_kept = λ limit lt d. (
        d.0,
        each_was (Reach limit) g m.params p e old s is there d.1 (λ more before.
            let r = more now in omega (arith, r)),
      );
      deep_in = λ limit lt known d.
          let r = each_now (Reach limit) g m.params p e old s is there d.1 now in omega (arith, r);
      deep_out = λ limit lt clean d le. (
        d.0,
        each_set (Reach limit) g m.params p e s is d.1 (λ more.
            deeper limit old.times old.deepest (ex_depth e) at.above (each_at Clean g m.params p e old is there clean)
            (each_at (Reach limit) g m.params p e old is there d.1) le),
      );
      wide_kept = λ limit lt d. d;
      wide_in = λ limit lt known d. omega (arith, known);
      wide_out = λ limit lt d le. d;
      silent_kept = λ q. (q.0, each_was Quiet g m.params p e old s is there q.1 (λ more before. more now));
      silent_in = λ q. each_now Quiet g m.params p e old s is there q.1 now;
      silent_out = λ q r. (q.0, each_set Quiet g m.params p e s is q.1 (λ more. r));
      low = λ limit lt le.
          let n = ex_nodes e in
          let one = nodes_there e in
          let changed : over_each few g (slice_set m.params p s) + old.times * n ≡ over_each few g m.params + s.times * n =
          over_set few g m.params p e old s is there in
          let part : s.times * n ≤ over_each few g (slice_set m.params p s) =
          over_at few g (slice_set m.params p s) p e s is (set_there m.params p old s there) in
          let fewer : s.times ≤ s.times * n = le-mul_of_pos_right s.times (omega (arith, one)) in
          let exact : s.times ≡ old.times + at.comes = omega (arith, fewer, part, le, lt) in
          let product : s.times * n ≡ old.times * n + at.comes * n = ap (λ k. k * n) exact ∙ add-mul old.times at.comes n in
          omega (arith, changed, product, le);
      high =
          let w = ex_nodes e + ex_sums e in
          let changed : over_each many g (slice_set m.params p s) + old.times * w ≡ over_each many g m.params + s.times * w =
          over_set many g m.params p e old s is there in
          let fewer : s.times ≤ old.times + at.comes = omega arith in
          let product : s.times * w ≤ (old.times + at.comes) * w = mul-le-mul_right w fewer in
          let sum = add-mul old.times at.comes w in
          omega (arith, changed, product, sum);
    } where
      deeper : (limit times deepest depth above : ℕ) → (times ≡ 0 → deepest ≡ 0) → (0 < times → deepest + depth ≤ limit)
          → above + depth ≤ limit → max deepest above + depth ≤ limit
      deeper limit zero deepest depth above clean reach le = let none = clean refl in omega (arith, none, le)
      deeper limit (suc n) deepest depth above clean reach le = let r = reach (omega arith) in omega (arith, r, le)

pub told_param : (g : Given) (at : At) (m : Measured) (p : ℕ) (e : Ex) → 0 < at.comes → Covered g m.params → given_at g p ≡ Some e
    → ToldTerm g at m (stood at p m) (size_ex e)
told_param g at m p e comes cov is =
    let old = covered_get g m.params p e cov is in
    subst (λ (o : Option Standing). ToldTerm g at m (record m { params = stood_at at p o m.params }) (size_ex e)) (sym old.1)
    (param_changed g at m p e old.0 comes is old.1)
