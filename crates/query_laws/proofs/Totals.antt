-- The measures of a whole text's bodies are told of what their uses become.
use Rattle.std.proofs.Common.{◌≡◌, ◌≤◌, ◌<◌, ◌==◌, ℕ, zero, suc, Bool, true, false, cond, [], length, Some, take, refl, sym, subst, ◌∙◌, arith, eqb-true}
use Rattle.std.specs.Prelude.{option_and_then}
use Rattle.rp_value.specs.declared.tables.ConTable.{ConTable}
use Rattle.desugaring.specs.Values.{Value, term, formula, as_formula, reads}
use Rattle.desugaring.proofs.Options.{then_there, map_there}
use Rattle.query_bodies.specs.Terms.{Said, said_term, said_claim}
use Rattle.query_bodies.specs.Expanded.{Uses, Given, Saids, said_at, said_under, uses_in, all_uses}
use Rattle.query_bodies.specs.Measures.{Measured, Known, measured, outside, unmeasured}
use Rattle.query_laws.specs.Told.{AreTold, Fits, IsMeasured, AreMeasured, depth_of, binders_of, nodes_of}
use Rattle.query_laws.proofs.Sizes.{Size, size_ex, size_fo, size_of, ex_sums_below, fo_sums_below}
use Rattle.query_laws.proofs.Standing.{Covered, covered_none, OnEach, over_each, each_missing, over_missing}
use Rattle.query_laws.proofs.Told.{Reach, Quiet, few, many, ToldTerm, claim_term}
use Rattle.query_laws.proofs.Used.{body_told}
use Rattle.query_laws.proofs.Measured.{UseTold, UsesTold, FormsKept, term_told, claim_told}

-- # Whole expressions

-- from the start, over so many parameters
pub said_told : (cons : ConTable) (bodies : Saids) (u : Uses) (k : Known) → UsesTold cons u k → FormsKept bodies u
    → (n : ℕ) (g : Given)
    → Covered g (unmeasured n).params → (s : Said) → Fits cons bodies s → (v : Value) → said_under u g 0 s ≡ Some v
    → ToldTerm g outside (unmeasured n) (measured k n s) (size_of cons v)
said_told cons bodies u k t forms n g cov (said_term e) fits v h =
    map_there (λ z. ToldTerm g outside (unmeasured n) (measured k n (said_term e)) (size_of cons z)) term _ v h (λ x i.
    term_told cons u k t g 0 outside (unmeasured n) (omega arith) cov e x i)
said_told cons bodies u k t forms n g cov (said_claim f) fits v h =
    map_there (λ z. ToldTerm g outside (unmeasured n) (measured k n (said_claim f)) (size_of cons z)) formula _ v h (λ x i.
    claim_term g outside (unmeasured n) _ (size_of cons (formula x))
    (claim_told cons bodies u k t forms g 0 outside (unmeasured n) (omega arith) cov f x fits i))

-- # Uses

-- a use is the body of a query before
used_below : (bodies : Saids) (n decl : ℕ) (given : Given) (v : Value) → uses_in bodies n decl given ≡ Some v
    → (decl < n) × ((s : Said) × (said_at bodies decl ≡ Some s) × (said_under (uses_in bodies decl) given 0 s ≡ Some v))
used_below bodies zero decl given v h = absurd cc
used_below bodies (suc n) decl given v h = by_number (decl == n) refl h (used_below bodies n decl given v) where
  by_number : (same : Bool) → (decl == n) ≡ same
      → cond same (option_and_then (said_under (uses_in bodies n) given 0) (said_at bodies n)) (uses_in bodies n decl given) ≡
      Some v
      → (uses_in bodies n decl given ≡ Some v
      → (decl < n) × ((s : Said) × (said_at bodies decl ≡ Some s) × (said_under (uses_in bodies decl) given 0 s ≡ Some v)))
      → (decl < suc n) × ((s : Said) × (said_at bodies decl ≡ Some s) × (said_under (uses_in bodies decl) given 0 s ≡ Some v))
  by_number true e whole rest =
      let same : decl ≡ n = eqb-true decl n e in
      let less : decl < suc n = omega (arith, same) in
      let here : option_and_then (said_under (uses_in bodies decl) given 0) (said_at bodies decl) ≡ Some v =
      subst (λ m. option_and_then (said_under (uses_in bodies m) given 0) (said_at bodies m) ≡ Some v) (sym same) whole in
      then_there (said_under (uses_in bodies decl) given 0) (said_at bodies decl) v here (λ s there becomes. (
        less,
        (
          s,
          there,
          becomes,
        ),
      ))
  by_number false e whole rest =
      let found = rest whole in
      let less : decl < suc n = omega (arith, found.0) in
      (less, found.1)

pub forms_kept : (bodies : Saids) (n : ℕ) → FormsKept bodies (uses_in bodies n)
forms_kept bodies n decl given v h claim =
    let found = used_below bodies n decl given v h in
    let same : said_claim claim.0 ≡ found.1.0 = let both = sym claim.1 ∙ found.1.1 in cc in
    let here : said_under (uses_in bodies decl) given 0 (said_claim claim.0) ≡ Some v =
    subst (λ s. said_under (uses_in bodies decl) given 0 s ≡ Some v) (sym same) found.1.2 in
    map_there (λ z. z ≡ formula (as_formula z)) formula _ v here (λ f i. refl)

-- the same by what is known of the queries before
known_before : (cons : ConTable) (bodies : Saids) (k below : Known) (n : ℕ) → ((d : ℕ) → d < n → below d ≡ k d)
    → UsesTold cons (uses_in bodies n) k → UsesTold cons (uses_in bodies n) below
known_before cons bodies k below n same t decl given v h =
    let w = t decl given v h in
    let lt = (used_below bodies n decl given v h).0 in
    record { q = w.q; is = same decl lt ∙ w.is; told = w.told }

-- of one query
query_told : (cons : ConTable) (bodies : Saids) (k : Known) (n : ℕ) (s : Said) → said_at bodies n ≡ Some s
    → IsMeasured cons bodies k n s
    → UsesTold cons (uses_in bodies n) k → (given : Given) (v : Value) → said_under (uses_in bodies n) given 0 s ≡ Some v
    → UseTold cons k n given v
query_told cons bodies k n s there is t given v h = record {
  q = measured is.added.below is.params s;
  is = is.added.is;
  told = body_told is.params given (measured is.added.below is.params s) (size_of cons v)
      (said_told cons bodies (uses_in bodies n) is.added.below (known_before cons bodies k is.added.below n is.added.before t) (forms_kept bodies n)
      is.params (take is.params given) (covered_none is.params given) s is.fits v (is.over given 0 v h));
}

pub uses_told : (cons : ConTable) (bodies : Saids) (k : Known) → AreMeasured cons bodies k → (n : ℕ)
    → UsesTold cons (uses_in bodies n) k
uses_told cons bodies k all zero decl given v h = absurd cc
uses_told cons bodies k all (suc n) decl given v h = by_number (decl == n) refl h (uses_told cons bodies k all n) where
  by_number : (same : Bool) → (decl == n) ≡ same
      → cond same (option_and_then (said_under (uses_in bodies n) given 0) (said_at bodies n)) (uses_in bodies n decl given) ≡
      Some v
      → UsesTold cons (uses_in bodies n) k → UseTold cons k decl given v
  by_number true e whole before =
      subst (λ m. UseTold cons k m given v) (sym (eqb-true decl n e))
      (then_there (said_under (uses_in bodies n) given 0) (said_at bodies n) v whole (λ s there becomes.
      query_told cons bodies k n s there (all n s there) before given v becomes))
  by_number false e whole before = before decl given v whole

-- # What is told of a value

reads_same : (a b : Bool) → (a ≡ false → b ≡ false) → (b ≡ false → a ≡ false) → a ≡ b
reads_same true true there back = refl
reads_same false false there back = refl
reads_same true false there back = absurd (let clash = back refl in cc)
reads_same false true there back = absurd (let clash = there refl in cc)

told_of : (cons : ConTable) (v : Value) (s : Size) (m : Measured) → depth_of v ≡ s.depth → binders_of cons v ≡ s.binders
    → nodes_of v ≡ s.nodes → reads v ≡ s.reads → s.sums ≤ s.nodes
    → ToldTerm [] outside (unmeasured 0) m s
    → AreTold cons v m.facts
told_of cons v s m depth binders nodes reading few_sums t =
    let deep : (limit : ℕ) → OnEach (Reach limit) [] m.params = λ limit. each_missing (Reach limit) (λ z. tt) m.params in
    let quiet : OnEach Quiet [] m.params = each_missing Quiet (λ z. tt) m.params in
    let no_few : over_each few [] m.params ≡ 0 = over_missing few (λ z. refl) m.params in
    let no_many : over_each many [] m.params ≡ 0 = over_missing many (λ z. refl) m.params in
    record {
      depth = λ limit lt. (
        (λ le. let r = t.deep_in limit lt tt (le, deep limit) in omega (arith, r, depth)),
        (λ le. (t.deep_out limit lt tt (omega arith, tt) (omega (arith, le, depth))).0),
      );
      binders = λ limit lt. (
        (λ le. let r = t.wide_in limit lt (omega arith) le in omega (arith, r, binders)),
        (λ le. t.wide_out limit lt (omega arith) (omega (arith, le, binders))),
      );
      reads_is = reads_same m.facts.reads s.reads (λ e. t.silent_in (e, quiet)) (λ e. (t.silent_out (refl, tt) e).0)
          ∙ sym reading;
      least = λ limit lt le. let r = t.low limit lt (omega (arith, le, no_few)) in omega (arith, r, nodes);
      greatest = let r = t.high in omega (arith, r, no_many, nodes, few_sums);
    }

value_told : (cons : ConTable) (v : Value) (m : Measured) → ToldTerm [] outside (unmeasured 0) m (size_of cons v)
    → AreTold cons v m.facts
value_told cons (term e) m t = told_of cons (term e) (size_ex e) m refl refl refl refl (ex_sums_below e) t
value_told cons (formula f) m t = told_of cons (formula f) (size_fo cons f) m refl refl refl refl (fo_sums_below f) t

pub measures_told : (cons : ConTable) (bodies : Saids) (k : Known) → AreMeasured cons bodies k → (s : Said)
    → Fits cons bodies s → (v : Value)
    → said_under (all_uses bodies) [] 0 s ≡ Some v → AreTold cons v (measured k 0 s).facts
measures_told cons bodies k all s fits v h =
    value_told cons v (measured k 0 s)
    (said_told cons bodies (all_uses bodies) k (uses_told cons bodies k all (length bodies)) (forms_kept bodies (length
    bodies)) 0 [] tt s
    fits v h)
