-- Variables that are declared later: raised before a block's statements, lowered as each is passed.
use Rattle.std.proofs.Common.{◌≡◌, ℕ, ◌+◌, ◌-◌, Bool, true, false, not, cond, List, [], ◌∷◌, ◌++◌, None, refl, sym, ap, ◌∙◌, arith}
use Rattle.std.specs.Prelude.{if◌then◌else◌}
use Rattle.std.specs.List.{count_by}
use Rattle.std.proofs.lemmas.Cmp.{nat_list_eq_equiv}
use Rattle.std.proofs.lemmas.List.Sums.{sum_by-cons}
use Rattle.rp_grammar.specs.Trees.{StmtTree, StmtTrees}
use Rattle.type_rules.specs.Names.{Name, same_name}
use Rattle.type_rules.specs.StmtSites.{declared_in}
use Rattle.type_tables.specs.Counts.{Counts, IsCounted, count_in, one_less, one_more}
use Rattle.type_tables.specs.Flags.{flag_at}
use Rattle.type_tables.specs.Tables.{Entries}
use Rattle.type_faults.specs.declared.walk.Walk.{Walk}
use Rattle.type_faults.specs.Walks.{Lowers, Raises, Walks, own_names, stand_of}
use Rattle.type_faults.proofs.Meeting.{declared_own}
use Rattle.type_faults.proofs.Walked.{none_marked}

abbrev one_if : Bool → ℕ
one_if b = cond b 1 0

counted_cons : (x y : Name) (names : List Name) → count_by (same_name x) (y ∷ names) ≡ one_if (same_name x y) + count_by (same_name x) names
counted_cons x y names = sum_by-cons (λ z. cond (same_name x z) 1 0) y names

counted_append : (x : Name) (a b : List Name) → count_by (same_name x) (a ++ b) ≡ count_by (same_name x) a + count_by (same_name x) b
counted_append x [] b = omega arith
counted_append x (y ∷ a) b =
    let later = counted_append x a b in
    let whole = counted_cons x y (a ++ b) in
    let part = counted_cons x y a in
    omega (arith, later, whole, part)

pub raised : (old new : Entries) (y : Name) (own : List Name) → count_in new ≡ one_more y (count_in old) → own ≡ y ∷ []
    → (x : Name) → count_in new x ≡ count_in old x + count_by (same_name x) own
raised old new y own e is x =
    ap (λ (f : Counts). f x) e ∙ by (same_name y x) (nat_list_eq_equiv.symm x y) (counted_cons x y [])
    ∙ ap (λ l. count_in old x + count_by (same_name x) l) (sym is)
  where
    by : (b : Bool) → same_name x y ≡ b → count_by (same_name x) (y ∷ []) ≡ one_if (same_name x y) + 0
        → (if b then count_in old x + 1 else count_in old x) ≡ count_in old x + count_by (same_name x) (y ∷ [])
    by true s one = let n : one_if (same_name x y) ≡ 1 = ap one_if s in omega (arith, n, one)
    by false s one = let n : one_if (same_name x y) ≡ 0 = ap one_if s in omega (arith, n, one)

pub lowered : (old new : Entries) (y : Name) (own : List Name) → count_in new ≡ one_less y (count_in old) → own ≡ y ∷ []
    → (x : Name) → count_in new x ≡ count_in old x - count_by (same_name x) own
lowered old new y own e is x =
    ap (λ (f : Counts). f x) e ∙ by (same_name y x) (nat_list_eq_equiv.symm x y) (counted_cons x y [])
    ∙ ap (λ l. count_in old x - count_by (same_name x) l) (sym is)
  where
    by : (b : Bool) → same_name x y ≡ b → count_by (same_name x) (y ∷ []) ≡ one_if (same_name x y) + 0
        → (if b then count_in old x - 1 else count_in old x) ≡ count_in old x - count_by (same_name x) (y ∷ [])
    by true s one = let n : one_if (same_name x y) ≡ 1 = ap one_if s in omega (arith, n, one)
    by false s one = let n : one_if (same_name x y) ≡ 0 = ap one_if s in omega (arith, n, one)

pub none_raised : (es : Entries) (own : List Name) → own ≡ [] → (x : Name) → count_in es x ≡ count_in es x + count_by (same_name x) own
none_raised es own e x = let none : count_by (same_name x) own ≡ 0 = ap (count_by (same_name x)) e in omega (arith, none)

pub none_lowered : (es : Entries) (own : List Name) → own ≡ [] → (x : Name) → count_in es x ≡ count_in es x - count_by (same_name x) own
none_lowered es own e x = let none : count_by (same_name x) own ≡ 0 = ap (count_by (same_name x)) e in omega (arith, none)

-- # Through a block

-- with those of the rest, all are raised
pub record RaisedSo (a b : Walk) (rest all : StmtTrees) : Type 0 where
  pub counts : (x : Name) → count_in b.later x + count_by (same_name x) (declared_in rest) ≡ count_in a.later x + count_by (same_name x) (declared_in all)
  pub stands : stand_of b ≡ stand_of a
  pub used : b.used ≡ a.used

pub raised_next : {a b c : Walk} {s : StmtTree} {rest all : StmtTrees} → RaisedSo a b (StmtTrees.more_stmts s rest) all
    → Raises b c (own_names s) → RaisedSo a c rest all
raised_next {a} {b} {c} {s} {rest} {all} v r = record {
  counts = λ x.
      let before = v.counts x in
      let one = r.counts x in
      let split : count_by (same_name x) (declared_in (StmtTrees.more_stmts s rest)) ≡ count_by (same_name x) (own_names s) + count_by (same_name x) (declared_in rest) =
      ap (count_by (same_name x)) (declared_own s rest) ∙ counted_append x (own_names s) (declared_in rest) in
      omega (arith, before, one, split);
  stands = r.stands ∙ v.stands;
  used = r.used ∙ v.used;
}

pub raised_ended : {a b : Walk} {rest all : StmtTrees} → RaisedSo a b rest all → rest ≡ StmtTrees.no_stmts → Raises a b (declared_in all)
raised_ended {a} {b} {rest} {all} v e = record {
  counts = λ x.
      let before = v.counts x in
      let none : count_by (same_name x) (declared_in rest) ≡ 0 = ap (λ l. count_by (same_name x) (declared_in l)) e in
      omega (arith, before, none);
  stands = v.stands;
  used = v.used;
}

pub raised_walk : {a b : Walk} {own : List Name} (later : List Name) → Raises a b own → IsCounted a.later later
    → Walks (own ++ later) a b None (λ p. []) (λ p. p.sight)
raised_walk {a} {b} {own} later r counted = record {
  fault_is = refl;
  marks = ap flag_at r.used ∙ sym (none_marked (not a.words) (flag_at a.used));
  stands = r.stands;
  counted = λ x.
      let now = r.counts x in
      let was = counted x in
      let split = counted_append x own later in
      omega (arith, now, was, split);
}

pub lowered_walk : {a b : Walk} {own later : List Name} → Lowers a b own → IsCounted a.later (own ++ later)
    → Walks later a b None (λ p. []) (λ p. p.sight)
lowered_walk {a} {b} {own} {later} r counted = record {
  fault_is = refl;
  marks = ap flag_at r.used ∙ sym (none_marked (not a.words) (flag_at a.used));
  stands = r.stands;
  counted = λ x.
      let now = r.counts x in
      let was = counted x in
      let split = counted_append x own later in
      omega (arith, now, was, split);
}
