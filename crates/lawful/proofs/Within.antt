-- Where no limit is passed, each count is within its limit.
use Rattle.std.proofs.Common.{◌≡◌, ◌-◌, ℕ, Bool, true, false, cond, List, [], ◌∷◌, length, Option, Some, None, refl}
use Rattle.std.specs.Prelude.{find, nat_le, option_map}
use Rattle.std.specs.List.{AllByRecursion, list_all, list_any}
use Rattle.std.proofs.lemmas.Bool.{and_from, and_parts, not-false, or_parts}
use Rattle.rp_grammar.specs.Trees.{DeclTree}
use Rattle.rp_grammar.specs.Texts.{IsText}
use Rattle.rp_lang.specs.declared.limit.LimitName.TheVariants.{Depth, Quantifiers, Nodes, Statements}
use Rattle.rp_lang.specs.Formulas.{Fo}
use Rattle.rp_lang.specs.Programs.{Inv, Prog}
use Rattle.rp_lang.specs.Sizes.{fo_depth, sts_count}
use Rattle.rp_lang.specs.Bounds.{fo_binders, fo_weight, is_small_fo}
use Rattle.rp_lang.specs.Types.{has_few_types, are_within_parts}
use Rattle.rp_lang.specs.Typing.{in_invariant, is_typed}
use Rattle.rp_lang.specs.WellFormed.{are_invs, is_invariant}
use Rattle.desugaring.specs.Limits.{Passed, is_deep, binds_much, is_large, is_past, has_long_path, limits, first_limit, some_expression, HasProgram}
use Rattle.lawful.proofs.Invariants.{invs_typed}

none_passes : {X : Type 0} (test : X → Bool) (xs : List X) → find test xs ≡ None → AllByRecursion (λ x. test x ≡ false) xs
none_passes test [] e = tt
none_passes {X} test (x ∷ xs) e = by_test test x xs (test x) refl e (none_passes test xs) where
  by_test : {X : Type 0} (test : X → Bool) (x : X) (xs : List X) (holds : Bool) → test x ≡ holds → cond holds (Some x) (find test xs) ≡ None
      → (find test xs ≡ None → AllByRecursion (λ y. test y ≡ false) xs) → AllByRecursion (λ y. test y ≡ false) (x ∷ xs)
  by_test test x xs true is e rest = absurd cc
  by_test test x xs false is e rest = (is, rest e)

none_mapped : {X Y : Type 0} (f : X → Y) (o : Option X) → option_map f o ≡ None → o ≡ None
none_mapped f None e = refl
none_mapped f (Some x) e = absurd cc

-- the tests of all limits, in their order
pub record Within (p : Prog) : Type 0 where
  pub depth : some_expression is_deep p ≡ false
  pub types : has_few_types p.types p.cons ≡ true
  pub parts : are_within_parts p.types p.cons 0 p.types.datatypes ≡ true
  pub roots : nat_le (length p.roots) 64 ≡ true
  pub operations : nat_le (length p.ops - 1) 256 ≡ true
  pub paths : has_long_path p ≡ false
  pub procs : nat_le (length p.procs) 64 ≡ true
  pub invs : nat_le (length p.invs) 64 ≡ true
  pub statements : list_any (λ proc. is_past Statements (sts_count proc.body)) p.procs ≡ false
  pub binders : some_expression (binds_much p) p ≡ false
  pub nodes : some_expression (is_large p) p ≡ false

pub within : (p : Prog) → first_limit p ≡ None → Within p
within p none =
    let all = none_passes (λ (l : Passed). l.is_passed) (limits p) (none_mapped (λ (l : Passed). l.limit) _ none) in
    record {
      depth = all.0;
      types = not-false _ all.1.0;
      parts = not-false _ all.1.1.0;
      roots = not-false _ all.1.1.1.0;
      operations = not-false _ all.1.1.1.1.0;
      paths = all.1.1.1.1.1.0;
      procs = not-false _ all.1.1.1.1.1.1.0;
      invs = not-false _ all.1.1.1.1.1.1.1.0;
      statements = all.1.1.1.1.1.1.1.1.0;
      binders = all.1.1.1.1.1.1.1.1.1.0;
      nodes = all.1.1.1.1.1.1.1.1.1.1.0;
    }

-- # Formulas

pub small_fo : (p : Prog) (f : Fo) → is_past Depth (fo_depth f) ≡ false → is_past Quantifiers (fo_binders p.cons f) ≡ false
    → is_past Nodes (fo_weight p.cons [] f) ≡ false → is_small_fo p.cons f ≡ true
small_fo p f depth binders nodes = and_from _ _ (and_from _ _ (not-false _ depth) (not-false _ binders)) (not-false _ nodes)

-- # Invariants

invs_small : (p : Prog) (invs : List Inv) → list_any (λ (i : Inv). is_past Depth (fo_depth i.body)) invs ≡ false
    → list_any (λ (i : Inv). is_past Quantifiers (fo_binders p.cons i.body)) invs ≡ false
    → list_any (λ (i : Inv). is_past Nodes (fo_weight p.cons [] i.body)) invs ≡ false
    → list_all (λ (i : Inv). is_typed p in_invariant [] i.body) invs ≡ true → list_all (is_invariant p) invs ≡ true
invs_small p [] depth binders nodes typed = refl
invs_small p (i ∷ invs) depth binders nodes typed =
    let d = or_parts (is_past Depth (fo_depth i.body)) _ depth in
    let b = or_parts (is_past Quantifiers (fo_binders p.cons i.body)) _ binders in
    let n = or_parts (is_past Nodes (fo_weight p.cons [] i.body)) _ nodes in
    let t = and_parts (is_typed p in_invariant [] i.body) _ typed in
    and_from (is_invariant p i) _ (and_from (is_small_fo p.cons i.body) _ (small_fo p i.body d.0 b.0 n.0) t.0) (invs_small p invs d.1 b.1 n.1 t.1)

pub invs_well_formed : (bytes : List ℕ) (tree : List DeclTree) → IsText bytes tree → (p : Prog) → HasProgram tree p → are_invs p ≡ true
invs_well_formed bytes tree text p has =
    let w = within p has.1 in
    and_from (nat_le (length p.invs) 64) _ w.invs
    (invs_small p p.invs (or_parts _ _ w.depth).0 (or_parts _ _ w.binders).0 (or_parts _ _ w.nodes).0 (invs_typed bytes tree text p has.0))
