-- The constructors of a type of the program have numbers.
use Rattle.std.proofs.Common.{◌≡◌, ◌+◌, ◌-◌, ℕ, zero, suc, Bool, true, false, ◌&&◌, ◌==◌, List, [], ◌∷◌, map, length, Option, Some, None, refl, ap, subst, sym, ◌∙◌, cond, arith, inl, inr}
use Rattle.std.specs.Prelude.{slice_get, unwrap_or, codes}
use Rattle.std.proofs.lemmas.Bool.{and_from, eq-eqb, eqb-true, ne_eqb, not-false, or_parts}
use Rattle.rp_value.specs.declared.tables.Ty.TheVariants as ty
use Rattle.rp_grammar.specs.Trees.{PatternTree}
use Rattle.type_rules.specs.declared.kind.Kind.{Kind}
use Rattle.type_rules.specs.Names.{Name, same_name}
use Rattle.type_rules.specs.declared.kind.Base.{Base}
use Rattle.type_rules.specs.Kinds.{is_any, is_unknown, maybe_of, unknown_kind}
use Rattle.type_rules.specs.Typing.{asked_inside, none_kind}
use Rattle.type_rules.specs.Sites.{Site}
use Rattle.type_rules.specs.Matches.{Case, case, find_case, cases_of, case_named, case_fields, maybe_cases, pattern_con, pattern_vars, pattern_name, pattern_kinds}
use Rattle.type_rules.specs.Rules.{rule, rules, rule18, is_datatype_kind, is_case, case_takes}
use Rattle.type_rules.specs.Faults.{IsOneOf}
use Rattle.desugaring.specs.Parts.{each}
use Rattle.desugaring.specs.Appearances.{same_kind}
use Rattle.desugaring.specs.Tables.{Tables, Con, cons, cons_of, con_number, arm_number, datatype_number, with_fields}
use Rattle.desugaring.specs.Expressions.{word_none, word_some}
use Rattle.desugaring.proofs.Options.{both_is, map_there, then_is}
use Rattle.lawful.specs.Typed.{IsKnown}
use Rattle.lawful.proofs.Arms.{there_are_cases}
use Rattle.lawful.proofs.Basics.{kind_one, when_not}
use Rattle.lawful.proofs.Cons.{Named, con_in, first_of_position, in_types, is_con, no_con, ty_parts}
use Rattle.lawful.proofs.Listed.{in_flat, position_there}
use Rattle.lawful.proofs.Maybes.{maybe_there}
use Rattle.lawful.proofs.Places.{is_one_of}
use Rattle.lawful_programs.specs.Valued.{Sound, IsWhole, AskedWhole}
use Rattle.lawful_programs.proofs.Wholes.{kind_self, whole_known, whole_not_any}

-- # First places

each_self : {X : Type 0} (xs : List X) → each (λ x. Some x) xs ≡ Some xs
each_self [] = refl
each_self (x ∷ xs) = both_is ◌∷◌ (Some x) (each (λ z. Some z) xs) x xs refl (each_self xs)

-- the datatype that has a number is among them
pub among : (t : Tables) (k : Kind) (i : ℕ) → datatype_number t k ≡ Some i → IsOneOf k t.datatypes
among t k i is =
    let f = first_of_position (same_kind k) (λ z. Some z) t.datatypes t.datatypes i k (each_self t.datatypes) is in
    subst (λ z. IsOneOf z t.datatypes) (sym (kind_one k f.member f.passes)) (is_one_of t.datatypes i f.member f.at)

-- a type that has constructors
pub cases_among : (t : Tables) (k : Kind) (cs : List Case) → IsKnown t k → cases_of t.names k ≡ Some cs → IsOneOf k t.datatypes
cases_among t k cs known_ are =
    map_there (λ z. IsOneOf k t.datatypes) ty.Datatype (datatype_number t k) known_.0 (sym (ty_parts t k.base k.maybes cs are) ∙ known_.1)
    (λ i is. among t k i is)

-- # The constructor of a case

pub in_map : {X Y : Type 0} (f : X → Y) (x : X) (xs : List X) → IsOneOf x xs → IsOneOf (f x) (map f xs)
in_map f x [] at = absurd at
in_map f x (z ∷ xs) (inl h) = inl (ap f h)
in_map f x (z ∷ xs) (inr h) = inr (in_map f x xs h)

case_found : (cs : List Case) (x : Name) (c : Case) → find_case cs x ≡ Some c → IsOneOf c cs × (same_name c.name x ≡ true)
case_found [] x c e = absurd cc
case_found (z ∷ cs) x c e = by_name z cs x c (same_name z.name x) refl e (case_found cs x c) where
  by_name : (z : Case) (cs : List Case) (x : Name) (c : Case) (same : Bool) → same_name z.name x ≡ same → cond same (Some z) (find_case cs x) ≡ Some c
      → (find_case cs x ≡ Some c → IsOneOf c cs × (same_name c.name x ≡ true)) → IsOneOf c (z ∷ cs) × (same_name c.name x ≡ true)
  by_name z cs x c true is e rest = let h : z ≡ c = cc in (inl h, subst (λ y. same_name y.name x ≡ true) h is)
  by_name z cs x c false is e rest = let r = rest e in (inr r.0, r.1)

pub record HasCon (t : Tables) (k : Kind) (x : Name) (fields : List Kind) : Type 0 where
  pub con : ℕ
  pub is : con_number t k x ≡ Some con
  pub z : Con
  pub at : slice_get (cons t) con ≡ Some z
  pub same : z.fields ≡ fields

pub con_there : (t : Tables) (k : Kind) (x : Name) (cs : List Case) (c : Case) → IsKnown t k → is_any k.base ≡ false → cases_of t.names k ≡ Some cs
    → find_case cs x ≡ Some c → HasCon t k x c.fields
con_there t k x cs c known_ sure are found =
    let f = case_found cs x c found in
    let own : cons_of t.names k ≡ map (con_in k) cs = ap (λ o. map (con_in k) (unwrap_or o [])) are in
    let member = subst (λ zs. IsOneOf (con_in k c) zs) (sym own) (in_map (con_in k) c cs f.0) in
    let all = in_flat (cons_of t.names) t.datatypes k (con_in k c) (cases_among t k cs known_ are) member in
    let there = position_there (is_con k x) (con_in k c) (cons t) (and_from (same_kind k k) (same_name c.name x) (kind_self k sure) f.1) all in
    let first = first_of_position (is_con k x) (λ z. Some z) (cons t) (cons t) there.0 no_con (each_self (cons t)) there.1 in
    let named : Named t.names k x first.member = in_types t.names k x t.datatypes first.member first.first in
    record {
      con = there.0;
      is = there.1;
      z = first.member;
      at = first.at;
      same = sym named.0 ∙ ap (λ o. case_fields (case_named o x)) are ∙ ap case_fields found;
    }

-- # Patterns

with_so_many : (many : ℕ) (cs : List Con) (n : ℕ) (z : Con) → slice_get cs n ≡ Some z → length z.fields ≡ many → with_fields many cs n ≡ Some n
with_so_many many cs n z at long = rw (at, eq-eqb (length z.fields) many long) refl

pub record HasArm (t : Tables) (k : Kind) (q : PatternTree) : Type 0 where
  pub con : ℕ
  pub is : arm_number t k q ≡ Some con
  pub many : length (pattern_kinds t.names k (pattern_name q)) ≡ length (pattern_vars q)

takes : (many : ℕ) (o : Option Case) → case_takes many o ≡ true → (c : Case) × (o ≡ Some c) × (length c.fields ≡ many)
takes many None e = absurd cc
takes many (Some c) e = (c, refl, eqb-true (length c.fields) many e)

pub arm_there : (t : Tables) (k : Kind) (before : List Name) (q : PatternTree) → IsWhole t k → is_datatype_kind t.names k ≡ true
    → Sound t (Site.pattern k before (pattern_con q) (length (pattern_vars q))) → HasArm t k q
arm_there t k before q whole data_ sound =
    let n = t.names in
    let sure = whole_not_any t k whole in
    let cs = there_are_cases (is_any k.base) (cases_of n k) sure data_ in
    let law = or_parts _ _ (when_not _ _ (sound.0 (rule 18 rule18) (is_one_of rules 17 _ refl))) in
    let found = takes (length (pattern_vars q)) (find_case cs.0 (pattern_name q))
    (subst (λ o. is_case (pattern_name q) (length (pattern_vars q)) o ≡ true) cs.1 (not-false _ law.1)) in
    let has = con_there t k (pattern_name q) cs.0 found.0 (whole_known t k whole) sure cs.1 found.1 in
    record {
      con = has.con;
      is = then_is (with_fields (length (pattern_vars q)) (cons t)) (con_number t k (pattern_name q)) has.con has.con has.is
          (with_so_many (length (pattern_vars q)) (cons t) has.con has.z has.at (ap length has.same ∙ found.2));
      many = ap (λ o. length (case_fields (case_named o (pattern_name q)))) cs.1 ∙ ap (λ o. length (case_fields o)) found.1 ∙ found.2;
    }

-- # `none` and `some`

pub none_number : (t : Tables) (asked : Option Kind) → IsWhole t (none_kind asked) → (con : ℕ) × (con_number t (none_kind asked) word_none ≡ Some con)
none_number t None whole = absurd (open_any (whole_not_any t (none_kind None) whole)) where
  open_any : is_any (none_kind None).base ≡ false → ⊥
  open_any e = absurd cc
none_number t (Some k) whole = by_maybes t k.base k.maybes whole where
  by_maybes : (t : Tables) (b : Base) (m : ℕ) → IsWhole t (none_kind (Some (record { base = b; maybes = m })))
      → (con : ℕ) × (con_number t (none_kind (Some (record { base = b; maybes = m }))) word_none ≡ Some con)
  by_maybes t b zero whole = absurd (unknown_any (whole_not_any t unknown_kind whole)) where
    unknown_any : is_any unknown_kind.base ≡ false → ⊥
    unknown_any e = absurd cc
  by_maybes t b (suc m) whole =
      let all : Kind = record { base = b; maybes = suc m } in
      let same : none_kind (Some all) ≡ all = ap (λ z. cond z unknown_kind all) (ne_eqb (suc m) 0 (omega arith)) in
      let there = subst (IsWhole t) same whole in
      let sure = whole_not_any t all there in
      let k : Kind = record { base = b; maybes = m } in
      let has = con_there t all word_none (maybe_cases k) (case (codes "none") []) (whole_known t all there) sure (maybe_there t.names k sure) refl in
      (has.con, ap (λ z. con_number t z word_none) same ∙ has.is)

pub some_number : (t : Tables) (k : Kind) → IsWhole t (maybe_of k) → (con : ℕ) × (con_number t (maybe_of k) word_some ≡ Some con)
some_number t k whole =
    let next : k.maybes + 1 ≡ suc k.maybes = omega arith in
    let all : Kind = record { base = k.base; maybes = suc k.maybes } in
    let there : IsWhole t all = subst (λ m. IsWhole t (record { base = k.base; maybes = m })) next whole in
    let sure = whole_not_any t all there in
    let has = con_there t all word_some (maybe_cases k) (case (codes "some") (k ∷ [])) (whole_known t all there) sure (maybe_there t.names k sure) refl in
    (has.con, ap (λ m. con_number t (record { base = k.base; maybes = m }) word_some) next ∙ has.is)

-- what the place inside `some` asks
pub inside_whole : (t : Tables) (asked : Option Kind) → AskedWhole t asked → AskedWhole t (asked_inside asked)
inside_whole t None whole = tt
inside_whole t (Some k) whole = by_tests t k (is_unknown k.base && k.maybes == 0) (k.maybes == 0) whole where
  by_tests : (t : Tables) (k : Kind) (a z : Bool) → IsWhole t k
      → AskedWhole t (cond a (Some k) (cond z None (Some (record { base = k.base; maybes = k.maybes - 1 }))))
  by_tests t k true z whole = whole
  by_tests t k false true whole = tt
  by_tests t k false false whole = λ m e. whole m (omega (arith, e))
