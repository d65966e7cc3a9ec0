-- The arms of a lawful `match` are those of the matched datatype, each once.
use Rattle.std.proofs.Common.{◌≡◌, ◌+◌, ◌<◌, ℕ, zero, suc, Bool, true, false, List, [], ◌∷◌, ◌++◌, map, length, Option, Some, None, ◌||◌, inl, inr, refl, ap, subst, sym, ◌∙◌, arith}
use Rattle.std.specs.Prelude.{is_some, nat_eq, slice_get, option_map, unwrap_or}
use Rattle.std.specs.List.{AllByRecursion, IsDistinct, list_any}
use Rattle.std.specs.Cmp.{both_ways}
use Rattle.std.proofs.lemmas.Bool.{and_from, and_parts, eq-eqb, eqb-true, not-false, or_cases, or_left, or_parts, or_right, true≢false, false_from_ne_true}
use Rattle.std.proofs.lemmas.Slice.Eq.{bytes_eq-Decides}
use Rattle.std.proofs.lemmas.List.{length-map}
use Rattle.std.proofs.lemmas.Cmp.{nat_eq_equiv}
use Rattle.std.proofs.lemmas.Map.Keys.{IsDistinct-cons, IsDistinct-head, IsDistinct-tail}
use Rattle.std.proofs.lemmas.Map.Made.{length-from_same_keys}
use Rattle.std.proofs.lemmas.Option.{slice_get-map, slice_get_within}
use Rattle.rp_span.specs.declared.Span.{Span}
use Rattle.rp_value.specs.declared.tables.Ty.{Ty}
use Rattle.rp_value.specs.declared.tables.Ty.TheVariants as ty
use Rattle.rp_grammar.specs.Trees.{ExprArmTree, ExprArmTrees}
use Rattle.rp_lang.specs.Formulas.{Arms}
use Rattle.rp_lang.specs.Programs.{Prog}
use Rattle.rp_lang.specs.Types.{cons_of}
use Rattle.rp_lang.specs.Typing.{is_among, cover, are_cases, arm_cons}
use Rattle.type_rules.specs.declared.kind.Kind.{Kind}
use Rattle.type_rules.specs.Names.{Name, Names, same_name}
use Rattle.type_rules.specs.Sites.{Scope, Site}
use Rattle.type_rules.specs.Matches.{Case, cases_of, pattern_name}
use Rattle.type_rules.specs.ExprSites.{arm_names, arm_sites, expr_sites, pattern_sites, with_pattern, bool_whole}
use Rattle.type_rules.specs.Rules.{has_every_case, is_complete, is_datatype_kind}
use Rattle.desugaring.specs.Appearances.{same_kind}
use Rattle.desugaring.specs.Parts.{Pointwise, no_members, more_members}
use Rattle.desugaring.specs.Tables.{Tables, cons_of as cons_of_kind, type_table, con_table, up_from, ty_of, datatype_number, con_number}
use Rattle.desugaring.specs.Callees.{Vars}
use Rattle.desugaring.specs.Meanings.{ArmsMean}
use Rattle.desugaring.proofs.Options.{map_there}
use Rattle.desugaring.proofs.Fields.{arm_con}
use Rattle.lawful.specs.Kept.{Kept, AllKept}
use Rattle.lawful.proofs.Basics.{when_not, split, known}
use Rattle.lawful.proofs.Forms.{one}
use Rattle.lawful.proofs.Cons.{ty_parts, con_in}
use Rattle.lawful.proofs.Distinct.{at_place, any_place, place_any, unique, Fresh, fresh_distinct, up_in, up_at, up_all, up_distinct, up_length}
use Rattle.lawful.proofs.Distinct as distinct
use Rattle.lawful.proofs.Blocks.{start, decl_at, its_own, Numbered, numbered}

-- # Names

pub same_text : (x y : Name) → same_name x y ≡ true → x ≡ y
same_text x y e = (bytes_eq-Decides x y).0 e

abbrev pub flipped : Name → Name → Bool
flipped x y = same_name y x

abbrev pub case_name : Case → Name
case_name c = c.name

-- # Arms, by their names and numbers

abbrev pub IsNumber : Tables → Kind → Name → ℕ → Type 0
IsNumber t k x con = con_number t k x ≡ Some con

pub arm_numbers : (t : Tables) (b : ℕ) (vs : Vars) (k : Kind) (arms : ExprArmTrees) (made : Arms) → ArmsMean t b vs k arms made
    → Pointwise (IsNumber t k) (arm_names arms) (arm_cons made)
arm_numbers t b vs k arms made ArmsMean.no_arms = no_members
arm_numbers t b vs k arms made (ArmsMean.more_arms {p = q} {con = con} found m ms) =
    more_members (arm_con t k q con found).0 (arm_numbers t b vs k _ _ ms)

-- each arm's constructor is none of those before it
pub arms_fresh : (n : Names) (words : ℕ → Bool) (sc : Scope) (k : Kind) (before : List Name) (arms : ExprArmTrees)
    → AllKept n words (arm_sites n sc k before arms) → Fresh same_name before (arm_names arms)
arms_fresh n words sc k before ExprArmTrees.no_expr_arms kept = tt
arms_fresh n words sc k before (ExprArmTrees.more_expr_arms (ExprArmTree.arm q e) arms) kept =
    let rest = split n words (pattern_sites n sc.vars k before q ++ expr_sites n (with_pattern n sc k q) bool_whole e) _ kept in
    ((or_parts _ _ (when_not _ _ rest.0.0.t18)).0, arms_fresh n words sc k (pattern_name q ∷ before) arms rest.1)

-- # They are those of the datatype

-- what is known of a datatype's cases
pub record Known (t : Tables) (p : Prog) (k : Kind) (cs : List Case) (n : ℕ) : Type 0 where
  pub table : con_table t ≡ Some p.cons
  pub types : p.types ≡ type_table t
  pub kinds : IsDistinct same_kind t.datatypes
  pub cases : cases_of t.names k ≡ Some cs
  pub names : IsDistinct flipped (map case_name cs)
  pub number : datatype_number t k ≡ Some n

abbrev first : (t : Tables) → ℕ → ℕ
first t n = start t.names 0 t.datatypes n

of_datatype : (t : Tables) (p : Prog) (k : Kind) (cs : List Case) (n : ℕ) → Known t p k cs n → cons_of p.types n ≡ up_from (first t n) (length cs)
of_datatype t p k cs n is =
    subst (λ types. cons_of types n ≡ up_from (first t n) (length cs)) (sym is.types)
    (decl_at t.names 0 t.datatypes n k (its_own t k n is.number).0
    ∙ ap (up_from (first t n)) (subst (λ m. length (cons_of_kind t.names k) ≡ m) (length-map cs (con_in k)) (ap (λ o. length (map (con_in k) (unwrap_or o []))) is.cases)))

numbers_of : (t : Tables) (p : Prog) (k : Kind) (cs : List Case) (n : ℕ) → Known t p k cs n → (x : Name) (con : ℕ) → con_number t k x ≡ Some con
    → Numbered t k cs n x con
numbers_of t p k cs n is x con e = numbered t p is.table is.kinds k cs n is.cases is.number x con e

-- two names of one number are one
one_name : (t : Tables) (p : Prog) (k : Kind) (cs : List Case) (n : ℕ) → Known t p k cs n → (x y : Name) (con : ℕ)
    → con_number t k x ≡ Some con → con_number t k y ≡ Some con → same_name y x ≡ true
one_name t p k cs n is x y con e h =
    let a = numbers_of t p k cs n is x con e in
    let b = numbers_of t p k cs n is y con h in
    let place : a.place ≡ b.place = omega (arith, a.number, b.number) in
    let case : a.case ≡ b.case = one (sym a.there ∙ ap (slice_get cs) place ∙ b.there) in
    let first_name : a.case.name ≡ x = same_text _ _ a.named in
    let other_name : a.case.name ≡ y = ap case_name case ∙ same_text _ _ b.named in
    subst (λ z. same_name z x ≡ true) other_name a.named

-- different names have different numbers
numbers_differ : (t : Tables) (p : Prog) (k : Kind) (cs : List Case) (n : ℕ) → Known t p k cs n → (xs : List Name) (found : List ℕ)
    → Pointwise (IsNumber t k) xs found → IsDistinct flipped xs → IsDistinct nat_eq found
numbers_differ t p k cs n is xs found no_members d = distinct.no_members nat_eq
numbers_differ t p k cs n is xs found (more_members {x} {y = con} {xs = others} {ys = cons} e es) d =
    IsDistinct-cons nat_eq con cons (apart t p k cs n is x con others cons e es (IsDistinct-head flipped x others d))
    (numbers_differ t p k cs n is others cons es (IsDistinct-tail flipped x others d)) where
      apart : (t : Tables) (p : Prog) (k : Kind) (cs : List Case) (n : ℕ) → Known t p k cs n → (x : Name) (con : ℕ) (xs : List Name) (found : List ℕ)
          → con_number t k x ≡ Some con → Pointwise (IsNumber t k) xs found → AllByRecursion (λ y. flipped x y ≡ false) xs
          → AllByRecursion (λ other. nat_eq con other ≡ false) found
      apart t p k cs n is x con xs found e no_members all = tt
      apart t p k cs n is x con xs found e (more_members {x = y} {y = other} h hs) all = (
        false_from_ne_true _ (λ same. true≢false (sym (one_name t p k cs n is x y con e (h ∙ ap Some (sym (eqb-true con other same)))) ∙ all.0)),
        apart t p k cs n is x con _ _ e hs all.1,
      )

-- each is one of the datatype's
found_inside : (t : Tables) (p : Prog) (k : Kind) (cs : List Case) (n : ℕ) → Known t p k cs n → (xs : List Name) (found : List ℕ)
    → Pointwise (IsNumber t k) xs found → (q : ℕ) → is_among q found ≡ true → is_among q (up_from (first t n) (length cs)) ≡ true
found_inside t p k cs n is xs found no_members q e = absurd cc
found_inside t p k cs n is xs found (more_members {x} {y = con} {ys = cons} h hs) q e = elim (or_cases (nat_eq q con) (is_among q cons) e) [
  | inl same ↦
      let a = numbers_of t p k cs n is x con h in
      let at : first t n + a.place ≡ q = omega (arith, a.number, eqb-true q con same) in
      subst (λ z. is_among z (up_from (first t n) (length cs)) ≡ true) at (up_at (first t n) (length cs) a.place (slice_get_within cs a.place a.case a.there))
  | inr rest ↦ found_inside t p k cs n is _ cons hs q rest
]

-- the number of the arm at a place
number_at : (t : Tables) (k : Kind) (xs : List Name) (found : List ℕ) (i : ℕ) (x : Name) → Pointwise (IsNumber t k) xs found → slice_get xs i ≡ Some x
    → (con : ℕ) × (con_number t k x ≡ Some con) × (is_among con found ≡ true)
number_at t k xs found i x no_members is = absurd cc
number_at t k xs found zero x (more_members {x = y} {y = con} h hs) is =
    (con, subst (λ z. con_number t k z ≡ Some con) (one is) h, or_left _ _ (eq-eqb con con refl))
number_at t k xs found (suc i) x (more_members h hs) is =
    let rest = number_at t k _ _ i x hs is in (rest.0, rest.1, or_right _ _ rest.2)

case_there : (names : List Name) (cs : List Case) (i : ℕ) (c : Case) → has_every_case names cs ≡ true → slice_get cs i ≡ Some c → list_any (same_name c.name) names ≡ true
case_there names [] i c e is = absurd cc
case_there names (x ∷ xs) zero c e is = subst (λ z. list_any (same_name z.name) names ≡ true) (one is) (and_parts _ _ e).0
case_there names (x ∷ xs) (suc i) c e is = case_there names xs i c (and_parts _ _ e).1 is

place_of : (cs : List Case) (i : ℕ) → i < length cs → (c : Case) × (slice_get cs i ≡ Some c)
place_of [] i lt = absurd (omega (arith, lt))
place_of (c ∷ cs) zero lt = (c, refl)
place_of (c ∷ cs) (suc i) lt = place_of cs i (omega (arith, lt))

-- each of the datatype's has an arm
has_arm : (t : Tables) (p : Prog) (k : Kind) (cs : List Case) (n : ℕ) → Known t p k cs n → (xs : List Name) (found : List ℕ)
    → Pointwise (IsNumber t k) xs found → has_every_case xs cs ≡ true → (i : ℕ) → i < length cs → is_among (first t n + i) found ≡ true
has_arm t p k cs n is xs found all every i lt =
    let c = place_of cs i lt in
    let arm = any_place (same_name c.0.name) xs (case_there xs cs i c.0 every c.1) in
    let number = number_at t k xs found arm.0 arm.1 all arm.2 in
    let a = numbers_of t p k cs n is arm.1 number.0 number.1 in
    let same : c.0.name ≡ a.case.name = same_text _ _ arm.3 ∙ sym (same_text _ _ a.named) in
    let own : same_name c.0.name c.0.name ≡ true = subst (λ z. same_name c.0.name z ≡ true) (sym (same_text _ _ arm.3)) arm.3 in
    let place : i ≡ a.place = unique flipped (map case_name cs) i a.place c.0.name a.case.name is.names
    (slice_get-map case_name cs i ∙ ap (option_map case_name) c.1)
    (slice_get-map case_name cs a.place ∙ ap (option_map case_name) a.there)
    (subst (λ z. same_name z c.0.name ≡ true) same own) (subst (λ z. same_name c.0.name z ≡ true) same own) in
    let at : number.0 ≡ first t n + i = omega (arith, a.number, place) in
    subst (λ z. is_among z found ≡ true) at number.2

pub arms_cover : (t : Tables) (p : Prog) (k : Kind) (cs : List Case) (n : ℕ) → Known t p k cs n → (xs : List Name) (found : List ℕ)
    → Pointwise (IsNumber t k) xs found → IsDistinct flipped xs → has_every_case xs cs ≡ true → cover found (cons_of p.types n) ≡ true
arms_cover t p k cs n is xs found all differ every =
    let block = up_from (first t n) (length cs) in
    let back : (q : ℕ) → is_among q block ≡ true → is_among q found ≡ true = λ q e.
    let at = up_in (first t n) (length cs) q e in
    subst (λ z. is_among z found ≡ true) (sym at.2) (has_arm t p k cs n is xs found all every at.0 at.1) in
    let size : length found ≡ length block = length-from_same_keys nat_eq_equiv found block (numbers_differ t p k cs n is xs found all differ)
    (up_distinct (first t n) (length cs)) (λ q. both_ways _ _ (found_inside t p k cs n is xs found all q) (back q)) in
    subst (λ list. cover found list ≡ true) (sym (of_datatype t p k cs n is))
    (and_from _ _ (eq-eqb _ _ size) (up_all (λ con. is_among con found) (first t n) (length cs) (has_arm t p k cs n is xs found all every)))

-- # The law

-- the cases of each type have different names
abbrev pub CasesDiffer : Names → Type 0
CasesDiffer n = (k : Kind) (cs : List Case) → cases_of n k ≡ Some cs → IsDistinct flipped (map case_name cs)

pub there_are_cases : (a : Bool) (o : Option (List Case)) → a ≡ false → (a || is_some o) ≡ true → (cs : List Case) × (o ≡ Some cs)
there_are_cases true o e h = absurd cc
there_are_cases false None e h = absurd cc
there_are_cases false (Some cs) e h = (cs, refl)

pub cases_fit : (t : Tables) (p : Prog) → con_table t ≡ Some p.cons → p.types ≡ type_table t → IsDistinct same_kind t.datatypes → CasesDiffer t.names
    → (k : Kind) (of : Ty) (names : List Name) (found : List ℕ) → ty_of t k ≡ Some of → is_datatype_kind t.names k ≡ true
    → Pointwise (IsNumber t k) names found → IsDistinct flipped names → is_complete names (cases_of t.names k) ≡ true → are_cases p (Some of) found ≡ true
cases_fit t p table types kinds differ k of names found is on_data numbers distinct complete =
    let cs = there_are_cases _ (cases_of t.names k) (known t k of is) on_data in
    let every : has_every_case names cs.0 ≡ true = subst (λ o. is_complete names o ≡ true) cs.1 complete in
    map_there (λ z. are_cases p (Some z) found ≡ true) ty.Datatype (datatype_number t k) of (sym (ty_parts t k.base k.maybes cs.0 cs.1) ∙ is) (λ n number.
    arms_cover t p k cs.0 n
    (record { table = table; types = types; kinds = kinds; cases = cs.1; names = differ k cs.0 cs.1; number = number }) names found numbers distinct every)

pub cases_are : (t : Tables) (p : Prog) (words : ℕ → Bool) → con_table t ≡ Some p.cons → p.types ≡ type_table t → IsDistinct same_kind t.datatypes
    → CasesDiffer t.names
    → (b : ℕ) (vs : Vars) (k : Kind) (of : Ty) (arms : ExprArmTrees) (made : Arms) (at : Span) (sc : Scope) → ty_of t k ≡ Some of
    → is_datatype_kind t.names k ≡ true → ArmsMean t b vs k arms made → Kept t.names words (Site.arms at k (arm_names arms))
    → AllKept t.names words (arm_sites t.names sc k [] arms) → are_cases p (Some of) (arm_cons made) ≡ true
cases_are t p words table types kinds differ b vs k of arms made at sc is on_data ms here kept =
    cases_fit t p table types kinds differ k of (arm_names arms) (arm_cons made) is on_data (arm_numbers t b vs k arms made ms)
    (fresh_distinct same_name [] (arm_names arms) (arms_fresh t.names words sc k [] arms kept)).1 (not-false _ (when_not _ _ here.t18))
