-- Where a datatype's constructors stand in the table of all: one after the other, from one number on.
use Rattle.std.proofs.Common.{◌≡◌, ◌+◌, ℕ, zero, suc, true, List, [], ◌∷◌, ◌++◌, map, length, Some, refl, ap, subst, sym, ◌∙◌, arith, ◌⊎◌, inl, inr}
use Rattle.std.specs.Prelude.{slice_get, unwrap_or, flat_map, get_or}
use Rattle.std.specs.List.{IsDistinct}
use Rattle.std.proofs.lemmas.Bool.{and_parts}
use Rattle.std.proofs.lemmas.Option.{slice_get-map, slice_get-get_or}
use Rattle.std.proofs.lemmas.List.Quantifiers.{position-Some}
use Rattle.rp_lang.specs.Programs.{Prog}
use Rattle.rp_lang.specs.Types.{cons_in}
use Rattle.type_rules.specs.declared.kind.Kind.{Kind}
use Rattle.type_rules.specs.Names.{Name, Names, same_name}
use Rattle.type_rules.specs.Kinds.{bool_kind}
use Rattle.type_rules.specs.Matches.{Case, cases_of}
use Rattle.desugaring.specs.Appearances.{same_kind, each_once}
use Rattle.desugaring.specs.Tables.{Tables, Con, cons, cons_of, data_decls, up_from, datatype_number, con_number, con_table}
use Rattle.desugaring.proofs.Options.{map_there}
use Rattle.desugaring.proofs.Fields.{table_there}
use Rattle.lawful.proofs.Basics.{kind_one}
use Rattle.lawful.proofs.Forms.{one}
use Rattle.lawful.proofs.Distinct.{unique, distinct_without, no_members}
use Rattle.lawful.proofs.Cons.{first_of_position, is_con, con_in, no_con}
use Rattle.desugaring.specs.Tables.{con_decl}

-- # The datatypes differ

pub kinds_differ : (ks : List Kind) → IsDistinct same_kind (each_once ks)
kinds_differ [] = no_members same_kind
kinds_differ (k ∷ ks) = distinct_without same_kind k (each_once ks) (kinds_differ ks)

-- a type is its own where it is one of the program
pub its_own : (t : Tables) (k : Kind) (n : ℕ) → datatype_number t k ≡ Some n → (slice_get t.datatypes n ≡ Some k) × (same_kind k k ≡ true)
its_own t k n e =
    let found = position-Some (same_kind k) t.datatypes n bool_kind e in
    let same : k ≡ get_or t.datatypes n bool_kind = kind_one k _ found.1 in
    (slice_get-get_or t.datatypes n bool_kind found.0 ∙ ap Some (sym same), subst (λ z. same_kind k z ≡ true) (sym same) found.1)

-- # Blocks

-- the number of the first constructor of the datatype at a place, where those of the first one begin at `next`
abbrev pub start : Names → ℕ → List Kind → ℕ → ℕ
start n next [] j = next
start n next (d ∷ ds) zero = next
start n next (d ∷ ds) (suc j) = start n (next + length (cons_of n d)) ds j

pub decl_at : (n : Names) (next : ℕ) (ds : List Kind) (j : ℕ) (d : Kind) → slice_get ds j ≡ Some d
    → cons_in (slice_get (data_decls n next ds) j) ≡ up_from (start n next ds j) (length (cons_of n d))
decl_at n next [] j d is = absurd cc
decl_at n next (x ∷ xs) zero d is = ap (λ z. up_from next (length (cons_of n z))) (one is)
decl_at n next (x ∷ xs) (suc j) d is = decl_at n (next + length (cons_of n x)) xs j d is

-- in one part of a list or the other
pub either_at : {X : Type 0} (as_ bs : List X) (c : ℕ) (z : X) → slice_get (as_ ++ bs) c ≡ Some z
    → (slice_get as_ c ≡ Some z) ⊎ ((d : ℕ) × (c ≡ length as_ + d) × (slice_get bs d ≡ Some z))
either_at [] bs c z is = inr (c, omega arith, is)
either_at (a ∷ as_) bs zero z is = inl is
either_at (a ∷ as_) bs (suc c) z is = elim (either_at as_ bs c z is) [
  | inl h ↦ inl h
  | inr h ↦ inr (h.0, omega (arith, h.1), h.2)
]

pub case_at : (k : Kind) (cs : List Case) (i : ℕ) (z : Con) → slice_get (map (con_in k) cs) i ≡ Some z
    → (c : Case) × (slice_get cs i ≡ Some c) × (con_in k c ≡ z)
case_at k cs i z is =
    map_there (λ y. (c : Case) × (slice_get cs i ≡ Some c) × (con_in k c ≡ y)) (con_in k) (slice_get cs i) z (sym (slice_get-map (con_in k) cs i) ∙ is)
    (λ c e. (c, e, refl))

-- the constructor stands in the block of its type
pub con_at : (n : Names) (next : ℕ) (ds : List Kind) (c : ℕ) (z : Con) → slice_get (flat_map (cons_of n) ds) c ≡ Some z
    → (j i : ℕ) × (slice_get ds j ≡ Some z.of) × (slice_get (cons_of n z.of) i ≡ Some z) × (next + c ≡ start n next ds j + i)
con_at n next [] c z is = absurd cc
con_at n next (d ∷ ds) c z is = elim (either_at (cons_of n d) (flat_map (cons_of n) ds) c z is) [
  | inl h ↦
      let case = case_at d (unwrap_or (cases_of n d) []) c z h in
      let same : d ≡ z.of = ap (λ y. y.of) case.2 in
      (0, c, ap Some same, subst (λ k. slice_get (cons_of n k) c ≡ Some z) same h, refl)
  | inr h ↦
      let rest = con_at n (next + length (cons_of n d)) ds h.0 z h.2 in
      (suc rest.0, rest.1, rest.2, rest.3, omega (arith, rest.4, h.1))
]

-- # A constructor's number

-- the constructor of that number is the case at a place of the type's cases, as far behind the first one
pub record Numbered (t : Tables) (k : Kind) (cs : List Case) (n : ℕ) (x : Name) (con : ℕ) : Type 0 where
  pub place : ℕ
  pub case : Case
  pub there : slice_get cs place ≡ Some case
  pub named : same_name case.name x ≡ true
  pub number : con ≡ start t.names 0 t.datatypes n + place

pub numbered : (t : Tables) (p : Prog) → con_table t ≡ Some p.cons → IsDistinct same_kind t.datatypes
    → (k : Kind) (cs : List Case) (n : ℕ) → cases_of t.names k ≡ Some cs → datatype_number t k ≡ Some n
    → (x : Name) (con : ℕ) → con_number t k x ≡ Some con → Numbered t k cs n x con
numbered t p table differ k cs n of is x con e =
    let f = first_of_position (is_con k x) (con_decl t) (cons t) p.cons.cons con no_con (table_there t p.cons table) e in
    let tests = and_parts (same_kind f.member.of k) (same_name f.member.name x) f.passes in
    let same : f.member.of ≡ k = kind_one _ _ tests.0 in
    let own = its_own t k n is in
    let at = con_at t.names 0 t.datatypes con f.member f.at in
    let j : at.0 ≡ n = unique same_kind t.datatypes at.0 n f.member.of k differ at.2 own.0
    (subst (λ z. same_kind z k ≡ true) (sym same) own.1) (subst (λ z. same_kind k z ≡ true) (sym same) own.1) in
    let here : slice_get (map (con_in k) cs) at.1 ≡ Some f.member =
    subst (λ o. slice_get (map (con_in k) (unwrap_or o [])) at.1 ≡ Some f.member) of
    (subst (λ z. slice_get (cons_of t.names z) at.1 ≡ Some f.member) same at.3) in
    let case = case_at k cs at.1 f.member here in
    let number : con ≡ start t.names 0 t.datatypes at.0 + at.1 = omega (arith, at.4) in
    record {
      place = at.1;
      case = case.0;
      there = case.1;
      named = subst (λ y. same_name y x ≡ true) (sym (ap (λ z. z.name) case.2)) tests.1;
      number = number ∙ ap (λ z. start t.names 0 t.datatypes z + at.1) j;
    }
