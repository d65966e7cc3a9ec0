-- What a signature keeps, fact by fact.
use Rattle.std.proofs.Common.{◌≡◌, ℕ, zero, suc, ◌+◌, List, [], ◌∷◌, length, Bool, true, false, ◌&&◌, ◌||◌, IsTrue, refl, ap, subst, slice_get, Option, Some, None, eqb, eqb-true, arith}
use Rattle.std.specs.List.{list_all}
use Rattle.std.proofs.lemmas.Bool.{and_parts}
use Rattle.std.proofs.lemmas.Option.{same_Some}
use Rattle.rp_logic.specs.declared.sort.Sort.{Sort}
use Rattle.rp_logic.specs.declared.sort.Sort.TheVariants as sort
use Rattle.rp_logic.specs.declared.sort.LogicCon.{LogicCon}
use Rattle.rp_logic.specs.Signatures.{Signature, is_int, is_str, is_con_of, listed, contains, are_own, list_their_own, are_listed, are_of_sorts, has_one_int_and_str, is_signature}
use Rattle.rp_logic.proofs.SortLaws.{no, one_place, HasOneIntAndStr, ones}

abbrev pub KeepsAll : Signature → Type 0
KeepsAll S = IsTrue (is_signature S.sorts S.consts S.fns S.rels S.cons)

pub record IsKept (S : Signature) : Type 0 where
  pub one_int : (r s : ℕ) → is_int (slice_get S.sorts r) ≡ true
      → is_int (slice_get S.sorts s) ≡ true → r ≡ s
  pub one_str : (r s : ℕ) → is_str (slice_get S.sorts r) ≡ true
      → is_str (slice_get S.sorts s) ≡ true → r ≡ s
  pub of_datatype : (c s : ℕ) → is_con_of (slice_get S.cons c) s ≡ true
      → (cons : List ℕ) × (slice_get S.sorts s ≡ Some (sort.Datatype cons))
  -- a datatype lists its constructors, and no others
  pub listed : (s c : ℕ) (cons : List ℕ) → slice_get S.sorts s ≡ Some (sort.Datatype cons)
      → is_con_of (slice_get S.cons c) s ≡ true → (k : ℕ) × (slice_get cons k ≡ Some c)
  pub own_listed : (s c k : ℕ) (cons : List ℕ) → slice_get S.sorts s ≡ Some (sort.Datatype cons)
      → slice_get cons k ≡ Some c → is_con_of (slice_get S.cons c) s ≡ true

-- # Lists

place_of : (numbers : List ℕ) (n : ℕ) → contains numbers n ≡ true
    → (k : ℕ) × (slice_get numbers k ≡ Some n)
place_of [] n h = no h
place_of (m ∷ numbers) n h = by (eqb m n) refl h (place_of numbers n)
  where
    by : (b : Bool) → eqb m n ≡ b → b || contains numbers n ≡ true
        → (contains numbers n ≡ true → (k : ℕ) × (slice_get numbers k ≡ Some n))
        → (k : ℕ) × (slice_get (m ∷ numbers) k ≡ Some n)
    by true e g rest = (0, ap Some (eqb-true m n e))
    by false e g rest = let r = rest g in (suc r.0, r.1)

passes_at : (test : ℕ → Bool) (numbers : List ℕ) (k n : ℕ) → list_all test numbers ≡ true
    → slice_get numbers k ≡ Some n → test n ≡ true
passes_at test [] k n h e = absurd cc
passes_at test (m ∷ numbers) zero n h e =
    subst (λ x. test x ≡ true) (same_Some m n e) (and_parts _ _ h).0
passes_at test (m ∷ numbers) (suc k) n h e =
    passes_at test numbers k n (and_parts _ _ h).1 e

-- # Datatypes and their constructors

-- a sort that lists a constructor is a datatype
lists_some : (o : Option Sort) (c : ℕ) → contains (listed o) c ≡ true
    → (cons : List ℕ) × (o ≡ Some (sort.Datatype cons)) × (contains cons c ≡ true)
lists_some (Some (sort.Datatype cons)) c h = (cons, refl, h)
lists_some (Some sort.Plain) c h = no h
lists_some (Some sort.Int) c h = no h
lists_some (Some sort.Str) c h = no h
lists_some None c h = no h

con_listed : (sorts : List Sort) (first : ℕ) (cons : List LogicCon) (c s : ℕ)
    → are_listed sorts first cons ≡ true → is_con_of (slice_get cons c) s ≡ true
    → contains (listed (slice_get sorts s)) (first + c) ≡ true
con_listed sorts first [] c s h e = no e
con_listed sorts first (con ∷ cons) zero s h e =
    let b = and_parts _ _ h in
    let at : con.sort ≡ s = eqb-true con.sort s e in
    let place : first ≡ first + 0 = omega arith in
    subst (λ n. contains (listed (slice_get sorts s)) n ≡ true) place (subst (λ r. contains (listed (slice_get sorts r)) first ≡ true) at b.0)
con_listed sorts first (con ∷ cons) (suc c) s h e =
    let b = and_parts _ _ h in
    let place : suc first + c ≡ first + suc c = omega arith in
    subst (λ n. contains (listed (slice_get sorts s)) n ≡ true) place (con_listed sorts (suc first) cons c s b.1 e)

own_at : (cons : List LogicCon) (first : ℕ) (sorts : List Sort) (s : ℕ) (x : Sort)
    → list_their_own cons first sorts ≡ true → slice_get sorts s ≡ Some x
    → are_own cons (first + s) (listed (Some x)) ≡ true
own_at cons first [] s x h e = absurd cc
own_at cons first (y ∷ sorts) zero x h e =
    let b = and_parts _ _ h in
    let place : first ≡ first + 0 = omega arith in
    subst (λ n. are_own cons n (listed (Some x)) ≡ true) place (subst (λ z. are_own cons first (listed (Some z)) ≡ true) (same_Some y x e) b.0)
own_at cons first (y ∷ sorts) (suc s) x h e =
    let b = and_parts _ _ h in
    let place : suc first + s ≡ first + suc s = omega arith in
    subst (λ n. are_own cons n (listed (Some x)) ≡ true) place (own_at cons (suc first) sorts s x b.1 e)

-- # All facts

listed_by : (S : Signature) (c s : ℕ) → are_listed S.sorts 0 S.cons ≡ true
    → is_con_of (slice_get S.cons c) s ≡ true → contains (listed (slice_get S.sorts s)) c ≡ true
listed_by S c s h e =
    let place : 0 + c ≡ c = omega arith in
    subst (λ n. contains (listed (slice_get S.sorts s)) n ≡ true) place (con_listed S.sorts 0 S.cons c s h e)

are_own_of : (S : Signature) (s : ℕ) (x : Sort) → list_their_own S.cons 0 S.sorts ≡ true
    → slice_get S.sorts s ≡ Some x → are_own S.cons s (listed (Some x)) ≡ true
are_own_of S s x h e =
    let place : 0 + s ≡ s = omega arith in
    subst (λ n. are_own S.cons n (listed (Some x)) ≡ true) place (own_at S.cons 0 S.sorts s x h e)

pub one_of_each : (S : Signature) → KeepsAll S → HasOneIntAndStr S
one_of_each S h =
    let most : Bool = are_of_sorts (length S.sorts) S.consts S.fns S.rels S.cons && has_one_int_and_str S.sorts in
    let a = and_parts _ _ h in
    let b = and_parts _ _ a.0 in
    ones S (and_parts _ _ b.0).1

pub kept : (S : Signature) → KeepsAll S → IsKept S
kept S h =
    let one = one_of_each S h in
    let most : Bool = are_of_sorts (length S.sorts) S.consts S.fns S.rels S.cons && has_one_int_and_str S.sorts in
    let a = and_parts _ _ h in
    let own = (and_parts _ _ a.0).1 in
    record {
      one_int = λ r s p q. one_place is_int refl S.sorts one.ints r s p q;
      one_str = λ r s p q. one_place is_str refl S.sorts one.strs r s p q;
      of_datatype = λ c s p. let r = lists_some (slice_get S.sorts s) c (listed_by S c s a.1 p) in (r.0, r.1);
      listed = λ s c cons e p. place_of cons c (subst (λ o. contains (listed o) c ≡ true) e (listed_by S c s a.1 p));
      own_listed = λ s c k cons e f.
          passes_at (λ x. is_con_of (slice_get S.cons x) s) cons k c
          (and_parts _ _ (are_own_of S s (sort.Datatype cons) own e)).0 f;
    }
