-- The numbers of datatypes and of their constructors.
use Rattle.std.proofs.Common.{◌≡◌, ℕ, suc, ◌+◌, ◌<◌, Bool, true, false, ◌&&◌, ◌||◌, cond, List, [], ◌∷◌, ◌++◌, length, map, Option, Some, None, refl, sym, ap, subst, ◌∙◌, arith, true≢false}
use Rattle.std.specs.Prelude.{flat_map, unwrap_or}
use Rattle.std.specs.List.{position_from}
use Rattle.std.specs.Option.{is_some, option_and_then, option_map}
use Rattle.std.proofs.lemmas.Bool.{and_left, false_from_ne_true}
use Rattle.std.proofs.lemmas.List.{length-append}
use Rattle.std.proofs.lemmas.Iterator.Adapters.{position_from-zero}
use Rattle.rp_ast.specs.declared.decl.ConNode.{ConNode}
use Rattle.rp_ast.specs.View.{con_view}
use Rattle.type_tables.specs.Tables.{place_from}
use Rattle.type_rules.specs.declared.kind.Kind.{Kind}
use Rattle.type_rules.specs.Names.{Name, Names, same_name}
use Rattle.type_rules.specs.Matches.{Case, cases_of, con_case}
use Rattle.desugaring.specs.Appearances.{same_kind}
use Rattle.desugaring.specs.Tables.{Con, cons_of}
use Rattle.text_kinds.specs.Numbered.{con_place, has_kind, numbered}
use Rattle.text_kinds.specs.declared.numbers.Numbers.{Numbers}
use Rattle.text_kinds.specs.means.Rows.{numbers, numbers_in, place_of}
use Rattle.text_kinds.proofs.KindsAdded.{kind_one, no_place}

-- # Datatypes

pub number_is : (n : Names) (i f : ℕ) (xs : List Kind) (k : Kind)
    → option_map (λ (r : Numbers). r.number) (numbers_in n i f xs k) ≡ position_from (same_kind k) i xs
number_is n i f [] k = refl
number_is n i f (x ∷ xs) k = by (same_kind k x) (number_is n (i + 1) (f + length (cons_of n x)) xs k)
  where
    by : (b : Bool) → option_map (λ (r : Numbers). r.number) (numbers_in n (i + 1) (f + length (cons_of n x)) xs k)
        ≡ position_from (same_kind k) (i + 1) xs
        → option_map (λ (r : Numbers). r.number) (cond b (Some (numbers i f))
        (numbers_in n (i + 1) (f + length (cons_of n x)) xs k))
        ≡ cond b (Some i) (position_from (same_kind k) (i + 1) xs)
    by true later = refl
    by false later = later

pub has_is : (n : Names) (i f : ℕ) (xs : List Kind) (k : Kind) → is_some (numbers_in n i f xs k) ≡ has_kind xs k
has_is n i f [] k = refl
has_is n i f (x ∷ xs) k = by (same_kind k x) (has_is n (i + 1) (f + length (cons_of n x)) xs k)
  where
    by : (b : Bool) → is_some (numbers_in n (i + 1) (f + length (cons_of n x)) xs k) ≡ has_kind xs k
        → is_some (cond b (Some (numbers i f)) (numbers_in n (i + 1) (f + length (cons_of n x)) xs k)) ≡ (b || has_kind xs k)
    by true later = refl
    by false later = later

-- one more that is another keeps the numbers
pub numbers_other : (n : Names) (i f : ℕ) (xs : List Kind) (y k : Kind) → same_kind k y ≡ false
    → numbers_in n i f (xs ++ y ∷ []) k ≡ numbers_in n i f xs k
numbers_other n i f [] y k e = ap (λ b. cond b (Some (numbers i f)) None) e
numbers_other n i f (x ∷ xs) y k e =
    ap (cond (same_kind k x) (Some (numbers i f))) (numbers_other n (i + 1) (f + length (cons_of n x)) xs y k e)

-- a new one has the next
pub numbers_new : (n : Names) (i f : ℕ) (xs : List Kind) (y k : Kind) → has_kind xs k ≡ false → same_kind k y ≡ true
    → numbers_in n i f (xs ++ y ∷ []) k ≡ Some (numbers (i + length xs) (f + length (flat_map (cons_of n) xs)))
numbers_new n i f [] y k none e =
    ap (λ b. cond b (Some (numbers i f)) None) e
    ∙ ap (λ m. Some (numbers m f)) (omega arith) ∙ ap (λ m. Some (numbers (i + 0) m)) (omega arith)
numbers_new n i f (x ∷ xs) y k none e =
    by (same_kind k x) (λ h. numbers_new n (i + 1) (f + length (cons_of n x)) xs y k h e) none
  where
    by : (b : Bool)
        → (has_kind xs k ≡ false → numbers_in n (i + 1) (f + length (cons_of n x)) (xs ++ y ∷ []) k
        ≡ Some (numbers (i + 1 + length xs) (f + length (cons_of n x) + length (flat_map (cons_of n) xs))))
        → (b || has_kind xs k) ≡ false
        → cond b (Some (numbers i f)) (numbers_in n (i + 1) (f + length (cons_of n x)) (xs ++ y ∷ []) k)
        ≡ Some (numbers (i + length (x ∷ xs)) (f + length (cons_of n x ++ flat_map (cons_of n) xs)))
    by true later none = absurd (true≢false none)
    by false later none =
        later none
        ∙ ap (λ m. Some (numbers m (f + length (cons_of n x) + length (flat_map (cons_of n) xs)))) (omega arith)
        ∙ ap (λ m. Some (numbers (i + length (x ∷ xs)) m))
        (omega (arith, length-append (cons_of n x) (flat_map (cons_of n) xs)))

-- # Constructors

abbrev named : Name → Case → Bool
named x c = same_name c.name x

abbrev is_con : Kind → Name → Con → Bool
is_con k x c = same_kind c.of k && same_name c.name x

abbrev con_in : Kind → Case → Con
con_in d c = record { name = c.name; of = d; fields = c.fields }

abbrev first_of : Option ℕ → Option ℕ → Option ℕ
first_of (Some p) o = Some p
first_of None o = o

-- the constructors of another type
others : (d k : Kind) (x : Name) (f : ℕ) (cs : List Case) (rest : List Con) → same_kind d k ≡ false
    → position_from (is_con k x) f (map (con_in d) cs ++ rest) ≡ position_from (is_con k x) (f + length (map (con_in d) cs)) rest
others d k x f [] rest e = ap (λ m. position_from (is_con k x) m rest) (omega arith)
others d k x f (c ∷ cs) rest e =
    ap (λ b. cond (b && same_name c.name x) (Some f) (position_from (is_con k x) (f + 1) (map (con_in d) cs ++ rest))) e
    ∙ others d k x (f + 1) cs rest e
    ∙ ap (λ m. position_from (is_con k x) m rest) (omega arith)

-- its own
own : (k : Kind) (x : Name) (f : ℕ) (cs : List Case) (rest : List Con) → same_kind k k ≡ true
    → position_from (is_con k x) f (map (con_in k) cs ++ rest)
    ≡ first_of (position_from (named x) f cs) (position_from (is_con k x) (f + length (map (con_in k) cs)) rest)
own k x f [] rest e = ap (λ m. position_from (is_con k x) m rest) (omega arith)
own k x f (c ∷ cs) rest e =
    ap (λ b. cond (b && same_name c.name x) (Some f) (position_from (is_con k x) (f + 1) (map (con_in k) cs ++ rest))) e
    ∙ by (same_name c.name x) (own k x (f + 1) cs rest e)
  where
    by : (b : Bool)
        → position_from (is_con k x) (f + 1) (map (con_in k) cs ++ rest)
        ≡ first_of (position_from (named x) (f + 1) cs) (position_from (is_con k x) (f + 1 + length (map (con_in k) cs)) rest)
        → cond b (Some f) (position_from (is_con k x) (f + 1) (map (con_in k) cs ++ rest))
        ≡ first_of (cond b (Some f) (position_from (named x) (f + 1) cs))
        (position_from (is_con k x) (f + suc (length (map (con_in k) cs))) rest)
    by true later = refl
    by false later =
        later ∙ ap (λ m. first_of (position_from (named x) (f + 1) cs) (position_from (is_con k x) m rest)) (omega arith)

shifted : {X : Type 0} (p : X → Bool) (f i : ℕ) (xs : List X)
    → position_from p (f + i) xs ≡ option_map (λ q. f + q) (position_from p i xs)
shifted p f i [] = refl
shifted p f i (x ∷ xs) = by (p x) (shifted p f (i + 1) xs)
  where
    by : (b : Bool) → position_from p (f + (i + 1)) xs ≡ option_map (λ q. f + q) (position_from p (i + 1) xs)
        → cond b (Some (f + i)) (position_from p (f + i + 1) xs)
        ≡ option_map (λ q. f + q) (cond b (Some i) (position_from p (i + 1) xs))
    by true later = refl
    by false later = ap (λ m. position_from p m xs) (omega arith) ∙ later

from_first : {X : Type 0} (p : X → Bool) (f : ℕ) (xs : List X) → position_from p f xs ≡ option_map (λ q. f + q)
    (position_from p 0 xs)
from_first p f xs = ap (λ m. position_from p m xs) (omega arith) ∙ shifted p f 0 xs

pub below : {X : Type 0} (p : X → Bool) (i : ℕ) (xs : List X) (q : ℕ) → position_from p i xs ≡ Some q → q < i + length xs
below p i [] q e = absurd cc
below p i (x ∷ xs) q e = by (p x) (below p (i + 1) xs q) e
  where
    by : (b : Bool) → (position_from p (i + 1) xs ≡ Some q → q < i + 1 + length xs)
        → cond b (Some i) (position_from p (i + 1) xs) ≡ Some q → q < i + suc (length xs)
    by true later e = let here : i ≡ q = ap (λ o. unwrap_or o i) e in omega arith
    by false later e = let behind = later e in omega arith

self_of : (k j : Kind) → same_kind k j ≡ true → same_kind k k ≡ true
self_of k j e = subst (λ d. same_kind k d ≡ true) (sym (kind_one k j e)) e

turned : (k j : Kind) → same_kind k j ≡ false → same_kind j k ≡ false
turned k j e =
    false_from_ne_true (same_kind j k) (λ h. true≢false
    (sym (subst (λ d. same_kind d j ≡ true) (kind_one j k h) (self_of j k h)) ∙ e))

cases : Names → Kind → List Case
cases n k = unwrap_or (cases_of n k) []

-- where a type has none of this name, none is found
nowhere : (n : Names) (k : Kind) (x : Name) (f : ℕ) (xs : List Kind) → position_from (named x) 0 (unwrap_or (cases_of n k) [])
    ≡ None
    → position_from (is_con k x) f (flat_map (cons_of n) xs) ≡ None
nowhere n k x f [] none = refl
nowhere n k x f (j ∷ xs) none = by (same_kind j k) (λ f. nowhere n k x f xs none) refl
  where
    by : (b : Bool) → ((f : ℕ) → position_from (is_con k x) f (flat_map (cons_of n) xs) ≡ None) → same_kind j k ≡ b
        → position_from (is_con k x) f (cons_of n j ++ flat_map (cons_of n) xs) ≡ None
    by false later e =
        others j k x f (unwrap_or (cases_of n j) []) (flat_map (cons_of n) xs) e ∙ later (f + length (cons_of n j))
    by true later e =
        let same : j ≡ k = kind_one j k e in
        let self : same_kind k k ≡ true = subst (λ d. same_kind d k ≡ true) same e in
        ap (λ d. position_from (is_con k x) f (cons_of n d ++ flat_map (cons_of n) xs)) same
        ∙ own k x f (unwrap_or (cases_of n k) []) (flat_map (cons_of n) xs) self
        ∙ ap (λ o. first_of o (position_from (is_con k x) (f + length (cons_of n k)) (flat_map (cons_of n) xs)))
        (from_first (named x) f (unwrap_or (cases_of n k) []) ∙ ap (option_map (λ q. f + q)) none)
        ∙ later (f + length (cons_of n k))

abbrev behind : Option ℕ → Numbers → Option ℕ
behind o r = option_map (λ q. r.first + q) o

con_found : (n : Names) (k : Kind) (x : Name) (i f : ℕ) (xs : List Kind)
    → position_from (is_con k x) f (flat_map (cons_of n) xs)
    ≡ option_and_then (behind (position_from (named x) 0 (unwrap_or (cases_of n k) []))) (numbers_in n i f xs k)
con_found n k x i f [] = refl
con_found n k x i f (j ∷ xs) =
    by (same_kind k j) (con_found n k x (i + 1) (f + length (cons_of n j)) xs) refl
  where
    there : (o : Option ℕ) → position_from (named x) 0 (unwrap_or (cases_of n k) []) ≡ o
        → first_of (option_map (λ q. f + q) o) (position_from (is_con k x) (f + length (cons_of n k)) (flat_map (cons_of n) xs))
        ≡ option_map (λ q. f + q) o
    there (Some q) e = refl
    there None e = nowhere n k x (f + length (cons_of n k)) xs e

    by : (b : Bool)
        → position_from (is_con k x) (f + length (cons_of n j)) (flat_map (cons_of n) xs)
        ≡ option_and_then (behind (position_from (named x) 0 (unwrap_or (cases_of n k) [])))
        (numbers_in n (i + 1) (f + length (cons_of n j)) xs k)
        → same_kind k j ≡ b
        → position_from (is_con k x) f (cons_of n j ++ flat_map (cons_of n) xs)
        ≡ option_and_then (behind (position_from (named x) 0 (unwrap_or (cases_of n k) [])))
        (cond b (Some (numbers i f)) (numbers_in n (i + 1) (f + length (cons_of n j)) xs k))
    by false later e =
        others j k x f (unwrap_or (cases_of n j) []) (flat_map (cons_of n) xs) (turned k j e) ∙ later
    by true later e =
        ap (λ d. position_from (is_con k x) f (cons_of n d ++ flat_map (cons_of n) xs)) (sym (kind_one k j e))
        ∙ own k x f (unwrap_or (cases_of n k) []) (flat_map (cons_of n) xs) (self_of k j e)
        ∙ ap (λ o. first_of o (position_from (is_con k x) (f + length (cons_of n k)) (flat_map (cons_of n) xs)))
        (from_first (named x) f (unwrap_or (cases_of n k) []))
        ∙ there (position_from (named x) 0 (unwrap_or (cases_of n k) [])) refl

-- the constructor's place is that of the first of its datatype and its own among these
pub con_number_is : (n : Names) (kinds : List Kind) (k : Kind) (x : Name)
    → con_place (numbered n kinds) k x
    ≡ option_and_then (behind (position_from (λ (c : Case). same_name c.name x) 0 (unwrap_or (cases_of n k) [])))
    (numbers_in n 0 0 kinds k)
con_number_is n kinds k x = position_from-zero (is_con k x) (flat_map (cons_of n) kinds) ∙ con_found n k x 0 0 kinds

pub con_within : (n : Names) (kinds : List Kind) (k : Kind) (x : Name) (q : ℕ)
    → con_place (numbered n kinds) k x ≡ Some q → q < length (flat_map (cons_of n) kinds)
con_within n kinds k x q e =
    omega (
      arith,
      below (is_con k x) 0 (flat_map (cons_of n) kinds) q
          (sym (position_from-zero (is_con k x) (flat_map (cons_of n) kinds)) ∙ e),
    )

-- what has no place has no numbers
pub numbers_none : (n : Names) (i f : ℕ) (xs : List Kind) (k : Kind) → place_of k.base ≡ None → numbers_in n i f xs k ≡ None
numbers_none n i f [] k e = refl
numbers_none n i f (x ∷ xs) k e =
    ap (λ b. cond b (Some (numbers i f)) (numbers_in n (i + 1) (f + length (cons_of n x)) xs k))
    (and_left _ _ (no_place k.base x.base e))
    ∙ numbers_none n (i + 1) (f + length (cons_of n x)) xs k e

pub con_there : (n : Names) (kinds : List Kind) (k : Kind) (x : Name) (r : Numbers) (p q : ℕ) → numbers_in n 0 0 kinds k ≡ Some r
    → position_from (λ (c : Case). same_name c.name x) 0 (unwrap_or (cases_of n k) []) ≡ Some p → q ≡ r.first + p
    → con_place (numbered n kinds) k x ≡ Some q
con_there n kinds k x r p q e h is =
    con_number_is n kinds k x
    ∙ ap (option_and_then (behind (position_from (named x) 0 (unwrap_or (cases_of n k) [])))) e
    ∙ ap (λ o. option_map (λ q. r.first + q) o) h ∙ ap Some (sym is)

-- a datatype that has no constructor of this name
pub con_absent : (n : Names) (kinds : List Kind) (k : Kind) (x : Name) (r : Numbers) → numbers_in n 0 0 kinds k ≡ Some r
    → position_from (λ (c : Case). same_name c.name x) 0 (unwrap_or (cases_of n k) []) ≡ None → con_place (numbered n kinds) k x
    ≡ None
con_absent n kinds k x r e h =
    con_number_is n kinds k x
    ∙ ap (option_and_then (behind (position_from (named x) 0 (unwrap_or (cases_of n k) [])))) e
    ∙ ap (λ o. option_map (λ q. r.first + q) o) h

-- a type that isn't there
pub con_nowhere : (n : Names) (kinds : List Kind) (k : Kind) (x : Name) → numbers_in n 0 0 kinds k ≡ None
    → con_place (numbered n kinds) k x ≡ None
con_nowhere n kinds k x e =
    con_number_is n kinds k x ∙ ap (option_and_then (behind (position_from (named x) 0 (unwrap_or (cases_of n k) [])))) e

pub cons_place : (n : Names) (cs : List ConNode) (x : Name) (k : ℕ)
    → place_from k (map (λ (con : ConNode). con.name.text) cs) x ≡ position_from (λ (c : Case). same_name c.name x) k
    (map (con_case n) (map con_view cs))
cons_place n [] x k = refl
cons_place n (c ∷ cs) x k = ap (cond (same_name c.name.text x) (Some k)) (cons_place n cs x (k + 1))
