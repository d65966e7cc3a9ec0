-- Structures: finite data that gives the symbols of a signature their meaning.
use Rattle.std.specs.Prelude.{◌≡◌, IsTrue, ℕ, zero, suc, ℤ, pos, ◌+ℤ◌, ◌-ℤ◌, Bool, true, false, ◌&&◌, ◌==◌, nat_lt, if◌then◌else◌, List, [], ◌∷◌, get_or, slice_get, Option, Some, None}
use Rattle.rp_logic.specs.declared.sort.FnDecl.{FnDecl}
use Rattle.rp_logic.specs.declared.sort.NewConst.{NewConst}
use Rattle.rp_logic.specs.Signatures.{Signature, is_plain, is_int, is_str, is_con_of, fields_of}
use Rattle.rp_logic.specs.Sorted.{const_sort, sort_of_con}
use Rattle.rp_logic.specs.Elements.{Elem, Point, Whole, Text, Made, Elems, no_elem, also_elem, junk, same_elems}

-- # The data

-- a function: a finite table with a default, or of two numbers the sum or the difference
pub data Fun : Type 0 where
  Table : (entries : List (Elems × Elem)) (other : Elem) → Fun
  Sum Difference : Fun

-- a relation: a finite table with a default
pub record Relation : Type 0 where
  pub entries : List (Elems × Bool)
  pub other : Bool

-- what a selector gives at these elements, which aren't built with its constructor
pub record Selected : Type 0 where
  pub con : ℕ
  pub place : ℕ
  pub entries : List (Elems × Elem)

-- Each list goes by the numbers of the signature.
pub record Structure : Type 0 where
  -- the number of elements of each plain sort, which may be 0
  pub sizes : List ℕ
  pub consts : List Elem
  pub fns : List Fun
  pub rels : List Relation
  -- a default of each sort that isn't empty
  pub defaults : List Elem
  pub selected : List Selected

-- # Elements of a sort: numbers below its size, all whole numbers, all lists of bytes, all finite terms of its constructors

abbrev mutual
  pub is_elem : Signature → List ℕ → ℕ → Elem → Bool
  is_elem S sizes s (Point n) = is_plain (slice_get S.sorts s) && nat_lt n (get_or sizes s 0)
  is_elem S sizes s (Whole n) = is_int (slice_get S.sorts s)
  is_elem S sizes s (Text bytes) = is_str (slice_get S.sorts s)
  is_elem S sizes s (Made con args) = is_con_of (slice_get S.cons con) s && are_elems S sizes (fields_of (slice_get S.cons con)) args

  pub are_elems : Signature → List ℕ → List ℕ → Elems → Bool
  are_elems S sizes [] no_elem = true
  are_elems S sizes [] (also_elem x xs) = false
  are_elems S sizes (s ∷ sorts) no_elem = false
  are_elems S sizes (s ∷ sorts) (also_elem x xs) = is_elem S sizes s x && are_elems S sizes sorts xs

-- # What the symbols mean

abbrev pub look_up : {A : Type 0} → List (Elems × A) → A → Elems → A
look_up [] other xs = other
look_up (entry ∷ entries) other xs = if same_elems entry.0 xs then entry.1 else look_up entries other xs

-- an element's number: 0 of one that is no number
abbrev pub number_of : Elem → ℤ
number_of (Whole n) = n
number_of _ = pos 0

abbrev pub first_number : Elems → ℤ
first_number no_elem = pos 0
first_number (also_elem x xs) = number_of x

abbrev pub second_number : Elems → ℤ
second_number no_elem = pos 0
second_number (also_elem x xs) = first_number xs

abbrev pub apply : Option Fun → Elems → Elem
apply None xs = junk
apply (Some (Table entries other)) xs = look_up entries other xs
apply (Some Sum) xs = Whole (first_number xs +ℤ second_number xs)
apply (Some Difference) xs = Whole (first_number xs -ℤ second_number xs)

abbrev pub is_related : Option Relation → Elems → Bool
is_related None xs = false
is_related (Some r) xs = look_up r.entries r.other xs

abbrev pub default_of : Structure → ℕ → Elem
default_of M s = get_or M.defaults s junk

abbrev pub selected_at : List Selected → ℕ → ℕ → List (Elems × Elem)
selected_at [] con i = []
selected_at (entry ∷ entries) con i = if entry.con == con && entry.place == i then entry.entries else selected_at entries con i

-- what Sel(con, i, v) is where v isn't built with con: what is listed, else the default of its sort
abbrev pub elsewhere : Signature → Structure → ℕ → ℕ → Elem → Elem
elsewhere S M con i v = look_up (selected_at M.selected con i) (default_of M (get_or (fields_of (slice_get S.cons con)) i 0)) (also_elem v no_elem)

abbrev pub nth_elem : Elems → ℕ → Elem
nth_elem no_elem i = junk
nth_elem (also_elem x xs) zero = x
nth_elem (also_elem x xs) (suc i) = nth_elem xs i

abbrev pub select : Signature → Structure → ℕ → ℕ → Elem → Elem
select S M con i (Made d xs) = if d == con then nth_elem xs i else elsewhere S M con i (Made d xs)
select S M con i v = elsewhere S M con i v

-- # Structures of a signature

abbrev pub Is : Signature → Structure → ℕ → Elem → Type 0
Is S M s v = IsTrue (is_elem S M.sizes s v)

-- The structure is one of the signature, and the constants, added ones too, have these elements. Where a function's
-- arguments exist so does its result, and the sorts of constants and of constructors' fields aren't empty.
pub record Fits (S : Signature) (M : Structure) (consts : ℕ → Elem) (added : List NewConst) : Type 0 where
  pub constants : (c s : ℕ) → const_sort S added c ≡ Some s → Is S M s (consts c)
  pub functions : (f : ℕ) (decl : FnDecl) → slice_get S.fns f ≡ Some decl → (xs : Elems) → IsTrue (are_elems S M.sizes decl.args xs)
      → Is S M decl.result (apply (slice_get M.fns f) xs)
  pub defaults : (s : ℕ) (v : Elem) → Is S M s v → Is S M s (default_of M s)
  pub fields : (con i s : ℕ) → slice_get (fields_of (slice_get S.cons con)) i ≡ Some s → Is S M s (default_of M s)
  pub selectors : (con i s : ℕ) → slice_get (fields_of (slice_get S.cons con)) i ≡ Some s
      → (v : Elem) → Is S M (sort_of_con (slice_get S.cons con)) v → Is S M s (elsewhere S M con i v)

abbrev pub own_consts : Structure → ℕ → Elem
own_consts M c = get_or M.consts c junk

abbrev pub IsStructure : Signature → Structure → Type 0
IsStructure S M = Fits S M (own_consts M) []
