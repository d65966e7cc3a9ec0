-- The element that a value of a program is in a structure. Values of one type are different elements.
use Rattle.std.specs.Prelude.{List, [], ◌∷◌, map}
use Rattle.rp_value.specs.Values.{Val, Int, Str, Atom, Con, Call, Inv, Vals, no_val, also_val}
use Rattle.rp_logic.specs.Elements.{Elem, Point, Whole, Text, Made, Elems, no_elem, also_elem}

-- by its number or its bytes, or by its constructor and the elements of its arguments
abbrev mutual
  pub elem_of : Val → Elem
  elem_of (Int n) = Whole n
  elem_of (Str bytes) = Text bytes
  elem_of (Atom ty n) = Point n
  elem_of (Con con args) = Made con (elems_in args)
  elem_of (Call c) = Point c
  elem_of (Inv i) = Point i

  pub elems_in : Vals → Elems
  elems_in no_val = no_elem
  elems_in (also_val v vs) = also_elem (elem_of v) (elems_in vs)

-- elements one behind the other
abbrev pub elems : List Elem → Elems
elems [] = no_elem
elems (x ∷ xs) = also_elem x (elems xs)

-- the elements of values
abbrev pub elems_of : List Val → Elems
elems_of vs = elems (map elem_of vs)
