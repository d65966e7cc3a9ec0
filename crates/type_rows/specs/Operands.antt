-- Rows on T10: operands.
use Rattle.std.specs.Prelude.{codes}
use Rattle.type_rows.specs.Rows.{Breaks, Keeps}

abbrev pub NotANumber : Type 0
NotANumber = Breaks (codes "invariant !1;") 10 11 12

abbrev pub AndANumber : Type 0
AndANumber = Breaks (codes "invariant true && 1;") 10 18 19

abbrev pub NumberImplies : Type 0
NumberImplies = Breaks (codes "invariant 1 ==> true;") 10 10 11

-- a negative number begins at its sign
abbrev pub NegativeNumber : Type 0
NegativeNumber = Breaks (codes "invariant true && -1;") 10 18 19

-- an expression begins at the parenthesis of its first operand
abbrev pub SumInAChain : Type 0
SumInAChain = Breaks (codes "invariant true && (1) + 2;") 10 18 19

abbrev pub PlusATruth : Type 0
PlusATruth = Breaks (codes "invariant 1 + true == 2;") 10 14 18

abbrev pub OrderOfTruths : Type 0
OrderOfTruths = Breaks (codes "invariant true < 2;") 10 10 14

-- of two types the right side is the offending one
abbrev pub DifferentSides : Type 0
DifferentSides = Breaks (codes "invariant 1 == true;") 10 15 19

abbrev pub QuantifierAsASide : Type 0
QuantifierAsASide = Breaks (codes "idtype U; invariant 1 == (forall u: U :: true);") 10 26 32

abbrev pub TwoNones : Type 0
TwoNones = Breaks (codes "invariant none == none;") 10 10 14

abbrev pub NoneForANumber : Type 0
NoneForANumber = Breaks (codes "proc p(m: Int) { assert m == none; }") 10 29 33

abbrev pub NumberForANone : Type 0
NumberForANone = Breaks (codes "proc p(m: Int) { assert none == m; }") 10 24 28

abbrev pub SomeOfACall : Type 0
SomeOfACall = Breaks (codes "invariant forall c: call :: some(c) == none;") 10 28 32

abbrev pub SomeOfAnother : Type 0
SomeOfAnother = Breaks (codes "proc p(m: Maybe[Int]) { assert m == some(true); }") 10 36 40

-- the place inside asks no `Maybe`, so the `none` is the fault, and the `some` breaks nothing further
abbrev pub NoneInSome : Type 0
NoneInSome = Breaks (codes "query q(): Maybe[Int] = some(none);") 10 29 33

abbrev pub NoneInAnAssignedSome : Type 0
NoneInAnAssignedSome = Breaks (codes "proc p() { var x: Maybe[Int]; x = some(none); }") 10 39 43

abbrev pub NoneInASide : Type 0
NoneInASide = Breaks (codes "proc p(x: Maybe[Int]) { assert some(none) == x; }") 10 36 40

abbrev pub NoneInAnArgument : Type 0
NoneInAnArgument = Breaks (codes "crdt s: SetAw[Maybe[Int]]; proc p() { atomic { s.add(some(none)); } }") 10 58 62

abbrev pub BodyNoTruth : Type 0
BodyNoTruth = Breaks (codes "idtype U; invariant forall u: U :: u;") 10 35 36

abbrev pub NonesThatAreAsked : Type 0
NonesThatAreAsked = Keeps (codes "proc p(m: Maybe[Maybe[Int]]) { assert none == m; assert some(none) == m; assert m == some(some(1)); }")

abbrev pub OperandsThatFit : Type 0
OperandsThatFit = Keeps (codes "invariant 1 + 2 < 3 && !false ==> true;")
