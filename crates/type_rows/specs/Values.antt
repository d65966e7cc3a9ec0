-- Rows on T21 to T23: queries, truths and values.
use Rattle.std.specs.Prelude.{codes}
use Rattle.type_rows.specs.Rows.{Breaks, Keeps}

-- T21: a query's body has its type
abbrev pub BodyOfAnotherType : Type 0
BodyOfAnotherType = Breaks (codes "query q(): Int = true;") 21 17 21

abbrev pub SumAsABody : Type 0
SumAsABody = Breaks (codes "query q(): Bool = 1 + 2;") 21 18 19

abbrev pub BodyThatFits : Type 0
BodyThatFits = Keeps (codes "query q(): Maybe[Int] = none;")

-- T22: invariants, conditions, assertions and arms are truths
abbrev pub InvariantNoTruth : Type 0
InvariantNoTruth = Breaks (codes "invariant 1;") 22 10 11

abbrev pub ConditionNoTruth : Type 0
ConditionNoTruth = Breaks (codes "proc p() { if (1) { } }") 22 15 16

abbrev pub AssertionNoTruth : Type 0
AssertionNoTruth = Breaks (codes "proc p() { assert 1; }") 22 18 19

abbrev pub ArmNoTruth : Type 0
ArmNoTruth = Breaks (codes "proc p(b: Bool) { assert match (b) { true => 1, false => true }; }") 22 45 46

abbrev pub Truths : Type 0
Truths = Keeps (codes "invariant true; proc p(b: Bool) { if (b) { assert !b; } }")

-- T23: a value has the type that its place asks
abbrev pub AssignedAnotherType : Type 0
AssignedAnotherType = Breaks (codes "proc p() { var x: Int; x = true; }") 23 27 31

abbrev pub InitialAnotherType : Type 0
InitialAnotherType = Breaks (codes "proc p() { var x: Int = true; }") 23 24 28

abbrev pub ReturnedAnotherType : Type 0
ReturnedAnotherType = Breaks (codes "proc p(): Int { return true; }") 23 23 27

abbrev pub NewAnotherType : Type 0
NewAnotherType = Breaks (codes "idtype U; idtype V; proc p() { var u: U; u = new V; }") 23 49 50

abbrev pub ValuesThatFit : Type 0
ValuesThatFit = Keeps (codes "idtype U; proc p(): Maybe[U] { var u: U; u = new U; return some(u); }")
