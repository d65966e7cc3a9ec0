-- Rows on T15 to T17: variables.
use Rattle.std.specs.Prelude.{codes}
use Rattle.type_rows.specs.Rows.{Breaks, Keeps}

-- T15: a variable is declared before its use, and its name is its own
abbrev pub AssignedTooEarly : Type 0
AssignedTooEarly = Breaks (codes "proc p() { x = 1; var x: Int; }") 15 11 12

abbrev pub ReadTooEarly : Type 0
ReadTooEarly = Breaks (codes "proc p() { if (true) { assert x == 1; } var x: Int; }") 15 30 31

abbrev pub NameInSight : Type 0
NameInSight = Breaks (codes "proc p(x: Int) { var x: Int; }") 15 21 22

abbrev pub NameOfARoot : Type 0
NameOfARoot = Breaks (codes "crdt s: Counter; proc p(s: Int) { }") 15 24 25

abbrev pub NameOfAProcedure : Type 0
NameOfAProcedure = Breaks (codes "proc p(m: Maybe[Int]) { match (m) { none => { } some(p) => { } } }") 15 53 54

-- the variable is no use of the query
abbrev pub NameOfAQuery : Type 0
NameOfAQuery = Breaks (codes "query q(): Bool = exists c: call :: visible(c); proc p(q: Bool) { assert q; }") 15 55 56

abbrev pub QuantifiedTwice : Type 0
QuantifiedTwice = Breaks (codes "idtype U; invariant forall u: U, u: U :: true;") 15 33 34

abbrev pub AssignedRoot : Type 0
AssignedRoot = Breaks (codes "crdt s: Counter; proc p() { s = 1; }") 15 28 29

abbrev pub NameOfAConstructor : Type 0
NameOfAConstructor = Keeps (codes "datatype D = c; proc p(c: D) { assert c == c; }")

abbrev pub NamesInTwoBlocks : Type 0
NamesInTwoBlocks = Keeps (codes "proc p(b: Bool) { if (b) { var x: Int; } else { var x: Int; } }")

-- T16: a variable that is read has a value on every path
abbrev pub ReadWithoutAValue : Type 0
ReadWithoutAValue = Breaks (codes "proc p() { var x: Int; assert x == 1; }") 16 30 31

abbrev pub ReadInItsOwnValue : Type 0
ReadInItsOwnValue = Breaks (codes "proc p() { var x: Int = x; }") 16 24 25

abbrev pub ValueOnOneWay : Type 0
ValueOnOneWay = Breaks (codes "proc p(b: Bool) { var x: Int; if (b) { x = 1; } assert x == 1; }") 16 55 56

abbrev pub ValueInOneArm : Type 0
ValueInOneArm = Breaks (codes "proc p(m: Maybe[Int]) { var x: Int; match (m) { none => { } some(n) => { x = n; } } assert x == 1; }") 16 91 92

abbrev pub ValueOnBothWays : Type 0
ValueOnBothWays = Keeps (codes "proc p(b: Bool) { var x: Int; if (b) { x = 1; } else { x = 2; } assert x == 1; }")

abbrev pub OtherWayReturns : Type 0
OtherWayReturns = Keeps (codes "proc p(b: Bool) { var x: Int; if (b) { x = 1; } else { return; } assert x == 1; }")

abbrev pub NoWayGoesOn : Type 0
NoWayGoesOn = Keeps (codes "proc p(b: Bool) { var x: Int; if (b) { return; } else { return; } assert x == 1; }")

-- T17: parameters and variables of patterns aren't assigned
abbrev pub AssignedParameter : Type 0
AssignedParameter = Breaks (codes "proc p(x: Int) { x = 1; }") 17 17 18

abbrev pub AssignedPatternVariable : Type 0
AssignedPatternVariable = Breaks (codes "proc p(m: Maybe[Int]) { match (m) { none => { } some(n) => { n = 1; } } }") 17 61 62

abbrev pub AssignedVariable : Type 0
AssignedVariable = Keeps (codes "proc p() { var x: Int; x = 1; x = x + 1; }")
