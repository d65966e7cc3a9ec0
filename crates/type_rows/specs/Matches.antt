-- Rows on T18: matches.
use Rattle.std.specs.Prelude.{codes}
use Rattle.type_rows.specs.Rows.{Breaks, Keeps}

abbrev pub MatchOfANumber : Type 0
MatchOfANumber = Breaks (codes "proc p(x: Int) { match (x) { } }") 18 24 25

abbrev pub ArmMissing : Type 0
ArmMissing = Breaks (codes "proc p(m: Maybe[Int]) { match (m) { none => { } } }") 18 24 29

abbrev pub ArmMissingInAnExpression : Type 0
ArmMissingInAnExpression = Breaks (codes "proc p(m: Maybe[Int]) { assert match (m) { some(x) => true }; }") 18 31 36

abbrev pub ArmTwice : Type 0
ArmTwice = Breaks (codes "proc p(m: Maybe[Int]) { match (m) { none => { } some(x) => { } none => { } } }") 18 63 67

abbrev pub VariableTooMany : Type 0
VariableTooMany = Breaks (codes "proc p(m: Maybe[Int]) { match (m) { none => { } some(x, y) => { } } }") 18 48 52

-- a `none` of which no type is asked is of no datatype
abbrev pub MatchOfANone : Type 0
MatchOfANone = Breaks (codes "proc p() { match (none) { none => { } some(x) => { } } }") 10 18 22

abbrev pub OtherArmsOfANone : Type 0
OtherArmsOfANone = Breaks (codes "proc p() { match (none) { true => { } false => { } } }") 10 18 22

abbrev pub NoArmOfANone : Type 0
NoArmOfANone = Breaks (codes "invariant match (none) { true => true };") 10 17 21

abbrev pub ConstructorOfAnother : Type 0
ConstructorOfAnother = Breaks (codes "datatype D = a | b(x: Int); datatype E = e; proc p(d: D) { match (d) { a => { } b(x) => { } e => { } } }") 18 92 93

abbrev pub RootAsAPattern : Type 0
RootAsAPattern = Breaks (codes "crdt r: Counter; proc p(m: Maybe[Int]) { match (m) { none => { } some(x) => { } r => { } } }") 18 80 81

abbrev pub MatchesThatFit : Type 0
MatchesThatFit = Keeps (codes "datatype D = a | b(x: Int); query q(d: D): Bool = match (d) { b(x) => x < 3, a => true }; proc p(c: Bool) { match (c) { true => { } false => { } } }")
