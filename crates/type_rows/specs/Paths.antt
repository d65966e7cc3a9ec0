-- Rows on T12 and T13: paths, operations and procedures.
use Rattle.std.specs.Prelude.{codes}
use Rattle.type_rows.specs.Rows.{Breaks, Keeps}

-- T12: a path leads to an operation or a query
abbrev pub NoSuchMember : Type 0
NoSuchMember = Breaks (codes "crdt s: SetAw[Int]; invariant s.get() == 1;") 12 32 35

abbrev pub EndsTooEarly : Type 0
EndsTooEarly = Breaks (codes "crdt m: MapUw[Int, Counter]; invariant m[1] == 1;") 12 39 40

abbrev pub KeyOfAStruct : Type 0
KeyOfAStruct = Breaks (codes "crdt s: { f: Counter }; invariant s[1].get() == 1;") 12 36 37

abbrev pub PathFromAVariable : Type 0
PathFromAVariable = Breaks (codes "proc p(x: Int) { assert x.f == 1; }") 12 24 25

abbrev pub BeyondAQuery : Type 0
BeyondAQuery = Breaks (codes "crdt s: Counter; invariant s.get.x() == 1;") 12 33 34

abbrev pub ReturnedOfARoot : Type 0
ReturnedOfARoot = Breaks (codes "crdt s: Counter; invariant s.returned == 1;") 12 29 37

abbrev pub PathsThatFit : Type 0
PathsThatFit = Keeps (codes "crdt s: { m: MapUw[Int, MvReg[Int]], c: Counter }; invariant s.m[1].contains(2) && s.m.contains(1) && s.c.get() < 3;")

-- T13: an operation stands as a statement or beside `op(c)`
abbrev pub OperationAlone : Type 0
OperationAlone = Breaks (codes "crdt s: SetAw[Int]; invariant s.add(1) == tx;") 13 30 31

abbrev pub TxAlone : Type 0
TxAlone = Breaks (codes "invariant forall c: call :: op(c) == tx && tx == tx;") 13 43 45

abbrev pub ProcedureAsAStatement : Type 0
ProcedureAsAStatement = Breaks (codes "proc p() { } proc q() { p(); }") 13 24 25

abbrev pub QueryAsAStatement : Type 0
QueryAsAStatement = Breaks (codes "crdt s: SetAw[Int]; proc p() { atomic { s.contains(1); } }") 13 40 41

abbrev pub VariableAsAStatement : Type 0
VariableAsAStatement = Breaks (codes "proc p(x: Int) { x; }") 13 17 18

abbrev pub UnreturnedAlone : Type 0
UnreturnedAlone = Breaks (codes "invariant unreturned == unreturned;") 13 10 20

abbrev pub BesideTheirWords : Type 0
BesideTheirWords = Keeps (codes "crdt s: SetAw[Int]; proc p(x: Int) { } invariant forall c: call, i: invocation :: op(c) != s.add(1) && p(2) == info(i) && (result(i) == unreturned || result(i) == p.returned());")
