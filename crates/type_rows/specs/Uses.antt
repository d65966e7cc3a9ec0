-- Rows on T03 to T05: uses of names.
use Rattle.std.specs.Prelude.{codes}
use Rattle.type_rows.specs.Rows.{Breaks, Keeps}

-- T03: a query is declared before its use
abbrev pub QueryAfterItsUse : Type 0
QueryAfterItsUse = Breaks (codes "query a(): Int = b(); query b(): Int = 1;") 3 17 18

abbrev pub QueryInItself : Type 0
QueryInItself = Breaks (codes "query a(): Int = a();") 3 17 18

abbrev pub QueryAfterItsProcedure : Type 0
QueryAfterItsProcedure = Breaks (codes "proc p() { assert q(); } query q(): Bool = true;") 3 18 19

-- roots, procedures and constructors may be declared anywhere
abbrev pub OthersAfterTheirUse : Type 0
OthersAfterTheirUse = Keeps (codes "query a(): Int = r.get(); invariant forall i: invocation :: info(i) == p(c); datatype D = c; proc p(d: D) { } crdt r: Counter;")

-- T04: every other name is declared
abbrev pub NameNowhere : Type 0
NameNowhere = Breaks (codes "invariant x == 1;") 4 10 11

abbrev pub UseOfNothing : Type 0
UseOfNothing = Breaks (codes "invariant x();") 4 10 11

abbrev pub AssignedNowhere : Type 0
AssignedNowhere = Breaks (codes "proc p() { x = 1; }") 4 11 12

abbrev pub StatementOfNothing : Type 0
StatementOfNothing = Breaks (codes "proc p() { s.add(1); }") 4 11 12

abbrev pub PatternOfNothing : Type 0
PatternOfNothing = Breaks (codes "proc p(m: Maybe[Int]) { match (m) { none => { } some(x) => { } other => { } } }") 4 63 68

abbrev pub OutOfItsBlock : Type 0
OutOfItsBlock = Breaks (codes "proc p() { if (true) { var x: Int; } x = 1; }") 4 37 38

-- an unknown name breaks nothing further
abbrev pub UnknownOperand : Type 0
UnknownOperand = Breaks (codes "invariant !y;") 4 11 12

abbrev pub NoneBesideUnknown : Type 0
NoneBesideUnknown = Breaks (codes "invariant none == y;") 4 18 19

-- but `some` keeps its type
abbrev pub SomeOfUnknown : Type 0
SomeOfUnknown = Breaks (codes "invariant some(y);") 22 10 14

-- T05: `new` names an id type
abbrev pub NewOfOpaque : Type 0
NewOfOpaque = Breaks (codes "type K; proc p() { var k: K; k = new K; }") 5 37 38

abbrev pub NewOfId : Type 0
NewOfId = Keeps (codes "idtype U; proc p() { var u: U; u = new U; assert u == u; }")
