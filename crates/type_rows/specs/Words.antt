-- Rows on T09: words on calls and invocations.
use Rattle.std.specs.Prelude.{codes}
use Rattle.type_rows.specs.Rows.{Breaks, Keeps}

abbrev pub QuantifierInAProcedure : Type 0
QuantifierInAProcedure = Breaks (codes "proc p() { assert forall c: call :: true; }") 9 18 24

-- the node of a later variable begins at its name
abbrev pub LaterVariable : Type 0
LaterVariable = Breaks (codes "idtype U; proc p() { assert forall u: U, i: invocation :: true; }") 9 41 42

abbrev pub WordInAProcedure : Type 0
WordInAProcedure = Breaks (codes "proc p() { assert tx == tx; }") 9 18 20

abbrev pub ReturnedInAProcedure : Type 0
ReturnedInAProcedure = Breaks (codes "proc p(): Int { return 1; } proc q() { assert p.returned(1) == result(i); }") 9 48 56

abbrev pub QueryOfAProcedure : Type 0
QueryOfAProcedure = Breaks (codes "query q(): Bool = exists c: call :: visible(c); proc p() { assert q(); }") 9 18 24

abbrev pub ThroughAQuery : Type 0
ThroughAQuery = Breaks (codes "query a(): Bool = exists c: call :: visible(c); query b(): Bool = a(); proc p() { assert b(); }") 9 18 24

abbrev pub QueriesOfInvariants : Type 0
QueriesOfInvariants = Keeps (codes "query a(): Bool = exists c: call :: visible(c); query b(): Bool = a(); invariant b(); proc p() { }")

abbrev pub QueryOfNobody : Type 0
QueryOfNobody = Keeps (codes "query a(): Bool = exists c: call :: visible(c);")
