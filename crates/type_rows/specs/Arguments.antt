-- Rows on T14: arguments.
use Rattle.std.specs.Prelude.{codes}
use Rattle.type_rows.specs.Rows.{Breaks, Keeps}

abbrev pub ArgumentOfAnotherType : Type 0
ArgumentOfAnotherType = Breaks (codes "crdt s: SetAw[Int]; proc p() { atomic { s.add(true); } }") 14 46 50

abbrev pub OneTooFew : Type 0
OneTooFew = Breaks (codes "crdt s: SetAw[Int]; proc p() { atomic { s.add(); } }") 14 40 41

abbrev pub QueryWithoutParentheses : Type 0
QueryWithoutParentheses = Breaks (codes "crdt s: SetAw[Int]; invariant s.contains;") 14 30 31

abbrev pub UseWithoutParentheses : Type 0
UseWithoutParentheses = Breaks (codes "query q(): Bool = true; invariant q;") 14 34 35

abbrev pub VariableWithParentheses : Type 0
VariableWithParentheses = Breaks (codes "proc p(x: Bool) { assert x(); }") 14 25 26

abbrev pub ConstructorWithParentheses : Type 0
ConstructorWithParentheses = Breaks (codes "datatype D = c; proc p(d: D) { assert d == c(); }") 14 43 44

abbrev pub WordWithTwo : Type 0
WordWithTwo = Breaks (codes "invariant forall c: call :: visible(c, c);") 14 28 35

abbrev pub WordOfAnInvocation : Type 0
WordOfAnInvocation = Breaks (codes "invariant forall i: invocation :: visible(i);") 14 42 43

-- the argument of a word needn't be a plain term
abbrev pub WordOfATruth : Type 0
WordOfATruth = Breaks (codes "invariant visible(true && false);") 14 18 22

abbrev pub BeforeOfBoth : Type 0
BeforeOfBoth = Breaks (codes "invariant forall c: call, i: invocation :: before(c, i);") 14 53 54

abbrev pub ReturnedWithOne : Type 0
ReturnedWithOne = Breaks (codes "proc p() { } invariant forall i: invocation :: result(i) == p.returned(1);") 14 60 61

abbrev pub KeyOfAnotherType : Type 0
KeyOfAnotherType = Breaks (codes "crdt m: MapUw[Int, Counter]; proc p() { atomic { m[true].increment(1); } }") 14 51 55

abbrev pub ArgumentsThatFit : Type 0
ArgumentsThatFit = Keeps (codes "proc p(): Int { return 1; } invariant forall c: call :: before(c, c) && same(c, c); invariant forall i: invocation :: before(i, i) && result(i) == p.returned(3);")
