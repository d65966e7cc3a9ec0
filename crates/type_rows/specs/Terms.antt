-- Rows on T11: plain terms.
use Rattle.std.specs.Prelude.{codes}
use Rattle.type_rows.specs.Rows.{Breaks, Keeps}

-- parentheses around the expression itself aren't its start
abbrev pub ChainAsASide : Type 0
ChainAsASide = Breaks (codes "invariant (true && false) == true;") 11 11 15

abbrev pub StoreQueryAsASide : Type 0
StoreQueryAsASide = Breaks (codes "crdt s: SetAw[Int]; proc p(b: Bool) { assert b == s.contains(1); }") 11 50 51

abbrev pub PartNotPlain : Type 0
PartNotPlain = Breaks (codes "proc p(m: Maybe[Bool]) { assert m == some(true && true); }") 11 37 41

abbrev pub QueryNotPlain : Type 0
QueryNotPlain = Breaks (codes "query f(x: Bool): Bool = !x; proc p() { assert true == f(true); }") 11 55 56

abbrev pub KeyNotPlain : Type 0
KeyNotPlain = Breaks (codes "crdt m: MapUw[Bool, Counter]; proc p() { atomic { m[!true].increment(1); } }") 11 52 53

abbrev pub ArgumentNotPlain : Type 0
ArgumentNotPlain = Breaks (codes "crdt s: SetAw[Bool]; proc p() { atomic { s.add(!true); } }") 11 47 48

-- `some` is a constructor
abbrev pub ArgumentOfSome : Type 0
ArgumentOfSome = Breaks (codes "proc p() { var m: Maybe[Bool] = some(true && false); }") 11 37 41

abbrev pub MatchedNotPlain : Type 0
MatchedNotPlain = Breaks (codes "proc p(x: Int) { match (x == 1) { true => { } false => { } } }") 11 24 25

abbrev pub PlainTerms : Type 0
PlainTerms = Keeps (codes "crdt r: Reg[Int]; query q(): Maybe[Int] = r.get(); proc p(x: Int) { assert q() == some(x + 1); assert r.get() == none; }")
