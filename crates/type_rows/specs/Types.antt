-- Rows on T06 to T08 and T24: types.
use Rattle.std.specs.Prelude.{codes}
use Rattle.type_rows.specs.Rows.{Breaks, Keeps}

-- T06: calls and invocations are quantified, or parameters of queries
abbrev pub CallParameter : Type 0
CallParameter = Breaks (codes "proc p(c: call) { }") 6 10 14

abbrev pub InvocationElement : Type 0
InvocationElement = Breaks (codes "crdt s: SetAw[invocation];") 6 14 24

abbrev pub MaybeCall : Type 0
MaybeCall = Breaks (codes "query q(c: Maybe[call]): Int = 1;") 6 17 21

abbrev pub CallResult : Type 0
CallResult = Breaks (codes "query q(): call = 1;") 6 11 15

abbrev pub CallsInQueries : Type 0
CallsInQueries = Keeps (codes "query q(c: call, i: invocation): Bool = visible(c) && origin(c) == i; invariant forall c: call :: q(c, origin(c));")

-- T07: elements, values, keys and fields are of types of data
abbrev pub MaybeCallElement : Type 0
MaybeCallElement = Breaks (codes "crdt s: SetAw[Maybe[call]];") 7 14 19

abbrev pub MaybeInvocationField : Type 0
MaybeInvocationField = Breaks (codes "datatype D = c(x: Maybe[invocation]);") 7 18 23

abbrev pub DataElements : Type 0
DataElements = Keeps (codes "type K; datatype D = c(x: Maybe[K]); crdt m: MapDw[Maybe[D], Reg[Maybe[K]]];")

-- T08: quantified variables are of id and opaque types, calls and invocations
abbrev pub OverIntegers : Type 0
OverIntegers = Breaks (codes "invariant forall x: Int :: x == x;") 8 20 23

abbrev pub OverADatatype : Type 0
OverADatatype = Breaks (codes "datatype D = c; invariant exists x: D :: x == c;") 8 36 37

abbrev pub OverMaybeCalls : Type 0
OverMaybeCalls = Breaks (codes "invariant forall x: Maybe[call] :: true;") 8 20 25

abbrev pub OverRanges : Type 0
OverRanges = Keeps (codes "idtype U; type K; invariant forall u: U, k: K, c: call, i: invocation :: true;")

-- T24: parameters, results and variables of procedures are of types of data
abbrev pub MaybeCallParameter : Type 0
MaybeCallParameter = Breaks (codes "proc p(x: Maybe[call]) { }") 24 10 15

abbrev pub MaybeInvocationResult : Type 0
MaybeInvocationResult = Breaks (codes "proc p(): Maybe[invocation] { }") 24 10 15

abbrev pub MaybeCallVariable : Type 0
MaybeCallVariable = Breaks (codes "proc p() { var c: Maybe[call]; }") 24 18 23

abbrev pub DataVariables : Type 0
DataVariables = Keeps (codes "type K; proc p(k: K): Maybe[K] { var m: Maybe[K] = some(k); return m; }")
