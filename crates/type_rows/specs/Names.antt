-- Rows on T01 to T05: names.
use Rattle.std.specs.Prelude.{codes}
use Rattle.type_rows.specs.Rows.{Breaks, Keeps}

-- T01: two types of one name
abbrev pub SameTypes : Type 0
SameTypes = Breaks (codes "idtype U; idtype U;") 1 17 18

abbrev pub RootAndQuery : Type 0
RootAndQuery = Breaks (codes "crdt a: Counter; query a(): Int = 1;") 1 23 24

abbrev pub ConstructorAndProcedure : Type 0
ConstructorAndProcedure = Breaks (codes "datatype D = a | b; proc b() { }") 1 25 26

abbrev pub SameConstructors : Type 0
SameConstructors = Breaks (codes "datatype D = a | a;") 1 17 18

abbrev pub SameInvariants : Type 0
SameInvariants = Breaks (codes "invariant i: true; invariant i: true;") 1 29 30

abbrev pub SameParameters : Type 0
SameParameters = Breaks (codes "proc p(x: Int, x: Int) { }") 1 15 16

abbrev pub SameFields : Type 0
SameFields = Breaks (codes "datatype D = c(x: Int, x: Int);") 1 23 24

abbrev pub SameStructFields : Type 0
SameStructFields = Breaks (codes "crdt s: { f: Counter, f: Counter };") 1 22 23

-- of two declarations of one name the first is what the name stands for
abbrev pub FirstOfTwo : Type 0
FirstOfTwo = Breaks (codes "invariant a.get() == 1; crdt a: Counter; crdt a: SetAw[Int];") 1 46 47

-- a type, a root and an invariant may share a name, and so may fields of two constructors
abbrev pub NamesOfDifferentKinds : Type 0
NamesOfDifferentKinds = Keeps (codes "idtype U; crdt U: Counter; invariant U: U.get() <= 3; datatype D = a(x: Int) | b(x: Int);")

abbrev pub InvariantsWithoutNames : Type 0
InvariantsWithoutNames = Keeps (codes "invariant true; invariant true;")

-- T02: a type is declared before its use
abbrev pub TypeAfterItsUse : Type 0
TypeAfterItsUse = Breaks (codes "crdt s: SetAw[U]; idtype U;") 2 14 15

abbrev pub TypeInItself : Type 0
TypeInItself = Breaks (codes "datatype D = c(x: D);") 2 18 19

abbrev pub TypeNowhere : Type 0
TypeNowhere = Breaks (codes "proc p(x: Maybe[U]) { }") 2 16 17

abbrev pub NewBeforeItsType : Type 0
NewBeforeItsType = Breaks (codes "idtype V; proc p() { var u: V; u = new U; } idtype U;") 2 39 40

abbrev pub TypesBeforeTheirUse : Type 0
TypesBeforeTheirUse = Keeps (codes "idtype U; datatype D = c(x: U); crdt s: MapUw[D, SetAw[U]];")
