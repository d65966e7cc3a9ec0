-- Rows on T19 and T20: atomic blocks and returns.
use Rattle.std.specs.Prelude.{codes}
use Rattle.type_rows.specs.Rows.{Breaks, Keeps}

-- T19: no atomic block stands in another
abbrev pub AtomicInAtomic : Type 0
AtomicInAtomic = Breaks (codes "proc p() { atomic { atomic { } } }") 19 20 26

abbrev pub AtomicInABranch : Type 0
AtomicInABranch = Breaks (codes "proc p(b: Bool) { atomic { if (b) { atomic { } } } }") 19 36 42

abbrev pub AtomicAfterAtomic : Type 0
AtomicAfterAtomic = Keeps (codes "proc p() { atomic { } atomic { } }")

-- T20: every path to the end of a procedure with a result returns, outside `atomic` and last
abbrev pub NoReturn : Type 0
NoReturn = Breaks (codes "proc p(): Bool { }") 20 17 18

abbrev pub ReturnInAtomic : Type 0
ReturnInAtomic = Breaks (codes "proc p() { atomic { return; } }") 20 20 26

abbrev pub ReturnNotLast : Type 0
ReturnNotLast = Breaks (codes "proc p() { return; return; }") 20 11 17

abbrev pub ReturnWithAValue : Type 0
ReturnWithAValue = Breaks (codes "proc p() { return 1; }") 20 11 17

abbrev pub ReturnWithoutAValue : Type 0
ReturnWithoutAValue = Breaks (codes "proc p(): Int { return; }") 20 16 22

abbrev pub OneWayReturns : Type 0
OneWayReturns = Breaks (codes "proc p(b: Bool): Int { if (b) { return 1; } }") 20 44 45

abbrev pub BothWaysReturn : Type 0
BothWaysReturn = Keeps (codes "proc p(b: Bool): Int { if (b) { return 1; } else { return 2; } }")

abbrev pub AllArmsReturn : Type 0
AllArmsReturn = Keeps (codes "proc p(m: Maybe[Int]): Int { match (m) { none => { return 0; } some(n) => { return n; } } }")
