use Rattle.std.proofs.Common.{◌≡◌, ◌-◌, length, take}
use Rattle.type_tables.proofs.vars.Vars.truncate.Given as goal

abbrev pub invariant-loop-gone : goal.invariant-loop-gone
invariant-loop-gone l = l.self ≡ take (length l.fn.self - l._gone) l.fn.self
