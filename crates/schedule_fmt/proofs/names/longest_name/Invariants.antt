use Rattle.std.proofs.Common.{◌≡◌, ◌≤◌, length, drop}
use Rattle.std.specs.Prelude.{max}
use Rattle.schedule_fmt.specs.means.Reading.{longest_name}
use Rattle.schedule_fmt.proofs.names.longest_name.Given as goal

abbrev pub invariant-loop-con : goal.invariant-loop-con
invariant-loop-con l = record {
  is : max l.longest (longest_name l.bytes (drop l.con-index l.p.cons.cons)) ≡ longest_name l.bytes l.p.cons.cons;
  within : l.longest ≤ length l.bytes;
}
