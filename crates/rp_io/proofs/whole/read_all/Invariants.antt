use Rattle.std.proofs.Common.{◌≡◌, ◌-◌, ◌≤◌, ◌<◌, length}
use Rattle.rp_io.specs.Counts.{raised}
use Rattle.rp_io.specs.Files.{content_of, PrefixOfTold}
use Rattle.rp_io.proofs.whole.read_all.Given as goal

-- the bytes so far are those that were given, with no fault
abbrev pub invariant-pieces : goal.invariant-pieces
invariant-pieces g l = record {
  told : g.F.Files.told l.files ≡ g.F.Files.told l.fn.files;
  sound : g.F.Files.sound l.files ≡ g.F.Files.sound l.fn.files;
  no_fault : g.F.Files.faults l.files ≡ g.F.Files.faults l.fn.files;
  given : g.F.Files.given l.files ≡ raised (g.F.Files.given l.fn.files) (length l.bytes.items);
  few : length l.bytes.items ≤ l.end;
  piece : 0 < length l.piece.items;
  prefix : PrefixOfTold (content_of (g.F.Files.told l.fn.files) l.name) l.bytes.items;
}

abbrev pub decreases-pieces : goal.decreases-pieces
decreases-pieces g l = l.end - length l.bytes.items
