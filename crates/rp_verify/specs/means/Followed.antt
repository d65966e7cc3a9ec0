-- A walk after it followed checks.
use Rattle.std.specs.Prelude.{◌+◌, Bool, List, ◌++◌}
use Rattle.event_machine.specs.Checks.{Checks}
use Rattle.rp_verify.specs.declared.walk.Walk.{Walk}
use Rattle.rp_verify.specs.means.Counted.{assertions}
use Rattle.rp_verify.specs.means.Found.{found_in}

-- it counted the goals of the checks, and has added those that fail at some of the rows
abbrev pub followed : Walk → List (List Bool) → Checks → Walk
followed walk rows checks = record walk {
  next = walk.next + assertions checks;
  list = walk.list ++ found_in walk.proc walk.path walk.next rows checks;
}
