use Rattle.std.proofs.Common.{◌≡◌, ◌≤◌, ◌-◌, All, length}
use Rattle.rp_span.specs.Places.{place_of}
use Rattle.repliss_cli.proofs.places.marks_of.Given as goal

abbrev pub invariant-marks : goal.invariant-marks
invariant-marks l = record {
  mark : l.mark ≡ place_of l.text l.mark.byte;
  within : l.mark.byte ≤ length l.text;
  marks : All (λ mark. mark ≡ place_of l.text mark.byte) l.marks;
}

abbrev pub decreases-marks : goal.decreases-marks
decreases-marks l = l.end - l.mark.byte
