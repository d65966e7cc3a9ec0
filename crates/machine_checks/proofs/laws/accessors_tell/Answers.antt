use Rattle.machine_checks.proofs.SnapshotLemmas.{count_tells, info_tells, view_tells, committed_tells}
use Rattle.machine_checks.proofs.laws.accessors_tell.Goals as goal

pub returns : goal.returns
returns c = record {
  count = count_tells;
  infos = info_tells;
  views = view_tells;
  committed = committed_tells;
}
