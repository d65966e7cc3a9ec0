use Rattle.std.proofs.Common.{◌≡◌, ◌+◌, ◌≤◌, drop}
use Rattle.std.specs.Prelude.{count_by}
use Rattle.text_names.specs.Declarations.{names_view}
use Rattle.text_tables.specs.means.Limited.{is_declared}
use Rattle.text_tables.proofs.limits.declared_count.Given as goal

abbrev pub invariant-loop-kind : goal.invariant-loop-kind
invariant-loop-kind l = record {
  all : count_by (is_declared (names_view l.names)) l.kinds
      ≡ l.count + count_by (is_declared (names_view l.names)) (drop l.kind-index l.kinds);
  few : l.count ≤ l.kind-index;
}
