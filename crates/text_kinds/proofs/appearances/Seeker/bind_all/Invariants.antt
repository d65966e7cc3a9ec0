use Rattle.std.proofs.Common.{◌≡◌, drop}
use Rattle.rp_ast.specs.View.{idents_view, pattern_view}
use Rattle.type_rules.specs.Matches.{pattern_kinds, pattern_name, with_bound}
use Rattle.text_names.specs.Declarations.{names_view}
use Rattle.text_kinds.specs.Seen.{kinds_view}
use Rattle.text_kinds.specs.means.Brought.{behind_pattern}
use Rattle.text_kinds.proofs.appearances.Seeker.bind_all.Given as goal

abbrev pub invariant-loop-place : goal.invariant-loop-place
invariant-loop-place l = record {
  seen : with_bound l.self.vars (idents_view (drop l.place l.pattern.vars))
      (drop l.place (pattern_kinds (names_view l.fn.self.kinds.names.now) l.fn.kind (pattern_name (pattern_view l.pattern))))
      ≡ behind_pattern (names_view l.fn.self.kinds.names.now) l.fn.self.vars l.fn.kind (pattern_view l.pattern);
  same : kinds_view l.self.kinds ≡ kinds_view l.fn.self.kinds;
}
