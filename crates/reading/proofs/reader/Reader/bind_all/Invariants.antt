use Rattle.std.proofs.Common.{◌≡◌, drop}
use Rattle.rp_ast.specs.View.{idents_view, pattern_view}
use Rattle.type_rules.specs.Matches.{pattern_kinds, pattern_name}
use Rattle.text_tables.specs.Seen.{tables_view}
use Rattle.reading.specs.Reads.{under_vars}
use Rattle.reading.proofs.reader.Reader.bind_all.Given as goal

abbrev pub invariant-loop-place : goal.invariant-loop-place
invariant-loop-place l =
    let kinds = pattern_kinds (tables_view l.fn.self.tables.now).names l.kind (pattern_name (pattern_view l.pattern)) in
    (l.self.tables.now ≡ l.fn.self.tables.now)
    × (under_vars l.self (idents_view (drop l.place l.vars)) (drop l.place kinds) ≡ under_vars l.fn.self (idents_view l.vars) kinds)
