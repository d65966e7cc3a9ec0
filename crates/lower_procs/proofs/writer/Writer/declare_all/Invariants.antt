use Rattle.std.proofs.Common.{◌≡◌, ◌++◌, length, drop}
use Rattle.rp_ast.specs.View.{idents_view, pattern_view}
use Rattle.type_rules.specs.Matches.{pattern_kinds, pattern_name}
use Rattle.text_tables.specs.Seen.{tables_view}
use Rattle.desugaring.specs.Tables.{up_from}
use Rattle.lower_procs.proofs.Declaring.{Declaring}
use Rattle.lower_procs.proofs.writer.Writer.declare_all.Given as goal

abbrev pub invariant-loop-place : goal.invariant-loop-place
invariant-loop-place l =
    let kinds = pattern_kinds (tables_view l.fn.self.maker.reader.tables.now).names l.kind (pattern_name (pattern_view l.pattern)) in
    Declaring l.fn.self (idents_view l.vars) kinds l.self (idents_view (drop l.place l.vars)) (drop l.place kinds)
    × (l.slots ++ up_from (length l.self.slots) (length (drop l.place l.vars)) ≡ up_from (length l.fn.self.slots) (length l.vars))
