use Rattle.std.proofs.Common.{◌+◌, ◌*◌, map, take}
use Rattle.std.specs.Prelude.{flat_map}
use Rattle.rp_ast.specs.View.{con_view, params_view}
use Rattle.type_rules.specs.Kinds.{param_kinds}
use Rattle.desugaring.specs.Appearances.{field_kinds}
use Rattle.text_names.specs.Declarations.{names_view}
use Rattle.text_kinds.specs.Seen.{kinds_view}
use Rattle.text_kinds.specs.means.Rows.{Adds, parts_before}
use Rattle.text_kinds.proofs.table.KindTable.+inner.Given as goal

abbrev pub decreases-add_declared : goal.decreases-add_declared
decreases-add_declared l = 5 * l.number + 4

abbrev pub decreases-add_cons : goal.decreases-add_cons
decreases-add_cons l = 5 * l.types + 3

abbrev pub decreases-add_fields : goal.decreases-add_fields
decreases-add_fields l = 5 * l.types + 2

abbrev pub decreases-add_before : goal.decreases-add_before
decreases-add_before l = 5 * l.types + 1

abbrev pub decreases-add_base : goal.decreases-add_base
decreases-add_base l = 5 * l.types

abbrev pub invariant-add_fields-loop-field : goal.invariant-add_fields-loop-field
invariant-add_fields-loop-field l =
    Adds (flat_map (parts_before (names_view l.fn.self.names.now) l.types)
    (param_kinds (names_view l.fn.self.names.now) (params_view (take l.field-index l.fields))))
    (kinds_view l.fn.self) (kinds_view l.self)

abbrev pub invariant-add_cons-loop-con : goal.invariant-add_cons-loop-con
invariant-add_cons-loop-con l =
    Adds (flat_map (parts_before (names_view l.fn.self.names.now) l.types)
    (field_kinds (names_view l.fn.self.names.now) (map con_view (take l.con-index l.cons))))
    (kinds_view l.fn.self) (kinds_view l.self)
