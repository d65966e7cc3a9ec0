-- The numbers of what stands on an object.
use Rattle.std.specs.Prelude.{ℕ, ◌+◌, if◌then◌else◌}
use Rattle.type_rules.specs.Paths.{Does, is_operation}
use Rattle.text_tables.specs.declared.object.Object.{Object}

-- its place among the operations, or among the queries, that the type has itself
abbrev pub rank : Does → ℕ
rank Does.adds = 0
rank Does.removes = 1
rank Does.assigns = 0
rank Does.increments = 0
rank Does.deletes = 0
rank Does.contains = 0
rank Does.has_key = 0
rank Does.gets_value = 0
rank Does.gets_sum = 0

-- operation 0 is `tx`
abbrev pub number_at : Object → Does → ℕ
number_at o d = if is_operation d then o.ops + rank d + 1 else o.queries + rank d
