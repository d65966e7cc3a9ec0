use Rattle.std.proofs.Common.{◌≡◌, ℕ, ◌+◌, ◌*◌, ◌≤◌, List, [], ◌∷◌, map}
use Rattle.rp_grammar.specs.Trees.{FieldTree}
use Rattle.rp_ast.specs.View.{field_view}
use Rattle.rp_tokens.specs.MachineStates.{State, more_fields}
use Rattle.rp_tokens.specs.MachineTypes.{want_field}
use Rattle.rp_tokens.specs.Machine.{Bounded}
use Rattle.rp_parser.specs.means.Reading.{Stands, Within, left}
use Rattle.rp_parser.proofs.types.+crdts.Given as goal

abbrev pub decreases-read_crdt : goal.decreases-read_crdt
decreases-read_crdt l = 4 * left l.rest

abbrev pub decreases-read_map : goal.decreases-read_map
decreases-read_map l = 4 * left l.rest + 1

abbrev pub decreases-read_field : goal.decreases-read_field
decreases-read_field l = 4 * left l.rest + 1

abbrev pub decreases-read_fields : goal.decreases-read_fields
decreases-read_fields l = 4 * left l.marks + 2

abbrev pub decreases-read_struct : goal.decreases-read_struct
decreases-read_struct l = 4 * left l.rest + 3

abbrev pub invariant-read_fields-fields : goal.invariant-read_fields-fields
invariant-read_fields-fields l = record {
  within : Within l.depth l.rest;
  no_longer : left l.rest ≤ left l.fn.marks;
  reads : (o : Bounded) (d : ℕ) → d ≡ l.depth → (k : List FieldTree → State) → Stands l.fn.marks (want_field d (λ f. more_fields d (f ∷ []) k)) o → Stands l.rest (more_fields d (map field_view l.fields) k) o;
}

abbrev pub decreases-read_fields-fields : goal.decreases-read_fields-fields
decreases-read_fields-fields l = left l.rest
