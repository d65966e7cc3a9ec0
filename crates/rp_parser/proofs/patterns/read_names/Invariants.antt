use Rattle.std.proofs.Common.{◌≡◌, ℕ, ◌≤◌, List, [], ◌∷◌, map}
use Rattle.rp_grammar.specs.Trees.{Ident}
use Rattle.rp_ast.specs.View.{ident_view}
use Rattle.rp_tokens.specs.MachineStates.{State, want_name, more_names}
use Rattle.rp_tokens.specs.Machine.{Bounded}
use Rattle.rp_parser.specs.means.Reading.{Stands, Within, left}
use Rattle.rp_parser.proofs.patterns.read_names.Given as goal

abbrev pub invariant-names : goal.invariant-names
invariant-names l = record {
  within : Within l.depth l.rest;
  no_longer : left l.rest ≤ left l.fn.marks;
  reads : (o : Bounded) (d : ℕ) → d ≡ l.depth → (k : List Ident → State) → Stands l.fn.marks (want_name d (λ n. more_names d (n ∷ []) k)) o → Stands l.rest (more_names d (map ident_view l.names) k) o;
}

abbrev pub decreases-names : goal.decreases-names
decreases-names l = left l.rest
