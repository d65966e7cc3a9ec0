-- Which operation or query of the store an access calls, by its number.
use Rattle.std.specs.Prelude.{◌≡◌, ℕ, Some, if◌then◌else◌}
use Rattle.rp_grammar.specs.Trees.{CrdtTree, StepTrees}
use Rattle.type_rules.specs.Names.{Name, same_name}
use Rattle.type_rules.specs.Paths.{Does, Member, is_operation, is_question, member_of}
use Rattle.desugaring.specs.Objects.{Reached, Root, follow}
use Rattle.desugaring.specs.Callees.{Callee, located, operation, question, value}
use Rattle.desugaring.specs.Tables.{Tables}

-- From the root of this name the steps lead to the member `m`, which stands on the replicated type `c`.
pub record LeadsTo (t : Tables) (x : Name) (steps : StepTrees) (c : CrdtTree) (m : Member) : Type 0 where
  pub root : ℕ × Root
  pub is_root : located (λ root. same_name root.name x) t.roots ≡ Some root
  pub reached : Reached
  pub follows : follow t.names steps root.1.crdt ≡ Some reached
  pub ends : reached.crdt ≡ c
  pub has : member_of t.names c reached.last ≡ Some m

-- what does this, by its number among the operations or among the queries of the program
abbrev pub callee_of : {X : Type 0} → Does → ℕ → Callee X
callee_of d k = if is_operation d then operation k else (if is_question d then question k else value k)
