use Rattle.std.proofs.Common.{◌≡◌, map, drop}
use Rattle.std.specs.Prelude.{find}
use Rattle.type_rules.specs.declared.kind.Kind.{Kind}
use Rattle.type_rules.specs.Names.{same_name}
use Rattle.type_terms.specs.Members.{member_over}
use Rattle.type_terms.proofs.members.named.Given as goal

abbrev pub invariant-loop-does : goal.invariant-loop-does
invariant-loop-does l =
    (k : Kind) → find (λ m. same_name m.name l.name) (map (member_over k) (drop l.does-index l.all))
    ≡ find (λ m. same_name m.name l.name) (map (member_over k) l.all)
