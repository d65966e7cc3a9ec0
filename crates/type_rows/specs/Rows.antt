-- What a row says of a text.
use Rattle.std.specs.Prelude.{ℕ, List, Some}
use Rattle.rp_grammar.specs.Trees.{DeclTree}
use Rattle.rp_grammar.specs.Texts.{IsTextWithin}
use Rattle.type_rules.specs.declared.fault.Fault.{Fault}
use Rattle.type_rules.specs.Faults.{IsFirstFault, IsLawful}

abbrev pub fault : ℕ → ℕ → ℕ → Fault
fault rule from to = record { rule = rule; span = record { from = from; to = to } }

-- the text is a tree whose first fault is that the rule is broken at the token from one byte to another
abbrev pub Breaks : List ℕ → ℕ → ℕ → ℕ → Type 0
Breaks text rule from to = (tree : List DeclTree) × IsTextWithin 64 text tree × IsFirstFault tree (Some (fault rule from to))

-- the text is a tree that breaks no rule
abbrev pub Keeps : List ℕ → Type 0
Keeps text = (tree : List DeclTree) × IsTextWithin 64 text tree × IsLawful tree
