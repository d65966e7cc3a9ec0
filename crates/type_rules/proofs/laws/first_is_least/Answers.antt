use Rattle.type_rules.proofs.Least.{fault_least, none_lawful, lawful_none}
use Rattle.type_rules.proofs.laws.first_is_least.Goals as goal

pub returns-clause-first : goal.returns-clause-first
returns-clause-first c = fault_least

pub returns-clause-none : goal.returns-clause-none
returns-clause-none c = λ tree. (none_lawful tree, lawful_none tree)
