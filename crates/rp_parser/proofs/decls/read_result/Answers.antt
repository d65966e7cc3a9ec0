use Rattle.std.proofs.Common.{refl, Some, None}
use Rattle.rp_tokens.specs.MachineStates.{want_type}
use Rattle.rp_parser.proofs.decls.read_result.Goals as goal

pub returns-in_default-clause-reads : goal.returns-in_default-clause-reads
returns-in_default-clause-reads c = λ o k is.
    c.in_default.ensures.reads o 0 refl (λ _. want_type 0 (λ t. k (Some t))) (k None) is

pub returns-clause-reads : goal.returns-clause-reads
returns-clause-reads c = λ o k is.
    c.read_type-ty.ensures.reads o 0 refl (λ t. k (Some t)) (c.in-Some.ensures.reads o 0 refl (λ _. want_type 0 (λ t. k (Some t))) (k None) is)
