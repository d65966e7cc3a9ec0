use Rattle.std.proofs.Common.{[], ◌∷◌, ◌++◌}
use Rattle.rp_grammar.specs.Trees.{ident}
use Rattle.rp_tokens.specs.MachineStates.{in_block_arms}
use Rattle.rp_parser.specs.means.Blocks.{in_arm}
use Rattle.rp_parser.proofs.Rests.{stands_failed, enters}
use Rattle.rp_parser.proofs.stmt_starts.arm_sign.Goals as goal

pub returns-in_default-clause-reads : goal.returns-in_default-clause-reads
returns-in_default-clause-reads c = λ o d as_ k is. stands_failed _ _ _ _ _ c.in_default.is is

pub returns-clause-reads : goal.returns-clause-reads
returns-clause-reads c = λ o d as_ k is.
    enters c.arm_next_mark.result c.args.rest c.in-Left.marks (in_block_arms d as_ k) (k as_) (λ x. in_arm d (ident x.0.now x.1) (λ a. in_block_arms d (as_ ++ a ∷ []) k)) (λ x. x.2.now) d o c.in-Left.is c.arm_next_mark.ensures.shorter (c.arm_next_mark.ensures.reads d as_ k) is
