-- Where the machine stands inside statements that hold blocks.
use Rattle.std.specs.Prelude.{ℕ}
use Rattle.rp_grammar.specs.Trees.{Ident, BlockArmTree}
use Rattle.rp_tokens.specs.MachineStates.{State}
use Rattle.rp_tokens.specs.MachineExprs.{in_pattern}
use Rattle.rp_tokens.specs.MachineStmts.{in_block_arm}

-- an arm behind its constructor n
abbrev pub in_arm : ℕ → Ident → (BlockArmTree → State) → State
in_arm d n k = in_pattern d n (λ p. in_block_arm d (λ b. k (BlockArmTree.arm p b)))
