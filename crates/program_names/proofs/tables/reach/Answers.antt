use Rattle.std.proofs.Common.{ap, ◌∙◌, ◌++◌, ◌∷◌, []}
use Rattle.program_names.specs.means.Found.{table_of}
use Rattle.program_names.proofs.FirstNames.{empty_more}
use Rattle.program_names.proofs.tables.reach.Goals as goal

pub loop-alloc-preserved : goal.loop-alloc-preserved
loop-alloc-preserved c =
    λ d. ap (λ ts. table_of ts d) (c.in_ok-push.ensures.items ∙ ap (λ t. c.loop-alloc.tables.items ++ t ∷ []) c.new.ensures) ∙ empty_more c.loop-alloc.tables.items d ∙ c.loop-alloc.invariant d
