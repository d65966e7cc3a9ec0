use Rattle.std.proofs.Common.{[], ◌∷◌, ◌++◌}
use Rattle.rp_tokens.specs.MachineStates.{in_stmts}
use Rattle.rp_parser.specs.means.StmtStarts.{stmt_next}
use Rattle.rp_parser.proofs.Rests.{stands_failed, enters}
use Rattle.rp_parser.proofs.stmt_starts.stmt_sign.Goals as goal

pub returns-in_default-clause-reads : goal.returns-in_default-clause-reads
returns-in_default-clause-reads c = λ o d xs k is. stands_failed _ _ _ _ _ c.in_default.is is

pub returns-clause-reads : goal.returns-clause-reads
returns-clause-reads c = λ o d xs k is.
    enters c.stmt_next_mark.result c.args.rest c.in-Left.marks (in_stmts d xs k) (k xs) (λ x. stmt_next d (λ y. in_stmts d (xs ++ y ∷ []) k) x.1 x.0) (λ x. x.2.now) d o c.in-Left.is c.stmt_next_mark.ensures.shorter (c.stmt_next_mark.ensures.reads d xs k) is
