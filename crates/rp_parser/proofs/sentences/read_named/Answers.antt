use Rattle.rp_ast.specs.View.{ident_view}
use Rattle.rp_tokens.specs.MachineStmts.{want_value, in_access_stmt}
use Rattle.rp_parser.proofs.sentences.read_named.Goals as goal

pub returns-in-Some-clause-reads : goal.returns-in-Some-clause-reads
returns-in-Some-clause-reads c = λ o d h k is.
    let n = ident_view c.args.name in
    c.read_value.ensures.reads o d h k (c.in-Some.ensures.reads o d h (λ q. want_value d n k) (in_access_stmt d n k) is)

pub returns-clause-reads : goal.returns-clause-reads
returns-clause-reads c = λ o d h k is.
    let n = ident_view c.args.name in
    c.read_access_stmt.ensures.reads o d h k (c.in_default.ensures.reads o d h (λ q. want_value d n k) (in_access_stmt d n k) is)
