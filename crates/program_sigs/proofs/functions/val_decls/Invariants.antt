use Rattle.std.proofs.Common.{◌≡◌, map, filter, take}
use Rattle.rp_lang.specs.declared.query.QueryDecl.{QueryDecl}
use Rattle.rp_lang.specs.ProgramView.{program_view}
use Rattle.rp_lang.specs.Typing.{is_get}
use Rattle.rp_symbols.specs.Signatures.{fn_of, sort_of}
use Rattle.program_sigs.proofs.functions.val_decls.Given as goal

abbrev pub invariant-loop-query : goal.invariant-loop-query
invariant-loop-query l =
    l.vals ≡ map (λ (query : QueryDecl). fn_of (map (sort_of (program_view l.p)) query.args) (sort_of (program_view l.p) query.result)) (filter (λ (query : QueryDecl). is_get query.kind) (take l.query-index l.p.queries))
