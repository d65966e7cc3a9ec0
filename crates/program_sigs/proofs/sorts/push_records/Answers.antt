use Rattle.std.proofs.Common.{◌+◌, ◌∙◌, length, sym, ap, ap₂}
use Rattle.std.proofs.lemmas.List.{length-map}
use Rattle.rp_lang.specs.ProgramView.{program_view}
use Rattle.rp_lang.specs.Views.{proc_view}
use Rattle.rp_symbols.specs.Numbers.{unreturned_con}
use Rattle.rp_symbols.specs.Signatures.{from}
use Rattle.program_sigs.proofs.Lists.{from_first, three_more}
use Rattle.program_sigs.proofs.sorts.push_records.Goals as goal

pub returns : goal.returns
returns c =
    let p = program_view c.args.p.now in
    let many = sym (length-map c.args.p.now.procs proc_view) in
    let outcomes = ap (λ n. n + 1) (c.count-3.ensures.length ∙ many) in
    three_more _ _ _ _ _ _ _ _ _ _ c.in_ok-push.ensures.ok c.in_ok-push-2.ensures.ok c.in_ok-push-3.ensures.ok
    (c.in_ok-operations.ensures ∙ ap₂ from c.in_ok-op_con.ensures c.count.ensures.length) (c.in_ok-records.ensures ∙ ap₂ from c.in_ok-info_con.ensures (c.count-2.ensures.length ∙ many))
    (c.in_ok-outcomes.ensures ∙ (ap₂ from c.in_ok-unreturned_con.ensures (c.in_ok-plus.ensures ∙ outcomes) ∙ from_first (unreturned_con p) (length p.procs)))
