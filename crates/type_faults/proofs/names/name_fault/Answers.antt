use Rattle.std.proofs.Common.{ap, sym, ◌∙◌}
use Rattle.std.specs.Option.{is_some}
use Rattle.rp_ast.specs.View.{ident_view}
use Rattle.type_rules.specs.Sites.{Site}
use Rattle.type_rules.specs.Faults.{judged}
use Rattle.type_rules.proofs.Order.{sooner_none}
use Rattle.type_tables.specs.Tables.{number_in, with_first}
use Rattle.type_faults.proofs.Lists.{table_more}
use Rattle.type_faults.proofs.names.name_fault.Goals as goal

pub returns : goal.returns
returns c = λ n names table.
    let name = c.args.name.now in
    let text = c.as_slice-text.ensures.items in
    let before = c.args.before.now in
    record {
      fault_is = c.judge_named-fault.ensures n names
          (c.is_some.ensures ∙ ap is_some c.number.ensures ∙ ap (λ x. is_some (number_in before x)) text ∙ table name.text)
          ∙ sym (sooner_none (judged n (Site.named names (ident_view name))));
      table_is = table_more before c.add.new.self names name.text 0 table
          (c.in_ok-add.ensures.ok ∙ ap (λ x. with_first (number_in before) x 0) text);
    }
