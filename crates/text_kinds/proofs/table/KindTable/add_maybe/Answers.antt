use Rattle.std.proofs.Common.{List, ap, sym, subst, ◌∙◌}
use Rattle.type_rules.specs.declared.kind.Kind.{Kind}
use Rattle.type_tables.proofs.Seen.{not_failed}
use Rattle.text_names.specs.Declarations.{names_view}
use Rattle.text_kinds.specs.declared.numbers.Numbers.{Numbers}
use Rattle.text_kinds.specs.means.Rows.{AreRows, is_next, with_row}
use Rattle.text_kinds.proofs.RowsKept.{rows_maybe}
use Rattle.text_kinds.proofs.table.KindTable.add_maybe.Goals as goal

pub invariant_of-self-2 : goal.invariant_of-self-2
invariant_of-self-2 c =
    let table = c.args.self.now in
    let n = names_view table.names.now in
    let place = c.in-Some-place_of.place in
    let kind : Kind = record { base = c.args.base; maybes = c.in-Some.maybes } in
    let put = not_failed c.put.result c.if-is_err.ensures.value c.put.ensures.ok in
    record {
      rows = subst (λ (maybes : List (List Numbers)). AreRows n c.push.new.self c.in_ok-cons.cons table.own.items maybes)
          (sym put)
          (subst (λ (kinds : List Kind). AreRows n kinds c.in_ok-cons.cons table.own.items
          (with_row table.maybes.items place c.next-numbers.result)) (sym c.in_ok-push.ensures.ok)
          (rows_maybe n table.kinds table.cons c.in_ok-cons.cons table.own.items table.maybes.items c.args.base c.args.held
          place kind c.next-numbers.result
          table.rows (sym c.place_of.ensures ∙ c.in-Some-place_of.is)
          (ap (λ rows. is_next rows place c.args.held) (sym c.as_slice.ensures.value) ∙ sym c.is_next.ensures
          ∙ c.if-not-is_next.false)
          (ap (λ m. record { base = c.args.base; maybes = m }) c.in-Some.ensures.1)
          (sym c.has.ensures ∙ c.if-has.false) c.next-numbers.ensures c.in_ok-cons.ensures));
    }
