use Rattle.std.proofs.Common.{List, [], ◌∷◌, ◌++◌, Some, ap, sym, subst, ◌∙◌, arith}
use Rattle.std.specs.Prelude.{flat_map, length, slice_set}
use Rattle.type_rules.specs.declared.kind.Kind.{Kind}
use Rattle.desugaring.specs.Tables.{cons_of}
use Rattle.text_names.specs.Declarations.{names_view}
use Rattle.text_kinds.specs.Numbered.{has_kind}
use Rattle.text_kinds.specs.means.Rows.{AreRows}
use Rattle.text_kinds.proofs.RowsKept.{rows_own}
use Rattle.text_kinds.proofs.table.KindTable.add_own.Goals as goal

pub invariant_of-self-2 : goal.invariant_of-self-2
invariant_of-self-2 c =
    let table = c.args.self.now in
    let n = names_view table.names.now in
    let kind = c.plain_kind-kind.ensures in
    record {
      rows = subst (λ (kinds : List Kind). AreRows n kinds c.in_ok-cons.cons
          (slice_set table.own.items c.in-Some.place (Some c.next-numbers.result)) table.maybes.items)
          (sym (c.in_ok-push.ensures.ok ∙ ap (λ k. table.kinds ++ k ∷ []) kind))
          (rows_own n table.kinds table.cons c.in_ok-cons.cons table.own.items table.maybes.items c.args.base c.in-Some.place
          c.next-numbers.result
          table.rows (sym c.place_of.ensures ∙ c.in-Some.is) (omega (arith, c.if-place-len.false, c.len.ensures, table.own.ok.0))
          (ap (has_kind table.kinds) (sym kind) ∙ sym c.has.ensures ∙ c.if-has.false) c.requires c.next-numbers.ensures
          (c.in_ok-cons.ensures ∙ ap (λ k. length (flat_map (cons_of n) (table.kinds ++ k ∷ []))) kind));
    }
