use Rattle.std.proofs.Common.{Some, ap, sym, ◌∙◌, ◌+◌, drop, arith}
use Rattle.std.specs.Prelude.{if◌then◌else◌}
use Rattle.type_tables.specs.Tables.{place_from}
use Rattle.type_tables.specs.Variables.{known_names}
use Rattle.type_tables.proofs.Places.{from_place}
use Rattle.type_tables.proofs.vars.first_place.Goals as goal

pub returns-then-eq : goal.returns-then-eq
returns-then-eq c =
    let rest = place_from (c.loop-item.place + 1) (known_names (drop (c.loop-item.item-index + 1) c.args.items.now)) c.args.name.now in
    sym (c.loop-item.invariant.1
    ∙ from_place c.args.items.now c.loop-item.item-index c.loop-item.place _ c.args.name.now c.loop-item-test.true
    ∙ ap (λ b. if b then Some c.loop-item.place else rest) (sym c.eq.ensures ∙ c.if-eq.true))

pub overflow_add-place : goal.overflow_add-place
overflow_add-place c = omega (arith, c.loop-item.invariant.0, c.loop-item-test.true, c.requires)

pub loop-item-preserved : goal.loop-item-preserved
loop-item-preserved c =
    let rest = place_from (c.loop-item.place + 1) (known_names (drop (c.loop-item.item-index + 1) c.args.items.now)) c.args.name.now in (
      ap (λ n. n + 1) c.loop-item.invariant.0,
      c.loop-item.invariant.1
          ∙ from_place c.args.items.now c.loop-item.item-index c.loop-item.place _ c.args.name.now c.loop-item-test.true
          ∙ ap (λ b. if b then Some c.loop-item.place else rest) (sym c.eq.ensures ∙ c.if-eq.false),
    )
