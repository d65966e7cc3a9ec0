use Rattle.std.proofs.Common.{ap, ap₂, sym, ◌∙◌, length}
use Rattle.std.proofs.lemmas.List.{with_items_is}
use Rattle.type_tables.specs.Flags.{flags_from, merged}
use Rattle.type_tables.proofs.Rows.{merge_rows}
use Rattle.type_tables.proofs.flags.Flags.merge.Goals as goal

pub returns : goal.returns
returns c =
    let words = c.self.inside.words in
    let long = c.mix.ensures.long ∙ ap length c.as_mut_slice.ensures.value ∙ sym words.ok.0 in
    ap (λ vs. flags_from vs 0 c.self.inside.len) (with_items_is words c.mix.new.own long)
    ∙ merge_rows c.args.both words.items c.other.inside.words.items c.mix.new.own c.as_mut_slice.result.now c.as_slice.result.now
    c.self.inside.len c.other.inside.len c.as_mut_slice.ensures.value c.as_slice.ensures.value c.self.invariant c.mix.ensures.each
    ∙ ap₂ (λ own other. merged c.args.both own other) c.self.view_is c.other.view_is
