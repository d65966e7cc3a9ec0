use Rattle.std.proofs.Common.{◌≡◌, true, false, ap, sym, ◌∙◌, arith, string_bytes, bytes_eq}
use Rattle.std.proofs.lemmas.List.{drop_all}
use Rattle.std.specs.declared.option.Option.TheVariants.{Some}
use Rattle.rp_io.proofs.Found.{get-contents_of, first_under, first_under-here, first_under-later}
use Rattle.rp_io.proofs.mem_files.content.Goals as goal

pub returns-then-eq : goal.returns-then-eq
returns-then-eq c =
    let same : bytes_eq c.args.name.now (string_bytes c.loop-listed-item.result.0) ≡ true = cc in
    get-contents_of c.args.files.now c.args.name.now ∙ (sym c.loop-listed.invariant ∙ (first_under-here c.args.name.now c.args.files.now c.loop-listed.listed-index c.loop-listed-item.result (omega arith) c.loop-listed-item.is same ∙ ap Some (sym c.as_slice.ensures.value)))

pub loop-listed-preserved : goal.loop-listed-preserved
loop-listed-preserved c =
    let other : bytes_eq c.args.name.now (string_bytes c.loop-listed-item.result.0) ≡ false = cc in
    first_under-later c.args.name.now c.args.files.now c.loop-listed.listed-index c.loop-listed-item.result (omega arith) c.loop-listed-item.is other ∙ c.loop-listed.invariant

pub returns : goal.returns
returns c =
    get-contents_of c.args.files.now c.args.name.now ∙ (sym c.loop-listed.invariant ∙ ap (first_under c.args.name.now) (drop_all c.loop-listed.listed-index c.args.files.now (omega arith)))
