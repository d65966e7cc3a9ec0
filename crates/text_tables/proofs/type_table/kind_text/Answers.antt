use Rattle.std.proofs.Common.{◌≡◌, ◌++◌, sym, ap, ◌∙◌, arith}
use Rattle.std.specs.Prelude.{codes}
use Rattle.desugaring.specs.Tables.{base_text}
use Rattle.text_names.specs.Declarations.{names_view}
use Rattle.text_tables.specs.means.Texts.{repeated}
use Rattle.text_tables.proofs.TextsLaw.{repeated_more, wrapped}
use Rattle.text_tables.proofs.type_table.kind_text.Goals as goal

pub loop-opened-preserved : goal.loop-opened-preserved
loop-opened-preserved c =
    c.in_ok-text.ensures ∙ ap (λ text. text ++ codes "Maybe[") c.loop-opened.invariant ∙ sym (repeated_more (codes "Maybe[") c.loop-opened._opened)

pub returns : goal.returns
returns c =
    let n = names_view c.args.names.now in
    let kind = c.args.kind in
    let end : c.loop-closed._closed ≡ kind.maybes = omega (arith, c.loop-closed-test.false, c.loop-closed.auto._closed-end) in
    c.loop-closed.invariant ∙ ap (λ m. repeated (codes "Maybe[") kind.maybes ++ base_text n kind.base ++ repeated (codes "]") m) end
    ∙ wrapped n kind.base kind.maybes
