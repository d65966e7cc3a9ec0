use Rattle.std.proofs.Common.{sym, subst}
use Rattle.std.specs.List.{AllByRecursion}
use Rattle.rp_grammar.proofs.Toks.{text_ends_in_end}
use Rattle.rp_parser.specs.means.Marks.{toks, IsReadable}
use Rattle.rp_parser.proofs.Readable.{all_readable}
use Rattle.rp_parser.proofs.Whole.{text_toks, few_marks, fault_of, every_tree, every_bad, every_too_deep}
use Rattle.rp_parser.proofs.text.parse.Goals as goal

pub marks_of-requires : goal.marks_of-requires
marks_of-requires c = subst (AllByRecursion (IsReadable c.args.bytes.now)) (sym c.as_slice.ensures.items) (all_readable c.args.bytes.now c.args.tokens.now c.requires)

pub tree_of_marks-requires-clause-few : goal.tree_of_marks-requires-clause-few
tree_of_marks-requires-clause-few c = few_marks c.args.bytes.now c.args.tokens.now c.as_slice.result.now c.as_slice-2.result.now c.in_ok-marks.marks.items c.as_slice.ensures.few c.as_slice.ensures.items c.as_slice-2.ensures.value c.in_ok-marks.ensures

pub tree_of_marks-requires-clause-ends : goal.tree_of_marks-requires-clause-ends
tree_of_marks-requires-clause-ends c =
    let bytes = c.args.bytes.now in
    let ms = c.as_slice-2.result.now in
    text_ends_in_end bytes (toks ms) (text_toks bytes c.args.tokens.now c.as_slice.result.now ms c.in_ok-marks.marks.items c.requires c.as_slice.ensures.items c.as_slice-2.ensures.value c.in_ok-marks.ensures)

pub returns-clause-fault : goal.returns-clause-fault
returns-clause-fault c =
    let bytes = c.args.bytes.now in
    let ms = c.as_slice-2.result.now in
    let has = text_toks bytes c.args.tokens.now c.as_slice.result.now ms c.in_ok-marks.marks.items c.requires c.as_slice.ensures.items c.as_slice-2.ensures.value c.in_ok-marks.ensures in
    fault_of bytes (toks ms) c.tree_of_marks.result has c.tree_of_marks.ensures

pub returns-clause-every_tree : goal.returns-clause-every_tree
returns-clause-every_tree c =
    let bytes = c.args.bytes.now in
    let ms = c.as_slice-2.result.now in
    let has = text_toks bytes c.args.tokens.now c.as_slice.result.now ms c.in_ok-marks.marks.items c.requires c.as_slice.ensures.items c.as_slice-2.ensures.value c.in_ok-marks.ensures in
    every_tree bytes (toks ms) c.tree_of_marks.result has c.tree_of_marks.ensures

pub returns-clause-every_bad : goal.returns-clause-every_bad
returns-clause-every_bad c =
    let bytes = c.args.bytes.now in
    let ms = c.as_slice-2.result.now in
    let has = text_toks bytes c.args.tokens.now c.as_slice.result.now ms c.in_ok-marks.marks.items c.requires c.as_slice.ensures.items c.as_slice-2.ensures.value c.in_ok-marks.ensures in
    every_bad bytes (toks ms) c.tree_of_marks.result has c.tree_of_marks.ensures

pub returns-clause-every_too_deep : goal.returns-clause-every_too_deep
returns-clause-every_too_deep c =
    let bytes = c.args.bytes.now in
    let ms = c.as_slice-2.result.now in
    let has = text_toks bytes c.args.tokens.now c.as_slice.result.now ms c.in_ok-marks.marks.items c.requires c.as_slice.ensures.items c.as_slice-2.ensures.value c.in_ok-marks.ensures in
    every_too_deep bytes (toks ms) c.tree_of_marks.result has c.tree_of_marks.ensures
