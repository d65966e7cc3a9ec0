use Rattle.std.proofs.Common.{subst}
use Rattle.std.specs.List.{AllByRecursion}
use Rattle.rp_parser.specs.means.Marks.{IsReadable}
use Rattle.rp_parser.proofs.Readable.{all_read, one_read}
use Rattle.rp_parser.proofs.reading.marks_of.Goals as goal

pub returns-in_default : goal.returns-in_default
returns-in_default c = all_read c.args.text.now c.tokens.rest.now c.args.tokens.now c.tokens.marks.items c.in_default.ensures.cases c.tokens.invariant.reads

pub tokens-preserved : goal.tokens-preserved
tokens-preserved c =
    let text = c.args.text.now in
    let is = c.in-Some.ensures.cases.0 in
    record {
      readable = (subst (AllByRecursion (IsReadable text)) is c.tokens.invariant.readable).1;
      reads = one_read text c.tokens.rest.now c.in-Some.after.now c.args.tokens.now c.in-Some.token.now c.kind_of.result c.push.new.self.items c.tokens.marks.items is c.kind_of.ensures c.in_ok-push.ensures.items c.tokens.invariant.reads;
    }
