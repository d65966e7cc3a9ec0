use Rattle.std.proofs.Common.{◌∙◌, ap, sym, subst, ℤ, pos, negsuc, ◌≤ℤ◌, rules, arith}
use Rattle.std.proofs.lemmas.Int.{ints, to_z-of_z}
use Rattle.crdt_defs.specs.Calls.{calls_view}
use Rattle.crdt_defs.specs.Doing as spec
use Rattle.crdt_lib.proofs.AmountLemmas.{amount_least, amount_most}
use Rattle.crdt_lib.proofs.answer.amount.Goals as goal

pub returns-clause-least : goal.returns-clause-least
returns-clause-least c =
    let P : ℤ → Type 0 = λ n. negsuc 9223372036854775807 ≤ℤ n in
    let same = c.amount_of.ensures ∙ ap (spec.amount c.args.ops.now) (sym c.call.ensures.seen) in
    let least : negsuc 9223372036854775807 ≤ℤ c.amount_of.result = subst P (sym same) (amount_least c.args.ops.now (calls_view c.args.h.now) c.args.c c.len-calls.ensures.history) in
    first_of (search (rules, least), grind (arith, ints, to_z-of_z))

pub returns-clause-most : goal.returns-clause-most
returns-clause-most c =
    let P : ℤ → Type 0 = λ n. n ≤ℤ pos 9223372036854775807 in
    let same = c.amount_of.ensures ∙ ap (spec.amount c.args.ops.now) (sym c.call.ensures.seen) in
    let most : c.amount_of.result ≤ℤ pos 9223372036854775807 = subst P (sym same) (amount_most c.args.ops.now (calls_view c.args.h.now) c.args.c c.len-calls.ensures.history) in
    first_of (search (rules, most), grind (arith, ints, to_z-of_z))
