use Rattle.std.proofs.Common.{◌≡◌, List, Some, slice_get, slice_set, length, ap, ◌∙◌, arith}
use Rattle.std.proofs.lemmas.List.{length-set, set-set}
use Rattle.machine_effects.proofs.EffectLemmas.{set_here}
use Rattle.machine_state.specs.declared.state.Run.{Run}
use Rattle.machine_state.proofs.StateLemmas.{some_at}
use Rattle.machine_locals.proofs.slots.assign.Goals as goal

pub go_on-requires : goal.go_on-requires
go_on-requires c =
    let run = some_at c.args.runs.now c.args.i c.requires in
    let len = ap length (c.put.ensures run.0 run.1) ∙ length-set c.args.runs.now c.args.i _ in
    omega (arith, len)

pub returns : goal.returns
returns c = λ run at_run.
    let runs : List Run = c.args.runs.now in
    let first : Run = record run { slots = slice_set run.slots c.args.slot (Some c.args.value) } in
    let put : c.put.new.self ≡ slice_set runs c.args.i first = c.put.ensures run at_run in
    let last : Run = record first { at = c.args.behind } in
    c.go_on.ensures first (ap (λ (rs : List Run). slice_get rs c.args.i) put ∙ set_here runs c.args.i first c.requires)
    ∙ ap (λ (rs : List Run). slice_set rs c.args.i last) put
    ∙ set-set runs c.args.i first last
