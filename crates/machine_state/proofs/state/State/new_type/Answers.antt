use Rattle.std.proofs.Common.{◌<◌, length, arith}
use Rattle.machine_state.proofs.FitsLemmas.{stands, new_runs, new_ended}
use Rattle.machine_state.proofs.state.State.new_type.Goals as goal

pub returns-then-is_running : goal.returns-then-is_running
returns-then-is_running c =
    let within : c.args.inv < length c.args.self.now.runs = omega (arith, c.requires.fits.kept.runs) in
    new_runs c.args.p.now c.args.self.now c.args.inv _ (stands c.args.p.now c.args.self.now c.args.inv _ c.requires.fits within c.if-is_running.ensures) c.new_of.ensures

pub returns-else-is_running : goal.returns-else-is_running
returns-else-is_running c =
    let within : c.args.inv < length c.args.self.now.runs = omega (arith, c.requires.fits.kept.runs) in
    new_ended c.args.p.now c.args.self.now c.args.inv (stands c.args.p.now c.args.self.now c.args.inv _ c.requires.fits within c.if-is_running.ensures)
