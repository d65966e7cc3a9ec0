use Rattle.std.proofs.Common.{◌≡◌, ◌≤◌, take, count_by}
use Rattle.crdt_defs.specs.Doing.{is_key}
use Rattle.crdt_lib.proofs.doing.keys_in.Given as goal

abbrev pub invariant-loop-step : goal.invariant-loop-step
invariant-loop-step l = record { keys : l.keys ≡ count_by is_key (take l.step-index l.path); few : l.keys ≤ l.step-index }
