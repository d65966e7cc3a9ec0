use Rattle.std.proofs.Common.{◌≡◌, ℕ, ◌<◌, Some, slice_get}
use Rattle.rp_lang.specs.Programs.{Proc}
use Rattle.rp_lang.specs.ProgramView.{program_view}
use Rattle.code_points.specs.Points.{size}
use Rattle.machine_state.proofs.state.has_room.Given as goal

abbrev pub invariant-loop-q : goal.invariant-loop-q
invariant-loop-q l = (n : ℕ) (q : Proc) → n < l.q-index → slice_get (program_view l.p).procs n ≡ Some q → size q.body < 18446744073709551615
