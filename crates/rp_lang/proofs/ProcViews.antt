-- A procedure of a program as it is seen.
use Rattle.std.proofs.Common.{◌≡◌, ℕ, List, map, slice_get}
use Rattle.std.specs.Option.{option_map}
use Rattle.std.proofs.lemmas.Option.{slice_get-map}
use Rattle.rp_lang.specs.declared.proc.ProcDecl.{ProcDecl}
use Rattle.rp_lang.specs.Views.{proc_view}

pub proc_at : (procs : List ProcDecl) (n : ℕ) → slice_get (map proc_view procs) n ≡ option_map proc_view (slice_get procs n)
proc_at procs n = slice_get-map proc_view procs n
