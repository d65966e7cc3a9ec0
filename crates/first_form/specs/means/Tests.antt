-- What is tested of a program that is well formed. That its datatype is `Bool` and its operation `tx`, each such program keeps.
use Rattle.std.specs.Prelude.{Bool, ◌&&◌, ◌==◌, length}
use Rattle.rp_lang.specs.Programs.{Prog}

-- no id types, roots, queries and invariants, and one datatype and one operation
abbrev pub has_procs_alone : Prog → Bool
has_procs_alone p =
    length p.types.atoms == 0 && length p.types.datatypes == 1 && length p.roots == 0
    && length p.ops == 1 && length p.queries == 0 && length p.invs == 0
