-- The program that definitions speak of, of a program of the code.
use Rattle.rp_lang.specs.declared.program.Program.{Program}
use Rattle.rp_lang.specs.Programs.{Prog}
use Rattle.rp_lang.specs.Views.{parts_view}

abbrev pub program_view : Program → Prog
program_view p = parts_view p.types p.cons p.roots p.ops p.queries p.invs p.procs
