-- What a reader speaks of.
use Rattle.rp_lang.specs.ProgramView.{program_view}
use Rattle.rp_lang.specs.Programs.{Prog}
use Rattle.schedule_fmt.specs.declared.reader.Reader.{Reader}

abbrev pub prog : Reader → Prog
prog r = program_view r.names.now.program.now
