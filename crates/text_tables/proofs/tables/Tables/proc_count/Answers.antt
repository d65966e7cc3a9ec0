use Rattle.text_tables.proofs.tables.Tables.proc_count.Goals as goal

pub returns : goal.returns
returns c = c.args.self.now.known.procs_are.many
