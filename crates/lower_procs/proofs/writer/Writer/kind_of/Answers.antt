use Rattle.std.proofs.Common.{List, ℕ, ap, sym, ◌∙◌}
use Rattle.type_rules.specs.Accesses.{find_var}
use Rattle.reading.specs.Reads.{sight_of}
use Rattle.lower_procs.specs.Writing.{vars_of}
use Rattle.lower_procs.proofs.Sights.{named_kind, vars_seen}
use Rattle.lower_procs.proofs.writer.Writer.kind_of.Goals as goal

pub returns-in-Some : goal.returns-in-Some
returns-in-Some c ready s e =
    let r = c.args.self.now.maker.reader in
    let x = c.args.name.now.text in
    named_kind (vars_of c.args.self.now) x s _ e
    (ap (λ vs. find_var vs x) (vars_seen r ready.kept) ∙ ap (λ (n : List ℕ). find_var r.vars n) (sym c.as_slice.ensures.items)
    ∙ sym c.in-Some.ensures)
