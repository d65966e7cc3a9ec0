use Rattle.std.proofs.Common.{sym, ap, ◌∙◌}
use Rattle.text_names.proofs.Entries.{if_ok}
use Rattle.query_bodies.specs.Terms.{said_term}
use Rattle.query_laws.specs.Sight.{said_of}
use Rattle.reading.proofs.Found.{known_found}
use Rattle.reading.proofs.reader.Reader.variable.Goals as goal

pub returns : goal.returns
returns c =
    let r = c.args.self.now in
    if_ok c.of_known.result
    (λ m is kept s e. is ∙ ap (λ k. said_term (said_of k)) (sym (known_found r.vars r.known c.args.name.now c.in_ok-known.known s c.in_ok-known.ensures e)))
    c.of_known.ensures
