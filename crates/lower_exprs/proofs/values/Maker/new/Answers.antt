use Rattle.std.proofs.Common.{◌≡◌, List, [], length, map, ap, ap₂, sym, subst, ◌∙◌}
use Rattle.type_rules.specs.Accesses.{Var}
use Rattle.desugaring.specs.Callees.{vars_of}
use Rattle.query_laws.specs.Sight.{AreGiven, AreUnder, Seen, seen}
use Rattle.reading.specs.declared.reader.Known as code_known
use Rattle.reading.specs.Reads.{known_view}
use Rattle.lower_exprs.proofs.values.Maker.new.Goals as goal

pub returns-clause-ready : goal.returns-clause-ready
returns-clause-ready c measured =
    let r = c.new.result in
    let e = c.new.ensures in
    let none : seen r.vars (map known_view r.known) ≡ [] =
    ap₂ (λ (vs : List Var) (ks : List code_known.Known). seen vs (map known_view ks)) e.vars e.known in
    record {
      kept = record { long = ap length e.vars ∙ sym (ap length e.known); rules = ap vars_of none ∙ sym e.vars };
      stands = record {
        levels = subst (λ (vs : Seen). AreUnder r.binders vs) (sym none) tt;
        args = subst (λ (vs : Seen). AreGiven [] vs) (sym none) tt;
      };
      tables = e.tables;
      bodies = e.bodies;
      binders = e.binders;
      measured = measured;
    }
