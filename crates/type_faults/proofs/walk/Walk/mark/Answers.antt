use Rattle.std.proofs.Common.{not, refl, sym, ap, ◌∙◌}
use Rattle.type_tables.specs.Flags.{flag_at}
use Rattle.type_tables.specs.Marks.{with_marks}
use Rattle.text_names.proofs.Placed.{on_ok}
use Rattle.type_faults.specs.Walks.{numbered}
use Rattle.type_faults.proofs.Walked.{marks_same, none_marked}
use Rattle.type_faults.proofs.walk.Walk.mark.Goals as goal

pub returns-in-Some : goal.returns-in-Some
returns-in-Some c = on_ok c.mark_one.result (marks_same (ap numbered (sym c.in-Some.is))) c.mark_one.ensures

pub returns-in-None : goal.returns-in-None
returns-in-None c =
    let w = c.args.self.now in
    record {
      marked = sym (none_marked (not w.words) (flag_at w.used))
          ∙ ap (λ o. with_marks (not w.words) (numbered o) (flag_at w.used)) (sym c.in-None.is);
      stands = refl;
      later = refl;
    }
