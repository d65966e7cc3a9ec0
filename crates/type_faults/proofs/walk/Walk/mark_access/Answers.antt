use Rattle.std.proofs.Common.{ap, refl, ◌∙◌}
use Rattle.rp_ast.specs.View.{access_view}
use Rattle.type_rules.specs.Accesses.{access_of}
use Rattle.type_rules.specs.TextSites.{used_by}
use Rattle.type_tables.specs.Flags.{flag_at}
use Rattle.text_names.proofs.Placed.{on_ok}
use Rattle.type_faults.specs.Walks.{names_at}
use Rattle.type_faults.proofs.Walked.{kept_marks, marks_same}
use Rattle.type_faults.proofs.walk.Walk.mark_access.Goals as goal

pub returns-then-self : goal.returns-then-self
returns-then-self c =
    let w = c.args.self.now in
    record {
      marked = kept_marks w.words (flag_at w.used) (used_by (access_of (names_at w) w.vars (access_view c.args.access.now))) c.if-self.true;
      stands = refl;
      later = refl;
    }

pub returns : goal.returns
returns c =
    on_ok c.mark.result
    (marks_same (c.used_decl.ensures (names_at c.args.self.now) ∙ ap used_by c.in_ok-what.ensures))
    c.mark.ensures
