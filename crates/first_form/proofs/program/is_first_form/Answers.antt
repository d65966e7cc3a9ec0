use Rattle.std.proofs.Common.{◌↔◌, IsTrue, sym, subst}
use Rattle.rp_lang.specs.FirstForm.{IsFirstForm}
use Rattle.rp_lang.specs.ProgramView.{program_view}
use Rattle.first_form.proofs.Bare.{first_form_told}
use Rattle.first_form.proofs.program.is_first_form.Goals as goal

pub returns : goal.returns
returns c =
    let p = program_view c.args.program.now in
    subst (λ b. IsTrue b ↔ IsFirstForm p) (sym c.has_such_procs_alone.ensures) (first_form_told p c.args.program.now.well_formed)
