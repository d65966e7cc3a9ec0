use Rattle.std.proofs.Common.{[], ◌∷◌, refl}
use Rattle.type_tables.specs.Flags.{flag_at}
use Rattle.type_faults.proofs.Walked.{kept_marks, one_marked}
use Rattle.type_faults.proofs.walk.Walk.mark_one.Goals as goal

pub returns-then-self : goal.returns-then-self
returns-then-self c =
    let w = c.args.self.now in
    record { marked = kept_marks w.words (flag_at w.used) (c.args.decl ∷ []) c.if-self.true; stands = refl; later = refl }

pub returns : goal.returns
returns c =
    let w = c.args.self.now in
    record {
      marked = one_marked w.words (flag_at w.used) (flag_at c.mark.new.self) c.args.decl c.if-self.false c.in_ok-mark.ensures;
      stands = refl;
      later = refl;
    }
