-- The structure of a step fits all parts of the state before it, and of the state after it.
use Rattle.std.proofs.Common.{◌≡◌, ◌<◌, ℕ, true, List, refl, sym, subst, length}
use Rattle.rp_lang.specs.Programs.{Prog}
use Rattle.rp_lang.specs.WellFormed.{is_well_formed}
use Rattle.crdt_defs.specs.Parts.{Parts}
use Rattle.event_machine.specs.Machine.{plain}
use Rattle.rp_logic.specs.Truth.{Meaning}
use Rattle.crdt_enc.specs.Places.{At}
use Rattle.crdt_enc.specs.FitsParts.{FitsParts}
use Rattle.hist_struct.specs.Snapshots.{before_at, after_at}
use Rattle.hist_struct.specs.means.Fitting.{FitsMost, FitsAtoms}
use Rattle.hist_struct.specs.Steps.{Step, IsStep}
use Rattle.hist_struct.specs.Structure.{sig_at, meaning_of}
use Rattle.hist_struct.proofs.AtomLaws.{atoms-fit}
use Rattle.hist_struct.proofs.FitLaws.{fits-before, fits-after}
use Rattle.hist_struct.proofs.MoveFacts.{kept}
use Rattle.hist_struct.proofs.SigLaws.{sig-is}
use Rattle.hist_struct.proofs.StepPrograms.{program-is}

pub parts-fit : (p : Prog) (M : Meaning) (at : At) (parts : Parts) (universe : ℕ) → parts.universe ≡ universe → FitsMost p M at parts → FitsAtoms p M universe
    → FitsParts p M at parts
parts-fit p M at parts universe e most atoms = record {
  calls = most.calls;
  committed = most.committed;
  invs = most.invs;
  inv_points = most.inv_points;
  existing = most.existing;
  atoms = λ n k l lk. atoms.atoms n k l (subst (λ u. k < u) e lk);
  atom_points = λ n y l i. let r = atoms.atom_points n y l i in (r.0, r.1, subst (λ u. r.0 < u) (sym e) r.2);
  same = most.same;
  origins = most.origins;
  infos = most.infos;
  results = most.results;
  sums = most.sums;
  differences = most.differences;
}

pub before-fits : (x : Step) (consts : List ℕ) → is_well_formed x.program ≡ true → IsStep x → (view : ℕ)
    → FitsParts x.program (meaning_of (sig_at x consts) x) (before_at view) (plain x.old)
before-fits x consts w m view =
    let k = program-is x.program w in
    parts-fit x.program (meaning_of (sig_at x consts) x) (before_at view) (plain x.old) x.new.universe (kept x w m).grows.universe
    (fits-before (sig_at x consts) (sig-is x.program x.views consts (length x.reads)) x k m view) (atoms-fit x consts)

pub after-fits : (x : Step) (consts : List ℕ) → is_well_formed x.program ≡ true → IsStep x → (view : ℕ)
    → FitsParts x.program (meaning_of (sig_at x consts) x) (after_at view) (plain x.new)
after-fits x consts w m view =
    parts-fit x.program (meaning_of (sig_at x consts) x) (after_at view) (plain x.new) x.new.universe refl
    (fits-after (sig_at x consts) (sig-is x.program x.views consts (length x.reads)) x (program-is x.program w) m view) (atoms-fit x consts)
