use Rattle.std.proofs.Common.{refl, ap}
use Rattle.type_faults.specs.Walks.{seeing, stand_of}
use Rattle.type_faults.proofs.walk.Walk.back_to.Goals as goal

pub returns : goal.returns
returns c =
    let w = c.args.self.now in
    record {
      stands = ap (λ vs. seeing (stand_of w) (record { vars = vs; live = w.live })) c.truncate.ensures;
      later = refl;
      used = refl;
    }
