use Rattle.std.proofs.Common.{refl, ap₂}
use Rattle.type_faults.specs.Walks.{seeing, stand_of}
use Rattle.type_faults.proofs.walk.Walk.join.Goals as goal

pub returns : goal.returns
returns c =
    let w = c.args.self.now in
    record {
      stands = ap₂ (λ vs l. seeing (stand_of w) (record { vars = vs; live = l })) c.join.ensures c.either-self.ensures;
      later = refl;
      used = refl;
    }
