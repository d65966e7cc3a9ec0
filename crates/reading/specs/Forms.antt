-- What is said, as a formula.
use Rattle.query_bodies.specs.Terms as te
use Rattle.query_bodies.specs.Terms.{Cl, Said, said_claim, said_term}

-- of a term of type `Bool` that it is true
abbrev pub claim_of : Said → Cl
claim_of (said_term e) = te.Holds e
claim_of (said_claim f) = f
