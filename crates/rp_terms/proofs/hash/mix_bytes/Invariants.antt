use Rattle.std.proofs.Common.{◌≡◌, drop}
use Rattle.rp_terms.specs.means.Hash.{mixed_all}
use Rattle.rp_terms.proofs.hash.mix_bytes.Given as goal

abbrev pub invariant-loop-b : goal.invariant-loop-b
invariant-loop-b l = mixed_all l.hash l.bytes ≡ mixed_all l.mixed (drop l.b-index l.bytes)
