use Rattle.std.proofs.Common.{List, ℕ, length, sym, subst}
use Rattle.std.specs.Prelude.{Some, nat_eq}
use Rattle.std.specs.HashMap.{Updates}
use Rattle.rp_terms.specs.declared.hashes.Link.{Link}
use Rattle.rp_terms.specs.means.Latest.{IsLatest}
use Rattle.rp_terms.specs.means.Links.{AreLinked}
use Rattle.rp_terms.proofs.LinkLaws.{still_linked}
use Rattle.rp_terms.proofs.hashes.Hashes.push.Goals as goal

pub invariant_of-self-in-Ok : goal.invariant_of-self-in-Ok
invariant_of-self-in-Ok c =
    let link : Link = record { hash = c.args.hash; before = c.last-before.result } in
    let before = subst (λ (hs : List ℕ). IsLatest c.args.hash hs (length hs) c.last-before.result) (sym c.self.view_is) c.last-before.ensures in
    let up : Updates nat_eq c.self.inside.last c.insert.new.self c.args.hash (Some (length c.self.inside.links)) =
    subst (λ (n : ℕ). Updates nat_eq c.self.inside.last c.insert.new.self c.args.hash (Some n)) c.count-id.ensures.length c.in-Ok.ensures.updates in
    subst (λ (links : List Link). AreLinked c.insert.new.self links) (sym c.in_ok-push.ensures.ok)
    (still_linked c.self.inside.last c.insert.new.self c.self.inside.links link c.self.invariant up before)
