use Rattle.std.proofs.Common.{◌≡◌, ◌∙◌, ap, sym, map, subst, ℕ, ◌<◌, length, true, false, true≢false}
use Rattle.std.specs.Prelude.{Option, slice_get}
use Rattle.rp_logic.specs.Views.{term_view}
use Rattle.rp_terms.specs.means.Hash.{term_hash}
use Rattle.rp_terms.proofs.Places.{mapped_length}
use Rattle.rp_terms.proofs.SearchLaws.{IsSought, sought_first, sought_next, sought_all, sought_within, fewer_left, left_of}
use Rattle.rp_terms.proofs.bank.Bank.known.Goals as goal

pub chain-init : goal.chain-init
chain-init c =
    sought_first c.args.self.now (term_view c.args.t.now) c.args.hash c.self.inside.hashes c.last-at.result c.requires.hashed
    (c.self.invariant.hashed ∙ ap (map term_hash) c.self.view_is) c.last-at.ensures

pub is_node-requires : goal.is_node-requires
is_node-requires c = record {
  within = sought_within c.args.self.now (term_view c.args.t.now) c.in-Some.id
      (subst (λ (o : Option ℕ). IsSought c.args.self.now (term_view c.args.t.now) o) c.in-Some.is c.chain.invariant);
  numbers = c.requires.numbers;
}

pub before-at-requires : goal.before-at-requires
before-at-requires c =
    let lt = sought_within c.args.self.now (term_view c.args.t.now) c.in-Some.id
    (subst (λ (o : Option ℕ). IsSought c.args.self.now (term_view c.args.t.now) o) c.in-Some.is c.chain.invariant) in
    subst (λ (n : ℕ). c.in-Some.id < n)
    (sym (mapped_length term_hash c.args.self.now) ∙ ap length (sym (c.self.invariant.hashed ∙ ap (map term_hash) c.self.view_is))) lt

pub chain-preserved : goal.chain-preserved
chain-preserved c =
    sought_next c.args.self.now (term_view c.args.t.now) c.self.inside.hashes c.in-Some.id c.before-at.result
    (c.self.invariant.hashed ∙ ap (map term_hash) c.self.view_is)
    (subst (λ (o : Option ℕ). IsSought c.args.self.now (term_view c.args.t.now) o) c.in-Some.is c.chain.invariant)
    (λ at. let no : false ≡ true = c.if-is_node.ensures.1 at in absurd (true≢false (sym no))) c.before-at.ensures

pub returns : goal.returns
returns c =
    sought_all c.args.self.now (term_view c.args.t.now)
    (subst (λ (o : Option ℕ). IsSought c.args.self.now (term_view c.args.t.now) o) c.in_default.is c.chain.invariant)

pub chain-smaller : goal.chain-smaller
chain-smaller c =
    let sought = subst (λ (o : Option ℕ). IsSought c.args.self.now (term_view c.args.t.now) o) c.in-Some.is c.chain.invariant in
    let hashed = c.self.invariant.hashed ∙ ap (map term_hash) c.self.view_is in
    let at = ap (λ ks. slice_get ks c.in-Some.id) hashed ∙ sought.1.0 in
    subst (λ (o : Option ℕ). left_of c.before-at.result < left_of o) (sym c.in-Some.is)
    (fewer_left (term_hash (term_view c.args.t.now)) c.self.inside.hashes c.in-Some.id c.before-at.result
    (c.before-at.ensures (term_hash (term_view c.args.t.now)) at))
