use Rattle.std.proofs.Common.{◌≡◌, ◌∙◌, ap, sym, map, subst, ℕ, ◌<◌, ◌+◌, drop, length, get_or}
use Rattle.std.specs.Prelude.{Some, slice_get}
use Rattle.rp_logic.specs.Views.{term_view}
use Rattle.rp_terms.specs.Symbols.{arguments}
use Rattle.rp_terms.specs.means.Hash.{term_hash, mixed, mixed_all}
use Rattle.rp_terms.proofs.Places.{mapped_length, mapped_at, at_get}
use Rattle.rp_terms.proofs.BankLaws.{numbers_within}
use Rattle.rp_terms.proofs.HashLaws.{hash_again, number_drop}
use Rattle.rp_terms.proofs.bank.Bank.hash_over.Goals as goal

pub loop-part-init : goal.loop-part-init
loop-part-init c =
    let u = term_view c.args.t.now in
    hash_again u ∙ ap (λ h. mixed_all h (map term_hash (arguments u))) (sym c.symbol_hash-hash.ensures)

pub get-requires : goal.get-requires
get-requires c =
    let u = term_view c.args.t.now in
    subst (λ (n : ℕ). get_or c.args.parts.now c.loop-part.part-index 0 < n)
    (sym (mapped_length term_hash c.args.self.now) ∙ ap length (sym (c.self.invariant.hashed ∙ ap (map term_hash) c.self.view_is)))
    (numbers_within c.args.self.now c.args.parts.now (arguments u) c.requires c.loop-part.part-index _ (at_get c.args.parts.now c.loop-part.part-index 0 c.loop-part-test.true))

pub loop-part-preserved : goal.loop-part-preserved
loop-part-preserved c =
    let u = term_view c.args.t.now in
    let p = get_or c.args.parts.now c.loop-part.part-index 0 in
    let found = number_drop c.args.self.now c.args.parts.now (arguments u) c.requires c.loop-part.part-index p (at_get c.args.parts.now c.loop-part.part-index 0 c.loop-part-test.true) in
    let hashed = c.self.invariant.hashed ∙ ap (map term_hash) c.self.view_is in
    let stored : Some (term_hash found.0) ≡ Some c.get.result = sym (mapped_at term_hash c.args.self.now p found.0 found.1) ∙ ap (λ hs. slice_get hs p) (sym hashed) ∙ c.get.ensures in
    let same : term_hash found.0 ≡ c.get.result = cc in
    c.loop-part.invariant ∙ ap (λ ts. mixed_all c.loop-part.hash (map term_hash ts)) found.2
    ∙ ap (λ h. mixed_all h (map term_hash (drop (c.loop-part.part-index + 1) (arguments u)))) (ap (mixed c.loop-part.hash) same ∙ sym c.mix-hash.ensures)
