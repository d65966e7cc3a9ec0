use Rattle.std.proofs.Common.{◌≡◌, ◌∙◌, ap, sym, subst, List, ℕ, ◌++◌, ◌∷◌, []}
use Rattle.std.specs.Prelude.{slice_get}
use Rattle.rp_logic.specs.Terms.{Tm}
use Rattle.rp_logic.specs.Views.{term_view}
use Rattle.rp_terms.specs.declared.node.Node.{Node}
use Rattle.rp_terms.specs.Symbols.{arguments}
use Rattle.rp_terms.specs.Numbered.{AreNumbersOf, HasNoNumber}
use Rattle.rp_terms.specs.means.Built.{terms_of, AreBuilt}
use Rattle.rp_terms.proofs.Places.{at_last}
use Rattle.rp_terms.proofs.BankLaws.{built_length, built_more, terms_more}
use Rattle.rp_terms.proofs.bank.Bank.add.Goals as goal

pub invariant_of-self-in-Ok : goal.invariant_of-self-in-Ok
invariant_of-self-in-Ok c =
    let u = term_view c.args.t.now in
    let n : Node = record { symbol = c.in_ok-symbol.symbol; parts = c.args.parts } in
    let parts = subst (λ (ts : List Tm). AreNumbersOf ts c.args.parts (arguments u)) (sym c.self.view_is) c.requires.numbers in
    let none = subst (λ (ts : List Tm). HasNoNumber ts u) (sym c.self.view_is) c.requires.unknown in
    subst (λ (nodes : List Node). AreBuilt nodes c.push-2.new.self) (sym c.in_ok-push.ensures.ok)
    (subst (λ (hashes : List ℕ). AreBuilt (c.self.inside.nodes ++ n ∷ []) hashes) (ap (λ h. c.self.inside.hashes ++ h ∷ []) (sym c.requires.hashed) ∙ sym c.in-Ok.ensures.ok)
    (built_more c.self.inside.nodes c.self.inside.hashes c.self.invariant u n c.in_ok-symbol.ensures parts none))

pub returns-in-Ok-clause-ok : goal.returns-in-Ok-clause-ok
returns-in-Ok-clause-ok c =
    let u = term_view c.args.t.now in
    let n : Node = record { symbol = c.in_ok-symbol.symbol; parts = c.args.parts } in
    let parts = subst (λ (ts : List Tm). AreNumbersOf ts c.args.parts (arguments u)) (sym c.self.view_is) c.requires.numbers in
    ap terms_of c.in_ok-push.ensures.ok
    ∙ terms_more c.self.inside.nodes c.self.inside.hashes c.self.invariant u n c.in_ok-symbol.ensures parts
    ∙ ap (λ ts. ts ++ u ∷ []) c.self.view_is

pub returns-in-Ok-clause-number : goal.returns-in-Ok-clause-number
returns-in-Ok-clause-number c =
    let u = term_view c.args.t.now in
    let n : Node = record { symbol = c.in_ok-symbol.symbol; parts = c.args.parts } in
    let parts = subst (λ (ts : List Tm). AreNumbersOf ts c.args.parts (arguments u)) (sym c.self.view_is) c.requires.numbers in
    let now : terms_of c.push.new.self ≡ terms_of c.self.inside.nodes ++ u ∷ [] =
    ap terms_of c.in_ok-push.ensures.ok ∙ terms_more c.self.inside.nodes c.self.inside.hashes c.self.invariant u n c.in_ok-symbol.ensures parts in
    ap (λ ts. slice_get ts c.count-id.result) now
    ∙ ap (slice_get (terms_of c.self.inside.nodes ++ u ∷ [])) (c.count-id.ensures.length ∙ sym (built_length c.self.inside.nodes))
    ∙ at_last (terms_of c.self.inside.nodes) u
