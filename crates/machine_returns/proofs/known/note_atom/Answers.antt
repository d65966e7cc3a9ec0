use Rattle.std.proofs.Common.{◌≡◌, List, [], ◌∷◌, ap, sym, subst, ◌∙◌}
use Rattle.rp_value.specs.Values.{Atom}
use Rattle.rp_value.specs.declared.value.Value.{Value}
use Rattle.rp_value.specs.declared.value.Value.TheVariants as made
use Rattle.rp_value.proofs.ValueViews.{value_view-Atom}
use Rattle.machine_returns.specs.Known.{Knows, has}
use Rattle.machine_returns.proofs.KnownLemmas.{extends_same, knows_already, knows_one}
use Rattle.machine_returns.proofs.known.note_atom.Goals as goal

pub returns-then-has_atom-clause-extends : goal.returns-then-has_atom-clause-extends
returns-then-has_atom-clause-extends c = extends_same c.args.known.now

pub returns-then-has_atom-clause-knows : goal.returns-then-has_atom-clause-knows
returns-then-has_atom-clause-knows c =
    let old : List Value = c.args.known.now in
    let there : has old (Atom c.args.ty c.args.num) ≡ _ = ap (λ (xs : List Value). has xs (Atom c.args.ty c.args.num)) (sym c.as_slice.ensures.items) ∙ sym c.if-has_atom.ensures in
    knows_already old (Atom c.args.ty c.args.num) there

pub returns-clause-extends : goal.returns-clause-extends
returns-clause-extends c = record { more = made.Atom c.args.ty c.args.num ∷ []; is = c.in_ok-push.ensures.ok }

pub returns-clause-knows : goal.returns-clause-knows
returns-clause-knows c =
    let old : List Value = c.args.known.now in
    subst (λ new. Knows old (Atom c.args.ty c.args.num ∷ []) new) (sym c.in_ok-push.ensures.ok) (knows_one old (made.Atom c.args.ty c.args.num) (Atom c.args.ty c.args.num) (value_view-Atom c.args.ty c.args.num))
