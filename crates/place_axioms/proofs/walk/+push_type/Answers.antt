use Rattle.std.proofs.Common.{◌≡◌, ◌++◌, ◌-◌, map, length, ap, sym, subst, ◌∙◌, append-nil, arith}
use Rattle.std.specs.Prelude.{OnOk}
use Rattle.rp_value.specs.declared.tables.Ty.{Ty}
use Rattle.rp_lang.specs.ProgramView.{program_view}
use Rattle.rp_logic.specs.Formulas.{also_fm}
use Rattle.rp_logic.specs.Terms.{Sel}
use Rattle.rp_logic.specs.Views.{formula_view}
use Rattle.hist_struct.specs.Axioms.{is_built, of_con, in_cons}
use Rattle.place_axioms.specs.Spots.{Reached, spot_view}
use Rattle.place_axioms.specs.means.Below.{below}
use Rattle.place_axioms.proofs.BelowLaws.{below_atom, below_data, below_other}
use Rattle.place_axioms.proofs.Next.{fields_next}
use Rattle.place_axioms.proofs.SpotViews.{reached, spot_view-Part}
use Rattle.place_axioms.proofs.walk.+push_type.Goals as goal

pub push_fields-loop-place-preserved : goal.push_fields-loop-place-preserved
push_fields-loop-place-preserved t c =
    let p = program_view c.args.p.now in
    let s = spot_view c.args.spot.now in
    let rec = below p c.args.sort c.args.kind c.args.fuel in
    let given = also_fm (is_built c.args.con (length c.args.fields.now) s.term) s.given in
    let old = map formula_view c.loop-place.axioms in (
      omega arith,
      fields_next rec given c.args.con s.term c.args.fields.now c.loop-place.place c.loop-place.i c.field-ty.result old (map formula_view c.push_type.new.axioms) _
          c.loop-place.invariant.0 c.loop-place-test.true c.field-ty.ensures c.loop-place.invariant.1
          (c.in_ok-push_type.ensures
          ∙ ap (λ (r : Reached). old ++ rec r.given c.field-ty.result r.term)
          (spot_view-Part c.args.con c.in_ok-places.places c.loop-place.i _
          ∙ ap (λ n. reached (Sel c.args.con c.loop-place.i s.term) (also_fm (is_built c.args.con n s.term) s.given)) c.in_ok-places.ensures)),
    )

pub push_type-returns-in-Atom : goal.push_type-returns-in-Atom
push_type-returns-in-Atom t c =
    let p = program_view c.args.p.now in
    let s = spot_view c.args.spot.now in
    let is = ap (λ (y : Ty). below p c.args.sort c.args.kind c.args.fuel s.given y s.term) c.in-Atom.is
    ∙ below_atom p c.args.sort c.args.kind c.args.fuel s.given c.in-Atom.k s.term c.if-fuel-eq0.false in
    subst (λ fs. OnOk c.push_atom.result (map formula_view c.push_atom.new.axioms ≡ map formula_view c.args.axioms.now ++ fs)) (sym is) c.push_atom.ensures

pub push_type-returns-in-Datatype : goal.push_type-returns-in-Datatype
push_type-returns-in-Datatype t c =
    let p = program_view c.args.p.now in
    let s = spot_view c.args.spot.now in
    let is = ap (λ (y : Ty). below p c.args.sort c.args.kind c.args.fuel s.given y s.term) c.in-Datatype.is
    ∙ below_data p c.args.sort c.args.kind c.args.fuel s.given c.in-Datatype.d s.term c.if-fuel-eq0.false
    ∙ ap (λ cs. in_cons p (below p c.args.sort c.args.kind (c.args.fuel - 1)) s.given cs s.term) (sym c.cons_of.ensures) in
    subst (λ fs. OnOk c.push_cons.result (map formula_view c.push_cons.new.axioms ≡ map formula_view c.args.axioms.now ++ fs)) (sym is) c.push_cons.ensures

pub push_type-returns-in_default : goal.push_type-returns-in_default
push_type-returns-in_default t c =
    let s = spot_view c.args.spot.now in
    sym (append-nil (map formula_view c.args.axioms.now))
    ∙ ap (λ fs. map formula_view c.args.axioms.now ++ fs)
    (sym (below_other (program_view c.args.p.now) c.args.sort c.args.kind c.args.fuel s.given c.args.ty.now s.term c.in_default.not-Atom c.in_default.not-Datatype))

pub push_con-returns : goal.push_con-returns
push_con-returns t c =
    let p = program_view c.args.p.now in
    let s = spot_view c.args.spot.now in
    subst (λ tys. OnOk c.push_fields.result (map formula_view c.push_fields.new.axioms ≡ map formula_view c.args.axioms.now ++ of_con (below p c.args.sort c.args.kind c.args.fuel) s.given c.args.con tys s.term))
    c.fields_of.ensures c.push_fields.ensures
