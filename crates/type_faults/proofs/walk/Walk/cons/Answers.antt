use Rattle.std.proofs.Common.{◌+◌, refl, sym, ap, ◌∙◌, drop, map}
use Rattle.rp_ast.specs.View.{con_view}
use Rattle.type_rules.specs.DeclSites.{con_sites}
use Rattle.type_rules.specs.Faults.{first, sooner}
use Rattle.text_names.proofs.Entries.{drop_past}
use Rattle.type_faults.specs.Walks.{names_at}
use Rattle.type_faults.proofs.Lists.{next_in}
use Rattle.type_faults.proofs.Named.{best_ended, best_next, con_split}
use Rattle.type_faults.proofs.walk.Walk.cons.Goals as goal

pub loop-con-init : goal.loop-con-init
loop-con-init c = refl

pub loop-con-preserved : goal.loop-con-preserved
loop-con-preserved c =
    let w = c.args.self.now in
    let cons = c.args.cons.now in
    let i = c.loop-con.con-index in
    let con = c.con-item.result in
    let rest = map con_view (drop (i + 1) cons) in
    best_next c.loop-con.best c.in_ok-con.field-0 (first (names_at w) (con_sites w.decl rest)) c.loop-con.invariant
    (next_in (λ l. first (names_at w) (con_sites w.decl (map con_view l))) cons i con c.loop-con-test.true c.con-item.is
    ∙ con_split (names_at w) w.decl (con_view con) rest
    ∙ ap (λ o. sooner o (first (names_at w) (con_sites w.decl rest))) (sym c.in_ok-con.ensures))
    c.sooner-best.ensures

pub returns : goal.returns
returns c =
    let w = c.args.self.now in
    best_ended c.loop-con.best c.loop-con.invariant
    (ap (λ l. first (names_at w) (con_sites w.decl (map con_view l))) (drop_past c.args.cons.now c.loop-con.con-index c.loop-con-test.false))
