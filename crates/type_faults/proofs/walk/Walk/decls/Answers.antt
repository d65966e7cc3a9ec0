use Rattle.std.proofs.Common.{◌≡◌, ◌+◌, ◌-◌, Some, drop, refl, ap, ◌∙◌, subst, arith}
use Rattle.std.specs.List.{slice_get}
use Rattle.std.specs.Option.{option_map}
use Rattle.std.proofs.lemmas.List.{length-map}
use Rattle.std.proofs.lemmas.Option.{slice_get-map}
use Rattle.rp_ast.specs.View.{decl_view, decls_view}
use Rattle.text_names.proofs.Entries.{drop_past}
use Rattle.type_rules.specs.Faults.{first}
use Rattle.type_rules.specs.TextSites.{used_from}
use Rattle.type_faults.specs.Texts.{inner_from}
use Rattle.type_faults.specs.Walks.{names_at}
use Rattle.type_faults.proofs.Entered.{EnteredSo, entered_next, entered_none}
use Rattle.type_faults.proofs.Lists.{drop_read}
use Rattle.type_faults.proofs.walk.Walk.decls.Goals as goal

pub loop-behind-init : goal.loop-behind-init
loop-behind-init c = λ marked counted.
    let decls = c.args.decls.now in
    let count = c.count-count.result in
    entered_none (count - 0) (drop (count - 0) (decls_view decls)) refl counted marked
    (drop_past (decls_view decls) (count - 0) (omega (arith, length-map decls decl_view, c.count-count.ensures.length)))

pub loop-behind-preserved : goal.loop-behind-preserved
loop-behind-preserved c = λ marked counted.
    let decls = c.args.decls.now in
    let count = c.count-count.result in
    let behind = c.loop-behind.behind in
    let number = count - behind - 1 in
    let decl = c.get-decl.result.now in
    let there : slice_get (decls_view decls) number ≡ Some (decl_view decl) =
    slice_get-map decl_view decls number ∙ ap (option_map decl_view) c.get-decl.ensures in
    let before = c.loop-behind.invariant marked counted in
    let above : count - behind ≡ number + 1 = omega arith in
    let same : number ≡ count - (behind + 1) = omega arith in
    subst (λ k. EnteredSo (names_at c.args.self.now) c.inner.new.self c.sooner-best.result k (drop k (decls_view decls))) same
    (entered_next number (count - behind) before above (c.in_ok-own.ensures (used_from (names_at c.args.self.now) (count - behind) (drop (count - behind) (decls_view decls))) before.marked before.counted) c.sooner-best.ensures
    (drop_read (decls_view decls) number (count - behind) (decl_view decl) above there))

pub returns : goal.returns
returns c = λ marked counted.
    let n = names_at c.args.self.now in
    let v = c.loop-behind.invariant marked counted in
    let none : c.count-count.result - c.loop-behind.behind ≡ 0 = omega arith in
    v.fault_is ∙ ap (λ k. first n (inner_from n k (drop k (decls_view c.args.decls.now)))) none
