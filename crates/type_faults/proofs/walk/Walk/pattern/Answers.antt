use Rattle.std.proofs.Common.{◌≡◌, [], ◌∷◌, length, refl, sym, ap, ap₂, ◌∙◌}
use Rattle.std.proofs.lemmas.List.{length-map}
use Rattle.std.specs.Option.{option_map, option_map_or}
use Rattle.rp_ast.specs.View.{ident_view, idents_view, pattern_view}
use Rattle.type_rules.specs.Sites.{Site}
use Rattle.type_rules.specs.Flow.{in_pattern}
use Rattle.type_rules.specs.Matches.{bound_sites, case_named, pattern_kinds, with_bound}
use Rattle.type_rules.specs.ExprSites.{pattern_sites}
use Rattle.type_rules.specs.Faults.{judged}
use Rattle.type_terms.specs.Views.{fields_of}
use Rattle.type_faults.specs.Walks.{names_at, sight_of}
use Rattle.type_faults.proofs.Bound.{fields_are}
use Rattle.type_faults.proofs.Walked.{both, here_one, recast}
use Rattle.type_faults.proofs.walk.Walk.pattern.Goals as goal

pub returns : goal.returns
returns c = λ later kind arms counted cases table.
    let a = c.args.self.now in
    let n = names_at a in
    let pattern = c.args.pattern.now in
    let con = ident_view pattern.con in
    let vars = idents_view pattern.vars in
    let slice = c.as_slice-vars.result.now in
    let fields = option_map_or (fields_of n) c.case_named-case.result [] in
    let kinds : fields ≡ pattern_kinds n kind pattern.con.text =
    fields_are n c.case_named-case.result _ (c.case_named-case.ensures n
    ∙ ap₂ (λ cs x. option_map (λ case. case.fields) (case_named cs x)) cases c.as_slice.ensures.items) in
    let many : length slice ≡ length vars = ap length c.as_slice-vars.ensures.items ∙ sym (length-map pattern.vars ident_view) in
    let own = here_one {later = later} (λ p. Site.pattern kind arms con (length vars))
    (c.judge_pattern-fault.ensures arms kind table cases ∙ ap (λ k. judged n (Site.pattern kind arms con k)) many) refl counted in
    recast (λ p. pattern_sites p.names p.sight.vars kind arms (pattern_view pattern)) (λ p. in_pattern p.names p.sight kind (pattern_view pattern))
    (both own (c.in_ok-below.ensures later counted) c.sooner.ensures)
    (ap₂ (λ xs ks. Site.pattern kind arms con (length vars) ∷ bound_sites a.vars (idents_view xs) ks) c.as_slice-vars.ensures.items kinds)
    (ap₂ (λ xs ks. record (sight_of a) { vars = with_bound a.vars (idents_view xs) ks }) c.as_slice-vars.ensures.items kinds)
