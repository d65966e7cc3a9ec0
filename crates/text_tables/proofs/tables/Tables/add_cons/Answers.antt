use Rattle.std.proofs.Common.{◌≡◌, ap, sym, subst, ◌∙◌}
use Rattle.std.specs.Prelude.{OnOk}
use Rattle.std.specs.Option.{option_map}
use Rattle.type_rules.specs.Matches.{cases_of}
use Rattle.type_terms.specs.Views.{cases_view}
use Rattle.desugaring.specs.Tables.{con_decl}
use Rattle.text_tables.specs.Seen.{tables_view}
use Rattle.text_tables.specs.means.Grown.{Grows}
use Rattle.text_tables.proofs.ConsLaw.{cons_are, no_cons}
use Rattle.text_tables.proofs.Growing.{grows_none}
use Rattle.text_tables.proofs.tables.Tables.add_cons.Goals as goal

pub returns-in-Some : goal.returns-in-Some
returns-in-Some c =
    let t = tables_view c.args.self.now in
    let told : option_map (cases_view t.names) c.cases_of.result ≡ cases_of t.names c.args.kind.now =
    subst (λ n. option_map (cases_view n) c.cases_of.result ≡ cases_of n c.args.kind.now) c.names.ensures c.cases_of.ensures in
    let kind = c.args.kind.now in
    let cases = cases_view t.names c.in-Some.cases in
    subst (λ cs. OnOk c.cases_cons.result (Grows (con_decl t) c.args.cons.now cs c.cases_cons.new.cons))
    (sym (cons_are t.names kind cases (sym told ∙ ap (option_map (cases_view t.names)) c.in-Some.is))) c.cases_cons.ensures

pub returns-in-None : goal.returns-in-None
returns-in-None c =
    let t = tables_view c.args.self.now in
    let told : option_map (cases_view t.names) c.cases_of.result ≡ cases_of t.names c.args.kind.now =
    subst (λ n. option_map (cases_view n) c.cases_of.result ≡ cases_of n c.args.kind.now) c.names.ensures c.cases_of.ensures in
    subst (λ cs. Grows (con_decl t) c.args.cons.now cs c.args.cons.now)
    (sym (no_cons t.names c.args.kind.now (sym told ∙ ap (option_map (cases_view t.names)) c.in-None.is)))
    (grows_none (con_decl t) c.args.cons.now)
