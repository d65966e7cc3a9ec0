use Rattle.std.proofs.Common.{◌≡◌, Some, None, ap, sym, subst, ◌∙◌}
use Rattle.std.specs.Prelude.{IfOk}
use Rattle.std.specs.Option.{option_map}
use Rattle.type_rules.specs.Matches.{cases_of}
use Rattle.type_terms.specs.Views.{cases_view}
use Rattle.text_tables.specs.Seen.{tables_view}
use Rattle.text_tables.specs.means.Limited.{sum_told}
use Rattle.text_tables.proofs.PartsLaw.{inside_are}
use Rattle.text_tables.proofs.tables.Tables.datatype_parts.Goals as goal

pub returns-in-Some : goal.returns-in-Some
returns-in-Some c =
    let t = tables_view c.args.self.now in
    let told : option_map (cases_view t.names) c.cases_of.result ≡ cases_of t.names c.args.kind.now =
    subst (λ n. option_map (cases_view n) c.cases_of.result ≡ cases_of n c.args.kind.now) c.names.ensures c.cases_of.ensures in
    let cases = cases_view t.names c.in-Some.cases in
    subst (λ ks. IfOk c.cases_parts.result (λ parts. sum_told t c.args.before.now 1 ks ≡ Some parts))
    (sym (inside_are t.names c.args.kind.now (Some cases) (sym told ∙ ap (option_map (cases_view t.names)) c.in-Some.is))) c.cases_parts.ensures

pub returns-in-None : goal.returns-in-None
returns-in-None c =
    let t = tables_view c.args.self.now in
    let told : option_map (cases_view t.names) c.cases_of.result ≡ cases_of t.names c.args.kind.now =
    subst (λ n. option_map (cases_view n) c.cases_of.result ≡ cases_of n c.args.kind.now) c.names.ensures c.cases_of.ensures in
    ap (sum_told t c.args.before.now 1) (inside_are t.names c.args.kind.now None (sym told ∙ ap (option_map (cases_view t.names)) c.in-None.is))
