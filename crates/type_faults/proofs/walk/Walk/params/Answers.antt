use Rattle.std.proofs.Common.{[], ◌++◌, append_assoc, map, sym, ap, ◌∙◌}
use Rattle.rp_ast.specs.View.{params_view}
use Rattle.type_rules.specs.Names.{param_name}
use Rattle.type_rules.specs.DeclSites.{declares_all, named_all, param_sites, written_all}
use Rattle.type_rules.specs.Queries.{param_vars}
use Rattle.type_faults.specs.Walks.{names_at, sight_of}
use Rattle.type_faults.proofs.Named.{named_unused, written_unused}
use Rattle.type_faults.proofs.Walked.{both, here, recast}
use Rattle.type_faults.proofs.walk.Walk.params.Goals as goal

pub returns : goal.returns
returns c = λ later counted empty.
    let a = c.args.self.now in
    let n = names_at a in
    let params = params_view c.args.params.now in
    let names = map param_name params in
    let role = c.args.role in
    let named = here {later = later} (λ p. named_all [] names) (c.in_ok-named.ensures n) (named_unused n [] names) counted in
    let declared = c.in_ok-declared.ensures later counted in
    let m = names_at c.bring_all.new.self in
    let written = here {later = later} (λ p. written_all p.decl role params) c.in_ok-written.ensures (written_unused m _ role params) declared.counted in
    recast (λ p. param_sites p.names p.decl role params) (λ p. record p.sight { vars = param_vars p.names params })
    (both named (both declared written c.sooner.ensures) c.sooner-2.ensures)
    (ap (λ vs. named_all [] names ++ (declares_all n vs params ++ written_all a.decl role params)) empty
    ∙ sym (append_assoc (named_all [] names) (declares_all n [] params) (written_all a.decl role params)))
    (ap (λ vs. record (sight_of a) { vars = vs ++ param_vars n params }) empty)
