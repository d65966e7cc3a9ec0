use Rattle.std.proofs.Common.{[], ◌∷◌, ◌++◌, append_assoc, true, sym, ap₂, ◌∙◌}
use Rattle.rp_ast.specs.View.{block_view, optional, params_view, proc_view, type_view}
use Rattle.type_rules.specs.declared.role.Role.TheVariants as role
use Rattle.type_rules.specs.Sites.{Site}
use Rattle.type_rules.specs.Starts.{brace_of}
use Rattle.type_rules.specs.Flow.{Sight, after_block}
use Rattle.type_rules.specs.Queries.{param_vars}
use Rattle.type_rules.specs.DeclSites.{frame_for, param_sites, proc_sites, result_sites, sight_for}
use Rattle.type_rules.specs.StmtSites.{block_sites, is_there}
use Rattle.type_faults.specs.Walks.{names_at}
use Rattle.type_faults.proofs.Named.{result_unused}
use Rattle.type_faults.proofs.Walked.{both, here, recast, same_words}
use Rattle.type_faults.proofs.walk.Walk.parts.Goals as goal

pub returns : goal.returns
returns c = λ counted empty live words.
    let a = c.args.self.now in
    let n = names_at a in
    let proc = c.args.proc.now in
    let result = optional type_view proc.result in
    let body = block_view proc.body in
    let first = c.in_ok-params.ensures [] counted empty in
    let m = names_at c.params.new.self in
    let written = here {later = []} (λ p. result_sites p.decl result) c.in_ok-written.ensures (result_unused m _ result) first.counted in
    let inside = c.in_ok-body.ensures first.counted (same_words first ∙ words) in
    let sight : _ → _ → Sight = λ l b. record { vars = param_vars n (params_view l); live = b } in
    let first_sites = param_sites n a.decl role.Variable (params_view proc.params) in
    let typed = result_sites a.decl result in
    let inner = block_sites n (frame_for n a.decl result) (sight proc.params true) body in
    let close = Site.closes (after_block n (sight proc.params true) body).live (is_there result) (brace_of body) ∷ [] in
    recast (λ p. proc_sites p.names p.decl (proc_view proc))
    (λ p. after_block p.names (sight_for p.names (params_view proc.params)) body)
    (both first (both written inside c.sooner.ensures) c.sooner-2.ensures)
    (ap₂ (λ l b. param_sites n a.decl role.Variable (params_view l) ++ (result_sites a.decl result
    ++ (block_sites n (frame_for n a.decl result) (sight l b) body
    ++ Site.closes (after_block n (sight l b) body).live (is_there result) (brace_of body) ∷ [])))
    c.as_slice.ensures.items live
    ∙ sym (append_assoc (first_sites ++ typed) inner close ∙ append_assoc first_sites typed (inner ++ close)))
    (ap₂ (λ l b. after_block n (sight l b) body) c.as_slice.ensures.items live)
