use Rattle.std.proofs.Common.{◌≡◌, ◌++◌, List, [], ◌∷◌, ap, ap₂, ◌∙◌}
use Rattle.rp_ast.specs.View.{expr_view, ident_view, optional, type_view}
use Rattle.type_rules.specs.Kinds.{kind_of}
use Rattle.type_rules.specs.Matches.{bound_var}
use Rattle.type_rules.specs.Accesses.{Var}
use Rattle.desugaring.specs.Appearances.{parts}
use Rattle.text_names.proofs.Placed.{on_ok}
use Rattle.text_kinds.specs.means.Brought.{Seen, seeing, sought, value_brings, with_variable}
use Rattle.text_kinds.specs.means.Walked.{seen}
use Rattle.text_kinds.proofs.Walks.{bound_behind}
use Rattle.text_kinds.proofs.appearances.Seeker.variable.Goals as goal

pub returns : goal.returns
returns c =
    let start = seen c.args.self.now in
    let n = start.kinds.names in
    let mid = seen c.written.new.self in
    let here = seen c.bind.new.self in
    let x = ident_view c.args.name.now in
    let ty = type_view c.args.ty.now in
    let value = optional expr_view c.args.value.now in
    let k = kind_of n ty in
    let vs = with_variable n start.vars x ty in
    let bound : here ≡ seeing mid vs =
    c.in_ok-bind.ensures
    ∙ ap₂ (λ (ws : List Var) j. seeing mid (ws ++ bound_var x j ∷ [])) (ap (λ (s : Seen). s.vars) c.in_ok-kind.ensures.sought)
    c.in_ok-kind.ensures.kind in
    on_ok c.value.result
    (λ e. bound_behind start mid here (seen c.value.new.self) (parts n k) vs (λ m ws. value_brings m ws k value)
    c.in_ok-kind.ensures.sought bound
    (e ∙ ap (λ j. sought here (value_brings here.kinds.names here.vars j value)) c.in_ok-kind.ensures.kind))
    c.value.ensures
