use Rattle.std.proofs.Common.{refl, ap, sym, ◌∙◌, suc, add-one}
use Rattle.rp_grammar.specs.declared.terminal.Symbol.TheVariants as symbol
use Rattle.rp_grammar.specs.Trees.{TypeTree, TypeForm}
use Rattle.rp_grammar.specs.Parts.{join}
use Rattle.rp_ast.specs.View.{type_view}
use Rattle.rp_tokens.specs.MachineStates.{want_symbol, want_type}
use Rattle.rp_tokens.specs.Machine.{bounded}
use Rattle.rp_parser.specs.means.Marks.{toks}
use Rattle.rp_parser.specs.means.Starts.{plain_form, type_next}
use Rattle.rp_parser.proofs.Rests.{within_failed, stands_failed, stands_left, stands_at, faults_from, ok_at}
use Rattle.rp_parser.proofs.types.+types.Goals as goal

pub read_element-returns-clause-reads : goal.read_element-returns-clause-reads
read_element-returns-clause-reads t c = λ o d h k is.
    let deeper = ap suc h ∙ sym (add-one c.args.depth) in
    let closed = λ (t : TypeTree). want_symbol symbol.CloseBracket refl d (λ e. k t (join c.args.start e)) in
    let close = c.symbol-2.result.0 in
    let end = c.symbol-2.result.1 in
    let behind = c.symbol-2.ensures.reads o d h refl (λ e. k (type_view c.read_type-element.result.0) (join c.args.start e))
    (c.read_type-element.ensures.reads o (suc d) deeper closed (c.symbol.ensures.reads o d h refl _ is)) in
    stands_at end (λ v. k (type_view c.read_type-element.result.0) v) (join c.args.start close) c.join.result o (sym c.join.ensures) behind

pub read_type-returns-in_default-clause-within : goal.read_type-returns-in_default-clause-within
read_type-returns-in_default-clause-within t c = within_failed _ _ _ c.in_default.is

pub read_type-returns-in_default-clause-reads : goal.read_type-returns-in_default-clause-reads
read_type-returns-in_default-clause-reads t c = λ o d h k is. stands_failed _ _ _ _ _ c.in_default.is is

pub read_type-returns-in-Plain-clause-reads : goal.read_type-returns-in-Plain-clause-reads
read_type-returns-in-Plain-clause-reads t c = λ o d h k is.
    let node = TypeTree.node c.in-Ok.span (plain_form c.in-Plain.plain) in
    let at = stands_left c.args.rest c.in-Left.marks (want_type d k) o c.in-Left.is is
    ∙ c.in-Ok.ensures.reads d h k
    ∙ ap (λ x. bounded 64 (type_next d k c.in-Ok.span x) (toks c.in-Ok.after.now)) c.in-Plain.is in
    c.made.ensures.reads o (λ t. k (type_view t)) (k node) (ok_at _ type_view node k c.plain_type-node.ensures) at

pub read_type-returns-in-Maybe-clause-reads : goal.read_type-returns-in-Maybe-clause-reads
read_type-returns-in-Maybe-clause-reads t c = λ o d h k is.
    let at = stands_left c.args.rest c.in-Left.marks (want_type d k) o c.in-Left.is is
    ∙ c.in-Ok.ensures.reads d h k
    ∙ ap (λ x. bounded 64 (type_next d k c.in-Ok.span x) (toks c.in-Ok.after.now)) c.in-Maybe.is in
    let element = c.read_element-element.result in
    let node = TypeTree.node element.1 (TypeForm.maybe (type_view element.0)) in
    c.made-in-Maybe.ensures.reads o (λ t. k (type_view t)) (k node) (ok_at _ type_view node k c.maybe-node.ensures)
    (c.read_element-element.ensures.reads o d h (λ t e. k (TypeTree.node e (TypeForm.maybe t))) at)

pub read_type-returns-in-Err-clause-reads : goal.read_type-returns-in-Err-clause-reads
read_type-returns-in-Err-clause-reads t c = λ o d h k is.
    faults_from _ _ _ (stands_left c.args.rest c.in-Left.marks (want_type d k) o c.in-Left.is is) (c.in-Err.ensures.reads d h k)
