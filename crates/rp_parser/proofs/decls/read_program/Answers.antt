use Rattle.std.proofs.Common.{subst, ◌∙◌, [], ◌∷◌, ◌++◌, map}
use Rattle.rp_ast.specs.View.{decl_view, decls_view}
use Rattle.rp_tokens.specs.MachineStates.{in_decls}
use Rattle.rp_tokens.specs.Machine.{bounded}
use Rattle.rp_parser.specs.means.Marks.{toks}
use Rattle.rp_parser.specs.means.Reading.{Stands}
use Rattle.rp_parser.proofs.Steps.{led_to}
use Rattle.rp_parser.proofs.Rests.{stands_left, grown, begun}
use Rattle.rp_parser.proofs.decls.read_program.Goals as goal

pub decls-init : goal.decls-init
decls-init c =
    let o = bounded 64 (in_decls []) (toks c.args.marks.now) in
    begun _ _ decl_view in_decls c.pushed-rest.new.list c.new-decls.result c.read_decl-first.result.0 o c.new-decls.ensures c.pushed-rest.ensures.pushes
    (c.pushed-rest.ensures.reads o _ (c.read_decl-first.ensures.reads o (λ y. in_decls (y ∷ [])) (c.in-Some.ensures.reads [])))

pub decls-preserved : goal.decls-preserved
decls-preserved c =
    let o = bounded 64 (in_decls []) (toks c.args.marks.now) in
    let xs = map decl_view c.decls.decls in
    grown _ _ decl_view in_decls c.pushed-rest-in-decls.new.list c.decls.decls c.read_decl-decl.result.0 o c.pushed-rest-in-decls.ensures.pushes
    (c.pushed-rest-in-decls.ensures.reads o _ (c.read_decl-decl.ensures.reads o (λ y. in_decls (xs ++ y ∷ []))
    (stands_left c.decls.rest c.in-Left.left (in_decls xs) o c.in-Left.is c.decls.invariant ∙ c.in-Some-decl_sign.ensures.reads xs)))

pub returns-in-Failed : goal.returns-in-Failed
returns-in-Failed c =
    let o = bounded 64 (in_decls []) (toks c.args.marks.now) in
    subst (λ r. Stands r (in_decls (decls_view c.decls.decls)) o) c.in-Failed.is c.decls.invariant

pub returns-in_default-decl_sign : goal.returns-in_default-decl_sign
returns-in_default-decl_sign c =
    let o = bounded 64 (in_decls []) (toks c.args.marks.now) in
    led_to _ _ _ _ (stands_left c.decls.rest c.in-Left.left (in_decls (decls_view c.decls.decls)) o c.in-Left.is c.decls.invariant) c.at_end-in_default-decl_sign.ensures
