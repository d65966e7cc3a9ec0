use Rattle.std.proofs.Common.{◌≡◌, ◌+◌, ◌++◌, List, drop, sym, ap, ◌∙◌}
use Rattle.rp_ast.specs.declared.decl.Decl.{Decl}
use Rattle.rp_ast.specs.View.{decl_form_view, decls_view}
use Rattle.type_rules.specs.declared.kind.Kind.{Kind}
use Rattle.type_rules.specs.Names.{Names}
use Rattle.text_names.proofs.Entries.{drop_past}
use Rattle.text_kinds.specs.Numbered.{Numbered, with_kinds}
use Rattle.text_kinds.specs.Seen.{kinds_view}
use Rattle.text_kinds.specs.means.Brought as means
use Rattle.text_kinds.specs.means.Brought.{Seen, decl_brings, decls_bring}
use Rattle.text_kinds.proofs.Walks.{kinds_on, rest_is}
use Rattle.text_kinds.proofs.appearances.Seeker.decls.Goals as goal

pub loop-decl-preserved : goal.loop-decl-preserved
loop-decl-preserved c =
    let start = kinds_view c.args.self.now.kinds in
    let n = start.names in
    let old = kinds_view c.loop-decl.self.kinds in
    let new = kinds_view c.decl.new.self.kinds in
    let decls = c.args.decls.now in
    let i = c.loop-decl.decl-index in
    let x = c.decl-item.result in
    let types = c.loop-decl.types in
    let form = decl_form_view x.what in
    let before = c.loop-decl.invariant in
    let f : Names → List Kind = λ m. decl_brings m types form in
    let one : new ≡ with_kinds (f old.names) old =
    c.in_ok-decl.ensures (ap (λ (s : Seen). s.vars) c.leave.ensures)
    ∙ ap (λ (s : Seen). with_kinds (f s.kinds.names) s.kinds) c.leave.ensures in
    let more : c.in-Some.more ≡ types + means.type_count form = c.in-Some.ensures.1 ∙ ap (λ k. types + k) c.type_count.ensures in
    record {
      names = ap (λ (t : Numbered). t.names) one ∙ before.names;
      comes = kinds_on start old new (decls_bring n types (decls_view (drop i decls)))
          (decls_bring n c.in-Some.more (decls_view (drop (i + 1) decls)))
          (decls_bring n 0 (decls_view decls)) f before.names before.comes
          (ap (λ (xs : List Decl). decls_bring n types (decls_view xs)) (rest_is decls i x c.loop-decl-test.true c.decl-item.is)
          ∙ ap (λ k. f n ++ decls_bring n k (decls_view (drop (i + 1) decls))) (sym more))
          one;
    }

pub returns : goal.returns
returns c =
    let n = (kinds_view c.args.self.now.kinds).names in
    let end = kinds_view c.loop-decl.self.kinds in
    ap (λ (xs : List Decl). with_kinds (decls_bring n c.loop-decl.types (decls_view xs)) end)
    (sym (drop_past c.args.decls.now c.loop-decl.decl-index c.loop-decl-test.false))
    ∙ c.loop-decl.invariant.comes
