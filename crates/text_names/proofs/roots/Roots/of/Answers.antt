use Rattle.std.proofs.Common.{◌≡◌, map, take, ◌+◌, List, Option, ℕ, sym, subst}
use Rattle.rp_ast.specs.View.{decls_view}
use Rattle.text_names.specs.Parts.{AreWithin, crdt_in, roots_seen, trees_of}
use Rattle.text_names.proofs.Placed.{roots_next}
use Rattle.text_names.proofs.roots.Roots.of.Goals as goal

pub loop-decl-preserved : goal.loop-decl-preserved
loop-decl-preserved c =
    let decls = c.args.decls.now in
    let after = trees_of c.add_root.new.self.items in
    let next =
    subst (λ (places : List (Option ℕ)). AreWithin after places
    × (roots_seen after places ≡ map crdt_in (decls_view (take (c.loop-decl.decl-index + 1) decls))))
    (sym c.in_ok-push.ensures.ok)
    (roots_next (trees_of c.loop-decl.parts.items) after c.loop-decl.places decls c.loop-decl.decl-index c.decl-item.result
    c.in_ok-place.place c.loop-decl.invariant.within c.loop-decl.invariant.seen c.in_ok-place.ensures.keeps c.loop-decl-test.true
    c.decl-item.is c.in_ok-place.ensures.placed c.in_ok-place.ensures.within) in
    record { within = next.0; seen = next.1 }
