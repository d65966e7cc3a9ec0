-- What an access says, from what is read of its keys and arguments.
use Rattle.std.proofs.Common.{◌≡◌, List, [], ◌∷◌, ◌++◌, Option, Some, None, refl, ap, sym, subst, ◌∙◌}
use Rattle.rp_span.specs.declared.Span.{Span}
use Rattle.rp_grammar.specs.Trees.{AccessTree, ArgTrees, ExprForm, ExprTree, Ident, StepTrees}
use Rattle.type_rules.specs.declared.kind.Kind.{Kind}
use Rattle.type_rules.specs.Names.{text_of}
use Rattle.type_rules.specs.Paths.{Way}
use Rattle.type_rules.specs.Accesses.{Access, Var, access_of, args_of, find_var}
use Rattle.type_rules.specs.ExprSites.{way_from}
use Rattle.lawful.specs.Typed.{Along}
use Rattle.text_kinds.specs.Seen.{kinds_view}
use Rattle.desugaring.specs.Callees.{Called, called, of_access}
use Rattle.query_bodies.specs.Terms.{Said, Te, Tes, also_te}
use Rattle.query_bodies.specs.Views.{tes_of}
use Rattle.query_laws.specs.Sight.{IsCall, Known, Says, SaysArgs, append}
use Rattle.query_laws.proofs.Accessed.{access_says, nothing_says}
use Rattle.reading.specs.declared.reader.Reader.{Reader}
use Rattle.reading.specs.Args.{AddsArgs}
use Rattle.reading.specs.Reads.{IsCalled, IsKept, sight_of}
use Rattle.reading.proofs.Calling.{taken}
use Rattle.reading.proofs.Found.{KeysOn}

pub tes_append : (xs ys : List Te) → tes_of (xs ++ ys) ≡ append (tes_of xs) (tes_of ys)
tes_append [] ys = refl
tes_append (x ∷ xs) ys = ap (λ es. also_te x es) (tes_append xs ys)

pub access_read : (r : Reader) → IsKept r → (asked : Option Kind) (at : Span) (x : Ident) (steps : StepTrees) (args : ArgTrees) (keys terms : List Te)
    (way : Way) (what : Access) (said : Said)
    → way ≡ way_from (sight_of r).tables.names (find_var r.vars (text_of x)) x
    → what ≡ access_of (sight_of r).tables.names r.vars (AccessTree.path x steps args)
    → KeysOn (sight_of r) way steps keys
    → AddsArgs (sight_of r) (args_of (sight_of r).tables.names what) args keys terms
    → IsCalled r what (AccessTree.path x steps args) (tes_of terms) said
    → Says (sight_of r) asked (ExprTree.node at (ExprForm.access (AccessTree.path x steps args))) said
access_read r kept asked at x steps args keys terms way what said begins is on added call =
    by (called (sight_of r).tables (sight_of r).vars (AccessTree.path x steps args)) refl
  where
    path : AccessTree
    path = AccessTree.path x steps args

    by : (o : Option (Called Known)) → called (sight_of r).tables (sight_of r).vars (AccessTree.path x steps args) ≡ o
        → Says (sight_of r) asked (ExprTree.node at (ExprForm.access (AccessTree.path x steps args))) said
    by None e = nothing_says (sight_of r) asked at x steps args said e
    by (Some c) e =
        let s = sight_of r in
        let n = s.tables.names in
        let there : of_access s.tables s.vars x steps what ≡ Some c =
        ap (of_access s.tables s.vars x steps) (is ∙ ap (λ (vs : List Var). access_of n vs path) (sym kept.rules)) ∙ e in
        let t = taken (kinds_view r.tables.now.kinds) s.vars (find_var r.vars (text_of x)) x steps what c (sym is) there in
        access_says s asked at x steps args c (tes_of keys) (tes_of added.more) said e
        (on c.keys (subst (λ (w : Way). Along n w steps c.keys) (sym begins) t.along))
        (subst (λ (ks : List Kind). SaysArgs s ks args (tes_of added.more)) (sym t.args) added.says)
        (subst (λ (es : Tes). IsCall s.uses c.what es said) (ap tes_of added.behind ∙ tes_append keys added.more) (call kept is c e))
