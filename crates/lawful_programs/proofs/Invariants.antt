-- The invariants of a lawful text become formulas.
use Rattle.std.proofs.Common.{◌≡◌, ◌+◌, ℕ, suc, true, List, [], ◌∷◌, Option, Some, refl, subst, arith}
use Rattle.std.specs.Prelude.{slice_get}
use Rattle.std.specs.List.{AllByRecursion}
use Rattle.rp_grammar.specs.Trees.{Ident, DeclForm, DeclTree}
use Rattle.rp_lang.specs.Programs.{Inv}
use Rattle.type_rules.specs.Queries.{names_of}
use Rattle.type_rules.specs.ExprSites.{bool_whole}
use Rattle.type_rules.specs.DeclSites.{scope_for}
use Rattle.type_rules.specs.Faults.{IsLawful}
use Rattle.desugaring.specs.Parts.{each}
use Rattle.desugaring.specs.Tables.{tables_of}
use Rattle.desugaring.specs.Expressions.{uses_before}
use Rattle.desugaring.specs.Programs.{InvTree, inv_for, inv_with, invs_from}
use Rattle.desugaring.proofs.Options.{both_is, map_is}
use Rattle.lawful.proofs.Distinct.{all_changed}
use Rattle.lawful_programs.specs.Valued.{nothing}
use Rattle.lawful_programs.proofs.Wholes.{truth_whole}
use Rattle.lawful_programs.proofs.Exprs.{valued}
use Rattle.lawful_programs.proofs.Sounds.{invariant_sound}
use Rattle.lawful_programs.proofs.Texts.{text_ready}

-- where each member has a value, all have
pub each_total : {X Y : Type 0} (P : X → Type 0) (f : X → Option Y) → ((x : X) → P x → (y : Y) × (f x ≡ Some y)) → (xs : List X) → AllByRecursion P xs
    → (ys : List Y) × (each f xs ≡ Some ys)
each_total P f made [] all = ([], refl)
each_total P f made (x ∷ xs) all =
    let y = made x all.0 in
    let r = each_total P f made xs all.1 in
    (y.0 ∷ r.0, both_is ◌∷◌ (f x) (each f xs) y.0 r.0 y.1 r.1)

-- the invariant stands where its number says
abbrev StandsIn : ℕ → List DeclTree → InvTree → Type 0
StandsIn k ds d = (i : ℕ) × (x : Option Ident) × (k + i ≡ d.decl) × (slice_get ds i ≡ Some (DeclTree.node d.at (DeclForm.invariant x d.body)))

one_further : (k : ℕ) (first : DeclTree) (ds : List DeclTree) (d : InvTree) → StandsIn (k + 1) ds d → StandsIn k (first ∷ ds) d
one_further k first ds d is = let number : k + suc is.0 ≡ d.decl = omega (arith, is.2) in (suc is.0, is.1, number, is.3)

rest_stand : (k number : ℕ) (first : DeclTree) (ds : List DeclTree) → AllByRecursion (StandsIn (k + 1) ds) (invs_from (k + 1) number ds)
    → AllByRecursion (StandsIn k (first ∷ ds)) (invs_from (k + 1) number ds)
rest_stand k number first ds all = all_changed (StandsIn (k + 1) ds) (StandsIn k (first ∷ ds)) (invs_from (k + 1) number ds) (one_further k first ds) all

invs_stand : (k number : ℕ) (ds : List DeclTree) → AllByRecursion (StandsIn k ds) (invs_from k number ds)
invs_stand k number [] = tt
invs_stand k number (DeclTree.node at (DeclForm.invariant x e) ∷ ds) =
    let here : k + 0 ≡ k = omega arith in
    ((0, x, here, refl), rest_stand k (number + 1) _ ds (invs_stand (k + 1) (number + 1) ds))
invs_stand k number (DeclTree.node at (DeclForm.id_type x) ∷ ds) = rest_stand k number _ ds (invs_stand (k + 1) number ds)
invs_stand k number (DeclTree.node at (DeclForm.opaque x) ∷ ds) = rest_stand k number _ ds (invs_stand (k + 1) number ds)
invs_stand k number (DeclTree.node at (DeclForm.datatype x cons) ∷ ds) = rest_stand k number _ ds (invs_stand (k + 1) number ds)
invs_stand k number (DeclTree.node at (DeclForm.crdt x c) ∷ ds) = rest_stand k number _ ds (invs_stand (k + 1) number ds)
invs_stand k number (DeclTree.node at (DeclForm.query q) ∷ ds) = rest_stand k number _ ds (invs_stand (k + 1) number ds)
invs_stand k number (DeclTree.node at (DeclForm.proc p) ∷ ds) = rest_stand k number _ ds (invs_stand (k + 1) number ds)

inv_there : (tree : List DeclTree) → IsLawful tree → (d : InvTree) → StandsIn 0 tree d → (i : Inv) × (inv_for (tables_of tree) d ≡ Some i)
inv_there tree lawful d stands =
    let t = tables_of tree in
    let place : stands.0 ≡ d.decl = omega (arith, stands.2) in
    let there = subst (λ j. slice_get tree j ≡ Some (DeclTree.node d.at (DeclForm.invariant stands.1 d.body))) place stands.3 in
    let ready = text_ready tree lawful d.decl in
    let v = valued t d.decl (uses_before t d.decl) ready (scope_for (names_of tree) d.decl true []) [] bool_whole d.body
    (record { decl = refl; seen = nothing; whole = tt }) (truth_whole t ready.bool) (invariant_sound tree lawful d.decl d.at stands.1 d.body there) in
    (inv_with d v.0, map_is (inv_with d) _ v.0 v.1)

pub invs_there : (tree : List DeclTree) → IsLawful tree → (invs : List Inv) × (each (inv_for (tables_of tree)) (invs_from 0 1 tree) ≡ Some invs)
invs_there tree lawful = each_total (StandsIn 0 tree) (inv_for (tables_of tree)) (inv_there tree lawful) (invs_from 0 1 tree) (invs_stand 0 1 tree)
