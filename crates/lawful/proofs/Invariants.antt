-- The invariants of a lawful text are typed.
use Rattle.std.proofs.Common.{◌≡◌, ◌+◌, ℕ, true, List, [], ◌∷◌, Some, refl}
use Rattle.std.specs.List.{AllByRecursion, list_all}
use Rattle.rp_grammar.specs.Trees.{DeclForm, DeclTree}
use Rattle.rp_grammar.specs.Texts.{IsText}
use Rattle.rp_lang.specs.Programs.{Inv, Prog}
use Rattle.rp_lang.specs.Typing.{in_invariant, is_typed}
use Rattle.rp_grammar.proofs.FormedTexts.{Lexable, text_formed}
use Rattle.type_rules.specs.Names.{Names}
use Rattle.type_rules.specs.Kinds.{bool_kind}
use Rattle.type_rules.specs.Queries.{names_of}
use Rattle.type_rules.specs.Sites.{Site}
use Rattle.type_rules.specs.ExprSites.{bool_whole}
use Rattle.type_rules.specs.DeclSites.{scope_for, invariant_sites}
use Rattle.type_rules.specs.TextSites.{Seen, nothing_seen, with_decl, decl_sites}
use Rattle.desugaring.specs.Tables.{tables_of}
use Rattle.desugaring.specs.Programs.{InvTree, invs_from, IsInv, IsProgramOf}
use Rattle.lawful.specs.Kept.{has_number, may_speak}
use Rattle.lawful.specs.Typed.{Tied, nothing}
use Rattle.lawful.proofs.World.{World, In, seen22, true_at}
use Rattle.lawful.proofs.Main.{typed}
use Rattle.lawful.proofs.Places.{Lawfully, all_lawful, all_kept}
use Rattle.lawful.proofs.TextNumbers.{decl_numbers}
use Rattle.lawful.proofs.Inside.{inside}
use Rattle.lawful.proofs.Behind.{decl_parts}
use Rattle.lawful.proofs.Quiet.{all_speak}
use Rattle.lawful.proofs.Results.{pointwise_all}
use Rattle.lawful.proofs.ProcFlows.{all_pairs}
use Rattle.lawful.proofs.Tables.{tied}

-- what holds at all places of a text holds at those of each invariant
invs_there : (P : Site → Type 0) (n : Names) (seen : Seen) (k number : ℕ) (ds : List DeclTree) → AllByRecursion P (decl_sites n seen k ds)
    → AllByRecursion (λ (d : InvTree). AllByRecursion P (invariant_sites n d.decl d.body)) (invs_from k number ds)
invs_there P n seen k number [] all = tt
invs_there P n seen k number (DeclTree.node at (DeclForm.invariant x e) ∷ ds) all =
    let p = decl_parts P n seen k at (DeclForm.invariant x e) ds all in
    (p.0, invs_there P n (with_decl seen (DeclForm.invariant x e)) (k + 1) (number + 1) ds p.1)
invs_there P n seen k number (DeclTree.node at (DeclForm.id_type x) ∷ ds) all =
    invs_there P n (with_decl seen (DeclForm.id_type x)) (k + 1) number ds (decl_parts P n seen k at (DeclForm.id_type x) ds all).1
invs_there P n seen k number (DeclTree.node at (DeclForm.opaque x) ∷ ds) all =
    invs_there P n (with_decl seen (DeclForm.opaque x)) (k + 1) number ds (decl_parts P n seen k at (DeclForm.opaque x) ds all).1
invs_there P n seen k number (DeclTree.node at (DeclForm.datatype x cons) ∷ ds) all =
    invs_there P n (with_decl seen (DeclForm.datatype x cons)) (k + 1) number ds (decl_parts P n seen k at (DeclForm.datatype x cons) ds all).1
invs_there P n seen k number (DeclTree.node at (DeclForm.crdt x c) ∷ ds) all =
    invs_there P n (with_decl seen (DeclForm.crdt x c)) (k + 1) number ds (decl_parts P n seen k at (DeclForm.crdt x c) ds all).1
invs_there P n seen k number (DeclTree.node at (DeclForm.query q) ∷ ds) all =
    invs_there P n (with_decl seen (DeclForm.query q)) (k + 1) number ds (decl_parts P n seen k at (DeclForm.query q) ds all).1
invs_there P n seen k number (DeclTree.node at (DeclForm.proc q) ∷ ds) all =
    invs_there P n (with_decl seen (DeclForm.proc q)) (k + 1) number ds (decl_parts P n seen k at (DeclForm.proc q) ds all).1

abbrev Lawful : Names → InvTree → Type 0
Lawful n d = AllByRecursion (Lawfully n) (invariant_sites n d.decl d.body)

abbrev Numbered : Names → InvTree → Type 0
Numbered n d = AllByRecursion (λ s. has_number s ≡ true) (invariant_sites n d.decl d.body)

inv_typed : (tree : List DeclTree) (p : Prog) → Tied (tables_of tree) p (may_speak tree) → (d : InvTree) (i : Inv)
    → Lawful (names_of tree) d × Numbered (names_of tree) d → IsInv (tables_of tree) d i → is_typed p in_invariant [] i.body ≡ true
inv_typed tree p ties d i facts (IsInv.inv {v = v} m) =
    let t = tables_of tree in
    let n = names_of tree in
    let g : World t = record { p = p; words = may_speak tree; tied = ties; f = in_invariant; reads = refl } in
    let sc = scope_for n d.decl true [] in
    let quiet = all_speak n (may_speak tree) d.decl (invariant_sites n d.decl d.body) (inside d.decl true n sc bool_whole d.body (refl, refl)) in
    let kept = all_kept n (may_speak tree) (invariant_sites n d.decl d.body) facts.0 facts.1 quiet in
    let st : In t g [] [] sc = record { sees = nothing; speaks = λ h. refl } in
    true_at t g [] _ _ v (typed t g [] d.decl [] (Some bool_kind) d.body v m sc bool_whole refl st kept) (seen22 t g [] [] sc d.body st kept)

pub invs_typed : (bytes : List ℕ) (tree : List DeclTree) → IsText bytes tree → (p : Prog) → IsProgramOf tree p
    → list_all (λ inv. is_typed p in_invariant [] inv.body) p.invs ≡ true
invs_typed bytes tree text p is =
    let t = tables_of tree in
    let n = names_of tree in
    let laws = invs_there (Lawfully n) n nothing_seen 0 1 tree (all_lawful tree is.0) in
    let numbers = invs_there (λ s. has_number s ≡ true) n nothing_seen 0 1 tree (decl_numbers Lexable (λ i h. h) n nothing_seen 0 tree (text_formed bytes tree text)) in
    pointwise_all (IsInv t) (λ (d : InvTree). Lawful n d × Numbered n d) (λ inv. is_typed p in_invariant [] inv.body) (invs_from 0 1 tree) p.invs is.1.invs
    (all_pairs (Lawful n) (Numbered n) (invs_from 0 1 tree) laws numbers) (λ d i facts made. inv_typed tree p (tied bytes tree text p is) d i facts made)
