-- So many operations stand on the replicated types of a text.
use Rattle.std.proofs.Common.{◌≡◌, ℕ, ◌+◌, Bool, true, List, [], ◌∷◌, ◌++◌, length, map, refl, sym, ap₂, ◌∙◌}
use Rattle.std.proofs.lemmas.List.{length-append, length-map}
use Rattle.rp_grammar.specs.Trees.{CrdtTree, CrdtForm, FieldTree, FieldTrees}
use Rattle.type_rules.specs.Names.{Names}
use Rattle.type_rules.specs.Kinds.{kind_of}
use Rattle.desugaring.specs.Objects.{KindStep, Root, all_in_fields, all_inside, all_of, all_on, field, key, path_ops, roots_of}
use Rattle.text_tables.specs.means.Counted.{many_in_fields, many_inside, many_of, many_on}
use Rattle.text_tables.specs.means.Kept.{crdts_of}
use Rattle.text_tables.proofs.PlaceLaw.{World, own_at}
use Rattle.text_tables.proofs.CalledLaw.{op_world}

mutual
  on_counted : {X Y : Type 0} {n : Names} {op : Bool} (w : World X Y n op) (root : ℕ) (p : List KindStep) (c : CrdtTree)
      → length (all_on n (own_at w) root p c) ≡ many_on op c
  on_counted {n = n} w root p (CrdtTree.node at form) =
      length-append (map (w.make root p) (w.list form)) (all_inside n (own_at w) root p form)
      ∙ ap₂ (λ a b. a + b) (length-map (w.list form) (w.make root p) ∙ w.many form) (inside_counted w root p form)

  inside_counted : {X Y : Type 0} {n : Names} {op : Bool} (w : World X Y n op) (root : ℕ) (p : List KindStep) (form : CrdtForm)
      → length (all_inside n (own_at w) root p form) ≡ many_inside op form
  inside_counted w root p (CrdtForm.set_aw t) = refl
  inside_counted w root p (CrdtForm.set_rw t) = refl
  inside_counted w root p (CrdtForm.reg t) = refl
  inside_counted w root p (CrdtForm.mv_reg t) = refl
  inside_counted w root p CrdtForm.counter = refl
  inside_counted {n = n} w root p (CrdtForm.map_uw t c) = on_counted w root (p ++ key (kind_of n t) ∷ []) c
  inside_counted {n = n} w root p (CrdtForm.map_dw t c) = on_counted w root (p ++ key (kind_of n t) ∷ []) c
  inside_counted w root p (CrdtForm.struct fields) = fields_counted w root p 0 fields

  fields_counted : {X Y : Type 0} {n : Names} {op : Bool} (w : World X Y n op) (root : ℕ) (p : List KindStep) (k : ℕ) (fields : FieldTrees)
      → length (all_in_fields n (own_at w) root p k fields) ≡ many_in_fields op fields
  fields_counted w root p k FieldTrees.no_fields = refl
  fields_counted {n = n} w root p k (FieldTrees.more_fields (FieldTree.field x c) fields) =
      length-append (all_on n (own_at w) root (p ++ field k ∷ []) c) (all_in_fields n (own_at w) root p (k + 1) fields)
      ∙ ap₂ (λ a b. a + b) (on_counted w root (p ++ field k ∷ []) c) (fields_counted w root p (k + 1) fields)

of_counted : {X Y : Type 0} {n : Names} {op : Bool} (w : World X Y n op) (k : ℕ) (roots : List Root)
    → length (all_of n (own_at w) k roots) ≡ many_of op (map (λ root. root.crdt) roots)
of_counted w k [] = refl
of_counted {n = n} w k (root ∷ roots) =
    length-append (all_on n (own_at w) k [] root.crdt) (all_of n (own_at w) (k + 1) roots)
    ∙ ap₂ (λ a b. a + b) (on_counted w k [] root.crdt) (of_counted w (k + 1) roots)

pub ops_counted : (n : Names) → many_of true (crdts_of n) ≡ length (path_ops n)
ops_counted n = sym (of_counted (op_world n) 0 (roots_of n))
