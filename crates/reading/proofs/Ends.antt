-- The replicated type at the end of a path.
use Rattle.std.proofs.Common.{◌≡◌, [], Some, refl, ap, sym}
use Rattle.std.specs.Prelude.{option_map}
use Rattle.rp_grammar.specs.Trees.{CrdtForm, CrdtTree, StepTree, StepTrees}
use Rattle.type_rules.specs.Names.{Names, text_of}
use Rattle.type_rules.specs.Kinds.{kind_of}
use Rattle.type_rules.specs.Paths.{Way, past_dot, stepped}
use Rattle.lawful.proofs.Members.{field_same}
use Rattle.desugaring.specs.Objects.{AtField, Reached, field, field_named, follow, key, past}
use Rattle.desugaring.proofs.Options.{map_there, then_there}

leaf_end : (c : CrdtTree) (last : _) (r : Reached) → Some (record { path = []; crdt = c; last = last }) ≡ Some r → r.crdt ≡ c
leaf_end c last r e = let same : record { path = []; crdt = c; last = last } ≡ r = cc in ap (λ (r : Reached). r.crdt) (sym same)

-- the last step stands on the type itself
pub end_now : (n : Names) (s : StepTree) (c : CrdtTree) (r : Reached) → follow n (StepTrees.more_steps s StepTrees.no_steps) c ≡ Some r → r.crdt ≡ c
end_now n (StepTree.dot x) (CrdtTree.node at (CrdtForm.struct parts)) r e =
    then_there (λ (a : AtField). option_map (past (field a.number)) (follow n StepTrees.no_steps a.crdt)) (field_named (text_of x) 0 parts) r e
    (λ a is h. absurd cc)
end_now n (StepTree.dot x) (CrdtTree.node at (CrdtForm.set_aw t)) r e = leaf_end _ (text_of x) r e
end_now n (StepTree.dot x) (CrdtTree.node at (CrdtForm.set_rw t)) r e = leaf_end _ (text_of x) r e
end_now n (StepTree.dot x) (CrdtTree.node at (CrdtForm.reg t)) r e = leaf_end _ (text_of x) r e
end_now n (StepTree.dot x) (CrdtTree.node at (CrdtForm.mv_reg t)) r e = leaf_end _ (text_of x) r e
end_now n (StepTree.dot x) (CrdtTree.node at CrdtForm.counter) r e = leaf_end _ (text_of x) r e
end_now n (StepTree.dot x) (CrdtTree.node at (CrdtForm.map_uw t c)) r e = leaf_end _ (text_of x) r e
end_now n (StepTree.dot x) (CrdtTree.node at (CrdtForm.map_dw t c)) r e = leaf_end _ (text_of x) r e
end_now n (StepTree.key k) (CrdtTree.node at (CrdtForm.map_uw t c)) r e = absurd cc
end_now n (StepTree.key k) (CrdtTree.node at (CrdtForm.map_dw t c)) r e = absurd cc
end_now n s c r e = absurd cc

-- a step before the last leads on, to the same end
pub record Leads (n : Names) (s : StepTree) (steps : StepTrees) (c : CrdtTree) (r : Reached) : Type 0 where
  pub next : CrdtTree
  pub reached : Reached
  pub comes : stepped n (Way.came c) s ≡ Way.came next
  pub follows : follow n steps next ≡ Some reached
  pub same : reached.crdt ≡ r.crdt

pub end_next : (n : Names) (s : StepTree) (t : StepTree) (rest : StepTrees) (c : CrdtTree) (r : Reached)
    → follow n (StepTrees.more_steps s (StepTrees.more_steps t rest)) c ≡ Some r → Leads n s (StepTrees.more_steps t rest) c r
end_next n (StepTree.dot x) t rest (CrdtTree.node at (CrdtForm.struct parts)) r e =
    let steps = StepTrees.more_steps t rest in
    let whole = CrdtTree.node at (CrdtForm.struct parts) in
    then_there (λ (a : AtField). option_map (past (field a.number)) (follow n steps a.crdt)) (field_named (text_of x) 0 parts) r e
    (λ a is h. map_there (Leads n (StepTree.dot x) steps whole) (past (field a.number)) (follow n steps a.crdt) r h (λ q reached. record {
      next = a.crdt;
      reached = q;
      comes = ap (past_dot n whole x) (field_same (text_of x) 0 parts a is);
      follows = reached;
      same = refl;
    }))
end_next n (StepTree.key k) t rest (CrdtTree.node at (CrdtForm.map_uw ty c)) r e =
    let steps = StepTrees.more_steps t rest in
    map_there (Leads n (StepTree.key k) steps (CrdtTree.node at (CrdtForm.map_uw ty c))) (past (key (kind_of n ty))) (follow n steps c) r e
    (λ q reached. record { next = c; reached = q; comes = refl; follows = reached; same = refl })
end_next n (StepTree.key k) t rest (CrdtTree.node at (CrdtForm.map_dw ty c)) r e =
    let steps = StepTrees.more_steps t rest in
    map_there (Leads n (StepTree.key k) steps (CrdtTree.node at (CrdtForm.map_dw ty c))) (past (key (kind_of n ty))) (follow n steps c) r e
    (λ q reached. record { next = c; reached = q; comes = refl; follows = reached; same = refl })
end_next n s t rest c r e = absurd cc
