-- The path of an access by the type rules and by the program's paths.
use Rattle.std.proofs.Common.{◌≡◌, ◌+◌, ℕ, Bool, true, false, [], Option, Some, None, refl, ap, subst, sym, cond}
use Rattle.std.specs.Prelude.{option_map}
use Rattle.rp_span.specs.declared.Span.{Span}
use Rattle.rp_grammar.specs.Trees.{Ident, CrdtTree, CrdtForm, FieldTree, FieldTrees, StepTree, StepTrees}
use Rattle.type_rules.specs.Names.{Name, Names, same_name, text_of}
use Rattle.type_rules.specs.Kinds.{kind_of}
use Rattle.type_rules.specs.Paths.{Member, Way, member_of, field_of, at_field, past_dot, to_member, walked}
use Rattle.desugaring.specs.Objects.{Reached, AtField, field, key, follow, field_named, past, keys_on}
use Rattle.lawful.specs.Typed.{Along}
use Rattle.lawful.proofs.Forms.{one}
use Rattle.desugaring.proofs.Options.{then_there, map_there}

-- a field by its name, on both sides
pub field_same : (x : Name) (k : ℕ) (others : FieldTrees) (a : AtField) → field_named x k others ≡ Some a → field_of others x ≡ Some a.crdt
field_same x k FieldTrees.no_fields a e = absurd cc
field_same x k (FieldTrees.more_fields (FieldTree.field y c) others) a e =
    by_name x k c others a (same_name (text_of y) x) e (field_same x (k + 1) others a) where
      by_name : (x : Name) (k : ℕ) (c : CrdtTree) (others : FieldTrees) (a : AtField) (same : Bool)
          → cond same (Some (record { number = k; crdt = c })) (field_named x (k + 1) others) ≡ Some a
          → (field_named x (k + 1) others ≡ Some a → field_of others x ≡ Some a.crdt)
          → cond same (Some c) (field_of others x) ≡ Some a.crdt
      by_name x k c others a true e rest = ap (option_map (λ z. z.crdt)) e
      by_name x k c others a false e rest = rest e

-- what both lead to
abbrev pub Leads : Names → CrdtTree → StepTrees → Member → Reached → Type 0
Leads n c steps m r = Along n (Way.came c) steps (keys_on r.path) × (member_of n r.crdt r.last ≡ Some m)

-- a misfit stays one
misfit_stays : (n : Names) (at : Span) (steps : StepTrees) (m : Member) → walked n (Way.misfit at) steps ≡ Way.member m → ⊥
misfit_stays n at StepTrees.no_steps m e = absurd cc
misfit_stays n at (StepTrees.more_steps s steps) m e = misfit_stays n at steps m e

member_is : (x : Ident) (o : Option Member) (m : Member) → to_member x o ≡ Way.member m → o ≡ Some m
member_is x None m e = absurd cc
member_is x (Some j) m e = ap some_of e where
  some_of : Way → Option Member
  some_of (Way.member z) = Some z
  some_of _ = None

-- the last step, at a type that is no struct
last_leads : (n : Names) (c : CrdtTree) (x : Ident) (m : Member) (r : Reached) → at_field c (text_of x) ≡ None
    → Some (record { path = []; crdt = c; last = text_of x }) ≡ Some r → past_dot n c x (at_field c (text_of x)) ≡ Way.member m
    → Leads n c (StepTrees.more_steps (StepTree.dot x) StepTrees.no_steps) m r
last_leads n c x m r no_field e w =
    subst (Leads n c (StepTrees.more_steps (StepTree.dot x) StepTrees.no_steps) m) (one e)
    (Along.dot Along.ends, member_is x _ m (subst (λ o. past_dot n c x o ≡ Way.member m) no_field w))

pub leads : (n : Names) (steps : StepTrees) (c : CrdtTree) (m : Member) (r : Reached) → follow n steps c ≡ Some r
    → walked n (Way.came c) steps ≡ Way.member m → Leads n c steps m r
leads n StepTrees.no_steps c m r e w = absurd cc
leads n (StepTrees.more_steps (StepTree.dot x) steps) (CrdtTree.node at (CrdtForm.struct parts)) m r e w =
    then_there (λ found. option_map (past (field found.number)) (follow n steps found.crdt)) (field_named (text_of x) 0 parts) r e (λ a is e.
    map_there (Leads n (CrdtTree.node at (CrdtForm.struct parts)) (StepTrees.more_steps (StepTree.dot x) steps) m) (past (field a.number)) (follow n steps a.crdt) r e (λ q reached.
    let found = field_same (text_of x) 0 parts a is in
    let rest = leads n steps a.crdt m q reached
    (subst (λ o. walked n (past_dot n (CrdtTree.node at (CrdtForm.struct parts)) x o) steps ≡ Way.member m) found w) in
    (Along.dot (subst (λ o. Along n (past_dot n (CrdtTree.node at (CrdtForm.struct parts)) x o) steps (keys_on q.path)) (sym found) rest.0), rest.1)))
leads n (StepTrees.more_steps (StepTree.dot x) StepTrees.no_steps) (CrdtTree.node at (CrdtForm.set_aw t)) m r e w = last_leads n _ x m r refl e w
leads n (StepTrees.more_steps (StepTree.dot x) StepTrees.no_steps) (CrdtTree.node at (CrdtForm.set_rw t)) m r e w = last_leads n _ x m r refl e w
leads n (StepTrees.more_steps (StepTree.dot x) StepTrees.no_steps) (CrdtTree.node at (CrdtForm.reg t)) m r e w = last_leads n _ x m r refl e w
leads n (StepTrees.more_steps (StepTree.dot x) StepTrees.no_steps) (CrdtTree.node at (CrdtForm.mv_reg t)) m r e w = last_leads n _ x m r refl e w
leads n (StepTrees.more_steps (StepTree.dot x) StepTrees.no_steps) (CrdtTree.node at CrdtForm.counter) m r e w = last_leads n _ x m r refl e w
leads n (StepTrees.more_steps (StepTree.dot x) StepTrees.no_steps) (CrdtTree.node at (CrdtForm.map_uw t c)) m r e w = last_leads n _ x m r refl e w
leads n (StepTrees.more_steps (StepTree.dot x) StepTrees.no_steps) (CrdtTree.node at (CrdtForm.map_dw t c)) m r e w = last_leads n _ x m r refl e w
leads n (StepTrees.more_steps (StepTree.key k) steps) (CrdtTree.node at (CrdtForm.map_uw t c)) m r e w =
    map_there (Leads n (CrdtTree.node at (CrdtForm.map_uw t c)) (StepTrees.more_steps (StepTree.key k) steps) m) (past (key (kind_of n t))) (follow n steps c) r e (λ q reached.
    let rest = leads n steps c m q reached w in (Along.key rest.0, rest.1))
leads n (StepTrees.more_steps (StepTree.key k) steps) (CrdtTree.node at (CrdtForm.map_dw t c)) m r e w =
    map_there (Leads n (CrdtTree.node at (CrdtForm.map_dw t c)) (StepTrees.more_steps (StepTree.key k) steps) m) (past (key (kind_of n t))) (follow n steps c) r e (λ q reached.
    let rest = leads n steps c m q reached w in (Along.key rest.0, rest.1))
leads n (StepTrees.more_steps s steps) c m r e w = absurd cc
