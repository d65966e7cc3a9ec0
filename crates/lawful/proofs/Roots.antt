-- Operations and queries of roots, by the paths that lead to them.
use Rattle.std.proofs.Common.{◌≡◌, ◌+◌, ℕ, zero, suc, Bool, true, false, List, [], ◌∷◌, ◌++◌, Option, Some, None, refl, ap, subst, sym, ◌∙◌, cond, arith}
use Rattle.std.specs.Prelude.{option_map}
use Rattle.std.specs.List.{AllByRecursion}
use Rattle.std.proofs.lemmas.List.{append_assoc}
use Rattle.rp_span.specs.declared.Span.{Span}
use Rattle.rp_grammar.specs.Trees.{Ident, TypeTree, CrdtTree, CrdtForm, FieldTree, FieldTrees, StepTree, StepTrees}
use Rattle.type_rules.specs.Names.{Name, Names, same_name, text_of}
use Rattle.type_rules.specs.Kinds.{kind_of}
use Rattle.desugaring.specs.Objects.{KindStep, field, key, Own, all_on, all_inside, all_in_fields, Reached, AtField, past, follow, field_named}
use Rattle.desugaring.proofs.Options.{then_there, map_there}
use Rattle.lawful.proofs.Forms.{one}
use Rattle.lawful.proofs.Places.{all_both}

-- # What stands at the end of a path

abbrev pub field_at : ℕ → FieldTrees → Option CrdtTree
field_at k FieldTrees.no_fields = None
field_at zero (FieldTrees.more_fields (FieldTree.field x c) others) = Some c
field_at (suc k) (FieldTrees.more_fields x others) = field_at k others

-- the type that is reached, where each step of the path is one of the type
pub data Reaches (n : Names) : CrdtTree → List KindStep → CrdtTree → Type 0 where
  here : {c : CrdtTree} → Reaches n c [] c
  at_field : {at : Span} {parts : FieldTrees} {k : ℕ} {c d : CrdtTree} {path : List KindStep} → field_at k parts ≡ Some c → Reaches n c path d
      → Reaches n (CrdtTree.node at (CrdtForm.struct parts)) (field k ∷ path) d
  at_key_uw : {at : Span} {t : TypeTree} {c d : CrdtTree} {path : List KindStep} → Reaches n c path d
      → Reaches n (CrdtTree.node at (CrdtForm.map_uw t c)) (key (kind_of n t) ∷ path) d
  at_key_dw : {at : Span} {t : TypeTree} {c d : CrdtTree} {path : List KindStep} → Reaches n c path d
      → Reaches n (CrdtTree.node at (CrdtForm.map_dw t c)) (key (kind_of n t) ∷ path) d

abbrev further : List KindStep → List KindStep
further [] = []
further (s ∷ path) = path

abbrev first_field : List KindStep → ℕ
first_field (field k ∷ path) = k
first_field _ = 0

-- a path leads to one type
pub one_end : (n : Names) (c d e : CrdtTree) (p q : List KindStep) → Reaches n c p d → Reaches n c q e → p ≡ q → d ≡ e
one_end n c d e p q Reaches.here Reaches.here same = refl
one_end n c d e p q Reaches.here (Reaches.at_field is r) same = absurd cc
one_end n c d e p q Reaches.here (Reaches.at_key_uw r) same = absurd cc
one_end n c d e p q Reaches.here (Reaches.at_key_dw r) same = absurd cc
one_end n c d e p q (Reaches.at_field is r) Reaches.here same = absurd cc
one_end n c d e p q (Reaches.at_key_uw r) Reaches.here same = absurd cc
one_end n c d e p q (Reaches.at_key_dw r) Reaches.here same = absurd cc
one_end n c d e p q (Reaches.at_field {parts = parts} {path = path} is r) (Reaches.at_field {path = other} also s) same =
    let one_field = ap (λ k. field_at k parts) (ap first_field same) in
    one_end n _ d e path other r (subst (λ z. Reaches n z other e) (one (sym also ∙ sym one_field ∙ is)) s) (ap further same)
one_end n c d e p q (Reaches.at_key_uw {path = path} r) (Reaches.at_key_uw {path = other} s) same = one_end n _ d e path other r s (ap further same)
one_end n c d e p q (Reaches.at_key_dw {path = path} r) (Reaches.at_key_dw {path = other} s) same = one_end n _ d e path other r s (ap further same)

-- # Where the steps of an access lead

named_at : (x : Name) (k : ℕ) (parts : FieldTrees) (a : AtField) → field_named x k parts ≡ Some a → (i : ℕ) × (a.number ≡ k + i) × (field_at i parts ≡ Some a.crdt)
named_at x k FieldTrees.no_fields a e = absurd cc
named_at x k (FieldTrees.more_fields (FieldTree.field y c) others) a e =
    by_name x k y c others a (same_name (text_of y) x) e (named_at x (k + 1) others a) where
      number_or : ℕ → Option AtField → ℕ
      number_or j None = j
      number_or j (Some z) = z.number

      by_name : (x : Name) (k : ℕ) (y : Ident) (c : CrdtTree) (others : FieldTrees) (a : AtField) (same : Bool)
          → cond same (Some (record { number = k; crdt = c })) (field_named x (k + 1) others) ≡ Some a
          → (field_named x (k + 1) others ≡ Some a → (i : ℕ) × (a.number ≡ k + 1 + i) × (field_at i others ≡ Some a.crdt))
          → (i : ℕ) × (a.number ≡ k + i) × (field_at i (FieldTrees.more_fields (FieldTree.field y c) others) ≡ Some a.crdt)
      by_name x k y c others a true e rest =
          let number : k ≡ a.number = ap (number_or k) e in (0, omega (arith, number), ap (option_map (λ z. z.crdt)) e)
      by_name x k y c others a false e rest = let r = rest e in (suc r.0, omega (arith, r.1), r.2)

ended : (n : Names) (c : CrdtTree) (x : Name) (r : Reached) → Some (record { path = []; crdt = c; last = x }) ≡ Some r → Reaches n c r.path r.crdt
ended n c x r e = subst (λ z. Reaches n c z.path z.crdt) (one e) Reaches.here

-- the steps of an access lead to the type at their path
pub follows : (n : Names) (steps : StepTrees) (c : CrdtTree) (r : Reached) → follow n steps c ≡ Some r → Reaches n c r.path r.crdt
follows n StepTrees.no_steps c r e = absurd cc
follows n (StepTrees.more_steps (StepTree.dot x) steps) (CrdtTree.node at (CrdtForm.struct parts)) r e =
    then_there (λ found. option_map (past (field found.number)) (follow n steps found.crdt)) (field_named (text_of x) 0 parts) r e (λ a is e.
    map_there (λ z. Reaches n (CrdtTree.node at (CrdtForm.struct parts)) z.path z.crdt) (past (field a.number)) (follow n steps a.crdt) r e (λ q reached.
    let f = named_at (text_of x) 0 parts a is in
    let number : f.0 ≡ a.number = omega (arith, f.1) in
    Reaches.at_field (subst (λ i. field_at i parts ≡ Some a.crdt) number f.2) (follows n steps a.crdt q reached)))
follows n (StepTrees.more_steps (StepTree.dot x) StepTrees.no_steps) (CrdtTree.node at (CrdtForm.set_aw t)) r e = ended n (CrdtTree.node at (CrdtForm.set_aw t)) (text_of x) r e
follows n (StepTrees.more_steps (StepTree.dot x) StepTrees.no_steps) (CrdtTree.node at (CrdtForm.set_rw t)) r e = ended n (CrdtTree.node at (CrdtForm.set_rw t)) (text_of x) r e
follows n (StepTrees.more_steps (StepTree.dot x) StepTrees.no_steps) (CrdtTree.node at (CrdtForm.reg t)) r e = ended n (CrdtTree.node at (CrdtForm.reg t)) (text_of x) r e
follows n (StepTrees.more_steps (StepTree.dot x) StepTrees.no_steps) (CrdtTree.node at (CrdtForm.mv_reg t)) r e = ended n (CrdtTree.node at (CrdtForm.mv_reg t)) (text_of x) r e
follows n (StepTrees.more_steps (StepTree.dot x) StepTrees.no_steps) (CrdtTree.node at CrdtForm.counter) r e = ended n (CrdtTree.node at CrdtForm.counter) (text_of x) r e
follows n (StepTrees.more_steps (StepTree.dot x) StepTrees.no_steps) (CrdtTree.node at (CrdtForm.map_uw t c)) r e = ended n (CrdtTree.node at (CrdtForm.map_uw t c)) (text_of x) r e
follows n (StepTrees.more_steps (StepTree.dot x) StepTrees.no_steps) (CrdtTree.node at (CrdtForm.map_dw t c)) r e = ended n (CrdtTree.node at (CrdtForm.map_dw t c)) (text_of x) r e
follows n (StepTrees.more_steps (StepTree.key k) steps) (CrdtTree.node at (CrdtForm.map_uw t c)) r e =
    map_there (λ z. Reaches n (CrdtTree.node at (CrdtForm.map_uw t c)) z.path z.crdt) (past (key (kind_of n t))) (follow n steps c) r e (λ q reached.
    Reaches.at_key_uw (follows n steps c q reached))
follows n (StepTrees.more_steps (StepTree.key k) steps) (CrdtTree.node at (CrdtForm.map_dw t c)) r e =
    map_there (λ z. Reaches n (CrdtTree.node at (CrdtForm.map_dw t c)) z.path z.crdt) (past (key (kind_of n t))) (follow n steps c) r e (λ q reached.
    Reaches.at_key_dw (follows n steps c q reached))
follows n (StepTrees.more_steps s steps) c r e = absurd cc

-- # What stands on the paths of a root

-- what is made at a place of a path
abbrev pub Made : Type 0 → Type 1
Made X = List KindStep → CrdtTree → X → Type 0

abbrev pub OnPath : {X : Type 0} → Names → Made X → List KindStep → CrdtTree → X → Type 0
OnPath n Q path c x = (suffix : List KindStep) × (d : CrdtTree) × Reaches n c suffix d × Q (path ++ suffix) d x

pub all_changed : {X : Type 0} (P Q : X → Type 0) (xs : List X) → ((x : X) → P x → Q x) → AllByRecursion P xs → AllByRecursion Q xs
all_changed P Q [] f all = tt
all_changed P Q (x ∷ xs) f all = (f x all.0, all_changed P Q xs f all.1)

at_end_of : (path : List KindStep) → path ++ [] ≡ path
at_end_of [] = refl
at_end_of (s ∷ path) = ap (λ p. s ∷ p) (at_end_of path)

mutual
  pub on_path : {X : Type 0} (n : Names) (own : Own X) (Q : Made X) (root : ℕ) → ((path : List KindStep) (at : Span) (form : CrdtForm) → AllByRecursion (Q path (CrdtTree.node at form)) (own root path form))
      → (path : List KindStep) (c : CrdtTree) → AllByRecursion (OnPath n Q path c) (all_on n own root path c)
  on_path n own Q root made path (CrdtTree.node at form) =
      all_both (OnPath n Q path (CrdtTree.node at form)) (own root path form) (all_inside n own root path form)
      (all_changed (Q path (CrdtTree.node at form)) (OnPath n Q path (CrdtTree.node at form)) (own root path form)
      (λ x q. ([], CrdtTree.node at form, Reaches.here, subst (λ p. Q p (CrdtTree.node at form) x) (sym (at_end_of path)) q)) (made path at form))
      (inside n own Q root made path at form)

  inside : {X : Type 0} (n : Names) (own : Own X) (Q : Made X) (root : ℕ) → ((path : List KindStep) (at : Span) (form : CrdtForm) → AllByRecursion (Q path (CrdtTree.node at form)) (own root path form))
      → (path : List KindStep) (at : Span) (form : CrdtForm) → AllByRecursion (OnPath n Q path (CrdtTree.node at form)) (all_inside n own root path form)
  inside n own Q root made path at (CrdtForm.map_uw t c) =
      all_changed (OnPath n Q (path ++ key (kind_of n t) ∷ []) c) (OnPath n Q path (CrdtTree.node at (CrdtForm.map_uw t c))) (all_on n own root (path ++ key (kind_of n t) ∷ []) c)
      (λ x q. (key (kind_of n t) ∷ q.0, q.1, Reaches.at_key_uw q.2, subst (λ p. Q p q.1 x) (append_assoc path (key (kind_of n t) ∷ []) q.0) q.3))
      (on_path n own Q root made (path ++ key (kind_of n t) ∷ []) c)
  inside n own Q root made path at (CrdtForm.map_dw t c) =
      all_changed (OnPath n Q (path ++ key (kind_of n t) ∷ []) c) (OnPath n Q path (CrdtTree.node at (CrdtForm.map_dw t c))) (all_on n own root (path ++ key (kind_of n t) ∷ []) c)
      (λ x q. (key (kind_of n t) ∷ q.0, q.1, Reaches.at_key_dw q.2, subst (λ p. Q p q.1 x) (append_assoc path (key (kind_of n t) ∷ []) q.0) q.3))
      (on_path n own Q root made (path ++ key (kind_of n t) ∷ []) c)
  inside n own Q root made path at (CrdtForm.struct parts) =
      in_fields n own Q root made path at parts 0 parts (λ i. let same : i ≡ 0 + i = omega arith in ap (λ j. field_at j parts) same)
  inside n own Q root made path at (CrdtForm.set_aw t) = tt
  inside n own Q root made path at (CrdtForm.set_rw t) = tt
  inside n own Q root made path at (CrdtForm.reg t) = tt
  inside n own Q root made path at (CrdtForm.mv_reg t) = tt
  inside n own Q root made path at CrdtForm.counter = tt

  -- the fields from number k on
  in_fields : {X : Type 0} (n : Names) (own : Own X) (Q : Made X) (root : ℕ) → ((path : List KindStep) (at : Span) (form : CrdtForm) → AllByRecursion (Q path (CrdtTree.node at form)) (own root path form))
      → (path : List KindStep) (at : Span) (whole : FieldTrees) (k : ℕ) (parts : FieldTrees) → ((i : ℕ) → field_at i parts ≡ field_at (k + i) whole)
      → AllByRecursion (OnPath n Q path (CrdtTree.node at (CrdtForm.struct whole))) (all_in_fields n own root path k parts)
  in_fields n own Q root made path at whole k FieldTrees.no_fields same = tt
  in_fields n own Q root made path at whole k (FieldTrees.more_fields (FieldTree.field x c) others) same =
      let here : k + 0 ≡ k = omega arith in
      let found : field_at k whole ≡ Some c = ap (λ i. field_at i whole) (sym here) ∙ sym (same 0) in
      all_both (OnPath n Q path (CrdtTree.node at (CrdtForm.struct whole))) (all_on n own root (path ++ field k ∷ []) c) (all_in_fields n own root path (k + 1) others)
      (all_changed (OnPath n Q (path ++ field k ∷ []) c) (OnPath n Q path (CrdtTree.node at (CrdtForm.struct whole))) (all_on n own root (path ++ field k ∷ []) c)
      (λ y q. (field k ∷ q.0, q.1, Reaches.at_field found q.2, subst (λ p. Q p q.1 y) (append_assoc path (field k ∷ []) q.0) q.3))
      (on_path n own Q root made (path ++ field k ∷ []) c))
      (in_fields n own Q root made path at whole (k + 1) others (λ i.
      let next : k + suc i ≡ k + 1 + i = omega arith in same (suc i) ∙ ap (λ j. field_at j whole) next))
