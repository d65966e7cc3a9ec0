-- What is in sight behind statements, and what goes out of sight again.
use Rattle.std.proofs.Common.{◌≡◌, ℕ, ◌+◌, List, [], ◌∷◌, ◌++◌, length, map, take, Bool, cond, true, false, Option, Some, None, refl, ap, ap₂, sym, subst, ◌∙◌, append_assoc, append-nil}
use Rattle.std.specs.Prelude.{option_map}
use Rattle.std.proofs.lemmas.List.{map_push}
use Rattle.rp_grammar.specs.Trees.{Ident, StmtTree, StmtForm}
use Rattle.rp_lang.specs.Exprs.{Ex, Slot}
use Rattle.type_rules.specs.declared.kind.Kind.{Kind}
use Rattle.type_rules.specs.Kinds.{kind_of}
use Rattle.type_rules.specs.Names.{Name, text_of, same_name}
use Rattle.type_rules.specs.Accesses.{Var, find_var}
use Rattle.type_rules.specs.Matches.{bound_var, first_kind, other_kinds}
use Rattle.desugaring.specs.Callees.{Stand, Vars, stand, stand_named, var_of}
use Rattle.desugaring.specs.Callees as callees
use Rattle.desugaring.specs.Statements as spec
use Rattle.desugaring.specs.Tables.{Tables}
use Rattle.query_bodies.specs.Expanded.{Given, Uses}
use Rattle.query_laws.specs.Sight.{AreGiven, AreUnder, Known, Seen, Sight, Stands, in_slot, stands_for, vars_in}
use Rattle.query_laws.proofs.Under.{vars_same}
use Rattle.reading.specs.declared.reader.Known as code_known
use Rattle.reading.specs.declared.reader.Known.TheVariants as known
use Rattle.reading.specs.declared.reader.Reader.{Reader}
use Rattle.reading.specs.Reads.{IsKept, back_to, sight_of, with_var}
use Rattle.reading.proofs.Cut.{take_front}
use Rattle.reading.proofs.Kept.{with_kept, with_sight}
use Rattle.lower_exprs.specs.declared.values.Work.{Work}
use Rattle.lower_exprs.specs.declared.values.Maker.{Maker}
use Rattle.lower_exprs.specs.Making.{IsReady}
use Rattle.lower_procs.specs.Writing.{behind, with_slots}

-- # Ready

-- what it hangs on is the reader and the work
pub ready_as : (a b : Maker) → b.work ≡ a.work → b.reader ≡ a.reader → IsReady a → IsReady b
ready_as a b work reader ready =
    let same : IsReady (record a { passed = b.passed }) = record {
      kept = ready.kept;
      stands = ready.stands;
      tables = ready.tables;
      bodies = ready.bodies;
      binders = ready.binders;
      measured = ready.measured;
    } in
    subst (λ (r : Reader). IsReady (record b { reader = r })) (sym reader)
    (subst (λ (w : Work). IsReady (record a { work = w; passed = b.passed })) (sym work) same)

slot_under : (bound : ℕ) (vars : Seen) (x : Name) (k : Kind) (n : ℕ) → AreUnder bound vars
    → AreUnder bound (vars ++ stand x k (in_slot n) ∷ [])
slot_under bound [] x k n are = (tt, tt)
slot_under bound (s ∷ vars) x k n are = (are.0, slot_under bound vars x k n are.1)

slot_given : (given : Given) (vars : Seen) (x : Name) (k : Kind) (n : ℕ) → AreGiven given vars
    → AreGiven given (vars ++ stand x k (in_slot n) ∷ [])
slot_given given [] x k n are = (tt, tt)
slot_given given (s ∷ vars) x k n are = (are.0, slot_given given vars x k n are.1)

abbrev pub slot_var : Reader → Ident → Kind → ℕ → Reader
slot_var r x k n = with_var r (bound_var x k) (known.Slot n)

slot_stands : (r : Reader) (x : Ident) (k : Kind) (n : ℕ) → IsKept r → Stands (sight_of r) [] → Stands (sight_of (slot_var r x k n)) []
slot_stands r x k n kept st =
    subst (λ (s : Sight). Stands s []) (sym (with_sight r x k (known.Slot n) kept)) (record {
      levels = slot_under (sight_of r).binders (sight_of r).vars (text_of x) k n st.levels;
      args = slot_given [] (sight_of r).vars (text_of x) k n st.args;
    })

pub ready_var : (m : Maker) (x : Ident) (k : Kind) (n : ℕ) → IsReady m → IsReady (record m { reader = slot_var m.reader x k n })
ready_var m x k n ready = record {
  kept = with_kept m.reader x k (known.Slot n) ready.kept;
  stands = slot_stands m.reader x k n ready.kept ready.stands;
  tables = ready.tables;
  bodies = ready.bodies;
  binders = ready.binders;
  measured = ready.measured;
}

pub ready_slots : (m : Maker) (n : ℕ) (xs : List Ident) (ks : List Kind) → IsReady m
    → IsReady (record m { reader = with_slots m.reader n xs ks })
ready_slots m n [] ks ready = ready_as m (record m { reader = m.reader }) refl refl ready
ready_slots m n (x ∷ xs) ks ready =
    ready_slots (record m { reader = slot_var m.reader x (first_kind ks) n }) (n + 1) xs (other_kinds ks)
    (ready_var m x (first_kind ks) n ready)

pub ready_behind : (m : Maker) (n : ℕ) (s : StmtTree) → IsReady m → IsReady (record m { reader = behind n m.reader s })
ready_behind m n (StmtTree.node at (StmtForm.var x t e)) ready = ready_var m x (kind_of (sight_of m.reader).tables.names t) n ready
ready_behind m n (StmtTree.node at (StmtForm.new x id)) ready = ready
ready_behind m n (StmtTree.node at (StmtForm.assign x e)) ready = ready
ready_behind m n (StmtTree.node at (StmtForm.access a)) ready = ready
ready_behind m n (StmtTree.node at (StmtForm.if_ e b other)) ready = ready
ready_behind m n (StmtTree.node at (StmtForm.match e arms)) ready = ready
ready_behind m n (StmtTree.node at (StmtForm.atomic b)) ready = ready
ready_behind m n (StmtTree.node at (StmtForm.assert e)) ready = ready
ready_behind m n (StmtTree.node at (StmtForm.return e)) ready = ready

-- # The variables as the definitions have them

pub vars_var : (r : Reader) (x : Ident) (k : Kind) (n : ℕ) → IsKept r
    → vars_in (sight_of (slot_var r x k n)) [] ≡ vars_in (sight_of r) [] ++ stand (text_of x) k (Slot n) ∷ []
vars_var r x k n kept =
    ap (λ (s : Sight). vars_in s []) (with_sight r x k (known.Slot n) kept)
    ∙ map_push (stands_for [] (sight_of r).binders) (sight_of r).vars (stand (text_of x) k (in_slot n))

pub vars_slots : (r : Reader) (n : ℕ) (xs : List Ident) (ks : List Kind) → IsKept r
    → vars_in (sight_of (with_slots r n xs ks)) [] ≡ spec.slotted (vars_in (sight_of r) []) n xs ks
vars_slots r n [] ks kept = refl
vars_slots r n (x ∷ xs) ks kept =
    vars_slots (slot_var r x (first_kind ks) n) (n + 1) xs (other_kinds ks) (with_kept r x (first_kind ks) (known.Slot n) kept)
    ∙ ap (λ (vs : Vars). spec.slotted vs (n + 1) xs (other_kinds ks)) (vars_var r x (first_kind ks) n kept)

pub vars_behind : (r : Reader) (n : ℕ) (s : StmtTree) → IsKept r
    → vars_in (sight_of (behind n r s)) [] ≡ spec.behind (sight_of r).tables.names (vars_in (sight_of r) []) n s
vars_behind r n (StmtTree.node at (StmtForm.var x t e)) kept = vars_var r x (kind_of (sight_of r).tables.names t) n kept
vars_behind r n (StmtTree.node at (StmtForm.new x id)) kept = refl
vars_behind r n (StmtTree.node at (StmtForm.assign x e)) kept = refl
vars_behind r n (StmtTree.node at (StmtForm.access a)) kept = refl
vars_behind r n (StmtTree.node at (StmtForm.if_ e b other)) kept = refl
vars_behind r n (StmtTree.node at (StmtForm.match e arms)) kept = refl
vars_behind r n (StmtTree.node at (StmtForm.atomic b)) kept = refl
vars_behind r n (StmtTree.node at (StmtForm.assert e)) kept = refl
vars_behind r n (StmtTree.node at (StmtForm.return e)) kept = refl

-- # More in sight, and back again

pub record Extends (r new : Reader) : Type 0 where
  pub vars : List Var
  pub known : List code_known.Known
  pub is : new ≡ record r { vars = r.vars ++ vars; known = r.known ++ known }

pub extends_none : (r : Reader) → Extends r r
extends_none r = record {
  vars = [];
  known = [];
  is = ap₂ (λ (vs : List Var) (ks : List code_known.Known). record r { vars = vs; known = ks }) (sym (append-nil r.vars))
      (sym (append-nil r.known));
}

extends_var : (r : Reader) (v : Var) (k : code_known.Known) → Extends r (with_var r v k)
extends_var r v k = record { vars = v ∷ []; known = k ∷ []; is = refl }

pub extends_then : {a b d : Reader} → Extends a b → Extends b d → Extends a d
extends_then {a} {b} {d} first second = record {
  vars = first.vars ++ second.vars;
  known = first.known ++ second.known;
  is = second.is
      ∙ ap (λ (r : Reader). record r { vars = r.vars ++ second.vars; known = r.known ++ second.known }) first.is
      ∙ ap₂ (λ (vs : List Var) (ks : List code_known.Known). record a { vars = vs; known = ks })
      (append_assoc a.vars first.vars second.vars) (append_assoc a.known first.known second.known);
}

pub extends_slots : (r : Reader) (n : ℕ) (xs : List Ident) (ks : List Kind) → Extends r (with_slots r n xs ks)
extends_slots r n [] ks = extends_none r
extends_slots r n (x ∷ xs) ks =
    extends_then (extends_var r (bound_var x (first_kind ks)) (known.Slot n))
    (extends_slots (slot_var r x (first_kind ks) n) (n + 1) xs (other_kinds ks))

pub extends_behind : (r : Reader) (n : ℕ) (s : StmtTree) → Extends r (behind n r s)
extends_behind r n (StmtTree.node at (StmtForm.var x t e)) =
    extends_var r (bound_var x (kind_of (sight_of r).tables.names t)) (known.Slot n)
extends_behind r n (StmtTree.node at (StmtForm.new x id)) = extends_none r
extends_behind r n (StmtTree.node at (StmtForm.assign x e)) = extends_none r
extends_behind r n (StmtTree.node at (StmtForm.access a)) = extends_none r
extends_behind r n (StmtTree.node at (StmtForm.if_ e b other)) = extends_none r
extends_behind r n (StmtTree.node at (StmtForm.match e arms)) = extends_none r
extends_behind r n (StmtTree.node at (StmtForm.atomic b)) = extends_none r
extends_behind r n (StmtTree.node at (StmtForm.assert e)) = extends_none r
extends_behind r n (StmtTree.node at (StmtForm.return e)) = extends_none r

pub extends_to : {a b d : Reader} → Extends a b → d ≡ b → Extends a d
extends_to {a} {b} {d} e is = subst (λ (r : Reader). Extends a r) (sym is) e

-- what came in sight goes again
pub gone : (r new : Reader) (len : ℕ) → IsKept r → len ≡ length r.vars → r.binders ≡ 0 → Extends r new → back_to len 0 new ≡ r
gone r new len kept is none e =
    ap (back_to len 0) e.is
    ∙ ap (λ n. record r { vars = take len (r.vars ++ e.vars); known = take len (r.known ++ e.known); binders = n }) (sym none)
    ∙ ap₂ (λ (vs : List Var) (ks : List code_known.Known). record r { vars = vs; known = ks })
    (take_front r.vars e.vars len is) (take_front r.known e.known len (is ∙ kept.long))

-- # Variables by their names

named_in : (given : Given) (bound : ℕ) (vars : Seen) (x : Name)
    → stand_named (map (stands_for given bound) vars) x ≡ option_map (stands_for given bound) (stand_named vars x)
named_in given bound [] x = refl
named_in given bound (v ∷ vars) x = by (same_name v.name x) (named_in given bound vars x) where
  by : (b : Bool) → stand_named (map (stands_for given bound) vars) x ≡ option_map (stands_for given bound) (stand_named vars x)
      → cond b (Some (stands_for given bound v)) (stand_named (map (stands_for given bound) vars) x)
      ≡ option_map (stands_for given bound) (cond b (Some v) (stand_named vars x))
  by true e = refl
  by false e = e

-- a name stands for what it was seen to stand for
pub named_there : (s : Sight) (x : Name) (st : Stand Ex) → stand_named (vars_in s []) x ≡ Some st
    → (k : Stand Known) × (stand_named s.vars x ≡ Some k) × (stands_for [] s.binders k ≡ st)
named_there s x st e = by (stand_named s.vars x) refl (sym (named_in [] s.binders s.vars x) ∙ e) where
  by : (o : Option (Stand Known)) → stand_named s.vars x ≡ o → option_map (stands_for [] s.binders) o ≡ Some st
      → (k : Stand Known) × (stand_named s.vars x ≡ Some k) × (stands_for [] s.binders k ≡ st)
  by None is h = absurd cc
  by (Some k) is h = (k, is, cc)

-- with its type
pub named_kind : (vars : Vars) (x : Name) (st : Stand Ex) (v : Var) → stand_named vars x ≡ Some st
    → find_var (callees.vars_of vars) x ≡ Some v → st.kind ≡ v.kind
named_kind [] x st v e is = absurd cc
named_kind (s ∷ vars) x st v e is = by (same_name s.name x) e is (named_kind vars x st v) where
  by : (b : Bool) → cond b (Some s) (stand_named vars x) ≡ Some st → cond b (Some (var_of s)) (find_var (callees.vars_of vars) x) ≡ Some v
      → (stand_named vars x ≡ Some st → find_var (callees.vars_of vars) x ≡ Some v → st.kind ≡ v.kind) → st.kind ≡ v.kind
  by true e is later =
      let same : s ≡ st = cc in
      let found : var_of s ≡ v = cc in
      ap (λ (t : Stand Ex). t.kind) (sym same) ∙ ap (λ (t : Var). t.kind) found
  by false e is later = later e is

-- the variables in sight are those that the type rules see
pub vars_seen : (r : Reader) → IsKept r → callees.vars_of (vars_in (sight_of r) []) ≡ r.vars
vars_seen r kept = vars_same (sight_of r) [] ∙ kept.rules
