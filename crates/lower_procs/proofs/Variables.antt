-- Variables that are declared, with their values or without.
use Rattle.std.proofs.Common.{◌≡◌, ℕ, true, List, [], ◌∷◌, ◌++◌, length, Option, Some, None, refl, ap, sym, subst, ◌∙◌}
use Rattle.std.specs.Prelude.{option_map}
use Rattle.rp_span.specs.declared.Span.{Span}
use Rattle.rp_grammar.specs.Trees.{ExprTree, Ident, StmtForm, StmtTree, TypeTree}
use Rattle.rp_lang.specs.Stmts.{Sts, no_st}
use Rattle.type_rules.specs.declared.kind.Kind.{Kind}
use Rattle.type_rules.specs.Kinds.{kind_of}
use Rattle.desugaring.specs.Callees.{Vars}
use Rattle.desugaring.specs.Limits.{some_in_all}
use Rattle.desugaring.specs.Statements as spec
use Rattle.desugaring.specs.Statements.{Made, made, with_kind}
use Rattle.desugaring.proofs.Options.{map_there}
use Rattle.query_laws.specs.Sight.{uses_with, vars_in}
use Rattle.reading.specs.declared.reader.Reader.{Reader}
use Rattle.reading.specs.Reads.{sight_of}
use Rattle.lower_exprs.specs.declared.values.Work.{Work}
use Rattle.lower_exprs.specs.declared.values.Maker.{Maker}
use Rattle.lower_exprs.specs.Making.{IsReady}
use Rattle.lower_procs.specs.declared.writer.Frame as code_frame
use Rattle.lower_procs.specs.declared.writer.Writer.{Writer}
use Rattle.lower_procs.specs.Noting.{IsNoted, is_large_in, none_passing}
use Rattle.lower_procs.specs.Writing.{Adds, ArePast, Brings, HaveSlots, Writes, assignment_in, behind, place_view, sight_in, stmt_in}
use Rattle.lower_procs.proofs.Noted.{noted_none}
use Rattle.lower_procs.proofs.Sights.{ready_var, slot_var, vars_var}
use Rattle.lower_procs.proofs.Added.{behind_slots, nothing_added}

-- the variable has the next slot
pub record Declared (old : Writer) (x : Ident) (k : Kind) (new : Writer) : Type 0 where
  pub slots : HaveSlots old (k ∷ []) new
  pub maker : new.maker ≡ record old.maker { reader = slot_var old.maker.reader x k (length old.slots) }

declared_brings : {old new : Writer} {x : Ident} {k : Kind} → Declared old x k new → Brings old (k ∷ []) none_passing new
declared_brings {old} {new} {x} {k} d = record {
  slots = d.slots;
  noted = let none = noted_none old.maker in
      subst (λ (m : Maker). IsNoted old.maker none_passing m) (sym d.maker) (record { work = refl; passed = none.passed; small = none.small });
}

declared_ready : {old new : Writer} {x : Ident} {k : Kind} → Declared old x k new → IsReady old.maker → IsReady new.maker
declared_ready {old} {new} {x} {k} d ready =
    subst (λ (m : Maker). IsReady m) (sym d.maker) (ready_var old.maker x k (length old.slots) ready)

declared_tables : {old new : Writer} {x : Ident} {k : Kind} → Declared old x k new → (sight_in new).tables ≡ (sight_in old).tables
declared_tables d = ap (λ (m : Maker). (sight_of m.reader).tables) d.maker

-- what the value is assigned to by the definitions
declared_assigns : {old new : Writer} {x : Ident} {k : Kind} → Declared old x k new → IsReady old.maker → (f : code_frame.Frame) (at : Span)
    (ty : TypeTree) (e : ExprTree) → k ≡ kind_of (sight_in old).tables.names ty
    → assignment_in new f at x e
    ≡ spec.assignment (sight_in old).tables (uses_with (sight_in old).uses) (place_view f)
    (spec.with_slot (sight_in old).tables.names (vars_in (sight_in old) []) (length old.slots) x ty) at x e
declared_assigns {old} {new} {x} {k} d ready f at ty e is =
    let r = old.maker.reader in
    ap (λ (m : Maker). spec.assignment (sight_of m.reader).tables (uses_with (sight_of m.reader).uses) (place_view f) (vars_in (sight_of m.reader) []) at x e) d.maker
    ∙ ap (λ (vs : Vars). spec.assignment (sight_of r).tables (uses_with (sight_of r).uses) (place_view f) vs at x e)
    (vars_var r x k (length old.slots) ready.kept
    ∙ ap (λ (j : Kind). vars_in (sight_of r) [] ++ Rattle.desugaring.specs.Callees.stand (Rattle.type_rules.specs.Names.text_of x) j (Rattle.rp_lang.specs.Exprs.Slot (length old.slots)) ∷ []) is)

pub var_alone : {old new : Writer} {x : Ident} {k : Kind} {before : Sts} (f : code_frame.Frame) (at : Span) (ty : TypeTree) (m : Made)
    → Declared old x k new → k ≡ kind_of (sight_in old).tables.names ty → stmt_in old f (StmtTree.node at (StmtForm.var x ty None)) ≡ Some m
    → Adds old m (behind (length old.slots) old.maker.reader (StmtTree.node at (StmtForm.var x ty None))) before new before
var_alone {old} {new} {x} {k} {before} f at ty m d is h =
    let same : made no_st (kind_of (sight_in old).tables.names ty ∷ []) ≡ m = cc in
    subst (λ (y : Made). Adds old y (behind (length old.slots) old.maker.reader (StmtTree.node at (StmtForm.var x ty None))) before new before) same
    (subst (λ (j : Kind). Adds old (made no_st (j ∷ [])) (slot_var old.maker.reader x j (length old.slots)) before new before) is
    (subst (λ (r : Reader). Adds old (made no_st (k ∷ [])) r before new before) (ap (λ (y : Maker). y.reader) d.maker)
    (behind_slots (declared_brings d) (nothing_added new before) (declared_tables d))))

pub var_adds : {old new last : Writer} {x : Ident} {k : Kind} {before after : Sts} (f : code_frame.Frame) (at : Span) (ty : TypeTree) (e : ExprTree)
    (m : Made) → IsReady old.maker → Declared old x k new → k ≡ kind_of (sight_in old).tables.names ty
    → Writes new (assignment_in new f at x e) new.maker.reader before last after
    → stmt_in old f (StmtTree.node at (StmtForm.var x ty (Some e))) ≡ Some m
    → Adds old m (behind (length old.slots) old.maker.reader (StmtTree.node at (StmtForm.var x ty (Some e)))) before last after
var_adds {old} {new} {last} {x} {k} {before} {after} f at ty e m ready d is writes h =
    let K = kind_of (sight_in old).tables.names ty in
    map_there (λ (y : Made). Adds old y (slot_var old.maker.reader x K (length old.slots)) before last after) (with_kind K) _ m h (λ n there.
    subst (λ (j : Kind). Adds old (with_kind j n) (slot_var old.maker.reader x j (length old.slots)) before last after) is
    (subst (λ (r : Reader). Adds old (with_kind k n) r before last after) (ap (λ (y : Maker). y.reader) d.maker)
    (behind_slots (declared_brings d)
    (writes (declared_ready d ready) n (declared_assigns d ready f at ty e is ∙ there)) (declared_tables d))))

pub var_past : {old new : Writer} {x : Ident} {k : Kind} (f : code_frame.Frame) (at : Span) (ty : TypeTree) (e : ExprTree)
    → Declared old x k new → k ≡ kind_of (sight_in old).tables.names ty → ArePast new (assignment_in new f at x e)
    → ArePast old (stmt_in old f (StmtTree.node at (StmtForm.var x ty (Some e))))
var_past {old} {new} {x} {k} f at ty e d is past ready m h =
    let K = kind_of (sight_in old).tables.names ty in
    map_there (λ (y : Made). some_in_all (is_large_in old.maker.work.cons.now) y.body ≡ true) (with_kind K) _ m h (λ n there.
    subst (λ (w : Work). some_in_all (is_large_in w.cons.now) n.body ≡ true) (ap (λ (y : Maker). y.work) d.maker)
    (past (declared_ready d ready) n (declared_assigns d ready f at ty e is ∙ there)))
