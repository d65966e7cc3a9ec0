-- The numbers at all places of a text's tree fit.
use Rattle.std.proofs.Common.{◌+◌, ◌≤◌, ℕ, Bool, List, [], ◌∷◌, ◌++◌, Option, Some, None, refl}
use Rattle.rp_span.specs.declared.Span.{Span}
use Rattle.rp_grammar.specs.Bytes.{greatest}
use Rattle.rp_grammar.specs.Terminals.{Terminal, int}
use Rattle.rp_grammar.specs.Trees.{Ident, TypeTree, ParamTree, CrdtTree, CrdtForm, FieldTree, FieldTrees, ExprTree, AccessTree, BlockTree, StmtTree, StmtForm, StmtTrees, ElseTree, BlockArmTree, BlockArmTrees, ConTree, QueryTree, ProcTree, DeclForm, DeclTree}
use Rattle.rp_grammar.proofs.Formed.{FormedOption, FormedAccess, FormedBlock, FormedStmts, FormedStmt, FormedStmtForm, FormedElse, FormedBlockArms, FormedDeclForm, FormedDecls}
use Rattle.type_rules.specs.declared.kind.Kind.{Kind}
use Rattle.type_rules.specs.declared.role.Role.{Role}
use Rattle.type_rules.specs.Names.{Name, Names}
use Rattle.type_rules.specs.Accesses.{Var}
use Rattle.type_rules.specs.Queries.{param_var}
use Rattle.type_rules.specs.Sites.{Scope, Want}
use Rattle.type_rules.specs.ExprSites.{access_sites}
use Rattle.type_rules.specs.Flow.{Sight}
use Rattle.type_rules.specs.StmtSites.{Frame, value_sites, stmt_sites, stmt_form_sites, stmts_sites, block_sites, else_sites, arm_sites}
use Rattle.type_rules.specs.DeclSites.{named_all, written_all, declares_all, param_sites, con_sites, crdt_sites, crdt_form_sites, fields_sites, result_sites}
use Rattle.type_rules.specs.TextSites.{Seen, declared_types, declared_others, declared_invariants, name_sites, with_decl, inner_sites, decl_sites}
use Rattle.lawful.proofs.Numbers.{AllNumbers, join, bound_numbers, numbers, step_numbers, given_numbers}

-- # Places that are no expressions

named_numbers : (before : List Name) (xs : List Ident) → AllNumbers (named_all before xs)
named_numbers before [] = tt
named_numbers before (x ∷ xs) = (refl, named_numbers _ xs)

written_numbers : (k : ℕ) (r : Role) (params : List ParamTree) → AllNumbers (written_all k r params)
written_numbers k r [] = tt
written_numbers k r (p ∷ params) = (refl, written_numbers k r params)

declares_numbers : (n : Names) (vs : List Var) (params : List ParamTree) → AllNumbers (declares_all n vs params)
declares_numbers n vs [] = tt
declares_numbers n vs (p ∷ params) = (refl, declares_numbers n (vs ++ param_var n p ∷ []) params)

param_numbers : (n : Names) (k : ℕ) (r : Role) (params : List ParamTree) → AllNumbers (param_sites n k r params)
param_numbers n k r params = join _ _ (join _ _ (named_numbers [] _) (declares_numbers n [] params)) (written_numbers k r params)

con_numbers : (k : ℕ) (cons : List ConTree) → AllNumbers (con_sites k cons)
con_numbers k [] = tt
con_numbers k (ConTree.con x fields ∷ cons) = join _ _ (join _ _ (named_numbers [] _) (written_numbers k _ fields)) (con_numbers k cons)

mutual
  crdt_numbers : (k : ℕ) (c : CrdtTree) → AllNumbers (crdt_sites k c)
  crdt_numbers k (CrdtTree.node at form) = form_numbers k form

  form_numbers : (k : ℕ) (form : CrdtForm) → AllNumbers (crdt_form_sites k form)
  form_numbers k (CrdtForm.set_aw t) = (refl, tt)
  form_numbers k (CrdtForm.set_rw t) = (refl, tt)
  form_numbers k (CrdtForm.reg t) = (refl, tt)
  form_numbers k (CrdtForm.mv_reg t) = (refl, tt)
  form_numbers k CrdtForm.counter = tt
  form_numbers k (CrdtForm.map_uw t c) = (refl, crdt_numbers k c)
  form_numbers k (CrdtForm.map_dw t c) = (refl, crdt_numbers k c)
  form_numbers k (CrdtForm.struct parts) = join _ _ (named_numbers [] _) (field_numbers k parts)

  field_numbers : (k : ℕ) (parts : FieldTrees) → AllNumbers (fields_sites k parts)
  field_numbers k FieldTrees.no_fields = tt
  field_numbers k (FieldTrees.more_fields (FieldTree.field x c) others) = join _ _ (crdt_numbers k c) (field_numbers k others)

result_numbers : (k : ℕ) (t : Option TypeTree) → AllNumbers (result_sites k t)
result_numbers k None = tt
result_numbers k (Some t) = (refl, tt)

name_numbers : (seen : Seen) (form : DeclForm) → AllNumbers (name_sites seen form)
name_numbers seen form =
    let types = named_all seen.types (declared_types form) in
    let others = named_all seen.others (declared_others form) in
    let invariants = named_all seen.invariants (declared_invariants form) in
    join (types ++ others) invariants
    (join types others (named_numbers seen.types (declared_types form)) (named_numbers seen.others (declared_others form)))
    (named_numbers seen.invariants (declared_invariants form))

-- # Statements

module _ (L : Terminal → Type 0) (fit : (i : ℕ) → L (int i) → i ≤ greatest) where
  value_numbers : (n : Names) (sc : Scope) (w : Want) (e : Option ExprTree) → FormedOption L e → AllNumbers (value_sites n sc w e)
  value_numbers n sc w None h = tt
  value_numbers n sc w (Some e) h = numbers L fit n sc w e h

  access_numbers : (n : Names) (sc : Scope) (a : AccessTree) → FormedAccess L a → AllNumbers (access_sites n sc a)
  access_numbers n sc (AccessTree.path x steps args) h = join _ _ (step_numbers L fit n sc _ steps h.1) (given_numbers L fit n sc _ args h.2)

  mutual
    stmt_numbers : (n : Names) (f : Frame) (g : Sight) (last : Bool) (s : StmtTree) → FormedStmt L s → AllNumbers (stmt_sites n f g last s)
    stmt_numbers n f g last (StmtTree.node at form) h = stmt_form_numbers n f g last at form h

    stmt_form_numbers : (n : Names) (f : Frame) (g : Sight) (last : Bool) (at : Span) (form : StmtForm) → FormedStmtForm L form
        → AllNumbers (stmt_form_sites n f g last at form)
    stmt_form_numbers n f g last at (StmtForm.var x t e) h = (refl, (refl, value_numbers n _ _ e h.2))
    stmt_form_numbers n f g last at (StmtForm.new x t) h = (refl, (refl, tt))
    stmt_form_numbers n f g last at (StmtForm.assign x e) h = (refl, numbers L fit n _ _ e h.1)
    stmt_form_numbers n f g last at (StmtForm.access a) h = (refl, access_numbers n _ a h)
    stmt_form_numbers n f g last at (StmtForm.if_ e b other) h =
        join _ _ (join _ _ (numbers L fit n _ _ e h.0) (block_numbers n f g b h.1)) (else_numbers n f g other h.2)
    stmt_form_numbers n f g last at (StmtForm.match e arms) h = join _ _ (numbers L fit n _ _ e h.0) (refl, arm_numbers n f g _ [] arms h.1)
    stmt_form_numbers n f g last at (StmtForm.atomic b) h = (refl, block_numbers n _ g b h)
    stmt_form_numbers n f g last at (StmtForm.assert e) h = numbers L fit n _ _ e h
    stmt_form_numbers n f g last at (StmtForm.return e) h = (refl, value_numbers n _ _ e h)

    stmts_numbers : (n : Names) (f : Frame) (g : Sight) (stmts : StmtTrees) → FormedStmts L stmts → AllNumbers (stmts_sites n f g stmts)
    stmts_numbers n f g StmtTrees.no_stmts h = tt
    stmts_numbers n f g (StmtTrees.more_stmts s stmts) h = join _ _ (stmt_numbers n _ g _ s h.0) (stmts_numbers n f _ stmts h.1)

    block_numbers : (n : Names) (f : Frame) (g : Sight) (b : BlockTree) → FormedBlock L b → AllNumbers (block_sites n f g b)
    block_numbers n f g (BlockTree.block at stmts) h = stmts_numbers n f g stmts h

    else_numbers : (n : Names) (f : Frame) (g : Sight) (other : ElseTree) → FormedElse L other → AllNumbers (else_sites n f g other)
    else_numbers n f g ElseTree.no_else h = tt
    else_numbers n f g (ElseTree.else_block b) h = block_numbers n f g b h
    else_numbers n f g (ElseTree.else_if (StmtTree.node at (StmtForm.if_ e b other))) h =
        join _ _ (join _ _ (numbers L fit n _ _ e h.0) (block_numbers n f g b h.1)) (else_numbers n f g other h.2)
    else_numbers n f g (ElseTree.else_if (StmtTree.node at _)) h = absurd h

    arm_numbers : (n : Names) (f : Frame) (g : Sight) (k : Kind) (before : List Name) (arms : BlockArmTrees) → FormedBlockArms L arms
        → AllNumbers (arm_sites n f g k before arms)
    arm_numbers n f g k before BlockArmTrees.no_block_arms h = tt
    arm_numbers n f g k before (BlockArmTrees.more_block_arms (BlockArmTree.arm q b) arms) h =
        (refl, join _ _ (join _ _ (bound_numbers _ _ _) (block_numbers n f _ b h.0.1)) (arm_numbers n f g k _ arms h.1))

  -- # Declarations

  inner_numbers : (n : Names) (k : ℕ) (behind : List ℕ) (form : DeclForm) → FormedDeclForm L form → AllNumbers (inner_sites n k behind form)
  inner_numbers n k behind (DeclForm.id_type x) h = tt
  inner_numbers n k behind (DeclForm.opaque x) h = tt
  inner_numbers n k behind (DeclForm.datatype x cons) h = con_numbers k cons
  inner_numbers n k behind (DeclForm.crdt x c) h = crdt_numbers k c
  inner_numbers n k behind (DeclForm.query (QueryTree.query x params result body)) h =
      join _ _ (param_numbers n k _ params) (refl, numbers L fit n _ _ body h.3)
  inner_numbers n k behind (DeclForm.invariant x e) h = numbers L fit n _ _ e h.1
  inner_numbers n k behind (DeclForm.proc (ProcTree.proc x params result body)) h =
      join _ _ (join _ _ (join _ _ (param_numbers n k _ params) (result_numbers k result)) (block_numbers n _ _ body h.3)) (refl, tt)

  pub decl_numbers : (n : Names) (seen : Seen) (k : ℕ) (ds : List DeclTree) → FormedDecls L ds → AllNumbers (decl_sites n seen k ds)
  decl_numbers n seen k [] h = tt
  decl_numbers n seen k (DeclTree.node at form ∷ ds) h =
      join _ _ (join _ _ (name_numbers seen form) (inner_numbers n k _ form h.0)) (decl_numbers n (with_decl seen form) (k + 1) ds h.1)
