-- The trees of two programs over sets of ids, each part with its text above it. The programs are those of `rp_lang`'s samples.
use Rattle.std.specs.Prelude.{ℕ, ◌+◌, List, [], ◌∷◌, ◌++◌, codes, length, Some, None}
use Rattle.rp_grammar.specs.declared.operator.CompareOp.TheVariants as compare
use Rattle.rp_grammar.specs.declared.operator.CallWord.TheVariants as called
use Rattle.rp_grammar.specs.Trees.{ParamTree, TypeForm, CrdtTree, CrdtForm, ExprTree, ExprForm, AccessTree, StepTree, ArgTrees, StmtTree, StmtForm, ElseTree, ProcTree, DeclTree, DeclForm, exprs, steps}
use Rattle.rp_grammar.specs.rows.Rows.{span, name_at, expr_at, variable, type_at, named_type, stmt_at, block_at}

abbrev pub decl_at : ℕ → ℕ → DeclForm → DeclTree
decl_at from to form = DeclTree.node (span from to) form

-- `ROOT.NAME(u)`
abbrev pub on_u : List ℕ → List ℕ → ℕ → AccessTree
on_u root name from =
    let dot = from + length root in
    AccessTree.path (name_at root from) (steps (StepTree.dot (name_at name (dot + 1)) ∷ []))
    (ArgTrees.given (exprs (variable (codes "u") (dot + 1 + length name + 1) ∷ [])))

abbrev pub end_of : List ℕ → List ℕ → ℕ → ℕ
end_of root name from = from + length root + length name + 4

abbrev pub asks : List ℕ → List ℕ → ℕ → ExprTree
asks root name from = expr_at from (end_of root name from) (ExprForm.access (on_u root name from))

-- with its semicolon
abbrev pub operates : List ℕ → List ℕ → ℕ → StmtTree
operates root name from = stmt_at from (end_of root name from + 1) (StmtForm.access (on_u root name from))

abbrev pub users : List ℕ
users = codes "users"

abbrev pub posts : List ℕ
posts = codes "posts"

abbrev pub set_of_ids : ℕ → CrdtTree
set_of_ids from = CrdtTree.node (span from (from + 8)) (CrdtForm.set_aw (named_type (codes "U") (from + 6)))

-- u: U
abbrev pub u_at : ℕ → ParamTree
u_at from = ParamTree.param (name_at (codes "u") from) (named_type (codes "U") (from + 3))

-- idtype U;
-- crdt users: SetAw[U];
-- crdt posts: SetAw[U];
abbrev pub sets : List DeclTree
sets =
    decl_at 0 9 (DeclForm.id_type (name_at (codes "U") 7))
    ∷ decl_at 10 31 (DeclForm.crdt (name_at users 15) (set_of_ids 22))
    ∷ decl_at 32 53 (DeclForm.crdt (name_at posts 37) (set_of_ids 44))
    ∷ []

-- invariant refs: forall u: U :: posts.contains(u) ==> users.contains(u);
abbrev pub refs : DeclTree
refs =
    let claim = expr_at 85 124 (ExprForm.implies (asks posts (codes "contains") 85) (asks users (codes "contains") 107)) in
    decl_at 54 125 (DeclForm.invariant (Some (name_at (codes "refs") 64)) (expr_at 70 124 (ExprForm.forall (u_at 77) claim)))

-- invariant norem: forall c: call, u: U :: !(op(c) == users.remove(u));
abbrev pub norem : DeclTree
norem =
    let op = expr_at 169 174 (ExprForm.call called.Op (exprs (variable (codes "c") 172 ∷ []))) in
    let same = expr_at 169 193 (ExprForm.compare compare.Equal op (asks users (codes "remove") 178)) in
    let negation = expr_at 167 194 (ExprForm.not same) in
    let ids = expr_at 159 194 (ExprForm.forall (u_at 159) negation) in
    let c = ParamTree.param (name_at (codes "c") 150) (type_at 153 157 TypeForm.call) in
    decl_at 126 195 (DeclForm.invariant (Some (name_at (codes "norem") 136)) (expr_at 143 194 (ExprForm.forall c ids)))

-- proc add(): U {
--   var u: U;
--   atomic { u = new U; users.add(u); }
--   return u;
-- }
abbrev pub add : ℕ → DeclTree
add from =
    let declared = stmt_at (from + 18) (from + 27)
    (StmtForm.var (name_at (codes "u") (from + 22)) (named_type (codes "U") (from + 25)) None) in
    let generated = stmt_at (from + 39) (from + 49)
    (StmtForm.new (name_at (codes "u") (from + 39)) (name_at (codes "U") (from + 47))) in
    let inner = block_at (from + 37) (from + 65) (generated ∷ operates users (codes "add") (from + 50) ∷ []) in
    let atomic = stmt_at (from + 30) (from + 65) (StmtForm.atomic inner) in
    let returned = stmt_at (from + 68) (from + 77) (StmtForm.return (Some (variable (codes "u") (from + 75)))) in
    let body = block_at (from + 14) (from + 79) (declared ∷ atomic ∷ returned ∷ []) in
    decl_at from (from + 79) (DeclForm.proc
    (ProcTree.proc (name_at (codes "add") (from + 5)) [] (Some (named_type (codes "U") (from + 12))) body))

-- proc post(u: U) {
--   atomic { if (users.contains(u)) { posts.add(u); } }
-- }
abbrev pub post : ℕ → DeclTree
post from =
    let added = block_at (from + 52) (from + 69) (operates posts (codes "add") (from + 54) ∷ []) in
    let branch = stmt_at (from + 29) (from + 69)
    (StmtForm.if_ (asks users (codes "contains") (from + 33)) added ElseTree.no_else) in
    let atomic = stmt_at (from + 20) (from + 71) (StmtForm.atomic (block_at (from + 27) (from + 71) (branch ∷ []))) in
    decl_at from (from + 73) (DeclForm.proc
    (ProcTree.proc (name_at (codes "post") (from + 5)) (u_at (from + 10) ∷ []) None
    (block_at (from + 16) (from + 73) (atomic ∷ []))))

-- proc remove(u: U) {
--   atomic { users.remove(u); }
-- }
abbrev pub remove : ℕ → DeclTree
remove from =
    let atomic = stmt_at (from + 22) (from + 49)
    (StmtForm.atomic (block_at (from + 29) (from + 49) (operates users (codes "remove") (from + 31) ∷ []))) in
    decl_at from (from + 51) (DeclForm.proc
    (ProcTree.proc (name_at (codes "remove") (from + 5)) (u_at (from + 12) ∷ []) None
    (block_at (from + 18) (from + 51) (atomic ∷ []))))

-- # The programs

-- the invariant can break
abbrev pub removes_users : List DeclTree
removes_users = sets ++ refs ∷ add 126 ∷ post 206 ∷ remove 280 ∷ []

-- no user is removed
abbrev pub keeps_users : List DeclTree
keeps_users = sets ++ refs ∷ norem ∷ add 196 ∷ post 276 ∷ []
