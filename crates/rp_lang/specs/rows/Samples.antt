-- Two programs, each with its text above it, and small changes of them.
use Rattle.std.specs.Prelude.{ℕ, ◌+◌, true, List, [], ◌∷◌, codes, Some, None}
use Rattle.rp_span.specs.declared.Span.{Span}
use Rattle.rp_value.specs.declared.tables.Ty.{Ty}
use Rattle.rp_value.specs.declared.tables.Ty.TheVariants.{Atom, Call}
use Rattle.rp_value.specs.declared.tables.TypeTable.{TypeTable}
use Rattle.rp_lang.specs.declared.op.OpDecl.{OpDecl}
use Rattle.rp_lang.specs.declared.op.OpKind.{OpKind}
use Rattle.rp_lang.specs.declared.op.OpKind.TheVariants.{Add, Remove}
use Rattle.rp_lang.specs.declared.query.QueryDecl.{QueryDecl}
use Rattle.rp_lang.specs.declared.query.QueryKind.TheVariants.{Contains}
use Rattle.rp_lang.specs.Crdts.{SetAw}
use Rattle.rp_lang.specs.Exprs.{Ex, Slot, Bound, OpOf, OpTerm, Query, Exs, no_ex, also_ex}
use Rattle.rp_lang.specs.Formulas.{All, Implies, Not, Holds, Equal}
use Rattle.rp_lang.specs.Stmts.{Sts, New, Operate, If, Atomic, ReturnWith, no_st, also_st}
use Rattle.rp_lang.specs.Programs.{Rt, Inv, Proc, Prog}
use Rattle.rp_lang.specs.Types.{bool_ty}
use Rattle.rp_lang.specs.FirstForm.{bool_cons, tx}

abbrev pub span : ℕ → ℕ → Span
span from to = record { from = from; to = to }

-- one expression
abbrev pub one : Ex → Exs
one e = also_ex e no_ex

-- # Parts that the programs share

-- idtype U;
abbrev pub types : TypeTable
types = record {
  atoms = record { name = codes "U"; is_id = true } ∷ [];
  datatypes = record { name = codes "Bool"; cons = 0 ∷ 1 ∷ [] } ∷ [];
}

abbrev pub id : Ty
id = Atom 0

-- crdt users: SetAw[U];
-- crdt posts: SetAw[U];
abbrev pub roots : List Rt
roots = record { name = codes "users"; crdt = SetAw id } ∷ record { name = codes "posts"; crdt = SetAw id } ∷ []

abbrev pub on_set : ℕ → OpKind → OpDecl
on_set root kind = record { root = root; path = []; kind = kind; args = id ∷ [] }

abbrev pub ops : List OpDecl
ops = tx ∷ on_set 0 Add ∷ on_set 0 Remove ∷ on_set 1 Add ∷ on_set 1 Remove ∷ []

abbrev pub contains : ℕ → QueryDecl
contains root = record { root = root; path = []; kind = Contains; args = id ∷ []; result = bool_ty }

-- invariant refs: forall u: U :: posts.contains(u) ==> users.contains(u);
abbrev pub refs : Inv
refs = record {
  name = codes "refs";
  at = span 54 125;
  body = All id (Implies (Holds (Query 1 (one (Bound 0)))) (Holds (Query 0 (one (Bound 0)))));
}

-- the body of `add` below, which stands at `from`
abbrev pub adding : ℕ → Sts
adding from =
    also_st (Atomic (span (from + 30) (from + 65))
    (also_st (New (span (from + 39) (from + 49)) 0 0)
    (also_st (Operate (span (from + 50) (from + 63)) 1 (one (Slot 0)))
    no_st)))
    (also_st (ReturnWith (span (from + 68) (from + 77)) (Slot 0))
    no_st)

-- proc add(): U {
--   var u: U;
--   atomic { u = new U; users.add(u); }
--   return u;
-- }
abbrev pub add : ℕ → Proc
add from = record {
  name = codes "add";
  at = span from (from + 79);
  end = span (from + 78) (from + 79);
  params = [];
  result = Some id;
  slots = id ∷ [];
  body = adding from;
}

-- the body of `post` below
abbrev pub posting : ℕ → Sts
posting from =
    also_st (Atomic (span (from + 20) (from + 71))
    (also_st (If (span (from + 29) (from + 69)) (Holds (Query 0 (one (Slot 0))))
    (also_st (Operate (span (from + 54) (from + 67)) 3 (one (Slot 0))) no_st)
    no_st)
    no_st))
    no_st

-- proc post(u: U) {
--   atomic { if (users.contains(u)) { posts.add(u); } }
-- }
abbrev pub post : ℕ → Proc
post from = record {
  name = codes "post";
  at = span from (from + 73);
  end = span (from + 72) (from + 73);
  params = id ∷ [];
  result = None;
  slots = id ∷ [];
  body = posting from;
}

-- the body of `remove` below
abbrev pub removing : ℕ → Sts
removing from =
    also_st (Atomic (span (from + 22) (from + 49))
    (also_st (Operate (span (from + 31) (from + 47)) 2 (one (Slot 0))) no_st))
    no_st

-- proc remove(u: U) {
--   atomic { users.remove(u); }
-- }
abbrev pub remove : ℕ → Proc
remove from = record {
  name = codes "remove";
  at = span from (from + 51);
  end = span (from + 50) (from + 51);
  params = id ∷ [];
  result = None;
  slots = id ∷ [];
  body = removing from;
}

-- # The programs

-- a program over two sets of ids, with these invariants and procedures
abbrev pub over_sets : List Inv → List Proc → Prog
over_sets invs procs = record {
  types = types;
  cons = bool_cons;
  roots = roots;
  ops = ops;
  queries = contains 0 ∷ contains 1 ∷ [];
  invs = invs;
  procs = procs;
}

-- Posts are by users: the invariant can break, since a user may be removed while it posts.
abbrev pub removes_users : Prog
removes_users = over_sets (refs ∷ []) (add 126 ∷ post 206 ∷ remove 280 ∷ [])

-- invariant norem: forall c: call, u: U :: !(op(c) == users.remove(u));
abbrev pub norem : Inv
norem = record {
  name = codes "norem";
  at = span 126 195;
  body = All Call (All id (Not (Equal (OpOf (Bound 1)) (OpTerm 2 (one (Bound 0))))));
}

-- The same, but no user is removed.
abbrev pub keeps_users : Prog
keeps_users = over_sets (refs ∷ norem ∷ []) (add 196 ∷ post 276 ∷ [])
