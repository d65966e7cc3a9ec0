-- A program with a set and a register, a state of it, and formulas for the worked rows on truth.
use Rattle.std.specs.Prelude.{ℕ, pos, Bool, true, false, nat_lt, List, [], ◌∷◌, codes, Some}
use Rattle.rp_span.specs.declared.Span.{Span}
use Rattle.rp_value.specs.declared.tables.Ty.TheVariants as ty
use Rattle.rp_value.specs.Values.{Atom}
use Rattle.rp_lang.specs.declared.op.OpKind.TheVariants.{Tx, Add, Remove, Assign}
use Rattle.rp_lang.specs.declared.query.QueryKind.TheVariants.{Contains, GetReg}
use Rattle.rp_lang.specs.Crdts.{SetAw, Reg}
use Rattle.rp_lang.specs.Exprs as ex
use Rattle.rp_lang.specs.Exprs.{Ex, Exs, no_ex, also_ex}
use Rattle.rp_lang.specs.Formulas.{Fo, And, All, Any, Holds, Match, no_fo, also_fo, no_arm, also_arm}
use Rattle.rp_lang.specs.Stmts.{no_st}
use Rattle.rp_lang.specs.Programs.{Prog}
use Rattle.crdt_defs.specs.Calls.{Call}
use Rattle.crdt_defs.specs.Parts.{Parts, ReturnedWith, Returned, Unreturned}
use Rattle.crdt_defs.specs.Truths.{truth}

abbrev pub nowhere : Span
nowhere = record { from = 0; to = 0 }

-- idtype U; crdt users: SetAw[U]; crdt last: Reg[U]; and a procedure p(u: U): U.
-- Constructors 2 and 3 are `none` and `some` of `Maybe[U]`.
abbrev pub program : Prog
program = record {
  types = record {
    atoms = record { name = codes "U"; is_id = true } ∷ [];
    datatypes = record { name = codes "Bool"; cons = 0 ∷ 1 ∷ [] } ∷ record { name = codes "Maybe[U]"; cons = 2 ∷ 3 ∷ [] } ∷ [];
  };
  cons = record {
    cons =
        record { name = codes "false"; of = 0; fields = [] }
        ∷ record { name = codes "true"; of = 0; fields = [] }
        ∷ record { name = codes "none"; of = 1; fields = [] }
        ∷ record { name = codes "some"; of = 1; fields = ty.Atom 0 ∷ [] }
        ∷ [];
  };
  roots = record { name = codes "users"; crdt = SetAw (ty.Atom 0) } ∷ record { name = codes "last"; crdt = Reg (ty.Atom 0) } ∷ [];
  ops =
      record { root = 0; path = []; kind = Tx; args = [] }
      ∷ record { root = 0; path = []; kind = Add; args = ty.Atom 0 ∷ [] }
      ∷ record { root = 0; path = []; kind = Remove; args = ty.Atom 0 ∷ [] }
      ∷ record { root = 1; path = []; kind = Assign; args = ty.Atom 0 ∷ [] }
      ∷ [];
  queries =
      record { root = 0; path = []; kind = Contains; args = ty.Atom 0 ∷ []; result = ty.Datatype 0 }
      ∷ record { root = 1; path = []; kind = GetReg; args = []; result = ty.Datatype 1 }
      ∷ [];
  invs = [];
  procs =
      record {
        name = codes "p";
        at = nowhere;
        end = nowhere;
        params = ty.Atom 0 ∷ [];
        result = Some (ty.Atom 0);
        slots = ty.Atom 0 ∷ [];
        body = no_st;
      }
      ∷ [];
}

-- Transaction 0 adds U#0 and transaction 1, which sees it, assigns U#0. Transaction 2, which sees 0 too, is open.
-- Each is of the invocation of its number, of which the first has returned U#0, the second has returned, and the third
-- has failed.
abbrev pub calls : List Call
calls =
    record { op = 0; args = []; inv = 0; tx = 0; stamp = 0; past = [] }
    ∷ record { op = 1; args = Atom 0 0 ∷ []; inv = 0; tx = 0; stamp = 1; past = 0 ∷ [] }
    ∷ record { op = 0; args = []; inv = 1; tx = 1; stamp = 2; past = 0 ∷ 1 ∷ [] }
    ∷ record { op = 3; args = Atom 0 0 ∷ []; inv = 1; tx = 1; stamp = 3; past = 0 ∷ 1 ∷ 2 ∷ [] }
    ∷ record { op = 0; args = []; inv = 2; tx = 2; stamp = 4; past = 0 ∷ 1 ∷ [] }
    ∷ []

abbrev pub parts : ℕ → Parts
parts universe = record {
  universe = universe;
  calls = calls;
  committed = true ∷ true ∷ false ∷ [];
  infos =
      record { proc = 0; args = Atom 0 0 ∷ []; result = ReturnedWith (Atom 0 0) }
      ∷ record { proc = 0; args = Atom 0 0 ∷ []; result = Returned }
      ∷ record { proc = 0; args = Atom 0 0 ∷ []; result = Unreturned }
      ∷ [];
}

-- the truth of a formula where the universe has so many identifiers and the first so many calls are visible
abbrev pub holds : ℕ → ℕ → Fo → Bool
holds universe visible f = truth (record { program = program; parts = parts universe; visible = λ c. nat_lt c visible; slots = [] }) [] f

-- # Formulas. The innermost variable is number 0.

abbrev pub one : Ex → Exs
one e = also_ex e no_ex

abbrev pub each_id : Fo → Fo
each_id body = All (ty.Atom 0) body

abbrev pub each_call : Fo → Fo
each_call body = All ty.Call body

abbrev pub some_call : Fo → Fo
some_call body = Any ty.Call body

abbrev pub some_inv : Fo → Fo
some_inv body = Any ty.Inv body

abbrev pub x : ℕ → Ex
x n = ex.Bound n

-- users.contains(x)
abbrev pub is_user : Ex → Fo
is_user e = Holds (ex.Query 0 (one e))

-- last.get()
abbrev pub last : Ex
last = ex.Query 1 no_ex

abbrev pub some_of : Ex → Ex
some_of e = ex.Con 3 (one e)

-- match (last.get()) { none => first, some(v) => second }
abbrev pub by_last : Fo → Fo → Fo
by_last first second = Match last (also_arm 2 first (also_arm 3 second no_arm))

abbrev pub both : Fo → Fo → Fo
both f g = And (also_fo f (also_fo g no_fo))

-- users.add(x)
abbrev pub add : Ex → Ex
add e = ex.OpTerm 1 (one e)

abbrev pub greatest : Ex
greatest = ex.Int (pos 9223372036854775807)
