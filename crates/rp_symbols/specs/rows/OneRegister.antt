-- A program with a register of identifiers, and its signature.
use Rattle.std.specs.Prelude.{◌≡◌, true, [], ◌∷◌, codes, Some, slice_get}
use Rattle.rp_span.specs.declared.Span.{Span}
use Rattle.rp_value.specs.declared.tables.Ty.TheVariants as ty
use Rattle.rp_lang.specs.declared.op.OpKind.TheVariants.{Tx, Assign}
use Rattle.rp_lang.specs.declared.query.QueryKind.TheVariants.{GetReg}
use Rattle.rp_lang.specs.Crdts.{Reg}
use Rattle.rp_lang.specs.Stmts.{no_st}
use Rattle.rp_lang.specs.Programs.{Prog}
use Rattle.rp_logic.specs.declared.sort.Sort.TheVariants.{Plain, Int, Str, Datatype}
use Rattle.rp_logic.specs.Signatures.{Signature}
use Rattle.rp_symbols.specs.Numbers.{id_rel, read_rel, val_fn}
use Rattle.rp_symbols.specs.Signatures.{fn_of, con_of, sig_of, with_path}

abbrev pub nowhere : Span
nowhere = record { from = 0; to = 0 }

-- idtype U; crdt last: Reg[U]; and a procedure p(u: U): U.
-- Constructors 2 and 3 are `none` and `some` of `Maybe[U]`.
abbrev pub program : Prog
program = record {
  types = record {
    atoms = record { name = codes "U"; is_id = true } ∷ [];
    datatypes = record { name = codes "Bool"; cons = 0 ∷ 1 ∷ [] } ∷ record { name = codes "Maybe[U]"; cons = 2 ∷ 3 ∷ [] } ∷ [];
  };
  cons = record {
    cons =
        record { name = codes "false"; of = 0; fields = [] }
        ∷ record { name = codes "true"; of = 0; fields = [] }
        ∷ record { name = codes "none"; of = 1; fields = [] }
        ∷ record { name = codes "some"; of = 1; fields = ty.Atom 0 ∷ [] }
        ∷ [];
  };
  roots = record { name = codes "last"; crdt = Reg (ty.Atom 0) } ∷ [];
  ops =
      record { root = 0; path = []; kind = Tx; args = [] }
      ∷ record { root = 0; path = []; kind = Assign; args = ty.Atom 0 ∷ [] }
      ∷ [];
  queries = record { root = 0; path = []; kind = GetReg; args = []; result = ty.Datatype 1 } ∷ [];
  invs = [];
  procs =
      record {
        name = codes "p";
        at = nowhere;
        end = nowhere;
        params = ty.Atom 0 ∷ [];
        result = Some (ty.Atom 0);
        slots = ty.Atom 0 ∷ [];
        body = no_st;
      }
      ∷ [];
}

-- Sorts: calls, invocations, U, numbers, strings, `Bool`, `Maybe[U]`, operations, records, outcomes.
abbrev pub one_begin : Signature
one_begin = record {
  sorts =
      Plain ∷ Plain ∷ Plain ∷ Int ∷ Str ∷ Datatype (0 ∷ 1 ∷ []) ∷ Datatype (2 ∷ 3 ∷ [])
      ∷ Datatype (4 ∷ 5 ∷ []) ∷ Datatype (6 ∷ []) ∷ Datatype (7 ∷ 8 ∷ []) ∷ [];
  consts = 1 ∷ [];
  fns =
      fn_of (0 ∷ []) 7 ∷ fn_of (0 ∷ []) 1 ∷ fn_of (1 ∷ []) 8 ∷ fn_of (1 ∷ []) 9 ∷ fn_of (1 ∷ []) 9
      ∷ fn_of (3 ∷ 3 ∷ []) 3 ∷ fn_of (3 ∷ 3 ∷ []) 3
      ∷ fn_of [] 6 ∷ fn_of [] 6 ∷ fn_of [] 6 ∷ fn_of [] 6 ∷ fn_of [] 6 ∷ [];
  rels =
      (0 ∷ []) ∷ (0 ∷ []) ∷ (1 ∷ []) ∷ (1 ∷ []) ∷ (0 ∷ 0 ∷ []) ∷ (0 ∷ 0 ∷ []) ∷ (0 ∷ 0 ∷ []) ∷ (0 ∷ []) ∷ (0 ∷ [])
      ∷ (0 ∷ 2 ∷ []) ∷ (1 ∷ 2 ∷ []) ∷ (1 ∷ 2 ∷ []) ∷ (0 ∷ []) ∷ (0 ∷ []) ∷ [];
  cons =
      con_of 5 [] ∷ con_of 5 [] ∷ con_of 6 [] ∷ con_of 6 (2 ∷ [])
      ∷ con_of 7 [] ∷ con_of 7 (2 ∷ []) ∷ con_of 8 (2 ∷ []) ∷ con_of 9 [] ∷ con_of 9 (2 ∷ []) ∷ [];
}

-- with one begin
abbrev pub OneBegin : Type 0
OneBegin = sig_of program 2 ≡ one_begin

-- A path's slot and one own call: a constant, a reading set, and what the register gives there.
abbrev pub OwnCall : Type 0
OwnCall =
    (slice_get (with_path program (2 ∷ []) 1 one_begin).consts 1 ≡ Some 2)
    × (slice_get (with_path program (2 ∷ []) 1 one_begin).rels 14 ≡ Some (0 ∷ []))
    × (slice_get (with_path program (2 ∷ []) 1 one_begin).fns (val_fn program 14 0) ≡ Some (fn_of [] 6))

-- the last relation of identifiers, the last one of begins, and what the register gives there
abbrev pub Numbers : Type 0
Numbers =
    (slice_get one_begin.rels (id_rel program 0 2) ≡ Some (1 ∷ 2 ∷ []))
    × (slice_get one_begin.rels (read_rel program 0) ≡ Some (0 ∷ []))
    × (val_fn program (read_rel program 0) 0 ≡ 11)
