-- Well-formed programs: all numbers in range, well typed, with names that differ, and within the limits.
use Rattle.std.specs.Prelude.{Bool, true, false, ◌&&◌, ◌||◌, nat_lt, nat_le, List, [], ◌∷◌, length, Option, is_none}
use Rattle.std.specs.List.{list_all}
use Rattle.std.specs.Option.{option_map_or}
use Rattle.rp_value.specs.declared.tables.Ty.{Ty}
use Rattle.rp_value.specs.declared.tables.TypeTable.{TypeTable}
use Rattle.rp_lang.specs.declared.op.OpDecl.{OpDecl}
use Rattle.rp_lang.specs.Programs.{Rt, Inv, Proc, Prog}
use Rattle.rp_lang.specs.Sizes.{sts_count}
use Rattle.rp_lang.specs.Types.{same_ty, is_ordinary, are_ordinary, are_tables}
use Rattle.rp_lang.specs.Paths.{is_crdt, is_op, is_query, is_tx}
use Rattle.rp_lang.specs.Typing.{Frame, in_invariant}
use Rattle.rp_lang.specs.Flow.{all_return}
use Rattle.rp_lang.specs.Blocks.{is_condition, are_stmts}
use Rattle.rp_lang.specs.Names.{have_names}

-- # Roots, operations and queries

abbrev pub are_roots : TypeTable → List Rt → Bool
are_roots types roots = nat_le (length roots) 64 && list_all (λ root. is_crdt types root.crdt) roots

-- `tx`, and at most 256 operations of roots
abbrev pub are_ops : List Rt → List OpDecl → Bool
are_ops roots [] = false
are_ops roots (op ∷ ops) = is_tx op && nat_le (length ops) 256 && list_all (is_op roots) ops

abbrev pub are_queries : Prog → Bool
are_queries p = list_all (is_query p.types p.cons p.roots) p.queries

-- # Invariants and procedures

abbrev pub is_invariant : Prog → Inv → Bool
is_invariant p inv = is_condition p in_invariant inv.body

abbrev pub are_invs : Prog → Bool
are_invs p = nat_le (length p.invs) 64 && list_all (is_invariant p) p.invs

-- the list begins with these types
abbrev pub begins : List Ty → List Ty → Bool
begins [] tys = true
begins (t ∷ ts) [] = false
begins (t ∷ ts) (u ∷ tys) = same_ty u t && begins ts tys

-- at the start of a procedure its parameters have values, and nothing else
abbrev pub at_start : Proc → Frame
at_start q = record {
  slots = q.slots;
  set = λ s. nat_lt s (length q.params);
  fixed = λ s. nat_lt s (length q.params);
  reads = false;
  speaks = false;
  result = q.result;
}

abbrev pub is_result : TypeTable → Option Ty → Bool
is_result types result = option_map_or (is_ordinary types) result true

abbrev pub has_body : Prog → Proc → Bool
has_body p q = are_stmts p (at_start q) q.body

-- where there is a result every path returns
abbrev pub returns_a_value : Proc → Bool
returns_a_value q = is_none q.result || all_return q.body

-- the first slots are the parameters, slots and result are of types of data, and at most 200 statements are well typed
abbrev pub is_procedure : Prog → Proc → Bool
is_procedure p q =
    begins q.params q.slots
    && are_ordinary p.types q.slots
    && is_result p.types q.result
    && nat_le (sts_count q.body) 200
    && has_body p q
    && returns_a_value q

abbrev pub are_procs : Prog → Bool
are_procs p = nat_le (length p.procs) 64 && list_all (is_procedure p) p.procs

-- # The whole program

abbrev pub is_well_formed : Prog → Bool
is_well_formed p =
    are_tables p.types p.cons
    && are_roots p.types p.roots
    && are_ops p.roots p.ops
    && are_queries p
    && are_invs p
    && are_procs p
    && have_names p
