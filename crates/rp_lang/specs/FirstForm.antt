-- Programs over truth values: procedures of `Bool` parameters that branch and assert, and nothing else.
use Rattle.std.specs.Prelude.{◌≡◌, IsTrue, ℕ, Bool, true, false, not, ◌&&◌, ◌==◌, nat_eq, nat_lt, nat_le, is_none, List, [], ◌∷◌, length, map, codes}
use Rattle.std.specs.Cmp.Lexicographic.{pointwise}
use Rattle.std.specs.List.{list_all, list_any}
use Rattle.rp_value.specs.declared.tables.Ty.{Ty}
use Rattle.rp_value.specs.declared.tables.Ty.TheVariants.{Datatype}
use Rattle.rp_value.specs.declared.tables.TypeTable.{TypeTable}
use Rattle.rp_value.specs.declared.tables.ConTable.{ConTable}
use Rattle.rp_lang.specs.declared.op.OpDecl.{OpDecl}
use Rattle.rp_lang.specs.declared.op.OpKind.TheVariants.{Tx}
use Rattle.rp_lang.specs.Exprs.{Ex, Slot, Con, no_ex}
use Rattle.rp_lang.specs.Formulas.{Fo, And, Or, Not, Implies, Holds, Fos, no_fo, also_fo}
use Rattle.rp_lang.specs.Stmts.{St, Assert, If, Sts, no_st, also_st}
use Rattle.rp_lang.specs.Programs.{Proc, Prog}
use Rattle.rp_lang.specs.Sizes.{fo_depth, fo_nodes, sts_count}

-- # What every such program has

abbrev pub bool_types : TypeTable
bool_types = record { atoms = []; datatypes = record { name = codes "Bool"; cons = 0 ∷ 1 ∷ [] } ∷ [] }

abbrev pub bool_cons : ConTable
bool_cons = record {
  cons = record { name = codes "false"; of = 0; fields = [] } ∷ record { name = codes "true"; of = 0; fields = [] } ∷ [];
}

abbrev pub tx : OpDecl
tx = record { root = 0; path = []; kind = Tx; args = [] }

-- the program of these procedures
abbrev pub over_truth_values : List Proc → Prog
over_truth_values procs = record {
  types = bool_types;
  cons = bool_cons;
  roots = [];
  ops = tx ∷ [];
  queries = [];
  invs = [];
  procs = procs;
}

-- # Its procedures

abbrev pub is_bool : Ty → Bool
is_bool (Datatype n) = n == 0
is_bool _ = false

-- a parameter, or `false` or `true`
abbrev pub is_truth : ℕ → Ex → Bool
is_truth params (Slot s) = nat_lt s params
is_truth params (Con con no_ex) = nat_lt con 2
is_truth params _ = false

abbrev pub has_two : Fos → Bool
has_two (also_fo f (also_fo g fs)) = true
has_two _ = false

-- made of truths by connectives, and each `And` and `Or` has two parts or more
abbrev mutual
  pub is_propositional : ℕ → Fo → Bool
  is_propositional params (And parts) = has_two parts && are_propositional params parts
  is_propositional params (Or parts) = has_two parts && are_propositional params parts
  is_propositional params (Not f) = is_propositional params f
  is_propositional params (Implies a b) = is_propositional params a && is_propositional params b
  is_propositional params (Holds e) = is_truth params e
  is_propositional params _ = false

  pub are_propositional : ℕ → Fos → Bool
  are_propositional params no_fo = true
  are_propositional params (also_fo f fs) = is_propositional params f && are_propositional params fs

abbrev pub is_condition : ℕ → Fo → Bool
is_condition params f = nat_le (fo_depth f) 64 && nat_le (fo_nodes f) 100000 && is_propositional params f

abbrev mutual
  pub is_checking : ℕ → St → Bool
  is_checking params (Assert at f) = is_condition params f
  is_checking params (If at f then_ else_) = is_condition params f && are_checking params then_ && are_checking params else_
  is_checking params _ = false

  pub are_checking : ℕ → Sts → Bool
  are_checking params no_st = true
  are_checking params (also_st s ss) = is_checking params s && are_checking params ss

-- its slots are its parameters
abbrev pub has_bool_slots : Proc → Bool
has_bool_slots p =
    nat_le (length p.params) 8 && list_all is_bool p.params && is_none p.result
    && length p.slots == length p.params && list_all is_bool p.slots

abbrev pub has_few_statements : Sts → Bool
has_few_statements body = nat_le (sts_count body) 200

abbrev pub is_over_truth_values : Proc → Bool
is_over_truth_values p = has_bool_slots p && has_few_statements p.body && are_checking (length p.params) p.body

abbrev pub are_distinct : List (List ℕ) → Bool
are_distinct [] = true
are_distinct (name ∷ names) = not (list_any (pointwise nat_eq name) names) && are_distinct names

abbrev pub names : List Proc → List (List ℕ)
names procs = map (λ p. p.name) procs

abbrev pub are_over_truth_values : List Proc → Bool
are_over_truth_values procs =
    nat_le (length procs) 64 && list_all is_over_truth_values procs && are_distinct (names procs)

-- # The whole program

pub record IsFirstForm (p : Prog) : Type 0 where
  pub parts : p ≡ over_truth_values p.procs
  pub procs : IsTrue (are_over_truth_values p.procs)
