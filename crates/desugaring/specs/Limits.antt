-- Which limit a program passes first, in the order in which they are tested.
use Rattle.std.specs.Prelude.{◌≡◌, ℕ, ◌-◌, Bool, false, ◌||◌, not, nat_le, List, [], ◌∷◌, length, find, Option, Some, None, option_map}
use Rattle.std.specs.List.{list_any}
use Rattle.rp_grammar.specs.Trees.{DeclTree}
use Rattle.rp_lang.specs.declared.limit.LimitName.{LimitName}
use Rattle.rp_lang.specs.declared.limit.LimitName.TheVariants.{Depth, Types, ValueParts, Roots, Operations, PathDepth, Procedures, Invariants, Statements, Quantifiers, Nodes}
use Rattle.rp_lang.specs.Limits.{limit_number}
use Rattle.rp_lang.specs.Exprs.{Ex, Exs, no_ex, also_ex}
use Rattle.rp_lang.specs.Formulas.{Fo}
use Rattle.rp_lang.specs.Stmts.{St, Put, Decide, New, Operate, If, Match, Atomic, Assert, Return, ReturnWith, Sts, no_st, also_st, StArms, no_st_arm, also_st_arm}
use Rattle.rp_lang.specs.Programs.{Prog}
use Rattle.rp_lang.specs.Sizes.{ex_depth, ex_nodes, fo_depth, sts_count}
use Rattle.rp_lang.specs.Bounds.{fo_weight, fo_binders}
use Rattle.rp_lang.specs.Types.{has_few_types, are_within_parts}
use Rattle.desugaring.specs.Programs.{IsProgramOf}

-- more than the limit's number
abbrev pub is_past : LimitName → ℕ → Bool
is_past limit count = not (nat_le count (limit_number limit))

-- # Expressions of a program: each condition, value, argument, assertion and invariant is one

-- a test of an expression that is a plain term, and one of a formula
pub record Test : Type 0 where
  pub of_term : Ex → Bool
  pub of_formula : Fo → Bool

abbrev pub some_term : Test → Exs → Bool
some_term test no_ex = false
some_term test (also_ex e es) = test.of_term e || some_term test es

abbrev mutual
  pub some_in : Test → St → Bool
  some_in test (Put at slot e) = test.of_term e
  some_in test (Decide at slot f) = test.of_formula f
  some_in test (New at slot ty) = false
  some_in test (Operate at op args) = some_term test args
  some_in test (If at f then_ else_) = test.of_formula f || some_in_all test then_ || some_in_all test else_
  some_in test (Match at on arms) = test.of_term on || some_in_arms test arms
  some_in test (Atomic at body) = some_in_all test body
  some_in test (Assert at f) = test.of_formula f
  some_in test (Return at) = false
  some_in test (ReturnWith at e) = test.of_term e

  pub some_in_all : Test → Sts → Bool
  some_in_all test no_st = false
  some_in_all test (also_st s ss) = some_in test s || some_in_all test ss

  pub some_in_arms : Test → StArms → Bool
  some_in_arms test no_st_arm = false
  some_in_arms test (also_st_arm con slots body rest) = some_in_all test body || some_in_arms test rest

abbrev pub some_expression : Test → Prog → Bool
some_expression test p =
    list_any (λ inv. test.of_formula inv.body) p.invs || list_any (λ proc. some_in_all test proc.body) p.procs

abbrev pub is_deep : Test
is_deep = record { of_term = λ e. is_past Depth (ex_depth e); of_formula = λ f. is_past Depth (fo_depth f) }

-- a plain term binds nothing
abbrev pub binds_much : Prog → Test
binds_much p = record { of_term = λ e. false; of_formula = λ f. is_past Quantifiers (fo_binders p.cons f) }

-- each use of an arm's variable counts as the nodes of what is matched
abbrev pub is_large : Prog → Test
is_large p = record { of_term = λ e. is_past Nodes (ex_nodes e); of_formula = λ f. is_past Nodes (fo_weight p.cons [] f) }

-- # The limits

pub record Passed : Type 0 where
  pub limit : LimitName
  pub is_passed : Bool

abbrev pub passed : LimitName → Bool → Passed
passed limit is_passed = record { limit = limit; is_passed = is_passed }

abbrev pub has_long_path : Prog → Bool
has_long_path p =
    list_any (λ op. is_past PathDepth (length op.path)) p.ops || list_any (λ query. is_past PathDepth (length query.path)) p.queries

-- all limits on programs, in the order of their tests; operation 0 is `tx`, which isn't counted
abbrev pub limits : Prog → List Passed
limits p =
    passed Depth (some_expression is_deep p)
    ∷ passed Types (not (has_few_types p.types p.cons))
    ∷ passed ValueParts (not (are_within_parts p.types p.cons 0 p.types.datatypes))
    ∷ passed Roots (is_past Roots (length p.roots))
    ∷ passed Operations (is_past Operations (length p.ops - 1))
    ∷ passed PathDepth (has_long_path p)
    ∷ passed Procedures (is_past Procedures (length p.procs))
    ∷ passed Invariants (is_past Invariants (length p.invs))
    ∷ passed Statements (list_any (λ proc. is_past Statements (sts_count proc.body)) p.procs)
    ∷ passed Quantifiers (some_expression (binds_much p) p)
    ∷ passed Nodes (some_expression (is_large p) p)
    ∷ []

abbrev pub first_limit : Prog → Option LimitName
first_limit p = option_map (λ l. l.limit) (find (λ l. l.is_passed) (limits p))

-- # What a tree has

-- a lawful tree's program, which passes no limit
abbrev pub HasProgram : List DeclTree → Prog → Type 0
HasProgram tree p = IsProgramOf tree p × (first_limit p ≡ None)

-- a lawful tree whose program passes this limit first
abbrev pub PassesLimit : List DeclTree → LimitName → Type 0
PassesLimit tree limit = (p : Prog) × IsProgramOf tree p × (first_limit p ≡ Some limit)
