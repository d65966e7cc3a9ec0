-- Branches that are complete to a depth: all that their formulas up to that rank ask for is there.
use Rattle.std.specs.Prelude.{ℕ, Bool, true, false, not, ◌&&◌, ◌||◌, nat_le, []}
use Rattle.std.specs.List.{list_all, list_any}
use Rattle.rp_logic.specs.Terms.{Tm, Const}
use Rattle.rp_logic.specs.Formulas.{Fm, And, Or, All, Ex, Lit, Fms, no_fm, also_fm}
use Rattle.rp_logic.specs.Signatures.{Signature}
use Rattle.rp_logic.specs.Sorted.{has_sort}
use Rattle.rp_logic.specs.Instance.{instance}
use Rattle.refute_defs.specs.Branches.{Branch}
use Rattle.spent_defs.specs.SameFormulas.{same_fm}
use Rattle.spent_defs.specs.Standing.{standing}
use Rattle.spent_defs.specs.Atoms.{uses_var}
use Rattle.spent_defs.specs.Ranks.{Ranked, ranked, term_rank, instance_rank}

-- the formula is on the branch
abbrev pub is_on : Branch → Fm → Bool
is_on b f = list_any (same_fm f) b.formulas

abbrev pub all_on : Branch → Fms → Bool
all_on b no_fm = true
all_on b (also_fm f fs) = is_on b f && all_on b fs

abbrev pub some_on : Branch → Fms → Bool
some_on b no_fm = false
some_on b (also_fm f fs) = is_on b f || some_on b fs

-- the body with the term is on the branch
abbrev pub instance_on : Branch → Fm → Tm → Bool
instance_on b body t = is_on b (instance t body)

abbrev pub is_constant : Tm → Bool
is_constant (Const c) = true
is_constant _ = false

-- the term is a constant of the sort, with which the body is on the branch
abbrev pub gives_body : Signature → Branch → ℕ → Fm → Tm → Bool
gives_body S b sort body t =
    is_constant t && has_sort S b.added [] sort t && instance_on b body t

-- A body of the existential with a constant of its sort is on the branch. A body in which its
-- variable doesn't stand is the same with each constant.
abbrev pub has_body : Signature → Branch → ℕ → Fm → Bool
has_body S b sort body =
    list_any (gives_body S b sort body) (standing b)
    || (not (uses_var body) && instance_on b body (Const 0))

-- The instance by the term, of a universal of rank r, is on the branch, unless the term has another
-- sort or the instance would have a rank above n.
abbrev pub is_instance_there : Signature → Ranked → ℕ → ℕ → ℕ → Fm → Tm → Bool
is_instance_there S b n r sort body t =
    not (has_sort S b.branch.added [] sort t)
    || not (nat_le (instance_rank r (term_rank b t)) n)
    || instance_on b.branch body t

-- What the formula, which has rank r, asks for up to rank n is on the branch: of an `And` every
-- conjunct, of an `Or` one disjunct, of an `Ex` a body with a constant, of an `All` the instances by
-- the terms that stand there.
abbrev pub is_met : Signature → Ranked → ℕ → ℕ → Fm → Bool
is_met S b n r (And parts) = all_on b.branch parts
is_met S b n r (Or parts) = some_on b.branch parts
is_met S b n r (Ex sort body) = has_body S b.branch sort body
is_met S b n r (All sort body) = list_all (is_instance_there S b n r sort body) (standing b.branch)
is_met S b n r (Lit sign atom) = true

-- The branch is complete to n.
abbrev pub is_complete : Signature → Ranked → ℕ → Bool
is_complete S b n = list_all (λ x. not (nat_le x.1 n) || is_met S b n x.1 x.0) (ranked b)
