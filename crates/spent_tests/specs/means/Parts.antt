-- Parts of conditions, and conditions on each of several.
use Rattle.std.specs.Prelude.{ℕ, Bool, true, false, not, ◌&&◌, ◌||◌, ◌==◌, nat_le, nat_lt, if◌then◌else◌, List, [], ◌∷◌, length}
use Rattle.std.specs.List.{list_all}
use Rattle.rp_logic.specs.Terms.{Tm, Const, Tms, no_tm, also_tm, At}
use Rattle.rp_logic.specs.Formulas.{Fm}
use Rattle.rp_logic.specs.Signatures.{Signature}
use Rattle.refute_defs.specs.Branches.{Branch}
use Rattle.refute_defs.specs.Parts.{atom_args}
use Rattle.refute_defs.specs.Uses.{Use}
use Rattle.spent_defs.specs.Atoms.{uses_var}
use Rattle.spent_defs.specs.Matching.{Likeness, matches_plainly}
use Rattle.spent_defs.specs.Ranks.{Ranked}
use Rattle.spent_defs.specs.Complete.{instance_on, is_instance_there, is_met, is_complete}
use Rattle.spent_defs.specs.Conditions.{is_known, has_conjuncts, is_in_clash, has_small_number, is_denied_constructor, has_plain_instances}

-- u fits the n-th variable
abbrev pub var_fits : Likeness → Tm → ℕ → ℕ → Tm → Bool
var_fits like t k n u = if n == k then like u t else nat_lt n k

-- a body in which its variable doesn't stand is there
abbrev pub has_constant_body : Branch → Fm → Bool
has_constant_body b body = not (uses_var body) && instance_on b body (Const 0)

abbrev pub is_signature_constant : Signature → Tm → Bool
is_signature_constant S (Const c) = nat_lt c (length S.consts)
is_signature_constant S _ = false

abbrev pub all_known : Signature → Branch → Tms → Bool
all_known S b no_tm = true
all_known S b (also_tm t ts) = is_known S b t && all_known S b ts

abbrev pub atoms_known : Signature → Branch → List At → Bool
atoms_known S b [] = true
atoms_known S b (a ∷ ats) = all_known S b (atom_args a) && atoms_known S b ats

abbrev pub is_settled_by : Branch → Fm → Bool
is_settled_by b f = has_conjuncts b f && not (is_in_clash b f)

-- the instance is there, if the term matches plainly
abbrev pub is_plain_there : Signature → Ranked → ℕ → ℕ → ℕ → Fm → Tm → Bool
is_plain_there S b n r sort body t =
    not (matches_plainly S b.branch sort body t) || is_instance_there S b n r sort body t

abbrev pub is_cut_due : Signature → ℕ → Ranked → Use → Bool
is_cut_due S depth b u = list_all has_small_number u.atoms && is_complete S b depth

abbrev pub are_cases_due : Signature → ℕ → Ranked → Use → Bool
are_cases_due S depth b u = is_denied_constructor b.branch u.terms || is_complete S b depth

-- the formula's rank is above n, or what it asks for up to that rank is there
abbrev pub is_met_to : Signature → Ranked → ℕ → Fm × ℕ → Bool
is_met_to S b n x = not (nat_le x.1 n) || is_met S b n x.1 x.0

abbrev pub has_plain_to : Signature → Ranked → ℕ → Fm × ℕ → Bool
has_plain_to S b n x = has_plain_instances S b n x.1 x.0
