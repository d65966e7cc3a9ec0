-- What the nodes of a counted tree keep, beside their rules.
use Rattle.std.specs.Prelude.{ℕ, suc, pos, negsuc, Bool, true, false, not, ◌&&◌, ◌||◌, ◌==◌, nat_le, nat_lt, List, [], ◌∷◌, length, Option, Some}
use Rattle.std.specs.List.{list_all, list_any, range_with_len}
use Rattle.std.specs.Ordering.{int_eq}
use Rattle.rp_logic.specs.Terms.{Tm, Const, Con, At, Equal, Le}
use Rattle.rp_logic.specs.Formulas.{Fm, And, All, Ex, Lit}
use Rattle.rp_logic.specs.Signatures.{Signature}
use Rattle.refute_defs.specs.Uses.{Use}
use Rattle.refute_defs.specs.Additions.{Addition}
use Rattle.refute_defs.specs.Branches.{Branch, formula_at}
use Rattle.refute_defs.specs.Same.{same_tm}
use Rattle.spent_defs.specs.Standing.{standing, stands}
use Rattle.spent_defs.specs.Matching.{matches_plainly}
use Rattle.spent_defs.specs.Ranks.{Ranked, ranked, named_terms, rank_of}
use Rattle.spent_defs.specs.Complete.{is_on, all_on, has_body, is_instance_there, is_complete}

-- # At each node

-- the term stands on the branch, or is a constant of the signature
abbrev pub is_known : Signature → Branch → Tm → Bool
is_known S b (Const c) = nat_lt c (length S.consts) || stands b (Const c)
is_known S b t = stands b t

-- Each term that the node names is known. The constant of rule 4 is new.
abbrev pub names_known_terms : Signature → Ranked → Use → Bool
names_known_terms S b u = u.rule == 4 || list_all (is_known S b.branch) (named_terms u)

-- # At each counted node

-- The nodes that are counted: an instance, a new constant, a cut, a case split, and a split of two
-- or more parts.
abbrev pub is_counted : Use → List Addition → Bool
is_counted u adds =
    u.rule == 3 || u.rule == 4 || u.rule == 5 || u.rule == 14
    || (u.rule == 2 && nat_le 2 (length adds))

-- what it adds wasn't there
abbrev pub adds_new : Branch → List Addition → Bool
adds_new b adds = list_all (λ a. not (is_on b a.formula)) adds

-- the conjuncts of each `And` are there
abbrev pub has_conjuncts : Branch → Fm → Bool
has_conjuncts b (And parts) = all_on b parts
has_conjuncts b _ = true

-- a literal whose negation is there too
abbrev pub is_in_clash : Branch → Fm → Bool
is_in_clash b (Lit sign a) = is_on b (Lit (not sign) a)
is_in_clash b _ = false

-- no conjunct is put off, and no clash is passed over
abbrev pub is_settled : Branch → Bool
is_settled b = list_all (λ f. has_conjuncts b f && not (is_in_clash b f)) b.formulas

-- # By the rule of the node

-- of a universal of rank r the instances up to rank n by terms that match it plainly are there
abbrev pub has_plain_instances : Signature → Ranked → ℕ → ℕ → Fm → Bool
has_plain_instances S b n r (All sort body) =
    list_all (λ t. not (matches_plainly S b.branch sort body t)
    || is_instance_there S b n r sort body t) (standing b.branch)
has_plain_instances S b n r _ = true

abbrev pub has_all_plain_instances : Signature → Ranked → ℕ → Bool
has_all_plain_instances S b n = list_all (λ x. has_plain_instances S b n x.1 x.0) (ranked b)

-- the formula is a universal that the term matches plainly
abbrev pub is_plainly_matched : Signature → Branch → Tm → Option Fm → Bool
is_plainly_matched S b t (Some (All sort body)) = matches_plainly S b sort body t
is_plainly_matched S b t _ = false

-- 3: the term matches plainly, or every plain instance up to the node's rank is there
abbrev pub is_instance_due : Signature → Ranked → Use → List ℕ → List Tm → Bool
is_instance_due S b u (p ∷ []) (t ∷ []) =
    is_plainly_matched S b.branch t (formula_at b.branch p)
    || has_all_plain_instances S b (rank_of b u)
is_instance_due S b u _ _ = false

-- 4: its existential has no body with a constant yet
abbrev pub lacks_body : Signature → Branch → Option Fm → Bool
lacks_body S b (Some (Ex sort body)) = not (has_body S b sort body)
lacks_body S b _ = false

abbrev pub is_constant_due : Signature → Ranked → List ℕ → Bool
is_constant_due S b (p ∷ []) = lacks_body S b.branch (formula_at b.branch p)
is_constant_due S b _ = false

-- 5: the number of an order is 0 or -1
abbrev pub has_small_number : At → Bool
has_small_number (Le a b k) = int_eq k (pos 0) || int_eq k (negsuc 0)
has_small_number _ = true

abbrev pub is_built : Tm → Bool
is_built (Con con ts) = true
is_built _ = false

-- 14: the formula says that the term isn't a term of a constructor
abbrev pub denies : Tm → Fm → Bool
denies t (Lit false (Equal a b)) = (same_tm t a && is_built b) || (same_tm t b && is_built a)
denies t _ = false

abbrev pub is_denied_constructor : Branch → List Tm → Bool
is_denied_constructor b (t ∷ []) = list_any (denies t) b.formulas
is_denied_constructor b _ = false

abbrev pub is_due : Signature → ℕ → Ranked → Use → Bool
is_due S depth b u =
    (not (u.rule == 3) || is_instance_due S b u u.places u.terms)
    && (not (u.rule == 4) || is_constant_due S b u.places)
    && (not (u.rule == 5) || (list_all has_small_number u.atoms && is_complete S b depth))
    && (not (u.rule == 14) || is_denied_constructor b.branch u.terms || is_complete S b depth)

-- # Its rank

-- the rank isn't above r + 1, or the branch is complete to r
abbrev pub waits_for : Signature → Ranked → ℕ → ℕ → Bool
waits_for S b rank r = nat_le rank (suc r) || is_complete S b r

-- not above the depth, nor above r + 1 while the branch isn't complete to r, for any r below it
abbrev pub is_rank_due : Signature → ℕ → Ranked → ℕ → Bool
is_rank_due S depth b rank =
    nat_le rank depth && list_all (waits_for S b rank) (range_with_len 0 depth)

-- # Both

abbrev pub keeps_if_counted : Signature → ℕ → Ranked → Use → List Addition → Bool
keeps_if_counted S depth b u adds =
    adds_new b.branch adds && is_settled b.branch && is_due S depth b u
    && is_rank_due S depth b (rank_of b u)

-- the node keeps what a counted tree asks, where it adds this for its children
abbrev pub keeps : Signature → ℕ → Ranked → Use → List Addition → Bool
keeps S depth b u adds =
    names_known_terms S b u && (not (is_counted u adds) || keeps_if_counted S depth b u adds)
