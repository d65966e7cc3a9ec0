-- The terms that a node names are known.
use Rattle.std.proofs.Common.{◌≡◌, List, [], ◌∷◌, ◌++◌, Bool, true, false, ◌&&◌, ◌||◌, ◌≢◌, eqb, refl, ap, ap₂, sym, ◌∙◌}
use Rattle.std.proofs.lemmas.Bool.{ne_eqb}
use Rattle.std.specs.Prelude.{flat_map}
use Rattle.std.specs.List.{list_all}
use Rattle.rp_logic.specs.Terms.{Tm, Tms, no_tm, also_tm, At}
use Rattle.rp_logic.specs.Signatures.{Signature}
use Rattle.rp_logic.specs.Views.{tms_of}
use Rattle.refute_defs.specs.Branches.{Branch}
use Rattle.refute_defs.specs.Parts.{atom_args}
use Rattle.refute_defs.specs.Uses.{Use}
use Rattle.spent_defs.specs.Ranks.{Ranked, terms_list}
use Rattle.spent_defs.specs.Conditions.{is_known, names_known_terms}
use Rattle.spent_tests.specs.means.Parts.{all_known, atoms_known}

and_assoc : (a b c : Bool) → a && (b && c) ≡ (a && b) && c
and_assoc true b c = refl
and_assoc false b c = refl

all_both : (p : Tm → Bool) (xs ys : List Tm) → list_all p (xs ++ ys) ≡ list_all p xs && list_all p ys
all_both p [] ys = refl
all_both p (x ∷ xs) ys = ap (λ b. p x && b) (all_both p xs ys) ∙ and_assoc (p x) (list_all p xs) (list_all p ys)

listed_known : (S : Signature) (b : Branch) (ts : List Tm) → list_all (is_known S b) ts ≡ all_known S b (tms_of ts)
listed_known S b [] = refl
listed_known S b (t ∷ ts) = ap (λ x. is_known S b t && x) (listed_known S b ts)

args_known : (S : Signature) (b : Branch) (ts : Tms) → list_all (is_known S b) (terms_list ts) ≡ all_known S b ts
args_known S b no_tm = refl
args_known S b (also_tm t ts) = ap (λ x. is_known S b t && x) (args_known S b ts)

known_atoms : (S : Signature) (b : Branch) (ats : List At)
    → list_all (is_known S b) (flat_map (λ a. terms_list (atom_args a)) ats) ≡ atoms_known S b ats
known_atoms S b [] = refl
known_atoms S b (a ∷ ats) =
    all_both (is_known S b) (terms_list (atom_args a)) (flat_map (λ c. terms_list (atom_args c)) ats)
    ∙ ap₂ (λ x y. x && y) (args_known S b (atom_args a)) (known_atoms S b ats)

pub known_terms : (S : Signature) (b : Ranked) (u : Use) → names_known_terms S b u
    ≡ eqb u.rule 4 || (all_known S b.branch (tms_of u.terms) && atoms_known S b.branch u.atoms)
known_terms S b u =
    ap (λ x. eqb u.rule 4 || x)
    (all_both (is_known S b.branch) u.terms (flat_map (λ a. terms_list (atom_args a)) u.atoms)
    ∙ ap₂ (λ x y. x && y) (listed_known S b.branch u.terms) (known_atoms S b.branch u.atoms))

pub known_unless_new : (S : Signature) (b : Ranked) (u : Use) (r : Bool) → u.rule ≢ 4
    → r ≡ all_known S b.branch (tms_of u.terms) && atoms_known S b.branch u.atoms
    → r ≡ names_known_terms S b u
known_unless_new S b u r h e =
    e ∙ ap (λ x. x || (all_known S b.branch (tms_of u.terms) && atoms_known S b.branch u.atoms))
    (sym (ne_eqb u.rule 4 h))
    ∙ sym (known_terms S b u)
