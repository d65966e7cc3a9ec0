-- The parts of a program's signature keep what a signature keeps.
use Rattle.std.proofs.Common.{◌≡◌, true, ℕ, ◌-◌, List, [], ◌++◌, length, refl, sym, ap, ◌∙◌}
use Rattle.std.specs.Prelude.{IsTrue}
use Rattle.std.proofs.lemmas.List.{append-nil}
use Rattle.rp_lang.specs.Programs.{Prog}
use Rattle.rp_lang.specs.WellFormed.{is_well_formed}
use Rattle.rp_logic.specs.declared.sort.FnDecl.{FnDecl}
use Rattle.rp_logic.specs.declared.sort.LogicCon.{LogicCon}
use Rattle.rp_logic.specs.declared.sort.Sort.{Sort}
use Rattle.rp_logic.specs.Signatures.{are_below, is_signature}
use Rattle.rp_symbols.specs.Signatures.{sorts_of, const_decls, fn_decls, rel_decls, con_decls, sig_of, with_path}
use Rattle.well_sorted.specs.Symbols.{is_kept}

abbrev pub Law : Type 0
Law = (p : Prog) (views reads : ℕ) (consts : List ℕ) → IsTrue (is_well_formed p) → IsTrue (are_below (length (sorts_of p)) consts)
    → IsTrue (is_kept (with_path p consts reads (sig_of p views)))

pub parts_kept : Law → (p : Prog) (views begins : ℕ) (sorts : List Sort) (consts : List ℕ) (fns : List FnDecl) (rels : List (List ℕ)) (cons : List LogicCon) → IsTrue (is_well_formed p)
    → begins ≡ views - 1 → sorts ≡ sorts_of p → consts ≡ const_decls views → fns ≡ fn_decls p begins → rels ≡ rel_decls p begins → cons ≡ con_decls p
    → is_signature sorts consts fns rels cons ≡ true
parts_kept law p views begins sorts consts fns rels cons w b s k f r d =
    let made = λ (s : List Sort) (k : List ℕ) (f : List FnDecl) (r : List (List ℕ)) (d : List LogicCon). is_signature s k f r d in
    ap (λ s. made s consts fns rels cons) s
    ∙ (ap (λ k. made (sorts_of p) k fns rels cons) (k ∙ sym (append-nil (const_decls views)))
    ∙ (ap (λ f. made (sorts_of p) (const_decls views ++ []) f rels cons) (f ∙ (ap (fn_decls p) b ∙ sym (append-nil (fn_decls p (views - 1)))))
    ∙ (ap (λ r. made (sorts_of p) (const_decls views ++ []) (fn_decls p (views - 1) ++ []) r cons) (r ∙ (ap (rel_decls p) b ∙ sym (append-nil (rel_decls p (views - 1)))))
    ∙ (ap (λ d. made (sorts_of p) (const_decls views ++ []) (fn_decls p (views - 1) ++ []) (rel_decls p (views - 1) ++ []) d) d ∙ law p views 0 [] w refl))))
