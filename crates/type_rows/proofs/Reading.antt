-- A row by computation: the token machine gives the text's tree, and the tree its first fault.
use Rattle.std.proofs.Common.{◌≡◌, ℕ, List, [], Option, Some, None, refl, subst}
use Rattle.rp_grammar.specs.Terminals.{Tok}
use Rattle.rp_grammar.specs.Trees.{DeclTree}
use Rattle.rp_grammar.specs.Texts.{IsTextWithin}
use Rattle.rp_grammar.proofs.Computed.{toks_of, has_toks}
use Rattle.rp_tokens.specs.MachineStates.{in_decls}
use Rattle.rp_tokens.specs.Machine.{done, stuck, Bounded, whole, deep, bounded}
use Rattle.rp_tokens.proofs.Places.{found_tree}
use Rattle.type_rules.specs.declared.fault.Fault.{Fault}
use Rattle.type_rules.specs.Faults.{IsFirstFault, first_fault}
use Rattle.type_rules.proofs.Least.{fault_least}
use Rattle.type_rows.specs.Rows.{Breaks, Keeps, fault}

abbrev fault_of : Bounded → Option (Option Fault)
fault_of (whole (done tree)) = Some (first_fault tree)
fault_of (whole (stuck ts)) = None
fault_of (deep ts) = None

abbrev fault_in : Option (List Tok) → Option (Option Fault)
fault_in None = None
fault_in (Some ts) = fault_of (bounded 64 (in_decls []) ts)

-- the first fault of a text without strings
abbrev judged_text : List ℕ → Option (Option Fault)
judged_text text = fault_in (toks_of text)

abbrev IsJudged : List ℕ → Option Fault → Type 0
IsJudged text f = (tree : List DeclTree) × IsTextWithin 64 text tree × IsFirstFault tree f

some_same : {X : Type 0} (x y : X) → Some x ≡ Some y → x ≡ y
some_same x y h = cc

judged_tree : (text : List ℕ) (ts : List Tok) (b : Bounded) (f : Option Fault) → toks_of text ≡ Some ts → bounded 64 (in_decls []) ts ≡ b → fault_of b ≡ Some f → IsJudged text f
judged_tree text ts (whole (done tree)) f e g h = (tree, (ts, has_toks text ts e, found_tree 64 ts tree g), subst (IsFirstFault tree) (some_same (first_fault tree) f h) (fault_least tree))
judged_tree text ts (whole (stuck us)) f e g h = cc
judged_tree text ts (deep us) f e g h = cc

judged : (text : List ℕ) (o : Option (List Tok)) (f : Option Fault) → toks_of text ≡ o → fault_in o ≡ Some f → IsJudged text f
judged text None f e h = cc
judged text (Some ts) f e h = judged_tree text ts (bounded 64 (in_decls []) ts) f e refl h

pub breaks : (text : List ℕ) (rule from to : ℕ) → judged_text text ≡ Some (Some (fault rule from to)) → Breaks text rule from to
breaks text rule from to h = judged text (toks_of text) (Some (fault rule from to)) refl h

pub keeps : (text : List ℕ) → judged_text text ≡ Some None → Keeps text
keeps text h = judged text (toks_of text) None refl h
