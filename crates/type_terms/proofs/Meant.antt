-- What an access is by what its root's name stands for, is what it is.
use Rattle.std.proofs.Common.{◌≡◌, List, Option, Some, None, refl, sym, ap, ◌∙◌}
use Rattle.rp_grammar.specs.Trees.{Ident, AccessTree, StepTrees}
use Rattle.rp_ast.specs.View.{access_view}
use Rattle.rp_ast.specs.declared.expr.AccessNode.{AccessNode}
use Rattle.rp_ast.specs.declared.expr.AccessStep.TheViews.{out-AccessNode}
use Rattle.rp_ast.proofs.ExprViews.{access_view-parts}
use Rattle.type_rules.specs.Names.{Names, Entry, entry_named, text_of}
use Rattle.type_rules.specs.Accesses.{Var, access_of, find_var, of_entry, of_name}
use Rattle.type_rules.specs.Rules.{root_of}
use Rattle.type_terms.specs.Meanings.{access_by, meaning_of, meant, of_meaning}

entry_meant : (n : Names) (x : Ident) (steps : StepTrees) (e : Option Entry)
    → of_meaning n x steps (meant None e) ≡ of_entry n x steps e
entry_meant n x steps (Some e) = refl
entry_meant n x steps None = refl

name_meant : (n : Names) (x : Ident) (steps : StepTrees) (v : Option Var)
    → of_meaning n x steps (meant v (entry_named n (text_of x))) ≡ of_name n x steps v
name_meant n x steps (Some v) = refl
name_meant n x steps None = entry_meant n x steps (entry_named n (text_of x))

pub access_meant : (n : Names) (vs : List Var) (a : AccessTree)
    → access_by n (meaning_of n vs (text_of (root_of a))) a ≡ access_of n vs a
access_meant n vs (AccessTree.path x steps args) = name_meant n x steps (find_var vs (text_of x))

-- the same of the code's access
pub node_meant : (n : Names) (vs : List Var) (access : AccessNode)
    → access_by n (meaning_of n vs (out-AccessNode access).root.text) (access_view access) ≡ access_of n vs (access_view access)
node_meant n vs access =
    ap (λ t. access_by n (meaning_of n vs (text_of (root_of t))) (access_view access)) (sym (access_view-parts access))
    ∙ access_meant n vs (access_view access)
