-- Variables of the same names and types: what is told by names and types alone is the same.
use Rattle.std.proofs.Common.{◌≡◌, Bool, true, false, cond, List, [], ◌∷◌, Option, Some, refl, ap}
use Rattle.rp_grammar.specs.Trees.{Ident, ExprTree, ExprForm, AccessTree, StepTrees}
use Rattle.rp_lang.specs.Exprs.{Ex}
use Rattle.type_rules.specs.declared.kind.Kind.{Kind}
use Rattle.type_rules.specs.Names.{Name, Names, same_name, text_of}
use Rattle.type_rules.specs.Kinds.{maybe_of}
use Rattle.type_rules.specs.Accesses.{Var, find_var, access_kind, of_name}
use Rattle.type_rules.specs.Typing.{type_of, form_type, asked_inside}
use Rattle.desugaring.specs.Callees.{stand, Vars, vars_of}

pub data Alike : List Var → Vars → Type 0 where
  nothing : Alike [] []
  another : {name : Name} {kind : Kind} {set fixed : Bool} {known : Ex} {vs : List Var} {ss : Vars} → Alike vs ss
      → Alike (record { name = name; kind = kind; set = set; fixed = fixed } ∷ vs) (stand name kind known ∷ ss)

-- one variable, whether or not it has a value
one_access : (n : Names) (x : Ident) (steps : StepTrees) (name : Name) (kind : Kind) (set fixed : Bool)
    → access_kind n (of_name n x steps (Some (record { name = name; kind = kind; set = set; fixed = fixed })))
    ≡ access_kind n (of_name n x steps (Some (record { name = name; kind = kind; set = true; fixed = true })))
one_access n x StepTrees.no_steps name kind set fixed = refl
one_access n x (StepTrees.more_steps step steps) name kind set fixed = refl

alike_access : (n : Names) (x : Ident) (steps : StepTrees) (y : Name) (vs : List Var) (ss : Vars) → Alike vs ss
    → access_kind n (of_name n x steps (find_var vs y)) ≡ access_kind n (of_name n x steps (find_var (vars_of ss) y))
alike_access n x steps y vs ss Alike.nothing = refl
alike_access n x steps y vs ss (Alike.another {name} {kind} {set} {fixed} {vs = others} {ss = stands} alike) =
    by_name n x steps name kind set fixed (find_var others y) (find_var (vars_of stands) y) (same_name name y) (alike_access n x steps y others stands alike) where
      by_name : (n : Names) (x : Ident) (steps : StepTrees) (name : Name) (kind : Kind) (set fixed : Bool) (o u : Option Var) (same : Bool)
          → access_kind n (of_name n x steps o) ≡ access_kind n (of_name n x steps u)
          → access_kind n (of_name n x steps (cond same (Some (record { name = name; kind = kind; set = set; fixed = fixed })) o))
          ≡ access_kind n (of_name n x steps (cond same (Some (record { name = name; kind = kind; set = true; fixed = true })) u))
      by_name n x steps name kind set fixed o u true rest = one_access n x steps name kind set fixed
      by_name n x steps name kind set fixed o u false rest = rest

mutual
  pub alike_type : (n : Names) (vs : List Var) (ss : Vars) → Alike vs ss
      → (asked : Option Kind) (e : ExprTree) → type_of n vs asked e ≡ type_of n (vars_of ss) asked e
  alike_type n vs ss alike asked (ExprTree.node at form) = alike_form n vs ss alike asked form

  alike_form : (n : Names) (vs : List Var) (ss : Vars) → Alike vs ss
      → (asked : Option Kind) (form : ExprForm) → form_type n vs asked form ≡ form_type n (vars_of ss) asked form
  alike_form n vs ss alike asked (ExprForm.some_of e) = ap maybe_of (alike_type n vs ss alike (asked_inside asked) e)
  alike_form n vs ss alike asked (ExprForm.access (AccessTree.path x steps args)) =
      alike_access n x steps (text_of x) vs ss alike
  alike_form n vs ss alike asked (ExprForm.implies a b) = refl
  alike_form n vs ss alike asked (ExprForm.or es) = refl
  alike_form n vs ss alike asked (ExprForm.and es) = refl
  alike_form n vs ss alike asked (ExprForm.not e) = refl
  alike_form n vs ss alike asked (ExprForm.forall q e) = refl
  alike_form n vs ss alike asked (ExprForm.exists q e) = refl
  alike_form n vs ss alike asked (ExprForm.compare c a b) = refl
  alike_form n vs ss alike asked (ExprForm.plus a b) = refl
  alike_form n vs ss alike asked (ExprForm.minus a b) = refl
  alike_form n vs ss alike asked (ExprForm.int i) = refl
  alike_form n vs ss alike asked (ExprForm.str bytes) = refl
  alike_form n vs ss alike asked (ExprForm.truth b) = refl
  alike_form n vs ss alike asked ExprForm.none_word = refl
  alike_form n vs ss alike asked ExprForm.unreturned = refl
  alike_form n vs ss alike asked ExprForm.tx = refl
  alike_form n vs ss alike asked (ExprForm.call w es) = refl
  alike_form n vs ss alike asked (ExprForm.match e arms) = refl
