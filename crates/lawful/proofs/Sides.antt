-- The sides of comparisons.
use Rattle.std.proofs.Common.{◌≡◌, ℕ, true, List, Some, None, refl, ap, ◌∙◌}
use Rattle.std.specs.Prelude.{is_some}
use Rattle.rp_value.specs.declared.tables.Ty.{Ty}
use Rattle.rp_grammar.specs.declared.operator.CompareOp.{CompareOp}
use Rattle.rp_grammar.specs.declared.operator.CompareOp.TheVariants as compare
use Rattle.rp_grammar.specs.Trees.{ExprTree}
use Rattle.rp_lang.specs.Exprs.{Ex}
use Rattle.rp_lang.specs.Typing as typing
use Rattle.rp_lang.specs.Typing.{is_typed}
use Rattle.type_rules.specs.Typing.{type_of}
use Rattle.type_rules.specs.Sites.{Scope, Want}
use Rattle.type_rules.specs.ExprSites.{expr_sites, left_want, right_want, left_asked, left_side, right_side, ordered_side}
use Rattle.desugaring.specs.Tables.{Tables}
use Rattle.desugaring.specs.Values.{term, compared}
use Rattle.desugaring.specs.Callees.{Vars, vars_of}
use Rattle.desugaring.specs.Meanings.{Means}
use Rattle.lawful.specs.Typed.{IsTerm}
use Rattle.lawful.proofs.Basics.{same_type}
use Rattle.lawful.proofs.Forms.{equal_typed, ordered_typed}
use Rattle.lawful.proofs.World.{World, In, Lawful, seen10, integer}
use Rattle.lawful.proofs.Words.{call_no_record, apart}

pub left_same : (t : Tables) (g : World t) (bs : List Ty) (vs : Vars) (sc : Scope) (a b : ExprTree) → In t g bs vs sc
    → left_asked t.names sc.vars a b ≡ left_asked t.names (vars_of vs) a b
left_same t g bs vs sc a b st =
    rw (same_type t g.p g.f bs t.names sc.vars vs st.sees None a, same_type t g.p g.f bs t.names sc.vars vs st.sees None b) refl

pub left_wanted : (t : Tables) (g : World t) (bs : List Ty) (vs : Vars) (sc : Scope) (c : CompareOp) (d r : ExprTree) → In t g bs vs sc
    → (left_want t.names sc.vars c d r).asked ≡ (left_want t.names (vars_of vs) c d r).asked
left_wanted t g bs vs sc compare.Equal d r st = left_same t g bs vs sc d r st
left_wanted t g bs vs sc compare.NotEqual d r st = left_same t g bs vs sc d r st
left_wanted t g bs vs sc compare.Less d r st = refl
left_wanted t g bs vs sc compare.AtMost d r st = refl
left_wanted t g bs vs sc compare.Greater d r st = refl
left_wanted t g bs vs sc compare.AtLeast d r st = refl

pub right_same : (t : Tables) (g : World t) (bs : List Ty) (vs : Vars) (sc : Scope) (d r : ExprTree) → In t g bs vs sc
    → Some (type_of t.names sc.vars (left_asked t.names sc.vars d r) d) ≡ Some (type_of t.names (vars_of vs) (left_asked t.names (vars_of vs) d r) d)
right_same t g bs vs sc d r st =
    ap Some (same_type t g.p g.f bs t.names sc.vars vs st.sees (left_asked t.names sc.vars d r) d
    ∙ ap (λ o. type_of t.names (vars_of vs) o d) (left_same t g bs vs sc d r st))

pub right_wanted : (t : Tables) (g : World t) (bs : List Ty) (vs : Vars) (sc : Scope) (c : CompareOp) (d r : ExprTree) → In t g bs vs sc
    → (right_want t.names sc.vars c d r).asked ≡ (right_want t.names (vars_of vs) c d r).asked
right_wanted t g bs vs sc compare.Equal d r st = right_same t g bs vs sc d r st
right_wanted t g bs vs sc compare.NotEqual d r st = right_same t g bs vs sc d r st
right_wanted t g bs vs sc compare.Less d r st = refl
right_wanted t g bs vs sc compare.AtMost d r st = refl
right_wanted t g bs vs sc compare.Greater d r st = refl
right_wanted t g bs vs sc compare.AtLeast d r st = refl

-- what a side is
abbrev pub Side : (t : Tables) → World t → List Ty → Vars → Want → Want → ExprTree → Ex → Type 0
Side t g bs vs here there e x = IsTerm t g.p g.f bs (is_some here.across) (type_of t.names (vars_of vs) there.asked e) x

pub equals : (t : Tables) (g : World t) (bs : List Ty) (b : ℕ) (vs : Vars) (d r : ExprTree) (x y : Ex) (sc : Scope)
    → Means t b vs (right_side t.names (vars_of vs) d r).asked r (term y)
    → Side t g bs vs (left_side t.names sc.vars d r) (left_side t.names (vars_of vs) d r) d x
    → Side t g bs vs (right_side t.names sc.vars d r) (right_side t.names (vars_of vs) d r) r y
    → In t g bs vs sc → Lawful t g (expr_sites t.names sc (right_side t.names sc.vars d r) r) → typing.are_comparable g.p g.f bs x y ≡ true
equals t g bs b vs d r x y sc n first second st right =
    let k = type_of t.names (vars_of vs) (left_asked t.names (vars_of vs) d r) d in
    equal_typed t g.p g.f bs k (type_of t.names (vars_of vs) (Some k) r) x y first.typed second.typed
    (seen10 t g bs vs sc (right_side t.names sc.vars d r) k r refl (right_same t g bs vs sc d r st) st right)
    (apart _ _ (λ is. call_no_record t b vs (Some k) r y n (first.stands is)))

pub sides : (t : Tables) (g : World t) (bs : List Ty) (b : ℕ) (vs : Vars) (c : CompareOp) (d r : ExprTree) (x y : Ex) (sc : Scope)
    → Means t b vs (right_want t.names (vars_of vs) c d r).asked r (term y)
    → Side t g bs vs (left_want t.names sc.vars c d r) (left_want t.names (vars_of vs) c d r) d x
    → Side t g bs vs (right_want t.names sc.vars c d r) (right_want t.names (vars_of vs) c d r) r y
    → In t g bs vs sc → Lawful t g (expr_sites t.names sc (left_want t.names sc.vars c d r) d)
    → Lawful t g (expr_sites t.names sc (right_want t.names sc.vars c d r) r) → is_typed g.p g.f bs (compared c x y) ≡ true
sides t g bs b vs compare.Equal d r x y sc n first second st left right = equals t g bs b vs d r x y sc n first second st right
sides t g bs b vs compare.NotEqual d r x y sc n first second st left right = equals t g bs b vs d r x y sc n first second st right
sides t g bs b vs compare.Less d r x y sc n first second st left right =
    ordered_typed g.p g.f bs x y (integer t g bs vs d x _ sc ordered_side refl refl first st left) (integer t g bs vs r y _ sc ordered_side refl refl second st right)
sides t g bs b vs compare.AtMost d r x y sc n first second st left right =
    ordered_typed g.p g.f bs x y (integer t g bs vs d x _ sc ordered_side refl refl first st left) (integer t g bs vs r y _ sc ordered_side refl refl second st right)
sides t g bs b vs compare.Greater d r x y sc n first second st left right =
    ordered_typed g.p g.f bs y x (integer t g bs vs r y _ sc ordered_side refl refl second st right) (integer t g bs vs d x _ sc ordered_side refl refl first st left)
sides t g bs b vs compare.AtLeast d r x y sc n first second st left right =
    ordered_typed g.p g.f bs y x (integer t g bs vs r y _ sc ordered_side refl refl second st right) (integer t g bs vs d x _ sc ordered_side refl refl first st left)
