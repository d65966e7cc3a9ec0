-- What walks over the parts of an expression find of the whole.
use Rattle.std.proofs.Common.{◌≡◌, ℕ, ◌+◌, ◌<◌, Bool, List, [], ◌∷◌, ◌++◌, length, drop, get_or, Option, refl, sym, ap, ap₂, ◌∙◌, subst}
use Rattle.rp_span.specs.declared.Span.{Span}
use Rattle.rp_grammar.specs.Trees.{ExprTree, ExprForm, StepTree}
use Rattle.rp_ast.specs.declared.expr.ExprNode.{ExprNode}
use Rattle.rp_ast.specs.View.{expr_view, expr_form_view, exprs_view}
use Rattle.rp_ast.proofs.ExprViews.{expr_view-parts}
use Rattle.type_rules.specs.declared.fault.Fault.{Fault}
use Rattle.type_rules.specs.declared.kind.Kind.{Kind}
use Rattle.type_rules.specs.Names.{Name, Names}
use Rattle.type_rules.specs.Sites.{Scope, Site, Want}
use Rattle.type_rules.specs.ExprSites.{arg_sites, argument, expr_sites, form_sites, key_sites}
use Rattle.type_rules.specs.Matches.{first_kind}
use Rattle.type_rules.specs.Paths.{Way}
use Rattle.type_rules.specs.Faults.{sooner}
use Rattle.type_faults.specs.declared.walk.Walk.{Walk}
use Rattle.type_rules.specs.Accesses.{Var}
use Rattle.type_rules.specs.Typing.{is_plain_form, is_plain_step}
use Rattle.type_faults.specs.Walks.{Stand, Walks, names_at, scope_at, stand_of}
use Rattle.type_faults.proofs.Lists.{next_in, other_drop}
use Rattle.type_faults.proofs.Walked.{both, recast}

pub whole_expr : {later : List Name} {a b c : Walk} {f g h : Option Fault} (w : Want) (e : ExprNode)
    → Walks later a b f (λ p. Site.place (scope_at later p) w (expr_view e) ∷ []) (λ p. p.sight)
    → Walks later b c g (λ p. form_sites p.names (scope_at later p) w e.span (expr_form_view e.what)) (λ p. p.sight)
    → h ≡ sooner f g
    → Walks later a c h (λ p. expr_sites p.names (scope_at later p) w (expr_view e)) (λ p. p.sight)
whole_expr {later} {a} {b} {c} {f} {g} {h} w e here below is =
    let own = subst (λ tree. Walks later a b f (λ p. Site.place (scope_at later p) w tree ∷ []) (λ p. p.sight)) (expr_view-parts e) here in
    subst (λ tree. Walks later a c h (λ p. expr_sites p.names (scope_at later p) w tree) (λ p. p.sight)) (sym (expr_view-parts e))
    (both own below is)

-- of an expression of another form
pub formed : {later : List Name} {a b : Walk} {f : Option Fault} (w : Want) (at : Span) {x y : ExprForm} → x ≡ y
    → Walks later a b f (λ p. form_sites p.names (scope_at later p) w at y) (λ p. p.sight)
    → Walks later a b f (λ p. form_sites p.names (scope_at later p) w at x) (λ p. p.sight)
formed {later} {a} {b} {f} w at e walks =
    subst (λ form. Walks later a b f (λ p. form_sites p.names (scope_at later p) w at form) (λ p. p.sight)) (sym e) walks

-- The same with whether it is a plain term.
pub formed_as : {later : List Name} {a b : Walk} {f : Option Fault} {plain : Bool} (w : Want) (at : Span) {x y : ExprForm} → x ≡ y
    → Walks later a b f (λ p. form_sites p.names (scope_at later p) w at y) (λ p. p.sight) → plain ≡ is_plain_form (names_at a) a.vars y
    → Walks later a b f (λ p. form_sites p.names (scope_at later p) w at x) (λ p. p.sight) × (plain ≡ is_plain_form (names_at a) a.vars x)
formed_as {a = a} w at e walks told = (formed w at e walks, told ∙ ap (is_plain_form (names_at a) a.vars) (sym e))

-- The same where the fault and this are told in other words.
pub formed_told : {later : List Name} {a b : Walk} {f g : Option Fault} {plain own : Bool} (w : Want) (at : Span) {x y : ExprForm} → x ≡ y
    → Walks later a b f (λ p. form_sites p.names (scope_at later p) w at y) (λ p. p.sight) → g ≡ f → plain ≡ own
    → own ≡ is_plain_form (names_at a) a.vars y
    → Walks later a b g (λ p. form_sites p.names (scope_at later p) w at x) (λ p. p.sight) × (plain ≡ is_plain_form (names_at a) a.vars x)
formed_told {later} {a} {b} w at {x} {y} e walks same is told =
    formed_as w at e (subst (λ f. Walks later a b f (λ p. form_sites p.names (scope_at later p) w at y) (λ p. p.sight)) (sym same) walks) (is ∙ told)

-- # Arguments

pub arg_next : (n : Names) (sc : Scope) (plain : Bool) (kinds : List Kind) (es : List ExprNode) (i : ℕ) (e : ExprNode) (w : Want) (kind : Kind)
    → i < length es → e ≡ get_or es i e → kind ≡ first_kind (drop i kinds) → w ≡ argument plain kind
    → arg_sites n sc plain (drop i kinds) (exprs_view (drop i es))
    ≡ expr_sites n sc w (expr_view e) ++ arg_sites n sc plain (drop (i + 1) kinds) (exprs_view (drop (i + 1) es))
arg_next n sc plain kinds es i e w kind h is first asked =
    let rest = exprs_view (drop (i + 1) es) in
    next_in (λ l. arg_sites n sc plain (drop i kinds) (exprs_view l)) es i e h is
    ∙ ap₂ (λ w ks. expr_sites n sc w (expr_view e) ++ arg_sites n sc plain ks rest)
    (ap (argument plain) (sym first) ∙ sym asked) (other_drop kinds i (i + 1) refl)

-- # Steps

-- of a step of another form
pub step_formed : {later : List Name} {a b : Walk} {f : Option Fault} (way : Stand → Way) {x y : StepTree} → x ≡ y
    → Walks later a b f (λ p. key_sites p.names (scope_at later p) (way p) y) (λ p. p.sight)
    → Walks later a b f (λ p. key_sites p.names (scope_at later p) (way p) x) (λ p. p.sight)
step_formed {later} {a} {b} {f} way e walks =
    subst (λ s. Walks later a b f (λ p. key_sites p.names (scope_at later p) (way p) s) (λ p. p.sight)) (sym e) walks

-- The same where the fault and whether it is a plain term are told in other words.
pub step_told : {later : List Name} {a b : Walk} {f g : Option Fault} {plain own : Bool} (way : Stand → Way) {x y : StepTree} → x ≡ y
    → Walks later a b f (λ p. key_sites p.names (scope_at later p) (way p) y) (λ p. p.sight) → g ≡ f → plain ≡ own
    → own ≡ is_plain_step (names_at a) a.vars y
    → Walks later a b g (λ p. key_sites p.names (scope_at later p) (way p) x) (λ p. p.sight) × (plain ≡ is_plain_step (names_at a) a.vars x)
step_told {later} {a} {b} way {x} {y} e walks same is told = (
  step_formed way e (subst (λ f. Walks later a b f (λ p. key_sites p.names (scope_at later p) (way p) y) (λ p. p.sight)) (sym same) walks),
  is ∙ told ∙ ap (is_plain_step (names_at a) a.vars) (sym e),
)

-- # Two sides

-- of a form whose places are those of two expressions
pub pair_formed : {later : List Name} {a b : Walk} {f : Option Fault} (w : Want) (at : Span) {x : ExprForm} (y : ExprForm) (l r : ExprTree) {u v : Want}
    (first second : Names → List Var → Want) → x ≡ y
    → ((n : Names) (sc : Scope) → form_sites n sc w at y ≡ expr_sites n sc (first n sc.vars) l ++ expr_sites n sc (second n sc.vars) r)
    → u ≡ first (names_at a) a.vars → v ≡ second (names_at a) a.vars
    → Walks later a b f (λ p. expr_sites p.names (scope_at later p) u l ++ expr_sites p.names (scope_at later p) v r) (λ p. p.sight)
    → Walks later a b f (λ p. form_sites p.names (scope_at later p) w at x) (λ p. p.sight)
pair_formed {later} {a} {b} {f} w at {x} y l r {u} {v} first second e parts one two walks =
    let n = names_at a in
    let sc = scope_at later (stand_of a) in
    formed w at e
    (recast (λ p. form_sites p.names (scope_at later p) w at y) (λ p. p.sight) walks
    (ap₂ (λ u v. expr_sites n sc u l ++ expr_sites n sc v r) one two ∙ sym (parts n sc)) refl)
