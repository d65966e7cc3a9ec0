-- What is read of parts, and what of the whole.
use Rattle.std.proofs.Common.{◌≡◌, List, [], ◌∷◌, ◌++◌, Option, Some, refl, ap, sym, subst, ◌∙◌, append_assoc, append-nil}
use Rattle.rp_span.specs.declared.Span.{Span}
use Rattle.rp_grammar.specs.Trees.{ExprTree, ExprForm}
use Rattle.rp_ast.specs.declared.expr.ExprNode.{ExprNode}
use Rattle.rp_ast.specs.View.{expr_view, expr_form_view}
use Rattle.rp_ast.proofs.ExprViews.{expr_view-parts}
use Rattle.type_rules.specs.declared.kind.Kind.{Kind}
use Rattle.query_bodies.specs.Terms.{Said, said_claim, said_term}
use Rattle.query_laws.specs.Sight.{Sight, Says, SaysClaim}
use Rattle.query_laws.proofs.Said.{claim_says, truth_says}
use Rattle.type_rules.specs.Kinds.{bool_kind}
use Rattle.reading.specs.Forms.{claim_of}
use Rattle.reading.specs.declared.reader.Reader.{Reader}
use Rattle.reading.specs.Reads.{IsKept, Reads, sight_of}

pub mapped : {a b : Reader} {P Q : Sight → Type 0} → Reads a b P → (IsKept a → P (sight_of a) → Q (sight_of a)) → Reads a b Q
mapped {a} r f = record { left = λ kept. let l = r.left kept in record { same = l.same; says = f kept l.says } }

-- two parts, one read behind the other
pub paired : {a b d : Reader} {P Q R : Sight → Type 0} → Reads a b P → Reads b d Q
    → (IsKept a → P (sight_of a) → Q (sight_of a) → R (sight_of a)) → Reads a d R
paired {a} {b} {d} {P} {Q} {R} p q f = record {
  left = λ kept.
      let l = p.left kept in
      let m = (subst (λ (r : Reader). Reads r d Q) l.same q).left kept in
      record { same = m.same; says = f kept l.says m.says };
}

-- behind what left the reader as it was
pub then_reads : {a b d : Reader} {P : Sight → Type 0} → b ≡ a → Reads b d P → Reads a d P
then_reads {a} {b} {d} {P} e r = subst (λ (r : Reader). Reads r d P) e r

-- nothing is read
pub here : {a : Reader} {P : Sight → Type 0} → P (sight_of a) → Reads a a P
here p = record { left = λ kept. record { same = refl; says = p } }

pub said_as : (s : Sight) (asked : Option Kind) (e : ExprTree) {made said : Said} → made ≡ said → Says s asked e said
    → Says s asked e made
said_as s asked e is says = subst (λ m. Says s asked e m) (sym is) says

pub formed : {a b : Reader} (made : Said) (asked : Option Kind) (e : ExprNode) {form : ExprForm} → expr_form_view e.what ≡ form
    → ((at : Span) → Reads a b (λ s. Says s asked (ExprTree.node at form) made))
    → Reads a b (λ s. Says s asked (expr_view e) made)
formed {a} {b} made asked e {form} is r =
    subst (λ (t : ExprTree). Reads a b (λ s. Says s asked t made))
    (sym (expr_view-parts e ∙ ap (λ (f : ExprForm). ExprTree.node e.span f) is)) (r e.span)

-- # Lists that are gathered: what holds of the rest holds, behind what was made, of the whole

pub record Gathered {X : Type 0} (Rest Whole : List X → Type 0) (made : List X) : Type 0 where
  pub goes : (rest : List X) → Rest rest → Whole (made ++ rest)

pub started : {X : Type 0} {W : List X → Type 0} → Gathered W W []
started = record { goes = λ rest w. w }

pub none_gathered : {X : Type 0} {W : List X → Type 0} {made : List X} → made ≡ [] → Gathered W W made
none_gathered {X} {W} {made} e = subst (λ (l : List X). Gathered W W l) (sym e) (started {W = W})

pub stepped : {X : Type 0} {A B W : List X → Type 0} {made new : List X} {x : X} → Gathered A W made
    → ((rest : List X) → B rest → A (x ∷ rest)) → new ≡ made ++ x ∷ [] → Gathered B W new
stepped {X} {A} {B} {W} {made} {new} {x} g f is = record {
  goes = λ rest b. subst W (sym (append_assoc made (x ∷ []) rest) ∙ ap (λ (l : List X). l ++ rest) (sym is)) (g.goes (x ∷ rest) (f rest b));
}

pub same_gathered : {X : Type 0} {A B W : List X → Type 0} {made new : List X} → Gathered A W made
    → ((rest : List X) → B rest → A rest) → new ≡ made → Gathered B W new
same_gathered {X} {A} {B} {W} {made} {new} g f is = record {
  goes = λ rest b. subst W (ap (λ (l : List X). l ++ rest) (sym is)) (g.goes rest (f rest b));
}

pub same_rest : {T X : Type 0} (F : T → List X → Type 0) {t u : T} {W : List X → Type 0} {made : List X} → t ≡ u → Gathered (F t) W made
    → Gathered (F u) W made
same_rest {T} {X} F {t} {u} {W} {made} e g = subst (λ (t : T). Gathered (F t) W made) e g

pub ended : {X : Type 0} {A W : List X → Type 0} {made : List X} → Gathered A W made → A [] → W made
ended {X} {A} {W} {made} g a = subst W (append-nil made) (g.goes [] a)

-- # Inside what comes in sight and goes again

pub within : {a b d : Reader} {e : Reader} {P Q : Sight → Type 0} {r : Reader} → b ≡ r → Reads b d P → (IsKept a → IsKept r)
    → (IsKept a → P (sight_of r) → Q (sight_of a)) → (IsKept a → d ≡ r → e ≡ a) → Reads a e Q
within {a} {b} {d} {e} {P} {Q} {r} is reads kept_there out back = record {
  left = λ kept.
      let l = (subst (λ (b : Reader). Reads b d P) is reads).left (kept_there kept) in
      record { same = back kept l.same; says = out kept l.says };
}

-- # As formulas

pub as_said : (s : Sight) (e : ExprTree) (made : Said) → Says s (Some bool_kind) e made → SaysClaim s e (claim_of made)
as_said s e (said_term x) says = truth_says s e x says
as_said s e (said_claim f) says = claim_says s e f says
