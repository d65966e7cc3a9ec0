-- What is left, and where the machine stands before it.
use Rattle.std.proofs.Common.{arith, ◌≡◌, ℕ, suc, length, ◌≤◌, false, cond, Option, Some, None, IfSome, MatchOption, List, [], ◌∷◌, ◌++◌, map, ◌<◌, Result, Ok, Err, IfOk, ap, subst, sym, ◌∙◌}
use denote.Bor.{Bor}
use Rattle.rp_span.specs.declared.Span.{Span}
use Rattle.rp_grammar.specs.declared.terminal.Symbol.{Symbol}
use Rattle.rp_grammar.specs.declared.terminal.Symbol.TheVariants as symbols
use Rattle.rp_grammar.specs.Terminals.{Terminal}
use Rattle.rp_grammar.specs.Trees.{Ident as IdentTree}
use Rattle.rp_ast.specs.declared.ident.Ident.{Ident as IdentValue}
use Rattle.rp_ast.specs.View.{ident_view}
use Rattle.rp_tokens.specs.MachineStates.{State, Move, stopping, is_symbol}
use Rattle.rp_tokens.specs.Machine.{step, ended, Bounded, bounded}
use Rattle.rp_parser.specs.declared.fault.Fault.{Fault}
use Rattle.rp_parser.specs.declared.mark.Mark.{Mark}
use Rattle.rp_parser.specs.declared.mark.Rest.{Rest}
use Rattle.rp_parser.specs.declared.mark.Rest.TheVariants as rest
use Rattle.rp_parser.specs.means.Marks.{toks}
use Rattle.rp_parser.specs.means.Reading.{Faults, Stands, left, Within, IfLeft, next_of, Moves, Enters}
use Rattle.rp_parser.proofs.Lists.{map_pushed, map_one, map_two}
use Rattle.rp_parser.proofs.Steps.{no_symbol, marks_longer}
use Rattle.rp_parser.proofs.Chains.{stops}

-- where no nesting is too deep
pub within_all : (d : ℕ) (r : Rest) → d ≤ 64 → Within d r
within_all d (rest.Left ms) l = l
within_all d (rest.Failed e) l = tt

pub within_failed : (d : ℕ) (r : Rest) (e : Fault) → r ≡ rest.Failed e → Within d r
within_failed d (rest.Left ms) e h = cc
within_failed d (rest.Failed f) e h = tt

-- behind a fault the machine may stand anywhere
pub stands_failed : (r : Rest) (e : Fault) (s t : State) (o : Bounded) → r ≡ rest.Failed e → Stands r s o → Stands r t o
stands_failed (rest.Left ms) e s t o h is = cc
stands_failed (rest.Failed f) e s t o h is = is

-- where marks are left
pub stands_left : (r : Rest) (ms : Bor (List Mark)) (s : State) (o : Bounded) → r ≡ rest.Left ms → Stands r s o → o ≡ bounded 64 s (toks ms.now)
stands_left r ms s o e h = subst (λ r. Stands r s o) e h

-- the same state, by an equal value
pub stands_at : {X : Type 0} → (r : Rest) (s : X → State) (x y : X) (o : Bounded) → x ≡ y → Stands r (s x) o → Stands r (s y) o
stands_at r s x y o e h = subst (λ x. Stands r (s x) o) e h

pub faults_from : (e : Fault) (o p : Bounded) → o ≡ p → Faults e p → Faults e o
faults_from e o p h f = subst (λ o. Faults e o) (sym h) f

-- the state behind a node that was made
pub ok_at : {X Y E : Type 0} → (r : Result X E) (f : X → Y) (v : Y) (s : Y → State) → IfOk r (λ x. f x ≡ v) → IfOk r (λ x. s (f x) ≡ s v)
ok_at (Ok x) f v s h = ap s h
ok_at (Err e) f v s h = tt

pub if_left : {A B : Type 0} → (r : Rest) → (A → B) → IfLeft r A → IfLeft r B
if_left (rest.Left ms) f a = f a
if_left (rest.Failed e) f a = tt

-- where some are left
pub is_left : {A : Type 0} → (n : ℕ) (r : Rest) → n < left r → IfLeft r A → A
is_left n (rest.Left ms) l a = a
is_left n (rest.Failed e) l a = absurd (omega (arith, l))

-- the same state, by a value that is equal where marks are left
pub stands_if : {X : Type 0} → (r : Rest) (s : X → State) (x y : X) (o : Bounded) → IfLeft r (x ≡ y) → Stands r (s x) o → Stands r (s y) o
stands_if (rest.Left ms) s x y o e h = h ∙ ap (λ x. bounded 64 (s x) (toks ms.now)) e
stands_if (rest.Failed f) s x y o e h = h

-- behind an item that was added to a list
pub grown : {X Y : Type 0} → (r q : Rest) (f : X → Y) (s : List Y → State) (all xs : List X) (x : X) (o : Bounded) → IfLeft r ((r ≡ q) × (all ≡ xs ++ x ∷ [])) → Stands r (s (map f xs ++ f x ∷ [])) o → Stands r (s (map f all)) o
grown r q f s all xs x o e h = stands_if r s (map f xs ++ f x ∷ []) (map f all) o (if_left r (λ e. map_pushed f all xs x e.1) e) h

pub begun : {X Y : Type 0} → (r q : Rest) (f : X → Y) (s : List Y → State) (all none : List X) (x : X) (o : Bounded) → none ≡ [] → IfLeft r ((r ≡ q) × (all ≡ none ++ x ∷ [])) → Stands r (s (f x ∷ [])) o → Stands r (s (map f all)) o
begun r q f s all none x o n e h = stands_if r s (f x ∷ []) (map f all) o (if_left r (λ e. sym (map_one f all none x n e.1)) e) h

-- behind two
pub two_begun : {X Y : Type 0} → (r q p : Rest) (f : X → Y) (all one none : List X) (x y : X) → none ≡ [] → IfLeft q ((q ≡ p) × (one ≡ none ++ x ∷ [])) → IfLeft r ((r ≡ q) × (all ≡ one ++ y ∷ [])) → IfLeft r (map f all ≡ f x ∷ f y ∷ [])
two_begun (rest.Left ms) q p f all one none x y n a b = map_two f all one none x y n (subst (λ q. IfLeft q ((q ≡ p) × (one ≡ none ++ x ∷ []))) (sym b.0) a).1 b.1
two_begun (rest.Failed e) q p f all one none x y n a b = tt

-- what a token comes to where it is next
pub stands_past : (m : Symbol) (r : Rest) (s t : State) (a : Terminal → Span → Option Move) (o : Bounded) → next_of m r ≡ false → ended s ≡ ended t → ((x : Terminal) (v : Span) → step s x v ≡ cond (is_symbol m x) (a x v) (step t x v)) → Stands r s o → Stands r t o
stands_past m (rest.Left ms) s t a o n e f h = h ∙ no_symbol m s t a (toks ms.now) n e f
stands_past m (rest.Failed g) s t a o n e f h = h

pub stands_stops : (s : State) (r : Rest) (o : Bounded) → next_of symbols.And r ≡ false → next_of symbols.Or r ≡ false → next_of symbols.Implies r ≡ false → Stands r (stopping s) o → Stands r s o
stands_stops s (rest.Left ms) o a b i h = h ∙ stops s (toks ms.now) a b i
stands_stops s (rest.Failed e) o a b i h = h

-- the state behind a name that was made
pub ok_named : {E : Type 0} → (r : Result IdentValue E) (s : IdentTree → Span → State) (n : IdentTree) (v : Span) → IfOk r (λ x. ident_view x ≡ n) → IfOk r (λ x. x.span ≡ v) → IfOk r (λ x. s (ident_view x) x.span ≡ s n v)
ok_named (Ok x) s n v e f = ap (λ m. s m x.span) e ∙ ap (λ w. s n w) f
ok_named (Err x) s n v e f = tt

-- behind the first token of a statement or of an arm, which may be nested too deep
pub enters : {X : Type 0} → (x : Option X) (r : Rest) (ms : Bor (List Mark)) (s t : State) (n : X → State) (after : X → List Mark) (d : ℕ) (o : Bounded) → r ≡ rest.Left ms → IfSome x (λ x. length ms.now ≡ suc (length (after x))) → MatchOption x (bounded 64 s (toks ms.now) ≡ bounded 64 t (toks ms.now)) (λ x. Moves d s (toks ms.now) (n x) (toks (after x))) → Stands r s o → MatchOption x (Stands r t o) (λ x. Enters d o (n x) (after x))
enters None r ms s t n after d o e l m is = subst (λ r. Stands r t o) (sym e) (stands_left r ms s o e is ∙ m)
enters (Some x) r ms s t n after d o e l m is =
    let at = stands_left r ms s o e is in
    (λ w. at ∙ m.0 w, λ w. (toks ms.now, at ∙ m.1 w, marks_longer ms.now (after x) l))

-- where one of some tokens is next, or none of them is
pub passes : {X : Type 0} → (x : Option X) (r : Rest) (ms : Bor (List Mark)) (s t : State) (n : X → State) (after : X → List Mark) (o : Bounded) → r ≡ rest.Left ms → MatchOption x (bounded 64 s (toks ms.now) ≡ bounded 64 t (toks ms.now)) (λ x. bounded 64 s (toks ms.now) ≡ bounded 64 (n x) (toks (after x))) → Stands r s o → MatchOption x (Stands r t o) (λ x. o ≡ bounded 64 (n x) (toks (after x)))
passes None r ms s t n after o e m is = subst (λ r. Stands r t o) (sym e) (stands_left r ms s o e is ∙ m)
passes (Some x) r ms s t n after o e m is = stands_left r ms s o e is ∙ m
