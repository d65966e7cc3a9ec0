-- A node by its number, and the term that it is.
use Rattle.std.proofs.Common.{◌≡◌, ℕ, zero, suc, length, List, [], ◌∷◌, slice_get, Some, refl, ap, sym, ◌∙◌, arith, map, Bool, true, ℤ}
use Rattle.std.specs.Prelude.{◌↔◌, IsTrue}
use Rattle.rp_logic.specs.Terms as tm
use Rattle.rp_logic.specs.Terms.{Tm}
use Rattle.rp_logic.specs.declared.term.Term.{Term}
use Rattle.rp_logic.specs.Views.{tms_of, term_view, terms_view}
use Rattle.rp_terms.specs.declared.node.Node.{Node}
use Rattle.rp_terms.specs.declared.symbol.Symbol.TheVariants as symbol
use Rattle.rp_terms.specs.Symbols.{symbol_of, arguments, listed}
use Rattle.rp_terms.specs.Numbered.{AreNumbersOf}
use Rattle.rp_terms.specs.means.Built.{terms_of, IsNode, AreBuilt}
use Rattle.rp_terms.proofs.BankLaws.{built_length, one_tree}
use Rattle.rp_terms.proofs.Places.{at_within, within}

-- the term of a number is that of its node
abbrev pub IsNodeOf : List Tm → ℕ → Node → Type 0
IsNodeOf terms id n = (t : Tm) × (slice_get terms id ≡ Some t) × IsNode terms id n t

pub node_at : (nodes : List Node) (hashes : List ℕ) (id : ℕ) (n : Node) → AreBuilt nodes hashes
    → slice_get nodes id ≡ Some n → IsNodeOf (terms_of nodes) id n
node_at nodes hashes id n built e =
    let le = within nodes id n e in
    let same = built_length nodes in
    let t = at_within (terms_of nodes) id (omega (arith, le, same)) in
    (t.0, t.1, built.each id n t.0 e t.1)

one_list : {X : Type 0} (xs ys : List X) → map Some xs ≡ map Some ys → xs ≡ ys
one_list [] [] h = refl
one_list [] (y ∷ ys) h = absurd cc
one_list (x ∷ xs) [] h = absurd cc
one_list (x ∷ xs) (y ∷ ys) h =
    let first : x ≡ y = cc in
    let rest : map Some xs ≡ map Some ys = cc in
    ap (λ z. z ∷ xs) first ∙ ap (λ zs. y ∷ zs) (one_list xs ys rest)

-- it is a term of the same symbol exactly where its parts are that term's arguments
pub is_by_parts : (terms : List Tm) (id : ℕ) (n : Node) (t : Tm) (b : Bool) → IsNodeOf terms id n → n.symbol ≡ symbol_of t
    → (IsTrue b ↔ AreNumbersOf terms n.parts (arguments t)) → IsTrue b ↔ (slice_get terms id ≡ Some t)
is_by_parts terms id n t b of e h = (
  (λ yes.
      let same : arguments of.0 ≡ arguments t = one_list (arguments of.0) (arguments t) (sym of.2.parts ∙ h.0 yes) in
      of.1 ∙ ap Some (one_tree of.0 t (sym of.2.symbol ∙ e) same)),
  (λ at.
      let same : of.0 ≡ t = (let u = of.1 in cc) in
      h.1 (of.2.parts ∙ ap (λ u. map Some (arguments u)) same)),
)

-- it isn't a term of another symbol
pub is_other : (terms : List Tm) (id : ℕ) (n : Node) (t : Tm) → IsNodeOf terms id n → slice_get terms id ≡ Some t → n.symbol ≡ symbol_of t
is_other terms id n t of at =
    let same : of.0 ≡ t = (let u = of.1 in cc) in
    of.2.symbol ∙ ap symbol_of same

taken : (u : Tm) (con i : ℕ) → symbol_of u ≡ symbol.Sel con i → (a : Tm) × (arguments u ≡ a ∷ [])
taken (tm.Var n) con i h = absurd cc
taken (tm.Const c) con i h = absurd cc
taken (tm.Fn f args) con i h = absurd cc
taken (tm.Int n) con i h = absurd cc
taken (tm.Str bytes) con i h = absurd cc
taken (tm.Con d args) con i h = absurd cc
taken (tm.Sel d j t) con i h = (t, refl)
taken (tm.Plus t n) con i h = absurd cc

pub listed_length : (xs : List Tm) → length (listed (tms_of xs)) ≡ length xs
listed_length [] = refl
listed_length (x ∷ xs) = ap suc (listed_length xs)

pub numbers_count : (terms : List Tm) (ids : List ℕ) (ts : List Tm) → AreNumbersOf terms ids ts → length ids ≡ length ts
numbers_count terms [] [] h = refl
numbers_count terms [] (t ∷ ts) h = absurd cc
numbers_count terms (id ∷ ids) [] h = absurd cc
numbers_count terms (id ∷ ids) (t ∷ ts) h =
    let rest : AreNumbersOf terms ids ts = cc in
    ap suc (numbers_count terms ids ts rest)

-- one number is that of a term exactly where both lists of one have them
pub is_one : (terms : List Tm) (ids : List ℕ) (p : ℕ) (a : Tm) (b : Bool) → length ids ≡ 1 → slice_get ids 0 ≡ Some p
    → (IsTrue b ↔ (slice_get terms p ≡ Some a)) → IsTrue b ↔ AreNumbersOf terms ids (a ∷ [])
is_one terms [] p a b l e h = absurd cc
is_one terms (id ∷ []) p a b l e h =
    let same : id ≡ p = cc in (
      (λ yes. ap (λ o. o ∷ []) (ap (slice_get terms) same ∙ h.0 yes)),
      (λ at. h.1 (let first : slice_get terms id ≡ Some a = cc in ap (slice_get terms) (sym same) ∙ first)),
    )
is_one terms (id ∷ j ∷ ids) p a b l e h = absurd cc

added : (u : Tm) (k : ℤ) → symbol_of u ≡ symbol.Plus k → (a : Tm) × (arguments u ≡ a ∷ [])
added (tm.Var n) k h = absurd cc
added (tm.Const c) k h = absurd cc
added (tm.Fn f args) k h = absurd cc
added (tm.Int n) k h = absurd cc
added (tm.Str bytes) k h = absurd cc
added (tm.Con d args) k h = absurd cc
added (tm.Sel d j t) k h = absurd cc
added (tm.Plus t n) k h = (t, refl)

-- a node of a selector or a sum has one part
pub one_part-Sel : (terms : List Tm) (id : ℕ) (n : Node) (con i : ℕ) → IsNodeOf terms id n → n.symbol ≡ symbol.Sel con i → length n.parts ≡ 1
one_part-Sel terms id n con i of e =
    let a = taken of.0 con i (sym of.2.symbol ∙ e) in
    numbers_count terms n.parts (arguments of.0) of.2.parts ∙ ap length a.1

pub one_part-Plus : (terms : List Tm) (id : ℕ) (n : Node) (k : ℤ) → IsNodeOf terms id n → n.symbol ≡ symbol.Plus k → length n.parts ≡ 1
one_part-Plus terms id n k of e =
    let a = added of.0 k (sym of.2.symbol ∙ e) in
    numbers_count terms n.parts (arguments of.0) of.2.parts ∙ ap length a.1

-- each number is that of the term at its place
pub numbers_at : (terms : List Tm) (ids : List ℕ) (ts : List Term) → AreNumbersOf terms ids (listed (terms_view ts))
    → (k p : ℕ) (t : Term) → slice_get ids k ≡ Some p → slice_get ts k ≡ Some t → slice_get terms p ≡ Some (term_view t)
numbers_at terms [] ts h k p t e f = absurd cc
numbers_at terms (id ∷ ids) [] h k p t e f = absurd cc
numbers_at terms (id ∷ ids) (u ∷ ts) h zero p t e f =
    let first : slice_get terms id ≡ Some (term_view u) = cc in
    let number : id ≡ p = cc in
    let term : u ≡ t = cc in
    ap (slice_get terms) (sym number) ∙ first ∙ ap (λ v. Some (term_view v)) term
numbers_at terms (id ∷ ids) (u ∷ ts) h (suc k) p t e f =
    let rest : AreNumbersOf terms ids (listed (terms_view ts)) = cc in
    numbers_at terms ids ts rest k p t e f

pub numbers_from : (terms : List Tm) (ids : List ℕ) (ts : List Term) → length ids ≡ length ts
    → ((k p : ℕ) (t : Term) → slice_get ids k ≡ Some p → slice_get ts k ≡ Some t → slice_get terms p ≡ Some (term_view t))
    → AreNumbersOf terms ids (listed (terms_view ts))
numbers_from terms [] [] l h = refl
numbers_from terms [] (t ∷ ts) l h = absurd cc
numbers_from terms (id ∷ ids) [] l h = absurd cc
numbers_from terms (id ∷ ids) (t ∷ ts) l h =
    let rest : length ids ≡ length ts = omega (arith, l) in
    let more = numbers_from terms ids ts rest (λ k. h (suc k)) in
    ap (λ o. o ∷ map (slice_get terms) ids) (h 0 id t refl refl) ∙ ap (λ os. Some (term_view t) ∷ os) more

-- what has its symbol and the arguments of these numbers is the term
pub is_term : (terms : List Tm) (id : ℕ) (n : Node) (t : Tm) → IsNodeOf terms id n → n.symbol ≡ symbol_of t
    → AreNumbersOf terms n.parts (arguments t) → slice_get terms id ≡ Some t
is_term terms id n t of e h = (is_by_parts terms id n t true of e ((λ yes. h), (λ at. refl))).0 refl

pub one_number : (terms : List Tm) (ids : List ℕ) (p : ℕ) (a : Tm) → length ids ≡ 1 → slice_get ids 0 ≡ Some p
    → slice_get terms p ≡ Some a → AreNumbersOf terms ids (a ∷ [])
one_number terms ids p a l e h = (is_one terms ids p a true l e ((λ yes. h), (λ at. refl))).0 refl

pub listed_somes : (ts : List Term) → map Some (listed (terms_view ts)) ≡ map (λ t. Some (term_view t)) ts
listed_somes [] = refl
listed_somes (t ∷ ts) = ap (λ os. Some (term_view t) ∷ os) (listed_somes ts)
