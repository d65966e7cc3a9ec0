-- What nodes hold, with one node more.
use Rattle.std.proofs.Common.{◌≡◌, ◌<◌, ◌⊎◌, inl, inr, ℕ, zero, suc, ◌+◌, length, List, [], ◌∷◌, ◌++◌, Some, slice_get, refl, ap, sym, subst, ◌∙◌, arith, map}
use Rattle.std.specs.Option.{unwrap_or}
use Rattle.rp_logic.specs.Terms as tm
use Rattle.rp_logic.specs.Terms.{Tm, Tms, no_tm, also_tm}
use Rattle.rp_logic.specs.Views.{tms_of}
use Rattle.rp_terms.specs.declared.node.Node.{Node}
use Rattle.rp_terms.specs.Symbols.{symbol_of, arguments, listed}
use Rattle.rp_terms.specs.Numbered.{AreDifferent, HasNoNumber, AreNumbersOf}
use Rattle.rp_terms.specs.means.Built.{junk, tree, picked, terms_from, terms_of, IsNode, AreBuilt}
use Rattle.rp_terms.specs.means.Hash.{term_hash}
use Rattle.rp_terms.proofs.Places.{kept, at_grown, within}

-- # Terms of nodes

pub from_more : (ts : List Tm) (nodes : List Node) (n : Node)
    → terms_from ts (nodes ++ n ∷ []) ≡ terms_from ts nodes ++ tree n.symbol (picked (terms_from ts nodes) n.parts) ∷ []
from_more ts [] n = refl
from_more ts (m ∷ nodes) n = from_more (ts ++ tree m.symbol (picked ts m.parts) ∷ []) nodes n

length_more : {X : Type 0} (xs : List X) (x : X) → length (xs ++ x ∷ []) ≡ suc (length xs)
length_more [] x = refl
length_more (y ∷ xs) x = ap suc (length_more xs x)

from_length : (ts : List Tm) (nodes : List Node) → length (terms_from ts nodes) ≡ length ts + length nodes
from_length ts [] = omega arith
from_length ts (m ∷ nodes) =
    let t = tree m.symbol (picked ts m.parts) in
    let e = from_length (ts ++ t ∷ []) nodes in
    let l = length_more ts t in
    omega (arith, e, l)

pub built_length : (nodes : List Node) → length (terms_of nodes) ≡ length nodes
built_length nodes = let e = from_length [] nodes in omega (arith, e)

-- # A term by its symbol and its arguments

listed_again : (ts : Tms) → tms_of (listed ts) ≡ ts
listed_again no_tm = refl
listed_again (also_tm t ts) = ap (also_tm t) (listed_again ts)

pub tree_again : (t : Tm) → tree (symbol_of t) (arguments t) ≡ t
tree_again (tm.Var n) = refl
tree_again (tm.Const c) = refl
tree_again (tm.Fn f args) = ap (tm.Fn f) (listed_again args)
tree_again (tm.Int n) = refl
tree_again (tm.Str bytes) = refl
tree_again (tm.Con con args) = ap (tm.Con con) (listed_again args)
tree_again (tm.Sel con i t) = refl
tree_again (tm.Plus t n) = refl

-- a symbol and arguments make one term
pub one_tree : (s t : Tm) → symbol_of s ≡ symbol_of t → arguments s ≡ arguments t → s ≡ t
one_tree s t e f = sym (tree_again s) ∙ ap (λ y. tree y (arguments s)) e ∙ ap (tree (symbol_of t)) f ∙ tree_again t

pub picked_are : (terms : List Tm) (ids : List ℕ) (ts : List Tm) → AreNumbersOf terms ids ts → picked terms ids ≡ ts
picked_are terms [] [] h = refl
picked_are terms [] (t ∷ ts) h = absurd cc
picked_are terms (id ∷ ids) [] h = absurd cc
picked_are terms (id ∷ ids) (t ∷ ts) h =
    let first : slice_get terms id ≡ Some t = cc in
    let rest : AreNumbersOf terms ids ts = cc in
    ap (λ o. unwrap_or o junk ∷ picked terms ids) first ∙ ap (λ us. t ∷ us) (picked_are terms ids ts rest)

-- # Numbers of arguments

-- they are still theirs among more terms
pub numbers_kept : (terms more : List Tm) (ids : List ℕ) (ts : List Tm) → AreNumbersOf terms ids ts → AreNumbersOf (terms ++ more) ids ts
numbers_kept terms more [] [] h = refl
numbers_kept terms more [] (t ∷ ts) h = absurd cc
numbers_kept terms more (id ∷ ids) [] h = absurd cc
numbers_kept terms more (id ∷ ids) (t ∷ ts) h =
    let first : slice_get terms id ≡ Some t = cc in
    let rest : AreNumbersOf terms ids ts = cc in
    let now = kept terms more id t first in
    let later = numbers_kept terms more ids ts rest in
    ap (λ o. o ∷ map (slice_get (terms ++ more)) ids) now ∙ ap (λ os. Some t ∷ os) later

-- each of them is a number
pub numbers_within : (terms : List Tm) (ids : List ℕ) (ts : List Tm) → AreNumbersOf terms ids ts
    → (k p : ℕ) → slice_get ids k ≡ Some p → p < length terms
numbers_within terms [] ts h k p e = absurd cc
numbers_within terms (id ∷ ids) [] h k p e = absurd cc
numbers_within terms (id ∷ ids) (t ∷ ts) h zero p e =
    let first : slice_get terms p ≡ Some t = cc in
    within terms p t first
numbers_within terms (id ∷ ids) (t ∷ ts) h (suc k) p e =
    let rest : AreNumbersOf terms ids ts = cc in
    numbers_within terms ids ts rest k p e

-- terms with no two numbers give one list of numbers
pub one_numbers : (terms : List Tm) (ids js : List ℕ) (ts : List Tm) → AreDifferent terms → AreNumbersOf terms ids ts → AreNumbersOf terms js ts → ids ≡ js
one_numbers terms [] [] ts d g h = refl
one_numbers terms [] (j ∷ js) [] d g h = absurd cc
one_numbers terms [] (j ∷ js) (t ∷ ts) d g h = absurd cc
one_numbers terms (i ∷ ids) [] [] d g h = absurd cc
one_numbers terms (i ∷ ids) [] (t ∷ ts) d g h = absurd cc
one_numbers terms (i ∷ ids) (j ∷ js) [] d g h = absurd cc
one_numbers terms (i ∷ ids) (j ∷ js) (t ∷ ts) d g h =
    let a : slice_get terms i ≡ Some t = cc in
    let b : slice_get terms j ≡ Some t = cc in
    let e : AreNumbersOf terms ids ts = cc in
    let f : AreNumbersOf terms js ts = cc in
    ap (λ k. k ∷ ids) (d i j t a b) ∙ ap (λ ks. j ∷ ks) (one_numbers terms ids js ts d e f)

-- # One more term

different_more : (terms : List Tm) (t : Tm) → AreDifferent terms → HasNoNumber terms t → AreDifferent (terms ++ t ∷ [])
different_more terms t d none i j u e f = go (at_grown terms t u i e) (at_grown terms t u j f)
  where
    go : (slice_get terms i ≡ Some u) ⊎ ((i ≡ length terms) × (u ≡ t))
        → (slice_get terms j ≡ Some u) ⊎ ((j ≡ length terms) × (u ≡ t)) → i ≡ j
    go (inl a) (inl b) = d i j u a b
    go (inl a) (inr b) = absurd (none i (a ∙ ap Some b.1))
    go (inr a) (inl b) = absurd (none j (b ∙ ap Some a.1))
    go (inr a) (inr b) = a.0 ∙ sym b.0

pub map_more : {X Y : Type 0} (f : X → Y) (xs : List X) (x : X) → map f (xs ++ x ∷ []) ≡ map f xs ++ f x ∷ []
map_more f [] x = refl
map_more f (y ∷ xs) x = ap (λ ys. f y ∷ ys) (map_more f xs x)

module _ (nodes : List Node) (hashes : List ℕ) (built : AreBuilt nodes hashes) (t : Tm) (n : Node)
    (symbol : n.symbol ≡ symbol_of t) (parts : AreNumbersOf (terms_of nodes) n.parts (arguments t)) where
  pub terms_more : terms_of (nodes ++ n ∷ []) ≡ terms_of nodes ++ t ∷ []
  terms_more =
      from_more [] nodes n
      ∙ ap (λ u. terms_of nodes ++ u ∷ []) (ap (λ y. tree y (picked (terms_of nodes) n.parts)) symbol
      ∙ ap (tree (symbol_of t)) (picked_are (terms_of nodes) n.parts (arguments t) parts) ∙ tree_again t)

  node_more : (id : ℕ) (m : Node) (u : Tm) → (slice_get nodes id ≡ Some m) ⊎ ((id ≡ length nodes) × (m ≡ n))
      → (slice_get (terms_of nodes) id ≡ Some u) ⊎ ((id ≡ length (terms_of nodes)) × (u ≡ t))
      → IsNode (terms_of nodes ++ t ∷ []) id m u
  node_more id m u (inl a) (inl b) =
      let old = built.each id m u a b in
      record { symbol = old.symbol; parts = numbers_kept (terms_of nodes) (t ∷ []) m.parts (arguments u) old.parts; earlier = old.earlier }
  node_more id m u (inl a) (inr b) = absurd (let le = within nodes id m a in let e = b.0 in let l = built_length nodes in omega (arith, le, e, l))
  node_more id m u (inr a) (inl b) = absurd (let le = within (terms_of nodes) id u b in let e = a.0 in let l = built_length nodes in omega (arith, le, e, l))
  node_more id m u (inr a) (inr b) =
      subst (λ (v : Tm). IsNode (terms_of nodes ++ t ∷ []) id m v) (sym b.1)
      (subst (λ (o : Node). IsNode (terms_of nodes ++ t ∷ []) id o t) (sym a.1)
      (record {
        symbol = symbol;
        parts = numbers_kept (terms_of nodes) (t ∷ []) n.parts (arguments t) parts;
        earlier = λ k p e. subst (λ (b : ℕ). p < b) (sym b.0) (numbers_within (terms_of nodes) n.parts (arguments t) parts k p e);
      }))

  pub built_more : HasNoNumber (terms_of nodes) t → AreBuilt (nodes ++ n ∷ []) (hashes ++ term_hash t ∷ [])
  built_more none = record {
    each = λ id m u a b.
        subst (λ (ts : List Tm). IsNode ts id m u) (sym terms_more)
        (node_more id m u (at_grown nodes n m id a)
        (at_grown (terms_of nodes) t u id (ap (λ ts. slice_get ts id) (sym terms_more) ∙ b)));
    hashed = ap (λ hs. hs ++ term_hash t ∷ []) built.hashed ∙ sym (map_more term_hash (terms_of nodes) t) ∙ ap (map term_hash) (sym terms_more);
    different = subst AreDifferent (sym terms_more) (different_more (terms_of nodes) t built.different none);
  }
