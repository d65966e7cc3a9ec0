-- The hash of a term from its symbol and its arguments.
use Rattle.std.proofs.Common.{◌≡◌, ℕ, zero, suc, ◌+◌, List, [], ◌∷◌, slice_get, Some, refl, ap, sym, ◌∙◌, map, drop, arith}
use Rattle.rp_logic.specs.Terms as tm
use Rattle.rp_logic.specs.Terms.{Tm, Tms, no_tm, also_tm}
use Rattle.rp_terms.specs.Symbols.{symbol_of, arguments, listed}
use Rattle.rp_terms.specs.Numbered.{AreNumbersOf}
use Rattle.rp_terms.specs.means.Hash.{symbol_hash, term_hash, terms_hash, mixed, mixed_all}

hashes_again : (h : ℕ) (ts : Tms) → terms_hash h ts ≡ mixed_all h (map term_hash (listed ts))
hashes_again h no_tm = refl
hashes_again h (also_tm t ts) = hashes_again (mixed h (term_hash t)) ts

pub hash_again : (t : Tm) → term_hash t ≡ mixed_all (symbol_hash (symbol_of t)) (map term_hash (arguments t))
hash_again (tm.Var n) = refl
hash_again (tm.Const c) = refl
hash_again (tm.Fn f args) = hashes_again _ args
hash_again (tm.Int n) = refl
hash_again (tm.Str bytes) = refl
hash_again (tm.Con con args) = hashes_again _ args
hash_again (tm.Sel con i t) = refl
hash_again (tm.Plus t n) = refl

pub number_drop : (terms : List Tm) (ids : List ℕ) (ts : List Tm) → AreNumbersOf terms ids ts → (k p : ℕ) → slice_get ids k ≡ Some p
    → (a : Tm) × (slice_get terms p ≡ Some a) × (drop k ts ≡ a ∷ drop (k + 1) ts)
number_drop terms [] ts h k p e = absurd cc
number_drop terms (id ∷ ids) [] h k p e = absurd cc
number_drop terms (id ∷ ids) (t ∷ ts) h zero p e =
    let first : slice_get terms id ≡ Some t = cc in
    let number : id ≡ p = cc in
    (t, ap (slice_get terms) (sym number) ∙ first, refl)
number_drop terms (id ∷ ids) (t ∷ ts) h (suc k) p e =
    let rest : AreNumbersOf terms ids ts = cc in
    let more = number_drop terms ids ts rest k p e in
    let next : suc k + 1 ≡ suc (k + 1) = omega arith in
    let past : drop (k + 1) ts ≡ drop (suc k + 1) (t ∷ ts) = ap (λ n. drop n (t ∷ ts)) (sym next) in
    (more.0, more.1, more.2 ∙ ap (λ us. more.0 ∷ us) past)
