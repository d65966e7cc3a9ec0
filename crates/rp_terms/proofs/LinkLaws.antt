-- The last numbers of hashes, with one number more.
use Rattle.std.proofs.Common.{◌≡◌, ◌≢◌, ◌≤◌, ◌⊎◌, inl, inr, ℕ, suc, length, List, [], ◌∷◌, ◌++◌, Option, None, Some, slice_get, refl, ap, sym, subst, ◌∙◌, arith, Bool, true, false, nat_eq, eq-eqb, eqb-true, true≢false}
use Rattle.std.specs.HashMap.{HashMap, get, Updates}
use Rattle.rp_terms.specs.declared.hashes.Link.{Link}
use Rattle.rp_terms.specs.means.Latest.{IsLatest}
use Rattle.rp_terms.specs.means.Links.{hashes_of, AreLinked}
use Rattle.rp_terms.proofs.Places.{kept, at_last, at_grown, within}

pub longer : (h : ℕ) (hs : List ℕ) (x b : ℕ) (o : Option ℕ) → b ≤ length hs → IsLatest h hs b o → IsLatest h (hs ++ x ∷ []) b o
longer h hs x b None le none = λ i lt e. elim (at_grown hs x h i e) [ inl f ↦ none i lt f | inr f ↦ absurd (let g = f.0 in omega (arith, le, lt, g)) ]
longer h hs x b (Some at) le l = (kept hs (x ∷ []) at h l.0, l.1, λ i gt lt e. elim (at_grown hs x h i e) [ inl f ↦ l.2 i gt lt f | inr f ↦ absurd (let g = f.0 in omega (arith, le, lt, g)) ])

other : (h : ℕ) (hs : List ℕ) (x : ℕ) (o : Option ℕ) → (h ≢ x) → IsLatest h hs (length hs) o → IsLatest h (hs ++ x ∷ []) (suc (length hs)) o
other h hs x None ne none = λ i lt e. elim (at_grown hs x h i e) [ inl f ↦ none i (within hs i h f) f | inr f ↦ ne f.1 ]
other h hs x (Some at) ne l = (kept hs (x ∷ []) at h l.0, (let le = l.1 in omega (arith, le)), λ i gt lt e. elim (at_grown hs x h i e) [ inl f ↦ l.2 i gt (within hs i h f) f | inr f ↦ ne f.1 ])

own : (hs : List ℕ) (x : ℕ) → IsLatest x (hs ++ x ∷ []) (suc (length hs)) (Some (length hs))
own hs x = (at_last hs x, omega arith, λ i gt lt. absurd (omega (arith, gt, lt)))

hashes_more : (links : List Link) (link : Link) → hashes_of (links ++ link ∷ []) ≡ hashes_of links ++ link.hash ∷ []
hashes_more [] link = refl
hashes_more (l ∷ links) link = ap (λ hs. l.hash ∷ hs) (hashes_more links link)

length_more : (hs : List ℕ) (x : ℕ) → length (hs ++ x ∷ []) ≡ suc (length hs)
length_more [] x = refl
length_more (h ∷ hs) x = ap suc (length_more hs x)

apart : (h x : ℕ) → nat_eq x h ≡ false → h ≢ x
apart h x e same = absurd (true≢false (sym (eq-eqb x h (sym same)) ∙ e))

hashes_length : (links : List Link) → length (hashes_of links) ≡ length links
hashes_length [] = refl
hashes_length (l ∷ links) = ap suc (hashes_length links)

module _ {S : Type 0} (last new : HashMap ℕ ℕ S) (links : List Link) (link : Link) (linked : AreLinked last links)
    (up : Updates nat_eq last new link.hash (Some (length links)))
    (before : IsLatest link.hash (hashes_of links) (length (hashes_of links)) link.before) where
  abbrev hs : List ℕ
  hs = hashes_of links

  grown : (h : ℕ) (o : Option ℕ) → IsLatest h (hs ++ link.hash ∷ []) (suc (length hs)) o
      → IsLatest h (hashes_of (links ++ link ∷ [])) (length (hashes_of (links ++ link ∷ []))) o
  grown h o l =
      subst (λ (ks : List ℕ). IsLatest h ks (length ks) o) (sym (hashes_more links link))
      (subst (λ (n : ℕ). IsLatest h (hs ++ link.hash ∷ []) n o) (sym (length_more hs link.hash)) l)

  newest : (h : ℕ) (b : Bool) → nat_eq link.hash h ≡ b
      → IsLatest h (hs ++ link.hash ∷ []) (suc (length hs)) (get nat_eq new h)
  newest h true e =
      let same : link.hash ≡ h = eqb-true link.hash h e in
      let value : Some (length hs) ≡ get nat_eq new link.hash = ap Some (hashes_length links) ∙ sym up.1 in
      subst (λ (k : ℕ). IsLatest k (hs ++ link.hash ∷ []) (suc (length hs)) (get nat_eq new k)) same
      (subst (λ (o : Option ℕ). IsLatest link.hash (hs ++ link.hash ∷ []) (suc (length hs)) o) value (own hs link.hash))
  newest h false e =
      subst (λ (o : Option ℕ). IsLatest h (hs ++ link.hash ∷ []) (suc (length hs)) o) (sym (up.2 h e))
      (other h hs link.hash (get nat_eq last h) (apart h link.hash e) (linked.newest h))

  before_each : (i : ℕ) (l : Link) → (slice_get links i ≡ Some l) ⊎ ((i ≡ length links) × (l ≡ link))
      → IsLatest l.hash (hs ++ link.hash ∷ []) i l.before
  before_each i l (inl f) =
      let le = within links i l f in
      let same = hashes_length links in
      longer l.hash hs link.hash i l.before (omega (arith, le, same)) (linked.each i l f)
  before_each i l (inr f) =
      subst (λ (m : Link). IsLatest m.hash (hs ++ link.hash ∷ []) i m.before) (sym f.1)
      (subst (λ (n : ℕ). IsLatest link.hash (hs ++ link.hash ∷ []) n link.before) (hashes_length links ∙ sym f.0)
      (longer link.hash hs link.hash (length hs) link.before (omega arith) before))

  pub still_linked : AreLinked new (links ++ link ∷ [])
  still_linked = record {
    newest = λ h. grown h (get nat_eq new h) (newest h (nat_eq link.hash h) refl);
    each = λ i l e. subst (λ (ks : List ℕ). IsLatest l.hash ks i l.before) (sym (hashes_more links link)) (before_each i l (at_grown links link l i e));
  }
