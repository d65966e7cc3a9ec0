-- Texts of a table.
use Rattle.std.proofs.Common.{◌≡◌, ℕ, suc, ◌≤◌, Bool, true, false, ◌&&◌, ◌||◌, cond, eqb, List, [], ◌∷◌, ◌++◌, length, take, refl, sym, ap, subst, ◌∙◌, arith, ⊎_elim, Option, Some, None}
use Rattle.std.specs.Str.{bytes_eq}
use Rattle.std.proofs.lemmas.Bool.{and_parts, or_cases}
use Rattle.std.proofs.lemmas.Bool.Decides.{eqb_tells}
use Rattle.std.proofs.lemmas.Slice.Eq.{bytes_eq-Decides}
use Rattle.rp_grammar.specs.Bytes.{is_one_of}

abbrev pub all_of : (List ℕ → Bool) → List (List ℕ) → Bool
all_of q [] = true
all_of q (w ∷ ws) = q w && all_of q ws

-- what holds of each text of a table holds of one of them
pub one_of_passes : (q : List ℕ → Bool) (ws : List (List ℕ)) (bs : List ℕ) → all_of q ws ≡ true → is_one_of ws bs ≡ true → q bs ≡ true
one_of_passes q [] bs a h = cc
one_of_passes q (w ∷ ws) bs a h =
    ⊎_elim
    (λ e. subst (λ x. q x ≡ true) ((bytes_eq-Decides w bs).0 e) ((and_parts (q w) (all_of q ws) a).0))
    (λ e. one_of_passes q ws bs ((and_parts (q w) (all_of q ws) a).1) e)
    (or_cases (bytes_eq w bs) (is_one_of ws bs) h)

-- the rests of those texts that begin with b
abbrev pub after : ℕ → List (List ℕ) → List (List ℕ)
after b [] = []
after b ([] ∷ ws) = after b ws
after b ((c ∷ w) ∷ ws) = cond (eqb c b) (w ∷ after b ws) (after b ws)

abbrev pub longer : Option ℕ → Bool → Option ℕ
longer (Some n) e = Some (suc n)
longer None true = Some 0
longer None false = None

-- the length of the longest text of the table that the bytes begin with
abbrev pub longest : List (List ℕ) → List ℕ → Option ℕ
longest ws [] = cond (is_one_of ws []) (Some 0) None
longest ws (b ∷ bs) = longer (longest (after b ws) bs) (is_one_of ws [])

pub one_of_after : (ws : List (List ℕ)) (b : ℕ) (bs : List ℕ) → is_one_of ws (b ∷ bs) ≡ is_one_of (after b ws) bs
one_of_after [] b bs = refl
one_of_after ([] ∷ ws) b bs = one_of_after ws b bs
one_of_after ((c ∷ w) ∷ ws) b bs =
    let later = one_of_after ws b bs in
    ⊎_elim
    (λ e. rw (e.0) (ap (λ r. bytes_eq w bs || r) later))
    (λ e. rw (e.0) later)
    (eqb_tells c b)

pub record Found (ws : List (List ℕ)) (bs : List ℕ) (least : ℕ) : Type 0 where
  pub n : ℕ
  pub is : longest ws bs ≡ Some n
  pub least_is : least ≤ n

longer_found : (o : Option ℕ) (e : Bool) (m : ℕ) → o ≡ Some m → longer o e ≡ Some (suc m)
longer_found o e m h = ap (λ x. longer x e) h

found_end : (o : Option ℕ) → (n : ℕ) × (longer o true ≡ Some n)
found_end (Some n) = (suc n, refl)
found_end None = (0, refl)

-- a text of the table at the front is no longer than the longest
pub longest_found : (ws : List (List ℕ)) (bs more : List ℕ) → is_one_of ws bs ≡ true → Found ws (bs ++ more) (length bs)
longest_found ws [] [] h = record { n = 0; is = rw h refl; least_is = omega arith }
longest_found ws [] (m ∷ more) h =
    let (n, e) = found_end (longest (after m ws) more) in
    record { n = n; is = rw h e; least_is = omega arith }
longest_found ws (b ∷ bs) more h =
    let f = longest_found (after b ws) bs more (sym (one_of_after ws b bs) ∙ h) in
    let l = f.least_is in
    record { n = suc f.n; is = longer_found _ _ f.n f.is; least_is = omega arith }

pub record Stands (ws : List (List ℕ)) (bs : List ℕ) (n : ℕ) : Type 0 where
  pub within : n ≤ length bs
  pub is : is_one_of ws (take n bs) ≡ true

stands_end : (ws : List (List ℕ)) (bs : List ℕ) (t : Bool) (n : ℕ) → t ≡ is_one_of ws [] → cond t (Some 0) None ≡ Some n → Stands ws bs n
stands_end ws bs true n e h = let z : 0 ≡ n = cc in subst (Stands ws bs) z (record { within = omega arith; is = sym e })
stands_end ws bs false n e h = cc

stands_more : (ws : List (List ℕ)) (b : ℕ) (bs : List ℕ) (o : Option ℕ) (t : Bool) (n : ℕ) → t ≡ is_one_of ws [] → ((m : ℕ) → o ≡ Some m → Stands (after b ws) bs m) → longer o t ≡ Some n → Stands ws (b ∷ bs) n
stands_more ws b bs (Some m) t n e s h =
    let z : suc m ≡ n = cc in
    let i = s m refl in
    let w = i.within in
    subst (Stands ws (b ∷ bs)) z (record { within = omega arith; is = one_of_after ws b (take m bs) ∙ i.is })
stands_more ws b bs None true n e s h = let z : 0 ≡ n = cc in subst (Stands ws (b ∷ bs)) z (record { within = omega arith; is = sym e })
stands_more ws b bs None false n e s h = cc

-- the longest stands in the table
pub longest_stands : (ws : List (List ℕ)) (bs : List ℕ) (n : ℕ) → longest ws bs ≡ Some n → Stands ws bs n
longest_stands ws [] n h = stands_end ws [] (is_one_of ws []) n refl h
longest_stands ws (b ∷ bs) n h = stands_more ws b bs (longest (after b ws) bs) (is_one_of ws []) n refl (longest_stands (after b ws) bs) h

pub longest_none : (bs : List ℕ) → longest [] bs ≡ None
longest_none [] = refl
longest_none (b ∷ bs) = rw (longest_none bs) refl

pub longest_empty : (bs : List ℕ) → longest ([] ∷ []) bs ≡ Some 0
longest_empty [] = refl
longest_empty (b ∷ bs) = rw (longest_none bs) refl
