-- A verdict says exactly what the rules say.
use Rattle.std.proofs.Common.{◌≡◌, ◌↔◌, inl, inr, ⊎_elim, ℕ, suc, List, [], ◌∷◌, ◌++◌, Option, Some, None, refl, ap₂, sym, ◌∙◌, subst}
use Rattle.std.proofs.lemmas.Option.{none-some, same_Some}
use Rattle.rp_logic.specs.Signatures.{Signature}
use Rattle.rp_logic.proofs.SortLaws.{HasOneIntAndStr}
use Rattle.refute_defs.specs.Uses.{Use, Nd, Rule, Unvisited, Current}
use Rattle.refute_defs.specs.Additions.{Addition}
use Rattle.refute_defs.specs.Branches.{Branch, extend_each}
use Rattle.refute_defs.specs.Children.{children}
use Rattle.refute_defs.specs.Closed.{AreClosed, FirstBadFrom}
use Rattle.refute_defs.specs.Verdicts.{Accepted, Bad, verdict_from}
use Rattle.refute_defs.proofs.Meets.{meets}
use Rattle.refute_defs.proofs.Gives.{gives}

never : {P : Type 0} (n r : ℕ) → Bad n r ≡ Accepted → P
never n r e = absurd cc

not_bad : {P : Type 0} (n r : ℕ) → Accepted ≡ Bad n r → P
not_bad n r e = absurd cc

bad_is : (n r k q : ℕ) → (Bad n r ≡ Bad k q) ↔ ((k ≡ n) × (q ≡ r))
bad_is n r k q = ((λ e. (cc, cc)), λ h. ap₂ Bad (sym h.0) (sym h.1))

module _ (S : Signature) (one : HasOneIntAndStr S) where
  -- a node of a rule, where the rest is exact
  closed_here : (n : ℕ) (b : Branch) (bs : List Branch) (u : Use) (nodes : List Nd)
      → ((ks : List Branch) → (verdict_from S (suc n) ks nodes ≡ Accepted) ↔ AreClosed S ks nodes)
      → (o : Option (List Addition)) → children S b u ≡ o
      → ((elim o [ None ↦ Bad n u.rule | Some adds ↦ verdict_from S (suc n) (extend_each b adds ++ bs) nodes ]) ≡ Accepted) ↔ AreClosed S (b ∷ bs) (Rule u ∷ nodes)
  closed_here n b bs u nodes rest None e =
      ((λ h. never n u.rule h), λ h. absurd (none-some h.0 (sym e ∙ gives S one b u h.0 h.1)))
  closed_here n b bs u nodes rest (Some adds) e = (
    (λ h. (adds, meets S one b u adds e, (rest (extend_each b adds ++ bs)).0 h)),
    λ h.
        let same : h.0 ≡ adds = same_Some h.0 adds (sym (gives S one b u h.0 h.1) ∙ e) in
        (rest (extend_each b adds ++ bs)).1 (subst (λ x. AreClosed S (extend_each b x ++ bs) nodes) same h.2),
  )

  pub closed_exact : (nodes : List Nd) (n : ℕ) (bs : List Branch)
      → (verdict_from S n bs nodes ≡ Accepted) ↔ AreClosed S bs nodes
  closed_exact [] n [] = ((λ h. tt), λ h. refl)
  closed_exact [] n (b ∷ bs) = ((λ h. never n 0 h), λ h. absurd h)
  closed_exact (node ∷ nodes) n [] = ((λ h. never n 0 h), λ h. absurd h)
  closed_exact (Rule u ∷ nodes) n (b ∷ bs) =
      closed_here n b bs u nodes (λ ks. closed_exact nodes (suc n) ks) (children S b u) refl
  closed_exact (Unvisited ∷ nodes) n (b ∷ bs) = ((λ h. never n 0 h), λ h. absurd h)
  closed_exact (Current ∷ nodes) n (b ∷ bs) = ((λ h. never n 0 h), λ h. absurd h)

  bad_here : (n : ℕ) (b : Branch) (bs : List Branch) (u : Use) (nodes : List Nd) (k q : ℕ)
      → ((ks : List Branch) → (verdict_from S (suc n) ks nodes ≡ Bad k q) ↔ FirstBadFrom S (suc n) ks nodes k q)
      → (o : Option (List Addition)) → children S b u ≡ o
      → ((elim o [ None ↦ Bad n u.rule | Some adds ↦ verdict_from S (suc n) (extend_each b adds ++ bs) nodes ]) ≡ Bad k q) ↔ FirstBadFrom S n (b ∷ bs) (Rule u ∷ nodes) k q
  bad_here n b bs u nodes k q rest None e = (
    (λ h. let r = (bad_is n u.rule k q).0 h in inl ((λ adds step. absurd (none-some adds (sym e ∙ gives S one b u adds step))), r.0, r.1)),
    λ h. ⊎_elim (λ l. (bad_is n u.rule k q).1 (l.1, l.2)) (λ r. absurd (none-some r.0 (sym e ∙ gives S one b u r.0 r.1))) h,
  )
  bad_here n b bs u nodes k q rest (Some adds) e = (
    (λ h. inr (adds, meets S one b u adds e, (rest (extend_each b adds ++ bs)).0 h)),
    λ h. ⊎_elim (λ l. absurd (l.0 adds (meets S one b u adds e))) (λ r.
        let same : r.0 ≡ adds = same_Some r.0 adds (sym (gives S one b u r.0 r.1) ∙ e) in
        (rest (extend_each b adds ++ bs)).1 (subst (λ x. FirstBadFrom S (suc n) (extend_each b x ++ bs) nodes k q) same r.2)) h,
  )

  pub bad_exact : (nodes : List Nd) (n : ℕ) (bs : List Branch) (k q : ℕ)
      → (verdict_from S n bs nodes ≡ Bad k q) ↔ FirstBadFrom S n bs nodes k q
  bad_exact [] n [] k q = ((λ h. not_bad k q h), λ h. absurd h)
  bad_exact [] n (b ∷ bs) k q = bad_is n 0 k q
  bad_exact (node ∷ nodes) n [] k q = bad_is n 0 k q
  bad_exact (Rule u ∷ nodes) n (b ∷ bs) k q =
      bad_here n b bs u nodes k q (λ ks. bad_exact nodes (suc n) ks k q) (children S b u) refl
  bad_exact (Unvisited ∷ nodes) n (b ∷ bs) k q = bad_is n 0 k q
  bad_exact (Current ∷ nodes) n (b ∷ bs) k q = bad_is n 0 k q
