-- The grammar has one answer for some tokens: their tree, their first bad token, or the first one that is too deep.
use Rattle.std.proofs.Common.{◌≡◌, ℕ, suc, zero, ◌+◌, ◌<◌, ◌≤◌, List, [], ◌∷◌, ◌++◌, ◌⊎◌, inl, inr, length, take, drop, Option, Some, None, refl, sym, ap, subst, ◌∙◌, arith, append_assoc, add-one, length-drop, take-append-drop}
use Rattle.rp_span.specs.declared.Span.{Span}
use Rattle.rp_grammar.specs.Terminals.{Terminal, Tok, at, Placed, on, plain}
use Rattle.rp_grammar.specs.Trees.{DeclTree}
use Rattle.rp_grammar.specs.Begins.{AtMost, IsTreeWithin, IsFirstBad, IsTooDeep, EndsInEnd}
use Rattle.rp_tokens.specs.MachineStates.{State, in_decls, Move, to}
use Rattle.rp_tokens.specs.Machine.{step, done, stuck, run, place, Bounded, whole, deep, bounded}
use Rattle.rp_tokens.proofs.Comes.{go, place_on, plains}
use Rattle.rp_tokens.proofs.AcceptsDecls.{accepts}
use Rattle.rp_tokens.proofs.Leads.{Leads, Back}
use Rattle.rp_tokens.proofs.LeadsSteps.{step_back}
use Rattle.rp_tokens.proofs.Completes.{completes}
use Rattle.rp_tokens.proofs.Places.{found_tree, only_tree, refused_left, deep_left}
use Rattle.rp_tokens.proofs.Bounded.{step_to, step_deep, step_refused}

plains-append : (a b : List Placed) → plains (a ++ b) ≡ plains a ++ plains b
plains-append [] b = refl
plains-append (x ∷ a) b = ap (λ l. plain x ∷ l) (plains-append a b)

-- where the machine is behind the first tokens of a program
record Middle (m : ℕ) (s : State) (ms more : List Placed) (t : List DeclTree) : Type 0 where
  pub reached : State
  pub same : (us : List Tok) → AtMost m ms → bounded m s (plains ms ++ us) ≡ bounded m reached us
  pub runs : run reached (plains more) ≡ done t
  pub placed : place reached (plains more) ≡ more
  pub back : (us : List Placed) (u : List DeclTree) → Leads reached us u → Leads s (ms ++ us) u

stuck_or_done : (r : List Tok) (t : List DeclTree) → stuck r ≡ done t → ⊥
stuck_or_done r t h = cc

same_nesting : (x : Terminal) (v : Span) (c d : ℕ) (a b : List Placed) → on x v c ∷ a ≡ on x v d ∷ b → c ≡ d
same_nesting x v c d a b h = cc

same_behind : (p q : Placed) (a b : List Placed) → p ∷ a ≡ q ∷ b → a ≡ b
same_behind p q a b h = cc

middle_from : (m : ℕ) (s : State) (x : Terminal) (v : Span) (d : ℕ) (ms more : List Placed) (t : List DeclTree) (o : Option Move) → step s x v ≡ o → Back (Leads s) x v o → go (at x v) (plains (ms ++ more)) o ≡ done t → place_on x v (plains (ms ++ more)) o ≡ on x v d ∷ (ms ++ more)
    → ((n : State) → run n (plains (ms ++ more)) ≡ done t → place n (plains (ms ++ more)) ≡ ms ++ more → Middle m n ms more t)
    → Middle m s (on x v d ∷ ms) more t
middle_from m s x v d ms more t None is b r p ih = absurd (stuck_or_done _ t r)
middle_from m s x v d ms more t (Some (to c n)) is b r p ih =
    let e : c ≡ d = same_nesting x v c d _ _ p in
    let f : Middle m n ms more t = ih n r (same_behind _ _ _ _ p) in
    record {
      reached = f.reached;
      same = λ us a. step_to m c s n x v (plains ms ++ us) is (subst (λ d. d ≤ m) (sym e) a.0) ∙ f.same us a.1;
      runs = f.runs;
      placed = f.placed;
      back = λ us u l. subst (λ d. Leads s (on x v d ∷ ms ++ us) u) e (b (ms ++ us) u (f.back us u l));
    }

middle : (m : ℕ) (ms : List Placed) (s : State) (more : List Placed) (t : List DeclTree) → run s (plains (ms ++ more)) ≡ done t → place s (plains (ms ++ more)) ≡ ms ++ more → Middle m s ms more t
middle m [] s more t r p = record { reached = s; same = λ us a. refl; runs = r; placed = p; back = λ us u l. l }
middle m (on x v d ∷ ms) s more t r p = middle_from m s x v d ms more t (step s x v) refl (step_back s x v) r p (λ n r p. middle m ms n more t r p)

-- the first bad token is refused

take_next : (k : ℕ) (ts : List Tok) (x : Tok) (rest : List Tok) → drop k ts ≡ x ∷ rest → take (suc k) ts ≡ take k ts ++ x ∷ []
take_next zero [] x rest h = cc
take_next zero (y ∷ ts) x rest h = cc
take_next (suc k) [] x rest h = cc
take_next (suc k) (y ∷ ts) x rest h = ap (λ l. y ∷ l) (take_next k ts x rest h)

refused_from : (m : ℕ) (s : State) (x : Terminal) (v : Span) (us : List Tok) (o : Option Move) → step s x v ≡ o → ((d : ℕ) (n : State) → step s x v ≡ Some (to d n) → ⊥) → bounded m s (at x v ∷ us) ≡ whole (stuck (at x v ∷ us))
refused_from m s x v us None is h = step_refused m s x v us is
refused_from m s x v us (Some (to d n)) is h = absurd (h d n is)

refused_at : (m : ℕ) (s : State) (us : List Tok) → 0 < length us → ((x : Terminal) (v : Span) (rest : List Tok) (d : ℕ) (n : State) → us ≡ at x v ∷ rest → step s x v ≡ Some (to d n) → ⊥) → bounded m s us ≡ whole (stuck us)
refused_at m s [] lt h = absurd (omega arith)
refused_at m s (at x v ∷ us) lt h = refused_from m s x v us (step s x v) refl (λ d n e. h x v us d n refl e)

begins_with : (ms us : List Placed) (x : Terminal) (v : Span) (d : ℕ) (ts rest : List Tok) (k : ℕ) → plains ms ≡ take k ts → drop k ts ≡ at x v ∷ rest → plains (ms ++ on x v d ∷ us) ≡ take (k + 1) ts ++ plains us
begins_with ms us x v d ts rest k e h =
    plains-append ms (on x v d ∷ us) ∙ ap (λ l. l ++ at x v ∷ plains us) e ∙ sym (append_assoc (take k ts) (at x v ∷ []) (plains us))
    ∙ ap (λ l. l ++ plains us) (sym (take_next k ts (at x v) rest h) ∙ ap (λ n. take n ts) (sym (add-one k)))

pub only_bad : (m : ℕ) (ts : List Tok) (k : ℕ) → IsFirstBad m ts k → bounded m (in_decls []) ts ≡ whole (stuck (drop k ts))
only_bad m ts k (lt, (ms, more, tree, p, e, a), bad) =
    let (r, q) = accepts (ms ++ more) tree p in
    let f : Middle m (in_decls []) ms more tree = middle m ms (in_decls []) more tree r q in
    subst (λ us. bounded m (in_decls []) us ≡ whole (stuck (drop k ts))) (ap (λ l. l ++ drop k ts) e ∙ take-append-drop k ts)
    (f.same (drop k ts) a ∙ refused_at m f.reached (drop k ts) (omega (arith, lt, length-drop k ts)) (λ x v rest d n h is.
    let (us, t, l, g) = completes n in
    let b : Back (Leads f.reached) x v (Some (to d n)) = subst (Back (Leads f.reached) x v) is (step_back f.reached x v) in
    let (qs, c, z) = f.back (on x v d ∷ us) t (b us t l) in
    bad (plains us, qs, (ms ++ on x v d ∷ us, begins_with ms us x v d ts rest k e h, c))))

-- the first token that is too deep is found so

split : (k : ℕ) (ts front : List Tok) (x : Tok) → k < length ts → take (suc k) ts ≡ front ++ x ∷ [] → (take k ts ≡ front) × (drop k ts ≡ x ∷ drop (suc k) ts)
split k [] front x lt h = absurd (omega arith)
split zero (y ∷ ts) [] x lt h = (refl, cc)
split zero (y ∷ ts) (z ∷ []) x lt h = cc
split zero (y ∷ ts) (z ∷ w ∷ front) x lt h = cc
split (suc k) (y ∷ []) front x lt h = absurd (omega arith)
split (suc k) (y ∷ w ∷ ts) [] x lt h = cc
split (suc k) (y ∷ w ∷ ts) (z ∷ front) x lt h =
    let (a, b) = split k (w ∷ ts) front x (omega arith) (cc h) in (cc (a, h), b)

deep_next : (m : ℕ) (s : State) (x : Terminal) (v : Span) (d : ℕ) (more : List Placed) (rest : List Tok) (o : Option Move) → step s x v ≡ o → place_on x v (plains more) o ≡ on x v d ∷ more → m < d → bounded m s (at x v ∷ rest) ≡ deep (at x v ∷ rest)
deep_next m s x v d more rest None is p lt = cc
deep_next m s x v d more rest (Some (to c n)) is p lt = step_deep m c s n x v rest is (subst (λ d. m < d) (sym (same_nesting x v c d _ _ p)) lt)

pub only_too_deep : (m : ℕ) (ts : List Tok) (k : ℕ) → IsTooDeep m ts k → bounded m (in_decls []) ts ≡ deep (drop k ts)
only_too_deep m ts k (lt, ms, more, on x v d, tree, p, e, a, g) =
    let (r, q) = accepts (ms ++ on x v d ∷ more) tree p in
    let f : Middle m (in_decls []) ms (on x v d ∷ more) tree = middle m ms (in_decls []) (on x v d ∷ more) tree r q in
    let (b, c) = split k ts (plains ms) (at x v) lt (ap (λ n. take n ts) (sym (add-one k)) ∙ sym e ∙ plains-append ms (on x v d ∷ [])) in
    let h : bounded m f.reached (at x v ∷ drop (suc k) ts) ≡ deep (at x v ∷ drop (suc k) ts) = deep_next m f.reached x v d more (drop (suc k) ts) (step f.reached x v) refl f.placed g in
    subst (λ us. bounded m (in_decls []) us ≡ deep (drop k ts)) (ap (λ l. l ++ drop k ts) (sym b) ∙ take-append-drop k ts)
    (f.same (drop k ts) a ∙ subst (λ us. bounded m f.reached us ≡ deep us) (sym c) h)

-- one of the three, and one alone

abbrev pub Answers : ℕ → List Tok → Type 0
Answers m ts = ((t : List DeclTree) × IsTreeWithin m ts t) ⊎ (((k : ℕ) × IsFirstBad m ts k) ⊎ ((k : ℕ) × IsTooDeep m ts k))

some_from : (m : ℕ) (ts : List Tok) → EndsInEnd ts → (o : Bounded) → bounded m (in_decls []) ts ≡ o → Answers m ts
some_from m ts e (whole (done t)) h = inl (t, found_tree m ts t h)
some_from m ts e (whole (stuck r)) h = inr (inl (_, (refused_left m ts r e h).1))
some_from m ts e (deep r) h = inr (inr (_, (deep_left m ts r h).1))

pub some_answer : (m : ℕ) (ts : List Tok) → EndsInEnd ts → Answers m ts
some_answer m ts e = some_from m ts e (bounded m (in_decls []) ts) refl

done_or_stuck : (t : List DeclTree) (r : List Tok) → whole (done t) ≡ whole (stuck r) → ⊥
done_or_stuck t r h = cc

done_or_deep : (t : List DeclTree) (r : List Tok) → whole (done t) ≡ deep r → ⊥
done_or_deep t r h = cc

stuck_or_deep : (a b : List Tok) → whole (stuck a) ≡ deep b → ⊥
stuck_or_deep a b h = cc

stuck_same : (a b : List Tok) → whole (stuck a) ≡ whole (stuck b) → a ≡ b
stuck_same a b h = cc

deep_same : (a b : List Tok) → deep a ≡ deep b → a ≡ b
deep_same a b h = cc

same_place : (ts : List Tok) (j k : ℕ) → j < length ts → k < length ts → drop j ts ≡ drop k ts → j ≡ k
same_place ts j k a b h = omega (arith, ap length h, length-drop j ts, length-drop k ts)

pub one_bad : (m : ℕ) (ts : List Tok) (j k : ℕ) → IsFirstBad m ts j → IsFirstBad m ts k → j ≡ k
one_bad m ts j k a b = same_place ts j k a.0 b.0 (stuck_same _ _ (sym (only_bad m ts j a) ∙ only_bad m ts k b))

pub one_too_deep : (m : ℕ) (ts : List Tok) (j k : ℕ) → IsTooDeep m ts j → IsTooDeep m ts k → j ≡ k
one_too_deep m ts j k a b = same_place ts j k a.0 b.0 (deep_same _ _ (sym (only_too_deep m ts j a) ∙ only_too_deep m ts k b))

pub tree_not_bad : (m : ℕ) (ts : List Tok) (t : List DeclTree) (k : ℕ) → IsTreeWithin m ts t → IsFirstBad m ts k → ⊥
tree_not_bad m ts t k a b = done_or_stuck t _ (sym (only_tree m ts t a) ∙ only_bad m ts k b)

pub tree_not_too_deep : (m : ℕ) (ts : List Tok) (t : List DeclTree) (k : ℕ) → IsTreeWithin m ts t → IsTooDeep m ts k → ⊥
tree_not_too_deep m ts t k a b = done_or_deep t _ (sym (only_tree m ts t a) ∙ only_too_deep m ts k b)

pub bad_not_too_deep : (m : ℕ) (ts : List Tok) (j k : ℕ) → IsFirstBad m ts j → IsTooDeep m ts k → ⊥
bad_not_too_deep m ts j k a b = stuck_or_deep _ _ (sym (only_bad m ts j a) ∙ only_too_deep m ts k b)
