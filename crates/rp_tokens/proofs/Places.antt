-- What the machine's answer says of the grammar. Nothing here looks into a step.
use Rattle.std.proofs.Common.{◌≡◌, ℕ, suc, ◌-◌, ◌<◌, ◌≤◌, Bool, true, false, List, [], ◌∷◌, ◌++◌, ⊎_elim, length, take, drop, nat_le, if◌then◌else◌, Option, Some, None, refl, sym, ap, subst, ◌∙◌, arith, length-drop, add-one}
use Rattle.std.proofs.lemmas.Bool.Decides.{nat_tests}
use Rattle.rp_span.specs.declared.Span.{Span}
use Rattle.rp_grammar.specs.Terminals.{Terminal, end, Tok, at, Placed, on, nesting}
use Rattle.rp_grammar.specs.Trees.{DeclTree}
use Rattle.rp_grammar.specs.Decls.{Program}
use Rattle.rp_grammar.specs.Begins.{AtMost, IsTreeWithin, IsFirstBad, IsTooDeep, EndsInEnd}
use Rattle.rp_tokens.specs.MachineStates.{State, in_decls, Move, to}
use Rattle.rp_tokens.specs.Machine.{step, Outcome, done, stuck, run, place, Bounded, whole, deep, bounded}
use Rattle.rp_tokens.proofs.Comes.{go, place_on, plains}
use Rattle.rp_tokens.proofs.AcceptsDecls.{accepts}
use Rattle.rp_tokens.proofs.Leads.{Leads, Back}
use Rattle.rp_tokens.proofs.LeadsSteps.{step_back}
use Rattle.rp_tokens.proofs.Completes.{completes, not_ended, ended_done, end_step}

-- the program begins so, and is complete with what the state leads on
pub record FirstBad (s : State) (ts rest : List Tok) : Type 0 where
  pub place_of : ℕ
  pub inside : place_of < length ts
  pub is_rest : drop place_of ts ≡ rest
  pub taken : plains (place s ts) ≡ take place_of ts
  pub goes_on : (us : List Placed) × (t : List DeclTree) × Leads s (place s ts ++ us) t
  pub stops : (us : List Tok) → (r : List Tok) × (run s (take (suc place_of) ts ++ us) ≡ stuck r)

first_bad_from : (s : State) (x : Terminal) (v : Span) (ts rest : List Tok) (o : Option Move) → step s x v ≡ o → Back (Leads s) x v o → go (at x v) ts o ≡ stuck rest → ((n : State) → run n ts ≡ stuck rest → FirstBad n ts rest) → FirstBad s (at x v ∷ ts) rest
first_bad_from s x v ts rest None is b h ih =
    let e : place s (at x v ∷ ts) ≡ [] = ap (place_on x v ts) is in
    record {
      place_of = 0;
      inside = omega arith;
      is_rest = cc;
      taken = ap plains e;
      goes_on = let (us, t, l, g) = completes s in (us, t, subst (λ ms. Leads s (ms ++ us) t) (sym e) l);
      stops = λ us. (at x v ∷ us, ap (go (at x v) us) is);
    }
first_bad_from s x v ts rest (Some (to d n)) is b h ih =
    let f : FirstBad n ts rest = ih n h in
    let e : place s (at x v ∷ ts) ≡ on x v d ∷ place n ts = ap (place_on x v ts) is in
    record {
      place_of = suc f.place_of;
      inside = omega (arith, f.inside);
      is_rest = f.is_rest;
      taken = ap plains e ∙ ap (λ l. at x v ∷ l) f.taken;
      goes_on = let (us, t, l) = f.goes_on in (us, t, subst (λ ms. Leads s (ms ++ us) t) (sym e) (b (place n ts ++ us) t l));
      stops = λ us. let (r, y) = f.stops us in (r, ap (go (at x v) (take (suc f.place_of) ts ++ us)) is ∙ y);
    }

first_bad : (ts : List Tok) (s : State) (rest : List Tok) → 0 < length rest → run s ts ≡ stuck rest → FirstBad s ts rest
first_bad [] s rest lt h = absurd (not_ended s rest h lt)
first_bad (at x v ∷ ts) s rest lt h = first_bad_from s x v ts rest (step s x v) refl (step_back s x v) h (λ n e. first_bad ts n rest lt e)

-- the whole run

done_from : (s : State) (x : Terminal) (v : Span) (ts : List Tok) (t : List DeclTree) (o : Option Move) → step s x v ≡ o → Back (Leads s) x v o → go (at x v) ts o ≡ done t → ((n : State) → run n ts ≡ done t → Leads n (place n ts) t × (plains (place n ts) ≡ ts)) → Leads s (place s (at x v ∷ ts)) t × (plains (place s (at x v ∷ ts)) ≡ at x v ∷ ts)
done_from s x v ts t None is b h ih = cc
done_from s x v ts t (Some (to d n)) is b h ih =
    let (l, p) = ih n h in
    let e : place s (at x v ∷ ts) ≡ on x v d ∷ place n ts = ap (place_on x v ts) is in
    (subst (λ ms. Leads s ms t) (sym e) (b (place n ts) t l), ap plains e ∙ ap (λ l. at x v ∷ l) p)

-- a state from which all tokens are taken leads on by them
pub done_leads : (ts : List Tok) (s : State) (t : List DeclTree) → run s ts ≡ done t → Leads s (place s ts) t × (plains (place s ts) ≡ ts)
done_leads [] s t h = (ended_done s t h, refl)
done_leads (at x v ∷ ts) s t h = done_from s x v ts t (step s x v) refl (step_back s x v) h (λ n e. done_leads ts n t e)

-- with a bound of depth

abbrev pub bound : ℕ → Tok → List Tok → Option Move → Bounded
bound m x ts None = whole (stuck (x ∷ ts))
bound m x ts (Some (to d n)) = if nat_le d m then bounded m n ts else deep (x ∷ ts)

le_of : (l m : ℕ) → nat_le l m ≡ true → l ≤ m
le_of l m h = grind (arith, nat_tests)

lt_of : (l m : ℕ) → nat_le l m ≡ false → m < l
lt_of l m h = grind (arith, nat_tests)

pub is_le : (l m : ℕ) → l ≤ m → nat_le l m ≡ true
is_le l m h = grind (arith, nat_tests)

pub is_gt : (l m : ℕ) → m < l → nat_le l m ≡ false
is_gt l m h = grind (arith, nat_tests)

whole_if : (m d : ℕ) (n : State) (r ts : List Tok) (o : Outcome) (v : Bool) → nat_le d m ≡ v → (if v then bounded m n ts else deep r) ≡ whole o → (d ≤ m) × (bounded m n ts ≡ whole o)
whole_if m d n r ts o true is h = (le_of d m is, h)
whole_if m d n r ts o false is h = cc

whole_from : (m : ℕ) (x : Terminal) (v : Span) (ts : List Tok) (o : Outcome) (s : Option Move) → bound m (at x v) ts s ≡ whole o → ((n : State) → bounded m n ts ≡ whole o → (run n ts ≡ o) × AtMost m (place n ts)) → (go (at x v) ts s ≡ o) × AtMost m (place_on x v ts s)
whole_from m x v ts o None h ih = (cc, tt)
whole_from m x v ts o (Some (to d n)) h ih =
    let (le, w) = whole_if m d n (at x v ∷ ts) ts o (nat_le d m) refl h in
    let (r, a) = ih n w in (r, (le, a))

-- a run that meets no token too deep is a run, and its tokens are within the bound
pub bounded_whole : (m : ℕ) (ts : List Tok) (s : State) (o : Outcome) → bounded m s ts ≡ whole o → (run s ts ≡ o) × AtMost m (place s ts)
bounded_whole m [] s o h = (cc, tt)
bounded_whole m (at x v ∷ ts) s o h = whole_from m x v ts o (step s x v) h (λ n e. bounded_whole m ts n o e)

bounded_from : (m : ℕ) (x : Terminal) (v : Span) (ts : List Tok) (o : Outcome) (s : Option Move) → go (at x v) ts s ≡ o → AtMost m (place_on x v ts s) → ((n : State) → run n ts ≡ o → AtMost m (place n ts) → bounded m n ts ≡ whole o) → bound m (at x v) ts s ≡ whole o
bounded_from m x v ts o None h a ih = ap whole h
bounded_from m x v ts o (Some (to d n)) h a ih = ap (λ c. if c then bounded m n ts else deep (at x v ∷ ts)) (is_le d m a.0) ∙ ih n h a.1

pub is_bounded : (m : ℕ) (ts : List Tok) (s : State) (o : Outcome) → run s ts ≡ o → AtMost m (place s ts) → bounded m s ts ≡ whole o
is_bounded m [] s o h a = ap whole h
is_bounded m (at x v ∷ ts) s o h a = bounded_from m x v ts o (step s x v) h a (λ n e b. is_bounded m ts n o e b)

pub record Deep (m : ℕ) (s : State) (ts rest : List Tok) : Type 0 where
  pub place_of : ℕ
  pub inside : place_of < length ts
  pub is_rest : drop place_of ts ≡ rest
  pub before : List Placed
  pub found : Placed
  pub behind : List Placed
  pub tree : List DeclTree
  pub leads : Leads s (before ++ found ∷ behind) tree
  pub taken : plains (before ++ found ∷ []) ≡ take (suc place_of) ts
  pub shallow : AtMost m before
  pub deeper : m < nesting found

deep_same : (a b : List Tok) → deep a ≡ deep b → a ≡ b
deep_same a b h = cc

deep_if : (m d : ℕ) (s n : State) (x : Terminal) (v : Span) (ts rest : List Tok) (c : Bool) → nat_le d m ≡ c → Back (Leads s) x v (Some (to d n)) → (if c then bounded m n ts else deep (at x v ∷ ts)) ≡ deep rest → ((n : State) → bounded m n ts ≡ deep rest → Deep m n ts rest) → Deep m s (at x v ∷ ts) rest
deep_if m d s n x v ts rest true is b h ih =
    let f : Deep m n ts rest = ih n h in
    record {
      place_of = suc f.place_of;
      inside = omega (arith, f.inside);
      is_rest = f.is_rest;
      before = on x v d ∷ f.before;
      found = f.found;
      behind = f.behind;
      tree = f.tree;
      leads = b (f.before ++ f.found ∷ f.behind) f.tree f.leads;
      taken = ap (λ l. at x v ∷ l) f.taken;
      shallow = (le_of d m is, f.shallow);
      deeper = f.deeper;
    }
deep_if m d s n x v ts rest false is b h ih =
    let (us, t, l, g) = completes n in
    record {
      place_of = 0;
      inside = omega arith;
      is_rest = deep_same (at x v ∷ ts) rest h;
      before = [];
      found = on x v d;
      behind = us;
      tree = t;
      leads = b us t l;
      taken = refl;
      shallow = tt;
      deeper = lt_of d m is;
    }

deep_from : (m : ℕ) (s : State) (x : Terminal) (v : Span) (ts rest : List Tok) (o : Option Move) → Back (Leads s) x v o → bound m (at x v) ts o ≡ deep rest → ((n : State) → bounded m n ts ≡ deep rest → Deep m n ts rest) → Deep m s (at x v ∷ ts) rest
deep_from m s x v ts rest None b h ih = cc
deep_from m s x v ts rest (Some (to d n)) b h ih = deep_if m d s n x v ts rest (nat_le d m) refl b h ih

bounded_deep : (m : ℕ) (ts : List Tok) (s : State) (rest : List Tok) → bounded m s ts ≡ deep rest → Deep m s ts rest
bounded_deep m [] s rest h = cc
bounded_deep m (at x v ∷ ts) s rest h = deep_from m s x v ts rest (step s x v) (step_back s x v) h (λ n e. bounded_deep m ts n rest e)

-- of a text

abbrev start : State
start = in_decls []

pub found_tree : (m : ℕ) (ts : List Tok) (t : List DeclTree) → bounded m start ts ≡ whole (done t) → IsTreeWithin m ts t
found_tree m ts t h =
    let (r, a) = bounded_whole m ts start (done t) h in
    let ((qs, p, is), e) = done_leads ts start t r in
    (place start ts, e, subst (Program (place start ts)) (sym is) p, a)

pub only_tree : (m : ℕ) (ts : List Tok) (t : List DeclTree) → IsTreeWithin m ts t → bounded m start ts ≡ whole (done t)
only_tree m ts t (ms, e, p, a) =
    let (r, q) = accepts ms t p in
    is_bounded m ts start (done t) (subst (λ l. run start l ≡ done t) e r) (subst (AtMost m) (sym q ∙ ap (place start) e) a)

same_place : (ts : List Tok) (j k : ℕ) → j < length ts → k < length ts → drop j ts ≡ drop k ts → j ≡ k
same_place ts j k a b h = omega (arith, ap length h, length-drop j ts, length-drop k ts)

not_done : (t : List DeclTree) (r : List Tok) → done t ≡ stuck r → ⊥
not_done t r h = cc

refused : (m : ℕ) (ts : List Tok) (k : ℕ) → k < length ts → bounded m start ts ≡ whole (stuck (drop k ts)) → IsFirstBad m ts k
refused m ts k lt h =
    let (r, a) = bounded_whole m ts start (stuck (drop k ts)) h in
    let f : FirstBad start ts (drop k ts) = first_bad ts start (drop k ts) (omega (arith, lt, length-drop k ts)) r in
    let e : f.place_of ≡ k = same_place ts f.place_of k f.inside lt f.is_rest in (
      lt,
      (let (us, t, (qs, p, is)) = f.goes_on in (place start ts, us, qs, p, f.taken ∙ ap (λ n. take n ts) e, a)),
      λ (us, t, (ms, g, p)). let (r, s) = f.stops us in
          let x : run start (take (suc f.place_of) ts ++ us) ≡ done t = subst (λ l. run start l ≡ done t) (g ∙ ap (λ n. take n ts ++ us) (add-one k ∙ ap suc (sym e))) ((accepts ms t p).0) in
          not_done t r (sym x ∙ s),
    )

too_deep : (m : ℕ) (ts : List Tok) (k : ℕ) → k < length ts → bounded m start ts ≡ deep (drop k ts) → IsTooDeep m ts k
too_deep m ts k lt h =
    let d : Deep m start ts (drop k ts) = bounded_deep m ts start (drop k ts) h in
    let e : d.place_of ≡ k = same_place ts d.place_of k d.inside lt d.is_rest in
    let (qs, p, is) = d.leads in
    (lt, d.before, d.behind, d.found, qs, p, d.taken ∙ ap (λ n. take n ts) (ap suc e ∙ sym (add-one k)), d.shallow, d.deeper)

-- the tokens don't end too early

stuck_on : (x : Tok) (r : List Tok) → stuck (x ∷ r) ≡ stuck [] → ⊥
stuck_on x r h = cc

done_stuck : (xs : List DeclTree) (r : List Tok) → done xs ≡ stuck r → ⊥
done_stuck xs r h = cc

no_early_end : (s : State) (v : Span) → run s (at end v ∷ []) ≡ stuck [] → ⊥
no_early_end s v h = ⊎_elim
    (λ e. stuck_on (at end v) [] (sym (ap (go (at end v) []) e) ∙ h))
    (λ (d, xs, e). done_stuck xs [] (sym (ap (go (at end v) []) e) ∙ h))
    (end_step s v)

no_early_from : (x : Tok) (ts : List Tok) (o : Option Move) → ((n : State) → run n ts ≡ stuck [] → ⊥) → go x ts o ≡ stuck [] → ⊥
no_early_from x ts None f h = cc
no_early_from x ts (Some (to d n)) f h = f n h

no_early : (front : List Tok) (s : State) (v : Span) → run s (front ++ at end v ∷ []) ≡ stuck [] → ⊥
no_early [] s v h = no_early_end s v h
no_early (at x w ∷ front) s v h = no_early_from (at x w) (front ++ at end v ∷ []) (step s x w) (λ n e. no_early front n v e) h

some_left : (ts r : List Tok) (s : State) → EndsInEnd ts → run s ts ≡ stuck r → 0 < length r
some_left ts [] s (front, v, e) h = absurd (no_early front s v (subst (λ ts. run s ts ≡ stuck []) e h))
some_left ts (x ∷ r) s e h = omega arith

place_of_left : (n k l : ℕ) → k < n → l ≡ n - k → (l ≤ n) × (n - l ≡ k)
place_of_left n k l h e = (omega arith, omega arith)

-- where a token is refused it is the first bad one
pub refused_left : (m : ℕ) (ts r : List Tok) → EndsInEnd ts → bounded m start ts ≡ whole (stuck r) → (length r ≤ length ts) × IsFirstBad m ts (length ts - length r)
refused_left m ts r e h =
    let (x, a) = bounded_whole m ts start (stuck r) h in
    let f : FirstBad start ts r = first_bad ts start r (some_left ts r start e x) x in
    let l : length r ≡ length ts - f.place_of = ap length (sym f.is_rest) ∙ length-drop f.place_of ts in
    let (le, p) = place_of_left (length ts) f.place_of (length r) f.inside l in
    (le, subst (IsFirstBad m ts) (sym p) (refused m ts f.place_of f.inside (h ∙ ap (λ r. whole (stuck r)) (sym f.is_rest))))

-- where a token is found too deep it is the first one
pub deep_left : (m : ℕ) (ts r : List Tok) → bounded m start ts ≡ deep r → (length r ≤ length ts) × IsTooDeep m ts (length ts - length r)
deep_left m ts r h =
    let d : Deep m start ts r = bounded_deep m ts start r h in
    let l : length r ≡ length ts - d.place_of = ap length (sym d.is_rest) ∙ length-drop d.place_of ts in
    let (le, p) = place_of_left (length ts) d.place_of (length r) d.inside l in
    (le, subst (IsTooDeep m ts) (sym p) (too_deep m ts d.place_of d.inside (h ∙ ap deep (sym d.is_rest))))
