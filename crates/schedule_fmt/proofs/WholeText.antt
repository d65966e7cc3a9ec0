-- Whole schedules: read where they are written, and else faulty at the line that is named.
use Rattle.std.proofs.Common.{◌≡◌, ℕ, suc, ◌+◌, ◌-◌, ◌<◌, Bool, false, List, [], ◌∷◌, ◌++◌, length, Option, Some, None, refl, sym, ap, subst, ◌∙◌, arith, inl, inr, ◌⊎◌, ⊎_elim, append_assoc, append-nil}
use Rattle.std.specs.Prelude.{◌^◌, ◌==◌, Result, Ok, Err, codes, cond, if◌then◌else◌}
use Rattle.std.specs.Fmt.{decimal}
use Rattle.std.proofs.lemmas.Bool.{cases_Bool, eqb-true, ne_eqb, not_from_false, not-true}
use Rattle.std.proofs.lemmas.List.Sums.{sum_by-cons}
use Rattle.rp_span.specs.Places.{is_newline, newlines}
use Rattle.rp_grammar.specs.Bytes.{is_inline}
use Rattle.rp_grammar.proofs.Fronts.{every_append}
use Rattle.rp_lang.specs.Programs.{Prog}
use Rattle.event_machine.specs.States.{Label}
use Rattle.schedule_fmt.specs.Texts.{label_text, labels_text}
use Rattle.schedule_fmt.specs.Schedules.{HasLine, LinePlaced, Each, first_lines}
use Rattle.schedule_fmt.specs.means.Reading.{◌>>=◌, put_label, line_ended, labels_from, whole_universe, universe, label}
use Rattle.schedule_fmt.proofs.Inversions.{some_is, tested, and_then, joined}
use Rattle.schedule_fmt.proofs.Numerals.{number_sound, number_reads}
use Rattle.schedule_fmt.proofs.NameText.{word_spans}
use Rattle.schedule_fmt.proofs.LineText.{label_sound, ended}
use Rattle.schedule_fmt.proofs.LineBack.{label_back}
use Rattle.schedule_fmt.proofs.LineSteps.{labels_front, labels_line}
use Rattle.schedule_fmt.proofs.Inline.{Inline, label_inline}

pub ok_err : {X : Type 0} (x : X) (n : ℕ) → Ok x ≡ Err n → ⊥
ok_err x n h = cc

pub same_err : {X : Type 0} (m n : ℕ) → (let r : Result X ℕ = Err m in r) ≡ Err n → m ≡ n
same_err m n h = cc

pub same_ok : {X : Type 0} (x y : X) → (let r : Result X ℕ = Ok x in r) ≡ Ok y → x ≡ y
same_ok x y h = cc

-- # The universe

pub universe_sound : (text : List ℕ) (u : ℕ) → universe text ≡ Some u → (text ≡ codes "universe " ++ decimal u) × (u < 2 ^ 32)
unfolding universe
universe_sound text u h =
    let a = and_then {X = ℕ} _ _ _ h in
    let r = and_then {X = ℕ × ℕ} _ _ _ a.2 in
    let t = tested _ _ _ r.2 in
    let e : r.0.0 ≡ u = some_is _ _ t.1 in
    let f = number_sound 4294967295 text a.0 r.0.0 r.0.1 (omega arith) (omega arith) r.1 in
    let s = joined text 0 a.0 r.0.1 (codes "universe ") (decimal r.0.0) (word_spans (codes "universe ") text 0 a.0 a.1) f.spans in
    (ended text (codes "universe " ++ decimal r.0.0) r.0.1 s t.0 ∙ ap (λ n. codes "universe " ++ decimal n) e, subst (λ n. n < 2 ^ 32) e (let k = f.within in omega arith))

pub universe_back : (u : ℕ) → u < 2 ^ 32 → universe (codes "universe " ++ decimal u) ≡ Some u
unfolding universe
universe_back u h =
    let r = number_reads 4294967295 u (codes "universe " ++ decimal u) [] 9 (omega arith) (omega arith) (sym (append-nil (decimal u))) tt in
    ap (λ (o : Option (ℕ × ℕ)). o >>= whole_universe (codes "universe " ++ decimal u)) r.found
    ∙ ap (λ (bs : List ℕ). if length bs == 0 then Some u else None) r.left

-- # Labels

pub record LabelsText (p : Prog) (bytes : List ℕ) (ls : List Label) : Type 0 where
  pub is : bytes ≡ labels_text p ls
  pub has : Each (HasLine p) ls
  pub placed : Each (LinePlaced p) ls

put_ok : (l : Label) (r : Result (List Label) ℕ) (ls : List Label) → put_label l r ≡ Ok ls → (ks : List Label) × (r ≡ Ok ks) × (l ∷ ks ≡ ls)
put_ok l (Err n) ls h = absurd (ok_err ls n (sym h))
put_ok l (Ok ks) ls h = (ks, refl, same_ok _ _ h)

put_err : (l : Label) (r : Result (List Label) ℕ) (n : ℕ) → put_label l r ≡ Err n → r ≡ Err n
put_err l (Err m) n h = h
put_err l (Ok ks) n h = absurd (ok_err (l ∷ ks) n h)

one_label : (p : Prog) (front bs : List ℕ) (o : Option Label) (r : Result (List Label) ℕ) (n : ℕ) (ls : List Label) → label p front ≡ o
    → ((ks : List Label) → r ≡ Ok ks → LabelsText p bs ks) → line_ended o r n ≡ Ok ls → LabelsText p (front ++ 10 ∷ bs) ls
one_label p front bs None r n ls e later h = absurd (ok_err ls n (sym h))
one_label p front bs (Some l) r n ls e later h =
    let k = put_ok l r ls h in
    let t = later k.0 k.1 in
    let f = label_sound p front l e in
    let made : LabelsText p (front ++ 10 ∷ bs) (l ∷ k.0) = (record {
      is = ap (λ x. x ++ 10 ∷ bs) f.is ∙ ap (λ x. label_text p l ++ 10 ∷ x) t.is ∙ sym (append_assoc (label_text p l) (10 ∷ []) (labels_text p k.0));
      has = (f.has, t.has);
      placed = (f.placed, t.placed);
    }) in
    subst (LabelsText p (front ++ 10 ∷ bs)) k.2 made

pub labels_sound : (p : Prog) (front bs : List ℕ) (n : ℕ) (ls : List Label) → labels_from p front bs n ≡ Ok ls → LabelsText p (front ++ bs) ls
labels_sound p [] [] n ls h = let none : LabelsText p [] [] = (record { is = refl; has = tt; placed = tt }) in subst (LabelsText p []) (same_ok [] ls h) none
labels_sound p (f ∷ front) [] n ls h = absurd (ok_err ls n (sym h))
labels_sound p front (b ∷ bs) n ls h =
    ⊎_elim
    (λ t.
    let g = sym (ap (λ (c : Bool). if c then line_ended (label p front) (labels_from p [] bs (n + 1)) n else labels_from p (front ++ b ∷ []) bs n) t) ∙ h in
    subst (λ c. LabelsText p (front ++ c ∷ bs) ls) (sym (eqb-true b 10 t))
    (one_label p front bs (label p front) (labels_from p [] bs (n + 1)) n ls refl (λ ks e. labels_sound p [] bs (n + 1) ks e) g))
    (λ t.
    let g = sym (ap (λ (c : Bool). if c then line_ended (label p front) (labels_from p [] bs (n + 1)) n else labels_from p (front ++ b ∷ []) bs n) t) ∙ h in
    subst (λ x. LabelsText p x ls) (append_assoc front (b ∷ []) bs) (labels_sound p (front ++ b ∷ []) bs n ls g))
    (cases_Bool (b == 10))

pub labels_back : (p : Prog) (ls : List Label) (rest : List ℕ) (n : ℕ) → Each (HasLine p) ls → Each (LinePlaced p) ls
    → labels_from p [] (labels_text p ls ++ rest) n ≡ labels_front ls (labels_from p [] rest (n + length ls))
labels_back p [] rest n h q = ap (labels_from p [] rest) (let e : n ≡ n + 0 = omega arith in e)
labels_back p (l ∷ ls) rest n h q =
    let e : n + 1 + length ls ≡ n + suc (length ls) = omega arith in
    let split : labels_text p (l ∷ ls) ++ rest ≡ label_text p l ++ 10 ∷ (labels_text p ls ++ rest) =
    append_assoc (label_text p l ++ 10 ∷ []) (labels_text p ls) rest ∙ append_assoc (label_text p l) (10 ∷ []) (labels_text p ls ++ rest) in
    ap (λ x. labels_from p [] x n) split
    ∙ labels_line p [] (label_text p l) (labels_text p ls ++ rest) n (label_inline p l h.0)
    ∙ ap (λ o. line_ended o (labels_from p [] (labels_text p ls ++ rest) (n + 1)) n) (label_back p l h.0 q.0)
    ∙ ap (put_label l) (labels_back p ls rest (n + 1) h.1 q.1 ∙ ap (λ m. labels_front ls (labels_from p [] rest m)) e)

-- # First lines and newlines

pub first_none : (bs : List ℕ) → first_lines 0 bs ≡ []
first_none [] = refl
first_none (b ∷ bs) = refl

pub first_line : (k : ℕ) (l rest : List ℕ) → Inline l → first_lines (suc k) (l ++ 10 ∷ rest) ≡ l ++ 10 ∷ first_lines k rest
first_line k [] rest e =
    let some : (suc k == 0) ≡ false = ne_eqb (suc k) 0 (λ x. omega arith) in
    let less : suc k - 1 ≡ k = omega arith in
    ap (λ (t : Bool). if t then [] else 10 ∷ first_lines (suc k - 1) rest) some ∙ ap (λ m. 10 ∷ first_lines m rest) less
first_line k (b ∷ bs) rest e =
    let some : (suc k == 0) ≡ false = ne_eqb (suc k) 0 (λ x. omega arith) in
    let inline : (b == 10) ≡ false = not-true (b == 10) e.0 in
    ap (λ (t : Bool). if t then [] else b ∷ first_lines (if b == 10 then suc k - 1 else suc k) (bs ++ 10 ∷ rest)) some
    ∙ ap (λ (t : Bool). b ∷ first_lines (if t then suc k - 1 else suc k) (bs ++ 10 ∷ rest)) inline
    ∙ ap (λ x. b ∷ x) (first_line k bs rest e.1)

pub newlines_more : (b : ℕ) (bs : List ℕ) → newlines (b ∷ bs) ≡ (if b == 10 then 1 else 0) + newlines bs
newlines_more b bs = sum_by-cons (λ c. cond (is_newline c) 1 0) b bs

pub no_newlines : (bs : List ℕ) → Inline bs → newlines bs ≡ 0
no_newlines [] e = refl
no_newlines (b ∷ bs) e =
    let inline : (b == 10) ≡ false = not-true (b == 10) e.0 in
    newlines_more b bs ∙ ap (λ (t : Bool). (if t then 1 else 0) + newlines bs) inline ∙ ap (λ m. 0 + m) (no_newlines bs e.1)

pub line_newlines : (l rest : List ℕ) → Inline l → newlines (l ++ 10 ∷ rest) ≡ 1 + newlines rest
line_newlines [] rest e = newlines_more 10 rest
line_newlines (b ∷ bs) rest e =
    let inline : (b == 10) ≡ false = not-true (b == 10) e.0 in
    let h = line_newlines bs rest e.1 in
    newlines_more b (bs ++ 10 ∷ rest) ∙ ap (λ (t : Bool). (if t then 1 else 0) + newlines (bs ++ 10 ∷ rest)) inline ∙ omega arith

module _ (p : Prog) where
  split_labels : (l : Label) (ls : List Label) (rest : List ℕ) → labels_text p (l ∷ ls) ++ rest ≡ label_text p l ++ 10 ∷ (labels_text p ls ++ rest)
  split_labels l ls rest = append_assoc (label_text p l ++ 10 ∷ []) (labels_text p ls) rest ∙ append_assoc (label_text p l) (10 ∷ []) (labels_text p ls ++ rest)

  pub first_labels : (ls : List Label) (k : ℕ) (rest : List ℕ) → Each (HasLine p) ls → first_lines (length ls + k) (labels_text p ls ++ rest) ≡ labels_text p ls ++ first_lines k rest
  first_labels [] k rest h = ap (λ m. first_lines m rest) (let e : 0 + k ≡ k = omega arith in e)
  first_labels (l ∷ ls) k rest h =
      let e : suc (length ls) + k ≡ suc (length ls + k) = omega arith in
      ap (λ m. first_lines m (labels_text p (l ∷ ls) ++ rest)) e
      ∙ ap (first_lines (suc (length ls + k))) (split_labels l ls rest)
      ∙ first_line (length ls + k) (label_text p l) (labels_text p ls ++ rest) (label_inline p l h.0)
      ∙ ap (λ x. label_text p l ++ 10 ∷ x) (first_labels ls k rest h.1)
      ∙ sym (split_labels l ls (first_lines k rest))

  pub labels_newlines : (ls : List Label) (rest : List ℕ) → Each (HasLine p) ls → newlines (labels_text p ls ++ rest) ≡ length ls + newlines rest
  labels_newlines [] rest h = let e : newlines rest ≡ 0 + newlines rest = omega arith in e
  labels_newlines (l ∷ ls) rest h =
      let k = labels_newlines ls rest h.1 in
      ap newlines (split_labels l ls rest) ∙ line_newlines (label_text p l) (labels_text p ls ++ rest) (label_inline p l h.0) ∙ omega arith

-- # Faulty labels

-- behind good lines a faulty one, or one that isn't ended
pub record Fault (p : Prog) (bytes : List ℕ) (n m : ℕ) : Type 0 where
  pub good : List Label
  pub bad : List ℕ
  pub is : bytes ≡ labels_text p good ++ bad
  pub has : Each (HasLine p) good
  pub placed : Each (LinePlaced p) good
  pub number : m ≡ n + length good
  pub why : ((l : List ℕ) × (rest : List ℕ) × (bad ≡ l ++ 10 ∷ rest) × Inline l × (label p l ≡ None)) ⊎ (Inline bad × (0 < length bad))

fault_here : (p : Prog) (bytes : List ℕ) (n m : ℕ) → (let r : Result (List Label) ℕ = Err n in r) ≡ Err m
    → (((l : List ℕ) × (rest : List ℕ) × (bytes ≡ l ++ 10 ∷ rest) × Inline l × (label p l ≡ None)) ⊎ (Inline bytes × (0 < length bytes))) → Fault p bytes n m
fault_here p bytes n m h why = record {
  good = [];
  bad = bytes;
  is = refl;
  has = tt;
  placed = tt;
  number = let e = same_err n m h in omega arith;
  why = why;
}

one_fault : (p : Prog) (front bs : List ℕ) (o : Option Label) (r : Result (List Label) ℕ) (n m : ℕ) → Inline front → label p front ≡ o
    → (r ≡ Err m → Fault p bs (n + 1) m) → line_ended o r n ≡ Err m → Fault p (front ++ 10 ∷ bs) n m
one_fault p front bs None r n m i e later h = fault_here p (front ++ 10 ∷ bs) n m h (inl (front, bs, refl, i, e))
one_fault p front bs (Some l) r n m i e later h =
    let f = later (put_err l r m h) in
    let s = label_sound p front l e in record {
      good = l ∷ f.good;
      bad = f.bad;
      is = ap (λ x. x ++ 10 ∷ bs) s.is ∙ ap (λ x. label_text p l ++ 10 ∷ x) f.is ∙ sym (split_labels p l f.good f.bad);
      has = (s.has, f.has);
      placed = (s.placed, f.placed);
      number = let k = f.number in omega arith;
      why = f.why;
    }

pub labels_fault : (p : Prog) (front bs : List ℕ) (n m : ℕ) → Inline front → labels_from p front bs n ≡ Err m → Fault p (front ++ bs) n m
labels_fault p [] [] n m i h = absurd (ok_err [] m h)
labels_fault p (f ∷ front) [] n m i h =
    let same = append-nil (f ∷ front) in
    subst (λ x. Fault p x n m) (sym same) (fault_here p (f ∷ front) n m h (inr (i, (omega arith))))
labels_fault p front (b ∷ bs) n m i h =
    ⊎_elim
    (λ t.
    let g = sym (ap (λ (c : Bool). if c then line_ended (label p front) (labels_from p [] bs (n + 1)) n else labels_from p (front ++ b ∷ []) bs n) t) ∙ h in
    subst (λ c. Fault p (front ++ c ∷ bs) n m) (sym (eqb-true b 10 t))
    (one_fault p front bs (label p front) (labels_from p [] bs (n + 1)) n m i refl (λ e. labels_fault p [] bs (n + 1) m tt e) g))
    (λ t.
    let g = sym (ap (λ (c : Bool). if c then line_ended (label p front) (labels_from p [] bs (n + 1)) n else labels_from p (front ++ b ∷ []) bs n) t) ∙ h in
    let j = every_append is_inline front (b ∷ []) i (not_from_false _ t, tt) in
    subst (λ x. Fault p x n m) (append_assoc front (b ∷ []) bs) (labels_fault p (front ++ b ∷ []) bs n m j g))
    (cases_Bool (b == 10))
