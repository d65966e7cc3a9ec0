-- Schedules are read exactly where their texts stand, and else the faulty line is named.
use Rattle.std.proofs.Common.{◌≡◌, ℕ, suc, ◌+◌, ◌-◌, ◌<◌, ◌≤◌, Bool, true, false, List, [], ◌∷◌, ◌++◌, length, Option, Some, None, refl, sym, ap, subst, ◌∙◌, arith, inl, inr, ◌⊎◌, ⊎_elim, append_assoc, append-nil}
use Rattle.std.specs.Prelude.{◌^◌, ◌==◌, Result, Ok, Err, codes, if◌then◌else◌}
use Rattle.std.specs.Fmt.{decimal}
use Rattle.std.specs.Str.{bytes_eq}
use Rattle.std.proofs.lemmas.Bool.{cases_Bool, cases_order, eqb-true, eqb-false, ne_eqb, not_from_false}
use Rattle.std.proofs.lemmas.Slice.Eq.{bytes_eq-Decides}
use Rattle.rp_span.specs.Places.{newlines}
use Rattle.rp_grammar.specs.Bytes.{is_inline}
use Rattle.rp_grammar.proofs.Fronts.{every_append}
use Rattle.rp_lang.specs.Programs.{Prog}
use Rattle.event_machine.specs.States.{Label}
use Rattle.schedule_fmt.specs.Texts.{Sched, sched, labels_text, schedule_text}
use Rattle.schedule_fmt.specs.Schedules.{HasLine, LinePlaced, Each, HasScheduleText, IsText, Begins, first_lines, IsFaulty}
use Rattle.schedule_fmt.specs.means.Reading.{labels_from, with_universe, cut_line, universe, labels_behind, universe_behind, header, header_behind, label, line_ended, schedule}
use Rattle.schedule_fmt.proofs.LineSteps.{labels_front, front_found, front_faulty, labels_line, cut_ended, cut_open, Ended}
use Rattle.schedule_fmt.proofs.Inline.{Inline, decimal_inline}
use Rattle.schedule_fmt.proofs.NameText.{all_every}
use Rattle.schedule_fmt.proofs.WholeText.{ok_err, same_err, same_ok, universe_sound, universe_back, labels_sound, labels_back, first_none, first_line, first_labels, newlines_more, no_newlines, line_newlines, labels_newlines, Fault, labels_fault}

-- the line of a universe
abbrev u_line : ℕ → List ℕ
u_line u = codes "universe " ++ decimal u

header_inline : Inline header
header_inline = all_every is_inline header refl

universe_inline : (u : ℕ) → u < 2 ^ 32 → Inline (u_line u)
universe_inline u h = every_append is_inline (codes "universe ") (decimal u) (all_every is_inline (codes "universe ") refl) (decimal_inline u (omega arith))

-- # Which lines stand first

line_cases : (bs : List ℕ) → Ended bs ⊎ Inline bs
line_cases [] = inr tt
line_cases (b ∷ bs) =
    ⊎_elim
    (λ t. inl (record { line = []; rest = bs; is = ap (λ c. c ∷ bs) (eqb-true b 10 t); inline = tt }))
    (λ t. ⊎_elim
    (λ e. inl (record { line = b ∷ e.line; rest = e.rest; is = ap (λ x. b ∷ x) e.is; inline = (not_from_false _ t, e.inline) }))
    (λ i. inr (not_from_false _ t, i))
    (line_cases bs))
    (cases_Bool (b == 10))

data Cases (text : List ℕ) : Type 0 where
  unended : Inline text → Cases text
  other_header : (l rest : List ℕ) → text ≡ l ++ 10 ∷ rest → Inline l → bytes_eq header l ≡ false → Cases text
  header_alone : (rest : List ℕ) → text ≡ header ++ 10 ∷ rest → Inline rest → Cases text
  no_universe : (l rest : List ℕ) → text ≡ header ++ 10 ∷ (l ++ 10 ∷ rest) → Inline l → universe l ≡ None → Cases text
  in_universe : (u : ℕ) (rest : List ℕ) → text ≡ header ++ 10 ∷ (u_line u ++ 10 ∷ rest) → u < 2 ^ 32 → Cases text

told_universe : (text l rest : List ℕ) (o : Option ℕ) → text ≡ header ++ 10 ∷ (l ++ 10 ∷ rest) → Inline l → universe l ≡ o → Cases text
told_universe text l rest None e i h = no_universe l rest e i h
told_universe text l rest (Some u) e i h =
    let s = universe_sound l u h in
    in_universe u rest (e ∙ ap (λ x. header ++ 10 ∷ (x ++ 10 ∷ rest)) s.0) s.1

second_line : (text rest : List ℕ) → text ≡ header ++ 10 ∷ rest → Cases text
second_line text rest e =
    ⊎_elim
    (λ d. told_universe text d.line d.rest (universe d.line) (e ∙ ap (λ x. header ++ 10 ∷ x) d.is) d.inline refl)
    (λ i. header_alone rest e i)
    (line_cases rest)

first_cases : (text : List ℕ) → Cases text
first_cases text =
    ⊎_elim
    (λ d. ⊎_elim
    (λ t. second_line text d.rest (d.is ∙ ap (λ x. x ++ 10 ∷ d.rest) (sym ((bytes_eq-Decides header d.line).0 t))))
    (λ t. other_header d.line d.rest d.is d.inline t)
    (cases_Bool (bytes_eq header d.line)))
    (λ i. unended i)
    (line_cases text)

module _ (p : Prog) where
  bad_header : (l rest : List ℕ) → Inline l → bytes_eq header l ≡ false → schedule p (l ++ 10 ∷ rest) ≡ Err 1
  bad_header l rest i h =
      ap (header_behind p) (cut_ended l rest i) ∙ ap (λ (t : Bool). if t then universe_behind p (cut_line [] rest) else Err 1) h

  behind_header : (rest : List ℕ) → schedule p (header ++ 10 ∷ rest) ≡ universe_behind p (cut_line [] rest)
  behind_header rest = ap (header_behind p) (cut_ended header rest header_inline)

  bad_universe : (l rest : List ℕ) → Inline l → universe l ≡ None → schedule p (header ++ 10 ∷ (l ++ 10 ∷ rest)) ≡ Err 2
  bad_universe l rest i h = behind_header (l ++ 10 ∷ rest) ∙ ap (universe_behind p) (cut_ended l rest i) ∙ ap (labels_behind p rest) h

  good_universe : (u : ℕ) (rest : List ℕ) → u < 2 ^ 32 → schedule p (header ++ 10 ∷ (u_line u ++ 10 ∷ rest)) ≡ with_universe u (labels_from p [] rest 3)
  good_universe u rest h =
      behind_header (u_line u ++ 10 ∷ rest) ∙ ap (universe_behind p) (cut_ended (u_line u) rest (universe_inline u h)) ∙ ap (labels_behind p rest) (universe_back u h)

  -- a text by its lines
  text_is : (u : ℕ) (labels : List ℕ) → (header ++ 10 ∷ []) ++ ((u_line u ++ 10 ∷ []) ++ labels) ≡ header ++ 10 ∷ (u_line u ++ 10 ∷ labels)
  text_is u labels = ap (λ x. header ++ 10 ∷ x) (append_assoc (u_line u) (10 ∷ []) labels)

  schedule_back : (s : Sched) → HasScheduleText p s → Each (LinePlaced p) s.labels → schedule p (schedule_text p s) ≡ Ok s
  schedule_back s h q =
      ap (schedule p) (text_is s.universe (labels_text p s.labels))
      ∙ good_universe s.universe (labels_text p s.labels) h.universe
      ∙ ap (with_universe s.universe)
      (ap (λ x. labels_from p [] x 3) (sym (append-nil (labels_text p s.labels))) ∙ labels_back p s.labels [] 3 h.labels q ∙ front_found s.labels)

  -- a text is read as its schedule
  pub text_read : (s : Sched) (bytes : List ℕ) → IsText p s bytes → schedule p bytes ≡ Ok s
  text_read s bytes t = ap (schedule p) t.written ∙ schedule_back s t.has_text t.placed

  pub one_schedule : (s t : Sched) (bytes : List ℕ) → IsText p s bytes → IsText p t bytes → s ≡ t
  one_schedule s t bytes a b = same_ok s t (sym (text_read s bytes a) ∙ text_read t bytes b)

  -- # What is read is written so

  whole_ok : (u : ℕ) (r : Result (List Label) ℕ) (s : Sched) → with_universe u r ≡ Ok s → (ls : List Label) × (r ≡ Ok ls) × (sched u ls ≡ s)
  whole_ok u (Err n) s h = absurd (ok_err s n (sym h))
  whole_ok u (Ok ls) s h = (ls, refl, same_ok _ _ h)

  in_text : (text rest : List ℕ) (u : ℕ) (s : Sched) → text ≡ header ++ 10 ∷ (u_line u ++ 10 ∷ rest) → u < 2 ^ 32 → with_universe u (labels_from p [] rest 3) ≡ Ok s → IsText p s text
  in_text text rest u s e small h =
      let w = whole_ok u (labels_from p [] rest 3) s h in
      let t = labels_sound p [] rest 3 w.0 w.1 in
      let made : IsText p (sched u w.0) text = (record {
        has_text = record { universe = small; labels = t.has };
        placed = t.placed;
        written = e ∙ ap (λ x. header ++ 10 ∷ (u_line u ++ 10 ∷ x)) t.is ∙ sym (text_is u (labels_text p w.0));
      }) in
      subst (λ k. IsText p k text) w.2 made

  found_text : (text : List ℕ) (s : Sched) → Cases text → schedule p text ≡ Ok s → IsText p s text
  found_text text s (unended i) h = absurd (ok_err s 1 (sym h ∙ ap (header_behind p) (cut_open [] text i)))
  found_text text s (other_header l rest e i n) h = absurd (ok_err s 1 (sym h ∙ ap (schedule p) e ∙ bad_header l rest i n))
  found_text text s (header_alone rest e i) h = absurd (ok_err s 2 (sym h ∙ ap (schedule p) e ∙ behind_header rest ∙ ap (universe_behind p) (cut_open [] rest i)))
  found_text text s (no_universe l rest e i n) h = absurd (ok_err s 2 (sym h ∙ ap (schedule p) e ∙ bad_universe l rest i n))
  found_text text s (in_universe u rest e small) h = in_text text rest u s e small (sym (good_universe u rest small) ∙ sym (ap (schedule p) e) ∙ h)

  pub schedule_sound : (text : List ℕ) (s : Sched) → schedule p text ≡ Ok s → IsText p s text
  schedule_sound text s h = found_text text s (first_cases text) h

  -- # Faults

  no_text : (text : List ℕ) (n : ℕ) → schedule p text ≡ Err n → (s : Sched) → IsText p s text → ⊥
  no_text text n h s t = ok_err s n (sym (text_read s text t) ∙ h)

  -- bytes that are faulty whatever stands behind them begin no schedule
  no_begin : (piece : List ℕ) (n : ℕ) → ((more : List ℕ) → schedule p (piece ++ more) ≡ Err n) → Begins p piece → ⊥
  no_begin piece n f b = no_text (piece ++ b.0) n (f b.0) b.1 b.2

  text_of : (s : Sched) → HasScheduleText p s → Each (LinePlaced p) s.labels → IsText p s (schedule_text p s)
  text_of s h q = record { has_text = h; placed = q; written = refl }

  smallest : HasScheduleText p (sched 1 [])
  smallest = record { universe = omega arith; labels = tt }

  begins_empty : Begins p []
  begins_empty = (schedule_text p (sched 1 []), sched 1 [], text_of (sched 1 []) smallest tt)

  begins_header : Begins p (header ++ 10 ∷ [])
  begins_header = (u_line 1 ++ 10 ∷ [], sched 1 [], record { has_text = smallest; placed = tt; written = sym (text_is 1 []) })

  begins_labels : (u : ℕ) (ls : List Label) → u < 2 ^ 32 → Each (HasLine p) ls → Each (LinePlaced p) ls → Begins p (header ++ 10 ∷ (u_line u ++ 10 ∷ labels_text p ls))
  begins_labels u ls small h q = (
    [],
    sched u ls,
    record {
      has_text = record { universe = small; labels = h };
      placed = q;
      written = append-nil (header ++ 10 ∷ (u_line u ++ 10 ∷ labels_text p ls)) ∙ sym (text_is u (labels_text p ls));
    },
  )

  first_before : (text : List ℕ) (m : ℕ) → 1 ≡ suc m → Begins p (first_lines m text)
  first_before text m e =
      let none : 0 ≡ m = omega arith in
      subst (Begins p) (sym (first_none text) ∙ ap (λ k. first_lines k text) none) begins_empty

  second_before : (text rest : List ℕ) (m : ℕ) → text ≡ header ++ 10 ∷ rest → 2 ≡ suc m → Begins p (first_lines m text)
  second_before text rest m e h =
      let one : m ≡ 1 = omega arith in
      let is : first_lines m text ≡ header ++ 10 ∷ [] =
      ap (λ k. first_lines k text) one ∙ ap (first_lines 1) e ∙ first_line 0 header rest header_inline ∙ ap (λ x. header ++ 10 ∷ x) (first_none rest) in
      subst (Begins p) (sym is) begins_header

  -- the first lines of a text with a universe, from its third line on
  lines_from_third : (u : ℕ) (rest : List ℕ) (k : ℕ) → u < 2 ^ 32 → first_lines (suc (suc k)) (header ++ 10 ∷ (u_line u ++ 10 ∷ rest)) ≡ header ++ 10 ∷ (u_line u ++ 10 ∷ first_lines k rest)
  lines_from_third u rest k small =
      first_line (suc k) header (u_line u ++ 10 ∷ rest) header_inline ∙ ap (λ x. header ++ 10 ∷ x) (first_line k (u_line u) rest (universe_inline u small))

  faulty_header : (text l rest : List ℕ) → text ≡ l ++ 10 ∷ rest → Inline l → bytes_eq header l ≡ false → Begins p (first_lines 1 text) → 1 ≡ 1 + newlines text
  faulty_header text l rest e i h b =
      let is : first_lines 1 text ≡ l ++ 10 ∷ [] = ap (first_lines 1) e ∙ first_line 0 l rest i ∙ ap (λ x. l ++ 10 ∷ x) (first_none rest) in
      absurd (no_begin (l ++ 10 ∷ []) 1 (λ more. ap (schedule p) (append_assoc l (10 ∷ []) more) ∙ bad_header l more i h) (subst (Begins p) is b))

  faulty_universe : (text l rest : List ℕ) → text ≡ header ++ 10 ∷ (l ++ 10 ∷ rest) → Inline l → universe l ≡ None → Begins p (first_lines 2 text) → 2 ≡ 1 + newlines text
  faulty_universe text l rest e i h b =
      let is : first_lines 2 text ≡ header ++ 10 ∷ (l ++ 10 ∷ []) =
      ap (first_lines 2) e ∙ first_line 1 header (l ++ 10 ∷ rest) header_inline ∙ ap (λ x. header ++ 10 ∷ x) (first_line 0 l rest i ∙ ap (λ x. l ++ 10 ∷ x) (first_none rest)) in
      absurd (no_begin (header ++ 10 ∷ (l ++ 10 ∷ [])) 2 (λ more. ap (λ x. schedule p (header ++ 10 ∷ x)) (append_assoc l (10 ∷ []) more) ∙ bad_universe l more i h) (subst (Begins p) is b))

  -- a faulty line behind good ones
  bad_label : (u : ℕ) (ls : List Label) (l rest : List ℕ) → u < 2 ^ 32 → Each (HasLine p) ls → Each (LinePlaced p) ls → Inline l → label p l ≡ None
      → schedule p (header ++ 10 ∷ (u_line u ++ 10 ∷ (labels_text p ls ++ (l ++ 10 ∷ rest)))) ≡ Err (3 + length ls)
  bad_label u ls l rest small h q i n =
      good_universe u (labels_text p ls ++ (l ++ 10 ∷ rest)) small
      ∙ ap (with_universe u)
      (labels_back p ls (l ++ 10 ∷ rest) 3 h q
      ∙ ap (labels_front ls) (labels_line p [] l rest (3 + length ls) i ∙ ap (λ o. line_ended o (labels_from p [] rest (3 + length ls + 1)) (3 + length ls)) n)
      ∙ front_faulty ls (3 + length ls))

  in_labels : (text rest : List ℕ) (u n : ℕ) → text ≡ header ++ 10 ∷ (u_line u ++ 10 ∷ rest) → u < 2 ^ 32 → schedule p text ≡ Err n → Fault p rest 3 n → IsFaulty p text n
  in_labels text rest u n e small h f =
      let whole : text ≡ header ++ 10 ∷ (u_line u ++ 10 ∷ (labels_text p f.good ++ f.bad)) = e ∙ ap (λ x. header ++ 10 ∷ (u_line u ++ 10 ∷ x)) f.is in record {
        no_text = no_text text n h;
        before = λ m k.
            let k_is : m ≡ suc (suc (length f.good + 0)) = (let j = f.number in omega arith) in
            let is : first_lines m text ≡ header ++ 10 ∷ (u_line u ++ 10 ∷ labels_text p f.good) =
            ap (λ j. first_lines j text) k_is ∙ ap (first_lines (suc (suc (length f.good + 0)))) whole
            ∙ lines_from_third u (labels_text p f.good ++ f.bad) (length f.good + 0) small
            ∙ ap (λ x. header ++ 10 ∷ (u_line u ++ 10 ∷ x)) (first_labels p f.good 0 f.bad f.has ∙ ap (λ x. labels_text p f.good ++ x) (first_none f.bad) ∙ append-nil (labels_text p f.good)) in
            subst (Begins p) (sym is) (begins_labels u f.good small f.has f.placed);
        here = λ b.
            ⊎_elim
            (λ w.
            let k_is : n ≡ suc (suc (length f.good + 1)) = (let j = f.number in omega arith) in
            let is : first_lines n text ≡ header ++ 10 ∷ (u_line u ++ 10 ∷ (labels_text p f.good ++ (w.0 ++ 10 ∷ []))) =
            ap (λ j. first_lines j text) k_is ∙ ap (first_lines (suc (suc (length f.good + 1)))) whole
            ∙ lines_from_third u (labels_text p f.good ++ f.bad) (length f.good + 1) small
            ∙ ap (λ x. header ++ 10 ∷ (u_line u ++ 10 ∷ x))
            (first_labels p f.good 1 f.bad f.has
            ∙ ap (λ x. labels_text p f.good ++ x) (ap (first_lines 1) w.2 ∙ first_line 0 w.0 w.1 w.3 ∙ ap (λ x. w.0 ++ 10 ∷ x) (first_none w.1))) in
            absurd (no_begin (header ++ 10 ∷ (u_line u ++ 10 ∷ (labels_text p f.good ++ (w.0 ++ 10 ∷ [])))) (3 + length f.good)
            (λ more.
            ap (λ x. schedule p (header ++ 10 ∷ x)) (append_assoc (u_line u) (10 ∷ (labels_text p f.good ++ (w.0 ++ 10 ∷ []))) more)
            ∙ ap (λ x. schedule p (header ++ 10 ∷ (u_line u ++ 10 ∷ x))) (append_assoc (labels_text p f.good) (w.0 ++ 10 ∷ []) more ∙ ap (λ x. labels_text p f.good ++ x) (append_assoc w.0 (10 ∷ []) more))
            ∙ bad_label u f.good w.0 more small f.has f.placed w.3 w.4)
            (subst (Begins p) is b)))
            (λ w.
            let count : newlines text ≡ 1 + (1 + (length f.good + 0)) =
            ap newlines whole ∙ line_newlines header (u_line u ++ 10 ∷ (labels_text p f.good ++ f.bad)) header_inline
            ∙ ap (λ k. 1 + k) (line_newlines (u_line u) (labels_text p f.good ++ f.bad) (universe_inline u small)
            ∙ ap (λ k. 1 + k) (labels_newlines p f.good f.bad f.has ∙ ap (λ k. length f.good + k) (no_newlines f.bad w.0))) in
            (let j = f.number in omega arith))
            f.why;
      }

  whole_err : (u : ℕ) (r : Result (List Label) ℕ) (n : ℕ) → with_universe u r ≡ Err n → r ≡ Err n
  whole_err u (Err m) n h = ap (λ k. Err k) (same_err m n h)
  whole_err u (Ok ls) n h = absurd (ok_err (sched u ls) n h)

  found_fault : (text : List ℕ) (n : ℕ) → Cases text → schedule p text ≡ Err n → IsFaulty p text n
  found_fault text n (unended i) h =
      let one : 1 ≡ n = same_err {X = Sched} 1 n (sym (ap (header_behind p) (cut_open [] text i)) ∙ h) in
      subst (IsFaulty p text) one (record {
        no_text = no_text text n h;
        before = λ m k. first_before text m k;
        here = λ b. ap (λ k. 1 + k) (sym (no_newlines text i));
      })
  found_fault text n (other_header l rest e i d) h =
      let one : 1 ≡ n = same_err {X = Sched} 1 n (sym (ap (schedule p) e ∙ bad_header l rest i d) ∙ h) in
      subst (IsFaulty p text) one (record {
        no_text = no_text text n h;
        before = λ m k. first_before text m k;
        here = faulty_header text l rest e i d;
      })
  found_fault text n (header_alone rest e i) h =
      let two : 2 ≡ n = same_err {X = Sched} 2 n (sym (ap (schedule p) e ∙ behind_header rest ∙ ap (universe_behind p) (cut_open [] rest i)) ∙ h) in
      subst (IsFaulty p text) two (record {
        no_text = no_text text n h;
        before = λ m k. second_before text rest m e k;
        here = λ b. sym (ap (λ k. 1 + k) (ap newlines e ∙ line_newlines header rest header_inline ∙ ap (λ k. 1 + k) (no_newlines rest i)));
      })
  found_fault text n (no_universe l rest e i d) h =
      let two : 2 ≡ n = same_err {X = Sched} 2 n (sym (ap (schedule p) e ∙ bad_universe l rest i d) ∙ h) in
      subst (IsFaulty p text) two (record {
        no_text = no_text text n h;
        before = λ m k. second_before text (l ++ 10 ∷ rest) m e k;
        here = faulty_universe text l rest e i d;
      })
  found_fault text n (in_universe u rest e small) h =
      in_labels text rest u n e small h (labels_fault p [] rest 3 n tt (whole_err u (labels_from p [] rest 3) n (sym (good_universe u rest small) ∙ sym (ap (schedule p) e) ∙ h)))

  pub schedule_faulty : (text : List ℕ) (n : ℕ) → schedule p text ≡ Err n → IsFaulty p text n
  schedule_faulty text n h = found_fault text n (first_cases text) h

  -- # One line is named

  begins_less : (piece more : List ℕ) → Begins p (piece ++ more) → Begins p piece
  begins_less piece more b = (more ++ b.0, b.1, subst (IsText p b.1) (append_assoc piece more b.0) b.2)

  fewer : (j k : ℕ) (bs : List ℕ) → k ≤ j → (more : List ℕ) × (first_lines j bs ≡ first_lines k bs ++ more)
  fewer j k [] h = ([], refl)
  fewer j k (b ∷ bs) h =
      ⊎_elim
      (λ z. (first_lines j (b ∷ bs), ap (λ (t : Bool). (if t then [] else b ∷ first_lines (if b == 10 then k - 1 else k) bs) ++ first_lines j (b ∷ bs)) (sym z)))
      (λ z.
      let k_some : k ≡ 0 → ⊥ = eqb-false k 0 z in
      let j_some : (j == 0) ≡ false = ne_eqb j 0 (λ x. k_some (omega arith)) in
      let less : (if b == 10 then k - 1 else k) ≤ (if b == 10 then j - 1 else j) =
      ⊎_elim
      (λ t. subst (λ (c : Bool). (if c then k - 1 else k) ≤ (if c then j - 1 else j)) (sym t) (omega arith))
      (λ t. subst (λ (c : Bool). (if c then k - 1 else k) ≤ (if c then j - 1 else j)) (sym t) h)
      (cases_Bool (b == 10)) in
      let r = fewer (if b == 10 then j - 1 else j) (if b == 10 then k - 1 else k) bs less in (
        r.0,
        ap (λ (t : Bool). if t then [] else b ∷ first_lines (if b == 10 then j - 1 else j) bs) j_some
            ∙ ap (λ x. b ∷ x) r.1
            ∙ ap (λ (t : Bool). (if t then [] else b ∷ first_lines (if b == 10 then k - 1 else k) bs) ++ r.0) (sym z),
      ))
      (cases_Bool (k == 0))

  all_lines : (k : ℕ) (bs : List ℕ) → newlines bs < k → first_lines k bs ≡ bs
  all_lines k [] h = refl
  all_lines k (b ∷ bs) h =
      let counted : (if b == 10 then 1 else 0) + newlines bs < k = subst (λ m. m < k) (newlines_more b bs) h in
      let some : (k == 0) ≡ false = ne_eqb k 0 (λ x. omega arith) in
      let less : newlines bs < (if b == 10 then k - 1 else k) =
      ⊎_elim
      (λ t. subst (λ (c : Bool). newlines bs < (if c then k - 1 else k)) (sym t) (let g : (if true then 1 else 0) + newlines bs < k = subst (λ (c : Bool). (if c then 1 else 0) + newlines bs < k) t counted in omega arith))
      (λ t. subst (λ (c : Bool). newlines bs < (if c then k - 1 else k)) (sym t) (let g : (if false then 1 else 0) + newlines bs < k = subst (λ (c : Bool). (if c then 1 else 0) + newlines bs < k) t counted in omega arith))
      (cases_Bool (b == 10)) in
      ap (λ (t : Bool). if t then [] else b ∷ first_lines (if b == 10 then k - 1 else k) bs) some ∙ ap (λ x. b ∷ x) (all_lines (if b == 10 then k - 1 else k) bs less)

  not_earlier : (bytes : List ℕ) (n m : ℕ) → IsFaulty p bytes n → IsFaulty p bytes m → n < m → ⊥
  not_earlier bytes n m f g h =
      let back : m ≡ suc (m - 1) = omega arith in
      let before = g.before (m - 1) back in
      let r = fewer (m - 1) n bytes (omega arith) in
      let start = begins_less (first_lines n bytes) r.0 (subst (Begins p) r.1 before) in
      let last : n ≡ 1 + newlines bytes = f.here start in
      let whole : first_lines (m - 1) bytes ≡ bytes = all_lines (m - 1) bytes (omega arith) in
      let also : first_lines m bytes ≡ bytes = all_lines m bytes (omega arith) in
      let end : m ≡ 1 + newlines bytes = g.here (subst (Begins p) (whole ∙ sym also) before) in
      omega arith

  pub one_line : (bytes : List ℕ) (n m : ℕ) → IsFaulty p bytes n → IsFaulty p bytes m → n ≡ m
  one_line bytes n m f g =
      ⊎_elim (λ e. e)
      (λ o. ⊎_elim (λ h. absurd (not_earlier bytes n m f g h)) (λ h. absurd (not_earlier bytes m n g f h)) o)
      (cases_order n m)
