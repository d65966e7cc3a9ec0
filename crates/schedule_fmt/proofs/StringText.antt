-- Strings that are read are written so, and strings that are written are read.
use Rattle.std.proofs.Common.{◌≡◌, ℕ, ◌+◌, Bool, true, false, List, [], ◌∷◌, ◌++◌, drop, Option, Some, None, refl, sym, ap, subst, ◌∙◌, arith, ⊎_elim, append_assoc}
use Rattle.std.specs.Prelude.{◌==◌, ◌||◌, if◌then◌else◌}
use Rattle.std.specs.Option.{option_map}
use Rattle.std.specs.List.{list_all}
use Rattle.std.proofs.lemmas.Bool.{cases_Bool, and_parts, and_from, or_cases, or_parts, or_right, eqb-true, both_ways}
use Rattle.std.proofs.lemmas.Bool.Decides.{nat_tests}
use Rattle.rp_grammar.specs.Bytes.{is_plain, is_escaped}
use Rattle.schedule_fmt.specs.Texts.{written, escape}
use Rattle.schedule_fmt.specs.Schedules.{is_char}
use Rattle.schedule_fmt.specs.means.Reading.{meant_by, opens_escape, added_by, put_front, chars_from, string}
use Rattle.schedule_fmt.proofs.Inversions.{some_is, none_some, tested, either, mapped, Spans, Reads, drop_next}

same_chars : (r s : List ℕ × ℕ) → Some r ≡ Some s → (r.0 ≡ s.0) × (r.1 ≡ s.1)
same_chars r s h = let e = some_is _ _ h in (ap (λ q. q.0) e, ap (λ q. q.1) e)

-- the backslash before, if there is one
abbrev slash : Bool → List ℕ
slash true = 92 ∷ []
slash false = []

pub record CharsRead (text : List ℕ) (escaped : Bool) (at : ℕ) (meant : List ℕ) (to : ℕ) : Type 0 where
  pub is : slash escaped ++ drop at text ≡ escape meant ++ 34 ∷ drop to text
  pub chars : list_all is_char meant ≡ true

-- a byte behind a backslash, and one alone, are written so
escaped_written : (b : ℕ) → is_escaped b ≡ true → 92 ∷ b ∷ [] ≡ written (meant_by b)
escaped_written b h =
    ⊎_elim
    (λ f. ⊎_elim
    (λ e. subst (λ c. 92 ∷ c ∷ [] ≡ written (meant_by c)) (sym (eqb-true b 34 e)) refl)
    (λ e. subst (λ c. 92 ∷ c ∷ [] ≡ written (meant_by c)) (sym (eqb-true b 92 e)) refl)
    (or_cases (b == 34) (b == 92) f))
    (λ e. subst (λ c. 92 ∷ c ∷ [] ≡ written (meant_by c)) (sym (eqb-true b 110 e)) refl)
    (or_cases (b == 34 || b == 92) (b == 110) h)

escaped_char : (b : ℕ) → is_escaped b ≡ true → is_char (meant_by b) ≡ true
escaped_char b h =
    ⊎_elim
    (λ f. ⊎_elim
    (λ e. subst (λ c. is_char (meant_by c) ≡ true) (sym (eqb-true b 34 e)) refl)
    (λ e. subst (λ c. is_char (meant_by c) ≡ true) (sym (eqb-true b 92 e)) refl)
    (or_cases (b == 34) (b == 92) f))
    (λ e. subst (λ c. is_char (meant_by c) ≡ true) (sym (eqb-true b 110 e)) refl)
    (or_cases (b == 34 || b == 92) (b == 110) h)

plain_parts : (b : ℕ) → is_plain b ≡ true → ((b == 10) ≡ false) × ((b == 34) ≡ false) × ((b == 92) ≡ false)
plain_parts b h = (grind (arith, nat_tests), grind (arith, nat_tests), grind (arith, nat_tests))

plain_written : (b : ℕ) → is_plain b ≡ true → written b ≡ b ∷ []
plain_written b h =
    let k = plain_parts b h in
    ap (λ (t : Bool). if t then 92 ∷ 110 ∷ [] else (if b == 34 || b == 92 then 92 ∷ b ∷ [] else b ∷ [])) k.0
    ∙ ap (λ (t : Bool). if t || b == 92 then 92 ∷ b ∷ [] else b ∷ []) k.1
    ∙ ap (λ (t : Bool). if t then 92 ∷ b ∷ [] else b ∷ []) k.2

chars_found : (text bs : List ℕ) (escaped : Bool) (at : ℕ) (meant : List ℕ) (to : ℕ) → drop at text ≡ bs → chars_from bs escaped at ≡ Some (meant, to) → CharsRead text escaped at meant to
chars_found text [] escaped at meant to e h = absurd (none_some _ h)
chars_found text (b ∷ bs) true at meant to e h =
    let t = tested _ _ _ h in
    let m = mapped _ _ _ t.1 in
    let next = drop_next text b bs at e in
    let later = chars_found text bs false (at + 1) m.0.0 m.0.1 next m.1 in
    let s = m.2 in
    let first : meant_by b ∷ m.0.0 ≡ meant = ap (λ r. r.0) s in
    let end : m.0.1 ≡ to = ap (λ r. r.1) s in
    let here : 92 ∷ drop at text ≡ escape (meant_by b ∷ m.0.0) ++ 34 ∷ drop m.0.1 text =
    ap (λ x. 92 ∷ x) (e ∙ ap (λ x. b ∷ x) (sym next ∙ later.is))
    ∙ ap (λ w. w ++ (escape m.0.0 ++ 34 ∷ drop m.0.1 text)) (escaped_written b t.0)
    ∙ sym (append_assoc (written (meant_by b)) (escape m.0.0) (34 ∷ drop m.0.1 text)) in record {
      is = here ∙ ap (λ ms. escape ms ++ 34 ∷ drop m.0.1 text) first ∙ ap (λ j. escape meant ++ 34 ∷ drop j text) end;
      chars = subst (λ ms. list_all is_char ms ≡ true) first (and_from _ _ (escaped_char b t.0) later.chars);
    }
chars_found text (b ∷ bs) false at meant to e h =
    ⊎_elim
    (λ t.
    let s = same_chars _ _ t.1 in
    let quote = eqb-true b 34 t.0 in
    let next = drop_next text b bs at e in
    let here : drop at text ≡ escape [] ++ 34 ∷ drop (at + 1) text = e ∙ ap (λ c. c ∷ bs) quote ∙ ap (λ x. 34 ∷ x) (sym next) in record {
      is = here ∙ ap (λ ms. escape ms ++ 34 ∷ drop (at + 1) text) s.0 ∙ ap (λ j. escape meant ++ 34 ∷ drop j text) s.1;
      chars = subst (λ ms. list_all is_char ms ≡ true) s.0 refl;
    })
    (λ t. ⊎_elim
    (λ slashed.
    let m = mapped _ _ _ (tested _ _ _ t.1).1 in
    let next = drop_next text b bs at e in
    let opens : opens_escape false b ≡ true = slashed in
    let found : chars_from bs true (at + 1) ≡ Some m.0 = ap (λ (c : Bool). chars_from bs c (at + 1)) (sym opens) ∙ m.1 in
    let later = chars_found text bs true (at + 1) m.0.0 m.0.1 next found in
    let nothing : added_by false b ≡ [] = ap (λ (c : Bool). if c then [] else b ∷ []) slashed in
    let first : m.0.0 ≡ meant = ap (λ w. w ++ m.0.0) (sym nothing) ∙ ap (λ r. r.0) m.2 in
    let end : m.0.1 ≡ to = ap (λ r. r.1) m.2 in record {
      is =
          e ∙ ap (λ c. c ∷ bs) (eqb-true b 92 slashed) ∙ ap (λ x. 92 ∷ x) (sym next) ∙ later.is
          ∙ ap (λ ms. escape ms ++ 34 ∷ drop m.0.1 text) first ∙ ap (λ j. escape meant ++ 34 ∷ drop j text) end;
      chars = subst (λ ms. list_all is_char ms ≡ true) first later.chars;
    })
    (λ bare.
    let k = tested _ _ _ t.1 in
    let m = mapped _ _ _ k.1 in
    let next = drop_next text b bs at e in
    let plain : is_plain b ≡ true = ⊎_elim (λ x. absurd (both_ways _ bare x)) (λ x. x) (or_cases _ _ k.0) in
    let opens : opens_escape false b ≡ false = bare in
    let found : chars_from bs false (at + 1) ≡ Some m.0 = ap (λ (c : Bool). chars_from bs c (at + 1)) (sym opens) ∙ m.1 in
    let later = chars_found text bs false (at + 1) m.0.0 m.0.1 next found in
    let one : added_by false b ≡ b ∷ [] = ap (λ (c : Bool). if c then [] else b ∷ []) bare in
    let first : b ∷ m.0.0 ≡ meant = ap (λ w. w ++ m.0.0) (sym one) ∙ ap (λ r. r.0) m.2 in
    let end : m.0.1 ≡ to = ap (λ r. r.1) m.2 in
    let here : drop at text ≡ escape (b ∷ m.0.0) ++ 34 ∷ drop m.0.1 text =
    e ∙ ap (λ x. b ∷ x) (sym next ∙ later.is)
    ∙ ap (λ w. w ++ (escape m.0.0 ++ 34 ∷ drop m.0.1 text)) (sym (plain_written b plain))
    ∙ sym (append_assoc (written b) (escape m.0.0) (34 ∷ drop m.0.1 text)) in record {
      is = here ∙ ap (λ ms. escape ms ++ 34 ∷ drop m.0.1 text) first ∙ ap (λ j. escape meant ++ 34 ∷ drop j text) end;
      chars = subst (λ ms. list_all is_char ms ≡ true) first (and_from _ _ (or_right (b == 10 || b == 34 || b == 92) _ plain) later.chars);
    })
    (cases_Bool (b == 92)))
    (either _ _ _ _ h)

pub record StringRead (text : List ℕ) (at : ℕ) (meant : List ℕ) (to : ℕ) : Type 0 where
  pub spans : Spans text at to (escape meant ++ 34 ∷ [])
  pub chars : list_all is_char meant ≡ true

pub string_sound : (text : List ℕ) (at : ℕ) (meant : List ℕ) (to : ℕ) → string text at ≡ Some (meant, to) → StringRead text at meant to
string_sound text at meant to h = let r = chars_found text (drop at text) false at meant to refl h in record {
  spans = record { is = r.is ∙ sym (append_assoc (escape meant) (34 ∷ []) (drop to text)) };
  chars = r.chars;
}

-- # Back

record Next (text : List ℕ) (b : ℕ) (rest : List ℕ) (at : ℕ) : Type 0 where
  left : drop (at + 1) text ≡ rest

two_read : (text more bs rest : List ℕ) (c at : ℕ) → drop at text ≡ 92 ∷ c ∷ more → is_escaped c ≡ true
    → Reads text (chars_from (drop (at + 1 + 1) text) false (at + 1 + 1)) bs rest → Reads text (chars_from (drop at text) false at) (meant_by c ∷ bs) rest
two_read text more bs rest c at e h r =
    let second = drop_next text 92 (c ∷ more) at e in
    let third = drop_next text c more (at + 1) second in
    let later : Option (List ℕ × ℕ) = chars_from more false (at + 1 + 1) in
    let found : chars_from more false (at + 1 + 1) ≡ Some (bs, r.to) = ap (λ x. chars_from x false (at + 1 + 1)) (sym third) ∙ r.found in record {
      to = r.to;
      found =
          ap (λ x. chars_from x false at) e
          ∙ ap (λ (t : Bool). option_map (put_front []) (if t then option_map (put_front (meant_by c ∷ [])) (chars_from more false (at + 1 + 1)) else None)) h
          ∙ ap (λ o. option_map (put_front []) (option_map (put_front (meant_by c ∷ [])) o)) found;
      left = r.left;
    }

one_read : (text more bs rest : List ℕ) (b at : ℕ) → drop at text ≡ b ∷ more → is_plain b ≡ true
    → Reads text (chars_from (drop (at + 1) text) false (at + 1)) bs rest → Reads text (chars_from (drop at text) false at) (b ∷ bs) rest
one_read text more bs rest b at e h r =
    let k = plain_parts b h in
    let next = drop_next text b more at e in
    let found : chars_from more false (at + 1) ≡ Some (bs, r.to) = ap (λ x. chars_from x false (at + 1)) (sym next) ∙ r.found in record {
      to = r.to;
      found =
          ap (λ x. chars_from x false at) e
          ∙ ap (λ (t : Bool). if t then Some ([], at + 1) else (if b == 92 || is_plain b then option_map (put_front (if b == 92 then [] else b ∷ [])) (chars_from more (b == 92) (at + 1)) else None)) k.1
          ∙ ap (λ (t : Bool). if t || is_plain b then option_map (put_front (if t then [] else b ∷ [])) (chars_from more t (at + 1)) else None) k.2
          ∙ ap (λ (t : Bool). if t then option_map (put_front (b ∷ [])) (chars_from more false (at + 1)) else None) h
          ∙ ap (option_map (put_front (b ∷ []))) found;
      left = r.left;
    }

chars_read : (text : List ℕ) (meant rest : List ℕ) (at : ℕ) → list_all is_char meant ≡ true → drop at text ≡ escape meant ++ 34 ∷ rest → Reads text (chars_from (drop at text) false at) meant rest
chars_read text [] rest at h e = record { to = at + 1; found = ap (λ x. chars_from x false at) e; left = drop_next text 34 rest at e }
chars_read text (b ∷ bs) rest at h e =
    let k = and_parts (is_char b) (list_all is_char bs) h in
    let more : List ℕ = escape bs ++ 34 ∷ rest in
    let split : drop at text ≡ written b ++ (escape bs ++ 34 ∷ rest) = e ∙ append_assoc (written b) (escape bs) (34 ∷ rest) in
    ⊎_elim
    (λ t.
    let w : written b ≡ 92 ∷ 110 ∷ [] = ap (λ (c : Bool). if c then 92 ∷ 110 ∷ [] else (if b == 34 || b == 92 then 92 ∷ b ∷ [] else b ∷ [])) t in
    let f : drop at text ≡ 92 ∷ 110 ∷ (escape bs ++ 34 ∷ rest) = split ∙ ap (λ x. x ++ (escape bs ++ 34 ∷ rest)) w in
    let third = drop_next text 110 (escape bs ++ 34 ∷ rest) (at + 1) (drop_next text 92 (110 ∷ (escape bs ++ 34 ∷ rest)) at f) in
    let r = two_read text (escape bs ++ 34 ∷ rest) bs rest 110 at f refl (chars_read text bs rest (at + 1 + 1) k.1 third) in
    subst (λ c. Reads text (chars_from (drop at text) false at) (c ∷ bs) rest) (sym (eqb-true b 10 t)) r)
    (λ t. ⊎_elim
    (λ u.
    let w : written b ≡ 92 ∷ b ∷ [] =
    ap (λ (c : Bool). if c then 92 ∷ 110 ∷ [] else (if b == 34 || b == 92 then 92 ∷ b ∷ [] else b ∷ [])) t ∙ ap (λ (c : Bool). if c then 92 ∷ b ∷ [] else b ∷ []) u in
    let f : drop at text ≡ 92 ∷ b ∷ (escape bs ++ 34 ∷ rest) = split ∙ ap (λ x. x ++ (escape bs ++ 34 ∷ rest)) w in
    let third = drop_next text b (escape bs ++ 34 ∷ rest) (at + 1) (drop_next text 92 (b ∷ (escape bs ++ 34 ∷ rest)) at f) in
    let esc : is_escaped b ≡ true = grind (arith, nat_tests) in
    let itself : meant_by b ≡ b = let not_n : (b == 110) ≡ false = grind (arith, nat_tests) in ap (λ (c : Bool). if c then 10 else b) not_n in
    let r = two_read text (escape bs ++ 34 ∷ rest) bs rest b at f esc (chars_read text bs rest (at + 1 + 1) k.1 third) in
    subst (λ c. Reads text (chars_from (drop at text) false at) (c ∷ bs) rest) itself r)
    (λ u.
    let n = or_parts (b == 34) (b == 92) u in
    let plain : is_plain b ≡ true = grind (arith, nat_tests) in
    let f : drop at text ≡ b ∷ (escape bs ++ 34 ∷ rest) = split ∙ ap (λ x. x ++ (escape bs ++ 34 ∷ rest)) (plain_written b plain) in
    one_read text (escape bs ++ 34 ∷ rest) bs rest b at f plain (chars_read text bs rest (at + 1) k.1 (drop_next text b (escape bs ++ 34 ∷ rest) at f)))
    (cases_Bool (b == 34 || b == 92)))
    (cases_Bool (b == 10))

pub string_reads : (text : List ℕ) (meant rest : List ℕ) (at : ℕ) → list_all is_char meant ≡ true → drop at text ≡ (escape meant ++ 34 ∷ []) ++ rest → Reads text (string text at) meant rest
string_reads text meant rest at h e = chars_read text meant rest at h (e ∙ append_assoc (escape meant) (34 ∷ []) rest)
