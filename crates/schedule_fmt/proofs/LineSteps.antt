-- Lines of a text, one by one.
use Rattle.std.proofs.Common.{◌≡◌, ℕ, ◌+◌, ◌-◌, ◌<◌, ◌≤◌, Bool, true, false, List, [], ◌∷◌, ◌++◌, length, take, drop, Option, Some, None, refl, sym, ap, subst, ◌∙◌, arith, ⊎_elim, append_assoc, append-nil, add-zero}
use Rattle.std.specs.Prelude.{◌==◌, Result, Ok, Err, if◌then◌else◌}
use Rattle.std.specs.List.{position_from}
use Rattle.std.specs.Str.{bytes_eq}
use Rattle.std.proofs.lemmas.Bool.{cases_Bool, eqb-true, not_from_false, not-true}
use Rattle.std.proofs.lemmas.List.{drop_all, length_push, take_at, length-drop}
use Rattle.rp_grammar.specs.Bytes.{is_inline}
use Rattle.rp_grammar.specs.Pieces.{Every}
use Rattle.rp_lang.specs.Programs.{Prog}
use Rattle.event_machine.specs.States.{Label}
use Rattle.schedule_fmt.specs.means.Reading.{is_newline, put_label, line_ended, labels_from, label, cut_line, slice, universe, labels_behind, universe_behind, header, header_behind, schedule}
use Rattle.schedule_fmt.proofs.Inversions.{some_is, none_some, drop_front, drop_next}

-- # Labels

-- labels before those that follow
abbrev pub labels_front : List Label → Result (List Label) ℕ → Result (List Label) ℕ
labels_front [] r = r
labels_front (l ∷ ls) r = put_label l (labels_front ls r)

pub front_more : (ls : List Label) (l : Label) (r : Result (List Label) ℕ) → labels_front (ls ++ l ∷ []) r ≡ labels_front ls (put_label l r)
front_more [] l r = refl
front_more (k ∷ ls) l r = ap (put_label k) (front_more ls l r)

pub front_found : (ls : List Label) → labels_front ls (Ok []) ≡ Ok ls
front_found [] = refl
front_found (l ∷ ls) = ap (put_label l) (front_found ls)

pub front_faulty : (ls : List Label) (n : ℕ) → labels_front ls (Err n) ≡ Err n
front_faulty [] n = refl
front_faulty (l ∷ ls) n = ap (put_label l) (front_faulty ls n)

-- # Newlines

snoc : (front : List ℕ) (b : ℕ) (bs : List ℕ) → (front ++ b ∷ []) ++ bs ≡ front ++ b ∷ bs
snoc front b bs = append_assoc front (b ∷ []) bs

inline_is : (b : ℕ) → is_inline b ≡ true → (b == 10) ≡ false
inline_is b h = not-true (b == 10) h

-- a line is read whole
pub labels_line : (p : Prog) (front line rest : List ℕ) (n : ℕ) → Every is_inline line
    → labels_from p front (line ++ 10 ∷ rest) n ≡ line_ended (label p (front ++ line)) (labels_from p [] rest (n + 1)) n
labels_line p front [] rest n e = ap (λ l. line_ended (label p l) (labels_from p [] rest (n + 1)) n) (sym (append-nil front))
labels_line p front (b ∷ bs) rest n e =
    ap (λ (t : Bool). if t then line_ended (label p front) (labels_from p [] (bs ++ 10 ∷ rest) (n + 1)) n else labels_from p (front ++ b ∷ []) (bs ++ 10 ∷ rest) n) (inline_is b e.0)
    ∙ labels_line p (front ++ b ∷ []) bs rest n e.1
    ∙ ap (λ l. line_ended (label p l) (labels_from p [] rest (n + 1)) n) (snoc front b bs)

-- a line that isn't ended
open_labels : (p : Prog) (front bs : List ℕ) (n : ℕ) → 0 < length front + length bs → Every is_inline bs → labels_from p front bs n ≡ Err n
open_labels p [] [] n h e = absurd (omega arith)
open_labels p (f ∷ front) [] n h e = refl
open_labels p front (b ∷ bs) n h e =
    ap (λ (t : Bool). if t then line_ended (label p front) (labels_from p [] bs (n + 1)) n else labels_from p (front ++ b ∷ []) bs n) (inline_is b e.0)
    ∙ open_labels p (front ++ b ∷ []) bs n (omega (arith, length_push front b)) e.1

pub labels_open : (p : Prog) (bs : List ℕ) (n : ℕ) → 0 < length bs → Every is_inline bs → labels_from p [] bs n ≡ Err n
labels_open p bs n h e = open_labels p [] bs n (omega arith) e

line_cut : (front line rest : List ℕ) → Every is_inline line → cut_line front (line ++ 10 ∷ rest) ≡ Some (front ++ line, rest)
line_cut front [] rest e = ap (λ l. Some (l, rest)) (sym (append-nil front))
line_cut front (b ∷ bs) rest e =
    ap (λ (t : Bool). if t then Some (front, bs ++ 10 ∷ rest) else cut_line (front ++ b ∷ []) (bs ++ 10 ∷ rest)) (inline_is b e.0)
    ∙ line_cut (front ++ b ∷ []) bs rest e.1
    ∙ ap (λ l. Some (l, rest)) (snoc front b bs)

pub cut_ended : (line rest : List ℕ) → Every is_inline line → cut_line [] (line ++ 10 ∷ rest) ≡ Some (line, rest)
cut_ended line rest e = line_cut [] line rest e

pub cut_open : (front bs : List ℕ) → Every is_inline bs → cut_line front bs ≡ None
cut_open front [] e = refl
cut_open front (b ∷ bs) e =
    ap (λ (t : Bool). if t then Some (front, bs) else cut_line (front ++ b ∷ []) bs) (inline_is b e.0) ∙ cut_open (front ++ b ∷ []) bs e.1

-- # The first newline

pub record Ended (bs : List ℕ) : Type 0 where
  pub line : List ℕ
  pub rest : List ℕ
  pub is : bs ≡ line ++ 10 ∷ rest
  pub inline : Every is_inline line

record Found (bs : List ℕ) (at end : ℕ) : Type 0 where
  line : List ℕ
  rest : List ℕ
  is : bs ≡ line ++ 10 ∷ rest
  inline : Every is_inline line
  len : end ≡ at + length line

found : (bs : List ℕ) (at end : ℕ) → position_from is_newline at bs ≡ Some end → Found bs at end
found [] at end h = absurd (none_some _ h)
found (b ∷ bs) at end h =
    ⊎_elim
    (λ t. record {
      line = [];
      rest = bs;
      is = ap (λ c. c ∷ bs) (eqb-true b 10 t);
      inline = tt;
      len = sym (some_is _ _ (sym (ap (λ (c : Bool). if c then Some at else position_from is_newline (at + 1) bs) t) ∙ h)) ∙ sym (add-zero at);
    })
    (λ t. let r = found bs (at + 1) end (sym (ap (λ (c : Bool). if c then Some at else position_from is_newline (at + 1) bs) t) ∙ h) in let l = r.len in record {
      line = b ∷ r.line;
      rest = r.rest;
      is = ap (λ x. b ∷ x) r.is;
      inline = (not_from_false _ t, r.inline);
      len = omega arith;
    })
    (cases_Bool (b == 10))

pub newline_absent : (bs : List ℕ) (at : ℕ) → position_from is_newline at bs ≡ None → Every is_inline bs
newline_absent [] at h = tt
newline_absent (b ∷ bs) at h =
    ⊎_elim
    (λ t. absurd (none_some at (sym h ∙ ap (λ (c : Bool). if c then Some at else position_from is_newline (at + 1) bs) t)))
    (λ t. (not_from_false _ t, newline_absent bs (at + 1) (sym (ap (λ (c : Bool). if c then Some at else position_from is_newline (at + 1) bs) t) ∙ h)))
    (cases_Bool (b == 10))

-- the line from a place on, up to its newline
pub record LineAt (text : List ℕ) (at end : ℕ) : Type 0 where
  pub is : drop at text ≡ slice text at end ++ 10 ∷ drop (end + 1) text
  pub inline : Every is_inline (slice text at end)

pub newline_found : (text : List ℕ) (at end : ℕ) → position_from is_newline at (drop at text) ≡ Some end → LineAt text at end
newline_found text at end h =
    let r = found (drop at text) at end h in
    let l : end - at ≡ length r.line = (let k = r.len in omega arith) in
    let cut_off : slice text at end ≡ r.line = ap (λ n. take n (drop at text)) l ∙ ap (take (length r.line)) r.is ∙ take_at r.line (10 ∷ r.rest) (length r.line) refl in
    let behind : drop end text ≡ 10 ∷ r.rest = ap (λ j. drop j text) r.len ∙ drop_front text r.line (10 ∷ r.rest) at r.is in
    let left : drop (end + 1) text ≡ r.rest = drop_next text 10 r.rest end behind in record {
      is = r.is ∙ ap (λ x. x ++ 10 ∷ r.rest) (sym cut_off) ∙ ap (λ x. slice text at end ++ 10 ∷ x) (sym left);
      inline = subst (Every is_inline) (sym cut_off) r.inline;
    }

pub line_cut_at : (text : List ℕ) (from end : ℕ) → position_from is_newline from (drop from text) ≡ Some end → cut_line [] (drop from text) ≡ Some (slice text from end, drop (end + 1) text)
line_cut_at text from end e = let r = newline_found text from end e in ap (cut_line []) r.is ∙ cut_ended (slice text from end) (drop (end + 1) text) r.inline

pub no_line_at : (text : List ℕ) (from : ℕ) → position_from is_newline from (drop from text) ≡ None → cut_line [] (drop from text) ≡ None
no_line_at text from e = cut_open [] (drop from text) (newline_absent (drop from text) from e)

-- the second line, with what it tells
pub second_read : (p : Prog) (text : List ℕ) (from end : ℕ) (o : Option ℕ) → position_from is_newline from (drop from text) ≡ Some end → universe (slice text from end) ≡ o
    → universe_behind p (cut_line [] (drop from text)) ≡ labels_behind p (drop (end + 1) text) o
second_read p text from end o e u = ap (universe_behind p) (line_cut_at text from end e) ∙ ap (labels_behind p (drop (end + 1) text)) u

-- the first line
pub first_read : (p : Prog) (text : List ℕ) (end : ℕ) (b : Bool) → position_from is_newline 0 text ≡ Some end → bytes_eq header (slice text 0 end) ≡ b
    → schedule p text ≡ (if b then universe_behind p (cut_line [] (drop (end + 1) text)) else Err 1)
first_read p text end b e h =
    ap (header_behind p) (line_cut_at text 0 end e) ∙ ap (λ (t : Bool). if t then universe_behind p (cut_line [] (drop (end + 1) text)) else Err 1) h

-- # What the loop over lines keeps

module _ (p : Prog) (text : List ℕ) (whole : Result (List Label) ℕ) (ls : List Label) (at n : ℕ) where
  abbrev pub LabelsSoFar : Type 0
  LabelsSoFar = whole ≡ labels_front ls (labels_from p [] (drop at text) n)

  pub lines_over : length text ≤ at → LabelsSoFar → whole ≡ Ok ls
  lines_over h so_far = so_far ∙ ap (λ bs. labels_front ls (labels_from p [] bs n)) (drop_all at text h) ∙ front_found ls

  pub line_open : at < length text → position_from is_newline at (drop at text) ≡ None → LabelsSoFar → whole ≡ Err n
  line_open h e so_far =
      so_far ∙ ap (labels_front ls) (labels_open p (drop at text) n (omega (arith, length-drop at text)) (newline_absent (drop at text) at e)) ∙ front_faulty ls n

  line_read : (end : ℕ) (o : Option Label) → position_from is_newline at (drop at text) ≡ Some end → label p (slice text at end) ≡ o → LabelsSoFar
      → whole ≡ labels_front ls (line_ended o (labels_from p [] (drop (end + 1) text) (n + 1)) n)
  line_read end o e l so_far =
      let r = newline_found text at end e in
      so_far ∙ ap (λ bs. labels_front ls (labels_from p [] bs n)) r.is
      ∙ ap (labels_front ls) (labels_line p [] (slice text at end) (drop (end + 1) text) n r.inline)
      ∙ ap (λ x. labels_front ls (line_ended x (labels_from p [] (drop (end + 1) text) (n + 1)) n)) l

  pub line_bad : (end : ℕ) → position_from is_newline at (drop at text) ≡ Some end → label p (slice text at end) ≡ None → LabelsSoFar → whole ≡ Err n
  line_bad end e l so_far = line_read end None e l so_far ∙ front_faulty ls n

  pub line_good : (end : ℕ) (l : Label) (ks : List Label) → position_from is_newline at (drop at text) ≡ Some end → label p (slice text at end) ≡ Some l → ks ≡ ls ++ l ∷ [] → LabelsSoFar
      → whole ≡ labels_front ks (labels_from p [] (drop (end + 1) text) (n + 1))
  line_good end l ks e f m so_far =
      line_read end (Some l) e f so_far ∙ sym (front_more ls l (labels_from p [] (drop (end + 1) text) (n + 1)))
      ∙ ap (λ js. labels_front js (labels_from p [] (drop (end + 1) text) (n + 1))) (sym m)
