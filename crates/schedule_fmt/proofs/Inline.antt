-- No line of a schedule holds a newline.
use Rattle.std.proofs.Common.{◌≡◌, ℕ, ℤ, pos, negsuc, suc, ◌+◌, ◌<◌, ◌≤◌, Bool, true, List, [], ◌∷◌, ◌++◌, refl, sym, ap, subst, arith, ⊎_elim}
use Rattle.std.specs.Prelude.{◌^◌, ◌==◌, ◌&&◌, ◌||◌, codes, nat_le, nat_lt, if◌then◌else◌}
use Rattle.std.specs.Fmt.{decimal, signed_decimal}
use Rattle.std.specs.List.{list_all}
use Rattle.std.proofs.lemmas.Bool.{cases_Bool, and_parts, leb-true, ltb-true, eqb-true, not_from_false}
use Rattle.std.proofs.lemmas.Bool.Decides.{nat_tests}
use Rattle.std.proofs.lemmas.Fmt.{digits_decimal}
use Rattle.rp_value.specs.Values.{Val, Int, Str, Atom, Con, Call, Inv, Vals, no_val, also_val}
use Rattle.rp_value.specs.ValueView.{vals_of}
use Rattle.rp_grammar.specs.Bytes.{is_digit, is_letter, is_name_byte, is_inline}
use Rattle.rp_grammar.specs.Pieces.{Every}
use Rattle.rp_grammar.proofs.Fronts.{every_append}
use Rattle.rp_lang.specs.Programs.{Prog}
use Rattle.crdt_defs.specs.Atoms.{in_range}
use Rattle.event_machine.specs.States.{Label, Invoke, Begin, Op, Local, New, Commit, Return, Fail, Check}
use Rattle.schedule_fmt.specs.Texts.{written, escape, value_text, args_text, more_args_text, numbers_text, values_text, label_text, atom_name, con_name, proc_name}
use Rattle.schedule_fmt.specs.Schedules.{is_name, Writable, AllWritable, are_ascending, HasLine}
use Rattle.schedule_fmt.proofs.Numerals.{numerals}
use Rattle.schedule_fmt.proofs.NameText.{all_every}

abbrev pub Inline : List ℕ → Type 0
Inline bs = Every is_inline bs

word_inline : (w : List ℕ) → list_all is_inline w ≡ true → Inline w
word_inline w h = all_every is_inline w h

digit_inline : (b : ℕ) → is_digit b ≡ true → is_inline b ≡ true
digit_inline b h = grind (arith, nat_tests)

name_byte_inline : (b : ℕ) → is_name_byte b ≡ true → is_inline b ≡ true
name_byte_inline b h = ⊎_elim (λ e. absurd (let s : is_name_byte 10 ≡ true = subst (λ c. is_name_byte c ≡ true) (eqb-true b 10 e) h in cc)) (λ e. not_from_false _ e) (cases_Bool (b == 10))

letter_inline : (b : ℕ) → is_letter b ≡ true → is_inline b ≡ true
letter_inline b h = ⊎_elim (λ e. absurd (let s : is_letter 10 ≡ true = subst (λ c. is_letter c ≡ true) (eqb-true b 10 e) h in cc)) (λ e. not_from_false _ e) (cases_Bool (b == 10))

digits_inline : (ds : List ℕ) → Every is_digit ds → Inline ds
digits_inline [] e = tt
digits_inline (d ∷ ds) e = (digit_inline d e.0, digits_inline ds e.1)

pub decimal_inline : (n : ℕ) → n < 2 ^ 64 → Inline (decimal n)
decimal_inline n h = digits_inline (decimal n) (digits_decimal numerals n h)

bytes_inline : (bs : List ℕ) → list_all is_name_byte bs ≡ true → Inline bs
bytes_inline [] h = tt
bytes_inline (b ∷ bs) h = let k = and_parts (is_name_byte b) (list_all is_name_byte bs) h in (name_byte_inline b k.0, bytes_inline bs k.1)

name_inline : (name : List ℕ) → is_name name ≡ true → Inline name
name_inline [] h = tt
name_inline (b ∷ bs) h = let k = and_parts (is_letter b) (list_all is_name_byte bs) h in (letter_inline b k.0, bytes_inline bs k.1)

written_inline : (b : ℕ) → Inline (written b)
written_inline b =
    ⊎_elim
    (λ e. subst Inline (sym (ap (λ (t : Bool). if t then 92 ∷ 110 ∷ [] else (if b == 34 || b == 92 then 92 ∷ b ∷ [] else b ∷ [])) e)) (refl, (refl, tt)))
    (λ e.
    let own : is_inline b ≡ true = not_from_false _ e in
    subst Inline (sym (ap (λ (t : Bool). if t then 92 ∷ 110 ∷ [] else (if b == 34 || b == 92 then 92 ∷ b ∷ [] else b ∷ [])) e))
    (⊎_elim
    (λ f. subst Inline (sym (ap (λ (t : Bool). if t then 92 ∷ b ∷ [] else b ∷ []) f)) (refl, (own, tt)))
    (λ f. subst Inline (sym (ap (λ (t : Bool). if t then 92 ∷ b ∷ [] else b ∷ []) f)) (own, tt))
    (cases_Bool (b == 34 || b == 92))))
    (cases_Bool (b == 10))

escape_inline : (bs : List ℕ) → Inline (escape bs)
escape_inline [] = tt
escape_inline (b ∷ bs) = every_append is_inline (written b) (escape bs) (written_inline b) (escape_inline bs)

int_inline : (z : ℤ) → in_range z ≡ true → Inline (signed_decimal z)
int_inline (pos n) h = let k : n ≤ 9223372036854775807 = leb-true _ _ h in decimal_inline n (omega arith)
int_inline (negsuc m) h = let k : m ≤ 9223372036854775807 = leb-true _ _ (and_parts _ _ h).0 in (refl, decimal_inline (suc m) (omega arith))

mutual
  value_inline : (p : Prog) (v : Val) → Writable p v → Inline (value_text p v)
  value_inline p (Int z) w = int_inline z w
  value_inline p (Str bytes) w = (refl, every_append is_inline (escape bytes) (34 ∷ []) (escape_inline bytes) (refl, tt))
  value_inline p (Atom ty n) w = every_append is_inline (atom_name p ty) (35 ∷ decimal n) (name_inline (atom_name p ty) w.0.name) (refl, decimal_inline n (let k = w.1 in omega arith))
  value_inline p (Con c args) w = every_append is_inline (con_name p c) (args_text p args) (name_inline (con_name p c) w.0.name) (args_inline p args w.1)
  value_inline p (Call c) w = absurd w
  value_inline p (Inv i) w = absurd w

  args_inline : (p : Prog) (vs : Vals) → AllWritable p vs → Inline (args_text p vs)
  args_inline p no_val w = tt
  args_inline p (also_val v vs) w = (refl, every_append is_inline (value_text p v) (more_args_text p vs) (value_inline p v w.0) (more_inline p vs w.1))

  more_inline : (p : Prog) (vs : Vals) → AllWritable p vs → Inline (more_args_text p vs)
  more_inline p no_val w = (refl, tt)
  more_inline p (also_val v vs) w = (refl, every_append is_inline (value_text p v) (more_args_text p vs) (value_inline p v w.0) (more_inline p vs w.1))

values_inline : (p : Prog) (vs : Vals) → AllWritable p vs → Inline (values_text p vs)
values_inline p no_val w = tt
values_inline p (also_val v vs) w = (refl, every_append is_inline (value_text p v) (values_text p vs) (value_inline p v w.0) (values_inline p vs w.1))

numbers_inline : (ns : List ℕ) (least : ℕ) → are_ascending least ns ≡ true → Inline (numbers_text ns)
numbers_inline [] least h = tt
numbers_inline (n ∷ ns) least h =
    let k = and_parts (nat_le least n && nat_lt n 4294967296) (are_ascending (n + 1) ns) h in
    let w = ltb-true n 4294967296 (and_parts (nat_le least n) (nat_lt n 4294967296) k.0).1 in
    (refl, every_append is_inline (decimal n) (numbers_text ns) (decimal_inline n (omega arith)) (numbers_inline ns (n + 1) k.1))

short_inline : (n : ℕ) → n < 2 ^ 32 → Inline (decimal n)
short_inline n h = decimal_inline n (omega arith)

pub label_inline : (p : Prog) (l : Label) → HasLine p l → Inline (label_text p l)
label_inline p (Invoke proc args) h =
    every_append is_inline (codes "invoke ") (proc_name p proc ++ values_text p (vals_of args)) (word_inline (codes "invoke ") refl)
    (every_append is_inline (proc_name p proc) (values_text p (vals_of args)) (name_inline (proc_name p proc) h.0.name) (values_inline p (vals_of args) h.1.0))
label_inline p (Begin i n ns) h =
    every_append is_inline (codes "begin ") (decimal i ++ (codes " stamp " ++ (decimal n ++ (codes " sees" ++ numbers_text ns)))) (word_inline (codes "begin ") refl)
    (every_append is_inline (decimal i) (codes " stamp " ++ (decimal n ++ (codes " sees" ++ numbers_text ns))) (short_inline i h.0)
    (every_append is_inline (codes " stamp ") (decimal n ++ (codes " sees" ++ numbers_text ns)) (word_inline (codes " stamp ") refl)
    (every_append is_inline (decimal n) (codes " sees" ++ numbers_text ns) (decimal_inline n h.1)
    (every_append is_inline (codes " sees") (numbers_text ns) (word_inline (codes " sees") refl) (numbers_inline ns 0 h.2)))))
label_inline p (Op i n) h =
    every_append is_inline (codes "op ") (decimal i ++ (codes " stamp " ++ decimal n)) (word_inline (codes "op ") refl)
    (every_append is_inline (decimal i) (codes " stamp " ++ decimal n) (short_inline i h.0)
    (every_append is_inline (codes " stamp ") (decimal n) (word_inline (codes " stamp ") refl) (decimal_inline n h.1)))
label_inline p (Local i) h = every_append is_inline (codes "local ") (decimal i) (word_inline (codes "local ") refl) (short_inline i h)
label_inline p (New i v) h =
    every_append is_inline (codes "new ") (decimal i ++ 32 ∷ value_text p v) (word_inline (codes "new ") refl)
    (every_append is_inline (decimal i) (32 ∷ value_text p v) (short_inline i h.0) (refl, value_inline p v h.1.0))
label_inline p (Commit i) h = every_append is_inline (codes "commit ") (decimal i) (word_inline (codes "commit ") refl) (short_inline i h)
label_inline p (Return i) h = every_append is_inline (codes "return ") (decimal i) (word_inline (codes "return ") refl) (short_inline i h)
label_inline p (Fail i) h = every_append is_inline (codes "fail ") (decimal i) (word_inline (codes "fail ") refl) (short_inline i h)
label_inline p (Check ns) h = every_append is_inline (codes "check") (numbers_text ns) (word_inline (codes "check") refl) (numbers_inline ns 0 h)
