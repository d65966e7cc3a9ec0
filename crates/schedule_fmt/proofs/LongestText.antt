-- The longest value that stands at a place is read.
use Rattle.std.proofs.Common.{◌≡◌, ℕ, ℤ, zero, suc, ◌+◌, ◌-◌, ◌<◌, ◌≤◌, Bool, true, false, List, [], ◌∷◌, ◌++◌, length, take, drop, slice_get, Option, Some, None, refl, sym, ap, subst, ◌∙◌, arith, inl, inr, ◌⊎◌, ⊎_elim, append_assoc, append-nil}
use Rattle.std.specs.Prelude.{◌==◌, ◌&&◌, max, min, if◌then◌else◌}
use Rattle.std.specs.Fmt.{decimal, signed_decimal}
use Rattle.std.specs.List.{prefix_len, position_from}
use Rattle.std.specs.Option.{option_or}
use Rattle.std.specs.Str.{bytes_eq}
use Rattle.std.proofs.lemmas.Bool.{cases_Bool, cases_lt, and_parts, and_from, eqb-false, ne_eqb}
use Rattle.std.proofs.lemmas.List.{length-append, length-drop, take_at, take-append-drop, drop-drop, drop_min}
use Rattle.std.proofs.lemmas.Slice.Eq.{bytes_eq-Decides}
use Rattle.rp_value.specs.declared.tables.ConDecl.{ConDecl}
use Rattle.rp_value.specs.declared.tables.Ty.{Ty}
use Rattle.rp_value.specs.Values.{Val, Int, Str, Atom, Con, Call, Inv, Vals, no_val, also_val}
use Rattle.rp_grammar.specs.Bytes.{is_name_byte}
use Rattle.rp_grammar.specs.Pieces.{Every}
use Rattle.rp_lang.specs.Programs.{Prog}
use Rattle.rp_lang.specs.Types.{fields_of}
use Rattle.schedule_fmt.specs.Texts.{value_text, atom_name, con_name, con_name_in}
use Rattle.schedule_fmt.specs.Schedules.{is_name, atom_called, con_is_called, con_making, con_meant, Writable, nests_within, Placed}
use Rattle.schedule_fmt.specs.means.Reading.{◌>>=◌, next_is, begins_with, number, name_from, name_end, slice, atom, con_with, con_within, args_by, value, whole_value, front_len, longest_name, bare, longest_value}
use Rattle.schedule_fmt.specs.Answers.{StandsAt}
use Rattle.schedule_fmt.proofs.Inversions.{some_is, none_some, untested, either, and_then, Spans, Reads, drop_next}
use Rattle.schedule_fmt.proofs.Numerals.{Longest, number_longest, int_longest, number_sound, next_reads}
use Rattle.schedule_fmt.proofs.NameText.{name_reads, con_is_meant, con_writable, all_every}
use Rattle.schedule_fmt.proofs.ValueSteps.{value_int, value_atom, value_con}
use Rattle.schedule_fmt.proofs.ValueText.{ValueRead, value_sound, args_sound}
use Rattle.schedule_fmt.proofs.ValueBack.{int_front, name_front, string_back, con_read}
use Rattle.schedule_fmt.proofs.LineText.{whole_sound}

-- # The longest name of a constructor

no_more : (a b : ℕ) → a ≤ max a b
no_more a b = omega arith

no_less : (a b : ℕ) → b ≤ max a b
no_less a b = omega arith

-- the name at the front of the bytes is as long as the longest, or shorter
longest_at_least : (bytes : List ℕ) (cons : List ConDecl) (k : ℕ) (c : ConDecl) → slice_get cons k ≡ Some c → front_len bytes c ≤ longest_name bytes cons
longest_at_least bytes [] k c h = absurd (none_some _ h)
longest_at_least bytes (x ∷ xs) zero c h =
    let e : x ≡ c = some_is _ _ h in
    subst (λ y. front_len bytes y ≤ longest_name bytes (x ∷ xs)) e (no_more (front_len bytes x) (longest_name bytes xs))
longest_at_least bytes (x ∷ xs) (suc k) c h =
    let r = longest_at_least bytes xs k c h in
    let m = no_less (front_len bytes x) (longest_name bytes xs) in
    omega arith

front_cases : (bytes : List ℕ) (c : ConDecl) → (front_len bytes c ≡ 0) ⊎ ((is_name c.name ≡ true) × (c.name ≡ take (front_len bytes c) bytes))
front_cases bytes c =
    ⊎_elim
    (λ t.
    let k = and_parts (is_name c.name) (bytes_eq c.name (take (length c.name) bytes)) t in
    let len : front_len bytes c ≡ length c.name = ap (λ (b : Bool). if b then length c.name else 0) t in
    inr (k.0, (bytes_eq-Decides c.name (take (length c.name) bytes)).0 k.1 ∙ ap (λ n. take n bytes) (sym len)))
    (λ t. inl (ap (λ (b : Bool). if b then length c.name else 0) t))
    (cases_Bool (is_name c.name && bytes_eq c.name (take (length c.name) bytes)))

-- one of a list has the name
abbrev Has : List ℕ → List ConDecl → Type 0
Has name cons = (i : ℕ) → (k : ℕ) × (position_from (con_is_called name) i cons ≡ Some k)

has_first : (name : List ℕ) (c : ConDecl) (cons : List ConDecl) → c.name ≡ name → Has name (c ∷ cons)
has_first name c cons e i = (i, ap (λ (b : Bool). if b then Some i else position_from (con_is_called name) (i + 1) cons) ((bytes_eq-Decides c.name name).1 e))

has_later : (name : List ℕ) (c : ConDecl) (cons : List ConDecl) → Has name cons → Has name (c ∷ cons)
has_later name c cons h i =
    ⊎_elim
    (λ t. (i, ap (λ (b : Bool). if b then Some i else position_from (con_is_called name) (i + 1) cons) t))
    (λ t. let r = h (i + 1) in (r.0, ap (λ (b : Bool). if b then Some i else position_from (con_is_called name) (i + 1) cons) t ∙ r.1))
    (cases_Bool (bytes_eq c.name name))

longest_is : (bytes : List ℕ) (cons : List ConDecl) → 0 < longest_name bytes cons → (is_name (take (longest_name bytes cons) bytes) ≡ true) × Has (take (longest_name bytes cons) bytes) cons
longest_is bytes [] h = absurd (omega arith)
longest_is bytes (c ∷ cons) h =
    ⊎_elim
    (λ lt.
    let same : max (front_len bytes c) (longest_name bytes cons) ≡ front_len bytes c = omega arith in
    ⊎_elim
    (λ z. absurd (omega arith))
    (λ f. subst (λ n. (is_name (take n bytes) ≡ true) × Has (take n bytes) (c ∷ cons)) (sym same)
    (subst (λ x. is_name x ≡ true) f.1 f.0, has_first (take (front_len bytes c) bytes) c cons f.1))
    (front_cases bytes c))
    (λ le.
    let same : max (front_len bytes c) (longest_name bytes cons) ≡ longest_name bytes cons = omega arith in
    let r = longest_is bytes cons (omega arith) in
    subst (λ n. (is_name (take n bytes) ≡ true) × Has (take n bytes) (c ∷ cons)) (sym same) (r.0, has_later (take (longest_name bytes cons) bytes) c cons r.1))
    (cases_lt (longest_name bytes cons) (front_len bytes c))

-- # Constructors without arguments

declared : (o : Option ConDecl) → is_name (con_name_in o) ≡ true → (d : ConDecl) × (o ≡ Some d)
declared None h = cc
declared (Some d) h = (d, refl)

or_some : (o : Option ℕ) (k : ℕ) → (c : ℕ) × (option_or o (Some k) ≡ Some c)
or_some None k = (k, refl)
or_some (Some c) k = (c, refl)

name_some : (name : List ℕ) → is_name name ≡ true → 0 < length name
name_some [] h = cc
name_some (b ∷ bs) h = omega arith

-- a name that begins with these bytes ends no earlier
run_long : (p : ℕ → Bool) (bs rest : List ℕ) → Every p bs → length bs ≤ prefix_len p (bs ++ rest)
run_long p [] rest e = omega arith
run_long p (b ∷ bs) rest e =
    let r = run_long p bs rest e.1 in
    let l : prefix_len p ((b ∷ bs) ++ rest) ≡ 1 + prefix_len p (bs ++ rest) = ap (λ (t : Bool). if t then 1 + prefix_len p (bs ++ rest) else 0) (e.0) in
    omega arith

record Run (text : List ℕ) (at : ℕ) (rest : List ℕ) : Type 0 where
  to : ℕ
  found : name_end text at ≡ Some to
  left : length (drop to text) ≤ length rest

run : (text name rest : List ℕ) (at : ℕ) → is_name name ≡ true → drop at text ≡ name ++ rest → Run text at rest
run text [] rest at h e = cc
run text (b ∷ bs) rest at h e =
    let k = and_parts _ _ h in
    let l = run_long is_name_byte bs rest (all_every is_name_byte bs k.1) in
    let left = ap length e in record {
      to = at + 1 + prefix_len is_name_byte (bs ++ rest);
      found = ap (λ x. name_from x at) e ∙ ap (λ (t : Bool). if t then Some (at + 1 + prefix_len is_name_byte (bs ++ rest)) else None) k.0;
      left = omega (arith, length-drop (at + 1 + prefix_len is_name_byte (bs ++ rest)) text, length-drop at text, length-append bs rest);
    }

module _ (p : Prog) (text : List ℕ) where
  shorter : (i j : ℕ) (front : List ℕ) → Spans text i j front → length (drop j text) ≤ length (drop i text)
  shorter i j front s = omega (arith, ap length s.is, length-append front (drop j text))

  behind_one : (i : ℕ) → length (drop (i + 1) text) ≤ length (drop i text)
  behind_one i = omega (arith, length-drop (i + 1) text, length-drop i text)

  -- what a name begins leaves no more than what stands behind the name
  atom_left : (at m : ℕ) (v : Val) (to : ℕ) → atom p text at m ≡ Some (v, to) → length (drop to text) ≤ length (drop m text)
  atom_left at m v to h =
      let ty = and_then {X = ℕ} (atom_called p (slice text at m)) (λ t. number 4294967295 text (m + 1) >>= λ r. Some (Atom t r.0, r.1)) (v, to) h in
      let r = and_then {X = ℕ × ℕ} (number 4294967295 text (m + 1)) (λ r. Some (Atom ty.0 r.0, r.1)) (v, to) ty.2 in
      let e = number_sound 4294967295 text (m + 1) r.0.0 r.0.1 (omega arith) (omega arith) r.1 in
      let end : r.0.1 ≡ to = ap (λ q. q.1) (some_is (Atom ty.0 r.0.0, r.0.1) (v, to) r.2) in
      let a = shorter (m + 1) r.0.1 (decimal r.0.0) e.spans in
      let b = behind_one m in
      let all : length (drop r.0.1 text) ≤ length (drop m text) = omega arith in
      subst (λ j. length (drop j text) ≤ length (drop m text)) end all

  args_left : (d m c : ℕ) (v : Val) (to : ℕ) → (args_by (value p text d) text (fields_of p.cons c) (m + 1) >>= con_with c) ≡ Some (v, to)
      → length (drop to text) ≤ length (drop m text)
  args_left d m c v to h =
      let r = and_then {X = Vals × ℕ} (args_by (value p text d) text (fields_of p.cons c) (m + 1)) (con_with c) (v, to) h in
      let end : r.0.1 ≡ to = ap (λ q. q.1) (some_is (Con c r.0.0, r.0.1) (v, to) r.2) in
      let f = args_sound p text d (value p text d) (value_sound p text d) (length text) (fields_of p.cons c) 0 (m + 1) r.0.0 r.0.1 r.1 in
      let a = shorter (m + 1) r.0.1 _ f.spans in
      let b = behind_one m in
      let all : length (drop r.0.1 text) ≤ length (drop m text) = omega arith in
      subst (λ j. length (drop j text) ≤ length (drop m text)) end all

  bare_left : (m c : ℕ) (v : Val) (to : ℕ) → ◌≡◌ {A = Option (Val × ℕ)} (Some (Con c no_val, m)) (Some (v, to)) → length (drop to text) ≤ length (drop m text)
  bare_left m c v to h =
      let end : m ≡ to = ap (λ q. q.1) (some_is (Con c no_val, m) (v, to) h) in
      let all : length (drop m text) ≤ length (drop m text) = omega arith in
      subst (λ j. length (drop j text) ≤ length (drop m text)) end all

  con_left : (d : ℕ) (asked : Option Ty) (at m : ℕ) (v : Val) (to : ℕ) → con_within p text d asked at m ≡ Some (v, to) → length (drop to text) ≤ length (drop m text)
  con_left zero asked at m v to h = absurd (none_some _ h)
  con_left (suc d) asked at m v to h =
      let c = and_then {X = ℕ} (con_meant p asked (slice text at m)) (λ n. if next_is 40 text m then (args_by (value p text d) text (fields_of p.cons n) (m + 1) >>= con_with n) else Some (Con n no_val, m)) (v, to) h in
      ⊎_elim (λ t. args_left d m c.0 v to t.1) (λ t. bare_left m c.0 v to t.1)
      (either (next_is 40 text m) (args_by (value p text d) text (fields_of p.cons c.0) (m + 1) >>= con_with c.0) (Some (Con c.0 no_val, m)) (v, to) c.2)

  -- a value with a name
  named_left : (asked : Option Ty) (at m : ℕ) (v : Val) (to : ℕ) → next_is 34 text at ≡ false → name_end text at ≡ Some m → value p text 1000 asked at ≡ Some (v, to) → length (drop to text) ≤ length (drop m text)
  named_left asked at m v to q n h =
      ⊎_elim
      (λ t. atom_left at m v to (sym (value_atom p text 1000 asked at m q n t) ∙ h))
      (λ t. con_left 1000 asked at m v to (sym (value_con p text 1000 asked at m q n t) ∙ h))
      (cases_Bool (next_is 35 text m))

  first_or : (o q : Option (Val × ℕ)) (x : Val × ℕ) → o ≡ Some x → option_or o q ≡ Some x
  first_or o q x h = ap (λ r. option_or r q) h

  cut_back : (at n : ℕ) → slice text at (at + n) ≡ take n (drop at text)
  cut_back at n = let e : at + n - at ≡ n = omega arith in ap (λ k. take k (drop at text)) e

  -- as long as the text of a constructor without arguments
  bare_longest : (asked : Option Ty) (at c : ℕ) (rest : List ℕ) → is_name (con_name p c) ≡ true → drop at text ≡ con_name p c ++ rest → Longest text (bare p text asked at) rest
  bare_longest asked at c rest n e =
      let d = declared (slice_get p.cons.cons c) n in
      let named : con_name p c ≡ d.0.name = ap con_name_in d.1 in
      let name : is_name d.0.name ≡ true = subst (λ x. is_name x ≡ true) named n in
      let begins : d.0.name ≡ take (length d.0.name) (drop at text) = sym (ap (take (length d.0.name)) (e ∙ ap (λ x. x ++ rest) named) ∙ take_at d.0.name rest (length d.0.name) refl) in
      let len : front_len (drop at text) d.0 ≡ length d.0.name =
      ap (λ (b : Bool). if b then length d.0.name else 0) (and_from _ _ name ((bytes_eq-Decides d.0.name (take (length d.0.name) (drop at text))).1 begins)) in
      let most = longest_at_least (drop at text) p.cons.cons c d.0 d.1 in
      let some = name_some d.0.name name in
      let size : ℕ = longest_name (drop at text) p.cons.cons in
      let l = longest_is (drop at text) p.cons.cons (omega arith) in
      let k = l.1 0 in
      let o = or_some (con_making p asked (take (longest_name (drop at text) p.cons.cons) (drop at text))) k.0 in
      let called : con_meant p asked (take (longest_name (drop at text) p.cons.cons) (drop at text)) ≡ Some o.0 =
      ap (λ q. option_or (con_making p asked (take (longest_name (drop at text) p.cons.cons) (drop at text))) q) k.1 ∙ o.1 in
      let meant : con_meant p asked (slice text at (at + longest_name (drop at text) p.cons.cons)) ≡ Some o.0 =
      ap (con_meant p asked) (cut_back at (longest_name (drop at text) p.cons.cons)) ∙ called in
      let positive : (longest_name (drop at text) p.cons.cons == 0) ≡ false = ne_eqb (longest_name (drop at text) p.cons.cons) 0 (λ x. omega arith) in record {
        item = (Con o.0 no_val);
        to = at + longest_name (drop at text) p.cons.cons;
        found =
            ap (λ (b : Bool). if b then None else (con_meant p asked (slice text at (at + longest_name (drop at text) p.cons.cons)) >>= λ q. Some (Con q no_val, at + longest_name (drop at text) p.cons.cons))) positive
            ∙ ap (λ (q : Option ℕ). q >>= λ r. Some (Con r no_val, at + longest_name (drop at text) p.cons.cons)) meant;
        left = omega (arith, length-drop (at + longest_name (drop at text) p.cons.cons) text, length-drop at text, ap length e, length-append (con_name p c) rest, ap length named);
      }

  bare_or : (asked : Option Ty) (at m c : ℕ) (rest : List ℕ) (o : Option (Val × ℕ)) → value p text 1000 asked at ≡ o → is_name (con_name p c) ≡ true → drop at text ≡ con_name p c ++ rest
      → next_is 34 text at ≡ false → name_end text at ≡ Some m → length (drop m text) ≤ length rest → Longest text (option_or o (bare p text asked at)) rest
  bare_or asked at m c rest None h n e q f l = bare_longest asked at c rest n e
  bare_or asked at m c rest (Some x) h n e q f l = let w = named_left asked at m x.0 x.1 q f h in record { item = x.0; to = x.1; found = refl; left = (omega arith) }

  -- the longest of the value's reading and a constructor alone
  abbrev AtLeast : Option Ty → ℕ → List ℕ → Type 0
  AtLeast asked at rest = Longest text (option_or (value p text 1000 asked at) (bare p text asked at)) rest

  read_whole : (asked : Option Ty) (at : ℕ) (rest : List ℕ) (v : Val) → Reads text (value p text 1000 asked at) v rest → AtLeast asked at rest
  read_whole asked at rest v r = record { item = v; to = r.to; found = first_or _ (bare p text asked at) _ r.found; left = omega (arith, ap length r.left) }

  int_most : (asked : Option Ty) (at : ℕ) (z : ℤ) (rest : List ℕ) → Writable p (Int z) → drop at text ≡ signed_decimal z ++ rest → AtLeast asked at rest
  int_most asked at z rest w e =
      let r = int_longest z text rest at w e in
      let f = int_front z rest w in record {
        item = Int r.item;
        to = r.to;
        found = first_or _ (bare p text asked at) _
            (value_int p text 1000 asked at (ap (begins_with 34) e ∙ f.no_quote) (ap (λ bs. name_from bs at) e ∙ f.nameless at)
            ∙ ap (λ (o : Option (ℤ × ℕ)). o >>= λ q. Some (Int q.0, q.1)) r.found);
        left = r.left;
      }

  atom_most : (asked : Option Ty) (at ty n : ℕ) (rest : List ℕ) → Writable p (Atom ty n) → drop at text ≡ (atom_name p ty ++ 35 ∷ decimal n) ++ rest → AtLeast asked at rest
  atom_most asked at ty n rest w e =
      let split = e ∙ append_assoc (atom_name p ty) (35 ∷ decimal n) rest in
      let name = name_reads text (atom_name p ty) (35 ∷ (decimal n ++ rest)) at w.0.name split (λ x. cc) in
      let small : n ≤ 4294967295 = (let k = w.1 in omega arith) in
      let r = number_longest 4294967295 n text rest (name.to + 1) (omega arith) small (omega arith) (drop_next text 35 (decimal n ++ rest) name.to name.left) in record {
        item = Atom ty r.number_read;
        to = r.to;
        found = first_or _ (bare p text asked at) _
            (value_atom p text 1000 asked at name.to (ap (begins_with 34) split ∙ name_front (atom_name p ty) (35 ∷ (decimal n ++ rest)) w.0.name) name.found (next_reads 35 text (decimal n ++ rest) name.to name.left)
            ∙ ap (λ (o : Option ℕ). o >>= λ t. number 4294967295 text (name.to + 1) >>= λ q. Some (Atom t q.0, q.1)) (ap (atom_called p) name.cut ∙ w.0.meant)
            ∙ ap (λ (o : Option (ℕ × ℕ)). o >>= λ q. Some (Atom ty q.0, q.1)) r.found);
        left = r.left;
      }

  bare_most : (asked : Option Ty) (at c : ℕ) (rest : List ℕ) → Writable p (Con c no_val) → drop at text ≡ value_text p (Con c no_val) ++ rest → AtLeast asked at rest
  bare_most asked at c rest w e =
      let split : drop at text ≡ con_name p c ++ rest = e ∙ ap (λ x. x ++ rest) (append-nil (con_name p c)) in
      let r = run text (con_name p c) rest at w.0.name split in
      bare_or asked at r.to c rest (value p text 1000 asked at) refl w.0.name split (ap (begins_with 34) split ∙ name_front (con_name p c) rest w.0.name) r.found r.left

  most : (v : Val) (asked : Option Ty) (at : ℕ) (rest : List ℕ) → Writable p v → nests_within 1000 v ≡ true → Placed p asked v → drop at text ≡ value_text p v ++ rest → AtLeast asked at rest
  most (Int z) asked at rest w n q e = int_most asked at z rest w e
  most (Str bytes) asked at rest w n q e = read_whole asked at rest (Str bytes) (string_back p text 1000 asked at bytes rest w e)
  most (Atom ty m) asked at rest w n q e = atom_most asked at ty m rest w e
  most (Con c no_val) asked at rest w n q e = bare_most asked at c rest w e
  most (Con c (also_val v vs)) asked at rest w n q e = read_whole asked at rest (Con c (also_val v vs)) (con_read p text 1000 c v vs asked at rest w n q e)
  most (Call c) asked at rest w n q e = absurd w
  most (Inv i) asked at rest w n q e = absurd w

  pub longest_most : (v : Val) (asked : Option Ty) (at : ℕ) (rest : List ℕ) → Writable p v → nests_within 1000 v ≡ true → Placed p asked v → drop at text ≡ value_text p v ++ rest
      → Longest text (longest_value p text asked at) rest
  unfolding whole_value
  longest_most v asked at rest w n q e = most v asked at rest w n q e

  bare_sound : (asked : Option Ty) (at : ℕ) (v : Val) (to : ℕ) → bare p text asked at ≡ Some (v, to) → ValueRead p text 1000 asked at v to
  bare_sound asked at v to h =
      let t = untested _ _ _ h in
      let c = and_then {X = ℕ} _ _ _ t.1 in
      let size : 0 < longest_name (drop at text) p.cons.cons = (let k = eqb-false (longest_name (drop at text) p.cons.cons) 0 t.0 in omega arith) in
      let l = longest_is (drop at text) p.cons.cons size in
      let cut_off = cut_back at (longest_name (drop at text) p.cons.cons) in
      let name : is_name (slice text at (at + longest_name (drop at text) p.cons.cons)) ≡ true = subst (λ x. is_name x ≡ true) (sym cut_off) l.0 in
      let meant = con_is_meant p asked (slice text at (at + longest_name (drop at text) p.cons.cons)) c.0 c.1 in
      let e = some_is _ _ c.2 in
      let whole : drop at text ≡ value_text p (Con c.0 no_val) ++ drop (at + longest_name (drop at text) p.cons.cons) text =
      sym (take-append-drop (longest_name (drop at text) p.cons.cons) (drop at text))
      ∙ ap (λ x. take (longest_name (drop at text) p.cons.cons) (drop at text) ++ x) (drop-drop (longest_name (drop at text) p.cons.cons) at text)
      ∙ ap (λ x. x ++ drop (at + longest_name (drop at text) p.cons.cons) text) (sym cut_off ∙ sym meant.named ∙ sym (append-nil (con_name p c.0))) in
      let made : ValueRead p text 1000 asked at (Con c.0 no_val) (at + longest_name (drop at text) p.cons.cons) = (record {
        spans = record { is = whole };
        writable = (con_writable p (slice text at (at + longest_name (drop at text) p.cons.cons)) c.0 name meant, tt);
        nests = refl;
        placed = (ap (con_meant p asked) meant.named ∙ c.1, tt);
      }) in
      subst (λ r. ValueRead p text 1000 asked at r.0 r.1) e made

  or_sound : (asked : Option Ty) (at : ℕ) (o : Option (Val × ℕ)) (v : Val) (to : ℕ) → ((w : Val) (end : ℕ) → o ≡ Some (w, end) → ValueRead p text 1000 asked at w end)
      → option_or o (bare p text asked at) ≡ Some (v, to) → ValueRead p text 1000 asked at v to
  or_sound asked at None v to f h = bare_sound asked at v to h
  or_sound asked at (Some x) v to f h = f v to h

  pub longest_sound : (asked : Option Ty) (at : ℕ) (v : Val) (to : ℕ) → longest_value p text asked at ≡ Some (v, to) → ValueRead p text 1000 asked at v to
  longest_sound asked at v to h = or_sound asked at (whole_value p text asked at) v to (λ w end e. whole_sound p text asked at w end e) h

-- # Answers

same_length : (text : List ℕ) (i j : ℕ) → i ≤ length text → length (drop j text) ≤ length (drop i text) → i ≤ min j (length text)
same_length text i j h l = omega (arith, length-drop i text, length-drop j text)

pub found_is_longest : (p : Prog) (ty : Ty) (bytes : List ℕ) (from : ℕ) (v : Val) (to end : ℕ) → longest_value p bytes (Some ty) from ≡ Some (v, to) → end ≡ min to (length bytes)
    → StandsAt p ty bytes from end v × ((w : Val) (j : ℕ) → StandsAt p ty bytes from j w → j ≤ end)
found_is_longest p ty bytes from v to end h e =
    let r = longest_sound p bytes (Some ty) from v to h in
    let same : drop to bytes ≡ drop end bytes = sym (drop_min to bytes) ∙ ap (λ j. drop j bytes) (sym e) in (
      record {
        has_text = (r.writable, r.nests);
        placed = r.placed;
        is = r.spans.is ∙ ap (λ x. value_text p v ++ x) same;
        within = omega arith;
      },
      λ w j s.
          let l = longest_most p bytes w (Some ty) from (drop j bytes) s.has_text.0 s.has_text.1 s.placed s.is in
          let k = some_is _ _ (sym l.found ∙ h) in
          let t : l.to ≡ to = ap (λ q. q.1) k in
          let m = same_length bytes j l.to s.within l.left in
          omega arith,
    )

pub none_stands : (p : Prog) (ty : Ty) (bytes : List ℕ) (from : ℕ) → longest_value p bytes (Some ty) from ≡ None → (v : Val) (to : ℕ) → StandsAt p ty bytes from to v → ⊥
none_stands p ty bytes from h v to s =
    let l = longest_most p bytes v (Some ty) from (drop to bytes) s.has_text.0 s.has_text.1 s.placed s.is in
    none_some _ (sym h ∙ l.found)
