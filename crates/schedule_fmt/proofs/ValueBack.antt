-- Values that are written are read.
use Rattle.std.proofs.Common.{◌≡◌, ℕ, ℤ, pos, negsuc, zero, suc, ◌+◌, ◌-◌, ◌<◌, ◌≤◌, Bool, true, false, List, [], ◌∷◌, ◌++◌, length, drop, slice_get, Option, Some, None, refl, sym, ap, ◌∙◌, arith, append_assoc, append-nil}
use Rattle.std.specs.Prelude.{◌^◌, ◌==◌, nat_lt, if◌then◌else◌}
use Rattle.std.specs.Fmt.{decimal, signed_decimal}
use Rattle.std.specs.List.{prefix_len}
use Rattle.std.specs.Option.{option_map}
use Rattle.std.proofs.lemmas.Bool.{and_parts, ltb-true, leb-true, ne_eqb}
use Rattle.std.proofs.lemmas.Bool.Decides.{nat_tests}
use Rattle.std.proofs.lemmas.List.{length-append, length-drop}
use Rattle.std.proofs.lemmas.Fmt.{digits_decimal, decimal_nonempty}
use Rattle.rp_value.specs.declared.tables.Ty.{Ty}
use Rattle.rp_value.specs.Values.{Val, Int, Str, Atom, Con, Call, Inv, Vals, no_val, also_val}
use Rattle.rp_grammar.specs.Bytes.{is_digit, is_letter, is_name_byte}
use Rattle.rp_grammar.specs.Pieces.{Every}
use Rattle.rp_grammar.proofs.Fronts.{Stops}
use Rattle.rp_lang.specs.Programs.{Prog}
use Rattle.rp_lang.specs.Types.{fields_of}
use Rattle.crdt_defs.specs.Atoms.{in_range}
use Rattle.schedule_fmt.specs.Texts.{value_text, more_args_text, atom_name, con_name, escape}
use Rattle.schedule_fmt.specs.Schedules.{is_name, atom_called, con_meant, Writable, AllWritable, nests_within, all_nest_within, Placed, AllPlaced}
use Rattle.schedule_fmt.specs.means.Reading.{◌>>=◌, next_is, begins_with, number, name_from, also_arg, args_behind, args_from, value}
use Rattle.schedule_fmt.proofs.Inversions.{Reads, drop_next}
use Rattle.schedule_fmt.proofs.Numerals.{numerals, number_reads, int_reads, next_reads, next_is_not}
use Rattle.schedule_fmt.proofs.StringText.{string_reads}
use Rattle.schedule_fmt.proofs.NameText.{name_reads}
use Rattle.schedule_fmt.proofs.ValueSteps.{value_quoted, value_int, value_atom, value_con, con_args, con_bare}

-- what may stand behind a value
pub data Stop : ℕ → Type 0 where
  newline : Stop 10
  space : Stop 32
  close : Stop 41
  comma : Stop 44

abbrev pub Ends : List ℕ → Type 0
Ends [] = Unit {0}
Ends (b ∷ bs) = Stop b

no_name : {b : ℕ} → Stop b → is_name_byte b ≡ true → ⊥
no_name newline e = cc
no_name space e = cc
no_name close e = cc
no_name comma e = cc

no_digit : {b : ℕ} → Stop b → is_digit b ≡ true → ⊥
no_digit newline e = cc
no_digit space e = cc
no_digit close e = cc
no_digit comma e = cc

no_mark : {b : ℕ} → Stop b → (b == 35) ≡ false
no_mark newline = refl
no_mark space = refl
no_mark close = refl
no_mark comma = refl

no_open : {b : ℕ} → Stop b → (b == 40) ≡ false
no_open newline = refl
no_open space = refl
no_open close = refl
no_open comma = refl

pub ends_name : (rest : List ℕ) → Ends rest → Stops is_name_byte rest
ends_name [] s = tt
ends_name (b ∷ bs) s = no_name s

pub ends_digits : (rest : List ℕ) → Ends rest → Stops is_digit rest
ends_digits [] s = tt
ends_digits (b ∷ bs) s = no_digit s

ends_mark : (rest : List ℕ) → Ends rest → begins_with 35 rest ≡ false
ends_mark [] s = refl
ends_mark (b ∷ bs) s = no_mark s

ends_open : (rest : List ℕ) → Ends rest → begins_with 40 rest ≡ false
ends_open [] s = refl
ends_open (b ∷ bs) s = no_open s

-- # First bytes

pub record Front (bs : List ℕ) : Type 0 where
  pub no_quote : begins_with 34 bs ≡ false
  pub nameless : (at : ℕ) → name_from bs at ≡ None

digit_front : (ds rest : List ℕ) → Every is_digit ds → 0 < length ds → Front (ds ++ rest)
digit_front [] rest e h = absurd (omega arith)
digit_front (c ∷ cs) rest e h =
    let k = and_parts _ _ (e.0) in
    let low : 48 ≤ c = leb-true 48 c k.0 in
    let high : c ≤ 57 = leb-true c 57 k.1 in
    let plain : is_letter c ≡ false = grind (arith, nat_tests) in record {
      no_quote = ne_eqb c 34 (λ x. omega arith);
      nameless = λ at. ap (λ (t : Bool). if t then Some (at + 1 + prefix_len is_name_byte (cs ++ rest)) else None) plain;
    }

pub int_front : (z : ℤ) (rest : List ℕ) → in_range z ≡ true → Front (signed_decimal z ++ rest)
int_front (pos n) rest h =
    let small : n ≤ 9223372036854775807 = leb-true _ _ h in
    let wide : n < 2 ^ 64 = omega arith in
    digit_front (decimal n) rest (digits_decimal numerals n wide) (decimal_nonempty n wide)
int_front (negsuc m) rest h = record { no_quote = refl; nameless = λ at. refl }

letter_no_quote : (b : ℕ) → is_letter b ≡ true → (b == 34) ≡ false
letter_no_quote b h = grind (arith, nat_tests)

pub name_front : (name rest : List ℕ) → is_name name ≡ true → begins_with 34 (name ++ rest) ≡ false
name_front [] rest h = cc
name_front (b ∷ bs) rest h = letter_no_quote b (and_parts _ _ h).0

-- # Counts

abbrev count : Vals → ℕ
count no_val = 0
count (also_val v vs) = suc (count vs)

more_long : (p : Prog) (vs : Vals) → count vs < length (more_args_text p vs)
more_long p no_val = omega arith
more_long p (also_val v vs) = let h = more_long p vs in omega (arith, length-append (value_text p v) (more_args_text p vs))

-- # Arguments

module _ (read : Option Ty → ℕ → Option (Val × ℕ)) (text : List ℕ) (k : ℕ) (tys : List Ty) (i at : ℕ) (v : Val) (to : ℕ) where
  first_arg : read (slice_get tys i) at ≡ Some (v, to) → args_from read text (suc k) tys i at ≡ args_behind (args_from read text k tys (i + 1)) text (v, to)
  first_arg h = ap (λ o. o >>= args_behind (args_from read text k tys (i + 1)) text) h

  last_arg : read (slice_get tys i) at ≡ Some (v, to) → next_is 41 text to ≡ true → args_from read text (suc k) tys i at ≡ Some (also_val v no_val, to + 1)
  last_arg h closes =
      first_arg h
      ∙ ap (λ (t : Bool). if t then Some (also_val v no_val, to + 1) else (if next_is 44 text to then option_map (also_arg v) (args_from read text k tys (i + 1) (to + 1)) else None)) closes

  next_arg : (o : Option (Vals × ℕ)) → read (slice_get tys i) at ≡ Some (v, to) → next_is 41 text to ≡ false → next_is 44 text to ≡ true → args_from read text k tys (i + 1) (to + 1) ≡ o
      → args_from read text (suc k) tys i at ≡ option_map (also_arg v) o
  next_arg o h closes follows e =
      first_arg h
      ∙ ap (λ (t : Bool). if t then Some (also_val v no_val, to + 1) else (if next_is 44 text to then option_map (also_arg v) (args_from read text k tys (i + 1) (to + 1)) else None)) closes
      ∙ ap (λ (t : Bool). if t then option_map (also_arg v) (args_from read text k tys (i + 1) (to + 1)) else None) follows
      ∙ ap (option_map (also_arg v)) e

-- An argument that a comma follows, and then the others. What reads a value stays abstract, so that the check of this step is small.
more_from : (read : Option Ty → ℕ → Option (Val × ℕ)) (text : List ℕ) (k : ℕ) (tys : List Ty) (i at : ℕ) (v u : Val) (vs : Vals) (more rest : List ℕ)
    → Reads text (read (slice_get tys i) at) v (44 ∷ more)
    → ((to : ℕ) → drop to text ≡ more → Reads text (args_from read text k tys (i + 1) to) (also_val u vs) rest)
    → Reads text (args_from read text (suc k) tys i at) (also_val v (also_val u vs)) rest
more_from read text k tys i at v u vs more rest r later =
    let s = later (r.to + 1) (drop_next text 44 more r.to r.left) in record {
      to = s.to;
      found =
          next_arg read text k tys i at v r.to (Some (also_val u vs, s.to)) r.found
          (next_is_not 41 44 text more r.to r.left (λ x. cc))
          (next_reads 44 text more r.to r.left) s.found;
      left = s.left;
    }

module _ (p : Prog) (text : List ℕ) where
  int_back : (d : ℕ) (asked : Option Ty) (at : ℕ) (z : ℤ) (rest : List ℕ) → in_range z ≡ true → drop at text ≡ signed_decimal z ++ rest → Ends rest → Reads text (value p text d asked at) (Int z) rest
  int_back d asked at z rest w e s =
      let r = int_reads z text rest at w e (ends_digits rest s) in
      let f = int_front z rest w in record {
        to = r.to;
        found =
            value_int p text d asked at (ap (begins_with 34) e ∙ f.no_quote) (ap (λ bs. name_from bs at) e ∙ f.nameless at)
            ∙ ap (λ (o : Option (ℤ × ℕ)). o >>= λ q. Some (Int q.0, q.1)) r.found;
        left = r.left;
      }

  pub string_back : (d : ℕ) (asked : Option Ty) (at : ℕ) (bytes rest : List ℕ) → Writable p (Str bytes) → drop at text ≡ (34 ∷ (escape bytes ++ 34 ∷ [])) ++ rest → Reads text (value p text d asked at) (Str bytes) rest
  string_back d asked at bytes rest w e =
      let r = string_reads text bytes rest (at + 1) w (drop_next text 34 ((escape bytes ++ 34 ∷ []) ++ rest) at e) in record {
        to = r.to;
        found =
            value_quoted p text d asked at (next_reads 34 text ((escape bytes ++ 34 ∷ []) ++ rest) at e)
            ∙ ap (λ (o : Option (List ℕ × ℕ)). o >>= λ q. Some (Str q.0, q.1)) r.found;
        left = r.left;
      }

  atom_back : (d : ℕ) (asked : Option Ty) (at ty n : ℕ) (rest : List ℕ) → Writable p (Atom ty n) → drop at text ≡ (atom_name p ty ++ 35 ∷ decimal n) ++ rest → Ends rest → Reads text (value p text d asked at) (Atom ty n) rest
  atom_back d asked at ty n rest w e s =
      let split = e ∙ append_assoc (atom_name p ty) (35 ∷ decimal n) rest in
      let name = name_reads text (atom_name p ty) (35 ∷ (decimal n ++ rest)) at w.0.name split (λ x. cc) in
      let small : n ≤ 4294967295 = (let k = w.1 in omega arith) in
      let r = number_reads 4294967295 n text rest (name.to + 1) small (omega arith) (drop_next text 35 (decimal n ++ rest) name.to name.left) (ends_digits rest s) in record {
        to = r.to;
        found =
            value_atom p text d asked at name.to (ap (begins_with 34) split ∙ name_front (atom_name p ty) (35 ∷ (decimal n ++ rest)) w.0.name) name.found (next_reads 35 text (decimal n ++ rest) name.to name.left)
            ∙ ap (λ (o : Option ℕ). o >>= λ t. number 4294967295 text (name.to + 1) >>= λ q. Some (Atom t q.0, q.1)) (ap (atom_called p) name.cut ∙ w.0.meant)
            ∙ ap (λ (o : Option (ℕ × ℕ)). o >>= λ q. Some (Atom ty q.0, q.1)) r.found;
        left = r.left;
      }

  -- what reading a value with at most d constructors inside each other promises
  abbrev Back : ℕ → Val → Type 0
  Back d v = (asked : Option Ty) (at : ℕ) (rest : List ℕ) → Writable p v → nests_within d v ≡ true → Placed p asked v → drop at text ≡ value_text p v ++ rest → Ends rest → Reads text (value p text d asked at) v rest

  abbrev ArgsBack : ℕ → Val → Vals → Type 0
  ArgsBack d v vs = (k : ℕ) (tys : List Ty) (i at : ℕ) (rest : List ℕ) → count vs < k → Writable p v → nests_within d v ≡ true → Placed p (slice_get tys i) v
      → AllWritable p vs → all_nest_within d vs ≡ true → AllPlaced p tys (i + 1) vs
      → drop at text ≡ (value_text p v ++ more_args_text p vs) ++ rest → Reads text (args_from (value p text d) text k tys i at) (also_val v vs) rest

  last_back : (d : ℕ) (v : Val) → Back d v → ArgsBack d v no_val
  last_back d v back zero tys i at rest h w n q ws ns qs e = absurd (omega arith)
  last_back d v back (suc k) tys i at rest h w n q ws ns qs e =
      let r = back (slice_get tys i) at (41 ∷ rest) w n q (e ∙ append_assoc (value_text p v) (41 ∷ []) rest) close in record {
        to = r.to + 1;
        found = last_arg (value p text d) text k tys i at v r.to r.found (next_reads 41 text rest r.to r.left);
        left = drop_next text 41 rest r.to r.left;
      }

  more_back : (d : ℕ) (v u : Val) (vs : Vals) → Back d v → ArgsBack d u vs → ArgsBack d v (also_val u vs)
  more_back d v u vs back later zero tys i at rest h w n q ws ns qs e = absurd (omega arith)
  more_back d v u vs back later (suc k) tys i at rest h w n q ws ns qs e =
      let less : count vs < k = omega arith in
      let ms = and_parts (nests_within d u) (all_nest_within d vs) ns in
      more_from (value p text d) text k tys i at v u vs ((value_text p u ++ more_args_text p vs) ++ rest) rest
      (back (slice_get tys i) at (44 ∷ ((value_text p u ++ more_args_text p vs) ++ rest)) w n q (e ∙ append_assoc (value_text p v) (44 ∷ (value_text p u ++ more_args_text p vs)) rest) comma)
      (λ to g. later k tys (i + 1) to rest less ws.0 ms.0 qs.0 ws.1 ms.1 qs.1 g)

  deep : (d : ℕ) (c : ℕ) (args : Vals) → nests_within d (Con c args) ≡ true → 0 < d
  deep d c args h = ltb-true 0 d (and_parts (nat_lt 0 d) (all_nest_within (d - 1) args) h).0

  bare_back : (d c : ℕ) → Back d (Con c no_val)
  bare_back d c asked at rest w n q e s =
      let split : drop at text ≡ con_name p c ++ rest = e ∙ ap (λ x. x ++ rest) (append-nil (con_name p c)) in
      let name = name_reads text (con_name p c) rest at w.0.name split (ends_name rest s) in
      let no_quote = ap (begins_with 34) split ∙ name_front (con_name p c) rest w.0.name in record {
        to = name.to;
        found =
            value_con p text d asked at name.to no_quote name.found (ap (begins_with 35) name.left ∙ ends_mark rest s)
            ∙ con_bare p text d asked at name.to c (deep d c no_val n) (ap (con_meant p asked) name.cut ∙ q.0) (ap (begins_with 40) name.left ∙ ends_open rest s);
        left = name.left;
      }

  -- a constructor with arguments is read whatever stands behind it
  con_back : (d c : ℕ) (v : Val) (vs : Vals) → ArgsBack (d - 1) v vs → (asked : Option Ty) (at : ℕ) (rest : List ℕ) → Writable p (Con c (also_val v vs)) → nests_within d (Con c (also_val v vs)) ≡ true
      → Placed p asked (Con c (also_val v vs)) → drop at text ≡ value_text p (Con c (also_val v vs)) ++ rest → Reads text (value p text d asked at) (Con c (also_val v vs)) rest
  con_back d c v vs args asked at rest w n q e =
      let split : drop at text ≡ con_name p c ++ 40 ∷ ((value_text p v ++ more_args_text p vs) ++ rest) = e ∙ append_assoc (con_name p c) (40 ∷ (value_text p v ++ more_args_text p vs)) rest in
      let name = name_reads text (con_name p c) (40 ∷ ((value_text p v ++ more_args_text p vs) ++ rest)) at w.0.name split (λ x. cc) in
      let no_quote = ap (begins_with 34) split ∙ name_front (con_name p c) (40 ∷ ((value_text p v ++ more_args_text p vs) ++ rest)) w.0.name in
      let opened = drop_next text 40 ((value_text p v ++ more_args_text p vs) ++ rest) name.to name.left in
      let k = and_parts (nat_lt 0 d) (all_nest_within (d - 1) (also_val v vs)) n in
      let ns = and_parts (nests_within (d - 1) v) (all_nest_within (d - 1) vs) k.1 in
      let room : count vs < length text =
      (let long = more_long p vs in omega (arith, sym (length-drop (name.to + 1) text) ∙ ap length opened, length-append (value_text p v ++ more_args_text p vs) rest, length-append (value_text p v) (more_args_text p vs))) in
      let r = args (length text) (fields_of p.cons c) 0 (name.to + 1) rest room w.1.0 ns.0 q.1.0 w.1.1 ns.1 q.1.1 opened in record {
        to = r.to;
        found =
            value_con p text d asked at name.to no_quote name.found (next_is_not 35 40 text ((value_text p v ++ more_args_text p vs) ++ rest) name.to name.left (λ x. cc))
            ∙ con_args p text d asked at name.to c (Some (also_val v vs, r.to)) (ltb-true 0 d k.0) (ap (con_meant p asked) name.cut ∙ q.0) (next_reads 40 text ((value_text p v ++ more_args_text p vs) ++ rest) name.to name.left) r.found;
        left = r.left;
      }

  -- the same of all arguments
  abbrev AllBack : ℕ → Vals → Type 0
  AllBack d no_val = Unit {0}
  AllBack d (also_val v vs) = ArgsBack d v vs

  args_step : (d : ℕ) (v : Val) (vs : Vals) → Back d v → AllBack d vs → ArgsBack d v vs
  args_step d v no_val back later = last_back d v back
  args_step d v (also_val u us) back later = more_back d v u us back later

  con_step : (d c : ℕ) (args : Vals) → AllBack (d - 1) args → Back d (Con c args)
  con_step d c no_val later = bare_back d c
  con_step d c (also_val v vs) later = λ asked at rest w n q e s. con_back d c v vs later asked at rest w n q e

  mutual
    pub value_back : (v : Val) (d : ℕ) → Back d v
    value_back (Int z) d = λ asked at rest w n q e s. int_back d asked at z rest w e s
    value_back (Str bytes) d = λ asked at rest w n q e s. string_back d asked at bytes rest w e
    value_back (Atom ty m) d = λ asked at rest w n q e s. atom_back d asked at ty m rest w e s
    value_back (Con c args) d = con_step d c args (args_back args (d - 1))
    value_back (Call c) d = λ asked at rest w n q e s. absurd w
    value_back (Inv i) d = λ asked at rest w n q e s. absurd w

    args_back : (vs : Vals) (d : ℕ) → AllBack d vs
    args_back no_val d = tt
    args_back (also_val v vs) d = args_step d v vs (value_back v d) (args_back vs d)

  pub con_read : (d c : ℕ) (v : Val) (vs : Vals) (asked : Option Ty) (at : ℕ) (rest : List ℕ) → Writable p (Con c (also_val v vs)) → nests_within d (Con c (also_val v vs)) ≡ true
      → Placed p asked (Con c (also_val v vs)) → drop at text ≡ value_text p (Con c (also_val v vs)) ++ rest → Reads text (value p text d asked at) (Con c (also_val v vs)) rest
  con_read d c v vs asked at rest w n q e = con_back d c v vs (args_back (also_val v vs) (d - 1)) asked at rest w n q e
