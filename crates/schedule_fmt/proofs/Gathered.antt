-- What a loop has read so far, and what it still reads.
use Rattle.std.proofs.Common.{◌≡◌, ℕ, suc, ◌+◌, ◌-◌, ◌<◌, ◌≤◌, Bool, true, false, List, [], ◌∷◌, ◌++◌, length, drop, map, slice_get, get_or, Option, Some, None, refl, sym, ap, ◌∙◌, arith, append_assoc, append-nil}
use Rattle.std.specs.Prelude.{nat_le, if◌then◌else◌}
use Rattle.std.specs.Option.{option_map}
use Rattle.std.proofs.lemmas.List.{drop_more, drop_all, map-append, same_from_push}
use Rattle.rp_value.specs.declared.tables.Ty.{Ty}
use Rattle.rp_value.specs.Values.{Val, Vals, no_val, also_val}
use Rattle.rp_value.specs.ValueView.{vals_of}
use Rattle.rp_lang.specs.Programs.{Prog}
use Rattle.schedule_fmt.specs.means.Reading.{◌>>=◌, next_is, number, put_front, ends_string, may_stand, added_by, opens_escape, chars_from, also, also_arg, args_behind, args_from, numbers_behind, numbers_from, values_behind, values_from, whole_value}

-- # Lists

map_put : {X : Type 0} (xs ys : List X) (o : Option (List X × ℕ)) → option_map (put_front xs) (option_map (put_front ys) o) ≡ option_map (put_front (xs ++ ys)) o
map_put xs ys None = refl
map_put xs ys (Some r) = ap (λ zs. Some (zs, r.1)) (sym (append_assoc xs ys r.0))

map_also : {X : Type 0} (xs : List X) (x : X) (o : Option (List X × ℕ)) → option_map (put_front xs) (option_map (also x) o) ≡ option_map (put_front (xs ++ x ∷ [])) o
map_also xs x None = refl
map_also xs x (Some r) = ap (λ zs. Some (zs, r.1)) (sym (append_assoc xs (x ∷ []) r.0))

put_nothing : {X : Type 0} (xs : List X) (at : ℕ) → option_map (put_front xs) (Some ([], at)) ≡ Some (xs, at)
put_nothing xs at = ap (λ zs. Some (zs, at)) (append-nil xs)

pub put_none : {X : Type 0} (o : Option (List X × ℕ)) → o ≡ option_map (put_front []) o
put_none None = refl
put_none (Some r) = refl

one_less : (n i : ℕ) → i < n → n - i ≡ suc (n - (i + 1))
one_less n i h = omega arith

none_left : (n i : ℕ) → n ≤ i → n - i ≡ 0
none_left n i h = omega arith

pub pushed_map : {X V : Type 0} (view : X → V) (xs ys : List X) (x : X) → ys ≡ xs ++ x ∷ [] → map view ys ≡ map view xs ++ view x ∷ []
pushed_map view xs ys x e = ap (map view) e ∙ map-append view xs (x ∷ [])

pub one_last : {X : Type 0} (x y : X) (xs : List X) → x ∷ [] ≡ xs ++ y ∷ [] → x ≡ y
one_last x y xs e = (same_from_push [] xs x y e).1

-- # Characters of a string

chars_at : (text : List ℕ) (e : Bool) (at : ℕ) → at < length text
    → chars_from (drop at text) e at ≡ chars_from (get_or text at 0 ∷ drop (at + 1) text) e at
chars_at text e at h = ap (λ bs. chars_from bs e at) (drop_more text at 0 h)

pub char_more : (whole : Option (List ℕ × ℕ)) (text bytes more : List ℕ) (e : Bool) (at : ℕ) → at < length text
    → ends_string e (get_or text at 0) ≡ false → may_stand e (get_or text at 0) ≡ true → more ≡ bytes ++ added_by e (get_or text at 0)
    → whole ≡ option_map (put_front bytes) (chars_from (drop at text) e at)
    → whole ≡ option_map (put_front more) (chars_from (drop (at + 1) text) (opens_escape e (get_or text at 0)) (at + 1))
char_more whole text bytes more e at lt ends may m so_far =
    let b = get_or text at 0 in
    let later = chars_from (drop (at + 1) text) (opens_escape e b) (at + 1) in
    so_far ∙ ap (option_map (put_front bytes)) (chars_at text e at lt)
    ∙ ap (λ (t : Bool). option_map (put_front bytes) (if t then Some ([], at + 1) else (if may_stand e b then option_map (put_front (added_by e b)) later else None))) ends
    ∙ ap (λ (t : Bool). option_map (put_front bytes) (if t then option_map (put_front (added_by e b)) later else None)) may
    ∙ map_put bytes (added_by e b) later
    ∙ ap (λ bs. option_map (put_front bs) later) (sym m)

pub char_last : (whole : Option (List ℕ × ℕ)) (text bytes : List ℕ) (e : Bool) (at : ℕ) → at < length text
    → ends_string e (get_or text at 0) ≡ true
    → whole ≡ option_map (put_front bytes) (chars_from (drop at text) e at)
    → whole ≡ Some (bytes, at + 1)
char_last whole text bytes e at lt ends so_far =
    let b = get_or text at 0 in
    let later = chars_from (drop (at + 1) text) (opens_escape e b) (at + 1) in
    so_far ∙ ap (option_map (put_front bytes)) (chars_at text e at lt)
    ∙ ap (λ (t : Bool). option_map (put_front bytes) (if t then Some ([], at + 1) else (if may_stand e b then option_map (put_front (added_by e b)) later else None))) ends
    ∙ put_nothing bytes (at + 1)

pub char_bad : (whole : Option (List ℕ × ℕ)) (text bytes : List ℕ) (e : Bool) (at : ℕ) → at < length text
    → ends_string e (get_or text at 0) ≡ false → may_stand e (get_or text at 0) ≡ false
    → whole ≡ option_map (put_front bytes) (chars_from (drop at text) e at)
    → whole ≡ None
char_bad whole text bytes e at lt ends may so_far =
    let b = get_or text at 0 in
    let later = chars_from (drop (at + 1) text) (opens_escape e b) (at + 1) in
    so_far ∙ ap (option_map (put_front bytes)) (chars_at text e at lt)
    ∙ ap (λ (t : Bool). option_map (put_front bytes) (if t then Some ([], at + 1) else (if may_stand e b then option_map (put_front (added_by e b)) later else None))) ends
    ∙ ap (λ (t : Bool). option_map (put_front bytes) (if t then option_map (put_front (added_by e b)) later else None)) may

pub chars_over : (whole : Option (List ℕ × ℕ)) (text bytes : List ℕ) (e : Bool) (at : ℕ) → length text ≤ at
    → whole ≡ option_map (put_front bytes) (chars_from (drop at text) e at)
    → whole ≡ None
chars_over whole text bytes e at h so_far = so_far ∙ ap (λ bs. option_map (put_front bytes) (chars_from bs e at)) (drop_all at text h)

-- # Arguments

-- the values before those that follow
abbrev pub before : List Val → Vals → Vals
before [] rest = rest
before (v ∷ vs) rest = also_val v (before vs rest)

before_all : (vs : List Val) (v : Val) → before vs (also_val v no_val) ≡ vals_of (vs ++ v ∷ [])
before_all [] v = refl
before_all (w ∷ vs) v = ap (also_val w) (before_all vs v)

before_more : (vs : List Val) (v : Val) (rest : Vals) → before vs (also_val v rest) ≡ before (vs ++ v ∷ []) rest
before_more [] v rest = refl
before_more (w ∷ vs) v rest = ap (also_val w) (before_more vs v rest)

abbrev pub args_front : List Val → Vals × ℕ → Vals × ℕ
args_front vs r = (before vs r.0, r.1)

pub args_none_yet : (o : Option (Vals × ℕ)) → o ≡ option_map (args_front []) o
args_none_yet None = refl
args_none_yet (Some r) = refl

map_args : (vs : List Val) (v : Val) (o : Option (Vals × ℕ)) → option_map (args_front vs) (option_map (also_arg v) o) ≡ option_map (args_front (vs ++ v ∷ [])) o
map_args vs v None = refl
map_args vs v (Some r) = ap (λ zs. Some (zs, r.1)) (before_more vs v r.0)

module _ (read : Option Ty → ℕ → Option (Val × ℕ)) (text : List ℕ) (tys : List Ty) (whole : Option (Vals × ℕ)) (n i at : ℕ) (vs : List Val) where
  abbrev pub ArgsSoFar : Type 0
  ArgsSoFar = whole ≡ option_map (args_front vs) (args_from read text (n - i) tys i at)

  later : ℕ → Option (Vals × ℕ)
  later = args_from read text (n - (i + 1)) tys (i + 1)

  arg_read : (o : Option (Val × ℕ)) → i < n → read (slice_get tys i) at ≡ o → ArgsSoFar
      → whole ≡ option_map (args_front vs) (o >>= args_behind (args_from read text (n - (i + 1)) tys (i + 1)) text)
  arg_read o lt is so_far =
      so_far ∙ ap (λ k. option_map (args_front vs) (args_from read text k tys i at)) (one_less n i lt)
      ∙ ap (λ r. option_map (args_front vs) (r >>= args_behind (args_from read text (n - (i + 1)) tys (i + 1)) text)) is

  pub arg_absent : i < n → read (slice_get tys i) at ≡ None → ArgsSoFar → whole ≡ None
  arg_absent lt is so_far = arg_read None lt is so_far

  pub arg_last : (v : Val) (to : ℕ) → i < n → read (slice_get tys i) at ≡ Some (v, to) → next_is 41 text to ≡ true → ArgsSoFar → whole ≡ Some (vals_of (vs ++ v ∷ []), to + 1)
  arg_last v to lt is closes so_far =
      let next = args_from read text (n - (i + 1)) tys (i + 1) (to + 1) in
      arg_read (Some (v, to)) lt is so_far
      ∙ ap (λ (t : Bool). option_map (args_front vs) (if t then Some (also_val v no_val, to + 1) else (if next_is 44 text to then option_map (also_arg v) next else None))) closes
      ∙ ap (λ us. Some (us, to + 1)) (before_all vs v)

  pub arg_bad : (v : Val) (to : ℕ) → i < n → read (slice_get tys i) at ≡ Some (v, to) → next_is 41 text to ≡ false → next_is 44 text to ≡ false → ArgsSoFar → whole ≡ None
  arg_bad v to lt is closes follows so_far =
      let next = args_from read text (n - (i + 1)) tys (i + 1) (to + 1) in
      arg_read (Some (v, to)) lt is so_far
      ∙ ap (λ (t : Bool). option_map (args_front vs) (if t then Some (also_val v no_val, to + 1) else (if next_is 44 text to then option_map (also_arg v) next else None))) closes
      ∙ ap (λ (t : Bool). option_map (args_front vs) (if t then option_map (also_arg v) next else None)) follows

  pub arg_more : (v : Val) (to : ℕ) (us : List Val) → i < n → read (slice_get tys i) at ≡ Some (v, to) → next_is 41 text to ≡ false → next_is 44 text to ≡ true → us ≡ vs ++ v ∷ [] → ArgsSoFar
      → whole ≡ option_map (args_front us) (args_from read text (n - (i + 1)) tys (i + 1) (to + 1))
  arg_more v to us lt is closes follows e so_far =
      let next = args_from read text (n - (i + 1)) tys (i + 1) (to + 1) in
      arg_read (Some (v, to)) lt is so_far
      ∙ ap (λ (t : Bool). option_map (args_front vs) (if t then Some (also_val v no_val, to + 1) else (if next_is 44 text to then option_map (also_arg v) next else None))) closes
      ∙ ap (λ (t : Bool). option_map (args_front vs) (if t then option_map (also_arg v) next else None)) follows
      ∙ map_args vs v next ∙ ap (λ ws. option_map (args_front ws) next) (sym e)

  pub args_over : n ≤ i → ArgsSoFar → whole ≡ None
  args_over h so_far = so_far ∙ ap (λ k. option_map (args_front vs) (args_from read text k tys i at)) (none_left n i h)

-- # Numbers

module _ (text : List ℕ) (whole : Option (List ℕ × ℕ)) (n i least at : ℕ) (ns : List ℕ) where
  abbrev pub NumbersSoFar : Type 0
  NumbersSoFar = whole ≡ option_map (put_front ns) (numbers_from text (n - i) least at)

  number_read : (o : Option (ℕ × ℕ)) → i < n → next_is 32 text at ≡ true → number 4294967295 text (at + 1) ≡ o → NumbersSoFar
      → whole ≡ option_map (put_front ns) (o >>= numbers_behind (numbers_from text (n - (i + 1))) least)
  number_read o lt space is so_far =
      so_far ∙ ap (λ k. option_map (put_front ns) (numbers_from text k least at)) (one_less n i lt)
      ∙ ap (λ (t : Bool). option_map (put_front ns) (if t then (number 4294967295 text (at + 1) >>= numbers_behind (numbers_from text (n - (i + 1))) least) else Some ([], at))) space
      ∙ ap (λ r. option_map (put_front ns) (r >>= numbers_behind (numbers_from text (n - (i + 1))) least)) is

  pub number_absent : i < n → next_is 32 text at ≡ true → number 4294967295 text (at + 1) ≡ None → NumbersSoFar → whole ≡ None
  number_absent lt space is so_far = number_read None lt space is so_far

  pub number_low : (m to : ℕ) → i < n → next_is 32 text at ≡ true → number 4294967295 text (at + 1) ≡ Some (m, to) → nat_le least m ≡ false → NumbersSoFar → whole ≡ None
  number_low m to lt space is low so_far =
      number_read (Some (m, to)) lt space is so_far
      ∙ ap (λ (t : Bool). option_map (put_front ns) (if t then option_map (also m) (numbers_from text (n - (i + 1)) (m + 1) to) else None)) low

  pub number_more : (m to : ℕ) (us : List ℕ) → i < n → next_is 32 text at ≡ true → number 4294967295 text (at + 1) ≡ Some (m, to) → nat_le least m ≡ true → us ≡ ns ++ m ∷ [] → NumbersSoFar
      → whole ≡ option_map (put_front us) (numbers_from text (n - (i + 1)) (m + 1) to)
  number_more m to us lt space is fits e so_far =
      let next = numbers_from text (n - (i + 1)) (m + 1) to in
      number_read (Some (m, to)) lt space is so_far
      ∙ ap (λ (t : Bool). option_map (put_front ns) (if t then option_map (also m) next else None)) fits
      ∙ map_also ns m next ∙ ap (λ ws. option_map (put_front ws) next) (sym e)

  pub numbers_end : i < n → next_is 32 text at ≡ false → NumbersSoFar → whole ≡ Some (ns, at)
  numbers_end lt space so_far =
      so_far ∙ ap (λ k. option_map (put_front ns) (numbers_from text k least at)) (one_less n i lt)
      ∙ ap (λ (t : Bool). option_map (put_front ns) (if t then (number 4294967295 text (at + 1) >>= numbers_behind (numbers_from text (n - (i + 1))) least) else Some ([], at))) space
      ∙ put_nothing ns at

  pub numbers_over : n ≤ i → NumbersSoFar → whole ≡ Some (ns, at)
  numbers_over h so_far = so_far ∙ ap (λ k. option_map (put_front ns) (numbers_from text k least at)) (none_left n i h) ∙ put_nothing ns at

-- # Values

module _ (p : Prog) (text : List ℕ) (tys : List Ty) (whole : Option (List Val × ℕ)) (n i at : ℕ) (vs : List Val) where
  abbrev pub ValuesSoFar : Type 0
  ValuesSoFar = whole ≡ option_map (put_front vs) (values_from p text (n - i) tys i at)

  value_read : (o : Option (Val × ℕ)) → i < n → next_is 32 text at ≡ true → whole_value p text (slice_get tys i) (at + 1) ≡ o → ValuesSoFar
      → whole ≡ option_map (put_front vs) (o >>= values_behind (values_from p text (n - (i + 1)) tys (i + 1)))
  value_read o lt space is so_far =
      so_far ∙ ap (λ k. option_map (put_front vs) (values_from p text k tys i at)) (one_less n i lt)
      ∙ ap (λ (t : Bool). option_map (put_front vs) (if t then (whole_value p text (slice_get tys i) (at + 1) >>= values_behind (values_from p text (n - (i + 1)) tys (i + 1))) else Some ([], at))) space
      ∙ ap (λ r. option_map (put_front vs) (r >>= values_behind (values_from p text (n - (i + 1)) tys (i + 1)))) is

  pub value_absent : i < n → next_is 32 text at ≡ true → whole_value p text (slice_get tys i) (at + 1) ≡ None → ValuesSoFar → whole ≡ None
  value_absent lt space is so_far = value_read None lt space is so_far

  pub value_more : (v : Val) (to : ℕ) (us : List Val) → i < n → next_is 32 text at ≡ true → whole_value p text (slice_get tys i) (at + 1) ≡ Some (v, to) → us ≡ vs ++ v ∷ [] → ValuesSoFar
      → whole ≡ option_map (put_front us) (values_from p text (n - (i + 1)) tys (i + 1) to)
  value_more v to us lt space is e so_far =
      let next = values_from p text (n - (i + 1)) tys (i + 1) to in
      value_read (Some (v, to)) lt space is so_far
      ∙ map_also vs v next ∙ ap (λ ws. option_map (put_front ws) next) (sym e)

  pub values_end : i < n → next_is 32 text at ≡ false → ValuesSoFar → whole ≡ Some (vs, at)
  values_end lt space so_far =
      so_far ∙ ap (λ k. option_map (put_front vs) (values_from p text k tys i at)) (one_less n i lt)
      ∙ ap (λ (t : Bool). option_map (put_front vs) (if t then (whole_value p text (slice_get tys i) (at + 1) >>= values_behind (values_from p text (n - (i + 1)) tys (i + 1))) else Some ([], at))) space
      ∙ put_nothing vs at

  pub values_over : n ≤ i → ValuesSoFar → whole ≡ Some (vs, at)
  values_over h so_far = so_far ∙ ap (λ k. option_map (put_front vs) (values_from p text k tys i at)) (none_left n i h) ∙ put_nothing vs at
