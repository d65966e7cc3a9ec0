-- Names and words that stand at a place, and what names mean.
use Rattle.std.proofs.Common.{◌≡◌, ℕ, suc, ◌+◌, ◌-◌, Bool, true, false, List, [], ◌∷◌, ◌++◌, length, take, drop, slice_get, Option, Some, None, refl, sym, ap, subst, ◌∙◌, arith, ⊎_elim, add-zero}
use Rattle.std.specs.Prelude.{◌==◌, ◌&&◌, if◌then◌else◌}
use Rattle.std.specs.Option.{option_or}
use Rattle.std.specs.List.{list_all, prefix_len, position_from}
use Rattle.std.specs.Str.{bytes_eq}
use Rattle.std.proofs.lemmas.Bool.{cases_Bool, and_parts, and_from, eqb-true, eq-eqb, both_ways}
use Rattle.std.proofs.lemmas.Slice.Eq.{bytes_eq-Decides}
use Rattle.std.proofs.lemmas.List.{drop-drop, take-append-drop, take_at}
use Rattle.rp_value.specs.declared.tables.ConDecl.{ConDecl}
use Rattle.rp_value.specs.declared.tables.Ty.{Ty}
use Rattle.rp_value.specs.declared.tables.Ty.TheVariants.{Datatype}
use Rattle.rp_grammar.specs.Bytes.{is_name_byte}
use Rattle.rp_grammar.specs.Pieces.{Every}
use Rattle.rp_grammar.proofs.Fronts.{Stops, cut, prefix_len_at}
use Rattle.rp_lang.specs.Programs.{Prog}
use Rattle.rp_lang.specs.Types.{datatype_in, datatype_of}
use Rattle.schedule_fmt.specs.Texts.{atom_name, atom_name_in, con_name, con_name_in, proc_name, proc_name_in}
use Rattle.schedule_fmt.specs.Schedules.{is_name, atom_is_called, con_is_called, proc_is_called, atom_called, con_called, proc_called, con_makes, con_making, con_meant, ConWritable}
use Rattle.schedule_fmt.specs.means.Reading.{word, name_from, name_end, slice}
use Rattle.schedule_fmt.proofs.Inversions.{some_is, none_some, tested, Spans, drop_front}

-- # Words

pub word_spans : (w text : List ℕ) (at to : ℕ) → word w text at ≡ Some to → Spans text at to w
word_spans w text at to h =
    let t = tested _ _ _ h in
    let same = (bytes_eq-Decides w (take (length w) (drop at text))).0 t.0 in
    let end = some_is _ _ t.1 in record {
      is =
          sym (take-append-drop (length w) (drop at text))
          ∙ ap (λ x. x ++ drop (length w) (drop at text)) (sym same)
          ∙ ap (λ x. w ++ x) (drop-drop (length w) at text ∙ ap (λ j. drop j text) end);
    }

pub word_reads : (w text rest : List ℕ) (at : ℕ) → drop at text ≡ w ++ rest → word w text at ≡ Some (at + length w)
word_reads w text rest at e =
    let same : w ≡ take (length w) (drop at text) = sym (ap (take (length w)) e ∙ take_at w rest (length w) refl) in
    ap (λ (t : Bool). if t then Some (at + length w) else None) ((bytes_eq-Decides w (take (length w) (drop at text))).1 same)

-- # Names

pub all_every : (p : ℕ → Bool) (bs : List ℕ) → list_all p bs ≡ true → Every p bs
all_every p [] h = tt
all_every p (b ∷ bs) h = let k = and_parts _ _ h in (k.0, all_every p bs k.1)

every_all : (p : ℕ → Bool) (bs : List ℕ) → Every p bs → list_all p bs ≡ true
every_all p [] h = refl
every_all p (b ∷ bs) h = and_from _ _ h.0 (every_all p bs h.1)

pub record NameRead (text : List ℕ) (at to : ℕ) : Type 0 where
  pub spans : Spans text at to (slice text at to)
  pub name : is_name (slice text at to) ≡ true

name_found : (text bs : List ℕ) (at to : ℕ) → drop at text ≡ bs → name_from bs at ≡ Some to → NameRead text at to
name_found text [] at to e h = absurd (none_some _ h)
name_found text (b ∷ bs) at to e h =
    let t = tested _ _ _ h in
    let c = cut is_name_byte bs in
    let end : at + 1 + prefix_len is_name_byte bs ≡ to = some_is _ _ t.1 in
    let name : List ℕ = b ∷ c.front in
    let whole : drop at text ≡ (b ∷ c.front) ++ c.rest = e ∙ ap (λ x. b ∷ x) c.is in
    let l : length (b ∷ c.front) ≡ to - at = let k = c.len in omega arith in
    let cut_off : slice text at to ≡ b ∷ c.front = ap (λ n. take n (drop at text)) (sym l) ∙ ap (take (length (b ∷ c.front))) whole ∙ take_at (b ∷ c.front) c.rest (length (b ∷ c.front)) refl in
    let left : drop to text ≡ c.rest = ap (λ j. drop j text) (let k : to ≡ at + suc (length c.front) = (let n = c.len in omega arith) in k) ∙ drop_front text (b ∷ c.front) c.rest at whole in record {
      spans = record { is = whole ∙ ap (λ x. x ++ c.rest) (sym cut_off) ∙ ap (λ x. slice text at to ++ x) (sym left) };
      name = subst (λ x. is_name x ≡ true) (sym cut_off) (and_from _ _ t.0 (every_all is_name_byte c.front c.every));
    }

pub name_sound : (text : List ℕ) (at to : ℕ) → name_end text at ≡ Some to → NameRead text at to
name_sound text at to h = name_found text (drop at text) at to refl h

pub record NameEnds (text : List ℕ) (at : ℕ) (name rest : List ℕ) : Type 0 where
  pub to : ℕ
  pub found : name_end text at ≡ Some to
  pub cut : slice text at to ≡ name
  pub left : drop to text ≡ rest

pub name_reads : (text name rest : List ℕ) (at : ℕ) → is_name name ≡ true → drop at text ≡ name ++ rest → Stops is_name_byte rest → NameEnds text at name rest
name_reads text [] rest at h e s = cc
name_reads text (b ∷ bs) rest at h e s =
    let k = and_parts _ _ h in
    let l = prefix_len_at is_name_byte bs rest (all_every is_name_byte bs k.1) s in
    let j : at + 1 + prefix_len is_name_byte (bs ++ rest) ≡ at + length (b ∷ bs) = omega arith in
    let n : at + length (b ∷ bs) - at ≡ length (b ∷ bs) = omega arith in record {
      to = at + length (b ∷ bs);
      found = ap (λ x. name_from x at) e ∙ ap (λ (t : Bool). if t then Some (at + 1 + prefix_len is_name_byte (bs ++ rest)) else None) k.0 ∙ ap Some j;
      cut = ap (λ m. take m (drop at text)) n ∙ ap (take (length (b ∷ bs))) e ∙ take_at (b ∷ bs) rest (length (b ∷ bs)) refl;
      left = drop_front text (b ∷ bs) rest at e;
    }

-- # Meanings

record At {X : Type 0} (t : X → Bool) (i : ℕ) (xs : List X) (k : ℕ) : Type 0 where
  place : ℕ
  item : X
  is : k ≡ i + place
  found : slice_get xs place ≡ Some item
  passes : t item ≡ true

position_found : {X : Type 0} (t : X → Bool) (i : ℕ) (xs : List X) (k : ℕ) → position_from t i xs ≡ Some k → At t i xs k
position_found t i [] k h = absurd (none_some _ h)
position_found t i (x ∷ xs) k h =
    ⊎_elim
    (λ e. record { place = 0; item = x; is = sym (some_is _ _ (sym (ap (λ (c : Bool). if c then Some i else position_from t (i + 1) xs) e) ∙ h)) ∙ sym (add-zero i); found = refl; passes = e })
    (λ e.
    let r = position_found t (i + 1) xs k (sym (ap (λ (c : Bool). if c then Some i else position_from t (i + 1) xs) e) ∙ h) in
    let l = r.is in record { place = suc r.place; item = r.item; is = omega arith; found = r.found; passes = r.passes })
    (cases_Bool (t x))

-- the item of the number passes
pub record Item {X : Type 0} (t : X → Bool) (xs : List X) (k : ℕ) : Type 0 where
  pub item : X
  pub found : slice_get xs k ≡ Some item
  pub passes : t item ≡ true

pub item_found : {X : Type 0} (t : X → Bool) (xs : List X) (k : ℕ) → position_from t 0 xs ≡ Some k → Item t xs k
item_found t xs k h = let r = position_found t 0 xs k h in let e : r.place ≡ k = (let l = r.is in omega arith) in record {
  item = r.item;
  found = ap (slice_get xs) (sym e) ∙ r.found;
  passes = r.passes;
}

-- the first that passes is also the first that passes this and another test, where it passes that
first_stays : {X : Type 0} (q t : X → Bool) (i : ℕ) (xs : List X) (k : ℕ) (x : X) → position_from t i xs ≡ Some k → slice_get xs (k - i) ≡ Some x → q x ≡ true
    → position_from (λ y. q y && t y) i xs ≡ Some k
first_stays q t i [] k x h s e = absurd (none_some _ h)
first_stays q t i (y ∷ ys) k x h s e =
    ⊎_elim
    (λ p.
    let at : i ≡ k = some_is _ _ (sym (ap (λ (c : Bool). if c then Some i else position_from t (i + 1) ys) p) ∙ h) in
    let zero_left : k - i ≡ 0 = omega arith in
    let same : y ≡ x = some_is _ _ (sym (ap (slice_get (y ∷ ys)) zero_left) ∙ s) in
    let both : (q y && t y) ≡ true = and_from _ _ (ap q same ∙ e) p in
    ap (λ (c : Bool). if c then Some i else position_from (λ z. q z && t z) (i + 1) ys) both ∙ ap Some at)
    (λ p.
    let later = sym (ap (λ (c : Bool). if c then Some i else position_from t (i + 1) ys) p) ∙ h in
    let r = position_found t (i + 1) ys k later in
    let one_less : k - i ≡ suc (k - (i + 1)) = (let l = r.is in omega arith) in
    let next = first_stays q t (i + 1) ys k x later (sym (ap (slice_get (y ∷ ys)) one_less) ∙ s) e in
    let neither : (q y && t y) ≡ false = ⊎_elim (λ b. absurd (both_ways _ p (and_parts _ _ b).1)) (λ b. b) (cases_Bool (q y && t y)) in
    ap (λ (c : Bool). if c then Some i else position_from (λ z. q z && t z) (i + 1) ys) neither ∙ next)
    (cases_Bool (t y))

called_name : (name other : List ℕ) → bytes_eq other name ≡ true → other ≡ name
called_name name other h = (bytes_eq-Decides other name).0 h

pub atom_named : (p : Prog) (name : List ℕ) (ty : ℕ) → atom_called p name ≡ Some ty → atom_name p ty ≡ name
atom_named p name ty h = let r = item_found (atom_is_called name) p.types.atoms ty h in ap atom_name_in r.found ∙ called_name name _ r.passes

pub proc_named : (p : Prog) (name : List ℕ) (proc : ℕ) → proc_called p name ≡ Some proc → proc_name p proc ≡ name
proc_named p name proc h = let r = item_found (proc_is_called name) p.procs proc h in ap proc_name_in r.found ∙ called_name name _ r.passes

-- a constructor that a name means has the name, and is the one of its own type
pub record Meant (p : Prog) (name : List ℕ) (con : ℕ) : Type 0 where
  pub named : con_name p con ≡ name
  pub own : con_meant p (datatype_of p.cons con) name ≡ Some con

making : (p : Prog) (d : ℕ) (name : List ℕ) (con : ℕ) → position_from (con_makes d name) 0 p.cons.cons ≡ Some con → Meant p name con
making p d name con h =
    let r = item_found (con_makes d name) p.cons.cons con h in
    let k = and_parts _ _ r.passes in
    let of_d : r.item.of ≡ d = eqb-true _ _ k.0 in record {
      named = ap con_name_in r.found ∙ called_name name _ k.1;
      own =
          ap (λ o. con_meant p (datatype_in o) name) r.found
          ∙ ap (λ e. con_meant p (Some (Datatype e)) name) of_d
          ∙ ap (λ o. option_or o (con_called p name)) h;
    }

calling : (p : Prog) (name : List ℕ) (con : ℕ) → con_called p name ≡ Some con → Meant p name con
calling p name con h =
    let r = item_found (con_is_called name) p.cons.cons con h in
    let of : ℕ = r.item.of in
    let same : con - 0 ≡ con = omega arith in
    let first = first_stays (λ (c : ConDecl). c.of == r.item.of) (con_is_called name) 0 p.cons.cons con r.item h (ap (slice_get p.cons.cons) same ∙ r.found) (eq-eqb _ _ refl) in record {
      named = ap con_name_in r.found ∙ called_name name _ r.passes;
      own = ap (λ o. con_meant p (datatype_in o) name) r.found ∙ ap (λ o. option_or o (con_called p name)) first;
    }

either_meant : (p : Prog) (name : List ℕ) (con : ℕ) (o : Option ℕ) → ((c : ℕ) → o ≡ Some c → Meant p name c) → option_or o (con_called p name) ≡ Some con → Meant p name con
either_meant p name con None f h = calling p name con h
either_meant p name con (Some c) f h = f con h

asked_making : (p : Prog) (asked : Option Ty) (name : List ℕ) (con : ℕ) → con_making p asked name ≡ Some con → Meant p name con
asked_making p (Some (Datatype d)) name con h = making p d name con h
asked_making p _ name con h = absurd (none_some _ h)

pub con_is_meant : (p : Prog) (asked : Option Ty) (name : List ℕ) (con : ℕ) → con_meant p asked name ≡ Some con → Meant p name con
con_is_meant p asked name con h = either_meant p name con (con_making p asked name) (λ c e. asked_making p asked name c e) h

pub con_writable : (p : Prog) (name : List ℕ) (con : ℕ) → is_name name ≡ true → Meant p name con → ConWritable p con
con_writable p name con n m = record {
  name = subst (λ x. is_name x ≡ true) (sym m.named) n;
  meant = ap (con_meant p (datatype_of p.cons con)) m.named ∙ m.own;
}
