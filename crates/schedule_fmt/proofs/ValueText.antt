-- Values that are read are written so, and values that are written are read.
use Rattle.std.proofs.Common.{◌≡◌, ℕ, ℤ, zero, suc, ◌+◌, ◌-◌, true, List, [], ◌∷◌, ◌++◌, length, drop, slice_get, Option, Some, None, refl, sym, ap, subst, ◌∙◌, arith, ⊎_elim, append-nil}
use Rattle.std.specs.Fmt.{decimal}
use Rattle.std.proofs.lemmas.Bool.{and_from, lt-ltb}
use Rattle.rp_value.specs.declared.tables.Ty.{Ty}
use Rattle.rp_value.specs.Values.{Val, Int, Str, Atom, Con, Vals, no_val, also_val}
use Rattle.rp_lang.specs.Programs.{Prog}
use Rattle.rp_lang.specs.Types.{fields_of}
use Rattle.schedule_fmt.specs.Texts.{value_text, more_args_text, atom_name, con_name, escape}
use Rattle.schedule_fmt.specs.Schedules.{is_name, atom_called, con_meant, Writable, AllWritable, nests_within, all_nest_within, Placed, AllPlaced}
use Rattle.schedule_fmt.specs.means.Reading.{next_is, name_end, slice, string_value, int_value, atom, con, args_from, args_by, named, value_by, value}
use Rattle.schedule_fmt.proofs.Inversions.{some_is, none_some, tested, either, and_then, mapped, Spans, joined}
use Rattle.schedule_fmt.proofs.Numerals.{number_sound, int_sound, next_spans}
use Rattle.schedule_fmt.proofs.StringText.{string_sound}
use Rattle.schedule_fmt.proofs.NameText.{name_sound, atom_named, con_is_meant, con_writable}

same_value : (r s : Val × ℕ) → Some r ≡ Some s → (r.0 ≡ s.0) × (r.1 ≡ s.1)
same_value r s h = let e = some_is _ _ h in (ap (λ q. q.0) e, ap (λ q. q.1) e)

same_args : (r s : Vals × ℕ) → r ≡ s → (r.0 ≡ s.0) × (r.1 ≡ s.1)
same_args r s e = (ap (λ q. q.0) e, ap (λ q. q.1) e)

-- # Read, so written

pub record ValueRead (p : Prog) (text : List ℕ) (d : ℕ) (asked : Option Ty) (at : ℕ) (v : Val) (to : ℕ) : Type 0 where
  pub spans : Spans text at to (value_text p v)
  pub writable : Writable p v
  pub nests : nests_within d v ≡ true
  pub placed : Placed p asked v

-- what stands behind an opening parenthesis
abbrev pub inner_text : Prog → Vals → List ℕ
inner_text p no_val = []
inner_text p (also_val v vs) = value_text p v ++ more_args_text p vs

abbrev pub Some_args : Vals → Type 0
Some_args no_val = ⊥
Some_args (also_val v vs) = Unit {0}

pub record ArgsRead (p : Prog) (text : List ℕ) (d : ℕ) (tys : List Ty) (i at : ℕ) (vs : Vals) (to : ℕ) : Type 0 where
  pub some : Some_args vs
  pub spans : Spans text at to (inner_text p vs)
  pub writable : AllWritable p vs
  pub nest : all_nest_within d vs ≡ true
  pub placed : AllPlaced p tys i vs

module _ (p : Prog) (text : List ℕ) where
  moved : (d : ℕ) (asked : Option Ty) (at : ℕ) (v w : Val) (to end : ℕ) → v ≡ w → to ≡ end → ValueRead p text d asked at v to → ValueRead p text d asked at w end
  moved d asked at v w to end e h r = subst (λ x. ValueRead p text d asked at x end) e (subst (λ j. ValueRead p text d asked at v j) h r)

  quoted : (d : ℕ) (asked : Option Ty) (at : ℕ) (v : Val) (to : ℕ) → next_is 34 text at ≡ true → string_value text (at + 1) ≡ Some (v, to) → ValueRead p text d asked at v to
  quoted d asked at v to q h =
      let r = and_then {X = List ℕ × ℕ} _ _ _ h in
      let s = same_value _ _ r.2 in
      let e = string_sound text (at + 1) r.0.0 r.0.1 r.1 in
      moved d asked at (Str r.0.0) v r.0.1 to s.0 s.1 (record {
        spans = joined text at (at + 1) r.0.1 (34 ∷ []) (escape r.0.0 ++ 34 ∷ []) (next_spans 34 text at q) e.spans;
        writable = e.chars;
        nests = refl;
        placed = tt;
      })

  integer : (d : ℕ) (asked : Option Ty) (at : ℕ) (v : Val) (to : ℕ) → int_value text at ≡ Some (v, to) → ValueRead p text d asked at v to
  integer d asked at v to h =
      let r = and_then {X = ℤ × ℕ} _ _ _ h in
      let s = same_value _ _ r.2 in
      let e = int_sound text at r.0.0 r.0.1 r.1 in
      moved d asked at (Int r.0.0) v r.0.1 to s.0 s.1 (record { spans = e.spans; writable = e.word; nests = refl; placed = tt })

  an_atom : (d : ℕ) (asked : Option Ty) (at m : ℕ) (v : Val) (to : ℕ) → name_end text at ≡ Some m → next_is 35 text m ≡ true → atom p text at m ≡ Some (v, to) → ValueRead p text d asked at v to
  an_atom d asked at m v to n q h =
      let name = name_sound text at m n in
      let ty = and_then {X = ℕ} _ _ _ h in
      let r = and_then {X = ℕ × ℕ} _ _ _ ty.2 in
      let s = same_value _ _ r.2 in
      let e = number_sound 4294967295 text (m + 1) r.0.0 r.0.1 (omega arith) (omega arith) r.1 in
      let is : atom_name p ty.0 ≡ slice text at m = atom_named p (slice text at m) ty.0 ty.1 in
      let back = joined text m (m + 1) r.0.1 (35 ∷ []) (decimal r.0.0) (next_spans 35 text m q) e.spans in
      let whole = joined text at m r.0.1 (slice text at m) (35 ∷ decimal r.0.0) name.spans back in
      moved d asked at (Atom ty.0 r.0.0) v r.0.1 to s.0 s.1 (record {
        spans = subst (λ x. Spans text at r.0.1 (x ++ 35 ∷ decimal r.0.0)) (sym is) whole;
        writable = (record { name = subst (λ x. is_name x ≡ true) (sym is) name.name; meant = ap (atom_called p) is ∙ ty.1 }, (let w = e.within in omega arith));
        nests = refl;
        placed = tt;
      })

  module _ (d : ℕ) (read : Option Ty → ℕ → Option (Val × ℕ)) (sound : (asked : Option Ty) (at : ℕ) (v : Val) (to : ℕ) → read asked at ≡ Some (v, to) → ValueRead p text d asked at v to) where
    last_arg : (tys : List Ty) (i at : ℕ) (v : Val) (to : ℕ) → read (slice_get tys i) at ≡ Some (v, to) → next_is 41 text to ≡ true → ArgsRead p text d tys i at (also_val v no_val) (to + 1)
    last_arg tys i at v to e q = let r = sound (slice_get tys i) at v to e in record {
      some = tt;
      spans = joined text at to (to + 1) (value_text p v) (41 ∷ []) r.spans (next_spans 41 text to q);
      writable = (r.writable, tt);
      nest = and_from _ _ r.nests refl;
      placed = (r.placed, tt);
    }

    one_arg : (tys : List Ty) (i at : ℕ) (v w : Val) (vs : Vals) (to end : ℕ) → read (slice_get tys i) at ≡ Some (v, to) → next_is 44 text to ≡ true
        → ArgsRead p text d tys (i + 1) (to + 1) (also_val w vs) end → ArgsRead p text d tys i at (also_val v (also_val w vs)) end
    one_arg tys i at v w vs to end e q later = let r = sound (slice_get tys i) at v to e in record {
      some = tt;
      spans = joined text at to end (value_text p v) (44 ∷ (value_text p w ++ more_args_text p vs)) r.spans
          (joined text to (to + 1) end (44 ∷ []) (value_text p w ++ more_args_text p vs) (next_spans 44 text to q) later.spans);
      writable = (r.writable, later.writable);
      nest = and_from _ _ r.nests later.nest;
      placed = (r.placed, later.placed);
    }

    more_args : (tys : List Ty) (i at : ℕ) (v : Val) (vs : Vals) (to end : ℕ) → read (slice_get tys i) at ≡ Some (v, to) → next_is 44 text to ≡ true
        → ArgsRead p text d tys (i + 1) (to + 1) vs end → ArgsRead p text d tys i at (also_val v vs) end
    more_args tys i at v no_val to end e q later = absurd later.some
    more_args tys i at v (also_val w vs) to end e q later = one_arg tys i at v w vs to end e q later

    shifted : (tys : List Ty) (i at : ℕ) (vs ws : Vals) (to end : ℕ) → vs ≡ ws → to ≡ end → ArgsRead p text d tys i at vs to → ArgsRead p text d tys i at ws end
    shifted tys i at vs ws to end e h r = subst (λ x. ArgsRead p text d tys i at x end) e (subst (λ j. ArgsRead p text d tys i at vs j) h r)

    pub args_sound : (k : ℕ) (tys : List Ty) (i at : ℕ) (vs : Vals) (to : ℕ) → args_from read text k tys i at ≡ Some (vs, to) → ArgsRead p text d tys i at vs to
    args_sound zero tys i at vs to h = absurd (none_some _ h)
    args_sound (suc k) tys i at vs to h =
        let r = and_then {X = Val × ℕ} _ _ _ h in
        ⊎_elim
        (λ t. let s = same_args _ _ (some_is _ _ t.1) in shifted tys i at (also_val r.0.0 no_val) vs (r.0.1 + 1) to s.0 s.1 (last_arg tys i at r.0.0 r.0.1 r.1 t.0))
        (λ t.
        let q = tested _ _ _ t.1 in
        let m = mapped {X = Vals × ℕ} _ _ _ q.1 in
        let s = same_args _ _ m.2 in
        shifted tys i at (also_val r.0.0 m.0.0) vs m.0.1 to s.0 s.1
        (more_args tys i at r.0.0 m.0.0 r.0.1 m.0.1 r.1 q.0 (args_sound k tys (i + 1) (r.0.1 + 1) m.0.0 m.0.1 m.1)))
        (either _ _ _ _ r.2)

    with_args : (asked : Option Ty) (at m c : ℕ) (vs : Vals) (to : ℕ) → name_end text at ≡ Some m → con_meant p asked (slice text at m) ≡ Some c → next_is 40 text m ≡ true
        → ArgsRead p text d (fields_of p.cons c) 0 (m + 1) vs to → ValueRead p text (suc d) asked at (Con c vs) to
    with_args asked at m c no_val to n e q r = absurd r.some
    with_args asked at m c (also_val v vs) to n e q r =
        let name = name_sound text at m n in
        let meant = con_is_meant p asked (slice text at m) c e in
        let inside : List ℕ = value_text p v ++ more_args_text p vs in
        let back = joined text m (m + 1) to (40 ∷ []) (value_text p v ++ more_args_text p vs) (next_spans 40 text m q) r.spans in
        let whole = joined text at m to (slice text at m) (40 ∷ (value_text p v ++ more_args_text p vs)) name.spans back in
        let less : suc d - 1 ≡ d = omega arith in record {
          spans = subst (λ x. Spans text at to (x ++ 40 ∷ (value_text p v ++ more_args_text p vs))) (sym meant.named) whole;
          writable = (con_writable p (slice text at m) c name.name meant, r.writable);
          nests = and_from _ _ (lt-ltb 0 (suc d) (omega arith)) (subst (λ k. all_nest_within k (also_val v vs) ≡ true) (sym less) r.nest);
          placed = (ap (con_meant p asked) meant.named ∙ e, r.placed);
        }

    bare_con : (asked : Option Ty) (at m c : ℕ) → name_end text at ≡ Some m → con_meant p asked (slice text at m) ≡ Some c → ValueRead p text (suc d) asked at (Con c no_val) m
    bare_con asked at m c n e =
        let name = name_sound text at m n in
        let meant = con_is_meant p asked (slice text at m) c e in record {
          spans = record { is = name.spans.is ∙ ap (λ x. x ++ drop m text) (sym (append-nil (con_name p c) ∙ meant.named)) };
          writable = (con_writable p (slice text at m) c name.name meant, tt);
          nests = and_from _ _ (lt-ltb 0 (suc d) (omega arith)) refl;
          placed = (ap (con_meant p asked) meant.named ∙ e, tt);
        }

    con_sound : (asked : Option Ty) (at m : ℕ) (v : Val) (to : ℕ) → name_end text at ≡ Some m → con p text (args_by read text) asked at m ≡ Some (v, to) → ValueRead p text (suc d) asked at v to
    con_sound asked at m v to n h =
        let c = and_then {X = ℕ} _ _ _ h in
        ⊎_elim
        (λ t.
        let r = and_then {X = Vals × ℕ} _ _ _ t.1 in
        let s = same_value _ _ r.2 in
        moved (suc d) asked at (Con c.0 r.0.0) v r.0.1 to s.0 s.1
        (with_args asked at m c.0 r.0.0 r.0.1 n c.1 t.0 (args_sound (length text) (fields_of p.cons c.0) 0 (m + 1) r.0.0 r.0.1 r.1)))
        (λ t. let s = same_value _ _ t.1 in moved (suc d) asked at (Con c.0 no_val) v m to s.0 s.1 (bare_con asked at m c.0 n c.1))
        (either _ _ _ _ c.2)

  named_sound : (d : ℕ) (asked : Option Ty) (at : ℕ) (make : ℕ → ℕ → Option (Val × ℕ)) (o : Option ℕ) (v : Val) (to : ℕ)
      → ((m : ℕ) (w : Val) (end : ℕ) → name_end text at ≡ Some m → make at m ≡ Some (w, end) → ValueRead p text d asked at w end)
      → name_end text at ≡ o → named p text make at o ≡ Some (v, to) → ValueRead p text d asked at v to
  named_sound d asked at make None v to sound n h = integer d asked at v to h
  named_sound d asked at make (Some m) v to sound n h =
      ⊎_elim (λ t. an_atom d asked at m v to n t.0 t.1) (λ t. sound m v to n t.1) (either _ _ _ _ h)

  by_sound : (d : ℕ) (asked : Option Ty) (at : ℕ) (make : ℕ → ℕ → Option (Val × ℕ)) (v : Val) (to : ℕ)
      → ((m : ℕ) (w : Val) (end : ℕ) → name_end text at ≡ Some m → make at m ≡ Some (w, end) → ValueRead p text d asked at w end)
      → value_by p text make at ≡ Some (v, to) → ValueRead p text d asked at v to
  by_sound d asked at make v to sound h =
      ⊎_elim (λ t. quoted d asked at v to t.0 t.1) (λ t. named_sound d asked at make (name_end text at) v to sound refl t.1) (either _ _ _ _ h)

  pub value_sound : (d : ℕ) (asked : Option Ty) (at : ℕ) (v : Val) (to : ℕ) → value p text d asked at ≡ Some (v, to) → ValueRead p text d asked at v to
  value_sound zero asked at v to h = by_sound zero asked at (λ from m. None) v to (λ m w end n e. absurd (none_some _ e)) h
  value_sound (suc d) asked at v to h =
      by_sound (suc d) asked at (con p text (args_by (value p text d) text) asked) v to (λ m w end n e. con_sound d (value p text d) (value_sound d) asked at m w end n e) h
