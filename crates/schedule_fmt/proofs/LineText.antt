-- Lines that are read are written so.
use Rattle.std.proofs.Common.{◌≡◌, ℕ, zero, suc, ◌+◌, ◌<◌, true, List, [], ◌∷◌, ◌++◌, length, drop, slice_get, Option, Some, None, refl, sym, ap, subst, ◌∙◌, arith, inl, inr, ◌⊎◌, ⊎_elim, append-nil}
use Rattle.std.specs.Prelude.{◌^◌, codes, nat_lt}
use Rattle.std.specs.Fmt.{decimal}
use Rattle.std.proofs.lemmas.Bool.{and_from, eqb-true, lt-ltb}
use Rattle.std.proofs.lemmas.List.{nil_from_length}
use Rattle.rp_value.specs.declared.tables.Ty.{Ty}
use Rattle.rp_value.specs.Values.{Val}
use Rattle.rp_value.specs.ValueView.{vals_of}
use Rattle.rp_lang.specs.Programs.{Prog}
use Rattle.rp_lang.specs.Typing.{proc_params}
use Rattle.event_machine.specs.States.{Label, Invoke, Begin, Op, Local, New, Commit, Return, Fail, Check}
use Rattle.schedule_fmt.specs.Texts.{value_text, numbers_text, values_text, proc_name, label_text}
use Rattle.schedule_fmt.specs.Schedules.{is_name, proc_called, AllWritable, all_nest_within, AllPlaced, are_ascending, HasLine, LinePlaced}
use Rattle.schedule_fmt.specs.means.Reading.{word, slice, whole_value, numbers_from, values_from, invoke, begin, op, new, check, plain, behind, short_label, front_label, ends, label}
use Rattle.schedule_fmt.proofs.Inversions.{some_is, none_some, tested, either, and_then, mapped, Spans, joined}
use Rattle.schedule_fmt.proofs.Numerals.{number_sound, next_spans}
use Rattle.schedule_fmt.proofs.NameText.{name_sound, proc_named, word_spans}
use Rattle.schedule_fmt.proofs.ValueText.{ValueRead, value_sound}

pub whole_sound : (p : Prog) (text : List ℕ) (asked : Option Ty) (at : ℕ) (v : Val) (to : ℕ) → whole_value p text asked at ≡ Some (v, to) → ValueRead p text 1000 asked at v to
unfolding whole_value
whole_sound p text asked at v to h = value_sound p text 1000 asked at v to h

-- # Lists of numbers

record NumbersRead (text : List ℕ) (least at : ℕ) (ns : List ℕ) (to : ℕ) : Type 0 where
  spans : Spans text at to (numbers_text ns)
  ascend : are_ascending least ns ≡ true

same_numbers : (r s : List ℕ × ℕ) → r ≡ s → (r.0 ≡ s.0) × (r.1 ≡ s.1)
same_numbers r s e = (ap (λ q. q.0) e, ap (λ q. q.1) e)

numbers_moved : (text : List ℕ) (least at : ℕ) (ns ms : List ℕ) (to end : ℕ) → ns ≡ ms → to ≡ end → NumbersRead text least at ns to → NumbersRead text least at ms end
numbers_moved text least at ns ms to end e h r = subst (λ x. NumbersRead text least at x end) e (subst (λ j. NumbersRead text least at ns j) h r)

no_numbers : (text : List ℕ) (least at : ℕ) → NumbersRead text least at [] at
no_numbers text least at = record { spans = record { is = refl }; ascend = refl }

numbers_found : (text : List ℕ) (k least at : ℕ) (ns : List ℕ) (to : ℕ) → numbers_from text k least at ≡ Some (ns, to) → NumbersRead text least at ns to
numbers_found text zero least at ns to h = let s = same_numbers _ _ (some_is _ _ h) in numbers_moved text least at [] ns at to s.0 s.1 (no_numbers text least at)
numbers_found text (suc k) least at ns to h =
    ⊎_elim
    (λ t.
    let r = and_then {X = ℕ × ℕ} _ _ _ t.1 in
    let e = number_sound 4294967295 text (at + 1) r.0.0 r.0.1 (omega arith) (omega arith) r.1 in
    let q = tested _ _ _ r.2 in
    let m = mapped {X = List ℕ × ℕ} _ _ _ q.1 in
    let s = same_numbers _ _ m.2 in
    let later = numbers_found text k (r.0.0 + 1) r.0.1 m.0.0 m.0.1 m.1 in
    let fits : nat_lt r.0.0 4294967296 ≡ true = lt-ltb _ _ (let w = e.within in omega arith) in
    numbers_moved text least at (r.0.0 ∷ m.0.0) ns m.0.1 to s.0 s.1 (record {
      spans = joined text at (at + 1) m.0.1 (32 ∷ []) (decimal r.0.0 ++ numbers_text m.0.0) (next_spans 32 text at t.0)
          (joined text (at + 1) r.0.1 m.0.1 (decimal r.0.0) (numbers_text m.0.0) e.spans later.spans);
      ascend = and_from _ _ (and_from _ _ q.0 fits) later.ascend;
    }))
    (λ t. let s = same_numbers _ _ (some_is _ _ t.1) in numbers_moved text least at [] ns at to s.0 s.1 (no_numbers text least at))
    (either _ _ _ _ h)

-- # Lists of values

record ValuesRead (p : Prog) (text : List ℕ) (tys : List Ty) (i at : ℕ) (vs : List Val) (to : ℕ) : Type 0 where
  spans : Spans text at to (values_text p (vals_of vs))
  writable : AllWritable p (vals_of vs)
  nest : all_nest_within 1000 (vals_of vs) ≡ true
  placed : AllPlaced p tys i (vals_of vs)

same_values : (r s : List Val × ℕ) → r ≡ s → (r.0 ≡ s.0) × (r.1 ≡ s.1)
same_values r s e = (ap (λ q. q.0) e, ap (λ q. q.1) e)

module _ (p : Prog) (text : List ℕ) where
  values_moved : (tys : List Ty) (i at : ℕ) (vs ws : List Val) (to end : ℕ) → vs ≡ ws → to ≡ end → ValuesRead p text tys i at vs to → ValuesRead p text tys i at ws end
  values_moved tys i at vs ws to end e h r = subst (λ x. ValuesRead p text tys i at x end) e (subst (λ j. ValuesRead p text tys i at vs j) h r)

  no_values : (tys : List Ty) (i at : ℕ) → ValuesRead p text tys i at [] at
  no_values tys i at = record { spans = record { is = refl }; writable = tt; nest = refl; placed = tt }

  values_found : (k : ℕ) (tys : List Ty) (i at : ℕ) (vs : List Val) (to : ℕ) → values_from p text k tys i at ≡ Some (vs, to) → ValuesRead p text tys i at vs to
  values_found zero tys i at vs to h = let s = same_values _ _ (some_is _ _ h) in values_moved tys i at [] vs at to s.0 s.1 (no_values tys i at)
  values_found (suc k) tys i at vs to h =
      ⊎_elim
      (λ t.
      let r = and_then {X = Val × ℕ} _ _ _ t.1 in
      let e = whole_sound p text (slice_get tys i) (at + 1) r.0.0 r.0.1 r.1 in
      let m = mapped {X = List Val × ℕ} _ _ _ r.2 in
      let s = same_values _ _ m.2 in
      let later = values_found k tys (i + 1) r.0.1 m.0.0 m.0.1 m.1 in
      values_moved tys i at (r.0.0 ∷ m.0.0) vs m.0.1 to s.0 s.1 (record {
        spans = joined text at (at + 1) m.0.1 (32 ∷ []) (value_text p r.0.0 ++ values_text p (vals_of m.0.0)) (next_spans 32 text at t.0)
            (joined text (at + 1) r.0.1 m.0.1 (value_text p r.0.0) (values_text p (vals_of m.0.0)) e.spans later.spans);
        writable = (e.writable, later.writable);
        nest = and_from _ _ e.nests later.nest;
        placed = (e.placed, later.placed);
      }))
      (λ t. let s = same_values _ _ (some_is _ _ t.1) in values_moved tys i at [] vs at to s.0 s.1 (no_values tys i at))
      (either _ _ _ _ h)

-- # Labels

pub record LabelRead (p : Prog) (text : List ℕ) (at : ℕ) (front : List ℕ) (l : Label) (to : ℕ) : Type 0 where
  pub spans : Spans text at to front
  pub has : HasLine p l
  pub placed : LinePlaced p l

same_label : (r s : Label × ℕ) → Some r ≡ Some s → (r.0 ≡ s.0) × (r.1 ≡ s.1)
same_label r s h = let e = some_is _ _ h in (ap (λ q. q.0) e, ap (λ q. q.1) e)

behind_cases : (o : Option ℕ) (f : ℕ → Option (Label × ℕ)) (other : Option (Label × ℕ)) (x : Label × ℕ) → behind o f other ≡ Some x → ((at : ℕ) × (o ≡ Some at) × (f at ≡ Some x)) ⊎ (other ≡ Some x)
behind_cases None f other x h = inr h
behind_cases (Some at) f other x h = inl (at, refl, h)

module _ (p : Prog) (text : List ℕ) where
  plain_found : (f : ℕ → Label) (w : List ℕ) → ((i : ℕ) → label_text p (f i) ≡ w ++ decimal i) → ((i : ℕ) → i < 2 ^ 32 → HasLine p (f i)) → ((i : ℕ) → LinePlaced p (f i))
      → (at : ℕ) (l : Label) (to : ℕ) → word w text 0 ≡ Some at → plain f text at ≡ Some (l, to) → LabelRead p text 0 (label_text p l) l to
  plain_found f w text_is has placed at l to o h =
      let r = and_then {X = ℕ × ℕ} _ _ _ h in
      let e = number_sound 4294967295 text at r.0.0 r.0.1 (omega arith) (omega arith) r.1 in
      let s = same_label _ _ r.2 in
      let small : r.0.0 < 2 ^ 32 = (let k = e.within in omega arith) in
      let whole : Spans text 0 r.0.1 (w ++ decimal r.0.0) = joined text 0 at r.0.1 w (decimal r.0.0) (word_spans w text 0 at o) e.spans in
      let made : LabelRead p text 0 (label_text p (f r.0.0)) (f r.0.0) r.0.1 =
      (record { spans = subst (Spans text 0 r.0.1) (sym (text_is r.0.0)) whole; has = has r.0.0 small; placed = placed r.0.0 }) in
      subst (λ k. LabelRead p text 0 (label_text p k) k to) s.0 (subst (λ j. LabelRead p text 0 (label_text p (f r.0.0)) (f r.0.0) j) s.1 made)

  labelled : (made l : Label) (end to : ℕ) → made ≡ l → end ≡ to → LabelRead p text 0 (label_text p made) made end → LabelRead p text 0 (label_text p l) l to
  labelled made l end to e h r = subst (λ k. LabelRead p text 0 (label_text p k) k to) e (subst (λ j. LabelRead p text 0 (label_text p made) made j) h r)

  op_found : (at : ℕ) (l : Label) (to : ℕ) → word (codes "op ") text 0 ≡ Some at → op text at ≡ Some (l, to) → LabelRead p text 0 (label_text p l) l to
  op_found at l to o h =
      let i = and_then {X = ℕ × ℕ} _ _ _ h in
      let a = and_then {X = ℕ} _ _ _ i.2 in
      let t = and_then {X = ℕ × ℕ} _ _ _ a.2 in
      let s = same_label _ _ t.2 in
      let e = number_sound 4294967295 text at i.0.0 i.0.1 (omega arith) (omega arith) i.1 in
      let f = number_sound 18446744073709551615 text a.0 t.0.0 t.0.1 (omega arith) (omega arith) t.1 in
      let stamp = joined text i.0.1 a.0 t.0.1 (codes " stamp ") (decimal t.0.0) (word_spans (codes " stamp ") text i.0.1 a.0 a.1) f.spans in
      let inv = joined text at i.0.1 t.0.1 (decimal i.0.0) (codes " stamp " ++ decimal t.0.0) e.spans stamp in
      labelled (Op i.0.0 t.0.0) l t.0.1 to s.0 s.1 (record {
        spans = joined text 0 at t.0.1 (codes "op ") (decimal i.0.0 ++ (codes " stamp " ++ decimal t.0.0)) (word_spans (codes "op ") text 0 at o) inv;
        has = ((let k = e.within in omega arith), (let k = f.within in omega arith));
        placed = tt;
      })

  begin_found : (at : ℕ) (l : Label) (to : ℕ) → word (codes "begin ") text 0 ≡ Some at → begin text at ≡ Some (l, to) → LabelRead p text 0 (label_text p l) l to
  begin_found at l to o h =
      let i = and_then {X = ℕ × ℕ} _ _ _ h in
      let a = and_then {X = ℕ} _ _ _ i.2 in
      let t = and_then {X = ℕ × ℕ} _ _ _ a.2 in
      let b = and_then {X = ℕ} _ _ _ t.2 in
      let r = and_then {X = List ℕ × ℕ} _ _ _ b.2 in
      let s = same_label _ _ r.2 in
      let e = number_sound 4294967295 text at i.0.0 i.0.1 (omega arith) (omega arith) i.1 in
      let f = number_sound 18446744073709551615 text a.0 t.0.0 t.0.1 (omega arith) (omega arith) t.1 in
      let g = numbers_found text (length text) 0 b.0 r.0.0 r.0.1 r.1 in
      let seen = joined text t.0.1 b.0 r.0.1 (codes " sees") (numbers_text r.0.0) (word_spans (codes " sees") text t.0.1 b.0 b.1) g.spans in
      let stamped = joined text a.0 t.0.1 r.0.1 (decimal t.0.0) (codes " sees" ++ numbers_text r.0.0) f.spans seen in
      let stamp = joined text i.0.1 a.0 r.0.1 (codes " stamp ") (decimal t.0.0 ++ (codes " sees" ++ numbers_text r.0.0)) (word_spans (codes " stamp ") text i.0.1 a.0 a.1) stamped in
      let inv = joined text at i.0.1 r.0.1 (decimal i.0.0) (codes " stamp " ++ (decimal t.0.0 ++ (codes " sees" ++ numbers_text r.0.0))) e.spans stamp in
      labelled (Begin i.0.0 t.0.0 r.0.0) l r.0.1 to s.0 s.1 (record {
        spans = joined text 0 at r.0.1 (codes "begin ") (decimal i.0.0 ++ (codes " stamp " ++ (decimal t.0.0 ++ (codes " sees" ++ numbers_text r.0.0)))) (word_spans (codes "begin ") text 0 at o) inv;
        has = ((let k = e.within in omega arith), (let k = f.within in omega arith), g.ascend);
        placed = tt;
      })

  new_found : (at : ℕ) (l : Label) (to : ℕ) → word (codes "new ") text 0 ≡ Some at → new p text at ≡ Some (l, to) → LabelRead p text 0 (label_text p l) l to
  new_found at l to o h =
      let i = and_then {X = ℕ × ℕ} _ _ _ h in
      let a = and_then {X = ℕ} _ _ _ i.2 in
      let v = and_then {X = Val × ℕ} _ _ _ a.2 in
      let s = same_label _ _ v.2 in
      let e = number_sound 4294967295 text at i.0.0 i.0.1 (omega arith) (omega arith) i.1 in
      let f = whole_sound p text None a.0 v.0.0 v.0.1 v.1 in
      let id = joined text i.0.1 a.0 v.0.1 (codes " ") (value_text p v.0.0) (word_spans (codes " ") text i.0.1 a.0 a.1) f.spans in
      let inv = joined text at i.0.1 v.0.1 (decimal i.0.0) (32 ∷ value_text p v.0.0) e.spans id in
      labelled (New i.0.0 v.0.0) l v.0.1 to s.0 s.1 (record {
        spans = joined text 0 at v.0.1 (codes "new ") (decimal i.0.0 ++ 32 ∷ value_text p v.0.0) (word_spans (codes "new ") text 0 at o) inv;
        has = ((let k = e.within in omega arith), (f.writable, f.nests));
        placed = f.placed;
      })

  check_found : (at : ℕ) (l : Label) (to : ℕ) → word (codes "check") text 0 ≡ Some at → check text at ≡ Some (l, to) → LabelRead p text 0 (label_text p l) l to
  check_found at l to o h =
      let r = and_then {X = List ℕ × ℕ} _ _ _ h in
      let s = same_label _ _ r.2 in
      let g = numbers_found text (length text) 0 at r.0.0 r.0.1 r.1 in
      labelled (Check r.0.0) l r.0.1 to s.0 s.1 (record {
        spans = joined text 0 at r.0.1 (codes "check") (numbers_text r.0.0) (word_spans (codes "check") text 0 at o) g.spans;
        has = g.ascend;
        placed = tt;
      })

  invoke_found : (at : ℕ) (l : Label) (to : ℕ) → word (codes "invoke ") text 0 ≡ Some at → invoke p text at ≡ Some (l, to) → LabelRead p text 0 (label_text p l) l to
  invoke_found at l to o h =
      let m = and_then {X = ℕ} _ _ _ h in
      let q = and_then {X = ℕ} _ _ _ m.2 in
      let r = and_then {X = List Val × ℕ} _ _ _ q.2 in
      let s = same_label _ _ r.2 in
      let name = name_sound text at m.0 m.1 in
      let is : proc_name p q.0 ≡ slice text at m.0 = proc_named p (slice text at m.0) q.0 q.1 in
      let g = values_found p text (length text) (proc_params (slice_get p.procs q.0)) 0 m.0 r.0.0 r.0.1 r.1 in
      let args = joined text at m.0 r.0.1 (slice text at m.0) (values_text p (vals_of r.0.0)) name.spans g.spans in
      let whole = joined text 0 at r.0.1 (codes "invoke ") (slice text at m.0 ++ values_text p (vals_of r.0.0)) (word_spans (codes "invoke ") text 0 at o) args in
      labelled (Invoke q.0 r.0.0) l r.0.1 to s.0 s.1 (record {
        spans = subst (λ x. Spans text 0 r.0.1 (codes "invoke " ++ (x ++ values_text p (vals_of r.0.0)))) (sym is) whole;
        has = ((record { name = subst (λ x. is_name x ≡ true) (sym is) name.name; meant = ap (proc_called p) is ∙ q.1 }), (g.writable, g.nest));
        placed = g.placed;
      })

  short_found : (l : Label) (to : ℕ) → short_label text ≡ Some (l, to) → LabelRead p text 0 (label_text p l) l to
  short_found l to h =
      ⊎_elim (λ t. plain_found Local (codes "local ") (λ i. refl) (λ i k. k) (λ i. tt) t.0 l to t.1 t.2)
      (λ h2. ⊎_elim (λ t. plain_found Commit (codes "commit ") (λ i. refl) (λ i k. k) (λ i. tt) t.0 l to t.1 t.2)
      (λ h3. ⊎_elim (λ t. plain_found Return (codes "return ") (λ i. refl) (λ i k. k) (λ i. tt) t.0 l to t.1 t.2)
      (λ h4. ⊎_elim (λ t. plain_found Fail (codes "fail ") (λ i. refl) (λ i k. k) (λ i. tt) t.0 l to t.1 t.2)
      (λ h5. absurd (none_some _ h5))
      (behind_cases (word (codes "fail ") text 0) (plain Fail text) _ _ h4))
      (behind_cases (word (codes "return ") text 0) (plain Return text) _ _ h3))
      (behind_cases (word (codes "commit ") text 0) (plain Commit text) _ _ h2))
      (behind_cases (word (codes "local ") text 0) (plain Local text) _ _ h)

  front_found : (l : Label) (to : ℕ) → front_label p text ≡ Some (l, to) → LabelRead p text 0 (label_text p l) l to
  front_found l to h =
      ⊎_elim (λ t. invoke_found t.0 l to t.1 t.2)
      (λ h2. ⊎_elim (λ t. begin_found t.0 l to t.1 t.2)
      (λ h3. ⊎_elim (λ t. op_found t.0 l to t.1 t.2)
      (λ h4. ⊎_elim (λ t. new_found t.0 l to t.1 t.2)
      (λ h5. ⊎_elim (λ t. check_found t.0 l to t.1 t.2)
      (λ h6. short_found l to h6)
      (behind_cases (word (codes "check") text 0) (check text) _ _ h5))
      (behind_cases (word (codes "new ") text 0) (new p text) _ _ h4))
      (behind_cases (word (codes "op ") text 0) (op text) _ _ h3))
      (behind_cases (word (codes "begin ") text 0) (begin text) _ _ h2))
      (behind_cases (word (codes "invoke ") text 0) (invoke p text) _ _ h)

-- the line is that of the label
pub record IsLine (p : Prog) (text : List ℕ) (l : Label) : Type 0 where
  pub is : text ≡ label_text p l
  pub has : HasLine p l
  pub placed : LinePlaced p l

pub ended : (text front : List ℕ) (to : ℕ) → Spans text 0 to front → ends text to ≡ true → text ≡ front
ended text front to s h = s.is ∙ ap (λ x. front ++ x) (nil_from_length (drop to text) (eqb-true _ _ h)) ∙ append-nil front

pub label_sound : (p : Prog) (text : List ℕ) (l : Label) → label p text ≡ Some l → IsLine p text l
unfolding label
label_sound p text l h =
    let r = and_then {X = Label × ℕ} _ _ _ h in
    let t = tested _ _ _ r.2 in
    let e : r.0.0 ≡ l = some_is _ _ t.1 in
    let f = front_found p text r.0.0 r.0.1 r.1 in
    subst (IsLine p text) e (record { is = ended text (label_text p r.0.0) r.0.1 f.spans t.0; has = f.has; placed = f.placed })
