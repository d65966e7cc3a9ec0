-- Lines that are written are read.
use Rattle.std.proofs.Common.{◌≡◌, ℕ, zero, suc, ◌+◌, ◌<◌, ◌≤◌, Bool, true, List, [], ◌∷◌, ◌++◌, length, drop, slice_get, Option, Some, None, refl, sym, ap, ◌∙◌, arith, append-nil}
use Rattle.std.specs.Prelude.{◌^◌, ◌==◌, ◌&&◌, codes, nat_le, nat_lt, if◌then◌else◌}
use Rattle.std.specs.Fmt.{decimal}
use Rattle.std.specs.Option.{option_map}
use Rattle.std.proofs.lemmas.Bool.{and_parts, ltb-true}
use Rattle.std.proofs.lemmas.List.{length-append, length-drop}
use Rattle.rp_value.specs.declared.tables.Ty.{Ty}
use Rattle.rp_value.specs.Values.{Val, Vals, no_val, also_val}
use Rattle.rp_value.specs.ValueView.{vals_of}
use Rattle.rp_lang.specs.Programs.{Prog}
use Rattle.rp_lang.specs.Typing.{proc_params}
use Rattle.event_machine.specs.States.{Label, Invoke, Begin, Op, Local, New, Commit, Return, Fail, Check}
use Rattle.schedule_fmt.specs.Texts.{value_text, numbers_text, values_text, proc_name, label_text}
use Rattle.schedule_fmt.specs.Schedules.{proc_called, Writable, AllWritable, nests_within, all_nest_within, Placed, AllPlaced, are_ascending, HasLine, LinePlaced}
use Rattle.schedule_fmt.specs.means.Reading.{◌>>=◌, word, begins_with, number, slice, whole_value, also, numbers_from, numbers, numbers_behind, values_from, values, values_behind, invoke, begin, op, new, check, plain, front_label, whole_label, label}
use Rattle.schedule_fmt.proofs.Inversions.{Reads, drop_front, drop_next}
use Rattle.schedule_fmt.proofs.Numerals.{number_reads, next_reads}
use Rattle.schedule_fmt.proofs.NameText.{name_reads, word_reads}
use Rattle.schedule_fmt.proofs.ValueBack.{Ends, space, ends_name, ends_digits, value_back}

whole_back : (p : Prog) (text : List ℕ) (v : Val) (asked : Option Ty) (at : ℕ) (rest : List ℕ) → Writable p v → nests_within 1000 v ≡ true → Placed p asked v → drop at text ≡ value_text p v ++ rest → Ends rest → Reads text (whole_value p text asked at) v rest
unfolding whole_value
whole_back p text v asked at rest w n q e s = value_back p text v 1000 asked at rest w n q e s

numbers_ends : (ns : List ℕ) → Ends (numbers_text ns)
numbers_ends [] = tt
numbers_ends (n ∷ ns) = space

values_ends : (p : Prog) (vs : Vals) → Ends (values_text p vs)
values_ends p no_val = tt
values_ends p (also_val v vs) = space

numbers_end : (text : List ℕ) (k least at : ℕ) → drop at text ≡ [] → Reads text (numbers_from text k least at) [] []
numbers_end text zero least at e = record { to = at; found = refl; left = e }
numbers_end text (suc k) least at e = record {
  to = at;
  found = ap (λ (t : Bool). if t then (number 4294967295 text (at + 1) >>= numbers_behind (numbers_from text k) least) else Some ([], at)) (ap (begins_with 32) e);
  left = e;
}

numbers_read : (text : List ℕ) (ns : List ℕ) (k least at : ℕ) → length ns ≤ k → are_ascending least ns ≡ true → drop at text ≡ numbers_text ns → Reads text (numbers_from text k least at) ns []
numbers_read text [] k least at h a e = numbers_end text k least at e
numbers_read text (n ∷ ns) zero least at h a e = absurd (omega arith)
numbers_read text (n ∷ ns) (suc k) least at h a e =
    let parts = and_parts (nat_le least n && nat_lt n 4294967296) (are_ascending (n + 1) ns) a in
    let low = and_parts (nat_le least n) (nat_lt n 4294967296) parts.0 in
    let small : n ≤ 4294967295 = (let w = ltb-true n 4294967296 low.1 in omega arith) in
    let r = number_reads 4294967295 n text (numbers_text ns) (at + 1) small (omega arith) (drop_next text 32 (decimal n ++ numbers_text ns) at e) (ends_digits (numbers_text ns) (numbers_ends ns)) in
    let s = numbers_read text ns k (n + 1) r.to (omega arith) parts.1 r.left in record {
      to = s.to;
      found =
          ap (λ (t : Bool). if t then (number 4294967295 text (at + 1) >>= numbers_behind (numbers_from text k) least) else Some ([], at)) (next_reads 32 text (decimal n ++ numbers_text ns) at e)
          ∙ ap (λ (o : Option (ℕ × ℕ)). o >>= numbers_behind (numbers_from text k) least) r.found
          ∙ ap (λ (t : Bool). if t then option_map (also n) (numbers_from text k (n + 1) r.to) else None) low.0
          ∙ ap (option_map (also n)) s.found;
      left = s.left;
    }

numbers_short : (ns : List ℕ) → length ns ≤ length (numbers_text ns)
numbers_short [] = omega arith
numbers_short (n ∷ ns) = let h = numbers_short ns in omega (arith, length-append (decimal n) (numbers_text ns))

pub numbers_back : (text ns : List ℕ) (at : ℕ) → are_ascending 0 ns ≡ true → drop at text ≡ numbers_text ns → Reads text (numbers text at) ns []
numbers_back text ns at a e =
    let room : length ns ≤ length text = (let h = numbers_short ns in omega (arith, sym (length-drop at text) ∙ ap length e)) in
    numbers_read text ns (length text) 0 at room a e

module _ (p : Prog) (text : List ℕ) where
  values_end : (k : ℕ) (tys : List Ty) (i at : ℕ) → drop at text ≡ [] → Reads text (values_from p text k tys i at) [] []
  values_end zero tys i at e = record { to = at; found = refl; left = e }
  values_end (suc k) tys i at e = record {
    to = at;
    found = ap (λ (t : Bool). if t then (whole_value p text (slice_get tys i) (at + 1) >>= values_behind (values_from p text k tys (i + 1))) else Some ([], at)) (ap (begins_with 32) e);
    left = e;
  }

  values_read : (vs : List Val) (k : ℕ) (tys : List Ty) (i at : ℕ) → length vs ≤ k → AllWritable p (vals_of vs) → all_nest_within 1000 (vals_of vs) ≡ true → AllPlaced p tys i (vals_of vs)
      → drop at text ≡ values_text p (vals_of vs) → Reads text (values_from p text k tys i at) vs []
  values_read [] k tys i at h w n q e = values_end k tys i at e
  values_read (v ∷ vs) zero tys i at h w n q e = absurd (omega arith)
  values_read (v ∷ vs) (suc k) tys i at h w n q e =
      let ns = and_parts (nests_within 1000 v) (all_nest_within 1000 (vals_of vs)) n in
      let more : List ℕ = values_text p (vals_of vs) in
      let r = whole_back p text v (slice_get tys i) (at + 1) (values_text p (vals_of vs)) w.0 ns.0 q.0 (drop_next text 32 (value_text p v ++ values_text p (vals_of vs)) at e) (values_ends p (vals_of vs)) in
      let s = values_read vs k tys (i + 1) r.to (omega arith) w.1 ns.1 q.1 r.left in record {
        to = s.to;
        found =
            ap (λ (t : Bool). if t then (whole_value p text (slice_get tys i) (at + 1) >>= values_behind (values_from p text k tys (i + 1))) else Some ([], at)) (next_reads 32 text (value_text p v ++ values_text p (vals_of vs)) at e)
            ∙ ap (λ o. o >>= values_behind (values_from p text k tys (i + 1))) r.found
            ∙ ap (option_map (also v)) s.found;
        left = s.left;
      }

  values_short : (vs : List Val) → length vs ≤ length (values_text p (vals_of vs))
  values_short [] = omega arith
  values_short (v ∷ vs) = let h = values_short vs in omega (arith, length-append (value_text p v) (values_text p (vals_of vs)))

  values_back : (vs : List Val) (tys : List Ty) (at : ℕ) → AllWritable p (vals_of vs) → all_nest_within 1000 (vals_of vs) ≡ true → AllPlaced p tys 0 (vals_of vs)
      → drop at text ≡ values_text p (vals_of vs) → Reads text (values p text tys at) vs []
  values_back vs tys at w n q e =
      let room : length vs ≤ length text = (let h = values_short vs in omega (arith, sym (length-drop at text) ∙ ap length e)) in
      values_read vs (length text) tys 0 at room w n q e

  -- the front of the line is the label, and nothing is left
  abbrev LabelBack : Label → Type 0
  LabelBack l = Reads text (front_label p text) l []

  inv_reads : (i : ℕ) (rest : List ℕ) (at : ℕ) → i < 2 ^ 32 → drop at text ≡ decimal i ++ rest → Ends rest → Reads text (number 4294967295 text at) i rest
  inv_reads i rest at h e s = number_reads 4294967295 i text rest at (omega arith) (omega arith) e (ends_digits rest s)

  stamp_reads : (n : ℕ) (rest : List ℕ) (at : ℕ) → n < 2 ^ 64 → drop at text ≡ decimal n ++ rest → Ends rest → Reads text (number 18446744073709551615 text at) n rest
  stamp_reads n rest at h e s = number_reads 18446744073709551615 n text rest at (omega arith) (omega arith) e (ends_digits rest s)

  nothing_more : (n : ℕ) (at : ℕ) → drop at text ≡ decimal n → drop at text ≡ decimal n ++ []
  nothing_more n at e = e ∙ sym (append-nil (decimal n))

  plain_back : (f : ℕ → Label) (i at : ℕ) → i < 2 ^ 32 → drop at text ≡ decimal i → Reads text (plain f text at) (f i) []
  plain_back f i at h e =
      let r = inv_reads i [] at h (nothing_more i at e) tt in
      record { to = r.to; found = ap (λ (o : Option (ℕ × ℕ)). o >>= λ q. Some (f q.0, q.1)) r.found; left = r.left }

  op_back : (i n at : ℕ) → HasLine p (Op i n) → drop at text ≡ decimal i ++ (codes " stamp " ++ decimal n) → Reads text (op text at) (Op i n) []
  op_back i n at h e =
      let r = inv_reads i (codes " stamp " ++ decimal n) at h.0 e space in
      let w = word_reads (codes " stamp ") text (decimal n) r.to r.left in
      let s = stamp_reads n [] (r.to + 7) h.1 (nothing_more n (r.to + 7) (drop_front text (codes " stamp ") (decimal n) r.to r.left)) tt in record {
        to = s.to;
        found =
            ap (λ (o : Option (ℕ × ℕ)). o >>= λ j. word (codes " stamp ") text j.1 >>= λ a. number 18446744073709551615 text a >>= λ t. Some (Op j.0 t.0, t.1)) r.found
            ∙ ap (λ (o : Option ℕ). o >>= λ a. number 18446744073709551615 text a >>= λ t. Some (Op i t.0, t.1)) w
            ∙ ap (λ (o : Option (ℕ × ℕ)). o >>= λ t. Some (Op i t.0, t.1)) s.found;
        left = s.left;
      }

  begin_back : (i n : ℕ) (ns : List ℕ) (at : ℕ) → HasLine p (Begin i n ns) → drop at text ≡ decimal i ++ (codes " stamp " ++ (decimal n ++ (codes " sees" ++ numbers_text ns))) → Reads text (begin text at) (Begin i n ns) []
  begin_back i n ns at h e =
      let r = inv_reads i (codes " stamp " ++ (decimal n ++ (codes " sees" ++ numbers_text ns))) at h.0 e space in
      let w = word_reads (codes " stamp ") text (decimal n ++ (codes " sees" ++ numbers_text ns)) r.to r.left in
      let s = stamp_reads n (codes " sees" ++ numbers_text ns) (r.to + 7) h.1 (drop_front text (codes " stamp ") (decimal n ++ (codes " sees" ++ numbers_text ns)) r.to r.left) space in
      let v = word_reads (codes " sees") text (numbers_text ns) s.to s.left in
      let u = numbers_back text ns (s.to + 5) h.2 (drop_front text (codes " sees") (numbers_text ns) s.to s.left) in record {
        to = u.to;
        found =
            ap (λ (o : Option (ℕ × ℕ)). o >>= λ j. word (codes " stamp ") text j.1 >>= λ a. number 18446744073709551615 text a >>= λ t. word (codes " sees") text t.1 >>= λ b. numbers text b >>= λ q. Some (Begin j.0 t.0 q.0, q.1)) r.found
            ∙ ap (λ (o : Option ℕ). o >>= λ a. number 18446744073709551615 text a >>= λ t. word (codes " sees") text t.1 >>= λ b. numbers text b >>= λ q. Some (Begin i t.0 q.0, q.1)) w
            ∙ ap (λ (o : Option (ℕ × ℕ)). o >>= λ t. word (codes " sees") text t.1 >>= λ b. numbers text b >>= λ q. Some (Begin i t.0 q.0, q.1)) s.found
            ∙ ap (λ (o : Option ℕ). o >>= λ b. numbers text b >>= λ q. Some (Begin i n q.0, q.1)) v
            ∙ ap (λ (o : Option (List ℕ × ℕ)). o >>= λ q. Some (Begin i n q.0, q.1)) u.found;
        left = u.left;
      }

  new_back : (i : ℕ) (v : Val) (at : ℕ) → HasLine p (New i v) → Placed p None v → drop at text ≡ decimal i ++ 32 ∷ value_text p v → Reads text (new p text at) (New i v) []
  new_back i v at h q e =
      let r = inv_reads i (32 ∷ value_text p v) at h.0 e space in
      let w = word_reads (codes " ") text (value_text p v) r.to r.left in
      let s = whole_back p text v None (r.to + 1) [] h.1.0 h.1.1 q (drop_next text 32 (value_text p v) r.to r.left ∙ sym (append-nil (value_text p v))) tt in record {
        to = s.to;
        found =
            ap (λ (o : Option (ℕ × ℕ)). o >>= λ j. word (codes " ") text j.1 >>= λ a. whole_value p text None a >>= λ u. Some (New j.0 u.0, u.1)) r.found
            ∙ ap (λ (o : Option ℕ). o >>= λ a. whole_value p text None a >>= λ u. Some (New i u.0, u.1)) w
            ∙ ap (λ (o : Option (Val × ℕ)). o >>= λ u. Some (New i u.0, u.1)) s.found;
        left = s.left;
      }

  check_back : (ns : List ℕ) (at : ℕ) → are_ascending 0 ns ≡ true → drop at text ≡ numbers_text ns → Reads text (check text at) (Check ns) []
  check_back ns at h e =
      let r = numbers_back text ns at h e in
      record { to = r.to; found = ap (λ (o : Option (List ℕ × ℕ)). o >>= λ q. Some (Check q.0, q.1)) r.found; left = r.left }

  invoke_back : (proc : ℕ) (vs : List Val) (at : ℕ) → HasLine p (Invoke proc vs) → LinePlaced p (Invoke proc vs) → drop at text ≡ proc_name p proc ++ values_text p (vals_of vs) → Reads text (invoke p text at) (Invoke proc vs) []
  invoke_back proc vs at h q e =
      let name = name_reads text (proc_name p proc) (values_text p (vals_of vs)) at h.0.name e (ends_name (values_text p (vals_of vs)) (values_ends p (vals_of vs))) in
      let r = values_back vs (proc_params (slice_get p.procs proc)) name.to h.1.0 h.1.1 q name.left in record {
        to = r.to;
        found =
            ap (λ (o : Option ℕ). o >>= λ m. proc_called p (slice text at m) >>= λ c. values p text (proc_params (slice_get p.procs c)) m >>= λ s. Some (Invoke c s.0, s.1)) name.found
            ∙ ap (λ (o : Option ℕ). o >>= λ c. values p text (proc_params (slice_get p.procs c)) name.to >>= λ s. Some (Invoke c s.0, s.1)) (ap (proc_called p) name.cut ∙ h.0.meant)
            ∙ ap (λ (o : Option (List Val × ℕ)). o >>= λ s. Some (Invoke proc s.0, s.1)) r.found;
        left = r.left;
      }

front_back : (p : Prog) (l : Label) → HasLine p l → LinePlaced p l → LabelBack p (label_text p l) l
front_back p (Invoke proc vs) h q = invoke_back p (label_text p (Invoke proc vs)) proc vs 7 h q refl
front_back p (Begin i n ns) h q = begin_back p (label_text p (Begin i n ns)) i n ns 6 h refl
front_back p (Op i n) h q = op_back p (label_text p (Op i n)) i n 3 h refl
front_back p (Local i) h q = plain_back p (label_text p (Local i)) Local i 6 h refl
front_back p (New i v) h q = new_back p (label_text p (New i v)) i v 4 h q refl
front_back p (Commit i) h q = plain_back p (label_text p (Commit i)) Commit i 7 h refl
front_back p (Return i) h q = plain_back p (label_text p (Return i)) Return i 7 h refl
front_back p (Fail i) h q = plain_back p (label_text p (Fail i)) Fail i 5 h refl
front_back p (Check ns) h q = check_back p (label_text p (Check ns)) ns 5 h refl

pub label_back : (p : Prog) (l : Label) → HasLine p l → LinePlaced p l → label p (label_text p l) ≡ Some l
unfolding label
label_back p l h q =
    let r = front_back p l h q in
    ap (λ o. o >>= whole_label (label_text p l)) r.found
    ∙ ap (λ (bs : List ℕ). if length bs == 0 then Some l else None) r.left
