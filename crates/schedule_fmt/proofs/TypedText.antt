-- A typed schedule that has a text means what is written.
use Rattle.std.proofs.Common.{ℕ, ◌+◌, List, [], ◌∷◌, Some, slice_get, refl, sym, ap, subst, ◌∙◌}
use Rattle.rp_value.specs.declared.tables.Ty.{Ty}
use Rattle.rp_value.specs.Values.{Val, Int, Str, Atom, Con, Call, Inv, Vals, no_val, also_val}
use Rattle.rp_value.specs.ValueView.{vals_of}
use Rattle.rp_lang.specs.Programs.{Prog}
use Rattle.rp_lang.specs.Types.{fields_of}
use Rattle.rp_lang.specs.Typing.{proc_params}
use Rattle.event_machine.specs.States.{Label, Invoke, Begin, Op, Local, New, Commit, Return, Fail, Check}
use Rattle.schedule_fmt.specs.Texts.{Sched, con_name, schedule_text}
use Rattle.schedule_fmt.specs.Schedules.{con_meant, Writable, AllWritable, Placed, AllPlaced, Typed, AllTyped, HasLine, LinePlaced, LineTyped, Each, HasScheduleText, IsText}

mutual
  value_placed : (p : Prog) (v : Val) (ty : Ty) → Writable p v → Typed p ty v → Placed p (Some ty) v
  value_placed p (Con c args) ty w t = (ap (λ o. con_meant p o (con_name p c)) (sym t.0) ∙ w.0.meant, args_placed p args (fields_of p.cons c) 0 w.1 t.1)
  value_placed p (Int n) ty w t = tt
  value_placed p (Str bytes) ty w t = tt
  value_placed p (Atom of n) ty w t = tt
  value_placed p (Call c) ty w t = tt
  value_placed p (Inv i) ty w t = tt

  args_placed : (p : Prog) (vs : Vals) (tys : List Ty) (i : ℕ) → AllWritable p vs → AllTyped p tys i vs → AllPlaced p tys i vs
  args_placed p no_val tys i w t = tt
  args_placed p (also_val v vs) tys i w t =
      (subst (λ o. Placed p o v) (sym t.0.1) (value_placed p v t.0.0 w.0 t.0.2), args_placed p vs tys (i + 1) w.1 t.1)

new_placed : (p : Prog) (inv : ℕ) (v : Val) → LineTyped p (New inv v) → LinePlaced p (New inv v)
new_placed p inv (Atom ty n) t = tt
new_placed p inv (Int n) t = tt
new_placed p inv (Str bytes) t = tt
new_placed p inv (Con c args) t = absurd t
new_placed p inv (Call c) t = tt
new_placed p inv (Inv i) t = tt

line_placed : (p : Prog) (l : Label) → HasLine p l → LineTyped p l → LinePlaced p l
line_placed p (Invoke proc args) h t = args_placed p (vals_of args) (proc_params (slice_get p.procs proc)) 0 h.1.0 t
line_placed p (Begin i n ns) h t = tt
line_placed p (Op i n) h t = tt
line_placed p (Local i) h t = tt
line_placed p (New i v) h t = new_placed p i v t
line_placed p (Commit i) h t = tt
line_placed p (Return i) h t = tt
line_placed p (Fail i) h t = tt
line_placed p (Check ns) h t = tt

lines_placed : (p : Prog) (ls : List Label) → Each (HasLine p) ls → Each (LineTyped p) ls → Each (LinePlaced p) ls
lines_placed p [] h t = tt
lines_placed p (l ∷ ls) h t = (line_placed p l h.0 t.0, lines_placed p ls h.1 t.1)

pub written_is_read : (p : Prog) (s : Sched) → HasScheduleText p s → Each (LineTyped p) s.labels → IsText p s (schedule_text p s)
written_is_read p s h t = record { has_text = h; placed = lines_placed p s.labels h.labels t; written = refl }
