-- What stands at a place, by what stands there first.
use Rattle.std.proofs.Common.{◌≡◌, ℕ, zero, suc, ◌+◌, ◌-◌, ◌<◌, true, false, List, Option, Some, None, refl, ap, ◌∙◌, arith}
use Rattle.std.specs.Prelude.{Bool, if◌then◌else◌}
use Rattle.rp_value.specs.declared.tables.Ty.{Ty}
use Rattle.rp_value.specs.Values.{Vals, Con, no_val}
use Rattle.rp_lang.specs.Programs.{Prog}
use Rattle.rp_lang.specs.Types.{fields_of}
use Rattle.schedule_fmt.specs.Schedules.{con_meant}
use Rattle.schedule_fmt.specs.means.Reading.{◌>>=◌, next_is, name_end, slice, string_value, int_value, atom, con, con_with, con_within, args_by, named, value_by, value}

module _ (p : Prog) (text : List ℕ) where
  value_is : (d : ℕ) (asked : Option Ty) (at : ℕ) → value p text d asked at ≡ value_by p text (con_within p text d asked) at
  value_is zero asked at = refl
  value_is (suc d) asked at = refl

  pub value_quoted : (d : ℕ) (asked : Option Ty) (at : ℕ) → next_is 34 text at ≡ true → value p text d asked at ≡ string_value text (at + 1)
  value_quoted d asked at q =
      value_is d asked at ∙ ap (λ (t : Bool). if t then string_value text (at + 1) else named p text (con_within p text d asked) at (name_end text at)) q

  value_named : (d : ℕ) (asked : Option Ty) (at : ℕ) (o : Option ℕ) → next_is 34 text at ≡ false → name_end text at ≡ o → value p text d asked at ≡ named p text (con_within p text d asked) at o
  value_named d asked at o q e =
      value_is d asked at
      ∙ ap (λ (t : Bool). if t then string_value text (at + 1) else named p text (con_within p text d asked) at (name_end text at)) q
      ∙ ap (named p text (con_within p text d asked) at) e

  pub value_int : (d : ℕ) (asked : Option Ty) (at : ℕ) → next_is 34 text at ≡ false → name_end text at ≡ None → value p text d asked at ≡ int_value text at
  value_int d asked at q e = value_named d asked at None q e

  pub value_atom : (d : ℕ) (asked : Option Ty) (at to : ℕ) → next_is 34 text at ≡ false → name_end text at ≡ Some to → next_is 35 text to ≡ true → value p text d asked at ≡ atom p text at to
  value_atom d asked at to q e h =
      value_named d asked at (Some to) q e ∙ ap (λ (t : Bool). if t then atom p text at to else con_within p text d asked at to) h

  pub value_con : (d : ℕ) (asked : Option Ty) (at to : ℕ) → next_is 34 text at ≡ false → name_end text at ≡ Some to → next_is 35 text to ≡ false → value p text d asked at ≡ con_within p text d asked at to
  value_con d asked at to q e h =
      value_named d asked at (Some to) q e ∙ ap (λ (t : Bool). if t then atom p text at to else con_within p text d asked at to) h

  con_deep : (d : ℕ) (asked : Option Ty) (at to : ℕ) → 0 < d → con_within p text d asked at to ≡ con p text (args_by (value p text (d - 1)) text) asked at to
  con_deep d asked at to h =
      let e : d ≡ suc (d - 1) = omega arith in
      ap (λ k. con_within p text k asked at to) e

  con_found : (d : ℕ) (asked : Option Ty) (at to c : ℕ) → 0 < d → con_meant p asked (slice text at to) ≡ Some c
      → con_within p text d asked at to ≡ (if next_is 40 text to then (args_by (value p text (d - 1)) text (fields_of p.cons c) (to + 1) >>= con_with c) else Some (Con c no_val, to))
  con_found d asked at to c h m =
      con_deep d asked at to h
      ∙ ap (λ o. o >>= λ n. if next_is 40 text to then (args_by (value p text (d - 1)) text (fields_of p.cons n) (to + 1) >>= con_with n) else Some (Con n no_val, to)) m

  pub con_args : (d : ℕ) (asked : Option Ty) (at to c : ℕ) (o : Option (Vals × ℕ)) → 0 < d → con_meant p asked (slice text at to) ≡ Some c → next_is 40 text to ≡ true
      → args_by (value p text (d - 1)) text (fields_of p.cons c) (to + 1) ≡ o → con_within p text d asked at to ≡ (o >>= con_with c)
  con_args d asked at to c o h m n e =
      con_found d asked at to c h m
      ∙ ap (λ (t : Bool). if t then (args_by (value p text (d - 1)) text (fields_of p.cons c) (to + 1) >>= con_with c) else Some (Con c no_val, to)) n
      ∙ ap (λ a. a >>= con_with c) e

  pub con_bare : (d : ℕ) (asked : Option Ty) (at to c : ℕ) → 0 < d → con_meant p asked (slice text at to) ≡ Some c → next_is 40 text to ≡ false → con_within p text d asked at to ≡ Some (Con c no_val, to)
  con_bare d asked at to c h m n =
      con_found d asked at to c h m
      ∙ ap (λ (t : Bool). if t then (args_by (value p text (d - 1)) text (fields_of p.cons c) (to + 1) >>= con_with c) else Some (Con c no_val, to)) n
