-- The value that definitions speak of, of a value of the program.
use Rattle.std.specs.Prelude.{List, [], ◌∷◌, map}
use Rattle.rp_value.specs.declared.value.Value.{Value}
use Rattle.rp_value.specs.declared.value.Value.TheOpen.{Value-F, Int, Str, Atom, Con, Call, Inv}
use Rattle.rp_value.specs.declared.value.Value.TheFolds.{fold-Value}
use Rattle.rp_value.specs.Values as seen
use Rattle.rp_value.specs.Values.{Val, Vals, no_val, also_val}

abbrev pub vals_of : List Val → Vals
vals_of [] = no_val
vals_of (v ∷ vs) = also_val v (vals_of vs)

abbrev pub view_step : Value-F Val → Val
view_step (Int n) = seen.Int n
view_step (Str bytes) = seen.Str bytes
view_step (Atom ty num) = seen.Atom ty num
view_step (Con con args) = seen.Con con (vals_of args)
view_step (Call c) = seen.Call c
view_step (Inv i) = seen.Inv i

abbrev pub value_view : Value → Val
value_view = fold-Value Val view_step

abbrev pub values_view : List Value → Vals
values_view values = vals_of (map value_view values)
