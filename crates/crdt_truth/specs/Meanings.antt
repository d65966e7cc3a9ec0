-- What expressions stand for, of what the code makes.
use Rattle.std.specs.Prelude.{Bool, true, false}
use Rattle.rp_value.specs.Values.{Vals, no_val, also_val}
use Rattle.rp_value.specs.ValueView.{value_view, values_view}
use Rattle.crdt_defs.specs.Truths as truths
use Rattle.crdt_truth.specs.declared.meaning.Meant.{Meant}
use Rattle.crdt_truth.specs.declared.meaning.Meant.TheVariants.{Plain, Operation, Invoked, Running, Ended, EndedWith}

abbrev pub meant_view : Meant → truths.Meant
meant_view (Plain v) = truths.Plain (value_view v)
meant_view (Operation op args) = truths.Operation op (values_view args)
meant_view (Invoked proc args) = truths.Invoked proc (values_view args)
meant_view Running = truths.Running
meant_view (Ended proc) = truths.Ended proc
meant_view (EndedWith proc v) = truths.EndedWith proc (value_view v)

-- there is no value
abbrev pub no_vals : Vals → Bool
no_vals no_val = true
no_vals (also_val v vs) = false
