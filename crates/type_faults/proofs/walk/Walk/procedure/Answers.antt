use Rattle.std.proofs.Common.{refl}
use Rattle.type_tables.specs.Flags.{flag_at}
use Rattle.text_names.proofs.Entries.{if_ok}
use Rattle.type_faults.proofs.Named.{proc_marked}
use Rattle.type_faults.proofs.Walked.{same_names}
use Rattle.type_faults.proofs.walk.Walk.procedure.Goals as goal

pub returns : goal.returns
returns c = λ behind marked counted empty.
    let a = c.args.self.now in
    if_ok c.parts.result
    (λ f w. record {
      fault_is = w.fault_is;
      marked = proc_marked (flag_at a.used) (flag_at c.parts.new.self.used) _ behind marked w.marks;
      names = same_names w;
      counted = w.counted;
    })
    (c.parts.ensures counted empty refl refl)
