-- What an invariant reads where the history has further calls.
use Rattle.std.specs.Prelude.{ℕ, Bool, List}
use Rattle.rp_lang.specs.Programs.{Prog}
use Rattle.crdt_defs.specs.Calls.{Call}
use Rattle.crdt_defs.specs.Truths.{Reading}
use Rattle.event_machine.specs.Machine.{State, at_snapshot, plain}

-- at these visible calls of a state, in this history and with these transactions committed
abbrev pub beside : Prog → State → (ℕ → Bool) → List Call → List Bool → Reading
beside p s visible calls committed =
    record (at_snapshot p s visible) { parts = record (plain s) { calls = calls; committed = committed } }
