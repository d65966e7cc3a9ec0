-- Sinks over memory.
use Rattle.std.specs.Prelude.{ℕ, ◌-◌, ◌<◌, List, ◌++◌, length, Contains, Result, ◌⊎◌}
use Rattle.std.specs.declared.result.Result.TheVariants.{Ok, Err}
use Rattle.rp_io.specs.Counts.{raised}

-- bytes, and the room for more
pub record BufferState : Type 0 where
  pub bytes : List ℕ
  pub left : ℕ

-- a sink of which some calls fail
pub record MemSinkState : Type 0 where
  pub bytes : List ℕ
  pub left : ℕ
  -- the numbers of the calls that fail, from 0
  pub failing : List ℕ
  -- how many calls were made, and how many of them failed
  pub calls : ℕ
  pub faults : ℕ

-- the next call is to fail, or there is no room for n bytes
abbrev pub PutFails : MemSinkState → ℕ → Type 0
PutFails sink n = Contains sink.failing sink.calls ⊎ (sink.left < n)

-- the sink after a call
abbrev pub after_put : {A E : Type 0} → MemSinkState → List ℕ → Result A E → MemSinkState
after_put sink piece (Ok done) = record sink { bytes = sink.bytes ++ piece; left = sink.left - length piece; calls = raised sink.calls 1 }
after_put sink piece (Err e) = record sink { calls = raised sink.calls 1; faults = raised sink.faults 1 }

-- a sink that fails only where there is no room
pub record SureSinkState : Type 0 where
  pub bytes : List ℕ
  pub left : ℕ
  pub faults : ℕ

-- that sink after a call
abbrev pub after_sure_put : {A E : Type 0} → SureSinkState → List ℕ → Result A E → SureSinkState
after_sure_put sink piece (Ok done) = record sink { bytes = sink.bytes ++ piece; left = sink.left - length piece }
after_sure_put sink piece (Err e) = record sink { faults = raised sink.faults 1 }
