-- What a sink tells of the bytes that are put.
use Rattle.std.specs.Prelude.{◌≡◌, ℕ, ◌-◌, ◌≤◌, List, ◌++◌, take, flat_map, IfSome}
use Rattle.std.specs.declared.option.Option.{Option}
use Rattle.std.specs.declared.vec.Vec.{Vec}
use Rattle.std.specs.declared.alloc.Global.{Global}
use Rattle.std.specs.Option.{option_map}

-- the bytes were appended, where the sink tells its bytes
abbrev pub Puts : Option (List ℕ) → Option (List ℕ) → List ℕ → Type 0
Puts old new piece = new ≡ option_map (λ (bytes : List ℕ). bytes ++ piece) old

-- a prefix of the bytes was appended, where the sink tells its bytes
abbrev pub PutsPrefix : Option (List ℕ) → Option (List ℕ) → List ℕ → Type 0
PutsPrefix old new piece = (n : ℕ) × Puts old new (take n piece)

-- there was room for n bytes, and there is less by them, where the sink tells its room
pub record TakesRoom (old new : Option ℕ) (n : ℕ) : Type 0 where
  pub had : IfSome old (λ room. n ≤ room)
  pub left : new ≡ option_map (λ room. room - n) old

-- the bytes of all lines, one after another
abbrev pub bytes_of : List (Vec ℕ Global) → List ℕ
bytes_of lines = flat_map (λ line. line.items) lines
