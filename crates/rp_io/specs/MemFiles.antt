-- Files in memory.
use Rattle.std.specs.Prelude.{◌≡◌, ℕ, List, [], ◌∷◌, map, Contains, Result, string_bytes, ◌⊎◌}
use Rattle.std.specs.declared.option.Option.TheVariants.{None}
use Rattle.std.specs.declared.result.Result.TheVariants.{Ok, Err}
use Rattle.std.specs.declared.string.String.{String}
use Rattle.std.specs.declared.vec.Vec.{Vec}
use Rattle.std.specs.declared.alloc.Global.{Global}
use Rattle.std.specs.FinMap.{from_entries, get}
use Rattle.rp_io.specs.Counts.{raised}
use Rattle.rp_io.specs.Files.{Contents}

-- a name, and the bytes under it
abbrev pub Entry : Type 0
Entry = List ℕ × List ℕ

abbrev pub entries_of : List (String Global × Vec ℕ Global) → List Entry
entries_of files = map (λ e. (string_bytes e.0, (e.1).items)) files

-- of two entries of one name the first counts
abbrev pub contents_of : List Entry → Contents
contents_of entries = from_entries entries

abbrev pub names_of : List Entry → List (List ℕ)
names_of entries = map (λ e. e.0) entries

-- files of which some calls fail
pub record MemFilesState : Type 0 where
  pub entries : List Entry
  -- the numbers of the calls that fail, from 0
  pub failing : List ℕ
  -- how many calls were made, how many of them failed, and how many bytes were given
  pub calls : ℕ
  pub faults : ℕ
  pub given : ℕ

-- the names on which no call fails: all where no call is to fail, and else none
abbrev pub sound_names : List ℕ → List (List ℕ) → List (List ℕ)
sound_names [] names = names
sound_names (call ∷ failing) names = []

-- the next call is to fail, or the name isn't listed
abbrev pub FetchFails : MemFilesState → List ℕ → Type 0
FetchFails files name = Contains files.failing files.calls ⊎ (get (contents_of files.entries) name ≡ None)

-- the files after a call
abbrev pub after_fetch : {E : Type 0} → MemFilesState → Result ℕ E → MemFilesState
after_fetch files (Ok n) = record files { calls = raised files.calls 1; given = raised files.given n }
after_fetch files (Err e) = record files { calls = raised files.calls 1; faults = raised files.faults 1 }

-- files of which no call fails
pub record SureFilesState : Type 0 where
  pub entries : List Entry
  pub given : ℕ
