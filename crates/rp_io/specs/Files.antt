-- What files tell, and what a call gives of them.
use Rattle.std.specs.Prelude.{◌≡◌, ℕ, ◌<◌, ◌≤◌, List, length, take, drop, IfSome}
use Rattle.std.specs.declared.option.Option.{Option}
use Rattle.std.specs.declared.option.Option.TheVariants.{None, Some}
use Rattle.std.specs.FinMap.{FinMap, get}
use Rattle.std.specs.Cmp.Lexicographic.{slice_cmp}
use Rattle.std.specs.Ordering.{nat_cmp}

-- names, each with its bytes
abbrev pub Contents : Type 0
Contents = FinMap (slice_cmp nat_cmp) (List ℕ)

-- the bytes under a name, where the files tell them
abbrev pub content_of : Option Contents → List ℕ → Option (List ℕ)
content_of None name = None
content_of (Some contents) name = get contents name

-- the first n bytes of the buffer are the content from a place on: some where there are any, and none past the end
pub record Fetches (content : List ℕ) (from n : ℕ) (buf : List ℕ) : Type 0 where
  pub bytes : take n buf ≡ take n (drop from content)
  pub within : n ≤ length (drop from content)
  pub some : from < length content → 0 < n

-- the bytes are the first ones of the content
pub record IsPrefix (bytes content : List ℕ) : Type 0 where
  pub same : bytes ≡ take (length bytes) content
  pub within : length bytes ≤ length content

-- the same, where the content is told
abbrev pub PrefixOfTold : Option (List ℕ) → List ℕ → Type 0
PrefixOfTold told bytes = IfSome told (IsPrefix bytes)
