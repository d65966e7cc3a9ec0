-- Which bytes are a program's text, and which program they are.
use Rattle.std.specs.Prelude.{ℕ, ◌≤◌, List, length}
use Rattle.rp_grammar.specs.Trees.{DeclTree}
use Rattle.rp_grammar.specs.Texts.{IsTextWithin}
use Rattle.rp_lang.specs.Programs.{Prog}
use Rattle.desugaring.specs.Limits.{HasProgram}

-- The bytes are a text within all limits, and p is its program.
pub record IsProgramText (bytes : List ℕ) (p : Prog) : Type 0 where
  pub short : length bytes ≤ 262144
  pub tree : List DeclTree
  -- no token's nesting passes 64
  pub text : IsTextWithin 64 bytes tree
  -- no type rule is broken, and no limit on programs passed
  pub program : HasProgram tree p

abbrev pub IsSomeProgram : List ℕ → Type 0
IsSomeProgram bytes = (p : Prog) × IsProgramText bytes p
