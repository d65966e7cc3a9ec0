-- Histories in which what is before a cause is a cause.
use Rattle.std.specs.Prelude.{◌≡◌, ℕ, true, List}
use Rattle.crdt_defs.specs.Calls.{Call}
use Rattle.crdt_defs.specs.Histories.{before}

abbrev pub IsTransitive : List Call → Type 0
IsTransitive h = (b c d : ℕ) → before h b c ≡ true → before h c d ≡ true → before h b d ≡ true
