use Rattle.std.proofs.Common.{◌≡◌, ◌++◌, drop}
use Rattle.schedule_fmt.specs.Texts.{numbers_text}
use Rattle.schedule_fmt.proofs.printer.put_numbers.Given as goal

-- what is still to come completes the whole
abbrev pub invariant-loop-n : goal.invariant-loop-n
invariant-loop-n l = l.out.items ++ numbers_text (drop l.n-index l.numbers) ≡ l.initial.out.items ++ numbers_text l.numbers
