use Rattle.std.proofs.Common.{◌≡◌, ◌+◌, length, refl, subst, arith}
use Rattle.rp_grammar.specs.Lexed.{EndsAt}
use Rattle.rp_grammar.proofs.Places.{ends_at, all_spelled}
use Rattle.rp_grammar.proofs.laws.tokens_stand_in_the_text.Goals as goal

pub returns : goal.returns
returns c = record {
  ends = λ bytes ts l. let e : 0 + length bytes ≡ length bytes = omega arith in subst (λ n. EndsAt n ts) e (ends_at l);
  spelled = λ bytes ts l. all_spelled bytes refl (omega arith) l;
}
