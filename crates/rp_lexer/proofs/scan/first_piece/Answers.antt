use Rattle.std.proofs.Common.{sym, subst}
use Rattle.rp_grammar.specs.Pieces.{Begins}
use Rattle.rp_grammar.specs.Lexed.{Moves}
use Rattle.rp_grammar.proofs.Sound.{sound}
use Rattle.rp_grammar.proofs.Moving.{moves}
use Rattle.rp_lexer.proofs.scan.first_piece.Goals as goal

pub returns : goal.returns
returns c =
    let bytes = c.args.rest.now in
    record {
      begins = subst (Begins bytes) (sym c.computed_piece.ensures) (sound bytes);
      moves = subst (Moves bytes) (sym c.computed_piece.ensures) (moves (sound bytes));
    }
