use Rattle.std.proofs.Common.{subst, sym, arith}
use Rattle.rp_io.specs.Files.{PrefixOfTold}
use Rattle.rp_io.proofs.Pieces.{PrefixOfTold-append}
use Rattle.rp_io.proofs.whole.read_piece.Goals as goal

pub returns-in_ok-extend_from_slice-in-Ok-clause-prefix : goal.returns-in_ok-extend_from_slice-in-Ok-clause-prefix
returns-in_ok-extend_from_slice-in-Ok-clause-prefix g c h =
    subst (PrefixOfTold _) (sym c.in_ok-extend_from_slice-in-Ok.ensures.items) (PrefixOfTold-append _ c.args.bytes.now.items _ c.len-from.result c.in-Ok.n (omega arith) h c.in-Ok.ensures.content)
