-- The signature that definitions speak of, of a signature of the code.
use Rattle.rp_logic.specs.declared.sig.Sig.{Sig}
use Rattle.rp_logic.specs.Signatures.{Signature}

abbrev pub sig_view : Sig → Signature
sig_view sig = record { sorts = sig.sorts; consts = sig.consts; fns = sig.fns; rels = sig.rels; cons = sig.cons }
