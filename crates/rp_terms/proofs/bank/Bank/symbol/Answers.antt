use Rattle.std.proofs.Common.{◌∙◌, ap, sym}
use Rattle.std.specs.Prelude.{Some}
use Rattle.std.specs.Option.{option_map}
use Rattle.rp_terms.specs.Symbols.{symbol_of}
use Rattle.rp_terms.proofs.bank.Bank.symbol.Goals as goal

pub returns : goal.returns
returns c = ap (option_map symbol_of) c.node.ensures.1 ∙ ap Some (sym c.node.ensures.2.symbol)
