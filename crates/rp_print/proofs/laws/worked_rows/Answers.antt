use Rattle.rp_print.proofs.Rows as rows
use Rattle.rp_print.proofs.laws.worked_rows.Goals as goal

pub returns : goal.returns
returns c = record {
  tautology = rows.tautology;
  numbers = rows.numbers;
  strings = rows.strings;
  quantifiers = rows.quantifiers;
  matches = rows.matches;
  branches = rows.branches;
  datatypes = rows.datatypes;
  replicated_types = rows.replicated_types;
}
