use Rattle.rp_grammar.proofs.Rows as rows
use Rattle.rp_grammar.proofs.laws.worked_rows.Goals as goal

pub returns : goal.returns
returns c = record {
  tautology = rows.tautology;
  tautology_within_two = rows.tautology_within_two;
  tautology_past_none = rows.tautology_past_none;
  no_program = rows.no_program;
  parentheses_of_an_operand = rows.parentheses_of_an_operand;
  parentheses_of_a_node = rows.parentheses_of_a_node;
  nestings_of_a_sum = rows.nestings_of_a_sum;
  two_variables = rows.two_variables;
  quantifier_in_a_chain = rows.quantifier_in_a_chain;
  else_if = rows.else_if;
  replicated_types = rows.replicated_types;
  datatypes = rows.datatypes;
  matches_and_accesses = rows.matches_and_accesses;
  words_with_arguments = rows.words_with_arguments;
  statements = rows.statements;
  replicated_types_by_name = rows.replicated_types_by_name;
  comparisons = rows.comparisons;
  words_alone = rows.words_alone;
  short_statements = rows.short_statements;
  declared_types = rows.declared_types;
  strings = rows.strings;
  tautology_tokens = rows.tautology_tokens;
}
