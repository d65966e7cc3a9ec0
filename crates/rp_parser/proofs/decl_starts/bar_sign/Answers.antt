use Rattle.std.proofs.Common.{arith, refl, Some, [], ◌∷◌, ◌++◌, ◌∙◌}
use Rattle.rp_grammar.specs.declared.terminal.Symbol.TheVariants as symbols
use Rattle.rp_grammar.specs.Terminals.{symbol}
use Rattle.rp_tokens.specs.MachineStates.{to, more_cons}
use Rattle.rp_tokens.specs.MachineDecls.{want_con}
use Rattle.rp_parser.specs.means.Marks.{toks}
use Rattle.rp_parser.proofs.Steps.{step_to}
use Rattle.rp_parser.proofs.Rests.{stands_past}
use Rattle.rp_parser.proofs.decl_starts.bar_sign.Goals as goal

pub returns-in_default-clause-reads : goal.returns-in_default-clause-reads
returns-in_default-clause-reads c = λ o cs k is. stands_past symbols.Bar _ (more_cons cs k) (k cs) (λ x v. Some (to 0 (want_con (λ c. more_cons (cs ++ c ∷ []) k)))) o c.in_default.ensures.next refl (λ x v. refl) is

pub returns-clause-reads : goal.returns-clause-reads
returns-clause-reads c = λ o cs k is.
    c.in-Some.ensures.next (more_cons cs k) o is
    ∙ step_to (more_cons cs k) (want_con (λ c. more_cons (cs ++ c ∷ []) k)) 0 (symbol symbols.Bar) c.in-Some.field-0-0 (toks c.in-Some.after.now) refl (omega arith)
