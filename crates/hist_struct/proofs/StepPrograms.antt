-- What a well-formed program says of the operation that opens transactions.
use Rattle.std.proofs.Common.{◌≡◌, List, [], ◌∷◌, true, ap, sym, ◌∙◌}
use Rattle.std.proofs.lemmas.Bool.{and_parts}
use Rattle.std.proofs.lemmas.Option.{none-some, same_Some}
use Rattle.rp_lang.specs.declared.op.OpDecl.{OpDecl}
use Rattle.rp_lang.specs.Paths.{is_tx}
use Rattle.rp_lang.specs.Programs.{Rt, Prog}
use Rattle.rp_lang.specs.WellFormed.{are_ops, is_well_formed}
use Rattle.rp_lang.proofs.ProgramFacts.{facts, nothing}
use Rattle.event_machine.specs.WellFormed.{At}

-- a well-formed program, in which `tx` takes no arguments
pub record IsProgram (p : Prog) : Type 0 where
  pub formed : is_well_formed p ≡ true
  pub tx : (decl : OpDecl) → At p.ops 0 decl → decl.args ≡ []

first-op : (roots : List Rt) (ops : List OpDecl) (decl : OpDecl) → are_ops roots ops ≡ true → At ops 0 decl → is_tx decl ≡ true
first-op roots [] decl h a = absurd (none-some decl a)
first-op roots (first ∷ ops) decl h a = ap is_tx (sym (same_Some first decl a)) ∙ (and_parts _ _ (and_parts _ _ h).0).0

pub program-is : (p : Prog) → is_well_formed p ≡ true → IsProgram p
program-is p w = record {
  formed = w;
  tx = λ decl a. nothing decl.args (and_parts _ _ (first-op p.roots p.ops decl (facts p w).ops a)).1;
}
