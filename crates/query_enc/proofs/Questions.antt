-- Questions over other than one term have no truth.
use Rattle.std.proofs.Common.{◌≡◌, ◌≤◌, ℕ, List, [], ◌∷◌, map, length, refl, arith}
use Rattle.rp_lang.specs.Programs.{Prog}
use Rattle.rp_logic.specs.declared.term.Term.{Term}
use Rattle.rp_logic.specs.Terms.{Tm}
use Rattle.rp_logic.specs.Views.{term_view}
use Rattle.crdt_defs.specs.declared.asked.Question.{Question}
use Rattle.crdt_defs.specs.declared.asked.Question.TheVariants as question
use Rattle.crdt_enc.specs.QueryFormulas.{answer_formula, untrue}
use Rattle.crdt_enc.specs.Ways.{Way}

over_two : (p : Prog) (view : ℕ) (way : Way Tm) (q : Question) (a b : Tm) (ts : List Tm) → answer_formula p view way q (a ∷ b ∷ ts) ≡ untrue
over_two p view way question.AddWins a b ts = refl
over_two p view way question.RemoveWins a b ts = refl
over_two p view way question.ManyValues a b ts = refl
over_two p view way (question.AtKey winner) a b ts = refl
over_two p view way question.Latest a b ts = refl
over_two p view way question.Total a b ts = refl
over_two p view way question.NoQuestion a b ts = refl

pub over_many : (p : Prog) (view : ℕ) (way : Way Tm) (q : Question) (xs : List Term) → 2 ≤ length xs → answer_formula p view way q (map term_view xs) ≡ untrue
over_many p view way q [] h = absurd (omega (arith, h))
over_many p view way q (x ∷ []) h = absurd (omega (arith, h))
over_many p view way q (x ∷ y ∷ xs) h = over_two p view way q (term_view x) (term_view y) (map term_view xs)
