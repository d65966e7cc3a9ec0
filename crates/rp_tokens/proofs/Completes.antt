-- Each state can be completed to a program, by tokens of which the first goes on with no quantifier's body.
use Rattle.std.proofs.Common.{◌≡◌, ℕ, true, IsTrue, List, [], ◌∷◌, inl, inr, ◌⊎◌, Some, None, length, ◌<◌, refl, sym, ap, append-nil, arith}
use Rattle.rp_span.specs.declared.Span.{Span}
use Rattle.rp_grammar.specs.declared.terminal.Word.TheVariants as word
use Rattle.rp_grammar.specs.declared.terminal.Symbol.TheVariants as symbol
use Rattle.rp_grammar.specs.Terminals.{name, word, int, symbol, end, Tok, Placed, on}
use Rattle.rp_grammar.specs.Trees.{Ident, ident, TypeTree, TypeForm, CrdtTree, CrdtForm, PatternTree, ExprTree, ExprForm, DeclTree}
use Rattle.rp_grammar.specs.Parts.{Part, built}
use Rattle.rp_grammar.specs.Types as types
use Rattle.rp_grammar.specs.Exprs.{stops, and_part, or_part, quantifier_part, Expr}
use Rattle.rp_grammar.specs.Exprs as exprs
use Rattle.rp_grammar.specs.Decls as decls
use Rattle.rp_tokens.specs.MachineStates.{State, finished, want_symbol, want_name, want_int, if_symbol, if_word, if_name, want_type, more_params, want_crdt, more_fields, more_names, want_pattern, want_operand, want_prim, more_and, more_or, more_implies, more_cmp, more_sum, have_bound, stopping, more_exprs, more_expr_arms, in_access, in_stmts, more_if, in_block_arms, more_cons, in_decls, to}
use Rattle.rp_tokens.specs.MachineExprs.{not_called}
use Rattle.rp_tokens.specs.MachineStmts.{alone}
use Rattle.rp_tokens.specs.Machine.{step, done, stuck, ended}
use Rattle.rp_tokens.proofs.Leads.{next, next_name, next_int, last_one, Leads}
use Rattle.rp_tokens.proofs.LeadsTypes.{no_more_params, no_more_fields}
use Rattle.rp_tokens.proofs.LeadsExprs.{no_more_names}
use Rattle.rp_tokens.proofs.LeadsTails.{no_more_and, no_more_or, no_more_exprs, no_more_arms, no_more_access}
use Rattle.rp_tokens.proofs.LeadsStmts.{no_else, no_more_stmts, no_more_block_arms}
use Rattle.rp_tokens.proofs.LeadsDecls.{no_more_cons}

abbrev zero_span : Span
zero_span = record { from = 0; to = 0 }

abbrev pub Completes : State → Type 0
Completes s = (ts : List Placed) × (t : List DeclTree) × Leads s ts t × IsTrue (stops ts)

abbrev yes_part : Part ExprTree
yes_part = built zero_span (ExprForm.truth true)

yes_expr : (d : ℕ) (r : List Placed) → Expr d (on (word word.True) zero_span d ∷ r) yes_part r
yes_expr d r = exprs.expr (exprs.or (exprs.and (exprs.comparison (exprs.cmp (exprs.sum exprs.true_ exprs.no_sum) exprs.no_cmp)) exprs.no_and) exprs.no_or) exprs.no_right

pub completes : (s : State) → Completes s
completes (finished xs) = ([], xs, (refl, refl), refl)
completes (want_symbol m h d k) = let (ts, t, l, g) = completes (k zero_span) in (on (symbol m) zero_span d ∷ ts, t, (zero_span, ts, next, l), h)
completes (want_name d k) = let n : Ident = ident [] zero_span in let (ts, t, l, g) = completes (k (ident [] zero_span)) in (on (name []) zero_span d ∷ ts, t, (n, ts, next_name, l), refl)
completes (want_int d k) = let (ts, t, l, g) = completes (k 0 zero_span) in (on (int 0) zero_span d ∷ ts, t, (0, zero_span, ts, next_int, l), refl)
completes (if_symbol m d k other) = let (ts, t, l, g) = completes other in (ts, t, inr l, g)
completes (if_word w d k other) = let (ts, t, l, g) = completes other in (ts, t, inr l, g)
completes (if_name d k other) = let (ts, t, l, g) = completes other in (ts, t, inr l, g)
completes (want_type d k) = let (ts, t, l, g) = completes (k (TypeTree.node zero_span TypeForm.bool)) in (on (word word.Bool) zero_span d ∷ ts, t, (TypeTree.node zero_span TypeForm.bool, ts, types.bool, l), refl)
completes (more_params d ps k) = let (ts, t, l, g) = completes (k ps) in (ts, t, no_more_params d ps k ts t l, g)
completes (want_crdt d k) = let (ts, t, l, g) = completes (k (CrdtTree.node zero_span CrdtForm.counter)) in (on (word word.Counter) zero_span d ∷ ts, t, (CrdtTree.node zero_span CrdtForm.counter, ts, types.counter, l), refl)
completes (more_fields d xs k) = let (ts, t, l, g) = completes (k xs) in (ts, t, no_more_fields d xs k ts t l, g)
completes (more_names d ns k) = let (ts, t, l, g) = completes (k ns) in (ts, t, no_more_names d ns k ts t l, g)
completes (want_pattern d k) = let (ts, t, l, g) = completes (k (PatternTree.pattern (ident [] zero_span) [])) in (on (name []) zero_span d ∷ ts, t, (PatternTree.pattern (ident [] zero_span) [], ts, exprs.bare exprs.named, l), refl)
completes (want_operand d k) = let (ts, t, l, g) = completes (k yes_part) in (on (word word.True) zero_span d ∷ ts, t, (yes_part, ts, exprs.comparison (exprs.cmp (exprs.sum exprs.true_ exprs.no_sum) exprs.no_cmp), l), refl)
completes (want_prim d k) = let (ts, t, l, g) = completes (k yes_part) in (on (word word.True) zero_span d ∷ ts, t, (yes_part, ts, exprs.true_, l), refl)
completes (more_and d e es k) = let (ts, t, l, g) = completes (k (and_part e es)) in (ts, t, no_more_and d e es k ts t l, g)
completes (more_or d e es k) = let (ts, t, l, g) = completes (k (or_part e es)) in (ts, t, no_more_or d e es k ts t l, g)
completes (more_implies d a k) = let (ts, t, l, g) = completes (k a) in (ts, t, (a, ts, exprs.no_right, l), g)
completes (more_cmp d a k) = let (ts, t, l, g) = completes (k a) in (ts, t, (a, ts, exprs.no_cmp, l), g)
completes (more_sum d a k) = let (ts, t, l, g) = completes (k a) in (ts, t, (a, ts, exprs.no_sum, l), g)
completes (have_bound q d s n x k) =
    let (ts, t, l, g) = completes (k (quantifier_part q s n x yes_part)) in
    (on (symbol symbol.DoubleColon) zero_span d ∷ on (word word.True) zero_span d ∷ ts, t, (quantifier_part q s n x yes_part, ts, last_one (yes_expr d ts), l), refl)
completes (stopping other) = let (ts, t, l, g) = completes other in (ts, t, (g, l), g)
completes (more_exprs d es k) = let (ts, t, l, g) = completes (k es) in (ts, t, no_more_exprs d es k ts t l, g)
completes (more_expr_arms d as_ k) = let (ts, t, l, g) = completes (k as_) in (ts, t, no_more_arms d as_ k ts t l, g)
completes (in_access d n xs s k) = let (ts, t, l, g) = completes (k (not_called n xs s)) in (ts, t, no_more_access d n xs s k ts t l, g)
completes (in_stmts d xs k) = let (ts, t, l, g) = completes (k xs) in (ts, t, no_more_stmts d xs k ts t l, g)
completes (more_if d s e b k) = let (ts, t, l, g) = completes (k (alone s e b)) in (ts, t, no_else d s e b k ts t l, g)
completes (in_block_arms d as_ k) = let (ts, t, l, g) = completes (k as_) in (ts, t, no_more_block_arms d as_ k ts t l, g)
completes (more_cons cs k) = let (ts, t, l, g) = completes (k cs) in (ts, t, no_more_cons cs k ts t l, g)
completes (in_decls xs) = (on end zero_span 0 ∷ [], xs, ([], decls.end_, sym (append-nil xs)), refl)

-- where no token is left

stuck_same : (a b : List Tok) → stuck a ≡ stuck b → a ≡ b
stuck_same a b h = cc

no_tokens : (r : List Tok) → [] ≡ r → 0 < length r → ⊥
no_tokens r h lt = omega (arith, ap length h)

ended_early : (r : List Tok) → stuck [] ≡ stuck r → 0 < length r → ⊥
ended_early r h lt = no_tokens r (stuck_same [] r h) lt

done_same : (xs t : List DeclTree) → done xs ≡ done t → t ≡ xs
done_same xs t h = cc

-- a run that ends too early has refused no token
pub not_ended : (s : State) (r : List Tok) → ended s ≡ stuck r → 0 < length r → ⊥
not_ended (finished xs) r h lt = cc
not_ended (want_symbol m g d k) r h lt = ended_early r h lt
not_ended (want_name d k) r h lt = ended_early r h lt
not_ended (want_int d k) r h lt = ended_early r h lt
not_ended (if_symbol m d k other) r h lt = not_ended other r h lt
not_ended (if_word w d k other) r h lt = not_ended other r h lt
not_ended (if_name d k other) r h lt = not_ended other r h lt
not_ended (want_type d k) r h lt = ended_early r h lt
not_ended (more_params d ps k) r h lt = not_ended (k ps) r h lt
not_ended (want_crdt d k) r h lt = ended_early r h lt
not_ended (more_fields d xs k) r h lt = not_ended (k xs) r h lt
not_ended (more_names d ns k) r h lt = not_ended (k ns) r h lt
not_ended (want_pattern d k) r h lt = ended_early r h lt
not_ended (want_operand d k) r h lt = ended_early r h lt
not_ended (want_prim d k) r h lt = ended_early r h lt
not_ended (more_and d e es k) r h lt = not_ended (k (and_part e es)) r h lt
not_ended (more_or d e es k) r h lt = not_ended (k (or_part e es)) r h lt
not_ended (more_implies d a k) r h lt = not_ended (k a) r h lt
not_ended (more_cmp d a k) r h lt = not_ended (k a) r h lt
not_ended (more_sum d a k) r h lt = not_ended (k a) r h lt
not_ended (have_bound q d s n x k) r h lt = ended_early r h lt
not_ended (stopping other) r h lt = not_ended other r h lt
not_ended (more_exprs d es k) r h lt = not_ended (k es) r h lt
not_ended (more_expr_arms d as_ k) r h lt = not_ended (k as_) r h lt
not_ended (in_access d n xs s k) r h lt = not_ended (k (not_called n xs s)) r h lt
not_ended (in_stmts d xs k) r h lt = not_ended (k xs) r h lt
not_ended (more_if d s e b k) r h lt = not_ended (k (alone s e b)) r h lt
not_ended (in_block_arms d as_ k) r h lt = not_ended (k as_) r h lt
not_ended (more_cons cs k) r h lt = not_ended (k cs) r h lt
not_ended (in_decls xs) r h lt = ended_early r h lt

-- a state where the program may end is complete without a further token
pub ended_done : (s : State) (t : List DeclTree) → ended s ≡ done t → Leads s [] t
ended_done (finished xs) t h = (refl, done_same xs t h)
ended_done (want_symbol m g d k) t h = cc
ended_done (want_name d k) t h = cc
ended_done (want_int d k) t h = cc
ended_done (if_symbol m d k other) t h = inr (ended_done other t h)
ended_done (if_word w d k other) t h = inr (ended_done other t h)
ended_done (if_name d k other) t h = inr (ended_done other t h)
ended_done (want_type d k) t h = cc
ended_done (more_params d ps k) t h = no_more_params d ps k [] t (ended_done (k ps) t h)
ended_done (want_crdt d k) t h = cc
ended_done (more_fields d xs k) t h = no_more_fields d xs k [] t (ended_done (k xs) t h)
ended_done (more_names d ns k) t h = no_more_names d ns k [] t (ended_done (k ns) t h)
ended_done (want_pattern d k) t h = cc
ended_done (want_operand d k) t h = cc
ended_done (want_prim d k) t h = cc
ended_done (more_and d e es k) t h = no_more_and d e es k [] t (ended_done (k (and_part e es)) t h)
ended_done (more_or d e es k) t h = no_more_or d e es k [] t (ended_done (k (or_part e es)) t h)
ended_done (more_implies d a k) t h = (a, [], exprs.no_right, ended_done (k a) t h)
ended_done (more_cmp d a k) t h = (a, [], exprs.no_cmp, ended_done (k a) t h)
ended_done (more_sum d a k) t h = (a, [], exprs.no_sum, ended_done (k a) t h)
ended_done (have_bound q d s n x k) t h = cc
ended_done (stopping other) t h = (refl, ended_done other t h)
ended_done (more_exprs d es k) t h = no_more_exprs d es k [] t (ended_done (k es) t h)
ended_done (more_expr_arms d as_ k) t h = no_more_arms d as_ k [] t (ended_done (k as_) t h)
ended_done (in_access d n xs s k) t h = no_more_access d n xs s k [] t (ended_done (k (not_called n xs s)) t h)
ended_done (in_stmts d xs k) t h = no_more_stmts d xs k [] t (ended_done (k xs) t h)
ended_done (more_if d s e b k) t h = no_else d s e b k [] t (ended_done (k (alone s e b)) t h)
ended_done (in_block_arms d as_ k) t h = no_more_block_arms d as_ k [] t (ended_done (k as_) t h)
ended_done (more_cons cs k) t h = no_more_cons cs k [] t (ended_done (k cs) t h)
ended_done (in_decls xs) t h = cc

-- the end of the text is refused, or it ends the program
pub end_step : (s : State) (v : Span) → (step s end v ≡ None) ⊎ ((d : ℕ) × (xs : List DeclTree) × (step s end v ≡ Some (to d (finished xs))))
end_step (finished xs) v = inl refl
end_step (want_symbol m h d k) v = inl refl
end_step (want_name d k) v = inl refl
end_step (want_int d k) v = inl refl
end_step (if_symbol m d k other) v = end_step other v
end_step (if_word w d k other) v = end_step other v
end_step (if_name d k other) v = end_step other v
end_step (want_type d k) v = inl refl
end_step (more_params d ps k) v = end_step (k ps) v
end_step (want_crdt d k) v = inl refl
end_step (more_fields d xs k) v = end_step (k xs) v
end_step (more_names d ns k) v = end_step (k ns) v
end_step (want_pattern d k) v = inl refl
end_step (want_operand d k) v = inl refl
end_step (want_prim d k) v = inl refl
end_step (more_and d e es k) v = end_step (k (and_part e es)) v
end_step (more_or d e es k) v = end_step (k (or_part e es)) v
end_step (more_implies d a k) v = end_step (k a) v
end_step (more_cmp d a k) v = end_step (k a) v
end_step (more_sum d a k) v = end_step (k a) v
end_step (have_bound q d s n x k) v = inl refl
end_step (stopping other) v = end_step other v
end_step (more_exprs d es k) v = end_step (k es) v
end_step (more_expr_arms d as_ k) v = end_step (k as_) v
end_step (in_access d n xs s k) v = end_step (k (not_called n xs s)) v
end_step (in_stmts d xs k) v = end_step (k xs) v
end_step (more_if d s e b k) v = end_step (k (alone s e b)) v
end_step (in_block_arms d as_ k) v = end_step (k as_) v
end_step (more_cons cs k) v = end_step (k cs) v
end_step (in_decls xs) v = inr (0, xs, refl)
