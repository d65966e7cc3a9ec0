-- What leads on from the state behind a token leads on from before it.
use Rattle.std.proofs.Common.{◌≡◌, ℕ, Bool, true, false, cond, inl, inr, Option, Some, None, refl}
use Rattle.rp_span.specs.declared.Span.{Span}
use Rattle.rp_grammar.specs.declared.terminal.Word.TheVariants as word
use Rattle.rp_grammar.specs.declared.terminal.Symbol.TheVariants as symbol
use Rattle.rp_grammar.specs.Terminals.{Terminal, name, int}
use Rattle.rp_grammar.specs.Trees.{Ident, ident}
use Rattle.rp_grammar.specs.Exprs.{goes_on, stops, and_part, or_part}
use Rattle.rp_grammar.specs.Exprs as exprs
use Rattle.rp_tokens.specs.MachineStates.{State, finished, want_symbol, want_name, want_int, if_symbol, if_word, if_name, want_type, more_params, want_crdt, more_fields, more_names, want_pattern, want_operand, want_prim, more_and, more_or, more_implies, more_cmp, more_sum, have_bound, stopping, more_exprs, more_expr_arms, in_access, in_stmts, more_if, in_block_arms, more_cons, in_decls, Move, to, name_step, name_or}
use Rattle.rp_tokens.specs.MachineExprs.{not_called}
use Rattle.rp_tokens.specs.MachineStmts.{alone}
use Rattle.rp_tokens.specs.Machine.{int_step, step}
use Rattle.rp_tokens.proofs.Leads.{next, next_name, next_int, Leads, Back, weaken, back_symbol, back_word, back_or}
use Rattle.rp_tokens.proofs.LeadsTypes.{type_back, crdt_back, more_params_back, no_more_params, more_fields_back, no_more_fields}
use Rattle.rp_tokens.proofs.LeadsExprs.{pattern_back, more_names_back, no_more_names, next_bound, last_bound, prim_back, operand_back}
use Rattle.rp_tokens.proofs.LeadsTails.{more_and_back, no_more_and, more_or_back, no_more_or, more_implies_back, compare_back, plus_back, minus_back, more_exprs_back, no_more_exprs, more_arms_back, no_more_arms, no_more_access, access_back}
use Rattle.rp_tokens.proofs.LeadsStmts.{else_back, no_else, stmts_back, no_more_stmts, block_arms_back, no_more_block_arms}
use Rattle.rp_tokens.proofs.LeadsDecls.{more_cons_back, no_more_cons, decls_back}

name_back : (d : ℕ) (k : Ident → State) (x : Terminal) (v : Span) → Back (Leads (want_name d k)) x v (name_step d k x v)
name_back d k (name n) v = λ ts t l. (ident n v, ts, next_name, l)
name_back d k _ v = tt

int_back : (d : ℕ) (k : ℕ → Span → State) (x : Terminal) (v : Span) → Back (Leads (want_int d k)) x v (int_step d k x v)
int_back d k (int i) v = λ ts t l. (i, v, ts, next_int, l)
int_back d k _ v = tt

name_or_back : (d : ℕ) (k : Ident → State) (other : State) (x : Terminal) (v : Span) (o : Option Move) → Back (Leads (if_name d k other)) x v o → Back (Leads (if_name d k other)) x v (name_or d k x v o)
name_or_back d k other (name n) v o f = λ ts t l. inl (ident n v, ts, next_name, l)
name_or_back d k other _ v o f = f

stopping_back : (s : State) (x : Terminal) (v : Span) (g : Bool) (o : Option Move) → goes_on x ≡ g → Back (Leads s) x v o → Back (Leads (stopping s)) x v (cond g None o)
stopping_back s x v true o e f = tt
stopping_back s x v false None e f = tt
stopping_back s x v false (Some (to d n)) e f = λ ts t l. (cc e, f ts t l)

pub step_back : (s : State) (x : Terminal) (v : Span) → Back (Leads s) x v (step s x v)
step_back (finished xs) x v = tt
step_back (want_symbol m h d k) x v = back_symbol (Leads (want_symbol m h d k)) m x v (Some (to d (k v))) None (λ ts t l. (v, ts, next, l)) tt
step_back (want_name d k) x v = name_back d k x v
step_back (want_int d k) x v = int_back d k x v
step_back (if_symbol m d k other) x v = back_symbol (Leads (if_symbol m d k other)) m x v (Some (to d (k v))) (step other x v) (λ ts t l. inl (v, ts, next, l)) (weaken (Leads other) (Leads (if_symbol m d k other)) x v (step other x v) (λ ts t l. inr l) (step_back other x v))
step_back (if_word w d k other) x v = back_word (Leads (if_word w d k other)) w x v (Some (to d (k v))) (step other x v) (λ ts t l. inl (v, ts, next, l)) (weaken (Leads other) (Leads (if_word w d k other)) x v (step other x v) (λ ts t l. inr l) (step_back other x v))
step_back (if_name d k other) x v = name_or_back d k other x v (step other x v) (weaken (Leads other) (Leads (if_name d k other)) x v (step other x v) (λ ts t l. inr l) (step_back other x v))
step_back (want_type d k) x v = type_back d k x v
step_back (more_params d ps k) x v = back_symbol (Leads (more_params d ps k)) symbol.Comma x v _ (step (k ps) x v) (more_params_back d ps k v) (weaken (Leads (k ps)) (Leads (more_params d ps k)) x v (step (k ps) x v) (no_more_params d ps k) (step_back (k ps) x v))
step_back (want_crdt d k) x v = crdt_back d k x v
step_back (more_fields d xs k) x v = back_symbol (Leads (more_fields d xs k)) symbol.Comma x v _ (step (k xs) x v) (more_fields_back d xs k v) (weaken (Leads (k xs)) (Leads (more_fields d xs k)) x v (step (k xs) x v) (no_more_fields d xs k) (step_back (k xs) x v))
step_back (more_names d ns k) x v = back_symbol (Leads (more_names d ns k)) symbol.Comma x v _ (step (k ns) x v) (more_names_back d ns k v) (weaken (Leads (k ns)) (Leads (more_names d ns k)) x v (step (k ns) x v) (no_more_names d ns k) (step_back (k ns) x v))
step_back (want_pattern d k) x v = pattern_back d k x v
step_back (want_operand d k) x v = operand_back d k x v
step_back (want_prim d k) x v = prim_back d k x v
step_back (more_and d e es k) x v = let s : State = k (and_part e es) in back_symbol (Leads (more_and d e es k)) symbol.And x v _ (step s x v) (more_and_back d e es k v) (weaken (Leads s) (Leads (more_and d e es k)) x v (step s x v) (no_more_and d e es k) (step_back (k (and_part e es)) x v))
step_back (more_or d e es k) x v = let s : State = k (or_part e es) in back_symbol (Leads (more_or d e es k)) symbol.Or x v _ (step s x v) (more_or_back d e es k v) (weaken (Leads s) (Leads (more_or d e es k)) x v (step s x v) (no_more_or d e es k) (step_back (k (or_part e es)) x v))
step_back (more_implies d a k) x v = back_symbol (Leads (more_implies d a k)) symbol.Implies x v _ (step (k a) x v) (more_implies_back d a k v) (weaken (Leads (k a)) (Leads (more_implies d a k)) x v (step (k a) x v) (λ ts t l. (a, ts, exprs.no_right, l)) (step_back (k a) x v))
step_back (more_cmp d a k) x v = compare_back d a k x v (step (k a) x v) (weaken (Leads (k a)) (Leads (more_cmp d a k)) x v (step (k a) x v) (λ ts t l. (a, ts, exprs.no_cmp, l)) (step_back (k a) x v))
step_back (more_sum d a k) x v =
    back_symbol (Leads (more_sum d a k)) symbol.Plus x v _ _ (plus_back d a k v)
    (back_symbol (Leads (more_sum d a k)) symbol.Minus x v _ (step (k a) x v) (minus_back d a k v)
    (weaken (Leads (k a)) (Leads (more_sum d a k)) x v (step (k a) x v) (λ ts t l. (a, ts, exprs.no_sum, l)) (step_back (k a) x v)))
step_back (have_bound q d s n y k) x v = back_symbol (Leads (have_bound q d s n y k)) symbol.DoubleColon x v _ _ (last_bound q d s n y k v) (back_symbol (Leads (have_bound q d s n y k)) symbol.Comma x v _ None (next_bound q d s n y k v) tt)
step_back (stopping other) x v = stopping_back other x v (goes_on x) (step other x v) refl (step_back other x v)
step_back (more_exprs d es k) x v = back_symbol (Leads (more_exprs d es k)) symbol.Comma x v _ (step (k es) x v) (more_exprs_back d es k v) (weaken (Leads (k es)) (Leads (more_exprs d es k)) x v (step (k es) x v) (no_more_exprs d es k) (step_back (k es) x v))
step_back (more_expr_arms d as_ k) x v = back_symbol (Leads (more_expr_arms d as_ k)) symbol.Comma x v _ (step (k as_) x v) (more_arms_back d as_ k v) (weaken (Leads (k as_)) (Leads (more_expr_arms d as_ k)) x v (step (k as_) x v) (no_more_arms d as_ k) (step_back (k as_) x v))
step_back (in_access d n xs s k) x v = let o : State = k (not_called n xs s) in access_back d n xs s k x v (step o x v) (weaken (Leads o) (Leads (in_access d n xs s k)) x v (step o x v) (no_more_access d n xs s k) (step_back (k (not_called n xs s)) x v))
step_back (in_stmts d xs k) x v = back_or (Leads (in_stmts d xs k)) x v _ (step (k xs) x v) (stmts_back d xs k x v) (weaken (Leads (k xs)) (Leads (in_stmts d xs k)) x v (step (k xs) x v) (no_more_stmts d xs k) (step_back (k xs) x v))
step_back (more_if d s e b k) x v = let o : State = k (alone s e b) in back_word (Leads (more_if d s e b k)) word.Else x v _ (step o x v) (else_back d s e b k v) (weaken (Leads o) (Leads (more_if d s e b k)) x v (step o x v) (no_else d s e b k) (step_back (k (alone s e b)) x v))
step_back (in_block_arms d as_ k) x v = back_or (Leads (in_block_arms d as_ k)) x v _ (step (k as_) x v) (block_arms_back d as_ k x v) (weaken (Leads (k as_)) (Leads (in_block_arms d as_ k)) x v (step (k as_) x v) (no_more_block_arms d as_ k) (step_back (k as_) x v))
step_back (more_cons cs k) x v = back_symbol (Leads (more_cons cs k)) symbol.Bar x v _ (step (k cs) x v) (more_cons_back cs k v) (weaken (Leads (k cs)) (Leads (more_cons cs k)) x v (step (k cs) x v) (no_more_cons cs k) (step_back (k cs) x v))
step_back (in_decls xs) x v = decls_back xs x v
