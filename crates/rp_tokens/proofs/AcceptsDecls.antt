-- The machine takes every program of the grammar.
use Rattle.std.proofs.Common.{◌≡◌, Bool, true, false, not, IsTrue, List, [], ◌∷◌, ◌++◌, Option, Some, None, refl, sym, ap, ◌∙◌, append_assoc, append-nil}
use Rattle.rp_span.specs.declared.Span.{Span}
use Rattle.rp_grammar.specs.declared.terminal.Symbol.TheVariants as symbol
use Rattle.rp_grammar.specs.Terminals.{name, Placed, on}
use Rattle.rp_grammar.specs.Trees.{ident, TypeTree, ParamTree, ConTree, QueryTree, ProcTree, DeclForm, DeclTree}
use Rattle.rp_grammar.specs.Parts.{join}
use Rattle.rp_grammar.specs.Stmts.{block_span}
use Rattle.rp_grammar.specs.Decls.{Con, MoreCons, ResultType, Decl, Program}
use Rattle.rp_grammar.specs.Decls as grammar
use Rattle.rp_tokens.specs.MachineStates.{State, finished, want_symbol, if_symbol, want_type, more_cons, in_decls}
use Rattle.rp_tokens.specs.MachineStmts.{want_sentence, want_block}
use Rattle.rp_tokens.specs.MachineDecls.{want_con, in_result, want_claim, in_claim, in_invariant}
use Rattle.rp_tokens.specs.Machine.{done, run, place}
use Rattle.rp_tokens.proofs.Tests.{next_is}
use Rattle.rp_tokens.proofs.Comes.{plains, Comes, then_comes, stays, reads, same_step, no_symbol}
use Rattle.rp_tokens.proofs.FirstTokens.{unnamed, unnamed_expr, block_not_colon}
use Rattle.rp_tokens.proofs.AcceptsTypes.{takes_type, takes_params, takes_param_list, takes_crdt}
use Rattle.rp_tokens.proofs.AcceptsStmts.{takes_sentence, takes_block}

takes_con : {ts r : List Placed} {c : ConTree} → Con ts c r → next_is symbol.OpenParen r ≡ false → (k : ConTree → State) → Comes (want_con k) ts (k c) r
takes_con (grammar.plain {r = r}) h k = then_comes (reads _ _ _ _ _ _ refl) (no_symbol symbol.OpenParen r _ _ _ refl h (λ x v. refl))
takes_con (grammar.with_fields {n = n} {s = s} x) h k =
    then_comes (reads _ _ _ _ _ _ refl) (then_comes (reads _ _ _ _ _ _ refl) (then_comes (takes_params x (λ ps. want_symbol symbol.CloseParen refl 0 (λ c. k (ConTree.con (ident n s) ps)))) (reads _ _ _ _ _ _ refl)))

cons_not_open : {ts r : List Placed} {cs : List ConTree} → MoreCons ts cs r → next_is symbol.OpenParen r ≡ false → next_is symbol.OpenParen ts ≡ false
cons_not_open grammar.no_con h = h
cons_not_open (grammar.more_cons x m) h = refl

takes_more_cons : {ts r : List Placed} {cs : List ConTree} → MoreCons ts cs r → next_is symbol.OpenParen r ≡ false → (acc : List ConTree) (k : List ConTree → State) → Comes (more_cons acc k) ts (more_cons (acc ++ cs) k) r
takes_more_cons (grammar.no_con {r = r}) h acc k = stays _ _ r (ap (λ cs. more_cons cs k) (sym (append-nil acc)))
takes_more_cons (grammar.more_cons {u = u} {x = c} {xs = cs} x m) h acc k =
    then_comes (reads _ _ _ _ _ _ refl) (then_comes (takes_con x (cons_not_open m h) (λ c. more_cons (acc ++ c ∷ []) k))
    (then_comes (takes_more_cons m h (acc ++ c ∷ []) k) (stays _ _ u (ap (λ all. more_cons all k) (append_assoc acc (c ∷ []) cs)))))

takes_result : {ts r : List Placed} {t : Option TypeTree} → ResultType ts t r → next_is symbol.Colon r ≡ false → (k : Option TypeTree → State) → Comes (in_result k) ts (k t) r
takes_result (grammar.no_result {r = r}) h k = no_symbol symbol.Colon r _ _ _ refl h (λ x v. refl)
takes_result (grammar.some_result x) h k = then_comes (reads _ _ _ _ _ _ refl) (takes_type x _)

not_of : (v : Bool) → IsTrue (not v) → v ≡ false
not_of true h = cc
not_of false h = refl

same_tail : (p q : Placed) (a b xs : List Placed) → p ∷ a ≡ q ∷ xs → (a ≡ xs → b ≡ xs) → p ∷ b ≡ q ∷ xs
same_tail p q a b xs h f = let e : b ≡ xs = f (cc h) in cc

-- an expression that begins with a name isn't taken for a named invariant
begins_claim : (ts : List Placed) → IsTrue (unnamed ts) → (s : Span) (k : DeclTree → State) (u : List Placed) (t : State) → Comes (want_claim s None k) ts t u → Comes (in_invariant s k) ts t u
begins_claim [] h s k u t c = record { runs = c.runs; placed = λ h. refl }
begins_claim (on (name n) v d ∷ ts) h s k u t c =
    let named : State = if_symbol symbol.Colon 0 (λ c. want_claim s (Some (ident n v)) k) (in_claim s (ident n v) k) in
    let b : Comes named ts (in_claim s (ident n v) k) ts = no_symbol symbol.Colon ts named (in_claim s (ident n v) k) _ refl (not_of (next_is symbol.Colon ts) h) (λ x v. refl) in
    record {
      runs = b.runs ∙ c.runs;
      placed = λ h. same_tail (on (name n) v 0) (on (name n) v d) (place (in_claim s (ident n v) k) (plains ts)) (place named (plains ts)) ts (c.placed h) b.placed;
    }
begins_claim (on _ v d ∷ ts) h s k u t c = then_comes (same_step _ _ _ _ _ _ refl) c

takes_decl : {ts r : List Placed} {x : DeclTree} → Decl ts x r → (acc : List DeclTree) → Comes (in_decls acc) ts (in_decls (acc ++ x ∷ [])) r
takes_decl grammar.id_type acc = then_comes (reads _ _ _ _ _ _ refl) (then_comes (reads _ _ _ _ _ _ refl) (reads _ _ _ _ _ _ refl))
takes_decl grammar.opaque acc = then_comes (reads _ _ _ _ _ _ refl) (then_comes (reads _ _ _ _ _ _ refl) (reads _ _ _ _ _ _ refl))
takes_decl (grammar.datatype {n = n} {s = s} {v = v} {x = c} x m) acc =
    let close : List ConTree → State = λ cs. want_symbol symbol.Semicolon refl 0 (λ z. in_decls (acc ++ DeclTree.node (join s z) (DeclForm.datatype (ident n v) cs) ∷ [])) in
    then_comes (reads _ _ _ _ _ _ refl) (then_comes (reads _ _ _ _ _ _ refl) (then_comes (reads _ _ _ _ _ _ refl)
    (then_comes (takes_con x (cons_not_open m refl) (λ c. more_cons (c ∷ []) close)) (then_comes (takes_more_cons m refl (c ∷ []) close) (reads _ _ _ _ _ _ refl)))))
takes_decl (grammar.crdt x) acc =
    then_comes (reads _ _ _ _ _ _ refl) (then_comes (reads _ _ _ _ _ _ refl) (then_comes (reads _ _ _ _ _ _ refl) (then_comes (takes_crdt x _) (reads _ _ _ _ _ _ refl))))
takes_decl (grammar.query {n = n} {s = s} {v = v} {ps = ps} {t = t} x y e) acc =
    let value : List ParamTree → TypeTree → State = λ ps t. want_sentence 0 (λ e z. in_decls (acc ++ DeclTree.node (join s z) (DeclForm.query (QueryTree.query (ident n v) ps t e)) ∷ [])) in
    then_comes (reads _ _ _ _ _ _ refl) (then_comes (reads _ _ _ _ _ _ refl)
    (then_comes (takes_param_list x (λ ps. want_symbol symbol.Colon refl 0 (λ c. want_type 0 (λ t. want_symbol symbol.Assign refl 0 (λ q. value ps t)))))
    (then_comes (reads _ _ _ _ _ _ refl) (then_comes (takes_type y _) (then_comes (reads _ _ _ _ _ _ refl)
    (takes_sentence e (λ e z. in_decls (acc ++ DeclTree.node (join s z) (DeclForm.query (QueryTree.query (ident n v) ps t e)) ∷ []))))))))
takes_decl (grammar.invariant {s = s} {ts = ts} {r = r} e) acc =
    then_comes (reads _ _ _ _ _ _ refl) (begins_claim ts (unnamed_expr e (record { not_colon = refl; not_assign = refl })) s (λ x. in_decls (acc ++ x ∷ [])) r _
    (takes_sentence e (λ e z. in_decls (acc ++ DeclTree.node (join s z) (DeclForm.invariant None e) ∷ []))))
takes_decl (grammar.named_invariant {n = n} {s = s} {v = v} e) acc =
    then_comes (reads _ _ _ _ _ _ refl) (then_comes (reads _ _ _ _ _ _ refl) (then_comes (reads _ _ _ _ _ _ refl)
    (takes_sentence e (λ e z. in_decls (acc ++ DeclTree.node (join s z) (DeclForm.invariant (Some (ident n v)) e) ∷ [])))))
takes_decl (grammar.proc {n = n} {s = s} {v = v} {ps = ps} {t = t} x y b) acc =
    let body : List ParamTree → Option TypeTree → State = λ ps t. want_block 0 (λ b. in_decls (acc ++ DeclTree.node (join s (block_span b)) (DeclForm.proc (ProcTree.proc (ident n v) ps t b)) ∷ [])) in
    then_comes (reads _ _ _ _ _ _ refl) (then_comes (reads _ _ _ _ _ _ refl) (then_comes (takes_param_list x (λ ps. in_result (body ps)))
    (then_comes (takes_result y (block_not_colon b) (body ps))
    (takes_block b (λ b. in_decls (acc ++ DeclTree.node (join s (block_span b)) (DeclForm.proc (ProcTree.proc (ident n v) ps t b)) ∷ []))))))

takes_program : {ts : List Placed} {xs : List DeclTree} → Program ts xs → (acc : List DeclTree) → Comes (in_decls acc) ts (finished (acc ++ xs)) []
takes_program grammar.end_ acc = then_comes (reads _ _ _ _ _ _ refl) (stays _ _ [] (ap finished (sym (append-nil acc))))
takes_program (grammar.more_decls {x = x} {xs = xs} y m) acc =
    then_comes (takes_decl y acc) (then_comes (takes_program m (acc ++ x ∷ [])) (stays _ _ [] (ap finished (append_assoc acc (x ∷ []) xs))))

-- the machine takes each program, and finds its nestings
pub accepts : (ms : List Placed) (xs : List DeclTree) → Program ms xs → (run (in_decls []) (plains ms) ≡ done xs) × (place (in_decls []) (plains ms) ≡ ms)
accepts ms xs p = let c = takes_program p [] in (c.runs, c.placed refl)
