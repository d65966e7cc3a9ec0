-- A phrase's extent covers its tokens.
use Rattle.std.proofs.Common.{◌≡◌, ℕ, List, [], ◌∷◌, ◌++◌, ◌⊎◌, inl, inr, refl, sym, ap, ◌∙◌, append_assoc, Option}
use Rattle.rp_span.specs.declared.Span.{Span}
use Rattle.rp_grammar.specs.Terminals.{Terminal, Placed, on}
use Rattle.rp_grammar.specs.Trees.{Ident, TypeTree, ParamTree, CrdtTree, FieldTree, PatternTree, ExprTree, ExprArmTree, AccessTree, StepTree, BlockTree, StmtTree, BlockArmTree, ConTree, DeclTree}
use Rattle.rp_grammar.specs.Parts.{join, Part, tree_of, extent_of, reach}
use Rattle.rp_grammar.specs.Types.{TypePhrase, Param, MoreParams, Params, ParamList, Crdt, Field, MoreFields}
use Rattle.rp_grammar.specs.Types as types
use Rattle.rp_grammar.specs.Exprs.{MoreNames, Pattern, Quantifier, Expr, ImpliesMore, Orx, OrMore, Andx, AndMore, Notx, Quant, Bound, Cmp, CmpMore, Sum, SumMore, Prim, Exprs, MoreExprs, ExprArm, MoreExprArms, Access, Steps, Step, AccessArgs}
use Rattle.rp_grammar.specs.Exprs as exprs
use Rattle.rp_grammar.specs.Stmts.{Block, Stmts, Stmt, IfStmt, Else, BlockArms, stmt_span, block_span}
use Rattle.rp_grammar.specs.Stmts as stmts
use Rattle.rp_grammar.specs.Decls.{Con, MoreCons, ResultType, Decl}
use Rattle.rp_grammar.specs.Decls as decls
use Rattle.rp_grammar.specs.Extents.{type_span, crdt_span, expr_span, decl_span, span_at, last_at, Covers, InParens}

-- r is an end of ts
abbrev Reaches : List Placed → List Placed → Type 0
Reaches ts r = (ms : List Placed) × (ts ≡ ms ++ r)

here : {r : List Placed} → Reaches r r
here = ([], refl)

past : {m : Placed} {ts r : List Placed} → Reaches ts r → Reaches (m ∷ ts) r
past {m = m} (ms, h) = (m ∷ ms, ap (λ ts. m ∷ ts) h)

on_to : {ts us r : List Placed} → Reaches ts us → Reaches us r → Reaches ts r
on_to {r = r} (ms, h) (ns, g) = (ms ++ ns, h ∙ ap (λ us. ms ++ us) g ∙ sym (append_assoc ms ns r))

-- and the token behind
over : {m : Placed} {ts r : List Placed} → Reaches ts (m ∷ r) → Reaches ts r
over a = on_to a (past here)

covered : {ts r : List Placed} {s : Span} → Covers ts r s → Reaches ts r
covered (m, ms, h, e) = (m ∷ ms, h)

-- the last of a list is that of its end
last_append : (m : Placed) (ms : List Placed) (n : Placed) (ns : List Placed) → last_at m (ms ++ n ∷ ns) ≡ last_at n ns
last_append m [] n ns = refl
last_append m (x ∷ ms) n ns = last_append x ms n ns

single : {k : Terminal} {s : Span} {d : ℕ} {r : List Placed} → Covers (on k s d ∷ r) r s
single = (_, [], refl, refl)

-- a phrase that ends with a token
closed : {j k : Terminal} {s t : Span} {c d : ℕ} {ts r : List Placed} → Reaches ts (on k t d ∷ r) → Covers (on j s c ∷ ts) r (join s t)
closed {j} {k} {s} {t} {c} {d} {ts} {r} (ms, h) = (
  on j s c,
  ms ++ on k t d ∷ [],
  ap (λ ts. on j s c ∷ ts) (h ∙ sym (append_assoc ms (on k t d ∷ []) r)),
  ap (join s) (sym (last_append (on j s c) ms (on k t d) [])),
)

-- a phrase that ends with another
ended : {k : Terminal} {s : Span} {d : ℕ} {ts us r : List Placed} {x : Span} → Reaches ts us → Covers us r x → Covers (on k s d ∷ ts) r (join s x)
ended {k} {s} {d} {ts} {us} {r} {x} (ls, g) (m, ms, h, e) = (
  on k s d,
  ls ++ m ∷ ms,
  ap (λ ts. on k s d ∷ ts) (g ∙ ap (λ us. ls ++ us) h ∙ sym (append_assoc ls (m ∷ ms) r)),
  ap (join s) e ∙ ap (join s) (sym (last_append (on k s d) ls m ms)),
)

-- a phrase that begins with one and ends with another
glued : {ts us vs r : List Placed} {x y : Span} → Covers ts us x → Reaches us vs → Covers vs r y → Covers ts r (join x y)
glued {ts} {us} {vs} {r} {x} {y} (m, ms, h, e) (ls, g) (n, ns, i, f) = (
  m,
  ms ++ (ls ++ n ∷ ns),
  h ∙ ap (λ us. m ∷ ms ++ us) (g ∙ ap (λ vs. ls ++ vs) i ∙ sym (append_assoc ls (n ∷ ns) r)) ∙ ap (λ l. m ∷ l) (sym (append_assoc ms (ls ++ n ∷ ns) r)),
  ap (λ x. join x y) e ∙ ap (join (span_at m)) f ∙ ap (join (span_at m)) (sym (ap (last_at m) (sym (append_assoc ms ls (n ∷ ns))) ∙ last_append m (ms ++ ls) n ns)),
)

-- a phrase that begins with one and ends with a token
behind : {k : Terminal} {s : Span} {d : ℕ} {ts us r : List Placed} {x : Span} → Covers ts us x → Reaches us (on k s d ∷ r) → Covers ts r (join x s)
behind c a = glued c a single

pub covers_type : {d : ℕ} {ts r : List Placed} {t : TypeTree} → TypePhrase d ts t r → Covers ts r (type_span t)
covers_type types.named = single
covers_type types.bool = single
covers_type types.int = single
covers_type types.text = single
covers_type (types.maybe t) = closed (past (covered (covers_type t)))
covers_type types.call = single
covers_type types.invocation = single

reaches_param : {d : ℕ} {ts r : List Placed} {p : ParamTree} → Param d ts p r → Reaches ts r
reaches_param (types.param t) = past (past (covered (covers_type t)))

reaches_more_params : {d : ℕ} {ts r : List Placed} {ps : List ParamTree} → MoreParams d ts ps r → Reaches ts r
reaches_more_params types.no_param = here
reaches_more_params (types.more_params p m) = past (on_to (reaches_param p) (reaches_more_params m))

reaches_params : {d : ℕ} {ts r : List Placed} {ps : List ParamTree} → Params d ts ps r → Reaches ts r
reaches_params (types.params p m) = on_to (reaches_param p) (reaches_more_params m)

reaches_param_list : {d : ℕ} {ts r : List Placed} {ps : List ParamTree} → ParamList d ts ps r → Reaches ts r
reaches_param_list types.no_params = past (past here)
reaches_param_list (types.some_params p) = past (over (reaches_params p))

mutual
  pub covers_crdt : {d : ℕ} {ts r : List Placed} {t : CrdtTree} → Crdt d ts t r → Covers ts r (crdt_span t)
  covers_crdt (types.set_aw t) = closed (past (covered (covers_type t)))
  covers_crdt (types.set_rw t) = closed (past (covered (covers_type t)))
  covers_crdt (types.reg t) = closed (past (covered (covers_type t)))
  covers_crdt (types.mv_reg t) = closed (past (covered (covers_type t)))
  covers_crdt types.counter = single
  covers_crdt (types.map_uw k v) = closed (past (on_to (over (covered (covers_type k))) (covered (covers_crdt v))))
  covers_crdt (types.map_dw k v) = closed (past (on_to (over (covered (covers_type k))) (covered (covers_crdt v))))
  covers_crdt (types.struct f m) = closed (on_to (reaches_field f) (reaches_more_fields m))

  reaches_field : {d : ℕ} {ts r : List Placed} {x : FieldTree} → Field d ts x r → Reaches ts r
  reaches_field (types.field t) = past (past (covered (covers_crdt t)))

  reaches_more_fields : {d : ℕ} {ts r : List Placed} {xs : List FieldTree} → MoreFields d ts xs r → Reaches ts r
  reaches_more_fields types.no_field = here
  reaches_more_fields (types.more_fields f m) = past (on_to (reaches_field f) (reaches_more_fields m))

reaches_more_names : {d : ℕ} {ts r : List Placed} {ns : List Ident} → MoreNames d ts ns r → Reaches ts r
reaches_more_names exprs.no_name = here
reaches_more_names (exprs.more_names m) = past (past (reaches_more_names m))

reaches_pattern : {d : ℕ} {ts r : List Placed} {p : PatternTree} → Pattern d ts p r → Reaches ts r
reaches_pattern (exprs.bare c) = past here
reaches_pattern (exprs.binding c m) = past (past (past (over (reaches_more_names m))))

mutual
  pub covers_expr : {d : ℕ} {ts r : List Placed} {e : Part ExprTree} → Expr d ts e r → Covers ts r (extent_of e)
  covers_expr (exprs.expr a m) = covers_implies m (covers_or a)

  covers_implies : {d : ℕ} {ts r u : List Placed} {a e : Part ExprTree} → ImpliesMore d a r e u → Covers ts r (extent_of a) → Covers ts u (extent_of e)
  covers_implies exprs.no_right c = c
  covers_implies (exprs.right b) c = glued c (past here) (covers_expr b)

  covers_or : {d : ℕ} {ts r : List Placed} {e : Part ExprTree} → Orx d ts e r → Covers ts r (extent_of e)
  covers_or (exprs.or a m) = covers_or_more m (covers_and a)

  covers_or_more : {d : ℕ} {ts r u : List Placed} {es : List (Part ExprTree)} {x : Span} → OrMore d r es u → Covers ts r x → Covers ts u (reach x es)
  covers_or_more exprs.no_or c = c
  covers_or_more (exprs.or_more a m) c = covers_or_more m (glued c (past here) (covers_and a))

  covers_and : {d : ℕ} {ts r : List Placed} {e : Part ExprTree} → Andx d ts e r → Covers ts r (extent_of e)
  covers_and (exprs.and a m) = covers_and_more m (covers_not a)

  covers_and_more : {d : ℕ} {ts r u : List Placed} {es : List (Part ExprTree)} {x : Span} → AndMore d r es u → Covers ts r x → Covers ts u (reach x es)
  covers_and_more exprs.no_and c = c
  covers_and_more (exprs.and_more a m) c = covers_and_more m (glued c (past here) (covers_not a))

  covers_not : {d : ℕ} {ts r : List Placed} {e : Part ExprTree} → Notx d ts e r → Covers ts r (extent_of e)
  covers_not (exprs.negated e) = ended here (covers_not e)
  covers_not (exprs.quantifier q) = covers_quant q
  covers_not (exprs.comparison c) = covers_cmp c

  covers_quant : {d : ℕ} {ts r : List Placed} {e : Part ExprTree} → Quant d ts e r → Covers ts r (extent_of e)
  covers_quant (exprs.for_all b h) = covers_bound b (past here)
  covers_quant (exprs.for_some b h) = covers_bound b (past here)

  covers_bound : {q : Quantifier} {d c : ℕ} {k : Terminal} {s : Span} {n : Ident} {us ts r : List Placed} {e : Part ExprTree}
      → Bound q d s n ts e r → Reaches us ts → Covers (on k s c ∷ us) r (extent_of e)
  covers_bound (exprs.last_variable t e) a = ended (on_to a (past (over (covered (covers_type t))))) (covers_expr e)
  covers_bound (exprs.next_variable t b) a = ended (on_to a (past (over (covered (covers_type t))))) (covers_bound b here)

  covers_cmp : {d : ℕ} {ts r : List Placed} {e : Part ExprTree} → Cmp d ts e r → Covers ts r (extent_of e)
  covers_cmp (exprs.cmp a m) = covers_cmp_more m (covers_sum a)

  covers_cmp_more : {d : ℕ} {ts r u : List Placed} {a e : Part ExprTree} → CmpMore d a r e u → Covers ts r (extent_of a) → Covers ts u (extent_of e)
  covers_cmp_more exprs.no_cmp c = c
  covers_cmp_more (exprs.compared k b) c = glued c (past here) (covers_sum b)

  covers_sum : {d : ℕ} {ts r : List Placed} {e : Part ExprTree} → Sum d ts e r → Covers ts r (extent_of e)
  covers_sum (exprs.sum a m) = covers_sum_more m (covers_prim a)

  covers_sum_more : {d : ℕ} {ts r u : List Placed} {a e : Part ExprTree} → SumMore d a r e u → Covers ts r (extent_of a) → Covers ts u (extent_of e)
  covers_sum_more exprs.no_sum c = c
  covers_sum_more (exprs.plus b m) c = covers_sum_more m (glued c (past here) (covers_prim b))
  covers_sum_more (exprs.minus b m) c = covers_sum_more m (glued c (past here) (covers_prim b))

  covers_prim : {d : ℕ} {ts r : List Placed} {e : Part ExprTree} → Prim d ts e r → Covers ts r (extent_of e)
  covers_prim exprs.number = single
  covers_prim exprs.negative = closed here
  covers_prim exprs.text = single
  covers_prim exprs.true_ = single
  covers_prim exprs.false_ = single
  covers_prim exprs.none_ = single
  covers_prim (exprs.some_ e) = closed (past (covered (covers_expr e)))
  covers_prim exprs.unreturned = single
  covers_prim exprs.tx = single
  covers_prim (exprs.call k es) = closed (past (reaches_exprs es))
  covers_prim (exprs.match e a m) = closed (past (on_to (over (over (covered (covers_expr e)))) (on_to (reaches_arm a) (reaches_more_arms m))))
  covers_prim (exprs.access a) = covers_access a
  covers_prim (exprs.parens e) = closed (covered (covers_expr e))

  reaches_exprs : {d : ℕ} {ts r : List Placed} {es : List ExprTree} → Exprs d ts es r → Reaches ts r
  reaches_exprs (exprs.some_exprs e m) = on_to (covered (covers_expr e)) (reaches_more_exprs m)

  reaches_more_exprs : {d : ℕ} {ts r : List Placed} {es : List ExprTree} → MoreExprs d ts es r → Reaches ts r
  reaches_more_exprs exprs.no_expr = here
  reaches_more_exprs (exprs.more_exprs e m) = past (on_to (covered (covers_expr e)) (reaches_more_exprs m))

  reaches_arm : {d : ℕ} {ts r : List Placed} {a : ExprArmTree} → ExprArm d ts a r → Reaches ts r
  reaches_arm (exprs.arm p e) = on_to (over (reaches_pattern p)) (covered (covers_expr e))

  reaches_more_arms : {d : ℕ} {ts r : List Placed} {as_ : List ExprArmTree} → MoreExprArms d ts as_ r → Reaches ts r
  reaches_more_arms exprs.no_arm = here
  reaches_more_arms (exprs.more_arms a m) = past (on_to (reaches_arm a) (reaches_more_arms m))

  pub covers_access : {d : ℕ} {ts r : List Placed} {a : Part AccessTree} → Access d ts a r → Covers ts r (extent_of a)
  covers_access (exprs.rooted x a) = covers_args a (covers_steps x single)

  covers_steps : {d : ℕ} {ts r u : List Placed} {xs : List (Part StepTree)} {x : Span} → Steps d r xs u → Covers ts r x → Covers ts u (reach x xs)
  covers_steps exprs.no_step c = c
  covers_steps (exprs.more_steps x m) c = covers_steps m (glued c here (covers_step x))

  covers_step : {d : ℕ} {ts r : List Placed} {x : Part StepTree} → Step d ts x r → Covers ts r (extent_of x)
  covers_step exprs.dot = closed here
  covers_step exprs.returned = closed here
  covers_step (exprs.key e) = closed (covered (covers_expr e))

  covers_args : {d : ℕ} {n : Ident} {xs : List StepTree} {s : Span} {ts r u : List Placed} {a : Part AccessTree} → AccessArgs d n xs s r a u → Covers ts r s → Covers ts u (extent_of a)
  covers_args exprs.not_called c = c
  covers_args exprs.no_args c = behind c (past here)
  covers_args (exprs.some_args es) c = behind c (past (reaches_exprs es))

mutual
  pub covers_block : {d : ℕ} {ts r : List Placed} {b : BlockTree} → Block d ts b r → Covers ts r (block_span b)
  covers_block (stmts.block xs) = closed (reaches_stmts xs)

  reaches_stmts : {d : ℕ} {ts r : List Placed} {xs : List StmtTree} → Stmts d ts xs r → Reaches ts r
  reaches_stmts stmts.no_stmt = here
  reaches_stmts (stmts.more_stmts x m) = on_to (covered (covers_stmt x)) (reaches_stmts m)

  pub covers_stmt : {d : ℕ} {ts r : List Placed} {x : StmtTree} → Stmt d ts x r → Covers ts r (stmt_span x)
  covers_stmt (stmts.var t) = closed (past (past (covered (covers_type t))))
  covers_stmt (stmts.var_set t e) = closed (past (past (on_to (over (covered (covers_type t))) (covered (covers_expr e)))))
  covers_stmt stmts.new = closed (past (past (past here)))
  covers_stmt (stmts.assign e) = closed (past (covered (covers_expr e)))
  covers_stmt (stmts.access a) = behind (covers_access a) here
  covers_stmt (stmts.if_ x) = covers_if x
  covers_stmt (stmts.match e as_) = closed (past (on_to (over (over (covered (covers_expr e)))) (reaches_arms as_)))
  covers_stmt (stmts.atomic b) = ended here (covers_block b)
  covers_stmt (stmts.assert e) = closed (covered (covers_expr e))
  covers_stmt stmts.return = closed here
  covers_stmt (stmts.return_value e) = closed (covered (covers_expr e))

  covers_if : {d : ℕ} {ts r : List Placed} {x : StmtTree} → IfStmt d ts x r → Covers ts r (stmt_span x)
  covers_if (stmts.branch e b m) = covers_else m (ended (past (over (covered (covers_expr e)))) (covers_block b))

  covers_else : {d : ℕ} {s : Span} {e : ExprTree} {b : BlockTree} {ts r u : List Placed} {x : StmtTree} → Else d s e b r x u → Covers ts r (join s (block_span b)) → Covers ts u (stmt_span x)
  covers_else stmts.no_else c = c
  covers_else (stmts.else_block b) c = glued c (past here) (covers_block b)
  covers_else (stmts.else_if x) c = glued c (past here) (covers_if x)

  reaches_arms : {d : ℕ} {ts r : List Placed} {as_ : List BlockArmTree} → BlockArms d ts as_ r → Reaches ts r
  reaches_arms stmts.no_arm = here
  reaches_arms (stmts.more_arms p b m) = on_to (over (reaches_pattern p)) (on_to (covered (covers_block b)) (reaches_arms m))

reaches_con : {ts r : List Placed} {x : ConTree} → Con ts x r → Reaches ts r
reaches_con decls.plain = past here
reaches_con (decls.with_fields p) = past (past (over (reaches_params p)))

reaches_more_cons : {ts r : List Placed} {xs : List ConTree} → MoreCons ts xs r → Reaches ts r
reaches_more_cons decls.no_con = here
reaches_more_cons (decls.more_cons x m) = past (on_to (reaches_con x) (reaches_more_cons m))

reaches_result : {ts r : List Placed} {t : Option TypeTree} → ResultType ts t r → Reaches ts r
reaches_result decls.no_result = here
reaches_result (decls.some_result t) = past (covered (covers_type t))

pub covers_decl : {ts r : List Placed} {x : DeclTree} → Decl ts x r → Covers ts r (decl_span x)
covers_decl decls.id_type = closed (past here)
covers_decl decls.opaque = closed (past here)
covers_decl (decls.datatype x m) = closed (past (past (on_to (reaches_con x) (reaches_more_cons m))))
covers_decl (decls.crdt t) = closed (past (past (covered (covers_crdt t))))
covers_decl (decls.query p t e) = closed (past (on_to (over (reaches_param_list p)) (on_to (over (covered (covers_type t))) (covered (covers_expr e)))))
covers_decl (decls.invariant e) = closed (covered (covers_expr e))
covers_decl (decls.named_invariant e) = closed (past (past (covered (covers_expr e))))
covers_decl (decls.proc p t b) = ended (past (on_to (reaches_param_list p) (reaches_result t))) (covers_block b)

own_prim : {d : ℕ} {ts r : List Placed} {e : Part ExprTree} → Prim d ts e r → (expr_span (tree_of e) ≡ extent_of e) ⊎ InParens d ts r e
own_prim exprs.number = inl refl
own_prim exprs.negative = inl refl
own_prim exprs.text = inl refl
own_prim exprs.true_ = inl refl
own_prim exprs.false_ = inl refl
own_prim exprs.none_ = inl refl
own_prim (exprs.some_ e) = inl refl
own_prim exprs.unreturned = inl refl
own_prim exprs.tx = inl refl
own_prim (exprs.call k es) = inl refl
own_prim (exprs.match e a m) = inl refl
own_prim (exprs.access a) = inl refl
own_prim (exprs.parens e) = inr (_, _, _, _, refl, e, refl)

abbrev Own : ℕ → List Placed → List Placed → Part ExprTree → Type 0
Own d ts r e = (expr_span (tree_of e) ≡ extent_of e) ⊎ InParens d ts r e

-- a sum so far that is a node of its own
own_more : {d : ℕ} {r u : List Placed} {a e : Part ExprTree} → SumMore d a r e u → expr_span (tree_of a) ≡ extent_of a → expr_span (tree_of e) ≡ extent_of e
own_more exprs.no_sum h = h
own_more (exprs.plus b m) h = own_more m refl
own_more (exprs.minus b m) h = own_more m refl

own_sum : {d : ℕ} {ts r : List Placed} {e : Part ExprTree} → Sum d ts e r → Own d ts r e
own_sum (exprs.sum a exprs.no_sum) = own_prim a
own_sum (exprs.sum a (exprs.plus b m)) = inl (own_more m refl)
own_sum (exprs.sum a (exprs.minus b m)) = inl (own_more m refl)

own_cmp : {d : ℕ} {ts r : List Placed} {e : Part ExprTree} → Cmp d ts e r → Own d ts r e
own_cmp (exprs.cmp a exprs.no_cmp) = own_sum a
own_cmp (exprs.cmp a (exprs.compared k b)) = inl refl

own_bound : {q : Quantifier} {d : ℕ} {s : Span} {n : Ident} {ts r : List Placed} {e : Part ExprTree} → Bound q d s n ts e r → expr_span (tree_of e) ≡ extent_of e
own_bound (exprs.last_variable t e) = refl
own_bound (exprs.next_variable t b) = refl

own_not : {d : ℕ} {ts r : List Placed} {e : Part ExprTree} → Notx d ts e r → Own d ts r e
own_not (exprs.negated e) = inl refl
own_not (exprs.quantifier (exprs.for_all b h)) = inl (own_bound b)
own_not (exprs.quantifier (exprs.for_some b h)) = inl (own_bound b)
own_not (exprs.comparison c) = own_cmp c

pub own_expr : {d : ℕ} {ts r : List Placed} {e : Part ExprTree} → Expr d ts e r → (expr_span (tree_of e) ≡ extent_of e) ⊎ InParens d ts r e
own_expr (exprs.expr a (exprs.right b)) = inl refl
own_expr (exprs.expr (exprs.or a (exprs.or_more b m)) exprs.no_right) = inl refl
own_expr (exprs.expr (exprs.or (exprs.and a (exprs.and_more b m)) exprs.no_or) exprs.no_right) = inl refl
own_expr (exprs.expr (exprs.or (exprs.and a exprs.no_and) exprs.no_or) exprs.no_right) = own_not a
