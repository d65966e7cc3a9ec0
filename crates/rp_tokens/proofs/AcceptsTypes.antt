-- The machine takes every type, list of parameters and replicated type of the grammar.
use Rattle.std.proofs.Common.{ℕ, suc, List, [], ◌∷◌, ◌++◌, refl, sym, ap, append_assoc, append-nil}
use Rattle.rp_grammar.specs.declared.terminal.Symbol.TheVariants as symbol
use Rattle.rp_grammar.specs.Terminals.{Placed}
use Rattle.rp_grammar.specs.Trees.{TypeTree, ParamTree, CrdtTree, CrdtForm, FieldTree, fields}
use Rattle.rp_grammar.specs.Parts.{join}
use Rattle.rp_grammar.specs.Types.{TypePhrase, Param, MoreParams, Params, ParamList, Crdt, Field, MoreFields}
use Rattle.rp_grammar.specs.Types as types
use Rattle.rp_tokens.specs.MachineStates.{State, want_symbol, want_type, more_params, want_crdt, more_fields}
use Rattle.rp_tokens.specs.MachineTypes.{want_param, want_params, want_param_list, in_param_list, want_field}
use Rattle.rp_tokens.proofs.Comes.{Comes, then_comes, stays, reads, same_step}

pub takes_type : {d : ℕ} {ts r : List Placed} {t : TypeTree} → TypePhrase d ts t r → (k : TypeTree → State) → Comes (want_type d k) ts (k t) r
takes_type types.named k = reads _ _ _ _ _ _ refl
takes_type types.bool k = reads _ _ _ _ _ _ refl
takes_type types.int k = reads _ _ _ _ _ _ refl
takes_type types.text k = reads _ _ _ _ _ _ refl
takes_type (types.maybe x) k = then_comes (reads _ _ _ _ _ _ refl) (then_comes (reads _ _ _ _ _ _ refl) (then_comes (takes_type x _) (reads _ _ _ _ _ _ refl)))
takes_type types.call k = reads _ _ _ _ _ _ refl
takes_type types.invocation k = reads _ _ _ _ _ _ refl

takes_param : {d : ℕ} {ts r : List Placed} {p : ParamTree} → Param d ts p r → (k : ParamTree → State) → Comes (want_param d k) ts (k p) r
takes_param (types.param x) k = then_comes (reads _ _ _ _ _ _ refl) (then_comes (reads _ _ _ _ _ _ refl) (takes_type x _))

takes_more_params : {d : ℕ} {ts r : List Placed} {ps : List ParamTree} → MoreParams d ts ps r → (acc : List ParamTree) (k : List ParamTree → State) → Comes (more_params d acc k) ts (more_params d (acc ++ ps) k) r
takes_more_params (types.no_param {d = d} {r = r}) acc k = stays _ _ r (ap (λ ps. more_params d ps k) (sym (append-nil acc)))
takes_more_params (types.more_params {d = d} {u = u} {p = p} {ps = ps} x m) acc k =
    then_comes (reads _ _ _ _ _ _ refl) (then_comes (takes_param x (λ q. more_params d (acc ++ q ∷ []) k))
    (then_comes (takes_more_params m (acc ++ p ∷ []) k) (stays _ _ u (ap (λ all. more_params d all k) (append_assoc acc (p ∷ []) ps)))))

-- a list of parameters, up to where more of them may come
pub takes_params : {d : ℕ} {ts r : List Placed} {ps : List ParamTree} → Params d ts ps r → (k : List ParamTree → State) → Comes (want_params d k) ts (more_params d ps k) r
takes_params (types.params {d = d} {p = p} x m) k = then_comes (takes_param x (λ q. more_params d (q ∷ []) k)) (takes_more_params m (p ∷ []) k)

skips_close : {d : ℕ} {ts r : List Placed} {ps : List ParamTree} → Params (suc d) ts ps r → (k : List ParamTree → State) → Comes (in_param_list d k) ts (want_params (suc d) (λ ps. want_symbol symbol.CloseParen refl d (λ c. k ps))) ts
skips_close (types.params (types.param x) m) k = same_step _ _ _ _ _ _ refl

pub takes_param_list : {d : ℕ} {ts r : List Placed} {ps : List ParamTree} → ParamList d ts ps r → (k : List ParamTree → State) → Comes (want_param_list d k) ts (k ps) r
takes_param_list types.no_params k = then_comes (reads _ _ _ _ _ _ refl) (reads _ _ _ _ _ _ refl)
takes_param_list (types.some_params x) k = then_comes (reads _ _ _ _ _ _ refl) (then_comes (skips_close x k) (then_comes (takes_params x _) (reads _ _ _ _ _ _ refl)))

mutual
  pub takes_crdt : {d : ℕ} {ts r : List Placed} {t : CrdtTree} → Crdt d ts t r → (k : CrdtTree → State) → Comes (want_crdt d k) ts (k t) r
  takes_crdt (types.set_aw x) k = then_comes (reads _ _ _ _ _ _ refl) (then_comes (reads _ _ _ _ _ _ refl) (then_comes (takes_type x _) (reads _ _ _ _ _ _ refl)))
  takes_crdt (types.set_rw x) k = then_comes (reads _ _ _ _ _ _ refl) (then_comes (reads _ _ _ _ _ _ refl) (then_comes (takes_type x _) (reads _ _ _ _ _ _ refl)))
  takes_crdt (types.reg x) k = then_comes (reads _ _ _ _ _ _ refl) (then_comes (reads _ _ _ _ _ _ refl) (then_comes (takes_type x _) (reads _ _ _ _ _ _ refl)))
  takes_crdt (types.mv_reg x) k = then_comes (reads _ _ _ _ _ _ refl) (then_comes (reads _ _ _ _ _ _ refl) (then_comes (takes_type x _) (reads _ _ _ _ _ _ refl)))
  takes_crdt types.counter k = reads _ _ _ _ _ _ refl
  takes_crdt (types.map_uw x y) k =
      then_comes (reads _ _ _ _ _ _ refl) (then_comes (reads _ _ _ _ _ _ refl) (then_comes (takes_type x _)
      (then_comes (reads _ _ _ _ _ _ refl) (then_comes (takes_crdt y _) (reads _ _ _ _ _ _ refl)))))
  takes_crdt (types.map_dw x y) k =
      then_comes (reads _ _ _ _ _ _ refl) (then_comes (reads _ _ _ _ _ _ refl) (then_comes (takes_type x _)
      (then_comes (reads _ _ _ _ _ _ refl) (then_comes (takes_crdt y _) (reads _ _ _ _ _ _ refl)))))
  takes_crdt (types.struct {d = d} {o = o} {x = x} f m) k =
      let close : List FieldTree → State = λ xs. want_symbol symbol.CloseBrace refl d (λ c. k (CrdtTree.node (join o c) (CrdtForm.struct (fields xs)))) in
      then_comes (reads _ _ _ _ _ _ refl) (then_comes (takes_field f (λ y. more_fields (suc d) (y ∷ []) close)) (then_comes (takes_more_fields m (x ∷ []) close) (reads _ _ _ _ _ _ refl)))

  takes_field : {d : ℕ} {ts r : List Placed} {x : FieldTree} → Field d ts x r → (k : FieldTree → State) → Comes (want_field d k) ts (k x) r
  takes_field (types.field x) k = then_comes (reads _ _ _ _ _ _ refl) (then_comes (reads _ _ _ _ _ _ refl) (takes_crdt x _))

  takes_more_fields : {d : ℕ} {ts r : List Placed} {xs : List FieldTree} → MoreFields d ts xs r → (acc : List FieldTree) (k : List FieldTree → State) → Comes (more_fields d acc k) ts (more_fields d (acc ++ xs) k) r
  takes_more_fields (types.no_field {d = d} {r = r}) acc k = stays _ _ r (ap (λ xs. more_fields d xs k) (sym (append-nil acc)))
  takes_more_fields (types.more_fields {d = d} {u = u} {x = x} {xs = xs} f m) acc k =
      then_comes (reads _ _ _ _ _ _ refl) (then_comes (takes_field f (λ y. more_fields d (acc ++ y ∷ []) k))
      (then_comes (takes_more_fields m (acc ++ x ∷ []) k) (stays _ _ u (ap (λ all. more_fields d all k) (append_assoc acc (x ∷ []) xs)))))
