-- The machine on types, parameters and replicated types.
use Rattle.std.specs.Prelude.{ℕ, suc, List, [], ◌∷◌, refl, Option, Some, None}
use Rattle.rp_span.specs.declared.Span.{Span}
use Rattle.rp_grammar.specs.declared.terminal.Word.{Word}
use Rattle.rp_grammar.specs.declared.terminal.Word.TheVariants as word
use Rattle.rp_grammar.specs.declared.terminal.Symbol.{Symbol}
use Rattle.rp_grammar.specs.declared.terminal.Symbol.TheVariants as symbol
use Rattle.rp_grammar.specs.Terminals.{Terminal, name, word, symbol}
use Rattle.rp_grammar.specs.Trees.{TypeTree, TypeForm, ParamTree, CrdtTree, CrdtForm, FieldTree, fields}
use Rattle.rp_grammar.specs.Parts.{join}
use Rattle.rp_tokens.specs.MachineStates.{State, want_symbol, want_name, if_symbol, want_type, more_params, want_crdt, more_fields, Move, to}

-- NAME ":" type
abbrev pub want_param : ℕ → (ParamTree → State) → State
want_param d k = want_name d (λ n. want_symbol symbol.Colon refl d (λ c. want_type d (λ t. k (ParamTree.param n t))))

-- NAME ":" type {"," NAME ":" type}
abbrev pub want_params : ℕ → (List ParamTree → State) → State
want_params d k = want_param d (λ p. more_params d (p ∷ []) k)

-- [params] ")" behind "("
abbrev pub in_param_list : ℕ → (List ParamTree → State) → State
in_param_list d k = if_symbol symbol.CloseParen d (λ c. k []) (want_params (suc d) (λ ps. want_symbol symbol.CloseParen refl d (λ c. k ps)))

-- "(" [params] ")"
abbrev pub want_param_list : ℕ → (List ParamTree → State) → State
want_param_list d k = want_symbol symbol.OpenParen refl d (λ o. in_param_list d k)

-- "[" type "]" behind the word that starts at s
abbrev pub want_element : ℕ → Span → (TypeTree → Span → State) → State
want_element d s k =
    want_symbol symbol.OpenBracket refl d (λ o. want_type (suc d) (λ t.
    want_symbol symbol.CloseBracket refl d (λ c. k t (join s c))))

abbrev pub type_word : ℕ → (TypeTree → State) → Word → Span → Option Move
type_word d k word.Bool s = Some (to d (k (TypeTree.node s TypeForm.bool)))
type_word d k word.Int s = Some (to d (k (TypeTree.node s TypeForm.int)))
type_word d k word.String s = Some (to d (k (TypeTree.node s TypeForm.text)))
type_word d k word.Maybe s = Some (to d (want_element d s (λ t e. k (TypeTree.node e (TypeForm.maybe t)))))
type_word d k word.Call s = Some (to d (k (TypeTree.node s TypeForm.call)))
type_word d k word.Invocation s = Some (to d (k (TypeTree.node s TypeForm.invocation)))
type_word d k _ s = None

-- the first token of a type
abbrev pub type_step : ℕ → (TypeTree → State) → Terminal → Span → Option Move
type_step d k (name n) s = Some (to d (k (TypeTree.node s (TypeForm.named n))))
type_step d k (word w) s = type_word d k w s
type_step d k _ s = None

-- NAME ":" crdt
abbrev pub want_field : ℕ → (FieldTree → State) → State
want_field d k = want_name d (λ n. want_symbol symbol.Colon refl d (λ c. want_crdt d (λ t. k (FieldTree.field n t))))

-- "[" type "," crdt "]" behind the word that starts at s
abbrev pub want_entry : ℕ → Span → (TypeTree → CrdtTree → Span → State) → State
want_entry d s k =
    want_symbol symbol.OpenBracket refl d (λ o. want_type (suc d) (λ t.
    want_symbol symbol.Comma refl (suc d) (λ m. want_crdt (suc d) (λ v.
    want_symbol symbol.CloseBracket refl d (λ c. k t v (join s c))))))

abbrev pub crdt_word : ℕ → (CrdtTree → State) → Word → Span → Option Move
crdt_word d k word.SetAw s = Some (to d (want_element d s (λ t e. k (CrdtTree.node e (CrdtForm.set_aw t)))))
crdt_word d k word.SetRw s = Some (to d (want_element d s (λ t e. k (CrdtTree.node e (CrdtForm.set_rw t)))))
crdt_word d k word.Reg s = Some (to d (want_element d s (λ t e. k (CrdtTree.node e (CrdtForm.reg t)))))
crdt_word d k word.MvReg s = Some (to d (want_element d s (λ t e. k (CrdtTree.node e (CrdtForm.mv_reg t)))))
crdt_word d k word.Counter s = Some (to d (k (CrdtTree.node s CrdtForm.counter)))
crdt_word d k word.MapUw s = Some (to d (want_entry d s (λ t v e. k (CrdtTree.node e (CrdtForm.map_uw t v)))))
crdt_word d k word.MapDw s = Some (to d (want_entry d s (λ t v e. k (CrdtTree.node e (CrdtForm.map_dw t v)))))
crdt_word d k _ s = None

-- NAME ":" crdt {"," NAME ":" crdt} "}" behind the brace at o
abbrev pub want_struct : ℕ → Span → (CrdtTree → State) → State
want_struct d o k = want_field (suc d) (λ x. more_fields (suc d) (x ∷ []) (λ xs. want_symbol symbol.CloseBrace refl d (λ c. k (CrdtTree.node (join o c) (CrdtForm.struct (fields xs))))))

abbrev pub crdt_symbol : ℕ → (CrdtTree → State) → Symbol → Span → Option Move
crdt_symbol d k symbol.OpenBrace s = Some (to d (want_struct d s k))
crdt_symbol d k _ s = None

-- the first token of a replicated type
abbrev pub crdt_step : ℕ → (CrdtTree → State) → Terminal → Span → Option Move
crdt_step d k (word w) s = crdt_word d k w s
crdt_step d k (symbol m) s = crdt_symbol d k m s
crdt_step d k _ s = None
