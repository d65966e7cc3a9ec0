-- The table of a query gives what the query answers.
use Rattle.std.proofs.Common.{◌≡◌, ℕ, zero, suc, ◌<◌, ℤ, pos, ◌+ℤ◌, Bool, true, false, cond, not, ◌&&◌, if◌then◌else◌, List, [], ◌∷◌, length, take, slice_get, Some, None, refl, sym, ap, ap₂, ◌∙◌, subst, true≢false, arith}
use Rattle.std.proofs.lemmas.Bool.{and_parts}
use Rattle.std.proofs.lemmas.Option.{none-some, same_Some}
use Rattle.rp_value.specs.declared.tables.Ty.{Ty}
use Rattle.rp_value.specs.Values.{Val}
use Rattle.rp_lang.specs.Crdts.{Reg, Counter}
use Rattle.rp_lang.specs.declared.op.OpDecl.{OpDecl}
use Rattle.rp_lang.specs.declared.op.OpKind.TheVariants.{Assign}
use Rattle.rp_lang.specs.declared.query.QueryDecl.{QueryDecl}
use Rattle.rp_lang.specs.declared.query.QueryKind.{QueryKind}
use Rattle.rp_lang.specs.declared.query.QueryKind.TheVariants.{Contains, HasKey, GetReg, GetSum}
use Rattle.rp_lang.specs.Paths.{root_crdt, query_fits, is_query}
use Rattle.rp_lang.specs.Typing.{is_get}
use Rattle.rp_lang.specs.Programs.{Prog}
use Rattle.rp_lang.proofs.ProgramFacts.{Facts, nothing}
use Rattle.crdt_defs.specs.declared.asked.Answer.{Answer}
use Rattle.crdt_defs.specs.declared.asked.Answer.TheVariants.{Value}
use Rattle.crdt_defs.specs.declared.asked.Found.TheVariants.{Sum, Nothing}
use Rattle.crdt_defs.specs.Calls.{Call}
use Rattle.crdt_defs.specs.Counting.{sum_below}
use Rattle.crdt_defs.specs.Doing.{is_of, on_root, amount}
use Rattle.crdt_defs.specs.Histories.{call_is}
use Rattle.crdt_defs.specs.Meaning.{among, is_older, latest, counter_sum}
use Rattle.crdt_defs.specs.Queries.{at_call, ask, answer_by}
use Rattle.crdt_defs.specs.Truths.{found_val, answer_val}
use Rattle.crdt_defs.specs.Fitting.{fits, all_fit}
use Rattle.crdt_defs.proofs.NewestLemmas.{first_none}
use Rattle.event_machine.specs.WellFormed.{At}
use Rattle.event_machine.proofs.ProgramFits.{each}
use Rattle.event_machine.proofs.AnswerFits.{QueryEnds, query-leads, counter-is, register-is}
use Rattle.rp_logic.specs.Elements.{Elem, Elems, same_elems}
use Rattle.rp_logic.specs.Structures.{look_up, apply}
use Rattle.rp_logic.proofs.ElementLaws.{sames-are, sames-self}
use Rattle.rp_logic.proofs.SortLaws.{no}
use Rattle.crdt_enc.specs.Elements.{elem_of, elems_of}
use Rattle.crdt_enc.proofs.ValueLaws.{one-value}
use Rattle.crdt_enc.proofs.Starts.{Starts, fit-count}
use Rattle.hist_struct.specs.QueryValues.{answered, found_nowhere, otherwise, val_entries, val_table}
use Rattle.hist_struct.proofs.EndFacts.{root-end}

-- # Look-ups

-- lists of values of the same types with the same elements are equal
one-list : (p : Prog) (types : List Ty) (vs ws : List Val) → all_fit p types vs ≡ true → all_fit p types ws ≡ true → elems_of vs ≡ elems_of ws → vs ≡ ws
one-list p [] [] [] f g e = refl
one-list p [] [] (w ∷ ws) f g e = no g
one-list p [] (v ∷ vs) ws f g e = no f
one-list p (t ∷ types) [] ws f g e = no f
one-list p (t ∷ types) (v ∷ vs) [] f g e = no g
one-list p (t ∷ types) (v ∷ vs) (w ∷ ws) f g e =
    let a = and_parts (fits p t v) (all_fit p types vs) f in
    let b = and_parts (fits p t w) (all_fit p types ws) g in
    let first : elem_of v ≡ elem_of w = cc in
    let rest : elems_of vs ≡ elems_of ws = cc in
    ap₂ (λ x xs. x ∷ xs) (one-value p t v w a.0 b.0 first) (one-list p types vs ws a.1 b.1 rest)

starts-take : (gs vs : List Val) → Starts gs vs → take (length gs) vs ≡ gs
starts-take [] [] h = refl
starts-take [] (v ∷ vs) h = refl
starts-take (g ∷ gs) [] h = elim h [ ]
starts-take (g ∷ gs) (v ∷ vs) h = ap₂ (λ x xs. x ∷ xs) (sym h.0) (starts-take gs vs h.1)

-- no call begins with these
abbrev NoneStarts : List Call → List Val → Type 0
NoneStarts calls args = (c : ℕ) (call : Call) → At calls c call → Starts args call.args → ⊥

none-more : (x : Call) (calls : List Call) (args : List Val) → (Starts args x.args → ⊥) → NoneStarts calls args → NoneStarts (x ∷ calls) args
none-more x calls args apart none zero call a s = apart (subst (λ (y : Call). Starts args y.args) (sym (same_Some x call a)) s)
none-more x calls args apart none (suc c) call a s = none c call a s

at-head : (p : Prog) (f : List Val → Val) (types : List Ty) (other : Elem) (x : Call) (rest : List (Elems × Elem)) (args : List Val) → all_fit p types args ≡ true
    → ((Starts args x.args → ⊥) → look_up rest other (elems_of args) ≡ elem_of (f args))
    → look_up (if all_fit p types (take (length types) x.args) then (elems_of (take (length types) x.args), elem_of (f (take (length types) x.args))) ∷ rest else rest) other (elems_of args) ≡ elem_of (f args)
at-head p f types other x rest args fit later = go (all_fit p types (take (length types) x.args)) refl
  where
    taken : Starts args x.args → take (length types) x.args ≡ args
    taken s = ap (λ n. take n x.args) (sym (fit-count p types args fit)) ∙ starts-take args x.args s

    met : (b : Bool) → same_elems (elems_of (take (length types) x.args)) (elems_of args) ≡ b → all_fit p types (take (length types) x.args) ≡ true
        → cond b (elem_of (f (take (length types) x.args))) (look_up rest other (elems_of args)) ≡ elem_of (f args)
    met true e k = ap (λ vs. elem_of (f vs)) (one-list p types (take (length types) x.args) args k fit (sames-are _ _ e))
    met false e k = later (λ s. true≢false (sym (sames-self (elems_of args)) ∙ (ap (λ vs. same_elems (elems_of vs) (elems_of args)) (sym (taken s)) ∙ e)))

    go : (b : Bool) → all_fit p types (take (length types) x.args) ≡ b
        → look_up (if b then (elems_of (take (length types) x.args), elem_of (f (take (length types) x.args))) ∷ rest else rest) other (elems_of args) ≡ elem_of (f args)
    go true k = met (same_elems (elems_of (take (length types) x.args)) (elems_of args)) refl k
    go false k = later (λ s. true≢false (sym fit ∙ (ap (all_fit p types) (sym (taken s)) ∙ k)))

in-entries : (p : Prog) (f : List Val → Val) (types : List Ty) (other : Elem) (calls : List Call) (args : List Val) → all_fit p types args ≡ true
    → (NoneStarts calls args → other ≡ elem_of (f args)) → look_up (val_entries p f types calls) other (elems_of args) ≡ elem_of (f args)
in-entries p f types other [] args fit none = none (λ c call a s. none-some call a)
in-entries p f types other (x ∷ calls) args fit none =
    at-head p f types other x (val_entries p f types calls) args fit (λ apart. in-entries p f types other calls args fit (λ all. none (none-more x calls args apart all)))

-- # Where no call has the keys

not-true : (b : Bool) → (b ≡ true → ⊥) → b ≡ false
not-true true h = absurd (h refl)
not-true false h = refl

sum-none : (f : ℕ → ℤ) (n : ℕ) → ((k : ℕ) → k < n → f k ≡ pos 0) → sum_below f n ≡ pos 0
sum-none f zero h = refl
sum-none f (suc n) h = ap₂ (λ a b. a +ℤ b) (sum-none f n (λ k l. h k (omega (arith, l)))) (h n (omega arith))

none-counts : (ops : List OpDecl) (h : List Call) (those : ℕ → Bool) → ((c : ℕ) → those c ≡ false) → counter_sum ops h those ≡ pos 0
none-counts ops h those none = sum-none _ (length h) (λ c l. ap (λ b. if b then amount ops (slice_get h c) else pos 0) (none c))

none-latest : (ops : List OpDecl) (h : List Call) (those : ℕ → Bool) → ((c : ℕ) → those c ≡ false) → latest ops h those ≡ None
none-latest ops h those none = first_none _ (length h) (λ c l. ap (λ b. (b && call_is h (is_of ops Assign) c) && not (is_older h (among h those (is_of ops Assign)) c)) (none c))

module _ (p : Prog) (f : Facts p) (h : List Call) (visible : ℕ → Bool) (n : ℕ) (query : QueryDecl) (args : List Val) (at : At p.queries n query) (count : length args ≡ length query.args) (none : NoneStarts h args) where
  ends : QueryEnds p query
  ends = query-leads p query (each (is_query p.types p.cons p.roots) p.queries n query f.queries at)

  -- the query by its kind
  of-kind : (kind : QueryKind) (a : Answer) → query.kind ≡ kind
      → ask p.ops h kind (root_crdt (slice_get p.roots query.root)) query.path 0 (among h visible (on_root p.ops query.root)) args ≡ a → answered p h visible n args ≡ answer_val p h (Some query) a
  of-kind kind a is e =
      ap (λ o. answer_val p h o (answer_by p o h visible args)) at
      ∙ ap (answer_val p h (Some query)) (ap (λ kind. ask p.ops h kind (root_crdt (slice_get p.roots query.root)) query.path 0 (among h visible (on_root p.ops query.root)) args) is ∙ e)

  sum-otherwise : query.kind ≡ GetSum → answered p h visible n args ≡ otherwise p query
  sum-otherwise is =
      let fit = and_parts _ _ (ap (λ k. query_fits p.types p.cons k ends.crdt ends.own query.result) (sym is) ∙ ends.fit) in
      let c = counter-is ends.crdt query.result fit.1 in
      let e = root-end p.ops h GetSum query.root visible (root_crdt (slice_get p.roots query.root)) query.path query.args args Counter
      (ends.leads ∙ ap (λ c. Some c) c.0) (ends.takes ∙ ap (λ ts. Some ts) (nothing ends.own fit.0)) count in
      of-kind GetSum (Value (Sum (pos 0))) is (e.asks ∙ ap (λ m. Value (Sum m)) (none-counts p.ops h e.those (λ c. not-true (e.those c) (λ m. let k = e.have c m in none c k.0 k.1 k.2))))
      ∙ ap (λ k. found_val p [] query.result (found_nowhere k)) (sym is)

  reg-otherwise : query.kind ≡ GetReg → answered p h visible n args ≡ otherwise p query
  reg-otherwise is =
      let fit = and_parts _ _ (ap (λ k. query_fits p.types p.cons k ends.crdt ends.own query.result) (sym is) ∙ ends.fit) in
      let c = register-is p ends.crdt query.result fit.1 in
      let e = root-end p.ops h GetReg query.root visible (root_crdt (slice_get p.roots query.root)) query.path query.args args (Reg c.0)
      (ends.leads ∙ ap (λ c. Some c) c.1) (ends.takes ∙ ap (λ ts. Some ts) (nothing ends.own fit.0)) count in
      of-kind GetReg (Value Nothing) is (e.asks ∙ ap (λ o. Value (at_call o)) (none-latest p.ops h e.those (λ c. not-true (e.those c) (λ m. let k = e.have c m in none c k.0 k.1 k.2))))
      ∙ ap (λ k. found_val p [] query.result (found_nowhere k)) (sym is)

  pub is-otherwise : is_get query.kind ≡ true → answered p h visible n args ≡ otherwise p query
  is-otherwise get = go query.kind refl get
    where
      go : (kind : QueryKind) → query.kind ≡ kind → is_get kind ≡ true → answered p h visible n args ≡ otherwise p query
      go GetSum is g = sum-otherwise is
      go GetReg is g = reg-otherwise is
      go Contains is g = no g
      go HasKey is g = no g

-- # The table

pub table-is : (p : Prog) → Facts p → (h : List Call) (visible : ℕ → Bool) (n : ℕ) (query : QueryDecl) (args : List Val) → At p.queries n query → is_get query.kind ≡ true
    → all_fit p query.args args ≡ true → apply (Some (val_table p h visible n query)) (elems_of args) ≡ elem_of (answered p h visible n args)
table-is p f h visible n query args at get fit =
    in-entries p (answered p h visible n) query.args (elem_of (otherwise p query)) h args fit
    (λ none. ap elem_of (sym (is-otherwise p f h visible n query args at (fit-count p query.args args fit) none get)))
