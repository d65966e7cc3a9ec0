-- The functions of the structure of a step give elements of their sorts.
use Rattle.std.proofs.Common.{◌≡◌, ◌<◌, ℕ, zero, suc, ◌+◌, ◌==◌, Bool, true, false, ◌&&◌, if◌then◌else◌, List, [], ◌∷◌, ◌++◌, length, map, filter, Option, Some, None, slice_get, refl, sym, ap, ◌∙◌, subst, eq-eqb, lt-ltb, append_assoc, arith}
use Rattle.std.proofs.lemmas.Bool.{and_parts, and_from}
use Rattle.std.proofs.lemmas.Option.{none-some, same_Some}
use Rattle.rp_value.specs.declared.tables.Ty.{Ty}
use Rattle.rp_value.specs.Values.{Val}
use Rattle.rp_lang.specs.declared.query.QueryDecl.{QueryDecl}
use Rattle.rp_lang.specs.Typing.{is_get}
use Rattle.rp_lang.specs.Programs.{Proc}
use Rattle.rp_lang.specs.WellFormed.{is_well_formed}
use Rattle.rp_lang.proofs.ProgramFacts.{Facts, facts}
use Rattle.crdt_defs.specs.Calls.{Call}
use Rattle.crdt_defs.specs.Queries.{answer_in}
use Rattle.crdt_defs.specs.Truths.{list_of}
use Rattle.event_machine.specs.Machine.{Standing, Running, Returned, Failed, Invocation, State, result_of, stands_in}
use Rattle.event_machine.specs.WellFormed.{At}
use Rattle.event_machine.specs.Growth.{IsValid}
use Rattle.event_machine.specs.TypedStates.{result_fits}
use Rattle.event_machine.proofs.PlaceLemmas.{at-lt, at-exists}
use Rattle.rp_logic.specs.declared.sort.FnDecl.{FnDecl}
use Rattle.rp_logic.specs.declared.sort.LogicCon.{LogicCon}
use Rattle.rp_logic.specs.Signatures.{Signature, is_int, is_con_of, fields_of}
use Rattle.rp_logic.specs.Elements.{Elem, Elems, Point, Made, no_elem, also_elem}
use Rattle.rp_logic.specs.Structures.{Fun, is_elem, are_elems, apply}
use Rattle.rp_logic.proofs.SortLaws.{no}
use Rattle.rp_symbols.specs.Numbers.{call_sort, inv_sort, op_sort, info_sort, outcome_sort, op_con, info_con, unreturned_con, outcome_con}
use Rattle.rp_symbols.specs.Signatures.{sort_of, con_of, con_decls, result_list, fn_of, val_decls, val_decls_at}
use Rattle.rp_symbols.proofs.Stand.{ints-stand, operations-stand, records-stand, unreturned-stands, outcomes-stand}
use Rattle.crdt_enc.specs.Elements.{elem_of, elems_of}
use Rattle.crdt_enc.proofs.TermLaws.{listed-fit, listed-elems}
use Rattle.hist_struct.specs.QueryValues.{answered, val_table, val_tables}
use Rattle.hist_struct.specs.Steps.{Step, IsStep, begins, is_done, is_part, is_seen, is_read}
use Rattle.hist_struct.specs.Structure.{op_elem, origin_elem, info_elem, outcome_elem, result_elem, vals_at, view_vals, added_vals, vals_of, fns_of, structure_of, sig_at}
use Rattle.hist_struct.specs.Tables.{table}
use Rattle.hist_struct.proofs.ElementValues.{values-of}
use Rattle.hist_struct.proofs.LowLaws.{low, are_low, low-of, are-low-of, answer-low, value-is, values-are}
use Rattle.hist_struct.proofs.MoveFacts.{Kept, kept}
use Rattle.hist_struct.proofs.OrdinaryLaws.{op-ordinary, query-ordinary, params-ordinary, result-ordinary, ordinary-ranged, answer-ranged}
use Rattle.hist_struct.proofs.SigLaws.{sig-is}
use Rattle.hist_struct.proofs.StageLaws.{answers-fit}
use Rattle.hist_struct.proofs.TableFacts.{point-of, inv-of}
use Rattle.hist_struct.proofs.TableLaws.{in-table}
use Rattle.hist_struct.proofs.ValueFacts.{table-is}

-- # Functions side by side with their declarations

abbrev FunFits : Signature → List ℕ → FnDecl → Fun → Type 0
FunFits S sizes d f = (xs : Elems) → are_elems S sizes d.args xs ≡ true → is_elem S sizes d.result (apply (Some f) xs) ≡ true

abbrev pub FunsFit : Signature → List ℕ → List FnDecl → List Fun → Type 0
FunsFit S sizes [] [] = Unit {0}
FunsFit S sizes (d ∷ ds) (f ∷ fs) = FunFits S sizes d f × FunsFit S sizes ds fs
FunsFit S sizes _ _ = ⊥

pub funs-at : (S : Signature) (sizes : List ℕ) (ds : List FnDecl) (fs : List Fun) → FunsFit S sizes ds fs → (n : ℕ) (d : FnDecl) → slice_get ds n ≡ Some d → (xs : Elems) → are_elems S sizes d.args xs ≡ true
    → is_elem S sizes d.result (apply (slice_get fs n) xs) ≡ true
funs-at S sizes [] [] h n d e xs k = absurd (none-some d e)
funs-at S sizes (c ∷ ds) (f ∷ fs) h zero d e xs k =
    let same = same_Some c d e in
    subst (λ (d : FnDecl). is_elem S sizes d.result (apply (Some f) xs) ≡ true) same (h.0 xs (ap (λ (d : FnDecl). are_elems S sizes d.args xs) same ∙ k))
funs-at S sizes (c ∷ ds) (f ∷ fs) h (suc n) d e xs k = funs-at S sizes ds fs h.1 n d e xs k
funs-at S sizes [] (f ∷ fs) h n d e xs k = elim h [ ]
funs-at S sizes (c ∷ ds) [] h n d e xs k = elim h [ ]

funs-both : (S : Signature) (sizes : List ℕ) (ds : List FnDecl) (fs : List Fun) (es : List FnDecl) (gs : List Fun) → FunsFit S sizes ds fs → FunsFit S sizes es gs → FunsFit S sizes (ds ++ es) (fs ++ gs)
funs-both S sizes [] [] es gs h k = k
funs-both S sizes (d ∷ ds) (f ∷ fs) es gs h k = (h.0, funs-both S sizes ds fs es gs h.1 k)
funs-both S sizes [] (f ∷ fs) es gs h k = elim h [ ]
funs-both S sizes (d ∷ ds) [] es gs h k = elim h [ ]

one-elem : (S : Signature) (sizes : List ℕ) (s : ℕ) (xs : Elems) → are_elems S sizes (s ∷ []) xs ≡ true → (e : Elem) × (xs ≡ also_elem e no_elem) × (is_elem S sizes s e ≡ true)
one-elem S sizes s no_elem h = no h
one-elem S sizes s (also_elem e no_elem) h = (e, refl, (and_parts (is_elem S sizes s e) _ h).0)
one-elem S sizes s (also_elem e (also_elem d xs)) h = no (and_parts (is_elem S sizes s e) _ h).1

-- # Those of a step

module _ (x : Step) (consts : List ℕ) (formed : is_well_formed x.program ≡ true) (m : IsStep x) where
  abbrev In : ℕ → Elem → Type 0
  In s e = is_elem (sig_at x consts) (structure_of x).sizes s e ≡ true

  abbrev Fits : FnDecl → Fun → Type 0
  Fits d f = FunFits (sig_at x consts) (structure_of x).sizes d f

  abbrev AllFit : List FnDecl → List Fun → Type 0
  AllFit ds fs = FunsFit (sig_at x consts) (structure_of x).sizes ds fs

  its : Facts x.program
  its = facts x.program formed

  keeps : Kept x
  keeps = kept x formed m

  call-table : (f : ℕ → Elem) (r : ℕ) → ((c : ℕ) → c < length x.new.calls → In r (f c)) → Fits (fn_of (call_sort ∷ []) r) (table f (length x.new.calls))
  call-table f r k xs h =
      let o = one-elem (sig_at x consts) (structure_of x).sizes call_sort xs h in
      let c = point-of (sig_at x consts) x (sig-is x.program x.views consts (length x.reads)) o.0 o.2 in
      subst (λ xs. In r (apply (Some (table f (length x.new.calls))) xs)) (sym (o.1 ∙ ap (λ e. also_elem e no_elem) c.1))
      (ap (is_elem (sig_at x consts) (structure_of x).sizes r) (in-table f (length x.new.calls) c.0 c.2) ∙ k c.0 c.2)

  inv-table : (f : ℕ → Elem) (r : ℕ) → ((i : ℕ) → i < length x.new.invocations → In r (f i)) → Fits (fn_of (inv_sort ∷ []) r) (table f (length x.new.invocations))
  inv-table f r k xs h =
      let o = one-elem (sig_at x consts) (structure_of x).sizes inv_sort xs h in
      let i = inv-of (sig_at x consts) x (sig-is x.program x.views consts (length x.reads)) o.0 o.2 in
      subst (λ xs. In r (apply (Some (table f (length x.new.invocations))) xs)) (sym (o.1 ∙ ap (λ e. also_elem e no_elem) i.1))
      (ap (is_elem (sig_at x consts) (structure_of x).sizes r) (in-table f (length x.new.invocations) i.0 i.2) ∙ k i.0 i.2)

  pub made-in : (con : ℕ) (decl : LogicCon) (xs : Elems) → slice_get (con_decls x.program) con ≡ Some decl → are_elems (sig_at x consts) (structure_of x).sizes decl.args xs ≡ true → In decl.sort (Made con xs)
  made-in con decl xs e h =
      ap (λ o. is_con_of o decl.sort && are_elems (sig_at x consts) (structure_of x).sizes (fields_of o) xs) e
      ∙ and_from (decl.sort == decl.sort) (are_elems (sig_at x consts) (structure_of x).sizes decl.args xs) (eq-eqb decl.sort decl.sort refl) h

  -- # Calls

  new-low : (c : ℕ) (call : Call) → At x.new.calls c call → are_low x.new.universe call.args ≡ true
  new-low c call a = are-low-of x.new.universe call.args (λ y i. (m.after.formed.known.in_calls c y call a i).below)

  old-low : (c : ℕ) (call : Call) → At x.old.calls c call → are_low x.new.universe call.args ≡ true
  old-low c call a = new-low c call (keeps.grows.calls c call a)

  op-in : (c : ℕ) → c < length x.new.calls → In (op_sort x.program) (op_elem x.program (slice_get x.new.calls c))
  op-in c l =
      let call = at-exists x.new.calls c l in
      let t = m.after.typed.calls c call.0 call.1 in
      ap (λ o. is_elem (sig_at x consts) (structure_of x).sizes (op_sort x.program) (op_elem x.program o)) call.1
      ∙ made-in (op_con x.program call.0.op) (con_of (op_sort x.program) (map (sort_of x.program) t.0.args)) (elems_of call.0.args) (operations-stand x.program call.0.op t.0 t.1)
      (values-are x consts its t.0.args call.0.args (op-ordinary x.program its call.0.op t.0 t.1) t.2 (new-low c call.0 call.1))

  pub inv-in : (i : ℕ) → i < length x.new.invocations → In inv_sort (Point i)
  inv-in i l = lt-ltb i (length x.new.invocations) l

  origin-in : (c : ℕ) → c < length x.new.calls → In inv_sort (origin_elem (slice_get x.new.calls c))
  origin-in c l =
      let call = at-exists x.new.calls c l in
      let t = m.after.formed.history.has_tx c call.0 call.1 in
      let i = m.after.formed.linked.has_inv call.0.tx t.0 t.1 in
      ap (λ o. is_elem (sig_at x consts) (structure_of x).sizes inv_sort (origin_elem o)) call.1
      ∙ inv-in call.0.inv (subst (λ n. n < length x.new.invocations) (sym t.2) (at-lt x.new.invocations t.0.inv i.0 i.1))

  -- # Invocations

  info-in : (i : ℕ) → i < length x.new.invocations → In (info_sort x.program) (info_elem x.program (slice_get x.new.invocations i))
  info-in i l =
      let inv = at-exists x.new.invocations i l in
      let f = m.after.formed.invocations i inv.0 inv.1 in
      ap (λ o. is_elem (sig_at x consts) (structure_of x).sizes (info_sort x.program) (info_elem x.program o)) inv.1
      ∙ made-in (info_con x.program inv.0.proc) (con_of (info_sort x.program) (map (sort_of x.program) f.proc.params)) (elems_of inv.0.args) (records-stand x.program inv.0.proc f.proc f.is)
      (values-are x consts its f.proc.params inv.0.args (params-ordinary x.program its inv.0.proc f.proc f.is) f.args
      (are-low-of x.new.universe inv.0.args (λ y i'. (m.after.formed.known.in_args i y inv.0 inv.1 i').below)))

  unreturned-in : In (outcome_sort x.program) (Made (unreturned_con x.program) no_elem)
  unreturned-in = made-in (unreturned_con x.program) (con_of (outcome_sort x.program) []) no_elem (unreturned-stands x.program) refl

  bare-in : (proc : ℕ) (q : Proc) → At x.program.procs proc q → (o : Option Ty) → q.result ≡ o → result_fits x.program o None ≡ true → In (outcome_sort x.program) (Made (outcome_con x.program proc) no_elem)
  bare-in proc q a None e h =
      made-in (outcome_con x.program proc) (con_of (outcome_sort x.program) (map (sort_of x.program) (result_list q.result))) no_elem (outcomes-stand x.program proc q a)
      (ap (λ o. are_elems (sig_at x consts) (structure_of x).sizes (map (sort_of x.program) (result_list o)) no_elem) e)
  bare-in proc q a (Some t) e h = no h

  value-in : (proc : ℕ) (q : Proc) (v : Val) → At x.program.procs proc q → (o : Option Ty) → q.result ≡ o → result_fits x.program o (Some v) ≡ true → low x.new.universe v ≡ true
      → In (outcome_sort x.program) (Made (outcome_con x.program proc) (also_elem (elem_of v) no_elem))
  value-in proc q v a None e h l = no h
  value-in proc q v a (Some t) e h l =
      made-in (outcome_con x.program proc) (con_of (outcome_sort x.program) (map (sort_of x.program) (result_list q.result))) (also_elem (elem_of v) no_elem) (outcomes-stand x.program proc q a)
      (ap (λ o. are_elems (sig_at x consts) (structure_of x).sizes (map (sort_of x.program) (result_list o)) (also_elem (elem_of v) no_elem)) e
      ∙ and_from (is_elem (sig_at x consts) (structure_of x).sizes (sort_of x.program t) (elem_of v)) true (value-is x consts its t v (ordinary-ranged x.program t (result-ordinary x.program its proc q t a e)) h l) refl)

  outcome-in : (proc : ℕ) (q : Proc) (standing : Standing) → At x.program.procs proc q → ((found : Option Val) → standing ≡ Returned found → result_fits x.program q.result found ≡ true)
      → ((v : Val) → standing ≡ Returned (Some v) → low x.new.universe v ≡ true) → In (outcome_sort x.program) (outcome_elem x.program proc (result_of standing))
  outcome-in proc q Running a h l = unreturned-in
  outcome-in proc q Failed a h l = unreturned-in
  outcome-in proc q (Returned None) a h l = bare-in proc q a q.result refl (h None refl)
  outcome-in proc q (Returned (Some v)) a h l = value-in proc q v a q.result refl (h (Some v) refl) (l v refl)

  results-in : (s : State) → IsValid x.program s → s.universe ≡ x.new.universe → (i : ℕ) (inv : Invocation) → At s.invocations i inv → In (outcome_sort x.program) (outcome_elem x.program inv.proc (result_of inv.standing))
  results-in s valid same i inv a =
      let t = valid.typed.invocations i inv a in
      outcome-in inv.proc t.proc inv.standing t.is t.result
      (λ v e. subst (λ u. low u v ≡ true) same (low-of s.universe v (λ y k. (valid.formed.known.in_results i y inv a (ap (stands_in y) e ∙ k)).below)))

  old-result-in : (i : ℕ) → In (outcome_sort x.program) (result_elem x.program (slice_get x.old.invocations i))
  old-result-in i = go (slice_get x.old.invocations i) refl
    where
      go : (o : Option Invocation) → slice_get x.old.invocations i ≡ o → In (outcome_sort x.program) (result_elem x.program o)
      go None e = unreturned-in
      go (Some inv) e = results-in x.old m.before keeps.grows.universe i inv e

  new-result-in : (i : ℕ) → In (outcome_sort x.program) (result_elem x.program (slice_get x.new.invocations i))
  new-result-in i = go (slice_get x.new.invocations i) refl
    where
      go : (o : Option Invocation) → slice_get x.new.invocations i ≡ o → In (outcome_sort x.program) (result_elem x.program o)
      go None e = unreturned-in
      go (Some inv) e = results-in x.new m.after refl i inv e

  -- # Queries

  abbrev val_decl : QueryDecl → FnDecl
  val_decl query = fn_of (map (sort_of x.program) query.args) (sort_of x.program query.result)

  table-fits : (s : State) → IsValid x.program s → ((c : ℕ) (call : Call) → At s.calls c call → are_low x.new.universe call.args ≡ true) → (visible : ℕ → Bool) (n : ℕ) (query : QueryDecl)
      → At x.program.queries n query → is_get query.kind ≡ true → Fits (val_decl query) (val_table x.program s.calls visible n query)
  table-fits s valid lows visible n query a get xs h =
      let vs = values-of x consts its query.args xs (query-ordinary x.program its n query a) h in
      let args = list_of vs.0 in
      let fit = listed-fit x.program query.args vs.0 vs.1 in
      subst (λ xs. In (sort_of x.program query.result) (apply (Some (val_table x.program s.calls visible n query)) xs)) (sym (listed-elems vs.0) ∙ vs.2)
      (ap (is_elem (sig_at x consts) (structure_of x).sizes (sort_of x.program query.result)) (table-is x.program its s.calls visible n query args a get fit)
      ∙ value-is x consts its query.result (answered x.program s.calls visible n args) (answer-ranged x.program its n query a get) (answers-fit x.program its s valid visible n query args a get fit)
      (answer-low x.new.universe x.program s.calls (slice_get x.program.queries n) (answer_in x.program n s.calls visible args) lows))

  tables-fit : (s : State) → IsValid x.program s → ((c : ℕ) (call : Call) → At s.calls c call → are_low x.new.universe call.args ≡ true) → (visible : ℕ → Bool) (k : ℕ) (queries : List QueryDecl)
      → ((j : ℕ) (query : QueryDecl) → At queries j query → At x.program.queries (k + j) query)
      → AllFit (map val_decl (filter (λ (query : QueryDecl). is_get query.kind) queries)) (val_tables x.program s.calls visible k queries)
  tables-fit s valid lows visible k [] at = tt
  tables-fit s valid lows visible k (query ∷ queries) at =
      go (is_get query.kind) refl
      (tables-fit s valid lows visible (suc k) queries (λ j q a. ap (slice_get x.program.queries) (let e : suc k + j ≡ k + suc j = omega arith in e) ∙ at (suc j) q a))
    where
      here : At x.program.queries k query
      here = ap (slice_get x.program.queries) (let e : k ≡ k + 0 = omega arith in e) ∙ at 0 query refl

      go : (b : Bool) → is_get query.kind ≡ b → AllFit (map val_decl (filter (λ (query : QueryDecl). is_get query.kind) queries)) (val_tables x.program s.calls visible (suc k) queries)
          → AllFit (map val_decl (if b then query ∷ filter (λ (query : QueryDecl). is_get query.kind) queries else filter (λ (query : QueryDecl). is_get query.kind) queries))
          (if b then val_table x.program s.calls visible k query ∷ val_tables x.program s.calls visible (suc k) queries else val_tables x.program s.calls visible (suc k) queries)
      go true get rest = (table-fits s valid lows visible k query here get, rest)
      go false get rest = rest

  from-first : (j : ℕ) (query : QueryDecl) → At x.program.queries j query → At x.program.queries (0 + j) query
  from-first j query a = ap (slice_get x.program.queries) (let e : 0 + j ≡ j = omega arith in e) ∙ a

  old-vals : (visible : ℕ → Bool) → AllFit (val_decls x.program) (vals_at x x.old.calls visible)
  old-vals visible = tables-fit x.old m.before old-low visible 0 x.program.queries from-first

  new-vals : (visible : ℕ → Bool) → AllFit (val_decls x.program) (vals_at x x.new.calls visible)
  new-vals visible = tables-fit x.new m.after new-low visible 0 x.program.queries from-first

  -- # Block by block

  abbrev Blocks : ℕ → List Fun → Type 0
  Blocks n fs = AllFit (val_decls_at x.program n ++ val_decls_at x.program (length x.reads)) fs

  block : (n : ℕ) (gs fs : List Fun) → AllFit (val_decls x.program) gs → Blocks n fs → Blocks (suc n) (gs ++ fs)
  block n gs fs h k =
      subst (λ ds. AllFit ds (gs ++ fs)) (sym (append_assoc (val_decls x.program) (val_decls_at x.program n) (val_decls_at x.program (length x.reads))))
      (funs-both (sig_at x consts) (structure_of x).sizes (val_decls x.program) gs (val_decls_at x.program n ++ val_decls_at x.program (length x.reads)) fs h k)

  added-fit : (sets : List (ℕ → Bool)) → AllFit (val_decls_at x.program (length sets)) (added_vals x sets)
  added-fit [] = tt
  added-fit (f ∷ sets) = funs-both (sig_at x consts) (structure_of x).sizes (val_decls x.program) (vals_at x x.old.calls f) (val_decls_at x.program (length sets)) (added_vals x sets) (old-vals f) (added-fit sets)

  views-fit : (k n : ℕ) → Blocks (n + n) (view_vals x k n ++ added_vals x x.reads)
  views-fit k zero = added-fit x.reads
  views-fit k (suc n) =
      let seen = vals_at x x.old.calls (is_seen x.old x.inv k) in
      let read = vals_at x x.old.calls (is_read x.old x.inv k) in
      let rest = view_vals x (suc k) n in
      let added = added_vals x x.reads in
      let two : suc n + suc n ≡ suc (suc (n + n)) = omega arith in
      subst (λ j. Blocks j ((seen ++ (read ++ rest)) ++ added)) (sym two)
      (subst (Blocks (suc (suc (n + n)))) (sym (append_assoc seen (read ++ rest) added ∙ ap (λ fs. seen ++ fs) (append_assoc read rest added)))
      (block (suc (n + n)) seen (read ++ (rest ++ added)) (old-vals (is_seen x.old x.inv k)) (block (n + n) read (rest ++ added) (old-vals (is_read x.old x.inv k)) (views-fit (suc k) n))))

  vals-fit : Blocks (3 + (begins x + begins x)) (vals_of x)
  vals-fit =
      let b = begins x + begins x in
      let rest = view_vals x 0 (begins x) ++ added_vals x x.reads in
      let three : 3 + b ≡ suc (suc (suc b)) = omega arith in
      subst (λ n. Blocks n (vals_of x)) (sym three)
      (block (suc (suc b)) (vals_at x x.old.calls (is_done x.old)) (vals_at x x.new.calls x.snapshot ++ (vals_at x x.old.calls (is_part x) ++ rest)) (old-vals (is_done x.old))
      (block (suc b) (vals_at x x.new.calls x.snapshot) (vals_at x x.old.calls (is_part x) ++ rest) (new-vals x.snapshot)
      (block b (vals_at x x.old.calls (is_part x)) rest (old-vals (is_part x)) (views-fit 0 (begins x)))))

  pub funs-fit : AllFit (sig_at x consts).fns (fns_of x)
  funs-fit = (
    call-table (λ c. op_elem x.program (slice_get x.new.calls c)) (op_sort x.program) op-in,
    (
      call-table (λ c. origin_elem (slice_get x.new.calls c)) inv_sort origin-in,
      (
        inv-table (λ i. info_elem x.program (slice_get x.new.invocations i)) (info_sort x.program) info-in,
        (
          inv-table (λ i. result_elem x.program (slice_get x.old.invocations i)) (outcome_sort x.program) (λ i l. old-result-in i),
          (
            inv-table (λ i. result_elem x.program (slice_get x.new.invocations i)) (outcome_sort x.program) (λ i l. new-result-in i),
            ((λ xs h. ap is_int (ints-stand x.program)), ((λ xs h. ap is_int (ints-stand x.program)), vals-fit)),
          ),
        ),
      ),
    ),
  )
