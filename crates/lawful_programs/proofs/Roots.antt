-- An access that begins at a root calls an operation or a query that has a number.
use Rattle.std.proofs.Common.{◌≡◌, ◌+◌, ◌==◌, ◌&&◌, ℕ, Bool, true, false, not, cond, List, [], ◌∷◌, Some, None, refl, ap, subst, sym, ◌∙◌, arith, inl, inr}
use Rattle.std.specs.Prelude.{slice_get, option_map}
use Rattle.std.specs.List.{AllByRecursion}
use Rattle.std.proofs.lemmas.Bool.{and_from, eq-eqb, true≢false}
use Rattle.rp_grammar.specs.Trees.{Ident, CrdtTree, StepTrees, DeclTree}
use Rattle.rp_lang.specs.declared.op.OpKind.{OpKind}
use Rattle.rp_lang.specs.declared.query.QueryKind.{QueryKind}
use Rattle.rp_lang.specs.Exprs.{Exs, OpTerm, Query}
use Rattle.rp_lang.specs.Formulas.{Holds}
use Rattle.rp_lang.specs.Typing.{is_get}
use Rattle.type_rules.specs.declared.kind.Kind.{Kind}
use Rattle.type_rules.specs.Names.{Name, Declared, same_name, text_of}
use Rattle.type_rules.specs.Kinds.{bool_kind}
use Rattle.type_rules.specs.Paths.{Does, Member, Way, form_of, is_operation, is_question, members_of, walked}
use Rattle.type_rules.specs.Accesses.{Access, access_kind, args_of, of_entry, of_way}
use Rattle.type_rules.specs.Typing.{is_plain_access}
use Rattle.type_rules.specs.Queries.{names_of}
use Rattle.type_rules.specs.Rules.{misfit_in}
use Rattle.type_rules.specs.Faults.{IsLawful, IsOneOf}
use Rattle.desugaring.specs.Objects.{OwnOp, OwnQuery, PathOp, PathQuery, Reached, Root, follow, is_op_at, is_query_at, keys_on, op_kind, ops_at, own_op, own_ops, own_queries, own_query, queries_at, query_kind, same_path}
use Rattle.desugaring.specs.Tables.{Tables, tables_of}
use Rattle.desugaring.specs.Values.{term, formula, append}
use Rattle.desugaring.specs.Callees.{Vars, located, member_at, of_access, on_root, op_called, query_called, question, value}
use Rattle.desugaring.specs.Expressions.{Uses, called_with}
use Rattle.desugaring.proofs.Options.{map_is, then_is}
use Rattle.lawful.specs.Typed.{Along}
use Rattle.lawful.proofs.Arms.{same_text}
use Rattle.lawful.proofs.Constructors.{entry_of}
use Rattle.lawful.proofs.Members.{Leads, leads}
use Rattle.lawful.proofs.RootCalled.{op_found, query_found, root_there}
use Rattle.lawful.proofs.RootCalls.{located_there}
use Rattle.lawful.proofs.Roots.{follows}
use Rattle.lawful_programs.specs.Valued.{AllWhole, IsWhole, Callable, Valued}
use Rattle.lawful_programs.proofs.Wholes.{truth_whole}
use Rattle.lawful_programs.proofs.Numbers.{in_map}
use Rattle.lawful_programs.proofs.Bases.{Numbered}
use Rattle.lawful_programs.proofs.Calls.{in_part}
use Rattle.lawful_programs.proofs.Crdts.{CrdtWhole, FormWhole, MemberWhole, members_whole, path_self, reach_whole}
use Rattle.lawful_programs.proofs.Paths as paths
use Rattle.lawful_programs.proofs.Paths.{among_parts, followed, found_among, located_is}

pub at_member : {X : Type 0} (P : X → Type 0) (xs : List X) (x : X) → AllByRecursion P xs → IsOneOf x xs → P x
at_member P [] x all at = absurd at
at_member P (y ∷ xs) x all (inl h) = subst P h all.0
at_member P (y ∷ xs) x all (inr h) = at_member P xs x all.1 h

pub form_whole : (t : Tables) (c : CrdtTree) → CrdtWhole t c → FormWhole t (form_of c)
form_whole t (CrdtTree.node at form) whole = whole

-- # What is at the end of the path

op_there : (d : Does) → is_operation d ≡ true → (k : OpKind) × (op_kind d ≡ Some k)
op_there Does.adds e = (_, refl)
op_there Does.removes e = (_, refl)
op_there Does.assigns e = (_, refl)
op_there Does.increments e = (_, refl)
op_there Does.deletes e = (_, refl)
op_there Does.contains e = absurd cc
op_there Does.has_key e = absurd cc
op_there Does.gets_value e = absurd cc
op_there Does.gets_sum e = absurd cc

query_there : (d : Does) → is_operation d ≡ false → (k : QueryKind) × (query_kind d ≡ Some k)
query_there Does.contains e = (_, refl)
query_there Does.has_key e = (_, refl)
query_there Does.gets_value e = (_, refl)
query_there Does.gets_sum e = (_, refl)
query_there Does.adds e = absurd cc
query_there Does.removes e = absurd cc
query_there Does.assigns e = absurd cc
query_there Does.increments e = absurd cc
query_there Does.deletes e = absurd cc

-- where a path leads from a root of the text
record Leading (tree : List DeclTree) (x : Ident) (steps : StepTrees) (c : CrdtTree) (m : Member) : Type 0 where
  pub k : ℕ
  pub root : Root
  pub found : located (λ z. same_name z.name (text_of x)) (tables_of tree).roots ≡ Some (k, root)
  pub at : slice_get (tables_of tree).roots k ≡ Some root
  pub r : Reached
  pub reached : follow (names_of tree) steps root.crdt ≡ Some r
  pub led : Leads (names_of tree) c steps m r
  pub keys : AllWhole (tables_of tree) (keys_on r.path)
  pub whole : MemberWhole (tables_of tree) m
  pub among : IsOneOf m (members_of (names_of tree) (form_of r.crdt))
  pub named : same_name m.name r.last ≡ true

leading : (tree : List DeclTree) → IsLawful tree → Numbered (tables_of tree) → (x : Ident) (steps : StepTrees) (i : ℕ) (name : Name) (decl : ℕ) (c : CrdtTree) (m : Member)
    → slice_get (names_of tree).entries i ≡ Some (entry_of name decl (Declared.root c)) → same_name name (text_of x) ≡ true → CrdtWhole (tables_of tree) c
    → walked (names_of tree) (Way.came c) steps ≡ Way.member m → Leading tree x steps c m
leading tree lawful numbered x steps i name decl c m there named whole walk =
    let t = tables_of tree in
    let n = names_of tree in
    let own : Root = record { name = name; crdt = c } in
    let test = λ (z : Root). same_name z.name (text_of x) in
    let z = located_is test t.roots own (in_part _ n.entries i (entry_of name decl (Declared.root c)) own there refl) named in
    let at = located_there test t.roots z.0 z.1 in
    let text : same_name z.0.1.name name ≡ true = subst (λ q. same_name z.0.1.name q ≡ true) (sym (same_text name (text_of x) named)) at.1 in
    let same = root_there tree lawful i name decl c there z.0.0 z.0.1 at.0 text in
    let f = followed n steps c m walk in
    let led = leads n steps c m f.0 f.1 walk in
    let wh = reach_whole t c f.0.path f.0.crdt (follows n steps c f.0 f.1) whole in
    let mem = found_among (λ (q : Member). same_name q.name f.0.last) (members_of n (form_of f.0.crdt)) m led.1 in
    record {
      k = z.0.0;
      root = z.0.1;
      found = z.1;
      at = at.0;
      r = f.0;
      reached = subst (λ q. follow n steps q ≡ Some f.0) (sym same) f.1;
      led = led;
      keys = wh.0;
      whole = at_member (MemberWhole t) (members_of n (form_of f.0.crdt)) m
          (members_whole t (truth_whole t numbered.bool) (form_of f.0.crdt) (form_whole t f.0.crdt wh.1)) mem.0;
      among = mem.0;
      named = mem.1;
    }

abbrev RootCallable : (tree : List DeclTree) → Uses → Vars → Ident → StepTrees → Name → ℕ → CrdtTree → Type 0
RootCallable tree uses vs x steps name decl c = Callable (tables_of tree) uses vs x steps (Some (entry_of name decl (Declared.root c)))

op_callable : (tree : List DeclTree) (uses : Uses) (vs : Vars) (x : Ident) (steps : StepTrees) (name : Name) (decl : ℕ) (c : CrdtTree) (m : Member)
    → walked (names_of tree) (Way.came c) steps ≡ Way.member m → Leading tree x steps c m → is_operation m.does ≡ true → RootCallable tree uses vs x steps name decl c
op_callable tree uses vs x steps name decl c m walk l acts =
    let t = tables_of tree in
    let n = names_of tree in
    let number : 0 + l.k ≡ l.k = omega arith in
    let kind = op_there m.does acts in
    let own : OwnOp = record { name = m.name; kind = kind.0; args = m.args } in
    let op : PathOp = record { root = l.k; path = l.r.path; own = own } in
    let mine = among_parts own_op (members_of n (form_of l.r.crdt)) m own l.among (map_is (λ k. record { name = m.name; kind = k; args = m.args }) (op_kind m.does) kind.0 kind.1) in
    let here = in_map (λ o. record { root = l.k; path = l.r.path; own = o }) own (own_ops n (form_of l.r.crdt)) mine in
    let all = paths.on_root n (ops_at n) 0 l.k l.k t.roots l.root op number l.at
    (paths.on_path n (ops_at n) l.k [] l.root.crdt l.r.path l.r.crdt op (follows n steps l.root.crdt l.r l.reached) here) in
    let passes = and_from (l.k == l.k && same_path l.r.path l.r.path) (same_name m.name l.r.last)
    (and_from (l.k == l.k) (same_path l.r.path l.r.path) (eq-eqb l.k l.k refl) (path_self t l.r.path l.keys)) l.named in
    let y = located_is (is_op_at l.k l.r) t.ops op all passes in
    let at = located_there (is_op_at l.k l.r) t.ops y.0 y.1 in
    let found = op_found tree m l.k l.r l.root steps l.at l.reached l.led.1 y.0.0 y.0.1 at.0 at.1 in
    let made : member_at t m l.k l.r ≡ Some (op_called y.0) =
    ap (λ b. cond b (option_map op_called (located (is_op_at l.k l.r) t.ops)) (option_map query_called (located (is_query_at l.k l.r) t.queries))) acts
    ∙ map_is op_called (located (is_op_at l.k l.r) t.ops) y.0 y.1 in
    record {
      c = op_called y.0;
      is = ap (λ w. of_access t vs x steps (of_way x w)) walk
          ∙ then_is (on_root t m steps) (located (λ z. same_name z.name (text_of x)) t.roots) (l.k, l.root) (op_called y.0) l.found
          (then_is (member_at t m l.k) (follow n steps l.root.crdt) l.r (op_called y.0) l.reached made);
      along = subst (Along n (Way.came c) steps) (ap keys_on (sym found.0)) l.led.0;
      args = found.1 ∙ ap (λ w. args_of n (of_way x w)) (sym walk);
      keys_whole = subst (λ p. AllWhole t (keys_on p)) (sym found.0) l.keys;
      args_whole = subst (AllWhole t) (sym found.1) l.whole.args;
      whole = subst (λ w. IsWhole t (access_kind n (of_way x w))) (sym walk) l.whole.result;
      gives = λ keys es e h.
          subst (λ w. Valued (access_kind n (of_way x w)) (is_plain_access n (of_way x w)) (called_with uses (op_called y.0).what keys es)) (sym walk)
          (term (OpTerm (y.0.0 + 1) (append keys es)), refl, tt);
      acts = λ z e h. (y.0.0 + 1, refl);
    }

abbrev acts_by : Access → Bool
acts_by (Access.member m) = is_operation m.does
acts_by _ = false

asked_value : (uses : Uses) (k : Kind) (plain : Bool) (i : ℕ) (keys es : Exs) (gets : Bool) → (gets ≡ false → (k ≡ bool_kind) × (plain ≡ false))
    → Valued k plain (called_with uses (cond gets (value i) (question i)) keys es)
asked_value uses k plain i keys es true truth = (term (Query i (append keys es)), refl, tt)
asked_value uses k plain i keys es false truth = (formula (Holds (Query i (append keys es))), refl, truth refl)

query_callable : (tree : List DeclTree) (uses : Uses) (vs : Vars) (x : Ident) (steps : StepTrees) (name : Name) (decl : ℕ) (c : CrdtTree) (m : Member)
    → walked (names_of tree) (Way.came c) steps ≡ Way.member m → Leading tree x steps c m → is_operation m.does ≡ false → RootCallable tree uses vs x steps name decl c
query_callable tree uses vs x steps name decl c m walk l acts =
    let t = tables_of tree in
    let n = names_of tree in
    let number : 0 + l.k ≡ l.k = omega arith in
    let kind = query_there m.does acts in
    let own : OwnQuery = record { name = m.name; kind = kind.0; args = m.args; result = m.result } in
    let query : PathQuery = record { root = l.k; path = l.r.path; own = own } in
    let mine = among_parts own_query (members_of n (form_of l.r.crdt)) m own l.among
    (map_is (λ k. record { name = m.name; kind = k; args = m.args; result = m.result }) (query_kind m.does) kind.0 kind.1) in
    let here = in_map (λ o. record { root = l.k; path = l.r.path; own = o }) own (own_queries n (form_of l.r.crdt)) mine in
    let all = paths.on_root n (queries_at n) 0 l.k l.k t.roots l.root query number l.at
    (paths.on_path n (queries_at n) l.k [] l.root.crdt l.r.path l.r.crdt query (follows n steps l.root.crdt l.r l.reached) here) in
    let passes = and_from (l.k == l.k && same_path l.r.path l.r.path) (same_name m.name l.r.last)
    (and_from (l.k == l.k) (same_path l.r.path l.r.path) (eq-eqb l.k l.k refl) (path_self t l.r.path l.keys)) l.named in
    let y = located_is (is_query_at l.k l.r) t.queries query all passes in
    let at = located_there (is_query_at l.k l.r) t.queries y.0 y.1 in
    let found = query_found tree m l.k l.r l.root steps l.at l.reached l.led.1 y.0.0 y.0.1 at.0 at.1 in
    let made : member_at t m l.k l.r ≡ Some (query_called y.0) =
    ap (λ b. cond b (option_map op_called (located (is_op_at l.k l.r) t.ops)) (option_map query_called (located (is_query_at l.k l.r) t.queries))) acts
    ∙ map_is query_called (located (is_query_at l.k l.r) t.queries) y.0 y.1 in
    record {
      c = query_called y.0;
      is = ap (λ w. of_access t vs x steps (of_way x w)) walk
          ∙ then_is (on_root t m steps) (located (λ z. same_name z.name (text_of x)) t.roots) (l.k, l.root) (query_called y.0) l.found
          (then_is (member_at t m l.k) (follow n steps l.root.crdt) l.r (query_called y.0) l.reached made);
      along = subst (Along n (Way.came c) steps) (ap keys_on (sym found.0)) l.led.0;
      args = found.1 ∙ ap (λ w. args_of n (of_way x w)) (sym walk);
      keys_whole = subst (λ p. AllWhole t (keys_on p)) (sym found.0) l.keys;
      args_whole = subst (AllWhole t) (sym found.1) l.whole.args;
      whole = subst (λ w. IsWhole t (access_kind n (of_way x w))) (sym walk) l.whole.result;
      gives = λ keys es e h.
          subst (λ w. Valued (access_kind n (of_way x w)) (is_plain_access n (of_way x w)) (called_with uses (query_called y.0).what keys es)) (sym walk)
          (asked_value uses m.result (not (is_question m.does)) y.0.0 keys es (is_get y.0.1.own.kind) (λ asks. (found.3 asks, ap not (l.whole.truth (found.3 asks)))));
      acts = λ z e h. absurd (true≢false (sym h ∙ sym (ap acts_by (sym (ap (of_way x) walk) ∙ e)) ∙ acts));
    }

pub root_callable : (tree : List DeclTree) → IsLawful tree → Numbered (tables_of tree) → (uses : Uses) (vs : Vars) (x : Ident) (steps : StepTrees)
    (i : ℕ) (name : Name) (decl : ℕ) (c : CrdtTree)
    → slice_get (names_of tree).entries i ≡ Some (entry_of name decl (Declared.root c)) → same_name name (text_of x) ≡ true → CrdtWhole (tables_of tree) c
    → misfit_in (of_entry (names_of tree) x steps (Some (entry_of name decl (Declared.root c)))) ≡ None → RootCallable tree uses vs x steps name decl c
root_callable tree lawful numbered uses vs x steps i name decl c there named whole fit =
    by_way tree lawful numbered uses vs x steps i name decl c there named whole (walked (names_of tree) (Way.came c) steps) refl fit where
      by_kind : (tree : List DeclTree) (uses : Uses) (vs : Vars) (x : Ident) (steps : StepTrees) (name : Name) (decl : ℕ) (c : CrdtTree) (m : Member)
          → walked (names_of tree) (Way.came c) steps ≡ Way.member m → Leading tree x steps c m → (acts : Bool) → is_operation m.does ≡ acts
          → RootCallable tree uses vs x steps name decl c
      by_kind tree uses vs x steps name decl c m walk l true acts = op_callable tree uses vs x steps name decl c m walk l acts
      by_kind tree uses vs x steps name decl c m walk l false acts = query_callable tree uses vs x steps name decl c m walk l acts

      by_way : (tree : List DeclTree) → IsLawful tree → Numbered (tables_of tree) → (uses : Uses) (vs : Vars) (x : Ident) (steps : StepTrees)
          (i : ℕ) (name : Name) (decl : ℕ) (c : CrdtTree)
          → slice_get (names_of tree).entries i ≡ Some (entry_of name decl (Declared.root c)) → same_name name (text_of x) ≡ true → CrdtWhole (tables_of tree) c
          → (way : Way) → walked (names_of tree) (Way.came c) steps ≡ way → misfit_in (of_way x way) ≡ None → RootCallable tree uses vs x steps name decl c
      by_way tree lawful numbered uses vs x steps i name decl c there named whole (Way.came d) walk fit = absurd cc
      by_way tree lawful numbered uses vs x steps i name decl c there named whole (Way.misfit at) walk fit = absurd cc
      by_way tree lawful numbered uses vs x steps i name decl c there named whole (Way.member m) walk fit =
          by_kind tree uses vs x steps name decl c m walk (leading tree lawful numbered x steps i name decl c m there named whole walk) (is_operation m.does) refl
