-- The place of a member among the operations, or the queries, that its type has itself.
use Rattle.std.proofs.Common.{◌≡◌, ℕ, Bool, true, false, cond, not, List, Option, Some, None, refl, sym, ap, ◌∙◌, true≢false}
use Rattle.std.specs.Prelude.{codes, filter_map, find}
use Rattle.std.specs.Option.{option_map}
use Rattle.std.proofs.lemmas.Option.{same_Some}
use Rattle.rp_grammar.specs.Trees.{CrdtForm}
use Rattle.rp_lang.specs.Typing.{is_get}
use Rattle.rp_lang.specs.declared.op.OpKind.{OpKind}
use Rattle.rp_lang.specs.declared.op.OpKind.TheVariants.{Add, Remove, Assign, Increment, Delete}
use Rattle.rp_lang.specs.declared.query.QueryKind.{QueryKind}
use Rattle.rp_lang.specs.declared.query.QueryKind.TheVariants.{Contains, HasKey, GetReg, GetSum}
use Rattle.type_rules.specs.Names.{Name, Names, same_name}
use Rattle.type_rules.specs.declared.kind.Kind.{Kind}
use Rattle.type_rules.specs.Kinds.{kind_of}
use Rattle.type_rules.specs.Paths.{Does, Member, is_operation, is_question, members_of, operation, question, set_members}
use Rattle.desugaring.specs.Objects.{OwnOp, OwnQuery, op_kind, own_op, own_ops, own_queries, own_query, query_kind}
use Rattle.text_tables.specs.means.Placed.{rank}
use Rattle.text_tables.proofs.PlaceLaw.{search_from}

-- # What a member is as an operation, or as a query

pub record IsOp (m : Member) (own : OwnOp) : Type 0 where
  pub is : own_op m ≡ Some own
  pub args : own.args ≡ m.args

pub record IsQuery (m : Member) (own : OwnQuery) : Type 0 where
  pub is : own_query m ≡ Some own
  pub args : own.args ≡ m.args
  pub get : is_get own.kind ≡ not (is_question m.does)

abbrev op_made : Member → OpKind → OwnOp
op_made m kind = record { name = m.name; kind = kind; args = m.args }

abbrev query_made : Member → QueryKind → OwnQuery
query_made m kind = record { name = m.name; kind = kind; args = m.args; result = m.result }

op_of : (m : Member) (d : Does) (kind : OpKind) → m.does ≡ d → op_kind d ≡ Some kind → (own : OwnOp) × IsOp m own
op_of m d kind e h = (op_made m kind, record { is = ap (λ d. option_map (op_made m) (op_kind d)) e ∙ ap (option_map (op_made m)) h; args = refl })

query_of : (m : Member) (d : Does) (kind : QueryKind) → m.does ≡ d → query_kind d ≡ Some kind → is_get kind ≡ not (is_question d)
    → (own : OwnQuery) × IsQuery m own
query_of m d kind e h get = (
  query_made m kind,
  record {
    is = ap (λ d. option_map (query_made m) (query_kind d)) e ∙ ap (option_map (query_made m)) h;
    args = refl;
    get = get ∙ ap (λ d. not (is_question d)) (sym e);
  },
)

op_with : (m : Member) (d : Does) → m.does ≡ d → is_operation d ≡ true → (own : OwnOp) × IsOp m own
op_with m Does.adds e h = op_of m Does.adds Add e refl
op_with m Does.removes e h = op_of m Does.removes Remove e refl
op_with m Does.assigns e h = op_of m Does.assigns Assign e refl
op_with m Does.increments e h = op_of m Does.increments Increment e refl
op_with m Does.deletes e h = op_of m Does.deletes Delete e refl
op_with m Does.contains e h = absurd (true≢false (sym h))
op_with m Does.has_key e h = absurd (true≢false (sym h))
op_with m Does.gets_value e h = absurd (true≢false (sym h))
op_with m Does.gets_sum e h = absurd (true≢false (sym h))

query_with : (m : Member) (d : Does) → m.does ≡ d → is_operation d ≡ false → (own : OwnQuery) × IsQuery m own
query_with m Does.adds e h = absurd (true≢false h)
query_with m Does.removes e h = absurd (true≢false h)
query_with m Does.assigns e h = absurd (true≢false h)
query_with m Does.increments e h = absurd (true≢false h)
query_with m Does.deletes e h = absurd (true≢false h)
query_with m Does.contains e h = query_of m Does.contains Contains e refl refl
query_with m Does.has_key e h = query_of m Does.has_key HasKey e refl refl
query_with m Does.gets_value e h = query_of m Does.gets_value GetReg e refl refl
query_with m Does.gets_sum e h = query_of m Does.gets_sum GetSum e refl refl

pub op_there : (m : Member) → is_operation m.does ≡ true → (own : OwnOp) × IsOp m own
op_there m h = op_with m m.does refl h

pub query_there : (m : Member) → is_operation m.does ≡ false → (own : OwnQuery) × IsQuery m own
query_there m h = query_with m m.does refl h

-- # Its place

no_own : {O P : Type 0} (w : O) → None ≡ Some w → P
no_own w e = absurd cc

-- of two members the first is of this sort, or the second
first_of : {O : Type 0} (own : Member → Option O) (a b m : Member) (z w : O) → own a ≡ Some z → own b ≡ None → rank a.does ≡ 0 → own m ≡ Some w
    → (u v : Bool) → cond u (Some a) (cond v (Some b) None) ≡ Some m → cond {A = Option (ℕ × O)} u (Some (0, z)) None ≡ Some (rank m.does, w)
first_of own a b m z w za zb ra e true v h =
    let same : a ≡ m = same_Some a m h in
    ap (λ k. Some (k, z)) (sym ra ∙ ap (λ (y : Member). rank y.does) same)
    ∙ ap (λ o. option_map (λ x. (rank m.does, x)) o) (sym za ∙ ap own same ∙ e)
first_of own a b m z w za zb ra e false true h = no_own w (sym zb ∙ ap own (same_Some b m h) ∙ e)
first_of own a b m z w za zb ra e false false h = absurd cc

second_of : {O : Type 0} (own : Member → Option O) (a b m : Member) (z w : O) → own a ≡ None → own b ≡ Some z → rank b.does ≡ 0 → own m ≡ Some w
    → (u v : Bool) → cond u (Some a) (cond v (Some b) None) ≡ Some m → cond {A = Option (ℕ × O)} v (Some (0, z)) None ≡ Some (rank m.does, w)
second_of own a b m z w za zb rb e true v h = no_own w (sym za ∙ ap own (same_Some a m h) ∙ e)
second_of own a b m z w za zb rb e false true h =
    let same : b ≡ m = same_Some b m h in
    ap (λ k. Some (k, z)) (sym rb ∙ ap (λ (y : Member). rank y.does) same)
    ∙ ap (λ o. option_map (λ x. (rank m.does, x)) o) (sym zb ∙ ap own same ∙ e)
second_of own a b m z w za zb rb e false false h = absurd cc

-- of three the first two, or the third
two_of : {O : Type 0} (own : Member → Option O) (a b c m : Member) (y z w : O) → own a ≡ Some y → own b ≡ Some z → own c ≡ None
    → rank a.does ≡ 0 → rank b.does ≡ 1 → own m ≡ Some w
    → (s u v : Bool) → cond s (Some a) (cond u (Some b) (cond v (Some c) None)) ≡ Some m
    → cond {A = Option (ℕ × O)} s (Some (0, y)) (cond u (Some (1, z)) None) ≡ Some (rank m.does, w)
two_of own a b c m y z w ya zb nc ra rb e true u v h =
    let same : a ≡ m = same_Some a m h in
    ap (λ k. Some (k, y)) (sym ra ∙ ap (λ (y : Member). rank y.does) same)
    ∙ ap (λ o. option_map (λ x. (rank m.does, x)) o) (sym ya ∙ ap own same ∙ e)
two_of own a b c m y z w ya zb nc ra rb e false true v h =
    let same : b ≡ m = same_Some b m h in
    ap (λ k. Some (k, z)) (sym rb ∙ ap (λ (y : Member). rank y.does) same)
    ∙ ap (λ o. option_map (λ x. (rank m.does, x)) o) (sym zb ∙ ap own same ∙ e)
two_of own a b c m y z w ya zb nc ra rb e false false true h = no_own w (sym nc ∙ ap own (same_Some c m h) ∙ e)
two_of own a b c m y z w ya zb nc ra rb e false false false h = absurd cc

third_of : {O : Type 0} (own : Member → Option O) (a b c m : Member) (z w : O) → own a ≡ None → own b ≡ None → own c ≡ Some z
    → rank c.does ≡ 0 → own m ≡ Some w
    → (s u v : Bool) → cond s (Some a) (cond u (Some b) (cond v (Some c) None)) ≡ Some m
    → cond {A = Option (ℕ × O)} v (Some (0, z)) None ≡ Some (rank m.does, w)
third_of own a b c m z w na nb zc rc e true u v h = no_own w (sym na ∙ ap own (same_Some a m h) ∙ e)
third_of own a b c m z w na nb zc rc e false true v h = no_own w (sym nb ∙ ap own (same_Some b m h) ∙ e)
third_of own a b c m z w na nb zc rc e false false true h =
    let same : c ≡ m = same_Some c m h in
    ap (λ k. Some (k, z)) (sym rc ∙ ap (λ (y : Member). rank y.does) same)
    ∙ ap (λ o. option_map (λ x. (rank m.does, x)) o) (sym zc ∙ ap own same ∙ e)
third_of own a b c m z w na nb zc rc e false false false h = absurd cc

abbrev HasPlace : {O : Type 0} → (O → Name) → List O → Name → Member → O → Type 0
HasPlace name os x m w = search_from (λ o. same_name (name o) x) 0 os ≡ Some (rank m.does, w)

abbrev named : Names → CrdtForm → Name → Option Member
named n form x = find (λ m. same_name m.name x) (members_of n form)

pub op_placed : (n : Names) (form : CrdtForm) (x : Name) (m : Member) (w : OwnOp) → named n form x ≡ Some m → own_op m ≡ Some w
    → HasPlace (λ o. o.name) (own_ops n form) x m w
op_placed n (CrdtForm.set_aw t) x m w h e = two_of own_op _ _ _ m _ _ w refl refl refl refl refl e _ _ _ h
op_placed n (CrdtForm.set_rw t) x m w h e = two_of own_op _ _ _ m _ _ w refl refl refl refl refl e _ _ _ h
op_placed n (CrdtForm.reg t) x m w h e = first_of own_op _ _ m _ w refl refl refl e _ _ h
op_placed n (CrdtForm.mv_reg t) x m w h e = first_of own_op _ _ m _ w refl refl refl e _ _ h
op_placed n CrdtForm.counter x m w h e = first_of own_op _ _ m _ w refl refl refl e _ _ h
op_placed n (CrdtForm.map_uw t c) x m w h e = first_of own_op _ _ m _ w refl refl refl e _ _ h
op_placed n (CrdtForm.map_dw t c) x m w h e = first_of own_op _ _ m _ w refl refl refl e _ _ h
op_placed n (CrdtForm.struct _) x m w h e = absurd cc

of_set : (n : Names) (k : Kind) (x : Name) (m : Member) (w : OwnQuery) → find (λ m. same_name m.name x) (set_members k) ≡ Some m → own_query m ≡ Some w
    → HasPlace (λ o. o.name) (filter_map own_query (set_members k)) x m w
of_set n k x m w h e =
    third_of own_query (operation (codes "add") Does.adds k) (operation (codes "remove") Does.removes k) (question Does.contains k) m
    (query_made (question Does.contains k) Contains) w refl refl refl refl e
    (same_name (codes "add") x) (same_name (codes "remove") x) (same_name (codes "contains") x) h

pub query_placed : (n : Names) (form : CrdtForm) (x : Name) (m : Member) (w : OwnQuery) → named n form x ≡ Some m → own_query m ≡ Some w
    → HasPlace (λ o. o.name) (own_queries n form) x m w
query_placed n (CrdtForm.set_aw t) x m w h e = of_set n (kind_of n t) x m w h e
query_placed n (CrdtForm.set_rw t) x m w h e = of_set n (kind_of n t) x m w h e
query_placed n (CrdtForm.reg t) x m w h e = second_of own_query _ _ m _ w refl refl refl e _ _ h
query_placed n (CrdtForm.mv_reg t) x m w h e = second_of own_query _ _ m _ w refl refl refl e _ _ h
query_placed n CrdtForm.counter x m w h e = second_of own_query _ _ m _ w refl refl refl e _ _ h
query_placed n (CrdtForm.map_uw t c) x m w h e = second_of own_query _ _ m _ w refl refl refl e _ _ h
query_placed n (CrdtForm.map_dw t c) x m w h e = second_of own_query _ _ m _ w refl refl refl e _ _ h
query_placed n (CrdtForm.struct _) x m w h e = absurd cc
