-- The use of an earlier query becomes something.
use Rattle.std.proofs.Common.{◌≡◌, ◌<◌, ℕ, Bool, true, not, List, [], ◌∷◌, length, Some, None, refl, ap, subst, sym, ◌∙◌, arith}
use Rattle.std.specs.Prelude.{slice_get}
use Rattle.std.proofs.lemmas.Bool.{not-false}
use Rattle.rp_span.specs.declared.Span.{Span}
use Rattle.rp_grammar.specs.Trees.{Ident, TypeTree, ParamTree, ExprTree, StepTrees, QueryTree, DeclForm, DeclTree}
use Rattle.rp_lang.specs.Exprs.{Exs, no_ex, also_ex}
use Rattle.type_rules.specs.declared.kind.Kind.{Kind}
use Rattle.type_rules.specs.declared.role.Role.TheVariants as role
use Rattle.type_rules.specs.Names.{Name, Names, Declared}
use Rattle.type_rules.specs.Kinds.{bool_kind, fits, kind_of, param_kinds}
use Rattle.type_rules.specs.Accesses.{of_entry}
use Rattle.type_rules.specs.Typing.{flag, is_formula, is_plain, type_of}
use Rattle.type_rules.specs.Queries.{declared_names, is_formula_decl, names_of, param_vars}
use Rattle.type_rules.specs.ExprSites.{asks, expr_sites}
use Rattle.type_rules.specs.DeclSites.{param_sites, scope_for}
use Rattle.type_rules.specs.Rules.{misfit_in, rule, rules, rule21}
use Rattle.type_rules.specs.Faults.{IsLawful}
use Rattle.desugaring.specs.Tables.{Tables, tables_of}
use Rattle.desugaring.specs.Values.{Value, term, formula}
use Rattle.desugaring.specs.Callees.{Vars, taking, use_of}
use Rattle.desugaring.specs.Expressions.{uses_before, with_args}
use Rattle.desugaring.proofs.Found.{use_is}
use Rattle.lawful.specs.Kept.{may_speak}
use Rattle.lawful.specs.Typed.{Along}
use Rattle.lawful.proofs.Basics.{fits_one, when_not}
use Rattle.lawful.proofs.Constructors.{entry_of}
use Rattle.lawful.proofs.Entries.{entries_are}
use Rattle.lawful.proofs.Places.{all_parts, is_one_of, types_are}
use Rattle.lawful_programs.specs.Valued.{Sound, AllSound, AllWhole, IsWhole, VarsWhole, Callable, Ready, Seen, nothing, another, Suits, Valued, count_terms}
use Rattle.lawful_programs.proofs.Wholes.{whole_not_any, written_whole}
use Rattle.lawful_programs.proofs.Exprs.{valued}
use Rattle.lawful_programs.proofs.Parts.{head}
use Rattle.lawful_programs.proofs.Names.{telling, told_at, plain_stays, vars_stay}
use Rattle.lawful_programs.proofs.Sounds.{param_sites_whole, query_sound}

-- # Parameters

pub seen_args : (n : Names) (params : List ParamTree) (es : Exs) → count_terms es ≡ length (param_kinds n params) → Seen (param_vars n params) (with_args n params es)
seen_args n [] es e = nothing
seen_args n (q ∷ params) no_ex e = absurd (omega (arith, e))
seen_args n (q ∷ params) (also_ex x xs) e = another (seen_args n params xs (omega (arith, e)))

pub param_vars_whole : (t : Tables) (params : List ParamTree) → AllWhole t (param_kinds t.names params) → VarsWhole t (param_vars t.names params)
param_vars_whole t [] whole = tt
param_vars_whole t (q ∷ params) whole = (whole.0, param_vars_whole t params whole.1)

-- # What is told of a query's body

same_names : (n m : Names) (fs : List Bool) → n.types ≡ m.types → n.entries ≡ m.entries → telling n fs ≡ telling m fs
same_names n m fs types entries =
    ap (λ z. record { types = z; entries = n.entries; formulas = fs }) types ∙ ap (λ z. record { types = m.types; entries = z; formulas = fs }) entries

told_plain : (tree : List DeclTree) → IsLawful tree → (m : ℕ) (at : Span) (name : Ident) (params : List ParamTree) (result : TypeTree) (body : ExprTree)
    → slice_get tree m ≡ Some (DeclTree.node at (DeclForm.query (QueryTree.query name params result body)))
    → AllSound (tables_of tree) (expr_sites (names_of tree) (scope_for (names_of tree) m (may_speak tree m) params) (asks 21 (kind_of (names_of tree) result)) body)
    → is_formula (names_of tree) m ≡ not (is_plain (names_of tree) (param_vars (names_of tree) params) body)
told_plain tree lawful m at name params result body there sound =
    let n = names_of tree in
    let d = DeclTree.node at (DeclForm.query (QueryTree.query name params result body)) in
    let told = told_at (declared_names tree) tree 0 m m d refl (omega arith) there in
    let names : telling (declared_names tree) told.fs ≡ telling n told.fs =
    same_names (declared_names tree) n told.fs (sym (types_are tree)) (sym (entries_are tree)) in
    let sc = scope_for n m (may_speak tree m) params in
    ap flag told.is ∙ ap (λ z. is_formula_decl z d) names
    ∙ ap (λ vs. not (is_plain (telling n told.fs) vs body)) (vars_stay n told.fs params)
    ∙ ap not (plain_stays (tables_of tree) told.fs m told.same sc (asks 21 (kind_of n result)) body refl sound)

-- # The use of a query

-- what the body becomes is what the use becomes
suits_use : (k j : Kind) (plain flagged : Bool) (v : Value) → fits k j ≡ true → (j ≡ bool_kind → k ≡ bool_kind) → flagged ≡ not plain → Suits j plain v
    → Suits k (not flagged) v
suits_use k j plain flagged (term x) fit same is suits = tt
suits_use k j plain flagged (formula f) fit same is suits = (same suits.0, ap not (is ∙ ap not suits.1))

use_valued : (tree : List DeclTree) → IsLawful tree → (b m : ℕ) (at : Span) (name : Ident) (params : List ParamTree) (result : TypeTree) (body : ExprTree)
    → slice_get tree m ≡ Some (DeclTree.node at (DeclForm.query (QueryTree.query name params result body))) → m < b
    → Ready (tables_of tree) m (uses_before (tables_of tree) m)
    → AllWhole (tables_of tree) (param_kinds (names_of tree) params) → IsWhole (tables_of tree) (kind_of (names_of tree) result)
    → AllSound (tables_of tree) (expr_sites (names_of tree) (scope_for (names_of tree) m (may_speak tree m) params) (asks 21 (kind_of (names_of tree) result)) body)
    → (es : Exs) → count_terms es ≡ length (param_kinds (names_of tree) params)
    → Valued (kind_of (names_of tree) result) (not (is_formula (names_of tree) m))
    (uses_before (tables_of tree) b m (QueryTree.query name params result body) es)
use_valued tree lawful b m at name params result body there less ready params_are result_is sound es many =
    let t = tables_of tree in
    let n = names_of tree in
    let k = kind_of n result in
    let sc = scope_for n m (may_speak tree m) params in
    let w = asks 21 k in
    let v = valued t m (uses_before t m) ready sc (with_args n params es) w body
    (record { decl = refl; seen = seen_args n params es many; whole = param_vars_whole t params params_are }) result_is sound in
    let fit = not-false _ (when_not _ _ ((head t sc w body sound).0 (rule 21 rule21) (is_one_of rules 20 _ refl))) in
    let j = type_of n sc.vars (Some k) body in
    let same : j ≡ bool_kind → k ≡ bool_kind = λ is. fits_one k bool_kind (whole_not_any t k result_is) refl (subst (λ z. fits k z ≡ true) is fit) in (
      v.0,
      use_is t b m (QueryTree.query name params result body) es less ∙ v.1,
      suits_use k j (is_plain n sc.vars body) (is_formula n m) v.0 fit same (told_plain tree lawful m at name params result body there sound) v.2,
    )

pub query_callable : (tree : List DeclTree) → IsLawful tree → (b m : ℕ) (at : Span) (q : QueryTree) → slice_get tree m ≡ Some (DeclTree.node at (DeclForm.query q))
    → m < b → Ready (tables_of tree) m (uses_before (tables_of tree) m) → (vs : Vars) (x : Ident) (steps : StepTrees) (name : Name)
    → misfit_in (of_entry (names_of tree) x steps (Some (entry_of name m (Declared.query q)))) ≡ None
    → Callable (tables_of tree) (uses_before (tables_of tree) b) vs x steps (Some (entry_of name m (Declared.query q)))
query_callable tree lawful b m at q there less ready vs x (StepTrees.more_steps s steps) name fit = absurd cc
query_callable tree lawful b m at (QueryTree.query own params result body) there less ready vs x StepTrees.no_steps name fit =
    let t = tables_of tree in
    let n = names_of tree in
    let q = QueryTree.query own params result body in
    let front = param_sites n m role.QueryParam params in
    let p = all_parts (Sound t) front _ (query_sound tree lawful m at q there) in
    let params_are = param_sites_whole t ready.bool m role.QueryParam params p.0 in
    let result_is = written_whole t ready.bool m role.QueryResult result p.1.0 in
    record {
      c = taking [] (param_kinds n params) (use_of m q);
      is = refl;
      along = Along.ends;
      args = refl;
      keys_whole = tt;
      args_whole = params_are;
      whole = result_is;
      gives = λ keys es e h. use_valued tree lawful b m at own params result body there less ready params_are result_is p.1.1 es h;
      acts = λ z e h. absurd cc;
    }
