-- The rules T01 to T24. Each says of a place whether it is broken there, and at which token.
use Rattle.std.specs.Prelude.{ℕ, length, Bool, true, false, not, ◌&&◌, ◌||◌, ◌==◌, nat_le, List, [], ◌∷◌, codes, Option, Some, None, is_some, if◌then◌else◌}
use Rattle.std.specs.List.{list_any}
use Rattle.rp_span.specs.declared.Span.{Span}
use Rattle.rp_grammar.specs.declared.operator.CallWord.{CallWord}
use Rattle.rp_grammar.specs.declared.operator.CallWord.TheVariants as called
use Rattle.rp_grammar.specs.Trees.{Ident, TypeTree, TypeForm, ParamTree, ExprTree, ExprForm, AccessTree, StepTree, StepTrees, ArgTrees}
use Rattle.type_rules.specs.declared.kind.Kind.{Kind}
use Rattle.type_rules.specs.declared.role.Role.{Role}
use Rattle.type_rules.specs.declared.role.Role.TheVariants as role
use Rattle.type_rules.specs.Names.{Name, Names, TypeSort, TypeEntry, Declared, Entry, is_among, same_name, text_of, param_type, type_named, entry_named}
use Rattle.type_rules.specs.Kinds.{is_open, is_unknown, is_any, is_ordinary, fits, kind_of, innermost}
use Rattle.type_rules.specs.Starts.{span_of, type_start, start}
use Rattle.type_rules.specs.Paths.{is_operation}
use Rattle.type_rules.specs.Accesses.{Var, find_var, Access, access_of, args_fit, count}
use Rattle.type_rules.specs.Typing.{type_of, is_plain}
use Rattle.type_rules.specs.Sites.{Scope, Want, Leaving, Site}
use Rattle.type_rules.specs.Matches.{Case, find_case, cases_of}

-- where a rule is broken
abbrev pub Rule : Type 0
Rule = Names → Site → Option Span

abbrev pub when : Bool → Span → Option Span
when broken at = if broken then Some at else None

-- # Names

abbrev pub is_var : List Var → Ident → Bool
is_var vs x = is_some (find_var vs (text_of x))

abbrev pub is_declared : Names → Ident → Bool
is_declared n x = is_some (entry_named n (text_of x))

-- nothing in sight has the name
abbrev pub is_out_of_sight : Names → Scope → Ident → Bool
is_out_of_sight n sc x = not (is_var sc.vars x) && not (is_declared n x)

abbrev pub is_later : Scope → Ident → Bool
is_later sc x = is_among (text_of x) sc.later

abbrev pub root_of : AccessTree → Ident
root_of (AccessTree.path x steps args) = x

abbrev pub arguments_of : AccessTree → ArgTrees
arguments_of (AccessTree.path x steps args) = args

-- # T01: names that differ

abbrev pub rule01 : Rule
rule01 n (Site.named before x) = when (is_among (text_of x) before) (span_of x)
rule01 n _ = None

-- # T02: a type is declared before its use

abbrev pub is_before : ℕ → Option TypeEntry → Bool
is_before k None = false
is_before k (Some e) = not (nat_le k e.decl)

abbrev pub type_is_before : Names → ℕ → Name → Bool
type_is_before n k x = is_before k (type_named n x)

abbrev pub late_type : Names → ℕ → TypeTree → Option Span
late_type n k (TypeTree.node at (TypeForm.named x)) = when (not (type_is_before n k x)) at
late_type n k (TypeTree.node at form) = None

abbrev pub rule02 : Rule
rule02 n (Site.written k r t) = late_type n k (innermost t)
rule02 n (Site.made k v x) = when (not (type_is_before n k (text_of x))) (span_of x)
rule02 n _ = None

-- # T03: a query is declared before its use

abbrev pub is_query : Declared → Bool
is_query (Declared.query q) = true
is_query (Declared.root c) = false
is_query (Declared.proc p) = false
is_query (Declared.con type c) = false

abbrev pub is_late_query : ℕ → Option Entry → Bool
is_late_query k None = false
is_late_query k (Some e) = is_query e.what && nat_le k e.decl

abbrev pub late_query : Names → Scope → Ident → Option Span
late_query n sc x = when (not (is_var sc.vars x) && is_late_query sc.decl (entry_named n (text_of x))) (span_of x)

abbrev pub rule03 : Rule
rule03 n (Site.place sc w (ExprTree.node at (ExprForm.access a))) = late_query n sc (root_of a)
rule03 n (Site.statement sc a) = late_query n sc (root_of a)
rule03 n _ = None

-- # T04: every other name is declared. One that a `var` declares later is for T15

abbrev pub nowhere : Names → Scope → Ident → Option Span
nowhere n sc x = when (is_out_of_sight n sc x && not (is_later sc x)) (span_of x)

-- words, which no text declares
abbrev pub is_con_word : Name → Bool
is_con_word x = is_among x (codes "none" ∷ codes "some" ∷ codes "true" ∷ codes "false" ∷ [])

abbrev pub rule04 : Rule
rule04 n (Site.place sc w (ExprTree.node at (ExprForm.access a))) = nowhere n sc (root_of a)
rule04 n (Site.statement sc a) = nowhere n sc (root_of a)
rule04 n (Site.assigns sc x) = nowhere n sc x
rule04 n (Site.pattern k before x many) = when (not (is_con_word (text_of x)) && not (is_declared n x)) (span_of x)
rule04 n _ = None

-- # T05: `new` names an id type

abbrev pub is_id_sort : TypeSort → Bool
is_id_sort TypeSort.id_type = true
is_id_sort TypeSort.opaque = false
is_id_sort (TypeSort.datatype cons) = false

abbrev pub is_id_type : Option TypeEntry → Bool
is_id_type None = false
is_id_type (Some e) = is_id_sort e.sort

abbrev pub rule05 : Rule
rule05 n (Site.made k v x) = when (not (is_id_type (type_named n (text_of x)))) (span_of x)
rule05 n _ = None

-- # T06: `call` and `invocation` stand alone, in quantifiers and in parameters of queries

abbrev pub takes_calls : Role → Bool
takes_calls role.Quantified = true
takes_calls role.QueryParam = true
takes_calls role.Field = false
takes_calls role.QueryResult = false
takes_calls role.Variable = false

abbrev pub is_call_form : TypeForm → Bool
is_call_form TypeForm.call = true
is_call_form TypeForm.invocation = true
is_call_form _ = false

abbrev pub is_maybe_form : TypeForm → Bool
is_maybe_form (TypeForm.maybe t) = true
is_maybe_form _ = false

abbrev pub form_of : TypeTree → TypeForm
form_of (TypeTree.node at form) = form

-- the word inside, where it may not stand
abbrev pub stray_word : Bool → TypeTree → Option Span
stray_word may (TypeTree.node at form) = when (is_call_form form && not may) at

abbrev pub rule06 : Rule
rule06 n (Site.written k r t) = stray_word (takes_calls r && not (is_maybe_form (form_of t))) (innermost t)
rule06 n _ = None

-- # T07, T08 and T24: types of data, and of quantified variables

abbrev pub is_field : Role → Bool
is_field role.Field = true
is_field _ = false

abbrev pub is_variable : Role → Bool
is_variable role.Variable = true
is_variable _ = false

abbrev pub is_quantified : Role → Bool
is_quantified role.Quantified = true
is_quantified _ = false

abbrev pub rule07 : Rule
rule07 n (Site.written k r t) = when (is_field r && not (is_ordinary (kind_of n t))) (type_start t)
rule07 n _ = None

abbrev pub rule24 : Rule
rule24 n (Site.written k r t) = when (is_variable r && not (is_ordinary (kind_of n t))) (type_start t)
rule24 n _ = None

abbrev pub is_datatype_sort : TypeSort → Bool
is_datatype_sort (TypeSort.datatype cons) = true
is_datatype_sort TypeSort.id_type = false
is_datatype_sort TypeSort.opaque = false

abbrev pub is_datatype : Option TypeEntry → Bool
is_datatype None = false
is_datatype (Some e) = is_datatype_sort e.sort

-- an id type, an opaque type, `call` or `invocation`; an undeclared type breaks nothing further
abbrev pub is_range : Names → TypeForm → Bool
is_range n (TypeForm.named x) = not (is_datatype (type_named n x))
is_range n TypeForm.call = true
is_range n TypeForm.invocation = true
is_range n TypeForm.bool = false
is_range n TypeForm.int = false
is_range n TypeForm.text = false
is_range n (TypeForm.maybe t) = false

abbrev pub rule08 : Rule
rule08 n (Site.written k r t) = when (is_quantified r && not (is_range n (form_of t))) (type_start t)
rule08 n _ = None

-- # T09: words on calls and invocations stand in invariants, and in queries that only invariants use

-- `p.returned`
abbrev pub returned_in : StepTrees → Option Span
returned_in StepTrees.no_steps = None
returned_in (StepTrees.more_steps (StepTree.returned at) steps) = Some at
returned_in (StepTrees.more_steps (StepTree.dot x) steps) = returned_in steps
returned_in (StepTrees.more_steps (StepTree.key e) steps) = returned_in steps

abbrev pub returned_word : AccessTree → Option Span
returned_word (AccessTree.path x steps args) = returned_in steps

abbrev pub is_over_calls : ParamTree → Bool
is_over_calls p = is_call_form (form_of (param_type p))

abbrev pub word_in : ExprTree → Option Span
word_in (ExprTree.node at (ExprForm.call w es)) = Some (start (ExprTree.node at (ExprForm.call w es)))
word_in (ExprTree.node at ExprForm.unreturned) = Some at
word_in (ExprTree.node at ExprForm.tx) = Some at
word_in (ExprTree.node at (ExprForm.forall p e)) = when (is_over_calls p) (start (ExprTree.node at (ExprForm.forall p e)))
word_in (ExprTree.node at (ExprForm.exists p e)) = when (is_over_calls p) (start (ExprTree.node at (ExprForm.exists p e)))
word_in (ExprTree.node at (ExprForm.access a)) = returned_word a
word_in (ExprTree.node at form) = None

abbrev pub unless : Bool → Option Span → Option Span
unless may found = if may then None else found

abbrev pub rule09 : Rule
rule09 n (Site.place sc w e) = unless sc.words (word_in e)
rule09 n (Site.statement sc a) = unless sc.words (returned_word a)
rule09 n _ = None

-- # T10, T14, T21, T22 and T23: the type that a place asks

-- the place asks a type, and the expression has another
abbrev pub misfits : Names → Scope → Want → ExprTree → Option Kind → Bool
misfits n sc w e None = false
misfits n sc w e (Some k) = not (fits k (type_of n sc.vars w.asked e))

-- by this rule
abbrev pub is_wrong : ℕ → Names → Scope → Want → ExprTree → Bool
is_wrong rule n sc w e = w.rule == rule && misfits n sc w e w.asked

-- a `Maybe` type, or an unknown one
abbrev pub is_maybe_asked : Option Kind → Bool
is_maybe_asked None = false
is_maybe_asked (Some k) = not (is_open k.base) && (not (k.maybes == 0) || is_unknown k.base)

-- a `none` whose place doesn't ask a `Maybe` type
abbrev pub is_lone_none : Want → ExprTree → Bool
is_lone_none w (ExprTree.node at ExprForm.none_word) = not (is_maybe_asked w.asked)
is_lone_none w (ExprTree.node at form) = false

-- `some` of a term that isn't of a type of data
abbrev pub is_some_of_no_data : Names → Scope → Want → ExprTree → Bool
is_some_of_no_data n sc w (ExprTree.node at (ExprForm.some_of e)) =
    not (is_ordinary (type_of n sc.vars w.asked (ExprTree.node at (ExprForm.some_of e))))
is_some_of_no_data n sc w (ExprTree.node at form) = false

abbrev pub rule10 : Rule
rule10 n (Site.place sc w e) = when (is_wrong 10 n sc w e || is_lone_none w e || is_some_of_no_data n sc w e) (start e)
rule10 n _ = None

-- # T11: plain terms

abbrev pub rule11 : Rule
rule11 n (Site.place sc w e) = when (w.plain && not (is_plain n sc.vars e)) (start e)
rule11 n _ = None

-- # T12: paths

abbrev pub misfit_in : Access → Option Span
misfit_in (Access.misfit at) = Some at
misfit_in _ = None

abbrev pub wrong_path : Names → Scope → AccessTree → Option Span
wrong_path n sc a = misfit_in (access_of n sc.vars a)

abbrev pub rule12 : Rule
rule12 n (Site.place sc w (ExprTree.node at (ExprForm.access a))) = wrong_path n sc a
rule12 n (Site.statement sc a) = wrong_path n sc a
rule12 n _ = None

-- # T13: where operations and procedures stand

abbrev pub is_op_word : CallWord → Bool
is_op_word called.Op = true
is_op_word _ = false

abbrev pub is_info_word : CallWord → Bool
is_info_word called.Info = true
is_info_word _ = false

abbrev pub is_result_word : CallWord → Bool
is_result_word called.Result = true
is_result_word _ = false

abbrev pub is_word : (CallWord → Bool) → Option CallWord → Bool
is_word test None = false
is_word test (Some word) = test word

-- the other side of an equality is such a word
abbrev pub is_across : (CallWord → Bool) → Want → Bool
is_across test w = is_word test w.across

-- an operation beside `op(c)`, a procedure beside `info(i)`, its outcome beside `result(i)`
abbrev pub access_stands : Want → Access → Bool
access_stands w (Access.member m) = not (is_operation m.does) || is_across is_op_word w
access_stands w (Access.procedure p) = is_across is_info_word w
access_stands w (Access.returned p) = is_across is_result_word w
access_stands w _ = true

abbrev pub expr_stands : Names → Scope → Want → ExprTree → Bool
expr_stands n sc w (ExprTree.node at (ExprForm.access a)) = access_stands w (access_of n sc.vars a)
expr_stands n sc w (ExprTree.node at ExprForm.unreturned) = is_across is_result_word w
expr_stands n sc w (ExprTree.node at ExprForm.tx) = is_across is_op_word w
expr_stands n sc w (ExprTree.node at form) = true

-- an operation; what an unknown name or a wrong path means isn't known
abbrev pub is_statement : Access → Bool
is_statement (Access.member m) = is_operation m.does
is_statement Access.unknown = true
is_statement (Access.misfit at) = true
is_statement _ = false

abbrev pub rule13 : Rule
rule13 n (Site.place sc w e) = when (not (expr_stands n sc w e)) (start e)
rule13 n (Site.statement sc a) = when (not (is_statement (access_of n sc.vars a))) (span_of (root_of a))
rule13 n _ = None

-- # T14: arguments

abbrev pub word_takes : CallWord → ℕ
word_takes called.Before = 2
word_takes called.Same = 2
word_takes called.Visible = 1
word_takes called.Op = 1
word_takes called.Origin = 1
word_takes called.Info = 1
word_takes called.Result = 1

-- parentheses and the number of arguments
abbrev pub access_fits : Names → Scope → AccessTree → Bool
access_fits n sc a = args_fit n (access_of n sc.vars a) (arguments_of a)

abbrev pub has_its_arguments : Names → Scope → ExprTree → Bool
has_its_arguments n sc (ExprTree.node at (ExprForm.call w es)) = count es == word_takes w
has_its_arguments n sc (ExprTree.node at (ExprForm.access a)) = access_fits n sc a
has_its_arguments n sc (ExprTree.node at form) = true

abbrev pub rule14 : Rule
rule14 n (Site.place sc w e) = when (is_wrong 14 n sc w e || not (has_its_arguments n sc e)) (start e)
rule14 n (Site.statement sc a) = when (not (access_fits n sc a)) (span_of (root_of a))
rule14 n _ = None

-- # T15: variables are declared before their use, and have names of their own

abbrev pub is_no_con : Declared → Bool
is_no_con (Declared.root c) = true
is_no_con (Declared.query q) = true
is_no_con (Declared.proc p) = true
is_no_con (Declared.con type c) = false

abbrev pub is_taken_by : Name → Entry → Bool
is_taken_by x e = same_name e.name x && is_no_con e.what

-- a root, a query or a procedure has the name
abbrev pub is_taken : Names → Ident → Bool
is_taken n x = list_any (is_taken_by (text_of x)) n.entries

abbrev pub too_early : Names → Scope → Ident → Option Span
too_early n sc x = when (is_out_of_sight n sc x && is_later sc x) (span_of x)

abbrev pub rule15 : Rule
rule15 n (Site.declares vs x) = when (is_var vs x || is_taken n x) (span_of x)
rule15 n (Site.place sc w (ExprTree.node at (ExprForm.access a))) = too_early n sc (root_of a)
rule15 n (Site.statement sc a) = too_early n sc (root_of a)
rule15 n (Site.assigns sc x) = when (not (is_var sc.vars x) && (is_declared n x || is_later sc x)) (span_of x)
rule15 n _ = None

-- # T16 and T17: values of variables

abbrev pub is_unset : Option Var → Bool
is_unset None = false
is_unset (Some v) = not v.set

abbrev pub is_fixed : Option Var → Bool
is_fixed None = false
is_fixed (Some v) = v.fixed

abbrev pub rule16 : Rule
rule16 n (Site.place sc w (ExprTree.node at (ExprForm.access a))) = when (is_unset (find_var sc.vars (text_of (root_of a)))) (span_of (root_of a))
rule16 n _ = None

abbrev pub rule17 : Rule
rule17 n (Site.assigns sc x) = when (is_fixed (find_var sc.vars (text_of x))) (span_of x)
rule17 n _ = None

-- # T18: `match`

abbrev pub is_datatype_kind : Names → Kind → Bool
is_datatype_kind n k = is_any k.base || is_some (cases_of n k)

abbrev pub has_every_case : List Name → List Case → Bool
has_every_case names [] = true
has_every_case names (c ∷ cs) = is_among c.name names && has_every_case names cs

abbrev pub is_complete : List Name → Option (List Case) → Bool
is_complete names None = true
is_complete names (Some cs) = has_every_case names cs

abbrev pub case_takes : ℕ → Option Case → Bool
case_takes many None = false
case_takes many (Some c) = length c.fields == many

-- a constructor of the type, with a variable for each field
abbrev pub is_case : Name → ℕ → Option (List Case) → Bool
is_case x many None = true
is_case x many (Some cs) = case_takes many (find_case cs x)

abbrev pub rule18 : Rule
rule18 n (Site.place sc w e) = when (w.rule == 18 && not (is_datatype_kind n (type_of n sc.vars w.asked e))) (start e)
rule18 n (Site.arms at k names) = when (not (is_complete names (cases_of n k))) at
rule18 n (Site.pattern k before x many) = when (is_among (text_of x) before || not (is_case (text_of x) many (cases_of n k))) (span_of x)
rule18 n _ = None

-- # T19 and T20: atomic blocks and returns

abbrev pub rule19 : Rule
rule19 n (Site.opens inside at) = when inside at
rule19 n _ = None

abbrev pub same_truth : Bool → Bool → Bool
same_truth true b = b
same_truth false b = not b

abbrev pub may_leave : Leaving → Bool
may_leave l = not l.inside_atomic && l.last_in_block && same_truth l.has_value l.has_result

abbrev pub rule20 : Rule
rule20 n (Site.leaves l at) = when (not (may_leave l)) at
rule20 n (Site.closes live has_result at) = when (live && has_result) at
rule20 n _ = None

-- # T21, T22 and T23: queries, truths and values

abbrev pub rule21 : Rule
rule21 n (Site.place sc w e) = when (is_wrong 21 n sc w e) (start e)
rule21 n _ = None

abbrev pub rule22 : Rule
rule22 n (Site.place sc w e) = when (is_wrong 22 n sc w e) (start e)
rule22 n _ = None

abbrev pub is_other_type : Kind → Option Var → Bool
is_other_type k None = false
is_other_type k (Some v) = not (fits v.kind k)

-- the variable has another type than the new identifier
abbrev pub is_made_wrong : Names → Option Var → Ident → Bool
is_made_wrong n v x = is_id_type (type_named n (text_of x)) && is_other_type (kind_of n (TypeTree.node (span_of x) (TypeForm.named (text_of x)))) v

abbrev pub rule23 : Rule
rule23 n (Site.place sc w e) = when (is_wrong 23 n sc w e) (start e)
rule23 n (Site.made k v x) = when (is_made_wrong n v x) (span_of x)
rule23 n _ = None

-- # All of them

-- a rule with its number
pub record Numbered : Type 0 where
  pub number : ℕ
  pub rule : Rule

abbrev pub rule : ℕ → Rule → Numbered
rule number r = record { number = number; rule = r }

abbrev pub rules : List Numbered
rules =
    rule 1 rule01 ∷ rule 2 rule02 ∷ rule 3 rule03 ∷ rule 4 rule04 ∷ rule 5 rule05 ∷ rule 6 rule06
    ∷ rule 7 rule07 ∷ rule 8 rule08 ∷ rule 9 rule09 ∷ rule 10 rule10 ∷ rule 11 rule11 ∷ rule 12 rule12
    ∷ rule 13 rule13 ∷ rule 14 rule14 ∷ rule 15 rule15 ∷ rule 16 rule16 ∷ rule 17 rule17 ∷ rule 18 rule18
    ∷ rule 19 rule19 ∷ rule 20 rule20 ∷ rule 21 rule21 ∷ rule 22 rule22 ∷ rule 23 rule23 ∷ rule 24 rule24 ∷ []
