-- The formula of logic for a formula of a program.
use Rattle.std.specs.Prelude.{ℕ, suc, pos, negsuc, Bool, true, false, List, [], ◌∷◌, length, map, Option, Some, None, slice_get, if◌then◌else◌}
use Rattle.rp_value.specs.declared.tables.Ty.{Ty}
use Rattle.rp_value.specs.declared.tables.Ty.TheVariants as ty
use Rattle.rp_lang.specs.Exprs as ex
use Rattle.rp_lang.specs.Exprs.{Ex, Exs, no_ex, also_ex}
use Rattle.rp_lang.specs.Formulas as fo
use Rattle.rp_lang.specs.Formulas.{Fo, Fos, no_fo, also_fo, Arms, no_arm, also_arm}
use Rattle.rp_lang.specs.declared.query.QueryDecl.{QueryDecl}
use Rattle.rp_lang.specs.Types.{fields_of}
use Rattle.rp_lang.specs.Typing.{is_get, is_among}
use Rattle.rp_lang.specs.Programs.{Prog}
use Rattle.rp_logic.specs.Terms as tm
use Rattle.rp_logic.specs.Terms.{Tm, Tms, no_tm, also_tm}
use Rattle.rp_logic.specs.Formulas as fm
use Rattle.rp_logic.specs.Formulas.{Fm, Fms, no_fm, also_fm}
use Rattle.rp_logic.specs.Dual.{dual}
use Rattle.rp_logic.specs.Filling.{raised}
use Rattle.rp_symbols.specs.Numbers.{call_sort, inv_sort, atom_sort, op_con, info_con, outcome_con, unreturned_con, same_rel, op_fn, origin_fn, info_fn, add_fn, sub_fn}
use Rattle.crdt_enc.specs.Places.{At}
use Rattle.rp_symbols.specs.Numbers.{val_fn}
use Rattle.crdt_enc.specs.Builders.{one_fm}
use Rattle.reshape.specs.Joined.{joined}
use Rattle.crdt_enc.specs.Builders.{over_one, over_two, is_before, applied, tms_of, selectors}
use Rattle.crdt_enc.specs.QueryFormulas.{query_formula}

-- # Terms

-- a variable of the formula: its type, and the term that stands for it
pub record Bound : Type 0 where
  pub ty : Ty
  pub term : Tm

-- where a formula stands: the closed terms of the slots, and the variables around it, the innermost first
pub record Around : Type 0 where
  pub slots : List Tm
  pub bounds : List Bound

-- an invariant stands by itself
abbrev pub nothing_around : Around
nothing_around = record { slots = []; bounds = [] }

-- stands for what has no meaning: `false`
abbrev pub false_tm : Tm
false_tm = tm.Con 0 no_tm

-- the term, where there is one
abbrev pub or_false_tm : Option Tm → Tm
or_false_tm None = false_tm
or_false_tm (Some t) = t

-- the term of a variable, where there is one
abbrev pub bound_tm : Option Bound → Tm
bound_tm None = false_tm
bound_tm (Some b) = b.term

-- The term of an expression, by its form: a query is the function of its value, and what is said of a call or an
-- invocation is a function of it.
abbrev mutual
  pub term_of : Prog → At → Around → Ex → Tm
  term_of p at a (ex.Slot s) = or_false_tm (slice_get a.slots s)
  term_of p at a (ex.Bound n) = bound_tm (slice_get a.bounds n)
  term_of p at a (ex.Int n) = tm.Int n
  term_of p at a (ex.Str bytes) = tm.Str bytes
  term_of p at a (ex.Con con args) = tm.Con con (terms_of p at a args)
  term_of p at a (ex.Plus e n) = tm.Plus (term_of p at a e) n
  term_of p at a (ex.Add d e) = tm.Fn add_fn (also_tm (term_of p at a d) (also_tm (term_of p at a e) no_tm))
  term_of p at a (ex.Sub d e) = tm.Fn sub_fn (also_tm (term_of p at a d) (also_tm (term_of p at a e) no_tm))
  term_of p at a (ex.Query query args) = tm.Fn (val_fn p at.view query) (terms_of p at a args)
  term_of p at a (ex.OpOf call) = applied op_fn (term_of p at a call)
  term_of p at a (ex.OpTerm op args) = tm.Con (op_con p op) (terms_of p at a args)
  term_of p at a (ex.OriginOf call) = applied origin_fn (term_of p at a call)
  term_of p at a (ex.InfoOf inv) = applied info_fn (term_of p at a inv)
  term_of p at a (ex.InfoTerm proc args) = tm.Con (info_con p proc) (terms_of p at a args)
  term_of p at a (ex.ResultOf inv) = applied at.results (term_of p at a inv)
  term_of p at a (ex.ResultTerm proc) = tm.Con (outcome_con p proc) no_tm
  term_of p at a (ex.ResultWith proc e) = tm.Con (outcome_con p proc) (also_tm (term_of p at a e) no_tm)
  term_of p at a ex.Unreturned = tm.Con (unreturned_con p) no_tm

  pub terms_of : Prog → At → Around → Exs → Tms
  terms_of p at a no_ex = no_tm
  terms_of p at a (also_ex e es) = also_tm (term_of p at a e) (terms_of p at a es)

-- terms as a list
abbrev pub list_of : Tms → List Tm
list_of no_tm = []
list_of (also_tm t ts) = t ∷ list_of ts

-- # Variables

-- the variables under so many quantifiers more
abbrev pub raised_bounds : ℕ → List Bound → List Bound
raised_bounds k bounds = map (λ b. record { ty = b.ty; term = raised k b.term }) bounds

-- what stands around a quantifier's body
abbrev pub under : Ty → Around → Around
under ty a = record { slots = a.slots; bounds = record { ty = ty; term = tm.Var 0 } ∷ raised_bounds 1 a.bounds }

-- with the fields of a matched term's constructor, each a selector term of it
abbrev pub under_fields : ℕ → ℕ → List Ty → Tm → List Bound → List Bound
under_fields con i [] t bounds = bounds
under_fields con i (ty ∷ tys) t bounds = under_fields con (suc i) tys t (record { ty = ty; term = tm.Sel con i t } ∷ bounds)

-- what stands around the body of an arm of this constructor
abbrev pub under_arm : Prog → ℕ → Tm → Around → Around
under_arm p con t a = record { slots = a.slots; bounds = under_fields con 0 (fields_of p.cons con) t a.bounds }

-- the sort that a quantifier ranges over
abbrev pub sort_of : Ty → ℕ
sort_of ty.Inv = inv_sort
sort_of (ty.Atom n) = atom_sort n
sort_of _ = call_sort

-- what the innermost variable has to be: a committed call, or an invocation that exists
abbrev pub guard : Bool → At → Ty → Fms
guard sign at ty.Call = one_fm (over_one sign at.calls (tm.Var 0))
guard sign at ty.Inv = one_fm (over_one sign at.invs (tm.Var 0))
guard sign at _ = no_fm

-- for all that meet the guard, whose dual these parts are
abbrev pub each_under : Fms → Fm → Fm
each_under no_fm f = f
each_under (also_fm g gs) f = fm.Or (also_fm g (also_fm f gs))

-- for some that meets the guard
abbrev pub some_under : Fms → Fm → Fm
some_under no_fm f = f
some_under (also_fm g gs) f = fm.And (also_fm g (also_fm f gs))

-- # Invocations one before the other

-- the innermost variable is a committed call of the invocation
abbrev pub done_by : Bool → At → Tm → Tm → Fms
done_by sign at call inv = also_fm (over_one sign at.calls call) (one_fm (fm.Lit sign (tm.Equal (applied origin_fn call) inv)))

-- some committed call is of the invocation
abbrev pub does_one : At → Tm → Fm
does_one at inv = fm.Ex call_sort (fm.And (done_by true at (tm.Var 0) (raised 1 inv)))

-- both have a committed call, and each of the first is before each of the other
abbrev pub inv_before : At → Tm → Tm → Fm
inv_before at i j =
    let one = done_by false at (tm.Var 1) (raised 2 i) in
    let other = done_by false at (tm.Var 0) (raised 2 j) in
    let before = one_fm (is_before true (tm.Var 1) (tm.Var 0)) in
    let all = fm.All call_sort (fm.All call_sort (fm.Or (joined one (joined other before)))) in
    fm.And (also_fm (does_one at i) (also_fm (does_one at j) (one_fm all)))

-- invocations are of this type
abbrev pub is_inv_type : Ty → Bool
is_inv_type ty.Inv = true
is_inv_type _ = false

-- the variable stands for an invocation
abbrev pub is_inv : Option Bound → Bool
is_inv None = false
is_inv (Some b) = is_inv_type b.ty

-- the expression stands for an invocation
abbrev pub gives_inv : Around → Ex → Bool
gives_inv a (ex.Bound n) = is_inv (slice_get a.bounds n)
gives_inv a (ex.OriginOf call) = true
gives_inv a _ = false

-- # Formulas

-- the query holds or not
abbrev pub asks : Option QueryDecl → Bool
asks None = false
asks (Some query) = if is_get query.kind then false else true

-- a query that holds or not, or a term of type `Bool`
abbrev pub true_formula : Prog → At → Around → Ex → Fm
true_formula p at a (ex.Query query args) =
    if asks (slice_get p.queries query) then query_formula p at.view query (list_of (terms_of p at a args))
    else fm.Lit true (tm.Equal (term_of p at a (ex.Query query args)) (tm.Con 1 no_tm))
true_formula p at a e = fm.Lit true (tm.Equal (term_of p at a e) (tm.Con 1 no_tm))

-- built with this constructor
abbrev pub is_built : Prog → ℕ → Tm → Fm
is_built p con t = fm.Lit true (tm.Equal t (tm.Con con (tms_of (selectors con 0 (length (fields_of p.cons con)) t))))

-- The formula by its form. Formulas over truth values have no quantifier and no guard.
abbrev mutual
  pub formula_of : Prog → At → Around → Fo → Fm
  formula_of p at a (fo.And parts) = fm.And (formulas_of p at a parts)
  formula_of p at a (fo.Or parts) = fm.Or (formulas_of p at a parts)
  formula_of p at a (fo.Not f) = dual (formula_of p at a f)
  formula_of p at a (fo.Implies f g) = fm.Or (also_fm (dual (formula_of p at a f)) (one_fm (formula_of p at a g)))
  formula_of p at a (fo.All over body) =
      fm.All (sort_of over) (each_under (guard false at over) (formula_of p at (under over a) body))
  formula_of p at a (fo.Any over body) =
      fm.Ex (sort_of over) (some_under (guard true at over) (formula_of p at (under over a) body))
  formula_of p at a (fo.Holds e) = true_formula p at a e
  formula_of p at a (fo.Equal d e) = fm.Lit true (tm.Equal (term_of p at a d) (term_of p at a e))
  formula_of p at a (fo.Less d e) = fm.Lit true (tm.Le (term_of p at a d) (term_of p at a e) (negsuc 0))
  formula_of p at a (fo.AtMost d e) = fm.Lit true (tm.Le (term_of p at a d) (term_of p at a e) (pos 0))
  formula_of p at a (fo.Visible call) = over_one true at.view (term_of p at a call)
  formula_of p at a (fo.Before d e) =
      if gives_inv a d then inv_before at (term_of p at a d) (term_of p at a e)
      else is_before true (term_of p at a d) (term_of p at a e)
  formula_of p at a (fo.Same d e) = over_two true same_rel (term_of p at a d) (term_of p at a e)
  formula_of p at a (fo.Match on arms) = fm.Or (arms_of p at a (term_of p at a on) [] arms)

  pub formulas_of : Prog → At → Around → Fos → Fms
  formulas_of p at a no_fo = no_fm
  formulas_of p at a (also_fo f fs) = also_fm (formula_of p at a f) (formulas_of p at a fs)

  -- the first arm of the term's constructor: an arm whose constructor was seen stands for nothing
  pub arms_of : Prog → At → Around → Tm → List ℕ → Arms → Fms
  arms_of p at a t seen no_arm = no_fm
  arms_of p at a t seen (also_arm con body rest) =
      if is_among con seen then arms_of p at a t seen rest
      else also_fm
      (fm.And (also_fm (is_built p con t) (one_fm (formula_of p at (under_arm p con t a) body))))
      (arms_of p at a t (con ∷ seen) rest)
