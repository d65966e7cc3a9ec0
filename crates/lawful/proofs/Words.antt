-- What words on calls take, and that they become no records.
use Rattle.std.proofs.Common.{◌≡◌, ℕ, Bool, true, false, ◌&&◌, List, [], ◌∷◌, Option, Some, None, refl, ap, subst, cond, inl, inr}
use Rattle.std.specs.Prelude.{is_some}
use Rattle.rp_value.specs.declared.tables.Ty.{Ty}
use Rattle.rp_value.specs.declared.tables.Ty.TheVariants as ty
use Rattle.rp_grammar.specs.declared.operator.CallWord.{CallWord}
use Rattle.rp_grammar.specs.declared.operator.CallWord.TheVariants as called
use Rattle.rp_grammar.specs.Trees.{ExprTree, ExprForm, ExprTrees}
use Rattle.rp_lang.specs.Exprs.{Ex, Exs, no_ex, also_ex}
use Rattle.rp_lang.specs.Typing.{is_record_term}
use Rattle.type_rules.specs.declared.kind.Kind.{Kind}
use Rattle.type_rules.specs.Accesses.{Var}
use Rattle.type_rules.specs.Sites.{Scope}
use Rattle.type_rules.specs.ExprSites.{word_args, first_type, before_kind, is_invocation, call_kind, invocation_kind}
use Rattle.type_rules.specs.ExprSites.{word_of as site_word}
use Rattle.desugaring.specs.Parts.{each}
use Rattle.desugaring.specs.Tables.{Tables, ty_of}
use Rattle.desugaring.specs.Values.{Value, term, formula, word_of}
use Rattle.desugaring.specs.Callees.{Vars, vars_of}
use Rattle.desugaring.specs.Meanings.{Means}
use Rattle.lawful.proofs.Basics.{same_type}
use Rattle.lawful.proofs.Forms.{Takes, one}
use Rattle.lawful.proofs.World.{World, In}

pub takes : (t : Tables) (g : World t) (vs : List Var) (w : CallWord) (es : ExprTrees) → Takes w (word_args t.names vs w es)
takes t g vs called.Visible es = refl
takes t g vs called.Same es = refl
takes t g vs called.Op es = refl
takes t g vs called.Origin es = refl
takes t g vs called.Info es = refl
takes t g vs called.Result es = refl
takes t g vs called.Before es = by_first (is_invocation (first_type t.names vs es).base) where
  by_first : (inv : Bool) → Takes called.Before (cond inv invocation_kind call_kind ∷ cond inv invocation_kind call_kind ∷ [])
  by_first true = inr refl
  by_first false = inl refl

pub word_types : (t : Tables) (g : World t) (vs : List Var) (w : CallWord) (es : ExprTrees) → (tys : List Ty) × (each (ty_of t) (word_args t.names vs w es) ≡ Some tys)
word_types t g vs called.Visible es = (ty.Call ∷ [], refl)
word_types t g vs called.Same es = (ty.Call ∷ ty.Call ∷ [], refl)
word_types t g vs called.Op es = (ty.Call ∷ [], refl)
word_types t g vs called.Origin es = (ty.Call ∷ [], refl)
word_types t g vs called.Info es = (ty.Inv ∷ [], refl)
word_types t g vs called.Result es = (ty.Inv ∷ [], refl)
word_types t g vs called.Before es = by_first t g (is_invocation (first_type t.names vs es).base) where
  by_first : (t : Tables) (g : World t) (inv : Bool) → (tys : List Ty) × (each (ty_of t) (cond inv invocation_kind call_kind ∷ cond inv invocation_kind call_kind ∷ []) ≡ Some tys)
  by_first t g true = (ty.Inv ∷ ty.Inv ∷ [], refl)
  by_first t g false = (ty.Call ∷ ty.Call ∷ [], refl)

pub first_same : (t : Tables) (g : World t) (bs : List Ty) (vs : Vars) (sc : Scope) (es : ExprTrees) → In t g bs vs sc
    → first_type t.names sc.vars es ≡ first_type t.names (vars_of vs) es
first_same t g bs vs sc ExprTrees.no_exprs st = refl
first_same t g bs vs sc (ExprTrees.more_exprs e es) st = same_type t g.p g.f bs t.names sc.vars vs st.sees None e

pub args_same : (t : Tables) (g : World t) (bs : List Ty) (vs : Vars) (sc : Scope) (w : CallWord) (es : ExprTrees) → In t g bs vs sc
    → word_args t.names sc.vars w es ≡ word_args t.names (vars_of vs) w es
args_same t g bs vs sc called.Visible es st = refl
args_same t g bs vs sc called.Same es st = refl
args_same t g bs vs sc called.Op es st = refl
args_same t g bs vs sc called.Origin es st = refl
args_same t g bs vs sc called.Info es st = refl
args_same t g bs vs sc called.Result es st = refl
args_same t g bs vs sc called.Before es st = ap (λ k. before_kind k ∷ before_kind k ∷ []) (first_same t g bs vs sc es st)

-- a word is no record
abbrev pub record_in : Value → Bool
record_in (term x) = is_record_term x
record_in (formula f) = false

pub word_no_record : (w : CallWord) (xs : Exs) (y : Ex) → word_of w xs ≡ Some (term y) → is_record_term y ≡ false
word_no_record w no_ex y e = absurd cc
word_no_record called.Visible (also_ex x no_ex) y e = absurd cc
word_no_record called.Before (also_ex x no_ex) y e = absurd cc
word_no_record called.Same (also_ex x no_ex) y e = absurd cc
word_no_record called.Op (also_ex x no_ex) y e = subst (λ v. record_in v ≡ false) (one e) refl
word_no_record called.Origin (also_ex x no_ex) y e = subst (λ v. record_in v ≡ false) (one e) refl
word_no_record called.Info (also_ex x no_ex) y e = subst (λ v. record_in v ≡ false) (one e) refl
word_no_record called.Result (also_ex x no_ex) y e = subst (λ v. record_in v ≡ false) (one e) refl
word_no_record called.Before (also_ex x (also_ex z no_ex)) y e = absurd cc
word_no_record called.Same (also_ex x (also_ex z no_ex)) y e = absurd cc
word_no_record called.Visible (also_ex x (also_ex z no_ex)) y e = absurd cc
word_no_record called.Op (also_ex x (also_ex z no_ex)) y e = absurd cc
word_no_record called.Origin (also_ex x (also_ex z no_ex)) y e = absurd cc
word_no_record called.Info (also_ex x (also_ex z no_ex)) y e = absurd cc
word_no_record called.Result (also_ex x (also_ex z no_ex)) y e = absurd cc
word_no_record w (also_ex x (also_ex z (also_ex u us))) y e = absurd cc

pub call_no_record : (t : Tables) (b : ℕ) (vs : Vars) (asked : Option Kind) (e : ExprTree) (y : Ex) → Means t b vs asked e (term y)
    → is_some (site_word e) ≡ true → is_record_term y ≡ false
call_no_record t b vs asked (ExprTree.node s (ExprForm.call w es)) y (Means.word {xs = xs} ms is) word = word_no_record w xs y is
call_no_record t b vs asked (ExprTree.node s (ExprForm.plus d e)) y m word = absurd cc
call_no_record t b vs asked (ExprTree.node s (ExprForm.minus d e)) y m word = absurd cc
call_no_record t b vs asked (ExprTree.node s (ExprForm.int i)) y m word = absurd cc
call_no_record t b vs asked (ExprTree.node s (ExprForm.str bytes)) y m word = absurd cc
call_no_record t b vs asked (ExprTree.node s (ExprForm.truth h)) y m word = absurd cc
call_no_record t b vs asked (ExprTree.node s ExprForm.none_word) y m word = absurd cc
call_no_record t b vs asked (ExprTree.node s (ExprForm.some_of e)) y m word = absurd cc
call_no_record t b vs asked (ExprTree.node s ExprForm.unreturned) y m word = absurd cc
call_no_record t b vs asked (ExprTree.node s ExprForm.tx) y m word = absurd cc
call_no_record t b vs asked (ExprTree.node s (ExprForm.access a)) y m word = absurd cc
call_no_record t b vs asked (ExprTree.node s _) y m word = absurd cc

pub apart : (a b : Bool) → (a ≡ true → b ≡ false) → (a && b) ≡ false
apart true b h = h refl
apart false b h = refl
