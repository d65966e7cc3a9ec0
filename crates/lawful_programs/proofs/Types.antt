-- The type of an expression of a lawful place has a number.
use Rattle.std.proofs.Common.{◌≡◌, ◌+◌, ◌-◌, ℕ, zero, suc, Bool, true, false, ◌&&◌, ◌||◌, ◌==◌, not, cond, List, Option, Some, None, refl, ap, subst, sym, ◌∙◌, arith}
use Rattle.std.proofs.lemmas.Bool.{and_parts, ne_eqb, not-false, not-true, or_parts, true≢false}
use Rattle.rp_span.specs.declared.Span.{Span}
use Rattle.rp_value.specs.declared.tables.Ty.TheVariants as ty
use Rattle.rp_grammar.specs.declared.operator.CallWord.{CallWord}
use Rattle.rp_grammar.specs.declared.operator.CallWord.TheVariants as called
use Rattle.rp_grammar.specs.Trees.{ExprTree, ExprForm, AccessTree}
use Rattle.type_rules.specs.declared.kind.Kind.{Kind}
use Rattle.type_rules.specs.declared.kind.Base.{Base}
use Rattle.type_rules.specs.declared.kind.Base.TheVariants as base
use Rattle.type_rules.specs.Names.{Names}
use Rattle.type_rules.specs.Kinds.{bool_kind, unknown_kind, plain_kind, maybe_of, is_any, is_unknown, is_open, inside}
use Rattle.type_rules.specs.Accesses.{Var, access_kind, access_of}
use Rattle.type_rules.specs.Typing.{type_of, form_type, called_kind, asked_inside}
use Rattle.type_rules.specs.Sites.{Scope, Want, Site}
use Rattle.type_rules.specs.ExprSites.{expr_sites, held}
use Rattle.type_rules.specs.Rules.{rule, rules, rule10, is_maybe_asked}
use Rattle.type_rules.specs.Faults.{IsOneOf}
use Rattle.desugaring.specs.Appearances.{parts}
use Rattle.desugaring.specs.Tables.{Tables}
use Rattle.lawful.proofs.Basics.{when_not}
use Rattle.lawful.proofs.Forms.{one}
use Rattle.lawful.proofs.Places.{is_one_of}
use Rattle.lawful_programs.specs.Valued.{Sound, AllSound, IsWhole, AskedWhole}
use Rattle.lawful_programs.proofs.Wholes.{bare_whole, truth_whole, int_whole, in_own_parts, maybe_whole, whole_not_any}

-- # Expressions whose type is asked: `none`, in any number of `some`s

abbrev mutual
  pub is_loose : ExprTree → Bool
  is_loose (ExprTree.node at form) = is_loose_form form

  pub is_loose_form : ExprForm → Bool
  is_loose_form ExprForm.none_word = true
  is_loose_form (ExprForm.some_of e) = is_loose e
  is_loose_form _ = false

mutual
  pub firm_type : (n : Names) (vs : List Var) (asked : Option Kind) (e : ExprTree) → is_loose e ≡ false → type_of n vs asked e ≡ type_of n vs None e
  firm_type n vs asked (ExprTree.node at form) e = firm_form n vs asked form e

  firm_form : (n : Names) (vs : List Var) (asked : Option Kind) (form : ExprForm) → is_loose_form form ≡ false
      → form_type n vs asked form ≡ form_type n vs None form
  firm_form n vs asked ExprForm.none_word e = absurd cc
  firm_form n vs asked (ExprForm.some_of inner) e = ap maybe_of (firm_type n vs (asked_inside asked) inner e)
  firm_form n vs asked (ExprForm.access a) e = refl
  firm_form n vs asked (ExprForm.call word es) e = refl
  firm_form n vs asked (ExprForm.implies a b) e = refl
  firm_form n vs asked (ExprForm.or es) e = refl
  firm_form n vs asked (ExprForm.and es) e = refl
  firm_form n vs asked (ExprForm.not a) e = refl
  firm_form n vs asked (ExprForm.forall q a) e = refl
  firm_form n vs asked (ExprForm.exists q a) e = refl
  firm_form n vs asked (ExprForm.compare c a b) e = refl
  firm_form n vs asked (ExprForm.plus a b) e = refl
  firm_form n vs asked (ExprForm.minus a b) e = refl
  firm_form n vs asked (ExprForm.int i) e = refl
  firm_form n vs asked (ExprForm.str bytes) e = refl
  firm_form n vs asked (ExprForm.truth b) e = refl
  firm_form n vs asked ExprForm.unreturned e = refl
  firm_form n vs asked ExprForm.tx e = refl
  firm_form n vs asked (ExprForm.match a arms) e = refl

mutual
  pub loose_open : (n : Names) (vs : List Var) (e : ExprTree) → is_loose e ≡ true → is_open (type_of n vs None e).base ≡ true
  loose_open n vs (ExprTree.node at form) e = loose_open_form n vs form e

  loose_open_form : (n : Names) (vs : List Var) (form : ExprForm) → is_loose_form form ≡ true → is_open (form_type n vs None form).base ≡ true
  loose_open_form n vs ExprForm.none_word e = refl
  loose_open_form n vs (ExprForm.some_of inner) e = loose_open n vs inner e
  loose_open_form n vs _ e = absurd cc

-- what a place asks of such an expression is a `Maybe`, and is its type
pub record IsAsked (n : Names) (vs : List Var) (asked : Option Kind) (e : ExprTree) : Type 0 where
  pub k : Kind
  pub is : asked ≡ Some k
  pub closed : is_open k.base ≡ false
  pub same : is_any k.base ≡ false → type_of n vs (Some k) e ≡ k

none_asked : (n : Names) (vs : List Var) (asked : Option Kind) (at : Span) → is_maybe_asked asked ≡ true → IsAsked n vs asked (ExprTree.node at ExprForm.none_word)
none_asked n vs None at e = absurd cc
none_asked n vs (Some k) at e =
    let p = and_parts (not (is_open k.base)) (not (k.maybes == 0) || is_unknown k.base) e in
    record { k = k; is = refl; closed = not-true _ p.0; same = λ h. by_maybes k (k.maybes == 0) (or_parts (is_unknown k.base) (is_open k.base) h).0 p.1 } where
      by_maybes : (k : Kind) (bare : Bool) → is_unknown k.base ≡ false → (not bare || is_unknown k.base) ≡ true → cond bare unknown_kind k ≡ k
      by_maybes k true h e = absurd (true≢false (sym e ∙ h))
      by_maybes k false h e = refl

-- what is inside of a type that is no unknown one
inner_of : (b : Base) (m : ℕ) (j : Kind) → is_unknown b ≡ false → inside (record { base = b; maybes = m }) ≡ Some j → maybe_of j ≡ record { base = b; maybes = m }
inner_of b zero j known e = by_unknown b j (is_unknown b) known e where
  by_unknown : (b : Base) (j : Kind) (u : Bool) → u ≡ false → cond (u && true) (Some (plain_kind b)) None ≡ Some j → maybe_of j ≡ plain_kind b
  by_unknown b j true h e = absurd cc
  by_unknown b j false h e = absurd cc
inner_of b (suc m) j known e = by_zero b m j (suc m == 0) (is_unknown b) (ne_eqb (suc m) 0 (omega arith)) known e where
  by_zero : (b : Base) (m : ℕ) (j : Kind) (z u : Bool) → z ≡ false → u ≡ false
      → cond (u && z) (Some (record { base = b; maybes = suc m })) (cond z None (Some (record { base = b; maybes = suc m - 1 }))) ≡ Some j
      → maybe_of j ≡ record { base = b; maybes = suc m }
  by_zero b m j true u h g e = absurd cc
  by_zero b m j false true h g e = absurd cc
  by_zero b m j false false h g e =
      let next : suc m - 1 + 1 ≡ suc m = omega arith in
      ap maybe_of (sym (one e)) ∙ ap (λ i. record { base = b; maybes = i }) next

inside_base : (k j : Kind) → inside k ≡ Some j → k.base ≡ j.base
inside_base k j e = by_tests k j (is_unknown k.base && k.maybes == 0) (k.maybes == 0) e where
  by_tests : (k j : Kind) (a z : Bool) → cond a (Some k) (cond z None (Some (record { base = k.base; maybes = k.maybes - 1 }))) ≡ Some j → k.base ≡ j.base
  by_tests k j true z e = ap (λ x. x.base) (one e)
  by_tests k j false true e = absurd cc
  by_tests k j false false e = ap (λ x. x.base) (one e)

some_asked : (n : Names) (vs : List Var) (asked : Option Kind) (at : Span) (e : ExprTree) → IsAsked n vs (asked_inside asked) e
    → IsAsked n vs asked (ExprTree.node at (ExprForm.some_of e))
some_asked n vs None at e r = absurd (no_kind r.k r.is) where
  no_kind : (k : Kind) → asked_inside None ≡ Some k → ⊥
  no_kind k e = absurd cc
some_asked n vs (Some k) at e r =
    let base_is : k.base ≡ r.k.base = inside_base k r.k r.is in
    record {
      k = k;
      is = refl;
      closed = subst (λ b. is_open b ≡ false) (sym base_is) r.closed;
      same = λ h.
          ap (λ o. maybe_of (type_of n vs o e)) r.is ∙ ap maybe_of (r.same (subst (λ b. is_any b ≡ false) base_is h))
          ∙ inner_of k.base k.maybes r.k (or_parts (is_unknown k.base) (is_open k.base) h).0 r.is;
    }

mutual
  pub loose_type : (t : Tables) (sc : Scope) (w : Want) (e : ExprTree) → is_loose e ≡ true → AllSound t (expr_sites t.names sc w e)
      → IsAsked t.names sc.vars w.asked e
  loose_type t sc w (ExprTree.node at form) e sound = loose_form_type t sc w at form e sound

  loose_form_type : (t : Tables) (sc : Scope) (w : Want) (at : Span) (form : ExprForm) → is_loose_form form ≡ true
      → AllSound t (expr_sites t.names sc w (ExprTree.node at form)) → IsAsked t.names sc.vars w.asked (ExprTree.node at form)
  loose_form_type t sc w at ExprForm.none_word e sound =
      let law = or_parts _ _ (or_parts _ _ (when_not _ _ (sound.0.0 (rule 10 rule10) (is_one_of rules 9 _ refl)))).0 in
      none_asked t.names sc.vars w.asked at (not-false _ law.1)
  loose_form_type t sc w at (ExprForm.some_of inner) e sound =
      some_asked t.names sc.vars w.asked at inner (loose_type t sc (held w.asked) inner e sound.1)
  loose_form_type t sc w at _ e sound = absurd cc

-- # Types that have numbers

-- what an access is has a type of the program
abbrev pub AccessesWhole : Tables → Scope → Type 0
AccessesWhole t sc = (at : Span) (w : Want) (a : AccessTree) → Sound t (Site.place sc w (ExprTree.node at (ExprForm.access a)))
    → IsWhole t (access_kind t.names (access_of t.names sc.vars a))

word_whole : (t : Tables) → IsOneOf bool_kind t.datatypes → (w : CallWord) → IsWhole t (called_kind w)
word_whole t bool called.Visible = truth_whole t bool
word_whole t bool called.Before = truth_whole t bool
word_whole t bool called.Same = truth_whole t bool
word_whole t bool called.Op = bare_whole t base.Operation (ty.Operation, refl)
word_whole t bool called.Origin = bare_whole t base.Invocation (ty.Inv, refl)
word_whole t bool called.Info = bare_whole t base.Info (ty.Info, refl)
word_whole t bool called.Result = bare_whole t base.Outcome (ty.Outcome, refl)

-- a `some` of such a type
pub some_whole : (t : Tables) (k : Kind) → IsWhole t k → ((c : Kind) → IsOneOf c (parts t.names (maybe_of k)) → IsOneOf c t.datatypes) → IsWhole t (maybe_of k)
some_whole t k whole numbered =
    let next : suc k.maybes ≡ k.maybes + 1 = omega arith in
    subst (λ m. IsWhole t (record { base = k.base; maybes = m })) next
    (maybe_whole t k whole (numbered (record { base = k.base; maybes = suc k.maybes })
    (subst (λ m. IsOneOf (record { base = k.base; maybes = suc k.maybes }) (parts t.names (record { base = k.base; maybes = m }))) next (in_own_parts t.names k))))

mutual
  pub firm_whole : (t : Tables) → IsOneOf bool_kind t.datatypes → (sc : Scope) → AccessesWhole t sc → (w : Want) (e : ExprTree) → is_loose e ≡ false
      → AllSound t (expr_sites t.names sc w e) → IsWhole t (type_of t.names sc.vars w.asked e)
  firm_whole t bool sc accesses w (ExprTree.node at form) e sound = firm_form_whole t bool sc accesses w at form e sound

  firm_form_whole : (t : Tables) → IsOneOf bool_kind t.datatypes → (sc : Scope) → AccessesWhole t sc → (w : Want) (at : Span) (form : ExprForm)
      → is_loose_form form ≡ false → AllSound t (expr_sites t.names sc w (ExprTree.node at form)) → IsWhole t (form_type t.names sc.vars w.asked form)
  firm_form_whole t bool sc accesses w at ExprForm.none_word e sound = absurd cc
  firm_form_whole t bool sc accesses w at (ExprForm.some_of inner) e sound =
      some_whole t _ (firm_whole t bool sc accesses (held w.asked) inner e sound.1) sound.0.1
  firm_form_whole t bool sc accesses w at (ExprForm.access a) e sound = accesses at w a sound.0
  firm_form_whole t bool sc accesses w at (ExprForm.call word es) e sound = word_whole t bool word
  firm_form_whole t bool sc accesses w at (ExprForm.implies a b) e sound = truth_whole t bool
  firm_form_whole t bool sc accesses w at (ExprForm.or es) e sound = truth_whole t bool
  firm_form_whole t bool sc accesses w at (ExprForm.and es) e sound = truth_whole t bool
  firm_form_whole t bool sc accesses w at (ExprForm.not a) e sound = truth_whole t bool
  firm_form_whole t bool sc accesses w at (ExprForm.forall q a) e sound = truth_whole t bool
  firm_form_whole t bool sc accesses w at (ExprForm.exists q a) e sound = truth_whole t bool
  firm_form_whole t bool sc accesses w at (ExprForm.compare c a b) e sound = truth_whole t bool
  firm_form_whole t bool sc accesses w at (ExprForm.plus a b) e sound = int_whole t
  firm_form_whole t bool sc accesses w at (ExprForm.minus a b) e sound = int_whole t
  firm_form_whole t bool sc accesses w at (ExprForm.int i) e sound = int_whole t
  firm_form_whole t bool sc accesses w at (ExprForm.str bytes) e sound = bare_whole t base.Text (ty.Str, refl)
  firm_form_whole t bool sc accesses w at (ExprForm.truth b) e sound = truth_whole t bool
  firm_form_whole t bool sc accesses w at ExprForm.unreturned e sound = bare_whole t base.Outcome (ty.Outcome, refl)
  firm_form_whole t bool sc accesses w at ExprForm.tx e sound = bare_whole t base.Operation (ty.Operation, refl)
  firm_form_whole t bool sc accesses w at (ExprForm.match a arms) e sound = truth_whole t bool

-- the type of what stands at a place that asks a type of the program, or none
pub type_whole : (t : Tables) → IsOneOf bool_kind t.datatypes → (sc : Scope) → AccessesWhole t sc → (w : Want) (e : ExprTree) → AskedWhole t w.asked
    → AllSound t (expr_sites t.names sc w e) → IsWhole t (type_of t.names sc.vars w.asked e)
type_whole t bool sc accesses w e asked sound = by_form t bool sc accesses w e asked sound (is_loose e) refl where
  by_form : (t : Tables) → IsOneOf bool_kind t.datatypes → (sc : Scope) → AccessesWhole t sc → (w : Want) (e : ExprTree) → AskedWhole t w.asked
      → AllSound t (expr_sites t.names sc w e) → (loose : Bool) → is_loose e ≡ loose → IsWhole t (type_of t.names sc.vars w.asked e)
  by_form t bool sc accesses w e asked sound true is =
      let r = loose_type t sc w e is sound in
      let whole : IsWhole t r.k = subst (AskedWhole t) r.is asked in
      subst (IsWhole t) (sym (ap (λ o. type_of t.names sc.vars o e) r.is ∙ r.same (whole_not_any t r.k whole))) whole
  by_form t bool sc accesses w e asked sound false is = firm_whole t bool sc accesses w e is sound
