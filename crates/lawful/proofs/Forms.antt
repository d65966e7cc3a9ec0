-- Each form of expression, from its parts.
use Rattle.std.proofs.Common.{◌≡◌, ◌+◌, ℕ, zero, suc, ℤ, pos, negsuc, Bool, true, false, not, ◌&&◌, ◌==◌, List, [], ◌∷◌, Option, Some, None, refl, ap, subst, sym, ◌∙◌, cond, arith, ◌⊎◌, inl, inr}
use Rattle.std.specs.Prelude.{nat_eq, neg_ℤ}
use Rattle.std.proofs.lemmas.Bool.{and_from, and_left, ne_eqb, not-false, or_parts, or_right, true≢false}
use Rattle.rp_value.specs.declared.tables.Ty.{Ty}
use Rattle.rp_value.specs.declared.tables.Ty.TheVariants as ty
use Rattle.rp_grammar.specs.declared.operator.CallWord.{CallWord}
use Rattle.rp_grammar.specs.declared.operator.CallWord.TheVariants as called
use Rattle.rp_grammar.specs.Trees.{ExprTree}
use Rattle.rp_lang.specs.Exprs.{Ex, Int, Con, Plus, Add, Sub, Exs, no_ex, also_ex}
use Rattle.rp_lang.specs.Programs.{Prog}
use Rattle.rp_lang.specs.Types.{same_ty, is_ty, agree, fields_of, datatype_of, bool_ty}
use Rattle.rp_lang.specs.Typing.{Frame, type_of, have_types, is_typed, is_record_term, are_comparable, is_word}
use Rattle.type_rules.specs.declared.kind.Kind.{Kind}
use Rattle.type_rules.specs.declared.kind.Base.{Base}
use Rattle.type_rules.specs.declared.kind.Base.TheVariants as base
use Rattle.type_rules.specs.Names.{Names}
use Rattle.type_rules.specs.Kinds.{bool_kind, int_kind, plain_kind, fits, is_any, is_open, unknown_kind, maybe_of}
use Rattle.type_rules.specs.Typing.{none_kind, called_kind, unasked}
use Rattle.type_rules.specs.Typing as rules
use Rattle.type_rules.specs.Sites.{Scope, Want, Site}
use Rattle.type_rules.specs.Matches.{cases_of, case_named, case_fields, maybe_cases}
use Rattle.type_rules.specs.ExprSites.{call_kind, invocation_kind, expr_sites}
use Rattle.type_rules.specs.Rules.{misfits}
use Rattle.desugaring.specs.Parts.{each}
use Rattle.desugaring.specs.Tables.{Tables, ty_of}
use Rattle.desugaring.specs.Values.{Value, term, formula, as_formula, literal, sum, sum_in_front, sum_behind, difference, difference_of, word_of, one_ex, truth}
use Rattle.desugaring.specs.Expressions.{word_none, word_some}
use Rattle.lawful.specs.Kept.{Kept, AllKept}
use Rattle.lawful.specs.Typed.{HasKind, IsTerm, Good, AreTerms, none, more, Tied}
use Rattle.lawful.proofs.Basics.{when_not, fits_one, known}
use Rattle.desugaring.proofs.Options.{both_there}

-- # Types of the program

pub same_self : (a : Ty) → same_ty a a ≡ true
same_self ty.Int = refl
same_self ty.Str = refl
same_self (ty.Atom n) = grind arith
same_self (ty.Datatype n) = grind arith
same_self ty.Call = refl
same_self ty.Inv = refl
same_self ty.Operation = refl
same_self ty.Info = refl
same_self ty.Outcome = refl

pub one : {X : Type 0} {x y : X} → Some x ≡ Some y → x ≡ y
one e = cc

-- a term of a kind has the type that the kind is
pub of_type : (t : Tables) (p : Prog) (f : Frame) (bs : List Ty) (k : Kind) (x : Ex) (of : Ty) → HasKind t p f bs k x → ty_of t k ≡ Some of
    → type_of p f bs x ≡ Some of
of_type t p f bs k x of has is = has.1 ∙ sym has.2 ∙ is

pub is_of : (t : Tables) (p : Prog) (f : Frame) (bs : List Ty) (k : Kind) (x : Ex) (of : Ty) → HasKind t p f bs k x → ty_of t k ≡ Some of
    → is_ty (type_of p f bs x) of ≡ true
is_of t p f bs k x of has is = rw (of_type t p f bs k x of has is) (same_self of)

-- # What a place asks

pub head : (n : Names) (words : ℕ → Bool) (sc : Scope) (w : Want) (e : ExprTree) → AllKept n words (expr_sites n sc w e) → Kept n words (Site.place sc w e)
head n words sc w (ExprTree.node at form) kept = kept.0

pub fit10 : (n : Names) (words : ℕ → Bool) (sc : Scope) (w : Want) (k : Kind) (e : ExprTree) → w.rule ≡ 10 → w.asked ≡ Some k
    → Kept n words (Site.place sc w e) → fits k (rules.type_of n sc.vars (Some k) e) ≡ true
fit10 n words sc w k e rule asked kept =
    let parts = or_parts _ _ (or_parts _ _ (when_not _ _ kept.t10)).0 in
    not-false _ (subst (λ o. misfits n sc (record w { asked = o }) e o ≡ false) asked
    (subst (λ r. ((r == 10) && misfits n sc w e w.asked) ≡ false) rule parts.0))

pub fit14 : (n : Names) (words : ℕ → Bool) (sc : Scope) (w : Want) (k : Kind) (e : ExprTree) → w.rule ≡ 14 → w.asked ≡ Some k
    → Kept n words (Site.place sc w e) → fits k (rules.type_of n sc.vars (Some k) e) ≡ true
fit14 n words sc w k e rule asked kept =
    let parts = or_parts _ _ (when_not _ _ kept.t14) in
    not-false _ (subst (λ o. misfits n sc (record w { asked = o }) e o ≡ false) asked
    (subst (λ r. ((r == 14) && misfits n sc w e w.asked) ≡ false) rule parts.0))

-- # Truths

pub as_truth : (t : Tables) (p : Prog) (words : ℕ → Bool) → Tied t p words → (f : Frame) (bs : List Ty) (a : Bool) (k : Kind) (v : Value)
    → Good t p f bs a k v → fits bool_kind k ≡ true → is_typed p f bs (as_formula v) ≡ true
as_truth t p words tied f bs a k (term x) good fit =
    let same : bool_kind ≡ k = fits_one bool_kind k refl (known t k good.typed.0 good.typed.2) fit in
    or_right _ _ (is_of t p f bs k x bool_ty good.typed (ap (ty_of t) (sym same) ∙ tied.bool))
as_truth t p words tied f bs a k (formula g) good fit = good.1

-- # Integers

pub int_of : (t : Tables) (p : Prog) (f : Frame) (bs : List Ty) (a : Bool) (k : Kind) (x : Ex) → IsTerm t p f bs a k x → fits int_kind k ≡ true
    → type_of p f bs x ≡ Some ty.Int
int_of t p f bs a k x good fit =
    let same : int_kind ≡ k = fits_one int_kind k refl (known t k good.typed.0 good.typed.2) fit in
    of_type t p f bs k x ty.Int good.typed (ap (ty_of t) (sym same))

-- a literal that is typed has 64 bits, and so has its negation
word_typed : (n : ℤ) → (holds : Bool) → is_word n ≡ holds → cond holds (Some ty.Int) None ≡ Some ty.Int → is_word n ≡ true
word_typed n true is e = is
word_typed n false is e = absurd cc

pub literal_word : (p : Prog) (f : Frame) (bs : List Ty) (x : Ex) (n : ℤ) → literal x ≡ Some n → type_of p f bs x ≡ Some ty.Int → is_word n ≡ true
literal_word p f bs (Int m) n e is = word_typed n (is_word n) refl (subst (λ j. cond (is_word j) (Some ty.Int) None ≡ Some ty.Int) (one e) is)
literal_word p f bs _ n e is = absurd cc

pub opposite_word : (n : ℤ) → is_word n ≡ true → is_word (neg_ℤ n) ≡ true
opposite_word (pos zero) e = refl
opposite_word (pos (suc n)) e = grind arith
opposite_word (negsuc n) e = grind arith

plus_typed : (p : Prog) (f : Frame) (bs : List Ty) (x : Ex) (n : ℤ) → type_of p f bs x ≡ Some ty.Int → is_word n ≡ true → type_of p f bs (Plus x n) ≡ Some ty.Int
plus_typed p f bs x n is fits_ = rw (is, fits_) refl

add_typed : (p : Prog) (f : Frame) (bs : List Ty) (x y : Ex) → type_of p f bs x ≡ Some ty.Int → type_of p f bs y ≡ Some ty.Int → type_of p f bs (Add x y) ≡ Some ty.Int
add_typed p f bs x y is other = rw (is, other) refl

sub_typed : (p : Prog) (f : Frame) (bs : List Ty) (x y : Ex) → type_of p f bs x ≡ Some ty.Int → type_of p f bs y ≡ Some ty.Int → type_of p f bs (Sub x y) ≡ Some ty.Int
sub_typed p f bs x y is other = rw (is, other) refl

sum_front : (p : Prog) (f : Frame) (bs : List Ty) (x y : Ex) (l : Option ℤ) → literal x ≡ l → type_of p f bs x ≡ Some ty.Int → type_of p f bs y ≡ Some ty.Int
    → type_of p f bs (sum_in_front l x y) ≡ Some ty.Int
sum_front p f bs x y (Some n) l is other = plus_typed p f bs y n other (literal_word p f bs x n l is)
sum_front p f bs x y None l is other = add_typed p f bs x y is other

sum_back : (p : Prog) (f : Frame) (bs : List Ty) (x y : Ex) (l : Option ℤ) → literal y ≡ l → type_of p f bs x ≡ Some ty.Int → type_of p f bs y ≡ Some ty.Int
    → type_of p f bs (sum_behind l x y) ≡ Some ty.Int
sum_back p f bs x y (Some n) l is other = plus_typed p f bs x n is (literal_word p f bs y n l other)
sum_back p f bs x y None l is other = sum_front p f bs x y (literal x) refl is other

pub sum_typed : (p : Prog) (f : Frame) (bs : List Ty) (x y : Ex) → type_of p f bs x ≡ Some ty.Int → type_of p f bs y ≡ Some ty.Int
    → type_of p f bs (sum x y) ≡ Some ty.Int
sum_typed p f bs x y is other = sum_back p f bs x y (literal y) refl is other

difference_by : (p : Prog) (f : Frame) (bs : List Ty) (x y : Ex) (l : Option ℤ) → literal y ≡ l → type_of p f bs x ≡ Some ty.Int → type_of p f bs y ≡ Some ty.Int
    → type_of p f bs (difference_of l x y) ≡ Some ty.Int
difference_by p f bs x y (Some n) l is other = plus_typed p f bs x (neg_ℤ n) is (opposite_word n (literal_word p f bs y n l other))
difference_by p f bs x y None l is other = sub_typed p f bs x y is other

pub difference_typed : (p : Prog) (f : Frame) (bs : List Ty) (x y : Ex) → type_of p f bs x ≡ Some ty.Int → type_of p f bs y ≡ Some ty.Int
    → type_of p f bs (difference x y) ≡ Some ty.Int
difference_typed p f bs x y is other = difference_by p f bs x y (literal y) refl is other

-- sums and differences are no records
no_record_sum : (x y : Ex) (l m : Option ℤ) → is_record_term (sum_behind l x y) ≡ false
no_record_sum x y (Some n) m = refl
no_record_sum x y None m = front x y (literal x) where
  front : (x y : Ex) (l : Option ℤ) → is_record_term (sum_in_front l x y) ≡ false
  front x y (Some n) = refl
  front x y None = refl

no_record_difference : (x y : Ex) (l : Option ℤ) → is_record_term (difference_of l x y) ≡ false
no_record_difference x y (Some n) = refl
no_record_difference x y None = refl

pub never : {b : Bool} {X : Type 0} → b ≡ false → b ≡ true → X
never e h = absurd (true≢false (sym h ∙ e))

pub int_term : (t : Tables) (p : Prog) (f : Frame) (bs : List Ty) (a : Bool) (x : Ex) → type_of p f bs x ≡ Some ty.Int → is_record_term x ≡ false
    → IsTerm t p f bs a int_kind x
int_term t p f bs a x is plain = record { typed = (ty.Int, is, refl); stands = λ e. never plain e }

pub sum_good : (t : Tables) (p : Prog) (f : Frame) (bs : List Ty) (a : Bool) (x y : Ex) → type_of p f bs x ≡ Some ty.Int → type_of p f bs y ≡ Some ty.Int
    → IsTerm t p f bs a int_kind (sum x y)
sum_good t p f bs a x y is other = int_term t p f bs a (sum x y) (sum_typed p f bs x y is other) (no_record_sum x y (literal y) None)

pub difference_good : (t : Tables) (p : Prog) (f : Frame) (bs : List Ty) (a : Bool) (x y : Ex) → type_of p f bs x ≡ Some ty.Int → type_of p f bs y ≡ Some ty.Int
    → IsTerm t p f bs a int_kind (difference x y)
difference_good t p f bs a x y is other = int_term t p f bs a (difference x y) (difference_typed p f bs x y is other) (no_record_difference x y (literal y))

-- # Constructors

-- arguments of the types have the program's types
pub have : (t : Tables) (p : Prog) (f : Frame) (bs : List Ty) (ks : List Kind) (tys : List Ty) (xs : Exs) → each (ty_of t) ks ≡ Some tys
    → AreTerms t p f bs ks xs → have_types p f bs tys xs ≡ true
have t p f bs ks tys xs e none = subst (λ ts. have_types p f bs ts no_ex ≡ true) (one e) refl
have t p f bs ks tys xs e (more {k} {ks = rest} {x} {xs = others} is are) =
    both_there (λ ts. have_types p f bs ts (also_ex x others) ≡ true) ◌∷◌ (ty_of t k) (each (ty_of t) rest) tys e
    (λ of ofs i j. and_from _ _ (is_of t p f bs k x of is.typed i) (have t p f bs rest ofs others j are))

pub con_good : (t : Tables) (p : Prog) (f : Frame) (bs : List Ty) (a : Bool) (k : Kind) (con : ℕ) (ks : List Kind) (of : Ty) (xs : Exs)
    → datatype_of p.cons con ≡ Some of → ty_of t k ≡ Some of → each (ty_of t) ks ≡ Some (fields_of p.cons con)
    → AreTerms t p f bs ks xs → IsTerm t p f bs a k (Con con xs)
con_good t p f bs a k con ks of xs made is fields are = record {
  typed = (of, rw (have t p f bs ks (fields_of p.cons con) xs fields are) made, is);
  stands = λ e. absurd cc;
}

pub truth_good : (t : Tables) (p : Prog) (words : ℕ → Bool) → Tied t p words → (f : Frame) (bs : List Ty) (a : Bool) (b : Bool) → IsTerm t p f bs a bool_kind (truth b)
truth_good t p words tied f bs a false = record { typed = (bool_ty, rw tied.no_fields tied.no_made, tied.bool); stands = λ e. absurd cc }
truth_good t p words tied f bs a true = record { typed = (bool_ty, rw tied.yes_fields tied.yes_made, tied.bool); stands = λ e. absurd cc }

-- `none` has no fields, `some` that which is inside
bare_none : (k : Kind) (o : Bool) → case_fields (case_named (cond o None (Some (maybe_cases k))) word_none) ≡ []
bare_none k true = refl
bare_none k false = refl

pub none_fields : (n : Names) (asked : Option Kind) → case_fields (case_named (cases_of n (none_kind asked)) word_none) ≡ []
none_fields n None = refl
none_fields n (Some k) = by_maybes n k.base k.maybes where
  by_maybes : (n : Names) (b : Base) (m : ℕ) → case_fields (case_named (cases_of n (none_kind (Some (record { base = b; maybes = m })))) word_none) ≡ []
  by_maybes n b zero = refl
  by_maybes n b (suc m) = by_test n b m (nat_eq (suc m) 0) (ne_eqb (suc m) 0 (omega arith)) where
    by_test : (n : Names) (b : Base) (m : ℕ) (bare : Bool) → bare ≡ false
        → case_fields (case_named (cases_of n (cond bare unknown_kind (record { base = b; maybes = suc m }))) word_none) ≡ []
    by_test n b m false e = bare_none (record { base = b; maybes = m }) (is_open b && m == 0)
    by_test n b m true e = absurd cc

pub some_fields : (n : Names) (k : Kind) → is_any k.base ≡ false → case_fields (case_named (cases_of n (maybe_of k)) word_some) ≡ k ∷ []
some_fields n k known_ =
    subst (λ m. case_fields (case_named (cases_of n (record { base = k.base; maybes = m })) word_some) ≡ k ∷ []) (sym (next k.maybes))
    (not_open k (is_open k.base && k.maybes == 0) (and_left (is_open k.base) _ (or_parts _ _ known_).1)) where
      next : (n : ℕ) → n + 1 ≡ suc n
      next n = omega arith

      not_open : (k : Kind) (o : Bool) → o ≡ false → case_fields (case_named (cond o None (Some (maybe_cases k))) word_some) ≡ k ∷ []
      not_open k true e = absurd cc
      not_open k false e = refl

-- # Comparisons

comparable : (t : Tables) (p : Prog) (f : Frame) (bs : List Ty) (k : Kind) (x y : Ex) → HasKind t p f bs k x → HasKind t p f bs k y
    → (is_record_term x && is_record_term y) ≡ false → are_comparable p f bs x y ≡ true
comparable t p f bs k x y is other apart =
    let one_type : agree (type_of p f bs x) (type_of p f bs y) ≡ true = rw (other.1, of_type t p f bs k x other.0 is other.2) (same_self other.0) in
    let not_both : not (is_record_term x && is_record_term y) ≡ true = rw apart refl in
    and_from _ _ one_type not_both

pub equal_typed : (t : Tables) (p : Prog) (f : Frame) (bs : List Ty) (j k : Kind) (x y : Ex) → HasKind t p f bs j x → HasKind t p f bs k y → fits j k ≡ true
    → (is_record_term x && is_record_term y) ≡ false → are_comparable p f bs x y ≡ true
equal_typed t p f bs j k x y is other fit apart =
    comparable t p f bs k x y (subst (λ h. HasKind t p f bs h x) (fits_one j k (known t j is.0 is.2) (known t k other.0 other.2) fit) is) other apart

pub ordered_typed : (p : Prog) (f : Frame) (bs : List Ty) (x y : Ex) → type_of p f bs x ≡ Some ty.Int → type_of p f bs y ≡ Some ty.Int
    → (is_ty (type_of p f bs x) ty.Int && is_ty (type_of p f bs y) ty.Int) ≡ true
ordered_typed p f bs x y is other = rw (is, other) refl

-- # Words

-- what is asked of a call or an invocation is what it is
abbrev One : Tables → Prog → Frame → List Ty → Kind → Ex → Type 0
One t p f bs k x = IsTerm t p f bs false k x

call_typed : (t : Tables) (p : Prog) (f : Frame) (bs : List Ty) (x : Ex) → One t p f bs call_kind x → type_of p f bs x ≡ Some ty.Call
call_typed t p f bs x is = of_type t p f bs call_kind x ty.Call is.typed refl

inv_typed : (t : Tables) (p : Prog) (f : Frame) (bs : List Ty) (x : Ex) → One t p f bs invocation_kind x → type_of p f bs x ≡ Some ty.Inv
inv_typed t p f bs x is = of_type t p f bs invocation_kind x ty.Inv is.typed refl

-- by what each word takes
abbrev pub Takes : CallWord → List Kind → Type 0
Takes called.Before ks = (ks ≡ call_kind ∷ call_kind ∷ []) ⊎ (ks ≡ invocation_kind ∷ invocation_kind ∷ [])
Takes called.Visible ks = ks ≡ call_kind ∷ []
Takes called.Same ks = ks ≡ call_kind ∷ call_kind ∷ []
Takes called.Op ks = ks ≡ call_kind ∷ []
Takes called.Origin ks = ks ≡ call_kind ∷ []
Takes called.Info ks = ks ≡ invocation_kind ∷ []
Takes called.Result ks = ks ≡ invocation_kind ∷ []

-- one argument of a type, or two
one_arg : (t : Tables) (p : Prog) (f : Frame) (bs : List Ty) (k : Kind) (ks : List Kind) (xs : Exs) (Q : Exs → Type 0) → ks ≡ k ∷ []
    → AreTerms t p f bs ks xs → ((x : Ex) → One t p f bs k x → Q (one_ex x)) → Q xs
one_arg t p f bs k ks xs Q e none give = absurd cc
one_arg t p f bs k ks xs Q e (more {x = x} is none) give = give x (subst (λ h. One t p f bs h x) (cc) is)
one_arg t p f bs k ks xs Q e (more is (more also are)) give = absurd cc

two_args : (t : Tables) (p : Prog) (f : Frame) (bs : List Ty) (j k : Kind) (ks : List Kind) (xs : Exs) (Q : Exs → Type 0) → ks ≡ j ∷ k ∷ []
    → AreTerms t p f bs ks xs → ((x y : Ex) → One t p f bs j x → One t p f bs k y → Q (also_ex x (one_ex y))) → Q xs
two_args t p f bs j k ks xs Q e none give = absurd cc
two_args t p f bs j k ks xs Q e (more is none) give = absurd cc
two_args t p f bs j k ks xs Q e (more {x = x} is (more {x = y} also none)) give =
    give x y (subst (λ h. One t p f bs h x) (cc) is) (subst (λ h. One t p f bs h y) (cc) also)
two_args t p f bs j k ks xs Q e (more is (more also (more third are))) give = absurd cc

abbrev Word : Tables → Prog → Frame → List Ty → Bool → CallWord → Exs → Type 0
Word t p f bs a w xs = (v : Value) → word_of w xs ≡ Some v → Good t p f bs a (called_kind w) v

pub give_value : (t : Tables) (p : Prog) (f : Frame) (bs : List Ty) (a : Bool) (k : Kind) (u v : Value) → Some u ≡ Some v → Good t p f bs a k u → Good t p f bs a k v
give_value t p f bs a k u v e good = subst (Good t p f bs a k) (one e) good

pub word_good : (t : Tables) (p : Prog) (f : Frame) (bs : List Ty) (a : Bool) (w : CallWord) (ks : List Kind) (xs : Exs) → Takes w ks
    → AreTerms t p f bs ks xs → Word t p f bs a w xs
word_good t p f bs a called.Visible ks xs takes are = one_arg t p f bs _ ks xs (Word t p f bs a called.Visible) takes are
    (λ x is v e. give_value t p f bs a bool_kind _ v e (refl, rw (call_typed t p f bs x is) refl))
word_good t p f bs a called.Op ks xs takes are = one_arg t p f bs _ ks xs (Word t p f bs a called.Op) takes are
    (λ x is v e. give_value t p f bs a (plain_kind base.Operation) _ v e
    (record { typed = (ty.Operation, rw (call_typed t p f bs x is) refl, refl); stands = λ h. absurd cc }))
word_good t p f bs a called.Origin ks xs takes are = one_arg t p f bs _ ks xs (Word t p f bs a called.Origin) takes are
    (λ x is v e. give_value t p f bs a (plain_kind base.Invocation) _ v e
    (record { typed = (ty.Inv, rw (call_typed t p f bs x is) refl, refl); stands = λ h. absurd cc }))
word_good t p f bs a called.Info ks xs takes are = one_arg t p f bs _ ks xs (Word t p f bs a called.Info) takes are
    (λ x is v e. give_value t p f bs a (plain_kind base.Info) _ v e
    (record { typed = (ty.Info, rw (inv_typed t p f bs x is) refl, refl); stands = λ h. absurd cc }))
word_good t p f bs a called.Result ks xs takes are = one_arg t p f bs _ ks xs (Word t p f bs a called.Result) takes are
    (λ x is v e. give_value t p f bs a (plain_kind base.Outcome) _ v e
    (record { typed = (ty.Outcome, rw (inv_typed t p f bs x is) refl, refl); stands = λ h. absurd cc }))
word_good t p f bs a called.Same ks xs takes are = two_args t p f bs _ _ ks xs (Word t p f bs a called.Same) takes are
    (λ x y is also v e. give_value t p f bs a bool_kind _ v e (refl, rw (call_typed t p f bs x is, call_typed t p f bs y also) refl))
word_good t p f bs a called.Before ks xs takes are = elim takes [
  | inl of ↦ two_args t p f bs _ _ ks xs (Word t p f bs a called.Before) of are
      (λ x y is also v e. give_value t p f bs a bool_kind _ v e (refl, rw (call_typed t p f bs x is, call_typed t p f bs y also) refl))
  | inr of ↦ two_args t p f bs _ _ ks xs (Word t p f bs a called.Before) of are
      (λ x y is also v e. give_value t p f bs a bool_kind _ v e (refl, rw (inv_typed t p f bs x is, inv_typed t p f bs y also) refl))
]
