-- What the rules say of an access, by what its root's name stands for and by its type.
use Rattle.std.proofs.Common.{◌≡◌, ℕ, Bool, true, false, not, ◌&&◌, ◌||◌, Option, Some, None, refl, true≢false}
use Rattle.std.specs.Option.{is_some}
use Rattle.rp_grammar.specs.Trees.{ExprTree, ExprForm, Ident}
use Rattle.type_rules.specs.declared.kind.Kind.{Kind}
use Rattle.type_rules.specs.Names.{Names, Entry, entry_named, text_of}
use Rattle.type_rules.specs.Accesses.{Var, find_var}
use Rattle.type_rules.specs.Typing.{type_of}
use Rattle.type_rules.specs.Sites.{Scope, Want, Site}
use Rattle.type_rules.specs.Rules as spec
use Rattle.type_terms.specs.Meanings.{is_nothing, meaning_of, meant}
use Rattle.type_judges.specs.Meant.{is_access, is_late, is_other, is_unset}

late_by : (k : ℕ) (v : Option Var) (e : Option Entry) → is_late k (meant v e) ≡ (not (is_some v) && spec.is_late_query k e)
late_by k (Some v) e = refl
late_by k None (Some e) = refl
late_by k None None = refl

nothing_by : (v : Option Var) (e : Option Entry) → is_nothing (meant v e) ≡ (not (is_some v) && not (is_some e))
nothing_by (Some v) e = refl
nothing_by None (Some e) = refl
nothing_by None None = refl

unset_by : (v : Option Var) (e : Option Entry) → is_unset (meant v e) ≡ spec.is_unset v
unset_by (Some v) e = refl
unset_by None (Some e) = refl
unset_by None None = refl

pub late : (n : Names) (sc : Scope) (x : Ident)
    → is_late sc.decl (meaning_of n sc.vars (text_of x))
    ≡ (not (spec.is_var sc.vars x) && spec.is_late_query sc.decl (entry_named n (text_of x)))
late n sc x = late_by sc.decl (find_var sc.vars (text_of x)) (entry_named n (text_of x))

-- nothing in sight has the name just where it stands for nothing
pub out_of_sight : (n : Names) (sc : Scope) (x : Ident)
    → is_nothing (meaning_of n sc.vars (text_of x)) ≡ spec.is_out_of_sight n sc x
out_of_sight n sc x = nothing_by (find_var sc.vars (text_of x)) (entry_named n (text_of x))

pub unset : (n : Names) (sc : Scope) (x : Ident)
    → is_unset (meaning_of n sc.vars (text_of x)) ≡ spec.is_unset (find_var sc.vars (text_of x))
unset n sc x = unset_by (find_var sc.vars (text_of x)) (entry_named n (text_of x))

other_by : (n : Names) (sc : Scope) (w : Want) (e : ExprTree) (o : Option Kind)
    → is_other o (type_of n sc.vars w.asked e) ≡ spec.misfits n sc w e o
other_by n sc w e None = refl
other_by n sc w e (Some k) = refl

pub other : (n : Names) (sc : Scope) (w : Want) (e : ExprTree)
    → is_other w.asked (type_of n sc.vars w.asked e) ≡ spec.misfits n sc w e w.asked
other n sc w e = other_by n sc w e w.asked

-- a name that is for T15 isn't for T04
pub missing : (nothing later : Bool) → (nothing && not (nothing && later)) ≡ (nothing && not later)
missing true later = refl
missing false later = refl

-- an access is no `none` and no `some`
pub bare : (wrong : Bool) → wrong ≡ ((wrong || false) || false)
bare true = refl
bare false = refl

-- the rules on accesses say nothing of another expression
pub record Unsaid (n : Names) (s : Site) : Type 0 where
  pub by3 : spec.rule03 n s ≡ None
  pub by4 : spec.rule04 n s ≡ None
  pub by12 : spec.rule12 n s ≡ None
  pub by15 : spec.rule15 n s ≡ None
  pub by16 : spec.rule16 n s ≡ None

pub unsaid : (n : Names) (sc : Scope) (want : Want) (e : ExprTree) → is_access e ≡ false → Unsaid n (Site.place sc want e)
unsaid n sc want (ExprTree.node at (ExprForm.access a)) h = absurd (true≢false h)
unsaid n sc want (ExprTree.node at (ExprForm.implies a b)) h =
    record { by3 = refl; by4 = refl; by12 = refl; by15 = refl; by16 = refl }
unsaid n sc want (ExprTree.node at (ExprForm.or es)) h =
    record { by3 = refl; by4 = refl; by12 = refl; by15 = refl; by16 = refl }
unsaid n sc want (ExprTree.node at (ExprForm.and es)) h =
    record { by3 = refl; by4 = refl; by12 = refl; by15 = refl; by16 = refl }
unsaid n sc want (ExprTree.node at (ExprForm.not e)) h =
    record { by3 = refl; by4 = refl; by12 = refl; by15 = refl; by16 = refl }
unsaid n sc want (ExprTree.node at (ExprForm.forall p e)) h =
    record { by3 = refl; by4 = refl; by12 = refl; by15 = refl; by16 = refl }
unsaid n sc want (ExprTree.node at (ExprForm.exists p e)) h =
    record { by3 = refl; by4 = refl; by12 = refl; by15 = refl; by16 = refl }
unsaid n sc want (ExprTree.node at (ExprForm.compare c a b)) h =
    record { by3 = refl; by4 = refl; by12 = refl; by15 = refl; by16 = refl }
unsaid n sc want (ExprTree.node at (ExprForm.plus a b)) h =
    record { by3 = refl; by4 = refl; by12 = refl; by15 = refl; by16 = refl }
unsaid n sc want (ExprTree.node at (ExprForm.minus a b)) h =
    record { by3 = refl; by4 = refl; by12 = refl; by15 = refl; by16 = refl }
unsaid n sc want (ExprTree.node at (ExprForm.int i)) h =
    record { by3 = refl; by4 = refl; by12 = refl; by15 = refl; by16 = refl }
unsaid n sc want (ExprTree.node at (ExprForm.str bytes)) h =
    record { by3 = refl; by4 = refl; by12 = refl; by15 = refl; by16 = refl }
unsaid n sc want (ExprTree.node at (ExprForm.truth b)) h =
    record { by3 = refl; by4 = refl; by12 = refl; by15 = refl; by16 = refl }
unsaid n sc want (ExprTree.node at ExprForm.none_word) h =
    record { by3 = refl; by4 = refl; by12 = refl; by15 = refl; by16 = refl }
unsaid n sc want (ExprTree.node at (ExprForm.some_of e)) h =
    record { by3 = refl; by4 = refl; by12 = refl; by15 = refl; by16 = refl }
unsaid n sc want (ExprTree.node at ExprForm.unreturned) h =
    record { by3 = refl; by4 = refl; by12 = refl; by15 = refl; by16 = refl }
unsaid n sc want (ExprTree.node at ExprForm.tx) h =
    record { by3 = refl; by4 = refl; by12 = refl; by15 = refl; by16 = refl }
unsaid n sc want (ExprTree.node at (ExprForm.call w es)) h =
    record { by3 = refl; by4 = refl; by12 = refl; by15 = refl; by16 = refl }
unsaid n sc want (ExprTree.node at (ExprForm.match e arms)) h =
    record { by3 = refl; by4 = refl; by12 = refl; by15 = refl; by16 = refl }
