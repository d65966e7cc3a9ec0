-- Clauses as the code writes them down: literals over the variables of calls, invocations and identifiers.
use Rattle.std.specs.Prelude.{ℕ, zero, suc, List, [], ◌∷◌, true, false, map}
use Rattle.rp_logic.specs.Terms as tm
use Rattle.rp_logic.specs.Terms.{Var}
use Rattle.rp_logic.specs.Formulas.{Fm, Or, All, Lit}
use Rattle.rp_logic.specs.Views.{fms_of}
use Rattle.crdt_enc.specs.Builders.{over_one, over_two, applied, built}
use Rattle.rp_symbols.specs.Numbers.{origin_fn}
use Rattle.axiom_forms.specs.declared.literal.Literal.{Literal}
use Rattle.axiom_forms.specs.declared.literal.Literal.TheVariants.{In, NotIn, Rel, NotRel, Same, OriginIn, Equal, Differ, Built, NotBuilt}

abbrev pub literal_view : Literal → Fm
literal_view (In rel a) = over_one true rel (Var a)
literal_view (NotIn rel a) = over_one false rel (Var a)
literal_view (Rel rel a b) = over_two true rel (Var a) (Var b)
literal_view (NotRel rel a b) = over_two false rel (Var a) (Var b)
literal_view (Same a b) = Lit true (tm.Equal (Var a) (Var b))
literal_view (OriginIn rel a) = over_one true rel (applied origin_fn (Var a))
literal_view (Equal f a g b) = Lit true (tm.Equal (applied f (Var a)) (applied g (Var b)))
literal_view (Differ f a g b) = Lit false (tm.Equal (applied f (Var a)) (applied g (Var b)))
literal_view (Built con places f a) = Lit true (tm.Equal (applied f (Var a)) (built con places [] (applied f (Var a))))
literal_view (NotBuilt con places f a) = Lit false (tm.Equal (applied f (Var a)) (built con places [] (applied f (Var a))))

-- one literal stands for itself
abbrev pub clause_of : List Literal → Fm
clause_of [] = Or (fms_of [])
clause_of (l ∷ []) = literal_view l
clause_of (l ∷ m ∷ ls) = Or (fms_of (map literal_view (l ∷ m ∷ ls)))

-- so many quantifiers over one sort
abbrev pub alls : ℕ → ℕ → Fm → Fm
alls sort zero f = f
alls sort (suc n) f = All sort (alls sort n f)
