-- A test that is one of three others, of all expressions.
use Rattle.std.proofs.Common.{◌≡◌, Bool, true, false, List, [], ◌∷◌, refl, ap₂, ◌∙◌}
use Rattle.std.specs.Prelude.{◌||◌}
use Rattle.std.specs.List.{list_any}
use Rattle.rp_lang.specs.Exprs.{Ex, Exs, no_ex, also_ex}
use Rattle.rp_lang.specs.Formulas.{Fo}
use Rattle.rp_lang.specs.Programs.{Inv, Proc}
use Rattle.rp_lang.specs.Stmts.{St, Put, Decide, New, Operate, If, Match, Atomic, Assert, Return, ReturnWith, Sts, no_st, also_st, StArms, no_st_arm, also_st_arm}
use Rattle.desugaring.specs.Limits.{Test, some_term, some_in, some_in_all, some_in_arms}
use Rattle.lower_procs.specs.Whole.{inv_passing, proc_passing}
use Rattle.resolve.specs.Adds.{some_passes}

or_three : (a b c d e f : Bool) → ((a || (b || c)) || (d || (e || f))) ≡ ((a || d) || ((b || e) || (c || f)))
or_three true b c d e f = refl
or_three false true c true e f = refl
or_three false true c false e f = refl
or_three false false true true e f = refl
or_three false false true false true f = refl
or_three false false true false false f = refl
or_three false false false d e f = refl

module _ (t a b c : Test) where
  -- the first test is one of the others
  abbrev pub Split : (Test → Bool) → Type 0
  Split f = f t ≡ (f a || (f b || f c))

  either : (f g : Test → Bool) → Split f → Split g → Split (λ x. f x || g x)
  either f g h k = ap₂ (λ x y. x || y) h k ∙ or_three (f a) (f b) (f c) (g a) (g b) (g c)

  module _ (of_term : (e : Ex) → Split (λ x. x.of_term e)) (of_formula : (f : Fo) → Split (λ x. x.of_formula f)) where
    terms_split : (es : Exs) → Split (λ x. some_term x es)
    terms_split no_ex = refl
    terms_split (also_ex e es) = either (λ x. x.of_term e) (λ x. some_term x es) (of_term e) (terms_split es)

    mutual
      st_split : (s : St) → Split (λ x. some_in x s)
      st_split (Put at slot e) = of_term e
      st_split (Decide at slot f) = of_formula f
      st_split (New at slot ty) = refl
      st_split (Operate at op args) = terms_split args
      st_split (If at f first other) =
          either (λ x. x.of_formula f || some_in_all x first) (λ x. some_in_all x other)
          (either (λ x. x.of_formula f) (λ x. some_in_all x first) (of_formula f) (sts_split first))
          (sts_split other)
      st_split (Match at on arms) = either (λ x. x.of_term on) (λ x. some_in_arms x arms) (of_term on) (arms_split arms)
      st_split (Atomic at body) = sts_split body
      st_split (Assert at f) = of_formula f
      st_split (Return at) = refl
      st_split (ReturnWith at e) = of_term e

      sts_split : (ss : Sts) → Split (λ x. some_in_all x ss)
      sts_split no_st = refl
      sts_split (also_st s ss) = either (λ x. some_in x s) (λ x. some_in_all x ss) (st_split s) (sts_split ss)

      arms_split : (arms : StArms) → Split (λ x. some_in_arms x arms)
      arms_split no_st_arm = refl
      arms_split (also_st_arm con slots body rest) =
          either (λ x. some_in_all x body) (λ x. some_in_arms x rest) (sts_split body) (arms_split rest)

    invs_split : (invs : List Inv) → Split (λ x. list_any (λ inv. inv_passing inv x) invs)
    invs_split [] = refl
    invs_split (inv ∷ invs) =
        either (inv_passing inv) (λ x. list_any (λ other. inv_passing other x) invs) (of_formula inv.body) (invs_split invs)

    procs_split : (procs : List Proc) → Split (λ x. list_any (λ proc. proc_passing proc x) procs)
    procs_split [] = refl
    procs_split (proc ∷ procs) =
        either (proc_passing proc) (λ x. list_any (λ other. proc_passing other x) procs) (sts_split proc.body) (procs_split procs)

    pub passes_split : (invs : List Inv) (procs : List Proc) → Split (λ x. some_passes x invs procs)
    passes_split invs procs =
        either (λ x. list_any (λ inv. inv_passing inv x) invs) (λ x. list_any (λ proc. proc_passing proc x) procs)
        (invs_split invs) (procs_split procs)
