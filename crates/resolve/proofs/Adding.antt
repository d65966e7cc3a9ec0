-- Declared things are added one behind another.
use Rattle.std.proofs.Common.{◌≡◌, Bool, true, false, List, [], ◌++◌, refl, ap, ap₂, sym, ◌∙◌, arith, append_assoc, append-nil}
use Rattle.std.specs.Prelude.{◌||◌, map}
use Rattle.std.specs.List.{list_any}
use Rattle.std.proofs.lemmas.List.{map-append, length-append}
use Rattle.std.proofs.lemmas.List.Folds.{list_any-append}
use Rattle.rp_lang.specs.Programs.{Inv, Proc}
use Rattle.rp_lang.specs.Sizes.{sts_count}
use Rattle.rp_lang.specs.Views.{inv_view, proc_view}
use Rattle.rp_lang.specs.declared.limit.LimitName.TheVariants.{Depth, Quantifiers}
use Rattle.desugaring.specs.Limits.{Test, is_deep, is_past}
use Rattle.lower_exprs.specs.declared.values.Passed.{Passed}
use Rattle.lower_exprs.specs.declared.values.Work.{Work}
use Rattle.lower_procs.specs.Whole.{IsPassedBy, Passing, binds_many, inv_passing, is_large_in, proc_passing}
use Rattle.resolve.specs.declared.decls.Declared.{Declared}
use Rattle.resolve.specs.Adds.{Adds, counts, some_passes}

-- # What is passed

pub or_nothing : (b : Bool) → (b || false) ≡ b
or_nothing true = refl
or_nothing false = refl

or_behind : (x a b : Bool) → ((x || a) || b) ≡ (x || (a || b))
or_behind true a b = refl
or_behind false a b = refl

behind : (x y z a b : Bool) → y ≡ (x || a) → z ≡ (y || b) → z ≡ (x || (a || b))
behind x y z a b h k = k ∙ ap (λ w. w || b) h ∙ or_behind x a b

-- the same expressions pass
pub passed_same : (w : Work) (old new : Passed) (f g : Passing) → ((test : Test) → f test ≡ g test) → IsPassedBy w old f new → IsPassedBy w old g new
passed_same w old new f g same h = record {
  depth = h.depth ∙ ap (λ (x : Bool). is_past Depth old.depth || x) (same is_deep);
  binders = h.binders ∙ ap (λ (x : Bool). is_past Quantifiers old.binders || x) (same (binds_many w.cons.now));
}

-- one behind another, whatever of each passes
pub passed_both : (w : Work) (old mid new : Passed) (f g : Passing) → IsPassedBy w old f mid → IsPassedBy w mid g new
    → IsPassedBy w old (λ test. f test || g test) new
passed_both w old mid new f g h k = record {
  depth =
      behind (is_past Depth old.depth) (is_past Depth mid.depth) (is_past Depth new.depth) (f is_deep) (g is_deep)
      h.depth k.depth;
  binders =
      behind (is_past Quantifiers old.binders) (is_past Quantifiers mid.binders) (is_past Quantifiers new.binders)
      (f (binds_many w.cons.now)) (g (binds_many w.cons.now)) h.binders k.binders;
}

pub passed_none : (w : Work) (x : Passed) (f : Passing) → ((test : Test) → f test ≡ false) → IsPassedBy w x f x
passed_none w x f none = record {
  depth = sym (ap (λ (b : Bool). is_past Depth x.depth || b) (none is_deep) ∙ or_nothing (is_past Depth x.depth));
  binders =
      sym (ap (λ (b : Bool). is_past Quantifiers x.binders || b) (none (binds_many w.cons.now))
      ∙ or_nothing (is_past Quantifiers x.binders));
}

-- # What is added

or_four : (a b c d : Bool) → ((a || b) || (c || d)) ≡ ((a || c) || (b || d))
or_four true b c d = refl
or_four false true true d = refl
or_four false true false d = refl
or_four false false c d = refl

passes_both : (test : Test) (invs js : List Inv) (procs qs : List Proc)
    → (some_passes test invs procs || some_passes test js qs) ≡ some_passes test (invs ++ js) (procs ++ qs)
passes_both test invs js procs qs =
    or_four (list_any (λ inv. inv_passing inv test) invs) (list_any (λ proc. proc_passing proc test) procs)
    (list_any (λ inv. inv_passing inv test) js) (list_any (λ proc. proc_passing proc test) qs)
    ∙ ap₂ (λ x y. x || y)
    (sym (list_any-append (λ inv. inv_passing inv test) invs js))
    (sym (list_any-append (λ proc. proc_passing proc test) procs qs))

none_passes : (x y z : Bool) → x ≡ false → y ≡ false → (x || y) ≡ z → z ≡ false
none_passes x y z h k e = sym e ∙ ap₂ (λ a b. a || b) h k

three_lists : {X : Type 0} (a b c d e : List X) → c ≡ b ++ e → b ≡ a ++ d → c ≡ a ++ (d ++ e)
three_lists a b c d e h k = h ∙ ap (λ l. l ++ e) k ∙ append_assoc a d e

pub adds_both : (w : Work) (old mid new : Declared) (invs js : List Inv) (procs qs : List Proc)
    → Adds w old invs procs mid → Adds w mid js qs new → Adds w old (invs ++ js) (procs ++ qs) new
adds_both w old mid new invs js procs qs h k = record {
  inv_count = omega (arith, h.inv_count, k.inv_count, length-append invs js);
  proc_counts =
      three_lists (counts (map proc_view old.procs)) (counts (map proc_view mid.procs)) (counts (map proc_view new.procs)) (counts procs) (counts qs)
      k.proc_counts h.proc_counts
      ∙ ap (λ l. counts (map proc_view old.procs) ++ l) (sym (map-append (λ (p : Proc). sts_count p.body) procs qs));
  passed =
      passed_same w old.passed new.passed (λ test. some_passes test invs procs || some_passes test js qs) (λ test. some_passes test (invs ++ js) (procs ++ qs))
      (λ test. passes_both test invs js procs qs)
      (passed_both w old.passed mid.passed new.passed (λ test. some_passes test invs procs) (λ test. some_passes test js qs) h.passed k.passed);
  small = λ on.
      none_passes (some_passes (is_large_in w.cons.now) invs procs) (some_passes (is_large_in w.cons.now) js qs)
      (some_passes (is_large_in w.cons.now) (invs ++ js) (procs ++ qs)) (h.small on) (k.small on)
      (passes_both (is_large_in w.cons.now) invs js procs qs);
  invs_are = λ on. three_lists (map inv_view old.invs) (map inv_view mid.invs) (map inv_view new.invs) invs js (k.invs_are on) (h.invs_are on);
  procs_are = λ on. three_lists (map proc_view old.procs) (map proc_view mid.procs) (map proc_view new.procs) procs qs (k.procs_are on) (h.procs_are on);
}

pub adds_none : (w : Work) (x : Declared) → Adds w x [] [] x
adds_none w x = record {
  inv_count = omega arith;
  proc_counts = sym (append-nil (counts (map proc_view x.procs)));
  passed = passed_none w x.passed (λ test. some_passes test [] []) (λ test. refl);
  small = λ on. refl;
  invs_are = λ on. sym (append-nil (map inv_view x.invs));
  procs_are = λ on. sym (append-nil (map proc_view x.procs));
}

-- where something passes among the first or behind them, something passes
pub passes_first : (test : Test) (invs js : List Inv) (procs qs : List Proc) → some_passes test invs procs ≡ true
    → some_passes test (invs ++ js) (procs ++ qs) ≡ true
passes_first test invs js procs qs h =
    sym (passes_both test invs js procs qs) ∙ ap (λ b. b || some_passes test js qs) h

or_true : (b : Bool) → (b || true) ≡ true
or_true true = refl
or_true false = refl

pub passes_later : (test : Test) (invs js : List Inv) (procs qs : List Proc) → some_passes test js qs ≡ true
    → some_passes test (invs ++ js) (procs ++ qs) ≡ true
passes_later test invs js procs qs h =
    sym (passes_both test invs js procs qs) ∙ ap (λ b. some_passes test invs procs || b) h ∙ or_true (some_passes test invs procs)
