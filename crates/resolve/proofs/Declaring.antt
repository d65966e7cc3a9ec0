-- What each declaration adds, and declarations one behind another.
use Rattle.std.proofs.Common.{◌≡◌, ℕ, ◌+◌, Bool, true, false, List, [], ◌∷◌, ◌++◌, length, Option, Some, Result, Err, refl, ap, ap₂, sym, subst, ◌∙◌, arith, append-nil, add-zero}
use Rattle.std.specs.Prelude.{◌||◌, map}
use Rattle.std.proofs.lemmas.List.{map-append, length-append}
use Rattle.rp_span.specs.declared.Span.{Span}
use Rattle.rp_grammar.specs.Trees.{Ident, ExprTree, ProcTree, DeclTree, DeclForm}
use Rattle.rp_lang.specs.declared.inv.InvDecl.{InvDecl}
use Rattle.rp_lang.specs.declared.proc.ProcDecl as code_proc
use Rattle.rp_lang.specs.Programs.{Inv, Proc}
use Rattle.rp_lang.specs.Sizes.{sts_count}
use Rattle.rp_lang.specs.Views.{inv_view, proc_view}
use Rattle.desugaring.specs.Limits.{Test}
use Rattle.desugaring.specs.Parts.{each}
use Rattle.desugaring.specs.Programs.{InvTree, ProcDecl, inv_name, invs_from, procs_from}
use Rattle.desugaring.proofs.Options.{both_there}
use Rattle.desugaring.proofs.Fields.{each_length}
use Rattle.text_tables.proofs.Growing.{each_both}
use Rattle.lower_exprs.specs.Making.{AreMeasuredIn}
use Rattle.lower_exprs.specs.declared.values.Passed.{Passed}
use Rattle.lower_exprs.specs.declared.values.Work.{Work}
use Rattle.lower_procs.specs.Whole.{IsPassedBy, inv_in, inv_passing, inv_tree, is_large_in, proc_in, proc_passing, proc_tree}
use Rattle.resolve.specs.declared.decls.Declared.{Declared}
use Rattle.resolve.specs.Adds.{Adds, AreWanted, Become, Declares, IsTooLarge, counts, nothing, some_passes}
use Rattle.resolve.proofs.Adding.{adds_both, adds_none, or_nothing, passed_same, passes_first, passes_later}

-- # One behind another

-- those of the first, and those behind it
invs_behind : (k n : ℕ) (d : DeclTree) (ds : List DeclTree)
    → invs_from k n (d ∷ ds) ≡ invs_from k n (d ∷ []) ++ invs_from (k + 1) (n + length (invs_from k n (d ∷ []))) ds
invs_behind k n (DeclTree.node at (DeclForm.id_type x)) ds = ap (λ m. invs_from (k + 1) m ds) (sym (add-zero n))
invs_behind k n (DeclTree.node at (DeclForm.opaque x)) ds = ap (λ m. invs_from (k + 1) m ds) (sym (add-zero n))
invs_behind k n (DeclTree.node at (DeclForm.datatype x cons)) ds = ap (λ m. invs_from (k + 1) m ds) (sym (add-zero n))
invs_behind k n (DeclTree.node at (DeclForm.crdt x c)) ds = ap (λ m. invs_from (k + 1) m ds) (sym (add-zero n))
invs_behind k n (DeclTree.node at (DeclForm.query q)) ds = ap (λ m. invs_from (k + 1) m ds) (sym (add-zero n))
invs_behind k n (DeclTree.node at (DeclForm.invariant x e)) ds = refl
invs_behind k n (DeclTree.node at (DeclForm.proc p)) ds = ap (λ m. invs_from (k + 1) m ds) (sym (add-zero n))

procs_behind : (k : ℕ) (d : DeclTree) (ds : List DeclTree)
    → procs_from k (d ∷ ds) ≡ procs_from k (d ∷ []) ++ procs_from (k + 1) ds
procs_behind k (DeclTree.node at (DeclForm.id_type x)) ds = refl
procs_behind k (DeclTree.node at (DeclForm.opaque x)) ds = refl
procs_behind k (DeclTree.node at (DeclForm.datatype x cons)) ds = refl
procs_behind k (DeclTree.node at (DeclForm.crdt x c)) ds = refl
procs_behind k (DeclTree.node at (DeclForm.query q)) ds = refl
procs_behind k (DeclTree.node at (DeclForm.invariant x e)) ds = refl
procs_behind k (DeclTree.node at (DeclForm.proc p)) ds = refl

-- what is made of two lists, one behind the other, is what is made of each
record Parts {X Y : Type 0} (f : X → Option Y) (xs zs : List X) (ys : List Y) : Type 0 where
  first : List Y
  later : List Y
  first_are : each f xs ≡ Some first
  later_are : each f zs ≡ Some later
  whole : ys ≡ first ++ later

parts_of : {X Y : Type 0} (f : X → Option Y) (xs zs : List X) (ys : List Y) → each f (xs ++ zs) ≡ Some ys → Parts f xs zs ys
parts_of f xs zs ys h =
    both_there (Parts f xs zs) (λ a b. a ++ b) (each f xs) (each f zs) ys (sym (each_both f xs zs) ∙ h)
    (λ a b is_a is_b. record { first = a; later = b; first_are = is_a; later_are = is_b; whole = refl })

no_more : {X Y : Type 0} (f : X → Option Y) (ys : List Y) → each f [] ≡ Some ys → ys ≡ []
no_more f [] h = refl
no_more f (y ∷ ys) h = absurd cc

pub declares_none : (w : Work) (x : Declared) → Declares w x [] x
declares_none w x = record {
  adds = λ k invs procs become.
      subst (λ (is : List Inv). Adds w x is procs x) (sym (no_more (inv_in w) invs become.invs_are))
      (subst (λ (ps : List Proc). Adds w x [] ps x) (sym (no_more (proc_in w) procs become.procs_are)) (adds_none w x));
}

-- what a declaration becomes, and what those behind it become
record BecomeParts (w : Work) (k n : ℕ) (d : DeclTree) (ds : List DeclTree) (invs : List Inv) (procs : List Proc) : Type 0 where
  first_invs : List Inv
  later_invs : List Inv
  first_procs : List Proc
  later_procs : List Proc
  first : Become w k n (d ∷ []) first_invs first_procs
  later : Become w (k + 1) (n + length first_invs) ds later_invs later_procs
  invs_are : invs ≡ first_invs ++ later_invs
  procs_are : procs ≡ first_procs ++ later_procs

become_parts : (w : Work) (k n : ℕ) (d : DeclTree) (ds : List DeclTree) (invs : List Inv) (procs : List Proc)
    → Become w k n (d ∷ ds) invs procs → BecomeParts w k n d ds invs procs
become_parts w k n d ds invs procs become =
    let is : Parts (inv_in w) (invs_from k n (d ∷ [])) (invs_from (k + 1) (n + length (invs_from k n (d ∷ []))) ds) invs =
    parts_of (inv_in w) (invs_from k n (d ∷ [])) (invs_from (k + 1) (n + length (invs_from k n (d ∷ []))) ds) invs
    (ap (each (inv_in w)) (sym (invs_behind k n d ds)) ∙ become.invs_are) in
    let ps : Parts (proc_in w) (procs_from k (d ∷ [])) (procs_from (k + 1) ds) procs =
    parts_of (proc_in w) (procs_from k (d ∷ [])) (procs_from (k + 1) ds) procs
    (ap (each (proc_in w)) (sym (procs_behind k d ds)) ∙ become.procs_are) in
    let long : length is.first ≡ length (invs_from k n (d ∷ [])) = each_length (inv_in w) (invs_from k n (d ∷ [])) is.first is.first_are in
    record {
      first_invs = is.first;
      later_invs = is.later;
      first_procs = ps.first;
      later_procs = ps.later;
      first = record { measured = become.measured; invs_are = is.first_are; procs_are = ps.first_are };
      later = record {
        measured = become.measured;
        invs_are = subst (λ (m : ℕ). each (inv_in w) (invs_from (k + 1) (n + m) ds) ≡ Some is.later) (sym long) is.later_are;
        procs_are = ps.later_are;
      };
      invs_are = is.whole;
      procs_are = ps.whole;
    }

-- the number of the next invariant
next_number : (w : Work) (old mid : Declared) (invs : List Inv) (procs : List Proc) → Adds w old invs procs mid
    → length old.invs + 1 + length invs ≡ length mid.invs + 1
next_number w old mid invs procs h = omega (arith, h.inv_count)

numbered : (w : Work) (k m n : ℕ) (ds : List DeclTree) (invs : List Inv) (procs : List Proc) → m ≡ n → Become w k m ds invs procs → Become w k n ds invs procs
numbered w k m n ds invs procs same h = subst (λ (x : ℕ). Become w k x ds invs procs) same h

pub declares_more : (w : Work) (old mid new : Declared) (d : DeclTree) (ds : List DeclTree)
    → Declares w old (d ∷ []) mid → Declares w mid ds new → Declares w old (d ∷ ds) new
declares_more w old mid new d ds one rest = record {
  adds = λ k invs procs become.
      let b : BecomeParts w k (length old.invs + 1) d ds invs procs = become_parts w k (length old.invs + 1) d ds invs procs become in
      let h : Adds w old b.first_invs b.first_procs mid = one.adds k b.first_invs b.first_procs b.first in
      let j : Adds w mid b.later_invs b.later_procs new = rest.adds (k + 1) b.later_invs b.later_procs
      (numbered w (k + 1) (length old.invs + 1 + length b.first_invs) (length mid.invs + 1) ds b.later_invs b.later_procs
      (next_number w old mid b.first_invs b.first_procs h) b.later) in
      subst (λ (xs : List Inv). Adds w old xs procs new) (sym b.invs_are)
      (subst (λ (xs : List Proc). Adds w old (b.first_invs ++ b.later_invs) xs new) (sym b.procs_are)
      (adds_both w old mid new b.first_invs b.later_invs b.first_procs b.later_procs h j));
}

-- # What is too large

both_past : (test : Test) (invs is js : List Inv) (procs ps qs : List Proc) → invs ≡ is ++ js → procs ≡ ps ++ qs
    → some_passes test (is ++ js) (ps ++ qs) ≡ true → some_passes test invs procs ≡ true
both_past test invs is js procs ps qs same_invs same_procs h = ap₂ (some_passes test) same_invs same_procs ∙ h

pub large_first : (w : Work) (old : Declared) (d : DeclTree) (ds : List DeclTree) → IsTooLarge w old (d ∷ []) → IsTooLarge w old (d ∷ ds)
large_first w old d ds h = record {
  past = λ k invs procs become.
      let b : BecomeParts w k (length old.invs + 1) d ds invs procs = become_parts w k (length old.invs + 1) d ds invs procs become in
      both_past (is_large_in w.cons.now) invs b.first_invs b.later_invs procs b.first_procs b.later_procs b.invs_are b.procs_are
      (passes_first (is_large_in w.cons.now) b.first_invs b.later_invs b.first_procs b.later_procs
      (h.past k b.first_invs b.first_procs b.first));
}

large_later : (w : Work) (old mid : Declared) (d : DeclTree) (ds : List DeclTree) → Declares w old (d ∷ []) mid → IsTooLarge w mid ds
    → IsTooLarge w old (d ∷ ds)
large_later w old mid d ds one h = record {
  past = λ k invs procs become.
      let b : BecomeParts w k (length old.invs + 1) d ds invs procs = become_parts w k (length old.invs + 1) d ds invs procs become in
      let a : Adds w old b.first_invs b.first_procs mid = one.adds k b.first_invs b.first_procs b.first in
      both_past (is_large_in w.cons.now) invs b.first_invs b.later_invs procs b.first_procs b.later_procs b.invs_are b.procs_are
      (passes_later (is_large_in w.cons.now) b.first_invs b.later_invs b.first_procs b.later_procs
      (h.past (k + 1) b.later_invs b.later_procs
      (numbered w (k + 1) (length old.invs + 1 + length b.first_invs) (length mid.invs + 1) ds b.later_invs b.later_procs
      (next_number w old mid b.first_invs b.first_procs a) b.later)));
}

-- # A loop: what the rest declares completes the whole

pub record Ends (w : Work) (start now : Declared) (whole rest : List DeclTree) : Type 0 where
  pub ends : (new : Declared) → Declares w now rest new → Declares w start whole new
  pub large : IsTooLarge w now rest → IsTooLarge w start whole

pub ends_first : (w : Work) (start : Declared) (ds : List DeclTree) → Ends w start start ds ds
ends_first w start ds = record { ends = λ new h. h; large = λ h. h }

pub ends_more : (w : Work) (start now next : Declared) (whole rest : List DeclTree) (d : DeclTree) (ds : List DeclTree)
    → Ends w start now whole rest → rest ≡ d ∷ ds → Declares w now (d ∷ []) next → Ends w start next whole ds
ends_more w start now next whole rest d ds e is one = record {
  ends = λ new h. e.ends new (subst (λ (xs : List DeclTree). Declares w now xs new) (sym is) (declares_more w now next new d ds one h));
  large = λ h. e.large (subst (λ (xs : List DeclTree). IsTooLarge w now xs) (sym is) (large_later w now next d ds one h));
}

pub ends_large : (w : Work) (start now : Declared) (whole rest : List DeclTree) (d : DeclTree) (ds : List DeclTree)
    → Ends w start now whole rest → rest ≡ d ∷ ds → IsTooLarge w now (d ∷ []) → IsTooLarge w start whole
ends_large w start now whole rest d ds e is h =
    e.large (subst (λ (xs : List DeclTree). IsTooLarge w now xs) (sym is) (large_first w now d ds h))

pub ends_last : (w : Work) (start now : Declared) (whole rest : List DeclTree) → Ends w start now whole rest → rest ≡ []
    → Declares w start whole now
ends_last w start now whole rest e is =
    e.ends now (subst (λ (xs : List DeclTree). Declares w now xs now) (sym is) (declares_none w now))

-- # Each declaration

one_made : {X Y : Type 0} (f : X → Option Y) (x : X) (ys : List Y) → each f (x ∷ []) ≡ Some ys → (y : Y) × (f x ≡ Some y) × (ys ≡ y ∷ [])
one_made {Y = Y} f x ys h =
    both_there (λ (zs : List Y). (y : Y) × (f x ≡ Some y) × (zs ≡ y ∷ [])) ◌∷◌ (f x) (Some []) ys h
    (λ y zs is_y is_zs. (y, is_y, ap (λ (l : List Y). y ∷ l) (no_more f zs is_zs)))

-- what declares neither an invariant nor a procedure
pub declares_other : (w : Work) (x : Declared) (d : DeclTree) → ((k n : ℕ) → invs_from k n (d ∷ []) ≡ []) → ((k : ℕ) → procs_from k (d ∷ []) ≡ [])
    → Declares w x (d ∷ []) x
declares_other w x d no_invs no_procs = record {
  adds = λ k invs procs become. (declares_none w x).adds k invs procs (record {
    measured = become.measured;
    invs_are = ap (each (inv_in w)) (sym (no_invs k (length x.invs + 1))) ∙ become.invs_are;
    procs_are = ap (each (proc_in w)) (sym (no_procs k)) ∙ become.procs_are;
  });
}

widened : (b : Bool) → b ≡ ((b || false) || false)
widened b = sym (or_nothing (b || false) ∙ or_nothing b)

-- an invariant
pub declares_inv : (w : Work) (old : Declared) (number : ℕ) (at : Span) (x : Option Ident) (e : ExprTree) (inv : InvDecl) (passed : Passed)
    → number ≡ length old.invs + 1
    → ((d : InvTree) (wanted : Inv) → d ≡ inv_tree number at x e → AreMeasuredIn w → inv_in w d ≡ Some wanted
    → w.building ≡ true → inv_view inv ≡ wanted)
    → ((d : InvTree) (wanted : Inv) → d ≡ inv_tree number at x e → AreMeasuredIn w → inv_in w d ≡ Some wanted
    → w.building ≡ true → inv_passing wanted (is_large_in w.cons.now) ≡ false)
    → ((d : InvTree) (wanted : Inv) → d ≡ inv_tree number at x e → AreMeasuredIn w → inv_in w d ≡ Some wanted
    → IsPassedBy w old.passed (inv_passing wanted) passed)
    → Declares w old (DeclTree.node at (DeclForm.invariant x e) ∷ []) (record { invs = old.invs ++ inv ∷ []; procs = old.procs; passed = passed })
declares_inv w old number at x e inv passed is_number made small passes = record {
  adds = λ k invs procs become.
      let new : Declared = record { invs = old.invs ++ inv ∷ []; procs = old.procs; passed = passed } in
      let d : InvTree = inv_tree number at x e in
      let one = one_made (inv_in w) (record { decl = k; at = at; name = inv_name (length old.invs + 1) x; body = e }) invs become.invs_are in
      let found : inv_in w d ≡ Some one.0 = ap (λ (m : ℕ). inv_in w (inv_tree m at x e)) is_number ∙ one.1 in
      let own : Adds w old (one.0 ∷ []) [] new = record {
        inv_count = length-append old.invs (inv ∷ []);
        proc_counts = sym (append-nil (counts (map proc_view old.procs)));
        passed =
            passed_same w old.passed passed (inv_passing one.0) (λ test. some_passes test (one.0 ∷ []) [])
            (λ test. widened (inv_passing one.0 test)) (passes d one.0 refl become.measured found);
        small = λ on. sym (widened (inv_passing one.0 (is_large_in w.cons.now))) ∙ small d one.0 refl become.measured found on;
        invs_are = λ on.
            map-append inv_view old.invs (inv ∷ [])
            ∙ ap (λ (i : Inv). map inv_view old.invs ++ i ∷ []) (made d one.0 refl become.measured found on);
        procs_are = λ on. sym (append-nil (map proc_view old.procs));
      } in
      subst (λ (is : List Inv). Adds w old is procs new) (sym one.2)
      (subst (λ (ps : List Proc). Adds w old (one.0 ∷ []) ps new) (sym (no_more (proc_in w) procs become.procs_are)) own);
}

-- a procedure
pub declares_proc : (w : Work) (old : Declared) (at : Span) (tree : ProcTree) (proc : code_proc.ProcDecl) (passed : Passed)
    → ((d : ProcDecl) (wanted : Proc) → d ≡ proc_tree at tree → AreMeasuredIn w → proc_in w d ≡ Some wanted
    → w.building ≡ true → proc_view proc ≡ wanted)
    → ((d : ProcDecl) (wanted : Proc) → d ≡ proc_tree at tree → AreMeasuredIn w → proc_in w d ≡ Some wanted
    → sts_count (proc_view proc).body ≡ sts_count wanted.body)
    → ((d : ProcDecl) (wanted : Proc) → d ≡ proc_tree at tree → AreMeasuredIn w → proc_in w d ≡ Some wanted
    → w.building ≡ true → proc_passing wanted (is_large_in w.cons.now) ≡ false)
    → ((d : ProcDecl) (wanted : Proc) → d ≡ proc_tree at tree → AreMeasuredIn w → proc_in w d ≡ Some wanted
    → IsPassedBy w old.passed (proc_passing wanted) passed)
    → Declares w old (DeclTree.node at (DeclForm.proc tree) ∷ []) (record { invs = old.invs; procs = old.procs ++ proc ∷ []; passed = passed })
declares_proc w old at tree proc passed made count small passes = record {
  adds = λ k invs procs become.
      let new : Declared = record { invs = old.invs; procs = old.procs ++ proc ∷ []; passed = passed } in
      let d : ProcDecl = proc_tree at tree in
      let one = one_made (proc_in w) (record { decl = k; at = at; tree = tree }) procs become.procs_are in
      let found : proc_in w d ≡ Some one.0 = one.1 in
      let own : Adds w old [] (one.0 ∷ []) new = record {
        inv_count = sym (add-zero (length old.invs));
        proc_counts =
            ap counts (map-append proc_view old.procs (proc ∷ []))
            ∙ map-append (λ (p : Proc). sts_count p.body) (map proc_view old.procs) (proc_view proc ∷ [])
            ∙ ap (λ (m : ℕ). counts (map proc_view old.procs) ++ m ∷ []) (count d one.0 refl become.measured found);
        passed =
            passed_same w old.passed passed (proc_passing one.0) (λ test. some_passes test [] (one.0 ∷ []))
            (λ test. sym (or_nothing (proc_passing one.0 test))) (passes d one.0 refl become.measured found);
        small = λ on. or_nothing (proc_passing one.0 (is_large_in w.cons.now)) ∙ small d one.0 refl become.measured found on;
        invs_are = λ on. sym (append-nil (map inv_view old.invs));
        procs_are = λ on.
            map-append proc_view old.procs (proc ∷ [])
            ∙ ap (λ (p : Proc). map proc_view old.procs ++ p ∷ []) (made d one.0 refl become.measured found on);
      } in
      subst (λ (is : List Inv). Adds w old is procs new) (sym (no_more (inv_in w) invs become.invs_are))
      (subst (λ (ps : List Proc). Adds w old [] ps new) (sym one.2) own);
}

-- # What a declaration has that is too large

pub large_inv : (w : Work) (old : Declared) (number : ℕ) (at : Span) (x : Option Ident) (e : ExprTree)
    → number ≡ length old.invs + 1
    → ((d : InvTree) (wanted : Inv) → d ≡ inv_tree number at x e → AreMeasuredIn w → inv_in w d ≡ Some wanted
    → inv_passing wanted (is_large_in w.cons.now) ≡ true)
    → IsTooLarge w old (DeclTree.node at (DeclForm.invariant x e) ∷ [])
large_inv w old number at x e is_number large = record {
  past = λ k invs procs become.
      let one = one_made (inv_in w) (record { decl = k; at = at; name = inv_name (length old.invs + 1) x; body = e }) invs become.invs_are in
      let found : inv_in w (inv_tree number at x e) ≡ Some one.0 = ap (λ (m : ℕ). inv_in w (inv_tree m at x e)) is_number ∙ one.1 in
      ap₂ (some_passes (is_large_in w.cons.now)) one.2 (no_more (proc_in w) procs become.procs_are)
      ∙ sym (widened (inv_passing one.0 (is_large_in w.cons.now)))
      ∙ large (inv_tree number at x e) one.0 refl become.measured found;
}

pub large_proc : (w : Work) (old : Declared) (at : Span) (tree : ProcTree)
    → ((d : ProcDecl) (wanted : Proc) → d ≡ proc_tree at tree → AreMeasuredIn w → proc_in w d ≡ Some wanted
    → proc_passing wanted (is_large_in w.cons.now) ≡ true)
    → IsTooLarge w old (DeclTree.node at (DeclForm.proc tree) ∷ [])
large_proc w old at tree large = record {
  past = λ k invs procs become.
      let one = one_made (proc_in w) (record { decl = k; at = at; tree = tree }) procs become.procs_are in
      ap₂ (some_passes (is_large_in w.cons.now)) (no_more (inv_in w) invs become.invs_are) one.2
      ∙ or_nothing (proc_passing one.0 (is_large_in w.cons.now))
      ∙ large (proc_tree at tree) one.0 refl become.measured one.1;
}

-- # All declarations, from nothing

pub all_declared : (w : Work) (start : Declared) (tree : List DeclTree) (new : Declared) → start ≡ nothing → Declares w start tree new
    → (invs : List Inv) (procs : List Proc) → AreWanted w tree invs procs → Adds w nothing invs procs new
all_declared w start tree new is h = (subst (λ (x : Declared). Declares w x tree new) is h).adds 0

pub all_large : (w : Work) (start : Declared) (tree : List DeclTree) → start ≡ nothing → IsTooLarge w start tree
    → (invs : List Inv) (procs : List Proc) → AreWanted w tree invs procs → some_passes (is_large_in w.cons.now) invs procs ≡ true
all_large w start tree is h = (subst (λ (x : Declared). IsTooLarge w x tree) is h).past 0

abbrev pub start_of : List InvDecl → List code_proc.ProcDecl → Declared
start_of invs procs = record { invs = invs; procs = procs; passed = record { depth = 0; binders = 0 } }

pub is_nothing : (invs : List InvDecl) (procs : List code_proc.ProcDecl) → invs ≡ [] → procs ≡ [] → start_of invs procs ≡ nothing
is_nothing invs procs no_invs no_procs = λ i. start_of (no_invs i) (no_procs i)

abbrev pub failed : (T : Type 0) {E : Type 0} → E → Result T E
failed T e = Err e

pub same_err : {T E : Type 0} (x y : E) → failed T x ≡ failed T y → x ≡ y
same_err x y h = cc
