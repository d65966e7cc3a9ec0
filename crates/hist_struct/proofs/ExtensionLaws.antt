-- A structure extends to itself, and what it extends to may extend further.
use Rattle.std.proofs.Common.{◌≡◌, ℕ, Bool, true, false, List, [], ◌∷◌, refl, sym, ap₂, ◌∙◌, true≢false}
use Rattle.std.proofs.lemmas.Bool.{and_parts, and_from}
use Rattle.rp_lang.specs.Programs.{Prog}
use Rattle.rp_logic.specs.Elements.{Elem, Elems, no_elem, also_elem, same_elem}
use Rattle.rp_logic.specs.Formulas.{Fm}
use Rattle.rp_logic.specs.Signatures.{Signature}
use Rattle.rp_logic.specs.Structures.{Structure, Is, is_elem, are_elems}
use Rattle.rp_logic.proofs.SortLaws.{no}
use Rattle.rp_symbols.specs.Numbers.{call_sort, self_const}
use Rattle.hist_struct.specs.Extension.{Extends}

pub itself : (p : Prog) (begins reads : ℕ) (S : Signature) (privacy : List Fm) (M : Structure) → Extends p begins reads S privacy M M
itself p begins reads S privacy M = record {
  stays = λ s e i. i;
  others = λ s e l i. i;
  consts = λ c. refl;
  defaults = λ s e i. refl;
  selectors = λ con i. refl;
  sums = λ xs. refl;
  differences = λ xs. refl;
  sets = λ r o e. refl;
  values = λ r o n query a g xs i. refl;
  before = λ c d i j. refl;
  stamps = λ c d i j. refl;
  same = λ c d i j. refl;
  ops = λ e i. refl;
  origins = λ e i. refl;
  infos = λ e i. refl;
  foreign = λ c i out. absurd (out i);
  later = λ c d i out j. absurd (out i);
  private = λ n f a h. h;
}

all-stay : (S : Signature) (m n : List ℕ) → ((s : ℕ) (e : Elem) → is_elem S m s e ≡ true → is_elem S n s e ≡ true) → (ss : List ℕ) (xs : Elems) → are_elems S m ss xs ≡ true → are_elems S n ss xs ≡ true
all-stay S m n stay [] no_elem h = refl
all-stay S m n stay [] (also_elem x xs) h = no h
all-stay S m n stay (s ∷ ss) no_elem h = no h
all-stay S m n stay (s ∷ ss) (also_elem x xs) h =
    let b = and_parts (is_elem S m s x) (are_elems S m ss xs) h in and_from (is_elem S n s x) (are_elems S n ss xs) (stay s x b.0) (all-stay S m n stay ss xs b.1)

-- an element of a structure or not
decided : (S : Signature) (M : Structure) (s : ℕ) (e : Elem) (A : Type 0) → (Is S M s e → A) → ((Is S M s e → ⊥) → A) → A
decided S M s e A yes_ no_ = go (is_elem S M.sizes s e) refl
  where
    go : (b : Bool) → is_elem S M.sizes s e ≡ b → A
    go true q = yes_ q
    go false q = no_ (λ i. true≢false (sym i ∙ q))

pub further : (p : Prog) (begins reads : ℕ) (S : Signature) (privacy : List Fm) (M N O : Structure) → Extends p begins reads S privacy M N → Extends p begins reads S privacy N O → Extends p begins reads S privacy M O
further p begins reads S privacy M N O a b = record {
  stays = λ s e i. b.stays s e (a.stays s e i);
  others = λ s e l i. a.others s e l (b.others s e l i);
  consts = λ c. a.consts c ∙ b.consts c;
  defaults = λ s e i. a.defaults s e i ∙ b.defaults s e (a.stays s e i);
  selectors = λ con i. a.selectors con i ∙ b.selectors con i;
  sums = λ xs. a.sums xs ∙ b.sums xs;
  differences = λ xs. a.differences xs ∙ b.differences xs;
  sets = λ r o e. a.sets r o e ∙ b.sets r o e;
  values = λ r o n query q g xs i. a.values r o n query q g xs i ∙ b.values r o n query q g xs (all-stay S M.sizes N.sizes a.stays _ xs i);
  before = λ c d i j. a.before c d i j ∙ b.before c d (a.stays call_sort c i) (a.stays call_sort d j);
  stamps = λ c d i j. a.stamps c d i j ∙ b.stamps c d (a.stays call_sort c i) (a.stays call_sort d j);
  same = λ c d i j. a.same c d i j ∙ b.same c d (a.stays call_sort c i) (a.stays call_sort d j);
  ops = λ e i. a.ops e i ∙ b.ops e (a.stays call_sort e i);
  origins = λ e i. a.origins e i ∙ b.origins e (a.stays call_sort e i);
  infos = λ e i. a.infos e i ∙ b.infos e (a.stays 1 e i);
  foreign = λ c i out.
      decided S N call_sort c _ (λ j. ap₂ same_elem (sym (b.origins c j)) (sym (b.consts self_const)) ∙ a.foreign c j out) (λ away. b.foreign c i away);
  later = λ c d i out j.
      decided S N call_sort c _ (λ k. sym (b.before c d k (a.stays call_sort d j)) ∙ a.later c d k out j) (λ away. b.later c d i away (a.stays call_sort d j));
  private = λ n f e h. b.private n f e (a.private n f e h);
}
