-- The longest front whose bytes pass a test.
use Rattle.std.proofs.Common.{◌≡◌, ℕ, Bool, true, List, [], ◌∷◌, ◌++◌, length, refl, ap, subst, arith, ⊎_elim}
use Rattle.std.specs.List.{prefix_len}
use Rattle.std.proofs.lemmas.Bool.{cases_Bool, both_ways}
use Rattle.rp_grammar.specs.Pieces.{Every}

-- the bytes end, or begin with one that fails
abbrev pub Stops : (ℕ → Bool) → List ℕ → Type 0
Stops p [] = Unit {0}
Stops p (b ∷ bs) = p b ≡ true → ⊥

pub record Cut (p : ℕ → Bool) (bs : List ℕ) : Type 0 where
  pub front : List ℕ
  pub rest : List ℕ
  pub is : bs ≡ front ++ rest
  pub every : Every p front
  pub stops : Stops p rest
  pub len : prefix_len p bs ≡ length front

pub cut : (p : ℕ → Bool) (bs : List ℕ) → Cut p bs
cut p [] = record { front = []; rest = []; is = refl; every = tt; stops = tt; len = refl }
cut p (b ∷ bs) =
    ⊎_elim
    (λ e. let c = cut p bs in let l = c.len in record {
      front = b ∷ c.front;
      rest = c.rest;
      is = ap (λ x. b ∷ x) c.is;
      every = (e, c.every);
      stops = c.stops;
      len = rw e (omega arith);
    })
    (λ e. record { front = []; rest = b ∷ bs; is = refl; every = tt; stops = λ t. both_ways (p b) e t; len = rw e refl })
    (cases_Bool (p b))

pub prefix_len_at : (p : ℕ → Bool) (xs ys : List ℕ) → Every p xs → Stops p ys → prefix_len p (xs ++ ys) ≡ length xs
prefix_len_at p [] [] a s = refl
prefix_len_at p [] (y ∷ ys) a s = ⊎_elim (λ e. absurd (s e)) (λ e. rw e refl) (cases_Bool (p y))
prefix_len_at p (x ∷ xs) ys a s = let l = prefix_len_at p xs ys a.1 s in rw (a.0) (omega arith)

pub every_append_right : (p : ℕ → Bool) (xs ys : List ℕ) → Every p (xs ++ ys) → Every p ys
every_append_right p [] ys a = a
every_append_right p (x ∷ xs) ys a = every_append_right p xs ys a.1

pub every_append : (p : ℕ → Bool) (xs ys : List ℕ) → Every p xs → Every p ys → Every p (xs ++ ys)
every_append p [] ys a b = b
every_append p (x ∷ xs) ys a b = (a.0, every_append p xs ys a.1 b)

-- no byte can be added where the rest stops
pub nothing_more : (p : ℕ → Bool) (more after rest : List ℕ) → rest ≡ more ++ after → Stops p rest → Every p more → more ≡ []
nothing_more p [] after rest h s a = refl
nothing_more p (m ∷ more) after rest h s a = absurd (subst (Stops p) h s a.0)
