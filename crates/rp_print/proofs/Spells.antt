-- Phrases put together: what stands for some terminals, whatever the places of its tokens are.
use Rattle.std.proofs.Common.{◌≡◌, ℕ, List, [], ◌∷◌, ◌++◌, map, sym, ap, ◌∙◌, append_assoc}
use Rattle.rp_span.specs.declared.Span.{Span}
use Rattle.rp_grammar.specs.Terminals.{Terminal, Tok, at, Placed, on, plain}

abbrev pub terminal_of : Tok → Terminal
terminal_of (at k s) = k

-- the token of one terminal
pub data Key (k : Terminal) (d : ℕ) : List Placed → List Placed → Type 0 where
  key : {s : Span} {r : List Placed} → Key k d (on k s d ∷ r) r

-- one phrase and then another
pub data Then (P Q : List Placed → List Placed → Type 0) : List Placed → List Placed → Type 0 where
  then_ : {ts r u : List Placed} → P ts r → Q r u → Then P Q ts u

-- no token
pub data Empty : List Placed → List Placed → Type 0 where
  empty : {r : List Placed} → Empty r r

-- the tokens begin with those of a phrase, and the others have the terminals of the rest
abbrev pub Found : (List Placed → List Placed → Type 0) → List Tok → List Terminal → Type 0
Found P us rest = (vs : List Tok) × (map terminal_of vs ≡ rest) × ((r : List Placed) → map plain r ≡ vs → (ms : List Placed) × (map plain ms ≡ us) × P ms r)

-- tokens of these terminals are those of a phrase
pub record Spells (P : List Placed → List Placed → Type 0) (ts : List Terminal) : Type 0 where
  pub reads : (us : List Tok) (rest : List Terminal) → map terminal_of us ≡ ts ++ rest → Found P us rest

no_terminal : (k : Terminal) (rest : List Terminal) → [] ≡ k ∷ rest → ⊥
no_terminal k rest e = cc

same_first : (j k : Terminal) (us ts : List Terminal) → j ∷ us ≡ k ∷ ts → j ≡ k
same_first j k us ts e = cc

same_rest : (j k : Terminal) (us ts : List Terminal) → j ∷ us ≡ k ∷ ts → us ≡ ts
same_rest j k us ts e = cc

placed_token : (j k : Terminal) (s : Span) (d : ℕ) (r : List Placed) (us : List Tok) → j ≡ k → map plain r ≡ us → map plain (on k s d ∷ r) ≡ at j s ∷ us
placed_token j k s d r us e i = ap (λ t. at t s ∷ map plain r) (sym e) ∙ ap (λ vs. at j s ∷ vs) i

one_found : (k : Terminal) (d : ℕ) (us : List Tok) (rest : List Terminal) → map terminal_of us ≡ k ∷ rest → Found (Key k d) us rest
one_found k d [] rest h = absurd (no_terminal k rest h)
one_found k d (at j s ∷ us) rest h =
    (us, same_rest j k (map terminal_of us) rest h, λ r i. (on k s d ∷ r, placed_token j k s d r us (same_first j k (map terminal_of us) rest h) i, key))

pub one : (k : Terminal) (d : ℕ) → Spells (Key k d) (k ∷ [])
one k d = record { reads = one_found k d }

pub none : Spells Empty []
none = record { reads = λ us rest h. (us, h, λ r i. (r, i, empty)) }

pub turned : {P Q : List Placed → List Placed → Type 0} {a : List Terminal} → ((ms r : List Placed) → P ms r → Q ms r) → Spells P a → Spells Q a
turned t p = record { reads = λ us rest h. let f = p.reads us rest h in (f.0, f.1, λ r i. let x = f.2 r i in (x.0, x.1, t x.0 r x.2)) }

pub both : {P Q : List Placed → List Placed → Type 0} {a b : List Terminal} → Spells P a → Spells Q b → Spells (Then P Q) (a ++ b)
both {a = a} {b = b} p q = record {
  reads = λ us rest h.
      let f = p.reads us (b ++ rest) (h ∙ append_assoc a b rest) in
      let g = q.reads f.0 rest f.1 in
      (g.0, g.1, λ r i. let y = g.2 r i in let x = f.2 y.0 y.1 in (x.0, x.1, then_ x.2 y.2));
}

pub keyed : {P : List Placed → List Placed → Type 0} {a : List Terminal} (k : Terminal) (d : ℕ) → Spells P a → Spells (Then (Key k d) P) (k ∷ a)
keyed k d p = both (one k d) p
