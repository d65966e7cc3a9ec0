-- The first place of a newline, from a search of bytes.
use Rattle.std.proofs.Common.{◌≡◌, ℕ, zero, suc, ◌+◌, ◌<◌, ◌≤◌, Bool, true, false, List, [], ◌∷◌, length, drop, Option, Some, None, refl, sym, ap, ◌∙◌, subst, arith, inl, inr}
use Rattle.std.specs.Prelude.{cond, option_map, slice_index}
use Rattle.std.specs.List.{position_from}
use Rattle.std.proofs.lemmas.Bool.{cases_Bool, true≢false}
use Rattle.memchr.specs.Find.{IsFirstByte, NoneBefore, Nowhere, Passes, is_byte}
use Rattle.schedule_fmt.specs.means.Reading.{is_newline}

abbrev Is : List ℕ → ℕ → Type 0
Is text k = Passes (is_byte 10) text k

here : (b : ℕ) (text : List ℕ) (from : ℕ) → is_newline b ≡ true → (r : Option ℕ) → IsFirstByte (is_byte 10) (b ∷ text) r
    → cond (is_newline b) (Some from) (position_from is_newline (from + 1) text) ≡ option_map (λ k. from + k) r
here b text from e None first = absurd (first 0 (omega arith) (omega arith) e)
here b text from e (Some zero) first = ap (λ t. cond t (Some from) (position_from is_newline (from + 1) text)) e ∙ (let same : from ≡ from + 0 = omega arith in ap (λ k. Some k) same)
here b text from e (Some (suc k)) first = absurd (first.0.before 0 (omega arith) (omega arith) e)

-- what is first behind one byte that is no newline
behind : (b : ℕ) (text : List ℕ) (r : Option ℕ) → IsFirstByte (is_byte 10) (b ∷ text) (option_map (λ k. suc k) r) → IsFirstByte (is_byte 10) text r
behind b text None first = λ k low high. first (suc k) (omega arith) (omega arith)
behind b text (Some k) first = (
  record { low = omega arith; high = (let h : suc k < length (b ∷ text) = first.0.high in omega arith); before = λ j low high. first.0.before (suc j) (omega arith) (omega arith) },
  first.1,
)

-- what is told of the text behind it
abbrev Told : List ℕ → ℕ → Type 0
Told text from = (r : Option ℕ) → IsFirstByte (is_byte 10) text r → position_from is_newline from text ≡ option_map (λ k. from + k) r

there : (b : ℕ) (text : List ℕ) (from : ℕ) → is_newline b ≡ false → Told text (from + 1) → (r : Option ℕ) → IsFirstByte (is_byte 10) (b ∷ text) r
    → cond (is_newline b) (Some from) (position_from is_newline (from + 1) text) ≡ option_map (λ k. from + k) r
there b text from e told None first =
    ap (λ t. cond t (Some from) (position_from is_newline (from + 1) text)) e ∙ told None (behind b text None first)
there b text from e told (Some zero) first = absurd (true≢false (sym first.1 ∙ e))
there b text from e told (Some (suc k)) first =
    ap (λ t. cond t (Some from) (position_from is_newline (from + 1) text)) e ∙ told (Some k) (behind b text (Some k) first)
    ∙ (let same : from + 1 + k ≡ from + suc k = omega arith in ap (λ m. Some m) same)

pub first_is : (text : List ℕ) (from : ℕ) (r : Option ℕ) → IsFirstByte (is_byte 10) text r → position_from is_newline from text ≡ option_map (λ k. from + k) r
first_is [] from None first = refl
first_is [] from (Some k) first = absurd (let h : k < 0 = first.0.high in omega arith)
first_is (b ∷ text) from r first =
    elim (cases_Bool (is_newline b)) [
      | inl e ↦ here b text from e r first
      | inr e ↦ there b text from e (first_is text (from + 1)) r first
    ]
