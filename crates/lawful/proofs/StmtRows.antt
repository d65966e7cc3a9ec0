-- Statements in a row: what is set behind them, which of them return, and which expressions they hold.
use Rattle.std.proofs.Common.{◌≡◌, ℕ, Bool, true, false, not, ◌&&◌, ◌||◌, refl, ap, ◌∙◌}
use Rattle.std.proofs.lemmas.Bool.{and_from, and_parts, or_parts, or_right}
use Rattle.rp_lang.specs.Stmts.{St, Sts, no_st, also_st}
use Rattle.rp_lang.specs.Flow.{sets, all_set}
use Rattle.rp_lang.specs.Programs.{Prog}
use Rattle.rp_lang.specs.Typing.{Frame}
use Rattle.rp_lang.specs.Blocks.{are_stmts, behind, is_end, is_return, is_stmt}
use Rattle.desugaring.specs.Statements.{append, one_st}
use Rattle.desugaring.specs.Limits.{Test, some_in, some_in_all}
use Rattle.lawful.proofs.Flows.{With}
use Rattle.lawful.proofs.SlotLaws.{Grows}

-- the slots that are set behind the statements, as their frames have it one after the other
abbrev pub after_all : Sts → (ℕ → Bool) → ℕ → Bool
after_all no_st set = set
after_all (also_st st sts) set = after_all sts (λ s. set s || sets s st)

regroup : (a b c : Bool) → (a || (b || c)) ≡ true → (a || b || c) ≡ true
regroup true b c e = refl
regroup false b c e = e

pub after_with : (sts : Sts) (set : ℕ → Bool) → Grows (With set sts) (after_all sts set)
after_with no_st set s h = by_value (set s) h where
  by_value : (b : Bool) → (b || false) ≡ true → b ≡ true
  by_value true h = refl
  by_value false h = h
after_with (also_st st sts) set s h = after_with sts (λ j. set j || sets j st) s (regroup (set s) (sets s st) (all_set s sts) h)

-- no statement of the row returns
abbrev pub goes_on : Sts → Bool
goes_on no_st = true
goes_on (also_st st sts) = not (is_return st) && goes_on sts

pub one_fine : (p : Prog) (f : Frame) (st : St) → is_stmt p f st ≡ true → are_stmts p f (one_st st) ≡ true
one_fine p f st h = and_from (is_stmt p f st) true h refl

append_none : (sts : Sts) → append sts no_st ≡ sts
append_none no_st = refl
append_none (also_st st sts) = ap (also_st st) (append_none sts)

-- a row behind one that goes on, or nothing behind it
pub row_fine : (p : Prog) (f : Frame) (first rest : Sts) → are_stmts p f first ≡ true → (is_end rest || goes_on first) ≡ true
    → are_stmts p (record f { set = after_all first f.set }) rest ≡ true → are_stmts p f (append first rest) ≡ true
row_fine p f first no_st is on then_ = ap (are_stmts p f) (append_none first) ∙ is
row_fine p f first (also_st st rest) is on then_ = longer p f first (also_st st rest) is on then_ where
  longer : (p : Prog) (f : Frame) (first rest : Sts) → are_stmts p f first ≡ true → goes_on first ≡ true
      → are_stmts p (record f { set = after_all first f.set }) rest ≡ true → are_stmts p f (append first rest) ≡ true
  longer p f no_st rest is on then_ = then_
  longer p f (also_st st sts) rest is on then_ =
      let goes = and_parts (not (is_return st)) (goes_on sts) on in
      let parts = and_parts ((is_end sts || not (is_return st)) && is_stmt p f st) (are_stmts p (behind st f) sts) is in
      let here = and_parts (is_end sts || not (is_return st)) (is_stmt p f st) parts.0 in
      and_from ((is_end (append sts rest) || not (is_return st)) && is_stmt p f st) (are_stmts p (behind st f) (append sts rest))
      (and_from (is_end (append sts rest) || not (is_return st)) (is_stmt p f st) (or_right (is_end (append sts rest)) (not (is_return st)) goes.0) here.1)
      (longer p (behind st f) sts rest parts.1 goes.1 then_)

-- a statement that doesn't return, and the row behind it
pub before_fine : (p : Prog) (f : Frame) (st : St) (rest : Sts) → is_return st ≡ false → is_stmt p f st ≡ true → are_stmts p (behind st f) rest ≡ true
    → are_stmts p f (also_st st rest) ≡ true
before_fine p f st rest on is then_ =
    and_from ((is_end rest || not (is_return st)) && is_stmt p f st) (are_stmts p (behind st f) rest)
    (and_from (is_end rest || not (is_return st)) (is_stmt p f st) (or_right (is_end rest) (not (is_return st)) (ap not on)) is) then_

-- an expression of the whole is one of the first row or of the rest
pub some_append : (test : Test) (first rest : Sts) → some_in_all test (append first rest) ≡ false
    → (some_in_all test first ≡ false) × (some_in_all test rest ≡ false)
some_append test no_st rest e = (refl, e)
some_append test (also_st st sts) rest e =
    let h = or_parts (some_in test st) (some_in_all test (append sts rest)) e in
    let r = some_append test sts rest h.1 in (both_false (some_in test st) (some_in_all test sts) h.0 r.0, r.1) where
      both_false : (a b : Bool) → a ≡ false → b ≡ false → (a || b) ≡ false
      both_false true b e h = absurd cc
      both_false false b e h = h
