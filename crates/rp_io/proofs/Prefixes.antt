-- Lines that are put one after another.
use Rattle.std.proofs.Common.{◌≡◌, ℕ, ◌+◌, ◌-◌, ◌<◌, List, ◌∷◌, ◌++◌, length, get_or, take, drop, min, ap, sym, ◌∙◌, subst, arith, append_assoc, IfSome}
use Rattle.std.specs.declared.option.Option.{Option}
use Rattle.std.specs.declared.option.Option.TheVariants.{None, Some}
use Rattle.std.specs.declared.vec.Vec.{Vec}
use Rattle.std.specs.declared.alloc.Global.{Global}
use Rattle.std.specs.Option.{option_map}
use Rattle.std.proofs.lemmas.List.{length-append, take-append-drop, take-append-le, take_min, drop_more}
use Rattle.std.proofs.lemmas.List.Concat.{flat_map-append}
use Rattle.std.proofs.Math.Seq.{take-append-add}
use Rattle.rp_io.specs.Sinks.{Puts, PutsPrefix, TakesRoom, bytes_of}

abbrev pub Line : Type 0
Line = Vec ℕ Global

bytes_of-split : (lines : List Line) (i : ℕ) (line : Line) → i < length lines → line ≡ get_or lines i line → bytes_of lines ≡ bytes_of (take i lines) ++ (line.items ++ bytes_of (drop (i + 1) lines))
bytes_of-split lines i line lt is =
    ap bytes_of (sym (take-append-drop i lines))
    ∙ (flat_map-append (λ (each : Line). each.items) (take i lines) (drop i lines)
    ∙ ap (λ rest. bytes_of (take i lines) ++ bytes_of rest) (drop_more lines i line lt ∙ ap (λ each. each ∷ drop (i + 1) lines) (sym is)))

take-through : (a b rest : List ℕ) (n : ℕ) → take (length a + min n (length b)) (a ++ (b ++ rest)) ≡ a ++ take n b
take-through a b rest n = take-append-add a (b ++ rest) (min n (length b)) ∙ ap (λ z. a ++ z) (take-append-le (min n (length b)) b rest (omega arith) ∙ take_min n b)

-- two appends are one
pub Puts-append : (old mid new : Option (List ℕ)) (a b : List ℕ) → Puts old mid a → Puts mid new b → Puts old new (a ++ b)
Puts-append None mid new a b p q = q ∙ ap (option_map (λ xs. xs ++ b)) p
Puts-append (Some xs) mid new a b p q = q ∙ (ap (option_map (λ xs. xs ++ b)) p ∙ ap Some (append_assoc xs a b))

-- a prefix of one line after whole lines is a prefix of all
pub PutsPrefix-line : (lines : List Line) (i : ℕ) (line : Line) (old mid new : Option (List ℕ)) → i < length lines → line ≡ get_or lines i line → Puts old mid (bytes_of (take i lines)) → PutsPrefix mid new line.items → PutsPrefix old new (bytes_of lines)
PutsPrefix-line lines i line old mid new lt is p q =
    let before = bytes_of (take i lines) in
    let n = length before + min q.0 (length line.items) in
    let same : before ++ take q.0 line.items ≡ take n (bytes_of lines) = sym (ap (take n) (bytes_of-split lines i line lt is) ∙ take-through before line.items (bytes_of (drop (i + 1) lines)) q.0) in
    (n, subst (Puts old new) same (Puts-append old mid new before (take q.0 line.items) p q.1))

-- no room for one line after whole lines is no room for all
pub no_room-line : (lines : List Line) (i : ℕ) (line : Line) (old mid : Option ℕ) → i < length lines → line ≡ get_or lines i line → TakesRoom old mid (length (bytes_of (take i lines))) → IfSome mid (λ n. n < length line.items) → IfSome old (λ n. n < length (bytes_of lines))
no_room-line lines i line None mid lt is t small = tt
no_room-line lines i line (Some room) mid lt is t small =
    let before = bytes_of (take i lines) in
    let after = bytes_of (drop (i + 1) lines) in
    let little : room - length before < length line.items = subst (λ o. IfSome o (λ n. n < length line.items)) t.left small in
    let all : length (bytes_of lines) ≡ length before + (length line.items + length after) = ap length (bytes_of-split lines i line lt is) ∙ (length-append before (line.items ++ after) ∙ ap (λ n. length before + n) (length-append line.items after)) in
    omega (arith, little, all, t.had)
