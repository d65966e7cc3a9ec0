-- A file that is read piece by piece.
use Rattle.std.proofs.Common.{◌≡◌, ℕ, ◌+◌, ◌<◌, List, [], ◌++◌, length, take, drop, refl, ap, sym, ◌∙◌, subst, arith, IfSome, take-add, take_all}
use Rattle.std.specs.declared.option.Option.{Option}
use Rattle.std.specs.declared.option.Option.TheVariants.{None, Some}
use Rattle.std.proofs.lemmas.List.{length-append, length-drop, length-take}
use Rattle.rp_io.specs.Counts.{raised}
use Rattle.rp_io.specs.Files.{Fetches, IsPrefix, PrefixOfTold}

pub PrefixOfTold-empty : (told : Option (List ℕ)) → PrefixOfTold told []
PrefixOfTold-empty None = tt
PrefixOfTold-empty (Some content) = record { same = refl; within = omega arith }

length-fetched : (content : List ℕ) (from n : ℕ) (buf : List ℕ) → Fetches content from n buf → length (take n buf) ≡ n
length-fetched content from n buf f = ap length f.bytes ∙ omega (arith, length-take n (drop from content), f.within)

IsPrefix-append : (content bytes buf : List ℕ) (n : ℕ) → IsPrefix bytes content → Fetches content (length bytes) n buf → IsPrefix (bytes ++ take n buf) content
IsPrefix-append content bytes buf n prefix f =
    let long : length (bytes ++ take n buf) ≡ length bytes + n = length-append bytes (take n buf) ∙ ap (λ k. length bytes + k) (length-fetched content (length bytes) n buf f) in
    let joined : bytes ++ take n buf ≡ take (length bytes + n) content = ap (λ xs. xs ++ take n buf) prefix.same ∙ (ap (λ xs. take (length bytes) content ++ xs) f.bytes ∙ sym (take-add (length bytes) n content)) in
    record {
      same = joined ∙ ap (λ k. take k content) (sym long);
      within = omega (arith, long, f.within, prefix.within, length-drop (length bytes) content);
    }

pub PrefixOfTold-append : (told : Option (List ℕ)) (bytes buf : List ℕ) (from n : ℕ) → from ≡ length bytes → PrefixOfTold told bytes → IfSome told (λ content. Fetches content from n buf) → PrefixOfTold told (bytes ++ take n buf)
PrefixOfTold-append None bytes buf from n is prefix f = tt
PrefixOfTold-append (Some content) bytes buf from n is prefix f =
    let fetched : Fetches content (length bytes) n buf = subst (λ k. Fetches content k n buf) is f in
    IsPrefix-append content bytes buf n prefix fetched

-- where a call gave nothing more, the bytes are all
pub PrefixOfTold-all : (told : Option (List ℕ)) (bytes buf : List ℕ) → PrefixOfTold told bytes → IfSome told (λ content. Fetches content (length bytes) 0 buf) → IfSome told (λ content. bytes ≡ content)
PrefixOfTold-all None bytes buf prefix f = tt
PrefixOfTold-all (Some content) bytes buf prefix f =
    let fetched : Fetches content (length bytes) 0 buf = f in
    let of : IsPrefix bytes content = prefix in
    of.same ∙ take_all (length bytes) content (grind (arith, fetched.some))

-- the content is no shorter than its prefix
pub PrefixOfTold-longer : (told : Option (List ℕ)) (bytes : List ℕ) (limit : ℕ) → PrefixOfTold told bytes → limit < length bytes → IfSome told (λ content. limit < length content)
PrefixOfTold-longer None bytes limit prefix lt = tt
PrefixOfTold-longer (Some content) bytes limit prefix lt = omega (arith, lt, prefix.within)

pub raised-raised : (count m n : ℕ) → raised (raised count m) n ≡ raised count (m + n)
raised-raised count m n = omega arith
