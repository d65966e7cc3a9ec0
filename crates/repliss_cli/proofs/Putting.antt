-- Bytes that were put.
use Rattle.std.proofs.Common.{◌≡◌, ℕ, ◌<◌, List, length, refl, sym, ap, subst, append-nil}
use Rattle.std.specs.declared.option.Option.{Option}
use Rattle.std.specs.declared.option.Option.TheVariants.{None, Some}
use Rattle.std.specs.Prelude.{IfSome}
use Rattle.std.proofs.Math.Seq.{take-length}
use Rattle.rp_io.specs.Sinks.{Puts, PutsPrefix}

-- all of the bytes are a prefix of them
pub whole_prefix : (old new : Option (List ℕ)) (text : List ℕ) → Puts old new text → PutsPrefix old new text
whole_prefix old new text put = (length text, subst (Puts old new) (sym (take-length text)) put)

-- there is no room for the same bytes
pub no_room_for : (room : Option ℕ) (lines text : List ℕ) → lines ≡ text → IfSome room (λ n. n < length lines) → IfSome room (λ n. n < length text)
no_room_for room lines text same h = subst (λ bytes. IfSome room (λ n. n < length bytes)) same h

-- nothing was put, of whatever bytes
pub none_put : (old : Option (List ℕ)) (text : List ℕ) → PutsPrefix old old text
none_put None text = (0, refl)
none_put (Some bytes) text = (0, ap (λ b. Some b) (sym (append-nil bytes)))
