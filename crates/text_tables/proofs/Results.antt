-- What a result holds is seen otherwise.
use Rattle.std.proofs.Common.{Result, Ok, Err}
use Rattle.std.specs.Prelude.{IfOk}

pub ok_then : {X E : Type 0} (P Q : X → Type 0) (r : Result X E) → IfOk r P → ((x : X) → P x → Q x) → IfOk r Q
ok_then P Q (Ok x) p f = f x p
ok_then P Q (Err e) p f = p

pub ok_both : {X E : Type 0} (P Q R : X → Type 0) (r : Result X E) → IfOk r P → IfOk r Q → ((x : X) → P x → Q x → R x) → IfOk r R
ok_both P Q R (Ok x) p q f = f x p q
ok_both P Q R (Err e) p q f = p
