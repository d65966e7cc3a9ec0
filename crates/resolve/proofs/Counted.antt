-- Whether a procedure has more statements than may be, told by counts that end at the greatest number.
use Rattle.std.proofs.Common.{◌≡◌, ◌<◌, ℕ, ◌+◌, min, nat_le, Bool, List, length, get_or, drop, map, ap, sym, ◌∙◌, arith}
use Rattle.std.specs.Prelude.{◌||◌, not}
use Rattle.std.specs.List.{list_any}
use Rattle.rp_lang.specs.declared.limit.LimitName.TheVariants.{Statements}
use Rattle.rp_lang.specs.declared.proc.ProcDecl.{ProcDecl}
use Rattle.rp_lang.specs.declared.stmt.Stmt.{Stmt}
use Rattle.rp_lang.specs.Programs.{Proc}
use Rattle.rp_lang.specs.Sizes.{sts_count}
use Rattle.rp_lang.specs.Views.{proc_view, stmts_view}
use Rattle.desugaring.specs.Limits.{is_past}
use Rattle.text_kinds.proofs.Walks.{rest_is}

capped : (n : ℕ) → nat_le (min n 18446744073709551615) 200 ≡ nat_le n 200
capped n = grind arith

pub long_is : (x : ProcDecl) (body : List Stmt) (count : ℕ) (long : Bool) → body ≡ x.body
    → count ≡ min (sts_count (stmts_view body)) 18446744073709551615 → long ≡ is_past Statements count
    → is_past Statements (sts_count (proc_view x).body) ≡ long
long_is x body count long same counted told =
    sym (told ∙ ap (is_past Statements) counted ∙ ap not (capped (sts_count (stmts_view body)))
    ∙ ap (λ (b : List Stmt). is_past Statements (sts_count (stmts_view b))) same)

-- some of these has
abbrev pub some_long : List ProcDecl → Bool
some_long procs = list_any (λ (q : Proc). is_past Statements (sts_count q.body)) (map proc_view procs)

pub long_next : (procs : List ProcDecl) (i : ℕ) (x : ProcDecl) (long : Bool) → i < length procs → x ≡ get_or procs i x
    → is_past Statements (sts_count (proc_view x).body) ≡ long → some_long (drop i procs) ≡ (long || some_long (drop (i + 1) procs))
long_next procs i x long within is told =
    ap some_long (rest_is procs i x within is) ∙ ap (λ (b : Bool). b || some_long (drop (i + 1) procs)) told
