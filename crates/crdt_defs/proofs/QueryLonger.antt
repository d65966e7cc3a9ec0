-- What a query answers at a set of calls is the same in a longer history.
use Rattle.std.proofs.Common.{◌≡◌, ℕ, ◌+◌, ◌<◌, ◌≤◌, pos, Bool, true, false, ◌&&◌, not, nat_lt, if◌then◌else◌, List, [], ◌∷◌, length, refl, ap, ap₂, ◌∙◌, arith, slice_get}
use Rattle.std.specs.declared.option.Option.{Option}
use Rattle.std.specs.declared.option.Option.TheVariants.{None, Some}
use Rattle.std.proofs.lemmas.Bool.{and_parts}
use Rattle.rp_value.specs.Values as val
use Rattle.rp_value.specs.Values.{Val, no_val, also_val}
use Rattle.rp_lang.specs.Crdts.{Cr}
use Rattle.rp_lang.specs.Programs.{Prog}
use Rattle.rp_lang.specs.declared.op.OpDecl.{OpDecl}
use Rattle.rp_lang.specs.declared.op.OpKind.TheVariants.{Add, Remove, Assign}
use Rattle.rp_lang.specs.declared.op.PathStep.{PathStep}
use Rattle.rp_lang.specs.declared.op.PathStep.TheVariants.{Field, Key}
use Rattle.rp_lang.specs.declared.query.QueryDecl.{QueryDecl}
use Rattle.rp_lang.specs.declared.query.QueryKind.{QueryKind}
use Rattle.crdt_defs.specs.declared.asked.Answer.{Answer}
use Rattle.crdt_defs.specs.declared.asked.Answer.TheVariants.{Truth, Value}
use Rattle.crdt_defs.specs.declared.asked.Found.TheVariants.{Sum, At, Nothing}
use Rattle.crdt_defs.specs.declared.asked.Question.{Question}
use Rattle.crdt_defs.specs.declared.asked.Question.TheVariants.{AddWins, RemoveWins, ManyValues, Latest, Total, AtKey}
use Rattle.crdt_defs.specs.declared.asked.Winner.{Winner}
use Rattle.crdt_defs.specs.declared.asked.Winner.TheVariants.{Update, Delete}
use Rattle.crdt_defs.specs.Calls.{Call}
use Rattle.crdt_defs.specs.Counting.{first_below}
use Rattle.crdt_defs.specs.Doing.{own_argument, is_of, does, on_root, goes_to_field, goes_to_key, deletes, amount}
use Rattle.crdt_defs.specs.Histories.{meets, call_is, before, some_call}
use Rattle.crdt_defs.specs.Meaning.{among, is_before_one, one_stays, in_field, loses, at_key, stamp_of, is_older, latest, counter_sum}
use Rattle.rp_lang.specs.Paths.{field_in, root_crdt}
use Rattle.crdt_defs.specs.Queries.{question, at_call, answer_at, held_in, winner_in, ask, answer_by, answer_in}
use Rattle.crdt_defs.specs.Truths.{or_false, nth_con, answer_val}
use Rattle.crdt_defs.specs.Longer.{IsLonger, Bounded}
use Rattle.crdt_defs.proofs.AskedLemmas.{named_call}
use Rattle.crdt_defs.proofs.BelowLonger.{any-longer, first-longer, sum-longer}

and-false : (a : Bool) → (a && false) ≡ false
and-false true = refl
and-false false = refl

-- outside of a bounded set nothing is in it
pub outside : (h : List Call) (set : ℕ → Bool) → Bounded h set → (c : ℕ) → length h ≤ c → set c ≡ false
outside h set in_h c l = go (set c) refl
  where
    go : (b : Bool) → set c ≡ b → set c ≡ false
    go true is = let k = in_h c is in absurd (omega (arith, l, k))
    go false is = is

-- where a test is made only of members of a bounded set
pub guarded : (h : List Call) (set : ℕ → Bool) → Bounded h set → (f g : ℕ → Bool) (c : ℕ) → (c < length h → f c ≡ g c) → (set c && f c) ≡ (set c && g c)
guarded h set in_h f g c same = go (set c) refl
  where
    go : (b : Bool) → set c ≡ b → (b && f c) ≡ (b && g c)
    go true is = same (in_h c is)
    go false is = refl

module _ (h h' : List Call) (more : IsLonger h h') where
  pub call-same : (test : Call → Bool) (c : ℕ) → c < length h → call_is h' test c ≡ call_is h test c
  call-same test c l = ap (meets test) (more.kept c l)

  among-same : (set : ℕ → Bool) → Bounded h set → (test : Call → Bool) → among h' set test ≡ among h set test
  among-same set in_h test =
      let each : (c : ℕ) → among h' set test c ≡ among h set test c = λ c. guarded h set in_h (call_is h' test) (call_is h test) c (call-same test c) in
      λ i c. each c i

  among-in : (set : ℕ → Bool) → Bounded h set → (test : Call → Bool) → Bounded h (among h set test)
  among-in set in_h test c m = in_h c (and_parts (set c) _ m).0

  pub some-same : (set : ℕ → Bool) → Bounded h set → some_call h' set ≡ some_call h set
  some-same set in_h = any-longer set set (length h) (length h') more.longer (λ c l. refl) (outside h set in_h)

  -- the same for a test that is equal where it counts
  some-like : (set set' : ℕ → Bool) → Bounded h set → set' ≡ set → some_call h' set' ≡ some_call h set
  some-like set set' in_h e = ap (some_call h') e ∙ some-same set in_h

  before-one : (set : ℕ → Bool) → Bounded h set → (c : ℕ) → is_before_one h' set c ≡ is_before_one h set c
  before-one set in_h c =
      let each : (d : ℕ) → (set d && before h' c d) ≡ (set d && before h c d) = λ d. guarded h set in_h (before h' c) (before h c) d (call-same _ d) in
      some-like (λ d. set d && before h c d) (λ d. set d && before h' c d) (λ d m. in_h d (and_parts (set d) _ m).0) (λ i d. each d i)

  stays-same : (these those : ℕ → Bool) → Bounded h these → Bounded h those → one_stays h' these those ≡ one_stays h these those
  stays-same these those in_h in_h' =
      let each : (c : ℕ) → (these c && not (is_before_one h' those c)) ≡ (these c && not (is_before_one h those c)) =
      λ c. ap (λ b. these c && not b) (before-one those in_h' c) in
      some-like (λ c. these c && not (is_before_one h those c)) _ (λ c m. in_h c (and_parts (these c) _ m).0) (λ i c. each c i)

  loses-same : (winner : Winner) (c d : ℕ) → c < length h → d < length h → loses h' winner c d ≡ loses h winner c d
  loses-same Update c d l k = call-same _ d k
  loses-same Delete c d l k = ap not (call-same _ c l)

  key-same : (ops : List OpDecl) (winner : Winner) (depth : ℕ) (k : Val) (counted : ℕ → Bool) → Bounded h counted → at_key ops h' winner depth k counted ≡ at_key ops h winner depth k counted
  key-same ops winner depth k counted in_h =
      let goes : among h' counted (goes_to_key ops depth k) ≡ among h counted (goes_to_key ops depth k) = among-same counted in_h _ in
      let gone : among h' counted (deletes ops depth k) ≡ among h counted (deletes ops depth k) = among-same counted in_h _ in
      let each : (c : ℕ) → at_key ops h' winner depth k counted c ≡ at_key ops h winner depth k counted c = λ c.
      ap (λ (set : ℕ → Bool). set c && not (some_call h' (λ d. among h' counted (deletes ops depth k) d && loses h' winner c d))) goes
      ∙ guarded h (among h counted (goes_to_key ops depth k)) (among-in counted in_h (goes_to_key ops depth k))
      (λ c. not (some_call h' (λ d. among h' counted (deletes ops depth k) d && loses h' winner c d)))
      (λ c. not (some_call h (λ d. among h counted (deletes ops depth k) d && loses h winner c d))) c (λ l. ap not (lost c l gone)) in
      λ i c. each c i
    where
      lost : (c : ℕ) → c < length h → among h' counted (deletes ops depth k) ≡ among h counted (deletes ops depth k)
          → some_call h' (λ d. among h' counted (deletes ops depth k) d && loses h' winner c d) ≡ some_call h (λ d. among h counted (deletes ops depth k) d && loses h winner c d)
      lost c l gone =
          let set = among h counted (deletes ops depth k) in
          let each : (d : ℕ) → (set d && loses h' winner c d) ≡ (set d && loses h winner c d) = λ d. guarded h set (among-in counted in_h (deletes ops depth k)) (loses h' winner c) (loses h winner c) d (loses-same winner c d l) in
          ap (λ (set : ℕ → Bool). some_call h' (λ d. set d && loses h' winner c d)) gone
          ∙ some-like (λ d. set d && loses h winner c d) (λ d. set d && loses h' winner c d) (λ d m. in_h d (and_parts (counted d) (call_is h (deletes ops depth k) d) (and_parts (set d) (loses h winner c d) m).0).0) (λ i d. each d i)

  latest-same : (ops : List OpDecl) (counted : ℕ → Bool) → Bounded h counted → latest ops h' counted ≡ latest ops h counted
  latest-same ops counted in_h =
      let set = among h counted (is_of ops Assign) in
      let in_set : Bounded h set = among-in counted in_h _ in
      let older : (c : ℕ) → c < length h → is_older h' set c ≡ is_older h set c = λ c l.
      let each : (d : ℕ) → (set d && nat_lt (stamp_of (slice_get h' c)) (stamp_of (slice_get h' d))) ≡ (set d && nat_lt (stamp_of (slice_get h c)) (stamp_of (slice_get h d))) =
      λ d. guarded h set in_set (λ d. nat_lt (stamp_of (slice_get h' c)) (stamp_of (slice_get h' d))) (λ d. nat_lt (stamp_of (slice_get h c)) (stamp_of (slice_get h d))) d (λ k. ap₂ (λ a b. nat_lt (stamp_of a) (stamp_of b)) (more.kept c l) (more.kept d k)) in
      some-like (λ d. set d && nat_lt (stamp_of (slice_get h c)) (stamp_of (slice_get h d))) _ (λ d m. in_set d (and_parts (set d) _ m).0) (λ i d. each d i) in
      ap (λ (set : ℕ → Bool). first_below (λ c. set c && not (is_older h' set c)) (length h')) (among-same counted in_h (is_of ops Assign))
      ∙ first-longer _ _ (length h) (length h') more.longer (λ c l. ap (λ b. set c && not b) (older c l))
      (λ c l. ap (λ b. b && not (is_older h' set c)) (outside h set in_set c l))

  sum-counted : (ops : List OpDecl) (counted : ℕ → Bool) → Bounded h counted → counter_sum ops h' counted ≡ counter_sum ops h counted
  sum-counted ops counted in_h =
      sum-longer _ _ (length h) (length h') more.longer (λ c l. ap (λ o. if counted c then amount ops o else pos 0) (more.kept c l))
      (λ c l. ap (λ b. if b then amount ops (slice_get h' c) else pos 0) (outside h counted in_h c l))

  adds-same : (ops : List OpDecl) (counted : ℕ → Bool) → Bounded h counted → (these those : Call → Bool)
      → one_stays h' (among h' counted these) (among h' counted those) ≡ one_stays h (among h counted these) (among h counted those)
  adds-same ops counted in_h these those =
      ap₂ (one_stays h') (among-same counted in_h these) (among-same counted in_h those)
      ∙ stays-same (among h counted these) (among h counted those) (among-in counted in_h these) (among-in counted in_h those)

  answer-same : (ops : List OpDecl) (depth : ℕ) (counted : ℕ → Bool) → Bounded h counted → (q : Question) (args : List Val) → answer_at ops h' depth counted q args ≡ answer_at ops h depth counted q args
  answer-same ops depth counted in_h AddWins (x ∷ []) = ap Truth (adds-same ops counted in_h (does ops Add x) (does ops Remove x))
  answer-same ops depth counted in_h RemoveWins (x ∷ []) =
      ap₂ (λ a b. Truth (a && not b)) (some-like _ _ (among-in counted in_h (does ops Add x)) (among-same counted in_h (does ops Add x)))
      (adds-same ops counted in_h (does ops Remove x) (does ops Add x))
  answer-same ops depth counted in_h ManyValues (x ∷ []) = ap Truth (adds-same ops counted in_h (does ops Assign x) (is_of ops Assign))
  answer-same ops depth counted in_h (AtKey winner) (k ∷ []) =
      ap Truth (some-like _ _ (λ c m. in_h c (and_parts (counted c) _ (and_parts (among h counted (goes_to_key ops depth k) c) _ m).0).0) (key-same ops winner depth k counted in_h))
  answer-same ops depth counted in_h Latest [] = ap (λ o. Value (at_call o)) (latest-same ops counted in_h)
  answer-same ops depth counted in_h Total [] = ap (λ n. Value (Sum n)) (sum-counted ops counted in_h)
  answer-same ops depth counted in_h _ _ = refl

  ask-same : (ops : List OpDecl) (kind : QueryKind) (crdt : Option Cr) (path : List PathStep) (depth : ℕ) (counted : ℕ → Bool) → Bounded h counted → (args : List Val)
      → ask ops h' kind crdt path depth counted args ≡ ask ops h kind crdt path depth counted args
  ask-same ops kind None path depth counted in_h args = refl
  ask-same ops kind (Some crdt) [] depth counted in_h args = answer-same ops depth counted in_h (question crdt kind) args
  ask-same ops kind (Some crdt) (Field n ∷ path) depth counted in_h args =
      ap (λ set. ask ops h' kind (field_in crdt n) path (depth + 1) set args) (among-same counted in_h (goes_to_field ops depth n))
      ∙ ask-same ops kind (field_in crdt n) path (depth + 1) (in_field ops h depth n counted) (among-in counted in_h _) args
  ask-same ops kind (Some crdt) (Key ty ∷ path) depth counted in_h [] = refl
  ask-same ops kind (Some crdt) (Key ty ∷ path) depth counted in_h (k ∷ args) =
      ap (λ set. ask ops h' kind (held_in crdt) path (depth + 1) set args) (key-same ops (winner_in crdt) depth k counted in_h)
      ∙ ask-same ops kind (held_in crdt) path (depth + 1) (at_key ops h (winner_in crdt) depth k counted)
      (λ c m. in_h c (and_parts (counted c) _ (and_parts (among h counted (goes_to_key ops depth k) c) _ m).0).0) args

  pub query-same : (p : Prog) (query : ℕ) (visible : ℕ → Bool) → Bounded h visible → (args : List Val) → answer_in p query h' visible args ≡ answer_in p query h visible args
  query-same p query visible in_h args = go (slice_get p.queries query)
    where
      go : (o : Option QueryDecl) → answer_by p o h' visible args ≡ answer_by p o h visible args
      go None = refl
      go (Some q) =
          ap (λ set. ask p.ops h' q.kind (root_crdt (slice_get p.roots q.root)) q.path 0 set args) (among-same visible in_h (on_root p.ops q.root))
          ∙ ask-same p.ops q.kind (root_crdt (slice_get p.roots q.root)) q.path 0 (among h visible (on_root p.ops q.root)) (among-in visible in_h _) args

  -- the value of an answer whose call is visible
  pub answer-val-same : (p : Prog) (visible : ℕ → Bool) → Bounded h visible → (q : Option QueryDecl) (a : Answer) → ((c : ℕ) → named_call a ≡ Some c → visible c ≡ true)
      → answer_val p h' q a ≡ answer_val p h q a
  answer-val-same p visible in_h q (Truth b) m = refl
  answer-val-same p visible in_h None (Value found) m = refl
  answer-val-same p visible in_h (Some q) (Value (Sum n)) m = refl
  answer-val-same p visible in_h (Some q) (Value Nothing) m = refl
  answer-val-same p visible in_h (Some q) (Value (At c)) m =
      ap (λ o. val.Con (nth_con p q.result 1) (also_val (or_false (own_argument p.ops o)) no_val)) (more.kept c (in_h c (m c refl)))
