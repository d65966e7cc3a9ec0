-- The function of each query stands at its number, at each set of calls that formulas take for a snapshot.
use Rattle.std.proofs.Common.{◌≡◌, ℕ, zero, suc, ◌+◌, ◌*◌, ◌<◌, Bool, true, false, if◌then◌else◌, List, [], ◌∷◌, ◌++◌, length, filter, take, slice_get, Some, refl, sym, ap, ap₂, ◌∙◌, length-append, arith}
use Rattle.std.proofs.Math.Nat.{add-mul}
use Rattle.std.proofs.lemmas.List.Sums.{length-filter}
use Rattle.std.proofs.lemmas.Option.{none-some, same_Some}
use Rattle.rp_lang.specs.declared.query.QueryDecl.{QueryDecl}
use Rattle.rp_lang.specs.Typing.{is_get}
use Rattle.rp_lang.specs.Programs.{Prog}
use Rattle.crdt_defs.specs.Calls.{Call}
use Rattle.event_machine.specs.WellFormed.{At}
use Rattle.rp_logic.specs.Structures.{Fun}
use Rattle.rp_symbols.specs.Numbers.{ids, gets, view_place, val_fn, old_rel, snapshot_rel, part_rel, seen_rel, read_rel, added_rel}
use Rattle.rp_symbols.proofs.LookUps.{get-front}
use Rattle.rp_symbols.proofs.StandToo.{no-block, one-block, view-place}
use Rattle.hist_struct.specs.QueryValues.{val_table, val_tables}
use Rattle.hist_struct.specs.Steps.{Step, begins, is_done, is_part, is_seen, is_read}
use Rattle.hist_struct.specs.Structure.{vals_at, view_vals, added_vals, vals_of, fns_of}
use Rattle.hist_struct.proofs.TableFacts.{get-behind}

-- # Numbers

-- how many of these queries give a value
abbrev many : List QueryDecl → ℕ
many queries = length (filter (λ (query : QueryDecl). is_get query.kind) queries)

many-gets : (queries : List QueryDecl) → many queries ≡ gets queries
many-gets queries = length-filter (λ (query : QueryDecl). is_get query.kind) queries

past-fixed : (a b m : ℕ) → a + b ≡ m → 7 + a + b ≡ suc (suc (suc (suc (suc (suc (suc m))))))
past-fixed a b m e = omega (arith, e)

doubled : (j : ℕ) → suc j + suc j ≡ suc (suc (j + j))
doubled j = omega arith

-- # Of one set of calls

vals-count : (p : Prog) (h : List Call) (visible : ℕ → Bool) (n : ℕ) (queries : List QueryDecl) → length (val_tables p h visible n queries) ≡ many queries
vals-count p h visible n [] = refl
vals-count p h visible n (query ∷ queries) = go (is_get query.kind) (vals-count p h visible (suc n) queries)
  where
    go : (b : Bool) → length (val_tables p h visible (suc n) queries) ≡ many queries
        → length (if b then val_table p h visible n query ∷ val_tables p h visible (suc n) queries else val_tables p h visible (suc n) queries)
        ≡ length (if b then query ∷ filter (λ (query : QueryDecl). is_get query.kind) queries else filter (λ (query : QueryDecl). is_get query.kind) queries)
    go true r = ap suc r
    go false r = r

vals-found : (p : Prog) (h : List Call) (visible : ℕ → Bool) (n : ℕ) (queries : List QueryDecl) (j : ℕ) (query : QueryDecl) (rest : List Fun) → At queries j query → is_get query.kind ≡ true
    → slice_get (val_tables p h visible n queries ++ rest) (many (take j queries)) ≡ Some (val_table p h visible (n + j) query)
vals-found p h visible n [] j query rest a g = absurd (none-some query a)
vals-found p h visible n (first ∷ queries) zero query rest a g =
    let same = same_Some first query a in
    let here : is_get first.kind ≡ true = ap (λ (q : QueryDecl). is_get q.kind) same ∙ g in
    let e : n ≡ n + 0 = omega arith in
    ap (λ b. slice_get ((if b then val_table p h visible n first ∷ val_tables p h visible (suc n) queries else val_tables p h visible (suc n) queries) ++ rest) 0) here
    ∙ ap₂ (λ q m. Some (val_table p h visible m q)) same e
vals-found p h visible n (first ∷ queries) (suc j) query rest a g =
    go (is_get first.kind) (vals-found p h visible (suc n) queries j query rest a g ∙ ap (λ m. Some (val_table p h visible m query)) (let e : suc n + j ≡ n + suc j = omega arith in e))
  where
    go : (b : Bool) → slice_get (val_tables p h visible (suc n) queries ++ rest) (many (take j queries)) ≡ Some (val_table p h visible (n + suc j) query)
        → slice_get ((if b then val_table p h visible n first ∷ val_tables p h visible (suc n) queries else val_tables p h visible (suc n) queries) ++ rest)
        (length (if b then first ∷ filter (λ (query : QueryDecl). is_get query.kind) (take j queries) else filter (λ (query : QueryDecl). is_get query.kind) (take j queries)))
        ≡ Some (val_table p h visible (n + suc j) query)
    go true r = r
    go false r = r

-- # Of all

module _ (x : Step) (n : ℕ) (query : QueryDecl) (at : At x.program.queries n query) (get : is_get query.kind ≡ true) where
  here : (h : List Call) (visible : ℕ → Bool) (rest : List Fun) → slice_get (vals_at x h visible ++ rest) (gets (take n x.program.queries)) ≡ Some (val_table x.program h visible n query)
  here h visible rest =
      ap (slice_get (vals_at x h visible ++ rest)) (sym (many-gets (take n x.program.queries)))
      ∙ (vals-found x.program h visible 0 x.program.queries n query rest at get ∙ ap (λ m. Some (val_table x.program h visible m query)) (let e : 0 + n ≡ n = omega arith in e))

  -- past the functions of one set
  past : (h : List Call) (visible : ℕ → Bool) (rest : List Fun) (m : ℕ) → slice_get (vals_at x h visible ++ rest) (gets x.program.queries + m) ≡ slice_get rest m
  past h visible rest m =
      let c = vals-count x.program h visible 0 x.program.queries ∙ many-gets x.program.queries in
      get-behind (vals_at x h visible) rest (gets x.program.queries + m) m (ap (λ k. k + m) (sym c))

  past-block : (h : List Call) (visible : ℕ → Bool) (rest : List Fun) (m : ℕ) → slice_get (vals_at x h visible ++ rest) (suc m * gets x.program.queries + gets (take n x.program.queries)) ≡ slice_get rest (m * gets x.program.queries + gets (take n x.program.queries))
  past-block h visible rest m =
      ap (slice_get (vals_at x h visible ++ rest)) (one-block m (gets x.program.queries) (gets (take n x.program.queries))) ∙ past h visible rest (m * gets x.program.queries + gets (take n x.program.queries))

  first-block : (h : List Call) (visible : ℕ → Bool) (rest : List Fun) → slice_get (vals_at x h visible ++ rest) (0 * gets x.program.queries + gets (take n x.program.queries)) ≡ Some (val_table x.program h visible n query)
  first-block h visible rest = ap (slice_get (vals_at x h visible ++ rest)) (no-block (gets x.program.queries) (gets (take n x.program.queries))) ∙ here h visible rest

  at-place : (view place : ℕ) → view_place x.program view ≡ place → slice_get (fns_of x) (val_fn x.program view n) ≡ slice_get (vals_of x) (place * gets x.program.queries + gets (take n x.program.queries))
  at-place view place e =
      ap (λ k. slice_get (fns_of x) (7 + k * gets x.program.queries + gets (take n x.program.queries))) e
      ∙ ap (slice_get (fns_of x)) (past-fixed (place * gets x.program.queries) (gets (take n x.program.queries)) (place * gets x.program.queries + gets (take n x.program.queries)) refl)

  pub old-found : slice_get (fns_of x) (val_fn x.program old_rel n) ≡ Some (val_table x.program x.old.calls (is_done x.old) n query)
  old-found = at-place old_rel 0 refl ∙ first-block x.old.calls (is_done x.old) _

  pub snapshot-found : slice_get (fns_of x) (val_fn x.program snapshot_rel n) ≡ Some (val_table x.program x.new.calls x.snapshot n query)
  snapshot-found = at-place snapshot_rel 1 refl ∙ (past-block x.old.calls (is_done x.old) _ 0 ∙ first-block x.new.calls x.snapshot _)

  pub part-found : slice_get (fns_of x) (val_fn x.program part_rel n) ≡ Some (val_table x.program x.old.calls (is_part x) n query)
  part-found = at-place part_rel 2 refl ∙ (past-block x.old.calls (is_done x.old) _ 1 ∙ (past-block x.new.calls x.snapshot _ 0 ∙ first-block x.old.calls (is_part x) _))

  -- # At views and reading sets

  behind-three : (view j : ℕ) → view_place x.program view ≡ suc (suc (suc j)) → slice_get (fns_of x) (val_fn x.program view n) ≡ slice_get (view_vals x 0 (begins x) ++ added_vals x x.reads) (j * gets x.program.queries + gets (take n x.program.queries))
  behind-three view j e =
      at-place view (suc (suc (suc j))) e
      ∙ (past-block x.old.calls (is_done x.old) _ (suc (suc j)) ∙ (past-block x.new.calls x.snapshot _ (suc j) ∙ past-block x.old.calls (is_part x) _ j))

  two-at : (k m j : ℕ) → j < m
      → (slice_get (view_vals x k m) ((j + j) * gets x.program.queries + gets (take n x.program.queries)) ≡ Some (val_table x.program x.old.calls (is_seen x.old x.inv (k + j)) n query))
      × (slice_get (view_vals x k m) (suc (j + j) * gets x.program.queries + gets (take n x.program.queries)) ≡ Some (val_table x.program x.old.calls (is_read x.old x.inv (k + j)) n query))
  two-at k zero j l = absurd (omega (arith, l))
  two-at k (suc m) zero l =
      let e : k ≡ k + 0 = omega arith in
      let z : 0 + 0 ≡ 0 = omega arith in (
        ap (λ z. slice_get (view_vals x k (suc m)) (z * gets x.program.queries + gets (take n x.program.queries))) z
            ∙ (first-block x.old.calls (is_seen x.old x.inv k) _ ∙ ap (λ m. Some (val_table x.program x.old.calls (is_seen x.old x.inv m) n query)) e),
        ap (λ z. slice_get (view_vals x k (suc m)) (suc z * gets x.program.queries + gets (take n x.program.queries))) z
            ∙ (past-block x.old.calls (is_seen x.old x.inv k) _ 0 ∙ (first-block x.old.calls (is_read x.old x.inv k) _ ∙ ap (λ m. Some (val_table x.program x.old.calls (is_read x.old x.inv m) n query)) e)),
      )
  two-at k (suc m) (suc j) l =
      let r = two-at (suc k) m j (omega (arith, l)) in
      let e : suc k + j ≡ k + suc j = omega arith in (
        ap (λ z. slice_get (view_vals x k (suc m)) (z * gets x.program.queries + gets (take n x.program.queries))) (doubled j)
            ∙ (past-block x.old.calls (is_seen x.old x.inv k) _ (suc (j + j)) ∙ (past-block x.old.calls (is_read x.old x.inv k) _ (j + j)
            ∙ (r.0 ∙ ap (λ m. Some (val_table x.program x.old.calls (is_seen x.old x.inv m) n query)) e))),
        ap (λ z. slice_get (view_vals x k (suc m)) (suc z * gets x.program.queries + gets (take n x.program.queries))) (doubled j)
            ∙ (past-block x.old.calls (is_seen x.old x.inv k) _ (suc (suc (j + j))) ∙ (past-block x.old.calls (is_read x.old x.inv k) _ (suc (j + j))
            ∙ (r.1 ∙ ap (λ m. Some (val_table x.program x.old.calls (is_read x.old x.inv m) n query)) e))),
      )

  pub seen-found : (k : ℕ) → k < begins x → slice_get (fns_of x) (val_fn x.program (seen_rel x.program k) n) ≡ Some (val_table x.program x.old.calls (is_seen x.old x.inv k) n query)
  seen-found k l =
      behind-three (seen_rel x.program k) (k + k) (view-place x.program (3 * ids x.program.types.atoms + (k + k)) (k + k) refl)
      ∙ (get-front (view_vals x 0 (begins x)) (added_vals x x.reads) _ _ (two-at 0 (begins x) k l).0 ∙ ap (λ m. Some (val_table x.program x.old.calls (is_seen x.old x.inv m) n query)) (let e : 0 + k ≡ k = omega arith in e))

  pub read-found : (k : ℕ) → k < begins x → slice_get (fns_of x) (val_fn x.program (read_rel x.program k) n) ≡ Some (val_table x.program x.old.calls (is_read x.old x.inv k) n query)
  read-found k l =
      behind-three (read_rel x.program k) (suc (k + k)) (view-place x.program (3 * ids x.program.types.atoms + suc (k + k)) (suc (k + k)) refl)
      ∙ (get-front (view_vals x 0 (begins x)) (added_vals x x.reads) _ _ (two-at 0 (begins x) k l).1 ∙ ap (λ m. Some (val_table x.program x.old.calls (is_read x.old x.inv m) n query)) (let e : 0 + k ≡ k = omega arith in e))

  -- # At the reading sets that a path adds

  views-long : (k m : ℕ) → length (view_vals x k m) ≡ (m + m) * gets x.program.queries
  views-long k zero = let z : 0 * gets x.program.queries ≡ 0 = omega arith in sym z
  views-long k (suc m) =
      let one = vals-count x.program x.old.calls (is_seen x.old x.inv k) 0 x.program.queries ∙ many-gets x.program.queries in
      let two = vals-count x.program x.old.calls (is_read x.old x.inv k) 0 x.program.queries ∙ many-gets x.program.queries in
      let rest = views-long (suc k) m in
      let inner = length-append (vals_at x x.old.calls (is_read x.old x.inv k)) (view_vals x (suc k) m) in
      let outer = length-append (vals_at x x.old.calls (is_seen x.old x.inv k)) (vals_at x x.old.calls (is_read x.old x.inv k) ++ view_vals x (suc k) m) in
      let a = one-block (m + m) (gets x.program.queries) 0 in
      let b = one-block (suc (m + m)) (gets x.program.queries) 0 in
      outer ∙ (ap₂ (λ a b. a + b) one (inner ∙ ap₂ (λ a b. a + b) two rest) ∙ ((let sum : gets x.program.queries + (gets x.program.queries + (m + m) * gets x.program.queries) ≡ suc (suc (m + m)) * gets x.program.queries = omega (arith, a, b) in sum)
      ∙ ap (λ z. z * gets x.program.queries) (sym (doubled m))))

  added-in : (reads : List (ℕ → Bool)) (j : ℕ) (set : ℕ → Bool) → At reads j set
      → slice_get (added_vals x reads) (j * gets x.program.queries + gets (take n x.program.queries)) ≡ Some (val_table x.program x.old.calls set n query)
  added-in [] j set e = absurd (none-some set e)
  added-in (f ∷ fs) zero set e = first-block x.old.calls f _ ∙ ap (λ s. Some (val_table x.program x.old.calls s n query)) (same_Some f set e)
  added-in (f ∷ fs) (suc j) set e = past-block x.old.calls f _ j ∙ added-in fs j set e

  pub added-found : (j : ℕ) (set : ℕ → Bool) → At x.reads j set
      → slice_get (fns_of x) (val_fn x.program (added_rel x.program (begins x) j) n) ≡ Some (val_table x.program x.old.calls set n query)
  added-found j set e =
      let g = gets x.program.queries in
      let t = gets (take n x.program.queries) in
      behind-three (added_rel x.program (begins x) j) (begins x + begins x + j) (view-place x.program (3 * ids x.program.types.atoms + (begins x + begins x + j)) (begins x + begins x + j) refl)
      ∙ (get-behind (view_vals x 0 (begins x)) (added_vals x x.reads) ((begins x + begins x + j) * g + t) (j * g + t)
      (ap (λ m. m + t) (add-mul (begins x + begins x) j g) ∙ (let c = views-long 0 (begins x) in omega (arith, c)))
      ∙ added-in x.reads j set e)
