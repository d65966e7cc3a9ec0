-- Where no path goes on behind a statement, what it becomes returns on every path, and so gives every slot a value.
use Rattle.std.proofs.Common.{◌≡◌, ◌+◌, ℕ, Bool, true, false, ◌||◌, List, length, None, refl, ap, ◌∙◌, ◌⊎◌, inl, inr}
use Rattle.std.proofs.lemmas.Bool.{and_from, or_left, or_parts, or_right}
use Rattle.rp_span.specs.declared.Span.{Span}
use Rattle.rp_grammar.specs.Trees.{ExprTree, BlockTree, StmtTree, StmtTrees, ElseTree, BlockArmTrees}
use Rattle.rp_lang.specs.Formulas.{Fo, Holds}
use Rattle.rp_lang.specs.Exprs.{Ex, Slot}
use Rattle.rp_lang.specs.Stmts.{St, Put, Decide, ReturnWith, If, Match, Atomic, Sts, no_st, also_st, StArms, also_st_arm}
use Rattle.rp_lang.specs.Flow.{sets, all_set, arms_set, returns, all_return, arms_return}
use Rattle.type_rules.specs.declared.kind.Kind.{Kind}
use Rattle.type_rules.specs.Typing.{type_of}
use Rattle.type_rules.specs.Flow as rules
use Rattle.type_rules.specs.Matches.{pattern_vars}
use Rattle.type_rules.specs.Flow.{Sight, after, after_stmts, after_block, after_else, after_arms}
use Rattle.desugaring.specs.Tables.{Tables, up_from}
use Rattle.desugaring.specs.Values.{as_formula}
use Rattle.desugaring.specs.Callees.{Vars, vars_of}
use Rattle.desugaring.specs.Statements.{Place, inside, one_st, append, block_of_one, assigned, behind, in_pattern}
use Rattle.desugaring.specs.Runs.{Returns, Runs, BlockRuns, AllRun, ElseRuns, ArmsRun}

-- every path through the statements returns
abbrev pub Ends : Sts → Type 0
Ends sts = ((j : ℕ) → all_set j sts ≡ true) × (all_return sts ≡ true)

abbrev pub ArmsEnd : StArms → Type 0
ArmsEnd arms = ((j : ℕ) → arms_set j arms ≡ true) × (arms_return arms ≡ true)

-- no path came to the statements, or all that came return
abbrev pub Dies : Sight → Sts → Type 0
Dies g sts = (g.live ≡ false) ⊎ Ends sts

-- # Statements in a row

or_three : (a b c : Bool) → (a || (b || c)) ≡ (a || b || c)
or_three true b c = refl
or_three false b c = refl

pub set_append : (j : ℕ) (first rest : Sts) → all_set j (append first rest) ≡ (all_set j first || all_set j rest)
set_append j no_st rest = refl
set_append j (also_st st sts) rest =
    ap (λ b. sets j st || b) (set_append j sts rest) ∙ or_three (sets j st) (all_set j sts) (all_set j rest)

return_append : (first rest : Sts) → all_return (append first rest) ≡ (all_return first || all_return rest)
return_append no_st rest = refl
return_append (also_st st sts) rest =
    ap (λ b. returns st || b) (return_append sts rest) ∙ or_three (returns st) (all_return sts) (all_return rest)

first_ends : (first rest : Sts) → Ends first → Ends (append first rest)
first_ends first rest ends = (
  (λ j. set_append j first rest ∙ or_left (all_set j first) (all_set j rest) (ends.0 j)),
  return_append first rest ∙ or_left (all_return first) (all_return rest) ends.1,
)

rest_ends : (first rest : Sts) → Ends rest → Ends (append first rest)
rest_ends first rest ends = (
  (λ j. set_append j first rest ∙ or_right (all_set j first) (all_set j rest) (ends.0 j)),
  return_append first rest ∙ or_right (all_return first) (all_return rest) ends.1,
)

ends_later : (st : St) (rest : Sts) → Ends rest → Ends (also_st st rest)
ends_later st rest ends =
    ((λ j. or_right (sets j st) (all_set j rest) (ends.0 j)), or_right (returns st) (all_return rest) ends.1)

dies_later : (g : Sight) (st : St) (rest : Sts) → Dies g rest → Dies g (also_st st rest)
dies_later g st rest (inl none) = inl none
dies_later g st rest (inr ends) = inr (ends_later st rest ends)

-- # Branches

both_die : (g : Sight) (at : Span) (f : Fo) (first second : Sts) → Dies g first → Dies g second → Dies g (one_st (If at f first second))
both_die g at f first second (inl none) other = inl none
both_die g at f first second (inr ends) (inl none) = inl none
both_die g at f first second (inr ends) (inr also) = inr (
  (λ j. or_left (sets j (If at f first second)) false (and_from (all_set j first) (all_set j second) (ends.0 j) (also.0 j))),
  or_left (returns (If at f first second)) false (and_from (all_return first) (all_return second) ends.1 also.1),
)

arms_die : (g : Sight) (con : ℕ) (slots : List ℕ) (body : Sts) (rest : StArms) → Dies g body → (g.live ≡ false) ⊎ ArmsEnd rest
    → (g.live ≡ false) ⊎ ArmsEnd (also_st_arm con slots body rest)
arms_die g con slots body rest (inl none) others = inl none
arms_die g con slots body rest (inr ends) (inl none) = inl none
arms_die g con slots body rest (inr ends) (inr others) = inr (
  (λ j. and_from (all_set j body) (arms_set j rest) (ends.0 j) (others.0 j)),
  and_from (all_return body) (arms_return rest) ends.1 others.1,
)

match_dies : (g : Sight) (at : Span) (x : Ex) (made : StArms) → (g.live ≡ false) ⊎ ArmsEnd made → Dies g (one_st (Match at x made))
match_dies g at x made (inl none) = inl none
match_dies g at x made (inr ends) =
    inr ((λ j. or_left (arms_set j made) false (ends.0 j)), or_left (arms_return made) false ends.1)

atomic_dies : (g : Sight) (at : Span) (body : Sts) → Dies g body → Dies g (one_st (Atomic at body))
atomic_dies g at body (inl none) = inl none
atomic_dies g at body (inr ends) =
    inr ((λ j. or_left (all_set j body) false (ends.0 j)), or_left (all_return body) false ends.1)

-- a value that is returned
return_ends : (at : Span) (x : Ex) → Ends (one_st (ReturnWith at x))
return_ends at x = ((λ j. refl), refl)

pub value_returns : (t : Tables) (b : ℕ) (vs : Vars) (next : ℕ) (at : Span) (k : Kind) (e : ExprTree) (sts : Sts) (ks : List Kind)
    → Returns t b vs next at k e sts ks → Ends sts
value_returns t b vs next at k e sts ks (Returns.of_term {x = x} m none) = return_ends at x
value_returns t b vs next at k e sts ks (Returns.of_reading_term {x = x} m some_) =
    ends_later (block_of_one at (Put at next x)) (one_st (ReturnWith at (Slot next))) (return_ends at (Slot next))
value_returns t b vs next at k e sts ks (Returns.of_formula {f = f} m none) =
    ends_later (Decide at next f) (one_st (ReturnWith at (Slot next))) (return_ends at (Slot next))
value_returns t b vs next at k e sts ks (Returns.of_reading_formula {f = f} m some_) =
    ends_later (block_of_one at (Decide at next f)) (one_st (ReturnWith at (Slot next))) (return_ends at (Slot next))

-- # The induction

-- two statements in a row
row_dies : (g h : Sight) (first rest : Sts) → (h.live ≡ false → Dies g first) → Dies h rest → Dies g (append first rest)
row_dies g h first rest before (inr ends) = inr (rest_ends first rest ends)
row_dies g h first rest before (inl none) = by_first g first rest (before none) where
  by_first : (g : Sight) (first rest : Sts) → Dies g first → Dies g (append first rest)
  by_first g first rest (inl none) = inl none
  by_first g first rest (inr ends) = inr (first_ends first rest ends)

mutual
  pub stmt_dies : (t : Tables) (b : ℕ) (p : Place) (vs : Vars) (next : ℕ) (s : StmtTree) (sts : Sts) (ks : List Kind) → Runs t b p vs next s sts ks
      → (g : Sight) → (after t.names g s).live ≡ false → Dies g sts
  stmt_dies t b p vs next s sts ks Runs.declares g e = inl e
  stmt_dies t b p vs next s sts ks (Runs.declares_with a) g e = inl e
  stmt_dies t b p vs next s sts ks (Runs.news a h) g e = inl e
  stmt_dies t b p vs next s sts ks (Runs.assigns a) g e = inl e
  stmt_dies t b p vs next s sts ks (Runs.operates m h) g e = inl e
  stmt_dies t b p vs next s sts ks (Runs.operates_apart m h) g e = inl e
  stmt_dies t b p vs next s sts ks (Runs.branches {at = at} {then_ = then_} {other = other} {v = v} {first = first} {second = second} {ks = is} {js = js} m h run else_) g e =
      let parts = or_parts (after_block t.names g then_).live (after_else t.names g other).live e in
      both_die g at (as_formula v) first second (block_dies t b p vs next then_ first is run g parts.0) (else_dies t b p vs (next + length is) other second js else_ g parts.1)
  stmt_dies t b p vs next s sts ks (Runs.branches_apart {at = at} {then_ = then_} {other = other} {v = v} {first = first} {second = second} {ks = is} {js = js} m h run else_) g e =
      let parts = or_parts (after_block t.names g then_).live (after_else t.names g other).live e in
      dies_later g (block_of_one at (assigned at next v)) (one_st (If at (Holds (Slot next)) first second))
      (both_die g at (Holds (Slot next)) first second (block_dies t b p vs (next + 1) then_ first is run g parts.0) (else_dies t b p vs (next + 1 + length is) other second js else_ g parts.1))
  stmt_dies t b p vs next s sts ks (Runs.matches {at = at} {e = on} {arms = arms} {x = x} {made = made} m h run) g e =
      match_dies g at x made (all_arms_die t b p vs next (type_of t.names (vars_of vs) None on) arms made ks run g (type_of t.names g.vars None on) e)
  stmt_dies t b p vs next s sts ks (Runs.matches_apart {at = at} {e = on} {arms = arms} {x = x} {made = made} {ks = is} m h run) g e =
      dies_later g (block_of_one at (Put at next x)) (one_st (Match at (Slot next) made))
      (match_dies g at (Slot next) made (all_arms_die t b p vs (next + 1) (type_of t.names (vars_of vs) None on) arms made is run g (type_of t.names g.vars None on) e))
  stmt_dies t b p vs next s sts ks (Runs.is_atomic {at = at} {body = body} {sts = inner} run) g e =
      atomic_dies g at inner (block_dies t b (inside p) vs next body inner ks run g e)
  stmt_dies t b p vs next s sts ks (Runs.asserts m h) g e = inl e
  stmt_dies t b p vs next s sts ks (Runs.asserts_apart m h) g e = inl e
  stmt_dies t b p vs next s sts ks Runs.returns g e = inr ((λ j. refl), refl)
  stmt_dies t b p vs next s sts ks (Runs.returns_with h r) g e = inr (value_returns t b vs next _ _ _ sts ks r)

  pub block_dies : (t : Tables) (b : ℕ) (p : Place) (vs : Vars) (next : ℕ) (body : BlockTree) (sts : Sts) (ks : List Kind) → BlockRuns t b p vs next body sts ks
      → (g : Sight) → (after_block t.names g body).live ≡ false → Dies g sts
  block_dies t b p vs next body sts ks (BlockRuns.block {stmts = stmts} run) g e = stmts_die t b p vs next stmts sts ks run g e

  stmts_die : (t : Tables) (b : ℕ) (p : Place) (vs : Vars) (next : ℕ) (stmts : StmtTrees) (sts : Sts) (ks : List Kind) → AllRun t b p vs next stmts sts ks
      → (g : Sight) → (after_stmts t.names g stmts).live ≡ false → Dies g sts
  stmts_die t b p vs next stmts sts ks AllRun.no_stmt g e = inl e
  stmts_die t b p vs next stmts sts ks (AllRun.more_stmts {s = s} {stmts = others} {first = first} {rest = rest} {ks = is} {js = js} run runs) g e =
      row_dies g (after t.names g s) first rest (λ none. stmt_dies t b p vs next s first is run g none)
      (stmts_die t b p (behind t.names vs next s) (next + length is) others rest js runs (after t.names g s) e)

  else_dies : (t : Tables) (b : ℕ) (p : Place) (vs : Vars) (next : ℕ) (other : ElseTree) (sts : Sts) (ks : List Kind) → ElseRuns t b p vs next other sts ks
      → (g : Sight) → (after_else t.names g other).live ≡ false → Dies g sts
  else_dies t b p vs next other sts ks ElseRuns.no_else g e = inl e
  else_dies t b p vs next other sts ks (ElseRuns.else_block {body = body} run) g e = block_dies t b p vs next body sts ks run g e
  else_dies t b p vs next other sts ks (ElseRuns.else_if {s = s} run) g e = stmt_dies t b p vs next s sts ks run g e

  -- whatever type the arms are taken for
  all_arms_die : (t : Tables) (b : ℕ) (p : Place) (vs : Vars) (next : ℕ) (k : Kind) (arms : BlockArmTrees) (made : StArms) (ks : List Kind)
      → ArmsRun t b p vs next k arms made ks → (g : Sight) (seen : Kind) → (after_arms t.names g seen arms).live ≡ false → (g.live ≡ false) ⊎ ArmsEnd made
  all_arms_die t b p vs next k arms made ks ArmsRun.no_arm g seen e = inr ((λ j. refl), refl)
  all_arms_die t b p vs next k arms made ks (ArmsRun.more_arms {pattern = q} {body = body} {arms = others} {con = con} {sts = sts} {rest = rest} {ks = is} {js = js} found run runs) g seen e =
      let many = length (pattern_vars q) in
      let parts = or_parts (after_block t.names (rules.in_pattern t.names g seen q) body).live (after_arms t.names g seen others).live e in
      arms_die g con (up_from next many) sts rest (block_dies t b p (in_pattern t.names vs next k q) (next + many) body sts is run (rules.in_pattern t.names g seen q) parts.0)
      (all_arms_die t b p vs (next + many + length is) k others rest js runs g seen parts.1)
