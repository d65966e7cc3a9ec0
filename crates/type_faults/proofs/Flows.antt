-- Variables and their values, where ways part and meet.
use Rattle.std.proofs.Common.{◌≡◌, ℕ, Bool, true, false, not, ◌&&◌, ◌||◌, None, List, [], ◌∷◌, ◌++◌, length, map, take, refl, sym, ap, ap₂, ◌∙◌, append-nil, append_assoc, true≢false}
use Rattle.std.specs.Prelude.{if◌then◌else◌}
use Rattle.std.proofs.lemmas.List.{length-map, map-append, take-map}
use Rattle.rp_grammar.specs.Trees.{BlockTree, StmtTree, StmtForm, StmtTrees, ElseTree, BlockArmTree, BlockArmTrees}
use Rattle.type_rules.specs.declared.kind.Kind.{Kind}
use Rattle.type_rules.specs.Names.{Name, Names, same_name, text_of}
use Rattle.type_rules.specs.Accesses.{Var}
use Rattle.type_rules.specs.Typing.{type_of}
use Rattle.type_rules.specs.Matches.{pattern_kinds, pattern_name, pattern_vars}
use Rattle.type_rules.specs.Flow.{Sight, after, after_arm, after_arms, after_block, after_else, after_form, after_stmts, both as both_vars, dead, declared_var, give, has_value, in_pattern, join, with_value}
use Rattle.type_tables.specs.Variables.{set_flags, with_flags, and_flags}
use Rattle.type_faults.specs.declared.blocks.Flow as code_flow
use Rattle.type_faults.specs.Flows.{IsFlowOf, bare, bare_var}
use Rattle.type_faults.proofs.Lists.{bound_behind, take_front}

-- # Truths

and_comm : (a b : Bool) → (a && b) ≡ (b && a)
and_comm true true = refl
and_comm true false = refl
and_comm false true = refl
and_comm false false = refl

and_assoc : (a b c : Bool) → ((a && b) && c) ≡ (a && (b && c))
and_assoc true b c = refl
and_assoc false b c = refl

and_true : (a : Bool) → (a && true) ≡ a
and_true true = refl
and_true false = refl

pub or_comm : (a b : Bool) → (a || b) ≡ (b || a)
or_comm true true = refl
or_comm true false = refl
or_comm false true = refl
or_comm false false = refl

or_assoc : (a b c : Bool) → ((a || b) || c) ≡ (a || (b || c))
or_assoc true b c = refl
or_assoc false b c = refl

or_false : (a : Bool) → (a || false) ≡ a
or_false true = refl
or_false false = refl

-- # Variables that differ in their values alone

abbrev head_or : Var → List Var → Var
head_or d [] = d
head_or d (v ∷ vs) = v

abbrev tail_of : List Var → List Var
tail_of [] = []
tail_of (v ∷ vs) = vs

abbrev is_end : List Var → Bool
is_end [] = true
is_end (v ∷ vs) = false

-- of variables that are alike the second ones' values make the second ones of the first
pub flags_back : (vs ws : List Var) → bare vs ≡ bare ws → with_flags vs (set_flags ws) ≡ ws
flags_back [] [] e = refl
flags_back [] (w ∷ ws) e = absurd (true≢false (ap is_end e))
flags_back (v ∷ vs) [] e = absurd (true≢false (sym (ap is_end e)))
flags_back (v ∷ vs) (w ∷ ws) e =
    ap₂ (λ (x : Var) l. x ∷ l) (ap (λ (x : Var). record x { set = w.set }) (ap (head_or v) e)) (flags_back vs ws (ap tail_of e))

pub joined_is : (xs ys : List Var) → bare xs ≡ bare ys → and_flags ys (set_flags xs) ≡ both_vars xs ys
joined_is [] [] e = refl
joined_is [] (y ∷ ys) e = absurd (true≢false (ap is_end e))
joined_is (x ∷ xs) [] e = absurd (true≢false (sym (ap is_end e)))
joined_is (x ∷ xs) (y ∷ ys) e =
    ap₂ (λ (z : Var) l. z ∷ l)
    (ap (λ b. record y { set = b }) (and_comm y.set x.set) ∙ sym (ap (λ (z : Var). record z { set = x.set && y.set }) (ap (head_or x) e)))
    (joined_is xs ys (ap tail_of e))

pub both_bare : (xs ys more : List Var) → bare ys ≡ bare xs ++ more → bare (both_vars xs ys) ≡ bare xs
both_bare [] ys more e = refl
both_bare (x ∷ xs) [] more e = absurd (true≢false (ap is_end e))
both_bare (x ∷ xs) (y ∷ ys) more e = ap (λ l. bare_var x ∷ l) (both_bare xs ys more (ap tail_of e))

both_assoc : (xs ys zs : List Var) → both_vars (both_vars xs ys) zs ≡ both_vars xs (both_vars ys zs)
both_assoc [] ys zs = refl
both_assoc (x ∷ xs) [] zs = refl
both_assoc (x ∷ xs) (y ∷ ys) [] = refl
both_assoc (x ∷ xs) (y ∷ ys) (z ∷ zs) =
    ap₂ (λ b l. record x { set = b } ∷ l) (and_assoc x.set y.set z.set) (both_assoc xs ys zs)

-- what stands past the first ones' end is lost
pub both_take : (k : ℕ) (xs ys : List Var) → k ≡ length xs → both_vars xs (take k ys) ≡ both_vars xs ys
both_take k xs ys e = ap (λ k. both_vars xs (take k ys)) e ∙ by xs ys
  where
    by : (xs ys : List Var) → both_vars xs (take (length xs) ys) ≡ both_vars xs ys
    by [] ys = refl
    by (x ∷ xs) [] = refl
    by (x ∷ xs) (y ∷ ys) = ap (λ l. record x { set = x.set && y.set } ∷ l) (by xs ys)

dead_left : (vs ws : List Var) → bare vs ≡ bare ws → both_vars (map with_value vs) ws ≡ ws
dead_left [] [] e = refl
dead_left [] (w ∷ ws) e = absurd (true≢false (ap is_end e))
dead_left (v ∷ vs) [] e = absurd (true≢false (sym (ap is_end e)))
dead_left (v ∷ vs) (w ∷ ws) e =
    ap₂ (λ (x : Var) l. x ∷ l) (ap (λ (x : Var). record x { set = w.set }) (ap (head_or v) e)) (dead_left vs ws (ap tail_of e))

dead_right : (xs vs : List Var) → bare xs ≡ bare vs → both_vars xs (map with_value vs) ≡ xs
dead_right [] vs e = refl
dead_right (x ∷ xs) [] e = absurd (true≢false (sym (ap is_end e)))
dead_right (x ∷ xs) (v ∷ vs) e =
    ap₂ (λ b l. record x { set = b } ∷ l) (and_true x.set) (dead_right xs vs (ap tail_of e))

pub dead_bare : (vs : List Var) → bare (map with_value vs) ≡ bare vs
dead_bare [] = refl
dead_bare (v ∷ vs) = ap (λ l. bare_var v ∷ l) (dead_bare vs)

give_bare : (x : Name) (vs : List Var) → bare (give x vs) ≡ bare vs
give_bare x [] = refl
give_bare x (v ∷ vs) = by (same_name v.name x) (give_bare x vs)
  where
    by : (b : Bool) → bare (give x vs) ≡ bare vs
        → bare (if b then with_value v ∷ vs else v ∷ give x vs) ≡ bare_var v ∷ bare vs
    by true later = refl
    by false later = ap (λ l. bare_var v ∷ l) later

-- # What is in sight behind a statement

-- the second ones begin with the first ones, whatever their values
pub record Begins (vs ws : List Var) : Type 0 where
  pub more : List Var
  pub bare_is : bare ws ≡ bare vs ++ more

alike : (vs ws : List Var) → bare ws ≡ bare vs → Begins vs ws
alike vs ws e = record { more = []; bare_is = e ∙ sym (append-nil (bare vs)) }

further : (us vs ws : List Var) → Begins us vs → Begins vs ws → Begins us ws
further us vs ws a b = record {
  more = a.more ++ b.more;
  bare_is = b.bare_is ∙ ap (λ l. l ++ b.more) a.bare_is ∙ append_assoc (bare us) a.more b.more;
}

pub left_bare : (k : ℕ) (vs ws : List Var) → k ≡ length vs → Begins vs ws → bare (take k ws) ≡ bare vs
left_bare k vs ws e b =
    sym (take-map bare_var k ws) ∙ ap (take k) b.bare_is ∙ ap (λ k. take k (bare vs ++ b.more)) (e ∙ sym (length-map vs bare_var))
    ∙ take_front (bare vs) b.more

mutual
  stmt_begins : (n : Names) (g : Sight) (s : StmtTree) → Begins g.vars (after n g s).vars
  stmt_begins n g (StmtTree.node at form) = form_begins n g form

  form_begins : (n : Names) (g : Sight) (form : StmtForm) → Begins g.vars (after_form n g form).vars
  form_begins n g (StmtForm.var x t e) = record {
    more = bare_var (declared_var n (has_value e || not g.live) x t) ∷ [];
    bare_is = map-append bare_var g.vars (declared_var n (has_value e || not g.live) x t ∷ []);
  }
  form_begins n g (StmtForm.new x t) = alike g.vars (give (text_of x) g.vars) (give_bare (text_of x) g.vars)
  form_begins n g (StmtForm.assign x e) = alike g.vars (give (text_of x) g.vars) (give_bare (text_of x) g.vars)
  form_begins n g (StmtForm.access a) = alike g.vars g.vars refl
  form_begins n g (StmtForm.if_ e b other) =
      let first = (after_block n g b).vars in
      let second = (after_else n g other).vars in
      let begun = else_begins n g other in
      alike g.vars (both_vars first second)
      (both_bare first second begun.more (begun.bare_is ∙ ap (λ l. l ++ begun.more) (sym (block_keeps n g b))) ∙ block_keeps n g b)
  form_begins n g (StmtForm.match e arms) =
      alike g.vars (after_arms n g (type_of n g.vars None e) arms).vars (arms_keep n g (type_of n g.vars None e) arms)
  form_begins n g (StmtForm.atomic b) = alike g.vars (after_block n g b).vars (block_keeps n g b)
  form_begins n g (StmtForm.assert e) = alike g.vars g.vars refl
  form_begins n g (StmtForm.return e) = alike g.vars (map with_value g.vars) (dead_bare g.vars)

  stmts_begin : (n : Names) (g : Sight) (stmts : StmtTrees) → Begins g.vars (after_stmts n g stmts).vars
  stmts_begin n g StmtTrees.no_stmts = alike g.vars g.vars refl
  stmts_begin n g (StmtTrees.more_stmts s stmts) =
      further g.vars (after n g s).vars (after_stmts n (after n g s) stmts).vars (stmt_begins n g s) (stmts_begin n (after n g s) stmts)

  pub block_keeps : (n : Names) (g : Sight) (b : BlockTree) → bare (after_block n g b).vars ≡ bare g.vars
  block_keeps n g (BlockTree.block at stmts) = left_bare (length g.vars) g.vars (after_stmts n g stmts).vars refl (stmts_begin n g stmts)

  pub else_begins : (n : Names) (g : Sight) (other : ElseTree) → Begins g.vars (after_else n g other).vars
  else_begins n g ElseTree.no_else = alike g.vars g.vars refl
  else_begins n g (ElseTree.else_block b) = alike g.vars (after_block n g b).vars (block_keeps n g b)
  else_begins n g (ElseTree.else_if s) = stmt_begins n g s

  pub arms_keep : (n : Names) (g : Sight) (k : Kind) (arms : BlockArmTrees) → bare (after_arms n g k arms).vars ≡ bare g.vars
  arms_keep n g k BlockArmTrees.no_block_arms = dead_bare g.vars
  arms_keep n g k (BlockArmTrees.more_block_arms a arms) =
      let first = (after_arm n g k a).vars in
      let second = (after_arms n g k arms).vars in
      both_bare first second [] (arms_keep n g k arms ∙ sym (arm_keeps n g k a) ∙ sym (append-nil (bare first))) ∙ arm_keeps n g k a

  pub arm_keeps : (n : Names) (g : Sight) (k : Kind) (a : BlockArmTree) → bare (after_arm n g k a).vars ≡ bare g.vars
  arm_keeps n g k (BlockArmTree.arm p b) =
      let inside = in_pattern n g k p in
      let bound = bound_behind g.vars (pattern_vars p) (pattern_kinds n k (pattern_name p)) in
      left_bare (length g.vars) g.vars (after_block n inside b).vars refl
      (record {
        more = bare bound.0;
        bare_is = block_keeps n inside b ∙ ap bare bound.1 ∙ map-append bare_var g.vars bound.0;
      })

-- # Where ways meet

pub join_assoc : (a b c : Sight) → join (join a b) c ≡ join a (join b c)
join_assoc a b c = ap₂ (λ vs l. record { vars = vs; live = l }) (both_assoc a.vars b.vars c.vars) (or_assoc a.live b.live c.live)

-- a way that no path takes
pub dead_before : (g h : Sight) → bare h.vars ≡ bare g.vars → join (dead g) h ≡ h
dead_before g h e = ap (λ vs. record { vars = vs; live = h.live }) (dead_left g.vars h.vars (sym e))

pub dead_behind : (g h : Sight) → bare h.vars ≡ bare g.vars → join h (dead g) ≡ h
dead_behind g h e = ap₂ (λ vs l. record { vars = vs; live = l }) (dead_right h.vars g.vars e) (or_false h.live)

-- back where the flow was that of g
pub sight_back : (f : code_flow.Flow) (vs : List Var) (g : Sight) → IsFlowOf f g → bare vs ≡ bare g.vars → record { vars = with_flags vs f.set; live = f.live } ≡ g
sight_back f vs g was like = ap₂ (λ vs l. record { vars = vs; live = l }) (ap (with_flags vs) was.set ∙ flags_back vs g.vars like) was.live
