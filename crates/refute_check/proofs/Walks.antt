-- Steps of a walk.
use Rattle.std.proofs.Common.{◌≡◌, ◌≤◌, ◌<◌, ℕ, zero, suc, ◌+◌, List, [], ◌∷◌, ◌++◌, map, take, drop, length, reverse, slice_get, Bool, true, false, Option, Some, None, Result, Err, true≢false, length-drop, refl, ap, ap₂, sym, ◌∙◌, subst, arith, append_assoc}
use Rattle.std.proofs.lemmas.List.{map_push, reverse-append, length-map, length-append}
use Rattle.rp_logic.specs.declared.formula.Fml.{Fml}
use Rattle.rp_logic.specs.declared.sort.NewConst.{NewConst}
use Rattle.rp_logic.specs.Signatures.{Signature}
use Rattle.rp_logic.specs.Views.{formula_view}
use Rattle.refute_defs.specs.declared.tree.Node.{Node}
use Rattle.refute_defs.specs.Uses.{Nd, Rule, Unvisited, Current}
use Rattle.refute_defs.specs.Views.{node_view}
use Rattle.refute_defs.specs.Branches as spec
use Rattle.refute_defs.specs.Branches.{Branch, extend, extend_each, with_const}
use Rattle.refute_defs.specs.Verdicts.{Verdict, Bad, verdict_from}
use Rattle.refute_rules.specs.declared.additions.Addition.{Addition}
use Rattle.refute_branch.specs.declared.branch.OpenBranch.{OpenBranch}
use Rattle.refute_check.specs.declared.walk.Waiting.{Waiting}
use Rattle.refute_check.specs.declared.error.CheckErr.{CheckErr}
use Rattle.refute_check.specs.declared.error.CheckErr.TheVariants as err
use Rattle.refute_rules.specs.Added.{addition_view}
use Rattle.refute_check.specs.Answers.{IsVerdict, IfBad}
use Rattle.refute_branch.specs.Views.{branch_view}
use Rattle.refute_check.specs.means.Waits.{waiting_branch, waiting_branches, open_branches, AreNested, AreWithin, wait, node_children, node_rule}

-- # Lists

map_take : {A B : Type 0} (f : A → B) (n : ℕ) (xs : List A) → map f (take n xs) ≡ take n (map f xs)
map_take f zero xs = refl
map_take f (suc n) [] = refl
map_take f (suc n) (x ∷ xs) = ap (λ ys. f x ∷ ys) (map_take f n xs)

map_append : {A B : Type 0} (f : A → B) (xs ys : List A) → map f (xs ++ ys) ≡ map f xs ++ map f ys
map_append f [] ys = refl
map_append f (x ∷ xs) ys = ap (λ zs. f x ∷ zs) (map_append f xs ys)

-- what is taken of a list that goes on behind what was taken of it
take_within : {A : Type 0} (k n : ℕ) (xs ys : List A) → k ≤ n → n ≤ length xs
    → take k (take n xs ++ ys) ≡ take k xs
take_within zero n xs ys h l = refl
take_within (suc k) zero xs ys h l = absurd (omega (arith, h))
take_within (suc k) (suc n) [] ys h l = absurd (omega (arith, l))
take_within (suc k) (suc n) (x ∷ xs) ys h l = ap
    (λ zs. x ∷ zs) (take_within k n xs ys (omega arith) (omega arith))

take_itself : {A : Type 0} (xs : List A) → take (length xs) xs ≡ xs
take_itself [] = refl
take_itself (x ∷ xs) = ap (λ ys. x ∷ ys) (take_itself xs)

taken : {A : Type 0} (n : ℕ) (xs : List A) → n ≤ length xs → n ≤ length (take n xs)
taken zero xs h = omega arith
taken (suc n) [] h = h
taken (suc n) (x ∷ xs) h = let l = taken n xs (omega arith) in omega arith

at_least : {A : Type 0} (n : ℕ) (xs ys : List A) → n ≤ length xs → n ≤ length (take n xs ++ ys)
at_least n xs ys h = let l = taken n xs h in let e = length-append (take n xs) ys in omega arith

-- # Branches that wait

nested_more : (ws : List Waiting) (n m k l : ℕ) → n ≤ k → m ≤ l → AreNested n m ws
    → AreNested k l ws
nested_more [] n m k l h g t = tt
nested_more (w ∷ ws) n m k l h g t = let a = t.0 in let b = t.1 in (omega arith, omega arith, t.2)

-- the formulas of the branch that is entered
pub kept_formulas : (n : ℕ) (fs : List Fml) (f : Fml) → map formula_view (take n fs ++ f ∷ [])
    ≡ take n (map formula_view fs) ++ formula_view f ∷ []
kept_formulas n fs f = map_push formula_view (take n fs) f ∙ ap
    (λ gs. gs ++ formula_view f ∷ []) (map_take formula_view n fs)

consts_within : (k m : ℕ) (cs : List NewConst) (brings : Option NewConst) → k ≤ m → m ≤ length cs
    → take k (with_const (take m cs) brings) ≡ take k cs
consts_within k m cs None h l = ap (take k) (sym (append_none (take m cs)))
    ∙ take_within k m cs [] h l
  where
    append_none : (xs : List NewConst) → xs ++ [] ≡ xs
    append_none [] = refl
    append_none (x ∷ xs) = ap (λ ys. x ∷ ys) (append_none xs)
consts_within k m cs (Some new) h l = take_within k m cs (new ∷ []) h l

consts_at_least : (m : ℕ) (cs : List NewConst) (brings : Option NewConst) → m ≤ length cs
    → m ≤ length (with_const (take m cs) brings)
consts_at_least m cs None h = taken m cs h
consts_at_least m cs (Some new) h = at_least m cs (new ∷ []) h

-- what waits begins with a part of the branch that is entered
same_begin : (b : Branch) (w v : Waiting) → w.formulas ≤ length b.formulas
    → w.added ≤ length b.added → v.formulas ≤ w.formulas → v.added ≤ w.added
    → waiting_branch (waiting_branch b w) v ≡ waiting_branch b v
same_begin b w v fs cs f c =
    let e = take_within v.formulas w.formulas b.formulas ((addition_view w.addition).formula ∷ []) f
    fs in
    let d = consts_within v.added w.added b.added w.addition.brings c cs in
    (λ i. extend (record { formulas = e i; added = d i }) (addition_view v.addition))

same_begins : (b : Branch) (w : Waiting) (ws : List Waiting) (n m : ℕ)
    → w.formulas ≤ length b.formulas → w.added ≤ length b.added
    → n ≤ w.formulas → m ≤ w.added → AreNested n m ws → map (waiting_branch (waiting_branch b w)) ws
    ≡ map (waiting_branch b) ws
same_begins b w [] n m fs cs f c t = refl
same_begins b w (v ∷ ws) n m fs cs f c t =
    let a = t.0 in let d = t.1 in
    let rest = same_begins b w ws v.formulas v.added fs cs (omega arith) (omega arith) t.2 in
    ap₂ (λ x xs. x ∷ xs) (same_begin b w v fs cs (omega arith) (omega arith)) rest

nested_last : (n m : ℕ) (ws : List Waiting) (w : Waiting) → AreNested n m (reverse (ws ++ w ∷ []))
    → AreNested n m (w ∷ reverse ws)
nested_last n m ws w t = subst (λ xs. AreNested n m xs) (reverse-append ws (w ∷ [])) t

-- what waits begins with no more formulas than the branch has
pub waits_within : (b : OpenBranch) (old ws : List Waiting) (w : Waiting) → old ≡ ws ++ w ∷ []
    → AreWithin b old → w.formulas ≤ length b.formulas
waits_within b old ws w is t = (nested_last _ _ ws w (subst (λ xs. AreWithin b xs) is t)).0

seen_length : (b : OpenBranch) → length (branch_view b).formulas ≡ length b.formulas
seen_length b = length-map b.formulas formula_view

-- The branch that waited last is entered.
pub entered_open : (b after : OpenBranch) (old ws : List Waiting) (w : Waiting) → old ≡ ws ++ w ∷ []
    → branch_view after ≡ waiting_branch (branch_view b) w
    → AreWithin b old → branch_view after ∷ waiting_branches (branch_view after) ws
    ≡ waiting_branches (branch_view b) old
entered_open b after old ws w is e t =
    let nest = nested_last _ _ ws w (subst (λ xs. AreWithin b xs) is t) in
    let a = nest.0 in let d = nest.1 in let s = seen_length b in
    let rest = same_begins (branch_view b) w (reverse ws) w.formulas w.added (omega arith) d
    (omega arith) (omega arith) nest.2 in
    ap (λ x. x ∷ waiting_branches x ws) e ∙ ap (λ xs. waiting_branch (branch_view b) w ∷ xs) rest
    ∙ ap (map (waiting_branch (branch_view b))) (sym (reverse-append ws (w ∷ [])))
    ∙ ap (waiting_branches (branch_view b)) (sym is)

pub entered_within : (b after : OpenBranch) (old ws : List Waiting) (w : Waiting) → old
    ≡ ws ++ w ∷ [] → branch_view after ≡ waiting_branch (branch_view b) w
    → AreWithin b old → AreWithin after ws
entered_within b after old ws w is e t =
    let nest = nested_last _ _ ws w (subst (λ xs. AreWithin b xs) is t) in
    let a = nest.0 in let d = nest.1 in let s = seen_length b in let r = seen_length after in
    let fs : length (branch_view after).formulas
    ≡ length (waiting_branch (branch_view b) w).formulas = ap (λ x. length x.formulas) e in
    let cs : length after.added ≡ length (waiting_branch (branch_view b) w).added = ap
    (λ x. length x.added) e in
    let f = at_least w.formulas (branch_view b).formulas ((addition_view w.addition).formula ∷ [])
    (omega arith) in
    let c = consts_at_least w.added b.added w.addition.brings d in
    nested_more (reverse ws) w.formulas w.added (length after.formulas) (length after.added)
    (omega arith) (omega arith) nest.2

-- # Children that wait

each_waits : (b : OpenBranch) (adds : List Addition)
    → map (waiting_branch (branch_view b)) (map (wait (length b.formulas) (length b.added)) adds)
    ≡ extend_each (branch_view b) (map addition_view adds)
each_waits b [] = refl
each_waits b (a ∷ adds) =
    let e = ap (λ n. take n (branch_view b).formulas) (sym (seen_length b))
    ∙ take_itself (branch_view b).formulas in
    let d = take_itself b.added in
    ap₂ (λ x xs. x ∷ xs)
    (λ i. extend (record { formulas = e i; added = d i }) (addition_view a)) (each_waits b adds)

pub children_wait : (b : OpenBranch) (adds : List Addition) (old new : List Waiting)
    → reverse new ≡ map (wait (length b.formulas) (length b.added)) adds ++ reverse old
    → waiting_branches (branch_view b) new
    ≡ extend_each (branch_view b) (map addition_view adds) ++ waiting_branches (branch_view b) old
children_wait b adds old new e =
    ap (map (waiting_branch (branch_view b))) e
    ∙ map_append (waiting_branch (branch_view b))
    (map (wait (length b.formulas) (length b.added)) adds) (reverse old)
    ∙ ap (λ bs. bs ++ waiting_branches (branch_view b) old) (each_waits b adds)

children_nested : (n m : ℕ) (adds : List Addition) (ws : List Waiting) → AreNested n m ws
    → AreNested n m (map (wait n m) adds ++ ws)
children_nested n m [] ws t = t
children_nested n m (a ∷ adds) ws t = (omega arith, omega arith, children_nested n m adds ws t)

pub children_within : (b : OpenBranch) (adds : List Addition) (old new : List Waiting)
    → reverse new ≡ map (wait (length b.formulas) (length b.added)) adds ++ reverse old
    → AreWithin b old → AreWithin b new
children_within b adds old new e t =
    subst (λ ws. AreNested (length b.formulas) (length b.added) ws) (sym e)
    (children_nested (length b.formulas) (length b.added) adds (reverse old) t)

-- pushed in turn, the last child first
pub one_waits : (n m : ℕ) (before left : List Addition) (a : Addition) (waiting : List Waiting)
    → before ≡ left ++ a ∷ []
    → map (wait n m) left ++ reverse (waiting ++ wait n m a ∷ [])
    ≡ map (wait n m) before ++ reverse waiting
one_waits n m before left a waiting e =
    ap (λ ws. map (wait n m) left ++ ws) (reverse-append waiting (wait n m a ∷ []))
    ∙ sym (append_assoc (map (wait n m) left) (wait n m a ∷ []) (reverse waiting))
    ∙ ap (λ ws. ws ++ reverse waiting) (sym (map_push (wait n m) left a))
    ∙ ap (λ adds. map (wait n m) adds ++ reverse waiting) (sym e)

-- # Verdicts

met : (S : Signature) (n : ℕ) (b : Branch) (bs : List Branch) (node : Nd)
    (adds : List spec.Addition) → node_children S b node ≡ Some adds
    → (nodes : List Nd) → verdict_from S n (b ∷ bs) (node ∷ nodes)
    ≡ verdict_from S (suc n) (extend_each b adds ++ bs) nodes
met S n b bs (Rule u) adds e nodes =
    ap (λ o. elim o [
      | None ↦ Bad n u.rule
      | Some xs ↦ verdict_from S (suc n)
          (extend_each b xs ++ bs) nodes
    ]) e
met S n b bs Unvisited adds e nodes = absurd cc
met S n b bs Current adds e nodes = absurd cc

pub unmet : (S : Signature) (n : ℕ) (b : Branch) (bs : List Branch) (node : Nd)
    → node_children S b node ≡ None
    → (nodes : List Nd) → verdict_from S n (b ∷ bs) (node ∷ nodes) ≡ Bad n (node_rule node)
unmet S n b bs (Rule u) e nodes =
    ap (λ o. elim o [
      | None ↦ Bad n u.rule
      | Some xs ↦ verdict_from S (suc n)
          (extend_each b xs ++ bs) nodes
    ]) e
unmet S n b bs Unvisited e nodes = refl
unmet S n b bs Current e nodes = refl

pub goes_on : (S : Signature) (n : ℕ) (b : OpenBranch) (adds : List Addition)
    (old new : List Waiting) (after : List Branch) (node : Nd)
    → node_children S (branch_view b) node ≡ Some (map addition_view adds)
    → reverse new ≡ map (wait (length b.formulas) (length b.added)) adds ++ reverse old
    → after ≡ waiting_branches (branch_view b) new
    → (nodes : List Nd)
    → verdict_from S n (branch_view b ∷ waiting_branches (branch_view b) old) (node ∷ nodes)
    ≡ verdict_from S (suc n) after nodes
goes_on S n b adds old new after node e w is nodes =
    met S n (branch_view b) (waiting_branches (branch_view b) old) node (map addition_view adds) e
    nodes
    ∙ ap (λ bs. verdict_from S (suc n) bs nodes) (sym (children_wait b adds old new w)) ∙ ap
    (λ bs. verdict_from S (suc n) bs nodes) (sym is)

-- # The walk

first_left : {A : Type 0} (n : ℕ) (xs : List A) (x : A) → slice_get xs n ≡ Some x → drop n xs
    ≡ x ∷ drop (suc n) xs
first_left n [] x e = absurd cc
first_left zero (y ∷ xs) x e = ap (λ z. z ∷ xs) cc
first_left (suc n) (y ∷ xs) x e = first_left n xs x e

-- a node behind the last branch
pub too_many : (S : Signature) (n : ℕ) (is_open : Bool) (b : Branch) (waiting : List Waiting)
    (nodes : List Node) → is_open ≡ false → n < length nodes
    → verdict_from S n (open_branches is_open b waiting) (map node_view (drop n nodes)) ≡ Bad n 0
too_many S n true b waiting nodes e h = absurd (true≢false e)
too_many S n false b waiting nodes e h = more (drop n nodes) (omega (arith, h, length-drop n nodes))
  where
    more : (left : List Node) → 0 < length left → verdict_from S n [] (map node_view left) ≡ Bad n 0
    more [] l = absurd (omega (arith, l))
    more (node ∷ left) l = refl

pub walked : (S : Signature) (n : ℕ) (is_open : Bool) (b : Branch) (waiting : List Waiting)
    (nodes : List Node) (node : Node) (v : Verdict)
    → is_open ≡ true → slice_get nodes n ≡ Some node
    → verdict_from S n (b ∷ waiting_branches b waiting)
    (node_view node ∷ map node_view (drop (suc n) nodes)) ≡ v
    → verdict_from S n (open_branches is_open b waiting) (map node_view (drop n nodes)) ≡ v
walked S n false b waiting nodes node v e g h = absurd (true≢false (sym e))
walked S n true b waiting nodes node v e g h = ap
    (λ left. verdict_from S n (b ∷ waiting_branches b waiting) (map node_view left))
    (first_left n nodes node g) ∙ h

pub next_node : (S : Signature) (n : ℕ) (bs : List Branch) (nodes : List Node)
    → verdict_from S (suc n) bs (map node_view (drop (suc n) nodes))
    ≡ verdict_from S (n + 1) bs (map node_view (drop (n + 1) nodes))
next_node S n bs nodes = let e : suc n ≡ n + 1 = omega arith in ap
    (λ k. verdict_from S k bs (map node_view (drop k nodes))) e

-- an error is the verdict where its node is refused whatever follows
pub refused : {A : Type 0} (r : Result A CheckErr) (e : CheckErr) (v : Verdict) (F : List Nd
    → Verdict) (nodes : List Nd) → r ≡ Err e
    → IfBad r (λ m rule. (rest : List Nd) → F rest ≡ Bad m rule) → v ≡ F nodes → IsVerdict (Err e) v
refused r (err.Bad m rule) v F nodes is h e = e ∙ subst
    (λ x. IfBad x (λ m rule. (rest : List Nd) → F rest ≡ Bad m rule)) is h nodes
refused r err.Memory v F nodes is h e = tt
