-- What an access calls, by what it is.
use Rattle.std.proofs.Common.{◌≡◌, ℕ, Bool, true, false, cond, List, [], ◌∷◌, filter_map, Option, Some, None, refl, ap, sym, subst, ◌∙◌}
use Rattle.std.specs.Prelude.{find, option_map}
use Rattle.std.specs.Option.{option_zip}
use Rattle.std.specs.List.{cons_option}
use Rattle.rp_grammar.specs.Trees.{CrdtTree, Ident, ProcTree, StepTree, StepTrees}
use Rattle.type_rules.specs.declared.kind.Kind.{Kind}
use Rattle.type_rules.specs.declared.kind.Base.TheVariants as base
use Rattle.type_rules.specs.Kinds.{param_kinds, plain_kind}
use Rattle.type_rules.specs.Names.{Declared, Entry, Name, Names, con_fields, con_name, entry_named, first_entry, same_name, text_of}
use Rattle.type_rules.specs.Paths.{Does, Member, Way, is_operation, is_question, member_of, walked}
use Rattle.type_rules.specs.Accesses.{Access, Var, alone, args_of, of_declared, of_entry, of_name, of_proc, of_way, proc_params, proc_result, query_params, result_args}
use Rattle.type_rules.specs.ExprSites.{declared_way, entry_way, way_from}
use Rattle.lawful.specs.Typed.{Along}
use Rattle.lawful.proofs.Members.{leads}
use Rattle.text_kinds.specs.Numbered.{Numbered}
use Rattle.text_tables.specs.Seen.{tables_with}
use Rattle.text_tables.specs.Called.{LeadsTo, callee_of}
use Rattle.text_tables.proofs.CalledLaw.{called_law, end_object}
use Rattle.text_tables.specs.means.Placed.{number_at}
use Rattle.desugaring.specs.Objects.{Reached, Root, follow, keys_on, root_in, roots_of}
use Rattle.desugaring.specs.Tables.{con_number, proc_name, proc_number}
use Rattle.desugaring.specs.Callees.{Callee, Called, Stand, constructor, located, member_at, of_access, on_root, operation, outcome, procedure, question, stand_named, taking, use_of, value, variable}
use Rattle.desugaring.proofs.Options.{map_there, then_there}
use Rattle.query_laws.proofs.Calls.{callee_map}

-- # The root that a name stands for

find_second : {X Y : Type 0} (o : Option X) (p : Option Y) (z : X × Y) → option_zip o p ≡ Some z → p ≡ Some z.1
find_second None p z e = absurd cc
find_second (Some x) None z e = absurd cc
find_second (Some x) (Some y) z e = ap (option_map (λ a. a.1)) e

root_here : (x name : Name) (w : Declared) (rest : List Root) (c : CrdtTree) (r : Root) → same_name name x ≡ true → w ≡ Declared.root c
    → find (λ (r : Root). same_name r.name x) (cons_option (root_in name w) rest) ≡ Some r → r.crdt ≡ c
root_here x name w rest c r named what is =
    let found : cond (same_name name x) (Some (record { name = name; crdt = c })) (find (λ (r : Root). same_name r.name x) rest) ≡ Some r =
    subst (λ (w : Declared). find (λ (r : Root). same_name r.name x) (cons_option (root_in name w) rest) ≡ Some r) what is in
    let first : Some (record { name = name; crdt = c }) ≡ Some r =
    subst (λ (b : Bool). cond b (Some (record { name = name; crdt = c })) (find (λ (r : Root). same_name r.name x) rest) ≡ Some r) named found in
    let same : record { name = name; crdt = c } ≡ r = cc in
    ap (λ (r : Root). r.crdt) (sym same)

root_skipped : (x name : Name) (w : Declared) (rest : List Root) (o : Option Root) → same_name name x ≡ false
    → find (λ (r : Root). same_name r.name x) (cons_option (root_in name w) rest) ≡ o → find (λ (r : Root). same_name r.name x) rest ≡ o
root_skipped x name (Declared.root d) rest o isnt is =
    subst (λ (b : Bool). cond b (Some (record { name = name; crdt = d })) (find (λ (r : Root). same_name r.name x) rest) ≡ o) isnt is
root_skipped x name (Declared.query q) rest o isnt is = is
root_skipped x name (Declared.proc p) rest o isnt is = is
root_skipped x name (Declared.con type c) rest o isnt is = is

-- the first root of the name is that which the name stands for
root_first : (es : List Entry) (x : Name) (e : Entry) (c : CrdtTree) (r : Root) → first_entry es x ≡ Some e → e.what ≡ Declared.root c
    → find (λ (r : Root). same_name r.name x) (filter_map (λ (e : Entry). root_in e.name e.what) es) ≡ Some r → r.crdt ≡ c
root_first [] x e c r found what is = absurd cc
root_first (y ∷ ys) x e c r found what is = by (same_name y.name x) refl found (root_first ys x e c r) where
  by : (b : Bool) → same_name y.name x ≡ b → cond b (Some y) (first_entry ys x) ≡ Some e
      → (first_entry ys x ≡ Some e → e.what ≡ Declared.root c
      → find (λ (r : Root). same_name r.name x) (filter_map (λ (e : Entry). root_in e.name e.what) ys) ≡ Some r → r.crdt ≡ c)
      → r.crdt ≡ c
  by true named here later =
      let same : y ≡ e = cc in
      root_here x y.name y.what (filter_map (λ (e : Entry). root_in e.name e.what) ys) c r named (ap (λ (e : Entry). e.what) same ∙ what) is
  by false named here later =
      later here what (root_skipped x y.name y.what (filter_map (λ (e : Entry). root_in e.name e.what) ys) (Some r) named is)

-- # An access to an operation or a query of the store

record IsMember (n : Names) (o : Option Var) (x : Ident) (steps : StepTrees) (m : Member) : Type 0 where
  entry : Entry
  crdt : CrdtTree
  no_var : o ≡ None
  there : entry_named n (text_of x) ≡ Some entry
  what : entry.what ≡ Declared.root crdt
  walk : walked n (Way.came crdt) steps ≡ Way.member m

alone_no_member : (x : Ident) (steps : StepTrees) (a : Access) (m : Member) → (a ≡ Access.member m → ⊥) → alone x steps a ≡ Access.member m → ⊥
alone_no_member x StepTrees.no_steps a m isnt e = isnt e
alone_no_member x (StepTrees.more_steps s steps) a m isnt e = cc

proc_no_member : (x : Ident) (p : ProcTree) (steps : StepTrees) (m : Member) → of_proc x p steps ≡ Access.member m → ⊥
proc_no_member x p StepTrees.no_steps m e = cc
proc_no_member x p (StepTrees.more_steps (StepTree.returned at) StepTrees.no_steps) m e = cc
proc_no_member x p (StepTrees.more_steps (StepTree.returned at) (StepTrees.more_steps s steps)) m e = cc
proc_no_member x p (StepTrees.more_steps (StepTree.dot y) steps) m e = cc
proc_no_member x p (StepTrees.more_steps (StepTree.key y) steps) m e = cc

way_member : (x : Ident) (w : Way) (m : Member) → of_way x w ≡ Access.member m → w ≡ Way.member m
way_member x (Way.came c) m e = absurd cc
way_member x (Way.member j) m e = let same : j ≡ m = cc in ap Way.member same
way_member x (Way.misfit at) m e = absurd cc

declared_member : (n : Names) (x : Ident) (steps : StepTrees) (entry : Entry) → entry_named n (text_of x) ≡ Some entry → (d : Declared)
    → entry.what ≡ d → (m : Member) → of_declared n x steps entry.decl d ≡ Access.member m → IsMember n None x steps m
declared_member n x steps entry there (Declared.root c) what m e = record {
  entry = entry;
  crdt = c;
  no_var = refl;
  there = there;
  what = what;
  walk = way_member x (walked n (Way.came c) steps) m e;
}
declared_member n x steps entry there (Declared.query q) what m e =
    absurd (alone_no_member x steps (Access.use_of entry.decl q) m (λ h. cc) e)
declared_member n x steps entry there (Declared.proc p) what m e = absurd (proc_no_member x p steps m e)
declared_member n x steps entry there (Declared.con type c) what m e =
    absurd (alone_no_member x steps (Access.constructor type c) m (λ h. cc) e)

entry_member : (n : Names) (x : Ident) (steps : StepTrees) (o : Option Entry) → entry_named n (text_of x) ≡ o → (m : Member)
    → of_entry n x steps o ≡ Access.member m → IsMember n None x steps m
entry_member n x steps None is m e = absurd cc
entry_member n x steps (Some entry) is m e = declared_member n x steps entry is entry.what refl m e

name_member : (n : Names) (x : Ident) (steps : StepTrees) (o : Option Var) (m : Member) → of_name n x steps o ≡ Access.member m
    → IsMember n o x steps m
name_member n x steps (Some v) m e = absurd (alone_no_member x steps (Access.variable v) m (λ h. cc) e)
name_member n x steps None m e = entry_member n x steps (entry_named n (text_of x)) refl m e

-- # Where it leads

pub record IsLed {X : Type 0} (k : Numbered) (o : Option Var) (x : Ident) (steps : StepTrees) (m : Member) (c : Called X) : Type 0 where
  pub crdt : CrdtTree
  pub begins : way_from k.names o x ≡ Way.came crdt
  pub root : ℕ × Root
  pub is_root : located (λ (root : Root). same_name root.name (text_of x)) (roots_of k.names) ≡ Some root
  pub same : root.1.crdt ≡ crdt
  pub reached : Reached
  pub follows : follow k.names steps root.1.crdt ≡ Some reached
  pub has : member_of k.names reached.crdt reached.last ≡ Some m
  pub on : on_root (tables_with k) m steps root ≡ Some c
  pub along : Along k.names (Way.came root.1.crdt) steps (keys_on reached.path)

-- so it leads to the member, on a tree that is that at the end
abbrev pub leads_to : {X : Type 0} {k : Numbered} {o : Option Var} {x : Ident} {steps : StepTrees} {m : Member} {c : Called X} (l : IsLed k o x steps m c)
    (end : CrdtTree) → end ≡ l.reached.crdt → LeadsTo (tables_with k) (text_of x) steps end m
leads_to {X} {k} {o} {x} {steps} {m} {c} l end is = record {
  root = l.root;
  is_root = l.is_root;
  reached = l.reached;
  follows = l.follows;
  ends = sym is;
  has = subst (λ (d : CrdtTree). member_of k.names d l.reached.last ≡ Some m) (sym is) l.has;
}

-- what is called takes these keys and arguments
pub led_called : {X : Type 0} {k : Numbered} {o : Option Var} {x : Ident} {steps : StepTrees} {m : Member} {c : Called X} (l : IsLed k o x steps m c)
    → c ≡ taking (keys_on l.reached.path) m.args (callee_of m.does (number_at (end_object (leads_to l l.reached.crdt refl)) m.does))
led_called {X} {k} {o} {x} {steps} {m} {c} l =
    called_law k (text_of x) steps l.reached.crdt m (leads_to l l.reached.crdt refl) c l.on

pub is_led : {X : Type 0} (k : Numbered) (vs : List (Stand X)) (o : Option Var) (x : Ident) (steps : StepTrees) (m : Member) (c : Called X)
    → of_name k.names x steps o ≡ Access.member m → of_access (tables_with k) vs x steps (Access.member m) ≡ Some c → IsLed k o x steps m c
is_led k vs o x steps m c what is =
    let t = tables_with k in
    let n = k.names in
    let member = name_member n x steps o m what in
    then_there (on_root t m steps) (located (λ (root : Root). same_name root.name (text_of x)) t.roots) c is (λ root found on.
    then_there (member_at t m root.0) (follow n steps root.1.crdt) c on (λ r reached there.
    let same : root.1.crdt ≡ member.crdt = root_first n.entries (text_of x) member.entry member.crdt root.1 member.there member.what
    (find_second _ _ root found) in
    let walk : walked n (Way.came root.1.crdt) steps ≡ Way.member m =
    subst (λ (d : CrdtTree). walked n (Way.came d) steps ≡ Way.member m) (sym same) member.walk in
    let led = leads n steps root.1.crdt m r reached walk in
    record {
      crdt = member.crdt;
      begins = ap (λ o. way_from n o x) member.no_var ∙ ap (entry_way x) member.there ∙ ap (declared_way x) member.what;
      root = root;
      is_root = found;
      same = same;
      reached = r;
      follows = reached;
      has = led.1;
      on = on;
      along = led.0;
    }))

-- # Keys and arguments of other accesses

-- it has no keys
abbrev IsShort : Access → Type 0
IsShort Access.unknown = ⊥
IsShort (Access.misfit at) = ⊥
IsShort (Access.variable v) = Unit {0}
IsShort (Access.constructor type c) = Unit {0}
IsShort (Access.use_of k q) = Unit {0}
IsShort (Access.procedure p) = Unit {0}
IsShort (Access.returned p) = Unit {0}
IsShort (Access.member m) = ⊥

alone_short : (n : Names) (x : Ident) (steps : StepTrees) (b a : Access) → alone x steps b ≡ a → IsShort a → (way : Way) → Along n way steps []
alone_short n x StepTrees.no_steps b a e short way = Along.ends
alone_short n x (StepTrees.more_steps s steps) b a e short way = absurd (subst IsShort (sym e) short)

proc_short : (n : Names) (x : Ident) (p : ProcTree) (steps : StepTrees) (a : Access) → of_proc x p steps ≡ a → IsShort a → (way : Way)
    → Along n way steps []
proc_short n x p StepTrees.no_steps a e short way = Along.ends
proc_short n x p (StepTrees.more_steps (StepTree.returned at) StepTrees.no_steps) a e short way = Along.returned Along.ends
proc_short n x p (StepTrees.more_steps (StepTree.returned at) (StepTrees.more_steps s steps)) a e short way = absurd (subst IsShort (sym e) short)
proc_short n x p (StepTrees.more_steps (StepTree.dot y) steps) a e short way = absurd (subst IsShort (sym e) short)
proc_short n x p (StepTrees.more_steps (StepTree.key y) steps) a e short way = absurd (subst IsShort (sym e) short)

way_short : (x : Ident) (w : Way) → IsShort (of_way x w) → ⊥
way_short x (Way.came c) short = short
way_short x (Way.member m) short = short
way_short x (Way.misfit at) short = short

declared_short : (n : Names) (x : Ident) (steps : StepTrees) (decl : ℕ) (d : Declared) (a : Access) → of_declared n x steps decl d ≡ a
    → IsShort a → (way : Way) → Along n way steps []
declared_short n x steps decl (Declared.root c) a e short way = absurd (way_short x (walked n (Way.came c) steps) (subst IsShort (sym e) short))
declared_short n x steps decl (Declared.query q) a e short way = alone_short n x steps (Access.use_of decl q) a e short way
declared_short n x steps decl (Declared.proc p) a e short way = proc_short n x p steps a e short way
declared_short n x steps decl (Declared.con type c) a e short way = alone_short n x steps (Access.constructor type c) a e short way

name_short : (n : Names) (x : Ident) (steps : StepTrees) (o : Option Var) (p : Option Entry) (a : Access)
    → (o ≡ None → entry_named n (text_of x) ≡ p) → of_name n x steps o ≡ a → IsShort a → (way : Way) → Along n way steps []
name_short n x steps (Some v) p a there e short way = alone_short n x steps (Access.variable v) a e short way
name_short n x steps None None a there e short way =
    absurd (subst IsShort (sym (sym (ap (of_entry n x steps) (there refl)) ∙ e)) short)
name_short n x steps None (Some entry) a there e short way =
    declared_short n x steps entry.decl entry.what a (sym (ap (of_entry n x steps) (there refl)) ∙ e) short way

-- the keys and the arguments that a call takes are those of the path and of what the access is
pub record IsTaken {X : Type 0} (n : Names) (way : Way) (steps : StepTrees) (a : Access) (c : Called X) : Type 0 where
  pub along : Along n way steps c.keys
  pub args : c.args ≡ args_of n a

pub taken : {X : Type 0} (k : Numbered) (vs : List (Stand X)) (o : Option Var) (x : Ident) (steps : StepTrees) (a : Access) (c : Called X)
    → of_name k.names x steps o ≡ a → of_access (tables_with k) vs x steps a ≡ Some c
    → IsTaken k.names (way_from k.names o x) steps a c
taken k vs o x steps Access.unknown c what is = absurd cc
taken k vs o x steps (Access.misfit at) c what is = absurd cc
taken k vs o x steps (Access.variable v) c what is =
    map_there (IsTaken k.names (way_from k.names o x) steps (Access.variable v)) (λ s. taking [] [] (variable s.known)) (stand_named vs (text_of x)) c is
    (λ s e. record { along = name_short k.names x steps o _ (Access.variable v) (λ h. refl) what tt _; args = refl })
taken k vs o x steps (Access.constructor type declared) c what is =
    map_there (IsTaken k.names (way_from k.names o x) steps (Access.constructor type declared))
    (λ j. taking [] (param_kinds k.names (con_fields declared)) (constructor j))
    (con_number (tables_with k) (plain_kind (base.Declared type)) (text_of (con_name declared))) c is
    (λ s e. record { along = name_short k.names x steps o _ (Access.constructor type declared) (λ h. refl) what tt _; args = refl })
taken k vs o x steps (Access.use_of j q) c what is =
    subst (IsTaken k.names (way_from k.names o x) steps (Access.use_of j q))
    {x = taking [] (param_kinds k.names (query_params q)) (use_of j q)} {y = c} (cc)
    (record { along = name_short k.names x steps o _ (Access.use_of j q) (λ h. refl) what tt _; args = refl })
taken k vs o x steps (Access.procedure p) c what is =
    map_there (IsTaken k.names (way_from k.names o x) steps (Access.procedure p))
    (λ j. taking [] (param_kinds k.names (proc_params p)) (procedure j))
    (proc_number (tables_with k) (proc_name p)) c is
    (λ s e. record { along = name_short k.names x steps o _ (Access.procedure p) (λ h. refl) what tt _; args = refl })
taken k vs o x steps (Access.returned p) c what is =
    map_there (IsTaken k.names (way_from k.names o x) steps (Access.returned p))
    (λ j. taking [] (result_args k.names (proc_result p)) (outcome j))
    (proc_number (tables_with k) (proc_name p)) c is
    (λ s e. record { along = name_short k.names x steps o _ (Access.returned p) (λ h. refl) what tt _; args = refl })
taken k vs o x steps (Access.member m) c what is =
    let l = is_led k vs o x steps m c what is in
    let made = led_called l in
    record {
      along = subst (λ (way : Way). Along k.names way steps c.keys) (sym (l.begins ∙ ap Way.came (sym l.same)))
          (subst (λ (ks : List Kind). Along k.names (Way.came l.root.1.crdt) steps ks) (ap (λ (c : Called _). c.keys) (sym made)) l.along);
      args = ap (λ (c : Called _). c.args) made;
    }

-- # Operations and queries by their numbers

by_does : {X Y : Type 0} (f : X → Y) (is_op asks : Bool) (n : ℕ) (what : Callee X)
    → callee_map f what ≡ cond is_op (operation n) (cond asks (question n) (value n))
    → what ≡ cond is_op (operation n) (cond asks (question n) (value n))
by_does f true asks n (variable v) e = absurd cc
by_does f true asks n (constructor j) e = absurd cc
by_does f true asks n (use_of j q) e = absurd cc
by_does f true asks n (procedure j) e = absurd cc
by_does f true asks n (outcome j) e = absurd cc
by_does f true asks n (operation j) e = let same : j ≡ n = cc in ap operation same
by_does f true asks n (question j) e = absurd cc
by_does f true asks n (value j) e = absurd cc
by_does f false true n (variable v) e = absurd cc
by_does f false true n (constructor j) e = absurd cc
by_does f false true n (use_of j q) e = absurd cc
by_does f false true n (procedure j) e = absurd cc
by_does f false true n (outcome j) e = absurd cc
by_does f false true n (operation j) e = absurd cc
by_does f false true n (question j) e = let same : j ≡ n = cc in ap question same
by_does f false true n (value j) e = absurd cc
by_does f false false n (variable v) e = absurd cc
by_does f false false n (constructor j) e = absurd cc
by_does f false false n (use_of j q) e = absurd cc
by_does f false false n (procedure j) e = absurd cc
by_does f false false n (outcome j) e = absurd cc
by_does f false false n (operation j) e = absurd cc
by_does f false false n (question j) e = absurd cc
by_does f false false n (value j) e = let same : j ≡ n = cc in ap value same

-- what is called, whatever variables stand for
pub callee_is : {X Y : Type 0} (f : X → Y) (d : Does) (n : ℕ) (what : Callee X) → callee_map f what ≡ callee_of d n → what ≡ callee_of d n
callee_is f d n what e = by_does f (is_operation d) (is_question d) n what e
