-- Lists of labels for the program over two sets that `removes_users` is, and a program without a set.
use Rattle.std.specs.Prelude.{ℕ, true, false, List, [], ◌∷◌, ◌++◌, codes, Some, None}
use Rattle.rp_span.specs.declared.Span.{Span}
use Rattle.rp_value.specs.declared.tables.Ty.{Ty}
use Rattle.rp_value.specs.declared.tables.Ty.TheVariants as ty
use Rattle.rp_value.specs.Values.{Val, Atom, Con, no_val, also_val}
use Rattle.rp_lang.specs.Exprs.{Slot}
use Rattle.rp_lang.specs.FirstForm.{tx}
use Rattle.rp_lang.specs.Stmts.{St, Sts, Put, New, Match, Atomic, ReturnWith, no_st, also_st, no_st_arm, also_st_arm}
use Rattle.rp_lang.specs.Programs.{Proc, Prog}
use Rattle.event_machine.specs.States.{Label, Invoke, Begin, Op, Local, Commit, Return, Fail, Check}
use Rattle.event_machine.specs.States as label
use Rattle.event_machine.specs.rows.Samples.{span}

-- # Labels of the program over two sets

-- the identifier of this number
abbrev pub id : ℕ → Val
id n = Atom 0 n

-- a user is made, with these stamps of the marker and of the add
abbrev pub making : ℕ → ℕ → List Label
making marker added = Invoke 0 [] ∷ Begin 0 marker [] ∷ label.New 0 (id 0) ∷ Op 0 added ∷ []

abbrev pub made : List Label
made = making 0 1 ++ Commit 0 ∷ Return 0 ∷ []

-- a post and a remove of the user begin side by side, and the post finds the user
abbrev pub two_begun : List Label
two_begun =
    made ++ Invoke 1 (id 0 ∷ []) ∷ Invoke 2 (id 0 ∷ []) ∷ Begin 1 2 (0 ∷ []) ∷ Begin 2 3 (0 ∷ []) ∷ Local 1 ∷ []

abbrev pub both_done : List Label
both_done = two_begun ++ Op 1 4 ∷ Op 2 5 ∷ Commit 1 ∷ Commit 2 ∷ []

-- a user is made, and the invocation fails before it commits
abbrev pub failed : List Label
failed = making 0 1 ++ Fail 0 ∷ Check [] ∷ []

-- # A program without a set
--
--     idtype U;
--     opaque T;
--     data Who = nobody | user(U);
--     proc twice() { atomic { } atomic { } }
--     proc pick(w: Who, t: T): U {
--       var u: U;
--       match (w) { nobody => { u = new U; } user(v) => { u = v; } }
--       return u;
--     }

abbrev pub id_type : Ty
id_type = ty.Atom 0

abbrev pub alone : St → Sts
alone s = also_st s no_st

abbrev pub nowhere : Span
nowhere = span 0 0

abbrev pub twice : Proc
twice = record {
  name = codes "twice";
  at = nowhere;
  end = nowhere;
  params = [];
  result = None;
  slots = [];
  body = also_st (Atomic nowhere no_st) (alone (Atomic nowhere no_st));
}

-- the slots are w, t, u and v
abbrev pub pick : Proc
pick = record {
  name = codes "pick";
  at = nowhere;
  end = nowhere;
  params = ty.Datatype 1 ∷ ty.Atom 1 ∷ [];
  result = Some id_type;
  slots = ty.Datatype 1 ∷ ty.Atom 1 ∷ id_type ∷ id_type ∷ [];
  body =
      also_st
      (Match nowhere (Slot 0) (also_st_arm 2 [] (alone (New nowhere 2 0)) (also_st_arm 3 (3 ∷ []) (alone (Put nowhere 2 (Slot 3))) no_st_arm)))
      (alone (ReturnWith nowhere (Slot 2)));
}

abbrev pub pickers : Prog
pickers = record {
  types = record {
    atoms = record { name = codes "U"; is_id = true } ∷ record { name = codes "T"; is_id = false } ∷ [];
    datatypes = record { name = codes "Bool"; cons = 0 ∷ 1 ∷ [] } ∷ record { name = codes "Who"; cons = 2 ∷ 3 ∷ [] } ∷ [];
  };
  cons = record {
    cons =
        record { name = codes "false"; of = 0; fields = [] }
        ∷ record { name = codes "true"; of = 0; fields = [] }
        ∷ record { name = codes "nobody"; of = 1; fields = [] }
        ∷ record { name = codes "user"; of = 1; fields = id_type ∷ [] }
        ∷ [];
  };
  roots = [];
  ops = tx ∷ [];
  queries = [];
  invs = [];
  procs = twice ∷ pick ∷ [];
}

abbrev pub nobody : Val
nobody = Con 2 no_val

abbrev pub user : Val → Val
user v = Con 3 (also_val v no_val)

-- the opaque value of this number
abbrev pub opaque : ℕ → Val
opaque n = Atom 1 n

-- a user is picked where none is given, by a new identifier
abbrev pub picked : List Label
picked = Invoke 1 (nobody ∷ opaque 0 ∷ []) ∷ Local 0 ∷ label.New 0 (id 0) ∷ Return 0 ∷ []
