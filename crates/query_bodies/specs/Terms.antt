-- What expressions say before uses of queries are put in: plain terms, or formulas.
use Rattle.std.specs.Prelude.{ℕ, ℤ, List}
use Rattle.rp_value.specs.declared.tables.Ty.{Ty}

mutual
  pub data Te : Type 0 where
    Slot : (s : ℕ) → Te
    -- a parameter of the query
    Param : (p : ℕ) → Te
    -- the variable of a binder, around which stand so many of the same expression
    Level : (n : ℕ) → Te
    Int : (n : ℤ) → Te
    Str : (bytes : List ℕ) → Te
    Con : (con : ℕ) (args : Tes) → Te
    Sum : (left right : Te) → Te
    Difference : (left right : Te) → Te
    Query : (query : ℕ) (args : Tes) → Te
    OpOf : (call : Te) → Te
    OpTerm : (op : ℕ) (args : Tes) → Te
    OriginOf : (call : Te) → Te
    InfoOf : (inv : Te) → Te
    InfoTerm : (proc : ℕ) (args : Tes) → Te
    ResultOf : (inv : Te) → Te
    ResultTerm : (proc : ℕ) → Te
    ResultWith : (proc : ℕ) (value : Te) → Te
    Unreturned : Te
    -- a use of the query of that declaration
    Use : (decl : ℕ) (args : Tes) → Te

  pub data Tes : Type 0 where
    no_te : Tes
    also_te : (first : Te) (rest : Tes) → Tes

mutual
  pub data Cl : Type 0 where
    And : (parts : Cls) → Cl
    Or : (parts : Cls) → Cl
    Not : (part : Cl) → Cl
    Implies : (left right : Cl) → Cl
    All : (ty : Ty) (body : Cl) → Cl
    Any : (ty : Ty) (body : Cl) → Cl
    Holds : (e : Te) → Cl
    Equal : (left right : Te) → Cl
    Less : (left right : Te) → Cl
    AtMost : (left right : Te) → Cl
    Visible : (call : Te) → Cl
    Before : (left right : Te) → Cl
    Same : (left right : Te) → Cl
    Match : (on : Te) (arms : ClArms) → Cl
    UseCl : (decl : ℕ) (args : Tes) → Cl

  pub data Cls : Type 0 where
    no_cl : Cls
    also_cl : (first : Cl) (rest : Cls) → Cls

  -- an arm with its constructor, and how many variables it binds
  pub data ClArms : Type 0 where
    no_cl_arm : ClArms
    also_cl_arm : (con binds : ℕ) (body : Cl) (rest : ClArms) → ClArms

pub data Said : Type 0 where
  said_term : Te → Said
  said_claim : Cl → Said
