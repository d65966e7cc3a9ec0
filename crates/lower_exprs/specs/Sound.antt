-- A test of what is read, before it is measured.
use Rattle.std.specs.Prelude.{ℕ, ◌==◌, nat_lt, Bool, true, false, ◌&&◌, IsTrue, length, Option, Some, None}
use Rattle.rp_value.specs.declared.tables.ConTable.{ConTable}
use Rattle.rp_lang.specs.Types.{fields_of}
use Rattle.query_bodies.specs.Terms as te
use Rattle.query_bodies.specs.Terms.{Te, Tes, no_te, also_te, Cl, Cls, no_cl, also_cl, ClArms, no_cl_arm, also_cl_arm, Said, said_term, said_claim}
use Rattle.query_bodies.specs.declared.bodies.Bodies.{Bodies}
use Rattle.query_bodies.specs.Expanded.{Saids, said_at}
use Rattle.query_bodies.specs.Measures.{params_in}
use Rattle.query_bodies.specs.Seen.{known_in, saids_in}

-- its parameters are among the first, so many
abbrev mutual
  pub is_over : ℕ → Te → Bool
  is_over n (te.Slot s) = true
  is_over n (te.Param p) = nat_lt p n
  is_over n (te.Level m) = true
  is_over n (te.Int i) = true
  is_over n (te.Str bytes) = true
  is_over n (te.Con con args) = are_over n args
  is_over n (te.Sum a b) = is_over n a && is_over n b
  is_over n (te.Difference a b) = is_over n a && is_over n b
  is_over n (te.Query query args) = are_over n args
  is_over n (te.OpOf call) = is_over n call
  is_over n (te.OpTerm op args) = are_over n args
  is_over n (te.OriginOf call) = is_over n call
  is_over n (te.InfoOf inv) = is_over n inv
  is_over n (te.InfoTerm proc args) = are_over n args
  is_over n (te.ResultOf inv) = is_over n inv
  is_over n (te.ResultTerm proc) = true
  is_over n (te.ResultWith proc value) = is_over n value
  is_over n te.Unreturned = true
  is_over n (te.Use decl args) = are_over n args

  pub are_over : ℕ → Tes → Bool
  are_over n no_te = true
  are_over n (also_te e es) = is_over n e && are_over n es

abbrev pub is_claim : Option Said → Bool
is_claim None = false
is_claim (Some (said_term e)) = false
is_claim (Some (said_claim f)) = true

abbrev pub binds_fields : ConTable → ℕ → ℕ → Bool
binds_fields cons con binds = length (fields_of cons con) == binds

-- besides, arms bind the fields of their constructors, and what is used as a formula is one
abbrev mutual
  pub is_sound : ConTable → Saids → ℕ → Cl → Bool
  is_sound cons bodies n (te.And parts) = are_sound cons bodies n parts
  is_sound cons bodies n (te.Or parts) = are_sound cons bodies n parts
  is_sound cons bodies n (te.Not part) = is_sound cons bodies n part
  is_sound cons bodies n (te.Implies a b) = is_sound cons bodies n a && is_sound cons bodies n b
  is_sound cons bodies n (te.All ty body) = is_sound cons bodies n body
  is_sound cons bodies n (te.Any ty body) = is_sound cons bodies n body
  is_sound cons bodies n (te.Holds e) = is_over n e
  is_sound cons bodies n (te.Equal a b) = is_over n a && is_over n b
  is_sound cons bodies n (te.Less a b) = is_over n a && is_over n b
  is_sound cons bodies n (te.AtMost a b) = is_over n a && is_over n b
  is_sound cons bodies n (te.Visible e) = is_over n e
  is_sound cons bodies n (te.Before a b) = is_over n a && is_over n b
  is_sound cons bodies n (te.Same a b) = is_over n a && is_over n b
  is_sound cons bodies n (te.Match on arms) = is_over n on && arms_are_sound cons bodies n arms
  is_sound cons bodies n (te.UseCl decl args) = is_claim (said_at bodies decl) && are_over n args

  pub are_sound : ConTable → Saids → ℕ → Cls → Bool
  are_sound cons bodies n no_cl = true
  are_sound cons bodies n (also_cl f fs) = is_sound cons bodies n f && are_sound cons bodies n fs

  pub arms_are_sound : ConTable → Saids → ℕ → ClArms → Bool
  arms_are_sound cons bodies n no_cl_arm = true
  arms_are_sound cons bodies n (also_cl_arm con binds body rest) =
      binds_fields cons con binds && (is_sound cons bodies n body && arms_are_sound cons bodies n rest)

abbrev pub is_sound_said : ConTable → Saids → ℕ → Said → Bool
is_sound_said cons bodies n (said_term e) = is_over n e
is_sound_said cons bodies n (said_claim f) = is_sound cons bodies n f

-- # The bodies of queries

abbrev pub is_sound_if : ConTable → Saids → ℕ → Option Said → Bool
is_sound_if cons bodies n None = true
is_sound_if cons bodies n (Some s) = is_sound_said cons bodies n s

-- over as many parameters as it was measured with
abbrev pub is_sound_at : ConTable → Bodies → ℕ → Bool
is_sound_at cons b decl = is_sound_if cons (saids_in b) (params_in (known_in b decl)) (said_at (saids_in b) decl)

abbrev pub AreSound : ConTable → Bodies → Type 0
AreSound cons b = (decl : ℕ) → IsTrue (is_sound_at cons b decl)
