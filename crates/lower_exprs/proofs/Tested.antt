-- What passes the test of all bodies has what measures need.
use Rattle.std.proofs.Common.{◌≡◌, ◌<◌, ◌≤◌, ℕ, zero, suc, Bool, true, false, [], ◌∷◌, length, Some, None, refl, ap, sym, ◌∙◌, arith, ltb-true, ltb-false}
use Rattle.std.specs.Prelude.{IsTrue, nat_lt}
use Rattle.rp_value.specs.declared.tables.ConTable.{ConTable}
use Rattle.query_bodies.specs.declared.bodies.Bodies.{Bodies}
use Rattle.query_bodies.specs.Terms.{Said}
use Rattle.query_bodies.specs.Expanded.{Saids, said_at, uses_in}
use Rattle.query_bodies.specs.Measures.{params_in}
use Rattle.query_bodies.specs.Seen.{known_in, saids_in}
use Rattle.query_laws.specs.Told.{Fits, IsOver}
use Rattle.lower_exprs.specs.Sound.{AreSound, is_sound_at, is_sound_if, is_sound_said}
use Rattle.lower_exprs.proofs.Fit.{said_fits, said_over}

said_past : (bodies : Saids) (decl : ℕ) → length bodies ≤ decl → said_at bodies decl ≡ None
said_past [] decl le = refl
said_past (o ∷ bodies) zero le = absurd (omega (arith, le))
said_past (o ∷ bodies) (suc decl) le = said_past bodies decl (omega (arith, le))

-- behind the last declaration there is no body
pub all_sound : (cons : ConTable) (b : Bodies)
    → ((decl : ℕ) → decl < length (saids_in b) → IsTrue (is_sound_at cons b decl)) → AreSound cons b
all_sound cons b below decl = by_place (nat_lt decl (length (saids_in b))) refl where
  by_place : (there : Bool) → nat_lt decl (length (saids_in b)) ≡ there → IsTrue (is_sound_at cons b decl)
  by_place true e = below decl (ltb-true decl (length (saids_in b)) e)
  by_place false e =
      ap (is_sound_if cons (saids_in b) (params_in (known_in b decl)))
      (said_past (saids_in b) decl (ltb-false decl (length (saids_in b)) e))

passes_at : (cons : ConTable) (b : Bodies) → AreSound cons b → (decl : ℕ) (s : Said) → said_at (saids_in b) decl ≡ Some s
    → is_sound_said cons (saids_in b) (params_in (known_in b decl)) s ≡ true
passes_at cons b sound decl s there =
    sym (ap (is_sound_if cons (saids_in b) (params_in (known_in b decl))) there) ∙ sound decl

pub all_fit : (cons : ConTable) (b : Bodies) → AreSound cons b → (decl : ℕ) (s : Said) → said_at (saids_in b) decl ≡ Some s
    → Fits cons (saids_in b) s
all_fit cons b sound decl s there =
    said_fits cons (saids_in b) (params_in (known_in b decl)) s (passes_at cons b sound decl s there)

pub all_over : (cons : ConTable) (b : Bodies) → AreSound cons b → (decl : ℕ) (s : Said) → said_at (saids_in b) decl ≡ Some s
    → IsOver (uses_in (saids_in b) decl) (params_in (known_in b decl)) s
all_over cons b sound decl s there =
    said_over cons (saids_in b) (uses_in (saids_in b) decl) (params_in (known_in b decl)) s (passes_at cons b sound decl s there)
