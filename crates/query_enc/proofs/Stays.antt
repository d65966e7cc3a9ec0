-- What no delete of a key on a way takes away, step by step.
use Rattle.std.proofs.Common.{◌≡◌, ℕ, suc, ◌+◌, [], ◌∷◌, sym, ap, ◌∙◌, arith}
use Rattle.std.specs.Borrow.{Bor}
use Rattle.rp_lang.specs.Programs.{Prog}
use Rattle.rp_logic.specs.declared.term.Term.{Term}
use Rattle.rp_logic.specs.Formulas.{Fms}
use Rattle.rp_logic.specs.Terms.{Var}
use Rattle.rp_logic.specs.Views.{term_view}
use Rattle.reshape.specs.Joined.{joined}
use Rattle.crdt_defs.specs.declared.asked.Winner.{Winner}
use Rattle.crdt_enc.specs.Builders.{one_fm}
use Rattle.crdt_enc.specs.QueryFormulas.{each_such, is_delete, stays, wins}
use Rattle.crdt_enc.specs.Ways.{depth}
use Rattle.query_enc.specs.declared.ways.Way.{Way}
use Rattle.query_enc.specs.declared.ways.Way.TheVariants.{Root, AtKey}
use Rattle.query_enc.specs.WayView.{way_view}
use Rattle.query_enc.proofs.Joins.{joined_none, joined_assoc}
use Rattle.query_enc.proofs.WayViews.{way_view-Root, way_view-AtKey}

pub stays-Root : (p : Prog) (view n : ℕ) (way : Way) (root : ℕ) (fs : Fms) → way ≡ Root root → fs ≡ joined fs (stays p view n (way_view way) (Var 0))
stays-Root p view n way root fs is = sym (ap (λ w. joined fs (stays p view n w (Var 0))) (ap way_view is ∙ way_view-Root root) ∙ joined_none fs)

pub stays-AtKey : (p : Prog) (view n m : ℕ) (way : Way) (winner : Winner) (key : Bor Term) (before : Bor Way) (old one kept : Fms) → way ≡ AtKey winner key before
    → one ≡ joined old (stays p view n (way_view before.now) (Var 0)) → m ≡ n + 1 → kept ≡ stays p view m (way_view before.now) (Var 0)
    → joined one (each_such p view n (way_view before.now) (is_delete (depth (way_view before.now))) (term_view key.now ∷ []) kept (one_fm (wins winner (Var 1)))) ≡ joined old (stays p view n (way_view way) (Var 0))
stays-AtKey p view n m way winner key before old one kept is first more here =
    let next : m ≡ suc n = omega (arith, more) in
    let made = λ (fs : Fms). each_such p view n (way_view before.now) (is_delete (depth (way_view before.now))) (term_view key.now ∷ []) fs (one_fm (wins winner (Var 1))) in
    ap (λ fs. joined fs (made kept)) first
    ∙ (ap (λ fs. joined (joined old (stays p view n (way_view before.now) (Var 0))) (made fs)) (here ∙ ap (λ k. stays p view k (way_view before.now) (Var 0)) next)
    ∙ (joined_assoc old (stays p view n (way_view before.now) (Var 0)) (made (stays p view (suc n) (way_view before.now) (Var 0)))
    ∙ sym (ap (λ w. joined old (stays p view n w (Var 0))) (ap way_view is ∙ way_view-AtKey winner key before))))
