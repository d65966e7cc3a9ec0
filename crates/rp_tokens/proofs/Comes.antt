-- How the machine comes from one place to another.
use Rattle.std.proofs.Common.{◌≡◌, false, cond, List, [], ◌∷◌, Option, Some, None, IsTrue, map, refl, ap, ◌∙◌}
use Rattle.rp_span.specs.declared.Span.{Span}
use Rattle.rp_grammar.specs.declared.terminal.Word.{Word}
use Rattle.rp_grammar.specs.declared.terminal.Symbol.{Symbol}
use Rattle.rp_grammar.specs.Terminals.{Terminal, Tok, at, Placed, on, plain}
use Rattle.rp_grammar.specs.Exprs.{goes_on, stops}
use Rattle.rp_tokens.specs.MachineStates.{is_symbol, is_word, State, stopping, Move, to}
use Rattle.rp_tokens.specs.Machine.{step, ended, Outcome, stuck, run, place}
use Rattle.rp_tokens.proofs.Tests.{next_is, next_word, cond_false, not_going_on}
use Rattle.std.specs.Prelude.{ℕ}

abbrev pub go : Tok → List Tok → Option Move → Outcome
go t ts None = stuck (t ∷ ts)
go t ts (Some (to d s)) = run s ts

abbrev pub place_on : Terminal → Span → List Tok → Option Move → List Placed
place_on x v ts None = []
place_on x v ts (Some (to d s)) = on x v d ∷ place s ts

abbrev pub plains : List Placed → List Tok
plains ms = map plain ms

-- from s at ms the machine comes to t at us, over tokens of the nestings that it finds
pub record Comes (s : State) (ms : List Placed) (t : State) (us : List Placed) : Type 0 where
  pub runs : run s (plains ms) ≡ run t (plains us)
  pub placed : place t (plains us) ≡ us → place s (plains ms) ≡ ms

pub then_comes : {r s t : State} {ls ms us : List Placed} → Comes r ls s ms → Comes s ms t us → Comes r ls t us
then_comes a b = record { runs = a.runs ∙ b.runs; placed = λ h. a.placed (b.placed h) }

pub stays : (s t : State) (us : List Placed) → s ≡ t → Comes s us t us
stays s t us e = record { runs = ap (λ s. run s (plains us)) e; placed = λ h. ap (λ s. place s (plains us)) e ∙ h }

-- one token
pub reads : (s t : State) (x : Terminal) (v : Span) (d : ℕ) (us : List Placed) → step s x v ≡ Some (to d t) → Comes s (on x v d ∷ us) t us
reads s t x v d us e = record {
  runs = ap (go (at x v) (plains us)) e;
  placed = λ h. ap (place_on x v (plains us)) e ∙ ap (λ us. on x v d ∷ us) h;
}

-- where the step is that of another state, so is all
pub same_step : (s t : State) (x : Terminal) (v : Span) (d : ℕ) (us : List Placed) → step s x v ≡ step t x v → Comes s (on x v d ∷ us) t (on x v d ∷ us)
same_step s t x v d us e = record {
  runs = ap (go (at x v) (plains us)) e;
  placed = λ h. ap (place_on x v (plains us)) e ∙ h;
}

-- without this symbol the state goes on as the other
pub no_symbol : (m : Symbol) (us : List Placed) (s t : State) (a : Terminal → Span → Option Move) → ended s ≡ ended t → next_is m us ≡ false → ((x : Terminal) (v : Span) → step s x v ≡ cond (is_symbol m x) (a x v) (step t x v)) → Comes s us t us
no_symbol m [] s t a e h f = record { runs = e; placed = λ h. refl }
no_symbol m (on x v d ∷ r) s t a e h f = same_step s t x v d r (f x v ∙ cond_false (is_symbol m x) (a x v) (step t x v) h)

-- without this word the state goes on as the other
pub no_word : (w : Word) (us : List Placed) (s t : State) (a : Terminal → Span → Option Move) → ended s ≡ ended t → next_word w us ≡ false → ((x : Terminal) (v : Span) → step s x v ≡ cond (is_word w x) (a x v) (step t x v)) → Comes s us t us
no_word w [] s t a e h f = record { runs = e; placed = λ h. refl }
no_word w (on x v d ∷ r) s t a e h f = same_step s t x v d r (f x v ∙ cond_false (is_word w x) (a x v) (step t x v) h)

pub stops_here : (s : State) (us : List Placed) → IsTrue (stops us) → Comes (stopping s) us s us
stops_here s [] h = record { runs = refl; placed = λ h. refl }
stops_here s (on x v d ∷ r) h = same_step (stopping s) s x v d r (cond_false (goes_on x) None (step s x v) (not_going_on (goes_on x) h))
