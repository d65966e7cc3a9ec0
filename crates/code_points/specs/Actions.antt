-- The next action at a spot.
use Rattle.std.specs.Prelude.{Option, Some, None}
use Rattle.rp_lang.specs.Stmts as st
use Rattle.rp_lang.specs.Stmts.{St}
use Rattle.event_machine.specs.States.{Action, ToBegin, ToOp, ToLocal, ToNew, ToCommit, ToReturn}
use Rattle.code_points.specs.Points.{Spot, Before, Closing}

abbrev pub st_action : St → Action
st_action (st.Put at slot e) = ToLocal
st_action (st.Decide at slot f) = ToLocal
st_action (st.New at slot ty) = ToNew
st_action (st.Operate at op args) = ToOp
st_action (st.If at f then_ else_) = ToLocal
st_action (st.Match at on arms) = ToLocal
st_action (st.Atomic at body) = ToBegin
st_action (st.Assert at f) = ToLocal
st_action (st.Return at) = ToReturn
st_action (st.ReturnWith at e) = ToReturn

-- behind the last statement the procedure returns
abbrev pub spot_action : Option Spot → Action
spot_action None = ToReturn
spot_action (Some (Before at s)) = st_action s
spot_action (Some (Closing at block)) = ToCommit
