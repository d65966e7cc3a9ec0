-- Calls as definitions speak of them.
use Rattle.std.specs.Prelude.{ℕ, List, map}
use Rattle.rp_value.specs.Values.{Val}
use Rattle.rp_value.specs.ValueView.{value_view}
use Rattle.crdt_defs.specs.declared.call.CallRec.{CallRec}

pub record Call : Type 0 where
  -- the operation's number
  pub op : ℕ
  pub args : List Val
  -- the invocation and the transaction that the call belongs to
  pub inv : ℕ
  pub tx : ℕ
  pub stamp : ℕ
  -- the calls that happen before it
  pub past : List ℕ

abbrev pub call_view : CallRec → Call
call_view call = record {
  op = call.op;
  args = map value_view call.args;
  inv = call.inv;
  tx = call.tx;
  stamp = call.stamp;
  past = call.past;
}

abbrev pub calls_view : List CallRec → List Call
calls_view calls = map call_view calls
