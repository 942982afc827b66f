-- That what a verdict grants that is taken can be handed on: it can be written into a stub again, and has its ranges.
use Rattle.wire_base.specs.Numbers.{AreBytes}
use Rattle.rpc_units.specs.declared.unit.Unit.{Unit as RpcUnit}
use Rattle.rpc_units.specs.declared.unit.Body.{Body}
use Rattle.rpc_units.specs.declared.unit.Body.TheVariants.{Bind, BindAck, BindNak, Auth3, Request, Response, Fault}
use Rattle.logon_stubs.specs.Ranges.{InRangeReply, InRangeSamInfo}
use Rattle.logon_stubs.specs.Verdicts.{IfGranted}
use Rattle.logon_stubs.specs.Writing.{CanWriteReply, CanWriteSamInfo}
use Rattle.logon_stubs.specs.declared.info.SamInfo.{SamInfo}
use Rattle.channel_client.specs.Machine.{take_of}
use Rattle.channel_client.specs.State.{Requester}
use Rattle.channel_client.specs.declared.answers.Taken.{Taken}
use Rattle.channel_client.specs.declared.answers.Taken.TheVariants as taken
use Rattle.channel_client.specs.declared.hearing.Hearing.{Hearing}
use Rattle.channel_client.specs.declared.hearing.Hearing.TheVariants as hearing

-- the reply that is heard can be written, and has its ranges
abbrev pub CanWriteHeard : Hearing → Type 0
CanWriteHeard hearing.Skip = Unit {0}
CanWriteHeard (hearing.Next q frames) = Unit {0}
CanWriteHeard (hearing.Reply q r) = CanWriteReply r × InRangeReply r
CanWriteHeard (hearing.Drop cause) = Unit {0}
CanWriteHeard (hearing.Set what) = Unit {0}

-- the fact holds of what the verdict grants that is taken
abbrev pub IfTaken : Taken → (SamInfo → Type 0) → Type 0
IfTaken (taken.Skip right) Fact = Unit {0}
IfTaken (taken.Next right frames) Fact = Unit {0}
IfTaken taken.Half Fact = Unit {0}
IfTaken taken.Opened Fact = Unit {0}
IfTaken (taken.Answer place verdict) Fact = IfGranted verdict Fact
IfTaken (taken.Dropped place cause) Fact = Unit {0}
IfTaken taken.Set Fact = Unit {0}

-- the stub of a response is bytes
abbrev pub HasBytes : Body → Type 0
HasBytes (Response hint context stub) = AreBytes stub
HasBytes (Request hint context opnum stub) = Unit {0}
HasBytes (Fault hint context status) = Unit {0}
HasBytes (Bind send receive group contexts) = Unit {0}
HasBytes (BindAck send receive group results) = Unit {0}
HasBytes (BindNak reason) = Unit {0}
HasBytes Auth3 = Unit {0}

-- for every state, and for every unit whose stub is bytes where it is a response
pub record GrantsAreWritable : Type 0 where
  pub writes : (s : Requester) (unit : RpcUnit) → HasBytes unit.body → IfTaken (take_of s unit).taken CanWriteSamInfo
  pub range : (s : Requester) (unit : RpcUnit) → HasBytes unit.body → IfTaken (take_of s unit).taken InRangeSamInfo
