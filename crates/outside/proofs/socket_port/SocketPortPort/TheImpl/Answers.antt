use Rattle.std.proofs.Common.{refl, Result, Ok, Err, IfOk, ap}
use Rattle.outside.specs.Counts.{PortCounts}
use Rattle.outside.proofs.socket_port.SocketPortPort.TheImpl.Goals as goal

-- what holds of every value holds of an Ok
IfOk-all : {T E : Type 0} (result : Result T E) (P : T → Type 0) → ((x : T) → P x) → IfOk result P
IfOk-all (Ok x) P holds = holds x
IfOk-all (Err e) P holds = tt

pub dial-tells : goal.dial-tells
dial-tells g c = record {
  cause = c.ensures.cause;
  link_faults = c.ensures.link_faults;
  faults = ap PortCounts.faults c.ensures.counts;
  fresh = IfOk-all c.result _ (λ link. tt);
  told = refl;
}
