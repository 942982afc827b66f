use Rattle.std.proofs.Common.{◌<◌, ℕ, length, ap, arith}
use Rattle.controller_calls.specs.Forwarded.{ForwardedState, call_without}
use Rattle.domain_controller.proofs.ForwardLaws.{one_changed}
use Rattle.domain_controller.proofs.forwarding.calls_without.Goals as goal

pub loop-entry-preserved : goal.loop-entry-preserved
loop-entry-preserved c =
    let lt : c.loop-entry.entry-index < length c.args.calls = omega (arith, ap length c.into_vec-calls.ensures) in
    let done = one_changed (λ (entry : (ℕ × ℕ) × ForwardedState). (entry.0, call_without c.args.number entry.1)) c.args.calls c.loop-entry.entry-items c.loop-entry.entry-index
    c.entry-item.result lt c.loop-entry.invariant in
    let is = c.entry-item.is in
    let without = c.forget_link.ensures in
    cc
