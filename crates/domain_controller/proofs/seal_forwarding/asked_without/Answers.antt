use Rattle.std.proofs.Common.{◌<◌, ℕ, length, ap, arith}
use Rattle.domain_controller.specs.Sealing.{entry_without}
use Rattle.domain_controller.specs.declared.sealed.SealedCall.{SealedCall}
use Rattle.domain_controller.proofs.ForwardLaws.{one_changed}
use Rattle.domain_controller.proofs.seal_forwarding.asked_without.Goals as goal

pub loop-entry-preserved : goal.loop-entry-preserved
loop-entry-preserved c =
    let lt : c.loop-entry.entry-index < length c.args.asked = omega (arith, ap length c.into_vec-asked.ensures) in
    let done = one_changed (λ (entry : (ℕ × ℕ) × SealedCall). entry_without c.args.number entry) c.args.asked c.loop-entry.entry-items c.loop-entry.entry-index
    c.entry-item.result lt c.loop-entry.invariant in
    let is = c.entry-item.is in
    let without = c.forget_link.ensures in
    cc
