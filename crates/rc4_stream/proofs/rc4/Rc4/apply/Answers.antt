use Rattle.std.proofs.Common.{◌+◌, ℕ, List, length, take, ◌∙◌, sym, ap}
use Rattle.rc4_stream.specs.Rc4.{Stream, state_after, applied}
use Rattle.rc4_stream.specs.Steps.{combined_from, advanced}
use Rattle.rc4_stream.proofs.StepLemmas.{combined_from-is, advanced-is}
use Rattle.rc4_stream.proofs.rc4.Rc4.apply.Goals as goal

pub invariant_of-self : goal.invariant_of-self
invariant_of-self c =
    let key : List ℕ = take c.self.inside.key_length c.self.inside.key in
    let used : ℕ = c.self.inside.used in (
      c.self.invariant.0,
      c.combine.ensures.state ∙ ap (advanced (length c.args.bytes.now)) c.self.invariant.1 ∙ advanced-is key used (length c.args.bytes.now) ∙ ap (λ n. state_after key (used + n)) (sym c.combine.auto.bytes),
    )

pub returns-clause-bytes : goal.returns-clause-bytes
returns-clause-bytes c =
    let key : List ℕ = take c.self.inside.key_length c.self.inside.key in
    let used : ℕ = c.self.inside.used in
    let bytes = c.args.bytes.now in
    c.combine.ensures.bytes
    ∙ ap (λ s. combined_from s bytes) c.self.invariant.1
    ∙ combined_from-is key used bytes
    ∙ ap (λ (v : Stream). applied v.key v.used bytes) c.self.view_is
