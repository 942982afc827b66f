use Rattle.std.proofs.Common.{◌≡◌, ◌+◌, ℕ, List, refl, ap, ◌∙◌}
use Rattle.channel_keys.specs.Credentials.{cred_of}
use Rattle.authenticators.specs.Sequences.{add_to}
use Rattle.authenticators.proofs.SeedLaws.{add_to-add_to}
use Rattle.authenticators.proofs.sequence.Sequence.make.Goals as goal

pub returns-clause-sequence : goal.returns-clause-sequence
returns-clause-sequence c =
    let key : List ℕ = c.self.inside.key in
    let seed : List ℕ = c.self.inside.seed in
    let t : ℕ = c.args.timestamp in
    let moved : c.add_to-self-inside.result ≡ add_to seed (t + 1) =
    c.add_to-self-inside.ensures ∙ ap (λ z. add_to z 1) c.add_to-seed.ensures ∙ add_to-add_to seed t 1 in
    let back : c.cred.result ≡ cred_of key (add_to seed (t + 1)) = c.cred.ensures ∙ ap (cred_of key) moved in
    rw (← c.self.view_is, moved, back) refl
