use Rattle.std.proofs.Common.{◌≡◌, ◌+◌, Bool, true, false, not, Ok, refl, ap, sym, ◌∙◌}
use Rattle.std.specs.Str.{bytes_eq}
use Rattle.channel_keys.specs.Credentials.{cred_of}
use Rattle.authenticators.specs.Sequences.{SequenceState, add_to, passes, judge_by}
use Rattle.authenticators.proofs.SeedLaws.{add_to-add_to}
use Rattle.authenticators.proofs.sequence.Sequence.judge.Goals as goal

-- two lists of bytes that were not found to differ
not_differ : (b : Bool) → not b ≡ false → b ≡ true
not_differ true h = refl
not_differ false h = cc

-- the sequence as it was
before : goal.After-cred → SequenceState
before c = record { key = c.self.inside.key; seed = c.self.inside.seed; awaited = c.self.inside.awaited }

-- the authenticator passed
it_passes : (c : goal.After-cred) → passes c.self.inside.key c.self.inside.seed c.args.given.now ≡ true
it_passes c =
    let same : bytes_eq c.args.given.now.credential c.cred-awaited.result ≡ true = not_differ _ (sym c.ne.ensures ∙ c.if-ne.false) in
    let at : c.cred-awaited.result ≡ cred_of c.self.inside.key (add_to c.self.inside.seed c.args.given.now.timestamp) =
    c.cred-awaited.ensures ∙ ap (cred_of c.self.inside.key) c.add_to-seed.ensures in
    ap (bytes_eq c.args.given.now.credential) (sym at) ∙ same

seed_then : (c : goal.After-cred) → c.add_to-after.result ≡ add_to c.self.inside.seed (c.args.given.now.timestamp + 1)
seed_then c =
    c.add_to-after.ensures ∙ ap (λ z. add_to z 1) c.add_to-seed.ensures ∙ add_to-add_to c.self.inside.seed c.args.given.now.timestamp 1

pub returns-clause-answer : goal.returns-clause-answer
unfolding before
returns-clause-answer c =
    let back : c.cred.result ≡ cred_of c.self.inside.key (add_to c.self.inside.seed (c.args.given.now.timestamp + 1)) =
    c.cred.ensures ∙ ap (cred_of c.self.inside.key) (seed_then c) in
    rw (← c.self.view_is) (ap Ok back ∙ ap (λ b. (judge_by b (before c) c.args.given.now).answer) (sym (it_passes c)))

pub returns-clause-sequence : goal.returns-clause-sequence
unfolding before
returns-clause-sequence c =
    rw (← c.self.view_is, seed_then c) (ap (λ b. (judge_by b (before c) c.args.given.now).sequence) (sym (it_passes c)))
