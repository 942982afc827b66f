-- When an authenticator passes: the law of replay, at which seed it passes, and that what one end makes the other
-- passes.
use Rattle.std.proofs.Common.{◌≡◌, ℕ, ◌+◌, ◌%◌, ◌^◌, ◌↔◌, true, List, ◌∷◌, ap, ap₂, sym, ◌∙◌, arith}
use Rattle.std.proofs.lemmas.Slice.Eq.{bytes_eq-Decides}
use Rattle.wire_base.specs.declared.authenticator.Authenticator.{Authenticator}
use Rattle.channel_keys.specs.Des.{IsBlock}
use Rattle.channel_keys.specs.Credentials.{cred_of}
use Rattle.channel_keys.proofs.CredLaws.{cred_of-one_to_one}
use Rattle.authenticators.specs.Sequences.{SequenceState, add_to, seed_after, moved_by, Passes, passes, authenticator_of, judge_by, judge_of}
use Rattle.authenticators.proofs.SeedLaws.{IsBlock-add_to, add_to-add_to, add_to-same, add_to-alike, add_to-seeds, seed_after-moved_by}

-- where an authenticator passes at a seed, and timestamps, its own first, are accepted from there on, it passes again
-- exactly where these timestamps, each plus one, sum to a multiple of 2^32
pub replay : (key seed : List ℕ) (given : Authenticator) (later : List ℕ) → IsBlock seed → Passes key seed given → Passes key (seed_after seed (given.timestamp ∷ later)) given ↔ (moved_by (given.timestamp ∷ later) % 2 ^ 32 ≡ 0)
replay key seed given later h pass =
    let t : ℕ = given.timestamp in
    let n : ℕ = moved_by (t ∷ later) in
    let at : add_to (seed_after seed (t ∷ later)) t ≡ add_to seed (n + t) =
    ap (λ z. add_to z t) (seed_after-moved_by seed (t ∷ later) h) ∙ add_to-add_to seed n t in (
      λ again.
          let one : add_to seed t ≡ add_to seed (n + t) =
          cred_of-one_to_one key (add_to seed t) (add_to seed (n + t)) (IsBlock-add_to seed t h) (IsBlock-add_to seed (n + t) h)
          (sym pass ∙ again ∙ ap (cred_of key) at) in
          omega (arith, add_to-same seed t (n + t) one),
      λ whole.
          let alike : t % 2 ^ 32 ≡ (n + t) % 2 ^ 32 = omega arith in
          pass ∙ ap (cred_of key) (add_to-alike seed t (n + t) alike ∙ sym at),
    )

-- an authenticator made at a seed passes at that seed, and at no other
pub Passes-made : (key one other : List ℕ) (timestamp : ℕ) → IsBlock one → IsBlock other → Passes key other (authenticator_of key one timestamp) ↔ one ≡ other
Passes-made key one other timestamp h k = (
  λ pass.
      add_to-seeds one other timestamp h k
      (cred_of-one_to_one key (add_to one timestamp) (add_to other timestamp) (IsBlock-add_to one timestamp h) (IsBlock-add_to other timestamp k) pass),
  λ same. ap (λ seed. cred_of key (add_to seed timestamp)) same,
)

-- what is made at a key and a seed passes there
pub judge_of-made : (key seed : List ℕ) (s : SequenceState) (timestamp : ℕ) → key ≡ s.key → seed ≡ s.seed → judge_of s (authenticator_of key seed timestamp) ≡ judge_by true s (authenticator_of key seed timestamp)
judge_of-made key seed s timestamp k e =
    let alike : cred_of key (add_to seed timestamp) ≡ cred_of s.key (add_to s.seed timestamp) = ap₂ (λ k z. cred_of k (add_to z timestamp)) k e in
    let pass : passes s.key s.seed (authenticator_of key seed timestamp) ≡ true = (bytes_eq-Decides _ _).1 alike in
    ap (λ b. judge_by b s (authenticator_of key seed timestamp)) pass
