use Rattle.std.proofs.Common.{◌≡◌, ◌+◌, ◌-◌, ℕ, List, [], ◌∷◌, ◌++◌, refl, ap, sym, ◌∙◌, arith}
use Rattle.outside.specs.Counter.{challenge_of, challenges_from, most_draws}
use Rattle.outside.proofs.CounterLaws.{challenge_of-key, challenge_of-boots, length-challenges_from, challenges_from-none, challenges_from-push, challenges_from-next, challenges_from-distinct}
use Rattle.outside.proofs.counter_chances.CounterChancesChances.next.Goals as goal

-- ---- at the end

pub returns-then-self-clause-spent : goal.returns-then-self-clause-spent
returns-then-self-clause-spent c =
    let count : ℕ = c.self.inside.count in
    let end : most_draws - count ≡ 0 = omega arith in
    rw (← c.self.view_is) (ap (challenges_from c.self.inside.seed c.self.inside.boot count) end ∙ challenges_from-none c.self.inside.seed c.self.inside.boot count)

pub returns-then-self-clause-at_the_end : goal.returns-then-self-clause-at_the_end
returns-then-self-clause-at_the_end c =
    rw (← c.self.view_is) (λ _. length-challenges_from c.self.inside.seed c.self.inside.boot 0 c.self.inside.count ∙ c.if-self.true, λ _. refl)

pub returns-then-self-clause-distinct : goal.returns-then-self-clause-distinct
returns-then-self-clause-distinct c =
    rw (← c.self.view_is) (challenges_from-distinct c.self.inside.seed c.self.inside.boot c.self.inside.count (omega arith) (omega arith))

-- ---- a draw

pub returns-clause-drawn : goal.returns-clause-drawn
returns-clause-drawn c =
    let drawn_is : c.challenge-challenge.result ≡ challenge_of c.self.inside.seed c.self.inside.boot c.self.inside.count =
    challenge_of-key c.self.inside.seed c.self.inside.boot c.self.inside.count c.self.inside.key c.challenge-challenge.result c.self.invariant c.challenge-challenge.ensures in
    let seed : List ℕ = c.self.inside.seed in
    let boot : ℕ = c.self.inside.boot in
    let count : ℕ = c.self.inside.count in
    let fewer : most_draws - count - 1 ≡ most_draws - (count + 1) = omega arith in
    let place : 0 + count ≡ count = omega arith in
    rw (← c.self.view_is) record {
      next =
          challenges_from-next seed boot count (most_draws - count) (omega arith)
          ∙ ap (λ n. challenge_of seed boot count ∷ challenges_from seed boot (count + 1) n) fewer
          ∙ ap (λ z. z ∷ challenges_from seed boot (count + 1) (most_draws - (count + 1))) (sym drawn_is);
      drawn =
          challenges_from-push seed boot 0 count
          ∙ ap (λ n. challenges_from seed boot 0 count ++ challenge_of seed boot n ∷ []) place
          ∙ ap (λ z. challenges_from seed boot 0 count ++ z ∷ []) (sym drawn_is);
      seed = refl;
      boot = refl;
    }

pub returns-clause-value : goal.returns-clause-value
returns-clause-value c =
    let drawn_is : c.challenge-challenge.result ≡ challenge_of c.self.inside.seed c.self.inside.boot c.self.inside.count =
    challenge_of-key c.self.inside.seed c.self.inside.boot c.self.inside.count c.self.inside.key c.challenge-challenge.result c.self.invariant c.challenge-challenge.ensures in
    rw (← c.self.view_is) (drawn_is ∙ ap (challenge_of c.self.inside.seed c.self.inside.boot) (sym (length-challenges_from c.self.inside.seed c.self.inside.boot 0 c.self.inside.count)))

pub returns-clause-at_the_end : goal.returns-clause-at_the_end
returns-clause-at_the_end c =
    rw (← c.self.view_is) (λ no. cc, λ end. absurd (c.if-self.false (sym (length-challenges_from c.self.inside.seed c.self.inside.boot 0 c.self.inside.count) ∙ end)))

pub returns-clause-distinct : goal.returns-clause-distinct
returns-clause-distinct c =
    challenges_from-distinct c.self.inside.seed c.self.inside.boot (c.self.inside.count + 1) (omega arith) (omega arith)

pub returns-clause-apart : goal.returns-clause-apart
returns-clause-apart c =
    let drawn_is : c.challenge-challenge.result ≡ challenge_of c.self.inside.seed c.self.inside.boot c.self.inside.count =
    challenge_of-key c.self.inside.seed c.self.inside.boot c.self.inside.count c.self.inside.key c.challenge-challenge.result c.self.invariant c.challenge-challenge.ensures in
    rw (← c.self.view_is) (λ boot count below within other same. challenge_of-boots c.self.inside.seed c.self.inside.boot boot c.self.inside.count count (omega arith) below (omega arith) within other (sym drawn_is ∙ same))
