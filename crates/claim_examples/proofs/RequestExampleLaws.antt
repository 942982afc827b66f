-- Requests that were written down by hand: which meet the claims on them, and which don't.
-- It serves `requests_tell_apart`.
use Rattle.std.proofs.Common.{◌≡◌, ℕ, zero, suc, Some, None, inl, inr, refl, sym, ap, subst, ◌∙◌, arith, slice_get}
use Rattle.authenticators.specs.Channels.{ChannelIdentity}
use Rattle.channel_events.specs.Marks.{Calling, Mark, Opened, Opening, Plain}
use Rattle.channel_events.specs.Requests.{IsRequest}
use Rattle.wire_base.proofs.ListLaws.{got_nothing, some_is}
use Rattle.step_notes.specs.Records.{ChannelAccepted, Sent}
use Rattle.domain_world.specs.Claims.OpeningReplies.{AnswersOpening, RepliesAreToOpenings}
use Rattle.domain_world.specs.Claims.RequestNumbers.{RequestsHaveNumbers}
use Rattle.domain_world.specs.Past.{Past, sent_at}
use Rattle.claim_examples.specs.ClaimExamples.{last_timestamp, small_name}
use Rattle.claim_examples.specs.OpeningExamples.{answered_opening}
use Rattle.claim_examples.specs.RequestExamples.{OfAnsweredCalls, OfOpeningAnswers, OfRequestNumbers, made_for, opened_for, other_name}

-- ---- numbers

-- where the two aren't requests of one number with one client's challenge
module _ (first second : Mark) (apart : (number : ℕ) (c d : ChannelIdentity) → IsRequest c number first → IsRequest d number second → c.client ≡ d.client → ⊥) where
  is_first : (one : Sent) (c : ChannelIdentity) (number : ℕ) → slice_get (made_for first second).book.sent 0 ≡ Some one → IsRequest c number one.mark → IsRequest c number first
  is_first one c number there asks = subst (λ (s : Sent). IsRequest c number s.mark) (sym (some_is (sent_at 3 first) one there)) asks

  is_second : (one : Sent) (c : ChannelIdentity) (number : ℕ) → slice_get (made_for first second).book.sent 1 ≡ Some one → IsRequest c number one.mark → IsRequest c number second
  is_second one c number there asks = subst (λ (s : Sent). IsRequest c number s.mark) (sym (some_is (sent_at 4 second) one there)) asks

  two_apart : RequestsHaveNumbers (made_for first second)
  two_apart zero zero number c d one other there also asks asks_too same = refl
  two_apart zero (suc zero) number c d one other there also asks asks_too same =
      absurd (apart number c d (is_first one c number there asks) (is_second other d number also asks_too) same)
  two_apart zero (suc (suc m)) number c d one other there also asks asks_too same = absurd (got_nothing m other also)
  two_apart (suc zero) zero number c d one other there also asks asks_too same =
      absurd (apart number d c (is_first other d number also asks_too) (is_second one c number there asks) (sym same))
  two_apart (suc zero) (suc zero) number c d one other there also asks asks_too same = refl
  two_apart (suc zero) (suc (suc m)) number c d one other there also asks asks_too same = absurd (got_nothing m other also)
  two_apart (suc (suc n)) m number c d one other there also asks asks_too same = absurd (got_nothing n one there)

-- two requests with one number refute the claim
not_one : (first second : Mark) (number : ℕ) → IsRequest small_name number first → IsRequest small_name number second → RequestsHaveNumbers (made_for first second) → ⊥
not_one first second number asks asks_too claim =
    let same : 0 ≡ 1 = claim 0 1 number small_name small_name (sent_at 3 first) (sent_at 4 second) refl refl asks asks_too refl in
    omega (arith, same)

clients_differ : small_name.client ≡ other_name.client → ⊥
clients_differ is = cc

pub of_request_numbers : OfRequestNumbers
of_request_numbers = record {
  meets = two_apart (Opening small_name 2) (Calling small_name 3 last_timestamp) (λ number c d asks asks_too same. omega (arith, asks.1, asks_too.1));
  other = two_apart (Opening small_name 2) (Opening other_name 2)
      (λ number c d asks asks_too same.
      clients_differ (ap (λ (x : ChannelIdentity). x.client) asks.0 ∙ same ∙ sym (ap (λ (x : ChannelIdentity). x.client) asks_too.0)));
  reply = two_apart (Opening small_name 2) (Opened small_name 2 0) (λ number c d asks asks_too same. asks_too);
  fails_call = not_one (Opening small_name 2) (Calling small_name 2 last_timestamp) 2 (refl, refl) (refl, refl);
  fails_openings = not_one (Opening small_name 2) (Opening small_name 2) 2 (refl, refl) (refl, refl);
  fails_calls = not_one (Calling small_name 3 0) (Calling small_name 3 last_timestamp) 3 (refl, refl) (refl, refl);
}

-- ---- calls of messages

pub of_answered_calls : OfAnsweredCalls
of_answered_calls = record {
  meets = ((λ u reply. (7, refl)), tt);
  unanswered = ((λ u reply. absurd (let none : None ≡ Some u = reply in let x = none in cc)), tt);
  fails_uncalled = λ claim. let its = claim.0 8 refl in absurd (let none : None ≡ Some its.0 = its.1 in let x = none in cc);
}

-- ---- replies to openings

one_opened : (channel : ChannelIdentity) (number request : ℕ) → Opened small_name 2 0 ≡ Opened channel number request → (small_name ≡ channel) × (2 ≡ number) × (0 ≡ request)
one_opened channel number request is = ((let x = is in cc), (let x = is in cc), (let x = is in cc))

the_answer : AnswersOpening (opened_for (Opening small_name 2) answered_opening) small_name 2 0 1 4
the_answer = record {
  sent = sent_at 3 (Opening small_name 2);
  there = refl;
  named = small_name;
  mark = refl;
  same = record { controller = refl; computer = refl; secret = refl; client = refl; server = refl; flags = refl };
  accepted = inl (record { opened = refl; call = refl; came = refl; answer = refl }, refl);
}

answer_of : (channel : ChannelIdentity) (number request : ℕ) → (small_name ≡ channel) × (2 ≡ number) × (0 ≡ request) →
    AnswersOpening (opened_for (Opening small_name 2) answered_opening) channel number request 1 4
answer_of channel number request is =
    let p : Past = opened_for (Opening small_name 2) answered_opening in
    subst (λ (c : ChannelIdentity). AnswersOpening p c number request 1 4) is.0
    (subst (λ (k : ℕ). AnswersOpening p small_name k request 1 4) is.1 (subst (λ (k : ℕ). AnswersOpening p small_name 2 k 1 4) is.2 the_answer))

first_free : (one : Sent) (channel : ChannelIdentity) (number request : ℕ) → Some (sent_at 3 (Opening small_name 2)) ≡ Some one → one.mark ≡ Opened channel number request → ⊥
first_free one channel number request there mark =
    let never : Opening small_name 2 ≡ Opened channel number request = ap (λ (s : Sent). s.mark) (some_is (sent_at 3 (Opening small_name 2)) one there) ∙ mark in
    (let x = never in cc)

second_answers : (one : Sent) (channel : ChannelIdentity) (number request : ℕ) → Some (sent_at 4 (Opened small_name 2 0)) ≡ Some one → one.mark ≡ Opened channel number request →
    AnswersOpening (opened_for (Opening small_name 2) answered_opening) channel number request 1 one.at
second_answers one channel number request there mark =
    let same : sent_at 4 (Opened small_name 2 0) ≡ one = some_is (sent_at 4 (Opened small_name 2 0)) one there in
    subst (λ (s : Sent). AnswersOpening (opened_for (Opening small_name 2) answered_opening) channel number request 1 s.at) same
    (answer_of channel number request (one_opened channel number request (ap (λ (s : Sent). s.mark) same ∙ mark)))

opened_small : RepliesAreToOpenings (opened_for (Opening small_name 2) answered_opening)
opened_small zero one channel number request there mark = absurd (first_free one channel number request there mark)
opened_small (suc zero) one channel number request there mark = second_answers one channel number request there mark
opened_small (suc (suc k)) one channel number request there mark = absurd (got_nothing k one there)

-- what the claim says of unit 0, and of the step
module _ (mark : Mark) (accepted : ChannelAccepted) (claim : RepliesAreToOpenings (opened_for mark accepted)) where
  abbrev its : AnswersOpening (opened_for mark accepted) small_name 2 0 1 4
  its = claim 1 (sent_at 4 (Opened small_name 2 0)) small_name 2 0 refl refl

  is_opening : mark ≡ Opening its.named 2
  is_opening = ap (λ (s : Sent). s.mark) (some_is (sent_at 3 mark) its.sent its.there) ∙ its.mark

  is_then : accepted.at ≡ 4
  is_then = elim its.accepted [ inl one ↦ one.1 | inr none ↦ absurd none ]

as_opened : (c d : ChannelIdentity) (number other : ℕ) → Opening c number ≡ Opening d other → (c ≡ d) × (number ≡ other)
as_opened c d number other is = ((let x = is in cc), (let x = is in cc))

pub of_opening_answers : OfOpeningAnswers
of_opening_answers = record {
  meets = opened_small;
  fails_plain = λ claim. absurd (let is : Plain ≡ Opening (its Plain answered_opening claim).named 2 = is_opening Plain answered_opening claim in let x = is in cc);
  fails_call = λ claim.
      absurd (let is : Calling small_name 2 0 ≡ Opening (its (Calling small_name 2 0) answered_opening claim).named 2 = is_opening (Calling small_name 2 0) answered_opening claim in let x = is in cc);
  fails_number = λ claim.
      absurd (omega (arith, (as_opened small_name (its (Opening small_name 3) answered_opening claim).named 3 2 (is_opening (Opening small_name 3) answered_opening claim)).1));
  fails_channel = λ claim.
      let named : other_name ≡ (its (Opening other_name 2) answered_opening claim).named =
      (as_opened other_name (its (Opening other_name 2) answered_opening claim).named 2 2 (is_opening (Opening other_name 2) answered_opening claim)).0 in
      clients_differ (sym (ap (λ (c : ChannelIdentity). c.client) named ∙ (its (Opening other_name 2) answered_opening claim).same.client));
  fails_step = λ claim. absurd (omega (arith, is_then (Opening small_name 2) (record answered_opening { at = 3 }) claim));
}
