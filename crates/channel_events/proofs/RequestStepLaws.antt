-- Each step of an end that asks is one of the events that keep calls apart.
-- It serves `requesters_keep_calls_apart`.
use Rattle.std.proofs.Common.{◌≡◌, ◌⊎◌, ℕ, ◌+◌, ◌≤◌, ◌==◌, Bool, true, false, List, [], ◌∷◌, ◌++◌, inl, inr, Option, Some, None, Ok, Err, refl, sym, ap, subst, ◌∙◌, arith}
use Rattle.std.proofs.lemmas.Bool.Decides.{Decides-eqb}
use Rattle.authenticators.specs.Channels.{ChannelIdentity}
use Rattle.channel_client.specs.Effects.{Answers, Begins, Calls, Changes, Counts, Drops, Effect, HasEffect, Moves, Opens, Stays, View, effect_begun, effect_heard, effect_judged, effect_judged_set, effect_next, effect_start, view_of}
use Rattle.channel_client.specs.Machine.{SetOutcome, ask_of, can_start, hear, judge, judge_set, lose_of, needs_challenge, set_next_of, start_of, take_of, use_secret_of}
use Rattle.channel_client.specs.State.{Requester}
use Rattle.channel_client.specs.declared.hearing.Hearing.{Hearing}
use Rattle.channel_client.specs.declared.hearing.Hearing.TheVariants as hearing
use Rattle.channel_client.specs.declared.hearing.SetHearing.TheVariants as set_hearing
use Rattle.channel_client.specs.declared.judging.Judgement.{Judgement}
use Rattle.channel_client.specs.declared.judging.Judgement.TheVariants as judgement
use Rattle.channel_client.specs.declared.state.Pending.{Pending}
use Rattle.channel_client.specs.declared.state.Standing.{Standing}
use Rattle.channel_client.specs.declared.state.Standing.TheVariants as standing
use Rattle.channel_client.specs.declared.state.Waiting.{Waiting}
use Rattle.channel_client.proofs.EffectLaws.{steps_have_effects}
use Rattle.channel_events.specs.Marks.{Calling, Opening}
use Rattle.channel_events.specs.RequestSteps.{AfterTaking, IsFreshIf, IsSeen, IsSeenAfter, RequestersKeepCallsApart, drawn_if, seen_if, with_seen}
use Rattle.channel_events.specs.Requests.{AreSeenBut, IsCalm, Requests, Steps, after_step, used_by}
use Rattle.wire_base.proofs.ListLaws.{some_is}
use Rattle.channel_events.proofs.RequestLaws.{calls_stay_apart, more_used}

-- ---- one is seen otherwise

pub cases_if : (hit : Bool) (who j : ℕ) (v w : View) (other : Option View) → (j == who) ≡ hit → seen_if hit v other ≡ Some w → ((j ≡ who) × (w ≡ v)) ⊎ (other ≡ Some w)
cases_if false who j v w other is there = inr there
cases_if true who j v w other is there = inl ((Decides-eqb j who).0 is, sym (some_is v w there))

others_are : (r : Requests ℕ) (who : ℕ) (v : View) → AreSeenBut r.views (λ j. seen_if (j == who) v (r.views j)) who v
others_are r who v j w there = cases_if (j == who) who j v w (r.views j) refl there

itself_is : (r : Requests ℕ) (who : ℕ) (v : View) → seen_if (who == who) v (r.views who) ≡ Some v
itself_is r who v = ap (λ (hit : Bool). seen_if hit v (r.views who)) ((Decides-eqb who who).1 refl)

step_of : (r : Requests ℕ) (who controller : ℕ) (effect : Effect) (s t : Requester) → IsSeen r who controller s → Changes effect (view_of controller s) (view_of controller t) → Steps r effect
step_of r who controller effect s t seen change = record {
  who = who;
  before = view_of controller s;
  after = view_of controller t;
  views = λ j. seen_if (j == who) (view_of controller t) (r.views j);
  at = seen.at;
  now = itself_is r who (view_of controller t);
  others = others_are r who (view_of controller t);
  change = change;
  few = seen.few;
}

calm_seen : (r : Requests ℕ) (who controller used : ℕ) (effect : Effect) (s t : Requester) → IsSeen r who controller s → IsCalm effect → used_by effect ≤ used →
    HasEffect controller effect s t → IsSeenAfter (with_seen who (view_of controller t) used r) who controller t
unfolding step_of
calm_seen r who controller used effect s t seen calm few has = record {
  at = itself_is r who (view_of controller t);
  coherent = has.1;
  apart = more_used (after_step r effect (λ j. seen_if (j == who) (view_of controller t) (r.views j))) (r.uses + used) (omega (arith, few))
      (calls_stay_apart.calm r effect (step_of r who controller effect s t seen has.0) calm seen.apart);
}

-- ---- a unit is taken

module _ (r : Requests ℕ) (who controller : ℕ) (s t : Requester) (seen : IsSeen r who controller s) where
  call_seen : (c : ChannelIdentity) (number timestamp : ℕ) → HasEffect controller (Calls c number) s t →
      IsSeenAfter (with_seen who (view_of controller t) 1 (record r { marks = r.marks ++ Calling c number timestamp ∷ [] })) who controller t
  unfolding step_of
  call_seen c number timestamp has = record {
    at = itself_is r who (view_of controller t);
    coherent = has.1;
    apart = calls_stay_apart.calls r c number timestamp (step_of r who controller (Calls c number) s t seen has.0) seen.apart;
  }

  open_seen : HasEffect controller Counts s t → (c : ChannelIdentity) (u : View) → r.views who ≡ Some u → u.opening ≡ Some c.client →
      IsSeenAfter (with_seen who (view_of controller t) 1 (record r { marks = r.marks ++ Opening c u.call ∷ [] })) who controller t
  unfolding step_of
  open_seen has c u there under_way =
      let same : view_of controller s ≡ u = some_is (view_of controller s) u (sym seen.at ∙ there) in
      subst (λ (x : View). IsSeenAfter (with_seen who (view_of controller t) 1 (record r { marks = r.marks ++ Opening c x.call ∷ [] })) who controller t) same
      (record {
        at = itself_is r who (view_of controller t);
        coherent = has.1;
        apart = calls_stay_apart.opens r c (step_of r who controller Counts s t seen has.0) (ap (λ (x : View). x.opening) same ∙ under_way) seen.apart;
      })

  judged_seen : (j : Judgement) (computer : List ℕ) (number : ℕ) → HasEffect controller (effect_judged controller j computer number) s t →
      AfterTaking (effect_judged controller j computer number) r who controller t
  judged_seen (judgement.Half client server) computer number has = calm_seen r who controller 1 Stays s t seen tt (omega arith) has
  judged_seen (judgement.Opened o) computer number has = calm_seen r who controller 1 (Opens _) s t seen tt (omega arith) has
  judged_seen (judgement.Answer o v) computer number has = calm_seen r who controller 1 (Answers _ number) s t seen tt (omega arith) has
  judged_seen (judgement.Drop cause) computer number has = calm_seen r who controller 1 Drops s t seen tt (omega arith) has

  judged_set_seen : (judged : SetOutcome) (computer : List ℕ) (number : ℕ) → HasEffect controller (effect_judged_set controller judged computer number) s t →
      AfterTaking (effect_judged_set controller judged computer number) r who controller t
  judged_set_seen (Ok o) computer number has = calm_seen r who controller 1 (Answers _ number) s t seen tt (omega arith) has
  judged_set_seen (Err cause) computer number has = calm_seen r who controller 1 Drops s t seen tt (omega arith) has

  next_seen : (how : Standing) (computer : List ℕ) (next : ℕ) → HasEffect controller (effect_next controller how computer next) s t →
      AfterTaking (effect_next controller how computer next) r who controller t
  next_seen standing.Nothing computer next has = (calm_seen r who controller 1 Counts s t seen tt (omega arith) has, λ c u. open_seen has c u)
  next_seen (standing.Half client server) computer next has = (calm_seen r who controller 1 Counts s t seen tt (omega arith) has, λ c u. open_seen has c u)
  next_seen (standing.Open o) computer next has = λ timestamp. call_seen _ next timestamp has

  heard_seen : (h : Hearing) → HasEffect controller (effect_heard controller h s) s t → AfterTaking (effect_heard controller h s) r who controller t
  heard_seen hearing.Skip has = calm_seen r who controller 1 Stays s t seen tt (omega arith) has
  heard_seen (hearing.Next q frames) has = next_seen s.standing s.caller.computer s.next_call has
  heard_seen (hearing.Reply q reply) has = judged_seen (judge q reply s.standing s.caller.secret) s.caller.computer _ has
  heard_seen (hearing.Drop cause) has = calm_seen r who controller 1 Drops s t seen tt (omega arith) has
  heard_seen (hearing.Set (set_hearing.Next frames)) has = next_seen s.standing s.caller.computer s.next_call has
  heard_seen (hearing.Set (set_hearing.Reply reply)) has = judged_set_seen (judge_set reply s.standing) s.caller.computer _ has

  -- ---- a turn starts

  begun_seen : (how : Standing) (computer : List ℕ) (timestamp : ℕ) (challenge : List ℕ) → IsFreshIf (needs_challenge how) challenge r.drawn →
      HasEffect controller (effect_begun controller how computer timestamp challenge) s t →
      IsSeenAfter (with_seen who (view_of controller t) 1 (record r { drawn = drawn_if (needs_challenge how) challenge r.drawn })) who controller t
  unfolding step_of
  begun_seen standing.Nothing computer timestamp challenge fresh has = record {
    at = itself_is r who (view_of controller t);
    coherent = has.1;
    apart = calls_stay_apart.begins r challenge (step_of r who controller (Begins challenge) s t seen has.0) fresh seen.apart;
  }
  begun_seen (standing.Half client server) computer timestamp challenge fresh has = calm_seen r who controller 1 Counts s t seen tt (omega arith) has
  begun_seen (standing.Open o) computer timestamp challenge fresh has = calm_seen r who controller 1 (Moves _ timestamp) s t seen tt (omega arith) has

  start_seen : (turn : Option Pending) (logons : List Waiting) (timestamp : ℕ) (challenge : List ℕ) → can_start turn logons ≡ true → IsFreshIf (needs_challenge s.standing) challenge r.drawn →
      HasEffect controller (effect_start controller turn logons s.standing s.caller.computer timestamp challenge) s t →
      IsSeenAfter (with_seen who (view_of controller t) 1 (record r { drawn = drawn_if (needs_challenge s.standing) challenge r.drawn })) who controller t
  start_seen (Some pending) logons timestamp challenge can fresh has = absurd (let x = can in cc)
  start_seen None [] timestamp challenge can fresh has = absurd (let x = can in cc)
  start_seen None (logon ∷ logons) timestamp challenge can fresh has = begun_seen s.standing s.caller.computer timestamp challenge fresh has

pub requesters_keep : RequestersKeepCallsApart
requesters_keep = record {
  ask = λ r who controller s info seen. calm_seen r who controller 0 Stays s (ask_of s info).state seen tt (omega arith) (steps_have_effects.ask controller s info seen.coherent);
  use_secret = λ r who controller s secret seen.
      calm_seen r who controller 0 Stays s (use_secret_of s secret) seen tt (omega arith) (steps_have_effects.use_secret controller s secret seen.coherent);
  set_next = λ r who controller s next seen.
      calm_seen r who controller 0 Stays s (set_next_of s next) seen tt (omega arith) (steps_have_effects.set_next controller s next seen.coherent);
  lose = λ r who controller s seen. calm_seen r who controller 0 Drops s (lose_of s).state seen tt (omega arith) (steps_have_effects.lose controller s seen.coherent);
  take = λ r who controller s unit seen.
      heard_seen r who controller s (take_of s unit).state seen (hear s.turn unit s.next_call) (steps_have_effects.take controller s unit seen.coherent);
  start = λ r who controller s timestamp challenge seen can fresh.
      start_seen r who controller s (start_of s timestamp challenge).state seen s.turn s.waiting timestamp challenge can fresh
      (steps_have_effects.start controller s timestamp challenge seen.coherent);
}
