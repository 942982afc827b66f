-- What waits for its turn at a member is what is asked for the logons that it keeps, through its steps; and a member
-- with one secret asks by that.
-- It serves `calls_carry_their_logon`, `requests_come_first`.
use Rattle.std.proofs.Common.{◌≡◌, ◌≢◌, ℕ, Bool, true, false, List, [], ◌∷◌, ◌++◌, map, Option, Some, None, is_some, Result, Ok, Err, refl, sym, ap, subst, ◌∙◌, nat_le, length, if◌then◌else◌, IsSome}
use Rattle.std.specs.List.{AllByRecursion}
use Rattle.std.proofs.lemmas.Bool.{eqb-true}
use Rattle.wire_base.specs.Maps.{put, take_out, same_number}
use Rattle.wire_base.proofs.NameLaws.{IsSameness-same_number}
use Rattle.outside.specs.declared.action.CloseCause.TheVariants as close
use Rattle.outside.specs.declared.action.DropCause.{DropCause}
use Rattle.outside.specs.declared.action.DropCause.TheVariants as drop_cause
use Rattle.outside.specs.declared.event.Event.{Event}
use Rattle.authenticators.specs.SecureChannels.{SecureChannelState}
use Rattle.ntlm_messages.specs.declared.messages.Authenticate.{Authenticate}
use Rattle.rpc_units.specs.declared.refused.UnitRefused.{UnitRefused}
use Rattle.rpc_units.specs.declared.unit.Unit.{Unit as RpcUnit}
use Rattle.rpc_units.specs.Stream.{cut_stream}
use Rattle.logon_stubs.specs.declared.info.NetworkInfo.{NetworkInfo}
use Rattle.end_links.specs.Serving.{ServedPart}
use Rattle.channel_client.specs.declared.answers.AskRefused.TheVariants as ask_refused
use Rattle.channel_client.specs.declared.caller.Caller.{Caller}
use Rattle.channel_client.specs.declared.hearing.Hearing.{Hearing}
use Rattle.channel_client.specs.declared.hearing.Hearing.TheVariants as hearing
use Rattle.channel_client.specs.declared.judging.Judgement.{Judgement}
use Rattle.channel_client.specs.declared.judging.Judgement.TheVariants as judgement
use Rattle.channel_client.specs.declared.state.Pending.{Pending}
use Rattle.channel_client.specs.declared.state.Standing.{Standing}
use Rattle.channel_client.specs.declared.state.Standing.TheVariants as standing
use Rattle.channel_client.specs.declared.state.Question.{Question}
use Rattle.channel_client.specs.declared.state.Question.TheVariants as question
use Rattle.channel_client.specs.declared.state.Step.{Step}
use Rattle.channel_client.specs.declared.state.Step.TheVariants as step
use Rattle.channel_client.specs.declared.state.SetStep.{SetStep}
use Rattle.channel_client.specs.declared.state.SetStep.TheVariants as set_step
use Rattle.channel_client.specs.declared.hearing.SetHearing.TheVariants as set_hearing
use Rattle.channel_client.specs.declared.state.Waiting.{Waiting}
use Rattle.channel_client.specs.Effects.{ArePlacesApart, IsCoherent, IsForFirst, MatchesQuestion, MatchesStep, step_in}
use Rattle.channel_client.specs.Machine.{SetOutcome, act, ask_by as ask_channel, begin_with, can_start, hear, judge, judge_set, later_logons, lose_of, place_of, needs_challenge, remove_first, settle, settle_set, start_by, take_of, waiting_limit}
use Rattle.channel_client.specs.NoNext.{HasNoNext, sets_in, sets_in_turn}
use Rattle.channel_client.specs.State.{Requester}
use Rattle.channel_client.proofs.EffectLaws.{HeardFits, heard_fits, steps_have_effects}
use Rattle.channel_client.proofs.NoNextLaws.{sets_nothing}
use Rattle.channel_client.proofs.TurnLaws.{one_turn}
use Rattle.member_server.specs.declared.outcomes.Ending.{Ending}
use Rattle.member_server.specs.declared.outcomes.Ending.TheVariants as ending
use Rattle.member_server.specs.declared.plan.MemberPlan.{MemberPlan}
use Rattle.member_server.specs.declared.state.Logon.{Logon}
use Rattle.member_server.specs.declared.state.Logons.{Logons}
use Rattle.channel_turns.specs.declared.state.TurnTalk.{TurnTalk}
use Rattle.member_server.specs.declared.state.Work.{Work}
use Rattle.member_server.specs.Laws.{is_dialled}
use Rattle.member_server.specs.Machine.{caller_of, fresh_member, step_of, running_with}
use Rattle.member_server.specs.Messages.{info_of, with_channel, with_logon}
use Rattle.member_server.specs.Outcomes.{end_logon, without_link}
use Rattle.member_server.specs.Secrets.{SecretsState, next_of, secret_for, secrets_after, secrets_dropped, is_denied, tried_of}
use Rattle.secret_change.specs.Secrets.{confirmed_by, denied_by, opened_by, tried_of_next, alone, begin_by}
use Rattle.secret_change.specs.declared.secrets.Next.{Next}
use Rattle.channel_turns.specs.declared.state.TurnEnd.{TurnEnd}
use Rattle.channel_turns.specs.declared.state.TurnEnd.TheVariants as turn_end
use Rattle.member_server.specs.State.{State as MemberState}
use Rattle.member_server.specs.Turns.{AtTurn, TurnServed, do_taken, end_turn, keep_ended, lose_turn, tell_turn_closed, timestamp_of, turn_unit, with_requester, with_secrets, with_work}
use Rattle.step_notes.specs.CallLogons.{AsksByOne, AsksByOneUnlessStopped, AsksForKept, AsksUnlessStopped, HasSecret, IsNamedBy, IsOfCaller, IsStampedSetStep, IsStampedStep, OpensByTried, waiting_for}
use Rattle.step_notes.proofs.Channels.ChannelNameLaws.{Fits, SetFits, fits, set_fits}
use Rattle.step_notes.proofs.Channels.EffectNoteLaws.{AsksFirst, judged_first}
use Rattle.member_server.proofs.LogonFrame.{KeepsLogons, logons_keep}
use Rattle.member_server.proofs.StepFrame.{KeepsEvent, KeepsNext, TakesTurn, TurnHolds, WorkFact, dialled_keeps, each_taken, given_channel, lost_dialled, part_keeps, step_keeps, turn_ended, turn_keeps}
use Rattle.step_notes.proofs.Members.SameLogonLaws.{logon_ended}
use Rattle.std.specs.Option.{option_map}
use Rattle.member_server.specs.declared.state.Running.{Running}

-- ---- the channel's own steps

asked_own : (full : Bool) (s : Requester) (info : NetworkInfo) → IsOfCaller s → IsOfCaller (ask_channel full s info).state
asked_own true s info own = own
asked_own false s info own = record { secret = own.secret; stamped = own.stamped; set = own.set }

begun_own : (how : Standing) (next : Option (List ℕ)) (caller : Caller) (info : NetworkInfo) (timestamp : ℕ) (challenge : List ℕ) → HasSecret caller.secret how →
    HasSecret caller.secret (begin_with how next caller info timestamp challenge).standing
    × IsStampedStep caller (begin_with how next caller info timestamp challenge).standing (Some (begin_with how next caller info timestamp challenge).step)
    × IsStampedSetStep caller (begin_with how next caller info timestamp challenge).standing next (Some (begin_with how next caller info timestamp challenge).step)
begun_own standing.Nothing next caller info timestamp challenge secret = (tt, tt, tt)
begun_own (standing.Half client server) next caller info timestamp challenge secret = (tt, tt, tt)
begun_own (standing.Open o) None caller info timestamp challenge secret = (secret, record { earlier = o; timestamp = timestamp; stands = refl; is = refl }, tt)
begun_own (standing.Open o) (Some next) caller info timestamp challenge secret =
    (secret, tt, record { earlier = o; timestamp = timestamp; secret = next; is_next = refl; stands = refl; is = refl })

-- a turn that starts has its call stamped, whatever was out before it
started_own : (turn : Option Pending) (logons : List Waiting) (s : Requester) (timestamp : ℕ) (challenge : List ℕ) → can_start turn logons ≡ true → HasSecret s.caller.secret s.standing →
    IsOfCaller (start_by turn logons s timestamp challenge).state
started_own (Some p) logons s timestamp challenge can secret = absurd (let x = can in cc)
started_own None [] s timestamp challenge can secret = absurd (let x = can in cc)
started_own None (logon ∷ logons) s timestamp challenge can secret =
    let begun = begun_own s.standing s.next s.caller logon.info timestamp challenge secret in record { secret = begun.0; stamped = begun.1; set = begun.2 }

started_caller : (turn : Option Pending) (logons : List Waiting) (s : Requester) (timestamp : ℕ) (challenge : List ℕ) → (start_by turn logons s timestamp challenge).state.caller ≡ s.caller
started_caller (Some p) logons s timestamp challenge = refl
started_caller None [] s timestamp challenge = refl
started_caller None (logon ∷ logons) s timestamp challenge = refl

-- a turn that starts leaves the next secret
started_next : (turn : Option Pending) (logons : List Waiting) (s : Requester) (timestamp : ℕ) (challenge : List ℕ) → (start_by turn logons s timestamp challenge).state.next ≡ s.next
started_next (Some p) logons s timestamp challenge = refl
started_next None [] s timestamp challenge = refl
started_next None (logon ∷ logons) s timestamp challenge = refl

-- a turn that sets a secret has one to set
begun_some : (how : Standing) (next : Option (List ℕ)) (caller : Caller) (info : NetworkInfo) (timestamp : ℕ) (challenge : List ℕ) →
    sets_in (begin_with how next caller info timestamp challenge).step ≡ true → IsSome next
begun_some standing.Nothing next caller info timestamp challenge sets = absurd (let x = sets in cc)
begun_some (standing.Half client server) next caller info timestamp challenge sets = absurd (let x = sets in cc)
begun_some (standing.Open o) None caller info timestamp challenge sets = absurd (let x = sets in cc)
begun_some (standing.Open o) (Some next) caller info timestamp challenge sets = refl

started_some : (turn : Option Pending) (logons : List Waiting) (s : Requester) (timestamp : ℕ) (challenge : List ℕ) → can_start turn logons ≡ true →
    sets_in_turn (start_by turn logons s timestamp challenge).state.turn ≡ true → IsSome s.next
started_some (Some p) logons s timestamp challenge can sets = absurd (let x = can in cc)
started_some None [] s timestamp challenge can sets = absurd (let x = can in cc)
started_some None (logon ∷ logons) s timestamp challenge can sets = begun_some s.standing s.next s.caller logon.info timestamp challenge sets

-- a turn that starts leaves what waits
started_waits : (turn : Option Pending) (logons : List Waiting) (s : Requester) (timestamp : ℕ) (challenge : List ℕ) → (start_by turn logons s timestamp challenge).state.waiting ≡ s.waiting
started_waits (Some p) logons s timestamp challenge = refl
started_waits None [] s timestamp challenge = refl
started_waits None (logon ∷ logons) s timestamp challenge = refl

settled_own : (j : Judgement) (s : Requester) → Fits j s.standing s.caller.secret → IsOfCaller s → IsOfCaller (settle j s).state
settled_own (judgement.Half client server) s fit own = record { secret = tt; stamped = tt; set = tt }
settled_own (judgement.Opened o) s fit own = record { secret = ap (λ (x : SecureChannelState). x.secret) fit.3; stamped = tt; set = tt }
settled_own (judgement.Answer o v) s fit own =
    record { secret = ap (λ (x : SecureChannelState). x.secret) fit.2 ∙ subst (λ (how : Standing). HasSecret s.caller.secret how) fit.1 own.secret; stamped = tt; set = tt }
settled_own (judgement.Drop cause) s fit own = record { secret = tt; stamped = tt; set = tt }

set_settled_own : (o : SecureChannelState) (s : Requester) → SetFits (Ok o) s.standing → IsOfCaller s → IsOfCaller (settle_set (Ok o) s).state
set_settled_own o s fit own =
    record { secret = ap (λ (x : SecureChannelState). x.secret) fit.2 ∙ subst (λ (how : Standing). HasSecret s.caller.secret how) fit.1 own.secret; stamped = tt; set = tt }

-- ---- the secret of who asks

-- the first of the two turns that open a channel comes where there is none
half_tried : (how : Standing) (q : Question) (client secret tried : List ℕ) → MatchesQuestion how q → q ≡ question.Challenge client → OpensByTried how true secret tried → secret ≡ tried
half_tried standing.Nothing q client secret tried m is opens = opens
half_tried (standing.Half one other) q client secret tried m is opens = opens
half_tried (standing.Open o) q client secret tried m is opens = absurd (subst (λ (x : Question). MatchesQuestion (standing.Open o) x) is m)

-- the channel is given the secret that is tried where it is none
given_secret : (how : Standing) (tried secret : List ℕ) → HasSecret secret how → HasSecret (secret_for (needs_challenge how) tried secret) how
given_secret standing.Nothing tried secret has = tt
given_secret (standing.Half client server) tried secret has = tt
given_secret (standing.Open o) tried secret has = has

given_tried : (out : Bool) (how : Standing) (next : Option (List ℕ)) (caller : Caller) (info : NetworkInfo) (timestamp : ℕ) (challenge tried secret : List ℕ) → OpensByTried how out secret tried →
    OpensByTried (begin_with how next caller info timestamp challenge).standing true (secret_for (needs_challenge how) tried secret) tried
given_tried out standing.Nothing next caller info timestamp challenge tried secret opens = refl
given_tried out (standing.Half client server) next caller info timestamp challenge tried secret opens = opens
given_tried out (standing.Open o) None caller info timestamp challenge tried secret opens = tt
given_tried out (standing.Open o) (Some next) caller info timestamp challenge tried secret opens = tt

started_tried : (turn : Option Pending) (logons : List Waiting) (s : Requester) (out : Bool) (timestamp : ℕ) (challenge tried secret : List ℕ) → can_start turn logons ≡ true →
    OpensByTried s.standing out secret tried →
    OpensByTried (start_by turn logons s timestamp challenge).state.standing true (secret_for (needs_challenge s.standing) tried secret) tried
started_tried (Some p) logons s out timestamp challenge tried secret can opens = absurd (let x = can in cc)
started_tried None [] s out timestamp challenge tried secret can opens = absurd (let x = can in cc)
started_tried None (logon ∷ logons) s out timestamp challenge tried secret can opens =
    given_tried out s.standing s.next s.caller logon.info timestamp challenge tried secret opens

-- a turn that sets a secret is out
abbrev pub sets_step : Option Step → Bool
sets_step None = false
sets_step (Some st) = sets_in st

sets_by : (turn : Option Pending) → sets_in_turn turn ≡ sets_step (step_in turn)
sets_by None = refl
sets_by (Some p) = refl

pub setting : (turn : Option Pending) (st : SetStep) → step_in turn ≡ Some (step.Set st) → sets_in_turn turn ≡ true
setting turn st is = sets_by turn ∙ ap sets_step is

never : {T : Type 0} → false ≡ true → T
never is = absurd (let x = is in cc)

-- ---- what is kept, by the places

abbrev pub IsAbsent : ℕ → List Waiting → Type 0
IsAbsent k logons = AllByRecursion (λ (w : Waiting). w.place ≢ k) logons

last_apart : (place : ℕ) (logons : List Waiting) (last : Waiting) → AllByRecursion (λ (later : Waiting). place ≢ later.place) (logons ++ last ∷ []) → place ≢ last.place
last_apart place [] last all = all.0
last_apart place (logon ∷ logons) last all = last_apart place logons last all.1

absent : (logons : List Waiting) (last : Waiting) → ArePlacesApart (logons ++ last ∷ []) → IsAbsent last.place logons
absent [] last apart = tt
absent (logon ∷ logons) last apart = (last_apart logon.place logons last apart.0, absent logons last apart.1)

put_if : (hit : Bool) (k : ℕ) (logon : Logon) (entry : ℕ × Logon) (entries rest : List (ℕ × Logon)) → same_number k entry.0 ≡ hit → entry.0 ≢ k →
    map waiting_for rest ≡ map waiting_for entries ++ waiting_for (k, logon) ∷ [] →
    map waiting_for (if hit then (k, logon) ∷ entries else entry ∷ rest) ≡ waiting_for entry ∷ (map waiting_for entries ++ waiting_for (k, logon) ∷ [])
put_if true k logon entry entries rest is differs later = absurd (differs (sym (eqb-true k entry.0 is)))
put_if false k logon entry entries rest is differs later = ap (λ (waiting : List Waiting). waiting_for entry ∷ waiting) later

put_waits : (k : ℕ) (logon : Logon) (entries : List (ℕ × Logon)) → IsAbsent k (map waiting_for entries) →
    map waiting_for (put same_number k logon entries) ≡ map waiting_for entries ++ waiting_for (k, logon) ∷ []
put_waits k logon [] away = refl
put_waits k logon (entry ∷ entries) away =
    put_if (same_number k entry.0) k logon entry entries (put same_number k logon entries) refl away.0 (put_waits k logon entries away.1)

out_if : (hit : Bool) (entry : ℕ × Logon) (entries rest : List (ℕ × Logon)) (later : List Waiting) → hit ≡ true → map waiting_for entries ≡ later →
    map waiting_for (if hit then entries else entry ∷ rest) ≡ later
out_if true entry entries rest later hits is = is
out_if false entry entries rest later hits is = absurd (let x = hits in cc)

out_waits : (k : ℕ) (entries : List (ℕ × Logon)) (first : Waiting) (later : List Waiting) → map waiting_for entries ≡ first ∷ later → first.place ≡ k →
    map waiting_for (take_out same_number k entries) ≡ later
out_waits k [] first later is named = absurd (let x = is in cc)
out_waits k (entry ∷ entries) first later is named =
    let here : waiting_for entry ≡ first = (let x = is in cc) in
    let others : map waiting_for entries ≡ later = (let x = is in cc) in
    out_if (same_number k entry.0) entry entries (take_out same_number k entries) later
    (ap (λ (n : ℕ). same_number k n) (ap (λ (w : Waiting). w.place) here ∙ named) ∙ IsSameness-same_number.reflexive k) others

-- the turn is for the first logon that waits
abbrev pub HasFirst : Option Pending → List Waiting → Type 0
HasFirst turn logons = (first : Waiting) × (logons ≡ first ∷ later_logons logons) × (first.place ≡ place_of turn)

first_is : (turn : Option Pending) (logons : List Waiting) → is_some turn ≡ true → IsForFirst turn logons → HasFirst turn logons
first_is None logons out first = absurd (let x = out in cc)
first_is (Some p) [] out first = absurd first
first_is (Some p) (logon ∷ logons) out first = (logon, refl, sym first.0)

-- the logon of the turn waits no more, and is kept no more; the channel is open, or none, and the secrets are whichever
ended : (how : Standing) (secrets : SecretsState) (place : ℕ) (l : Logons) → place ≡ place_of l.channel.turn → AsksForKept true l →
    OpensByTried how false l.channel.caller.secret (tried_of secrets) → IsCoherent (remove_first how l.channel) → IsOfCaller (remove_first how l.channel) →
    AsksForKept false (with_secrets secrets (record l { channel = remove_first how l.channel; asked = take_out same_number place l.asked }))
ended how secrets place l is kept tried coherent own =
    let first : HasFirst l.channel.turn l.channel.waiting = first_is l.channel.turn l.channel.waiting kept.out kept.coherent.first in
    record {
      caller = kept.caller;
      tried = tried;
      sets = λ sets. never sets;
      coherent = coherent;
      waits = sym (out_waits place l.asked first.0 (later_logons l.channel.waiting) (sym kept.waits ∙ first.1) (first.2 ∙ sym is));
      out = refl;
      own = own;
    }

-- ---- a logon is asked

module _ (dialled : Bool) where
  asked_kept : (full : Bool) (l : Logons) (message : Authenticate) (agreed : ℕ) (challenge : List ℕ) (link place : ℕ) →
      (ask_channel full l.channel (info_of message agreed challenge)).answer ≡ Ok place → AsksForKept dialled l → IsCoherent (ask_channel full l.channel (info_of message agreed challenge)).state →
      AsksForKept dialled
      (with_logon (with_channel l (ask_channel full l.channel (info_of message agreed challenge)).state) place
      (record { link = link; challenge = challenge; message = message; agreed = agreed }))
  asked_kept true l message agreed challenge link place answers kept coherent = absurd (let x = answers in cc)
  asked_kept false l message agreed challenge link place answers kept coherent =
      let next : ℕ = l.channel.next_place in
      let same : next ≡ place = (let x = answers in cc) in
      let logon : Logon = record { link = link; challenge = challenge; message = message; agreed = agreed } in
      let away : IsAbsent next (map waiting_for l.asked) =
      subst (λ (waiting : List Waiting). IsAbsent next waiting) kept.waits
      (absent l.channel.waiting (waiting_for (next, logon)) (steps_have_effects.places (ask_channel false l.channel (info_of message agreed challenge)).state coherent)) in
      record {
        caller = kept.caller;
        tried = kept.tried;
        sets = kept.sets;
        coherent = coherent;
        waits = ap (λ (waiting : List Waiting). waiting ++ waiting_for (next, logon) ∷ []) kept.waits
            ∙ sym (put_waits next logon l.asked away)
            ∙ ap (λ (n : ℕ). map waiting_for (put same_number n logon l.asked)) same;
        out = kept.out;
        own = asked_own false l.channel (info_of message agreed challenge) kept.own;
      }

  full_kept : (full : Bool) (l : Logons) (info : NetworkInfo) → (ask_channel full l.channel info).answer ≡ Err ask_refused.QueueFull → AsksForKept dialled l →
      AsksForKept dialled (with_channel l (ask_channel full l.channel info).state)
  full_kept true l info answers kept = kept
  full_kept false l info answers kept = absurd (let x = answers in cc)

  kept_logons : KeepsLogons (AsksForKept dialled)
  kept_logons = record {
    asks = λ l place logon answers kept.
        asked_kept (nat_le waiting_limit (length l.channel.waiting)) l logon.message logon.agreed logon.challenge logon.link place answers kept
        (steps_have_effects.ask 0 l.channel (info_of logon.message logon.agreed logon.challenge) kept.coherent).1;
    full = λ l info answers kept. full_kept (nat_le waiting_limit (length l.channel.waiting)) l info answers kept;
  }

-- ---- an outcome leaves the logons, but for the one that ends

-- a member asks for what it keeps where the logon that waited first ends, with the channel as `stands` and these
-- secrets
end_asks : (stands : Standing) (secrets : SecretsState) (place : ℕ) (how : Ending) (l : Logons) (w : Work) → w.logons ≡ with_secrets secrets (with_channel l (remove_first stands l.channel)) →
    place ≡ place_of l.channel.turn → AsksForKept true l → OpensByTried stands false l.channel.caller.secret (tried_of secrets) → IsCoherent (remove_first stands l.channel) →
    IsOfCaller (remove_first stands l.channel) → AsksForKept false (end_logon place how w).logons
end_asks stands secrets place how l w same is kept tried coherent own =
    subst (λ (x : Logons). AsksForKept false x) (sym (logon_ended place how w).logons)
    (subst (λ (x : Logons). AsksForKept false (record x { asked = take_out same_number place x.asked })) (sym same) (ended stands secrets place l is kept tried coherent own))

-- ---- the turn

lost_asks : (cause : DropCause) (w : Work) → AsksForKept true w.logons → AsksForKept false (lose_turn cause w).logons
lost_asks cause w kept =
    let lost : TurnEnd = turn_end.Dropped (lose_of w.logons.channel).place cause in
    end_asks standing.Nothing (secrets_after lost w.logons.plan.secrets) (lose_of w.logons.channel).place (ending.NoController cause) w.logons
    (keep_ended lost (with_requester w (lose_of w.logons.channel).state)) refl refl kept tt
    (steps_have_effects.lose 0 w.logons.channel kept.coherent).1 (record { secret = tt; stamped = tt; set = tt })

-- by whether the link of the turn stays open
abbrev pub TurnAsksBy : Option TurnTalk → Logons → Type 0
TurnAsksBy None logons = AsksForKept false logons
TurnAsksBy (Some talk) logons = AsksForKept true logons

abbrev pub TurnAsks : TurnServed → Type 0
TurnAsks served = TurnAsksBy served.1 served.0.work.logons

abbrev Out : List RpcUnit → AtTurn → Type 0
Out units at = AsksForKept true at.work.logons

abbrev Over : Work → Type 0
Over w = AsksForKept false w.logons

-- a member at work, whose channel is the one that is given
abbrev pub at_channel : AtTurn → Requester → AtTurn
at_channel at channel = with_work at (with_requester at.work channel)

-- where both challenges become known, the channel's secret is the one that is tried
abbrev pub TriesAtHalf : Judgement → Logons → Type 0
TriesAtHalf (judgement.Half client server) l = l.channel.caller.secret ≡ tried_of l.plan.secrets
TriesAtHalf (judgement.Opened o) l = Unit {0}
TriesAtHalf (judgement.Answer o v) l = Unit {0}
TriesAtHalf (judgement.Drop cause) l = Unit {0}

tries_at_half : (j : Judgement) (q : Question) (l : Logons) → AsksFirst j q → MatchesQuestion l.channel.standing q →
    OpensByTried l.channel.standing true l.channel.caller.secret (tried_of l.plan.secrets) → TriesAtHalf j l
tries_at_half (judgement.Half client server) q l first m opens =
    half_tried l.channel.standing q first.0 l.channel.caller.secret (tried_of l.plan.secrets) m first.1 opens
tries_at_half (judgement.Opened o) q l first m opens = tt
tries_at_half (judgement.Answer o v) q l first m opens = tt
tries_at_half (judgement.Drop cause) q l first m opens = tt

module _ (units : List (List ℕ)) where
  settled_asks : (j : Judgement) (joiner : Option RpcUnit) (at : AtTurn) → AsksForKept true at.work.logons → TriesAtHalf j at.work.logons → IsCoherent (settle j at.work.logons.channel).state →
      IsOfCaller (settle j at.work.logons.channel).state →
      TurnHolds Out Over units (do_taken (settle j at.work.logons.channel).taken joiner (at_channel at (settle j at.work.logons.channel).state))
  settled_asks (judgement.Half client server) joiner at kept tries coherent own =
      record { caller = kept.caller; tried = tries; sets = λ sets. never sets; coherent = coherent; waits = kept.waits; out = refl; own = own }
  settled_asks (judgement.Opened o) joiner at kept tries coherent own =
      record { caller = kept.caller; tried = tt; sets = λ sets. never sets; coherent = coherent; waits = kept.waits; out = refl; own = own }
  settled_asks (judgement.Answer o v) joiner at kept tries coherent own =
      let l : Logons = at.work.logons in
      end_asks (standing.Open o) l.plan.secrets (place_of l.channel.turn) _ l (tell_turn_closed close.CallDone (at_channel at (remove_first (standing.Open o) l.channel))) refl refl kept tt coherent own
  settled_asks (judgement.Drop cause) joiner at kept tries coherent own =
      let l : Logons = at.work.logons in
      let lost : TurnEnd = turn_end.Dropped (place_of l.channel.turn) cause in
      end_asks standing.Nothing (secrets_after lost l.plan.secrets) (place_of l.channel.turn) _ l
      (tell_turn_closed close.CallDone (record at { work = keep_ended lost (with_requester at.work (remove_first standing.Nothing l.channel)) })) refl refl kept tt coherent own

  set_asks : (judged : SetOutcome) (joiner : Option RpcUnit) (at : AtTurn) → AsksForKept true at.work.logons → SetFits judged at.work.logons.channel.standing →
      IsCoherent (settle_set judged at.work.logons.channel).state →
      TurnHolds Out Over units (do_taken (settle_set judged at.work.logons.channel).taken joiner (at_channel at (settle_set judged at.work.logons.channel).state))
  set_asks (Ok o) joiner at kept fit coherent = record {
    caller = kept.caller;
    tried = tt;
    sets = λ sets. never sets;
    coherent = coherent;
    waits = kept.waits;
    out = refl;
    own = set_settled_own o at.work.logons.channel fit kept.own;
  }
  set_asks (Err cause) joiner at kept fit coherent = settled_asks (judgement.Drop cause) joiner at kept tt coherent (record { secret = tt; stamped = tt; set = tt })

  acted_asks : (h : Hearing) (joiner : Option RpcUnit) (at : AtTurn) → AsksForKept true at.work.logons → HeardFits h (step_in at.work.logons.channel.turn) →
      IsCoherent (act h at.work.logons.channel).state →
      TurnHolds Out Over units (do_taken (act h at.work.logons.channel).taken joiner (at_channel at (act h at.work.logons.channel).state))
  acted_asks hearing.Skip joiner at kept heard coherent = kept
  acted_asks (hearing.Next q frames) joiner at kept heard coherent = record {
    caller = kept.caller;
    tried = kept.tried;
    sets = λ sets. never sets;
    coherent = coherent;
    waits = kept.waits;
    out = refl;
    own = record { secret = kept.own.secret; stamped = tt; set = tt };
  }
  acted_asks (hearing.Reply q r) joiner at kept heard coherent =
      let s : Requester = at.work.logons.channel in
      let j : Judgement = judge q r s.standing s.caller.secret in
      settled_asks j joiner at kept
      (tries_at_half j q at.work.logons (judged_first q r s.standing s.caller.secret) (subst (λ (st : Option Step). MatchesStep s.standing st) heard kept.coherent.matches) kept.tried) coherent
      (settled_own j s (fits q r s.standing s.caller.secret) kept.own)
  acted_asks (hearing.Drop cause) joiner at kept heard coherent = settled_asks (judgement.Drop cause) joiner at kept tt coherent (record { secret = tt; stamped = tt; set = tt })
  acted_asks (hearing.Set (set_hearing.Next frames)) joiner at kept heard coherent = record {
    caller = kept.caller;
    tried = kept.tried;
    sets = λ sets. kept.sets (setting at.work.logons.channel.turn (set_step.Bind heard.0) heard.1);
    coherent = coherent;
    waits = kept.waits;
    out = refl;
    own = record { secret = kept.own.secret; stamped = tt; set = tt };
  }
  acted_asks (hearing.Set (set_hearing.Reply r)) joiner at kept heard coherent =
      let s : Requester = at.work.logons.channel in set_asks (judge_set r s.standing) joiner at kept (set_fits r s.standing) coherent

takes_asks : TakesTurn Out Over
takes_asks = record {
  takes = λ unit after units at kept.
      let s : Requester = at.work.logons.channel in
      acted_asks units (hear s.turn unit s.next_call) after at kept (heard_fits s.turn unit s.next_call) (steps_have_effects.take 0 s unit kept.coherent).1;
  breaks = λ cause at kept. lost_asks drop_cause.BadReply (tell_turn_closed cause at) kept;
}

served_asks : (served : TurnServed) → TurnHolds Out Over [] served → TurnAsks served
served_asks (at, None) kept = kept
served_asks (at, Some talk) kept = kept

pub turn_asks : (unit : Result RpcUnit UnitRefused) (joiner : Option RpcUnit) (at : AtTurn) → AsksForKept true at.work.logons → TurnAsks (turn_unit unit joiner at)
turn_asks unit joiner at kept = served_asks (turn_unit unit joiner at) (turn_keeps Out Over takes_asks unit joiner [] at kept)

abbrev pub TurnPartAsks : ServedPart AtTurn TurnTalk → Type 0
TurnPartAsks (Err why) = Unit {0}
TurnPartAsks (Ok part) = TurnAsks part.value

-- ---- a step

abbrev Asking : WorkFact
Asking how w left = AsksForKept (is_dialled how) w.logons

event_asks : (what : Event) → KeepsEvent what Asking Asking
event_asks what = record {
  still = λ how w left kept. kept;
  closes = λ link how w left kept. kept;
  loses = λ cause how w left lost none kept. lost_asks cause w (subst (λ (b : Bool). AsksForKept b w.logons) (lost_dialled what how lost) kept);
  full = λ link how w left is kept. kept;
  opens = λ link how w left is kept. kept;
  answers = λ link turn frames w left is kept. kept;
  link = λ number piece link how w left is there kept.
      logons_keep (λ how l. AsksForKept (is_dialled how) l) (cut_stream (link.rest ++ piece)) number link.talk how (without_link number w) left
      (kept_logons (is_dialled how)) kept;
  turn = λ number piece said w left is kept.
      dialled_keeps Out Over Asking takes_asks (cut_stream (said.rest ++ piece)) number said.talk w left (λ rest later at kept. kept) (λ w kept. kept) kept;
}

next_asks : (now : ℕ) → KeepsNext now Asking Asking
next_asks now = record {
  still = λ how w left can kept. kept;
  starts = λ turn frames challenge how w before after can drawn answer kept.
      let before : Requester = w.logons.channel in
      let secrets : SecretsState = w.logons.plan.secrets in
      let s : Requester = given_channel w in
      let timestamp : ℕ = timestamp_of now in
      let same : (start_by s.turn s.waiting s timestamp challenge).state.caller ≡ s.caller = started_caller s.turn s.waiting s timestamp challenge in
      record {
        caller = subst (λ (c : Caller). IsNamedBy c w.logons.plan) (sym same) (ap (λ (c : Caller). record c { secret = s.caller.secret }) kept.caller);
        tried = subst (λ (c : Caller). OpensByTried (start_by s.turn s.waiting s timestamp challenge).state.standing true c.secret (tried_of secrets)) (sym same)
            (started_tried s.turn s.waiting s (is_dialled how) timestamp challenge (tried_of secrets) before.caller.secret can kept.tried);
        sets = λ sets. (started_next s.turn s.waiting s timestamp challenge, started_some s.turn s.waiting s timestamp challenge can sets);
        coherent = (steps_have_effects.start 0 s timestamp challenge
            (steps_have_effects.set_next 0 _ _ (steps_have_effects.use_secret 0 before s.caller.secret kept.coherent).1).1).1;
        waits = started_waits s.turn s.waiting s timestamp challenge ∙ kept.waits;
        out = (one_turn.started s timestamp challenge can).1;
        own = started_own s.turn s.waiting s timestamp challenge can (given_secret before.standing (tried_of secrets) before.caller.secret kept.own.secret);
      };
}

pub step_asks : (m : MemberState) (what : Event) (now : ℕ) (left : List (List ℕ)) → AsksUnlessStopped m.running → AsksUnlessStopped (step_of m what now left).state.running
step_asks m what now left kept =
    step_keeps AsksUnlessStopped what now left m tt kept
    (λ running runs. part_keeps Asking Asking Asking running what now left (event_asks what) (next_asks now) (subst AsksUnlessStopped runs kept))

pub fresh_asks : (plan : MemberPlan) → AsksUnlessStopped (fresh_member plan).running
fresh_asks plan = record {
  caller = refl;
  tried = tt;
  sets = λ sets. never sets;
  coherent = steps_have_effects.fresh (caller_of plan);
  waits = refl;
  out = refl;
  own = record { secret = tt; stamped = tt; set = tt };
}

-- ---- a member begins to change its secret: no turn sets one then

tried_alone : (s : SecretsState) → s.next ≡ None → tried_of s ≡ s.current
tried_alone s one = ap (λ (next : Option Next). tried_of_next next s.current) one

none_set : (secrets : SecretsState) → secrets.next ≡ None → IsSome (next_of secrets) → ⊥
none_set secrets none some = absurd (let x : is_some (next_of secrets) ≡ is_some (next_of (alone [])) = ap (λ (next : Option Next). is_some (option_map (λ n. n.secret) next)) none in cc)

pub change_asks : (secret : List ℕ) (running : Running) → running.logons.plan.secrets.next ≡ None → AsksUnlessStopped (Some running) →
    AsksUnlessStopped (Some (running_with (begin_by None running.logons.plan.secrets secret).secrets running))
change_asks secret running none kept = record {
  caller = kept.caller;
  tried = subst (λ (tried : List ℕ). OpensByTried running.logons.channel.standing (is_dialled running.dialling) running.logons.channel.caller.secret tried)
      (tried_alone running.logons.plan.secrets none) kept.tried;
  sets = λ sets. absurd (none_set running.logons.plan.secrets none (kept.sets sets).1);
  coherent = kept.coherent;
  waits = kept.waits;
  out = kept.out;
  own = kept.own;
}

-- ---- a member with one secret

-- no turn's end makes another of it
dropped_alone : (denied : Bool) (s : SecretsState) → s.next ≡ None → secrets_dropped denied s ≡ s
dropped_alone false s one = refl
dropped_alone true s one = ap (λ (next : Option Next). denied_by next s) one

after_alone : (how : TurnEnd) (s : SecretsState) → s.next ≡ None → secrets_after how s ≡ s
after_alone turn_end.Half s one = refl
after_alone turn_end.Opened s one = ap (λ (next : Option Next). opened_by next s) one
after_alone (turn_end.Answer place verdict) s one = refl
after_alone (turn_end.Dropped place cause) s one = dropped_alone (is_denied cause) s one
after_alone turn_end.Set s one = ap (λ (next : Option Next). confirmed_by next s) one

for_alone : (needs : Bool) (tried secret current : List ℕ) → tried ≡ current → secret ≡ current → secret_for needs tried secret ≡ current
for_alone true tried secret current one other = one
for_alone false tried secret current one other = other

asked_alone : (full : Bool) (s : Requester) (info : NetworkInfo) → (ask_channel full s info).state.caller ≡ s.caller
asked_alone true s info = refl
asked_alone false s info = refl

settled_caller : (j : Judgement) (s : Requester) → (settle j s).state.caller ≡ s.caller
settled_caller (judgement.Half client server) s = refl
settled_caller (judgement.Opened o) s = refl
settled_caller (judgement.Answer o v) s = refl
settled_caller (judgement.Drop cause) s = refl

set_caller : (judged : SetOutcome) (s : Requester) → (settle_set judged s).state.caller ≡ s.caller
set_caller (Ok o) s = refl
set_caller (Err cause) s = refl

acted_caller : (h : Hearing) (s : Requester) → (act h s).state.caller ≡ s.caller
acted_caller hearing.Skip s = refl
acted_caller (hearing.Next q frames) s = refl
acted_caller (hearing.Reply q r) s = settled_caller (judge q r s.standing s.caller.secret) s
acted_caller (hearing.Drop cause) s = refl
acted_caller (hearing.Set (set_hearing.Next frames)) s = refl
acted_caller (hearing.Set (set_hearing.Reply r)) s = set_caller (judge_set r s.standing) s

-- who asks keeps the caller, and sets none
alone_with : (l : Logons) (after : Requester) → AsksByOne l → HasNoNext after → after.caller ≡ l.channel.caller → AsksByOne (record l { channel = after })
alone_with l after alone none same = record { one = alone.one; none = none; secret = ap (λ (c : Caller). c.secret) same ∙ alone.secret }

-- behind the end of a turn
alone_after : (how : TurnEnd) (l : Logons) → AsksByOne l → AsksByOne (with_secrets (secrets_after how l.plan.secrets) l)
alone_after how l alone = subst (λ (s : SecretsState). AsksByOne (with_secrets s l)) (sym (after_alone how l.plan.secrets alone.one)) alone

alone_ended : (place : ℕ) (how : Ending) (w : Work) → AsksByOne w.logons → AsksByOne (end_logon place how w).logons
alone_ended place how w alone =
    subst (λ (l : Logons). AsksByOne l) (sym (logon_ended place how w).logons) (record { one = alone.one; none = alone.none; secret = alone.secret })

alone_turned : (how : TurnEnd) (w : Work) → AsksByOne w.logons → AsksByOne (end_turn how w).logons
alone_turned how w alone = turn_ended how w (λ after. AsksByOne after.logons) (λ none. alone) (λ place ends some. alone_ended place ends w alone)

abbrev OutAlone : List RpcUnit → AtTurn → Type 0
OutAlone units at = AsksByOne at.work.logons

abbrev OverAlone : Work → Type 0
OverAlone w = AsksByOne w.logons

taken_alone : (unit : RpcUnit) (at : AtTurn) → AsksByOne at.work.logons → AsksByOne (record at.work.logons { channel = (take_of at.work.logons.channel unit).state })
taken_alone unit at alone =
    let s : Requester = at.work.logons.channel in
    alone_with at.work.logons (take_of s unit).state alone (sets_nothing.taken s unit alone.none) (acted_caller (hear s.turn unit s.next_call) s)

takes_alone : TakesTurn OutAlone OverAlone
takes_alone = each_taken OutAlone OverAlone (record {
  skips = λ right unit units at is alone. taken_alone unit at alone;
  sends = λ right frames unit units at is alone. taken_alone unit at alone;
  ends = λ how unit units at is alone.
      alone_turned how _ (alone_after how (record at.work.logons { channel = (take_of at.work.logons.channel unit).state }) (taken_alone unit at alone));
  breaks = λ cause at alone.
      let s : Requester = at.work.logons.channel in
      alone_turned (turn_end.Dropped (lose_of s).place drop_cause.BadReply) _ (alone_with at.work.logons (lose_of s).state alone (sets_nothing.lost s alone.none) refl);
})

logons_alone : KeepsLogons AsksByOne
logons_alone = record {
  asks = λ l place logon answers alone.
      let info : NetworkInfo = info_of logon.message logon.agreed logon.challenge in
      let asked : AsksByOne (record l { channel = (ask_channel (nat_le waiting_limit (length l.channel.waiting)) l.channel info).state }) =
      alone_with l _ alone (sets_nothing.asked l.channel info alone.none) (asked_alone (nat_le waiting_limit (length l.channel.waiting)) l.channel info) in
      record { one = asked.one; none = asked.none; secret = asked.secret };
  full = λ l info answers alone.
      alone_with l _ alone (sets_nothing.asked l.channel info alone.none) (asked_alone (nat_le waiting_limit (length l.channel.waiting)) l.channel info);
}

abbrev Alone : WorkFact
Alone how w left = AsksByOne w.logons

event_alone : (what : Event) → KeepsEvent what Alone Alone
event_alone what = record {
  still = λ how w left alone. alone;
  closes = λ link how w left alone. alone;
  loses = λ cause how w left lost none alone.
      let s : Requester = w.logons.channel in
      let ends : TurnEnd = turn_end.Dropped (lose_of s).place cause in
      alone_turned ends (keep_ended ends (with_requester w (lose_of s).state))
      (alone_after ends (record w.logons { channel = (lose_of s).state }) (alone_with w.logons (lose_of s).state alone (sets_nothing.lost s alone.none) refl));
  full = λ link how w left is alone. alone;
  opens = λ link how w left is alone. alone;
  answers = λ link turn frames w left is alone. alone;
  link = λ number piece link how w left is there alone.
      logons_keep (λ how l. AsksByOne l) (cut_stream (link.rest ++ piece)) number link.talk how (without_link number w) left logons_alone alone;
  turn = λ number piece said w left is alone.
      dialled_keeps OutAlone OverAlone Alone takes_alone (cut_stream (said.rest ++ piece)) number said.talk w left (λ rest later at alone. alone) (λ w alone. alone) alone;
}

next_alone : (now : ℕ) → KeepsNext now Alone Alone
next_alone now = record {
  still = λ how w left can alone. alone;
  starts = λ turn frames challenge how w before after can drawn answer alone.
      let s : Requester = given_channel w in
      let secrets : SecretsState = w.logons.plan.secrets in
      let none : HasNoNext s = record { next = ap (λ (next : Option Next). next_of (record secrets { next = next })) alone.one; turn = alone.none.turn } in
      let timestamp : ℕ = timestamp_of now in
      record {
        one = alone.one;
        none = sets_nothing.started s timestamp challenge none;
        secret = ap (λ (c : Caller). c.secret) (started_caller s.turn s.waiting s timestamp challenge)
            ∙ for_alone (needs_challenge w.logons.channel.standing) (tried_of secrets) w.logons.channel.caller.secret secrets.current (tried_alone secrets alone.one) alone.secret;
      };
}

pub step_alone : (m : MemberState) (what : Event) (now : ℕ) (left : List (List ℕ)) → AsksByOneUnlessStopped m.running → AsksByOneUnlessStopped (step_of m what now left).state.running
step_alone m what now left alone =
    step_keeps AsksByOneUnlessStopped what now left m tt alone
    (λ running runs. part_keeps Alone Alone Alone running what now left (event_alone what) (next_alone now) (subst AsksByOneUnlessStopped runs alone))

pub fresh_alone : (plan : MemberPlan) → plan.secrets.next ≡ None → AsksByOneUnlessStopped (fresh_member plan).running
fresh_alone plan one = record { one = one; none = sets_nothing.fresh (caller_of plan); secret = tried_alone plan.secrets one }
