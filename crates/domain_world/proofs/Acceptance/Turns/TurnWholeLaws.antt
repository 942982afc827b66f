-- What holds of messages whose answer was taken, and of what is told, where the bytes of one whole unit come on the
-- link of a member's turn. It serves `schedules_are_heard`.
use Rattle.std.proofs.Common.{◌≡◌, ◌≢◌, ◌<◌, ◌⊎◌, ℕ, true, false, List, [], ◌∷◌, ◌++◌, length, inl, inr, Option, Some, None, Ok, refl, sym, ap, subst, ◌∙◌, slice_get}
use Rattle.std.specs.List.{AllByRecursion}
use Rattle.std.proofs.lemmas.List.{append-nil}
use Rattle.wire_base.specs.Maps.{lookup, same_number}
use Rattle.authenticators.specs.Channels.{ChannelIdentity, SameChannel, channel_key}
use Rattle.authenticators.specs.SecureChannels.{channel_of, SecureChannelState}
use Rattle.outside.specs.Machine.{Part}
use Rattle.outside.specs.declared.action.Action.{Action}
use Rattle.outside.specs.declared.action.Action.TheVariants as action
use Rattle.outside.specs.declared.action.Outcome.{Outcome}
use Rattle.outside.specs.declared.event.Event.TheVariants as event
use Rattle.rpc_units.specs.Calls.{IsHeard}
use Rattle.rpc_units.specs.declared.unit.Unit.{Unit as RpcUnit}
use Rattle.logon_stubs.specs.declared.info.SamInfo.{SamInfo}
use Rattle.logon_stubs.specs.declared.info.Verdict.{Verdict}
use Rattle.logon_stubs.specs.declared.info.Verdict.TheVariants as verdict
use Rattle.channel_client.specs.Effects.{ArePlacesApart, number_in, stands_in}
use Rattle.channel_client.specs.Machine.{take_of}
use Rattle.channel_client.specs.State.{Requester}
use Rattle.channel_client.specs.declared.answers.Taken.{Taken}
use Rattle.channel_client.specs.declared.answers.Taken.TheVariants as taken
use Rattle.channel_client.specs.declared.state.Pending.{Pending}
use Rattle.channel_client.specs.declared.state.Question.TheVariants as question
use Rattle.channel_client.specs.declared.state.Standing.{Standing}
use Rattle.channel_client.specs.declared.state.Standing.TheVariants as standing
use Rattle.channel_client.specs.declared.state.Step.TheVariants as step
use Rattle.channel_client.specs.declared.state.Waiting.{Waiting}
use Rattle.channel_client.proofs.EffectLaws.{steps_have_effects}
use Rattle.member_server.specs.Laws.{IsGranted, IsTold, is_dialled}
use Rattle.member_server.specs.Machine.{event_part}
use Rattle.member_server.specs.Outcomes.{outcome_of}
use Rattle.member_server.specs.State.{State as MemberState}
use Rattle.member_server.specs.Turns.{DialWork, ending_of}
use Rattle.member_server.specs.declared.outcomes.Ending.TheVariants as ending
use Rattle.member_server.specs.declared.state.Logon.{Logon}
use Rattle.member_server.specs.declared.state.Running.{Running}
use Rattle.wire_base.specs.Lists.{OneOf}
use Rattle.channel_events.specs.Marks.{Calling}
use Rattle.wire_base.proofs.ListLaws.{all_weaker, some_is}
use Rattle.channel_events.proofs.SameLaws.{same_back, same_on, same_self}
use Rattle.step_notes.specs.CallLogons.{AsksForKept}
use Rattle.step_notes.specs.ChannelNames.{passed_note, place_answered, standing_channel}
use Rattle.step_notes.specs.Marking.{clashes}
use Rattle.step_notes.specs.MemberNotes.{TurnNote, link_of_logon, link_of_place, taking_note}
use Rattle.step_notes.specs.Records.{Book, CallTaken, MessageTaken, OfMember, OutcomeTold, Sent}
use Rattle.step_notes.proofs.Channels.ChannelNameLaws.{channels_are_named_alike}
use Rattle.step_notes.proofs.Members.KeptLogonLaws.{KeptIn, OfEach, each_found}
use Rattle.step_notes.proofs.Members.TurnAnswerLaws.{took}
use Rattle.world_moves.specs.declared.bag.BagUnit.{BagUnit}
use Rattle.world_moves.specs.declared.links.EndId.TheVariants.{Member}
use Rattle.world_moves.specs.declared.plan.Plan.{Plan}
use Rattle.world_moves.specs.declared.state.State.{State}
use Rattle.world_moves.specs.Acting.{given_by}
use Rattle.world_moves.specs.Counting.{is_in}
use Rattle.domain_world.specs.Accepting.Carried.{CallsHaveNumbers, IsAnswerFor, IsTakenInTurn}
use Rattle.domain_world.specs.Accepting.ReadBack.{IsLetInInTurn, IsReadIn, IsToldInTurn}
use Rattle.domain_world.specs.Accepting.Runs.{IsOut}
use Rattle.domain_world.specs.Claims.{HasController}
use Rattle.domain_world.specs.Past.{answers_by, call_made, change_message, taken_as, told_by, told_in, with_answer, with_call}
use Rattle.domain_world.proofs.Acceptance.Heard.AnswerReadLaws.{HearsWhole, IsAnswerOf, TellsAnswer, answer_is, answer_tells, heard_whole, out_differ, IsReplyRead, logon_read, set_answer_is, set_read}
use Rattle.domain_world.proofs.Acceptance.Turns.CallUnitLaws.{IsCallAt, call_at, call_is}
use Rattle.domain_world.proofs.Acceptance.Turns.TurnChangedLaws.{answered_facts, called_facts}
use Rattle.domain_world.proofs.Acceptance.Turns.TurnFactLaws.{Any, AreApart, HasFree, IsFree, MarksAreKnown, TurnFacts, answers_more, facts_stay, one_is_all, past_at}
use Rattle.domain_world.proofs.Acceptance.Turns.TurnNotedLaws.{IsMadeFor, answered_is, is_answer, none_taken, unclashed as made_unless}
use Rattle.domain_world.proofs.Acceptance.Turns.TurnQuietLaws.{granted_known, same_ends, told_of}
use Rattle.domain_world.proofs.Messages.MessageApartLaws.{links_in}
use Rattle.domain_world.proofs.Moves.ComingLaws.{kept_same}
use Rattle.domain_world.proofs.Calls.WholeOutLaws.{noted as noted_by}
use Rattle.domain_world.proofs.Moves.PlainFormLaws.{heard_plain}
use Rattle.wire_base.proofs.AllLaws.{all_both}
use Rattle.domain_controller.proofs.SendLaws.{none_some}

-- ---- a grant is that of the unit

pub record IsGrantedBy (running : Running) (unit : RpcUnit) (link : ℕ) (how : Outcome) : Type 0 where
  pub place : ℕ
  pub info : SamInfo
  pub logon : Logon
  pub takes : (take_of running.logons.channel unit).taken ≡ taken.Answer place (verdict.Granted info)
  pub kept : lookup same_number place running.logons.asked ≡ Some logon
  pub number : link ≡ logon.link
  pub is : how ≡ outcome_of (ending.Granted info) logon

none_more : (earlier : List RpcUnit) (other : RpcUnit) (later : List RpcUnit) → [] ≡ earlier ++ other ∷ later → ⊥
none_more [] other later is = let x = is in cc
none_more (one ∷ earlier) other later is = let x = is in cc

granted_first : (running : Running) (unit other : RpcUnit) (earlier later : List RpcUnit) (link place : ℕ) (how : Outcome) (info : SamInfo) (logon : Logon) → unit ∷ [] ≡ earlier ++ other ∷ later →
    (take_of (took earlier running.logons.channel) other).taken ≡ taken.Answer place (verdict.Granted info) → lookup same_number place running.logons.asked ≡ Some logon → link ≡ logon.link →
    how ≡ outcome_of (ending.Granted info) logon → IsGrantedBy running unit link how
granted_first running unit other [] later link place how info logon hears takes kept number is =
    let same : unit ≡ other = (let x = hears in cc) in
    record { place = place; info = info; logon = logon; takes = ap (λ (u : RpcUnit). (take_of running.logons.channel u).taken) same ∙ takes; kept = kept; number = number; is = is }
granted_first running unit other (one ∷ earlier) later link place how info logon hears takes kept number is =
    absurd (none_more earlier other later (let x = hears in cc))

granted_by : (running : Running) (number : ℕ) (bytes : List ℕ) (unit : RpcUnit) (link : ℕ) (how : Outcome) → HearsWhole running number bytes unit → IsGranted running (event.Bytes number bytes) link how →
    IsGrantedBy running unit link how
granted_by running number bytes unit link how hears granted =
    granted_first running unit granted.unit granted.earlier granted.later link granted.place how granted.info granted.logon (sym (heard_whole running number bytes unit hears) ∙ granted.hears) granted.takes
    granted.kept granted.number granted.is

-- ---- an outcome that is told is among what ends gave

told_found : (P : OutcomeTold → Type 0) (at link : ℕ) (how : Outcome) → P (told_of at link how) → (actions : List Action) → OneOf (λ (what : Action). what ≡ action.Told link how) actions →
    OneOf P (told_in (given_by (Member at) actions) 0)
told_found P at link how is [] one = absurd one
told_found P at link how is (what ∷ actions) one = elim one [
  | inl here ↦ subst (λ (a : Action). OneOf P (told_by (Member at) a 0 ++ told_in (given_by (Member at) actions) 0)) (sym here) (inl is)
  | inr later ↦ behind what (told_found P at link how is actions later)
]
  where
    behind : (a : Action) → OneOf P (told_in (given_by (Member at) actions) 0) → OneOf P (told_by (Member at) a 0 ++ told_in (given_by (Member at) actions) 0)
    behind (action.Keep bytes) more = more
    behind (action.Send on bytes) more = more
    behind (action.Dial peer) more = more
    behind (action.Close on cause) more = more
    behind (action.Told on result) more = inr more
    behind (action.Judged result) more = more

-- ---- what the answer is

pub record CarriesUnit (s : State) (u : ℕ) (bytes : List ℕ) : Type 0 where
  pub carrier : BagUnit
  pub there : slice_get s.bag u ≡ Some carrier
  pub back : carrier.back ≡ true
  pub same : bytes ≡ carrier.bytes

named_with : (controller : ℕ) (computer : List ℕ) (how : Standing) (stood : SecureChannelState) (channel : ChannelIdentity) → how ≡ standing.Open stood → stands_in controller computer how ≡ Some channel →
    channel_of controller computer stood ≡ channel
named_with controller computer how stood channel stands is = some_is _ channel (sym (ap (λ (h : Standing). stands_in controller computer h) stands) ∙ is)

taken_cases : (t : Taken) → ((place : ℕ) × (v : Verdict) × (t ≡ taken.Answer place v)) ⊎ ((t ≡ taken.Set) ⊎ ((place_answered t ≡ None) × (is_answer t ≡ false)))
taken_cases (taken.Skip right) = inr (inr (refl, refl))
taken_cases (taken.Next right frames) = inr (inr (refl, refl))
taken_cases taken.Half = inr (inr (refl, refl))
taken_cases taken.Opened = inr (inr (refl, refl))
taken_cases (taken.Answer place v) = inl (place, v, refl)
taken_cases (taken.Dropped place cause) = inr (inr (refl, refl))
taken_cases taken.Set = inr (inl refl)

-- What is known as the bytes come: who hears them and which unit of the bag carries them, what was written down of the
-- unit and of calls, that there is no clash, and what the step gives. Behind the step the state is `t`, and `d` is what
-- is then written down of units.
pub record ComesWhole (plan : Plan) (k number u : ℕ) (s t : State) (b d : Book) (messages : List MessageTaken) (running : Running) (bytes : List ℕ) (unit : RpcUnit) (controller now : ℕ)
    (left : List (List ℕ)) (part : Part DialWork) : Type 0 where
  pub hears : HearsWhole running number bytes unit
  pub carries : CarriesUnit t u bytes
  pub apart : AreApart (links_in messages)
  pub sent : (n : ℕ) (one : Sent) → slice_get b.sent n ≡ Some one → slice_get d.sent n ≡ Some one
  pub unclashed : clashes (taking_note (Some (take_of running.logons.channel unit)) controller running.logons.channel).checked (Some u) b.sent ≡ false
  pub controlled : controller < length t.ends.controllers → HasController (slice_get plan.members k) t.ends controller
  pub marks : MarksAreKnown t d
  pub asks : AsksForKept (is_dialled running.dialling) running.logons
  pub free : OfEach (HasFree k messages) running.logons.asked
  pub out : (pending : Pending) (logon : Logon) → running.logons.channel.turn ≡ Some pending → pending.step ≡ step.Reply question.Logon →
      lookup same_number pending.place running.logons.asked ≡ Some logon →
      OneOf (IsOut (past_at plan s b) k pending logon (standing_channel controller running.logons.channel)) messages
  pub numbers : CallsHaveNumbers (past_at plan s b)
  pub done : event_part running (event.Bytes number bytes) now left ≡ Ok part
  pub lets_in : AllByRecursion (IsTold running (event.Bytes number bytes)) part.value.0.actions
  pub after : (m : MemberState) → slice_get t.ends.members k ≡ Some m →
      m.running ≡ Some (record { logons = part.value.0.logons; links = part.value.0.links; dialling = part.value.1; sealing = None })

-- ---- the other logons that are kept

each_if : (X : Type 0) (Fits : ℕ → Logon → Type 0) (asked : List (ℕ × Logon)) → (X → OfEach Fits asked) → OfEach (λ (p : ℕ) (l : Logon). X → Fits p l) asked
each_if X Fits [] so = tt
each_if X Fits (entry ∷ asked) so = ((λ x. (so x).0), each_if X Fits asked (λ x. (so x).1))

each_pair : (Fits More : ℕ → Logon → Type 0) (asked : List (ℕ × Logon)) → OfEach Fits asked → OfEach More asked → OfEach (λ (p : ℕ) (l : Logon). Fits p l × More p l) asked
each_pair Fits More [] all other = tt
each_pair Fits More (entry ∷ asked) all other = ((all.0, other.0), each_pair Fits More asked all.1 other.1)

keep_with : (X : Type 0) (Fits More : ℕ → Logon → Type 0) (r : Option Running) → KeptIn Fits Any r → ((running : Running) → r ≡ Some running → X → OfEach More running.logons.asked) →
    KeptIn (λ (p : ℕ) (l : Logon). Fits p l × (X → More p l)) Any r
keep_with X Fits More None kept so = tt
keep_with X Fits More (Some running) kept so =
    (each_pair Fits (λ (p : ℕ) (l : Logon). X → More p l) running.logons.asked kept.0 (each_if X More running.logons.asked (so running refl)), kept.1)

module _ (plan : Plan) (k number u : ℕ) (s t : State) (b d : Book) (messages : List MessageTaken) (running : Running) (bytes : List ℕ) (unit : RpcUnit) (controller now : ℕ) (left : List (List ℕ))
    (part : Part DialWork) (comes : ComesWhole plan k number u s t b d messages running bytes unit controller now left part) where
  abbrev c : Requester
  c = running.logons.channel

  abbrev note : TurnNote
  note = taking_note (Some (take_of c unit)) controller c

  abbrev pub answer_for : ℕ → ℕ → CallTaken
  answer_for at call = record { at = at; requester = OfMember k; call = call; reply = u }

  -- ---- an answer that is taken

  module _ (its : IsReplyRead c unit) (of : Option ℕ) (channel : ChannelIdentity) (stands : standing_channel controller c ≡ Some channel)
      (is_note : note ≡ passed_note channel of (Some (number_in c.turn))) where
    named : channel_of controller c.caller.computer its.stood ≡ channel
    named = named_with controller c.caller.computer c.standing its.stood channel its.stands stands

    made : IsMadeFor channel u b.sent
    made = made_unless channel u b.sent (sym (ap (λ (n : TurnNote). clashes n.checked (Some u) b.sent) is_note) ∙ comes.unclashed)

    -- the unit that answers was made by a controller that is there
    made_there : controller < length t.ends.controllers
    made_there =
        subst (λ (n : ℕ). n < length t.ends.controllers) (made.same.controller ∙ sym (ap (λ (x : ChannelIdentity). x.controller) named))
        (comes.marks u comes.carries.carrier made.sent made.named comes.carries.there comes.carries.back (comes.sent u made.sent made.noted) made.made)

    asked_with : HasController (slice_get plan.members k) t.ends channel.controller
    asked_with = subst (λ (n : ℕ). HasController (slice_get plan.members k) t.ends n) (ap (λ (x : ChannelIdentity). x.controller) named) (comes.controlled made_there)

    -- the answer is taken in the turn of its call
    pub in_turn : (at call timestamp : ℕ) (out : Sent) (other : ChannelIdentity) → slice_get b.sent call ≡ Some out → out.mark ≡ Calling other its.pending.number timestamp → SameChannel other channel →
        IsTakenInTurn (past_at plan t d) (answer_for at call)
    in_turn at call timestamp out other there mark same = record {
      channel = other;
      number = its.pending.number;
      timestamp = timestamp;
      out = out;
      asked = comes.sent call out there;
      mark = mark;
      controller = subst (λ (n : ℕ). HasController (slice_get plan.members k) t.ends n) (sym same.controller) asked_with;
      carrier = comes.carries.carrier;
      there = comes.carries.there;
      back = comes.carries.back;
      whole = record {
        frames = comes.hears.frames;
        unit = unit;
        heard = heard_plain d.sent u comes.carries.carrier comes.hears.frames unit (subst (λ (bs : List ℕ). IsHeard bs comes.hears.frames unit) comes.carries.same comes.hears.heard);
      };
      has = its.number;
      answer = its.answer;
      sent = made.sent;
      noted = comes.sent u made.sent made.noted;
      named = made.named;
      made = made.made;
      same = same_on made.named channel other made.same (same_back other channel same);
    }

    -- the answer is written down with the number of its call
    is_number : number_in c.turn ≡ its.pending.number
    is_number = ap number_in its.turn

    noted_as : (at : ℕ) → answers_by (OfMember k) at (Some u) b.sent note ≡ taken_as (OfMember k) at (call_made channel its.pending.number b.sent) (Some u)
    noted_as at =
        ap (λ (n : TurnNote). answers_by (OfMember k) at (Some u) b.sent n) is_note
        ∙ ap (λ (n : ℕ). taken_as (OfMember k) at (call_made channel n b.sent) (Some u)) is_number

    found_in_turn : (at : ℕ) (found : Option ℕ) → call_made channel its.pending.number b.sent ≡ found →
        AllByRecursion (IsTakenInTurn (past_at plan t d)) (taken_as (OfMember k) at found (Some u))
    found_in_turn at None is = tt
    found_in_turn at (Some call) is =
        let it : IsCallAt channel its.pending.number b.sent call = call_at channel its.pending.number b.sent call is in
        (in_turn at call it.timestamp it.sent it.other it.there it.mark it.same, tt)

    all_in_turn : (at : ℕ) → AllByRecursion (IsTakenInTurn (past_at plan t d)) (answers_by (OfMember k) at (Some u) b.sent note)
    all_in_turn at =
        subst (λ (all : List CallTaken). AllByRecursion (IsTakenInTurn (past_at plan t d)) all) (sym (noted_as at))
        (found_in_turn at (call_made channel its.pending.number b.sent) refl)

    -- which is that one
    noted_for : (at call timestamp : ℕ) (out : Sent) → slice_get b.sent call ≡ Some out → out.mark ≡ Calling channel its.pending.number timestamp →
        answers_by (OfMember k) at (Some u) b.sent note ≡ answer_for at call ∷ []
    noted_for at call timestamp out there mark =
        noted_as at
        ∙ ap (λ (found : Option ℕ). taken_as (OfMember k) at found (Some u))
        (call_is channel channel its.pending.number timestamp b.sent call out there mark (same_self channel)
        (λ m later another third also made_so client. comes.numbers m call its.pending.number later timestamp third channel another out also there made_so mark client))

  -- ---- what holds of messages, and of what is told

  module _ (at : ℕ) (answers : List CallTaken) (told : List OutcomeTold) (facts : TurnFacts plan t d messages answers told) where
    abbrev more : List OutcomeTold
    more = told_in (given_by (Member k) part.value.0.actions) 0

    abbrev pub new : List CallTaken
    new = answers_by (OfMember k) at (Some u) b.sent note

    -- the messages on the link of a logon that is kept are free
    own_all : (place : ℕ) (logon : Logon) → lookup same_number place running.logons.asked ≡ Some logon →
        AllByRecursion (λ (message : MessageTaken). message.link ≡ logon.link → IsFree k place logon message) messages
    own_all place logon kept =
        one_is_all logon.link (IsFree k place logon) (λ message is. is.link) messages comes.apart (each_found (HasFree k messages) place running.logons.asked logon kept comes.free)

    logon_free : (place link : ℕ) (found : Option Logon) → lookup same_number place running.logons.asked ≡ found → link_of_logon found ≡ Some link →
        AllByRecursion (λ (message : MessageTaken). message.link ≡ link → message.reply ≡ None) messages
    logon_free place link None there is = let x = is in cc
    logon_free place link (Some logon) there is =
        let same : logon.link ≡ link = some_is logon.link link is in
        all_weaker (λ (message : MessageTaken). message.link ≡ logon.link → IsFree k place logon message) (λ (message : MessageTaken). message.link ≡ link → message.reply ≡ None) messages
        (λ message own here. (own (here ∙ sym same)).none) (own_all place logon there)

    called_free : (called : Option ℕ) (link : ℕ) → link_of_place called running.logons ≡ Some link → AllByRecursion (λ (message : MessageTaken). message.link ≡ link → message.reply ≡ None) messages
    called_free None link is = let x = is in cc
    called_free (Some place) link is = logon_free place link (lookup same_number place running.logons.asked) refl is

    -- what is let in, by what was granted
    lets_in : (Fact : OutcomeTold → Type 0) → ((link : ℕ) (how : Outcome) → IsGrantedBy running unit link how → Fact (told_of k link how)) →
        AllByRecursion (λ (one : OutcomeTold). is_in one.outcome ≡ true → Fact one) more
    lets_in Fact so =
        granted_known Fact k running (event.Bytes number bytes) (λ link how granted. so link how (granted_by running number bytes unit link how comes.hears granted)) part.value.0.actions comes.lets_in

    silent_facts : (after : List MessageTaken) (all : List CallTaken) → ((link : ℕ) (how : Outcome) → IsGrantedBy running unit link how → ⊥) → TurnFacts plan t d after all told →
        TurnFacts plan t d after all (told ++ more)
    silent_facts after all none so =
        facts_stay plan t t d d (record { bag = kept_same t.bag; sent = λ n one there. there; ends = same_ends t.ends }) after all told more
        (lets_in (λ (one : OutcomeTold). OneOf (λ (message : MessageTaken). IsLetInInTurn (past_at plan t d) one message) after) (λ link how granted. absurd (none link how granted))) so.free so

    -- no answer is taken
    unanswered : (requested : Option ℕ) → place_answered (take_of c unit).taken ≡ None → is_answer (take_of c unit).taken ≡ false → TurnFacts plan t d (noted_by note running.logons (Some u) requested messages) (answers ++ new) (told ++ more)
    unanswered requested none no_reply =
        subst (λ (all : List CallTaken). TurnFacts plan t d (noted_by note running.logons (Some u) requested messages) all (told ++ more))
        (sym (ap (λ (fresh : List CallTaken). answers ++ fresh) (none_taken (take_of c unit).taken controller c (take_of c unit).state (OfMember k) at (Some u) b.sent no_reply) ∙ append-nil answers))
        (subst (λ (answered : Option ℕ). TurnFacts plan t d
        (change_message (link_of_place answered running.logons) (with_answer (Some u)) (change_message (link_of_place note.called running.logons) (with_call requested) messages)) answers (told ++ more))
        (sym (answered_is (take_of c unit).taken controller c (take_of c unit).state ∙ none))
        (silent_facts (change_message (link_of_place note.called running.logons) (with_call requested) messages) answers
        (λ link how granted. none_some granted.place (place_answered (take_of c unit).taken) none (ap place_answered granted.takes))
        (called_facts plan t d messages answers told (link_of_place note.called running.logons) requested (called_free note.called) facts)))

    module _ (place : ℕ) (v : Verdict) (answered : (take_of c unit).taken ≡ taken.Answer place v) (channel : ChannelIdentity) (stands : standing_channel controller c ≡ Some channel)
        (is_note : note ≡ passed_note channel (Some place) (Some (number_in c.turn))) where
      abbrev own : IsAnswerOf c unit place v
      own = answer_is c unit place v answered

      abbrev own_read : IsReplyRead c unit
      own_read = logon_read c unit place v own

      abbrev own_made : IsMadeFor channel u b.sent
      own_made = made own_read (Some place) channel stands is_note

      same_grant : (link : ℕ) (how : Outcome) (granted : IsGrantedBy running unit link how) → (place ≡ granted.place) × (v ≡ verdict.Granted granted.info)
      same_grant link how granted =
          let both : taken.Answer place v ≡ taken.Answer granted.place (verdict.Granted granted.info) = sym answered ∙ granted.takes in
          ((let x = both in cc), (let x = both in cc))

      module _ (logon : Logon) (kept : lookup same_number place running.logons.asked ≡ Some logon) where
        abbrev IsOutThere : MessageTaken → Type 0
        IsOutThere message = IsOut (past_at plan s b) k own.pending logon (standing_channel controller c) message

        out_all : AllByRecursion (λ (message : MessageTaken). message.link ≡ logon.link → IsOutThere message) messages
        out_all =
            one_is_all logon.link IsOutThere (λ message is. is.link) messages comes.apart
            (comes.out own.pending logon own.turn own.asked (subst (λ (n : ℕ). lookup same_number n running.logons.asked ≡ Some logon) own.same_place kept))

        -- the answer is to the call of the message
        answer_there : (message : MessageTaken) → IsFree k place logon message → IsOutThere message → OneOf (IsAnswerFor (with_answer (Some u) message) u) new
        answer_there message mine out =
            let one : out.channel ≡ channel = some_is out.channel channel (sym out.stands ∙ stands) in
            subst (λ (all : List CallTaken). OneOf (IsAnswerFor (with_answer (Some u) message) u) all)
            (sym (noted_for own_read (Some place) channel stands is_note at out.request out.timestamp out.sent out.there (out.mark ∙ ap (λ (x : ChannelIdentity). Calling x own.pending.number out.timestamp) one)))
            (inl (record { requester = sym (ap (λ (n : ℕ). OfMember n) mine.same_member); call = out.call; reply = refl }))

        read_there : (message : MessageTaken) (how : Outcome) → IsFree k place logon message → how ≡ outcome_of (ending_of v) logon →
            IsReadIn (past_at plan t d) (with_answer (Some u) message) u how
        read_there message how mine is = record {
          channel = channel;
          stood = own.stood;
          key = ap channel_key (named own_read (Some place) channel stands is_note);
          carrier = comes.carries.carrier;
          there = comes.carries.there;
          whole = record {
            frames = comes.hears.frames;
            unit = unit;
            heard = heard_plain d.sent u comes.carries.carrier comes.hears.frames unit (subst (λ (bs : List ℕ). IsHeard bs comes.hears.frames unit) comes.carries.same comes.hears.heard);
          };
          read = own.read;
          reads = own.reads;
          later = own.later;
          verdict = v;
          judged = own.judged;
          is = is ∙ ap (λ (l : Logon). outcome_of (ending_of v) l) (sym mine.same_logon);
          sent = own_made.sent;
          noted = comes.sent u own_made.sent own_made.noted;
          named = own_made.named;
          made = own_made.made;
          same = own_made.same;
        }

        told_there : (message : MessageTaken) (link : ℕ) (how : Outcome) → IsFree k place logon message → link ≡ logon.link → how ≡ outcome_of (ending_of v) logon →
            IsToldInTurn (past_at plan t d) (with_answer (Some u) message) u (told_of k link how)
        told_there message link how mine number_is is =
            record { link = number_is ∙ sym mine.link; member = sym mine.same_member; reading = read_there message how mine is }

        tells : TellsAnswer running place logon v part
        tells = answer_tells running number bytes unit now left part place v logon comes.hears comes.done answered kept

        others : (j : ℕ) (m : MemberState) → slice_get t.ends.members j ≡ Some m → KeptIn (λ (p : ℕ) (l : Logon). HasFree j messages p l × (j ≡ k → p ≡ place → ⊥)) Any m.running
        others j m there =
            keep_with (j ≡ k) (HasFree j messages) (λ (p : ℕ) (l : Logon). p ≢ place) m.running (facts.free j m there)
            (λ r runs same.
            let after : Running = record { logons = part.value.0.logons; links = part.value.0.links; dialling = part.value.1; sealing = None } in
            let is : r ≡ after = some_is r after (sym runs ∙ comes.after m (subst (λ (n : ℕ). slice_get t.ends.members n ≡ Some m) same there)) in
            subst (λ (asked : List (ℕ × Logon)). OfEach (λ (p : ℕ) (l : Logon). p ≢ place) asked) (sym (ap (λ (x : Running). x.logons.asked) is ∙ tells.asked))
            (out_differ place running.logons.asked
            (subst (λ (waiting : List Waiting). ArePlacesApart waiting) comes.asks.waits (steps_have_effects.places c comes.asks.coherent))))

        answered_there : TurnFacts plan t d (change_message (Some logon.link) (with_answer (Some u)) messages) (answers ++ new) (told ++ more)
        answered_there =
            answered_facts plan t d messages answers told k place logon u more new (all_in_turn own_read (Some place) channel stands is_note at) (own_all place logon kept)
            (all_weaker (λ (message : MessageTaken). (message.link ≡ logon.link → IsFree k place logon message) × (message.link ≡ logon.link → IsOutThere message))
            (λ (message : MessageTaken).
            message.link ≡ logon.link → OneOf (IsAnswerFor (with_answer (Some u) message) u) new
            × OneOf (λ (one : OutcomeTold). IsToldInTurn (past_at plan t d) (with_answer (Some u) message) u one) more) messages
            (λ message both here. (
              answer_there message (both.0 here) (both.1 here),
              told_found (λ (one : OutcomeTold). IsToldInTurn (past_at plan t d) (with_answer (Some u) message) u one) k logon.link (outcome_of (ending_of v) logon)
                  (told_there message logon.link (outcome_of (ending_of v) logon) (both.0 here) refl refl) part.value.0.actions tells.told,
            ))
            (all_both (λ (message : MessageTaken). message.link ≡ logon.link → IsFree k place logon message) (λ (message : MessageTaken). message.link ≡ logon.link → IsOutThere message) messages
            (own_all place logon kept) out_all))
            (lets_in (λ (one : OutcomeTold). (message : MessageTaken) → message.link ≡ logon.link → IsFree k place logon message → IsLetInInTurn (past_at plan t d) one (with_answer (Some u) message))
            (λ link how granted message here mine.
            let same = same_grant link how granted in
            let logons : granted.logon ≡ logon =
            some_is granted.logon logon (sym granted.kept ∙ ap (λ (n : ℕ). lookup same_number n running.logons.asked) (sym same.0) ∙ kept) in
            record {
              unit = u;
              reply = refl;
              turn = told_there message link how mine (granted.number ∙ ap (λ (l : Logon). l.link) logons)
                  (granted.is ∙ ap (λ (l : Logon). outcome_of (ending.Granted granted.info) l) logons ∙ ap (λ (x : Verdict). outcome_of (ending_of x) logon) (sym same.1));
            }))
            (each_found (HasFree k messages) place running.logons.asked logon kept comes.free) others facts

      answered_by : (found : Option Logon) → lookup same_number place running.logons.asked ≡ found →
          TurnFacts plan t d (change_message (link_of_logon found) (with_answer (Some u)) messages) (answers ++ new) (told ++ more)
      answered_by None kept =
          answers_more plan t d messages answers new (told ++ more) (all_in_turn own_read (Some place) channel stands is_note at)
          (silent_facts messages answers
          (λ link how granted. none_some granted.logon (lookup same_number place running.logons.asked) kept
          (subst (λ (n : ℕ). lookup same_number n running.logons.asked ≡ Some granted.logon) (sym (same_grant link how granted).0) granted.kept)) facts)
      answered_by (Some logon) kept = answered_there logon kept

      answered_noted : (requested : Option ℕ) → TurnFacts plan t d (noted_by note running.logons (Some u) requested messages) (answers ++ new) (told ++ more)
      answered_noted requested =
          subst (λ (n : TurnNote). TurnFacts plan t d (noted_by n running.logons (Some u) requested messages) (answers ++ new) (told ++ more)) (sym is_note)
          (answered_by (lookup same_number place running.logons.asked) refl)

    -- a secret is set: the answer is written down, and of no message
    set_noted : (is : (take_of c unit).taken ≡ taken.Set) (channel : ChannelIdentity) (stands : standing_channel controller c ≡ Some channel) → note ≡ passed_note channel None (Some (number_in c.turn)) →
        (requested : Option ℕ) → TurnFacts plan t d (noted_by note running.logons (Some u) requested messages) (answers ++ new) (told ++ more)
    set_noted is channel stands is_note requested =
        subst (λ (n : TurnNote). TurnFacts plan t d (noted_by n running.logons (Some u) requested messages) (answers ++ new) (told ++ more)) (sym is_note)
        (answers_more plan t d messages answers new (told ++ more) (all_in_turn (set_read c unit (set_answer_is c unit is)) None channel stands is_note at)
        (silent_facts messages answers (λ link how granted. absurd (let x = sym is ∙ granted.takes in cc)) facts))

    pub whole_facts : (requested : Option ℕ) → TurnFacts plan t d (noted_by note running.logons (Some u) requested messages) (answers ++ new) (told ++ more)
    whole_facts requested = elim (taken_cases (take_of c unit).taken) [
      | inl answer ↦
          (let takes = channels_are_named_alike.calls.takes controller c unit answer.0 (ap place_answered answer.2) in
          answered_noted answer.0 answer.1 answer.2 takes.0 takes.1 takes.3 requested)
      | inr (inl is) ↦ (let sets = channels_are_named_alike.calls.sets controller c unit is in set_noted is sets.0 sets.1 sets.3 requested)
      | inr (inr none) ↦ unanswered requested none.0 none.1
    ]
