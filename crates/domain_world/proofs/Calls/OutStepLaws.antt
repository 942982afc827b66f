-- What a member keeps, and that its call that is out is that of its message, through a step at which no whole unit
-- comes on the link of its turn. It serves `runs_stand_so`.
use Rattle.std.proofs.Common.{◌≡◌, ◌≢◌, ℕ, ◌==◌, Bool, true, false, List, [], ◌∷◌, ◌++◌, map, inl, inr, Option, Some, None, Result, Ok, Err, refl, sym, ap, ◌∙◌, subst, slice_get, if◌then◌else◌}
use Rattle.std.specs.Prelude.{flat_map}
use Rattle.std.specs.List.{AllByRecursion}
use Rattle.std.proofs.lemmas.Bool.Decides.{Decides-eqb}
use Rattle.wire_base.specs.Maps.{lookup, same_number}
use Rattle.outside.specs.Machine.{Part, step_by}
use Rattle.outside.specs.declared.action.StepRefused.{StepRefused}
use Rattle.outside.specs.declared.event.Event.{Event}
use Rattle.outside.specs.declared.event.Event.TheVariants as event
use Rattle.authenticators.specs.Channels.{ChannelIdentity}
use Rattle.logon_stubs.specs.declared.info.NetworkInfo.{NetworkInfo}
use Rattle.end_links.specs.Links.{LinkState}
use Rattle.member_server.specs.declared.state.Work.{Work}
use Rattle.channel_client.specs.Effects.{ArePlacesApart, IsForFirst, stands_in}
use Rattle.channel_client.specs.Machine.{ask_by, ask_of, begin_with, can_start, lose_of, needs_challenge, start_by}
use Rattle.channel_client.specs.State.{Requester}
use Rattle.channel_client.specs.declared.caller.Caller.{Caller}
use Rattle.channel_client.specs.declared.state.Pending.{Pending}
use Rattle.channel_client.specs.declared.state.Question.{Question}
use Rattle.channel_client.specs.declared.state.Question.TheVariants as question
use Rattle.channel_client.specs.declared.state.Standing.{Standing}
use Rattle.channel_client.specs.declared.state.Standing.TheVariants as standing
use Rattle.channel_client.specs.declared.state.Step.{Step}
use Rattle.channel_client.specs.declared.state.Step.TheVariants as step
use Rattle.channel_client.specs.declared.state.Waiting.{Waiting}
use Rattle.channel_client.proofs.EffectLaws.{steps_have_effects}
use Rattle.wire_base.specs.Lists.{OneOf}
use Rattle.channel_events.specs.Marks.{Calling}
use Rattle.wire_base.proofs.ListLaws.{one_weaker}
use Rattle.member_server.specs.ChannelSteps.{ChannelSteps, ComesCalmly, IsCalm, IsNextTurn, StepsIfTaken}
use Rattle.member_server.specs.Laws.{Asks, Doing, Loses, Starts, Takes, heard_if, heard_in, is_dialled, state_after}
use Rattle.member_server.specs.Machine.{actions_in, by_event, event_part, halted_state, state_in, step_of, work_of}
use Rattle.member_server.specs.Turns.{DialWork, ready_channel}
use Rattle.channel_turns.specs.declared.state.Dialling.{Dialling}
use Rattle.channel_turns.specs.declared.state.Dialling.TheVariants as dialling
use Rattle.member_server.specs.declared.state.Logon.{Logon}
use Rattle.member_server.specs.declared.state.Logons.{Logons}
use Rattle.member_server.specs.declared.state.Running.{Running}
use Rattle.channel_turns.specs.declared.state.TurnTalk.{TurnTalk}
use Rattle.member_server.proofs.ChannelStepLaws.{channel_steps}
use Rattle.step_notes.specs.CallLogons.{AsksForKept, AsksUnlessStopped, waiting_for}
use Rattle.step_notes.specs.ChannelNames.{standing_channel}
use Rattle.step_notes.specs.MemberNotes.{LinkAt, is_turn_link, link_units, message_note, taken_link}
use Rattle.step_notes.specs.Records.{MessageTaken, Sent}
use Rattle.step_notes.proofs.Members.CallKeptLaws.{step_asks}
use Rattle.step_notes.proofs.Members.KeptLogonLaws.{Dials, HasFor, IfDialled, IsFor, KeptIn, OfEach, bytes_keep, each_found, kept_so, one_before, step_keeps}
use Rattle.step_notes.proofs.Members.UnservedLaws.{LinksIn, Opens, bytes_took, in_so, step_known, took_known}
use Rattle.world_moves.specs.declared.links.Route.{Route}
use Rattle.domain_world.proofs.Acceptance.LetInStepLaws.{IsAcceptedBy, IsDialledBy}
use Rattle.domain_world.proofs.Messages.KeptFirstLaws.{LeadsAfter, bytes_lead}
use Rattle.member_server.proofs.StepFrame.{PartHolds, is_left}

-- ---- what is known of a member

-- the message is that of the logon of that place
pub record IsOf (member place : ℕ) (logon : Logon) (message : MessageTaken) : Type 0 where
  pub same_member : message.member ≡ member
  pub same_place : message.place ≡ place
  pub same_logon : message.logon ≡ logon
  pub link : message.link ≡ logon.link

-- a message of the logon is among the messages
abbrev pub HasOne : ℕ → List MessageTaken → ℕ → Logon → Type 0
HasOne member messages place logon = OneOf (IsOf member place logon) messages

-- a message has its call out, among `units`, with the number that is pending, on the channel that stands
pub record IsOutIn (units : List Sent) (member : ℕ) (pending : Pending) (logon : Logon) (standing : Option ChannelIdentity) (message : MessageTaken) : Type 0 where
  pub link : message.link ≡ logon.link
  pub by : message.member ≡ member
  pub request : ℕ
  pub call : message.call ≡ Some request
  pub unit : Sent
  pub there : slice_get units request ≡ Some unit
  pub channel : ChannelIdentity
  pub timestamp : ℕ
  pub stands : standing ≡ Some channel
  pub mark : unit.mark ≡ Calling channel pending.number timestamp

-- where the turn waits for the answer to a Logon call, `P` holds of that turn, of the logon that is kept for it, and of
-- the requester
abbrev pub OutBy : (P : Pending → Logon → Requester → Type 0) → Option Running → Type 0
OutBy P None = Unit {0}
OutBy P (Some running) =
    (pending : Pending) (logon : Logon) → running.logons.channel.turn ≡ Some pending → pending.step ≡ step.Reply question.Logon →
    lookup same_number pending.place running.logons.asked ≡ Some logon → P pending logon running.logons.channel

-- one of the messages has its call out
abbrev pub HasOut : List Sent → List MessageTaken → ℕ → ℕ → Pending → Logon → Requester → Type 0
HasOut units messages controller member pending logon c = OneOf (IsOutIn units member pending logon (standing_channel controller c)) messages

abbrev pub OutFor : List Sent → List MessageTaken → ℕ → ℕ → Option Running → Type 0
OutFor units messages controller member r = OutBy (HasOut units messages controller member) r

-- The member asks for what it keeps, and took the message of each logon. It dialled the link of its turn, accepted the
-- links whose challenge hasn't served, and a Logon call that is out is that of its message.
pub record MemberHolds (links : List Route) (units : List Sent) (messages : List MessageTaken) (controller member : ℕ) (r : Option Running) : Type 0 where
  pub asks : AsksUnlessStopped r
  pub kept : KeptIn (HasOne member messages) (λ number. IsDialledBy links member number) r
  pub accepts : LinksIn (λ number p. IsAcceptedBy links member number) r
  pub out : OutFor units messages controller member r

-- ---- the turn waits for a reply: what it was before

-- the turn was out, on the same channel
pub record StaysOut (old new : Requester) (pending : Pending) : Type 0 where
  pub turn : old.turn ≡ Some pending
  pub standing : new.standing ≡ old.standing
  pub caller : new.caller ≡ old.caller

-- `P` holds on while the turn is out, on the same channel
abbrev pub StaysBy : (P : Pending → Logon → Requester → Type 0) → Type 0
StaysBy P = (old new : Requester) (pending : Pending) (logon : Logon) → StaysOut old new pending → P pending logon old → P pending logon new

asked_out : (full : Bool) (s : Requester) (info : NetworkInfo) (pending : Pending) (new : Requester) → StaysOut (ask_by full s info).state new pending → StaysOut s new pending
asked_out true s info pending new stays = record { turn = stays.turn; standing = stays.standing; caller = stays.caller }
asked_out false s info pending new stays = record { turn = stays.turn; standing = stays.standing; caller = stays.caller }

-- no turn is none that is out
pub none_out : (pending : Pending) → None ≡ Some pending → ⊥
none_out pending is = let x = is in cc

calm_out : (doings : List Doing) (s : Requester) (pending : Pending) → AllByRecursion IsCalm doings → (state_after doings s).turn ≡ Some pending → StaysOut s (state_after doings s) pending
calm_out [] s pending calm out = record { turn = out; standing = refl; caller = refl }
calm_out (Asks info ∷ doings) s pending calm out =
    asked_out _ s info pending (state_after doings (ask_of s info).state) (calm_out doings (ask_of s info).state pending calm.1 out)
calm_out (Starts timestamp challenge ∷ doings) s pending calm out = absurd calm.0
calm_out (Takes unit ∷ doings) s pending calm out = absurd calm.0
calm_out (Loses ∷ doings) s pending calm out = absurd (none_out pending (calm_out doings (lose_of s).state pending calm.1 out).turn)

-- the call of a turn that starts waits for its bind
begun_waits : (how : Standing) (next : Option (List ℕ)) (caller : Caller) (info : NetworkInfo) (timestamp : ℕ) (challenge : List ℕ) (q : Question) →
    (begin_with how next caller info timestamp challenge).step ≡ step.Reply q → ⊥
begun_waits standing.Nothing next caller info timestamp challenge q is = let x = is in cc
begun_waits (standing.Half client server) next caller info timestamp challenge q is = let x = is in cc
begun_waits (standing.Open o) None caller info timestamp challenge q is = let x = is in cc
begun_waits (standing.Open o) (Some next) caller info timestamp challenge q is = let x = is in cc

-- a turn that starts waits for the answer to its bind
pub start_out : (turn : Option Pending) (logons : List Waiting) (s : Requester) (timestamp : ℕ) (challenge : List ℕ) (pending : Pending) (q : Question) → can_start turn logons ≡ true →
    (start_by turn logons s timestamp challenge).state.turn ≡ Some pending → pending.step ≡ step.Reply q → ⊥
start_out (Some p) logons s timestamp challenge pending q can is reply = let x = can in cc
start_out None [] s timestamp challenge pending q can is reply = let x = can in cc
start_out None (logon ∷ logons) s timestamp challenge pending q can is reply =
    let begun : Step = (begin_with s.standing s.next s.caller logon.info timestamp challenge).step in
    let same : record { number = s.next_call; place = logon.place; step = begun } ≡ pending = (let x = is in cc) in
    begun_waits s.standing s.next s.caller logon.info timestamp challenge q (ap (λ (p : Pending). p.step) same ∙ reply)

next_out : (starts needs : Bool) (now : ℕ) (mid : Requester) (before : List (List ℕ)) (new : Requester) (after : List (List ℕ)) (pending : Pending) (q : Question) →
    IsNextTurn starts needs now mid before new after → can_start mid.turn mid.waiting ≡ starts → new.turn ≡ Some pending → pending.step ≡ step.Reply q →
    (new ≡ mid) × (starts ≡ false)
next_out false needs now mid before new after pending q next can out reply = (next.0, refl)
next_out true false now mid before new after pending q next can out reply =
    absurd (start_out mid.turn mid.waiting mid _ _ pending q can (subst (λ (x : Requester). x.turn ≡ Some pending) next.0 out) reply)
next_out true true now mid before new after pending q next can out reply =
    absurd (start_out mid.turn mid.waiting mid _ next.0 pending q can (subst (λ (x : Requester). x.turn ≡ Some pending) next.2 out) reply)

-- a call that is out stays out through the event, and no turn started after it
pub record OutSteps (old : Requester) (first : Result (Part DialWork) StepRefused) (new : Requester) (pending : Pending) : Type 0 where
  pub stays : StaysOut old new pending
  pub part : Part DialWork
  pub is : first ≡ Ok part
  pub none : can_start part.value.0.logons.channel.turn part.value.0.logons.channel.waiting ≡ false

-- of a step after which the turn waits for a reply
pub out_steps : (old : Requester) (first : Result (Part DialWork) StepRefused) (now : ℕ) (new : Requester) (after : List (List ℕ)) (pending : Pending) (q : Question) →
    ChannelSteps first (ComesCalmly old) now new after → new.turn ≡ Some pending → pending.step ≡ step.Reply q → OutSteps old first new pending
out_steps old first now new after pending q steps out reply =
    let w : Work = steps.part.value.0 in
    let mid : Requester = ready_channel w in
    let next = next_out (can_start mid.turn mid.waiting) (needs_challenge mid.standing) now mid steps.part.left new after pending q steps.next refl out reply in
    let same : new ≡ state_after steps.mid.doings old = next.0 ∙ is_left w next.1 ∙ steps.mid.is in
    record {
      stays = subst (λ (x : Requester). StaysOut old x pending) (sym same)
          (calm_out steps.mid.doings old pending steps.mid.calm (subst (λ (x : Requester). x.turn ≡ Some pending) same out));
      part = steps.part;
      is = steps.is;
      none = next.1;
    }

-- ---- the logon of the turn is the only one of its place

-- at that place that logon alone is kept
abbrev pub Only : ℕ → Logon → ℕ → Logon → Type 0
Only at kept place logon = place ≡ at → logon ≡ kept

-- one logon alone is kept at that place
pub record IsOnly (at : ℕ) (asked : List (ℕ × Logon)) : Type 0 where
  pub logon : Logon
  pub kept : lookup same_number at asked ≡ Some logon
  pub only : OfEach (Only at logon) asked

others_only : (at : ℕ) (kept : Logon) (asked : List (ℕ × Logon)) → AllByRecursion (λ (later : Waiting). at ≢ later.place) (map waiting_for asked) → OfEach (Only at kept) asked
others_only at kept [] apart = tt
others_only at kept (entry ∷ asked) apart = ((λ is. absurd (apart.0 (sym is))), others_only at kept asked apart.1)

only_first : (pending : Pending) (asked : List (ℕ × Logon)) → IsForFirst (Some pending) (map waiting_for asked) → ArePlacesApart (map waiting_for asked) → IsOnly pending.place asked
only_first pending [] first apart = absurd first
only_first pending (entry ∷ asked) first apart = record {
  logon = entry.1;
  kept = ap (λ (hit : Bool). if hit then Some entry.1 else lookup same_number pending.place asked) ((Decides-eqb pending.place entry.0).1 first.0);
  only = (
    (λ is. refl),
    others_only pending.place entry.1 asked (subst (λ (n : ℕ). AllByRecursion (λ (later : Waiting). n ≢ later.place) (map waiting_for asked)) (sym first.0) apart.0),
  );
}

-- the logon at the place of the turn is the only one kept there
pub only_kept : (dialled : Bool) (l : Logons) (pending : Pending) → AsksForKept dialled l → l.channel.turn ≡ Some pending → IsOnly pending.place l.asked
only_kept dialled l pending asks out =
    only_first pending l.asked
    (subst (λ (waiting : List Waiting). IsForFirst (Some pending) waiting) asks.waits (subst (λ turn. IsForFirst turn l.channel.waiting) out asks.coherent.first))
    (subst (λ (waiting : List Waiting). ArePlacesApart waiting) asks.waits (steps_have_effects.places l.channel asks.coherent))

-- ---- no bytes come

-- no unit comes where no bytes come
pub not_bytes : (Own : ℕ → Type 0) (what : Event) (how : Dialling) → Dials Own what → heard_in what how ≡ []
not_bytes Own (event.Opened link) how dials = refl
not_bytes Own (event.Bytes link piece) how dials = absurd dials
not_bytes Own (event.Closed link) how dials = refl
not_bytes Own (event.Dialled link) how dials = refl
not_bytes Own event.DialFailed how dials = refl
not_bytes Own event.Stop how dials = refl

dials_so : (Own Later : ℕ → Type 0) → ((number : ℕ) → Own number → Later number) → (what : Event) → Dials Own what → Dials Later what
dials_so Own Later so (event.Opened link) dials = tt
dials_so Own Later so (event.Bytes link piece) dials = absurd dials
dials_so Own Later so (event.Closed link) dials = tt
dials_so Own Later so (event.Dialled link) dials = so link dials
dials_so Own Later so event.DialFailed dials = tt
dials_so Own Later so event.Stop dials = tt

abbrev pub Any : ℕ → Type 0
Any number = Unit {0}

any_dialled : (how : Dialling) → IfDialled Any how
any_dialled dialling.Nothing = tt
any_dialled (dialling.Waits turn frames) = tt
any_dialled (dialling.On number said) = tt

-- a message as it is once `n` moves are made
abbrev at_now : ℕ → MessageTaken → MessageTaken
at_now n message = record message { at = n }

there_for : (n member place : ℕ) (logon : Logon) (messages : List MessageTaken) → HasOne member messages place logon → HasFor (Unit {0}) n member (map (at_now n) messages) place logon
there_for n member place logon [] one = absurd one
there_for n member place logon (message ∷ messages) one = elim one [
  | inl is ↦ inl (record { same_member = is.same_member; same_place = is.same_place; same_logon = is.same_logon; link = is.link; before = inr (tt, refl) })
  | inr later ↦ inr (there_for n member place logon messages later)
]

is_of : (n member place : ℕ) (logon : Logon) (message : MessageTaken) → IsFor (Unit {0}) n member place logon message → IsOf member place logon message
is_of n member place logon message is = record { same_member = is.same_member; same_place = is.same_place; same_logon = is.same_logon; link = is.link }

back_for : (n member place : ℕ) (logon : Logon) (messages more : List MessageTaken) → HasFor (Unit {0}) n member (map (at_now n) messages ++ more) place logon → HasOne member (messages ++ more) place logon
back_for n member place logon [] more one = one_weaker (IsFor (Unit {0}) n member place logon) (IsOf member place logon) more (is_of n member place logon) one
back_for n member place logon (message ∷ messages) more one = elim one [
  | inl is ↦ inl (record { same_member = is.same_member; same_place = is.same_place; same_logon = is.same_logon; link = is.link })
  | inr later ↦ inr (back_for n member place logon messages more later)
]

-- ---- whatever else happens

-- what is known of messages stays known, as links, units and messages come
pub record StaysKnown (links later : List Route) (units more : List Sent) (messages after : List MessageTaken) (member : ℕ) : Type 0 where
  pub dialled : (number : ℕ) → IsDialledBy links member number → IsDialledBy later member number
  pub accepted : (number : ℕ) → IsAcceptedBy links member number → IsAcceptedBy later member number
  pub has : (place : ℕ) (logon : Logon) → HasOne member messages place logon → HasOne member after place logon
  pub out : (pending : Pending) (logon : Logon) (standing : Option ChannelIdentity) → OneOf (IsOutIn units member pending logon standing) messages →
      OneOf (IsOutIn more member pending logon standing) after

out_known : (units more : List Sent) (messages after : List MessageTaken) (controller member : ℕ) (r : Option Running) →
    ((pending : Pending) (logon : Logon) (standing : Option ChannelIdentity) → OneOf (IsOutIn units member pending logon standing) messages → OneOf (IsOutIn more member pending logon standing) after) →
    OutFor units messages controller member r → OutFor more after controller member r
out_known units more messages after controller member None so out = tt
out_known units more messages after controller member (Some running) so out =
    λ pending logon turn reply there. so pending logon (standing_channel controller running.logons.channel) (out pending logon turn reply there)

-- what is known of a member stays known as other things come
pub stays_known : (links later : List Route) (units more : List Sent) (messages after : List MessageTaken) (controller member : ℕ) (r : Option Running) →
    StaysKnown links later units more messages after member → MemberHolds links units messages controller member r → MemberHolds later more after controller member r
stays_known links later units more messages after controller member r so holds = record {
  asks = holds.asks;
  kept = kept_so (HasOne member messages) (HasOne member after) (λ number. IsDialledBy links member number) (λ number. IsDialledBy later member number) so.has so.dialled r holds.kept;
  accepts = in_so (λ number p. IsAcceptedBy links member number) (λ number p. IsAcceptedBy later member number) (λ number p. so.accepted number) r holds.accepts;
  out = out_known units more messages after controller member r so.out holds.out;
}

-- ---- a step

-- the logon of the turn was kept before, where it is kept after the step
abbrev pub KeptBack : Result (Part DialWork) StepRefused → Running → Type 0
KeptBack part running =
    (pending : Pending) (logon : Logon) (after : Part DialWork) → running.logons.channel.turn ≡ Some pending → part ≡ Ok after →
    lookup same_number pending.place after.value.0.logons.asked ≡ Some logon → lookup same_number pending.place running.logons.asked ≡ Some logon

-- the channel that stands is the same
pub same_channel : (controller : ℕ) (old new : Requester) (pending : Pending) → StaysOut old new pending → standing_channel controller old ≡ standing_channel controller new
same_channel controller old new pending stays =
    ap (λ (how : Standing). stands_in controller old.caller.computer how) (sym stays.standing)
    ∙ ap (λ (caller : Caller). stands_in controller caller.computer new.standing) (sym stays.caller)

pub has_out : (units : List Sent) (messages : List MessageTaken) (controller member : ℕ) → StaysBy (HasOut units messages controller member)
has_out units messages controller member = λ old new pending logon stays one.
    subst (λ (standing : Option ChannelIdentity). OneOf (IsOutIn units member pending logon standing) messages) (same_channel controller old new pending stays) one

-- where the logon of the turn stays kept
out_by : (P : Pending → Logon → Requester → Type 0) → StaysBy P → (part : Result (Part DialWork) StepRefused) (running : Running) (first : Result (Part DialWork) StepRefused) (now : ℕ)
    (left : List (List ℕ)) → StepsIfTaken first (ComesCalmly running.logons.channel) now part → OutBy P (Some running) → KeptBack part running →
    OutBy P (step_by actions_in state_in halted_state left part).state.running
out_by P stays (Err why) running first now left steps out back = tt
out_by P stays (Ok part) running first now left steps out back = λ pending logon turn reply there.
    let so : OutSteps running.logons.channel first part.value.0.logons.channel pending =
    out_steps running.logons.channel first now part.value.0.logons.channel part.left pending question.Logon steps turn reply in
    stays running.logons.channel part.value.0.logons.channel pending logon so.stays (out pending logon so.stays.turn reply (back pending logon part so.stays.turn refl there))

some_logon : (found : Option Logon) (one other : Logon) → found ≡ Some one → one ≡ other → found ≡ Some other
some_logon found one other is same = is ∙ ap (λ (l : Logon). Some l) same

-- no bytes come
quiet_back : (part : Result (Part DialWork) StepRefused) (running : Running) (left : List (List ℕ)) → AsksForKept (is_dialled running.dialling) running.logons →
    ((at : ℕ) (kept : Logon) → OfEach (Only at kept) running.logons.asked → KeptIn (Only at kept) Any (step_by actions_in state_in halted_state left part).state.running) → KeptBack part running
quiet_back part running left asks keeps pending logon after turn is there =
    let one : IsOnly pending.place running.logons.asked = only_kept (is_dialled running.dialling) running.logons pending asks turn in
    let all : KeptIn (Only pending.place one.logon) Any (step_by actions_in state_in halted_state left (Ok after)).state.running =
    subst (λ (p : Result (Part DialWork) StepRefused). KeptIn (Only pending.place one.logon) Any (step_by actions_in state_in halted_state left p).state.running) is
    (keeps pending.place one.logon one.only) in
    let same : logon ≡ one.logon = each_found (Only pending.place one.logon) pending.place after.value.0.logons.asked logon there all.0 refl in
    some_logon (lookup same_number pending.place running.logons.asked) one.logon logon one.kept (sym same)

pub quiet_out : (P : Pending → Logon → Requester → Type 0) → StaysBy P → (r : Option Running) (what : Event) (now : ℕ) (left : List (List ℕ)) → Dials Any what → AsksUnlessStopped r →
    OutBy P r → OutBy P (step_of (record { running = r }) what now left).state.running
quiet_out P stays None what now left dials asks out = tt
quiet_out P stays (Some running) what now left dials asks out =
    out_by P stays (event_part running what now left) running (by_event what running.dialling (work_of running) left) now left
    (channel_steps.other running what now left (not_bytes Any what running.dialling dials)) out
    (quiet_back (event_part running what now left) running left asks
    (λ at kept all. step_keeps (Only at kept) Any what (record { running = Some running }) now left dials (all, any_dialled running.dialling)))

-- a step at which no bytes come
pub quiet_holds : (links : List Route) (units : List Sent) (messages : List MessageTaken) (controller member : ℕ) (r : Option Running) (what : Event) (now : ℕ) (left : List (List ℕ)) →
    Dials (λ number. IsDialledBy links member number) what → Opens what (λ number p. IsAcceptedBy links member number) → MemberHolds links units messages controller member r →
    MemberHolds links units messages controller member (step_of (record { running = r }) what now left).state.running
quiet_holds links units messages controller member r what now left dials opens holds = record {
  asks = step_asks (record { running = r }) what now left holds.asks;
  kept = step_keeps (HasOne member messages) (λ number. IsDialledBy links member number) what (record { running = r }) now left dials holds.kept;
  accepts = step_known (λ number p. IsAcceptedBy links member number) what (record { running = r }) now left opens holds.accepts;
  out = quiet_out (HasOut units messages controller member) (has_out units messages controller member) r what now left
      (dials_so (λ number. IsDialledBy links member number) Any (λ number own. tt) what dials) holds.asks holds.out;
}

-- ---- bytes come, but not on the link of the turn

-- `number` isn't the link of the member's turn
abbrev pub IsOther : Option Running → ℕ → Type 0
IsOther None number = Unit {0}
IsOther (Some running) number = is_turn_link running.dialling number ≡ false

heard_if_not : (hit : Bool) (said : LinkState TurnTalk) (piece : List ℕ) → hit ≡ false → heard_if hit said piece ≡ []
heard_if_not false said piece is = refl
heard_if_not true said piece is = let x = is in cc

-- no whole unit is heard on another link
pub heard_not : (how : Dialling) (number : ℕ) (piece : List ℕ) → is_turn_link how number ≡ false → heard_in (event.Bytes number piece) how ≡ []
heard_not dialling.Nothing number piece is = refl
heard_not (dialling.Waits turn frames) number piece is = refl
heard_not (dialling.On other said) number piece is = heard_if_not (other == number) said piece is

bytes_back : (running : Running) (number : ℕ) (piece : List ℕ) (now : ℕ) (left : List (List ℕ)) → is_turn_link running.dialling number ≡ false →
    AsksForKept (is_dialled running.dialling) running.logons → KeptBack (event_part running (event.Bytes number piece) now left) running
bytes_back running number piece now left other asks pending logon after turn is there =
    let one : IsOnly pending.place running.logons.asked = only_kept (is_dialled running.dialling) running.logons pending asks turn in
    let leads : PartHolds (LeadsAfter pending one.logon) (Ok after) =
    subst (PartHolds (LeadsAfter pending one.logon)) is
    (bytes_lead pending one.logon running number piece now left other (record { coherent = asks.coherent; turn = turn; kept = one.kept })) in
    one.kept ∙ sym leads.kept ∙ there

pub bytes_out : (P : Pending → Logon → Requester → Type 0) → StaysBy P → (r : Option Running) (number : ℕ) (piece : List ℕ) (now : ℕ) (left : List (List ℕ)) → IsOther r number →
    AsksUnlessStopped r → OutBy P r → OutBy P (step_of (record { running = r }) (event.Bytes number piece) now left).state.running
bytes_out P stays None number piece now left other asks out = tt
bytes_out P stays (Some running) number piece now left other asks out =
    out_by P stays (event_part running (event.Bytes number piece) now left) running (by_event (event.Bytes number piece) running.dialling (work_of running) left) now left
    (channel_steps.other running (event.Bytes number piece) now left (heard_not running.dialling number piece other)) out (bytes_back running number piece now left other asks)

-- what is kept is of the messages, with those that are written down then
pub bytes_kept : (links : List Route) (messages : List MessageTaken) (w : LinkAt) (r : Option Running) (piece : List ℕ) (now : ℕ) (left : List (List ℕ)) →
    LinksIn (λ number p. IsAcceptedBy links w.member number) r → KeptIn (HasOne w.member messages) (λ number. IsDialledBy links w.member number) r →
    KeptIn (HasOne w.member (messages ++ flat_map (message_note w) (link_units (record { running = r }) w.link piece now left))) (λ number. IsDialledBy links w.member number)
    (step_of (record { running = r }) (event.Bytes w.link piece) now left).state.running
bytes_kept links messages w r piece now left accepts kept =
    let new : List MessageTaken = flat_map (message_note w) (link_units (record { running = r }) w.link piece now left) in
    let own : ℕ → Type 0 = λ number. IsDialledBy links w.member number in
    kept_so (HasFor (Unit {0}) w.at w.member (map (at_now w.at) messages ++ new)) (HasOne w.member (messages ++ new)) own own
    (λ place logon. back_for w.at w.member place logon messages new) (λ number is. is) (step_of (record { running = r }) (event.Bytes w.link piece) now left).state.running
    (bytes_keep Any own w (record { running = r }) piece now left (map (at_now w.at) messages)
    (in_so (λ number p. IsAcceptedBy links w.member number) (λ number p. Any number) (λ number p is. tt) r accepts)
    (kept_so (HasOne w.member messages) (HasFor (Unit {0}) w.at w.member (map (at_now w.at) messages)) own own (λ place logon. there_for w.at w.member place logon messages) (λ number is. is) r kept))

-- the links stay those that it accepted
pub bytes_accepts : (links : List Route) (w : LinkAt) (r : Option Running) (piece : List ℕ) (now : ℕ) (left : List (List ℕ)) → LinksIn (λ number p. IsAcceptedBy links w.member number) r →
    LinksIn (λ number p. IsAcceptedBy links w.member number) (step_of (record { running = r }) (event.Bytes w.link piece) now left).state.running
bytes_accepts links w r piece now left accepts =
    let may : ℕ → Type 0 = λ number. IsAcceptedBy links w.member number in
    took_known may (flat_map (taken_link w) (link_units (record { running = r }) w.link piece now left)) (step_of (record { running = r }) (event.Bytes w.link piece) now left).state.running
    (bytes_took may w (record { running = r }) piece now left accepts)

-- a step at which bytes come on another link
pub other_holds : (links : List Route) (units : List Sent) (messages : List MessageTaken) (controller : ℕ) (w : LinkAt) (r : Option Running) (piece : List ℕ) (now : ℕ)
    (left : List (List ℕ)) → IsOther r w.link → MemberHolds links units messages controller w.member r →
    MemberHolds links units (messages ++ flat_map (message_note w) (link_units (record { running = r }) w.link piece now left)) controller w.member
    (step_of (record { running = r }) (event.Bytes w.link piece) now left).state.running
other_holds links units messages controller w r piece now left other holds =
    let new : List MessageTaken = flat_map (message_note w) (link_units (record { running = r }) w.link piece now left) in
    record {
      asks = step_asks (record { running = r }) (event.Bytes w.link piece) now left holds.asks;
      kept = bytes_kept links messages w r piece now left holds.accepts holds.kept;
      accepts = bytes_accepts links w r piece now left holds.accepts;
      out = out_known units units messages (messages ++ new) controller w.member (step_of (record { running = r }) (event.Bytes w.link piece) now left).state.running
          (λ pending logon standing. one_before (IsOutIn units w.member pending logon standing) messages new)
          (bytes_out (HasOut units messages controller w.member) (has_out units messages controller w.member) r w.link piece now left other holds.asks holds.out);
    }
