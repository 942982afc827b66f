-- In every run each Logon call that goes out at a member next is for a message that the member took.
-- It serves `Proved.asked`, `Proved.sends`.
use Rattle.std.proofs.Common.{◌≡◌, ℕ, zero, suc, Bool, true, false, List, [], ◌∷◌, ◌++◌, map, Option, Some, None, Result, Ok, Err, refl, sym, ap, ap₂, subst, ◌∙◌, slice_get, inl, inr}
use Rattle.std.specs.List.{AllByRecursion}
use Rattle.wire_base.specs.Maps.{lookup, same_number}
use Rattle.wire_base.proofs.ListLaws.{one_weaker}
use Rattle.authenticators.specs.Channels.{ChannelIdentity, channel_key}
use Rattle.authenticators.specs.Sequences.{authenticator_of}
use Rattle.outside.specs.declared.action.Action.{Action}
use Rattle.outside.specs.declared.action.Action.TheVariants as action
use Rattle.rpc_units.specs.declared.refused.UnitRefused.{UnitRefused}
use Rattle.rpc_units.specs.declared.unit.Unit.{Unit as RpcUnit}
use Rattle.rpc_units.specs.Reading.{unit_of}
use Rattle.rpc_units.specs.Stream.{cut_stream}
use Rattle.end_links.specs.Links.{LinkState}
use Rattle.end_links.specs.Sending.{joined_frames}
use Rattle.end_links.specs.Serving.{ServedPart, ServedUnit, served_units}
use Rattle.channel_client.specs.declared.hearing.SetHearing.TheVariants as set_hearing
use Rattle.channel_client.specs.declared.caller.Caller.{Caller}
use Rattle.channel_client.specs.declared.hearing.Hearing.{Hearing}
use Rattle.channel_client.specs.declared.hearing.Hearing.TheVariants as hearing
use Rattle.channel_client.specs.declared.judging.Judgement.{Judgement}
use Rattle.channel_client.specs.declared.judging.Judgement.TheVariants as judgement
use Rattle.channel_client.specs.Effects.{seed_in}
use Rattle.channel_client.specs.State.{Requester}
use Rattle.channel_client.specs.Machine.{act, hear, judge, settle, SetOutcome, judge_set, settle_set}
use Rattle.member_server.specs.declared.plan.MemberPlan.{MemberPlan}
use Rattle.member_server.specs.declared.state.Logon.{Logon}
use Rattle.member_server.specs.declared.state.Logons.{Logons}
use Rattle.member_server.specs.declared.state.Running.{Running}
use Rattle.channel_turns.specs.declared.state.TurnTalk.{TurnTalk}
use Rattle.member_server.specs.Machine.{at_turn, work_of}
use Rattle.member_server.specs.Secrets.{next_of}
use Rattle.member_server.specs.State.{State as MemberState}
use Rattle.member_server.specs.Turns.{AtTurn, TurnServed, do_taken, turn_server, turn_unit}
use Rattle.channel_events.specs.Marks.{Calling, Mark, Opened, Opening, Plain, ReplyTo}
use Rattle.step_notes.specs.CallLogons.{AreFirst, AreForChange, AreForLogon, CarriesBy, CarriesItsLogon, IfCalling, IsFirstBy, IsForItsChange, IsForItsLogon, call_for, change_for, info_at}
use Rattle.step_notes.specs.ChannelNames.{AreFramesOf, AreFramesOfSet, sends_in}
use Rattle.step_notes.specs.Marking.{mark_if, turn_marks}
use Rattle.step_notes.specs.MemberNotes.{turn_note, turn_units}
use Rattle.step_notes.specs.Records.{MessageTaken}
use Rattle.step_notes.specs.Served.{work_after}
use Rattle.world_moves.specs.declared.moves.Move.{Move}
use Rattle.world_moves.specs.declared.plan.Plan.{Plan}
use Rattle.world_moves.specs.Plain.{IsPlainPlan}
use Rattle.domain_world.specs.Claims.AskedFor.{AreSentFor, AsksBy, AsksForItsMessage, IsForItsMessage, IsOfMessage, MembersAskForMessages, SendsAskForMessages}
use Rattle.domain_world.specs.Past.{past}
use Rattle.step_notes.proofs.ServedLaws.{served_such}
use Rattle.step_notes.proofs.Members.CallKeptLaws.{at_channel}
use Rattle.step_notes.proofs.Members.CallLogonLaws.{calls_carry}
use Rattle.step_notes.proofs.Members.KeptLogonLaws.{HasFor, IsFor, KeptIn, OfEach, each_found, turn_keeps}
use Rattle.step_notes.proofs.Members.RequestOrderLaws.{requests_first}
use Rattle.step_notes.proofs.Members.TurnUnitLaws.{taking_by, turn_units_such}
use Rattle.domain_world.proofs.Acceptance.LetInLaws.{HoldsOf, run_holds}
use Rattle.domain_world.proofs.Messages.KeptAskLaws.{members_ask, one_asks}

-- ---- what holds of what a member keeps, and of what it keeps behind a unit that the turn goes on after, holds before
-- each unit of the turn

module _ (Holds : Logons → Type 0) where
  abbrev pub HoldsBy : Option TurnTalk → Logons → Type 0
  HoldsBy None logons = Unit {0}
  HoldsBy (Some talk) logons = Holds logons

  any_by : (said : Option TurnTalk) (logons : Logons) → Holds logons → HoldsBy said logons
  any_by None logons holds = tt
  any_by (Some talk) logons holds = holds

  abbrev pub HoldsIn : Option Running → Type 0
  HoldsIn None = Unit {0}
  HoldsIn (Some running) = Holds running.logons

  abbrev pub AllHold : List (ServedUnit AtTurn TurnTalk) → Type 0
  AllHold units = AllByRecursion (λ (unit : ServedUnit AtTurn TurnTalk). Holds unit.work.work.logons) units

  abbrev pub HoldsPart : ServedPart AtTurn TurnTalk → Type 0
  HoldsPart (Err why) = Unit {0}
  HoldsPart (Ok part) = HoldsBy part.value.1 part.value.0.work.logons

  module _ (keeps : (unit : Result RpcUnit UnitRefused) (joiner : Option RpcUnit) (at : AtTurn) → Holds at.work.logons →
      HoldsBy (turn_unit unit joiner at).1 (turn_unit unit joiner at).0.work.logons) where
    units_hold : (said : LinkState TurnTalk) (number : ℕ) (piece : List ℕ) (running : Running) (left : List (List ℕ)) → Holds running.logons →
        AllHold (served_units turn_server (cut_stream (said.rest ++ piece)).units (at_turn number (work_of running)) said.talk left)
    units_hold said number piece running left holds =
        served_such turn_server HoldsPart (λ (unit : ServedUnit AtTurn TurnTalk). Holds unit.work.work.logons)
        (λ bytes at talk left holds. (holds, keeps (unit_of bytes) talk.joiner at holds))
        (cut_stream (said.rest ++ piece)).units (at_turn number (work_of running)) said.talk left holds

    all_hold : (m : MemberState) (number : ℕ) (piece : List ℕ) (now : ℕ) (left : List (List ℕ)) → HoldsIn m.running → AllHold (turn_units m number piece now left)
    all_hold m number piece now left holds =
        turn_units_such (λ (unit : ServedUnit AtTurn TurnTalk). Holds unit.work.work.logons) (λ how running. Holds running.logons) number piece left
        (λ other said running known. units_hold said number piece running left known) m now (λ running is. subst HoldsIn is holds)

-- what holds of each logon that is kept
module _ (Fits : ℕ → Logon → Type 0) where
  abbrev pub EachFits : Logons → Type 0
  EachFits logons = OfEach Fits logons.asked

  kept_in : (Own : ℕ → Type 0) (r : Option Running) → KeptIn Fits Own r → HoldsIn EachFits r
  kept_in Own None kept = tt
  kept_in Own (Some running) kept = kept.0

  pub all_fit : (Own : ℕ → Type 0) (m : MemberState) (number : ℕ) (piece : List ℕ) (now : ℕ) (left : List (List ℕ)) → KeptIn Fits Own m.running →
      AllHold EachFits (turn_units m number piece now left)
  all_fit Own m number piece now left kept =
      all_hold EachFits
      (λ unit joiner at all. any_by EachFits (turn_unit unit joiner at).1 (turn_unit unit joiner at).0.work.logons (turn_keeps Fits (λ number. Unit {0}) unit joiner at all))
      m number piece now left (kept_in Own m.running kept)

-- ---- the plan, what is kept and the channel that stands are as they were before the step

pub record AreAsBefore (r : Option Running) (logons : Logons) : Type 0 where
  pub running : Running
  pub runs : r ≡ Some running
  pub plan : logons.plan ≡ running.logons.plan
  pub asked : logons.asked ≡ running.logons.asked
  pub standing : logons.channel.standing ≡ running.logons.channel.standing
  pub caller : logons.channel.caller ≡ running.logons.channel.caller

as_first : (r : Option Running) → HoldsIn (AreAsBefore r) r
as_first None = tt
as_first (Some running) = record { running = running; runs = refl; plan = refl; asked = refl; standing = refl; caller = refl }

module _ (r : Option Running) where
  as_settled : (j : Judgement) (joiner : Option RpcUnit) (at : AtTurn) →
      let served : TurnServed = do_taken (settle j at.work.logons.channel).taken joiner (at_channel at (settle j at.work.logons.channel).state) in
      HoldsBy (AreAsBefore r) served.1 served.0.work.logons
  as_settled (judgement.Half client server) joiner at = tt
  as_settled (judgement.Opened o) joiner at = tt
  as_settled (judgement.Answer o v) joiner at = tt
  as_settled (judgement.Drop cause) joiner at = tt

  as_set : (judged : SetOutcome) (joiner : Option RpcUnit) (at : AtTurn) →
      let served : TurnServed = do_taken (settle_set judged at.work.logons.channel).taken joiner (at_channel at (settle_set judged at.work.logons.channel).state) in
      HoldsBy (AreAsBefore r) served.1 served.0.work.logons
  as_set (Ok o) joiner at = tt
  as_set (Err cause) joiner at = tt

  as_acted : (h : Hearing) (joiner : Option RpcUnit) (at : AtTurn) → AreAsBefore r at.work.logons →
      let served : TurnServed = do_taken (act h at.work.logons.channel).taken joiner (at_channel at (act h at.work.logons.channel).state) in
      HoldsBy (AreAsBefore r) served.1 served.0.work.logons
  as_acted hearing.Skip joiner at alike = alike
  as_acted (hearing.Next q frames) joiner at alike =
      record { running = alike.running; runs = alike.runs; plan = alike.plan; asked = alike.asked; standing = alike.standing; caller = alike.caller }
  as_acted (hearing.Reply q reply) joiner at alike =
      as_settled (judge q reply at.work.logons.channel.standing at.work.logons.channel.caller.secret) joiner at
  as_acted (hearing.Drop cause) joiner at alike = tt
  as_acted (hearing.Set (set_hearing.Next frames)) joiner at alike =
      record { running = alike.running; runs = alike.runs; plan = alike.plan; asked = alike.asked; standing = alike.standing; caller = alike.caller }
  as_acted (hearing.Set (set_hearing.Reply reply)) joiner at alike = as_set (judge_set reply at.work.logons.channel.standing) joiner at

  as_kept : (unit : Result RpcUnit UnitRefused) (joiner : Option RpcUnit) (at : AtTurn) → AreAsBefore r at.work.logons →
      HoldsBy (AreAsBefore r) (turn_unit unit joiner at).1 (turn_unit unit joiner at).0.work.logons
  as_kept unit joiner at alike =
      let s : Requester = at.work.logons.channel in
      taking_by at (λ taking served. HoldsBy (AreAsBefore r) served.1 served.0.work.logons) (record {
        waits = λ after. alike;
        takes = λ unit after. as_acted (hear s.turn unit s.next_call) after at alike;
        breaks = λ cause. tt;
      }) unit joiner

for_same : (controller : ℕ) (one other : Logons) (channel : ChannelIdentity) (number timestamp : ℕ) (frames : List (List ℕ)) → one.plan ≡ other.plan → one.asked ≡ other.asked →
    one.channel.standing ≡ other.channel.standing → one.channel.caller ≡ other.channel.caller → AreForLogon controller one channel number timestamp frames → AreForLogon controller other channel number timestamp frames
for_same controller one other channel number timestamp frames plan asked standing caller are = record {
  place = are.place;
  logon = are.logon;
  kept = subst (λ (a : List (ℕ × Logon)). lookup same_number are.place a ≡ Some are.logon) asked are.kept;
  with_controller = are.with_controller;
  computer = are.computer ∙ ap (λ (p : MemberPlan). p.computer) plan;
  secret = are.secret ∙ ap (λ (c : Caller). c.secret) caller;
  seed = are.seed;
  moved = sym (ap seed_in standing) ∙ are.moved;
  asks = subst (λ (p : MemberPlan). AreFramesOf number (call_for p (authenticator_of (channel_key channel) are.seed timestamp) are.place are.logon) frames) plan are.asks;
}

change_same : (controller : ℕ) (one other : Logons) (channel : ChannelIdentity) (number timestamp : ℕ) (frames : List (List ℕ)) → one.plan ≡ other.plan →
    one.channel.standing ≡ other.channel.standing → one.channel.caller ≡ other.channel.caller → AreForChange controller one channel number timestamp frames → AreForChange controller other channel number timestamp frames
change_same controller one other channel number timestamp frames plan standing caller are = record {
  next = are.next;
  kept = subst (λ (p : MemberPlan). next_of p.secrets ≡ Some are.next) plan are.kept;
  with_controller = are.with_controller;
  computer = are.computer ∙ ap (λ (p : MemberPlan). p.computer) plan;
  secret = are.secret ∙ ap (λ (c : Caller). c.secret) caller;
  seed = are.seed;
  moved = sym (ap seed_in standing) ∙ are.moved;
  asks = subst (λ (p : MemberPlan). AreFramesOfSet number (change_for p (authenticator_of (channel_key channel) are.seed timestamp) (channel_key channel) are.next) frames) plan are.asks;
}

-- ---- each call is for the message of its logon

if_so : (Fits Later : ChannelIdentity → ℕ → ℕ → Type 0) → ((channel : ChannelIdentity) (number timestamp : ℕ) → Fits channel number timestamp → Later channel number timestamp) → (mark : Mark) →
    IfCalling Fits mark → IfCalling Later mark
if_so Fits Later so Plain is = tt
if_so Fits Later so (Opening channel number) is = tt
if_so Fits Later so (Opened channel number request) is = tt
if_so Fits Later so (ReplyTo channel number request) is = tt
if_so Fits Later so (Calling channel number timestamp) is = so channel number timestamp is

module _ (most member : ℕ) (messages : List MessageTaken) where
  of_message : (place : ℕ) (logon : Logon) (message : MessageTaken) → IsFor ⊥ most member place logon message → IsOfMessage member place logon message
  of_message place logon message is = record {
    same_member = is.same_member;
    same_place = is.same_place;
    asks = ap₂ (λ (n : ℕ) (l : Logon). info_at n l) (sym is.same_place) (sym is.same_logon);
  }

  by_message : (controller : ℕ) (before : AtTurn) (later : Option AtTurn) (called : Option ℕ) (mark : Mark) → EachFits (HasFor ⊥ most member messages) before.work.logons →
      CarriesBy called mark controller before later → AsksBy called member messages controller before later mark
  by_message controller before later None mark all is = is
  by_message controller before later (Some called) mark all is =
      if_so (IsForItsLogon controller before later (Some called)) (IsForItsMessage member messages controller before later (Some called)) (
      λ channel number timestamp carries. record {
        carries = carries;
        message = one_weaker (λ (message : MessageTaken). IsFor ⊥ most member carries.asks.place carries.asks.logon message)
            (λ (message : MessageTaken). IsOfMessage member carries.asks.place carries.asks.logon message) messages (of_message carries.asks.place carries.asks.logon)
            (each_found (HasFor ⊥ most member messages) carries.asks.place before.work.logons.asked carries.asks.logon carries.asks.kept all);
      }
      ) mark is

  all_ask : (controller : ℕ) (units : List (ServedUnit AtTurn TurnTalk)) → AllHold (EachFits (HasFor ⊥ most member messages)) units →
      AllByRecursion (CarriesItsLogon controller) units → AllByRecursion (AsksForItsMessage member messages controller) units
  all_ask controller [] all carry = tt
  all_ask controller (unit ∷ units) all carry = (
    by_message controller unit.work (work_after unit.part) (turn_note controller unit).called (turn_note controller unit).mark all.0 carry.0,
    all_ask controller units all.1 carry.1,
  )

-- ---- a run

-- in every run each Logon call that goes out next is for a message
pub members_ask_for_messages : (plan : Plan) (moves : List Move) → IsPlainPlan plan → MembersAskForMessages (past plan moves)
members_ask_for_messages plan moves nothing member m there controller number piece now left =
    let holds : HoldsOf (past plan moves).world (past plan moves).book = run_holds plan moves nothing in
    let most : ℕ = (past plan moves).world.moves in
    let messages : List MessageTaken = (past plan moves).book.messages in
    all_ask most member messages controller (turn_units m number piece now left)
    (all_fit (HasFor ⊥ most member messages) _ m number piece now left (holds.keeps.each member m there))
    (calls_carry.carries controller m number piece now left (one_asks (past plan moves).world.state.ends.members member m there (members_ask plan moves nothing)))

-- ---- the place of a mark is that of what is sent for it

pub last_is : (old : List Action) (one other : Action) → old ++ one ∷ [] ≡ old ++ other ∷ [] → one ≡ other
last_is [] one other is = let x = is in cc
last_is (first ∷ old) one other is = last_is old one other (let x = is in cc)

pub bytes_are : (link : ℕ) (one other : List ℕ) → action.Send link one ≡ action.Send link other → one ≡ other
bytes_are link one other is = let x = is in cc

module _ (member : ℕ) (m : MemberState) (messages : List MessageTaken) (controller : ℕ) where
  abbrev pub AreSentBy : Mark → List ℕ → Type 0
  AreSentBy mark bytes = IfCalling (AreSentFor member m messages controller bytes) mark

  sent_is : (before done : AtTurn) (later : Option AtTurn) (called : Option ℕ) (bytes : List ℕ) (mark : Mark) → AreAsBefore m.running before.work.logons → later ≡ Some done →
      done.work.actions ≡ before.work.actions ++ action.Send before.link bytes ∷ [] → AsksBy called member messages controller before later mark →
      AreSentBy mark bytes
  unfolding for_same
  sent_is before done later None bytes mark alike comes sends is =
      if_so (IsForItsChange controller before later) (AreSentFor member m messages controller bytes) (
      λ channel number timestamp its.
      let both : Some done ≡ Some its.done = sym comes ∙ its.comes in
      let same : done ≡ its.done = (let x = both in cc) in
      inr (record {
        running = alike.running;
        runs = alike.runs;
        frames = its.frames;
        asks = change_same controller before.work.logons alike.running.logons channel number timestamp its.frames alike.plan alike.standing alike.caller its.asks;
        is = bytes_are before.link bytes (joined_frames its.frames)
            (last_is before.work.actions (action.Send before.link bytes) (action.Send before.link (joined_frames its.frames))
            (sym sends ∙ ap (λ (at : AtTurn). at.work.actions) same ∙ its.sends));
      })
      ) mark is
  sent_is before done later (Some called) bytes mark alike comes sends is =
      if_so (IsForItsMessage member messages controller before later (Some called)) (AreSentFor member m messages controller bytes) (
      λ channel number timestamp its.
      let both : Some done ≡ Some its.carries.done = sym comes ∙ its.carries.comes in
      let same : done ≡ its.carries.done = (let x = both in cc) in
      inl (record {
        running = alike.running;
        runs = alike.runs;
        frames = its.carries.frames;
        asks = for_same controller before.work.logons alike.running.logons channel number timestamp its.carries.frames alike.plan alike.asked alike.standing alike.caller its.carries.asks;
        message = its.message;
        is = bytes_are before.link bytes (joined_frames its.carries.frames)
            (last_is before.work.actions (action.Send before.link bytes) (action.Send before.link (joined_frames its.carries.frames))
            (sym sends ∙ ap (λ (at : AtTurn). at.work.actions) same ∙ its.carries.sends));
      })
      ) mark is

  abbrev pub AtPlace : List Mark → List Action → Type 0
  AtPlace marks actions = (place : ℕ) (mark : Mark) (bytes : List ℕ) → slice_get marks place ≡ Some mark → slice_get (sends_in actions) place ≡ Some bytes →
      AreSentBy mark bytes

  first_place : (mark : Mark) (marks : List Mark) (bytes : List ℕ) (more : List Action) (link : ℕ) → AreSentBy mark bytes → AtPlace marks more →
      AtPlace (mark ∷ marks) (action.Send link bytes ∷ more)
  first_place mark marks bytes more link sent later zero found sends marked is =
      let one : mark ≡ found = (let x = marked in cc) in
      let other : bytes ≡ sends = (let x = is in cc) in
      subst (λ (b : List ℕ). AreSentBy found b) other (subst (λ (x : Mark). AreSentBy x bytes) one sent)
  first_place mark marks bytes more link sent later (suc place) found sends marked is = later place found sends marked is

  by_place : (sends : Bool) (mark : Mark) (marks : List Mark) (called : Option ℕ) (before : AtTurn) (later : Option AtTurn) (actions : List Action) (Holds : List Action → Type 0) →
      ((more : List Action) → Holds more → AtPlace marks more) → AreAsBefore m.running before.work.logons →
      AsksBy called member messages controller before later mark → IsFirstBy sends before later actions Holds → AtPlace (mark_if sends mark ++ marks) actions
  by_place false mark marks called before later actions Holds so alike asks first = so actions first
  by_place true mark marks called before later actions Holds so alike asks first =
      subst (λ (a : List Action). AtPlace (mark ∷ marks) a) (sym first.3)
      (first_place mark marks first.0 first.1 before.link (sent_is before first.2 later called first.0 mark alike first.4 first.5 asks) (so first.1 first.6))

  none_place : (actions : List Action) → AtPlace [] actions
  none_place actions zero mark bytes marked is = absurd (let x = marked in cc)
  none_place actions (suc place) mark bytes marked is = absurd (let x = marked in cc)

  all_place : (units : List (ServedUnit AtTurn TurnTalk)) (actions : List Action) → AllHold (AreAsBefore m.running) units →
      AllByRecursion (AsksForItsMessage member messages controller) units → AreFirst controller units actions → AtPlace (turn_marks (map (turn_note controller) units)) actions
  all_place [] actions alike asks first = none_place actions
  all_place (unit ∷ units) actions alike asks first =
      by_place (turn_note controller unit).sends (turn_note controller unit).mark (turn_marks (map (turn_note controller) units)) (turn_note controller unit).called unit.work (work_after unit.part) actions
      (λ more. AreFirst controller units more) (λ more rest. all_place units more alike.1 asks.1 rest) alike.0 asks.0 first

-- in every run each mark of the next step is that of what is sent in its place
pub sends_ask_for_messages : (plan : Plan) (moves : List Move) → IsPlainPlan plan → SendsAskForMessages (past plan moves)
sends_ask_for_messages plan moves nothing member m there controller number piece now left actions is =
    all_place member m (past plan moves).book.messages controller (turn_units m number piece now left) actions
    (all_hold (AreAsBefore m.running) (as_kept m.running) m number piece now left (as_first m.running))
    (members_ask_for_messages plan moves nothing member m there controller number piece now left)
    (requests_first.first controller m number piece now left actions is)
