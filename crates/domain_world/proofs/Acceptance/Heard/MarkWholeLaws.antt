-- In every schedule each unit of the bag that was made for a secure channel is one whole unit, and is what its mark
-- says. It serves `marked_units_are_whole` and `Proved.whole`.
use Rattle.std.proofs.Common.{◌≡◌, ℕ, ◌%◌, ◌<◌, ◌^◌, Bool, true, false, List, ◌++◌, drop, length, map, inl, inr, Option, Some, None, Ok, slice_get, refl, sym, ap, subst, ◌∙◌, arith, []}
use Rattle.std.specs.Prelude.{filter}
use Rattle.std.proofs.lemmas.List.{drop_at}
use Rattle.wire_base.specs.Numbers.{AreBytes}
use Rattle.authenticators.specs.Channels.{ChannelIdentity}
use Rattle.outside.specs.declared.event.Event.TheVariants as event
use Rattle.channel_keys.specs.Credentials.{cred_of}
use Rattle.authenticators.proofs.BlockLaws.{cred_block}
use Rattle.rpc_units.specs.declared.unit.Unit.{Unit as RpcUnit}
use Rattle.rpc_units.specs.Calls.{IsHeard}
use Rattle.rpc_units.specs.Joining.{stub_of}
use Rattle.logon_stubs.specs.Calls.{reply_of}
use Rattle.logon_stubs.specs.Writing.{written_reply}
use Rattle.logon_stubs.specs.declared.calls.Reply.TheVariants as reply
use Rattle.logon_stubs.proofs.AnswerLaws.{answers_are_long}
use Rattle.end_links.specs.Whole.{IsWholeSend}
use Rattle.domain_controller.specs.ReadBack.{IsReadBack, heard_reply, opened_reply}
use Rattle.domain_controller.specs.State.{State as ControllerState}
use Rattle.domain_controller.proofs.AloneLaws.{number_fits, reply_alone}
use Rattle.domain_controller.proofs.ReadBackLaws.{replies_are_read_back}
use Rattle.domain_controller.proofs.TrustPlaceLaws.{got_all}
use Rattle.member_server.specs.State.{State as MemberState}
use Rattle.member_server.specs.declared.state.Running.{Running}
use Rattle.end_links.specs.Sending.{request_of}
use Rattle.channel_client.specs.declared.caller.Caller.{Caller}
use Rattle.step_notes.specs.CallLogons.{AsksUnlessStopped}
use Rattle.member_server.specs.Machine.{account_of}
use Rattle.domain_world.specs.Schedules.{OfSchedules}
use Rattle.domain_world.proofs.Frames.AloneNoteLaws.{note_alone as note_at, note_controller_alone as note_controller}
use Rattle.domain_world.proofs.Frames.AloneStepLaws.{act_alone as hear_and_act}
use Rattle.domain_world.proofs.Acceptance.CarriedLaws.{one_whole}
use Rattle.channel_events.specs.Marks.{Mark, Plain, Opening, Opened, Calling, ReplyTo}
use Rattle.step_notes.specs.JudgedInRange.{IsReadAsMade}
use Rattle.step_notes.specs.MemberNotes.{turn_units}
use Rattle.step_notes.specs.Records.{Book, Forward, Judging, OfMember, Sent}
use Rattle.step_notes.specs.ReplySends.{IsOpeningReply, IsReplyOfCall}
use Rattle.step_notes.proofs.Controllers.JudgedInRangeLaws.{replies_are_read}
use Rattle.world_moves.specs.declared.bag.BagUnit.{BagUnit}
use Rattle.world_moves.specs.declared.links.EndId.{EndId}
use Rattle.world_moves.specs.declared.links.EndId.TheVariants.{Controller, Member, Client}
use Rattle.world_moves.specs.declared.links.LinkKind.TheVariants as kind
use Rattle.world_moves.specs.declared.links.Route.{Route}
use Rattle.world_moves.specs.declared.links.Route.TheVariants.{ToController}
use Rattle.world_moves.specs.declared.moves.Move.{Move}
use Rattle.world_moves.specs.declared.plan.Plan.{Plan}
use Rattle.world_moves.specs.declared.state.State.{State}
use Rattle.world_moves.specs.Acting.{Given, AfterHearing, done, heard_by}
use Rattle.world_moves.specs.Ends.{EndStep, client_step}
use Rattle.world_moves.specs.Forms.{IsSchedule}
use Rattle.world_moves.specs.Links.{is_own, kind_of}
use Rattle.world_moves.specs.Alone.{IsPlainAlone, alone_controller_step as controller_step}
use Rattle.world_moves.proofs.LinkFrameLaws.{IsOnLink, actions_stay}
use Rattle.world_moves.specs.Plain.{plain_member_step as member_step}
use Rattle.domain_world.specs.Accepting.Carried.{IsAsMarked, IsNoAnswer, IsPlain, MarkedUnitsAreWhole, IsNotJudged, call_judged}
use Rattle.domain_world.specs.Claims.Replies.{IsReplyOfOne}
use Rattle.domain_world.specs.Past.{Delivery, at_controller, beside_mark, controller_asked, marks_of, note_given, note_member, note_messages, other_marks, past, sent_at, still_waits}
use Rattle.wire_base.proofs.ListLaws.{got_append, got_nothing, some_is}
use Rattle.domain_world.proofs.Acceptance.Heard.HeardFrontLaws.{IsOfRequest, of_request, opens_no_logon, reply_no_call}
use Rattle.domain_world.proofs.Acceptance.Heard.HeardUnitLaws.{heard_stub}
use Rattle.domain_world.proofs.Acceptance.Heard.JudgedRunLaws.{judged_stand}
use Rattle.domain_world.proofs.Acceptance.Heard.JudgedUnitLaws.{IsCarriedCall, IsJudgedWell, JudgedStand, route_of}
use Rattle.domain_world.proofs.Acceptance.LetInStepLaws.{IsDialledBy}
use Rattle.domain_world.proofs.Acceptance.Heard.BoundOpeningLaws.{AllAskSo, AsksSo, AsksWell, BoundIf, all_fresh_so, asks_written, no_part, one_asks_so}
use Rattle.domain_world.proofs.Acceptance.Heard.MarkSentLaws.{CarriesMark, FitsWell, IsRequestSent, NamesWell, SendsIf, controller_sends, makes_marks, member_sends}
use Rattle.wire_base.proofs.ListPlaceLaws.{Placed, placed}
use Rattle.domain_world.proofs.Quiet.QuietRunLaws.{comes_whole, has_bytes, quiet_first, quiet_keeps}
use Rattle.domain_world.proofs.Quiet.QuietStepLaws.{MemberIsQuiet, QuietAction, QuietFact, QuietState}
use Rattle.domain_world.proofs.Quiet.QuietTurnLaws.{IfOn}
use Rattle.domain_world.proofs.Frames.BagFrameLaws.{IsMarked, IsOfUnit, IsServer, OfEachUnit, UnitFact, controller_marks, goes_on_with, member_marks, others_marked, plain_beside}
use Rattle.domain_world.proofs.Frames.BagStepLaws.{BagKeeps, BookFact, run_fits}
use Rattle.domain_world.proofs.Moves.ComingLaws.{CameFrom, IsStill, StillHas}
use Rattle.domain_world.proofs.Moves.FrontLaws.{controller_unit}
use Rattle.domain_world.proofs.Moves.MarkPlaceLaws.{marks_length, plain_of_none}
use Rattle.domain_world.proofs.Moves.NewUnitLaws.{new_or_plain}
use Rattle.domain_world.proofs.Moves.OpenMadeLaws.{IsAtSide, IsMore, MoreOf, goes_on, no_more}
use Rattle.domain_world.proofs.Frames.StepFrameLaws.{HoldsAfterRun, run_keeps}
use Rattle.domain_world.proofs.Judgements.ReplyLaws.{replies_carry}
use Rattle.domain_world.proofs.Frames.TurnFrameLaws.{turns_sent, asked_book}
use Rattle.domain_world.proofs.Moves.PlacedLaws.{bytes_in, HasBytes}
use Rattle.domain_world.proofs.Frames.EndNoteLaws.{acted_by, bytes_forwards}
use Rattle.domain_world.proofs.Moves.PlainFormLaws.{heard_plain, plain_is}

-- ---- what is to hold of each unit

-- what was made for a channel goes between a member and a controller, and is what is sent for its mark
abbrev pub FitsMark : BagUnit → Mark → Type 0
FitsMark unit mark = (IsPlain mark → ⊥) → (unit.kind ≡ kind.ToController) × CarriesMark mark unit.bytes

abbrev pub OfMark : UnitFact (Unit {0})
OfMark x number unit mark = FitsMark unit mark

abbrev pub MarksFit : BookFact
MarksFit bag b = OfEachUnit OfMark tt bag b.sent

plain_fits : (unit : BagUnit) (mark : Mark) → mark ≡ Plain → FitsMark unit mark
plain_fits unit mark is not = absurd (not (subst IsPlain (sym is) tt))

still_fit : (old bag : List BagUnit) (b : Book) → StillHas old bag → MarksFit old b → MarksFit bag b
still_fit old bag b still each number one there =
    let had : IsOfUnit OfMark tt old number one.mark = each number one there in
    let now : IsStill had.unit bag number = still number had.unit had.there in
    record {
      unit = now.now;
      there = now.there;
      holds = λ not. let is = had.holds not in (now.kind ∙ is.0, subst (λ (bytes : List ℕ). CarriesMark one.mark bytes) (sym now.bytes) is.1);
    }

-- marks fit, and nothing is handed on
abbrev FitAlone : BookFact
FitAlone bag b = MarksFit bag b × (b.forwards ≡ [])

-- marks fit on as what is given is written down: the other units are made for no channel
over_fit : (at : ℕ) (given : Given) (s : State) (b : Book) → FitAlone s.bag b → FitAlone s.bag (note_given at given s b)
over_fit at given s b fits =
    let beside : BagUnit → Mark = λ unit. beside_mark b.forwards s unit in
    let marked : IsMarked OfMark tt s.bag (b.sent ++ map (sent_at at) (other_marks b.forwards s (length b.sent))) =
    others_marked OfMark tt beside (λ number unit. plain_fits unit (beside unit) (plain_beside b.forwards s unit fits.1)) s.bag b.sent at fits.0 in
    (marked.each, ap (λ (all : List Forward). filter (still_waits s) all) fits.1)

-- ---- where an end hears bytes

-- new units get these marks
fit_more : (bag after units : List BagUnit) (sent : List Sent) (link : ℕ) (back : Bool) (marks : List Mark) (at : ℕ) → after ≡ bag ++ units → length sent ≡ length bag →
    ((place : ℕ) (unit : BagUnit) (mark : Mark) → slice_get units place ≡ Some unit → slice_get (marks_of link back units marks) place ≡ Some mark → FitsMark unit mark) →
    OfEachUnit OfMark tt bag sent → OfEachUnit OfMark tt after (sent ++ map (sent_at at) (marks_of link back (drop (length bag) after) marks))
fit_more bag after units sent link back marks at is same fresh each =
    let new : drop (length bag) after ≡ units = ap (λ (all : List BagUnit). drop (length bag) all) is ∙ drop_at bag units (length bag) refl in
    let all : OfEachUnit OfMark tt (bag ++ units) (sent ++ map (sent_at at) (marks_of link back units marks)) =
    goes_on_with OfMark tt tt bag units sent (marks_of link back units marks) at same (λ number unit one there noted holds. holds) (marks_length link back units marks) fresh each in
    subst (λ (b : List BagUnit). OfEachUnit OfMark tt b (sent ++ map (sent_at at) (marks_of link back (drop (length bag) after) marks))) (sym is)
    (subst (λ (more : List BagUnit). OfEachUnit OfMark tt (bag ++ units) (sent ++ map (sent_at at) (marks_of link back more marks))) (sym new) all)

-- a unit on a link between a member and a controller
member_kind : (links : List Route) (unit : BagUnit) (link member controller : ℕ) → IsOnLink links unit → unit.link ≡ link → slice_get links link ≡ Some (ToController member controller) →
    unit.kind ≡ kind.ToController
member_kind links unit link member controller on here made =
    let same : on.route ≡ ToController member controller =
    some_is on.route (ToController member controller) (sym on.made ∙ ap (λ (n : ℕ). slice_get links n) here ∙ made) in
    sym on.same_kind ∙ ap kind_of same

controller_kind : (links : List Route) (unit : BagUnit) (link : ℕ) (back : Bool) (at : ℕ) → IsOnLink links unit → unit.link ≡ link → IsAtSide links link back (Controller at) →
    unit.kind ≡ kind.ToController
controller_kind links unit link back at on here side =
    let same : on.route ≡ side.route = some_is on.route side.route (sym on.made ∙ ap (λ (n : ℕ). slice_get links n) here ∙ side.made) in
    let route = route_of back side.route at side.apart side.side (ap (λ (r : Route). is_own (kind_of r)) (sym same) ∙ on.own) in
    member_kind links unit link route.0 at on here (side.made ∙ ap (λ (r : Route). Some r) route.1)

controller_fits : (c : ControllerState) (at : ℕ) (w : Delivery) (piece : List ℕ) (s : State) (b : Book) → IsAtSide s.links w.link w.back (Controller at) → length b.sent ≡ length s.bag →
    MarksFit s.bag b →
    let after : State = (done (Controller at) (heard_by (controller_step (Some c) at (event.Bytes w.link piece) s.moment s.ends s.chances) s)).state in
    MarksFit after.bag (note_controller (Some c) at w piece s after b)
controller_fits c at w piece s b side same each =
    let heard : AfterHearing = heard_by (controller_step (Some c) at (event.Bytes w.link piece) s.moment s.ends s.chances) s in
    let after : State = (done (Controller at) heard).state in
    let more : IsMore s.links s.bag after.links after.bag = actions_stay (MoreOf s.links s.bag) (goes_on s.links s.bag) (Controller at) heard.actions heard.state (no_more s.links s.bag) in
    fit_more s.bag after.bag more.units b.sent w.link true (controller_marks at c w piece s) w.at more.is same
    (λ place unit mark there marked.
    elim (controller_unit c at w.link w.back piece s (at_controller at c w s) side more.units more.is more.on place unit mark there marked) [
      | inl plain ↦ plain_fits unit mark plain
      | inr new ↦ λ not. (
        controller_kind s.links unit w.link w.back at (got_all (IsOnLink s.links) more.units place unit more.on there) new.on side,
        controller_sends c at w piece s new.place mark unit.bytes new.marked new.sends,
      )
    ]) each

-- who asks has the names of its plan
named_well : (running : Running) → AsksUnlessStopped (Some running) → BoundIf (Some running) → NamesWell running.logons.channel
named_well running asks bound = record {
  account = ap (λ (c : Caller). c.account) asks.caller ∙ ap (λ (c : Caller). account_of c.computer) (sym asks.caller);
  kind = ap (λ (c : Caller). c.kind) asks.caller;
  set = asks.own.set;
  bound = bound;
}

pub known_running : (links : List Route) (k : ℕ) (r : Option Running) (running : Running) → r ≡ Some running → MemberIsQuiet links k r → AsksUnlessStopped r → BoundIf r →
    FitsWell running.logons.channel × IfOn (IsDialledBy links k) running.dialling
known_running links k None running is quiet asks bound = absurd (let never = is in cc)
known_running links k (Some one) running is quiet asks bound =
    subst (λ (x : Running). FitsWell x.logons.channel × IfOn (IsDialledBy links k) x.dialling) (some_is one running is) ((quiet.range.channel, named_well one asks bound), quiet.turn)

member_fits : (m : MemberState) (at : ℕ) (w : Delivery) (piece : List ℕ) (s : State) (b : Book) → slice_get s.ends.members at ≡ Some m → QuietState s → AsksSo m → CameFrom w.source s w piece →
    length b.sent ≡ length s.bag → MarksFit s.bag b →
    let after : State = (done (Member at) (heard_by (member_step (Some m) at (event.Bytes w.link piece) s.moment s.ends s.chances) s)).state in
    MarksFit after.bag (note_member (Some m) at w piece s after b)
member_fits m at w piece s b is quiet asks came same each =
    let heard : AfterHearing = heard_by (member_step (Some m) at (event.Bytes w.link piece) s.moment s.ends s.chances) s in
    let after : State = (done (Member at) heard).state in
    let marks : List Mark = member_marks at m w piece s in
    let more : IsMore s.links s.bag after.links after.bag = actions_stay (MoreOf s.links s.bag) (goes_on s.links s.bag) (Member at) heard.actions heard.state (no_more s.links s.bag) in
    let sends : SendsIf CarriesMark (IsDialledBy s.links at w.link) w.link marks heard.actions =
    member_sends CarriesMark (IsDialledBy s.links at) (controller_asked (OfMember at) s) w.link piece s.chances.left (λ own. comes_whole w.source s w piece quiet.bag came (at, own.controller, own.at)) m
    s.moment
    (λ running runs.
    let known = known_running s.links at m.running running runs (quiet.members at m is) asks.0 asks.1 in
    (makes_marks (controller_asked (OfMember at) s) piece running.logons.channel known.0, known.1)) in
    let old : List Sent = (asked_book (OfMember at) w (turn_units m w.link piece s.moment s.chances.left) s after (note_messages at m w piece s b)).sent in
    let kept : old ≡ b.sent =
    turns_sent (OfMember at) w (turn_units m w.link piece s.moment s.chances.left) s after (note_messages at m w piece s b) in
    subst (λ (sent : List Sent). OfEachUnit OfMark tt after.bag (sent ++ map (sent_at w.at) (marks_of w.link false (drop (length s.bag) after.bag) marks))) (sym kept)
    (fit_more s.bag after.bag more.units b.sent w.link false marks w.at more.is same
    (λ place unit mark there marked.
    elim sends [
      | inl none ↦ plain_fits unit mark (plain_of_none w.link false more.units place mark (subst (λ (ms : List Mark). slice_get (marks_of w.link false more.units ms) place ≡ Some mark) none marked))
      | inr own ↦ elim (new_or_plain (ToController at own.0.controller) (Member at) w.link false heard.actions marks heard.state more.units place unit mark own.0.at refl own.1.front more.is more.on there marked) [
        | inl plain ↦ plain_fits unit mark plain
        | inr new ↦ λ not. (
          member_kind s.links unit w.link at own.0.controller (got_all (IsOnLink s.links) more.units place unit more.on there) new.on own.0.at,
          own.1.carries new.place mark unit.bytes new.marked new.sends,
        )
      ]
    ]) each)

end_fits : (end : EndId) (w : Delivery) (piece : List ℕ) (s : State) (b : Book) → IsAtSide s.links w.link w.back end → CameFrom w.source s w piece → (IsServer end → length b.sent ≡ length s.bag) →
    QuietState s → AllAskSo s.ends.members → MarksFit s.bag b →
    MarksFit (hear_and_act end (event.Bytes w.link piece) s).state.bag (note_at (Some end) w piece s (hear_and_act end (event.Bytes w.link piece) s).state b)
end_fits end w piece s b side came same quiet asks each =
    acted_by (λ (one : EndId) (step : EndStep) (after : State) (now : Book).
    IsAtSide s.links w.link w.back one → (IsServer one → length b.sent ≡ length s.bag) → MarksFit after.bag now) w piece s b (λ one here even. each)
    (λ at c is here even. controller_fits c at w piece s b here (even refl) each) (λ at m is here even. member_fits m at w piece s b is quiet (one_asks_so s.ends.members at m is asks) came (even refl) each)
    (λ at c is here even.
    let heard : AfterHearing = heard_by (client_step (Some c) at (event.Bytes w.link piece) s.moment s.ends s.chances) s in
    let after : State = (done (Client at) heard).state in
    let more : IsMore s.links s.bag after.links after.bag = actions_stay (MoreOf s.links s.bag) (goes_on s.links s.bag) (Client at) heard.actions heard.state (no_more s.links s.bag) in
    still_fit s.bag after.bag b
    (λ number one there.
    record { now = one; there = ap (λ (all : List BagUnit). slice_get all number) more.is ∙ got_append s.bag more.units number one there; bytes = refl; link = refl; kind = refl; back = refl })
    each) end side same

marks_keep : BagKeeps QuietFact no_part AsksWell FitAlone
marks_keep = record {
  still = λ old bag b still fits. (still_fit old bag b still fits.0, fits.1);
  comes = λ n end w piece s given b side came bytes marked quiet asks fits. (
    end_fits end w piece s b side came marked quiet asks fits.0,
    bytes_forwards end w piece s (hear_and_act end (event.Bytes w.link piece) s).state b ∙ fits.1,
  );
  over = over_fit;
}

-- ---- what a whole unit of those bytes is

-- a unit that opens carries no call that is judged, nor an answer to one
opening_no_call : (number : ℕ) (bytes : List ℕ) (frames : List RpcUnit) (unit : RpcUnit) → AreBytes bytes → IsHeard bytes frames unit → IsRequestSent number 15 bytes →
    IsNotJudged unit × (unit.call ≡ number)
opening_no_call number bytes frames unit are heard sent =
    let of : IsOfRequest number 15 unit = of_request number 15 sent.limit sent.stub bytes frames unit sent.small sent.known are sent.is heard in
    (λ asked carries. opens_no_logon unit asked (heard_stub bytes frames unit are heard) of.body carries, of.number_is)

reply_not_judged : (unit : RpcUnit) (number context : ℕ) (stub : List ℕ) → unit ≡ heard_reply number context stub → IsNotJudged unit
reply_not_judged unit number context stub is asked carries =
    reply_no_call unit (number % 2 ^ 32) (context % 2 ^ 16) stub (call_judged asked) is carries

opened_is : (number : ℕ) (bytes : List ℕ) (frames : List RpcUnit) (unit : RpcUnit) (opens : IsOpeningReply number bytes) → IsHeard bytes frames unit →
    unit ≡ heard_reply number opens.context (written_reply (opened_reply (cred_of opens.key opens.server) opens.offered))
opened_is number bytes frames unit opens heard =
    let back : IsReadBack (opened_reply (cred_of opens.key opens.server) opens.offered) = replies_are_read_back.opened opens.key opens.server opens.offered in
    reply_alone number opens.context opens.limit (written_reply (opened_reply (cred_of opens.key opens.server) opens.offered)) frames unit back.few
    (subst (λ (b : List ℕ). IsHeard b frames unit) opens.frames heard)

opened_no_answer : (number : ℕ) (bytes : List ℕ) (frames : List RpcUnit) (unit : RpcUnit) → IsOpeningReply number bytes → IsHeard bytes frames unit → IsNoAnswer unit
opened_no_answer number bytes frames unit opens heard answer =
    let back : IsReadBack (opened_reply (cred_of opens.key opens.server) opens.offered) = replies_are_read_back.opened opens.key opens.server opens.offered in
    let stub : List ℕ = written_reply (opened_reply (cred_of opens.key opens.server) opens.offered) in
    answers_are_long.apart _ answer.read answer.given (cred_block opens.key opens.server).0 back.bytes
    (subst (λ (s : List ℕ). reply_of 2 s ≡ Ok (reply.Logon answer.read)) (ap (λ (u : RpcUnit). stub_of u.body) (opened_is number bytes frames unit opens heard)) answer.reads) answer.returned

module _ (bag : List BagUnit) (js : List Judging) (stand : JudgedStand bag js) (n : ℕ) (bytes : List ℕ) (frames : List RpcUnit) (unit : RpcUnit) (are : AreBytes bytes) (heard : IsHeard bytes frames unit) where
  reply_marked : (channel : ChannelIdentity) (number request : ℕ) → IsReplyOfOne js n bytes (ReplyTo channel number request) → IsAsMarked (ReplyTo channel number request) unit
  reply_marked channel number request replied =
      let one : Placed (λ (j : Judging). (j.reply ≡ Some n) × IsReplyOfCall channel number request j bytes) js =
      placed (λ (j : Judging). (j.reply ≡ Some n) × IsReplyOfCall channel number request j bytes) js replied in
      let j : Judging = one.item in
      let its : IsReplyOfCall channel number request j bytes = one.is.1 in
      let well : IsJudgedWell bag j = got_all (IsJudgedWell bag) js one.place j stand.judged one.there in
      let carried : IsCarriedCall bag j.number j.asked request = well.carried request its.came in
      let made : IsReadAsMade j bytes its.carries unit = replies_are_read.read j bytes its.carries frames unit well.range carried.level heard in
      let small : j.number < 2 ^ 32 =
      subst (λ (k : ℕ). k < 2 ^ 32) (sym carried.number_is) (number_fits carried.carrier.bytes carried.whole.frames carried.whole.unit carried.whole.heard) in
      let same : j.number % 2 ^ 32 ≡ j.number = omega (arith, small) in (
        reply_not_judged unit j.number its.carries.context _ made.unit_is,
        ap (λ (u : RpcUnit). u.call) made.unit_is ∙ same ∙ its.call,
      )

  as_marked : (mark : Mark) → CarriesMark mark bytes → IsReplyOfOne js n bytes mark → IsAsMarked mark unit
  as_marked Plain sent replied = tt
  as_marked (Opening channel number) sent replied = opening_no_call number bytes frames unit are heard sent.sent
  as_marked (Opened channel number request) sent replied = (
    reply_not_judged unit number sent.context _ (opened_is number bytes frames unit sent heard),
    opened_no_answer number bytes frames unit sent heard,
    ap (λ (u : RpcUnit). u.call) (opened_is number bytes frames unit sent heard),
  )
  as_marked (Calling channel number timestamp) sent replied =
      ap (λ (u : RpcUnit). u.call) (one_whole bytes frames sent.frames unit (request_of number 0 sent.opnum sent.stub) heard sent.heard)
  as_marked (ReplyTo channel number request) sent replied = reply_marked channel number request replied

-- ---- a run

module _ (plan : Plan) (moves : List Move) (nobody : IsPlainAlone plan) (is : IsSchedule plan moves) where
  has : HasBytes plan moves
  has = has_bytes plan moves nobody is

  pub marks_fit : MarksFit (past plan moves).world.state.bag (past plan moves).book
  marks_fit =
      let fits : FitAlone (past plan moves).world.state.bag (past plan moves).book =
      run_fits QuietFact QuietAction quiet_keeps no_part AsksWell asks_written FitAlone marks_keep plan moves nobody has (quiet_first plan is.start is.forms) (all_fresh_so plan.members)
      ((λ number one there. absurd (got_nothing number one there)), refl) in fits.0

  after_quiet : QuietState (past plan moves).world.state
  after_quiet = let ran : HoldsAfterRun QuietFact plan moves = run_keeps QuietFact QuietAction quiet_keeps plan moves nobody has (quiet_first plan is.start is.forms) in ran.holds

-- each unit that was made for a channel is whole, and what its mark says
pub marked_whole : OfSchedules (λ plan moves. MarkedUnitsAreWhole (past plan moves))
marked_whole plan moves nobody is n unit one there noted not =
    let bag : List BagUnit = (past plan moves).world.state.bag in
    let has : HasBytes plan moves = has_bytes plan moves nobody is in
    let quiet : QuietState (past plan moves).world.state = after_quiet plan moves nobody is in
    let had : IsOfUnit OfMark tt bag n one.mark = marks_fit plan moves nobody is n one noted in
    let same : had.unit ≡ unit = some_is had.unit unit (sym had.there ∙ there) in
    let fits : (unit.kind ≡ kind.ToController) × CarriesMark one.mark unit.bytes =
    subst (λ (u : BagUnit). (u.kind ≡ kind.ToController) × CarriesMark one.mark u.bytes) same (had.holds not) in
    let send : IsWholeSend unit.bytes = (quiet.bag n unit there).0 fits.0 in
    record {
      whole = record { frames = send.frames; unit = send.unit; heard = heard_plain (past plan moves).book.sent n unit send.frames send.unit send.heard };
      marked = as_marked bag (past plan moves).book.judged (judged_stand plan moves nobody is) n unit.bytes send.frames send.unit (bytes_in bag has.bytes n unit there) send.heard one.mark fits.1
          (subst (λ (bytes : List ℕ). IsReplyOfOne (past plan moves).book.judged n bytes one.mark) (plain_is (past plan moves).book.sent n unit) (replies_carry plan moves nobody n unit one there noted));
    }
