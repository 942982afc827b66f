-- A unit on an accepted link: what is sent goes out on that link, and what the member has stays in its ranges. For the
-- law `what_turns_send_is_whole`.
use Rattle.std.proofs.Common.{ℕ, ◌+◌, List, [], ◌∷◌, ◌++◌, Option, Some, None, Ok, Err, inl, subst, ◌<◌}
use Rattle.std.specs.List.{AllByRecursion}
use Rattle.wire_base.specs.Numbers.{AreBytes}
use Rattle.ntlm_flags.specs.Flags.{agreed_flags}
use Rattle.ntlm_messages.specs.declared.messages.Authenticate.{Authenticate}
use Rattle.ntlm_seal.specs.Sessions.{SessionState}
use Rattle.outside.specs.declared.action.CloseCause.{CloseCause}
use Rattle.outside.specs.declared.action.Action.{Action}
use Rattle.rpc_units.specs.declared.unit.Body.{Body}
use Rattle.rpc_units.specs.declared.unit.Unit.{Unit as RpcUnit}
use Rattle.rpc_units.specs.Joining.{stub_of}
use Rattle.rpc_units.specs.Writing.{written}
use Rattle.logon_stubs.specs.Ranges.{IsBlock}
use Rattle.end_links.specs.Agreed.{accepts}
use Rattle.end_links.specs.Sending.{fault_of}
use Rattle.end_links.specs.Binding.{nak_of}
use Rattle.end_links.specs.Serving.{ServedPart}
use Rattle.end_links.proofs.KeepLaws.{StaysAmong}
use Rattle.channel_client.specs.Whole.{InRangeLogon, InRangeRequester}
use Rattle.channel_client.proofs.WholeLaws.{requesters_send_whole}
use Rattle.end_links.specs.Whole.{IsByteSend}
use Rattle.end_links.proofs.WholeLaws.{limit_bounds}
use Rattle.unit_security.proofs.ByteLaws.{IfSecured, unit_opened}
use Rattle.member_server.proofs.ByteParts.{FitsAnswer, ack_send, answer_fits, fault_send, nak_send, offer_small, open_are, plain_send, secured_send, stub_are, whole_are}
use Rattle.member_server.specs.declared.memo.Answer.{Answer}
use Rattle.member_server.specs.declared.state.AtLink.{AtLink}
use Rattle.member_server.specs.declared.state.Bound.{Bound}
use Rattle.member_server.specs.declared.state.LoggedOn.{LoggedOn}
use Rattle.member_server.specs.declared.state.Phase.{Phase}
use Rattle.member_server.specs.declared.state.Talk.{Talk}
use Rattle.unit_security.specs.Levels.{is_sealed}
use Rattle.member_server.specs.Messages.{info_of}
use Rattle.member_server.specs.Units.{bound_unit, serve_held, is_fresh, link_server, unit_by}
use Rattle.member_server.specs.Work.{Served, send, shut, stay, tell}
use Rattle.member_server.specs.Binds.{bound_by, challenge_ack}
use Rattle.member_server.specs.Whole.{AreChallenges, InRangePhase, IsSentOn, InRangeBound, InRangeJoiner}
use Rattle.member_server.proofs.LinkView.{BoundView, Closes, Asks, Overflows, Keeps, Joins, Answers, Faults, IsAnswered, IsFitMessage, IsRequest, Opens, Unsigned, Signed, Replies, AsFault, AsPlain, AsSecured, UnitView, Serves, Naks, Spends, Challenges, asking_at, bound_view, held_among, unit_view, with_state}
use Rattle.member_server.proofs.WholeParts.{FitsTrailer, info_fits, trailer_fits}
use Rattle.outside.specs.declared.action.Action.TheVariants as action
use Rattle.outside.specs.declared.action.CloseCause.TheVariants as close
use Rattle.outside.specs.declared.action.DropCause.TheVariants as drop_cause
use Rattle.outside.specs.declared.action.Outcome.TheVariants as outcome
use Rattle.member_server.specs.declared.state.Phase.TheVariants as phase

-- ---- what is kept

-- a member at work on a link of the first kind
pub record AtFits (First Second : ℕ → Type 0) (at : AtLink) : Type 0 where
  pub own : First at.link
  pub channel : InRangeRequester at.logons.channel
  pub sends : AllByRecursion (IsSentOn First Second) at.actions

abbrev pub SaidFits : Option Talk → Type 0
SaidFits None = Unit {0}
SaidFits (Some talk) = InRangePhase talk.phase × InRangeJoiner talk.joiner

pub record ServedFits (First Second : ℕ → Type 0) (served : Served) : Type 0 where
  pub at : AtFits First Second served.0
  pub said : SaidFits served.1

abbrev pub LinkPartFits : (ℕ → Type 0) → (ℕ → Type 0) → ServedPart AtLink Talk → Type 0
LinkPartFits First Second (Err why) = Unit {0}
LinkPartFits First Second (Ok part) = ServedFits First Second part.value × AreChallenges part.left

-- ---- what is known of a message, and of an answer

message_range : (bytes : List ℕ) (bound : Bound) (flags : ℕ) (message : Authenticate) (challenge : List ℕ) → IsFitMessage bytes bound flags message → AreBytes bytes → IsBlock 8 challenge →
    InRangeLogon (info_of message (agreed_flags flags message.flags) challenge)
message_range bytes bound flags message challenge fit are block =
    let value : FitsTrailer (Some fit.trailer) = subst FitsTrailer fit.carries (trailer_fits bytes fit.unit are fit.unit_read) in
    info_fits fit.trailer.value message (agreed_flags flags message.flags) challenge value.0 value.1 fit.message_read block

plain_are : (bytes : List ℕ) (on : LoggedOn) (plain : List ℕ) (session : Option SessionState) → Opens bytes on plain session → AreBytes bytes → AreBytes plain
plain_are bytes on plain session (Unsigned level) are = are
plain_are bytes on plain session (Signed own opened level signed has is) are = subst (IfSecured AreBytes) is (unit_opened (is_sealed on.bound.level) own bytes are)

request_are : (bytes : List ℕ) (on : LoggedOn) (unit : RpcUnit) (session : Option SessionState) → IsRequest bytes on unit session → AreBytes bytes → AreBytes (stub_of unit.body)
request_are bytes on unit session request are = stub_are request.plain unit (plain_are bytes on request.plain session request.opens are) request.read

replies_send : (call context : ℕ) (on : LoggedOn) (a : Answer) (sent : List ℕ) (session : Option SessionState) → Replies call context on a sent session → InRangeBound on.bound →
    FitsAnswer a → IsByteSend sent
replies_send call context on a sent session (AsFault status) range are = fault_send call context status
replies_send call context on a sent session (AsPlain stub) range are = plain_send call context on.bound.binding.limit stub range.limit are.1 are.0
replies_send call context on a sent session (AsSecured stub own secured has is) range are =
    subst (IfSecured IsByteSend) is (secured_send own on.bound.level on.bound.context call context stub on.bound.binding.limit range.level range.limit are.1 are.0)

answer_send : (bytes : List ℕ) (joiner : Option RpcUnit) (on : LoggedOn) (unit : RpcUnit) (sent : List ℕ) (session : Option SessionState) → IsAnswered bytes joiner on unit sent session →
    AreBytes bytes → InRangeJoiner joiner → InRangeBound on.bound → IsByteSend sent
answer_send bytes joiner on unit sent session is are wide range =
    let stub : AreBytes (stub_of is.whole.body) = whole_are joiner unit is.whole wide (request_are bytes on unit is.opened is.request are) is.joined in
    replies_send is.whole.call is.context (with_state on is.opened) _ sent session is.replies range
    (answer_fits (accepts on.bound.binding is.context) is.opnum on.name is.stub (subst (λ (body : Body). AreBytes (stub_of body)) is.body stub))

more_bytes : (held : List (List ℕ)) (bytes : List ℕ) → AllByRecursion AreBytes held → AreBytes bytes → AllByRecursion AreBytes (held ++ bytes ∷ [])
more_bytes [] bytes all are = (are, tt)
more_bytes (first ∷ held) bytes all are = (all.0, more_bytes held bytes all.1 are)

module _ (First Second : ℕ → Type 0) where
  pub told_fits : (actions : List Action) (what : Action) → AllByRecursion (IsSentOn First Second) actions → IsSentOn First Second what →
      AllByRecursion (IsSentOn First Second) (actions ++ what ∷ [])
  told_fits [] what all is = (is, tt)
  told_fits (first ∷ actions) what all is = (all.0, told_fits actions what all.1 is)

  tell_fits : (what : Action) (at : AtLink) → AtFits First Second at → IsSentOn First Second what → AtFits First Second (tell at what)
  tell_fits what at fits is = record { own = fits.own; channel = fits.channel; sends = told_fits at.actions what fits.sends is }

  pub shut_fits : (cause : CloseCause) (at : AtLink) → AtFits First Second at → ServedFits First Second (shut cause at)
  shut_fits cause at fits = record { at = tell_fits (action.Close at.link cause) at fits tt; said = tt }

  send_fits : (bytes : List ℕ) (talk : Talk) (at : AtLink) → AtFits First Second at → InRangePhase talk.phase → InRangeJoiner talk.joiner → IsByteSend bytes →
      ServedFits First Second (stay (send at bytes) talk)
  send_fits bytes talk at fits range wide sends = record { at = tell_fits (action.Send at.link bytes) at fits (inl (fits.own, sends)); said = (range, wide) }

  -- ---- a unit

  asks_fit : (bytes : List ℕ) (bound : Bound) (flags : ℕ) (message : Authenticate) (challenge : List ℕ) (at : AtLink) → IsFitMessage bytes bound flags message → AreBytes bytes → IsBlock 8 challenge →
      AtFits First Second at → InRangeRequester (asking_at at challenge flags message).state
  asks_fit bytes bound flags message challenge at fit are block fits =
      requesters_send_whole.ask at.logons.channel (info_of message (agreed_flags flags message.flags) challenge) fits.channel
      (message_range bytes bound flags message challenge fit are block)

  view_fits : (bytes : List ℕ) (joiner : Option RpcUnit) (at : AtLink) (p : Phase) (served : Served) → BoundView bytes joiner at p served → AreBytes bytes → AtFits First Second at →
      InRangeJoiner joiner → InRangePhase p → ServedFits First Second served
  view_fits bytes joiner at p served (Closes cause may) are fits wide range = shut_fits cause at fits
  view_fits bytes joiner at p served (Asks {bound = bound} {challenge = challenge} {flags = flags} message place fit is) are fits wide range = record {
    at = record { own = fits.own; channel = asks_fit bytes bound flags message challenge at fit are range.1 fits; sends = fits.sends };
    said = ((range.0, tt), wide);
  }
  view_fits bytes joiner at p served (Overflows {bound = bound} {challenge = challenge} {flags = flags} message fit is) are fits wide range = record {
    at = record {
      own = fits.own;
      channel = asks_fit bytes bound flags message challenge at fit are range.1 fits;
      sends = told_fits at.actions (action.Told at.link (outcome.NoController drop_cause.QueueFull)) fits.sends tt;
    };
    said = (tt, wide);
  }
  view_fits bytes joiner at p served (Keeps {held = held} is room) are fits wide range = record { at = fits; said = ((range.0, more_bytes held bytes range.1 are), wide) }
  view_fits bytes joiner at p served (Joins {on = on} unit session is joined) are fits wide range =
      record { at = fits; said = (range, open_are joiner unit wide (request_are bytes on unit session is are)) }
  view_fits bytes joiner at p served (Answers {on = on} unit sent session is) are fits wide range =
      send_fits sent _ at fits range (open_are joiner unit wide (request_are bytes on unit is.opened is.request are)) (answer_send bytes joiner on unit sent session is are wide range)
  view_fits bytes joiner at p served (Faults call context) are fits wide range = send_fits (written (fault_of call context _)) _ at fits tt wide (fault_send call context _)

  -- ---- units that were held

  pub held_fits : (units : List (List ℕ)) → AllByRecursion AreBytes units → (at : AtLink) (talk : Talk) → AtFits First Second at → InRangePhase talk.phase → InRangeJoiner talk.joiner →
      ServedFits First Second (serve_held units at talk)
  held_fits units all at talk fits range wide =
      held_among AreBytes (ServedFits First Second) (λ bytes at talk are fits.
      view_fits bytes talk.joiner at talk.phase (bound_unit talk.phase bytes talk.joiner at) (bound_view bytes talk.joiner at talk.phase) are fits.at fits.said.1 fits.said.0) units all at talk
      (record { at = fits; said = (range, wide) })

  -- ---- the units of a link

  unit_fits : (bytes : List ℕ) (joiner : Option RpcUnit) (at : AtLink) (p : Phase) (left : List (List ℕ)) (part : ServedPart AtLink Talk) → UnitView bytes joiner at p left part →
      AreBytes bytes → AtFits First Second at → InRangeJoiner joiner → InRangePhase p → AreChallenges left → LinkPartFits First Second part
  unit_fits bytes joiner at p left part (Serves view) are fits wide range all = (view_fits bytes joiner at p _ view are fits wide range, all)
  unit_fits bytes joiner at p left part (Naks call) are fits wide range all =
      (send_fits (written (nak_of call)) (record { joiner = joiner; phase = phase.Fresh }) at fits tt wide (nak_send call), all)
  unit_fits bytes joiner at p left part Spends are fits wide range all = tt
  unit_fits bytes joiner at p left part (Challenges offer call receive contexts challenge taken) are fits wide range all =
      let small : offer.level < 256 = offer_small taken.unit.trailer offer taken.offers in (
        send_fits (written (challenge_ack offer at.logons.plan call receive contexts challenge))
            (record { joiner = joiner; phase = phase.Challenged (bound_by offer receive contexts) challenge offer.flags }) at fits
            (record { level = small; limit = (limit_bounds receive).0 }, all.0) wide (ack_send offer at.logons.plan call receive contexts challenge small all.0 taken.fits),
        all.1,
      )

  pub units_stay : StaysAmong link_server AreBytes (LinkPartFits First Second)
  units_stay = record {
    spent = λ why. tt;
    unit = λ bytes at talk left are fits.
        unit_fits bytes talk.joiner at talk.phase left (unit_by (is_fresh talk.phase) talk.phase bytes talk.joiner at left) (unit_view bytes talk.joiner at talk.phase left) are fits.0.at
        fits.0.said.1 fits.0.said.0 fits.1;
    refusal = λ why at talk left fits. (shut_fits close.BadUnit at fits.0.at, fits.1);
  }
