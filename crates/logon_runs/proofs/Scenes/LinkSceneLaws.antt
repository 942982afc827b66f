-- A client and its member on their link, as it is seen of a scene.
-- Of `meetings_are_seen`.
use Rattle.std.proofs.Common.{◌≡◌, ℕ, Bool, true, false, List, [], ◌∷◌, ◌++◌, length, Option, Some, None, refl, ap, ap₂, subst, ◌∙◌, arith, slice_get, if◌then◌else◌}
use Rattle.wire_base.specs.Maps.{lookup, put, same_number, take_out}
use Rattle.ntlm_messages.specs.declared.messages.Authenticate.{Authenticate}
use Rattle.outside.specs.declared.action.Action.TheVariants as action
use Rattle.outside.specs.declared.action.CloseCause.TheVariants as close
use Rattle.rpc_units.specs.Writing.{written}
use Rattle.logon_client.specs.declared.answering.Drawn.{Drawn}
use Rattle.logon_client.specs.declared.state.Phase.{Phase as ClientPhase}
use Rattle.logon_client.specs.declared.state.Phase.TheVariants as client_phase
use Rattle.logon_client.specs.declared.state.Question.TheVariants as client_question
use Rattle.logon_client.specs.declared.state.ClientLink.TheVariants as client_standing
use Rattle.logon_client.specs.declared.state.Terms.{Terms}
use Rattle.logon_client.specs.Answering.{bind_for}
use Rattle.logon_client.specs.declared.outcome.ClientOutcome.TheVariants.{In}
use Rattle.member_server.specs.declared.state.Talk.{Talk}
use Rattle.member_server.specs.Requests.{talk_in}
use Rattle.world_moves.specs.declared.bag.BagUnit.{BagUnit}
use Rattle.world_moves.specs.declared.links.EndId.TheVariants.{Client, Member}
use Rattle.world_moves.specs.declared.links.LinkKind.TheVariants as kind
use Rattle.world_moves.specs.declared.links.Route.{Route}
use Rattle.world_moves.specs.declared.links.Route.TheVariants.{ToMember}
use Rattle.world_moves.specs.Links.{OpenMap, accepted, answered}
use Rattle.world_moves.specs.Moving.{connect, onward}
use Rattle.world_moves.specs.Acting.{sent_if}
use Rattle.logon_steps.specs.Answers.{answer_for, auth3_for, drawn_of, terms_for}
use Rattle.logon_steps.specs.ClientSteps.{client_at, client_ended}
use Rattle.logon_steps.specs.MemoCalls.{logged_on, with_session}
use Rattle.logon_steps.specs.Meeting.{ack_for, challenged_talk, fresh_talk}
use Rattle.logon_steps.proofs.ClientStepLaws.{clients_step}
use Rattle.logon_steps.proofs.MeetingLaws.{ack_sends, bind_sends}
use Rattle.logon_steps.proofs.MemberAnswerLaws.{logons_end}
use Rattle.logon_steps.proofs.MemberLinkLaws.{links_step}
use Rattle.logon_steps.proofs.StreamLaws.{same}
use Rattle.logon_steps.proofs.TurningLaws.{ComesAtOnce, unit_comes}
use Rattle.logon_runs.specs.Scenes.LinkScenes.{given_caller, IsJoined, its_link, joined, Meeting, meeting_scene, MeetingsAreSeen, rest_scene, unit_down, unit_up}
use Rattle.logon_runs.specs.Scenes.Scene.{HasFirst, Shows}
use Rattle.logon_runs.specs.Scenes.Turnings.{ClosesTo}
use Rattle.logon_runs.proofs.Scenes.SceneLaws.{scenes_go_on}
use Rattle.logon_runs.proofs.Scenes.TurningSceneLaws.{scenes_turn}

-- ---- the one link that is open

pub found_here : (g : Meeting) → lookup same_number g.link (its_link g) ≡ Some (record { route = ToMember g.at_client g.at_member; dialler = true; acceptor = true })
found_here g = ap (λ (b : Bool). if b then Some (record { route = ToMember g.at_client g.at_member; dialler = true; acceptor = true }) else None) (same g.link)

pub none_left : (g : Meeting) → take_out same_number g.link (its_link g) ≡ []
none_left g = ap (λ (b : Bool). if b then [] else its_link g) (same g.link)

pub heard_up : (g : Meeting) (how : ClientPhase) (talk : Talk) (bytes : List ℕ) (later : List BagUnit) (left : List (List ℕ)) (moment : ℕ) → ComesAtOnce bytes →
    HasFirst (meeting_scene g how talk (unit_up g bytes ∷ later) left moment) (unit_up g bytes) later (Member g.at_member)
heard_up g how talk bytes later left moment comes = record {
  units = refl;
  some = comes.some;
  short = comes.short;
  there = record { route = ToMember g.at_client g.at_member; dialler = true; acceptor = true };
  found = found_here g;
  hearer = refl;
}

pub heard_down : (g : Meeting) (how : ClientPhase) (talk : Talk) (bytes : List ℕ) (later : List BagUnit) (left : List (List ℕ)) (moment : ℕ) → ComesAtOnce bytes →
    HasFirst (meeting_scene g how talk (unit_down g bytes ∷ later) left moment) (unit_down g bytes) later (Client g.at_client)
heard_down g how talk bytes later left moment comes = record {
  units = refl;
  some = comes.some;
  short = comes.short;
  there = record { route = ToMember g.at_client g.at_member; dialler = true; acceptor = true };
  found = found_here g;
  hearer = refl;
}

pub sent_up : (g : Meeting) (bytes : List ℕ) → IsJoined g → sent_if (slice_get g.links g.link) (Client g.at_client) g.link bytes ≡ unit_up g bytes ∷ []
sent_up g bytes is = ap (λ (r : Option Route). sent_if r (Client g.at_client) g.link bytes) is

pub sent_down : (g : Meeting) (bytes : List ℕ) → IsJoined g → sent_if (slice_get g.links g.link) (Member g.at_member) g.link bytes ≡ unit_down g bytes ∷ []
sent_down g bytes is =
    ap (λ (r : Option Route). sent_if r (Member g.at_member) g.link bytes) is
    ∙ ap (λ (b : Bool). record { bytes = bytes; link = g.link; kind = kind.ToMember; back = b; is_settled = false } ∷ []) (same g.at_member)

pub closes_own : (g : Meeting) (how : ClientPhase) (talk : Talk) (units : List BagUnit) (left : List (List ℕ)) (moment : ℕ) →
    ClosesTo (meeting_scene g how talk units left moment) (Client g.at_client) (Member g.at_member) g.link
closes_own g how talk units left moment = record {
  there = record { route = ToMember g.at_client g.at_member; dialler = true; acceptor = true };
  found = found_here g;
  side = refl;
}

pub meetings_are_seen : MeetingsAreSeen
meetings_are_seen = record {
  dialled = λ s g links left moment is reach shows.
      let later : Meeting = joined g links in
      let route : Route = ToMember g.at_client g.at_member in
      let bind : List ℕ = written (bind_for g.task.level g.task.auth) in
      subst (λ (opened : OpenMap). Shows (connect s).state (record (meeting_scene later client_phase.Bound fresh_talk (unit_up later bind ∷ []) left moment) { opened = opened }))
      (ap (λ (b : Bool). if b then (length links, answered (accepted route)) ∷ [] else (length links, accepted route) ∷ put same_number (length links) (answered (accepted route)) []) (same (length links)))
      (subst (λ (units : List BagUnit). Shows (connect s).state (record (meeting_scene later client_phase.Bound fresh_talk (units ++ []) left moment) {
        opened = put same_number (length links) (answered (accepted route)) ((length links, accepted route) ∷ []);
      })) (sent_up later bind is)
      (scenes_turn.client_dials s (rest_scene g (client_at g.task client_standing.Dialling) links left moment (record { end = Client g.at_client; peer = g.task.server } ∷ [])) g.task.server [] _ _
      (action.Send (length links) bind ∷ []) shows refl reach (ap (λ (b : Bool). if b then Some (accepted route) else None) (same (length links))) (tt, tt)
      (links_step.opened g.plan (given_caller g) g.given.next g.how g.place g.number (length links) moment left) (clients_step.dialled g.task (length links) moment left)));
  challenged = λ s g challenge left moment is can short eight shows.
      subst (λ (units : List BagUnit). Shows (onward s).state (meeting_scene g client_phase.Bound (challenged_talk g.task challenge) (units ++ []) left moment))
      (sent_down g (written (ack_for g.plan g.task challenge)) is)
      (scenes_go_on.to_member s _ (unit_up g (written (bind_for g.task.level g.task.auth))) [] _ left (action.Send g.link (written (ack_for g.plan g.task challenge)) ∷ []) shows
      (heard_up g client_phase.Bound fresh_talk (written (bind_for g.task.level g.task.auth)) [] (challenge ∷ left) moment
      (unit_comes (bind_for g.task.level g.task.auth) (bind_sends g.task.level g.task.auth))) (tt, tt)
      (links_step.bound g.plan (given_caller g) g.given.next g.how g.place g.number g.link moment g.task challenge left can short eight));
  answered = λ s g challenge one two three sending left moment is can short eight are sent shows.
      let drawn : Drawn = drawn_of one two three in
      let terms : Terms = terms_for g.plan g.task challenge moment drawn in
      let message : Authenticate = (answer_for g.plan g.task challenge moment drawn).message in
      let auth3 : List ℕ = written (auth3_for g.task message) in
      subst (λ (two_units : List BagUnit). Shows (onward s).state (meeting_scene g (client_phase.Asked (record terms { session = sending.session }) client_question.Who) (challenged_talk g.task challenge) two_units left moment))
      (ap₂ (λ (a b : List BagUnit). a ++ (b ++ [])) (sent_up g auth3 is) (sent_up g sending.bytes is))
      (scenes_go_on.to_client s _ (unit_down g (written (ack_for g.plan g.task challenge))) [] _ left (action.Send g.link auth3 ∷ action.Send g.link sending.bytes ∷ []) shows
      (heard_down g client_phase.Bound (challenged_talk g.task challenge) (written (ack_for g.plan g.task challenge)) [] (one ∷ two ∷ three ∷ left) moment
      (unit_comes (ack_for g.plan g.task challenge) (ack_sends g.plan g.task challenge short eight))) (tt, (tt, tt))
      (clients_step.challenged g.plan g.task challenge one two three g.link moment sending left can short eight are sent));
  named = λ s g terms name most other sending on left moment is back short are some receive sent shows.
      subst (λ (units : List BagUnit). Shows (onward s).state (meeting_scene g (client_phase.Asked (with_session terms sending.session) (client_question.Echo name)) (talk_in None on) (units ++ []) left moment))
      (sent_up g sending.bytes is)
      (scenes_go_on.to_client s _ (unit_down g back.sent) [] _ left (action.Send g.link sending.bytes ∷ []) shows
      (heard_down g (client_phase.Asked terms client_question.Who) (talk_in None on) back.sent [] left moment (record { some = back.some; short = omega (arith, back.short) })) (tt, tt)
      (clients_step.asks_echo g.task terms name g.link moment most other sending left back short are some receive sent));
  echoes = λ s g how most on bytes one left moment is bound short are asks back shows.
      subst (λ (units : List BagUnit). Shows (onward s).state (meeting_scene g how (talk_in None (logged_on on back.later)) (units ++ []) left moment))
      (sent_down g back.sent is)
      (scenes_go_on.to_member s _ (unit_up g asks.sent) [] _ left (action.Send g.link back.sent ∷ []) shows
      (heard_up g how (talk_in None on) asks.sent [] left moment (record { some = asks.some; short = omega (arith, asks.short) })) (tt, tt)
      (logons_end.echoed g.plan (given_caller g) g.given.next g.how g.place g.number g.link moment most g.task on bytes one left bound short are asks back));
  ends_named = λ s g terms name most other talk left moment is back short are none shows.
      subst (λ (opened : OpenMap). Shows (onward s).state (record (rest_scene g (client_ended g.task (In name terms.key 0)) g.links left moment []) { opened = opened })) (none_left g)
      (scenes_turn.client_closes s _ (unit_down g back.sent) [] _ _ left g.link close.CallDone [] shows
      (heard_down g (client_phase.Asked terms client_question.Who) talk back.sent [] left moment (record { some = back.some; short = omega (arith, back.short) }))
      (closes_own g (client_phase.Asked terms client_question.Who) talk (unit_down g back.sent ∷ []) left moment) tt
      (clients_step.named g.task terms name g.link moment most other left back short are none)
      (links_step.closed g.plan (given_caller g) g.given.next g.how g.place g.number g.link moment talk left));
  ends_echoed = λ s g terms name most other talk left moment is can back shows.
      subst (λ (opened : OpenMap). Shows (onward s).state (record (rest_scene g (client_ended g.task (In name terms.key g.task.echo)) g.links left moment []) { opened = opened })) (none_left g)
      (scenes_turn.client_closes s _ (unit_down g back.sent) [] _ _ left g.link close.CallDone [] shows
      (heard_down g (client_phase.Asked terms (client_question.Echo name)) talk back.sent [] left moment (record { some = back.some; short = omega (arith, back.short) }))
      (closes_own g (client_phase.Asked terms (client_question.Echo name)) talk (unit_down g back.sent ∷ []) left moment) tt
      (clients_step.echoed g.task terms name g.link moment most other left back can)
      (links_step.closed g.plan (given_caller g) g.given.next g.how g.place g.number g.link moment talk left));
}
