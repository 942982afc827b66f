-- One logon that is granted: the member takes the reply that grants it, and the client hears its name and its echo.
-- Of `phases_go_on`.
use Rattle.std.proofs.Common.{ap, ◌≡◌, ℕ, ◌<◌, ◌≤◌, ◌^◌, Bool, true, false, refl, sym, subst, ◌∙◌, List, [], ◌∷◌, ◌++◌, length, Option, Some, None, arith, inl, inr}
use Rattle.std.specs.Prelude.{◌==◌}
use Rattle.wire_base.specs.Units.{AreUnits}
use Rattle.wire_base.proofs.NumberLaws.{bytes_from_all}
use Rattle.wire_base.proofs.ListLaws.{got_last}
use Rattle.channel_keys.specs.Hidden.{crypt_key}
use Rattle.authenticators.specs.SecureChannels.{SecureChannelState, after_call, after_return, fresh_channel, key_of_channel}
use Rattle.ntlm_seal.specs.Sessions.{SessionState}
use Rattle.logon_stubs.specs.Ranges.{IsBlock}
use Rattle.logon_stubs.specs.declared.info.SamInfo.{SamInfo}
use Rattle.memo_stubs.specs.Memo.{written_echo_reply, written_echo_request, written_who_reply}
use Rattle.memo_stubs.proofs.MemoLaws.{reply_stub, request_stub, who_stub}
use Rattle.account_table.specs.AccountTable.{AccountTable}
use Rattle.account_table.specs.Changes.{with_hash}
use Rattle.domain_controller.specs.Whole.{InRangeTable}
use Rattle.channel_client.specs.declared.state.Question.TheVariants as question
use Rattle.channel_client.specs.declared.state.Standing.{Standing}
use Rattle.channel_client.specs.declared.state.Standing.TheVariants as standing
use Rattle.channel_client.specs.declared.state.Step.TheVariants as step
use Rattle.channel_client.specs.Machine.{after}
use Rattle.logon_client.specs.declared.securing.Sending.{Sending}
use Rattle.logon_client.specs.Machine as client
use Rattle.member_server.specs.declared.state.LoggedOn.{LoggedOn}
use Rattle.member_server.specs.Outcomes.{name_in}
use Rattle.member_server.specs.Requests.{talk_in}
use Rattle.world_moves.specs.declared.links.Route.TheVariants.{ToController, ToMember}
use Rattle.world_moves.specs.declared.state.State.{State}
use Rattle.world_moves.specs.Moving.{onward}
use Rattle.logon_steps.specs.Answering.{moved}
use Rattle.logon_steps.specs.Answers.{AreDraws}
use Rattle.logon_steps.specs.ControllerTurns.{reply_bytes, turn_link}
use Rattle.logon_steps.specs.Granting.{base_key}
use Rattle.logon_steps.specs.MemberAnswers.{granting, sam_shown}
use Rattle.logon_steps.specs.MemoCalls.{ReplyGoes, RequestGoes, logged_on, with_session}
use Rattle.logon_steps.specs.Turning.{IsTurnReply}
use Rattle.logon_steps.proofs.AnsweringLaws.{calls_are_answered}
use Rattle.logon_steps.proofs.CallingLaws.{calls_can_go}
use Rattle.logon_steps.proofs.ClientStepLaws.{echo_are, echo_length}
use Rattle.logon_steps.proofs.GrantingLaws.{logons_are_granted}
use Rattle.logon_steps.proofs.MemoCallLaws.{memo_calls_go}
use Rattle.logon_runs.specs.Grants.{CanBeTold}
use Rattle.logon_runs.specs.Scenes.LinkScenes.{meeting_scene, rest_scene, unit_down}
use Rattle.logon_runs.specs.Phases.{WasTold, Arrival, Ending, Fits, IsEnding, IsKnown, IsSetOrNot, Third, TurnAt, WhoAsked, key_at, meeting_at, own, own_keeping, scene_of, terms_at, told_of, turn_before, turn_on, waits_for}
use Rattle.logon_runs.specs.Phases.{Echoed, Echoes, Granted, Named}
use Rattle.logon_runs.specs.Runs.{ClientAnswer, hidden, message_for, on_for, sam_for}
use Rattle.logon_runs.specs.Scenes.Scene.{Scene, Shows}
use Rattle.logon_runs.specs.Scenes.TurnScenes.{TurnScene, turn_scene, unit_back, with_accounts}
use Rattle.logon_runs.proofs.Scenes.AskSceneLaws.{logons_are_seen}
use Rattle.logon_runs.proofs.FirstLogon.FirstTraceLaws.{after_below}
use Rattle.logon_runs.proofs.GrantLaws.{grants_are_told}
use Rattle.logon_runs.proofs.Scenes.LinkSceneLaws.{meetings_are_seen}
use Rattle.logon_runs.proofs.SecretRestLaws.{fits_counted}
use Rattle.logon_runs.proofs.RunLaws.{between_still}
use Rattle.logon_runs.proofs.Scenes.TwoLinkLaws.{turns_have_links}
use Rattle.ntlm_responses.proofs.ResponseLaws.{All-base_key_of, length-base_key_of}
use Rattle.logon_client.specs.declared.outcome.ClientOutcome.TheVariants.{In}
use Rattle.logon_client.specs.declared.state.Phase.TheVariants as client_phase
use Rattle.logon_client.specs.declared.state.Question.TheVariants as client_question
use Rattle.member_server.specs.declared.state.Talk.{Talk}
use Rattle.logon_steps.specs.ClientSteps.{client_ended}
use Rattle.logon_runs.proofs.Phases.PhaseStartLaws.{ComesBy, under, zero_so}

-- ---- the reply that grants it can be taken, whenever the call was made

base_block : (p : Arrival) (a : ClientAnswer) → IsBlock 16 (base_key p.meeting.task (message_for (own p) a))
base_block p a = (
  length-base_key_of p.meeting.task.hash p.meeting.task.user p.meeting.task.domain (message_for (own p) a).nt,
  bytes_from_all (base_key p.meeting.task (message_for (own p) a)) (All-base_key_of p.meeting.task.hash p.meeting.task.user p.meeting.task.domain (message_for (own p) a).nt),
)

module _ (p : Arrival) (a : ClientAnswer) (v : TurnAt) (o : SecureChannelState) (timestamp judged_at : ℕ) (known : IsKnown p) (ranged : InRangeTable v.table) where
  pub reply_then : judged_at < 2 ^ 64 → IsTurnReply question.Logon (granting o timestamp 0 1 (hidden o (sam_for (own p) a v.table p.name p.account judged_at)))
  reply_then below =
      subst (λ (k : List ℕ). IsTurnReply question.Logon (granting o timestamp 0 1 (record (sam_for (own p) a v.table p.name p.account judged_at) { key = crypt_key (key_of_channel o) k })))
      (sym (logons_are_granted.has_key v.table p.name p.account (base_key p.meeting.task (message_for (own p) a)) judged_at))
      (calls_can_go.granted o timestamp v.table p.name p.account (base_key p.meeting.task (message_for (own p) a)) judged_at ranged.domain ranged.sid known.named known.account_so
      (base_block p a) below)

  pub told_then : judged_at < 2 ^ 64 → CanBeTold (own p) a o v.table p.name p.account judged_at
  told_then below = grants_are_told.told (own p) a o v.table p.name p.account judged_at ranged.domain ranged.sid known.named known.account_so below

-- a hash that is set leaves the domain's name
pub domain_same : (p : Arrival) (table : AccountTable) → IsSetOrNot p table → table.domain ≡ p.table.domain
unfolding with_hash
domain_same p table (inl is) = ap AccountTable.domain is
domain_same p table (inr set) = ap AccountTable.domain set.is

-- what the client sends is one, whatever the other session
pub sent_same : (one other : Sending) → Some one ≡ Some other → one ≡ other
sent_same one other is = cc

-- the turn's reply waits, with what the client sent and its session since
abbrev pub granted_scene : Arrival → ClientAnswer → Sending → TurnAt → SecureChannelState → SecureChannelState → ℕ → ℕ → AccountTable → List (List ℕ) → ℕ → Scene
granted_scene p a sending v o c timestamp judged_at accounts left moment =
    turn_scene (with_accounts accounts (turn_on p a sending.session (sending.bytes ∷ []) v (Third o c timestamp))) (after v.next) v.next (step.Reply question.Logon) v.computers
    (turn_link (length v.links))
    (unit_back (with_accounts accounts (turn_on p a sending.session (sending.bytes ∷ []) v (Third o c timestamp)))
    (reply_bytes v.next (granting o timestamp 0 1 (hidden o (sam_for (own p) a v.table p.name p.account judged_at)))) ∷ []) left moment

abbrev ending_of : Arrival → TurnAt → SecureChannelState → ℕ → AccountTable → Ending
ending_of p v o timestamp accounts = record {
  secrets = v.secrets;
  member = after_return true (after_call o timestamp);
  number = after v.next;
  links = v.links ++ ToController p.meeting.at_member p.meeting.at_controller ∷ [];
  table = accounts;
  computers = v.computers;
}

pub granted_on : (p : Arrival) (s : State) (a : ClientAnswer) (who : WhoAsked p a) (v : TurnAt) (o c : SecureChannelState) (timestamp judged_at : ℕ) (accounts : AccountTable)
    (left : List (List ℕ)) (moment : ℕ) → IsKnown p → Fits p (Granted a who v o c timestamp judged_at accounts) →
    Shows s (scene_of p (Granted a who v o c timestamp judged_at accounts) left moment) → ComesBy p (WasTold a) s (onward s).state
granted_on p s a who v o c timestamp judged_at accounts left moment known fits shows =
    let sam : SamInfo = sam_for (own p) a v.table p.name p.account judged_at in
    let on : LoggedOn = on_for (own p) a o sam in
    let draws : AreDraws a.one a.two a.three = fits.0.answering.draws in
    let told : CanBeTold (own p) a o v.table p.name p.account judged_at = told_then p a v o timestamp judged_at known fits.0.ranged fits.1 in
    let domain_told : name_in (sam_shown o (hidden o sam)) ≡ told_of p =
    told.found ∙ ap (λ (domain : List ℕ). domain ++ 0x5C ∷ p.account.name) (domain_same p v.table fits.0.set) in
    let again : RequestGoes 1 p.meeting.task.level 2 0 [] (terms_at p a).session on.session =
    memo_calls_go.request 1 p.meeting.task.level 2 0 [] (terms_at p a).session on.session (omega arith) (omega arith) (omega arith) (omega arith)
    (grants_are_told.sessions (own p) a o v.table p.name p.account judged_at known.can draws fits.3) in
    let sending : Sending = record { bytes = again.sent; session = again.later } in
    let same : record { bytes = who.sent; session = who.later } ≡ sending = sent_same (record { bytes = who.sent; session = who.later }) sending (sym who.goes ∙ again.goes) in
    let now_shows : Shows s (granted_scene p a sending v o c timestamp judged_at accounts left moment) =
    subst (λ (sent_so : Sending). Shows s (granted_scene p a sent_so v o c timestamp judged_at accounts left moment)) same shows in
    let how : Standing = standing.Open (after_call o timestamp) in
    let before : TurnScene = turn_before p a again.later (again.sent ∷ []) v in
    let out : TurnScene = turn_on p a again.later (again.sent ∷ []) v (Third o c timestamp) in
    let end : Ending = ending_of p v o timestamp accounts in
    let name_told : List ℕ = told_of p in
    let short : length name_told ≤ 129 = subst (λ (n : List ℕ). length n ≤ 129) domain_told told.short in
    let units : AreUnits name_told = subst AreUnits domain_told told.units in
    let back : ReplyGoes 2 p.meeting.task.level 2 (written_who_reply name_told) again.next again.later =
    memo_calls_go.reply 2 p.meeting.task.level 2 (written_who_reply name_told) again.later again.next (omega arith) (omega arith)
    (omega (arith, short, (who_stub name_told (omega (arith, short)) units).short)) again.sessions in
    under p s _ (Named a end on again.later again.next back) left moment shows.left (
      record {
        joined_so = turns_have_links.met (own p) before how fits.0.joined_so;
        number_below = after_below v.next;
        one = fits.7;
        before = v.table;
        set = fits.0.set;
        fits = λ first. fits_counted v.table accounts p.meeting.caller v.secrets fits.2 (fits.0.fits first);
        differs = fits.2;
        ranged = fits.6;
        stands = record { member = after_return true (after_call o timestamp); stands = refl; controller = moved c timestamp; channel = fits.4; in_step = calls_are_answered.stays o c timestamp fits.5 };
        others = fits.0.others;
      },
      refl,
    )
    ((subst (λ (n : List ℕ). (b : ReplyGoes 2 p.meeting.task.level 2 (written_who_reply n) again.next again.later) →
    Shows (onward s).state (meeting_scene (meeting_at p end) (waits_for p a again.later) (talk_in None (logged_on on b.later)) (unit_down (own p) b.sent ∷ []) left moment)) domain_told
    (λ (b : ReplyGoes 2 p.meeting.task.level 2 (written_who_reply (name_in (sam_shown o (hidden o sam)))) again.next again.later).
    logons_are_seen.granted s (own_keeping p v.secrets) (with_accounts accounts out) o (waits_for p a again.later) a.challenge (message_for (own p) a) (hidden o sam) (after v.next) v.next timestamp 0 1 1
    v.computers _ left moment fits.0.next_below (between_still out accounts (turns_have_links.between (own p) before how fits.0.joined_so))
    (got_last p.meeting.links (ToMember p.meeting.at_client p.meeting.at_member)) (reply_then p a v o timestamp judged_at known fits.0.ranged fits.1) (omega (arith, told.short)) again b refl
    (turns_have_links.met (own p) before how fits.0.joined_so) (turns_have_links.taken (own p) before how fits.0.joined_so) now_shows)) back)

-- ---- the client hears its name, and its echo

-- the name of the domain and of the account
told_short : (p : Arrival) → IsKnown p → (length (told_of p) ≤ 129) × AreUnits (told_of p)
told_short p known =
    let told : CanBeTold (own p) (record { challenge = []; one = []; two = []; three = []; then_now = 0 }) (fresh_channel [] [] [] 0) p.table p.name p.account 0 =
    grants_are_told.told (own p) _ _ p.table p.name p.account 0 known.ranged.domain known.ranged.sid known.named known.account_so (omega arith) in
    (subst (λ (n : List ℕ). length n ≤ 129) told.found told.short, subst AreUnits told.found told.units)

over : (p : Arrival) (s after : State) (a : ClientAnswer) (e : Ending) (left : List (List ℕ)) (moment : ℕ) → s.chances.left ≡ left → IsEnding p e →
    Shows after (rest_scene (meeting_at p e) (client_ended p.meeting.task (In (told_of p) (key_at p a) p.meeting.task.echo)) e.links left moment []) → ComesBy p (WasTold a) s after
over p s after a e left moment same fits shows = (
  inr (record { asked = a; ending = e; left = left; moment = moment; fits = fits; shows = shows }, refl),
  record { front = []; few = omega arith; are = same ∙ sym shows.left },
)

-- a client that echoes nothing ends where its name comes, and another one asks for the echo
named_by : (silent : Bool) (p : Arrival) (s : State) (a : ClientAnswer) (e : Ending) (on : LoggedOn) (one other : Option SessionState)
    (back : ReplyGoes 2 p.meeting.task.level 2 (written_who_reply (told_of p)) other one) (left : List (List ℕ)) (moment : ℕ) → IsKnown p → (p.meeting.task.echo == 0) ≡ silent →
    Fits p (Named a e on one other back) → Shows s (scene_of p (Named a e on one other back) left moment) → ComesBy p (WasTold a) s (onward s).state
named_by true p s a e on one other back left moment known silent fits shows =
    let short = told_short p known in
    over p s _ a e left moment shows.left fits.0
    (subst (λ (count : ℕ). Shows (onward s).state (rest_scene (meeting_at p e) (client_ended p.meeting.task (In (told_of p) (key_at p a) count)) e.links left moment []))
    (zero_so p.meeting.task.echo silent)
    (meetings_are_seen.ends_named s (meeting_at p e) (with_session (terms_at p a) one) (told_of p) 2 other _ left moment fits.0.joined_so back (omega (arith, short.0)) short.1 silent shows))
named_by false p s a e on one other back left moment known silent fits shows =
    let short = told_short p known in
    let bytes : List ℕ = client.echo_bytes p.meeting.task.echo in
    let few : length bytes ≤ 4096 = omega (arith, echo_length p.meeting.task.echo, known.can.echo) in
    let asks : RequestGoes 3 p.meeting.task.level 3 1 (written_echo_request bytes) back.next back.later =
    memo_calls_go.request 3 p.meeting.task.level 3 1 (written_echo_request bytes) back.next back.later (omega arith) (omega arith) (omega arith)
    (omega (arith, few, (request_stub bytes few (echo_are p.meeting.task.echo)).short)) back.sessions in
    under p s _ (Echoes a e (logged_on on back.later) back.next asks) left moment shows.left (fits.0, fits.1)
    (meetings_are_seen.named s (meeting_at p e) (with_session (terms_at p a) one) (told_of p) 2 other (record { bytes = asks.sent; session = asks.later }) (logged_on on back.later) left moment
    fits.0.joined_so back (omega (arith, short.0)) short.1 silent refl asks.goes shows)

pub named_on : (p : Arrival) (s : State) (a : ClientAnswer) (e : Ending) (on : LoggedOn) (one other : Option SessionState)
    (back : ReplyGoes 2 p.meeting.task.level 2 (written_who_reply (told_of p)) other one) (left : List (List ℕ)) (moment : ℕ) → IsKnown p →
    Fits p (Named a e on one other back) → Shows s (scene_of p (Named a e on one other back) left moment) → ComesBy p (WasTold a) s (onward s).state
named_on p s a e on one other back left moment known fits shows =
    named_by (p.meeting.task.echo == 0) p s a e on one other back left moment known refl fits shows

pub echoes_on : (p : Arrival) (s : State) (a : ClientAnswer) (e : Ending) (on : LoggedOn) (one : Option SessionState)
    (asks : RequestGoes 3 p.meeting.task.level 3 1 (written_echo_request (client.echo_bytes p.meeting.task.echo)) one on.session) (left : List (List ℕ)) (moment : ℕ) → IsKnown p →
    Fits p (Echoes a e on one asks) → Shows s (scene_of p (Echoes a e on one asks) left moment) → ComesBy p (WasTold a) s (onward s).state
echoes_on p s a e on one asks left moment known fits shows =
    let bytes : List ℕ = client.echo_bytes p.meeting.task.echo in
    let few : length bytes ≤ 4096 = omega (arith, echo_length p.meeting.task.echo, known.can.echo) in
    let again : ReplyGoes 4 p.meeting.task.level 3 (written_echo_reply bytes) asks.next asks.later =
    memo_calls_go.reply 4 p.meeting.task.level 3 (written_echo_reply bytes) asks.later asks.next (omega arith) (omega arith)
    (omega (arith, few, (reply_stub bytes few (echo_are p.meeting.task.echo)).short)) asks.sessions in
    under p s _ (Echoed a e (talk_in None (logged_on on again.later)) asks.later asks.next again) left moment shows.left fits.0
    (meetings_are_seen.echoes s (meeting_at p e) (client_phase.Asked (with_session (terms_at p a) asks.later) (client_question.Echo (told_of p))) 3 on bytes one left moment fits.0.joined_so
    fits.1 few (echo_are p.meeting.task.echo) asks again shows)

pub echoed_on : (p : Arrival) (s : State) (a : ClientAnswer) (e : Ending) (talk : Talk) (one other : Option SessionState)
    (back : ReplyGoes 4 p.meeting.task.level 3 (written_echo_reply (client.echo_bytes p.meeting.task.echo)) other one) (left : List (List ℕ)) (moment : ℕ) → IsKnown p →
    IsEnding p e → Shows s (scene_of p (Echoed a e talk one other back) left moment) → ComesBy p (WasTold a) s (onward s).state
echoed_on p s a e talk one other back left moment known fits shows =
    over p s _ a e left moment shows.left fits
    (meetings_are_seen.ends_echoed s (meeting_at p e) (with_session (terms_at p a) one) (told_of p) 4 other talk left moment fits.joined_so known.can back shows)
