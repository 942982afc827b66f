-- A logon that is refused, or whose member reaches no controller, move by move.
-- Of `logons_are_turned_away`.
use Rattle.std.proofs.Common.{sym, ◌≡◌, ◌==◌, ℕ, ◌<◌, ◌^◌, Bool, true, false, refl, ap, subst, ◌∙◌, List, [], ◌∷◌, length, Option, Some, None, arith, inl, inr}
use Rattle.std.specs.Prelude.{◌⊎◌}
use Rattle.std.specs.List.{AllByRecursion}
use Rattle.wire_base.specs.declared.authenticator.Authenticator.{Authenticator}
use Rattle.wire_base.specs.Maps.{take_out}
use Rattle.wire_base.specs.Names.{same_name}
use Rattle.wire_base.proofs.MapLaws.{lookup-put_same, put_others, taken_others}
use Rattle.wire_base.proofs.NameLaws.{IsSameness-same_name}
use Rattle.authenticators.specs.Sequences.{return_of}
use Rattle.authenticators.specs.SecureChannels.{SecureChannelState, after_call, after_return, key_of_channel}
use Rattle.authenticators.proofs.BlockLaws.{cred_block}
use Rattle.outside.specs.declared.action.Action.TheVariants as action
use Rattle.outside.specs.declared.action.Judged.TheVariants as judged
use Rattle.outside.specs.Machine.{whole_step}
use Rattle.rpc_units.specs.Numbers.{error_access_denied, rpc_s_server_unavailable}
use Rattle.logon_stubs.specs.declared.info.NetworkInfo.{NetworkInfo}
use Rattle.logon_stubs.specs.declared.info.Verdict.{Verdict}
use Rattle.logon_stubs.specs.declared.info.Verdict.TheVariants as verdict
use Rattle.logon_stubs.specs.Ranges.{InRangeReply}
use Rattle.logon_stubs.specs.Writing.{CanWriteReply}
use Rattle.logon_stubs.proofs.WrittenLaws.{written_reply-few}
use Rattle.account_table.specs.AccountTable.{AccountTable}
use Rattle.account_table.specs.LookUps.{account_in, route_in}
use Rattle.account_table.specs.declared.account.Account.{Account}
use Rattle.account_table.specs.declared.account.Policy.{Policy}
use Rattle.account_table.specs.declared.table.Route.{Route}
use Rattle.account_table.specs.declared.table.Route.TheVariants.{Own, Trust, Elsewhere}
use Rattle.account_table.proofs.ChangeLaws.{differs-none}
use Rattle.sam_logon.specs.Rules.{Rule, Shown, first_refusal, refusal_by, rules_for, shown_by_response}
use Rattle.sam_logon.specs.Verdict.{judgement_of, table_after, verdict_by, verdict_of, verdict_routed, verdict_shown}
use Rattle.channel_client.specs.declared.judging.Judgement.TheVariants as judgement
use Rattle.channel_client.specs.declared.state.Question.TheVariants as question
use Rattle.channel_client.specs.declared.state.Standing.{Standing}
use Rattle.channel_client.specs.declared.state.Standing.TheVariants as standing
use Rattle.channel_client.specs.declared.state.Step.TheVariants as step
use Rattle.channel_client.specs.Machine.{after, logon_call, judge, judge_awaited, judge_logon, judge_status, level_asked}
use Rattle.domain_controller.specs.Machine.{status_of}
use Rattle.domain_controller.specs.Whole.{InRangeTable}
use Rattle.secret_change.specs.Secrets.{IsNextSecret}
use Rattle.controller_calls.specs.declared.state.Computers.{Computers}
use Rattle.domain_controller.proofs.WholeParts.{judged_table}
use Rattle.logon_client.specs.Machine.{fault_outcome}
use Rattle.world_moves.specs.declared.links.EndId.TheVariants.{Member}
use Rattle.world_moves.specs.declared.moves.Move.{Move}
use Rattle.world_moves.specs.declared.moves.Move.TheVariants as move
use Rattle.world_moves.specs.declared.state.State.{State}
use Rattle.world_moves.specs.Moving.{act, connect, end_of_peer, moment_after, onward, route_to}
use Rattle.logon_steps.specs.Answering.{moved}
use Rattle.logon_steps.specs.ClientSteps.{client_ended}
use Rattle.logon_steps.specs.ControllerTurns.{controller_at, passed_reply, reply_bytes, turn_link}
use Rattle.logon_steps.specs.BesideTrusts.{AtTrusts}
use Rattle.logon_steps.specs.Turning.{IsTurnCall, IsTurnReply}
use Rattle.logon_steps.proofs.AnsweringLaws.{calls_are_answered}
use Rattle.logon_steps.proofs.AskingLaws.{same_bytes}
use Rattle.logon_steps.proofs.CallingLaws.{calls_can_go}
use Rattle.logon_steps.proofs.BesideTrustsLaws.{trusts_stay_beside}
use Rattle.logon_steps.proofs.ControllerTurnLaws.{controllers_step}
use Rattle.logon_steps.proofs.KnowingLaws.{computers_are_known}
use Rattle.logon_runs.specs.Scenes.LinkScenes.{rest_scene}
use Rattle.logon_runs.specs.Scenes.Others.{IsStepOn}
use Rattle.logon_client.specs.declared.outcome.ClientOutcome.TheVariants.{In}
use Rattle.logon_runs.specs.Phases.{key_at, told_of, Aim, Calls, Arrival, DialsBefore, DialsHeld, Fits, IsKnown, IsTurning, Third, TurnAt, WhoAsked, own, own_keeping, scene_of, standing_for, step_for, turn_before, turn_on, waits_for}
use Rattle.logon_runs.specs.Runs.{ClientAnswer, info_asked, message_for, with_moved}
use Rattle.logon_runs.specs.Scenes.Scene.{Shows}
use Rattle.logon_runs.specs.Scenes.AskScenes.{kept_by}
use Rattle.logon_runs.specs.Scenes.TurnScenes.{TurnScene}
use Rattle.logon_runs.specs.Failing.TurnedAway.{AwayPhase, Faulted, FitsAway, IsAway, IsRefusal, IsSettled, HasEnded, LogonsAreTurnedAway, Refused, Settled, Unheard, away_scene, refusing, settled_in}
use Rattle.logon_runs.specs.Scenes.WaitingUnits.{waiting}
use Rattle.logon_runs.proofs.Failing.FailingLaws.{failings_are_seen}
use Rattle.logon_runs.proofs.FirstLogon.FirstTraceLaws.{after_below}
use Rattle.logon_runs.proofs.RunLaws.{between_still, same_computer}
use Rattle.logon_runs.proofs.SecretRestLaws.{fits_counted}
use Rattle.logon_runs.proofs.Scenes.StartLaws.{starts_are_seen}
use Rattle.logon_runs.proofs.Scenes.TurnSceneLaws.{turns_are_seen}
use Rattle.logon_runs.proofs.Scenes.TurningSceneLaws.{scenes_turn}
use Rattle.logon_runs.proofs.Scenes.TwoLinkLaws.{turns_have_links}
use Rattle.logon_runs.proofs.Scenes.StepOnLaws.{by_step}

-- ---- the statuses of verdicts

abbrev pub IsRefusalOf : Verdict → Type 0
IsRefusalOf (verdict.Granted info) = Unit {0}
IsRefusalOf (verdict.Status status) = IsRefusal status

by_rule : (refuses : Bool) (rule : Rule) (later : Option _) (info : _) → IsRefusal rule.1.status → IsRefusalOf (verdict_by later info) → IsRefusalOf (verdict_by (refusal_by refuses rule.1 later) info)
by_rule true rule later info is then_is = is
by_rule false rule later info is then_is = then_is

by_rules : (rules : List Rule) (info : _) → AllByRecursion (λ (rule : Rule). IsRefusal rule.1.status) rules → IsRefusalOf (verdict_by (first_refusal rules) info)
by_rules [] info all = tt
by_rules (rule ∷ rules) info all = by_rule rule.0 rule (first_refusal rules) info all.0 (by_rules rules info all.1)

refusal : (status : ℕ) → status < 2 ^ 32 → (status == 0) ≡ false → (status == 0xC0000022) ≡ false → IsRefusal status
refusal status small not_zero not_denied = record { small = small; not_zero = not_zero; not_denied = not_denied }

rules_refuse : (policy : Policy) (account : Account) (shown : Shown) (workstation : List ℕ) (now : ℕ) → AllByRecursion (λ (rule : Rule). IsRefusal rule.1.status) (rules_for policy account shown workstation now)
rules_refuse policy account shown workstation now = (
  refusal _ (omega arith) refl refl,
  (
    refusal _ (omega arith) refl refl,
    (
      refusal _ (omega arith) refl refl,
      (
        refusal _ (omega arith) refl refl,
        (
          refusal _ (omega arith) refl refl,
          (
            refusal _ (omega arith) refl refl,
            (refusal _ (omega arith) refl refl, (refusal _ (omega arith) refl refl, (refusal _ (omega arith) refl refl, (refusal _ (omega arith) refl refl, (refusal _ (omega arith) refl refl, tt))))),
          ),
        ),
      ),
    ),
  ),
)

shown_refuses : (found : Option Account) (shown : Shown) (table : AccountTable) (name workstation : List ℕ) (now : ℕ) → IsRefusalOf (verdict_shown found shown table name workstation now)
shown_refuses None shown table name workstation now = refusal _ (omega arith) refl refl
shown_refuses (Some account) shown table name workstation now = by_rules (rules_for table.policy account shown workstation now) _ (rules_refuse table.policy account shown workstation now)

routed_refuses : (route : Route) (shown : Shown) (table : AccountTable) (name user workstation : List ℕ) (now : ℕ) → IsRefusalOf (verdict_routed route shown table name user workstation now)
routed_refuses Own shown table name user workstation now = shown_refuses (account_in table.accounts user) shown table name workstation now
routed_refuses (Trust place) shown table name user workstation now = refusal _ (omega arith) refl refl
routed_refuses Elsewhere shown table name user workstation now = refusal _ (omega arith) refl refl

pub verdict_refuses : (table : AccountTable) (name : List ℕ) (info : NetworkInfo) (now : ℕ) → IsRefusalOf (verdict_of table name info now)
unfolding verdict_of
verdict_refuses table name info now = routed_refuses (route_in table info.domain) (shown_by_response info) table name info.user info.workstation now

pub refusal_from : (found : Verdict) (status : ℕ) → IsRefusalOf found → found ≡ verdict.Status status → IsRefusal status
refusal_from found status is same = subst IsRefusalOf same is

refusals_so : (p : Arrival) (table : AccountTable) (a : ClientAnswer) (moment status : ℕ) → verdict_of table p.name (info_asked (own p) a) moment ≡ verdict.Status status → IsRefusal status
refusals_so p table a moment status is = refusal_from _ status (verdict_refuses table p.name (info_asked (own p) a) moment) is

-- ---- the reply that refuses can be taken

refusing_goes : (o : SecureChannelState) (timestamp status : ℕ) → status < 2 ^ 32 → IsTurnReply question.Logon (refusing o timestamp status)
refusing_goes o timestamp status small =
    let writes : CanWriteReply (refusing o timestamp status) = tt in
    let range : InRangeReply (refusing o timestamp status) = record {
      returned = record { credential = cred_block _ _; timestamp = omega arith };
      level = omega arith;
      info = tt;
      authoritative = omega arith;
      status = small;
    } in
    record {
      opnum = refl;
      writes = writes;
      range = range;
      short = omega (arith, written_reply-few (refusing o timestamp status) writes range tt);
    }

refused_judged : (o : SecureChannelState) (timestamp status : ℕ) (secret : List ℕ) → IsRefusal status →
    judge question.Logon (refusing o timestamp status) (standing.Open (after_call o timestamp)) secret
    ≡ judgement.Answer (after_return true (after_call o timestamp)) (verdict.Status status)
refused_judged o timestamp status secret is =
    let returned : Option Authenticator = Some (record { credential = return_of (key_of_channel o) o.seed timestamp; timestamp = 0 }) in
    ap (λ (d : Bool). judge_logon d (standing.Open (after_call o timestamp)) returned status level_asked None) is.not_denied
    ∙ ap (λ (same : Bool). judge_awaited same status level_asked None (after_call o timestamp)) (same_bytes (return_of (key_of_channel o) o.seed timestamp))
    ∙ ap (λ (z : Bool). judge_status z status level_asked None (after_return true (after_call o timestamp))) is.not_zero

judged_range : (p : Arrival) (table : AccountTable) (a : ClientAnswer) (moment : ℕ) → InRangeTable table → InRangeTable (table_after table (info_asked (own p) a) moment)
unfolding judgement_of
judged_range p table a moment range = judged_table table p.name moment (info_asked (own p) a) level_asked range

refuses_so : (p : Arrival) (s : State) (a : ClientAnswer) (who : WhoAsked p a) (v : TurnAt) (o c : SecureChannelState) (timestamp : ℕ) (left : List (List ℕ)) (moment status : ℕ) → IsKnown p →
    Fits p (Calls a who v (Third o c timestamp)) → verdict_of v.table p.name (info_asked (own p) a) moment ≡ verdict.Status status →
    Shows s (scene_of p (Calls a who v (Third o c timestamp)) left moment) → IsAway p (onward s).state
refuses_so p s a who v o c timestamp left moment status known fits is shows =
    let can : IsTurnCall (logon_call p.meeting.caller o timestamp (info_asked (own p) a)) = calls_can_go.logon p.meeting.caller o timestamp (info_asked (own p) a) known.caller fits.1.0 fits.0.answering.info in
    let later : Computers = with_moved (own p) c timestamp v.computers in
    let name : List ℕ = p.meeting.caller.computer in
    let accounts : AccountTable = table_after v.table (info_asked (own p) a) moment in
    let rest : List (List ℕ × SecureChannelState) = take_out same_name name v.computers.channels in
    let link : ℕ = length v.links in
    let out : TurnScene = turn_on p a who.later (who.sent ∷ []) v (Third o c timestamp) in
    record {
      phase = Refused a who (record v { computers = later }) o c timestamp accounts status;
      left = left;
      moment = moment;
      fits = (
        record {
          answering = fits.0.answering;
          joined_so = fits.0.joined_so;
          number_below = fits.0.number_below;
          next_below = fits.0.next_below;
          others = λ other apart.
              put_others same_name name other (moved c timestamp) rest IsSameness-same_name apart ∙ taken_others same_name name other v.computers.channels IsSameness-same_name apart
              ∙ fits.0.others other apart;
          ranged = fits.0.ranged;
          set = fits.0.set;
          next = fits.0.next;
          fits = fits.0.fits;
        },
        refusals_so p v.table a moment status is,
        computers_are_known.judged v.table (info_asked (own p) a) moment,
        judged_range p v.table a moment fits.0.ranged,
        lookup-put_same same_name name (moved c timestamp) rest (same_computer name),
        fits.1.2,
        fits.1.3,
      );
      shows = turns_are_seen.judges s out (after v.next) v.next (step.Reply question.Logon) (logon_call p.meeting.caller o timestamp (info_asked (own p) a)) (refusing o timestamp status) (judged.Passed status) v.computers
          later accounts left left moment
          (turns_have_links.between (own p) (turn_before p a who.later (who.sent ∷ []) v) (standing_for (Third o c timestamp)) fits.0.joined_so) can
          (trusts_stay_beside.called (kept_by (own p) v.table p.name v.computers) link moment v.next (logon_call p.meeting.caller o timestamp (info_asked (own p) a)) left left _ _ _
          p.meeting.trusts.nobody fits.0.next_below can
          (trusts_stay_beside.alone (kept_by (own p) v.table p.name v.computers) (logon_call p.meeting.caller o timestamp (info_asked (own p) a)) (ap (λ (trusts : AtTrusts). trusts.requesters) known.alone))
          (controllers_step.judged v.table p.name v.computers link moment v.next timestamp p.meeting.caller o c (info_asked (own p) a) left fits.0.next_below can fits.1.1 fits.1.2
          ∙ ap (λ (found : Verdict). whole_step left left
          (action.Judged (judged.Passed (status_of found)) ∷ action.Send link (reply_bytes v.next (passed_reply (key_of_channel o) (return_of (key_of_channel o) o.seed timestamp) found)) ∷ [])
          (controller_at accounts p.name later (turn_link link))) is)) shows;
    }

-- ---- a dial that reaches no controller

abbrev pub lost_at : Arrival → TurnAt → Settled
lost_at p v = record { secrets = v.secrets; how = standing.Nothing; number = v.next; links = v.links; table = v.table; computers = v.computers }

pub nothing_not_open : (o : SecureChannelState) → standing.Nothing ≡ standing.Open o → ⊥
nothing_not_open o is = absurd cc

lost_so : (p : Arrival) (a : ClientAnswer) (v : TurnAt) → InRangeTable p.table → IsTurning p a v → IsSettled p (lost_at p v)
lost_so p a v ranged is = record {
  joined_so = is.joined_so;
  number_below = is.next_below;
  one = λ o stands. absurd (nothing_not_open o stands);
  before = v.table;
  set = is.set;
  next = is.next;
  fits = is.fits;
  differs = differs-none v.table;
  ranged = is.ranged;
  others = is.others;
  stands = inl refl;
}

-- ---- a unit comes

refused_on : (p : Arrival) (s : State) (a : ClientAnswer) (who : WhoAsked p a) (v : TurnAt) (o c : SecureChannelState) (timestamp : ℕ) (accounts : AccountTable) (status : ℕ)
    (left : List (List ℕ)) (moment : ℕ) → FitsAway p (Refused a who v o c timestamp accounts status) → Shows s (away_scene p (Refused a who v o c timestamp accounts status) left moment) →
    IsAway p (onward s).state
refused_on p s a who v o c timestamp accounts status left moment fits shows =
    let how : Standing = standing.Open (after_call o timestamp) in
    let before : TurnScene = turn_before p a who.later (who.sent ∷ []) v in
    let out : TurnScene = turn_on p a who.later (who.sent ∷ []) v (Third o c timestamp) in
    let o_then : SecureChannelState = after_return true (after_call o timestamp) in
    record {
      phase = Faulted a who.later (record { secrets = v.secrets; how = standing.Open o_then; number = after v.next; links = out.links; table = accounts; computers = v.computers }) error_access_denied;
      left = left;
      moment = moment;
      fits = (
        record {
          joined_so = turns_have_links.met (own p) before how fits.0.joined_so;
          number_below = after_below v.next;
          one = λ o_now stands. fits.6;
          before = v.table;
          set = fits.0.set;
          next = fits.0.next;
          fits = λ first. fits_counted v.table accounts p.meeting.caller v.secrets fits.2 (fits.0.fits first);
          differs = fits.2;
          ranged = fits.3;
          others = fits.0.others;
          stands = inr (record { member = o_then; stands = refl; controller = moved c timestamp; channel = fits.4; in_step = calls_are_answered.stays o c timestamp fits.5 });
        },
        omega arith,
      );
      shows = failings_are_seen.refused s (own_keeping p v.secrets) (waits_for p a who.later) out.info a.challenge (message_for (own p) a) accounts p.name how o_then out.links out.opened (length v.links)
          (after v.next) v.next 1 status question.Logon (refusing o timestamp status) v.computers _ _ left moment who fits.0.next_below
          (between_still out accounts (turns_have_links.between (own p) before how fits.0.joined_so)) (refusing_goes o timestamp status fits.1.small)
          (refused_judged o timestamp status p.meeting.caller.secret fits.1) (turns_have_links.met (own p) before how fits.0.joined_so)
          (turns_have_links.taken (own p) before how fits.0.joined_so) shows;
    }

comes_on : (p : Arrival) (s : State) (phase : AwayPhase p) (left : List (List ℕ)) (moment : ℕ) → FitsAway p phase → Shows s (away_scene p phase left moment) →
    IsAway p (onward s).state ⊎ HasEnded p (onward s).state
comes_on p s (Refused a who v o c timestamp accounts status) left moment fits shows = inl (refused_on p s a who v o c timestamp accounts status left moment fits shows)
comes_on p s (Unheard a who e) left moment fits shows =
    inl (record {
      phase = Faulted a who.later e rpc_s_server_unavailable;
      left = left;
      moment = moment;
      fits = (fits, omega arith);
      shows = failings_are_seen.faults s (settled_in p e) (waits_for p a who.later) rpc_s_server_unavailable 1 _ _ left moment fits.joined_so who shows;
    })
comes_on p s (Faulted a later e status) left moment fits shows =
    inr (record {
      outcome = fault_outcome (status == rpc_s_server_unavailable) status;
      settled = e;
      left = left;
      moment = moment;
      fits = fits.0;
      shows = failings_are_seen.faulted s (settled_in p e) _ _ status left moment fits.1 shows;
    })

-- ---- a move

connects_on : (p : Arrival) (s : State) (phase : AwayPhase p) (left : List (List ℕ)) (moment : ℕ) → Shows s (away_scene p phase left moment) → Shows (act s move.Connect).state (away_scene p phase left moment)
connects_on p s (Refused a who v o c timestamp accounts status) left moment shows = starts_are_seen.no_dial s (away_scene p (Refused a who v o c timestamp accounts status) left moment) refl shows
connects_on p s (Unheard a who e) left moment shows = starts_are_seen.no_dial s (away_scene p (Unheard a who e) left moment) refl shows
connects_on p s (Faulted a later e status) left moment shows = starts_are_seen.no_dial s (away_scene p (Faulted a later e status) left moment) refl shows

ticks_on : (p : Arrival) (s : State) (phase : AwayPhase p) (left : List (List ℕ)) (moment more : ℕ) → Shows s (away_scene p phase left moment) →
    Shows (act s (move.Tick more)).state (away_scene p phase left (moment_after more moment))
ticks_on p s (Refused a who v o c timestamp accounts status) left moment more shows = scenes_turn.ticks s (away_scene p (Refused a who v o c timestamp accounts status) left moment) more shows
ticks_on p s (Unheard a who e) left moment more shows = scenes_turn.ticks s (away_scene p (Unheard a who e) left moment) more shows
ticks_on p s (Faulted a later e status) left moment more shows = scenes_turn.ticks s (away_scene p (Faulted a later e status) left moment) more shows

goes_so : (p : Arrival) (s : State) (what : Move) → IsStepOn what → IsAway p s → IsAway p (act s what).state ⊎ HasEnded p (act s what).state
goes_so p s what steps at =
    by_step (λ (one : Move). IsAway p (act s one).state ⊎ HasEnded p (act s one).state)
    (inl (record { phase = at.phase; left = at.left; moment = at.moment; fits = at.fits; shows = connects_on p s at.phase at.left at.moment at.shows }))
    (comes_on p s at.phase at.left at.moment at.fits at.shows)
    (λ more. inl (record { phase = at.phase; left = at.left; moment = moment_after more at.moment; fits = at.fits; shows = ticks_on p s at.phase at.left at.moment more at.shows }))
    what steps

one_waits : {T : Type 0} (items : List T) (one : T) → items ≡ one ∷ [] → items ≡ [] → ⊥
one_waits items one are none = absurd cc

waits_so : (p : Arrival) (s : State) (phase : AwayPhase p) (left : List (List ℕ)) (moment : ℕ) → Shows s (away_scene p phase left moment) → waiting s.bag ≡ [] → ⊥
waits_so p s (Refused a who v o c timestamp accounts status) left moment shows units = one_waits (waiting s.bag) _ shows.units units
waits_so p s (Unheard a who e) left moment shows units = one_waits (waiting s.bag) _ shows.units units
waits_so p s (Faulted a later e status) left moment shows units = one_waits (waiting s.bag) _ shows.units units

over_at : (p : Arrival) (s after : State) (at : HasEnded p s) (moment : ℕ) →
    Shows after (rest_scene (settled_in p at.settled) (client_ended p.meeting.task at.outcome) at.settled.links at.left moment []) → HasEnded p after
over_at p s after at moment shows = record { outcome = at.outcome; settled = at.settled; left = at.left; moment = moment; fits = at.fits; shows = shows }

rests_so : (p : Arrival) (s : State) (what : Move) → IsStepOn what → HasEnded p s → HasEnded p (act s what).state
rests_so p s what steps at =
    by_step (λ (one : Move). HasEnded p (act s one).state) (over_at p s _ at at.moment (starts_are_seen.no_dial s _ refl at.shows)) (over_at p s _ at at.moment (starts_are_seen.no_unit s _ refl at.shows))
    (λ more. over_at p s _ at (moment_after more at.moment) (scenes_turn.ticks s _ more at.shows)) what steps

unreached_so : (p : Arrival) (s : State) (a : ClientAnswer) (who : WhoAsked p a) (v : TurnAt) (aim : Aim) (left : List (List ℕ)) (moment : ℕ) → InRangeTable p.table → IsTurning p a v →
    route_to (Member p.meeting.at_member) (end_of_peer p.meeting.plan.controller s.ends) ≡ None →
    Shows s (scene_of p (DialsBefore a who v aim) left moment) → IsAway p (connect s).state
unreached_so p s a who v aim left moment ranged is reaches shows = record {
  phase = Unheard a who (lost_at p v);
  left = left;
  moment = moment;
  fits = lost_so p a v ranged is;
  shows = failings_are_seen.member_unreached s (own_keeping p v.secrets) (waits_for p a who.later) (turn_before p a who.later [] v).info a.challenge (message_for (own p) a) v.table p.name standing.Nothing
      (standing_for aim) v.links v.next v.number (step_for p a aim) v.computers who.sent left moment reaches shows;
}

unreached_held_so : (p : Arrival) (s : State) (a : ClientAnswer) (who : WhoAsked p a) (v : TurnAt) (aim : Aim) (left : List (List ℕ)) (moment : ℕ) → InRangeTable p.table → IsTurning p a v →
    route_to (Member p.meeting.at_member) (end_of_peer p.meeting.plan.controller s.ends) ≡ None →
    Shows s (scene_of p (DialsHeld a who v aim) left moment) → IsAway p (connect s).state
unreached_held_so p s a who v aim left moment ranged is reaches shows = record {
  phase = Faulted a who.later (lost_at p v) rpc_s_server_unavailable;
  left = left;
  moment = moment;
  fits = (lost_so p a v ranged is, omega arith);
  shows = failings_are_seen.member_unreached_held s (own_keeping p v.secrets) (waits_for p a who.later) (turn_before p a who.later (who.sent ∷ []) v).info a.challenge (message_for (own p) a) v.table p.name
      standing.Nothing (standing_for aim) v.links v.next v.number 1 (step_for p a aim) v.computers _ _ left moment reaches is.joined_so who shows;
}

-- ---- no challenge is drawn

away_left : (p : Arrival) (phase : AwayPhase p) (left : List (List ℕ)) (moment : ℕ) → (away_scene p phase left moment).left ≡ left
away_left p (Refused a who v o c timestamp accounts status) left moment = refl
away_left p (Unheard a who e) left moment = refl
away_left p (Faulted a later e status) left moment = refl

left_there : (p : Arrival) (s : State) (at : IsAway p s) → s.chances.left ≡ at.left
left_there p s at = at.shows.left ∙ away_left p at.phase at.left at.moment

-- the challenges that are left where a move leads
after_left : (p : Arrival) (s : State) → IsAway p s ⊎ HasEnded p s → List (List ℕ)
after_left p s (inl at) = at.left
after_left p s (inr over) = over.left

after_is : (p : Arrival) (s : State) (at : IsAway p s ⊎ HasEnded p s) → s.chances.left ≡ after_left p s at
unfolding after_left
after_is p s (inl at) = left_there p s at
after_is p s (inr over) = over.shows.left

comes_left : (p : Arrival) (s : State) (phase : AwayPhase p) (left : List (List ℕ)) (moment : ℕ) (fits : FitsAway p phase) (shows : Shows s (away_scene p phase left moment)) →
    after_left p (onward s).state (comes_on p s phase left moment fits shows) ≡ left
unfolding after_left comes_on refused_on
comes_left p s (Refused a who v o c timestamp accounts status) left moment fits shows = refl
comes_left p s (Unheard a who e) left moment fits shows = refl
comes_left p s (Faulted a later e status) left moment fits shows = refl

draws_none : (p : Arrival) (s : State) (what : Move) (steps : IsStepOn what) (at : IsAway p s) → after_left p (act s what).state (goes_so p s what steps at) ≡ at.left
unfolding after_left goes_so by_step
draws_none p s what steps at =
    by_step (λ (one : Move). (on : IsStepOn one) → after_left p (act s one).state (goes_so p s one on at) ≡ at.left) (λ on. refl)
    (λ on. comes_left p s at.phase at.left at.moment at.fits at.shows) (λ more on. refl) what steps steps

rests_left : (p : Arrival) (s : State) (what : Move) (steps : IsStepOn what) (at : HasEnded p s) → (rests_so p s what steps at).left ≡ at.left
unfolding rests_so over_at by_step
rests_left p s what steps at =
    by_step (λ (one : Move). (on : IsStepOn one) → (rests_so p s one on at).left ≡ at.left) (λ on. refl) (λ on. refl) (λ more on. refl) what steps steps

refuses_left : (p : Arrival) (s : State) (a : ClientAnswer) (who : WhoAsked p a) (v : TurnAt) (o c : SecureChannelState) (timestamp : ℕ) (left : List (List ℕ)) (moment status : ℕ) (known : IsKnown p)
    (fits : Fits p (Calls a who v (Third o c timestamp))) (is : verdict_of v.table p.name (info_asked (own p) a) moment ≡ verdict.Status status)
    (shows : Shows s (scene_of p (Calls a who v (Third o c timestamp)) left moment)) → (refuses_so p s a who v o c timestamp left moment status known fits is shows).left ≡ left
unfolding refuses_so
refuses_left p s a who v o c timestamp left moment status known fits is shows = refl

pub logons_are_turned_away : LogonsAreTurnedAway
logons_are_turned_away = record {
  refusals = λ p a moment status is. refusals_so p p.table a moment status is;
  refuses = refuses_so;
  unreached = unreached_so;
  unreached_held = unreached_held_so;
  over = λ p s over. record {
    outcome = In (told_of p) (key_at p over.asked) p.meeting.task.echo;
    settled = record { secrets = over.ending.secrets; how = standing.Open over.ending.member; number = over.ending.number; links = over.ending.links; table = over.ending.table; computers = over.ending.computers };
    left = over.left;
    moment = over.moment;
    fits = record {
      joined_so = over.fits.joined_so;
      number_below = over.fits.number_below;
      one = λ o stands. over.fits.one;
      before = over.fits.before;
      set = over.fits.set;
      next = subst IsNextSecret (sym over.fits.one) tt;
      fits = over.fits.fits;
      differs = over.fits.differs;
      ranged = over.fits.ranged;
      others = over.fits.others;
      stands = inr (record {
        member = over.fits.stands.member;
        stands = over.fits.stands.stands;
        controller = over.fits.stands.controller;
        channel = over.fits.stands.channel;
        in_step = over.fits.stands.in_step;
      });
    };
    shows = over.shows;
  };
  goes_on = goes_so;
  judged_draws = λ p s a who v o c timestamp left moment status known fits is shows.
      left_there p (onward s).state (refuses_so p s a who v o c timestamp left moment status known fits is shows)
      ∙ refuses_left p s a who v o c timestamp left moment status known fits is shows ∙ sym shows.left;
  draws = λ p s what steps at. after_is p (act s what).state (goes_so p s what steps at) ∙ draws_none p s what steps at ∙ sym (left_there p s at);
  over_draws = λ p s what steps at. (rests_so p s what steps at).shows.left ∙ rests_left p s what steps at ∙ sym at.shows.left;
  waits = λ p s at dials units. waits_so p s at.phase at.left at.moment at.shows units;
  rests = rests_so;
}
