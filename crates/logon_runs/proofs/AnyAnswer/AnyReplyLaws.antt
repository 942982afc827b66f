-- A logon at any member: what the member makes of the replies that open the channel, set a secret, and judge the logon.
-- Of `any_phases_go_on`.
use Rattle.std.proofs.Common.{◌≡◌, ℕ, Bool, true, false, refl, sym, ap, subst, ◌∙◌, List, [], ◌∷◌, length, Option, None, Some, Ok, Err, arith, inl, inr}
use Rattle.std.specs.Prelude.{◌==◌, ◌⊎◌, bytes_eq}
use Rattle.std.proofs.lemmas.Bool.{cases_Bool}
use Rattle.std.proofs.lemmas.Bool.Decides.{Decides-eqb}
use Rattle.std.proofs.lemmas.Slice.Eq.{bytes_eq-Decides}
use Rattle.wire_base.specs.declared.authenticator.Authenticator.{Authenticator}
use Rattle.authenticators.specs.SecureChannels.{SecureChannelState, after_call, after_return, fresh_channel, is_awaited, key_of_channel}
use Rattle.authenticators.specs.Sequences.{return_of}
use Rattle.outside.specs.declared.action.DropCause.{DropCause}
use Rattle.outside.specs.declared.action.DropCause.TheVariants as drop_cause
use Rattle.rpc_units.specs.Numbers.{rpc_s_server_unavailable}
use Rattle.secret_change.specs.Secrets.{SecretsState, alone, tried_of_next}
use Rattle.secret_change.specs.declared.calls.SetReply.{SetReply}
use Rattle.secret_change.specs.declared.secrets.Next.{Next}
use Rattle.member_server.specs.Secrets.{is_denied, secrets_dropped}
use Rattle.logon_runs.proofs.Failing.FailingStepLaws.{dropped_one, form_dropped}
use Rattle.logon_stubs.specs.declared.calls.Reply.{Reply}
use Rattle.logon_stubs.specs.declared.info.Verdict.TheVariants as verdict
use Rattle.account_table.specs.AccountTable.{AccountTable}
use Rattle.account_table.proofs.ChangeLaws.{differs-none}
use Rattle.channel_client.specs.declared.judging.Judgement.{Judgement as ChannelJudgement}
use Rattle.channel_client.specs.declared.judging.Judgement.TheVariants as judgement
use Rattle.channel_client.specs.declared.state.Question.TheVariants as question
use Rattle.channel_client.specs.declared.state.Standing.{Standing}
use Rattle.channel_client.specs.declared.state.Standing.TheVariants as standing
use Rattle.channel_client.specs.declared.state.SetStep.TheVariants as set_step
use Rattle.channel_client.specs.declared.state.Step.TheVariants as step
use Rattle.channel_client.specs.Machine.{SetOutcome, after, change_call, judge, judge_auth, judge_credential, judge_set, judge_set_awaited, judge_set_status, logon_call, offered_flags, server_credential}
use Rattle.member_server.specs.Turns.{timestamp_of}
use Rattle.world_moves.specs.declared.plan.Plan.{Plan}
use Rattle.world_moves.specs.declared.state.State.{State}
use Rattle.world_moves.specs.Links.{OpenMap}
use Rattle.world_moves.specs.Moving.{onward}
use Rattle.logon_steps.specs.Turning.{IsTurnReply}
use Rattle.logon_steps.proofs.AskingLaws.{same_bytes}
use Rattle.logon_steps.proofs.CallingLaws.{calls_can_go}
use Rattle.logon_runs.specs.Phases.{Arrival, DialsHeld, FitsCaller, Fourth, IsPlanned, IsSetAt, NotYet, account_of_caller, own, own_keeping, Second, Third, turn_before, turn_on, TurnAt, waits_for, WhoAsked}
use Rattle.logon_runs.specs.Runs.{ClientAnswer, info_asked, message_for}
use Rattle.logon_runs.specs.Scenes.Scene.{Shows}
use Rattle.logon_runs.specs.Failing.TurnedAway.{Faulted}
use Rattle.logon_runs.specs.Scenes.TurnScenes.{TurnScene, dial_scene, waiting_scene, with_accounts, with_secrets}
use Rattle.logon_runs.specs.AnyAnswer.AnyPhases.{Away, IsGranted, IsJudgedBy, GoesTo, IsLetIn, IsOwn, IsProofOwn, IsSetBy, IsTurningBy, KeepsInStep, MaySet, On, Setting, Told, any_scene, proof_reply}
use Rattle.logon_runs.specs.OtherKeys.GrantRests.{judged_scene}
use Rattle.logon_runs.proofs.Failing.FailingLaws.{failings_are_seen}
use Rattle.logon_runs.proofs.Phases.PhaseTurnLaws.{turn_after}
use Rattle.logon_runs.proofs.RunLaws.{between_still, timestamp_below}
use Rattle.logon_runs.proofs.Scenes.TurnSceneLaws.{turns_are_seen}
use Rattle.logon_runs.proofs.Scenes.TwoLinkLaws.{turns_have_links}
use Rattle.logon_runs.proofs.AnyAnswer.AnyStartLaws.{leads, no_channel}
use Rattle.logon_runs.proofs.SecretRestLaws.{fits_counted, fits_set}
use Rattle.logon_runs.proofs.Scenes.SetSceneLaws.{sets_are_seen}
use Rattle.logon_runs.proofs.AnyAnswer.JudgingLaws.{IsLogonJudged, info_in, logon_judged}
use Rattle.logon_runs.proofs.AnyAnswer.AnyTurnLaws.{differ_not, dropped_left, dropped_on, dropped_seen, left_with, refused_on, turning_after}

-- ---- how the reply to the call that sets a secret is judged

set_awaited : (awaited : Bool) (o later : SecureChannelState) → judge_set_awaited awaited o ≡ Ok later → later ≡ after_return true o
set_awaited false o later is = absurd cc
set_awaited true o later is = let same : after_return true o ≡ later = cc in sym same

set_state : (zeroed : Bool) (returned : Authenticator) (o later : SecureChannelState) → judge_set_status zeroed (standing.Open o) returned ≡ Ok later → later ≡ after_return true o
set_state false returned o later is = absurd cc
set_state true returned o later is = set_awaited (is_awaited o.awaited returned.credential) o later is

set_not : {state : SecureChannelState} {cause : DropCause} → Err cause ≡ Ok state → ⊥
set_not is = absurd cc

module _ (plan : Plan) (p : Arrival) (s : State) where
  -- ---- the channel opens by the credential that is awaited

  module _ (a : ClientAnswer) (who : WhoAsked p a) (v : TurnAt) (client server : List ℕ) (left : List (List ℕ)) (moment : ℕ) (turning : IsTurningBy plan p a v) (planned : IsPlanned p v)
      (granted : IsGranted plan p v client server) (shows : Shows s (any_scene p (Told a who v client server (server_credential p.meeting.caller.secret client server) 0) left moment)) where
    abbrev before : TurnScene
    before = turn_before p a who.later (who.sent ∷ []) v

    abbrev half : Standing
    half = standing.Half client server

    abbrev out : TurnScene
    out = turn_on p a who.later (who.sent ∷ []) v (Second client server)

    abbrev fresh : SecureChannelState
    fresh = fresh_channel p.meeting.caller.secret client server offered_flags

    abbrev stamp : ℕ
    stamp = timestamp_of moment

    turned : IsTurningBy plan p a (turn_after p v)
    turned = turning_after plan p s a who v (Second client server) turning

    -- none is next: the logon's own turn is dialled
    opens_one : v.secrets.next ≡ None → GoesTo plan p NotYet s (onward s).state
    opens_one one =
        leads plan p s _ (On (DialsHeld a who (turn_after p v) (Third fresh no_channel stamp))) left moment shows.left (turned, (timestamp_below moment, granted.in_step, one))
        (subst (λ (map : OpenMap). Shows (onward s).state
        (dial_scene out map (standing.Open (after_call fresh stamp)) (after (after v.next)) (after v.next) (logon_call p.meeting.caller fresh stamp (info_asked (own p) a)) v.computers [] left moment))
        (turns_have_links.taken (own p) before half turning.joined_so)
        (turns_are_seen.opened s out (after v.next) v.next offered_flags client server v.computers left moment (turns_have_links.between (own p) before half turning.joined_so)
        turning.next_below refl one refl (calls_can_go.proved p.meeting.caller.secret client server) shows))

    -- the current secret was tried: the turn that sets the next one is dialled
    opens_set : (new : List ℕ) → v.secrets.next ≡ Some (record { secret = new; is_tried = false }) → GoesTo plan p NotYet s (onward s).state
    opens_set new next =
        leads plan p s _ (On (DialsHeld a who (turn_after p v) (Fourth fresh no_channel stamp new))) left moment shows.left (
          turned,
          (
            timestamp_below moment,
            granted.in_step,
            planned,
            sym (ap (λ (k : SecretsState). k.next) planned.0) ∙ next,
            record { machine = granted.machine; found = granted.found },
          ),
        )
        (subst (λ (map : OpenMap). Shows (onward s).state
        (waiting_scene out map (standing.Open (after_call fresh stamp)) (after (after v.next)) (after v.next) (step.Set (set_step.Bind (change_call p.meeting.caller fresh stamp new))) v.computers [] left moment))
        (turns_have_links.taken (own p) before half turning.joined_so)
        (sets_are_seen.opened s out (after v.next) v.next offered_flags client server v.secrets.current new v.computers left moment (turns_have_links.between (own p) before half turning.joined_so)
        turning.next_below refl (ap (λ (n : Option Next). record { current = v.secrets.current; next = n }) next) refl (calls_can_go.proved p.meeting.caller.secret client server) shows))

    -- the next one was: the member keeps it alone, and the logon's own turn is dialled
    opens_next : (new : List ℕ) → v.secrets.next ≡ Some (record { secret = new; is_tried = true }) → GoesTo plan p NotYet s (onward s).state
    opens_next new next =
        leads plan p s _ (On (DialsHeld a who (record (turn_after p v) { secrets = alone new }) (Third fresh no_channel stamp))) left moment shows.left (
          record {
            answering = turned.answering;
            joined_so = turned.joined_so;
            number_below = turned.number_below;
            next_below = turned.next_below;
            others = turned.others;
            ranged = turned.ranged;
            set = turned.set;
            next = tt;
            fits = λ is_own first machine found. turned.fits is_own first machine found ∙ ap (λ (n : Option Next). tried_of_next n v.secrets.current) next;
          },
          (timestamp_below moment, granted.in_step, refl),
        )
        (subst (λ (map : OpenMap). Shows (onward s).state
        (dial_scene (with_secrets (alone new) out) map (standing.Open (after_call fresh stamp)) (after (after v.next)) (after v.next)
        (logon_call p.meeting.caller fresh stamp (info_asked (own p) a)) v.computers [] left moment))
        (turns_have_links.taken (own p) before half turning.joined_so)
        (sets_are_seen.opened_next s out (after v.next) v.next offered_flags client server v.secrets.current new v.computers left moment (turns_have_links.between (own p) before half turning.joined_so)
        turning.next_below refl (ap (λ (n : Option Next). record { current = v.secrets.current; next = n }) next) refl (calls_can_go.proved p.meeting.caller.secret client server) shows))

    opens_by : (n : Next) (tried : Bool) → n.is_tried ≡ tried → v.secrets.next ≡ Some n → GoesTo plan p NotYet s (onward s).state
    opens_by n true tried next = opens_next n.secret (next ∙ ap (λ (b : Bool). Some (record { secret = n.secret; is_tried = b })) tried)
    opens_by n false tried next = opens_set n.secret (next ∙ ap (λ (b : Bool). Some (record { secret = n.secret; is_tried = b })) tried)

    opens : (next : Option Next) → v.secrets.next ≡ next → GoesTo plan p NotYet s (onward s).state
    opens None next = opens_one next
    opens (Some n) next = opens_by n n.is_tried refl next

    opened_on : GoesTo plan p NotYet s (onward s).state
    opened_on = opens v.secrets.next refl

  pub any_told : (a : ClientAnswer) (who : WhoAsked p a) (v : TurnAt) (client server credential : List ℕ) (status : ℕ) (left : List (List ℕ)) (moment : ℕ) → IsTurningBy plan p a v →
      IsTurnReply question.Authenticate (proof_reply credential status) → (status ≡ 0 → IsGranted plan p v client server) → IsPlanned p v →
      (IsOwn plan p → IsProofOwn p client server credential status) → Shows s (any_scene p (Told a who v client server credential status) left moment) → GoesTo plan p NotYet s (onward s).state
  any_told a who v client server credential status left moment turning goes granted planned right shows =
      let secret : List ℕ = p.meeting.caller.secret in
      let half : Standing = standing.Half client server in
      let awaited : List ℕ = server_credential secret client server in
      let drop : (cause : DropCause) → (status ≡ 0 → credential ≡ awaited → ⊥) → judge question.Authenticate (proof_reply credential status) half secret ≡ judgement.Drop cause →
      GoesTo plan p NotYet s (onward s).state =
      λ cause wrong judged. dropped_on plan p s a who v (Second client server) left moment v.table turning (differs-none v.table) turning.ranged question.Authenticate (proof_reply credential status) cause
      (λ is_own first machine found.
      let taken = right is_own machine (subst (λ (t : AccountTable). account_of_caller t p.meeting.caller ≡ Some machine) planned.1 found) in
      absurd (wrong taken.0 taken.1)) goes judged shows in
      elim (cases_Bool (status == 0)) [
        | inr refused ↦ drop drop_cause.Denied (λ zero is. differ_not refused ((Decides-eqb status 0).1 zero)) (ap (λ (z : Bool). judge_auth z half secret credential offered_flags) refused)
        | inl zeroed ↦
            elim (cases_Bool (bytes_eq credential awaited)) [
              | inr other ↦ drop drop_cause.NotNext (λ zero is. differ_not other ((bytes_eq-Decides credential awaited).1 is))
                  (ap (λ (z : Bool). judge_auth z half secret credential offered_flags) zeroed ∙ ap (λ (z : Bool). judge_credential z secret client server offered_flags) other)
              | inl same ↦ opened_on a who v client server left moment turning planned (granted ((Decides-eqb status 0).0 zeroed))
                  (subst (λ (given : List ℕ). Shows s (any_scene p (Told a who v client server given 0) left moment)) ((bytes_eq-Decides credential awaited).0 same)
                  (subst (λ (n : ℕ). Shows s (any_scene p (Told a who v client server credential n) left moment)) ((Decides-eqb status 0).0 zeroed) shows))
            ]
      ]

  -- ---- the reply to the call that sets the secret

  module _ (a : ClientAnswer) (who : WhoAsked p a) (v : TurnAt) (o c : SecureChannelState) (timestamp : ℕ) (new : List ℕ) (accounts : AccountTable) (answer : SetReply) (left : List (List ℕ)) (moment : ℕ)
      (fits : IsSetBy plan p a v o timestamp new accounts answer) (shows : Shows s (any_scene p (Setting a who v o c timestamp new accounts answer) left moment)) where
    abbrev how_set : Standing
    how_set = standing.Open (after_call o timestamp)

    abbrev set_before : TurnScene
    set_before = turn_before p a who.later (who.sent ∷ []) v

    abbrev set_out : TurnScene
    set_out = turn_on p a who.later (who.sent ∷ []) v (Fourth o c timestamp new)

    set_or_not : MaySet plan p accounts
    set_or_not = elim fits.set [
      | inl same ↦ inl (same ∙ fits.planned.1)
      | inr set ↦ inr (fits.there, subst (λ (t : AccountTable). IsSetAt p.meeting.caller t accounts) fits.planned.1 set)
    ]

    -- the new secret is taken: the member keeps it alone, and the logon's own turn is dialled
    set_taken_on : (later : SecureChannelState) → judge_set answer how_set ≡ Ok later → GoesTo plan p NotYet s (onward s).state
    set_taken_on later judged =
        let stamp : ℕ = timestamp_of moment in
        let turned : IsTurningBy plan p a (turn_after p v) = turning_after plan p s a who v (Fourth o c timestamp new) fits.turning in
        let next : v.secrets.next ≡ Some (record { secret = new; is_tried = false }) = ap (λ (k : SecretsState). k.next) fits.planned.0 ∙ fits.to_set in
        leads plan p s _ (On (DialsHeld a who (record (turn_after p v) { secrets = alone new; table = accounts }) (Third later no_channel stamp))) left moment shows.left (
          record {
            answering = turned.answering;
            joined_so = turned.joined_so;
            number_below = turned.number_below;
            next_below = turned.next_below;
            others = turned.others;
            ranged = fits.ranged;
            set = set_or_not;
            next = tt;
            fits = λ is_own first. fits_set p.meeting.caller new v.table accounts (fits.own is_own).set (fits.own is_own).hash;
          },
          (
            timestamp_below moment,
            λ is_own. subst (λ (state : SecureChannelState). KeepsInStep p v.computers state) (sym (set_state (answer.status == 0) answer.returned (after_call o timestamp) later judged)) (fits.own is_own).stands,
            refl,
          ),
        )
        (subst (λ (map : OpenMap). Shows (onward s).state
        (dial_scene (with_secrets (alone new) (with_accounts accounts set_out)) map (standing.Open (after_call later stamp)) (after (after v.next)) (after v.next)
        (logon_call p.meeting.caller later stamp (info_asked (own p) a)) v.computers [] left moment))
        (turns_have_links.taken (own p) set_before how_set fits.turning.joined_so)
        (sets_are_seen.set s (with_accounts accounts set_out) (after_call o timestamp) later answer (after v.next) v.next v.secrets.current new v.computers left moment
        (between_still set_out accounts (turns_have_links.between (own p) set_before how_set fits.turning.joined_so)) fits.turning.next_below fits.goes refl judged
        (ap (λ (n : Option Next). record { current = v.secrets.current; next = n }) next) shows))

    -- the new secret is dropped, which doesn't happen where the name is the member's own
    set_dropped_on : (cause : DropCause) → judge_set answer how_set ≡ Err cause → GoesTo plan p NotYet s (onward s).state
    set_dropped_on cause judged =
        let secrets : SecretsState = secrets_dropped (is_denied cause) v.secrets in
        leads plan p s _ (Away (Faulted a who.later (left_with plan p s secrets a who v (Fourth o c timestamp new) standing.Nothing accounts) rpc_s_server_unavailable)) left moment shows.left (
          dropped_left plan p s secrets a who v (Fourth o c timestamp new) accounts accounts fits.turning (form_dropped (is_denied cause) v.secrets fits.turning.next) set_or_not (differs-none accounts) fits.ranged
              (λ is_own first machine found.
              absurd (set_not (sym (subst (λ (r : SetReply). judge_set r how_set ≡ Err cause) (fits.own is_own).is judged)
              ∙ ap (λ (is_same : Bool). judge_set_awaited is_same (after_call o timestamp)) (same_bytes (return_of (key_of_channel o) o.seed timestamp))))),
          omega arith,
        )
        (dropped_seen plan p s a who v (Fourth o c timestamp new) left moment (is_denied cause) accounts (onward s).state
        (failings_are_seen.set_dropped s (own_keeping p v.secrets) (waits_for p a who.later) set_out.info a.challenge (message_for (own p) a) accounts p.name how_set set_out.links set_out.opened
        (length v.links) (after v.next) v.next 1 answer cause v.computers _ _ left moment who fits.turning.next_below
        (between_still set_out accounts (turns_have_links.between (own p) set_before how_set fits.turning.joined_so)) fits.goes judged
        (turns_have_links.met (own p) set_before how_set fits.turning.joined_so) (turns_have_links.taken (own p) set_before how_set fits.turning.joined_so) shows))

    set_by : (found : SetOutcome) → judge_set answer how_set ≡ found → GoesTo plan p NotYet s (onward s).state
    set_by (Ok later) judged = set_taken_on later judged
    set_by (Err cause) judged = set_dropped_on cause judged

    pub any_set : GoesTo plan p NotYet s (onward s).state
    any_set = set_by (judge_set answer how_set) refl

  -- by how the reply to the logon's call is judged: the client is refused, or let in
  module _ (a : ClientAnswer) (who : WhoAsked p a) (v : TurnAt) (o c : SecureChannelState) (timestamp : ℕ) (accounts : AccountTable) (answer : Reply) (left : List (List ℕ)) (moment : ℕ)
      (fits : IsJudgedBy plan p a v o timestamp accounts answer) (shows : Shows s (judged_scene p a who v o c timestamp accounts answer left moment)) where
    judged_on : (found : ChannelJudgement) → judge question.Logon answer (standing.Open (after_call o timestamp)) p.meeting.caller.secret ≡ found → IsLogonJudged (info_in answer) (after_call o timestamp) found →
        GoesTo plan p NotYet s (onward s).state ⊎ IsLetIn plan p s
    judged_on (judgement.Half client server) judged is = absurd is
    judged_on (judgement.Opened state) judged is = absurd is
    judged_on (judgement.Drop cause) judged is =
        inl (dropped_on plan p s a who v (Third o c timestamp) left moment accounts fits.turning fits.differs fits.ranged question.Logon answer cause
        (λ is_own first. subst (λ (secrets : SecretsState). FitsCaller accounts p.meeting.caller secrets) (sym (dropped_one (is_denied cause) v.secrets fits.one))
        (fits_counted v.table accounts p.meeting.caller v.secrets fits.differs (fits.turning.fits is_own first))) fits.goes judged shows)
    judged_on (judgement.Answer state (verdict.Status status)) judged is =
        inl (refused_on plan p s a who v (Third o c timestamp) left moment accounts fits.turning fits.differs fits.ranged answer state status fits.goes judged
        (λ is_own. subst (λ (state : SecureChannelState). KeepsInStep p v.computers state) (sym is) (fits.stands is_own)) fits.one shows)
    judged_on (judgement.Answer state (verdict.Granted sam)) judged is = inr (record {
      a = a;
      who = who;
      v = v;
      o = o;
      c = c;
      timestamp = timestamp;
      accounts = accounts;
      answer = answer;
      sam = sam;
      left = left;
      moment = moment;
      fits = fits;
      judged = judged ∙ ap (λ (state : SecureChannelState). judgement.Answer state (verdict.Granted sam)) is.0;
      shows = shows;
    })

    pub any_judged : GoesTo plan p NotYet s (onward s).state ⊎ IsLetIn plan p s
    any_judged = judged_on (judge question.Logon answer (standing.Open (after_call o timestamp)) p.meeting.caller.secret) refl (logon_judged answer (after_call o timestamp) p.meeting.caller.secret)
