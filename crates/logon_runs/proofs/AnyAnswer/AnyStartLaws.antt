-- A logon at any member: dials that are answered or reach nobody, and the client and its member up to the logon that is
-- asked.
-- Of `any_phases_go_on`.
use Rattle.std.proofs.Common.{◌≡◌, ℕ, ◌≤◌, refl, sym, ap, ◌∙◌, List, [], None, ◌∷◌, ◌++◌, length, arith, inl, inr}
use Rattle.authenticators.specs.SecureChannels.{SecureChannelState}
use Rattle.rpc_units.specs.Numbers.{rpc_s_server_unavailable}
use Rattle.logon_stubs.specs.Ranges.{IsBlock}
use Rattle.account_table.proofs.ChangeLaws.{differs-none}
use Rattle.channel_client.specs.declared.state.Standing.{Standing}
use Rattle.channel_client.specs.declared.state.Standing.TheVariants as standing
use Rattle.member_server.specs.Outcomes.{session_in}
use Rattle.member_server.specs.Turns.{timestamp_of}
use Rattle.world_moves.specs.declared.links.Route.TheVariants.{ToMember}
use Rattle.world_moves.specs.declared.plan.Plan.{Plan}
use Rattle.world_moves.specs.declared.state.State.{State}
use Rattle.world_moves.specs.Moving.{connect, onward}
use Rattle.logon_steps.specs.Answers.{AreDraws}
use Rattle.logon_steps.specs.Meeting.{flags_agreed}
use Rattle.logon_steps.proofs.GrantingLaws.{logons_are_granted}
use Rattle.logon_steps.proofs.MemoCallLaws.{memo_calls_go}
use Rattle.logon_steps.proofs.TellingLaws.{logons_are_short}
use Rattle.logon_runs.specs.Scenes.LinkScenes.{its_link, unit_up}
use Rattle.logon_runs.specs.Runs.{ClientAnswer, asked_at, message_for}
use Rattle.logon_runs.specs.Phases.{Acked, Aim, Answers, Binds, BindsBefore, BindsHeld, Calls, Challenged, Arrival, Dials, DialsBefore, DialsHeld, Echoed, Echoes, First, Granted, Halved, HasThree, IsAnswering, LogonPhase, Named, NotYet, Proved, Sets, Third, TurnAt, WhoAsked, key_at, own, own_keeping, progress_of, scene_of, standing_for, step_for, terms_at, turn_before, waits_for, with_its_controller}
use Rattle.logon_runs.specs.Scenes.Scene.{Shows}
use Rattle.logon_runs.specs.Failing.TurnedAway.{AwayPhase, Faulted, Refused, Unheard, away_scene}
use Rattle.logon_runs.specs.Scenes.TurnScenes.{TurnScene}
use Rattle.logon_runs.specs.AnyAnswer.AnyPhases.{AnyPhase, Away, IsAble, GoesTo, IsLeft, IsReadyBy, IsTurningBy, Judged, MayAim, MayFit, MayFitAway, MayFitOn, MayStand, On, Setting, Told, any_scene, progress_in}
use Rattle.logon_runs.proofs.Scenes.AskSceneLaws.{logons_are_seen}
use Rattle.logon_runs.proofs.Failing.FailingLaws.{failings_are_seen}
use Rattle.logon_runs.proofs.FirstLogon.FirstTraceLaws.{after_below}
use Rattle.logon_runs.proofs.Scenes.LinkSceneLaws.{meetings_are_seen}
use Rattle.logon_runs.proofs.Phases.PhaseStartLaws.{fits_own, left_seen, left_so, turn_first_of}
use Rattle.logon_runs.proofs.RunLaws.{timestamp_below}
use Rattle.logon_runs.proofs.Scenes.StartLaws.{starts_are_seen}
use Rattle.logon_runs.proofs.Failing.TurnedAwayLaws.{lost_at, nothing_not_open}
use Rattle.logon_runs.proofs.Scenes.TurnSceneLaws.{turns_are_seen}
use Rattle.logon_runs.proofs.Scenes.TwoLinkLaws.{turns_have_links}
use Rattle.wire_base.proofs.ListLaws.{got_last}

-- no channel is known at the controller
abbrev pub no_channel : SecureChannelState
no_channel = record { secret = []; client = []; server = []; flags = 0; kind = None; seed = []; awaited = None }

-- ---- the phase that follows

away_seen : (p : Arrival) (s : State) (phase : AwayPhase p) (left : List (List ℕ)) (moment : ℕ) → Shows s (away_scene p phase left moment) → s.chances.left ≡ left
away_seen p s (Refused a who v o c timestamp accounts status) left moment shows = shows.left
away_seen p s (Unheard a who e) left moment shows = shows.left
away_seen p s (Faulted a later e status) left moment shows = shows.left

pub any_seen : (p : Arrival) (s : State) (phase : AnyPhase p) (left : List (List ℕ)) (moment : ℕ) → Shows s (any_scene p phase left moment) → s.chances.left ≡ left
any_seen p s (On phase) left moment shows = left_seen p s phase left moment shows
any_seen p s (Told a who v client server credential status) left moment shows = shows.left
any_seen p s (Setting a who v o c timestamp new accounts answer) left moment shows = shows.left
any_seen p s (Judged a who v o c timestamp accounts answer) left moment shows = shows.left
any_seen p s (Away phase) left moment shows = away_seen p s phase left moment shows

module _ (plan : Plan) (p : Arrival) (s : State) where
  -- a phase in which the challenges `front` were drawn
  pub leads_less : (after : State) (phase : AnyPhase p) (front left : List (List ℕ)) (moment : ℕ) → length front ≤ 3 → s.chances.left ≡ front ++ left → MayFit plan p phase →
      Shows after (any_scene p phase left moment) → GoesTo plan p (progress_in phase) s after
  leads_less after phase front left moment few are fits shows = record {
    few = record { front = front; few = few; are = are ∙ ap (λ (l : List (List ℕ)). front ++ l) (sym (any_seen p after phase left moment shows)) };
    at = inl (record { at = record { phase = phase; left = left; moment = moment; fits = fits; shows = shows }; is = refl });
  }

  -- none was
  pub leads : (after : State) (phase : AnyPhase p) (left : List (List ℕ)) (moment : ℕ) → s.chances.left ≡ left → MayFit plan p phase → Shows after (any_scene p phase left moment) →
      GoesTo plan p (progress_in phase) s after
  leads after phase left moment same fits shows = leads_less after phase [] left moment (omega arith) same fits shows

  -- ---- a dial is answered, or reaches nobody

  client_connects : (left : List (List ℕ)) (moment : ℕ) → IsReadyBy plan p s → Shows s (scene_of p Dials left moment) → GoesTo plan p NotYet s (connect s).state
  client_connects left moment ready shows =
      leads _ (On Binds) left moment shows.left tt
      (meetings_are_seen.dialled s (with_its_controller p p.meeting) p.meeting.links left moment (got_last p.meeting.links (ToMember p.meeting.at_client p.meeting.at_member)) ready.heard.member shows)

  lost_left : (a : ClientAnswer) (v : TurnAt) → IsTurningBy plan p a v → IsLeft plan p (lost_at p v)
  lost_left a v is = record {
    joined_so = is.joined_so;
    number_below = is.next_below;
    next = is.next;
    one = λ o stands. absurd (nothing_not_open o stands);
    before = v.table;
    set = is.set;
    differs = differs-none v.table;
    ranged = is.ranged;
    fits = is.fits;
    others = is.others;
    stands = tt;
  }

  module _ (a : ClientAnswer) (who : WhoAsked p a) (v : TurnAt) (aim : Aim) (left : List (List ℕ)) (moment : ℕ) (fits : IsTurningBy plan p a v × MayAim plan p v aim) where
    turn_connects_before : IsReadyBy plan p s → Shows s (scene_of p (DialsBefore a who v aim) left moment) → GoesTo plan p NotYet s (connect s).state
    turn_connects_before ready shows =
        let t : TurnScene = turn_before p a who.later [] v in
        elim ready.heard.controller [
          | inl there ↦
              leads _ (On (BindsBefore a who v aim)) left moment shows.left (fits.0, fits.1, there.0)
              (turns_are_seen.dialled s t (its_link (own p)) (standing_for aim) v.next v.number (step_for p a aim) v.computers (unit_up (own p) who.sent ∷ []) left moment there.1
              (turns_have_links.found (own p) t fits.0.joined_so) (turns_have_links.new (own p) t _ fits.0.joined_so) (turns_have_links.between (own p) t (standing_for aim) fits.0.joined_so) shows)
          | inr nobody ↦
              leads _ (Away (Unheard a who (lost_at p v))) left moment shows.left (lost_left a v fits.0)
              (failings_are_seen.member_unreached s (own_keeping p v.secrets) (waits_for p a who.later) t.info a.challenge (message_for (own p) a) v.table p.name standing.Nothing
              (standing_for aim) v.links v.next v.number (step_for p a aim) v.computers who.sent left moment nobody shows)
        ]

    turn_connects : IsReadyBy plan p s → Shows s (scene_of p (DialsHeld a who v aim) left moment) → GoesTo plan p NotYet s (connect s).state
    turn_connects ready shows =
        let t : TurnScene = turn_before p a who.later (who.sent ∷ []) v in
        elim ready.heard.controller [
          | inl there ↦
              leads _ (On (BindsHeld a who v aim)) left moment shows.left (fits.0, fits.1, there.0)
              (turns_are_seen.dialled s t (its_link (own p)) (standing_for aim) v.next v.number (step_for p a aim) v.computers [] left moment there.1
              (turns_have_links.found (own p) t fits.0.joined_so) (turns_have_links.new (own p) t _ fits.0.joined_so) (turns_have_links.between (own p) t (standing_for aim) fits.0.joined_so) shows)
          | inr nobody ↦
              leads _ (Away (Faulted a who.later (lost_at p v) rpc_s_server_unavailable)) left moment shows.left (lost_left a v fits.0, omega arith)
              (failings_are_seen.member_unreached_held s (own_keeping p v.secrets) (waits_for p a who.later) t.info a.challenge (message_for (own p) a) v.table p.name
              standing.Nothing (standing_for aim) v.links v.next v.number 1 (step_for p a aim) v.computers _ _ left moment nobody fits.0.joined_so who shows)
        ]

  -- where no dial waits
  stays_connected : (phase : AnyPhase p) (left : List (List ℕ)) (moment : ℕ) → MayFit plan p phase → (any_scene p phase left moment).dials ≡ [] →
      Shows s (any_scene p phase left moment) → GoesTo plan p (progress_in phase) s (connect s).state
  stays_connected phase left moment fits none shows =
      leads _ phase left moment (any_seen p s phase left moment shows) fits (starts_are_seen.no_dial s (any_scene p phase left moment) none shows)

  on_connects : (phase : LogonPhase p) (left : List (List ℕ)) (moment : ℕ) → IsAble plan p → IsReadyBy plan p s → MayFitOn plan p phase → Shows s (scene_of p phase left moment) →
      GoesTo plan p (progress_of phase) s (connect s).state
  on_connects Dials left moment able ready fits shows = client_connects left moment ready shows
  on_connects Binds left moment able ready fits shows = stays_connected (On Binds) left moment fits refl shows
  on_connects (Challenged challenge) left moment able ready fits shows = stays_connected (On (Challenged challenge)) left moment fits refl shows
  on_connects (Answers a who) left moment able ready fits shows = stays_connected (On (Answers a who)) left moment fits refl shows
  on_connects (DialsBefore a who v aim) left moment able ready fits shows = turn_connects_before a who v aim left moment fits ready shows
  on_connects (DialsHeld a who v aim) left moment able ready fits shows = turn_connects a who v aim left moment fits ready shows
  on_connects (BindsBefore a who v aim) left moment able ready fits shows = stays_connected (On (BindsBefore a who v aim)) left moment fits refl shows
  on_connects (BindsHeld a who v aim) left moment able ready fits shows = stays_connected (On (BindsHeld a who v aim)) left moment fits refl shows
  on_connects (Acked a who v aim) left moment able ready fits shows = stays_connected (On (Acked a who v aim)) left moment fits refl shows
  on_connects (Calls a who v aim) left moment able ready fits shows = stays_connected (On (Calls a who v aim)) left moment fits refl shows
  on_connects (Halved a who v client server) left moment able ready fits shows = stays_connected (On (Halved a who v client server)) left moment fits refl shows
  on_connects (Proved a who v client server) left moment able ready fits shows = absurd fits
  on_connects (Granted a who v o c timestamp judged_at accounts) left moment able ready fits shows = absurd fits
  on_connects (Sets a who v o c timestamp new accounts) left moment able ready fits shows = absurd fits
  on_connects (Named a e on one other back) left moment able ready fits shows = absurd fits
  on_connects (Echoes a e on one asks) left moment able ready fits shows = absurd fits
  on_connects (Echoed a e talk one other back) left moment able ready fits shows = absurd fits

  away_connects : (phase : AwayPhase p) (left : List (List ℕ)) (moment : ℕ) → MayFitAway plan p phase → Shows s (away_scene p phase left moment) → GoesTo plan p NotYet s (connect s).state
  away_connects (Refused a who v o c timestamp accounts status) left moment fits shows = absurd fits
  away_connects (Unheard a who e) left moment fits shows = stays_connected (Away (Unheard a who e)) left moment fits refl shows
  away_connects (Faulted a later e status) left moment fits shows = stays_connected (Away (Faulted a later e status)) left moment fits refl shows

  pub any_connects : (phase : AnyPhase p) (left : List (List ℕ)) (moment : ℕ) → IsAble plan p → IsReadyBy plan p s → MayFit plan p phase → Shows s (any_scene p phase left moment) →
      GoesTo plan p (progress_in phase) s (connect s).state
  any_connects (On phase) left moment able ready fits shows = on_connects phase left moment able ready fits shows
  any_connects (Told a who v client server credential status) left moment able ready fits shows = stays_connected (Told a who v client server credential status) left moment fits refl shows
  any_connects (Setting a who v o c timestamp new accounts answer) left moment able ready fits shows =
      stays_connected (Setting a who v o c timestamp new accounts answer) left moment fits refl shows
  any_connects (Judged a who v o c timestamp accounts answer) left moment able ready fits shows = stays_connected (Judged a who v o c timestamp accounts answer) left moment fits refl shows
  any_connects (Away phase) left moment able ready fits shows = away_connects phase left moment fits shows

  -- ---- a client and its member

  pub any_binds : (left : List (List ℕ)) (moment : ℕ) → IsAble plan p → IsReadyBy plan p s → Shows s (scene_of p Binds left moment) → GoesTo plan p NotYet s (onward s).state
  any_binds left moment able ready shows =
      let three : HasThree s.chances.left = ready.draws in
      leads_less _ (On (Challenged three.one)) (three.one ∷ []) (three.two ∷ three.three ∷ three.more) moment (omega arith) three.are three.first
      (meetings_are_seen.challenged s (with_its_controller p (own p)) three.one (three.two ∷ three.three ∷ three.more) moment
      (got_last p.meeting.links (ToMember p.meeting.at_client p.meeting.at_member)) able.can able.names three.first.0
      (left_so s (λ (l : List (List ℕ)). scene_of p Binds l moment) left _ shows.left three.are shows))

  pub any_challenged : (challenge : List ℕ) (left : List (List ℕ)) (moment : ℕ) → IsAble plan p → IsReadyBy plan p s → IsBlock 8 challenge →
      Shows s (scene_of p (Challenged challenge) left moment) → GoesTo plan p NotYet s (onward s).state
  any_challenged challenge left moment able ready block shows =
      let three : HasThree s.chances.left = ready.draws in
      let a : ClientAnswer = asked_at challenge three.one three.two three.three moment in
      let draws : AreDraws three.one three.two three.three = record { client = three.first.0; first = three.second.0; second = three.third.0 } in
      let who : WhoAsked p a =
      memo_calls_go.request 1 p.meeting.task.level 2 0 [] (terms_at p a).session (session_in (key_at p a) (flags_agreed p.meeting.task)) (omega arith) (omega arith) (omega arith) (omega arith)
      (logons_are_granted.sessions p.meeting.plan p.meeting.task challenge three.one three.two three.three moment able.can) in
      leads_less _ (On (Answers a who)) (three.one ∷ three.two ∷ three.three ∷ []) three.more moment (omega arith) three.are
      (record {
        draws = draws;
        info = logons_are_short.info p.meeting.plan p.meeting.task challenge three.one three.two three.three moment p.meeting.place able.can able.units able.names draws block.0 block.1
            three.first.1 able.place_below;
      })
      (meetings_are_seen.answered s (with_its_controller p (own p)) challenge three.one three.two three.three (record { bytes = who.sent; session = who.later }) three.more moment
      (got_last p.meeting.links (ToMember p.meeting.at_client p.meeting.at_member)) able.can able.names block.0 draws who.goes
      (left_so s (λ (l : List (List ℕ)). scene_of p (Challenged challenge) l moment) left _ shows.left three.are shows))

  -- the first turn of the logon
  turns_first : (a : ClientAnswer) → IsAble plan p → IsAnswering p a → IsTurningBy plan p a (turn_first_of p)
  turns_first a able is = record {
    answering = is;
    joined_so = got_last p.meeting.links (ToMember p.meeting.at_client p.meeting.at_member);
    number_below = able.number_below;
    next_below = after_below p.meeting.number;
    others = λ other apart. refl;
    ranged = able.ranged;
    set = inl refl;
    next = able.next;
    fits = λ is_own first. first;
  }

  -- by how the member's channel stands
  answers_by : (how : Standing) → p.meeting.how ≡ how → MayStand plan p p.computers how → (a : ClientAnswer) (who : WhoAsked p a) (left : List (List ℕ)) (moment : ℕ) → IsAble plan p → IsReadyBy plan p s →
      IsAnswering p a → Shows s (scene_of p (Answers a who) left moment) → GoesTo plan p NotYet s (onward s).state
  answers_by standing.Nothing so stands a who left moment able ready is shows =
      let three : HasThree s.chances.left = ready.draws in
      leads_less _ (On (DialsBefore a who (turn_first_of p) (First three.one))) (three.one ∷ []) (three.two ∷ three.three ∷ three.more) moment (omega arith) three.are
      (turns_first a able is, (three.first, so, (refl, refl)))
      (logons_are_seen.asks_first s (own p) (waits_for p a who.later) a.challenge a.one a.two a.three three.one who.sent a.then_now p.table p.name p.computers
      (three.two ∷ three.three ∷ three.more) moment so (fits_own p able.given) able.can able.names is.draws
      (left_so s (λ (l : List (List ℕ)). scene_of p (Answers a who) l moment) left _ shows.left three.are shows))
  answers_by (standing.Half client server) so stands a who left moment able ready is shows = absurd stands
  answers_by (standing.Open o) so stands a who left moment able ready is shows =
      leads _ (On (DialsBefore a who (turn_first_of p) (Third o no_channel (timestamp_of moment)))) left moment shows.left
      (turns_first a able is, (timestamp_below moment, stands, able.given.one o so))
      (logons_are_seen.asks_again s (own p) o (waits_for p a who.later) a.challenge a.one a.two a.three who.sent a.then_now p.table p.name p.computers left moment
      so (fits_own p able.given) able.can able.names is.draws shows)

  pub any_answers : (a : ClientAnswer) (who : WhoAsked p a) (left : List (List ℕ)) (moment : ℕ) → IsAble plan p → IsReadyBy plan p s → IsAnswering p a →
      Shows s (scene_of p (Answers a who) left moment) → GoesTo plan p NotYet s (onward s).state
  any_answers a who left moment able ready is shows =
      answers_by p.meeting.how refl able.stands a who left moment able ready is shows
