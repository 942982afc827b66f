-- One logon that is granted: dials that are answered, and the client and its member up to the logon that is asked.
-- Of `phases_go_on`.
use Rattle.std.proofs.Common.{◌≡◌, ℕ, true, refl, sym, subst, ◌∙◌, List, [], ◌∷◌, arith, inl, inr, length, ap, ◌++◌, ◌≤◌}
use Rattle.std.specs.Prelude.{◌==◌, ◌⊎◌}
use Rattle.std.proofs.lemmas.Bool.Decides.{nat_tests}
use Rattle.logon_stubs.specs.Ranges.{IsBlock}
use Rattle.channel_client.specs.declared.state.Standing.TheVariants as standing
use Rattle.channel_client.specs.Machine.{after}
use Rattle.member_server.specs.Outcomes.{session_in}
use Rattle.member_server.specs.Turns.{timestamp_of}
use Rattle.world_moves.specs.declared.links.Route.TheVariants.{ToMember}
use Rattle.world_moves.specs.declared.state.State.{State}
use Rattle.world_moves.specs.Moving.{connect, onward}
use Rattle.logon_steps.specs.Answers.{AreDraws}
use Rattle.logon_steps.specs.Meeting.{flags_agreed}
use Rattle.logon_steps.proofs.GrantingLaws.{logons_are_granted}
use Rattle.logon_steps.proofs.MemoCallLaws.{memo_calls_go}
use Rattle.logon_steps.proofs.TellingLaws.{logons_are_short}
use Rattle.logon_runs.specs.Scenes.LinkScenes.{FitsGiven, its_link, unit_up}
use Rattle.logon_runs.specs.Runs.{ClientAnswer, StandsInStep, asked_at}
use Rattle.logon_runs.specs.Phases.{DrawsFew, Aim, ComesSoFar, NotYet, Progress, Arrival, First, Fits, HasThree, IsAimed, IsAnswering, IsReady, IsTurning, IsKnown, LogonPhase, Third, TurnAt, WhoAsked, key_at, own, scene_of, standing_for, step_for, terms_at, progress_of, turn_before, waits_for, with_its_controller}
use Rattle.logon_runs.specs.Phases.{Acked, Answers, Binds, BindsBefore, BindsHeld, Calls, Challenged, Dials, DialsBefore, DialsHeld, Echoed, Echoes, Granted, Halved, Named, Proved, Sets}
use Rattle.logon_runs.specs.Scenes.Scene.{Scene, Shows}
use Rattle.logon_runs.specs.Scenes.TurnScenes.{TurnScene}
use Rattle.logon_runs.proofs.Scenes.AskSceneLaws.{logons_are_seen}
use Rattle.logon_runs.proofs.FirstLogon.FirstTraceLaws.{after_below}
use Rattle.logon_runs.proofs.Scenes.LinkSceneLaws.{meetings_are_seen}
use Rattle.logon_runs.proofs.RunLaws.{timestamp_below}
use Rattle.logon_runs.proofs.Scenes.StartLaws.{starts_are_seen}
use Rattle.logon_runs.proofs.Scenes.TurnSceneLaws.{turns_are_seen}
use Rattle.logon_runs.proofs.Scenes.TwoLinkLaws.{turns_have_links}
use Rattle.wire_base.proofs.ListLaws.{got_last}

-- ---- the phase that follows

-- a logon comes so far, and few challenges were drawn
abbrev pub ComesBy : Arrival → Progress → State → State → Type 0
ComesBy p far s after = ComesSoFar p far after × DrawsFew s.chances.left after.chances.left

left_of : (p : Arrival) (phase : LogonPhase p) (left : List (List ℕ)) (moment : ℕ) → (scene_of p phase left moment).left ≡ left
left_of p Dials left moment = refl
left_of p Binds left moment = refl
left_of p (Challenged challenge) left moment = refl
left_of p (Answers a who) left moment = refl
left_of p (DialsBefore a who v aim) left moment = refl
left_of p (DialsHeld a who v aim) left moment = refl
left_of p (BindsBefore a who v aim) left moment = refl
left_of p (BindsHeld a who v aim) left moment = refl
left_of p (Acked a who v aim) left moment = refl
left_of p (Calls a who v aim) left moment = refl
left_of p (Halved a who v client server) left moment = refl
left_of p (Proved a who v client server) left moment = refl
left_of p (Granted a who v o c timestamp judged_at accounts) left moment = refl
left_of p (Sets a who v o c timestamp new accounts) left moment = refl
left_of p (Named a e on one other back) left moment = refl
left_of p (Echoes a e on one asks) left moment = refl
left_of p (Echoed a e talk one other back) left moment = refl

pub left_seen : (p : Arrival) (s : State) (phase : LogonPhase p) (left : List (List ℕ)) (moment : ℕ) → Shows s (scene_of p phase left moment) → s.chances.left ≡ left
left_seen p s phase left moment shows = shows.left ∙ left_of p phase left moment

-- a phase in which the challenges `front` were drawn
pub under_less : (p : Arrival) (s after : State) (phase : LogonPhase p) (front left : List (List ℕ)) (moment : ℕ) → length front ≤ 3 → s.chances.left ≡ front ++ left → Fits p phase →
    Shows after (scene_of p phase left moment) → ComesBy p (progress_of phase) s after
under_less p s after phase front left moment few are fits shows = (
  inl (record { phase = phase; left = left; moment = moment; fits = fits; shows = shows }, refl),
  record { front = front; few = few; are = are ∙ ap (λ (l : List (List ℕ)). front ++ l) (sym (left_seen p after phase left moment shows)) },
)

-- none was
pub under : (p : Arrival) (s after : State) (phase : LogonPhase p) (left : List (List ℕ)) (moment : ℕ) → s.chances.left ≡ left → Fits p phase → Shows after (scene_of p phase left moment) →
    ComesBy p (progress_of phase) s after
under p s after phase left moment same fits shows = under_less p s after phase [] left moment (omega arith) same fits shows

-- a scene with what is known of the challenges that are left
pub left_so : (s : State) (f : List (List ℕ) → Scene) (left other : List (List ℕ)) → s.chances.left ≡ left → s.chances.left ≡ other → Shows s (f left) → Shows s (f other)
left_so s f left other is are shows = subst (λ (l : List (List ℕ)). Shows s (f l)) (sym is ∙ are) shows

pub zero_so : (count : ℕ) → (count == 0) ≡ true → 0 ≡ count
zero_so count is = grind (arith, nat_tests)

-- ---- a dial is answered

client_connects : (p : Arrival) (s : State) (left : List (List ℕ)) (moment : ℕ) → IsReady p s → Shows s (scene_of p Dials left moment) → ComesBy p NotYet s (connect s).state
client_connects p s left moment ready shows =
    under p s _ Binds left moment shows.left tt
    (meetings_are_seen.dialled s (with_its_controller p p.meeting) p.meeting.links left moment (got_last p.meeting.links (ToMember p.meeting.at_client p.meeting.at_member)) ready.reached.member shows)

turn_connects_before : (p : Arrival) (s : State) (a : ClientAnswer) (who : WhoAsked p a) (v : TurnAt) (aim : Aim) (left : List (List ℕ)) (moment : ℕ) → IsReady p s →
    IsTurning p a v × IsAimed p v aim → Shows s (scene_of p (DialsBefore a who v aim) left moment) → ComesBy p NotYet s (connect s).state
turn_connects_before p s a who v aim left moment ready fits shows =
    let t : TurnScene = turn_before p a who.later [] v in
    under p s _ (BindsBefore a who v aim) left moment shows.left fits
    (turns_are_seen.dialled s t (its_link (own p)) (standing_for aim) v.next v.number (step_for p a aim) v.computers (unit_up (own p) who.sent ∷ []) left moment ready.reached.controller
    (turns_have_links.found (own p) t fits.0.joined_so) (turns_have_links.new (own p) t _ fits.0.joined_so) (turns_have_links.between (own p) t (standing_for aim) fits.0.joined_so) shows)

turn_connects : (p : Arrival) (s : State) (a : ClientAnswer) (who : WhoAsked p a) (v : TurnAt) (aim : Aim) (left : List (List ℕ)) (moment : ℕ) → IsReady p s →
    IsTurning p a v × IsAimed p v aim → Shows s (scene_of p (DialsHeld a who v aim) left moment) → ComesBy p NotYet s (connect s).state
turn_connects p s a who v aim left moment ready fits shows =
    let t : TurnScene = turn_before p a who.later (who.sent ∷ []) v in
    under p s _ (BindsHeld a who v aim) left moment shows.left fits
    (turns_are_seen.dialled s t (its_link (own p)) (standing_for aim) v.next v.number (step_for p a aim) v.computers [] left moment ready.reached.controller
    (turns_have_links.found (own p) t fits.0.joined_so) (turns_have_links.new (own p) t _ fits.0.joined_so) (turns_have_links.between (own p) t (standing_for aim) fits.0.joined_so) shows)

-- where no dial waits
stays_connected : (p : Arrival) (s : State) (phase : LogonPhase p) (left : List (List ℕ)) (moment : ℕ) → Fits p phase → (scene_of p phase left moment).dials ≡ [] →
    Shows s (scene_of p phase left moment) → ComesBy p (progress_of phase) s (connect s).state
stays_connected p s phase left moment fits none shows = under p s _ phase left moment (left_seen p s phase left moment shows) fits (starts_are_seen.no_dial s (scene_of p phase left moment) none shows)

pub connects_on : (p : Arrival) (s : State) (phase : LogonPhase p) (left : List (List ℕ)) (moment : ℕ) → IsReady p s → Fits p phase → Shows s (scene_of p phase left moment) →
    ComesBy p (progress_of phase) s (connect s).state
connects_on p s Dials left moment ready fits shows = client_connects p s left moment ready shows
connects_on p s Binds left moment ready fits shows = stays_connected p s Binds left moment fits refl shows
connects_on p s (Challenged challenge) left moment ready fits shows = stays_connected p s (Challenged challenge) left moment fits refl shows
connects_on p s (Answers a who) left moment ready fits shows = stays_connected p s (Answers a who) left moment fits refl shows
connects_on p s (DialsBefore a who v aim) left moment ready fits shows = turn_connects_before p s a who v aim left moment ready fits shows
connects_on p s (DialsHeld a who v aim) left moment ready fits shows = turn_connects p s a who v aim left moment ready fits shows
connects_on p s (BindsBefore a who v aim) left moment ready fits shows = stays_connected p s (BindsBefore a who v aim) left moment fits refl shows
connects_on p s (BindsHeld a who v aim) left moment ready fits shows = stays_connected p s (BindsHeld a who v aim) left moment fits refl shows
connects_on p s (Acked a who v aim) left moment ready fits shows = stays_connected p s (Acked a who v aim) left moment fits refl shows
connects_on p s (Calls a who v aim) left moment ready fits shows = stays_connected p s (Calls a who v aim) left moment fits refl shows
connects_on p s (Halved a who v client server) left moment ready fits shows = stays_connected p s (Halved a who v client server) left moment fits refl shows
connects_on p s (Proved a who v client server) left moment ready fits shows = stays_connected p s (Proved a who v client server) left moment fits refl shows
connects_on p s (Granted a who v o c timestamp judged_at accounts) left moment ready fits shows =
    stays_connected p s (Granted a who v o c timestamp judged_at accounts) left moment fits refl shows
connects_on p s (Sets a who v o c timestamp new accounts) left moment ready fits shows = stays_connected p s (Sets a who v o c timestamp new accounts) left moment fits refl shows
connects_on p s (Named a e on one other back) left moment ready fits shows = stays_connected p s (Named a e on one other back) left moment fits refl shows
connects_on p s (Echoes a e on one asks) left moment ready fits shows = stays_connected p s (Echoes a e on one asks) left moment fits refl shows
connects_on p s (Echoed a e talk one other back) left moment ready fits shows = stays_connected p s (Echoed a e talk one other back) left moment fits refl shows

-- ---- a client and its member

pub binds_on : (p : Arrival) (s : State) (left : List (List ℕ)) (moment : ℕ) → IsKnown p → IsReady p s → Shows s (scene_of p Binds left moment) → ComesBy p NotYet s (onward s).state
binds_on p s left moment known ready shows =
    let three : HasThree s.chances.left = ready.draws in
    under_less p s _ (Challenged three.one) (three.one ∷ []) (three.two ∷ three.three ∷ three.more) moment (omega arith) three.are three.first
    (meetings_are_seen.challenged s (with_its_controller p (own p)) three.one (three.two ∷ three.three ∷ three.more) moment
    (got_last p.meeting.links (ToMember p.meeting.at_client p.meeting.at_member)) known.can known.names three.first.0
    (left_so s (λ (l : List (List ℕ)). scene_of p Binds l moment) left _ shows.left three.are shows))

pub challenged_on : (p : Arrival) (s : State) (challenge : List ℕ) (left : List (List ℕ)) (moment : ℕ) → IsKnown p → IsReady p s → IsBlock 8 challenge →
    Shows s (scene_of p (Challenged challenge) left moment) → ComesBy p NotYet s (onward s).state
challenged_on p s challenge left moment known ready block shows =
    let three : HasThree s.chances.left = ready.draws in
    let a : ClientAnswer = asked_at challenge three.one three.two three.three moment in
    let draws : AreDraws three.one three.two three.three = record { client = three.first.0; first = three.second.0; second = three.third.0 } in
    let who : WhoAsked p a =
    memo_calls_go.request 1 p.meeting.task.level 2 0 [] (terms_at p a).session (session_in (key_at p a) (flags_agreed p.meeting.task)) (omega arith) (omega arith) (omega arith) (omega arith)
    (logons_are_granted.sessions p.meeting.plan p.meeting.task challenge three.one three.two three.three moment known.can) in
    under_less p s _ (Answers a who) (three.one ∷ three.two ∷ three.three ∷ []) three.more moment (omega arith) three.are
    (record {
      draws = draws;
      info = logons_are_short.info p.meeting.plan p.meeting.task challenge three.one three.two three.three moment p.meeting.place known.can known.units known.names draws block.0 block.1
          three.first.1 known.place_below;
    })
    (meetings_are_seen.answered s (with_its_controller p (own p)) challenge three.one three.two three.three (record { bytes = who.sent; session = who.later }) three.more moment
    (got_last p.meeting.links (ToMember p.meeting.at_client p.meeting.at_member)) known.can known.names block.0 draws who.goes
    (left_so s (λ (l : List (List ℕ)). scene_of p (Challenged challenge) l moment) left _ shows.left three.are shows))

-- the first turn of the logon
abbrev pub turn_first_of : Arrival → TurnAt
turn_first_of p = record {
  computers = p.computers;
  number = p.meeting.number;
  next = after p.meeting.number;
  links = (own p).links;
  secrets = p.meeting.plan.secrets;
  table = p.table;
}

turns_first : (p : Arrival) (a : ClientAnswer) → IsKnown p → IsAnswering p a → IsTurning p a (turn_first_of p)
turns_first p a known is = record {
  answering = is;
  joined_so = got_last p.meeting.links (ToMember p.meeting.at_client p.meeting.at_member);
  number_below = known.number_below;
  next_below = after_below p.meeting.number;
  others = λ other apart. refl;
  ranged = known.ranged;
  set = inl refl;
  next = known.next;
  fits = λ first. first;
}

-- on the client's link nothing else is given
pub fits_own : (p : Arrival) → FitsGiven p.meeting → FitsGiven (own p)
fits_own p is = record { tried = is.tried; kept = is.kept; one = is.one }

pub answers_on : (p : Arrival) (s : State) (a : ClientAnswer) (who : WhoAsked p a) (left : List (List ℕ)) (moment : ℕ) → IsKnown p → IsReady p s → IsAnswering p a →
    ((p.meeting.how ≡ standing.Nothing) ⊎ StandsInStep p.meeting p.computers) → Shows s (scene_of p (Answers a who) left moment) → ComesBy p NotYet s (onward s).state
answers_on p s a who left moment known ready is (inl none) shows =
    let three : HasThree s.chances.left = ready.draws in
    under_less p s _ (DialsBefore a who (turn_first_of p) (First three.one)) (three.one ∷ []) (three.two ∷ three.three ∷ three.more) moment (omega arith) three.are (turns_first p a known is, (three.first, none, (refl, refl)))
    (logons_are_seen.asks_first s (own p) (waits_for p a who.later) a.challenge a.one a.two a.three three.one who.sent a.then_now p.table p.name p.computers
    (three.two ∷ three.three ∷ three.more) moment none (fits_own p known.given) known.can known.names is.draws
    (left_so s (λ (l : List (List ℕ)). scene_of p (Answers a who) l moment) left _ shows.left three.are shows))
answers_on p s a who left moment known ready is (inr step_so) shows =
    under p s _ (DialsBefore a who (turn_first_of p) (Third step_so.member step_so.controller (timestamp_of moment))) left moment shows.left
    (turns_first p a known is, (timestamp_below moment, step_so.channel, step_so.in_step, known.given.one step_so.member step_so.stands))
    (logons_are_seen.asks_again s (own p) step_so.member (waits_for p a who.later) a.challenge a.one a.two a.three who.sent a.then_now p.table p.name p.computers left moment
    step_so.stands (fits_own p known.given) known.can known.names is.draws shows)
