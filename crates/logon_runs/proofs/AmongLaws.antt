-- The links of a logon, and the dial that waits, are between its client, its member and its controller; and where these
-- are reached they stay so.
-- It serves `grants_rest`, `logons_rest`.
use Rattle.std.proofs.Common.{◌≡◌, ℕ, refl, sym, subst, List, [], ◌∷◌, ◌++◌, length, slice_get}
use Rattle.wire_base.specs.Maps.{put, same_number}
use Rattle.world_moves.specs.declared.links.EndId.TheVariants.{Controller, Member}
use Rattle.world_moves.specs.declared.links.OpenLink.{OpenLink}
use Rattle.world_moves.specs.declared.links.Route.TheVariants.{ToController}
use Rattle.world_moves.specs.declared.state.State.{State}
use Rattle.world_moves.specs.declared.state.WaitingDial.{WaitingDial}
use Rattle.world_moves.specs.Links.{accepted, answered}
use Rattle.logon_runs.specs.Failing.TurnedAway.{AwayPhase, Faulted, Refused, Unheard, away_scene}
use Rattle.logon_runs.specs.Phases.{Acked, Answers, Binds, BindsBefore, BindsHeld, Calls, Challenged, Arrival, Dials, DialsBefore, DialsHeld, Echoed, Echoes, Granted, Halved, IsReached, LogonPhase, Named, Proved, Sets, TurnAt, own, scene_of}
use Rattle.logon_runs.specs.Rests.{three_in}
use Rattle.logon_runs.specs.Scenes.LinkScenes.{its_link}
use Rattle.logon_runs.specs.Scenes.Others.{AreAmong, IsDialAmong}
use Rattle.logon_runs.specs.Scenes.Staying.{HasSameEnds}
use Rattle.logon_runs.proofs.Scenes.OtherLaws.{more_so, put_so}
use Rattle.logon_runs.proofs.Scenes.StayingLaws.{reach_still}

-- ---- of a phase

pub own_among : (p : Arrival) → AreAmong (three_in p) (its_link (own p))
own_among p = ((refl, refl), tt)

-- that of the turn beside it
pub turn_among : (p : Arrival) (v : TurnAt) →
    AreAmong (three_in p) (put same_number (length v.links) (answered (accepted (ToController p.meeting.at_member p.meeting.at_controller)))
    (its_link (own p) ++ (length v.links, accepted (ToController p.meeting.at_member p.meeting.at_controller)) ∷ []))
turn_among p v =
    let there : OpenLink = accepted (ToController p.meeting.at_member p.meeting.at_controller) in
    put_so (three_in p) (length v.links) (answered there) (its_link (own p) ++ (length v.links, there) ∷ []) (refl, refl)
    (more_so (three_in p) (length v.links) there (its_link (own p)) (refl, refl) (own_among p))

pub links_among : (p : Arrival) (phase : LogonPhase p) (left : List (List ℕ)) (moment : ℕ) → AreAmong (three_in p) (scene_of p phase left moment).opened
links_among p Dials left moment = tt
links_among p Binds left moment = own_among p
links_among p (Challenged challenge) left moment = own_among p
links_among p (Answers a who) left moment = own_among p
links_among p (DialsBefore a who v aim) left moment = own_among p
links_among p (DialsHeld a who v aim) left moment = own_among p
links_among p (BindsBefore a who v aim) left moment = turn_among p v
links_among p (BindsHeld a who v aim) left moment = turn_among p v
links_among p (Acked a who v aim) left moment = turn_among p v
links_among p (Calls a who v aim) left moment = turn_among p v
links_among p (Halved a who v one other) left moment = turn_among p v
links_among p (Proved a who v one other) left moment = turn_among p v
links_among p (Granted a who v o c timestamp judged_at accounts) left moment = turn_among p v
links_among p (Sets a who v o c timestamp new accounts) left moment = turn_among p v
links_among p (Named a e on one other back) left moment = own_among p
links_among p (Echoes a e on one asks) left moment = own_among p
links_among p (Echoed a e talk one other back) left moment = own_among p

-- ---- where the logon is turned away

pub away_among : (p : Arrival) (phase : AwayPhase p) (left : List (List ℕ)) (moment : ℕ) → AreAmong (three_in p) (away_scene p phase left moment).opened
away_among p (Refused a who v o c timestamp accounts status) left moment = turn_among p v
away_among p (Unheard a who e) left moment = own_among p
away_among p (Faulted a later e status) left moment = own_among p

pub away_dials : (p : Arrival) (phase : AwayPhase p) (left : List (List ℕ)) (moment : ℕ) → (away_scene p phase left moment).dials ≡ []
away_dials p (Refused a who v o c timestamp accounts status) left moment = refl
away_dials p (Unheard a who e) left moment = refl
away_dials p (Faulted a later e status) left moment = refl

-- no dial waits, so none is answered
pub no_dial_among : (p : Arrival) (s : State) → s.dials ≡ [] → IsDialAmong (three_in p) s (slice_get s.dials 0)
no_dial_among p s none = subst (λ (dials : List WaitingDial). IsDialAmong (three_in p) s (slice_get dials 0)) (sym none) tt

-- ---- later on

pub reached_so : (p : Arrival) (s now : State) → IsReached p s → HasSameEnds s now → IsReached p now
reached_so p s now reached same = record {
  member = reach_still p.meeting.task.server (Member p.meeting.at_member) s now same reached.member;
  controller = reach_still p.meeting.plan.controller (Controller p.meeting.at_controller) s now same reached.controller;
}
