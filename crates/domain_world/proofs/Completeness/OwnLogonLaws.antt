-- The logon of a client that can succeed, move by move: where it is judged and told, that is written down; at its end
-- the client is in, with the key that was told.
-- It serves `Proved.complete`.
use Rattle.std.proofs.Common.{◌≡◌, ℕ, refl, sym, subst, List, [], ◌∷◌, length, inl}
use Rattle.std.specs.List.{AllByRecursion}
use Rattle.authenticators.specs.SecureChannels.{SecureChannelState, key_of_channel}
use Rattle.outside.specs.declared.action.Action.TheVariants as action
use Rattle.outside.specs.declared.action.CloseCause.TheVariants as close
use Rattle.outside.specs.declared.action.Outcome.TheVariants as outcome
use Rattle.account_table.specs.AccountTable.{AccountTable}
use Rattle.wire_base.specs.Lists.{OneOf}
use Rattle.wire_base.proofs.ListLaws.{one_behind, one_found}
use Rattle.logon_client.specs.declared.plan.ClientPlan.{ClientPlan}
use Rattle.logon_stubs.specs.declared.calls.LogonCall.{LogonCall}
use Rattle.step_notes.specs.Records.{Book, Judging, OutcomeTold}
use Rattle.step_notes.proofs.Controllers.JudgedCallLaws.{of_network}
use Rattle.world_moves.specs.declared.links.EndId.TheVariants.{Member}
use Rattle.world_moves.specs.declared.moves.Move.{Move}
use Rattle.world_moves.specs.declared.moves.Move.TheVariants as move
use Rattle.world_moves.specs.Acting.{Given}
use Rattle.world_moves.specs.Moving.{onward}
use Rattle.world_moves.specs.World.{World}
use Rattle.logon_steps.specs.Calling.{TravelsAsZeros as KeyTravels}
use Rattle.logon_steps.specs.Granting.{base_key}
use Rattle.logon_runs.specs.GrantsTold.{TellsIn}
use Rattle.logon_runs.specs.Phases.{Aim, ArrivesAt, Arrival, First, Fits, Fourth, HasUser, HasUserAt, IsAsking, IsKnown, IsOpening, IsSetting, LogonPhase, MayLogOnAt, NotYet, Progress, Second, Third, TurnAt, WasJudged, WasOpened, WasSet, WasTold, WhoAsked, key_at, own, progress_called, progress_of, progress_onward, scene_of}
use Rattle.logon_runs.specs.Phases.{Acked, Answers, Binds, BindsBefore, BindsHeld, Calls, Challenged, Dials, DialsBefore, DialsHeld, Echoed, Echoes, Granted, Halved, Named, Proved, Sets}
use Rattle.logon_runs.specs.Runs.{ClientAnswer, message_for}
use Rattle.logon_runs.specs.Scenes.Scene.{Shows}
use Rattle.logon_runs.proofs.GrantsToldLaws.{grants_tell}
use Rattle.logon_runs.proofs.Phases.PhaseLaws.{phases_go_on}
use Rattle.domain_world.specs.Claims.{TravelsAsZeros}
use Rattle.domain_world.specs.Claims.Completeness.{IsMadeForClient, KeyArrives}
use Rattle.domain_world.specs.Past.{book, note, told_in}
use Rattle.domain_world.proofs.Frames.AloneFrameLaws.{StandsAlone}
use Rattle.domain_world.proofs.Completeness.BookStayLaws.{judged_stays, told_stays}
use Rattle.domain_world.proofs.Completeness.JudgedNoteLaws.{IsGrant, grant_noted}

-- ---- what is written down

-- the member told of the client's own link that he is in, with the client's key
abbrev pub IsTold : Arrival → ClientAnswer → OutcomeTold → Type 0
IsTold p a told = (told.link ≡ (own p).link) × (told.member ≡ p.meeting.at_member) × (told.outcome ≡ outcome.In p.table.domain p.account.name (key_at p a))

-- what is written down of a logon that has come so far
abbrev pub IsWritten : Arrival → Progress → Book → Type 0
IsWritten p NotYet b = Unit {0}
IsWritten p (IsOpening client server) b = Unit {0}
IsWritten p (WasOpened client server) b = Unit {0}
IsWritten p (IsSetting o) b = Unit {0}
IsWritten p (WasSet o) b = Unit {0}
IsWritten p (IsAsking o) b = Unit {0}
IsWritten p (WasJudged a o) b = OneOf (IsGrant p (key_of_channel o) (base_key p.meeting.task (message_for (own p) a))) b.judged
IsWritten p (WasTold a) b = OneOf (IsTold p a) b.told

pub written_stays : (p : Arrival) (far : Progress) (what : Move) (w : World) (b : Book) → StandsAlone w.state → IsWritten p far b → IsWritten p far (note w what b)
written_stays p NotYet what w b stands is = tt
written_stays p (IsOpening client server) what w b stands is = tt
written_stays p (WasOpened client server) what w b stands is = tt
written_stays p (IsSetting o) what w b stands is = tt
written_stays p (WasSet o) what w b stands is = tt
written_stays p (IsAsking o) what w b stands is = tt
written_stays p (WasJudged a o) what w b stands is = judged_stays (IsGrant p (key_of_channel o) (base_key p.meeting.task (message_for (own p) a))) (what ∷ []) w b stands is
written_stays p (WasTold a) what w b stands is = told_stays (IsTold p a) (what ∷ []) w b stands is

-- no key of its own calls that was granted travels as zeros
abbrev pub IsSafe : Arrival → Book → Type 0
IsSafe p b = (key base : List ℕ) → OneOf (IsGrant p key base) b.judged → KeyTravels key base → ⊥

-- of the whole run, so by then
abbrev pub AreSafeFor : ClientPlan → List ℕ → ℕ → Book → Type 0
AreSafeFor task computer controller b = AllByRecursion (KeyArrives task computer controller) b.judged

abbrev pub AreSafe : Arrival → Book → Type 0
AreSafe p b = AreSafeFor p.meeting.task p.meeting.caller.computer p.meeting.at_controller b

pub safe_then : (p : Arrival) (moves : List Move) (w : World) (b : Book) → StandsAlone w.state → AreSafe p (book moves w b) → IsSafe p b
safe_then p moves w b stands safe key base one zeros =
    let found = one_found (IsGrant p key base) (KeyArrives p.meeting.task p.meeting.caller.computer p.meeting.at_controller) (book moves w b).judged safe
    (judged_stays (IsGrant p key base) moves w b stands one) in
    let j : Judging = found.0 in
    of_network (λ (c : LogonCall). IsMadeForClient p.meeting.task p.meeting.caller.computer p.meeting.at_controller j c → TravelsAsZeros j c.info → ⊥) j.asked found.1.call found.1.asks
    (found.2 found.1.how) found.1.own (found.1.zeros zeros)

-- ---- the member tells

told_so : (p : Arrival) (a : ClientAnswer) (w : World) (b : Book) (turn : ℕ) (answer : List ℕ) (rest : Given) →
    (onward w.state).given
    ≡ (Member p.meeting.at_member, action.Close turn close.CallDone)
    ∷ (Member p.meeting.at_member, action.Told (own p).link (outcome.In p.table.domain p.account.name (key_at p a)))
    ∷ (Member p.meeting.at_member, action.Send (own p).link answer)
    ∷ rest → OneOf (IsTold p a) (note w move.Onward b).told
told_so p a w b turn answer rest is =
    one_behind (IsTold p a) _ (told_in (onward w.state).given w.moves)
    (subst (λ (given : Given). OneOf (IsTold p a) (told_in given w.moves)) (sym is) (inl (refl, refl, refl)))

-- ---- a unit comes

module _ (p : Arrival) (w : World) (b : Book) (known : IsKnown p) (user : HasUser p) (may : MayLogOnAt p w.state) (stands : StandsAlone w.state) (safe : IsSafe p (note w move.Onward b)) where
  -- the user's hash is there, where the logon is judged
  asked_at : (a : ClientAnswer) (who : WhoAsked p a) (v : TurnAt) (o c : SecureChannelState) (timestamp : ℕ) (left : List (List ℕ)) (moment : ℕ) → Fits p (Calls a who v (Third o c timestamp)) →
      Shows w.state (scene_of p (Calls a who v (Third o c timestamp)) left moment) → HasUserAt p w.state (Calls a who v (Third o c timestamp)) move.Onward
  asked_at a who v o c timestamp left moment fits shows =
      phases_go_on.has_user p w.state (record { phase = Calls a who v (Third o c timestamp); left = left; moment = moment; fits = fits; shows = shows }) move.Onward user may

  call_written : (a : ClientAnswer) (who : WhoAsked p a) (v : TurnAt) (aim : Aim) (left : List (List ℕ)) (moment : ℕ) → Fits p (Calls a who v aim) → Shows w.state (scene_of p (Calls a who v aim) left moment) →
      IsWritten p (progress_onward {p = p} (Calls a who v aim)) (note w move.Onward b)
  call_written a who v (First client) left moment fits shows = tt
  call_written a who v (Second client server) left moment fits shows = tt
  call_written a who v (Third o c timestamp) left moment fits shows =
      grant_noted p w b a who v o c timestamp left moment known (asked_at a who v o c timestamp left moment fits shows).0 may fits shows
  call_written a who v (Fourth o c timestamp new) left moment fits shows = tt

  called_written : (aim : Aim) → IsWritten p (progress_called aim) (note w move.Onward b)
  called_written (First client) = tt
  called_written (Second client server) = tt
  called_written (Third o c timestamp) = tt
  called_written (Fourth o c timestamp new) = tt

  granted_written : (a : ClientAnswer) (who : WhoAsked p a) (v : TurnAt) (o c : SecureChannelState) (timestamp judged_at : ℕ) (accounts : AccountTable) (left : List (List ℕ)) (moment : ℕ) →
      Fits p (Granted a who v o c timestamp judged_at accounts) → Shows w.state (scene_of p (Granted a who v o c timestamp judged_at accounts) left moment) →
      IsWritten p (WasJudged a o) b → OneOf (IsTold p a) (note w move.Onward b).told
  granted_written a who v o c timestamp judged_at accounts left moment fits shows is =
      let tells : TellsIn p w.state a v =
      grants_tell.tells p w.state a who v o c timestamp judged_at accounts left moment known fits
      (safe (key_of_channel o) (base_key p.meeting.task (message_for (own p) a)) (written_stays p (WasJudged a o) move.Onward w b stands is)) shows in
      told_so p a w b (length v.links) tells.answer tells.rest tells.are

  pub onward_written : (phase : LogonPhase p) (left : List (List ℕ)) (moment : ℕ) → Fits p phase → Shows w.state (scene_of p phase left moment) → IsWritten p (progress_of phase) b →
      IsWritten p (progress_onward phase) (note w move.Onward b)
  onward_written Dials left moment fits shows is = tt
  onward_written Binds left moment fits shows is = tt
  onward_written (Challenged challenge) left moment fits shows is = tt
  onward_written (Answers a who) left moment fits shows is = tt
  onward_written (DialsBefore a who v aim) left moment fits shows is = tt
  onward_written (DialsHeld a who v aim) left moment fits shows is = tt
  onward_written (BindsBefore a who v aim) left moment fits shows is = tt
  onward_written (BindsHeld a who v aim) left moment fits shows is = tt
  onward_written (Acked a who v aim) left moment fits shows is = called_written aim
  onward_written (Calls a who v aim) left moment fits shows is = call_written a who v aim left moment fits shows
  onward_written (Halved a who v client server) left moment fits shows is = tt
  onward_written (Proved a who v client server) left moment fits shows is = tt
  onward_written (Granted a who v o c timestamp judged_at accounts) left moment fits shows is =
      granted_written a who v o c timestamp judged_at accounts left moment fits shows is
  onward_written (Sets a who v o c timestamp new accounts) left moment fits shows is = tt
  onward_written (Named a e on one other back) left moment fits shows is = written_stays p (WasTold a) move.Onward w b stands is
  onward_written (Echoes a e on one asks) left moment fits shows is = written_stays p (WasTold a) move.Onward w b stands is
  onward_written (Echoed a e talk one other back) left moment fits shows is = written_stays p (WasTold a) move.Onward w b stands is

  call_arrives : (a : ClientAnswer) (who : WhoAsked p a) (v : TurnAt) (aim : Aim) (left : List (List ℕ)) (moment : ℕ) → Fits p (Calls a who v aim) → Shows w.state (scene_of p (Calls a who v aim) left moment) →
      ArrivesAt p (Calls a who v aim) move.Onward
  call_arrives a who v (First client) left moment fits shows = tt
  call_arrives a who v (Second client server) left moment fits shows = tt
  call_arrives a who v (Third o c timestamp) left moment fits shows = λ signed zeros.
      safe (key_of_channel o) (base_key p.meeting.task (message_for (own p) a)) (grant_noted p w b a who v o c timestamp left moment known (asked_at a who v o c timestamp left moment fits shows).0 may fits shows) zeros
  call_arrives a who v (Fourth o c timestamp new) left moment fits shows = tt

  -- the key of a call that is granted arrives
  pub onward_arrives : (phase : LogonPhase p) (left : List (List ℕ)) (moment : ℕ) → Fits p phase → Shows w.state (scene_of p phase left moment) → ArrivesAt p phase move.Onward
  onward_arrives Dials left moment fits shows = tt
  onward_arrives Binds left moment fits shows = tt
  onward_arrives (Challenged challenge) left moment fits shows = tt
  onward_arrives (Answers a who) left moment fits shows = tt
  onward_arrives (DialsBefore a who v aim) left moment fits shows = tt
  onward_arrives (DialsHeld a who v aim) left moment fits shows = tt
  onward_arrives (BindsBefore a who v aim) left moment fits shows = tt
  onward_arrives (BindsHeld a who v aim) left moment fits shows = tt
  onward_arrives (Acked a who v aim) left moment fits shows = tt
  onward_arrives (Calls a who v aim) left moment fits shows = call_arrives a who v aim left moment fits shows
  onward_arrives (Halved a who v client server) left moment fits shows = tt
  onward_arrives (Proved a who v client server) left moment fits shows = tt
  onward_arrives (Granted a who v o c timestamp judged_at accounts) left moment fits shows = tt
  onward_arrives (Sets a who v o c timestamp new accounts) left moment fits shows = tt
  onward_arrives (Named a e on one other back) left moment fits shows = tt
  onward_arrives (Echoes a e on one asks) left moment fits shows = tt
  onward_arrives (Echoed a e talk one other back) left moment fits shows = tt
