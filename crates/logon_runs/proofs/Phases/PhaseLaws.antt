-- One logon that is granted, move by move.
-- Of `phases_go_on`.
use Rattle.std.specs.Prelude.{IsSomeAnd}
use Rattle.std.proofs.Common.{◌≡◌, Option, Some, None, ℕ, refl, sym, subst, List, [], ◌∷◌, inl, inr}
use Rattle.account_table.specs.AccountTable.{AccountTable}
use Rattle.account_table.specs.LookUps.{account_in}
use Rattle.account_table.specs.declared.account.Account.{Account}
use Rattle.account_table.specs.declared.account.Kind.TheVariants.{User}
use Rattle.account_table.specs.declared.account.Policy.{Policy}
use Rattle.sam_logon.specs.MayLogOn.{AccountMayLogOnAt, MayLogOn}
use Rattle.domain_controller.specs.State.{State as ControllerState}
use Rattle.logon_steps.specs.Granting.{info_told}
use Rattle.logon_runs.proofs.SecretRestLaws.{sets_leave_others}
use Rattle.world_moves.specs.declared.moves.Move.{Move}
use Rattle.world_moves.specs.declared.moves.Move.TheVariants as move
use Rattle.world_moves.specs.declared.state.State.{State}
use Rattle.world_moves.specs.Moving.{act, moment_after, onward, tick}
use Rattle.logon_runs.specs.Phases.{Aim, ArrivesAt, ComesSoFar, ComesTo, Arrival, First, Fits, Fourth, HasUser, HasUserAt, HasUserIn, IsKnown, IsOver, IsReady, IsSetOrNot, IsUnderWay, LogonPhase, MayLogOnAt, PhasesGoOn, Progress, Second, Third, TurnAt, WhoAsked, key_at, meeting_at, progress_after, progress_of, progress_onward, scene_of, told_of, with_its_controller}
use Rattle.logon_runs.specs.Phases.{Acked, Answers, Binds, BindsBefore, BindsHeld, Calls, Challenged, Dials, DialsBefore, DialsHeld, Echoed, Echoes, Granted, Halved, Named, Proved, Sets}
use Rattle.logon_runs.specs.Scenes.Others.{IsStepOn, is_onward}
use Rattle.logon_runs.specs.Runs.{ClientAnswer}
use Rattle.logon_runs.specs.Scenes.Scene.{Scene, Shows}
use Rattle.logon_runs.specs.Scenes.WaitingUnits.{waiting}
use Rattle.logon_runs.specs.Scenes.LinkScenes.{rest_scene}
use Rattle.logon_runs.proofs.Scenes.StartLaws.{starts_are_seen}
use Rattle.logon_runs.proofs.Scenes.TurningSceneLaws.{scenes_turn}
use Rattle.logon_runs.proofs.Scenes.StepOnLaws.{by_step, if_so}
use Rattle.logon_runs.proofs.Phases.PhaseStartLaws.{ComesBy, left_seen, answers_on, binds_on, challenged_on, connects_on, under}
use Rattle.logon_runs.proofs.Phases.PhaseTurnLaws.{acked_on, binds_held, bound_on, calls_on, dials_held, halved_on, proved_on, sets_on}
use Rattle.logon_runs.proofs.Phases.PhaseEndLaws.{echoed_on, echoes_on, granted_on, named_on}
use Rattle.logon_steps.specs.ClientSteps.{client_ended}
use Rattle.logon_client.specs.declared.outcome.ClientOutcome.TheVariants.{In}

-- ---- a unit comes

-- where none waits
stays_heard : (p : Arrival) (s : State) (phase : LogonPhase p) (left : List (List ℕ)) (moment : ℕ) → Fits p phase → (scene_of p phase left moment).units ≡ [] →
    Shows s (scene_of p phase left moment) → ComesBy p (progress_of phase) s (onward s).state
stays_heard p s phase left moment fits none shows = under p s _ phase left moment (left_seen p s phase left moment shows) fits (starts_are_seen.no_unit s (scene_of p phase left moment) none shows)

comes_on : (p : Arrival) (s : State) (phase : LogonPhase p) (left : List (List ℕ)) (moment : ℕ) → IsKnown p → IsReady p s → Fits p phase → HasUserAt p s phase move.Onward → ArrivesAt p phase move.Onward →
    Shows s (scene_of p phase left moment) → ComesBy p (progress_onward phase) s (onward s).state
comes_on p s Dials left moment known ready fits user arrives shows = stays_heard p s Dials left moment fits refl shows
comes_on p s Binds left moment known ready fits user arrives shows = binds_on p s left moment known ready shows
comes_on p s (Challenged challenge) left moment known ready fits user arrives shows = challenged_on p s challenge left moment known ready fits shows
comes_on p s (Answers a who) left moment known ready fits user arrives shows = answers_on p s a who left moment known ready fits known.stands shows
comes_on p s (DialsBefore a who v aim) left moment known ready fits user arrives shows = dials_held p s a who v aim left moment fits shows
comes_on p s (DialsHeld a who v aim) left moment known ready fits user arrives shows = stays_heard p s (DialsHeld a who v aim) left moment fits refl shows
comes_on p s (BindsBefore a who v aim) left moment known ready fits user arrives shows = binds_held p s a who v aim left moment fits shows
comes_on p s (BindsHeld a who v aim) left moment known ready fits user arrives shows = bound_on p s a who v aim left moment fits shows
comes_on p s (Acked a who v aim) left moment known ready fits user arrives shows = acked_on p s a who v aim left moment fits shows
comes_on p s (Calls a who v aim) left moment known ready fits user arrives shows = calls_on p s a who v aim left moment known ready fits user arrives shows
comes_on p s (Halved a who v client server) left moment known ready fits user arrives shows = halved_on p s a who v client server left moment fits shows
comes_on p s (Proved a who v client server) left moment known ready fits user arrives shows = proved_on p s a who v client server left moment fits shows
comes_on p s (Granted a who v o c timestamp judged_at accounts) left moment known ready fits user arrives shows =
    granted_on p s a who v o c timestamp judged_at accounts left moment known fits shows
comes_on p s (Sets a who v o c timestamp new accounts) left moment known ready fits user arrives shows = sets_on p s a who v o c timestamp new accounts left moment fits shows
comes_on p s (Named a e on one other back) left moment known ready fits user arrives shows = named_on p s a e on one other back left moment known fits shows
comes_on p s (Echoes a e on one asks) left moment known ready fits user arrives shows = echoes_on p s a e on one asks left moment known fits shows
comes_on p s (Echoed a e talk one other back) left moment known ready fits user arrives shows = echoed_on p s a e talk one other back left moment known fits shows

-- ---- time passes

-- the scene at another moment
abbrev pub at_moment : ℕ → Scene → Scene
at_moment moment v = record v { moment = moment }

pub same_scene : (p : Arrival) (phase : LogonPhase p) (left : List (List ℕ)) (moment later : ℕ) → at_moment later (scene_of p phase left moment) ≡ scene_of p phase left later
same_scene p Dials left moment later = refl
same_scene p Binds left moment later = refl
same_scene p (Challenged challenge) left moment later = refl
same_scene p (Answers a who) left moment later = refl
same_scene p (DialsBefore a who v aim) left moment later = refl
same_scene p (DialsHeld a who v aim) left moment later = refl
same_scene p (BindsBefore a who v aim) left moment later = refl
same_scene p (BindsHeld a who v aim) left moment later = refl
same_scene p (Acked a who v aim) left moment later = refl
same_scene p (Calls a who v aim) left moment later = refl
same_scene p (Halved a who v client server) left moment later = refl
same_scene p (Proved a who v client server) left moment later = refl
same_scene p (Granted a who v o c timestamp judged_at accounts) left moment later = refl
same_scene p (Sets a who v o c timestamp new accounts) left moment later = refl
same_scene p (Named a e on one other back) left moment later = refl
same_scene p (Echoes a e on one asks) left moment later = refl
same_scene p (Echoed a e talk one other back) left moment later = refl

ticks_on : (p : Arrival) (s : State) (phase : LogonPhase p) (left : List (List ℕ)) (moment more : ℕ) → Fits p phase → Shows s (scene_of p phase left moment) → ComesBy p (progress_of phase) s (tick more s)
ticks_on p s phase left moment more fits shows =
    under p s _ phase left (moment_after more (scene_of p phase left moment).moment) (left_seen p s phase left moment shows) fits
    (subst (λ (v : Scene). Shows (tick more s) v) (same_scene p phase left moment (moment_after more (scene_of p phase left moment).moment))
    (scenes_turn.ticks s (scene_of p phase left moment) more shows))

-- ---- a move

goes_so : (p : Arrival) (s : State) (what : Move) → IsKnown p → IsReady p s → IsStepOn what → (at : IsUnderWay p s) → HasUserAt p s at.phase what → ArrivesAt p at.phase what →
    ComesBy p (progress_after what at.phase) s (act s what).state
goes_so p s what known ready goes at =
    by_step (λ (one : Move). HasUserAt p s at.phase one → ArrivesAt p at.phase one → ComesBy p (progress_after one at.phase) s (act s one).state)
    (λ user arrives. connects_on p s at.phase at.left at.moment ready at.fits at.shows)
    (λ user arrives. comes_on p s at.phase at.left at.moment known ready at.fits user arrives at.shows)
    (λ more user arrives. ticks_on p s at.phase at.left at.moment more at.fits at.shows) what goes

-- ---- a logon that is over

-- a logon that is over is over later, at another moment
over_at : (p : Arrival) (s after : State) (over : IsOver p s) (moment : ℕ) →
    Shows after (rest_scene (meeting_at p over.ending) (client_ended p.meeting.task (In (told_of p) (key_at p over.asked) p.meeting.task.echo)) over.ending.links over.left moment []) →
    (later : IsOver p after) × (later.asked ≡ over.asked)
over_at p s after over moment shows = (record { asked = over.asked; ending = over.ending; left = over.left; moment = moment; fits = over.fits; shows = shows }, refl)

rests_so : (p : Arrival) (s : State) (what : Move) → IsStepOn what → (over : IsOver p s) → (later : IsOver p (act s what).state) × (later.asked ≡ over.asked)
rests_so p s what goes over =
    by_step (λ (one : Move). (later : IsOver p (act s one).state) × (later.asked ≡ over.asked)) (over_at p s _ over over.moment (starts_are_seen.no_dial s _ refl over.shows))
    (over_at p s _ over over.moment (starts_are_seen.no_unit s _ refl over.shows)) (λ more. over_at p s _ over (moment_after more over.moment) (scenes_turn.ticks s _ more over.shows)) what goes

-- whatever is told
comes_of : (p : Arrival) (far : Progress) (s : State) → ComesSoFar p far s → ComesTo p s
comes_of p far s (inl at) = inl at.0
comes_of p far s (inr over) = inr over.0

-- ---- something waits

pub one_waits : {T : Type 0} (items : List T) (one : T) (more : List T) → items ≡ one ∷ more → items ≡ [] → ⊥
one_waits items one more are none = absurd cc

pub waits_so : (p : Arrival) (s : State) (phase : LogonPhase p) (left : List (List ℕ)) (moment : ℕ) → Shows s (scene_of p phase left moment) → s.dials ≡ [] → waiting s.bag ≡ [] → ⊥
waits_so p s Dials left moment shows dials units = one_waits s.dials _ [] shows.dials dials
waits_so p s Binds left moment shows dials units = one_waits (waiting s.bag) _ [] shows.units units
waits_so p s (Challenged challenge) left moment shows dials units = one_waits (waiting s.bag) _ [] shows.units units
waits_so p s (Answers a who) left moment shows dials units = one_waits (waiting s.bag) _ _ shows.units units
waits_so p s (DialsBefore a who v aim) left moment shows dials units = one_waits s.dials _ [] shows.dials dials
waits_so p s (DialsHeld a who v aim) left moment shows dials units = one_waits s.dials _ [] shows.dials dials
waits_so p s (BindsBefore a who v aim) left moment shows dials units = one_waits (waiting s.bag) _ _ shows.units units
waits_so p s (BindsHeld a who v aim) left moment shows dials units = one_waits (waiting s.bag) _ [] shows.units units
waits_so p s (Acked a who v aim) left moment shows dials units = one_waits (waiting s.bag) _ [] shows.units units
waits_so p s (Calls a who v aim) left moment shows dials units = one_waits (waiting s.bag) _ [] shows.units units
waits_so p s (Halved a who v client server) left moment shows dials units = one_waits (waiting s.bag) _ [] shows.units units
waits_so p s (Proved a who v client server) left moment shows dials units = one_waits (waiting s.bag) _ [] shows.units units
waits_so p s (Granted a who v o c timestamp judged_at accounts) left moment shows dials units = one_waits (waiting s.bag) _ [] shows.units units
waits_so p s (Sets a who v o c timestamp new accounts) left moment shows dials units = one_waits (waiting s.bag) _ [] shows.units units
waits_so p s (Named a e on one other back) left moment shows dials units = one_waits (waiting s.bag) _ [] shows.units units
waits_so p s (Echoes a e on one asks) left moment shows dials units = one_waits (waiting s.bag) _ [] shows.units units
waits_so p s (Echoed a e talk one other back) left moment shows dials units = one_waits (waiting s.bag) _ [] shows.units units

-- ---- the user's hash

-- the account is a user's
pub kind_so : (found : Option Account) (policy : Policy) (computer : List ℕ) (now : ℕ) → IsSomeAnd found (λ (account : Account). AccountMayLogOnAt policy account computer now) →
    IsSomeAnd found (λ (account : Account). account.kind ≡ User)
kind_so None policy computer now is = is
kind_so (Some account) policy computer now is = is.user

-- a hash that is set is no user's
user_then : (p : Arrival) (table : AccountTable) (now : ℕ) → IsSetOrNot p table → HasUser p → MayLogOn table (info_told p.meeting.task) now → HasUserIn p table
user_then p table now (inl is) user may = record {
  found = subst (λ (t : AccountTable). account_in t.accounts p.meeting.task.user ≡ Some p.account) (sym is) user.found;
  hash = user.hash;
}
user_then p table now (inr set) user may =
    let is_user : IsSomeAnd (account_in table.accounts p.meeting.task.user) (λ (account : Account). account.kind ≡ User) =
    kind_so (account_in table.accounts p.meeting.task.user) table.policy p.meeting.task.workstation now may.there.account in
    record {
      found = subst (λ (t : AccountTable). account_in t.accounts p.meeting.task.user ≡ Some p.account) (sym set.is)
          (sets_leave_others.users p.table set.place set.hash p.meeting.caller.account p.meeting.caller.kind p.meeting.caller.computer p.meeting.task.user p.account set.found user.found
          (subst (λ (t : AccountTable). IsSomeAnd (account_in t.accounts p.meeting.task.user) (λ (account : Account). account.kind ≡ User)) set.is is_user));
      hash = user.hash;
    }

module _ (p : Arrival) (s : State) (left : List (List ℕ)) (moment : ℕ) (user : HasUser p) (may : MayLogOnAt p s) where
  user_at_call : (a : ClientAnswer) (who : WhoAsked p a) (v : TurnAt) (aim : Aim) (what : Move) → Fits p (Calls a who v aim) → Shows s (scene_of p (Calls a who v aim) left moment) →
      HasUserAt p s (Calls a who v aim) what
  user_at_call a who v (First client) what fits shows = tt
  user_at_call a who v (Second client server) what fits shows = tt
  user_at_call a who v (Third o c timestamp) what fits shows =
      if_so (is_onward what) (HasUserIn p v.table × MayLogOnAt p s) (
        user_then p v.table s.moment fits.0.set user
            (subst (λ (found : Option ControllerState). IsSomeAnd found (λ (k : ControllerState). MayLogOn k.table (info_told p.meeting.task) s.moment)) shows.controller may),
        may,
      )
  user_at_call a who v (Fourth o c timestamp new) what fits shows = tt

  user_at : (phase : LogonPhase p) (what : Move) → Fits p phase → Shows s (scene_of p phase left moment) → HasUserAt p s phase what
  user_at Dials what fits shows = tt
  user_at Binds what fits shows = tt
  user_at (Challenged challenge) what fits shows = tt
  user_at (Answers a who) what fits shows = tt
  user_at (DialsBefore a who v aim) what fits shows = tt
  user_at (DialsHeld a who v aim) what fits shows = tt
  user_at (BindsBefore a who v aim) what fits shows = tt
  user_at (BindsHeld a who v aim) what fits shows = tt
  user_at (Acked a who v aim) what fits shows = tt
  user_at (Calls a who v aim) what fits shows = user_at_call a who v aim what fits shows
  user_at (Halved a who v one other) what fits shows = tt
  user_at (Proved a who v one other) what fits shows = tt
  user_at (Granted a who v o c timestamp judged_at accounts) what fits shows = tt
  user_at (Sets a who v o c timestamp new accounts) what fits shows = tt
  user_at (Named a e on one other back) what fits shows = tt
  user_at (Echoes a e on one asks) what fits shows = tt
  user_at (Echoed a e talk one other back) what fits shows = tt

pub phases_go_on : PhasesGoOn
phases_go_on = record {
  begins = λ p s number before left moment chosen planned shows. record {
    phase = Dials;
    left = left;
    moment = moment;
    fits = tt;
    shows = starts_are_seen.starts s (with_its_controller p p.meeting) number before p.meeting.links left moment chosen planned shows;
  };
  goes_on = λ p s what known ready goes at user arrives. comes_of p (progress_after what at.phase) (act s what).state (goes_so p s what known ready goes at user arrives).0;
  goes_so_far = λ p s what known ready goes at user arrives. (goes_so p s what known ready goes at user arrives).0;
  draws = λ p s what known ready goes at user arrives. (goes_so p s what known ready goes at user arrives).1;
  has_user = λ p s at what user may. user_at p s at.left at.moment user may at.phase what at.fits at.shows;
  waits = λ p s at dials units. waits_so p s at.phase at.left at.moment at.shows dials units;
  rests = λ p s what goes over. (rests_so p s what goes over).0;
  rests_same = rests_so;
}
