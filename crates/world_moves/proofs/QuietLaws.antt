-- What an action changes that closes nothing: where one unit at most goes into the bag. It serves the laws of links,
-- and `runs_stand_so`.
use Rattle.std.proofs.Common.{◌≡◌, ℕ, Bool, true, false, List, [], ◌∷◌, Option, Some, None, slice_get, refl, ◌++◌, ap, ◌∙◌, append-nil, subst, ap₂}
use Rattle.outside.specs.declared.action.Action.{Action}
use Rattle.outside.specs.declared.action.Action.TheVariants as action
use Rattle.member_server.specs.declared.plan.MemberPlan.{MemberPlan}
use Rattle.world_moves.specs.declared.bag.BagUnit.{BagUnit}
use Rattle.world_moves.specs.declared.links.EndId.{EndId}
use Rattle.world_moves.specs.declared.links.Route.{Route}
use Rattle.world_moves.specs.declared.state.State.{State}
use Rattle.world_moves.specs.declared.state.WaitingDial.{WaitingDial}
use Rattle.world_moves.specs.Acting.{dials_of_action, link_closed, perform_quietly, plans_after, sent_if, unit_if, unit_on, units_of_action}
use Rattle.world_moves.specs.Links.{is_own, kind_of}

module _ (P : List BagUnit → Type 0) (links : List Route) (end : EndId) where
  goes_by : (goes : Bool) (unit : BagUnit) → P [] → (goes ≡ true → P (unit ∷ [])) → P (unit_if goes unit)
  goes_by false unit none one = none
  goes_by true unit none one = one refl

  sent_by : (route : Option Route) (link : ℕ) (bytes : List ℕ) → P [] →
      ((found : Route) → route ≡ Some found → is_own (kind_of found) ≡ true → P (unit_on found end link bytes ∷ [])) → P (sent_if route end link bytes)
  sent_by None link bytes none one = none
  sent_by (Some route) link bytes none one = goes_by (is_own (kind_of route)) (unit_on route end link bytes) none (λ own. one route refl own)

  -- Whatever holds of no unit, and of a unit that is sent on a link of ends of this world, holds of what an action
  -- sends.
  pub units_by : (what : Action) → P [] →
      ((link : ℕ) (bytes : List ℕ) (route : Route) → what ≡ action.Send link bytes → slice_get links link ≡ Some route → is_own (kind_of route) ≡ true →
      P (unit_on route end link bytes ∷ [])) → P (units_of_action links end what)
  units_by (action.Send link bytes) none one = sent_by (slice_get links link) link bytes none (λ route made own. one link bytes route refl made own)
  units_by (action.Keep bytes) none one = none
  units_by (action.Dial peer) none one = none
  units_by (action.Close link cause) none one = none
  units_by (action.Told link outcome) none one = none
  units_by (action.Judged how) none one = none

-- an action that neither keeps a text nor sends nor dials changes nothing
pub idle_quiet : (end : EndId) (what : Action) (s : State) → plans_after end what s.member_plans ≡ s.member_plans → units_of_action s.links end what ≡ [] → dials_of_action end what ≡ [] →
    perform_quietly end what s ≡ s
idle_quiet end what s keeps sends dials =
    ap (λ (plans : List MemberPlan). record s { member_plans = plans; bag = s.bag ++ units_of_action s.links end what; dials = s.dials ++ dials_of_action end what }) keeps
    ∙ ap₂ (λ (units : List BagUnit) (more : List WaitingDial). record s { bag = s.bag ++ units; dials = s.dials ++ more }) sends dials
    ∙ ap₂ (λ (bag : List BagUnit) (all : List WaitingDial). record s { bag = bag; dials = all }) (append-nil s.bag) (append-nil s.dials)

-- on a link of ends of this world a unit is sent, and nothing else changes
pub sent_goes : (route : Route) (end : EndId) (link : ℕ) (bytes : List ℕ) (s : State) → slice_get s.links link ≡ Some route → is_own (kind_of route) ≡ true →
    perform_quietly end (action.Send link bytes) s ≡ record s { bag = s.bag ++ unit_on route end link bytes ∷ [] }
sent_goes route end link bytes s made own =
    ap (λ (r : Option Route). record s { bag = s.bag ++ sent_if r end link bytes; dials = s.dials ++ [] }) made
    ∙ ap (λ (goes : Bool). record s { bag = s.bag ++ unit_if goes (unit_on route end link bytes); dials = s.dials ++ [] }) own
    ∙ ap (λ (dials : List WaitingDial). record s { bag = s.bag ++ unit_on route end link bytes ∷ []; dials = dials }) (append-nil s.dials)

-- what holds once an action that closes a link is done but for that holds before
pub closes_alone : (P : State → Type 0) (end : EndId) (link : ℕ) (what : Action) (s : State) → link_closed what ≡ Some link → P (perform_quietly end what s) → P s
closes_alone P end link (action.Close other cause) s is holds =
    subst (λ (dials : List WaitingDial). P (record s { bag = s.bag; dials = dials })) (append-nil s.dials)
    (subst (λ (bag : List BagUnit). P (record s { bag = bag; dials = s.dials ++ [] })) (append-nil s.bag) holds)
closes_alone P end link (action.Keep bytes) s is holds = absurd (let never = is in cc)
closes_alone P end link (action.Send other bytes) s is holds = absurd (let never = is in cc)
closes_alone P end link (action.Dial peer) s is holds = absurd (let never = is in cc)
closes_alone P end link (action.Told other outcome) s is holds = absurd (let never = is in cc)
closes_alone P end link (action.Judged how) s is holds = absurd (let never = is in cc)
