-- Where a member stands that asks, and which controller it asks: that of its running state, and of its plan. Of each
-- requester it is said at which end it asks. It serves `Proved.own`, `sequences_follow` and `Proved.called`.
use Rattle.std.proofs.Common.{◌≡◌, ◌≢◌, ℕ, ◌==◌, ◌&&◌, Bool, false, true, List, inl, inr, map, Option, Some, None, refl, sym, ap, ap₂, subst, ◌∙◌, slice_get, slice_set}
use Rattle.std.proofs.lemmas.Bool.Decides.{Decides-eqb}
use Rattle.std.proofs.lemmas.List.{length-set}
use Rattle.authenticators.specs.Channels.{ChannelIdentity}
use Rattle.authenticators.specs.SecureChannels.{SecureChannelState}
use Rattle.channel_client.specs.Effects.{stands_in}
use Rattle.channel_client.specs.State.{Requester}
use Rattle.channel_client.specs.declared.state.Standing.{Standing}
use Rattle.member_server.specs.Machine.{fresh_member}
use Rattle.member_server.specs.State.{State as MemberState}
use Rattle.member_server.specs.declared.plan.MemberPlan.{MemberPlan}
use Rattle.member_server.specs.declared.state.Running.{Running}
use Rattle.step_notes.specs.Records.{OfMember, OfTrust, RequesterId, same_requester}
use Rattle.world_moves.specs.declared.links.EndId.{EndId}
use Rattle.world_moves.specs.declared.links.EndId.TheVariants.{Client, Controller, Member, Station}
use Rattle.world_moves.specs.declared.plan.Plan.{Plan}
use Rattle.world_moves.specs.declared.state.State.{State}
use Rattle.world_moves.specs.Ends.{EndStates, with_member}
use Rattle.world_moves.specs.Links.{same_end}
use Rattle.world_moves.specs.MemberPlans.{AreAlikeButSecrets}
use Rattle.world_moves.specs.Plain.{plain_world}
use Rattle.domain_world.specs.Claims.SharedSequences.{ChannelStands}
use Rattle.domain_world.specs.Past.{controller_asked, controller_of_plan, requester_at, requester_in, running_in}
use Rattle.domain_world.proofs.Acceptance.Turns.TurnFactLaws.{SameEnds}
use Rattle.domain_world.proofs.Messages.MessageOnceLaws.{set_cases}
use Rattle.domain_world.proofs.Moves.MarkPlaceLaws.{got_map}
use Rattle.domain_world.proofs.Moves.MemberPlanLaws.{controllers_alike}
use Rattle.domain_world.proofs.Calls.CallHoldsLaws.{SameNumbers, controller_same}

-- ---- the controller that a member asks

-- the number of the controller that a member asks, by plans and ends alone
abbrev pub asked_in : ℕ → List MemberPlan → EndStates → ℕ
asked_in k plans ends = controller_of_plan (slice_get plans k) ends

pub asked_now : (k : ℕ) (s : State) → asked_in k s.member_plans s.ends ≡ controller_asked (OfMember k) s
asked_now k s = refl

-- a member asks one controller by plans that are alike but for secrets
pub asked_alike : (k : ℕ) (plans later : List MemberPlan) (ends : EndStates) → AreAlikeButSecrets plans later → asked_in k later ends ≡ asked_in k plans ends
asked_alike k plans later ends alike = controllers_alike plans later k ends alike

-- a member asks the same controller while there are as many ends, and plans stay but for their secrets
pub asked_same : (k : ℕ) (plans : List MemberPlan) (ends later : EndStates) → SameNumbers ends later → asked_in k plans later ≡ asked_in k plans ends
asked_same k plans ends later same = controller_same (slice_get plans k) ends later same

pub asked_stays : (k : ℕ) (s t : State) → AreAlikeButSecrets s.member_plans t.member_plans → SameEnds s.ends t.ends →
    controller_asked (OfMember k) t ≡ controller_asked (OfMember k) s
asked_stays k s t plans same =
    controllers_alike s.member_plans t.member_plans k t.ends plans
    ∙ controller_same (slice_get s.member_plans k) s.ends t.ends (record { controllers = sym same.controllers; members = sym same.members; clients = sym same.clients; stations = sym same.stations })

-- ---- the end at which a requester asks

abbrev pub asking_end : RequesterId → EndId
asking_end (OfMember k) = Member k
asking_end (OfTrust controller trust) = Controller controller

abbrev pub asks_at : RequesterId → EndId → Bool
asks_at who end = same_end end (asking_end who)

pub is_itself : (who : RequesterId) → asks_at who (asking_end who) ≡ true
is_itself (OfMember k) = (Decides-eqb k k).1 refl
is_itself (OfTrust controller trust) = (Decides-eqb controller controller).1 refl

pub not_controller : (k at : ℕ) → asks_at (OfMember k) (Controller at) ≡ false
not_controller k at = refl

pub not_client : (k at : ℕ) → asks_at (OfMember k) (Client at) ≡ false
not_client k at = refl

pub not_station : (k at : ℕ) → asks_at (OfMember k) (Station at) ≡ false
not_station k at = refl

pub not_that : (k at : ℕ) → k ≢ at → asks_at (OfMember k) (Member at) ≡ false
not_that k at differs = by (at == k) refl
  where
    by : (hit : Bool) → (at == k) ≡ hit → hit ≡ false
    by false is = refl
    by true is = absurd (differs (sym ((Decides-eqb at k).0 is)))

both_hold : (one other : Bool) → (one && other) ≡ true → (one ≡ true) × (other ≡ true)
both_hold true true is = (refl, refl)
both_hold true false is = absurd (let x = is in cc)
both_hold false other is = absurd (let x = is in cc)

-- two that are the same one
pub same_is : (one other : RequesterId) → same_requester one other ≡ true → one ≡ other
same_is (OfMember one) (OfMember other) is = ap OfMember ((Decides-eqb one other).0 is)
same_is (OfMember one) (OfTrust controller trust) is = absurd (let x = is in cc)
same_is (OfTrust controller trust) (OfMember other) is = absurd (let x = is in cc)
same_is (OfTrust controller trust) (OfTrust other there) is =
    let both = both_hold (controller == other) (trust == there) is in
    ap₂ OfTrust ((Decides-eqb controller other).0 both.0) ((Decides-eqb trust there).0 both.1)

-- a requester is that member where it asks at its end
pub same_asks : (one : RequesterId) (k : ℕ) → same_requester one (OfMember k) ≡ asks_at (OfMember k) (asking_end one)
same_asks (OfMember one) k = refl
same_asks (OfTrust controller trust) k = refl

-- ---- the state of a member that asks

-- the running state of a member
abbrev pub asker_in : ℕ → EndStates → Option Running
asker_in k ends = running_in (slice_get ends.members k)

pub record RunsWith (r : Option Running) (requester : Requester) : Type 0 where
  pub running : Running
  pub runs : r ≡ Some running
  pub is : running.logons.channel ≡ requester

runs_with : (r : Option Running) (requester : Requester) → requester_in r ≡ Some requester → RunsWith r requester
runs_with None requester is = absurd (let x = is in cc)
runs_with (Some running) requester is = record { running = running; runs = refl; is = (let x = is in cc) }

-- a member that asks is its running state's
pub asker_is : (k : ℕ) (s : State) → requester_at s (OfMember k) ≡ requester_in (asker_in k s.ends)
asker_is k s = refl

pub asker_runs : (k : ℕ) (s : State) (requester : Requester) → requester_at s (OfMember k) ≡ Some requester → RunsWith (asker_in k s.ends) requester
asker_runs k s requester at = runs_with (asker_in k s.ends) requester at

-- the channel that stands at a requester, as its own state names it
pub stands_open : (s : State) (who : RequesterId) (channel : ChannelIdentity) (o : SecureChannelState) (stands : ChannelStands s who channel o) →
    stands_in (controller_asked who s) stands.requester.caller.computer stands.requester.standing ≡ Some channel
stands_open s who channel o stands =
    ap (λ (how : Standing). stands_in (controller_asked who s) stands.requester.caller.computer how) stands.open_so ∙ ap Some (sym stands.is)

-- the state of a member that asks stays while no member changes
pub asker_kept : (k : ℕ) (ends now : EndStates) → now.members ≡ ends.members → asker_in k now ≡ asker_in k ends
asker_kept k ends now same = ap (λ (members : List MemberState). running_in (slice_get members k)) same

-- what holds of it and of the controller that it asks holds on, while there are as many ends besides
pub asker_same : (P : ℕ → Option Running → Type 0) (k : ℕ) (plans : List MemberPlan) (ends now : EndStates) → now.members ≡ ends.members → SameNumbers ends now →
    P (asked_in k plans ends) (asker_in k ends) → P (asked_in k plans now) (asker_in k now)
asker_same P k plans ends now same numbers holds =
    subst (P (asked_in k plans now)) (sym (asker_kept k ends now same)) (subst (λ (c : ℕ). P c (asker_in k ends)) (sym (asked_same k plans ends now numbers)) holds)

-- What holds of a member in its new state, and of the others, holds of all once the member has that state.
pub asker_put : (P : ℕ → Option Running → Type 0) (at : ℕ) (new : MemberState) (ends : EndStates) → ((k : ℕ) → P k None) → P at new.running →
    ((k : ℕ) → k ≢ at → P k (asker_in k ends)) → (k : ℕ) → P k (asker_in k (with_member at new ends))
asker_put P at new ends none here others k = by (slice_get (slice_set ends.members at new) k) refl
  where
    by : (found : Option MemberState) → slice_get (slice_set ends.members at new) k ≡ found → P k (running_in found)
    by None is = none k
    by (Some m) is = elim (set_cases ends.members at k new m is) [
      | inl same ↦ subst (λ (x : MemberState). P k x.running) same.1 (subst (λ (j : ℕ). P j new.running) (sym same.0) here)
      | inr other ↦ subst (λ (found : Option MemberState). P k (running_in found)) other.1 (others k other.0)
    ]

-- what holds of each member and the controller that it asks, where a member is put
pub asked_put : (P : ℕ → ℕ → Option Running → Type 0) (plans : List MemberPlan) (at : ℕ) (new : MemberState) (ends : EndStates) → ((k controller : ℕ) → P k controller None) →
    P at (asked_in at plans ends) new.running → ((k : ℕ) → k ≢ at → P k (asked_in k plans ends) (asker_in k ends)) →
    (k : ℕ) → P k (asked_in k plans (with_member at new ends)) (asker_in k (with_member at new ends))
asked_put P plans at new ends none here others k =
    subst (λ (c : ℕ). P k c (asker_in k (with_member at new ends)))
    (sym (asked_same k plans ends (with_member at new ends) (record { controllers = refl; members = length-set ends.members at new; clients = refl; stations = refl })))
    (asker_put (λ (one : ℕ) (r : Option Running). P one (asked_in one plans ends) r) at new ends (λ one. none one (asked_in one plans ends)) here others k)

-- what holds of a member that is made anew holds of each in the first world
pub asker_first : (P : ℕ → Option Running → Type 0) (plan : Plan) → ((k : ℕ) → P k None) → ((k : ℕ) (own : MemberPlan) → P k (fresh_member own).running) →
    (k : ℕ) → P k (asker_in k (plain_world plan).state.ends)
asker_first P plan none fresh k = by (slice_get (map fresh_member plan.members) k) refl
  where
    by : (found : Option MemberState) → slice_get (map fresh_member plan.members) k ≡ found → P k (running_in found)
    by None is = none k
    by (Some m) is = let own = got_map fresh_member plan.members k m is in subst (λ (x : MemberState). P k x.running) own.2 (fresh k own.0)
