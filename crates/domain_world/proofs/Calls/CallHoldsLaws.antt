-- What is known of calls in a state of a run, and how it goes on as ends, links and marks change.
-- It serves `runs_stand_so`.
use Rattle.std.proofs.Common.{◌≡◌, ◌≢◌, ℕ, zero, suc, ◌*◌, ◌≤◌, ◌==◌, Bool, false, List, [], ◌∷◌, ◌++◌, length, map, inl, inr, Option, Some, None, slice_get, slice_set, refl, sym, ap, ◌∙◌, subst, arith}
use Rattle.std.specs.List.{AllByRecursion}
use Rattle.std.proofs.lemmas.Bool.{false_from_ne_true}
use Rattle.std.proofs.lemmas.Bool.Decides.{Decides-eqb}
use Rattle.std.proofs.lemmas.List.{length-set}
use Rattle.std.proofs.lemmas.List.Elements.{recursion_from_All}
use Rattle.channel_client.specs.Effects.{View}
use Rattle.channel_events.specs.Marks.{Mark}
use Rattle.channel_events.specs.Requests.{CallsAreApart, Requests}
use Rattle.wire_base.proofs.ListLaws.{all_weaker, got_append, got_nothing, one_weaker, pairs_first, some_is}
use Rattle.member_server.specs.State.{State as MemberState}
use Rattle.member_server.specs.declared.plan.MemberPlan.{MemberPlan}
use Rattle.step_notes.specs.Records.{MessageTaken, Sent}
use Rattle.world_moves.specs.declared.links.EndId.{EndId}
use Rattle.world_moves.specs.declared.links.Route.{Route}
use Rattle.world_moves.specs.declared.links.Route.TheVariants.{ToController}
use Rattle.world_moves.specs.Ends.{EndStates, end_in}
use Rattle.world_moves.specs.Moving.{end_of_peer}
use Rattle.domain_world.specs.Accepting.SeenSteps.{Differ, NoRequests, requests_after, seen_or, seen_running}
use Rattle.domain_world.specs.Past.{controller_number, controller_of_plan, sent_at}
use Rattle.domain_world.proofs.Acceptance.LetInStepLaws.{IsAcceptedBy}
use Rattle.domain_world.proofs.Messages.MessageOnceLaws.{set_cases}
use Rattle.domain_world.proofs.Calls.LooserLaws.{drawn_before, requests_before, looser}
use Rattle.domain_world.proofs.Calls.OutStepLaws.{IsOutIn, MemberHolds, StaysKnown, stays_known}
use Rattle.domain_world.proofs.Calls.StepApartLaws.{differ_later, seen_member}
use Rattle.domain_world.proofs.Calls.WholeOutLaws.{AreAccepted, out_more}
use Rattle.domain_world.proofs.Moves.MemberPlanLaws.{controllers_alike}
use Rattle.world_moves.specs.MemberPlans.{AreAlikeButSecrets}

-- ---- the controller of a member keeps its number while no end comes or goes

-- there are as many ends of each kind
pub record SameNumbers (ends later : EndStates) : Type 0 where
  pub controllers : length later.controllers ≡ length ends.controllers
  pub members : length later.members ≡ length ends.members
  pub clients : length later.clients ≡ length ends.clients
  pub stations : length later.stations ≡ length ends.stations

pub peer_same : (peer : List ℕ) (ends later : EndStates) → SameNumbers ends later → end_of_peer peer later ≡ end_of_peer peer ends
peer_same [] ends later same = refl
peer_same (number ∷ []) ends later same =
    ap (λ (n : ℕ). end_in number n (length later.members) (length later.clients) (length later.stations)) same.controllers
    ∙ ap (λ (n : ℕ). end_in number (length ends.controllers) n (length later.clients) (length later.stations)) same.members
    ∙ ap (λ (n : ℕ). end_in number (length ends.controllers) (length ends.members) n (length later.stations)) same.clients
    ∙ ap (λ (n : ℕ). end_in number (length ends.controllers) (length ends.members) (length ends.clients) n) same.stations
peer_same (number ∷ other ∷ more) ends later same = refl

pub controller_same : (plan : Option MemberPlan) (ends later : EndStates) → SameNumbers ends later → controller_of_plan plan later ≡ controller_of_plan plan ends
controller_same None ends later same = same.controllers
controller_same (Some plan) ends later same =
    ap (λ (n : ℕ). controller_number (end_of_peer plan.controller later) n) same.controllers
    ∙ ap (λ (end : Option EndId). controller_number end (length ends.controllers)) (peer_same plan.controller ends later same)

-- ---- what is known

-- how each member is seen
abbrev pub views_at : List MemberPlan → EndStates → ℕ → Option View
views_at plans ends k = seen_member (controller_of_plan (slice_get plans k) ends) (slice_get ends.members k)

-- what the units were made for
abbrev pub marks_in : List Sent → List Mark
marks_in sent = map (λ (one : Sent). one.mark) sent

pub mark_there : (sent : List Sent) (n : ℕ) (one : Sent) → slice_get sent n ≡ Some one → slice_get (marks_in sent) n ≡ Some one.mark
mark_there [] n one there = absurd (got_nothing n one there)
mark_there (first ∷ sent) zero one there = ap (λ (s : Sent). Some s.mark) (some_is first one there)
mark_there (first ∷ sent) (suc n) one there = mark_there sent n one there

-- the requests after `steps` steps of ends, each of which uses two numbers at most
abbrev pub requests_at : (steps : ℕ) → List MemberPlan → EndStates → List (List ℕ) → List Sent → Requests ℕ
requests_at n plans ends drawn sent = record { views = views_at plans ends; marks = marks_in sent; drawn = drawn; uses = 2 * n }

-- calls are apart, of each member what it keeps is known, and each message came on a link that its member accepted
pub record CallsHold (n : ℕ) (plans : List MemberPlan) (ends : EndStates) (drawn : List (List ℕ)) (links : List Route) (sent : List Sent) (messages : List MessageTaken) : Type 0 where
  pub apart : CallsAreApart (requests_at n plans ends drawn sent)
  pub members : (k : ℕ) (m : MemberState) → slice_get ends.members k ≡ Some m → MemberHolds links sent messages (controller_of_plan (slice_get plans k) ends) k m.running
  pub accepted : AreAccepted links messages

-- ---- draws

front_all : {T : Type 0} (P : T → Type 0) (items more : List T) → AllByRecursion P (items ++ more) → AllByRecursion P items
front_all P [] more all = tt
front_all P (item ∷ items) more all = (all.0, front_all P items more all.1)

-- of draws that differ those in front differ
pub differ_front : (draws more : List (List ℕ)) → Differ (draws ++ more) → Differ draws
differ_front [] more differ = λ i j d before within. absurd (omega (arith, within))
differ_front (first ∷ draws) more differ =
    pairs_first (λ (one other : List ℕ). one ≢ other) first draws
    (front_all (λ (other : List ℕ). first ≢ other) draws more
    (recursion_from_All (λ (other : List ℕ). first ≢ other) (draws ++ more) (λ k d within. differ zero (suc k) d (omega arith) (omega (arith, within)))))
    (differ_front draws more (differ_later first (draws ++ more) differ))

-- ---- other ends than members change

-- each is seen as it was
pub view_before : (plans : List MemberPlan) (ends after : EndStates) → after.members ≡ ends.members → SameNumbers ends after → (k : ℕ) (v : View) → views_at plans after k ≡ Some v →
    views_at plans ends k ≡ Some v
view_before plans ends after same numbers k v at =
    ap (λ (c : ℕ). seen_member c (slice_get ends.members k)) (sym (controller_same (slice_get plans k) ends after numbers))
    ∙ ap (λ (members : List MemberState). seen_member (controller_of_plan (slice_get plans k) after) (slice_get members k)) (sym same)
    ∙ at

module _ (n later : ℕ) (onward : n ≤ later) (plans : List MemberPlan) (ends after : EndStates) (drawn more : List (List ℕ)) (links : List Route) (sent : List Sent) (messages : List MessageTaken)
    (same : after.members ≡ ends.members) (numbers : SameNumbers ends after) where
  -- a step of another end, with its draws
  pub ends_other : CallsHold n plans ends drawn links sent messages → CallsHold later plans after (drawn ++ more) links sent messages
  ends_other holds = record {
    apart = looser (requests_at n plans ends drawn sent) (requests_at later plans after (drawn ++ more) sent) (record {
      views = view_before plans ends after same numbers;
      marks = λ unit number c mark asks there. there;
      drawn = λ challenge is. drawn_before challenge drawn more is;
      uses = omega (arith, onward);
    }) holds.apart;
    members = λ k m there.
        subst (λ (c : ℕ). MemberHolds links sent messages c k m.running) (sym (controller_same (slice_get plans k) ends after numbers))
        (holds.members k m (subst (λ (members : List MemberState). slice_get members k ≡ Some m) same there));
    accepted = holds.accepted;
  }

-- more steps were taken
pub more_steps : (n later : ℕ) (plans : List MemberPlan) (ends : EndStates) (drawn : List (List ℕ)) (links : List Route) (sent : List Sent) (messages : List MessageTaken) → n ≤ later →
    CallsHold n plans ends drawn links sent messages → CallsHold later plans ends drawn links sent messages
more_steps n later plans ends drawn links sent messages onward holds = record {
  apart = looser (requests_at n plans ends drawn sent) (requests_at later plans ends drawn sent)
      (record { views = λ k v at. at; marks = λ unit number c mark asks there. there; drawn = λ challenge is. is; uses = omega (arith, onward) }) holds.apart;
  members = holds.members;
  accepted = holds.accepted;
}

-- the plans are others, which are alike but for secrets: each is seen as it was
pub view_by_plans : (plans later : List MemberPlan) (ends : EndStates) → AreAlikeButSecrets plans later → (k : ℕ) (v : View) → views_at later ends k ≡ Some v → views_at plans ends k ≡ Some v
view_by_plans plans later ends alike k v at = ap (λ (c : ℕ). seen_member c (slice_get ends.members k)) (sym (controllers_alike plans later k ends alike)) ∙ at

pub plans_so : (n : ℕ) (plans later : List MemberPlan) (ends : EndStates) (drawn : List (List ℕ)) (links : List Route) (sent : List Sent) (messages : List MessageTaken) → AreAlikeButSecrets plans later →
    CallsHold n plans ends drawn links sent messages → CallsHold n later ends drawn links sent messages
plans_so n plans later ends drawn links sent messages alike holds = record {
  apart = looser (requests_at n plans ends drawn sent) (requests_at n later ends drawn sent) (record {
    views = view_by_plans plans later ends alike;
    marks = λ unit number c mark asks there. there;
    drawn = λ challenge is. is;
    uses = omega arith;
  }) holds.apart;
  members = λ k m there. subst (λ (c : ℕ). MemberHolds links sent messages c k m.running) (sym (controllers_alike plans later k ends alike)) (holds.members k m there);
  accepted = holds.accepted;
}

-- ---- units that are no requests are written down

-- the marks of both
pub marks_append : (sent more : List Sent) → marks_in (sent ++ more) ≡ marks_in sent ++ marks_in more
marks_append [] more = refl
marks_append (one ∷ sent) more = ap (λ (marks : List Mark). one.mark ∷ marks) (marks_append sent more)

-- the marks that were given
pub marks_sent : (at : ℕ) (marks : List Mark) → marks_in (map (sent_at at) marks) ≡ marks
marks_sent at [] = refl
marks_sent at (mark ∷ marks) = ap (λ (all : List Mark). mark ∷ all) (marks_sent at marks)

sent_known : (links : List Route) (sent more : List Sent) (messages : List MessageTaken) (k : ℕ) → StaysKnown links links sent (sent ++ more) messages messages k
sent_known links sent more messages k = record {
  dialled = λ number is. is;
  accepted = λ number is. is;
  has = λ place logon one. one;
  out = λ pending logon standing one.
      one_weaker (IsOutIn sent k pending logon standing) (IsOutIn (sent ++ more) k pending logon standing) messages
      (λ message is. out_more sent (sent ++ more) k pending logon standing standing message (λ j unit there. got_append sent more j unit there) refl is) one;
}

-- behind the others
pub sent_more : (n : ℕ) (plans : List MemberPlan) (ends : EndStates) (drawn : List (List ℕ)) (links : List Route) (sent more : List Sent) (messages : List MessageTaken) → NoRequests (marks_in more) →
    CallsHold n plans ends drawn links sent messages → CallsHold n plans ends drawn links (sent ++ more) messages
sent_more n plans ends drawn links sent more messages none holds = record {
  apart = looser (requests_at n plans ends drawn sent) (requests_at n plans ends drawn (sent ++ more)) (record {
    views = λ k v at. at;
    marks = λ unit number c mark asks there.
        requests_before (marks_in sent) (marks_in more) none unit number c mark asks (subst (λ (marks : List Mark). slice_get marks unit ≡ Some mark) (marks_append sent more) there);
    drawn = λ challenge is. is;
    uses = omega arith;
  }) holds.apart;
  members = λ k m there.
      stays_known links links sent (sent ++ more) messages messages (controller_of_plan (slice_get plans k) ends) k m.running (sent_known links sent more messages k) (holds.members k m there);
  accepted = holds.accepted;
}

-- ---- a link is made

accepted_on : (links : List Route) (route : Route) (k link : ℕ) → IsAcceptedBy links k link → IsAcceptedBy (links ++ route ∷ []) k link
accepted_on links route k link is = record { route = is.route; at = got_append links (route ∷ []) link is.route is.at; acceptor = is.acceptor }

-- behind the others
pub link_more : (n : ℕ) (plans : List MemberPlan) (ends : EndStates) (drawn : List (List ℕ)) (links : List Route) (route : Route) (sent : List Sent) (messages : List MessageTaken) →
    CallsHold n plans ends drawn links sent messages → CallsHold n plans ends drawn (links ++ route ∷ []) sent messages
link_more n plans ends drawn links route sent messages holds = record {
  apart = holds.apart;
  members = λ k m there.
      stays_known links (links ++ route ∷ []) sent sent messages messages (controller_of_plan (slice_get plans k) ends) k m.running (record {
        dialled = λ number is. record { controller = is.controller; at = got_append links (route ∷ []) number (ToController k is.controller) is.at };
        accepted = λ number is. accepted_on links route k number is;
        has = λ place logon one. one;
        out = λ pending logon standing one. one;
      }) (holds.members k m there);
  accepted = all_weaker (λ (message : MessageTaken). IsAcceptedBy links message.member message.link) (λ (message : MessageTaken). IsAcceptedBy (links ++ route ∷ []) message.member message.link) messages
      (λ message is. accepted_on links route message.member message.link is) holds.accepted;
}

-- ---- a member changes

differ_ends : (one other : ℕ) → one ≢ other → (one == other) ≡ false
differ_ends one other differ = false_from_ne_true (one == other) (λ is. differ ((Decides-eqb one other).0 is))

module _ (plans : List MemberPlan) (ends : EndStates) (at : ℕ) (new : MemberState) where
  -- the ends, with the member of that number as it is afterwards
  abbrev pub with_new : EndStates
  with_new = record ends { members = slice_set ends.members at new }

  -- each member is seen as before but for the one that changed
  seen_found : (found : Option MemberState) (j : ℕ) (v : View) → slice_get (slice_set ends.members at new) j ≡ found →
      seen_member (controller_of_plan (slice_get plans j) ends) found ≡ Some v →
      seen_or (j == at) (seen_running (controller_of_plan (slice_get plans at) ends) new.running) (views_at plans ends j) ≡ Some v
  seen_found None j v is seen = let x = seen in cc
  seen_found (Some m) j v is seen = elim (set_cases ends.members at j new m is) [
    | inl here ↦
        ap (λ (hit : Bool). seen_or hit (seen_running (controller_of_plan (slice_get plans at) ends) new.running) (views_at plans ends j)) ((Decides-eqb j at).1 here.0)
        ∙ ap (λ (k : ℕ). seen_running (controller_of_plan (slice_get plans k) ends) new.running) (sym here.0)
        ∙ ap (λ (x : MemberState). seen_running (controller_of_plan (slice_get plans j) ends) x.running) here.1
        ∙ seen
    | inr other ↦
        ap (λ (hit : Bool). seen_or hit (seen_running (controller_of_plan (slice_get plans at) ends) new.running) (views_at plans ends j)) (differ_ends j at other.0)
        ∙ ap (λ (x : Option MemberState). seen_member (controller_of_plan (slice_get plans j) ends) x) other.1
        ∙ seen
  ]

  same_size : SameNumbers ends with_new
  same_size = record { controllers = refl; members = length-set ends.members at new; clients = refl; stations = refl }

  pub seen_after : (j : ℕ) (v : View) → views_at plans with_new j ≡ Some v →
      seen_or (j == at) (seen_running (controller_of_plan (slice_get plans at) ends) new.running) (views_at plans ends j) ≡ Some v
  seen_after j v seen =
      seen_found (slice_get (slice_set ends.members at new) j) j v refl
      (ap (λ (c : ℕ). seen_member c (slice_get (slice_set ends.members at new) j)) (sym (controller_same (slice_get plans j) ends with_new same_size)) ∙ seen)

  -- of the member that changed what is known is given, and of the others what stays known
  pub member_changed : (n later uses : ℕ) (drawn after : List (List ℕ)) (links : List Route) (sent more : List Sent) (messages messages_after : List MessageTaken) → uses ≤ 2 * later →
      CallsHold n plans ends drawn links sent messages →
      CallsAreApart (requests_after (views_at plans ends) at (controller_of_plan (slice_get plans at) ends) new.running (marks_in more) after uses) →
      MemberHolds links more messages_after (controller_of_plan (slice_get plans at) ends) at new.running →
      ((k : ℕ) → (k ≡ at → ⊥) → StaysKnown links links sent more messages messages_after k) → AreAccepted links messages_after →
      CallsHold later plans with_new after links more messages_after
  member_changed n later uses drawn after links sent more messages messages_after few holds apart own others accepted = record {
    apart = looser (requests_after (views_at plans ends) at (controller_of_plan (slice_get plans at) ends) new.running (marks_in more) after uses) (requests_at later plans with_new after more) (record {
      views = seen_after;
      marks = λ unit number c mark asks there. there;
      drawn = λ challenge is. is;
      uses = few;
    }) apart;
    members = λ k m there.
        subst (λ (c : ℕ). MemberHolds links more messages_after c k m.running) (sym (controller_same (slice_get plans k) ends with_new same_size))
        (elim (set_cases ends.members at k new m there) [
          | inl here ↦
              subst (λ (x : MemberState). MemberHolds links more messages_after (controller_of_plan (slice_get plans k) ends) k x.running) here.1
              (subst (λ (j : ℕ). MemberHolds links more messages_after (controller_of_plan (slice_get plans j) ends) j new.running) (sym here.0) own)
          | inr other ↦
              stays_known links links sent more messages messages_after (controller_of_plan (slice_get plans k) ends) k m.running (others k (λ is. other.0 is)) (holds.members k m other.1)
        ]);
    accepted = accepted;
  }
