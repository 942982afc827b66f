-- What ends do where no bytes come: nobody is let in, and the logons that members keep stay those of messages that they
-- took. It serves `Proved.asked`, `Proved.let_in`, `Proved.sends`.
use Rattle.std.proofs.Common.{◌≡◌, ℕ, true, List, [], ◌∷◌, ◌++◌, length, inl, inr, Option, Some, None, Result, Ok, Err, refl, sym, subst, slice_get, slice_set, ap, ◌∙◌, false}
use Rattle.std.specs.List.{AllByRecursion}
use Rattle.outside.specs.declared.action.Action.{Action}
use Rattle.outside.specs.declared.action.Action.TheVariants as action
use Rattle.outside.specs.declared.action.Outcome.{Outcome}
use Rattle.outside.specs.declared.action.Outcome.TheVariants as outcome
use Rattle.outside.specs.declared.action.StepRefused.{StepRefused}
use Rattle.outside.specs.declared.event.Event.{Event}
use Rattle.outside.specs.declared.event.Event.TheVariants as event
use Rattle.member_server.specs.Laws.{IsGranted, IsTold}
use Rattle.member_server.specs.Machine.{fresh_member, step_of, step_on}
use Rattle.member_server.specs.State.{State as MemberState}
use Rattle.member_server.specs.declared.state.Logon.{Logon}
use Rattle.member_server.specs.declared.state.Running.{Running}
use Rattle.member_server.proofs.KeptLaws.{lets_in_the_granted}
use Rattle.step_notes.specs.Records.{MessageTaken}
use Rattle.world_moves.specs.declared.links.EndId.{EndId}
use Rattle.world_moves.specs.declared.links.EndId.TheVariants.{Controller, Member, Client}
use Rattle.world_moves.specs.declared.links.Route.{Route}
use Rattle.world_moves.specs.declared.links.Route.TheVariants.{Between, ToController, Stranger, ToMember, FromStation}
use Rattle.world_moves.specs.declared.state.State.{State}
use Rattle.world_moves.specs.Acting.{Given, given_by}
use Rattle.world_moves.specs.Ends.{EndStates, EndStep, actions_by}
use Rattle.world_moves.specs.Links.{acceptor_of, dialler_of}
use Rattle.world_moves.specs.Moving.{changed}
use Rattle.world_moves.specs.Counting.{is_in}
use Rattle.world_moves.proofs.EndKindLaws.{IfMember, is_member}
use Rattle.wire_base.proofs.ListLaws.{got_append, got_last}
use Rattle.step_notes.proofs.Members.KeptLogonLaws.{Dials, HasFor, KeptIn, kept_so, step_keeps}
use Rattle.step_notes.proofs.Members.TurnAnswerLaws.{none_whole}
use Rattle.step_notes.proofs.Members.UnservedLaws.{LinksIn, Opens, in_so, step_known}
use Rattle.domain_world.proofs.Messages.MessageOnceLaws.{set_cases}
use Rattle.domain_world.proofs.Moves.NoBytesLaws.{IsNoBytes}
use Rattle.domain_world.proofs.Frames.EndFrameLaws.{IsCalm, by_calm}
use Rattle.domain_world.proofs.Moves.OpenMadeLaws.{IsOnSide}
use Rattle.domain_world.proofs.Frames.EventLaws.{by_no_bytes}
use Rattle.world_moves.proofs.ChangeLaws.{by_change, member_begun}
use Rattle.world_moves.specs.Plain.{hear_plain as hear, renewed_plain as renewed}
use Rattle.world_moves.proofs.PlainKindLaws.{members_plain as members_by, plain_by as step_by, renew_plain_by as renew_by}

-- ---- whom members let in

-- the fact of the member, the link and the outcome, where the action tells that somebody is let in
abbrev pub IfLetIn : (ℕ → ℕ → Outcome → Type 0) → EndId → Action → Type 0
IfLetIn Fact end what = (member link : ℕ) (how : Outcome) → end ≡ Member member → what ≡ action.Told link how → is_in how ≡ true → Fact member link how

abbrev pub OfLetIn : (ℕ → ℕ → Outcome → Type 0) → Given → Type 0
OfLetIn Fact given = AllByRecursion (λ (one : EndId × Action). IfLetIn Fact one.0 one.1) given

abbrev pub Nobody : ℕ → ℕ → Outcome → Type 0
Nobody member link how = ⊥

pub given_so : (Fact Later : ℕ → ℕ → Outcome → Type 0) → ((member link : ℕ) (how : Outcome) → Fact member link how → Later member link how) → (given : Given) →
    OfLetIn Fact given → OfLetIn Later given
given_so Fact Later so [] all = tt
given_so Fact Later so (one ∷ given) all = ((λ member link how end told is. so member link how (all.0 member link how end told is)), given_so Fact Later so given all.1)

pub nobody_so : (Fact : ℕ → ℕ → Outcome → Type 0) (given : Given) → OfLetIn Nobody given → OfLetIn Fact given
nobody_so Fact given none = given_so Nobody Fact (λ member link how never. absurd never) given none

pub given_append : (Fact : ℕ → ℕ → Outcome → Type 0) (given later : Given) → OfLetIn Fact given → OfLetIn Fact later → OfLetIn Fact (given ++ later)
given_append Fact [] later all more = more
given_append Fact (one ∷ given) later all more = (all.0, given_append Fact given later all.1 more)

-- only members tell outcomes
pub others_tell : (Fact : ℕ → ℕ → Outcome → Type 0) (end : EndId) → is_member end ≡ false → (actions : List Action) → OfLetIn Fact (given_by end actions)
others_tell Fact end other [] = tt
others_tell Fact end other (what ∷ actions) =
    ((λ member link how same told is. absurd (let never : true ≡ false = sym (ap is_member same) ∙ other in cc)), others_tell Fact end other actions)

module _ (Fact : ℕ → ℕ → Outcome → Type 0) (at : ℕ) (running : Running) (what : Event) (so : (link : ℕ) (how : Outcome) → IsGranted running what link how → Fact at link how) where
  outcome_granted : (link : ℕ) (how : Outcome) → is_in how ≡ true → IsTold running what (action.Told link how) → IsGranted running what link how
  outcome_granted link (outcome.In domain user key) is told = told
  outcome_granted link (outcome.Out status) is told = absurd (let never : false ≡ true = is in cc)
  outcome_granted link (outcome.NoController cause) is told = absurd (let never : false ≡ true = is in cc)

  action_told : (one : Action) → IsTold running what one → IfLetIn Fact (Member at) one
  action_told one told member link how same tells is =
      let here : at ≡ member = cc in
      subst (λ (k : ℕ). Fact k link how) here (so link how (outcome_granted link how is (subst (IsTold running what) tells told)))

  all_told : (actions : List Action) → AllByRecursion (IsTold running what) actions → OfLetIn Fact (given_by (Member at) actions)
  all_told [] told = tt
  all_told (one ∷ actions) told = (action_told one told.0, all_told actions told.1)

  pub step_told : (answer : Result (List Action) StepRefused) → AllByRecursion (IsTold running what) (actions_by answer) → OfLetIn Fact (given_by (Member at) (actions_by answer))
  step_told (Err why) told = tt
  step_told (Ok actions) told = all_told actions told

-- ---- an end hears something else than bytes

-- a grant comes in bytes
grant_comes : (what : Event) (running : Running) (link : ℕ) (how : Outcome) → IsNoBytes what → IsGranted running what link how → ⊥
grant_comes what running link how =
    by_no_bytes (λ (one : Event). IsGranted running one link how → ⊥) (λ at granted. none_whole granted.earlier granted.unit granted.later granted.hears)
    (λ at granted. none_whole granted.earlier granted.unit granted.later granted.hears) (λ at granted. none_whole granted.earlier granted.unit granted.later granted.hears)
    (λ granted. none_whole granted.earlier granted.unit granted.later granted.hears) (λ granted. none_whole granted.earlier granted.unit granted.later granted.hears) what

running_silent : (r : Option Running) (m : MemberState) (at : ℕ) (what : Event) (now : ℕ) (left : List (List ℕ)) → m.running ≡ r → IsNoBytes what →
    OfLetIn Nobody (given_by (Member at) (actions_by (step_of m what now left).answer))
running_silent None m at what now left is none =
    subst (λ (r : Option Running). OfLetIn Nobody (given_by (Member at) (actions_by (step_on r m what now left).answer))) (sym is) tt
running_silent (Some running) m at what now left is none =
    step_told Nobody at running what (λ link how granted. grant_comes what running link how none granted) (step_of m what now left).answer (lets_in_the_granted.told m running what now left is)

pub end_silent : (end : EndId) (what : Event) (s : State) → IsNoBytes what → OfLetIn Nobody (given_by end (hear end what s).actions)
end_silent end what s none =
    step_by (λ (one : EndId) (step : EndStep). OfLetIn Nobody (given_by one step.actions)) what s.moment s.ends s.chances (λ one. tt) (λ at c is. others_tell Nobody (Controller at) refl _)
    (λ at m is. running_silent m.running m at what s.moment s.chances.left refl none) (λ at c is. others_tell Nobody (Client at) refl _) end

-- ---- what is kept

-- the link goes to a controller, and that member dialled it
pub record IsDialledBy (links : List Route) (member number : ℕ) : Type 0 where
  pub controller : ℕ
  pub at : slice_get links number ≡ Some (ToController member controller)

-- the link was accepted by that member
pub record IsAcceptedBy (links : List Route) (member number : ℕ) : Type 0 where
  pub route : Route
  pub at : slice_get links number ≡ Some route
  pub acceptor : acceptor_of route ≡ Member member

-- nothing is late
abbrev pub NotLate : List Route → ℕ → Type 0
NotLate links member = ⊥

-- Each logon that a member keeps is that of a message that it took, before so many moves or late; it dialled the link
-- of its turn, and accepted those whose challenge hasn't served.
pub record LetInKeeps (Late : List Route → ℕ → Type 0) (most : ℕ) (messages : List MessageTaken) (members : List MemberState) (links : List Route) : Type 0 where
  pub each : (k : ℕ) (m : MemberState) → slice_get members k ≡ Some m → KeptIn (HasFor (Late links k) most k messages) (λ number. IsDialledBy links k number) m.running
  pub accepts : (k : ℕ) (m : MemberState) → slice_get members k ≡ Some m → LinksIn (λ number p. IsAcceptedBy links k number) m.running

abbrev pub KeepsIn : (List Route → ℕ → Type 0) → ℕ → List MessageTaken → State → Type 0
KeepsIn Late most messages s = LetInKeeps Late most messages s.ends.members s.links

-- a member is changed
pub member_put : (Late : List Route → ℕ → Type 0) (most : ℕ) (messages : List MessageTaken) (members : List MemberState) (links : List Route) (at : ℕ) (new : MemberState) →
    LetInKeeps Late most messages members links → KeptIn (HasFor (Late links at) most at messages) (λ number. IsDialledBy links at number) new.running →
    LinksIn (λ number p. IsAcceptedBy links at number) new.running → LetInKeeps Late most messages (slice_set members at new) links
member_put Late most messages members links at new kept known accepted = record {
  each = λ k m there. elim (set_cases members at k new m there) [
    | inl here ↦
        subst (λ (x : MemberState). KeptIn (HasFor (Late links k) most k messages) (λ number. IsDialledBy links k number) x.running) here.1
        (subst (λ (n : ℕ). KeptIn (HasFor (Late links n) most n messages) (λ number. IsDialledBy links n number) new.running) (sym here.0) known)
    | inr other ↦ kept.each k m other.1
  ];
  accepts = λ k m there. elim (set_cases members at k new m there) [
    | inl here ↦
        subst (λ (x : MemberState). LinksIn (λ number p. IsAcceptedBy links k number) x.running) here.1
        (subst (λ (n : ℕ). LinksIn (λ number p. IsAcceptedBy links n number) new.running) (sym here.0) accepted)
    | inr other ↦ kept.accepts k m other.1
  ];
}

-- a link is made
pub link_made : (most : ℕ) (messages : List MessageTaken) (members : List MemberState) (links : List Route) (route : Route) → LetInKeeps NotLate most messages members links →
    LetInKeeps NotLate most messages members (links ++ route ∷ [])
link_made most messages members links route kept = record {
  each = λ k m there.
      kept_so (HasFor ⊥ most k messages) (HasFor ⊥ most k messages) (λ number. IsDialledBy links k number) (λ number. IsDialledBy (links ++ route ∷ []) k number) (λ place logon one. one)
      (λ number dialled. record { controller = dialled.controller; at = got_append links (route ∷ []) number (ToController k dialled.controller) dialled.at })
      m.running (kept.each k m there);
  accepts = λ k m there.
      in_so (λ number p. IsAcceptedBy links k number) (λ number p. IsAcceptedBy (links ++ route ∷ []) k number)
      (λ number p accepted. record { route = accepted.route; at = got_append links (route ∷ []) number accepted.route accepted.at; acceptor = accepted.acceptor })
      m.running (kept.accepts k m there);
}

-- more is written down, or more moves are made
pub messages_so : (Late More : List Route → ℕ → Type 0) (most later : ℕ) (messages more : List MessageTaken) (members : List MemberState) (links : List Route) →
    ((k place : ℕ) (logon : Logon) → HasFor (Late links k) most k messages place logon → HasFor (More links k) later k more place logon) → LetInKeeps Late most messages members links →
    LetInKeeps More later more members links
messages_so Late More most later messages more members links so kept = record {
  each = λ k m there.
      kept_so (HasFor (Late links k) most k messages) (HasFor (More links k) later k more) (λ number. IsDialledBy links k number) (λ number. IsDialledBy links k number) (so k)
      (λ number dialled. dialled) m.running (kept.each k m there);
  accepts = kept.accepts;
}

-- what must be known of the link of an answered dial, or of one that opens, where the end is a member; no bytes come at
-- it
abbrev pub MeetsMember : List Route → Event → ℕ → Type 0
MeetsMember links what at = Dials (λ number. IsDialledBy links at number) what × Opens what (λ number p. IsAcceptedBy links at number)

abbrev pub Meets : EndId → List Route → Event → Type 0
Meets end links what = IfMember (MeetsMember links what) end

pub hear_keeps : (Late : List Route → ℕ → Type 0) (most : ℕ) (messages : List MessageTaken) (end : EndId) (what : Event) (s : State) → Meets end s.links what → KeepsIn Late most messages s →
    KeepsIn Late most messages (hear end what s).state
hear_keeps Late most messages end what s meets kept =
    members_by what s.moment s.ends s.chances (λ (one : EndId) (members : List MemberState). IfMember (MeetsMember s.links what) one → LetInKeeps Late most messages members s.links) (λ one its. kept)
    (λ at m is its.
    member_put Late most messages s.ends.members s.links at (step_of m what s.moment s.chances.left).state kept
    (step_keeps (HasFor (Late s.links at) most at messages) (λ number. IsDialledBy s.links at number) what m s.moment s.chances.left (its at refl).0 (kept.each at m is))
    (step_known (λ number p. IsAcceptedBy s.links at number) what m s.moment s.chances.left (its at refl).1 (kept.accepts at m is)))
    end meets

pub calm_meets : (end : EndId) (links : List Route) (what : Event) → IsCalm what → Meets end links what
calm_meets end links what calm at is = by_calm (λ (one : Event). MeetsMember links one at) (λ link. (tt, tt)) (tt, tt) (tt, tt) what calm

-- the end accepted the link that was just made
pub last_accepted : (end : EndId) (route : Route) (links : List Route) → acceptor_of route ≡ end → Meets end (links ++ route ∷ []) (event.Opened (length links))
last_accepted end route links is at same = (tt, record { route = route; at = got_last links route; acceptor = is ∙ same })

-- the end dialled the link that is answered
dialled_by : (links : List Route) (link at : ℕ) (route : Route) → slice_get links link ≡ Some route → dialler_of route ≡ Some (Member at) → IsDialledBy links at link
dialled_by links link at (ToMember client member) made side = let x = side in cc
dialled_by links link at (Between from to) made side = let x = side in cc
dialled_by links link at (FromStation station controller) made side = let x = side in cc
dialled_by links link at (Stranger to) made side = let x = side in cc
dialled_by links link at (ToController member controller) made side =
    let same : member ≡ at = (let x = side in cc) in
    record { controller = controller; at = made ∙ ap (λ (k : ℕ). Some (ToController k controller)) same }

pub side_meets : (end : EndId) (links : List Route) (link : ℕ) → IsOnSide links link true end → Meets end links (event.Dialled link)
side_meets end links link side at is = (dialled_by links link at side.route side.made (side.side ∙ ap (λ (one : EndId). Some one) is), tt)

-- ---- an end is made anew

pub renewed_keeps : (Late : List Route → ℕ → Type 0) (most : ℕ) (messages : List MessageTaken) (end : EndId) (s : State) → KeepsIn Late most messages s → KeepsIn Late most messages (renewed end s)
renewed_keeps Late most messages end s kept =
    renew_by (λ (one : EndId) (ends : EndStates). LetInKeeps Late most messages ends.members s.links) s (λ one. kept) (λ at c is. kept)
    (λ at plan is. member_put Late most messages s.ends.members s.links at (fresh_member plan) kept (tt, tt) tt) (λ at plan is. kept) end

-- ---- a member begins to change its secret

pub changed_keeps : (Late : List Route → ℕ → Type 0) (most : ℕ) (messages : List MessageTaken) (at : ℕ) (secret : List ℕ) (s : State) → KeepsIn Late most messages s →
    KeepsIn Late most messages (changed at secret s).state
changed_keeps Late most messages at secret s kept =
    by_change (λ (ends : EndStates) (actions : List Action). LetInKeeps Late most messages ends.members s.links) at secret s.ends kept
    (λ running is none.
    member_put Late most messages s.ends.members s.links at (member_begun secret running) kept (kept.each at (record { running = Some running }) is)
    (kept.accepts at (record { running = Some running }) is))

pub change_silent : (Fact : ℕ → ℕ → Outcome → Type 0) (at : ℕ) (secret : List ℕ) (s : State) → OfLetIn Fact (given_by (Member at) (changed at secret s).actions)
change_silent Fact at secret s = by_change (λ (ends : EndStates) (actions : List Action). OfLetIn Fact (given_by (Member at) actions)) at secret s.ends tt
    (λ running is none. ((λ member link how same tells is_in. absurd (let never = tells in cc)), tt))
