-- In every run a link takes at most one AUTHENTICATE.
-- It serves `Proved.challenges`.
use Rattle.std.proofs.Common.{◌≡◌, ◌≢◌, ℕ, zero, suc, ◌<◌, List, [], ◌∷◌, ◌++◌, length, map, ◌⊎◌, inl, inr, Some, slice_get, slice_set, All, AllPairs, refl, sym, ap, subst, ◌∙◌, arith, length-append}
use Rattle.std.specs.Prelude.{flat_map}
use Rattle.std.proofs.lemmas.List.{append-nil}
use Rattle.std.proofs.lemmas.List.Elements.{All-nil, All-push, All-weaker}
use Rattle.std.proofs.lemmas.List.Quantifiers.{all_pairs_push}
use Rattle.std.proofs.lemmas.Option.{slice_get_within}
use Rattle.outside.specs.declared.event.Event.{Event}
use Rattle.outside.specs.declared.event.Event.TheVariants as event
use Rattle.member_server.specs.Machine.{fresh_member, step_of}
use Rattle.member_server.specs.State.{State as MemberState}
use Rattle.member_server.specs.declared.plan.MemberPlan.{MemberPlan}
use Rattle.member_server.specs.declared.state.Phase.{Phase}
use Rattle.step_notes.specs.MemberNotes.{link_units, taken_link, turn_units}
use Rattle.step_notes.specs.Records.{Book, OfMember}
use Rattle.world_moves.specs.declared.links.EndId.TheVariants.{Member}
use Rattle.world_moves.specs.declared.links.Route.{Route}
use Rattle.world_moves.specs.declared.moves.Move.{Move}
use Rattle.world_moves.specs.declared.plan.Plan.{Plan}
use Rattle.world_moves.specs.declared.state.State.{State}
use Rattle.world_moves.specs.Links.{acceptor_of}
use Rattle.world_moves.specs.Plain.{IsPlainPlan, plain_world}
use Rattle.domain_world.specs.Past.{Delivery, at_member, note_member, note_messages, past}
use Rattle.wire_base.proofs.ListLaws.{got_append, got_behind}
use Rattle.step_notes.proofs.Members.UnservedLaws.{LinksIn, Opens, Took, bytes_took, in_so, step_known}
use Rattle.domain_world.proofs.Frames.FrameLaws.{BringsNothing}
use Rattle.domain_world.proofs.Frames.TurnFrameLaws.{turns_taken}
use Rattle.domain_world.proofs.Frames.MemberFrameLaws.{KeepsMembers, MembersFact, members_after}
use Rattle.domain_world.proofs.Frames.EndNoteLaws.{taken_so, takings_of}
use Rattle.domain_world.proofs.Frames.EventLaws.{by_quiet}
use Rattle.world_moves.proofs.ChangeLaws.{member_begun}

-- ---- places of a list

-- what stands at a place after one was changed: the new item, or what stood there before
pub set_cases : {T : Type 0} (items : List T) (at k : ℕ) (new item : T) → slice_get (slice_set items at new) k ≡ Some item →
    ((k ≡ at) × (new ≡ item)) ⊎ ((k ≢ at) × (slice_get items k ≡ Some item))
set_cases [] at k new item there = absurd cc
set_cases (first ∷ items) zero zero new item there = inl (refl, cc)
set_cases (first ∷ items) zero (suc k) new item there = inr (λ is. omega (arith, is), there)
set_cases (first ∷ items) (suc at) zero new item there = inr (λ is. omega (arith, is), there)
set_cases (first ∷ items) (suc at) (suc k) new item there = elim (set_cases items at k new item there) [
  | inl here ↦ inl (ap suc here.0, here.1)
  | inr other ↦ inr (λ is. other.0 (omega (arith, is)), other.1)
]

-- what holds of each, and of the new one in its place, holds of each after the change
pub each_put : {T : Type 0} (P : ℕ → T → Type 0) (items : List T) (at : ℕ) (new : T) → ((k : ℕ) (item : T) → k ≢ at → slice_get items k ≡ Some item → P k item) → P at new →
    (k : ℕ) (item : T) → slice_get (slice_set items at new) k ≡ Some item → P k item
each_put P items at new others here k item there = elim (set_cases items at k new item there) [
  | inl same ↦ subst (P k) same.1 (subst (λ n. P n new) (sym same.0) here)
  | inr other ↦ others k item other.0 other.1
]

-- ---- what is kept

-- the link was accepted by that member, and no AUTHENTICATE was taken on it
pub record MayTake (taken : List ℕ) (links : List Route) (member link : ℕ) : Type 0 where
  pub route : Route
  pub at : slice_get links link ≡ Some route
  pub acceptor : acceptor_of route ≡ Member member
  pub free : All (λ (one : ℕ). one ≢ link) taken

-- Of the links that took an AUTHENTICATE none comes twice, each was made, and it is none of those on which a challenge
-- hasn't served.
pub record IsTakenOnce (taken : List ℕ) (members : List MemberState) (links : List Route) : Type 0 where
  pub once : AllPairs (λ (one other : ℕ). one ≢ other) taken
  pub below : All (λ (one : ℕ). one < length links) taken
  pub each : (k : ℕ) (m : MemberState) → slice_get members k ≡ Some m → LinksIn (λ link p. MayTake taken links k link) m.running

-- a link takes one message at most, by the parts of a world
abbrev pub MessagesAreKept : List ℕ → MembersFact
MessagesAreKept taken members chances links = IsTakenOnce taken members links

may_more : (taken : List ℕ) (links : List Route) (member link one : ℕ) → MayTake taken links member link → one ≢ link → MayTake (taken ++ one ∷ []) links member link
may_more taken links member link one may differs =
    record { route = may.route; at = may.at; acceptor = may.acceptor; free = All-push (λ (other : ℕ). other ≢ link) taken one may.free differs }

may_opened : (taken : List ℕ) (links : List Route) (route : Route) (member link : ℕ) → MayTake taken links member link → MayTake taken (links ++ route ∷ []) member link
may_opened taken links route member link may =
    record { route = may.route; at = got_append links (route ∷ []) link may.route may.at; acceptor = may.acceptor; free = may.free }

pub member_is : (one other : ℕ) → Member one ≡ Member other → one ≡ other
member_is one other is = cc

pub route_is : (one other : Route) → Some one ≡ Some other → one ≡ other
route_is one other is = cc

-- a link was accepted by one member
one_acceptor : (taken : List ℕ) (links : List Route) (member other link : ℕ) → MayTake taken links member link → MayTake taken links other link → member ≡ other
one_acceptor taken links member other link may more =
    member_is member other (sym may.acceptor ∙ ap acceptor_of (route_is may.route more.route (sym may.at ∙ more.at)) ∙ more.acceptor)

-- a member is changed
member_put : (taken : List ℕ) (members : List MemberState) (links : List Route) (at : ℕ) (new : MemberState) → IsTakenOnce taken members links →
    LinksIn (λ link p. MayTake taken links at link) new.running → IsTakenOnce taken (slice_set members at new) links
member_put taken members links at new kept known = record {
  once = kept.once;
  below = kept.below;
  each = each_put (λ (k : ℕ) (m : MemberState). LinksIn (λ link p. MayTake taken links k link) m.running) members at new (λ k m differs there. kept.each k m there) known;
}

-- a member is changed at a step at which these were taken
member_took : (taken more : List ℕ) (members : List MemberState) (links : List Route) (at : ℕ) (new : MemberState) → IsTakenOnce taken members links →
    Took (λ link. MayTake taken links at link) more (λ May. LinksIn (λ link p. May link) new.running) → IsTakenOnce (taken ++ more) (slice_set members at new) links
member_took taken [] members links at new kept took =
    subst (λ (all : List ℕ). IsTakenOnce all (slice_set members at new) links) (sym (append-nil taken)) (member_put taken members links at new kept took)
member_took taken (one ∷ []) members links at new kept took =
    let may : MayTake taken links at one = took.0 in
    record {
      once = all_pairs_push (λ (a b : ℕ). a ≢ b) taken one kept.once may.free;
      below = All-push (λ (n : ℕ). n < length links) taken one kept.below (slice_get_within links one may.route may.at);
      each = each_put (λ (k : ℕ) (m : MemberState). LinksIn (λ link p. MayTake (taken ++ one ∷ []) links k link) m.running) members at new
          (λ k m differs there.
          in_so (λ link p. MayTake taken links k link) (λ link p. MayTake (taken ++ one ∷ []) links k link)
          (λ link p its. may_more taken links k link one its
          (λ is. differs (one_acceptor taken links k at link its (subst (λ n. MayTake taken links at n) is may))))
          m.running (kept.each k m there))
          (in_so (λ link p. MayTake taken links at link × (link ≢ one)) (λ link p. MayTake (taken ++ one ∷ []) links at link)
          (λ link p both. may_more taken links at link one both.0 (λ is. both.1 (sym is))) new.running took.1);
    }
member_took taken (one ∷ another ∷ more) members links at new kept took = absurd took

-- a link is made
link_made : (taken : List ℕ) (members : List MemberState) (links : List Route) (route : Route) → IsTakenOnce taken members links → IsTakenOnce taken members (links ++ route ∷ [])
link_made taken members links route kept = record {
  once = kept.once;
  below = All-weaker (λ (n : ℕ). n < length links) (λ (n : ℕ). n < length (links ++ route ∷ []))
      (λ n lt. omega (arith, lt, length-append links (route ∷ []))) taken kept.below;
  each = λ k m there.
      in_so (λ link p. MayTake taken links k link) (λ link p. MayTake taken (links ++ route ∷ []) k link) (λ link p may. may_opened taken links route k link may) m.running (kept.each k m there);
}

-- on a link that was just made none was taken
last_may : (taken : List ℕ) (links : List Route) (route : Route) (at : ℕ) → acceptor_of route ≡ Member at → All (λ (one : ℕ). one < length links) taken →
    MayTake taken (links ++ route ∷ []) at (length links)
last_may taken links route at is below = record {
  route = route;
  at = got_behind links route [];
  acceptor = is;
  free = All-weaker (λ (one : ℕ). one < length links) (λ (one : ℕ). one ≢ length links) (λ one lt same. omega (arith, lt, same)) taken below;
}

-- ---- a member hears something

-- an event at which neither bytes come nor a link opens asks nothing
pub quiet_opens : (what : Event) (May : ℕ → Phase → Type 0) → BringsNothing what → Opens what May
quiet_opens what May = by_quiet (λ (one : Event). Opens one May) (λ link. tt) (λ link. tt) tt tt what

hear_keeps : (taken : List ℕ) (m : MemberState) (at : ℕ) (what : Event) (now : ℕ) (members : List MemberState) (left : List (List ℕ)) (links : List Route) → slice_get members at ≡ Some m →
    Opens what (λ link p. MayTake taken links at link) → IsTakenOnce taken members links → IsTakenOnce taken (slice_set members at (step_of m what now left).state) links
hear_keeps taken m at what now members left links is opens kept =
    member_put taken members links at (step_of m what now left).state kept (step_known (λ link p. MayTake taken links at link) what m now left opens (kept.each at m is))

-- ---- bytes come

-- what it took is written down
member_bytes : (m : MemberState) (at : ℕ) (w : Delivery) (piece : List ℕ) (s after : State) (b : Book) → slice_get s.ends.members at ≡ Some m → IsTakenOnce b.taken s.ends.members s.links →
    IsTakenOnce (note_member (Some m) at w piece s after b).taken (slice_set s.ends.members at (step_of m (event.Bytes w.link piece) s.moment s.chances.left).state) s.links
member_bytes m at w piece s after b is kept =
    let new : MemberState = (step_of m (event.Bytes w.link piece) s.moment s.chances.left).state in
    let more : List ℕ = flat_map (taken_link (at_member at w s)) (link_units m w.link piece s.moment s.chances.left) in
    subst (λ (all : List ℕ). IsTakenOnce all (slice_set s.ends.members at new) s.links)
    (sym (turns_taken (OfMember at) w (turn_units m w.link piece s.moment s.chances.left) s after (note_messages at m w piece s b)))
    (member_took b.taken more s.ends.members s.links at new kept
    (bytes_took (λ link. MayTake b.taken s.links at link) (at_member at w s) m piece s.moment s.chances.left (kept.each at m is)))

-- ---- a run

keeps_on : KeepsMembers takings_of MessagesAreKept
keeps_on = record {
  of = taken_so;
  given = λ at given after b. refl;
  draws = λ taken members chances later links on kept. kept;
  hears = λ taken m at what now members chances links quiet is kept.
      hear_keeps taken m at what now members chances.left links is (quiet_opens what (λ link p. MayTake taken links at link) quiet) kept;
  opens = λ taken route members chances links kept. link_made taken members links route kept;
  accepts = λ taken m at route now members chances links accepts is kept.
      hear_keeps taken m at (event.Opened (length links)) now members chances.left (links ++ route ∷ []) is (last_may taken links route at accepts kept.below)
      (link_made taken members links route kept);
  comes = λ m at w piece s after b is kept. member_bytes m at w piece s after b is kept;
  changes = λ taken secret running at members chances links is none kept. member_put taken members links at (member_begun secret running) kept (kept.each at (record { running = Some running }) is);
  anew = λ taken plan at members chances links kept. member_put taken members links at (fresh_member plan) kept tt;
}

pub fresh_links : (plans : List MemberPlan) (May : ℕ → Phase → Type 0) (k : ℕ) (m : MemberState) → slice_get (map fresh_member plans) k ≡ Some m → LinksIn May m.running
fresh_links [] May k m there = absurd cc
fresh_links (plan ∷ plans) May zero m there =
    let is : fresh_member plan ≡ m = cc in subst (λ (x : MemberState). LinksIn May x.running) is tt
fresh_links (plan ∷ plans) May (suc k) m there = fresh_links plans May k m there

first_kept : (plan : Plan) → IsTakenOnce [] (plain_world plan).state.ends.members (plain_world plan).state.links
first_kept plan = record {
  once = λ i j d lt within. absurd (omega (arith, within));
  below = All-nil (λ (one : ℕ). one < 0);
  each = λ k m there. fresh_links plan.members (λ link p. MayTake [] [] k link) k m there;
}

-- in every run a link takes at most one AUTHENTICATE
pub messages_once : (plan : Plan) (moves : List Move) → IsPlainPlan plan → AllPairs (λ (one other : ℕ). one ≢ other) (past plan moves).book.taken
messages_once plan moves nothing = (members_after takings_of MessagesAreKept keeps_on plan moves nothing (first_kept plan)).once
