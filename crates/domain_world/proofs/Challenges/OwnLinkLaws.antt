-- What a member writes down of the links that it accepts: which CHALLENGE was sent, by which draw, and for which an
-- AUTHENTICATE is. It serves `members_leave_nothing_out`, `messages_are_taken_as_sent`, `Proved.messages` and 3 more.
use Rattle.std.proofs.Common.{◌≡◌, ◌≤◌, ℕ, Bool, true, false, List, [], ◌∷◌, ◌++◌, length, Option, Some, None, Ok, Err, inl, refl, sym, ap, subst, ◌∙◌, arith, slice_get, append_assoc, length-append}
use Rattle.std.proofs.lemmas.List.{flat_map_more}
use Rattle.std.specs.Prelude.{flat_map}
use Rattle.std.specs.List.{AllByRecursion}
use Rattle.wire_base.specs.Maps.{lookup, same_number}
use Rattle.outside.specs.declared.event.Event.TheVariants as event
use Rattle.outside.specs.Drawing.{IsRest, draws_between}
use Rattle.outside.specs.Machine.{left_by}
use Rattle.outside.proofs.DrawLaws.{IsRest-refl, IsRest-trans, between_front}
use Rattle.rpc_units.specs.declared.unit.Unit.{Unit as RpcUnit}
use Rattle.rpc_units.specs.Stream.{Cut, cut_stream}
use Rattle.end_links.specs.Serving.{ServedPart, served_cut, ServedUnit, served_units}
use Rattle.end_links.proofs.KeepLaws.{comes_to, unit_served}
use Rattle.member_server.specs.declared.state.AtLink.{AtLink}
use Rattle.member_server.specs.declared.state.Bound.{Bound}
use Rattle.member_server.specs.declared.state.Logon.{Logon}
use Rattle.member_server.specs.declared.state.Phase.{Phase}
use Rattle.member_server.specs.declared.state.Phase.TheVariants as phase
use Rattle.member_server.specs.declared.state.Talk.{Talk}
use Rattle.member_server.specs.declared.state.Work.{Work}
use Rattle.member_server.specs.Laws.{is_past}
use Rattle.channel_client.specs.Machine.{needs_challenge}
use Rattle.member_server.specs.Machine.{serve_alone, serve_dialled, step_of, work_of}
use Rattle.member_server.specs.Outcomes.{at_link, without_link}
use Rattle.member_server.specs.Rests.{link_leaves}
use Rattle.member_server.specs.State.{State as MemberState}
use Rattle.member_server.specs.Units.{bound_unit, is_fresh, link_server, unit_by}
use Rattle.member_server.specs.Work.{Served}
use Rattle.wire_base.specs.Lists.{OneOf}
use Rattle.member_server.proofs.LinkView.{UnitView, Serves, Closes, Naks, Spends, Challenges, bound_view, unit_view}
use Rattle.member_server.proofs.StepFrame.{WorkFact}
use Rattle.step_notes.specs.MemberNotes.{LinkAt, challenge_after, challenge_by, challenge_in, challenge_note, is_challenged, link_if, link_units, message_after, message_at, message_by, message_kept, message_note, next_draw, taken_after, taken_by, taken_link}
use Rattle.step_notes.specs.Records.{ChallengeSent, MessageTaken}
use Rattle.step_notes.specs.Served.{talk_after, work_after}
use Rattle.world_moves.specs.declared.links.EndId.TheVariants.{Member}
use Rattle.world_moves.specs.declared.links.Route.{Route}
use Rattle.world_moves.specs.Links.{acceptor_of}
use Rattle.wire_base.proofs.ListLaws.{all_weaker, got_append, got_behind, one_before, one_behind}
use Rattle.step_notes.proofs.ServedLaws.{served_beside, served_noted}
use Rattle.step_notes.proofs.Members.LinkBytesLaws.{bytes_hear, drawn_rest, part_each, part_so, units_then}
use Rattle.step_notes.proofs.Members.UnservedLaws.{HasServed, IfUnserved, IfUnservedPart, LinksIn, Unserved, WorkLinks, bound_serves, dialled_known, fewer_known, found_known, kept_known, none_so}
use Rattle.domain_world.specs.Claims.LeftOut.{Takes, TakesOn}
use Rattle.domain_world.proofs.Challenges.LinkUnitLaws.{unit_at, view_takes}
use Rattle.wire_base.proofs.AllLaws.{all_join, all_flat}

-- ---- lists

all_parts : {T : Type 0} (P : T → Type 0) (items more : List T) → AllByRecursion P (items ++ more) → AllByRecursion P items × AllByRecursion P more
all_parts P [] more all = (tt, all)
all_parts P (item ∷ items) more all = let parts = all_parts P items more all.1 in ((all.0, parts.0), parts.1)

-- ---- what is known of a link

-- the link was accepted by that member
pub record IsLinkIn (links : List Route) (link member : ℕ) : Type 0 where
  pub route : Route
  pub at : slice_get links link ≡ Some route
  pub acceptor : acceptor_of route ≡ Member member

-- a CHALLENGE that this member sent on that link, with that challenge
abbrev pub IsSentOn : ℕ → ℕ → List ℕ → ChallengeSent → Type 0
IsSentOn member link challenge sent = (sent.link ≡ link) × (sent.challenge ≡ challenge) × (sent.member ≡ member)

-- something of the link, and of its challenge where a CHALLENGE was sent
abbrev pub IsKnown : Type 0 → (List ℕ → Type 0) → Phase → Type 0
IsKnown F D phase.Fresh = F
IsKnown F D (phase.Challenged bound challenge flags) = F × D challenge
IsKnown F D (phase.Asked bound place held) = F
IsKnown F D (phase.In on) = F
IsKnown F D (phase.Out bound status) = F

known_so : (F G : Type 0) (D E : List ℕ → Type 0) → (F → G) → ((challenge : List ℕ) → D challenge → E challenge) → (p : Phase) → IsKnown F D p → IsKnown G E p
known_so F G D E so also phase.Fresh known = so known
known_so F G D E so also (phase.Challenged bound challenge flags) known = (so known.0, also challenge known.1)
known_so F G D E so also (phase.Asked bound place held) known = so known
known_so F G D E so also (phase.In on) known = so known
known_so F G D E so also (phase.Out bound status) known = so known

-- the member accepted the link, and the CHALLENGE that was sent on it is written down
abbrev pub IsOwn : List ChallengeSent → List Route → ℕ → ℕ → Phase → Type 0
IsOwn challenges links member link p = IsKnown (IsLinkIn links link member) (λ (challenge : List ℕ). OneOf (IsSentOn member link challenge) challenges) p

pub own_more : (challenges more : List ChallengeSent) (links : List Route) (member link : ℕ) (p : Phase) → IsOwn challenges links member link p →
    IsOwn (challenges ++ more) links member link p
own_more challenges more links member link p own =
    known_so (IsLinkIn links link member) (IsLinkIn links link member) (λ (challenge : List ℕ). OneOf (IsSentOn member link challenge) challenges)
    (λ (challenge : List ℕ). OneOf (IsSentOn member link challenge) (challenges ++ more)) (λ its. its)
    (λ challenge one. one_before (IsSentOn member link challenge) challenges more one) p own

pub link_more : (links : List Route) (route : Route) (link member : ℕ) → IsLinkIn links link member → IsLinkIn (links ++ route ∷ []) link member
link_more links route link member its = record { route = its.route; at = got_append links (route ∷ []) link its.route its.at; acceptor = its.acceptor }

pub own_opened : (challenges : List ChallengeSent) (links : List Route) (route : Route) (member link : ℕ) (p : Phase) → IsOwn challenges links member link p →
    IsOwn challenges (links ++ route ∷ []) member link p
own_opened challenges links route member link p own =
    known_so (IsLinkIn links link member) (IsLinkIn (links ++ route ∷ []) link member) (λ (challenge : List ℕ). OneOf (IsSentOn member link challenge) challenges)
    (λ (challenge : List ℕ). OneOf (IsSentOn member link challenge) challenges) (λ its. link_more links route link member its) (λ challenge one. one) p own

-- ---- what is written down of a unit on an accepted link

-- a CHALLENGE of this link and member, which no earlier draw gave
abbrev pub IsSentAt : LinkAt → ChallengeSent → Type 0
IsSentAt w sent = (sent.link ≡ w.link) × (w.drawn ≤ sent.draw) × (sent.member ≡ w.member)

-- a message of this link and member, which took an AUTHENTICATE on one of those links
abbrev pub IsTakenIn : LinkAt → List ℕ → MessageTaken → Type 0
IsTakenIn w taken one = (one.link ≡ w.link) × (one.member ≡ w.member) × OneOf (λ (link : ℕ). link ≡ w.link) taken

module _ (w : LinkAt) where
  -- a CHALLENGE is written down of this link and of a new draw

  sent_in : (p : Phase) (at : AtLink) (left : List (List ℕ)) → AllByRecursion (IsSentAt w) (challenge_in p w at left)
  sent_in phase.Fresh at left = tt
  sent_in (phase.Challenged bound challenge flags) at left = ((refl, omega arith, refl), tt)
  sent_in (phase.Asked bound place held) at left = tt
  sent_in (phase.In on) at left = tt
  sent_in (phase.Out bound status) at left = tt

  sent_after : (said : Option Talk) (at : AtLink) (left : List (List ℕ)) → AllByRecursion (IsSentAt w) (challenge_after said w at left)
  sent_after None at left = tt
  sent_after (Some talk) at left = sent_in talk.phase at left

  sent_by : (fresh : Bool) (unit : ServedUnit AtLink Talk) → AllByRecursion (IsSentAt w) (challenge_by fresh unit w)
  sent_by false unit = tt
  sent_by true unit = sent_after (talk_after unit.part) unit.work unit.left

  pub all_sent : (units : List (ServedUnit AtLink Talk)) → AllByRecursion (IsSentAt w) (flat_map (challenge_note w) units)
  all_sent units = all_flat (IsSentAt w) (challenge_note w) (λ unit. sent_by (is_fresh unit.talk.phase) unit) units

  -- a message is written down of this link and member, which took an AUTHENTICATE

  taken_kept : (found : Option Logon) (place : ℕ) (bytes : List ℕ) → AllByRecursion (IsTakenIn w (w.link ∷ [])) (message_kept found place w bytes)
  taken_kept None place bytes = tt
  taken_kept (Some logon) place bytes = ((refl, refl, inl refl), tt)

  taken_place : (bound : Bound) (place : ℕ) (held : List (List ℕ)) (after : Option AtLink) (bytes : List ℕ) →
      AllByRecursion (IsTakenIn w (w.link ∷ [])) (message_at (phase.Asked bound place held) after w bytes)
  taken_place bound place held None bytes = tt
  taken_place bound place held (Some after) bytes = taken_kept (lookup same_number place after.logons.asked) place bytes

  taken_at : (p : Phase) (after : Option AtLink) (bytes : List ℕ) → AllByRecursion (IsTakenIn w (link_if (is_past p) w.link)) (message_at p after w bytes)
  taken_at phase.Fresh after bytes = tt
  taken_at (phase.Challenged bound challenge flags) after bytes = tt
  taken_at (phase.Asked bound place held) after bytes = taken_place bound place held after bytes
  taken_at (phase.In on) after bytes = tt
  taken_at (phase.Out bound status) after bytes = tt

  taken_said : (said : Option Talk) (after : Option AtLink) (bytes : List ℕ) → AllByRecursion (IsTakenIn w (taken_after said w.link)) (message_after said after w bytes)
  taken_said None after bytes = tt
  taken_said (Some talk) after bytes = taken_at talk.phase after bytes

  taken_if : (challenged : Bool) (unit : ServedUnit AtLink Talk) → AllByRecursion (IsTakenIn w (taken_by challenged (talk_after unit.part) w.link)) (message_by challenged unit w)
  taken_if false unit = tt
  taken_if true unit = taken_said (talk_after unit.part) (work_after unit.part) unit.bytes

  pub all_taken : (units : List (ServedUnit AtLink Talk)) → AllByRecursion (IsTakenIn w (flat_map (taken_link w) units)) (flat_map (message_note w) units)
  all_taken [] = tt
  all_taken (unit ∷ units) =
      let one : List ℕ = taken_link w unit in
      let rest : List ℕ = flat_map (taken_link w) units in
      all_join (IsTakenIn w (one ++ rest)) (message_note w unit) (flat_map (message_note w) units)
      (all_weaker (IsTakenIn w one) (IsTakenIn w (one ++ rest)) (message_note w unit) (λ message its. (its.0, its.1, one_before (λ (link : ℕ). link ≡ w.link) one rest its.2))
      (taken_if (is_challenged unit.talk.phase) unit))
      (all_weaker (IsTakenIn w rest) (IsTakenIn w (one ++ rest)) (flat_map (message_note w) units) (λ message its. (its.0, its.1, one_behind (λ (link : ℕ). link ≡ w.link) one rest its.2))
      (all_taken units))

-- the challenges that are sent on a link are among those that are written down
pub sent_among : (member link : ℕ) (front sent : List ChallengeSent) → AllByRecursion (λ (one : ChallengeSent). (one.link ≡ link) × (one.member ≡ member)) sent →
    AllByRecursion (λ (one : ChallengeSent). OneOf (IsSentOn member link one.challenge) (front ++ sent)) sent
sent_among member link front [] all = tt
sent_among member link front (one ∷ sent) all = (
  one_behind (IsSentOn member link one.challenge) front (one ∷ sent) (inl (all.0.0, refl, all.0.1)),
  subst (λ (items : List ChallengeSent). AllByRecursion (λ (other : ChallengeSent). OneOf (IsSentOn member link other.challenge) items) sent) (append_assoc front (one ∷ []) sent)
      (sent_among member link (front ++ one ∷ []) sent all.1),
)

-- ---- an AUTHENTICATE that is taken keeps the challenge of its link

-- each message that is written down keeps the challenge of its link
abbrev KeepChallenge : List ℕ → List MessageTaken → Type 0
KeepChallenge challenge messages = AllByRecursion (λ (one : MessageTaken). one.logon.challenge ≡ challenge) messages

on_asks : (p : Phase) (w : LinkAt) (bytes challenge : List ℕ) (messages : List MessageTaken) (before after : AtLink) → TakesOn p w bytes challenge messages before after →
    KeepChallenge challenge messages
on_asks phase.Fresh w bytes challenge messages before after none = absurd none
on_asks (phase.Challenged bound other flags) w bytes challenge messages before after none = absurd none
on_asks (phase.Asked bound place held) w bytes challenge messages before after takes = subst (KeepChallenge challenge) (sym takes.1) (takes.2.challenge_is, tt)
on_asks (phase.In on) w bytes challenge messages before after none = absurd none
on_asks (phase.Out bound status) w bytes challenge messages before after takes = subst (KeepChallenge challenge) (sym takes.0) tt

takes_ask : (said : Option Talk) (w : LinkAt) (bytes challenge : List ℕ) (messages : List MessageTaken) (links : List ℕ) (before after : AtLink) →
    Takes said w bytes challenge messages links before after → KeepChallenge challenge messages
takes_ask None w bytes challenge messages links before after takes = subst (KeepChallenge challenge) (sym takes.0) tt
takes_ask (Some talk) w bytes challenge messages links before after takes = on_asks talk.phase w bytes challenge messages before after takes.1

-- ---- the units of a stream

-- `D` holds of the challenges that are written down of units
abbrev pub AreSent : LinkAt → (D : List ℕ → Type 0) → List (ServedUnit AtLink Talk) → Type 0
AreSent w D units = AllByRecursion (λ (sent : ChallengeSent). D sent.challenge) (flat_map (challenge_note w) units)

-- `D` holds of the challenges of the messages that are written down, and of the one that the link has then
abbrev pub AreFor : LinkAt → Type 0 → (D : List ℕ → Type 0) → List (ServedUnit AtLink Talk) → ServedPart AtLink Talk → Type 0
AreFor w F D units part = AllByRecursion (λ (one : MessageTaken). F × D one.logon.challenge) (flat_map (message_note w) units) × IfUnservedPart (IsKnown F D) part

module _ (w : LinkAt) (F : Type 0) (D : List ℕ → Type 0) where
  -- the challenge that the link has then was written down
  fresh_sent : {bytes : List ℕ} {joiner : Option RpcUnit} (at : AtLink) {left : List (List ℕ)} {part : ServedPart AtLink Talk} → UnitView bytes joiner at phase.Fresh left part → F →
      AllByRecursion (λ (sent : ChallengeSent). D sent.challenge) (challenge_after (talk_after part) w at left) → IfUnservedPart (IsKnown F D) part
  fresh_sent at (Serves (Closes cause may)) its sent = tt
  fresh_sent at (Naks call) its sent = its
  fresh_sent at Spends its sent = tt
  fresh_sent at (Challenges offer call receive contexts challenge taken) its sent = (its, sent.0)

  -- of one unit
  abbrev IsForUnit : Bool → Phase → List ℕ → Option RpcUnit → AtLink → List (List ℕ) → Type 0
  IsForUnit challenged p bytes joiner at left =
      AllByRecursion (λ (one : MessageTaken). F × D one.logon.challenge) (message_by challenged (unit_at (is_fresh p) p bytes joiner at left) w)
      × IfUnservedPart (IsKnown F D) (unit_by (is_fresh p) p bytes joiner at left)

  unit_for : (p : Phase) (bytes : List ℕ) (joiner : Option RpcUnit) (at : AtLink) (left : List (List ℕ)) → IfUnserved (IsKnown F D p) p →
      AllByRecursion (λ (sent : ChallengeSent). D sent.challenge) (challenge_by (is_fresh p) (unit_at (is_fresh p) p bytes joiner at left) w) →
      IsForUnit (is_challenged p) p bytes joiner at left
  unit_for phase.Fresh bytes joiner at left known sent = (tt, fresh_sent at (unit_view bytes joiner at phase.Fresh left) known sent)
  unit_for (phase.Challenged bound challenge flags) bytes joiner at left known sent =
      let served : Served = bound_unit (phase.Challenged bound challenge flags) bytes joiner at in (
        all_weaker (λ (one : MessageTaken). one.logon.challenge ≡ challenge) (λ (one : MessageTaken). F × D one.logon.challenge) (message_after served.1 (Some served.0) w bytes)
            (λ one is. (known.0, subst D (sym is) known.1)) (takes_ask served.1 w bytes challenge (message_after served.1 (Some served.0) w bytes) (taken_after served.1 w.link) at served.0
            (view_takes w bytes at (bound_view bytes joiner at (phase.Challenged bound challenge flags)))),
        none_so (IsKnown F D) served.1 (bound_serves (phase.Challenged bound challenge flags) bytes joiner at),
      )
  unit_for (phase.Asked bound place held) bytes joiner at left known sent = (tt, none_so (IsKnown F D) _ (bound_serves (phase.Asked bound place held) bytes joiner at))
  unit_for (phase.In on) bytes joiner at left known sent = (tt, none_so (IsKnown F D) _ (bound_serves (phase.In on) bytes joiner at))
  unit_for (phase.Out bound status) bytes joiner at left known sent = (tt, none_so (IsKnown F D) _ (bound_serves (phase.Out bound status) bytes joiner at))

  for_more : (done : List (ServedUnit AtLink Talk)) (bytes : List ℕ) (at : AtLink) (talk : Talk) (left : List (List ℕ)) →
      (AreSent w D done → AreFor w F D done (comes_to at (Some talk) left)) → AreSent w D (done ++ unit_served link_server bytes at talk left ∷ []) →
      AreFor w F D (done ++ unit_served link_server bytes at talk left ∷ []) (link_server.unit bytes at talk left)
  for_more done bytes at talk left before sent =
      let one : ServedUnit AtLink Talk = unit_served link_server bytes at talk left in
      let parts = all_parts (λ (one : ChallengeSent). D one.challenge) (flat_map (challenge_note w) done) (challenge_note w one)
      (subst (λ (all : List ChallengeSent). AllByRecursion (λ (one : ChallengeSent). D one.challenge) all) (sym (flat_map_more (challenge_note w) [] done one)) sent) in
      let known = before parts.0 in
      let own = unit_for talk.phase bytes talk.joiner at left known.1 parts.1 in (
        subst (λ (all : List MessageTaken). AllByRecursion (λ (one : MessageTaken). F × D one.logon.challenge) all) (flat_map_more (message_note w) [] done one)
            (all_join (λ (one : MessageTaken). F × D one.logon.challenge) (flat_map (message_note w) done) (message_note w one) known.0 own.0),
        own.1,
      )

  units_for : (cut : Cut) (at : AtLink) (talk : Talk) (left : List (List ℕ)) → IfUnserved (IsKnown F D talk.phase) talk.phase →
      AreSent w D (served_units link_server cut.units at talk left) →
      AreFor w F D (served_units link_server cut.units at talk left) (served_cut link_server cut at talk left)
  units_for cut at talk left known =
      served_beside link_server (λ done part. AreSent w D done → AreFor w F D done part)
      (record { unit = for_more; refusal = λ done why at talk left before sent. ((before sent).0, tt) }) cut at talk left (λ sent. (tt, known))

-- ---- a link has one CHALLENGE

-- a link whose challenge has served is bound
pub served_bound : (p : Phase) → IfUnserved ⊥ p → is_fresh p ≡ false
served_bound phase.Fresh known = absurd known
served_bound (phase.Challenged bound challenge flags) known = absurd known
served_bound (phase.Asked bound place held) known = refl
served_bound (phase.In on) known = refl
served_bound (phase.Out bound status) known = refl

-- the link is closed, or something is bound on it
abbrev pub IsBound : Option Talk → Type 0
IsBound None = Unit {0}
IsBound (Some talk) = is_fresh talk.phase ≡ false

said_bound : (said : Option Talk) → HasServed said → IsBound said
said_bound None known = tt
said_bound (Some talk) known = served_bound talk.phase known

-- one, or none
abbrev pub AtMostOne : List ChallengeSent → Type 0
AtMostOne [] = Unit {0}
AtMostOne (one ∷ []) = Unit {0}
AtMostOne (one ∷ other ∷ more) = ⊥

abbrev pub IsBoundPart : ServedPart AtLink Talk → Type 0
IsBoundPart (Err why) = Unit {0}
IsBoundPart (Ok part) = IsBound part.value.1

-- behind one something is bound
abbrev pub SendsOne : List ChallengeSent → ServedPart AtLink Talk → Type 0
SendsOne [] part = Unit {0}
SendsOne (one ∷ []) part = IsBoundPart part
SendsOne (one ∷ other ∷ more) part = ⊥

one_sent : (sent : List ChallengeSent) (part : ServedPart AtLink Talk) → SendsOne sent part → AtMostOne sent
one_sent [] part sends = tt
one_sent (one ∷ []) part sends = tt
one_sent (one ∷ other ∷ more) part sends = sends

module _ (w : LinkAt) where
  fresh_one : {bytes : List ℕ} {joiner : Option RpcUnit} (at : AtLink) {left : List (List ℕ)} {part : ServedPart AtLink Talk} → UnitView bytes joiner at phase.Fresh left part →
      SendsOne (challenge_after (talk_after part) w at left) part
  fresh_one at (Serves (Closes cause may)) = tt
  fresh_one at (Naks call) = tt
  fresh_one at Spends = tt
  fresh_one at (Challenges offer call receive contexts challenge taken) = refl

  unit_one : (fresh : Bool) (p : Phase) (bytes : List ℕ) (joiner : Option RpcUnit) (at : AtLink) (left : List (List ℕ)) →
      SendsOne (challenge_by fresh (unit_at fresh p bytes joiner at left) w) (unit_by fresh p bytes joiner at left)
  unit_one false p bytes joiner at left = tt
  unit_one true p bytes joiner at left = fresh_one at (unit_view bytes joiner at phase.Fresh left)

  -- where something is bound, none
  bound_one : (fresh : Bool) (one : ChallengeSent) (p : Phase) (bytes : List ℕ) (joiner : Option RpcUnit) (at : AtLink) (left : List (List ℕ)) → fresh ≡ false →
      SendsOne (one ∷ challenge_by fresh (unit_at fresh p bytes joiner at left) w) (unit_by fresh p bytes joiner at left)
  bound_one false one p bytes joiner at left bound = said_bound (bound_unit p bytes joiner at).1 (bound_serves p bytes joiner at)
  bound_one true one p bytes joiner at left bound = absurd cc

  more_one : (sent : List ChallengeSent) (bytes : List ℕ) (at : AtLink) (talk : Talk) (left : List (List ℕ)) → SendsOne sent (comes_to at (Some talk) left) →
      SendsOne (sent ++ challenge_note w (unit_served link_server bytes at talk left)) (link_server.unit bytes at talk left)
  more_one [] bytes at talk left sends = unit_one (is_fresh talk.phase) talk.phase bytes talk.joiner at left
  more_one (one ∷ []) bytes at talk left bound = bound_one (is_fresh talk.phase) one talk.phase bytes talk.joiner at left bound
  more_one (one ∷ other ∷ more) bytes at talk left none = absurd none

  shut_one : (sent : List ChallengeSent) (at after : AtLink) (talk : Talk) (left : List (List ℕ)) → SendsOne sent (comes_to at (Some talk) left) → SendsOne sent (comes_to after None left)
  shut_one [] at after talk left sends = tt
  shut_one (one ∷ []) at after talk left bound = tt
  shut_one (one ∷ other ∷ more) at after talk left none = none

  units_one : (cut : Cut) (at : AtLink) (talk : Talk) (left : List (List ℕ)) → AtMostOne (flat_map (challenge_note w) (served_units link_server cut.units at talk left))
  units_one cut at talk left =
      one_sent (flat_map (challenge_note w) (served_units link_server cut.units at talk left)) (served_cut link_server cut at talk left)
      (served_noted link_server (challenge_note w) SendsOne (record {
        unit = more_one;
        refusal = λ sent why at talk left sends. shut_one sent at _ talk left sends;
      }) cut at talk left tt)

-- ---- which draw gave a challenge

-- the draw of that number gave it
abbrev pub IsDrawn : List (List ℕ) → ChallengeSent → Type 0
IsDrawn drawn sent = slice_get drawn sent.draw ≡ Some sent.challenge

-- the draws gave them: those that were drawn before a step, and those that were left then and aren't left after it
abbrev pub WereDrawn : List (List ℕ) → List (List ℕ) → List (List ℕ) → List ChallengeSent → Type 0
WereDrawn drawn all last sent = AllByRecursion (IsDrawn (drawn ++ draws_between all last)) sent

module _ (w : LinkAt) (drawn all last : List (List ℕ)) (drew : w.drawn ≡ length drawn) (had : w.left ≡ length all) where
  draw_found : (challenge : List ℕ) (left rest : List (List ℕ)) → left ≡ challenge ∷ rest → IsRest left all → IsRest last rest →
      slice_get (drawn ++ draws_between all last) (next_draw w left) ≡ Some challenge
  draw_found challenge left rest first before after =
      let front : List (List ℕ) = before.front in
      let more : List (List ℕ) = challenge ∷ after.front in
      let is : all ≡ (front ++ more) ++ last =
      sym before.is ∙ ap (λ (l : List (List ℕ)). front ++ l) (first ∙ ap (λ (r : List (List ℕ)). challenge ∷ r) (sym after.is)) ∙ sym (append_assoc front more last) in
      let number : next_draw w left ≡ length (drawn ++ front) =
      omega (arith, drew, had, ap (λ (l : List (List ℕ)). length l) before.is, length-append front left, length-append drawn front) in
      ap (λ (draws : List (List ℕ)). slice_get (drawn ++ draws) (next_draw w left)) (sym (between_front (front ++ more) last all is))
      ∙ ap (λ (l : List (List ℕ)). slice_get l (next_draw w left)) (sym (append_assoc drawn front more))
      ∙ ap (λ (n : ℕ). slice_get ((drawn ++ front) ++ more) n) number
      ∙ got_behind (drawn ++ front) challenge after.front

  fresh_drawn : {bytes : List ℕ} {joiner : Option RpcUnit} (at : AtLink) {left : List (List ℕ)} {part : ServedPart AtLink Talk} → UnitView bytes joiner at phase.Fresh left part →
      IsRest left all → IsRest last (left_by part) → WereDrawn drawn all last (challenge_after (talk_after part) w at left)
  fresh_drawn at (Serves (Closes cause may)) before after = tt
  fresh_drawn at (Naks call) before after = tt
  fresh_drawn at Spends before after = tt
  fresh_drawn at (Challenges {left = left} offer call receive contexts challenge taken) before after = (draw_found challenge (challenge ∷ left) left refl before after, tt)

  own_drawn : (fresh : Bool) (p : Phase) (bytes : List ℕ) (joiner : Option RpcUnit) (at : AtLink) (left : List (List ℕ)) → IsRest left all →
      IsRest last (left_by (unit_by fresh p bytes joiner at left)) → WereDrawn drawn all last (challenge_by fresh (unit_at fresh p bytes joiner at left) w)
  own_drawn false p bytes joiner at left before after = tt
  own_drawn true p bytes joiner at left before after = fresh_drawn at (unit_view bytes joiner at phase.Fresh left) before after

-- whatever is left at the end
abbrev pub DrawnSoFar : List (List ℕ) → List (List ℕ) → List ChallengeSent → ServedPart AtLink Talk → Type 0
DrawnSoFar drawn all sent part = IsRest (left_by part) all × ((last : List (List ℕ)) → IsRest last (left_by part) → WereDrawn drawn all last sent)

units_drawn : (w : LinkAt) (drawn all : List (List ℕ)) → w.drawn ≡ length drawn → w.left ≡ length all → (cut : Cut) (at : AtLink) (talk : Talk) →
    DrawnSoFar drawn all (flat_map (challenge_note w) (served_units link_server cut.units at talk all)) (served_cut link_server cut at talk all)
units_drawn w drawn all drew had cut at talk =
    served_noted link_server (challenge_note w) (DrawnSoFar drawn all) (record {
      unit = λ sent bytes at talk left before.
          let part : ServedPart AtLink Talk = link_server.unit bytes at talk left in
          let fewer : IsRest (left_by part) left = link_leaves.unit bytes at talk left in (
            IsRest-trans (left_by part) left all fewer before.0,
            λ last after.
                all_join (IsDrawn (drawn ++ draws_between all last)) sent (challenge_note w (unit_served link_server bytes at talk left))
                (before.1 last (IsRest-trans last (left_by part) left after fewer))
                (own_drawn w drawn all last drew had (is_fresh talk.phase) talk.phase bytes talk.joiner at left before.0 after),
          );
      refusal = λ sent why at talk left before. before;
    }) cut at talk all (IsRest-refl all, λ last after. tt)

-- ---- bytes at a member

-- what bytes come to: the challenges that were sent, with those that were written down before, are those of the
-- messages and of the links
abbrev pub IsServedOwn : List ChallengeSent → List Route → LinkAt → List (ServedUnit AtLink Talk) → Type 0 → Type 0
IsServedOwn challenges links w units After =
    AreSent w (λ (challenge : List ℕ). OneOf (IsSentOn w.member w.link challenge) challenges) units →
    AllByRecursion (λ (one : MessageTaken). IsLinkIn links w.link w.member × OneOf (IsSentOn w.member w.link one.logon.challenge) challenges) (flat_map (message_note w) units)
    × After

module _ (challenges : List ChallengeSent) (links : List Route) (w : LinkAt) (piece : List ℕ) (now : ℕ) (left : List (List ℕ)) where
  abbrev Own : ℕ → Phase → Type 0
  Own = IsOwn challenges links w.member

  abbrev ServesOwn : List (ServedUnit AtLink Talk) → WorkFact
  ServesOwn units how work rest = IsServedOwn challenges links w units (Unserved Own work.links)

  pub bytes_own : (m : MemberState) → LinksIn Own m.running →
      IsServedOwn challenges links w (link_units m w.link piece now left) (LinksIn Own (step_of m (event.Bytes w.link piece) now left).state.running)
  bytes_own m all =
      bytes_hear w.link piece now left m ServesOwn (λ units stepped. IsServedOwn challenges links w units (LinksIn Own stepped.state.running)) (record {
        stopped = λ sent. (tt, all);
        spent = λ sent. (tt, tt);
        nowhere = λ running runs sent. (tt, subst (LinksIn Own) runs all);
        on_link = λ running link how runs is there.
            let cut : Cut = cut_stream (link.rest ++ piece) in
            let at : AtLink = at_link w.link (work_of running) in
            let known : Unserved Own running.links = subst (LinksIn Own) runs all in
            let alone : Work = without_link w.link (work_of running) in
            units_then (ServesOwn (served_units link_server cut.units at link.talk left)) (served_cut link_server cut at link.talk left) cut.rest w.link how alone (λ after said rest comes sent.
            let own = units_for w (IsLinkIn links w.link w.member) (λ (challenge : List ℕ). OneOf (IsSentOn w.member w.link challenge) challenges) cut at link.talk left
            (found_known Own w.link running.links link there known) sent in (
              own.0,
              kept_known Own said cut.rest w.link after alone (subst (IfUnservedPart (Own w.link)) comes own.1) (fewer_known Own w.link running.links known),
            ));
        on_turn = λ running said runs is.
            part_so (WorkLinks Own) (ServesOwn []) (serve_dialled (cut_stream (said.rest ++ piece)) w.link said.talk (work_of running) left) (λ how work rest known sent. (tt, known))
            (dialled_known Own (cut_stream (said.rest ++ piece)) w.link said.talk (work_of running) left (subst (LinksIn Own) runs all));
        next = λ units. record { still = λ how work rest can own. own; starts = λ turn frames challenge how work before after can drawn is own. own };
      })

module _ (w : LinkAt) (piece : List ℕ) (now : ℕ) (left : List (List ℕ)) where
  abbrev HasOne : List (ServedUnit AtLink Talk) → Type 0
  HasOne units = AtMostOne (flat_map (challenge_note w) units)

  pub bytes_one : (m : MemberState) → HasOne (link_units m w.link piece now left)
  bytes_one m =
      bytes_hear w.link piece now left m (λ units how work rest. HasOne units) (λ units stepped. HasOne units) (record {
        stopped = tt;
        spent = tt;
        nowhere = λ running runs. tt;
        on_link = λ running link how runs is there.
            let cut : Cut = cut_stream (link.rest ++ piece) in
            let at : AtLink = at_link w.link (work_of running) in
            part_each (λ other work rest. HasOne (served_units link_server cut.units at link.talk left)) (serve_alone cut w.link link.talk how (without_link w.link (work_of running)) left)
            (λ other work rest. units_one w cut at link.talk left);
        on_turn = λ running said runs is.
            part_each (λ how work rest. HasOne []) (serve_dialled (cut_stream (said.rest ++ piece)) w.link said.talk (work_of running) left) (λ how work rest. tt);
        next = λ units. record { still = λ how work rest can one. one; starts = λ turn frames challenge how work before after can drawn is one. one };
      })

-- the challenges that are written down of units are among those that were drawn before or are not left then
abbrev pub AreDrawn : List (List ℕ) → List (List ℕ) → LinkAt → List (ServedUnit AtLink Talk) → WorkFact
AreDrawn drawn all w units how work rest =
    (last : List (List ℕ)) → IsRest last rest → AllByRecursion (IsDrawn (drawn ++ draws_between all last)) (flat_map (challenge_note w) units)

module _ (drawn left : List (List ℕ)) (w : LinkAt) (drew : w.drawn ≡ length drawn) (had : w.left ≡ length left) (piece : List ℕ) (now : ℕ) where
  pub bytes_drawn : (m : MemberState) →
      AllByRecursion (IsDrawn (drawn ++ (step_of m (event.Bytes w.link piece) now left).drawn)) (flat_map (challenge_note w) (link_units m w.link piece now left))
  bytes_drawn m =
      bytes_hear w.link piece now left m (AreDrawn drawn left w) (λ units stepped. AllByRecursion (IsDrawn (drawn ++ stepped.drawn)) (flat_map (challenge_note w) units)) (record {
        stopped = tt;
        spent = tt;
        nowhere = λ running runs last after. tt;
        on_link = λ running link how runs is there.
            let cut : Cut = cut_stream (link.rest ++ piece) in
            let at : AtLink = at_link w.link (work_of running) in
            units_then (AreDrawn drawn left w (served_units link_server cut.units at link.talk left)) (served_cut link_server cut at link.talk left) cut.rest w.link how
            (without_link w.link (work_of running)) (λ after said rest comes last rests.
            (units_drawn w drawn left drew had cut at link.talk).1 last
            (subst (λ (part : ServedPart AtLink Talk). IsRest last (left_by part)) (sym comes) rests));
        on_turn = λ running said runs is.
            part_each (AreDrawn drawn left w []) (serve_dialled (cut_stream (said.rest ++ piece)) w.link said.talk (work_of running) left) (λ how work rest last after. tt);
        next = λ units. record {
          still = λ how work rest can all. all rest (IsRest-refl rest);
          starts = λ turn frames challenge how work before after can drawn is all. all after (drawn_rest (needs_challenge work.logons.channel.standing) challenge before after drawn);
        };
      })
