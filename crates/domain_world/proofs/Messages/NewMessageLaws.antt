-- The messages that are written down where bytes come at a member came on a link that it accepted.
-- It serves `runs_stand_so`.
use Rattle.std.proofs.Common.{◌≡◌, ℕ, Bool, true, false, List, [], ◌∷◌, ◌++◌, Option, Some, None, refl, sym, ap, subst, ◌∙◌}
use Rattle.std.specs.Prelude.{flat_map}
use Rattle.std.specs.List.{AllByRecursion}
use Rattle.wire_base.specs.Maps.{lookup, same_number}
use Rattle.end_links.specs.Serving.{ServedUnit}
use Rattle.member_server.specs.Laws.{is_past}
use Rattle.member_server.specs.State.{State as MemberState}
use Rattle.member_server.specs.declared.state.AtLink.{AtLink}
use Rattle.member_server.specs.declared.state.Logon.{Logon}
use Rattle.member_server.specs.declared.state.Phase.{Phase}
use Rattle.member_server.specs.declared.state.Phase.TheVariants as phase
use Rattle.member_server.specs.declared.state.Talk.{Talk}
use Rattle.step_notes.specs.MemberNotes.{LinkAt, is_challenged, link_units, message_after, message_at, message_by, message_kept, message_note, link_if, taken_after, taken_by, taken_link}
use Rattle.step_notes.specs.Records.{MessageTaken}
use Rattle.step_notes.specs.Served.{talk_after, work_after}
use Rattle.step_notes.proofs.Members.UnservedLaws.{LinksIn, Took, bytes_took}
use Rattle.world_moves.specs.declared.links.Route.{Route}
use Rattle.domain_world.proofs.Acceptance.LetInStepLaws.{IsAcceptedBy}
use Rattle.domain_world.proofs.Calls.WholeOutLaws.{AreAccepted}
use Rattle.wire_base.proofs.AllLaws.{all_flat}

-- what holds of both parts holds of all
module _ (P : MessageTaken → Type 0) (w : LinkAt) (here : (bytes : List ℕ) (place : ℕ) (logon : Logon) → AllByRecursion P (message_kept (Some logon) place w bytes)) where
  kept_all : (found : Option Logon) (place : ℕ) (bytes : List ℕ) → AllByRecursion P (message_kept found place w bytes)
  kept_all None place bytes = tt
  kept_all (Some logon) place bytes = here bytes place logon

  at_all : (p : Phase) (after : Option AtLink) (bytes : List ℕ) → AllByRecursion P (message_at p after w bytes)
  at_all (phase.Asked bound place held) (Some after) bytes = kept_all (lookup same_number place after.logons.asked) place bytes
  at_all (phase.Asked bound place held) None bytes = tt
  at_all phase.Fresh after bytes = tt
  at_all (phase.Challenged bound challenge flags) after bytes = tt
  at_all (phase.In on) after bytes = tt
  at_all (phase.Out bound status) after bytes = tt

  after_all : (said : Option Talk) (after : Option AtLink) (bytes : List ℕ) → AllByRecursion P (message_after said after w bytes)
  after_all None after bytes = tt
  after_all (Some talk) after bytes = at_all talk.phase after bytes

  by_all : (challenged : Bool) (unit : ServedUnit AtLink Talk) → AllByRecursion P (message_by challenged unit w)
  by_all false unit = tt
  by_all true unit = after_all (talk_after unit.part) (work_after unit.part) unit.bytes

  units_all : (units : List (ServedUnit AtLink Talk)) → AllByRecursion P (flat_map (message_note w) units)
  units_all units = all_flat P (message_note w) (λ unit. by_all (is_challenged unit.talk.phase) unit) units

-- ---- where no message was taken, none is written down

at_none : (p : Phase) (after : Option AtLink) (w : LinkAt) (bytes : List ℕ) → taken_after (Some (record { joiner = None; phase = p })) w.link ≡ [] → message_at p after w bytes ≡ []
at_none phase.Fresh after w bytes none = refl
at_none (phase.Challenged bound challenge flags) after w bytes none = refl
at_none (phase.Asked bound place held) after w bytes none = let x = none in cc
at_none (phase.In on) after w bytes none = refl
at_none (phase.Out bound status) after w bytes none = refl

after_none : (said : Option Talk) (after : Option AtLink) (w : LinkAt) (bytes : List ℕ) → taken_after said w.link ≡ [] → message_after said after w bytes ≡ []
after_none None after w bytes none = refl
after_none (Some talk) after w bytes none = at_none talk.phase after w bytes none

by_none : (challenged : Bool) (unit : ServedUnit AtLink Talk) (w : LinkAt) → taken_by challenged (talk_after unit.part) w.link ≡ [] → message_by challenged unit w ≡ []
by_none false unit w none = refl
by_none true unit w none = after_none (talk_after unit.part) (work_after unit.part) w unit.bytes none

front_none : {T : Type 0} (items more : List T) → items ++ more ≡ [] → items ≡ []
front_none [] more is = refl
front_none (item ∷ items) more is = let x = is in cc

units_none : (w : LinkAt) (units : List (ServedUnit AtLink Talk)) → flat_map (taken_link w) units ≡ [] → flat_map (message_note w) units ≡ []
units_none w [] none = refl
units_none w (unit ∷ units) none =
    let first : taken_link w unit ≡ [] = front_none (taken_link w unit) (flat_map (taken_link w) units) none in
    let rest : flat_map (taken_link w) units ≡ [] = ap (λ (links : List ℕ). links ++ flat_map (taken_link w) units) (sym first) ∙ none in
    ap (λ (messages : List MessageTaken). messages ++ flat_map (message_note w) units) (by_none (is_challenged unit.talk.phase) unit w first) ∙ units_none w units rest

-- ---- each that is taken is on that link

if_here : (is_taken : Bool) (link : ℕ) → AllByRecursion (λ (one : ℕ). one ≡ link) (link_if is_taken link)
if_here false link = tt
if_here true link = (refl, tt)

after_here : (said : Option Talk) (link : ℕ) → AllByRecursion (λ (one : ℕ). one ≡ link) (taken_after said link)
after_here None link = tt
after_here (Some talk) link = if_here (is_past talk.phase) link

by_here : (challenged : Bool) (said : Option Talk) (link : ℕ) → AllByRecursion (λ (one : ℕ). one ≡ link) (taken_by challenged said link)
by_here false said link = tt
by_here true said link = after_here said link

taken_here : (w : LinkAt) (units : List (ServedUnit AtLink Talk)) → AllByRecursion (λ (one : ℕ). one ≡ w.link) (flat_map (taken_link w) units)
taken_here w units = all_flat (λ (one : ℕ). one ≡ w.link) (taken_link w) (λ unit. by_here (is_challenged unit.talk.phase) (talk_after unit.part) w.link) units

took_accepted : (links : List Route) (w : LinkAt) (taken : List ℕ) (new : List MessageTaken) (After : (ℕ → Type 0) → Type 0) → AllByRecursion (λ (one : ℕ). one ≡ w.link) taken →
    (taken ≡ [] → new ≡ []) → (IsAcceptedBy links w.member w.link → AreAccepted links new) → Took (λ number. IsAcceptedBy links w.member number) taken After → AreAccepted links new
took_accepted links w [] new After here none all took = subst (λ (messages : List MessageTaken). AreAccepted links messages) (sym (none refl)) tt
took_accepted links w (one ∷ []) new After here none all took = all (subst (λ (link : ℕ). IsAcceptedBy links w.member link) here.0 took.0)
took_accepted links w (one ∷ other ∷ more) new After here none all took = absurd took

-- of all that are written down at a step
pub new_accepted : (links : List Route) (w : LinkAt) (m : MemberState) (piece : List ℕ) (now : ℕ) (left : List (List ℕ)) → LinksIn (λ number p. IsAcceptedBy links w.member number) m.running →
    AreAccepted links (flat_map (message_note w) (link_units m w.link piece now left))
new_accepted links w m piece now left accepts =
    let units : List (ServedUnit AtLink Talk) = link_units m w.link piece now left in
    took_accepted links w (flat_map (taken_link w) units) (flat_map (message_note w) units) _ (taken_here w units) (units_none w units)
    (λ accepted. units_all (λ (message : MessageTaken). IsAcceptedBy links message.member message.link) w (λ bytes place logon. (accepted, tt)) units)
    (bytes_took (λ number. IsAcceptedBy links w.member number) w m piece now left accepts)
