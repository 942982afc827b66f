-- That each logon that a member keeps is written down, and each CHALLENGE whose answer it waits for (MS-NLMP 3.2.5.1.1,
-- 3.2.5.1.2); of steps `LeftOut` speaks. That what is written down of clients is of the client that made it, and that a
-- key which a client keeps is that of a message that is written down (3.1.5.1.2). What the claims say is this project's
-- own choice.
use Rattle.std.specs.Prelude.{ℕ, ◌≡◌, ◌<◌, List, Some, slice_get}
use Rattle.std.specs.List.{AllByRecursion}
use Rattle.wire_base.specs.Maps.{lookup, same_number}
use Rattle.end_links.specs.Links.{LinkState}
use Rattle.logon_client.specs.State.{State as ClientState}
use Rattle.logon_client.specs.declared.outcome.ClientOutcome.TheVariants.{In}
use Rattle.logon_client.specs.declared.state.ClientLink.TheVariants.{On}
use Rattle.logon_client.specs.declared.state.Phase.TheVariants.{Asked}
use Rattle.logon_client.specs.declared.state.Question.{Question}
use Rattle.logon_client.specs.declared.state.Running.{Running as ClientRunning}
use Rattle.logon_client.specs.declared.state.Talk.{Talk as ClientTalk}
use Rattle.logon_client.specs.declared.state.Terms.{Terms}
use Rattle.member_server.specs.State.{State as MemberState}
use Rattle.member_server.specs.declared.state.Bound.{Bound}
use Rattle.member_server.specs.declared.state.Logon.{Logon}
use Rattle.member_server.specs.declared.state.Phase.TheVariants as phase
use Rattle.member_server.specs.declared.state.Running.{Running}
use Rattle.member_server.specs.declared.state.Talk.{Talk}
use Rattle.wire_base.specs.Lists.{OneOf}
use Rattle.step_notes.specs.Records.{ChallengeSent, MessageMade, MessageTaken}
use Rattle.world_moves.specs.declared.links.Route.TheVariants.{ToMember}
use Rattle.domain_world.specs.Past.{Past}

-- the member took the message at an earlier move, and keeps this logon of it under that place
pub record IsMessageOf (run : Past) (member place : ℕ) (logon : Logon) (message : MessageTaken) : Type 0 where
  pub same_member : message.member ≡ member
  pub same_place : message.place ≡ place
  pub same_logon : message.logon ≡ logon
  pub link : message.link ≡ logon.link
  pub before : message.at < run.world.moves

-- a CHALLENGE that this member sent on that link, with that challenge
abbrev pub IsChallengeOf : ℕ → ℕ → List ℕ → ChallengeSent → Type 0
IsChallengeOf member link challenge sent = (sent.link ≡ link) × (sent.challenge ≡ challenge) × (sent.member ≡ member)

-- After every run each logon that a member keeps is that of an AUTHENTICATE that is written down as taken, and each
-- link on which a member waits for an AUTHENTICATE has its CHALLENGE written down as sent by it.
pub record MembersAreWrittenDown (run : Past) : Type 0 where
  pub logons : (member : ℕ) (m : MemberState) (running : Running) (place : ℕ) (logon : Logon) → slice_get run.world.state.ends.members member ≡ Some m → m.running ≡ Some running →
      lookup same_number place running.logons.asked ≡ Some logon → OneOf (IsMessageOf run member place logon) run.book.messages
  pub challenges : (member : ℕ) (m : MemberState) (running : Running) (number : ℕ) (link : LinkState Talk) (bound : Bound) (challenge : List ℕ) (flags : ℕ) →
      slice_get run.world.state.ends.members member ≡ Some m → m.running ≡ Some running → lookup same_number number running.links ≡ Some link →
      link.talk.phase ≡ phase.Challenged bound challenge flags → OneOf (IsChallengeOf member number challenge) run.book.challenges

-- the plan is that of the client, and the link is one that this client dialled to a member
pub record IsOfItsClient (run : Past) (made : MessageMade) : Type 0 where
  pub plan : slice_get run.plan.clients made.client ≡ Some made.plan
  pub server : ℕ
  pub link : slice_get run.world.state.links made.link ≡ Some (ToMember made.client server)

-- After every run each AUTHENTICATE that is written down as made is of its client.
abbrev pub MessagesAreOfTheirClients : Past → Type 0
MessagesAreOfTheirClients run = AllByRecursion (IsOfItsClient run) run.book.made

-- the client made it, and that is its exported session key
abbrev pub IsMadeWith : ℕ → List ℕ → MessageMade → Type 0
IsMadeWith client key made = (made.client ≡ client) × (made.key ≡ key)

-- the client made it on that link, and that is its exported session key
abbrev pub IsMadeOn : ℕ → ℕ → List ℕ → MessageMade → Type 0
IsMadeOn client link key made = (made.client ≡ client) × (made.key ≡ key) × (made.link ≡ link)

-- After every run the key that a client keeps on its link is that of an AUTHENTICATE which is written down as made by
-- it on that link; and so is the key that it is in with, of one that it made on any link.
pub record ClientsAreWrittenDown (run : Past) : Type 0 where
  pub keys : (client : ℕ) (c : ClientState) (running : ClientRunning) (link : LinkState ClientTalk) (terms : Terms) (question : Question) →
      slice_get run.world.state.ends.clients client ≡ Some c → c.running ≡ Some running → running.standing ≡ On link → link.talk.phase ≡ Asked terms question →
      OneOf (IsMadeOn client link.talk.link terms.key) run.book.made
  pub outcomes : (client : ℕ) (c : ClientState) (name key : List ℕ) (echoed : ℕ) → slice_get run.world.state.ends.clients client ≡ Some c →
      c.outcome ≡ Some (In name key echoed) → OneOf (IsMadeWith client key) run.book.made
