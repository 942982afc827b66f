-- What is claimed of the runs of a world: of a logon through a member server and its domain controller (MS-NLMP
-- 3.2.5.1.2, MS-NRPC 3.1.4.5, 3.5.4.5.3). What a claim says is this project's own choice, in the standards' terms. Of
-- which runs each is claimed, `Headline` says.
--
-- A member server accepts an AUTHENTICATE exactly where it took its controller's answer, the account may log on, and
-- the response is the written function of the account's stored hash and of that link's unused challenge; client and
-- member then hold one session key; and the controller passes a call, or hands it on, exactly where its authenticator
-- is the channel's next one.
pub mod AcceptedOpenings
pub mod AskedFor
pub mod ChannelKinds
pub mod Completeness
pub mod Counts
pub mod Grants
pub mod Hashes
pub mod LeftOut
pub mod LetIn
pub mod MarkedUnits
pub mod NamedLinks
pub mod Names
pub mod NeverApart
pub mod OneByOne
pub mod OpeningReplies
pub mod Openings
pub mod OrderedSteps
pub mod OwnChallenges
pub mod Replies
pub mod RequestNumbers
pub mod Sessions
pub mod SharedSequences
pub mod Statuses
pub mod Tables
pub mod TrustReplies
pub mod WrittenDown
use Rattle.std.specs.Prelude.{ℕ, ◌≡◌, ◌≢◌, ◌≤◌, ◌+◌, ◌%◌, ◌^◌, ◌==◌, ◌&&◌, ◌↔◌, Bool, true, false, List, [], ◌∷◌, ◌++◌, length, replicate, count_by, filter, find, Option, Some, None, slice_get, AllPairs}
use Rattle.std.specs.List.{AllByRecursion}
use Rattle.rc4_stream.specs.Rc4.{applied}
use Rattle.authenticators.specs.Channels.{ChannelIdentity, channel_key}
use Rattle.outside.specs.declared.action.Judged.{Judged}
use Rattle.outside.specs.declared.action.Outcome.{Outcome}
use Rattle.outside.specs.declared.action.Outcome.TheVariants as outcome
use Rattle.ntlm_responses.specs.Responses.{challenge_for_of}
use Rattle.logon_stubs.specs.declared.info.NetworkInfo.{NetworkInfo}
use Rattle.sam_logon.specs.MayLogOn.{MayLogOn, ResponseVerifies}
use Rattle.domain_controller.specs.Laws.{judges_call}
use Rattle.domain_controller.specs.State.{State as ControllerState}
use Rattle.domain_controller.specs.TrustLaws.{answers_judged, is_forwarded}
use Rattle.domain_controller.specs.TrustOrder.{count_if}
use Rattle.member_server.specs.Messages.{info_of}
use Rattle.member_server.specs.declared.plan.MemberPlan.{MemberPlan}
use Rattle.wire_base.specs.Lists.{OneOf}
use Rattle.step_notes.specs.ControllerNotes.{channel_in, has_passed}
use Rattle.step_notes.specs.Judged.{IsJudgedRight, base_key_asked, passed_channel, stored_hash}
use Rattle.step_notes.specs.Marking.{is_channel}
use Rattle.step_notes.specs.Records.{Book, ChallengeSent, JudgementTold, Judging, MessageMade, MessageTaken, OutcomeTold, computer_named, given_in, timestamp_in, unit_in}
use Rattle.world_moves.specs.declared.links.EndId.TheVariants.{Controller, Member}
use Rattle.world_moves.specs.declared.links.Route.{Route}
use Rattle.world_moves.specs.Counting.{is_in}
use Rattle.world_moves.specs.Draws.{DrawsDiffer}
use Rattle.world_moves.specs.Ends.{EndStates}
use Rattle.world_moves.specs.Links.{acceptor_of}
use Rattle.world_moves.specs.Moving.{end_of_peer}
use Rattle.domain_world.specs.Past.{Past}

-- ---- authenticators that pass

abbrev pub passed_on : ChannelIdentity → Judging → Bool
passed_on channel j = is_channel (passed_channel j) channel

abbrev pub judged_timestamp : Judging → ℕ
judged_timestamp j = timestamp_in (given_in j.asked)

-- how far the timestamps that passed on a channel moved its seed: the sum of each plus one
abbrev pub moved_if : Bool → ℕ → ℕ → ℕ
moved_if false timestamp moved = moved
moved_if true timestamp moved = timestamp + 1 + moved

abbrev pub moved_on : ChannelIdentity → List Judging → ℕ
moved_on channel [] = 0
moved_on channel (j ∷ js) = moved_if (passed_on channel j) (judged_timestamp j) (moved_on channel js)

-- Wrap: two authenticators passed on one channel at its controller, and the timestamps from the first up to but without
-- the second move the seed by a multiple of 2^32, so that the second met the seed that the first had met.
pub record Wraps (judgings : List Judging) : Type 0 where
  pub channel : ChannelIdentity
  pub later : List Judging
  pub second : Judging
  pub between : List Judging
  pub first : Judging
  pub earlier : List Judging
  pub all : judgings ≡ later ++ second ∷ (between ++ first ∷ earlier)
  pub first_passed : passed_on channel first ≡ true
  pub second_passed : passed_on channel second ≡ true
  pub around : moved_on channel (between ++ first ∷ []) % 2 ^ 32 ≡ 0

-- the run is one of which the claims on answers speak: no credential passed on a unit that was made for another
-- channel or for none, and no seed came round
pub record IsClear (book : Book) : Type 0 where
  pub apart : book.clash ≡ false
  pub onward : Wraps book.judged → ⊥

-- ---- the answer that a member took

abbrev pub same_unit : Option ℕ → Option ℕ → Bool
same_unit None other = false
same_unit (Some one) None = false
same_unit (Some one) (Some other) = one == other

-- The call passed at this step, came in the unit that carries the Logon call which the member made for the place of the
-- message, and was answered by the unit that the member took in the turn of that place.
abbrev pub answers : MessageTaken → Judging → Bool
answers message j = has_passed j.how && same_unit message.call (unit_in j.source) && same_unit message.reply j.reply

-- the step that gave the answer which a member took for a message, where it took one
abbrev pub taken_answer : MessageTaken → List Judging → Option Judging
taken_answer message judgings = find (answers message) judgings

abbrev pub message_on : ℕ → List MessageTaken → Option MessageTaken
message_on link messages = find (λ (one : MessageTaken). one.link == link) messages

abbrev pub answer_for : Option MessageTaken → List Judging → Option Judging
answer_for None judgings = None
answer_for (Some message) judgings = taken_answer message judgings

-- of a link: none where it took no AUTHENTICATE, or no answer was taken
abbrev pub taken_answer_on : ℕ → Book → Option Judging
taken_answer_on link book = answer_for (message_on link book.messages) book.judged

-- ---- what a logon is accepted by

-- what the member asked for the message
abbrev pub info_asked : MessageTaken → NetworkInfo
info_asked message = info_of message.logon.message message.logon.agreed message.logon.challenge

-- the controller is that of the member's plan
abbrev pub HasController : Option MemberPlan → EndStates → ℕ → Type 0
HasController None ends controller = ⊥
HasController (Some plan) ends controller = end_of_peer plan.controller ends ≡ Some (Controller controller)

-- the unit came to no other step at which it passed
abbrev pub PassesOnce : Judging → List Judging → Type 0
PassesOnce j judgings =
    AllByRecursion (λ (other : Judging). has_passed other.how && same_unit (unit_in other.source) (unit_in j.source) ≡ true → other.at ≡ j.at) judgings

-- The member took an answer for the message, of the controller of its plan, and the call passed at this step and at no
-- other.
pub record IsItsControllersAnswer (past : Past) (message : MessageTaken) (j : Judging) : Type 0 where
  pub taken : taken_answer message past.book.judged ≡ Some j
  pub controller : HasController (slice_get past.plan.members message.member) past.world.state.ends j.controller
  pub once : PassesOnce j past.book.judged

-- The account may log on, and the response is the written function of its stored hash: by the accounts and at the
-- moment of that step, of what the member asked. The names, the responses and the challenge are those of the message as
-- it was sent.
pub record IsGrantedBy (message : MessageTaken) (j : Judging) : Type 0 where
  pub may : MayLogOn j.table (info_asked message) j.moment
  pub verifies : ResponseVerifies j.table (info_asked message)

-- The challenge of a message is its link's own and unused: it was drawn for the CHALLENGE of this link, no other draw
-- gave it, and the link took no other message.
pub record IsUnusedChallenge (past : Past) (message : MessageTaken) (sent : ChallengeSent) : Type 0 where
  pub link : sent.link ≡ message.link
  pub challenge : sent.challenge ≡ message.logon.challenge
  pub drawn : slice_get past.world.state.chances.drawn sent.draw ≡ Some sent.challenge
  pub only : (other : ℕ) → slice_get past.world.state.chances.drawn other ≡ Some sent.challenge → other ≡ sent.draw
  pub first : count_by (λ (link : ℕ). link == message.link) past.book.taken ≡ 1

-- ---- the claims

-- Challenges: those drawn differ from each other, and a link takes at most one AUTHENTICATE.
pub record ChallengesServeOnce (past : Past) : Type 0 where
  pub draws : DrawsDiffer past.world
  pub messages : AllPairs (λ (one other : ℕ). one ≢ other) past.book.taken

-- the link was accepted by that member
pub record IsLinkOf (past : Past) (link member : ℕ) : Type 0 where
  pub route : Route
  pub at : slice_get past.world.state.links link ≡ Some route
  pub acceptor : acceptor_of route ≡ Member member

-- what a logon that was accepted rests on
pub record IsAccepted (past : Past) (message : MessageTaken) : Type 0 where
  pub own : IsLinkOf past message.link message.member
  pub judging : Judging
  pub answer : IsItsControllersAnswer past message judging
  pub granted : IsGrantedBy message judging
  pub unused : OneOf (IsUnusedChallenge past message) past.book.challenges

-- A member lets somebody in on a link only where it took its controller's answer to the link's message, the
-- account may log on, and the response is the written function of its stored hash and of the link's unused challenge.
-- The link is one that this member accepted. It may do so for a link that has closed.
abbrev pub AcceptsOnlyGranted : Past → Type 0
AcceptsOnlyGranted past =
    AllByRecursion (λ (told : OutcomeTold). is_in told.outcome ≡ true →
    OneOf (λ (message : MessageTaken). (message.link ≡ told.link) × (message.member ≡ told.member) × IsAccepted past message)
    past.book.messages) past.book.told

-- that member tells that somebody is let in on that link
abbrev pub IsToldIn : MessageTaken → OutcomeTold → Type 0
IsToldIn message told = (told.link ≡ message.link) × (told.member ≡ message.member) × (is_in told.outcome ≡ true)

-- A member lets in on a link wherever it took its controller's answer to the link's message, the account may log on,
-- and the response is the written function of its stored hash and of the challenge that was asked.
abbrev pub AcceptsAllGranted : Past → Type 0
AcceptsAllGranted past =
    AllByRecursion (λ (message : MessageTaken). (j : Judging) → IsItsControllersAnswer past message j → IsGrantedBy message j →
    OneOf (IsToldIn message) past.book.told) past.book.messages

-- the first 16 key bytes of RC4 under the session key of the channel: a key that is these travels as zeros
abbrev pub key_bytes : Option ChannelIdentity → List ℕ
key_bytes None = []
key_bytes (Some channel) = applied (channel_key channel) 0 (replicate 16 0)

abbrev pub TravelsAsZeros : Judging → NetworkInfo → Type 0
TravelsAsZeros j info = base_key_asked j info ≡ key_bytes (passed_channel j)

-- the client made the bytes of the message for the bytes of the CHALLENGE that the member sent on the link, and its
-- hash is the one stored
pub record IsMadeFor (message : MessageTaken) (sent : ChallengeSent) (j : Judging) (made : MessageMade) : Type 0 where
  pub link : sent.link ≡ message.link
  pub challenge : made.challenge ≡ sent.bytes
  pub bytes : made.bytes ≡ message.bytes
  pub hash : made.plan.hash ≡ stored_hash j (info_asked message)

-- the exported session key of who is let in
abbrev pub HasKey : Outcome → List ℕ → Type 0
HasKey (outcome.In domain user key) other = key ≡ other
HasKey _ other = Unit {0}

-- One session key: the key of who is let in is the exported one that the client kept when it made the message.
abbrev pub KeysAgree : Past → Type 0
KeysAgree past =
    AllByRecursion (λ (told : OutcomeTold). AllByRecursion (λ (message : MessageTaken). message.link ≡ told.link → (j : Judging) →
    taken_answer message past.book.judged ≡ Some j → (TravelsAsZeros j (info_asked message) → ⊥) →
    AllByRecursion (λ (sent : ChallengeSent). AllByRecursion (λ (made : MessageMade). IsMadeFor message sent j made → HasKey told.outcome made.key)
    past.book.made) past.book.challenges) past.book.messages) past.book.told

-- what the controller told is the judgement of this call, and it is right
pub record IsRightlyTold (told : JudgementTold) (j : Judging) : Type 0 where
  pub at : told.at ≡ j.at
  pub controller : told.controller ≡ j.controller
  pub how : Some told.how ≡ j.how
  pub right : IsJudgedRight j

-- each judgement that was told is that of the call in its place
abbrev pub AreTheirJudgements : List JudgementTold → List Judging → Type 0
AreTheirJudgements [] [] = Unit {0}
AreTheirJudgements (told ∷ more) (j ∷ judgings) = IsRightlyTold told j × AreTheirJudgements more judgings
AreTheirJudgements _ _ = ⊥

-- what was told of calls that were heard
abbrev pub judgements_of_calls : List JudgementTold → List JudgementTold
judgements_of_calls told = filter (λ (one : JudgementTold). judges_call one.how) told

-- each judgement of a call that was told is that of the call in its place
abbrev pub AreRightlyTold : List JudgementTold → List Judging → Type 0
AreRightlyTold told judgings = AreTheirJudgements (judgements_of_calls told) judgings

-- Every judgement of a call that a controller told in the run is that of one call on a secure channel which it heard at
-- that move. Each such call has one judgement, in their order, and it is right: the call passes, or is handed on,
-- exactly where its authenticator is the next one.
abbrev pub PassesTheNextCredential : Past → Type 0
PassesTheNextCredential past = AreRightlyTold past.book.judgements past.book.judged

-- ---- calls that are handed on

-- what a judgement counts for a controller: `count` if that controller told it, else 0
abbrev pub counts_by : (is_its : Bool) (count : ℕ) → ℕ
counts_by false count = 0
counts_by true count = count

-- what a controller told, by how much each judgement of it counts
abbrev pub told_count : (counts : Judged → ℕ) (controller : ℕ) (told : List JudgementTold) → ℕ
told_count counts controller [] = 0
told_count counts controller (one ∷ told) =
    counts_by (one.controller == controller) (counts one.how) + told_count counts controller told

-- how many calls a judgement hands on: one, or none
abbrev pub handed_count : Judged → ℕ
handed_count how = count_if (is_forwarded how)

-- how many calls wait for their answers at the controller that handed them on, if it is there
abbrev pub waiting_count : Option ControllerState → ℕ
waiting_count None = 0
waiting_count (Some c) = length c.trusting.queues.forwarded

-- What controllers tell besides is that calls came out which they handed on (`judges_call`). At each controller as many
-- were handed on at least as came out or wait yet; of which call each was told isn't said. (A controller that is made
-- anew forgets those that wait.)
abbrev pub TellsOfForwards : Past → Type 0
TellsOfForwards past =
    (controller : ℕ) →
    told_count answers_judged controller past.book.judgements + waiting_count (slice_get past.world.state.ends.controllers controller)
    ≤ told_count handed_count controller past.book.judgements

-- ---- further claims

-- Replay: where an authenticator passed, and the same bytes come again on the same channel, they pass again exactly
-- where the timestamps that passed since, the first one's included, move the seed by a multiple of 2^32.
abbrev pub ReplaysBySum : Past → Type 0
ReplaysBySum past =
    (channel : ChannelIdentity) (later between earlier : List Judging) (second first : Judging) →
    past.book.judged ≡ later ++ second ∷ (between ++ first ∷ earlier) →
    passed_on channel first ≡ true →
    is_channel (channel_in second.controller (computer_named second.asked) second.checks) channel ≡ true →
    given_in second.asked ≡ given_in first.asked →
    (has_passed second.how ≡ true) ↔ (moved_on channel (between ++ first ∷ []) % 2 ^ 32 ≡ 0)

-- Plain NTLMv1: no NT response of 24 bytes is accepted on two links over one stored hash where it answers the link's
-- own challenge on both.
pub record IsPlainlyAccepted (past : Past) (message : MessageTaken) (hash : List ℕ) : Type 0 where
  pub accepted : IsAccepted past message
  pub told : OneOf (IsToldIn message) past.book.told
  pub short : length message.logon.message.nt ≡ 24
  pub own : challenge_for_of message.logon.agreed message.logon.challenge message.logon.message.lm message.logon.message.nt
      ≡ message.logon.challenge
  pub stored : stored_hash accepted.judging (info_asked message) ≡ hash

abbrev pub ShortResponsesServeOnce : Past → Type 0
ShortResponsesServeOnce past =
    (hash : List ℕ) →
    AllByRecursion (λ (one : MessageTaken). AllByRecursion (λ (other : MessageTaken). one.link ≢ other.link →
    one.logon.message.nt ≡ other.logon.message.nt → IsPlainlyAccepted past one hash → IsPlainlyAccepted past other hash → ⊥)
    past.book.messages) past.book.messages

-- A response of 24 bytes lets somebody in on the link of the message: he is told to be, the message has it, it answers
-- the link's own challenge, and the member took the answer of a call that was judged by this hash.
pub record IsLetInShortly (past : Past) (told : OutcomeTold) (nt hash : List ℕ) (message : MessageTaken) : Type 0 where
  pub let_in : is_in told.outcome ≡ true
  pub link : message.link ≡ told.link
  pub response : message.logon.message.nt ≡ nt
  pub short : length nt ≡ 24
  pub own : challenge_for_of message.logon.agreed message.logon.challenge message.logon.message.lm message.logon.message.nt
      ≡ message.logon.challenge
  pub judging : Judging
  pub answer : taken_answer message past.book.judged ≡ Some judging
  pub stored : stored_hash judging (info_asked message) ≡ hash

-- Nobody is let in on two links by one response of 24 bytes over one stored hash.
abbrev pub ShortResponsesLetInOnce : Past → Type 0
ShortResponsesLetInOnce past =
    (nt hash : List ℕ) →
    AllByRecursion (λ (one : OutcomeTold). AllByRecursion (λ (other : OutcomeTold). one.link ≢ other.link →
    OneOf (IsLetInShortly past one nt hash) past.book.messages → OneOf (IsLetInShortly past other nt hash) past.book.messages → ⊥)
    past.book.told) past.book.told
