-- What a controller sends when bytes come is, in order, what its units come to; a unit that is marked as a reply
-- carries what its call came to, and one that is marked as the reply to an opening opens a channel. It serves
-- `replies_are_sent_as_judged`.
use Rattle.std.proofs.Common.{◌≡◌, ℕ, Bool, true, false, List, [], ◌∷◌, ◌++◌, drop, length, Option, Some, None, Ok, refl, sym, ap, ◌∙◌, subst}
use Rattle.std.proofs.lemmas.List.{append-nil}
use Rattle.std.proofs.lemmas.List.Concat.{flat_map-append}
use Rattle.wire_base.specs.Maps.{lookup}
use Rattle.wire_base.specs.Names.{same_name}
use Rattle.authenticators.specs.Channels.{ChannelIdentity}
use Rattle.authenticators.specs.SecureChannels.{SecureChannelState, key_of_channel, channel_of}
use Rattle.outside.specs.declared.action.Action.{Action}
use Rattle.outside.specs.declared.action.Judged.{Judged}
use Rattle.logon_stubs.specs.declared.calls.AuthCall.{AuthCall}
use Rattle.account_table.specs.declared.account.Account.{Account}
use Rattle.domain_controller.specs.Machine.{Desk, account_for, answer_authenticate, answer_challenge, answer_judged, channel_for, judge_account, take_pair}
use Rattle.controller_calls.specs.declared.line.Line.{Line}
use Rattle.controller_calls.specs.declared.state.ChallengePair.{ChallengePair}
use Rattle.controller_calls.specs.declared.state.Work.{Work}
use Rattle.channel_events.specs.Marks.{Mark}
use Rattle.step_notes.specs.ChannelNames.{sends_in, sent_by}
use Rattle.step_notes.specs.ControllerNotes.{Answered, Where, channel_in, has_passed, identity_by, judged_answer, judged_in, judging_by, judging_of, new_actions, opened_account, opened_by, opened_mark, opening, passing, plain, reply_mark, silent}
use Rattle.step_notes.specs.Judged.{channel_if}
use Rattle.step_notes.specs.Records.{InUnit, Judging, Outside, Source, computer_named, unit_in, given_in}
use Rattle.step_notes.specs.ReplySends.{AreSentBy, AreSentFor, CarriesReply, IsItsReply, IsOpeningReply, IsSentBy, RepliesAreSentAsJudged, standing_at, done_on}
use Rattle.controller_calls.specs.declared.calls.JudgedCall.{JudgedCall}
use Rattle.step_notes.proofs.Controllers.NotedLaws.{NotedFact, StaysThrough, step_says}
use Rattle.step_notes.proofs.Controllers.OpenedLaws.{opening_noted}
use Rattle.controller_calls.proofs.ReplyLaws.{Replies, challenge_replies, read_behind}
use Rattle.step_notes.proofs.Controllers.JudgedStepLaws.{Told, dropped, told_call, told_kept}
use Rattle.step_notes.proofs.Controllers.ReplySendLaws.{IsSentAsPassed, passed_sends}
use Rattle.controller_calls.specs.Calls.{asked_of}
use Rattle.controller_calls.specs.Passing.{IsKeep}
use Rattle.controller_calls.proofs.DoneLaws.{texts_kept}
use Rattle.std.specs.List.{AllByRecursion}
use Rattle.outside.specs.declared.action.Action.TheVariants as action

-- ---- what is sent

pub one_more : (actions : List Action) (link : ℕ) (bytes : List ℕ) → sends_in (actions ++ action.Send link bytes ∷ []) ≡ sends_in actions ++ bytes ∷ []
one_more actions link bytes = flat_map-append sent_by actions (action.Send link bytes ∷ [])

-- ---- the reply to an opening

-- what opens a channel is the reply that does, under that number
abbrev pub OpensBy : ℕ → Option SecureChannelState → List ℕ → Type 0
OpensBy number None bytes = Unit {0}
OpensBy number (Some channel) bytes = IsOpeningReply number bytes

-- one unit more, by the channel that is opened, if one is
pub record SendsOpening (opened : Option SecureChannelState) (line : Line) (before after : Work) : Type 0 where
  pub bytes : List ℕ
  pub actions : after.actions ≡ before.actions ++ action.Send line.link bytes ∷ []
  pub opens : OpensBy line.call opened bytes

pub opening_sends : (found : Option Account) (waiting : Option ChallengePair) (line : Line) (c : AuthCall) (taken : Work) →
    SendsOpening (opened_account found waiting c) line taken (judge_account found waiting line c taken)
opening_sends found waiting line c taken =
    opening_noted (λ opened later. SendsOpening opened line taken later) found waiting line c taken (record {
      denied = λ status fails. record { bytes = _; actions = refl; opens = tt };
      accepted = λ opens.
          let channel : SecureChannelState = channel_for opens.account opens.pair c in
          record {
            bytes = _;
            actions = refl;
            opens = record {
              context = line.context;
              limit = line.limit;
              key = key_of_channel channel;
              server = channel.server;
              offered = c.flags;
              frames = refl;
            };
          };
    })

-- the reply to an opening isn't marked as one to a call on a secure channel

opened_carries : (unit : Option ℕ) (channel : ChannelIdentity) (number : ℕ) (bytes : List ℕ) → IsOpeningReply number bytes → CarriesReply (opened_mark unit channel number) None bytes
opened_carries None channel number bytes opens = tt
opened_carries (Some unit) channel number bytes opens = opens

pub opening_sent : (opened : Option SecureChannelState) (w : Where) (computer : List ℕ) (number kind : ℕ) (bytes : List ℕ) → OpensBy number opened bytes →
    AreSentFor (opening (identity_by w.controller computer opened) w number kind ∷ []) (bytes ∷ [])
opening_sent None w computer number kind bytes opens = (tt, tt)
opening_sent (Some channel) w computer number kind bytes opens = (opened_carries (unit_in w.source) (channel_of w.controller computer channel) number bytes opens, tt)

-- ---- a call on a secure channel

reply_carries : (source : Source) (channel : ChannelIdentity) (j : Judging) (bytes : List ℕ) → j.source ≡ source → channel_if true j ≡ Some channel → has_passed j.how ≡ true → IsItsReply j bytes →
    CarriesReply (reply_mark (unit_in source) channel j.number) (Some j) bytes
reply_carries Outside channel j bytes came is passed carries = tt
reply_carries (InUnit unit) channel j bytes came is passed carries =
    record { came = came; passed = ap (λ (b : Bool). channel_if b j) passed ∙ is; call = refl; carries = carries }

passing_sent : (channel : Option ChannelIdentity) (j : Judging) (bytes : List ℕ) → channel_if true j ≡ channel → has_passed j.how ≡ true → IsItsReply j bytes → AreSentFor (passing channel j ∷ []) (bytes ∷ [])
passing_sent None j bytes is passed carries = (tt, tt)
passing_sent (Some channel) j bytes is passed carries = (reply_carries j.source channel j bytes refl is passed carries, tt)

judging_sent : (passed : Bool) (j : Judging) (bytes : List ℕ) → has_passed j.how ≡ passed → (has_passed j.how ≡ true → IsItsReply j bytes) → AreSentFor (judging_by passed j ∷ []) (bytes ∷ [])
judging_sent false j bytes is carries = (tt, tt)
judging_sent true j bytes is carries = passing_sent (channel_in j.controller (computer_named j.asked) j.checks) j bytes refl is (carries is)

-- the reply is the one send behind the judgement
same_sent : (kept other : List Action) (how more : Judged) (link at : ℕ) (bytes sent : List ℕ) → AllByRecursion IsKeep kept → AllByRecursion IsKeep other →
    kept ++ action.Judged how ∷ action.Send link bytes ∷ [] ≡ other ++ action.Judged more ∷ action.Send at sent ∷ [] → bytes ≡ sent
same_sent kept other how more link at bytes sent are too is =
    let one : bytes ∷ [] ≡ sent ∷ [] =
    sym (read_behind sent_by (λ text. refl) [] kept how link bytes are) ∙ ap sends_in is ∙ read_behind sent_by (λ text. refl) [] other more at sent too in cc

-- what is sent for a call
pub record SendsFor (one : Answered) (old new : List Action) : Type 0 where
  pub sent : List (List ℕ)
  pub is : sends_in new ≡ sends_in old ++ sent
  pub each : AreSentFor (one ∷ []) sent

pub call_sent : (w : Where) (line : Line) (c : JudgedCall) (d : Desk) →
    SendsFor (judged_answer (judging_of w line c d (Some (answer_judged c w.name w.moment line d)))) d.work.actions (answer_judged c w.name w.moment line d).work.actions
call_sent w line c d =
    let after : Desk = answer_judged c w.name w.moment line d in
    let j : Judging = judging_of w line c d (Some after) in
    let told : Told line d.work.actions after.work.actions j.checks (given_in c) = told_call c w.name w.moment line d in
    let tail : List Action = told.kept ++ action.Judged told.how ∷ action.Send line.link told.answer ∷ [] in
    let new : new_actions (Some after) d ≡ tail = ap (λ (all : List Action). drop (length d.work.actions) all) told.is ∙ dropped d.work.actions tail in
    record {
      sent = told.answer ∷ [];
      is = ap sends_in told.is ∙ read_behind sent_by (λ text. refl) d.work.actions told.kept told.how line.link told.answer told.are_kept;
      each = judging_sent (has_passed j.how) j told.answer refl (λ passed.
          let sent : IsSentAsPassed j line (new_actions (Some after) d) = passed_sends w line c d passed in
          record {
            next = sent.next;
            how = ap judged_in sent.actions ∙ told_kept _ _ _ (texts_kept (asked_of c) (done_on j sent.next.channel));
            context = line.context;
            limit = line.limit;
            frames = same_sent told.kept _ told.how _ line.link _ told.answer _ told.are_kept (texts_kept (asked_of c) (done_on j sent.next.channel)) (sym new ∙ sent.actions);
          });
    }

-- ---- the units of a stream

module _ (Carries : Mark → Option Judging → List ℕ → Type 0) where
  if_joined : (sends : Bool) (one : Answered) (new more : List (List ℕ)) (Holds Later : List (List ℕ) → Type 0) → ((rest : List (List ℕ)) → Holds rest → Later (rest ++ more)) →
      IsSentBy Carries sends one new Holds → IsSentBy Carries sends one (new ++ more) Later
  if_joined false one new more Holds Later so is = so new is
  if_joined true one [] more Holds Later so is = absurd is
  if_joined true one (bytes ∷ new) more Holds Later so is = (is.0, so new is.1)

  joined : (answers : List Answered) (one : Answered) (new more : List (List ℕ)) → AreSentBy Carries answers new → AreSentBy Carries (one ∷ []) more →
      AreSentBy Carries (answers ++ one ∷ []) (new ++ more)
  joined [] one [] more each last = last
  joined [] one (bytes ∷ new) more each last = absurd each
  joined (first ∷ answers) one new more each last =
      if_joined first.sends first new more (λ (rest : List (List ℕ)). AreSentBy Carries answers rest) (λ (rest : List (List ℕ)). AreSentBy Carries (answers ++ one ∷ []) rest)
      (λ rest is. joined answers one rest more is last) each

  -- `AreSentBy` goes on with one unit more behind the others
  pub further : (answers : List Answered) (one : Answered) (old new : List Action) (more : List (List ℕ)) → AreSentBy Carries answers (sends_in old) → sends_in new ≡ sends_in old ++ more →
      AreSentBy Carries (one ∷ []) more → AreSentBy Carries (answers ++ one ∷ []) (sends_in new)
  further answers one old new more each is last =
      subst (λ (sent : List (List ℕ)). AreSentBy Carries (answers ++ one ∷ []) sent) (sym is) (joined answers one (sends_in old) more each last)

-- what was sent so far is what these units come to
abbrev Sent : NotedFact
Sent answers d left = AreSentFor answers (sends_in d.work.actions)

sent_stay : (w : Where) (link : ℕ) → StaysThrough w link w.name w.moment Sent
sent_stay w link = record {
  closes = λ answers d left cause each.
      subst (λ (sent : List (List ℕ)). AreSentFor answers sent)
      (sym (flat_map-append sent_by d.work.actions (action.Close link cause ∷ []) ∙ append-nil (sends_in d.work.actions))) each;
  waits = λ answers d left each. further CarriesReply answers silent d.work.actions d.work.actions [] each (sym (append-nil (sends_in d.work.actions))) tt;
  sends = λ answers d left bytes each.
      further CarriesReply answers plain d.work.actions (d.work.actions ++ action.Send link bytes ∷ []) (bytes ∷ []) each (one_more d.work.actions link bytes) (tt, tt);
  challenge = λ answers d left line c server on each.
      let its : Replies line d.work (answer_challenge d.table line c server d.work) = challenge_replies d.table line c server d.work in
      further CarriesReply answers plain d.work.actions (answer_challenge d.table line c server d.work).actions (its.bytes ∷ []) each
      (ap sends_in its.actions ∙ one_more d.work.actions line.link its.bytes) (tt, tt);
  authenticate = λ answers d left line c on each.
      let found : Option Account = account_for d.table c in
      let waiting : Option ChallengePair = lookup same_name c.computer d.work.computers.pending in
      let its : SendsOpening (opened_account found waiting c) line (take_pair c.computer d.work) (answer_authenticate d.table line c d.work) =
      opening_sends found waiting line c (take_pair c.computer d.work) in
      further CarriesReply answers (opening (opened_by w.controller c d) w line.call c.channel) d.work.actions (answer_authenticate d.table line c d.work).actions (its.bytes ∷ []) each
      (ap sends_in its.actions ∙ one_more d.work.actions line.link its.bytes) (opening_sent (opened_account found waiting c) w c.computer line.call c.channel its.bytes its.opens);
  judged = λ answers d left line c on each.
      let after : Desk = answer_judged c w.name w.moment line d in
      let one : Answered = judged_answer (judging_of w line c d (Some after)) in
      let its : SendsFor one d.work.actions after.work.actions = call_sent w line c d in
      further CarriesReply answers one d.work.actions after.work.actions its.sent each its.is its.each;
}

-- ---- a step

-- in every step each reply is sent as it was judged
pub replies_sent : RepliesAreSentAsJudged
replies_sent c at controller source link piece now left =
    let w : Where = standing_at at controller source c now in
    step_says w link c piece now left (λ running. Sent)
    (λ answers stepped. (actions : List Action) → stepped.answer ≡ Ok actions → AreSentFor answers (sends_in actions))
    (record {
      stays = λ running. sent_stay w link;
      first = λ running runs. tt;
      stopped = λ ends actions is. absurd cc;
      spent = λ actions is. absurd cc;
      taken = λ running answers d links rest runs each actions is.
          let same : d.work.actions ≡ actions = cc in subst (λ (all : List Action). AreSentFor answers (sends_in all)) same each;
    })
