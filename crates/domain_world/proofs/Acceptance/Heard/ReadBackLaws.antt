-- What is told of an answer is what its controller judged, read with the key of the channel.
-- It serves `outcomes_are_read_back`.
use Rattle.std.proofs.Common.{◌≡◌, ℕ, ◌==◌, Bool, true, false, List, Some, None, Result, Ok, slice_get, refl, sym, ap, ◌∙◌, subst}
use Rattle.std.specs.List.{AllByRecursion}
use Rattle.std.proofs.lemmas.Bool.Decides.{Decides-eqb}
use Rattle.channel_keys.specs.Hidden.{crypt_key}
use Rattle.authenticators.specs.Channels.{ChannelIdentity, channel_key}
use Rattle.authenticators.specs.SecureChannels.{SecureChannelState, after_return, is_awaited, key_of_channel}
use Rattle.authenticators.proofs.ChannelLaws.{channel_key-same}
use Rattle.outside.specs.declared.action.Outcome.{Outcome}
use Rattle.rpc_units.specs.Joining.{stub_of}
use Rattle.logon_stubs.specs.Calls.{reply_of}
use Rattle.logon_stubs.specs.Status.{access_denied}
use Rattle.logon_stubs.specs.Structures.{has_extra}
use Rattle.logon_stubs.specs.declared.calls.LogonCall.{LogonCall}
use Rattle.logon_stubs.specs.declared.calls.LogonReply.{LogonReply}
use Rattle.logon_stubs.specs.declared.calls.Reply.{Reply}
use Rattle.logon_stubs.specs.declared.calls.Reply.TheVariants as reply
use Rattle.logon_stubs.specs.declared.info.SamInfo.{SamInfo}
use Rattle.logon_stubs.specs.declared.info.Verdict.{Verdict}
use Rattle.logon_stubs.specs.declared.info.Verdict.TheVariants.{Granted, Status}
use Rattle.logon_stubs.specs.declared.refused.StubRefused.{StubRefused}
use Rattle.sam_logon.specs.Granting.{at_level, with_extra_if}
use Rattle.channel_client.specs.Machine.{judge_awaited, judge_level, judge_logon, judge_status, level_asked}
use Rattle.channel_client.specs.declared.judging.Judgement.TheVariants as judgement
use Rattle.channel_client.specs.declared.state.Standing.TheVariants as standing
use Rattle.domain_controller.specs.Machine.{info_of, reply_info, status_of}
use Rattle.member_server.specs.Outcomes.{outcome_of}
use Rattle.member_server.specs.Turns.{ending_of}
use Rattle.wire_base.specs.Lists.{OneOf}
use Rattle.channel_events.specs.Marks.{ReplyTo}
use Rattle.step_notes.specs.Judged.{IsNextOn}
use Rattle.step_notes.specs.Marking.{mark_channel}
use Rattle.step_notes.specs.Records.{Judging, MessageTaken, OutcomeTold, Sent, computer_named, given_in}
use Rattle.step_notes.specs.ReplySends.{IsReplyOfCall, reply_passed, verdict_passed}
use Rattle.step_notes.proofs.Controllers.JudgedCallLaws.{network_so}
use Rattle.world_moves.specs.declared.bag.BagUnit.{BagUnit}
use Rattle.world_moves.specs.Counting.{is_in}
use Rattle.domain_world.specs.Accepting.Answered.{IsLetInAsRead, IsOutcomeRead, IsToldAsRead, outcome_read, verdict_read}
use Rattle.domain_world.specs.Accepting.ReadBack.{IsLetInInTurn, IsReadIn, IsToldInTurn, OutcomesAreReadBack, RepliesAreReadBack, TurnsAreTold, TurnsLetIn}
use Rattle.domain_world.specs.Past.{Past, plain_form}
use Rattle.wire_base.proofs.ListLaws.{all_weaker, one_weaker, some_is}
use Rattle.domain_world.proofs.Judgements.MovedLaws.{IsFound, passed_in}

-- ---- a reply that a member takes as an answer

given_level : (right : Bool) (info : SamInfo) (o later : SecureChannelState) (w : Verdict) → judge_level right (Some info) o ≡ judgement.Answer later w →
    w ≡ Granted (record info { key = crypt_key (key_of_channel o) info.key })
given_level false info o later w is = absurd (let x = is in cc)
given_level true info o later w is = cc

level_given : (right : Bool) (level : ℕ) (info : SamInfo) (o later : SecureChannelState) (w : Verdict) → (level == level_asked) ≡ right → judge_level right (Some info) o ≡ judgement.Answer later w → level ≡ 3
level_given false level info o later w asked is = absurd (let x = is in cc)
level_given true level info o later w asked is = (Decides-eqb level 3).0 asked

no_info : (right : Bool) (o later : SecureChannelState) (w : Verdict) → judge_level right None o ≡ judgement.Answer later w → ⊥
no_info false o later w is = let x = is in cc
no_info true o later w is = let x = is in cc

given_granted : (awaited : Bool) (level : ℕ) (info : SamInfo) (o later : SecureChannelState) (w : Verdict) → judge_awaited awaited 0 level (Some info) o ≡ judgement.Answer later w →
    w ≡ Granted (record info { key = crypt_key (key_of_channel o) info.key })
given_granted false level info o later w is = absurd (let x = is in cc)
given_granted true level info o later w is = given_level (level == level_asked) info (after_return true o) later w is

status_by : (zero : Bool) (status level : ℕ) (o later : SecureChannelState) (w : Verdict) → judge_status zero status level None o ≡ judgement.Answer later w → w ≡ Status status
status_by false status level o later w is = cc
status_by true status level o later w is = absurd (no_info (level == level_asked) o later w is)

given_status : (awaited : Bool) (status level : ℕ) (o later : SecureChannelState) (w : Verdict) → judge_awaited awaited status level None o ≡ judgement.Answer later w → w ≡ Status status
given_status false status level o later w is = absurd (let x = is in cc)
given_status true status level o later w is = status_by (status == 0) status level (after_return true o) later w is

-- a grant is one at the level that is asked for, which carries all that is granted
given_asked : (awaited : Bool) (level : ℕ) (info : SamInfo) (o later : SecureChannelState) (w : Verdict) → judge_awaited awaited 0 level (Some info) o ≡ judgement.Answer later w → level ≡ 3
given_asked false level info o later w is = absurd (let x = is in cc)
given_asked true level info o later w is = level_given (level == level_asked) level info (after_return true o) later w refl is

all_at : (level : ℕ) (info : SamInfo) → level ≡ 3 → at_level level info ≡ info
unfolding at_level
all_at level info three = ap (λ (has : Bool). with_extra_if has info) (ap has_extra three)

read_as : (denied : Bool) (v : Verdict) (key credential : List ℕ) (level : ℕ) (o later : SecureChannelState) (w : Verdict) → key_of_channel o ≡ key →
    judge_logon denied (standing.Open o) (Some (record { credential = credential; timestamp = 0 })) (status_of v) level (info_of level key v) ≡ judgement.Answer later w →
    w ≡ verdict_read key v
read_as true v key credential level o later w same is = absurd (let x = is in cc)
read_as false (Granted info) key credential level o later w same is =
    let carried : SamInfo = reply_info level key info in
    let three : level ≡ 3 = given_asked (is_awaited o.awaited credential) level carried o later w is in
    given_granted (is_awaited o.awaited credential) level carried o later w is
    ∙ ap (λ (all : SamInfo). Granted (record all { key = crypt_key (key_of_channel o) (crypt_key key info.key) })) (all_at level info three)
    ∙ ap (λ (k : List ℕ). Granted (record info { key = crypt_key k (crypt_key key info.key) })) same
read_as false (Status status) key credential level o later w same is = given_status (is_awaited o.awaited credential) status level o later w is

reply_is : (found : Result Reply StubRefused) (one other : LogonReply) → found ≡ Ok (reply.Logon one) → found ≡ Ok (reply.Logon other) → one ≡ other
reply_is found one other is also = cc

-- ---- what is told

module _ (past : Past) (back : RepliesAreReadBack past) where
  -- the unit as the member read it, and the judging that it answers
  read_of : (message : MessageTaken) (u : ℕ) (result : Outcome) (read : IsReadIn past message u result) (channel : ChannelIdentity) (number request place : ℕ) (j : Judging) →
      slice_get past.book.judged place ≡ Some j → read.sent.mark ≡ ReplyTo channel number request → IsReplyOfCall channel number request j (plain_form past.book.sent u read.carrier) → IsOutcomeRead channel j message result
  read_of message u result read channel number request place j judged mark reply =
      let next : IsNextOn j.checks (given_in j.asked) = reply.carries.next in
      let found : IsFound j.controller (computer_named j.asked) j.checks channel = passed_in j channel reply.passed in
      let its : next.channel ≡ found.state = some_is next.channel found.state (sym next.stands ∙ found.stands) in
      let key : key_of_channel next.channel ≡ channel_key channel = ap key_of_channel its ∙ ap channel_key found.is in
      let named : read.named ≡ channel = some_is read.named channel (sym read.made ∙ ap mark_channel mark) in
      let stood : key_of_channel read.stood ≡ key_of_channel next.channel =
      read.key ∙ sym (channel_key-same read.named read.channel read.same) ∙ ap channel_key named ∙ sym key in
      network_so (λ (c : LogonCall). reply_of 2 (stub_of read.whole.unit.body) ≡ Ok (reply_passed j c next.channel next.given)) (λ (c : LogonCall). result ≡ outcome_read channel j message c) j.asked
      (λ c made.
      let same = reply_is (reply_of 2 (stub_of read.whole.unit.body)) read.read _ read.reads made in
      let verdict : read.verdict ≡ verdict_read (key_of_channel next.channel) (verdict_passed j c) =
      read_as (status_of (verdict_passed j c) == access_denied) (verdict_passed j c) (key_of_channel next.channel) _ c.validation read.stood read.later read.verdict stood
      (subst (λ (r : LogonReply). judge_logon (r.status == access_denied) (standing.Open read.stood) r.returned r.status r.level r.info ≡ judgement.Answer read.later read.verdict)
      same read.judged) in
      read.is ∙ ap (λ (v : Verdict). outcome_of (ending_of v) message.logon) (verdict ∙ ap (λ (k : List ℕ). verdict_read k (verdict_passed j c)) key))
      (back u read.carrier read.sent read.there read.noted channel number request place j judged mark reply read.whole)

  -- whichever unit and mark are meant, they are those
  outcome_is : (message : MessageTaken) (u : ℕ) (result : Outcome) → IsReadIn past message u result → (carrier : BagUnit) (sent : Sent) (channel : ChannelIdentity) (number request place : ℕ)
      (j : Judging) → slice_get past.world.state.bag u ≡ Some carrier → slice_get past.book.sent u ≡ Some sent → slice_get past.book.judged place ≡ Some j → sent.mark ≡ ReplyTo channel number request →
      IsReplyOfCall channel number request j (plain_form past.book.sent u carrier) → IsOutcomeRead channel j message result
  outcome_is message u result read carrier sent channel number request place j there noted judged mark reply =
      let one : carrier ≡ read.carrier = some_is carrier read.carrier (sym there ∙ read.there) in
      let same : sent ≡ read.sent = some_is sent read.sent (sym noted ∙ read.noted) in
      read_of message u result read channel number request place j judged (sym (ap (λ (s : Sent). s.mark) same) ∙ mark)
      (subst (λ (c : BagUnit). IsReplyOfCall channel number request j (plain_form past.book.sent u c)) one reply)

  told_as_read : TurnsAreTold past → past.book.clash ≡ false →
      AllByRecursion (λ (message : MessageTaken). (unit : ℕ) → message.reply ≡ Some unit → (carrier : BagUnit) (sent : Sent)
      (channel : ChannelIdentity) (number request place : ℕ) (j : Judging) → slice_get past.world.state.bag unit ≡ Some carrier → slice_get past.book.sent unit ≡ Some sent →
      slice_get past.book.judged place ≡ Some j → sent.mark ≡ ReplyTo channel number request → IsReplyOfCall channel number request j (plain_form past.book.sent unit carrier) → OneOf (IsToldAsRead channel message j) past.book.told) past.book.messages
  told_as_read turns clear =
      all_weaker (λ (message : MessageTaken). (u : ℕ) → message.reply ≡ Some u → OneOf (λ (told : OutcomeTold). IsToldInTurn past message u told) past.book.told)
      (λ (message : MessageTaken). (unit : ℕ) → message.reply ≡ Some unit → (carrier : BagUnit) (sent : Sent)
      (channel : ChannelIdentity) (number request place : ℕ) (j : Judging) → slice_get past.world.state.bag unit ≡ Some carrier → slice_get past.book.sent unit ≡ Some sent →
      slice_get past.book.judged place ≡ Some j → sent.mark ≡ ReplyTo channel number request → IsReplyOfCall channel number request j (plain_form past.book.sent unit carrier) → OneOf (IsToldAsRead channel message j) past.book.told)
      past.book.messages
      (λ message each unit taken carrier sent channel number request place j there noted judged mark reply.
      one_weaker (λ (told : OutcomeTold). IsToldInTurn past message unit told) (IsToldAsRead channel message j) past.book.told
      (λ told turn. record {
        link = turn.link;
        member = turn.member;
        outcome = outcome_is message unit told.outcome turn.reading carrier sent channel number request place j there noted judged mark reply;
      }) (each unit taken))
      (turns clear)

  let_in_as_read : TurnsLetIn past → past.book.clash ≡ false →
      AllByRecursion (λ (told : OutcomeTold). is_in told.outcome ≡ true → OneOf (λ (message : MessageTaken). IsLetInAsRead past told message) past.book.messages) past.book.told
  let_in_as_read turns clear =
      all_weaker (λ (told : OutcomeTold). is_in told.outcome ≡ true → OneOf (λ (message : MessageTaken). IsLetInInTurn past told message) past.book.messages)
      (λ (told : OutcomeTold). is_in told.outcome ≡ true → OneOf (λ (message : MessageTaken). IsLetInAsRead past told message) past.book.messages)
      past.book.told
      (λ told each in_is. one_weaker (λ (message : MessageTaken). IsLetInInTurn past told message) (λ (message : MessageTaken). IsLetInAsRead past told message) past.book.messages
      (λ message turn. record {
        link = sym turn.turn.link;
        member = sym turn.turn.member;
        unit = turn.unit;
        reply = turn.reply;
        outcome = outcome_is message turn.unit told.outcome turn.turn.reading;
      }) (each in_is))
      (turns clear)

pub read_back : OutcomesAreReadBack
read_back = record {
  told = λ past back turns clear. told_as_read past back turns clear;
  let_in = λ past back turns clear. let_in_as_read past back turns clear;
}
