-- What a unit of the bag carries is heard alike, and is what the message asks; and an answer is to the call of its
-- message. It serves `carried_calls_are_heard`.
use Rattle.channel_events.specs.Requests.{IsRequest}
use Rattle.domain_world.specs.Claims.OpeningReplies.{AnswersOpening}
use Rattle.std.proofs.Common.{◌≡◌, ℕ, Bool, true, false, not, List, [], ◌∷◌, map, Option, Some, None, Result, Ok, slice_get, refl, sym, ap, ◌∙◌, subst, inl, inr, arith, ◌<◌, ◌^◌, ◌%◌}
use Rattle.std.specs.List.{AllByRecursion}
use Rattle.authenticators.specs.Channels.{ChannelIdentity, SameChannel}
use Rattle.rpc_units.specs.Calls.{IsHeard}
use Rattle.rpc_units.specs.Joining.{AddsTo, answer_of, open_after}
use Rattle.rpc_units.specs.Reading.{unit_of}
use Rattle.rpc_units.specs.Stream.{Cut}
use Rattle.rpc_units.specs.Writing.{written}
use Rattle.rpc_units.specs.declared.refused.JoinRefused.{JoinRefused}
use Rattle.rpc_units.specs.declared.refused.UnitRefused.{UnitRefused}
use Rattle.rpc_units.specs.declared.unit.Unit.{Unit as RpcUnit}
use Rattle.logon_stubs.specs.Writing.{written_call}
use Rattle.logon_stubs.specs.declared.calls.Call.{Call}
use Rattle.logon_stubs.specs.declared.calls.Call.TheVariants as netlogon
use Rattle.logon_stubs.specs.declared.refused.StubRefused.{StubRefused}
use Rattle.channel_events.specs.Marks.{Mark, Plain, Opening, Opened, Calling, ReplyTo}
use Rattle.step_notes.specs.Judged.{passed_channel}
use Rattle.step_notes.specs.Marking.{clashes, is_channel, mark_channel, sent_channel}
use Rattle.step_notes.specs.Records.{CallTaken, InUnit, Judging, MessageTaken, RequesterId, Sent, Source, unit_in}
use Rattle.controller_calls.specs.declared.calls.JudgedCall.{JudgedCall}
use Rattle.controller_calls.specs.declared.calls.JudgedCall.TheVariants.{Network}
use Rattle.step_notes.specs.ReplySends.{IsReplyOfCall}
use Rattle.world_moves.specs.declared.bag.BagUnit.{BagUnit}
use Rattle.domain_world.specs.Accepting.Answered.{AsksForIt, IsAnsweredIn, IsItsWay, MarksHaveTheirWay, PassesAreUnclashed}
use Rattle.domain_world.specs.Accepting.Carried.{AnswersAreInTurn, AsksOf, CallsHaveNumbers, CarriedCallsAreHeard, IsCalledFor, IsJudgedAsCarried, IsPlain, IsReadAsLogon, IsTakenInTurn, IsWholeAsMarked, IsWholeUnit, JudgedAsCarried, MarkedUnitsAreWhole, MessagesAreCalled, call_carried, call_judged, IsAnsweredInTurn, OpeningsAreApart}
use Rattle.step_notes.specs.HeardWhole.{call_read}
use Rattle.domain_world.specs.Claims.Replies.{IsReplyOfOne, RepliesCarryTheirJudgement}
use Rattle.domain_world.specs.Past.{Past, plain_form}
use Rattle.wire_base.proofs.ListLaws.{some_is}
use Rattle.channel_events.proofs.SameLaws.{one_channel}
use Rattle.wire_base.proofs.ListPlaceLaws.{all_by_place, placed}
use Rattle.domain_controller.proofs.TrustPlaceLaws.{got_all}

-- ---- bytes are those of one whole unit alone

abbrev read_ok : RpcUnit → Result RpcUnit UnitRefused
read_ok unit = Ok unit

ok_is : (one other : RpcUnit) → read_ok one ≡ read_ok other → one ≡ other
ok_is one other is = cc

oks_are : (units others : List RpcUnit) → map (λ (unit : RpcUnit). read_ok unit) units ≡ map (λ (unit : RpcUnit). read_ok unit) others → units ≡ others
oks_are [] [] is = refl
oks_are [] (other ∷ others) is = absurd (let x = is in cc)
oks_are (unit ∷ units) [] is = absurd (let x = is in cc)
oks_are (unit ∷ units) (other ∷ others) is =
    let first : read_ok unit ≡ read_ok other = cc in
    let rest : map (λ (u : RpcUnit). read_ok u) units ≡ map (λ (u : RpcUnit). read_ok u) others = cc in
    ap (λ (u : RpcUnit). u ∷ units) (ok_is unit other first) ∙ ap (λ (us : List RpcUnit). other ∷ us) (oks_are units others rest)

joined_is : (found : Result (Option RpcUnit) JoinRefused) (one other : RpcUnit) → found ≡ Ok (Some one) → found ≡ Ok (Some other) → one ≡ other
joined_is found one other is also = cc

adds_one : (now_open : Option RpcUnit) (units : List RpcUnit) (one other : RpcUnit) → AddsTo now_open units one → AddsTo now_open units other → one ≡ other
adds_one now_open [] one other adds also = absurd adds
adds_one now_open (unit ∷ []) one other adds also = joined_is (answer_of now_open unit) one other adds also
adds_one now_open (unit ∷ next ∷ units) one other adds also = adds_one (open_after now_open unit) (next ∷ units) one other adds.1 also.1

units_are : (bytes : List ℕ) (frames others : List RpcUnit) (one other : RpcUnit) → IsHeard bytes frames one → IsHeard bytes others other → frames ≡ others
units_are bytes frames others one other heard also =
    let same : map written frames ≡ map written others = ap (λ (c : Cut). c.units) (sym heard.stream ∙ also.stream) in
    oks_are frames others (sym heard.read ∙ ap (λ (us : List (List ℕ)). map unit_of us) same ∙ also.read)

pub one_whole : (bytes : List ℕ) (frames others : List RpcUnit) (one other : RpcUnit) → IsHeard bytes frames one → IsHeard bytes others other → one ≡ other
one_whole bytes frames others one other heard also =
    adds_one None others one other (subst (λ (us : List RpcUnit). AddsTo None us one) (units_are bytes frames others one other heard also) heard.joined) also.joined

pub one_unit : (bytes : List ℕ) (one other : IsWholeUnit bytes) → one.unit ≡ other.unit
one_unit bytes one other = one_whole bytes one.frames other.frames one.unit other.unit one.heard other.heard

-- of one carrier
one_carrier : (past : Past) (n : ℕ) (one other : BagUnit) → slice_get past.world.state.bag n ≡ Some one → slice_get past.world.state.bag n ≡ Some other → one ≡ other
one_carrier past n one other there also = some_is one other (sym there ∙ also)

-- ---- units are heard alike

-- calls that are read alike are one call
pub asked_is : (one other : JudgedCall) → Some (call_judged one) ≡ Some (call_judged other) → one ≡ other
asked_is one other is = cc

module _ (past : Past) where
  carried_units : (n : ℕ) (one other : BagUnit) (whole : IsWholeUnit (plain_form past.book.sent n one)) (also : IsWholeUnit (plain_form past.book.sent n other)) → slice_get past.world.state.bag n ≡ Some one →
      slice_get past.world.state.bag n ≡ Some other → whole.unit ≡ also.unit
  carried_units n one other whole also there too =
      let same : plain_form past.book.sent n one ≡ plain_form past.book.sent n other = ap (plain_form past.book.sent n) (one_carrier past n one other there too) in
      one_whole (plain_form past.book.sent n other) whole.frames also.frames whole.unit also.unit (subst (λ (bytes : List ℕ). IsHeard bytes whole.frames whole.unit) same whole.heard) also.heard

  same_call : (n : ℕ) (one other : Judging) → IsJudgedAsCarried past one n → IsJudgedAsCarried past other n → one.asked ≡ other.asked
  same_call n one other is also =
      let units : is.whole.unit ≡ also.whole.unit = carried_units n is.carrier also.carrier is.whole also.whole is.there also.there in
      asked_is one.asked other.asked (sym is.carried ∙ ap (λ (u : RpcUnit). call_carried u.body) units ∙ also.carried)

  judged_at : JudgedAsCarried past → (k : ℕ) (j : Judging) (n : ℕ) → slice_get past.book.judged k ≡ Some j → j.source ≡ InUnit n → IsJudgedAsCarried past j n
  judged_at judged k j n there came = got_all (λ (one : Judging). (u : ℕ) → one.source ≡ InUnit u → IsJudgedAsCarried past one u) past.book.judged k j judged there n came

  heard_alike : JudgedAsCarried past → AllByRecursion (λ (one : Judging). AllByRecursion (λ (other : Judging). (unit : ℕ) → one.source ≡ InUnit unit → other.source ≡ InUnit unit →
      one.asked ≡ other.asked) past.book.judged) past.book.judged
  heard_alike judged =
      all_by_place (λ (one : Judging). AllByRecursion (λ (other : Judging). (unit : ℕ) → one.source ≡ InUnit unit → other.source ≡ InUnit unit → one.asked ≡ other.asked) past.book.judged)
      past.book.judged
      (λ k one at. all_by_place (λ (other : Judging). (unit : ℕ) → one.source ≡ InUnit unit → other.source ≡ InUnit unit → one.asked ≡ other.asked) past.book.judged
      (λ l other also unit came too. same_call unit one other (judged_at judged k one unit at came) (judged_at judged l other unit also too)))

  -- ---- what is asked is what the message asks

  asked_as : (message : MessageTaken) (j : Judging) (n : ℕ) → IsCalledFor past message n → IsJudgedAsCarried past j n → AsksForIt message j
  asked_as message j n called is =
      let whole : IsWholeUnit (plain_form past.book.sent n called.carrier) = record { frames = called.frames; unit = _; heard = called.heard } in
      let units : whole.unit ≡ is.whole.unit = carried_units n called.carrier is.carrier whole is.whole called.there is.there in
      let same : Network called.logon ≡ j.asked =
      asked_is (Network called.logon) j.asked (sym (ap (λ (read : Result Call StubRefused). call_read read 2 (written_call (netlogon.Logon called.logon))) called.again) ∙ ap (λ (u : RpcUnit). call_carried u.body) units ∙ is.carried) in
      record { call = called.logon; is = sym same; info = called.info; level = called.level }

  asks_for : JudgedAsCarried past → MessagesAreCalled past →
      AllByRecursion (λ (message : MessageTaken). AllByRecursion (λ (j : Judging). (unit : ℕ) → message.call ≡ Some unit → j.source ≡ InUnit unit → AsksForIt message j) past.book.judged)
      past.book.messages
  asks_for judged called =
      all_by_place (λ (message : MessageTaken). AllByRecursion (λ (j : Judging). (unit : ℕ) → message.call ≡ Some unit → j.source ≡ InUnit unit → AsksForIt message j) past.book.judged)
      past.book.messages
      (λ k message at. all_by_place (λ (j : Judging). (unit : ℕ) → message.call ≡ Some unit → j.source ≡ InUnit unit → AsksForIt message j) past.book.judged
      (λ l j also unit call came. asked_as message j unit
      (got_all (λ (m : MessageTaken). (n : ℕ) → m.call ≡ Some n → IsCalledFor past m n) past.book.messages k message called at unit call) (judged_at judged l j unit also came)))

  -- ---- an answer is to the call of its message

  -- the unit of a call that was judged and passed is marked as a call, with that number
  pub record IsRequested (channel : ChannelIdentity) (number request : ℕ) : Type 0 where
    pub sent : Sent
    pub there : slice_get past.book.sent request ≡ Some sent
    pub named : ChannelIdentity
    pub timestamp : ℕ
    pub mark : sent.mark ≡ Calling named number timestamp
    pub same : SameChannel named channel

  not_false : (one : Bool) → not one ≡ false → one ≡ true
  not_false true is = refl
  not_false false is = absurd (let x = is in cc)

  requested_by : (mark : Mark) (one : Sent) (channel : ChannelIdentity) (j : Judging) (request number : ℕ) (is : IsJudgedAsCarried past j request) → one.mark ≡ mark →
      slice_get past.book.sent request ≡ Some one → is_channel (mark_channel mark) channel ≡ true → ((IsPlain mark → ⊥) → IsWholeAsMarked mark (plain_form past.book.sent request is.carrier)) →
      j.number ≡ number → IsRequested channel number request
  requested_by Plain one channel j request number is marked there on whole numbered = absurd (let x = on in cc)
  requested_by (Opening c k) one channel j request number is marked there on whole numbered =
      let its = whole (λ none. none) in
      absurd (its.marked.0 j.asked (ap (λ (u : RpcUnit). call_carried u.body) (one_unit (plain_form past.book.sent request is.carrier) its.whole is.whole) ∙ is.carried))
  requested_by (Opened c k r) one channel j request number is marked there on whole numbered =
      let its = whole (λ none. none) in
      absurd (its.marked.0 j.asked (ap (λ (u : RpcUnit). call_carried u.body) (one_unit (plain_form past.book.sent request is.carrier) its.whole is.whole) ∙ is.carried))
  requested_by (Calling c k t) one channel j request number is marked there on whole numbered =
      let its = whole (λ none. none) in
      let same : k ≡ number = sym its.marked ∙ ap (λ (u : RpcUnit). u.call) (one_unit (plain_form past.book.sent request is.carrier) its.whole is.whole) ∙ sym is.number ∙ numbered in
      record { sent = one; there = there; named = c; timestamp = t; mark = marked ∙ ap (λ (m : ℕ). Calling c m t) same; same = one_channel c channel on }
  requested_by (ReplyTo c k r) one channel j request number is marked there on whole numbered =
      let its = whole (λ none. none) in
      absurd (its.marked.0 j.asked (ap (λ (u : RpcUnit). call_carried u.body) (one_unit (plain_form past.book.sent request is.carrier) its.whole is.whole) ∙ is.carried))

  module _ (whole : MarkedUnitsAreWhole past) (way : MarksHaveTheirWay past) (judged : JudgedAsCarried past) (passes : PassesAreUnclashed past)
      (replies : RepliesCarryTheirJudgement past) (numbers : CallsHaveNumbers past) (clear : past.book.clash ≡ false) where
    requested_in : (found : Option Sent) (k : ℕ) (channel : ChannelIdentity) (j : Judging) (request number : ℕ) → slice_get past.book.judged k ≡ Some j → j.source ≡ InUnit request →
        slice_get past.book.sent request ≡ found → not (is_channel (sent_channel found) channel) ≡ false → j.number ≡ number → IsRequested channel number request
    requested_in None k channel j request number at came there on numbered = absurd (let x = on in cc)
    requested_in (Some one) k channel j request number at came there on numbered =
        let is : IsJudgedAsCarried past j request = judged_at judged k j request at came in
        requested_by one.mark one channel j request number is refl there (not_false (is_channel (mark_channel one.mark) channel) on)
        (λ isn't. whole request is.carrier one is.there there isn't) numbered

    -- of a call that passed on the channel
    pub called : (k : ℕ) (channel : ChannelIdentity) (j : Judging) (request number : ℕ) → slice_get past.book.judged k ≡ Some j → passed_channel j ≡ Some channel → j.source ≡ InUnit request →
        j.number ≡ number → IsRequested channel number request
    called k channel j request number at passed came numbered =
        let free : clashes (passed_channel j) (unit_in j.source) past.book.sent ≡ false =
        got_all (λ (one : Judging). clashes (passed_channel one) (unit_in one.source) past.book.sent ≡ false) past.book.judged k j (passes clear) at in
        requested_in (slice_get past.book.sent request) k channel j request number at came refl
        (sym (ap (λ (from : Source). clashes (passed_channel j) (unit_in from) past.book.sent) came
        ∙ ap (λ (c : Option ChannelIdentity). clashes c (Some request) past.book.sent) passed) ∙ free)
        numbered

    pub requested : (k : ℕ) (channel : ChannelIdentity) (j : Judging) (request number : ℕ) (bytes : List ℕ) → slice_get past.book.judged k ≡ Some j → IsReplyOfCall channel number request j bytes →
        IsRequested channel number request
    requested k channel j request number bytes at reply = called k channel j request number at reply.passed reply.came reply.call

    module _ (apart : OpeningsAreApart past) where
      -- the unit that was taken was made as the reply to the call, on a channel with the controller of which is asked
      pub record RepliesTo (taken : CallTaken) : Type 0 where
        pub channel : ChannelIdentity
        pub number : ℕ
        pub sent : Sent
        pub there : slice_get past.book.sent taken.reply ≡ Some sent
        pub mark : sent.mark ≡ ReplyTo channel number taken.call
        pub controller : AsksOf taken.requester past channel.controller

      -- by the mark of the unit
      replies_by : (mark : Mark) (taken : CallTaken) (is : IsTakenInTurn past taken) → is.sent.mark ≡ mark → mark_channel mark ≡ Some is.named → IsItsWay is.carrier.back mark →
          ((IsPlain mark → ⊥) → IsWholeAsMarked mark (plain_form past.book.sent taken.reply is.carrier)) → IsReplyOfOne past.book.judged taken.reply (plain_form past.book.sent taken.reply is.carrier) mark → RepliesTo taken
      replies_by Plain taken is marked made goes fit replied = absurd (let x = made in cc)
      replies_by (Opening c k) taken is marked made goes fit replied = absurd (let x = sym is.back ∙ goes in cc)
      replies_by (Opened c k r) taken is marked made goes fit replied =
          let its = fit (λ none. none) in
          elim is.answer [
            | inl logon ↦ absurd (its.marked.1 (subst IsReadAsLogon (one_unit (plain_form past.book.sent taken.reply is.carrier) is.whole its.whole) logon))
            | inr set ↦
                -- the reply has the number of the opening, which is not that of the call
                (let asked : AnswersOpening past c k r taken.reply is.sent.at = apart.answered clear taken.reply is.sent c k r is.noted marked in
                let small : k < 2 ^ 32 = apart.small r k asked.named asked.sent asked.there asked.mark in
                let named : c ≡ is.named = some_is c is.named made in
                let wrapped : k % 2 ^ 32 ≡ is.number =
                sym its.marked.2 ∙ ap (λ (unit : RpcUnit). unit.call) (one_unit (plain_form past.book.sent taken.reply is.carrier) its.whole is.whole) ∙ is.has in
                let same : k ≡ is.number = omega (arith, small, wrapped) in
                let client : asked.named.client ≡ is.channel.client = asked.same.client ∙ ap (λ (d : ChannelIdentity). d.client) named ∙ is.same.client in
                let found : r ≡ taken.call =
                apart.numbers r taken.call is.number asked.named is.channel asked.sent is.out asked.there is.asked
                (subst (λ (m : Mark). IsRequest asked.named is.number m) (sym asked.mark) (refl, same))
                (subst (λ (m : Mark). IsRequest is.channel is.number m) (sym is.mark) (refl, refl)) client in
                let one : asked.sent ≡ is.out = some_is asked.sent is.out (sym asked.there ∙ ap (slice_get past.book.sent) found ∙ is.asked) in
                let never : Opening asked.named k ≡ Calling is.channel is.number is.timestamp = sym asked.mark ∙ ap (λ (m : Sent). m.mark) one ∙ is.mark in
                absurd (let x = never in cc))
          ]
      replies_by (Calling c k t) taken is marked made goes fit replied = absurd (let x = sym is.back ∙ goes in cc)
      replies_by (ReplyTo c k r) taken is marked made goes fit replied =
          let its = fit (λ none. none) in
          let one = placed (λ (j : Judging). (j.reply ≡ Some taken.reply) × IsReplyOfCall c k r j (plain_form past.book.sent taken.reply is.carrier)) past.book.judged replied in
          let asked : IsRequested c k r = requested one.place c one.item r k (plain_form past.book.sent taken.reply is.carrier) one.there one.is.1 in
          let named : c ≡ is.named = some_is c is.named made in
          let same : k ≡ is.number = sym its.marked.1 ∙ ap (λ (unit : RpcUnit). unit.call) (one_unit (plain_form past.book.sent taken.reply is.carrier) its.whole is.whole) ∙ is.has in
          let client : asked.named.client ≡ is.channel.client = asked.same.client ∙ ap (λ (d : ChannelIdentity). d.client) named ∙ is.same.client in
          let found : r ≡ taken.call =
          numbers r taken.call is.number asked.timestamp is.timestamp asked.named is.channel asked.sent is.out asked.there is.asked
          (asked.mark ∙ ap (λ (m : ℕ). Calling asked.named m asked.timestamp) same) is.mark client in
          record {
            channel = c;
            number = k;
            sent = is.sent;
            there = is.noted;
            mark = marked ∙ ap (λ (request : ℕ). ReplyTo c k request) found;
            controller = subst (λ (at : ℕ). AsksOf taken.requester past at) (sym (ap (λ (d : ChannelIdentity). d.controller) named ∙ is.same.controller)) is.controller;
          }

      pub replies_to : (taken : CallTaken) → IsTakenInTurn past taken → RepliesTo taken
      replies_to taken is =
          replies_by is.sent.mark taken is refl is.made (way taken.reply is.carrier is.sent is.there is.noted) (λ isn't. whole taken.reply is.carrier is.sent is.there is.noted isn't)
          (replies taken.reply is.carrier is.sent is.there is.noted)

      answered : (message : MessageTaken) (u : ℕ) → IsAnsweredInTurn past message u → IsAnsweredIn past message u
      answered message u its =
          let its_reply : RepliesTo its.taken = replies_to its.taken its.turn in
          record {
            channel = its_reply.channel;
            number = its_reply.number;
            request = its.taken.call;
            sent = its_reply.sent;
            there = subst (λ (n : ℕ). slice_get past.book.sent n ≡ Some its_reply.sent) its.is.reply its_reply.there;
            mark = its_reply.mark;
            call = its.is.call;
            controller = subst (λ (who : RequesterId). AsksOf who past its_reply.channel.controller) its.is.requester its_reply.controller;
          }

      all_answered : AnswersAreInTurn past → AllByRecursion (λ (message : MessageTaken). (unit : ℕ) → message.reply ≡ Some unit → IsAnsweredIn past message unit) past.book.messages
      all_answered turns =
          all_by_place (λ (message : MessageTaken). (unit : ℕ) → message.reply ≡ Some unit → IsAnsweredIn past message unit) past.book.messages
          (λ k message at unit reply. answered message unit
          (got_all (λ (m : MessageTaken). (u : ℕ) → m.reply ≡ Some u → IsAnsweredInTurn past m u) past.book.messages k message (turns clear) at unit reply))

pub carried_heard : CarriedCallsAreHeard
carried_heard = record {
  alike = λ past judged. heard_alike past judged;
  asks = λ past judged called. asks_for past judged called;
  answers = λ past whole way judged passes replies numbers apart turns clear. all_answered past whole way judged passes replies numbers clear apart turns;
}
