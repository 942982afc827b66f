-- A member accepts only what its controller granted, and all of it, and client and member hold one key, where what is
-- said of units that are heard whole holds of the run. No call passes twice, since no seed comes round.
-- It serves `what_is_heard_is_accepted`.
use Rattle.std.proofs.Common.{◌≡◌, ◌↔◌, ℕ, ◌<◌, ◌&&◌, Bool, true, false, not, List, [], ◌∷◌, inl, inr, Option, Some, None, slice_get, refl, sym, ap, ap₂, ◌∙◌, subst}
use Rattle.std.specs.Prelude.{replicate}
use Rattle.std.specs.List.{AllByRecursion}
use Rattle.std.proofs.lemmas.Bool.Decides.{Decides-eqb}
use Rattle.std.proofs.lemmas.Slice.Eq.{bytes_eq-Decides}
use Rattle.authenticators.specs.Channels.{ChannelIdentity, SameChannel, channel_key, same_channel}
use Rattle.authenticators.proofs.ChannelLaws.{same_channel-Decides}
use Rattle.outside.specs.declared.action.Judged.TheVariants as judged
use Rattle.outside.specs.declared.action.Outcome.{Outcome}
use Rattle.outside.specs.declared.action.Outcome.TheVariants as outcome
use Rattle.logon_stubs.specs.declared.calls.LogonCall.{LogonCall}
use Rattle.logon_stubs.specs.declared.info.NetworkInfo.{NetworkInfo}
use Rattle.logon_stubs.specs.declared.info.SamInfo.{SamInfo}
use Rattle.logon_stubs.specs.declared.info.Verdict.{Verdict}
use Rattle.logon_stubs.specs.declared.info.Verdict.TheVariants.{Granted, Status}
use Rattle.rc4_stream.specs.Rc4.{applied}
use Rattle.rc4_stream.proofs.Rc4Laws.{applied-applied}
use Rattle.channel_keys.specs.Hidden.{crypt_by, crypt_key, is_zero}
use Rattle.authenticators.specs.SecureChannels.{SecureChannelState, channel_of}
use Rattle.ntlm_responses.specs.Verification.{base_key_of}
use Rattle.account_table.specs.AccountTable.{AccountTable}
use Rattle.account_table.specs.LookUps.{account_in}
use Rattle.account_table.specs.declared.account.Account.{Account}
use Rattle.sam_logon.specs.Granting.{sam_info_of}
use Rattle.sam_logon.specs.MayLogOn.{MayLogOn, ResponseVerifies}
use Rattle.domain_controller.specs.Machine.{status_of}
use Rattle.domain_controller.proofs.TrustPlaceLaws.{got_all}
use Rattle.member_server.specs.Outcomes.{key_in, outcome_of}
use Rattle.member_server.specs.Turns.{ending_of}
use Rattle.member_server.specs.declared.state.Logon.{Logon}
use Rattle.wire_base.specs.Lists.{OneOf}
use Rattle.channel_events.specs.Marks.{ReplyTo}
use Rattle.step_notes.specs.ControllerNotes.{identity_by, channel_in, has_passed}
use Rattle.step_notes.specs.Judged.{IsJudgedRight, IsNextOn, IsOfName, base_key_asked, channel_if, hash_in, passed_channel, stored_hash}
use Rattle.step_notes.specs.Marking.{clashes, is_channel, sent_channel}
use Rattle.step_notes.specs.Records.{ChallengeSent, InUnit, JudgementTold, Judging, MessageMade, MessageTaken, OutcomeTold, Outside, Sent, Source, computer_named, given_in, unit_in}
use Rattle.controller_calls.specs.declared.calls.JudgedCall.TheVariants.{Network}
use Rattle.step_notes.specs.ReplySends.{IsReplyOfCall, done_on, verdict_passed}
use Rattle.world_moves.specs.declared.bag.BagUnit.{BagUnit}
use Rattle.world_moves.specs.Counting.{is_in}
use Rattle.domain_world.specs.Accepting.Answered.{AnswersAreHeard, AsksForIt, IsAnsweredIn, IsLetInAsRead, AnswersAreJudged, IsToldAsRead, outcome_read, verdict_read}
use Rattle.domain_world.specs.Claims.{AcceptsAllGranted, AcceptsOnlyGranted, AreRightlyTold, AreTheirJudgements, HasController, HasKey, IsAccepted, IsClear, IsGrantedBy, IsItsControllersAnswer, IsMadeFor, IsToldIn, KeysAgree, PassesOnce, TravelsAsZeros, answers, info_asked, judgements_of_calls, key_bytes, passed_on, same_unit, taken_answer}
use Rattle.domain_world.specs.Claims.Counts.{EachCallRaisesOnce}
use Rattle.domain_world.specs.Claims.Grants.{IsToBeGranted}
use Rattle.domain_world.specs.Claims.OwnChallenges.{HasOwnChallenge}
use Rattle.domain_world.specs.Claims.Replies.{IsReplyOfOne}
use Rattle.domain_world.specs.Past.{Past, plain_form}
use Rattle.wire_base.proofs.ListLaws.{one_weaker, some_is}
use Rattle.channel_events.proofs.SameLaws.{itself, one_channel, same_back, same_on}
use Rattle.step_notes.proofs.Controllers.GrantVerdictLaws.{IsServedGrant, served_grant}
use Rattle.step_notes.proofs.Controllers.JudgedCallLaws.{of_network, status_done}
use Rattle.step_notes.proofs.Controllers.JudgedStepLaws.{same_status}
use Rattle.wire_base.proofs.ListPlaceLaws.{Cut, Placed, all_by_place, apart_same, cut_twice, first_found, found_is, one_at, ordered, placed}
use Rattle.domain_world.proofs.Moves.MarkPlaceLaws.{got_beside}
use Rattle.domain_world.proofs.Judgements.MovedLaws.{IsFound, passed_in}

-- ---- tests

pub both_true : (one other : Bool) → (one && other) ≡ true → (one ≡ true) × (other ≡ true)
both_true true true is = (refl, refl)
both_true true false is = absurd (let x = is in cc)
both_true false other is = absurd (let x = is in cc)

not_false : (one : Bool) → not one ≡ false → one ≡ true
not_false true is = refl
not_false false is = absurd (let x = is in cc)

-- a unit that both have
pub record AreInUnit (one other : Option ℕ) : Type 0 where
  pub unit : ℕ
  pub first : one ≡ Some unit
  pub second : other ≡ Some unit

pub in_unit : (one other : Option ℕ) → same_unit one other ≡ true → AreInUnit one other
in_unit None other is = absurd (let x = is in cc)
in_unit (Some one) None is = absurd (let x = is in cc)
in_unit (Some one) (Some other) is = record { unit = one; first = refl; second = ap Some (sym ((Decides-eqb one other).0 is)) }

-- bytes that came in a unit came from there
pub came_in : (source : Source) (unit : ℕ) → unit_in source ≡ Some unit → source ≡ InUnit unit
came_in (InUnit number) unit is = ap InUnit (some_is number unit is)
came_in Outside unit is = absurd (let x = is in cc)

pub unit_same : (unit : ℕ) → same_unit (Some unit) (Some unit) ≡ true
unit_same unit = (Decides-eqb unit unit).1 refl

-- ---- the judging that answers a message

pub record IsAnswerOf (message : MessageTaken) (j : Judging) : Type 0 where
  pub passed : has_passed j.how ≡ true
  pub call : AreInUnit message.call (unit_in j.source)
  pub reply : AreInUnit message.reply j.reply

answers_are : (message : MessageTaken) (j : Judging) → answers message j ≡ true → IsAnswerOf message j
answers_are message j is =
    let first = both_true (has_passed j.how && same_unit message.call (unit_in j.source)) (same_unit message.reply j.reply) is in
    let second = both_true (has_passed j.how) (same_unit message.call (unit_in j.source)) first.0 in
    record { passed = second.0; call = in_unit message.call (unit_in j.source) second.1; reply = in_unit message.reply j.reply first.1 }

pub are_answers : (message : MessageTaken) (j : Judging) (request unit : ℕ) → has_passed j.how ≡ true → message.call ≡ Some request → j.source ≡ InUnit request → message.reply ≡ Some unit → j.reply ≡ Some unit →
    answers message j ≡ true
are_answers message j request unit passed call came reply sent =
    ap (λ (p : Bool). p && same_unit message.call (unit_in j.source) && same_unit message.reply j.reply) passed
    ∙ ap₂ (λ (one other : Option ℕ). same_unit one other && same_unit message.reply j.reply) call (ap unit_in came)
    ∙ ap (λ (p : Bool). p && same_unit message.reply j.reply) (unit_same request)
    ∙ ap₂ (λ (one other : Option ℕ). same_unit one other) reply sent
    ∙ unit_same unit

-- ---- channels

pub record StandsFor (j : Judging) : Type 0 where
  pub channel : ChannelIdentity
  pub found : channel_in j.controller (computer_named j.asked) j.checks ≡ Some channel
  pub passed : passed_channel j ≡ Some channel

stands_by : (name : Option (List ℕ)) (j : Judging) → computer_named j.asked ≡ name → IsOfName name j.checks → IsNextOn j.checks (given_in j.asked) → has_passed j.how ≡ true → StandsFor j
stands_by None j named none next passed = absurd (let both : None ≡ Some next.channel = sym none ∙ next.stands in let x = both in cc)
stands_by (Some computer) j named none next passed =
    let found : channel_in j.controller (computer_named j.asked) j.checks ≡ Some (channel_of j.controller computer next.channel) =
    ap (λ (name : Option (List ℕ)). channel_in j.controller name j.checks) named ∙ ap (λ (c : _). identity_by j.controller computer c) next.stands in
    record { channel = channel_of j.controller computer next.channel; found = found; passed = ap (λ (p : Bool). channel_if p j) passed ∙ found }

pub channel_there : (j : Judging) → IsJudgedRight j → has_passed j.how ≡ true → StandsFor j
channel_there j right passed = stands_by (computer_named j.asked) j refl right.named (right.right.passed.0 passed) passed

-- the channel that a unit was made for is the one on which a credential passed in it
pub record IsMade (made : Option ChannelIdentity) (channel : ChannelIdentity) : Type 0 where
  pub named : ChannelIdentity
  pub is : made ≡ Some named
  pub same : SameChannel named channel

on_made : (made : Option ChannelIdentity) (channel : ChannelIdentity) → not (is_channel made channel) ≡ false → IsMade made channel
on_made None channel is = absurd (let x = is in cc)
on_made (Some named) channel is = record { named = named; is = refl; same = one_channel named channel (not_false (same_channel named channel) is) }

pub made_for : (j : Judging) (channel : ChannelIdentity) (unit : ℕ) (sent : List Sent) → passed_channel j ≡ Some channel → j.source ≡ InUnit unit → clashes (passed_channel j) (unit_in j.source) sent ≡ false →
    IsMade (sent_channel (slice_get sent unit)) channel
made_for j channel unit sent passed came none =
    on_made (sent_channel (slice_get sent unit)) channel (ap₂ (λ (c : Option ChannelIdentity) (from : Source). clashes c (unit_in from) sent) (sym passed) (sym came) ∙ none)

right_told : (told : List JudgementTold) (judgings : List Judging) → AreTheirJudgements told judgings → AllByRecursion IsJudgedRight judgings
right_told [] [] are = tt
right_told [] (j ∷ judgings) are = absurd are
right_told (one ∷ told) [] are = absurd are
right_told (one ∷ told) (j ∷ judgings) are = (are.0.right, right_told told judgings are.1)

right_judged : (told : List JudgementTold) (judgings : List Judging) → AreRightlyTold told judgings → AllByRecursion IsJudgedRight judgings
right_judged told judgings are = right_told (judgements_of_calls told) judgings are

-- ---- what is granted

may_plain : (table : AccountTable) (info : NetworkInfo) (now place : ℕ) → MayLogOn table (record info { logon_id = place }) now → MayLogOn table info now
may_plain table info now place may = record { there = may.there; taken_response = may.taken_response }

may_placed : (table : AccountTable) (info : NetworkInfo) (now place : ℕ) → MayLogOn table info now → MayLogOn table (record info { logon_id = place }) now
may_placed table info now place may = record { there = may.there; taken_response = may.taken_response }

pub status_zero : (key : List ℕ) (verdict : Verdict) (logon : Logon) → is_in (outcome_of (ending_of (verdict_read key verdict)) logon) ≡ true → status_of verdict ≡ 0
status_zero key (Granted info) logon is = refl
status_zero key (Status status) logon is = absurd (let x = is in cc)

let_in_by : (key : List ℕ) (verdict : Verdict) (logon : Logon) (info : _) → verdict ≡ Granted info → is_in (outcome_of (ending_of (verdict_read key verdict)) logon) ≡ true
let_in_by key (Granted granted) logon info is = refl
let_in_by key (Status status) logon info is = absurd (let x = is in cc)

pub passed_of : (passed : Bool) (j : Judging) (channel : ChannelIdentity) → has_passed j.how ≡ passed → channel_if passed j ≡ Some channel → has_passed j.how ≡ true
passed_of true j channel is on = is
passed_of false j channel is on = absurd (let x = on in cc)

-- ---- keys

-- a key that doesn't travel as zeros is hidden and shown again
shown_by : (nothing : Bool) (key base : List ℕ) → is_zero (applied key 0 base) ≡ nothing → (base ≡ applied key 0 (replicate 16 0) → ⊥) → crypt_by nothing key (applied key 0 base) ≡ base
shown_by false key base is never = applied-applied key 0 base
shown_by true key base is never =
    absurd (never (sym (applied-applied key 0 base) ∙ ap (applied key 0) ((bytes_eq-Decides (applied key 0 base) (replicate 16 0)).0 is)))

hidden_by : (nothing : Bool) (key base : List ℕ) → is_zero base ≡ nothing → (base ≡ applied key 0 (replicate 16 0) → ⊥) → crypt_key key (crypt_by nothing key base) ≡ base
hidden_by true key base is never = ap (λ (nothing : Bool). crypt_by nothing key base) is
hidden_by false key base is never = shown_by (is_zero (applied key 0 base)) key base refl never

crypt_twice : (key base : List ℕ) → (base ≡ applied key 0 (replicate 16 0) → ⊥) → crypt_key key (crypt_key key base) ≡ base
crypt_twice key base never = hidden_by (is_zero base) key base refl never

key_read : (key : List ℕ) (verdict : Verdict) (info : SamInfo) (logon : Logon) (other : List ℕ) → verdict ≡ Granted info →
    key_in (record info { key = crypt_key key (crypt_key key info.key) }) logon ≡ other → HasKey (outcome_of (ending_of (verdict_read key verdict)) logon) other
key_read key (Granted granted) info logon other is same =
    let one : granted ≡ info = (let x = is in cc) in
    subst (λ (i : SamInfo). key_in (record i { key = crypt_key key (crypt_key key i.key) }) logon ≡ other) (sym one) same
key_read key (Status status) info logon other is same = absurd (let x = is in cc)

if_in : (how : Outcome) (key : List ℕ) → (is_in how ≡ true → HasKey how key) → HasKey how key
if_in (outcome.In domain user own) key so = so refl
if_in (outcome.Out status) key so = tt
if_in (outcome.NoController cause) key so = tt

-- ---- a run

-- the judging that answers a message, in the unit that was taken
pub record IsJudgedAs (past : Past) (message : MessageTaken) (unit : ℕ) : Type 0 where
  pub in_reply : IsAnsweredIn past message unit
  pub carrier : BagUnit
  pub carried : slice_get past.world.state.bag unit ≡ Some carrier
  pub j : Judging
  pub place : ℕ
  pub there : slice_get past.book.judged place ≡ Some j
  pub of : IsReplyOfCall in_reply.channel in_reply.number in_reply.request j (plain_form past.book.sent unit carrier)
  pub passed : has_passed j.how ≡ true
  pub taken : taken_answer message past.book.judged ≡ Some j
  pub with_controller : HasController (slice_get past.plan.members message.member) past.world.state.ends j.controller

module _ (past : Past) (known : AnswersAreJudged past) (heard : AnswersAreHeard past) (clear : IsClear past.book) where
  abbrev all_judged : List Judging
  all_judged = past.book.judged

  pub right_at : (k : ℕ) (j : Judging) → slice_get all_judged k ≡ Some j → IsJudgedRight j
  right_at k j there = got_all IsJudgedRight all_judged k j (right_judged past.book.judgements all_judged known.credentials) there

  pub made_at : (k : ℕ) (j : Judging) (channel : ChannelIdentity) (unit : ℕ) → slice_get all_judged k ≡ Some j → passed_channel j ≡ Some channel → j.source ≡ InUnit unit →
      IsMade (sent_channel (slice_get past.book.sent unit)) channel
  made_at k j channel unit there passed came =
      made_for j channel unit past.book.sent passed came
      (got_all (λ (one : Judging). clashes (passed_channel one) (unit_in one.source) past.book.sent ≡ false) all_judged k j (heard.passes clear.apart) there)

  -- no call passes twice
  pub no_twice : (k l : ℕ) (second first : Judging) (unit : ℕ) → k < l → slice_get all_judged k ≡ Some second → slice_get all_judged l ≡ Some first → has_passed second.how ≡ true →
      has_passed first.how ≡ true → second.source ≡ InUnit unit → first.source ≡ InUnit unit → ⊥
  no_twice k l second first unit before at_second at_first passed_second passed_first came_second came_first =
      let cut : Cut all_judged second first = cut_twice all_judged k l second first before at_second at_first in
      let early : StandsFor first = channel_there first (right_at l first at_first) passed_first in
      let late : StandsFor second = channel_there second (right_at k second at_second) passed_second in
      let made_early = made_at l first early.channel unit at_first early.passed came_first in
      let made_late = made_at k second late.channel unit at_second late.passed came_second in
      let one : made_late.named ≡ made_early.named = some_is made_late.named made_early.named (sym made_late.is ∙ made_early.is) in
      let same : SameChannel late.channel early.channel =
      same_on late.channel made_late.named early.channel (same_back made_late.named late.channel made_late.same)
      (subst (λ (c : ChannelIdentity). SameChannel c early.channel) (sym one) made_early.same) in
      let is_same : same_channel late.channel early.channel ≡ true = (same_channel-Decides late.channel early.channel).1 same in
      let alike : second.asked ≡ first.asked =
      got_all (λ (other : Judging). (u : ℕ) → second.source ≡ InUnit u → other.source ≡ InUnit u → second.asked ≡ other.asked) all_judged l first
      (got_all (λ (j : Judging). AllByRecursion (λ (other : Judging). (u : ℕ) → j.source ≡ InUnit u → other.source ≡ InUnit u → j.asked ≡ other.asked) all_judged) all_judged k second heard.alike at_second)
      at_first unit came_second came_first in
      let first_on : passed_on early.channel first ≡ true = ap (λ (c : Option ChannelIdentity). is_channel c early.channel) early.passed ∙ itself early.channel in
      let law = known.replays early.channel cut.later cut.between cut.earlier second first cut.is first_on
      (ap (λ (c : Option ChannelIdentity). is_channel c early.channel) late.found ∙ is_same) (ap given_in alike) in
      clear.onward (record {
        channel = early.channel;
        later = cut.later;
        second = second;
        between = cut.between;
        first = first;
        earlier = cut.earlier;
        all = cut.is;
        first_passed = first_on;
        second_passed = ap (λ (c : Option ChannelIdentity). is_channel c early.channel) late.passed ∙ is_same;
        around = law.0 passed_second;
      })

  -- of the calls that came in one unit one alone passed
  one_pass : (k l : ℕ) (one other : Judging) (unit : ℕ) → slice_get all_judged k ≡ Some one → slice_get all_judged l ≡ Some other → has_passed one.how ≡ true → has_passed other.how ≡ true →
      one.source ≡ InUnit unit → other.source ≡ InUnit unit → one ≡ other
  one_pass k l one other unit here there passed also came too = elim (ordered k l) [
    | inl before ↦ absurd (no_twice k l one other unit before here there passed also came too)
    | inr rest ↦ elim rest [
      | inl behind ↦ absurd (no_twice l k other one unit behind there here also passed too came)
      | inr place ↦ some_is one other (sym here ∙ ap (λ (n : ℕ). slice_get all_judged n) place ∙ there)
    ]
  ]

  -- at most one judging of a call that a unit carried raises a count
  pub raises_once : EachCallRaisesOnce past
  raises_once k l unit first second here there came too raised also = elim (ordered k l) [
    | inl before ↦ absurd (no_twice k l first second unit before here there raised.passed also.passed came too)
    | inr rest ↦ elim rest [
      | inl behind ↦ absurd (no_twice l k second first unit behind there here also.passed raised.passed too came)
      | inr place ↦ place
    ]
  ]

  passes_once : (k : ℕ) (j : Judging) (unit : ℕ) → slice_get all_judged k ≡ Some j → has_passed j.how ≡ true → j.source ≡ InUnit unit → PassesOnce j all_judged
  passes_once k j unit there passed came =
      all_by_place (λ (other : Judging). has_passed other.how && same_unit (unit_in other.source) (unit_in j.source) ≡ true → other.at ≡ j.at) all_judged
      (λ l other here both.
      let is = both_true (has_passed other.how) (same_unit (unit_in other.source) (unit_in j.source)) both in
      let in_one : AreInUnit (unit_in other.source) (unit_in j.source) = in_unit (unit_in other.source) (unit_in j.source) is.1 in
      ap (λ (one : Judging). one.at) (one_pass l k other j in_one.unit here there is.0 passed
      (came_in other.source in_one.unit in_one.first) (came_in j.source in_one.unit in_one.second)))

  -- the answer that was taken for a message
  pub judged_as : (place : ℕ) (message : MessageTaken) (unit : ℕ) → slice_get past.book.messages place ≡ Some message → message.reply ≡ Some unit → IsJudgedAs past message unit
  judged_as place message unit there reply =
      let is : IsAnsweredIn past message unit =
      got_all (λ (m : MessageTaken). (u : ℕ) → m.reply ≡ Some u → IsAnsweredIn past m u) past.book.messages place message (heard.answers clear.apart) there unit reply in
      let carrier = got_beside past.book.sent past.world.state.bag unit is.sent known.marked is.there in
      let one : OneOf (λ (j : Judging). (j.reply ≡ Some unit) × IsReplyOfCall is.channel is.number is.request j (plain_form past.book.sent unit carrier.0)) all_judged =
      subst (λ (m : _). IsReplyOfOne all_judged unit (plain_form past.book.sent unit carrier.0) m) is.mark (known.replies unit carrier.0 is.sent carrier.1 is.there) in
      let at = placed (λ (j : Judging). (j.reply ≡ Some unit) × IsReplyOfCall is.channel is.number is.request j (plain_form past.book.sent unit carrier.0)) all_judged one in
      let j : Judging = at.item in
      let of : IsReplyOfCall is.channel is.number is.request j (plain_form past.book.sent unit carrier.0) = at.is.1 in
      let passed : has_passed j.how ≡ true = passed_of (has_passed j.how) j is.channel refl of.passed in
      let found = first_found (answers message) all_judged at.place j at.there (are_answers message j is.request unit passed is.call of.came reply at.is.0) in
      let other : IsAnswerOf message found.item = answers_are message found.item found.passes in
      let request : other.call.unit ≡ is.request = some_is other.call.unit is.request (sym other.call.first ∙ is.call) in
      let same : found.item ≡ j = one_pass found.place at.place found.item j is.request found.there at.there other.passed passed (came_in found.item.source is.request (other.call.second ∙ ap Some request)) of.came in
      let on : IsFound j.controller (computer_named j.asked) j.checks is.channel = passed_in j is.channel of.passed in
      record {
        in_reply = is;
        carrier = carrier.0;
        carried = carrier.1;
        j = j;
        place = at.place;
        there = at.there;
        of = of;
        passed = passed;
        taken = found.is ∙ ap Some same;
        with_controller = subst (λ (n : ℕ). HasController (slice_get past.plan.members message.member) past.world.state.ends n) (sym (ap (λ (c : ChannelIdentity). c.controller) on.is)) is.controller;
      }

  its_answer : (message : MessageTaken) (unit : ℕ) (judged_so : IsJudgedAs past message unit) → IsItsControllersAnswer past message judged_so.j
  its_answer message unit judged_so = record {
    taken = judged_so.taken;
    controller = judged_so.with_controller;
    once = passes_once judged_so.place judged_so.j judged_so.in_reply.request judged_so.there judged_so.passed judged_so.of.came;
  }

  asks_at : (place : ℕ) (message : MessageTaken) (unit : ℕ) → slice_get past.book.messages place ≡ Some message → (judged_so : IsJudgedAs past message unit) → AsksForIt message judged_so.j
  asks_at place message unit there judged_so =
      got_all (λ (j : Judging). (u : ℕ) → message.call ≡ Some u → j.source ≡ InUnit u → AsksForIt message j) all_judged judged_so.place judged_so.j
      (got_all (λ (m : MessageTaken). AllByRecursion (λ (j : Judging). (u : ℕ) → m.call ≡ Some u → j.source ≡ InUnit u → AsksForIt m j) all_judged) past.book.messages place message heard.asks there)
      judged_so.there judged_so.in_reply.request judged_so.in_reply.call judged_so.of.came

  -- what the member told of it
  told_as : (place : ℕ) (message : MessageTaken) (unit : ℕ) → slice_get past.book.messages place ≡ Some message → message.reply ≡ Some unit → (judged_so : IsJudgedAs past message unit) →
      OneOf (IsToldAsRead judged_so.in_reply.channel message judged_so.j) past.book.told
  told_as place message unit there reply judged_so =
      got_all (λ (m : MessageTaken). (u : ℕ) → m.reply ≡ Some u → (carrier : BagUnit) (sent : Sent) (channel : ChannelIdentity) (number request k : ℕ) (j : Judging) →
      slice_get past.world.state.bag u ≡ Some carrier → slice_get past.book.sent u ≡ Some sent → slice_get past.book.judged k ≡ Some j → sent.mark ≡ ReplyTo channel number request →
      IsReplyOfCall channel number request j (plain_form past.book.sent u carrier) → OneOf (IsToldAsRead channel m j) past.book.told) past.book.messages place message (heard.told clear.apart) there unit reply
      judged_so.carrier judged_so.in_reply.sent judged_so.in_reply.channel judged_so.in_reply.number judged_so.in_reply.request judged_so.place judged_so.j judged_so.carried judged_so.in_reply.there judged_so.there judged_so.in_reply.mark judged_so.of

  -- what is told where somebody is let in is what is read in the reply
  read_at : (k : ℕ) (told : OutcomeTold) → slice_get past.book.told k ≡ Some told → is_in told.outcome ≡ true → Placed (IsLetInAsRead past told) past.book.messages
  read_at k told here is =
      placed (IsLetInAsRead past told) past.book.messages
      (got_all (λ (t : OutcomeTold). is_in t.outcome ≡ true → OneOf (IsLetInAsRead past t) past.book.messages) past.book.told k told (heard.let_in clear.apart) here is)

  read_is : (message : MessageTaken) (told : OutcomeTold) (by : IsLetInAsRead past told message) (judged_so : IsJudgedAs past message by.unit) (asks : AsksForIt message judged_so.j) →
      told.outcome ≡ outcome_read judged_so.in_reply.channel judged_so.j message asks.call
  read_is message told by judged_so asks =
      of_network (λ (c : LogonCall). told.outcome ≡ outcome_read judged_so.in_reply.channel judged_so.j message c) judged_so.j.asked asks.call asks.is
      (by.outcome judged_so.carrier judged_so.in_reply.sent judged_so.in_reply.channel judged_so.in_reply.number judged_so.in_reply.request judged_so.place judged_so.j judged_so.carried judged_so.in_reply.there judged_so.there judged_so.in_reply.mark judged_so.of)

  granted_at : (k : ℕ) (j : Judging) (c : LogonCall) → slice_get all_judged k ≡ Some j → j.asked ≡ Network c → (j.how ≡ Some (judged.Passed 0)) ↔ IsToBeGranted j c
  granted_at k j c there asks =
      of_network (λ (call : LogonCall). (j.how ≡ Some (judged.Passed 0)) ↔ IsToBeGranted j call) j.asked c asks (got_all _ all_judged k j known.grants there).granted

  granted_so : (message : MessageTaken) (k : ℕ) (j : Judging) → slice_get all_judged k ≡ Some j → AsksForIt message j → j.how ≡ Some (judged.Passed 0) → IsGrantedBy message j
  granted_so message k j there asks how =
      let so : IsToBeGranted j asks.call = (granted_at k j asks.call there asks.is).0 how in
      record {
        may = may_plain j.table (info_asked message) j.moment message.place (subst (λ (info : NetworkInfo). MayLogOn j.table info j.moment) asks.info so.may);
        verifies = subst (λ (info : NetworkInfo). ResponseVerifies j.table info) asks.info so.verifies;
      }

  to_be_granted : (message : MessageTaken) (k : ℕ) (j : Judging) → slice_get all_judged k ≡ Some j → AsksForIt message j → has_passed j.how ≡ true → IsGrantedBy message j →
      j.how ≡ Some (judged.Passed 0)
  to_be_granted message k j there asks passed granted =
      (granted_at k j asks.call there asks.is).1 (record {
        next = (right_at k j there).right.passed.0 passed;
        level = inr asks.level;
        may = subst (λ (info : NetworkInfo). MayLogOn j.table info j.moment) (sym asks.info) (may_placed j.table (info_asked message) j.moment message.place granted.may);
        verifies = subst (λ (info : NetworkInfo). ResponseVerifies j.table info) (sym asks.info) granted.verifies;
      })

  -- where somebody is let in by it, the verdict that was read is a grant
  is_zero_at : (message : MessageTaken) (told : OutcomeTold) (by : IsLetInAsRead past told message) (judged_so : IsJudgedAs past message by.unit) (asks : AsksForIt message judged_so.j) →
      is_in told.outcome ≡ true → status_of (verdict_passed judged_so.j asks.call) ≡ 0
  is_zero_at message told by judged_so asks is =
      status_zero (channel_key judged_so.in_reply.channel) (verdict_passed judged_so.j asks.call) message.logon (ap is_in (sym (read_is message told by judged_so asks)) ∙ is)

  passes_at : (message : MessageTaken) (told : OutcomeTold) (by : IsLetInAsRead past told message) (judged_so : IsJudgedAs past message by.unit) (asks : AsksForIt message judged_so.j) →
      is_in told.outcome ≡ true → judged_so.j.how ≡ Some (judged.Passed 0)
  passes_at message told by judged_so asks is =
      judged_so.of.carries.how
      ∙ ap (λ (status : ℕ). Some (judged.Passed status))
      (status_done judged_so.j asks.call judged_so.of.carries.next.channel asks.is ∙ is_zero_at message told by judged_so asks is)

  -- only so
  pub accepts_only : AcceptsOnlyGranted past
  accepts_only =
      all_by_place (λ (told : OutcomeTold). is_in told.outcome ≡ true →
      OneOf (λ (message : MessageTaken). (message.link ≡ told.link) × (message.member ≡ told.member) × IsAccepted past message) past.book.messages) past.book.told
      (λ k told here is.
      let one : Placed (IsLetInAsRead past told) past.book.messages = read_at k told here is in
      let message : MessageTaken = one.item in
      let by : IsLetInAsRead past told message = one.is in
      let judged_so : IsJudgedAs past message by.unit = judged_as one.place message by.unit one.there by.reply in
      let own : HasOwnChallenge past message = got_all (HasOwnChallenge past) past.book.messages one.place message known.own.each one.there in
      let asks : AsksForIt message judged_so.j = asks_at one.place message by.unit one.there judged_so in
      let how : judged_so.j.how ≡ Some (judged.Passed 0) = passes_at message told by judged_so asks is in
      one_at (λ (m : MessageTaken). (m.link ≡ told.link) × (m.member ≡ told.member) × IsAccepted past m) past.book.messages one.place message one.there (
        by.link,
        by.member,
        record {
          own = own.own;
          judging = judged_so.j;
          answer = its_answer message by.unit judged_so;
          granted = granted_so message judged_so.place judged_so.j judged_so.there asks how;
          unused = own.unused;
        },
      ))

  -- the verdict is a grant
  served_at : (j : Judging) (c : LogonCall) (channel : SecureChannelState) → j.asked ≡ Network c → j.how ≡ Some (judged.Passed (done_on j channel).status) → j.how ≡ Some (judged.Passed 0) →
      IsServedGrant j.table j.name j.moment c.info c.validation (verdict_passed j c)
  served_at j c channel asks how nothing =
      served_grant j.table j.name j.moment c.info c.validation (sym (status_done j c channel asks) ∙ same_status (done_on j channel).status 0 (sym how ∙ nothing))

  -- where a reply grants, the member accepts
  pub accepts_all : AcceptsAllGranted past
  accepts_all =
      all_by_place (λ (message : MessageTaken). (j : Judging) → IsItsControllersAnswer past message j → IsGrantedBy message j → OneOf (IsToldIn message) past.book.told) past.book.messages
      (λ place message there j answer granted.
      let found = found_is (answers message) all_judged j answer.taken in
      let is : IsAnswerOf message found.item = answers_are message found.item found.passes in
      let unit : ℕ = is.reply.unit in
      let judged_so : IsJudgedAs past message unit = judged_as place message unit there is.reply.first in
      let same : j ≡ judged_so.j = some_is j judged_so.j (sym answer.taken ∙ judged_so.taken) in
      let asks : AsksForIt message judged_so.j = asks_at place message unit there judged_so in
      let how : judged_so.j.how ≡ Some (judged.Passed 0) =
      to_be_granted message judged_so.place judged_so.j judged_so.there asks judged_so.passed (subst (λ (x : Judging). IsGrantedBy message x) same granted) in
      let served = served_at judged_so.j asks.call judged_so.of.carries.next.channel asks.is judged_so.of.carries.how how in
      one_weaker (IsToldAsRead judged_so.in_reply.channel message judged_so.j) (IsToldIn message) past.book.told
      (λ told read. (
        read.link,
        read.member,
        ap is_in
            (of_network (λ (c : LogonCall). told.outcome ≡ outcome_read judged_so.in_reply.channel judged_so.j message c) judged_so.j.asked asks.call asks.is read.outcome)
            ∙ let_in_by (channel_key judged_so.in_reply.channel) (verdict_passed judged_so.j asks.call) message.logon _ served.grant.is,
      )) (told_as place message unit there is.reply.first judged_so))

  -- ---- keys

  abbrev granted_key : LogonCall → Account → List ℕ
  granted_key c account = base_key_of account.hash c.info.user c.info.domain c.info.nt

  stored_is : (message : MessageTaken) (j : Judging) (account : Account) (asks : AsksForIt message j) → account_in j.table.accounts asks.call.info.user ≡ Some account →
      stored_hash j (info_asked message) ≡ account.hash
  stored_is message j account asks stored = ap hash_in (ap (λ (info : NetworkInfo). account_in j.table.accounts info.user) (sym asks.info) ∙ stored)

  base_is : (message : MessageTaken) (j : Judging) (account : Account) (asks : AsksForIt message j) → account_in j.table.accounts asks.call.info.user ≡ Some account →
      granted_key asks.call account ≡ base_key_asked j (info_asked message)
  base_is message j account asks stored =
      ap (λ (info : NetworkInfo). base_key_of account.hash info.user info.domain info.nt) asks.info
      ∙ ap (λ (hash : List ℕ). base_key_of hash (info_asked message).user (info_asked message).domain (info_asked message).nt) (sym (stored_is message j account asks stored))

  its_key : (place k c d : ℕ) (message : MessageTaken) (told : OutcomeTold) (j : Judging) (sent : ChallengeSent) (made : MessageMade) → slice_get past.book.messages place ≡ Some message →
      slice_get past.book.told k ≡ Some told → slice_get past.book.challenges c ≡ Some sent → slice_get past.book.made d ≡ Some made → message.link ≡ told.link →
      taken_answer message all_judged ≡ Some j → (TravelsAsZeros j (info_asked message) → ⊥) → IsMadeFor message sent j made → is_in told.outcome ≡ true → HasKey told.outcome made.key
  unfolding sam_info_of base_key_of
  its_key place k c d message told j sent made there here at_sent at_made link taken never is let_in =
      let one : Placed (IsLetInAsRead past told) past.book.messages = read_at k told here let_in in
      let same : one.item ≡ message =
      apart_same (λ (m : MessageTaken). m.link) past.book.messages heard.messages one.place place one.item message one.there there (one.is.link ∙ sym link) in
      let by : IsLetInAsRead past told message = subst (λ (m : MessageTaken). IsLetInAsRead past told m) same one.is in
      let judged_so : IsJudgedAs past message by.unit = judged_as place message by.unit there by.reply in
      let channel : ChannelIdentity = judged_so.in_reply.channel in
      let same_j : j ≡ judged_so.j = some_is j judged_so.j (sym taken ∙ judged_so.taken) in
      let asks : AsksForIt message judged_so.j = asks_at place message by.unit there judged_so in
      let outcome : told.outcome ≡ outcome_read channel judged_so.j message asks.call = read_is message told by judged_so asks in
      let served =
      served_at judged_so.j asks.call judged_so.of.carries.next.channel asks.is judged_so.of.carries.how (passes_at message told by judged_so asks let_in) in
      let account : Account = served.grant.account in
      let base : granted_key asks.call account ≡ base_key_asked judged_so.j (info_asked message) = base_is message judged_so.j account asks served.grant.stored in
      let lost : base_key_asked judged_so.j (info_asked message) ≡ applied (channel_key channel) 0 (replicate 16 0) → ⊥ =
      λ zeros. subst (λ (x : Judging). TravelsAsZeros x (info_asked message) → ⊥) same_j never (zeros ∙ ap key_bytes (sym judged_so.of.passed)) in
      let whole : crypt_key (channel_key channel) (crypt_key (channel_key channel) (granted_key asks.call account)) ≡ granted_key asks.call account =
      crypt_twice (channel_key channel) (granted_key asks.call account) (λ zeros. lost (sym base ∙ zeros)) in
      let hash : made.plan.hash ≡ stored_hash judged_so.j (info_asked message) = subst (λ (x : Judging). made.plan.hash ≡ stored_hash x (info_asked message)) same_j is.hash in
      let granted : SamInfo = sam_info_of judged_so.j.table judged_so.j.name account (granted_key asks.call account) judged_so.j.moment in
      let key = got_all (λ (m : MessageMade). sent.link ≡ message.link → m.challenge ≡ sent.bytes → m.bytes ≡ message.bytes → (info : SamInfo) →
      info.key ≡ base_key_of m.plan.hash (info_asked message).user (info_asked message).domain (info_asked message).nt → key_in info message.logon ≡ m.key) past.book.made d made
      (got_all (λ (s : ChallengeSent). AllByRecursion (λ (m : MessageMade). s.link ≡ message.link → m.challenge ≡ s.bytes → m.bytes ≡ message.bytes → (info : SamInfo) →
      info.key ≡ base_key_of m.plan.hash (info_asked message).user (info_asked message).domain (info_asked message).nt → key_in info message.logon ≡ m.key) past.book.made)
      past.book.challenges c sent
      (got_all (λ (t : MessageTaken). AllByRecursion (λ (s : ChallengeSent). AllByRecursion (λ (m : MessageMade). s.link ≡ t.link → m.challenge ≡ s.bytes → m.bytes ≡ t.bytes →
      (info : SamInfo) → info.key ≡ base_key_of m.plan.hash (info_asked t).user (info_asked t).domain (info_asked t).nt → key_in info t.logon ≡ m.key) past.book.made)
      past.book.challenges) past.book.messages place message heard.keys there) at_sent) at_made is.link is.challenge is.bytes
      (record granted { key = crypt_key (channel_key channel) (crypt_key (channel_key channel) granted.key) })
      (whole ∙ base ∙ ap (λ (h : List ℕ). base_key_of h (info_asked message).user (info_asked message).domain (info_asked message).nt) (sym hash)) in
      subst (λ (how : Outcome). HasKey how made.key) (sym outcome) (key_read (channel_key channel) (verdict_passed judged_so.j asks.call) granted message.logon made.key served.grant.is key)

  pub keys_agree : KeysAgree past
  keys_agree =
      all_by_place _ past.book.told (λ k told here. all_by_place _ past.book.messages (λ place message there link j taken never.
      all_by_place _ past.book.challenges (λ c sent at_sent. all_by_place _ past.book.made (λ d made at_made is.
      if_in told.outcome made.key (λ let_in. its_key place k c d message told j sent made there here at_sent at_made link taken never is let_in)))))
