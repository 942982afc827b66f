-- Where each call that was made on a channel is that of a turn, and is answered but for the one that is out, the
-- controller's seed is the requester's, or the one before the turn that is out: what passed on the channel are those
-- calls, each once.
-- It serves `Proved.sequences`.
use Rattle.std.proofs.Common.{◌≡◌, ◌⊎◌, ℕ, zero, suc, ◌+◌, ◌&&◌, Bool, true, false, List, [], ◌∷◌, ◌++◌, inl, inr, Option, Some, None, slice_get, refl, sym, ap, ap₂, subst, ◌∙◌, arith}
use Rattle.std.specs.List.{AllByRecursion}
use Rattle.std.specs.Prelude.{◌||◌}
use Rattle.std.proofs.lemmas.List.{map-append}
use Rattle.rpc_units.specs.declared.unit.Unit.{Unit as RpcUnit}
use Rattle.authenticators.specs.Channels.{ChannelIdentity, SameChannel}
use Rattle.authenticators.specs.Sequences.{add_to, moved_by}
use Rattle.authenticators.specs.SecureChannels.{SecureChannelState, channel_of}
use Rattle.authenticators.proofs.ChannelLaws.{same_channel-Decides}
use Rattle.channel_client.specs.declared.state.Pending.{Pending}
use Rattle.domain_controller.specs.declared.state.Running.{Running as ControllerRunning}
use Rattle.domain_controller.proofs.TrustPlaceLaws.{got_all}
use Rattle.wire_base.specs.Lists.{OneOf}
use Rattle.channel_events.specs.Marks.{Mark, Plain, Opening, Opened, Calling, ReplyTo}
use Rattle.channel_events.specs.Seeds.{channel_seed, client_credential}
use Rattle.channel_events.proofs.ChannelSeedLaws.{same_credential}
use Rattle.wire_base.proofs.ListLaws.{one_weaker, one_with, some_is}
use Rattle.channel_events.proofs.TimestampLaws.{moved_none, moved_one}
use Rattle.channel_events.proofs.SameLaws.{one_channel, same_back}
use Rattle.step_notes.specs.ControllerNotes.{has_passed}
use Rattle.step_notes.specs.Judged.{passed_channel}
use Rattle.step_notes.specs.Marking.{is_channel, mark_channel, sent_channel}
use Rattle.step_notes.specs.Records.{InUnit, Judging, Outside, Sent, Source, unit_in}
use Rattle.world_moves.specs.Draws.{DrawsDiffer}
use Rattle.step_notes.specs.ReplySends.{IsReplyOfCall}
use Rattle.domain_world.specs.Claims.Replies.{IsReplyOfOne}
use Rattle.domain_world.specs.Accepting.Answered.{AnswersAreHeard, AnswersAreJudged}
use Rattle.domain_world.proofs.Judgements.ReplyLaws.{replies_carry}
use Rattle.domain_world.proofs.Judgements.UnclashedLaws.{passes_unclashed}
use Rattle.domain_world.proofs.Calls.MarkWayLaws.{marks_have_their_way}
use Rattle.domain_world.specs.Accepting.Carried.{IsAsMarked, IsJudgedAsCarried, IsNotJudged, IsPlain, IsWholeAsMarked, JudgedAsCarried, MarkedUnitsAreWhole, call_carried}
use Rattle.domain_world.specs.Accepting.Sequences.{HavePassed, CallsAreStamped, CallsOfTurns, HasPassed, IsMadeOn, IsPassedIn, SequencesFollow, TakenCallsPass, TurnsAreCalled, stamps_of}
use Rattle.domain_world.specs.Claims.{IsClear, moved_on, passed_on, same_unit, judged_timestamp}
use Rattle.domain_world.specs.Claims.SharedSequences.{IsBeforeTurn, ChannelIsKept, SequencesAreOwn, SequencesAreShared, any_foreign, is_foreign, timestamps_on}
use Rattle.domain_world.specs.Past.{Past, past, plain_form}
use Rattle.domain_world.proofs.Acceptance.AnsweredLaws.{AreInUnit, IsMade, StandsFor, both_true, channel_there, in_unit, made_at, no_twice, passed_of, right_at, unit_same, came_in}
use Rattle.domain_world.proofs.Acceptance.AnsweredRunLaws.{answers_judged}
use Rattle.domain_world.proofs.Acceptance.CarriedLaws.{one_unit, replies_to}
use Rattle.domain_world.proofs.Acceptance.UnitLaws.{heard_in}
use Rattle.domain_world.proofs.Sequences.Own.TrustOwnLaws.{sequences_own}
use Rattle.wire_base.proofs.ListPlaceLaws.{Placed, placed}
use Rattle.domain_world.proofs.Judgements.MovedLaws.{moved_same}
use Rattle.domain_world.proofs.Moves.DrawnRunLaws.{draws_differ}
use Rattle.domain_world.proofs.Judgements.ReplayLaws.{on_if, seeds_kept}
use Rattle.domain_world.proofs.Judgements.SeedStepLaws.{AreKeptIf, SeedsFollow}
use Rattle.domain_world.proofs.Sequences.SumLaws.{CameIn, is_hit, moved_total, total, total_all, total_append, weight, weight_once, weight_some}

-- ---- nothing from outside passed

none_foreign : (channel : ChannelIdentity) (judgings : List Judging) (k : ℕ) (j : Judging) → any_foreign channel judgings ≡ false → slice_get judgings k ≡ Some j → is_foreign channel j.source j ≡ false
none_foreign channel [] k j none there = absurd (let x = there in cc)
none_foreign channel (first ∷ judgings) zero j none there =
    subst (λ (x : Judging). is_foreign channel x.source x ≡ false) (some_is first j there) (neither (is_foreign channel first.source first) (any_foreign channel judgings) none).0
  where
    neither : (one other : Bool) → (one || other) ≡ false → (one ≡ false) × (other ≡ false)
    neither false other is = (refl, is)
    neither true other is = absurd (let x = is in cc)
none_foreign channel (first ∷ judgings) (suc k) j none there =
    none_foreign channel judgings k j (neither (is_foreign channel first.source first) (any_foreign channel judgings) none).1 there
  where
    neither : (one other : Bool) → (one || other) ≡ false → (one ≡ false) × (other ≡ false)
    neither false other is = (refl, is)
    neither true other is = absurd (let x = is in cc)

-- ---- the channel on which a call passed

record PassedOn (found : Option ChannelIdentity) (channel : ChannelIdentity) : Type 0 where
  other : ChannelIdentity
  is : found ≡ Some other
  same : SameChannel other channel

passed_by : (found : Option ChannelIdentity) (channel : ChannelIdentity) → is_channel found channel ≡ true → PassedOn found channel
passed_by None channel is = absurd (let x = is in cc)
passed_by (Some other) channel is = record { other = other; is = refl; same = one_channel other channel is }

calls_alike : (one other : ChannelIdentity) (number more timestamp later : ℕ) → Calling one number timestamp ≡ Calling other more later → timestamp ≡ later
calls_alike one other number more timestamp later is = cc

both_so : (one other : Bool) → one ≡ true → other ≡ true → (one && other) ≡ true
both_so true true is also = refl
both_so false other is also = absurd (let x = is in cc)
both_so true false is also = absurd (let x = also in cc)

module _ (past : Past) (known : AnswersAreJudged past) (heard : AnswersAreHeard past) (clear : IsClear past.book) (units : MarkedUnitsAreWhole past) (judged : JudgedAsCarried past)
    (stamped : CallsAreStamped past) (channel : ChannelIdentity) (turn : Option Pending) (timestamps : List ℕ) (calls : CallsOfTurns past channel turn timestamps)
    (own : any_foreign channel past.book.judged ≡ false) where
  abbrev all_judged : List Judging
  all_judged = past.book.judged

  -- ---- what passed are calls that were made

  abbrev IsItsUnit : ℕ → Judging → Type 0
  IsItsUnit n j = OneOf (λ (one : ℕ × ℕ). (one.0 ≡ n) × (one.1 ≡ judged_timestamp j)) calls.made

  -- a unit that carries a call which is judged was made for none, or as one
  no_call : (n : ℕ) (j : Judging) (sent : Sent) (mark : Mark) → IsJudgedAsCarried past j n → slice_get past.book.sent n ≡ Some sent → sent.mark ≡ mark → (IsPlain mark → ⊥) →
      ((unit : RpcUnit) → IsAsMarked mark unit → IsNotJudged unit) → ⊥
  no_call n j sent mark carried there is marked never =
      let whole : IsWholeAsMarked sent.mark (plain_form past.book.sent n carried.carrier) = units n carried.carrier sent carried.there there (λ plain. marked (subst IsPlain is plain)) in
      let same : whole.whole.unit ≡ carried.whole.unit = one_unit (plain_form past.book.sent n carried.carrier) whole.whole carried.whole in
      never whole.whole.unit (subst (λ (m : Mark). IsAsMarked m whole.whole.unit) is whole.marked) j.asked (ap (λ (u : RpcUnit). call_carried u.body) same ∙ carried.carried)

  by_mark : (mark : Mark) (n : ℕ) (j : Judging) (sent : Sent) (named : ChannelIdentity) → IsJudgedAsCarried past j n → slice_get past.book.sent n ≡ Some sent → sent.mark ≡ mark →
      mark_channel mark ≡ Some named → named.client ≡ channel.client → IsItsUnit n j
  by_mark Plain n j sent named carried there is made client = absurd (let x = made in cc)
  by_mark (Opening other number) n j sent named carried there is made client =
      absurd (no_call n j sent (Opening other number) carried there is (λ plain. plain) (λ unit marked. marked.0))
  by_mark (Opened other number request) n j sent named carried there is made client =
      absurd (no_call n j sent (Opened other number request) carried there is (λ plain. plain) (λ unit marked. marked.0))
  by_mark (ReplyTo other number request) n j sent named carried there is made client =
      absurd (no_call n j sent (ReplyTo other number request) carried there is (λ plain. plain) (λ unit marked. marked.0))
  by_mark (Calling other number timestamp) n j sent named carried there is made client =
      let same : other.client ≡ channel.client = ap (λ (c : ChannelIdentity). c.client) (some_is other named made) ∙ client in
      let stamp : judged_timestamp j ≡ timestamp =
      stamped n carried.carrier sent other number timestamp j.asked carried.there there is carried.whole carried.carried in
      one_with (λ (one : ℕ × ℕ). IsMadeOn past channel one.0 one.1) (λ (one : ℕ × ℕ). one.0 ≡ n) (λ (one : ℕ × ℕ). (one.0 ≡ n) × (one.1 ≡ judged_timestamp j)) calls.made
      (λ one on at. (
        at,
        let sent_same : on.sent ≡ sent = some_is on.sent sent (sym on.there ∙ ap (λ (m : ℕ). slice_get past.book.sent m) at ∙ there) in
            calls_alike channel other on.number number one.1 timestamp (sym on.mark ∙ ap (λ (s : Sent). s.mark) sent_same ∙ is) ∙ sym stamp,
      )) calls.each (calls.every n number timestamp sent other there is same)

  by_sent : (found : Option Sent) (n : ℕ) (j : Judging) (named : ChannelIdentity) → IsJudgedAsCarried past j n → slice_get past.book.sent n ≡ found → sent_channel found ≡ Some named →
      named.client ≡ channel.client → IsItsUnit n j
  by_sent None n j named carried there made client = absurd (let x = made in cc)
  by_sent (Some sent) n j named carried there made client = by_mark sent.mark n j sent named carried there refl made client

  came_by : (source : Source) (k : ℕ) (j : Judging) → j.source ≡ source → slice_get all_judged k ≡ Some j → passed_on channel j ≡ true → CameIn calls.made j
  came_by Outside k j came there passed =
      absurd
      (let foreign : is_foreign channel Outside j ≡ false = subst (λ (from : Source). is_foreign channel from j ≡ false) came (none_foreign channel all_judged k j own there) in
      let x : true ≡ false = sym passed ∙ foreign in cc)
  came_by (InUnit n) k j came there passed =
      let on : PassedOn (passed_channel j) channel = passed_by (passed_channel j) channel passed in
      let made : IsMade (sent_channel (slice_get past.book.sent n)) on.other = made_at past known heard clear k j on.other n there on.is came in
      let carried : IsJudgedAsCarried past j n = got_all (λ (one : Judging). (u : ℕ) → one.source ≡ InUnit u → IsJudgedAsCarried past one u) all_judged k j judged there n came in
      record { unit = n; came = came; one = by_sent (slice_get past.book.sent n) n j made.named carried refl made.is (made.same.client ∙ on.same.client) }

  moved_by_made : moved_on channel all_judged ≡ total channel calls.made all_judged
  moved_by_made = moved_total channel calls.made all_judged calls.apart (λ k j there passed. came_by j.source k j refl there passed)

  -- ---- each passes once, and each that is answered did

  hit_parts : (m : ℕ) (j : Judging) → is_hit channel m j ≡ true → (has_passed j.how ≡ true) × (j.source ≡ InUnit m)
  hit_parts m j is =
      let both = both_true (passed_on channel j) (same_unit (Some m) (unit_in j.source)) is in
      let in_one : AreInUnit (Some m) (unit_in j.source) = in_unit (Some m) (unit_in j.source) both.1 in
      ((on_if (has_passed j.how) j channel both.0).0, came_in j.source m (in_one.second ∙ sym in_one.first))

  once : (m timestamp : ℕ) → (weight channel m timestamp all_judged ≡ 0) ⊎ (weight channel m timestamp all_judged ≡ timestamp + 1)
  once m timestamp =
      weight_once channel m timestamp all_judged (λ k l one other before there too is also.
      let first = hit_parts m one is in
      let second = hit_parts m other also in
      no_twice past known heard clear k l one other m before there too first.0 second.0 first.1 second.1)

  answered_one : (one : ℕ × ℕ) → IsMadeOn past channel one.0 one.1 → HasPassed past one.0 → weight channel one.0 one.1 all_judged ≡ one.1 + 1
  answered_one one on has =
      let n : ℕ = one.0 in
      let at : Placed (IsPassedIn n) all_judged = placed (IsPassedIn n) all_judged has in
      let j : Judging = at.item in
      let came : j.source ≡ InUnit n = at.is.1 in
      let stands : StandsFor j = channel_there j (right_at past known heard clear at.place j at.there) at.is.0 in
      let made : IsMade (sent_channel (slice_get past.book.sent n)) stands.channel = made_at past known heard clear at.place j stands.channel n at.there stands.passed came in
      let named : channel ≡ made.named =
      some_is channel made.named (sym (ap mark_channel on.mark) ∙ sym (ap sent_channel on.there) ∙ made.is) in
      let same : SameChannel stands.channel channel = same_back channel stands.channel (subst (λ (c : ChannelIdentity). SameChannel c stands.channel) (sym named) made.same) in
      let passed : passed_on channel j ≡ true = ap (λ (c : Option ChannelIdentity). is_channel c channel) stands.passed ∙ (same_channel-Decides stands.channel channel).1 same in
      let hit : is_hit channel n j ≡ true = both_so (passed_on channel j) (same_unit (Some n) (unit_in j.source)) passed (ap (same_unit (Some n)) (ap unit_in came) ∙ unit_same n) in
      elim (once n one.1) [
        | inl none ↦ absurd (omega (arith, none, weight_some channel n one.1 all_judged at.place j at.there hit))
        | inr is ↦ is
      ]

  answered_all : (made : List (ℕ × ℕ)) → AllByRecursion (λ (one : ℕ × ℕ). IsMadeOn past channel one.0 one.1) made → HavePassed past made →
      total channel made all_judged ≡ moved_by (stamps_of made)
  answered_all made each answered = total_all channel made all_judged (all_so made each answered)
    where
      all_so : (some : List (ℕ × ℕ)) → AllByRecursion (λ (one : ℕ × ℕ). IsMadeOn past channel one.0 one.1) some → HavePassed past some →
          AllByRecursion (λ (one : ℕ × ℕ). weight channel one.0 one.1 all_judged ≡ one.1 + 1) some
      all_so [] each answered = tt
      all_so (one ∷ some) each answered = (answered_one one each.0 answered.0, all_so some each.1 answered.1)

  -- ---- how far the seed moved

  abbrev base : List ℕ
  base = client_credential channel

  front_each : (some more : List (ℕ × ℕ)) → AllByRecursion (λ (one : ℕ × ℕ). IsMadeOn past channel one.0 one.1) (some ++ more) →
      AllByRecursion (λ (one : ℕ × ℕ). IsMadeOn past channel one.0 one.1) some
  front_each [] more all = tt
  front_each (one ∷ some) more all = (all.0, front_each some more all.1)

  moved_last : (stamps : List ℕ) (timestamp : ℕ) → moved_by (stamps ++ timestamp ∷ []) ≡ moved_by stamps + (timestamp + 1)
  moved_last [] timestamp = omega (arith, moved_one timestamp [], moved_none)
  moved_last (first ∷ stamps) timestamp = omega (arith, moved_one first (stamps ++ timestamp ∷ []), moved_one first stamps, moved_last stamps timestamp)

  its_seed : (seed own_seed : List ℕ) → seed ≡ add_to base (moved_on channel all_judged) → own_seed ≡ channel_seed channel timestamps →
      (seed ≡ own_seed) ⊎ IsBeforeTurn turn seed channel timestamps
  its_seed seed own_seed is own_is = elim calls.far [
    | inl quiet ↦
        let sum : moved_on channel all_judged ≡ moved_by timestamps = moved_by_made ∙ answered_all calls.made calls.each quiet.1 ∙ ap moved_by (sym quiet.0) in
        inl (is ∙ ap (add_to base) sum ∙ sym own_is)
    | inr rest ↦ elim rest [
      | inl bind ↦
          inr (record {
            pending = bind.pending;
            is_out = bind.is_out;
            earlier = stamps_of calls.made;
            last = bind.last;
            all = bind.all;
            seed_before = is ∙ ap (add_to base) (moved_by_made ∙ answered_all calls.made calls.each bind.passed);
          })
      | inr out ↦
          let earlier : List (ℕ × ℕ) = out.earlier in
          let before : total channel earlier all_judged ≡ moved_by (stamps_of earlier) =
          answered_all earlier (front_each earlier (out.last ∷ []) (subst (λ (l : List (ℕ × ℕ)). AllByRecursion (λ (one : ℕ × ℕ). IsMadeOn past channel one.0 one.1) l) out.split calls.each)) out.passed in
          let both : moved_on channel all_judged ≡ moved_by (stamps_of earlier) + (weight channel out.last.0 out.last.1 all_judged + 0) =
          moved_by_made ∙ ap (λ (l : List (ℕ × ℕ)). total channel l all_judged) out.split ∙ omega (arith, total_append channel earlier (out.last ∷ []) all_judged, before) in
          let all : timestamps ≡ stamps_of earlier ++ out.last.1 ∷ [] =
          out.all ∙ ap stamps_of out.split ∙ map-append (λ (one : ℕ × ℕ). one.1) earlier (out.last ∷ []) in
          elim (once out.last.0 out.last.1) [
            | inl none ↦
                let sum : moved_on channel all_judged ≡ moved_by (stamps_of earlier) = omega (arith, both, none) in
                inr (record {
                  pending = out.pending;
                  is_out = out.is_out;
                  earlier = stamps_of earlier;
                  last = out.last.1;
                  all = all;
                  seed_before = is ∙ ap (add_to base) sum;
                })
            | inr passed ↦
                let more : moved_on channel all_judged ≡ moved_by (stamps_of earlier ++ out.last.1 ∷ []) = omega (arith, both, passed, moved_last (stamps_of earlier) out.last.1) in
                inl (is ∙ ap (add_to base) (more ∙ ap moved_by (sym all)) ∙ sym own_is)
          ]
    ]
  ]

-- ---- a controller's seed

kept_seed : (p : Past) (controller : ℕ) (computer : List ℕ) (c : SecureChannelState) (left : List (List ℕ)) → SeedsFollow p.book.judged left p.world.state.ends.controllers →
    (keeps : ChannelIsKept p.world.state controller computer c) → c.seed ≡ add_to (client_credential (channel_of controller computer c)) (moved_on (channel_of controller computer c) p.book.judged)
kept_seed p controller computer c left follow keeps =
    let kept = subst (λ (r : Option ControllerRunning). AreKeptIf p.book.judged left controller r) keeps.runs (follow.each controller keeps.state keeps.at) in
    ((kept.each computer).channels c keeps.kept).0

pub sequence_shared : (p : Past) → AnswersAreJudged p → AnswersAreHeard p → IsClear p.book → MarkedUnitsAreWhole p → JudgedAsCarried p → CallsAreStamped p → TurnsAreCalled p →
    SequencesAreOwn p → (left : List (List ℕ)) → SeedsFollow p.book.judged left p.world.state.ends.controllers → SequencesAreShared p
sequence_shared p known heard clear units judged stamped called own left follow who = record {
  own = λ channel o stands. own who channel o stands;
  other = λ channel o c stands keeps same none.
      let kept : ChannelIdentity = channel_of channel.controller channel.computer c in
      let seed : c.seed ≡ add_to (client_credential channel) (moved_on channel p.book.judged) =
      kept_seed p channel.controller channel.computer c left follow keeps
      ∙ ap₂ add_to (same_credential kept channel same) (moved_same kept channel same p.book.judged) in
      its_seed p known heard clear units judged stamped channel stands.turn (timestamps_on who channel p.book.turns) (called who channel o stands) none c.seed o.seed seed
      (own who channel o stands);
}

-- of every run
pub sequences_follow : SequencesFollow
sequences_follow plan moves nobody heard stamped called clear =
    let differ : DrawsDiffer (past plan moves).world = draws_differ plan moves in
    sequence_shared (past plan moves) (answers_judged plan moves nobody differ) (heard_in plan moves nobody heard differ) clear heard.whole heard.judged stamped called (sequences_own plan moves nobody.plain)
    (past plan moves).world.state.chances.left (seeds_kept plan moves nobody.plain)

-- ---- a call whose answer was taken

pub taken_pass : TakenCallsPass
taken_pass plan moves nobody heard clear n is =
    let p : Past = past plan moves in
    let replies = replies_carry plan moves nobody in
    let its = replies_to p heard.whole (marks_have_their_way plan moves nobody.plain) heard.judged (passes_unclashed plan moves) replies heard.numbers clear heard.openings is.taken is.turn in
    let replied = subst (λ (m : Mark). IsReplyOfOne p.book.judged is.taken.reply (plain_form p.book.sent is.taken.reply is.turn.carrier) m) its.mark (replies is.taken.reply is.turn.carrier its.sent is.turn.there its.there) in
    one_weaker (λ (j : Judging). (j.reply ≡ Some is.taken.reply) × IsReplyOfCall its.channel its.number is.taken.call j (plain_form p.book.sent is.taken.reply is.turn.carrier)) (IsPassedIn n) p.book.judged
    (λ j of. (passed_of (has_passed j.how) j its.channel refl of.1.passed, of.1.came ∙ ap InUnit is.call)) replied
