-- Small runs that meet what is claimed of replies, and some that don't.
-- It serves `replies_tell_apart`.
use Rattle.std.proofs.Common.{◌≡◌, ◌⊎◌, ℕ, zero, suc, Bool, true, false, List, [], ◌∷◌, length, inl, inr, Some, refl, sym, ap, subst, ◌∙◌}
use Rattle.std.specs.Prelude.{codes, flat_map, nat_le, if◌then◌else◌}
use Rattle.authenticators.specs.Channels.{ChannelIdentity}
use Rattle.outside.specs.declared.action.Judged.TheVariants as judged
use Rattle.rpc_units.specs.declared.unit.Unit.{Unit as RpcUnit}
use Rattle.rpc_units.specs.Calls.{bytes_of_call}
use Rattle.rpc_units.specs.Joining.{cut_of, fragment, fragments_of, stub_of, stub_size}
use Rattle.rpc_units.specs.Writing.{written, written_start}
use Rattle.authenticators.specs.Sequences.{authenticator_of}
use Rattle.authenticators.specs.SecureChannels.{key_of_channel, channel_of}
use Rattle.domain_controller.specs.Machine.{status_of}
use Rattle.channel_events.specs.Marks.{Mark, Plain, ReplyTo}
use Rattle.step_notes.specs.Judged.{IsNextOn}
use Rattle.step_notes.specs.Records.{InUnit, Judging, Sent, given_in}
use Rattle.step_notes.specs.ReplySends.{IsReplyOfCall, verdict_passed}
use Rattle.world_moves.specs.declared.bag.BagUnit.{BagUnit}
use Rattle.domain_world.specs.Claims.Replies.{IsReplyOfOne, RepliesCarryTheirJudgement}
use Rattle.domain_world.specs.Claims.TrustReplies.{HandsOn, IsHandedOnAs, IsReplyOfAny, RepliesAreOfTheirCalls}
use Rattle.step_notes.specs.TrustReplies.{IsReplyOfUnasked}
use Rattle.domain_world.specs.Past.{plain_form, sent_at}
use Rattle.claim_examples.specs.ClaimExamples.{judged_as, next_call, next_logon, small_channel, small_name, small_plan, small_table}
use Rattle.claim_examples.specs.ReplyExamples.{OfReplies, handed_call, reply_run, replied_call, reply_mark, small_reply}
use Rattle.wire_base.proofs.ListLaws.{got_nothing, some_is}
use Rattle.step_notes.proofs.Controllers.GrantVerdictLaws.{granted_status}
use Rattle.claim_examples.proofs.GrantExampleLaws.{may_small}
use Rattle.claim_examples.proofs.LogonLaws.{granted_small}

-- ---- a call is sent in some bytes

unit_sent : (unit : RpcUnit) (rest : List RpcUnit) → flat_map written (unit ∷ rest) ≡ [] → ⊥
unfolding written written_start
unit_sent unit rest is = absurd cc

one_sent : (short : Bool) (last first : RpcUnit) (rest : List RpcUnit) → flat_map written (if short then last ∷ [] else first ∷ rest) ≡ [] → ⊥
one_sent true last first rest is = unit_sent last [] is
one_sent false last first rest is = unit_sent first rest is

fragments_sent : (most : ℕ) (unit : RpcUnit) (size : ℕ) (first : Bool) (stub : List ℕ) → flat_map written (fragments_of most unit size first stub) ≡ [] → ⊥
fragments_sent zero unit size first stub is = unit_sent (fragment unit first true stub) [] is
fragments_sent (suc most) unit size first stub is = one_sent (nat_le (length stub) size) _ _ _ is

call_sent : (call : RpcUnit) (limit : ℕ) → [] ≡ bytes_of_call call limit → ⊥
unfolding cut_of
call_sent call limit is = fragments_sent (length (stub_of call.body)) call (stub_size limit) true (stub_of call.body) (sym is)

-- ---- one unit, and one call

-- what is claimed of a bag of one unit is claimed of it
of_one : (bytes : List ℕ) (mark : Mark) (j : Judging) → IsReplyOfOne (j ∷ []) 0 bytes mark → RepliesCarryTheirJudgement (reply_run bytes mark j)
unfolding plain_form
of_one bytes mark j is zero unit sent there marked =
    let same : bytes ≡ unit.bytes = ap BagUnit.bytes (some_is _ unit there) in
    let also : mark ≡ sent.mark = ap Sent.mark (some_is _ sent marked) in
    subst (λ (b : List ℕ). IsReplyOfOne (j ∷ []) 0 b sent.mark) same (subst (λ (m : Mark). IsReplyOfOne (j ∷ []) 0 bytes m) also is)
of_one bytes mark j is (suc number) unit sent there marked = absurd (got_nothing number unit there)

the_reply : (bytes : List ℕ) (channel : ChannelIdentity) (call request : ℕ) (j : Judging) → RepliesCarryTheirJudgement (reply_run bytes (ReplyTo channel call request) j) →
    (j.reply ≡ Some 0) × IsReplyOfCall channel call request j bytes
unfolding plain_form
the_reply bytes channel call request j claim = elim (claim 0 _ (sent_at 6 (ReplyTo channel call request)) refl refl) [ inl here ↦ here | inr never ↦ absurd never ]

-- `RepliesAreOfTheirCalls` holds of a run with one unit where it holds of that unit's bytes and mark
any_of_one : (bytes : List ℕ) (mark : Mark) (j : Judging) → IsReplyOfAny small_plan (j ∷ []) 0 bytes mark → RepliesAreOfTheirCalls (reply_run bytes mark j)
unfolding plain_form
any_of_one bytes mark j is zero unit sent there marked =
    let same : bytes ≡ unit.bytes = ap BagUnit.bytes (some_is _ unit there) in
    let also : mark ≡ sent.mark = ap Sent.mark (some_is _ sent marked) in
    subst (λ (b : List ℕ). IsReplyOfAny small_plan (j ∷ []) 0 b sent.mark) same (subst (λ (m : Mark). IsReplyOfAny small_plan (j ∷ []) 0 bytes m) also is)
any_of_one bytes mark j is (suc number) unit sent there marked = absurd (got_nothing number unit there)

abbrev EitherReply : List ℕ → ChannelIdentity → ℕ → ℕ → Judging → Type 0
EitherReply bytes channel call request j = IsReplyOfCall channel call request j bytes ⊎ IsHandedOnAs channel call request j

one_reply : (bytes : List ℕ) (channel : ChannelIdentity) (call request : ℕ) (j : Judging) →
    IsReplyOfCall channel call request j bytes ⊎ (HandsOn small_plan × IsReplyOfUnasked channel call request j bytes) → EitherReply bytes channel call request j
one_reply bytes channel call request j (inl is) = inl is
one_reply bytes channel call request j (inr is) = absurd (let never : false ≡ true = is.0 in cc)

any_reply : (bytes : List ℕ) (channel : ChannelIdentity) (call request : ℕ) (j : Judging) → IsReplyOfAny small_plan (j ∷ []) 0 bytes (ReplyTo channel call request) → EitherReply bytes channel call request j
any_reply bytes channel call request j (inl (inl is)) = one_reply bytes channel call request j is.1
any_reply bytes channel call request j (inl (inr never)) = absurd never
any_reply bytes channel call request j (inr (inl is)) = inr is
any_reply bytes channel call request j (inr (inr never)) = absurd never

the_any : (bytes : List ℕ) (channel : ChannelIdentity) (call request : ℕ) (j : Judging) → RepliesAreOfTheirCalls (reply_run bytes (ReplyTo channel call request) j) → EitherReply bytes channel call request j
unfolding plain_form
the_any bytes channel call request j claim = any_reply bytes channel call request j (claim 0 _ (sent_at 6 (ReplyTo channel call request)) refl refl)

-- what answers ann's call that was handed on has the number, the unit and the channel of that call
handed_so : (bytes : List ℕ) (channel : ChannelIdentity) (call request : ℕ) → EitherReply bytes channel call request handed_call → IsHandedOnAs channel call request handed_call
handed_so bytes channel call request (inl is) = absurd (let how = is.carries.how in cc)
handed_so bytes channel call request (inr is) = is

barred_never : (bytes : List ℕ) → EitherReply bytes small_name 3 7 (judged_as judged.Barred replied_call) → ⊥
barred_never bytes (inl is) = let how = is.carries.how in absurd cc
barred_never bytes (inr is) = let how = is.how in absurd cc

empty_never : EitherReply [] small_name 3 7 replied_call → ⊥
empty_never (inl is) = let carries = is.carries in call_sent _ carries.limit carries.frames
empty_never (inr is) = let how = is.how in absurd cc

next_small : IsNextOn (Some (small_channel [])) (given_in next_call.asked)
next_small =
    record { channel = small_channel []; given = authenticator_of (key_of_channel (small_channel [])) [] 0; stands = refl; there = refl; passes = refl }

status_small : status_of (verdict_passed next_call next_logon) ≡ 0
status_small =
    granted_status small_table next_call.name next_call.moment next_logon.info next_logon.validation (inr refl) (may_small next_call.moment) granted_small.verifies

other_controller : (one other : ChannelIdentity) → one.controller ≡ 0 → other.controller ≡ 1 → one ≡ other → ⊥
other_controller one other is also same = absurd (let never : 0 ≡ 1 = sym is ∙ ap ChannelIdentity.controller same ∙ also in cc)

pub of_replies : OfReplies
unfolding next_small
of_replies = record {
  meets = of_one small_reply reply_mark replied_call (inl (
    refl,
    record {
      came = refl;
      passed = refl;
      call = refl;
      carries = record {
        next = next_small;
        how = ap (λ (status : ℕ). Some (judged.Passed status)) (sym status_small);
        context = 0;
        limit = 5840;
        frames = refl;
      };
    },
  ));
  plain = of_one [] Plain replied_call tt;
  fails_empty = λ claim. let carries = (the_reply [] small_name 3 7 replied_call claim).1.carries in call_sent _ carries.limit carries.frames;
  fails_barred = λ claim.
      let how = (the_reply small_reply small_name 3 7 (judged_as judged.Barred replied_call) claim).1.carries.how in absurd cc;
  fails_number = λ claim. let never : 3 ≡ 4 = (the_reply small_reply small_name 4 7 replied_call claim).1.call in absurd cc;
  fails_unit = λ claim. let never : InUnit 7 ≡ InUnit 6 = (the_reply small_reply small_name 3 6 replied_call claim).1.came in absurd cc;
  fails_channel = λ claim.
      let other : ChannelIdentity = channel_of 1 (codes "FILE1") (small_channel []) in
      other_controller small_name other refl refl
      (some_is small_name other ((the_reply small_reply other 3 7 replied_call claim).1.passed));
  fails_reply = λ claim. let never : Some 8 ≡ Some 0 = (the_reply small_reply small_name 3 7 next_call claim).0 in absurd cc;
  meets_too = any_of_one small_reply reply_mark replied_call (inl (inl (
    refl,
    inl (record {
      came = refl;
      passed = refl;
      call = refl;
      carries = record {
        next = next_small;
        how = ap (λ (status : ℕ). Some (judged.Passed status)) (sym status_small);
        context = 0;
        limit = 5840;
        frames = refl;
      };
    }),
  )));
  handed_on = any_of_one [] reply_mark handed_call (inr (inl (record { how = refl; came = refl; passed = refl; call = refl })));
  barred_too = λ claim. barred_never small_reply (the_any small_reply small_name 3 7 (judged_as judged.Barred replied_call) claim);
  empty_too = λ claim. empty_never (the_any [] small_name 3 7 replied_call claim);
  fails_handed_number = λ claim. let never : 3 ≡ 4 = (handed_so [] small_name 4 7 (the_any [] small_name 4 7 handed_call claim)).call in absurd cc;
  fails_handed_unit = λ claim. let never : InUnit 7 ≡ InUnit 6 = (handed_so [] small_name 3 6 (the_any [] small_name 3 6 handed_call claim)).came in absurd cc;
  fails_handed_channel = λ claim.
      let other : ChannelIdentity = channel_of 1 (codes "FILE1") (small_channel []) in
      other_controller small_name other refl refl
      (some_is small_name other (handed_so [] other 3 7 (the_any [] other 3 7 handed_call claim)).passed);
}
