-- How many bytes the stub of a reply has at most, of whatever texts, groups and identifiers, and how many its frames
-- have. It serves `long_stub` and `long_bytes`.
use Rattle.std.proofs.Common.{◌≡◌, ℕ, zero, suc, ◌+◌, ◌*◌, ◌^◌, ◌<◌, ◌≤◌, eqb, not, Bool, true, false, List, [], ◌∷◌, length, take, drop, Option, Some, None, Ok, inl, inr, refl, ap, arith}
use Rattle.std.proofs.lemmas.Bool.{cases_lt}
use Rattle.std.proofs.lemmas.List.{length-append, length-drop, length-take}
use Rattle.std.specs.List.{AllByRecursion, flat_map}
use Rattle.wire_base.specs.Numbers.{AreBytes}
use Rattle.wire_base.specs.Units.{AreUnits}
use Rattle.wire_base.specs.Sid.{SidParts}
use Rattle.wire_base.specs.declared.authenticator.Authenticator.{Authenticator}
use Rattle.rpc_units.specs.Calls.{bytes_of_call}
use Rattle.rpc_units.specs.Joining.{cut_of, fragment, fragments_of, stub_size}
use Rattle.rpc_units.specs.Writing.{written, zeros}
use Rattle.rpc_units.proofs.CuttingLaws.{fragments_end, fragments_more}
use Rattle.rpc_units.proofs.WritingLaws.{length_written, plain_rest}
use Rattle.ndr_codec.specs.Layout.{byte, short, long, raw, pointer, sid}
use Rattle.ndr_codec.specs.Parts.{FitsText, IfThere, Putting, put_halves, put_head, put_unique, put_units}
use Rattle.ndr_codec.specs.Stub.{LayoutOf, WritesBy, put_all}
use Rattle.ndr_codec.specs.Writing.{Written, nothing, put}
use Rattle.ndr_codec.specs.declared.refused.NdrRefused.{NdrRefused}
use Rattle.ndr_codec.proofs.PartLaws.{IsFitText, both_of_all, halves_law, it, reserved_law, units_head_law, units_law}
use Rattle.logon_stubs.specs.declared.calls.LogonReply.{LogonReply}
use Rattle.logon_stubs.specs.declared.calls.Reply.{Reply}
use Rattle.logon_stubs.specs.declared.calls.Reply.TheVariants as reply
use Rattle.logon_stubs.specs.declared.info.SamInfo.{SamInfo}
use Rattle.logon_stubs.specs.Calls.{opnum_of_reply, reply_of}
use Rattle.logon_stubs.specs.Ranges.{InRangeExtra, InRangeGroup, InRangeReply, InRangeSamInfo, IsAuthenticator, IsBlock}
use Rattle.logon_stubs.specs.Structures.{has_extra}
use Rattle.logon_stubs.specs.Writing.{CanWriteArm, CanWriteReply, CanWriteSamInfo, put_authenticator, put_entries_head, put_extra_array, put_extra_entry, put_extra_head, put_extra_sid, put_group, put_group_array, put_logon_reply, put_sam_info, put_sam_numbers, put_text_heads, put_texts, put_times, texts_of, times_of, written_reply}
use Rattle.logon_stubs.proofs.GivenLaws.{reply_of-InRange}
use Rattle.logon_stubs.proofs.WrittenLaws.{written_reply-joins}
use Rattle.end_links.specs.Bounds.{send_limit}
use Rattle.end_links.specs.Sending.{response_of}
use Rattle.controller_calls.specs.Limits.{extra_most, granted_most, groups_most, long_most, stub_limit, text_most}

-- ---- the stub

-- at most `count` bytes more are written
record Grows (count : ℕ) (old new : Written) : Type 0 where
  most : length new.bytes ≤ length old.bytes + count

grown : {E T : Type 0} {layout : LayoutOf E T} {value : T} {count : ℕ} {old new : Written} → WritesBy layout value count old new → Grows count old new
grown {old = old} w = record { most = omega (arith, ap length w.writes.appended, length-append old.bytes w.writes.bytes, w.writes.short) }

stays : (old : Written) → Grows 0 old old
stays old = record { most = omega arith }

then : {a b : ℕ} {old middle new : Written} → Grows a old middle → Grows b middle new → Grows (a + b) old new
then one more = record { most = omega (arith, one.most, more.most) }

within : {a : ℕ} {old new : Written} (b : ℕ) → a ≤ b → Grows a old new → Grows b old new
within b le is = record { most = omega (arith, le, is.most) }

number : (n : ℕ) (old : Written) → n < 2 ^ 32 → Grows 7 old (put long n old)
number n old fits = grown (it {E = NdrRefused} long n old fits tt)

half : (n : ℕ) (old : Written) → n < 2 ^ 16 → Grows 5 old (put short n old)
half n old fits = grown (it {E = NdrRefused} short n old fits tt)

points : (there : Bool) (old : Written) → Grows 7 old (put pointer there old)
points there old = grown (it {E = NdrRefused} pointer there old tt tt)

block : (count : ℕ) (bytes : List ℕ) (old : Written) → IsBlock count bytes → Grows count old (put (raw count) bytes old)
block count bytes old is = within count (omega (arith, is.0)) (grown (it {E = NdrRefused} (raw count) bytes old is.0 is.1))

-- each of a list
each : {T : Type 0} (count : ℕ) (putting : T → Putting) (Is : T → Type 0) (one : (value : T) (old : Written) → Is value → Grows count old (putting value old))
    (list : List T) (old : Written) → AllByRecursion Is list → Grows (count * length list) old (put_all putting list old)
each count putting Is one [] old all = within (count * 0) (omega arith) (stays old)
each count putting Is one (first ∷ more) old all =
    within (count * suc (length more)) (omega arith) (then (one first old all.0) (each count putting Is one more (putting first old) all.1))

authenticator : (value : Authenticator) (old : Written) → IsAuthenticator value → Grows 15 old (put_authenticator value old)
unfolding put_authenticator
authenticator value old is = then (block 8 value.credential old is.credential) (number value.timestamp _ is.timestamp)

returned : (value : Option Authenticator) (old : Written) → IfThere IsAuthenticator value → Grows 22 old (put_unique put_authenticator value old)
returned None old is = within 22 (omega arith) (points false old)
returned (Some value) old is = then (points true old) (authenticator value _ is)

-- ---- what is granted

text : (value : List ℕ) (old : Written) → IsFitText value → Grows text_most old (put_units value old)
text value old is = within text_most (omega (arith, is.0)) (grown (units_law value old is.0 is.1))

text_head : (value : List ℕ) (old : Written) → FitsText value → Grows 17 old (put_head (2 * length value) old)
text_head value old fits = grown (units_head_law value old fits)

times : (info : SamInfo) (old : Written) → InRangeSamInfo info → Grows 84 old (put_times info old)
unfolding put_times
times info old is = each 14 put_halves (λ n. n < 2 ^ 64) (λ n middle fits. grown (halves_law n middle fits)) (times_of info) old is.times

fit_texts : (info : SamInfo) → CanWriteSamInfo info → AllByRecursion FitsText (texts_of info)
fit_texts info can = (can.effective_name, (can.full_name, (can.script, (can.profile, (can.home, (can.home_drive, tt))))))

text_heads : (info : SamInfo) (old : Written) → CanWriteSamInfo info → Grows 102 old (put_text_heads info old)
unfolding put_text_heads
text_heads info old can = each 17 (λ value. put_head (2 * length value)) FitsText text_head (texts_of info) old (fit_texts info can)

texts : (info : SamInfo) (old : Written) → CanWriteSamInfo info → InRangeSamInfo info → Grows (6 * text_most) old (put_texts info old)
unfolding put_texts
texts info old can is = each text_most put_units IsFitText text (texts_of info) old (both_of_all FitsText AreUnits (texts_of info) (fit_texts info can) is.texts)

numbers : (info : SamInfo) (old : Written) → InRangeSamInfo info → Grows 24 old (put_sam_numbers info old)
unfolding put_sam_numbers
numbers info old is =
    then (then (then (half info.logon_count old is.numbers.logon_count) (half info.bad_count _ is.numbers.bad_count)) (number info.user_id _ is.numbers.user_id)) (number info.group_id _ is.numbers.group_id)

entries : (count : ℕ) (old : Written) → count ≤ 256 → Grows 14 old (put_entries_head count old)
unfolding put_entries_head
entries count old few = then (number count old (omega (arith, few))) (points (not (eqb count 0)) _)

group : (value : ℕ × ℕ) (old : Written) → InRangeGroup value → Grows 14 old (put_group value old)
group value old is = then (number value.0 old is.0) (number value.1 _ is.1)

groups : (list : List (ℕ × ℕ)) (old : Written) → length list ≤ 256 → AllByRecursion InRangeGroup list → Grows groups_most old (put_group_array list old)
groups [] old few is = within groups_most (omega arith) (stays old)
groups (first ∷ more) old few is =
    within groups_most (omega (arith, few)) (then (number (length (first ∷ more)) old (omega (arith, few))) (each 14 put_group InRangeGroup group (first ∷ more) _ is))

extra_head : (has : Bool) (count : ℕ) (old : Written) → count ≤ 256 → Grows 14 old (put_extra_head has count old)
extra_head false count old few = within 14 (omega arith) (stays old)
extra_head true count old few = entries count old few

extra_entry : (value : SidParts × ℕ) (old : Written) → InRangeExtra value → Grows 14 old (put_extra_entry value old)
extra_entry value old is = then (points true old) (number value.1 _ is.1)

identifier : (value : SidParts × ℕ) (old : Written) → InRangeExtra value → Grows 75 old (put_extra_sid value old)
identifier value old is = grown (it {E = NdrRefused} sid value.0 old is.0 tt)

extra : (list : List (SidParts × ℕ)) (old : Written) → length list ≤ 256 → AllByRecursion InRangeExtra list → Grows extra_most old (put_extra_array list old)
extra [] old few is = within extra_most (omega arith) (stays old)
extra (first ∷ more) old few is =
    within extra_most (omega (arith, few)) (
    then (then (number (length (first ∷ more)) old (omega (arith, few))) (each 14 put_extra_entry InRangeExtra extra_entry (first ∷ more) _ is))
    (each 75 put_extra_sid InRangeExtra identifier (first ∷ more) _ is))

granted : (has : Bool) (info : SamInfo) (old : Written) → CanWriteSamInfo info → InRangeSamInfo info → Grows granted_most old (put_sam_info has info old)
unfolding put_sam_info
granted has info old can is =
    within granted_most (omega arith) (
    then (times info old is) (
    then (text_heads info _ can) (
    then (numbers info _ is) (
    then (entries (length info.groups) _ can.groups) (
    then (number info.user_flags _ is.user_flags) (
    then (block 16 info.key _ is.key) (
    then (text_head info.server _ can.server) (
    then (text_head info.domain _ can.domain) (
    then (points true _) (
    then (grown (reserved_law 10 _)) (
    then (extra_head has (length info.extra) _ can.extra) (
    then (texts info _ can is) (
    then (groups info.groups _ can.groups is.groups) (
    then (text info.server _ (can.server, is.server)) (
    then (text info.domain _ (can.domain, is.domain)) (
    then (grown (it {E = NdrRefused} sid info.sid _ is.sid tt)) (
    extra info.extra _ can.extra is.extra)))))))))))))))))

-- ---- the reply

arm : (level : ℕ) (info : Option SamInfo) (old : Written) → CanWriteArm level info → IfThere InRangeSamInfo info → Grows (long_most + granted_most) old (put_unique (put_sam_info (has_extra level)) info old)
arm level None old can is = within (long_most + granted_most) (omega arith) (points false old)
arm level (Some info) old can is = then (points true old) (granted (has_extra level) info _ can.1 is)

logon : (value : LogonReply) (old : Written) → CanWriteReply (reply.Logon value) → InRangeReply (reply.Logon value) → Grows stub_limit old (put_logon_reply value old)
unfolding put_logon_reply
logon value old can is =
    within stub_limit (omega arith) (
    then (returned value.returned old is.returned) (
    then (half value.level _ is.level) (
    then (arm value.level value.info _ can is.info) (
    then (grown (it {E = NdrRefused} byte value.authoritative _ is.authoritative tt)) (
    number value.status _ is.status)))))

reply_long : (value : Reply) → CanWriteReply value → InRangeReply value → length (written_reply value) ≤ stub_limit
unfolding written_reply
reply_long (reply.Logon value) can is = (logon value nothing can is).most
reply_long (reply.Logoff value) can is = omega (arith, written_reply-joins (reply.Logoff value) can is tt)
reply_long (reply.Challenge value) can is = omega (arith, written_reply-joins (reply.Challenge value) can is tt)
reply_long (reply.Authenticate value) can is = omega (arith, written_reply-joins (reply.Authenticate value) can is tt)

pub stub_long : (value : Reply) (stub : List ℕ) → AreBytes stub → CanWriteReply value → reply_of (opnum_of_reply value) stub ≡ Ok value → stub ≡ written_reply value → length stub ≤ stub_limit
stub_long value stub bytes can again is = rw is (reply_long value can (reply_of-InRange (opnum_of_reply value) stub value bytes again))

-- ---- the frames of a reply

-- a fragment has a header of 16 bytes, and 8 of its body before the stub
fragment_bytes : (call context : ℕ) (first last : Bool) (whole piece : List ℕ) → length (written (fragment (response_of call context whole) first last piece)) ≡ 24 + length piece
unfolding zeros
fragment_bytes call context first last whole piece =
    let one = fragment (response_of call context whole) first last piece in
    omega (arith, length_written one, ap length (plain_rest one refl))

-- at most 33 bytes for 32 of the stub, and what a fragment has besides
frames_long : (most call context : ℕ) (whole : List ℕ) (size : ℕ) (first : Bool) (rest : List ℕ) → 1384 ≤ size →
    32 * length (flat_map written (fragments_of most (response_of call context whole) size first rest)) ≤ 33 * length rest + 768
frames_long zero call context whole size first rest large =
    omega (arith, length-append (written (fragment (response_of call context whole) first true rest)) [], fragment_bytes call context first true whole rest)
frames_long (suc most) call context whole size first rest large =
    elim (cases_lt size (length rest)) [
      | inl more ↦
          let unit = response_of call context whole in
          let one = fragment unit first false (take size rest) in
          let others = fragments_of most unit size false (drop size rest) in
          rw (fragments_more most unit size first rest more) (omega (
            arith,
            length-append (written one) (flat_map written others),
            fragment_bytes call context first false whole (take size rest),
            frames_long most call context whole size false (drop size rest) large,
            length-take size rest,
            length-drop size rest,
          ))
      | inr few ↦
          rw (fragments_end (suc most) (response_of call context whole) size first rest few)
          (omega (arith, length-append (written (fragment (response_of call context whole) first true rest)) [], fragment_bytes call context first true whole rest))
    ]

-- a stub of that many bytes is sent at once
pub bytes_long : (call context limit : ℕ) (stub : List ℕ) → 1432 ≤ limit → length stub ≤ stub_limit → length (bytes_of_call (response_of call context stub) limit) ≤ send_limit
unfolding cut_of
bytes_long call context limit stub least few =
    omega (arith, frames_long (length stub) call context stub (stub_size limit) true stub (omega arith), few)
