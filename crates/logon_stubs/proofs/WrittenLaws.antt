-- What is put of each structure is of its layout, by its ranges alone: of bytes, and at most so many.
use Rattle.std.proofs.Common.{◌≡◌, ℕ, ◌+◌, ◌*◌, ◌^◌, ◌<◌, ◌≤◌, eqb, not, Bool, true, false, IsTrue, List, [], ◌∷◌, length, map, Option, Some, None, Ok, refl, sym, ap, subst, ◌∙◌, inl, inr, arith}
use Rattle.wire_base.specs.Numbers.{AreBytes}
use Rattle.wire_base.specs.Units.{AreUnits}
use Rattle.ndr_codec.specs.Layout.{byte, short, long, raw, pointer, sid}
use Rattle.ndr_codec.specs.Writing.{Written, nothing, put}
use Rattle.std.specs.Prelude.{replicate}
use Rattle.std.specs.List.{AllByRecursion}
use Rattle.std.proofs.lemmas.Bool.{eq-eqb, le-leb}
use Rattle.wire_base.specs.Sid.{SidParts}
use Rattle.wire_base.specs.declared.authenticator.Authenticator.{Authenticator}
use Rattle.logon_stubs.specs.declared.info.NetworkInfo.{NetworkInfo}
use Rattle.logon_stubs.specs.declared.info.SamInfo.{SamInfo}
use Rattle.logon_stubs.specs.declared.calls.ChallengeCall.{ChallengeCall}
use Rattle.logon_stubs.specs.declared.calls.ChallengeReply.{ChallengeReply}
use Rattle.logon_stubs.specs.declared.calls.AuthCall.{AuthCall}
use Rattle.logon_stubs.specs.declared.calls.AuthReply.{AuthReply}
use Rattle.logon_stubs.specs.declared.calls.LogonCall.{LogonCall}
use Rattle.logon_stubs.specs.declared.calls.LogonReply.{LogonReply}
use Rattle.logon_stubs.specs.declared.calls.LogoffCall.{LogoffCall}
use Rattle.logon_stubs.specs.declared.calls.LogoffReply.{LogoffReply}
use Rattle.logon_stubs.specs.declared.calls.Call.{Call}
use Rattle.logon_stubs.specs.declared.calls.Call.TheVariants as call
use Rattle.logon_stubs.specs.declared.calls.Reply.{Reply}
use Rattle.logon_stubs.specs.declared.calls.Reply.TheVariants as reply
use Rattle.logon_stubs.specs.Layout.{item, part, each, WritesLayout}
use Rattle.ndr_codec.specs.Stub.{size_of_all, HasLayout}
use Rattle.ndr_codec.specs.Parts.{unique, halves, head, units, FitsText, IfThere, text_size, size_if_there, put_unique, put_halves, put_head, units_head, put_units}
use Rattle.ndr_codec.proofs.TimesLaws.{writes_each, writes_times}
use Rattle.ndr_codec.proofs.PartLaws.{it, of_part, then, end, where_true, from_place, within, text_law, unique_law, unique_text_law, some_pointer_law, halves_law, reserved_law, units_head_law, bytes_head_law, target_law, some, either, IsStub, stub_of, units_law, bytes_law, IsFitText, both_of_all}
use Rattle.logon_stubs.specs.Structures.{authenticator, network_info, sam_times, sam_heads, sam_texts, sam_numbers, entries_head, entries_pointer, array_count, group, groups, group_array, groups_target, has_extra, extra_head, extra_entry, extra_entries, extra_sid, extra_sids, extra_array, extra_target, sam_info}
use Rattle.logon_stubs.specs.Calls.{challenge_call, challenge_reply, auth_call, auth_reply, leveled_info, request_arm, logoff_call, logoff_reply, logon_call, is_reply_arm, validation_arm, logon_reply, IsCall, IsReply, call_of, reply_of, opnum_of_call, opnum_of_reply}
use Rattle.logon_stubs.specs.Writing.{CanWriteNetworkInfo, CanWriteSamInfo, CanWriteLogoffCall, CanWriteLogonCall, CanWriteArm, CanWriteCall, CanWriteReply, put_authenticator, put_network_info, times_of, texts_of, put_times, put_text_heads, put_sam_numbers, put_entries_head, put_texts, put_group, put_groups, put_group_array, HasLevel, put_extra_head, put_extra_entry, put_extra_entries, put_extra_sid, put_extra_sids, put_extra_array, put_sam_info, put_challenge_call, put_challenge_reply, put_auth_call, put_auth_reply, put_leveled_info, put_logoff_call, put_logoff_reply, front_of, put_logon_call, put_logon_reply, put_call, put_reply, written_call, written_reply}
use Rattle.logon_stubs.specs.Ranges.{IsBlock, IsAuthenticator, InRangeNetworkInfo, InRangeChallengeCall, InRangeAuthCall, InRangeLogoffCall, InRangeLogonCall, InRangeCall, InRangeGroup, InRangeExtra, InRangeNumbers, InRangeSamInfo, InRangeLogonReply, InRangeLogoffReply, InRangeChallengeReply, InRangeAuthReply, InRangeReply, bytes_of_text, call_content, HasShortTexts, IsShortReply, short_reply_limit, short_info_limit}
use Rattle.logon_stubs.proofs.CallLaws.{IsCall-call_of, IsReply-reply_of}

-- ---- at most so many bytes

abbrev network_size : NetworkInfo → ℕ
network_size info = 189 + (2 * length info.domain + 2 * length info.user + 2 * length info.workstation + length info.nt + length info.lm)

abbrev sam_size : SamInfo → ℕ
sam_size info =
    581
    + 2 * length info.effective_name + 2 * length info.full_name + 2 * length info.script + 2 * length info.profile + 2 * length info.home
    + 2 * length info.home_drive + 14 * length info.groups + 2 * length info.server + 2 * length info.domain + 89 * length info.extra

abbrev logoff_size : Option (List ℕ) → Option (List ℕ) → NetworkInfo → ℕ
logoff_size server computer info = 75 + size_if_there text_size server + size_if_there text_size computer + network_size info

abbrev call_size : Call → ℕ
call_size (call.Logon value) = 5 + logoff_size value.server value.computer value.info
call_size (call.Logoff value) = logoff_size value.server value.computer value.info
call_size (call.Challenge value) = 32 + size_if_there text_size value.primary + 2 * length value.computer
call_size (call.Authenticate value) = 61 + size_if_there text_size value.primary + 2 * length value.account + 2 * length value.computer

abbrev reply_size : Reply → ℕ
reply_size (reply.Logon value) = 42 + size_if_there sam_size value.info
reply_size (reply.Logoff value) = 29
reply_size (reply.Challenge value) = 15
reply_size (reply.Authenticate value) = 22

-- ---- parts

pub block_law : (count : ℕ) (block : List ℕ) (old : Written) → IsBlock count block → WritesLayout (item (raw count)) block count old (put (raw count) block old)
block_law count block old is = within count (omega (arith, is.0)) (it (raw count) block old is.0 is.1)

authenticator_law : (value : Authenticator) (old : Written) → IsAuthenticator value → WritesLayout authenticator value 15 old (put_authenticator value old)
unfolding authenticator put_authenticator
authenticator_law value old is = then (block_law 8 value.credential old is.credential) (then (it long value.timestamp _ is.timestamp tt) (end _ _))

pub unique_authenticator_law : (value : Option Authenticator) (old : Written) → IfThere IsAuthenticator value → WritesLayout (unique authenticator) value 22 old (put_unique put_authenticator value old)
unique_authenticator_law value old is =
    within 22 (most value) (unique_law authenticator put_authenticator (λ target. 15) IsAuthenticator value old authenticator_law is) where
      most : (value : Option Authenticator) → 7 + size_if_there (λ target. 15) value ≤ 22
      most None = omega arith
      most (Some target) = omega arith

-- ---- a network logon

network_info_law : (info : NetworkInfo) (old : Written) → CanWriteNetworkInfo info → InRangeNetworkInfo info → WritesLayout network_info info (network_size info) old (put_network_info info old)
unfolding network_info put_network_info
network_info_law info old can is =
    within _ (omega arith) (
    then (of_part (units_head_law info.domain old can.domain)) (
    then (it long info.control _ is.control tt) (
    then (of_part (halves_law info.logon_id _ is.logon_id)) (
    then (of_part (units_head_law info.user _ can.user)) (
    then (of_part (units_head_law info.workstation _ can.workstation)) (
    then (block_law 8 info.challenge _ is.challenge) (
    then (of_part (bytes_head_law info.nt _ can.nt)) (
    then (of_part (bytes_head_law info.lm _ can.lm)) (
    then (of_part (units_law info.domain _ can.domain is.domain)) (
    then (of_part (units_law info.user _ can.user is.user)) (
    then (of_part (units_law info.workstation _ can.workstation is.workstation)) (
    then (of_part (bytes_law info.nt _ can.nt is.nt)) (
    then (of_part (bytes_law info.lm _ can.lm is.lm)) (
    end _ _))))))))))))))

-- ---- what is granted

texts_fit : (info : SamInfo) → CanWriteSamInfo info → AllByRecursion FitsText (texts_of info)
texts_fit info can = (can.effective_name, (can.full_name, (can.script, (can.profile, (can.home, (can.home_drive, tt))))))

times_law : (info : SamInfo) (old : Written) → AllByRecursion (λ n. n < 2 ^ 64) (times_of info) → WritesLayout sam_times (times_of info) 84 old (put_times info old)
unfolding sam_times put_times
times_law info old is = writes_times (part halves) put_halves (λ n. 14) (λ n. n < 2 ^ 64) (λ n written fits. of_part (halves_law n written fits)) (times_of info) old is

text_heads_law : (info : SamInfo) (old : Written) → CanWriteSamInfo info → WritesLayout sam_heads (map units_head (texts_of info)) 102 old (put_text_heads info old)
unfolding sam_heads put_text_heads
text_heads_law info old can =
    writes_each {A = Unit {0}} (λ _. part (head 2)) (λ _. tt) units_head (λ text. put_head (2 * length text)) (λ text. 17) FitsText (λ text written fits. of_part (units_head_law text written fits)) (texts_of info) old (texts_fit info can)

entries_head_law : (count : ℕ) (old : Written) → count ≤ 256 → WritesLayout entries_head (count, not (eqb count 0)) 14 old (put_entries_head count old)
unfolding entries_head entries_pointer put_entries_head
entries_head_law count old few =
    from_place (then (it long count old (omega (arith, few)) tt) (where_true (le-leb count 256 few) (from_place (then (it pointer (not (eqb count 0)) _ tt tt) (where_true (either (eqb count 0)) (end _ _))))))

sam_numbers_law : (info : SamInfo) (old : Written) → InRangeNumbers info → WritesLayout sam_numbers (info.logon_count, info.bad_count, info.user_id, info.group_id) 24 old (put_sam_numbers info old)
unfolding sam_numbers put_sam_numbers
sam_numbers_law info old is =
    then (it short info.logon_count old is.logon_count tt) (
    then (it short info.bad_count _ is.bad_count tt) (
    then (it long info.user_id _ is.user_id tt) (
    then (it long info.group_id _ is.group_id tt) (
    end _ _))))

texts_law : (info : SamInfo) (old : Written) → CanWriteSamInfo info → AllByRecursion AreUnits (texts_of info) → WritesLayout (sam_texts (map units_head (texts_of info))) (texts_of info) (90 + (2 * length info.effective_name + 2 * length info.full_name + 2 * length info.script + 2 * length info.profile + 2 * length info.home + 2 * length info.home_drive)) old (put_texts info old)
unfolding sam_texts put_texts
texts_law info old can are =
    within _ (omega arith) (writes_each (λ front. part (units front)) units_head (λ text. text) put_units (λ text. 15 + 2 * length text) IsFitText (λ text written fits. of_part (units_law text written fits.0 fits.1)) (texts_of info) old (both_of_all FitsText AreUnits (texts_of info) (texts_fit info can) are))

array_count_law : (count : ℕ) (old : Written) → count ≤ 256 → WritesLayout (array_count count) tt 7 old (put long count old)
unfolding array_count
array_count_law count old few = from_place (then (it long count old (omega (arith, few)) tt) (where_true (eq-eqb count count refl) (end tt _)))

group_law : (value : ℕ × ℕ) (old : Written) → InRangeGroup value → WritesLayout group value 14 old (put_group value old)
unfolding group
group_law value old is = then (it long value.0 old is.0 tt) (then (it long value.1 _ is.1 tt) (end (value.0, value.1) _))

groups_law : (list : List (ℕ × ℕ)) (old : Written) → AllByRecursion InRangeGroup list → WritesLayout (groups (length list)) list (14 * length list) old (put_groups list old)
groups_law list old is = within _ (omega (arith, sizes list)) (writes_times group put_group (λ value. 14) InRangeGroup group_law list old is) where
  sizes : (list : List (ℕ × ℕ)) → size_of_all (λ (value : ℕ × ℕ). 14) list ≡ 14 * length list
  sizes [] = refl
  sizes (first ∷ more) = omega (arith, sizes more)

group_array_law : (list : List (ℕ × ℕ)) (old : Written) → length list ≤ 256 → AllByRecursion InRangeGroup list → WritesLayout (groups_target (length list, not (eqb (length list) 0))) list (7 + 14 * length list) old (put_group_array list old)
unfolding groups_target group_array
group_array_law [] old few is = within _ (omega arith) (end [] old)
group_array_law (first ∷ more) old few is =
    let count = length (first ∷ more) in
    target_law _ (some count (omega arith)) (then (array_count_law count old few) (groups_law (first ∷ more) _ is))

-- ---- extra identifiers

-- a structure without a place for them has none
abbrev FitsExtra : Bool → List (SidParts × ℕ) → Type 0
FitsExtra false list = list ≡ []
FitsExtra true list = Unit {0}

fits_level : (level : ℕ) (info : SamInfo) → HasLevel level info → FitsExtra (has_extra level) info.extra
fits_level level info (inl has) = rw has.0 has.1
fits_level level info (inr has) = rw has tt

extra_head_law : (with_extra : Bool) (list : List (SidParts × ℕ)) (old : Written) → FitsExtra with_extra list → length list ≤ 256 → WritesLayout (extra_head with_extra) (length list, not (eqb (length list) 0)) 14 old (put_extra_head with_extra (length list) old)
extra_head_law false [] old fits few = within _ (omega arith) (end (0, false) old)
extra_head_law false (first ∷ more) old fits few = absurd (cc)
extra_head_law true list old fits few = entries_head_law (length list) old few

extra_entry_law : (value : SidParts × ℕ) (old : Written) → value.1 < 2 ^ 32 → WritesLayout extra_entry value.1 14 old (put_extra_entry value old)
unfolding extra_entry
extra_entry_law value old fits = then (of_part (some_pointer_law old)) (it long value.1 _ fits tt)

extra_entries_law : (list : List (SidParts × ℕ)) (old : Written) → AllByRecursion InRangeExtra list → WritesLayout (extra_entries (length list)) (map (λ extra. extra.1) list) (14 * length list) old (put_extra_entries list old)
extra_entries_law list old is =
    within _ (omega (arith, sizes list)) (
    subst (λ (fronts : List (Unit {0})). WritesLayout (each {A = Unit {0}} (λ _. extra_entry) fronts) (map (λ extra. extra.1) list) (size_of_all (λ (extra : SidParts × ℕ). 14) list) old (put_extra_entries list old)) (places list)
    (writes_each {A = Unit {0}} (λ _. extra_entry) (λ _. tt) (λ extra. extra.1) put_extra_entry (λ extra. 14) InRangeExtra (λ value written fits. extra_entry_law value written fits.1) list old is))
  where
    sizes : (list : List (SidParts × ℕ)) → size_of_all (λ (extra : SidParts × ℕ). 14) list ≡ 14 * length list
    sizes [] = refl
    sizes (first ∷ more) = omega (arith, sizes more)

    places : (list : List (SidParts × ℕ)) → map {B = Unit {0}} (λ _. tt) list ≡ replicate (length list) tt
    places [] = refl
    places (first ∷ more) = ap (λ (l : List (Unit {0})). tt ∷ l) (places more)

extra_sid_law : (value : SidParts × ℕ) (old : Written) → InRangeExtra value → WritesLayout (extra_sid value.1) value 75 old (put_extra_sid value old)
unfolding extra_sid
extra_sid_law value old is = then (it sid value.0 old is.0 tt) (end (value.0, value.1) _)

extra_sids_law : (list : List (SidParts × ℕ)) (old : Written) → AllByRecursion InRangeExtra list → WritesLayout (extra_sids (map (λ extra. extra.1) list)) list (75 * length list) old (put_extra_sids list old)
extra_sids_law list old is =
    within _ (omega (arith, sizes list)) (
    subst (λ (seen : List (SidParts × ℕ)). WritesLayout (extra_sids (map (λ extra. extra.1) list)) seen (size_of_all (λ (extra : SidParts × ℕ). 75) list) old (put_extra_sids list old)) (same_list list)
    (writes_each extra_sid (λ extra. extra.1) (λ extra. extra) put_extra_sid (λ extra. 75) InRangeExtra extra_sid_law list old is))
  where
    sizes : (list : List (SidParts × ℕ)) → size_of_all (λ (extra : SidParts × ℕ). 75) list ≡ 75 * length list
    sizes [] = refl
    sizes (first ∷ more) = omega (arith, sizes more)

    same_list : (list : List (SidParts × ℕ)) → map (λ extra. extra) list ≡ list
    same_list [] = refl
    same_list (first ∷ more) = ap (λ (l : List (SidParts × ℕ)). first ∷ l) (same_list more)

extra_array_law : (list : List (SidParts × ℕ)) (old : Written) → length list ≤ 256 → AllByRecursion InRangeExtra list → WritesLayout (extra_target (length list, not (eqb (length list) 0))) list (7 + 89 * length list) old (put_extra_array list old)
unfolding extra_target extra_array
extra_array_law [] old few is = within _ (omega arith) (end [] old)
extra_array_law (first ∷ more) old few is =
    let count = length (first ∷ more) in
    within _ (omega arith) (target_law _ (some count (omega arith)) (then (array_count_law count old few) (then (extra_entries_law (first ∷ more) _ is) (extra_sids_law (first ∷ more) _ is))))

sam_info_law : (with_extra : Bool) (info : SamInfo) (old : Written) → FitsExtra with_extra info.extra → CanWriteSamInfo info → InRangeSamInfo info → WritesLayout (sam_info with_extra) info (sam_size info) old (put_sam_info with_extra info old)
unfolding sam_info put_sam_info
sam_info_law with_extra info old fits can is =
    within _ (omega arith) (
    then (times_law info old is.times) (
    then (text_heads_law info _ can) (
    then (sam_numbers_law info _ is.numbers) (
    then (entries_head_law (length info.groups) _ can.groups) (
    then (it long info.user_flags _ is.user_flags tt) (
    then (block_law 16 info.key _ is.key) (
    then (of_part (units_head_law info.server _ can.server)) (
    then (of_part (units_head_law info.domain _ can.domain)) (
    then (of_part (some_pointer_law _)) (
    then (of_part (reserved_law 10 _)) (
    then (extra_head_law with_extra info.extra _ fits can.extra) (
    then (texts_law info _ can is.texts) (
    then (group_array_law info.groups _ can.groups is.groups) (
    then (of_part (units_law info.server _ can.server is.server)) (
    then (of_part (units_law info.domain _ can.domain is.domain)) (
    then (it sid info.sid _ is.sid tt) (
    then (extra_array_law info.extra _ can.extra is.extra) (
    end _ _))))))))))))))))))

-- ---- the calls

challenge_call_law : (value : ChallengeCall) (old : Written) → IfThere FitsText value.primary × FitsText value.computer → InRangeChallengeCall value → WritesLayout challenge_call value (call_size (call.Challenge value)) old (put_challenge_call value old)
unfolding challenge_call put_challenge_call
challenge_call_law value old fits is =
    within _ (omega arith) (
    then (of_part (unique_text_law value.primary old fits.0 is.primary)) (
    then (text_law value.computer _ fits.1 is.computer) (
    then (block_law 8 value.challenge _ is.challenge) (
    end _ _))))

auth_call_law : (value : AuthCall) (old : Written) → IfThere FitsText value.primary × FitsText value.account × FitsText value.computer → InRangeAuthCall value → WritesLayout auth_call value (call_size (call.Authenticate value)) old (put_auth_call value old)
unfolding auth_call put_auth_call
auth_call_law value old fits is =
    within _ (omega arith) (
    then (of_part (unique_text_law value.primary old fits.0 is.primary)) (
    then (text_law value.account _ fits.1 is.account) (
    then (it short value.channel _ is.channel tt) (
    then (text_law value.computer _ fits.2 is.computer) (
    then (block_law 8 value.credential _ is.credential) (
    then (it long value.flags _ is.flags tt) (
    end _ _)))))))

leveled_info_law : (info : NetworkInfo) (old : Written) → CanWriteNetworkInfo info → InRangeNetworkInfo info → WritesLayout leveled_info info (17 + network_size info) old (put_leveled_info info old)
unfolding leveled_info request_arm put_leveled_info
leveled_info_law info old can is =
    within _ (omega arith) (
    then (it short 2 old (omega arith) tt) (
    then (it short 2 _ (omega arith) tt) (
    where_true refl (
    then (of_part (some_pointer_law _)) (
    network_info_law info _ can is)))))

logoff_call_law : (value : LogoffCall) (old : Written) → CanWriteLogoffCall value → InRangeLogoffCall value → WritesLayout logoff_call value (logoff_size value.server value.computer value.info) old (put_logoff_call value old)
unfolding logoff_call put_logoff_call
logoff_call_law value old can is =
    within _ (omega arith) (
    then (of_part (unique_text_law value.server old can.server is.server)) (
    then (of_part (unique_text_law value.computer _ can.computer is.computer)) (
    then (unique_authenticator_law value.authenticator _ is.authenticator) (
    then (unique_authenticator_law value.returned _ is.returned) (
    then (leveled_info_law value.info _ can.info is.info) (
    end _ _))))))

logon_call_law : (value : LogonCall) (old : Written) → CanWriteLogonCall value → InRangeLogonCall value → WritesLayout logon_call value (call_size (call.Logon value)) old (put_logon_call value old)
unfolding logon_call put_logon_call
logon_call_law value old can is =
    let front = logoff_call_law (front_of value) old (record { server = can.server; computer = can.computer; info = can.info }) is.front in
    within _ (omega arith) (then front (then (it short value.validation _ is.validation tt) (end _ _)))

-- ---- the replies

challenge_reply_law : (value : ChallengeReply) (old : Written) → InRangeChallengeReply value → WritesLayout challenge_reply value 15 old (put_challenge_reply value old)
unfolding challenge_reply put_challenge_reply
challenge_reply_law value old is = then (block_law 8 value.challenge old is.challenge) (then (it long value.status _ is.status tt) (end _ _))

auth_reply_law : (value : AuthReply) (old : Written) → InRangeAuthReply value → WritesLayout auth_reply value 22 old (put_auth_reply value old)
unfolding auth_reply put_auth_reply
auth_reply_law value old is = then (block_law 8 value.credential old is.credential) (then (it long value.flags _ is.flags tt) (then (it long value.status _ is.status tt) (end _ _)))

logoff_reply_law : (value : LogoffReply) (old : Written) → InRangeLogoffReply value → WritesLayout logoff_reply value 29 old (put_logoff_reply value old)
unfolding logoff_reply put_logoff_reply
logoff_reply_law value old is = then (unique_authenticator_law value.returned old is.returned) (then (it long value.status _ is.status tt) (end _ _))

-- a level that has the information is an arm
is_arm : (level : ℕ) (info : SamInfo) → HasLevel level info → IsTrue (is_reply_arm level)
is_arm level info (inl has) = rw has.0 refl
is_arm level info (inr has) = rw has refl

validation_arm_law : (level : ℕ) (info : Option SamInfo) (old : Written) → CanWriteArm level info → IfThere InRangeSamInfo info → WritesLayout (validation_arm level) info (7 + size_if_there sam_size info) old (put_unique (put_sam_info (has_extra level)) info old)
unfolding validation_arm
validation_arm_law level None old can is = then (it pointer false old tt tt) (end _ _)
validation_arm_law level (Some info) old can is =
    within _ (omega arith) (then (it pointer true old tt tt) (where_true (is_arm level info can.0) (then (sam_info_law (has_extra level) info _ (fits_level level info can.0) can.1 is) (end _ _))))

logon_reply_law : (value : LogonReply) (old : Written) → CanWriteArm value.level value.info → InRangeLogonReply value → WritesLayout logon_reply value (reply_size (reply.Logon value)) old (put_logon_reply value old)
unfolding logon_reply put_logon_reply
logon_reply_law value old can is =
    within _ (omega arith) (
    then (unique_authenticator_law value.returned old is.returned) (
    then (it short value.level _ is.level tt) (
    then (validation_arm_law value.level value.info _ can is.info) (
    then (it byte value.authoritative _ is.authoritative tt) (
    then (it long value.status _ is.status tt) (
    end _ _))))))

-- ---- whole stubs

call_stub : (value : Call) → CanWriteCall value → InRangeCall value → IsStub (λ stub. IsCall (opnum_of_call value) stub value) (call_size value) (put_call value nothing).bytes
unfolding IsCall
call_stub (call.Logon value) can is = stub_of _ (λ begins. (refl, begins)) (logon_call_law value nothing can is)
call_stub (call.Logoff value) can is = stub_of _ (λ begins. (refl, begins)) (logoff_call_law value nothing can is)
call_stub (call.Challenge value) can is = stub_of _ (λ begins. (refl, begins)) (challenge_call_law value nothing can is)
call_stub (call.Authenticate value) can is = stub_of _ (λ begins. (refl, begins)) (auth_call_law value nothing can is)

reply_stub : (value : Reply) → CanWriteReply value → InRangeReply value → IsStub (λ stub. IsReply (opnum_of_reply value) stub value) (reply_size value) (put_reply value nothing).bytes
unfolding IsReply
reply_stub (reply.Logon value) can is = stub_of _ (λ begins. (refl, begins)) (logon_reply_law value nothing can is)
reply_stub (reply.Logoff value) can is = stub_of _ (λ begins. (refl, begins)) (logoff_reply_law value nothing is)
reply_stub (reply.Challenge value) can is = stub_of _ (λ begins. (refl, begins)) (challenge_reply_law value nothing is)
reply_stub (reply.Authenticate value) can is = stub_of _ (λ begins. (refl, begins)) (auth_reply_law value nothing is)

pub call_of-written_call : (value : Call) → CanWriteCall value → InRangeCall value → call_of (opnum_of_call value) (written_call value) ≡ Ok value
unfolding written_call
call_of-written_call value can is =
    let s = call_stub value can is in
    IsCall-call_of (opnum_of_call value) (put_call value nothing).bytes value s.are_bytes s.is

-- a written Logon is of its layout, with nothing behind it
pub written_logon : (value : LogonCall) → CanWriteLogonCall value → InRangeLogonCall value → HasLayout logon_call 0 value (written_call (call.Logon value))
unfolding written_call
written_logon value can is =
    let w = (logon_call_law value nothing can is).writes in
    subst (λ (bytes : List ℕ). HasLayout logon_call 0 value bytes) (sym w.appended) w.item

pub AreBytes-written_call : (value : Call) → CanWriteCall value → InRangeCall value → AreBytes (written_call value)
unfolding written_call
AreBytes-written_call value can is = (call_stub value can is).are_bytes

written_call-short : (value : Call) → CanWriteCall value → InRangeCall value → length (written_call value) ≤ call_size value
unfolding written_call
written_call-short value can is = (call_stub value can is).short

pub reply_of-written_reply : (value : Reply) → CanWriteReply value → InRangeReply value → reply_of (opnum_of_reply value) (written_reply value) ≡ Ok value
unfolding written_reply
reply_of-written_reply value can is =
    let s = reply_stub value can is in
    IsReply-reply_of (opnum_of_reply value) (put_reply value nothing).bytes value s.are_bytes s.is

pub AreBytes-written_reply : (value : Reply) → CanWriteReply value → InRangeReply value → AreBytes (written_reply value)
unfolding written_reply
AreBytes-written_reply value can is = (reply_stub value can is).are_bytes

written_reply-short : (value : Reply) → CanWriteReply value → InRangeReply value → length (written_reply value) ≤ reply_size value
unfolding written_reply
written_reply-short value can is = (reply_stub value can is).short

-- what the writers' clauses say of what they wrote

pub written_is : (value : Call) (stub : List ℕ) → CanWriteCall value → InRangeCall value → stub ≡ written_call value → IsCall (opnum_of_call value) stub value
unfolding written_call
written_is value stub can is e = subst (λ (s : List ℕ). IsCall (opnum_of_call value) s value) (sym e) (call_stub value can is).is

pub written_again : (value : Call) (stub : List ℕ) → CanWriteCall value → InRangeCall value → stub ≡ written_call value → call_of (opnum_of_call value) stub ≡ Ok value
written_again value stub can is e = ap (call_of (opnum_of_call value)) e ∙ call_of-written_call value can is

pub reply_written_is : (value : Reply) (stub : List ℕ) → CanWriteReply value → InRangeReply value → stub ≡ written_reply value → IsReply (opnum_of_reply value) stub value
unfolding written_reply
reply_written_is value stub can is e = subst (λ (s : List ℕ). IsReply (opnum_of_reply value) s value) (sym e) (reply_stub value can is).is

pub reply_written_again : (value : Reply) (stub : List ℕ) → CanWriteReply value → InRangeReply value → stub ≡ written_reply value → reply_of (opnum_of_reply value) stub ≡ Ok value
reply_written_again value stub can is e = ap (reply_of (opnum_of_reply value)) e ∙ reply_of-written_reply value can is

pub ruleset written = (written_is, written_again, reply_written_is, reply_written_again)

-- ---- bounds

pub text_content : (value : Option (List ℕ)) → size_if_there text_size value ≤ 17 + size_if_there bytes_of_text value
text_content None = omega arith
text_content (Some value) = omega arith

call_size-content : (value : Call) → call_size value ≤ 400 + call_content value
call_size-content (call.Logon value) = omega (arith, text_content value.server, text_content value.computer)
call_size-content (call.Logoff value) = omega (arith, text_content value.server, text_content value.computer)
call_size-content (call.Challenge value) = omega (arith, text_content value.primary)
call_size-content (call.Authenticate value) = omega (arith, text_content value.primary)

pub written_call-content : (value : Call) → CanWriteCall value → InRangeCall value → length (written_call value) ≤ 400 + call_content value
written_call-content value can is = omega (arith, written_call-short value can is, call_size-content value)

pub text_if_there : (value : Option (List ℕ)) → IfThere FitsText value → size_if_there text_size value ≤ 65551
text_if_there None fits = omega arith
text_if_there (Some value) fits = omega (arith, fits)

network_size-le : (info : NetworkInfo) → CanWriteNetworkInfo info → network_size info ≤ 327861
network_size-le info can = omega (arith, can.domain, can.user, can.workstation, can.nt, can.lm)

call_size-lt : (value : Call) → CanWriteCall value → call_size value < 2 ^ 20
call_size-lt (call.Logon value) can = omega (arith, text_if_there value.server can.server, text_if_there value.computer can.computer, network_size-le value.info can.info)
call_size-lt (call.Logoff value) can = omega (arith, text_if_there value.server can.server, text_if_there value.computer can.computer, network_size-le value.info can.info)
call_size-lt (call.Challenge value) can = omega (arith, text_if_there value.primary can.0, can.1)
call_size-lt (call.Authenticate value) can = omega (arith, text_if_there value.primary can.0, can.1, can.2)

sam_size-le : (info : SamInfo) → CanWriteSamInfo info → sam_size info ≤ 551221
sam_size-le info can = omega (arith, can.effective_name, can.full_name, can.script, can.profile, can.home, can.home_drive, can.groups, can.server, can.domain, can.extra)

arm_size-le : (level : ℕ) (info : Option SamInfo) → CanWriteArm level info → size_if_there sam_size info ≤ 551221
arm_size-le level None can = omega arith
arm_size-le level (Some info) can = sam_size-le info can.1

reply_size-lt : (value : Reply) → CanWriteReply value → reply_size value < 2 ^ 20
reply_size-lt (reply.Logon value) can = omega (arith, arm_size-le value.level value.info can)
reply_size-lt (reply.Logoff value) can = omega arith
reply_size-lt (reply.Challenge value) can = omega arith
reply_size-lt (reply.Authenticate value) can = omega arith

pub written_call-lt : (value : Call) → CanWriteCall value → InRangeCall value → length (written_call value) < 2 ^ 20
written_call-lt value can is = omega (arith, written_call-short value can is, call_size-lt value can)

pub written_reply-lt : (value : Reply) → CanWriteReply value → InRangeReply value → length (written_reply value) < 2 ^ 20
written_reply-lt value can is = omega (arith, written_reply-short value can is, reply_size-lt value can)

arm_joins : (level : ℕ) (info : Option SamInfo) → CanWriteArm level info → IfThere HasShortTexts info → size_if_there sam_size info ≤ short_info_limit
arm_joins level None can few = omega arith
arm_joins level (Some info) can few = omega (arith, can.1.groups, few.effective_name, few.full_name, few.script, few.profile, few.home, few.home_drive, few.server, few.domain, can.1.extra)

reply_joins : (value : Reply) → CanWriteReply value → IsShortReply value → reply_size value ≤ short_reply_limit
reply_joins (reply.Logon value) can few = omega (arith, arm_joins value.level value.info can few)
reply_joins (reply.Logoff value) can few = omega arith
reply_joins (reply.Challenge value) can few = omega arith
reply_joins (reply.Authenticate value) can few = omega arith

pub written_reply-few : (value : Reply) → CanWriteReply value → InRangeReply value → IsShortReply value → length (written_reply value) ≤ short_reply_limit
written_reply-few value can is few = omega (arith, written_reply-short value can is, reply_joins value can few)

pub written_reply-joins : (value : Reply) → CanWriteReply value → InRangeReply value → IsShortReply value → length (written_reply value) ≤ 65536
written_reply-joins value can is few = omega (arith, written_reply-few value can is few)
