-- What is read of a stub of bytes can be written again: each reply, the information of each logon, and each call whose
-- stub has at most 65,536 bytes. A text that is a parameter is bounded by the stub alone; all others have a length of
-- 16 bits.
use Rattle.std.proofs.Common.{◌≡◌, ℕ, suc, ◌+◌, ◌^◌, ◌<◌, ◌≤◌, ◌⊎◌, ◌||◌, Bool, true, false, IsTrue, List, [], ◌∷◌, ◌++◌, length, get_or, Option, Ok, refl, sym, ap, subst, ◌∙◌, inl, inr, arith}
use Rattle.std.specs.Prelude.{replicate}
use Rattle.std.specs.List.{AllByRecursion}
use Rattle.std.proofs.lemmas.Bool.{eqb-true, leb-true}
use Rattle.std.proofs.lemmas.List.{length-append, length-replicate}
use Rattle.wire_base.specs.Numbers.{AreBytes}
use Rattle.wire_base.specs.Units.{utf16_of}
use Rattle.wire_base.specs.Sid.{SidParts}
use Rattle.wire_base.proofs.UnitLaws.{length-utf16_of}
use Rattle.ndr_codec.specs.declared.refused.NdrRefused.{NdrRefused}
use Rattle.ndr_codec.specs.declared.parts.Head.{Head}
use Rattle.ndr_codec.specs.Layout.{IsText, array_head, text}
use Rattle.ndr_codec.specs.Parts.{halves, head, unique, pointed, unique_text, units, bytes, FitsText, FitsBytes, IfThere}
use Rattle.ndr_codec.specs.Stub.{LayoutOf, item, part, after, done, only, placed, each, times, HasLayout, Begins}
use Rattle.ndr_codec.proofs.GivenLaws.{Gives, begins_given, gives_more}
use Rattle.ndr_codec.proofs.PartLaws.{gives_some_pointer, gives_reserved, gives_target, gives_times, one_of_all}
use Rattle.logon_stubs.specs.declared.refused.StubRefused.{StubRefused}
use Rattle.logon_stubs.specs.declared.info.SamInfo.{SamInfo}
use Rattle.logon_stubs.specs.declared.calls.AuthCall.{AuthCall}
use Rattle.logon_stubs.specs.declared.calls.ChallengeCall.{ChallengeCall}
use Rattle.logon_stubs.specs.declared.calls.LogoffCall.{LogoffCall}
use Rattle.logon_stubs.specs.declared.calls.LogonCall.{LogonCall}
use Rattle.logon_stubs.specs.declared.calls.Call.{Call}
use Rattle.logon_stubs.specs.declared.calls.Call.TheVariants as call
use Rattle.logon_stubs.specs.declared.calls.Reply.{Reply}
use Rattle.logon_stubs.specs.declared.calls.Reply.TheVariants as reply
use Rattle.logon_stubs.specs.Structures.{authenticator, network_info, sam_times, sam_heads, sam_texts, sam_numbers, entries_head, entries_pointer, array_count, group, group_array, groups_target, has_extra, extra_head, extra_entry, extra_entries, extra_sid, extra_sids, extra_array, extra_target, sam_info}
use Rattle.logon_stubs.specs.Calls.{challenge_call, auth_call, leveled_info, request_arm, logoff_call, logon_call, is_reply_arm, reply_arm, validation_arm, logon_reply, IsCall, IsReply, call_of, reply_of}
use Rattle.logon_stubs.specs.Writing.{CanWriteNetworkInfo, CanWriteSamInfo, HasLevel, CanWriteArm, CanWriteInfo, CanWriteCall, CanWriteReply}
use Rattle.logon_stubs.proofs.CallLaws.{call_of-IsCall, reply_of-IsReply}

-- ---- counted strings

-- what each value is, each value is that a layout gives
gives_any : {E T : Type 0} (layout : LayoutOf E T) (Is : T → Type 0) → ((value : T) → Is value) → Gives layout Is
gives_any (item s) Is any = λ value can of. any value
gives_any (part layout) Is any = gives_any layout Is any
gives_any (after first rest) Is any = gives_any first (λ x. Gives (rest x) Is) (λ x. gives_any (rest x) Is any)
gives_any (done made) Is any = any made
gives_any (only test refused layout) Is any = λ holds. gives_any layout Is any
gives_any (placed layout) Is any = λ place. gives_any (layout place) Is any

-- the length of a head has 16 bits
abbrev IsShortHead : Head → Type 0
IsShortHead front = front.len < 2 ^ 16

gives_short_head : (size : ℕ) (So : Head → Type 0) → ((front : Head) → IsShortHead front → So front) → Gives (head size) So
unfolding head
gives_short_head size So each place len short a maximum b c there d e holds = each (record { len = len; there = there }) short

gives_short_heads : Gives sam_heads (AllByRecursion IsShortHead)
unfolding sam_heads
gives_short_heads = gives_times {E = StubRefused} (part (head 2)) IsShortHead 6 (gives_short_head 2 IsShortHead (λ front short. short))

gives_fit_units : (front : Head) → IsShortHead front → Gives (units front) FitsText
unfolding units
gives_fit_units front short = gives_target _ front.there FitsText (omega arith) (λ value can of. omega (arith, can.1, short))

gives_fit_bytes : (front : Head) → IsShortHead front → Gives (bytes front) FitsBytes
unfolding bytes
gives_fit_bytes front short = gives_target _ front.there FitsBytes (omega arith) (λ value can of. omega (arith, can.0, short))

gives_fit_texts : (heads : List Head) → AllByRecursion IsShortHead heads → Gives (sam_texts heads) (AllByRecursion FitsText)
unfolding sam_texts
gives_fit_texts [] short = tt
gives_fit_texts (front ∷ others) short =
    gives_more (units front) FitsText _ (λ first is. gives_more (sam_texts others) (AllByRecursion FitsText) _ (λ more all. (is, all)) (gives_fit_texts others short.1)) (gives_fit_units front short.0)

-- ---- a logon's information

gives_writable_network_info : Gives network_info CanWriteNetworkInfo
unfolding network_info
gives_writable_network_info =
    gives_short_head 2 _ (λ domain_head dh. λ control c co.
    gives_any halves _ (λ logon_id.
    gives_short_head 2 _ (λ user_head uh. gives_short_head 2 _ (λ workstation_head wh. λ challenge len are.
    gives_short_head 1 _ (λ nt_head nh. gives_short_head 1 _ (λ lm_head lh.
    gives_more (units domain_head) FitsText _ (λ domain d.
    gives_more (units user_head) FitsText _ (λ user u.
    gives_more (units workstation_head) FitsText _ (λ workstation w.
    gives_more (bytes nt_head) FitsBytes _ (λ nt n.
    gives_more (bytes lm_head) FitsBytes _ (λ lm l.
    record { domain = d; user = u; workstation = w; nt = n; lm = l })
    (gives_fit_bytes lm_head lh)) (gives_fit_bytes nt_head nh)) (gives_fit_units workstation_head wh)) (gives_fit_units user_head uh)) (gives_fit_units domain_head dh)))))))

gives_writable_leveled_info : Gives leveled_info CanWriteNetworkInfo
unfolding leveled_info request_arm
gives_writable_leveled_info level a b tag c d holds = gives_some_pointer _ gives_writable_network_info

gives_writable_logoff : Gives logoff_call (λ value. CanWriteNetworkInfo value.info)
unfolding logoff_call
gives_writable_logoff =
    gives_any unique_text _ (λ server. gives_any unique_text _ (λ computer.
    gives_any (unique authenticator) _ (λ presented. gives_any (unique authenticator) _ (λ returned.
    gives_more leveled_info CanWriteNetworkInfo _ (λ info can. can) gives_writable_leveled_info))))

gives_writable_logon : Gives logon_call (λ value. CanWriteNetworkInfo value.info)
unfolding logon_call
gives_writable_logon = gives_more logoff_call (λ value. CanWriteNetworkInfo value.info) _ (λ front can. λ validation v of. can) gives_writable_logoff

-- ---- the texts that are parameters

parts_len : (bytes front back : List ℕ) → bytes ≡ front ++ back → length bytes ≡ length front + length back
parts_len bytes front back is = ap length is ∙ length-append front back

-- at most the bytes that are joined of fragments
abbrev IsJoined : List ℕ → Type 0
IsJoined bytes = length bytes ≤ 65536

text_fits : (place : ℕ) (value bytes : List ℕ) → IsText place value bytes → IsJoined bytes → FitsText value
text_fits place value bytes is joined =
    let layout = is.1.layout in
    let front : List ℕ = array_head is.1.maximum 0 (length value + 1) in
    let whole : length bytes ≡ length layout.gap + length (front ++ utf16_of (value ++ 0 ∷ [])) = parts_len bytes layout.gap (front ++ utf16_of (value ++ 0 ∷ [])) layout.whole in
    let array : length (front ++ utf16_of (value ++ 0 ∷ [])) ≡ length front + length (utf16_of (value ++ 0 ∷ [])) = length-append front (utf16_of (value ++ 0 ∷ [])) in
    omega (arith, joined, whole, array, length-utf16_of (value ++ 0 ∷ []), length-append value (0 ∷ []))

pointed_fits : (there : Bool) (place : ℕ) (value : Option (List ℕ)) (bytes : List ℕ) → HasLayout {E = NdrRefused} (pointed (item text) there) place value bytes → IsJoined bytes → IfThere FitsText value
pointed_fits false place value bytes has joined = subst (IfThere FitsText) (sym has.0) tt
pointed_fits true place value bytes has joined =
    let split = parts_len bytes has.front has.back has.split in
    subst (IfThere FitsText) (sym has.rest_is.0) (text_fits place has.head has.front has.head_is (omega (arith, joined, split)))

unique_text_fits : (place : ℕ) (value : Option (List ℕ)) (bytes : List ℕ) → HasLayout unique_text place value bytes → IsJoined bytes → IfThere FitsText value
unfolding unique
unique_text_fits place value bytes has joined =
    let split = parts_len bytes has.front has.back has.split in
    pointed_fits has.head (place + length has.front) value has.back has.rest_is (omega (arith, joined, split))

-- the texts of each call

abbrev ChallengeFits : ChallengeCall → Type 0
ChallengeFits value = IfThere FitsText value.primary × FitsText value.computer

challenge_fits : (value : ChallengeCall) (bytes : List ℕ) → HasLayout challenge_call 0 value bytes → IsJoined bytes → ChallengeFits value
unfolding challenge_call
challenge_fits value bytes has joined =
    let more = has.rest_is in
    let one = parts_len bytes has.front has.back has.split in
    let two = parts_len has.back more.front more.back more.split in
    let primary = unique_text_fits _ has.head has.front has.head_is (omega (arith, joined, one)) in
    let computer = text_fits _ more.head more.front more.head_is (omega (arith, joined, one, two)) in
    subst ChallengeFits (sym more.rest_is.rest_is.0) (primary, computer)

abbrev AuthFits : AuthCall → Type 0
AuthFits value = IfThere FitsText value.primary × FitsText value.account × FitsText value.computer

auth_fits : (value : AuthCall) (bytes : List ℕ) → HasLayout auth_call 0 value bytes → IsJoined bytes → AuthFits value
unfolding auth_call
auth_fits value bytes has joined =
    let more = has.rest_is in
    let last = more.rest_is.rest_is in
    let one = parts_len bytes has.front has.back has.split in
    let two = parts_len has.back more.front more.back more.split in
    let three = parts_len more.back more.rest_is.front more.rest_is.back more.rest_is.split in
    let four = parts_len more.rest_is.back last.front last.back last.split in
    let primary = unique_text_fits _ has.head has.front has.head_is (omega (arith, joined, one)) in
    let account = text_fits _ more.head more.front more.head_is (omega (arith, joined, one, two)) in
    let computer = text_fits _ last.head last.front last.head_is (omega (arith, joined, one, two, three, four)) in
    subst AuthFits (sym last.rest_is.rest_is.rest_is.0) (primary, account, computer)

abbrev FrontFits : LogoffCall → Type 0
FrontFits value = IfThere FitsText value.server × IfThere FitsText value.computer

logoff_fits : (value : LogoffCall) (bytes : List ℕ) → HasLayout logoff_call 0 value bytes → IsJoined bytes → FrontFits value
unfolding logoff_call
logoff_fits value bytes has joined =
    let more = has.rest_is in
    let one = parts_len bytes has.front has.back has.split in
    let two = parts_len has.back more.front more.back more.split in
    let server = unique_text_fits _ has.head has.front has.head_is (omega (arith, joined, one)) in
    let computer = unique_text_fits _ more.head more.front more.head_is (omega (arith, joined, one, two)) in
    subst FrontFits (sym more.rest_is.rest_is.rest_is.rest_is.0) (server, computer)

logon_fits : (value : LogonCall) (bytes : List ℕ) → HasLayout logon_call 0 value bytes → IsJoined bytes → IfThere FitsText value.server × IfThere FitsText value.computer
unfolding logon_call
logon_fits value bytes has joined =
    let one = parts_len bytes has.front has.back has.split in
    subst (λ (call : LogonCall). IfThere FitsText call.server × IfThere FitsText call.computer) (sym has.rest_is.rest_is.0) (logoff_fits has.head has.front has.head_is (omega (arith, joined, one)))

-- ---- calls

IsCall-CanWriteInfo : (opnum : ℕ) (stub : List ℕ) (value : Call) → AreBytes stub → IsCall opnum stub value → CanWriteInfo value
unfolding IsCall
IsCall-CanWriteInfo opnum stub (call.Logon value) are is = begins_given logon_call (λ one. CanWriteNetworkInfo one.info) value stub gives_writable_logon is.1 are
IsCall-CanWriteInfo opnum stub (call.Logoff value) are is = begins_given logoff_call (λ one. CanWriteNetworkInfo one.info) value stub gives_writable_logoff is.1 are
IsCall-CanWriteInfo opnum stub (call.Challenge value) are is = tt
IsCall-CanWriteInfo opnum stub (call.Authenticate value) are is = tt

-- what a stub that was joined begins with was joined
begins_joined : {E T : Type 0} (layout : LayoutOf E T) (value : T) (stub : List ℕ) (begins : Begins layout value stub) → IsJoined stub → IsJoined begins.bytes
begins_joined layout value stub begins joined = omega (arith, joined, parts_len stub begins.bytes begins.rest begins.whole)

IsCall-CanWrite : (opnum : ℕ) (stub : List ℕ) (value : Call) → AreBytes stub → IsJoined stub → IsCall opnum stub value → CanWriteCall value
unfolding IsCall
IsCall-CanWrite opnum stub (call.Logon value) are joined is =
    let texts = logon_fits value is.1.bytes is.1.has_layout (begins_joined logon_call value stub is.1 joined) in
    record { server = texts.0; computer = texts.1; info = begins_given logon_call (λ one. CanWriteNetworkInfo one.info) value stub gives_writable_logon is.1 are }
IsCall-CanWrite opnum stub (call.Logoff value) are joined is =
    let texts = logoff_fits value is.1.bytes is.1.has_layout (begins_joined logoff_call value stub is.1 joined) in
    record { server = texts.0; computer = texts.1; info = begins_given logoff_call (λ one. CanWriteNetworkInfo one.info) value stub gives_writable_logoff is.1 are }
IsCall-CanWrite opnum stub (call.Challenge value) are joined is = challenge_fits value is.1.bytes is.1.has_layout (begins_joined challenge_call value stub is.1 joined)
IsCall-CanWrite opnum stub (call.Authenticate value) are joined is = auth_fits value is.1.bytes is.1.has_layout (begins_joined auth_call value stub is.1 joined)

pub call_of-CanWriteInfo : (opnum : ℕ) (stub : List ℕ) (value : Call) → AreBytes stub → call_of opnum stub ≡ Ok value → CanWriteInfo value
call_of-CanWriteInfo opnum stub value are e = IsCall-CanWriteInfo opnum stub value are (call_of-IsCall opnum stub value are e)

pub call_of-CanWrite : (opnum : ℕ) (stub : List ℕ) (value : Call) → AreBytes stub → length stub ≤ 65536 → call_of opnum stub ≡ Ok value → CanWriteCall value
call_of-CanWrite opnum stub value are joined e = IsCall-CanWrite opnum stub value are joined (call_of-IsCall opnum stub value are e)

-- ---- the arrays of a user's information

-- the entries of an array of at most as many as are read
abbrev Few : {T : Type 0} → List T → Type 0
Few list = length list ≤ 256

gives_few_entries : (So : ℕ × Bool → Type 0) → ((front : ℕ × Bool) → front.0 ≤ 256 → So front) → Gives entries_head So
unfolding entries_head entries_pointer
gives_few_entries So each place count a b few place-2 there c d holds = each (count, there) (leb-true count 256 few)

gives_count : (count : ℕ) (So : Unit {0} → Type 0) → So tt → Gives (array_count count) So
unfolding array_count
gives_count count So so place actual a b holds = so

-- one for each
gives_as_many : {E A T : Type 0} (layout : A → LayoutOf E T) (fronts : List A) → Gives (each layout fronts) (λ list. length list ≡ length fronts)
gives_as_many layout [] = refl
gives_as_many layout (front ∷ others) =
    gives_any (layout front) _ (λ first. gives_more (each layout others) (λ list. length list ≡ length others) _ (λ more is. ap suc is) (gives_as_many layout others))

gives_that_many : {E T : Type 0} (layout : LayoutOf E T) (count : ℕ) → Gives (times count layout) (λ list. length list ≡ count)
gives_that_many layout count =
    gives_more (times count layout) (λ list. length list ≡ length (replicate count tt)) _ (λ list is. is ∙ length-replicate count tt) (gives_as_many {A = Unit {0}} (λ _. layout) (replicate count tt))

gives_few_groups : (front : ℕ × Bool) → front.0 ≤ 256 → Gives (groups_target front) Few
unfolding groups_target group_array
gives_few_groups front few =
    gives_target _ front.1 Few (omega arith) (gives_count front.0 _ (gives_more (times front.0 group) (λ list. length list ≡ front.0) Few (λ list is. omega (arith, is, few)) (gives_that_many group front.0)))

gives_few_extra : (front : ℕ × Bool) → front.0 ≤ 256 → Gives (extra_target front) Few
unfolding extra_target extra_array
gives_few_extra front few =
    gives_target _ front.1 Few (omega arith) (gives_count front.0 _ (
    gives_more (extra_entries front.0) (λ list. length list ≡ front.0) _ (λ attributes is.
    gives_more (extra_sids attributes) (λ list. length list ≡ length attributes) Few (λ list same. omega (arith, same, is, few)) (gives_as_many extra_sid attributes))
    (gives_that_many extra_entry front.0)))

-- extra identifiers stand in a structure that has them alone
abbrev IsExtra : Bool → List (SidParts × ℕ) → Type 0
IsExtra with_extra extra = (with_extra ≡ false → extra ≡ []) × Few extra

gives_extra : (with_extra : Bool) (So : ℕ × Bool → Type 0) → ((front : ℕ × Bool) → Gives (extra_target front) (IsExtra with_extra) → So front) → Gives (extra_head with_extra) So
unfolding extra_target
gives_extra false So each = each (0, false) (λ e. refl, omega arith)
gives_extra true So each = gives_few_entries So (λ front few. each front (gives_more (extra_target front) Few _ (λ extra is. (λ e. absurd (let none = e in cc), is)) (gives_few_extra front few)))

-- ---- a user's information

abbrev IsWritable : Bool → SamInfo → Type 0
IsWritable with_extra info = (with_extra ≡ false → info.extra ≡ []) × CanWriteSamInfo info

gives_writable_sam_info : (with_extra : Bool) → Gives (sam_info with_extra) (IsWritable with_extra)
unfolding sam_info
gives_writable_sam_info with_extra =
    gives_any sam_times _ (λ moments.
    gives_more sam_heads (AllByRecursion IsShortHead) _ (λ heads h.
    gives_any sam_numbers _ (λ numbers.
    gives_few_entries _ (λ groups_front gf. λ user_flags e eo. λ key len are.
    gives_short_head 2 _ (λ server_head sh. gives_short_head 2 _ (λ domain_head dh. gives_some_pointer _ (gives_reserved 10 _ (
    gives_extra with_extra _ (λ extra_front x.
    gives_more (sam_texts heads) (AllByRecursion FitsText) _ (λ texts t.
    gives_more (groups_target groups_front) Few _ (λ groups g.
    gives_more (units server_head) FitsText _ (λ server s.
    gives_more (units domain_head) FitsText _ (λ domain d. λ identifier i io.
    gives_more (extra_target extra_front) (IsExtra with_extra) _ (λ extra is.
    let text : (place : ℕ) → FitsText (get_or texts place []) = one_of_all FitsText [] (omega arith) texts t in (
      is.0,
      record {
        effective_name = text 0;
        full_name = text 1;
        script = text 2;
        profile = text 3;
        home = text 4;
        home_drive = text 5;
        groups = g;
        server = s;
        domain = d;
        extra = is.1;
      },
    )) x)
    (gives_fit_units domain_head dh)) (gives_fit_units server_head sh)) (gives_few_groups groups_front gf)) (gives_fit_texts heads h)))))))))
    gives_short_heads)

-- ---- replies

one_of_two : (a b : Bool) → IsTrue (a || b) → (a ≡ true) ⊎ (b ≡ true)
one_of_two true b holds = inl refl
one_of_two false b holds = inr holds

level_of : (level : ℕ) (info : SamInfo) → IsTrue (is_reply_arm level) → (has_extra level ≡ false → info.extra ≡ []) → HasLevel level info
level_of level info holds none =
    elim (one_of_two _ _ holds) [
      | inl two ↦ (let is : level ≡ 2 = eqb-true level 2 two in inl (is, none (rw is refl)))
      | inr three ↦ inr (eqb-true level 3 three)
    ]

gives_writable_reply_arm : (level : ℕ) (there : Bool) → Gives (reply_arm level there) (CanWriteArm level)
gives_writable_reply_arm level false = tt
gives_writable_reply_arm level true = λ holds.
    gives_more (sam_info (has_extra level)) (IsWritable (has_extra level)) _ (λ info is. (level_of level info holds is.0, is.1)) (gives_writable_sam_info (has_extra level))

gives_writable_arm : (level : ℕ) → Gives (validation_arm level) (CanWriteArm level)
unfolding validation_arm
gives_writable_arm level there a b = gives_writable_reply_arm level there

gives_writable_reply : Gives logon_reply (λ value. CanWriteArm value.level value.info)
unfolding logon_reply
gives_writable_reply =
    gives_any (unique authenticator) _ (λ returned. λ level l lo.
    gives_more (validation_arm level) (CanWriteArm level) _ (λ info can. λ authoritative a ao. λ status s so. can) (gives_writable_arm level))

IsReply-CanWrite : (opnum : ℕ) (stub : List ℕ) (value : Reply) → AreBytes stub → IsReply opnum stub value → CanWriteReply value
unfolding IsReply
IsReply-CanWrite opnum stub (reply.Logon value) are is = begins_given logon_reply (λ one. CanWriteArm one.level one.info) value stub gives_writable_reply is.1 are
IsReply-CanWrite opnum stub (reply.Logoff value) are is = tt
IsReply-CanWrite opnum stub (reply.Challenge value) are is = tt
IsReply-CanWrite opnum stub (reply.Authenticate value) are is = tt

pub reply_of-CanWrite : (opnum : ℕ) (stub : List ℕ) (value : Reply) → AreBytes stub → reply_of opnum stub ≡ Ok value → CanWriteReply value
reply_of-CanWrite opnum stub value are e = IsReply-CanWrite opnum stub value are (reply_of-IsReply opnum stub value are e)
