-- What is read of a stub of bytes has its ranges.
use Rattle.std.proofs.Common.{◌≡◌, ℕ, ◌^◌, ◌<◌, Bool, true, false, List, [], ◌∷◌, get_or, Ok, arith}
use Rattle.std.specs.List.{AllByRecursion}
use Rattle.wire_base.specs.Numbers.{AreBytes}
use Rattle.wire_base.specs.Units.{AreUnits}
use Rattle.ndr_codec.specs.declared.refused.NdrRefused.{NdrRefused}
use Rattle.ndr_codec.specs.Layout.{text}
use Rattle.ndr_codec.proofs.GivenLaws.{Gives, begins_given, gives_more}
use Rattle.logon_stubs.specs.declared.calls.Reply.{Reply}
use Rattle.logon_stubs.specs.declared.calls.Reply.TheVariants as reply
use Rattle.logon_stubs.specs.declared.calls.Call.{Call}
use Rattle.logon_stubs.specs.declared.calls.Call.TheVariants as call
use Rattle.logon_stubs.specs.declared.refused.StubRefused.{StubRefused}
use Rattle.logon_stubs.specs.Layout.{item, part}
use Rattle.ndr_codec.specs.declared.parts.Head.{Head}
use Rattle.ndr_codec.specs.Parts.{halves, head, units, bytes, IfThere}
use Rattle.ndr_codec.proofs.PartLaws.{gives_unique, gives_text, gives_halves, gives_some_pointer, gives_reserved, gives_head, gives_target, gives_units, gives_bytes, gives_each, gives_times, one_of_all}
use Rattle.logon_stubs.specs.Structures.{authenticator, network_info, sam_times, sam_heads, sam_texts, sam_numbers, entries_head, entries_pointer, array_count, group, group_array, groups_target, has_extra, extra_head, extra_entry, extra_entries, extra_sid, extra_sids, extra_array, extra_target, sam_info}
use Rattle.logon_stubs.specs.Calls.{challenge_call, auth_call, leveled_info, request_arm, logoff_call, logon_call, challenge_reply, auth_reply, logoff_reply, reply_arm, validation_arm, logon_reply, IsCall, IsReply, call_of, reply_of}
use Rattle.logon_stubs.specs.Ranges.{IsAuthenticator, InRangeNetworkInfo, InRangeChallengeCall, InRangeAuthCall, InRangeLogoffCall, InRangeLogonCall, InRangeCall, InRangeGroup, InRangeExtra, InRangeSamInfo, InRangeLogonReply, InRangeLogoffReply, InRangeChallengeReply, InRangeAuthReply, InRangeReply}
use Rattle.logon_stubs.proofs.CallLaws.{call_of-IsCall, reply_of-IsReply}

pub gives_authenticator : Gives authenticator IsAuthenticator
unfolding authenticator
gives_authenticator credential len are timestamp fits of = record { credential = (len, are); timestamp = fits }

gives_network_info : Gives network_info InRangeNetworkInfo
unfolding network_info
gives_network_info =
    gives_head 2 _ (λ domain_head. λ control c of.
    gives_more halves (λ n. n < 2 ^ 64) _ (λ logon_id i.
    gives_head 2 _ (λ user_head. gives_head 2 _ (λ workstation_head. λ challenge len are.
    gives_head 1 _ (λ nt_head. gives_head 1 _ (λ lm_head.
    gives_more (units domain_head) AreUnits _ (λ domain d.
    gives_more (units user_head) AreUnits _ (λ user u.
    gives_more (units workstation_head) AreUnits _ (λ workstation w.
    gives_more (bytes nt_head) AreBytes _ (λ nt n.
    gives_more (bytes lm_head) AreBytes _ (λ lm l.
    record { domain = d; control = c; logon_id = i; user = u; workstation = w; challenge = (len, are); nt = n; lm = l })
    (gives_bytes lm_head)) (gives_bytes nt_head)) (gives_units workstation_head)) (gives_units user_head)) (gives_units domain_head)))))) gives_halves)

gives_leveled_info : Gives leveled_info InRangeNetworkInfo
unfolding leveled_info request_arm
gives_leveled_info level a b tag c d holds = gives_some_pointer _ gives_network_info

gives_challenge_call : Gives challenge_call InRangeChallengeCall
unfolding challenge_call
gives_challenge_call = gives_unique (item text) AreUnits _ (gives_text NdrRefused) (λ primary p. λ computer n a. λ challenge len are. record { primary = p; computer = n.0; challenge = (len, are) })

gives_auth_call : Gives auth_call InRangeAuthCall
unfolding auth_call
gives_auth_call =
    gives_unique (item text) AreUnits _ (gives_text NdrRefused) (λ primary p. λ account a a-of. λ channel c c-of. λ computer n n-of. λ credential len are. λ flags f f-of.
    record { primary = p; account = a.0; channel = c; computer = n.0; credential = (len, are); flags = f })

gives_logoff_call : Gives logoff_call InRangeLogoffCall
unfolding logoff_call
gives_logoff_call =
    gives_unique (item text) AreUnits _ (gives_text NdrRefused) (λ server s.
    gives_unique (item text) AreUnits _ (gives_text NdrRefused) (λ computer c.
    gives_unique authenticator IsAuthenticator _ gives_authenticator (λ presented p.
    gives_unique authenticator IsAuthenticator _ gives_authenticator (λ returned r.
    gives_more leveled_info InRangeNetworkInfo _ (λ info i. record { server = s; computer = c; authenticator = p; returned = r; info = i }) gives_leveled_info))))

gives_logon_call : Gives logon_call InRangeLogonCall
unfolding logon_call
gives_logon_call =
    gives_more logoff_call InRangeLogoffCall _ (λ front is. λ validation v of.
    record { front = is; validation = v }) gives_logoff_call

IsCall-InRange : (opnum : ℕ) (stub : List ℕ) (value : Call) → AreBytes stub → IsCall opnum stub value → InRangeCall value
unfolding IsCall
IsCall-InRange opnum stub (call.Logon value) are is = begins_given logon_call InRangeLogonCall value stub gives_logon_call is.1 are
IsCall-InRange opnum stub (call.Logoff value) are is = begins_given logoff_call InRangeLogoffCall value stub gives_logoff_call is.1 are
IsCall-InRange opnum stub (call.Challenge value) are is = begins_given challenge_call InRangeChallengeCall value stub gives_challenge_call is.1 are
IsCall-InRange opnum stub (call.Authenticate value) are is = begins_given auth_call InRangeAuthCall value stub gives_auth_call is.1 are

pub call_of-InRange : (opnum : ℕ) (stub : List ℕ) (value : Call) → AreBytes stub → call_of opnum stub ≡ Ok value → InRangeCall value
call_of-InRange opnum stub value are e = IsCall-InRange opnum stub value are (call_of-IsCall opnum stub value are e)

-- ---- replies

gives_entries_head : (So : ℕ × Bool → Type 0) → ((front : ℕ × Bool) → So front) → Gives entries_head So
unfolding entries_head entries_pointer
gives_entries_head So each place count a b holds place-2 there c d holds-2 = each _

gives_array_count : (count : ℕ) (So : Unit {0} → Type 0) → So tt → Gives (array_count count) So
unfolding array_count
gives_array_count count So so place actual a b holds = so

gives_group : Gives group InRangeGroup
unfolding group
gives_group identifier a b attributes c d = (a, c)

gives_groups_target : (front : ℕ × Bool) → Gives (groups_target front) (AllByRecursion InRangeGroup)
unfolding groups_target group_array
gives_groups_target front = gives_target _ front.1 (AllByRecursion InRangeGroup) tt (gives_array_count front.0 _ (gives_times group InRangeGroup front.0 gives_group))

gives_sam_times : Gives sam_times (AllByRecursion (λ n. n < 2 ^ 64))
unfolding sam_times
gives_sam_times = gives_times {E = StubRefused} (part halves) (λ n. n < 2 ^ 64) 6 gives_halves

gives_sam_heads : Gives sam_heads (AllByRecursion (λ front. Unit {0}))
unfolding sam_heads
gives_sam_heads = gives_times {E = StubRefused} (part (head 2)) (λ front. Unit {0}) 6 (gives_head 2 _ (λ front. tt))

gives_sam_texts : (heads : List Head) → Gives (sam_texts heads) (AllByRecursion AreUnits)
unfolding sam_texts
gives_sam_texts heads = gives_each (λ front. part (units front)) AreUnits heads gives_units

gives_extra_head : (with_extra : Bool) (So : ℕ × Bool → Type 0) → ((front : ℕ × Bool) → So front) → Gives (extra_head with_extra) So
gives_extra_head false So each = each (0, false)
gives_extra_head true So each = gives_entries_head So each

gives_extra_entry : Gives extra_entry (λ n. n < 2 ^ 32)
unfolding extra_entry
gives_extra_entry = gives_some_pointer _ (λ attributes fits of. fits)

gives_extra_sids : (attributes : List ℕ) → AllByRecursion (λ n. n < 2 ^ 32) attributes → Gives (extra_sids attributes) (AllByRecursion InRangeExtra)
unfolding extra_sid
gives_extra_sids [] all = tt
gives_extra_sids (first ∷ others) all = λ identifier is of.
    gives_more (extra_sids others) (AllByRecursion InRangeExtra) (λ more. AllByRecursion InRangeExtra ((identifier, first) ∷ more)) (λ more so. ((is, all.0), so)) (gives_extra_sids others all.1)

gives_extra_target : (front : ℕ × Bool) → Gives (extra_target front) (AllByRecursion InRangeExtra)
unfolding extra_target extra_array
gives_extra_target front =
    gives_target _ front.1 (AllByRecursion InRangeExtra) tt (gives_array_count front.0 _ (
    gives_more (extra_entries front.0) (AllByRecursion (λ n. n < 2 ^ 32)) _ gives_extra_sids (gives_times extra_entry (λ n. n < 2 ^ 32) front.0 gives_extra_entry)))

gives_sam_info : (with_extra : Bool) → Gives (sam_info with_extra) InRangeSamInfo
unfolding sam_info sam_numbers
gives_sam_info with_extra =
    gives_more sam_times (AllByRecursion (λ n. n < 2 ^ 64)) _ (λ moments t.
    gives_more sam_heads (AllByRecursion (λ front. Unit {0})) _ (λ heads h. λ logon_count a ao. λ bad_count b bo. λ user_id c co. λ group_id d do-of.
    gives_entries_head _ (λ groups_front. λ user_flags e eo. λ key len are.
    gives_head 2 _ (λ server_head. gives_head 2 _ (λ domain_head. gives_some_pointer _ (gives_reserved 10 _ (
    gives_extra_head with_extra _ (λ extra_front.
    gives_more (sam_texts heads) (AllByRecursion AreUnits) _ (λ texts n.
    gives_more (groups_target groups_front) (AllByRecursion InRangeGroup) _ (λ groups g.
    gives_more (units server_head) AreUnits _ (λ server s.
    gives_more (units domain_head) AreUnits _ (λ domain m. λ identifier i io.
    gives_more (extra_target extra_front) (AllByRecursion InRangeExtra) _ (λ extra x.
    let time : (place : ℕ) → get_or moments place 0 < 2 ^ 64 = one_of_all (λ n. n < 2 ^ 64) 0 (omega arith) moments t in
    let text : (place : ℕ) → AreUnits (get_or texts place []) = one_of_all AreUnits [] (λ i. omega arith) texts n in
    record {
      times = (time 0, (time 1, (time 2, (time 3, (time 4, (time 5, tt))))));
      texts = (text 0, (text 1, (text 2, (text 3, (text 4, (text 5, tt))))));
      numbers = record { logon_count = a; bad_count = b; user_id = c; group_id = d };
      groups = g;
      user_flags = e;
      key = (len, are);
      server = s;
      domain = m;
      sid = i;
      extra = x;
    }) (gives_extra_target extra_front))
    (gives_units domain_head)) (gives_units server_head)) (gives_groups_target groups_front)) (gives_sam_texts heads)))))))) gives_sam_heads) gives_sam_times

gives_reply_arm : (level : ℕ) (there : Bool) → Gives (reply_arm level there) (IfThere InRangeSamInfo)
gives_reply_arm level false = tt
gives_reply_arm level true = λ holds. gives_more (sam_info (has_extra level)) InRangeSamInfo _ (λ info is. is) (gives_sam_info (has_extra level))

gives_validation_arm : (level : ℕ) → Gives (validation_arm level) (IfThere InRangeSamInfo)
unfolding validation_arm
gives_validation_arm level there a b = gives_reply_arm level there

gives_logon_reply : Gives logon_reply InRangeLogonReply
unfolding logon_reply
gives_logon_reply =
    gives_unique authenticator IsAuthenticator _ gives_authenticator (λ returned r. λ level l lo.
    gives_more (validation_arm level) (IfThere InRangeSamInfo) _ (λ info i. λ authoritative a ao. λ status s so.
    record { returned = r; level = l; info = i; authoritative = a; status = s }) (gives_validation_arm level))

gives_logoff_reply : Gives logoff_reply InRangeLogoffReply
unfolding logoff_reply
gives_logoff_reply = gives_unique authenticator IsAuthenticator _ gives_authenticator (λ returned r. λ status s so. record { returned = r; status = s })

gives_challenge_reply : Gives challenge_reply InRangeChallengeReply
unfolding challenge_reply
gives_challenge_reply challenge len are status s so = record { challenge = (len, are); status = s }

gives_auth_reply : Gives auth_reply InRangeAuthReply
unfolding auth_reply
gives_auth_reply credential len are flags f fo status s so = record { credential = (len, are); flags = f; status = s }

IsReply-InRange : (opnum : ℕ) (stub : List ℕ) (value : Reply) → AreBytes stub → IsReply opnum stub value → InRangeReply value
unfolding IsReply
IsReply-InRange opnum stub (reply.Logon value) are is = begins_given logon_reply InRangeLogonReply value stub gives_logon_reply is.1 are
IsReply-InRange opnum stub (reply.Logoff value) are is = begins_given logoff_reply _ value stub gives_logoff_reply is.1 are
IsReply-InRange opnum stub (reply.Challenge value) are is = begins_given challenge_reply _ value stub gives_challenge_reply is.1 are
IsReply-InRange opnum stub (reply.Authenticate value) are is = begins_given auth_reply _ value stub gives_auth_reply is.1 are

pub reply_of-InRange : (opnum : ℕ) (stub : List ℕ) (value : Reply) → AreBytes stub → reply_of opnum stub ≡ Ok value → InRangeReply value
reply_of-InRange opnum stub value are e = IsReply-InRange opnum stub value are (reply_of-IsReply opnum stub value are e)
