-- For the law `what_is_sent_is_whole`: units of one fragment are whole, and so are replies, which are short.
use Rattle.std.proofs.Common.{◌≡◌, inl, inr, ℕ, zero, suc, ◌+◌, ◌-◌, ◌%◌, ◌<◌, ◌≤◌, ◌^◌, ◌==◌, ◌||◌, Bool, true, false, List, [], ◌∷◌, length, min, replicate, Option, Some, None, if◌then◌else◌, refl, sym, ap, subst, ◌∙◌, arith}
use Rattle.std.specs.Int.{Width, w16, w32, byte_len, to_le_bytes}
use Rattle.std.specs.List.{AllByRecursion, slice_get}
use Rattle.std.specs.Option.{option_and_then}
use Rattle.std.proofs.lemmas.Bool.{cases_Bool}
use Rattle.std.proofs.lemmas.Bool.Decides.{Decides-eqb}
use Rattle.std.proofs.lemmas.List.{length-append, length-replicate}
use Rattle.std.proofs.lemmas.List.Elements.{All-from_get_or}
use Rattle.std.proofs.Math.Nat.{mod-lt}
use Rattle.wire_base.specs.Names.{IsName}
use Rattle.wire_base.specs.Numbers.{AreBytes}
use Rattle.wire_base.specs.declared.authenticator.Authenticator.{Authenticator}
use Rattle.wire_base.proofs.NumberLaws.{bytes_from_all, length-to_le_bytes}
use Rattle.rc4_stream.proofs.Rc4Laws.{All-applied, length-applied}
use Rattle.channel_keys.specs.Hidden.{crypt_by, crypt_key, is_zero}
use Rattle.digest_parts.proofs.Laws.{All-md4_of, length-md4_of}
use Rattle.interactive_logon.specs.declared.calls.InteractiveInfo.{InteractiveInfo}
use Rattle.controller_calls.specs.Interactive.{admitted, judge_interactive, judge_interactive_level, shown_hash}
use Rattle.ntlm_responses.proofs.ResponseLaws.{All-base_key_of, length-base_key_of}
use Rattle.rpc_units.specs.declared.unit.Syntax.{Syntax}
use Rattle.rpc_units.specs.Calls.{CanBeSent, IsHeard, bytes_of_call}
use Rattle.rpc_units.specs.Joining.{cut_of}
use Rattle.rpc_units.specs.Writing.{written}
use Rattle.rpc_units.proofs.CuttingLaws.{call_heard, call_short}
use Rattle.ndr_codec.specs.Layout.{byte, short, long, raw, pointer, padding}
use Rattle.ndr_codec.specs.Parts.{IfThere}
use Rattle.ndr_codec.specs.Writing.{Written, aligned, nothing, put, put_number, referent_of}
use Rattle.logon_stubs.specs.declared.calls.AuthReply.{AuthReply}
use Rattle.logon_stubs.specs.declared.calls.Reply.TheVariants as reply
use Rattle.logon_stubs.specs.declared.info.NetworkInfo.{NetworkInfo}
use Rattle.logon_stubs.specs.declared.info.SamInfo.{SamInfo}
use Rattle.logon_stubs.specs.declared.info.Verdict.{Verdict}
use Rattle.logon_stubs.specs.declared.info.Verdict.TheVariants.{Granted, Status}
use Rattle.logon_stubs.specs.Ranges.{HasShortTexts, InRangeSamInfo, IsBlock, short_reply_limit}
use Rattle.logon_stubs.specs.Writing.{CanWriteSamInfo, put_auth_reply, put_authenticator, put_challenge_reply, put_logoff_reply, put_logon_reply, written_reply}
use Rattle.logon_stubs.proofs.AnswerLaws.{answers_are_long}
use Rattle.logon_stubs.proofs.WrittenLaws.{AreBytes-written_reply, written_reply-few}
use Rattle.account_table.specs.AccountTable.{AccountTable}
use Rattle.account_table.specs.Changes.{at_place, with_hash, with_new_hash}
use Rattle.account_table.specs.LookUps.{account_in, place_in, route_in}
use Rattle.account_table.specs.Ranges.{InRangeAccount}
use Rattle.account_table.specs.declared.account.Account.{Account}
use Rattle.account_table.specs.declared.account.Policy.{Policy}
use Rattle.account_table.specs.declared.table.Route.{Route}
use Rattle.account_table.specs.declared.table.Route.TheVariants.{Own, Trust, Elsewhere}
use Rattle.sam_logon.specs.Granting.{granting_reply, sam_info_of}
use Rattle.sam_logon.specs.Rules.{Shown, count_after, first_refusal, rules_for, shown_by_hash, shown_by_response}
use Rattle.sam_logon.specs.Verdict.{IfGranted, interactive_judgement_of, interactive_table_after, interactive_verdict_of, judged_account, judgement_of, table_after, table_routed, table_shown, verdict_by, verdict_of, verdict_routed, verdict_shown}
use Rattle.sam_logon.proofs.GrantedLaws.{granting-CanWrite, granting-InRange, in_range-counted, sam_info-CanWrite, sam_info-InRange, sam_info-IsShort}
use Rattle.end_links.specs.Whole.{IsWholeSend}
use Rattle.end_links.proofs.ByteLaws.{IsBytes, both, call_bytes, is_bytes, more, none, number, zero_bytes}
use Rattle.end_links.proofs.WholeLaws as whole
use Rattle.end_links.specs.Binding.{ack_of, nak_of}
use Rattle.end_links.specs.Sending.{fault_of, response_of}
use Rattle.controller_calls.specs.Logons.{IsServedLevel, judge_info, judge_level, serves_level}
use Rattle.controller_calls.proofs.LevelLaws.{short_at}
use Rattle.domain_controller.proofs.NumberedLaws.{ack_alike, fault_alike, nak_alike, reply_alike}
use Rattle.domain_controller.specs.ReadBack.{heard_reply, passed_reply}
use Rattle.domain_controller.specs.Whole.{InRangeTable}

-- ---- units of one fragment: their bytes have the numbers modulo their widths

pub fault_whole : (call context status : ℕ) → status < 2 ^ 32 → IsWholeSend (written (fault_of call context status))
fault_whole call context status known =
    subst IsWholeSend (fault_alike call context status) (whole.fault_whole (call % 2 ^ 32) (context % 2 ^ 16) status (omega arith) (omega arith) known)

pub nak_whole : (call : ℕ) → IsWholeSend (written (nak_of call))
nak_whole call = subst IsWholeSend (nak_alike call) (whole.nak_whole (call % 2 ^ 32) (omega arith))

pub ack_whole : (served : Syntax) (call receive : ℕ) (contexts : List (ℕ × Syntax × List Syntax)) → length contexts ≤ 242 → IsWholeSend (written (ack_of served call receive contexts))
ack_whole served call receive contexts few =
    subst IsWholeSend (ack_alike served call receive contexts) (whole.ack_whole served (call % 2 ^ 32) receive contexts (omega arith) few)

-- ---- replies

pub reply_can : (call context limit : ℕ) (stub : List ℕ) → 1432 ≤ limit → limit ≤ 5840 → length stub ≤ 65536 → CanBeSent (heard_reply call context stub) limit
reply_can call context limit stub least most few = record {
  whole = record { stub = tt; first = refl; last = refl };
  range = record { call = omega arith; body = (omega (arith, few), omega arith); trailer = tt };
  value = tt;
  least = least;
  room = omega (arith, most);
}

pub reply_heard : (call context limit : ℕ) (stub : List ℕ) → 1432 ≤ limit → limit ≤ 5840 → length stub ≤ 65536 →
    IsHeard (bytes_of_call (response_of call context stub) limit) (cut_of (heard_reply call context stub) limit) (heard_reply call context stub)
reply_heard call context limit stub least most few =
    subst (λ (bytes : List ℕ). IsHeard bytes (cut_of (heard_reply call context stub) limit) (heard_reply call context stub)) (reply_alike call context limit stub)
    (call_heard (heard_reply call context stub) limit (reply_can call context limit stub least most few) few)

pub reply_whole : (call context limit : ℕ) (stub : List ℕ) → 1432 ≤ limit → limit ≤ 5840 → length stub ≤ short_reply_limit → AreBytes stub →
    IsWholeSend (bytes_of_call (response_of call context stub) limit)
reply_whole call context limit stub least most few are = record {
  are = call_bytes (response_of call context stub) limit (are, tt);
  frames = cut_of (heard_reply call context stub) limit;
  unit = heard_reply call context stub;
  heard = reply_heard call context limit stub least most (omega (arith, few));
  few = omega (arith, call_short (response_of call context stub) limit tt least (omega arith), few);
}

-- ---- how long replies are that carry no information

aligned_len : (alignment : ℕ) (item : List ℕ) (place : ℕ) → 1 ≤ alignment → length (aligned alignment item place) ≤ alignment + length item
unfolding aligned padding
aligned_len alignment item place some =
    let gap : ℕ = (alignment - place % alignment) % alignment in
    let below : gap < alignment = mod-lt (alignment - place % alignment) (omega (arith, some)) in
    omega (arith, length-append (replicate gap 0) item, length-replicate {A = ℕ} gap 0, below)

number_len : (w : Width) (value : ℕ) (old : Written) → 1 ≤ byte_len w → length (put_number w value old).bytes ≤ length old.bytes + (byte_len w + byte_len w)
number_len w value old some =
    omega (arith, length-append old.bytes (aligned (byte_len w) (to_le_bytes w value) (length old.bytes)), aligned_len (byte_len w) (to_le_bytes w value) (length old.bytes) some, length-to_le_bytes w value)

short_len : (value : ℕ) (old : Written) → length (put short value old).bytes ≤ length old.bytes + 4
short_len value old = number_len w16 value old (omega arith)

long_len : (value : ℕ) (old : Written) → length (put long value old).bytes ≤ length old.bytes + 8
long_len value old = number_len w32 value old (omega arith)

pointer_len : (there : Bool) (old : Written) → length (put pointer there old).bytes ≤ length old.bytes + 8
pointer_len there old = number_len w32 _ old (omega arith)

behind_len : (level authoritative status : ℕ) (old : Written) → length (put long status (put byte authoritative (put pointer false (put short level old)))).bytes ≤ length old.bytes + 21
behind_len level authoritative status old =
    let one : Written = put short level old in
    let two : Written = put pointer false one in
    let three : Written = put byte authoritative two in
    let few : length one.bytes ≤ length old.bytes + 4 = short_len level old in
    let more : length two.bytes ≤ length one.bytes + 8 = pointer_len false one in
    let next : length three.bytes ≡ length two.bytes + 1 = length-append two.bytes (authoritative ∷ []) in
    let last : length (put long status three).bytes ≤ length three.bytes + 8 = long_len status three in
    omega (arith, few, more, next, last)

-- bytes stay bytes as a number, a pointer, a byte or bytes are put behind them

aligned_bytes : (alignment : ℕ) (item : List ℕ) (place : ℕ) → IsBytes item → IsBytes (aligned alignment item place)
unfolding aligned
aligned_bytes alignment item place is = both (zero_bytes (padding alignment place)) is

short_bytes : (value : ℕ) (old : Written) → IsBytes old.bytes → IsBytes (put short value old).bytes
short_bytes value old are = both are (aligned_bytes 2 (to_le_bytes w16 value) (length old.bytes) (number w16 value))

long_bytes : (value : ℕ) (old : Written) → IsBytes old.bytes → IsBytes (put long value old).bytes
long_bytes value old are = both are (aligned_bytes 4 (to_le_bytes w32 value) (length old.bytes) (number w32 value))

pointer_bytes : (there : Bool) (old : Written) → IsBytes old.bytes → IsBytes (put pointer there old).bytes
pointer_bytes there old are = long_bytes (referent_of there old.pointers) old are

behind_bytes : (level status : ℕ) (old : Written) → IsBytes old.bytes → IsBytes (put long status (put byte 1 (put pointer false (put short level old)))).bytes
behind_bytes level status old are =
    long_bytes status (put byte 1 (put pointer false (put short level old)))
    (both (pointer_bytes false (put short level old) (short_bytes level old are)) (more 1 (omega arith) none))

-- a stub has room in one piece of a link, and is bytes
pub record IsRoomy (stub : List ℕ) : Type 0 where
  pub few : length stub ≤ short_reply_limit
  pub are : AreBytes stub

-- a credential of 8 bytes, where one is returned
abbrev pub ReturnsEight : Option Authenticator → Type 0
ReturnsEight returned = IfThere (λ (a : Authenticator). IsBlock 8 a.credential) returned

pub bare_few : (returned : Option Authenticator) (level status : ℕ) → ReturnsEight returned →
    IsRoomy (written_reply (reply.Logon (record { returned = returned; level = level; info = None; authoritative = 1; status = status })))
unfolding written_reply put_logon_reply put_authenticator
bare_few None level status eight =
    let first : Written = put pointer false nothing in
    let one : length first.bytes ≤ 8 = pointer_len false nothing in
    let rest : length (put long status (put byte 1 (put pointer false (put short level first)))).bytes ≤ length first.bytes + 21 = behind_len level 1 status first in
    let few : length (put long status (put byte 1 (put pointer false (put short level first)))).bytes ≤ short_reply_limit = omega (arith, one, rest) in
    record { few = few; are = (behind_bytes level status first (pointer_bytes false nothing none)).are }
bare_few (Some given) level status eight =
    let first : Written = put pointer true nothing in
    let second : Written = put (raw 8) given.credential first in
    let third : Written = put long given.timestamp second in
    let one : length first.bytes ≤ 8 = pointer_len true nothing in
    let two : length second.bytes ≡ length first.bytes + length given.credential = length-append first.bytes given.credential in
    let three : length third.bytes ≤ length second.bytes + 8 = long_len given.timestamp second in
    let rest : length (put long status (put byte 1 (put pointer false (put short level third)))).bytes ≤ length third.bytes + 21 = behind_len level 1 status third in
    let few : length (put long status (put byte 1 (put pointer false (put short level third)))).bytes ≤ short_reply_limit = omega (arith, one, two, three, rest, eight.0) in
    record {
      few = few;
      are = (behind_bytes level status third
          (long_bytes given.timestamp second (both (pointer_bytes true nothing none) (is_bytes given.credential eight.1)))).are;
    }

pub challenge_few : (server : List ℕ) (status : ℕ) → IsBlock 8 server → IsRoomy (written_reply (reply.Challenge (record { challenge = server; status = status })))
unfolding written_reply put_challenge_reply
challenge_few server status eight =
    let first : Written = put (raw 8) server nothing in
    let one : length first.bytes ≡ 8 = eight.0 in
    let rest : length (put long status first).bytes ≤ length first.bytes + 8 = long_len status first in
    let few : length (put long status first).bytes ≤ short_reply_limit = omega (arith, one, rest) in
    record { few = few; are = (long_bytes status first (both none (is_bytes server eight.1))).are }

opened_bytes : (r : AuthReply) → AreBytes r.credential → AreBytes (written_reply (reply.Authenticate r))
unfolding written_reply put_auth_reply
opened_bytes r are =
    let first : Written = put (raw 8) r.credential nothing in
    (long_bytes r.status (put long r.flags first) (long_bytes r.flags first (both none (is_bytes r.credential are)))).are

pub opened_few : (r : AuthReply) → IsBlock 8 r.credential → IsRoomy (written_reply (reply.Authenticate r))
opened_few r eight = record { few = omega (arith, answers_are_long.opened r eight.0); are = opened_bytes r eight.1 }

-- ---- what is granted

-- a stub has room for it
pub record Fits (info : SamInfo) : Type 0 where
  pub can : CanWriteSamInfo info
  pub short : HasShortTexts info
  pub range : InRangeSamInfo info

by_refusal : (refused : Option _) (info : SamInfo) → Fits info → IfGranted (verdict_by refused info) Fits
by_refusal None info fits = fits
by_refusal (Some refused) info fits = tt

got : (accounts : List Account) (place : ℕ) → AllByRecursion InRangeAccount accounts → IfThere InRangeAccount (slice_get accounts place)
got [] place all = tt
got (account ∷ accounts) zero all = all.0
got (account ∷ accounts) (suc place) all = got accounts place all.1

found : (place : Option ℕ) (accounts : List Account) → AllByRecursion InRangeAccount accounts → IfThere InRangeAccount (option_and_then (slice_get accounts) place)
found None accounts all = tt
found (Some place) accounts all = got accounts place all

module _ (table : AccountTable) (name : List ℕ) (now : ℕ) (range : InRangeTable table) (is_name : IsName name) (moment : now < 2 ^ 64) where
  -- by what is shown, whose key is 16 bytes
  shown_fits : (who : Option Account) (shown : Shown) (workstation : List ℕ) → ((hash : List ℕ) → IsBlock 16 (shown.key hash)) → IfThere InRangeAccount who → IfGranted (verdict_shown who shown table name workstation now) Fits
  shown_fits None shown workstation block is = tt
  shown_fits (Some account) shown workstation block is =
      by_refusal (first_refusal (rules_for table.policy account shown workstation now)) (sam_info_of table name account (shown.key account.hash) now) (record {
        can = sam_info-CanWrite table name account (shown.key account.hash) now range.domain is_name is;
        short = sam_info-IsShort table name account (shown.key account.hash) now range.domain is_name is;
        range = sam_info-InRange table name account (shown.key account.hash) now range.domain is_name is range.sid (block account.hash) moment;
      })

  routed_fits : (route : Route) (shown : Shown) (user workstation : List ℕ) → ((hash : List ℕ) → IsBlock 16 (shown.key hash)) → IfGranted (verdict_routed route shown table name user workstation now) Fits
  routed_fits Own shown user workstation block = shown_fits (account_in table.accounts user) shown workstation block (found (place_in table.accounts user) table.accounts range.accounts)
  routed_fits (Trust place) shown user workstation block = tt
  routed_fits Elsewhere shown user workstation block = tt

  verdict_fits : (info : NetworkInfo) → IfGranted (verdict_of table name info now) Fits
  unfolding verdict_of
  verdict_fits info =
      routed_fits (route_in table info.domain) (shown_by_response info) info.user info.workstation
      (λ hash. (length-base_key_of hash info.user info.domain info.nt, bytes_from_all _ (All-base_key_of hash info.user info.domain info.nt)))

  level_fits : (served : Bool) (info : NetworkInfo) → IfGranted (judge_level served table name info now).verdict Fits
  unfolding judgement_of
  level_fits false info = tt
  level_fits true info = verdict_fits info

  pub judged_fits : (info : NetworkInfo) (validation : ℕ) → IfGranted (judge_info table name now info validation).verdict Fits
  judged_fits info validation = level_fits (serves_level validation) info

  interactive_level_fits : (served : Bool) (info : InteractiveInfo) (key : List ℕ) → IfGranted (judge_interactive_level served table name now info key).verdict Fits
  unfolding interactive_judgement_of interactive_verdict_of
  interactive_level_fits false info key = tt
  interactive_level_fits true info key =
      routed_fits (route_in table info.domain) (shown_by_hash (shown_hash key info)) info.user info.workstation (λ hash. (length-md4_of hash, bytes_from_all _ (All-md4_of hash)))

  pub interactive_fit : (info : InteractiveInfo) (validation : ℕ) (key : List ℕ) → IfGranted (judge_interactive table name now info validation key).verdict Fits
  interactive_fit info validation key = interactive_level_fits (serves_level validation) info key

pub served_level : (validation : ℕ) → serves_level validation ≡ true → IsServedLevel validation
served_level validation is =
    elim (cases_Bool (validation == 2)) [
      | inl two ↦ inl ((Decides-eqb validation 2).0 two)
      | inr other ↦ inr ((Decides-eqb validation 3).0 (ap (λ (b : Bool). b || (validation == 3)) (sym other) ∙ is))
    ]

if_granted : (verdict : Verdict) (P : Type 0) → P → IfGranted verdict (λ info. P)
if_granted (Granted info) P p = p
if_granted (Status status) P p = tt

level_served : (served : Bool) (table : AccountTable) (name : List ℕ) (now : ℕ) (info : NetworkInfo) (validation : ℕ) → serves_level validation ≡ served →
    IfGranted (judge_level served table name info now).verdict (λ granted. IsServedLevel validation)
level_served false table name now info validation is = tt
level_served true table name now info validation is = if_granted (judge_level true table name info now).verdict (IsServedLevel validation) (served_level validation is)

pub judged_served : (table : AccountTable) (name : List ℕ) (now : ℕ) (info : NetworkInfo) (validation : ℕ) → IfGranted (judge_info table name now info validation).verdict (λ granted. IsServedLevel validation)
judged_served table name now info validation = level_served (serves_level validation) table name now info validation refl

-- the key stays a key under another one
pub crypt_block : (nothing_hidden : Bool) (session key : List ℕ) → IsBlock 16 key → IsBlock 16 (crypt_by nothing_hidden session key)
crypt_block true session key is = is
crypt_block false session key is = (
  length-applied session 0 key ∙ is.0,
  bytes_from_all _ (All-applied session 0 key (All-from_get_or (λ b. b < 256) key 0 (λ place within. is.1 place))),
)

pub passed_few : (verdict : Verdict) (level : ℕ) (session credential : List ℕ) → IsBlock 8 credential → IfGranted verdict Fits → IfGranted verdict (λ info. IsServedLevel level) →
    IsRoomy (written_reply (passed_reply session credential level verdict))
passed_few (Status status) level session credential block fits served = bare_few (Some (record { credential = credential; timestamp = 0 })) level status block
passed_few (Granted info) level session credential block fits served =
    let returned : Option Authenticator = Some (record { credential = credential; timestamp = 0 }) in
    let key : List ℕ = crypt_key session info.key in
    let small : level < 2 ^ 16 = elim served [ inl two ↦ omega (arith, two) | inr three ↦ omega (arith, three) ] in
    let can = granting-CanWrite returned level info key 1 0 served fits.can in
    let range = granting-InRange returned level info key 1 0 small fits.range (crypt_block (is_zero info.key) session info.key fits.range.key) (record { credential = block; timestamp = omega arith })
    (omega arith) (omega arith) in
    record {
      few = written_reply-few (granting_reply returned level info key 1 0) can range (short_at level session info served fits.short);
      are = AreBytes-written_reply (granting_reply returned level info key 1 0) can range;
    }

-- ---- the table afterwards

counted_below : (counts : Bool) (count : ℕ) → count < 2 ^ 16 → (if counts then min (count + 1) 65535 else count) < 2 ^ 16
counted_below true count below = omega arith
counted_below false count below = below

count_below : (refused : Option _) (count : ℕ) → count < 2 ^ 16 → count_after refused count < 2 ^ 16
count_below None count below = omega arith
count_below (Some refused) count below = counted_below _ count below

judged_range : (policy : Policy) (shown : Shown) (workstation : List ℕ) (now : ℕ) (account : Account) → InRangeAccount account → InRangeAccount (judged_account policy shown workstation now account)
judged_range policy shown workstation now account is = in_range-counted account _ (count_below (first_refusal (rules_for policy account shown workstation now)) account.bad_count is.bad_count) is

hashed_range : (hash : List ℕ) (account : Account) → InRangeAccount account → InRangeAccount (with_new_hash hash account)
hashed_range hash account is = record {
  name = is.name;
  rid = is.rid;
  full_name = is.full_name;
  group = is.group;
  groups = is.groups;
  few_groups = is.few_groups;
  extra_sids = is.extra_sids;
  few_extra_sids = is.few_extra_sids;
  bad_count = is.bad_count;
  expires = is.expires;
  password_set = is.password_set;
  password_expires = is.password_expires;
}

all_at_place : (change : Account → Account) → ((account : Account) → InRangeAccount account → InRangeAccount (change account)) → (place : ℕ) (accounts : List Account) → AllByRecursion InRangeAccount accounts →
    AllByRecursion InRangeAccount (at_place place change accounts)
all_at_place change each place [] all = tt
all_at_place change each zero (account ∷ accounts) all = (each account all.0, all.1)
all_at_place change each (suc place) (account ∷ accounts) all = (all.0, all_at_place change each place accounts all.1)

shown_range : (place : Option ℕ) (shown : Shown) (table : AccountTable) (workstation : List ℕ) (now : ℕ) → InRangeTable table → InRangeTable (table_shown place shown table workstation now)
shown_range None shown table workstation now range = range
shown_range (Some place) shown table workstation now range = record {
  domain = range.domain;
  sid = range.sid;
  accounts = all_at_place (judged_account table.policy shown workstation now) (judged_range table.policy shown workstation now) place table.accounts range.accounts;
}

routed_range : (route : Route) (shown : Shown) (table : AccountTable) (user workstation : List ℕ) (now : ℕ) → InRangeTable table → InRangeTable (table_routed route shown table user workstation now)
routed_range Own shown table user workstation now range = shown_range (place_in table.accounts user) shown table workstation now range
routed_range (Trust place) shown table user workstation now range = range
routed_range Elsewhere shown table user workstation now range = range

level_range : (served : Bool) (table : AccountTable) (name : List ℕ) (info : NetworkInfo) (now : ℕ) → InRangeTable table → InRangeTable (judge_level served table name info now).table
unfolding judgement_of table_after
level_range false table name info now range = range
level_range true table name info now range = routed_range (route_in table info.domain) (shown_by_response info) table info.user info.workstation now range

pub judged_table : (table : AccountTable) (name : List ℕ) (now : ℕ) (info : NetworkInfo) (validation : ℕ) → InRangeTable table → InRangeTable (judge_info table name now info validation).table
judged_table table name now info validation range = level_range (serves_level validation) table name info now range

-- a table is in range whose hash was set
pub hash_table : (place : ℕ) (hash : List ℕ) (table : AccountTable) → InRangeTable table → InRangeTable (with_hash place hash table)
unfolding with_hash
hash_table place hash table range = record {
  domain = range.domain;
  sid = range.sid;
  accounts = all_at_place (with_new_hash hash) (λ account is. hashed_range hash account is) place table.accounts range.accounts;
}

-- ---- interactive logons and logoffs

interactive_level_served : (served : Bool) (table : AccountTable) (name : List ℕ) (now : ℕ) (info : InteractiveInfo) (validation : ℕ) (key : List ℕ) → serves_level validation ≡ served →
    IfGranted (judge_interactive_level served table name now info key).verdict (λ granted. IsServedLevel validation)
interactive_level_served false table name now info validation key is = tt
interactive_level_served true table name now info validation key is = if_granted (judge_interactive_level true table name now info key).verdict (IsServedLevel validation) (served_level validation is)

pub interactive_served : (table : AccountTable) (name : List ℕ) (now : ℕ) (info : InteractiveInfo) (validation : ℕ) (key : List ℕ) → IfGranted (judge_interactive table name now info validation key).verdict (λ granted. IsServedLevel validation)
interactive_served table name now info validation key = interactive_level_served (serves_level validation) table name now info validation key refl

interactive_range : (served : Bool) (table : AccountTable) (name : List ℕ) (now : ℕ) (info : InteractiveInfo) (key : List ℕ) → InRangeTable table → InRangeTable (judge_interactive_level served table name now info key).table
unfolding interactive_judgement_of interactive_table_after
interactive_range false table name now info key range = range
interactive_range true table name now info key range = routed_range (route_in table info.domain) (shown_by_hash (shown_hash key info)) table info.user info.workstation now range

pub interactive_table : (table : AccountTable) (name : List ℕ) (now : ℕ) (info : InteractiveInfo) (validation : ℕ) (key : List ℕ) → InRangeTable table → InRangeTable (judge_interactive table name now info validation key).table
interactive_table table name now info validation key range = interactive_range (serves_level validation) table name now info key range

-- what is admitted was granted
pub admitted_has : (full : Bool) (verdict : Verdict) (Fact : SamInfo → Type 0) → IfGranted verdict Fact → IfGranted (admitted full verdict) Fact
admitted_has false verdict Fact has = has
admitted_has true (Granted info) Fact has = tt
admitted_has true (Status status) Fact has = tt

pub logoff_few : (returned : Option Authenticator) (status : ℕ) → ReturnsEight returned → IsRoomy (written_reply (reply.Logoff (record { returned = returned; status = status })))
unfolding written_reply put_logoff_reply put_authenticator
logoff_few None status eight =
    let first : Written = put pointer false nothing in
    let one : length first.bytes ≤ 8 = pointer_len false nothing in
    let rest : length (put long status first).bytes ≤ length first.bytes + 8 = long_len status first in
    let few : length (put long status first).bytes ≤ short_reply_limit = omega (arith, one, rest) in
    record { few = few; are = (long_bytes status first (pointer_bytes false nothing none)).are }
logoff_few (Some given) status eight =
    let first : Written = put pointer true nothing in
    let second : Written = put (raw 8) given.credential first in
    let third : Written = put long given.timestamp second in
    let one : length first.bytes ≤ 8 = pointer_len true nothing in
    let two : length second.bytes ≡ length first.bytes + length given.credential = length-append first.bytes given.credential in
    let three : length third.bytes ≤ length second.bytes + 8 = long_len given.timestamp second in
    let rest : length (put long status third).bytes ≤ length third.bytes + 8 = long_len status third in
    let few : length (put long status third).bytes ≤ short_reply_limit = omega (arith, one, two, three, rest, eight.0) in
    record {
      few = few;
      are = (long_bytes status third
          (long_bytes given.timestamp second (both (pointer_bytes true nothing none) (is_bytes given.credential eight.1)))).are;
    }
