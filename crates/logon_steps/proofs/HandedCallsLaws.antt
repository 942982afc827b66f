-- That what is said on behalf of a logon that is handed on can go, and that the trusted domain's controller knows who
-- asks it.
-- Of `handed_calls_go` and `trusts_are_known`.
use Rattle.std.proofs.Common.{◌≡◌, ◌&&◌, ◌||◌, ◌==◌, not, ℕ, zero, suc, ◌≤◌, Bool, true, List, [], ◌∷◌, ◌++◌, length, length-append, Option, Some, None, refl, sym, ap, ap₂, subst, ◌∙◌, arith, inr, slice_get}
use Rattle.std.specs.List.{list_any}
use Rattle.std.specs.Option.{option_and_then}
use Rattle.std.proofs.lemmas.Bool.Decides.{nat_tests}
use Rattle.std.proofs.lemmas.List.Elements.{All-append, All-from_recursion}
use Rattle.wire_base.specs.Maps.{lookup}
use Rattle.wire_base.specs.Names.{IsNameByte, same_name}
use Rattle.channel_keys.specs.ChannelTypes.{trusted_domain_channel}
use Rattle.channel_keys.specs.Hidden.{crypt_key, is_zero}
use Rattle.authenticators.specs.Sequences.{return_of}
use Rattle.authenticators.specs.SecureChannels.{SecureChannelState, key_of_channel}
use Rattle.logon_stubs.specs.declared.calls.Reply.{Reply}
use Rattle.logon_stubs.specs.declared.info.NetworkInfo.{NetworkInfo}
use Rattle.logon_stubs.specs.declared.info.SamInfo.{SamInfo}
use Rattle.logon_stubs.specs.declared.info.Verdict.TheVariants.{Granted, Status}
use Rattle.logon_stubs.specs.declared.calls.Reply.TheVariants as reply
use Rattle.logon_stubs.specs.Ranges.{HasShortTexts, InRangeReply, InRangeSamInfo, IsBlock}
use Rattle.logon_stubs.specs.Writing.{CanWriteReply, CanWriteSamInfo}
use Rattle.logon_stubs.proofs.WrittenLaws.{written_reply-few}
use Rattle.account_table.specs.AccountTable.{AccountTable}
use Rattle.account_table.specs.Changes.{DifferInCounts, with_count}
use Rattle.account_table.specs.LookUps.{account_in, is_machine_for, is_trust, is_trust_for, knows_in, knows_named, lists_controller, machine_in, machine_name, opens, place_in, route_in}
use Rattle.account_table.specs.Document.{has_name}
use Rattle.account_table.specs.declared.account.Account.{Account}
use Rattle.account_table.specs.declared.account.Kind.{Kind}
use Rattle.channel_client.specs.declared.caller.Caller.{Caller}
use Rattle.channel_client.specs.declared.state.Question.TheVariants as question
use Rattle.channel_client.specs.Machine.{level_asked}
use Rattle.controller_calls.specs.Forwarded.{forwarded_call}
use Rattle.controller_calls.specs.Handing.{forwarded_reply, hands_on, trust_by}
use Rattle.controller_calls.specs.declared.line.Line.{Line}
use Rattle.domain_controller.specs.Forwarding.{fits_on, logon_bytes}
use Rattle.sam_logon.specs.Granting.{at_level}
use Rattle.logon_steps.specs.Calling.{HasShortInfo}
use Rattle.logon_steps.specs.HandedCalls.{HandedCallsGo, IsTrustAccount, IsTrustKnown, TrustsAreKnown}
use Rattle.logon_steps.specs.Knowing.{StandsLater}
use Rattle.logon_steps.specs.MemberAnswers.{granting}
use Rattle.logon_steps.specs.Turning.{IsTurnReply}
use Rattle.logon_steps.proofs.AnsweringLaws.{calls_are_answered}
use Rattle.logon_steps.proofs.CallingLaws.{are_units, hidden_block}
use Rattle.logon_steps.proofs.KnowingLaws.{computers_are_known, narrow, or_either}

-- ---- calls and replies

short_fits : (info : NetworkInfo) → HasShortInfo info → fits_on info ≡ true
short_fits info has =
    let few : logon_bytes info ≤ 57000 = omega (arith, has.domain, has.user, has.workstation, has.nt, has.lm) in
    grind (arith, nat_tests)

granted_back : (o : SecureChannelState) (timestamp : ℕ) (line : Line) (sam : SamInfo) →
    forwarded_reply (forwarded_call line level_asked (key_of_channel o) (return_of (key_of_channel o) o.seed timestamp)) (Granted sam)
    ≡ granting o timestamp 0 1 (record sam { key = crypt_key (key_of_channel o) sam.key })
unfolding at_level
granted_back o timestamp line sam = refl

-- what was granted, with another key, and the reply that carries it
abbrev with_key : List ℕ → SamInfo → SamInfo
with_key key sam = record sam { key = key }

abbrev grant_back : (key credential : List ℕ) → SamInfo → Reply
grant_back key credential sam = reply.Logon (record {
  returned = Some (record { credential = credential; timestamp = 0 });
  level = level_asked;
  info = Some (with_key (crypt_key key sam.key) sam);
  authoritative = 1;
  status = 0;
})

grant_is : (line : Line) (key credential : List ℕ) (sam : SamInfo) → forwarded_reply (forwarded_call line level_asked key credential) (Granted sam) ≡ grant_back key credential sam
unfolding at_level
grant_is line key credential sam = refl

key_writes : (key : List ℕ) (sam : SamInfo) → CanWriteSamInfo sam → CanWriteSamInfo (with_key key sam)
key_writes key sam can = record {
  effective_name = can.effective_name;
  full_name = can.full_name;
  script = can.script;
  profile = can.profile;
  home = can.home;
  home_drive = can.home_drive;
  groups = can.groups;
  server = can.server;
  domain = can.domain;
  extra = can.extra;
}

key_short : (key : List ℕ) (sam : SamInfo) → HasShortTexts sam → HasShortTexts (with_key key sam)
key_short key sam has = record {
  effective_name = has.effective_name;
  full_name = has.full_name;
  script = has.script;
  profile = has.profile;
  home = has.home;
  home_drive = has.home_drive;
  server = has.server;
  domain = has.domain;
}

key_ranged : (key : List ℕ) (sam : SamInfo) → IsBlock 16 key → InRangeSamInfo sam → InRangeSamInfo (with_key key sam)
key_ranged key sam block is = record {
  times = is.times;
  texts = is.texts;
  numbers = record { logon_count = is.numbers.logon_count; bad_count = is.numbers.bad_count; user_id = is.numbers.user_id; group_id = is.numbers.group_id };
  groups = is.groups;
  user_flags = is.user_flags;
  key = block;
  server = is.server;
  domain = is.domain;
  sid = is.sid;
  extra = is.extra;
}

grant_goes : (line : Line) (key credential : List ℕ) (sam : SamInfo) → IsBlock 8 credential → CanWriteSamInfo sam → HasShortTexts sam → InRangeSamInfo sam →
    IsTurnReply question.Logon (grant_back key credential sam)
grant_goes line key credential sam eight can has is =
    let hidden : List ℕ = crypt_key key sam.key in
    let r : Reply = grant_back key credential sam in
    let writes : CanWriteReply r = (inr refl, key_writes hidden sam can) in
    let range : InRangeReply r = record {
      returned = record { credential = eight; timestamp = omega arith };
      level = omega arith;
      info = key_ranged hidden sam (hidden_block (is_zero sam.key) key sam.key is.key) is;
      authoritative = omega arith;
      status = omega arith;
    } in
    record { opnum = refl; writes = writes; range = range; short = omega (arith, written_reply-few r writes range (key_short hidden sam has)) }

pub handed_calls_go : HandedCallsGo
handed_calls_go = record {
  caller = λ table name trust of is. record {
    computer = is.0;
    computer_units = are_units name is.1;
    account = omega (arith, of.domain.0, length-append table.domain (0x24 ∷ []));
    account_units = are_units (table.domain ++ 0x24 ∷ []) (All-append IsNameByte table.domain (0x24 ∷ []) of.domain.1
        (All-from_recursion IsNameByte (0x24 ∷ []) ((omega arith, omega arith), tt)));
    kind = omega arith;
  };
  info = λ place info has below. record {
    range = record {
      domain = has.range.domain;
      control = has.range.control;
      logon_id = omega (arith, below);
      user = has.range.user;
      workstation = has.range.workstation;
      challenge = has.range.challenge;
      nt = has.range.nt;
      lm = has.range.lm;
    };
    domain = has.domain;
    user = has.user;
    workstation = has.workstation;
    nt = has.nt;
    lm = has.lm;
  };
  fits = short_fits;
  shown = λ session key is. hidden_block (is_zero key) session key is;
  granted = granted_back;
  goes = λ line key credential sam eight can has is.
      subst (λ (r : Reply). IsTurnReply question.Logon r) (sym (grant_is line key credential sam)) (grant_goes line key credential sam eight can has is);
  refused = λ f status level eight below.
      let r : Reply = forwarded_reply f (Status status) in
      let writes : CanWriteReply r = tt in
      let range : InRangeReply r = record {
        returned = record { credential = eight; timestamp = omega arith };
        level = omega (arith, level);
        info = tt;
        authoritative = omega arith;
        status = below;
      } in
      record { opnum = refl; writes = writes; range = range; short = omega (arith, written_reply-few r writes range tt) };
}

-- ---- the account of the domain that asks

any_found : {T : Type 0} (test : T → Bool) (items : List T) (place : ℕ) (item : T) → slice_get items place ≡ Some item → test item ≡ true → list_any test items ≡ true
any_found test [] place item is passes = absurd (let x = is in cc)
any_found test (one ∷ items) zero item is passes =
    let same : one ≡ item = (let x = is in cc) in
    ap (λ (b : Bool). b || list_any test items) (subst (λ (i : _). test i ≡ true) (sym same) passes)
any_found test (one ∷ items) (suc place) item is passes = or_either (test one) (list_any test items) (any_found test items place item is passes)

any_at : {T : Type 0} (test : T → Bool) (items : List T) (place : Option ℕ) (item : T) → option_and_then (slice_get items) place ≡ Some item → test item ≡ true → list_any test items ≡ true
any_at test items None item is passes = absurd (let x = is in cc)
any_at test items (Some place) item is passes = any_found test items place item is passes

trust_known : (table : AccountTable) (caller : Caller) (account : Account) → account_in table.accounts caller.account ≡ Some account → IsTrustAccount caller account →
    knows_in table.accounts caller.computer ≡ true
unfolding knows_in
trust_known table caller account found of =
    or_either (knows_named table.accounts caller.computer) (list_any (is_trust_for caller.computer) table.accounts)
    (any_at (is_trust_for caller.computer) table.accounts (place_in table.accounts caller.account) account found
    (ap₂ (λ (k : Kind) (listed : Bool). is_trust k && listed) of.kind of.lists))

has_trust : (accounts : List Account) (caller : Caller) (account : Account) → account_in accounts caller.account ≡ Some account → IsTrustAccount caller account →
    option_and_then (slice_get accounts) (machine_in accounts caller.account caller.kind caller.computer) ≡ Some account
unfolding machine_in place_in
has_trust accounts caller account found of =
    narrow (has_name caller.account) (is_machine_for caller.kind caller.computer) accounts account found
    (ap₂ (λ (d : Bool) (k : Kind). not d && opens k caller.kind (same_name account.name (machine_name caller.computer)) (lists_controller account caller.computer)) of.enabled of.kind
    ∙ ap₂ (λ (type : ℕ) (listed : Bool). (type == trusted_domain_channel) && listed) of.channel of.lists)

trust_later : (old new : AccountTable) (caller : Caller) (client server : List ℕ) (account : Account) → DifferInCounts old new → account_in old.accounts caller.account ≡ Some account →
    IsTrustAccount caller account → account.hash ≡ caller.secret → IsTrustKnown new caller client server account
trust_later old new caller client server account differ found of hash =
    let there : StandsLater new caller.account account = computers_are_known.stands old new caller.account account differ found in
    let counted : Account = with_count there.count account in
    let still : IsTrustAccount caller counted = record { kind = of.kind; enabled = of.enabled; lists = of.lists; channel = of.channel } in
    record {
      count = there.count;
      knows = trust_known new caller counted there.found still;
      machine = has_trust new.accounts caller counted there.found still;
      step = calls_are_answered.in_step caller client server counted hash;
    }

pub trusts_are_known : TrustsAreKnown
trusts_are_known = record {
  knows = trust_known;
  machine = λ table caller client server account found of. has_trust table.accounts caller account found of;
  later = trust_later;
  opens = λ caller client server account is. ap (λ (type : ℕ). Some type) is;
  stays = λ k caller o c timestamp info stands is computer channel named there.
      let same_computer : caller.computer ≡ computer = (let x = named in cc) in
      let same_channel : c ≡ channel =
      (let both : Some c ≡ Some channel = sym stands ∙ ap (λ (n : List ℕ). lookup same_name n k.computers.channels) same_computer ∙ there in cc) in
      ap (λ (type : Option ℕ). trust_by (hands_on type) true (route_in k.table info.domain) (length k.requesters)) (ap (λ (s : SecureChannelState). s.kind) (sym same_channel) ∙ is);
}
