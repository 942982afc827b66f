-- Small runs that meet what is claimed of grants, and some that don't.
-- It serves `grants_tell_apart`.
use Rattle.std.proofs.Common.{◌≡◌, ◌≤◌, ◌<◌, ℕ, zero, suc, true, false, List, [], ◌∷◌, get_or, length, map, replicate, slice_get, inl, inr, Option, Some, None, Result, Ok, refl, sym, ap, ap₂, subst, ◌∙◌, arith}
use Rattle.std.specs.Prelude.{codes}
use Rattle.wire_base.specs.Names.{same_name}
use Rattle.wire_base.specs.declared.authenticator.Authenticator.{Authenticator}
use Rattle.authenticators.specs.Sequences.{authenticator_of}
use Rattle.outside.specs.declared.action.Action.{Action}
use Rattle.outside.specs.declared.action.Action.TheVariants as action
use Rattle.rpc_units.specs.declared.refused.JoinRefused.{JoinRefused}
use Rattle.rpc_units.specs.declared.refused.UnitRefused.{UnitRefused}
use Rattle.rpc_units.specs.declared.unit.Unit.{Unit as RpcUnit}
use Rattle.rpc_units.specs.Calls.{IsHeard, bytes_of_call}
use Rattle.rpc_units.specs.Joining.{AddsTo, cut_of, open_after, stub_of}
use Rattle.rpc_units.specs.Reading.{unit_of}
use Rattle.rpc_units.specs.Stream.{Cut, cut_stream}
use Rattle.rpc_units.proofs.CuttingLaws.{call_heard}
use Rattle.logon_stubs.specs.declared.calls.Reply.{Reply}
use Rattle.logon_stubs.specs.declared.calls.Reply.TheVariants as reply
use Rattle.logon_stubs.specs.declared.info.SamInfo.{SamInfo}
use Rattle.logon_stubs.specs.declared.refused.StubRefused.{StubRefused}
use Rattle.logon_stubs.specs.Calls.{opnum_of_reply, reply_of}
use Rattle.logon_stubs.specs.Ranges.{InRangeReply, IsShortReply}
use Rattle.logon_stubs.specs.Writing.{CanWriteReply, written_reply}
use Rattle.logon_stubs.proofs.WrittenLaws.{reply_of-written_reply, written_reply-joins}
use Rattle.end_links.specs.Sending.{response_of}
use Rattle.ntlm_responses.specs.Verification.{verifies}
use Rattle.sam_logon.specs.Granting.{at_level as carried_at, sam_info_of}
use Rattle.sam_logon.specs.Verdict.{judgement_of, table_after}
use Rattle.account_table.specs.declared.account.Account.{Account}
use Rattle.wire_base.specs.Names as names
use Rattle.wire_base.specs.Units.{units_of}
use Rattle.authenticators.specs.SecureChannels.{SecureChannelState, key_of_channel}
use Rattle.outside.specs.declared.action.Judged.{Judged}
use Rattle.outside.specs.declared.action.Judged.TheVariants as judged
use Rattle.logon_stubs.specs.Status.{account_disabled, wrong_password}
use Rattle.account_table.specs.AccountTable.{AccountTable}
use Rattle.account_table.specs.Changes.{without_state}
use Rattle.account_table.proofs.ChangeLaws.{states-none}
use Rattle.account_table.specs.LookUps.{account_in, place_in, route_in}
use Rattle.sam_logon.specs.MayLogOn.{MayLogOn, ResponseVerifies}
use Rattle.domain_controller.specs.Machine.{Desk, answer_logon}
use Rattle.controller_calls.specs.declared.line.Line.{Line}
use Rattle.step_notes.specs.ControllerNotes.{Where, judging_of}
use Rattle.step_notes.specs.GrantSends.{IsSentAsGranted, actions_granting, reply_granted}
use Rattle.step_notes.specs.Judged.{IsNextOn}
use Rattle.step_notes.specs.Records.{Judging, given_in}
use Rattle.controller_calls.specs.declared.calls.JudgedCall.TheVariants.{Network}
use Rattle.domain_world.specs.Claims.{info_asked}
use Rattle.domain_world.specs.Claims.Counts.{RaisesCount}
use Rattle.domain_world.specs.Claims.Grants.{IsToBeGranted, users_of}
use Rattle.domain_world.specs.Claims.Tables.{left_by}
use Rattle.claim_examples.specs.ClaimExamples.{judged_as, message, next_call, next_logon, small_account, small_channel, small_hash, small_table}
use Rattle.claim_examples.specs.GrantExamples.{GrantsTellApart, OfCounts, OfGrants, OfSending, at_level, counted_table, disabled_table, empty_table, hashed_table, locked_call, machine_table, reply_with_key, small_call, small_desk, small_line, wrong_call}
use Rattle.wire_base.proofs.ListLaws.{got_nothing, some_is}
use Rattle.step_notes.proofs.Controllers.GrantSendLaws.{grants_carry_their_key}
use Rattle.step_notes.proofs.Controllers.GrantVerdictLaws.{not_zero}
use Rattle.step_notes.proofs.Controllers.JudgedStepLaws.{same_status}
use Rattle.domain_world.proofs.Judgements.GrantLaws.{call_status}
use Rattle.domain_world.proofs.Judgements.TrustGrantLaws.{is_granted_so}
use Rattle.domain_world.proofs.Judgements.JudgedLaws.{calls_right}
use Rattle.claim_examples.proofs.ClaimLaws.{next_at, no_channel}
use Rattle.claim_examples.proofs.LogonLaws.{granted_small, not_long, not_response}
use Rattle.claim_examples.proofs.SequenceLaws.{kept_small}

-- whatever her count of bad passwords is, since nobody is locked out
may_counted : (count now : ℕ) → MayLogOn (counted_table count) (info_asked message) now
unfolding place_in same_name names.upper_of units_of
may_counted count now = record {
  there = record {
    domain = inl refl;
    account = record {
      user = refl;
      unlocked = refl;
      below_lockout = inl refl;
      enabled = refl;
      not_expired = inl refl;
      workstation = inl refl;
      no_change_due = refl;
      password_not_expired = inl refl;
    };
  };
  taken_response = inl refl;
}

-- ann may log on whenever it is
pub may_small : (now : ℕ) → MayLogOn small_table (info_asked message) now
may_small now = may_counted 0 now

not_enabled : (now : ℕ) → MayLogOn disabled_table (info_asked message) now → ⊥
unfolding place_in same_name names.upper_of units_of
not_enabled now may = absurd (let never : true ≡ false = may.there.account.enabled in cc)

-- ann's call is to be granted, however it was judged
met_small : (how : Judged) → IsToBeGranted (record (judged_as how next_call) { table = small_table }) next_logon
met_small how = record { next = next_at []; level = inr refl; may = may_small 0; verifies = granted_small.verifies }

-- with FILE1's account too
may_machine : (now : ℕ) → MayLogOn (machine_table (replicate 16 8)) (info_asked message) now
unfolding place_in same_name names.upper_of units_of
may_machine now = record {
  there = record {
    domain = inl refl;
    account = record {
      user = refl;
      unlocked = refl;
      below_lockout = inl refl;
      enabled = refl;
      not_expired = inl refl;
      workstation = inl refl;
      no_change_due = refl;
      password_not_expired = inl refl;
    };
  };
  taken_response = inl refl;
}

verifies_machine : ResponseVerifies (machine_table (replicate 16 8)) (info_asked message)
unfolding place_in same_name names.upper_of units_of
verifies_machine = granted_small.verifies

abbrev first_in : Option (List ℕ) → ℕ
first_in None = 0
first_in (Some hash) = get_or hash 0 0

abbrev first_byte : List (Option (List ℕ)) → ℕ
first_byte [] = 0
first_byte (hash ∷ hashes) = first_in hash

verifies_counted : (count : ℕ) → ResponseVerifies (counted_table count) (info_asked message)
unfolding place_in same_name names.upper_of units_of
verifies_counted count = granted_small.verifies

-- at level 2 it is the next one too
next_two : IsNextOn next_call.checks (given_in (at_level 2).asked)
next_two = next_at []

of_grants : OfGrants
of_grants = record {
  meets = (
    record {
      granted = (λ is. met_small (judged.Passed 0), λ met. refl);
      table = record { planned = small_table; is = refl; states = states-none small_table; users = refl };
      name = refl;
    },
    tt,
  );
  counted = (
    record {
      granted = (λ is. record { next = next_at []; level = inr refl; may = may_counted 1 0; verifies = verifies_counted 1 }, λ met. refl);
      table = record { planned = small_table; is = refl; states = record { domain = refl; sid = refl; policy = refl; accounts = refl; trusts = refl }; users = refl };
      name = refl;
    },
    tt,
  );
  at_two = (
    record {
      granted = (λ is. record { next = next_two; level = inl refl; may = may_small 0; verifies = granted_small.verifies }, λ met. refl);
      table = record { planned = small_table; is = refl; states = states-none small_table; users = refl };
      name = refl;
    },
    tt,
  );
  disabled = (
    record {
      granted = (λ is. absurd (not_zero account_disabled refl (same_status account_disabled 0 is)), λ met. absurd (not_enabled 0 met.may));
      table = record { planned = disabled_table; is = refl; states = states-none disabled_table; users = refl };
      name = refl;
    },
    tt,
  );
  fails_refused = λ claim. not_zero wrong_password refl (same_status wrong_password 0 (claim.0.granted.1 (met_small (judged.Passed wrong_password))));
  fails_barred = λ claim. absurd (let never : Some judged.Barred ≡ Some (judged.Passed 0) = claim.0.granted.1 (met_small judged.Barred) in cc);
  fails_disabled = λ claim. not_enabled 0 (claim.0.granted.0 refl).may;
  fails_response = λ claim. let met = claim.0.granted.0 refl in not_response (record { may = met.may; verifies = met.verifies });
  fails_long = λ claim. let met = claim.0.granted.0 refl in not_long (record { may = met.may; verifies = met.verifies });
  fails_level = λ claim. elim (claim.0.granted.0 refl).level [
    | inl two ↦ absurd (let never : 4 ≡ 2 = two in cc)
    | inr three ↦ absurd (let never : 4 ≡ 3 = three in cc)
  ];
  fails_next = λ claim. let met = claim.0.granted.0 refl in no_channel met.next.channel met.next.stands;
  fails_table = λ claim.
      let of : empty_table ≡ claim.0.table.planned = some_is empty_table claim.0.table.planned claim.0.table.is in
      absurd (let accounts = claim.0.table.states.accounts ∙ ap (λ (t : AccountTable). map without_state t.accounts) (sym of) in cc);
  set = (
    record {
      granted = (λ is. record { next = next_at []; level = inr refl; may = may_machine 0; verifies = verifies_machine }, λ met. refl);
      table = record {
        planned = machine_table small_hash;
        is = refl;
        states = record { domain = refl; sid = refl; policy = refl; accounts = refl; trusts = refl };
        users = refl;
      };
      name = refl;
    },
    tt,
  );
  fails_set = λ claim.
      let of : hashed_table (replicate 16 8) ≡ claim.0.table.planned = some_is (hashed_table (replicate 16 8)) claim.0.table.planned claim.0.table.is in
      absurd (let never : 7 ≡ 8 = ap first_byte (claim.0.table.users ∙ ap (λ (t : AccountTable). users_of t.accounts) (sym of)) in omega (arith, never));
  fails_name = λ claim.
      absurd (let never : 80 ≡ 66 = ap (λ (name : List ℕ). get_or name 0 0) (some_is (codes "PDC") (codes "BDC") claim.0.name) in omega arith);
  fails_controller = λ claim. absurd (let none : None ≡ Some claim.0.table.planned = claim.0.table.is in cc);
}

-- ---- what is sent

granted_step : (w : Where) (line : Line) (after : Desk) →
    after ≡ answer_logon small_call.computer small_call.authenticator w.name w.moment line small_call.info small_call.validation small_desk →
    (judging_of w line (Network small_call) small_desk (Some after)).how ≡ Some (judged.Passed 0)
granted_step w line after is =
    let done : Desk = answer_logon small_call.computer small_call.authenticator w.name w.moment line small_call.info small_call.validation small_desk in
    subst (λ (one : Desk). (judging_of w line (Network small_call) small_desk (Some one)).how ≡ Some (judged.Passed 0)) (sym is)
    (is_granted_so (judging_of w line (Network small_call) small_desk (Some done)) small_call refl
    (call_status w line (Network small_call) small_desk)
    (calls_right w small_desk line (Network small_call))
    (record {
      next = subst (λ (checks : Option SecureChannelState). IsNextOn checks small_call.authenticator) (sym (kept_small [])) (next_at []);
      level = inr refl;
      may = may_small w.moment;
      verifies = granted_small.verifies;
    }))

-- two calls that are sent in the same bytes are the same

abbrev read_as : RpcUnit → Result RpcUnit UnitRefused
read_as unit = Ok unit

abbrev joined_as : RpcUnit → Result (Option RpcUnit) JoinRefused
joined_as unit = Ok (Some unit)

same_units : (units others : List RpcUnit) → map read_as units ≡ map read_as others → units ≡ others
same_units [] [] is = refl
same_units [] (other ∷ others) is = absurd cc
same_units (unit ∷ units) [] is = absurd cc
same_units (unit ∷ units) (other ∷ others) is =
    let first : unit ≡ other = cc in
    let later : units ≡ others = same_units units others cc in
    ap₂ (λ (u : RpcUnit) (rest : List RpcUnit). u ∷ rest) first later

same_whole : (now_open : Option RpcUnit) (units : List RpcUnit) (one other : RpcUnit) → AddsTo now_open units one → AddsTo now_open units other → one ≡ other
same_whole now_open [] one other adds also = absurd adds
same_whole now_open (unit ∷ []) one other adds also = let same : joined_as one ≡ joined_as other = sym adds ∙ also in cc
same_whole now_open (unit ∷ next ∷ units) one other adds also = same_whole (open_after now_open unit) (next ∷ units) one other adds.1 also.1

same_call : (one other : RpcUnit) (limit : ℕ) → IsHeard (bytes_of_call one limit) (cut_of one limit) one → IsHeard (bytes_of_call other limit) (cut_of other limit) other →
    bytes_of_call one limit ≡ bytes_of_call other limit → one ≡ other
same_call one other limit heard also is =
    let units : cut_of one limit ≡ cut_of other limit =
    same_units (cut_of one limit) (cut_of other limit) (sym heard.read ∙ ap (λ (c : Cut). map unit_of c.units) (sym heard.stream ∙ ap cut_stream is ∙ also.stream) ∙ also.read) in
    same_whole None (cut_of other limit) one other (subst (λ (u : List RpcUnit). AddsTo None u one) units heard.joined) also.joined

-- replies with two keys

can_write : (key : List ℕ) → CanWriteReply (reply_with_key key)
unfolding sam_info_of carried_at
can_write key = (
  inr refl,
  record {
    effective_name = omega arith;
    full_name = omega arith;
    script = omega arith;
    profile = omega arith;
    home = omega arith;
    home_drive = omega arith;
    groups = omega arith;
    server = omega arith;
    domain = omega arith;
    extra = omega arith;
  },
)

is_short : (key : List ℕ) → IsShortReply (reply_with_key key)
unfolding sam_info_of carried_at
is_short key = record {
  effective_name = omega arith;
  full_name = omega arith;
  script = omega arith;
  profile = omega arith;
  home = omega arith;
  home_drive = omega arith;
  server = omega arith;
  domain = omega arith;
}

abbrev call_with_key : List ℕ → RpcUnit
call_with_key key = response_of 3 0 (written_reply (reply_with_key key))

heard_key : (key : List ℕ) → InRangeReply (reply_with_key key) → IsHeard (bytes_of_call (call_with_key key) 5840) (cut_of (call_with_key key) 5840) (call_with_key key)
heard_key key range =
    let short : length (written_reply (reply_with_key key)) ≤ 65536 = written_reply-joins (reply_with_key key) (can_write key) range (is_short key) in
    call_heard (call_with_key key) 5840
    (record {
      whole = record { stub = tt; first = refl; last = refl };
      range = record { call = omega arith; body = (omega (arith, short), omega arith); trailer = tt };
      value = tt;
      least = omega arith;
      room = omega arith;
    })
    short

abbrev key_if : Option SamInfo → List ℕ
key_if None = []
key_if (Some info) = info.key

abbrev key_in_reply : Result Reply StubRefused → List ℕ
key_in_reply (Ok (reply.Logon value)) = key_if value.info
key_in_reply _ = []

account_small : account_in small_table.accounts small_call.info.user ≡ Some small_account
unfolding place_in same_name names.upper_of units_of
account_small = refl

-- what is sent where it is sent as granted
right_sent : (new : List Action) → IsSentAsGranted next_call small_call small_line new →
    new ≡ actions_granting small_line (reply_granted next_call small_call small_account (small_channel []) (authenticator_of (key_of_channel (small_channel [])) [] 0))
right_sent new sent =
    let channel : small_channel [] ≡ sent.next.channel = some_is _ _ sent.next.stands in
    let given : authenticator_of (key_of_channel (small_channel [])) [] 0 ≡ sent.next.given = some_is _ _ sent.next.there in
    let account : small_account ≡ sent.account = some_is _ _ (sym account_small ∙ sent.stored) in
    sent.actions
    ∙ ap (λ (a : Account). actions_granting small_line (reply_granted next_call small_call a sent.next.channel sent.next.given)) (sym account)
    ∙ ap (λ (c : SecureChannelState). actions_granting small_line (reply_granted next_call small_call small_account c sent.next.given)) (sym channel)
    ∙ ap (λ (g : Authenticator). actions_granting small_line (reply_granted next_call small_call small_account (small_channel []) g)) (sym given)

same_bytes : (link : ℕ) (one other : List ℕ) →
    action.Judged (judged.Passed 0) ∷ action.Send link one ∷ [] ≡ action.Judged (judged.Passed 0) ∷ action.Send link other ∷ [] → one ≡ other
same_bytes link one other is = cc

same_key : (one other : List ℕ) → InRangeReply (reply_with_key one) → InRangeReply (reply_with_key other) →
    actions_granting small_line (reply_with_key one) ≡ actions_granting small_line (reply_with_key other) → one ≡ other
same_key one other range also is =
    let calls : call_with_key one ≡ call_with_key other = same_call _ _ 5840 (heard_key one range) (heard_key other also) (same_bytes 2 _ _ is) in
    let stubs : written_reply (reply_with_key one) ≡ written_reply (reply_with_key other) = ap (λ (u : RpcUnit). stub_of u.body) calls in
    ap key_in_reply
    (sym (reply_of-written_reply (reply_with_key one) (can_write one) range)
    ∙ ap (reply_of (opnum_of_reply (reply_with_key other))) stubs
    ∙ reply_of-written_reply (reply_with_key other) (can_write other) also)

of_sending : OfSending
of_sending = record {
  meets = λ w line after is. grants_carry_their_key w line small_call small_desk after is (granted_step w line after is);
  fails = λ line sent. absurd (let none = sent.actions in cc);
  fails_twice = λ line bytes sent. absurd (let twice : 3 ≡ 2 = ap length sent.actions in cc);
  fails_key = λ one other range also differs sent too.
      differs (same_key one other range also (right_sent _ sent ∙ sym (right_sent _ too)));
}

-- ---- how often a count is raised

-- a list of one item has one place
only_place : (one other : ℕ) (item first second : Judging) → slice_get (item ∷ []) one ≡ Some first → slice_get (item ∷ []) other ≡ Some second → one ≡ other
only_place zero zero item first second here there = refl
only_place zero (suc other) item first second here there = absurd (got_nothing other second there)
only_place (suc one) other item first second here there = absurd (got_nothing one first here)

raised : RaisesCount wrong_call
unfolding judgement_of table_after route_in place_in same_name names.upper_of units_of verifies
raised = record {
  passed = refl;
  place = 0;
  before = small_account;
  after = record small_account { bad_count = 1 };
  was = refl;
  is = refl;
  grew = omega arith;
}

locked_at : (place : ℕ) (before after : Account) → slice_get locked_call.table.accounts place ≡ Some before →
    slice_get (left_by locked_call).accounts place ≡ Some after →
    before.bad_count < after.bad_count → ⊥
unfolding judgement_of table_after route_in place_in same_name names.upper_of units_of
locked_at zero before after was is grew =
    let one : 0 ≡ before.bad_count = ap Account.bad_count (some_is _ before was) in
    let other : 0 ≡ after.bad_count = ap Account.bad_count (some_is _ after is) in
    absurd (omega (arith, one, other, grew))
locked_at (suc place) before after was is grew = absurd (got_nothing place before was)

of_counts : OfCounts
of_counts = record {
  raises = raised;
  meets = λ one other unit first second here there came too first_raises second_raises. only_place one other wrong_call first second here there;
  barred = λ raises. absurd (let never : false ≡ true = raises.passed in cc);
  locked = λ raises. locked_at raises.place raises.before raises.after raises.was raises.is raises.grew;
  fails_twice = λ claim. absurd (let never : 0 ≡ 1 = claim 0 1 7 wrong_call wrong_call refl refl refl refl raised raised in cc);
}

pub grants_tell_apart : GrantsTellApart
grants_tell_apart = record { grants = of_grants; sending = of_sending; counts = of_counts }
