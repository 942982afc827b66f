-- Near misses that were written down by hand.
-- It serves `near_misses_tell_apart`.
use Rattle.std.proofs.Common.{◌≡◌, ◌==◌, ◌≢◌, ◌≤◌, ◌+◌, ℕ, zero, suc, Bool, true, false, List, [], ◌∷◌, length, inl, inr, Some, None, refl, sym, ap, ◌∙◌, subst, arith, slice_get, replicate, ◌<◌, Option, if◌then◌else◌, codes}
use Rattle.std.specs.Prelude.{◌%◌, ◌^◌}
use Rattle.std.proofs.lemmas.Bool.{eqb-true}
use Rattle.wire_base.specs.Maps.{lookup, same_number}
use Rattle.rpc_units.specs.declared.unit.Unit.{Unit as RpcUnit}
use Rattle.rpc_units.specs.Writing.{written}
use Rattle.end_links.specs.Binding.{nak_of}
use Rattle.end_links.specs.Links.{LinkState}
use Rattle.end_links.specs.Serving.{ServedUnit}
use Rattle.account_table.specs.AccountTable.{AccountTable}
use Rattle.account_table.specs.declared.account.Account.{Account}
use Rattle.channel_client.specs.Machine.{fresh_requester}
use Rattle.domain_controller.specs.State.{State as ControllerState}
use Rattle.domain_controller.specs.Step.{first_state}
use Rattle.member_server.specs.Machine.{caller_of}
use Rattle.member_server.specs.State.{State as MemberState}
use Rattle.channel_turns.specs.declared.state.Dialling.TheVariants as dialling
use Rattle.member_server.specs.declared.state.Bound.{Bound}
use Rattle.member_server.specs.declared.state.Logon.{Logon}
use Rattle.member_server.specs.declared.state.Phase.TheVariants as phase
use Rattle.member_server.specs.declared.state.Running.{Running as MemberRunning}
use Rattle.member_server.specs.declared.state.Talk.{Talk}
use Rattle.domain_world.specs.Claims.Tables.{accounts_after}
use Rattle.domain_world.specs.Claims.WrittenDown.{IsChallengeOf, IsMadeOn, IsMadeWith, IsMessageOf, MembersAreWrittenDown}
use Rattle.std.proofs.lemmas.List.Elements.{All-from_recursion}
use Rattle.wire_base.specs.Names.{same_name}
use Rattle.wire_base.specs.Names as names
use Rattle.wire_base.specs.Units.{units_of}
use Rattle.authenticators.specs.Channels.{ChannelIdentity}
use Rattle.outside.specs.declared.action.Action.{Action}
use Rattle.outside.specs.declared.action.Action.TheVariants as action
use Rattle.outside.specs.declared.action.Judged.TheVariants as judged
use Rattle.ntlm_responses.specs.Responses.{is_ess_pair}
use Rattle.ntlm_responses.specs.Verification.{verifies}
use Rattle.ntlm_responses.proofs.ResponseLaws.{length-response_v1_of, Verifies-challenge_for_of, Verifies-proof_of}
use Rattle.sam_logon.specs.Verdict.{judgement_of, table_after}
use Rattle.account_table.specs.LookUps.{place_in, route_in}
use Rattle.std.specs.List.{AllByRecursion}
use Rattle.member_server.specs.Turns.{AtTurn}
use Rattle.channel_turns.specs.declared.state.TurnTalk.{TurnTalk}
use Rattle.step_notes.specs.CallLogons.{IfCalling}
use Rattle.step_notes.specs.MemberNotes.{turn_note}
use Rattle.step_notes.specs.Served.{work_after}
use Rattle.step_notes.proofs.Members.CallLogonLaws.{calls_carry}
use Rattle.domain_world.specs.Claims.AskedFor.{AsksForItsMessage, IsForItsMessage, IsOfMessage, MembersAskForKept, AsksBy}
use Rattle.wire_base.specs.Lists.{OneOf}
use Rattle.channel_events.specs.Marks.{Calling, Mark, Opened, Opening, Plain, ReplyTo}
use Rattle.wire_base.proofs.ListLaws.{got_nothing, no_some, some_is}
use Rattle.step_notes.specs.Records.{InUnit, Judging, MessageMade, MessageTaken, Outside, Sent, blank}
use Rattle.world_moves.specs.declared.bag.BagUnit.{BagUnit}
use Rattle.world_moves.specs.declared.links.Route.TheVariants.{ToController, ToMember}
use Rattle.world_moves.specs.Forms.{HasMoveForm, IsByte}
use Rattle.world_moves.specs.World.{IsMove}
use Rattle.domain_world.specs.Accepting.Answered.{IsItsWay, MarksHaveTheirWay, PassesAreUnclashed}
use Rattle.domain_world.specs.Accepting.Carried.{IsPlain, IsWholeAsMarked, IsWholeUnit, MarkedUnitsAreWhole}
use Rattle.domain_world.proofs.Acceptance.CarriedLaws.{one_unit}
use Rattle.domain_world.proofs.Moves.PlainFormLaws.{plain_is}
use Rattle.domain_world.specs.Claims.MarkedUnits.{CallsAreMarked, IsMarkedAsCall, IsMarkedAsReply, RepliesAreMarked}
use Rattle.domain_world.specs.Claims.{TellsOfForwards, IsAccepted, IsClear, IsGrantedBy, IsItsControllersAnswer, IsPlainlyAccepted, passed_on, judged_timestamp, counts_by}
use Rattle.domain_world.specs.Claims.Counts.{RaisesCount}
use Rattle.domain_world.specs.Past.{Past, sent_at}
use Rattle.claim_examples.specs.ClaimExamples.{challenge_on, client_plan, elsewhere, extended_flags, judged_as, judging, last_timestamp, made_keeping, message, message_of_link, on_channel, one_logon, open_running, small_account, small_challenge, small_hash, small_logon, small_member, small_name, small_plan, run_in, small_run, small_table, small_world}
use Rattle.claim_examples.specs.GrantExamples.{wrong_call}
use Rattle.claim_examples.specs.NearMisses.{replied_at, NearMissesTellApart, OfAcceptingAll, OfAcceptingOnly, OfAsking, OfClearRuns, OfCounts, OfHandingOn, OfKeeping, OfKeys, OfLeavingOut, OfMaking, OfMarks, OfWhole, carried_in, OfSchedules, OfShortResponses, OfTables, OfTelling, OfUnits, OfWritingDown, at_two_members, barred_again, bob, called_as, each_move, extended_taken, foreign, half_timestamp, handed_for, in_client, judged_by, judged_two, keeping, kept_client, kept_link, kept_running, kept_terms, locking_table, long_taken, noting, passed_for, sent_one, small_bound, taking, telling, ten_keeping, told_so, untold, waiting_on, waiting_state, wrong_among}
use Rattle.claim_examples.proofs.ClaimLaws.{its_controller, moved_by_one, of_wraps, the_two}
use Rattle.claim_examples.proofs.CompletenessLaws.{lost_schedule}
use Rattle.claim_examples.proofs.LogonLaws.{extended_pair, free_small, granted_small, only_draw, plain_small, stored_small, this_step}
use Rattle.claim_examples.proofs.SequenceLaws.{one_apart}
use Rattle.logon_client.specs.declared.plan.ClientPlan.{ClientPlan}
use Rattle.logon_client.specs.State.{State as ClientState}
use Rattle.logon_client.specs.declared.outcome.ClientOutcome.TheVariants as client_outcome
use Rattle.logon_client.specs.declared.state.ClientLink.TheVariants as client_link
use Rattle.logon_client.specs.declared.state.Phase.TheVariants as client_phase
use Rattle.logon_client.specs.declared.state.Question.{Question}
use Rattle.logon_client.specs.declared.state.Question.TheVariants.{Who}
use Rattle.logon_client.specs.declared.state.Running.{Running as ClientRunning}
use Rattle.logon_client.specs.declared.state.Talk.{Talk as ClientTalk}
use Rattle.logon_client.specs.declared.state.Terms.{Terms}

-- ---- clear runs

-- two calls wrap by what the first one moved
clear_by : (second first : Judging) →
    ((channel : ChannelIdentity) → passed_on channel second ≡ true → passed_on channel first ≡ true → (judged_timestamp first + 1 + 0) % 2 ^ 32 ≡ 0 → ⊥) →
    IsClear (judged_two second first)
clear_by second first never = record {
  apart = refl;
  onward = λ wraps.
      let parts = the_two second first wraps.later wraps.second wraps.between wraps.first wraps.earlier wraps.all in
      never wraps.channel
      (sym (ap (λ (j : Judging). passed_on wraps.channel j) parts.0) ∙ wraps.second_passed)
      (sym (ap (λ (j : Judging). passed_on wraps.channel j) parts.2) ∙ wraps.first_passed)
      (ap (λ (n : ℕ). n % 2 ^ 32) (sym (moved_by_one wraps.channel wraps.between wraps.first first parts.1 parts.2 wraps.first_passed)) ∙ wraps.around);
}

of_clear : OfClearRuns
of_clear = record {
  two = clear_by (on_channel 0) (on_channel 0) (λ channel second first around. absurd (let never : 1 ≡ 0 = around in cc));
  half = clear_by (on_channel half_timestamp) (on_channel half_timestamp) (λ channel second first around. absurd (let never : 2147483648 ≡ 0 = around in cc));
  apart = clear_by (on_channel last_timestamp) (elsewhere (on_channel last_timestamp)) (λ channel second first around.
      absurd (let never : 0 ≡ 1 = its_controller channel (on_channel last_timestamp) second ∙ sym (its_controller channel (elsewhere (on_channel last_timestamp)) first) in cc));
  barred = clear_by (judged_as judged.Barred (on_channel last_timestamp)) (on_channel last_timestamp) (λ channel second first around. absurd (let never : false ≡ true = second in cc));
  outside = clear_by (foreign (on_channel 0)) (on_channel 0) (λ channel second first around. absurd (let never : 1 ≡ 0 = around in cc));
  fails_round = λ clear. clear.onward of_wraps.meets;
}

-- ---- accepting

granted_long : IsGrantedBy long_taken judging
unfolding place_in same_name names.upper_of units_of is_ess_pair
granted_long = record {
  may = record { there = granted_small.may.there; taken_response = inl refl };
  verifies = Verifies-proof_of small_hash (97 ∷ 110 ∷ 110 ∷ []) [] small_challenge (replicate 28 0) (omega arith);
}

granted_extended : IsGrantedBy extended_taken judging
unfolding place_in same_name names.upper_of units_of
granted_extended = record {
  may = record { there = granted_small.may.there; taken_response = inl refl };
  verifies = Verifies-challenge_for_of extended_flags small_hash (97 ∷ 110 ∷ 110 ∷ []) [] small_challenge (replicate 8 1) (replicate 24 1) refl extended_pair;
}

accepted_long : IsAccepted (small_run (taking long_taken)) long_taken
accepted_long = record {
  own = record { route = ToMember 0 0; at = refl; acceptor = refl };
  judging = judging;
  answer = record { taken = refl; controller = refl; once = (λ same. refl, tt) };
  granted = granted_long;
  unused = inl (record { link = refl; challenge = refl; drawn = refl; only = only_draw small_challenge; first = refl });
}

accepted_extended : IsAccepted (small_run (taking extended_taken)) extended_taken
accepted_extended = record {
  own = record { route = ToMember 0 0; at = refl; acceptor = refl };
  judging = judging;
  answer = record { taken = refl; controller = refl; once = (λ same. refl, tt) };
  granted = granted_extended;
  unused = inl (record { link = refl; challenge = refl; drawn = refl; only = only_draw small_challenge; first = refl });
}

accepted_barred : IsAccepted (small_run (record one_logon { judged = barred_again ∷ judging ∷ [] })) message
accepted_barred = record {
  own = record { route = ToMember 0 0; at = refl; acceptor = refl };
  judging = judging;
  answer = record { taken = refl; controller = refl; once = (λ same. absurd (let never : false ≡ true = same in cc), (λ same. refl, tt)) };
  granted = granted_small;
  unused = inl (record { link = refl; challenge = refl; drawn = refl; only = only_draw small_challenge; first = refl });
}

of_only : OfAcceptingOnly
of_only = record {
  meets_long = (λ told. inl (refl, refl, accepted_long), tt);
  meets_extended = (λ told. inl (refl, refl, accepted_extended), tt);
  meets_barred = (λ told. inl (refl, refl, accepted_barred), tt);
  fails_link = λ claim. elim (claim.0 refl) [ inl is ↦ absurd (let link : 3 ≡ 4 = is.0 in cc) | inr none ↦ none ];
  fails_second = λ claim. elim (claim.1.0 refl) [ inl is ↦ absurd (let link : 3 ≡ 4 = is.0 in cc) | inr none ↦ none ];
}

not_twice : IsItsControllersAnswer (small_run (record (untold one_logon) { judged = record judging { at = 7; reply = Some 9 } ∷ judging ∷ [] })) message judging → ⊥
not_twice answer = absurd (let never : 7 ≡ 6 = answer.once.0 refl in cc)

of_all : OfAcceptingAll
of_all = record {
  fails_member = λ claim. elim (claim.0 judging (record { taken = refl; controller = refl; once = (λ same. refl, tt) }) granted_small) [ inl is ↦ absurd (let member : 1 ≡ 0 = is.1 in cc) | inr none ↦ none ];
  fails_second = λ claim. elim (claim.1.0 judging (record { taken = refl; controller = refl; once = (λ same. refl, tt) }) (record { may = granted_small.may; verifies = granted_small.verifies })) [
    | inl is ↦ absurd (let link : 3 ≡ 4 = is.0 in cc)
    | inr none ↦ none
  ];
  fails_unsent = λ claim. claim.0 judging (record { taken = refl; controller = refl; once = (λ same. refl, tt) }) granted_small;
  fails_unlinked = λ claim. claim.0 judging (record { taken = refl; controller = refl; once = (λ same. refl, tt) }) granted_small;
  fails_barred = λ claim.
      claim.0 judging (record { taken = refl; controller = refl; once = (λ same. absurd (let never : false ≡ true = same in cc), (λ same. refl, tt)) }) granted_small;
  fails_long = λ claim. claim.0 judging (record { taken = refl; controller = refl; once = (λ same. refl, tt) }) granted_long;
  fails_extended = λ claim. claim.0 judging (record { taken = refl; controller = refl; once = (λ same. refl, tt) }) granted_extended;
  twice = (λ j answer granted. absurd (not_twice (subst (λ (one : Judging). IsItsControllersAnswer (small_run (record (untold one_logon) { judged = record judging { at = 7; reply = Some 9 } ∷ judging ∷ [] })) message one) (sym (this_step judging j answer.taken)) answer)), tt);
}

short_first : IsPlainlyAccepted at_two_members message small_hash
short_first = record {
  accepted = record {
    own = record { route = ToMember 0 0; at = refl; acceptor = refl };
    judging = judging;
    answer = record { taken = refl; controller = refl; once = (λ same. refl, tt) };
    granted = granted_small;
    unused = inl (record { link = refl; challenge = refl; drawn = refl; only = only_draw small_challenge; first = refl });
  };
  told = inl (refl, refl, refl);
  short = length-response_v1_of small_hash small_challenge;
  own = plain_small 3;
  stored = stored_small;
}

short_second : IsPlainlyAccepted at_two_members (record (message_of_link 4) { member = 1 }) small_hash
short_second = record {
  accepted = record {
    own = record { route = ToMember 0 1; at = refl; acceptor = refl };
    judging = judging;
    answer = record { taken = refl; controller = refl; once = (λ same. refl, tt) };
    granted = record { may = granted_small.may; verifies = granted_small.verifies };
    unused = inr (inl (record { link = refl; challenge = refl; drawn = refl; only = only_draw small_challenge; first = refl }));
  };
  told = inr (inl (refl, refl, refl));
  short = length-response_v1_of small_hash small_challenge;
  own = plain_small 4;
  stored = stored_small;
}

of_short : OfShortResponses
of_short = record {
  fails_members = λ claim. (claim small_hash).0.1.0 (λ same. absurd (let never : 3 ≡ 4 = same in cc)) refl short_first short_second;
}

-- ---- keys

not_the_key : (one other : List ℕ) → one ≡ 1 ∷ [] → other ≡ 2 ∷ [] → one ≡ other → ⊥
not_the_key one other is also same = absurd (let never : 1 ∷ [] ≡ 2 ∷ [] = sym is ∙ same ∙ also in cc)

of_keys : OfKeys
of_keys = record {
  fails_relayed = λ claim. not_the_key (1 ∷ []) (2 ∷ []) refl refl ((claim.0.0 refl judging refl free_small).0.0 (record { link = refl; challenge = refl; bytes = refl; hash = sym stored_small }));
  fails_plan = λ claim. not_the_key (1 ∷ []) (2 ∷ []) refl refl ((claim.0.0 refl judging refl free_small).0.0 (record { link = refl; challenge = refl; bytes = refl; hash = sym stored_small }));
  fails_second = λ claim. not_the_key (1 ∷ []) (2 ∷ []) refl refl ((claim.0.0 refl judging refl free_small).0.1.0 (record { link = refl; challenge = refl; bytes = refl; hash = sym stored_small }));
}

-- ---- counts

raised_at : (at controller : ℕ) → RaisesCount (record wrong_call { at = at; controller = controller })
unfolding judgement_of table_after route_in place_in same_name names.upper_of units_of verifies
raised_at at controller = record {
  passed = refl;
  place = 0;
  before = small_account;
  after = record small_account { bad_count = 1 };
  was = refl;
  is = refl;
  grew = omega arith;
}

raised_more : RaisesCount (wrong_among (record small_account { bad_count = 3 } ∷ []))
unfolding judgement_of table_after route_in place_in same_name names.upper_of units_of verifies
raised_more = record {
  passed = refl;
  place = 0;
  before = record small_account { bad_count = 3 };
  after = record small_account { bad_count = 4 };
  was = refl;
  is = refl;
  grew = omega arith;
}

raised_second : RaisesCount (wrong_among (bob ∷ small_account ∷ []))
unfolding judgement_of table_after route_in place_in same_name names.upper_of units_of verifies
raised_second = record {
  passed = refl;
  place = 1;
  before = small_account;
  after = record small_account { bad_count = 1 };
  was = refl;
  is = refl;
  grew = omega arith;
}

from_outside : (place : ℕ) (j : Judging) → slice_get (foreign wrong_call ∷ foreign wrong_call ∷ []) place ≡ Some j → j.source ≡ Outside
from_outside zero j there = sym (ap Judging.source (some_is (foreign wrong_call) j there))
from_outside (suc zero) j there = sym (ap Judging.source (some_is (foreign wrong_call) j there))
from_outside (suc (suc place)) j there = absurd (got_nothing place j there)

of_counts : OfCounts
of_counts = record {
  raises_more = raised_more;
  raises_second = raised_second;
  fails_later = λ claim. absurd (let never : 0 ≡ 1 = claim 0 1 7 (record wrong_call { at = 9 }) wrong_call refl refl refl refl (raised_at 9 0) (raised_at 6 0) in cc);
  fails_elsewhere = λ claim. absurd (let never : 0 ≡ 1 = claim 0 1 7 (record wrong_call { controller = 1 }) wrong_call refl refl refl refl (raised_at 6 1) (raised_at 6 0) in cc);
  outside = λ one other unit first second here there came too raises more.
      absurd (let never : Outside ≡ InUnit unit = sym (from_outside one first here) ∙ came in cc);
}

-- ---- units of the bag, and messages

way_of_one : (back : Bool) (mark : Mark) → IsItsWay back mark → MarksHaveTheirWay (sent_one back mark)
way_of_one back mark is zero unit sent there marked =
    let same : back ≡ unit.back = ap BagUnit.back (some_is _ unit there) in
    let also : mark ≡ sent.mark = ap Sent.mark (some_is _ sent marked) in
    subst (λ (b : Bool). IsItsWay b sent.mark) same (subst (λ (m : Mark). IsItsWay back m) also is)
way_of_one back mark is (suc number) unit sent there marked = absurd (got_nothing number unit there)

its_way : (back : Bool) (mark : Mark) → MarksHaveTheirWay (sent_one back mark) → IsItsWay back mark
its_way back mark claim = claim 0 _ (sent_at 6 mark) refl refl

passes_alike : PassesAreUnclashed (passed_for (Calling small_name 3 0) false)
unfolding same_name names.upper_of
passes_alike none = (refl, tt)

not_alike : PassesAreUnclashed (passed_for Plain false) → ⊥
unfolding same_name names.upper_of
not_alike claim = absurd (let never : true ≡ false = (claim refl).0 in cc)

handed_alike : PassesAreUnclashed (handed_for (Calling small_name 3 0))
unfolding same_name names.upper_of
handed_alike none = (refl, tt)

not_handed_alike : PassesAreUnclashed (handed_for Plain) → ⊥
unfolding same_name names.upper_of
not_handed_alike claim = absurd (let never : true ≡ false = (claim refl).0 in cc)

of_handing_on : OfHandingOn
of_handing_on = record {
  reply = refl;
  waits = refl;
  other_link = refl;
  onward = refl;
  none = refl;
  forgotten = refl;
  kept = refl;
}

of_units : OfUnits
of_units = record {
  marked = refl;
  fails_less = λ claim. absurd (let never : 0 ≡ 1 = claim in cc);
  fails_more = λ claim. absurd (let never : 1 ≡ 0 = claim in cc);
  request = way_of_one false (Calling small_name 3 0) refl;
  reply = way_of_one true (ReplyTo small_name 3 7) refl;
  fails_opening = λ claim. absurd (let never : true ≡ false = its_way true (Opening small_name 3) claim in cc);
  fails_call = λ claim. absurd (let never : true ≡ false = its_way true (Calling small_name 3 0) claim in cc);
  fails_opened = λ claim. absurd (let never : false ≡ true = its_way false (Opened small_name 3 7) claim in cc);
  fails_reply = λ claim. absurd (let never : false ≡ true = its_way false (ReplyTo small_name 3 7) claim in cc);
  messages = one_apart (λ (one other : MessageTaken). one.link ≢ other.link) message;
  fails_messages = λ claim. claim 0 1 message (omega arith) (omega arith) refl;
  passes = passes_alike;
  clashed = λ none. absurd (let never : true ≡ false = none in cc);
  fails_passes = not_alike;
  handed_on = handed_alike;
  fails_handed_on = not_handed_alike;
}

-- the one unit is what its mark says
its_mark : (bytes : List ℕ) (mark : Mark) → (IsPlain mark → ⊥) → MarkedUnitsAreWhole (carried_in bytes mark) → IsWholeAsMarked mark bytes
its_mark bytes mark marked claim = subst (IsWholeAsMarked mark) (plain_is (sent_at 6 mark ∷ []) 0 _) (claim 0 _ (sent_at 6 mark) refl refl marked)

-- under one number
one_number : (bytes : List ℕ) (one other : IsWholeUnit bytes) → one.unit.call ≡ other.unit.call
one_number bytes one other = ap (λ (u : RpcUnit). u.call) (one_unit bytes one other)

of_whole : OfWhole
of_whole = record {
  plain = λ n unit one there noted marked. absurd (only_plain n one noted marked);
  opening = λ bytes one other first second.
      let a = its_mark bytes (Opening small_name one) (λ plain. plain) first in
      let b = its_mark bytes (Opening small_name other) (λ plain. plain) second in
      sym a.marked.1 ∙ one_number bytes a.whole b.whole ∙ b.marked.1;
  call = λ bytes one other first second.
      let a = its_mark bytes (Calling small_name one 0) (λ plain. plain) first in
      let b = its_mark bytes (Calling small_name other 0) (λ plain. plain) second in
      sym a.marked ∙ one_number bytes a.whole b.whole ∙ b.marked;
  opened = λ bytes one other first second.
      let a = its_mark bytes (Opened small_name one 7) (λ plain. plain) first in
      let b = its_mark bytes (Opened small_name other 7) (λ plain. plain) second in
      sym a.marked.2 ∙ one_number bytes a.whole b.whole ∙ b.marked.2;
} where
  only_plain : (n : ℕ) (one : Sent) → slice_get (sent_at 6 Plain ∷ []) n ≡ Some one → (IsPlain one.mark → ⊥) → ⊥
  only_plain zero one noted marked = marked (subst (λ (s : Sent). IsPlain s.mark) (some_is (sent_at 6 Plain) one noted) tt)
  only_plain (suc n) one noted marked = got_nothing n one noted

-- the mark of the call, and that of the reply
the_call : (mark reply : Mark) → CallsAreMarked (called_as mark reply) → (channel : ChannelIdentity) × (number : ℕ) × (timestamp : ℕ) × (mark ≡ Calling channel number timestamp) × (channel.controller ≡ 0)
the_call mark reply claim =
    let it : IsMarkedAsCall (called_as mark reply) 0 7 = claim.0 7 refl in
    (it.channel, it.number, it.timestamp, ap Sent.mark (some_is (sent_at 5 mark) it.sent it.there) ∙ it.mark, it.controller)

-- a call that passed wasn't handed on
not_handed : (on_channel 0).how ≢ Some judged.Forwarded
not_handed = λ is. absurd (let never = is in cc)

the_answer : (mark : Mark) → RepliesAreMarked (called_as Plain mark) → mark ≡ ReplyTo small_name 3 7
the_answer mark claim =
    let it : IsMarkedAsReply (called_as Plain mark) (on_channel 0) 7 = claim.0 7 refl refl not_handed in
    let at : 8 ≡ it.reply = some_is 8 it.reply it.is in
    let there : Some (sent_at 6 mark) ≡ Some it.sent = ap (λ (n : ℕ). slice_get (called_as Plain mark).book.sent n) at ∙ it.there in
    ap Sent.mark (some_is (sent_at 6 mark) it.sent there) ∙ it.mark ∙ ap (λ (c : ChannelIdentity). ReplyTo c 3 7) (sym (some_is small_name it.channel it.passed))

-- the step at which the reply was sent
the_step : (moves : ℕ) → RepliesAreMarked (replied_at moves) → moves ≡ 6
the_step moves claim =
    let it : IsMarkedAsReply (replied_at moves) (on_channel 0) 7 = claim.0 7 refl refl not_handed in
    let at : 8 ≡ it.reply = some_is 8 it.reply it.is in
    let there : Some (sent_at moves (ReplyTo small_name 3 7)) ≡ Some it.sent = ap (λ (n : ℕ). slice_get (replied_at moves).book.sent n) at ∙ it.there in
    ap Sent.at (some_is (sent_at moves (ReplyTo small_name 3 7)) it.sent there) ∙ it.step

of_marks : OfMarks
of_marks = record {
  call = (
    λ n is. subst (λ (k : ℕ). IsMarkedAsCall (called_as (Calling small_name 3 0) Plain) 0 k) (some_is 7 n is) (record {
      sent = sent_at 5 (Calling small_name 3 0);
      there = refl;
      channel = small_name;
      number = 3;
      timestamp = 0;
      mark = refl;
      controller = refl;
    }),
    tt,
  );
  fails_plain = λ claim. let it = the_call Plain Plain claim in absurd (let never : Plain ≡ Calling it.0 it.1 it.2 = it.3 in cc);
  fails_opening = λ claim. let it = the_call (Opening small_name 3) Plain claim in absurd (let never : Opening small_name 3 ≡ Calling it.0 it.1 it.2 = it.3 in cc);
  fails_controller = λ claim.
      let other : ChannelIdentity = record small_name { controller = 1 } in
      let it = the_call (Calling other 3 0) Plain claim in
      let same : Calling other 3 0 ≡ Calling it.0 it.1 it.2 = it.3 in
      let channel : other ≡ it.0 = cc in
      absurd (let never : 1 ≡ 0 = ap (λ (c : ChannelIdentity). c.controller) channel ∙ it.4 in cc);
  reply = (
    λ n is how here. subst (λ (k : ℕ). IsMarkedAsReply (called_as Plain (ReplyTo small_name 3 7)) (on_channel 0) k) (let same : 7 ≡ n = cc in same) (record {
      reply = 8;
      is = refl;
      sent = sent_at 6 (ReplyTo small_name 3 7);
      there = refl;
      channel = small_name;
      passed = refl;
      mark = refl;
      step = refl;
    }),
    tt,
  );
  fails_plain_reply = λ claim. absurd (let never : Plain ≡ ReplyTo small_name 3 7 = the_answer Plain claim in cc);
  fails_channel = λ claim.
      let other : ChannelIdentity = record small_name { controller = 1 } in
      let same : ReplyTo other 3 7 ≡ ReplyTo small_name 3 7 = the_answer (ReplyTo other 3 7) claim in
      let channel : other ≡ small_name = cc in
      absurd (let never : 1 ≡ 0 = ap (λ (c : ChannelIdentity). c.controller) channel in cc);
  fails_number = λ claim. absurd (let never : ReplyTo small_name 4 7 ≡ ReplyTo small_name 3 7 = the_answer (ReplyTo small_name 4 7) claim in cc);
  fails_unit = λ claim. absurd (let never : ReplyTo small_name 3 6 ≡ ReplyTo small_name 3 7 = the_answer (ReplyTo small_name 3 6) claim in cc);
  fails_step = λ claim. absurd (let never : 5 ≡ 6 = the_step 5 claim in cc);
  fails_none = λ claim. let it = claim.0 7 refl refl not_handed in no_some it.reply it.is;
  outside = ((λ n is. absurd (let never = is in cc)), tt);
  handed_on = ((λ n is passed here. absurd (here refl)), tt);
}

-- ---- what members ask

-- a Logon call that goes out asks what some message does
some_message : (member : ℕ) (messages : List MessageTaken) (controller : ℕ) (unit : ServedUnit AtTurn TurnTalk) (called : Option ℕ) (mark : Mark) (channel : ChannelIdentity) (call timestamp place : ℕ) →
    messages ≡ [] → mark ≡ Calling channel call timestamp → called ≡ Some place → AsksBy called member messages controller unit.work (work_after unit.part) mark → ⊥
some_message member messages controller unit called mark channel call timestamp place none is of asks =
    let here : IsForItsMessage member messages controller unit.work (work_after unit.part) (Some place) channel call timestamp =
    subst (λ (m : Mark). IfCalling (IsForItsMessage member messages controller unit.work (work_after unit.part) (Some place)) m) is
    (subst (λ (c : Option ℕ). AsksBy c member messages controller unit.work (work_after unit.part) mark) of asks) in
    subst (λ (all : List MessageTaken). OneOf (IsOfMessage member here.carries.asks.place here.carries.asks.logon) all) none here.message

nothing_waits : MembersAskForKept (keeping ((0, small_logon 3) ∷ [])) → ⊥
nothing_waits claim = absurd (let waits : 0 ≡ 1 = ap length claim.0.waits in cc)

of_asking : OfAsking
of_asking = record {
  meets = (calls_carry.fresh small_member, tt);
  fails = nothing_waits;
  fails_messages = λ run member m controller number piece now left unit more channel call timestamp place at none goes is of claim.
      some_message member run.book.messages controller unit (turn_note controller unit).called (turn_note controller unit).mark channel call timestamp place none is of
      (let all : AllByRecursion (AsksForItsMessage member run.book.messages controller) (unit ∷ more) =
      subst (λ (units : List (ServedUnit AtTurn TurnTalk)). AllByRecursion (AsksForItsMessage member run.book.messages controller) units) goes
      (claim member m at controller number piece now left) in
      all.0);
}

-- ---- what is written down of members, and what controllers tell

-- of a run with one member, whose number is 0
module _ (run : Past) (r : MemberRunning) (only : run.world.state.ends.members ≡ record { running = Some r } ∷ []) where
  there_is : (member : ℕ) (m : MemberState) (running : MemberRunning) → slice_get run.world.state.ends.members member ≡ Some m → m.running ≡ Some running → (member ≡ 0) × (running ≡ r)
  there_is zero m running at runs =
      let one : MemberState = record { running = Some r } in
      let first : slice_get (one ∷ []) 0 ≡ Some m = subst (λ (members : List MemberState). slice_get members 0 ≡ Some m) only at in
      let same : one ≡ m = cc in
      let both : Some r ≡ Some running = ap (λ (x : MemberState). x.running) same ∙ runs in
      let running_is : r ≡ running = cc in
      (refl, sym running_is)
  there_is (suc k) m running at runs =
      absurd (let never : ◌≡◌ {A = Option MemberState} None (Some m) = subst (λ (members : List MemberState). slice_get members (suc k) ≡ Some m) only at in cc)

  written_by : ((place : ℕ) (logon : Logon) → lookup same_number place r.logons.asked ≡ Some logon → OneOf (IsMessageOf run 0 place logon) run.book.messages) →
      ((number : ℕ) (link : LinkState Talk) (bound : Bound) (challenge : List ℕ) (flags : ℕ) → lookup same_number number r.links ≡ Some link →
      link.talk.phase ≡ phase.Challenged bound challenge flags → OneOf (IsChallengeOf 0 number challenge) run.book.challenges) → MembersAreWrittenDown run
  written_by kept waited = record {
    logons = λ member m running place logon at runs there.
        let is = there_is member m running at runs in
        subst (λ (n : ℕ). OneOf (IsMessageOf run n place logon) run.book.messages) (sym is.0)
        (kept place logon (subst (λ (x : MemberRunning). lookup same_number place x.logons.asked ≡ Some logon) is.1 there));
    challenges = λ member m running number link bound challenge flags at runs there waits.
        let is = there_is member m running at runs in
        subst (λ (n : ℕ). OneOf (IsChallengeOf n number challenge) run.book.challenges) (sym is.0)
        (waited number link bound challenge flags (subst (λ (x : MemberRunning). lookup same_number number x.links ≡ Some link) is.1 there) waits);
  }

-- the one that is kept under a number is that one
only_one : {V : Type 0} (hit : Bool) (key at : ℕ) (kept value : V) → same_number key at ≡ hit → (if hit then Some kept else None) ≡ Some value → (key ≡ at) × (kept ≡ value)
only_one true key at kept value is there = (eqb-true key at is, cc)
only_one false key at kept value is there = absurd (let never : ◌≡◌ {A = Option _} None (Some value) = there in cc)

abbrev fresh_running : MemberRunning
fresh_running = record {
  logons = record { plan = small_member; channel = fresh_requester (caller_of small_member); asked = [] };
  links = [];
  dialling = dialling.Nothing;
  sealing = None;
}

abbrev ten_running : ℕ → MemberRunning
ten_running place = let running : MemberRunning = open_running None [] in record running { logons = record running.logons { asked = (place, small_logon 3) ∷ [] } }

abbrev waiting_running : ℕ → List ℕ → MemberRunning
waiting_running link challenge =
    let running : MemberRunning = open_running None [] in
    record running { links = (link, record { rest = []; talk = record { joiner = None; phase = phase.Challenged small_bound challenge 0 } }) ∷ [] }

kept_message : (place : ℕ) (logon : Logon) → (0 ≡ place) × (small_logon 3 ≡ logon) → IsMessageOf (noting (ten_keeping 0) (message_of_link 3 ∷ []) []) 0 place logon (message_of_link 3)
kept_message place logon is = record { same_member = refl; same_place = is.0; same_logon = is.1; link = ap (λ (l : Logon). l.link) is.1; before = omega arith }

waited_challenge : (number : ℕ) (link : LinkState Talk) (bound : Bound) (challenge : List ℕ) (flags : ℕ) → (number ≡ 3) × (record { rest = []; talk = record { joiner = None; phase = phase.Challenged small_bound small_challenge 0 } } ≡ link) →
    link.talk.phase ≡ phase.Challenged bound challenge flags → IsChallengeOf 0 number challenge (challenge_on 3)
waited_challenge number link bound challenge flags is waits =
    let same : phase.Challenged small_bound small_challenge 0 ≡ phase.Challenged bound challenge flags = ap (λ (l : LinkState Talk). l.talk.phase) is.1 ∙ waits in
    let both : small_challenge ≡ challenge = cc in
    (sym is.0, both, refl)

of_written : OfWritingDown
of_written = record {
  meets = written_by (small_run blank) fresh_running refl (λ place logon there. absurd (let never : ◌≡◌ {A = Option Logon} None (Some logon) = there in cc))
      (λ number link bound challenge flags there waits. absurd (let never : ◌≡◌ {A = Option (LinkState Talk)} None (Some link) = there in cc));
  meets_kept = written_by (noting (ten_keeping 0) (message_of_link 3 ∷ []) []) (ten_running 0) refl
      (λ place logon there. let is = only_one (same_number place 0) place 0 (small_logon 3) logon refl there in inl (kept_message place logon (sym is.0, is.1)))
      (λ number link bound challenge flags there waits. absurd (let never : ◌≡◌ {A = Option (LinkState Talk)} None (Some link) = there in cc));
  fails = λ claim. claim.logons 0 (record { running = Some (ten_running 0) }) (ten_running 0) 0 (small_logon 3) refl refl refl;
  fails_place = λ claim. elim (claim.logons 0 (record { running = Some (ten_running 1) }) (ten_running 1) 1 (small_logon 3) refl refl refl) [
    | inl is ↦ absurd (let never : 0 ≡ 1 = is.same_place in omega (arith, never))
    | inr none ↦ none
  ];
  fails_link = λ claim. elim (claim.logons 0 (record { running = Some (ten_running 0) }) (ten_running 0) 0 (small_logon 3) refl refl refl) [
    | inl is ↦ absurd (let never : 4 ≡ 3 = is.link in omega (arith, never))
    | inr none ↦ none
  ];
  fails_logon = λ claim. elim (claim.logons 0 (record { running = Some (ten_running 0) }) (ten_running 0) 0 (small_logon 3) refl refl refl) [
    | inl is ↦ absurd (let never : 4 ≡ 3 = ap (λ (l : Logon). l.link) is.same_logon in omega (arith, never))
    | inr none ↦ none
  ];
  fails_member = λ claim. elim (claim.logons 0 (record { running = Some (ten_running 0) }) (ten_running 0) 0 (small_logon 3) refl refl refl) [
    | inl is ↦ absurd (let never : 1 ≡ 0 = is.same_member in omega (arith, never))
    | inr none ↦ none
  ];
  fails_later = λ claim. elim (claim.logons 0 (record { running = Some (ten_running 0) }) (ten_running 0) 0 (small_logon 3) refl refl refl) [
    | inl is ↦ absurd (let never : 10 < 10 = is.before in omega (arith, never))
    | inr none ↦ none
  ];
  meets_challenge = written_by (noting (waiting_on 3 small_challenge) [] (challenge_on 3 ∷ [])) (waiting_running 3 small_challenge) refl
      (λ place logon there. absurd (let never : ◌≡◌ {A = Option Logon} None (Some logon) = there in cc))
      (λ number link bound challenge flags there waits. inl (waited_challenge number link bound challenge flags
      (only_one (same_number number 3) number 3 (record { rest = []; talk = record { joiner = None; phase = phase.Challenged small_bound small_challenge 0 } }) link refl there) waits));
  fails_challenge = λ claim. claim.challenges 0 (record { running = Some (waiting_running 3 small_challenge) }) (waiting_running 3 small_challenge) 3 _ small_bound small_challenge 0 refl refl refl refl;
  fails_elsewhere = λ claim. elim (claim.challenges 0 (record { running = Some (waiting_running 3 small_challenge) }) (waiting_running 3 small_challenge) 3 _ small_bound small_challenge 0 refl refl refl refl) [
    | inl is ↦ absurd (let never : 4 ≡ 3 = is.0 in omega (arith, never))
    | inr none ↦ none
  ];
  fails_sender = λ claim. elim (claim.challenges 0 (record { running = Some (waiting_running 3 small_challenge) }) (waiting_running 3 small_challenge) 3 _ small_bound small_challenge 0 refl refl refl refl) [
    | inl is ↦ absurd (let never : 1 ≡ 0 = is.2 in omega (arith, never))
    | inr none ↦ none
  ];
  fails_other = λ claim. elim (claim.challenges 0 (record { running = Some (waiting_running 3 []) }) (waiting_running 3 []) 3 _ small_bound [] 0 refl refl refl refl) [
    | inl is ↦ absurd (let never : 8 ≡ 0 = ap (λ (c : List ℕ). length c) is.1 in omega (arith, never))
    | inr none ↦ none
  ];
}

of_leaving : OfLeavingOut
of_leaving = record {
  fails_silent = λ answers. elim answers [
    | inl shut ↦ absurd (let never : ◌≡◌ {A = List Action} [] (action.Close 3 shut.0 ∷ []) = shut.1 in cc)
    | inr nak ↦ absurd (let never : ◌≡◌ {A = List Action} [] (action.Send 3 (written (nak_of nak.0)) ∷ []) = nak.1 in cc)
  ];
  fails_two = λ after answers. answers;
  fails_link = λ after answers. absurd (let never : 4 ≡ 3 = answers.1.link in omega (arith, never));
  fails_closed = λ after takes. absurd (let never : ◌≡◌ {A = List MessageTaken} (message_of_link 3 ∷ []) [] = takes.0 in cc);
  fails_waiting = λ after takes. absurd (let never : ◌≡◌ {A = List MessageTaken} [] (takes.0 ∷ []) = takes.1 in cc);
  fails_place = λ after takes. absurd (
      let all : ◌≡◌ {A = List MessageTaken} (message_of_link 3 ∷ []) (takes.0 ∷ []) = takes.1 in
      let same : message_of_link 3 ≡ takes.0 = cc in
      let never : 0 ≡ 1 = ap (λ (m : MessageTaken). m.place) same ∙ takes.2.place_is in
      omega (arith, never));
  fails_drawn = λ draws. absurd (let never : ◌≡◌ {A = List (List ℕ)} (small_challenge ∷ []) [] = draws in cc);
}

of_making : OfMaking
of_making = record {
  meets = (record { plan = refl; server = 0; link = refl }, tt);
  meets_second = (record { plan = refl; server = 0; link = refl }, tt);
  fails_plan = λ claim. absurd (let never : 0 ≡ 2 = ap (λ (p : ClientPlan). p.echo) (some_is _ _ claim.0.plan) in omega (arith, never));
  fails_other = λ claim. absurd (let never : 1 ≡ 0 = ap (λ (p : ClientPlan). p.echo) (some_is _ _ claim.0.plan) in omega (arith, never));
  fails_link = λ claim. absurd (let is : ToMember 0 0 ≡ ToMember 1 claim.0.server = some_is _ _ claim.0.link in let never : ◌≡◌ {A = ℕ} 0 1 = cc in omega (arith, never));
  fails_controller = λ claim. absurd (let is : ToController 0 0 ≡ ToMember 0 claim.0.server = some_is _ _ claim.0.link in cc);
  fails_unmade = λ claim. absurd (no_some _ claim.0.link);
}

kept_on : (client : ℕ) (c : ClientState) (running : ClientRunning) (link : LinkState ClientTalk) (terms : Terms) (question : Question) → slice_get (kept_client ∷ []) client ≡ Some c →
    c.running ≡ Some running → running.standing ≡ client_link.On link → link.talk.phase ≡ client_phase.Asked terms question →
    OneOf (IsMadeOn client link.talk.link terms.key) (made_keeping (1 ∷ []) ∷ [])
kept_on zero c running link terms question at runs stands asked =
    let here : kept_client ≡ c = some_is kept_client c at in
    let its : kept_running ≡ running = some_is kept_running running (ap (λ (x : ClientState). x.running) here ∙ runs) in
    let on : client_link.On kept_link ≡ client_link.On link = ap (λ (x : ClientRunning). x.standing) its ∙ stands in
    let same : kept_link ≡ link = cc in
    let phase : client_phase.Asked kept_terms Who ≡ client_phase.Asked terms question = ap (λ (x : LinkState ClientTalk). x.talk.phase) same ∙ asked in
    let key : kept_terms ≡ terms = cc in
    inl (refl, ap (λ (x : Terms). x.key) key, ap (λ (x : LinkState ClientTalk). x.talk.link) same)
kept_on (suc k) c running link terms question at runs stands asked = absurd (got_nothing k c at)

kept_out : (client : ℕ) (c : ClientState) (name key : List ℕ) (echoed : ℕ) (made : List MessageMade) → slice_get (kept_client ∷ []) client ≡ Some c → c.outcome ≡ Some (client_outcome.In name key echoed) →
    OneOf (IsMadeWith client key) made
kept_out zero c name key echoed made at is = absurd (no_some (client_outcome.In name key echoed) (ap (λ (x : ClientState). x.outcome) (some_is kept_client c at) ∙ is))
kept_out (suc k) c name key echoed made at is = absurd (got_nothing k c at)

in_on : (client : ℕ) (c : ClientState) (running : ClientRunning) (link : LinkState ClientTalk) (made : List MessageMade) → slice_get (in_client ∷ []) client ≡ Some c → c.running ≡ Some running →
    running.standing ≡ client_link.On link → (key : List ℕ) → OneOf (IsMadeOn client link.talk.link key) made
in_on zero c running link made at runs stands key =
    let its : record { task = client_plan; standing = client_link.Idle } ≡ running = some_is _ running (ap (λ (x : ClientState). x.running) (some_is in_client c at) ∙ runs) in
    absurd (let never : client_link.Idle ≡ client_link.On link = ap (λ (x : ClientRunning). x.standing) its ∙ stands in cc)
in_on (suc k) c running link made at runs stands key = absurd (got_nothing k c at)

in_out : (client : ℕ) (c : ClientState) (name key : List ℕ) (echoed link : ℕ) → slice_get (in_client ∷ []) client ≡ Some c → c.outcome ≡ Some (client_outcome.In name key echoed) →
    OneOf (IsMadeWith client key) (record (made_keeping (1 ∷ [])) { link = link } ∷ [])
in_out zero c name key echoed link at is =
    let both : Some (client_outcome.In [] (1 ∷ []) 0) ≡ Some (client_outcome.In name key echoed) = ap (λ (x : ClientState). x.outcome) (some_is in_client c at) ∙ is in
    let same : 1 ∷ [] ≡ key = cc in
    inl (refl, same)
in_out (suc k) c name key echoed link at is = absurd (got_nothing k c at)

of_keeping : OfKeeping
of_keeping = record {
  meets = record { keys = kept_on; outcomes = λ client c name key echoed at is. kept_out client c name key echoed (made_keeping (1 ∷ []) ∷ []) at is };
  fails = λ claim. claim.keys 0 kept_client kept_running kept_link kept_terms Who refl refl refl refl;
  fails_key = λ claim. elim (claim.keys 0 kept_client kept_running kept_link kept_terms Who refl refl refl refl) [
    | inl is ↦ absurd (let never : 2 ≡ 1 = ap (λ (k : List ℕ). length k) is.1 in omega (arith, never))
    | inr none ↦ none
  ];
  fails_link = λ claim. elim (claim.keys 0 kept_client kept_running kept_link kept_terms Who refl refl refl refl) [
    | inl is ↦ absurd (let never : 4 ≡ 3 = is.2 in omega (arith, never))
    | inr none ↦ none
  ];
  fails_client = λ claim. elim (claim.keys 0 kept_client kept_running kept_link kept_terms Who refl refl refl refl) [
    | inl is ↦ absurd (let never : 1 ≡ 0 = is.0 in omega (arith, never))
    | inr none ↦ none
  ];
  meets_in = record {
    keys = λ client c running link terms question at runs stands asked. in_on client c running link (record (made_keeping (1 ∷ [])) { link = 4 } ∷ []) at runs stands terms.key;
    outcomes = λ client c name key echoed at is. in_out client c name key echoed 4 at is;
  };
  fails_in = λ claim. claim.outcomes 0 in_client [] (1 ∷ []) 0 refl refl;
  fails_in_key = λ claim. elim (claim.outcomes 0 in_client [] (1 ∷ []) 0 refl refl) [
    | inl is ↦ absurd (let never : 2 ≡ 1 = ap (λ (k : List ℕ). length k) is.1 in omega (arith, never))
    | inr none ↦ none
  ];
  fails_in_client = λ claim. elim (claim.outcomes 0 in_client [] (1 ∷ []) 0 refl refl) [
    | inl is ↦ absurd (let never : 1 ≡ 0 = is.0 in omega (arith, never))
    | inr none ↦ none
  ];
}

-- another controller told nothing
calls_so : TellsOfForwards (told_so (telling (judged.Barred ∷ [])))
calls_so zero = omega arith
calls_so (suc k) = omega arith

meets_so : TellsOfForwards (told_so (telling (judged.Answered 0 ∷ judged.Passed 0 ∷ judged.Forwarded ∷ [])))
meets_so zero = omega arith
meets_so (suc k) = omega arith

none_counted : (is_its : Bool) → counts_by is_its 0 ≡ 0
none_counted true = refl
none_counted false = refl

waits_so : TellsOfForwards (run_in (record small_world { state = waiting_state }) (record blank { judgements = telling (judged.Forwarded ∷ []) }))
waits_so zero = omega arith
waits_so (suc k) = omega (arith, none_counted (0 == suc k))

forgotten_so : TellsOfForwards (told_so (telling (judged.Forwarded ∷ [])))
forgotten_so zero = omega arith
forgotten_so (suc k) = omega (arith, none_counted (0 == suc k))

of_telling : OfTelling
of_telling = record {
  calls = calls_so;
  meets = meets_so;
  waits = waits_so;
  forgotten = forgotten_so;
  fails = λ claim. absurd (let never : 1 ≤ 0 = claim 0 in omega (arith, never));
  fails_twice = λ claim. absurd (let never : 2 ≤ 1 = claim 0 in omega (arith, never));
  fails_elsewhere = λ claim. absurd (let never : 1 ≤ 0 = claim 0 in omega (arith, never));
  fails_waiting = λ claim. absurd (let never : 2 ≤ 1 = claim 0 in omega (arith, never));
  fails_untold = λ claim. absurd (let never : 1 ≤ 0 = claim 0 in omega (arith, never));
}

-- ---- the accounts of controllers

-- the plan has one table
one_planned : (controller : ℕ) (planned : AccountTable) → slice_get small_plan.tables controller ≡ Some planned → planned ≡ small_table
one_planned zero planned is = cc
one_planned (suc k) planned is = absurd (let never : ◌≡◌ {A = Option AccountTable} None (Some planned) = is in cc)

first_controller : (controller : ℕ) (c : ControllerState) → slice_get small_world.state.ends.controllers controller ≡ Some c → (controller ≡ 0) × (c.table ≡ small_table)
first_controller zero c is =
    let same : first_state small_table (codes "PDC") ≡ c = cc in (refl, sym (ap (λ (x : ControllerState). x.table) same))
first_controller (suc k) c is = absurd (let never : ◌≡◌ {A = Option ControllerState} None (Some c) = is in cc)

abbrev first_count : List Account → ℕ
first_count [] = 0
first_count (account ∷ accounts) = account.bad_count

-- the accounts of `locking_table` aren't those of `small_table`
others_differ : locking_table ≡ small_table → ⊥
others_differ is = absurd (let never : 5 ≡ 0 = ap (λ (t : AccountTable). first_count t.accounts) is in omega (arith, never))

of_tables : OfTables
of_tables = record {
  meets = record {
    judged = (λ planned is. refl, (λ planned is. sym (one_planned 0 planned is), tt));
    stands = λ controller c at planned is.
        let first = first_controller controller c at in
        first.1 ∙ subst (λ (k : ℕ). small_table ≡ accounts_after planned k (judged_by small_table ∷ judged_by small_table ∷ [])) (sym first.0) refl;
  };
  fails = λ claim. others_differ (claim.judged.0 small_table refl);
  fails_second = λ claim. others_differ (claim.judged.0 small_table refl);
  fails_standing = λ claim. others_differ (claim.stands 0 (first_state locking_table (codes "PDC")) refl small_table refl);
}

-- ---- schedules

of_schedules : OfSchedules
of_schedules = record {
  meets = record {
    start = lost_schedule.start;
    forms = lost_schedule.forms;
    few = omega arith;
    each = All-from_recursion IsMove each_move (tt, (tt, (tt, (tt, (tt, (tt, (omega arith, (tt, (tt, (tt, (tt, tt)))))))))));
    move_forms = All-from_recursion HasMoveForm each_move
        (omega arith, (omega arith, (tt, (tt, (tt, ((omega arith, omega arith), ((omega arith, All-from_recursion IsByte (5 ∷ []) (omega arith, tt)), (tt, (omega arith, (omega arith, (omega arith, tt)))))))))));
  };
}

pub near_misses : NearMissesTellApart
near_misses = record {
  clear = of_clear;
  only = of_only;
  all = of_all;
  answers = record { none = refl };
  short = of_short;
  keys = of_keys;
  counts = of_counts;
  units = of_units;
  handing_on = of_handing_on;
  whole = of_whole;
  marks = of_marks;
  asking = of_asking;
  written = of_written;
  leaving = of_leaving;
  made = of_making;
  keeping = of_keeping;
  seeing = record { sees = refl; none = refl };
  telling = of_telling;
  tables = of_tables;
  schedules = of_schedules;
}
