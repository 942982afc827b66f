-- The keys of the example's logon, of all that is written down of its run. The client made its message for the
-- CHALLENGE that the member sent, by the hash that is stored. The key with which the member lets in is the client's.
-- It serves `ann_is_accepted`.
use Rattle.std.proofs.Common.{◌≡◌, ℕ, ◌&&◌, ◌||◌, Bool, true, false, not, List, [], ◌∷◌, ◌++◌, Option, Some, None, inl, inr, refl, sym, ap, ◌∙◌, bytes_eq}
use Rattle.std.specs.Prelude.{◌==◌}
use Rattle.std.proofs.lemmas.Bool.{and_parts}
use Rattle.std.proofs.lemmas.Bool.Decides.{Decides-eqb}
use Rattle.std.proofs.lemmas.Slice.Eq.{bytes_eq-Decides}
use Rattle.std.proofs.Math.Bool.{xor}
use Rattle.md5.specs.Md5.{block_words, compress, digest_bytes, hash_after, md5}
use Rattle.md5.specs.Md5 as md5_md5
use Rattle.wire_base.specs.Names.{same_name, upper_of}
use Rattle.wire_base.specs.Numbers.{number_at}
use Rattle.wire_base.specs.Units.{units_of, utf16_of}
use Rattle.des_cipher.specs.Bits.{bits_of, bytes_of, combined, number_bits, number_of, permuted}
use Rattle.des_cipher.specs.Cipher.{box_place, cipher, mixed, substituted, substitutions}
use Rattle.des_cipher.specs.Cipher as des_cipher_cipher
use Rattle.des_cipher.specs.Des.{des_of, spread_of}
use Rattle.des_cipher.specs.Schedule.{round_keys, round_keys_from}
use Rattle.digest_parts.specs.Hmac.{hmac_of, key_block, padded_key, shortened}
use Rattle.rc4_stream.specs.Rc4.{applied, key_byte, shuffled, state_after}
use Rattle.channel_keys.specs.Credentials.{cred_of}
use Rattle.channel_keys.specs.SessionKeys.{strong_key_of}
use Rattle.authenticators.specs.Sequences.{add_to, moved_by}
use Rattle.ntlm_messages.specs.Authenticate.{authenticate_of, authenticate_payload, authenticate_table, written_authenticate}
use Rattle.ntlm_messages.specs.Challenge.{challenge_of, written_challenge}
use Rattle.ntlm_messages.specs.Fields.{field_of, header_of, text_of}
use Rattle.ntlm_messages.specs.Negotiate.{negotiate_of, written_negotiate}
use Rattle.ntlm_messages.specs.Pairs.{pair_of, pairs_of, pairs_within, written_pairs}
use Rattle.ntlm_responses.specs.Hashes.{key_v2_of}
use Rattle.ntlm_responses.specs.Responses.{is_ess_pair, proof_of, response_v2_of, temp_of}
use Rattle.ntlm_responses.specs.Verification.{base_key_of, verifies}
use Rattle.rpc_units.specs.Joining.{cut_of, joined_of}
use Rattle.rpc_units.specs.Layout.{end_in, syntax_at, trailer_of, value_at}
use Rattle.rpc_units.specs.Reading.{body_in, context_in, kind_in, result_in, syntax_in, unit_of}
use Rattle.rpc_units.specs.Stream.{cut_stream, front_of}
use Rattle.rpc_units.specs.Writing.{written, written_address, written_start, zeros}
use Rattle.end_links.specs.Sending.{frames_of}
use Rattle.ndr_codec.specs.Layout.{padding}
use Rattle.ndr_codec.specs.Parts.{bytes, halves, head, put_halves, put_head, put_reserved, reserved, some_pointer, unique, units}
use Rattle.ndr_codec.specs.Reading.{array_of, bytes_in, counted_in, read_byte, read_counted, read_counted_bytes, read_gap, read_number, read_pointer, read_raw, read_sid, read_text, sid_at, text_in}
use Rattle.ndr_codec.specs.Writing.{aligned}
use Rattle.logon_stubs.specs.Calls.{auth_call, auth_reply, call_of, challenge_call, challenge_reply, leveled_info, logoff_call, logoff_reply, logon_call, logon_reply, reply_of, request_arm, validation_arm}
use Rattle.logon_stubs.specs.Structures.{array_count, authenticator, entries_head, entries_pointer, extra_array, extra_entry, extra_sid, extra_target, group, group_array, groups_target, network_info, sam_heads, sam_info, sam_numbers, sam_texts, sam_times}
use Rattle.logon_stubs.specs.Writing.{put_auth_call, put_auth_reply, put_authenticator, put_challenge_call, put_challenge_reply, put_entries_head, put_leveled_info, put_logoff_call, put_logoff_reply, put_logon_call, put_logon_reply, put_network_info, put_sam_info, put_sam_numbers, put_text_heads, put_texts, put_times, written_call, written_reply}
use Rattle.memo_stubs.specs.Memo.{echo_reply, echo_reply_of, echo_request, echo_request_of, put_echo_reply, put_echo_request, put_who_reply, status_zero, who_of, who_reply, written_echo_reply, written_echo_request, written_who_reply}
use Rattle.account_table.specs.Changes.{with_bad_count}
use Rattle.account_table.specs.LookUps.{knows_in, machine_in, place_in, route_in}
use Rattle.sam_logon.specs.Granting.{at_level, sam_info_of}
use Rattle.sam_logon.specs.Verdict.{judgement_of, table_after, verdict_of}
use Rattle.world_moves.specs.Bag.{pieces_of}
use Rattle.logon_runs.specs.FirstLogon.ExampleLogon.{ann_moves, ann_plan}
use Rattle.logon_runs.specs.FirstLogon.FirstWorlds.{left_then}
use Rattle.logon_runs.proofs.FirstLogon.ExampleLogonLaws.{ann_can}
use Rattle.logon_runs.proofs.FirstLogon.FirstWorldLaws.{first_shows}
use Rattle.claim_examples.proofs.Runs.ExampleKeyLaws.{ann_draws, drawn_first}
use Rattle.outside.specs.declared.action.Outcome.{Outcome}
use Rattle.outside.specs.declared.action.Outcome.TheVariants as outcome
use Rattle.wire_base.specs.Lists.{OneOf}
use Rattle.step_notes.specs.Judged.{base_key_asked, passed_channel, stored_hash}
use Rattle.step_notes.specs.Records.{Book, ChallengeSent, Judging, MessageMade, MessageTaken, OutcomeTold, blank}
use Rattle.world_moves.specs.Counting.{is_in}
use Rattle.world_moves.specs.World.{World, first_world}
use Rattle.domain_world.specs.Claims.{HasKey, IsMadeFor, TravelsAsZeros, info_asked, key_bytes, taken_answer}
use Rattle.domain_world.specs.Past.{Past, book, past}
use Rattle.claim_examples.specs.AnnAccepted.{HasKeyed, IsKeyed}

-- the first world of the example, where these challenges are left
abbrev world_with : List (List ℕ) → World
world_with left = record (first_world ann_plan) { state = record (first_world ann_plan).state { chances = record (first_world ann_plan).state.chances { left = left } } }

same_world : world_with (first_world ann_plan).state.chances.left ≡ first_world ann_plan
same_world = refl

-- ---- one of several that passes a test

abbrev any_of : {T : Type 0} → (T → Bool) → List T → Bool
any_of test [] = false
any_of test (first ∷ items) = test first || any_of test items

one_by : {T : Type 0} (P : T → Type 0) (hit : Bool) (more : Bool) (first : T) (items : List T) → (hit || more) ≡ true → (hit ≡ true → P first) → (more ≡ true → OneOf P items) → OneOf P (first ∷ items)
one_by P true more first items is here later = inl (here refl)
one_by P false more first items is here later = inr (later is)

one_of : {T : Type 0} (test : T → Bool) (P : T → Type 0) → ((item : T) → test item ≡ true → P item) → (items : List T) → any_of test items ≡ true → OneOf P items
one_of test P so [] is = absurd (let x = is in cc)
one_of test P so (first ∷ items) is = one_by P (test first) (any_of test items) first items is (so first) (one_of test P so items)

-- ---- the test of a key

abbrev has_key : Outcome → List ℕ → Bool
has_key (outcome.In domain user key) other = bytes_eq key other
has_key (outcome.Out status) other = false
has_key (outcome.NoController cause) other = false

abbrev arrives : Judging → MessageTaken → Bool
arrives j message = not (bytes_eq (base_key_asked j (info_asked message)) (key_bytes (passed_channel j)))

abbrev made_for : Judging → MessageTaken → ChallengeSent → MessageMade → Bool
made_for j message sent made =
    (sent.link == message.link) && (bytes_eq made.challenge sent.bytes && (bytes_eq made.bytes message.bytes && bytes_eq made.plan.hash (stored_hash j (info_asked message))))

-- by the answer that the member took
abbrev by_answer : Option Judging → MessageTaken → ChallengeSent → MessageMade → Bool
by_answer None message sent made = false
by_answer (Some j) message sent made = arrives j message && made_for j message sent made

abbrev is_keyed : List Judging → OutcomeTold → MessageTaken → ChallengeSent → MessageMade → Bool
is_keyed judgings told message sent made =
    is_in told.outcome && ((message.link == told.link) && (has_key told.outcome made.key && by_answer (taken_answer message judgings) message sent made))

abbrev some_keyed : Book → Bool
some_keyed b = any_of (λ told. any_of (λ message. any_of (λ sent. any_of (λ made. is_keyed b.judged told message sent made) b.made) b.challenges) b.messages) b.told

-- ---- what it decides

not_true : (test : Bool) → not test ≡ true → test ≡ true → ⊥
not_true true is also = absurd (let x = is in cc)
not_true false is also = absurd (let x = also in cc)

same : (one other : List ℕ) → bytes_eq one other ≡ true → one ≡ other
same one other is = (bytes_eq-Decides one other).0 is

key_so : (how : Outcome) (key : List ℕ) → has_key how key ≡ true → HasKey how key
key_so (outcome.In domain user own) key is = same own key is
key_so (outcome.Out status) key is = tt
key_so (outcome.NoController cause) key is = tt

arrives_so : (j : Judging) (message : MessageTaken) → arrives j message ≡ true → TravelsAsZeros j (info_asked message) → ⊥
unfolding base_key_of
arrives_so j message is travels =
    not_true (bytes_eq (base_key_asked j (info_asked message)) (key_bytes (passed_channel j))) is
    ((bytes_eq-Decides (base_key_asked j (info_asked message)) (key_bytes (passed_channel j))).1 travels)

made_so : (j : Judging) (message : MessageTaken) (sent : ChallengeSent) (made : MessageMade) → made_for j message sent made ≡ true → IsMadeFor message sent j made
made_so j message sent made is =
    let first = and_parts (sent.link == message.link) _ is in
    let second = and_parts (bytes_eq made.challenge sent.bytes) _ first.1 in
    let third = and_parts (bytes_eq made.bytes message.bytes) _ second.1 in
    record {
      link = (Decides-eqb sent.link message.link).0 first.0;
      challenge = same made.challenge sent.bytes second.0;
      bytes = same made.bytes message.bytes third.0;
      hash = same made.plan.hash (stored_hash j (info_asked message)) third.1;
    }

module _ (run_of : Past) where
  answer_so : (found : Option Judging) (told : OutcomeTold) (message : MessageTaken) (sent : ChallengeSent) (made : MessageMade) → taken_answer message run_of.book.judged ≡ found →
      is_in told.outcome ≡ true → (message.link == told.link) ≡ true → has_key told.outcome made.key ≡ true → by_answer found message sent made ≡ true → IsKeyed run_of told message sent made
  answer_so None told message sent made is let_in link key by = absurd (let x = by in cc)
  answer_so (Some j) told message sent made is let_in link key by =
      let both = and_parts (arrives j message) (made_for j message sent made) by in
      record {
        let_in = let_in;
        link = (Decides-eqb message.link told.link).0 link;
        judging = j;
        answer = is;
        arrives = arrives_so j message both.0;
        made_for = made_so j message sent made both.1;
        key = key_so told.outcome made.key key;
      }

  keyed_so : (told : OutcomeTold) (message : MessageTaken) (sent : ChallengeSent) (made : MessageMade) → is_keyed run_of.book.judged told message sent made ≡ true →
      IsKeyed run_of told message sent made
  keyed_so told message sent made is =
      let first = and_parts (is_in told.outcome) _ is in
      let second = and_parts (message.link == told.link) _ first.1 in
      let third = and_parts (has_key told.outcome made.key) _ second.1 in
      answer_so (taken_answer message run_of.book.judged) told message sent made refl first.0 second.0 third.0 third.1

  some_so : some_keyed run_of.book ≡ true → HasKeyed run_of
  some_so is =
      one_of _ _ (λ told some. one_of _ _ (λ message one. one_of _ _ (λ sent other. one_of _ _ (λ made so. keyed_so told message sent made so) run_of.book.made other)
      run_of.book.challenges one) run_of.book.messages some) run_of.book.told is

-- ---- the run

-- whatever follows the six challenges that are drawn
keyed_with : (left : List (List ℕ)) → some_keyed (book ann_moves (world_with (ann_draws ++ left)) blank) ≡ true
unfolding xor block_words compress digest_bytes hash_after md5 md5_md5.rounds same_name upper_of number_at units_of utf16_of bits_of bytes_of combined number_bits number_of permuted box_place cipher mixed substituted substitutions des_cipher_cipher.rounds des_of spread_of round_keys round_keys_from hmac_of key_block padded_key shortened applied key_byte shuffled state_after cred_of strong_key_of add_to moved_by authenticate_of authenticate_payload authenticate_table written_authenticate challenge_of written_challenge field_of header_of text_of negotiate_of written_negotiate pair_of pairs_of pairs_within written_pairs key_v2_of is_ess_pair proof_of response_v2_of temp_of base_key_of verifies cut_of joined_of end_in syntax_at trailer_of value_at body_in context_in kind_in result_in syntax_in unit_of cut_stream front_of written written_address written_start zeros frames_of padding bytes halves head put_halves put_head put_reserved reserved some_pointer unique units array_of bytes_in counted_in read_byte read_counted read_counted_bytes read_gap read_number read_pointer read_raw read_sid read_text sid_at text_in aligned auth_call auth_reply call_of challenge_call challenge_reply leveled_info logoff_call logoff_reply logon_call logon_reply reply_of request_arm validation_arm array_count authenticator entries_head entries_pointer extra_array extra_entry extra_sid extra_target group group_array groups_target network_info sam_heads sam_info sam_numbers sam_texts sam_times put_auth_call put_auth_reply put_authenticator put_challenge_call put_challenge_reply put_entries_head put_leveled_info put_logoff_call put_logoff_reply put_logon_call put_logon_reply put_network_info put_sam_info put_sam_numbers put_text_heads put_texts put_times written_call written_reply echo_reply echo_reply_of echo_request echo_request_of put_echo_reply put_echo_request put_who_reply status_zero who_of who_reply written_echo_reply written_echo_request written_who_reply with_bad_count knows_in machine_in place_in route_in at_level sam_info_of judgement_of table_after verdict_of pieces_of
keyed_with left = refl

ann_keyed_so : some_keyed (past ann_plan ann_moves).book ≡ true
ann_keyed_so =
    ap (λ (w : World). some_keyed (book ann_moves w blank))
    (sym same_world ∙ ap world_with ((first_shows ann_plan 0 0 0 ann_can).left ∙ drawn_first (left_then ann_plan)))
    ∙ keyed_with (left_then ann_plan)

pub ann_keyed : HasKeyed (past ann_plan ann_moves)
ann_keyed = some_so (past ann_plan ann_moves) ann_keyed_so
