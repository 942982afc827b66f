-- Runs in which FILE1 replaces its secret, computed, by its own call or where a stranger hands one in: the hash that
-- its controller has, what it holds and what it kept, that nothing clashed and whether a stranger set a secret. It
-- serves `a_change_leaves_none_apart` and `a_stranger_parts_them`.
use Rattle.std.proofs.Common.{◌≡◌, ℕ, Bool, true, false, List, [], ◌∷◌, ◌++◌, length, Option, Some, slice_get, refl}
use Rattle.std.proofs.Math.Bool.{xor}
use Rattle.hex.specs.Hex.{decode_pairs, encode_with}
use Rattle.md5.specs.Md5.{block_words, compress, digest_bytes, hash_after, md5}
use Rattle.md5.specs.Md5 as md5_md5
use Rattle.wire_base.specs.Names.{same_name, upper_of}
use Rattle.wire_base.specs.Numbers.{number_at}
use Rattle.wire_base.specs.Units.{units_of, utf16_of}
use Rattle.des_cipher.specs.Bits.{bits_of, bytes_of, combined, number_bits, number_of, permuted}
use Rattle.des_cipher.specs.Cipher.{box_place, cipher, mixed, substituted, substitutions}
use Rattle.des_cipher.specs.Cipher as des_cipher_cipher
use Rattle.des_cipher.specs.Des.{des_back_of, des_of, spread_of}
use Rattle.des_cipher.specs.Schedule.{round_keys, round_keys_from}
use Rattle.digest_parts.specs.Hmac.{hmac_of, key_block, padded_key, shortened}
use Rattle.rc4_stream.specs.Rc4.{applied, key_byte, shuffled, state_after}
use Rattle.channel_keys.specs.Credentials.{cred_of}
use Rattle.channel_keys.specs.SessionKeys.{strong_key_of}
use Rattle.authenticators.specs.Sequences.{add_to, moved_by}
use Rattle.ntlm_messages.specs.Authenticate.{authenticate_of, authenticate_payload, authenticate_table, written_authenticate}
use Rattle.ntlm_messages.specs.Challenge.{challenge_of, written_challenge}
use Rattle.ntlm_messages.specs.Fields.{field_of, header_of, text_of}
use Rattle.ntlm_messages.specs.Negotiate.{negotiate_of, written_negotiate}
use Rattle.ntlm_messages.specs.Pairs.{pair_of, pairs_of, pairs_within, written_pairs}
use Rattle.ntlm_responses.specs.Hashes.{desl_of, lm_key_of}
use Rattle.ntlm_responses.specs.Responses.{is_ess_pair, response_v1_of}
use Rattle.ntlm_responses.specs.Verification.{base_key_of, verifies}
use Rattle.rpc_units.specs.Joining.{cut_of, joined_of}
use Rattle.rpc_units.specs.Layout.{end_in, syntax_at, trailer_of, value_at}
use Rattle.rpc_units.specs.Reading.{body_in, context_in, kind_in, result_in, syntax_in, unit_of}
use Rattle.rpc_units.specs.Stream.{cut_stream, front_of}
use Rattle.rpc_units.specs.Writing.{written, written_address, written_start, zeros}
use Rattle.end_links.specs.Sending.{frames_of}
use Rattle.ndr_codec.specs.Layout.{padding}
use Rattle.ndr_codec.specs.Parts.{bytes, halves, head, put_halves, put_head, put_reserved, reserved, some_pointer, unique, units}
use Rattle.ndr_codec.specs.Reading.{array_of, bytes_in, counted_in, read_byte, read_counted, read_counted_bytes, read_gap, read_number, read_pointer, read_raw, read_sid, read_text, sid_at, text_in}
use Rattle.ndr_codec.specs.Writing.{aligned}
use Rattle.logon_stubs.specs.Calls.{auth_call, auth_reply, call_of, challenge_call, challenge_reply, leveled_info, logoff_call, logoff_reply, logon_call, logon_reply, reply_of, request_arm, validation_arm}
use Rattle.logon_stubs.specs.Structures.{array_count, authenticator, entries_head, entries_pointer, extra_array, extra_entry, extra_sid, extra_target, group, group_array, groups_target, network_info, sam_heads, sam_info, sam_numbers, sam_texts, sam_times}
use Rattle.logon_stubs.specs.Writing.{put_auth_call, put_auth_reply, put_authenticator, put_challenge_call, put_challenge_reply, put_entries_head, put_leveled_info, put_logoff_call, put_logoff_reply, put_logon_call, put_logon_reply, put_network_info, put_sam_info, put_sam_numbers, put_text_heads, put_texts, put_times, written_call, written_reply}
use Rattle.memo_stubs.specs.Memo.{echo_reply, echo_reply_of, echo_request, echo_request_of, put_echo_reply, put_echo_request, put_who_reply, status_zero, who_of, who_reply, written_echo_reply, written_echo_request, written_who_reply}
use Rattle.account_table.specs.Changes.{with_bad_count, with_hash}
use Rattle.account_table.specs.LookUps.{knows_in, machine_in, place_in, route_in}
use Rattle.sam_logon.specs.Granting.{at_level, sam_info_of}
use Rattle.sam_logon.specs.Verdict.{judgement_of, table_after, verdict_of}
use Rattle.world_moves.specs.Bag.{pieces_of}
use Rattle.secret_change.specs.Hiding.{hide_of, show_of}
use Rattle.secret_change.specs.Secrets.{SecretsState, alone, first_line, secrets_of, written_secrets}
use Rattle.secret_change.specs.Calls as set_calls
use Rattle.digest_parts.specs.Md4 as md4
use Rattle.step_notes.specs.Records.{Book, Judging, blank}
use Rattle.world_moves.specs.declared.counting.Report.{Report}
use Rattle.world_moves.specs.declared.moves.Move.{Move}
use Rattle.world_moves.specs.World.{World, first_world, kept_of, outcome_of, report_of, run}
use Rattle.domain_world.specs.Claims.{judged_timestamp}
use Rattle.domain_world.specs.Claims.NeverApart.{has_foreign_set}
use Rattle.domain_world.specs.Past.{book}
use Rattle.claim_examples.specs.ChangeRuns.{begun_moves, changing_plan, echoed_in, hash_in, held_in, in_moves, in_report, learned_moves, lost_moves}
use Rattle.claim_examples.specs.NeverApartExamples.{both_secrets, new_secret, old_secret}
use Rattle.claim_examples.specs.StrangerRuns.{altered_call, altered_hash, bag_bytes, bind_bytes, copied_call, stranger_moves}
use Rattle.claim_examples.proofs.Runs.ChangeDrawLaws.{change_draws}

-- ---- what is looked at

-- the timestamp of the older of two calls
abbrev pub older_timestamp : List Judging → ℕ
older_timestamp (second ∷ first ∷ []) = judged_timestamp first
older_timestamp _ = 0

pub record Seen : Type 0 where
  pub clash : Bool
  pub foreign : Bool
  pub judged : ℕ
  pub older : ℕ
  pub hash : Option (List ℕ)
  pub held : Option SecretsState
  pub kept : Option SecretsState

abbrev pub seen_in : World → Book → Seen
seen_in w b = record {
  clash = b.clash;
  foreign = has_foreign_set b.judged;
  judged = length b.judged;
  older = older_timestamp b.judged;
  hash = hash_in (slice_get w.state.ends.controllers 0);
  held = held_in (slice_get w.state.ends.members 0);
  kept = kept_of w 0;
}

-- nothing clashed; whether a stranger set a secret, and how many calls were judged
abbrev pub calm_with : (foreign : Bool) (judged older : ℕ) → List ℕ → SecretsState → Seen
calm_with foreign judged older at_controller secrets =
    record { clash = false; foreign = foreign; judged = judged; older = older; hash = Some at_controller; held = Some secrets; kept = Some secrets }

-- what was counted too, and what came back to ann
pub record Ended : Type 0 where
  pub seen : Seen
  pub report : Report
  pub echoed : Option ℕ

abbrev pub ended_in : World → Book → Ended
ended_in w b = record { seen = seen_in w b; report = report_of w; echoed = echoed_in (outcome_of w 0) }

-- two units of the bag too
pub record Copied : Type 0 where
  pub seen : Seen
  pub bind : Option (List ℕ)
  pub call : Option (List ℕ)

abbrev pub copied_in : World → Book → Copied
copied_in w b = record { seen = seen_in w b; bind = bag_bytes w 12; call = bag_bytes w 14 }

-- ---- the runs

-- the first world, where these challenges are left
abbrev pub world_with : List (List ℕ) → World
world_with left = let w : World = first_world changing_plan in record w { state = record w.state { chances = record w.state.chances { left = left } } }

abbrev pub look : {T : Type 0} → (World → Book → T) → List Move → World → T
look at moves w = at (run moves w) (book moves w blank)

-- behind these moves, whatever follows the challenges that are drawn
abbrev pub Shows : {T : Type 0} → (World → Book → T) → List Move → T → Type 0
Shows at moves seen = (left : List (List ℕ)) → look at moves (world_with (change_draws ++ left)) ≡ seen

-- The timestamp at the moment 0, which is 11,644,473,600 seconds before 1970: minus as many, modulo 2^32 (MS-NRPC
-- 3.1.4.5).
abbrev pub first_timestamp : ℕ
first_timestamp = 0x49EF6F00

pub record ChangeIsSeen : Type 0 where
  pub begun : Shows seen_in begun_moves (calm_with false 0 0 old_secret both_secrets)
  pub lost : Shows seen_in lost_moves (calm_with false 1 0 new_secret both_secrets)
  pub learned : Shows seen_in learned_moves (calm_with false 1 0 new_secret (alone new_secret))

pub change_is_seen : ChangeIsSeen
unfolding xor block_words compress digest_bytes hash_after md5 md5_md5.rounds same_name upper_of number_at units_of utf16_of bits_of bytes_of combined number_bits number_of permuted box_place cipher mixed substituted substitutions des_cipher_cipher.rounds des_of spread_of round_keys round_keys_from hmac_of key_block padded_key shortened applied key_byte shuffled state_after cred_of strong_key_of add_to moved_by authenticate_of authenticate_payload authenticate_table written_authenticate challenge_of written_challenge field_of header_of text_of negotiate_of written_negotiate pair_of pairs_of pairs_within written_pairs is_ess_pair cut_of joined_of end_in syntax_at trailer_of value_at body_in context_in kind_in result_in syntax_in unit_of cut_stream front_of written written_address written_start zeros frames_of padding bytes halves head put_halves put_head put_reserved reserved some_pointer unique units array_of bytes_in counted_in read_byte read_counted read_counted_bytes read_gap read_number read_pointer read_raw read_text text_in aligned auth_call auth_reply call_of challenge_call challenge_reply reply_of authenticator put_auth_call put_auth_reply put_authenticator put_challenge_call put_challenge_reply written_call written_reply put_who_reply status_zero who_of who_reply written_who_reply knows_in machine_in place_in pieces_of des_back_of response_v1_of desl_of lm_key_of hide_of show_of written_secrets first_line secrets_of with_hash set_calls.authenticator set_calls.set_call set_calls.set_reply set_calls.set_call_of set_calls.set_reply_of set_calls.put_authenticator set_calls.put_set_call set_calls.put_set_reply set_calls.written_set_call set_calls.written_set_reply md4.padded md4.blocks_of md4.rest_of md4.words_of md4.step md4.steps md4.first_round md4.second_round md4.third_round md4.added md4.after_block md4.after_blocks md4.register_bytes md4.md4_of encode_with decode_pairs
change_is_seen = record { begun = λ left. refl; lost = λ left. refl; learned = λ left. refl }

pub copy_is_seen : Shows copied_in (stranger_moves copied_call) (record { seen = calm_with true 1 0 new_secret both_secrets; bind = Some bind_bytes; call = Some copied_call })
unfolding xor block_words compress digest_bytes hash_after md5 md5_md5.rounds same_name upper_of number_at units_of utf16_of bits_of bytes_of combined number_bits number_of permuted box_place cipher mixed substituted substitutions des_cipher_cipher.rounds des_of spread_of round_keys round_keys_from hmac_of key_block padded_key shortened applied key_byte shuffled state_after cred_of strong_key_of add_to moved_by authenticate_of authenticate_payload authenticate_table written_authenticate challenge_of written_challenge field_of header_of text_of negotiate_of written_negotiate pair_of pairs_of pairs_within written_pairs is_ess_pair cut_of joined_of end_in syntax_at trailer_of value_at body_in context_in kind_in result_in syntax_in unit_of cut_stream front_of written written_address written_start zeros frames_of padding bytes halves head put_halves put_head put_reserved reserved some_pointer unique units array_of bytes_in counted_in read_byte read_counted read_counted_bytes read_gap read_number read_pointer read_raw read_text text_in aligned auth_call auth_reply call_of challenge_call challenge_reply reply_of authenticator put_auth_call put_auth_reply put_authenticator put_challenge_call put_challenge_reply written_call written_reply put_who_reply status_zero who_of who_reply written_who_reply knows_in machine_in place_in pieces_of des_back_of response_v1_of desl_of lm_key_of hide_of show_of written_secrets first_line secrets_of with_hash set_calls.authenticator set_calls.set_call set_calls.set_reply set_calls.set_call_of set_calls.set_reply_of set_calls.put_authenticator set_calls.put_set_call set_calls.put_set_reply set_calls.written_set_call set_calls.written_set_reply md4.padded md4.blocks_of md4.rest_of md4.words_of md4.step md4.steps md4.first_round md4.second_round md4.third_round md4.added md4.after_block md4.after_blocks md4.register_bytes md4.md4_of encode_with decode_pairs
copy_is_seen left = refl

pub altered_is_seen : Shows seen_in (stranger_moves altered_call) (calm_with true 1 0 altered_hash both_secrets)
unfolding xor block_words compress digest_bytes hash_after md5 md5_md5.rounds same_name upper_of number_at units_of utf16_of bits_of bytes_of combined number_bits number_of permuted box_place cipher mixed substituted substitutions des_cipher_cipher.rounds des_of spread_of round_keys round_keys_from hmac_of key_block padded_key shortened applied key_byte shuffled state_after cred_of strong_key_of add_to moved_by authenticate_of authenticate_payload authenticate_table written_authenticate challenge_of written_challenge field_of header_of text_of negotiate_of written_negotiate pair_of pairs_of pairs_within written_pairs is_ess_pair cut_of joined_of end_in syntax_at trailer_of value_at body_in context_in kind_in result_in syntax_in unit_of cut_stream front_of written written_address written_start zeros frames_of padding bytes halves head put_halves put_head put_reserved reserved some_pointer unique units array_of bytes_in counted_in read_byte read_counted read_counted_bytes read_gap read_number read_pointer read_raw read_text text_in aligned auth_call auth_reply call_of challenge_call challenge_reply reply_of authenticator put_auth_call put_auth_reply put_authenticator put_challenge_call put_challenge_reply written_call written_reply put_who_reply status_zero who_of who_reply written_who_reply knows_in machine_in place_in pieces_of des_back_of response_v1_of desl_of lm_key_of hide_of show_of written_secrets first_line secrets_of with_hash set_calls.authenticator set_calls.set_call set_calls.set_reply set_calls.set_call_of set_calls.set_reply_of set_calls.put_authenticator set_calls.put_set_call set_calls.put_set_reply set_calls.written_set_call set_calls.written_set_reply md4.padded md4.blocks_of md4.rest_of md4.words_of md4.step md4.steps md4.first_round md4.second_round md4.third_round md4.added md4.after_block md4.after_blocks md4.register_bytes md4.md4_of encode_with decode_pairs
altered_is_seen left = refl

pub end_is_seen : Shows ended_in in_moves (record { seen = calm_with false 2 first_timestamp new_secret (alone new_secret); report = in_report; echoed = Some 16 })
unfolding xor block_words compress digest_bytes hash_after md5 md5_md5.rounds same_name upper_of number_at units_of utf16_of bits_of bytes_of combined number_bits number_of permuted box_place cipher mixed substituted substitutions des_cipher_cipher.rounds des_of spread_of round_keys round_keys_from hmac_of key_block padded_key shortened applied key_byte shuffled state_after cred_of strong_key_of add_to moved_by authenticate_of authenticate_payload authenticate_table written_authenticate challenge_of written_challenge field_of header_of text_of negotiate_of written_negotiate pair_of pairs_of pairs_within written_pairs is_ess_pair cut_of joined_of end_in syntax_at trailer_of value_at body_in context_in kind_in result_in syntax_in unit_of cut_stream front_of written written_address written_start zeros frames_of padding bytes halves head put_halves put_head put_reserved reserved some_pointer unique units array_of bytes_in counted_in read_byte read_counted read_counted_bytes read_gap read_number read_pointer read_raw read_text text_in aligned auth_call auth_reply call_of challenge_call challenge_reply reply_of authenticator put_auth_call put_auth_reply put_authenticator put_challenge_call put_challenge_reply written_call written_reply put_who_reply status_zero who_of who_reply written_who_reply knows_in machine_in place_in pieces_of des_back_of response_v1_of desl_of lm_key_of hide_of show_of written_secrets first_line secrets_of with_hash set_calls.authenticator set_calls.set_call set_calls.set_reply set_calls.set_call_of set_calls.set_reply_of set_calls.put_authenticator set_calls.put_set_call set_calls.put_set_reply set_calls.written_set_call set_calls.written_set_reply md4.padded md4.blocks_of md4.rest_of md4.words_of md4.step md4.steps md4.first_round md4.second_round md4.third_round md4.added md4.after_block md4.after_blocks md4.register_bytes md4.md4_of encode_with decode_pairs base_key_of verifies read_sid sid_at leveled_info logoff_call logoff_reply logon_call logon_reply request_arm validation_arm array_count entries_head entries_pointer extra_array extra_entry extra_sid extra_target group group_array groups_target network_info sam_heads sam_info sam_numbers sam_texts sam_times put_entries_head put_leveled_info put_logoff_call put_logoff_reply put_logon_call put_logon_reply put_network_info put_sam_info put_sam_numbers put_text_heads put_texts put_times echo_reply echo_reply_of echo_request echo_request_of put_echo_reply put_echo_request written_echo_reply written_echo_request with_bad_count route_in at_level sam_info_of judgement_of table_after verdict_of
end_is_seen left = refl
