-- The keys of the example's logon, computed step by step: the session base key of ann's response, and the first byte of
-- RC4 under the key of the member's channel. They differ in their first byte, so the base key doesn't travel as zeros.
-- It serves `ann_can_succeed`.
use Rattle.std.proofs.Common.{◌≡◌, ℕ, ◌+◌, Bool, false, List, [], ◌∷◌, ◌++◌, length, refl, sym, ap, ap₂, ◌∙◌, bit_xor, arith}
use Rattle.std.specs.Prelude.{◌==◌, codes, replicate, slice_index}
use Rattle.std.specs.Int.{w64, to_le_bytes}
use Rattle.std.proofs.Math.Bool.{xor}
use Rattle.md5.specs.Md5.{block_words, compress, digest_bytes, hash_after, md5}
use Rattle.md5.specs.Md5 as digest
use Rattle.rand_chacha.specs.Block.{block_word, column_round, diagonal_round, double_rounds, quarter_round}
use Rattle.rand_core.specs.Steps.{u32_at}
use Rattle.wire_base.specs.Names.{upper_of}
use Rattle.wire_base.specs.Units.{utf16_of}
use Rattle.des_cipher.specs.Bits.{bits_of, bytes_of, combined, number_bits, number_of, permuted}
use Rattle.des_cipher.specs.Cipher.{box_place, cipher, mixed, rounds, substituted, substitutions}
use Rattle.des_cipher.specs.Des.{des_of, spread_of}
use Rattle.des_cipher.specs.Schedule.{round_keys, round_keys_from}
use Rattle.digest_parts.specs.Hmac.{hmac_of, key_block, padded_key, shortened}
use Rattle.rc4_stream.specs.Rc4.{applied, key_byte, shuffled, state_after}
use Rattle.channel_keys.specs.Credentials.{cred_of}
use Rattle.channel_keys.specs.SessionKeys.{strong_key_of}
use Rattle.authenticators.specs.SecureChannels.{key_of_channel}
use Rattle.outside.specs.Counter.{challenge_of, maker_key_of}
use Rattle.ntlm_messages.specs.Pairs.{written_pairs}
use Rattle.ntlm_responses.specs.Hashes.{key_v2_of}
use Rattle.ntlm_responses.specs.Responses.{proof_of, response_v2_of, temp_of}
use Rattle.ntlm_responses.specs.Verification.{base_key_by, base_key_of}
use Rattle.logon_client.specs.Answering.{pairs_sent}
use Rattle.member_server.specs.Secrets.{tried_of}
use Rattle.logon_steps.specs.Calling.{TravelsAsZeros}
use Rattle.logon_steps.specs.Granting.{base_key}
use Rattle.logon_steps.specs.Meeting.{info_for}
use Rattle.logon_runs.specs.FirstLogon.ExampleLogon.{ann_plan, ann_task, file1_plan}
use Rattle.logon_runs.specs.FirstLogon.FirstWorlds.{draw, first_asked, first_channel, first_meeting}
use Rattle.logon_runs.specs.Scenes.LinkScenes.{joined}
use Rattle.logon_runs.specs.Runs.{message_for}
use Rattle.logon_runs.proofs.FirstLogon.ExampleLogonLaws.{ann_can}

-- ---- what is drawn

abbrev pub maker_key : List ℕ
maker_key = 0x76 ∷ 0xB8 ∷ 0xE0 ∷ 0xAD ∷ 0xA0 ∷ 0xF1 ∷ 0x3D ∷ 0x90 ∷ 0x40 ∷ 0x5D ∷ 0x6A ∷ 0xE5 ∷ 0x53 ∷ 0x86 ∷ 0xBD ∷ 0x28 ∷ []

-- the challenge of the member's CHALLENGE, the client's, both halves of the exported key, and those of the channel
abbrev of_member : List ℕ
of_member = 0x01 ∷ 0x68 ∷ 0x07 ∷ 0xCB ∷ 0x35 ∷ 0x3B ∷ 0xFF ∷ 0x03 ∷ []

abbrev of_client : List ℕ
of_client = 0x54 ∷ 0x5C ∷ 0x2B ∷ 0xBD ∷ 0xD3 ∷ 0xAD ∷ 0x3E ∷ 0x01 ∷ []

abbrev first_half : List ℕ
first_half = 0x7C ∷ 0x06 ∷ 0x50 ∷ 0xAA ∷ 0xB0 ∷ 0x24 ∷ 0xBD ∷ 0x75 ∷ []

abbrev second_half : List ℕ
second_half = 0x84 ∷ 0x93 ∷ 0x86 ∷ 0x7B ∷ 0xC5 ∷ 0x0A ∷ 0xE4 ∷ 0xA8 ∷ []

abbrev of_computer : List ℕ
of_computer = 0x4C ∷ 0x26 ∷ 0x3B ∷ 0xEC ∷ 0x95 ∷ 0x7D ∷ 0x39 ∷ 0x31 ∷ []

abbrev of_controller : List ℕ
of_controller = 0x75 ∷ 0x11 ∷ 0x96 ∷ 0x93 ∷ 0x2F ∷ 0xFF ∷ 0x64 ∷ 0xEE ∷ []

pub maker_key_so : maker_key_of ann_plan.seed ≡ maker_key
unfolding maker_key_of block_word double_rounds diagonal_round column_round quarter_round u32_at
maker_key_so = refl

first_cred : cred_of maker_key (0 ∷ replicate 7 0) ≡ of_member
unfolding cred_of des_of spread_of permuted combined number_bits number_of bits_of bytes_of box_place substituted substitutions mixed rounds cipher round_keys round_keys_from xor
first_cred = refl

second_cred : cred_of maker_key (1 ∷ replicate 7 0) ≡ of_client
unfolding cred_of des_of spread_of permuted combined number_bits number_of bits_of bytes_of box_place substituted substitutions mixed rounds cipher round_keys round_keys_from xor
second_cred = refl

third_cred : cred_of maker_key (2 ∷ replicate 7 0) ≡ first_half
unfolding cred_of des_of spread_of permuted combined number_bits number_of bits_of bytes_of box_place substituted substitutions mixed rounds cipher round_keys round_keys_from xor
third_cred = refl

fourth_cred : cred_of maker_key (3 ∷ replicate 7 0) ≡ second_half
unfolding cred_of des_of spread_of permuted combined number_bits number_of bits_of bytes_of box_place substituted substitutions mixed rounds cipher round_keys round_keys_from xor
fourth_cred = refl

fifth_cred : cred_of maker_key (4 ∷ replicate 7 0) ≡ of_computer
unfolding cred_of des_of spread_of permuted combined number_bits number_of bits_of bytes_of box_place substituted substitutions mixed rounds cipher round_keys round_keys_from xor
fifth_cred = refl

sixth_cred : cred_of maker_key (5 ∷ replicate 7 0) ≡ of_controller
unfolding cred_of des_of spread_of permuted combined number_bits number_of bits_of bytes_of box_place substituted substitutions mixed rounds cipher round_keys round_keys_from xor
sixth_cred = refl

drawn_so : (count : ℕ) (challenge : List ℕ) → cred_of maker_key (to_le_bytes w64 (0 + count)) ≡ challenge → draw ann_plan count ≡ challenge
unfolding challenge_of
drawn_so count challenge is = ap (λ (key : List ℕ). cred_of key (to_le_bytes w64 (0 + count))) maker_key_so ∙ is

-- all six, in order
abbrev pub ann_draws : List (List ℕ)
ann_draws = of_member ∷ of_client ∷ first_half ∷ second_half ∷ of_computer ∷ of_controller ∷ []

pub drawn_first : (left : List (List ℕ)) →
    draw ann_plan 0 ∷ draw ann_plan 1 ∷ draw ann_plan 2 ∷ draw ann_plan 3 ∷ draw ann_plan 4 ∷ draw ann_plan 5 ∷ left ≡ ann_draws ++ left
drawn_first left =
    ap₂ (λ (one other : List ℕ). one ∷ other ∷ draw ann_plan 2 ∷ draw ann_plan 3 ∷ draw ann_plan 4 ∷ draw ann_plan 5 ∷ left) (drawn_so 0 of_member first_cred) (drawn_so 1 of_client second_cred)
    ∙ ap₂ (λ (one other : List ℕ). of_member ∷ of_client ∷ one ∷ other ∷ draw ann_plan 4 ∷ draw ann_plan 5 ∷ left) (drawn_so 2 first_half third_cred) (drawn_so 3 second_half fourth_cred)
    ∙ ap₂ (λ (one other : List ℕ). of_member ∷ of_client ∷ first_half ∷ second_half ∷ one ∷ other ∷ left) (drawn_so 4 of_computer fifth_cred) (drawn_so 5 of_controller sixth_cred)

-- ---- the key of the channel

abbrev both_digest : List ℕ
both_digest = 0xA9 ∷ 0xEE ∷ 0xF7 ∷ 0x7C ∷ 0x27 ∷ 0x66 ∷ 0xF3 ∷ 0x06 ∷ 0x48 ∷ 0x97 ∷ 0x67 ∷ 0xC7 ∷ 0x97 ∷ 0x23 ∷ 0x39 ∷ 0x8B ∷ []

abbrev channel_key : List ℕ
channel_key = 0x4F ∷ 0xB0 ∷ 0xF1 ∷ 0x83 ∷ 0xDE ∷ 0xC1 ∷ 0xA6 ∷ 0xC5 ∷ 0x99 ∷ 0x5E ∷ 0xFA ∷ 0x45 ∷ 0xEC ∷ 0x96 ∷ 0xD6 ∷ 0x49 ∷ []

both_digest_so : md5 (replicate 4 0 ++ of_computer ++ of_controller) ≡ both_digest
unfolding md5 digest_bytes hash_after compress block_words digest.rounds
both_digest_so = refl

under_secret : hmac_of (tried_of file1_plan.secrets) both_digest ≡ channel_key
unfolding hmac_of padded_key key_block shortened md5 digest_bytes hash_after compress block_words digest.rounds
under_secret = refl

channel_key_so : strong_key_of (tried_of file1_plan.secrets) of_computer of_controller ≡ channel_key
unfolding strong_key_of
channel_key_so = ap (λ (challenges : List ℕ). hmac_of (tried_of file1_plan.secrets) challenges) both_digest_so ∙ under_secret

open_key_so : key_of_channel (first_channel ann_plan 0 0 0 ann_can) ≡ channel_key
open_key_so =
    ap₂ (λ (client server : List ℕ). strong_key_of (tried_of file1_plan.secrets) client server) (drawn_so 4 of_computer fifth_cred) (drawn_so 5 of_controller sixth_cred) ∙ channel_key_so

key_byte_so : key_byte channel_key 0 ≡ 0x6F
unfolding key_byte state_after shuffled
key_byte_so = refl

-- ---- the session base key

abbrev key_v2 : List ℕ
key_v2 = 0x44 ∷ 0x66 ∷ 0xD3 ∷ 0xEA ∷ 0x26 ∷ 0x3A ∷ 0xB6 ∷ 0x54 ∷ 0xC4 ∷ 0x8D ∷ 0x07 ∷ 0xF5 ∷ 0x2D ∷ 0x18 ∷ 0xE4 ∷ 0x86 ∷ []

abbrev proof_bytes : List ℕ
proof_bytes = 0xF1 ∷ 0xBA ∷ 0xB4 ∷ 0xF6 ∷ 0x23 ∷ 0x0D ∷ 0xEF ∷ 0xC4 ∷ 0x39 ∷ 0x0E ∷ 0x11 ∷ 0x2B ∷ 0x21 ∷ 0x91 ∷ 0xF7 ∷ 0x2C ∷ []

abbrev base_bytes : List ℕ
base_bytes = 0x73 ∷ 0x4F ∷ 0xFD ∷ 0x99 ∷ 0xC7 ∷ 0x01 ∷ 0x36 ∷ 0xA5 ∷ 0x69 ∷ 0x38 ∷ 0x0B ∷ 0xFA ∷ 0x03 ∷ 0xEB ∷ 0xEE ∷ 0xF8 ∷ []

-- the target information of the CHALLENGE: the domain's name, the computer's and the end
abbrev target_info : List ℕ
target_info = 2 ∷ 0 ∷ 8 ∷ 0 ∷ utf16_of (codes "CORP") ++ 1 ∷ 0 ∷ 10 ∷ 0 ∷ utf16_of (codes "FILE1") ++ replicate 4 0

info_so : info_for file1_plan ≡ target_info
unfolding written_pairs utf16_of
info_so = refl

info_some : (length target_info == 0) ≡ false
unfolding utf16_of
info_some = refl

key_v2_so : key_v2_of ann_task.hash ann_task.user ann_task.domain ≡ key_v2
unfolding key_v2_of utf16_of upper_of hmac_of padded_key key_block shortened md5 digest_bytes hash_after compress block_words digest.rounds
key_v2_so = refl

proof_bytes_so : hmac_of key_v2 (of_member ++ temp_of 0 of_client target_info) ≡ proof_bytes
unfolding temp_of utf16_of hmac_of padded_key key_block shortened md5 digest_bytes hash_after compress block_words digest.rounds
proof_bytes_so = refl

base_bytes_so : hmac_of key_v2 proof_bytes ≡ base_bytes
unfolding hmac_of padded_key key_block shortened md5 digest_bytes hash_after compress block_words digest.rounds
base_bytes_so = refl

response_so : response_v2_of ann_task.hash ann_task.user ann_task.domain of_member 0 of_client target_info ≡ proof_bytes ++ temp_of 0 of_client target_info
unfolding response_v2_of proof_of
response_so =
    ap (λ (proof : List ℕ). proof ++ temp_of 0 of_client target_info)
    (ap (λ (key : List ℕ). hmac_of key (of_member ++ temp_of 0 of_client target_info)) key_v2_so ∙ proof_bytes_so)

is_long : (length (proof_bytes ++ temp_of 0 of_client target_info) == 24) ≡ false
unfolding temp_of utf16_of
is_long = refl

base_of_response : base_key_of ann_task.hash ann_task.user ann_task.domain (proof_bytes ++ temp_of 0 of_client target_info) ≡ base_bytes
unfolding base_key_of
base_of_response =
    ap (λ (short : Bool). base_key_by short ann_task.hash ann_task.user ann_task.domain (proof_bytes ++ temp_of 0 of_client target_info)) is_long
    ∙ ap (λ (key : List ℕ). hmac_of key proof_bytes) key_v2_so ∙ base_bytes_so

-- by what was drawn
response_by : (challenge client info : List ℕ) → challenge ≡ of_member → client ≡ of_client → info ≡ target_info →
    response_v2_of ann_task.hash ann_task.user ann_task.domain challenge 0 client (pairs_sent (length info == 0) info) ≡ proof_bytes ++ temp_of 0 of_client target_info
response_by challenge client info is_challenge is_client is_info =
    ap₂ (λ (server own : List ℕ). response_v2_of ann_task.hash ann_task.user ann_task.domain server 0 own (pairs_sent (length info == 0) info)) is_challenge is_client
    ∙ ap (λ (pairs : List ℕ). response_v2_of ann_task.hash ann_task.user ann_task.domain of_member 0 of_client (pairs_sent (length pairs == 0) pairs)) is_info
    ∙ ap (λ (none : Bool). response_v2_of ann_task.hash ann_task.user ann_task.domain of_member 0 of_client (pairs_sent none target_info)) info_some ∙ response_so

abbrev pub ann_base_key : List ℕ
ann_base_key = base_key ann_task (message_for (joined (first_meeting ann_plan 0 0 0 ann_can) []) (first_asked ann_plan))

base_key_so : ann_base_key ≡ base_bytes
base_key_so =
    ap (λ (nt : List ℕ). base_key_of ann_task.hash ann_task.user ann_task.domain nt)
    (response_by (draw ann_plan 0) (draw ann_plan 1) (info_for file1_plan) (drawn_so 0 of_member first_cred) (drawn_so 1 of_client second_cred) info_so)
    ∙ base_of_response

-- ---- the first bytes differ

first_byte : slice_index (applied channel_key 0 (replicate 16 0)) 0 ≡ bit_xor 0 (key_byte channel_key 0)
unfolding applied
first_byte = refl

pub ann_key_arrives : TravelsAsZeros (key_of_channel (first_channel ann_plan 0 0 0 ann_can)) ann_base_key → ⊥
ann_key_arrives zeros =
    let both : base_bytes ≡ applied channel_key 0 (replicate 16 0) = sym base_key_so ∙ zeros ∙ ap (λ (key : List ℕ). applied key 0 (replicate 16 0)) open_key_so in
    let one : 0x73 ≡ 0x6F = ap (λ (bytes : List ℕ). slice_index bytes 0) both ∙ first_byte ∙ ap (λ (byte : ℕ). bit_xor 0 byte) key_byte_so in
    absurd (omega (arith, one))
