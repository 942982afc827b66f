-- The command `show`: the fields of an NTLM message as lines of text (this project's own choice).
use Rattle.std.specs.Prelude.{◌≡◌, ◌⊎◌, ℕ, ◌==◌, List, [], ◌∷◌, ◌++◌, Option, Some, None, Result, Ok, Err, codes, if◌then◌else◌}
use Rattle.std.specs.Fmt.{decimal}
use Rattle.std.specs.Int.{w32, to_be_bytes}
use Rattle.std.specs.List.{flat_map}
use Rattle.hex.specs.Hex.{decode_of, encode_lower}
use Rattle.wire_base.specs.Numbers.{u32_of}
use Rattle.ntlm_messages.specs.Authenticate.{authenticate_of, IsAuthenticate}
use Rattle.ntlm_messages.specs.Challenge.{challenge_of, IsChallenge}
use Rattle.ntlm_messages.specs.Negotiate.{negotiate_of, IsNegotiate}
use Rattle.ntlm_messages.specs.Pairs.{pairs_of, IsPairs}
use Rattle.ntlm_messages.specs.declared.messages.Authenticate.{Authenticate}
use Rattle.ntlm_messages.specs.declared.messages.Challenge.{Challenge}
use Rattle.ntlm_messages.specs.declared.messages.Negotiate.{Negotiate}
use Rattle.ntlm_messages.specs.declared.pairs.PairsRefused.{PairsRefused}
use Rattle.nt_top.specs.declared.answer.Answer.{Answer}
use Rattle.nt_top.specs.declared.exit.Exit.{Exit}
use Rattle.nt_top.specs.declared.exit.Exit.TheVariants.{BadInput}
use Rattle.nt_words.specs.declared.job.Role.{Role}
use Rattle.nt_words.specs.declared.job.Role.TheVariants.{Logon}
use Rattle.nt_top.specs.Needs.{needs}

-- the bytes in hex, or a dash where there are none
abbrev pub value_text : List ℕ → List ℕ
value_text [] = codes "-"
value_text (byte ∷ bytes) = encode_lower (byte ∷ bytes)

-- a name, a space, and the value
abbrev pub field_line : List ℕ → List ℕ → List ℕ
field_line name bytes = name ++ codes " " ++ value_text bytes ++ codes "\n"

-- the type of the message, and its flags as 8 hex digits
unfoldable pub head_lines : ℕ → ℕ → List ℕ
head_lines kind flags = codes "type " ++ decimal kind ++ codes "\n" ++ field_line (codes "flags") (to_be_bytes w32 flags)

unfoldable pub negotiate_lines : Negotiate → List ℕ
negotiate_lines message = head_lines 1 message.flags ++ field_line (codes "domain") message.domain ++ field_line (codes "workstation") message.workstation

-- a pair's id in decimal, and its value
unfoldable pub pair_line : ℕ × List ℕ → List ℕ
pair_line pair = field_line (codes "pair " ++ decimal pair.0) pair.1

unfoldable pub challenge_lines : Challenge → List (ℕ × List ℕ) → List ℕ
challenge_lines message pairs = head_lines 2 message.flags ++ field_line (codes "target") message.target ++ field_line (codes "challenge") message.challenge ++ flat_map pair_line pairs

unfoldable pub authenticate_lines : Authenticate → List ℕ
authenticate_lines message =
    head_lines 3 message.flags ++ field_line (codes "lm") message.lm ++ field_line (codes "nt") message.nt ++ field_line (codes "domain") message.domain
    ++ field_line (codes "user") message.user ++ field_line (codes "workstation") message.workstation ++ field_line (codes "key") message.key

-- the target information of a CHALLENGE, which may be empty
abbrev pub info_pairs : List ℕ → Result (List (ℕ × List ℕ)) PairsRefused
info_pairs [] = Ok []
info_pairs (byte ∷ bytes) = pairs_of (byte ∷ bytes)

-- all lines were put
abbrev pub shown : List ℕ → Answer
shown lines = record { refused = None; lines = lines }

unfoldable pub shown_challenge : Challenge → Result (List ℕ) Exit
shown_challenge message = needs 1 (info_pairs message.info) (λ pairs. Ok (challenge_lines message pairs))

-- the lines of a message whose bytes say that type
unfoldable pub lines_by : ℕ → List ℕ → Result (List ℕ) Exit
lines_by kind bytes =
    if kind == 1 then needs 1 (negotiate_of bytes) (λ message. Ok (negotiate_lines message))
    else (if kind == 2 then needs 1 (challenge_of bytes) shown_challenge
    else (if kind == 3 then needs 1 (authenticate_of bytes) (λ message. Ok (authenticate_lines message))
    else Err (BadInput 1)))

-- the lines of a message, by the type that stands behind its signature (MS-NLMP 2.2.1)
abbrev pub lines_from : Option ℕ → List ℕ → Result (List ℕ) Exit
lines_from None bytes = Err (BadInput 1)
lines_from (Some kind) bytes = lines_by kind bytes

abbrev pub shown_lines : Result (List ℕ) Exit → Result Answer Exit
shown_lines (Ok lines) = Ok (shown lines)
shown_lines (Err exit) = Err exit

-- The word is a message in hex.
unfoldable pub show_answer : List ℕ → Result Answer Exit
show_answer text = needs 1 (decode_of text) (λ bytes. shown_lines (lines_from (u32_of bytes 8) bytes))

-- ---- what is shown, in the grammar's own terms

-- A target information is these pairs: it is empty and there are none, or it is their list (MS-NLMP 2.2.2.1).
abbrev pub InfoPairs : List ℕ → List (ℕ × List ℕ) → Type 0
InfoPairs info pairs = ((info ≡ []) × (pairs ≡ [])) ⊎ IsPairs info pairs

-- The bytes are a message of one of the three types, a CHALLENGE's target information being empty or pairs, and these
-- are its lines.
abbrev pub ShowsAs : List ℕ → List ℕ → Type 0
ShowsAs bytes lines =
    ((message : Negotiate) × IsNegotiate bytes message × (lines ≡ negotiate_lines message))
    ⊎ (((message : Challenge) × (pairs : List (ℕ × List ℕ)) × IsChallenge bytes message × InfoPairs message.info pairs × (lines ≡ challenge_lines message pairs))
    ⊎ ((message : Authenticate) × IsAuthenticate bytes message × (lines ≡ authenticate_lines message)))

-- The words ask this program, a logon client, to show these bytes.
pub record AsksShow (role : Role) (words : List (List ℕ)) (bytes : List ℕ) : Type 0 where
  pub logon : role ≡ Logon
  pub text : List ℕ
  pub words_are : words ≡ codes "show" ∷ text ∷ []
  pub bytes_are : decode_of text ≡ Ok bytes

-- Some bytes were asked to be shown, and they are a message with these lines.
pub record AskedShown (role : Role) (words : List (List ℕ)) : Type 0 where
  pub bytes : List ℕ
  pub lines : List ℕ
  pub asks : AsksShow role words bytes
  pub shows : ShowsAs bytes lines
