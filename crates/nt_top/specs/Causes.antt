-- When each exit of a command comes, in the words' own terms (this project's own choice). Words are lists of bytes.
use Rattle.std.specs.Prelude.{◌≡◌, ◌⊎◌, ◌*◌, ℕ, List, [], ◌∷◌, length, Ok, Err, codes}
use Rattle.std.specs.List.{AllPass}
use Rattle.hex.specs.Hex.{decode_of, is_hex_digit}
use Rattle.ntlm_messages.specs.Authenticate.{IsAuthenticate}
use Rattle.ntlm_messages.specs.declared.messages.Authenticate.{Authenticate}
use Rattle.outside.specs.Telling.{Appends}
use Rattle.nt_words.specs.Roles.{job_of}
use Rattle.nt_words.specs.declared.job.Role.{Role}
use Rattle.nt_words.specs.declared.job.Role.TheVariants.{Member, Logon}
use Rattle.nt_words.specs.declared.options.WordsRefused.TheVariants as refusals
use Rattle.nt_top.specs.declared.exit.Exit.{Exit}
use Rattle.nt_top.specs.declared.exit.Exit.TheVariants.{Done, Refused, FileFault, BadTable, PortFault, NoMemory, NoAnswer, BadPeer, Spent}
use Rattle.logon_client.specs.declared.outcome.RefusedCause.{RefusedCause}
use Rattle.logon_client.specs.declared.outcome.RefusedCause.TheVariants.{Response}
use Rattle.nt_top.specs.Check.{AskedAccepted, AskedRefused}
use Rattle.nt_top.specs.Drill.{AskedDrill, drill_text}
use Rattle.nt_top.specs.Ends.{SinkChange}
use Rattle.nt_top.specs.Show.{AskedShown, ShowsAs}

-- the exit is that one, or want of memory
abbrev pub Comes : Exit → Exit → Type 0
Comes due exit = (exit ≡ due) ⊎ (exit ≡ NoMemory)

-- ---- `Done` and `Refused`

-- A check put `accepted` and the response verifies, a show put all the lines of its message, or a drill those of its
-- run.
abbrev pub IsDone : Role → List (List ℕ) → SinkChange → Type 0
IsDone role words s =
    (AskedAccepted role words × Appends s.before s.now (codes "accepted\n"))
    ⊎ (((asked : AskedShown role words) × Appends s.before s.now asked.lines)
    ⊎ ((asked : AskedDrill role words) × Appends s.before s.now (drill_text asked.number asked.count)))

-- A check put `refused`, and the response doesn't verify.
abbrev pub IsRefused : Role → List (List ℕ) → RefusedCause → SinkChange → Type 0
IsRefused role words cause s = (cause ≡ Response) × AskedRefused role words × Appends s.before s.now (codes "refused\n")

-- ---- `BadWords`

-- The words come to that number: they aren't of the form of a command of this program.
abbrev pub IsBadWords : Role → List (List ℕ) → ℕ → Type 0
IsBadWords role words number = job_of role words ≡ Err (refusals.BadWords number)

-- ---- `BadInput`

-- two hex digits in either case for each of that many bytes
abbrev pub IsHexOf : ℕ → List ℕ → Type 0
IsHexOf bytes text = (length text ≡ 2 * bytes) × AllPass is_hex_digit text

-- the text isn't an AUTHENTICATE message in hex
abbrev pub HoldsNoMessage : List ℕ → Type 0
HoldsNoMessage text = (bytes : List ℕ) (message : Authenticate) → decode_of text ≡ Ok bytes → ¬ IsAuthenticate bytes message

-- the text isn't a message in hex that has lines to show
abbrev pub ShowsNothing : List ℕ → Type 0
ShowsNothing text = (bytes lines : List ℕ) → decode_of text ≡ Ok bytes → ¬ ShowsAs bytes lines

-- the word of that number after `check` is the first that isn't of its form
abbrev pub IsBadOfCheck : List ℕ → List ℕ → List ℕ → ℕ → Type 0
IsBadOfCheck hash challenge message number =
    ((number ≡ 1) × ¬ IsHexOf 16 hash)
    ⊎ (((number ≡ 2) × IsHexOf 16 hash × ¬ IsHexOf 8 challenge)
    ⊎ ((number ≡ 3) × IsHexOf 16 hash × IsHexOf 8 challenge × HoldsNoMessage message))

pub record AskedBadCheck (role : Role) (words : List (List ℕ)) (number : ℕ) : Type 0 where
  pub member : role ≡ Member
  pub hash : List ℕ
  pub challenge : List ℕ
  pub message : List ℕ
  pub words_are : words ≡ codes "check" ∷ hash ∷ challenge ∷ message ∷ []
  pub bad : IsBadOfCheck hash challenge message number

pub record AskedBadShow (role : Role) (words : List (List ℕ)) (number : ℕ) : Type 0 where
  pub logon : role ≡ Logon
  pub message : List ℕ
  pub words_are : words ≡ codes "show" ∷ message ∷ []
  pub bad : (number ≡ 1) × ShowsNothing message

-- The word of that number after the command is the first that isn't of its form.
abbrev pub IsBadInput : Role → List (List ℕ) → ℕ → Type 0
IsBadInput role words number = AskedBadCheck role words number ⊎ AskedBadShow role words number

-- ---- exits that no command has which its words alone tell

abbrev pub IsOfTheCommands : Exit → Type 0
IsOfTheCommands FileFault = ⊥
IsOfTheCommands (BadTable cause) = ⊥
IsOfTheCommands PortFault = ⊥
IsOfTheCommands (NoAnswer cause) = ⊥
IsOfTheCommands (BadPeer fault) = ⊥
IsOfTheCommands Spent = ⊥
IsOfTheCommands _ = Unit {0}

-- ---- where words and inputs are of their forms

-- a check of a hash, a challenge and a message, a show of a message, or a drill
abbrev pub IsOfForm : Role → List (List ℕ) → Type 0
IsOfForm role words = (AskedAccepted role words ⊎ AskedRefused role words) ⊎ (AskedShown role words ⊎ AskedDrill role words)

-- a check comes to a verdict, a show and a drill to their end, or memory ran out
abbrev pub IsWorkDone : Role → Exit → Type 0
IsWorkDone role Done = Unit {0}
IsWorkDone Member (Refused cause) = cause ≡ Response
IsWorkDone role NoMemory = Unit {0}
IsWorkDone role _ = ⊥
