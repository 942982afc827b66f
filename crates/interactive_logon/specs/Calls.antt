-- An interactive logon and its logoff in a stub, parameter by parameter (MS-NRPC 3.5.4.5.3, 3.5.4.5.4; C706 14.3).
-- Padding, nonzero referents and maximum lengths are free, and so is what follows the last parameter. A hash has 16
-- bytes.
use Rattle.std.specs.Prelude.{ℕ, ◌≡◌, ◌⊎◌, ◌==◌, ◌&&◌, ◌||◌, Bool, true, false, List, Result, Err}
use Rattle.ndr_codec.specs.Stub.{Begins, parsed_by}
use Rattle.ndr_codec.specs.Layout.{short, long, raw}
use Rattle.ndr_codec.specs.Parts.{unique, unique_text, some_pointer, halves, head, units}
use Rattle.logon_stubs.specs.declared.refused.StubRefused.{StubRefused}
use Rattle.logon_stubs.specs.declared.refused.StubRefused.TheVariants.{NoSuchCall, BadArm}
use Rattle.logon_stubs.specs.Refusals.{stub_refused}
use Rattle.logon_stubs.specs.Layout.{Layout, item, part, done, only, ◌>>=◌}
use Rattle.logon_stubs.specs.Structures.{authenticator}
use Rattle.interactive_logon.specs.declared.calls.InteractiveInfo.{InteractiveInfo}
use Rattle.interactive_logon.specs.declared.calls.InteractiveCall.{InteractiveCall}

-- ---- NETLOGON_INTERACTIVE_INFO, with its NETLOGON_LOGON_IDENTITY_INFO in front (MS-NRPC 2.2.1.4.3, 2.2.1.4.15)

-- the structure, and then the targets in the order of their pointers (C706 14.3.12.3); a hash is two blocks of 8 bytes,
-- without alignment (LM_OWF_PASSWORD and NT_OWF_PASSWORD, MS-NRPC 2.2.1.1.3, 2.2.1.1.4)
unfoldable pub interactive_info : Layout InteractiveInfo
interactive_info = do
  domain_head ← part (head 2)
  control ← item long
  logon_id ← part halves
  user_head ← part (head 2)
  workstation_head ← part (head 2)
  lm ← item (raw 16)
  nt ← item (raw 16)
  domain ← part (units domain_head)
  user ← part (units user_head)
  workstation ← part (units workstation_head)
  done (record { domain = domain; control = control; logon_id = logon_id; user = user; workstation = workstation; lm = lm; nt = nt })

-- ---- the calls

-- level 1, the interactive logon; the union's tag is the level again (NETLOGON_LOGON_INFO_CLASS, MS-NRPC 2.2.1.4.16;
-- C706 14.3.8)
abbrev pub is_interactive_arm : ℕ → ℕ → Bool
is_interactive_arm level tag = tag == level && tag == 1

-- the arm is a pointer that isn't null, and then its target (NETLOGON_LEVEL, MS-NRPC 2.2.1.4.6)
unfoldable pub info_arm : Layout InteractiveInfo
info_arm = do
  there ← part some_pointer
  interactive_info

unfoldable pub leveled_info : Layout InteractiveInfo
leveled_info = do
  level ← item short
  tag ← item short
  only (is_interactive_arm level tag) (BadArm tag) info_arm

-- a logon asks for a validation level, and a logoff for none
abbrev pub validation_asked : Bool → Layout ℕ
validation_asked true = item short
validation_asked false = done 0

unfoldable pub interactive_call : (is_logon : Bool) → Layout InteractiveCall
interactive_call is_logon = do
  server ← part unique_text
  computer ← part unique_text
  presented ← unique authenticator
  returned ← unique authenticator
  info ← leveled_info
  validation ← validation_asked is_logon
  done (record { server = server; computer = computer; authenticator = presented; returned = returned; info = info; validation = validation })

-- ---- whole stubs

-- NetrLogonSamLogon is opnum 2, and NetrLogonSamLogoff 3 (MS-NRPC 3.5.4)
abbrev pub is_logon : ℕ → Bool
is_logon opnum = opnum == 2

abbrev pub IsOpnum : ℕ → Type 0
IsOpnum opnum = (opnum ≡ 2) ⊎ (opnum ≡ 3)

-- the stub of the call of that number has these parameters
unfoldable pub IsInteractive : ℕ → List ℕ → InteractiveCall → Type 0
IsInteractive opnum stub value = IsOpnum opnum × Begins (interactive_call (is_logon opnum)) value stub

abbrev pub interactive_by : (is_one_of_both : Bool) → ℕ → List ℕ → Result InteractiveCall StubRefused
interactive_by false opnum stub = Err (NoSuchCall opnum)
interactive_by true opnum stub = parsed_by stub_refused (λ value. value) (interactive_call (is_logon opnum)) stub

-- the parameters of the call, or the first refusal: another number before all else, and then in the order of the
-- parameters
unfoldable pub interactive_of : ℕ → List ℕ → Result InteractiveCall StubRefused
interactive_of opnum stub = interactive_by (opnum == 2 || opnum == 3) opnum stub
