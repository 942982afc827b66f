-- The rules by which a controller judges the logon of an account that it found, in their order (this project's own
-- choice; MS-NRPC 3.5.4.5.3 names no order). They are the same for a network logon and for an interactive one, but for
-- what is shown of the password. Moments are in units of 100 ns since 1601, and an account's 0 is none. A hash and a
-- key have 16 bytes.
use Rattle.std.specs.Prelude.{ℕ, ◌+◌, ◌==◌, ◌&&◌, ◌||◌, Bool, true, false, not, min, nat_le, length, List, [], ◌∷◌, ◌++◌, Option, Some, None, Result, Ok, Err, if◌then◌else◌}
use Rattle.std.specs.List.{list_any}
use Rattle.std.specs.Str.{bytes_eq}
use Rattle.wire_base.specs.Names.{same_name}
use Rattle.account_table.specs.LookUps.{is_trust}
use Rattle.account_table.specs.declared.account.Account.{Account}
use Rattle.account_table.specs.declared.account.Policy.{Policy}
use Rattle.account_table.specs.declared.account.Kind.{Kind}
use Rattle.account_table.specs.declared.changes.Change.TheVariants.{Count}
use Rattle.account_table.specs.declared.changes.TableChange.{TableChange}
use Rattle.account_table.specs.declared.account.Kind.TheVariants.{User, Workstation, Backup, Trust}
use Rattle.logon_stubs.specs.declared.info.NetworkInfo.{NetworkInfo}
use Rattle.digest_parts.specs.Md4.{md4_of}
use Rattle.ntlm_responses.specs.Verification.{base_key_of, verifies}
use Rattle.sam_logon.specs.declared.rules.Refusal.{Refusal}
use Rattle.logon_stubs.specs.Status.{wrong_password, invalid_workstation, password_expired, account_disabled, account_expired, nologon_interdomain_trust_account, nologon_workstation_trust_account, nologon_server_trust_account, password_must_change, account_locked_out}

-- ---- what the rules test

abbrev pub is_workstation : Kind → Bool
is_workstation User = false
is_workstation Workstation = true
is_workstation Backup = false
is_workstation Trust = false

abbrev pub is_backup : Kind → Bool
is_backup User = false
is_backup Workstation = false
is_backup Backup = true
is_backup Trust = false

-- a limit is set, and the count of bad passwords has reached it
abbrev pub has_reached : ℕ → ℕ → Bool
has_reached limit count = not (limit == 0) && nat_le limit count

-- the account is locked, or locked out by its bad passwords
abbrev pub is_locked_out : Policy → Account → Bool
is_locked_out policy account = account.locked || has_reached policy.lockout account.bad_count

-- what is shown is an NT response of 24 bytes, where those are refused
abbrev pub is_refused_response : Policy → Bool → Bool
is_refused_response policy short = policy.ntlmv2_only && short

-- the moment is set, and it is now or before
abbrev pub has_come : ℕ → ℕ → Bool
has_come moment now = not (moment == 0) && nat_le moment now

-- the computer is among the workstations
abbrev pub lists : List (List ℕ) → List ℕ → Bool
lists workstations computer = list_any (λ workstation. same_name workstation computer) workstations

-- a logon from the computer is allowed: from any, where no workstation is listed
abbrev pub allows : List (List ℕ) → List ℕ → Bool
allows workstations computer = (length workstations == 0) || lists workstations computer

-- ---- what a logon shows of an account's password, by the account's NT hash

pub record Shown : Type 0 where
  -- what is shown is an NT response of 24 bytes, as NTLMv1's (MS-NLMP 3.3.1)
  pub short : Bool
  -- what is shown is that of the hash
  pub right : List ℕ → Bool
  -- the session base key that it gives under the hash, where it is right
  pub key : List ℕ → List ℕ

-- a network logon shows a response to a challenge
abbrev pub shown_by_response : NetworkInfo → Shown
shown_by_response info = record {
  short = length info.nt == 24;
  right = λ hash. verifies hash info.user info.domain info.challenge info.nt;
  key = λ hash. base_key_of hash info.user info.domain info.nt;
}

-- an interactive logon shows the NT hash itself, and its key is that of a response of 24 bytes (MS-NLMP 3.3.1)
abbrev pub shown_by_hash : List ℕ → Shown
shown_by_hash nt = record {
  short = false;
  right = λ hash. bytes_eq nt hash;
  key = λ hash. md4_of hash;
}

-- ---- the rules: whether each refuses the logon, by which NTSTATUS (MS-ERREF 2.3.1), and whether the refusal counts as
-- a bad password

abbrev pub Rule : Type 0
Rule = Bool × Refusal

-- a refusal that leaves the count of bad passwords
abbrev pub plain_refusal : ℕ → Refusal
plain_refusal status = record { status = status; counts = false }

-- one that counts as a bad password
abbrev pub counting_refusal : ℕ → Refusal
counting_refusal status = record { status = status; counts = true }

abbrev pub kind_rules : Kind → List Rule
kind_rules kind =
    (is_trust kind, plain_refusal nologon_interdomain_trust_account)
    ∷ (is_workstation kind, plain_refusal nologon_workstation_trust_account)
    ∷ (is_backup kind, plain_refusal nologon_server_trust_account)
    ∷ []

-- by what is shown, and the computer that the user is at
abbrev pub rules_for : Policy → Account → Shown → List ℕ → ℕ → List Rule
rules_for policy account shown workstation now =
    kind_rules account.kind
    ++ (is_locked_out policy account, plain_refusal account_locked_out)
    ∷ (is_refused_response policy shown.short, plain_refusal wrong_password)
    ∷ (not (shown.right account.hash), counting_refusal wrong_password)
    ∷ (account.disabled, plain_refusal account_disabled)
    ∷ (has_come account.expires now, plain_refusal account_expired)
    ∷ (not (allows account.workstations workstation), plain_refusal invalid_workstation)
    ∷ (account.must_change, plain_refusal password_must_change)
    ∷ (has_come account.password_expires now, plain_refusal password_expired)
    ∷ []

-- the rules of a network logon
abbrev pub rules_of : Policy → Account → NetworkInfo → ℕ → List Rule
rules_of policy account info now = rules_for policy account (shown_by_response info) info.workstation now

-- ---- the first rule that refuses decides

abbrev pub refusal_by : Bool → Refusal → Option Refusal → Option Refusal
refusal_by true refused later = Some refused
refusal_by false refused later = later

abbrev pub first_refusal : List Rule → Option Refusal
first_refusal [] = None
first_refusal (rule ∷ rules) = refusal_by rule.0 rule.1 (first_refusal rules)

-- the refusal, or what there is where there is none
abbrev pub answer_by : {T : Type 0} → Option Refusal → T → Result T Refusal
answer_by (Some refused) value = Err refused
answer_by None value = Ok value

-- ---- the count of bad passwords afterwards

-- the count is one more, up to 65,535, where the refusal counts; 0 where nothing refuses; else as it was
abbrev pub count_after : Option Refusal → ℕ → ℕ
count_after None count = 0
count_after (Some refused) count = if refused.counts then min (count + 1) 65535 else count

-- what sets the count of the account at a place, where it becomes another one
abbrev pub change_of : ℕ → ℕ → ℕ → Option TableChange
change_of place count after = if count == after then None else Some (record { place = place; change = Count after })
