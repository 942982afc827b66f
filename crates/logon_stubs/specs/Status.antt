-- The NTSTATUS values that replies to Netlogon's calls carry (MS-ERREF 2.3.1).
use Rattle.std.specs.Prelude.{ℕ, List, [], ◌∷◌}

abbrev pub access_denied : ℕ
access_denied = 0xC000_0022

abbrev pub invalid_info_class : ℕ
invalid_info_class = 0xC000_0003

abbrev pub no_logon_servers : ℕ
no_logon_servers = 0xC000_005E

abbrev pub no_such_logon_session : ℕ
no_such_logon_session = 0xC000_005F

abbrev pub no_such_user : ℕ
no_such_user = 0xC000_0064

abbrev pub wrong_password : ℕ
wrong_password = 0xC000_006A

abbrev pub invalid_workstation : ℕ
invalid_workstation = 0xC000_0070

abbrev pub password_expired : ℕ
password_expired = 0xC000_0071

abbrev pub account_disabled : ℕ
account_disabled = 0xC000_0072

abbrev pub insufficient_resources : ℕ
insufficient_resources = 0xC000_009A

abbrev pub no_such_domain : ℕ
no_such_domain = 0xC000_00DF

abbrev pub no_trust_sam_account : ℕ
no_trust_sam_account = 0xC000_018B

abbrev pub account_expired : ℕ
account_expired = 0xC000_0193

abbrev pub nologon_interdomain_trust_account : ℕ
nologon_interdomain_trust_account = 0xC000_0198

abbrev pub nologon_workstation_trust_account : ℕ
nologon_workstation_trust_account = 0xC000_0199

abbrev pub nologon_server_trust_account : ℕ
nologon_server_trust_account = 0xC000_019A

abbrev pub password_must_change : ℕ
password_must_change = 0xC000_0224

abbrev pub account_locked_out : ℕ
account_locked_out = 0xC000_0234

abbrev pub downgrade_detected : ℕ
downgrade_detected = 0xC000_0388

-- all statuses that replies carry
abbrev pub statuses : List ℕ
statuses = access_denied ∷ invalid_info_class ∷ no_logon_servers ∷ no_such_logon_session ∷ no_such_user ∷ wrong_password
    ∷ invalid_workstation ∷ password_expired ∷ account_disabled ∷ insufficient_resources ∷ no_such_domain ∷ no_trust_sam_account ∷ account_expired
    ∷ nologon_interdomain_trust_account ∷ nologon_workstation_trust_account ∷ nologon_server_trust_account
    ∷ password_must_change ∷ account_locked_out ∷ downgrade_detected ∷ []
