-- The types of secure channels (MS-NRPC 2.2.1.3.13, NETLOGON_SECURE_CHANNEL_TYPE): a 16-bit number, of which these are
-- used.
use Rattle.std.specs.Prelude.{ℕ}

-- WorkstationSecureChannel
abbrev pub workstation_channel : ℕ
workstation_channel = 2

-- TrustedDomainSecureChannel
abbrev pub trusted_domain_channel : ℕ
trusted_domain_channel = 4

-- ServerSecureChannel
abbrev pub backup_controller_channel : ℕ
backup_controller_channel = 6
