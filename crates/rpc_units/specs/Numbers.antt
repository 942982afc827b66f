-- Numbers and syntaxes of the standards that all ends of RPC share, and a limit.
use Rattle.std.specs.Prelude.{ℕ, [], ◌∷◌}
use Rattle.rpc_units.specs.declared.unit.Syntax.{Syntax}

-- the transfer syntax NDR: 8A885D04-1CEB-11C9-9FE8-08002B104860 as on the wire, version 2 (MS-RPCE 2.2.4.12)
abbrev pub ndr_syntax : Syntax
ndr_syntax = record {
  uuid =
      0x04 ∷ 0x5D ∷ 0x88 ∷ 0x8A ∷ 0xEB ∷ 0x1C ∷ 0xC9 ∷ 0x11
      ∷ 0x9F ∷ 0xE8 ∷ 0x08 ∷ 0x00 ∷ 0x2B ∷ 0x10 ∷ 0x48 ∷ 0x60 ∷ [];
  version = 2;
}

-- ---- the status of a fault (C706 appendix E; MS-ERREF 2.2)

-- the operation is out of range
abbrev pub nca_op_rng_error : ℕ
nca_op_rng_error = 0x1C010002

-- a protocol error
abbrev pub nca_proto_error : ℕ
nca_proto_error = 0x1C01000B

-- the stub isn't of its layout
abbrev pub rpc_x_bad_stub_data : ℕ
rpc_x_bad_stub_data = 0x6F7

-- access is denied
abbrev pub error_access_denied : ℕ
error_access_denied = 5

-- the server is not available: here, no controller is found (this project's own use)
abbrev pub rpc_s_server_unavailable : ℕ
rpc_s_server_unavailable = 0x6BA

-- ---- the security provider and the levels of a trailer (MS-RPCE 2.2.1.1.7 and 2.2.1.1.8)

-- NTLM (RPC_C_AUTHN_WINNT)
abbrev pub ntlm_provider : ℕ
ntlm_provider = 10

-- the bind alone proves who calls (RPC_C_AUTHN_LEVEL_CONNECT)
abbrev pub connect_level : ℕ
connect_level = 2

-- units are signed (RPC_C_AUTHN_LEVEL_PKT_INTEGRITY)
abbrev pub integrity_level : ℕ
integrity_level = 5

-- units are signed, and their stubs sealed (RPC_C_AUTHN_LEVEL_PKT_PRIVACY)
abbrev pub privacy_level : ℕ
privacy_level = 6

-- ---- a limit

-- this many contexts, of 24 bytes and more, fit into a bind of 5,840 bytes, and this many results into its answer
abbrev pub context_limit : ℕ
context_limit = 242
