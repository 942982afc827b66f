-- The negotiated options of a secure channel (MS-NRPC 3.1.4.2, NegotiateFlags): a 32-bit number with a bit for each.
use Rattle.std.specs.Prelude.{ℕ, bit_and}

-- RC4 (the standard's option C)
abbrev pub rc4_flag : ℕ
rc4_flag = 0x0000_0004

-- the strong key (option O)
abbrev pub strong_key_flag : ℕ
strong_key_flag = 0x0000_4000

-- AES and SHA2 (option W)
abbrev pub aes_flag : ℕ
aes_flag = 0x0100_0000

-- secure RPC (option Y)
abbrev pub secure_rpc_flag : ℕ
secure_rpc_flag = 0x4000_0000

-- the flags that ends of this project offer and grant (this project's own choice)
abbrev pub supported_flags : ℕ
supported_flags = 0x0000_41FF

-- the flags granted of those offered, by an end that supports these
abbrev pub granted_of : ℕ → ℕ → ℕ
granted_of supported offered = bit_and offered supported
