-- Netlogon's interface as a bind names it (MS-NRPC 2.1; C706 14.1).
use Rattle.std.specs.Prelude.{[], ◌∷◌}
use Rattle.rpc_units.specs.declared.unit.Syntax.{Syntax}

-- version 1 of the UUID 12345678-1234-ABCD-EF00-01234567CFFB: the first three parts with the low byte first
abbrev pub netlogon_syntax : Syntax
netlogon_syntax = record {
  uuid =
      0x78 ∷ 0x56 ∷ 0x34 ∷ 0x12 ∷ 0x34 ∷ 0x12 ∷ 0xCD ∷ 0xAB
      ∷ 0xEF ∷ 0x00 ∷ 0x01 ∷ 0x23 ∷ 0x45 ∷ 0x67 ∷ 0xCF ∷ 0xFB ∷ [];
  version = 1;
}
