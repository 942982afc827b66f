-- The memo interface as a bind names it (this project's own choice; C706 14.1).
use Rattle.std.specs.Prelude.{[], ◌∷◌}
use Rattle.rpc_units.specs.declared.unit.Syntax.{Syntax}

-- version 1 of the UUID 6E744C6F-676F-4E4D-8D65-6D6F00000001: the first three parts with the low byte first
abbrev pub memo_syntax : Syntax
memo_syntax = record {
  uuid =
      0x6F ∷ 0x4C ∷ 0x74 ∷ 0x6E ∷ 0x6F ∷ 0x67 ∷ 0x4D ∷ 0x4E
      ∷ 0x8D ∷ 0x65 ∷ 0x6D ∷ 0x6F ∷ 0x00 ∷ 0x00 ∷ 0x00 ∷ 0x01 ∷ [];
  version = 1;
}
