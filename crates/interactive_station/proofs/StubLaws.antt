-- The stub of an interactive logon or its logoff is short enough for the hint of a request, and for one send.
use Rattle.std.proofs.Common.{◌≡◌, ◌≤◌, List, ℕ, length, Option, Some, None, Ok, arith, ap}
use Rattle.wire_base.specs.Numbers.{AreBytes}
use Rattle.ndr_codec.specs.Parts.{FitsText, IfThere, size_if_there}
use Rattle.logon_stubs.specs.Ranges.{bytes_of_text}
use Rattle.channel_client.specs.Machine.{stub_limit}
use Rattle.interactive_logon.specs.Calls.{interactive_of}
use Rattle.interactive_logon.specs.Writing.{CanWriteInteractive, written_interactive}
use Rattle.interactive_logon.specs.declared.calls.InteractiveCall.{InteractiveCall}
use Rattle.interactive_logon.proofs.GivenLaws.{interactive_of-InRange}
use Rattle.interactive_logon.proofs.WrittenLaws.{written-content}

content_if_there : (value : Option (List ℕ)) → IfThere FitsText value → size_if_there bytes_of_text value ≤ 65534
content_if_there None fits = omega arith
content_if_there (Some value) fits = omega (arith, fits)

pub interactive_short : (opnum : ℕ) (value : InteractiveCall) (stub : List ℕ) → AreBytes stub → CanWriteInteractive opnum value →
    interactive_of opnum stub ≡ Ok value → stub ≡ written_interactive opnum value → length stub ≤ stub_limit
interactive_short opnum value stub bytes can again is =
    omega (
      arith,
      ap length is,
      written-content opnum value can (interactive_of-InRange opnum stub value bytes again),
      content_if_there value.server can.parameters.server,
      content_if_there value.computer can.parameters.computer,
      can.parameters.info.domain,
      can.parameters.info.user,
      can.parameters.info.workstation,
    )
