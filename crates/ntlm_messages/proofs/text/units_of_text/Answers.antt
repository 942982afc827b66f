use Rattle.std.proofs.Common.{inl, inr}
use Rattle.ntlm_messages.proofs.TextLaws.{text_units_read, text_units_are}
use Rattle.ntlm_messages.proofs.text.units_of_text.Goals as goal

pub unreachable-requires : goal.unreachable-requires
unreachable-requires c =
    let read = text_units_read c.args.flags c.args.text.now c.requires in
    elim c.in-Err-Odd.ensures.exact [ inl memory ↦ cc | inr refused ↦ cc ]

pub returns-in-Ok : goal.returns-in-Ok
returns-in-Ok c = text_units_are c.args.flags c.args.text.now c.in-Ok.units c.requires c.in-Ok.ensures.exact
