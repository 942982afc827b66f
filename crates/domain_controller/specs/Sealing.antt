-- What a controller keeps that can seal, beside what it keeps of logons that it asks of others (this project's own
-- choice). Trusts are numbered from 0, in the table's order.
--
-- How sealing stands beside the rest. A controller that can't seal is the machine of `TrustStep`, and of `Step` where
-- it can ask nobody either: those definitions know nothing of seals. `SealStep` has the machine of one that can. It
-- matches first on what is kept to seal; where that is None it is `TrustStep`, word for word. Where it is Some, a unit
-- on a link that isn't sealed comes to what it comes to there, but for three things: a bind may seal the link, a
-- NetrServerAuthenticate2 may be granted secure RPC, and a call that names a computer whose channel seals is refused.
-- A request on a sealed link is opened, and what is found is heard as there; its reply is that of `Unsent`, sealed. A
-- logon from a sealed link that is asked of another controller waits there without a line, so that its answer is told
-- and goes to nobody; here it goes out sealed behind that, where its link is open and its channel stands.
use Rattle.std.specs.Prelude.{ℕ, List, [], ◌∷◌, ◌++◌, map, Option, Some, None}
use Rattle.wire_base.specs.Maps.{lookup, put, same_number, take_out}
use Rattle.controller_calls.specs.Handing.{call_without}
use Rattle.controller_calls.specs.Seals.{no_seals}
use Rattle.controller_calls.specs.declared.seals.ChannelSeals.{ChannelSeals}
use Rattle.controller_calls.specs.declared.seals.LinkSeal.{LinkSeal}
use Rattle.domain_controller.specs.Trusting.{same_place}
use Rattle.domain_controller.specs.declared.sealed.SealedCall.{SealedCall}
use Rattle.domain_controller.specs.declared.sealed.Sealing.{Sealing}

-- at first
abbrev pub no_sealing : Sealing
no_sealing = record { seals = no_seals; links = []; asked = [] }

-- sealed links by their numbers
abbrev pub seal_of_link : (number : ℕ) (sealing : Sealing) → Option LinkSeal
seal_of_link number s = lookup same_number number s.links

abbrev pub with_seals : ChannelSeals → Sealing → Sealing
with_seals seals s = record s { seals = seals }

-- where a bind sealed the link of that number
abbrev pub link_sealed : Option LinkSeal → (number : ℕ) (sealing : Sealing) → Sealing
link_sealed None number s = s
link_sealed (Some link) number s = record s { links = put same_number number link s.links }

-- a link of that number closes: it is sealed no more, and its logons have no line any more
abbrev pub entry_without : (number : ℕ) (entry : (ℕ × ℕ) × SealedCall) → (ℕ × ℕ) × SealedCall
entry_without number entry = (entry.0, record entry.1 { call = call_without number entry.1.call })

abbrev pub asked_without : (number : ℕ) (asked : List ((ℕ × ℕ) × SealedCall)) → List ((ℕ × ℕ) × SealedCall)
asked_without number asked = map (λ (entry : (ℕ × ℕ) × SealedCall). entry_without number entry) asked

abbrev pub unseal_link : (number : ℕ) (sealing : Sealing) → Sealing
unseal_link number s = record s { links = take_out same_number number s.links; asked = asked_without number s.asked }

-- a logon from a sealed link waits at that place
abbrev pub seal_asked : (place : ℕ × ℕ) (call : SealedCall) (sealing : Sealing) → Sealing
seal_asked place call s = record s { asked = s.asked ++ (place, call) ∷ [] }

abbrev pub without_asked : (place : ℕ × ℕ) (sealing : Sealing) → Sealing
without_asked place s = record s { asked = take_out same_place place s.asked }
