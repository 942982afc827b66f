-- The CHALLENGE that a member sends is read again as it was written, and a message that the member takes is the one
-- that it read. It serves `messages_are_taken_as_sent`.
use Rattle.std.proofs.Common.{◌≡◌, ◌==◌, ◌&&◌, ◌+◌, ◌≤◌, ◌<◌, ◌^◌, ℕ, Bool, true, false, List, [], ◌∷◌, ◌++◌, length, replicate, Option, Some, None, Result, Ok, Err, refl, sym, ap, subst, ◌∙◌, arith, length-append}
use Rattle.std.specs.Prelude.{bit_and}
use Rattle.std.specs.Int.{w32, w64, to_le_bytes}
use Rattle.std.specs.List.{AllByRecursion}
use Rattle.std.proofs.lemmas.Bool.{eq-eqb, leb-true}
use Rattle.std.proofs.lemmas.Nat.{and_le_r, or_lt}
use Rattle.std.proofs.lemmas.Option.{same_Some}
use Rattle.wire_base.specs.Maps.{lookup, put, same_number}
use Rattle.wire_base.proofs.MapLaws.{lookup-put_same}
use Rattle.ntlm_flags.specs.Flags.{agreed_flags, answered_flags, challenge_flags, target_flags}
use Rattle.ntlm_messages.specs.Authenticate.{authenticate_of}
use Rattle.ntlm_messages.specs.Challenge.{challenge_fields, challenge_of, written_challenge}
use Rattle.ntlm_messages.specs.Fields.{FieldsFit, bytes_of, field_bytes}
use Rattle.ntlm_messages.specs.Negotiate.{negotiate_of}
use Rattle.ntlm_messages.specs.Places.{challenge_size}
use Rattle.ntlm_messages.specs.declared.messages.Authenticate.{Authenticate}
use Rattle.ntlm_messages.specs.declared.messages.Challenge.{Challenge}
use Rattle.ntlm_messages.specs.declared.messages.Negotiate.{Negotiate}
use Rattle.ntlm_messages.specs.declared.refused.MessageRefused.{MessageRefused}
use Rattle.ntlm_messages.proofs.ChallengeWritten.{challenge_back}
use Rattle.ntlm_messages.proofs.TextLaws.{IsText-written}
use Rattle.rpc_units.specs.Numbers.{ntlm_provider}
use Rattle.rpc_units.specs.Writing.{pad_for, written, written_body, written_tail, zeros}
use Rattle.rpc_units.specs.declared.unit.Syntax.{Syntax}
use Rattle.rpc_units.specs.declared.unit.Trailer.{Trailer}
use Rattle.rpc_units.specs.declared.unit.Unit.{Unit as RpcUnit}
use Rattle.rpc_units.proofs.WritingLaws.{length_written}
use Rattle.member_server.specs.Binds.{ack_fits, challenge_ack, challenge_message, challenge_trailer, is_enough, offer_at, offer_by, offer_if, offer_in}
use Rattle.unit_security.specs.Levels.{is_level}
use Rattle.member_server.specs.Work.{Served}
use Rattle.member_server.specs.declared.binds.Offer.{Offer}
use Rattle.member_server.specs.declared.plan.MemberPlan.{MemberPlan}
use Rattle.member_server.specs.declared.state.AtLink.{AtLink}
use Rattle.member_server.specs.declared.state.Bound.{Bound}
use Rattle.member_server.specs.declared.state.Logon.{Logon}
use Rattle.member_server.specs.declared.state.Phase.TheVariants as phase
use Rattle.member_server.proofs.LinkView.{BoundView, Closes, Asks, Overflows, IsFitMessage, IsTakenUp, logon_at}
use Rattle.step_notes.specs.MemberNotes.{LinkAt, message_after, message_in, message_kept, message_read, trailer_value}
use Rattle.step_notes.specs.Records.{MessageTaken}

-- ---- a CHALLENGE is read again

-- the bytes are read as a CHALLENGE of that challenge and those flags
pub record IsReadAs (bytes challenge : List ℕ) (flags : ℕ) : Type 0 where
  pub came : Challenge
  pub read : challenge_of bytes ≡ Ok came
  pub same_challenge : came.challenge ≡ challenge
  pub same_flags : came.flags ≡ flags

-- what the answer to a bind makes sure of
pub record CanBeRead (plan : MemberPlan) (challenge : List ℕ) (flags : ℕ) : Type 0 where
  pub eight : length challenge ≡ 8
  pub below : flags < 2 ^ 32
  pub fit : FieldsFit (challenge_fields (challenge_message flags plan challenge))

pub read_again : (plan : MemberPlan) (challenge : List ℕ) (flags : ℕ) → CanBeRead plan challenge flags → IsReadAs (written_challenge (challenge_message flags plan challenge)) challenge flags
read_again plan challenge flags can = record {
  came = challenge_message flags plan challenge;
  read = challenge_back (challenge_message flags plan challenge)
      (record { version = λ some. absurd (let never : false ≡ true = some in cc); target = IsText-written flags plan.domain })
      can.fit
      (record { flags = can.below; challenge = can.eight; version = tt });
  same_challenge = refl;
  same_flags = refl;
}

challenge_length : (m : Challenge) → length (written_challenge (record m { version = None })) ≡ 40 + length m.challenge + length m.target + length m.info
unfolding written_challenge
challenge_length m =
    let field = field_bytes m.info (challenge_size + length (bytes_of None) + length m.target) in
    let a = m.challenge ++ to_le_bytes w64 0 in
    let b = a ++ field in
    let c = b ++ [] in
    let d = c ++ m.target in
    omega (
      arith,
      length-append m.challenge (to_le_bytes w64 0),
      length-append a field,
      length-append b [],
      length-append c m.target,
      length-append d m.info,
    )

tail_long : (count : ℕ) (t : Trailer) → length t.value ≤ length (written_tail count (Some t))
tail_long count t =
    omega (arith, length-append (zeros (pad_for count)) ((t.kind ∷ t.level ∷ pad_for count ∷ 0 ∷ []) ++ (to_le_bytes w32 t.context ++ t.value)))

unit_long : (unit : RpcUnit) (t : Trailer) → unit.trailer ≡ Some t → length t.value ≤ length (written unit)
unit_long unit t is =
    let count : ℕ = length (written_body unit.body) in
    omega (
      arith,
      length_written unit,
      length-append (written_body unit.body) (written_tail count unit.trailer),
      ap (λ (trailer : Option Trailer). length (written_tail count trailer)) is,
      tail_long count t,
    )

-- an answer that fits has a CHALLENGE whose fields fit
fields_fit : (offer : Offer) (plan : MemberPlan) (call receive : ℕ) (contexts : List (ℕ × Syntax × List Syntax)) (challenge : List ℕ) → ack_fits offer plan call receive contexts ≡ true →
    FieldsFit (challenge_fields (challenge_message offer.flags plan challenge))
fields_fit offer plan call receive contexts challenge fits =
    let zero : List ℕ = replicate 8 0 in
    let ack : RpcUnit = challenge_ack offer plan call receive contexts zero in
    let short : length (written ack) ≤ 5840 = leb-true (length (written ack)) 5840 fits in
    let long : length (challenge_trailer offer plan zero).value ≤ length (written ack) = unit_long ack (challenge_trailer offer plan zero) refl in
    let sum = challenge_length (challenge_message offer.flags plan zero) in
    (omega (arith, short, long, sum), (omega (arith, short, long, sum), tt))

-- ---- a CHALLENGE that is sent

challenge_below : (offered : ℕ) → challenge_flags offered < 2 ^ 32
challenge_below offered = or_lt 32 (bit_and offered answered_flags) target_flags (omega (arith, and_le_r offered answered_flags)) (omega arith)

abbrev pub OffersBelow : Option Offer → Type 0
OffersBelow None = Unit {0}
OffersBelow (Some offer) = offer.flags < 2 ^ 32

if_below : (enough : Bool) (trailer : Trailer) (flags : ℕ) → OffersBelow (offer_if enough trailer flags)
if_below false trailer flags = tt
if_below true trailer flags = challenge_below flags

by_below : (found : Result Negotiate MessageRefused) (trailer : Trailer) → OffersBelow (offer_by found trailer)
by_below (Err why) trailer = tt
by_below (Ok message) trailer = if_below (is_enough trailer.level message.flags) trailer message.flags

at_below : (served : Bool) (trailer : Trailer) → OffersBelow (offer_at served trailer)
at_below false trailer = tt
at_below true trailer = by_below (negotiate_of trailer.value) trailer

in_below : (trailer : Option Trailer) → OffersBelow (offer_in trailer)
in_below None = tt
in_below (Some trailer) = at_below ((trailer.kind == ntlm_provider) && is_level trailer.level) trailer

-- a bind that is taken up is answered with a CHALLENGE that can be read
pub taken_reads : (bytes : List ℕ) (plan : MemberPlan) (offer : Offer) (call receive : ℕ) (contexts : List (ℕ × Syntax × List Syntax)) (challenge : List ℕ) →
    IsTakenUp bytes plan offer call receive contexts → length challenge ≡ 8 → CanBeRead plan challenge offer.flags
taken_reads bytes plan offer call receive contexts challenge taken eight = record {
  eight = eight;
  below = subst OffersBelow taken.offers (in_below taken.unit.trailer);
  fit = fields_fit offer plan call receive contexts challenge taken.fits;
}

-- ---- a message that is taken

-- The logon keeps the message that was read of the bytes, a challenge and flags that are such, and what both agree on.
pub record IsTakenWith (Sent : List ℕ → ℕ → Type 0) (bytes : List ℕ) (logon : Logon) : Type 0 where
  pub read : authenticate_of bytes ≡ Ok logon.message
  pub flags : ℕ
  pub sent : Sent logon.challenge flags
  pub agreed : logon.agreed ≡ agreed_flags flags logon.message.flags

abbrev pub AreTakenWith : (List ℕ → ℕ → Type 0) → List MessageTaken → Type 0
AreTakenWith Sent messages = AllByRecursion (λ (one : MessageTaken). IsTakenWith Sent one.bytes one.logon) messages

module _ (Sent : List ℕ → ℕ → Type 0) (w : LinkAt) (bytes : List ℕ) where
  kept_with : (found : Option Logon) (place : ℕ) (logon : Logon) → found ≡ Some logon → IsTakenWith Sent (message_in bytes) logon → AreTakenWith Sent (message_kept found place w bytes)
  kept_with None place logon is its = tt
  kept_with (Some other) place logon is its = (subst (λ (l : Logon). IsTakenWith Sent (message_in bytes) l) (sym (same_Some other logon is)) its, tt)

  -- what is written down of what a unit comes to
  abbrev pub TakesWith : Served → Type 0
  TakesWith served = AreTakenWith Sent (message_after served.1 (Some served.0) w bytes)

  message_read_of : {bound : Bound} {flags : ℕ} {message : Authenticate} → IsFitMessage bytes bound flags message → authenticate_of (message_in bytes) ≡ Ok message
  message_read_of fit = ap authenticate_of (ap message_read fit.unit_read ∙ ap trailer_value fit.carries) ∙ fit.message_read

  pub view_with : {joiner : Option RpcUnit} (at : AtLink) {bound : Bound} {challenge : List ℕ} {flags : ℕ} {served : Served} →
      BoundView bytes joiner at (phase.Challenged bound challenge flags) served → Sent challenge flags → TakesWith served
  view_with at (Closes cause may) sent = tt
  view_with at (Asks {challenge = challenge} {flags = flags} message place fit is) sent =
      let logon : Logon = logon_at at challenge flags message in
      kept_with (lookup same_number place (put same_number place logon at.logons.asked)) place logon (lookup-put_same same_number place logon at.logons.asked (eq-eqb place place refl))
      (record { read = message_read_of fit; flags = flags; sent = sent; agreed = refl })
  view_with at (Overflows message fit is) sent = tt
