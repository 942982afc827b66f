-- The link of a turn of a channel that seals, and its next turn. It serves `sealed_link_hears`,
-- `next_sealed_dial` and `sealed_replies_are_opened`.
use Rattle.std.proofs.Common.{◌≡◌, ◌&&◌, ℕ, Bool, true, false, List, Option, is_ok, Result, Ok, Err, refl, sym, ap, subst, ◌∙◌}
use Rattle.outside.specs.declared.action.StepRefused.{StepRefused}
use Rattle.outside.specs.declared.action.StepRefused.TheVariants.{Memory}
use Rattle.outside.specs.Drawing.{IsRest}
use Rattle.outside.specs.Machine.{AnswersBy, left_by, then_part}
use Rattle.outside.proofs.DrawLaws.{DrawsSome-none, IsRest-refl}
use Rattle.outside.proofs.MachineLaws.{AnswersBy-refused}
use Rattle.netlogon_seal.specs.declared.refusal.NlRefused.{NlRefused}
use Rattle.channel_sealing.specs.declared.parts.SealedPart.{SealedPart}
use Rattle.channel_sealing.specs.declared.parts.SealedPart.TheVariants as part
use Rattle.channel_sealing.specs.Parts.{sealed_part_of}
use Rattle.channel_client.specs.Sealed.{unseal_of}
use Rattle.rpc_units.specs.declared.unit.Unit.{Unit as RpcUnit}
use Rattle.rpc_units.specs.Reading.{unit_of}
use Rattle.end_links.specs.Links.{LinkState}
use Rattle.end_links.specs.Serving.{HasRest, ServedPart, talk_in}
use Rattle.channel_turns.specs.declared.sealed_turns.SealedWork.{SealedWork}
use Rattle.channel_turns.specs.declared.state.TurnTalk.{TurnTalk}
use Rattle.channel_turns.specs.declared.state.Turning.{Turning}
use Rattle.channel_turns.specs.Dials.{NextTurn}
use Rattle.channel_turns.specs.Hearing.{heard_of}
use Rattle.channel_turns.specs.SealedTurns.{LostForSeal, SealedRepliesAreOpened, SealedServed, after_sealed_piece, after_sealed_units, break_seal, do_sealed_heard, is_reply, needs_seal, next_sealed_dial, next_sealed_turn, opened_unit, part_on, sealed_unit, unit_by_part, with_sealed_channel}
use Rattle.channel_turns.specs.Turning.{dial_part}
use Rattle.channel_turns.proofs.ServedLaws.{link_is}

-- ---- a response that is opened

pub is_opened : (answer : Result Unit NlRefused) (bytes : List ℕ) (joiner : Option RpcUnit) (at : SealedWork) → is_ok answer ≡ true →
    do_sealed_heard (heard_of (unit_of bytes) joiner) at ≡ opened_unit answer bytes joiner at
is_opened (Ok done) bytes joiner at is = refl
is_opened (Err why) bytes joiner at is = absurd (let x = is in cc)

pub is_refused : (answer : Result Unit NlRefused) (bytes : List ℕ) (joiner : Option RpcUnit) (at : SealedWork) → is_ok answer ≡ false →
    break_seal at ≡ opened_unit answer bytes joiner at
is_refused (Ok done) bytes joiner at is = absurd (let x = is in cc)
is_refused (Err why) bytes joiner at is = refl

pub ruleset opening = (is_opened, is_refused)

-- ---- a piece on the link

pub piece_served : (part : ServedPart SealedWork TurnTalk) (at : SealedWork) (still : Option (LinkState TurnTalk)) (rest : List ℕ) (left : List (List ℕ)) (link : ℕ) →
    part ≡ Ok (record { value = (at, talk_in still); left = left }) → HasRest still rest →
    then_part part (after_sealed_units link rest) ≡ Ok (record { value = after_sealed_piece link (at, still); left = left })
piece_served part at still rest left link is has =
    ap (λ p. then_part p (after_sealed_units link rest)) is
    ∙ ap (λ (said : Option (LinkState TurnTalk)). Ok (record { value = after_sealed_piece link (at, said); left = left })) (sym (link_is still rest has))

pub piece_refused : (why : StepRefused) (part : ServedPart SealedWork TurnTalk) (rest : List ℕ) (left : List (List ℕ)) (link : ℕ) →
    AnswersBy (Err why) part left → AnswersBy (Err why) (then_part part (after_sealed_units link rest)) left
piece_refused why part rest left link answer =
    AnswersBy-refused why part (after_sealed_units link rest) left (λ served left. IsRest-refl left) answer

pub ruleset hearing = (piece_served, piece_refused, DrawsSome-none, IsRest-refl)

-- ---- the next turn

pub next_done : (now : ℕ) (peer : List ℕ) (turning : Turning) (next : NextTurn) (before after : List (List ℕ)) →
    next_sealed_turn now turning.channel before ≡ Ok (record { value = next; left = after }) →
    next_sealed_dial now peer turning before ≡ dial_part peer turning next after
next_done now peer turning next before after is = ap (λ p. then_part p (dial_part peer turning)) is

pub next_refused : (why : StepRefused) (now : ℕ) (peer : List ℕ) (turning : Turning) (before after : List (List ℕ)) →
    AnswersBy (Err why) (next_sealed_turn now turning.channel before) after → AnswersBy (Err why) (next_sealed_dial now peer turning before) after
next_refused why now peer turning before after answer =
    AnswersBy-refused why (next_sealed_turn now turning.channel before) (dial_part peer turning) after (λ next left. IsRest-refl left) answer

-- the next turn on a channel that seals started, and no memory was found to dial
pub next_memory : (now : ℕ) (peer : List ℕ) (turning : Turning) (next : NextTurn) (before after : List (List ℕ)) →
    next_sealed_turn now turning.channel before ≡ Ok (record { value = next; left = after }) →
    AnswersBy (Err Memory) (next_sealed_dial now peer turning before) after
next_memory now peer turning next before after is =
    subst (λ p. IsRest (left_by p) after) (sym (next_done now peer turning next before after is)) (IsRest-refl after)

pub ruleset dialling = (next_done, next_refused, next_memory)

-- ---- a unit on a link that is sealed

part_is : (sealed reply : Bool) (found : SealedPart) → sealed ≡ true → reply ≡ true → part_on (sealed && reply) found ≡ found
part_is true true found is too = refl
part_is true false found is too = absurd (let x = too in cc)
part_is false reply found is too = absurd (let x = is in cc)

-- what a response comes to, by that of it which is sealed
by_part : (bytes : List ℕ) (joiner : Option RpcUnit) (at : SealedWork) (found : SealedPart) → needs_seal at ≡ true → is_reply (unit_of bytes) ≡ true →
    sealed_part_of bytes ≡ found → sealed_unit bytes joiner at ≡ unit_by_part found bytes joiner at
by_part bytes joiner at found needs reply is =
    ap (λ (p : SealedPart). unit_by_part p bytes joiner at)
    (part_is (needs_seal at) (is_reply (unit_of bytes)) (sealed_part_of bytes) needs reply ∙ is)

by_answer : (bytes : List ℕ) (joiner : Option RpcUnit) (at : SealedWork) (from to : ℕ) (answer : Result Unit NlRefused) → needs_seal at ≡ true → is_reply (unit_of bytes) ≡ true →
    sealed_part_of bytes ≡ part.Range from to → (unseal_of at.work.channel bytes from to).answer ≡ answer → sealed_unit bytes joiner at
    ≡ opened_unit answer (unseal_of at.work.channel bytes from to).unit joiner (with_sealed_channel (unseal_of at.work.channel bytes from to).state at)
by_answer bytes joiner at from to answer needs reply is told =
    by_part bytes joiner at (part.Range from to) needs reply is
    ∙ ap (λ (a : Result Unit NlRefused). opened_unit a (unseal_of at.work.channel bytes from to).unit joiner (with_sealed_channel (unseal_of at.work.channel bytes from to).state at)) told

lost : (at : SealedWork) (served : SealedServed) → served ≡ break_seal at → LostForSeal at served
lost at served is = (ap (λ (s : SealedServed). s.1) is, ap (λ (s : SealedServed). s.0.work.ended) is)

pub replies_are_opened : SealedRepliesAreOpened
replies_are_opened = record {
  missing = λ bytes joiner at needs reply is. lost at (sealed_unit bytes joiner at) (by_part bytes joiner at part.Missing needs reply is);
  refused = λ bytes joiner at from to why needs reply is told.
      lost (with_sealed_channel (unseal_of at.work.channel bytes from to).state at) (sealed_unit bytes joiner at) (by_answer bytes joiner at from to (Err why) needs reply is told);
  opened = λ bytes joiner at from to needs reply is told. by_answer bytes joiner at from to (Ok tt) needs reply is told;
  others = λ bytes joiner at none. ap (λ (opens : Bool). unit_by_part (part_on opens (sealed_part_of bytes)) bytes joiner at) none;
}
