-- Which secret the call in each unit sets, if it sets one, as the units and marks of the last state tell.
-- It serves `Proved.never_apart`.
use Rattle.std.proofs.Common.{◌≡◌, ℕ, true, List, Option, Some, None, slice_get, refl, sym, ap, subst, ◌∙◌}
use Rattle.authenticators.specs.Channels.{ChannelIdentity, channel_key}
use Rattle.authenticators.specs.SecureChannels.{SecureChannelState, key_of_channel}
use Rattle.rpc_units.specs.Calls.{IsHeard}
use Rattle.rpc_units.specs.declared.unit.Unit.{Unit as RpcUnit}
use Rattle.end_links.specs.Sending.{request_of}
use Rattle.secret_change.specs.Hiding.{show_of}
use Rattle.account_table.specs.AccountTable.{AccountTable}
use Rattle.controller_calls.specs.declared.calls.JudgedCall.{JudgedCall}
use Rattle.controller_calls.specs.declared.calls.JudgedCall.TheVariants.{Interactive, Logoff, Network, NetworkLogoff, Set}
use Rattle.channel_events.specs.Marks.{Calling, Mark, Opened, Opening, Plain, ReplyTo}
use Rattle.wire_base.proofs.ListLaws.{no_some, some_is}
use Rattle.step_notes.specs.Records.{Book, Judging, Sent}
use Rattle.world_moves.specs.declared.bag.BagUnit.{BagUnit}
use Rattle.domain_world.specs.Accepting.Carried.{IsWholeUnit, call_carried, call_judged}
use Rattle.domain_world.proofs.Acceptance.CarriedLaws.{asked_is, one_whole}
use Rattle.domain_world.proofs.Acceptance.Heard.JudgedUnitLaws.{IsCarriedCall}
use Rattle.domain_world.proofs.Acceptance.Heard.MarkSentLaws.{IsCallSent}
use Rattle.domain_world.proofs.Acceptance.Heard.MarkWholeLaws.{MarksFit, OfMark}
use Rattle.domain_world.proofs.Apart.TogetherBookLaws.{sets_by, sets_on, shown_by, shown_in, shown_on}
use Rattle.domain_world.proofs.Apart.TogetherKnownLaws.{LeadsTo}
use Rattle.domain_world.proofs.Frames.BagFrameLaws.{IsOfUnit}
use Rattle.domain_world.proofs.Moves.ComingLaws.{IsStill}
use Rattle.domain_world.proofs.Moves.MarkPlaceLaws.{got_map}
use Rattle.domain_world.proofs.Calls.CallHoldsLaws.{marks_in}

-- the secret that a call sets, shown under the key of its channel; None of a call that sets none
abbrev pub set_by : ChannelIdentity → JudgedCall → Option (List ℕ)
set_by channel (Network c) = None
set_by channel (Interactive c) = None
set_by channel (Logoff c) = None
set_by channel (NetworkLogoff c) = None
set_by channel (Set c) = Some (show_of (channel_key channel) c.hidden)

-- what the call in a unit sets, by the mark of the unit
abbrev asks_of : (n : ℕ) (bag : List BagUnit) (mark : Mark) → IsOfUnit OfMark tt bag n mark → Option (List ℕ)
asks_of n bag Plain of = None
asks_of n bag (Opening channel number) of = None
asks_of n bag (Opened channel number request) of = None
asks_of n bag (Calling channel number timestamp) of = set_by channel (of.holds (λ plain. plain)).1.stamped.asked
asks_of n bag (ReplyTo channel number request) of = None

abbrev asks_found : (n : ℕ) (bag : List BagUnit) (found : Option Sent) → ((one : Sent) → found ≡ Some one → IsOfUnit OfMark tt bag n one.mark) → Option (List ℕ)
asks_found n bag None fits = None
asks_found n bag (Some one) fits = asks_of n bag one.mark (fits one refl)

-- what each unit's call sets, where each unit is what its mark says
abbrev pub asks_in : (bag : List BagUnit) (b : Book) → MarksFit bag b → ℕ → Option (List ℕ)
asks_in bag b fits n = asks_found n bag (slice_get b.sent n) (λ one there. fits n one there)

-- ---- the secret that is asked for is what the call sets that the unit carries

pub sent_asks : (channel : ChannelIdentity) (number timestamp : ℕ) (bytes : List ℕ) (sent : IsCallSent channel number timestamp bytes) (whole : IsWholeUnit bytes) (asked : JudgedCall) →
    call_carried whole.unit.body ≡ Some (call_judged asked) → sent.stamped.asked ≡ asked
sent_asks channel number timestamp bytes sent whole asked carried =
    let request : RpcUnit = request_of number 0 sent.opnum sent.stub in
    let same : request ≡ whole.unit = one_whole bytes sent.frames whole.frames request whole.unit sent.heard whole.heard in
    asked_is sent.stamped.asked asked (sym sent.stamped.read ∙ ap (λ (u : RpcUnit). call_carried u.body) same ∙ carried)

call_asks : (n : ℕ) (bag : List BagUnit) (channel : ChannelIdentity) (number timestamp : ℕ) (of : IsOfUnit OfMark tt bag n (Calling channel number timestamp)) (unit : BagUnit) →
    slice_get bag n ≡ Some unit → (whole : IsWholeUnit unit.bytes) (asked : JudgedCall) → call_carried whole.unit.body ≡ Some (call_judged asked) →
    asks_of n bag (Calling channel number timestamp) of ≡ set_by channel asked
call_asks n bag channel number timestamp of unit there whole asked carried =
    let same : unit.bytes ≡ of.unit.bytes = ap (λ (u : BagUnit). u.bytes) (some_is unit of.unit (sym there ∙ of.there)) in
    let here : IsWholeUnit of.unit.bytes = record { frames = whole.frames; unit = whole.unit; heard = subst (λ (bytes : List ℕ). IsHeard bytes whole.frames whole.unit) same whole.heard } in
    ap (set_by channel) (sent_asks channel number timestamp of.unit.bytes (of.holds (λ plain. plain)).1 here asked carried)

mark_asks : (n : ℕ) (bag : List BagUnit) (mark : Mark) (of : IsOfUnit OfMark tt bag n mark) (unit : BagUnit) (channel : ChannelIdentity) (number timestamp : ℕ) →
    mark ≡ Calling channel number timestamp → slice_get bag n ≡ Some unit → (whole : IsWholeUnit unit.bytes) (asked : JudgedCall) → call_carried whole.unit.body ≡ Some (call_judged asked) →
    asks_of n bag mark of ≡ set_by channel asked
mark_asks n bag Plain of unit channel number timestamp is there whole asked carried = absurd (let never = is in cc)
mark_asks n bag (Opening d k) of unit channel number timestamp is there whole asked carried = absurd (let never = is in cc)
mark_asks n bag (Opened d k request) of unit channel number timestamp is there whole asked carried = absurd (let never = is in cc)
mark_asks n bag (Calling d k t) of unit channel number timestamp is there whole asked carried =
    let same : d ≡ channel = (let its = is in cc) in
    call_asks n bag d k t of unit there whole asked carried ∙ ap (λ (c : ChannelIdentity). set_by c asked) same
mark_asks n bag (ReplyTo d k request) of unit channel number timestamp is there whole asked carried = absurd (let never = is in cc)

found_asks : (n : ℕ) (bag : List BagUnit) (found : Option Sent) (fits : (one : Sent) → found ≡ Some one → IsOfUnit OfMark tt bag n one.mark) (one : Sent) (unit : BagUnit)
    (channel : ChannelIdentity) (number timestamp : ℕ) → found ≡ Some one → one.mark ≡ Calling channel number timestamp → slice_get bag n ≡ Some unit → (whole : IsWholeUnit unit.bytes)
    (asked : JudgedCall) → call_carried whole.unit.body ≡ Some (call_judged asked) → asks_found n bag found fits ≡ set_by channel asked
found_asks n bag None fits one unit channel number timestamp is mark there whole asked carried = absurd (no_some one is)
found_asks n bag (Some first) fits one unit channel number timestamp is mark there whole asked carried =
    mark_asks n bag first.mark (fits first refl) unit channel number timestamp (ap (λ (x : Sent). x.mark) (some_is first one is) ∙ mark) there whole asked carried

-- ---- of an earlier state

module _ (bag : List BagUnit) (b : Book) (fits : MarksFit bag b) (units : List BagUnit) (book : Book) (to : LeadsTo bag b units book) (n : ℕ) (channel : ChannelIdentity) (number timestamp : ℕ)
    (marked : slice_get (marks_in book.sent) n ≡ Some (Calling channel number timestamp)) where
  pub asks_led : (unit : BagUnit) → slice_get units n ≡ Some unit → (whole : IsWholeUnit unit.bytes) (asked : JudgedCall) → call_carried whole.unit.body ≡ Some (call_judged asked) →
      asks_in bag b fits n ≡ set_by channel asked
  asks_led unit there whole asked carried =
      let still : IsStill unit bag n = to.still n unit there in
      let sent = got_map (λ (one : Sent). one.mark) b.sent n (Calling channel number timestamp) (to.earlier.marks n (Calling channel number timestamp) marked) in
      let here : IsWholeUnit still.now.bytes =
      record { frames = whole.frames; unit = whole.unit; heard = subst (λ (bytes : List ℕ). IsHeard bytes whole.frames whole.unit) (sym still.bytes) whole.heard } in
      found_asks n bag (slice_get b.sent n) (λ one is. fits n one is) sent.0 still.now channel number timestamp sent.1 sent.2 still.there here asked carried

  -- of a call that is judged in it
  pub judged_asks : (j : Judging) → IsCarriedCall units j.number j.asked n → asks_in bag b fits n ≡ set_by channel j.asked
  judged_asks j call = asks_led call.carrier call.there call.whole j.asked call.carried

-- ---- which is what the controller sets

shown_so : (asked : JudgedCall) (state : SecureChannelState) (table : AccountTable) (place : ℕ) (channel : ChannelIdentity) → sets_by asked table place ≡ true →
    channel_key channel ≡ key_of_channel state → set_by channel asked ≡ Some (shown_by asked state)
shown_so (Network c) state table place channel sets same = absurd (let never = sets in cc)
shown_so (Interactive c) state table place channel sets same = absurd (let never = sets in cc)
shown_so (Logoff c) state table place channel sets same = absurd (let never = sets in cc)
shown_so (NetworkLogoff c) state table place channel sets same = absurd (let never = sets in cc)
shown_so (Set c) state table place channel sets same = ap (λ (key : List ℕ). Some (show_of key c.hidden)) same

pub shown_asked : (checks : Option SecureChannelState) (j : Judging) (place : ℕ) (channel : ChannelIdentity) → sets_on checks j place ≡ true →
    ((state : SecureChannelState) → checks ≡ Some state → channel_key channel ≡ key_of_channel state) → set_by channel j.asked ≡ Some (shown_on checks j.asked)
shown_asked None j place channel sets same = absurd (let never = sets in cc)
shown_asked (Some state) j place channel sets same = shown_so j.asked state j.table place channel sets (same state refl)

-- of a call by which a secret of the account at a place is set, on the channel of its unit's mark
pub asks_shown : (bag : List BagUnit) (b : Book) (fits : MarksFit bag b) (units : List BagUnit) (book : Book) → LeadsTo bag b units book → (n : ℕ) (channel : ChannelIdentity) (number timestamp : ℕ) →
    slice_get (marks_in book.sent) n ≡ Some (Calling channel number timestamp) → (j : Judging) (place : ℕ) → IsCarriedCall units j.number j.asked n → sets_on j.checks j place ≡ true →
    ((state : SecureChannelState) → j.checks ≡ Some state → channel_key channel ≡ key_of_channel state) → asks_in bag b fits n ≡ Some (shown_in j)
asks_shown bag b fits units book to n channel number timestamp marked j place call sets same =
    judged_asks bag b fits units book to n channel number timestamp marked j call ∙ shown_asked j.checks j place channel sets same
