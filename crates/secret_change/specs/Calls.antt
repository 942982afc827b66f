-- NetrServerPasswordSet, operation 6 (MS-NRPC 3.5.4.4.6), in a stub, parameter by parameter. What follows the last
-- parameter is free.
use Rattle.std.specs.Prelude.{◌≡◌, ℕ, List, Result, Ok, Err}
use Rattle.ndr_codec.specs.declared.refused.NdrRefused.{NdrRefused}
use Rattle.ndr_codec.specs.Cursor.{Cursor}
use Rattle.ndr_codec.specs.Layout.{short, long, raw, gap, text}
use Rattle.ndr_codec.specs.Parts.{FitsText, IfThere, unique_text, Putting, ◌>>◌, put_unique}
use Rattle.ndr_codec.specs.Stub.{LayoutOf, item, part, done, ◌>>=◌, reading_by, parsed_by, told_by_place}
use Rattle.ndr_codec.specs.Writing.{nothing, put}
use Rattle.wire_base.specs.declared.authenticator.Authenticator.{Authenticator}
use Rattle.secret_change.specs.declared.calls.SetCall.{SetCall}
use Rattle.secret_change.specs.declared.calls.SetReply.{SetReply}
use Rattle.secret_change.specs.declared.refused.SetRefused.{SetRefused}
use Rattle.secret_change.specs.declared.refused.SetRefused.TheVariants.{BadStub, Memory}

-- the number of the operation
abbrev pub set_opnum : ℕ
set_opnum = 6

-- each item that isn't of its layout is told by its place alone
abbrev pub set_refused : NdrRefused → SetRefused
set_refused = told_by_place (λ place. BadStub place) Memory

abbrev pub Layout : Type 0 → Type 1
Layout T = LayoutOf SetRefused T

-- ---- layouts

-- NETLOGON_AUTHENTICATOR (MS-NRPC 2.2.1.1.5): a credential and a timestamp. It has a number of 32 bits in it, so the
-- structure is aligned to 4. Here it stands without a referent, behind a text.
unfoldable pub authenticator : Layout Authenticator
authenticator = do
  aligned ← item gap
  credential ← item (raw 8)
  timestamp ← item long
  done (record { credential = credential; timestamp = timestamp })

-- the last parameter is ENCRYPTED_NT_OWF_PASSWORD (MS-NRPC 2.2.1.1.4): 16 bytes
unfoldable pub set_call : Layout SetCall
set_call = do
  primary ← part unique_text
  account ← item text
  channel ← item short
  computer ← item text
  presented ← authenticator
  hidden ← item (raw 16)
  done (record {
    primary = primary;
    account = account;
    channel = channel;
    computer = computer;
    authenticator = presented;
    hidden = hidden;
  })

unfoldable pub set_reply : Layout SetReply
set_reply = do
  returned ← authenticator
  status ← item long
  done (record { returned = returned; status = status })

-- What a reading function promises that takes no memory: its answer is what is read where the reader stood, and at Ok
-- the reader stands behind it.
abbrev pub ReadsWithoutMemory : {T : Type 0} → Layout T → Result T SetRefused → Cursor → Cursor → Type 0
ReadsWithoutMemory layout (Ok value) old new = reading_by set_refused layout old ≡ Ok (value, new)
ReadsWithoutMemory layout (Err refused) old new = reading_by set_refused layout old ≡ Err refused

-- ---- what is read of a stub: the value, or the first item that isn't of its layout

unfoldable pub set_call_of : List ℕ → Result SetCall SetRefused
set_call_of stub = parsed_by set_refused (λ value. value) set_call stub

unfoldable pub set_reply_of : List ℕ → Result SetReply SetRefused
set_reply_of stub = parsed_by set_refused (λ value. value) set_reply stub

-- ---- the written forms: the bytes of the whole stub

-- each text has at most 32,767 units
pub record CanWriteSet (value : SetCall) : Type 0 where
  pub primary : IfThere FitsText value.primary
  pub account : FitsText value.account
  pub computer : FitsText value.computer

unfoldable pub put_authenticator : Authenticator → Putting
put_authenticator value = put gap tt >> put (raw 8) value.credential >> put long value.timestamp

unfoldable pub put_set_call : SetCall → Putting
put_set_call value =
    put_unique (put text) value.primary
    >> put text value.account
    >> put short value.channel
    >> put text value.computer
    >> put_authenticator value.authenticator
    >> put (raw 16) value.hidden

unfoldable pub put_set_reply : SetReply → Putting
put_set_reply value = put_authenticator value.returned >> put long value.status

unfoldable pub written_set_call : SetCall → List ℕ
written_set_call value = (put_set_call value nothing).bytes

unfoldable pub written_set_reply : SetReply → List ℕ
written_set_reply value = (put_set_reply value nothing).bytes
