-- Of the call and its reply: what is put is of their layouts, what is written is read, and what is read has its ranges.
use Rattle.std.proofs.Common.{◌≡◌, ℕ, ◌+◌, ◌*◌, List, length, Result, Ok, Err, IfOk, inr, sym, arith}
use Rattle.wire_base.specs.Memory.{UpToMemory}
use Rattle.wire_base.specs.Numbers.{AreBytes}
use Rattle.wire_base.specs.Units.{AreUnits}
use Rattle.wire_base.specs.declared.authenticator.Authenticator.{Authenticator}
use Rattle.wire_base.proofs.MemoryLaws.{UpToMemory-found, UpToMemory-same}
use Rattle.ndr_codec.specs.declared.refused.NdrRefused.{NdrRefused}
use Rattle.ndr_codec.specs.Layout.{short, long, raw, gap, text}
use Rattle.ndr_codec.specs.Parts.{text_size, size_if_there}
use Rattle.ndr_codec.specs.Stub.{Begins, WritesBy, item, parsed_by}
use Rattle.ndr_codec.specs.Writing.{Written, nothing}
use Rattle.ndr_codec.proofs.GivenLaws.{Gives, begins_given, gives_more}
use Rattle.ndr_codec.proofs.PartLaws.{it, then, end, of_part, within, text_law, unique_text_law, gives_unique, gives_text, IsStub, stub_of}
use Rattle.ndr_codec.proofs.StubLaws.{parsed-Is, parsed_again}
use Rattle.secret_change.specs.declared.calls.SetCall.{SetCall}
use Rattle.secret_change.specs.declared.calls.SetReply.{SetReply}
use Rattle.secret_change.specs.declared.refused.SetRefused.{SetRefused}
use Rattle.secret_change.specs.declared.refused.SetRefused.TheVariants.{Memory}
use Rattle.secret_change.specs.Calls.{Layout, set_refused, authenticator, set_call, set_reply, set_call_of, set_reply_of, CanWriteSet, put_authenticator, put_set_call, put_set_reply, written_set_call, written_set_reply}
use Rattle.secret_change.specs.Ranges.{IsAuthenticator, InRangeSetCall, InRangeSetReply}

-- ---- what is read is what the stub begins with, and the other way round

module _ {T : Type 0} (layout : Layout T) (stub : List ℕ) (are : AreBytes stub) where
  pub parsed-Begins : (value : T) → parsed_by set_refused (λ v. v) layout stub ≡ Ok value → Begins layout value stub
  parsed-Begins value e = parsed-Is set_refused (λ v. Begins layout v stub) (λ v. v) layout stub value are (λ v begins. begins) e

  pub Begins-parsed : (value : T) → Begins layout value stub → parsed_by set_refused (λ v. v) layout stub ≡ Ok value
  Begins-parsed value begins = parsed_again set_refused (λ v. v) layout stub value are begins

  -- what is read lies in front of the stub by the layout
  pub answer_found : (answer : Result T SetRefused) → UpToMemory Memory answer (parsed_by set_refused (λ v. v) layout stub) → IfOk answer (λ value. Begins layout value stub)
  answer_found answer exact = UpToMemory-found Memory answer _ (λ value. Begins layout value stub) (λ value e. parsed-Begins value e) exact

  -- what lies there by the layout is read, unless memory runs out
  pub answer_only : (answer : Result T SetRefused) → UpToMemory Memory answer (parsed_by set_refused (λ v. v) layout stub) → (value : T) → Begins layout value stub → UpToMemory Memory answer (Ok value)
  answer_only answer exact value begins = UpToMemory-same Memory answer _ _ (Begins-parsed value begins) exact

-- what is read is also what is read unless memory runs out
pub exact_answer : {T : Type 0} (answer value : Result T SetRefused) → answer ≡ value → UpToMemory Memory answer value
exact_answer (Ok x) value is = sym is
exact_answer (Err refused) value is = inr (sym is)

-- ---- what is put is of its layout

authenticator_law : (value : Authenticator) (old : Written) → IsAuthenticator value → WritesBy authenticator value 18 old (put_authenticator value old)
unfolding authenticator put_authenticator
authenticator_law value old is =
    within _ (omega (arith, is.credential.0)) (then (it gap tt old tt tt) (then (it (raw 8) value.credential _ is.credential.0 is.credential.1) (then (it long value.timestamp _ is.timestamp tt) (end _ _))))

call_law : (value : SetCall) (old : Written) → CanWriteSet value → InRangeSetCall value → WritesBy set_call value (80 + size_if_there text_size value.primary + 2 * length value.account + 2 * length value.computer) old (put_set_call value old)
unfolding set_call put_set_call
call_law value old can is =
    within _ (omega (arith, is.hidden.0))
    (then (of_part (unique_text_law value.primary old can.primary is.primary))
    (then (text_law value.account _ can.account is.account)
    (then (it short value.channel _ is.channel tt)
    (then (text_law value.computer _ can.computer is.computer)
    (then (authenticator_law value.authenticator _ is.authenticator)
    (then (it (raw 16) value.hidden _ is.hidden.0 is.hidden.1) (end _ _)))))))

reply_law : (value : SetReply) (old : Written) → InRangeSetReply value → WritesBy set_reply value 25 old (put_set_reply value old)
unfolding set_reply put_set_reply
reply_law value old is = then (authenticator_law value.returned old is.returned) (then (it long value.status _ is.status tt) (end _ _))

-- ---- whole stubs

pub call_stub : (value : SetCall) → CanWriteSet value → InRangeSetCall value → IsStub (Begins set_call value) (80 + size_if_there text_size value.primary + 2 * length value.account + 2 * length value.computer) (written_set_call value)
unfolding written_set_call
call_stub value can is = stub_of _ (λ begins. begins) (call_law value nothing can is)

pub reply_stub : (value : SetReply) → InRangeSetReply value → IsStub (Begins set_reply value) 25 (written_set_reply value)
unfolding written_set_reply
reply_stub value is = stub_of _ (λ begins. begins) (reply_law value nothing is)

-- a stub that begins with a value is read as that value
pub stub_again : {T : Type 0} (layout : Layout T) (value : T) (size : ℕ) (stub : List ℕ) → IsStub (Begins layout value) size stub → parsed_by set_refused (λ v. v) layout stub ≡ Ok value
stub_again layout value size stub s = Begins-parsed layout stub s.are_bytes value s.is

-- ---- the ranges of what is read

gives_authenticator : Gives authenticator IsAuthenticator
unfolding authenticator
gives_authenticator aligned a b credential len are timestamp fits of = record { credential = (len, are); timestamp = fits }

gives_call : Gives set_call InRangeSetCall
unfolding set_call
gives_call =
    gives_unique (item text) AreUnits _ (gives_text NdrRefused) (λ primary p. λ account a a-of. λ channel c c-of. λ computer n n-of.
    gives_more authenticator IsAuthenticator _ (λ presented q. λ hidden len are.
    record { primary = p; account = a.0; channel = c; computer = n.0; authenticator = q; hidden = (len, are) }) gives_authenticator)

gives_reply : Gives set_reply InRangeSetReply
unfolding set_reply
gives_reply = gives_more authenticator IsAuthenticator _ (λ returned r. λ status s s-of. record { returned = r; status = s }) gives_authenticator

pub call_in_range : (stub : List ℕ) (value : SetCall) → AreBytes stub → set_call_of stub ≡ Ok value → InRangeSetCall value
unfolding set_call_of
call_in_range stub value are e = begins_given set_call InRangeSetCall value stub gives_call (parsed-Begins set_call stub are value e) are

pub reply_in_range : (stub : List ℕ) (value : SetReply) → AreBytes stub → set_reply_of stub ≡ Ok value → InRangeSetReply value
unfolding set_reply_of
reply_in_range stub value are e = begins_given set_reply InRangeSetReply value stub gives_reply (parsed-Begins set_reply stub are value e) are
